-- A terminal takes a message about a TEI: an assignment, a check request or an Identity remove.
use Rattle.std.proofs.Common.{◌≡◌, ℕ, ◌==◌, ◌&&◌, not, List, [], ◌∷◌, ◌++◌, Bool, true, false, if◌then◌else◌, ◌<◌, Option, Some, None, refl, sym, ap, subst, ◌∙◌, arith}
use Rattle.std.specs.Prelude.{filter, ◌||◌}
use Rattle.std.specs.List.{list_any, filter_map}
use Rattle.std.proofs.lemmas.Bool.Decides.{nat_tests}
use Rattle.std.proofs.lemmas.List.Elements.{filter_map-append}
use Rattle.lapd_timers.specs.declared.timer.Timer.TheVariants.{T202}
use Rattle.lapd_frame.specs.declared.Side.TheVariants as side
use Rattle.lapd_frame.specs.Reading.{frame_at}
use Rattle.lapd_tei.specs.declared.kind.TeiKind.{TeiKind}
use Rattle.lapd_tei.specs.declared.kind.TeiKind.TheVariants as kind
use Rattle.lapd_tei.specs.declared.message.TeiMessage.{TeiMessage}
use Rattle.lapd_tei.specs.declared.out.TeiOut.TheVariants.{Send, Stop, Got, Gone}
use Rattle.lapd_tei.specs.declared.phase.Phase.{Phase}
use Rattle.lapd_tei.specs.declared.phase.Phase.TheVariants.{Unassigned, Awaiting, Assigned}
use Rattle.lapd_tei.specs.declared.phase.Purpose.{Purpose}
use Rattle.lapd_tei.specs.declared.terminal.TerminalEvent.TheVariants as event
use Rattle.lapd_tei.specs.Message.{group_tei, kind_number, permits}
use Rattle.lapd_tei.specs.Out.{sent, check_response}
use Rattle.lapd_tei.specs.Terminal.{TerminalStep, is_automatic, names, is_got_by, moves_to, awaiting_receives, assigned_receives, terminal_step, tei_of, reference_of}
use Rattle.lapd_sides_links.specs.declared.config.Config.{Config}
use Rattle.lapd_sides_links.specs.Effects.{message_sent}
use Rattle.lapd_sides_links.specs.Links.{Reaction}
use Rattle.lapd_sides.specs.Management.{manages}
use Rattle.lapd_sides.specs.SideState.{takes}
use Rattle.lapd_sides.specs.User.{User, user_rules, next_reference, pending_after, terminal_acts}
use Rattle.lapd_side_events.specs.Interface.{user_behaviour}
use Rattle.lapd_side_events.specs.SideView.{takes_first}
use Rattle.lapd_two_side_laws.proofs.ReportsNoTei.{pending_aside}
use Rattle.lapd_two_side_laws.proofs.Requests.{stepped_by}
use Rattle.lapd_bus_laws.specs.Healing.{message_in, is_about}
use Rattle.lapd_bus_laws.proofs.Carried.{permitted, sent_messages, receives_message, FirstIsLast}

-- ---- A step of the terminal.

some_equal : (x y : ℕ) → Some x ≡ Some y → x ≡ y
some_equal x y h = cc

equal_of : (x y : ℕ) → (x == y) ≡ true → x ≡ y
equal_of x y h = grind (arith, nat_tests, h)

equal_to : (x y : ℕ) → x ≡ y → (x == y) ≡ true
equal_to x y h = grind (arith, nat_tests, h)

or_first : (a b : Bool) → a ≡ true → (a || b) ≡ true
or_first true b h = refl
or_first false b h = cc

module _ (tei : ℕ) where
  abbrev IsKind : TeiKind → TeiKind → ℕ → Type 0
  IsKind its k ai = ((kind_number k == kind_number its) && (ai == tei)) ≡ true

  abbrev Messages : TerminalStep → List TeiMessage
  Messages step = filter permitted (sent step.outs)

  -- ---- An assignment: the terminal holds the TEI then only by its reference.

  abbrev HoldsBy : ℕ → Phase → Type 0
  HoldsBy ri phase = tei_of phase ≡ Some tei → reference_of phase ≡ Some ri

  awaiting_takes : (purpose : Purpose) (count own : ℕ) (k : TeiKind) (its ai ri : ℕ)
      → IsKind kind.Assigned k ai → its ≡ ri
      → HoldsBy ri (awaiting_receives purpose count own k its ai).now
  awaiting_takes purpose count own kind.Assigned its ai ri is same =
      by ((its == own) && is_automatic ai) refl
    where
      first : (a b : Bool) → (a && b) ≡ true → a ≡ true
      first true b h = refl
      first false b h = cc

      by : (test : Bool) → ((its == own) && is_automatic ai) ≡ test
          → HoldsBy ri (if test then moves_to (Assigned (Some own) ai) (Stop T202 ∷ Got ai ∷ [])
          else moves_to (Awaiting purpose count own) []).now
      by true e = λ h. (let its_own : its ≡ own = equal_of its own
          (first (its == own) (is_automatic ai) e) in ap Some (sym its_own ∙ same))
      by false e = λ h. cc
  awaiting_takes purpose count own kind.Request its ai ri is same = λ h. cc
  awaiting_takes purpose count own kind.Denied its ai ri is same = λ h. cc
  awaiting_takes purpose count own kind.CheckRequest its ai ri is same = λ h. cc
  awaiting_takes purpose count own kind.CheckResponse its ai ri is same = λ h. cc
  awaiting_takes purpose count own kind.Remove its ai ri is same = λ h. cc
  awaiting_takes purpose count own kind.Verify its ai ri is same = λ h. cc

  got_so : (by : Option ℕ) (ri : ℕ) → is_got_by by ri ≡ true → by ≡ Some ri
  got_so None ri h = cc
  got_so (Some own) ri h = ap Some (equal_of own ri h)

  assigned_takes : (by : Option ℕ) (own : ℕ) (k : TeiKind) (its ai new ri : ℕ)
      → IsKind kind.Assigned k ai → its ≡ ri
      → HoldsBy ri (assigned_receives by own k its ai new).now
  assigned_takes by own kind.Assigned its ai new ri is same =
      go ((ai == own) && not (is_got_by by its)) refl
    where
      kept : (a b : Bool) → a ≡ true → (a && not b) ≡ false → b ≡ true
      kept true true here h = refl
      kept true false here h = cc
      kept false b here h = cc

      go : (test : Bool) → ((ai == own) && not (is_got_by by its)) ≡ test
          → HoldsBy ri (if test then moves_to Unassigned (Gone own ∷ [])
          else moves_to (Assigned by own) []).now
      go true e = λ h. cc
      go false e = λ h. (let here : (ai == own) ≡ true = equal_to ai own
          (equal_of ai tei is ∙ sym (some_equal own tei h)) in
          got_so by its (kept (ai == own) (is_got_by by its) here e) ∙ ap Some same)
  assigned_takes by own kind.Request its ai new ri is same = λ h. cc
  assigned_takes by own kind.Denied its ai new ri is same = λ h. cc
  assigned_takes by own kind.CheckRequest its ai new ri is same = λ h. cc
  assigned_takes by own kind.CheckResponse its ai new ri is same = λ h. cc
  assigned_takes by own kind.Remove its ai new ri is same = λ h. cc
  assigned_takes by own kind.Verify its ai new ri is same = λ h. cc

  pub takes_assignment : (phase : Phase) (m : TeiMessage) (new ri : ℕ)
      → is_about kind.Assigned tei m ≡ true → m.ri ≡ ri
      → HoldsBy ri (terminal_step phase (event.Heard m new)).now
  takes_assignment Unassigned m new ri is same = λ h. cc
  takes_assignment (Awaiting purpose count own) m new ri is same =
      awaiting_takes purpose count own m.kind m.ri m.ai ri is same
  takes_assignment (Assigned by own) m new ri is same =
      assigned_takes by own m.kind m.ri m.ai new ri is same

  -- ---- An Identity remove: the terminal does not hold the TEI then.

  awaiting_removed : (purpose : Purpose) (count own : ℕ) (k : TeiKind) (its ai : ℕ)
      → IsKind kind.Remove k ai
      → tei_of (awaiting_receives purpose count own k its ai).now ≡ Some tei → ⊥
  awaiting_removed purpose count own kind.Remove its ai is h = cc
  awaiting_removed purpose count own kind.Assigned its ai is h = cc
  awaiting_removed purpose count own kind.Request its ai is h = cc
  awaiting_removed purpose count own kind.Denied its ai is h = cc
  awaiting_removed purpose count own kind.CheckRequest its ai is h = cc
  awaiting_removed purpose count own kind.CheckResponse its ai is h = cc
  awaiting_removed purpose count own kind.Verify its ai is h = cc

  -- the message names the terminal's own TEI
  named : (own ai : ℕ) → (ai == tei) ≡ true → own ≡ tei → names ai own ≡ true
  named own ai is same = or_first (ai == own) (ai == group_tei)
      (equal_to ai own (equal_of ai tei is ∙ sym same))

  assigned_removed : (by : Option ℕ) (own : ℕ) (k : TeiKind) (its ai new : ℕ)
      → IsKind kind.Remove k ai → tei_of (assigned_receives by own k its ai new).now ≡ Some tei
      → ⊥
  assigned_removed by own kind.Remove its ai new is held = go (names ai own) refl held
    where
      go : (test : Bool) → names ai own ≡ test
          → tei_of (if test then moves_to Unassigned (Gone own ∷ [])
          else moves_to (Assigned by own) []).now ≡ Some tei → ⊥
      go true e h = cc
      go false e h = (let yes = named own ai is (some_equal own tei h) in cc)
  assigned_removed by own kind.Assigned its ai new is h = cc
  assigned_removed by own kind.Request its ai new is h = cc
  assigned_removed by own kind.Denied its ai new is h = cc
  assigned_removed by own kind.CheckRequest its ai new is h = cc
  assigned_removed by own kind.CheckResponse its ai new is h = cc
  assigned_removed by own kind.Verify its ai new is h = cc

  pub takes_removal : (phase : Phase) (m : TeiMessage) (new : ℕ) → is_about kind.Remove tei m ≡ true
      → tei_of (terminal_step phase (event.Heard m new)).now ≡ Some tei → ⊥
  takes_removal Unassigned m new is h = cc
  takes_removal (Awaiting purpose count own) m new is h =
      awaiting_removed purpose count own m.kind m.ri m.ai is h
  takes_removal (Assigned by own) m new is h =
      assigned_removed by own m.kind m.ri m.ai new is h

  -- ---- A check request: a terminal that holds the TEI then sends a response.

  abbrev Responds : TerminalStep → Type 0
  Responds step = tei_of step.now ≡ Some tei
      → list_any (is_about kind.CheckResponse tei) (Messages step) ≡ true

  module _ (low : tei < 127) where
    not_group : (tei == group_tei) ≡ false
    not_group = by (tei == group_tei) refl
      where
        by : (test : Bool) → (tei == group_tei) ≡ test → (tei == group_tei) ≡ false
        by true e = (let same : tei ≡ 127 = equal_of tei group_tei e in
            absurd (omega (arith, same, low)))
        by false e = e

    response_sent : (own new : ℕ) → own ≡ tei
        → list_any (is_about kind.CheckResponse tei)
        (filter permitted (check_response new own ∷ []))
        ≡ true
    response_sent own new same = by (permits kind.CheckResponse own) permitted_so
      where
        permitted_so : permits kind.CheckResponse own ≡ true
        permitted_so = ap (λ (n : ℕ). not (n == group_tei)) same ∙ ap not not_group

        by : (test : Bool) → test ≡ true → list_any (is_about kind.CheckResponse tei)
            (if test then check_response new own ∷ [] else []) ≡ true
        by true e = or_first (own == tei) false (equal_to own tei same)
        by false e = cc

    awaiting_asked : (purpose : Purpose) (count own : ℕ) (k : TeiKind) (its ai : ℕ)
        → IsKind kind.CheckRequest k ai → Responds (awaiting_receives purpose count own k its ai)
    awaiting_asked purpose count own kind.CheckRequest its ai is = λ h. cc
    awaiting_asked purpose count own kind.Assigned its ai is = λ h. cc
    awaiting_asked purpose count own kind.Request its ai is = λ h. cc
    awaiting_asked purpose count own kind.Denied its ai is = λ h. cc
    awaiting_asked purpose count own kind.CheckResponse its ai is = λ h. cc
    awaiting_asked purpose count own kind.Remove its ai is = λ h. cc
    awaiting_asked purpose count own kind.Verify its ai is = λ h. cc

    assigned_asked : (by : Option ℕ) (own : ℕ) (k : TeiKind) (its ai new : ℕ)
        → IsKind kind.CheckRequest k ai → Responds (assigned_receives by own k its ai new)
    assigned_asked by own kind.CheckRequest its ai new is = go (names ai own) refl
      where
        go : (test : Bool) → names ai own ≡ test
            → Responds (if test then moves_to (Assigned by own) (Send (check_response new own) ∷ [])
            else moves_to (Assigned by own) [])
        go true e = λ h. response_sent own new (some_equal own tei h)
        go false e = λ h. (let yes = named own ai is (some_equal own tei h) in cc)
    assigned_asked by own kind.Assigned its ai new is = λ h. cc
    assigned_asked by own kind.Request its ai new is = λ h. cc
    assigned_asked by own kind.Denied its ai new is = λ h. cc
    assigned_asked by own kind.CheckResponse its ai new is = λ h. cc
    assigned_asked by own kind.Remove its ai new is = λ h. cc
    assigned_asked by own kind.Verify its ai new is = λ h. cc

    pub takes_request : (phase : Phase) (m : TeiMessage) (new : ℕ)
        → is_about kind.CheckRequest tei m ≡ true
        → Responds (terminal_step phase (event.Heard m new))
    takes_request Unassigned m new is = λ h. cc
    takes_request (Awaiting purpose count own) m new is =
        awaiting_asked purpose count own m.kind m.ri m.ai is
    takes_request (Assigned by own) m new is =
        assigned_asked by own m.kind m.ri m.ai new is

-- ---- A user side.

-- the side took a message that passes this test
pub record Received (p : TeiMessage → Bool) (s : User) (a : Reaction User) : Type 0 where
  pub message : TeiMessage
  pub reference : ℕ
  pub passes : p message ≡ true
  pub phase : a.after.management.terminal
      ≡ (terminal_step s.management.terminal (event.Heard message reference)).now
  pub more : List (List ℕ)
  pub frames : a.effects.frames
      ≡ filter_map (message_sent side.User)
      (terminal_step s.management.terminal (event.Heard message reference)).outs ++ more

module _ (config : Config) (now : ℕ) (s : User) where
  acted : (p : TeiMessage → Bool) (m : TeiMessage) → p m ≡ true
      → Received p s (terminal_acts config now (event.Heard m) s)
  unfolding terminal_acts manages
  acted p m passes =
      let ri = next_reference s.management.random in
      let done = terminal_step s.management.terminal (event.Heard m ri) in
      let middle = (stepped_by config now done s).after in
      record {
        message = m;
        reference = ri;
        passes = passes;
        phase = (pending_aside now done.outs middle).terminal;
        more = (pending_after now done.outs middle).effects.frames;
        frames = refl;
      }

  taken : (p : TeiMessage → Bool) (octets : List ℕ) (m : TeiMessage)
      → message_in side.Network octets ≡ Some m → p m ≡ true
      → Received p s (takes user_rules config octets now s)
  unfolding takes
  taken p octets m is passes = subst (λ (a : Reaction User). Received p s a)
      (sym (receives_message user_rules config now (frame_at side.Network octets) m s is))
      (acted p m passes)

  pub first_taken : (p q : TeiMessage → Bool) (line : List (List ℕ))
      → FirstIsLast p q side.Network line
      → Received p s (takes_first (user_behaviour config) now line s)
  first_taken p q [] none = absurd none
  first_taken p q (octets ∷ rest) (m, is, passes, behind) = taken p octets m is passes

-- its messages are in transit then
pub sent_on : (s : User) (a : Reaction User) (p q : TeiMessage → Bool) (h : Received p s a)
    (line : List (List ℕ))
    → list_any q (filter permitted (sent (terminal_step s.management.terminal
    (event.Heard h.message h.reference)).outs)) ≡ true
    → list_any q (filter_map (message_in side.User) (line ++ a.effects.frames)) ≡ true
sent_on s a p q h line sends = rw h.frames by_parts
  where
    by_parts : list_any q (filter_map (message_in side.User)
        (line ++ (filter_map (message_sent side.User)
        (terminal_step s.management.terminal (event.Heard h.message h.reference)).outs ++ h.more)))
        ≡ true
    by_parts = rw (
      filter_map-append (message_in side.User) line (filter_map (message_sent side.User)
          (terminal_step s.management.terminal (event.Heard h.message h.reference)).outs ++ h.more),
      filter_map-append (message_in side.User) (filter_map (message_sent side.User)
          (terminal_step s.management.terminal (event.Heard h.message h.reference)).outs) h.more,
      sent_messages side.User
          (terminal_step s.management.terminal (event.Heard h.message h.reference)).outs,
    ) (any_part (filter_map (message_in side.User) line) _
        (filter_map (message_in side.User) h.more) sends)
      where
        any_part : (xs ys zs : List TeiMessage) → list_any q ys ≡ true
            → list_any q (xs ++ (ys ++ zs)) ≡ true
        any_part [] [] zs is = cc
        any_part [] (y ∷ ys) zs is = by (q y) (list_any q ys) is (λ rest. any_part [] ys zs rest)
          where
            by : (a b : Bool) → (a || b) ≡ true → (b ≡ true → list_any q (ys ++ zs) ≡ true)
                → (a || list_any q (ys ++ zs)) ≡ true
            by true b is more = refl
            by false b is more = more is
        any_part (x ∷ xs) ys zs is = or_second (q x) (any_part xs ys zs is)
          where
            or_second : (a : Bool) → {b : Bool} → b ≡ true → (a || b) ≡ true
            or_second true h = refl
            or_second false h = h
