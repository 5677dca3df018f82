-- Each event while a terminal awaits a TEI for a kept establishment, and any list of them.
use Rattle.std.proofs.Common.{◌≡◌, ◌-◌, inl, inr, ℕ, ◌+◌, ◌<◌, ◌==◌, ◌&&◌, nat_lt, Bool, true, false, if◌then◌else◌, [], ◌∷◌, Some, None, Ok, Err, refl, sym, subst, ◌∙◌, arith}
use Rattle.std.specs.List.{list_any}
use Rattle.lapd_timers.specs.declared.timer.Timer.{Timer}
use Rattle.lapd_timers.specs.declared.timer.Timer.TheVariants.{T200, T201, T202, T203}
use Rattle.lapd_frame.specs.declared.Sapi.{Sapi}
use Rattle.lapd_frame.specs.declared.Sapi.TheVariants as sapi
use Rattle.lapd_frame.specs.Address.{sapi_value}
use Rattle.lapd_tei.specs.declared.kind.TeiKind.{TeiKind}
use Rattle.lapd_tei.specs.declared.kind.TeiKind.TheVariants as kind
use Rattle.lapd_tei.specs.declared.message.TeiMessage.{TeiMessage}
use Rattle.lapd_tei.specs.declared.out.TeiOut.TheVariants as outcome
use Rattle.lapd_tei.specs.declared.phase.Phase.TheVariants.{Unassigned, Awaiting, Assigned}
use Rattle.lapd_tei.specs.declared.phase.Purpose.TheVariants as reason
use Rattle.lapd_tei.specs.declared.terminal.TerminalEvent.TheVariants as event
use Rattle.lapd_tei.specs.Out.{request}
use Rattle.lapd_tei.specs.Terminal.{moves_to, n202, is_automatic, awaiting_receives, terminal_step, tei_of}
use Rattle.lapd_table.specs.declared.link_id.LinkId.{LinkId}
use Rattle.lapd_sides_links.specs.declared.config.Config.{Config}
use Rattle.lapd_sides_links.specs.declared.primitive.What.TheVariants as what
use Rattle.lapd_sides_links.specs.declared.side_fault.SideKind.TheVariants.{NoLink}
use Rattle.lapd_sides_links.specs.Effects.{no_effects, stopped}
use Rattle.lapd_sides_links.specs.Links.{Reaction, is_served}
use Rattle.lapd_frame.specs.declared.Side.TheVariants as side
use Rattle.lapd_sides.specs.declared.request.Request.{Request}
use Rattle.lapd_sides.specs.SideState.{primitive_of_group, with_stopped}
use Rattle.lapd_sides.specs.User.{User, TerminalState, PendingEstablishments, user_rules, with_kept, is_pending, with_pending, next_reference, assigned, terminal_acts, has_tei}
use Rattle.lapd_two_side_laws.specs.Answers.{answers_for}
use Rattle.lapd_two_side_laws.specs.EndAnswers.{Asked, Establishment, Withdrawal, Clearing, may_release}
use Rattle.lapd_side_events.specs.SideView.{may_expire}
use Rattle.lapd_two_side_laws.specs.Answers.{requests_release}
use Rattle.lapd_side_events.specs.SideView.{Ask}
use Rattle.lapd_two_side_laws.proofs.Requests.{HoldsOfTerminal, UserIfOk, forgotten_by, user_asked}
use Rattle.lapd_two_side_laws.proofs.WaitingUser.{Establishes, IsReady, Goes, GoesWith, Acts, awaits, again, fails, obtains}
use Rattle.lapd_two_side_laws.proofs.Reactions.{AnyInput, HoldsOfEvents, HoldsOfLinks, Law, each_request, if_either}

-- ---- Kept establishments of either SAPI.

kept_with : (at other : Sapi) (pending : PendingEstablishments) → is_pending at pending ≡ true
    → is_pending at (with_pending other true pending) ≡ true
kept_with sapi.Call sapi.Call pending h = refl
kept_with sapi.Call sapi.Packet pending h = h
kept_with sapi.Call sapi.Management pending h = h
kept_with sapi.Packet sapi.Call pending h = h
kept_with sapi.Packet sapi.Packet pending h = refl
kept_with sapi.Packet sapi.Management pending h = h
kept_with sapi.Management other pending h = cc

kept_without : (at other : Sapi) (pending : PendingEstablishments)
    → (sapi_value at == sapi_value other) ≡ false → is_pending at pending ≡ true
    → is_pending at (with_pending other false pending) ≡ true
kept_without sapi.Call sapi.Call pending apart h = cc
kept_without sapi.Call sapi.Packet pending apart h = h
kept_without sapi.Call sapi.Management pending apart h = h
kept_without sapi.Packet sapi.Call pending apart h = h
kept_without sapi.Packet sapi.Packet pending apart h = cc
kept_without sapi.Packet sapi.Management pending apart h = h
kept_without sapi.Management other pending apart h = cc

confirm_answers : (asked : Asked) (at other : Sapi) → Establishes asked → may_release asked ≡ true
    → (sapi_value at == sapi_value other) ≡ true
    → list_any (answers_for asked at) (primitive_of_group other what.ReleaseConfirm) ≡ true
confirm_answers Establishment at other is may same = cc
confirm_answers Withdrawal at other is may same = rw same refl
confirm_answers Clearing at other is may same = absurd is

permitted : (asked : Asked) (test : Bool) → (may_release asked ≡ false → test ≡ false)
    → test ≡ true → may_release asked ≡ true
permitted Establishment test keeps is = let no : test ≡ false = keeps refl in cc
permitted Withdrawal test keeps is = refl
permitted Clearing test keeps is = refl

not_both : false ≡ true → ⊥
not_both e = cc

below : (a b : ℕ) → nat_lt a b ≡ true → a < b
below a b h = grind (arith, h)

if_tested : {X : Type 0} (P : X → Type 0) (test : Bool) (a b : X) → (test ≡ true → P a)
    → (test ≡ false → P b) → P (if test then a else b)
if_tested P true a b first second = first refl
if_tested P false a b first second = second refl

module _ (config : Config) (id : LinkId) (asked : Asked) (clock : Bool) (lateness limit : ℕ)
    (is : Establishes asked) (m now : ℕ) where
  abbrev Ready : User → Type 0
  Ready s = IsReady config id asked clock lateness limit m now s

  abbrev Next : Reaction User → Type 0
  Next a = Goes config id asked clock lateness limit m now a

  abbrev pub NextWith : ℕ → Reaction User → Type 0
  NextWith less a = GoesWith config id asked clock lateness limit m now less a

  message_goes : (k : TeiKind) (its ai : ℕ) (s : User) (h : Ready s)
      → Next (Acts config id asked clock lateness limit m now
      (awaiting_receives h.waits.purpose h.waits.count h.waits.ri k its ai) s)
  message_goes kind.Assigned its ai s h =
      let w = h.waits in
      if_either (λ step. Next (Acts config id asked clock lateness limit m now step s))
      ((its == w.ri) && is_automatic ai)
      (moves_to (Assigned (Some w.ri) ai) (outcome.Stop T202 ∷ outcome.Got ai ∷ []))
      (moves_to (Awaiting w.purpose w.count w.ri) [])
      (obtains config id asked clock lateness limit m now ai (Some w.ri) s is w h.no_links)
      (awaits config id asked clock lateness limit m now w.purpose s w)
  message_goes kind.Request its ai s h = awaits config id asked clock lateness limit m now
      h.waits.purpose s h.waits
  message_goes kind.Denied its ai s h = awaits config id asked clock lateness limit m now
      h.waits.purpose s h.waits
  message_goes kind.CheckRequest its ai s h =
      awaits config id asked clock lateness limit m now h.waits.purpose s h.waits
  message_goes kind.CheckResponse its ai s h =
      awaits config id asked clock lateness limit m now h.waits.purpose s h.waits
  message_goes kind.Remove its ai s h = awaits config id asked clock lateness limit m now
      h.waits.purpose s h.waits
  message_goes kind.Verify its ai s h = awaits config id asked clock lateness limit m now
      h.waits.purpose s h.waits

  hears : (m : TeiMessage) (s : User) → Ready s
      → Next (terminal_acts config now (event.Heard m) s)
  unfolding terminal_acts
  hears m s h =
      subst (λ phase. Next (assigned config now
      (terminal_step phase (event.Heard m (next_reference s.management.random)))
      s)) (sym h.waits.phase)
      (message_goes m.kind m.ri m.ai s h)

  asks : (s : User) → Ready s → Next (terminal_acts config now event.Ask s)
  unfolding terminal_acts
  asks s h =
      subst (λ phase. Next (assigned config now
      (terminal_step phase (event.Ask (next_reference s.management.random))) s)) (sym h.waits.phase)
      (awaits config id asked clock lateness limit m now h.waits.purpose s h.waits)

  wanting : (other : Sapi) (s : User) → Ready s
      → Next (terminal_acts config now event.Want
      (record s {
        management = record s.management
            { pending = with_pending other true s.management.pending };
      }))
  unfolding terminal_acts
  wanting other s h =
      let w = h.waits in
      let more : User =
      record s {
        management = record s.management
            { pending = with_pending other true s.management.pending };
      } in
      subst (λ phase. Next (assigned config now
      (terminal_step phase (event.Want (next_reference s.management.random))) more)) (sym w.phase)
      (awaits config id asked clock lateness limit m now reason.Establishment more (record {
        purpose = w.purpose;
        count = w.count;
        ri = w.ri;
        phase = w.phase;
        kept = kept_with id.sapi other s.management.pending w.kept;
        served = w.served;
        durations = w.durations;
        deadline = w.deadline;
        runs = w.runs;
        few = w.few;
        in_time = w.in_time;
      }))

  leaving : (tei : ℕ) (s : User) → has_tei tei (tei_of s.management.terminal) ≡ true → Ready s → ⊥
  leaving tei s has h =
      not_both (subst (λ phase. has_tei tei (tei_of phase) ≡ true) h.waits.phase has)

  -- T202 expires
  pub expired : (s : User) → Ready s
      → NextWith (m - 1) (terminal_acts config now event.T202 (with_stopped T202 s))
  unfolding terminal_acts
  expired s h =
      let w = h.waits in
      let off : User = record s {
        served = record { links = s.served.links; timers = stopped T202 s.served.timers };
      } in
      subst (λ phase. NextWith (m - 1) (assigned config now
      (terminal_step phase (event.T202 (next_reference s.management.random))) off)) (sym w.phase)
      (if_tested
      (λ step. NextWith (m - 1) (Acts config id asked clock lateness limit m now step off))
      (nat_lt w.count n202)
      (moves_to (Awaiting w.purpose (w.count + 1) (next_reference s.management.random))
      (outcome.Send (request (next_reference s.management.random)) ∷ outcome.Start T202 ∷ []))
      (moves_to Unassigned (outcome.Failed ∷ []))
      (λ more. again config id asked clock lateness limit m now (next_reference s.management.random)
      s w (below w.count n202 more))
      (λ last. fails config id asked clock lateness limit m now off is w.kept))

  fewer : (a : Reaction User) → NextWith (m - 1) a → Next a
  fewer a (inl h) = inl h
  fewer a (inr (inr b)) = inr (inr b)
  fewer a (inr (inl w)) = inr (inl (record {
    purpose = w.purpose;
    count = w.count;
    ri = w.ri;
    phase = w.phase;
    kept = w.kept;
    served = w.served;
    durations = w.durations;
    deadline = w.deadline;
    runs = w.runs;
    few = omega (arith, w.few);
    in_time = w.in_time;
  }))

  expires : (timer : Timer) (s : User) → may_expire timer None s.served ≡ true → Ready s
      → Next (terminal_acts config now event.T202 (with_stopped timer s))
  expires T202 s may h =
      fewer (terminal_acts config now event.T202 (with_stopped T202 s)) (expired s h)
  expires T200 s may h = absurd (not_both (sym (h.timer T200) ∙ may))
  expires T201 s may h = absurd (not_both (sym (h.timer T201) ∙ may))
  expires T203 s may h = absurd (not_both (sym (h.timer T203) ∙ may))

  forgot : (other : Sapi) (s : User) (test : Bool)
      → (sapi_value id.sapi == sapi_value other) ≡ test
      → (may_release asked ≡ false → test ≡ false) → Ready s
      → Next (record {
        after = record s {
          management = record s.management
              { pending = with_pending other false s.management.pending };
        };
        effects = record no_effects {
          primitives = primitive_of_group other what.ReleaseConfirm;
        };
      })
  forgot other s true same keeps h =
      inl (confirm_answers asked id.sapi other is (permitted asked true keeps refl) same)
  forgot other s false apart keeps h =
      let w = h.waits in
      inr (inl (record {
        purpose = w.purpose;
        count = w.count;
        ri = w.ri;
        phase = w.phase;
        kept = kept_without id.sapi other s.management.pending apart w.kept;
        served = w.served;
        durations = w.durations;
        deadline = w.deadline;
        runs = w.runs;
        few = w.few;
        in_time = w.in_time;
      }))

  abbrev pub Waiting : Law TerminalState
  Waiting s a = Ready s → Next a

  abbrev pub Allows : Request → Type 0
  Allows request =
      may_release asked ≡ false → requests_release side.User id (Ask request now) ≡ false

  of_terminal : HoldsOfTerminal config now Waiting Allows
  of_terminal = record {
    asked = asks;
    wanted = λ other s.
        if_either (UserIfOk Waiting s) (is_served config other)
        (Ok (terminal_acts config now event.Want
        (with_kept s (with_pending other true s.management.pending)))) (Err NoLink)
        (wanting other s) tt;
    forgotten = λ other s keeps.
        if_either (UserIfOk Waiting s) (is_pending other.sapi s.management.pending)
        (Ok (forgotten_by other.sapi s)) (Err NoLink)
        (forgot other.sapi s (sapi_value id.sapi == sapi_value other.sapi) refl keeps) tt;
    left = λ tei s has h. absurd (leaving tei s has h);
  }

  of_links : HoldsOfLinks user_rules now Waiting AnyInput
  of_links = record {
    still = λ s h. inr (inl h.waits);
    counts = λ s h. inr (inl h.waits);
    reports = λ at octets s h. inr (inl h.waits);
    steps = λ id input octets s b plain permits done h. inr (inl h.waits);
  }

  pub waiting_goes : HoldsOfEvents user_rules config now Waiting AnyInput Allows
  waiting_goes = record {
    links = of_links;
    expires = λ id timer s b done h. inr (inl h.waits);
    by_rules = record {
      hears = hears;
      times_out = expires;
      requested = λ request s allows. user_asked of_links config of_terminal request s allows
          (each_request user_rules s.management request);
    };
  }
