-- A terminal obtains a TEI only by an assignment that it takes from its line and that answers its
-- outstanding request.
use Rattle.std.proofs.Common.{◌≡◌, ◌⊎◌, inl, inr, ℕ, ◌+◌, ◌==◌, ◌&&◌, not, nat_lt, List, [], ◌∷◌, ◌++◌, Bool, true, false, if◌then◌else◌, Option, Some, None, Result, Ok, Err, refl, sym, ap, ◌∙◌, arith}
use Rattle.std.specs.Prelude.{IfOk, ◌||◌}
use Rattle.std.specs.List.{list_any, filter_map}
use Rattle.std.proofs.lemmas.Bool.Decides.{nat_tests}
use Rattle.std.proofs.lemmas.List.Folds.{list_any-append}
use Rattle.lapd_timers.specs.declared.timer.Timer.{Timer}
use Rattle.lapd_timers.specs.declared.timer.Timer.TheVariants.{T202}
use Rattle.lapd_frame.specs.declared.Side.TheVariants as side
use Rattle.lapd_frame.specs.declared.frame_fault.FrameFault.{FrameFault}
use Rattle.lapd_frame.specs.Frame.{Fields}
use Rattle.lapd_frame.specs.Reading.{frame_at}
use Rattle.lapd_tei.specs.declared.fault.TeiFault.{TeiFault}
use Rattle.lapd_tei.specs.declared.kind.TeiKind.{TeiKind}
use Rattle.lapd_tei.specs.declared.kind.TeiKind.TheVariants as kind
use Rattle.lapd_tei.specs.declared.message.TeiMessage.{TeiMessage}
use Rattle.lapd_tei.specs.declared.out.TeiOut.{TeiOut}
use Rattle.lapd_tei.specs.declared.out.TeiOut.TheVariants.{Send, Start, Stop, Got, Gone, Failed}
use Rattle.lapd_tei.specs.declared.phase.Phase.{Phase}
use Rattle.lapd_tei.specs.declared.phase.Phase.TheVariants.{Unassigned, Awaiting, Assigned}
use Rattle.lapd_tei.specs.declared.phase.Purpose.{Purpose}
use Rattle.lapd_tei.specs.declared.phase.Purpose.TheVariants.{Assignment, Establishment}
use Rattle.lapd_tei.specs.declared.terminal.TerminalEvent.{TerminalEvent}
use Rattle.lapd_tei.specs.declared.terminal.TerminalEvent.TheVariants as event
use Rattle.lapd_tei.specs.Message.{message_at}
use Rattle.lapd_tei.specs.Out.{request, tei_given, tei_freed}
use Rattle.lapd_tei.specs.Terminal.{TerminalStep, n202, is_automatic, names, is_got_by, moves_to, asks, asks_again, awaiting_receives, assigned_receives, terminal_step, tei_of}
use Rattle.lapd_table.specs.declared.link_id.LinkId.{LinkId}
use Rattle.lapd_sides_links.specs.declared.config.Config.{Config}
use Rattle.lapd_sides_links.specs.declared.primitive.Primitive.{Primitive}
use Rattle.lapd_sides_links.specs.declared.side_fault.SideKind.{SideKind}
use Rattle.lapd_sides_links.specs.Effects.{outcome_of}
use Rattle.lapd_sides_links.specs.Links.{Links, Reaction, in_links, link_expires}
use Rattle.lapd_sides.specs.declared.request.Request.{Request}
use Rattle.lapd_sides.specs.Management.{carries_message, manages, links_with, removal_primitives}
use Rattle.lapd_sides.specs.SideState as sides
use Rattle.lapd_sides.specs.SideState.{among_links, data_received, expires, message_received, received, takes, with_stopped}
use Rattle.lapd_sides.specs.User.{User, TerminalState, next_reference, pending_after, terminal_acts, user_requested, user_rules}
use Rattle.lapd_side_events.specs.Interface.{user_behaviour}
use Rattle.lapd_two_side_laws.specs.Premises.{is_removal, is_assignment}
use Rattle.lapd_side_events.specs.SideView.{SideView, SideEvent, Take, Lose, Expire, Ask, Overhear, unmoved, takes_first, may_expire, or_unmoved, reaction}
use Rattle.lapd_two_side_laws.proofs.LinkParts.{any_more}
use Rattle.lapd_side_events.specs.Bus.{OverhearsNothing}
use Rattle.lapd_bus_laws.specs.Assignments.{assignment_by, assignment_of, assignment_in_frame, assignment_in, awaited}
use Rattle.lapd_two_side_laws.proofs.LinkOps.{ArePlain, IsLinkOp, op_expires}
use Rattle.lapd_two_side_laws.proofs.ReportsNoTei.{IsAside, aside_links, aside_op, pending_aside, plain_no_assignment, plain_no_removal, plain_removals}
use Rattle.lapd_two_side_laws.proofs.Reactions.{AnyInput, AnyRequest, HoldsOfLinks, Law, any_frame, each_request, faulty, frame_data}
use Rattle.lapd_two_side_laws.proofs.Requests.{by_events, stepped_by, user_asked}

-- ---- A step of the terminal.

abbrev Reports : (Primitive → Bool) → List TeiOut → Type 0
Reports p outs = list_any p (filter_map outcome_of outs) ≡ true

-- A TEI is obtained only if `From` holds of it; a TEI that is held was held before, or is obtained,
-- and if it is not, the terminal stays as it was; a TEI that is removed was held before.
record StepObtains (phase : Phase) (From : ℕ → Type 0) (done : TerminalStep) : Type 0 where
  pub got : (t : ℕ) → Reports (is_assignment t) done.outs → From t
  pub held : (t : ℕ) → tei_of done.now ≡ Some t → (tei_of phase ≡ Some t)
      ⊎ Reports (is_assignment t) done.outs
  pub same : (t : ℕ) → tei_of done.now ≡ Some t → (done.now ≡ phase)
      ⊎ Reports (is_assignment t) done.outs
  pub lost : (t : ℕ) → Reports (is_removal t) done.outs → tei_of phase ≡ Some t

-- the message is an assignment of the TEI that answers the request
record Answers (phase : Phase) (k : TeiKind) (ri ai : ℕ) (t : ℕ) : Type 0 where
  pub outstanding : awaited phase ≡ Some ri
  pub assignment : assignment_by k ri ai ≡ Some (record { reference = ri; tei = t })

abbrev FromEvent : Phase → TerminalEvent → ℕ → Type 0
FromEvent phase (event.Heard m new) t = Answers phase m.kind m.ri m.ai t
FromEvent phase other t = ⊥

first_is : (t n : ℕ) → ((t == n) || false) ≡ true → t ≡ n
first_is t n h = by_test (t == n) refl h
  where
    by_test : (b : Bool) → (t == n) ≡ b → (b || false) ≡ true → t ≡ n
    by_test true is h = grind (arith, nat_tests, is)
    by_test false is h = cc

some_equal : (x y : ℕ) → Some x ≡ Some y → x ≡ y
some_equal x y h = cc

-- the TEI stays, and nothing is reported about a TEI
silent : (phase : Phase) (From : ℕ → Type 0) (done : TerminalStep)
    → ((t : ℕ) → tei_of done.now ≡ Some t → done.now ≡ phase)
    → filter_map outcome_of done.outs ≡ [] → StepObtains phase From done
silent phase From done same none = record {
  got = λ t h. (let no : false ≡ true = ap (list_any (is_assignment t)) (sym none) ∙ h in cc);
  held = λ t h. inl (sym (ap tei_of (same t h)) ∙ h);
  same = λ t h. inl (same t h);
  lost = λ t h. (let no : false ≡ true = ap (list_any (is_removal t)) (sym none) ∙ h in cc);
}

-- no TEI is held afterwards, and none is reported
ends_without : (phase : Phase) (From : ℕ → Type 0) (outs : List TeiOut)
    → ((t : ℕ) → Reports (is_assignment t) outs → ⊥) → ((t : ℕ) → Reports (is_removal t) outs
    → tei_of phase ≡ Some t)
    → StepObtains phase From (moves_to Unassigned outs)
ends_without phase From outs none lost = record {
  got = λ t h. absurd (none t h);
  held = λ t h. cc;
  same = λ t h. cc;
  lost = lost;
}

gone : (by : Option ℕ) (tei : ℕ) (From : ℕ → Type 0) → StepObtains (Assigned by tei) From
    (moves_to Unassigned (Gone tei ∷ []))
gone by tei From = ends_without (Assigned by tei) From (Gone tei ∷ [])
    (λ t h. cc) (λ t h. ap Some (first_is tei t h))

either : (phase : Phase) (From : ℕ → Type 0) (test : Bool) (x y : TerminalStep)
    → (test ≡ true → StepObtains phase From x) → StepObtains phase From y
    → StepObtains phase From (if test then x else y)
either phase From true x y hx hy = hx refl
either phase From false x y hx hy = hy

again : (purpose : Purpose) (count ri new : ℕ) (From : ℕ → Type 0)
    → StepObtains (Awaiting purpose count ri) From (asks_again purpose count ri new)
again purpose count ri new From = either (Awaiting purpose count ri) From (nat_lt count n202) _ _
    (λ may.
    silent (Awaiting purpose count ri) From (moves_to (Awaiting purpose (count + 1) new)
    (Send (request new) ∷ Start T202 ∷ [])) (λ t h. cc) refl)
    (ends_without (Awaiting purpose count ri) From (Failed ∷ []) (λ t h. cc) (λ t h. cc))

both_true : (a b : Bool) → (a && b) ≡ true → a ≡ true
both_true true b h = refl
both_true false b h = cc

obtained : (purpose : Purpose) (count ri its ai : ℕ) → ((its == ri) && is_automatic ai) ≡ true
    → StepObtains (Awaiting purpose count ri) (Answers (Awaiting purpose count ri) kind.Assigned its
    ai) (moves_to (Assigned (Some ri) ai) (Stop T202 ∷ Got ai ∷ []))
obtained purpose count ri its ai test =
    let its_own : (its == ri) ≡ true = both_true (its == ri) (is_automatic ai) test in
    let same : ri ≡ its = grind (arith, nat_tests, its_own) in
    record {
      got = λ t h. record {
        outstanding = ap Some same;
        assignment = ap (λ (n : ℕ). assignment_by kind.Assigned its n) (first_is ai t h);
      };
      held = λ t h. inr (here t (some_equal ai t h));
      same = λ t h. inr (here t (some_equal ai t h));
      lost = λ t h. cc;
    }
  where
    here : (t : ℕ) → ai ≡ t → ((ai == t) || false) ≡ true
    here t same = by_test (ai == t) refl
      where
        by_test : (b : Bool) → (ai == t) ≡ b → (b || false) ≡ true
        by_test true is = refl
        by_test false is = (let no : true ≡ false = grind (arith, nat_tests, same, is) in cc)

awaiting : (purpose : Purpose) (count ri : ℕ) (k : TeiKind) (its ai : ℕ)
    → StepObtains (Awaiting purpose count ri) (Answers (Awaiting purpose count ri) k its ai)
    (awaiting_receives purpose count ri k its ai)
awaiting purpose count ri kind.Assigned its ai = either (Awaiting purpose count ri) _
    ((its == ri) && is_automatic ai) _ _ (obtained purpose count ri its ai)
    (silent (Awaiting purpose count ri) _ (moves_to (Awaiting purpose count ri) []) (λ t h. cc)
    refl)
awaiting purpose count ri kind.Request its ai = silent (Awaiting purpose count ri) _
    (moves_to (Awaiting purpose count ri) []) (λ t h. cc) refl
awaiting purpose count ri kind.Denied its ai = silent (Awaiting purpose count ri) _
    (moves_to (Awaiting purpose count ri) []) (λ t h. cc) refl
awaiting purpose count ri kind.CheckRequest its ai = silent (Awaiting purpose count ri) _
    (moves_to (Awaiting purpose count ri) []) (λ t h. cc) refl
awaiting purpose count ri kind.CheckResponse its ai = silent (Awaiting purpose count ri) _
    (moves_to (Awaiting purpose count ri) []) (λ t h. cc) refl
awaiting purpose count ri kind.Remove its ai = silent (Awaiting purpose count ri) _
    (moves_to (Awaiting purpose count ri) []) (λ t h. cc) refl
awaiting purpose count ri kind.Verify its ai = silent (Awaiting purpose count ri) _
    (moves_to (Awaiting purpose count ri) []) (λ t h. cc) refl

assigned : (by : Option ℕ) (tei : ℕ) (k : TeiKind) (its ai new : ℕ) (From : ℕ → Type 0)
    → StepObtains (Assigned by tei) From (assigned_receives by tei k its ai new)
assigned by tei kind.Assigned its ai new From = either (Assigned by tei) From
    ((ai == tei) && not (is_got_by by its)) _ _
    (λ it.
    gone by tei From) (silent (Assigned by tei) From (moves_to (Assigned by tei) []) (λ t h. refl)
    refl)
assigned by tei kind.CheckRequest its ai new From = either (Assigned by tei) From (names ai tei) _ _
    (λ it.
    silent (Assigned by tei) From _ (λ t h. refl) refl) (silent (Assigned by tei) From
    (moves_to (Assigned by tei) []) (λ t h. refl) refl)
assigned by tei kind.Remove its ai new From = either (Assigned by tei) From (names ai tei) _ _
    (λ it.
    gone by tei From) (silent (Assigned by tei) From (moves_to (Assigned by tei) []) (λ t h. refl)
    refl)
assigned by tei kind.Request its ai new From = silent (Assigned by tei) From
    (moves_to (Assigned by tei) []) (λ t h. refl) refl
assigned by tei kind.Denied its ai new From = silent (Assigned by tei) From
    (moves_to (Assigned by tei) []) (λ t h. refl) refl
assigned by tei kind.CheckResponse its ai new From = silent (Assigned by tei) From
    (moves_to (Assigned by tei) []) (λ t h. refl) refl
assigned by tei kind.Verify its ai new From = silent (Assigned by tei) From
    (moves_to (Assigned by tei) []) (λ t h. refl) refl

step_obtains : (phase : Phase) (e : TerminalEvent) → StepObtains phase (FromEvent phase e)
    (terminal_step phase e)
step_obtains Unassigned (event.Ask ri) = silent Unassigned _ (asks Assignment ri) (λ t h. cc) refl
step_obtains Unassigned (event.Want ri) = silent Unassigned _ (asks Establishment ri) (λ t h. cc)
    refl
step_obtains Unassigned (event.Heard m new) = silent Unassigned _ (moves_to Unassigned [])
    (λ t h. cc) refl
step_obtains Unassigned (event.T202 new) = silent Unassigned _ (moves_to Unassigned []) (λ t h. cc)
    refl
step_obtains Unassigned event.Leave = silent Unassigned _ (moves_to Unassigned []) (λ t h. cc) refl
step_obtains (Awaiting purpose count ri) (event.Ask new) = silent (Awaiting purpose count ri) _
    (moves_to (Awaiting purpose count ri) []) (λ t h. cc) refl
step_obtains (Awaiting purpose count ri) (event.Want new) = silent (Awaiting purpose count ri) _
    (moves_to (Awaiting Establishment count ri) []) (λ t h. cc) refl
step_obtains (Awaiting purpose count ri) (event.Heard m new) = awaiting purpose count ri m.kind m.ri
    m.ai
step_obtains (Awaiting purpose count ri) (event.T202 new) = again purpose count ri new _
step_obtains (Awaiting purpose count ri) event.Leave = silent (Awaiting purpose count ri) _
    (moves_to Unassigned (Stop T202 ∷ [])) (λ t h. cc) refl
step_obtains (Assigned by tei) (event.Ask new) = silent (Assigned by tei) _
    (moves_to (Assigned by tei) []) (λ t h. refl) refl
step_obtains (Assigned by tei) (event.Want new) = silent (Assigned by tei) _
    (moves_to (Assigned by tei) []) (λ t h. refl) refl
step_obtains (Assigned by tei) (event.Heard m new) = assigned by tei m.kind m.ri m.ai new _
step_obtains (Assigned by tei) (event.T202 new) = silent (Assigned by tei) _
    (moves_to (Assigned by tei) []) (λ t h. refl) refl
step_obtains (Assigned by tei) event.Leave = gone by tei _

-- ---- A user side.

pub record Obtains (s : User) (From : ℕ → Type 0) (a : Reaction User) : Type 0 where
  pub got : (t : ℕ) → list_any (is_assignment t) a.effects.primitives ≡ true → From t
  pub held : (t : ℕ) → tei_of a.after.management.terminal ≡ Some t
      → (tei_of s.management.terminal ≡ Some t)
      ⊎ (list_any (is_assignment t) a.effects.primitives ≡ true)
  pub same : (t : ℕ) → tei_of a.after.management.terminal ≡ Some t
      → (a.after.management.terminal ≡ s.management.terminal)
      ⊎ (list_any (is_assignment t) a.effects.primitives ≡ true)
  pub lost : (t : ℕ) → list_any (is_removal t) a.effects.primitives ≡ true
      → tei_of s.management.terminal
      ≡ Some t

abbrev Nowhere : ℕ → Type 0
Nowhere t = ⊥

obtains_by : (s : User) (F G : ℕ → Type 0) (a : Reaction User) → ((t : ℕ) → F t → G t)
    → Obtains s F a → Obtains s G a
obtains_by s F G a f h = record {
  got = λ t is. f t (h.got t is);
  held = h.held;
  same = h.same;
  lost = h.lost;
}

plainly : (s : User) (From : ℕ → Type 0) (a : Reaction User) → IsAside s a → Obtains s From a
plainly s From a h = record {
  got =
      λ t is.
      (let no : false ≡ true = sym (plain_no_assignment t a.effects.primitives h.delivered) ∙ is in
      cc);
  held = λ t is. inl (ap tei_of (sym h.terminal) ∙ is);
  same = λ t is. inl h.terminal;
  lost =
      λ t is.
      (let no : false ≡ true = sym (plain_no_removal t a.effects.primitives h.delivered) ∙ is in
      cc);
}

-- a test that only the first of two lists passes
only_first : (p : Primitive → Bool) (xs ys : List Primitive) → list_any p ys ≡ false
    → list_any p (xs ++ ys) ≡ true → list_any p xs ≡ true
only_first p xs ys none h = by_test (list_any p xs) (list_any p ys) none
    (sym (list_any-append p xs ys) ∙ h)
  where
    by_test : (a b : Bool) → b ≡ false → (a || b) ≡ true → a ≡ true
    by_test true b none h = refl
    by_test false b none h = cc

module _ (config : Config) (now : ℕ) (s : User) where
  acting : (e : ℕ → TerminalEvent)
      → Obtains s (FromEvent s.management.terminal (e (next_reference s.management.random)))
      (terminal_acts config now e s)
  unfolding terminal_acts manages
  acting e =
      let done = terminal_step s.management.terminal (e (next_reference s.management.random)) in
      let h = step_obtains s.management.terminal (e (next_reference s.management.random)) in
      let m = manages side.User config now done.outs s.served in
      let middle = (stepped_by config now done s).after in
      let rest = pending_after now done.outs middle in
      let plain = pending_aside now done.outs middle in
      let outcomes = filter_map outcome_of done.outs in
      let removed = removal_primitives (tei_freed done.outs)
      (links_with config (tei_given done.outs) s.served.links) in
      let gone_plain : ArePlain removed = plain_removals (tei_freed done.outs)
      (links_with config (tei_given done.outs) s.served.links) in
      let first : (p : Primitive → Bool) → list_any p removed ≡ false
      → list_any p rest.effects.primitives ≡ false → list_any p
      ((outcomes ++ removed) ++ rest.effects.primitives) ≡ true → list_any p outcomes ≡ true =
      λ p none none_too is.
      only_first p outcomes removed none (only_first p (outcomes ++ removed)
      rest.effects.primitives none_too is) in
      record {
        got =
            λ t is.
            h.got t (first (is_assignment t) (plain_no_assignment t removed gone_plain)
            (plain_no_assignment t rest.effects.primitives plain.delivered) is);
        held = λ t is. elim (h.held t (ap tei_of (sym plain.terminal) ∙ is)) [
          | inl before ↦ inl before
          | inr reported ↦ inr (any_more (is_assignment t) (outcomes ++ removed)
              rest.effects.primitives (any_more (is_assignment t) outcomes removed reported))
        ];
        same = λ t is. elim (h.same t (ap tei_of (sym plain.terminal) ∙ is)) [
          | inl before ↦ inl (plain.terminal ∙ before)
          | inr reported ↦ inr (any_more (is_assignment t) (outcomes ++ removed)
              rest.effects.primitives (any_more (is_assignment t) outcomes removed reported))
        ];
        lost =
            λ t is.
            h.lost t (first (is_removal t) (plain_no_removal t removed gone_plain)
            (plain_no_removal t rest.effects.primitives plain.delivered) is);
      }

  either_of : (From : ℕ → Type 0) (test : Bool) (x y : Reaction User)
      → (test ≡ true → Obtains s From x) → Obtains s From y → Obtains s From (if test then x else y)
  either_of From true x y hx hy = hx refl
  either_of From false x y hx hy = hy

  -- ---- Octets from the line.

  -- the octets that were read so carry an assignment of the TEI that answers the outstanding
  -- request
  record AnswersBy (r : Result Fields FrameFault) (t : ℕ) : Type 0 where
    pub reference : ℕ
    pub outstanding : awaited s.management.terminal ≡ Some reference
    pub assignment : assignment_in_frame r ≡ Some (record { reference = reference; tei = t })

  message : (frame : Fields) (m : Result TeiMessage TeiFault) → carries_message frame ≡ true
      → message_at frame.info ≡ m → Obtains s (AnswersBy (Ok frame))
      (message_received user_rules config now m s)
  message frame (Ok m) carries is =
      obtains_by s (Answers s.management.terminal m.kind m.ri m.ai) (AnswersBy (Ok frame))
      (terminal_acts config now (event.Heard m) s)
      (λ t h. record {
        reference = m.ri;
        outstanding = h.outstanding;
        assignment = ap (λ (b : Bool).
            if b then assignment_of (message_at frame.info) else None) carries ∙ ap assignment_of is
            ∙ h.assignment;
      }) (acting (event.Heard m))
  message frame (Err fault) carries is = plainly s _ (unmoved s) ((aside_links now).still s)

  frame_obtains : (r : Result Fields FrameFault)
      → Obtains s (AnswersBy r) (received user_rules config now r s)
  frame_obtains (Ok frame) =
      either_of (AnswersBy (Ok frame)) (carries_message frame)
      (message_received user_rules config now (message_at frame.info) s)
      (data_received user_rules config now frame s)
      (λ carries. message frame (message_at frame.info) carries refl)
      (plainly s _ _ (frame_data (aside_links now) config frame s tt))
  frame_obtains (Err fault) =
      plainly s _ _ (faulty (aside_links now) fault.kind fault.address s
      (any_frame AnyInput (λ id control role info. tt) (λ id kind. tt) (Err fault)))

  octets_obtain : (octets : List ℕ) → Obtains s (AnswersBy (frame_at side.Network octets))
      (takes user_rules config octets now s)
  unfolding takes
  octets_obtain octets = frame_obtains (frame_at side.Network octets)

-- ---- Timers and requests.

module _ (config : Config) (now : ℕ) where
  abbrev Obtaining : Law TerminalState
  Obtaining s a = Obtains s Nowhere a

  of_links : HoldsOfLinks user_rules now Obtaining AnyInput
  of_links = record {
    still = λ s. plainly s Nowhere _ ((aside_links now).still s);
    counts = λ s. plainly s Nowhere _ ((aside_links now).counts s);
    reports = λ at octets s. plainly s Nowhere _ ((aside_links now).reports at octets s);
    steps = λ id input octets s b plain permits done.
        plainly s Nowhere _ ((aside_links now).steps id input octets s b plain permits done);
  }

  expiring : (s : User) (timer : Timer) (of : Option LinkId)
      → Obtaining s (expires user_rules config now timer of s)
  unfolding expires
  expiring s timer (Some other) = plainly s Nowhere _ (or_unmoved_aside
      (in_links other (link_expires side.User other now timer) s.served.links) (λ b done.
      op_expires side.User other s.served.links now timer b done))
    where
      or_unmoved_aside : (r : Result (Reaction Links) SideKind)
          → ((b : Reaction Links) → r ≡ Ok b → IsLinkOp s.served.links b)
          → IsAside s (sides.or_unmoved s (among_links s r))
      or_unmoved_aside (Ok b) op = aside_op s b (op b refl)
      or_unmoved_aside (Err kind) op = (aside_links now).still s
  expiring s timer None =
      let h = acting config now (with_stopped timer s) event.T202 in
      record { got = h.got; held = h.held; same = h.same; lost = h.lost }

  requesting : (asked : Request) (s : User)
      → IfOk (user_requested config asked now s) (Obtaining s)
  requesting asked s =
      user_asked of_links config (by_events config now Obtaining AnyRequest
      (λ s. acting config now s event.Ask) (λ s. acting config now s event.Want)
      (λ s. acting config now s (λ ri. event.Leave))
      (λ pending s a h. record { got = h.got; held = h.held; same = h.same; lost = h.lost })
      (λ at s. plainly s Nowhere _ (record {
        terminal = refl;
        timers = refl;
        adds_none = λ k there. there;
        delivered = refl;
      }))) asked s tt (each_request user_rules s.management asked)

or_nothing : (s : User) (r : Result (Reaction User) SideKind) → IfOk r (Obtains s Nowhere)
    → Obtains s Nowhere (or_unmoved s r)
or_nothing s (Ok a) h = h
or_nothing s (Err kind) h = plainly s Nowhere (unmoved s) ((aside_links 0).still s)

-- ---- Every event.

-- the octets carry an assignment of the TEI that answers the outstanding request of this side
pub record IsAnswer (s : User) (octets : List ℕ) (t : ℕ) : Type 0 where
  pub reference : ℕ
  pub outstanding : awaited s.management.terminal ≡ Some reference
  pub assignment : assignment_in octets ≡ Some (record { reference = reference; tei = t })

abbrev pub FirstAnswers : User → List (List ℕ) → ℕ → Type 0
FirstAnswers s [] t = ⊥
FirstAnswers s (octets ∷ rest) t = IsAnswer s octets t

-- the event takes such octets from the line
abbrev pub TakesAnswer : SideEvent → SideView User → ℕ → Type 0
TakesAnswer (Take now) v t = FirstAnswers v.now v.incoming t
TakesAnswer event v t = ⊥

from_nowhere : (s : User) (F : ℕ → Type 0) (a : Reaction User) → Obtains s Nowhere a → Obtains s F a
from_nowhere s F a h = obtains_by s Nowhere F a (λ t no. absurd no) h

takes_answer : (config : Config) (now : ℕ) (s : User) (octets : List ℕ)
    → Obtains s (IsAnswer s octets) (takes user_rules config octets now s)
takes_answer config now s octets = obtains_by s (AnswersBy config now s
    (frame_at side.Network octets)) (IsAnswer s octets) (takes user_rules config octets now s)
    (λ t h.
    record { reference = h.reference; outstanding = h.outstanding; assignment = h.assignment })
    (octets_obtain config now s octets)

pub event_obtains : (config : Config) (event : SideEvent) (v : SideView User)
    → OverhearsNothing event → Obtains v.now (TakesAnswer event v)
    (reaction (user_behaviour config) event v)
event_obtains config (Take now) v ok = first v.incoming
  where
    first : (line : List (List ℕ)) → Obtains v.now (FirstAnswers v.now line)
        (takes_first (user_behaviour config) now line v.now)
    first [] = plainly v.now _ (unmoved v.now) ((aside_links 0).still v.now)
    first (octets ∷ rest) = takes_answer config now v.now octets
event_obtains config (Lose at) v ok = plainly v.now _ (unmoved v.now) ((aside_links 0).still v.now)
event_obtains config (Expire timer of now) v ok = from_nowhere v.now _ _
    (by_test (may_expire timer of v.now.served))
  where
    by_test : (test : Bool) → Obtains v.now Nowhere
        (if test then expires user_rules config now timer of v.now else unmoved v.now)
    by_test true = expiring config now v.now timer of
    by_test false = plainly v.now Nowhere (unmoved v.now) ((aside_links 0).still v.now)
event_obtains config (Ask request now) v ok = from_nowhere v.now _ _
    (or_nothing v.now (user_requested config request now v.now)
    (requesting config now request v.now))
event_obtains config (Overhear octets now) v ok = absurd ok
