-- The primitives of a user side determine its own TEI: the fixed one, or the one obtained last,
-- until it is removed.
use Rattle.std.proofs.Common.{◌≡◌, ℕ, ◌==◌, ◌&&◌, not, nat_lt, List, [], ◌∷◌, ◌++◌, Bool, true, false, if◌then◌else◌, Option, refl, sym, ap, ◌∙◌}
use Rattle.std.specs.List.{filter_map}
use Rattle.lapd_frame.specs.declared.Side.TheVariants as side
use Rattle.lapd_tei.specs.declared.kind.TeiKind.{TeiKind}
use Rattle.lapd_tei.specs.declared.kind.TeiKind.TheVariants as kind
use Rattle.lapd_tei.specs.declared.phase.Phase.{Phase}
use Rattle.lapd_tei.specs.declared.phase.Phase.TheVariants.{Unassigned, Awaiting, Assigned}
use Rattle.lapd_tei.specs.declared.phase.Purpose.{Purpose}
use Rattle.lapd_tei.specs.declared.terminal.TerminalEvent.{TerminalEvent}
use Rattle.lapd_tei.specs.declared.terminal.TerminalEvent.TheVariants as event
use Rattle.lapd_tei.specs.Out.{tei_given, tei_freed}
use Rattle.lapd_tei.specs.Terminal.{TerminalStep, n202, is_automatic, names, is_got_by, asks_again, awaiting_receives, assigned_receives, terminal_step, tei_of}
use Rattle.lapd_sides_links.specs.declared.config.Config.{Config}
use Rattle.lapd_sides_links.specs.declared.primitive.Primitive.{Primitive}
use Rattle.lapd_sides_links.specs.declared.primitive.Primitive.TheVariants.{Of, Management}
use Rattle.lapd_sides_links.specs.Effects.{outcome_of}
use Rattle.lapd_sides.specs.Management.{links_with, removal_primitives, manages}
use Rattle.lapd_sides.specs.SideState.{with_stopped}
use Rattle.lapd_sides.specs.User.{TerminalState, User, next_reference, pending_after, terminal_acts, user_rules}
use Rattle.lapd_side_events.specs.Interface.{user_behaviour}
use Rattle.lapd_side_events.specs.SideView.{SideEvent, SideView, reaction, does}
use Rattle.lapd_program_laws.specs.Transcripts.{own_tei, tei_after}
use Rattle.lapd_two_side_laws.proofs.LinkOps.{ArePlain, op_acts, op_expires}
use Rattle.lapd_two_side_laws.proofs.ReportsNoTei.{pending_aside, plain_removals}
use Rattle.lapd_two_side_laws.proofs.Reactions.{AnyInput, AnyRequest, HoldsOfEvents, HoldsOfLinks, Law, each_event, each_request, reacts}
use Rattle.lapd_two_side_laws.proofs.Requests.{by_events, step_at, stepped_by, user_asked}

-- ---- Primitives that change no TEI.

pub own_of_both : (own : Option ℕ) (xs ys : List Primitive)
    → own_tei own (xs ++ ys) ≡ own_tei (own_tei own xs) ys
own_of_both own [] ys = refl
own_of_both own (primitive ∷ xs) ys = own_of_both (tei_after own primitive) xs ys

plain_is_silent : (own : Option ℕ) (primitives : List Primitive) → ArePlain primitives
    → own_tei own primitives ≡ own
plain_is_silent own [] plain = refl
plain_is_silent own (Of id w ∷ primitives) plain = plain_is_silent own primitives plain
plain_is_silent own (Management output ∷ primitives) plain = cc

-- ---- A step of the terminal.

abbrev TellsTei : Phase → TerminalStep → Type 0
TellsTei phase done = tei_of done.now ≡ own_tei (tei_of phase) (filter_map outcome_of done.outs)

either_tells : (phase : Phase) (test : Bool) (x y : TerminalStep) → TellsTei phase x
    → TellsTei phase y → TellsTei phase (if test then x else y)
either_tells phase true x y hx hy = hx
either_tells phase false x y hx hy = hy

again : (purpose : Purpose) (count ri new : ℕ)
    → TellsTei (Awaiting purpose count ri) (asks_again purpose count ri new)
again purpose count ri new =
    either_tells (Awaiting purpose count ri) (nat_lt count n202) _ _ refl refl

awaiting : (purpose : Purpose) (count ri : ℕ) (k : TeiKind) (its ai : ℕ)
    → TellsTei (Awaiting purpose count ri) (awaiting_receives purpose count ri k its ai)
awaiting purpose count ri kind.Assigned its ai =
    either_tells (Awaiting purpose count ri) ((its == ri) && is_automatic ai) _ _ refl refl
awaiting purpose count ri other its ai = refl

assigned : (by : Option ℕ) (tei : ℕ) (k : TeiKind) (its ai new : ℕ)
    → TellsTei (Assigned by tei) (assigned_receives by tei k its ai new)
assigned by tei kind.Assigned its ai new =
    either_tells (Assigned by tei) ((ai == tei) && not (is_got_by by its)) _ _ refl refl
assigned by tei kind.CheckRequest its ai new =
    either_tells (Assigned by tei) (names ai tei) _ _ refl refl
assigned by tei kind.Remove its ai new = either_tells (Assigned by tei) (names ai tei) _ _ refl refl
assigned by tei other its ai new = refl

terminal_tells : (phase : Phase) (e : TerminalEvent) → TellsTei phase (terminal_step phase e)
terminal_tells Unassigned (event.Ask ri) = refl
terminal_tells Unassigned (event.Want ri) = refl
terminal_tells (Awaiting purpose count ri) (event.Want new) = refl
terminal_tells (Awaiting purpose count ri) (event.Heard m new) =
    awaiting purpose count ri m.kind m.ri m.ai
terminal_tells (Awaiting purpose count ri) (event.T202 new) = again purpose count ri new
terminal_tells (Assigned by tei) (event.Heard m new) = assigned by tei m.kind m.ri m.ai new
terminal_tells (Awaiting purpose count ri) event.Leave = refl
terminal_tells (Assigned by tei) event.Leave = refl
terminal_tells phase other = refl

-- ---- Every reaction.

abbrev States : Law TerminalState
States s a = tei_of a.after.management.terminal
    ≡ own_tei (tei_of s.management.terminal) a.effects.primitives

module _ (config : Config) where
  acting : (now : ℕ) (e : ℕ → TerminalEvent) (s : User) → States s (terminal_acts config now e s)
  unfolding terminal_acts manages
  acting now e s =
      let done = step_at e s in
      let middle = (stepped_by config now done s).after in
      let rest = pending_after now done.outs middle in
      let aside = pending_aside now done.outs middle in
      let outcomes = filter_map outcome_of done.outs in
      let links = links_with config (tei_given done.outs) s.served.links in
      let removals = removal_primitives (tei_freed done.outs) links in
      let own = tei_of s.management.terminal in
      ap tei_of aside.terminal
      ∙ terminal_tells s.management.terminal (e (next_reference s.management.random))
      ∙ sym (own_of_both own (outcomes ++ removals) rest.effects.primitives
      ∙ plain_is_silent (own_tei own (outcomes ++ removals)) rest.effects.primitives
      aside.delivered ∙ own_of_both own outcomes removals
      ∙ plain_is_silent (own_tei own outcomes) removals
      (plain_removals (tei_freed done.outs) links))

  of_links : (now : ℕ) → HoldsOfLinks user_rules now States AnyInput
  of_links now = record {
    still = λ s. refl;
    counts = λ s. refl;
    reports = λ at octets s. refl;
    steps = λ id input octets s b plain permits done.
        sym (plain_is_silent (tei_of s.management.terminal) b.effects.primitives
        (op_acts side.User id s.served.links now input octets b done).plain);
  }

  law : (now : ℕ) → HoldsOfEvents user_rules config now States AnyInput AnyRequest
  law now = record {
    links = of_links now;
    expires = λ id timer s b done.
        sym (plain_is_silent (tei_of s.management.terminal) b.effects.primitives
        (op_expires side.User id s.served.links now timer b done).plain);
    by_rules = record {
      hears = λ m. acting now (event.Heard m);
      times_out = λ timer s may. acting now event.T202 (with_stopped timer s);
      requested = λ asked s any.
          user_asked (of_links now) config (by_events config now States AnyRequest
          (acting now event.Ask) (acting now event.Want) (acting now (λ ri. event.Leave))
          (λ pending s a h. h) (λ at s. refl)) asked s any
          (each_request user_rules s.management asked);
    };
  }

  reaction_tells : (v : SideView User) (side_event : SideEvent)
      → States v.now (reaction (user_behaviour config) side_event v)
  reaction_tells v side_event =
      reacts {R = λ now. States} law 0 side_event v (each_event user_rules side_event v)

-- the side's own TEI is the one that all primitives so far determine
abbrev pub KnowsTei : Option ℕ → SideView User → Type 0
KnowsTei fixed v = tei_of v.now.management.terminal ≡ own_tei fixed v.delivered

pub event_tells : (config : Config) (fixed : Option ℕ) (v : SideView User) (side_event : SideEvent)
    → KnowsTei fixed v → KnowsTei fixed (does (user_behaviour config) side_event v)
unfolding does
event_tells config fixed v side_event known =
    let a = reaction (user_behaviour config) side_event v in
    reaction_tells config v side_event
    ∙ ap (λ (own : Option ℕ). own_tei own a.effects.primitives) known
    ∙ sym (own_of_both fixed v.delivered a.effects.primitives)
