-- A side assigns or obtains no TEI whose links exist, after any steps from its creation.
use Rattle.std.proofs.Common.{◌≡◌, ℕ, List, [], ◌∷◌, Bool, true, false, if◌then◌else◌, Option, Some, None, Result, Ok, Err, refl, sym, subst, ◌∙◌, arith}
use Rattle.std.specs.Prelude.{is_some, ◌==◌, ◌||◌}
use Rattle.std.specs.List.{list_any, filter_map}
use Rattle.std.proofs.lemmas.Bool.Decides.{nat_tests}
use Rattle.rand_pcg.specs.Lcg.{Lcg}
use Rattle.lapd_timers.specs.Due.{Timers}
use Rattle.lapd_frame.specs.declared.Side.{Side}
use Rattle.lapd_frame.specs.declared.Side.TheVariants as side
use Rattle.lapd_frame.specs.declared.frame_fault.FrameFault.{FrameFault}
use Rattle.lapd_frame.specs.Address.{other_side}
use Rattle.lapd_frame.specs.Frame.{Fields}
use Rattle.lapd_frame.specs.Reading.{frame_at}
use Rattle.lapd_link.specs.declared.link.Link.{Link}
use Rattle.lapd_tei.specs.declared.message.TeiMessage.{TeiMessage}
use Rattle.lapd_tei.specs.declared.fault.TeiFault.{TeiFault}
use Rattle.lapd_tei.specs.declared.assigner.AssignerEvent.TheVariants as assigner
use Rattle.lapd_tei.specs.declared.terminal.TerminalEvent.TheVariants as terminal
use Rattle.lapd_tei.specs.declared.out.TeiOut.{TeiOut}
use Rattle.lapd_tei.specs.declared.out.TeiOut.TheVariants as outcome
use Rattle.lapd_tei.specs.Assigner.{assigner_step}
use Rattle.lapd_tei.specs.Terminal.{terminal_step}
use Rattle.lapd_tei.specs.Message.{message_at}
use Rattle.lapd_tei.specs.Out.{tei_given}
use Rattle.lapd_table.specs.declared.link_id.LinkId.{LinkId}
use Rattle.lapd_table.specs.LinkTable.{link_at}
use Rattle.lapd_sides_links.specs.declared.config.Config.{Config}
use Rattle.lapd_sides_links.specs.Effects.{outcome_of}
use Rattle.lapd_sides_links.specs.Links.{Links, Linked}
use Rattle.lapd_sides_links.specs.Shown.{timers_at, IsLinked}
use Rattle.lapd_sides.specs.Management.{carries_message}
use Rattle.lapd_sides.specs.SideState.{SideState, Rules, given_for, given_for_frame, given_for_message}
use Rattle.lapd_sides.specs.Network.{new_network, network_rules}
use Rattle.lapd_sides.specs.User.{new_user, next_reference, user_rules}
use Rattle.lapd_two_side_laws.specs.ExactTimers.{SideStep, new_view}
use Rattle.lapd_two_side_laws.specs.NewLinks.{network_after, user_after, IsAbsent, HasNoLinks}
use Rattle.lapd_two_side_laws.specs.Premises.{is_assignment}
use Rattle.lapd_two_side_laws.proofs.AsMade.{new_are_own, new_are_held}
use Rattle.lapd_two_side_laws.proofs.Managed.{some_same}
use Rattle.lapd_two_side_laws.proofs.OwnSides.{assigner_leaves, network_steps_held, user_steps_own}
use Rattle.lapd_two_side_laws.proofs.OwnTeis.{AreOf, LeavesOwn}
use Rattle.lapd_two_side_laws.proofs.TerminalOwn.{terminal_leaves}

-- ---- The TEI of these outputs.

same_or : (u t : ℕ) (rest : Bool) → u ≡ t → ((u == t) || rest) ≡ true
same_or u t rest same = by_test (u == t) refl
  where
    by_test : (test : Bool) → (u == t) ≡ test → (test || rest) ≡ true
    by_test true is = refl
    by_test false is = let no : true ≡ false = grind (arith, nat_tests, same, is) in cc

-- a TEI that is assigned or obtained is reported
given_is_reported : (t : ℕ) (outs : List TeiOut) → tei_given outs ≡ Some t
    → list_any (is_assignment t) (filter_map outcome_of outs) ≡ true
given_is_reported t [] is = cc
given_is_reported t (outcome.Given u ∷ outs) is = same_or u t _ (some_same u t is)
given_is_reported t (outcome.Got u ∷ outs) is = same_or u t _ (some_same u t is)
given_is_reported t (other ∷ outs) is = given_is_reported t outs is

absent_in : (l : Option Linked) (links : Links) (id : LinkId) → links id ≡ l
    → (is_some (links id) ≡ true → ⊥) → l ≡ None
absent_in None links id is none = refl
absent_in (Some l) links id is none =
    absurd (none (subst (λ (o : Option Linked). is_some o ≡ true) (sym is) refl))

unlinked : (link : Option Link) (t : Option Timers) (l : Option Linked) → l ≡ None
    → IsLinked link t l → link ≡ None
unlinked None t l none h = refl
unlinked (Some link) None None none h = absurd h
unlinked (Some link) None (Some l) none h = absurd h
unlinked (Some link) (Some t) None none h = absurd h
unlinked (Some link) (Some t) (Some l) none h = absurd (cc)

is_absent : (side : Side) (links : Links) (id : LinkId) → (is_some (links id) ≡ true → ⊥)
    → IsAbsent side links id
is_absent side links id none =
    let l = absent_in (links id) links id refl none in
    record {
      link = l;
      table =
          λ set shown. unlinked (link_at set.table id) (timers_at set.link_timers id) (links id) l
          (shown.each id);
    }

-- TEI management that holds or has the TEI of each link assigns or obtains none of them
free_of_links : (side : Side) (links : Links) (outs : List TeiOut) (P Q : ℕ → Type 0)
    → LeavesOwn P Q outs → AreOf P links → HasNoLinks side links (tei_given outs)
free_of_links side links outs P Q leaves are id given = is_absent side links id (λ there.
    let no : true ≡ false =
    sym (given_is_reported id.tei outs given) ∙ leaves.quiet id.tei (are id there) in
    absurd (cc))

no_tei : (side : Side) (links : Links) → HasNoLinks side links None
no_tei side links id given = absurd (cc)

either : (side : Side) (links : Links) (test : Bool) (tei : Option ℕ) → HasNoLinks side links tei
    → HasNoLinks side links (if test then tei else None)
either side links true tei h = h
either side links false tei h = no_tei side links

-- ---- Octets arrive, if a message gives no TEI of a link.

module _ {M : Type 0} (rules : Rules M) (s : SideState M) (each : (m : TeiMessage)
    → HasNoLinks rules.side s.served.links (rules.given s.management m)) where
  of_message : (found : Result TeiMessage TeiFault)
      → HasNoLinks rules.side s.served.links (given_for_message rules s.management found)
  of_message (Ok m) = each m
  of_message (Err fault) = no_tei rules.side s.served.links

  of_frame : (f : Result Fields FrameFault)
      → HasNoLinks rules.side s.served.links (given_for_frame rules s.management f)
  of_frame (Ok frame) = either rules.side s.served.links (carries_message frame)
      (given_for_message rules s.management (message_at frame.info))
      (of_message (message_at frame.info))
  of_frame (Err fault) = no_tei rules.side s.served.links

  of_octets : (octets : List ℕ)
      → HasNoLinks rules.side s.served.links (given_for rules s.management octets)
  unfolding given_for
  of_octets octets = of_frame (frame_at (other_side rules.side) octets)

pub network_adds_new : (config : Config) (known : List ℕ) (steps : List SideStep)
    (octets : List ℕ)
    → HasNoLinks side.Network (network_after config known steps).served.links
    (given_for network_rules (network_after config known steps).management octets)
network_adds_new config known steps octets =
    let s = network_after config known steps in
    of_octets network_rules s (λ m. free_of_links side.Network s.served.links
    (assigner_step s.management (assigner.Heard m)).outs _ _
    (assigner_leaves s.management (assigner.Heard m)) (network_steps_held config steps
    (new_view (new_network config known)) (new_are_held config known))) octets

pub user_adds_new : (config : Config) (fixed : Option ℕ) (random : Lcg) (steps : List SideStep)
    (octets : List ℕ)
    → HasNoLinks side.User (user_after config fixed random steps).served.links
    (given_for user_rules (user_after config fixed random steps).management octets)
user_adds_new config fixed random steps octets =
    let s = user_after config fixed random steps in
    of_octets user_rules s (λ m.
    let e = terminal.Heard m (next_reference s.management.random) in
    free_of_links side.User s.served.links (terminal_step s.management.terminal e).outs _ _
    (terminal_leaves s.management.terminal e) (user_steps_own config steps
    (new_view (new_user config fixed random)) (new_are_own config fixed random))) octets
