-- Tests of a run with restarts that imply the premises, to compute worked runs.
use Rattle.std.proofs.Common.{◌≡◌, ℕ, ◌==◌, ◌&&◌, not, List, Bool, true, false, Option, Some, refl}
use Rattle.std.specs.Prelude.{slice_get}
use Rattle.lapd_frame.specs.declared.Side.TheVariants as side
use Rattle.lapd_table.specs.declared.link_id.LinkId.{LinkId}
use Rattle.lapd_sides.specs.Network.{new_network}
use Rattle.lapd_sides.specs.User.{User, new_user, has_tei}
use Rattle.lapd_side_events.specs.Bus.{Bus, BusEvent, OfTerminal, OfNetwork, Join, Restart, NewTerminal, on_line_of}
use Rattle.lapd_side_events.specs.Interface.{Configs}
use Rattle.lapd_side_events.specs.SideView.{SideView}
use Rattle.lapd_side_events.proofs.Indices.{equal_index}
use Rattle.lapd_link_definition.proofs.Sending.{both_true}
use Rattle.lapd_two_side_laws.proofs.MoveTests.{not_so}
use Rattle.lapd_bus_laws.proofs.Checks.{throughout_so, passes_by, own_is_unanswered, where_there, there_so, of_bus, of_bus_so, timely_for, timely_for_so, assigns_others, assigns_others_so, requests_by_its_own, requests_by_its_own_so}
use Rattle.lapd_bus_laws.proofs.PremisesOfInterface.{has_not}
use Rattle.lapd_restart_laws.proofs.RestartTests.{is_quick, is_quick_so}
use Rattle.lapd_bus_restart_laws.specs.BusAcross.{step_across, ThroughoutAcross}
use Rattle.lapd_bus_restart_laws.specs.HoldingsAcross.{OthersJoinWithout, KeepsHoldingAcross}
use Rattle.lapd_bus_restart_laws.specs.LinksAcross.{RestartsQuickly}

pub throughout_by : (c : Configs) (P : BusEvent → Bus → Type 0) (test : BusEvent → Bus → Bool)
    → ((e : BusEvent) (b : Bus) → test e b ≡ true → P e b) → (events : List BusEvent) (b : Bus)
    → passes_by (step_across c) test events b ≡ true → ThroughoutAcross c P events b
throughout_by c P test sound events b h = throughout_so (step_across c) P test sound events b h

-- ---- Other terminals.

abbrev without_tei : Bool → ℕ → Option ℕ → Bool
without_tei true tei fixed = true
without_tei false tei fixed = not (has_tei tei fixed)

abbrev pub others_join_without : ℕ → ℕ → BusEvent → Bus → Bool
others_join_without tei i (Join j new) b = without_tei (j == i) tei new.fixed
others_join_without tei i other b = true

pub others_join_without_so : (tei i : ℕ) (e : BusEvent) (b : Bus)
    → others_join_without tei i e b ≡ true → OthersJoinWithout tei i e
others_join_without_so tei i (Join j new) b h = by (j == i) refl h
  where
    by : (test : Bool) → (j == i) ≡ test → without_tei test tei new.fixed ≡ true
        → (j ≡ i → ⊥) → new.fixed ≡ Some tei → ⊥
    by true is h apart same = apart (equal_index j i is)
    by false is h apart same = has_not tei new.fixed (not_so (has_tei tei new.fixed) h) same
others_join_without_so tei i (OfTerminal j event) b h = tt
others_join_without_so tei i (OfNetwork j event) b h = tt
others_join_without_so tei i (Restart known) b h = tt

-- ---- Restarts.

module _ (c : Configs) where
  abbrev user_is_quick : LinkId → NewTerminal → SideView User → Bool
  user_is_quick id new t = is_quick side.User id t.now.served.links
      (new_user c.user new.fixed new.random).served.links t

  abbrev network_is_quick : LinkId → List ℕ → Bus → SideView User → Bool
  network_is_quick id known b t = is_quick side.Network id b.network.served.links
      (new_network c.network known).served.links (on_line_of t b)

  abbrev restarts_quickly : LinkId → ℕ → BusEvent → Bus → Bool
  restarts_quickly id i (Join j new) b = where_there (user_is_quick id new)
      (slice_get b.terminals i)
  restarts_quickly id i (Restart known) b = where_there (network_is_quick id known b)
      (slice_get b.terminals i)
  restarts_quickly id i other b = true

  restarts_quickly_so : (id : LinkId) (i : ℕ) (e : BusEvent) (b : Bus)
      → restarts_quickly id i e b ≡ true → RestartsQuickly c id i e b
  restarts_quickly_so id i (Join j new) b h = λ same t at.
      is_quick_so side.User id t.now.served.links
      (new_user c.user new.fixed new.random).served.links t
      (there_so (user_is_quick id new) (slice_get b.terminals i) t at h)
  restarts_quickly_so id i (Restart known) b h = λ t at.
      is_quick_so side.Network id b.network.served.links
      (new_network c.network known).served.links (on_line_of t b)
      (there_so (network_is_quick id known b) (slice_get b.terminals i) t at h)
  restarts_quickly_so id i (OfTerminal j event) b h = tt
  restarts_quickly_so id i (OfNetwork j event) b h = tt

  -- ---- All premises of a holding.

  abbrev pub keeps_holding : LinkId → ℕ → BusEvent → Bus → Bool
  keeps_holding id i e b = of_bus e b && (others_join_without id.tei i e b
      && (timely_for c id i e b && (assigns_others c id.tei e b && (requests_by_its_own c e b
      && restarts_quickly id i e b))))

  pub keeps_holding_so : (id : LinkId) (i : ℕ) (e : BusEvent) (b : Bus)
      → keeps_holding id i e b ≡ true → KeepsHoldingAcross c id i e b
  keeps_holding_so id i e b h =
      let one = both_true (of_bus e b) _ h in
      let two = both_true (others_join_without id.tei i e b) _ one.1 in
      let three = both_true (timely_for c id i e b) _ two.1 in
      let four = both_true (assigns_others c id.tei e b) _ three.1 in
      let five = both_true (requests_by_its_own c e b) (restarts_quickly id i e b) four.1 in
      record {
        of_bus = of_bus_so e b one.0;
        joins = others_join_without_so id.tei i e b two.0;
        timely = timely_for_so c id i e b three.0;
        assigns = assigns_others_so c id.tei e b four.0;
        requests = own_is_unanswered c e b (requests_by_its_own_so c e b five.0);
        quick = restarts_quickly_so id i e b five.1;
      }
