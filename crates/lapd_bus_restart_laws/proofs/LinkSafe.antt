-- The premises of one link on a bus imply those of its interface, if sides restart too.
use Rattle.std.proofs.Common.{◌≡◌, ℕ, ◌==◌, ◌<◌, ◌≤◌, Bool, true, false, List, [], ◌∷◌, ◌++◌, Some, refl, subst}
use Rattle.std.specs.Prelude.{slice_get}
use Rattle.lapd_table.specs.declared.link_id.LinkId.{LinkId}
use Rattle.lapd_sides_links.specs.Links.{parameters_for}
use Rattle.lapd_sides.specs.User.{User}
use Rattle.lapd_side_events.specs.Bus.{Bus, BusEvent, OfTerminal, OfNetwork, Join, Restart, NewTerminal, recorded_anew, from_now, interface_of, moves_of}
use Rattle.lapd_side_events.specs.Interface.{Configs, Interface, Move, from_here, happens}
use Rattle.lapd_side_events.specs.SideView.{SideView}
use Rattle.lapd_side_events.proofs.Indices.{equal_index}
use Rattle.lapd_two_side_laws.specs.Premises.{SatisfyPremises}
use Rattle.lapd_bus_laws.specs.Links.{IsSole, IsNewHere}
use Rattle.lapd_bus_laws.proofs.PremisesOfInterface.{OthersAside, aside_now, one_meets, there_now}
use Rattle.lapd_restart_laws.specs.RestartPremises.{KeepPremises}
use Rattle.lapd_restart_laws.specs.RestartRuns.{moved}
use Rattle.lapd_restart_laws.specs.Restarts.{Change, changes, run_across}
use Rattle.lapd_restart_laws.specs.SafeAcross.{IsSafeAcross}
use Rattle.lapd_restart_laws.proofs.Across.{safe_across}
use Rattle.lapd_bus_restart_laws.specs.BusAcross.{step_across, ThroughoutAcross, terminal_changes, changes_of, changes_along}
use Rattle.lapd_bus_restart_laws.specs.LinksAcross.{RestartsQuickly, KeepsLink}
use Rattle.lapd_bus_restart_laws.proofs.AsideAcross.{aside_across}
use Rattle.lapd_bus_restart_laws.proofs.FollowedAcross.{one_across}

module _ (c : Configs) (id : LinkId) (low : id.tei < 127) (i : ℕ) where
  both_keep : (first later : List Change) (k : Interface) → KeepPremises c id first k
      → KeepPremises c id later (run_across c first k) → KeepPremises c id (first ++ later) k
  both_keep [] later k a b = b
  both_keep (change ∷ first) later k a b = (
    a.0,
    both_keep first later (changes c change k) a.1 b,
  )

  pub moved_keep : (ms : List Move) (k : Interface) → SatisfyPremises c id ms k
      → KeepPremises c id (moved ms) k
  moved_keep [] k h = tt
  moved_keep (m ∷ ms) k h = ((h.0.0, h.1.0), moved_keep ms (happens c m k) (h.0.1, h.1.1))

  -- ---- One event.

  module _ (t : SideView User) (b : Bus) (at : slice_get b.terminals i ≡ Some t) where
    join_keeps : (j : ℕ) (new : NewTerminal) (test : Bool) → (j == i) ≡ test
        → RestartsQuickly c id i (Join j new) b
        → KeepPremises c id (terminal_changes test new) (interface_of t b)
    join_keeps j new true is quick = (quick (equal_index j i is) t at, tt)
    join_keeps j new false is quick = tt

    one_keeps : (e : BusEvent) → OthersAside c id low i b → KeepsLink c id i e b
        → KeepPremises c id (changes_of i e b) (interface_of t b)
    one_keeps (OfTerminal j event) h is =
        moved_keep (moves_of i (OfTerminal j event) b) (interface_of t b)
        (one_meets c id low i t b at (OfTerminal j event) is.of_bus h is.timely is.assigns
        is.obtains)
    one_keeps (OfNetwork j event) h is =
        moved_keep (moves_of i (OfNetwork j event) b) (interface_of t b)
        (one_meets c id low i t b at (OfNetwork j event) is.of_bus h is.timely is.assigns tt)
    one_keeps (Join j new) h is = join_keeps j new (j == i) refl is.quick
    one_keeps (Restart known) h is = (is.quick t at, tt)

  -- ---- Every run.

  pub all_keep : (events : List BusEvent) (t : SideView User) (b : Bus)
      → slice_get b.terminals i ≡ Some t → OthersAside c id low i b
      → ThroughoutAcross c (KeepsLink c id i) events b
      → KeepPremises c id (changes_along c i events b) (interface_of t b)
  all_keep [] t b at h is = tt
  all_keep (e ∷ es) t b at h is =
      let first = one_across c i t b at e is.0.of_bus in
      let later = all_keep es first.terminal (step_across c e b) first.there
      (aside_across c id low i e b is.0.of_bus h is.0.obtains) is.1 in
      both_keep (changes_of i e b) (changes_along c i es (step_across c e b)) (interface_of t b)
      (one_keeps t b at e h is.0)
      (subst (KeepPremises c id (changes_along c i es (step_across c e b))) first.moved later)

  pub link_safe_across : (events : List BusEvent) (t : SideView User) (b : Bus)
      → (parameters_for c.user id.sapi).k ≤ 127 → (parameters_for c.network id.sapi).k ≤ 127
      → slice_get b.terminals i ≡ Some t
      → IsNewHere c id (parameters_for c.user id.sapi) (parameters_for c.network id.sapi) t b
      → IsSole id i b → ThroughoutAcross c (KeepsLink c id i) events (from_now b)
      → IsSafeAcross c id (changes_along c i events (from_now b)) (from_here (interface_of t b))
  link_safe_across events t b small_p small_q at new sole is =
      safe_across c id low small_p small_q (interface_of t b) new.user new.network new.to_user
      new.to_network (changes_along c i events (from_now b))
      (all_keep events (recorded_anew t) (from_now b) (there_now i t b at)
      (aside_now c id low i b sole) is)
