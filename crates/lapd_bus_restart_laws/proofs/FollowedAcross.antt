-- Each run of a bus with restarts is a run with restarts of the interface of each terminal.
use Rattle.std.proofs.Common.{◌≡◌, ℕ, ◌==◌, Bool, true, false, List, [], ◌∷◌, ◌++◌, Option, Some, None, refl, sym, ap, subst, ◌∙◌}
use Rattle.std.proofs.lemmas.List.{map-append}
use Rattle.std.specs.Prelude.{slice_get}
use Rattle.std.specs.List.{AllByRecursion}
use Rattle.lapd_sides.specs.Network.{new_network}
use Rattle.lapd_sides.specs.ShowsNetwork.{NetSide, ShowNetwork}
use Rattle.lapd_sides.specs.ShowsUser.{UserSide, ShowUser}
use Rattle.lapd_sides.specs.User.{User, new_user}
use Rattle.lapd_side_events.specs.Interface.{Configs, Interface}
use Rattle.lapd_side_events.specs.SideView.{SideView}
use Rattle.lapd_side_events.specs.Bus.{Bus, BusEvent, OfTerminal, OfNetwork, Join, Restart, NewTerminal, bus_step, after_events, interface_of, moves_of, moves_along}
use Rattle.lapd_bus_laws.specs.Holdings.{IsOfBus}
use Rattle.lapd_bus_laws.proofs.Followed.{one_event}
use Rattle.lapd_side_events.proofs.Indices.{set_here, set_there, same_index, equal_index, apart_index}
use Rattle.lapd_restart_laws.specs.RestartRuns.{moved}
use Rattle.lapd_restart_laws.specs.Restarts.{Change, Moves, changes, run_across}
use Rattle.lapd_restart_laws.proofs.AcrossAsMade.{same_without}
use Rattle.lapd_restart_laws.proofs.NewSides.{new_network_restarts, new_user_restarts}
use Rattle.lapd_bus_restart_laws.specs.BusAcross.{restarted_as, step_across, after_across, RestartsNone, changes_of, changes_along, FollowsAcross, IsRestartedBy}

run_both : (c : Configs) (first later : List Change) (k : Interface)
    → run_across c (first ++ later) k ≡ run_across c later (run_across c first k)
run_both c [] later k = refl
run_both c (change ∷ first) later k = run_both c first later (changes c change k)

-- ---- One event.

-- after one event a terminal still exists at this index, and its interface is the one that its
-- changes lead to
pub record FollowsOneAcross (c : Configs) (i : ℕ) (e : BusEvent) (t : SideView User) (b : Bus) :
    Type 0 where
  pub terminal : SideView User
  pub there : slice_get (step_across c e b).terminals i ≡ Some terminal
  pub moved : interface_of terminal (step_across c e b)
      ≡ run_across c (changes_of i e b) (interface_of t b)

module _ (c : Configs) (i : ℕ) (t : SideView User) (b : Bus)
    (at : slice_get b.terminals i ≡ Some t) where
  own_restarts : (new : NewTerminal) → FollowsOneAcross c i (Join i new) t b
  own_restarts new = record {
    terminal = restarted_as c new t;
    there = rw at (set_here b.terminals i (restarted_as c new t) t at);
    moved = rw (at, same_index i) refl;
  }

  other_restarts : (j : ℕ) (new : NewTerminal) (o : Option (SideView User)) → (j == i) ≡ false
      → slice_get b.terminals j ≡ o → FollowsOneAcross c i (Join j new) t b
  other_restarts j new None apart is = record {
    terminal = t;
    there = rw is at;
    moved = rw (is, apart) refl;
  }
  other_restarts j new (Some u) apart is = record {
    terminal = t;
    there = rw is (set_there b.terminals j i (restarted_as c new u) (apart_index j i apart) ∙ at);
    moved = rw (is, apart) refl;
  }

  joins : (j : ℕ) (new : NewTerminal) (test : Bool) → (j == i) ≡ test
      → FollowsOneAcross c i (Join j new) t b
  joins j new true is = subst (λ k. FollowsOneAcross c i (Join k new) t b)
      (sym (equal_index j i is)) (own_restarts new)
  joins j new false is = other_restarts j new (slice_get b.terminals j) is refl

  pub one_across : (e : BusEvent) → IsOfBus e → FollowsOneAcross c i e t b
  one_across (OfTerminal j event) ok =
      let one = one_event c i (OfTerminal j event) t b ok at in
      record {
        terminal = one.terminal;
        there = one.there;
        moved = one.moved
            ∙ sym (same_without c (moves_of i (OfTerminal j event) b) (interface_of t b));
      }
  one_across (OfNetwork j event) ok =
      let one = one_event c i (OfNetwork j event) t b ok at in
      record {
        terminal = one.terminal;
        there = one.there;
        moved = one.moved
            ∙ sym (same_without c (moves_of i (OfNetwork j event) b) (interface_of t b));
      }
  one_across (Join j new) ok = joins j new (j == i) refl
  one_across (Restart known) ok = record { terminal = t; there = at; moved = refl }

-- ---- Every run.

pub follows_across : (c : Configs) (i : ℕ) (events : List BusEvent) (t : SideView User) (b : Bus)
    → AllByRecursion IsOfBus events → slice_get b.terminals i ≡ Some t
    → FollowsAcross c i events t b
follows_across c i [] t b ok at = record { terminal = t; there = at; moved = refl }
follows_across c i (e ∷ es) t b ok at =
    let first = one_across c i t b at e ok.0 in
    let rest = follows_across c i es first.terminal (step_across c e b) ok.1 first.there in
    record {
      terminal = rest.terminal;
      there = rest.there;
      moved = rest.moved
          ∙ ap (run_across c (changes_along c i es (step_across c e b))) first.moved
          ∙ sym (run_both c (changes_of i e b) (changes_along c i es (step_across c e b))
          (interface_of t b));
    }

-- ---- Without restarts.

step_same : (c : Configs) (e : BusEvent) (b : Bus) → RestartsNone e → step_across c e b
    ≡ bus_step c e b
step_same c (OfTerminal j event) b none = refl
step_same c (OfNetwork j event) b none = refl
step_same c (Join j new) b none = absurd none
step_same c (Restart known) b none = absurd none

changes_same : (i : ℕ) (e : BusEvent) (b : Bus) → RestartsNone e → changes_of i e b
    ≡ moved (moves_of i e b)
changes_same i (OfTerminal j event) b none = refl
changes_same i (OfNetwork j event) b none = refl
changes_same i (Join j new) b none = absurd none
changes_same i (Restart known) b none = absurd none

after_same : (c : Configs) (events : List BusEvent) (b : Bus) → AllByRecursion RestartsNone events
    → after_across c events b ≡ after_events c events b
after_same c [] b none = refl
after_same c (e ∷ es) b none = ap (after_across c es) (step_same c e b none.0)
    ∙ after_same c es (bus_step c e b) none.1

along_same : (c : Configs) (i : ℕ) (events : List BusEvent) (b : Bus)
    → AllByRecursion RestartsNone events
    → changes_along c i events b ≡ moved (moves_along c i events b)
along_same c i [] b none = refl
along_same c i (e ∷ es) b none =
    ap (λ later. changes_of i e b ++ changes_along c i es later) (step_same c e b none.0)
    ∙ ap (λ first. first ++ changes_along c i es (bus_step c e b)) (changes_same i e b none.0)
    ∙ ap (λ later. moved (moves_of i e b) ++ later) (along_same c i es (bus_step c e b) none.1)
    ∙ sym (map-append (λ move. Moves move) (moves_of i e b) (moves_along c i es (bus_step c e b)))

pub same_without_restarts : (c : Configs) (i : ℕ) (events : List BusEvent) (b : Bus)
    → AllByRecursion RestartsNone events
    → (after_across c events b ≡ after_events c events b)
    × (changes_along c i events b ≡ moved (moves_along c i events b))
same_without_restarts c i events b none =
    (after_same c events b none, along_same c i events b none)

-- ---- Code.

pub restarted_by : (c : Configs) (i : ℕ) (code : UserSide) (new : NewTerminal) (t : SideView User)
    (b : Bus) → slice_get b.terminals i ≡ Some t
    → ShowUser code c.user (new_user c.user new.fixed new.random) → IsRestartedBy c i code new b
restarted_by c i code new t b at shown = record {
  terminal = restarted_as c new t;
  there = rw at (set_here b.terminals i (restarted_as c new t) t at);
  shown = new_user_restarts code c.user new.fixed new.random t.now shown;
}

pub network_restarted_by : (c : Configs) (code : NetSide) (known : List ℕ) (b : Bus)
    → ShowNetwork code c.network (new_network c.network known)
    → ShowNetwork code c.network (step_across c (Restart known) b).network
network_restarted_by c code known b shown =
    new_network_restarts code c.network known b.network shown
