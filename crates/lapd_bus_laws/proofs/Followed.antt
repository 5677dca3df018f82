-- Each run of a bus is a run of the interface of each terminal.
use Rattle.std.proofs.Common.{◌≡◌, ℕ, ◌==◌, Bool, true, false, List, [], ◌∷◌, ◌++◌, set, Option, Some, None, option_map, refl, sym, ap, subst, ◌∙◌}
use Rattle.std.specs.Prelude.{slice_get}
use Rattle.std.specs.List.{AllByRecursion}
use Rattle.std.proofs.lemmas.Option.{slice_get-map}
use Rattle.lapd_sides.specs.User.{User, new_user}
use Rattle.lapd_side_events.specs.SideView.{SideView, SideEvent, reaction, does}
use Rattle.lapd_side_events.specs.Interface.{Configs, Interface, Move, happens, run, user_behaviour, network_behaviour}
use Rattle.lapd_side_events.specs.Bus.{Bus, BusEvent, OfTerminal, OfNetwork, Join, Restart, NewTerminal, KeepsTerminal, Follows, reached_by, left_of, on_line_of, bus_step, interface_of, moves_of, moves_along}
use Rattle.lapd_side_events.proofs.Indices.{set_here, set_there, same_index, equal_index, apart_index}
use Rattle.lapd_bus_laws.proofs.Overheard.{overhears}

run_append : (c : Configs) (ms ns : List Move) (k : Interface) → run c (ms ++ ns) k
    ≡ run c ns (run c ms k)
run_append c [] ns k = refl
run_append c (m ∷ ms) ns k = run_append c ms ns (happens c m k)

-- ---- One event.

-- after one event a terminal still exists at this index, and its interface is the one that its
-- moves lead to
pub record FollowsOne (c : Configs) (i : ℕ) (e : BusEvent) (t : SideView User) (b : Bus) : Type 0
  where
    pub terminal : SideView User
    pub there : slice_get (bus_step c e b).terminals i ≡ Some terminal
    pub moved : interface_of terminal (bus_step c e b) ≡ run c (moves_of i e b) (interface_of t b)

module _ (c : Configs) (i : ℕ) (event : SideEvent) (t : SideView User) (b : Bus)
    (at : slice_get b.terminals i ≡ Some t) where
  own_terminal : FollowsOne c i (OfTerminal i event) t b
  own_terminal = record {
    terminal = does (user_behaviour c.user) event t;
    there = rw at (set_here b.terminals i (does (user_behaviour c.user) event t) t at);
    moved = rw (at, same_index i) refl;
  }

  other_terminal : (j : ℕ) (o : Option (SideView User)) → (j == i) ≡ false → slice_get b.terminals j
      ≡ o → FollowsOne c i (OfTerminal j event) t b
  other_terminal j None apart is = record {
    terminal = t;
    there = rw is at;
    moved =
        rw (is, apart) refl;
  }
  other_terminal j (Some u) apart is = record {
    terminal = t;
    there = rw is (set_there b.terminals j i (does (user_behaviour c.user) event u)
        (apart_index j i apart) ∙ at);
    moved = rw (is, apart) refl;
  }

  of_terminal : (j : ℕ) (test : Bool) → (j == i) ≡ test → FollowsOne c i (OfTerminal j event) t b
  of_terminal j true is = subst (λ k.
      FollowsOne c i (OfTerminal k event) t b) (sym (equal_index j i is)) own_terminal
  of_terminal j false is = other_terminal j (slice_get b.terminals j) is refl

  abbrev frames_by : SideView User → List (List ℕ)
  frames_by u = (reaction (network_behaviour c.network) event (on_line_of u b)).effects.frames

  pub own_network : FollowsOne c i (OfNetwork i event) t b
  unfolding does
  own_network = record {
    terminal = reached_by (frames_by t) (left_of event t);
    there = rw at (slice_get-map (reached_by (frames_by t)) (set b.terminals i (left_of event t)) i
        ∙ ap (option_map (reached_by (frames_by t))) (set_here b.terminals i (left_of event t) t
        at));
    moved = rw (at, same_index i) refl;
  }

  other_network : (j : ℕ) (o : Option (SideView User)) → (j == i) ≡ false → slice_get b.terminals j
      ≡ o → FollowsOne c i (OfNetwork j event) t b
  other_network j None apart is = record { terminal = t; there = rw is at; moved = rw is refl }
  other_network j (Some u) apart is = record {
    terminal = reached_by (frames_by u) t;
    there = rw is (slice_get-map (reached_by (frames_by u)) (set b.terminals j (left_of event u)) i
        ∙ ap (option_map (reached_by (frames_by u))) (set_there b.terminals j i (left_of event u)
        (apart_index j i apart) ∙ at));
    moved = rw (is, apart) (overhears c event t u b);
  }

  of_network : (j : ℕ) (test : Bool) → (j == i) ≡ test → FollowsOne c i (OfNetwork j event) t b
  of_network j true is = subst (λ k.
      FollowsOne c i (OfNetwork k event) t b) (sym (equal_index j i is)) own_network
  of_network j false is = other_network j (slice_get b.terminals j) is refl

-- another terminal joins
other_joins : (c : Configs) (i j : ℕ) (new : NewTerminal) (t : SideView User) (b : Bus)
    (o : Option (SideView User)) → (j ≡ i → ⊥) → slice_get b.terminals j ≡ o
    → slice_get b.terminals i ≡ Some t → FollowsOne c i (Join j new) t b
other_joins c i j new t b None apart is at = record {
  terminal = t;
  there = rw is at;
  moved = rw is refl;
}
other_joins c i j new t b (Some u) apart is at = record {
  terminal = t;
  there = rw is (set_there b.terminals j i (record u {
    now = new_user c.user new.fixed new.random;
  }) apart ∙ at);
  moved = rw is refl;
}

pub one_event : (c : Configs) (i : ℕ) (e : BusEvent) (t : SideView User) (b : Bus)
    → KeepsTerminal i e → slice_get b.terminals i ≡ Some t → FollowsOne c i e t b
one_event c i (OfTerminal j event) t b ok at = of_terminal c i event t b at j (j == i) refl
one_event c i (OfNetwork j event) t b ok at = of_network c i event t b at j (j == i) refl
one_event c i (Join j new) t b ok at = other_joins c i j new t b (slice_get b.terminals j) ok refl
    at
one_event c i (Restart known) t b ok at = absurd ok

-- ---- Every run.

pub follows : (c : Configs) (i : ℕ) (events : List BusEvent) (t : SideView User) (b : Bus)
    → AllByRecursion (KeepsTerminal i) events → slice_get b.terminals i ≡ Some t
    → Follows c i events t b
follows c i [] t b ok at = record { terminal = t; there = at; moved = refl }
follows c i (e ∷ es) t b ok at =
    let first = one_event c i e t b ok.0 at in
    let rest = follows c i es first.terminal (bus_step c e b) ok.1 first.there in
    record {
      terminal = rest.terminal;
      there = rest.there;
      moved = rest.moved ∙ ap (run c (moves_along c i es (bus_step c e b))) first.moved
          ∙ sym (run_append c (moves_of i e b) (moves_along c i es (bus_step c e b))
          (interface_of t b));
    }
