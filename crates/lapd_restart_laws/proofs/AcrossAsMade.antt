-- Two newly created sides, and restarts of them. They assign or obtain no TEI whose links exist. A
-- run without restarts is a run of `lapd_two_side_laws`.
use Rattle.std.proofs.Common.{◌≡◌, ℕ, ◌<◌, ◌≤◌, List, [], ◌∷◌, true, Option, Some, None, refl}
use Rattle.std.specs.Prelude.{is_some}
use Rattle.rand_pcg.specs.Lcg.{Lcg}
use Rattle.lapd_table.specs.declared.link_id.LinkId.{LinkId}
use Rattle.lapd_sides_links.specs.Links.{Linked, parameters_for}
use Rattle.lapd_sides.specs.Network.{new_network}
use Rattle.lapd_sides.specs.User.{new_user}
use Rattle.lapd_side_events.specs.Interface.{Configs, Interface, Move, new_interface, happens, run}
use Rattle.lapd_two_side_laws.proofs.AsMade.{new_are_own, new_are_held, preserves_own, preserves_held, given_once, new_of_user, new_of_network}
use Rattle.lapd_two_side_laws.proofs.OwnSides.{AreHeld, AreOwn}
use Rattle.lapd_restart_laws.specs.RestartPremises.{KeepsPremises, KeepPremises, KeepsPremisesAsMade, KeepPremisesAsMade}
use Rattle.lapd_restart_laws.specs.RestartRuns.{moved}
use Rattle.lapd_restart_laws.specs.Restarts.{Change, Moves, NetworkRestarts, UserRestarts, link_after, changes, run_across}
use Rattle.lapd_restart_laws.specs.SafeAcross.{IsSafeAcross}
use Rattle.lapd_restart_laws.proofs.Across.{safe_across}

-- a side that restarts has the links of a newly created one
only_new : (new before : Option Linked) → is_some (link_after new before) ≡ true
    → is_some new ≡ true
only_new None before there = there
only_new (Some new) before there = refl

module _ (c : Configs) (id : LinkId) where
  keeps_own : (change : Change) (i : Interface) → AreOwn i.user → AreOwn (changes c change i).user
  keeps_own (Moves move) i own = preserves_own c id move.side move.event i own
  keeps_own (NetworkRestarts known) i own = own
  keeps_own (UserRestarts fixed random) i own =
      λ k there. new_are_own c.user fixed random k
      (only_new ((new_user c.user fixed random).served.links k) (i.user.served.links k) there)

  keeps_held : (change : Change) (i : Interface) → AreHeld i.network
      → AreHeld (changes c change i).network
  keeps_held (Moves move) i held = preserves_held c id move.side move.event i held
  keeps_held (NetworkRestarts known) i held =
      λ k there. new_are_held c.network known k
      (only_new ((new_network c.network known).served.links k) (i.network.served.links k) there)
  keeps_held (UserRestarts fixed random) i held = held

  one_so : (change : Change) (i : Interface) → AreOwn i.user → AreHeld i.network
      → KeepsPremisesAsMade c id change i → KeepsPremises c id change i
  one_so (Moves move) i own held h = (h.0, (given_once c id (move ∷ []) i own held (h.1, tt)).0)
  one_so (NetworkRestarts known) i own held h = h
  one_so (UserRestarts fixed random) i own held h = h

  all_so : (all : List Change) (i : Interface) → AreOwn i.user → AreHeld i.network
      → KeepPremisesAsMade c id all i → KeepPremises c id all i
  all_so [] i own held h = tt
  all_so (change ∷ later) i own held h = (
    one_so change i own held h.0,
    all_so later (changes c change i) (keeps_own change i own) (keeps_held change i held) h.1,
  )

pub made_safe_across : (c : Configs) (id : LinkId) (fixed : Option ℕ) (known : List ℕ)
    (random : Lcg) → id.tei < 127 → (parameters_for c.user id.sapi).k ≤ 127
    → (parameters_for c.network id.sapi).k ≤ 127
    → (all : List Change)
    → KeepPremisesAsMade c id all
    (new_interface (new_user c.user fixed random) (new_network c.network known))
    → IsSafeAcross c id all
    (new_interface (new_user c.user fixed random) (new_network c.network known))
made_safe_across c id fixed known random low small_p small_q all premises =
    let i : Interface =
    new_interface (new_user c.user fixed random) (new_network c.network known) in
    safe_across c id low small_p small_q i (new_of_user c.user id fixed random)
    (new_of_network c.network id known) refl refl all
    (all_so c id all i (new_are_own c.user fixed random) (new_are_held c.network known) premises)

-- ---- Without restarts.

pub same_without : (c : Configs) (moves : List Move) (i : Interface)
    → run_across c (moved moves) i ≡ run c moves i
same_without c [] i = refl
same_without c (move ∷ moves) i = same_without c moves (happens c move i)
