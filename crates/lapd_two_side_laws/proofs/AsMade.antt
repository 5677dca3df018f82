-- Two newly created sides. Each of their links exists as new or does not exist yet, and they assign
-- or obtain no TEI whose links exist. So each of their links is safe after every run.
use Rattle.std.proofs.Common.{◌≡◌, ℕ, ◌==◌, ◌&&◌, ◌||◌, nat_lt, List, [], ◌∷◌, Bool, true, false, if◌then◌else◌, Option, Some, None, refl, arith, inl, inr, ◌<◌, ◌≤◌}
use Rattle.std.specs.Prelude.{is_some}
use Rattle.std.specs.List.{list_any}
use Rattle.std.proofs.lemmas.Bool.Decides.{nat_tests}
use Rattle.rand_pcg.specs.Lcg.{Lcg}
use Rattle.lapd_frame.specs.declared.Side.{Side}
use Rattle.lapd_frame.specs.declared.Side.TheVariants as side
use Rattle.lapd_tei.specs.Assigner.{is_held, known_held}
use Rattle.lapd_table.specs.declared.link_id.LinkId.{LinkId}
use Rattle.lapd_sides_links.specs.declared.config.Config.{Config}
use Rattle.lapd_sides_links.specs.Links.{Linked, is_served, is_link_of, with_tei, is_held_below, links_below, Links, parameters_for}
use Rattle.lapd_sides.specs.Network.{new_network}
use Rattle.lapd_sides.specs.User.{new_user}
use Rattle.lapd_side_events.specs.Interface.{Configs, Interface, Move, fresh_link, by_user, by_network, side_does, happens, new_interface}
use Rattle.lapd_two_side_laws.specs.Premises.{is_removal, IsMoveGivingTeiOnce, IsMoveLeavingTeiTaken, GiveTeiOnce, LeaveTeiTaken, SatisfyPremisesAsMade}
use Rattle.lapd_side_events.specs.SideView.{SideEvent, does}
use Rattle.lapd_two_side_laws.specs.Projects.{IsSafeAt}
use Rattle.lapd_two_side_laws.proofs.OwnSides.{AreHeld, network_preserves, AreOwn, user_preserves}
use Rattle.lapd_link_definition.proofs.Sending.{both_true}
use Rattle.lapd_two_side_laws.proofs.Timed.{new_is_timed}
use Rattle.lapd_two_side_laws.proofs.Whole.{IsNew, link_safe_as}

-- ---- Newly created sides.

there_so : (test : Bool) (fresh : Linked) → is_some (if test then Some fresh else None) ≡ true
    → test ≡ true
there_so true fresh h = refl
there_so false fresh h = cc

pub new_are_own : (config : Config) (fixed : Option ℕ) (random : Lcg)
    → AreOwn (new_user config fixed random)
unfolding with_tei
new_are_own config None random = λ k there. (let no : false ≡ true = there in cc)
new_are_own config (Some tei) random = λ k there.
    (let tested =
    (both_true (is_served config k.sapi) (k.tei == tei)
    (there_so (is_link_of config tei k) (fresh_link config k) there)).1 in
    grind (arith, nat_tests, tested))

pub new_are_held : (config : Config) (known : List ℕ) → AreHeld (new_network config known)
unfolding links_below
new_are_held config known = λ k there.
    (both_true (nat_lt k.tei 127) (is_held (known_held known).held k.tei)
    (both_true (is_served config k.sapi) (is_held_below (known_held known).held 127 k.tei)
    (there_so (is_served config k.sapi && is_held_below (known_held known).held 127 k.tei)
    (fresh_link config k) there)).1).1

-- ---- Runs.

either_way : (there removed : Bool) (delivered : Bool) → (there ≡ true → delivered ≡ false)
    → (removed ≡ true → delivered ≡ false) → (there || removed) ≡ true → delivered ≡ false
either_way true removed delivered f g h = f refl
either_way false removed delivered f g h = g h

module _ (c : Configs) (id : LinkId) where
  move_once : (who : Side) (event : SideEvent) (i : Interface) → AreOwn i.user → AreHeld i.network
      → IsMoveLeavingTeiTaken c id who event i → IsMoveGivingTeiOnce c id who event i
  move_once side.User event i own held taken = λ h.
      either_way (is_some (i.user.served.links id))
      (list_any (is_removal id.tei) i.delivered_to_user) _
      ((user_preserves c.user (by_user i) event own).quiet id) taken h
  move_once side.Network event i own held taken = λ h.
      either_way (is_some (i.network.served.links id))
      (list_any (is_removal id.tei) i.delivered_to_network) _
      ((network_preserves c.network (by_network i) event held).quiet id) taken h

  pub preserves_own : (who : Side) (event : SideEvent) (i : Interface) → AreOwn i.user
      → AreOwn (side_does c who event i).user
  unfolding does
  preserves_own side.User event i own = (user_preserves c.user (by_user i) event own).after
  preserves_own side.Network event i own = own

  pub preserves_held : (who : Side) (event : SideEvent) (i : Interface) → AreHeld i.network
      → AreHeld (side_does c who event i).network
  unfolding does
  preserves_held side.User event i held = held
  preserves_held side.Network event i held =
      (network_preserves c.network (by_network i) event held).after

  pub given_once : (moves : List Move) (i : Interface) → AreOwn i.user → AreHeld i.network
      → LeaveTeiTaken c id moves i → GiveTeiOnce c id moves i
  given_once [] i own held taken = tt
  given_once (move ∷ moves) i own held taken = (
    move_once move.side move.event i own held taken.0,
    given_once moves (happens c move i) (preserves_own move.side move.event i own)
        (preserves_held move.side move.event i held) taken.1,
  )

-- ---- Each link.

new_by : (config : Config) (id : LinkId) (links : Links) (test : Bool)
    → links id ≡ (if test then Some (fresh_link config id) else None)
    → IsNew (fresh_link config id) links id (parameters_for config id.sapi)
new_by config id links true is =
    inl (record {
      linked = fresh_link config id;
      there = is;
      end = refl;
      timed = new_is_timed (parameters_for config id.sapi) config.durations;
    })
new_by config id links false is = inr (record { absent = is; end = refl })

pub new_of_user : (config : Config) (id : LinkId) (fixed : Option ℕ) (random : Lcg)
    → IsNew (fresh_link config id) (new_user config fixed random).served.links id
    (parameters_for config id.sapi)
unfolding with_tei
new_of_user config id None random = inr (record { absent = refl; end = refl })
new_of_user config id (Some tei) random = new_by config id _ (is_link_of config tei id) refl

pub new_of_network : (config : Config) (id : LinkId) (known : List ℕ)
    → IsNew (fresh_link config id) (new_network config known).served.links id
    (parameters_for config id.sapi)
unfolding links_below
new_of_network config id known =
    new_by config id _
    (is_served config id.sapi && is_held_below (known_held known).held 127 id.tei) refl

pub made_link_safe : (c : Configs) (id : LinkId) (fixed : Option ℕ) (known : List ℕ) (random : Lcg)
    → id.tei < 127 → (parameters_for c.user id.sapi).k ≤ 127
    → (parameters_for c.network id.sapi).k ≤ 127
    → (moves : List Move)
    → SatisfyPremisesAsMade c id moves
    (new_interface (new_user c.user fixed random) (new_network c.network known))
    → IsSafeAt c id moves
    (new_interface (new_user c.user fixed random) (new_network c.network known))
made_link_safe c id fixed known random low few_u few_n moves premises =
    let i = new_interface (new_user c.user fixed random) (new_network c.network known) in
    link_safe_as c id low (parameters_for c.user id.sapi) (parameters_for c.network id.sapi) few_u
    few_n i
    (new_of_user c.user id fixed random) (new_of_network c.network id known) refl refl moves (
      premises.0,
      given_once c id moves i (new_are_own c.user fixed random) (new_are_held c.network known)
          premises.1,
    )
