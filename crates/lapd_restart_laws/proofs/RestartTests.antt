-- Tests of the changes of a run with restarts that imply the premises, to compute worked runs.
use Rattle.std.proofs.Common.{◌≡◌, not, ◌&&◌, List, [], ◌∷◌, Bool, true, false}
use Rattle.std.specs.Prelude.{is_some}
use Rattle.std.specs.List.{list_any}
use Rattle.lapd_frame.specs.declared.Side.{Side}
use Rattle.lapd_frame.specs.declared.Side.TheVariants as side
use Rattle.lapd_frame.specs.Address.{other_side}
use Rattle.lapd_table.specs.declared.link_id.LinkId.{LinkId}
use Rattle.lapd_sides_links.specs.Links.{Links}
use Rattle.lapd_sides.specs.Network.{new_network}
use Rattle.lapd_sides.specs.User.{new_user}
use Rattle.lapd_side_events.specs.Interface.{Configs, Interface, by_user, by_network}
use Rattle.lapd_side_events.specs.SideView.{SideView}
use Rattle.lapd_two_side_laws.specs.Premises.{is_removal}
use Rattle.lapd_link_definition.proofs.Sending.{both_true}
use Rattle.lapd_two_side_laws.proofs.MoveTests.{not_so, once_move, once_move_so, timely_move, timely_move_so}
use Rattle.lapd_restart_laws.specs.Exchanges.{is_command, is_answer, is_of_kind_for}
use Rattle.lapd_restart_laws.specs.RestartPremises.{IsQuick, KeepsPremises, KeepPremises}
use Rattle.lapd_restart_laws.specs.Restarts.{Change, Moves, NetworkRestarts, UserRestarts, changes}

-- of a side that has the link now or had it before: whether its TEI was removed, and whether a
-- command of an exchange or an answer is in transit
abbrev quick : Bool → Bool → Bool → Bool → Bool → Bool
quick false had removed command answer = true
quick true false removed command answer = not removed
quick true true removed command answer = not command && not answer

quick_returns : (has had removed command answer : Bool)
    → quick has had removed command answer ≡ true → had ≡ false → has ≡ true → removed ≡ false
quick_returns false had removed command answer h new is = cc
quick_returns true false removed command answer h new is = not_so removed h
quick_returns true true removed command answer h new is = cc

quick_quiet : (has had removed command answer : Bool)
    → quick has had removed command answer ≡ true → had ≡ true → has ≡ true
    → (command ≡ false) × (answer ≡ false)
quick_quiet false had removed command answer h old is = cc
quick_quiet true false removed command answer h old is = cc
quick_quiet true true removed command answer h old is =
    let two = both_true (not command) (not answer) h in (not_so command two.0, not_so answer two.1)

abbrev pub is_quick : {S : Type 0} → Side → LinkId → Links → Links → SideView S → Bool
is_quick s id before new v = quick (is_some (new id)) (is_some (before id))
    (list_any (is_removal id.tei) v.delivered)
    (list_any (is_of_kind_for is_command s id) v.outgoing)
    (list_any (is_of_kind_for is_answer (other_side s) id) v.incoming)

pub is_quick_so : {S : Type 0} (s : Side) (id : LinkId) (before new : Links) (v : SideView S)
    → is_quick s id before new v ≡ true → IsQuick s id before new v
is_quick_so s id before new v h = record {
  returns = quick_returns _ _ _ _ _ h;
  quiet = quick_quiet _ _ _ _ _ h;
}

abbrev keeps : Configs → LinkId → Change → Interface → Bool
keeps c id (Moves move) i = timely_move id move.side move.event i
    && once_move c id move.side move.event i
keeps c id (NetworkRestarts known) i = is_quick side.Network id i.network.served.links
    (new_network c.network known).served.links (by_network i)
keeps c id (UserRestarts fixed random) i = is_quick side.User id i.user.served.links
    (new_user c.user fixed random).served.links (by_user i)

keeps_so : (c : Configs) (id : LinkId) (change : Change) (i : Interface)
    → keeps c id change i ≡ true → KeepsPremises c id change i
keeps_so c id (Moves move) i h =
    let two = both_true (timely_move id move.side move.event i) _ h in (
      timely_move_so id move.side move.event i two.0,
      once_move_so c id move.side move.event i two.1,
    )
keeps_so c id (NetworkRestarts known) i h = is_quick_so side.Network id i.network.served.links
    (new_network c.network known).served.links (by_network i) h
keeps_so c id (UserRestarts fixed random) i h = is_quick_so side.User id i.user.served.links
    (new_user c.user fixed random).served.links (by_user i) h

abbrev pub all_keep : Configs → LinkId → List Change → Interface → Bool
all_keep c id [] i = true
all_keep c id (change ∷ later) i = keeps c id change i && all_keep c id later (changes c change i)

pub keep_premises : (c : Configs) (id : LinkId) (all : List Change) (i : Interface)
    → all_keep c id all i ≡ true → KeepPremises c id all i
keep_premises c id [] i h = tt
keep_premises c id (change ∷ later) i h =
    let two = both_true (keeps c id change i) _ h in
    (keeps_so c id change i two.0, keep_premises c id later (changes c change i) two.1)
