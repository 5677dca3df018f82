-- Tests of the moves of a run that imply the premises of one link, to compute worked runs.
use Rattle.std.proofs.Common.{◌≡◌, not, ◌&&◌, List, [], ◌∷◌, Bool, true, false, refl}
use Rattle.std.specs.Prelude.{◌||◌, is_some}
use Rattle.std.specs.List.{list_any}
use Rattle.lapd_link_definition.proofs.Sending.{both_true}
use Rattle.lapd_frame.specs.declared.Side.{Side}
use Rattle.lapd_frame.specs.declared.Side.TheVariants as side
use Rattle.lapd_frame.specs.Address.{other_side}
use Rattle.lapd_table.specs.declared.link_id.LinkId.{LinkId}
use Rattle.lapd_side_events.specs.Interface.{Configs, Interface, Move, by_user, by_network, happens, user_behaviour, network_behaviour}
use Rattle.lapd_side_events.specs.SideView.{Behaviour, SideView, SideEvent, Take, Lose, Expire, Ask, Overhear, reaction}
use Rattle.lapd_two_side_laws.specs.Addressed.{is_poll_for, is_final_for}
use Rattle.lapd_two_side_laws.specs.Premises.{AreTimely, GiveTeiOnce, GivesTeiOnce, IsMoveGivingTeiOnce, IsTimely, IsTimelyMove, is_assignment, is_removal}

pub not_so : (a : Bool) → not a ≡ true → a ≡ false
not_so true h = cc
not_so false h = refl

-- ---- T200 waits for its answer.

abbrev pub is_timely : {S : Type 0} → Side → LinkId → SideEvent → SideView S → Bool
is_timely s id (Expire timer of now) v = not (list_any (is_poll_for s id) v.outgoing)
    && not (list_any (is_final_for (other_side s) id) v.incoming)
is_timely s id (Overhear octets now) v = false
is_timely s id event v = true

pub is_timely_so : {S : Type 0} (s : Side) (id : LinkId) (event : SideEvent) (v : SideView S)
    → is_timely s id event v ≡ true → IsTimely s id event v
is_timely_so s id (Take now) v h = tt
is_timely_so s id (Lose at) v h = tt
is_timely_so s id (Expire timer of now) v h = λ its own.
    (let two = both_true (not (list_any (is_poll_for s id) v.outgoing))
    (not (list_any (is_final_for (other_side s) id) v.incoming)) h in
    (not_so _ two.0, not_so _ two.1))
is_timely_so s id (Ask request now) v h = tt
is_timely_so s id (Overhear octets now) v h = cc

-- ---- The TEI is given once.

abbrev gives_once : {S : Type 0} → Behaviour S → LinkId → SideEvent → SideView S → Bool
gives_once w id event v =
    not (is_some ((w.served v.now).links id) || list_any (is_removal id.tei) v.delivered)
    || not (list_any (is_assignment id.tei) (reaction w event v).effects.primitives)

gives_once_so : {S : Type 0} (w : Behaviour S) (id : LinkId) (event : SideEvent) (v : SideView S)
    → gives_once w id event v ≡ true → GivesTeiOnce w id event v
gives_once_so w id event v h = by _ _ h
  where
    by : (a b : Bool) → (not a || not b) ≡ true → a ≡ true → b ≡ false
    by true b h past = not_so b h
    by false b h past = cc

-- ---- The moves of a run.

abbrev pub timely_move : LinkId → Side → SideEvent → Interface → Bool
timely_move id side.User event i = is_timely side.User id event (by_user i)
timely_move id side.Network event i = is_timely side.Network id event (by_network i)

pub timely_move_so : (id : LinkId) (s : Side) (event : SideEvent) (i : Interface)
    → timely_move id s event i ≡ true → IsTimelyMove id s event i
timely_move_so id side.User event i h = is_timely_so side.User id event (by_user i) h
timely_move_so id side.Network event i h = is_timely_so side.Network id event (by_network i) h

abbrev pub once_move : Configs → LinkId → Side → SideEvent → Interface → Bool
once_move c id side.User event i = gives_once (user_behaviour c.user) id event (by_user i)
once_move c id side.Network event i =
    gives_once (network_behaviour c.network) id event (by_network i)

pub once_move_so : (c : Configs) (id : LinkId) (s : Side) (event : SideEvent) (i : Interface)
    → once_move c id s event i ≡ true → IsMoveGivingTeiOnce c id s event i
once_move_so c id side.User event i h =
    gives_once_so (user_behaviour c.user) id event (by_user i) h
once_move_so c id side.Network event i h =
    gives_once_so (network_behaviour c.network) id event (by_network i) h

abbrev pub all_timely : Configs → LinkId → List Move → Interface → Bool
all_timely c id [] i = true
all_timely c id (move ∷ moves) i = timely_move id move.side move.event i
    && all_timely c id moves (happens c move i)

pub are_timely : (c : Configs) (id : LinkId) (moves : List Move) (i : Interface)
    → all_timely c id moves i ≡ true → AreTimely c id moves i
are_timely c id [] i h = tt
are_timely c id (move ∷ moves) i h =
    let two = both_true (timely_move id move.side move.event i) _ h in (
      timely_move_so id move.side move.event i two.0,
      are_timely c id moves (happens c move i) two.1,
    )

abbrev pub all_once : Configs → LinkId → List Move → Interface → Bool
all_once c id [] i = true
all_once c id (move ∷ moves) i = once_move c id move.side move.event i
    && all_once c id moves (happens c move i)

pub give_once : (c : Configs) (id : LinkId) (moves : List Move) (i : Interface)
    → all_once c id moves i ≡ true → GiveTeiOnce c id moves i
give_once c id [] i h = tt
give_once c id (move ∷ moves) i h =
    let two = both_true (once_move c id move.side move.event i) _ h in (
      once_move_so c id move.side move.event i two.0,
      give_once c id moves (happens c move i) two.1,
    )
