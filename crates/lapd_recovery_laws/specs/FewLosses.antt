-- Few losses: both ends are in state 7 or 8, and fewer frames are lost than each end may still
-- retransmit.
use Rattle.std.specs.Prelude.{◌≡◌, ℕ, ◌+◌, ◌*◌, ◌<◌, ◌≤◌, Bool, true, false, List, [], ◌∷◌, length}
use Rattle.lapd_mod128.specs.Counting.{Reading}
use Rattle.lapd_link_definition.specs.declared.state.State.TheVariants.{TimerRecovery}
use Rattle.lapd_link_definition.specs.EndOfStep.{is_7_or_8}
use Rattle.lapd_link_definition.specs.End.{End}
use Rattle.lapd_pair_laws.specs.Drained.{IsServed}
use Rattle.lapd_pair_laws.specs.Move.{PairEvent, Expire200, Expire203, Move}
use Rattle.lapd_pair_laws.specs.Safe.{AreSafe}
use Rattle.lapd_pair_laws.specs.World.{World, run, left}
use Rattle.lapd_recovery_laws.specs.Agreed.{AreLevel, AreAgreed}
use Rattle.lapd_recovery_laws.specs.Deliveries.{frames, most_deliveries}
use Rattle.lapd_recovery_laws.specs.EarlyTimers.{AreLineMoves}
use Rattle.lapd_recovery_laws.specs.Losses.{AreOwnOrLosses, one_if, losses}
use Rattle.lapd_recovery_laws.specs.Own.{Rests, IsFree}

-- in state 7 or 8, not own receiver busy, and with more retransmissions left than frames are lost
pub record Outlasts (lost : ℕ) (e : End) : Type 0 where
  pub open_state : is_7_or_8 e.state ≡ true
  pub free : IsFree e
  pub retries : lost < e.parameters.n200
  pub tries : e.state ≡ TimerRecovery → e.rc + lost < e.parameters.n200

pub record OutlastLosses (lost : ℕ) (w : World) : Type 0 where
  pub user : Outlasts lost w.user.end
  pub network : Outlasts lost w.network.end

-- both ends are in state 7 or 8, and no message was dropped
pub record StaysOpen (w now : World) : Type 0 where
  pub user : is_7_or_8 now.user.end.state ≡ true
  pub network : is_7_or_8 now.network.end.state ≡ true
  pub user_dropped : now.user.history.dropped ≡ w.user.history.dropped
  pub network_dropped : now.network.history.dropped ≡ w.network.history.dropped

-- The ends agree, both in state 7. Both sides are served: no message was dropped, and each message
-- that was not dropped before is acknowledged. All that is acknowledged was received.
pub record IsUp (before after : World) : Type 0 where
  pub agreed : AreAgreed after
  pub level : AreLevel after.user.end after.network.end
  pub user : IsServed before.user after.user
  pub network : IsServed before.network after.network
  pub safe : AreSafe after

-- The number of own moves and losses that suffices: twice the frames in transit, three for each
-- message left and 12, and for each lost frame what brings the line back from any world behind it.
abbrev pub most_open_moves : ℕ → World → ℕ
most_open_moves lost w = 2 * frames w + 3 * left w + 12 + lost * (4 * left w + 15)

-- how often T200 expires in these moves, and T203
abbrev pub is_t200 : PairEvent → Bool
is_t200 Expire200 = true
is_t200 event = false

abbrev pub t200s : List Move → ℕ
t200s [] = 0
t200s (move ∷ moves) = one_if (is_t200 move.event) + t200s moves

abbrev pub is_t203 : PairEvent → Bool
is_t203 Expire203 = true
is_t203 event = false

abbrev pub t203s : List Move → ℕ
t203s [] = 0
t203s (move ∷ moves) = one_if (is_t203 move.event) + t203s moves

-- At most this often T200 expires if at most `lost` frames are lost: twice for each message left,
-- and once more at each end; as often again for each lost frame; and once for each frame in transit
-- at the start, since an RNR starts T200.
abbrev pub most_t200s : ℕ → World → ℕ
most_t200s lost w = (2 * left w + 2) * (lost + 1) + frames w

-- The number of moves that suffices if T203 expires `idle` times: those by which the line runs
-- empty, for each lost frame one for each message left, and for each timer as many as empty the line
-- again.
abbrev pub most_open_line_moves : ℕ → ℕ → World → ℕ
most_open_line_moves lost idle w =
    most_deliveries w + lost * (left w + 1) + (most_t200s lost w + idle) * (3 * left w + 7)

-- From this world deliveries, losses and expired timers, in any order, are few, if few frames are
-- lost and T203 expires seldom, and T200 does not expire often. Own moves and losses are fewer. Both
-- ends stay in states 7 and 8, and no message is dropped. When no own move is possible any more,
-- the link is up.
pub record KeepsAll (r : Reading) (lost : ℕ) (w : World) : Type 0 where
  pub few_t200s : (moves : List Move) → AreLineMoves r moves w → losses moves ≤ lost
      → t200s moves ≤ most_t200s lost w
  pub few : (moves : List Move) → AreLineMoves r moves w → losses moves ≤ lost
      → length moves ≤ most_open_line_moves lost (t203s moves) w
  pub own_few : (moves : List Move) → AreOwnOrLosses r moves w → losses moves ≤ lost
      → length moves ≤ most_open_moves lost w
  pub stays : (moves : List Move) → AreLineMoves r moves w → losses moves ≤ lost
      → StaysOpen w (run r moves w)
  pub up : (moves : List Move) → AreLineMoves r moves w → losses moves ≤ lost
      → Rests r (run r moves w) → IsUp w (run r moves w)
