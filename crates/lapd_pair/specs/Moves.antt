-- How the moves of the code represent those of the world, and the faults its refusals.
use Rattle.std.specs.Prelude.{◌≡◌, true, is_ok, Result, Err}
use Rattle.lapd_pair_laws.specs.Move.{PairEvent, Refusal, ViewStep, Give, Establish, Release, Deliver, Lose, Expire200, Expire203, Busy, UnitData, Restart, NothingThere, NotRunning, NotYet, Refused}
use Rattle.lapd_pair_laws.specs.Move as world
use Rattle.lapd_pair.specs.declared.moves.Move.{Move}
use Rattle.lapd_pair.specs.declared.moves.Move.TheVariants as moves
use Rattle.lapd_pair.specs.declared.pair_fault.PairFault.{PairFault}
use Rattle.lapd_pair.specs.declared.pair_fault.PairFault.TheVariants as fault

abbrev pub move_of : Move → world.Move
move_of (moves.Give side message) = record { side = side; event = Give message.items }
move_of (moves.Establish side) = record { side = side; event = Establish }
move_of (moves.Release side) = record { side = side; event = Release }
move_of (moves.Deliver side) = record { side = side; event = Deliver }
move_of (moves.Lose side at) = record { side = side; event = Lose at }
move_of (moves.Expire200 side) = record { side = side; event = Expire200 }
move_of (moves.Expire203 side) = record { side = side; event = Expire203 }
move_of (moves.Busy side on) = record { side = side; event = Busy on }
move_of (moves.Unit side octets) = record { side = side; event = UnitData octets.items }
move_of (moves.Restart side) = record { side = side; event = Restart }

-- P1 to P4: the world refuses the move for the same reason. P5: the world admits the move, but an
-- allocation failed.
abbrev pub IsRefusedAs : {X : Type 0} → PairFault → Result X Refusal → Type 0
IsRefusedAs fault.NothingThere outcome = outcome ≡ Err NothingThere
IsRefusedAs fault.NotRunning outcome = outcome ≡ Err NotRunning
IsRefusedAs (fault.NotYet side at) outcome = outcome ≡ Err (NotYet side at)
IsRefusedAs (fault.Refused why) outcome = outcome ≡ Err (Refused why)
IsRefusedAs fault.Memory outcome = is_ok outcome ≡ true
