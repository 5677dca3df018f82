-- The premises on the clock of one link if sides restart. A restart takes no time, and the octets
-- in transit stay there.
use Rattle.std.specs.Prelude.{ℕ, List, [], ◌∷◌, Some, Vec}
use Rattle.std.specs.declared.alloc.Global.{Global}
use Rattle.lapd_table.specs.declared.link_id.LinkId.{LinkId}
use Rattle.lapd_sides.specs.declared.request.Request.TheVariants as request
use Rattle.lapd_sides.specs.Worked as sides
use Rattle.lapd_side_events.specs.Interface.{Configs, Interface}
use Rattle.lapd_side_events.specs.SideView.{Take, Ask}
use Rattle.lapd_two_side_laws.specs.Premises.{IsMoveLeavingTeiTaken}
use Rattle.lapd_two_side_laws.specs.Schedule.{by_network, by_user, call}
use Rattle.lapd_restart_laws.specs.RestartPremises.{KeepsPremises}
use Rattle.lapd_restart_laws.specs.Restarts.{Change, Moves, UserRestarts, changes}
use Rattle.lapd_clock_laws.specs.Clock.{Clock, clock_after}
use Rattle.lapd_clock_laws.specs.InTime.{IsInTime, OfMove, OverhearsOthers}

abbrev pub clock_across : Configs → Change → Interface → Clock → Clock
clock_across c (Moves move) i k = clock_after c move.side move.event i k
clock_across c restart i k = k

abbrev pub IsChangeInTime : ℕ → LinkId → Change → Interface → Clock → Type 0
IsChangeInTime longest id (Moves move) i k =
    OfMove (IsInTime longest id) move.side move.event i k
IsChangeInTime longest id restart i k = Unit {0}

abbrev pub AreInTimeAcross : ℕ → Configs → LinkId → List Change → Interface → Clock → Type 0
AreInTimeAcross longest c id [] i k = Unit {0}
AreInTimeAcross longest c id (change ∷ later) i k = IsChangeInTime longest id change i k
    × AreInTimeAcross longest c id later (changes c change i) (clock_across c change i k)

-- octets that a side overhears do not belong to the link
abbrev pub ChangeOverhearsOthers : LinkId → Change → Type 0
ChangeOverhearsOthers id (Moves move) = OverhearsOthers id move.side move.event
ChangeOverhearsOthers id restart = Unit {0}

abbrev pub OverhearOthersAcross : LinkId → List Change → Type 0
OverhearOthersAcross id [] = Unit {0}
OverhearOthersAcross id (change ∷ later) = ChangeOverhearsOthers id change
    × OverhearOthersAcross id later

-- the premises of a change (`KeepsPremisesAsMade`), but that T200 waits
abbrev pub KeepsTeiAsMade : Configs → LinkId → Change → Interface → Type 0
KeepsTeiAsMade c id (Moves move) i = IsMoveLeavingTeiTaken c id move.side move.event i
KeepsTeiAsMade c id restart i = KeepsPremises c id restart i

abbrev pub KeepTeiAsMade : Configs → LinkId → List Change → Interface → Type 0
KeepTeiAsMade c id [] i = Unit {0}
KeepTeiAsMade c id (change ∷ later) i =
    KeepsTeiAsMade c id change i × KeepTeiAsMade c id later (changes c change i)

-- ---- A worked run.

-- A message is in transit when the user restarts, and is received after 500 ms. The link is
-- established anew, and the answer to the SABME arrives when T200 is due.
abbrev pub restarts_at_half : Vec ℕ Global → List Change
restarts_at_half message = Moves (by_user (Ask (request.Establish call) 0))
    ∷ Moves (by_network (Take 500)) ∷ Moves (by_user (Take 1000))
    ∷ Moves (by_user (Ask (request.Give call message) 1000))
    ∷ UserRestarts (Some 64) sides.random ∷ Moves (by_network (Take 1500))
    ∷ Moves (by_user (Ask (request.Establish call) 1500)) ∷ Moves (by_user (Take 2000))
    ∷ Moves (by_network (Take 2000)) ∷ Moves (by_user (Take 2500)) ∷ []
