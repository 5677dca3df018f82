-- The timers of both ends between two moves.
use Rattle.lapd_link_definition.specs.RunningTimers.{HasTimersOfState}
use Rattle.lapd_pair_laws.specs.World.{World}

-- the timers that run are those of the states
pub record HaveTimersOfStates (w : World) : Type 0 where
  pub user : HasTimersOfState w.user.end
  pub network : HasTimersOfState w.network.end
