use Rattle.lapd_bus_laws.proofs.Holding.{one_claimant, holding_is_safe, holding_is_nobody_elses}
use Rattle.lapd_bus_laws.proofs.holdings.every_holding_is_safe.Goals as goal

pub returns : goal.returns
returns c = record {
  one = one_claimant;
  safe = λ c id i b e after t low small_p small_q reached is assigned at only clear keeps.
      holding_is_safe c id low i b e after reached is assigned only clear.to_network keeps t small_p
      small_q at (clear.to_terminal t at);
  nobody_elses = λ c id i b e after low reached is assigned only clear keeps.
      holding_is_nobody_elses c id low i b e after reached is assigned only clear keeps;
}
