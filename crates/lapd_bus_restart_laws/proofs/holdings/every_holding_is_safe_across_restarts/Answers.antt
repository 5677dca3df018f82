use Rattle.lapd_bus_restart_laws.proofs.ApartAcross.{reached_across_is_single}
use Rattle.lapd_bus_restart_laws.proofs.HoldingAcross.{one_claimant_across, holding_is_safe_across, holding_is_nobody_elses_across}
use Rattle.lapd_bus_restart_laws.proofs.holdings.every_holding_is_safe_across_restarts.Goals as goal

pub returns : goal.returns
returns c = record {
  single = reached_across_is_single;
  one = one_claimant_across;
  safe = λ c id i b e after t low small_p small_q reached is assigned at only clear keeps.
      holding_is_safe_across c id low i b e after reached is only clear.to_network keeps t assigned
      small_p small_q at (clear.to_terminal t at);
  nobody_elses = λ c id i b e after low reached is only clear keeps.
      holding_is_nobody_elses_across c id low i b e after reached is only clear keeps;
}
