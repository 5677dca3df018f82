use Rattle.lapd_bus_restart_laws.proofs.HoldingAcross.{first_is_safe_across, first_is_nobody_elses_across}
use Rattle.lapd_bus_restart_laws.proofs.holdings.each_fixed_tei_is_safe_across_restarts.Goals as goal

pub returns : goal.returns
returns c = record {
  safe = λ c id i known terminals after t low small_p small_q at only keeps.
      first_is_safe_across c id low i known terminals after only keeps t small_p small_q at;
  nobody_elses = λ c id i known terminals after low only keeps.
      first_is_nobody_elses_across c id low i known terminals after only keeps;
}
