use Rattle.lapd_bus_laws.proofs.Holding.{first_is_safe, first_is_nobody_elses}
use Rattle.lapd_bus_laws.proofs.holdings.each_fixed_tei_is_safe.Goals as goal

pub returns : goal.returns
returns c = record {
  safe = λ c id i known terminals after t low small_p small_q at only keeps.
      first_is_safe c id low i known terminals after only keeps t small_p small_q at;
  nobody_elses = λ c id i known terminals after low only keeps.
      first_is_nobody_elses c id low i known terminals after only keeps;
}
