use Rattle.lapd_clock_bus_laws.proofs.SafeOnBus.{fixed_safe, holding_safe, terminal_safe}
use Rattle.lapd_clock_bus_laws.proofs.buses.each_link_of_a_bus_in_time_is_safe.Goals as goal

pub returns : goal.returns
returns c = record {
  terminal = λ c id longest i p q events t b k low positive user network.
      terminal_safe c id low longest positive user network i p q events t b k;
  holding = λ c id longest i b e after t k low positive user network.
      holding_safe c id low longest positive user network i b e after t k;
  fixed = λ c id longest start i known terminals after t low positive user network.
      fixed_safe c id low longest positive user network start i known terminals after t;
}
