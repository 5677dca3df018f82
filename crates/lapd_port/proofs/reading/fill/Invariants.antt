-- The filled octets are those that the source returned, in as many calls as are counted.
use Rattle.std.proofs.Common.{◌≡◌, ℕ, ◌+◌, ◌-◌, ◌≤◌, length, take}
use Rattle.std.specs.Io.KnownBytes.{Consumes}
use Rattle.lapd_port.specs.Device.{Turns}
use Rattle.lapd_port.proofs.reading.fill.Given as goal

abbrev pub invariant-loop-filled : goal.invariant-loop-filled
invariant-loop-filled g l = record {
  same_length : length l.octets ≡ length l.initial.octets;
  within : l.filled ≤ length l.octets;
  given : Consumes (g.R.Source.rest l.initial.source) (g.R.Source.rest l.source)
      (take l.filled l.octets);
  no_failure : g.R.Source.failure_count l.source ≡ g.R.Source.failure_count l.initial.source;
  turns : (count : ℕ) × Turns g.R.Source.turn count l.initial.source l.source
      × (l.turns ≡ l.initial.turns + count);
  most : l.turns ≤ 4096;
}

abbrev pub decreases-loop-filled : goal.decreases-loop-filled
decreases-loop-filled g l = 4096 - l.turns
