-- The filled octets are those that the reader returned.
use Rattle.std.proofs.Common.{◌≡◌, ◌≤◌, length, take}
use Rattle.std.specs.Io.KnownBytes.{Consumes}
use Rattle.lapd_capture.proofs.taking.fill.Given as goal

abbrev pub invariant-loop-read : goal.invariant-loop-read
invariant-loop-read g l = record {
  same_length : length l.octets ≡ length l.initial.octets;
  within : l.filled ≤ length l.octets;
  given : Consumes (g.R.Read.remaining l.initial.source) (g.R.Read.remaining l.source)
      (take l.filled l.octets);
}
