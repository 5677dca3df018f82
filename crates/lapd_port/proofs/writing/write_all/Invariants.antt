-- The octets that are no longer in the rest were written, in as many calls as are counted.
use Rattle.std.proofs.Common.{◌≡◌, ◌<◌, ℕ, List, ◌++◌, length}
use Rattle.std.specs.Io.KnownBytes.{Appends}
use Rattle.lapd_port.specs.Device.{Turns}
use Rattle.lapd_port.proofs.writing.write_all.Given as goal

abbrev pub invariant-loop-turn : goal.invariant-loop-turn
invariant-loop-turn g l = record {
  written : (front : List ℕ) × (l.initial.rest ≡ front ++ l.rest)
      × Appends (g.W.Sink.written l.initial.sink) (g.W.Sink.written l.sink) front;
  some_left : 0 < length l.rest;
  no_failure : g.W.Sink.failure_count l.sink ≡ g.W.Sink.failure_count l.initial.sink;
  turns : Turns g.W.Sink.turn l._turn l.initial.sink l.sink;
}
