use Rattle.std.proofs.Common.{◌≡◌, ◌<◌, take}
use Rattle.std.specs.List.{All}
use Rattle.lapd_c.proofs.settings.known_teis.Given as goal

abbrev pub invariant-loop-value : goal.invariant-loop-value
invariant-loop-value l = record {
  so_far : l.known.items ≡ take l.value-index l.values;
  own : All (λ tei. tei < 127) l.known.items;
}
