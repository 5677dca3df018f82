use Rattle.std.proofs.Common.{◌≡◌, ◌<◌, map, take}
use Rattle.std.specs.List.{All}
use Rattle.lapd_cli_values.specs.Interfaces.{AreTeis, teis_written}
use Rattle.lapd_cli_values.proofs.interface_options.listed_teis.Given as goal

abbrev pub invariant-loop-written : goal.invariant-loop-written
invariant-loop-written l =
    let texts = map (λ t. t.now) (take l.written-index l.teis) in
    AreTeis texts × (l.known.items ≡ teis_written texts) × All (λ tei. tei < 127) l.known.items
