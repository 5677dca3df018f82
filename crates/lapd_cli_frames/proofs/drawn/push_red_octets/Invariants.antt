use Rattle.std.proofs.Common.{◌≡◌, ◌++◌, take}
use Rattle.std.specs.Prelude.{flat_map}
use Rattle.lapd_cli_frames.specs.Drawn.{red_octet}
use Rattle.lapd_cli_frames.proofs.drawn.push_red_octets.Given as goal

abbrev pub invariant-loop-octet : goal.invariant-loop-octet
invariant-loop-octet l =
    l.text.items ≡ l.initial.text.items ++ flat_map red_octet (take l.octet-index l.lines)
