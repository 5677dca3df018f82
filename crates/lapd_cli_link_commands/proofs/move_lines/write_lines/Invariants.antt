use Rattle.std.proofs.Common.{◌≡◌, take}
use Rattle.lapd_cli_link_commands.specs.RepresentsWorld.{made_side_lines}
use Rattle.lapd_pair.specs.Runs.{PairRepresents}
use Rattle.lapd_pair_laws.specs.World.{World, view_of}
use Rattle.lapd_cli_link_commands.proofs.move_lines.write_lines.Given as goal

abbrev pub invariant-loop-given : goal.invariant-loop-given
invariant-loop-given l =
    (w : World) → PairRepresents l.pair w
    → l.text.items
    ≡ made_side_lines l.side (view_of l.side w).station l.unit (take l.given-index l.outs)
