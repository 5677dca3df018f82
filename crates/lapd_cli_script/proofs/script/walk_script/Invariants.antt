use Rattle.std.proofs.Common.{◌*◌, ◌≤◌}
use Rattle.lapd_cli_script.specs.WalkState.{HasNoFeed, WalkIsAt}
use Rattle.lapd_cli_script.proofs.script.walk_script.Given as goal

abbrev pub invariant-loop-read : goal.invariant-loop-read
invariant-loop-read g l = record {
  counted : l.number ≤ 8192 * l.read;
  no_feed : HasNoFeed l.cut.items;
  walked : (s : g.C.Command.State) → g.C.Command.represents l.initial.command s
      → WalkIsAt g.C.Command.represents g.C.Command.step s (g.R.Read.remaining l.initial.script)
      (g.R.Read.remaining l.script) l.command l.cut.items l.number
      (g.W.Write.contents l.initial.out) (g.W.Write.contents l.out);
}
