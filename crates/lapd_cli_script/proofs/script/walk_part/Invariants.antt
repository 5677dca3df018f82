use Rattle.std.proofs.Common.{ℕ, ◌+◌, ◌≤◌, ◌++◌, List, length}
use Rattle.lapd_cli_script.specs.WalkState.{walk_lines, HasNoFeed, Walk}
use Rattle.lapd_cli_script.proofs.script.walk_part.Given as goal

abbrev pub invariant-loop-line : goal.invariant-loop-line
invariant-loop-line g l = record {
  counted : l.number + length l.rest ≤ l.initial.number + length l.octets;
  no_feed : HasNoFeed l.cut.items;
  walked : (s : g.C.Command.State) (after : List ℕ) → g.C.Command.represents l.initial.command s
      → (t : g.C.Command.State) × g.C.Command.represents l.command t
      × Walk g.C.Command.step s (walk_lines (l.initial.cut.items ++ l.octets ++ after))
      (walk_lines (l.cut.items ++ l.rest ++ after)) t l.initial.number l.number
      (g.W.Write.contents l.initial.out) (g.W.Write.contents l.out);
}

abbrev pub decreases-loop-line : goal.decreases-loop-line
decreases-loop-line g l = length l.rest
