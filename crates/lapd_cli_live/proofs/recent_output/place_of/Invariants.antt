use Rattle.std.proofs.Common.{◌≡◌, take, drop}
use Rattle.std.specs.Prelude.{false}
use Rattle.std.specs.List.{list_any}
use Rattle.lapd_cli_live.specs.RecentOutput.{begins_with, line_octets, lines_behind}
use Rattle.lapd_cli_live.proofs.recent_output.place_of.Given as goal

abbrev pub invariant-loop-place : goal.invariant-loop-place
invariant-loop-place l = record {
  none : list_any (begins_with l.words) (take l.place l.lines) ≡ false;
  left : lines_behind l.words (line_octets (drop l.place l.lines))
      ≡ lines_behind l.words (line_octets l.lines);
}
