use Rattle.std.proofs.Common.{◌≡◌, ◌≤◌, ◌+◌, length}
use denote.Shadow.{shadow}
use denote.Text.{Utf8}
use Rattle.lapd_cli_script.specs.Line.{words_of}
use Rattle.lapd_cli_live_text.specs.LineObjects.{with_words}
use Rattle.lapd_cli_live_text.specs.LineParts.{parts_of}
use Rattle.lapd_cli_live_text.proofs.line_objects.add_line.Given as goal

abbrev pub invariant-loop-word : goal.invariant-loop-word
invariant-loop-word l = record {
  text : shadow (Utf8 l.rest);
  place : l.place + length l.rest ≤ length l.initial.rest;
  same : with_words l.place (words_of l.rest) (parts_of l.parts)
      ≡ with_words 0 (words_of l.initial.rest) (parts_of l.initial.parts);
}

abbrev pub decreases-loop-word : goal.decreases-loop-word
decreases-loop-word l = length l.rest
