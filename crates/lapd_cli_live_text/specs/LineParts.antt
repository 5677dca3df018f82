-- The parts of a line, as clauses see them.
use Rattle.std.specs.String.{string_bytes}
use Rattle.serde_json.specs.View.{members_view}
use Rattle.lapd_cli_live_text.specs.declared.line_parts.LineParts.{LineParts}
use Rattle.lapd_cli_live_text.specs.LineObjects.{Parts}

abbrev pub parts_of : LineParts → Parts
parts_of parts = record {
  members = members_view parts.members.entries;
  words = string_bytes parts.words;
}
