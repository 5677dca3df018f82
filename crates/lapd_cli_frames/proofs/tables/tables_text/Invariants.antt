use Rattle.std.proofs.Common.{◌≡◌, take}
use Rattle.std.specs.String.{string_bytes}
use Rattle.lapd_cli_frames.specs.Tables.{tables_text}
use Rattle.lapd_cli_frames.proofs.tables.tables_text.Given as goal

abbrev pub invariant-loop-link : goal.invariant-loop-link
invariant-loop-link l = string_bytes l.text ≡ tables_text l.style (take l.link-index l.links)
