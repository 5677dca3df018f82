use Rattle.std.proofs.Common.{◌≡◌}
use Rattle.std.specs.Prelude.{encode_utf8_all}
use Rattle.std.specs.List.{flat_map}
use Rattle.std.specs.String.{string_bytes}
use Rattle.lapd_cli_live_text.specs.AwaitedText.{shown_char}
use Rattle.lapd_cli_live_text.proofs.awaited.shown.Given as goal

abbrev pub invariant-loop-character : goal.invariant-loop-character
invariant-loop-character l = string_bytes l.shown ≡ encode_utf8_all (flat_map shown_char l.yielded)
