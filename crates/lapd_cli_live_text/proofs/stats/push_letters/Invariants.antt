use Rattle.std.proofs.Common.{◌≡◌, ◌++◌, take}
use Rattle.std.specs.List.{flat_map}
use Rattle.std.specs.String.{string_bytes}
use Rattle.lapd_cli_live_text.specs.Stats.{letter_text}
use Rattle.lapd_cli_live_text.proofs.stats.push_letters.Given as goal

abbrev pub invariant-loop-letter : goal.invariant-loop-letter
invariant-loop-letter l =
    string_bytes l.text ≡ string_bytes l.initial.text
    ++ flat_map (letter_text l.fn.counts) (take l.letter-index l.letters)
