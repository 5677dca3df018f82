use Rattle.std.proofs.Common.{◌≡◌, ◌++◌, take}
use Rattle.std.specs.List.{flat_map}
use Rattle.std.specs.String.{string_bytes}
use Rattle.lapd_cli_live_text.specs.Stats.{kind_text}
use Rattle.lapd_cli_live_text.proofs.traffic.push_kinds.Given as goal

abbrev pub invariant-loop-kind : goal.invariant-loop-kind
invariant-loop-kind l =
    string_bytes l.text ≡ string_bytes l.initial.text
    ++ flat_map (kind_text l.fn.counts) (take l.kind-index l.kinds)
