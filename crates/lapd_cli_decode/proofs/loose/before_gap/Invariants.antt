use Rattle.std.proofs.Common.{◌≡◌, ◌++◌, drop, take}
use Rattle.lapd_cli_decode.specs.Loose.{before_gap}
use Rattle.lapd_cli_decode.proofs.loose.before_gap.Given as goal

-- the gap does not begin before `end`
abbrev pub invariant-loop-end : goal.invariant-loop-end
invariant-loop-end l =
    take l.end l.text ++ before_gap l.gap (drop l.end l.text) ≡ before_gap l.gap l.text
