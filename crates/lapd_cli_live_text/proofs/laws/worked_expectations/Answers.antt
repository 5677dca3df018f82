use Rattle.std.proofs.Common.{refl}
use Rattle.std.specs.Str.{chars, is_utf8}
use Rattle.lapd_cli_live_text.proofs.laws.worked_expectations.Goals as goal

pub returns-clause-expect : goal.returns-clause-expect
unfolding is_utf8 chars lib.Utf8.encode
returns-clause-expect c = refl

pub returns-clause-escaped : goal.returns-clause-escaped
unfolding chars lib.Utf8.encode
returns-clause-escaped c = refl

pub returns-clause-unchanged : goal.returns-clause-unchanged
unfolding chars lib.Utf8.encode
returns-clause-unchanged c = refl

pub returns-clause-past_ascii : goal.returns-clause-past_ascii
unfolding chars lib.Utf8.encode
returns-clause-past_ascii c = refl
