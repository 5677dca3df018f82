use Rattle.std.proofs.Common.{rules}
use Rattle.lapd_capture.proofs.Heads.{joined}
use Rattle.lapd_capture.proofs.capture_reader.head_of.Goals as goal

pub returns : goal.returns
returns c = joined c.args.magic c.args.rest (search rules) (search rules)
