use Rattle.std.proofs.Common.{rules}
use Rattle.lapd_frame.proofs.frame.frame_of_fields.Goals as goal

pub returns-in-Ok-Err : goal.returns-in-Ok-Err
returns-in-Ok-Err c = search rules

pub returns-in-Err-default : goal.returns-in-Err-default
returns-in-Err-default c = search rules
