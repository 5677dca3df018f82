use Rattle.std.proofs.Common.{rules}
use Rattle.lapd_frame.proofs.frmr_info.FrmrInfo.read.Goals as goal

pub returns : goal.returns
returns c = search rules
