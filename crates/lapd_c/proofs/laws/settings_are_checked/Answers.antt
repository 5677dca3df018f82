use Rattle.lapd_c.proofs.WrongSetting.{checked}
use Rattle.lapd_c.proofs.laws.settings_are_checked.Goals as goal

pub returns : goal.returns
returns c = checked
