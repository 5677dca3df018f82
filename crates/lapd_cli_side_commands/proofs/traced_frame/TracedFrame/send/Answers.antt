use Rattle.std.proofs.Common.{rules}
use Rattle.lapd_cli_side_commands.proofs.traced_frame.TracedFrame.send.Goals as goal

pub returns-clause-text : goal.returns-clause-text
returns-clause-text c = search rules

pub returns-clause-faults : goal.returns-clause-faults
returns-clause-faults g c = search rules

pub returns-clause-device : goal.returns-clause-device
returns-clause-device g c = search rules

pub returns-clause-failed : goal.returns-clause-failed
returns-clause-failed g c = search rules

pub returns-clause-source : goal.returns-clause-source
returns-clause-source g c = search rules
