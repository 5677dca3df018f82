use Rattle.std.proofs.Common.{rules}
use Rattle.lapd_port.proofs.device_error.DeviceError.of.Goals as goal

pub returns-in-Interrupted : goal.returns-in-Interrupted
returns-in-Interrupted c = search rules
