use Rattle.std.proofs.Common.{rules}
use Rattle.lapd_port.proofs.device_error.DeviceError.counted.Goals as goal

pub returns-in-Failed : goal.returns-in-Failed
returns-in-Failed c = search rules
