-- Sources and sinks (devices): how they count their failures, and their calls (turns).
use Rattle.std.specs.Prelude.{◌≡◌, ℕ, ◌+◌, ◌-◌, ◌^◌, min, zero, suc, Result, Ok, Err}
use Rattle.std.specs.declared.io.ErrorKind.{ErrorKind}
use Rattle.std.specs.declared.io.ErrorKind.TheVariants.{Interrupted as KindInterrupted}
use Rattle.lapd_port.specs.declared.device_error.DeviceError.{DeviceError}
use Rattle.lapd_port.specs.declared.device_error.DeviceError.TheVariants.{Interrupted, Failed}

-- an error of std, as an error of a source or sink
abbrev pub device_error_of : ErrorKind → DeviceError
device_error_of KindInterrupted = Interrupted
device_error_of _ = Failed

-- the count of failures after an error: a failure adds one, up to the greatest value
abbrev pub failures_after : DeviceError → ℕ → ℕ
failures_after Interrupted count = count
failures_after Failed count = min (count + 1) (2 ^ 64 - 1)

-- a call of a device counts a failure exactly if it returns one
abbrev pub CountsFailures : Result ℕ DeviceError → ℕ → ℕ → Type 0
CountsFailures (Ok octets) old new = new ≡ old
CountsFailures (Err error) old new = new ≡ failures_after error old

-- this many calls lead from one state of a device to another
abbrev pub Turns : {D : Type 0} → (D → D → Type 0) → ℕ → D → D → Type 0
Turns turn zero old new = new ≡ old
Turns {D} turn (suc count) old new = (mid : D) × Turns turn count old mid × turn mid new
