-- A line that was executed, with its output printed in full.
use Rattle.std.specs.Prelude.{⊤}
use Rattle.std.proofs.Common.{ℕ, List, Option, Some, Result, Ok, Err, OnOk, IsOkUnless}
use Rattle.std.specs.Io.KnownBytes.{Appends}
use Rattle.lapd_cli_script.specs.Script.{LineEndsAs}
use Rattle.lapd_cli_script.specs.declared.script.LineFault.{LineFault}
use Rattle.lapd_cli_script.specs.declared.script.LineFault.TheVariants.{Bad, Device, Memory}

-- if only the writer can fail, the line ends as specified and the command is in the next state
pub printed : {C S : Type 0} (represents : C → S → Type 0) (text : List ℕ) (next : S)
    (result : Result ⊤ LineFault) (command : C) (old new : Option (List ℕ))
    → represents command next → OnOk result (Appends old new text) → IsOkUnless result Device
    → LineEndsAs represents (Some (text, next)) result command old new
printed represents text next (Ok done) command old new h ok err = (h, ok)
printed represents text next (Err Bad) command old new h ok err = cc
printed represents text next (Err Memory) command old new h ok err = cc
printed represents text next (Err Device) command old new h ok err = tt
