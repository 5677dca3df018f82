-- The outcome of a line before the last requested frame.
use Rattle.std.specs.Prelude.{⊤}
use Rattle.std.proofs.Common.{◌≡◌, ℕ, Bool, true, false, if◌then◌else◌, List, Option, Result}
use Rattle.lapd_cli_script.specs.Script.{LineEndsAs, LineOutcome}
use Rattle.lapd_cli_script.specs.declared.script.LineFault.{LineFault}

pub before_the_last : {C S : Type 0} (represents : C → S → Type 0) (test : Bool)
    (skipped next : LineOutcome S) (result : Result ⊤ LineFault) (command : C)
    (old new : Option (List ℕ))
    → test ≡ false → LineEndsAs represents next result command old new
    → LineEndsAs represents (if test then skipped else next) result command old new
before_the_last represents true skipped next result command old new is h = absurd (cc)
before_the_last represents false skipped next result command old new is h = h
