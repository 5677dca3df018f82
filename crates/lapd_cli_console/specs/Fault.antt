-- Remembering failed calls of a reader or a writer.
use Rattle.std.specs.Prelude.{◌≡◌, ◌≢◌, Option, Some, Result, Ok, Err}
use Rattle.std.specs.IoError.{error_kind}
use Rattle.std.specs.declared.io.Error.{Error}
use Rattle.std.specs.declared.io.ErrorKind.{ErrorKind}
use Rattle.std.specs.declared.io.ErrorKind.TheVariants.{Interrupted}

-- how a call's result changes the remembered fault: an interruption is ignored, and any other error
-- is remembered by its kind
abbrev pub Remembers : {X : Type 0} → Option ErrorKind → Option ErrorKind → Result X Error → Type 0
Remembers old new (Ok x) = new ≡ old
Remembers old new (Err e) = (error_kind e ≡ Interrupted → new ≡ old)
    × (error_kind e ≢ Interrupted → new ≡ Some (error_kind e))
