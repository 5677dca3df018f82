-- How a refused move is printed.
use Rattle.std.proofs.Common.{◌≡◌, ℕ, List, Option, Some, Result, Ok, Err, OnOk, sym, subst}
use Rattle.std.specs.Prelude.{⊤}
use Rattle.std.specs.Result.{IsOkUnless}
use Rattle.std.specs.Io.KnownBytes.{Appends}
use Rattle.lapd_mod128.specs.Counting.{Tagged}
use Rattle.lapd_pair.specs.declared.pair_fault.PairFault.{PairFault}
use Rattle.lapd_pair.specs.Moves.{IsRefusedAs}
use Rattle.lapd_cli_script.specs.Script.{LineEndsAs}
use Rattle.lapd_cli_script.specs.declared.script.LineFault.{LineFault}
use Rattle.lapd_cli_script.specs.declared.script.LineFault.TheVariants.{Bad, Device, Memory}
use Rattle.lapd_pair_laws.specs.Move.{Move, Refusal}
use Rattle.lapd_pair_laws.specs.World.{Happened, World, happens}
use Rattle.lapd_cli_link_commands.specs.declared.mover.Mover.{Mover}
use Rattle.lapd_cli_link_commands.specs.Pair.{move_made, move_printed, not_admitted}
use Rattle.lapd_cli_link_commands.specs.RepresentsWorld.{IsMover}

-- the text of the refusal is the specified result of the line
pub refusal_printed : (w : World) (move : Move) (refusal : Refusal) (result : Result ⊤ LineFault)
    (mover : Mover) (old new : Option (List ℕ))
    → happens Tagged move w ≡ Err refusal → IsMover mover w
    → OnOk result (Appends old new (not_admitted refusal)) → IsOkUnless result Device
    → LineEndsAs IsMover (Some (move_made w move)) result mover old new
refusal_printed w move refusal (Ok done) mover old new e representation printed ends =
    let P : Result Happened Refusal → Type 0 =
    λ outcome. LineEndsAs IsMover (Some (move_printed w move outcome)) (Ok done) mover old
    new in
    subst P (sym e) (representation, printed)
refusal_printed w move refusal (Err Device) mover old new e representation printed ends = tt
refusal_printed w move refusal (Err Bad) mover old new e representation printed ends = absurd cc
refusal_printed w move refusal (Err Memory) mover old new e representation printed ends = absurd cc

-- two names of the same kind of refusal
pub refused_as : (fault known : PairFault) (outcome : Result Happened Refusal) → fault ≡ known
    → IsRefusedAs fault outcome → IsRefusedAs known outcome
refused_as fault known outcome e refused =
    let P : PairFault → Type 0 = λ f. IsRefusedAs f outcome in subst P e refused
