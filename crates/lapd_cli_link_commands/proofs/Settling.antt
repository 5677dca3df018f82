-- A line of `pair` that is neither `settle` nor `recover` ends as the move that it names.
use Rattle.std.proofs.Common.{◌≡◌, ℕ, List, Option, Some, Result, Ok, Err, Bool, true, false, if◌then◌else◌, sym, subst}
use Rattle.std.specs.Prelude.{⊤, codes}
use Rattle.std.specs.Str.{bytes_eq}
use Rattle.lapd_cli_script.specs.Script.{LineEndsAs, LineOutcome}
use Rattle.lapd_cli_script.specs.declared.script.LineFault.{LineFault}
use Rattle.lapd_cli_script.specs.declared.script.LineFault.TheVariants.{Bad, Device, Memory}
use Rattle.lapd_pair_laws.specs.World.{World}
use Rattle.lapd_cli_link_commands.specs.declared.settler.Settler.{Settler}
use Rattle.lapd_cli_link_commands.specs.Pair.{move_step, pair_step, recover_made, settle_made}
use Rattle.lapd_cli_link_commands.specs.RepresentsWorld.{IsMover, IsSettler}

-- a line ends for the command as it does for its mover
ends_around : (o : LineOutcome World) (result : Result ⊤ LineFault) (settler : Settler)
    (old new : Option (List ℕ))
    → LineEndsAs IsMover o result settler.mover old new
    → LineEndsAs IsSettler o result settler old new
ends_around o (Ok done) settler old new h = h
ends_around o (Err Bad) settler old new h = h
ends_around o (Err Memory) settler old new h = h
ends_around o (Err Device) settler old new h = tt

abbrev Ends : LineOutcome World → Result ⊤ LineFault → Settler → Option (List ℕ) → Option (List ℕ)
    → Type 0
Ends o result settler old new = LineEndsAs IsSettler o result settler old new

module _ (w : World) (line : List ℕ) (result : Result ⊤ LineFault) (settler : Settler)
    (old new : Option (List ℕ)) where
  -- a line that is not `settle` ends as the rest of the choice
  abbrev Rest : Type 0
  Rest =
      Ends (if bytes_eq line (codes "recover") then Some (recover_made w) else move_step w line)
      result settler old new

  past_settle : (is : Bool) → is ≡ bytes_eq line (codes "settle") → is ≡ false → Rest
      → Ends (pair_step w line) result settler old new
  past_settle is same e h =
      let P : Bool → Type 0 =
      λ b. Ends (if b then Some (settle_made w)
      else (if bytes_eq line (codes "recover") then Some (recover_made w)
      else move_step w line)) result settler old new in
      subst P same (subst P (sym e) h)

  at_recover : (is choice : Bool) → is ≡ bytes_eq line (codes "recover") → is ≡ choice
      → Ends (if choice then Some (recover_made w) else move_step w line) result settler old new
      → Rest
  at_recover is choice same e h =
      let P : Bool → Type 0 =
      λ b. Ends (if b then Some (recover_made w) else move_step w line) result settler old
      new in
      subst P same (subst P (sym e) h)

  pub recover_made_around : (settle recover : Bool) → settle ≡ bytes_eq line (codes "settle")
      → settle ≡ false → recover ≡ bytes_eq line (codes "recover") → recover ≡ true
      → LineEndsAs IsMover (Some (recover_made w)) result settler.mover old new
      → Ends (pair_step w line) result settler old new
  recover_made_around settle recover a b c d h =
      past_settle settle a b
      (at_recover recover true c d (ends_around (Some (recover_made w)) result settler old new h))

  pub move_made_around : (settle recover : Bool) → settle ≡ bytes_eq line (codes "settle")
      → settle ≡ false → recover ≡ bytes_eq line (codes "recover") → recover ≡ false
      → LineEndsAs IsMover (move_step w line) result settler.mover old new
      → Ends (pair_step w line) result settler old new
  move_made_around settle recover a b c d h =
      past_settle settle a b
      (at_recover recover false c d (ends_around (move_step w line) result settler old new h))
