-- A script that ran to its end, followed by the closing lines.
use Rattle.std.specs.Prelude.{⊤}
use Rattle.std.proofs.Common.{◌≡◌, ℕ, List, ◌++◌, Option, Some, None, Result, Ok, Err, OnOk, IfSome, IsOkUnless, ◌∙◌, ap, refl, sym, subst}
use Rattle.std.proofs.lemmas.List.{append_assoc}
use Rattle.std.specs.Io.KnownBytes.{Appends}
use Rattle.lapd_cli_script.specs.Script.{EndsAs, Step, lines_of, state_after}
use Rattle.lapd_cli_script.specs.declared.script.ScriptFault.{ScriptFault}
use Rattle.lapd_cli_script.specs.declared.script.ScriptFault.TheVariants.{Device}
use Rattle.lapd_cli_link_commands.specs.Pair.{ClosesAs, closing_lines}
use Rattle.lapd_pair_laws.specs.World.{World}

-- two texts appended one after the other
pub appends_both : (old mid new : Option (List ℕ)) (first second : List ℕ) → Appends old mid first
    → Appends mid new second → Appends old new (first ++ second)
appends_both None mid new first second h k = tt
appends_both (Some xs) None new first second h k = elim h [ ]
appends_both (Some xs) (Some ys) None first second h k = k
appends_both (Some xs) (Some ys) (Some zs) first second h k =
    k ∙ ap (λ bytes. bytes ++ second) h ∙ append_assoc xs first second

ended : (step : Step World) (w v : World) (result : Result ⊤ ScriptFault) (lines : List (List ℕ))
    (old mid new : Option (List ℕ))
    → v ≡ state_after step w lines → EndsAs step w (Ok tt) lines old mid
    → OnOk result (Appends mid new (closing_lines v)) → IsOkUnless result Device
    → ClosesAs step w result lines old new
ended step w v (Ok done) lines old mid new is walked close err = (
  walked.0,
  appends_both old mid new _ _ walked.1
      (subst (λ after. Appends mid new (closing_lines after)) is close),
)
ended step w v (Err fault) lines old mid new is walked close err =
    subst (λ f. ClosesAs step w (Err f) lines old new) (sym err) tt

-- a run to the end of its script, and then the closing lines
pub closed : {M : Type 0} (step : Step World) (represents : M → World → Type 0)
    (known : Option (List ℕ)) (w : World) (mover : M) (result : Result ⊤ ScriptFault)
    (old mid new : Option (List ℕ))
    → IfSome known (λ octets. EndsAs step w (Ok tt) (lines_of octets) old mid)
    → IfSome known (λ octets. represents mover (state_after step w (lines_of octets)))
    → ((v : World) → represents mover v → OnOk result (Appends mid new (closing_lines v)))
    → IsOkUnless result Device
    → IfSome known (λ octets. ClosesAs step w result (lines_of octets) old new)
closed step represents None w mover result old mid new walked representation close err = tt
closed step represents (Some octets) w mover result old mid new walked representation close err =
    ended step w _ result (lines_of octets) old mid new refl walked (close _ representation) err
