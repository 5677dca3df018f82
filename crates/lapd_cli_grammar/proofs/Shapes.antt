-- The form of a word, by its shape.
use Rattle.std.proofs.Common.{◌≡◌, ℕ, List, [], ◌∷◌, map, true, false, refl, cond, Some}
use Rattle.std.specs.Prelude.{option_map, find}
use Rattle.std.specs.Str.{bytes_eq}
use Rattle.lapd_cli_grammar.specs.declared.form.Form.{Form}
use Rattle.lapd_cli_grammar.specs.Forms.{shape_of}

pub shape_found : (word : List ℕ) (forms : List Form)
    → option_map shape_of (find (λ form. bytes_eq word form.word.now) forms)
    ≡ find (λ shape. bytes_eq word shape.0) (map shape_of forms)
shape_found word [] = refl
shape_found word (form ∷ forms) =
    elim (bytes_eq word form.word.now)
    as (λ b. option_map shape_of (cond b (Some form) (find (λ f. bytes_eq word f.word.now) forms)) ≡
    cond b (Some (shape_of form))
    (find (λ shape. bytes_eq word shape.0) (map shape_of forms)))
    [ true ↦ refl | false ↦ shape_found word forms ]
