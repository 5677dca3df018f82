-- Steps of the loop over link types.
use Rattle.std.proofs.Common.{◌≡◌, ℕ, List, ◌∷◌, Some, None, refl, sym, ap, ◌∙◌}
use Rattle.lapd_capture.specs.declared.interface.Interface.{Interface}
use Rattle.lapd_capture.specs.Reading.{first_unserved, front_unserved}

pub number_passed : (rest behind : List Interface) (interface : Interface)
    → rest ≡ interface ∷ behind → front_unserved rest ≡ None
    → first_unserved rest ≡ first_unserved behind
number_passed rest behind interface e none =
    ap first_unserved e
    ∙ (let here : front_unserved (interface ∷ behind) ≡ None = ap front_unserved (sym e) ∙ none in
    rw here refl)

pub number_found : (rest behind : List Interface) (interface : Interface) (number : ℕ)
    → rest ≡ interface ∷ behind → front_unserved rest ≡ Some number
    → first_unserved rest ≡ Some number
number_found rest behind interface number e found =
    ap first_unserved e
    ∙ (let here : front_unserved (interface ∷ behind) ≡ Some number =
    ap front_unserved (sym e) ∙ found in
    rw here refl)
