-- Octets with a SAPI that is not served, which are read as if it were 0.
use Rattle.std.specs.Prelude.{ℕ, ◌/◌, ◌%◌, ◌&&◌, Bool, false, List, [], ◌∷◌, is_none}
use Rattle.lapd_field.specs.Address.{sapi_at}

-- frames of any SAPI are requested, and these octets have one that is not served
abbrev pub has_other_sapi : Bool → List ℕ → Bool
has_other_sapi any [] = false
has_other_sapi any (first ∷ rest) = any && is_none (sapi_at (first / 4))

-- the SAPI of the octets (Q.921 3.3.3)
abbrev pub sapi_of : List ℕ → ℕ
sapi_of [] = 0
sapi_of (first ∷ rest) = first / 4

-- the same octets with SAPI 0
abbrev pub with_sapi_0 : List ℕ → List ℕ
with_sapi_0 [] = []
with_sapi_0 (first ∷ rest) = first % 4 ∷ rest
