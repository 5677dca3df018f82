-- Taking octets from a reader whose octets are known.
use Rattle.std.specs.Prelude.{◌≡◌, ℕ, ◌≤◌, ◌<◌, List, [], length, take, drop, Option, Some, Bool, true, false, Result, Ok, Err, ⊤}
use Rattle.lapd_capture.specs.declared.fault.ReadFault.{ReadFault}
use Rattle.lapd_capture.specs.declared.fault.ReadFault.TheVariants.{Capture, Device, Memory}
use Rattle.lapd_capture.specs.declared.taking.Taken.{Taken}
use Rattle.lapd_capture.specs.declared.taking.Taken.TheVariants.{All, Part, Nothing}

-- a fault that says nothing about the capture
abbrev pub IsApart : ReadFault → Type 0
IsApart (Capture fault) = ⊥
IsApart (Device kind) = ⊤
IsApart Memory = ⊤

-- of the octets that are left, these were taken, as many as were requested; or there were fewer
abbrev pub TakesFrom : List ℕ → Result Taken ReadFault → List ℕ → Option (List ℕ) → Type 0
TakesFrom left (Ok All) octets new = (length octets ≤ length left)
    × (octets ≡ take (length octets) left) × (new ≡ Some (drop (length octets) left))
TakesFrom left (Ok Part) octets new = (0 < length left) × (length left < length octets)
TakesFrom left (Ok Nothing) octets new = (left ≡ []) × (new ≡ Some [])
    × (0 < length octets)
TakesFrom left (Err fault) octets new = ⊤

abbrev pub Takes : Option (List ℕ) → Result Taken ReadFault → List ℕ → Option (List ℕ) → Type 0
Takes old result octets new = (left : List ℕ) → old ≡ Some left
    → TakesFrom left result octets new

-- this many octets were skipped, or there were fewer
abbrev pub SkipsFrom : ℕ → List ℕ → Result Bool ReadFault → Option (List ℕ) → Type 0
SkipsFrom count left (Ok true) new = (count ≤ length left) × (new ≡ Some (drop count left))
SkipsFrom count left (Ok false) new = length left < count
SkipsFrom count left (Err fault) new = ⊤

abbrev pub Skips : ℕ → Option (List ℕ) → Result Bool ReadFault → Option (List ℕ) → Type 0
Skips count old result new = (left : List ℕ) → old ≡ Some left → SkipsFrom count left result new
