-- Lists whose items are written over in their places.
use Rattle.std.specs.Prelude.{◌≡◌, ◌⊎◌, ◌+◌, ℕ, List, take, drop}

-- the items in use: those from the place `first` to before the place `end`
abbrev pub in_use : {X : Type 0} → ℕ → ℕ → List X → List X
in_use first end items = drop first (take end items)

-- the first item is no longer in use; if it was the only one, the first place is the next
abbrev pub HasFirstRemoved : ℕ → ℕ → ℕ → ℕ → Type 0
HasFirstRemoved first end left stop = ((left ≡ first + 1) × (stop ≡ end))
    ⊎ ((first + 1 ≡ end) × (left ≡ 0) × (stop ≡ 0))
