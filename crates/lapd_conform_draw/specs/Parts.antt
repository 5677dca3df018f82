-- A part of a list: the list without some of its elements, in the same order.
use Rattle.std.specs.Prelude.{List, [], ◌∷◌}

pub data Part {A : Type 0} : List A → List A → Type 0 where
  ended : Part [] []
  taken : {x : A} {xs ys : List A} → Part xs ys → Part (x ∷ xs) (x ∷ ys)
  lost : {y : A} {xs ys : List A} → Part xs ys → Part xs (y ∷ ys)
