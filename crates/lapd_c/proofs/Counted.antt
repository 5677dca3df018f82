-- Counting a list, one item after another.
use Rattle.std.proofs.Common.{◌≡◌, ◌<◌, ℕ, ◌+◌, List, [], ◌∷◌, ◌++◌, get_or, length, map, take, sym, ap, ◌∙◌}
use Rattle.std.specs.List.{fold}
use Rattle.std.proofs.lemmas.List.{map-append, take_more}
use Rattle.std.proofs.lemmas.Grind.{fold-append}

one_taken : {F : Type 0} (items : List F) (at : ℕ) (item : F) → at < length items
    → item ≡ get_or items at item → take (at + 1) items ≡ take at items ++ item ∷ []
one_taken items at item within is =
    take_more items at item within ∙ ap (λ x. take at items ++ x ∷ []) (sym is)

-- one item more is counted
pub item_counted : {F X : Type 0} (count : X → F → X) (items : List F) (at : ℕ) (item : F)
    (first before after : X) → at < length items → item ≡ get_or items at item
    → before ≡ fold count first (take at items) → after ≡ count before item
    → after ≡ fold count first (take (at + 1) items)
item_counted count items at item first before after within is so more =
    more ∙ ap (λ x. count x item) so
    ∙ sym (ap (fold count first) (one_taken items at item within is)
    ∙ fold-append count first (take at items) (item ∷ []))

-- one frame more is counted, by its octets
pub frame_counted : {F X : Type 0} (octets : F → List ℕ) (count : X → List ℕ → X) (frames : List F)
    (at : ℕ) (frame : F) (item : List ℕ) (first before after : X)
    → at < length frames → frame ≡ get_or frames at frame → item ≡ octets frame
    → before ≡ fold count first (map octets (take at frames)) → after ≡ count before item
    → after ≡ fold count first (map octets (take (at + 1) frames))
frame_counted octets count frames at frame item first before after within is says so more =
    let taken : map octets (take (at + 1) frames) ≡ map octets (take at frames) ++ item ∷ [] =
    ap (map octets) (one_taken frames at frame within is)
    ∙ map-append octets (take at frames) (frame ∷ [])
    ∙ ap (λ x. map octets (take at frames) ++ x ∷ []) (sym says) in
    more ∙ ap (λ x. count x item) so
    ∙ sym (ap (fold count first) taken
    ∙ fold-append count first (map octets (take at frames)) (item ∷ []))
