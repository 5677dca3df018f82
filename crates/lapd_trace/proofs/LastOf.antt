-- The last lines of a list that grows.
use Rattle.std.proofs.Common.{◌≡◌, ℕ, ◌+◌, ◌-◌, List, [], ◌∷◌, ◌++◌, map, length, drop, sym, ap, ◌∙◌, arith}
use Rattle.std.proofs.lemmas.List.{drop-append-le, drop-drop, drop-map, length-drop, length-append, length-map, map-append}
use Rattle.lapd_trace.specs.HistoryLines.{last_of}

-- the last n lines of the last n and one new line are the last n lines of all
pub last_of_more : (n : ℕ) (lines : List (List ℕ)) (line : List ℕ)
    → last_of n (last_of n lines ++ line ∷ []) ≡ last_of n (lines ++ line ∷ [])
last_of_more n lines line =
    let grown : List (List ℕ) = lines ++ line ∷ [] in
    let first : ℕ = length lines - n in
    let more : ℕ = length (drop first lines ++ line ∷ []) - n in
    let preserved : drop first grown ≡ drop first lines ++ line ∷ [] =
    drop-append-le first lines (line ∷ []) (omega arith) in
    let place : first + more ≡ length grown - n =
    omega (
      arith,
      length-append (drop first lines) (line ∷ []),
      length-append lines (line ∷ []),
      length-drop first lines,
    ) in
    ap (λ (t : List (List ℕ)). drop more t) (sym preserved) ∙ drop-drop more first grown
    ∙ ap (λ (k : ℕ). drop k grown) place

-- the octets of the last texts are the last of the octets of all texts
pub last_octets : {Text : Type 0} (octets : Text → List ℕ) (n : ℕ) (texts : List Text) (text : Text)
    → map octets (drop (length (texts ++ text ∷ []) - n) (texts ++ text ∷ []))
    ≡ last_of n (map octets texts ++ octets text ∷ [])
last_octets octets n texts text =
    let all : List _ = texts ++ text ∷ [] in
    sym (drop-map octets (length all - n) all)
    ∙ ap (λ (k : ℕ). drop (k - n) (map octets all)) (sym (length-map all octets))
    ∙ ap (λ lines. last_of n lines) (map-append octets texts (text ∷ []))
