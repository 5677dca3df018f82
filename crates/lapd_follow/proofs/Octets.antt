-- Lemmas about the octets of a list of frames.
use Rattle.std.proofs.Common.{◌≡◌, ℕ, ◌-◌, List, [], ◌∷◌, ◌++◌, map, length, drop, sym, ap, ◌∙◌}
use Rattle.std.proofs.lemmas.List.{length-map, map-append, drop-map}
use Rattle.std.proofs.lemmas.Option.{slice_get-map}
use Rattle.lapd_follow.specs.Ends.{keep_last}

pub ruleset octets = (length-map, map-append, drop-map, slice_get-map)

-- the octets of the last frames are the last of the octets of all frames
pub last_octets : {X : Type 0} (n : ℕ) (frames : List X) (frame : X) (octets : X → List ℕ)
    → map octets (drop (length (frames ++ frame ∷ []) - n) (frames ++ frame ∷ []))
    ≡ keep_last n (map octets frames ++ octets frame ∷ [])
last_octets n frames frame octets =
    let all : List _ = frames ++ frame ∷ [] in
    sym (drop-map octets (length all - n) all)
    ∙ ap (λ (k : ℕ). drop (k - n) (map octets all)) (sym (length-map all octets))
    ∙ ap (λ kept. keep_last n kept) (map-append octets frames (frame ∷ []))
