-- Frames that pass through the port one after another.
use Rattle.std.proofs.Common.{◌≡◌, ℕ, zero, suc, List, [], ◌∷◌, ◌++◌, ◌+◌, ◌<◌, Option, Result, Ok, Err, OnOk, append_assoc, ap, sym, subst, ◌∙◌, refl, length, take, drop, map, get_or}
use Rattle.std.proofs.lemmas.List.{map-append, take_more}
use Rattle.std.proofs.KnownBytes.{Appends-nil, Appends-trans, Consumes-nil, Consumes-trans}
use Rattle.std.specs.Io.KnownBytes.{Appends, Consumes}
use Rattle.lapd_port.specs.SocketText.{frame_text, socket_text}
use Rattle.lapd_cli_link_commands.specs.Crossing.{HaveCrossed}

-- the octets on the socket of two lists of frames
socket_text-both : (first second : List (List ℕ))
    → socket_text (first ++ second) ≡ socket_text first ++ socket_text second
socket_text-both [] second = refl
socket_text-both (frame ∷ first) second =
    ap (λ text. frame_text frame ++ text) (socket_text-both first second)
    ∙ sym (append_assoc (frame_text frame) (socket_text first) (socket_text second))

-- no frame
pub none_crossed : (rest written : Option (List ℕ)) → HaveCrossed rest rest written written []
none_crossed rest written = (Consumes-nil rest, Appends-nil written)

-- two lists of frames, one after the other
pub both_crossed : (rest mid left written more grown : Option (List ℕ))
    (first second : List (List ℕ)) → HaveCrossed rest mid written more first
    → HaveCrossed mid left more grown second
    → HaveCrossed rest left written grown (first ++ second)
both_crossed rest mid left written more grown first second one other =
    let text = sym (socket_text-both first second) in (
      subst (Consumes rest left) text (Consumes-trans rest mid left _ _ one.0 other.0),
      subst (Appends written grown) text (Appends-trans written more grown _ _ one.1 other.1),
    )

-- one frame more of a list
pub more_crossed : {F : Type 0} (octets : F → List ℕ) (frames : List F) (at : ℕ) (frame : F)
    (item : List ℕ) (rest mid left written more grown : Option (List ℕ))
    → at < length frames → frame ≡ get_or frames at frame → item ≡ octets frame
    → HaveCrossed rest mid written more (map octets (take at frames))
    → HaveCrossed mid left more grown (item ∷ [])
    → HaveCrossed rest left written grown (map octets (take (at + 1) frames))
more_crossed octets frames at frame item rest mid left written more grown within is says before
    crossed =
    let split : take (at + 1) frames ≡ take at frames ++ frame ∷ [] =
    take_more frames at frame within ∙ ap (λ x. take at frames ++ x ∷ []) (sym is) in
    let all : map octets (take (at + 1) frames) ≡ map octets (take at frames) ++ item ∷ [] =
    ap (map octets) split ∙ map-append octets (take at frames) (frame ∷ [])
    ∙ ap (λ x. map octets (take at frames) ++ x ∷ []) (sym says) in
    subst (HaveCrossed rest left written grown) (sym all)
    (both_crossed rest mid left written more grown _ _ before crossed)

map_drop : {F : Type 0} (octets : F → List ℕ) (n : ℕ) (frames : List F)
    → map octets (drop n frames) ≡ drop n (map octets frames)
map_drop octets zero frames = refl
map_drop octets (suc n) [] = refl
map_drop octets (suc n) (frame ∷ frames) = map_drop octets n frames

-- the frames after the first n of a line
pub crossed_behind : {F : Type 0} (octets : F → List ℕ) (frames behind : List F) (n : ℕ)
    (line : List (List ℕ)) (rest left written grown : Option (List ℕ))
    → behind ≡ drop n frames → map octets frames ≡ line
    → HaveCrossed rest left written grown (map octets behind)
    → HaveCrossed rest left written grown (drop n line)
crossed_behind octets frames behind n line rest left written grown is shows crossed =
    subst (HaveCrossed rest left written grown)
    (ap (map octets) is ∙ map_drop octets n frames ∙ ap (drop n) shows) crossed

-- a consequence holds of a successful result
pub on_ok : {T E P Q : Type 0} (result : Result T E) → (P → Q) → OnOk result P → OnOk result Q
on_ok (Ok done) f p = f p
on_ok (Err fault) f p = tt
