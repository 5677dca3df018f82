-- A slice that is filled piece by piece, one after the other, by reads of a port or of a capture.
use Rattle.std.proofs.Common.{◌≡◌, ℕ, ◌+◌, ◌-◌, ◌≤◌, List, ◌++◌, arith, length, take, slice_range, sym, ap, ◌∙◌, le_refl, drop_at, length-take-le}
use Rattle.std.proofs.lemmas.Slice.{take-put_mid_below}
use borrow.Rule.Slice.PartMut.{put_mid, post_of}
use lib.Seq.{take-add, take-append-le}

-- the octets before the piece are unchanged
pub take-filled : (filled room : ℕ) (octets piece : List ℕ) → filled ≤ length octets
    → take filled (put_mid filled room octets piece) ≡ take filled octets
take-filled filled room octets piece within = take-put_mid_below _ _ _ _ _ (le_refl _) within

-- they are followed by the front of the piece
pub take-filled_more : (filled room count : ℕ) (octets piece : List ℕ) → filled ≤ length octets
    → count ≤ length piece
    → take filled octets ++ take count piece
    ≡ take (filled + count) (put_mid filled room octets piece)
take-filled_more filled room count octets piece within fits =
    let all = put_mid filled room octets piece in
    let same : (filled + count) - filled ≡ count = omega arith in
    let after = post_of filled room octets in
    let front : take filled all ≡ take filled octets =
    take-filled filled room octets piece within in
    let part : slice_range all filled (filled + count) ≡ take count piece =
    ap (take ((filled + count) - filled))
    (drop_at (take filled octets) (piece ++ after) filled (length-take-le filled octets within))
    ∙ ap (λ m. take m (piece ++ after)) same ∙ take-append-le count piece after fits in
    let sum : filled + ((filled + count) - filled) ≡ filled + count = omega arith in
    ap (λ l. l ++ take count piece) (sym front) ∙ ap (λ l. take filled all ++ l) (sym part)
    ∙ sym (take-add filled ((filled + count) - filled) all) ∙ ap (λ n. take n all) sum
