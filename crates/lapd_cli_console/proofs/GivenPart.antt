-- Part of a line is returned.
use Rattle.std.proofs.Common.{◌≡◌, ℕ, ◌+◌, ◌-◌, ◌≤◌, arith, List, ◌++◌, take, drop, length, sym, ap, ◌∙◌}
use Rattle.std.proofs.lemmas.List.{drop-drop, length-drop, length-take-le, take_all, take_at, take-append-drop}

pub given_part : (n r : ℕ) (line slice copied behind now : List ℕ) → drop r line ≡ now
    → slice ≡ line → copied ≡ take n (take (length slice - r) (drop r slice))
    → n ≤ length (take (length slice - r) (drop r slice))
    → now ≡ take n (copied ++ behind) ++ drop (r + n) line
given_part n r line slice copied behind now view same copy fits =
    let whole : take (length slice - r) (drop r slice) ≡ drop r line =
    take_all (length slice - r) (drop r slice) (omega (arith, length-drop r slice))
    ∙ ap (drop r) same in
    let part : copied ≡ take n (drop r line) = copy ∙ ap (take n) whole in
    let short : n ≤ length (drop r line) = rw whole at fits in
    let front : take n (copied ++ behind) ≡ take n (drop r line) =
    take_at copied behind n (ap length part ∙ length-take-le n (drop r line) short)
    ∙ part in
    sym view ∙ sym (take-append-drop n (drop r line))
    ∙ ap (λ x. take n (drop r line) ++ x) (drop-drop n r line)
    ∙ ap (λ x. x ++ drop (r + n) line) (sym front)
