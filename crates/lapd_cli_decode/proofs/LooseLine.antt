-- Steps of the loops over a loose line.
use Rattle.std.proofs.Common.{◌≡◌, ℕ, ◌+◌, ◌<◌, ◌≤◌, Bool, true, false, cond, nat_lt, nat_eq, List, [], ◌∷◌, ◌++◌, Some, None, length, not, take, drop, get_or, unwrap_or, refl, sym, ap, ◌∙◌, subst, append_assoc, append-nil, arith}
use Rattle.std.specs.List.{flat_map, position, position_or_len, slice_split, starts_with}
use Rattle.std.proofs.lemmas.Bool.{ltb-true, ltb-false}
use Rattle.std.proofs.lemmas.Grind.{common_steps}
use Rattle.std.proofs.lemmas.List.{drop_all, drop_more, take_all, take_more}
use Rattle.std.proofs.lemmas.List.Splits.{slice_split_first, slice_split_none}
use Rattle.std.proofs.lemmas.List.Sums.{fails_before_first, prefix_len-le-length}
use Rattle.lapd_cli_decode.specs.declared.line_sender.LineSender.{LineSender}
use Rattle.lapd_cli_decode.specs.Loose.{before_gap, bracketed, digits_in, is_separator, logged_line, without_0x}

-- ---- The place of the first octet that passes.

unwrap_cut : (a n : ℕ) → a ≤ n → unwrap_or (cond (nat_lt a n) (Some a) None) n ≡ a
unwrap_cut a n h = grind (arith, common_steps)

pub unwrap_place : (test : ℕ → Bool) (xs : List ℕ)
    → unwrap_or (position test xs) (length xs) ≡ position_or_len test xs
unwrap_place test xs =
    unwrap_cut (position_or_len test xs) (length xs) (prefix_len-le-length (λ x. not (test x)) xs)

-- ---- A line of a log.

pub log_passed : (rest behind : List ℕ) (octet : ℕ) → rest ≡ octet ∷ behind → bracketed rest ≡ None
    → logged_line rest ≡ logged_line behind
log_passed rest behind octet e none =
    ap logged_line e
    ∙ (let here : bracketed (octet ∷ behind) ≡ None = ap bracketed (sym e) ∙ none in rw here refl)

pub log_found : (rest behind : List ℕ) (octet : ℕ) (sent : LineSender × List ℕ)
    → rest ≡ octet ∷ behind → bracketed rest ≡ Some sent → logged_line rest ≡ Some sent
log_found rest behind octet sent e found =
    ap logged_line e
    ∙ (let here : bracketed (octet ∷ behind) ≡ Some sent = ap bracketed (sym e) ∙ found in
    rw here refl)

-- ---- The gap of a dump.

gap_behind : (gap rest : List ℕ) (octet : ℕ) → starts_with nat_eq (octet ∷ rest) gap ≡ false
    → before_gap gap (octet ∷ rest) ≡ octet ∷ before_gap gap rest
gap_behind gap rest octet h = rw h refl

gap_here : (gap rest : List ℕ) (octet : ℕ) → starts_with nat_eq (octet ∷ rest) gap ≡ true
    → before_gap gap (octet ∷ rest) ≡ []
gap_here gap rest octet h = rw h refl

pub gap_passed : (gap text : List ℕ) (end : ℕ) → end < length text
    → starts_with nat_eq (drop end text) gap ≡ false
    → take (end + 1) text ++ before_gap gap (drop (end + 1) text) ≡ take end text
    ++ before_gap gap (drop end text)
gap_passed gap text end h fails =
    let d : drop end text ≡ get_or text end 0 ∷ drop (end + 1) text = drop_more text end 0 h in
    let here : starts_with nat_eq (get_or text end 0 ∷ drop (end + 1) text) gap ≡ false =
    ap (λ xs. starts_with nat_eq xs gap) (sym d) ∙ fails in
    let rest : before_gap gap (drop end text) ≡ get_or text end 0 ∷ before_gap gap
    (drop (end + 1) text) =
    ap (before_gap gap) d ∙ gap_behind gap (drop (end + 1) text) (get_or text end 0) here in
    ap (λ xs. xs ++ before_gap gap (drop (end + 1) text)) (take_more text end 0 h)
    ∙ append_assoc (take end text) (get_or text end 0 ∷ []) (before_gap gap (drop (end + 1) text))
    ∙ ap (λ xs. take end text ++ xs) (sym rest)

pub gap_found : (gap text : List ℕ) (end : ℕ) → end < length text
    → starts_with nat_eq (drop end text) gap ≡ true
    → take end text ++ before_gap gap (drop end text) ≡ take end text
gap_found gap text end h passes =
    let d : drop end text ≡ get_or text end 0 ∷ drop (end + 1) text = drop_more text end 0 h in
    let here : starts_with nat_eq (get_or text end 0 ∷ drop (end + 1) text) gap ≡ true =
    ap (λ xs. starts_with nat_eq xs gap) (sym d) ∙ passes in
    ap (λ xs. take end text ++ xs)
    (ap (before_gap gap) d ∙ gap_here gap (drop (end + 1) text) (get_or text end 0) here)
    ∙ append-nil (take end text)

pub gap_end : (gap text : List ℕ) (end : ℕ) → length text ≤ end
    → take end text ++ before_gap gap (drop end text) ≡ text
gap_end gap text end h = rw (take_all end text h, drop_all end text h) (append-nil text)

-- ---- The parts between separators.

place_found : (b : Bool) (n end : ℕ) → cond b (Some n) None ≡ Some end → (b ≡ true) × (n ≡ end)
place_found true n end e = (refl, cc)
place_found false n end e = cc

no_place : (b : Bool) (n : ℕ) → cond b (Some n) None ≡ None → b ≡ false
no_place true n e = cc
no_place false n e = refl

pub cut_here : (text : List ℕ) (end : ℕ) → position is_separator text ≡ Some end
    → (end < length text)
    × (slice_split is_separator text ≡ take end
    text ∷ slice_split is_separator (drop (end + 1) text))
cut_here text end e =
    let t =
    place_found (nat_lt (position_or_len is_separator text) (length text))
    (position_or_len is_separator text) end e in
    let h : position_or_len is_separator text < length text =
    ltb-true (position_or_len is_separator text) (length text) t.0 in
    let split : slice_split is_separator text ≡ take (position_or_len is_separator text) text ∷
    slice_split is_separator (drop (position_or_len is_separator text + 1) text) =
    slice_split_first is_separator text 0 h in
    subst (λ m. (m < length text) × (slice_split is_separator text ≡ take m text
    ∷ slice_split is_separator (drop (m + 1) text))) t.1 (h, split)

pub not_cut : (text : List ℕ) → position is_separator text ≡ None
    → slice_split is_separator text ≡ text ∷ []
not_cut text e =
    let none =
    no_place (nat_lt (position_or_len is_separator text) (length text))
    (position_or_len is_separator text) e in
    let h : length text ≤ position_or_len is_separator text =
    ltb-false (position_or_len is_separator text) (length text) none in
    slice_split_none is_separator text
    (λ k d within. fails_before_first is_separator text k d (omega arith))

pub digits_cut : (text part behind : List ℕ)
    → slice_split is_separator text ≡ part ∷ slice_split is_separator behind
    → digits_in text ≡ without_0x part ++ digits_in behind
digits_cut text part behind e = ap (flat_map without_0x) e

pub digits_whole : (text : List ℕ) → slice_split is_separator text ≡ text ∷ []
    → digits_in text ≡ without_0x text
digits_whole text e = ap (flat_map without_0x) e ∙ append-nil (without_0x text)
