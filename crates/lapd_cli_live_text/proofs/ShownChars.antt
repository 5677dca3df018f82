-- One more character is shown behind those before it.
use Rattle.std.proofs.Common.{◌≡◌, ℕ, List, [], ◌∷◌, ◌++◌, map, refl, sym, ap, ◌∙◌, append_assoc, append-nil}
use Rattle.std.specs.Prelude.{encode_utf8_all}
use Rattle.std.specs.List.{flat_map}
use Rattle.std.proofs.lemmas.Str.{encodes-append}
use Rattle.lapd_cli_live_text.specs.AwaitedText.{shown_char}

flat_map_push : (f : ℕ → List ℕ) (xs : List ℕ) (x : ℕ)
    → flat_map f (xs ++ x ∷ []) ≡ flat_map f xs ++ f x
flat_map_push f [] x = append-nil (f x)
flat_map_push f (y ∷ xs) x =
    ap (λ rest. f y ++ rest) (flat_map_push f xs x) ∙ sym (append_assoc (f y) (flat_map f xs) (f x))

pub one_more_char : (xs : List ℕ) (x : ℕ)
    → encode_utf8_all (flat_map shown_char (xs ++ x ∷ []))
    ≡ encode_utf8_all (flat_map shown_char xs) ++ encode_utf8_all (shown_char x)
one_more_char xs x =
    ap encode_utf8_all (flat_map_push shown_char xs x)
    ∙ encodes-append (flat_map shown_char xs) (shown_char x)

same_items : (xs : List ℕ) → map (λ c. c) xs ≡ xs
same_items [] = refl
same_items (x ∷ xs) = ap (λ rest. x ∷ rest) (same_items xs)

pub all_shown : (xs all : List ℕ) → map (λ c. c) xs ≡ all → xs ≡ all
all_shown xs all e = sym (same_items xs) ∙ e
