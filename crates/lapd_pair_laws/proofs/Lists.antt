-- Lists derived from the kinds of frames, when one more frame is appended.
use Rattle.std.proofs.Common.{◌≡◌, ◌⊎◌, ◌<◌, ℕ, zero, suc, if◌then◌else◌, ◌+◌, Bool, true, false, List, [], ◌∷◌, ◌++◌, slice_get, Some, append_assoc, append-nil, refl, sym, ap, ◌∙◌, arith}
use Rattle.lapd_pair_laws.specs.Kinds.{Kind, message_of, messages, number_of, numbers, rejection_of, rejections, tally}
use Rattle.lapd_pair_laws.specs.Conjuncts.{Each}

pub messages_append : (xs ys : List Kind) → messages (xs ++ ys) ≡ messages xs ++ messages ys
messages_append [] ys = refl
messages_append (x ∷ xs) ys =
    ap (λ l. message_of x ++ l) (messages_append xs ys)
    ∙ sym (append_assoc (message_of x) (messages xs) (messages ys))

pub numbers_append : (xs ys : List Kind) → numbers (xs ++ ys) ≡ numbers xs ++ numbers ys
numbers_append [] ys = refl
numbers_append (x ∷ xs) ys =
    ap (λ l. number_of x ++ l) (numbers_append xs ys)
    ∙ sym (append_assoc (number_of x) (numbers xs) (numbers ys))

pub rejections_append : (xs ys : List Kind) → rejections (xs ++ ys) ≡ rejections xs ++ rejections ys
rejections_append [] ys = refl
rejections_append (x ∷ xs) ys =
    ap (λ l. rejection_of x ++ l) (rejections_append xs ys)
    ∙ sym (append_assoc (rejection_of x) (rejections xs) (rejections ys))

-- one more frame that adds no entry
pub messages_same : (u : Kind) (ks : List Kind) → message_of u ≡ []
    → messages (ks ++ u ∷ []) ≡ messages ks
messages_same u ks no_message =
    messages_append ks (u ∷ []) ∙ ap (λ l. messages ks ++ (l ++ [])) no_message
    ∙ append-nil (messages ks)

pub numbers_same : (u : Kind) (ks : List Kind) → number_of u ≡ []
    → numbers (ks ++ u ∷ []) ≡ numbers ks
numbers_same u ks no_number =
    numbers_append ks (u ∷ []) ∙ ap (λ l. numbers ks ++ (l ++ [])) no_number
    ∙ append-nil (numbers ks)

pub rejections_same : (u : Kind) (ks : List Kind) → rejection_of u ≡ []
    → rejections (ks ++ u ∷ []) ≡ rejections ks
rejections_same u ks no_rejection =
    rejections_append ks (u ∷ []) ∙ ap (λ l. rejections ks ++ (l ++ [])) no_rejection
    ∙ append-nil (rejections ks)

-- one more frame that adds one entry
pub numbers_more : (u : Kind) (ks : List Kind) (nr : ℕ) → number_of u ≡ nr ∷ []
    → numbers (ks ++ u ∷ []) ≡ numbers ks ++ nr ∷ []
numbers_more u ks nr is = numbers_append ks (u ∷ []) ∙ ap (λ l. numbers ks ++ (l ++ [])) is

pub tally_append : (f : Kind → ℕ) (xs ys : List Kind) → tally f (xs ++ ys) ≡ tally f xs + tally f ys
tally_append f [] ys = omega arith
tally_append f (x ∷ xs) ys = omega (arith, tally_append f xs ys)

pub tally_more : (f : Kind → ℕ) (u : Kind) (ks : List Kind)
    → tally f (ks ++ u ∷ []) ≡ tally f ks + f u
tally_more f u ks =
    let e : tally f (ks ++ u ∷ []) ≡ tally f ks + tally f (u ∷ []) = tally_append f ks (u ∷ []) in
    let o : tally f (u ∷ []) ≡ f u + 0 = refl in omega (arith, e, o)

-- ---- Facts of each.

pub each_more : {A : Type 0} (P : A → Type 0) (xs : List A) (x : A) → Each P xs → P x
    → Each P (xs ++ x ∷ [])
each_more P [] x e p = (p, tt)
each_more P (y ∷ ys) x e p = (e.0, each_more P ys x e.1 p)

pub each_map : {A : Type 0} (P Q : A → Type 0) (xs : List A) → ((x : A) → P x → Q x) → Each P xs
    → Each Q xs
each_map P Q [] f e = tt
each_map P Q (x ∷ xs) f e = (f x e.0, each_map P Q xs f e.1)

-- ---- A place of a list.

pub get_more : {A : Type 0} (xs ys : List A) (place : ℕ) (x : A) → slice_get xs place ≡ Some x
    → slice_get (xs ++ ys) place ≡ Some x
get_more [] ys place x is = cc
get_more (y ∷ xs) ys zero x is = is
get_more (y ∷ xs) ys (suc place) x is = get_more xs ys place x is

-- ---- Both results of a test.

pub by_test : {A : Type 0} (P : A → Type 0) (test : Bool) (x y : A) → (test ≡ true → P x)
    → (test ≡ false → P y) → P (if test then x else y)
by_test P true x y one other = one refl
by_test P false x y one other = other refl

pub nat_cases : (n m : ℕ) → n < m + 1 → n < m ⊎ (n ≡ m)
nat_cases n m below = grind (arith, below)
