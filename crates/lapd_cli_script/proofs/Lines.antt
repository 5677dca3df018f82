-- Lemmas on the lines of a script, with and without the text of comments.
use Rattle.std.specs.Prelude.{⊤}
use Rattle.std.proofs.Common.{◌≡◌, ◌≢◌, ◌==◌, ℕ, ◌+◌, List, [], ◌∷◌, ◌++◌, map, drop, Bool, true, false, cond, Option, None, Some, Result, Ok, Err, refl, sym, ap, ◌∙◌, subst, append_assoc}
use Rattle.std.specs.Io.KnownBytes.{Appends}
use Rattle.std.proofs.lemmas.Bool.{ne_eqb, eqb-true}
use Rattle.lapd_cli_script.specs.Script.{LineOutcome, Step, outcome_of, is_passed_over, before_rest, number_or, state_or, output_of, bad_from, bad_line, state_after, EndsAs, with_first, lines_of}
use Rattle.lapd_cli_script.specs.WalkState.{HasNoFeed, without_comment, walk_lines}
use Rattle.lapd_cli_script.specs.declared.script.ScriptFault.{ScriptFault}
use Rattle.lapd_cli_script.specs.declared.script.ScriptFault.TheVariants.{BadLine, Device, Memory, Port}

-- ---- one line

pub outcome_of-passed : {S : Type 0} (step : Step S) (s : S) (line : List ℕ)
    → is_passed_over line ≡ true → outcome_of step s line ≡ Some ([], s)
outcome_of-passed step s line e = ap (λ b. cond b (Some ([], s)) (step s line)) e

pub outcome_of-not_passed : {S : Type 0} (step : Step S) (s : S) (line : List ℕ)
    → is_passed_over line ≡ false → outcome_of step s line ≡ step s line
outcome_of-not_passed step s line e = ap (λ b. cond b (Some ([], s)) (step s line)) e

passed-without_comment : (line : List ℕ) → is_passed_over line ≡ true
    → is_passed_over (without_comment line) ≡ true
passed-without_comment [] e = refl
passed-without_comment (octet ∷ octets) e =
    ap (λ b. is_passed_over (cond b (octet ∷ []) (octet ∷ octets))) e ∙ e

-- a line that is not skipped is unchanged
not_passed-without_comment : (line : List ℕ) → is_passed_over line ≡ false
    → without_comment line ≡ line
not_passed-without_comment [] e = cc
not_passed-without_comment (octet ∷ octets) e = ap (λ b. cond b (octet ∷ []) (octet ∷ octets)) e

-- a line has the same outcome without its comment
pub outcome_of-without_comment : {S : Type 0} (step : Step S) (s : S) (line : List ℕ)
    → outcome_of step s (without_comment line) ≡ outcome_of step s line
outcome_of-without_comment step s line = by_test (is_passed_over line) refl
  where
    by_test : (b : Bool) → is_passed_over line ≡ b
        → outcome_of step s (without_comment line) ≡ outcome_of step s line
    by_test true e =
        outcome_of-passed step s (without_comment line) (passed-without_comment line e)
        ∙ sym (outcome_of-passed step s line e)
    by_test false e = ap (outcome_of step s) (not_passed-without_comment line e)

-- ---- all lines

before_rest-same : {S : Type 0} (o : LineOutcome S) (f g : S → List ℕ) → ((t : S) → f t ≡ g t)
    → before_rest o f ≡ before_rest o g
before_rest-same None f g h = refl
before_rest-same (Some next) f g h = ap (λ x. next.0 ++ x) (h next.1)

number_or-same : {S : Type 0} (n : ℕ) (o : LineOutcome S) (f g : S → Option ℕ)
    → ((t : S) → f t ≡ g t) → number_or n o f ≡ number_or n o g
number_or-same n None f g h = refl
number_or-same n (Some next) f g h = h next.1

state_or-same : {S : Type 0} (s : S) (o : LineOutcome S) (f g : S → S) → ((t : S) → f t ≡ g t)
    → state_or s o f ≡ state_or s o g
state_or-same s None f g h = refl
state_or-same s (Some next) f g h = h next.1

output_of-without_comments : {S : Type 0} (step : Step S) (s : S) (lines : List (List ℕ))
    → output_of step s (map without_comment lines) ≡ output_of step s lines
output_of-without_comments step s [] = refl
output_of-without_comments step s (line ∷ lines) =
    ap (λ o. before_rest o (λ t. output_of step t (map without_comment lines)))
    (outcome_of-without_comment step s line)
    ∙ before_rest-same (outcome_of step s line) (λ t. output_of step t (map without_comment lines))
    (λ t. output_of step t lines) (λ t. output_of-without_comments step t lines)

bad_from-without_comments : {S : Type 0} (n : ℕ) (step : Step S) (s : S) (lines : List (List ℕ))
    → bad_from n step s (map without_comment lines) ≡ bad_from n step s lines
bad_from-without_comments n step s [] = refl
bad_from-without_comments n step s (line ∷ lines) =
    ap (λ o. number_or n o (λ t. bad_from (n + 1) step t (map without_comment lines)))
    (outcome_of-without_comment step s line)
    ∙ number_or-same n (outcome_of step s line)
    (λ t. bad_from (n + 1) step t (map without_comment lines))
    (λ t. bad_from (n + 1) step t lines) (λ t. bad_from-without_comments (n + 1) step t lines)

pub state_after-without_comments : {S : Type 0} (step : Step S) (s : S) (lines : List (List ℕ))
    → state_after step s (map without_comment lines) ≡ state_after step s lines
state_after-without_comments step s [] = refl
state_after-without_comments step s (line ∷ lines) =
    ap (λ o. state_or s o (λ t. state_after step t (map without_comment lines)))
    (outcome_of-without_comment step s line)
    ∙ state_or-same s (outcome_of step s line) (λ t. state_after step t (map without_comment lines))
    (λ t. state_after step t lines) (λ t. state_after-without_comments step t lines)

-- a prefix of a mapped list is the map of a prefix of that list
front_of-map : {X Y : Type 0} (f : X → Y) (xs : List X) (a b : List Y) → map f xs ≡ a ++ b
    → (c : List X) × (d : List X) × (xs ≡ c ++ d) × (map f c ≡ a)
front_of-map f xs [] b h = ([], xs, refl, refl)
front_of-map f [] (y ∷ a) b h = absurd cc
front_of-map f (x ∷ xs) (y ∷ a) b h =
    let w = front_of-map f xs a b (ap (drop 1) h) in
    (x ∷ w.0, w.1, ap (λ z. x ∷ z) w.2, let same = w.3 in cc)

-- if a command has executed the lines without their comments, it has executed the lines
pub EndsAs-without_comments : {S : Type 0} (step : Step S) (s : S) (result : Result ⊤ ScriptFault)
    (lines : List (List ℕ)) (a b : Option (List ℕ))
    → EndsAs step s result (map without_comment lines) a b → EndsAs step s result lines a b
EndsAs-without_comments step s (Ok done) lines a b h = (
  sym (bad_from-without_comments 1 step s lines) ∙ h.0,
  subst (Appends a b) (output_of-without_comments step s lines) h.1,
)
EndsAs-without_comments step s (Err (BadLine number)) lines a b h = (
  sym (bad_from-without_comments 1 step s lines) ∙ h.0,
  subst (Appends a b) (output_of-without_comments step s lines) h.1,
)
EndsAs-without_comments step s (Err Memory) lines a b h =
    let w = front_of-map without_comment lines h.0 h.1 h.2 in
    let good : bad_line step s w.0 ≡ None =
    sym (bad_from-without_comments 1 step s w.0) ∙ ap (bad_from 1 step s) w.3 ∙ h.3 in
    let text : output_of step s h.0 ≡ output_of step s w.0 =
    ap (output_of step s) (sym w.3) ∙ output_of-without_comments step s w.0 in
    (w.0, w.1, w.2, good, subst (Appends a b) text h.4)
EndsAs-without_comments step s (Err Device) lines a b h = tt
EndsAs-without_comments step s (Err (Port fault)) lines a b h = h

-- ---- the lines of octets

pub HasNoFeed-append : (a b : List ℕ) → HasNoFeed a → HasNoFeed b → HasNoFeed (a ++ b)
HasNoFeed-append [] b h k = k
HasNoFeed-append (o ∷ a) b h k = (h.0, HasNoFeed-append a b h.1 k)

-- an octet other than a line feed becomes the first octet of the first line
lines_of-other : (o : ℕ) (octets : List ℕ) → o ≢ 10
    → lines_of (o ∷ octets) ≡ with_first o (lines_of octets)
lines_of-other o octets h =
    ap (λ b. cond b ([] ∷ lines_of octets) (with_first o (lines_of octets))) (ne_eqb o 10 h)

lines_of-line : (line rest : List ℕ) → HasNoFeed line
    → lines_of (line ++ 10 ∷ rest) ≡ line ∷ lines_of rest
lines_of-line [] rest h = refl
lines_of-line (o ∷ line) rest h =
    lines_of-other o (line ++ 10 ∷ rest) h.0 ∙ ap (with_first o) (lines_of-line line rest h.1)

lines_of-last : (o : ℕ) (line : List ℕ) → HasNoFeed (o ∷ line)
    → lines_of (o ∷ line) ≡ (o ∷ line) ∷ []
lines_of-last o [] h = lines_of-other o [] h.0
lines_of-last o (p ∷ line) h =
    lines_of-other o (p ∷ line) h.0 ∙ ap (with_first o) (lines_of-last p line h.1)

-- octets without a line feed are one line
pub walk_lines-last : (o : ℕ) (line : List ℕ) → HasNoFeed (o ∷ line)
    → walk_lines (o ∷ line) ≡ without_comment (o ∷ line) ∷ []
walk_lines-last o line h = ap (map without_comment) (lines_of-last o line h)

-- the part cut off before, joined with a line and its line feed, is the first line
pub walk_lines-whole : (cut line left after : List ℕ) → HasNoFeed cut → HasNoFeed line
    → walk_lines (cut ++ (line ++ 10 ∷ left) ++ after) ≡ without_comment (cut ++ line)
    ∷ walk_lines (left ++ after)
walk_lines-whole cut line left after h k =
    let e : cut ++ (line ++ 10 ∷ left) ++ after ≡ (cut ++ line) ++ 10 ∷ (left ++ after) =
    simp append_assoc in
    ap walk_lines e
    ∙ ap (map without_comment)
    (lines_of-line (cut ++ line) (left ++ after) (HasNoFeed-append cut line h k))

-- ---- a comment that is cut short

behind-with_first : (o : ℕ) (lines : List (List ℕ)) → drop 1 (with_first o lines) ≡ drop 1 lines
behind-with_first o [] = refl
behind-with_first o (line ∷ lines) = refl

-- the lines after the first one do not depend on octets without a line feed that precede them
behind-append : (octets after : List ℕ) → HasNoFeed octets
    → drop 1 (lines_of (octets ++ after)) ≡ drop 1 (lines_of after)
behind-append [] after h = refl
behind-append (o ∷ octets) after h =
    ap (drop 1) (lines_of-other o (octets ++ after) h.0)
    ∙ behind-with_first o (lines_of (octets ++ after)) ∙ behind-append octets after h.1

comment_first : (lines : List (List ℕ))
    → map without_comment (with_first 35 lines) ≡ (35 ∷ []) ∷ map without_comment (drop 1 lines)
comment_first [] = refl
comment_first (line ∷ lines) = refl

comment_lines : (octets after : List ℕ) → HasNoFeed octets
    → walk_lines (35 ∷ (octets ++ after)) ≡ walk_lines (35 ∷ after)
comment_lines octets after h =
    comment_first (lines_of (octets ++ after))
    ∙ ap (λ x. (35 ∷ []) ∷ map without_comment x) (behind-append octets after h)
    ∙ sym (comment_first (lines_of after))

-- only the first octet of a comment is needed
pub walk_lines-shorter : (cut after : List ℕ) → HasNoFeed cut
    → walk_lines (without_comment cut ++ after) ≡ walk_lines (cut ++ after)
walk_lines-shorter [] after h = refl
walk_lines-shorter (o ∷ cut) after h = by_test (o == 35) refl
  where
    by_test : (b : Bool) → (o == 35) ≡ b
        → walk_lines (cond b (o ∷ []) (o ∷ cut) ++ after) ≡ walk_lines (o ∷ (cut ++ after))
    by_test true e =
        let hash : o ≡ 35 = eqb-true o 35 e in
        ap (λ x. walk_lines (x ∷ after)) hash ∙ sym (comment_lines cut after h.1)
        ∙ ap (λ x. walk_lines (x ∷ (cut ++ after))) (sym hash)
    by_test false e = refl
