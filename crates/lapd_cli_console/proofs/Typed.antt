-- The lines that a session passes on, one by one.
use Rattle.std.proofs.Common.{◌≡◌, ◌≢◌, ℕ, List, [], ◌∷◌, ◌++◌, Bool, true, false, cond, map, Option, None, Some, Result, Ok, Err, length, OnOk, OnErr, refl, sym, ap, ◌∙◌, append_assoc, append-nil}
use Rattle.std.specs.Prelude.{option_map}
use Rattle.std.specs.List.{filter, flat_map}
use Rattle.std.specs.Io.{StartsWith, appended_bytes}
use Rattle.std.specs.Io.KnownBytes.{Consumes, IsAtEnd, Keeps}
use Rattle.std.proofs.lemmas.Bool.{ne_eqb}
use Rattle.std.proofs.lemmas.List.{take-append-drop}
use Rattle.lapd_cli_script.specs.Line.{text_line}
use Rattle.lapd_cli_script.specs.Script.{lines_of, with_first}
use Rattle.lapd_cli_script.specs.WalkState.{HasNoFeed}
use Rattle.lapd_cli_grammar.specs.declared.script.Script.{Script}
use Rattle.lapd_cli_grammar.specs.Values.{is_line_of}
use Rattle.lapd_cli_console.specs.Tidied.{tidied_line}
use Rattle.lapd_cli_console.specs.Typed.{IsUsedUp, Typing, after_line, before_end, ends_input, passed_lines, passed_next, passed_on, passed_text}

-- ---- The lines of octets.

lines_of-other : (o : ℕ) (octets : List ℕ) → o ≢ 10
    → lines_of (o ∷ octets) ≡ with_first o (lines_of octets)
lines_of-other o octets h =
    ap (λ b. cond b ([] ∷ lines_of octets) (with_first o (lines_of octets))) (ne_eqb o 10 h)

pub lines_of-line : (line rest : List ℕ) → HasNoFeed line
    → lines_of (line ++ 10 ∷ rest) ≡ line ∷ lines_of rest
lines_of-line [] rest h = refl
lines_of-line (o ∷ line) rest h =
    lines_of-other o (line ++ 10 ∷ rest) h.0 ∙ ap (with_first o) (lines_of-line line rest h.1)

pub lines_of-last : (o : ℕ) (line : List ℕ) → HasNoFeed (o ∷ line)
    → lines_of (o ∷ line) ≡ (o ∷ line) ∷ []
lines_of-last o [] h = lines_of-other o [] h.0
lines_of-last o (p ∷ line) h =
    lines_of-other o (p ∷ line) h.0 ∙ ap (with_first o) (lines_of-last p line h.1)

-- ---- The part of the first line that is passed on, and the lines behind it.

by_tests : (script : Script) (line : List ℕ) (lines : List (List ℕ)) (ends valid : Bool)
    → is_line_of script line ≡ valid
    → flat_map text_line (filter (is_line_of script) (cond ends [] (line ∷ lines)))
    ≡ cond ends [] (cond valid (text_line line) [])
    ++ cond ends [] (flat_map text_line (filter (is_line_of script) lines))
by_tests script line lines true valid e = refl
by_tests script line lines false true e =
    ap (λ b. flat_map text_line
    (cond b (line ∷ filter (is_line_of script) lines) (filter (is_line_of script) lines))) e
by_tests script line lines false false e =
    ap (λ b. flat_map text_line
    (cond b (line ∷ filter (is_line_of script) lines) (filter (is_line_of script) lines))) e

first_passed : (script : Script) (octets line rest : List ℕ)
    → lines_of octets ≡ line ∷ lines_of rest
    → passed_on script octets ≡ passed_text script (tidied_line script line)
    ++ cond (ends_input (tidied_line script line)) [] (passed_on script rest)
first_passed script octets line rest e =
    ap (λ lines. flat_map text_line (passed_lines script lines)) e
    ∙ by_tests script (tidied_line script line)
    (before_end (map (tidied_line script) (lines_of rest)))
    (ends_input (tidied_line script line)) (is_line_of script (tidied_line script line)) refl

used_up : (t : Typing) (octets : List ℕ) → IsUsedUp t
    → passed_next t octets ≡ passed_on t.script (t.typed ++ octets)
used_up t octets h =
    ap (λ line. line ++ cond t.is_ended [] (passed_on t.script (t.typed ++ octets))) h.line
    ∙ ap (λ b. cond b [] (passed_on t.script (t.typed ++ octets))) h.going_on

whole_passed : (t : Typing) (line behind octets : List ℕ) → IsUsedUp t → HasNoFeed line
    → t.typed ≡ line ++ 10 ∷ behind
    → passed_next t octets ≡ passed_next (after_line t (tidied_line t.script line) behind) octets
whole_passed t line behind octets h k e =
    let same : t.typed ++ octets ≡ line ++ 10 ∷ (behind ++ octets) =
    ap (λ typed. typed ++ octets) e ∙ append_assoc line (10 ∷ behind) octets in
    used_up t octets h
    ∙ first_passed t.script (t.typed ++ octets) line (behind ++ octets)
    (ap lines_of same ∙ lines_of-line line (behind ++ octets) k)

last_line : (t : Typing) (typed : List ℕ) → IsUsedUp t → t.typed ≡ typed → HasNoFeed typed
    → typed ≢ []
    → passed_next t [] ≡ passed_next (after_line t (tidied_line t.script t.typed) []) []
last_line t [] h e k n = absurd (n refl)
last_line t (o ∷ typed) h e k n =
    used_up t [] h
    ∙ first_passed t.script (t.typed ++ []) t.typed []
    (ap lines_of (append-nil t.typed ∙ e) ∙ lines_of-last o typed k ∙ ap (λ x. x ∷ []) (sym e))

-- ---- The same for what a reader has left.

pub keeps_same : (f g : List ℕ → List ℕ) (left : Option (List ℕ))
    → ((octets : List ℕ) → f octets ≡ g octets) → Keeps (option_map f left) (option_map g left)
keeps_same f g None h = tt
keeps_same f g (Some octets) h = sym (h octets)

pub keeps_refl : (a : Option (List ℕ)) → Keeps a a
keeps_refl None = tt
keeps_refl (Some octets) = refl

pub whole_kept : (t : Typing) (line behind : List ℕ) (left : Option (List ℕ)) → IsUsedUp t
    → HasNoFeed line → t.typed ≡ line ++ 10 ∷ behind
    → Keeps (option_map (passed_next t) left)
    (option_map (passed_next (after_line t (tidied_line t.script line) behind)) left)
whole_kept t line behind left h k e =
    keeps_same _ _ left (λ octets. whole_passed t line behind octets h k e)

pub last_kept : (t : Typing) (left : Option (List ℕ)) → IsUsedUp t → IsAtEnd left
    → HasNoFeed t.typed → t.typed ≢ []
    → Keeps (option_map (passed_next t) left)
    (option_map (passed_next (after_line t (tidied_line t.script t.typed) [])) left)
last_kept t None h at_end k n = tt
last_kept t (Some octets) h at_end k n = sym (rw at_end (last_line t t.typed h refl k n))

-- more is read
pub more_kept : (t u : Typing) (bs : List ℕ) (old new : Option (List ℕ)) → u.script ≡ t.script
    → u.is_ended ≡ t.is_ended → u.line ≡ t.line
    → u.typed ≡ t.typed ++ bs → Consumes old new bs
    → Keeps (option_map (passed_next t) old) (option_map (passed_next u) new)
more_kept t u bs None new a b c e k = tt
more_kept t u bs (Some xs) None a b c e k = k
more_kept t u bs (Some xs) (Some ys) a b c e k =
    let same : u.typed ++ ys ≡ t.typed ++ xs =
    ap (λ typed. typed ++ ys) e ∙ append_assoc t.typed bs ys
    ∙ ap (λ octets. t.typed ++ octets) (sym k) in
    rw (a, b, c, same) refl

-- ---- The lines left after a line was handled, or could not be.

handled : {T E : Type 0} (r : Result T E) (t u target : Typing) (old new : Option (List ℕ))
    → new ≡ old → OnOk r (u ≡ target) → OnErr r (u ≡ t)
    → Keeps (option_map (passed_next t) old) (option_map (passed_next target) old)
    → Keeps (option_map (passed_next t) old) (option_map (passed_next u) new)
handled (Ok x) t u target old new e a b k = rw (a, e) k
handled (Err x) t u target old new e a b k = rw (b, e) (keeps_refl _)

pub whole_handled : {T E : Type 0} (r : Result T E) (t u : Typing) (x line behind : List ℕ)
    (old new : Option (List ℕ)) → new ≡ old
    → OnOk r (u ≡ after_line t x behind) → OnErr r (u ≡ t) → x ≡ tidied_line t.script line
    → IsUsedUp t → HasNoFeed line → t.typed ≡ line ++ 10 ∷ behind
    → Keeps (option_map (passed_next t) old) (option_map (passed_next u) new)
whole_handled r t u x line behind old new e a b tidy h k parts =
    handled r t u (after_line t x behind) old new e a b
    (rw tidy (whole_kept t line behind old h k parts))

pub last_handled : {T E : Type 0} (r : Result T E) (t u : Typing) (x typed behind : List ℕ)
    (old new : Option (List ℕ)) → new ≡ old
    → OnOk r (u ≡ after_line t x behind) → OnErr r (u ≡ t) → x ≡ tidied_line t.script typed
    → typed ≡ t.typed → behind ≡ []
    → IsUsedUp t → IsAtEnd old → HasNoFeed t.typed → t.typed ≢ []
    → Keeps (option_map (passed_next t) old) (option_map (passed_next u) new)
last_handled r t u x typed behind old new e a b tidy same none h at_end k n =
    handled r t u (after_line t x behind) old new e a b
    (rw (tidy, same, none) (last_kept t old h at_end k n))

-- a reader returned octets, or failed after some
pub more_read : (t u : Typing) (buf : List ℕ) (old new : Option (List ℕ)) → u.script ≡ t.script
    → u.is_ended ≡ t.is_ended → u.line ≡ t.line → u.typed ≡ buf
    → StartsWith buf t.typed → Consumes old new (appended_bytes t.typed buf)
    → Keeps (option_map (passed_next t) old) (option_map (passed_next u) new)
more_read t u buf old new a b c e front k =
    more_kept t u (appended_bytes t.typed buf) old new a b c
    (e
    ∙ sym (take-append-drop (length t.typed) buf)
    ∙ ap (λ x. x ++ appended_bytes t.typed buf) front) k
