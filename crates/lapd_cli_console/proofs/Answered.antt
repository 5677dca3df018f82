-- The answers of a session, line by line.
use Rattle.std.proofs.Common.{◌≡◌, ◌≢◌, ℕ, List, [], ◌∷◌, ◌++◌, Bool, true, false, cond, map, Option, None, Some, Result, Ok, Err, length, OnOk, OnErr, refl, sym, ap, ◌∙◌, append_assoc, append-nil}
use Rattle.std.specs.Prelude.{codes}
use Rattle.std.specs.List.{cons_option, filter_map}
use Rattle.std.specs.Str.{bytes_eq}
use Rattle.std.specs.Io.{StartsWith, appended_bytes}
use Rattle.std.specs.Io.KnownBytes.{Consumes, IsAtEnd}
use Rattle.std.proofs.lemmas.List.{take-append-drop}
use Rattle.lapd_cli_script.specs.Script.{lines_of}
use Rattle.lapd_cli_script.specs.WalkState.{HasNoFeed}
use Rattle.lapd_cli_grammar.specs.declared.script.Script.{Script}
use Rattle.lapd_cli_console.specs.Answered.{KeepsAnswers, all_answers_of, answers_next}
use Rattle.lapd_cli_console.specs.Answers.{AddsAll, Answer, Helped, Refused, answer_to, answers_to, answers_to_line}
use Rattle.lapd_cli_grammar.specs.Values.{is_line_of}
use Rattle.lapd_cli_console.specs.Tidied.{tidied_line}
use Rattle.lapd_cli_console.specs.Typed.{IsUsedUp, Typing, after_line, before_end, ends_input}
use Rattle.lapd_cli_console.proofs.Typed.{lines_of-last, lines_of-line}

-- ---- The answers to the first line, and those behind it.

by_test : (script : Script) (line : List ℕ) (lines : List (List ℕ)) (ends : Bool)
    (answer : Option Answer) → answer_to script line ≡ answer
    → filter_map (answer_to script) (cond ends [] (line ∷ lines))
    ≡ cond ends [] (cons_option answer []) ++ cond ends [] (filter_map (answer_to script) lines)
by_test script line lines true answer e = refl
by_test script line lines false None e =
    ap (λ x. cons_option x (filter_map (answer_to script) lines)) e
by_test script line lines false (Some a) e =
    ap (λ x. cons_option x (filter_map (answer_to script) lines)) e

first_answered : (script : Script) (octets line rest : List ℕ)
    → lines_of octets ≡ line ∷ lines_of rest
    → answers_to script octets ≡ answers_to_line script (tidied_line script line)
    ++ cond (ends_input (tidied_line script line)) [] (answers_to script rest)
first_answered script octets line rest e =
    ap (λ lines. filter_map (answer_to script) (before_end (map (tidied_line script) lines))) e
    ∙ by_test script (tidied_line script line)
    (before_end (map (tidied_line script) (lines_of rest)))
    (ends_input (tidied_line script line)) (answer_to script (tidied_line script line)) refl

used_up : (t : Typing) (octets : List ℕ) → IsUsedUp t
    → answers_next t octets ≡ answers_to t.script (t.typed ++ octets)
used_up t octets h = ap (λ b. cond b [] (answers_to t.script (t.typed ++ octets))) h.going_on

whole : (t : Typing) (line behind octets : List ℕ) → IsUsedUp t → HasNoFeed line
    → t.typed ≡ line ++ 10 ∷ behind
    → answers_next t octets ≡ answers_to_line t.script (tidied_line t.script line)
    ++ answers_next (after_line t (tidied_line t.script line) behind) octets
whole t line behind octets h k e =
    let same : t.typed ++ octets ≡ line ++ 10 ∷ (behind ++ octets) =
    ap (λ typed. typed ++ octets) e ∙ append_assoc line (10 ∷ behind) octets in
    used_up t octets h
    ∙ first_answered t.script (t.typed ++ octets) line (behind ++ octets)
    (ap lines_of same ∙ lines_of-line line (behind ++ octets) k)

last : (t : Typing) (typed : List ℕ) → IsUsedUp t → t.typed ≡ typed → HasNoFeed typed → typed ≢ []
    → answers_next t [] ≡ answers_to_line t.script (tidied_line t.script t.typed)
    ++ answers_next (after_line t (tidied_line t.script t.typed) []) []
last t [] h e k n = absurd (n refl)
last t (o ∷ typed) h e k n =
    used_up t [] h
    ∙ first_answered t.script (t.typed ++ []) t.typed []
    (ap lines_of (append-nil t.typed ∙ e) ∙ lines_of-last o typed k ∙ ap (λ x. x ∷ []) (sym e))

-- ---- All answers.

-- a line was answered, or could not be handled
answered : {T E : Type 0} (r : Result T E) (t u target : Typing) (given now : Option (List Answer))
    (answers : List Answer) (old new : Option (List ℕ)) → new ≡ old
    → OnOk r (u ≡ target) → OnErr r (u ≡ t) → OnOk r (AddsAll given now answers)
    → OnErr r (now ≡ given)
    → ((octets : List ℕ) → old ≡ Some octets
    → answers_next t octets ≡ answers ++ answers_next target octets)
    → KeepsAnswers (all_answers_of given t old) (all_answers_of now u new)
answered r t u target None now answers old new e a b p q h = tt
answered r t u target (Some given) now answers None new e a b p q h = tt
answered (Ok x) t u target (Some given) now answers (Some octets) new e a b p q h =
    rw (e, a, p) (ap Some (append_assoc given answers (answers_next target octets)
    ∙ ap (λ x. given ++ x) (sym (h octets refl))))
answered (Err x) t u target (Some given) now answers (Some octets) new e a b p q h =
    rw (e, b, q) refl

pub whole_answered : {T E : Type 0} (r : Result T E) (t u : Typing) (x line behind : List ℕ)
    (given now : Option (List Answer)) (old new : Option (List ℕ)) → new ≡ old
    → OnOk r (u ≡ after_line t x behind) → OnErr r (u ≡ t)
    → OnOk r (AddsAll given now (answers_to_line t.script x)) → OnErr r (now ≡ given)
    → x ≡ tidied_line t.script line → IsUsedUp t → HasNoFeed line → t.typed ≡ line ++ 10 ∷ behind
    → KeepsAnswers (all_answers_of given t old) (all_answers_of now u new)
whole_answered r t u x line behind given now old new e a b p q tidy h k parts =
    answered r t u (after_line t x behind) given now (answers_to_line t.script x) old new e a b p q
    (λ octets s. rw tidy (whole t line behind octets h k parts))

pub last_answered : {T E : Type 0} (r : Result T E) (t u : Typing) (x typed behind : List ℕ)
    (given now : Option (List Answer)) (old new : Option (List ℕ)) → new ≡ old
    → OnOk r (u ≡ after_line t x behind) → OnErr r (u ≡ t)
    → OnOk r (AddsAll given now (answers_to_line t.script x)) → OnErr r (now ≡ given)
    → x ≡ tidied_line t.script typed → typed ≡ t.typed → behind ≡ [] → IsUsedUp t → IsAtEnd old
    → HasNoFeed t.typed → t.typed ≢ []
    → KeepsAnswers (all_answers_of given t old) (all_answers_of now u new)
last_answered r t u x typed behind given now old new e a b p q tidy same none h at_end k n =
    answered r t u (after_line t x behind) given now (answers_to_line t.script x) old new e a b p q
    (λ octets s. let empty : octets ≡ [] =
    end_of old octets s at_end in rw (tidy, same, none, empty) (last t t.typed h refl k n))
  where
    end_of : (left : Option (List ℕ)) (octets : List ℕ) → left ≡ Some octets → IsAtEnd left
        → octets ≡ []
    end_of None octets s h = absurd cc
    end_of (Some xs) octets s h = let m : xs ≡ octets = cc in sym m ∙ h

-- a reader returned octets, or failed after some
pub more_answered : (t u : Typing) (buf : List ℕ) (given : Option (List Answer))
    (old new : Option (List ℕ)) → u.script ≡ t.script → u.is_ended ≡ t.is_ended → u.typed ≡ buf
    → StartsWith buf t.typed → Consumes old new (appended_bytes t.typed buf)
    → KeepsAnswers (all_answers_of given t old) (all_answers_of given u new)
more_answered t u buf None old new a b e front k = tt
more_answered t u buf (Some given) None new a b e front k = tt
more_answered t u buf (Some given) (Some xs) None a b e front k = absurd k
more_answered t u buf (Some given) (Some xs) (Some ys) a b e front k =
    let grown : u.typed ≡ t.typed ++ appended_bytes t.typed buf =
    e ∙ sym (take-append-drop (length t.typed) buf)
    ∙ ap (λ x. x ++ appended_bytes t.typed buf) front in
    let same : u.typed ++ ys ≡ t.typed ++ xs =
    ap (λ typed. typed ++ ys) grown ∙ append_assoc t.typed (appended_bytes t.typed buf) ys
    ∙ ap (λ octets. t.typed ++ octets) (sym k) in
    rw (a, b, same) refl

-- ---- A line that is passed on has no answer.

unanswered : (script : Script) (line : List ℕ) → is_line_of script line ≡ true
    → answers_to_line script line ≡ []
unanswered script line h = by_ends (ends_input line)
  where
    by_ends : (ends : Bool) → cond ends [] (cons_option (answer_to script line) []) ≡ []
    by_ends true = refl
    by_ends false =
        ap (λ v. cons_option
        (cond v None (cond (bytes_eq line (codes "help")) (Some Helped) (Some Refused))) []) h

pub passed_unanswered : (answers : Option (List Answer)) (script : Script) (line : List ℕ)
    → is_line_of script line ≡ true → AddsAll answers answers (answers_to_line script line)
passed_unanswered None script line h = tt
passed_unanswered (Some given) script line h =
    ap Some (sym (append-nil given) ∙ ap (λ x. given ++ x) (sym (unanswered script line h)))

pub on_err_same : {T E X Y : Type 0} (r : Result T E) (f : X → Y) (a b : X) → OnErr r (a ≡ b)
    → OnErr r (f a ≡ f b)
on_err_same (Ok x) f a b h = tt
on_err_same (Err e) f a b h = ap f h
