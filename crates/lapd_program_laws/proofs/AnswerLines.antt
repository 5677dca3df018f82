-- For a line that is not skipped, `answer` has a step exactly if the line has a valid form.
use Rattle.std.proofs.Common.{◌≡◌, ℕ, List, [], ◌∷◌, Bool, true, false, refl, cond, Some, None, Result, Ok, Err, length, sym, ap, ◌∙◌, codes, ◌||◌, ◌==◌}
use Rattle.std.proofs.lemmas.Bool.{eqb-false}
use Rattle.std.specs.Prelude.{Option, option_and_then, option_map, is_none, is_some, IfOk}
use Rattle.std.specs.List.{AllByRecursion}
use Rattle.std.specs.Str.{bytes_eq}
use Rattle.lapd_cli_script.specs.Line.{words_of, HasNoSpace, octets_behind}
use Rattle.lapd_cli_script.specs.Script.{with_first, outcome_of, is_passed_over, LineOutcome}
use Rattle.lapd_cli_script.proofs.WordsOf.{one_word}
use Rattle.lapd_cli_answer.specs.Answer.{Session, alone, answer_step, answer_word, answer_words, busy, receive, link_step, state_line, with_octets}
use Rattle.lapd_link.specs.Input.{Expiry, Establish, Release, BusyOn, BusyOff, UnitData, Give}
use Rattle.lapd_link.specs.declared.Timer.TheVariants.{T200, T203}
use Rattle.lapd_cli_grammar.specs.declared.form.Argument.{Argument}
use Rattle.lapd_cli_grammar.specs.declared.form.Argument.TheVariants.{Hex, OnOff}
use Rattle.lapd_cli_grammar.specs.declared.script.Script.TheVariants.{Answer}
use Rattle.lapd_cli_grammar.specs.Forms.{Shape, shape_named}
use Rattle.lapd_cli_grammar.specs.Values.{LineValues, by_arguments, is_line_of, no_values, parsed_octets, parsed_words, values_by, with_words}

-- ---- No word of a line has a space.

abbrev HaveNoSpace : List (List ℕ) → Type 0
HaveNoSpace words = AllByRecursion HasNoSpace words

with_octet : (octet : ℕ) (words : List (List ℕ)) → (octet ≡ 32 → ⊥) → HaveNoSpace words
    → HaveNoSpace (with_first octet words)
with_octet octet [] n h = ((n, tt), tt)
with_octet octet (word ∷ words) n h = ((n, h.0), h.1)

words_have_no_space : (line : List ℕ) → HaveNoSpace (words_of line)
words_have_no_space [] = (tt, tt)
words_have_no_space (octet ∷ line) =
    let rest = words_have_no_space line in
    let P : Bool → Type 0 =
    λ b. (octet == 32) ≡ b → HaveNoSpace
    (cond b ([] ∷ words_of line) (with_first octet (words_of line))) in
    elim (octet == 32) as P [
      | true ↦ λ e. (tt, rest)
      | false ↦ λ e. with_octet octet (words_of line) (eqb-false octet 32 e) rest
    ] refl

-- ---- The words after the first.

some_mapped : {X Y : Type 0} (f : X → Y) (o : Option X) → is_some (option_map f o) ≡ is_some o
some_mapped f None = refl
some_mapped f (Some x) = refl

last_kept : {X : Type 0} (f : X → LineValues) (o : Option X)
    → is_some (option_and_then (with_words [] []) (option_map f o)) ≡ is_some o
last_kept f None = refl
last_kept f (Some x) = refl

none_kept : {X : Type 0} (f : X → LineValues) (word : List ℕ) (words : List (List ℕ)) (o : Option X)
    → is_some (option_and_then (with_words [] (word ∷ words)) (option_map f o)) ≡ false
none_kept f word words None = refl
none_kept f word words (Some x) = refl

abbrev with_octets_of : List ℕ → LineValues
with_octets_of octets = record no_values { octets = octets }

abbrev with_switch : Bool → LineValues
with_switch on = record no_values { on = on }

octets_fit : (behind : List (List ℕ)) → HaveNoSpace behind
    → is_some (octets_behind behind) ≡ is_some (with_words (Hex ∷ []) behind no_values)
octets_fit [] h = refl
octets_fit (digits ∷ []) h =
    sym (last_kept with_octets_of (parsed_octets digits)
    ∙ ap (λ words. is_some (octets_behind words)) (one_word digits h.0))
octets_fit (digits ∷ word ∷ words) h =
    sym (none_kept with_octets_of word words (parsed_octets digits))

with_octets_fit : (behind : List (List ℕ)) (next : List ℕ → List ℕ × Session) → HaveNoSpace behind
    → is_some (with_octets behind next) ≡ is_some (with_words (Hex ∷ []) behind no_values)
with_octets_fit behind next h = some_mapped next (octets_behind behind) ∙ octets_fit behind h

alone_fit : (behind : List (List ℕ)) (next : List ℕ × Session) (v : LineValues)
    → is_some (alone behind next) ≡ is_some (with_words [] behind v)
alone_fit [] next v = refl
alone_fit (word ∷ words) next v = refl

either_fits : (b c : Bool) (one other : LineOutcome Session) (rest : LineValues → Option LineValues)
    → is_some one ≡ is_some (rest (with_switch true))
    → is_some other ≡ is_some (rest (with_switch false))
    → is_some (cond b one (cond c other None))
    ≡ is_some (option_and_then rest
    (option_map with_switch (cond b (Some true) (cond c (Some false) None))))
either_fits true c one other rest p q = p
either_fits false true one other rest p q = q
either_fits false false one other rest p q = refl

busy_fits : (s : Session) (behind : List (List ℕ))
    → is_some (busy s behind) ≡ is_some (with_words (OnOff ∷ []) behind no_values)
busy_fits s [] = refl
busy_fits s (word ∷ behind) =
    either_fits (bytes_eq word (codes "on")) (bytes_eq word (codes "off"))
    (alone behind (link_step s BusyOn [])) (alone behind (link_step s BusyOff []))
    (with_words [] behind)
    (alone_fit behind (link_step s BusyOn []) (with_switch true))
    (alone_fit behind (link_step s BusyOff []) (with_switch false))

-- ---- The first word.

next_shape : (word text : List ℕ) (arguments : List Argument) (outcome more : LineOutcome Session)
    (shapes : Option Shape) (behind : List (List ℕ))
    → is_some outcome ≡ is_some (with_words arguments (by_arguments arguments behind) no_values)
    → is_some more ≡ is_some (values_by shapes behind)
    → is_some (cond (bytes_eq word text) outcome more)
    ≡ is_some (values_by (cond (bytes_eq word text) (Some (text, arguments)) shapes) behind)
next_shape word text arguments outcome more shapes behind p q =
    let P : Bool → Type 0 =
    λ b. is_some (cond b outcome more) ≡ is_some
    (values_by (cond b (Some (text, arguments)) shapes) behind) in
    elim (bytes_eq word text) as P [ true ↦ p | false ↦ q ]

alone_next : (word text : List ℕ) (next : List ℕ × Session) (more : LineOutcome Session)
    (shapes : Option Shape) (behind : List (List ℕ))
    → is_some more ≡ is_some (values_by shapes behind)
    → is_some (cond (bytes_eq word text) (alone behind next) more)
    ≡ is_some (values_by (cond (bytes_eq word text) (Some (text, [])) shapes) behind)
alone_next word text next more shapes behind =
    next_shape word text [] (alone behind next) more shapes behind (alone_fit behind next no_values)

octets_next : (word text : List ℕ) (next : List ℕ → List ℕ × Session) (more : LineOutcome Session)
    (shapes : Option Shape) (behind : List (List ℕ)) → HaveNoSpace behind
    → is_some more ≡ is_some (values_by shapes behind)
    → is_some (cond (bytes_eq word text) (with_octets behind next) more)
    ≡ is_some (values_by (cond (bytes_eq word text) (Some (text, Hex ∷ [])) shapes) behind)
octets_next word text next more shapes behind h =
    next_shape word text (Hex ∷ []) (with_octets behind next) more shapes behind
    (with_octets_fit behind next h)

word_fits : (s : Session) (word : List ℕ) (behind : List (List ℕ)) → HaveNoSpace behind
    → is_some (answer_word s word behind) ≡ is_some (values_by (shape_named Answer word) behind)
word_fits s word behind h =
    octets_next word (codes "frame") (receive s) _ _ behind h (
    alone_next word (codes "t200") (link_step s (Expiry T200) []) _ _ behind (
    alone_next word (codes "t203") (link_step s (Expiry T203) []) _ _ behind (
    alone_next word (codes "establish") (link_step s Establish []) _ _ behind (
    alone_next word (codes "release") (link_step s Release []) _ _ behind (
    octets_next word (codes "give") (λ message. link_step s (Give message) []) _ _ behind h (
    octets_next word (codes "unit") (λ octets. link_step s (UnitData (length octets)) octets) _ _
    behind h (
    next_shape word (codes "busy") (OnOff ∷ []) (busy s behind) _ _ behind (busy_fits s behind) (
    alone_next word (codes "state") (state_line s.end, s) None None behind refl))))))))

-- ---- A line.

words_fit : (s : Session) (words : List (List ℕ)) → HaveNoSpace words
    → is_some (answer_words s words) ≡ is_some (parsed_words Answer words)
words_fit s [] h = refl
words_fit s (word ∷ behind) h =
    word_fits s word behind h.1
    ∙ sym (some_mapped (λ v. (word, v)) (values_by (shape_named Answer word) behind))

unless_passed : (passed : Bool) (fits : Bool) (next : List ℕ × Session)
    (outcome : LineOutcome Session)
    → is_some outcome ≡ fits → (passed || fits) ≡ is_some (cond passed (Some next) outcome)
unless_passed true fits next outcome e = refl
unless_passed false fits next outcome e = sym e

pub answer_lines : (s : Session) (line : List ℕ)
    → is_line_of Answer line ≡ is_some (outcome_of answer_step s line)
answer_lines s line =
    unless_passed (is_passed_over line) _ ([], s) (answer_step s line)
    (words_fit s (words_of line) (words_have_no_space line))

-- a report that names no fault of a line's form names none of its step
pub reports_steps : {X E : Type 0} (report : Result (Option X) E) (line : List ℕ)
    → IfOk report (λ fault. is_none fault ≡ is_line_of Answer line)
    → IfOk report (λ fault. (s : Session) → is_none fault ≡ is_some (outcome_of answer_step s line))
reports_steps (Ok fault) line h = λ s. h ∙ answer_lines s line
reports_steps (Err e) line h = h
