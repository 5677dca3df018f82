-- The progress of a side after the lines of a script.
use Rattle.std.proofs.Common.{◌≡◌, ℕ, ◌+◌, List, [], ◌∷◌, ◌++◌, Bool, true, false, Option, Some, None, refl, sym, ap, subst, ◌∙◌, append_assoc}
use Rattle.std.specs.Prelude.{option_map, option_and_then, if◌then◌else◌}
use Rattle.std.proofs.lemmas.List.{append-nil}
use Rattle.lapd_frame.specs.declared.Side.{Side}
use Rattle.lapd_cli_script.specs.Script.{LineOutcome, Step, bad_from, is_passed_over, number_or, outcome_of, state_after, state_or}
use Rattle.lapd_cli_side_commands.specs.Served.{Progress, after_line, requests_in_line, side_step, request_list, requests_of}
use Rattle.lapd_cli_side_commands.specs.Clocks.{Clocked, clock_step, clocked, moment_after}
use Rattle.lapd_cli_side_lines.specs.LineRequests.{LineRequest, request_of_line}

-- ---- Only the clock determines which lines are bad.

-- ---- A line that is not skipped.

line_outcome : {S : Type 0} (step : Step S) (s : S) (line : List ℕ) (o : LineOutcome S)
    → is_passed_over line ≡ false → step s line ≡ o → outcome_of step s line ≡ o
line_outcome step s line o good h =
    ap (λ (passed : Bool). if passed then Some ([], s) else step s line) good ∙ h

after_line_first : {S : Type 0} (step : Step S) (s t : S) (line text : List ℕ)
    (lines : List (List ℕ)) → is_passed_over line ≡ false → step s line ≡ Some (text, t)
    → state_after step t lines ≡ state_after step s (line ∷ lines)
after_line_first step s t line text lines good h =
    sym (ap (λ (o : LineOutcome _). state_or s o (λ u. state_after step u lines))
    (line_outcome step s line (Some (text, t)) good h))

bad_first : {S : Type 0} (step : Step S) (s t : S) (line text : List ℕ) (lines : List (List ℕ))
    (n : ℕ) → is_passed_over line ≡ false → step s line ≡ Some (text, t)
    → bad_from (n + 1) step t lines ≡ bad_from n step s (line ∷ lines)
bad_first step s t line text lines n good h =
    sym (ap (λ (o : LineOutcome _). number_or n o (λ u. bad_from (n + 1) step u lines))
    (line_outcome step s line (Some (text, t)) good h))

bad_there : {S : Type 0} (step : Step S) (s : S) (line : List ℕ) (lines : List (List ℕ)) (n : ℕ)
    → is_passed_over line ≡ false → step s line ≡ None
    → bad_from n step s (line ∷ lines) ≡ Some n
bad_there step s line lines n good h =
    ap (λ (o : LineOutcome _). number_or n o (λ u. bad_from (n + 1) step u lines))
    (line_outcome step s line None good h)

-- a line that is skipped changes nothing
passed_outcome : {S : Type 0} (step : Step S) (s : S) (line : List ℕ) → is_passed_over line ≡ true
    → outcome_of step s line ≡ Some ([], s)
passed_outcome step s line passed =
    ap (λ (is : Bool). if is then Some ([], s) else step s line) passed

after_passed : {S : Type 0} (step : Step S) (s : S) (line : List ℕ) (lines : List (List ℕ))
    → is_passed_over line ≡ true → state_after step s lines ≡ state_after step s (line ∷ lines)
after_passed step s line lines passed =
    sym (ap (λ (o : LineOutcome _). state_or s o (λ u. state_after step u lines))
    (passed_outcome step s line passed))

bad_passed : {S : Type 0} (step : Step S) (s : S) (line : List ℕ) (lines : List (List ℕ)) (n : ℕ)
    → is_passed_over line ≡ true → bad_from (n + 1) step s lines ≡ bad_from n step s (line ∷ lines)
bad_passed step s line lines n passed =
    sym (ap (λ (o : LineOutcome _). number_or n o (λ u. bad_from (n + 1) step u lines))
    (passed_outcome step s line passed))

-- ---- Only the clock determines which lines are bad.

side_stepped : (s : Progress) (line : List ℕ) (o : LineOutcome Clocked)
    → clock_step s.clock line ≡ o → side_step s line ≡ option_map (after_line s line) o
side_stepped s line o h = ap (option_map (after_line s line)) h

abbrev pub Same : Progress → List (List ℕ) → ℕ → Type 0
Same s lines n = bad_from n side_step s lines ≡ bad_from n clock_step s.clock lines

same_line : (s : Progress) (line : List ℕ) (lines : List (List ℕ)) (n : ℕ) (passed : Bool)
    (o : LineOutcome Clocked) → is_passed_over line ≡ passed
    → clock_step s.clock line ≡ o → ((t : Progress) → Same t lines (n + 1))
    → Same s (line ∷ lines) n
same_line s line lines n true o is step rest =
    sym (bad_passed side_step s line lines n is) ∙ rest s
    ∙ bad_passed clock_step s.clock line lines n is
same_line s line lines n false None is step rest =
    bad_there side_step s line lines n is (side_stepped s line None step)
    ∙ sym (bad_there clock_step s.clock line lines n is step)
same_line s line lines n false (Some (text, clock)) is step rest =
    let t : Progress = (after_line s line (text, clock)).1 in
    sym (bad_first side_step s t line text lines n
    is (side_stepped s line (Some (text, clock)) step)) ∙ rest t
    ∙ bad_first clock_step s.clock clock line text lines n is step

pub same_from : (n : ℕ) (s : Progress) (lines : List (List ℕ)) → Same s lines n
same_from n s [] = refl
same_from n s (line ∷ lines) =
    same_line s line lines n (is_passed_over line) (clock_step s.clock line) refl refl
    (λ t. same_from (n + 1) t lines)

-- ---- The requests of the lines, if none is bad.

abbrev side_in : Side → LineOutcome Clocked → Side
side_in side None = side
side_in side (Some (text, clock)) = clock.side

side_preserved : (c d : Clocked) (line text : List ℕ) → clock_step c line ≡ Some (text, d)
    → d.side ≡ c.side
side_preserved c d line text =
    by (option_and_then (moment_after c.now) (request_of_line c.side line))
  where
    by : (o : Option ℕ) → option_map (clocked c.side) o ≡ Some (text, d) → d.side ≡ c.side
    by None h = absurd (cc)
    by (Some now) h = ap (side_in c.side) (sym h)

requests_first : (side : Side) (line : List ℕ) (passed : Bool) → is_passed_over line ≡ passed
    → requests_in_line side line ≡ (if passed then [] else request_list (request_of_line side line))
requests_first side line passed is =
    ap (λ (b : Bool). if b then [] else request_list (request_of_line side line)) is

pub record IsAfter (s t : Progress) (lines : List (List ℕ)) : Type 0 where
  pub clock : t.clock ≡ state_after clock_step s.clock lines
  pub line_requests : t.line_requests ≡ s.line_requests ++ requests_of s.clock.side lines
  pub begun : t.begun ≡ s.begun

after_one : (s : Progress) (line : List ℕ) (lines : List (List ℕ)) (n : ℕ) (passed : Bool)
    (o : LineOutcome Clocked) → is_passed_over line ≡ passed
    → clock_step s.clock line ≡ o → bad_from n clock_step s.clock (line ∷ lines) ≡ None
    → ((t : Progress) → bad_from (n + 1) clock_step t.clock lines ≡ None
    → IsAfter t (state_after side_step t lines) lines)
    → IsAfter s (state_after side_step s (line ∷ lines)) (line ∷ lines)
after_one s line lines n true o is step good rest =
    let more = rest s (bad_passed clock_step s.clock line lines n is ∙ good) in
    subst (λ (t : Progress). IsAfter s t (line ∷ lines)) (after_passed side_step s line lines is)
    (record {
      clock = more.clock ∙ after_passed clock_step s.clock line lines is;
      line_requests =
          more.line_requests
          ∙ ap (λ (w : List LineRequest). s.line_requests ++ (w ++ requests_of s.clock.side lines))
          (sym (requests_first s.clock.side line true is));
      begun = more.begun;
    })
after_one s line lines n false None is step good rest =
    absurd
    (let h : Some n ≡ None = sym (bad_there clock_step s.clock line lines n is step) ∙ good in cc)
after_one s line lines n false (Some (text, clock)) is step good rest =
    let t : Progress = (after_line s line (text, clock)).1 in
    let more = rest t (bad_first clock_step s.clock clock line text lines n is step ∙ good) in
    subst (λ (u : Progress). IsAfter s u (line ∷ lines))
    (after_line_first side_step s t line text lines is
    (side_stepped s line (Some (text, clock)) step)) (record {
      clock = more.clock ∙ after_line_first clock_step s.clock clock line text lines is step;
      line_requests = more.line_requests
          ∙ append_assoc s.line_requests (request_list (request_of_line s.clock.side line))
          (requests_of clock.side lines)
          ∙ ap (λ (side : Side). s.line_requests ++
          (request_list (request_of_line s.clock.side line) ++ requests_of side lines))
          (side_preserved s.clock clock line text step)
          ∙ ap (λ (w : List LineRequest). s.line_requests ++ (w ++ requests_of s.clock.side lines))
          (sym (requests_first s.clock.side line false is));
      begun = more.begun;
    })

pub progress_after : (n : ℕ) (s : Progress) (lines : List (List ℕ))
    → bad_from n clock_step s.clock lines ≡ None → IsAfter s (state_after side_step s lines) lines
progress_after n s [] good =
    record { clock = refl; line_requests = sym (append-nil s.line_requests); begun = refl }
progress_after n s (line ∷ lines) good =
    after_one s line lines n (is_passed_over line) (clock_step s.clock line) refl refl good
    (λ t. progress_after (n + 1) t lines)
