-- Lemmas on executing the lines of a script.
use Rattle.std.specs.Prelude.{⊤}
use Rattle.std.proofs.Common.{◌≡◌, ℕ, ◌+◌, ◌<◌, List, [], ◌∷◌, ◌++◌, true, false, Option, None, Some, length, Result, Ok, Err, inl, inr, IsNone, IsSomeAnd, OnOk, IsErrAnd, IfSome, refl, sym, ap, ◌∙◌, subst, append_assoc, append-nil, length-append, arith}
use Rattle.std.specs.Io.KnownBytes.{Appends, Keeps, Consumes, IsAtEnd}
use Rattle.std.proofs.KnownBytes.{Appends-nil, Appends-trans, Appends-kept, Keeps-refl}
use Rattle.lapd_cli_script.specs.Script.{Step, outcome_of, is_passed_over, before_rest, number_or, state_or, output_of, bad_from, bad_line, state_after, EndsAs}
use Rattle.lapd_cli_script.specs.WalkState.{HasNoFeed, without_comment, walk_lines, Ran, Walk, WalkEnds, PreservesFault, WalkIsAt}
use Rattle.lapd_cli_script.proofs.Lines.{outcome_of-passed, outcome_of-not_passed, outcome_of-without_comment, walk_lines-whole, walk_lines-last, walk_lines-shorter}
use Rattle.lapd_cli_script.specs.declared.script.ScriptFault.{ScriptFault}
use Rattle.lapd_cli_script.specs.declared.script.ScriptFault.TheVariants.{BadLine, Device, Memory, Port}

-- ---- values in an Option

some_of : {X : Type 0} (o : Option X) (P : X → Type 0) → IsSomeAnd o P
    → (x : X) × (o ≡ Some x) × P x
some_of None P h = absurd h
some_of (Some x) P h = (x, refl, h)

some_at : {X : Type 0} (o : Option X) (P : X → Type 0) (x : X) → o ≡ Some x → P x → IsSomeAnd o P
some_at {X} o P x e h = let F : Option X → Type 0 = λ v. IsSomeAnd v P in subst F (sym e) h

none_of : {X : Type 0} (o : Option X) → IsNone o → o ≡ None
none_of None h = refl
none_of (Some x) h = cc

-- ---- lines that were executed

Ran-one : {S : Type 0} (step : Step S) (s : S) (line : List ℕ) (next : List ℕ × S)
    → outcome_of step s line ≡ Some next → Ran step s (line ∷ []) next.0 next.1
Ran-one step s line next e =
    some_at (outcome_of step s line) _ next e ([], sym (append-nil next.0), (refl, refl))

Ran-append : {S : Type 0} (step : Step S) (s : S) (a b : List (List ℕ)) (text more : List ℕ)
    (t u : S) → Ran step s a text t → Ran step t b more u → Ran step s (a ++ b) (text ++ more) u
Ran-append {S} step s [] b text more t u h k =
    let F : S → Type 0 = λ x. Ran step x b more u in
    let G : List ℕ → Type 0 = λ x. Ran step s b (x ++ more) u in
    subst G (sym h.0) (subst F h.1 k)
Ran-append {S} step s (line ∷ a) b text more t u h k =
    let w = some_of (outcome_of step s line) _ h in
    some_at (outcome_of step s line) _ w.0 w.1 (
      w.2.0 ++ more,
      ap (λ x. x ++ more) w.2.1 ∙ append_assoc w.0.0 w.2.0 more,
      Ran-append step w.0.1 a b w.2.0 more t u w.2.2 k,
    )

output_of-ran : {S : Type 0} (step : Step S) (s : S) (a more : List (List ℕ)) (text : List ℕ)
    (t : S) → Ran step s a text t → output_of step s (a ++ more) ≡ text ++ output_of step t more
output_of-ran step s [] more text t h =
    ap (λ x. output_of step x more) (sym h.1) ∙ ap (λ x. x ++ output_of step t more) (sym h.0)
output_of-ran step s (line ∷ a) more text t h =
    let w = some_of (outcome_of step s line) _ h in
    ap (λ o. before_rest o (λ x. output_of step x (a ++ more))) w.1
    ∙ ap (λ x. w.0.0 ++ x) (output_of-ran step w.0.1 a more w.2.0 t w.2.2)
    ∙ sym (append_assoc w.0.0 w.2.0 (output_of step t more))
    ∙ ap (λ x. x ++ output_of step t more) (sym w.2.1)

bad_from-ran : {S : Type 0} (step : Step S) (n : ℕ) (s : S) (a more : List (List ℕ)) (text : List ℕ)
    (t : S) → Ran step s a text t
    → bad_from n step s (a ++ more) ≡ bad_from (n + length a) step t more
bad_from-ran step n s [] more text t h =
    ap (λ x. bad_from n step x more) (sym h.1) ∙ ap (λ x. bad_from x step t more) (omega arith)
bad_from-ran step n s (line ∷ a) more text t h =
    let w = some_of (outcome_of step s line) _ h in
    ap (λ o. number_or n o (λ x. bad_from (n + 1) step x (a ++ more))) w.1
    ∙ bad_from-ran step (n + 1) w.0.1 a more w.2.0 t w.2.2
    ∙ ap (λ x. bad_from x step t more) (omega arith)

state_after-ran : {S : Type 0} (step : Step S) (s : S) (a : List (List ℕ)) (text : List ℕ) (t : S)
    → Ran step s a text t → state_after step s a ≡ t
state_after-ran step s [] text t h = sym h.1
state_after-ran step s (line ∷ a) text t h =
    let w = some_of (outcome_of step s line) _ h in
    ap (λ o. state_or s o (λ x. state_after step x a)) w.1
    ∙ state_after-ran step w.0.1 a w.2.0 t w.2.2

-- ---- one run of lines after another

pub Walk-none : {S : Type 0} (step : Step S) (s : S) (lines : List (List ℕ)) (n : ℕ)
    (old new : Option (List ℕ)) → Keeps old new → Walk step s lines lines s n n old new
Walk-none step s lines n old new h = record {
  finished = [];
  text = [];
  parted = refl;
  counted = omega arith;
  ran = (refl, refl);
  grew = Appends-kept old old new [] (Appends-nil old) h;
}

pub Walk-trans : {S : Type 0} (step : Step S) (s : S) (lines mid more : List (List ℕ)) (t u : S)
    (n i m : ℕ) (a b c : Option (List ℕ)) → Walk step s lines mid t n i a b
    → Walk step t mid more u i m b c → Walk step s lines more u n m a c
Walk-trans step s lines mid more t u n i m a b c p q = record {
  finished = p.finished ++ q.finished;
  text = p.text ++ q.text;
  parted =
      p.parted ∙ ap (λ x. p.finished ++ x) q.parted ∙ sym (append_assoc p.finished q.finished more);
  counted =
      let e = p.counted in let f = q.counted in omega (arith, length-append p.finished q.finished);
  ran = Ran-append step s p.finished q.finished p.text q.text t u p.ran q.ran;
  grew = Appends-trans a b c p.text q.text p.grew q.grew;
}

pub Walk-unchanged : {S : Type 0} (step : Step S) (s : S) (lines more : List (List ℕ)) (t : S)
    (n m : ℕ) (a b c : Option (List ℕ)) → Walk step s lines more t n m a b → Keeps b c
    → Walk step s lines more t n m a c
Walk-unchanged step s lines more t n m a b c p k = record {
  finished = p.finished;
  text = p.text;
  parted = p.parted;
  counted = p.counted;
  ran = p.ran;
  grew = Appends-kept a b c p.text p.grew k;
}

Walk-one : {S : Type 0} (step : Step S) (s : S) (line : List ℕ) (more : List (List ℕ))
    (next : List ℕ × S) (n : ℕ) (a b : Option (List ℕ)) → outcome_of step s line ≡ Some next
    → Appends a b next.0 → Walk step s (line ∷ more) more next.1 n (n + 1) a b
Walk-one step s line more next n a b e h = record {
  finished = line ∷ [];
  text = next.0;
  parted = refl;
  counted = refl;
  ran = Ran-one step s line next e;
  grew = h;
}

-- ---- one line

-- a line that is skipped
pub line_passed : {C S : Type 0} (represents : C → S → Type 0) (step : Step S) (s : S)
    (line : List ℕ) (more : List (List ℕ)) (command : C) (n : ℕ) (a : Option (List ℕ))
    → is_passed_over line ≡ true → represents command s
    → WalkEnds represents step s (Ok tt) (without_comment line ∷ more) more command n (n + 1) a
    a
line_passed represents step s line more command n a e h = (
  s,
  h,
  Walk-one step s (without_comment line) more ([], s) n
      a a (outcome_of-without_comment step s line ∙ outcome_of-passed step s line e)
      (Appends-nil a),
)

-- a line that is executed
pub line_done : {C S : Type 0} (represents : C → S → Type 0) (step : Step S) (s : S) (line : List ℕ)
    (more : List (List ℕ)) (command : C) (n : ℕ) (a b : Option (List ℕ))
    → is_passed_over line ≡ false
    → IsSomeAnd (step s line) (λ next. represents command next.1 × Appends a b next.0)
    → WalkEnds represents step s (Ok tt) (without_comment line ∷ more) more command n (n + 1) a
    b
line_done represents step s line more command n a b e h =
    let w = some_of (step s line) _ h in (
      w.0.1,
      w.2.0,
      Walk-one step s (without_comment line) more w.0 n
          a b (outcome_of-without_comment step s line ∙ outcome_of-not_passed step s line e ∙ w.1)
          w.2.1,
    )

-- a bad line
pub line_bad : {C S : Type 0} (represents : C → S → Type 0) (step : Step S) (s : S) (line : List ℕ)
    (more : List (List ℕ)) (command : C) (n : ℕ) (a b : Option (List ℕ))
    → is_passed_over line ≡ false → IsNone (step s line) × Keeps a b
    → WalkEnds represents step s (Err (BadLine (n + 1))) (without_comment line ∷ more) more
    command n (n + 1) a b
line_bad represents step s line more command n a b e h = (
  s,
  without_comment line,
  more,
  n,
  Walk-none step s (without_comment line ∷ more) n a b h.1,
  outcome_of-without_comment step s line ∙ outcome_of-not_passed step s line e
      ∙ none_of (step s line) h.0,
  refl,
)

-- an allocation failed
pub memory_out : {C S : Type 0} (represents : C → S → Type 0) (step : Step S) (s : S)
    (lines more : List (List ℕ)) (command : C) (n m : ℕ) (a b : Option (List ℕ))
    → Keeps a b → WalkEnds represents step s (Err Memory) lines more command n m a b
memory_out represents step s lines more command n m a b h =
    (s, lines, n, Walk-none step s lines n a b h)

-- ---- how a run ends

-- a run that continues another
pub WalkEnds-after : {C S : Type 0} (represents : C → S → Type 0) (step : Step S) (s t : S)
    (result : Result ⊤ ScriptFault) (lines mid last : List (List ℕ)) (command : C) (n i m : ℕ)
    (a b c : Option (List ℕ))
    → Walk step s lines mid t n i a b → WalkEnds represents step t result mid last command i m b c
    → WalkEnds represents step s result lines last command n m a c
WalkEnds-after represents step s t (Ok done) lines mid last command n i m a b c p q =
    (q.0, q.1, Walk-trans step s lines mid last t q.0 n i m a b c p q.2)
WalkEnds-after represents step s t (Err (BadLine number)) lines mid last command n i m a b c p q = (
  q.0,
  q.1,
  q.2,
  q.3,
  Walk-trans step s lines mid (q.1 ∷ q.2) t q.0 n i q.3 a b c p q.4,
  q.5,
  q.6,
)
WalkEnds-after represents step s t (Err Memory) lines mid last command n i m a b c p q =
    (q.0, q.1, q.2, Walk-trans step s lines mid q.1 t q.0 n i q.2 a b c p q.3)
WalkEnds-after represents step s t (Err Device) lines mid last command n i m a b c p q = tt
WalkEnds-after represents step s t (Err (Port fault)) lines mid last command n i m a b c p q = q

-- a run whose output was flushed
pub WalkEnds-unchanged : {C S : Type 0} (represents : C → S → Type 0) (step : Step S) (s : S)
    (result : Result ⊤ ScriptFault) (lines last : List (List ℕ)) (command : C) (n m : ℕ)
    (a b c : Option (List ℕ))
    → WalkEnds represents step s result lines last command n m a b → Keeps b c
    → WalkEnds represents step s result lines last command n m a c
WalkEnds-unchanged represents step s (Ok done) lines last command n m a b c q k =
    (q.0, q.1, Walk-unchanged step s lines last q.0 n m a b c q.2 k)
WalkEnds-unchanged represents step s (Err (BadLine number)) lines last command n m a b c q k =
    (q.0, q.1, q.2, q.3, Walk-unchanged step s lines (q.1 ∷ q.2) q.0 n q.3 a b c q.4 k, q.5, q.6)
WalkEnds-unchanged represents step s (Err Memory) lines last command n m a b c q k =
    (q.0, q.1, q.2, Walk-unchanged step s lines q.1 q.0 n q.2 a b c q.3 k)
WalkEnds-unchanged represents step s (Err Device) lines last command n m a b c q k = tt
WalkEnds-unchanged represents step s (Err (Port fault)) lines last command n m a b c q k = q

-- a run to the end of a script
EndsAs-walk : {C S : Type 0} (represents : C → S → Type 0) (step : Step S) (s : S)
    (result : Result ⊤ ScriptFault) (lines : List (List ℕ)) (command : C) (m : ℕ)
    (a b : Option (List ℕ))
    → WalkEnds represents step s result lines [] command 0 m a b → EndsAs step s result lines a b
EndsAs-walk represents step s (Ok done) lines command m a b q =
    let w = q.2 in
    let text : output_of step s lines ≡ w.text =
    ap (output_of step s) w.parted ∙ output_of-ran step s w.finished [] w.text q.0 w.ran
    ∙ append-nil w.text in (
      ap (bad_from 1 step s) w.parted ∙ bad_from-ran step 1 s w.finished [] w.text q.0 w.ran,
      subst (Appends a b) (sym text) w.grew,
    )
EndsAs-walk represents step s (Err (BadLine number)) lines command m a b q =
    let w = q.4 in
    let first : output_of step q.0 (q.1 ∷ q.2) ≡ [] =
    ap (λ o. before_rest o (λ x. output_of step x q.2)) q.5 in
    let text : output_of step s lines ≡ w.text =
    ap (output_of step s) w.parted
    ∙ output_of-ran step s w.finished (q.1 ∷ q.2) w.text q.0 w.ran
    ∙ ap (λ x. w.text ++ x) first ∙ append-nil w.text in
    let counted = w.counted in
    let is_number : 1 + length w.finished ≡ number = omega (arith, q.6) in (
      ap (bad_from 1 step s) w.parted
          ∙ bad_from-ran step 1 s w.finished (q.1 ∷ q.2) w.text q.0 w.ran
          ∙ ap (λ o. number_or (1 + length w.finished) o
          (λ x. bad_from (1 + length w.finished + 1) step x q.2)) q.5
          ∙ ap Some is_number,
      subst (Appends a b) (sym text) w.grew,
    )
EndsAs-walk represents step s (Err Memory) lines command m a b q =
    let w = q.3 in
    let whole : w.finished ++ [] ≡ w.finished = append-nil w.finished in
    let text : output_of step s w.finished ≡ w.text =
    ap (output_of step s) (sym whole) ∙ output_of-ran step s w.finished [] w.text q.0 w.ran
    ∙ append-nil w.text in
    let good : bad_line step s w.finished ≡ None =
    ap (bad_from 1 step s) (sym whole)
    ∙ bad_from-ran step 1 s w.finished [] w.text q.0 w.ran in
    (w.finished, q.1, w.parted, good, subst (Appends a b) (sym text) w.grew)
EndsAs-walk represents step s (Err Device) lines command m a b q = tt
EndsAs-walk represents step s (Err (Port fault)) lines command m a b q = q

-- the run ends as before, or with a device fault
pub WalkEnds-handed : {C S : Type 0} (represents : C → S → Type 0) (step : Step S) (s : S)
    (ended result : Result ⊤ ScriptFault) (lines : List (List ℕ)) (command : C) (m : ℕ)
    (a b c : Option (List ℕ))
    → WalkEnds represents step s ended lines [] command 0 m a b → Keeps b c
    → PreservesFault ended result → EndsAs step s result lines a c
WalkEnds-handed {C} {S} represents step s ended result lines command m a b c q k (inl same) =
    let F : Result ⊤ ScriptFault → Type 0 = λ x. EndsAs step s x lines a c in
    subst F (sym same) (EndsAs-walk represents step s ended lines command m a c
    (WalkEnds-unchanged represents step s ended lines [] command 0 m a b c q k))
WalkEnds-handed {C} {S} represents step s ended result lines command m a b c q k (inr fault) =
    let F : Result ⊤ ScriptFault → Type 0 = λ x. EndsAs step s x lines a c in
    subst F (sym fault) tt

-- at the end the command is in the state after the lines
represents_after : {C S : Type 0} (represents : C → S → Type 0) (step : Step S) (s : S)
    (ended : Result ⊤ ScriptFault) (lines : List (List ℕ)) (command : C) (m : ℕ)
    (a b : Option (List ℕ))
    → WalkEnds represents step s ended lines [] command 0 m a b
    → OnOk ended (represents command (state_after step s lines))
represents_after {C} {S} represents step s (Ok done) lines command m a b q =
    let w = q.2 in
    let e : state_after step s lines ≡ q.0 =
    ap (state_after step s) (w.parted ∙ append-nil w.finished)
    ∙ state_after-ran step s w.finished w.text q.0 w.ran in
    subst (represents command) (sym e) q.1
represents_after represents step s (Err fault) lines command m a b q = tt

-- ---- runs that fail

-- how a run fails does not depend on which lines it was to leave
pub fails_after : {C S : Type 0} (represents : C → S → Type 0) (step : Step S) (s t : S)
    (result : Result ⊤ ScriptFault) (fault : ScriptFault) (lines mid last other : List (List ℕ))
    (command : C) (n i m k : ℕ) (a b c : Option (List ℕ))
    → IsErrAnd result (λ e. e ≡ fault) → Walk step s lines mid t n i a b
    → WalkEnds represents step t (Err fault) mid other command i k b c
    → WalkEnds represents step s result lines last command n m a c
fails_after represents step s t (Ok done) fault lines mid last other command n i m k a b c is p q =
    absurd is
fails_after {C} {S} represents step s t (Err e) fault lines mid last other command n i m k a b c is
    p q =
    let F : ScriptFault → Type 0 =
    λ x. WalkEnds represents step s (Err x) lines last command n m a c in
    subst F (sym is) (left_open represents step s fault lines other last command n
    k m a c (WalkEnds-after represents step s t (Err fault) lines mid other command n
    i k a b c p q))
  where
    left_open : {C S : Type 0} (represents : C → S → Type 0) (step : Step S) (s : S)
        (fault : ScriptFault) (lines other last : List (List ℕ)) (command : C) (n k m : ℕ)
        (a c : Option (List ℕ))
        → WalkEnds represents step s (Err fault) lines other command n k a c
        → WalkEnds represents step s (Err fault) lines last command n m a c
    left_open represents step s (BadLine number) lines other last command n k m a c q = q
    left_open represents step s Device lines other last command n k m a c q = q
    left_open represents step s Memory lines other last command n k m a c q = q
    left_open represents step s (Port fault) lines other last command n k m a c q = q

-- an allocation failed after a run
pub memory_after : {C S : Type 0} (represents : C → S → Type 0) (step : Step S) (s t : S)
    (result : Result ⊤ ScriptFault) (fault : ScriptFault) (lines mid last : List (List ℕ))
    (command : C) (n i m : ℕ) (a b : Option (List ℕ))
    → IsErrAnd result (λ e. e ≡ fault) → fault ≡ Memory → Walk step s lines mid t n i a b
    → WalkEnds represents step s result lines last command n m a b
memory_after represents step s t (Ok done) fault lines mid last command n i m a b is out p =
    absurd is
memory_after {C} {S} represents step s t (Err e) fault lines mid last command n i m a b is out p =
    let F : ScriptFault → Type 0 =
    λ x. WalkEnds represents step s (Err x) lines last command n m a b in
    subst F (sym (is ∙ out)) (t, mid, i, p)

-- ---- a part of the script

-- a whole line whose beginning may have been read before
pub whole_done : {C S : Type 0} (represents : C → S → Type 0) (step : Step S) (s : S)
    (result : Result ⊤ ScriptFault) (cut line joined left after : List ℕ) (command : C) (n m : ℕ)
    (a b : Option (List ℕ))
    → joined ≡ cut ++ line → HasNoFeed cut → HasNoFeed line
    → WalkEnds represents step s result (without_comment joined ∷ walk_lines (left ++ after))
    (walk_lines (left ++ after)) command n m a b
    → WalkEnds represents step s result (walk_lines (cut ++ (line ++ 10 ∷ left) ++ after))
    (walk_lines (left ++ after)) command n m a b
whole_done {C} {S} represents step s result cut line joined left after command n m a b e h k q =
    let F : List (List ℕ) → Type 0 =
    λ x. WalkEnds represents step s result x (walk_lines (left ++ after)) command n m a b in
    subst F (ap (λ x. without_comment x ∷ walk_lines (left ++ after)) e
    ∙ sym (walk_lines-whole cut line left after h k)) q

-- the run so far, with the remaining octets written in another form
pub Walk-same : {S : Type 0} (step : Step S) (s : S) (lines : List (List ℕ)) (x y : List ℕ) (t : S)
    (n m : ℕ) (a b : Option (List ℕ)) → x ≡ y → Walk step s lines (walk_lines x) t n m a b
    → Walk step s lines (walk_lines y) t n m a b
Walk-same {S} step s lines x y t n m a b e p =
    let F : List ℕ → Type 0 = λ z. Walk step s lines (walk_lines z) t n m a b in subst F e p

-- the run so far, with the unfinished line cut to the part that is kept
pub Walk-cut : {S : Type 0} (step : Step S) (s : S) (lines : List (List ℕ)) (cut new after : List ℕ)
    (t : S) (n m : ℕ) (a b : Option (List ℕ))
    → HasNoFeed cut → new ≡ without_comment cut
    → Walk step s lines (walk_lines (cut ++ after)) t n m a b
    → Walk step s lines (walk_lines (new ++ after)) t n m a b
Walk-cut {S} step s lines cut new after t n m a b h e p =
    let F : List (List ℕ) → Type 0 = λ z. Walk step s lines z t n m a b in
    subst F (sym (ap (λ x. walk_lines (x ++ after)) e ∙ walk_lines-shorter cut after h)) p

-- the last line
pub last_ends : {C S : Type 0} (represents : C → S → Type 0) (step : Step S) (s : S)
    (result : Result ⊤ ScriptFault) (cut : List ℕ) (command : C) (n m : ℕ) (a b : Option (List ℕ))
    → 0 < length cut → HasNoFeed cut
    → WalkEnds represents step s result (without_comment cut ∷ []) [] command n m a b
    → WalkEnds represents step s result (walk_lines cut) [] command n m a b
last_ends represents step s result [] command n m a b some h q = absurd (omega arith)
last_ends {C} {S} represents step s result (o ∷ line) command n m a b some h q =
    let F : List (List ℕ) → Type 0 = λ x. WalkEnds represents step s result x [] command n m a b in
    subst F (sym (walk_lines-last o line h)) q

-- no unfinished line is left
pub none_last : {C S : Type 0} (represents : C → S → Type 0) (step : Step S) (s : S) (cut : List ℕ)
    (command : C) (n : ℕ) (a : Option (List ℕ))
    → length cut ≡ 0 → represents command s
    → WalkEnds represents step s (Ok tt) (walk_lines cut) [] command n n a a
none_last represents step s [] command n a none h = (s, h, Walk-none step s [] n a a (Keeps-refl a))
none_last represents step s (o ∷ line) command n a none h = absurd (omega arith)

-- ---- reads

consumes_some : (rest part : List ℕ) (new : Option (List ℕ)) → Consumes (Some rest) new part
    → (ys : List ℕ) × (new ≡ Some ys) × (rest ≡ part ++ ys)
consumes_some rest part None h = absurd h
consumes_some rest part (Some ys) h = (ys, refl, h)

-- the output is flushed
pub WalkIsAt-unchanged : {C S : Type 0} (represents : C → S → Type 0) (step : Step S) (s : S)
    (initial now : Option (List ℕ)) (command : C) (cut : List ℕ) (n : ℕ) (a b c : Option (List ℕ))
    → WalkIsAt represents step s initial now command cut n a b → Keeps b c
    → WalkIsAt represents step s initial now command cut n a c
WalkIsAt-unchanged represents step s None now command cut n a b c p k = tt
WalkIsAt-unchanged represents step s (Some octets) now command cut n a b c p k = (
  p.0,
  p.1,
  p.2,
  p.3,
  Walk-unchanged step s (walk_lines octets) (walk_lines (cut ++ p.0)) p.1 0 n
      a b c p.4 k,
)

-- a read that fails changes nothing
pub WalkIsAt-unread : {C S : Type 0} (represents : C → S → Type 0) (step : Step S) (s : S)
    (initial now new : Option (List ℕ)) (command : C) (cut : List ℕ) (n : ℕ) (a b : Option (List ℕ))
    → WalkIsAt represents step s initial now command cut n a b → Keeps now new
    → WalkIsAt represents step s initial new command cut n a b
WalkIsAt-unread represents step s None now new command cut n a b p k = tt
WalkIsAt-unread represents step s (Some octets) now new command cut n a b p k =
    let unchanged : Keeps (Some p.0) new = subst (λ x. Keeps x new) p.2 k in
    (p.0, p.1, same_preserved p.0 new unchanged, p.3, p.4)
  where
    same_preserved : (rest : List ℕ) (new : Option (List ℕ)) → Keeps (Some rest) new
        → new ≡ Some rest
    same_preserved rest None h = absurd h
    same_preserved rest (Some ys) h = ap Some h

-- a part is read, and its lines are executed
pub WalkIsAt-read : {C S : Type 0} (represents : C → S → Type 0) (step : Step S) (s : S)
    (initial now new : Option (List ℕ)) (command command' : C) (cut part cut' : List ℕ) (n m : ℕ)
    (a b c : Option (List ℕ))
    → WalkIsAt represents step s initial now command cut n a b → Consumes now new part
    → ((t : S) (after : List ℕ) → represents command t
    → WalkEnds represents step t (Ok tt) (walk_lines (cut ++ part ++ after))
    (walk_lines (cut' ++ after)) command' n m b c)
    → WalkIsAt represents step s initial new command' cut' m a c
WalkIsAt-read represents step s None now new command command' cut part cut' n m a b c p k f = tt
WalkIsAt-read represents step s (Some octets) now new command command' cut part cut' n m a b c p k
    f =
    let w = consumes_some p.0 part new (subst (λ x. Consumes x new part) p.2 k) in
    let e : cut ++ p.0 ≡ cut ++ part ++ w.0 =
    ap (λ x. cut ++ x) w.2 ∙ sym (append_assoc cut part w.0) in
    let q = f p.1 w.0 p.3 in (
      w.0,
      q.0,
      w.1,
      q.1,
      Walk-trans step s (walk_lines octets) (walk_lines (cut ++ part ++ w.0))
          (walk_lines (cut' ++ w.0)) p.1 q.0 0 n
          m a b c (Walk-same step s (walk_lines octets) _ _ p.1 0 n a b e p.4) q.2,
    )

-- a part is read, and a line of it fails
pub WalkIsAt-fails : {C S : Type 0} (represents : C → S → Type 0) (step : Step S) (s : S)
    (initial now new : Option (List ℕ)) (command command' : C) (result : Result ⊤ ScriptFault)
    (fault : ScriptFault) (cut part cut' : List ℕ) (n m : ℕ) (a b c : Option (List ℕ))
    → IsErrAnd result (λ e. e ≡ fault) → WalkIsAt represents step s initial now command cut n a b
    → Consumes now new part
    → ((t : S) (after : List ℕ) → represents command t
    → WalkEnds represents step t (Err fault) (walk_lines (cut ++ part ++ after))
    (walk_lines (cut' ++ after)) command' n m b c)
    → IfSome initial (λ octets. (x : ℕ) × WalkEnds represents step s result (walk_lines octets) []
    command' 0 x a c)
WalkIsAt-fails represents step s None now new command command' result fault cut part cut' n m a b c
    is p k f =
    tt
WalkIsAt-fails represents step s (Some octets) now new command command' result fault cut part cut' n
    m a b c is p k f =
    let w = consumes_some p.0 part new (subst (λ x. Consumes x new part) p.2 k) in
    let e : cut ++ p.0 ≡ cut ++ part ++ w.0 =
    ap (λ x. cut ++ x) w.2 ∙ sym (append_assoc cut part w.0) in (
      m,
      fails_after represents step s p.1 result fault (walk_lines octets)
          (walk_lines (cut ++ part ++ w.0)) [] (walk_lines (cut' ++ w.0)) command' 0 n
          m m a b c is (Walk-same step s (walk_lines octets) _ _ p.1 0 n a b e p.4)
          (f p.1 w.0 p.3),
    )

-- the reader is at its end
pub WalkIsAt-last : {C S : Type 0} (represents : C → S → Type 0) (step : Step S) (s : S)
    (initial now new : Option (List ℕ)) (command command' : C) (result : Result ⊤ ScriptFault)
    (cut part : List ℕ) (n m : ℕ) (a b c : Option (List ℕ))
    → WalkIsAt represents step s initial now command cut n a b → Consumes now new part
    → length part ≡ 0 → IsAtEnd new
    → ((t : S) → represents command t
    → WalkEnds represents step t result (walk_lines cut) [] command' n m b c)
    → IfSome initial (λ octets. (x : ℕ) × WalkEnds represents step s result (walk_lines octets) []
    command' 0 x a c)
WalkIsAt-last represents step s None now new command command' result cut part n m a b c p k none end
    f =
    tt
WalkIsAt-last represents step s (Some octets) now new command command' result cut part n m a b c p k
    none end f =
    let w = consumes_some p.0 part new (subst (λ x. Consumes x new part) p.2 k) in
    let left : w.0 ≡ [] = subst IsAtEnd w.1 end in
    let read : part ≡ [] = nil_of part none in
    let e : cut ++ p.0 ≡ cut =
    ap (λ x. cut ++ x) (w.2 ∙ ap (λ x. x ++ w.0) read ∙ left) ∙ append-nil cut in (
      m,
      WalkEnds-after represents step s p.1 result (walk_lines octets) (walk_lines cut) []
          command' 0 n
          m a b c (Walk-same step s (walk_lines octets) _ _ p.1 0 n a b e p.4) (f p.1 p.3),
    )
  where
    nil_of : (xs : List ℕ) → length xs ≡ 0 → xs ≡ []
    nil_of [] h = refl
    nil_of (x ∷ xs) h = absurd (omega arith)

-- a device fault
pub device_ends : {C S : Type 0} (represents : C → S → Type 0) (step : Step S) (s : S)
    (initial : Option (List ℕ)) (result : Result ⊤ ScriptFault) (command : C)
    (a b : Option (List ℕ))
    → result ≡ Err Device
    → IfSome initial (λ octets. (x : ℕ) × WalkEnds represents step s result (walk_lines octets)
    [] command 0 x a b)
device_ends represents step s None result command a b e = tt
device_ends {C} {S} represents step s (Some octets) result command a b e =
    let F : Result ⊤ ScriptFault → Type 0 =
    λ x. WalkEnds represents step s x (walk_lines octets) [] command 0 0 a b in
    (0, subst F (sym e) tt)

-- flushing adds no fault but a device fault
pub flush_fails : (result : Result ⊤ ScriptFault) (fault : ScriptFault)
    → IsErrAnd result (λ e. e ≡ fault) → PreservesFault (Ok tt) (Err fault) → result ≡ Err Device
flush_fails (Ok done) fault is k = absurd is
flush_fails (Err e) fault is (inl k) = absurd cc
flush_fails (Err e) fault is (inr k) = ap Err is ∙ k

-- a consequence for the script's bytes, if they are known
pub if_known : (o : Option (List ℕ)) (P Q : List ℕ → Type 0)
    → ((octets : List ℕ) → P octets → Q octets) → IfSome o P → IfSome o Q
if_known None P Q f h = tt
if_known (Some octets) P Q f h = f octets h

-- the command is in the state after the lines if the flush succeeds
pub represents_submitted : {C S : Type 0} (represents : C → S → Type 0) (step : Step S) (s : S)
    (ended result : Result ⊤ ScriptFault) (lines : List (List ℕ)) (command : C) (m : ℕ)
    (a b : Option (List ℕ))
    → WalkEnds represents step s ended lines [] command 0 m a b → PreservesFault ended result
    → OnOk result (represents command (state_after step s lines))
represents_submitted {C} {S} represents step s ended result lines command m a b q (inl same) =
    let F : Result ⊤ ScriptFault → Type 0 =
    λ x. OnOk x (represents command (state_after step s lines)) in
    subst F (sym same) (represents_after represents step s ended lines command m a b q)
represents_submitted {C} {S} represents step s ended result lines command m a b q (inr fault) =
    let F : Result ⊤ ScriptFault → Type 0 =
    λ x. OnOk x (represents command (state_after step s lines)) in
    subst F (sym fault) tt
