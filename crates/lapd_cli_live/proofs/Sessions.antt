-- The input of a running side, put together.
use Rattle.std.proofs.Common.{◌≡◌, ◌≢◌, ℕ, ◌+◌, ◌-◌, List, [], ◌∷◌, ◌++◌, length, cond, Bool, true, false, Option, None, Some, option_map, Result, Ok, Err, IsErrAnd, IfSome, OnOk, refl, sym, ap, subst, ◌∙◌, append_assoc, append-nil, length-append, inl, inr, arith}
use Rattle.std.specs.Prelude.{⊤}
use Rattle.std.specs.Io.KnownBytes.{Consumes, IsAtEnd}
use Rattle.std.proofs.lemmas.Bool.{ne_eqb}
use Rattle.lapd_sides.specs.Either.{side_of}
use Rattle.lapd_cli_live_text.specs.LiveRequests.{live_request_of, live_request_of_line}
use Rattle.lapd_cli_live_text.specs.declared.words.LiveLine.{LiveLine}
use Rattle.lapd_cli_script.specs.Script.{is_passed_over, lines_of, with_first}
use Rattle.lapd_cli_script.specs.WalkState.{HasNoFeed}
use Rattle.lapd_cli_script.specs.declared.script.LineFault.TheVariants as line_fault
use Rattle.lapd_cli_script.specs.declared.script.ScriptFault.TheVariants.{BadLine, Device, Memory, Port}
use Rattle.lapd_cli_live.specs.declared.fault.LiveFault.{LiveFault}
use Rattle.lapd_cli_live.specs.declared.fault.LiveFault.TheVariants as fault
use Rattle.lapd_cli_live.specs.declared.input.LiveStop.{LiveStop}
use Rattle.lapd_cli_live.specs.declared.input.LiveStop.TheVariants.{Script, Unmet}
use Rattle.lapd_cli_live.specs.declared.executed.Executed.{Executed}
use Rattle.lapd_cli_live.specs.declared.executed.Executed.TheVariants as executed
use Rattle.lapd_cli_wire.specs.declared.outside.Lines.{Lines}
use Rattle.lapd_cli_wire.specs.declared.outside.Lines.TheVariants.{Ignored}
use Rattle.lapd_cli_live.specs.declared.service.EndReason.{EndReason}
use Rattle.lapd_cli_live.specs.declared.service.EndReason.TheVariants as end_reason
use Rattle.lapd_cli_live.specs.Log.{Chain, HappenBeside, LiveState}
use Rattle.lapd_cli_live.specs.LineDone.{HasOwnTei, begun, is_expect}
use Rattle.lapd_cli_live.specs.Typed.{IsFirstLine}
use Rattle.lapd_cli_live.specs.Sessions.{AreTaken, Awaits, AwaitsInput, AwaitsQuietly, DoesLine, GreetedAndEnds, Greets, AddsMessages, InOrder, LineEnds, LinesEnd, LinesType, ExecutesAs, Quits, ReadsPart, RequestEnds, ScriptEnds, ServesOn, Session, SessionEnds, StopsAt, StopsBy, TakesLines, Delivered, Types, TypesLast, TypesOn, stop_of}

-- ---- Waits.

chain_both : (R : LiveState → LiveState → Type 0) (xs ys : List LiveState) (a b c : LiveState)
    → Chain R xs a b → Chain R ys b c → Chain R (xs ++ ys) a c
chain_both R [] ys a b c p q = subst (λ (x : LiveState). Chain R ys x c) p q
chain_both R (mid ∷ xs) ys a b c p q = (p.0, chain_both R xs ys mid b c p.1 q)

awaits_none : (a : LiveState) → Awaits a a
awaits_none a = record { passed = []; are = refl }

awaits_one : (end_reason : EndReason) (a b : LiveState) → AwaitsInput end_reason a b → Awaits a b
awaits_one end_reason a b served = record { passed = b ∷ []; are = ((end_reason, served), refl) }

awaits_both : (a b c : LiveState) → Awaits a b → Awaits b c → Awaits a c
awaits_both a b c p q =
    record { passed = p.passed ++ q.passed; are = chain_both _ p.passed q.passed a b c p.are q.are }

-- ---- Lines in order.

-- input may be awaited never, or several times
pub record CanWait {S : Type 0} (Waits : S → S → Type 0) : Type 0 where
  pub none : (a : S) → Waits a a
  pub both : (a b c : S) → Waits a b → Waits b c → Waits a c

pub awaits_can : CanWait Awaits
awaits_can = record { none = awaits_none; both = awaits_both }

quiet_none : (a : Session) → AwaitsQuietly a a
quiet_none a = (awaits_none a.live, refl)

quiet_both : (a b c : Session) → AwaitsQuietly a b → AwaitsQuietly b c → AwaitsQuietly a c
quiet_both a b c p q = (awaits_both a.live b.live c.live p.0 q.0, q.1 ∙ p.1)

pub quiet_can : CanWait AwaitsQuietly
quiet_can = record { none = quiet_none; both = quiet_both }

awaits_first : {S : Type 0} (Waits : S → S → Type 0) (can : CanWait Waits)
    (Does : List ℕ → S → S → Type 0) (lines : List (List ℕ)) (a b c : S) → Waits a b
    → InOrder Waits Does lines b c → InOrder Waits Does lines a c
awaits_first Waits can Does [] a b c p q = can.both a b c p q
awaits_first Waits can Does (line ∷ lines) a b c p q = (q.0, q.1, can.both a b q.0 p q.2, q.3, q.4)

pub in_order_both : {S : Type 0} (Waits : S → S → Type 0) (can : CanWait Waits)
    (Does : List ℕ → S → S → Type 0) (xs ys : List (List ℕ)) (a b c : S)
    → InOrder Waits Does xs a b → InOrder Waits Does ys b c → InOrder Waits Does (xs ++ ys) a c
in_order_both Waits can Does [] ys a b c p q = awaits_first Waits can Does ys a b c p q
in_order_both Waits can Does (x ∷ xs) ys a b c p q =
    (p.0, p.1, p.2, p.3, in_order_both Waits can Does xs ys p.1 b c p.4 q)

pub in_order_more : {S : Type 0} (Waits : S → S → Type 0) (can : CanWait Waits)
    (Does : List ℕ → S → S → Type 0) (lines : List (List ℕ)) (line : List ℕ) (a b c : S)
    → InOrder Waits Does lines a b → Does line b c → InOrder Waits Does (lines ++ line ∷ []) a c
in_order_more Waits can Does lines line a b c p does =
    in_order_both Waits can Does lines (line ∷ []) a b c p (b, c, can.none b, does, can.none c)

pub in_order_awaited : {S : Type 0} (Waits : S → S → Type 0) (can : CanWait Waits)
    (Does : List ℕ → S → S → Type 0) (lines : List (List ℕ)) (a b c : S)
    → InOrder Waits Does lines a b → Waits b c → InOrder Waits Does lines a c
in_order_awaited Waits can Does lines a b c p waits =
    subst (λ (xs : List (List ℕ)). InOrder Waits Does xs a c) (append-nil lines)
    (in_order_both Waits can Does lines [] a b c p waits)

-- ---- Lines of octets.

lines_of_other : (o : ℕ) (octets : List ℕ) → o ≢ 10 → lines_of (o ∷ octets) ≡ with_first o (lines_of octets)
lines_of_other o octets not =
    ap (λ b. cond b ([] ∷ lines_of octets) (with_first o (lines_of octets))) (ne_eqb o 10 not)

lines_of_line : (line rest : List ℕ) → HasNoFeed line → lines_of (line ++ 10 ∷ rest) ≡ line ∷ lines_of rest
lines_of_line [] rest none = refl
lines_of_line (o ∷ line) rest none =
    lines_of_other o (line ++ 10 ∷ rest) none.0 ∙ ap (with_first o) (lines_of_line line rest none.1)

lines_of_last : (o : ℕ) (line : List ℕ) → HasNoFeed (o ∷ line) → lines_of (o ∷ line) ≡ (o ∷ line) ∷ []
lines_of_last o [] none = lines_of_other o [] none.0
lines_of_last o (p ∷ line) none =
    lines_of_other o (p ∷ line) none.0 ∙ ap (with_first o) (lines_of_last p line none.1)

pub taken_more : (lines : List (List ℕ)) (line a b c : List ℕ) → AreTaken lines a b → HasNoFeed line
    → b ≡ line ++ 10 ∷ c → AreTaken (lines ++ line ∷ []) a c
taken_more lines line a b c taken none is = λ more.
    let next : lines_of (b ++ more) ≡ line ∷ lines_of (c ++ more) =
    ap (λ x. lines_of (x ++ more)) is ∙ ap lines_of (append_assoc line (10 ∷ c) more)
    ∙ lines_of_line line (c ++ more) none in
    taken more ∙ ap (λ x. lines ++ x) next
    ∙ sym (append_assoc lines (line ∷ []) (lines_of (c ++ more)))

-- these are all of them, and those of the rest
pub taken_all : (lines : List (List ℕ)) (a b : List ℕ) → AreTaken lines a b → lines_of a ≡ lines ++ lines_of b
taken_all lines a b taken =
    ap lines_of (sym (append-nil a)) ∙ taken [] ∙ ap (λ x. lines ++ lines_of x) (append-nil b)

-- lines are removed from the beginning of octets that others follow
pub taken_both : (xs ys : List (List ℕ)) (octets held rest left : List ℕ)
    → AreTaken xs octets (held ++ rest) → AreTaken ys held left
    → AreTaken (xs ++ ys) octets (left ++ rest)
taken_both xs ys octets held rest left p q = λ more.
    p more ∙ ap (λ x. xs ++ lines_of x) (append_assoc held rest more)
    ∙ ap (λ x. xs ++ x) (q (rest ++ more))
    ∙ ap (λ x. xs ++ (ys ++ lines_of x)) (sym (append_assoc left rest more))
    ∙ sym (append_assoc xs ys (lines_of ((left ++ rest) ++ more)))

-- ---- Executed lines.

pub takes_one : {S : Type 0} (Waits : S → S → Type 0) (can : CanWait Waits)
    (Does : List ℕ → S → S → Type 0) (before now left line : List ℕ) (n m k : ℕ) (a b c : S)
    → TakesLines Waits Does before now n m a b → IsFirstLine now (Some line) left → k ≡ m + 1
    → Does line b c → TakesLines Waits Does before left n k a c
takes_one Waits can Does before now left line n m k a b c takes first one does = record {
  lines = takes.lines ++ line ∷ [];
  taken = taken_more takes.lines line before now left takes.taken first.0 first.1;
  counted = let so_far = takes.counted in omega (arith, length-append takes.lines (line ∷ []));
  done = in_order_more Waits can Does takes.lines line a b c takes.done does;
}

pub takes_line : (before now left line : List ℕ) (n m k : ℕ) (a b c : LiveState)
    → TakesLines Awaits DoesLine before now n m a b → IsFirstLine now (Some line) left
    → LineEnds (Ok tt) line m k b c → TakesLines Awaits DoesLine before left n k a c
takes_line before now left line n m k a b c takes first ends =
    takes_one Awaits awaits_can DoesLine before now left line n m k a b c takes first ends.1 ends.0

-- ---- Lines that stop the input.

-- a fault of the surroundings
pub around_stops : (fault : LiveFault) (n : ℕ) (lines : List (List ℕ)) (a b : LiveState)
    → StopsBy (stop_of fault) n lines a b
around_stops (fault.Line line_fault.Bad) n lines a b = tt
around_stops (fault.Line line_fault.Device) n lines a b = tt
around_stops (fault.Line line_fault.Memory) n lines a b = tt
around_stops (fault.Port other) n lines a b = tt

at_after : (why : Executed) (number n m : ℕ) (done lines : List (List ℕ)) (a b c : LiveState)
    → m ≡ n + length done → InOrder Awaits DoesLine done a b → StopsAt why number m lines b c
    → StopsAt why number n (done ++ lines) a c
at_after why number n m done lines a b c counted p q = record {
  before = done ++ q.before;
  stopping = q.stopping;
  behind = q.behind;
  are = ap (λ x. done ++ x) q.are ∙ sym (append_assoc done q.before (q.stopping ∷ q.behind));
  number_is = let is = q.number_is in omega (arith, length-append done q.before);
  met = q.met;
  done = in_order_both Awaits awaits_can DoesLine done q.before a b q.met p q.done;
  not_passed = q.not_passed;
  stops = q.stops;
}

pub stops_after : (stop : LiveStop) (n m : ℕ) (done lines : List (List ℕ)) (a b c : LiveState)
    → m ≡ n + length done → InOrder Awaits DoesLine done a b → StopsBy stop m lines b c
    → StopsBy stop n (done ++ lines) a c
stops_after Unmet n m done lines a b c counted p q =
    (q.0, at_after _ q.0 n m done lines a b c counted p q.1)
stops_after (Script (BadLine number)) n m done lines a b c counted p q =
    at_after _ number n m done lines a b c counted p q
stops_after (Script Device) n m done lines a b c counted p q = tt
stops_after (Script Memory) n m done lines a b c counted p q = tt
stops_after (Script (Port fault)) n m done lines a b c counted p q = tt

-- an empty line stops nothing
not_empty : (before behind : List (List ℕ)) (stopping : List ℕ)
    → [] ∷ [] ≡ before ++ stopping ∷ behind → is_passed_over stopping ≡ false → ⊥
not_empty [] behind [] are not = cc
not_empty [] behind (o ∷ stopping) are not = cc
not_empty (x ∷ []) behind stopping are not = cc
not_empty (x ∷ y ∷ before) behind stopping are not = cc

none_stops : (stop : LiveStop) (n : ℕ) (a b : LiveState) → StopsBy stop n ([] ∷ []) a b → StopsBy stop n [] a b
none_stops Unmet n a b q =
    let s = q.1 in absurd (not_empty s.before s.behind s.stopping s.are s.not_passed)
none_stops (Script (BadLine number)) n a b q =
    absurd (not_empty q.before q.behind q.stopping q.are q.not_passed)
none_stops (Script Device) n a b q = tt
none_stops (Script Memory) n a b q = tt
none_stops (Script (Port fault)) n a b q = tt

-- ---- Answers of one line.

pub this_stops : (why : Executed) (octets : List ℕ) (n number : ℕ) (a b : LiveState) → number ≡ n +
    1
    → is_passed_over octets ≡ false
    → ExecutesAs why octets Ignored a b → (behind : List (List ℕ))
    → StopsAt why number n (octets ∷ behind) a b
this_stops why octets n number a b is not stops behind = record {
  before = [];
  stopping = octets;
  behind = behind;
  are = refl;
  number_is = omega arith;
  met = a;
  done = awaits_none a;
  not_passed = not;
  stops = stops;
}

-- ---- Answers of some lines.

pub lines_stop : (result : Result ⊤ LiveStop) (stop : LiveStop) (before after : List ℕ) (n m : ℕ)
    (a b : LiveState) → IsErrAnd result (λ x. x ≡ stop)
    → ((more : List ℕ) → StopsBy stop n (lines_of (before ++ more)) a b)
    → LinesEnd result before after n m a b
lines_stop (Ok done) stop before after n m a b is stops = absurd is
lines_stop (Err other) stop before after n m a b is stops =
    λ more. subst (λ (x : LiveStop). StopsBy x n (lines_of (before ++ more)) a b) (sym is)
    (stops more)

pub next_stops : (result : Result ⊤ LiveStop) (stop : LiveStop)
    (before now left line after : List ℕ) (n m k j : ℕ) (a b c : LiveState)
    → TakesLines Awaits DoesLine before now n m a b → IsFirstLine now (Some line) left
    → ((behind : List (List ℕ)) → StopsBy stop m (line ∷ behind) b c)
    → IsErrAnd result (λ x. x ≡ stop) → LinesEnd result before after n j a c
next_stops result stop before now left line after n m k j a b c takes first stops is =
    lines_stop result stop before after n j a c is (λ more.
    let next : lines_of (before ++ more) ≡ takes.lines ++ line ∷ lines_of (left ++ more) =
    takes.taken more ∙ ap (λ x. takes.lines ++ lines_of (x ++ more)) first.1
    ∙ ap (λ x. takes.lines ++ lines_of x) (append_assoc line (10 ∷ left) more)
    ∙ ap (λ x. takes.lines ++ x) (lines_of_line line (left ++ more) first.0) in
    subst (λ (xs : List (List ℕ)). StopsBy stop n xs a c) (sym next)
    (stops_after stop n
    m takes.lines (line ∷ lines_of (left ++ more)) a b c takes.counted takes.done
    (stops (lines_of (left ++ more)))))

-- ---- A whole script.

-- the executed lines of a reader's octets, some of which are held and not executed yet
pub record LeadsTo {S : Type 0} (Waits : S → S → Type 0) (Does : List ℕ → S → S → Type 0)
    (initial now : Option (List ℕ)) (held : List ℕ) (n : ℕ) (a b : S) : Type 0 where
  pub no_feed : HasNoFeed held
  pub so_far : IfSome initial (λ octets. (rest : List ℕ) × (now ≡ Some rest) × TakesLines Waits Does
      octets (held ++ rest) 0 n a b)

pub takes_awaited : {S : Type 0} (Waits : S → S → Type 0) (can : CanWait Waits)
    (Does : List ℕ → S → S → Type 0) (before after : List ℕ) (n m : ℕ) (a b c : S)
    → TakesLines Waits Does before after n m a b → Waits b c
    → TakesLines Waits Does before after n m a c
takes_awaited Waits can Does before after n m a b c takes waits = record {
  lines = takes.lines;
  taken = takes.taken;
  counted = takes.counted;
  done = in_order_awaited Waits can Does takes.lines a b c takes.done waits;
}

-- a known reader returns a part of its octets
consumes_some : (rest part : List ℕ) (new : Option (List ℕ)) → Consumes (Some rest) new part
    → (ys : List ℕ) × (new ≡ Some ys) × (rest ≡ part ++ ys)
consumes_some rest part None h = absurd h
consumes_some rest part (Some ys) h = (ys, refl, h)

-- input is awaited, and a part is read, after what is held
pub part_read : {S : Type 0} (Waits : S → S → Type 0) (can : CanWait Waits)
    (Does : List ℕ → S → S → Type 0) (octets held holds : List ℕ) (now new : Option (List ℕ))
    (n : ℕ)
    (a b c : S) → LeadsTo Waits Does (Some octets) now held n a b → Waits b c
    → ReadsPart true now new held holds
    → (ys : List ℕ) × (new ≡ Some ys) × TakesLines Waits Does octets (holds ++ ys) 0 n a c
part_read Waits can Does octets held holds now new n a b c arrives waits reads =
    let p = arrives.so_far in
    let w =
    consumes_some p.0 reads.0 new
    (subst (λ (x : Option (List ℕ)). Consumes x new reads.0) p.1 reads.1) in
    let e : held ++ p.0 ≡ holds ++ w.0 =
    ap (λ x. held ++ x) w.2 ∙ sym (append_assoc held reads.0 w.0)
    ∙ ap (λ x. x ++ w.0) (sym reads.2) in (
      w.0,
      w.1,
      subst (λ (x : List ℕ). TakesLines Waits Does octets x 0 n a c) e
          (takes_awaited Waits can Does octets (held ++ p.0) 0 n a b c p.2 waits),
    )

takes_both : {S : Type 0} (Waits : S → S → Type 0) (can : CanWait Waits)
    (Does : List ℕ → S → S → Type 0) (octets held rest left : List ℕ) (n k m : ℕ) (a b c : S)
    → TakesLines Waits Does octets (held ++ rest) 0 n a b → TakesLines Waits Does held left k m b c
    → TakesLines Waits Does octets (left ++ rest) 0 (n + (m - k)) a c
takes_both Waits can Does octets held rest left n k m a b c p q = record {
  lines = p.lines ++ q.lines;
  taken = taken_both p.lines q.lines octets held rest left p.taken q.taken;
  counted =
      let one = p.counted in let more = q.counted in omega (arith, length-append p.lines q.lines);
  done = in_order_both Waits can Does p.lines q.lines a b c p.done q.done;
}

-- input is awaited, a part is read, and the lines that end in it are executed
pub leads_further : {S : Type 0} (Waits : S → S → Type 0) (can : CanWait Waits)
    (Does : List ℕ → S → S → Type 0) (initial now new : Option (List ℕ)) (held holds left : List ℕ)
    (n k m j : ℕ) (a b c d : S) → LeadsTo Waits Does initial now held n a b → Waits b c
    → ReadsPart true now new held holds → TakesLines Waits Does holds left k m c d
    → HasNoFeed left → j ≡ n + (m - k) → LeadsTo Waits Does initial new left j a d
leads_further Waits can Does None now new held holds left n k m j a b c d arrives waits reads takes
    none count = record { no_feed = none; so_far = tt }
leads_further Waits can Does (Some octets) now new held holds left n k m j a b c d arrives waits
    reads takes none count =
    let w = part_read Waits can Does octets held holds now new n a b c arrives waits reads in
    let all : TakesLines Waits Does octets (left ++ w.0) 0 (n + (m - k)) a d =
    takes_both Waits can Does octets holds w.0 left n k m a c d w.2 takes in
    record { no_feed = none; so_far = (w.0, w.1, subst (λ (x : ℕ). TakesLines Waits Does octets (left ++ w.0) 0 x a d) (sym count) all) }

-- the reader has ended: what is held is the last line
pub at_end : {S : Type 0} (Waits : S → S → Type 0) (can : CanWait Waits)
    (Does : List ℕ → S → S → Type 0) (octets held holds : List ℕ) (now new : Option (List ℕ))
    (n : ℕ)
    (a b c : S) → LeadsTo Waits Does (Some octets) now held n a b → Waits b c
    → ReadsPart false now new held holds
    → TakesLines Waits Does octets holds 0 n a c × HasNoFeed holds
at_end Waits can Does octets held holds now new n a b c arrives waits reads =
    let p = arrives.so_far in
    let w =
    consumes_some p.0 [] new
    (subst (λ (x : Option (List ℕ)). Consumes x new []) p.1 reads.0) in
    let none : w.0 ≡ [] = subst IsAtEnd w.1 reads.1 in
    let e : held ++ p.0 ≡ holds =
    ap (λ x. held ++ x) (w.2 ∙ none) ∙ append-nil held ∙ sym reads.2 in (
      subst (λ (x : List ℕ). TakesLines Waits Does octets x 0 n a c) e
          (takes_awaited Waits can Does octets (held ++ p.0) 0 n a b c p.2 waits),
      subst HasNoFeed (sym reads.2) arrives.no_feed,
    )

pub script_stops : (serve_on : Bool) (result : Result ⊤ LiveStop) (stop : LiveStop)
    (lines : List (List ℕ)) (a b : LiveState) → IsErrAnd result (λ x. x ≡ stop)
    → StopsBy stop 0 lines a b → ScriptEnds serve_on result lines a b
script_stops serve_on (Ok done) stop lines a b is stops = absurd is
script_stops serve_on (Err other) stop lines a b is stops =
    subst (λ (x : LiveStop). StopsBy x 0 lines a b) (sym is) stops

-- a fault of the surroundings ends a script
pub around_ends : (initial : Option (List ℕ)) (serve_on : Bool) (result : Result ⊤ LiveStop)
    (fault : LiveFault) (a b : LiveState) → IsErrAnd result (λ x. x ≡ stop_of fault)
    → IfSome initial (λ octets. ScriptEnds serve_on result (lines_of octets) a b)
around_ends None serve_on result fault a b is = tt
around_ends (Some octets) serve_on result fault a b is =
    script_stops serve_on result (stop_of fault) (lines_of octets) a b is
    (around_stops fault 0 (lines_of octets) a b)

-- one of the lines that end in a part stops the script
pub part_stops : (initial now new : Option (List ℕ)) (held holds : List ℕ) (n : ℕ)
    (end_reason : EndReason) (serve_on : Bool) (result : Result ⊤ LiveStop) (stop : LiveStop)
    (a b c d : LiveState) → LeadsTo Awaits DoesLine initial now held n a b
    → AwaitsInput end_reason b c → ReadsPart true now new held holds
    → ((more : List ℕ) → StopsBy stop n (lines_of (holds ++ more)) c d)
    → IsErrAnd result (λ x. x ≡ stop)
    → IfSome initial (λ octets. ScriptEnds serve_on result (lines_of octets) a d)
part_stops None now new held holds n end_reason serve_on result stop a b c d arrives awaits reads
    stops is =
    tt
part_stops (Some octets) now new held holds n end_reason serve_on result stop a b c d arrives awaits
    reads stops is =
    let w =
    part_read Awaits awaits_can DoesLine octets held holds now new n a b c arrives
    (awaits_one end_reason b c awaits) reads in
    let takes : TakesLines Awaits DoesLine octets (holds ++ w.0) 0 n a c = w.2 in
    script_stops serve_on result stop (lines_of octets) a d is
    (subst (λ (xs : List (List ℕ)). StopsBy stop 0 xs a d)
    (sym (taken_all takes.lines octets (holds ++ w.0) takes.taken))
    (stops_after stop 0 n takes.lines (lines_of (holds ++ w.0)) a c d
    takes.counted takes.done (stops w.0)))

last_done : (octets held : List ℕ) (n : ℕ) (a b c : LiveState) → HasNoFeed held
    → TakesLines Awaits DoesLine octets held 0 n a b → DoesLine held b c
    → InOrder Awaits DoesLine (lines_of octets) a c
last_done octets [] n a b c none takes does =
    let all : lines_of octets ≡ takes.lines =
    taken_all takes.lines octets [] takes.taken ∙ append-nil takes.lines in
    subst (λ (xs : List (List ℕ)). InOrder Awaits DoesLine xs a c) (sym all)
    (subst (λ (x : LiveState). InOrder Awaits DoesLine takes.lines a x) (sym does) takes.done)
last_done octets (o ∷ held) n a b c none takes does =
    let all : lines_of octets ≡ takes.lines ++ (o ∷ held) ∷ [] =
    taken_all takes.lines octets (o ∷ held) takes.taken
    ∙ ap (λ x. takes.lines ++ x) (lines_of_last o held none) in
    subst (λ (xs : List (List ℕ)). InOrder Awaits DoesLine xs a c) (sym all)
    (in_order_more Awaits awaits_can DoesLine takes.lines (o ∷ held) a b c takes.done does)

last_stops : (stop : LiveStop) (octets held : List ℕ) (n : ℕ) (a b c : LiveState) → HasNoFeed held
    → TakesLines Awaits DoesLine octets held 0 n a b → StopsBy stop n (held ∷ []) b c
    → StopsBy stop 0 (lines_of octets) a c
last_stops stop octets [] n a b c none takes stops =
    let all : lines_of octets ≡ takes.lines ++ [] = taken_all takes.lines octets [] takes.taken in
    subst (λ (xs : List (List ℕ)). StopsBy stop 0 xs a c) (sym all)
    (stops_after stop 0 n
    takes.lines [] a b c takes.counted takes.done (none_stops stop n b c stops))
last_stops stop octets (o ∷ held) n a b c none takes stops =
    let all : lines_of octets ≡ takes.lines ++ (o ∷ held) ∷ [] =
    taken_all takes.lines octets (o ∷ held) takes.taken
    ∙ ap (λ x. takes.lines ++ x) (lines_of_last o held none) in
    subst (λ (xs : List (List ℕ)). StopsBy stop 0 xs a c) (sym all)
    (stops_after stop 0 n takes.lines ((o ∷ held) ∷ []) a b c takes.counted takes.done stops)

pub script_further : (initial now new : Option (List ℕ)) (held holds left : List ℕ) (n m : ℕ)
    (end_reason : EndReason) (a b c d : LiveState) → LeadsTo Awaits DoesLine initial now held n a b
    → AwaitsInput end_reason b c → ReadsPart true now new held holds
    → TakesLines Awaits DoesLine holds left n m c d × HasNoFeed left
    → LeadsTo Awaits DoesLine initial new left m a d
script_further initial now new held holds left n m end_reason a b c d arrives awaits reads ends =
    let takes : TakesLines Awaits DoesLine holds left n m c d = ends.0 in
    let counted = takes.counted in
    leads_further Awaits awaits_can DoesLine initial now new held holds left n n m m a b c d arrives
    (awaits_one end_reason b c awaits) reads ends.0 ends.1 (omega arith)

pub script_ends : (initial now new : Option (List ℕ)) (held holds : List ℕ) (n m : ℕ)
    (end_reason : EndReason) (serve_on : Bool) (a b c d e : LiveState)
    → LeadsTo Awaits DoesLine initial now held n a b → AwaitsInput end_reason b c
    → ReadsPart false now new held holds → LineEnds (Ok tt) holds n m c d
    → ServesOn serve_on d e
    → IfSome initial (λ octets. ScriptEnds serve_on (Ok tt) (lines_of octets) a e)
script_ends None now new held holds n m end_reason serve_on a b c d e arrives awaits reads last
    serves =
    tt
script_ends (Some octets) now new held holds n m end_reason serve_on a b c d e arrives awaits reads
    last serves =
    let w =
    at_end Awaits awaits_can DoesLine octets held holds now new n a b c arrives
    (awaits_one end_reason b c awaits) reads in
    (d, last_done octets holds n a c d w.1 w.0 last.0, serves)

pub end_stops : (initial now new : Option (List ℕ)) (held holds : List ℕ) (n : ℕ)
    (end_reason : EndReason) (serve_on : Bool) (result : Result ⊤ LiveStop) (stop : LiveStop)
    (a b c d : LiveState) → LeadsTo Awaits DoesLine initial now held n a b
    → AwaitsInput end_reason b c → ReadsPart false now new held holds
    → ((behind : List (List ℕ)) → StopsBy stop n (holds ∷ behind) c d)
    → IsErrAnd result (λ x. x ≡ stop)
    → IfSome initial (λ octets. ScriptEnds serve_on result (lines_of octets) a d)
end_stops None now new held holds n end_reason serve_on result stop a b c d arrives awaits reads
    stops is =
    tt
end_stops (Some octets) now new held holds n end_reason serve_on result stop a b c d arrives awaits
    reads stops is =
    let w =
    at_end Awaits awaits_can DoesLine octets held holds now new n a b c arrives
    (awaits_one end_reason b c awaits) reads in
    script_stops serve_on result stop (lines_of octets) a d is
    (last_stops stop octets holds n a c d w.1 w.0 (stops []))

-- ---- The outcome of a line.

pub executed_as : (why : Executed) (octets : List ℕ) (lines : Lines) (own : ℕ) (asked : LiveLine)
    (a mid b : LiveState) → HasOwnTei a.side own
    → live_request_of_line (side_of a.side) own octets ≡ Some (live_request_of asked)
    → RequestEnds why asked lines (begun (is_expect asked) a) mid
    → HappenBeside [] mid b → ExecutesAs why octets lines a b
executed_as executed.Done octets lines own asked a mid b own_is is ends beside = record {
  own = own;
  own_is = own_is;
  asked = asked;
  is = is;
  done_at = mid;
  does = ends;
  beside = beside;
}
executed_as executed.Unmet octets lines own asked a mid b own_is is ends beside = record {
  own = own;
  own_is = own_is;
  asked = asked;
  is = is;
  missed_at = mid;
  misses = ends;
  beside = beside;
}
executed_as executed.Bad octets lines own asked a mid b own_is is ends beside = absurd ends

-- the first complete line of the held octets
pub first_held : {V : Type 0} (items : V → List ℕ) (matched : Option V) (line : V)
    (octets before after : List ℕ) → matched ≡ Some line → octets ≡ items line
    → IsFirstLine before (option_map items matched) after → IsFirstLine before (Some octets) after
first_held items matched line octets before after is says first =
    subst (λ (x : List ℕ). IsFirstLine before (Some x) after) (sym says)
    (subst (λ x. IsFirstLine before (option_map items x) after) is first)

pub part_by : (more is : Bool) (before after : Option (List ℕ)) (held holds : List ℕ) → more ≡ is
    → ReadsPart more before after held holds → ReadsPart is before after held holds
part_by more is before after held holds same reads =
    subst (λ (x : Bool). ReadsPart x before after held holds) same reads

pub line_by : (result : Result ⊤ LiveStop) (octets held : List ℕ) (n m : ℕ) (a b : LiveState)
    → octets ≡ held → LineEnds result octets n m a b → LineEnds result held n m a b
line_by result octets held n m a b is ends =
    subst (λ (x : List ℕ). LineEnds result x n m a b) is ends

-- ---- Typed lines.

abbrev pub Tidy : Type 0
Tidy = List ℕ → Option (List ℕ)

pub types_next : (tidy : Tidy) (goes_on : Bool) (before now left line : List ℕ) (a b c : Session)
    → (n : ℕ) × TakesLines AwaitsQuietly (TypesOn tidy) before now 0 n a b
    → IsFirstLine now (Some line) left → Types tidy line goes_on b c → goes_on ≡ true
    → (n : ℕ) × TakesLines AwaitsQuietly (TypesOn tidy) before left 0 n a c
types_next tidy goes_on before now left line a b c takes first types is = (
  takes.0 + 1,
  takes_one AwaitsQuietly quiet_can (TypesOn tidy) before now left line 0 takes.0 (takes.0 + 1) a b
      c takes.1 first refl
      (subst (λ (x : Bool). Types tidy line x b c) is types),
)

quits_after : (tidy : Tidy) (done : List (List ℕ)) (line : List ℕ) (behind : List (List ℕ))
    (a b c : Session) → InOrder AwaitsQuietly (TypesOn tidy) done a b
    → Types tidy line false b c → Quits tidy (done ++ line ∷ behind) a c
quits_after tidy done line behind a b c p types = record {
  before = done;
  quit = line;
  behind = behind;
  are = refl;
  met = b;
  done = p;
  quits = types;
}

pub types_quit : (tidy : Tidy) (goes_on : Bool) (before now left line after : List ℕ)
    (a b c : Session)
    → (n : ℕ) × TakesLines AwaitsQuietly (TypesOn tidy) before now 0 n a b
    → IsFirstLine now (Some line) left → Types tidy line goes_on b c → goes_on ≡ false
    → LinesType tidy false before after a c
types_quit tidy goes_on before now left line after a b c takes first types is = λ more.
    let t : TakesLines AwaitsQuietly (TypesOn tidy) before now 0 takes.0 a b = takes.1 in
    let next : lines_of (before ++ more) ≡ t.lines ++ line ∷ lines_of (left ++ more) =
    t.taken more ∙ ap (λ x. t.lines ++ lines_of (x ++ more)) first.1
    ∙ ap (λ x. t.lines ++ lines_of x) (append_assoc line (10 ∷ left) more)
    ∙ ap (λ x. t.lines ++ x) (lines_of_line line (left ++ more) first.0) in
    subst (λ (xs : List (List ℕ)). Quits tidy xs a c) (sym next)
    (quits_after tidy t.lines line (lines_of (left ++ more)) a b c t.done
    (subst (λ (x : Bool). Types tidy line x b c) is types))

-- ---- A whole session.

abbrev pub SessionComes : Tidy → Option (List ℕ) → Option (List ℕ) → List ℕ → Session → Session → Type 0
SessionComes tidy initial now held a b =
    (n : ℕ) × LeadsTo AwaitsQuietly (TypesOn tidy) initial now held n a b

abbrev pub after_wait : LiveState → Session → Session
after_wait live a = record { live = live; reported = a.reported }

pub session_further : (tidy : Tidy) (goes_on : Bool) (initial now new : Option (List ℕ))
    (held holds left : List ℕ) (end_reason : EndReason) (a b : Session) (live : LiveState)
    (d : Session)
    → SessionComes tidy initial now held a b → AwaitsInput end_reason b.live live
    → ReadsPart true now new held holds
    → LinesType tidy goes_on holds left (after_wait live b) d
    → goes_on ≡ true → SessionComes tidy initial new left a d
session_further tidy goes_on initial now new held holds left end_reason a b live d arrives awaits
    reads types is =
    let ends : LinesType tidy true holds left (after_wait live b) d =
    subst (λ (x : Bool). LinesType tidy x holds left (after_wait live b) d) is types in (
      arrives.0 + (ends.0 - 0),
      leads_further AwaitsQuietly quiet_can (TypesOn tidy) initial now new held holds left arrives.0
          0 ends.0 (arrives.0 + (ends.0 - 0)) a b (after_wait live b) d arrives.1
          (awaits_one end_reason b.live live awaits, refl) reads ends.1 ends.2 refl,
    )

more_quits : (tidy : Tidy) (done lines : List (List ℕ)) (a b c : Session)
    → InOrder AwaitsQuietly (TypesOn tidy) done a b → Quits tidy lines b c
    → Quits tidy (done ++ lines) a c
more_quits tidy done lines a b c p q = record {
  before = done ++ q.before;
  quit = q.quit;
  behind = q.behind;
  are = ap (λ x. done ++ x) q.are ∙ sym (append_assoc done q.before (q.quit ∷ q.behind));
  met = q.met;
  done = in_order_both AwaitsQuietly quiet_can (TypesOn tidy) done q.before a b q.met p q.done;
  quits = q.quits;
}

pub session_quits : (tidy : Tidy) (serve_on goes_on : Bool) (initial now new : Option (List ℕ))
    (held holds left : List ℕ) (end_reason : EndReason) (a b : Session) (live : LiveState)
    (d : Session) → SessionComes tidy initial now held a b → AwaitsInput end_reason b.live live
    → ReadsPart true now new held holds
    → LinesType tidy goes_on holds left (after_wait live b) d → goes_on ≡ false
    → IfSome initial (λ octets. SessionEnds tidy serve_on (lines_of octets) a d)
session_quits tidy serve_on goes_on None now new held holds left end_reason a b live d arrives
    awaits reads types is =
    tt
session_quits tidy serve_on goes_on (Some octets) now new held holds left end_reason a b live d
    arrives awaits reads types is =
    let w =
    part_read AwaitsQuietly quiet_can (TypesOn tidy) octets held holds now new arrives.0 a b
    (after_wait live b) arrives.1 (awaits_one end_reason b.live live awaits, refl) reads in
    let t : TakesLines AwaitsQuietly (TypesOn tidy) octets (holds ++ w.0) 0 arrives.0 a
    (after_wait live b) =
    w.2 in
    let quits : LinesType tidy false holds left (after_wait live b) d =
    subst (λ (x : Bool). LinesType tidy x holds left (after_wait live b) d) is types in
    inr (inl (subst (λ (xs : List (List ℕ)). Quits tidy xs a d)
    (sym (taken_all t.lines octets (holds ++ w.0) t.taken))
    (more_quits tidy t.lines (lines_of (holds ++ w.0)) a (after_wait live b) d t.done (quits w.0))))

pub session_closed : (tidy : Tidy) (serve_on : Bool) (initial now : Option (List ℕ)) (held : List ℕ)
    (why : EndReason) (a b : Session) (live : LiveState)
    → SessionComes tidy initial now held a b → AwaitsInput why b.live live → why ≡ end_reason.Closed
    → IfSome initial (λ octets. SessionEnds tidy serve_on (lines_of octets) a (after_wait live b))
session_closed tidy serve_on None now held why a b live arrives awaits is = tt
session_closed tidy serve_on (Some octets) now held why a b live arrives awaits is =
    let c : LeadsTo AwaitsQuietly (TypesOn tidy) (Some octets) now held arrives.0 a b = arrives.1 in
    let p = c.so_far in
    let t : TakesLines AwaitsQuietly (TypesOn tidy) octets (held ++ p.0) 0 arrives.0 a b = p.2 in
    inr (inr (record {
      before = t.lines;
      behind = lines_of (held ++ p.0);
      are = taken_all t.lines octets (held ++ p.0) t.taken;
      met = b;
      done = t.done;
      closes = subst (λ (x : EndReason). AwaitsInput x b.live live) is awaits;
      reported = refl;
    }))

last_typed : (tidy : Tidy) (octets held : List ℕ) (n : ℕ) (a b c : Session) → HasNoFeed held
    → TakesLines AwaitsQuietly (TypesOn tidy) octets held 0 n a b → TypesLast tidy held true b c
    → InOrder AwaitsQuietly (TypesOn tidy) (lines_of octets) a c
last_typed tidy octets [] n a b c none takes types =
    let all : lines_of octets ≡ takes.lines =
    taken_all takes.lines octets [] takes.taken ∙ append-nil takes.lines in
    subst (λ (xs : List (List ℕ)). InOrder AwaitsQuietly (TypesOn tidy) xs a c) (sym all)
    (subst (λ (x : Session). InOrder AwaitsQuietly (TypesOn tidy) takes.lines a x) (sym types.1)
    takes.done)
last_typed tidy octets (o ∷ held) n a b c none takes types =
    let all : lines_of octets ≡ takes.lines ++ (o ∷ held) ∷ [] =
    taken_all takes.lines octets (o ∷ held) takes.taken
    ∙ ap (λ x. takes.lines ++ x) (lines_of_last o held none) in
    subst (λ (xs : List (List ℕ)). InOrder AwaitsQuietly (TypesOn tidy) xs a c) (sym all)
    (in_order_more AwaitsQuietly quiet_can (TypesOn tidy) takes.lines (o ∷ held) a b c takes.done
    types)

pub session_ended : (tidy : Tidy) (serve_on goes_on : Bool) (initial now new : Option (List ℕ))
    (held holds : List ℕ) (end_reason : EndReason) (a b : Session) (live : LiveState) (d : Session)
    (last : LiveState) → SessionComes tidy initial now held a b → AwaitsInput end_reason b.live live
    → ReadsPart false now new held holds
    → TypesLast tidy holds goes_on (after_wait live b) d → goes_on ≡ true
    → ServesOn serve_on d.live last
    → IfSome initial (λ octets. SessionEnds tidy serve_on (lines_of octets) a (after_wait last d))
session_ended tidy serve_on goes_on None now new held holds end_reason a b live d last arrives
    awaits reads types is serves =
    tt
session_ended tidy serve_on goes_on (Some octets) now new held holds end_reason a b live d last
    arrives awaits reads types is serves =
    let w =
    at_end AwaitsQuietly quiet_can (TypesOn tidy) octets held holds now new arrives.0 a b
    (after_wait live b) arrives.1 (awaits_one end_reason b.live live awaits, refl) reads in
    inl (record {
      ended = d;
      done =
          last_typed tidy octets holds arrives.0 a (after_wait live b) d w.1 w.0
          (subst (λ (x : Bool). TypesLast tidy holds x (after_wait live b) d) is types);
      serves = serves;
      reported = refl;
    })

last_quits : (tidy : Tidy) (octets held : List ℕ) (n : ℕ) (a b c : Session) → HasNoFeed held
    → TakesLines AwaitsQuietly (TypesOn tidy) octets held 0 n a b → TypesLast tidy held false b c
    → Quits tidy (lines_of octets) a c
last_quits tidy octets [] n a b c none takes types =
    let impossible : false ≡ true = types.0 in absurd cc
last_quits tidy octets (o ∷ held) n a b c none takes types =
    let all : lines_of octets ≡ takes.lines ++ (o ∷ held) ∷ [] =
    taken_all takes.lines octets (o ∷ held) takes.taken
    ∙ ap (λ x. takes.lines ++ x) (lines_of_last o held none) in
    subst (λ (xs : List (List ℕ)). Quits tidy xs a c) (sym all)
    (quits_after tidy takes.lines (o ∷ held) [] a b c takes.done types)

pub session_last_quits : (tidy : Tidy) (serve_on goes_on : Bool) (initial now new : Option (List ℕ))
    (held holds : List ℕ) (end_reason : EndReason) (a b : Session) (live : LiveState)
    (d : Session) → SessionComes tidy initial now held a b → AwaitsInput end_reason b.live live
    → ReadsPart false now new held holds
    → TypesLast tidy holds goes_on (after_wait live b) d → goes_on ≡ false
    → IfSome initial (λ octets. SessionEnds tidy serve_on (lines_of octets) a d)
session_last_quits tidy serve_on goes_on None now new held holds end_reason a b live d arrives
    awaits reads types is =
    tt
session_last_quits tidy serve_on goes_on (Some octets) now new held holds end_reason a b live d
    arrives awaits reads types is =
    let w =
    at_end AwaitsQuietly quiet_can (TypesOn tidy) octets held holds now new arrives.0 a b
    (after_wait live b) arrives.1 (awaits_one end_reason b.live live awaits, refl) reads in
    inr (inl (last_quits tidy octets holds arrives.0 a (after_wait live b) d
    w.1 w.0
    (subst (λ (x : Bool). TypesLast tidy holds x (after_wait live b) d) is types)))

-- an error implies nothing about a session
pub err_says_nothing : {E : Type 0} (initial : Option (List ℕ)) (result : Result ⊤ E) (fault : E)
    (P : List ℕ → Type 0) → IsErrAnd result (λ x. x ≡ fault)
    → IfSome initial (λ octets. OnOk result (P octets))
err_says_nothing None result fault P is = tt
err_says_nothing (Some octets) (Ok done) fault P is = absurd is
err_says_nothing (Some octets) (Err other) fault P is = tt

pub session_served : (tidy : Tidy) (serve_on goes_on : Bool) (result : Result ⊤ LiveFault)
    (initial now new : Option (List ℕ)) (held holds : List ℕ) (end_reason : EndReason)
    (a b : Session)
    (live : LiveState) (d : Session) (last : LiveState) → SessionComes tidy initial now held a b
    → AwaitsInput end_reason b.live live → ReadsPart false now new held holds
    → TypesLast tidy holds goes_on (after_wait live b) d → goes_on ≡ true
    → OnOk result (ServesOn serve_on d.live last)
    → IfSome initial
    (λ octets. OnOk result (SessionEnds tidy serve_on (lines_of octets) a (after_wait last d)))
session_served tidy serve_on goes_on (Ok done) initial now new held holds end_reason a b live d last
    arrives awaits reads types is serves =
    session_ended tidy serve_on goes_on initial now new held holds end_reason a b live d last
    arrives awaits reads types is serves
session_served tidy serve_on goes_on (Err fault) None now new held holds end_reason a b live d last
    arrives awaits reads types is serves =
    tt
session_served tidy serve_on goes_on (Err fault) (Some octets) now new held holds end_reason a b
    live d last arrives awaits reads types is serves =
    tt

pub last_by : (tidy : Tidy) (octets held : List ℕ) (goes_on : Bool) (a b : Session) → octets ≡ held
    → TypesLast tidy octets goes_on a b → TypesLast tidy held goes_on a b
last_by tidy octets held goes_on a b is types =
    subst (λ (x : List ℕ). TypesLast tidy x goes_on a b) is types

pub greeted_ends : (tidy : Tidy) (serve_on : Bool) (initial : Option (List ℕ)) (a : Session)
    (greeted : Option (List Delivered)) (b : Session)
    → AddsMessages a.reported greeted (Greets ∷ [])
    → IfSome initial (λ octets. SessionEnds tidy serve_on (lines_of octets)
    (record { live = a.live; reported = greeted }) b)
    → IfSome initial (λ octets. GreetedAndEnds tidy serve_on (lines_of octets) a b)
greeted_ends tidy serve_on None a greeted b greets ends = tt
greeted_ends tidy serve_on (Some octets) a greeted b greets ends =
    record { greeted = greeted; greets = greets; ends = ends }
