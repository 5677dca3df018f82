-- A part of a list, in the same order: the rest of a line after frames are lost or removed.
use Rattle.std.proofs.Common.{◌≡◌, inl, inr, ℕ, zero, suc, ◌+◌, ◌≤◌, Bool, true, false, List, [], ◌∷◌, ◌++◌, refl, sym, subst, arith}
use Rattle.lapd_pair_laws.specs.Line.{Flight, without_lost}
use Rattle.lapd_pair_laws.specs.Kinds.{Message, Kind, Final, Numbered, kinds, message_of, messages, number_of, numbers, rejection_of, rejections, tally}
use Rattle.lapd_pair_laws.specs.Conjuncts.{Each, IsNext, IsRun, IsJunkThenRun, IsInOrder, IsClimb, NoneBehindPoll, NoneBehindAsk, NamesAll, FinalsNameAll, AtMostOne, HasSome}
use Rattle.lapd_pair_laws.proofs.Runs.{run_is_junk}

pub data Part {A : Type 0} : List A → List A → Type 0 where
  ended : Part [] []
  taken : {x : A} {xs ys : List A} → Part xs ys → Part (x ∷ xs) (x ∷ ys)
  lost : {y : A} {xs ys : List A} → Part xs ys → Part xs (y ∷ ys)

pub part_whole : {A : Type 0} (xs : List A) → Part xs xs
part_whole [] = ended
part_whole (x ∷ xs) = taken (part_whole xs)

-- the first is removed
pub part_first : {A : Type 0} (x : A) (xs : List A) → Part xs (x ∷ xs)
part_first x xs = lost (part_whole xs)

pub part_under : {A : Type 0} (front : List A) {xs ys : List A} → Part xs ys
    → Part (front ++ xs) (front ++ ys)
part_under [] p = p
part_under (f ∷ front) p = taken (part_under front p)

pub part_past : {A : Type 0} (front : List A) {xs ys : List A} → Part xs ys → Part xs (front ++ ys)
part_past [] p = p
part_past (f ∷ front) p = lost (part_past front p)

-- the one at a position is lost
pub part_lost : (at : ℕ) (line : List Flight) → Part (kinds (without_lost at line)) (kinds line)
part_lost zero [] = ended
part_lost (suc at) [] = ended
part_lost zero (f ∷ fs) = lost (part_whole (kinds fs))
part_lost (suc at) (f ∷ fs) = taken (part_lost at fs)

-- ---- Lists derived from the kinds.

pub part_messages : {xs ys : List Kind} → Part xs ys → Part (messages xs) (messages ys)
part_messages ended = ended
part_messages (taken {x = x} p) = part_under (message_of x) (part_messages p)
part_messages (lost {y = y} p) = part_past (message_of y) (part_messages p)

pub part_numbers : {xs ys : List Kind} → Part xs ys → Part (numbers xs) (numbers ys)
part_numbers ended = ended
part_numbers (taken {x = x} p) = part_under (number_of x) (part_numbers p)
part_numbers (lost {y = y} p) = part_past (number_of y) (part_numbers p)

pub part_rejections : {xs ys : List Kind} → Part xs ys → Part (rejections xs) (rejections ys)
part_rejections ended = ended
part_rejections (taken {x = x} p) = part_under (rejection_of x) (part_rejections p)
part_rejections (lost {y = y} p) = part_past (rejection_of y) (part_rejections p)

pub part_tally : (f : Kind → ℕ) {xs ys : List Kind} → Part xs ys → tally f xs ≤ tally f ys
part_tally f ended = omega arith
part_tally f (taken p) = let less = part_tally f p in omega (arith, less)
part_tally f (lost p) = let less = part_tally f p in omega (arith, less)

pub part_nothing : {A : Type 0} {xs ys : List A} → Part xs ys → ys ≡ [] → xs ≡ []
part_nothing ended none = refl
part_nothing (taken p) none = cc
part_nothing (lost p) none = cc

pub part_each : {A : Type 0} (P : A → Type 0) {xs ys : List A} → Part xs ys → Each P ys → Each P xs
part_each P ended each = tt
part_each P (taken p) each = (each.0, part_each P p each.1)
part_each P (lost p) each = part_each P p each.1

pub part_some : {xs ys : List Message} → Part xs ys → HasSome xs → HasSome ys
part_some ended some = some
part_some (taken p) some = tt
part_some (lost p) some = tt

-- ---- The order of messages and of the N(R).

next_part : (polled : Bool) (low lower end number : ℕ) {xs ys : List Message} → Part xs ys
    → (Run Less : Type 0) → lower ≤ low → (Run → Less) → IsNext polled low end number ys Run
    → IsNext polled lower end number xs Less
next_part true low lower end number p Run Less le f next = (next.0, part_nothing p next.1)
next_part false low lower end number p Run Less le f next =
    (omega (arith, next.0), next.1, f next.2)

past_part : (polled : Bool) (low lower end number : ℕ) {xs ys : List Message} → Part xs ys
    → lower ≤ low → ((l : ℕ) → lower ≤ l → IsRun l end ys → IsRun lower end xs)
    → IsNext polled low end number ys (IsRun (number + 1) end ys) → IsRun lower end xs
past_part true low lower end number {xs} p le f next =
    subst (λ l. IsRun lower end l) (sym (part_nothing p next.1)) tt
past_part false low lower end number p le f next = f (number + 1) (omega (arith, next.0)) next.2

run_part : {xs ys : List Message} (low lower end : ℕ) → Part xs ys → lower ≤ low → IsRun low end ys
    → IsRun lower end xs
run_part low lower end ended le run = tt
run_part low lower end (taken {x = m} {xs = xs} {ys = ys} p) le run =
    next_part m.polled low lower end m.number p (IsRun (m.number + 1) end ys)
    (IsRun (m.number + 1) end xs) le
    (λ r. run_part (m.number + 1) (m.number + 1) end p (omega arith) r) run
run_part low lower end (lost {y = m} {ys = ys} p) le run =
    past_part m.polled low lower end m.number p le
    (λ l (le : lower ≤ l) (r : IsRun l end ys). run_part l lower end p le r) run

junk_part : {xs ys : List Message} (low end : ℕ) → Part xs ys → IsJunkThenRun low end ys
    → IsJunkThenRun low end xs
junk_part low end ended junk = tt
junk_part low end (taken {x = m} p) (inl run) =
    inl (run_part low low end (taken {x = m} p) (omega arith) run)
junk_part low end (taken p) (inr junk) = inr (junk.0, junk.1, junk_part low end p junk.2)
junk_part low end (lost {y = m} {xs = xs} p) (inl run) =
    run_is_junk low end xs (run_part low low end (lost {y = m} p) (omega arith) run)
junk_part low end (lost p) (inr junk) = junk_part low end p junk.2

pub order_part : (rejecting : Bool) (low end : ℕ) {xs ys : List Message} → Part xs ys
    → IsInOrder rejecting low end ys → IsInOrder rejecting low end xs
order_part true low end p order = junk_part low end p order
order_part false low end p order = run_part low low end p (omega arith) order

climb_part : {xs ys : List ℕ} (low lower top : ℕ) → Part xs ys → lower ≤ low → IsClimb low top ys
    → IsClimb lower top xs
climb_part low lower top ended le climb = omega (arith, le, climb)
climb_part low lower top (taken {x = n} p) le climb =
    (omega (arith, le, climb.0), climb_part n n top p (omega arith) climb.1)
climb_part low lower top (lost {y = n} p) le climb =
    climb_part n lower top p (omega (arith, le, climb.0)) climb.1

pub part_climb : (low top : ℕ) {xs ys : List ℕ} → Part xs ys → IsClimb low top ys
    → IsClimb low top xs
part_climb low top p climb = climb_part low low top p (omega arith) climb

-- ---- Which frames follow which.

pub part_behind_poll : {xs ys : List Kind} → Part xs ys → NoneBehindPoll ys → NoneBehindPoll xs
part_behind_poll ended none = tt
part_behind_poll (taken p) none =
    ((λ poll. part_nothing (part_messages p) (none.0 poll)), part_behind_poll p none.1)
part_behind_poll (lost p) none = part_behind_poll p none.1

pub part_behind_ask : {xs ys : List Kind} → Part xs ys → NoneBehindAsk ys → NoneBehindAsk xs
part_behind_ask ended none = tt
part_behind_ask (taken p) none =
    ((λ ask. part_nothing (part_numbers p) (none.0 ask)), part_behind_ask p none.1)
part_behind_ask (lost p) none = part_behind_ask p none.1

names_part : (k : Kind) (base top : ℕ) {xs ys : List Kind} → Part xs ys → NamesAll k base top ys
    → NamesAll k base top xs
names_part (Final nr) base top p names = (names.0, part_nothing (part_rejections p) names.1)
names_part (Numbered m nr) base top p names = tt
names_part k base top p names = tt

pub part_names : (base top : ℕ) {xs ys : List Kind} → Part xs ys → FinalsNameAll base top ys
    → FinalsNameAll base top xs
part_names base top ended names = tt
part_names base top (taken {x = k} p) names =
    (names_part k base top p names.0, part_names base top p names.1)
part_names base top (lost p) names = part_names base top p names.1

-- at most one entry, which satisfies a predicate
one_alone : (P : ℕ → Type 0) (n : ℕ) {xs ys : List ℕ} → Part xs ys → AtMostOne P (n ∷ ys)
    → AtMostOne P (n ∷ xs)
one_alone P n ended one = one
one_alone P n (taken p) one = absurd one
one_alone P n (lost p) one = absurd one

one_less : (P : ℕ → Type 0) (n : ℕ) (ys : List ℕ) → AtMostOne P (n ∷ ys) → AtMostOne P ys
one_less P n [] one = tt
one_less P n (m ∷ ys) one = absurd one

pub part_one : (P : ℕ → Type 0) {xs ys : List ℕ} → Part xs ys → AtMostOne P ys → AtMostOne P xs
part_one P ended one = tt
part_one P (taken {x = n} p) one = one_alone P n p one
part_one P (lost {y = n} {ys = ys} p) one = part_one P p (one_less P n ys one)
