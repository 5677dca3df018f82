-- The code compares one timer after another, and keeps the least pair so far.
use Rattle.std.proofs.Common.{◌≡◌, ℕ, ◌+◌, ◌<◌, ◌≤◌, suc, zero, Option, Some, None, inl, inr, refl, sym, ap, ◌∙◌, arith, ◌⊎◌}
use Rattle.std.proofs.lemmas.Bool.{leb-true, leb-false, cases_lt, cond_both}
use Rattle.std.specs.Prelude.{nat_le}
use Rattle.lapd_timers.specs.declared.timer.Timer.{Timer}
use Rattle.lapd_timers.specs.declared.timer.Timer.TheVariants.{T200, T201, T202, T203}
use Rattle.lapd_timers.specs.declared.timer_set.TimerDeadline.{TimerDeadline}
use Rattle.lapd_timers.specs.Due.{Timers, HasExpired, IsNoGreater, IsLeast, IsDue, deadline_of, place, sooner, sooner_of, timer_of}
use Rattle.lapd_timers.proofs.TimerOrder.{same_place}

-- the pair of a timer before this place, if it has expired
record IsAmong (now : ℕ) (s : Timers) (n : ℕ) (e : TimerDeadline) : Type 0 where
  expired : HasExpired now s e
  early : place e.timer < n

-- the next place has one more timer
divided : (now : ℕ) (s : Timers) (timer : Timer) (f : TimerDeadline)
    → IsAmong now s (place timer + 1) f → IsAmong now s (place timer) f ⊎ (f.timer ≡ timer)
divided now s timer f h = elim (cases_lt (place f.timer) (place timer)) [
  | inl early ↦ inl (record { expired = h.expired; early = early })
  | inr late ↦ inr (same_place f.timer timer (omega arith))
]

further : (now : ℕ) (s : Timers) (n : ℕ) (e : TimerDeadline) → IsAmong now s n e
    → IsAmong now s (n + 1) e
further now s n e h = record { expired = h.expired; early = omega arith }

-- a timer that has not expired does not change the least pair
as_before : (now : ℕ) (s : Timers) (timer : Timer) (least : Option TimerDeadline)
    → ((f : TimerDeadline) → HasExpired now s f → f.timer ≡ timer → ⊥)
    → IsLeast (IsAmong now s (place timer)) least → IsLeast (IsAmong now s (place timer + 1)) least
as_before now s timer None none old =
    λ f h. elim (divided now s timer f h) [ inl a ↦ old f a | inr same ↦ none f h.expired same ]
as_before now s timer (Some e) none old = (
  further now s (place timer) e old.0,
  λ f h. elim (divided now s timer f h)
      [ inl a ↦ old.1 f a | inr same ↦ absurd (none f h.expired same) ],
)

-- a timer has only one pair
its_deadline : (now : ℕ) (s : Timers) (e f : TimerDeadline) → HasExpired now s e
    → HasExpired now s f → f.timer ≡ e.timer → e.deadline ≡ f.deadline
its_deadline now s e f h k same =
    let q : Some e.deadline ≡ Some f.deadline =
    sym h.runs ∙ (sym (ap (λ t. deadline_of t s) same) ∙ k.runs) in
    cc

no_later : (l e f : TimerDeadline) → l.deadline ≤ e.deadline → place l.timer < place e.timer
    → e.deadline ≡ f.deadline → place f.timer ≡ place e.timer → IsNoGreater l f
no_later l e f first early same place_same = elim (cases_lt l.deadline f.deadline) [
  | inl less ↦ inl less
  | inr other ↦ inr (omega arith, omega arith)
]

before_it : (l e f : TimerDeadline) → e.deadline < l.deadline → IsNoGreater l f → IsNoGreater e f
before_it l e f later (inl less) = inl (omega arith)
before_it l e f later (inr same) = let q : l.deadline ≡ f.deadline = same.0 in inl (omega arith)

preserved : (now : ℕ) (s : Timers) (l e : TimerDeadline) → HasExpired now s e
    → IsLeast (IsAmong now s (place e.timer)) (Some l) → l.deadline ≤ e.deadline
    → IsLeast (IsAmong now s (place e.timer + 1)) (Some l)
preserved now s l e h old first = (
  further now s (place e.timer) l old.0,
  λ f k. elim (divided now s e.timer f k) [
    | inl a ↦ old.1 f a
    | inr same ↦ no_later l e f first old.0.early (its_deadline now s e f h k.expired same)
        (ap place same)
  ],
)

passed : (now : ℕ) (s : Timers) (l e : TimerDeadline) → HasExpired now s e
    → IsLeast (IsAmong now s (place e.timer)) (Some l) → e.deadline < l.deadline
    → IsLeast (IsAmong now s (place e.timer + 1)) (Some e)
passed now s l e h old later = (
  record { expired = h; early = omega arith },
  λ f k. elim (divided now s e.timer f k) [
    | inl a ↦ before_it l e f later (old.1 f a)
    | inr same ↦ inr (its_deadline now s e f h k.expired same, omega (arith, ap place same))
  ],
)

-- a timer that has expired is compared with the least
joined : (now : ℕ) (s : Timers) (least : Option TimerDeadline) (e : TimerDeadline)
    → HasExpired now s e
    → IsLeast (IsAmong now s (place e.timer)) least
    → IsLeast (IsAmong now s (place e.timer + 1)) (sooner_of least e)
joined now s None e h old = (
  record { expired = h; early = omega arith },
  λ f k. elim (divided now s e.timer f k) [
    | inl a ↦ absurd (old f a)
    | inr same ↦ inr (its_deadline now s e f h k.expired same, omega (arith, ap place same))
  ],
)
joined now s (Some l) e h old =
    cond_both (nat_le l.deadline e.deadline) (Some l) (Some e)
    (IsLeast (IsAmong now s (place e.timer + 1)))
    (λ first. preserved now s l e h old (leb-true _ _ first))
    (λ later. passed now s l e h old (leb-false _ _ later))

stopped_differs : (s : Timers) (timer other : Timer) (deadline : ℕ) → deadline_of timer s ≡ None
    → deadline_of other s ≡ Some deadline → other ≡ timer → ⊥
stopped_differs s timer other deadline q runs same =
    let k : None ≡ Some deadline = sym q ∙ (sym (ap (λ t. deadline_of t s) same) ∙ runs) in cc

is_later : (s : Timers) (timer other : Timer) (deadline its now : ℕ)
    → deadline_of timer s ≡ Some deadline → deadline_of other s ≡ Some its → other ≡ timer
    → its ≤ now → now < deadline → ⊥
is_later s timer other deadline its now q runs same past later =
    let k : Some deadline ≡ Some its = sym q ∙ (sym (ap (λ t. deadline_of t s) same) ∙ runs) in
    let j : deadline ≡ its = cc in omega arith

-- the next timer is compared
one_more : (now : ℕ) (s : Timers) (timer : Timer) (least : Option TimerDeadline)
    (deadline : Option ℕ) → deadline_of timer s ≡ deadline
    → IsLeast (IsAmong now s (place timer)) least
    → IsLeast (IsAmong now s (place timer + 1)) (sooner now timer deadline least)
one_more now s timer least None q old =
    as_before now s timer least
    (λ f h same. stopped_differs s timer f.timer f.deadline q h.runs same) old
one_more now s timer least (Some deadline) q old =
    cond_both (nat_le deadline now) _ _ (IsLeast (IsAmong now s (place timer + 1)))
    (λ past. joined now s least (record { deadline = deadline; timer = timer })
    (record { runs = q; is_past = leb-true _ _ past }) old)
    (λ later. as_before now s timer least
    (λ f h same. is_later s timer f.timer deadline f.deadline now q h.runs same h.is_past
    (leb-false _ _ later)) old)

none_yet : (now : ℕ) (s : Timers) → IsLeast (IsAmong now s 0) None
none_yet now s f h = omega (arith, h.early)

in_order : (t : Timer) → place t < 4
in_order T200 = omega arith
in_order T201 = omega arith
in_order T202 = omega arith
in_order T203 = omega arith

all_expired : (now : ℕ) (s : Timers) (e : TimerDeadline) → HasExpired now s e → IsAmong now s 4 e
all_expired now s e h = record { expired = h; early = in_order e.timer }

of_all : (now : ℕ) (s : Timers) (least : Option TimerDeadline) → IsLeast (IsAmong now s 4) least
    → IsLeast (HasExpired now s) least
of_all now s None h = λ f k. h f (all_expired now s f k)
of_all now s (Some e) h = (h.0.expired, λ f k. h.1 f (all_expired now s f k))

-- after all four, the least is that of all pairs that have expired
pub all_four : (now : ℕ) (s : Timers)
    → IsLeast (HasExpired now s) (sooner now T203 s.t203
    (sooner now T202 s.t202 (sooner now T201 s.t201 (sooner now T200 s.t200 None))))
all_four now s = of_all now s _
    (one_more now s T203 _ s.t203 refl (one_more now s T202 _ s.t202 refl
    (one_more now s T201 _ s.t201 refl
    (one_more now s T200 _ s.t200 refl (none_yet now s)))))

pub found : (now : ℕ) (s : Timers) (a b c d : Option TimerDeadline) (timer : Option Timer)
    → a ≡ sooner now T200 s.t200 None → b ≡ sooner now T201 s.t201 a → c ≡ sooner now T202 s.t202 b
    → d ≡ sooner now T203 s.t203 c
    → timer ≡ timer_of d → IsDue now s timer
found now s a b c d timer e f g h k = record {
  least = d;
  is_least = rw (h, g, f, e) (all_four now s);
  is_its = k;
}

-- there is at most one least pair
same_pair : (e f : TimerDeadline) → IsNoGreater e f → IsNoGreater f e → e.timer ≡ f.timer
same_pair e f (inl a) (inl b) = absurd (omega arith)
same_pair e f (inl a) (inr b) = absurd (omega (arith, b.0))
same_pair e f (inr a) (inl b) = absurd (omega (arith, a.0))
same_pair e f (inr a) (inr b) = same_place e.timer f.timer (omega (arith, a.1, b.1))

one_least : (now : ℕ) (s : Timers) (a b : Option TimerDeadline) → IsLeast (HasExpired now s) a
    → IsLeast (HasExpired now s) b → timer_of a ≡ timer_of b
one_least now s None None h k = refl
one_least now s None (Some f) h k = absurd (h f k.0)
one_least now s (Some e) None h k = absurd (k e h.0)
one_least now s (Some e) (Some f) h k = ap Some (same_pair e f (h.1 f k.0) (k.1 e h.0))

pub one_due : (now : ℕ) (s : Timers) (a b : Option Timer) → IsDue now s a → IsDue now s b → a ≡ b
one_due now s a b h k =
    h.is_its ∙ (one_least now s h.least k.least h.is_least k.is_least ∙ sym k.is_its)
