-- The order of expiries, and the first of several.
use Rattle.std.proofs.Common.{◌≡◌, ℕ, ◌<◌, ◌≤◌, Option, Some, None, option_map, inl, inr, refl, sym, ap, subst, ◌∙◌, arith, ◌⊎◌}
use Rattle.std.proofs.lemmas.Bool.{cases_lt}
use Rattle.lapd_timers.specs.declared.timer.Timer.{Timer}
use Rattle.lapd_timers.specs.Due.{place}
use Rattle.lapd_timers.specs.Moments.{earlier}
use Rattle.lapd_timers.proofs.TimerOrder.{same_place}
use Rattle.lapd_frame.specs.declared.Sapi.{Sapi}
use Rattle.lapd_frame.specs.declared.Sapi.TheVariants.{Call, Packet, Management}
use Rattle.lapd_frame.specs.Address.{sapi_value}
use Rattle.lapd_table.specs.declared.link_id.LinkId.{LinkId}
use Rattle.lapd_sides_links.specs.declared.running_timer.RunningTimer.{RunningTimer}
use Rattle.lapd_sides_links.specs.Links.{of_sapi}
use Rattle.lapd_sides_links.specs.Expiries.{IsNoLaterLink, IsNoLater, IsFirst}
use Rattle.lapd_sides_links.specs.Places.{IsSooner}

-- ---- The order.

-- ordered by a number, and if the numbers are equal by what follows
abbrev Lexicographic : ℕ → ℕ → Type 0 → Type 0
Lexicographic m n Then = (m < n) ⊎ ((m ≡ n) × Then)

chained : (l m n : ℕ) (P Q R : Type 0) → (P → Q → R) → Lexicographic l m P → Lexicographic m n Q
    → Lexicographic l n R
chained l m n P Q R step (inl a) (inl b) = inl (omega arith)
chained l m n P Q R step (inl a) (inr b) = inl (omega (arith, b.0))
chained l m n P Q R step (inr a) (inl b) = inl (omega (arith, a.0))
chained l m n P Q R step (inr a) (inr b) = inr (a.0 ∙ b.0, step a.1 b.1)

tei_chained : (a b c : ℕ) → a ≤ b → b ≤ c → a ≤ c
tei_chained a b c h k = omega arith

link_chained : (x y z : Option LinkId) → IsNoLaterLink x y → IsNoLaterLink y z → IsNoLaterLink x z
link_chained None y z h k = tt
link_chained (Some x) None z h k = absurd h
link_chained (Some x) (Some y) None h k = absurd k
link_chained (Some x) (Some y) (Some z) h k =
    chained (sapi_value x.sapi) (sapi_value y.sapi) (sapi_value z.sapi) _ _ _
    (tei_chained x.tei y.tei z.tei) h k

pub no_later_chained : (a b c : RunningTimer) → IsNoLater a b → IsNoLater b c → IsNoLater a c
no_later_chained a b c h k =
    chained a.deadline b.deadline c.deadline _ _ _
    (chained (place a.timer) (place b.timer) (place c.timer) _ _ _ (link_chained a.of b.of c.of)) h
    k

-- an expiry is no later than itself
pub link_no_later_self : (a : Option LinkId) → IsNoLaterLink a a
link_no_later_self None = tt
link_no_later_self (Some a) = inr (refl, omega arith)

pub no_later_self : (a : RunningTimer) → IsNoLater a a
no_later_self a = inr (refl, inr (refl, link_no_later_self a.of))

-- of two expiries one is no later than the other
either_tail : (m n : ℕ) (Then Else : Type 0) → n ≤ m → Then ⊎ Else
    → Lexicographic m n Then ⊎ Lexicographic n m Else
either_tail m n Then Else low rest = elim (cases_lt n m) [
  | inl more ↦ inr (inl more)
  | inr other ↦
      let same : m ≡ n = omega (arith, low, other) in
      elim rest [ inl a ↦ inl (inr (same, a)) | inr b ↦ inr (inr (sym same, b)) ]
]

either_first : (m n : ℕ) (Then Else : Type 0) → Then ⊎ Else
    → Lexicographic m n Then ⊎ Lexicographic n m Else
either_first m n Then Else rest = elim (cases_lt m n) [
  | inl less ↦ inl (inl less)
  | inr low ↦ either_tail m n Then Else low rest
]

either_tei : (a b : ℕ) → (a ≤ b) ⊎ (b ≤ a)
either_tei a b = elim (cases_lt b a) [
  | inl less ↦ inr (omega (arith, less))
  | inr low ↦ inl low
]

either_link : (x y : Option LinkId) → IsNoLaterLink x y ⊎ IsNoLaterLink y x
either_link None y = inl tt
either_link (Some x) None = inr tt
either_link (Some x) (Some y) =
    either_first (sapi_value x.sapi) (sapi_value y.sapi) _ _ (either_tei x.tei y.tei)

either_no_later : (a b : RunningTimer) → IsNoLater a b ⊎ IsNoLater b a
either_no_later a b =
    either_first a.deadline b.deadline _ _
    (either_first (place a.timer) (place b.timer) _ _ (either_link a.of b.of))

pub earlier_deadline : (a b : RunningTimer) → IsNoLater a b → a.deadline ≤ b.deadline
earlier_deadline a b (inl less) = omega arith
earlier_deadline a b (inr same) = omega (arith, same.0)

-- ---- The earlier one of the first of two groups is the first of all.

pub joined : (A B C : RunningTimer → Type 0) (a b c : Option RunningTimer)
    → ((e : RunningTimer) → C e → A e ⊎ B e) → ((e : RunningTimer) → A e → C e)
    → ((e : RunningTimer) → B e → C e)
    → IsFirst A a → IsFirst B b → IsSooner a b c → IsFirst C c
joined A B C None None c split left right h k is =
    subst (IsFirst C) (sym is) (λ e x. elim (split e x) [ inl y ↦ h e y | inr y ↦ k e y ])
joined A B C None (Some b) c split left right h k is =
    subst (IsFirst C) (sym is)
    (right b k.0, λ e x. elim (split e x) [ inl y ↦ absurd (h e y) | inr y ↦ k.1 e y ])
joined A B C (Some a) None c split left right h k is =
    subst (IsFirst C) (sym is)
    (left a h.0, λ e x. elim (split e x) [ inl y ↦ h.1 e y | inr y ↦ absurd (k e y) ])
joined A B C (Some a) (Some b) c split left right h k (inl is) =
    subst (IsFirst C) (sym is.0) (
      left a h.0,
      λ e
          x. elim (split e x) [ inl y ↦ h.1 e y | inr y ↦ no_later_chained a b e is.1 (k.1 e y) ],
    )
joined A B C (Some a) (Some b) c split left right h k (inr is) =
    subst (IsFirst C) (sym is.0) (
      right b k.0,
      λ e
          x. elim (split e x) [ inl y ↦ no_later_chained b a e is.1 (h.1 e y) | inr y ↦ k.1 e y ],
    )

-- equal groups have the same first expiry
pub same_first : (A B : RunningTimer → Type 0) (a : Option RunningTimer)
    → ((e : RunningTimer) → A e → B e) → ((e : RunningTimer) → B e → A e) → IsFirst A a
    → IsFirst B a
same_first A B None there back h = λ e x. h e (back e x)
same_first A B (Some a) there back h = (there a h.0, λ e x. h.1 e (back e x))

-- ---- The earlier of two exists, and its deadline is the earlier one.

pub record HasSooner (a b : Option RunningTimer) : Type 0 where
  pub first : Option RunningTimer
  pub is : IsSooner a b first

pub sooner_of : (a b : Option RunningTimer) → HasSooner a b
sooner_of None b = record { first = b; is = refl }
sooner_of (Some a) None = record { first = Some a; is = refl }
sooner_of (Some a) (Some b) = elim (either_no_later a b) [
  | inl low ↦ record { first = Some a; is = inl (refl, low) }
  | inr high ↦ record { first = Some b; is = inr (refl, high) }
]

abbrev pub deadline : Option RunningTimer → Option ℕ
deadline first = option_map (λ (e : RunningTimer). e.deadline) first

pub sooner_deadline : (a b c : Option RunningTimer) → IsSooner a b c
    → deadline c ≡ earlier (deadline a) (deadline b)
sooner_deadline None b c is = ap deadline is
sooner_deadline (Some a) None c is = ap deadline is
sooner_deadline (Some a) (Some b) c (inl is) =
    ap deadline is.0 ∙ ap (λ (d : ℕ). Some d) (omega (arith, earlier_deadline a b is.1))
sooner_deadline (Some a) (Some b) c (inr is) =
    ap deadline is.0 ∙ ap (λ (d : ℕ). Some d) (omega (arith, earlier_deadline b a is.1))

-- ---- Two expiries are equal if neither is later.
