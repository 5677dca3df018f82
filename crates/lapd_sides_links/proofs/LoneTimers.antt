-- The timers of the only link, and room for those of a second one.
use Rattle.std.proofs.Common.{◌≡◌, ◌≢◌, ◌<◌, ℕ, Bool, true, false, Option, Some, None, option_map, refl, sym, ap, subst, ◌∙◌, ◌⊎◌, inl, inr}
use Rattle.std.specs.Prelude.{if◌then◌else◌, IfSome, is_some}
use Rattle.lapd_timers.specs.Due.{Timers, deadline_of}
use Rattle.lapd_frame.specs.declared.Sapi.{Sapi}
use Rattle.lapd_frame.specs.declared.Sapi.TheVariants.{Call, Packet, Management}
use Rattle.lapd_table.specs.declared.link_id.LinkId.{LinkId}
use Rattle.lapd_table.specs.LinkId.{id_eq}
use Rattle.lapd_table.proofs.Ids.{same_id_eq, id_eq_self, bool_cases}
use Rattle.lapd_sides_links.specs.declared.link_timers.LinkTimers.{LinkTimers}
use Rattle.lapd_sides_links.specs.declared.link_timers.LinkTimers.TheVariants.{Empty, One, Many}
use Rattle.lapd_sides_links.specs.declared.lone_timers.LoneTimers.{LoneTimers}
use Rattle.lapd_sides_links.specs.declared.running_timer.RunningTimer.{RunningTimer}
use Rattle.lapd_sides_links.specs.declared.timer_places.TimerPlaces.{TimerPlaces}
use Rattle.lapd_sides_links.specs.Expiries.{IsFirst, IsTimerOf, Runs}
use Rattle.lapd_sides_links.specs.Links.{of_sapi}
use Rattle.lapd_sides_links.specs.Places.{AreStopped, HasSlot, IsKept, RunsFor, has_links}
use Rattle.lapd_sides_links.specs.LinkTimers.{timers_of}
use Rattle.lapd_sides_links.specs.TimersAtPlaces.{alone, of_each_link, placed}
use Rattle.lapd_sides_links.proofs.Order.{same_first}

-- ---- The timers of one link change.

abbrev timers_if : Bool → Timers → Option Timers
timers_if test timers = if test then Some timers else None

either : (own id other : LinkId) (before after : Timers) (test : Bool) → id ≡ own → other ≢ id
    → id_eq other own ≡ test → timers_if test after ≡ timers_if test before
either own id other before after true same differ is =
    absurd (differ (same_id_eq other own is ∙ sym same))
either own id other before after false same differ is = refl

-- the timers of other links are unchanged: they have none
pub others_of_lone : (own id other : LinkId) (before after : Timers) → id_eq id own ≡ true
    → other ≢ id → timers_if (id_eq other own) after ≡ timers_if (id_eq other own) before
others_of_lone own id other before after is differ =
    either own id other before after (id_eq other own) (same_id_eq id own is) differ refl

none_either : (own other : LinkId) (timers : Timers) (test : Bool) → other ≢ own
    → id_eq other own ≡ test → timers_if test timers ≡ None
none_either own other timers true differ is = absurd (differ (same_id_eq other own is))
none_either own other timers false differ is = refl

module _ (s : LoneTimers) where
  -- other links have no timers
  pub none_beside : (other : LinkId) → other ≢ s.id → alone s other ≡ None
  unfolding alone
  none_beside other differ = none_either s.id other s.timers (id_eq other s.id) differ refl

  pub own_alone : alone s s.id ≡ Some s.timers
  unfolding alone
  own_alone = rw (id_eq_self s.id) refl

  pub has_lone_place : (id : LinkId) → id_eq id s.id ≡ true → is_some (alone s id) ≡ true
  unfolding alone
  has_lone_place id is = rw is refl

  pub none_stopped : (id : LinkId) → id_eq id s.id ≡ false → IfSome (alone s id) AreStopped
  unfolding alone
  none_stopped id differ = rw differ tt

-- ---- The first of them.

-- the timers of this link
record IsOwn (s : LoneTimers) (id : LinkId) (its : Timers) : Type 0 where
  id_is : id ≡ s.id
  its_is : its ≡ s.timers

module _ (s : LoneTimers) where
  is_own : (id : LinkId) (its : Timers) (test : Bool) → id_eq id s.id ≡ test
      → timers_if test s.timers ≡ Some its → IsOwn s id its
  is_own id its true is there = record { id_is = same_id_eq id s.id is; its_is = cc }
  is_own id its false is there = absurd (cc)

  owned : (id : LinkId) (its : Timers) → alone s id ≡ Some its → IsOwn s id its
  unfolding alone
  owned id its there = is_own id its (id_eq id s.id) refl there

  runs_alone : (e : RunningTimer) → RunsFor s.id s.timers e → Runs (of_each_link (alone s)) e
  runs_alone e x = record {
    its = s.timers;
    there = ap (of_each_link (alone s)) x.is_of ∙ own_alone s;
    own = subst (λ (of : Option LinkId). IsTimerOf of e.timer) (sym x.is_of) x.own;
    until = x.until;
  }

  own_runs : (of : Option LinkId) (e : RunningTimer) → e.of ≡ of → Runs (of_each_link (alone s)) e
      → RunsFor s.id s.timers e
  own_runs None e is x =
      let there : None ≡ Some x.its = sym (ap (of_each_link (alone s)) is) ∙ x.there in
      absurd (cc)
  own_runs (Some id) e is x =
      let own = owned id x.its (sym (ap (of_each_link (alone s)) is) ∙ x.there) in
      record {
        is_of = is ∙ ap (λ (k : LinkId). Some k) own.id_is;
        own = subst (λ (of : Option LinkId). IsTimerOf of e.timer) is x.own;
        until = subst (λ (t : Timers). deadline_of e.timer t ≡ Some e.deadline) own.its_is x.until;
      }

  pub first_of_lone : (first : Option RunningTimer) → IsFirst (RunsFor s.id s.timers) first
      → IsFirst (Runs (of_each_link (alone s))) first
  first_of_lone first h = same_first (RunsFor s.id s.timers) (Runs (of_each_link (alone s))) first
      (λ e x. runs_alone e x) (λ e x. own_runs e.of e refl x) h

-- ---- Room is made.

id_cases : (a b : LinkId) → (a ≡ b) ⊎ (a ≢ b)
id_cases a b = elim (bool_cases (id_eq a b)) [
  | inl same ↦ inl (same_id_eq a b same)
  | inr differ ↦ inr (λ q.
      let same : id_eq a b ≡ true = ap (λ (i : LinkId). id_eq i b) q ∙ id_eq_self b in
      let k : true ≡ false = sym same ∙ differ in absurd (cc))
]

pub set_in_place : (before after : Option Timers) (timers : Timers) → is_some before ≡ true
    → after ≡ option_map (λ _. timers) before → after ≡ Some timers
set_in_place None after timers some is = absurd (cc)
set_in_place (Some t) after timers some is = is

-- The timers of the only link are moved: there are no slots, then one is made for this link, and
-- its timers are set.
module _ (s : LoneTimers) (none roomy set : TimerPlaces) (id : LinkId) (timers : Timers)
    (same_id : id ≡ s.id) (same_timers : timers ≡ s.timers)
    (without : (k : LinkId) → placed none k ≡ None)
    (kept : (k : LinkId) → IsKept (placed none k) (placed roomy k))
    (room : is_some (placed roomy id) ≡ true)
    (own : placed set id ≡ option_map (λ _. timers) (placed roomy id))
    (others : (other : LinkId) → other ≢ id → placed set other ≡ placed roomy other) where
  own_moved : placed set s.id ≡ Some s.timers
  own_moved = subst (λ (k : LinkId). placed set k ≡ Some s.timers) same_id
      (set_in_place (placed roomy id) (placed set id) timers room own
      ∙ ap (λ (t : Timers). Some t) same_timers)

  other_rests : (k : LinkId) → k ≢ s.id → IfSome (placed set k) AreStopped
  other_rests k differ =
      let rest = subst (λ (t : Option Timers). IsKept t (placed roomy k)) (without k) (kept k) in
      subst (λ (t : Option Timers). IfSome t AreStopped)
      (sym (others k (λ q. differ (q ∙ same_id)))) rest

  pub moved : (k : LinkId) → IsKept (alone s k) (placed set k)
  moved k = elim (id_cases k s.id) [
    | inl same ↦ subst (λ (i : LinkId). IsKept (alone s i) (placed set i)) (sym same)
        (subst (λ (t : Option Timers). IsKept t (placed set s.id)) (sym (own_alone s)) own_moved)
    | inr differ ↦ subst (λ (t : Option Timers). IsKept t (placed set k))
        (sym (none_beside s k differ)) (other_rests k differ)
  ]

-- ---- Links that can have timers.

-- management has no timers of a link
pub none_of_management : (s : LinkTimers) (tei : ℕ)
    → timers_of s (of_sapi Management tei) ≡ None
unfolding timers_of placed
none_of_management Empty tei = refl
none_of_management (One s) tei = none_beside s (of_sapi Management tei) (λ q.
    let k : false ≡ true = ap (λ (id : LinkId). has_links id.sapi) q ∙ s.slot.sapi in absurd (cc))
none_of_management (Many s) tei = refl

pub slot_of : (id : LinkId) → id.sapi ≢ Management → id.tei < 127 → HasSlot id
slot_of id served low = record { sapi = by id.sapi served; tei = low }
  where
    by : (sapi : Sapi) → sapi ≢ Management → has_links sapi ≡ true
    by Call served = refl
    by Packet served = refl
    by Management served = absurd (served refl)
