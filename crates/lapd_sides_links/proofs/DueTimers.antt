-- The running timers of links, their entries in the tournament, and the timer that is due.
use Rattle.std.proofs.Common.{◌≡◌, ◌≢◌, ℕ, ◌+◌, ◌<◌, ◌≤◌, List, map, Option, Some, None, option_map, inl, inr, refl, sym, ap, subst, ◌∙◌, arith, ◌⊎◌}
use Rattle.std.specs.Prelude.{slice_get, IfSome}
use Rattle.std.proofs.lemmas.Bool.{cases_lt, cases_eq}
use Rattle.std.proofs.lemmas.Option.{slice_get-map, slice_get_within, same_Some}
use Rattle.lapd_timers.specs.declared.timer.Timer.{Timer}
use Rattle.lapd_timers.specs.declared.timer.Timer.TheVariants.{T200, T201, T202, T203}
use Rattle.lapd_timers.specs.Durations.{Lengths}
use Rattle.lapd_timers.specs.Due.{Timers, deadline_of, all_stopped, with_durations}
use Rattle.lapd_timers.specs.Due as due
use Rattle.lapd_timers.specs.Moments.{earlier}
use Rattle.lapd_frame.specs.declared.Sapi.{Sapi}
use Rattle.lapd_frame.specs.declared.Sapi.TheVariants.{Call, Packet, Management}
use Rattle.lapd_table.specs.declared.link_id.LinkId.{LinkId}
use Rattle.lapd_sides_links.specs.declared.running_timer.RunningTimer.{RunningTimer}
use Rattle.lapd_sides_links.specs.declared.timer_places.TimerPlaces.{TimerPlaces}
use Rattle.lapd_sides_links.specs.Links.{Served, IsOfLink, of_sapi}
use Rattle.lapd_sides_links.specs.Expiries.{IsTimerOf, Runs, IsPast, IsNoLaterLink, IsNoLater, IsFirst, IsDue, IsNextDeadline, of_management, of_links, of_served}
use Rattle.lapd_sides_links.specs.Places.{AreStopped, IsKept, RunsFor, IsSooner, expiry_at, own_expiry_at}
use Rattle.lapd_sides_links.specs.TimersAtPlaces.{placed, timers_among, of_places, entry_place, RunsAt, AreEntered, RunsForPlaced}
use Rattle.lapd_sides_links.specs.Tournament.{entry, IsEntered}
use Rattle.lapd_sides_links.proofs.Order.{link_no_later_self, no_later_chained, earlier_deadline, joined, same_first, sooner_of, deadline, sooner_deadline}
use Rattle.lapd_sides_links.proofs.Tournaments.{IsBehind}

-- ---- The first of the two timers of a link.

-- the expiries of one timer of a link
record RunsAsOf (id : LinkId) (timers : Timers) (timer : Timer) (e : RunningTimer) : Type 0 where
  is_of : e.of ≡ Some id
  is_timer : e.timer ≡ timer
  until : deadline_of timer timers ≡ Some e.deadline

first_of_timer : (id : LinkId) (timers : Timers) (timer : Timer) (deadline : Option ℕ)
    → deadline_of timer timers ≡ deadline
    → IsFirst (RunsAsOf id timers timer) (option_map (expiry_at id timer) deadline)
first_of_timer id timers timer None is =
    λ e x. let k : None ≡ Some e.deadline = sym is ∙ x.until in absurd (cc)
first_of_timer id timers timer (Some deadline) is = (
  record { is_of = refl; is_timer = refl; until = is },
  λ other x.
      let k : Some deadline ≡ Some other.deadline = sym is ∙ x.until in
      let same : deadline ≡ other.deadline = cc in
      inr (
        same,
        inr (
          ap due.place (sym x.is_timer),
          subst (IsNoLaterLink (Some id)) (sym x.is_of) (link_no_later_self (Some id)),
        ),
      ),
)

t200_or_t203 : (id : LinkId) (timers : Timers) (timer : Timer) (e : RunningTimer) → e.timer ≡ timer
    → RunsFor id timers e → RunsAsOf id timers T200 e ⊎ RunsAsOf id timers T203 e
t200_or_t203 id timers T200 e is x =
    inl (record {
      is_of = x.is_of;
      is_timer = is;
      until = subst (λ (t : Timer). deadline_of t timers ≡ Some e.deadline) is x.until;
    })
t200_or_t203 id timers T201 e is x = absurd (subst IsOfLink is x.own)
t200_or_t203 id timers T202 e is x = absurd (subst IsOfLink is x.own)
t200_or_t203 id timers T203 e is x =
    inr (record {
      is_of = x.is_of;
      is_timer = is;
      until = subst (λ (t : Timer). deadline_of t timers ≡ Some e.deadline) is x.until;
    })

runs_as_of : (id : LinkId) (timers : Timers) (timer : Timer) (e : RunningTimer) → IsOfLink timer
    → RunsAsOf id timers timer e → RunsFor id timers e
runs_as_of id timers timer e own x = record {
  is_of = x.is_of;
  own = subst IsOfLink (sym x.is_timer) own;
  until = subst (λ (t : Timer). deadline_of t timers ≡ Some e.deadline) (sym x.is_timer) x.until;
}

pub first_of_both : (id : LinkId) (timers : Timers) (a b first : Option RunningTimer)
    → a ≡ option_map (expiry_at id T200) timers.t200
    → b ≡ option_map (expiry_at id T203) timers.t203 → IsSooner a b first
    → IsFirst (RunsFor id timers) first
first_of_both id timers a b first one other is =
    joined (RunsAsOf id timers T200) (RunsAsOf id timers T203) (RunsFor id timers) a b first
    (λ e x. t200_or_t203 id timers e.timer e refl x) (λ e x. runs_as_of id timers T200 e tt x)
    (λ e x. runs_as_of id timers T203 e tt x)
    (subst (IsFirst (RunsAsOf id timers T200)) (sym one)
    (first_of_timer id timers T200 timers.t200 refl))
    (subst (IsFirst (RunsAsOf id timers T203)) (sym other)
    (first_of_timer id timers T203 timers.t203 refl)) is

-- ---- Timers at rest.

-- ---- In each slot of the tournament.

abbrev entry_place_of : LinkId → Option ℕ
entry_place_of id = entry_place id.sapi id.tei

-- the timers of a link run in its slot
record RunsAtItsPlace (s : TimerPlaces) (e : RunningTimer) : Type 0 where
  at : ℕ
  there : RunsAt s at e

runs_at_its_place : (s : TimerPlaces) (sapi : Sapi) (tei : ℕ) (e : RunningTimer)
    → e.of ≡ Some (of_sapi sapi tei) → Runs (of_places s) e → RunsAtItsPlace s e
unfolding placed
runs_at_its_place s Call tei e is x = record {
  at = tei;
  there = record { id = of_sapi Call tei; is_of = is; represented = refl; runs = x };
}
runs_at_its_place s Packet tei e is x = record {
  at = 128 + tei;
  there = record { id = of_sapi Packet tei; is_of = is; represented = refl; runs = x };
}
runs_at_its_place s Management tei e is x =
    let there : None ≡ Some x.its = sym (ap (of_places s) is) ∙ x.there in absurd (cc)

represented : (s : TimerPlaces) (of : Option LinkId) (e : RunningTimer) → e.of ≡ of
    → Runs (of_places s) e → RunsAtItsPlace s e
represented s None e is x =
    let there : None ≡ Some x.its = sym (ap (of_places s) is) ∙ x.there in absurd (cc)
represented s (Some id) e is x = runs_at_its_place s id.sapi id.tei e is x

entry_behind : (A : RunningTimer → Type 0) (found : Option RunningTimer) (e : RunningTimer)
    → IsFirst A found → A e → IsBehind found e
entry_behind A None e h x = absurd (h e x)
entry_behind A (Some f) e h x = record { first = f; there = refl; low = h.1 e x }

behind_entered : (s : TimerPlaces) (entries : List (Option RunningTimer)) (e : RunningTimer)
    (x : RunsAtItsPlace s e) → AreEntered s entries → IsBehind (entry entries x.at) e
behind_entered s entries e x h =
    entry_behind (RunsAt s x.at) (entry entries x.at) e (h x.at) x.there

-- the first of all entries is the first of all running timers
pub first_of_entries : (s : TimerPlaces) (entries : List (Option RunningTimer))
    (first : Option RunningTimer) → AreEntered s entries → IsFirst (IsEntered entries) first
    → IsFirst (Runs (of_places s)) first
first_of_entries s entries None h k = λ e x.
    let place = represented s e.of e refl x in
    let behind = behind_entered s entries e place h in
    k behind.first (record { at = place.at; there = behind.there })
first_of_entries s entries (Some a) h k = (
  (subst (IsFirst (RunsAt s k.0.at)) k.0.there (h k.0.at)).0.runs,
  λ e x.
      let place = represented s e.of e refl x in
      let behind = behind_entered s entries e place h in
      no_later_chained a behind.first e
      (k.1 behind.first (record { at = place.at; there = behind.there })) behind.low,
)

-- ---- The slots of a side when one of them changes.

within_at : (s : TimerPlaces) (sapi : Sapi) (tei : ℕ) (timers : Timers)
    → placed s (of_sapi sapi tei) ≡ Some timers → tei < 127
unfolding placed
within_at s Call tei timers is =
    omega (arith, slice_get_within s.call.items tei timers is, s.room.call_places)
within_at s Packet tei timers is =
    omega (arith, slice_get_within s.packet.items tei timers is, s.room.packet_places)
within_at s Management tei timers is = absurd (cc)

same_link_at : (a b : Sapi) (m n at : ℕ) → entry_place a m ≡ Some at → entry_place b n ≡ Some at
    → m < 127 → n ≤ 127 → of_sapi a m ≡ of_sapi b n
same_link_at Call Call m n at p q low high =
    ap (of_sapi Call) (same_Some m at p ∙ sym (same_Some n at q))
same_link_at Packet Packet m n at p q low high =
    ap (of_sapi Packet) (omega (arith, same_Some (128 + m) at p, same_Some (128 + n) at q))
same_link_at Call Packet m n at p q low high =
    absurd (omega (arith, same_Some m at p, same_Some (128 + n) at q, low))
same_link_at Packet Call m n at p q low high =
    absurd (omega (arith, same_Some (128 + m) at p, same_Some n at q, high))
same_link_at Management b m n at p q low high = absurd (cc)
same_link_at Call Management m n at p q low high = absurd (cc)
same_link_at Packet Management m n at p q low high = absurd (cc)

runs_there : (s : TimerPlaces) (id : LinkId) (at : ℕ) (found : Option Timers) (e : RunningTimer)
    → placed s id ≡ found → entry_place_of id ≡ Some at → RunsForPlaced id found e → RunsAt s at e
runs_there s id at None e is represented h = absurd h
runs_there s id at (Some timers) e is represented h = record {
  id = id;
  is_of = h.is_of;
  represented = represented;
  runs = record {
    its = timers;
    there = ap (of_places s) h.is_of ∙ is;
    own = subst (λ (of : Option LinkId). IsTimerOf of e.timer) (sym h.is_of) h.own;
    until = h.until;
  };
}

placed_there : (s : TimerPlaces) (at : ℕ) (e : RunningTimer) → (x : RunsAt s at e)
    → placed s x.id ≡ Some x.runs.its
placed_there s at e x = sym (ap (of_places s) x.is_of) ∙ x.runs.there

runs_back : (s : TimerPlaces) (id : LinkId) (at : ℕ) (e : RunningTimer) → id.tei ≤ 127
    → entry_place_of id ≡ Some at → RunsAt s at e → RunsForPlaced id (placed s id) e
runs_back s id at e tei represented x =
    let there = placed_there s at e x in
    let same : x.id ≡ id =
    same_link_at x.id.sapi id.sapi x.id.tei id.tei at x.represented represented
    (within_at s x.id.sapi x.id.tei x.runs.its there) tei in
    let runs : RunsFor x.id x.runs.its e =
    record {
      is_of = x.is_of;
      own = subst (λ (of : Option LinkId). IsTimerOf of e.timer) x.is_of x.runs.own;
      until = x.runs.until;
    } in
    subst (λ (k : LinkId). RunsForPlaced k (placed s k) e) same
    (subst (λ (o : Option Timers). RunsForPlaced x.id o e) (sym there) runs)

runs_over_places : (a b : TimerPlaces) (at : ℕ) (e : RunningTimer) → (x : RunsAt a at e)
    → placed b x.id ≡ placed a x.id → RunsAt b at e
runs_over_places a b at e x same = record {
  id = x.id;
  is_of = x.is_of;
  represented = x.represented;
  runs = record {
    its = x.runs.its;
    there = ap (of_places b) x.is_of ∙ (same ∙ placed_there a at e x);
    own = x.runs.own;
    until = x.runs.until;
  };
}

is_or_not : (o : Option ℕ) (at : ℕ) → (o ≡ Some at) ⊎ (o ≢ Some at)
is_or_not None at = inr (λ q. absurd (cc))
is_or_not (Some n) at = elim (cases_eq n at) [
  | inl same ↦ inl (ap (λ (m : ℕ). Some m) same)
  | inr differ ↦ inr (λ q. differ (same_Some n at q))
]

elsewhere : (s : TimerPlaces) (id : LinkId) (at : ℕ) (e : RunningTimer) → (x : RunsAt s at e)
    → entry_place_of id ≢ Some at → x.id ≢ id
elsewhere s id at e x other =
    λ same. other (sym (ap (λ (k : LinkId). entry_place k.sapi k.tei) same) ∙ x.represented)

pub entered_anew : (old new : TimerPlaces) (before after : List (Option RunningTimer)) (id : LinkId)
    (found : Option Timers) → found ≡ placed new id → id.tei ≤ 127
    → ((at : ℕ) → entry_place id.sapi id.tei ≡ Some at
    → IsFirst (RunsForPlaced id found) (entry after at))
    → ((at : ℕ) → entry_place id.sapi id.tei ≢ Some at → entry after at ≡ entry before at)
    → ((k : LinkId) → k ≢ id → placed new k ≡ placed old k) → AreEntered old before
    → AreEntered new after
entered_anew old new before after id found is tei own others places h =
    λ at. elim (is_or_not (entry_place id.sapi id.tei) at) [
      | inl represented ↦ same_first (RunsForPlaced id found) (RunsAt new at) (entry after at)
          (λ e x. runs_there new id at found e (sym is) represented x)
          (λ e
          x. subst (λ (o : Option Timers). RunsForPlaced id o e) (sym is)
          (runs_back new id at e tei represented x)) (own at represented)
      | inr other ↦ same_first (RunsAt old at) (RunsAt new at) (entry after at)
          (λ e x. runs_over_places old new at e x (places x.id (elsewhere old id at e x other)))
          (λ e x. runs_over_places new old at e
          x (sym (places x.id (elsewhere new id at e x other))))
          (subst (IsFirst (RunsAt old at)) (sym (others at other)) (h at))
    ]

-- ---- The timers get other durations: the deadlines stay.

pub deadline_stays : (durations : Lengths) (timer : Timer) (s : Timers)
    → deadline_of timer (with_durations durations s) ≡ deadline_of timer s
deadline_stays durations T200 s = refl
deadline_stays durations T201 s = refl
deadline_stays durations T202 s = refl
deadline_stays durations T203 s = refl

abbrev HaveDurations : Lengths → TimerPlaces → TimerPlaces → Type 0
HaveDurations durations old new =
    (id : LinkId) → placed new id ≡ option_map (with_durations durations) (placed old id)

runs_with_durations : (durations : Lengths) (old new : TimerPlaces) (at : ℕ) (e : RunningTimer)
    → HaveDurations durations old new → RunsAt old at e → RunsAt new at e
runs_with_durations durations old new at e have x = record {
  id = x.id;
  is_of = x.is_of;
  represented = x.represented;
  runs = record {
    its = with_durations durations x.runs.its;
    there =
        ap (of_places new) x.is_of
        ∙ (have x.id ∙ ap (option_map (with_durations durations)) (placed_there old at e x));
    own = x.runs.own;
    until = deadline_stays durations e.timer x.runs.its ∙ x.runs.until;
  };
}

-- the timers before they got these durations
record HadBefore (durations : Lengths) (found : Option Timers) (its : Timers) : Type 0 where
  before : Timers
  found_is : found ≡ Some before
  its_is : with_durations durations before ≡ its

had_before : (durations : Lengths) (found : Option Timers) (its : Timers)
    → option_map (with_durations durations) found ≡ Some its → HadBefore durations found its
had_before durations None its h = absurd (cc)
had_before durations (Some timers) its h = record { before = timers; found_is = refl; its_is = cc }

ran_with_durations : (durations : Lengths) (old new : TimerPlaces) (at : ℕ) (e : RunningTimer)
    → HaveDurations durations old new → RunsAt new at e → RunsAt old at e
ran_with_durations durations old new at e have x =
    let had =
    had_before durations (placed old x.id) x.runs.its
    (sym (have x.id) ∙ placed_there new at e x) in
    record {
      id = x.id;
      is_of = x.is_of;
      represented = x.represented;
      runs = record {
        its = had.before;
        there = ap (of_places old) x.is_of ∙ had.found_is;
        own = x.runs.own;
        until =
            sym (deadline_stays durations e.timer had.before)
            ∙ (ap (deadline_of e.timer) had.its_is ∙ x.runs.until);
      };
    }

pub entered_with_durations : (durations : Lengths) (old new : TimerPlaces)
    (entries : List (Option RunningTimer))
    → ((id : LinkId) → placed new id ≡ option_map (with_durations durations) (placed old id))
    → AreEntered old entries → AreEntered new entries
entered_with_durations durations old new entries have h =
    λ at. same_first (RunsAt old at) (RunsAt new at) (entry entries at)
    (λ e x. runs_with_durations durations old new at e have x)
    (λ e x. ran_with_durations durations old new at e have x) (h at)

resting : (found : Option Timers) (its : Timers) (timer : Timer) (deadline : ℕ)
    → IfSome found AreStopped → found ≡ Some its → deadline_of timer its ≡ Some deadline → ⊥
resting None its timer deadline h is runs = absurd (cc)
resting (Some t) its timer deadline h is runs =
    let same : t ≡ its = cc in
    let k : None ≡ Some deadline = sym (subst AreStopped same h timer) ∙ runs in absurd (cc)

-- there are no slots, and none is entered
pub none_entered_yet : (s : TimerPlaces) (entries : List (Option RunningTimer))
    → ((id : LinkId) → placed s id ≡ None) → ((at : ℕ) → entry entries at ≡ None)
    → AreEntered s entries
none_entered_yet s entries without none = λ at.
    subst (IsFirst (RunsAt s at)) (sym (none at)) (λ e x.
    let there : None ≡ Some x.runs.its = sym (without x.id) ∙ placed_there s at e x in absurd (cc))

-- ---- Slots are made.

-- a timer that runs ran before
ran_before : (before after : Option Timers) (its : Timers) (timer : Timer) (deadline : ℕ)
    → IsKept before after → after ≡ Some its → deadline_of timer its ≡ Some deadline
    → before ≡ Some its
ran_before None after its timer deadline kept is runs =
    absurd (resting after its timer deadline kept is runs)
ran_before (Some timers) after its timer deadline kept is runs = sym kept ∙ is

runs_still : (before after : Option Timers) (its : Timers) → IsKept before after
    → before ≡ Some its → after ≡ Some its
runs_still None after its kept is = absurd (cc)
runs_still (Some timers) after its kept is = kept ∙ is

module _ (old new : TimerPlaces)
    (kept : (id : LinkId) → IsKept (placed old id) (placed new id)) where
  kept_runs : (at : ℕ) (e : RunningTimer) → RunsAt old at e → RunsAt new at e
  kept_runs at e x =
      let there = placed_there old at e x in
      let still = runs_still (placed old x.id) (placed new x.id) x.runs.its (kept x.id) there in
      runs_over_places old new at e x (still ∙ sym there)

  kept_ran : (at : ℕ) (e : RunningTimer) → RunsAt new at e → RunsAt old at e
  kept_ran at e x =
      let there = placed_there new at e x in
      let before = ran_before (placed old x.id) (placed new x.id) x.runs.its e.timer e.deadline
      (kept x.id) there x.runs.until in
      runs_over_places new old at e x (before ∙ sym there)

  pub entered_still : (entries : List (Option RunningTimer)) → AreEntered old entries
      → AreEntered new entries
  entered_still entries h = λ at. same_first (RunsAt old at) (RunsAt new at) (entry entries at)
      (λ e x. kept_runs at e x) (λ e x. kept_ran at e x) (h at)

-- ---- The running timer that is due.

pub none_runs : (now : ℕ) (timers : Option LinkId → Option Timers) → IsFirst (Runs timers) None
    → IsFirst (IsPast now timers) None
none_runs now timers h = λ e x. h e x.runs

pub first_is_past : (now : ℕ) (timers : Option LinkId → Option Timers) (a : RunningTimer)
    → IsFirst (Runs timers) (Some a) → a.deadline ≤ now → IsFirst (IsPast now timers) (Some a)
first_is_past now timers a h past = (record { runs = h.0; is_past = past }, λ e x. h.1 e x.runs)

pub first_is_later : (now : ℕ) (timers : Option LinkId → Option Timers) (a : RunningTimer)
    → IsFirst (Runs timers) (Some a) → now < a.deadline → IsFirst (IsPast now timers) None
first_is_later now timers a h later =
    λ e x. omega (arith, x.is_past, later, earlier_deadline a e (h.1 e x.runs))

pub own_timer : (now : ℕ) (timers : Option LinkId → Option Timers) (first : Option RunningTimer)
    → IsFirst (IsPast now timers) first → IfSome first (λ e. IsTimerOf e.of e.timer)
own_timer now timers None h = tt
own_timer now timers (Some e) h = h.0.runs.own

pub sooner_own : (P : RunningTimer → Type 0) (a b c : Option RunningTimer) → IfSome a P → IfSome b P
    → IsSooner a b c → IfSome c P
sooner_own P None b c h k is = subst (λ x. IfSome x P) (sym is) k
sooner_own P (Some a) None c h k is = subst (λ x. IfSome x P) (sym is) h
sooner_own P (Some a) (Some b) c h k (inl is) = subst (λ x. IfSome x P) (sym is.0) h
sooner_own P (Some a) (Some b) c h k (inr is) = subst (λ x. IfSome x P) (sym is.0) k

-- ---- TEI management and the links.

runs_over : (A B : Option LinkId → Option Timers) (e : RunningTimer)
    → ((its : Timers) → A e.of ≡ Some its → deadline_of e.timer its ≡ Some e.deadline
    → B e.of ≡ Some its) → Runs A e → Runs B e
runs_over A B e there h =
    record { its = h.its; there = there h.its h.there h.until; own = h.own; until = h.until }

past_over : (now : ℕ) (A B : Option LinkId → Option Timers) (e : RunningTimer)
    → ((its : Timers) → A e.of ≡ Some its → deadline_of e.timer its ≡ Some e.deadline
    → B e.of ≡ Some its) → IsPast now A e → IsPast now B e
past_over now A B e there h = record { runs = runs_over A B e there h.runs; is_past = h.is_past }

-- the same timers run, link by link
pub same_runs : (A B : Option LinkId → Option Timers) (first : Option RunningTimer)
    → ((of : Option LinkId) (its : Timers) (timer : Timer) (deadline : ℕ) → A of ≡ Some its
    → deadline_of timer its ≡ Some deadline → B of ≡ Some its)
    → ((of : Option LinkId) (its : Timers) (timer : Timer) (deadline : ℕ) → B of ≡ Some its
    → deadline_of timer its ≡ Some deadline → A of ≡ Some its)
    → IsFirst (Runs A) first → IsFirst (Runs B) first
same_runs A B first there back h = same_first (Runs A) (Runs B) first
    (λ e x. runs_over A B e (λ its is until. there e.of its e.timer e.deadline is until) x)
    (λ e x. runs_over B A e (λ its is until. back e.of its e.timer e.deadline is until) x) h

-- the same timers run, link by link
pub same_past : (now : ℕ) (A B : Option LinkId → Option Timers) (first : Option RunningTimer)
    → ((of : Option LinkId) (its : Timers) (timer : Timer) (deadline : ℕ) → A of ≡ Some its
    → deadline_of timer its ≡ Some deadline → B of ≡ Some its)
    → ((of : Option LinkId) (its : Timers) (timer : Timer) (deadline : ℕ) → B of ≡ Some its
    → deadline_of timer its ≡ Some deadline → A of ≡ Some its)
    → IsFirst (IsPast now A) first → IsFirst (IsPast now B) first
same_past now A B first there back h = same_first (IsPast now A) (IsPast now B) first
    (λ e x. past_over now A B e (λ its is until. there e.of its e.timer e.deadline is until) x)
    (λ e x. past_over now B A e (λ its is until. back e.of its e.timer e.deadline is until) x) h

served_at : (now : ℕ) (s : Served) (of : Option LinkId) (e : RunningTimer) → e.of ≡ of
    → IsPast now (of_served s) e
    → IsPast now (of_management s.timers) e ⊎ IsPast now (of_links s.links) e
served_at now s None e is h =
    inl (past_over now _ _ e
    (λ its there until. ap (of_management s.timers) is ∙ (sym (ap (of_served s) is) ∙ there)) h)
served_at now s (Some id) e is h =
    inr (past_over now _ _ e
    (λ its there until. ap (of_links s.links) is ∙ (sym (ap (of_served s) is) ∙ there)) h)

from_management : (s : Served) (of : Option LinkId) (its : Timers)
    → of_management s.timers of ≡ Some its → of_served s of ≡ Some its
from_management s None its is = is
from_management s (Some id) its is = absurd (cc)

from_links : (s : Served) (of : Option LinkId) (its : Timers) → of_links s.links of ≡ Some its
    → of_served s of ≡ Some its
from_links s None its is = absurd (cc)
from_links s (Some id) its is = is

pub first_of_served : (now : ℕ) (s : Served) (own link first : Option RunningTimer)
    → IsFirst (IsPast now (of_management s.timers)) own
    → IsFirst (IsPast now (of_links s.links)) link → IsSooner own link first → IsDue now s first
first_of_served now s own link first h k sooner =
    joined _ _ (IsPast now (of_served s)) own link first (λ e x. served_at now s e.of e refl x)
    (λ e x. past_over now _ _ e (λ its is until. from_management s e.of its is) x)
    (λ e x. past_over now _ _ e (λ its is until. from_links s e.of its is) x) h k sooner

served_runs : (s : Served) (of : Option LinkId) (e : RunningTimer) → e.of ≡ of
    → Runs (of_served s) e → Runs (of_management s.timers) e ⊎ Runs (of_links s.links) e
served_runs s None e is h =
    inl (runs_over _ _ e
    (λ its there until. ap (of_management s.timers) is ∙ (sym (ap (of_served s) is) ∙ there)) h)
served_runs s (Some id) e is h =
    inr (runs_over _ _ e
    (λ its there until. ap (of_links s.links) is ∙ (sym (ap (of_served s) is) ∙ there)) h)

first_that_runs : (s : Served) (own link first : Option RunningTimer)
    → IsFirst (Runs (of_management s.timers)) own → IsFirst (Runs (of_links s.links)) link
    → IsSooner own link first → IsFirst (Runs (of_served s)) first
first_that_runs s own link first h k sooner =
    joined _ _ (Runs (of_served s)) own link first (λ e x. served_runs s e.of e refl x)
    (λ e x. runs_over _ _ e (λ its is until. from_management s e.of its is) x)
    (λ e x. runs_over _ _ e (λ its is until. from_links s e.of its is) x) h k sooner

-- the deadline of the first running timer is the next moment at which one is due
deadline_of_first : (s : Served) (first : Option RunningTimer) → IsFirst (Runs (of_served s)) first
    → IsNextDeadline s (option_map (λ (e : RunningTimer). e.deadline) first)
deadline_of_first s None h = λ now e x. h e x.runs
deadline_of_first s (Some a) h = record {
  before = λ now early e x. omega (arith, x.is_past, earlier_deadline a e (h.1 e x.runs));
  expiry = a;
  due = (record { runs = h.0; is_past = omega arith }, λ e x. h.1 e x.runs);
}

-- ---- TEI management only.

-- one of these timers runs
record RunsAs (timers : Timers) (timer : Timer) (e : RunningTimer) : Type 0 where
  is_of : e.of ≡ None
  is_timer : e.timer ≡ timer
  until : deadline_of timer timers ≡ Some e.deadline

first_of_one : (timers : Timers) (timer : Timer) (deadline : Option ℕ)
    → deadline_of timer timers ≡ deadline
    → IsFirst (RunsAs timers timer) (option_map (own_expiry_at timer) deadline)
first_of_one timers timer None is =
    λ e x. let k : None ≡ Some e.deadline = sym is ∙ x.until in absurd (cc)
first_of_one timers timer (Some deadline) is = (
  record { is_of = refl; is_timer = refl; until = is },
  λ other x.
      let k : Some deadline ≡ Some other.deadline = sym is ∙ x.until in
      let same : deadline ≡ other.deadline = cc in
      inr (same, inr (ap due.place (sym x.is_timer), tt)),
)

-- one of the two
abbrev RunsAsEither : Timers → Timer → Timer → RunningTimer → Type 0
RunsAsEither timers one other e = RunsAs timers one e ⊎ RunsAs timers other e

first_of_two : (timers : Timers) (one other : Timer) (a b c : Option RunningTimer)
    → a ≡ option_map (own_expiry_at one) (deadline_of one timers)
    → b ≡ option_map (own_expiry_at other) (deadline_of other timers) → IsSooner a b c
    → IsFirst (RunsAsEither timers one other) c
first_of_two timers one other a b c first second sooner =
    joined (RunsAs timers one) (RunsAs timers other) (RunsAsEither timers one other) a b c
    (λ e x. x) (λ e x. inl x) (λ e x. inr x)
    (subst (IsFirst (RunsAs timers one)) (sym first)
    (first_of_one timers one (deadline_of one timers) refl))
    (subst (IsFirst (RunsAs timers other)) (sym second)
    (first_of_one timers other (deadline_of other timers) refl)) sooner

runs_as : (timers : Timers) (timer : Timer) (e : RunningTimer) → RunsAs timers timer e
    → Runs (of_management timers) e
runs_as timers timer e x = record {
  its = timers;
  there = ap (of_management timers) x.is_of;
  own = subst (λ (of : Option LinkId). IsTimerOf of e.timer) (sym x.is_of) tt;
  until = subst (λ (t : Timer). deadline_of t timers ≡ Some e.deadline) (sym x.is_timer) x.until;
}

runs_as_either : (timers : Timers) (one other : Timer) (e : RunningTimer)
    → RunsAsEither timers one other e → Runs (of_management timers) e
runs_as_either timers one other e (inl x) = runs_as timers one e x
runs_as_either timers one other e (inr x) = runs_as timers other e x

one_of_four : (timers : Timers) (timer : Timer) (e : RunningTimer) → e.timer ≡ timer → e.of ≡ None
    → deadline_of timer timers ≡ Some e.deadline
    → RunsAsEither timers T200 T201 e ⊎ RunsAsEither timers T202 T203 e
one_of_four timers T200 e is of until =
    inl (inl (record { is_of = of; is_timer = is; until = until }))
one_of_four timers T201 e is of until =
    inl (inr (record { is_of = of; is_timer = is; until = until }))
one_of_four timers T202 e is of until =
    inr (inl (record { is_of = of; is_timer = is; until = until }))
one_of_four timers T203 e is of until =
    inr (inr (record { is_of = of; is_timer = is; until = until }))

runs_one_of_four : (timers : Timers) (of : Option LinkId) (e : RunningTimer) → e.of ≡ of
    → Runs (of_management timers) e
    → RunsAsEither timers T200 T201 e ⊎ RunsAsEither timers T202 T203 e
runs_one_of_four timers None e is h =
    let there : Some timers ≡ Some h.its = sym (ap (of_management timers) is) ∙ h.there in
    let same : h.its ≡ timers = cc in
    one_of_four timers e.timer e refl is
    (subst (λ (t : Timers). deadline_of e.timer t ≡ Some e.deadline) same h.until)
runs_one_of_four timers (Some id) e is h =
    let there : None ≡ Some h.its = sym (ap (of_management timers) is) ∙ h.there in absurd (cc)

first_of_own : (timers : Timers) (t200 t201 t202 t203 early late first : Option RunningTimer)
    → t200 ≡ option_map (own_expiry_at T200) timers.t200
    → t201 ≡ option_map (own_expiry_at T201) timers.t201
    → t202 ≡ option_map (own_expiry_at T202) timers.t202
    → t203 ≡ option_map (own_expiry_at T203) timers.t203
    → IsSooner t200 t201 early → IsSooner t202 t203 late → IsSooner early late first
    → IsFirst (Runs (of_management timers)) first
first_of_own timers t200 t201 t202 t203 early late first a b c d one other both =
    joined (RunsAsEither timers T200 T201) (RunsAsEither timers T202 T203)
    (Runs (of_management timers)) early late first
    (λ e x. runs_one_of_four timers e.of e refl x) (runs_as_either timers T200 T201)
    (runs_as_either timers T202 T203)
    (first_of_two timers T200 T201 t200 t201 early a b one)
    (first_of_two timers T202 T203 t202 t203 late c d other) both

own_deadline : (timer : Timer) (at : Option ℕ) → deadline (option_map (own_expiry_at timer) at) ≡ at
own_deadline timer None = refl
own_deadline timer (Some at) = refl

record FirstOfOwn (timers : Timers) : Type 0 where
  first : Option RunningTimer
  is_first : IsFirst (Runs (of_management timers)) first
  is_least : deadline first
      ≡ earlier (earlier timers.t200 timers.t201) (earlier timers.t202 timers.t203)

least_of_own : (timers : Timers) → FirstOfOwn timers
least_of_own timers =
    let early =
    sooner_of (option_map (own_expiry_at T200) timers.t200)
    (option_map (own_expiry_at T201) timers.t201) in
    let late =
    sooner_of (option_map (own_expiry_at T202) timers.t202)
    (option_map (own_expiry_at T203) timers.t203) in
    let both = sooner_of early.first late.first in
    let one : deadline early.first ≡ earlier timers.t200 timers.t201 =
    sooner_deadline _ _ _ early.is
    ∙ ap (λ (x : Option ℕ). earlier x
    (deadline (option_map (own_expiry_at T201) timers.t201)))
    (own_deadline T200 timers.t200)
    ∙ ap (earlier timers.t200) (own_deadline T201 timers.t201) in
    let other : deadline late.first ≡ earlier timers.t202 timers.t203 =
    sooner_deadline _ _ _ late.is
    ∙ ap (λ (x : Option ℕ). earlier x
    (deadline (option_map (own_expiry_at T203) timers.t203)))
    (own_deadline T202 timers.t202)
    ∙ ap (earlier timers.t202) (own_deadline T203 timers.t203) in
    record {
      first = both.first;
      is_first =
          first_of_own timers _ _ _ _ early.first late.first both.first refl refl refl refl early.is
          late.is both.is;
      is_least =
          sooner_deadline _ _ _ both.is ∙ ap (λ (x : Option ℕ). earlier x (deadline late.first)) one
          ∙ ap (earlier (earlier timers.t200 timers.t201)) other;
    }

pub next_of_served : (s : Served) (link : Option RunningTimer) (next : Option ℕ)
    → IsFirst (Runs (of_links s.links)) link
    → next
    ≡ earlier
    (earlier (earlier s.timers.t200 s.timers.t201) (earlier s.timers.t202 s.timers.t203))
    (deadline link) → IsNextDeadline s next
next_of_served s link next h is =
    let own = least_of_own s.timers in
    let first = sooner_of own.first link in
    let same : deadline first.first ≡ next =
    sooner_deadline _ _ _ first.is
    ∙ ap (λ (x : Option ℕ). earlier x (deadline link)) own.is_least ∙ sym is in
    subst (IsNextDeadline s) same (deadline_of_first s first.first
    (first_that_runs s own.first link first.first own.is_first h first.is))

expired_at : (now : ℕ) (timers : Timers) (of : Option LinkId) (e : RunningTimer) → e.of ≡ of
    → IsPast now (of_management timers) e → deadline_of e.timer timers ≡ Some e.deadline
expired_at now timers None e is h =
    let there : Some timers ≡ Some h.runs.its = sym (ap (of_management timers) is) ∙ h.runs.there in
    let same : h.runs.its ≡ timers = cc in
    subst (λ (t : Timers). deadline_of e.timer t ≡ Some e.deadline) same h.runs.until
expired_at now timers (Some id) e is h =
    let there : None ≡ Some h.runs.its = sym (ap (of_management timers) is) ∙ h.runs.there in
    absurd (cc)

none_of_all : (now : ℕ) (timers : Timers) → due.IsLeast (due.HasExpired now timers) None
    → IsFirst (IsPast now (of_management timers)) None
none_of_all now timers h =
    λ e x. h (record { deadline = e.deadline; timer = e.timer })
    (record { runs = expired_at now timers e.of e refl x; is_past = x.is_past })

pub none_of_management : (now : ℕ) (timers : Timers) → due.IsDue now timers None
    → IsFirst (IsPast now (of_management timers)) None
none_of_management now timers h = (elim (h.least) as
    (λ o. None ≡ due.timer_of o → due.IsLeast (due.HasExpired now timers) o → IsFirst
    (IsPast now (of_management timers)) None) [
      | None ↦ λ is k. none_of_all now timers k
      | Some p ↦ λ is k. absurd (cc)
    ]) h.is_its h.is_least

no_later : (deadline : ℕ) (timer : Timer) (other : RunningTimer)
    → (deadline < other.deadline)
    ⊎ ((deadline ≡ other.deadline) × (due.place timer ≤ due.place other.timer))
    → IsNoLater (record { deadline = deadline; timer = timer; of = None }) other
no_later deadline timer other (inl less) = inl less
no_later deadline timer other (inr same) =
    elim (cases_lt (due.place timer) (due.place other.timer)) [
      | inl less ↦ inr (same.0, inl less)
      | inr late ↦ inr (same.0, inr (omega (arith, same.1), tt))
    ]

pub due_of_management : (now : ℕ) (timers : Timers) (timer : Timer) (deadline : ℕ)
    → due.IsDue now timers (Some timer) → deadline_of timer timers ≡ Some deadline
    → IsFirst (IsPast now (of_management timers))
    (Some (record { deadline = deadline; timer = timer; of = None }))
due_of_management now timers timer deadline h runs =
    (elim (h.least) as (λ o. Some timer ≡ due.timer_of o → due.IsLeast (due.HasExpired now timers) o
    → IsFirst (IsPast now (of_management timers))
    (Some (record { deadline = deadline; timer = timer; of = None }))) [
      | None ↦ λ is k. absurd (cc)
      | Some p ↦ λ is k.
          let same : timer ≡ p.timer = cc in
          let its : Some deadline ≡ Some p.deadline =
          sym runs ∙ (ap (λ (t : Timer). deadline_of t timers) same ∙ k.0.runs) in
          let when : p.deadline ≡ deadline = cc in (
            record {
              runs = record { its = timers; there = refl; own = tt; until = runs };
              is_past = omega (arith, when, k.0.is_past);
            },
            λ other x. no_later deadline timer other
                (subst (λ (d : ℕ). (d < other.deadline) ⊎
                ((d ≡ other.deadline) × (due.place timer ≤ due.place other.timer))) when
                (subst (λ (t : Timer). (p.deadline < other.deadline) ⊎
                ((p.deadline ≡ other.deadline) × (due.place t ≤ due.place other.timer)))
                (sym same)
                (k.1 (record { deadline = other.deadline; timer = other.timer })
                (record {
                  runs = expired_at now timers other.of other refl x;
                  is_past = x.is_past;
                })))),
          )
    ]) h.is_its h.is_least

-- ---- All slots get other durations.

pub among_with_durations : (durations : Lengths) (call packet new_call new_packet : List Timers)
    (sapi : Sapi) (tei : ℕ) → new_call ≡ map (with_durations durations) call
    → new_packet ≡ map (with_durations durations) packet
    → timers_among new_call new_packet sapi tei
    ≡ option_map (with_durations durations) (timers_among call packet sapi tei)
among_with_durations durations call packet new_call new_packet Call tei is_call is_packet =
    ap (λ (slots : List Timers). slice_get slots tei) is_call
    ∙ slice_get-map (with_durations durations) call tei
among_with_durations durations call packet new_call new_packet Packet tei is_call is_packet =
    ap (λ (slots : List Timers). slice_get slots tei) is_packet
    ∙ slice_get-map (with_durations durations) packet tei
among_with_durations durations call packet new_call new_packet Management tei is_call is_packet =
    refl
