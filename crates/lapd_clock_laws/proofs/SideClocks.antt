-- The deadline of a link's T200 is late enough for each command with P=1 and each answer in
-- transit: each event of a side keeps this, at both sides, if it is in time. So T200 expires only
-- when none is in transit.
use Rattle.std.proofs.Common.{◌≡◌, inl, inr, ℕ, zero, suc, ◌+◌, ◌*◌, ◌≤◌, ◌<◌, ◌&&◌, List, [], ◌∷◌, ◌++◌, Bool, true, false, if◌then◌else◌, Option, Some, refl, sym, ap, ◌∙◌, arith}
use Rattle.std.specs.Prelude.{◌||◌}
use Rattle.std.specs.List.{All, list_any, remove}
use Rattle.std.proofs.lemmas.List.Elements.{All-nil, All-cons, All-append, All-head, All-tail, All-drop, All-weaker}
use Rattle.lapd_frame.specs.declared.Side.{Side}
use Rattle.lapd_frame.specs.Reading.{frame_at}
use Rattle.lapd_table.specs.declared.link_id.LinkId.{LinkId}
use Rattle.lapd_sides_links.specs.Links.{Linked}
use Rattle.lapd_side_events.specs.SideView.{SideEvent, Take, Lose, Expire, Ask, Overhear, left}
use Rattle.lapd_two_side_laws.specs.Addressed.{is_for, is_poll_for, is_final_for, those_for, reads_as_poll, reads_as_final}
use Rattle.lapd_clock_laws.specs.Clock.{Sent, SideClock, octets_of, moment_of, still_in_transit, sent_at}
use Rattle.lapd_clock_laws.specs.InTime.{AreSent}
use Rattle.lapd_clock_laws.proofs.EachSide.{takes_poll}
use Rattle.lapd_clock_laws.proofs.LinkDeadlines.{Proceeds, t200_of}

-- ---- Lists.

all_but_one : {X : Type 0} (P : X → Type 0) (xs : List X) (at : ℕ) → All P xs → All P (remove xs at)
all_but_one P [] zero h = h
all_but_one P [] (suc at) h = h
all_but_one P (x ∷ xs) zero h = All-tail P x xs h
all_but_one P (x ∷ xs) (suc at) h =
    All-cons P x (remove xs at) (All-head P x xs h) (all_but_one P xs at (All-tail P x xs h))

pub all_still : (P : Sent → Type 0) (event : SideEvent) (line : List Sent) → All P line
    → All P (still_in_transit event line)
all_still P (Take now) line h = All-drop P 1 line h
all_still P (Lose at) line h = all_but_one P line at h
all_still P (Expire timer of now) line h = h
all_still P (Ask request now) line h = h
all_still P (Overhear octets now) line h = h

-- frames that are sent now, if the property holds of each that passes a test
all_sent_now : (P : Sent → Type 0) (test : List ℕ → Bool) (now : ℕ)
    → ((octets : List ℕ) → test octets ≡ true → P (record { octets = octets; at = now }))
    → ((octets : List ℕ) → test octets ≡ false → P (record { octets = octets; at = now }))
    → (frames : List (List ℕ)) → All P (sent_at now frames)
all_sent_now P test now some none [] = All-nil P
all_sent_now P test now some none (octets ∷ frames) =
    All-cons P (record { octets = octets; at = now }) (sent_at now frames)
    (by (test octets) refl) (all_sent_now P test now some none frames)
  where
    by : (b : Bool) → test octets ≡ b → P (record { octets = octets; at = now })
    by true is = some octets is
    by false is = none octets is

-- frames none of which passes a test
none_sent_now : (P : Sent → Type 0) (test : List ℕ → Bool) (now : ℕ)
    → ((octets : List ℕ) → test octets ≡ false → P (record { octets = octets; at = now }))
    → (frames : List (List ℕ)) → list_any test frames ≡ false → All P (sent_at now frames)
none_sent_now P test now each [] none = All-nil P
none_sent_now P test now each (octets ∷ frames) none =
    All-cons P (record { octets = octets; at = now }) (sent_at now frames)
    (each octets (first (test octets) (list_any test frames) none))
    (none_sent_now P test now each frames (second (test octets) (list_any test frames) none))
  where
    first : (a b : Bool) → (a || b) ≡ false → a ≡ false
    first false b h = refl
    first true b h = cc

    second : (a b : Bool) → (a || b) ≡ false → b ≡ false
    second false b h = h
    second true b h = cc

-- no octets pass a test, if a property that fails of those that pass holds of all
none_passes : (P : Sent → Type 0) (test : List ℕ → Bool)
    → ((sent : Sent) → P sent → test sent.octets ≡ true → ⊥) → (line : List Sent) → All P line
    → list_any test (octets_of line) ≡ false
none_passes P test fails [] h = refl
none_passes P test fails (sent ∷ line) h =
    by (test sent.octets) refl (none_passes P test fails line (All-tail P sent line h))
  where
    by : (b : Bool) → test sent.octets ≡ b → list_any test (octets_of line) ≡ false
        → (test sent.octets || list_any test (octets_of line)) ≡ false
    by true is rest = absurd (fails sent (All-head P sent line h) is)
    by false is rest = rw is rest

all_both : {X : Type 0} (P Q : X → Type 0) (xs : List X) → All P xs → All Q xs
    → All (λ x. P x × Q x) xs
all_both P Q xs h g k d lt = (h k d lt, g k d lt)

first_true : (a b : Bool) → (a && b) ≡ true → a ≡ true
first_true true b h = refl
first_true false b h = cc

pub still_left : (event : SideEvent) (line : List Sent)
    → octets_of (still_in_transit event line) ≡ left event (octets_of line)
still_left (Take now) [] = refl
still_left (Take now) (sent ∷ line) = refl
still_left (Lose at) line = removed line at
  where
    removed : (line : List Sent) (at : ℕ)
        → octets_of (remove line at) ≡ remove (octets_of line) at
    removed [] zero = refl
    removed [] (suc at) = refl
    removed (sent ∷ line) zero = refl
    removed (sent ∷ line) (suc at) = ap (λ (l : List (List ℕ)). sent.octets ∷ l) (removed line at)
still_left (Expire timer of now) line = refl
still_left (Ask request now) line = refl
still_left (Overhear octets now) line = refl

pub sent_are : (now : ℕ) (frames : List (List ℕ)) → octets_of (sent_at now frames) ≡ frames
sent_are now [] = refl
sent_are now (octets ∷ frames) = ap (λ (l : List (List ℕ)). octets ∷ l) (sent_are now frames)

-- ---- No octets of a link in transit.

first_is_other : (from : Side) (id : LinkId) (octets : List ℕ) (frames : List (List ℕ))
    → those_for from id (octets ∷ frames) ≡ [] → (is_for from id octets ≡ false)
    × (those_for from id frames ≡ [])
first_is_other from id octets frames none = by (is_for from id octets) refl none
  where
    by : (test : Bool) → is_for from id octets ≡ test
        → (if test then octets ∷ those_for from id frames else those_for from id frames) ≡ []
        → (is_for from id octets ≡ false) × (those_for from id frames ≡ [])
    by true its none = cc
    by false other none = (other, none)

pub none_of_link : (from : Side) (id : LinkId) (line : List Sent)
    → those_for from id (octets_of line) ≡ [] → AreSent from id (λ at. ⊥) line
none_of_link from id [] none = All-nil (λ (sent : Sent). is_for from id sent.octets ≡ true → ⊥)
none_of_link from id (sent ∷ line) none =
    let two = first_is_other from id sent.octets (octets_of line) none in
    All-cons (λ (sent : Sent). is_for from id sent.octets ≡ true → ⊥) sent line
    (λ its. (let no : false ≡ true = sym two.0 ∙ its in cc)) (none_of_link from id line two.1)

pub any_moment : (from : Side) (id : LinkId) (P : ℕ → Type 0) (line : List Sent)
    → AreSent from id (λ at. ⊥) line → AreSent from id P line
any_moment from id P line none = All-weaker
    (λ (sent : Sent). is_for from id sent.octets ≡ true → ⊥)
    (λ (sent : Sent). is_for from id sent.octets ≡ true → P sent.at)
    (λ sent impossible its. absurd (impossible its)) line none

-- ---- One link, at a side and at the other.

module _ (longest : ℕ) (side other : Side) (id : LinkId) where
  -- a command with P=1 from this side was sent this long before the deadline
  abbrev IsEarlyPoll : ℕ → Sent → Type 0
  IsEarlyPoll deadline sent = is_poll_for side id sent.octets ≡ true
      → sent.at + 2 * longest ≤ deadline

  -- a response with F=1 to this side was sent this long before it
  abbrev IsEarlyAnswer : ℕ → Sent → Type 0
  IsEarlyAnswer deadline sent = is_final_for other id sent.octets ≡ true
      → sent.at + longest ≤ deadline

  pub record IsAwaited (link : Option Linked) (outgoing incoming : List Sent) : Type 0 where
    pub polled : (deadline : ℕ) → t200_of link ≡ Some deadline → All (IsEarlyPoll deadline) outgoing
    pub answered : (deadline : ℕ) → t200_of link ≡ Some deadline
        → All (IsEarlyAnswer deadline) incoming

  -- no octets of the link are in transit
  pub nothing_awaited : (link : Option Linked) (outgoing incoming : List Sent)
      → AreSent side id (λ at. ⊥) outgoing → AreSent other id (λ at. ⊥) incoming
      → IsAwaited link outgoing incoming
  nothing_awaited link outgoing incoming out into = record {
    polled = λ deadline is. All-weaker (λ (sent : Sent). is_for side id sent.octets ≡ true → ⊥)
        (IsEarlyPoll deadline) (λ sent none polls. absurd (none
        (first_true (is_for side id sent.octets) (reads_as_poll (frame_at side sent.octets))
        polls))) outgoing out;
    answered = λ deadline is. All-weaker (λ (sent : Sent). is_for other id sent.octets ≡ true → ⊥)
        (IsEarlyAnswer deadline) (λ sent none answers. absurd (none
        (first_true (is_for other id sent.octets) (reads_as_final (frame_at other sent.octets))
        answers))) incoming into;
  }

  -- octets of the link that were sent by now, if T200 was started now
  sent_before : (from : Side) (now deadline : ℕ) (line : List Sent)
      → (test : List ℕ → Bool) → ((octets : List ℕ) → test octets ≡ true
      → is_for from id octets ≡ true) → AreSent from id (λ at. at ≤ now) line
      → now + 2 * longest ≤ deadline
      → All (λ (sent : Sent). test sent.octets ≡ true → sent.at + 2 * longest ≤ deadline) line
  sent_before from now deadline line test its past late =
      All-weaker (λ (sent : Sent). is_for from id sent.octets ≡ true → sent.at ≤ now)
      (λ (sent : Sent). test sent.octets ≡ true → sent.at + 2 * longest ≤ deadline)
      (λ sent before passes. (let by_now = before (its sent.octets passes) in
      omega (arith, by_now, late))) line past

  is_its_poll : (octets : List ℕ) → is_poll_for side id octets ≡ true
      → is_for side id octets ≡ true
  is_its_poll octets = first_true (is_for side id octets) (reads_as_poll (frame_at side octets))

  is_its_answer : (octets : List ℕ) → is_final_for other id octets ≡ true
      → is_for other id octets ≡ true
  is_its_answer octets =
      first_true (is_for other id octets) (reads_as_final (frame_at other octets))

  half_enough : (at deadline : ℕ) → at + 2 * longest ≤ deadline → at + longest ≤ deadline
  half_enough at deadline h = omega (arith, h)

  -- an event of this side
  pub own_event : (event : SideEvent) (k : SideClock) (before after : Option Linked)
      (frames : List (List ℕ)) (polled : Bool) → k.now ≤ moment_of event k.now
      → AreSent side id (λ at. at ≤ k.now) k.outgoing
      → AreSent other id (λ at. at ≤ k.now) k.incoming
      → Proceeds (2 * longest) (moment_of event k.now) side id polled before after frames
      → IsAwaited before k.outgoing k.incoming
      → IsAwaited after (k.outgoing ++ sent_at (moment_of event k.now) frames)
      (still_in_transit event k.incoming)
  own_event event k before after frames polled in_order out into proceeds h =
      let now = moment_of event k.now in
      let by_now : (from : Side) (line : List Sent) → AreSent from id (λ at. at ≤ k.now) line
      → AreSent from id (λ at. at ≤ now) line =
      λ from line past. All-weaker
      (λ (sent : Sent). is_for from id sent.octets ≡ true → sent.at ≤ k.now)
      (λ (sent : Sent). is_for from id sent.octets ≡ true → sent.at ≤ now)
      (λ sent before its. (let earlier = before its in omega (arith, earlier, in_order))) line
      past in
      record {
        polled = λ deadline is. All-append (IsEarlyPoll deadline) k.outgoing (sent_at now frames)
            (elim (proceeds.deadline deadline is) [
              | inl late ↦ sent_before side now deadline k.outgoing (is_poll_for side id)
                  is_its_poll (by_now side k.outgoing out) late
              | inr same ↦ h.polled deadline same.0
            ])
            (elim (proceeds.deadline deadline is) [
              | inl late ↦ all_sent_now (IsEarlyPoll deadline) (is_poll_for side id) now
                  (λ octets polls. λ _. late) (λ octets none. λ _. late) frames
              | inr same ↦ none_sent_now (IsEarlyPoll deadline) (is_poll_for side id) now
                  (λ octets none polls. (let no : false ≡ true = sym none ∙ polls in cc)) frames
                  same.1
            ]);
        answered = λ deadline is. all_still (IsEarlyAnswer deadline) event k.incoming
            (elim (proceeds.deadline deadline is) [
              | inl late ↦ All-weaker
                  (λ (sent : Sent). is_final_for other id sent.octets ≡ true
                  → sent.at + 2 * longest ≤ deadline) (IsEarlyAnswer deadline)
                  (λ sent early answers. half_enough sent.at deadline (early answers)) k.incoming
                  (sent_before other now deadline k.incoming (is_final_for other id)
                  is_its_answer (by_now other k.incoming into) late)
              | inr same ↦ h.answered deadline same.0
            ]);
      }

  -- an event of the other side, whose `incoming` is this side's `outgoing`
  taken_in_time : (event : SideEvent) (k : SideClock) (deadline : ℕ)
      → takes_poll side id event (octets_of k.incoming) ≡ true
      → AreSent side id (λ at. moment_of event k.now ≤ at + longest) k.incoming
      → All (IsEarlyPoll deadline) k.incoming → moment_of event k.now + longest ≤ deadline
  taken_in_time (Take now) k deadline takes prompt early = by k.incoming takes prompt early
    where
      by : (line : List Sent) → takes_poll side id (Take now) (octets_of line) ≡ true
          → AreSent side id (λ at. now ≤ at + longest) line → All (IsEarlyPoll deadline) line
          → now + longest ≤ deadline
      by [] takes prompt early = cc
      by (sent ∷ line) takes prompt early =
          let soon = All-head (λ (sent : Sent). is_for side id sent.octets ≡ true
          → now ≤ sent.at + longest) sent line prompt (is_its_poll sent.octets takes) in
          let before = All-head (IsEarlyPoll deadline) sent line early takes in
          omega (arith, soon, before)
  taken_in_time (Lose at) k deadline takes prompt early = cc
  taken_in_time (Expire timer of now) k deadline takes prompt early = cc
  taken_in_time (Ask request now) k deadline takes prompt early = cc
  taken_in_time (Overhear octets now) k deadline takes prompt early = cc

  pub event_of_other : (event : SideEvent) (k : SideClock) (link before after : Option Linked)
      (frames : List (List ℕ))
      → AreSent side id (λ at. moment_of event k.now ≤ at + longest) k.incoming
      → Proceeds (2 * longest) (moment_of event k.now) other id
      (takes_poll side id event (octets_of k.incoming)) before after frames
      → IsAwaited link k.incoming k.outgoing
      → IsAwaited link (still_in_transit event k.incoming)
      (k.outgoing ++ sent_at (moment_of event k.now) frames)
  event_of_other event k link before after frames prompt proceeds h = record {
    polled = λ deadline is. all_still (IsEarlyPoll deadline) event k.incoming
        (h.polled deadline is);
    answered = λ deadline is. All-append (IsEarlyAnswer deadline) k.outgoing
        (sent_at (moment_of event k.now) frames) (h.answered deadline is)
        (by deadline is (list_any (is_final_for other id) frames) refl);
  }
    where
      by : (deadline : ℕ) → t200_of link ≡ Some deadline → (any : Bool)
          → list_any (is_final_for other id) frames ≡ any
          → All (IsEarlyAnswer deadline) (sent_at (moment_of event k.now) frames)
      by deadline is true any =
          let late = taken_in_time event k deadline (proceeds.answers any) prompt
          (h.polled deadline is) in
          all_sent_now (IsEarlyAnswer deadline) (is_final_for other id) (moment_of event k.now)
          (λ octets answers. λ _. late) (λ octets none. λ _. late) frames
      by deadline is false none = none_sent_now (IsEarlyAnswer deadline) (is_final_for other id)
          (moment_of event k.now)
          (λ octets no answers. (let impossible : false ≡ true =
          sym no ∙ answers in cc)) frames none

  -- ---- T200 expires only when nothing that it awaits is in transit.

  pub nothing_in_transit : (now deadline : ℕ) (link : Option Linked) (k : SideClock)
      → 0 < longest → deadline ≤ now → t200_of link ≡ Some deadline
      → IsAwaited link k.outgoing k.incoming
      → AreSent side id (λ at. now ≤ at + longest) k.outgoing
      → AreSent other id (λ at. now < at + longest) k.incoming
      → (list_any (is_poll_for side id) (octets_of k.outgoing) ≡ false)
      × (list_any (is_final_for other id) (octets_of k.incoming) ≡ false)
  nothing_in_transit now deadline link k positive due is h prompt first = (
    none_passes (λ (sent : Sent). IsEarlyPoll deadline sent
        × (is_for side id sent.octets ≡ true → now ≤ sent.at + longest)) (is_poll_for side id)
        (λ sent both polls. (let early = both.0 polls in
        let soon = both.1 (is_its_poll sent.octets polls) in
        omega (arith, positive, due, early, soon))) k.outgoing
        (all_both (IsEarlyPoll deadline)
        (λ (sent : Sent). is_for side id sent.octets ≡ true → now ≤ sent.at + longest) k.outgoing
        (h.polled deadline is) prompt),
    none_passes (λ (sent : Sent). IsEarlyAnswer deadline sent
        × (is_for other id sent.octets ≡ true → now < sent.at + longest)) (is_final_for other id)
        (λ sent both answers. (let early = both.0 answers in
        let soon = both.1 (is_its_answer sent.octets answers) in
        omega (arith, due, early, soon))) k.incoming
        (all_both (IsEarlyAnswer deadline)
        (λ (sent : Sent). is_for other id sent.octets ≡ true → now < sent.at + longest) k.incoming
        (h.answered deadline is) first),
  )
