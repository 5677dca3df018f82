-- Each event at the listener keeps the learned numbers those of the ends.
use Rattle.std.proofs.Common.{◌≡◌, ◌<◌, ◌≤◌, ℕ, ◌+◌, ◌==◌, ◌&&◌, nat_le, nat_lt, cond, Bool, true, false, List, [], ◌∷◌, Some, None, refl, sym, subst, arith}
use Rattle.std.proofs.lemmas.Bool.Decides.{nat_tests}
use Rattle.lapd_mod128.specs.Counting.{Tagged, tag, after, steps, lies_within, AreNear}
use Rattle.lapd_mod128.proofs.Tags.{tag_of_after, equality_on_tags, steps_on_tags, lies_within_on_tags}
use Rattle.lapd_follow.specs.declared.learned.Learned.{Learned}
use Rattle.lapd_follow.specs.declared.learned.Learned.TheVariants.{Nothing, Sent, Fixed}
use Rattle.lapd_follow.specs.declared.numbering.Numbering.{Numbering}
use Rattle.lapd_follow.specs.Learning.{after_ns, after_response}
use Rattle.lapd_follow.specs.Remarks.{is_in_window, nr_remark, window_remark}
use Rattle.lapd_follow.specs.Directions.{Direction, IsRight, GoesOn, Sends, Acknowledges, Passing, Silence, Message, Acknowledgement, Passes, PassAll, received, learned_after, learned_after_all, Bounds, InStep, Knows}

-- ---- Nothing passes.

bounds_stay : (next : ℕ) (d e : Direction) → e.reached ≤ d.reached → d.sent ≤ e.sent
    → Bounds next d → Bounds next e
bounds_stay next d e reached sent b = record {
  whole = b.whole;
  tagged = b.tagged;
  not_exceeded = omega (arith, b.not_exceeded, reached);
  was_sent = omega (arith, b.was_sent, sent);
}

pub silence_keeps : (l : Learned) (d e : Direction) → GoesOn d e → Knows l d → Knows l e
silence_keeps Nothing d e on k = k
silence_keeps (Sent next) d e on k = bounds_stay next d e on.reached on.sent k
silence_keeps (Fixed next nr) d e on k = record {
  bounds = bounds_stay next d e on.reached on.sent k.bounds;
  last = rw on.told k.last;
}

-- ---- An I frame.

received_at_most : (ns vr : ℕ) → vr ≤ ns → received ns vr ≤ ns + 1
received_at_most ns vr h = grind (arith, nat_tests)

-- the number after a new I frame
after_new : (ns : ℕ) (d e : Direction) → Sends ns false d e → Bounds (after Tagged (tag ns)) e
unfolding after
after_new ns d e s = record {
  whole = ns + 1;
  tagged = sym (tag_of_after ns);
  not_exceeded = omega (arith, received_at_most ns d.reached (s.not_received refl), s.reached);
  was_sent = omega (arith, s.was_sent, s.sent);
}

next_by : (b : Bool) (ns whole : ℕ) (p : Bool) (d e : Direction) → Sends ns p d e
    → d.reached ≤ whole → whole ≤ d.sent → (ns == whole) ≡ b
    → Bounds (cond b (after Tagged (tag whole)) (tag whole)) e
unfolding after
next_by true ns whole p d e s low high same = record {
  whole = whole + 1;
  tagged = sym (tag_of_after whole);
  not_exceeded = grind (arith, nat_tests, s.reached, low, same);
  was_sent = grind (arith, nat_tests, s.was_sent, s.sent, same);
}
next_by false ns whole p d e s low high other = record {
  whole = whole;
  tagged = refl;
  not_exceeded = grind (arith, nat_tests, s.reached, low, other);
  was_sent = omega (arith, high, s.sent);
}

-- the next N(S) is counted as V(R) is
next_after : (ns next : ℕ) (p : Bool) (d e : Direction) → IsRight d → Sends ns p d e
    → Bounds next d → Bounds (cond (tag ns == next) (after Tagged next) next) e
next_after ns next p d e right s b =
    let near : AreNear ns b.whole =
    record {
      above = omega (
        arith,
        s.was_sent,
        right.window,
        right.acknowledged,
        right.told,
        right.expected,
        b.not_exceeded,
      );
      below = omega (arith, s.near, b.was_sent);
    } in
    rw (b.tagged, equality_on_tags ns b.whole near)
    (next_by (ns == b.whole) ns b.whole p d e s b.not_exceeded b.was_sent refl)

pub message_keeps : (ns : ℕ) (p : Bool) (l : Learned) (d e : Direction) → IsRight d → Sends ns p d e
    → Knows l d → Knows (after_ns (tag ns) p l) e
message_keeps ns true Nothing d e right s k = k
message_keeps ns false Nothing d e right s k = after_new ns d e s
message_keeps ns true (Sent next) d e right s k = record {}
message_keeps ns false (Sent next) d e right s k = after_new ns d e s
message_keeps ns p (Fixed next nr) d e right s k = record {
  bounds = next_after ns next p d e right s k.bounds;
  last = rw s.told k.last;
}

-- ---- An N(R).

fixed_after : (next nr : ℕ) (is_answer : Bool) (d e : Direction) → Acknowledges is_answer nr d e
    → Bounds next d → InStep next (tag nr) e
fixed_after next nr is_answer d e a b = record {
  bounds = bounds_stay next d e a.reached a.sent b;
  last = rw a.told refl;
}

sent_by : (is_next : Bool) (next nr : ℕ) (is_answer : Bool) (d e : Direction)
    → Acknowledges is_answer nr d e → Bounds next d
    → Knows (cond is_next (Fixed next (tag nr)) (Sent next)) e
sent_by true next nr is_answer d e a b = fixed_after next nr is_answer d e a b
sent_by false next nr is_answer d e a b = bounds_stay next d e a.reached a.sent b

fixed_by : (is_valid : Bool) (next nr : ℕ) (is_answer : Bool) (d e : Direction)
    → Acknowledges is_answer nr d e → Bounds next d
    → Knows (cond is_valid (Fixed next (tag nr)) Nothing) e
fixed_by true next nr is_answer d e a b = fixed_after next nr is_answer d e a b
fixed_by false next nr is_answer d e a b = record {}

pub acknowledgement_keeps : (nr : ℕ) (is_answer : Bool) (l : Learned) (d e : Direction) → IsRight d
    → Acknowledges is_answer nr d e → Knows l d → Knows (after_response is_answer (tag nr) l) e
acknowledgement_keeps nr true l d e right a k = record {
  bounds = record {
    whole = nr;
    tagged = refl;
    not_exceeded = omega (arith, a.answer refl, a.reached);
    was_sent = omega (arith, a.expected, right.expected, right.reached, a.sent);
  };
  last = rw a.told refl;
}
acknowledgement_keeps nr false Nothing d e right a k = k
acknowledgement_keeps nr false (Sent next) d e right a k =
    sent_by (tag nr == next) next nr false d e a k
acknowledgement_keeps nr false (Fixed next last) d e right a k =
    fixed_by (lies_within Tagged last (tag nr) next) next nr false d e a k.bounds

-- ---- All that passes.

pub passing_keeps : (s : Passing) (l : Learned) (d e : Direction) → IsRight d → Passes s d e
    → Knows l d → Knows (learned_after s l) e
passing_keeps Silence l d e right p k = silence_keeps l d e p k
passing_keeps (Message ns bit) l d e right p k = message_keeps ns bit l d e right p k
passing_keeps (Acknowledgement is_answer nr) l d e right p k =
    acknowledgement_keeps nr is_answer l d e right p k

right_after : (s : Passing) (d e : Direction) → Passes s d e → IsRight e
right_after Silence d e p = p.right
right_after (Message ns bit) d e p = p.right
right_after (Acknowledgement is_answer nr) d e p = p.right

pub all_keep : (seen : List Passing) (l : Learned) (d e : Direction) → IsRight d
    → PassAll seen d e → Knows l d → Knows (learned_after_all seen l) e
all_keep [] l d e right same k = subst (Knows l) same k
all_keep (s ∷ seen) l d e right (c, passes, rest) k =
    all_keep seen (learned_after s l) c e (right_after s d c passes) rest
    (passing_keeps s l d c right passes k)

-- ---- No N(R) and no N(S) of right ends is a violation.

valid_nr : (next last nr : ℕ) (is_answer : Bool) (d e : Direction) → IsRight d
    → InStep next last d → Acknowledges is_answer nr d e
    → lies_within Tagged last (tag nr) next ≡ true
unfolding lies_within
valid_nr next last nr is_answer d e right k a =
    let most : d.sent ≤ d.told + 127 = omega (arith, right.window, right.acknowledged) in
    let last_is : nr ≤ k.bounds.whole =
    omega (arith, a.expected, right.expected, k.bounds.not_exceeded) in
    let told_near : AreNear d.told k.bounds.whole =
    record {
      above = omega (arith, a.after, last_is);
      below = omega (arith, most, k.bounds.was_sent);
    } in
    let nr_near : AreNear d.told nr =
    record {
      above = omega (arith, a.after);
      below = omega (arith, most, k.bounds.was_sent, last_is);
    } in
    let both_near : AreNear nr k.bounds.whole =
    record {
      above = omega (arith, last_is);
      below = omega (arith, most, k.bounds.was_sent, a.after);
    } in
    rw (
      k.last,
      k.bounds.tagged,
      lies_within_on_tags d.told nr k.bounds.whole (omega (arith, a.after, last_is)) told_near
          nr_near both_near,
    ) (grind (arith, nat_tests, a.after, last_is))

pub nr_is_valid : (own peer : Numbering) (nr : ℕ) (is_answer : Bool) (d e : Direction)
    → IsRight d → InStep peer.next own.nr d → Acknowledges is_answer nr d e
    → nr_remark (tag nr) (Some own) (Some peer) ≡ None
nr_is_valid own peer nr is_answer d e right k a =
    rw (valid_nr peer.next own.nr nr is_answer d e right k a) refl

either : (b c : Bool) → c ≡ true → cond b true c ≡ true
either true c h = refl
either false c h = h

-- fewer than k steps lead to it from the last N(R), or it is one of the last k
in_window_by : (is_after : Bool) (own peer : Numbering) (k ns : ℕ) (p : Bool) (d e : Direction)
    → IsRight d → InStep own.next peer.nr d → Sends ns p d e → k ≤ 127
    → d.sent ≤ d.acknowledged + k → d.sent ≤ ns + k → nat_le d.told ns ≡ is_after
    → is_in_window k (tag ns) own peer ≡ true
unfolding steps
in_window_by true own peer k ns p d e right known s small window near is_after =
    let few : nat_lt (steps Tagged peer.nr (tag ns)) k ≡ true =
    rw (
      known.last,
      steps_on_tags d.told ns (grind (arith, nat_tests, is_after))
          (omega (arith, s.was_sent, window, right.acknowledged, small)),
    )
    (grind (arith, nat_tests, s.was_sent, window, right.acknowledged, is_after)) in
    rw few refl
in_window_by false own peer k ns p d e right known s small window near is_after =
    let w = known.bounds.whole in
    let before : ns < w =
    grind (arith, nat_tests, is_after, right.told, right.expected, known.bounds.not_exceeded) in
    let few : (nat_lt 0 (steps Tagged (tag ns) own.next) && nat_le (steps Tagged (tag ns) own.next) k)
    ≡ true =
    rw (
      known.bounds.tagged,
      steps_on_tags ns w (omega (arith, before))
          (omega (arith, known.bounds.was_sent, s.near)),
    )
    (grind (arith, nat_tests, before, known.bounds.was_sent, near)) in
    either (nat_lt (steps Tagged peer.nr (tag ns)) k) _ few

pub ns_is_in_window : (own peer : Numbering) (k ns : ℕ) (p : Bool) (d e : Direction) → IsRight d
    → InStep own.next peer.nr d → Sends ns p d e → k ≤ 127 → d.sent ≤ d.acknowledged + k
    → d.sent ≤ ns + k → window_remark k (tag ns) (Some own) (Some peer) ≡ None
ns_is_in_window own peer k ns p d e right known s small window near =
    rw (in_window_by (nat_le d.told ns) own peer k ns p d e right known s small window near refl)
    refl

pub all_learned : (seen : List Passing) (d e : Direction) → IsRight d → PassAll seen d e
    → Knows (learned_after_all seen Nothing) e
all_learned seen d e right passes = all_keep seen Nothing d e right passes (record {})
