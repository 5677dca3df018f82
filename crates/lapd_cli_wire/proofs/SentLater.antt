-- Delayed frames are sent, one after another.
use Rattle.std.proofs.Common.{◌≡◌, ℕ, ◌≤◌, List, [], ◌∷◌, ◌++◌, map, flat_map, Bool, true, false, inr, Option, Result, Ok, Err, IfOk, append_assoc, refl, sym, ap, subst, ◌∙◌}
use Rattle.std.specs.List.{All}
use Rattle.std.proofs.lemmas.List.{append-nil, map-append}
use Rattle.std.proofs.lemmas.Grind.{flat_map-append}
use Rattle.std.proofs.lemmas.List.Elements.{All-nil, All-cons, All-append}
use Rattle.lapd_cli_wire.specs.declared.delays.DelayedFrame.{DelayedFrame}
use Rattle.lapd_cli_wire.specs.declared.delays.Delays.{Delays}
use Rattle.lapd_port.specs.declared.port_fault.PortFault.{PortFault}
use Rattle.lapd_cli_wire.specs.declared.outside.Woken.{Woken}
use Rattle.lapd_cli_wire.specs.IoEvents.{Adds, IoEvent, Reads, Sends, Waits, received}
use Rattle.rand_pcg.specs.Pcg.{pcg32}
use Rattle.lapd_cli_wire.specs.declared.outside.Sending.TheVariants.{Sent}
use Rattle.lapd_timers.specs.Moments.{earlier}
use Rattle.lapd_cli_wire.specs.Delays.{AreRounds, AddsSome, FirstIsLater, PassesFrame, IsDrawn, IsOver, IsTakenOff, PutsFrameOff, PutsOff, Receives, Round, SendsDue, WaitsOn, WaitsOnce, first_moment, is_direct, octets_of, rest_of, sent_of}
use Rattle.lapd_cli_wire.proofs.IoEvents.{adds_both, adds_none}

-- this frame is due
abbrev pub IsDue : ℕ → DelayedFrame → Type 0
IsDue now frame = frame.moment ≤ now

-- some frames that are due were sent
pub record SomeSent (now : ℕ) (before after : Delays) (old new : Option (List IoEvent)) : Type
    0 where
  pub gone : List DelayedFrame
  pub parts : before.delayed.items ≡ gone ++ after.delayed.items
  pub due : All (IsDue now) gone
  pub sent : Adds old new (map sent_of gone)
  pub latest : after.latest ≡ before.latest
  pub impairment : after.impairment ≡ before.impairment
  pub random : after.random ≡ before.random

pub more_sent : (now : ℕ) (frame : DelayedFrame) (octets : List ℕ) (before mid after : Delays)
    (old new last : Option (List IoEvent))
    → SomeSent now before mid old new → frame.moment ≤ now → IsTakenOff frame mid after
    → octets ≡ octets_of frame
    → Adds new last (Sends octets ∷ []) → SomeSent now before after old last
more_sent now frame octets before mid after old new last h due taken are sends = record {
  gone = h.gone ++ frame ∷ [];
  parts = h.parts ∙ ap (λ (x : List DelayedFrame). h.gone ++ x) taken.front
      ∙ sym (append_assoc h.gone (frame ∷ []) after.delayed.items);
  due =
      All-append (IsDue now) h.gone (frame ∷ []) h.due
      (All-cons (IsDue now) frame [] due (All-nil (IsDue now)));
  sent =
      subst (λ (x : List IoEvent). Adds old last x) (sym (map-append sent_of h.gone (frame ∷ [])))
      (adds_both old new last (map sent_of h.gone) (Sends (octets_of frame) ∷ []) h.sent
      (subst (λ (x : List ℕ). Adds new last (Sends x ∷ [])) are sends));
  latest = taken.latest ∙ h.latest;
  impairment = taken.impairment ∙ h.impairment;
  random = taken.random ∙ h.random;
}

pub due_sent : (now : ℕ) (before mid after : Delays) (old read new : Option (List IoEvent))
    → Adds old read (Reads now ∷ [])
    → SomeSent now before mid read new → after ≡ mid → FirstIsLater now mid.delayed.items
    → AddsSome old new (SendsDue before after)
due_sent now before mid after old read new reads h same later =
    let sent = map sent_of h.gone in
    let whole : SendsDue before mid (Reads now ∷ sent) =
    record {
      now = now;
      gone = h.gone;
      parts = h.parts;
      due = h.due;
      later = later;
      sent = refl;
      latest = h.latest;
      impairment = h.impairment;
      random = h.random;
    } in (
      Reads now ∷ sent,
      adds_both old read new (Reads now ∷ []) sent reads h.sent,
      subst (λ (x : Delays). SendsDue before x (Reads now ∷ sent)) (sym same) whole,
    )

pub waits_once : (until next : Option ℕ) (before after : Delays) (result : Result Woken PortFault)
    (old mid new : Option (List IoEvent))
    → AddsSome old mid (SendsDue before after)
    → next ≡ earlier until (first_moment after.delayed.items)
    → IfOk result (λ (woken : Woken). Adds mid new (Waits next woken ∷ []))
    → IfOk result (λ (woken : Woken). AddsSome old new (WaitsOnce until woken before after))
waits_once until next before after (Err fault) old mid new due is waits = tt
waits_once until next before after (Ok woken) old mid new due is waits =
    let last = Waits (earlier until (first_moment after.delayed.items)) woken ∷ [] in
    let whole : WaitsOnce until woken before after (due.0 ++ last) =
    record { first = due.0; due = due.2; all = refl } in (
      due.0 ++ last,
      adds_both old mid new due.0 last due.1
          (subst (λ (x : Option ℕ). Adds mid new (Waits x woken ∷ [])) is waits),
      whole,
    )

pub round : (until : Option ℕ) (woken : Woken) (over : Bool) (before mid after : Delays)
    (old read new : Option (List IoEvent))
    → AddsSome old read (WaitsOnce until woken before mid) → after ≡ mid
    → AddsSome read new (IsOver until woken over)
    → AddsSome old new (Round until woken over before after)
round until woken over before mid after old read new waits same is =
    let whole : Round until woken over before mid (waits.0 ++ is.0) =
    record { first = waits.0; once = waits.2; rest = is.0; is = is.2; all = refl } in (
      waits.0 ++ is.0,
      adds_both old read new waits.0 is.0 waits.1 is.1,
      subst (λ (x : Delays). Round until woken over before x (waits.0 ++ is.0)) (sym same)
          whole,
    )

pub receives : (room : List ℕ) (before after : Delays) (result : Result (Option ℕ) PortFault)
    (old mid new : Option (List IoEvent))
    → AddsSome old mid (SendsDue before after)
    → IfOk result (λ (count : Option ℕ). Adds mid new (received room count))
    → IfOk result (λ (count : Option ℕ). AddsSome old new (Receives room count before after))
receives room before after (Err fault) old mid new due looks = tt
receives room before after (Ok count) old mid new due looks =
    let whole : Receives room count before after (due.0 ++ received room count) =
    record { first = due.0; due = due.2; all = refl } in (
      due.0 ++ received room count,
      adds_both old mid new due.0 (received room count) due.1 looks,
      whole,
    )

still_indirect : (before mid : Delays)
    → mid ≡ record before { random = rest_of (pcg32 before.random) } → is_direct mid ≡ false
    → is_direct before ≡ false
still_indirect before mid drawn indirect =
    subst (λ (x : Delays). is_direct x ≡ false) drawn indirect

pub puts_off : (octets : List ℕ) (lost direct : Bool) (before mid after : Delays)
    (old new : Option (List IoEvent)) → IsDrawn lost before mid
    → lost ≡ false → direct ≡ is_direct mid → direct ≡ false
    → AddsSome old new (PutsOff octets mid after)
    → AddsSome old new (PassesFrame octets Sent before after)
puts_off octets lost direct before mid after old new drawn preserved is indirect put =
    let whole : PutsFrameOff octets Sent before after put.0 =
    record {
      mid = mid;
      drawn = subst (λ (x : Bool). IsDrawn x before mid) preserved drawn;
      indirect = still_indirect before mid drawn.drawn (sym is ∙ indirect);
      put_off = put.2;
      fate = refl;
    } in
    (put.0, put.1, inr (inr whole))

-- ---- Rounds.

-- some rounds that are not over
pub record SomeRounds (until : Option ℕ) (before after : Delays)
    (old new : Option (List IoEvent)) : Type 0 where
  pub rounds : List (List IoEvent)
  pub are : AreRounds until rounds before after
  pub done : Adds old new (flat_map (λ (round : List IoEvent). round) rounds)

rounds_behind : (until : Option ℕ) (woken : Woken) (rounds : List (List IoEvent))
    (io_events : List IoEvent) (before mid after : Delays)
    → AreRounds until rounds before mid → Round until woken false mid after io_events
    → AreRounds until (rounds ++ io_events ∷ []) before after
rounds_behind until woken [] io_events before mid after are next =
    (after, woken, subst (λ (x : Delays). Round until woken false x after io_events) are next, refl)
rounds_behind until woken (first ∷ more) io_events before mid after are next =
    (are.0, are.1, are.2, rounds_behind until woken more io_events are.0 mid after are.3 next)

all_behind : (rounds : List (List IoEvent)) (io_events : List IoEvent)
    → flat_map (λ (round : List IoEvent). round) (rounds ++ io_events ∷ [])
    ≡ flat_map (λ (round : List IoEvent). round) rounds ++ io_events
all_behind rounds io_events =
    flat_map-append (λ (round : List IoEvent). round) rounds (io_events ∷ [])
    ∙ ap (λ (x : List IoEvent). flat_map (λ (round : List IoEvent). round) rounds ++ x)
    (append-nil io_events)

pub more_rounds : (until : Option ℕ) (woken : Woken) (over : Bool) (before mid after : Delays)
    (old read new : Option (List IoEvent))
    → SomeRounds until before mid old read → over ≡ false
    → AddsSome read new (Round until woken over mid after)
    → SomeRounds until before after old new
more_rounds until woken over before mid after old read new h not_over next = record {
  rounds = h.rounds ++ next.0 ∷ [];
  are =
      rounds_behind until woken h.rounds next.0 before mid after h.are
      (subst (λ (x : Bool). Round until woken x mid after next.0) not_over next.2);
  done = subst (λ (x : List IoEvent). Adds old new x) (sym (all_behind h.rounds next.0))
      (adds_both old read new (flat_map (λ (round : List IoEvent). round) h.rounds) next.0 h.done
      next.1);
}

pub all_rounds : (until : Option ℕ) (woken : Woken) (over : Bool) (before mid after : Delays)
    (old read new : Option (List IoEvent))
    → SomeRounds until before mid old read → over ≡ true
    → AddsSome read new (Round until woken over mid after)
    → AddsSome old new (WaitsOn until woken before after)
all_rounds until woken over before mid after old read new h over_now next =
    let all = flat_map (λ (round : List IoEvent). round) h.rounds in
    let whole : WaitsOn until woken before after (all ++ next.0) =
    record {
      rounds = h.rounds;
      mid = mid;
      are = h.are;
      last = next.0;
      end
          = subst (λ (x : Bool). Round until woken x mid after next.0) over_now next.2;
      all = refl;
    } in
    (all ++ next.0, adds_both old read new all next.0 h.done next.1, whole)
