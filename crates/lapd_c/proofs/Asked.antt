-- Calls of a held side: those of its side, whose results wait. If the side counts, they are the
-- last results, because the earlier ones were set aside.
use Rattle.std.proofs.Common.{◌≡◌, ◌⊎◌, inl, inr, ℕ, Bool, true, false, List, [], Option, Some, None, Result, Ok, Err, append-nil, refl, sym, ap, subst, ◌∙◌}
use Rattle.std.specs.Prelude.{IfOk, option_map, ⊤}
use Rattle.lapd_sides_links.specs.declared.side_fault.SideFault.{SideFault}
use Rattle.lapd_sides_links.specs.Effects.{Effects, and_then, no_effects}
use Rattle.lapd_sides.specs.declared.either_side.EitherSide.{EitherSide}
use Rattle.lapd_sides.specs.declared.queued_side.QueuedSide.{QueuedSide}
use Rattle.lapd_sides.specs.Either.{side_of}
use Rattle.lapd_sides.specs.Queued as queued
use Rattle.lapd_sides.specs.Queued.{gives_nothing, LacksRoom, Queues, QueuesOrLacks}
use Rattle.lapd_c.specs.declared.held_side.HeldSide.{HeldSide}
use Rattle.lapd_c.specs.declared.link_counters.LinkCount.{LinkCount}
use Rattle.lapd_c.specs.Calls.{Asks, Call, HasCalled, IsReady, IsReadyIf, TicksReady, is_full}
use Rattle.lapd_c.specs.Codes.{code_of}
use Rattle.lapd_c.specs.Counters.{call_counted, received_counted}
use Rattle.lapd_c.proofs.CountedCalls.{in_turn}

true_is_false : true ≡ false → ⊥
true_is_false h = absurd (cc)

-- ---- The waiting results.

nothing_behind : (e : Effects) → and_then e no_effects ≡ e
nothing_behind e = rw (append-nil e.frames, append-nil e.primitives) refl

-- the results that wait are the same, and so is the side
pub record IsSame (old ready : QueuedSide) : Type 0 where
  pub side : ready.side ≡ old.side
  pub waits : queued.waiting ready ≡ queued.waiting old

pub same_when_ready : (counts : Option (List LinkCount)) (old ready : QueuedSide)
    → IsReadyIf counts old ready → IsSame old ready
same_when_ready None old ready h = record {
  side = ap (λ (q : QueuedSide). q.side) h;
  waits = ap (λ (q : QueuedSide). queued.waiting q) h;
}
same_when_ready (Some counts) old ready h = record {
  side = ap (λ (q : QueuedSide). q.side) h;
  waits = ap (λ (q : QueuedSide). queued.waiting q) h ∙ nothing_behind (queued.waiting old);
}

-- if the side counts, the results of the call are the last ones
pub last_when_ready : (counts : Option (List LinkCount)) (all : List LinkCount)
    (old ready : QueuedSide) (acts given : Effects) → counts ≡ Some all
    → IsReadyIf counts old ready → (acts ≡ given) ⊎ (acts ≡ and_then ready.acts given)
    → acts ≡ given
last_when_ready None all old ready acts given is h last = absurd (cc)
last_when_ready (Some counts) all old ready acts given is h last = elim last [
  | inl alone ↦ alone
  | inr behind ↦ subst (λ (e : Effects). acts ≡ and_then e given)
      (ap (λ (q : QueuedSide). q.acts) h) behind
]

-- ---- Counters.

-- a side that counts counts the results of the call
when_counting : (counts : Option (List LinkCount))
    (count : Effects → List LinkCount → List LinkCount)
    (acts given : Effects) (after : Option (List LinkCount))
    → ((all : List LinkCount) → counts ≡ Some all → acts ≡ given)
    → after ≡ option_map (count acts) counts → after ≡ option_map (count given) counts
when_counting None count acts given after last h = h
when_counting (Some all) count acts given after last h =
    subst (λ (e : Effects). after ≡ option_map (count e) (Some all)) (last all refl) h

none_counted : (counts after : Option (List LinkCount))
    (count : List LinkCount → List LinkCount) → counts ≡ None → after ≡ option_map count counts
    → after ≡ None
none_counted counts after count is h = h ∙ ap (option_map count) is

-- ---- Calls.

-- the held side after a call
abbrev pub next : HeldSide → QueuedSide → Option (List LinkCount) → HeldSide
next old queued counts = record old { queued = queued; counts = counts }

-- the counters after a call by which the side receives these octets, and whose results are the last
abbrev pub IsCounted : HeldSide → List ℕ → QueuedSide → Option (List LinkCount) → Type 0
IsCounted old octets q after = side_of q.side ≡ side_of old.queued.side
    → after ≡ option_map (call_counted (side_of q.side) octets q.acts) old.counts

-- the results of a request are counted alone
pub counted_alone : (old mid : HeldSide) (q : QueuedSide) (after : Option (List LinkCount))
    → mid ≡ record old { queued = mid.queued }
    → after ≡ option_map (call_counted (side_of q.side) [] q.acts) mid.counts
    → IsCounted old [] q after
counted_alone old mid q after rest h kind =
    h ∙ ap (λ (m : HeldSide). option_map (call_counted (side_of q.side) [] q.acts) m.counts) rest

-- and those of received octets after the octets
pub counted_in_turn : (octets : List ℕ) (old mid : HeldSide) (q : QueuedSide)
    (between after : Option (List LinkCount)) → mid ≡ record old { queued = mid.queued }
    → IsReady old mid
    → between ≡ option_map (λ c. received_counted (side_of mid.queued.side) c octets) mid.counts
    → after ≡ option_map (call_counted (side_of q.side) [] q.acts) between
    → IsCounted old octets q after
counted_in_turn octets old mid q between after rest is_ready received h kind =
    in_turn octets mid.queued.side q.side q.acts mid.counts between after
    (kind ∙ sym (ap side_of (same_when_ready old.counts old.queued mid.queued is_ready).side))
    received h
    ∙ ap (λ (m : HeldSide). option_map (call_counted (side_of q.side) octets q.acts) m.counts) rest

-- an allocation failed before it, so the side does not count
lacked : (old : HeldSide) (octets : List ℕ) (counts : Option (List LinkCount))
    (ready q : QueuedSide)
    (after : Option (List LinkCount)) → old.counts ≡ counts → IsReadyIf counts old.queued ready
    → LacksRoom ready q → IsCounted old octets q after
    → (next old q after ≡ old) × (gives_nothing old.queued.acts ≡ false)
lacked old octets None ready q after is is_ready lacks counted =
    let same = lacks.same ∙ is_ready in (
      ap (λ (x : QueuedSide). next old x after) same
          ∙ ap (λ (c : Option (List LinkCount)). next old old.queued c)
          (none_counted old.counts after (call_counted (side_of q.side) octets q.acts) is
          (counted (ap (λ (x : QueuedSide). side_of x.side) same)) ∙ sym is),
      subst (λ (x : QueuedSide). gives_nothing x.acts ≡ false) is_ready lacks.gave,
    )
lacked old octets (Some all) ready q after is is_ready lacks counted =
    absurd (true_is_false (subst (λ (x : QueuedSide). gives_nothing x.acts ≡ false) is_ready
    lacks.gave))

module _ (call : Call) (octets : List ℕ) (result : Result ⊤ SideFault) (code : ℕ)
    (coded : code ≡ code_of result)
    (kind : (old new : EitherSide) (given : Effects) → call result old new given
    → side_of new ≡ side_of old) (old mid : HeldSide) (q : QueuedSide)
    (after : Option (List LinkCount)) (rest : mid ≡ record old { queued = mid.queued })
    (is_ready : IsReady old mid) (counted : IsCounted old octets q after) where
  abbrev ready : QueuedSide
  ready = mid.queued

  -- the call is made
  called : Queues (call result) ready q → HasCalled call octets old (next old q after) code
  called h =
      let same = same_when_ready old.counts old.queued ready is_ready in
      let made = subst (λ (s : EitherSide). call result s q.side h.given) same.side h.called in
      record {
        result = result;
        coded = coded;
        given = h.given;
        called = made;
        waits = h.waits ∙ ap (λ (e : Effects). and_then e h.given) same.waits;
        most = refl;
        counts = when_counting old.counts (call_counted (side_of q.side) octets) q.acts h.given
            after (λ all is. last_when_ready old.counts all old.queued ready q.acts h.given is
            is_ready h.last) (counted (kind old.queued.side q.side h.given made));
      }

  -- or an allocation fails
  asked_of : is_full old ≡ false → QueuesOrLacks call result ready q
      → Asks call octets old (next old q after) code
  asked_of room h = record {
    refused = λ full. absurd (true_is_false (sym full ∙ room));
    called = λ e. elim h [
      | inl lacks ↦ inl (
          let both = lacked old octets old.counts ready q after refl is_ready lacks.1 counted in
          record { refused = coded ∙ ap code_of lacks.0; same = both.0; gave = both.1 })
      | inr queues ↦ inr (called queues)
    ];
  }

  pub asked : is_full old ≡ false → QueuesOrLacks call result ready q
      → Asks call octets old (next mid q after) code
  asked room h = subst (λ (x : HeldSide). Asks call octets old (next x q after) code) (sym rest)
      (asked_of room h)

-- the timer is asked for after the side was made ready
pub ticks_ready : {E : Type 0} (now : ℕ) (result : Result Bool E) (old mid : HeldSide)
    (q : QueuedSide) → IsReady old mid
    → IfOk result (λ is_due. Queues (queued.Ticks now is_due) mid.queued q)
    → IfOk result (λ is_due. TicksReady now is_due old (record mid { queued = q }))
ticks_ready now (Ok is_due) old mid q is_ready h = record {
  ready = mid.queued;
  is_ready = is_ready;
  ticked = h;
}
ticks_ready now (Err e) old mid q is_ready h = tt
