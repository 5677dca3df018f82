-- The results of a call wait behind the earlier ones.
use Rattle.std.proofs.Common.{◌≡◌, inl, inr, ℕ, Bool, true, false, List, Result, Ok, append-nil, refl, sym, ap, subst, ◌∙◌}
use Rattle.std.specs.Prelude.{⊤}
use Rattle.lapd_table.specs.declared.link_id.LinkId.{LinkId}
use Rattle.lapd_sides_links.specs.declared.side_fault.SideFault.{SideFault}
use Rattle.lapd_sides_links.specs.Effects.{Adds, Effects, and_then, no_effects}
use Rattle.lapd_sides_links.specs.Messages.{Message, WithMessage}
use Rattle.lapd_sides_links.proofs.Acting.{in_order}
use Rattle.lapd_sides.specs.declared.either_side.EitherSide.{EitherSide}
use Rattle.lapd_sides.specs.declared.queued_side.QueuedSide.{QueuedSide}
use Rattle.lapd_sides.specs.declared.request.Request.TheVariants.{Give}
use Rattle.lapd_sides.specs.Either.{Answers, Expires, Gives, StaysIdle}
use Rattle.lapd_sides.specs.Queued.{Call, KeepsWaiting, Queues, QueuesOrLacks, Ticks, waiting}

-- the waiting results are set aside before the call
pub behind : (call : Call) (old : QueuedSide) (side : EitherSide) (given : Effects)
    → call old.side side given
    → Queues call old (record { side = side; acts = given; backlog = waiting old })
behind call old side given called = record {
  given = given;
  called = called;
  waits = refl;
  last = inl refl;
}

-- they have been set aside
pub behind_ready : (call : Call) (old ready : QueuedSide) (side : EitherSide) (given : Effects)
    → ready ≡ record old { backlog = waiting old; acts = no_effects } → call ready.side side given
    → Queues call old (record ready { side = side; acts = given })
behind_ready call old ready side given is called =
    subst (λ (q : QueuedSide). Queues call old (record q { side = side; acts = given })) (sym is)
    (behind call old side given
    (subst (λ (q : QueuedSide). call q.side side given) is called))

-- the results are appended to the last ones
pub appended : (call : Call) (old : QueuedSide) (side : EitherSide) (acts : Effects)
    → Adds old.acts acts (call old.side side)
    → Queues call old (record old { side = side; acts = acts })
appended call old side acts h = record {
  given = h.given;
  called = h.does;
  waits = ap (and_then old.backlog) h.appended ∙ sym (in_order old.backlog old.acts h.given);
  last = inr h.appended;
}

nothing_behind : (e : Effects) → e ≡ and_then e no_effects
nothing_behind e = rw (append-nil e.frames, append-nil e.primitives) refl

-- the side and the last results are the same
pub unmoved : (old : QueuedSide) (side : EitherSide) (acts : Effects) → side ≡ old.side
    → acts ≡ old.acts → record old { side = side; acts = acts } ≡ old
unmoved old side acts same nothing =
    ap (λ (s : EitherSide). record old { side = s; acts = acts }) same
    ∙ ap (λ (a : Effects). record old { acts = a }) nothing

-- nothing follows from the call
pub nothing_added : (call : Call) (old : QueuedSide) → call old.side old.side no_effects
    → Queues call old old
nothing_added call old called = record {
  given = no_effects;
  called = called;
  waits = nothing_behind (waiting old);
  last = inr (nothing_behind old.acts);
}

-- a call that does the same
pub queues_as : (a b : Call) (old new : QueuedSide)
    → ((given : Effects) → a old.side new.side given → b old.side new.side given)
    → Queues a old new → Queues b old new
queues_as a b old new so h = record {
  given = h.given;
  called = so h.given h.called;
  waits = h.waits;
  last = h.last;
}

-- a copy of a message is submitted by a request
pub gives_by_request : (id : LinkId) (octets : List ℕ) (now : ℕ) (message : Message)
    (result : Result ⊤ SideFault) (old new : QueuedSide) → message.items ≡ octets
    → QueuesOrLacks (Answers (Give id message) now) result old new
    → QueuesOrLacks (Gives id octets now) result old new
gives_by_request id octets now message result old new items h = elim h [
  | inl lacks ↦ inl lacks
  | inr queues ↦ inr (queues_as (Answers (Give id message) now result) (Gives id octets now result)
      old new (λ given asks. inr (record { message = message; items = items; asks = asks })) queues)
]

-- the message was sent at once
pub gives_at_once : (id : LinkId) (octets : List ℕ) (now : ℕ) (old : QueuedSide)
    (side : EitherSide) (acts : Effects)
    → WithMessage octets (λ message. Adds old.acts acts
    (Answers (Give id message) now (Ok tt) old.side side))
    → Queues (Gives id octets now (Ok tt)) old (record old { side = side; acts = acts })
gives_at_once id octets now old side acts h =
    queues_as (Answers (Give id h.message) now (Ok tt)) (Gives id octets now (Ok tt)) old _
    (λ given asks. inr (record { message = h.message; items = h.items; asks = asks }))
    (appended (Answers (Give id h.message) now (Ok tt)) old side acts h.asks)

true_is_false : true ≡ false → ⊥
true_is_false h = absurd (cc)

-- a call after the waiting results were set aside
after_set_aside : (call : Result ⊤ SideFault → Call) (result : Result ⊤ SideFault)
    (old new : QueuedSide)
    → QueuesOrLacks call result (record old { backlog = waiting old; acts = no_effects }) new
    → QueuesOrLacks call result old new
after_set_aside call result old new h = elim h [
  | inl lacks ↦ absurd (true_is_false lacks.1.gave)
  | inr queues ↦ inr (record {
    given = queues.given;
    called = queues.called;
    waits = queues.waits
        ∙ ap (λ (e : Effects). and_then e queues.given) (sym (nothing_behind (waiting old)));
    last = inl (elim queues.last [ inl alone ↦ alone | inr behind ↦ behind ]);
  })
]

-- or not
pub with_room : (call : Result ⊤ SideFault → Call) (result : Result ⊤ SideFault)
    (old mid new : QueuedSide) → KeepsWaiting old mid → QueuesOrLacks call result mid new
    → QueuesOrLacks call result old new
with_room call result old mid new kept h = elim kept [
  | inl same ↦ subst (λ (q : QueuedSide). QueuesOrLacks call result q new) same h
  | inr aside ↦ after_set_aside call result old new
      (subst (λ (q : QueuedSide). QueuesOrLacks call result q new) aside h)
]

-- the first due timer has expired, or none is due
pub ticked : (now : ℕ) (is_due : Bool) (old side : EitherSide) (given : Effects)
    → (is_due ≡ true → Expires now old side given) → (is_due ≡ false → StaysIdle now old side)
    → (is_due ≡ false → given ≡ no_effects) → Ticks now is_due old side given
ticked now true old side given due none nothing = due refl
ticked now false old side given due none nothing = (none refl, nothing refl)
