-- The counters of a side are the sum over all its calls.
use Rattle.std.proofs.Common.{◌≡◌, inl, inr, ℕ, zero, suc, List, [], ◌++◌, Option, Some, None, Result, refl, sym, ap, subst, arith, ◌∙◌}
use Rattle.std.specs.Prelude.{option_map, ⊤}
use Rattle.std.proofs.lemmas.Grind.{fold-append}
use Rattle.lapd_frame.specs.declared.Side.{Side}
use Rattle.lapd_timers.specs.Durations.{Lengths}
use Rattle.lapd_table.specs.declared.link_id.LinkId.{LinkId}
use Rattle.lapd_sides_links.specs.declared.side_fault.SideFault.{SideFault}
use Rattle.lapd_sides_links.specs.Effects.{Effects}
use Rattle.lapd_sides.specs.declared.request.Request.{Request}
use Rattle.lapd_sides.specs.declared.request.Request.TheVariants.{Give}
use Rattle.lapd_sides.specs.declared.either_side.EitherSide.{EitherSide}
use Rattle.lapd_sides.specs.declared.either_side.EitherSide.TheVariants.{Network, User}
use Rattle.lapd_sides.specs.Either.{side_of, Takes, Answers, Gives, Expires, StaysIdle, SetsDurations}
use Rattle.lapd_c.specs.declared.held_side.HeldSide.{HeldSide}
use Rattle.lapd_c.specs.declared.link_counters.LinkCount.{LinkCount}
use Rattle.lapd_c.specs.declared.link_counters.FlatCounters.{FlatCounters}
use Rattle.lapd_c.specs.Calls.{HasTicked, HasBegunCounting, ReturnsCounters, ReturnsCountersOf}
use Rattle.lapd_c.specs.Codes.{done}
use Rattle.lapd_c.specs.Counters.{call_counted, counters_of, flat_counters, nothing_counted, received_counted}
use Rattle.lapd_c.specs.CountedCalls.{Adds, CountedCall, one_call, with_call, with_calls}

-- ---- A call leaves the kind of a side.

pub takes : (octets : List ℕ) (now : ℕ) (result : Result ⊤ SideFault) (old new : EitherSide)
    (given : Effects) → Takes octets now result old new given → side_of new ≡ side_of old
takes octets now result (Network old) (Network new) given h = refl
takes octets now result (Network old) (User new) given h = absurd h
takes octets now result (User old) (Network new) given h = absurd h
takes octets now result (User old) (User new) given h = refl

pub answers : (request : Request) (now : ℕ) (result : Result ⊤ SideFault) (old new : EitherSide)
    (given : Effects) → Answers request now result old new given → side_of new ≡ side_of old
answers request now result (Network old) (Network new) given h = refl
answers request now result (Network old) (User new) given h = absurd h
answers request now result (User old) (Network new) given h = absurd h
answers request now result (User old) (User new) given h = refl

pub gives : (id : LinkId) (octets : List ℕ) (now : ℕ) (result : Result ⊤ SideFault)
    (old new : EitherSide) (given : Effects) → Gives id octets now result old new given
    → side_of new ≡ side_of old
gives id octets now result old new given h = elim h [
  | inl none ↦ ap side_of none.unchanged
  | inr some ↦ answers (Give id some.message) now result old new given some.asks
]

expires : (now : ℕ) (old new : EitherSide) (given : Effects) → Expires now old new given
    → side_of new ≡ side_of old
expires now (Network old) (Network new) given h = refl
expires now (Network old) (User new) given h = absurd h
expires now (User old) (Network new) given h = absurd h
expires now (User old) (User new) given h = refl

idles : (now : ℕ) (old new : EitherSide) → StaysIdle now old new → side_of new ≡ side_of old
idles now (Network old) (Network new) h = refl
idles now (Network old) (User new) h = absurd h
idles now (User old) (Network new) h = absurd h
idles now (User old) (User new) h = refl

pub sets : (durations : Lengths) (old new : EitherSide) → SetsDurations durations old new
    → side_of new ≡ side_of old
sets durations (Network old) (Network new) h = refl
sets durations (Network old) (User new) h = absurd h
sets durations (User old) (Network new) h = absurd h
sets durations (User old) (User new) h = refl

-- ---- Counters.

-- the octets are counted before the call, and its results after it
in_parts : (own : Side) (octets : List ℕ) (given : Effects) (counts : Option (List LinkCount))
    → option_map (call_counted own [] given)
    (option_map (λ c. received_counted own c octets) counts)
    ≡ option_map (call_counted own octets given) counts
unfolding call_counted received_counted
in_parts own octets given None = refl
in_parts own octets given (Some counts) = refl

pub in_turn : (octets : List ℕ) (old new : EitherSide) (given : Effects)
    (before between after : Option (List LinkCount)) → side_of new ≡ side_of old
    → between ≡ option_map (λ c. received_counted (side_of old) c octets) before
    → after ≡ option_map (call_counted (side_of new) [] given) between
    → after ≡ option_map (call_counted (side_of new) octets given) before
in_turn octets old new given before between after own e f =
    f
    ∙ ap (option_map (call_counted (side_of new) [] given))
    (e ∙ ap (λ (s : Side). option_map (λ c. received_counted s c octets) before) (sym own))
    ∙ in_parts (side_of new) octets given before

-- one call
pub one : (octets : List ℕ) (given : Effects) (old new : HeldSide)
    → side_of new.queued.side ≡ side_of old.queued.side
    → new.counts ≡ option_map (call_counted (side_of new.queued.side) octets given) old.counts
    → Adds (one_call octets given) old new
one octets given old new kind counts = record {
  kind = kind;
  counts =
      subst (λ (own : Side). new.counts ≡ option_map (call_counted own octets given) old.counts)
      kind counts;
}

-- no call
same_counts : (own : Side) (counts : Option (List LinkCount))
    → counts ≡ option_map (with_calls own []) counts
same_counts own None = refl
same_counts own (Some counts) = refl

pub none : (old new : HeldSide) → side_of new.queued.side ≡ side_of old.queued.side
    → new.counts ≡ old.counts → Adds [] old new
none old new kind counts =
    record { kind = kind; counts = counts ∙ same_counts (side_of old.queued.side) old.counts }

-- calls after others
counted_on : (own : Side) (first second : List CountedCall)
    (before between after : Option (List LinkCount))
    → between ≡ option_map (with_calls own first) before
    → after ≡ option_map (with_calls own second) between
    → after ≡ option_map (with_calls own (first ++ second)) before
counted_on own first second None between after e f = f ∙ ap (option_map (with_calls own second)) e
counted_on own first second (Some counts) between after e f =
    f ∙ ap (option_map (with_calls own second)) e
    ∙ ap (λ (c : List LinkCount). Some c)
    (sym (fold-append (with_call own) counts first second))

pub both : (first second : List CountedCall) (old mid new : HeldSide) → Adds first old mid
    → Adds second mid new → Adds (first ++ second) old new
both first second old mid new g h = record {
  kind = h.kind ∙ g.kind;
  counts =
      counted_on (side_of old.queued.side) first second old.counts mid.counts new.counts g.counts
      (subst (λ (own : Side). new.counts ≡ option_map (with_calls own second) mid.counts) g.kind
      h.counts);
}

-- the calls that reach the side
pub ticks : (now expired code : ℕ) (old new : HeldSide) (h : HasTicked now expired old new code)
    → side_of new.queued.side ≡ side_of old.queued.side
ticks now zero code old new h = idles now old.queued.side new.queued.side (h.none refl).0
ticks now (suc zero) code old new h =
    expires now old.queued.side new.queued.side h.given (h.due refl)
ticks now (suc (suc n)) code old new h = absurd (omega (arith, h.flag))

-- the counters that are returned after these calls
returned_of : (id : LinkId) (delivered : FlatCounters) (code : ℕ) (counts : Option (List LinkCount))
    (all : List LinkCount) → counts ≡ Some all
    → ReturnsCountersOf counts id delivered code
    → (code ≡ done) × (delivered ≡ flat_counters (counters_of id all))
returned_of id delivered code counts all is h =
    subst (λ (c : Option (List LinkCount)). ReturnsCountersOf c id delivered code) is h

pub returned : (id : LinkId) (delivered : FlatCounters) (begun code : ℕ) (calls : List CountedCall)
    (old first last after : HeldSide) → HasBegunCounting old first begun
    → Adds calls first last → ReturnsCounters id delivered last after code
    → (code ≡ done)
    × (delivered
    ≡ flat_counters (counters_of id (with_calls (side_of old.queued.side) calls nothing_counted)))
returned id delivered begun code calls old first last after b h r =
    returned_of id delivered code last.counts
    (with_calls (side_of old.queued.side) calls nothing_counted)
    (subst (λ (own : Side). last.counts ≡ Some (with_calls own calls nothing_counted))
    (ap (λ (s : HeldSide). side_of s.queued.side) b.begun)
    (h.counts
    ∙ ap (λ (s : HeldSide). option_map (with_calls (side_of first.queued.side) calls)
    s.counts) b.begun)) r.counters
