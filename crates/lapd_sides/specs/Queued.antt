-- A side with its results that wait to be fetched: how each call adds to them, or fetches one.
use Rattle.std.specs.Prelude.{◌≡◌, ◌⊎◌, ℕ, ◌&&◌, nat_eq, Bool, true, false, length, drop, Result, Err, ⊤}
use Rattle.lapd_sides_links.specs.declared.side_fault.SideFault.{SideFault}
use Rattle.lapd_sides_links.specs.declared.side_fault.SideKind.TheVariants.{Memory}
use Rattle.lapd_sides_links.specs.Effects.{Effects, and_then, no_effects}
use Rattle.lapd_sides.specs.declared.either_side.EitherSide.{EitherSide}
use Rattle.lapd_sides.specs.declared.queued_side.QueuedSide.{QueuedSide}
use Rattle.lapd_sides.specs.Either.{Expires, StaysIdle}
use Rattle.lapd_sides.specs.Requests.{without_message}

-- the results of calls that are not fetched, the earlier before the later
abbrev pub waiting : QueuedSide → Effects
waiting queued = and_then queued.backlog queued.acts

-- neither a frame nor a primitive
abbrev pub gives_nothing : Effects → Bool
gives_nothing e = nat_eq (length e.frames) 0 && nat_eq (length e.primitives) 0

-- ---- Calls that add results.

-- the contract of a side's call: the side before and after, and its effects
abbrev pub Call : Type 1
Call = EitherSide → EitherSide → Effects → Type 0

-- The call is made, and its effects are appended to the waiting ones; they are the last ones.
pub record Queues (call : Call) (old new : QueuedSide) : Type 0 where
  pub given : Effects
  pub called : call old.side new.side given
  pub waits : waiting new ≡ and_then (waiting old) given
  pub last : (new.acts ≡ given) ⊎ (new.acts ≡ and_then old.acts given)

-- the waiting results cannot be moved, because an allocation fails, and nothing is changed
pub record LacksRoom (old new : QueuedSide) : Type 0 where
  pub same : new ≡ old
  pub gave : gives_nothing old.acts ≡ false

-- the waiting results are set aside, or nothing is changed
abbrev pub KeepsWaiting : QueuedSide → QueuedSide → Type 0
KeepsWaiting old new = (new ≡ old) ⊎ (new ≡ record old {
  backlog = waiting old;
  acts = no_effects;
})

-- the call is made, or an allocation fails before it
abbrev pub QueuesOrLacks : (Result ⊤ SideFault → Call) → Result ⊤ SideFault → QueuedSide
    → QueuedSide → Type 0
QueuesOrLacks call result old new =
    (result ≡ Err (without_message Memory)) × LacksRoom old new ⊎ Queues (call result) old new

-- the first due timer expires, or none is due and there are no results
abbrev pub Ticks : ℕ → Bool → Call
Ticks now true old new given = Expires now old new given
Ticks now false old new given = StaysIdle now old new × (given ≡ no_effects)

-- ---- Calls that fetch.

abbrev pub without_first_frame : Effects → Effects
without_first_frame e = record e { frames = drop 1 e.frames }

abbrev pub without_first_primitive : Effects → Effects
without_first_primitive e = record e { primitives = drop 1 e.primitives }
