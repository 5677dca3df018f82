-- The effect of a call on a held side: that of the side's own call, and the results that are
-- fetched.
use Rattle.std.specs.Prelude.{◌≡◌, ◌≤◌, ◌⊎◌, ℕ, ◌+◌, ◌-◌, ◌^◌, min, ◌++◌, ◌||◌, nat_lt, nat_le, Bool, true, false, List, [], length, drop, set, slice_get, Option, Some, None, option_map, Result, ⊤}
use Rattle.lapd_timers.specs.Durations.{Lengths}
use Rattle.lapd_link.specs.Link.{LinkRepresents}
use Rattle.lapd_link.specs.declared.link.Link.{Link}
use Rattle.lapd_link_definition.specs.End.{End}
use Rattle.lapd_table.specs.declared.link_id.LinkId.{LinkId}
use Rattle.lapd_table.specs.declared.link_table.LinkTable.{LinkTable}
use Rattle.lapd_sides_links.specs.declared.side_fault.SideKind.TheVariants.{NoLink}
use Rattle.lapd_sides_links.specs.declared.primitive.Primitive.{Primitive}
use Rattle.lapd_sides_links.specs.declared.side_fault.SideFault.{SideFault}
use Rattle.lapd_sides_links.specs.Effects.{Effects, and_then, no_effects}
use Rattle.lapd_sides.specs.declared.either_side.EitherSide.{EitherSide}
use Rattle.lapd_sides.specs.declared.queued_side.QueuedSide.{QueuedSide}
use Rattle.lapd_sides.specs.Queued as queued
use Rattle.lapd_sides.specs.Queued.{Queues, gives_nothing, without_first_frame, without_first_primitive}
use Rattle.lapd_sides.specs.declared.request.Request.{Request}
use Rattle.lapd_sides.specs.Either.{side_of, Answers, Expires, StaysIdle, SetsDurations, HasNextDeadline, HasDiscarded, HasTable}
use Rattle.lapd_tei.specs.declared.phase.Phase.{Phase}
use Rattle.lapd_c.specs.declared.flat_primitive.FlatPrimitive.{FlatPrimitive}
use Rattle.lapd_c.specs.declared.held_side.HeldSide.{HeldSide}
use Rattle.lapd_c.specs.declared.link_counters.FlatCounters.{FlatCounters}
use Rattle.lapd_c.specs.declared.link_counters.LinkCount.{LinkCount}
use Rattle.lapd_c.specs.declared.link_state.LinkState.{LinkState}
use Rattle.lapd_c.specs.Codes.{done, pending, out_of_range, check_runs, not_counting, memory, code_of, code_of_kind}
use Rattle.lapd_c.specs.Counters.{call_counted, counters_of, flat_counters, no_counters, nothing_counted}
use Rattle.lapd_c.specs.FlatPrimitives.{flat, flat_frame, nothing, octets_of}
use Rattle.lapd_c.specs.LinkStates.{state_of, no_state}
use Rattle.lapd_c.specs.SideQueries.{HasCheck, HasTerminal, link_meant, link_of_call, state_of_terminal, tei_of_terminal}

-- ---- The results that wait to be fetched.

-- the results of calls that C has not fetched, the earlier before the later
abbrev pub waiting : HeldSide → Effects
waiting held = queued.waiting held.queued

-- at least as many frames or primitives wait as the limit, so that no call may add more
abbrev pub is_full : HeldSide → Bool
is_full held = nat_le held.most_waiting (length (waiting held).frames)
    || nat_le held.most_waiting (length (waiting held).primitives)

-- ---- Calls that may add results.

-- the contract of a side's call: its result, the side before and after, and its effects
abbrev pub Call : Type 1
Call = Result ⊤ SideFault → EitherSide → EitherSide → Effects → Type 0

-- If the side counts: the counters after a call by which it receives these octets, or none, and
-- which has these effects.
abbrev pub counts_after : HeldSide → List ℕ → Effects → EitherSide → Option (List LinkCount)
counts_after old octets given side =
    option_map (call_counted (side_of side) octets given) old.counts

-- The call is made, its effects are appended to the waiting ones, and C receives the code of its
-- result. The octets are those that C passes in from the line, none for a request.
pub record HasCalled (call : Call) (octets : List ℕ) (old new : HeldSide) (code : ℕ) : Type 0 where
  pub result : Result ⊤ SideFault
  pub coded : code ≡ code_of result
  pub given : Effects
  pub called : call result old.queued.side new.queued.side given
  pub waits : waiting new ≡ and_then (waiting old) given
  pub most : new.most_waiting ≡ old.most_waiting
  pub counts : new.counts ≡ counts_after old octets given new.queued.side

-- the waiting results of the last call cannot be set aside, because an allocation fails
pub record HasNoMemory (old new : HeldSide) (code : ℕ) : Type 0 where
  pub refused : code ≡ memory
  pub same : new ≡ old
  pub gave : gives_nothing old.queued.acts ≡ false

-- If the side counts, the waiting results are set aside.
abbrev pub IsReadyIf : Option (List LinkCount) → QueuedSide → QueuedSide → Type 0
IsReadyIf None old new = new ≡ old
IsReadyIf (Some counts) old new = new ≡ record old {
  backlog = queued.waiting old;
  acts = no_effects;
}

abbrev pub IsReady : HeldSide → HeldSide → Type 0
IsReady old new = IsReadyIf old.counts old.queued new.queued

-- The call is made, or an allocation fails; if too many results wait, the call is refused. In the
-- last two cases nothing changes.
pub record Asks (call : Call) (octets : List ℕ) (old new : HeldSide) (code : ℕ) : Type 0 where
  pub refused : is_full old ≡ true → (code ≡ pending) × (new ≡ old)
  pub called : is_full old ≡ false
      → HasNoMemory old new code ⊎ HasCalled call octets old new code

-- a request of a check is executed, unless a check is in progress: then nothing changes
abbrev pub ChecksUnless : Option ℕ → Request → ℕ → HeldSide → HeldSide → ℕ → Type 0
ChecksUnless None asked now old new code = Asks (Answers asked now) [] old new code
ChecksUnless (Some tei) asked now old new code = (code ≡ check_runs) × (new ≡ old)

pub record HasRoomToCheck (asked : Request) (now : ℕ) (old new : HeldSide) (code : ℕ) : Type 0
  where
    pub check : Option ℕ
    pub has_check : HasCheck old.queued.side check
    pub begins : ChecksUnless check asked now old new code

-- if too many results wait, the check is refused, and nothing changes
pub record Checks (asked : Request) (now : ℕ) (old new : HeldSide) (code : ℕ) : Type 0 where
  pub refused : is_full old ≡ true → (code ≡ pending) × (new ≡ old)
  pub called : is_full old ≡ false → HasRoomToCheck asked now old new code

-- the first due timer has expired, or none is due and there are no results
pub record HasTicked (now expired : ℕ) (old new : HeldSide) (code : ℕ) : Type 0 where
  pub done : code ≡ done
  pub flag : expired ≤ 1
  pub given : Effects
  pub due : expired ≡ 1 → Expires now old.queued.side new.queued.side given
  pub none : expired ≡ 0 → StaysIdle now old.queued.side new.queued.side × (given ≡ no_effects)
  pub waits : waiting new ≡ and_then (waiting old) given
  pub most : new.most_waiting ≡ old.most_waiting
  pub counts : new.counts ≡ counts_after old [] given new.queued.side

-- the first due timer has expired after this, or none is due
pub record TicksReady (now : ℕ) (is_due : Bool) (old new : HeldSide) : Type 0 where
  pub ready : QueuedSide
  pub is_ready : IsReadyIf old.counts old.queued ready
  pub ticked : Queues (queued.Ticks now is_due) ready new.queued

-- no timer has expired, and nothing changes
pub record HasNotTicked (expired : ℕ) (old new : HeldSide) : Type 0 where
  pub none : expired ≡ 0
  pub same : new ≡ old

pub record Ticks (now expired : ℕ) (old new : HeldSide) (code : ℕ) : Type 0 where
  pub refused : is_full old ≡ true → (code ≡ pending) × HasNotTicked expired old new
  pub ticked : is_full old ≡ false → ((expired ≡ 0) × HasNoMemory old new code)
      ⊎ HasTicked now expired old new code

-- ---- Durations of timers.

-- the durations are set, and nothing is sent or reported
pub record HasSetTimers (durations : Lengths) (old new : HeldSide) (code : ℕ) : Type 0 where
  pub done : code ≡ done
  pub set : SetsDurations durations old.queued.side new.queued.side
  pub waits : waiting new ≡ waiting old
  pub most : new.most_waiting ≡ old.most_waiting
  pub counts : new.counts ≡ old.counts

-- ---- Counters.

-- the side counts from 0, and nothing else changes
pub record HasBegunCounting (old new : HeldSide) (code : ℕ) : Type 0 where
  pub done : code ≡ done
  pub begun : new ≡ record old { counts = Some nothing_counted }

-- the counters cannot be allocated, and nothing changes
pub record HasNotBegunCounting (old new : HeldSide) (code : ℕ) : Type 0 where
  pub refused : code ≡ memory
  pub same : new ≡ old

abbrev pub BeginsCounting : HeldSide → HeldSide → ℕ → Type 0
BeginsCounting old new code = HasNotBegunCounting old new code ⊎ HasBegunCounting old new code

-- the counters of a link; all are 0 if the side does not count
abbrev pub ReturnsCountersOf : Option (List LinkCount) → LinkId → FlatCounters → ℕ → Type 0
ReturnsCountersOf None id delivered code = (code ≡ not_counting)
    × (delivered ≡ flat_counters no_counters)
ReturnsCountersOf (Some counts) id delivered code =
    (code ≡ done) × (delivered ≡ flat_counters (counters_of id counts))

pub record ReturnsCounters (id : LinkId) (delivered : FlatCounters) (old new : HeldSide)
    (code : ℕ) : Type 0 where
  pub same : new ≡ old
  pub counters : ReturnsCountersOf old.counts id delivered code

-- ---- Queries.

-- a moment as a number: the greatest if there is none, which is LAPD_NEVER in C
abbrev pub or_never : Option ℕ → ℕ
or_never None = 18446744073709551615
or_never (Some moment) = moment

pub record ReturnsDeadline (moment : ℕ) (old new : HeldSide) (code : ℕ) : Type 0 where
  pub done : code ≡ done
  pub same : new ≡ old
  pub deadline : Option ℕ
  pub next : HasNextDeadline old.queued.side deadline
  pub is : moment ≡ or_never deadline

pub record ReturnsDiscarded (count : ℕ) (old new : HeldSide) (code : ℕ) : Type 0 where
  pub done : code ≡ done
  pub same : new ≡ old
  pub discarded : HasDiscarded old.queued.side count

-- the state of an existing link, whatever end it represents, and of one that does not exist
abbrev pub ReturnsLink : LinkState → ℕ → Option Link → Type 0
ReturnsLink delivered code None = (code ≡ code_of_kind NoLink) × (delivered ≡ no_state)
ReturnsLink delivered code (Some link) =
    (code ≡ done) × ((e : End) → LinkRepresents link e → delivered ≡ state_of e)

pub record ReturnsState (id : LinkId) (delivered : LinkState) (old new : HeldSide) (code : ℕ) :
    Type 0 where
  pub same : new ≡ old
  pub terminal : Option Phase
  pub has_terminal : HasTerminal old.queued.side terminal
  pub table : LinkTable
  pub has_table : HasTable old.queued.side table
  pub link : ReturnsLink delivered code (link_meant table (link_of_call terminal id))

-- the state and the TEI of the terminal
pub record ReturnsTerminal (state tei : ℕ) (old new : HeldSide) (code : ℕ) : Type 0 where
  pub done : code ≡ done
  pub same : new ≡ old
  pub terminal : Option Phase
  pub has_terminal : HasTerminal old.queued.side terminal
  pub is_state : state ≡ state_of_terminal terminal
  pub is_tei : tei ≡ tei_of_terminal terminal

-- ---- Calls that fetch.

-- these octets overwrite the beginning of a buffer
abbrev pub overwritten : List ℕ → List ℕ → List ℕ
overwritten octets buffer = octets ++ drop (length octets) buffer

-- a buffer before and after a call
pub record Buffer : Type 0 where
  pub before : List ℕ
  pub after : List ℕ

-- the item still waits, since the buffer is too small
pub record Stays (old new : HeldSide) (code : ℕ) (buffer : Buffer) : Type 0 where
  pub refused : code ≡ out_of_range
  pub octets : buffer.after ≡ buffer.before
  pub same : new ≡ old

-- there is no item
pub record HasNone (old new : HeldSide) (code : ℕ) (buffer : Buffer) : Type 0 where
  pub done : code ≡ done
  pub octets : buffer.after ≡ buffer.before
  pub same : new ≡ old

-- the item is fetched, and these results still wait
pub record HasFetched (octets : List ℕ) (left : Effects) (old new : HeldSide) (code : ℕ)
    (buffer : Buffer) : Type 0 where
  pub done : code ≡ done
  pub written : buffer.after ≡ overwritten octets buffer.before
  pub waits : waiting new ≡ left
  pub side : new.queued.side ≡ old.queued.side
  pub most : new.most_waiting ≡ old.most_waiting
  pub counts : new.counts ≡ old.counts

-- these octets are fetched if the buffer has room for them, and still wait otherwise
pub record Fetches (octets : List ℕ) (left : Effects) (old new : HeldSide) (code : ℕ)
    (buffer : Buffer) : Type 0 where
  pub fetched : nat_lt (length buffer.before) (length octets) ≡ false
      → HasFetched octets left old new code buffer
  pub stays : nat_lt (length buffer.before) (length octets) ≡ true → Stays old new code buffer

-- the first waiting frame, and its number of octets
abbrev pub FetchesFrameOr : Option (List ℕ) → HeldSide → HeldSide → ℕ → ℕ → Buffer → Type 0
FetchesFrameOr None old new code count buffer = (count ≡ 0) × HasNone old new code buffer
FetchesFrameOr (Some frame) old new code count buffer = (count ≡ length frame)
    × Fetches frame (without_first_frame (waiting old)) old new code buffer

abbrev pub FetchesFrame : HeldSide → HeldSide → ℕ → ℕ → Buffer → Type 0
FetchesFrame old new code count buffer =
    FetchesFrameOr (slice_get (waiting old).frames 0) old new code count buffer

-- the first waiting primitive, and its octets
abbrev pub FetchesPrimitiveOr : Option Primitive → HeldSide → HeldSide → ℕ → FlatPrimitive
    → Buffer → Type 0
FetchesPrimitiveOr None old new code delivered buffer = (delivered ≡ nothing)
    × HasNone old new code buffer
FetchesPrimitiveOr (Some primitive) old new code delivered buffer = (delivered ≡ flat primitive)
    × Fetches (octets_of primitive) (without_first_primitive (waiting old)) old new code buffer

abbrev pub FetchesPrimitive : HeldSide → HeldSide → ℕ → FlatPrimitive → Buffer → Type 0
FetchesPrimitive old new code delivered buffer =
    FetchesPrimitiveOr (slice_get (waiting old).primitives 0) old new code delivered buffer

-- the first waiting frame, otherwise the first waiting primitive
abbrev pub FetchesItemOr : Option (List ℕ) → HeldSide → HeldSide → ℕ → FlatPrimitive → Buffer
    → Type 0
FetchesItemOr None old new code item buffer = FetchesPrimitive old new code item buffer
FetchesItemOr (Some frame) old new code item buffer = (item ≡ flat_frame frame)
    × Fetches frame (without_first_frame (waiting old)) old new code buffer

abbrev pub FetchesItem : HeldSide → HeldSide → ℕ → FlatPrimitive → Buffer → Type 0
FetchesItem old new code item buffer =
    FetchesItemOr (slice_get (waiting old).frames 0) old new code item buffer

-- how many frames and primitives wait, up to the greatest number of 64 bits
abbrev pub items_waiting : HeldSide → ℕ
items_waiting held = min (length (waiting held).frames + length (waiting held).primitives)
    (2 ^ 64 - 1)

-- the same, and the number of those that still wait
pub record FetchesNext (old new : HeldSide) (code : ℕ) (item : FlatPrimitive) (left : ℕ)
    (buffer : Buffer) : Type 0 where
  pub fetched : FetchesItem old new code item buffer
  pub counted : left ≡ items_waiting new

-- ---- Text.

-- the text is written to the beginning of the buffer, with a 0 behind it if there is room
abbrev pub ended : List ℕ → List ℕ → List ℕ
ended text buffer = set (overwritten text buffer) (length text) 0

-- the text is written, if it fits
pub record ReturnsText (text : List ℕ) (code count : ℕ) (buffer : Buffer) : Type 0 where
  pub counted : count ≡ length text
  pub done : nat_lt (length buffer.before) (length text) ≡ false
      → (code ≡ done) × (buffer.after ≡ ended text buffer.before)
  pub refused : nat_lt (length buffer.before) (length text) ≡ true
      → (code ≡ out_of_range) × (buffer.after ≡ buffer.before)

-- or an allocation fails, and nothing is written
pub record ReturnsNothing (code count : ℕ) (buffer : Buffer) : Type 0 where
  pub refused : code ≡ memory
  pub counted : count ≡ 0
  pub octets : buffer.after ≡ buffer.before

abbrev pub ReturnsTextOrNothing : List ℕ → ℕ → ℕ → Buffer → Type 0
ReturnsTextOrNothing text code count buffer =
    ReturnsNothing code count buffer ⊎ ReturnsText text code count buffer
