-- The effect of a call through a handle, which may own no side.
use Rattle.std.specs.Prelude.{◌≡◌, ◌⊎◌, ℕ, List, [], Option, Some, None}
use Rattle.lapd_timers.specs.Durations.{Lengths}
use Rattle.lapd_table.specs.declared.link_id.LinkId.{LinkId}
use Rattle.lapd_sides_links.specs.declared.config.Config.{Config}
use Rattle.lapd_sides.specs.declared.either_side.EitherSide.{EitherSide}
use Rattle.lapd_sides.specs.declared.request.Request.{Request}
use Rattle.lapd_sides.specs.declared.request.Request.TheVariants as request
use Rattle.lapd_sides_links.specs.Messages.{Message, WithMessage}
use Rattle.lapd_c.specs.declared.held_side.HeldSide.{HeldSide}
use Rattle.lapd_c.specs.declared.link_counters.FlatCounters.{FlatCounters}
use Rattle.lapd_c.specs.declared.link_state.LinkState.{LinkState}
use Rattle.lapd_c.specs.Counters.{flat_counters, no_counters}
use Rattle.lapd_c.specs.LinkStates.{no_state}
use Rattle.lapd_c.specs.Calls.{Call, Asks, Checks, HasSetTimers, ReturnsCounters, ReturnsState}
use Rattle.lapd_c.specs.Codes.{done, no_side, out_of_range, memory}
use Rattle.lapd_c.specs.Owned.{Held}
use Rattle.lapd_c.specs.Settings.{IsNew}

-- If the handle owns a side, the call has the first effect on it, and the handle still owns one. If
-- it owns none, the call has the second effect, and the handle still owns none.
abbrev pub Through : (HeldSide → HeldSide → Type 0) → Type 0 → Held → Held → Type 0
Through Does Without (Some old) (Some new) = Does old new
Through Does Without (Some old) None = ⊥
Through Does Without None (Some new) = ⊥
Through Does Without None None = Without

-- a call that may add results; the octets are those that it passes in from the line
abbrev pub AsksSide : Call → List ℕ → ℕ → Held → Held → Type 0
AsksSide call octets code old new =
    Through (λ o n. Asks call octets o n code) (code ≡ no_side) old new

-- a call for a link with this SAPI and TEI; if they are not valid, it is refused, and nothing
-- changes
abbrev pub AsksLink : (LinkId → Call) → ℕ → Held → Held → Option LinkId → Type 0
AsksLink call code old new None = (code ≡ out_of_range) × (new ≡ old)
AsksLink call code old new (Some id) = AsksSide (call id) [] code old new

-- a query of the state of a link
abbrev pub ReturnsStateOf : LinkState → ℕ → Held → Held → Option LinkId → Type 0
ReturnsStateOf delivered code old new None = (code ≡ out_of_range) × (delivered ≡ no_state)
    × (new ≡ old)
ReturnsStateOf delivered code old new (Some id) =
    Through (λ o n. ReturnsState id delivered o n code)
    ((code ≡ no_side) × (delivered ≡ no_state)) old new

-- a query of the counters of a link
abbrev pub ReturnsCountersThrough : FlatCounters → ℕ → Held → Held → Option LinkId → Type 0
ReturnsCountersThrough delivered code old new None = (code ≡ out_of_range)
    × (delivered ≡ flat_counters no_counters) × (new ≡ old)
ReturnsCountersThrough delivered code old new (Some id) =
    Through (λ o n. ReturnsCounters id delivered o n code)
    ((code ≡ no_side) × (delivered ≡ flat_counters no_counters)) old new

-- a request of a check
abbrev pub ChecksSide : Request → ℕ → ℕ → Held → Held → Type 0
ChecksSide asked now code old new =
    Through (λ o n. Checks asked now o n code) (code ≡ no_side) old new

-- a check of a TEI; if it is not valid, it is refused, and nothing changes
abbrev pub AsksCheck : ℕ → ℕ → Held → Held → Option ℕ → Type 0
AsksCheck now code old new None = (code ≡ out_of_range) × (new ≡ old)
AsksCheck now code old new (Some tei) = ChecksSide (request.Check tei) now code old new

-- a call for a TEI; if it is not valid, the call is refused, and nothing changes
abbrev pub AsksTei : (ℕ → Call) → ℕ → Held → Held → Option ℕ → Type 0
AsksTei call code old new None = (code ≡ out_of_range) × (new ≡ old)
AsksTei call code old new (Some tei) = AsksSide (call tei) [] code old new

-- the durations of timers are set, if each is in its range
abbrev pub SetsTimers : ℕ → Held → Held → Option Lengths → Type 0
SetsTimers code old new None = (code ≡ out_of_range) × (new ≡ old)
SetsTimers code old new (Some durations) =
    Through (λ o n. HasSetTimers durations o n code) (code ≡ no_side) old new

-- an allocation failed, and nothing changes
pub record IsWithoutMemory (code : ℕ) (old new : Held) : Type 0 where
  pub refused : code ≡ memory
  pub same : new ≡ old

-- a call for a link with octets, whose copy may fail to be allocated
abbrev pub AsksLinkWith : (LinkId → Message → Call) → List ℕ → ℕ → Held → Held → Option LinkId
    → Type 0
AsksLinkWith call octets code old new None = (code ≡ out_of_range) × (new ≡ old)
AsksLinkWith call octets code old new (Some id) =
    IsWithoutMemory code old new
    ⊎ WithMessage octets (λ message. AsksSide (call id message) [] code old new)

-- a side is created
pub record HasMade (config : Config) (IsMade : Config → EitherSide → Type 0) (most code : ℕ)
    (new : Held) : Type 0 where
  pub done : code ≡ done
  pub held : HeldSide
  pub owned : new ≡ Some held
  pub is_new : IsNew config IsMade most held

-- Creates a side with the configuration of these settings, unless an allocation fails or a number
-- is out of range. If none is created, the handle is unchanged.
abbrev pub Makes : (Config → EitherSide → Type 0) → ℕ → ℕ → Held → Held → Option Config
    → Type 0
Makes IsMade most code old new None = (code ≡ out_of_range) × (new ≡ old)
Makes IsMade most code old new (Some config) =
    IsWithoutMemory code old new ⊎ HasMade config IsMade most code new
