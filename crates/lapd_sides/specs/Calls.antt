-- How the calls of a side are specified, for the network side and the user side alike, whatever
-- side of the definition the code represented before. `Show` relates a side in code to its
-- configuration and its side of the definition.
use Rattle.std.specs.Prelude.{◌≡◌, ℕ, Option, Some, None, Result, Ok, Err, IsSome, Vec, ⊤}
use Rattle.std.specs.declared.alloc.Global.{Global}
use Rattle.lapd_timers.specs.declared.timer.Timer.{Timer}
use Rattle.lapd_timers.specs.Durations.{Lengths}
use Rattle.lapd_table.specs.declared.link_id.LinkId.{LinkId}
use Rattle.lapd_sides_links.specs.declared.config.Config.{Config}
use Rattle.lapd_sides_links.specs.declared.running_timer.RunningTimer.{RunningTimer}
use Rattle.lapd_sides_links.specs.declared.side_fault.SideFault.{SideFault}
use Rattle.lapd_sides_links.specs.declared.side_fault.SideKind.{SideKind}
use Rattle.lapd_sides_links.specs.Effects.{Effects, and_then, no_effects}
use Rattle.lapd_sides_links.specs.Expiries.{IsDue}
use Rattle.lapd_sides_links.specs.Links.{Reaction, served_with_durations}
use Rattle.lapd_sides.specs.Shows.{Step, RequestOutcome}
use Rattle.lapd_sides.specs.SideState.{SideState}

-- ---- The result of a call.

-- a step has been taken: the side represents the state after it, and its effects are in `acts`
pub record HasDone {C S : Type 0} (Show : C → Config → S → Type 0) (code : C) (config : Config)
    (acts : Effects) (a : Reaction S) : Type 0 where
  pub shown : Show code config a.after
  pub given : acts ≡ a.effects

-- A step has been taken after others: the side represents the state after it, and its effects are
-- appended to theirs.
pub record HasFollowed {C S : Type 0} (Show : C → Config → S → Type 0) (code : C)
    (config : Config) (before after : Effects) (a : Reaction S) : Type 0 where
  pub shown : Show code config a.after
  pub given : after ≡ and_then before a.effects

-- a request has been executed, and not refused
pub record HasGranted {C S : Type 0} (Show : C → Config → S → Type 0) (code : C)
    (config : Config) (acts : Effects) (outcome : Result (Reaction S) SideKind) : Type 0 where
  pub acted : Reaction S
  pub is : outcome ≡ Ok acted
  pub done : HasDone Show code config acts acted

-- the step of a timer's expiry
abbrev pub Expiry : Type 0 → Type 0
Expiry S = Config → ℕ → Timer → Option LinkId → S → Reaction S

-- the first due timer has expired
pub record HasExpired {C M : Type 0} (Show : C → Config → SideState M → Type 0)
    (expires : Expiry (SideState M)) (code : C) (config : Config) (acts : Effects) (now : ℕ)
    (s : SideState M) : Type 0 where
  pub expiry : RunningTimer
  pub due : IsDue now s.served (Some expiry)
  pub done : HasDone Show code config acts (expires config now expiry.timer expiry.of s)

-- ---- How calls are specified.

-- every side that the code represents has this property
abbrev pub EachShown : {C S : Type 0} → (C → Config → S → Type 0) → C → (S → Type 0) → Type 0
EachShown {C} {S} Show code IsSo = (config : Config) (s : S) → Show code config s → IsSo s

-- the call represents what it represented before
abbrev pub ShowsSideAsBefore : {C S : Type 0} → (C → Config → S → Type 0) → C → C → Type 0
ShowsSideAsBefore {C} {S} Show old new =
    (config : Config) (s : S) → Show old config s → Show new config s

abbrev pub with_durations : {M : Type 0} → Lengths → SideState M → SideState M
with_durations durations s = record s { served = served_with_durations durations s.served }

-- The call sets the durations of the side, for timers that are started from then on.
abbrev pub SetsDurations : {C M : Type 0} → (C → Config → SideState M → Type 0) → C → C → Lengths
    → Type 0
SetsDurations {C} {M} Show old new durations =
    (config : Config) (s : SideState M) → Show old config s
    → Show new (record config { durations = durations }) (with_durations durations s)

-- the call takes this step
abbrev pub SideDoes : {C S : Type 0} → (C → Config → S → Type 0) → C → C → Effects → Step S → Type 0
SideDoes {C} {S} Show old new acts step =
    (config : Config) (s : S) → Show old config s → HasDone Show new config acts (step config s)

-- the call takes this step after others, whose effects are in `before`
abbrev pub Follows : {C S : Type 0} → (C → Config → S → Type 0) → C → C → Effects → Effects
    → Step S → Type 0
Follows {C} {S} Show old new before after step =
    (config : Config) (s : S) → Show old config s
    → HasFollowed Show new config before after (step config s)

-- an allocation failed, which happens only for the links of a TEI that is assigned or obtained: the
-- side is unchanged and `acts` is empty
pub record LacksMemory {C S : Type 0} (Show : C → Config → S → Type 0) (old new : C)
    (acts : Effects) (tei : S → Option ℕ) : Type 0 where
  pub only : EachShown Show old (λ s. IsSome (tei s))
  pub unchanged : ShowsSideAsBefore Show old new
  pub nothing : acts ≡ no_effects

-- the call processes received octets: it takes this step, or an allocation fails
abbrev pub Receives : {C S E : Type 0} → (C → Config → S → Type 0) → Result ⊤ E → C → C → Effects
    → (S → Option ℕ) → Step S → Type 0
Receives Show (Ok done) old new acts tei step = SideDoes Show old new acts step
Receives Show (Err fault) old new acts tei step = LacksMemory Show old new acts tei

-- the call executes a request
abbrev pub Grants : {C S : Type 0} → (C → Config → S → Type 0) → C → C → Effects → RequestOutcome S
    → Type 0
Grants {C} {S} Show old new acts outcome =
    (config : Config) (s : S) → Show old config s
    → HasGranted Show new config acts (outcome config s)

-- the call refuses a request, for this reason
abbrev pub SideRefusesAs : {C S : Type 0} → (C → Config → S → Type 0) → C → SideKind
    → RequestOutcome S
    → Type 0
SideRefusesAs {C} {S} Show old kind outcome =
    (config : Config) (s : S) → Show old config s → outcome config s ≡ Err kind

-- the call refuses and returns the message: the side is unchanged and `acts` is empty
pub record Refuses {C S : Type 0} (Show : C → Config → S → Type 0) (old new : C)
    (acts : Effects) (message : Option (Vec ℕ Global)) (outcome : RequestOutcome S)
    (fault : SideFault) : Type 0 where
  pub kind : SideRefusesAs Show old fault.kind outcome
  pub returned : fault.message ≡ message
  pub unchanged : ShowsSideAsBefore Show old new
  pub nothing : acts ≡ no_effects

-- the call answers a request: it executes or refuses it
abbrev pub Answers : {C S : Type 0} → (C → Config → S → Type 0) → Result ⊤ SideFault → C → C
    → Effects → Option (Vec ℕ Global) → RequestOutcome S → Type 0
Answers Show (Ok done) old new acts message outcome = Grants Show old new acts outcome
Answers Show (Err fault) old new acts message outcome =
    Refuses Show old new acts message outcome fault

-- the first due timer expires
abbrev pub Expires : {C M : Type 0} → (C → Config → SideState M → Type 0) → Expiry (SideState M)
    → C → C → Effects → ℕ → Type 0
Expires {C} {M} Show expires old new acts now =
    (config : Config) (s : SideState M) → Show old config s
    → HasExpired Show expires new config acts now s

-- nothing is due, and the side represents what it represented before
abbrev pub SideStaysIdle : {C M : Type 0} → (C → Config → SideState M → Type 0) → C → C → ℕ
    → Type 0
SideStaysIdle {C} {M} Show old new now =
    (config : Config) (s : SideState M) → Show old config s
    → IsDue now s.served None × Show new config s
