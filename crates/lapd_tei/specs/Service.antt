-- A bus in service (Q.921 5.3): what holds at every moment, and the premises on each event. Besides
-- the moves of a bus, layer 3 of a terminal can request a link, terminals with or without a fixed
-- TEI can replace others, and the network side starts with known TEIs and can restart.
use Rattle.std.specs.Prelude.{◌≡◌, ℕ, ◌≤◌, Bool, true, List, [], ◌∷◌, set, replicate, slice_get, Option, Some, None}
use Rattle.std.specs.List.{All, AllByRecursion}
use Rattle.lapd_tei.specs.declared.phase.Phase.{Phase}
use Rattle.lapd_tei.specs.declared.phase.Phase.TheVariants.{Unassigned}
use Rattle.lapd_tei.specs.declared.terminal.TerminalEvent.TheVariants as event
use Rattle.lapd_tei.specs.declared.bus_move.BusMove.{BusMove}
use Rattle.lapd_tei.specs.declared.bus_move.BusMove.TheVariants as move
use Rattle.lapd_tei.specs.Out.{sent}
use Rattle.lapd_tei.specs.Terminal.{tei_of, reference_of, new_terminal}
use Rattle.lapd_tei.specs.Assigner.{known_held, is_held}
use Rattle.lapd_tei.specs.Bus.{BusState, BusStep, to_terminal, done, moved}
use Rattle.lapd_tei.specs.Single.{Single, references, freed, assigned_by, IsNobodys}

-- An event: a move of the bus; layer 3 of the terminal at an index requests a link, with this
-- reference if a TEI must be requested (5.3.2); a terminal with or without a fixed TEI replaces the
-- one at an index; or the network side restarts with the TEIs that it knows.
pub data BusEvent : Type 0 where
  Move : BusMove → BusEvent
  Want : ℕ → ℕ → BusEvent
  Join : ℕ → Option ℕ → BusEvent
  Restart : List ℕ → BusEvent

-- this many terminals without a TEI, and a network side that knows these TEIs
abbrev pub in_service : ℕ → List ℕ → BusState
in_service terminals known = record {
  terminals = replicate terminals Unassigned;
  assigner = known_held known;
  down = [];
  up = [];
}

abbrev pub joined_by : BusState → ℕ → Option ℕ → BusState
joined_by b t fixed = record {
  terminals = set b.terminals t (new_terminal fixed);
  assigner = b.assigner;
  down = b.down;
  up = b.up;
}

abbrev pub restarted_with : BusState → List ℕ → BusState
restarted_with b known = record {
  terminals = b.terminals;
  assigner = known_held known;
  down = b.down;
  up = b.up;
}

-- one event: the bus after it, and the outputs of the terminal or assigner concerned
abbrev pub event_step : BusState → BusEvent → BusStep
event_step b (Move m) = moved b m
event_step b (Want t ri) = done b (to_terminal b t (event.Want ri))
event_step b (Join t fixed) = record { now = joined_by b t fixed; outs = [] }
event_step b (Restart known) = record { now = restarted_with b known; outs = [] }

-- the bus after these events, in order
abbrev pub after_events : BusState → List BusEvent → BusState
after_events b [] = b
after_events b (e ∷ es) = after_events (event_step b e).now es

-- ---- Properties that hold at every moment.

-- the TEI, if any, is held if it is one that the network assigns, from 64 on (3.3.4.2)
abbrev pub IsKnown : List Bool → Option ℕ → Type 0
IsKnown held None = Unit {0}
IsKnown held (Some tei) = 64 ≤ tei → is_held held tei ≡ true

-- each TEI that a terminal holds or an assignment in transit carries is held
pub record KnowsInUse (held : List Bool) (b : BusState) : Type 0 where
  pub terminals : All (λ t. IsKnown held (tei_of t)) b.terminals
  pub assignments : All (λ f. IsKnown held (assigned_by f.message.kind f.message.ai)) b.down

-- the assigner holds the TEIs in use
abbrev pub HoldsInUse : BusState → Type 0
HoldsInUse b = KnowsInUse b.assigner.held b

-- no two terminals hold the same TEI, and the assigner holds those in use
pub record IsInOrder (b : BusState) : Type 0 where
  pub single : Single b
  pub held : HoldsInUse b

-- if this event restarts the network side, it knows this TEI
abbrev pub KnowsAnew : BusEvent → ℕ → Type 0
KnowsAnew (Restart known) tei = is_held (known_held known).held tei ≡ true
KnowsAnew other tei = Unit {0}

-- ---- The premises on an event, in the bus that it is applied to.

-- the last reference of the terminal at this index, outstanding or of the request that obtained its
-- TEI, is this one
pub record HasReference (b : BusState) (place ri : ℕ) : Type 0 where
  pub terminal : Phase
  pub there : slice_get b.terminals place ≡ Some terminal
  pub its : reference_of terminal ≡ Some ri

-- no terminal except the one at this index has this reference
abbrev pub IsNoOthers : BusState → Option ℕ → ℕ → Type 0
IsNoOthers b place ri = (i : ℕ) → HasReference b i ri → place ≡ Some i

-- the index of the terminal that a move concerns
abbrev pub place_of_move : BusMove → Option ℕ
place_of_move (move.Ask t ri) = Some t
place_of_move (move.T202 t ri) = Some t
place_of_move (move.Hear i t ri) = Some t
place_of_move (move.Leave t) = Some t
place_of_move other = None

abbrev pub place_of_event : BusEvent → Option ℕ
place_of_event (Move m) = place_of_move m
place_of_event (Want t ri) = Some t
place_of_event (Join t fixed) = Some t
place_of_event (Restart known) = None

-- the event requests a TEI only by a reference that is not another terminal's last one
abbrev pub AsksByItsOwn : BusState → BusEvent → Type 0
AsksByItsOwn b e = AllByRecursion (IsNoOthers b (place_of_event e))
    (references (sent (event_step b e).outs))

-- a check or a removal frees a TEI only while no terminal holds it and no assignment of it is in
-- transit
abbrev pub FreesNobodysTei : BusState → BusEvent → Type 0
FreesNobodysTei b e = AllByRecursion (IsNobodys b) (freed (event_step b e).outs)

-- a network side that restarts knows the TEIs in use
abbrev pub RestartsKnowing : BusState → BusEvent → Type 0
RestartsKnowing b (Restart known) = KnowsInUse (known_held known).held b
RestartsKnowing b other = Unit {0}

-- a terminal that joins with a fixed TEI has one that the network side knows, that no terminal
-- holds, and that no assignment in transit carries
abbrev pub JoinsByItsOwn : BusState → BusEvent → Type 0
JoinsByItsOwn b (Join t (Some tei)) = IsNobodys b tei × IsKnown b.assigner.held (Some tei)
JoinsByItsOwn b other = Unit {0}

-- the premise holds for each of these events, in the bus that the event is applied to
abbrev pub Throughout : (BusState → BusEvent → Type 0) → BusState → List BusEvent → Type 0
Throughout P b [] = Unit {0}
Throughout P b (e ∷ es) = P b e × Throughout P (event_step b e).now es

-- no TEI in use is lost in a run
pub record LosesNone (b : BusState) (events : List BusEvent) : Type 0 where
  pub freeing : Throughout FreesNobodysTei b events
  pub restarting : Throughout RestartsKnowing b events
  pub joining : Throughout JoinsByItsOwn b events

-- all premises on a run
pub record MeetsInService (b : BusState) (events : List BusEvent) : Type 0 where
  pub asking : Throughout AsksByItsOwn b events
  pub losing_none : LosesNone b events

-- Three premises are not enough: a run of two terminals meets them, and both end up with the same
-- TEI.
pub record AreNotEnough (P Q R : BusState → BusEvent → Type 0) (events : List BusEvent)
    : Type 0 where
  pub first : Throughout P (in_service 2 []) events
  pub second : Throughout Q (in_service 2 []) events
  pub third : Throughout R (in_service 2 []) events
  pub doubled : Single (after_events (in_service 2 []) events) → ⊥
