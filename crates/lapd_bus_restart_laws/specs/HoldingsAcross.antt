-- The holding of a TEI on a bus whose sides also restart: it begins when the network assigns the
-- TEI, and lasts until the network assigns it again.
use Rattle.std.specs.Prelude.{◌≡◌, ℕ, List, Some}
use Rattle.lapd_table.specs.declared.link_id.LinkId.{LinkId}
use Rattle.lapd_side_events.specs.Interface.{Configs}
use Rattle.lapd_side_events.specs.Bus.{Bus, BusEvent, Join}
use Rattle.lapd_bus_laws.specs.Holdings.{IsOfBus, KeepsTeisApart, IsReached, RequestsUnanswered}
use Rattle.lapd_bus_laws.specs.Links.{IsTimelyFor, AssignsOthers}
use Rattle.lapd_bus_restart_laws.specs.BusAcross.{after_across, ThroughoutAcross}
use Rattle.lapd_bus_restart_laws.specs.LinksAcross.{RestartsQuickly}

-- A bus that is reached with restarts: from a bus that is reached (`IsReached`) these events lead
-- to it, and keep the premises on TEIs.
pub record IsReachedAcross (c : Configs) (b : Bus) : Type 0 where
  pub start : Bus
  pub first : IsReached c start
  pub events : List BusEvent
  pub apart : ThroughoutAcross c (KeepsTeisApart c) events start
  pub reached : b ≡ after_across c events start

-- no other terminal restarts with the TEI
abbrev pub OthersJoinWithout : ℕ → ℕ → BusEvent → Type 0
OthersJoinWithout tei i (Join j new) = (j ≡ i → ⊥) → new.fixed ≡ Some tei → ⊥
OthersJoinWithout tei i other = Unit {0}

-- The premises of one event in a holding of the TEI: those of `KeepsHolding`, but the network and
-- the terminal at this index may restart.
pub record KeepsHoldingAcross (c : Configs) (id : LinkId) (i : ℕ) (e : BusEvent) (b : Bus) :
    Type 0 where
  pub of_bus : IsOfBus e
  pub joins : OthersJoinWithout id.tei i e
  pub timely : IsTimelyFor id i e b
  pub assigns : AssignsOthers c id.tei e b
  pub requests : RequestsUnanswered c e b
  pub quick : RestartsQuickly c id i e b
