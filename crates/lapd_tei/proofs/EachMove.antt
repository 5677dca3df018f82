-- The kinds of moves of a bus. A property of each kind holds for every move.
use Rattle.std.proofs.Common.{◌≡◌, ℕ, Bool, true, false, [], slice_get, Option, Some, None, refl}
use Rattle.std.specs.Prelude.{slice_index_or}
use Rattle.std.specs.List.{remove}
use Rattle.lapd_tei.specs.declared.message.TeiMessage.{TeiMessage}
use Rattle.lapd_tei.specs.declared.phase.Phase.{Phase}
use Rattle.lapd_tei.specs.declared.phase.Phase.TheVariants.{Unassigned, Awaiting, Assigned}
use Rattle.lapd_tei.specs.declared.terminal.TerminalEvent.{TerminalEvent}
use Rattle.lapd_tei.specs.declared.terminal.TerminalEvent.TheVariants as event
use Rattle.lapd_tei.specs.declared.assigner.AssignerEvent.{AssignerEvent}
use Rattle.lapd_tei.specs.declared.assigner.AssignerEvent.TheVariants as assigner
use Rattle.lapd_tei.specs.declared.check.Check.{Check}
use Rattle.lapd_tei.specs.declared.bus_move.BusMove.{BusMove}
use Rattle.lapd_tei.specs.declared.bus_move.BusMove.TheVariants as move
use Rattle.lapd_tei.specs.Terminal.{terminal_step}
use Rattle.lapd_tei.specs.Assigner.{assigner_step}
use Rattle.lapd_tei.specs.Bus.{BusState, BusStep, Broadcast, terminal_did, assigner_did, terminal_has, t202_expires, t201_expires, terminal_receives, reaches_terminal, with_mark, drops_down, drops_up, network_receives, without_up, moved, done}
use Rattle.lapd_tei.specs.Service.{place_of_move}

-- an event of a terminal that is not a message
abbrev pub ReceivesNothing : TerminalEvent → Type 0
ReceivesNothing (event.Heard m ri) = ⊥
ReceivesNothing other = Unit {0}

-- a message from the network side in transit is lost
abbrev pub without_down : BusState → ℕ → BusState
without_down b i =
    record { terminals = b.terminals; assigner = b.assigner; down = remove b.down i; up = b.up }

pub record EachWay (b : BusState) (G : Option ℕ → BusStep → Type 0) : Type 0 where
  pub refused : (place : Option ℕ) → G place (record { now = b; outs = [] })
  pub does : (t : ℕ) (phase : Phase) (e : TerminalEvent) → slice_get b.terminals t ≡ Some phase
      → ReceivesNothing e → G (Some t) (terminal_did b t (terminal_step phase e))
  pub reaches_terminal : (i t ri : ℕ) (f : Broadcast) (phase : Phase) → slice_get b.down i ≡ Some f
      → slice_get b.terminals t ≡ Some phase
      → G (Some t)
      (terminal_did (with_mark b i t f) t (terminal_step phase (event.Heard f.message ri)))
  pub lost_down : (i : ℕ) → G None (record { now = without_down b i; outs = [] })
  pub lost_up : (i : ℕ) → G None (record { now = without_up b i; outs = [] })
  pub assigner_does : (e : AssignerEvent) → G None (assigner_did b (assigner_step b.assigner e))
  pub network_receives : (i : ℕ) (m : TeiMessage)
      → G None (assigner_did (without_up b i) (assigner_step b.assigner (assigner.Heard m)))

pub terminal_way : (b : BusState) (G : Option ℕ → BusStep → Type 0) → EachWay b G
    → (t : ℕ) (o : Option Phase) (e : TerminalEvent) → slice_get b.terminals t ≡ o
    → ReceivesNothing e
    → G (Some t) (done b (terminal_has b t o e))
terminal_way b G way t None e there silent = way.refused (Some t)
terminal_way b G way t (Some phase) e there silent = way.does t phase e there silent

t202_way : (b : BusState) (G : Option ℕ → BusStep → Type 0) → EachWay b G
    → (t ri : ℕ) (o : Option Phase) → slice_get b.terminals t ≡ o
    → G (Some t) (done b (t202_expires b t ri o))
t202_way b G way t ri (Some (Awaiting purpose count own)) there =
    way.does t (Awaiting purpose count own) (event.T202 ri) there tt
t202_way b G way t ri None there = way.refused (Some t)
t202_way b G way t ri (Some Unassigned) there = way.refused (Some t)
t202_way b G way t ri (Some (Assigned by tei)) there = way.refused (Some t)

t201_way : (b : BusState) (G : Option ℕ → BusStep → Type 0) → EachWay b G → (o : Option Check)
    → G None (done b (t201_expires b o))
t201_way b G way None = way.refused None
t201_way b G way (Some check) = way.assigner_does assigner.T201

receives_once_way : (b : BusState) (G : Option ℕ → BusStep → Type 0) → EachWay b G
    → (i t ri : ℕ) (f : Broadcast) (phase : Phase) (before : Bool)
    → slice_get b.down i ≡ Some f → slice_get b.terminals t ≡ Some phase
    → G (Some t) (done b (reaches_terminal b i t ri f phase before))
receives_once_way b G way i t ri f phase true flies there = way.refused (Some t)
receives_once_way b G way i t ri f phase false flies there =
    way.reaches_terminal i t ri f phase flies there

receives_way : (b : BusState) (G : Option ℕ → BusStep → Type 0) → EachWay b G
    → (i t ri : ℕ) (f : Option Broadcast) (o : Option Phase)
    → slice_get b.down i ≡ f → slice_get b.terminals t ≡ o
    → G (Some t) (done b (terminal_receives b i t ri f o))
receives_way b G way i t ri (Some f) (Some phase) flies there =
    receives_once_way b G way i t ri f phase (slice_index_or f.reception t false) flies there
receives_way b G way i t ri None None flies there = way.refused (Some t)
receives_way b G way i t ri None (Some phase) flies there = way.refused (Some t)
receives_way b G way i t ri (Some f) None flies there = way.refused (Some t)

drops_down_way : (b : BusState) (G : Option ℕ → BusStep → Type 0) → EachWay b G
    → (i : ℕ) (f : Option Broadcast) → G None (done b (drops_down b i f))
drops_down_way b G way i None = way.refused None
drops_down_way b G way i (Some f) = way.lost_down i

drops_up_way : (b : BusState) (G : Option ℕ → BusStep → Type 0) → EachWay b G
    → (i : ℕ) (m : Option TeiMessage) → G None (done b (drops_up b i m))
drops_up_way b G way i None = way.refused None
drops_up_way b G way i (Some m) = way.lost_up i

network_way : (b : BusState) (G : Option ℕ → BusStep → Type 0) → EachWay b G
    → (i : ℕ) (m : Option TeiMessage) → G None (done b (network_receives b i m))
network_way b G way i None = way.refused None
network_way b G way i (Some m) = way.network_receives i m

pub each_move : (b : BusState) (G : Option ℕ → BusStep → Type 0) → EachWay b G → (m : BusMove)
    → G (place_of_move m) (moved b m)
each_move b G way (move.Ask t ri) =
    terminal_way b G way t (slice_get b.terminals t) (event.Ask ri) refl tt
each_move b G way (move.T202 t ri) = t202_way b G way t ri (slice_get b.terminals t) refl
each_move b G way (move.Hear i t ri) =
    receives_way b G way i t ri (slice_get b.down i) (slice_get b.terminals t) refl refl
each_move b G way (move.Drop i) = drops_down_way b G way i (slice_get b.down i)
each_move b G way (move.HearUp i) = network_way b G way i (slice_get b.up i)
each_move b G way (move.DropUp i) = drops_up_way b G way i (slice_get b.up i)
each_move b G way (move.Check tei) = way.assigner_does (assigner.Check tei)
each_move b G way (move.Remove tei) = way.assigner_does (assigner.Remove tei)
each_move b G way move.T201 = t201_way b G way b.assigner.check
each_move b G way (move.Leave t) =
    terminal_way b G way t (slice_get b.terminals t) event.Leave refl tt
