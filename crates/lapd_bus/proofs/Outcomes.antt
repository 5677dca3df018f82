-- An outcome with weaker facts of the event, and of the state in which nothing has happened.
use Rattle.std.proofs.Common.{ℕ, List, Result}
use Rattle.lapd_sides_links.specs.declared.side_fault.SideKind.{SideKind}
use Rattle.lapd_sides_links.specs.Links.{Reaction, Served}
use Rattle.lapd_sides.specs.declared.request.Request.{Request}
use Rattle.lapd_side_events.specs.SideView.{SideEvent, Take, Lose, Expire, Ask}
use Rattle.lapd_bus.specs.declared.bus_move.Outcome.{Outcome}
use Rattle.lapd_bus.specs.declared.bus_move.Outcome.TheVariants as outcome
use Rattle.lapd_bus.specs.Moves.{Asks, Expires, Loses, Takes}

module _ (A B : SideEvent → Type 0) (C D : Type 0) (happens : (e : SideEvent) → A e → B e)
    (stays : C → D) where
  pub takes_so : (now : ℕ) (line : List (List ℕ)) (o : Outcome) → Takes now line A C o
      → Takes now line B D o
  takes_so now line outcome.Made h = (h.0, happens (Take now) h.1)
  takes_so now line outcome.Nothing h = (h.0, stays h.1)
  takes_so now line (outcome.Refused fault) h = h

  pub expires_so : (now : ℕ) (served : Served) (o : Outcome) → Expires now served A C o
      → Expires now served B D o
  expires_so now served outcome.Made h =
      (h.0, h.1, happens (Expire h.0.timer h.0.of now) h.2)
  expires_so now served outcome.Nothing h = (h.0, stays h.1)
  expires_so now served (outcome.Refused fault) h = h

  pub asks_so : {S : Type 0} (request : Request) (now : ℕ) (answer : Result (Reaction S) SideKind)
      (o : Outcome) → Asks request now answer A C o → Asks request now answer B D o
  asks_so request now answer outcome.Made h = (h.0, happens (Ask request now) h.1)
  asks_so request now answer outcome.Nothing h = h
  asks_so request now answer (outcome.Refused fault) h = (h.0, h.1, stays h.2)
