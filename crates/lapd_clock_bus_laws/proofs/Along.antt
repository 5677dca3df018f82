-- T200 is timely on a bus, if it is timely in the interface of its terminal.
use Rattle.std.proofs.Common.{◌≡◌, ℕ, ◌==◌, Bool, true, false, List, [], ◌∷◌, ◌++◌, Option, Some, None, sym, ap, subst, ◌∙◌}
use Rattle.std.specs.Prelude.{slice_get, is_some}
use Rattle.std.specs.List.{AllByRecursion}
use Rattle.lapd_frame.specs.declared.Side.TheVariants as side
use Rattle.lapd_table.specs.declared.link_id.LinkId.{LinkId}
use Rattle.lapd_sides.specs.User.{User}
use Rattle.lapd_side_events.specs.Bus.{Bus, BusEvent, OfTerminal, OfNetwork, Join, Restart, KeepsTerminal, OverhearsNothing, bus_step, interface_of, moves_along, moves_of, network_moves, on_line_of, terminal_moves}
use Rattle.lapd_side_events.specs.Interface.{Configs, Interface, Move, happens, run}
use Rattle.lapd_side_events.specs.SideView.{SideEvent, SideView, Take, Lose, Expire, Ask, Overhear}
use Rattle.lapd_side_events.proofs.Indices.{same_index}
use Rattle.lapd_two_side_laws.specs.Premises.{AreTimely, IsTimely}
use Rattle.lapd_bus_laws.specs.Holdings.{KeepsHolding, LeavesAlone}
use Rattle.lapd_bus_laws.specs.Links.{IsTimelyFor, Throughout}
use Rattle.lapd_bus_laws.proofs.Followed.{one_event}
use Rattle.lapd_clock_bus_laws.specs.Buses.{HasLine, KeepsTei}

module _ (c : Configs) (id : LinkId) (i : ℕ) where
  timely_split : (ms ns : List Move) (k : Interface) → AreTimely c id (ms ++ ns) k
      → AreTimely c id ms k × AreTimely c id ns (run c ms k)
  timely_split [] ns k h = (tt, h)
  timely_split (m ∷ ms) ns k h =
      let rest = timely_split ms ns (happens c m k) h.1 in ((h.0, rest.0), rest.1)

  -- ---- One event.

  module _ (t : SideView User) (b : Bus) (at : slice_get b.terminals i ≡ Some t) where
    same_terminal : (u : SideView User) → slice_get b.terminals i ≡ Some u → t ≡ u
    same_terminal u there = cc

    of_terminal : (j : ℕ) (event : SideEvent)
        → AreTimely c id (terminal_moves (j == i) event) (interface_of t b)
        → IsTimelyFor id i (OfTerminal j event) b
    of_terminal j event timely same u there =
        let its : AreTimely c id (terminal_moves true event) (interface_of t b) =
        subst (λ (test : Bool). AreTimely c id (terminal_moves test event) (interface_of t b))
        (ap (λ (k : ℕ). k == i) same ∙ same_index i) timely in
        subst (λ (x : SideView User). IsTimely side.User id event x) (same_terminal u there) its.0

    -- whichever terminal's line the network event is with
    with_line : (event : SideEvent) (test : Bool) (o : Option (SideView User))
        → is_some o ≡ true → OverhearsNothing event
        → AreTimely c id (network_moves test event o) (interface_of t b)
        → IsTimely side.Network id event (on_line_of t b)
    with_line event test None there ok timely = (let no : false ≡ true = there in cc)
    with_line event true (Some u) there ok timely = timely.0
    with_line (Take now) false (Some u) there ok timely = tt
    with_line (Lose place) false (Some u) there ok timely = tt
    with_line (Expire timer of now) false (Some u) there ok timely = timely.0
    with_line (Ask request now) false (Some u) there ok timely = tt
    with_line (Overhear octets now) false (Some u) there ok timely = absurd ok

    of_network : (j : ℕ) (event : SideEvent) → OverhearsNothing event
        → is_some (slice_get b.terminals j) ≡ true
        → AreTimely c id (network_moves (j == i) event (slice_get b.terminals j))
        (interface_of t b)
        → IsTimelyFor id i (OfNetwork j event) b
    of_network j event ok line timely u there =
        subst (λ (x : SideView User). IsTimely side.Network id event (on_line_of x b))
        (same_terminal u there)
        (with_line event (j == i) (slice_get b.terminals j) line ok timely)

    one_timely : (e : BusEvent) → KeepsTerminal i e → HasLine e b
        → AreTimely c id (moves_of i e b) (interface_of t b) → IsTimelyFor id i e b
    one_timely (OfTerminal j event) ok line timely = of_terminal j event timely
    one_timely (OfNetwork j event) ok line timely = of_network j event ok line timely
    one_timely (Join j new) ok line timely = tt
    one_timely (Restart known) ok line timely = tt

  -- ---- All events.

  pub timely_along : (events : List BusEvent) (t : SideView User) (b : Bus)
      → AllByRecursion (KeepsTerminal i) events → slice_get b.terminals i ≡ Some t
      → Throughout c HasLine events b → AreTimely c id (moves_along c i events b) (interface_of t b)
      → Throughout c (IsTimelyFor id i) events b
  timely_along [] t b ok at lines timely = tt
  timely_along (e ∷ es) t b ok at lines timely =
      let first = one_event c i e t b ok.0 at in
      let both = timely_split (moves_of i e b) (moves_along c i es (bus_step c e b))
      (interface_of t b) timely in (
        one_timely t b at e ok.0 lines.0 both.0,
        timely_along es first.terminal (bus_step c e b) ok.1 first.there lines.1
            (subst (AreTimely c id (moves_along c i es (bus_step c e b))) (sym first.moved)
            both.1),
      )

  -- ---- A holding.

  keeps_terminal : (e : BusEvent) → LeavesAlone id.tei i e → KeepsTerminal i e
  keeps_terminal (OfTerminal j event) h = h
  keeps_terminal (OfNetwork j event) h = h
  keeps_terminal (Join j new) h = h.0
  keeps_terminal (Restart known) h = h

  all_keep_terminal : (events : List BusEvent) (b : Bus)
      → Throughout c (KeepsTei c id i) events b → AllByRecursion (KeepsTerminal i) events
  all_keep_terminal [] b h = tt
  all_keep_terminal (e ∷ es) b h =
      (keeps_terminal e h.0.leaves, all_keep_terminal es (bus_step c e b) h.1)

  all_lines : (events : List BusEvent) (b : Bus) → Throughout c (KeepsTei c id i) events b
      → Throughout c HasLine events b
  all_lines [] b h = tt
  all_lines (e ∷ es) b h = (h.0.line, all_lines es (bus_step c e b) h.1)

  both_keep : (events : List BusEvent) (b : Bus) → Throughout c (KeepsTei c id i) events b
      → Throughout c (IsTimelyFor id i) events b → Throughout c (KeepsHolding c id i) events b
  both_keep [] b h timely = tt
  both_keep (e ∷ es) b h timely = (
    record {
      leaves = h.0.leaves;
      timely = timely.0;
      assigns = h.0.assigns;
      requests = h.0.requests;
    },
    both_keep es (bus_step c e b) h.1 timely.1,
  )

  pub holding_kept : (events : List BusEvent) (t : SideView User) (b : Bus)
      → slice_get b.terminals i ≡ Some t → Throughout c (KeepsTei c id i) events b
      → AreTimely c id (moves_along c i events b) (interface_of t b)
      → Throughout c (KeepsHolding c id i) events b
  holding_kept events t b at keeps timely = both_keep events b keeps
      (timely_along events t b (all_keep_terminal events b keeps) at (all_lines events b keeps)
      timely)
