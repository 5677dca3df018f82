-- A call of a bus in code is an event of the bus: at a terminal by the call of the terminal, at the
-- network side by the call of the side.
use Rattle.std.proofs.Common.{◌≡◌, ◌<◌, ◌≤◌, ℕ, Bool, true, false, List, [], ◌∷◌, length, map, nat_lt, set, if◌then◌else◌, Some, Result, Ok, Err, arith, refl, sym, ap, subst, ◌∙◌, slice_index_or, append-nil}
use Rattle.std.specs.List.{remove}
use Rattle.std.specs.Prelude.{slice_get, IfOk}
use Rattle.std.proofs.lemmas.Bool.Decides.{nat_tests}
use Rattle.lapd_sides_links.specs.Effects.{Effects, no_effects}
use Rattle.lapd_sides.specs.declared.request.Request.{Request}
use Rattle.lapd_sides.specs.ShowsNetwork.{ShowNetwork}
use Rattle.lapd_sides.specs.User.{User, user_requested}
use Rattle.lapd_side_events.specs.Bus.{Bus}
use Rattle.lapd_side_events.specs.Interface.{Configs}
use Rattle.lapd_side_events.specs.SideView.{SideView, SideEvent, Lose, does}
use Rattle.lapd_bus.specs.declared.bus_move.Outcome.{Outcome}
use Rattle.lapd_bus.specs.declared.bus_move.Outcome.TheVariants.{Made, Nothing}
use Rattle.lapd_bus.specs.declared.bus_move.Station.TheVariants as station
use Rattle.lapd_bus.specs.declared.side_bus.SideBus.{SideBus}
use Rattle.lapd_bus.specs.declared.terminal.Terminal.{Terminal}
use Rattle.lapd_bus.specs.Moves.{Asks, BusDoes, BusStays, Expires, Loses, Takes, TerminalDoes, TerminalStays}
use Rattle.lapd_bus.specs.Shows.{ShowBus, ShowTerminal, reached_by}
use Rattle.lapd_bus.proofs.Lines.{remove_past}
use Rattle.lapd_bus.proofs.Listed.{shown_here}
use Rattle.lapd_bus.proofs.Outcomes.{asks_so, expires_so, takes_so}
use Rattle.lapd_bus.proofs.Steps.{SameSides, of_network, of_terminal, terminal_stays_so}

-- a fact of each outcome follows from another
pub ok_so : {E : Type 0} (result : Result Outcome E) (P Q : Outcome → Type 0)
    → ((o : Outcome) → P o → Q o) → IfOk result P → IfOk result Q
ok_so (Ok o) P Q so h = so o h
ok_so (Err fault) P Q so h = tt

-- the code of the terminal at an index is replaced
pub record IsReplaced (old new : SideBus) (at : ℕ) (code x : Terminal) : Type 0 where
  pub within : at < length old.terminals.items
  pub read : code ≡ slice_index_or old.terminals.items at code
  pub network : new.network ≡ old.network
  pub terminals : new.terminals.items ≡ set old.terminals.items at x
  pub same : SameSides old new

-- ---- A terminal.

module _ (old new : SideBus) (acts : Effects) (at : ℕ) (code x : Terminal)
    (r : IsReplaced old new at code x) (c : Configs) (t : SideView User) (b : Bus)
    (shown : ShowBus old c b) (there : slice_get b.terminals at ≡ Some t) where
  pub terminal_shown : ShowTerminal code c.user t
  terminal_shown = shown_here old.terminals.items c.user b.terminals at code t shown.terminals
      r.within r.read there

  pub did : (event : SideEvent) → TerminalDoes x c.user acts t event
      → BusDoes new c acts (station.Terminal at) t b event
  did event = of_terminal c old new acts at t b shown there r.same event x r.network r.terminals

  pub stayed : TerminalStays x c.user acts t → BusStays new c acts b
  stayed = terminal_stays_so c old new acts at t b shown there r.same x r.network r.terminals

  pub terminal_takes : (now : ℕ) (o : Outcome)
      → Takes now t.incoming (TerminalDoes x c.user acts t) (TerminalStays x c.user acts t) o
      → Takes now t.incoming (BusDoes new c acts (station.Terminal at) t b) (BusStays new c acts b)
      o
  terminal_takes now o = takes_so (TerminalDoes x c.user acts t)
      (BusDoes new c acts (station.Terminal at) t b) (TerminalStays x c.user acts t)
      (BusStays new c acts b) did stayed now t.incoming o

  pub terminal_expires : (now : ℕ) (o : Outcome)
      → Expires now t.now.served (TerminalDoes x c.user acts t) (TerminalStays x c.user acts t) o
      → Expires now t.now.served (BusDoes new c acts (station.Terminal at) t b)
      (BusStays new c acts b) o
  terminal_expires now o = expires_so (TerminalDoes x c.user acts t)
      (BusDoes new c acts (station.Terminal at) t b) (TerminalStays x c.user acts t)
      (BusStays new c acts b) did stayed now t.now.served o

  pub terminal_asks : (request : Request) (now : ℕ) (o : Outcome)
      → Asks request now (user_requested c.user request now t.now) (TerminalDoes x c.user acts t)
      (TerminalStays x c.user acts t) o
      → Asks request now (user_requested c.user request now t.now)
      (BusDoes new c acts (station.Terminal at) t b) (BusStays new c acts b) o
  terminal_asks request now o = asks_so (TerminalDoes x c.user acts t)
      (BusDoes new c acts (station.Terminal at) t b) (TerminalStays x c.user acts t)
      (BusStays new c acts b) did stayed request now (user_requested c.user request now t.now) o

-- ---- Octets are lost.

within_of : (place n : ℕ) → nat_lt place n ≡ true → place < n
within_of place n h = grind (arith, nat_tests, h)

past_of : (place n : ℕ) → nat_lt place n ≡ false → n ≤ place
past_of place n h = grind (arith, nat_tests, h)

pub reached_by_none : (codes : List Terminal) → map (reached_by []) codes ≡ codes
reached_by_none [] = refl
reached_by_none (code ∷ codes) =
    ap (λ (line : List (List ℕ)). record code { incoming = line } ∷ map (reached_by []) codes)
    (append-nil code.incoming)
    ∙ ap (λ (xs : List Terminal). code ∷ xs) (reached_by_none codes)

abbrev pub with_incoming : Terminal → List (List ℕ) → Terminal
with_incoming code line = record code { incoming = line }

abbrev pub with_outgoing : Terminal → List (List ℕ) → Terminal
with_outgoing code line = record code { outgoing = line }

module _ (old new : SideBus) (at place : ℕ) (code : Terminal) (c : Configs) (t : SideView User)
    (b : Bus) (shown : ShowBus old c b) (there : slice_get b.terminals at ≡ Some t)
    (line : List (List ℕ)) where
  pub terminal_loses : (lost : Bool) → lost ≡ nat_lt place (length code.incoming)
      → line ≡ remove code.incoming place
      → IsReplaced old new at code (with_incoming code line)
      → Loses place t.incoming (BusDoes new c no_effects (station.Terminal at) t b)
      (BusStays new c no_effects b) (if lost then Made else Nothing)
  unfolding does
  terminal_loses true is removed r =
      let x = with_incoming code line in
      let its = terminal_shown old new no_effects at code x r c t b shown there in (
        subst (λ (l : List (List ℕ)). place < length l) its.incoming
            (within_of place (length code.incoming) (sym is)),
        did old new no_effects at code x r c t b shown there (Lose place) (record {
          shown = record {
            side = its.side;
            incoming = removed ∙ ap (λ (l : List (List ℕ)). remove l place) its.incoming;
            outgoing = its.outgoing ∙ sym (append-nil t.outgoing);
          };
          effects = refl;
        }),
      )
  terminal_loses false is removed r =
      let x = with_incoming code line in
      let its = terminal_shown old new no_effects at code x r c t b shown there in
      let past = past_of place (length code.incoming) (sym is) in (
        subst (λ (l : List (List ℕ)). length l ≤ place) its.incoming past,
        stayed old new no_effects at code x r c t b shown there (record {
          shown = record {
            side = its.side;
            incoming = removed ∙ (remove_past code.incoming place past ∙ its.incoming);
            outgoing = its.outgoing;
          };
          nothing = refl;
        }),
      )

  pub network_loses : (lost : Bool) → lost ≡ nat_lt place (length code.outgoing)
      → line ≡ remove code.outgoing place
      → IsReplaced old new at code (with_outgoing code line)
      → Loses place t.outgoing (BusDoes new c no_effects (station.Network at) t b)
      (BusStays new c no_effects b) (if lost then Made else Nothing)
  unfolding does
  network_loses true is removed r =
      let x = with_outgoing code line in
      let its = terminal_shown old new no_effects at code x r c t b shown there in (
        subst (λ (l : List (List ℕ)). place < length l) its.outgoing
            (within_of place (length code.outgoing) (sym is)),
        of_network c old new no_effects at t b shown there r.same (Lose place) x
            (record {
              shown = subst (λ n. ShowNetwork n c.network b.network) (sym r.network)
                  shown.network;
              puts = record { sent = refl; delivered = refl };
            })
            (record {
              side = its.side;
              incoming = its.incoming;
              outgoing = removed ∙ ap (λ (l : List (List ℕ)). remove l place) its.outgoing;
            })
            (r.terminals ∙ sym (reached_by_none (set old.terminals.items at x))),
      )
  network_loses false is removed r =
      let x = with_outgoing code line in
      let its = terminal_shown old new no_effects at code x r c t b shown there in
      let past = past_of place (length code.outgoing) (sym is) in (
        subst (λ (l : List (List ℕ)). length l ≤ place) its.outgoing past,
        stayed old new no_effects at code x r c t b shown there (record {
          shown = record {
            side = its.side;
            incoming = its.incoming;
            outgoing = removed ∙ (remove_past code.outgoing place past ∙ its.outgoing);
          };
          nothing = refl;
        }),
      )
