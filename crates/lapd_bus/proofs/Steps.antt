-- A call of a side in code is an event of the bus in code.
use Rattle.std.proofs.Common.{◌≡◌, ℕ, List, ◌++◌, map, set, Option, Some, sym, ap, subst, ◌∙◌}
use Rattle.std.specs.Prelude.{slice_get}
use Rattle.std.proofs.lemmas.List.{append_cancel_left}
use Rattle.lapd_sides_links.specs.declared.config.Config.{Config}
use Rattle.lapd_sides_links.specs.declared.primitive.Primitive.{Primitive}
use Rattle.lapd_sides_links.specs.Effects.{Effects}
use Rattle.lapd_sides.specs.ShowsNetwork.{ShowNetwork}
use Rattle.lapd_sides.specs.User.{User}
use Rattle.lapd_side_events.specs.Calls.{Puts, NetworkDoes, UserDoes}
use Rattle.lapd_side_events.specs.Interface.{Configs, network_behaviour, user_behaviour}
use Rattle.lapd_side_events.specs.SideView.{Behaviour, SideView, SideEvent, reaction, left, does}
use Rattle.lapd_side_events.specs.Bus as bus
use Rattle.lapd_side_events.specs.Bus.{Bus, BusEvent, OfTerminal, OfNetwork, left_of, network_did, network_does, on_line_of, terminal_does, with_terminal, bus_step}
use Rattle.lapd_bus.specs.declared.bus_move.Station.TheVariants as station
use Rattle.lapd_bus.specs.declared.side_bus.SideBus.{SideBus}
use Rattle.lapd_bus.specs.declared.terminal.Terminal.{Terminal}
use Rattle.lapd_bus.specs.Moves.{BusDoes, BusStays, TerminalDoes, TerminalStays}
use Rattle.lapd_bus.specs.Shows.{ShowBus, ShowTerminal, ShowTerminals, reached_by}
use Rattle.lapd_bus.proofs.Listed.{set_same, shown_reached, shown_set}

-- the effects of a call are those of its event
same_effects : (a b : Effects) → a.frames ≡ b.frames → a.primitives ≡ b.primitives → a ≡ b
same_effects a b frames primitives =
    ap (λ (f : List (List ℕ)). record { frames = f; primitives = a.primitives }) frames
    ∙ ap (λ (p : List Primitive). record { frames = b.frames; primitives = p }) primitives

pub effects_of : {S : Type 0} (w : Behaviour S) (acts : Effects) (event : SideEvent)
    (v : SideView S) → Puts w acts event v → acts ≡ (reaction w event v).effects
unfolding does
effects_of w acts event v puts =
    let r = (reaction w event v).effects in
    same_effects acts r
    (sym (append_cancel_left v.outgoing r.frames acts.frames puts.sent))
    (sym (append_cancel_left v.delivered r.primitives acts.primitives puts.delivered))

-- ---- A terminal.

pub terminal_does_so : (new : Terminal) (config : Config) (acts : Effects) (event : SideEvent)
    (t : SideView User) → UserDoes new.side config acts event t
    → new.incoming ≡ left event t.incoming → new.outgoing ≡ t.outgoing ++ acts.frames
    → TerminalDoes new config acts t event
unfolding does
terminal_does_so new config acts event t call incoming outgoing =
    let effects = effects_of (user_behaviour config) acts event t call.puts in
    record {
      shown = record {
        side = call.shown;
        incoming = incoming;
        outgoing = outgoing ∙ ap (λ (e : Effects). t.outgoing ++ e.frames) effects;
      };
      effects = effects;
    }

-- ---- A bus.

-- what a bus in code keeps in a move
pub record SameSides (old new : SideBus) : Type 0 where
  pub network_config : new.network_config ≡ old.network_config
  pub terminal_config : new.terminal_config ≡ old.terminal_config

module _ (c : Configs) (old new : SideBus) (acts : Effects) (at : ℕ) (t : SideView User) (b : Bus)
    (shown : ShowBus old c b) (there : slice_get b.terminals at ≡ Some t)
    (same : SameSides old new) where
  pub of_terminal : (event : SideEvent) (x : Terminal) → new.network ≡ old.network
      → new.terminals.items ≡ set old.terminals.items at x
      → TerminalDoes x c.user acts t event
      → BusDoes new c acts (station.Terminal at) t b event
  of_terminal event x network terminals h = record {
    shown = subst (ShowBus new c)
        (sym (ap (λ (o : Option (SideView User)). terminal_does c at event o b) there))
        (record {
          network_config = same.network_config ∙ shown.network_config;
          terminal_config = same.terminal_config ∙ shown.terminal_config;
          network = subst (λ n. ShowNetwork n c.network b.network) (sym network) shown.network;
          terminals = rw terminals (shown_set old.terminals.items c.user b.terminals at x
              (does (user_behaviour c.user) event t) shown.terminals h.shown);
        });
    effects = h.effects;
  }

  pub terminal_stays_so : (x : Terminal) → new.network ≡ old.network
      → new.terminals.items ≡ set old.terminals.items at x
      → TerminalStays x c.user acts t → BusStays new c acts b
  terminal_stays_so x network terminals h = record {
    shown = record {
      network_config = same.network_config ∙ shown.network_config;
      terminal_config = same.terminal_config ∙ shown.terminal_config;
      network = subst (λ n. ShowNetwork n c.network b.network) (sym network) shown.network;
      terminals = rw terminals (subst (λ (ts : List (SideView User)).
          ShowTerminals (set old.terminals.items at x) c.user ts) (set_same b.terminals at t there)
          (shown_set old.terminals.items c.user b.terminals at x t shown.terminals h.shown));
    };
    nothing = h.nothing;
  }

  -- the network took part in an event, and `x` is the terminal on whose line
  pub of_network : (event : SideEvent) (x : Terminal)
      → NetworkDoes new.network c.network acts event (on_line_of t b)
      → ShowTerminal x c.user (left_of event t)
      → new.terminals.items ≡ map (reached_by acts.frames) (set old.terminals.items at x)
      → BusDoes new c acts (station.Network at) t b event
  unfolding does
  of_network event x call line terminals =
      let effects = effects_of (network_behaviour c.network) acts event (on_line_of t b) call.puts
      in
      record {
        shown = subst (ShowBus new c)
            (sym (ap (λ (o : Option (SideView User)). network_does c at event o b) there))
            (record {
              network_config = same.network_config ∙ shown.network_config;
              terminal_config = same.terminal_config ∙ shown.terminal_config;
              network = call.shown;
              terminals = rw terminals (subst (λ (e : Effects).
                  Reached (map (reached_by acts.frames) (set old.terminals.items at x)) e) effects
                  (shown_reached (set old.terminals.items at x) c.user
                  (set b.terminals at (left_of event t)) acts.frames
                  (shown_set old.terminals.items c.user b.terminals at x (left_of event t)
                  shown.terminals line)));
            });
        effects = effects;
      }
    where
      Reached : List Terminal → Effects → Type 0
      Reached codes e = ShowTerminals codes c.user
          (map (bus.reached_by e.frames) (set b.terminals at (left_of event t)))
