-- A call of a side in code is an event of the bus.
use Rattle.std.proofs.Common.{◌≡◌, ℕ, ◌==◌, List, ◌++◌, set, Bool, true, false, Option, Some, option_map, refl, sym, ap, subst, ◌∙◌}
use Rattle.std.specs.Prelude.{slice_get}
use Rattle.std.proofs.lemmas.List.{append_cancel_left}
use Rattle.std.proofs.lemmas.Option.{slice_get-map}
use Rattle.lapd_sides_links.specs.Effects.{Effects}
use Rattle.lapd_sides.specs.ShowsNetwork.{NetSide}
use Rattle.lapd_sides.specs.ShowsUser.{UserSide}
use Rattle.lapd_sides.specs.ShowsNetwork.{ShowNetwork}
use Rattle.lapd_sides.specs.User.{User}
use Rattle.lapd_side_events.specs.Calls.{NetworkDoes, UserDoes}
use Rattle.lapd_side_events.specs.Interface.{Configs, user_behaviour, network_behaviour}
use Rattle.lapd_side_events.specs.SideView.{SideView, SideEvent, reaction, does}
use Rattle.lapd_side_events.specs.Bus.{Bus, OfTerminal, OfNetwork, reached_by, left_of, on_line_of, terminal_does, network_does, network_did, bus_step}
use Rattle.lapd_side_events.specs.BusCalls.{IsOfTerminal, Reaches, IsOfNetwork}
use Rattle.lapd_side_events.proofs.Indices.{set_here, set_there, equal_index, apart_index}

-- what the terminal at an index is after an event of the network
module _ (c : Configs) (j : ℕ) (event : SideEvent) (t : SideView User) (b : Bus)
    (at : slice_get b.terminals j ≡ Some t) where
  abbrev Frames : List (List ℕ)
  Frames = (reaction (network_behaviour c.network) event (on_line_of t b)).effects.frames

  in_set : (i : ℕ) (u : SideView User) (test : Bool) → (j == i) ≡ test → slice_get b.terminals i
      ≡ Some u
      → (v : SideView User) × (slice_get (set b.terminals j (left_of event t)) i ≡ Some v)
      × (v.incoming ≡ u.incoming)
  in_set i u true is there =
      let same : j ≡ i = equal_index j i is in
      let its : Some t ≡ Some u = sym at ∙ ap (slice_get b.terminals) same ∙ there in
      let e : t ≡ u = cc in (
        left_of event t,
        subst (λ (k : ℕ).
            slice_get (set b.terminals j (left_of event t)) k ≡ Some (left_of event t)) same
            (set_here b.terminals j (left_of event t) t at),
        ap (λ (x : SideView User). x.incoming) e,
      )
  in_set i u false is there = (
    u,
    set_there b.terminals j i (left_of event t) (apart_index j i is)
        ∙ there,
    refl,
  )

  reaches : (frames : List (List ℕ)) → Frames ≡ frames → (i : ℕ) (u : SideView User)
      → slice_get b.terminals i ≡ Some u → Reaches frames i u (network_did c j event t b)
  reaches frames same i u there =
      let x = in_set i u (j == i) refl there in
      record {
        terminal = reached_by Frames x.0;
        there = slice_get-map (reached_by Frames) (set b.terminals j (left_of event t)) i
            ∙ ap (option_map (reached_by Frames)) x.1;
        received = ap (λ (line : List (List ℕ)). line ++ Frames) x.2 ∙ ap (λ (more : List (List ℕ)).
            u.incoming ++ more) same;
      }

pub of_terminal : (c : Configs) (i : ℕ) (code : UserSide) (acts : Effects) (event : SideEvent)
    (t : SideView User) (b : Bus) → slice_get b.terminals i ≡ Some t
    → UserDoes code c.user acts event t
    → IsOfTerminal c i code acts (OfTerminal i event) t b
of_terminal c i code acts event t b at call = record {
  terminal = does (user_behaviour c.user) event t;
  there = ap (λ (o : Option (SideView User)).
      slice_get (terminal_does c i event o b).terminals i) at
      ∙ set_here b.terminals i (does (user_behaviour c.user) event t) t at;
  shown = call.shown;
  sent = call.puts.sent;
  delivered = call.puts.delivered;
}

pub of_network : (c : Configs) (j : ℕ) (code : NetSide) (acts : Effects) (event : SideEvent)
    (t : SideView User) (b : Bus) → slice_get b.terminals j ≡ Some t
    → NetworkDoes code c.network acts event (on_line_of t b)
    → IsOfNetwork c code acts (OfNetwork j event) b
unfolding does
of_network c j code acts event t b at call =
    let frames = append_cancel_left t.incoming (Frames c j event t b at) acts.frames call.puts.sent
    in
    let step : bus_step c (OfNetwork j event) b ≡ network_did c j event t b =
    ap (λ (x : Option (SideView User)). network_does c j event x b) at in
    record {
      shown = subst (λ (x : Bus). ShowNetwork code c.network x.network) (sym step) call.shown;
      delivered = ap (λ (x : Bus). x.delivered) step ∙ call.puts.delivered;
      sent = λ i u there. subst (λ (x : Bus).
          Reaches acts.frames i u x) (sym step) (reaches c j event t b at acts.frames frames i u
          there);
    }
