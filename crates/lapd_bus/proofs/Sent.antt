-- A call of a terminal in code is an event of the terminal.
use Rattle.std.proofs.Common.{◌≡◌, ℕ, List, ◌++◌, drop, Option, Some, Result, Ok, Err, refl, sym, ap, subst, ◌∙◌}
use Rattle.std.specs.Prelude.{slice_get, IfOk, IsOk, OnOk, Vec}
use Rattle.std.specs.declared.alloc.Global.{Global}
use Rattle.lapd_sides_links.specs.declared.config.Config.{Config}
use Rattle.lapd_sides_links.specs.Effects.{Effects}
use Rattle.lapd_sides.specs.declared.request.Request.{Request}
use Rattle.lapd_sides.specs.Calls as calls
use Rattle.lapd_sides.specs.ShowsUser.{ShowUser, UserSide}
use Rattle.lapd_sides.specs.SideState.{expires, takes}
use Rattle.lapd_sides.specs.User.{User, user_requested, user_rules}
use Rattle.lapd_side_events.proofs.Called.{call_requests, call_takes, call_ticks}
use Rattle.lapd_side_events.specs.SideView.{SideView, Take, Expire, Ask}
use Rattle.lapd_bus.specs.declared.bus_move.Outcome.{Outcome}
use Rattle.lapd_bus.specs.declared.bus_move.Outcome.TheVariants.{Made}
use Rattle.lapd_bus.specs.declared.terminal.Terminal.{Terminal}
use Rattle.lapd_bus.specs.Moves.{Asks, Expires, Takes, TerminalDoes, TerminalStays}
use Rattle.lapd_bus.specs.Shows.{ShowTerminal}
use Rattle.lapd_bus.proofs.Lines.{first_of, some_there}
use Rattle.lapd_bus.proofs.Steps.{terminal_does_so}

-- the frames of a call are put in transit to the network
abbrev Sends : {E : Type 0} → Result Outcome E → UserSide → List (List ℕ) → List (List ℕ)
    → Effects → Terminal → Type 0
Sends result side incoming outgoing acts new =
    OnOk result (new ≡ record { side = side; incoming = incoming; outgoing = outgoing ++ acts.frames })

pub asked : {E : Type 0} (old : Terminal) (side : UserSide) (new : Terminal) (request : Request)
    (now : ℕ) (acts : Effects) (message : Option (Vec ℕ Global)) (result : Result Outcome E)
    → calls.Grants ShowUser old.side side acts (λ config. user_requested config request now)
    → IfOk result (λ outcome. outcome ≡ Made)
    → Sends result side old.incoming old.outgoing acts new
    → IfOk result (λ outcome. (config : Config) (t : SideView User) → ShowTerminal old config t
    → Asks request now (user_requested config request now t.now) (TerminalDoes new config acts t)
    (TerminalStays new config acts t) outcome)
asked old side new request now acts message (Ok outcome) grants made sends = λ config t shown.
    let granted = grants config t.now shown.side in
    let call = call_requests ShowUser user_rules old.side side acts (Ok tt) message request now
    grants config t shown.side in
    subst (Asks request now (user_requested config request now t.now)
    (TerminalDoes new config acts t) (TerminalStays new config acts t)) (sym made) (
      subst (λ (r : Result _ _). IsOk r) (sym granted.is) refl,
      subst (λ (x : Terminal). TerminalDoes x config acts t (Ask request now)) (sym sends)
          (terminal_does_so (record {
            side = side;
            incoming = old.incoming;
            outgoing = old.outgoing ++ acts.frames;
          }) config acts (Ask request now) t call shown.incoming
          (ap (λ (line : List (List ℕ)). line ++ acts.frames) shown.outgoing)),
    )
asked old side new request now acts message (Err fault) grants made sends = tt

pub expired : {E : Type 0} (old : Terminal) (side : UserSide) (new : Terminal)
    (now : ℕ) (acts : Effects) (result : Result Outcome E)
    → calls.Expires ShowUser (expires user_rules) old.side side acts now
    → IfOk result (λ outcome. outcome ≡ Made)
    → Sends result side old.incoming old.outgoing acts new
    → IfOk result (λ outcome. (config : Config) (t : SideView User) → ShowTerminal old config t
    → Expires now t.now.served (TerminalDoes new config acts t) (TerminalStays new config acts t)
    outcome)
expired old side new now acts (Ok outcome) ticks made sends = λ config t shown.
    let call = call_ticks ShowUser user_rules old.side side acts now ticks config t shown.side in
    let event = Expire call.0.timer call.0.of now in
    subst (Expires now t.now.served (TerminalDoes new config acts t)
    (TerminalStays new config acts t)) (sym made) (
      call.0,
      call.1,
      subst (λ (x : Terminal). TerminalDoes x config acts t event) (sym sends)
          (terminal_does_so (record {
            side = side;
            incoming = old.incoming;
            outgoing = old.outgoing ++ acts.frames;
          }) config acts event t call.2 shown.incoming
          (ap (λ (line : List (List ℕ)). line ++ acts.frames) shown.outgoing)),
    )
expired old side new now acts (Err fault) ticks made sends = tt

pub taken : {E : Type 0} (old : Terminal) (side : UserSide) (line : List (List ℕ)) (new : Terminal)
    (octets : List ℕ) (now : ℕ) (acts : Effects) (result : Result Outcome E)
    → slice_get old.incoming 0 ≡ Some octets
    → calls.SideDoes ShowUser old.side side acts (λ config. takes user_rules config octets now)
    → line ≡ drop 1 old.incoming
    → IfOk result (λ outcome. outcome ≡ Made)
    → Sends result side line old.outgoing acts new
    → IfOk result (λ outcome. (config : Config) (t : SideView User) → ShowTerminal old config t
    → Takes now t.incoming (TerminalDoes new config acts t) (TerminalStays new config acts t)
    outcome)
taken old side line new octets now acts (Ok outcome) there does removed made sends =
    λ config t shown.
    let first = subst (λ (l : List (List ℕ)). slice_get l 0 ≡ Some octets) shown.incoming there in
    let call = call_takes ShowUser user_rules old.side side acts (Ok tt) octets
    (drop 1 t.incoming) now does config t shown.side (first_of t.incoming octets first) in
    subst (Takes now t.incoming (TerminalDoes new config acts t) (TerminalStays new config acts t))
    (sym made) (
      some_there t.incoming octets first,
      subst (λ (x : Terminal). TerminalDoes x config acts t (Take now)) (sym sends)
          (terminal_does_so (record {
            side = side;
            incoming = line;
            outgoing = old.outgoing ++ acts.frames;
          }) config acts (Take now) t call
          (removed ∙ ap (drop 1) shown.incoming)
          (ap (λ (l : List (List ℕ)). l ++ acts.frames) shown.outgoing)),
    )
taken old side line new octets now acts (Err fault) there does removed made sends = tt
