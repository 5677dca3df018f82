-- A call of the network side of a bus in code is an event of the bus.
use Rattle.std.proofs.Common.{◌≡◌, ◌<◌, ℕ, List, drop, length, map, set, Option, Some, Result, Ok, Err, refl, sym, ap, subst, ◌∙◌, slice_index_or}
use Rattle.std.specs.Prelude.{slice_get, IfOk, IsOk, OnOk, Vec}
use Rattle.std.specs.declared.alloc.Global.{Global}
use Rattle.lapd_sides_links.specs.Effects.{Effects}
use Rattle.lapd_sides.specs.declared.request.Request.{Request}
use Rattle.lapd_sides.specs.Calls as calls
use Rattle.lapd_sides.specs.Network.{network_requested, network_rules}
use Rattle.lapd_sides.specs.ShowsNetwork.{ShowNetwork}
use Rattle.lapd_sides.specs.SideState.{expires, takes}
use Rattle.lapd_sides.specs.User.{User}
use Rattle.lapd_side_events.proofs.Called.{call_requests, call_takes, call_ticks}
use Rattle.lapd_side_events.specs.Bus.{Bus, left_of, on_line_of}
use Rattle.lapd_side_events.specs.Calls.{NetworkDoes}
use Rattle.lapd_side_events.specs.Interface.{Configs}
use Rattle.lapd_side_events.specs.SideView.{SideView, SideEvent, Take, Expire, Ask}
use Rattle.lapd_bus.specs.declared.bus_move.Outcome.{Outcome}
use Rattle.lapd_bus.specs.declared.bus_move.Outcome.TheVariants.{Made}
use Rattle.lapd_bus.specs.declared.bus_move.Station.TheVariants as station
use Rattle.lapd_bus.specs.declared.side_bus.SideBus.{SideBus}
use Rattle.lapd_bus.specs.declared.terminal.Terminal.{Terminal}
use Rattle.lapd_bus.specs.Moves.{Asks, BusDoes, BusStays, Expires, Takes}
use Rattle.lapd_bus.specs.Shows.{ShowBus, ShowTerminal, reached_by}
use Rattle.lapd_bus.proofs.Lines.{first_of, some_there}
use Rattle.lapd_bus.proofs.Listed.{set_same, shown_at, shown_here}
use Rattle.lapd_bus.proofs.Steps.{SameSides, of_network}

-- the terminal in code at an index
pub record IsCode (bus : SideBus) (at : ℕ) (code : Terminal) : Type 0 where
  pub within : at < length bus.terminals.items
  pub read : code ≡ slice_index_or bus.terminals.items at code

-- the frames of a call are in transit to these terminals
abbrev pub SendsToAll : {E : Type 0} → Result Outcome E → Effects → List Terminal → SideBus
    → Type 0
SendsToAll result acts codes new =
    OnOk result (new.terminals.items ≡ map (reached_by acts.frames) codes)

module _ (old new : SideBus) (at : ℕ) (same : SameSides old new) (acts : Effects) (now : ℕ)
  where
    -- a fact of each outcome, on each bus that the code represented
    abbrev OnEachBus : (Configs → SideView User → Bus → Outcome → Type 0) → Outcome → Type 0
    OnEachBus P o = (c : Configs) (t : SideView User) (b : Bus) → ShowBus old c b
        → slice_get b.terminals at ≡ Some t → P c t b o

    abbrev Does : Configs → SideView User → Bus → SideEvent → Type 0
    Does c t b = BusDoes new c acts (station.Network at) t b

    -- nothing is taken from a line
    does_here : (c : Configs) (t : SideView User) (b : Bus) (event : SideEvent) → ShowBus old c b
        → slice_get b.terminals at ≡ Some t → left_of event t ≡ t
        → NetworkDoes new.network c.network acts event (on_line_of t b)
        → new.terminals.items ≡ map (reached_by acts.frames) old.terminals.items → Does c t b event
    does_here c t b event shown there stays call sent =
        let its = shown_at old.terminals.items c.user b.terminals at t shown.terminals there in
        of_network c old new acts at t b shown there same event its.code call
        (subst (ShowTerminal its.code c.user) (sym stays) its.shown)
        (sent ∙ ap (map (reached_by acts.frames))
        (sym (set_same old.terminals.items at its.code its.there)))

    pub network_taken : {E : Type 0} (code : Terminal) (octets : List ℕ) (line : List (List ℕ))
        (result : Result Outcome E) → IsCode old at code → slice_get code.outgoing 0 ≡ Some octets
        → calls.SideDoes ShowNetwork old.network new.network acts
        (λ config. takes network_rules config octets now)
        → line ≡ drop 1 code.outgoing → IfOk result (λ outcome. outcome ≡ Made)
        → SendsToAll result acts (set old.terminals.items at (record code { outgoing = line })) new
        → IfOk result (OnEachBus (λ c t b. Takes now t.outgoing (Does c t b) (BusStays new c acts b)))
    network_taken code octets line (Ok outcome) is first does removed made sent = λ c t b shown there.
        let t_code = shown_here old.terminals.items c.user b.terminals at code t shown.terminals
        is.within is.read there in
        let head = subst (λ (l : List (List ℕ)). slice_get l 0 ≡ Some octets) t_code.outgoing first
        in
        let call = call_takes ShowNetwork network_rules old.network new.network acts (Ok tt) octets
        (drop 1 t.outgoing) now does c.network (on_line_of t b) shown.network
        (first_of t.outgoing octets head) in
        subst (Takes now t.outgoing (Does c t b) (BusStays new c acts b)) (sym made) (
          some_there t.outgoing octets head,
          of_network c old new acts at t b shown there same (Take now)
              (record code { outgoing = line }) call
              (record {
                side = t_code.side;
                incoming = t_code.incoming;
                outgoing = removed ∙ ap (drop 1) t_code.outgoing;
              }) sent,
        )
    network_taken code octets line (Err fault) is first does removed made sent = tt

    pub network_expired : {E : Type 0} (result : Result Outcome E)
        → calls.Expires ShowNetwork (expires network_rules) old.network new.network acts now
        → IfOk result (λ outcome. outcome ≡ Made) → SendsToAll result acts old.terminals.items new
        → IfOk result (OnEachBus (λ c t b. Expires now b.network.served (Does c t b)
        (BusStays new c acts b)))
    network_expired (Ok outcome) ticks made sent = λ c t b shown there.
        let call = call_ticks ShowNetwork network_rules old.network new.network acts now ticks
        c.network (on_line_of t b) shown.network in
        subst (Expires now b.network.served (Does c t b) (BusStays new c acts b)) (sym made) (
          call.0,
          call.1,
          does_here c t b (Expire call.0.timer call.0.of now) shown there refl call.2 sent,
        )
    network_expired (Err fault) ticks made sent = tt

    pub network_asked : {E : Type 0} (request : Request) (message : Option (Vec ℕ Global))
        (result : Result Outcome E)
        → calls.Grants ShowNetwork old.network new.network acts
        (λ config. network_requested config request now)
        → IfOk result (λ outcome. outcome ≡ Made) → SendsToAll result acts old.terminals.items new
        → IfOk result (OnEachBus (λ c t b. Asks request now (network_requested c.network request now
        b.network) (Does c t b) (BusStays new c acts b)))
    network_asked request message (Ok outcome) grants made sent = λ c t b shown there.
        let granted = grants c.network b.network shown.network in
        let call = call_requests ShowNetwork network_rules old.network new.network acts (Ok tt)
        message request now grants c.network (on_line_of t b) shown.network in
        subst (Asks request now (network_requested c.network request now b.network) (Does c t b)
        (BusStays new c acts b)) (sym made) (
          subst (λ (r : Result _ _). IsOk r) (sym granted.is) refl,
          does_here c t b (Ask request now) shown there refl call sent,
        )
    network_asked request message (Err fault) grants made sent = tt
