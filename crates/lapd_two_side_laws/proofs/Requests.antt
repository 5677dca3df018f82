-- A law of the reactions of a side holds of each request that is executed, if it holds of the steps
-- of links and of TEI management.
use Rattle.std.proofs.Common.{◌≡◌, ℕ, ◌==◌, ◌&&◌, nat_lt, List, [], ◌∷◌, length, Bool, true, false, Some, Result, Ok, Err, refl}
use Rattle.std.specs.Prelude.{IfOk, if◌then◌else◌}
use Rattle.lapd_frame.specs.declared.Sapi.{Sapi}
use Rattle.lapd_frame.specs.declared.Sapi.TheVariants as sapi
use Rattle.lapd_frame.specs.declared.Side.TheVariants as side
use Rattle.lapd_frame.specs.Frame.{n201, spelling}
use Rattle.lapd_link_definition.specs.declared.event.LinkFault.TheVariants.{NotEstablished, TooLong}
use Rattle.lapd_link_definition.specs.Input as input
use Rattle.lapd_link_definition.specs.Input.{Input, UnitData}
use Rattle.lapd_tei.specs.declared.assigner.AssignerEvent.TheVariants as assigner
use Rattle.lapd_tei.specs.declared.out.TeiOut.{TeiOut}
use Rattle.lapd_tei.specs.declared.out.TeiOut.TheVariants as outcome
use Rattle.lapd_tei.specs.declared.phase.Phase.{Phase}
use Rattle.lapd_tei.specs.declared.phase.Phase.TheVariants.{Unassigned, Awaiting, Assigned}
use Rattle.lapd_tei.specs.declared.terminal.TerminalEvent.{TerminalEvent}
use Rattle.lapd_tei.specs.declared.terminal.TerminalEvent.TheVariants as event
use Rattle.lapd_tei.specs.Assigner.{AssignerState}
use Rattle.lapd_tei.specs.Terminal.{TerminalStep, terminal_step, tei_of}
use Rattle.lapd_tei.specs.Message.{group_tei}
use Rattle.lapd_table.specs.declared.link_id.LinkId.{LinkId}
use Rattle.lapd_sides_links.specs.declared.config.Config.{Config}
use Rattle.lapd_sides_links.specs.declared.primitive.What.TheVariants as what
use Rattle.lapd_sides_links.specs.declared.side_fault.SideKind.{SideKind}
use Rattle.lapd_sides_links.specs.declared.side_fault.SideKind.TheVariants.{NoLink, Link}
use Rattle.lapd_sides_links.specs.Effects.{no_effects}
use Rattle.lapd_sides_links.specs.Links.{Reaction, is_served, of_sapi}
use Rattle.lapd_sides.specs.declared.request.Request.{Request}
use Rattle.lapd_sides.specs.declared.request.Request.TheVariants as request
use Rattle.lapd_sides.specs.Management.{manages}
use Rattle.lapd_sides.specs.SideState.{link_of, primitive_of_group}
use Rattle.lapd_sides.specs.Network.{Network, network_rules, assigner_acts, group_frame, unit_to_group, network_requested, sends_to_all}
use Rattle.lapd_sides.specs.User.{User, TerminalState, PendingEstablishments, user_rules, own_link, nothing_pending, with_kept, next, next_reference, drawn, establishes, establishes_pending, gives_up_pending, pending_after, terminal_acts, with_tei_or, is_pending, with_pending, wants, forgets, has_tei, user_requested}
use Rattle.lapd_two_side_laws.proofs.Reactions.{Inputs, Law, HoldsOfLinks, IsNoExpiry, PermitsRequest, if_either, linked, or_still}
use Rattle.lapd_sides.specs.AllTeis.{check_of_all, removal_of_all}

-- ---- A network side.

-- unit data is sent to all terminals
abbrev pub sent_to_group : Sapi → List ℕ → Network → Reaction Network
sent_to_group sapi octets s = record {
  after = s;
  effects = record no_effects { frames = spelling side.Network (group_frame sapi octets) ∷ [] };
}

module _ {now : ℕ} {R : Law AssignerState} {Permits : Inputs}
    (law : HoldsOfLinks network_rules now R Permits) (config : Config)
    (checks : (tei : ℕ) (s : Network) → R s (assigner_acts config now (assigner.Check tei) s))
    (removes : (tei : ℕ) (s : Network) → R s (assigner_acts config now (assigner.Remove tei) s))
    (sends : (sapi : Sapi) (octets : List ℕ) (s : Network) → is_served config sapi ≡ true
    → R s (sent_to_group sapi octets s))
    (checks_all : (s : Network) → R s (sends_to_all (check_of_all s.management.check) s))
    (removes_all : (s : Network) → R s (sends_to_all (removal_of_all s.management.held) s))
  where
    abbrev NetworkIfOk : Network → Result (Reaction Network) SideKind → Type 0
    NetworkIfOk s r = IfOk r (R s)

    first_of : (a b : Bool) → (a && b) ≡ true → a ≡ true
    first_of true b h = refl
    first_of false b h = cc

    -- unit data to all terminals, or of a link
    unit_asked : (id : LinkId) (octets : List ℕ) (s : Network) (test : Bool)
        → (is_served config id.sapi && (id.tei == group_tei)) ≡ test
        → Permits id (UnitData (length octets)) octets
        → NetworkIfOk s (if test then unit_to_group id.sapi octets s
        else link_of side.Network now id (UnitData (length octets)) octets s)
    unit_asked id octets s true is permits =
        if_either (NetworkIfOk s) (nat_lt n201 (length octets)) (Err (Link TooLong))
        (Ok (sent_to_group id.sapi octets s)) tt
        (sends id.sapi octets s (first_of (is_served config id.sapi) (id.tei == group_tei) is))
    unit_asked id octets s false is permits =
        linked law id (UnitData (length octets)) octets s tt permits

    pub network_asked : (asked : Request) (s : Network)
        → PermitsRequest network_rules Permits s.management asked
        → NetworkIfOk s (network_requested config asked now s)
    unfolding network_requested
    network_asked (request.Establish id) s permits =
        linked law id input.Establish [] s tt (permits id refl)
    network_asked (request.Release id) s permits =
        linked law id input.Release [] s tt (permits id refl)
    network_asked (request.Unit id octets) s permits =
        unit_asked id octets.items s (is_served config id.sapi && (id.tei == group_tei)) refl
        (permits id refl)
    network_asked (request.Give id message) s permits =
        linked law id (input.Give message.items) [] s tt (permits id refl)
    network_asked (request.Busy id true) s permits =
        linked law id input.BusyOn [] s tt (permits id refl)
    network_asked (request.Busy id false) s permits =
        linked law id input.BusyOff [] s tt (permits id refl)
    network_asked request.AskTei s permits = law.still s
    network_asked (request.Check tei) s permits = checks tei s
    network_asked (request.Remove tei) s permits = removes tei s
    network_asked request.CheckAll s permits = checks_all s
    network_asked request.RemoveAll s permits = removes_all s

-- ---- A user side.

abbrev pub UserIfOk : Law TerminalState → User → Result (Reaction User) SideKind → Type 0
UserIfOk R s r = IfOk r (R s)

-- what a law has to hold of the requests that the terminal executes
pub record HoldsOfTerminal (config : Config) (now : ℕ) (R : Law TerminalState)
    (Allows : Request → Type 0) : Type 0 where
  pub asked : (s : User) → R s (terminal_acts config now event.Ask s)
  pub wanted : (at : Sapi) (s : User) → UserIfOk R s (wants config now at s)
  pub forgotten : (id : LinkId) (s : User) → Allows (request.Release id)
      → UserIfOk R s (forgets id.sapi s)
  pub left : (tei : ℕ) (s : User) → has_tei tei (tei_of s.management.terminal) ≡ true
      → R s (terminal_acts config now (λ ri. event.Leave) s)

module _ {now : ℕ} {R : Law TerminalState} {Permits : Inputs}
    (law : HoldsOfLinks user_rules now R Permits) where
  with_own : (phase : Phase) (id : LinkId) (input : Input) (octets : List ℕ)
      (otherwise : Result (Reaction User) SideKind) (s : User) → IsNoExpiry input
      → ((own : LinkId) → own_link phase id ≡ Some own → Permits own input octets)
      → UserIfOk R s otherwise
      → UserIfOk R s (with_tei_or now phase id.sapi input octets otherwise s)
  with_own (Assigned by tei) id input octets otherwise s plain permits h =
      let own = of_sapi id.sapi tei in linked law own input octets s plain (permits own refl)
  with_own Unassigned id input octets otherwise s plain permits h = h
  with_own (Awaiting purpose count ri) id input octets otherwise s plain permits h = h

  left_by : (config : Config) {Allows : Request → Type 0}
      → HoldsOfTerminal config now R Allows → (tei : ℕ) (s : User) (test : Bool)
      → has_tei tei (tei_of s.management.terminal) ≡ test
      → UserIfOk R s (if test then Ok (terminal_acts config now (λ ri. event.Leave) s)
      else Err NoLink)
  left_by config own tei s true is = own.left tei s is
  left_by config own tei s false is = tt

  pub user_asked : (config : Config) {Allows : Request → Type 0}
      → HoldsOfTerminal config now R Allows → (asked : Request) (s : User) → Allows asked
      → PermitsRequest user_rules Permits s.management asked
      → UserIfOk R s (user_requested config asked now s)
  unfolding user_requested
  user_asked config own (request.Establish id) s allows permits =
      with_own s.management.terminal id input.Establish [] (wants config now id.sapi s) s tt
      permits (own.wanted id.sapi s)
  user_asked config own (request.Release id) s allows permits =
      with_own s.management.terminal id input.Release [] (forgets id.sapi s) s tt permits
      (own.forgotten id s allows)
  user_asked config own (request.Unit id octets) s allows permits =
      with_own s.management.terminal id (UnitData (length octets.items)) octets.items
      (Err NoLink) s tt permits tt
  user_asked config own (request.Give id message) s allows permits =
      with_own s.management.terminal id (input.Give message.items) []
      (Err (Link NotEstablished)) s tt permits tt
  user_asked config own (request.Busy id true) s allows permits =
      with_own s.management.terminal id input.BusyOn [] (Err NoLink) s tt permits tt
  user_asked config own (request.Busy id false) s allows permits =
      with_own s.management.terminal id input.BusyOff [] (Err NoLink) s tt permits tt
  user_asked config own request.AskTei s allows permits = own.asked s
  user_asked config own (request.Check tei) s allows permits = law.still s
  user_asked config own request.CheckAll s allows permits = law.still s
  user_asked config own request.RemoveAll s allows permits = law.still s
  user_asked config own (request.Remove tei) s allows permits =
      left_by config own tei s (has_tei tei (tei_of s.management.terminal)) refl

-- ---- Kept establishments.

-- a law of one reaction after another, in which the kept establishments do not count
pub record HoldsInTurn (R : Law TerminalState) : Type 0 where
  pub kept : (pending : PendingEstablishments) (s : User) (a : Reaction User)
      → R (with_kept s pending) a → R s a
  pub both : (s : User) (a : Reaction User) (does : User → Reaction User) → R s a
      → ((t : User) → R t (does t)) → R s (next a does)
  pub gives_up : (s : User) → R s (gives_up_pending s)

module _ {now : ℕ} {R : Law TerminalState} {Permits : Inputs}
    (law : HoldsOfLinks user_rules now R Permits) (turns : HoldsInTurn R)
    (permits : (id : LinkId) → Permits id input.Establish []) where
  establishing : (on : Bool) (id : LinkId) (s : User) → R s (establishes on now id s)
  establishing true id s =
      or_still law s (link_of side.User now id input.Establish [] s)
      (linked law id input.Establish [] s tt (permits id))
  establishing false id s = law.still s

  pub pending_so : (outs : List TeiOut) (s : User) → R s (pending_after now outs s)
  pending_so [] s = law.still s
  pending_so (outcome.Got own ∷ outs) s =
      let none = with_kept s nothing_pending in
      turns.kept nothing_pending s (establishes_pending now own s)
      (turns.both none (establishes s.management.pending.call now (of_sapi sapi.Call own) none)
      (establishes s.management.pending.packet now (of_sapi sapi.Packet own))
      (establishing s.management.pending.call (of_sapi sapi.Call own) none)
      (establishing s.management.pending.packet (of_sapi sapi.Packet own)))
  pending_so (outcome.Failed ∷ outs) s = turns.gives_up s
  pending_so (output ∷ outs) s = pending_so outs s

-- the terminal has taken its step, before kept establishments are executed
abbrev pub stepped_by : Config → ℕ → TerminalStep → User → Reaction User
stepped_by config now step s = record {
  after = record s {
    served = (manages side.User config now step.outs s.served).after;
    management = record s.management {
      terminal = step.now;
      random = drawn step.outs s.management.random;
    };
  };
  effects = (manages side.User config now step.outs s.served).effects;
}

abbrev pub step_at : (ℕ → TerminalEvent) → User → TerminalStep
step_at e s =
    terminal_step s.management.terminal (e (next_reference s.management.random))

-- a law of the steps of links and of the terminal holds of each event of the terminal
module _ {now : ℕ} {R : Law TerminalState} {Permits : Inputs}
    (law : HoldsOfLinks user_rules now R Permits) (turns : HoldsInTurn R)
    (permits : (id : LinkId) → Permits id input.Establish []) (config : Config)
    (steps : (e : ℕ → TerminalEvent) (s : User) → R s (stepped_by config now (step_at e s) s))
  where
    pub terminal_so : (e : ℕ → TerminalEvent) (s : User) → R s (terminal_acts config now e s)
    unfolding terminal_acts
    terminal_so e s =
        turns.both s (stepped_by config now (step_at e s) s)
        (pending_after now (step_at e s).outs) (steps e s)
        (pending_so law turns permits (step_at e s).outs)

-- a release confirms that an establishment is forgotten
abbrev pub forgotten_by : Sapi → User → Reaction User
forgotten_by at s = record {
  after = with_kept s (with_pending at false s.management.pending);
  effects = record no_effects { primitives = primitive_of_group at what.ReleaseConfirm };
}

-- a law of these events of the terminal holds of its requests
pub by_events : (config : Config) (now : ℕ) (R : Law TerminalState) (Allows : Request → Type 0)
    → ((s : User) → R s (terminal_acts config now event.Ask s))
    → ((s : User) → R s (terminal_acts config now event.Want s))
    → ((s : User) → R s (terminal_acts config now (λ ri. event.Leave) s))
    → ((pending : PendingEstablishments) (s : User) (a : Reaction User)
    → R (with_kept s pending) a → R s a) → ((at : Sapi) (s : User) → R s (forgotten_by at s))
    → HoldsOfTerminal config now R Allows
by_events config now R Allows asks waits leaves kept forgets = record {
  asked = asks;
  wanted = λ at s.
      let more = with_kept s (with_pending at true s.management.pending) in
      if_either (UserIfOk R s) (is_served config at)
      (Ok (terminal_acts config now event.Want more)) (Err NoLink)
      (kept (with_pending at true s.management.pending) s _ (waits more)) tt;
  forgotten = λ id s allows.
      if_either (UserIfOk R s) (is_pending id.sapi s.management.pending)
      (Ok (forgotten_by id.sapi s)) (Err NoLink) (forgets id.sapi s) tt;
  left = λ tei s has. leaves s;
}
