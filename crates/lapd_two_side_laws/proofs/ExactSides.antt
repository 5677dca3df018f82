-- Each event of a side keeps its links' timers exact, and so does each run of one side and of an
-- interface.
use Rattle.std.proofs.Common.{ℕ, zero, suc, ◌&&◌, List, [], ◌∷◌, ◌++◌, Option, Some, None, Result, Ok, Err, refl, subst, ◌≡◌, true}
use Rattle.std.specs.Prelude.{IfOk}
use Rattle.std.specs.List.{All, remove}
use Rattle.std.proofs.lemmas.List.Elements.{All-nil, All-cons, All-append, All-head, All-tail, All-drop}
use Rattle.rand_pcg.specs.Lcg.{Lcg}
use Rattle.lapd_field.specs.Control.{IsControl}
use Rattle.lapd_frame.specs.declared.Address.{Address}
use Rattle.lapd_frame.specs.declared.fault_kind.FaultKind.{FaultKind}
use Rattle.lapd_frame.specs.declared.frame_fault.FrameFault.{FrameFault}
use Rattle.lapd_frame.specs.declared.Sapi.{Sapi}
use Rattle.lapd_frame.specs.declared.Side.{Side}
use Rattle.lapd_frame.specs.declared.Side.TheVariants as side
use Rattle.lapd_frame.specs.Address.{other_side}
use Rattle.lapd_frame.specs.Frame.{Fields}
use Rattle.lapd_link_definition.specs.Input.{Input, Heard, Faulty, Expiry}
use Rattle.lapd_link_definition.specs.Numbers.{CarriesNumbers}
use Rattle.lapd_mod128.specs.Counting.{Tagged}
use Rattle.lapd_tei.specs.declared.assigner.AssignerEvent.{AssignerEvent}
use Rattle.lapd_tei.specs.declared.assigner.AssignerEvent.TheVariants as assigner
use Rattle.lapd_tei.specs.declared.terminal.TerminalEvent.{TerminalEvent}
use Rattle.lapd_tei.specs.declared.terminal.TerminalEvent.TheVariants as terminal
use Rattle.lapd_tei.specs.Assigner.{assigner_step, known_held}
use Rattle.lapd_tei.specs.Message.{group_tei}
use Rattle.lapd_table.specs.declared.link_id.LinkId.{LinkId}
use Rattle.lapd_sides_links.specs.declared.config.Config.{Config}
use Rattle.lapd_sides_links.specs.Effects.{no_effects}
use Rattle.lapd_sides_links.specs.Links.{is_served, is_held_below, links_below, no_links}
use Rattle.lapd_sides.specs.Network.{Network, new_network, network_rules, assigner_acts, group_frame, sends_to_all}
use Rattle.lapd_sides.specs.SideState.{Rules, SideState, with_stopped}
use Rattle.lapd_sides.specs.User.{User, new_user, user_rules, terminal_acts}
use Rattle.lapd_two_side_laws.specs.ExactTimers.{HaveExactTimers, BothHaveExactTimers, AreOctets, SideStep, BringsOctets, stepped, stepped_by_all, new_view, OverhearsOctets, OverhearOctets}
use Rattle.lapd_side_events.specs.Interface.{Configs, Interface, Move, behaviour, user_behaviour, network_behaviour, new_interface, by_user, by_network, side_does, happens, run}
use Rattle.lapd_side_events.specs.SideView.{Behaviour, SideView, SideEvent, Take, Lose, Expire, Ask, Overhear, reaction, left, does}
use Rattle.lapd_two_side_laws.proofs.ExactLinks.{CarriesTags, octets_carry_tags, spelled_carries_tags, IsExact, IsExactAmong, quietly, acts_exactly, expires_exactly, fresh_or, no_link_is_exact, with_tei_exact, manages_exactly, messages_carry_tags}
use Rattle.lapd_two_side_laws.proofs.Reactions.{AnyRequest, Inputs, Law, HoldsOfLinks, HoldsOfRules, HoldsOfEvents, IsOfRequest, PermitsEvent, PermitsFault, PermitsFirst, PermitsFrame, any_request, reacts}
use Rattle.lapd_two_side_laws.proofs.Requests.{HoldsInTurn, by_events, network_asked, sent_to_group, step_at, terminal_so, user_asked}
use Rattle.lapd_sides.specs.AllTeis.{check_of_all, removal_of_all}
use Rattle.lapd_tei.specs.declared.out.TeiOut.{TeiOut}

-- an input carries tags, if it carries numbers
abbrev pub CarriesNumbersOf : Inputs
CarriesNumbersOf id input octets = CarriesNumbers Tagged input

-- ---- Lists of octets.

all_carry_tags : (from : Side) (line : List (List ℕ)) → All AreOctets line
    → All (CarriesTags from) line
all_carry_tags from [] h = All-nil (CarriesTags from)
all_carry_tags from (octets ∷ line) h =
    All-cons (CarriesTags from) octets line
    (octets_carry_tags from octets (All-head AreOctets octets line h))
    (all_carry_tags from line (All-tail AreOctets octets line h))

all_but_one : {X : Type 0} (P : X → Type 0) (xs : List X) (at : ℕ) → All P xs → All P (remove xs at)
all_but_one P [] zero h = h
all_but_one P [] (suc at) h = h
all_but_one P (x ∷ xs) zero h = All-tail P x xs h
all_but_one P (x ∷ xs) (suc at) h =
    All-cons P x (remove xs at) (All-head P x xs h) (all_but_one P xs at (All-tail P x xs h))

all_left : (P : List ℕ → Type 0) (event : SideEvent) (line : List (List ℕ)) → All P line
    → All P (left event line)
all_left P (Take now) line h = All-drop P 1 line h
all_left P (Lose at) line h = all_but_one P line at h
all_left P (Expire timer of now) line h = h
all_left P (Ask request now) line h = h
all_left P (Overhear octets now) line h = h

-- ---- Every reaction of a side keeps its links' timers exact, and sends frames that carry tags.

module _ {M : Type 0} (rules : Rules M) where
  abbrev pub Exact : Law M
  Exact s a = HaveExactTimers s.served.links → IsExact rules.side a.after.served.links a.effects

  links_exactly : (now : ℕ) → HoldsOfLinks rules now Exact CarriesNumbersOf
  links_exactly now = record {
    still = λ s. quietly rules.side s.served.links no_effects refl;
    counts = λ s. quietly rules.side s.served.links no_effects refl;
    reports = λ at octets s. quietly rules.side s.served.links _ refl;
    steps = λ id input octets s b plain numbers done all.
        subst (IsExactAmong rules.side) done
        (acts_exactly rules.side id now input octets s.served.links plain numbers all);
  }

of_request : (id : LinkId) (input : Input) (octets : List ℕ) → IsOfRequest input
    → CarriesNumbersOf id input octets
of_request id (Heard control role) octets h = absurd h
of_request id (Faulty kind) octets h = absurd h
of_request id (Expiry timer) octets h = absurd h
of_request id other octets h = tt

module _ (config : Config) (now : ℕ) where
  assigning : (e : AssignerEvent) (s : Network)
      → Exact network_rules s (assigner_acts config now e s)
  unfolding assigner_acts
  assigning e s =
      manages_exactly side.Network config now (assigner_step s.management e).outs s.served

  sends_exactly : (at : Sapi) (octets : List ℕ) (s : Network) → is_served config at ≡ true
      → Exact network_rules s (sent_to_group at octets s)
  sends_exactly at octets s served all = record {
    timers = all;
    frames = All-cons (CarriesTags side.Network) _ []
        (spelled_carries_tags side.Network (group_frame at octets) tt)
        (All-nil (CarriesTags side.Network));
  }

  sends_all : (messages : List TeiOut) (s : Network)
      → Exact network_rules s (sends_to_all messages s)
  sends_all messages s all = record {
    timers = all;
    frames = messages_carry_tags side.Network messages;
  }

  pub network_exactly : HoldsOfRules network_rules config now (Exact network_rules) AnyRequest
  network_exactly = record {
    hears = λ m. assigning (assigner.Heard m);
    times_out = λ timer s may. assigning assigner.T201 (with_stopped timer s);
    requested = λ asked s any.
        network_asked (links_exactly network_rules now) config
        (λ tei. assigning (assigner.Check tei)) (λ tei. assigning (assigner.Remove tei))
        sends_exactly (λ s. sends_all (check_of_all s.management.check) s)
        (λ s. sends_all (removal_of_all s.management.held) s) asked s
        (any_request network_rules CarriesNumbersOf of_request s.management asked);
  }

  in_turn : HoldsInTurn (Exact user_rules)
  in_turn = record {
    kept = λ pending s a h. h;
    both = λ s a does first each all.
        let one = first all in
        let two = each a.after one.timers in
        record {
          timers = two.timers;
          frames = All-append (CarriesTags side.User) a.effects.frames
              (does a.after).effects.frames one.frames two.frames;
        };
    gives_up = λ s. quietly side.User s.served.links _ refl;
  }

  acting : (e : ℕ → TerminalEvent) (s : User) → Exact user_rules s (terminal_acts config now e s)
  acting e s = terminal_so (links_exactly user_rules now) in_turn (λ id. tt) config
      (λ e s. manages_exactly side.User config now (step_at e s).outs s.served) e s

  pub user_exactly : HoldsOfRules user_rules config now (Exact user_rules) AnyRequest
  user_exactly = record {
    hears = λ m. acting (terminal.Heard m);
    times_out = λ timer s may. acting terminal.T202 (with_stopped timer s);
    requested = λ asked s any.
        user_asked (links_exactly user_rules now) config (by_events config now
        (Exact user_rules) AnyRequest (acting terminal.Ask) (acting terminal.Want)
        (acting (λ ri. terminal.Leave)) (λ pending s a h. h)
        (λ at s. quietly side.User s.served.links _ refl)) asked s any
        (any_request user_rules CarriesNumbersOf of_request s.management asked);
  }

-- ---- Events of a side, and every run of it.

module _ {M : Type 0} (rules : Rules M) (config : Config)
    (law : (now : ℕ) → HoldsOfRules rules config now (Exact rules) AnyRequest) where
  abbrev W : Behaviour (SideState M)
  W = behaviour rules config

  abbrev AreExact : SideState M → Type 0
  AreExact s = HaveExactTimers s.served.links

  abbrev Incoming : List (List ℕ) → Type 0
  Incoming line = All (CarriesTags (other_side rules.side)) line

  -- the frames in transit to the side and from it carry tags
  pub record IsExactView (v : SideView (SideState M)) : Type 0 where
    pub timers : AreExact v.now
    pub incoming : Incoming v.incoming
    pub outgoing : All (CarriesTags rules.side) v.outgoing

  events : (now : ℕ) → HoldsOfEvents rules config now (Exact rules) CarriesNumbersOf AnyRequest
  events now = record {
    links = links_exactly rules now;
    expires = λ id timer s b done all. subst (IsExactAmong rules.side) done
        (expires_exactly rules.side id now timer s.served.links all);
    by_rules = law now;
  }

  numbered : (r : Result Fields FrameFault) → IfOk r (λ f. IsControl f.control)
      → PermitsFrame CarriesNumbersOf r
  numbered (Ok frame) h = h
  numbered (Err fault) h = unnumbered fault.kind fault.address
    where
      unnumbered : (kind : FaultKind) (address : Option Address)
          → PermitsFault CarriesNumbersOf kind address
      unnumbered kind None = tt
      unnumbered kind (Some address) = tt

  abbrev PermittedEvent : SideEvent → SideView (SideState M) → Type 0
  PermittedEvent = PermitsEvent rules CarriesNumbersOf (λ now. AnyRequest)

  first : (line : List (List ℕ)) → Incoming line → PermitsFirst rules CarriesNumbersOf line
  first [] tags = tt
  first (octets ∷ rest) tags =
      numbered _ (All-head (CarriesTags (other_side rules.side)) octets rest tags)

  permitted : (event : SideEvent) (v : SideView (SideState M)) → Incoming v.incoming
      → OverhearsOctets event → PermittedEvent event v
  permitted (Take now) v tags heard = first v.incoming tags
  permitted (Lose at) v tags heard = tt
  permitted (Expire timer of now) v tags heard = tt
  permitted (Ask request now) v tags heard = tt
  permitted (Overhear octets now) v tags heard =
      numbered _ (octets_carry_tags (other_side rules.side) octets heard)

  reacts_exactly : (event : SideEvent) (v : SideView (SideState M)) → Incoming v.incoming
      → OverhearsOctets event → Exact rules v.now (reaction W event v)
  reacts_exactly event v tags heard =
      reacts {R = λ now. Exact rules} events 0 event v (permitted event v tags heard)

  pub event_preserves : (event : SideEvent) (v : SideView (SideState M)) → OverhearsOctets event
      → IsExactView v → IsExactView (does W event v)
  unfolding does
  event_preserves event v heard h =
      let after = reacts_exactly event v h.incoming heard h.timers in
      record {
        timers = after.timers;
        incoming = all_left (CarriesTags (other_side rules.side)) event v.incoming h.incoming;
        outgoing = All-append (CarriesTags rules.side) v.outgoing
            (reaction W event v).effects.frames h.outgoing after.frames;
      }

  -- one event alone, if only octets are in transit to the side
  pub event_exact : (event : SideEvent) (v : SideView (SideState M)) → All AreOctets v.incoming
      → OverhearsOctets event → AreExact v.now → AreExact (does W event v).now
  unfolding does
  event_exact event v octets heard all =
      (reacts_exactly event v (all_carry_tags (other_side rules.side) v.incoming octets) heard
      all).timers

  step_preserves : (x : SideStep) (v : SideView (SideState M)) → BringsOctets x → IsExactView v
      → IsExactView (stepped W x v)
  step_preserves x v octets h =
      event_preserves x.event (record v { incoming = v.incoming ++ x.arrives }) octets.1 (record {
        timers = h.timers;
        incoming = All-append (CarriesTags (other_side rules.side)) v.incoming x.arrives
            h.incoming (all_carry_tags (other_side rules.side) x.arrives octets.0);
        outgoing = h.outgoing;
      })

  steps_preserve : (xs : List SideStep) (v : SideView (SideState M)) → All BringsOctets xs
      → IsExactView v → IsExactView (stepped_by_all W xs v)
  steps_preserve [] v octets h = h
  steps_preserve (x ∷ xs) v octets h =
      steps_preserve xs (stepped W x v) (All-tail BringsOctets x xs octets)
      (step_preserves x v (All-head BringsOctets x xs octets) h)

  pub steps_exact : (xs : List SideStep) (s : SideState M) → All BringsOctets xs → AreExact s
      → AreExact (stepped_by_all W xs (new_view s)).now
  steps_exact xs s octets all =
      (steps_preserve xs (new_view s) octets (record {
        timers = all;
        incoming = All-nil (CarriesTags (other_side rules.side));
        outgoing = All-nil (CarriesTags rules.side);
      })).timers

-- ---- Both sides.

pub new_network_exact : (config : Config) (known : List ℕ)
    → HaveExactTimers (new_network config known).served.links
unfolding links_below
new_network_exact config known id =
    fresh_or (is_served config id.sapi && is_held_below (known_held known).held group_tei id.tei)
    config id None no_link_is_exact

pub new_user_exact : (config : Config) (fixed : Option ℕ) (random : Lcg)
    → HaveExactTimers (new_user config fixed random).served.links
new_user_exact config None random = λ id. no_link_is_exact
new_user_exact config (Some tei) random =
    with_tei_exact config tei no_links (λ id. no_link_is_exact)

pub network_steps_exact : (config : Config) (known : List ℕ) (xs : List SideStep)
    → All BringsOctets xs → HaveExactTimers (stepped_by_all (network_behaviour config) xs
    (new_view (new_network config known))).now.served.links
network_steps_exact config known xs octets =
    steps_exact network_rules config (network_exactly config) xs (new_network config known) octets
    (new_network_exact config known)

pub user_steps_exact : (config : Config) (fixed : Option ℕ) (random : Lcg) (xs : List SideStep)
    → All BringsOctets xs → HaveExactTimers (stepped_by_all (user_behaviour config) xs
    (new_view (new_user config fixed random))).now.served.links
user_steps_exact config fixed random xs octets =
    steps_exact user_rules config (user_exactly config) xs (new_user config fixed random) octets
    (new_user_exact config fixed random)

-- ---- Every run of an interface.

module _ (c : Configs) where
  record IsExactInterface (i : Interface) : Type 0 where
    pub user : IsExactView user_rules c.user (user_exactly c.user) (by_user i)
    pub network : IsExactView network_rules c.network (network_exactly c.network) (by_network i)

  move_preserves : (who : Side) (event : SideEvent) (i : Interface) → OverhearsOctets event
      → IsExactInterface i → IsExactInterface (side_does c who event i)
  move_preserves side.User event i heard h =
      let after = event_preserves user_rules c.user (user_exactly c.user) event (by_user i) heard
      h.user in
      record {
        user = after;
        network = record {
          timers = h.network.timers;
          incoming = after.outgoing;
          outgoing = after.incoming;
        };
      }
  move_preserves side.Network event i heard h =
      let after = event_preserves network_rules c.network (network_exactly c.network) event
      (by_network i) heard h.network in
      record {
        user = record {
          timers = h.user.timers;
          incoming = after.outgoing;
          outgoing = after.incoming;
        };
        network = after;
      }

  run_preserves : (moves : List Move) (i : Interface) → OverhearOctets moves → IsExactInterface i
      → IsExactInterface (run c moves i)
  run_preserves [] i heard h = h
  run_preserves (move ∷ moves) i heard h =
      run_preserves moves (happens c move i) heard.1
      (move_preserves move.side move.event i heard.0 h)

  made_is_exact : (fixed : Option ℕ) (random : Lcg) (known : List ℕ)
      → IsExactInterface (new_interface (new_user c.user fixed random)
      (new_network c.network known))
  made_is_exact fixed random known = record {
    user = record {
      timers = new_user_exact c.user fixed random;
      incoming = All-nil (CarriesTags side.Network);
      outgoing = All-nil (CarriesTags side.User);
    };
    network = record {
      timers = new_network_exact c.network known;
      incoming = All-nil (CarriesTags side.User);
      outgoing = All-nil (CarriesTags side.Network);
    };
  }

  pub run_is_exact : (fixed : Option ℕ) (random : Lcg) (known : List ℕ) (moves : List Move)
      → OverhearOctets moves → BothHaveExactTimers (run c moves
      (new_interface (new_user c.user fixed random) (new_network c.network known)))
  run_is_exact fixed random known moves heard =
      let i = new_interface (new_user c.user fixed random) (new_network c.network known) in
      let h = run_preserves moves i heard (made_is_exact fixed random known) in
      (h.user.timers, h.network.timers)
