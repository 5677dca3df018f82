-- Every run that is in time is timely.
use Rattle.std.proofs.Common.{◌≡◌, ℕ, ◌*◌, ◌≤◌, ◌<◌, ◌&&◌, List, [], ◌∷◌, ◌++◌, Bool, true, false, Option, Some, None, refl, sym, ap, subst, ◌∙◌, arith}
use Rattle.std.specs.Prelude.{option_map}
use Rattle.std.specs.List.{list_any}
use Rattle.std.proofs.lemmas.List.{map-append}
use Rattle.std.proofs.lemmas.List.Elements.{All-nil, All-append, All-cons, All-weaker}
use Rattle.rand_pcg.specs.Lcg.{Lcg}
use Rattle.lapd_timers.specs.declared.timer.Timer.{Timer}
use Rattle.lapd_timers.specs.declared.timer.Timer.TheVariants.{T200}
use Rattle.lapd_timers.specs.Due.{Timers, deadline_of}
use Rattle.lapd_frame.specs.declared.Side.{Side}
use Rattle.lapd_frame.specs.declared.Side.TheVariants as side
use Rattle.lapd_frame.specs.Address.{other_side}
use Rattle.lapd_table.specs.declared.link_id.LinkId.{LinkId}
use Rattle.lapd_sides_links.specs.Expiries.{of_links, of_served}
use Rattle.lapd_sides_links.specs.declared.config.Config.{Config}
use Rattle.lapd_sides_links.specs.Links.{Linked, Links, is_served, is_held_below, links_below, new_linked, no_links, parameters_for}
use Rattle.lapd_tei.specs.Assigner.{known_held}
use Rattle.lapd_sides.specs.Network.{new_network, network_rules}
use Rattle.lapd_sides.specs.SideState.{Rules, SideState}
use Rattle.lapd_sides.specs.User.{links_of_fixed, new_user, user_rules}
use Rattle.lapd_side_events.specs.Interface.{Configs, Interface, Move, behaviour, by_user, by_network, happens, new_interface, side_does}
use Rattle.lapd_side_events.specs.SideView.{Behaviour, SideView, SideEvent, Take, Lose, Expire, Ask, Overhear, does, left, reaction}
use Rattle.lapd_two_side_laws.specs.Addressed.{is_for, is_poll_for, is_final_for, those_for}
use Rattle.lapd_two_side_laws.specs.Premises.{AreTimely, IsTimely, IsTimelyMove}
use Rattle.lapd_two_side_laws.proofs.Reactions.{AnyRequest, HoldsOfRules}
use Rattle.lapd_clock_laws.specs.Clock.{Clock, Sent, Shows, SideClock, clock_after, new_clock, moment_of, network_clock, octets_of, sent_at, ticks, user_clock}
use Rattle.lapd_clock_laws.specs.InTime.{AreInTime, AreSent, HasLongT200, IsClear, IsInTime, IsLongEnough, OfMove, OverhearsOthers, OverhearOthers}
use Rattle.lapd_clock_laws.proofs.EachSide.{GoesOn, event_goes_on, network_goes_on, takes_poll, user_goes_on}
use Rattle.lapd_clock_laws.proofs.LinkDeadlines.{Proceeds, RunsLong, by_either, carried_on, given_carries, joined, none_runs_long, t200_of}
use Rattle.lapd_clock_laws.proofs.SideClocks.{IsAwaited, all_still, any_moment, event_of_other, none_of_link, nothing_awaited, nothing_in_transit, own_event, sent_are, still_left}

-- ---- What holds of a link between the events of a run.

-- the clock shows the octets in transit of a side's view
pub record ShowsLines {S : Type 0} (k : SideClock) (v : SideView S) : Type 0 where
  pub incoming : octets_of k.incoming ≡ v.incoming
  pub outgoing : octets_of k.outgoing ≡ v.outgoing

-- octets of the link in transit were sent by now
pub record ArePast (side other : Side) (id : LinkId) (k : SideClock) : Type 0 where
  pub incoming : AreSent other id (λ at. at ≤ k.now) k.incoming
  pub outgoing : AreSent side id (λ at. at ≤ k.now) k.outgoing

-- seen from one side: its own link, the link of the other side, and the octets in transit
pub record Holds {S : Type 0} (longest : ℕ) (side other : Side) (id : LinkId)
    (own link : Option Linked) (v : SideView S) (k : SideClock) : Type 0 where
  pub lines : ShowsLines k v
  pub past : ArePast side other id k
  pub own_awaits : IsAwaited longest side other id own k.outgoing k.incoming
  pub other_awaits : IsAwaited longest other side id link k.incoming k.outgoing
  pub own_long : RunsLong (2 * longest) own
  pub other_long : RunsLong (2 * longest) link

pub sent_by_then : (from : Side) (id : LinkId) (now next : ℕ) (line : List Sent) → now ≤ next
    → AreSent from id (λ at. at ≤ now) line → AreSent from id (λ at. at ≤ next) line
sent_by_then from id now next line later past = All-weaker
    (λ (sent : Sent). is_for from id sent.octets ≡ true → sent.at ≤ now)
    (λ (sent : Sent). is_for from id sent.octets ≡ true → sent.at ≤ next)
    (λ sent before its. (let by_now = before its in omega (arith, by_now, later))) line past

pub sent_just_now : (from : Side) (id : LinkId) (now : ℕ) (frames : List (List ℕ))
    → AreSent from id (λ at. at ≤ now) (sent_at now frames)
sent_just_now from id now [] =
    All-nil (λ (sent : Sent). is_for from id sent.octets ≡ true → sent.at ≤ now)
sent_just_now from id now (octets ∷ frames) =
    All-cons (λ (sent : Sent). is_for from id sent.octets ≡ true → sent.at ≤ now)
    (record { octets = octets; at = now }) (sent_at now frames) (λ its. omega arith)
    (sent_just_now from id now frames)

-- ---- One event of a side.

module _ {M : Type 0} (rules : Rules M) (longest : ℕ) (positive : 0 < longest) (id : LinkId)
    (low : id.tei < 127) (config : Config)
    (law : (polled : Bool) (now : ℕ) → HoldsOfRules rules config now
    (GoesOn (2 * longest) id low polled rules now) AnyRequest) where
  abbrev W : Behaviour (SideState M)
  W = behaviour rules config

  abbrev HoldsHere : Option Linked → SideView (SideState M) → SideClock → Type 0
  HoldsHere link v k = Holds longest rules.side (other_side rules.side) id
      (v.now.served.links id) link v k

  event_keeps : (event : SideEvent) (v : SideView (SideState M)) (k : SideClock)
      (link : Option Linked) → OverhearsOthers id rules.side event
      → IsInTime longest id rules.side event v.now.served k → HoldsHere link v k
      → HoldsHere link (does W event v) (ticks W event v k)
  unfolding does
  event_keeps event v k link others in_time h =
      let now = moment_of event k.now in
      let a = reaction W event v in
      let before = v.now.served.links id in
      let after = a.after.served.links id in
      let proceeds = event_goes_on rules config (2 * longest) id low law event v k.now others
      in_time.in_range h.own_long in
      record {
        lines = record {
          incoming = still_left event k.incoming ∙ ap (left event) h.lines.incoming;
          outgoing = map-append (λ (sent : Sent). sent.octets) k.outgoing
              (sent_at now a.effects.frames)
              ∙ ap (λ (line : List (List ℕ)). octets_of k.outgoing ++ line)
              (sent_are now a.effects.frames)
              ∙ ap (λ (line : List (List ℕ)). line ++ a.effects.frames) h.lines.outgoing;
        };
        past = record {
          incoming = all_still
              (λ (sent : Sent). is_for (other_side rules.side) id sent.octets ≡ true
              → sent.at ≤ now) event k.incoming
              (sent_by_then (other_side rules.side) id k.now now k.incoming in_time.in_order
              h.past.incoming);
          outgoing = All-append
              (λ (sent : Sent). is_for rules.side id sent.octets ≡ true → sent.at ≤ now)
              k.outgoing (sent_at now a.effects.frames)
              (sent_by_then rules.side id k.now now k.outgoing in_time.in_order h.past.outgoing)
              (sent_just_now rules.side id now a.effects.frames);
        };
        own_awaits = own_event longest rules.side (other_side rules.side) id event k before after
            a.effects.frames (takes_poll (other_side rules.side) id event v.incoming)
            in_time.in_order h.past.outgoing h.past.incoming proceeds h.own_awaits;
        other_awaits = event_of_other longest (other_side rules.side) rules.side id event k link
            before after a.effects.frames in_time.prompt.to_side
            (subst (λ (line : List (List ℕ)). Proceeds (2 * longest) now rules.side id
            (takes_poll (other_side rules.side) id event line) before after a.effects.frames)
            (sym h.lines.incoming) proceeds) h.other_awaits;
        own_long = proceeds.long;
        other_long = h.other_long;
      }

  -- ---- T200 is due, so nothing that it waits for is in transit.

  t200_due : (links : Links) (its : Timers) (deadline : ℕ) (l : Option Linked) → links id ≡ l
      → of_links links (Some id) ≡ Some its → deadline_of T200 its ≡ Some deadline
      → t200_of (links id) ≡ Some deadline
  t200_due links its deadline None is there until =
      (let none : None ≡ Some its =
      sym (ap (option_map (λ (l : Linked). l.timers)) is) ∙ there in cc)
  t200_due links its deadline (Some l) is there until =
      let same : l.timers ≡ its =
      some_timers l.timers its (sym (ap (option_map (λ (l : Linked). l.timers)) is) ∙ there) in
      ap t200_of is ∙ ap (deadline_of T200) same ∙ until
    where
      some_timers : (a b : Timers) → Some a ≡ Some b → a ≡ b
      some_timers a b h = cc

  expires_timely : (timer : Timer) (of : Option LinkId) (now : ℕ) (v : SideView (SideState M))
      (k : SideClock) (link : Option Linked)
      → IsInTime longest id rules.side (Expire timer of now) v.now.served k → HoldsHere link v k
      → IsTimely rules.side id (Expire timer of now) v
  expires_timely timer of now v k link in_time h is_t200 is_id =
      let due = in_time.when_due is_id in
      let past = due.1 in
      let there : of_links v.now.served.links (Some id) ≡ Some past.runs.its =
      subst (λ (o : Option LinkId). of_served v.now.served o ≡ Some past.runs.its) is_id
      past.runs.there in
      let until : deadline_of T200 past.runs.its ≡ Some due.0 =
      subst (λ (t : Timer). deadline_of t past.runs.its ≡ Some due.0) is_t200 past.runs.until in
      let both = nothing_in_transit longest rules.side (other_side rules.side) id now due.0
      (v.now.served.links id) k positive past.is_past
      (t200_due v.now.served.links past.runs.its due.0 (v.now.served.links id) refl there until)
      h.own_awaits in_time.prompt.from_side in_time.takes_first in (
        ap (list_any (is_poll_for rules.side id)) (sym h.lines.outgoing) ∙ both.0,
        ap (list_any (is_final_for (other_side rules.side) id)) (sym h.lines.incoming) ∙ both.1,
      )

  event_timely : (event : SideEvent) (v : SideView (SideState M)) (k : SideClock)
      (link : Option Linked) → OverhearsOthers id rules.side event
      → IsInTime longest id rules.side event v.now.served k → HoldsHere link v k
      → IsTimely rules.side id event v
  event_timely (Take now) v k link others in_time h = tt
  event_timely (Lose at) v k link others in_time h = tt
  event_timely (Expire timer of now) v k link others in_time h =
      expires_timely timer of now v k link in_time h
  event_timely (Ask request now) v k link others in_time h = tt
  event_timely (Overhear octets now) v k link others in_time h = others

-- ---- Every run of an interface.

module _ (c : Configs) (id : LinkId) (low : id.tei < 127) (longest : ℕ) (positive : 0 < longest)
    (user_long : IsLongEnough longest c.user.durations)
    (network_long : IsLongEnough longest c.network.durations) where
  abbrev pub HoldsOfUser : Interface → Clock → Type 0
  HoldsOfUser i k = Holds longest side.User side.Network id (i.user.served.links id)
      (i.network.served.links id) (by_user i) (user_clock k)

  abbrev HoldsOfNetwork : Interface → Clock → Type 0
  HoldsOfNetwork i k = Holds longest side.Network side.User id (i.network.served.links id)
      (i.user.served.links id) (by_network i) (network_clock k)

  -- the same, seen from the other side
  as_network : (i : Interface) (k : Clock) → HoldsOfUser i k → HoldsOfNetwork i k
  as_network i k h = record {
    lines = record { incoming = h.lines.outgoing; outgoing = h.lines.incoming };
    past = record { incoming = h.past.outgoing; outgoing = h.past.incoming };
    own_awaits = h.other_awaits;
    other_awaits = h.own_awaits;
    own_long = h.other_long;
    other_long = h.own_long;
  }

  as_user : (i : Interface) (k : Clock) → HoldsOfNetwork i k → HoldsOfUser i k
  as_user i k h = record {
    lines = record { incoming = h.lines.outgoing; outgoing = h.lines.incoming };
    past = record { incoming = h.past.outgoing; outgoing = h.past.incoming };
    own_awaits = h.other_awaits;
    other_awaits = h.own_awaits;
    own_long = h.other_long;
    other_long = h.own_long;
  }

  user_law : (polled : Bool) (now : ℕ) → HoldsOfRules user_rules c.user now
      (GoesOn (2 * longest) id low polled user_rules now) AnyRequest
  user_law polled now = user_goes_on (2 * longest) id low polled c.user user_long now

  network_law : (polled : Bool) (now : ℕ) → HoldsOfRules network_rules c.network now
      (GoesOn (2 * longest) id low polled network_rules now) AnyRequest
  network_law polled now =
      network_goes_on (2 * longest) id low polled c.network network_long now

  pub move_keeps : (who : Side) (event : SideEvent) (i : Interface) (k : Clock)
      → OverhearsOthers id who event → OfMove (IsInTime longest id) who event i k
      → HoldsOfUser i k → HoldsOfUser (side_does c who event i) (clock_after c who event i k)
  move_keeps side.User event i k others in_time h =
      event_keeps user_rules longest positive id low c.user user_law event (by_user i)
      (user_clock k) (i.network.served.links id) others in_time h
  move_keeps side.Network event i k others in_time h =
      as_user (side_does c side.Network event i) (clock_after c side.Network event i k)
      (event_keeps network_rules longest positive id low c.network network_law event
      (by_network i) (network_clock k) (i.user.served.links id) others in_time
      (as_network i k h))

  pub move_timely : (who : Side) (event : SideEvent) (i : Interface) (k : Clock)
      → OverhearsOthers id who event → OfMove (IsInTime longest id) who event i k
      → HoldsOfUser i k → IsTimelyMove id who event i
  move_timely side.User event i k others in_time h =
      event_timely user_rules longest positive id low c.user user_law event (by_user i)
      (user_clock k) (i.network.served.links id) others in_time h
  move_timely side.Network event i k others in_time h =
      event_timely network_rules longest positive id low c.network network_law event
      (by_network i) (network_clock k) (i.user.served.links id) others in_time
      (as_network i k h)

  run_timely : (moves : List Move) (i : Interface) (k : Clock) → OverhearOthers id moves
      → AreInTime longest c id moves i k → HoldsOfUser i k → AreTimely c id moves i
  run_timely [] i k others in_time h = tt
  run_timely (move ∷ moves) i k others in_time h = (
    move_timely move.side move.event i k others.0 in_time.0 h,
    run_timely moves (happens c move i) (clock_after c move.side move.event i k) others.1
        in_time.1 (move_keeps move.side move.event i k others.0 in_time.0 h),
  )

  -- ---- The start.

  pub starts : (i : Interface) (k : Clock) → Shows k i → IsClear id i
      → HasLongT200 longest (i.user.served.links id)
      → HasLongT200 longest (i.network.served.links id) → HoldsOfUser i k
  starts i k shows clear long_user long_network =
      let into : AreSent side.Network id (λ at. ⊥) k.to_user = none_of_link side.Network id
      k.to_user (ap (those_for side.Network id) shows.to_user ∙ clear.to_user) in
      let out : AreSent side.User id (λ at. ⊥) k.to_network = none_of_link side.User id
      k.to_network (ap (those_for side.User id) shows.to_network ∙ clear.to_network) in
      record {
        lines = record { incoming = shows.to_user; outgoing = shows.to_network };
        past = record {
          incoming = any_moment side.Network id (λ at. at ≤ k.now) k.to_user into;
          outgoing = any_moment side.User id (λ at. at ≤ k.now) k.to_network out;
        };
        own_awaits = nothing_awaited longest side.User side.Network id
            (i.user.served.links id) k.to_network k.to_user out into;
        other_awaits = nothing_awaited longest side.Network side.User id
            (i.network.served.links id) k.to_user k.to_network into out;
        own_long = long_user;
        other_long = long_network;
      }

  pub timely_from : (i : Interface) (k : Clock) → Shows k i → IsClear id i
      → HasLongT200 longest (i.user.served.links id)
      → HasLongT200 longest (i.network.served.links id) → (moves : List Move)
      → OverhearOthers id moves → AreInTime longest c id moves i k → AreTimely c id moves i
  timely_from i k shows clear long_user long_network moves others in_time =
      run_timely moves i k others in_time (starts i k shows clear long_user long_network)

  -- ---- Newly created sides.

  pub new_user_long : (fixed : Option ℕ) (random : Lcg)
      → HasLongT200 longest ((new_user c.user fixed random).served.links id)
  new_user_long fixed random = by fixed
    where
      by : (fixed : Option ℕ) → HasLongT200 longest (links_of_fixed c.user fixed id)
      by None = none_runs_long (2 * longest)
      by (Some tei) = (given_carries (2 * longest) 0 side.User id false c.user user_long
          (Some tei) no_links).long (none_runs_long (2 * longest))

  pub new_network_long : (known : List ℕ)
      → HasLongT200 longest ((new_network c.network known).served.links id)
  unfolding links_below
  new_network_long known = (by_either (2 * longest) 0 side.Network id false
      (is_served c.network id.sapi && is_held_below (known_held known).held 127 id.tei) None
      (Some (new_linked (parameters_for c.network id.sapi) c.network.durations)) None
      (joined (2 * longest) 0 side.Network id false c.network network_long None)
      (carried_on (2 * longest) 0 side.Network id false None)).long (none_runs_long (2 * longest))

  pub made_timely : (fixed : Option ℕ) (known : List ℕ) (random : Lcg) (start : ℕ)
      (moves : List Move) → OverhearOthers id moves
      → AreInTime longest c id moves
      (new_interface (new_user c.user fixed random) (new_network c.network known))
      (new_clock start)
      → AreTimely c id moves
      (new_interface (new_user c.user fixed random) (new_network c.network known))
  made_timely fixed known random start moves others in_time = timely_from
      (new_interface (new_user c.user fixed random) (new_network c.network known))
      (new_clock start) (record { to_user = refl; to_network = refl })
      (record { to_user = refl; to_network = refl }) (new_user_long fixed random)
      (new_network_long known) moves others in_time
