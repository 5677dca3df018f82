-- A network side and a user side, from their creation, answer each request about a link.
use Rattle.std.proofs.Common.{◌≡◌, ℕ, ◌+◌, ◌*◌, ◌≤◌, ◌<◌, Bool, true, false, List, [], ◌∷◌, ◌++◌, Option, Some, None, Result, Ok, Err, refl, sym, ap, subst, ◌∙◌}
use Rattle.std.specs.Prelude.{IfOk}
use Rattle.std.specs.List.{All}
use Rattle.rand_pcg.specs.Lcg.{Lcg}
use Rattle.lapd_timers.specs.Due.{Timers}
use Rattle.lapd_frame.specs.declared.Side.{Side}
use Rattle.lapd_frame.specs.declared.Side.TheVariants as side
use Rattle.lapd_link_definition.specs.Input.{Input}
use Rattle.lapd_tei.specs.declared.phase.Phase.{Phase}
use Rattle.lapd_tei.specs.declared.phase.Phase.TheVariants.{Unassigned, Awaiting, Assigned}
use Rattle.lapd_tei.specs.Terminal.{tei_of}
use Rattle.lapd_table.specs.declared.link_id.LinkId.{LinkId}
use Rattle.lapd_sides_links.specs.declared.config.Config.{Config}
use Rattle.lapd_sides_links.specs.declared.primitive.What.{What}
use Rattle.lapd_sides_links.specs.declared.side_fault.SideKind.{SideKind}
use Rattle.lapd_sides_links.specs.Links.{Linked, Links, Reaction, of_sapi, in_links, link_acts, parameters_for}
use Rattle.lapd_sides.specs.SideState.{SideState, Rules, among_links, link_of, with_links}
use Rattle.lapd_sides.specs.Network.{Network, network_requested, network_rules}
use Rattle.lapd_sides.specs.User.{User, user_requested, user_rules, with_tei_or, wants, forgets}
use Rattle.lapd_two_side_laws.specs.Answers.{asks, answers, HasAnswer, expiries_of, KeepsRequest, IsBy, IsAtMostLate, IsPunctual, Throughout, most_periods}
use Rattle.lapd_two_side_laws.specs.EndAnswers.{Asked, Establishment, Withdrawal, Clearing, request_of, may_release, most_expiries}
use Rattle.lapd_two_side_laws.specs.ExactTimers.{HaveExactTimers, SideStep, BringsOctets, stepped, stepped_by_all, new_view}
use Rattle.lapd_side_events.specs.Interface.{behaviour, network_behaviour, user_behaviour}
use Rattle.lapd_two_side_laws.specs.NewLinks.{network_after, user_after}
use Rattle.lapd_two_side_laws.specs.Owed.{IsStep}
use Rattle.lapd_side_events.specs.SideView.{Behaviour, SideView}
use Rattle.lapd_two_side_laws.proofs.AnsweredSides.{answered_by_count, answered_in_time, Debt, debt_closed}
use Rattle.lapd_two_side_laws.proofs.EachEvent.{IsClosed, Ways, network_ways, user_ways}
use Rattle.lapd_two_side_laws.proofs.EachLink.{HasLinks}
use Rattle.lapd_two_side_laws.proofs.ExactSides.{Exact, network_exactly, network_steps_exact, user_exactly, user_steps_exact}
use Rattle.lapd_two_side_laws.proofs.LinkParts.{own_granted, absent_refuses}
use Rattle.lapd_two_side_laws.proofs.UsualLinks.{Usual, network_usual, none_answers, request_usual, user_usual, usual_closed}
use Rattle.lapd_two_side_laws.proofs.Reactions.{AnyRequest, HoldsOfRules}

-- ---- A request that a link accepts is a step of it.

module _ (side : Side) (id : LinkId) (links : Links) (now : ℕ) (input : Input) where
  abbrev Acts : Result (Reaction Links) SideKind
  Acts = in_links id (link_acts side id now input []) links

  abbrev Steps : Reaction Links → Type 0
  Steps b = IsStep side id now input [] (λ (t : Timers). t) links b.after b.effects

  by_link : (l : Option Linked) (b : Reaction Links) → links id ≡ l → Acts ≡ Ok b → Steps b
  by_link None b is done = let err = absent_refuses side id links now input [] is in cc
  by_link (Some l) b is done = (own_granted side id links now input [] l b is done).is_step

  accepted_steps : (b : Reaction Links) → Acts ≡ Ok b → Steps b
  accepted_steps b done = by_link (links id) b refl done

-- without the clock, each event is ready; with it, each punctual event is
unclocked : (S : Type 0) (w : Behaviour S) (side_steps : List SideStep) (v : SideView S)
    → Throughout w (λ event s. false ≡ true → IsPunctual 0 w event s) side_steps v
unclocked S w [] v = tt
unclocked S w (x ∷ xs) v = (λ ticks. cc, unclocked S w xs (stepped w x v))

pub clocked : (S : Type 0) (w : Behaviour S) (lateness : ℕ) (side_steps : List SideStep)
    (v : SideView S) → Throughout w (IsPunctual lateness w) side_steps v
    → Throughout w (λ event s. true ≡ true → IsPunctual lateness w event s) side_steps v
clocked S w lateness [] v h = tt
clocked S w lateness (x ∷ xs) v h =
    (λ ticks. h.0, clocked S w lateness xs (stepped w x v) h.1)

-- ---- A side.

module _ {M : Type 0} (rules : Rules M) (config : Config)
    (ways : (id : LinkId) (may : Bool) (p : What → Bool) (O : ℕ → ℕ → Option Linked → Type 0)
    → IsClosed id may p O config
    → Ways id may p O config (SideState M) (behaviour rules config) rules.side)
    (asked : Asked) (id : LinkId) (now : ℕ) (s : SideState M) (a : Reaction (SideState M))
    (exactly : HoldsOfRules rules config now (Exact rules) AnyRequest)
    (exact : HaveExactTimers s.served.links)
    (of_link : rules.requested config (asks asked id) now s
    ≡ link_of rules.side now id (request_of asked) [] s)
    (done : rules.requested config (asks asked id) now s ≡ Ok a) (after : List SideStep)
    (keeps : KeepsRequest asked rules.side id after) where
  abbrev W : Behaviour (SideState M)
  W = behaviour rules config

  abbrev Stepped : Reaction (SideState M) → Type 0
  Stepped x = IsStep rules.side id now (request_of asked) [] (λ (t : Timers). t) s.served.links
      x.after.served.links x.effects

  grants : (r : Result (Reaction Links) SideKind)
      → in_links id (link_acts rules.side id now (request_of asked) []) s.served.links ≡ r
      → among_links s r ≡ Ok a → Stepped a
  grants (Ok b) is granted =
      let same : with_links s b ≡ a = cc in
      subst Stepped same
      (accepted_steps rules.side id s.served.links now (request_of asked) b is)
  grants (Err kind) is granted = cc

  steps : Stepped a
  unfolding link_of
  steps =
      grants (in_links id (link_acts rules.side id now (request_of asked) []) s.served.links) refl
      (sym of_link ∙ done)

  exact_after : HaveExactTimers a.after.served.links
  exact_after = (subst (λ r. IfOk r (Exact rules s)) done
      (exactly.requested (asks asked id) s tt) exact).timers

  its_ways : (clock : Bool) (lateness : ℕ) → HasLinks id.sapi
      → Ways id (may_release asked) (answers asked) (Debt config id asked clock lateness now)
      config (SideState M) W rules.side
  its_ways clock lateness has =
      ways id (may_release asked) (answers asked) (Debt config id asked clock lateness now)
      (debt_closed config id asked clock lateness now has)

  usual_then : (clock : Bool) → Usual config id clock now 0 now (s.served.links id)
      → Usual config id clock now 0 now (a.after.served.links id)
  usual_then clock usual =
      request_usual config id clock now (SideState M) W rules.side
      (ways id true none_answers (Usual config id clock now) (usual_closed config id clock now))
      (asks asked id) s a done usual

  abbrev IsAnswered : Type 0
  IsAnswered = HasAnswer asked id (a.effects.primitives
      ++ (stepped_by_all W after (new_view a.after)).delivered)

  counts : Usual config id false now 0 now (s.served.links id)
      → most_expiries asked (parameters_for config id.sapi).n200 ≤ expiries_of id after
      → IsAnswered
  counts usual enough =
      answered_by_count config id asked false 0 now (SideState M) W rules.side
      (its_ways false 0) s a steps exact exact_after (usual_then false usual) after keeps
      (unclocked (SideState M) W after (new_view a.after)) enough

  is_in_time : Usual config id true now 0 now (s.served.links id) → (lateness moment : ℕ)
      → Throughout W (IsPunctual lateness W) after (new_view a.after)
      → IsAtMostLate lateness (stepped_by_all W after (new_view a.after)).now.served moment
      → now + most_periods asked (parameters_for config id.sapi).n200
      * (config.durations.t200 + lateness) < moment → IsAnswered
  is_in_time usual lateness moment punctual quiet late =
      answered_in_time config id asked true lateness now (SideState M) W rules.side
      (its_ways true lateness) s a steps exact exact_after (usual_then true usual) after keeps
      (clocked (SideState M) W lateness after (new_view a.after) punctual) moment refl quiet late

-- ---- A network side.

module _ (config : Config) (known : List ℕ) (before : List SideStep) (asked : Asked) (id : LinkId)
    (now : ℕ) (a : Reaction Network) (octets : All BringsOctets before)
    (done : network_requested config (asks asked id) now (network_after config known before)
    ≡ Ok a) (after : List SideStep) (keeps : KeepsRequest asked side.Network id after) where
  abbrev NetworkBefore : Network
  NetworkBefore = network_after config known before

  of_link : (asked : Asked) → network_requested config (asks asked id) now NetworkBefore
      ≡ link_of side.Network now id (request_of asked) [] NetworkBefore
  unfolding network_requested
  of_link Establishment = refl
  of_link Withdrawal = refl
  of_link Clearing = refl

  pub network_counts : most_expiries asked (parameters_for config id.sapi).n200
      ≤ expiries_of id after
      → HasAnswer asked id (a.effects.primitives
      ++ (stepped_by_all (network_behaviour config) after (new_view a.after)).delivered)
  network_counts enough =
      counts network_rules config (λ id may p O. network_ways id may p O config) asked id now
      NetworkBefore a (network_exactly config now)
      (network_steps_exact config known before octets) (of_link asked) done after keeps
      (network_usual config id false now known before (λ ticks. cc)) enough

  pub network_is_in_time : (lateness moment : ℕ) → All (λ x. IsBy now x.event) before
      → Throughout (network_behaviour config) (IsPunctual lateness (network_behaviour config))
      after (new_view a.after)
      → IsAtMostLate lateness (stepped_by_all (network_behaviour config) after
      (new_view a.after)).now.served moment
      → now + most_periods asked (parameters_for config id.sapi).n200
      * (config.durations.t200 + lateness) < moment
      → HasAnswer asked id (a.effects.primitives
      ++ (stepped_by_all (network_behaviour config) after (new_view a.after)).delivered)
  network_is_in_time lateness moment by punctual quiet late =
      is_in_time network_rules config (λ id may p O. network_ways id may p O config) asked id now
      NetworkBefore a (network_exactly config now)
      (network_steps_exact config known before octets) (of_link asked) done after keeps
      (network_usual config id true now known before (λ ticks. by)) lateness moment punctual
      quiet late

-- ---- A user side with a TEI.

module _ (config : Config) (fixed : Option ℕ) (random : Lcg) (before : List SideStep)
    (asked : Asked) (id : LinkId) (now : ℕ) (a : Reaction User) (octets : All BringsOctets before)
    (own : tei_of (user_after config fixed random before).management.terminal ≡ Some id.tei)
    (done : user_requested config (asks asked id) now (user_after config fixed random before)
    ≡ Ok a) (after : List SideStep) (keeps : KeepsRequest asked side.User id after) where
  abbrev UserBefore : User
  UserBefore = user_after config fixed random before

  with_own_tei : (terminal : Phase) (input : Input) (otherwise : Result (Reaction User) SideKind)
      → tei_of terminal ≡ Some id.tei
      → with_tei_or now terminal id.sapi input [] otherwise UserBefore
      ≡ link_of side.User now id input [] UserBefore
  with_own_tei (Assigned by tei) input otherwise is =
      let same : tei ≡ id.tei = cc in
      ap (λ t. link_of side.User now (of_sapi id.sapi t) input [] UserBefore) same
  with_own_tei Unassigned input otherwise is = cc
  with_own_tei (Awaiting purpose count ri) input otherwise is = cc

  of_own_link : (asked : Asked)
      → user_requested config (asks asked id) now UserBefore
      ≡ link_of side.User now id (request_of asked) [] UserBefore
  unfolding user_requested
  of_own_link Establishment =
      with_own_tei UserBefore.management.terminal (request_of Establishment)
      (wants config now id.sapi UserBefore) own
  of_own_link Withdrawal =
      with_own_tei UserBefore.management.terminal (request_of Withdrawal)
      (wants config now id.sapi UserBefore) own
  of_own_link Clearing =
      with_own_tei UserBefore.management.terminal (request_of Clearing) (forgets id.sapi UserBefore)
      own

  pub user_counts : most_expiries asked (parameters_for config id.sapi).n200
      ≤ expiries_of id after
      → HasAnswer asked id (a.effects.primitives
      ++ (stepped_by_all (user_behaviour config) after (new_view a.after)).delivered)
  user_counts enough =
      counts user_rules config (λ id may p O. user_ways id may p O config) asked id now UserBefore
      a (user_exactly config now) (user_steps_exact config fixed random before octets)
      (of_own_link asked) done after keeps
      (user_usual config id false now fixed random before (λ ticks. cc)) enough

  pub user_is_in_time : (lateness moment : ℕ) → All (λ x. IsBy now x.event) before
      → Throughout (user_behaviour config) (IsPunctual lateness (user_behaviour config)) after
      (new_view a.after)
      → IsAtMostLate lateness (stepped_by_all (user_behaviour config) after
      (new_view a.after)).now.served moment
      → now + most_periods asked (parameters_for config id.sapi).n200
      * (config.durations.t200 + lateness) < moment
      → HasAnswer asked id (a.effects.primitives
      ++ (stepped_by_all (user_behaviour config) after (new_view a.after)).delivered)
  user_is_in_time lateness moment by punctual quiet late =
      is_in_time user_rules config (λ id may p O. user_ways id may p O config) asked id now
      UserBefore a (user_exactly config now)
      (user_steps_exact config fixed random before octets) (of_own_link asked) done after keeps
      (user_usual config id true now fixed random before (λ ticks. by)) lateness moment punctual
      quiet late
