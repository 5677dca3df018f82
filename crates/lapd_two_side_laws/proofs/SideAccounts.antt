-- A side accounts for every message of a link, from any moment on, while the link's TEI stays.
use Rattle.std.proofs.Common.{◌≡◌, ◌⊎◌, inl, inr, ℕ, ◌+◌, ◌-◌, ◌≤◌, ◌<◌, Bool, true, false, if◌then◌else◌, List, [], ◌∷◌, ◌++◌, length, drop, Option, Some, None, Ok, refl, sym, ap, subst, ◌∙◌, append_assoc, append-nil, length-append, length-drop, arith}
use Rattle.std.specs.Prelude.{is_some, ◌||◌, ◌&&◌, nat_lt}
use Rattle.std.specs.List.{filter_map, list_any}
use Rattle.std.proofs.lemmas.Bool.Decides.{nat_tests}
use Rattle.std.proofs.lemmas.List.{drop-drop, drop-append-le}
use Rattle.std.proofs.lemmas.List.Elements.{filter_map-append}
use Rattle.rand_pcg.specs.Lcg.{Lcg}
use Rattle.lapd_timers.specs.Due.{Timers}
use Rattle.lapd_frame.specs.declared.Side.{Side}
use Rattle.lapd_frame.specs.Address.{other_side}
use Rattle.lapd_mod128.specs.Counting.{Tagged}
use Rattle.lapd_link_definition.specs.declared.out.Out.{Out}
use Rattle.lapd_link_definition.specs.declared.out.Out.TheVariants.{Up, UnitUp, Acknowledged, Dropped}
use Rattle.lapd_link_definition.specs.Counts.{leaving, messages_of}
use Rattle.lapd_link_definition.specs.End.{StepState}
use Rattle.lapd_link_definition.specs.Input.{Input}
use Rattle.lapd_link_definition.specs.Sound.{IsSound}
use Rattle.lapd_link_definition.specs.Table.{step}
use Rattle.lapd_link_definition.proofs.InputsThatCount.{given_after}
use Rattle.lapd_link_definition.proofs.PlacesOfStep.{first_after}
use Rattle.lapd_link_definition.proofs.PreservedByStep.{step_preserves_parameters}
use Rattle.lapd_link_definition.proofs.Soundness.{sound_new, sound_step}
use Rattle.lapd_pair_laws.specs.Consistent.{AreSettled}
use Rattle.lapd_pair_laws.specs.Histories.{History, new_history}
use Rattle.lapd_pair_laws.proofs.Consistency.{first_within}
use Rattle.lapd_pair_laws.proofs.Settling.{acked_settled, dropped_settled}
use Rattle.lapd_tei.specs.Assigner.{known_held}
use Rattle.lapd_tei.specs.Message.{group_tei}
use Rattle.lapd_table.specs.declared.link_id.LinkId.{LinkId}
use Rattle.lapd_sides_links.specs.declared.config.Config.{Config}
use Rattle.lapd_sides_links.specs.declared.primitive.What.{What}
use Rattle.lapd_sides_links.specs.declared.primitive.What.TheVariants as what
use Rattle.lapd_sides_links.specs.Effects.{Effects, what_of}
use Rattle.lapd_sides_links.specs.Links.{Links, Linked, with_link, is_served, is_link_of, is_held_below, with_tei, links_below, parameters_for}
use Rattle.lapd_sides.specs.SideState.{SideState, Rules, takes}
use Rattle.lapd_sides.specs.Network.{new_network, network_rules}
use Rattle.lapd_sides.specs.User.{new_user, user_rules}
use Rattle.lapd_two_side_laws.specs.Accounts.{queue_of, waiting_of, IsAccounted, since, KeepsTei, IsAccountedSince}
use Rattle.lapd_two_side_laws.specs.Addressed.{is_for}
use Rattle.lapd_two_side_laws.specs.ExactTimers.{SideStep, stepped, stepped_by_all, new_view}
use Rattle.lapd_side_events.specs.Interface.{behaviour, fresh_link, network_behaviour, user_behaviour}
use Rattle.lapd_two_side_laws.specs.NewLinks.{network_after, user_after}
use Rattle.lapd_two_side_laws.specs.Owed.{PassesBy, IsStep, ServesLink}
use Rattle.lapd_two_side_laws.specs.Premises.{is_removal}
use Rattle.lapd_two_side_laws.specs.Primitives.{Known, nothing_known, learns, learns_all, what_for, link_primitives, message_for, given_to, known_of}
use Rattle.lapd_side_events.specs.SideView.{Behaviour, SideView, SideEvent, accepted, reaction, does}
use Rattle.lapd_two_side_laws.proofs.AsMade.{new_are_held, new_are_own}
use Rattle.lapd_two_side_laws.proofs.EachEffect.{Affects, takes_its, each_effect}
use Rattle.lapd_two_side_laws.proofs.LinkParts.{now_there, any_more, any_behind, learns_both}
use Rattle.lapd_two_side_laws.proofs.OwnSides.{AreOwned, Has, Holds, PreservesOwned, network_preserves, network_steps_held, user_preserves, user_steps_own}
use Rattle.lapd_two_side_laws.proofs.Networks.{network_meant, of_network}
use Rattle.lapd_two_side_laws.proofs.EventOnLink.{ServesMeant}
use Rattle.lapd_two_side_laws.proofs.OwnTeis.{IsQuietFor}
use Rattle.lapd_two_side_laws.proofs.Users.{of_user, user_meant}

-- ---- The primitives of a step report the messages that leave the queue.

passed_by : (octets : List ℕ) (outs : List Out) (k : Known)
    → (learns_all (filter_map (what_of octets) outs) k).passed ≡ k.passed + leaving outs
passed_by octets [] k = omega arith
passed_by octets (Acknowledged n ∷ outs) k =
    omega (arith, passed_by octets outs (learns (what.Acknowledged n) k))
passed_by octets (Dropped n ∷ outs) k =
    omega (arith, passed_by octets outs (learns (what.Dropped n) k))
passed_by octets (Up ∷ outs) k = passed_by octets outs (learns (what.Up octets) k)
passed_by octets (UnitUp ∷ outs) k = passed_by octets outs (learns (what.UnitUp octets) k)
passed_by octets (out ∷ outs) k = passed_by octets outs k

-- layer 3 knows of each of them once
abbrev history_of : Known → History
history_of k = record new_history { acked = k.acked; dropped = k.dropped; passed = k.passed }

abbrev AreKnownOnce : Known → Type 0
AreKnownOnce k = AreSettled (history_of k)

known_once : (ws : List What) (k : Known) → AreKnownOnce k → AreKnownOnce (learns_all ws k)
known_once [] k h = h
known_once (what.Acknowledged n ∷ ws) k h =
    known_once ws (learns (what.Acknowledged n) k) (acked_settled n (history_of k) h)
known_once (what.Dropped n ∷ ws) k h =
    known_once ws (learns (what.Dropped n) k) (dropped_settled n (history_of k) h)
known_once (what.Up octets ∷ ws) k h = known_once ws (learns (what.Up octets) k) h
known_once (what.UnitUp octets ∷ ws) k h = known_once ws (learns (what.UnitUp octets) k) h
known_once (w ∷ ws) k h = known_once ws k h

none_known : AreKnownOnce nothing_known
none_known = record { counted = refl; settled = λ place. grind (arith, nat_tests) }

-- ---- A link, which may not exist.

abbrev given_in : Option Linked → List (List ℕ)
given_in None = []
given_in (Some l) = l.end.given

abbrev first_in : Option Linked → ℕ
first_in None = 0
first_in (Some l) = l.end.first

record IsSoundLink (l : Linked) : Type 0 where
  pub sound : IsSound Tagged l.end
  pub window : l.end.parameters.k ≤ 127

abbrev AreSound : Option Linked → Type 0
AreSound None = Unit {0}
AreSound (Some l) = IsSoundLink l

within : (l : Option Linked) → AreSound l → first_in l ≤ length (given_in l)
within None sound = omega arith
within (Some l) sound = first_within Tagged l.end.state l.end sound.sound

queue_is : (l : Option Linked) → drop (first_in l) (given_in l) ≡ queue_of l
queue_is None = refl
queue_is (Some l) = refl

waiting_is : (l : Option Linked) → waiting_of l ≡ length (given_in l) - first_in l
waiting_is None = refl
waiting_is (Some l) = refl

-- ---- From a moment at which the link had these messages and this first place: the messages
-- accepted since, and what layer 3 knows since.

record IsCarried (had : List (List ℕ)) (first : ℕ) (given : List (List ℕ)) (k : Known)
    (l : Option Linked) : Type 0 where
  pub sound : AreSound l
  pub given_is : given_in l ≡ had ++ given
  pub first_is : first_in l ≡ first + k.passed
  pub once : AreKnownOnce k

module _ (had : List (List ℕ)) (first : ℕ) where
  carried_as : (given more : List (List ℕ)) (k now : Known) (l after : Option Linked)
      → given ≡ more → k ≡ now → l ≡ after → IsCarried had first given k l
      → IsCarried had first more now after
  carried_as given more k now l after same_given same_k same_l c = record {
    sound = subst AreSound same_l c.sound;
    given_is = ap given_in (sym same_l) ∙ c.given_is ∙ ap (λ xs. had ++ xs) same_given;
    first_is = ap first_in (sym same_l) ∙ c.first_is ∙ ap (λ (x : Known). first + x.passed) same_k;
    once = subst AreKnownOnce same_k c.once;
  }

  carried_by_step : (given : List (List ℕ)) (k : Known) (l : Linked) (input : Input)
      (octets : List ℕ) (timers : Timers) (d : StepState) → IsCarried had first given k (Some l)
      → step Tagged input l.end ≡ Ok d
      → IsCarried had first (given ++ messages_of input)
      (learns_all (filter_map (what_of octets) d.outs) k)
      (Some (record { end = d.end; timers = timers }))
  carried_by_step given k l input octets timers d c done =
      let same = step_preserves_parameters Tagged input l.end d done in
      let start = first_within Tagged l.end.state l.end c.sound.sound in
      record {
        sound = record {
          sound = sound_step Tagged input l.end d c.sound.window c.sound.sound done;
          window = rw same c.sound.window;
        };
        given_is = given_after Tagged input l.end d done
            ∙ ap (λ xs. xs ++ messages_of input) c.given_is
            ∙ append_assoc had given (messages_of input);
        first_is = omega (
          arith,
          c.first_is,
          first_after Tagged input l.end d start done,
          passed_by octets d.outs k,
        );
        once = known_once (filter_map (what_of octets) d.outs) k c.once;
      }

-- a link as it joins
record IsFresh (fresh : Linked) : Type 0 where
  pub sound : IsSoundLink fresh
  pub given : fresh.end.given ≡ []
  pub first : fresh.end.first ≡ 0

module _ (had : List (List ℕ)) (first : ℕ) (given : List (List ℕ)) (k : Known) (side : Side)
    (id : LinkId) (fresh : Linked) (new : IsFresh fresh) (now : Links) (effects : Effects) where
  abbrev Carried : List (List ℕ) → Type 0
  Carried messages = IsCarried had first (given ++ messages)
      (learns_all (link_primitives id effects.primitives) k) (now id)

  carried_past : (before : Links) → PassesBy side id before now effects
      → IsCarried had first given k (before id) → Carried []
  carried_past before passes c = carried_as had first given (given ++ []) k _ (before id) (now id)
      (sym (append-nil given)) (sym (ap (λ ws. learns_all ws k) passes.delivered))
      (sym passes.links) c

  carried_on : (before : Links) (at : ℕ) (input : Input) (octets : List ℕ)
      (change : Timers → Timers) → IsStep side id at input octets change before now effects
      → IsCarried had first given k (before id) → Carried (messages_of input)
  carried_on before at input octets change x c = carried_as had first
      (given ++ messages_of input) (given ++ messages_of input) _ _ _ (now id) refl
      (sym (ap (λ ws. learns_all ws k) x.delivered)) (sym x.links)
      (carried_by_step had first given k x.linked input octets _ x.done
      (subst (IsCarried had first given k) x.was c) x.is)

  joined : (before : Links) → before id ≡ None → IsCarried had first given k (before id)
      → IsCarried had first given k (with_link id (Some fresh) before id)
  joined before none c =
      let none_carried : IsCarried had first given k None =
      subst (IsCarried had first given k) none c in
      subst (IsCarried had first given k) (sym (now_there id fresh before)) (record {
        sound = new.sound;
        given_is = new.given ∙ none_carried.given_is;
        first_is = new.first ∙ none_carried.first_is;
        once = none_carried.once;
      })

  record IsRemoved : Type 0 where
    pub absent : now id ≡ None
    pub reporting : list_any (is_removal id.tei) effects.primitives ≡ true

  with_messages : (messages others : List (List ℕ)) → messages ≡ others → Carried others
      → Carried messages
  with_messages messages others same c = subst Carried (sym same) c

  carried : (before : Links) (messages : List (List ℕ))
      → Affects side id fresh before now effects messages
      → IsCarried had first given k (before id) → IsRemoved ⊎ Carried messages
  carried before messages (inr x) c = inr (with_messages messages (messages_of x.input)
      x.messages_are (carried_on before x.at x.input x.octets x.change x.is_step c))
  carried before messages (inl n) c = elim n.stays [
    | inl passes ↦ inr (with_messages messages [] n.none (carried_past before passes c))
    | inr (inl arrives) ↦
        let come = with_link id (Some fresh) before in
        let there = joined before arrives.absent c in
        inr (with_messages messages [] n.none (elim arrives.arrives [
          | inl alone ↦ carried_past come alone there
          | inr does ↦ carried_on come n.at _ [] (λ t. t) does there
        ]))
    | inr (inr removal) ↦
        inl (record { absent = removal.now_absent; reporting = removal.reporting })
  ]

-- ---- Any list of steps of a side.

or_false : (b : Bool) → (b || false) ≡ true → b ≡ true
or_false true h = refl
or_false false h = cc

module _ (S : Type 0) (w : Behaviour S) (side : Side) (id : LinkId)
    (serves : ServesLink w side id false) (own : (octets : List ℕ) (now : ℕ) (s : S)
    → is_for (other_side side) id octets ≡ true
    → Affects side id (w.fresh id) (w.served s).links
    (w.served (w.takes octets now s).after).links (w.takes octets now s).effects [])
    (new : IsFresh (w.fresh id)) (Holds : S → Type 0)
    (kept : (v : SideView S) (event : SideEvent) → Holds v.now
    → Holds (reaction w event v).after
    × IsQuietFor (w.served v.now).links (reaction w event v).effects) where
  abbrev Link : S → Option Linked
  Link s = (w.served s).links id

  effect : (v : SideView S) (event : SideEvent) → Holds v.now
      → Affects side id (w.fresh id) (w.served v.now).links
      (w.served (reaction w event v).after).links (reaction w event v).effects
      (given_to id (accepted w event v))
  effect v event holds = each_effect S w side id serves own event v
      (λ there. (kept v event holds).1 id (or_false (is_some (Link v.now)) there))

  sound_then : (v : SideView S) (event : SideEvent) → Holds v.now → AreSound (Link v.now)
      → AreSound (Link (reaction w event v).after)
  sound_then v event holds sound =
      let l = Link v.now in
      elim (carried (given_in l) (first_in l) [] nothing_known side id (w.fresh id) new
      (w.served (reaction w event v).after).links (reaction w event v).effects
      (w.served v.now).links (given_to id (accepted w event v)) (effect v event holds) (record {
        sound = sound;
        given_is = sym (append-nil (given_in l));
        first_is = omega arith;
        once = none_known;
      })) [
        | inl removed ↦ subst AreSound (sym removed.absent) tt
        | inr c ↦ c.sound
      ]

  sound_after : (side_steps : List SideStep) (v : SideView S) → Holds v.now
      → AreSound (Link v.now) → AreSound (Link (stepped_by_all w side_steps v).now)
  unfolding does
  sound_after [] v holds sound = sound
  sound_after (x ∷ xs) v holds sound =
      let before : SideView S = record v { incoming = v.incoming ++ x.arrives } in
      sound_after xs (stepped w x v) (kept before x.event holds).0
      (sound_then before x.event holds sound)

  module _ (had : List (List ℕ)) (first : ℕ) where
    abbrev CarriedTo : SideView S → Type 0
    CarriedTo v = IsCarried had first (given_to id v.given) (known_of id v.delivered) (Link v.now)

    abbrev RemovedOr : SideView S → Type 0
    RemovedOr v = (list_any (is_removal id.tei) v.delivered ≡ true) ⊎ CarriedTo v

    step_carries : (x : SideStep) (v : SideView S) → Holds v.now → RemovedOr v
        → RemovedOr (stepped w x v)
    unfolding does
    step_carries x v holds (inl removed) =
        let before : SideView S = record v { incoming = v.incoming ++ x.arrives } in
        inl (any_more (is_removal id.tei) v.delivered
        (reaction w x.event before).effects.primitives removed)
    step_carries x v holds (inr c) =
        let before : SideView S = record v { incoming = v.incoming ++ x.arrives } in
        let a = reaction w x.event before in
        elim (carried had first (given_to id v.given) (known_of id v.delivered) side id
        (w.fresh id) new (w.served a.after).links a.effects (w.served v.now).links
        (given_to id (accepted w x.event before)) (effect before x.event holds) c) [
          | inl removed ↦ inl (any_behind (is_removal id.tei) v.delivered a.effects.primitives
              removed.reporting)
          | inr d ↦ inr (carried_as had first _ (given_to id (v.given ++ accepted w x.event before))
              _ (known_of id (v.delivered ++ a.effects.primitives)) _ (Link a.after)
              (sym (filter_map-append (message_for id) v.given (accepted w x.event before)))
              (sym (ap (λ ws. learns_all ws nothing_known)
              (filter_map-append (what_for id) v.delivered a.effects.primitives)
              ∙ learns_both (link_primitives id v.delivered)
              (link_primitives id a.effects.primitives) nothing_known)) refl d)
        ]

    all_carry : (side_steps : List SideStep) (v : SideView S) → Holds v.now → RemovedOr v
        → RemovedOr (stepped_by_all w side_steps v)
    unfolding does
    all_carry [] v holds c = c
    all_carry (x ∷ xs) v holds c =
        let before : SideView S = record v { incoming = v.incoming ++ x.arrives } in
        all_carry xs (stepped w x v) (kept before x.event holds).0 (step_carries x v holds c)

  counted_in : (old : Option Linked) (given : List (List ℕ)) (k : Known) (l : Option Linked)
      → AreSound old → IsCarried (given_in old) (first_in old) given k l
      → IsAccounted (queue_of old ++ given) k l
  counted_in old given k l sound c =
      let had = given_in old in
      let from = first_in old in
      let start = within old sound in
      let passed = length k.acked + length k.dropped in
      record {
        counted = omega (
          arith,
          length-append (queue_of old) given,
          ap length (queue_is old),
          length-drop from had,
          ap length c.given_is,
          length-append had given,
          waiting_is l,
          within l c.sound,
          c.first_is,
          c.once.counted,
          start,
        );
        rest = ap (λ xs. drop passed (xs ++ given)) (sym (queue_is old))
            ∙ ap (drop passed) (sym (drop-append-le from had given start))
            ∙ drop-drop passed from (had ++ given)
            ∙ ap (λ n. drop n (had ++ given)) (omega (arith, c.first_is, c.once.counted))
            ∙ ap (drop (first_in l)) (sym c.given_is)
            ∙ queue_is l;
        each = λ place. c.once.settled place ∙ ap (λ n. nat_lt place n) c.once.counted;
      }

  accounted_since : (side_steps : List SideStep) (s : S) → Holds s → AreSound (Link s)
      → KeepsTei id (since w s side_steps) → IsAccountedSince w id s side_steps
  accounted_since side_steps s holds sound keeps =
      let v = since w s side_steps in
      let old = Link s in
      elim (all_carry (given_in old) (first_in old) side_steps (new_view s) holds
      (inr (record {
        sound = sound;
        given_is = sym (append-nil (given_in old));
        first_is = omega arith;
        once = none_known;
      }))) [
        | inl removed ↦ absurd (no (list_any (is_removal id.tei) v.delivered) removed keeps)
        | inr c ↦ counted_in old (given_to id v.given) (known_of id v.delivered) (Link v.now)
            sound c
      ]
    where
      no : (b : Bool) → b ≡ true → b ≡ false → ⊥
      no b h k = cc

-- ---- Both kinds of sides.

module _ (config : Config) (id : LinkId) (low : id.tei < 127)
    (few : (parameters_for config id.sapi).k ≤ 127) where
  fresh_is : IsFresh (fresh_link config id)
  fresh_is = record {
    sound = record {
      sound = sound_new Tagged (parameters_for config id.sapi);
      window = few;
    };
    given = refl;
    first = refl;
  }

  new_sound : (test : Bool) → AreSound (if test then Some (fresh_link config id) else None)
  new_sound true = fresh_is.sound
  new_sound false = tt

  -- ---- A side whose TEI management has the TEIs of its links.

  module _ {M : Type 0} (rules : Rules M) (meant : ServesMeant rules config)
      (serves : ServesLink (behaviour rules config) rules.side id false) (Own : M → ℕ → Type 0)
      (preserves : (v : SideView (SideState M)) (event : SideEvent) → AreOwned Own v.now
      → PreservesOwned Own v.now (reaction (behaviour rules config) event v))
      (s : SideState M) (own : AreOwned Own s) (sound : AreSound (s.served.links id)) where
    abbrev W : Behaviour (SideState M)
    W = behaviour rules config

    abbrev Then : List SideStep → SideState M
    Then before = (stepped_by_all W before (new_view s)).now

    kept : (v : SideView (SideState M)) (event : SideEvent) → AreOwned Own v.now
        → AreOwned Own (reaction W event v).after
        × IsQuietFor v.now.served.links (reaction W event v).effects
    kept v event own = let p = preserves v event own in (p.after, p.quiet)

    its : (octets : List ℕ) (now : ℕ) (s : SideState M)
        → is_for (other_side rules.side) id octets ≡ true
        → Affects rules.side id (fresh_link config id) s.served.links
        (takes rules config octets now s).after.served.links
        (takes rules config octets now s).effects []
    its octets now s named = takes_its rules config meant id low now s octets named

    accounts : (before after : List SideStep) → AreOwned Own (Then before)
        → KeepsTei id (since W (Then before) after)
        → IsAccountedSince W id (Then before) after
    accounts before after still keeps =
        accounted_since (SideState M) W rules.side id serves its fresh_is (AreOwned Own) kept after
        (Then before) still
        (sound_after (SideState M) W rules.side id serves its fresh_is (AreOwned Own) kept before
        (new_view s) own sound) keeps

  new_network_sound : (known : List ℕ)
      → AreSound ((new_network config known).served.links id)
  unfolding links_below
  new_network_sound known = new_sound (is_served config id.sapi
      && is_held_below (known_held known).held group_tei id.tei)

  pub network_accounts : (known : List ℕ) (before after : List SideStep)
      → KeepsTei id (since (network_behaviour config) (network_after config known before) after)
      → IsAccountedSince (network_behaviour config) id (network_after config known before) after
  network_accounts known before after =
      let new = new_network config known in
      let held = new_are_held config known in
      accounts network_rules (network_meant config) (of_network config id low false) Holds
      (network_preserves config) new held (new_network_sound known) before after
      (network_steps_held config before (new_view new) held)

  new_user_sound : (fixed : Option ℕ) (random : Lcg)
      → AreSound ((new_user config fixed random).served.links id)
  unfolding with_tei
  new_user_sound None random = tt
  new_user_sound (Some tei) random = new_sound (is_link_of config tei id)

  pub user_accounts : (fixed : Option ℕ) (random : Lcg) (before after : List SideStep)
      → KeepsTei id (since (user_behaviour config) (user_after config fixed random before) after)
      → IsAccountedSince (user_behaviour config) id (user_after config fixed random before) after
  user_accounts fixed random before after =
      let new = new_user config fixed random in
      let own = new_are_own config fixed random in
      accounts user_rules (user_meant config) (of_user config id low false) Has
      (user_preserves config) new own (new_user_sound fixed random) before after
      (user_steps_own config before (new_view new) own)
