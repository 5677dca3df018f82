-- A check of a TEI heals it. While the check is in progress each terminal has yet to take the
-- request, or its response is in transit, or it cannot hold the TEI, but for those whose responses
-- the network counted.
use Rattle.std.proofs.Common.{◌≡◌, ◌⊎◌, inl, inr, ℕ, ◌==◌, ◌<◌, List, [], ◌∷◌, ◌++◌, set, Bool, true, false, Option, Some, None, refl, sym, ap, subst, ◌∙◌}
use Rattle.std.specs.Prelude.{slice_get}
use Rattle.std.specs.List.{list_any, filter_map, cons_option}
use Rattle.lapd_frame.specs.declared.Side.TheVariants as side
use Rattle.lapd_timers.specs.declared.timer.Timer.{Timer}
use Rattle.lapd_tei.specs.declared.assigner.AssignerEvent.{AssignerEvent}
use Rattle.lapd_tei.specs.declared.assigner.AssignerEvent.TheVariants as event
use Rattle.lapd_tei.specs.declared.check.Round.{Round}
use Rattle.lapd_tei.specs.declared.check.Round.TheVariants as round
use Rattle.lapd_tei.specs.declared.check.Responses.{Responses}
use Rattle.lapd_tei.specs.declared.check.Responses.TheVariants as responses
use Rattle.lapd_tei.specs.declared.kind.TeiKind.TheVariants as kind
use Rattle.lapd_tei.specs.declared.message.TeiMessage.{TeiMessage}
use Rattle.lapd_tei.specs.Assigner.{AssignerState, assigner_step, checking, one_more, checked}
use Rattle.lapd_tei.specs.Out.{assigned, check_request, remove}
use Rattle.lapd_tei.specs.Terminal.{reference_of}
use Rattle.lapd_sides_links.specs.Links.{Reaction}
use Rattle.lapd_sides.specs.Network.{Network}
use Rattle.lapd_sides.specs.User.{User, new_user, has_tei}
use Rattle.lapd_side_events.specs.Interface.{Configs, user_behaviour, network_behaviour}
use Rattle.lapd_side_events.specs.SideView.{SideView, SideEvent, Take, Lose, Expire, Ask, Overhear, reaction, left, does}
use Rattle.lapd_bus_laws.specs.Assignments.{holds, is_sent, is_taken, IsSingle, IsHeldOnce}
use Rattle.lapd_side_events.specs.Bus.{Bus, BusEvent, OfTerminal, OfNetwork, Join, Restart, NewTerminal, new_bus, OverhearsNothing, on_line_of, reached_by, left_of, terminal_does, network_does, terminal_joins, bus_step, after_events}
use Rattle.lapd_bus_laws.specs.Healing.{message_in, messages_to, messages_from, has_incoming, has_outgoing, LosesNoMessage, IsAnswered, WaitsForResponses, Heals, HasNoManagementLink, BeginsCheck, IsCheckOver, IsChecked, IsAtRest, ReferencesDiffer, HoldTeis}
use Rattle.lapd_bus_laws.specs.Holdings.{IsOfBus, JoinsWithFree}
use Rattle.lapd_bus_laws.specs.Links.{Throughout}
use Rattle.lapd_bus_laws.proofs.Assigning.{PassesAssigner, StepsAssigner, IsRequested, StepsByMessage, StepsByFirst, StepsByEvent, event_steps}
use Rattle.lapd_bus_laws.proofs.Assigns.{AssignsAtMostOne, event_assigns}
use Rattle.lapd_bus_laws.proofs.Carried.{HasLast, passes_none, none_passes, last_any, last_left, about_names, assigned_on}
use Rattle.lapd_bus_laws.proofs.CheckRows.{AssignsNone, step_assigns_once, heard_row, RequestedRow, requested_check_row, requested_removal_row, ExpiredRow, expired_row, begins_row}
use Rattle.lapd_link_definition.proofs.Sending.{both_true}
use Rattle.lapd_bus_laws.proofs.Lists.{Each, Others, each_set, each_map, others_set, others_map, any_at, any_other, any_weaker, either_some, some_first, not_both}
use Rattle.lapd_side_events.proofs.Indices.{equal_index, apart_index}
use Rattle.lapd_bus_laws.proofs.Single.{no_management}
use Rattle.lapd_bus_laws.proofs.PremisesOfInterface.{has_so}
use Rattle.lapd_bus_laws.proofs.Settled.{Carries, IsRequest, IsResponse, IsRemoval, IsAssigned, IsAnswer, IsNotTaken, Settles, Leaves, Obeys, settles_after, not_taken_after, leaves_after, obeys_after, settles_joined, not_taken_joined, leaves_joined, obeys_joined, not_taken_reached, settles_reached, leaves_reached, obeys_reached, settles_by_request, leaves_by_removals, obeys_by_assignment}

-- ---- Tests.

any_last : (p : TeiMessage → Bool) (ms : List TeiMessage) → list_any p ms ≡ true
    → HasLast p passes_none ms
any_last p [] h = cc
any_last p (m ∷ ms) h = elim (either_some (p m) (list_any p ms) h) [
  | inl it ↦ inr (it, none_passes ms)
  | inr rest ↦ inl (any_last p ms rest)
]

-- ---- No link of the network ever has the address of TEI management.

pub event_management : (c : Configs) (e : BusEvent) (b : Bus) → IsOfBus e
    → HasNoManagementLink b.network
    → HasNoManagementLink (bus_step c e b).network
event_management c (OfTerminal j event) b ok none = by (slice_get b.terminals j)
  where
    by : (o : Option (SideView User)) → HasNoManagementLink (terminal_does c j event o b).network
    by None = none
    by (Some t) = none
event_management c (OfNetwork j event) b ok none = by (slice_get b.terminals j)
  where
    after : (a : Reaction Network) → AssignsAtMostOne c.network b.network a
        → HasNoManagementLink a.after
    after a (inl nothing) = nothing.management
    after a (inr one) = one.management

    by : (o : Option (SideView User)) → HasNoManagementLink (network_does c j event o b).network
    by None = none
    by (Some t) = after (reaction (network_behaviour c.network) event (on_line_of t b))
        (event_assigns c.network event (on_line_of t b) none)
event_management c (Join j new) b ok none = by (slice_get b.terminals j)
  where
    by : (o : Option (SideView User)) → HasNoManagementLink (terminal_joins c j new o b).network
    by None = none
    by (Some t) = none
event_management c (Restart known) b ok none = no_management c known

module _ (c : Configs) (tei : ℕ) (low : tei < 127) where
  -- ---- The bus.

  -- by the number of responses that the network counted
  abbrev Counted : Responses → List (SideView User) → Type 0
  Counted responses.Nobody ts = Each (Settles tei) ts
  Counted responses.One ts = (i : ℕ) × Others (Settles tei) i ts
  Counted responses.Several ts = Unit {0}

  record IsChecking (b : Bus) : Type 0 where
    pub nth : Round
    pub count : Responses
    pub check_is : b.network.management.check ≡ Some (checking tei nth count)
    pub counted : Counted count b.terminals

  abbrev Healed : Bus → Type 0
  Healed b = ((i : ℕ) × Others (IsNotTaken tei) i b.terminals)
      ⊎ ((ri : ℕ) × Each (Obeys tei ri) b.terminals)

  abbrev Healing : Bus → Type 0
  Healing b = IsChecking b ⊎ (Each (Leaves tei) b.terminals ⊎ Healed b)

  -- ---- An event of a terminal, on the bus.

  module _ (b : Bus) (j : ℕ) (event : SideEvent) (t : SideView User) (ok : OverhearsNothing event)
      (keeps : LosesNoMessage tei side.Network event t.incoming)
      (at : slice_get b.terminals j ≡ Some t) where
    abbrev Later : SideView User
    Later = does (user_behaviour c.user) event t

    abbrev Then : Bus
    Then = terminal_does c j event (Some t) b

    terminal_counted : (count : Responses) → Counted count b.terminals
        → Counted count Then.terminals
    terminal_counted responses.Nobody h = each_set (Settles tei) b.terminals j Later h
        (settles_after c tei low event t ok keeps (h j t at))
    terminal_counted responses.One (i, h) = (
      i,
      others_set (Settles tei) i b.terminals j Later h
          (λ apart. settles_after c tei low event t ok keeps (h j t at apart)),
    )
    terminal_counted responses.Several h = tt

    terminal_healed : Healed b → Healed Then
    terminal_healed (inl (i, h)) = inl (
      i,
      others_set (IsNotTaken tei) i b.terminals j Later h
          (λ apart. not_taken_after c tei low event t ok keeps (h j t at apart)),
    )
    terminal_healed (inr (ri, h)) = inr (
      ri,
      each_set (Obeys tei ri) b.terminals j Later h
          (obeys_after c tei low event t ok keeps ri (h j t at)),
    )

    terminal_healing : Healing b → Healing Then
    terminal_healing (inl h) = inl (record {
      nth = h.nth;
      count = h.count;
      check_is = h.check_is;
      counted = terminal_counted h.count h.counted;
    })
    terminal_healing (inr (inl h)) = inr (inl (each_set (Leaves tei) b.terminals j
        Later h (leaves_after c tei low event t ok keeps (h j t at))))
    terminal_healing (inr (inr h)) = inr (inr (terminal_healed h))

  -- ---- A terminal joins.

  module _ (b : Bus) (j : ℕ) (new : NewTerminal) (t : SideView User)
      (at : slice_get b.terminals j ≡ Some t) (free : JoinsWithFree (Join j new) b) where
    abbrev Newcomer : SideView User
    Newcomer = record t { now = new_user c.user new.fixed new.random }

    abbrev WithNew : Bus
    WithNew = terminal_joins c j new (Some t) b

    -- with this TEI as its fixed one, which no other terminal holds or may obtain
    joins_alone : new.fixed ≡ Some tei → Healed WithNew
    joins_alone fixed = inl (
      j,
      others_set (IsNotTaken tei) j b.terminals j Newcomer
          (λ k u there apart.
          any_other (is_taken tei) b.terminals j k u (free tei fixed) there apart)
          (λ apart. absurd (apart refl)),
    )

    module _ (other : has_tei tei new.fixed ≡ false) where
      joined_counted : (count : Responses) → Counted count b.terminals
          → Counted count WithNew.terminals
      joined_counted responses.Nobody h = each_set (Settles tei) b.terminals j Newcomer h
          (settles_joined c tei low new t other (h j t at))
      joined_counted responses.One (i, h) = (
        i,
        others_set (Settles tei) i b.terminals j Newcomer h
            (λ apart. settles_joined c tei low new t other (h j t at apart)),
      )
      joined_counted responses.Several h = tt

      joined_healed : Healed b → Healed WithNew
      joined_healed (inl (i, h)) = inl (
        i,
        others_set (IsNotTaken tei) i b.terminals j Newcomer h
            (λ apart. not_taken_joined c tei low new t other (h j t at apart)),
      )
      joined_healed (inr (ri, h)) = inr (
        ri,
        each_set (Obeys tei ri) b.terminals j Newcomer h
            (obeys_joined c tei low new t other ri (h j t at)),
      )

      joined_healing : Healing b → Healing WithNew
      joined_healing (inl h) = inl (record {
        nth = h.nth;
        count = h.count;
        check_is = h.check_is;
        counted = joined_counted h.count h.counted;
      })
      joined_healing (inr (inl h)) = inr (inl (each_set (Leaves tei) b.terminals j Newcomer h
          (leaves_joined c tei low new t other (h j t at))))
      joined_healing (inr (inr h)) = inr (inr (joined_healed h))

    join_healed : (test : Bool) → has_tei tei new.fixed ≡ test → Healed b → Healed WithNew
    join_healed true is h = joins_alone (has_so tei new.fixed is)
    join_healed false is h = joined_healed is h

    join_healing : (test : Bool) → has_tei tei new.fixed ≡ test → Healing b → Healing WithNew
    join_healing true is h = inr (inr (joins_alone (has_so tei new.fixed is)))
    join_healing false is h = joined_healing is h

  -- ---- An event of the network.

  -- the network assigns no TEI, or sends the messages of a step
  by_step : (event : SideEvent) (v : SideView Network) (a : Reaction Network)
      → StepsByEvent event v a
      → PassesAssigner v.now a ⊎ ((e : AssignerEvent) × StepsAssigner v.now e a)
  by_step (Take now) v a h = first v.incoming h
    where
      by : (o : Option TeiMessage) → StepsByMessage o v.now a
          → PassesAssigner v.now a ⊎ ((e : AssignerEvent) × StepsAssigner v.now e a)
      by None h = inl h
      by (Some m) h = inr (event.Heard m, h)

      first : (line : List (List ℕ)) → StepsByFirst line v.now a
          → PassesAssigner v.now a ⊎ ((e : AssignerEvent) × StepsAssigner v.now e a)
      first [] h = inl h
      first (octets ∷ rest) h = by (message_in side.User octets) h
  by_step (Lose at) v a h = inl h
  by_step (Expire timer None now) v a (inl h) = inl h
  by_step (Expire timer None now) v a (inr h) = inr (event.T201, h)
  by_step (Expire timer (Some id) now) v a h = inl h
  by_step (Ask request now) v a (inl h) = inl h
  by_step (Ask request now) v a (inr h) = inr (h.step, h.steps)
  by_step (Overhear octets now) v a h = absurd h

  abbrev SendsOnce : List TeiMessage → Type 0
  SendsOnce ms = AssignsNone tei ms ⊎ ((ri : ℕ) × (ms ≡ assigned ri tei ∷ []))

  sends_none : (ms : List TeiMessage) → ms ≡ [] → AssignsNone tei ms
  sends_none ms is = ap (list_any (IsAssigned tei)) is

  sends_once : (event : SideEvent) (v : SideView Network) (a : Reaction Network)
      → StepsByEvent event v a → SendsOnce (Carries a.effects.frames)
  sends_once event v a h = elim (by_step event v a h) [
    | inl passes ↦ inl (passes.assigns tei)
    | inr (e, steps) ↦ subst SendsOnce (sym steps.messages)
        (step_assigns_once tei v.now.management e)
  ]

  -- ---- The network during a check.

  -- a response that the event does not take or lose is still in transit
  abbrev KeepsResponse : SideEvent → List (List ℕ) → Type 0
  KeepsResponse event line =
      list_any (IsResponse tei) (filter_map (message_in side.User) line) ≡ true
      → list_any (IsResponse tei) (filter_map (message_in side.User) (left event line)) ≡ true

  record GoesOn (nth : Round) (count : Responses) (event : SideEvent) (line : List (List ℕ))
      (a : Reaction Network) : Type 0 where
    pub check_is : a.after.management.check ≡ Some (checking tei nth count)
    pub assigns : AssignsNone tei (Carries a.effects.frames)
    pub keeps : KeepsResponse event line

  record Counts (nth : Round) (count : Responses) (a : Reaction Network) : Type 0 where
    pub check_is : a.after.management.check ≡ Some (checking tei nth (one_more count))
    pub assigns : AssignsNone tei (Carries a.effects.frames)

  record AsksAgain (a : Reaction Network) : Type 0 where
    pub check_is : a.after.management.check ≡ Some (checking tei round.Second responses.Nobody)
    pub request : Carries a.effects.frames ≡ check_request tei ∷ []

  -- T201 expired, with at most one response
  record Ends (count : Responses) (b : Bus) (a : Reaction Network) : Type 0 where
    pub few : count ≡ responses.Several → ⊥
    pub answered : IsAnswered tei b
    pub messages : Carries a.effects.frames ≡ []

  abbrev Outcome : Round → Responses → SideEvent → List (List ℕ) → Bus → Reaction Network → Type 0
  Outcome nth count event line b a = GoesOn nth count event line a
      ⊎ (Counts nth count a ⊎ (AsksAgain a ⊎ (Ends count b a
      ⊎ ((Carries a.effects.frames ≡ remove tei ∷ remove tei ∷ [])
      ⊎ ((ri : ℕ) × (Carries a.effects.frames ≡ assigned ri tei ∷ []))))))

  module _ (b : Bus) (t : SideView User) (nth : Round) (count : Responses)
      (its : b.network.management.check ≡ Some (checking tei nth count)) where
    passing : (event : SideEvent) (a : Reaction Network) → KeepsResponse event t.outgoing
        → PassesAssigner b.network a → Outcome nth count event t.outgoing b a
    passing event a keeps h = inl (record {
      check_is = ap (λ (m : AssignerState). m.check) h.management ∙ its;
      assigns = h.assigns tei;
      keeps = keeps;
    })

    -- the first message is no response
    abbrev NoResponse : Option TeiMessage → Type 0
    NoResponse None = Unit {0}
    NoResponse (Some m) = IsResponse tei m ≡ false

    behind_first : (o : Option TeiMessage) (ms : List TeiMessage) → NoResponse o
        → list_any (IsResponse tei) (cons_option o ms) ≡ true → list_any (IsResponse tei) ms ≡ true
    behind_first None ms other h = h
    behind_first (Some m) ms other h = elim
        (either_some (IsResponse tei m) (list_any (IsResponse tei) ms) h) [
          | inl it ↦ absurd (not_both (IsResponse tei m) it other)
          | inr rest ↦ rest
        ]

    takes_first : (now : ℕ) (line : List (List ℕ)) (a : Reaction Network)
        → StepsByFirst line b.network a → Outcome nth count (Take now) line b a
    takes_first now [] a h = inl (record {
      check_is = ap (λ (m : AssignerState). m.check) h.management ∙ its;
      assigns = h.assigns tei;
      keeps = λ sent. sent;
    })
    takes_first now (octets ∷ rest) a h = by (message_in side.User octets) refl h
      where
        by : (o : Option TeiMessage) → message_in side.User octets ≡ o
            → StepsByMessage o b.network a
            → Outcome nth count (Take now) (octets ∷ rest) b a
        by None is h = inl (record {
          check_is = ap (λ (m : AssignerState). m.check) h.management ∙ its;
          assigns = h.assigns tei;
          keeps = behind_first (message_in side.User octets)
              (filter_map (message_in side.User) rest) (subst NoResponse (sym is) tt);
        })
        by (Some m) is h = elim
            (heard_row tei nth count b.network.management m.kind m.ri m.ai its) [
              | inl counts ↦ inr (inl (record {
                check_is = ap (λ (m : AssignerState). m.check) h.management ∙ counts.check_is;
                assigns = sends_none (Carries a.effects.frames) (h.messages ∙ counts.messages);
              }))
              | inr (inl on) ↦ inl (record {
                check_is = ap (λ (m : AssignerState). m.check) h.management ∙ on.check_is;
                assigns = ap (list_any (IsAssigned tei)) h.messages ∙ on.assigns;
                keeps = behind_first (message_in side.User octets)
                    (filter_map (message_in side.User) rest) (subst NoResponse (sym is) on.other);
              })
              | inr (inr (ri, given)) ↦ inr (inr (inr (inr (inr (ri, h.messages ∙ given)))))
            ]

    lost_so : (at : ℕ) → LosesNoMessage tei side.User (Lose at) t.outgoing
        → KeepsResponse (Lose at) t.outgoing
    lost_so at loses sent = elim (last_left (IsResponse tei) passes_none side.User tei
        (about_names kind.CheckResponse tei) (Lose at) t.outgoing loses
        (any_last (IsResponse tei) (messages_from t) sent)) [
          | inl still ↦ last_any (IsResponse tei) passes_none _ still
          | inr taken ↦ absurd taken
        ]

    timed : (timer : Timer) (now : ℕ) (a : Reaction Network)
        → StepsAssigner b.network event.T201 a → IsAnswered tei b
        → Outcome nth count (Expire timer None now) t.outgoing b a
    timed timer now a h answered = by count (expired_row tei b.network.management nth count its)
      where
        by : (n : Responses) → ExpiredRow tei n (assigner_step b.network.management event.T201)
            → Outcome nth n (Expire timer None now) t.outgoing b a
        by responses.Nobody (inl again) = inr (inr (inl (record {
          check_is = ap (λ (m : AssignerState). m.check) h.management ∙ again.check_is;
          request = h.messages ∙ again.messages;
        })))
        by responses.Nobody (inr ends) = inr (inr (inr (inl (record {
          few = λ no. cc;
          answered = answered;
          messages = h.messages ∙ ends;
        }))))
        by responses.One ends = inr (inr (inr (inl (record {
          few = λ no. cc;
          answered = answered;
          messages = h.messages ∙ ends;
        }))))
        by responses.Several removes = inr (inr (inr (inr (inl (h.messages ∙ removes)))))

    requested_row : (e : AssignerEvent) → IsRequested e
        → RequestedRow tei nth count (assigner_step b.network.management e)
    requested_row (event.Check other) is = requested_check_row tei nth count b.network.management
        other its
    requested_row (event.Remove other) is = requested_removal_row tei nth count
        b.network.management other its
    requested_row (event.Heard m) is = absurd is
    requested_row event.T201 is = absurd is

    during_check : (event : SideEvent) (a : Reaction Network)
        → LosesNoMessage tei side.User event t.outgoing → WaitsForResponses tei event b
        → StepsByEvent event (on_line_of t b) a → Outcome nth count event t.outgoing b a
    during_check (Take now) a loses waits h = takes_first now t.outgoing a h
    during_check (Lose at) a loses waits h = passing (Lose at) a (lost_so at loses) h
    during_check (Expire timer None now) a loses waits (inl h) =
        passing (Expire timer None now) a (λ sent. sent) h
    during_check (Expire timer None now) a loses waits (inr h) =
        timed timer now a h (waits (ap checked its))
    during_check (Expire timer (Some id) now) a loses waits h =
        passing (Expire timer (Some id) now) a (λ sent. sent) h
    during_check (Ask request now) a loses waits (inl h) =
        passing (Ask request now) a (λ sent. sent) h
    during_check (Ask request now) a loses waits (inr h) = elim (requested_row h.step h.requested) [
      | inl on ↦ inl (record {
        check_is = ap (λ (m : AssignerState). m.check) h.steps.management ∙ on.check_is;
        assigns = ap (list_any (IsAssigned tei)) h.steps.messages ∙ on.assigns;
        keeps = λ sent. sent;
      })
      | inr removes ↦ inr (inr (inr (inr (inl (h.steps.messages ∙ removes)))))
    ]
    during_check (Overhear octets now) a loses waits h = absurd h

  begun : (b : Bus) → b.network.management.check ≡ None
      → checked b.network.management.check ≡ Some tei → ⊥
  begun b idle is = (let none_so : None ≡ Some tei = ap checked (sym idle) ∙ is in cc)

  -- ---- An event of the network, on the bus.

  module _ (b : Bus) (j : ℕ) (event : SideEvent) (t : SideView User)
      (at : slice_get b.terminals j ≡ Some t) where
    abbrev Acted : Reaction Network
    Acted = reaction (network_behaviour c.network) event (on_line_of t b)

    abbrev Frames : List (List ℕ)
    Frames = Acted.effects.frames

    abbrev Left : List (SideView User)
    Left = set b.terminals j (left_of event t)

    abbrev Next : Bus
    Next = network_does c j event (Some t) b

    -- every terminal, whatever it was before
    reached_all : (P : SideView User → Type 0) → ((u : SideView User) → P (reached_by Frames u))
        → Each P Next.terminals
    reached_all P so = each_map (λ u. Unit {0}) P (reached_by Frames) Left (λ u h. so u)
        (λ k u there. tt)

    others_not_taken : (i : ℕ) → AssignsNone tei (Carries Frames)
        → Others (IsNotTaken tei) i b.terminals → Others (IsNotTaken tei) i Next.terminals
    others_not_taken i none h =
        others_map (IsNotTaken tei) (IsNotTaken tei) (reached_by Frames) i Left
        (λ u. not_taken_reached tei Frames u none)
        (others_set (IsNotTaken tei) i b.terminals j (left_of event t) h (λ apart. h j t at apart))

    network_healed : StepsByEvent event (on_line_of t b) Acted → Healed b → Healed Next
    network_healed steps h = by (sends_once event (on_line_of t b) Acted steps) h
      where
        by : SendsOnce (Carries Frames) → Healed b → Healed Next
        by (inr (ri, given)) h = inr (
          ri,
          reached_all (Obeys tei ri) (λ u. obeys_by_assignment tei Frames u ri given),
        )
        by (inl none) (inl (i, h)) = inl (i, others_not_taken i none h)
        by (inl none) (inr (ri, h)) = inr (
          ri,
          each_map (Obeys tei ri) (Obeys tei ri) (reached_by Frames) Left
              (λ u. obeys_reached tei Frames u none ri)
              (each_set (Obeys tei ri) b.terminals j (left_of event t) h (h j t at)),
        )

    network_leaves : StepsByEvent event (on_line_of t b) Acted → Each (Leaves tei) b.terminals
        → Each (Leaves tei) Next.terminals ⊎ Healed Next
    network_leaves steps h = elim (sends_once event (on_line_of t b) Acted steps) [
      | inl none ↦ inl (each_map (Leaves tei) (Leaves tei) (reached_by Frames) Left
          (λ u. leaves_reached tei Frames u none)
          (each_set (Leaves tei) b.terminals j (left_of event t) h (h j t at)))
      | inr (ri, given) ↦ inr (inr (
        ri,
        reached_all (Obeys tei ri) (λ u. obeys_by_assignment tei Frames u ri given),
      ))
    ]

    -- the terminal whose octets the network took or lost
    settles_left : KeepsResponse event t.outgoing → Settles tei t → Settles tei (left_of event t)
    settles_left keeps (inl line) = inl line
    settles_left keeps (inr (inl (unsent, sent))) = inr (inl (unsent, keeps sent))
    settles_left keeps (inr (inr none)) = inr (inr none)

    counted_on : (count : Responses) → AssignsNone tei (Carries Frames)
        → KeepsResponse event t.outgoing → Counted count b.terminals
        → Counted count Next.terminals
    counted_on responses.Nobody none keeps h =
        each_map (Settles tei) (Settles tei) (reached_by Frames) Left
        (λ u. settles_reached tei Frames u none)
        (each_set (Settles tei) b.terminals j (left_of event t) h (settles_left keeps (h j t at)))
    counted_on responses.One none keeps (i, h) = (
      i,
      others_map (Settles tei) (Settles tei) (reached_by Frames) i Left
          (λ u. settles_reached tei Frames u none)
          (others_set (Settles tei) i b.terminals j (left_of event t) h
          (λ apart. settles_left keeps (h j t at apart))),
    )
    counted_on responses.Several none keeps h = tt

    -- one more response, of this terminal
    counted_more : (count : Responses) → AssignsNone tei (Carries Frames)
        → Counted count b.terminals → Counted (one_more count) Next.terminals
    counted_more responses.Nobody none h = (
      j,
      others_map (Settles tei) (Settles tei) (reached_by Frames) j Left
          (λ u. settles_reached tei Frames u none)
          (others_set (Settles tei) j b.terminals j (left_of event t)
          (λ k u there apart. h k u there) (λ apart. absurd (apart refl))),
    )
    counted_more responses.One none h = tt
    counted_more responses.Several none h = tt

    -- with the request and all responses delivered
    settled : IsAnswered tei b → (k : ℕ) (u : SideView User) → slice_get b.terminals k ≡ Some u
        → Settles tei u → IsNotTaken tei u
    settled answered k u there (inl line) = absurd (not_both (has_incoming kind.CheckRequest tei u)
        (last_any (IsRequest tei) (IsAssigned tei) (messages_to u) line)
        (any_at (has_incoming kind.CheckRequest tei) b.terminals k u answered.requests there))
    settled answered k u there (inr (inl (unsent, sent))) =
        absurd (not_both (has_outgoing kind.CheckResponse tei u) sent
        (any_at (has_outgoing kind.CheckResponse tei) b.terminals k u answered.responses there))
    settled answered k u there (inr (inr none)) = none

    ends_alone : (count : Responses) → Ends count b Acted → Counted count b.terminals → Healed Next
    ends_alone responses.Nobody ends h = inl (
      0,
      others_not_taken 0 (sends_none (Carries Frames) ends.messages)
          (λ k u there apart. settled ends.answered k u there (h k u there)),
    )
    ends_alone responses.One ends (i, h) = inl (
      i,
      others_not_taken i (sends_none (Carries Frames) ends.messages)
          (λ k u there apart. settled ends.answered k u there (h k u there apart)),
    )
    ends_alone responses.Several ends h = absurd (ends.few refl)

    network_checks : LosesNoMessage tei side.User event t.outgoing → WaitsForResponses tei event b
        → StepsByEvent event (on_line_of t b) Acted → IsChecking b → Healing Next
    network_checks loses waits steps h =
        by (during_check b t h.nth h.count h.check_is event Acted loses waits steps)
      where
        by : Outcome h.nth h.count event t.outgoing b Acted → Healing Next
        by (inl on) = inl (record {
          nth = h.nth;
          count = h.count;
          check_is = on.check_is;
          counted = counted_on h.count on.assigns on.keeps h.counted;
        })
        by (inr (inl counts)) = inl (record {
          nth = h.nth;
          count = one_more h.count;
          check_is = counts.check_is;
          counted = counted_more h.count counts.assigns h.counted;
        })
        by (inr (inr (inl again))) = inl (record {
          nth = round.Second;
          count = responses.Nobody;
          check_is = again.check_is;
          counted = reached_all (Settles tei) (λ u. settles_by_request tei Frames u again.request);
        })
        by (inr (inr (inr (inl ends)))) = inr (inr (ends_alone h.count ends h.counted))
        by (inr (inr (inr (inr (inl removes))))) =
            inr (inl (reached_all (Leaves tei) (λ u. leaves_by_removals tei Frames u removes)))
        by (inr (inr (inr (inr (inr (ri, given)))))) = inr (inr (inr (
          ri,
          reached_all (Obeys tei ri) (λ u. obeys_by_assignment tei Frames u ri given),
        )))

    network_healing : LosesNoMessage tei side.User event t.outgoing → WaitsForResponses tei event b
        → StepsByEvent event (on_line_of t b) Acted → Healing b → Healing Next
    network_healing loses waits steps (inl h) = network_checks loses waits steps h
    network_healing loses waits steps (inr (inl h)) = inr (network_leaves steps h)
    network_healing loses waits steps (inr (inr h)) = inr (inr (network_healed steps h))

    -- the event begins the check
    network_begins : StepsByEvent event (on_line_of t b) Acted → b.network.management.check ≡ None
        → checked Acted.after.management.check ≡ Some tei → Healing Next
    network_begins steps none is = elim (by_step event (on_line_of t b) Acted steps) [
      | inl passes ↦ absurd (begun b none
          (ap (λ (m : AssignerState). checked m.check) (sym passes.management) ∙ is))
      | inr (e, step) ↦
          (let row = begins_row tei b.network.management e none
          (ap (λ (m : AssignerState). checked m.check) (sym step.management) ∙ is) in
          inl (record {
            nth = round.First;
            count = responses.Nobody;
            check_is = ap (λ (m : AssignerState). m.check) step.management ∙ row.0;
            counted = reached_all (Settles tei) (λ u.
                settles_by_request tei Frames u (step.messages ∙ row.1));
          }))
    ]

  -- ---- Every event.

  event_healed : (e : BusEvent) (b : Bus) → Heals tei e b → HasNoManagementLink b.network
      → Healed b → Healed (bus_step c e b)
  event_healed (OfTerminal j event) b is none h = by (slice_get b.terminals j) refl
    where
      by : (o : Option (SideView User)) → slice_get b.terminals j ≡ o
          → Healed (terminal_does c j event o b)
      by None at = h
      by (Some t) at = terminal_healed b j event t is.of_bus (is.delivers t at) at h
  event_healed (OfNetwork j event) b is none h = by (slice_get b.terminals j) refl
    where
      by : (o : Option (SideView User)) → slice_get b.terminals j ≡ o
          → Healed (network_does c j event o b)
      by None at = h
      by (Some t) at = network_healed b j event t at
          (event_steps c.network event (on_line_of t b) none is.of_bus) h
  event_healed (Join j new) b is none h = by (slice_get b.terminals j) refl
    where
      by : (o : Option (SideView User)) → slice_get b.terminals j ≡ o
          → Healed (terminal_joins c j new o b)
      by None at = h
      by (Some t) at = join_healed b j new t at is.joins (has_tei tei new.fixed) refl h
  event_healed (Restart known) b is none h = h

  event_healing : (e : BusEvent) (b : Bus) → Heals tei e b → HasNoManagementLink b.network
      → Healing b → Healing (bus_step c e b)
  event_healing (OfTerminal j event) b is none h = by (slice_get b.terminals j) refl
    where
      by : (o : Option (SideView User)) → slice_get b.terminals j ≡ o
          → Healing (terminal_does c j event o b)
      by None at = h
      by (Some t) at = terminal_healing b j event t is.of_bus (is.delivers t at) at h
  event_healing (OfNetwork j event) b is none h = by (slice_get b.terminals j) refl
    where
      by : (o : Option (SideView User)) → slice_get b.terminals j ≡ o
          → Healing (network_does c j event o b)
      by None at = h
      by (Some t) at = network_healing b j event t at (is.delivers t at) is.check
          (event_steps c.network event (on_line_of t b) none is.of_bus) h
  event_healing (Join j new) b is none h = by (slice_get b.terminals j) refl
    where
      by : (o : Option (SideView User)) → slice_get b.terminals j ≡ o
          → Healing (terminal_joins c j new o b)
      by None at = h
      by (Some t) at = join_healing b j new t at is.joins (has_tei tei new.fixed) refl h
  event_healing (Restart known) b is none (inl h) = absurd (is.check (ap checked h.check_is))
  event_healing (Restart known) b is none (inr h) = inr h

  event_begins : (e : BusEvent) (b : Bus) → IsOfBus e → HasNoManagementLink b.network
      → BeginsCheck c tei e b → Healing (bus_step c e b)
  event_begins (OfTerminal j event) b ok none (idle, is) = by (slice_get b.terminals j) is
    where
      by : (o : Option (SideView User))
          → checked (terminal_does c j event o b).network.management.check ≡ Some tei
          → Healing (terminal_does c j event o b)
      by None is = absurd (begun b idle is)
      by (Some t) is = absurd (begun b idle is)
  event_begins (OfNetwork j event) b ok none (idle, is) = by (slice_get b.terminals j) refl is
    where
      by : (o : Option (SideView User)) → slice_get b.terminals j ≡ o
          → checked (network_does c j event o b).network.management.check ≡ Some tei
          → Healing (network_does c j event o b)
      by None at is = absurd (begun b idle is)
      by (Some t) at is = network_begins b j event t at
          (event_steps c.network event (on_line_of t b) none ok) idle is
  event_begins (Join j new) b ok none (idle, is) = by (slice_get b.terminals j) is
    where
      by : (o : Option (SideView User))
          → checked (terminal_joins c j new o b).network.management.check ≡ Some tei
          → Healing (terminal_joins c j new o b)
      by None is = absurd (begun b idle is)
      by (Some t) is = absurd (begun b idle is)
  event_begins (Restart known) b ok none (idle, is) = cc

  -- ---- A run.

  all_healing : (events : List BusEvent) (b : Bus) → Throughout c (Heals tei) events b
      → HasNoManagementLink b.network → Healing b → Healing (after_events c events b)
  all_healing [] b is none h = h
  all_healing (e ∷ es) b is none h = all_healing es (bus_step c e b) is.1
      (event_management c e b is.0.of_bus none) (event_healing e b is.0 none h)

  all_healed : (events : List BusEvent) (b : Bus) → Throughout c (Heals tei) events b
      → HasNoManagementLink b.network → Healed b → Healed (after_events c events b)
  all_healed [] b is none h = h
  all_healed (e ∷ es) b is none h = all_healed es (bus_step c e b) is.1
      (event_management c e b is.0.of_bus none) (event_healed e b is.0 none h)

  all_management : (events : List BusEvent) (b : Bus) → Throughout c (Heals tei) events b
      → HasNoManagementLink b.network → HasNoManagementLink (after_events c events b).network
  all_management [] b is none = none
  all_management (e ∷ es) b is none = all_management es (bus_step c e b) is.1
      (event_management c e b is.0.of_bus none)

  -- after the check, with all removals taken
  over : (b : Bus) → IsCheckOver tei b → Healing b → Healed b
  over b is (inl h) = absurd (is.ended (ap checked h.check_is))
  over b is (inr (inl h)) = inl (0, (λ k u there apart. by k u there (h k u there)))
    where
      by : (k : ℕ) (u : SideView User) → slice_get b.terminals k ≡ Some u → Leaves tei u
          → IsNotTaken tei u
      by k u there (inl line) = absurd (not_both (has_incoming kind.Remove tei u)
          (last_any (IsRemoval tei) (IsAssigned tei) (messages_to u) line)
          (any_at (has_incoming kind.Remove tei) b.terminals k u is.removals there))
      by k u there (inr none) = none
  over b is (inr (inr h)) = h

  -- at rest, whoever holds the TEI is the one terminal, or has the reference of the last assignment
  at_rest : (b : Bus) → IsAtRest tei b → ReferencesDiffer b → Healed b → IsHeldOnce tei b
  at_rest b rest differ (inl (i, h)) = λ j k t u hj hk ht hu.
      (let one = its j t hj ht in let two = its k u hk hu in one ∙ sym two)
    where
      its : (j : ℕ) (t : SideView User) → slice_get b.terminals j ≡ Some t → holds tei t ≡ true
          → j ≡ i
      its j t there held = by (j == i) refl
        where
          by : (test : Bool) → (j == i) ≡ test → j ≡ i
          by true is = equal_index j i is
          by false is = absurd (not_both (is_taken tei t)
              (some_first (holds tei t) (is_sent tei t) held)
              (h j t there (apart_index j i is)))
  at_rest b rest differ (inr (ri, h)) = λ j k t u hj hk ht hu.
      differ ri j k t u hj hk (its j t hj (h j t hj) ht) (its k u hk (h k u hk) hu)
    where
      its : (j : ℕ) (t : SideView User) → slice_get b.terminals j ≡ Some t → Obeys tei ri t
          → holds tei t ≡ true → reference_of t.now.management.terminal ≡ Some ri
      its j t there (inl line) held = absurd (not_both (is_sent tei t)
          (assigned_on tei t.incoming
          ∙ any_weaker (IsAnswer tei ri) (IsAssigned tei) (messages_to t)
          (λ m passes. (both_true (IsAssigned tei m) (m.ri == ri) passes).0)
          (last_any (IsAnswer tei ri) (IsAssigned tei) (messages_to t) line))
          (any_at (is_sent tei) b.terminals j t rest there))
      its j t there (inr (unsent, by)) held = by held

-- ---- The law.

after_both : (c : Configs) (xs ys : List BusEvent) (b : Bus)
    → after_events c (xs ++ ys) b ≡ after_events c ys (after_events c xs b)
after_both c [] ys b = refl
after_both c (x ∷ xs) ys b = after_both c xs ys (bus_step c x b)

throughout_both : (c : Configs) (P : BusEvent → Bus → Type 0) (xs ys : List BusEvent) (b : Bus)
    → Throughout c P (xs ++ ys) b
    → Throughout c P xs b × Throughout c P ys (after_events c xs b)
throughout_both c P [] ys b is = (tt, is)
throughout_both c P (x ∷ xs) ys b is =
    let two = throughout_both c P xs ys (bus_step c x b) is.1 in ((is.0, two.0), two.1)

pub check_heals : (c : Configs) (tei : ℕ) (b : Bus) (events : List BusEvent) → tei < 127
    → HasNoManagementLink b.network → Throughout c (Heals tei) events b
    → IsChecked c tei events b → IsAtRest tei (after_events c events b)
    → ReferencesDiffer (after_events c events b) → IsHeldOnce tei (after_events c events b)
check_heals c tei b events low none is h rest differ =
    let middle = after_events c h.before b in
    let started = bus_step c h.start middle in
    let done = after_events c h.during started in
    let parts = subst (λ (es : List BusEvent). Throughout c (Heals tei) es b) h.parts is in
    let one = throughout_both c (Heals tei) h.before (h.start ∷ (h.during ++ h.later)) b
    parts in
    let two = throughout_both c (Heals tei) h.during h.later started one.1.1 in
    let idle = all_management c tei low h.before b one.0 none in
    let began = event_management c h.start middle one.1.0.of_bus idle in
    let carried = all_management c tei low h.during started two.0 began in
    let healing = all_healing c tei low h.during started two.0 began
    (event_begins c tei low h.start middle one.1.0.of_bus idle h.begins) in
    let ended : IsCheckOver tei done = subst (IsCheckOver tei)
    (after_both c h.before (h.start ∷ h.during) b) h.over in
    let healed = all_healed c tei low h.later done two.1 carried (over c tei low done ended healing)
    in
    let same : after_events c events b ≡ after_events c h.later done =
    ap (λ (es : List BusEvent). after_events c es b) h.parts
    ∙ after_both c h.before (h.start ∷ (h.during ++ h.later)) b
    ∙ after_both c h.during h.later started in
    at_rest c tei low (after_events c events b) rest differ
    (subst (Healed c tei low) (sym same) healed)

-- if each TEI is checked, no two terminals hold the same one
pub checks_heal_all : (c : Configs) (b : Bus) (events : List BusEvent)
    → HasNoManagementLink b.network
    → ((tei : ℕ) → tei < 127 → Throughout c (Heals tei) events b × IsChecked c tei events b
    × IsAtRest tei (after_events c events b))
    → ReferencesDiffer (after_events c events b) → HoldTeis (after_events c events b)
    → IsSingle (after_events c events b)
checks_heal_all c b events none all differ teis = λ tei i j t u hi hj ht hu.
    (let low = teis tei i t hi ht in
    let its = all tei low in
    check_heals c tei b events low none its.0 its.1 its.2 differ i j t u hi hj ht hu)

-- no bus that events lead to from a new one has such a link
pub reached_without : (c : Configs) (known : List ℕ) (terminals : List NewTerminal)
    (events : List BusEvent)
    → Throughout c (λ (e : BusEvent) (b : Bus). IsOfBus e) events (new_bus c known terminals)
    → HasNoManagementLink (after_events c events (new_bus c known terminals)).network
reached_without c known terminals events is =
    along events (new_bus c known terminals) is (no_management c known)
  where
    along : (es : List BusEvent) (b : Bus)
        → Throughout c (λ (e : BusEvent) (b : Bus). IsOfBus e) es b
        → HasNoManagementLink b.network → HasNoManagementLink (after_events c es b).network
    along [] b is none = none
    along (e ∷ es) b is none = along es (bus_step c e b) is.1
        (event_management c e b is.0 none)
