-- One terminal during a check of a TEI and after it. It takes the request, Identity remove or an
-- assignment behind all older assignments of the TEI, so that what it holds then is known.
use Rattle.std.proofs.Common.{◌≡◌, ◌⊎◌, inl, inr, ℕ, ◌==◌, ◌&&◌, ◌<◌, List, [], ◌∷◌, Bool, true, false, Option, Some, None, refl, sym, ap, subst, ◌∙◌, arith}
use Rattle.std.specs.List.{list_any, filter_map}
use Rattle.std.proofs.lemmas.Bool.Decides.{nat_tests}
use Rattle.std.proofs.lemmas.List.Elements.{filter_map-append}
use Rattle.std.proofs.lemmas.List.Folds.{list_any-append}
use Rattle.lapd_frame.specs.declared.Side.TheVariants as side
use Rattle.lapd_tei.specs.declared.kind.TeiKind.TheVariants as kind
use Rattle.lapd_tei.specs.declared.message.TeiMessage.{TeiMessage}
use Rattle.lapd_tei.specs.declared.phase.Phase.{Phase}
use Rattle.lapd_tei.specs.declared.terminal.TerminalEvent.TheVariants as terminal
use Rattle.lapd_tei.specs.Out.{assigned, check_request, remove}
use Rattle.lapd_tei.specs.Terminal.{tei_of, reference_of, new_terminal, terminal_step}
use Rattle.lapd_sides_links.specs.Links.{Reaction}
use Rattle.lapd_sides.specs.User.{User, new_user, has_tei}
use Rattle.lapd_side_events.specs.Interface.{Configs, user_behaviour}
use Rattle.lapd_side_events.specs.SideView.{SideView, SideEvent, Take, Lose, Expire, Ask, Overhear, reaction, left, does}
use Rattle.lapd_two_side_laws.proofs.Managed.{neither}
use Rattle.lapd_bus_laws.specs.Assignments.{assignment_in, holds, is_of_tei, is_sent, is_taken}
use Rattle.lapd_side_events.specs.Bus.{NewTerminal, OverhearsNothing, reached_by}
use Rattle.lapd_bus_laws.specs.Healing.{message_in, messages_to, messages_from, is_about, has_outgoing, LosesNoMessage}
use Rattle.lapd_bus_laws.proofs.Carried.{HasLast, last_before, last_behind, TakesLast, last_left, about_names, assigned_on, reached_sent, reached_taken}
use Rattle.lapd_bus_laws.proofs.CheckRows.{AssignsNone}
use Rattle.lapd_bus_laws.proofs.Claims.{any_left, same_tei}
use Rattle.lapd_bus_laws.proofs.Freeing.{taken_before}
use Rattle.lapd_bus_laws.proofs.Heard.{Received, first_taken, sent_on, takes_assignment, takes_removal, takes_request}
use Rattle.lapd_bus_laws.proofs.Lists.{some_first, not_both, false_by}
use Rattle.lapd_bus_laws.proofs.Obtains.{FirstAnswers, TakesAnswer, event_obtains}
use Rattle.lapd_bus_laws.proofs.PremisesOfInterface.{has_so}
use Rattle.lapd_link_definition.proofs.Sending.{both_true}

-- ---- The messages about a TEI.

-- those that frames of the network carry
abbrev pub Carries : List (List ℕ) → List TeiMessage
Carries frames = filter_map (message_in side.Network) frames

module _ (tei : ℕ) where
  abbrev pub IsRequest : TeiMessage → Bool
  IsRequest m = is_about kind.CheckRequest tei m

  abbrev pub IsResponse : TeiMessage → Bool
  IsResponse m = is_about kind.CheckResponse tei m

  abbrev pub IsRemoval : TeiMessage → Bool
  IsRemoval m = is_about kind.Remove tei m

  abbrev pub IsAssigned : TeiMessage → Bool
  IsAssigned m = is_about kind.Assigned tei m

  abbrev pub IsAnswer : ℕ → TeiMessage → Bool
  IsAnswer ri m = IsAssigned m && (m.ri == ri)

  -- ---- A terminal.

  abbrev pub IsNotTaken : SideView User → Type 0
  IsNotTaken t = is_taken tei t ≡ false

  -- The terminal has yet to take the check request, with no assignment behind it; or its response
  -- is in transit, and no assignment to it; or it does not hold the TEI, nor will.
  abbrev pub Settles : SideView User → Type 0
  Settles t = HasLast IsRequest IsAssigned (messages_to t)
      ⊎ (((is_sent tei t ≡ false) × (has_outgoing kind.CheckResponse tei t ≡ true)) ⊎ IsNotTaken t)

  -- The terminal has yet to take an Identity remove, with no assignment behind it.
  abbrev pub Leaves : SideView User → Type 0
  Leaves t = HasLast IsRemoval IsAssigned (messages_to t) ⊎ IsNotTaken t

  -- The last assignment of the TEI on the line has this reference; or none is on the line, and the
  -- terminal holds the TEI only by this reference.
  abbrev pub Obeys : ℕ → SideView User → Type 0
  Obeys ri t = HasLast (IsAnswer ri) IsAssigned (messages_to t)
      ⊎ ((is_sent tei t ≡ false)
      × (holds tei t ≡ true → reference_of t.now.management.terminal ≡ Some ri))

  answer_names : (ri : ℕ) (m : TeiMessage) → IsAnswer ri m ≡ true → (m.ai == tei) ≡ true
  answer_names ri m h = about_names kind.Assigned tei m (both_true (IsAssigned m) (m.ri == ri) h).0

equal_of : (x y : ℕ) → (x == y) ≡ true → x ≡ y
equal_of x y h = grind (arith, nat_tests, h)

module _ (c : Configs) (tei : ℕ) (low : tei < 127) where
  -- ---- An event of a terminal.

  received_last : (p : TeiMessage → Bool) (event : SideEvent) (t : SideView User)
      → TakesLast p (IsAssigned tei) side.Network event t.incoming
      → Received p t.now (reaction (user_behaviour c.user) event t)
  received_last p (Take now) t h = first_taken c.user now t.now p (IsAssigned tei) t.incoming h
  received_last p (Lose at) t h = absurd h
  received_last p (Expire timer of now) t h = absurd h
  received_last p (Ask request now) t h = absurd h
  received_last p (Overhear octets now) t h = absurd h

  behind_last : (p : TeiMessage → Bool) (event : SideEvent) (line : List (List ℕ))
      → TakesLast p (IsAssigned tei) side.Network event line
      → list_any (is_of_tei tei) (filter_map assignment_in (left event line)) ≡ false
  behind_last p (Take now) [] h = absurd h
  behind_last p (Take now) (octets ∷ rest) (m, is, passes, behind) = assigned_on tei rest ∙ behind
  behind_last p (Lose at) line h = absurd h
  behind_last p (Expire timer of now) line h = absurd h
  behind_last p (Ask request now) line h = absurd h
  behind_last p (Overhear octets now) line h = absurd h

  answer_on : (s : User) (line : List (List ℕ)) → FirstAnswers s line tei
      → list_any (is_of_tei tei) (filter_map assignment_in line) ≡ true
  answer_on s [] h = absurd h
  answer_on s (octets ∷ rest) h = rw h.assignment (some_first (tei == tei) _ (same_tei tei))

  answer_sent : (event : SideEvent) (t : SideView User) → TakesAnswer event t tei
      → is_sent tei t ≡ true
  answer_sent (Take now) t h = answer_on t.now t.incoming h
  answer_sent (Lose at) t h = absurd h
  answer_sent (Expire timer of now) t h = absurd h
  answer_sent (Ask request now) t h = absurd h
  answer_sent (Overhear octets now) t h = absurd h

  module _ (event : SideEvent) (t : SideView User) (ok : OverhearsNothing event)
      (keeps : LosesNoMessage tei side.Network event t.incoming) where
    abbrev After : SideView User
    After = does (user_behaviour c.user) event t

    abbrev Did : Reaction User
    Did = reaction (user_behaviour c.user) event t

    unsent_after : is_sent tei t ≡ false → is_sent tei After ≡ false
    unfolding does
    unsent_after none = false_by (is_sent tei After) (λ some.
        not_both (is_sent tei t) (any_left (is_of_tei tei) event t.incoming some) none)

    pub not_taken_after : IsNotTaken tei t → IsNotTaken tei After
    not_taken_after none = false_by (is_taken tei After) (λ some.
        not_both (is_taken tei t) (taken_before c event t ok tei some) none)

    -- the TEI that the terminal holds afterwards, after it took this message
    held_by : (p : TeiMessage → Bool) (r : Received p t.now Did) → holds tei After ≡ true
        → tei_of (terminal_step t.now.management.terminal
        (terminal.Heard r.message r.reference)).now ≡ Some tei
    unfolding does
    held_by p r h = ap tei_of (sym r.phase) ∙ has_so tei (tei_of Did.after.management.terminal) h

    unsent_behind : (p : TeiMessage → Bool)
        → TakesLast p (IsAssigned tei) side.Network event t.incoming → is_sent tei After ≡ false
    unfolding does
    unsent_behind p taken = behind_last p event t.incoming taken

    not_taken_by : is_sent tei After ≡ false → holds tei After ≡ false → IsNotTaken tei After
    not_taken_by unsent unheld = rw (unheld, unsent) refl

    response_after : has_outgoing kind.CheckResponse tei t ≡ true
        → has_outgoing kind.CheckResponse tei After ≡ true
    unfolding does
    response_after sent = rw (
      filter_map-append (message_in side.User) t.outgoing Did.effects.frames,
      list_any-append (IsResponse tei) (messages_from t)
          (filter_map (message_in side.User) Did.effects.frames),
      sent,
    ) refl

    response_sent : (r : Received (IsRequest tei) t.now Did) → holds tei After ≡ true
        → has_outgoing kind.CheckResponse tei After ≡ true
    unfolding does
    response_sent r h = sent_on t.now Did (IsRequest tei) (IsResponse tei) r t.outgoing
        (takes_request tei low t.now.management.terminal r.message r.reference r.passes
        (held_by (IsRequest tei) r h))

    line_after : (p : TeiMessage → Bool) → ((m : TeiMessage) → p m ≡ true → (m.ai == tei) ≡ true)
        → HasLast p (IsAssigned tei) (messages_to t)
        → HasLast p (IsAssigned tei) (messages_to After)
        ⊎ TakesLast p (IsAssigned tei) side.Network event t.incoming
    unfolding does
    line_after p named h =
        last_left p (IsAssigned tei) side.Network tei named event t.incoming keeps h

    pub settles_after : Settles tei t → Settles tei After
    settles_after (inl line) = elim
        (line_after (IsRequest tei) (about_names kind.CheckRequest tei) line) [
          | inl still ↦ inl still
          | inr taken ↦ inr (by taken (holds tei After) refl)
        ]
      where
        by : TakesLast (IsRequest tei) (IsAssigned tei) side.Network event t.incoming
            → (test : Bool) → holds tei After ≡ test
            → ((is_sent tei After ≡ false) × (has_outgoing kind.CheckResponse tei After ≡ true))
            ⊎ IsNotTaken tei After
        by taken true h = inl (
          unsent_behind (IsRequest tei) taken,
          response_sent (received_last (IsRequest tei) event t taken) h,
        )
        by taken false h = inr (not_taken_by (unsent_behind (IsRequest tei) taken) h)
    settles_after (inr (inl (unsent, sent))) =
        inr (inl (unsent_after unsent, response_after sent))
    settles_after (inr (inr none)) = inr (inr (not_taken_after none))

    pub leaves_after : Leaves tei t → Leaves tei After
    leaves_after (inl line) = elim (line_after (IsRemoval tei) (about_names kind.Remove tei) line) [
      | inl still ↦ inl still
      | inr taken ↦ inr (not_taken_by (unsent_behind (IsRemoval tei) taken)
          (false_by (holds tei After) (λ h.
          (let r = received_last (IsRemoval tei) event t taken in
          takes_removal tei t.now.management.terminal r.message r.reference r.passes
          (held_by (IsRemoval tei) r h)))))
    ]
    leaves_after (inr none) = inr (not_taken_after none)

    held_before : (ri : ℕ) → is_sent tei t ≡ false
        → (holds tei t ≡ true → reference_of t.now.management.terminal ≡ Some ri)
        → holds tei After ≡ true → reference_of Did.after.management.terminal ≡ Some ri
    unfolding does
    held_before ri unsent by h =
        let o = event_obtains c.user event t ok in
        elim (o.same tei (has_so tei (tei_of Did.after.management.terminal) h)) [
          | inl same ↦ ap reference_of same ∙ by (ap (λ (phase : Phase).
              has_tei tei (tei_of phase)) (sym same) ∙ h)
          | inr got ↦ absurd (not_both (is_sent tei t) (answer_sent event t (o.got tei got)) unsent)
        ]

    pub obeys_after : (ri : ℕ) → Obeys tei ri t → Obeys tei ri After
    unfolding does
    obeys_after ri (inl line) = elim (line_after (IsAnswer tei ri) (answer_names tei ri) line) [
      | inl still ↦ inl still
      | inr taken ↦ inr (
        unsent_behind (IsAnswer tei ri) taken,
        (λ h.
            (let r = received_last (IsAnswer tei ri) event t taken in
            let two = both_true (IsAssigned tei r.message) (r.message.ri == ri) r.passes in
            ap reference_of r.phase
            ∙ takes_assignment tei t.now.management.terminal r.message r.reference ri two.0
            (equal_of r.message.ri ri two.1) (held_by (IsAnswer tei ri) r h))),
      )
    ]
    obeys_after ri (inr (unsent, by)) = inr (unsent_after unsent, held_before ri unsent by)

  -- ---- A terminal that joins without this TEI.

  abbrev Joined : NewTerminal → SideView User → SideView User
  Joined new t = record t { now = new_user c.user new.fixed new.random }

  module _ (new : NewTerminal) (t : SideView User) (other : has_tei tei new.fixed ≡ false) where
    joined_unheld : holds tei (Joined new t) ≡ false
    joined_unheld = by new.fixed other
      where
        by : (fixed : Option ℕ) → has_tei tei fixed ≡ false
            → has_tei tei (tei_of (new_terminal fixed)) ≡ false
        by None h = h
        by (Some own) h = h

    pub not_taken_joined : IsNotTaken tei t → IsNotTaken tei (Joined new t)
    not_taken_joined none = rw joined_unheld (neither (holds tei t) (is_sent tei t) none).1

    pub settles_joined : Settles tei t → Settles tei (Joined new t)
    settles_joined (inl line) = inl line
    settles_joined (inr (inl sent)) = inr (inl sent)
    settles_joined (inr (inr none)) = inr (inr (not_taken_joined none))

    pub leaves_joined : Leaves tei t → Leaves tei (Joined new t)
    leaves_joined (inl line) = inl line
    leaves_joined (inr none) = inr (not_taken_joined none)

    pub obeys_joined : (ri : ℕ) → Obeys tei ri t → Obeys tei ri (Joined new t)
    obeys_joined ri (inl line) = inl line
    obeys_joined ri (inr (unsent, by)) = inr (
      unsent,
      (λ h. absurd (not_both (holds tei (Joined new t)) h joined_unheld)),
    )

module _ (tei : ℕ) where
  -- ---- Frames of the network reach a terminal.

  module _ (frames : List (List ℕ)) (u : SideView User) where
    abbrev Reached : SideView User
    Reached = reached_by frames u

    line_reached : (p : TeiMessage → Bool) → AssignsNone tei (Carries frames)
        → HasLast p (IsAssigned tei) (messages_to u)
        → HasLast p (IsAssigned tei) (messages_to Reached)
    line_reached p none h = rw (filter_map-append (message_in side.Network) u.incoming frames)
        (last_before p (IsAssigned tei) (messages_to u) (Carries frames) none h)

    line_ends : (p : TeiMessage → Bool) → HasLast p (IsAssigned tei) (Carries frames)
        → HasLast p (IsAssigned tei) (messages_to Reached)
    line_ends p h = rw (filter_map-append (message_in side.Network) u.incoming frames)
        (last_behind p (IsAssigned tei) (messages_to u) (Carries frames) h)

    module _ (none : AssignsNone tei (Carries frames)) where
      pub not_taken_reached : IsNotTaken tei u → IsNotTaken tei Reached
      not_taken_reached h = reached_taken tei frames u none ∙ h

      pub settles_reached : Settles tei u → Settles tei Reached
      settles_reached (inl line) = inl (line_reached (IsRequest tei) none line)
      settles_reached (inr (inl (unsent, sent))) =
          inr (inl (reached_sent tei frames u none ∙ unsent, sent))
      settles_reached (inr (inr h)) = inr (inr (not_taken_reached h))

      pub leaves_reached : Leaves tei u → Leaves tei Reached
      leaves_reached (inl line) = inl (line_reached (IsRemoval tei) none line)
      leaves_reached (inr h) = inr (not_taken_reached h)

      pub obeys_reached : (ri : ℕ) → Obeys tei ri u → Obeys tei ri Reached
      obeys_reached ri (inl line) = inl (line_reached (IsAnswer tei ri) none line)
      obeys_reached ri (inr (unsent, by)) =
          inr (reached_sent tei frames u none ∙ unsent, by)

    pub settles_by_request : Carries frames ≡ check_request tei ∷ [] → Settles tei Reached
    settles_by_request is = inl (line_ends (IsRequest tei)
        (subst (HasLast (IsRequest tei) (IsAssigned tei)) (sym is)
        (inr (same_tei tei, refl))))

    pub leaves_by_removals : Carries frames ≡ remove tei ∷ remove tei ∷ [] → Leaves tei Reached
    leaves_by_removals is = inl (line_ends (IsRemoval tei)
        (subst (HasLast (IsRemoval tei) (IsAssigned tei)) (sym is)
        (inl (inr (same_tei tei, refl)))))

    pub obeys_by_assignment : (ri : ℕ) → Carries frames ≡ assigned ri tei ∷ []
        → Obeys tei ri Reached
    obeys_by_assignment ri is = inl (line_ends (IsAnswer tei ri)
        (subst (HasLast (IsAnswer tei ri) (IsAssigned tei)) (sym is)
        (inr (rw (same_tei tei, same_tei ri) refl, refl))))
