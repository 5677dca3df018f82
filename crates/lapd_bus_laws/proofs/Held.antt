-- The holding of a TEI: the one terminal that claims the TEI obtains it at most once, and no other
-- terminal obtains it.
use Rattle.std.proofs.Common.{◌≡◌, ◌⊎◌, inl, inr, ℕ, ◌==◌, ◌++◌, List, [], ◌∷◌, set, Bool, true, false, Option, Some, None, refl, sym, ap, subst, ◌∙◌, arith}
use Rattle.std.specs.Prelude.{slice_get, is_some}
use Rattle.std.specs.List.{list_any}
use Rattle.std.proofs.lemmas.Bool.Decides.{nat_tests}
use Rattle.std.proofs.lemmas.List.Folds.{list_any-append}
use Rattle.lapd_tei.specs.declared.phase.Phase.{Phase}
use Rattle.lapd_tei.specs.declared.phase.Phase.TheVariants.{Unassigned, Awaiting, Assigned}
use Rattle.lapd_tei.specs.Terminal.{tei_of}
use Rattle.lapd_tei.proofs.PreservedByBus.{get_after_set}
use Rattle.lapd_table.specs.declared.link_id.LinkId.{LinkId}
use Rattle.lapd_sides_links.specs.Links.{Reaction}
use Rattle.lapd_sides.specs.Network.{Network}
use Rattle.lapd_sides.specs.User.{User, new_user, has_tei}
use Rattle.lapd_side_events.specs.Interface.{Configs, user_behaviour, network_behaviour}
use Rattle.lapd_side_events.specs.SideView.{SideView, SideEvent, Take, Lose, Expire, Ask, Overhear, reaction, does}
use Rattle.lapd_side_events.specs.Bus.{Bus, BusEvent, OfTerminal, OfNetwork, Join, Restart, NewTerminal, OverhearsNothing, reached_by, left_of, on_line_of, with_terminal, terminal_does, network_does, terminal_joins, bus_step}
use Rattle.lapd_two_side_laws.specs.Premises.{is_removal, is_assignment, GivesTeiOnce}
use Rattle.lapd_two_side_laws.proofs.OwnSides.{AreOwn, user_preserves}
use Rattle.lapd_two_side_laws.proofs.TerminalOwn.{Owns}
use Rattle.lapd_bus_laws.specs.Assignments.{Assignment, assignments, holds, awaited, awaits, is_answered, is_offer, claims}
use Rattle.lapd_bus_laws.specs.Holdings.{RequestsUnanswered, LeavesAlone}
use Rattle.lapd_bus_laws.specs.Links.{IsNotAssigned, AssignsOthers, ObtainsOnce}
use Rattle.lapd_bus_laws.proofs.Assigns.{HasNoManagementLink, AssignsOne, AssignsAtMostOne, event_assigns}
use Rattle.lapd_bus_laws.proofs.Claims.{same_tei, claims_before, obtains_claimed, reached_by_none, reached_by_one, reached_without, reached_by_assignment}
use Rattle.lapd_bus_laws.proofs.Lists.{Others, others_set, others_map, map_back, either_some, some_second, not_both, false_by}
use Rattle.lapd_bus_laws.proofs.Obtains.{FirstAnswers, TakesAnswer, event_obtains}
use Rattle.lapd_bus_laws.proofs.PremisesOfInterface.{has_so}
use Rattle.lapd_bus_laws.proofs.Single.{no_offer, fixed_of}

-- a terminal that holds a TEI awaits none
holder_awaits_none : (tei ri : ℕ) (phase : Phase) → has_tei tei (tei_of phase) ≡ true
    → awaited phase ≡ Some ri → ⊥
holder_awaits_none tei ri Unassigned held is = cc
holder_awaits_none tei ri (Awaiting purpose count r) held is = cc
holder_awaits_none tei ri (Assigned by t) held is = cc

owner_awaits_none : (n ri : ℕ) (phase : Phase) → Owns phase n → awaited phase ≡ Some ri → ⊥
owner_awaits_none n ri Unassigned own is = absurd own
owner_awaits_none n ri (Awaiting purpose count r) own is = absurd own
owner_awaits_none n ri (Assigned by t) own is = cc

-- an event that takes an assignment answers a request
record Outstanding (phase : Phase) : Type 0 where
  pub reference : ℕ
  pub is : awaited phase ≡ Some reference

outstanding : (t : SideView User) (event : SideEvent) (tei : ℕ) → TakesAnswer event t tei
    → Outstanding t.now.management.terminal
outstanding t (Take now) tei answer = first t.incoming answer
  where
    first : (line : List (List ℕ)) → FirstAnswers t.now line tei
        → Outstanding t.now.management.terminal
    first [] impossible = absurd impossible
    first (octets ∷ rest) a = record { reference = a.reference; is = a.outstanding }
outstanding t (Lose at) tei impossible = absurd impossible
outstanding t (Expire timer of now) tei impossible = absurd impossible
outstanding t (Ask request now) tei impossible = absurd impossible
outstanding t (Overhear octets now) tei impossible = absurd impossible

module _ (c : Configs) (id : LinkId) (i : ℕ) where
  abbrev Offer : SideView User → Bool
  Offer t = list_any (is_offer id.tei t.now.management.terminal) (assignments t)

  abbrev pub IsUnclaimed : SideView User → Type 0
  IsUnclaimed t = claims id.tei t ≡ false

  -- The links are of the terminal's own TEI. After this TEI was removed, none of its assignments in
  -- transit answers the terminal.
  pub record IsSpent (t : SideView User) : Type 0 where
    pub own : AreOwn t.now
    pub spent : list_any (is_removal id.tei) t.delivered ≡ true
        → list_any (is_offer id.tei t.now.management.terminal) (assignments t) ≡ false

  pub record IsHeld (b : Bus) : Type 0 where
    pub others : Others IsUnclaimed i b.terminals
    pub mine : (t : SideView User) → slice_get b.terminals i ≡ Some t → IsSpent t
    pub management : HasNoManagementLink b.network

  -- ---- An event of a terminal.

  module _ (event : SideEvent) (t : SideView User) (ok : OverhearsNothing event) where
    abbrev After : SideView User
    After = does (user_behaviour c.user) event t

    abbrev Requests : Type 0
    Requests = (ri : ℕ) → awaits ri After ≡ true
        → (awaits ri t ≡ true) ⊎ (is_answered ri After ≡ false)

    -- a terminal that held the TEI has no offer, since its request is new
    held_no_offer : Requests → holds id.tei t ≡ true → Offer After ≡ false
    held_no_offer requests held = no_offer id.tei After.now.management.terminal (assignments After)
        (λ ri is. elim (requests ri (awaits_it ri (awaited After.now.management.terminal) is)) [
          | inl before ↦ absurd (holder_awaits_none id.tei ri t.now.management.terminal held
              (has_so ri (awaited t.now.management.terminal) before))
          | inr none ↦ none
        ])
      where
        awaits_it : (ri : ℕ) (o : Option ℕ) → o ≡ Some ri → has_tei ri o ≡ true
        awaits_it ri o is = rw is (same_tei ri)

    spent_before : Requests → Offer t ≡ false → Offer After ≡ false
    spent_before requests none = false_by (Offer After) (λ offer.
        elim (either_some (holds id.tei t) (Offer t)
        (claims_before c event t ok requests id.tei
        (some_second (holds id.tei After) (Offer After) offer))) [
          | inl held ↦ not_both (Offer After) offer (held_no_offer requests held)
          | inr before ↦ not_both (Offer t) before none
        ])

    spent_does : Requests → IsSpent t → IsSpent After
    unfolding does
    spent_does requests h =
        let o = event_obtains c.user event t ok in
        let a = reaction (user_behaviour c.user) event t in
        record {
          own = (user_preserves c.user t event h.own).after;
          spent = λ past. elim (either_some (list_any (is_removal id.tei) t.delivered)
              (list_any (is_removal id.tei) a.effects.primitives)
              (sym (list_any-append (is_removal id.tei) t.delivered a.effects.primitives)
              ∙ past)) [
                | inl before ↦ spent_before requests (h.spent before)
                | inr now ↦ held_no_offer requests (held_so (o.lost id.tei now))
              ];
        }
      where
        held_so : tei_of t.now.management.terminal ≡ Some id.tei → holds id.tei t ≡ true
        held_so is = rw is (same_tei id.tei)

    gives_once : IsSpent t → GivesTeiOnce (user_behaviour c.user) id event t
    gives_once h = λ any. false_by _ (λ got.
        let its = outstanding t event id.tei ((event_obtains c.user event t ok).got id.tei got) in
        elim (either_some (is_some (t.now.served.links id))
        (list_any (is_removal id.tei) t.delivered) any) [
          | inl there ↦ owner_awaits_none id.tei its.reference t.now.management.terminal
              (h.own id there) its.is
          | inr removed ↦ elim (either_some (holds id.tei t) (Offer t)
              (obtains_claimed c event t ok id.tei got)) [
                | inl held ↦ holder_awaits_none id.tei its.reference t.now.management.terminal held
                    its.is
                | inr offer ↦ not_both (Offer t) offer (h.spent removed)
              ]
        ])

    not_obtained : IsUnclaimed t → IsNotAssigned id.tei
        (reaction (user_behaviour c.user) event t).effects
    not_obtained none = false_by _
        (λ got. not_both (claims id.tei t) (obtains_claimed c event t ok id.tei got) none)

  -- another terminal, or this one, takes the place of one
  pub set_holds : (b : Bus) (j : ℕ) (after : SideView User) → ((j ≡ i → ⊥) → IsUnclaimed after)
      → (i ≡ j → IsSpent after) → IsHeld b → IsHeld (with_terminal j after b)
  set_holds b j after other own h = record {
    others = others_set IsUnclaimed i b.terminals j after h.others other;
    mine = λ u there. elim (get_after_set b.terminals j i after u there) [
      | inl e ↦ subst IsSpent e.1 (own e.0)
      | inr before ↦ h.mine u before
    ];
    management = h.management;
  }

  terminal_holds : (b : Bus) (j : ℕ) (event : SideEvent) (o : Option (SideView User))
      → OverhearsNothing event → slice_get b.terminals j ≡ o
      → RequestsUnanswered c (OfTerminal j event) b → IsHeld b
      → IsHeld (terminal_does c j event o b)
  terminal_holds b j event None ok at requests h = h
  terminal_holds b j event (Some t) ok at requests h =
      let after = does (user_behaviour c.user) event t in
      set_holds b j after
      (λ apart. false_by (claims id.tei after) (λ claim.
      not_both (claims id.tei t) (claims_before c event t ok (requests t at) id.tei claim)
      (h.others j t at apart)))
      (λ same. spent_does event t ok (requests t at)
      (h.mine t (subst (λ (k : ℕ). slice_get b.terminals k ≡ Some t) (sym same) at))) h

  -- ---- An event of the network that does not assign the TEI.

  module _ (b : Bus) (j : ℕ) (event : SideEvent) (t : SideView User)
      (at : slice_get b.terminals j ≡ Some t) (h : IsHeld b)
      (quiet : IsNotAssigned id.tei (reaction (network_behaviour c.network) event
      (on_line_of t b)).effects) where
    abbrev Done : Reaction Network
    Done = reaction (network_behaviour c.network) event (on_line_of t b)

    other_tei : (one : AssignsOne c.network b.network Done) → one.assignment.tei ≡ id.tei → ⊥
    other_tei one same = not_both _
        (subst (λ n.
        list_any (is_assignment n) Done.effects.primitives ≡ true) same one.given) quiet

    unclaimed_after : AssignsAtMostOne c.network b.network Done → (u : SideView User)
        → IsUnclaimed u → IsUnclaimed (reached_by Done.effects.frames u)
    unclaimed_after (inl nothing) u none = false_by _ (λ claim.
        not_both (claims id.tei u) (reached_without id.tei Done.effects.frames u nothing.frames
        claim) none)
    unclaimed_after (inr one) u none = false_by _ (λ claim.
        elim (reached_by_assignment c b.network Done one id.tei u claim) [
          | inl before ↦ not_both (claims id.tei u) before none
          | inr new ↦ other_tei one new.0
        ])

    spent_by : (u : SideView User) → IsSpent u → assignments (reached_by Done.effects.frames u)
        ≡ assignments u → IsSpent (reached_by Done.effects.frames u)
    spent_by u o same = record {
      own = o.own;
      spent = λ past. ap (list_any (is_offer id.tei u.now.management.terminal)) same
          ∙ o.spent past;
    }

    spent_with : (x : Assignment) → (x.tei ≡ id.tei → ⊥) → (u : SideView User) → IsSpent u
        → assignments (reached_by Done.effects.frames u) ≡ assignments u ++ x ∷ []
        → IsSpent (reached_by Done.effects.frames u)
    spent_with x apart u o more =
        let other : (x.tei == id.tei) ≡ false = false_by (x.tei == id.tei)
        (λ same. apart (let e : x.tei ≡ id.tei = grind (arith, nat_tests, same) in e)) in
        record {
          own = o.own;
          spent = λ past.
              ap (list_any (is_offer id.tei u.now.management.terminal)) more
              ∙ list_any-append (is_offer id.tei u.now.management.terminal) (assignments u)
              (x ∷ []) ∙ rw (o.spent past, other) refl;
        }

    spent_after : AssignsAtMostOne c.network b.network Done → (u : SideView User) → IsSpent u
        → IsSpent (reached_by Done.effects.frames u)
    spent_after (inl nothing) u o = spent_by u o (reached_by_none Done.effects.frames u
        nothing.frames)
    spent_after (inr one) u o = elim one.frames [
      | inl none ↦ spent_by u o (reached_by_none Done.effects.frames u none)
      | inr its ↦ spent_with one.assignment (other_tei one) u o
          (reached_by_one Done.effects.frames one.assignment u its)
    ]

    spent_left : (u : SideView User) → IsSpent u → IsSpent (left_of event u)
    spent_left u o = record { own = o.own; spent = o.spent }

    management_after : AssignsAtMostOne c.network b.network Done → HasNoManagementLink Done.after
    management_after (inl nothing) = nothing.management
    management_after (inr one) = one.management

    network_did_hold : IsHeld (network_does c j event (Some t) b)
    network_did_hold =
        let outcome = event_assigns c.network event (on_line_of t b) h.management in
        let new = left_of event t in
        record {
          others = others_map IsUnclaimed IsUnclaimed (reached_by Done.effects.frames) i
              (set b.terminals j new) (unclaimed_after outcome)
              (others_set IsUnclaimed i b.terminals j new h.others
              (λ apart. h.others j t at apart));
          mine = λ u there.
              (let m = map_back (reached_by Done.effects.frames) (set b.terminals j new) i u there
              in
              subst IsSpent m.2 (spent_after outcome m.0 (elim
              (get_after_set b.terminals j i new m.0 m.1) [
                | inl e ↦ subst IsSpent e.1 (spent_left t
                    (h.mine t (subst (λ (k : ℕ). slice_get b.terminals k ≡ Some t) (sym e.0) at)))
                | inr before ↦ h.mine m.0 before
              ])));
          management = management_after outcome;
        }

  network_holds : (b : Bus) (j : ℕ) (event : SideEvent) (o : Option (SideView User))
      → slice_get b.terminals j ≡ o → AssignsOthers c id.tei (OfNetwork j event) b → IsHeld b
      → IsHeld (network_does c j event o b)
  network_holds b j event None at quiet h = h
  network_holds b j event (Some t) at quiet h = network_did_hold b j event t at h (quiet t at)

  -- ---- Another terminal joins, without the TEI.

  join_holds : (b : Bus) (j : ℕ) (new : NewTerminal) (o : Option (SideView User))
      → LeavesAlone id.tei i (Join j new) → IsHeld b → IsHeld (terminal_joins c j new o b)
  join_holds b j new None leaves h = h
  join_holds b j new (Some t) leaves h =
      set_holds b j (record t { now = new_user c.user new.fixed new.random })
      (λ apart. false_by _ (λ claim. leaves.1 (fixed_of id.tei new.fixed _ claim)))
      (λ same. absurd (leaves.0 (sym same))) h

  -- ---- Every event of a holding.

  pub event_holds : (e : BusEvent) (b : Bus) → LeavesAlone id.tei i e → AssignsOthers c id.tei e b
      → RequestsUnanswered c e b → IsHeld b → IsHeld (bus_step c e b)
  event_holds (OfTerminal j event) b ok quiet requests h =
      terminal_holds b j event (slice_get b.terminals j) ok refl requests h
  event_holds (OfNetwork j event) b ok quiet requests h =
      network_holds b j event (slice_get b.terminals j) refl quiet h
  event_holds (Join j new) b ok quiet requests h =
      join_holds b j new (slice_get b.terminals j) ok h
  event_holds (Restart known) b ok quiet requests h = absurd ok

  pub obtains_here : (e : BusEvent) (b : Bus) → LeavesAlone id.tei i e → IsHeld b
      → ObtainsOnce c id i e b
  obtains_here (OfTerminal j event) b ok h = λ t at. (
    (λ same. gives_once event t ok (h.mine t (subst (λ (k : ℕ).
        slice_get b.terminals k ≡ Some t) same at))),
    (λ apart. not_obtained event t ok (h.others j t at apart)),
  )
  obtains_here (OfNetwork j event) b ok h = tt
  obtains_here (Join j new) b ok h = ok.1
  obtains_here (Restart known) b ok h = tt
