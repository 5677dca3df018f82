-- A user side serves each of its links. Kept establishments are executed when the TEI is obtained.
use Rattle.std.proofs.Common.{◌≡◌, ◌⊎◌, inl, inr, ℕ, ◌<◌, ◌==◌, List, [], ◌∷◌, Bool, true, false, Option, Some, None, Result, Ok, Err, refl, sym, subst, ◌∙◌}
use Rattle.std.specs.List.{list_any, filter_map}
use Rattle.std.specs.Prelude.{is_some, ◌||◌}
use Rattle.std.proofs.lemmas.List.Elements.{filter_map-append}
use Rattle.lapd_frame.specs.declared.Side.TheVariants as side
use Rattle.lapd_frame.specs.declared.Sapi.{Sapi}
use Rattle.lapd_frame.specs.declared.Sapi.TheVariants as sapi
use Rattle.lapd_link_definition.specs.declared.event.LinkFault.TheVariants.{NotEstablished}
use Rattle.lapd_link_definition.specs.Input.{Establish, Give}
use Rattle.lapd_tei.specs.declared.out.TeiOut.{TeiOut}
use Rattle.lapd_tei.specs.declared.out.TeiOut.TheVariants as tei_out
use Rattle.lapd_tei.specs.declared.phase.Phase.{Phase}
use Rattle.lapd_tei.specs.declared.phase.Phase.TheVariants.{Unassigned, Awaiting, Assigned}
use Rattle.lapd_tei.specs.declared.terminal.TerminalEvent.{TerminalEvent}
use Rattle.lapd_tei.specs.declared.terminal.TerminalEvent.TheVariants as event
use Rattle.lapd_table.specs.declared.link_id.LinkId.{LinkId}
use Rattle.lapd_table.specs.LinkId.{id_eq}
use Rattle.lapd_table.proofs.Ids.{same_id_eq, id_eq_self}
use Rattle.lapd_sides_links.specs.declared.config.Config.{Config}
use Rattle.lapd_sides_links.specs.declared.primitive.What.{What}
use Rattle.lapd_sides_links.specs.declared.primitive.What.TheVariants as what
use Rattle.lapd_sides_links.specs.declared.side_fault.SideKind.{SideKind}
use Rattle.lapd_sides_links.specs.declared.side_fault.SideKind.TheVariants.{Link}
use Rattle.lapd_sides_links.specs.Effects.{outcome_of}
use Rattle.lapd_sides_links.specs.Links.{Links, Linked, Reaction, of_sapi, is_served, in_links, link_acts, with_link}
use Rattle.lapd_sides.specs.Management.{is_unit_to_group, manages}
use Rattle.lapd_sides.specs.Meant.{gives_to_own_link}
use Rattle.lapd_sides.specs.SideState.{among_links, link_of, or_unmoved, unmoved, with_stopped}
use Rattle.lapd_sides.specs.User.{User, nothing_pending, user_rules, with_kept, establishes, establishes_pending, primitive_of_sapi, gives_up_pending, own_link, pending_after, terminal_acts, user_requested, with_tei_or}
use Rattle.lapd_two_side_laws.specs.Owed.{PassesBy, ServesLink}
use Rattle.lapd_side_events.specs.Interface.{fresh_link, user_behaviour}
use Rattle.lapd_two_side_laws.specs.Primitives.{what_for, link_primitives}
use Rattle.lapd_two_side_laws.specs.Premises.{IsGivenOnce, is_assignment}
use Rattle.lapd_two_side_laws.proofs.LinkParts.{expiry_passes, now_there, absent_acts, own_granted, pass_then_step, step_then_pass, removal_then_pass, other_acts, passes_by_both}
use Rattle.lapd_side_events.specs.SideView.{SideEvent, SideView, reaction}
use Rattle.lapd_two_side_laws.proofs.Managed.{managing, outcomes_spare, and_not, neither, any_first, other_tei}
use Rattle.lapd_two_side_laws.proofs.Reactions.{AnyInput, AnyRequest, HoldsOfEvents, HoldsOfLinks, each_event, each_request, moment_or, reacts}
use Rattle.lapd_two_side_laws.proofs.Requests.{HoldsInTurn, by_events, forgotten_by, pending_so, step_at, stepped_by, user_asked}
use Rattle.lapd_two_side_laws.proofs.EventOnLink as its
use Rattle.lapd_two_side_laws.proofs.EventOnLink.{ServesMeant, SparesLink, serves}

refuses : (phase : Phase) (id : LinkId) (message : List ℕ) (now : ℕ) (s : User)
    (a : Reaction User) → own_link phase id ≡ None
    → with_tei_or now phase id.sapi (Give message) [] (Err (Link NotEstablished)) s ≡ Ok a → ⊥
refuses (Assigned by tei) id message now s a none is = cc
refuses Unassigned id message now s a none is = cc
refuses (Awaiting purpose count ri) id message now s a none is = cc

pub user_meant : (config : Config) → ServesMeant user_rules config
unfolding user_requested
user_meant config = record {
  spares = λ frame none. and_not (is_served config frame.address.sapi)
      (is_unit_to_group frame) none;
  gives = gives_to_own_link config;
  refuses = λ id message now s a none is.
      refuses s.management.terminal id message.items now s a none is;
}

module _ (config : Config) (id : LinkId) (low : id.tei < 127) (removed : Bool) where
  abbrev Passes : User → Reaction User → Type 0
  Passes = its.Passes user_rules config id low removed

  abbrev Spares : ℕ → User → Reaction User → Type 0
  Spares = its.Spares user_rules config id low removed

  nothing : (s : User) → Passes s (unmoved s)
  nothing = its.nothing user_rules config id low removed

  -- ---- Kept establishments, which another link takes.

  or_unmoved_passes : (s : User) (r : Result (Reaction Links) SideKind)
      → ((b : Reaction Links) → r ≡ Ok b
      → PassesBy side.User id s.served.links b.after b.effects)
      → Passes s (or_unmoved s (among_links s r))
  or_unmoved_passes s (Ok b) each = each b refl
  or_unmoved_passes s (Err kind) each = nothing s

  establishing : (on : Bool) (now : ℕ) (other : LinkId) (s : User) → id_eq id other ≡ false
      → Passes s (establishes on now other s)
  unfolding link_of
  establishing true now other s apart =
      or_unmoved_passes s
      (in_links other (link_acts side.User other now Establish []) s.served.links)
      (λ b done. other_acts side.User id other s.served.links now Establish [] b apart done)
  establishing false now other s apart = nothing s

  establishing_pending : (now own : ℕ) (s : User) → (own == id.tei) ≡ false
      → Passes s (establishes_pending now own s)
  establishing_pending now own s apart =
      let none = with_kept s nothing_pending in
      let first = establishes s.management.pending.call now (of_sapi sapi.Call own) none in
      let second = establishes s.management.pending.packet now (of_sapi sapi.Packet own)
      first.after in
      passes_by_both side.User id s.served.links first.after.served.links
      second.after.served.links first.effects second.effects
      (establishing s.management.pending.call now (of_sapi sapi.Call own) none
      (other_tei sapi.Call own id apart))
      (establishing s.management.pending.packet now (of_sapi sapi.Packet own) first.after
      (other_tei sapi.Packet own id apart))

  of_group : (on : Bool) (at : Sapi) (w : What)
      → link_primitives id (primitive_of_sapi on at w) ≡ []
  of_group false at w = refl
  of_group true at w = its.group_is_other user_rules config id low removed at w

  giving_up : (s : User) → Passes s (gives_up_pending s)
  giving_up s = record {
    links = refl;
    frames = refl;
    delivered = filter_map-append (what_for id)
        (primitive_of_sapi s.management.pending.call sapi.Call what.Released)
        (primitive_of_sapi s.management.pending.packet sapi.Packet what.Released)
        ∙ rw (
          of_group s.management.pending.call sapi.Call what.Released,
          of_group s.management.pending.packet sapi.Packet what.Released,
        ) refl;
  }

  keeping : (now : ℕ) (outs : List TeiOut) (s : User)
      → list_any (is_assignment id.tei) (filter_map outcome_of outs) ≡ false
      → Passes s (pending_after now outs s)
  keeping now [] s spared = nothing s
  keeping now (tei_out.Got own ∷ outs) s spared =
      establishing_pending now own s (neither (own == id.tei) _ spared).0
  keeping now (tei_out.Failed ∷ outs) s spared = giving_up s
  keeping now (tei_out.Given t ∷ outs) s spared =
      keeping now outs s (neither (t == id.tei) _ spared).1
  keeping now (output ∷ outs) s spared = keeping now outs s spared

  -- ---- If the link does not exist, no establishment is done for it.

  abbrev PassesWithout : User → Reaction User → Type 0
  PassesWithout s a = s.served.links id ≡ None → Passes s a

  without : (now : ℕ) → HoldsOfLinks user_rules now PassesWithout AnyInput
  without now = record {
    still = λ s none. nothing s;
    counts = λ s none. nothing s;
    reports = λ at octets s none. record {
      links = refl;
      frames = refl;
      delivered = of_group true at (what.UnitUp octets);
    };
    steps = λ other input octets s b plain permits done none.
        absent_acts side.User id other s.served.links now input octets b none done;
  }

  without_in_turn : HoldsInTurn PassesWithout
  without_in_turn = record {
    kept = λ pending s a h. h;
    both = λ s a does first each none.
        let one = first none in
        passes_by_both side.User id s.served.links a.after.served.links
        (does a.after).after.served.links a.effects (does a.after).effects one
        (each a.after (one.links ∙ none));
    gives_up = λ s none. giving_up s;
  }

  pending_without : (now : ℕ) (outs : List TeiOut) (s : User)
      → PassesWithout s (pending_after now outs s)
  pending_without now outs s = pending_so (without now) without_in_turn (λ other. tt) outs s

  -- ---- Once the link has joined, the establishment that was kept for it is done.

  abbrev IsEstablished : ℕ → User → Reaction User → Type 0
  IsEstablished now s a = its.Steps user_rules config id low removed now Establish [] (λ t. t) s a

  own_by : (now : ℕ) (s : User) (l : Linked) (r : Result (Reaction Links) SideKind)
      → s.served.links id ≡ Some l
      → in_links id (link_acts side.User id now Establish []) s.served.links ≡ r
      → Passes s (or_unmoved s (among_links s r))
      ⊎ IsEstablished now s (or_unmoved s (among_links s r))
  own_by now s l (Ok a) there is =
      inr (own_granted side.User id s.served.links now Establish [] l a there is).is_step
  own_by now s l (Err kind) there is = inl (nothing s)

  own_establishes : (now : ℕ) (s : User) (l : Linked) → s.served.links id ≡ Some l
      → Passes s (establishes true now id s) ⊎ IsEstablished now s (establishes true now id s)
  unfolding link_of
  own_establishes now s l there =
      own_by now s l (in_links id (link_acts side.User id now Establish []) s.served.links) there
      refl

  -- an establishment leaves this link unchanged, or is its step
  abbrev Done : ℕ → LinkId → User → Reaction User → Type 0
  Done now other s a = Passes s a ⊎ ((id_eq id other ≡ true) × IsEstablished now s a)

  done_by : (now : ℕ) (other : LinkId) (s : User) (l : Linked) (test : Bool)
      → id_eq id other ≡ test → s.served.links id ≡ Some l
      → Done now other s (establishes true now other s)
  done_by now other s l false apart there = inl (establishing true now other s apart)
  done_by now other s l true same there =
      subst (λ (k : LinkId). Done now k s (establishes true now k s)) (same_id_eq id other same)
      (elim (own_establishes now s l there) [
        | inl passes ↦ inl passes
        | inr does ↦ inr (id_eq_self id, does)
      ])

  done : (on : Bool) (now : ℕ) (other : LinkId) (s : User) (l : Linked)
      → s.served.links id ≡ Some l → Done now other s (establishes on now other s)
  done true now other s l there = done_by now other s l (id_eq id other) refl there
  done false now other s l there = inl (nothing s)

  -- a link has one SAPI
  packet_is_other : (own : ℕ) → id_eq id (of_sapi sapi.Call own) ≡ true
      → id_eq id (of_sapi sapi.Packet own) ≡ false
  packet_is_other own same =
      subst (λ (k : LinkId). id_eq k (of_sapi sapi.Packet own) ≡ false)
      (sym (same_id_eq id (of_sapi sapi.Call own) same)) refl

  pending_done : (now own : ℕ) (s : User) (l : Linked) → s.served.links id ≡ Some l
      → Passes s (establishes_pending now own s)
      ⊎ IsEstablished now s (establishes_pending now own s)
  pending_done now own s l there =
      let before = with_kept s nothing_pending in
      let first = establishes s.management.pending.call now (of_sapi sapi.Call own) before in
      let second = establishes s.management.pending.packet now (of_sapi sapi.Packet own)
      first.after in
      elim (done s.management.pending.call now (of_sapi sapi.Call own) before l there) [
        | inl one ↦ elim (done s.management.pending.packet now (of_sapi sapi.Packet own)
            first.after l (one.links ∙ there)) [
              | inl two ↦ inl (passes_by_both side.User id s.served.links
                  first.after.served.links second.after.served.links first.effects second.effects
                  one two)
              | inr two ↦ inr (pass_then_step side.User id now Establish [] (λ t. t)
                  s.served.links first.after.served.links second.after.served.links first.effects
                  second.effects one two.1)
            ]
        | inr one ↦ inr (step_then_pass side.User id now Establish [] (λ t. t) s.served.links
            first.after.served.links second.after.served.links first.effects second.effects one.1
            (establishing s.management.pending.packet now (of_sapi sapi.Packet own) first.after
            (packet_is_other own one.0)))
      ]

  pending_there : (now : ℕ) (outs : List TeiOut) (s : User) (l : Linked)
      → s.served.links id ≡ Some l
      → Passes s (pending_after now outs s) ⊎ IsEstablished now s (pending_after now outs s)
  pending_there now [] s l there = inl (nothing s)
  pending_there now (tei_out.Got own ∷ outs) s l there = pending_done now own s l there
  pending_there now (tei_out.Failed ∷ outs) s l there = inl (giving_up s)
  pending_there now (output ∷ outs) s l there = pending_there now outs s l there

  -- ---- A step of the terminal.

  -- kept establishments leave the link unchanged if TEI management left it unchanged
  pending_as : (now : ℕ) (outs : List TeiOut) (s : User) (o : Option Linked)
      → s.served.links id ≡ o → (is_some o ≡ true
      → list_any (is_assignment id.tei) (filter_map outcome_of outs) ≡ false)
      → Passes s (pending_after now outs s)
  pending_as now outs s (Some l) is spared = keeping now outs s (spared refl)
  pending_as now outs s None is spared = pending_without now outs s is

  there_so : (o : Option Linked) → is_some o ≡ true → (is_some o || removed) ≡ true
  there_so (Some l) h = refl
  there_so None h = cc

  acting : (now : ℕ) (e : ℕ → TerminalEvent) (s : User)
      → Spares now s (terminal_acts config now e s)
  unfolding terminal_acts
  acting now e s stays =
      let step = step_at e s in
      let m = manages side.User config now step.outs s.served in
      let middle = (stepped_by config now step s).after in
      let rest = pending_after now step.outs middle in
      let fresh = fresh_link config id in
      let come : Links = with_link id (Some fresh) s.served.links in
      let once : IsGivenOnce id s.served.links removed m.effects = λ h.
      any_first (is_assignment id.tei) m.effects.primitives rest.effects.primitives (stays h) in
      elim (managing side.User config now step.outs s.served id low removed once) [
        | inl passes ↦ inl (passes_by_both side.User id s.served.links m.after.links
            rest.after.served.links m.effects rest.effects passes
            (pending_as now step.outs middle (s.served.links id) passes.links (λ there.
            outcomes_spare side.User config now step.outs s.served id low
            (once (there_so (s.served.links id) there)))))
        | inr (inl arrived) ↦ inr (inl (record {
          absent = arrived.absent;
          not_removed = arrived.not_removed;
          arrives = elim (pending_there now step.outs middle fresh
              (arrived.passes.links ∙ now_there id fresh s.served.links)) [
                | inl left ↦ inl (passes_by_both side.User id come m.after.links
                    rest.after.served.links m.effects rest.effects arrived.passes left)
                | inr does ↦ inr (pass_then_step side.User id now Establish [] (λ t. t) come
                    m.after.links rest.after.served.links m.effects rest.effects arrived.passes
                    does)
              ];
        }))
        | inr (inr proceeds) ↦ inr (inr (removal_then_pass side.User id m.after.links
            rest.after.served.links m.effects rest.effects proceeds
            (pending_without now step.outs middle proceeds.now_absent)))
      ]

  -- ---- A user side.

  of_event : (now : ℕ) (e : ℕ → TerminalEvent) (s : User)
      → its.Asks user_rules config id low removed now s (terminal_acts config now e s)
  of_event now e s =
      its.no_request user_rules config id low removed now s (terminal_acts config now e s)
      (acting now e s)

  spared : SparesLink user_rules config id low removed
  spared = record {
    meant = user_meant config;
    hears = λ now m s. acting now (event.Heard m) s;
    times_out = λ now timer s. acting now event.T202 (with_stopped timer s);
    requested = λ now asked s none.
        user_asked (its.asked_links user_rules config id low removed now) config
        (by_events config now (its.Asks user_rules config id low removed now) AnyRequest
        (of_event now event.Ask) (of_event now event.Want) (of_event now (λ ri. event.Leave))
        (λ pending s a h. h) (λ at s.
        its.no_request user_rules config id low removed now s (forgotten_by at s) (λ once. inl
        (record {
          links = refl;
          frames = refl;
          delivered = of_group true at what.ReleaseConfirm;
        })))) asked s tt
        (its.moves user_rules config id low removed s.management asked none);
  }

  pub of_user : ServesLink (user_behaviour config) side.User id removed
  of_user = serves user_rules config id low removed spared

  -- ---- Any event leaves a link that does not exist unmoved, unless its TEI is obtained.

  abbrev Without : ℕ → User → Reaction User → Type 0
  Without = its.IsWithout user_rules config id low removed

  acting_without : (now : ℕ) (e : ℕ → TerminalEvent) (s : User)
      → Without now s (terminal_acts config now e s)
  acting_without now e s none = acting now e s

  without_law : (now : ℕ) → HoldsOfEvents user_rules config now (Without now) AnyInput AnyRequest
  without_law now = record {
    links = its.without user_rules config id low removed now;
    expires = λ other timer s b done none once. inl (expiry_passes side.User id other
        s.served.links now timer b none done);
    by_rules = record {
      hears = λ m. acting_without now (event.Heard m);
      times_out = λ timer s may. acting_without now event.T202 (with_stopped timer s);
      requested = λ asked s any.
          user_asked (its.without user_rules config id low removed now) config
          (by_events config now (Without now) AnyRequest (acting_without now event.Ask)
          (acting_without now event.Want) (acting_without now (λ ri. event.Leave))
          (λ pending s a h. h) (λ at s none once. inl (record {
            links = refl;
            frames = refl;
            delivered = of_group true at what.ReleaseConfirm;
          }))) asked s any (each_request user_rules s.management asked);
    };
  }

  pub reacts_without : (last : ℕ) (e : SideEvent) (v : SideView User)
      → Without (moment_or last e) v.now (reaction (user_behaviour config) e v)
  reacts_without last e v =
      reacts {R = Without} without_law last e v (each_event user_rules e v)
