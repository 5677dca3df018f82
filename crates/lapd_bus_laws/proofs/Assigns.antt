-- An event of the network assigns no TEI, or one: then it sends at most that assignment, and
-- creates the links of that TEI.
use Rattle.std.proofs.Common.{◌≡◌, ◌⊎◌, inl, inr, ℕ, ◌==◌, nat_lt, List, [], ◌∷◌, drop, set, Bool, true, false, if◌then◌else◌, Option, Some, None, Ok, refl, sym, ap, subst, ◌∙◌, arith}
use Rattle.std.specs.Prelude.{◌||◌}
use Rattle.std.specs.List.{list_any, filter_map, cons_option}
use Rattle.std.proofs.lemmas.Bool.Decides.{nat_tests}
use Rattle.std.proofs.lemmas.List.{get_or-set_same, get_or-set_other}
use Rattle.lapd_timers.specs.declared.timer.Timer.{Timer}
use Rattle.lapd_timers.specs.declared.timer.Timer.TheVariants.{T201}
use Rattle.lapd_frame.specs.declared.Sapi.{Sapi}
use Rattle.lapd_frame.specs.declared.Sapi.TheVariants as sapi
use Rattle.lapd_frame.specs.declared.Side.TheVariants as side
use Rattle.lapd_frame.specs.Frame.{spelling}
use Rattle.lapd_link_definition.specs.Input.{Input}
use Rattle.lapd_tei.specs.declared.assigner.AssignerEvent.{AssignerEvent}
use Rattle.lapd_tei.specs.declared.assigner.AssignerEvent.TheVariants as event
use Rattle.lapd_tei.specs.declared.check.Check.{Check}
use Rattle.lapd_tei.specs.declared.check.Round.{Round}
use Rattle.lapd_tei.specs.declared.check.Round.TheVariants as round
use Rattle.lapd_tei.specs.declared.check.Responses.{Responses}
use Rattle.lapd_tei.specs.declared.check.Responses.TheVariants as responses
use Rattle.lapd_tei.specs.declared.kind.TeiKind.{TeiKind}
use Rattle.lapd_tei.specs.declared.kind.TeiKind.TheVariants as kind
use Rattle.lapd_tei.specs.declared.message.TeiMessage.{TeiMessage}
use Rattle.lapd_tei.specs.declared.out.TeiOut.{TeiOut}
use Rattle.lapd_tei.specs.declared.out.TeiOut.TheVariants as out
use Rattle.lapd_tei.specs.Assigner.{AssignerState, AssignerStep, is_held, stays, serves, least_free, begins_check, counts_response, round_ends, timer_ends, removal, removes_one, assigner_receives, assigner_step}
use Rattle.lapd_tei.proofs.AssignerPreserves.{IsFree, free_from}
use Rattle.lapd_tei.specs.Message.{group_tei, permits, frame_of_message}
use Rattle.lapd_tei.specs.Out.{assigned, denied, check_request, remove, tei_given, tei_freed}
use Rattle.lapd_table.specs.declared.link_id.LinkId.{LinkId}
use Rattle.lapd_table.specs.LinkId.{id_eq}
use Rattle.lapd_sides_links.specs.declared.config.Config.{Config}
use Rattle.lapd_sides_links.specs.Effects.{message_sent, outcome_of}
use Rattle.lapd_sides_links.specs.Links.{is_served, Links, Reaction, in_links, link_acts, link_expires, with_tei, without_tei}
use Rattle.lapd_sides.specs.Management.{links_with, links_without, removal_primitives, manages}
use Rattle.lapd_sides.specs.SideState.{with_links, with_stopped}
use Rattle.lapd_sides.specs.Network as network
use Rattle.lapd_sides.specs.Network.{Network, assigner_acts, group_frame, network_rules, sends_to_all}
use Rattle.lapd_two_side_laws.specs.Addressed.{those_for}
use Rattle.lapd_side_events.specs.Interface.{network_behaviour}
use Rattle.lapd_two_side_laws.specs.Owed.{PassesBy}
use Rattle.lapd_two_side_laws.specs.Premises.{is_assignment, is_removal}
use Rattle.lapd_side_events.specs.SideView.{SideView, SideEvent, reaction}
use Rattle.lapd_two_side_laws.proofs.LinkOps.{ArePlain, IsLinkOp, none_of_both, op_acts, op_expires}
use Rattle.lapd_two_side_laws.proofs.ReportsNoTei.{plain_no_assignment, plain_removals}
use Rattle.lapd_two_side_laws.proofs.Reactions.{AnyInput, AnyRequest, HoldsOfEvents, HoldsOfLinks, Law, each_event, each_request, reacts}
use Rattle.lapd_two_side_laws.proofs.Requests.{network_asked, sent_to_group}
use Rattle.lapd_two_side_laws.proofs.HeldTeis.{GivesFree, gives_free}
use Rattle.lapd_two_side_laws.proofs.LinkParts.{expiry_passes, any_more, absent_acts, spelled_is_for}
use Rattle.lapd_two_side_laws.proofs.Managed.{freed_is_reported}
use Rattle.lapd_bus_laws.specs.Assignments.{Assignment, assignment_in}
pub use Rattle.lapd_bus_laws.specs.Healing.{HasNoManagementLink}
use Rattle.lapd_bus_laws.proofs.Messages.{management_id, others_assign_nothing, assignment_again, links_assign_nothing}
use Rattle.lapd_sides.specs.AllTeis.{check_of_all, holds_any, removal_of_all}

-- ---- A step of the assigner.

abbrev Sent : List TeiOut → List Assignment
Sent outs = filter_map assignment_in (filter_map (message_sent side.Network) outs)

record QuietStep (outs : List TeiOut) : Type 0 where
  pub frames : Sent outs ≡ []
  pub delivered : (t : ℕ) → list_any (is_assignment t) (filter_map outcome_of outs) ≡ false

-- the outputs of an assignment (`serves`)
abbrev assigning : Assignment → List TeiOut
assigning x = out.Send (assigned x.reference x.tei) ∷ out.Given x.tei ∷ []

one_sent : (m : TeiMessage) → assignment_in (spelling side.Network (frame_of_message m)) ≡ None
    → (rest : List TeiOut) → Sent rest ≡ [] → Sent (out.Send m ∷ rest) ≡ []
one_sent m none rest more = ap (λ (o : Option Assignment). cons_option o (Sent rest)) none ∙ more

removing_sends : (tei : ℕ) (rest : List TeiOut) → Sent rest ≡ []
    → Sent (out.Send (remove tei) ∷ out.Send (remove tei) ∷ rest) ≡ []
removing_sends tei rest none =
    let one = others_assign_nothing (remove tei) refl in
    one_sent (remove tei) one (out.Send (remove tei) ∷ rest) (one_sent (remove tei) one rest none)

-- messages to all terminals assign nothing
check_assigns_nothing : (check : Option Check) → Sent (check_of_all check) ≡ []
check_assigns_nothing None = one_sent (check_request group_tei)
    (others_assign_nothing (check_request group_tei) refl) [] refl
check_assigns_nothing (Some check) = refl

removal_assigns_nothing : (held : Bool) → Sent (if held then []
    else out.Send (remove group_tei) ∷ out.Send (remove group_tei) ∷ []) ≡ []
removal_assigns_nothing true = refl
removal_assigns_nothing false = removing_sends group_tei [] refl

-- A step sends no assignment, or one of the least TEI that is not held.
abbrev StepAssigns : AssignerState → AssignerStep → Type 0
StepAssigns was done = QuietStep done.outs ⊎ ((x : Assignment)
    × (done ≡ serves x.reference (Some x.tei) was) × IsFree was.held 64 x.tei)

module _ (was : AssignerState) where
  quiet : (now : AssignerState) → StepAssigns was (record { now = now; outs = [] })
  quiet now = inl (record { frames = refl; delivered = λ t. refl })

  asks : (now : AssignerState) (tei : ℕ) → StepAssigns was
      (record { now = now; outs = out.Send (check_request tei) ∷ out.Start T201 ∷ [] })
  asks now tei = inl (record {
    frames = one_sent (check_request tei) (others_assign_nothing (check_request tei) refl)
        (out.Start T201 ∷ []) refl;
    delivered = λ t. refl;
  })

  either : (test : Bool) (x y : AssignerStep) → StepAssigns was x → StepAssigns was y
      → StepAssigns was (if test then x else y)
  either true x y hx hy = hx
  either false x y hx hy = hy

  beginning : (a : AssignerState) (tei : ℕ) (check : Option Check)
      → StepAssigns was (begins_check tei check a)
  beginning a tei (Some check) = quiet a
  beginning a tei None = either (nat_lt tei group_tei) _ _ (asks _ tei) (quiet a)

  counting : (a : AssignerState) (tei : ℕ) (check : Option Check)
      → StepAssigns was (counts_response tei check a)
  counting a tei None = quiet a
  counting a tei (Some check) = either (tei == check.tei) _ _ (quiet _) (quiet a)

  ending : (a : AssignerState) (tei : ℕ) (nth : Round) (count : Responses)
      → StepAssigns was (round_ends tei nth count a)
  ending a tei round.First responses.Nobody = asks _ tei
  ending a tei round.Second responses.Nobody = inl (record { frames = refl; delivered = λ t. refl })
  ending a tei round.First responses.One = inl (record { frames = refl; delivered = λ t. refl })
  ending a tei round.Second responses.One = inl (record { frames = refl; delivered = λ t. refl })
  ending a tei round.First responses.Several = inl (record
      { frames = removing_sends tei (out.Doubled tei ∷ []) refl; delivered = λ t. refl })
  ending a tei round.Second responses.Several = inl (record
      { frames = removing_sends tei (out.Doubled tei ∷ []) refl; delivered = λ t. refl })

  timing : (a : AssignerState) (check : Option Check) → StepAssigns was (timer_ends check a)
  timing a None = quiet a
  timing a (Some check) = ending a check.tei check.round check.responses

  removed : (now : AssignerState) (tei : ℕ) → StepAssigns was
      (record { now = now; outs = removal tei })
  removed now tei = inl (record {
    frames = removing_sends tei (out.Free tei ∷ []) refl;
    delivered =
        λ t. refl;
  })

  removed_checked : (now : AssignerState) (tei : ℕ) → StepAssigns was
      (record { now = now; outs = out.Stop T201 ∷ removal tei })
  removed_checked now tei = inl (record {
    frames = removing_sends tei (out.Free tei ∷ []) refl;
    delivered = λ t. refl;
  })

  removing_one : (a : AssignerState) (tei : ℕ) (check : Option Check)
      → StepAssigns was (removes_one tei check a)
  removing_one a tei None = removed _ tei
  removing_one a tei (Some check) = either (tei == check.tei) _ _ (removed_checked _ tei)
      (removed _ tei)

serving : (a : AssignerState) (ri : ℕ) (free : Option ℕ) → least_free a.held ≡ free
    → StepAssigns a (serves ri free a)
serving a ri None is = inl (record {
  frames = one_sent (denied ri)
      (others_assign_nothing (denied ri) refl) [] refl;
  delivered = λ t. refl;
})
serving a ri (Some tei) is = inr (
  record { reference = ri; tei = tei },
  refl,
  free_from a.held 64
      (drop 64 a.held) tei refl is,
)

receiving : (a : AssignerState) (k : TeiKind) (ri ai : ℕ)
    → StepAssigns a (assigner_receives k ri ai a)
receiving a kind.Request ri ai = serving a ri (least_free a.held) refl
receiving a kind.CheckResponse ri ai = counting a a ai a.check
receiving a kind.Verify ri ai = beginning a a ai a.check
receiving a kind.Assigned ri ai = quiet a a
receiving a kind.Denied ri ai = quiet a a
receiving a kind.CheckRequest ri ai = quiet a a
receiving a kind.Remove ri ai = quiet a a

step_assigns : (a : AssignerState) (e : AssignerEvent) → StepAssigns a (assigner_step a e)
step_assigns a (event.Heard m) = receiving a m.kind m.ri m.ai
step_assigns a (event.Check tei) = beginning a a tei a.check
step_assigns a (event.Remove tei) = either a (nat_lt tei group_tei) _ _
    (removing_one a a tei a.check) (quiet a a)
step_assigns a event.T201 = timing a a a.check

-- ---- A network side.

-- A TEI that is held stays held, or is reported as freed.
pub record AssignsNothing (s : Network) (a : Reaction Network) : Type 0 where
  pub frames : filter_map assignment_in a.effects.frames ≡ []
  pub delivered : (t : ℕ) → list_any (is_assignment t) a.effects.primitives ≡ false
  pub keeps : (t : ℕ) → is_held s.management.held t ≡ true
      → (list_any (is_removal t) a.effects.primitives ≡ true)
      ⊎ (is_held a.after.management.held t ≡ true)
  pub management : HasNoManagementLink a.after

pub record AssignsOne (config : Config) (s : Network) (a : Reaction Network) : Type 0 where
  pub assignment : Assignment
  pub free : IsFree s.management.held 64 assignment.tei
  pub now_held : is_held a.after.management.held assignment.tei ≡ true
  pub keeps : (t : ℕ) → is_held s.management.held t ≡ true
      → is_held a.after.management.held t ≡ true
  pub frames : (filter_map assignment_in a.effects.frames ≡ [])
      ⊎ (filter_map assignment_in a.effects.frames ≡ assignment ∷ [])
  pub given : list_any (is_assignment assignment.tei) a.effects.primitives ≡ true
  pub only : (t : ℕ) → list_any (is_assignment t) a.effects.primitives ≡ true → assignment.tei ≡ t
  pub links : (k : LinkId) → a.after.served.links k ≡ with_tei config assignment.tei s.served.links
      k
  pub management : HasNoManagementLink a.after

abbrev pub AssignsAtMostOne : Config → Network → Reaction Network → Type 0
AssignsAtMostOne config s a = AssignsNothing s a ⊎ AssignsOne config s a

without_none : (freed : Option ℕ) (links : Links) → links management_id ≡ None
    → links_without freed links management_id ≡ None
unfolding without_tei
without_none None links none = none
without_none (Some t) links none = by_test (127 == t)
  where
    by_test : (test : Bool) → (if test then None else links management_id) ≡ None
    by_test true = refl
    by_test false = none

with_none : (config : Config) (given : Option ℕ) (links : Links) → links management_id ≡ None
    → links_with config given links management_id ≡ None
unfolding with_tei
with_none config None links none = none
with_none config (Some t) links none = none

or_none : (b : Bool) → (b || false) ≡ true → b ≡ true
or_none true h = refl
or_none false h = cc

-- unit data to all terminals is not for TEI management
pub group_is_other : (config : Config) (at : Sapi) (octets : List ℕ) → is_served config at ≡ true
    → those_for side.Network management_id (spelling side.Network (group_frame at octets) ∷ []) ≡ []
group_is_other config at octets served =
    ap (λ (b : Bool). if b then spelling side.Network (group_frame at octets) ∷ [] else [])
    (spelled_is_for side.Network management_id (group_frame at octets) ∙ apart at served)
  where
    apart : (at : Sapi) → is_served config at ≡ true
        → id_eq management_id (record { sapi = at; tei = group_tei }) ≡ false
    apart sapi.Call served = refl
    apart sapi.Packet served = refl
    apart sapi.Management served = cc

module _ (config : Config) (now : ℕ) (s : Network) (none : HasNoManagementLink s) where
  abbrev Outcome : Reaction Network → Type 0
  Outcome a = AssignsAtMostOne config s a

  -- ---- The assigner.

  acts_by : (done : AssignerStep) → StepAssigns s.management done → GivesFree s.management.held done
      → Outcome (network.assigned config now done s)
  unfolding manages with_tei
  acts_by done (inl h) given =
      let removals = removal_primitives (tei_freed done.outs)
      (links_with config (tei_given done.outs) s.served.links) in
      inl (record {
        frames = h.frames;
        delivered =
            λ t.
            none_of_both (is_assignment t) (filter_map outcome_of done.outs) removals
            (h.delivered t)
            (plain_no_assignment t removals (plain_removals (tei_freed done.outs)
            (links_with config (tei_given done.outs) s.served.links)));
        keeps = λ t held. elim (given.stays_held t held) [
          | inl freed ↦ inl (any_more (is_removal t) (filter_map outcome_of done.outs) removals
              (freed_is_reported t done.outs freed))
          | inr stays ↦ inr stays
        ];
        management = without_none (tei_freed done.outs)
            (links_with config (tei_given done.outs) s.served.links)
            (with_none config (tei_given done.outs) s.served.links none);
      })
  acts_by done (inr (x, is, free)) given = subst (λ (d : AssignerStep).
      Outcome (network.assigned config now d s)) (sym is) (inr (record {
        assignment = x;
        free = free;
        now_held = get_or-set_same s.management.held x.tei true false free.within;
        keeps = λ t held. held_too (x.tei == t) t refl held;
        frames = sent_by (permits kind.Assigned x.tei) refl;
        given = same_or x.tei;
        only =
            λ t h.
            (let e : (x.tei == t) ≡ true = or_none (x.tei == t) h in grind (arith, nat_tests, e));
        links = λ k. refl;
        management = none;
      }))
    where
      sent_by : (test : Bool) → permits kind.Assigned x.tei ≡ test → (Sent (assigning x) ≡ [])
          ⊎ (Sent (assigning x) ≡ x ∷ [])
      sent_by true e = inr (ap (λ (o : Option Assignment).
          cons_option o []) (assignment_again x.reference x.tei true e))
      sent_by false e = inl (ap (λ (o : Option Assignment).
          cons_option o []) (assignment_again x.reference x.tei false e))

      same_or : (t : ℕ) → ((t == t) || false) ≡ true
      same_or t = let e : (t == t) ≡ true = grind (arith, nat_tests) in rw e refl

      held_too : (test : Bool) (t : ℕ) → (x.tei == t) ≡ test → is_held s.management.held t ≡ true
          → is_held (set s.management.held x.tei true) t ≡ true
      held_too true t e held = (let same : x.tei ≡ t = grind (arith, nat_tests, e) in
          subst (λ (n : ℕ).
          is_held (set s.management.held x.tei true) n ≡ true) same
          (get_or-set_same s.management.held x.tei true false free.within))
      held_too false t e held = get_or-set_other s.management.held x.tei t true false
          (λ same. (let no : (x.tei == t) ≡ true = grind (arith, nat_tests, same) in cc)) ∙ held

  acts : (e : AssignerEvent) → Outcome (assigner_acts config now e s)
  unfolding assigner_acts
  acts e = acts_by (assigner_step s.management e) (step_assigns s.management e)
      (gives_free s.management e)

  -- ---- Links.

  by_link : (b : Reaction Links)
      → PassesBy side.Network management_id s.served.links b.after b.effects
      → IsLinkOp s.served.links b → Outcome (with_links s b)
  by_link b passes op = inl (record {
    frames = links_assign_nothing b.effects.frames passes.frames;
    delivered = λ t. plain_no_assignment t b.effects.primitives op.plain;
    keeps = λ t held. inr held;
    management = passes.links ∙ none;
  })

  acted : (other : LinkId) (input : Input) (octets : List ℕ) (b : Reaction Links)
      → in_links other (link_acts side.Network other now input octets) s.served.links ≡ Ok b
      → Outcome (with_links s b)
  acted other input octets b done = by_link b
      (absent_acts side.Network management_id other s.served.links now input octets b none done)
      (op_acts side.Network other s.served.links now input octets b done)

  expired : (other : LinkId) (timer : Timer) (b : Reaction Links)
      → in_links other (link_expires side.Network other now timer) s.served.links ≡ Ok b
      → Outcome (with_links s b)
  expired other timer b done = by_link b
      (expiry_passes side.Network management_id other s.served.links now timer b none done)
      (op_expires side.Network other s.served.links now timer b done)

  -- ---- No link and no assigner acts.

  assigns_nothing : (b : Reaction Network) → b.after.served.links ≡ s.served.links
      → b.after.management ≡ s.management → filter_map assignment_in b.effects.frames ≡ []
      → ArePlain b.effects.primitives → Outcome b
  assigns_nothing b links management frames plain = inl (record {
    frames = frames;
    delivered = λ t. plain_no_assignment t b.effects.primitives plain;
    keeps = λ t held. inr (subst (λ (m : AssignerState). is_held m.held t ≡ true) (sym management)
        held);
    management = ap (λ (l : Links). l management_id) links ∙ none;
  })

  to_group : (at : Sapi) (octets : List ℕ) → is_served config at ≡ true
      → Outcome (sent_to_group at octets s)
  to_group at octets served =
      assigns_nothing (sent_to_group at octets s) refl refl
      (links_assign_nothing (spelling side.Network (group_frame at octets) ∷ [])
      (group_is_other config at octets served)) refl

-- ---- Every event.

module _ (config : Config) where
  abbrev Assigning : Law AssignerState
  Assigning s a = HasNoManagementLink s → AssignsAtMostOne config s a

  of_links : (now : ℕ) → HoldsOfLinks network_rules now Assigning AnyInput
  of_links now = record {
    still = λ s none. assigns_nothing config now s none _ refl refl refl refl;
    counts = λ s none. assigns_nothing config now s none _ refl refl refl refl;
    reports = λ at octets s none. assigns_nothing config now s none _ refl refl refl refl;
    steps = λ id input octets s b plain permits done none.
        acted config now s none id input octets b done;
  }

  acting : (now : ℕ) (e : AssignerEvent) (s : Network)
      → Assigning s (assigner_acts config now e s)
  acting now e s none = acts config now s none e

  -- the same, after the timer of the assigner is stopped
  after_stop : (timer : Timer) (s : Network) (a : Reaction Network)
      → AssignsAtMostOne config (with_stopped timer s) a → AssignsAtMostOne config s a
  after_stop timer s a (inl h) = inl (record {
    frames = h.frames;
    delivered = h.delivered;
    keeps = h.keeps;
    management = h.management;
  })
  after_stop timer s a (inr h) = inr (record {
    assignment = h.assignment;
    free = h.free;
    now_held = h.now_held;
    keeps = h.keeps;
    frames = h.frames;
    given = h.given;
    only = h.only;
    links = h.links;
    management = h.management;
  })

  law : (now : ℕ) → HoldsOfEvents network_rules config now Assigning AnyInput AnyRequest
  law now = record {
    links = of_links now;
    expires = λ id timer s b done none. expired config now s none id timer b done;
    by_rules = record {
      hears = λ m. acting now (event.Heard m);
      times_out = λ timer s may none.
          after_stop timer s _ (acting now event.T201 (with_stopped timer s) none);
      requested = λ asked s any.
          network_asked (of_links now) config (λ tei. acting now (event.Check tei))
          (λ tei. acting now (event.Remove tei))
          (λ at octets s served none. to_group config now s none at octets served)
          (λ s none. assigns_nothing config now s none
          (sends_to_all (check_of_all s.management.check) s) refl refl
          (check_assigns_nothing s.management.check) refl)
          (λ s none. assigns_nothing config now s none
          (sends_to_all (removal_of_all s.management.held) s) refl refl
          (removal_assigns_nothing (holds_any s.management.held)) refl) asked s
          (each_request network_rules s.management asked);
    };
  }

  pub event_assigns : (event : SideEvent) (v : SideView Network) → HasNoManagementLink v.now
      → AssignsAtMostOne config v.now (reaction (network_behaviour config) event v)
  event_assigns event v =
      reacts {R = λ now. Assigning} law 0 event v (each_event network_rules event v)
