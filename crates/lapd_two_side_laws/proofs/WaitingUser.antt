-- A user side without a TEI answers a request to establish in time: it obtains a TEI, and the new
-- link answers, or the release is reported after N202 requests for a TEI.
use Rattle.std.proofs.Common.{◌≡◌, ◌⊎◌, inl, inr, ℕ, ◌+◌, ◌-◌, ◌*◌, ◌≤◌, ◌<◌, ◌==◌, Bool, true, false, List, [], ◌∷◌, ◌++◌, Option, Some, None, Result, Ok, Err, refl, sym, ap, subst, ◌∙◌, arith}
use Rattle.std.specs.List.{list_any}
use Rattle.lapd_timers.specs.declared.timer.Timer.TheVariants.{T200, T202}
use Rattle.lapd_timers.specs.Due.{Timers, deadline_of, deadline_from, last_moment, all_stopped}
use Rattle.lapd_timers.specs.Durations.{Lengths}
use Rattle.lapd_frame.specs.declared.Control.TheVariants.{Sabme}
use Rattle.lapd_frame.specs.declared.Role.TheVariants.{Command}
use Rattle.lapd_frame.specs.declared.Sapi.{Sapi}
use Rattle.lapd_frame.specs.declared.Sapi.TheVariants as sapi
use Rattle.lapd_frame.specs.declared.Side.TheVariants as side
use Rattle.lapd_mod128.specs.Counting.{Tagged}
use Rattle.lapd_link_definition.specs.declared.state.State.TheVariants.{AwaitingEstablishment}
use Rattle.lapd_link_definition.specs.declared.out.Out.TheVariants as out
use Rattle.lapd_link_definition.specs.EndOfStep.{send_all, acknowledge_pending, end_step}
use Rattle.lapd_link_definition.specs.End.{End, StepState, begin, new_end}
use Rattle.lapd_link_definition.specs.Input as input
use Rattle.lapd_link_definition.specs.Parameters.{Parameters}
use Rattle.lapd_link_definition.specs.Procedures.{put, state_to, rc_to, layer3_initiated_to, release_pending_to, start, stop, clear_exception_conditions, discard_i_queue, establish_data_link}
use Rattle.lapd_link_definition.specs.Table.{by_state, row, step}
use Rattle.lapd_link_definition.specs.TeiAssigned.{tei_assigned}
use Rattle.lapd_supervision.specs.StateVariables.{initial_variables, without_exceptions}
use Rattle.lapd_table.specs.declared.link_id.LinkId.{LinkId}
use Rattle.lapd_table.specs.LinkId.{id_eq}
use Rattle.lapd_sides_links.specs.declared.config.Config.{Config}
use Rattle.lapd_tei.specs.declared.out.TeiOut.TheVariants as outcome
use Rattle.lapd_tei.specs.declared.phase.Phase.{Phase}
use Rattle.lapd_tei.specs.declared.phase.Phase.TheVariants.{Unassigned, Awaiting, Assigned}
use Rattle.lapd_tei.specs.declared.phase.Purpose.{Purpose}
use Rattle.lapd_tei.specs.Out.{request}
use Rattle.lapd_tei.specs.Terminal.{TerminalStep, moves_to, n202}
use Rattle.lapd_sides_links.specs.declared.primitive.Primitive.{Primitive}
use Rattle.lapd_sides_links.specs.Effects.{stopped}
use Rattle.lapd_sides.specs.Management.{manages}
use Rattle.lapd_sides.specs.SideState.{link_of, among_links, primitive_of_group}
use Rattle.lapd_sides.specs.SideState as sides
use Rattle.lapd_sides.specs.User.{User, PendingEstablishments, nothing_pending, is_pending, drawn, establishes, establishes_pending, primitive_of_sapi, assigned}
use Rattle.lapd_sides_links.specs.declared.primitive.What.TheVariants as what
use Rattle.lapd_sides_links.specs.declared.side_fault.SideKind.{SideKind}
use Rattle.std.proofs.lemmas.Bool.Decides.{nat_tests}
use Rattle.lapd_two_side_laws.proofs.LinkParts.{any_more, any_behind, own_acts, other_acts, now_there}
use Rattle.lapd_two_side_laws.specs.ManagementTimers.{HasTimerOfTerminal}
use Rattle.lapd_sides_links.specs.Links.{Reaction, Linked, Links, of_sapi, is_served, is_link_of, with_tei, in_links, link_acts, parameters_for, new_linked}
use Rattle.lapd_two_side_laws.specs.EndAnswers.{Asked, Establishment, Withdrawal, Clearing, most_expiries}
use Rattle.lapd_two_side_laws.specs.Answers.{answers_for, HasAnswerFor}
use Rattle.lapd_two_side_laws.proofs.AnsweredSides.{Debt, most_left}
use Rattle.lapd_two_side_laws.proofs.EachLink.{after_step}
use Rattle.lapd_two_side_laws.proofs.EndAnswers.{Establishing, IsIn, at_most}

-- ---- The establishment of a new link.

abbrev begun_end : Parameters → End
begun_end p = record (new_end p) {
  state = AwaitingEstablishment;
  window = without_exceptions initial_variables;
  layer3_initiated = true;
  t200 = true;
}

abbrev begun : Parameters → StepState
begun p = record {
  end = begun_end p;
  outs = out.Send Command (Sabme true) ∷ out.Start T200 ∷ [];
}

begins : (p : Parameters) → step Tagged input.Establish (new_end p) ≡ Ok (begun p)
unfolding step row by_state tei_assigned establish_data_link end_step send_all acknowledge_pending
    begin put state_to rc_to layer3_initiated_to release_pending_to start stop
    clear_exception_conditions discard_i_queue
begins p = refl

-- a request to establish, not a release
abbrev pub Establishes : Asked → Type 0
Establishes Clearing = ⊥
Establishes asked = Unit {0}

establishes_fits : (asked : Asked) → Establishes asked → IsIn asked Establishing
establishes_fits Establishment is = tt
establishes_fits Withdrawal is = tt
establishes_fits Clearing is = absurd is

begun_owes : (config : Config) (id : LinkId) (asked : Asked) (clock : Bool)
    (lateness now last : ℕ) → Establishes asked → last ≤ now
    → (clock ≡ true → now ≤ last_moment + lateness)
    → Debt config id asked clock lateness now
    (most_expiries asked (parameters_for config id.sapi).n200) last
    (Some (after_step now (all_stopped config.durations) (begun (parameters_for config id.sapi))))
begun_owes config id asked clock lateness now last is earlier some = record {
  was = Establishing;
  fits = establishes_fits asked is;
  owed = (refl, refl, refl, refl);
  n200_is = refl;
  few = at_most asked (parameters_for config id.sapi).n200 Establishing 0;
  deadline = deadline_from now config.durations.t200;
  runs = refl;
  in_time = λ ticks. record {
    length_is = refl;
    early = let by = some ticks in omega (arith, earlier, by);
    late = omega arith;
    bounded = omega (
      arith,
      most_left asked (parameters_for config id.sapi).n200 Establishing 0
          (config.durations.t200 + lateness),
    );
  };
}

-- ---- While the terminal awaits a TEI.

-- By the clock: T202 ends at most `lateness` after its deadline, and it may run n202 - count times
-- more after that, until `limit`.
pub record IsInTime202 (config : Config) (lateness limit now count deadline : ℕ) : Type 0 where
  pub early : now ≤ deadline + lateness
  pub late : deadline ≤ last_moment
  pub bounded : deadline + lateness + (n202 - count) * (config.durations.t202 + lateness) ≤ limit

-- at most m more expiries of T202; with `clock`, in time
pub record IsWaiting (config : Config) (at : Sapi) (clock : Bool) (lateness limit m now : ℕ)
    (terminal : Phase) (pending : PendingEstablishments) (t : Timers) : Type 0 where
  pub purpose : Purpose
  pub count : ℕ
  pub ri : ℕ
  pub phase : terminal ≡ Awaiting purpose count ri
  pub kept : is_pending at pending ≡ true
  pub served : is_served config at ≡ true
  pub durations : t.durations ≡ config.durations
  pub deadline : ℕ
  pub runs : deadline_of T202 t ≡ Some deadline
  pub few : n202 - count + 1 ≤ m
  pub in_time : clock ≡ true → IsInTime202 config lateness limit now count deadline

-- ---- The kept establishment is released, or executed.

group_answers : (asked : Asked) (at : Sapi) → Establishes asked
    → list_any (answers_for asked at) (primitive_of_group at what.Released) ≡ true
group_answers Establishment sapi.Call is = refl
group_answers Establishment sapi.Packet is = refl
group_answers Establishment sapi.Management is = refl
group_answers Withdrawal sapi.Call is = refl
group_answers Withdrawal sapi.Packet is = refl
group_answers Withdrawal sapi.Management is = refl
group_answers Clearing at is = absurd is

released_for : (asked : Asked) (at : Sapi) (pending : PendingEstablishments) → Establishes asked
    → is_pending at pending ≡ true
    → list_any (answers_for asked at) (primitive_of_sapi pending.call sapi.Call what.Released
    ++ primitive_of_sapi pending.packet sapi.Packet what.Released) ≡ true
released_for asked sapi.Call pending is kept =
    any_more (answers_for asked sapi.Call)
    (primitive_of_sapi pending.call sapi.Call what.Released)
    (primitive_of_sapi pending.packet sapi.Packet what.Released)
    (rw kept (group_answers asked sapi.Call is))
released_for asked sapi.Packet pending is kept =
    any_behind (answers_for asked sapi.Packet)
    (primitive_of_sapi pending.call sapi.Call what.Released)
    (primitive_of_sapi pending.packet sapi.Packet what.Released)
    (rw kept (group_answers asked sapi.Packet is))
released_for asked sapi.Management pending is kept = cc

-- the link after its establishment
abbrev begun_link : Config → LinkId → ℕ → Linked
begun_link config id now =
    after_step now (all_stopped config.durations) (begun (parameters_for config id.sapi))

abbrev fresh : Config → LinkId → Linked
fresh config id = new_linked (parameters_for config id.sapi) config.durations

begun_by : (config : Config) (now : ℕ) (id : LinkId) (s : User)
    → s.served.links id ≡ Some (fresh config id)
    → (establishes true now id s).after.served.links id ≡ Some (begun_link config id now)
unfolding link_of
begun_by config now id s was =
    let p = parameters_for config id.sapi in
    let done = own_acts side.User id s.served.links now input.Establish [] (fresh config id)
    (begun p) was (begins p) in
    ap (λ r. (sides.or_unmoved s (among_links s r)).after.served.links id) done
    ∙ now_there id (begun_link config id now) s.served.links

others_stay : (now : ℕ) (on : Bool) (id other : LinkId) (s : User) → id_eq id other ≡ false
    → (establishes on now other s).after.served.links id ≡ s.served.links id
unfolding link_of
others_stay now false id other s apart = refl
others_stay now true id other s apart =
    by_result (in_links other (link_acts side.User other now input.Establish []) s.served.links)
    refl
  where
    by_result : (r : Result (Reaction Links) SideKind)
        → in_links other (link_acts side.User other now input.Establish []) s.served.links ≡ r
        → (sides.or_unmoved s (among_links s r)).after.served.links id ≡ s.served.links id
    by_result (Ok b) done =
        (other_acts side.User id other s.served.links now input.Establish [] b apart done).links
    by_result (Err kind) err = refl

begun_in : (config : Config) (now own : ℕ) (at : Sapi) (s : User)
    → is_pending at s.management.pending ≡ true
    → s.served.links (of_sapi at own) ≡ Some (fresh config (of_sapi at own))
    → (establishes_pending now own s).after.served.links (of_sapi at own)
    ≡ Some (begun_link config (of_sapi at own) now)
begun_in config now own sapi.Call s kept was =
    let none : User = record s { management = record s.management { pending = nothing_pending } } in
    let id = of_sapi sapi.Call own in
    others_stay now s.management.pending.packet id (of_sapi sapi.Packet own)
    (establishes s.management.pending.call now id none).after refl
    ∙ subst (λ on. (establishes on now id none).after.served.links id
    ≡ Some (begun_link config id now)) (sym kept) (begun_by config now id none was)
begun_in config now own sapi.Packet s kept was =
    let none : User = record s { management = record s.management { pending = nothing_pending } } in
    let id = of_sapi sapi.Packet own in
    let first = (establishes s.management.pending.call now (of_sapi sapi.Call own) none).after in
    let still : first.served.links id ≡ Some (fresh config id) =
    others_stay now s.management.pending.call id (of_sapi sapi.Call own) none refl ∙ was in
    subst (λ on. (establishes on now id first).after.served.links id
    ≡ Some (begun_link config id now)) (sym kept) (begun_by config now id first still)
begun_in config now own sapi.Management s kept was = cc

module _ (config : Config) (id : LinkId) (asked : Asked) (clock : Bool) (lateness limit : ℕ)
  where
    abbrev pub N200 : ℕ
    N200 = (parameters_for config id.sapi).n200

    -- the link of this TEI
    abbrev pub with_tei_of : ℕ → LinkId
    with_tei_of own = of_sapi id.sapi own

    -- the terminal has a TEI, and since then the link owes the answer
    pub record HasBegun (now : ℕ) (links : Links) : Type 0 where
      pub own : ℕ
      pub since : ℕ
      pub in_time : clock ≡ true → since ≤ limit
      pub debt : Debt config (with_tei_of own) asked clock lateness since (most_expiries asked N200)
          now (links (with_tei_of own))

    abbrev pub Waits : ℕ → ℕ → User → Type 0
    Waits m now s = IsWaiting config id.sapi clock lateness limit m now s.management.terminal
        s.management.pending s.served.timers

    abbrev pub Continues : ℕ → ℕ → User → Type 0
    Continues m now s = Waits m now s ⊎ HasBegun now s.served.links

    -- before an event: no link exists, and T202 alone runs
    pub record IsReady (m now : ℕ) (s : User) : Type 0 where
      pub waits : Waits m now s
      pub no_links : (k : LinkId) → s.served.links k ≡ None
      pub timer : HasTimerOfTerminal s

    abbrev pub Answers : List Primitive → Type 0
    Answers primitives = HasAnswerFor asked id.sapi primitives

    module _ (m now : ℕ) where
      abbrev pub GoesWith : ℕ → Reaction User → Type 0
      GoesWith less a = Answers a.effects.primitives ⊎ Continues less now a.after

      abbrev pub Goes : Reaction User → Type 0
      Goes a = GoesWith m a

      abbrev pub Acts : TerminalStep → User → Reaction User
      Acts step s = assigned config now step s

      -- still awaiting the answer to the same request
      pub awaits : (purpose : Purpose) (s : User) (w : Waits m now s)
          → Goes (Acts (moves_to (Awaiting purpose w.count w.ri) []) s)
      unfolding manages
      awaits purpose s w = inr (inl (record {
        purpose = purpose;
        count = w.count;
        ri = w.ri;
        phase = refl;
        kept = w.kept;
        served = w.served;
        durations = w.durations;
        deadline = w.deadline;
        runs = w.runs;
        few = w.few;
        in_time = w.in_time;
      }))

      product_less : (a b len : ℕ) → a + 1 ≤ b → len + a * len ≤ b * len
      product_less a b len h =
          let m : (a + 1) * len ≤ b * len = grind (arith, h) in grind (arith, m)

      -- T202 has expired, and the TEI is requested again
      pub again : (new : ℕ) (s : User) (w : Waits m now s) → w.count < n202
          → GoesWith (m - 1) (Acts (moves_to (Awaiting w.purpose (w.count + 1) new)
          (outcome.Send (request new) ∷ outcome.Start T202 ∷ []))
          (record s {
            served = record { links = s.served.links; timers = stopped T202 s.served.timers };
          }))
      unfolding manages
      again new s w more =
          let is : s.served.timers.durations.t202 ≡ config.durations.t202 =
          ap (λ (d : Lengths). d.t202) w.durations in
          let less = product_less (n202 - (w.count + 1)) (n202 - w.count)
          (config.durations.t202 + lateness) (omega (arith, more)) in
          inr (inl (record {
            purpose = w.purpose;
            count = w.count + 1;
            ri = new;
            phase = refl;
            kept = w.kept;
            served = w.served;
            durations = w.durations;
            deadline = deadline_from now s.served.timers.durations.t202;
            runs = refl;
            few = omega (arith, w.few, more);
            in_time = λ ticks.
                let t = w.in_time ticks in
                record {
                  early = omega (arith, t.early, t.late);
                  late = omega arith;
                  bounded = omega (arith, t.bounded, t.early, less, is);
                };
          }))

      -- no TEI was obtained
      pub fails : (s : User) → Establishes asked → is_pending id.sapi s.management.pending ≡ true
          → GoesWith (m - 1) (Acts (moves_to Unassigned (outcome.Failed ∷ [])) s)
      unfolding manages
      fails s is kept = inl (released_for asked id.sapi s.management.pending is kept)

      joins : (own : ℕ) (links : Links) → is_served config id.sapi ≡ true
          → links (with_tei_of own) ≡ None
          → with_tei config own links (with_tei_of own) ≡ Some (fresh config (with_tei_of own))
      unfolding with_tei
      joins own links served none =
          let itself : (own == own) ≡ true = grind (arith, nat_tests) in
          let is : is_link_of config own (with_tei_of own) ≡ true = rw (served, itself) refl in
          rw (is, none) refl

      -- the TEI is obtained
      pub obtains : (own : ℕ) (by : Option ℕ) (s : User) → Establishes asked → Waits m now s
          → ((k : LinkId) → s.served.links k ≡ None)
          → Goes (Acts (moves_to (Assigned by own) (outcome.Stop T202 ∷ outcome.Got own ∷ [])) s)
      unfolding manages
      obtains own by s is w none =
          let step = moves_to (Assigned by own) (outcome.Stop T202 ∷ outcome.Got own ∷ []) in
          let middle : User = record s {
            served = (manages side.User config now step.outs s.served).after;
            management = record s.management {
              terminal = step.now;
              random = drawn step.outs s.management.random;
            };
          } in
          let new = joins own s.served.links w.served (none (with_tei_of own)) in
          let now_begun = begun_in config now own id.sapi middle w.kept new in
          let moment : clock ≡ true → now ≤ last_moment + lateness = λ ticks.
          let t = w.in_time ticks in omega (arith, t.early, t.late) in
          inr (inr (record {
            own = own;
            since = now;
            in_time = λ ticks. let t = w.in_time ticks in omega (arith, t.early, t.bounded);
            debt = subst (Debt config (with_tei_of own) asked clock lateness now
                (most_expiries asked N200) now)
                (sym now_begun) (begun_owes config (with_tei_of own) asked clock lateness now now is
                (omega arith) moment);
          }))
