-- How a step of one link changes the links of a side.
use Rattle.std.proofs.Common.{◌≡◌, ◌≢◌, ◌≤◌, ℕ, List, ◌∷◌, ◌++◌, [], drop, length, map, Bool, true, false, Option, Some, None, Result, Err, option_map, option_copied, Bor, append_assoc, refl, sym, ap, subst, ◌∙◌, arith}
use Rattle.std.specs.Prelude.{IsSomeAnd, IfSome, if◌then◌else◌}
use Rattle.std.proofs.lemmas.List.{append_cancel_left}
use Rattle.std.proofs.lemmas.List.Elements.{All-head, All-tail}
use Rattle.std.specs.List.{All, cons_option, filter_map}
use Rattle.lapd_timers.specs.declared.timer.Timer.{Timer}
use Rattle.lapd_timers.specs.Due.{Timers, deadline_of, with_durations}
use Rattle.lapd_timers.specs.Durations.{Lengths}
use Rattle.lapd_frame.specs.declared.Side.{Side}
use Rattle.lapd_mod128.specs.Counting.{Tagged}
use Rattle.lapd_frame.specs.Frame.{Fields, n201, spelling}
use Rattle.lapd_link.specs.Link.{LinkRepresents, Setup, setup_of, Refuses}
use Rattle.lapd_link.specs.SentFrame.{made_frame, sent_frame, HasFramesOf}
use Rattle.lapd_link.proofs.BetweenSteps.{end_of, shows_end}
use Rattle.lapd_link.proofs.Frames.{frames_of_link}
use Rattle.lapd_link.specs.declared.link.Link.{Link}
use Rattle.lapd_link_definition.specs.declared.event.LinkFault.{LinkFault}
use Rattle.lapd_link_definition.specs.declared.out.Out.{Out}
use Rattle.lapd_link_definition.specs.End.{End, StepState}
use Rattle.lapd_link_definition.specs.Input.{Input, Expiry}
use Rattle.lapd_link_definition.specs.Table.{step}
use Rattle.lapd_table.specs.declared.link_id.LinkId.{LinkId}
use Rattle.lapd_table.specs.LinkId.{id_eq, setup_for}
use Rattle.lapd_table.specs.LinkTable.{link_at, side_of, StepsAt, RefusesAt}
use Rattle.lapd_table.specs.declared.link_table.LinkTable.{LinkTable}
use Rattle.lapd_table.proofs.Ids.{same_id_eq, id_eq_self}
use Rattle.lapd_table.proofs.Tables.{setup_at}
use Rattle.lapd_sides_links.specs.declared.running_timer.RunningTimer.{RunningTimer as Due}
use Rattle.lapd_sides_links.specs.declared.link_set.LinkSet.{LinkSet}
use Rattle.lapd_sides_links.specs.declared.primitive.Primitive.TheVariants.{Of}
use Rattle.lapd_sides_links.specs.declared.primitive.Primitive.{Primitive}
use Rattle.lapd_sides_links.specs.declared.side_fault.SideKind.{SideKind}
use Rattle.lapd_sides_links.specs.declared.side_fault.SideKind.TheVariants as kind
use Rattle.lapd_sides_links.specs.Effects.{Adds, Appends, Effects, and_then, no_effects, effects_of_link, sent_by, what_of, timed, stopped}
use Rattle.lapd_sides_links.specs.Links.{Links, Linked, Reaction, acted, link_acts, link_expires, in_place, where_there, in_links, with_link, linked_with_durations, links_with_durations}
use Rattle.lapd_sides_links.specs.Expiries.{IsFirst, IsPast, Runs, of_links}
use Rattle.lapd_sides_links.specs.Places.{AreStopped}
use Rattle.lapd_sides_links.specs.LinkTimers.{timers_of}
use Rattle.lapd_sides_links.specs.TimersAtPlaces.{of_each_link}
use Rattle.lapd_sides_links.specs.Shown.{timers_at, made_by, IsLinked, LinksDo, ShowLinks, HaveActed}
use Rattle.lapd_sides_links.proofs.DueTimers.{deadline_stays, same_past, same_runs}

-- ---- The link does not exist.

pub nothing_linked : (link : Option Link) (t : Option Timers) (l : Option Linked) → link ≡ None
    → IsLinked link t l → l ≡ None
nothing_linked None t None e h = refl
nothing_linked None t (Some l) e h = absurd h
nothing_linked (Some link) t l e h = absurd (cc)

pub no_link : (side : Side) (s : LinkSet) (links : Links) (id : LinkId)
    (does : Linked → Result (Reaction Linked) LinkFault) → link_at s.table id ≡ None
    → ShowLinks side s links → in_links id does links ≡ Err kind.NoLink
unfolding in_links
no_link side s links id does absent shown =
    ap (λ (l : Option Linked). where_there id links l does)
    (nothing_linked (link_at s.table id) (timers_at s.link_timers id) (links id) absent
    (shown.each id))

-- the step of a link whose timers were changed in this way first
abbrev does_so : Side → LinkId → ℕ → Input → List ℕ → (Timers → Timers) → Linked
    → Result (Reaction Linked) LinkFault
does_so side id now input octets change l =
    acted side id now octets (change l.timers) (step Tagged input l.end)

-- ---- The link refuses.

refused_there : (side : Side) (links : Links) (id : LinkId) (now : ℕ) (input : Input)
    (octets : List ℕ) (change : Timers → Timers) (fault : LinkFault) (link : Option Link)
    (t : Option Timers) (l : Option Linked)
    → IsSomeAnd link (λ k. Refuses k input fault) → IsLinked link t l
    → where_there id links l (does_so side id now input octets change) ≡ Err (kind.Link fault)
refused_there side links id now input octets change fault None t l r h = absurd r
refused_there side links id now input octets change fault (Some link) None None r h = absurd h
refused_there side links id now input octets change fault (Some link) None (Some l) r h = absurd h
refused_there side links id now input octets change fault (Some link) (Some t) None r h = absurd h
refused_there side links id now input octets change fault (Some link) (Some t) (Some l) r h =
    ap (λ (s : Result StepState LinkFault). in_place id links
    (acted side id now octets (change l.timers) s)) (r l.end h.0)

pub refuses : (side : Side) (s : LinkSet) (links : Links) (id : LinkId) (now : ℕ) (input : Input)
    (octets : List ℕ) (fault : LinkFault) → RefusesAt s.table id input fault
    → ShowLinks side s links
    → in_links id (link_acts side id now input octets) links ≡ Err (kind.Link fault)
unfolding in_links link_acts
refuses side s links id now input octets fault r shown =
    refused_there side links id now input octets (λ (t : Timers). t) fault (link_at s.table id)
    (timers_at s.link_timers id) (links id) r (shown.each id)

pub refuses_expiry : (side : Side) (s : LinkSet) (links : Links) (id : LinkId) (now : ℕ)
    (timer : Timer) (fault : LinkFault) → RefusesAt s.table id (Expiry timer) fault
    → ShowLinks side s links
    → in_links id (link_expires side id now timer) links ≡ Err (kind.Link fault)
unfolding in_links link_acts link_expires
refuses_expiry side s links id now timer fault r shown =
    refused_there side links id now (Expiry timer) [] (stopped timer) fault (link_at s.table id)
    (timers_at s.link_timers id) (links id) r (shown.each id)

-- the same, for a link that was found by this id
pub refuses_found : (side : Side) (s : LinkSet) (links : Links) (found id : LinkId) (now : ℕ)
    (input : Input) (octets : List ℕ) (fault : LinkFault) → found ≡ id
    → RefusesAt s.table found input fault → ShowLinks side s links
    → in_links id (link_acts side id now input octets) links ≡ Err (kind.Link fault)
refuses_found side s links found id now input octets fault same r shown =
    refuses side s links id now input octets fault
    (subst (λ (i : LinkId). RefusesAt s.table i input fault) same r) shown

some_is : {A : Type 0} {a b : A} → Some a ≡ Some b → a ≡ b
some_is h = cc

-- ---- The link takes its step.

-- the link of the definition that a link in code and its timers represent
record IsShown (link : Link) (t : Option Timers) (l : Option Linked) : Type 0 where
  linked : Linked
  there : l ≡ Some linked
  represented : LinkRepresents link linked.end
  timers : t ≡ Some linked.timers

shown_linked : (link : Link) (t : Option Timers) (l : Option Linked) → IsLinked (Some link) t l
    → IsShown link t l
shown_linked link None None h = absurd h
shown_linked link None (Some l) h = absurd h
shown_linked link (Some t) None h = absurd h
shown_linked link (Some t) (Some l) h =
    record { linked = l; there = refl; represented = h.0; timers = ap (λ (x : Timers). Some x) h.1 }

true_is_false : true ≡ false → ⊥
true_is_false h = absurd (cc)

-- another link is unchanged
other_linked : (old new : LinkSet) (links : Links) (id other : LinkId) (l : Option Linked)
    (test : Bool) → id_eq other id ≡ test
    → ((test ≡ true) → IsLinked (link_at new.table other) (timers_at new.link_timers other) l)
    → ((other ≢ id) → link_at new.table other ≡ link_at old.table other)
    → ((other ≢ id) → timers_at new.link_timers other ≡ timers_at old.link_timers other)
    → (id_eq id id ≡ true)
    → IsLinked (link_at old.table other) (timers_at old.link_timers other) (links other)
    → IsLinked (link_at new.table other) (timers_at new.link_timers other)
    (if test then l else links other)
other_linked old new links id other l true is own table link_timers reflexive h = own refl
other_linked old new links id other l false is own table link_timers reflexive h =
    let differ : other ≢ id =
    λ same. absurd (true_is_false
    (sym (subst (λ (x : LinkId). id_eq x id ≡ true) (sym same) reflexive) ∙ is)) in
    rw (table differ, link_timers differ) h

pub same_effects : (a : Effects) (frames : List (List ℕ)) (primitives : List Primitive)
    → a.frames ≡ frames → a.primitives ≡ primitives
    → a ≡ record { frames = frames; primitives = primitives }
same_effects a frames primitives f p = rw (sym f, sym p) refl

-- effects are appended in any grouping
pub in_order : (before e f : Effects)
    → and_then (and_then before e) f ≡ and_then before (and_then e f)
in_order before e f = rw (
  append_assoc before.frames e.frames f.frames,
  append_assoc before.primitives e.primitives f.primitives,
) refl

-- the effects before and after determine those that were appended
same_appended : (before a b : Effects) → and_then before a ≡ and_then before b → a ≡ b
same_appended before a b h = same_effects a b.frames b.primitives
    (append_cancel_left before.frames a.frames b.frames (ap (λ (e : Effects). e.frames) h))
    (append_cancel_left before.primitives a.primitives b.primitives
    (ap (λ (e : Effects). e.primitives) h))

-- a step whose effects were appended has these effects alone
pub done_alone : (old new : LinkSet) (before after : Effects)
    (step : Side → Links → Result (Reaction Links) SideKind) → Appends before after
    → LinksDo old new before after step → Adds before after (λ e. LinksDo old new no_effects e step)
done_alone old new before after step appends does = record {
  given = appends.0;
  appended = appends.1;
  does = λ side links shown.
      let h = does side links shown in
      record {
        acted = h.acted;
        is = h.is;
        shown = h.shown;
        given = same_appended before appends.0 h.acted.effects (sym appends.1 ∙ h.given);
      };
}

-- The outputs of a step of a link are appended: the link represents some end after it.
pub appended : (old table : LinkTable) (id : LinkId) (input : Input) (octets : List ℕ)
    (outs : List Out) (before after : Effects) → StepsAt old table id input outs
    → ((link : Link) (e : End) → link_at table id ≡ Some link → LinkRepresents link e
    → after.frames ≡ before.frames
    ++ filter_map (made_by (setup_for (side_of table) id) e octets) outs)
    → after.primitives ≡ before.primitives ++ map (Of id) (filter_map (what_of octets) outs)
    → Appends before after
appended old table id input octets outs before after steps frames primitives =
    let link = steps.after in
    let e = end_of link.machine in
    let given : Effects = record {
      frames = filter_map (made_by (setup_for (side_of table) id) e octets) outs;
      primitives = map (Of id) (filter_map (what_of octets) outs);
    } in (
      given,
      same_effects after (before.frames ++ given.frames) (before.primitives ++ given.primitives)
          (frames link e steps.changes.there (shows_end link.machine link.between)) primitives,
    )

-- the octets that the code makes of the outputs are those that are sent
same_octets : (setup : Setup) (e : End) (octets : List ℕ) (outs : List Out)
    → All (λ output. made_frame setup (drop e.first e.given) octets output ≡ sent_frame setup
    (drop e.first e.given) octets output) outs
    → filter_map (made_by setup e octets) outs ≡ filter_map (sent_by setup e octets) outs
same_octets setup e octets [] h = refl
same_octets setup e octets (output ∷ outs) h =
    let P : Out → Type 0 =
    λ output. made_frame setup (drop e.first e.given) octets output ≡ sent_frame setup
    (drop e.first e.given) octets output in
    ap (λ (f : Option Fields). cons_option (option_map (spelling setup.side) f)
    (filter_map (made_by setup e octets) outs)) (All-head P output outs h)
    ∙ ap (cons_option (sent_by setup e octets output))
    (same_octets setup e octets outs (All-tail P output outs h))

frames_are_sent : (table : LinkTable) (id : LinkId) (link : Link) (e : End) (octets : List ℕ)
    (outs : List Out) → HasFramesOf link outs → link_at table id ≡ Some link → LinkRepresents link e
    → length octets ≤ n201
    → filter_map (made_by (setup_for (side_of table) id) e octets) outs
    ≡ filter_map (sent_by (setup_for (side_of table) id) e octets) outs
frames_are_sent table id link e octets outs has there represented fits =
    subst (λ (setup : Setup). filter_map (made_by setup e octets) outs ≡ filter_map
    (sent_by setup e octets) outs) (setup_at table id link there)
    (same_octets (setup_of link) e octets outs (has e represented octets fits))

-- The rest of a step: the table has taken it, the timers follow, and the effects are appended.
have_done : (side : Side) (old new : LinkSet) (table : LinkTable) (links : Links) (id : LinkId)
    (now : ℕ) (input : Input) (octets : List ℕ) (change : Timers → Timers) (outs : List Out)
    (delivered primitives_after : Effects)
    → StepsAt old.table table id input outs → new.table ≡ table
    → timers_at new.link_timers id
    ≡ option_map (timed now outs) (option_map change (timers_at old.link_timers id))
    → ((other : LinkId) → other ≢ id
    → timers_at new.link_timers other ≡ timers_at old.link_timers other)
    → ((link : Link) (e : End) → link_at table id ≡ Some link → LinkRepresents link e
    → primitives_after.frames ≡ delivered.frames
    ++ filter_map (made_by (setup_for (side_of table) id) e octets) outs)
    → primitives_after.primitives ≡ delivered.primitives
    ++ map (Of id) (filter_map (what_of octets) outs)
    → length octets ≤ n201
    → ShowLinks side old links
    → HaveActed side new delivered primitives_after
    (in_links id (does_so side id now input octets change) links)
unfolding in_links
have_done side old new table links id now input octets change outs delivered primitives_after steps
    same_table own others frames primitives fits shown =
    let x =
    shown_linked steps.before (timers_at old.link_timers id) (links id)
    (subst
    (λ (found : Option Link). IsLinked found (timers_at old.link_timers id) (links id))
    steps.was (shown.each id)) in
    let done = steps.steps x.linked.end x.represented in
    let s = done.0 in
    let is = done.1 in
    let same : s.outs ≡ outs = done.2 in
    let represented = done.3 in
    let l : Linked = record { end = s.end; timers = timed now s.outs (change x.linked.timers) } in
    let set : new.table ≡ table = same_table in
    let there : link_at new.table id ≡ Some steps.after =
    ap (λ (t : LinkTable). link_at t id) set ∙ steps.changes.there in
    let timers : timers_at new.link_timers id ≡ Some l.timers =
    own ∙ ap (λ (t : Option Timers). option_map (timed now outs) (option_map change t)) x.timers
    ∙ ap (λ (o : List Out). Some (timed now o (change x.linked.timers))) (sym same) in
    let of_side : side_of table ≡ side = steps.changes.side ∙ shown.of_side in
    let delivered_frames : primitives_after.frames ≡ delivered.frames ++ filter_map
    (sent_by (setup_for side id) s.end octets) s.outs =
    frames steps.after s.end steps.changes.there represented
    ∙ ap (λ (f : List (List ℕ)). delivered.frames ++ f)
    (frames_are_sent table id steps.after s.end octets outs
    (frames_of_link steps.before steps.after input outs steps.steps) steps.changes.there
    represented fits)
    ∙ ap (λ (k : Side). delivered.frames ++ filter_map (sent_by (setup_for k id) s.end octets) outs)
    of_side
    ∙ ap (λ (o : List Out). delivered.frames ++ filter_map
    (sent_by (setup_for side id) s.end octets) o) (sym same) in
    let most_primitives : primitives_after.primitives ≡ delivered.primitives ++ map (Of id)
    (filter_map (what_of octets) s.outs) =
    primitives
    ∙ ap (λ (o : List Out). delivered.primitives ++ map (Of id) (filter_map (what_of octets) o))
    (sym same) in
    record {
      acted = record {
        after = with_link id (Some l) links;
        effects = effects_of_link side id s.end octets s.outs;
      };
      is =
          ap
          (λ (m : Option Linked). where_there id links m (does_so side id now input octets change))
          x.there
          ∙ ap (λ (r : Result StepState LinkFault). in_place id links
          (acted side id now octets (change x.linked.timers) r)) is;
      shown = record {
        of_side = ap side_of set ∙ of_side;
        each = λ other. other_linked old new links id other (Some l) (id_eq other id) refl
            (λ test. subst (λ (k : LinkId). IsLinked (link_at new.table k)
            (timers_at new.link_timers k) (Some l)) (sym (same_id_eq other id test))
            (subst (λ (f : Option Link). IsLinked f (timers_at new.link_timers id) (Some l))
            (sym there)
            (subst (λ (t : Option Timers). IsLinked (Some steps.after) t (Some l)) (sym timers)
            (represented, refl))))
            (λ differ. ap (λ (t : LinkTable). link_at t other) set ∙ steps.changes.others other
            differ) (others other) (id_eq_self id) (shown.each other);
      };
      given = same_effects primitives_after _ _ delivered_frames most_primitives;
    }

unchanged_timers : (t : Option Timers) → t ≡ option_map (λ (s : Timers). s) t
unchanged_timers None = refl
unchanged_timers (Some t) = refl

pub have_acted : (side : Side) (old new : LinkSet) (table : LinkTable) (links : Links) (id : LinkId)
    (now : ℕ) (input : Input) (octets : List ℕ) (outs : List Out)
    (delivered primitives_after : Effects)
    → StepsAt old.table table id input outs → new.table ≡ table
    → timers_at new.link_timers id ≡ option_map (timed now outs) (timers_at old.link_timers id)
    → ((other : LinkId) → other ≢ id
    → timers_at new.link_timers other ≡ timers_at old.link_timers other)
    → ((link : Link) (e : End) → link_at table id ≡ Some link → LinkRepresents link e
    → primitives_after.frames ≡ delivered.frames
    ++ filter_map (made_by (setup_for (side_of table) id) e octets) outs)
    → primitives_after.primitives ≡ delivered.primitives
    ++ map (Of id) (filter_map (what_of octets) outs)
    → length octets ≤ n201
    → ShowLinks side old links
    → HaveActed side new delivered primitives_after
    (in_links id (link_acts side id now input octets) links)
unfolding link_acts
have_acted side old new table links id now input octets outs delivered primitives_after steps
    same_table own others frames primitives fits shown =
    have_done side old new table links id now input octets (λ (s : Timers). s) outs delivered
    primitives_after steps same_table
    (own ∙ ap (option_map (timed now outs)) (unchanged_timers (timers_at old.link_timers id)))
    others frames primitives fits shown

-- the same after an expiry: the timer has been stopped first
pub have_expired : (side : Side) (old new : LinkSet) (table : LinkTable) (links : Links)
    (id : LinkId) (now : ℕ) (timer : Timer) (middle : Option Timers) (outs : List Out)
    (delivered primitives_after : Effects)
    → StepsAt old.table table id (Expiry timer) outs → new.table ≡ table
    → middle ≡ option_map (stopped timer) (timers_at old.link_timers id)
    → timers_at new.link_timers id ≡ option_map (timed now outs) middle
    → ((other : LinkId) → other ≢ id
    → timers_at new.link_timers other ≡ timers_at old.link_timers other)
    → ((link : Link) (e : End) → link_at table id ≡ Some link → LinkRepresents link e
    → primitives_after.frames ≡ delivered.frames
    ++ filter_map (made_by (setup_for (side_of table) id) e []) outs)
    → primitives_after.primitives ≡ delivered.primitives
    ++ map (Of id) (filter_map (what_of []) outs)
    → ShowLinks side old links
    → HaveActed side new delivered primitives_after
    (in_links id (link_expires side id now timer) links)
unfolding link_acts link_expires
have_expired side old new table links id now timer middle outs delivered primitives_after steps
    same_table stop own others frames primitives shown =
    have_done side old new table links id now (Expiry timer) [] (stopped timer) outs delivered
    primitives_after steps same_table (own ∙ ap (option_map (timed now outs)) stop) others
    frames primitives (omega arith) shown

-- The frames that the code wrote for these outputs are those of the definition, whatever end the
-- found link represents.
pub frames_put : (table : LinkTable) (id : LinkId) (link found : Link) (e : End) (octets : List ℕ)
    (outs lent : List Out) (before put after : List (List ℕ))
    → link_at table id ≡ Some link → link_at table id ≡ Some found
    → setup_of found ≡ setup_for (side_of table) id → LinkRepresents link e
    → ((e : End) → LinkRepresents found e
    → put ≡ before ++ filter_map (made_by (setup_of found) e octets) lent) → lent ≡ outs
    → after ≡ put
    → after ≡ before ++ filter_map (made_by (setup_for (side_of table) id) e octets) outs
frames_put table id link found e octets outs lent before put after there value setup represented
    made same delivered =
    let one : link ≡ found = some_is (sym there ∙ value) in
    delivered ∙ made e (subst (λ (l : Link). LinkRepresents l e) one represented)
    ∙ ap (λ (k : Setup). before ++ filter_map (made_by k e octets) lent) setup
    ∙ ap
    (λ (o : List Out). before ++ filter_map (made_by (setup_for (side_of table) id) e octets) o)
    same

-- a search without a result
pub absent_of : (found : Option (Bor Link)) (link : Option Link) → option_copied found ≡ link
    → found ≡ None → link ≡ None
absent_of None link e h = sym e
absent_of (Some k) link e h = absurd (cc)

-- ---- A link is added or removed.

-- the link with this id is replaced, with its timers, and all others are unchanged
pub put_in_place : (side : Side) (old new : LinkSet) (links : Links) (id : LinkId)
    (l : Option Linked) → side_of new.table ≡ side_of old.table
    → IsLinked (link_at new.table id) (timers_at new.link_timers id) l
    → ((other : LinkId) → other ≢ id → link_at new.table other ≡ link_at old.table other)
    → ((other : LinkId) → other ≢ id
    → timers_at new.link_timers other ≡ timers_at old.link_timers other)
    → ShowLinks side old links → ShowLinks side new (with_link id l links)
put_in_place side old new links id l same own table link_timers shown = record {
  of_side = same ∙ shown.of_side;
  each = λ other. other_linked old new links id other l (id_eq other id) refl
      (λ test. subst
      (λ (k : LinkId). IsLinked (link_at new.table k) (timers_at new.link_timers k) l)
      (sym (same_id_eq other id test)) own)
      (table other) (link_timers other) (id_eq_self id) (shown.each other);
}

-- a new link is the existing one
pub now_linked : (found : Option Link) (t : Option Timers) (link : Link) (l : Linked)
    → found ≡ Some link → t ≡ Some l.timers → LinkRepresents link l.end → IsLinked found t (Some l)
now_linked found t link l f time represented = rw (f, time) (represented, refl)

pub none_linked : (found : Option Link) (t : Option Timers) → found ≡ None → IfSome t AreStopped
    → IsLinked found t None
none_linked found t f rest = rw f rest

-- ---- The timers of the existing links.

-- a running timer in the slot of a link is that link's
runs_linked : (found : Option Link) (t : Option Timers) (l : Option Linked) (its : Timers)
    (timer : Timer) (deadline : ℕ) → IsLinked found t l
    → t ≡ Some its → deadline_of timer its ≡ Some deadline
    → option_map (λ (x : Linked). x.timers) l ≡ Some its
runs_linked None t None its timer deadline h is runs =
    let rest : AreStopped its = subst (λ (x : Option Timers). IfSome x AreStopped) is h in
    let k : None ≡ Some deadline = sym (rest timer) ∙ runs in absurd (cc)
runs_linked None t (Some l) its timer deadline h is runs = absurd h
runs_linked (Some link) None None its timer deadline h is runs = absurd h
runs_linked (Some link) None (Some l) its timer deadline h is runs = absurd h
runs_linked (Some link) (Some t) None its timer deadline h is runs = absurd h
runs_linked (Some link) (Some t) (Some l) its timer deadline h is runs =
    ap (λ (x : Timers). Some x) (sym h.1) ∙ is

placed_linked : (found : Option Link) (t : Option Timers) (l : Option Linked) (its : Timers)
    → IsLinked found t l → option_map (λ (x : Linked). x.timers) l ≡ Some its → t ≡ Some its
placed_linked None t None its h is = absurd (cc)
placed_linked None t (Some l) its h is = absurd h
placed_linked (Some link) None None its h is = absurd h
placed_linked (Some link) None (Some l) its h is = absurd h
placed_linked (Some link) (Some t) None its h is = absurd h
placed_linked (Some link) (Some t) (Some l) its h is = ap (λ (x : Timers). Some x) h.1 ∙ is

runs_in_links : (side : Side) (s : LinkSet) (links : Links) → ShowLinks side s links
    → (of : Option LinkId) (its : Timers) (timer : Timer) (deadline : ℕ)
    → of_each_link (timers_of s.link_timers) of ≡ Some its → deadline_of timer its ≡ Some deadline
    → of_links links of ≡ Some its
runs_in_links side s links shown None its timer deadline is runs = is
runs_in_links side s links shown (Some id) its timer deadline is runs =
    runs_linked (link_at s.table id) (timers_at s.link_timers id) (links id) its timer deadline
    (shown.each id) is runs

runs_in_places : (side : Side) (s : LinkSet) (links : Links) → ShowLinks side s links
    → (of : Option LinkId) (its : Timers)
    → of_links links of ≡ Some its → of_each_link (timers_of s.link_timers) of ≡ Some its
runs_in_places side s links shown None its is = is
runs_in_places side s links shown (Some id) its is =
    placed_linked (link_at s.table id) (timers_at s.link_timers id) (links id) its (shown.each id)
    is

pub first_of_links : (side : Side) (s : LinkSet) (links : Links) (now : ℕ) (first : Option Due)
    → ShowLinks side s links
    → IsFirst (IsPast now (of_each_link (timers_of s.link_timers))) first
    → IsFirst (IsPast now (of_links links)) first
first_of_links side s links now first shown h =
    same_past now (of_each_link (timers_of s.link_timers)) (of_links links) first
    (runs_in_links side s links shown)
    (λ of its timer deadline is runs. runs_in_places side s links shown of its is) h

pub first_of_all_links : (side : Side) (s : LinkSet) (links : Links) (first : Option Due)
    → ShowLinks side s links
    → IsFirst (Runs (of_each_link (timers_of s.link_timers))) first
    → IsFirst (Runs (of_links links)) first
first_of_all_links side s links first shown h =
    same_runs (of_each_link (timers_of s.link_timers)) (of_links links) first
    (runs_in_links side s links shown)
    (λ of its timer deadline is runs. runs_in_places side s links shown of its is) h

-- the timers of an existing link
there_timed : (found : Option Link) (link : Link) (t : Option Timers) (l : Option Linked)
    → found ≡ Some link → IsLinked found t l → t ≡ option_map (λ (x : Linked). x.timers) l
there_timed None link t l is h = absurd (cc)
there_timed (Some k) link None None is h = absurd h
there_timed (Some k) link None (Some l) is h = absurd h
there_timed (Some k) link (Some t) None is h = absurd h
there_timed (Some k) link (Some t) (Some l) is h = ap (λ (x : Timers). Some x) h.1

pub timers_there : (side : Side) (s : LinkSet) (links : Links) (id : LinkId) (link : Link)
    → link_at s.table id ≡ Some link → ShowLinks side s links
    → timers_at s.link_timers id ≡ of_links links (Some id)
timers_there side s links id link is shown =
    there_timed (link_at s.table id) link (timers_at s.link_timers id) (links id) is (shown.each id)

pub no_timers : (side : Side) (s : LinkSet) (links : Links) (id : LinkId)
    → link_at s.table id ≡ None → ShowLinks side s links → None ≡ of_links links (Some id)
no_timers side s links id absent shown =
    ap (λ (l : Option Linked). option_map (λ (x : Linked). x.timers) l)
    (sym (nothing_linked (link_at s.table id) (timers_at s.link_timers id) (links id) absent
    (shown.each id)))

-- ---- The timers get other durations.

with_durations_linked : (durations : Lengths) (link : Option Link) (t : Option Timers)
    (l : Option Linked) → IsLinked link t l
    → IsLinked link (option_map (with_durations durations) t)
    (option_map (linked_with_durations durations) l)
with_durations_linked durations None None None h = tt
with_durations_linked durations None (Some timers) None h =
    λ timer. deadline_stays durations timer timers ∙ h timer
with_durations_linked durations None None (Some l) h = absurd h
with_durations_linked durations None (Some timers) (Some l) h = absurd h
with_durations_linked durations (Some link) None None h = absurd h
with_durations_linked durations (Some link) None (Some l) h = absurd h
with_durations_linked durations (Some link) (Some timers) None h = absurd h
with_durations_linked durations (Some link) (Some timers) (Some l) h =
    (h.0, ap (with_durations durations) h.1)

pub shown_with_durations : (durations : Lengths) (side : Side) (old new : LinkSet) (links : Links)
    → new.table ≡ old.table
    → ((id : LinkId)
    → timers_at new.link_timers id
    ≡ option_map (with_durations durations) (timers_at old.link_timers id))
    → ShowLinks side old links → ShowLinks side new (links_with_durations durations links)
shown_with_durations durations side old new links table have shown = record {
  of_side = ap side_of table ∙ shown.of_side;
  each =
      λ id. rw (table, have id) (with_durations_linked durations (link_at old.table id)
      (timers_at old.link_timers id) (links id) (shown.each id));
}
