-- The deadlines of a link after an event of its side; and the world of two ends after an event that
-- leaves the link alone: the same, or that after one move of the line.
use Rattle.std.proofs.Common.{◌≡◌, ◌⊎◌, inl, inr, ℕ, ◌≤◌, Bool, true, false, List, [], Some, None, Ok, refl, sym, ap, subst, ◌∙◌}
use Rattle.std.specs.Prelude.{is_some}
use Rattle.std.specs.List.{list_any}
use Rattle.lapd_timers.specs.declared.timer.Timer.{Timer}
use Rattle.lapd_timers.specs.declared.timer.Timer.TheVariants.{T200, T201, T202, T203}
use Rattle.lapd_frame.specs.declared.Side.{Side}
use Rattle.lapd_frame.specs.Address.{other_side}
use Rattle.lapd_mod128.specs.Counting.{Tagged}
use Rattle.lapd_link_definition.specs.End.{End}
use Rattle.lapd_link_definition.specs.Input.{Heard, Expiry}
use Rattle.lapd_pair_laws.specs.Move as world
use Rattle.lapd_pair_laws.specs.Move.{View, ViewStep, acts, delivers, receives, stepped, takes, view_after}
use Rattle.lapd_pair_laws.proofs.Consistency.{IsConsistentView}
use Rattle.lapd_recovery_laws.specs.EarlyTimers.{is_of_line}
use Rattle.lapd_recovery_laws.specs.FewLosses.{is_t203}
use Rattle.lapd_recovery_laws.specs.Losses.{is_loss}
use Rattle.lapd_table.specs.declared.link_id.LinkId.{LinkId}
use Rattle.lapd_sides_links.specs.Effects.{stopped, timed}
use Rattle.lapd_sides_links.specs.Links.{IsOfLink, Reaction}
use Rattle.lapd_side_events.specs.SideView.{Behaviour, SideView, runs_on}
use Rattle.lapd_two_side_laws.specs.Addressed.{is_final_for, is_poll_for, those_for}
use Rattle.lapd_two_side_laws.specs.Owed.{IsStep, PassesBy}
use Rattle.lapd_two_side_laws.specs.Primitives.{given_to}
use Rattle.lapd_two_side_laws.specs.Projects.{HasLink, Projects}
use Rattle.lapd_two_side_laws.proofs.Lines.{no_final, no_poll}
use Rattle.lapd_two_side_laws.proofs.SideEvents.{projected_pass, projected_step, runs_by, t200_is_event, t203_is_event, view_after_event}
use Rattle.lapd_two_side_laws.proofs.Timed.{is_on, stopped_agrees, stopped_is_off}
use Rattle.lapd_side_recovery_laws.proofs.Deadlines.{AreSet, IsSet, set_by_step, set_if_unmoved, stopped_set}
use Rattle.lapd_side_recovery_laws.proofs.Fates.{Fate, Receives, is_203}

module _ (S : Type 0) (w : Behaviour S) (side : Side) (id : LinkId) where
  abbrev After : SideView S → Reaction S → List (LinkId × List ℕ) → List (List ℕ) → SideView S
  After v a more line = view_after_event S w side id v a more line

  -- ---- The deadlines.

  module _ (t200 t203 latest at : ℕ) (later : latest ≤ at)
      (fresh_set : AreSet t200 t203 at (w.fresh id).timers) (v : SideView S) (view : View)
      (idle : Bool) (Leaves : Type 0) (a : Reaction S) (more : List (LinkId × List ℕ))
      (line : List (List ℕ)) where
    pub set_after : Fate w side id v view at idle Leaves a more line
        → IsSet t200 t203 latest ((w.served v.now).links id)
        → IsSet t200 t203 at ((w.served a.after).links id)
    set_after (inl f) h = set_if_unmoved t200 t203 side id at (w.served v.now).links
        (w.served a.after).links a.effects latest later (w.fresh id) fresh_set _ f.by h
    set_after (inr (inl f)) h = set_by_step t200 t203 side id at (w.served v.now).links
        (w.served a.after).links a.effects latest later _ _ (λ t. t) (λ t s. s) f.is_step h
    set_after (inr (inr (inl f))) h = set_by_step t200 t203 side id at (w.served v.now).links
        (w.served a.after).links a.effects latest later _ _ (stopped f.timer)
        (λ t s. stopped_set t200 t203 latest f.timer t s) f.is_step h
    set_after (inr (inr (inr f))) h = set_by_step t200 t203 side id at (w.served v.now).links
        (w.served a.after).links a.effects latest later _ _ (λ t. t) (λ t s. s) f.is_step h

  -- ---- No move, or one of the line.

  pub record IsPass (v now : SideView S) (a : Reaction S) (view : View) : Type 0 where
    pub link : (w.served a.after).links id ≡ (w.served v.now).links id
    pub frames : those_for side id a.effects.frames ≡ []
    pub shows : Projects w side id now view

  pub record IsLineMove (idle : Bool) (now : SideView S) (view : View) : Type 0 where
    pub event : world.PairEvent
    pub of_line : is_of_line event ≡ true
    pub no_loss : is_loss event ≡ false
    pub counts : is_t203 event ≡ true → idle ≡ true
    pub side_step : ViewStep
    pub is : acts Tagged side event view ≡ Ok side_step
    pub shows : Projects w side id now side_step.view

  module _ (v : SideView S) (view : View) (at : ℕ) (idle : Bool) (Leaves : Type 0)
      (a : Reaction S) (more : List (LinkId × List ℕ)) (line : List (List ℕ))
      (p : Projects w side id v view) (preserved : IsConsistentView Tagged view)
      (has : HasLink (w.served v.now).links id view.station.end) where
    abbrev Now : SideView S
    Now = After v a more line

    passing : PassesBy side id (w.served v.now).links (w.served a.after).links a.effects
        → given_to id more ≡ []
        → those_for (other_side side) id line ≡ those_for (other_side side) id v.incoming
        → IsPass v Now a view ⊎ IsLineMove idle Now view
    passing passes none same = inl (record {
      link = passes.links;
      frames = passes.frames;
      shows = projected_pass S w side id v view a more line view.incoming p passes none
          (same ∙ p.incoming);
    })

    receiving : Receives w side id v view at idle Leaves a more line
        → IsPass v Now a view ⊎ IsLineMove idle Now view
    unfolding acts delivers receives
    receiving f =
        let frame = f.frame in
        let x =
        projected_step S w side id v view a more line f.behind at
        (Heard frame.control frame.role) frame.info frame.place (λ t. t) p preserved.station
        (w.served v.now).links has f.is_step
        (λ timer t e. absurd (no_expiry timer e)) (λ t a b h. h) f.none_given f.tail in
        let left : View = record view { incoming = f.behind } in
        inr (record {
          event = world.Deliver;
          of_line = refl;
          no_loss = refl;
          counts = λ is. (let no : false ≡ true = is in cc);
          side_step =
              record { view = view_after frame.info frame.place left x.done; outs = x.done.outs };
          is =
              ap (λ frames. delivers Tagged frames view) f.are
              ∙ ap (stepped frame.info frame.place left) x.is;
          shows = x.shows;
        })
      where
        no_expiry : (timer : Timer) → Heard f.frame.control f.frame.role ≡ Expiry timer → ⊥
        no_expiry timer e = cc

    same_timer : (x y : Timer) → Expiry x ≡ Expiry y → x ≡ y
    same_timer x y e = cc

    -- one of the link's timers expires, which is this move
    expires_by : (timer : Timer) (event : world.PairEvent) → is_of_line event ≡ true
        → is_loss event ≡ false → (is_t203 event ≡ true → idle ≡ true)
        → acts Tagged side event view ≡ takes Tagged (Expiry timer) [] view
        → IsStep side id at (Expiry timer) [] (stopped timer) (w.served v.now).links
        (w.served a.after).links a.effects → given_to id more ≡ [] → line ≡ v.incoming
        → IsPass v Now a view ⊎ IsLineMove idle Now view
    unfolding takes
    expires_by timer event of_line no_loss counts is_event step_of none same =
        let x =
        projected_step S w side id v view a more line view.incoming at (Expiry timer) [] 0
        (stopped timer) p preserved.station (w.served v.now).links has step_of
        (λ other t e. subst (λ (k : Timer). is_on k (stopped timer t) ≡ false)
        (same_timer timer other e) (stopped_is_off timer t))
        (λ t x y h. stopped_agrees timer t x y h) none
        (ap (those_for (other_side side) id) same ∙ p.incoming) in
        inr (record {
          event = event;
          of_line = of_line;
          no_loss = no_loss;
          counts = counts;
          side_step = record { view = view_after [] 0 view x.done; outs = x.done.outs };
          is = is_event ∙ ap (stepped [] 0 view) x.is;
          shows = x.shows;
        })

    t200_expires : runs_on T200 ((w.served v.now).links id) ≡ true
        → (list_any (is_poll_for side id) v.outgoing ≡ false)
        × (list_any (is_final_for (other_side side) id) v.incoming ≡ false)
        → IsStep side id at (Expiry T200) [] (stopped T200) (w.served v.now).links
        (w.served a.after).links a.effects → given_to id more ≡ [] → line ≡ v.incoming
        → IsPass v Now a view ⊎ IsLineMove idle Now view
    t200_expires runs clear step_of none same =
        let on : view.station.end.t200 ≡ true =
        sym (ap (λ (e : End). e.t200) has.end) ∙ has.timed.t200 (runs_by S w side id T200 has.linked _ has.there runs) in
        expires_by T200 world.Expire200 refl refl (λ is. (let no : false ≡ true = is in cc))
        (t200_is_event S w side id view on
        (no_poll side id v.outgoing view.outgoing preserved.proceeding p.outgoing clear.0)
        (no_final (other_side side) id v.incoming view.incoming preserved.arriving p.incoming
        clear.1)) step_of none same

    t203_expires : runs_on T203 ((w.served v.now).links id) ≡ true → idle ≡ true
        → IsStep side id at (Expiry T203) [] (stopped T203) (w.served v.now).links
        (w.served a.after).links a.effects → given_to id more ≡ [] → line ≡ v.incoming
        → IsPass v Now a view ⊎ IsLineMove idle Now view
    t203_expires runs counts step_of none same =
        let on : view.station.end.t203 ≡ true =
        sym (ap (λ (e : End). e.t203) has.end) ∙ has.timed.t203 (runs_by S w side id T203 has.linked _ has.there runs) in
        expires_by T203 world.Expire203 refl refl (λ is. counts) (t203_is_event S w side id view on)
        step_of none same

    expiring : (timer : Timer) → IsOfLink timer → (is_203 timer ≡ true → idle ≡ true)
        → runs_on timer ((w.served v.now).links id) ≡ true
        → (timer ≡ T200 → (list_any (is_poll_for side id) v.outgoing ≡ false)
        × (list_any (is_final_for (other_side side) id) v.incoming ≡ false))
        → IsStep side id at (Expiry timer) [] (stopped timer) (w.served v.now).links
        (w.served a.after).links a.effects → given_to id more ≡ [] → line ≡ v.incoming
        → IsPass v Now a view ⊎ IsLineMove idle Now view
    expiring T200 own counts runs clear step_of none same =
        t200_expires runs (clear refl) step_of none same
    expiring T203 own counts runs clear step_of none same =
        t203_expires runs (counts refl) step_of none same
    expiring T201 own counts runs clear step_of none same = absurd own
    expiring T202 own counts runs clear step_of none same = absurd own

    is_there : is_some ((w.served v.now).links id) ≡ true
    is_there = ap is_some has.there

    pub proceeds : Fate w side id v view at idle Leaves a more line → Leaves
        → is_some ((w.served a.after).links id) ≡ true
        → IsPass v Now a view ⊎ IsLineMove idle Now view
    proceeds (inl f) leaves there = elim f.by [
      | inl passes ↦ passing passes f.none_given (f.stays is_there leaves)
      | inr other ↦ elim other [
        | inl added ↦ (let no : Some has.linked ≡ None = sym has.there ∙ added.absent in cc)
        | inr gone ↦ (let no : false ≡ true = sym (ap is_some gone.now_absent) ∙ there in cc)
      ]
    ]
    proceeds (inr (inl f)) leaves there = receiving f
    proceeds (inr (inr (inl f))) leaves there =
        expiring f.timer f.own f.counts f.runs f.clear f.is_step f.none_given f.same
    proceeds (inr (inr (inr f))) leaves there =
        passing (f.alone leaves).0 (f.alone leaves).1
        (ap (those_for (other_side side) id) f.same)
