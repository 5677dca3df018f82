-- In the world of two ends, an event of a side is nothing or one move to each of its links.
use Rattle.std.proofs.Common.{◌≡◌, ◌⊎◌, inl, inr, ℕ, ◌<◌, nat_lt, List, ◌∷◌, ◌++◌, drop, length, Bool, true, false, if◌then◌else◌, Option, Some, None, Result, Ok, Err, refl, sym, ap, subst, ◌∙◌, arith, []}
use Rattle.std.specs.Prelude.{is_some}
use Rattle.std.specs.List.{filter_map, remove, list_any}
use Rattle.std.proofs.lemmas.List.Elements.{filter-append, filter_map-append}
use Rattle.std.proofs.lemmas.Bool.{lt-ltb}
use Rattle.std.proofs.lemmas.List.{append-nil, length-map}
use Rattle.lapd_timers.specs.declared.timer.Timer.{Timer}
use Rattle.lapd_timers.specs.declared.timer.Timer.TheVariants.{T200, T201, T202, T203}
use Rattle.lapd_timers.specs.Due.{Timers, deadline_of}
use Rattle.lapd_frame.specs.declared.Side.{Side}
use Rattle.lapd_frame.specs.Address.{other_side}
use Rattle.lapd_mod128.specs.Counting.{Tagged}
use Rattle.lapd_link_definition.specs.Counts.{messages_of}
use Rattle.lapd_link_definition.specs.End.{End, StepState}
use Rattle.lapd_link_definition.specs.Input as input
use Rattle.lapd_link_definition.specs.Input.{Input, Heard, Expiry}
use Rattle.lapd_link_definition.specs.Table.{step}
use Rattle.lapd_link_definition.proofs.InputsThatCount.{given_after}
use Rattle.lapd_pair_laws.specs.Histories.{Occasion, Story, with_beginning}
use Rattle.lapd_pair_laws.specs.Consistent.{IsConsistent, AreProper}
use Rattle.lapd_pair_laws.specs.Line.{Flight, first_poll, first_final}
use Rattle.lapd_pair_laws.specs.Move as world
use Rattle.lapd_pair_laws.specs.Move.{View, ViewStep, story_after, view_after, stepped, quietly, receives, takes, delivers, loses, unless_under_way, expires_200, expires_203, acts}
use Rattle.lapd_pair_laws.proofs.Consistency.{IsConsistentView, outputs_in_order}
use Rattle.lapd_table.specs.declared.link_id.LinkId.{LinkId}
use Rattle.lapd_table.specs.LinkId.{id_eq}
use Rattle.lapd_table.proofs.Ids.{same_id_eq}
use Rattle.lapd_sides_links.specs.declared.primitive.Primitive.{Primitive}
use Rattle.lapd_sides_links.specs.declared.side_fault.SideKind.{SideKind}
use Rattle.lapd_sides_links.specs.Effects.{what_of, stopped, timed}
use Rattle.lapd_sides_links.specs.Links.{Links, Linked, Reaction, with_link}
use Rattle.lapd_sides.specs.declared.request.Request.{Request}
use Rattle.lapd_sides.specs.declared.request.Request.TheVariants as request
use Rattle.lapd_two_side_laws.specs.Establishments.{establishments_of, number_each}
use Rattle.lapd_two_side_laws.specs.Addressed.{is_for, those_for, spelled, all_spelled}
use Rattle.lapd_two_side_laws.specs.Primitives.{nothing_known, learns_all, what_for, link_primitives, message_for, given_to, known_of, AreExpectedOfLink}
use Rattle.lapd_two_side_laws.specs.Premises.{is_removal, IsTimely, IsGivenOnce, GivesTeiOnce}
use Rattle.lapd_side_events.specs.SideView.{Behaviour, SideEvent, Take, Lose, Expire, Ask, Overhear, SideView, unmoved, takes_first, runs_on, or_unmoved, if_granted, accepted_by, reaction, does}
use Rattle.lapd_two_side_laws.specs.Projects.{IsTimed, HasLink, ShowsEnd, Projects}
use Rattle.lapd_two_side_laws.proofs.Frames.{delivered_frames, delivered_is_known}
use Rattle.lapd_two_side_laws.specs.Owed.{PassesBy, IsStep, IsRemoval, IsUnmovedBy, IsRequest, ServesLink}
use Rattle.lapd_two_side_laws.proofs.LinkParts.{now_there, passes_by_nothing, any_more, any_behind, learns_both, expected_both}
use Rattle.lapd_two_side_laws.proofs.Lines.{where_lost, removed_spelled, IsFirst, first_of, no_poll, no_final}
use Rattle.lapd_two_side_laws.proofs.Recorded.{numbers_of, step_numbers, AreKeptOrSent, kept_or_sent}
use Rattle.lapd_two_side_laws.proofs.Sendings.{step_sends}
use Rattle.lapd_two_side_laws.proofs.Timed.{Agree, is_on, timed_by_step, link_timed, timed_link, stopped_is_off, stopped_agrees}
use Rattle.lapd_two_side_laws.proofs.EventFacts.{same_linked, received_is_done, expiry_is_done}

module _ (S : Type 0) (w : Behaviour S) (side : Side) (id : LinkId) where
  abbrev pub Serves : Type 0
  Serves = (removed : Bool) → ServesLink w side id removed

  -- the TEI was removed before
  abbrev was_removed : SideView S → Bool
  was_removed v = list_any (is_removal id.tei) v.delivered

  abbrev Once : SideView S → Reaction S → Type 0
  Once v a = IsGivenOnce id (w.served v.now).links (was_removed v) a.effects

  -- a side's view after an event
  abbrev pub view_after_event : SideView S → Reaction S → List (LinkId × List ℕ) → List (List ℕ)
      → SideView S
  view_after_event v a more line = record {
    now = a.after;
    delivered = v.delivered ++ a.effects.primitives;
    given = v.given ++ more;
    incoming = line;
    outgoing = v.outgoing ++ a.effects.frames;
  }

  -- ---- No move.

  still_delivered : (v : SideView S) (a : Reaction S) (before : Links)
      → PassesBy side id before (w.served a.after).links a.effects
      → link_primitives id (v.delivered ++ a.effects.primitives) ≡ link_primitives id v.delivered
  still_delivered v a before passes =
      filter_map-append (what_for id) v.delivered a.effects.primitives
      ∙ rw (passes.delivered) (append-nil (link_primitives id v.delivered))

  still_sent : (v : SideView S) (a : Reaction S) (before : Links)
      → PassesBy side id before (w.served a.after).links a.effects
      → those_for side id (v.outgoing ++ a.effects.frames) ≡ those_for side id v.outgoing
  still_sent v a before passes =
      filter-append (is_for side id) v.outgoing a.effects.frames
      ∙ rw (passes.frames) (append-nil (those_for side id v.outgoing))

  still_given : (v : SideView S) (more : List (LinkId × List ℕ)) → given_to id more ≡ []
      → given_to id (v.given ++ more) ≡ given_to id v.given
  still_given v more none =
      filter_map-append (message_for id) v.given more ∙ rw none (append-nil (given_to id v.given))

  link_stays : (before now : Links) (delivered more : List Primitive) (e : End) → now id ≡ before id
      → ShowsEnd (w.fresh id) before id delivered e
      → ShowsEnd (w.fresh id) now id (delivered ++ more) e
  link_stays before now delivered more e same (inl h) =
      inl (record { linked = h.linked; there = same ∙ h.there; end = h.end; timed = h.timed })
  link_stays before now delivered more e same (inr (inl h)) =
      inr (inl (record { absent = same ∙ h.absent; end = h.end }))
  link_stays before now delivered more e same (inr (inr h)) =
      inr (inr (record {
        absent = same ∙ h.absent;
        removed = any_more (is_removal id.tei) delivered more h.removed;
      }))

  pub projected_pass : (v : SideView S) (view : View) (a : Reaction S)
      (more : List (LinkId × List ℕ)) (line : List (List ℕ)) (frames : List Flight)
      → Projects w side id v view
      → PassesBy side id (w.served v.now).links (w.served a.after).links a.effects
      → given_to id more ≡ []
      → those_for (other_side side) id line ≡ all_spelled (other_side side) id frames
      → Projects w side id (view_after_event v a more line) (record view { incoming = frames })
  projected_pass v view a more line frames p passes none on = record {
    link = link_stays (w.served v.now).links (w.served a.after).links v.delivered
        a.effects.primitives view.station.end passes.links p.link;
    incoming = on;
    outgoing = still_sent v a _ passes ∙ p.outgoing;
    known = ap (λ ws. learns_all ws nothing_known) (still_delivered v a _ passes) ∙ p.known;
    given = still_given v more none ∙ p.given;
  }

  -- ---- A step.

  pub record IsProjected (before v : SideView S) (view : View) (input : Input) (octets : List ℕ)
      (place : ℕ) : Type 0 where
    pub done : StepState
    pub is : step Tagged input view.station.end ≡ Ok done
    pub shows : Projects w side id v (view_after octets place view done)
    pub reporting : link_primitives id v.delivered ≡ link_primitives id before.delivered
        ++ filter_map (what_of octets) done.outs
    pub numbers : numbers_of (view_after octets place view done).station.history.received
        ≡ numbers_of view.station.history.received
        ++ number_each (establishments_of ((w.served v.now).links id))
        (filter_map (what_of octets) done.outs)
    pub sends : AreKeptOrSent ((w.served v.now).links id) view.station.history.sent_in
        (view_after octets place view done).station.history.sent_in

  pub projected_step : (v : SideView S) (view : View) (a : Reaction S)
      (more : List (LinkId × List ℕ)) (line : List (List ℕ)) (frames : List Flight) (now : ℕ)
      (input : Input) (octets : List ℕ) (place : ℕ) (change : Timers → Timers)
      → Projects w side id v view → IsConsistent Tagged view.station → (links : Links)
      → HasLink links id view.station.end
      → IsStep side id now input octets change links (w.served a.after).links a.effects
      → ((timer : Timer) (t : Timers) → input ≡ Expiry timer → is_on timer (change t) ≡ false)
      → ((t : Timers) (x y : Bool) → Agree t x y → Agree (change t) x y)
      → given_to id more ≡ messages_of input
      → those_for (other_side side) id line ≡ all_spelled (other_side side) id frames
      → IsProjected v (view_after_event v a more line) (record view { incoming = frames }) input
      octets place
  unfolding view_after story_after
  projected_step v view a more line frames now input octets place change p preserved links has x off
      agrees given_is on =
      let same : x.linked ≡ has.linked = same_linked x.linked has.linked _ x.was has.there in
      let end : x.linked.end ≡ view.station.end = ap (λ (l : Linked). l.end) same ∙ has.end in
      let d = x.done in
      let is : step Tagged input view.station.end ≡ Ok d =
      subst (λ (e : End). step Tagged input e ≡ Ok d) end x.is in
      let before : Story =
      record {
        line = view.outgoing;
        history =
            with_beginning view.station.end.establishments d.end.establishments
            view.station.history;
      } in
      let o : Occasion =
      record {
        given = d.end.given;
        establishment = d.end.establishments;
        octets = octets;
        place = place;
      } in
      let reporting : link_primitives id (v.delivered ++ a.effects.primitives) ≡ link_primitives id
      v.delivered ++ filter_map (what_of octets) d.outs =
      filter_map-append (what_for id) v.delivered a.effects.primitives
      ∙ ap (λ ws. link_primitives id v.delivered ++ ws) x.delivered in
      let order = outputs_in_order Tagged input view.station d preserved is in
      record {
        done = d;
        is = is;
        reporting = reporting;
        numbers = step_numbers octets place (record view { incoming = frames }) d
            ∙ ap (λ n. numbers_of view.station.history.received ++ number_each n
            (filter_map (what_of octets) d.outs)) (sym (ap establishments_of x.links));
        sends =
            kept_or_sent ((w.served a.after).links id) d.end view.station.history.sent_in _
            (record { end = d.end; timers = timed now d.outs (change x.linked.timers) }) x.links
            refl
            (step_sends Tagged input octets place (record view { incoming = frames }) d
            preserved is);
        shows = record {
          link = inl (record {
            linked = record { end = d.end; timers = timed now d.outs (change x.linked.timers) };
            there = x.links;
            end = refl;
            timed = timed_link d.end (timed now d.outs (change x.linked.timers))
                (timed_by_step Tagged now input (change x.linked.timers) x.linked.end d
                (λ timer e. off timer x.linked.timers e)
                (agrees x.linked.timers x.linked.end.t200 x.linked.end.t203
                (link_timed x.linked (subst IsTimed (sym same) has.timed))) x.is);
          });
          incoming = on;
          outgoing = filter-append (is_for side id) v.outgoing a.effects.frames
              ∙ ap (λ l. l ++ those_for side id a.effects.frames) p.outgoing
              ∙ ap (λ l. all_spelled side id view.outgoing ++ l) x.frames
              ∙ sym (delivered_frames side id d.end o refl d.outs before order);
          known = ap (λ ws. learns_all ws nothing_known) reporting
              ∙ learns_both (link_primitives id v.delivered) (filter_map (what_of octets) d.outs)
              nothing_known
              ∙ delivered_is_known o d.outs before (known_of id v.delivered) p.known;
          given =
              filter_map-append (message_for id) v.given more
              ∙ ap (λ l. l ++ given_to id more) p.given
              ∙ ap (λ l. view.station.end.given ++ l) given_is
              ∙ sym (given_after Tagged input view.station.end d is);
        };
      }

  -- ---- No move, or one.

  pub record IsMove (before v : SideView S) (view : View) : Type 0 where
    pub event : world.PairEvent
    pub side_step : ViewStep
    pub is : acts Tagged side event view ≡ Ok side_step
    pub shows : Projects w side id v side_step.view
    pub octets : List ℕ
    pub reporting : link_primitives id v.delivered ≡ link_primitives id before.delivered
        ++ filter_map (what_of octets) side_step.outs
    pub numbers : numbers_of side_step.view.station.history.received
        ≡ numbers_of view.station.history.received
        ++ number_each (establishments_of ((w.served v.now).links id))
        (filter_map (what_of octets) side_step.outs)
    pub sends : AreKeptOrSent ((w.served v.now).links id) view.station.history.sent_in
        side_step.view.station.history.sent_in

  pub record IsNothing (before v : SideView S) (view : View) : Type 0 where
    pub shows : Projects w side id v view
    pub expected : AreExpectedOfLink (link_primitives id before.delivered)
        → AreExpectedOfLink (link_primitives id v.delivered)

  abbrev pub Outcome : SideView S → SideView S → View → Type 0
  Outcome before v view = IsNothing before v view ⊎ IsMove before v view

  -- an event that is no move, and leaves the link's octets in transit to the side unchanged
  passing : (v : SideView S) (view : View) (a : Reaction S) (more : List (LinkId × List ℕ))
      (line : List (List ℕ)) → Projects w side id v view
      → PassesBy side id (w.served v.now).links (w.served a.after).links a.effects
      → given_to id more ≡ []
      → those_for (other_side side) id line ≡ those_for (other_side side) id v.incoming
      → Outcome v (view_after_event v a more line) view
  passing v view a more line p passes none same = inl (record {
    shows = projected_pass v view a more line view.incoming p passes none (same ∙ p.incoming);
    expected = subst AreExpectedOfLink (sym (still_delivered v a _ passes));
  })

  no_effect : (v : SideView S)
      → PassesBy side id (w.served v.now).links (w.served (unmoved v.now).after).links
      (unmoved v.now).effects
  no_effect v = passes_by_nothing side id (w.served v.now).links

  -- ---- The link joins.

  has_been_added : Serves → (v : SideView S) (e : End) → (w.served v.now).links id ≡ None
      → was_removed v ≡ false → ShowsEnd (w.fresh id) (w.served v.now).links id v.delivered e
      → HasLink (with_link id (Some (w.fresh id)) (w.served v.now).links) id e
  has_been_added serves v e none not_removed (inl h) = let there = h.there in cc
  has_been_added serves v e none not_removed (inr (inl h)) = record {
    linked = w.fresh id;
    there = now_there id (w.fresh id) (w.served v.now).links;
    end = sym h.end;
    timed = (serves (was_removed v)).fresh_is_timed;
  }
  has_been_added serves v e none not_removed (inr (inr h)) = let removed = h.removed in cc

  -- the link joins, and nothing else happens to it
  is_added_alone : (v : SideView S) (view : View) (a : Reaction S) (more : List (LinkId × List ℕ))
      (line : List (List ℕ)) (come : Links) → Projects w side id v view
      → HasLink come id view.station.end
      → PassesBy side id come (w.served a.after).links a.effects → given_to id more ≡ []
      → those_for (other_side side) id line ≡ those_for (other_side side) id v.incoming
      → Outcome v (view_after_event v a more line) view
  is_added_alone v view a more line come p has passes none same = inl (record {
    shows = record {
      link =
          inl (record {
            linked = has.linked;
            there = passes.links ∙ has.there;
            end = has.end;
            timed = has.timed;
          });
      incoming = same ∙ p.incoming;
      outgoing = still_sent v a come passes ∙ p.outgoing;
      known = ap (λ ws. learns_all ws nothing_known) (still_delivered v a come passes) ∙ p.known;
      given = still_given v more none ∙ p.given;
    };
    expected = subst AreExpectedOfLink (sym (still_delivered v a come passes));
  })

  -- the link joins, and the establishment that was kept for it is done
  is_added_and_establishes : (v : SideView S) (view : View) (a : Reaction S)
      (more : List (LinkId × List ℕ)) (line : List (List ℕ)) (now : ℕ) (come : Links)
      → Projects w side id v view → IsConsistent Tagged view.station
      → HasLink come id view.station.end
      → IsStep side id now input.Establish [] (λ t. t) come (w.served a.after).links a.effects
      → given_to id more ≡ []
      → those_for (other_side side) id line ≡ those_for (other_side side) id v.incoming
      → Outcome v (view_after_event v a more line) view
  unfolding acts takes
  is_added_and_establishes v view a more line now come p preserved has does none same =
      let x =
      projected_step v view a more line view.incoming now input.Establish [] 0 (λ t. t) p
      preserved come has does (λ timer t e. absurd (no_expiry timer e)) (λ t y z h. h) none
      (same ∙ p.incoming) in
      inr (record {
        event = world.Establish;
        side_step = record { view = view_after [] 0 view x.done; outs = x.done.outs };
        octets = [];
        reporting = x.reporting;
        numbers = x.numbers;
        sends = x.sends;
        is = ap (stepped [] 0 view) x.is;
        shows = x.shows;
      })
    where
      no_expiry : (timer : Timer) → input.Establish ≡ Expiry timer → ⊥
      no_expiry timer e = cc

  -- ---- The link is removed.

  is_removed : (v : SideView S) (view : View) (a : Reaction S) (more : List (LinkId × List ℕ))
      (line : List (List ℕ)) → Projects w side id v view
      → IsRemoval side id (w.served a.after).links a.effects → given_to id more ≡ []
      → those_for (other_side side) id line ≡ those_for (other_side side) id v.incoming
      → Outcome v (view_after_event v a more line) view
  is_removed v view a more line p proceeds none same =
      let delivered : link_primitives id (v.delivered ++ a.effects.primitives) ≡ link_primitives id
      v.delivered ++ link_primitives id a.effects.primitives =
      filter_map-append (what_for id) v.delivered a.effects.primitives in
      let sent : those_for side id (v.outgoing ++ a.effects.frames) ≡ those_for side id v.outgoing =
      filter-append (is_for side id) v.outgoing a.effects.frames
      ∙ rw (proceeds.frames) (append-nil (those_for side id v.outgoing)) in
      inl (record {
        shows = record {
          link =
              inr (inr (record {
                absent = proceeds.now_absent;
                removed =
                    any_behind (is_removal id.tei) v.delivered a.effects.primitives
                    proceeds.reporting;
              }));
          incoming = same ∙ p.incoming;
          outgoing = sent ∙ p.outgoing;
          known =
              ap (λ ws. learns_all ws nothing_known) delivered
              ∙ learns_both (link_primitives id v.delivered)
              (link_primitives id a.effects.primitives) nothing_known
              ∙ proceeds.delivered.teaches (known_of id v.delivered) ∙ p.known;
          given = still_given v more none ∙ p.given;
        };
        expected =
            λ h. subst AreExpectedOfLink (sym delivered)
            (expected_both (link_primitives id v.delivered)
            (link_primitives id a.effects.primitives) h proceeds.delivered.expected);
      })

  -- ---- An event that is no step of an existing link.

  proceeding : Serves
      → (v : SideView S) (view : View) (a : Reaction S) (more : List (LinkId × List ℕ))
      (line : List (List ℕ)) (now : ℕ) → Projects w side id v view
      → IsConsistent Tagged view.station
      → IsUnmovedBy side id now (w.fresh id) (was_removed v) (w.served v.now).links
      (w.served a.after).links a.effects → given_to id more ≡ []
      → those_for (other_side side) id line ≡ those_for (other_side side) id v.incoming
      → Outcome v (view_after_event v a more line) view
  proceeding serves v view a more line now p preserved (inl passes) none same =
      passing v view a more line p passes none same
  proceeding serves v view a more line now p preserved (inr (inl arrives)) none same =
      let come : Links = with_link id (Some (w.fresh id)) (w.served v.now).links in
      let has =
      has_been_added serves v view.station.end arrives.absent arrives.not_removed p.link in
      elim arrives.arrives [
        | inl alone ↦ is_added_alone v view a more line come p has alone none same
        | inr does ↦ is_added_and_establishes v view a more line now come p preserved has does none
            same
      ]
  proceeding serves v view a more line now p preserved (inr (inr proceeds)) none same =
      is_removed v view a more line p proceeds none same

  -- ---- Octets are taken.

  -- the link's own octets
  takes_its : Serves
      → (v : SideView S) (view : View) (now : ℕ) (octets : List ℕ) (rest : List (List ℕ))
      → Projects w side id v view → IsConsistentView Tagged view
      → HasLink (w.served v.now).links id view.station.end
      → IsFirst (other_side side) id octets (those_for (other_side side) id rest) view.incoming
      → Outcome v (view_after_event v (w.takes octets now v.now) [] rest) view
  unfolding acts delivers receives
  takes_its ways v view now octets rest p preserved has first =
      let frame = first.frame in
      let behind = first.behind in
      let proper : AreProper (frame ∷ behind) = subst AreProper first.are preserved.arriving in
      let spelled_so : spelled (other_side side) id frame ≡ octets = sym first.head in
      let done = received_is_done frame has.linked.end in
      let its =
      (ways (was_removed v)).takes_own frame now v.now has.linked _ proper.0 has.there
      done in
      let step_of : IsStep side id now (Heard frame.control frame.role) frame.info (λ t. t)
      (w.served v.now).links (w.served (w.takes octets now v.now).after).links
      (w.takes octets now v.now).effects =
      subst (λ (o : List ℕ). IsStep side id now (Heard frame.control frame.role) frame.info (λ t. t)
      (w.served v.now).links (w.served (w.takes o now v.now).after).links
      (w.takes o now v.now).effects) spelled_so its in
      let x =
      projected_step v view (w.takes octets now v.now) [] rest behind now
      (Heard frame.control frame.role) frame.info frame.place (λ t. t) p preserved.station
      (w.served v.now).links has step_of
      (λ timer t e. absurd (received_is_no_expiry frame timer e)) (λ t a b h. h) refl first.tail in
      let left : View = record view { incoming = behind } in
      inr (record {
        event = world.Deliver;
        side_step =
            record { view = view_after frame.info frame.place left x.done; outs = x.done.outs };
        octets = frame.info;
        reporting = x.reporting;
        numbers = x.numbers;
        sends = x.sends;
        is =
            ap (λ frames. delivers Tagged frames view) first.are
            ∙ ap (stepped frame.info frame.place left) x.is;
        shows = x.shows;
      })
    where
      received_is_no_expiry : (frame : Flight) (timer : Timer)
          → Heard frame.control frame.role ≡ Expiry timer → ⊥
      received_is_no_expiry frame timer e = cc

  -- the link's octets are lost if the link does not exist
  takes_early : Serves
      → (v : SideView S) (view : View) (now : ℕ) (octets : List ℕ) (rest : List (List ℕ))
      → Projects w side id v view → IsConsistentView Tagged view → (w.served v.now).links id ≡ None
      → IsFirst (other_side side) id octets (those_for (other_side side) id rest) view.incoming
      → Outcome v (view_after_event v (w.takes octets now v.now) [] rest) view
  unfolding acts loses
  takes_early ways v view now octets rest p preserved none first =
      let frame = first.frame in
      let behind = first.behind in
      let proper : AreProper (frame ∷ behind) = subst AreProper first.are preserved.arriving in
      let spelled_so : spelled (other_side side) id frame ≡ octets = sym first.head in
      let passes : PassesBy side id (w.served v.now).links
      (w.served (w.takes octets now v.now).after).links (w.takes octets now v.now).effects =
      subst (λ (o : List ℕ). PassesBy side id (w.served v.now).links
      (w.served (w.takes o now v.now).after).links (w.takes o now v.now).effects) spelled_so
      ((ways (was_removed v)).takes_absent frame now v.now proper.0 none) in
      let within : nat_lt 0 (length view.incoming) ≡ true =
      lt-ltb 0 (length view.incoming)
      (subst (λ (frames : List Flight). 0 < length frames) (sym first.are) (omega arith)) in
      inr (record {
        event = world.Lose 0;
        side_step = record { view = record view { incoming = remove view.incoming 0 }; outs = [] };
        octets = [];
        reporting =
            still_delivered v (w.takes octets now v.now) _ passes
            ∙ sym (append-nil (link_primitives id v.delivered));
        numbers = sym (append-nil (numbers_of view.station.history.received));
        sends = λ place. inl refl;
        is =
            ap (λ (b : Bool). if b then quietly (record view { incoming = remove view.incoming 0 })
            else Err world.NothingThere) within;
        shows =
            projected_pass v view (w.takes octets now v.now) [] rest (remove view.incoming 0) p
            passes refl
            (first.tail
            ∙ ap (λ (frames : List Flight). all_spelled (other_side side) id
            (remove frames 0)) (sym first.are));
      })

  takes_by_link : Serves
      → (v : SideView S) (view : View) (now : ℕ) (octets : List ℕ) (rest : List (List ℕ))
      → Projects w side id v view → IsConsistentView Tagged view
      → ShowsEnd (w.fresh id) (w.served v.now).links id v.delivered view.station.end
      → IsFirst (other_side side) id octets (those_for (other_side side) id rest) view.incoming
      → Outcome v (view_after_event v (w.takes octets now v.now) [] rest) view
  takes_by_link ways v view now octets rest p preserved (inl has) first =
      takes_its ways v view now octets rest p preserved has first
  takes_by_link ways v view now octets rest p preserved (inr (inl early)) first =
      takes_early ways v view now octets rest p preserved early.absent first
  takes_by_link ways v view now octets rest p preserved (inr (inr late)) first =
      takes_early ways v view now octets rest p preserved late.absent first

  takes_by_test : Serves
      → (v : SideView S) (view : View) (now : ℕ) (octets : List ℕ) (rest : List (List ℕ))
      (test : Bool) → is_for (other_side side) id octets ≡ test → v.incoming ≡ octets ∷ rest
      → Projects w side id v view → IsConsistentView Tagged view → Once v (w.takes octets now v.now)
      → Outcome v (view_after_event v (w.takes octets now v.now) [] rest) view
  takes_by_test ways v view now octets rest true is are p preserved stays =
      let on : octets ∷ those_for (other_side side) id rest ≡ all_spelled (other_side side) id
      view.incoming =
      sym (ap (λ (b : Bool). if b then octets ∷ those_for (other_side side) id rest else those_for
      (other_side side) id rest) is) ∙ ap (those_for (other_side side) id) (sym are)
      ∙ p.incoming in
      takes_by_link ways v view now octets rest p preserved p.link
      (first_of (other_side side) id octets (those_for (other_side side) id rest) view.incoming
      on)
  takes_by_test ways v view now octets rest false is are p preserved stays =
      proceeding ways v view (w.takes octets now v.now) [] rest now p preserved.station
      ((ways (was_removed v)).takes_other octets now v.now is stays) refl
      (sym (ap (λ (b : Bool). if b then octets ∷ those_for (other_side side) id rest else those_for
      (other_side side) id rest) is)
      ∙ ap (those_for (other_side side) id) (sym are))

  takes_first_of : Serves → (v : SideView S) (view : View) (now : ℕ) (incoming : List (List ℕ))
      → v.incoming ≡ incoming → Projects w side id v view → IsConsistentView Tagged view
      → Once v (takes_first w now incoming v.now)
      → Outcome v (view_after_event v (takes_first w now incoming v.now) [] (drop 1 incoming))
      view
  takes_first_of ways v view now [] are p preserved stays =
      passing v view (unmoved v.now) [] [] p (no_effect v) refl
      (ap (those_for (other_side side) id) (sym are))
  takes_first_of ways v view now (octets ∷ rest) are p preserved stays =
      takes_by_test ways v view now octets rest (is_for (other_side side) id octets) refl are p
      preserved stays

  -- ---- Octets are lost.

  loses_one : (v : SideView S) (view : View) (at : ℕ) → Projects w side id v view
      → Outcome v (view_after_event v (unmoved v.now) [] (remove v.incoming at)) view
  unfolding acts loses
  loses_one v view at p = elim (where_lost (is_for (other_side side) id) v.incoming at) [
    | inl same ↦ passing v view (unmoved v.now) [] (remove v.incoming at) p (no_effect v) refl same
    | inr lost ↦
        let within : nat_lt lost.place (length view.incoming) ≡ true =
        lt-ltb lost.place (length view.incoming)
        (subst (λ n. lost.place < n)
        (ap length p.incoming ∙ length-map view.incoming (spelled (other_side side) id))
        lost.within) in
        inr (record {
          event = world.Lose lost.place;
          side_step = record {
            view = record view { incoming = remove view.incoming lost.place };
            outs = [];
          };
          octets = [];
          reporting =
              still_delivered v (unmoved v.now) _ (no_effect v)
              ∙ sym (append-nil (link_primitives id v.delivered));
          numbers = sym (append-nil (numbers_of view.station.history.received));
          sends = λ place. inl refl;
          is =
              ap (λ (b : Bool). if b then quietly
              (record view { incoming = remove view.incoming lost.place }) else Err
              world.NothingThere) within;
          shows =
              projected_pass v view (unmoved v.now) [] (remove v.incoming at)
              (remove view.incoming lost.place) p (no_effect v) refl
              (lost.left ∙ ap (λ l. remove l lost.place) p.incoming
              ∙ removed_spelled (spelled (other_side side) id) view.incoming lost.place);
        })
  ]

  -- ---- A timer expires.

  -- a timer of the link expires, which is one move
  expires_its : Serves
      → (v : SideView S) (view : View) (now : ℕ) (timer : Timer) (event : world.PairEvent)
      → acts Tagged side event view ≡ takes Tagged (Expiry timer) [] view
      → Projects w side id v view → IsConsistentView Tagged view
      → HasLink (w.served v.now).links id view.station.end
      → Outcome v (view_after_event v (w.expires now timer (Some id) v.now) [] v.incoming) view
  unfolding takes
  expires_its ways v view now timer event is_event p preserved has =
      let its =
      (ways (was_removed v)).expires_own now timer v.now has.linked _ has.there
      (expiry_is_done timer has.linked.end) in
      let x =
      projected_step v view (w.expires now timer (Some id) v.now) [] v.incoming view.incoming
      now (Expiry timer) [] 0 (stopped timer) p preserved.station (w.served v.now).links has its
      (λ other t e. subst (λ (k : Timer). is_on k (stopped timer t) ≡ false)
      (same_timer timer other e) (stopped_is_off timer t))
      (λ t a b h. stopped_agrees timer t a b h) refl p.incoming in
      inr (record {
        event = event;
        side_step = record { view = view_after [] 0 view x.done; outs = x.done.outs };
        octets = [];
        reporting = x.reporting;
        numbers = x.numbers;
        sends = x.sends;
        is = is_event ∙ ap (stepped [] 0 view) x.is;
        shows = x.shows;
      })
    where
      same_timer : (a b : Timer) → Expiry a ≡ Expiry b → a ≡ b
      same_timer a b e = cc

  -- the timer has a deadline at this link
  pub runs_by : (timer : Timer) (l : Linked) (o : Option Linked) → o ≡ Some l
      → runs_on timer o ≡ true → is_some (deadline_of timer l.timers) ≡ true
  runs_by timer l o there runs = sym (ap (runs_on timer) there) ∙ runs

  -- the link exists if its timer runs
  is_there : (v : SideView S) (timer : Timer) (end : End)
      → ShowsEnd (w.fresh id) (w.served v.now).links id v.delivered end
      → runs_on timer ((w.served v.now).links id) ≡ true → HasLink (w.served v.now).links id end
  is_there v timer end (inl has) runs = has
  is_there v timer end (inr (inl early)) runs =
      let impossible : false ≡ true = sym (ap (runs_on timer) early.absent) ∙ runs in cc
  is_there v timer end (inr (inr late)) runs =
      let impossible : false ≡ true = sym (ap (runs_on timer) late.absent) ∙ runs in cc

  pub t200_is_event : (view : View) → view.station.end.t200 ≡ true → first_poll view.outgoing ≡ None
      → first_final view.incoming ≡ None
      → acts Tagged side world.Expire200 view ≡ takes Tagged (Expiry T200) [] view
  unfolding acts expires_200
  t200_is_event view on no_poll no_final =
      ap (λ (b : Bool). if b then unless_under_way side (first_poll view.outgoing)
      (first_final view.incoming) (takes Tagged (Expiry T200) [] view) else Err
      world.NotRunning) on
      ∙ ap (λ (o : Option ℕ). unless_under_way side o (first_final view.incoming)
      (takes Tagged (Expiry T200) [] view)) no_poll
      ∙ ap (λ (o : Option ℕ). unless_under_way side None o (takes Tagged (Expiry T200) [] view))
      no_final

  pub t203_is_event : (view : View) → view.station.end.t203 ≡ true
      → acts Tagged side world.Expire203 view ≡ takes Tagged (Expiry T203) [] view
  unfolding acts expires_203
  t203_is_event view on =
      ap (λ (b : Bool). if b then takes Tagged (Expiry T203) [] view else Err world.NotRunning) on

  -- the timer of a link that the event names
  named_expires : Serves
      → (v : SideView S) (view : View) (now : ℕ) (timer : Timer) (other : LinkId) (test : Bool)
      → id_eq id other ≡ test → runs_on timer ((w.served v.now).links other) ≡ true
      → (runs_on timer ((w.served v.now).links id) ≡ true → Some other ≡ Some id
      → Outcome v (view_after_event v (w.expires now timer (Some id) v.now) [] v.incoming)
      view)
      → Projects w side id v view → IsConsistentView Tagged view
      → Once v (w.expires now timer (Some other) v.now)
      → Outcome v (view_after_event v (w.expires now timer (Some other) v.now) [] v.incoming)
      view
  named_expires ways v view now timer other true is runs own p preserved stays =
      let same : id ≡ other = same_id_eq id other is in
      subst (λ (k : LinkId). Outcome v
      (view_after_event v (w.expires now timer (Some k) v.now) [] v.incoming) view) same
      (own (subst (λ (k : LinkId). runs_on timer ((w.served v.now).links k) ≡ true) (sym same) runs)
      (ap (λ (k : LinkId). Some k) (sym same)))
  named_expires ways v view now timer other false is runs own p preserved stays =
      proceeding ways v view (w.expires now timer (Some other) v.now) [] v.incoming now p
      preserved.station
      ((ways (was_removed v)).expires_other now timer (Some other) v.now
      (λ k e. subst (λ (x : LinkId). id_eq id x ≡ false) (some_id other k e) is) stays) refl
      refl
    where
      some_id : (a b : LinkId) → Some a ≡ Some b → a ≡ b
      some_id a b e = cc

  t200_expires : Serves → (v : SideView S) (view : View) (now : ℕ) (of : Option LinkId)
      → IsTimely side id (Expire T200 of now) v → Projects w side id v view
      → IsConsistentView Tagged view
      → runs_on T200 ((w.served v.now).links id) ≡ true → of ≡ Some id
      → Outcome v (view_after_event v (w.expires now T200 (Some id) v.now) [] v.incoming) view
  t200_expires ways v view now of timely p preserved runs is =
      let clear = timely refl is in
      let has = is_there v T200 view.station.end p.link runs in
      let on : view.station.end.t200 ≡ true =
      sym (ap (λ (e : End). e.t200) has.end)
      ∙ has.timed.t200 (runs_by T200 has.linked _ has.there runs) in
      expires_its ways v view now T200 world.Expire200
      (t200_is_event view on
      (no_poll side id v.outgoing view.outgoing preserved.proceeding p.outgoing clear.0)
      (no_final (other_side side) id v.incoming view.incoming preserved.arriving p.incoming
      clear.1)) p preserved has

  t203_expires : Serves → (v : SideView S) (view : View) (now : ℕ) → Projects w side id v view
      → IsConsistentView Tagged view
      → runs_on T203 ((w.served v.now).links id) ≡ true
      → Outcome v (view_after_event v (w.expires now T203 (Some id) v.now) [] v.incoming) view
  t203_expires ways v view now p preserved runs =
      let has = is_there v T203 view.station.end p.link runs in
      let on : view.station.end.t203 ≡ true =
      sym (ap (λ (e : End). e.t203) has.end)
      ∙ has.timed.t203 (runs_by T203 has.linked _ has.there runs) in
      expires_its ways v view now T203 world.Expire203 (t203_is_event view on) p preserved has

  if_runs : (v : SideView S) (view : View) (test : Bool) (a : Reaction S)
      → Projects w side id v view
      → (test ≡ true → Once v a → Outcome v (view_after_event v a [] v.incoming) view)
      → Once v (if test then a else unmoved v.now)
      → Outcome v (view_after_event v (if test then a else unmoved v.now) [] v.incoming) view
  if_runs v view true a p does stays = does refl stays
  if_runs v view false a p does stays =
      passing v view (unmoved v.now) [] v.incoming p (no_effect v) refl refl

  expires : Serves → (v : SideView S) (view : View) (timer : Timer) (of : Option LinkId) (now : ℕ)
      → IsTimely side id (Expire timer of now) v → Projects w side id v view
      → IsConsistentView Tagged view
      → Once v (reaction w (Expire timer of now) v)
      → Outcome v (view_after_event v (reaction w (Expire timer of now) v) [] v.incoming) view
  expires ways v view timer None now timely p preserved stays =
      if_runs v view _ (w.expires now timer None v.now) p
      (λ runs stays. proceeding ways v view (w.expires now timer None v.now) [] v.incoming now p
      preserved.station ((ways (was_removed v)).expires_other now timer None v.now
      (λ k e. absurd (none_is_some k e)) stays) refl refl) stays
    where
      none_is_some : (k : LinkId) → None ≡ Some k → ⊥
      none_is_some k e = cc
  expires ways v view T200 (Some other) now timely p preserved stays =
      if_runs v view (runs_on T200 ((w.served v.now).links other))
      (w.expires now T200 (Some other) v.now) p
      (λ runs stays. named_expires ways v view now T200 other (id_eq id other) refl runs
      (λ its is. t200_expires ways v view now (Some other) timely p preserved its is) p
      preserved stays) stays
  expires ways v view T203 (Some other) now timely p preserved stays =
      if_runs v view (runs_on T203 ((w.served v.now).links other))
      (w.expires now T203 (Some other) v.now) p
      (λ runs stays. named_expires ways v view now T203 other (id_eq id other) refl runs
      (λ its is. t203_expires ways v view now p preserved its) p preserved stays) stays
  expires ways v view T201 (Some other) now timely p preserved stays =
      passing v view (unmoved v.now) [] v.incoming p (no_effect v) refl refl
  expires ways v view T202 (Some other) now timely p preserved stays =
      passing v view (unmoved v.now) [] v.incoming p (no_effect v) refl refl

  -- ---- A request.

  request_is_move : (v : SideView S) (view : View) (a : Reaction S) (now : ℕ)
      (more : List (LinkId × List ℕ)) → Projects w side id v view → IsConsistentView Tagged view
      → HasLink (w.served v.now).links id view.station.end
      → IsRequest side id now (w.served v.now).links (w.served a.after).links a.effects more
      → Outcome v (view_after_event v a more v.incoming) view
  unfolding takes
  request_is_move v view a now more p preserved has asked =
      let d = asked.is_step in
      let x =
      projected_step v view a more v.incoming view.incoming now asked.input asked.octets 0
      (λ t. t) p preserved.station (w.served v.now).links has d
      (λ timer t e. absurd (asked.no_expiry timer e)) (λ t a b h. h) asked.given_is p.incoming in
      inr (record {
        event = asked.event;
        side_step = record { view = view_after asked.octets 0 view x.done; outs = x.done.outs };
        octets = asked.octets;
        reporting = x.reporting;
        numbers = x.numbers;
        sends = x.sends;
        is = asked.is_event view ∙ ap (stepped asked.octets 0 view) x.is;
        shows = x.shows;
      })

  -- the link exists if it does a step
  is_there_for : (v : SideView S) (end : End) (l : Linked)
      → ShowsEnd (w.fresh id) (w.served v.now).links id v.delivered end
      → (w.served v.now).links id ≡ Some l → HasLink (w.served v.now).links id end
  is_there_for v end l (inl has) was = has
  is_there_for v end l (inr (inl early)) was = let now_absent = early.absent in cc
  is_there_for v end l (inr (inr late)) was = let now_absent = late.absent in cc

  pub none_accepted : (request : Request) (now : ℕ) (s : S) (kind : SideKind)
      → w.requested request now s ≡ Err kind → accepted_by w request now s ≡ []
  none_accepted (request.Give other message) now s kind is =
      ap (if_granted (w.means s other) message.items) is
  none_accepted (request.Establish other) now s kind is = refl
  none_accepted (request.Release other) now s kind is = refl
  none_accepted (request.Unit other octets) now s kind is = refl
  none_accepted (request.Busy other on) now s kind is = refl
  none_accepted request.AskTei now s kind is = refl
  none_accepted (request.Check tei) now s kind is = refl
  none_accepted (request.Remove tei) now s kind is = refl
  none_accepted request.CheckAll now s kind is = refl
  none_accepted request.RemoveAll now s kind is = refl

  asks_by : Serves → (v : SideView S) (view : View) (request : Request) (now : ℕ)
      (r : Result (Reaction S) SideKind) → w.requested request now v.now ≡ r
      → Projects w side id v view → IsConsistentView Tagged view
      → Once v (or_unmoved v.now r)
      → Outcome v
      (view_after_event v (or_unmoved v.now r) (accepted_by w request now v.now) v.incoming)
      view
  asks_by ways v view request now (Ok a) is p preserved stays =
      elim ((ways (was_removed v)).asked request now v.now a is stays) [
        | inl none ↦ proceeding ways v view a (accepted_by w request now v.now) v.incoming now p
            preserved.station none.proceeds none.none_given refl
        | inr its ↦ request_is_move v view a now (accepted_by w request now v.now) p preserved
            (is_there_for v view.station.end its.is_step.linked p.link its.is_step.was) its
      ]
  asks_by ways v view request now (Err kind) is p preserved stays =
      passing v view (unmoved v.now) (accepted_by w request now v.now) v.incoming p (no_effect v)
      (ap (given_to id) (none_accepted request now v.now kind is)) refl

  pub each_event : Serves → (v : SideView S) (view : View) (event : SideEvent)
      → IsTimely side id event v → GivesTeiOnce w id event v → Projects w side id v view
      → IsConsistentView Tagged view → Outcome v (does w event v) view
  unfolding does
  each_event ways v view (Take now) timely stays p preserved =
      takes_first_of ways v view now v.incoming refl p preserved stays
  each_event ways v view (Lose at) timely stays p preserved = loses_one v view at p
  each_event ways v view (Expire timer of now) timely stays p preserved =
      expires ways v view timer of now timely p preserved stays
  each_event ways v view (Ask request now) timely stays p preserved =
      asks_by ways v view request now (w.requested request now v.now) refl p preserved stays
  each_event ways v view (Overhear octets now) timely stays p preserved =
      proceeding ways v view (w.takes octets now v.now) [] v.incoming now p preserved.station
      ((ways (was_removed v)).takes_other octets now v.now timely stays) refl refl
