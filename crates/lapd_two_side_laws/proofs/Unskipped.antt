-- A side's record of a link agrees with the history of the world's end, over every event. So within
-- one establishment no message is skipped.
use Rattle.std.proofs.Common.{◌≡◌, inl, inr, ℕ, List, [], ◌∷◌, ◌++◌, map, Option, Some, refl, sym, ap, subst, ◌∙◌}
use Rattle.std.specs.List.{filter_map}
use Rattle.std.proofs.lemmas.List.{append-nil, length-map, append_cancel_left}
use Rattle.std.proofs.lemmas.List.Elements.{filter_map-append}
use Rattle.lapd_frame.specs.declared.Side.{Side}
use Rattle.lapd_pair_laws.specs.Histories.{Receipt}
use Rattle.lapd_pair_laws.specs.Move.{Station, View}
use Rattle.lapd_pair_laws.specs.Safe as world_safe
use Rattle.lapd_pair_laws.specs.Safe.{IsSafe}
use Rattle.lapd_table.specs.declared.link_id.LinkId.{LinkId}
use Rattle.lapd_sides_links.specs.declared.primitive.Primitive.{Primitive}
use Rattle.lapd_sides_links.specs.declared.primitive.What.{What}
use Rattle.lapd_sides_links.specs.Effects.{what_of}
use Rattle.lapd_sides_links.specs.Links.{Links}
use Rattle.lapd_two_side_laws.specs.Establishments.{LinkRecord, recorded, establishments_of, number_each, AreNeighboursAfter, AreNeighbours, IsReceivedUnskipped}
use Rattle.lapd_two_side_laws.specs.Primitives.{Known, what_for, link_primitives, known_of, learns_all, nothing_known}
use Rattle.lapd_two_side_laws.specs.Projects.{ShowsEnd, ShowsRecord, Projects}
use Rattle.lapd_side_events.specs.SideView.{Behaviour, SideEvent, SideView, reaction, does}
use Rattle.lapd_two_side_laws.proofs.LinkParts.{learns_both}
use Rattle.lapd_two_side_laws.proofs.Recorded.{numbers_of, none_numbered, AreSentBy, sent_by_station, sent_by_none, sent_recorded}
use Rattle.lapd_two_side_laws.proofs.Sendings.{AreSentNow}
use Rattle.lapd_two_side_laws.proofs.SideEvents.{IsMove}

module _ (S : Type 0) (w : Behaviour S) (side : Side) (id : LinkId) where
  sent_by_shown : (links : Links) (delivered : List Primitive) (s : Station)
      → ShowsEnd (w.fresh id) links id delivered s.end → AreSentNow s
      → AreSentBy (links id) s.history.sent_in
  sent_by_shown links delivered s (inl h) now =
      sent_by_station s (links id) h.linked h.there h.end now
  sent_by_shown links delivered s (inr (inl h)) now =
      sent_by_none (links id) s.history.sent_in h.absent
  sent_by_shown links delivered s (inr (inr h)) now =
      sent_by_none (links id) s.history.sent_in h.absent

  -- the primitives of an event for the link
  abbrev reported : SideEvent → SideView S → List What
  reported event v = link_primitives id (reaction w event v).effects.primitives

  primitives_after : (event : SideEvent) (v : SideView S)
      → link_primitives id (does w event v).delivered ≡ link_primitives id v.delivered
      ++ reported event v
  unfolding does
  primitives_after event v =
      filter_map-append (what_for id) v.delivered (reaction w event v).effects.primitives

  sent_after : (event : SideEvent) (v : SideView S) (view : View)
      → Projects w side id (does w event v) view → AreSentNow view.station
      → AreSentBy ((w.served (reaction w event v).after).links id) view.station.history.sent_in
  unfolding does
  sent_after event v view p now =
      sent_by_shown (w.served (reaction w event v).after).links (does w event v).delivered
      view.station p.link now

  -- an event that is no move of the link
  pub nothing_recorded_more : (event : SideEvent) (v : SideView S) (view : View) (r : LinkRecord)
      → Projects w side id v view → Projects w side id (does w event v) view
      → AreSentNow view.station
      → ShowsRecord r view.station.history
      → ShowsRecord (recorded w id event v r) view.station.history
  nothing_recorded_more event v view r before after now h = record {
    received_in =
        ap (λ l. r.received_in ++ l) (none_numbered
        (establishments_of ((w.served (reaction w event v).after).links id)) (reported event v)
        (known_of id v.delivered) knows) ∙ append-nil r.received_in ∙ h.received_in;
    sent_in =
        sent_recorded ((w.served (reaction w event v).after).links id) r.sent_in
        view.station.history.sent_in view.station.history.sent_in (λ place. inl refl)
        (sent_after event v view after now) h.sent_in;
  }
    where
      knows : (learns_all (reported event v) (known_of id v.delivered)).received
          ≡ (known_of id v.delivered).received
      knows =
          ap (λ (k : Known). k.received)
          (sym (learns_both (link_primitives id v.delivered) (reported event v) nothing_known)
          ∙ ap (λ ws. learns_all ws nothing_known) (sym (primitives_after event v))
          ∙ after.known ∙ sym before.known)

  -- an event that is one move of the link
  pub move_recorded : (event : SideEvent) (v : SideView S) (view : View) (r : LinkRecord)
      (m : IsMove S w side id v (does w event v) view) → AreSentNow m.side_step.view.station
      → ShowsRecord r view.station.history
      → ShowsRecord (recorded w id event v r) m.side_step.view.station.history
  unfolding does
  move_recorded event v view r m now h =
      let same : reported event v ≡ filter_map (what_of m.octets) m.side_step.outs =
      append_cancel_left (link_primitives id v.delivered) (reported event v)
      (filter_map (what_of m.octets) m.side_step.outs)
      (sym (primitives_after event v) ∙ m.reporting) in
      let number = establishments_of ((w.served (reaction w event v).after).links id) in
      record {
        received_in =
            ap (λ l. l ++ number_each number (reported event v)) h.received_in
            ∙ ap (λ ws. numbers_of view.station.history.received ++ number_each number ws) same
            ∙ sym m.numbers;
        sent_in =
            sent_recorded ((w.served (reaction w event v).after).links id) r.sent_in
            view.station.history.sent_in m.side_step.view.station.history.sent_in m.sends
            (sent_after event v m.side_step.view m.shows now) h.sent_in;
      }

-- ---- A safe history skips no message.

neighbours_after : (before establishment : ℕ) (places : List ℕ) (received : List Receipt)
    → world_safe.AreNeighboursAfter before establishment places received
    → AreNeighboursAfter before establishment places (numbers_of received)
neighbours_after before establishment [] received h = tt
neighbours_after before establishment (place ∷ places) [] h = tt
neighbours_after before establishment (place ∷ places) (message ∷ received) h =
    (h.0, neighbours_after place message.establishment places received h.1)

neighbours : (places : List ℕ) (received : List Receipt) → world_safe.AreNeighbours places received
    → AreNeighbours places (numbers_of received)
neighbours [] received h = tt
neighbours (place ∷ places) [] h = tt
neighbours (place ∷ places) (message ∷ received) h =
    neighbours_after place message.establishment places received h

some_octets : (received : List Receipt)
    → map (λ (message : Receipt). Some message.octets) received
    ≡ map (λ message. Some message) (map (λ (message : Receipt). message.octets) received)
some_octets [] = refl
some_octets (message ∷ received) = ap (λ l. Some message.octets ∷ l) (some_octets received)

abbrev octets_of : List Receipt → List (List ℕ)
octets_of received = map (λ (message : Receipt). message.octets) received

pub safe_is_unskipped : (given : List (List ℕ)) (sent_in own : ℕ → Option ℕ) (acked : List ℕ)
    (received : List Receipt) → ((place : ℕ) → own place ≡ sent_in place)
    → IsSafe given sent_in acked received
    → IsReceivedUnskipped given own acked (octets_of received) (numbers_of received)
safe_is_unskipped given sent_in own acked received same h = record {
  right = record {
    places = h.places;
    rising = h.rising;
    same = h.same ∙ some_octets received;
    acknowledged = h.acknowledged;
  };
  numbered =
      length-map received (λ (message : Receipt). message.establishment)
      ∙ sym (length-map received (λ (message : Receipt). message.octets));
  neighbours = neighbours h.places received h.neighbours;
  prefix =
      λ place smaller among less alike. h.prefix place smaller among less
      (sym (same smaller) ∙ alike ∙ same place);
}

pub unskipped_as : (given given_now : List (List ℕ)) (own : ℕ → Option ℕ) (acked acked_now : List ℕ)
    (received received_now : List (List ℕ)) (numbers numbers_now : List ℕ)
    → given_now ≡ given → acked_now ≡ acked → received_now ≡ received → numbers_now ≡ numbers
    → IsReceivedUnskipped given own acked received numbers
    → IsReceivedUnskipped given_now own acked_now received_now numbers_now
unskipped_as given given_now own acked acked_now received received_now numbers numbers_now g a r n
    h =
    subst (λ x. IsReceivedUnskipped x own acked_now received_now numbers_now) (sym g)
    (subst (λ x. IsReceivedUnskipped given own x received_now numbers_now) (sym a)
    (subst (λ x. IsReceivedUnskipped given own acked x numbers_now) (sym r)
    (subst (λ x. IsReceivedUnskipped given own acked received x) (sym n) h)))
