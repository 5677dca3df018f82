-- The establishments in which a step receives and sends messages, by its outputs and by the primitives
-- and the end that a side has of it.
use Rattle.std.proofs.Common.{◌≡◌, ◌⊎◌, inl, inr, ℕ, List, [], ◌∷◌, ◌++◌, map, Bool, true, false, if◌then◌else◌, Option, Some, None, refl, sym, ap, ◌∙◌, append_assoc}
use Rattle.std.specs.List.{filter_map}
use Rattle.std.proofs.lemmas.List.{map-append, append-nil, append_cancel_left}
use Rattle.std.proofs.lemmas.List.Elements.{filter_map-append}
use Rattle.lapd_link_definition.specs.declared.out.Out.{Out}
use Rattle.lapd_link_definition.specs.declared.out.Out.TheVariants.{Up}
use Rattle.lapd_link_definition.specs.End.{End, StepState}
use Rattle.lapd_pair_laws.specs.Histories.{Occasion, Receipt, Story, with_beginning, after_output, after_outputs}
use Rattle.lapd_pair_laws.specs.Move.{Station, View, story_after, view_after}
use Rattle.lapd_sides_links.specs.declared.primitive.What.{What}
use Rattle.lapd_sides_links.specs.declared.primitive.What.TheVariants as what
use Rattle.lapd_sides_links.specs.Effects.{what_of}
use Rattle.lapd_sides_links.specs.Links.{Linked}
use Rattle.lapd_two_side_laws.specs.Establishments.{establishments_of, number_each, is_outstanding, is_sent}
use Rattle.lapd_two_side_laws.specs.Primitives.{Known, learns, learns_all}
use Rattle.lapd_two_side_laws.proofs.Sendings.{IsKeptOrSent, AreSentNow}

-- ---- The establishments of the messages received.

abbrev pub numbers_of : List Receipt → List ℕ
numbers_of received = map (λ (message : Receipt). message.establishment) received

-- one output
one_number : (o : Occasion) (out : Out) (t : Story)
    → numbers_of (after_output o out t).history.received ≡ numbers_of t.history.received
    ++ number_each o.establishment (filter_map (what_of o.octets) (out ∷ []))
one_number o Up t = map-append (λ (message : Receipt). message.establishment) t.history.received _
one_number o other t = sym (append-nil _)

number_both : (n : ℕ) (xs ys : List What)
    → number_each n (xs ++ ys) ≡ number_each n xs ++ number_each n ys
number_both n [] ys = refl
number_both n (what.Up octets ∷ xs) ys = ap (λ l. n ∷ l) (number_both n xs ys)
number_both n (other ∷ xs) ys = number_both n xs ys

all_numbers : (o : Occasion) (outs : List Out) (t : Story)
    → numbers_of (after_outputs o outs t).history.received ≡ numbers_of t.history.received
    ++ number_each o.establishment (filter_map (what_of o.octets) outs)
all_numbers o [] t = sym (append-nil _)
all_numbers o (out ∷ outs) t =
    all_numbers o outs (after_output o out t)
    ∙ ap (λ l. l ++ number_each o.establishment (filter_map (what_of o.octets) outs))
    (one_number o out t)
    ∙ append_assoc (numbers_of t.history.received)
    (number_each o.establishment (filter_map (what_of o.octets) (out ∷ [])))
    (number_each o.establishment (filter_map (what_of o.octets) outs))
    ∙ ap (λ l. numbers_of t.history.received ++ l)
    (sym (number_both o.establishment (filter_map (what_of o.octets) (out ∷ []))
    (filter_map (what_of o.octets) outs)))
    ∙ ap (λ ws. numbers_of t.history.received ++ number_each o.establishment ws)
    (sym (filter_map-append (what_of o.octets) (out ∷ []) outs))

-- a whole step
pub step_numbers : (octets : List ℕ) (at : ℕ) (v : View) (s : StepState)
    → numbers_of (view_after octets at v s).station.history.received
    ≡ numbers_of v.station.history.received
    ++ number_each s.end.establishments (filter_map (what_of octets) s.outs)
unfolding view_after story_after
step_numbers octets at v s =
    all_numbers (record {
      given = s.end.given;
      establishment = s.end.establishments;
      octets = octets;
      place = at;
    }) s.outs
    (record {
      line = v.outgoing;
      history =
          with_beginning v.station.end.establishments s.end.establishments v.station.history;
    })

-- ---- An event after which layer 3 knows no more.

-- the messages among the primitives
abbrev messages_in : List What → List (List ℕ)
messages_in [] = []
messages_in (what.Up octets ∷ ws) = octets ∷ messages_in ws
messages_in (w ∷ ws) = messages_in ws

learned_messages : (ws : List What) (k : Known)
    → (learns_all ws k).received ≡ k.received ++ messages_in ws
learned_messages [] k = sym (append-nil _)
learned_messages (what.Up octets ∷ ws) k =
    learned_messages ws (learns (what.Up octets) k)
    ∙ append_assoc k.received (octets ∷ []) (messages_in ws)
learned_messages (what.UnitUp octets ∷ ws) k = learned_messages ws (learns (what.UnitUp octets) k)
learned_messages (what.Acknowledged m ∷ ws) k = learned_messages ws (learns (what.Acknowledged m) k)
learned_messages (what.Dropped m ∷ ws) k = learned_messages ws (learns (what.Dropped m) k)
learned_messages (other ∷ ws) k = learned_messages ws k

none_to_number : (n : ℕ) (ws : List What) → messages_in ws ≡ [] → number_each n ws ≡ []
none_to_number n [] none = refl
none_to_number n (what.Up octets ∷ ws) none = cc
none_to_number n (other ∷ ws) none = none_to_number n ws none

-- primitives that teach nothing bring no message
pub none_numbered : (n : ℕ) (ws : List What) (k : Known) → (learns_all ws k).received ≡ k.received
    → number_each n ws ≡ []
none_numbered n ws k same =
    none_to_number n ws (append_cancel_left k.received (messages_in ws) []
    (sym (learned_messages ws k) ∙ same ∙ sym (append-nil k.received)))

-- ---- The establishments in which messages were last sent.

abbrev pub AreKeptOrSent : Option Linked → (ℕ → Option ℕ) → (ℕ → Option ℕ) → Type 0
AreKeptOrSent link before now =
    (place : ℕ) → (now place ≡ before place) ⊎ (is_sent link place ≡ true)

pub kept_or_sent : (link : Option Linked) (e : End) (before now : ℕ → Option ℕ) (l : Linked)
    → link ≡ Some l → l.end ≡ e → ((place : ℕ) → IsKeptOrSent e before now place)
    → AreKeptOrSent link before now
kept_or_sent link e before now l there end h place =
    elim (h place) [
      | inl same ↦ inl same
      | inr sent ↦ inr
          (ap (λ o. is_sent o place) there ∙ ap (λ x. is_outstanding x place) end ∙ sent)
    ]

-- all that is sent was last sent in the link's present establishment
abbrev pub AreSentBy : Option Linked → (ℕ → Option ℕ) → Type 0
AreSentBy link now =
    (place : ℕ) → is_sent link place ≡ true → now place ≡ Some (establishments_of link)

pub sent_by_station : (s : Station) (link : Option Linked) (l : Linked) → link ≡ Some l
    → l.end ≡ s.end → AreSentNow s → AreSentBy link s.history.sent_in
sent_by_station s link l there end now place sent =
    now place
    (ap (λ x. is_outstanding x place) (sym end) ∙ ap (λ o. is_sent o place) (sym there) ∙ sent)
    ∙ ap (λ (x : End). Some x.establishments) (sym end)
    ∙ ap (λ o. Some (establishments_of o)) (sym there)

pub sent_by_none : (link : Option Linked) (now : ℕ → Option ℕ) → link ≡ None → AreSentBy link now
sent_by_none link now absent place sent =
    let impossible : false ≡ true = ap (λ o. is_sent o place) (sym absent) ∙ sent in cc

by_sent : (test : Bool) (link : Option Linked) (own before now : Option ℕ)
    → (test ≡ true → now ≡ Some (establishments_of link)) → (now ≡ before) ⊎ (test ≡ true)
    → own ≡ before
    → (if test then Some (establishments_of link) else own) ≡ now
by_sent true link own before now new either same = sym (new refl)
by_sent false link own before now new (inl preserved) same = same ∙ sym preserved
by_sent false link own before now new (inr impossible) same = cc

pub sent_recorded : (link : Option Linked) (own before now : ℕ → Option ℕ)
    → AreKeptOrSent link before now → AreSentBy link now → ((place : ℕ) → own place ≡ before place)
    → (place : ℕ)
    → (if is_sent link place then Some (establishments_of link) else own place) ≡ now place
sent_recorded link own before now either new same place =
    by_sent (is_sent link place) link (own place) (before place) (now place) (new place)
    (either place) (same place)
