-- The worked runs, computed. The last three runs end in a state that is not right.
use Rattle.std.proofs.Common.{◌≡◌, inl, inr, ℕ, zero, suc, ◌+◌, ◌∙◌, ◌≤◌, List, [], ◌∷◌, length, map, slice_get, Option, Some, None, refl, sym, ap, subst, arith}
use Rattle.std.specs.Prelude.{Vec}
use Rattle.std.specs.declared.alloc.Global.{Global}
use Rattle.lapd_pair_laws.specs.Safe.{IsAmong}
use Rattle.lapd_pair_laws.specs.Schedule.{one_message, two_messages}
use Rattle.lapd_sides_links.specs.declared.primitive.What.TheVariants as what
use Rattle.lapd_two_side_laws.specs.Establishments.{records_of, AreNeighbours, IsReceivedUnskipped}
use Rattle.lapd_side_events.specs.Interface.{run}
use Rattle.lapd_two_side_laws.specs.Premises.{AreTimely, GiveTeiOnce, SatisfyPremises}
use Rattle.lapd_two_side_laws.specs.Projects.{IsReceivedByNetwork, IsReceivedByUser, IsUnskippedByNetwork, IsUnskippedByUser}
use Rattle.lapd_two_side_laws.specs.Schedule.{configs, call, packet, at_first, unassigned, IsMessage, both_links, assigned, removed, hasty, skipping, regained, skipping_regained, with_old_frames, answered_before}
use Rattle.lapd_two_side_laws.specs.Primitives.{link_primitives, given_to, known_of, IsReceived}
use Rattle.lapd_two_side_laws.proofs.ComputedEvents.{computed_events}
use Rattle.lapd_two_side_laws.proofs.MoveTests.{are_timely, give_once}

-- ---- A message of given octets.

abbrev pub Fits : Vec ℕ Global → List ℕ → Type 0
Fits v octets = (v.len ≡ length octets) × (v.len ≤ v.cap)

abbrev pub holding : (v : Vec ℕ Global) (octets : List ℕ) → Fits v octets → Vec ℕ Global
holding v octets fits = record { ptr = v.ptr; len = v.len; cap = v.cap; alloc = v.alloc; items = octets; ok = fits; small = v.small }

-- a property of every vector that holds these octets is a property of this one
pub with_octets : (P : Vec ℕ Global → Type 0) (octets : List ℕ) → ((v : Vec ℕ Global) (fits : Fits v octets) → P (holding v octets fits)) → (v : Vec ℕ Global) → v.items ≡ octets → P v
with_octets P octets each v is = subst (λ (xs : List ℕ). (fits : Fits v xs) → P (holding v xs fits)) (sym is) (λ fits. each v fits) v.ok

pub with_both : (P : Vec ℕ Global → Vec ℕ Global → Type 0) (a b : List ℕ) → ((v w : Vec ℕ Global) (x : Fits v a) (y : Fits w b) → P (holding v a x) (holding w b y)) → (v w : Vec ℕ Global) → v.items ≡ a → w.items ≡ b → P v w
with_both P a b each v w is_a is_b = with_octets (λ u. P u w) a (λ u x. with_octets (λ t. P (holding u a x) t) b (λ t y. each u t x y) w is_b) v is_a

pub with_four : (P : Vec ℕ Global → Vec ℕ Global → Vec ℕ Global → Vec ℕ Global → Type 0) (a b c d : List ℕ)
    → ((s t u v : Vec ℕ Global) (w : Fits s a) (x : Fits t b) (y : Fits u c) (z : Fits v d) → P (holding s a w) (holding t b x) (holding u c y) (holding v d z))
    → (s t u v : Vec ℕ Global) → s.items ≡ a → t.items ≡ b → u.items ≡ c → v.items ≡ d → P s t u v
with_four P a b c d each s t u v is_a is_b is_c is_d =
    with_both (λ m n. P m n u v) a b (λ m n w x. with_both (λ k l. P (holding m a w) (holding n b x) k l) c d (λ k l y z. each m n k l w x y z) u v is_c is_d) s t is_a is_b

-- ---- Both links.

pub record BothLinks (message answer : Vec ℕ Global) : Type 0 where
  pub call_premises : SatisfyPremises configs call (both_links message answer) at_first
  pub packet_premises : SatisfyPremises configs packet (both_links message answer) at_first
  pub call_to_user : link_primitives call (run configs (both_links message answer) at_first).delivered_to_user ≡ what.Confirmed ∷ what.Acknowledged 1 ∷ []
  pub call_to_network : link_primitives call (run configs (both_links message answer) at_first).delivered_to_network ≡ what.Established ∷ what.Up (1 ∷ []) ∷ []
  pub packet_to_user : link_primitives packet (run configs (both_links message answer) at_first).delivered_to_user ≡ what.Confirmed ∷ what.Up (2 ∷ []) ∷ []
  pub packet_to_network : link_primitives packet (run configs (both_links message answer) at_first).delivered_to_network ≡ what.Established ∷ what.Acknowledged 1 ∷ []
  pub call_received_in : (records_of configs call (both_links message answer) at_first).network.received_in ≡ 1 ∷ []
  pub call_sent_in : (records_of configs call (both_links message answer) at_first).user.sent_in 0 ≡ Some 1

both_links_hold : (v w : Vec ℕ Global) (x : Fits v (1 ∷ [])) (y : Fits w (2 ∷ [])) → BothLinks (holding v (1 ∷ []) x) (holding w (2 ∷ []) y)
unfolding computed_events
both_links_hold v w x y =
    let run = both_links (holding v (1 ∷ []) x) (holding w (2 ∷ []) y) in
    record {
      call_premises = (are_timely configs call run at_first refl, give_once configs call run at_first refl);
      packet_premises = (are_timely configs packet run at_first refl, give_once configs packet run at_first refl);
      call_to_user = refl;
      call_to_network = refl;
      packet_to_user = refl;
      packet_to_network = refl;
      call_received_in = refl;
      call_sent_in = refl;
    }

pub both_links_so : (message answer : Vec ℕ Global) → IsMessage 1 message → IsMessage 2 answer → BothLinks message answer
both_links_so = with_both BothLinks (1 ∷ []) (2 ∷ []) both_links_hold

-- ---- A TEI is assigned.

pub record Assigned (message : Vec ℕ Global) : Type 0 where
  pub premises : SatisfyPremises configs call (assigned message) unassigned
  pub to_user : link_primitives call (run configs (assigned message) unassigned).delivered_to_user ≡ what.Confirmed ∷ what.Acknowledged 1 ∷ []
  pub to_network : link_primitives call (run configs (assigned message) unassigned).delivered_to_network ≡ what.Established ∷ what.Up (1 ∷ []) ∷ []

assigned_holds : (v : Vec ℕ Global) (x : Fits v (1 ∷ [])) → Assigned (holding v (1 ∷ []) x)
unfolding computed_events
assigned_holds v x =
    let run = assigned (holding v (1 ∷ []) x) in
    record {
      premises = (are_timely configs call run unassigned refl, give_once configs call run unassigned refl);
      to_user = refl;
      to_network = refl;
    }

pub assigned_so : (message : Vec ℕ Global) → IsMessage 1 message → Assigned message
assigned_so = with_octets Assigned (1 ∷ []) assigned_holds

-- ---- A TEI is removed.

pub record Removed (first : Vec ℕ Global) : Type 0 where
  pub premises : SatisfyPremises configs call (removed first) at_first
  pub to_user : link_primitives call (run configs (removed first) at_first).delivered_to_user ≡ what.Confirmed ∷ what.Released ∷ []

removed_holds : (v : Vec ℕ Global) (x : Fits v (1 ∷ [])) → Removed (holding v (1 ∷ []) x)
unfolding computed_events
removed_holds v x =
    let run = removed (holding v (1 ∷ []) x) in
    record {
      premises = (are_timely configs call run at_first refl, give_once configs call run at_first refl);
      to_user = refl;
    }

pub removed_so : (first : Vec ℕ Global) → IsMessage 1 first → Removed first
removed_so = with_octets Removed (1 ∷ []) removed_holds

-- ---- A position that counts as acknowledged but was not received.

pub one_of : {Y : Type 0} (f : ℕ → Y) (y : Y) (places : List ℕ) (at : ℕ) → map f places ≡ y ∷ [] → IsAmong at places → f at ≡ y
one_of f y [] at same among = absurd among
one_of f y (place ∷ []) at same (inl here) = subst (λ (p : ℕ). f p ≡ y) here cc
one_of f y (place ∷ []) at same (inr impossible) = absurd impossible
one_of f y (place ∷ next ∷ places) at same among = cc

none_of : {Y : Type 0} (f : ℕ → Y) (places : List ℕ) (at : ℕ) → map f places ≡ [] → IsAmong at places → ⊥
none_of f [] at same among = among
none_of f (place ∷ places) at same among = cc

pub received_as : (given given_now : List (List ℕ)) (acked acked_now : List ℕ) (received received_now : List (List ℕ)) → given_now ≡ given → acked_now ≡ acked → received_now ≡ received → IsReceived given acked received → IsReceived given_now acked_now received_now
received_as given given_now acked acked_now received received_now g a r h =
    subst (λ x. IsReceived x acked_now received_now) (sym g) (subst (λ x. IsReceived given x received_now) (sym a) (subst (λ x. IsReceived given acked x) (sym r) h))

abbrev first_octet : Option (List ℕ) → ℕ
first_octet None = 0
first_octet (Some []) = 0
first_octet (Some (octet ∷ octets)) = octet

abbrev Octet : ℕ → Option (List ℕ)
Octet octet = Some (octet ∷ [])

same_octet : (a b : ℕ) → Octet a ≡ Octet b → a ≡ b
same_octet a b same = ap first_octet same

pub differ : Octet 1 ≡ Octet 2 → ⊥
differ same = omega (arith, same_octet 1 2 same)

-- the first message alone is received, and the second counts as acknowledged
pub first_for_second : (given : List (List ℕ)) (acked : List ℕ) (received : List (List ℕ)) → given ≡ two_messages → acked ≡ 1 ∷ [] → received ≡ one_message → IsReceived given acked received → ⊥
first_for_second given acked received g a r right =
    let plain : IsReceived two_messages (1 ∷ []) one_message = received_as _ two_messages _ (1 ∷ []) _ one_message (sym g) (sym a) (sym r) right in
    differ (sym (one_of (λ place. slice_get two_messages place) (Some (1 ∷ [])) plain.places 1 plain.same (plain.acknowledged 1 (inl refl))))

-- the second message alone is received, and the first counts as acknowledged
pub second_for_first : (given : List (List ℕ)) (acked : List ℕ) (received : List (List ℕ)) → given ≡ two_messages → acked ≡ 0 ∷ [] → received ≡ (2 ∷ []) ∷ [] → IsReceived given acked received → ⊥
second_for_first given acked received g a r right =
    let plain : IsReceived two_messages (0 ∷ []) ((2 ∷ []) ∷ []) = received_as _ two_messages _ (0 ∷ []) _ ((2 ∷ []) ∷ []) (sym g) (sym a) (sym r) right in
    differ (one_of (λ place. slice_get two_messages place) (Some (2 ∷ [])) plain.places 0 plain.same (plain.acknowledged 0 (inl refl)))

-- ---- The premise on T200, of that link.

pub record Hasty (first second : Vec ℕ Global) : Type 0 where
  pub tei : GiveTeiOnce configs call (hasty first second) at_first
  pub packet_premises : SatisfyPremises configs packet (hasty first second) at_first
  pub given : given_to call (run configs (hasty first second) at_first).given_to_network ≡ two_messages
  pub acked : (known_of call (run configs (hasty first second) at_first).delivered_to_network).acked ≡ 1 ∷ []
  pub received : (known_of call (run configs (hasty first second) at_first).delivered_to_user).received ≡ one_message

hasty_holds : (v w : Vec ℕ Global) (x : Fits v (1 ∷ [])) (y : Fits w (2 ∷ [])) → Hasty (holding v (1 ∷ []) x) (holding w (2 ∷ []) y)
unfolding computed_events
hasty_holds v w x y =
    let run = hasty (holding v (1 ∷ []) x) (holding w (2 ∷ []) y) in
    record {
      tei = give_once configs call run at_first refl;
      packet_premises = (are_timely configs packet run at_first refl, give_once configs packet run at_first refl);
      given = refl;
      acked = refl;
      received = refl;
    }

pub hasty_so : (first second : Vec ℕ Global) → IsMessage 1 first → IsMessage 2 second → Hasty first second
hasty_so = with_both Hasty (1 ∷ []) (2 ∷ []) hasty_holds

pub hasty_is_not_right : (first second : Vec ℕ Global) → IsMessage 1 first → IsMessage 2 second → IsReceivedByUser call (run configs (hasty first second) at_first) → ⊥
hasty_is_not_right first second one two right =
    let h = hasty_so first second one two in
    first_for_second _ _ _ h.given h.acked h.received right

-- ---- The premise on T200 again: a message is skipped.

abbrev three_messages : List (List ℕ)
three_messages = (1 ∷ []) ∷ (2 ∷ []) ∷ (3 ∷ []) ∷ []

pub record Skipping (first second third : Vec ℕ Global) : Type 0 where
  pub tei : GiveTeiOnce configs packet (skipping first second third) at_first
  pub given : given_to packet (run configs (skipping first second third) at_first).given_to_network ≡ three_messages
  pub acked : (known_of packet (run configs (skipping first second third) at_first).delivered_to_network).acked ≡ []
  pub received : (known_of packet (run configs (skipping first second third) at_first).delivered_to_user).received ≡ (1 ∷ []) ∷ (3 ∷ []) ∷ []
  pub numbers : (records_of configs packet (skipping first second third) at_first).user.received_in ≡ 1 ∷ 1 ∷ []

skipping_holds : (u v w : Vec ℕ Global) (x : Fits u (1 ∷ [])) (y : Fits v (2 ∷ [])) (z : Fits w (3 ∷ [])) → Skipping (holding u (1 ∷ []) x) (holding v (2 ∷ []) y) (holding w (3 ∷ []) z)
unfolding computed_events
skipping_holds u v w x y z = record {
  tei = give_once configs packet (skipping (holding u (1 ∷ []) x) (holding v (2 ∷ []) y) (holding w (3 ∷ []) z)) at_first refl;
  given = refl;
  acked = refl;
  received = refl;
  numbers = refl;
}

pub skipping_so : (first second third : Vec ℕ Global) → IsMessage 1 first → IsMessage 2 second → IsMessage 3 third → Skipping first second third
skipping_so first second third one two three = with_octets (λ u. Skipping u second third) (1 ∷ [])
    (λ u x. with_both (λ v w. Skipping (holding u (1 ∷ []) x) v w) (2 ∷ []) (3 ∷ []) (λ v w y z. skipping_holds u v w x y z) second third two three) first one

-- the messages received are right
pub skipping_is_received : (first second third : Vec ℕ Global) → IsMessage 1 first → IsMessage 2 second → IsMessage 3 third → IsReceivedByUser packet (run configs (skipping first second third) at_first)
skipping_is_received first second third one two three =
    let h = skipping_so first second third one two three in
    received_as three_messages _ [] _ ((1 ∷ []) ∷ (3 ∷ []) ∷ []) _ h.given h.acked h.received
    (record { places = 0 ∷ 2 ∷ []; rising = (omega arith, (omega arith, tt)); same = refl; acknowledged = λ place among. absurd among })

place_of : (place octet : ℕ) → slice_get three_messages place ≡ Some (octet ∷ []) → place + 1 ≡ octet
place_of zero octet same = same_octet 1 octet same
place_of (suc zero) octet same = same_octet 2 octet same
place_of (suc (suc zero)) octet same = same_octet 3 octet same
place_of (suc (suc (suc place))) octet same = cc

no_neighbours : (places : List ℕ) → map (λ place. slice_get three_messages place) places ≡ Some (1 ∷ []) ∷ Some (3 ∷ []) ∷ [] → AreNeighbours places (1 ∷ 1 ∷ []) → ⊥
no_neighbours [] same near = cc
no_neighbours (a ∷ []) same near = cc
no_neighbours (a ∷ b ∷ c ∷ places) same near = cc
no_neighbours (a ∷ b ∷ []) same near =
    let one : slice_get three_messages a ≡ Some (1 ∷ []) = cc in
    let other : slice_get three_messages b ≡ Some (3 ∷ []) = cc in
    omega (arith, place_of a 1 one, place_of b 3 other, near.0 refl)

skipped_as : (given received : List (List ℕ)) (sent_in : ℕ → Option ℕ) (acked numbers : List ℕ) → given ≡ three_messages → received ≡ (1 ∷ []) ∷ (3 ∷ []) ∷ [] → numbers ≡ 1 ∷ 1 ∷ []
    → IsReceivedUnskipped given sent_in acked received numbers → ⊥
skipped_as given received sent_in acked numbers g r n h = no_neighbours h.right.places
    (subst (λ x. map (λ place. slice_get x place) h.right.places ≡ Some (1 ∷ []) ∷ Some (3 ∷ []) ∷ []) g (h.right.same ∙ ap (λ x. map (λ message. Some message) x) r))
    (subst (λ x. AreNeighbours h.right.places x) n h.neighbours)

pub skipping_skips : (first second third : Vec ℕ Global) → IsMessage 1 first → IsMessage 2 second → IsMessage 3 third → IsUnskippedByUser configs packet (skipping first second third) at_first → ⊥
skipping_skips first second third one two three h =
    let x = skipping_so first second third one two three in
    skipped_as _ _ _ _ _ x.given x.received x.numbers h

-- ---- The premise on the TEI.

pub record Regained (first second : Vec ℕ Global) : Type 0 where
  pub timely : AreTimely configs call (regained first second) at_first
  pub given : given_to call (run configs (regained first second) at_first).given_to_user ≡ two_messages
  pub acked : (known_of call (run configs (regained first second) at_first).delivered_to_user).acked ≡ 0 ∷ []
  pub received : (known_of call (run configs (regained first second) at_first).delivered_to_network).received ≡ (2 ∷ []) ∷ []

regained_holds : (v w : Vec ℕ Global) (x : Fits v (1 ∷ [])) (y : Fits w (2 ∷ [])) → Regained (holding v (1 ∷ []) x) (holding w (2 ∷ []) y)
unfolding computed_events
regained_holds v w x y = record {
  timely = are_timely configs call (regained (holding v (1 ∷ []) x) (holding w (2 ∷ []) y)) at_first refl;
  given = refl;
  acked = refl;
  received = refl;
}

pub regained_so : (first second : Vec ℕ Global) → IsMessage 1 first → IsMessage 2 second → Regained first second
regained_so = with_both Regained (1 ∷ []) (2 ∷ []) regained_holds

pub regained_is_not_right : (first second : Vec ℕ Global) → IsMessage 1 first → IsMessage 2 second → IsReceivedByNetwork call (run configs (regained first second) at_first) → ⊥
regained_is_not_right first second one two right =
    let h = regained_so first second one two in
    second_for_first _ _ _ h.given h.acked h.received right

-- ---- The premise on the TEI again: a message is skipped.

pub record SkippingRegained (first second third : Vec ℕ Global) : Type 0 where
  pub timely : AreTimely configs packet (skipping_regained first second third) at_first
  pub given : given_to packet (run configs (skipping_regained first second third) at_first).given_to_user ≡ three_messages
  pub acked : (known_of packet (run configs (skipping_regained first second third) at_first).delivered_to_user).acked ≡ []
  pub received : (known_of packet (run configs (skipping_regained first second third) at_first).delivered_to_network).received ≡ (1 ∷ []) ∷ (3 ∷ []) ∷ []
  pub numbers : (records_of configs packet (skipping_regained first second third) at_first).network.received_in ≡ 1 ∷ 1 ∷ []

skipping_regained_holds : (u v w : Vec ℕ Global) (x : Fits u (1 ∷ [])) (y : Fits v (2 ∷ [])) (z : Fits w (3 ∷ [])) → SkippingRegained (holding u (1 ∷ []) x) (holding v (2 ∷ []) y) (holding w (3 ∷ []) z)
unfolding computed_events
skipping_regained_holds u v w x y z = record {
  timely = are_timely configs packet (skipping_regained (holding u (1 ∷ []) x) (holding v (2 ∷ []) y) (holding w (3 ∷ []) z)) at_first refl;
  given = refl;
  acked = refl;
  received = refl;
  numbers = refl;
}

pub skipping_regained_so : (first second third : Vec ℕ Global) → IsMessage 1 first → IsMessage 2 second → IsMessage 3 third → SkippingRegained first second third
skipping_regained_so first second third one two three = with_octets (λ u. SkippingRegained u second third) (1 ∷ [])
    (λ u x. with_both (λ v w. SkippingRegained (holding u (1 ∷ []) x) v w) (2 ∷ []) (3 ∷ []) (λ v w y z. skipping_regained_holds u v w x y z) second third two three) first one

pub skipping_regained_is_received : (first second third : Vec ℕ Global) → IsMessage 1 first → IsMessage 2 second → IsMessage 3 third → IsReceivedByNetwork packet (run configs (skipping_regained first second third) at_first)
skipping_regained_is_received first second third one two three =
    let h = skipping_regained_so first second third one two three in
    received_as three_messages _ [] _ ((1 ∷ []) ∷ (3 ∷ []) ∷ []) _ h.given h.acked h.received
    (record { places = 0 ∷ 2 ∷ []; rising = (omega arith, (omega arith, tt)); same = refl; acknowledged = λ place among. absurd among })

pub skipping_regained_skips : (first second third : Vec ℕ Global) → IsMessage 1 first → IsMessage 2 second → IsMessage 3 third → IsUnskippedByNetwork configs packet (skipping_regained first second third) at_first → ⊥
skipping_regained_skips first second third one two three h =
    let x = skipping_regained_so first second third one two three in
    skipped_as _ _ _ _ _ x.given x.received x.numbers h

-- ---- The premise on the line.

pub record AnsweredBefore (message : Vec ℕ Global) : Type 0 where
  pub premises : SatisfyPremises configs call (answered_before message) with_old_frames
  pub given : given_to call (run configs (answered_before message) with_old_frames).given_to_user ≡ one_message
  pub acked : (known_of call (run configs (answered_before message) with_old_frames).delivered_to_user).acked ≡ 0 ∷ []
  pub received : (known_of call (run configs (answered_before message) with_old_frames).delivered_to_network).received ≡ []

answered_before_holds : (v : Vec ℕ Global) (x : Fits v (1 ∷ [])) → AnsweredBefore (holding v (1 ∷ []) x)
unfolding computed_events
answered_before_holds v x = record {
  premises = (are_timely configs call (answered_before (holding v (1 ∷ []) x)) with_old_frames refl, give_once configs call (answered_before (holding v (1 ∷ []) x)) with_old_frames refl);
  given = refl;
  acked = refl;
  received = refl;
}

pub answered_before_so : (message : Vec ℕ Global) → IsMessage 1 message → AnsweredBefore message
answered_before_so = with_octets AnsweredBefore (1 ∷ []) answered_before_holds

pub answered_before_is_not_right : (message : Vec ℕ Global) → IsMessage 1 message → IsReceivedByNetwork call (run configs (answered_before message) with_old_frames) → ⊥
answered_before_is_not_right message one right =
    let h = answered_before_so message one in
    let plain : IsReceived one_message (0 ∷ []) [] = received_as _ one_message _ (0 ∷ []) _ [] (sym h.given) (sym h.acked) (sym h.received) right in
    none_of (λ place. slice_get one_message place) plain.places 0 plain.same (plain.acknowledged 0 (inl refl))
