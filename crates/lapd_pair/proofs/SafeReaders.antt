-- The results of a pair's reading functions are safe.
use Rattle.std.proofs.Common.{◌≡◌, inl, inr, ℕ, zero, suc, ◌+◌, ◌<◌, ◌==◌, Bool, true, false, if◌then◌else◌, List, [], ◌∷◌, map, length, slice_get, Option, Some, None, Vec, refl, sym, ap, ◌∙◌, add-one, arith}
use Rattle.std.proofs.Math.Logic.{∥∥₁_map}
use Rattle.std.proofs.lemmas.Bool.Decides.{nat_tests}
use Rattle.std.proofs.lemmas.List.{length-map}
use Rattle.std.proofs.lemmas.List.FromFn.{length-map-range_with_len, get_or-map-range_with_len}
use Rattle.std.proofs.lemmas.Option.{slice_get-map, slice_get_within, slice_get-get_or, same_Some}
use Rattle.std.specs.Option.{option_map}
use Rattle.std.specs.declared.alloc.Global.{Global}
use Rattle.lapd_frame.specs.Address.{other_side}
use Rattle.lapd_frame.specs.declared.Side.{Side}
use Rattle.lapd_frame.specs.declared.Side.TheVariants.{User, Network}
use Rattle.lapd_pair_laws.proofs.Reached.{every_run_safe}
use Rattle.lapd_mod128.specs.Counting.{Tagged}
use Rattle.lapd_pair_laws.specs.Histories as world
use Rattle.lapd_pair_laws.specs.Histories.{Receipt}
use Rattle.lapd_pair_laws.specs.Consistent.{is_one_of}
use Rattle.lapd_pair_laws.specs.Safe.{IsAmong, AreNeighboursAfter, AreNeighbours, IsSafe}
use Rattle.lapd_pair_laws.specs.World.{new_world, run}
use Rattle.lapd_pair.specs.Establishments.{establishment_at}
use Rattle.lapd_pair.specs.Histories.{ending_at, fate_at, fates_of, octets_and_establishment, of_received, IsHistory}
use Rattle.lapd_pair.specs.Pair.{IsReached}
use Rattle.lapd_pair.specs.Readers.{octets_at, sent_in_at, IsSafeReading, IsSafelyReadFrom, AreSafeReadings}
use Rattle.lapd_pair.specs.declared.fate.Ending.{Ending}
use Rattle.lapd_pair.specs.declared.fate.Ending.TheVariants.{Waiting, Acked, Dropped}
use Rattle.lapd_pair.specs.declared.fate.Fate.{Fate}
use Rattle.lapd_pair.specs.declared.log.Log.{Log}
use Rattle.lapd_pair.specs.declared.pair.Pair.{Pair}
use Rattle.lapd_pair.specs.declared.received.Received.{Received}

-- ---- Messages received.

abbrev octets_of : List Received → List (Option (List ℕ))
octets_of received = map (λ message. Some message.octets.items) received

abbrev establishments_of : List Receipt → List ℕ
establishments_of receipts = map (λ message. message.establishment) receipts

same_octets : (received : List Received) (receipts : List Receipt)
    → map of_received received ≡ map octets_and_establishment receipts
    → octets_of received ≡ map (λ message. Some message.octets) receipts
same_octets [] [] e = refl
same_octets [] (receipt ∷ receipts) e = cc
same_octets (message ∷ received) [] e = cc
same_octets (message ∷ received) (receipt ∷ receipts) e =
    let both : of_received message ≡ octets_and_establishment receipt = cc in
    let here : message.octets.items ≡ receipt.octets = ap (λ (read : List ℕ × ℕ). read.0) both in
    let later : map of_received received ≡ map octets_and_establishment receipts = cc in
    let rest = same_octets received receipts later in
    rw (here, rest) refl

same_establishments : (received : List Received) (receipts : List Receipt)
    → map of_received received ≡ map octets_and_establishment receipts
    → (n : ℕ) → establishment_at received n ≡ slice_get (establishments_of receipts) n
same_establishments [] [] e n = refl
same_establishments [] (receipt ∷ receipts) e n = cc
same_establishments (message ∷ received) [] e n = cc
same_establishments (message ∷ received) (receipt ∷ receipts) e zero =
    let both : of_received message ≡ octets_and_establishment receipt = cc in
    let here : message.establishment ≡ receipt.establishment =
    ap (λ (read : List ℕ × ℕ). read.1) both in
    rw here refl
same_establishments (message ∷ received) (receipt ∷ receipts) e (suc n) =
    let later : map of_received received ≡ map octets_and_establishment receipts = cc in
    same_establishments received receipts later n

-- ---- Places.

-- the next place
abbrev next_of : Option ℕ → Option ℕ
next_of place = option_map (λ place. place + 1) place

neighbours_rest : (before establishment : ℕ) (places : List ℕ) (receipts : List Receipt)
    → AreNeighboursAfter before establishment places receipts → AreNeighbours places receipts
neighbours_rest before establishment [] receipts h = tt
neighbours_rest before establishment (place ∷ places) [] h = tt
neighbours_rest before establishment (place ∷ places) (receipt ∷ receipts) h = h.1

neighbours_at : (places : List ℕ) (receipts : List Receipt) → length places ≡ length receipts
    → AreNeighbours places receipts
    → (n : ℕ)
    → slice_get (establishments_of receipts) (suc n) ≡ slice_get (establishments_of receipts) n
    → slice_get places (suc n) ≡ next_of (slice_get places n)
neighbours_at [] [] len h n same = refl
neighbours_at [] (receipt ∷ receipts) len h n same = cc
neighbours_at (place ∷ places) [] len h n same = cc
neighbours_at (place ∷ []) (receipt ∷ []) len h zero same = cc
neighbours_at (place ∷ []) (receipt ∷ other ∷ receipts) len h zero same = cc
neighbours_at (place ∷ next ∷ places) (receipt ∷ []) len h zero same = cc
neighbours_at (place ∷ next ∷ places) (receipt ∷ other ∷ receipts) len h zero same =
    ap (λ p. Some p) (h.0 (same_Some _ _ same))
neighbours_at (place ∷ places) (receipt ∷ receipts) len h (suc n) same =
    neighbours_at places receipts (omega (arith, len))
    (neighbours_rest place receipt.establishment places receipts h) n same

read_given : (given : List (Vec ℕ Global)) (places : List ℕ)
    → map (octets_at given) places
    ≡ map (λ place. slice_get (map (λ (message : Vec ℕ Global). message.items) given) place)
    places
read_given given [] = refl
read_given given (place ∷ places) =
    rw
    (slice_get-map (λ (message : Vec ℕ Global). message.items) given place, read_given given places)
    refl

-- each place is that of a submitted message
among_given : (given : List (List ℕ)) (places : List ℕ) (receipts : List Receipt)
    → map (λ place. slice_get given place) places ≡ map (λ message. Some message.octets) receipts
    → (place : ℕ) → IsAmong place places → place < length given
among_given given [] receipts same place among = absurd among
among_given given (first ∷ places) [] same place among = cc
among_given given (first ∷ places) (receipt ∷ receipts) same place (inl here) =
    let there : slice_get given first ≡ Some receipt.octets = cc in
    rw (← here) (slice_get_within given first receipt.octets there)
among_given given (first ∷ places) (receipt ∷ receipts) same place (inr later) =
    let rest : map (λ place. slice_get given place) places ≡ map (λ message. Some message.octets)
    receipts =
    cc in
    among_given given places receipts rest place later

-- ---- Fates.

fate_read : (h : world.History) (all place : ℕ) → place < all
    → slice_get (fates_of all h) place ≡ Some (fate_at h place)
fate_read h all place lt =
    slice_get-get_or (fates_of all h) place (fate_at h place)
    (rw (length-map-range_with_len (fate_at h) 0 all) lt)
    ∙ ap (λ fate. Some fate)
    (get_or-map-range_with_len (fate_at h) 0 all place place (fate_at h place) lt (omega arith))

sent_read : (h : world.History) (all place : ℕ) → place < all
    → sent_in_at (fates_of all h) place ≡ Some (h.sent_in place)
sent_read h all place lt =
    ap (λ (fate : Option Fate). option_map (λ (fate : Fate). fate.sent_in) fate)
    (fate_read h all place lt)

abbrev end_of : Option Fate → Option Ending
end_of fate = option_map (λ fate. fate.end) fate

fate_there : (fate : Option Fate) → end_of fate ≡ Some Acked → (found : Fate) × (fate ≡ Some found)
fate_there None is = cc
fate_there (Some fate) is = (fate, refl)

acked_only : (acked dropped : Bool)
    → (if acked then Acked else (if dropped then Dropped else Waiting)) ≡ Acked → acked ≡ true
acked_only true dropped is = refl
acked_only false true is = cc
acked_only false false is = cc

among_first : (first place : ℕ) (rest : List ℕ) (here : Bool) → (first == place) ≡ here
    → (here ≡ false → IsAmong place rest) → IsAmong place (first ∷ rest)
among_first first place rest true is later = inl (grind (arith, nat_tests))
among_first first place rest false is later = inr (later refl)

among_one_of : (places : List ℕ) (place : ℕ) → is_one_of places place ≡ true → IsAmong place places
among_one_of [] place is = cc
among_one_of (first ∷ rest) place is =
    among_first first place rest (first == place) refl
    (λ other. among_one_of rest place (one_of_rest first place rest other is))
  where
    one_of_rest : (first place : ℕ) (rest : List ℕ) → (first == place) ≡ false
        → is_one_of (first ∷ rest) place ≡ true → is_one_of rest place ≡ true
    one_of_rest first place rest other is = rw other at is

acked_at : (h : world.History) (all place : ℕ)
    → end_of (slice_get (fates_of all h) place) ≡ Some Acked → IsAmong place h.acked
acked_at h all place is =
    let there = fate_there (slice_get (fates_of all h) place) is in
    let within : place < all =
    rw (← length-map-range_with_len (fate_at h) 0 all)
    (slice_get_within (fates_of all h) place there.0 there.1) in
    let ends : ending_at h place ≡ Acked =
    same_Some _ _ (sym (ap end_of (fate_read h all place within)) ∙ is) in
    among_one_of h.acked place
    (acked_only (is_one_of h.acked place) (is_one_of h.dropped place) ends)

-- ---- Safety in one direction.

safe_reading : (sender receiver : Log) (messages others : List (List ℕ)) (h g : world.History)
    → IsHistory sender messages h → IsHistory receiver others g
    → IsSafe messages h.sent_in h.acked g.received
    → IsSafeReading sender.given.items sender.fates.items receiver.received.items
    receiver.begun.items
safe_reading sender receiver messages others h g sends receives safe =
    let establishments = same_establishments receiver.received.items g.received receives.received in
    let placed : length safe.places ≡ length g.received =
    sym (length-map safe.places (λ place. slice_get messages place)) ∙ ap length safe.same
    ∙ length-map g.received (λ message. Some message.octets) in
    let within = among_given messages safe.places g.received safe.same in
    record {
      places = safe.places;
      octet_for_octet =
          read_given sender.given.items safe.places ∙ rw sends.given safe.same
          ∙ sym (same_octets receiver.received.items g.received receives.received);
      in_order_once_each = safe.rising;
      nothing_between =
          λ n same. rw (add-one n) (neighbours_at safe.places g.received placed safe.neighbours n
          (sym (establishments (suc n)) ∙ rw (← add-one n) same ∙ establishments n));
      nothing_skipped = λ place smaller among less same.
          let there = within place among in
          let read = sent_read h (length messages) place there in
          let read_smaller = sent_read h (length messages) smaller (omega (arith, there, less)) in
          safe.prefix place smaller among less
          (same_Some _ _ (sym read_smaller ∙ rw (← sends.fates) same ∙ read));
      acknowledged_was_received =
          λ place is. safe.acknowledged place
          (acked_at h (length messages) place (rw (← sends.fates) is));
      fate_of_each =
          ap length sends.fates ∙ length-map-range_with_len (fate_at h) 0 (length messages)
          ∙ sym (ap length sends.given) ∙ length-map sender.given.items (λ message. message.items);
      numbered = receiver.numbered.arrived;
    }

reached_readings : (p : Pair) (sender : Side) → IsReached p.user p.network p.to_user p.to_network
    → IsSafelyReadFrom sender (other_side sender) p
reached_readings p User x =
    let w = run Tagged x.moves (new_world x.user x.network) in
    safe_reading p.user.history p.network.history w.user.end.given w.network.end.given
    w.user.history w.network.history x.represent.user.history x.represent.network.history
    (every_run_safe Tagged x.user x.network x.few_of_user x.few_of_network x.moves).0
reached_readings p Network x =
    let w = run Tagged x.moves (new_world x.user x.network) in
    safe_reading p.network.history p.user.history w.network.end.given w.user.end.given
    w.network.history w.user.history x.represent.network.history x.represent.user.history
    (every_run_safe Tagged x.user x.network x.few_of_user x.few_of_network x.moves).1

pub readings_are_safe : (p : Pair) → AreSafeReadings p
readings_are_safe p = λ sender. ∥∥₁_map p.reached (reached_readings p sender)
