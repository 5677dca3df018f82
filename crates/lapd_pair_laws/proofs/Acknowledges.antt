-- An open side processes the N(R) of the frame in hand: it sets V(A) to it, and the messages below
-- it are acknowledged.
use Rattle.std.proofs.Common.{◌≡◌, ◌⊎◌, inl, inr, ℕ, zero, suc, ◌+◌, ◌-◌, ◌<◌, ◌≤◌, List, [], ◌∷◌, ◌++◌, Some, refl, sym, subst, arith}
use Rattle.std.specs.List.{range_with_len}
use Rattle.lapd_pair_laws.specs.Safe.{IsAmong}
use Rattle.lapd_pair_laws.specs.Kinds.{Kind, Status, messages, numbers, rejections}
use Rattle.lapd_pair_laws.specs.Parties.{Sender, Party, reception_now, receives, OnReception, frames_received}
use Rattle.lapd_pair_laws.specs.Conjuncts.{HasPlace, IsGot, IsPlaced, IsNumbering, IsAwaiting, IsReceivable, most_asks}
use Rattle.lapd_pair_laws.proofs.Receptions.{on_both, by_open}
use Rattle.lapd_pair_laws.proofs.Lists.{each_map}
use Rattle.lapd_pair_laws.proofs.Losses.{asked_less, rejected_map, exchange_less}
use Rattle.lapd_pair_laws.proofs.MidSteps.{Mid, numbering, open_consistent, no_answer_out}
use Rattle.lapd_pair_laws.proofs.Parts.{part_whole, part_first}
use Rattle.lapd_pair_laws.proofs.Runs.{climb_top}

abbrev pub acknowledging_sender : ℕ → Sender → Sender
acknowledging_sender nr s = record s {
  va = nr;
  first = s.first + (nr - s.va);
  passed = s.passed + (nr - s.va);
  acked = s.acked ++ range_with_len s.passed (nr - s.va);
}

abbrev pub acknowledging : ℕ → Party → Party
acknowledging nr x = record x { sends = acknowledging_sender nr x.sends }

-- a place among n places from `low` on
pub among_range : (low n place : ℕ) → IsAmong place (range_with_len low n)
    → (i : ℕ) × (i < n) × (place ≡ low + i)
among_range low zero place impossible = absurd impossible
among_range low (suc n) place (inl here) = (0, omega arith, omega (arith, here))
among_range low (suc n) place (inr there) =
    let later = among_range (low + 1) n place there in
    (later.0 + 1, omega (arith, later.1), omega (arith, later.2))

pub among_either : (place : ℕ) (xs ys : List ℕ) → IsAmong place (xs ++ ys)
    → IsAmong place xs ⊎ IsAmong place ys
among_either place [] ys among = inr among
among_either place (x ∷ xs) ys (inl here) = inl (inl here)
among_either place (x ∷ xs) ys (inr there) =
    elim (among_either place xs ys there) [ inl front ↦ inl (inr front) | inr back ↦ inr back ]

placed_acknowledging : (nr : ℕ) (s : Sender) → (m : _) → IsPlaced s m
    → IsPlaced (acknowledging_sender nr s) m
placed_acknowledging nr s m p = record { place = p.place; same = p.same; sent = p.sent }

awaiting_acknowledging : (x : Party) (nr : ℕ) (ks : List Kind) (n : ℕ)
    → IsAwaiting n (reception_now x (Status nr ∷ ks))
    → IsAwaiting n (reception_now (acknowledging nr x) ks)
awaiting_acknowledging x nr ks n w = record { rejecting = w.rejecting; at = w.at; above = w.above }

pub preserves_acknowledging : (x y : Party) (out : List Kind) (nr : ℕ) (ks : List Kind)
    → Mid x y out (Status nr ∷ ks) → Mid (acknowledging nr x) y out ks
preserves_acknowledging x y out nr ks m =
    let was = reception_now x (Status nr ∷ ks) in
    let z = acknowledging nr x in
    let now = reception_now z ks in
    let n : IsNumbering x.sends = numbering m in
    let acks = m.its.reception.acks in
    let low : x.sends.va ≤ nr = acks.climb.0 in
    let high_ : nr ≤ x.sends.vs = climb_top nr x.sends.vs (numbers ks) acks.climb.1 in
    let got : IsGot x.sends.base nr y.takes.received = acks.known.0 in
    let reached : OnReception (λ h. nr ≤ h.vr) (receives y out) =
    by_open (λ h. nr ≤ h.vr) y out (no_answer_out nr (numbers ks) refl m)
    (λ opened. climb_top nr y.takes.vr (numbers ks) (acks.top opened).0.1) in
    record {
      opened = m.opened;
      mine = record {
        preserved = open_consistent x.state x.asked x.leaving z.sends m.opened (record {
          first = omega (arith, n.first, low);
          next = n.next;
          ordered = high_;
          window = omega (arith, n.window, low);
          within = n.within;
          since = n.since;
        });
        passed = omega (arith, m.mine.passed);
        past = m.mine.past;
        lately = m.mine.lately;
        none_yet = m.mine.none_yet;
        below = m.mine.below;
        reception =
            on_both (λ h. nr ≤ h.vr) (IsReceivable x y (Some was)) (IsReceivable z y (Some now))
            (receives y out) (λ h above i. record {
              stream = record {
                placed =
                    each_map (IsPlaced x.sends) (IsPlaced z.sends) (messages h.frames)
                    (λ m. placed_acknowledging nr x.sends m) i.stream.placed;
                near = i.stream.near;
                order = i.stream.order;
                step = i.stream.step;
                between = λ opened. (above, (i.stream.between opened).1);
              };
              acks = i.acks;
              asked =
                  asked_less y.state y.sends.base x.takes.received (part_first (Status nr) ks)
                  (part_whole h.frames) i.asked;
              rejected =
                  rejected_map y.state y.sends.vs y.sends.base x.takes.received (Some now)
                  (Some was)
                  (rejections h.frames) (λ r. awaiting_acknowledging x nr ks r) i.rejected;
            }) reached m.mine.reception;
        exchange =
            exchange_less (most_asks x.state) (part_whole out) (part_first (Status nr) ks)
            m.mine.exchange;
        histories = record {
          as_given = m.mine.histories.as_given;
          row = m.mine.histories.row;
          prefix = m.mine.histories.prefix;
          arrived =
              λ place among. elim (among_either place x.sends.acked
              (range_with_len x.sends.passed (nr - x.sends.va)) among) [
                | inl before ↦ m.mine.histories.arrived place before
                | inr new ↦ arrives place new
              ];
        };
      };
      its = record {
        preserved = m.its.preserved;
        passed = m.its.passed;
        past = m.its.past;
        lately = m.its.lately;
        none_yet = m.its.none_yet;
        below = m.its.below;
        reception = record {
          stream = m.its.reception.stream;
          acks = record {
            climb = acks.climb.1;
            known = acks.known.1;
            top = λ opened. ((acks.top opened).0.1, (acks.top opened).1);
          };
          asked =
              asked_less x.state x.sends.base y.takes.received
              (part_whole (frames_received (receives y out))) (part_first (Status nr) ks)
              m.its.reception.asked;
          rejected = m.its.reception.rejected;
        };
        exchange =
            exchange_less (most_asks y.state) (part_first (Status nr) ks) (part_whole out)
            m.its.exchange;
        histories = m.its.histories;
      };
    }
  where
    arrives : (place : ℕ) → IsAmong place (range_with_len x.sends.passed (nr - x.sends.va))
        → HasPlace place y.takes.received
    arrives place new =
        let at = among_range x.sends.passed (nr - x.sends.va) place new in
        let n : IsNumbering x.sends = numbering m in
        let passed_ : x.sends.passed ≡ x.sends.first = m.mine.passed in
        let here : place ≡ x.sends.base + (x.sends.va + at.0) =
        omega (arith, at.2, passed_, n.first) in
        subst (λ p. HasPlace p y.takes.received) (sym here)
        (m.its.reception.acks.known.0 (x.sends.va + at.0) (omega (arith, at.1)))
