-- A side sends: the effect on its own stream.
use Rattle.std.proofs.Common.{◌≡◌, ◌⊎◌, inl, inr, ℕ, ◌+◌, ◌-◌, ◌*◌, ◌<◌, ◌≤◌, Bool, true, false, List, [], ◌∷◌, ◌++◌, refl, sym, subst, ◌∙◌, arith}
use Rattle.lapd_link_definition.specs.declared.state.State.TheVariants.{MultipleFrameEstablished, TimerRecovery}
use Rattle.lapd_pair_laws.specs.Safe.{IsAmong}
use Rattle.lapd_pair_laws.specs.Kinds.{Message, Kind, Numbered, Status, messages, numbers, rejections, tally, poll_of, final_of}
use Rattle.lapd_pair_laws.proofs.Lists.{messages_append}
use Rattle.lapd_pair_laws.proofs.Flow.{Source, Sink, IsWhole, IsJunkThenWhole, IsInTransit, IsClean, Stage, Clean, Waiting, Polling, Answered, IsAt, weight, Stream, Lighter}
use Rattle.lapd_pair_laws.proofs.StreamReceipts.{in_transit_ordered}

-- One more message is in transit.
whole_more : (low end : ℕ) (ms : List Message) (m : Message) → m.number ≡ end → IsWhole low end ms
    → IsWhole low (end + 1) (ms ++ m ∷ [])
whole_more low end [] m is w = (is ∙ sym w, omega (arith, w))
whole_more low end (n ∷ ms) m is w = (w.0, whole_more (low + 1) end ms m is w.1)

junk_more : (low end : ℕ) (ms : List Message) (m : Message) → m.number ≡ end
    → IsJunkThenWhole low end ms → IsJunkThenWhole low (end + 1) (ms ++ m ∷ [])
junk_more low end [] m is w = inl (is ∙ sym w, omega (arith, w))
junk_more low end (n ∷ ms) m is (inl w) = inl (whole_more low end (n ∷ ms) m is w)
junk_more low end (n ∷ ms) m is (inr j) = inr (j.0, junk_more low end ms m is j.1)

in_transit_more : (rejecting : Bool) (low end : ℕ) (ms : List Message) (m : Message)
    → m.number ≡ end → IsInTransit rejecting low end ms
    → IsInTransit rejecting low (end + 1) (ms ++ m ∷ [])
in_transit_more false low end ms m is c = whole_more low end ms m is c
in_transit_more true low end ms m is c = junk_more low end ms m is c

-- A stream depends on the line only through messages, polls, REJ, N(R) and finals.
pub as_sent : (x : Source) (y : Sink) (out back now left : List Kind) (a : ℕ)
    → messages now ≡ messages out → tally poll_of now ≡ tally poll_of out
    → rejections left ≡ rejections back → numbers left ≡ numbers back
    → tally final_of left ≡ tally final_of back
    → Stream x y out back a → Stream x y now left a
as_sent x y out back now left a same_messages polls same_rejections same_numbers finals s =
    by_stage s.stage s.so s.most
  where
    by_stage : (stage : Stage) → IsAt stage x y out back → weight stage x y ≤ a
        → Stream x y now left a
    by_stage Clean c most = record {
      stage = Clean;
      so = record {
        in_7 = c.in_7;
        free = c.free;
        arriving =
            subst (λ ms. IsInTransit y.rejecting y.vr x.vs ms) (sym same_messages) c.arriving;
        wanted = same_rejections ∙ c.wanted;
        timed = c.timed;
        stopped =
            subst (λ ns. x.t200 ≡ true → (y.vr < x.vs) ⊎ IsAmong x.vs ns) (sym same_numbers)
            c.stopped;
      };
      most = most;
    }
    by_stage Waiting w most = record { stage = Waiting; so = w; most = most }
    by_stage Polling w most = record { stage = Polling; so = (w.0, polls ∙ w.1); most = most }
    by_stage Answered w most = record { stage = Answered; so = (w.0, finals ∙ w.1); most = most }

-- ---- An N(R).

module _ (x : Source) (y : Sink) (out : List Kind) (nr : ℕ) (ks : List Kind) (a : ℕ) where
  abbrev hand : List Kind
  hand = Status nr ∷ ks

  -- it acknowledges all, and T200 is stopped: x needs no recovery
  pub acked_all : x.state ≡ MultipleFrameEstablished → x.busy ≡ false → x.vs ≡ nr
      → IsInTransit y.rejecting y.vr x.vs (messages out) → rejections ks ≡ []
      → Stream x y out hand a → Stream (record x { va = nr; t200 = false }) y out ks a
  acked_all in_7 free all arriving none s = record {
    stage = Clean;
    so = record {
      in_7 = in_7;
      free = free;
      arriving = arriving;
      wanted = none;
      timed = λ _. all;
      stopped = λ no. cc;
    };
    most = by_stage s.stage s.so s.most;
  }
    where
      by_stage : (stage : Stage) → IsAt stage x y out hand → weight stage x y ≤ a
          → weight Clean x y ≤ a
      by_stage Clean c most = most
      by_stage Waiting w most = omega (arith, most)
      by_stage Polling w most = let in_8 = w.0 in cc
      by_stage Answered w most = let in_8 = w.0 in cc

  not_all : (x.vs ≡ nr → ⊥) → (y.vr < x.vs) ⊎ IsAmong x.vs (nr ∷ numbers ks)
      → (y.vr < x.vs) ⊎ IsAmong x.vs (numbers ks)
  not_all other (inl less) = inl less
  not_all other (inr (inl same)) = absurd (other (sym same))
  not_all other (inr (inr rest)) = inr rest

  -- it acknowledges nothing new
  pub acked_none : x.state ≡ MultipleFrameEstablished → (x.vs ≡ nr → ⊥) → Stream x y out hand a
      → Stream x y out ks a
  acked_none in_7 other s = by_stage s.stage s.so s.most
    where
      by_stage : (stage : Stage) → IsAt stage x y out hand → weight stage x y ≤ a
          → Stream x y out ks a
      by_stage Clean c most = record {
        stage = Clean;
        so = record {
          in_7 = c.in_7;
          free = c.free;
          arriving = c.arriving;
          wanted = c.wanted;
          timed = c.timed;
          stopped = λ runs. not_all other (c.stopped runs);
        };
        most = most;
      }
      by_stage Waiting w most = record { stage = Waiting; so = w; most = most }
      by_stage Polling w most = let in_8 = w.0 in cc
      by_stage Answered w most = let in_8 = w.0 in cc

  -- it acknowledges some, and T200 runs anew
  pub acked_some : x.state ≡ MultipleFrameEstablished → (x.vs ≡ nr → ⊥) → x.va ≤ nr → nr ≤ x.vs
      → Stream x y out hand a → Stream (record x { va = nr; t200 = true }) y out ks a
  acked_some in_7 other low high s = by_stage s.stage s.so s.most
    where
      runs_already : (t : Bool) → x.t200 ≡ t → IsClean x y out hand → x.t200 ≡ true
      runs_already true is c = is
      runs_already false is c =
          let none : x.vs ≡ x.va = c.timed is in absurd (other (omega (arith, none, low, high)))

      by_stage : (stage : Stage) → IsAt stage x y out hand → weight stage x y ≤ a
          → Stream (record x { va = nr; t200 = true }) y out ks a
      by_stage Clean c most = record {
        stage = Clean;
        so = record {
          in_7 = c.in_7;
          free = c.free;
          arriving = c.arriving;
          wanted = c.wanted;
          timed = λ no. cc;
          stopped = λ _. not_all other (c.stopped (runs_already x.t200 refl c));
        };
        most = most;
      }
      by_stage Waiting w most = record { stage = Waiting; so = (w.0, refl); most = most }
      by_stage Polling w most = let in_8 = w.0 in cc
      by_stage Answered w most = let in_8 = w.0 in cc

  -- in an I frame, while the side takes the peer to be busy: T200 keeps running
  pub acked_busy : x.busy ≡ true → Stream x y out hand a → Stream (record x { va = nr }) y out ks a
  acked_busy busy s = by_stage s.stage s.so s.most
    where
      by_stage : (stage : Stage) → IsAt stage x y out hand → weight stage x y ≤ a
          → Stream (record x { va = nr }) y out ks a
      by_stage Clean c most = let free = c.free in cc
      by_stage Waiting w most = record { stage = Waiting; so = w; most = most }
      by_stage Polling w most = record { stage = Polling; so = w; most = most }
      by_stage Answered w most =
          record { stage = Answered; so = (w.0, omega (arith, w.1)); most = most }

-- in state 8 it acknowledges, in any frame but a final
pub acked_in_8 : (x : Source) (y : Sink) (out : List Kind) (k : Kind) (nr : ℕ) (ks : List Kind)
    (a : ℕ) → x.state ≡ TimerRecovery → final_of k ≡ 0 → Stream x y out (k ∷ ks) a
    → Stream (record x { va = nr }) y out ks a
acked_in_8 x y out k nr ks a in_8 no_final s = by_stage s.stage s.so s.most
  where
    by_stage : (stage : Stage) → IsAt stage x y out (k ∷ ks) → weight stage x y ≤ a
        → Stream (record x { va = nr }) y out ks a
    by_stage Clean c most = let in_7 = c.in_7 in cc
    by_stage Waiting w most = let in_7 = w.0 in cc
    by_stage Polling w most = record { stage = Polling; so = w; most = most }
    by_stage Answered w most =
        record { stage = Answered; so = (w.0, omega (arith, w.1, no_final)); most = most }

-- ---- V(S) is set back, by a REJ or a final: then it needs no recovery any more.

abbrev pub back_at : ℕ → Source → Source
back_at nr x = record {
  state = MultipleFrameEstablished;
  t200 = false;
  busy = false;
  vs = nr;
  va = nr;
  unsent = x.unsent + (x.vs - nr);
}

pub mid_back : (x : Source) (y : Sink) (out : List Kind) (k : Kind) (nr : ℕ) (ks : List Kind)
    (a : ℕ) → (IsClean x y out (k ∷ ks) → ⊥) → y.vr ≡ nr → nr ≤ x.vs
    → IsInTransit y.rejecting y.vr nr (messages out) → rejections ks ≡ []
    → Stream x y out (k ∷ ks) a → Stream (back_at nr x) y out ks a
mid_back x y out k nr ks a dirty at below arriving none s = record {
  stage = Clean;
  so = record {
    in_7 = refl;
    free = refl;
    arriving = arriving;
    wanted = none;
    timed = λ _. refl;
    stopped = λ no. cc;
  };
  most = by_stage s.stage s.so s.most;
}
  where
    by_stage : (stage : Stage) → IsAt stage x y out (k ∷ ks) → weight stage x y ≤ a
        → 2 * (x.unsent + (x.vs - nr)) + (nr - y.vr) ≤ a
    by_stage Clean c most = absurd (dirty c)
    by_stage Waiting w most = omega (arith, most, at, below)
    by_stage Polling w most = omega (arith, most, at, below)
    by_stage Answered w most = omega (arith, most, at, below)

-- the peer is no longer busy
pub freed : (x : Source) (y : Sink) (out back : List Kind) (a : ℕ) → Stream x y out back a
    → Stream (record x { busy = false }) y out back a
freed x y out back a s = by_stage s.stage s.so s.most
  where
    by_stage : (stage : Stage) → IsAt stage x y out back → weight stage x y ≤ a
        → Stream (record x { busy = false }) y out back a
    by_stage Clean c most = record {
      stage = Clean;
      so = record {
        in_7 = c.in_7;
        free = refl;
        arriving = c.arriving;
        wanted = c.wanted;
        timed = c.timed;
        stopped = c.stopped;
      };
      most = most;
    }
    by_stage Waiting w most = record { stage = Waiting; so = w; most = most }
    by_stage Polling w most = record { stage = Polling; so = w; most = most }
    by_stage Answered w most = record { stage = Answered; so = w; most = most }

-- ---- A message is sent.

pub sends : (x : Source) (y : Sink) (out back : List Kind) (m : Message) (n u a : ℕ)
    → x.state ≡ MultipleFrameEstablished → x.unsent ≡ u + 1 → m.number ≡ x.vs
    → Stream x y out back a
    → Lighter 1 (record x { vs = x.vs + 1; unsent = u; t200 = true }) y (out ++ Numbered m n ∷ [])
    back a
sends x y out back m n u a in_7 one_more is s = by_stage s.stage s.so s.most
  where
    now : List Kind
    now = out ++ Numbered m n ∷ []

    by_stage : (stage : Stage) → IsAt stage x y out back → weight stage x y ≤ a
        → Lighter 1 (record x { vs = x.vs + 1; unsent = u; t200 = true }) y
        (out ++ Numbered m n ∷ []) back a
    by_stage Clean c most =
        let low : y.vr ≤ x.vs =
        in_transit_ordered y.rejecting y.vr x.vs (messages out) c.arriving in
        record {
          some = omega (arith, most, one_more);
          stream = record {
            stage = Clean;
            so = record {
              in_7 = in_7;
              free = c.free;
              arriving =
                  subst (λ ms. IsInTransit y.rejecting y.vr (x.vs + 1) ms)
                  (sym (messages_append out (Numbered m n ∷ [])))
                  (in_transit_more y.rejecting y.vr x.vs (messages out) m is c.arriving);
              wanted = c.wanted;
              timed = λ no. cc;
              stopped = λ _. inl (omega (arith, low));
            };
            most = omega (arith, most, one_more, low);
          };
        }
    by_stage Waiting w most = record {
      some = omega (arith, most, one_more);
      stream =
          record { stage = Waiting; so = (in_7, refl); most = omega (arith, most, one_more) };
    }
    by_stage Polling w most = let in_8 = w.0 in cc
    by_stage Answered w most = let in_8 = w.0 in cc

-- ---- T200 expires while the line is empty.

pub in_transit_none : (rejecting : Bool) (low end : ℕ) → IsInTransit rejecting low end []
    → low ≡ end
in_transit_none false low end c = c
in_transit_none true low end c = c

pub polls : (x : Source) (y : Sink) (u : Kind) (a : ℕ) → x.t200 ≡ true → poll_of u ≡ 1
    → Stream x y [] [] a
    → Lighter 2 (record x { state = TimerRecovery; t200 = true }) y (u ∷ []) [] a
polls x y u a runs poll s = by_stage s.stage s.so s.most
  where
    still : (y.vr < x.vs) ⊎ IsAmong x.vs [] → y.vr ≡ x.vs → ⊥
    still (inl less) same = absurd (omega (arith, less, same))
    still (inr none) same = absurd none

    by_stage : (stage : Stage) → IsAt stage x y [] [] → weight stage x y ≤ a
        → Lighter 2 (record x { state = TimerRecovery; t200 = true }) y (u ∷ []) [] a
    by_stage Clean c most =
        absurd (still (c.stopped runs) (in_transit_none y.rejecting y.vr x.vs c.arriving))
    by_stage Waiting w most = record {
      some = omega (arith, most);
      stream =
          record { stage = Polling; so = (refl, omega (arith, poll)); most = omega (arith, most) };
    }
    by_stage Polling w most = absurd (omega (arith, w.1))
    by_stage Answered w most = absurd (omega (arith, w.1))
