-- A side receives: the effect on the other side's stream.
use Rattle.std.proofs.Common.{◌≡◌, ◌⊎◌, inl, inr, ℕ, ◌+◌, ◌<◌, ◌≤◌, Bool, true, false, List, [], ◌∷◌, ◌++◌, refl, sym, ap, subst, ◌∙◌, arith}
use Rattle.lapd_link_definition.specs.declared.state.State.TheVariants.{TimerRecovery}
use Rattle.lapd_pair_laws.specs.Safe.{IsAmong}
use Rattle.lapd_pair_laws.specs.Kinds.{Message, Kind, Numbered, Status, Rejection, Final, message_of, messages, number_of, numbers, rejection_of, rejections, tally, poll_of, final_of}
use Rattle.lapd_pair_laws.proofs.Lists.{rejections_same, numbers_more, tally_more}
use Rattle.lapd_pair_laws.proofs.Flow.{Source, Sink, IsWhole, IsJunkThenWhole, IsInTransit, IsClean, Stage, Clean, Waiting, Polling, Answered, IsAt, burden, weight, Stream, Lighter}

-- ---- Lists.

pub whole_ordered : (low end : ℕ) (ms : List Message) → IsWhole low end ms → low ≤ end
whole_ordered low end [] w = omega (arith, w)
whole_ordered low end (m ∷ ms) w =
    let rest = whole_ordered (low + 1) end ms w.1 in omega (arith, rest)

pub junk_ordered : (low end : ℕ) (ms : List Message) → IsJunkThenWhole low end ms → low ≤ end
junk_ordered low end [] w = omega (arith, w)
junk_ordered low end (m ∷ ms) (inl w) = whole_ordered low end (m ∷ ms) w
junk_ordered low end (m ∷ ms) (inr j) = junk_ordered low end ms j.1

pub in_transit_ordered : (rejecting : Bool) (low end : ℕ) (ms : List Message)
    → IsInTransit rejecting low end ms → low ≤ end
in_transit_ordered false low end ms c = whole_ordered low end ms c
in_transit_ordered true low end ms c = junk_ordered low end ms c

pub among_end : (n : ℕ) (ns : List ℕ) → IsAmong n (ns ++ n ∷ [])
among_end n [] = inl refl
among_end n (x ∷ ns) = inr (among_end n ns)

pub among_more : (n m : ℕ) (ns : List ℕ) → IsAmong n ns → IsAmong n (ns ++ m ∷ [])
among_more n m [] a = absurd a
among_more n m (x ∷ ns) (inl same) = inl same
among_more n m (x ∷ ns) (inr rest) = inr (among_more n m ns rest)

-- the awaited message is accepted
pub whole_taken : (rejecting : Bool) (low end : ℕ) (m : Message) (ms : List Message)
    → m.number ≡ low → IsInTransit rejecting low end (m ∷ ms) → IsWhole (low + 1) end ms
whole_taken false low end m ms is c = c.1
whole_taken true low end m ms is (inl w) = w.1
whole_taken true low end m ms is (inr j) = let above = j.0 in absurd (omega (arith, above, is))

-- any other is discarded
pub junk_passed : (low end : ℕ) (m : Message) (ms : List Message) → (m.number ≡ low → ⊥)
    → IsInTransit true low end (m ∷ ms) → IsInTransit true low end ms
junk_passed low end m ms other (inl w) = absurd (other w.0)
junk_passed low end m ms other (inr j) = j.1

none_rejected : (low end : ℕ) (m : Message) (ms : List Message) → (m.number ≡ low → ⊥)
    → IsInTransit false low end (m ∷ ms) → ⊥
none_rejected low end m ms other w = other w.0

-- ---- The message in hand.

split : (p q : ℕ) → p ≤ q → (p < q) ⊎ (p ≡ q)
split p q le = grind (arith, le)

up_to : (n top : ℕ) (u : Kind) (out : List Kind) → number_of u ≡ n ∷ [] → n ≤ top
    → (n < top) ⊎ IsAmong top (numbers (out ++ u ∷ []))
up_to n top u out says le = elim (split n top le) [
  | inl less ↦ inl less
  | inr same ↦ inr (subst (λ l. IsAmong top l) (sym (numbers_more u out n says))
      (subst (λ k. IsAmong k (numbers out ++ n ∷ [])) same (among_end n (numbers out))))
]

abbrev pub taking : Sink → Sink
taking x = record { vr = x.vr + 1; rejecting = false }

abbrev pub rejecting_now : Sink → Sink
rejecting_now x = record { vr = x.vr; rejecting = true }

module _ (y : Source) (x : Sink) (m : Message) (nr : ℕ) (ks out : List Kind) where
  abbrev back : List Kind
  back = Numbered m nr ∷ ks

  abbrev left : List Kind
  left = Status nr ∷ ks

  -- The message is accepted, and its acknowledgement is appended: a Status (an RR or an I frame
  -- that will be sent) or a final.
  clean_taken : (u : Kind) → number_of u ≡ (x.vr + 1) ∷ [] → rejection_of u ≡ [] → m.number ≡ x.vr
      → IsClean y x back out → IsClean y (taking x) left (out ++ u ∷ [])
  clean_taken u says rejects_none is c =
      let rest = whole_taken x.rejecting x.vr y.vs m (messages ks) is c.arriving in
      record {
        in_7 = c.in_7;
        free = c.free;
        arriving = rest;
        wanted = rejections_same u out rejects_none ∙ c.wanted;
        timed = c.timed;
        stopped =
            λ runs. up_to (x.vr + 1) y.vs u out says
            (whole_ordered (x.vr + 1) y.vs (messages ks) rest);
      }

  pub taken : (b : ℕ) → m.number ≡ x.vr → m.polled ≡ false → x.vr < y.vs → Stream y x back out b
      → Lighter 1 y (taking x) left (out ++ Status (x.vr + 1) ∷ []) b
  taken b is no_poll below s = by_stage s.stage s.so s.most
    where
      by_stage : (stage : Stage) → IsAt stage y x back out → weight stage y x ≤ b
          → Lighter 1 y (taking x) left (out ++ Status (x.vr + 1) ∷ []) b
      by_stage Clean c most = record {
        some = omega (arith, most, below);
        stream = record {
          stage = Clean;
          so = clean_taken (Status (x.vr + 1)) refl refl is c;
          most = omega (arith, most, below);
        };
      }
      by_stage Waiting w most = record {
        some = omega (arith, most, below);
        stream = record { stage = Waiting; so = w; most = omega (arith, most, below) };
      }
      by_stage Polling w most = record {
        some = omega (arith, most, below);
        stream = record {
          stage = Polling;
          so = (w.0, let p = w.1 in rw no_poll at p);
          most = omega (arith, most, below);
        };
      }
      by_stage Answered w most =
          let more = tally_more final_of (Status (x.vr + 1)) out in
          record {
            some = omega (arith, most, below);
            stream = record {
              stage = Answered;
              so = (w.0, omega (arith, more, w.1));
              most = omega (arith, most, below);
            };
          }

  -- it is rejected, by a REJ with F=0
  pub rejected : (b : ℕ) → (m.number ≡ x.vr → ⊥) → x.rejecting ≡ false → m.polled ≡ false
      → Stream y x back out b → Lighter 1 y (rejecting_now x) left (out ++ Rejection x.vr ∷ []) b
  rejected b other not_yet no_poll s =
      by_stage s.stage s.so (rw not_yet at (let most = s.most in most))
    where
      by_stage : (stage : Stage) → IsAt stage y x back out
          → weight stage y (record { vr = x.vr; rejecting = false }) ≤ b
          → Lighter 1 y (rejecting_now x) left (out ++ Rejection x.vr ∷ []) b
      by_stage Clean c most =
          absurd (none_rejected x.vr y.vs m (messages ks) other
          (subst (λ r. IsInTransit r x.vr y.vs (m ∷ messages ks)) not_yet c.arriving))
      by_stage Waiting w most = record {
        some = omega (arith, most);
        stream = record { stage = Waiting; so = w; most = omega (arith, most) };
      }
      by_stage Polling w most = record {
        some = omega (arith, most);
        stream = record {
          stage = Polling;
          so = (w.0, let p = w.1 in rw no_poll at p);
          most = omega (arith, most);
        };
      }
      by_stage Answered w most =
          let more = tally_more final_of (Rejection x.vr) out in
          record {
            some = omega (arith, most);
            stream = record {
              stage = Answered;
              so = (w.0, omega (arith, more, w.1));
              most = omega (arith, most);
            };
          }

  -- it is discarded, by a side that rejects
  pub discarded : (b : ℕ) → (m.number ≡ x.vr → ⊥) → x.rejecting ≡ true → m.polled ≡ false
      → Stream y x back out b → Stream y x left out b
  discarded b other rejects no_poll s = by_stage s.stage s.so s.most
    where
      by_stage : (stage : Stage) → IsAt stage y x back out → weight stage y x ≤ b
          → Stream y x left out b
      by_stage Clean c most = record {
        stage = Clean;
        so = record {
          in_7 = c.in_7;
          free = c.free;
          arriving =
              subst (λ r. IsInTransit r x.vr y.vs (messages ks)) (sym rejects)
              (junk_passed x.vr y.vs m (messages ks) other
              (subst (λ r. IsInTransit r x.vr y.vs (m ∷ messages ks)) rejects c.arriving));
          wanted = c.wanted;
          timed = c.timed;
          stopped = c.stopped;
        };
        most = most;
      }
      by_stage Waiting w most = record { stage = Waiting; so = w; most = most }
      by_stage Polling w most =
          record { stage = Polling; so = (w.0, let p = w.1 in rw no_poll at p); most = most }
      by_stage Answered w most = record { stage = Answered; so = w; most = most }

-- A poll in hand, of whatever kind, is answered.
pub answered : (y : Source) (x z : Sink) (k : Kind) (nr n : ℕ) (ks out : List Kind) (b : ℕ)
    → y.state ≡ TimerRecovery → tally final_of out ≡ 0
    → burden 0 y z + 1 ≤ burden 1 y x → Stream y x (k ∷ ks) out b
    → Lighter 1 y z (Status nr ∷ ks) (out ++ Final n ∷ []) b
answered y x z k nr n ks out b in_8 none less s = by_stage s.stage s.so s.most
  where
    by_stage : (stage : Stage) → IsAt stage y x (k ∷ ks) out → weight stage y x ≤ b
        → Lighter 1 y z (Status nr ∷ ks) (out ++ Final n ∷ []) b
    by_stage Clean c most = let in_7 = c.in_7 in cc
    by_stage Waiting w most = let in_7 = w.0 in cc
    by_stage Polling w most =
        let more = tally_more final_of (Final n) out in
        record {
          some = omega (arith, most, less);
          stream = record {
            stage = Answered;
            so = (in_8, omega (arith, more, none));
            most = omega (arith, most, less);
          };
        }
    by_stage Answered w most = absurd (omega (arith, w.1, none))

-- The frame in hand, neither a message nor a poll, is processed.
pub done : (y : Source) (x : Sink) (k : Kind) (ks out : List Kind) (b : ℕ) → message_of k ≡ []
    → poll_of k ≡ 0 → Stream y x (k ∷ ks) out b → Stream y x ks out b
done y x k ks out b no_message no_poll s = by_stage s.stage s.so s.most
  where
    same : messages (k ∷ ks) ≡ messages ks
    same = ap (λ l. l ++ messages ks) no_message

    by_stage : (stage : Stage) → IsAt stage y x (k ∷ ks) out → weight stage y x ≤ b
        → Stream y x ks out b
    by_stage Clean c most = record {
      stage = Clean;
      so = record {
        in_7 = c.in_7;
        free = c.free;
        arriving = subst (λ ms. IsInTransit x.rejecting x.vr y.vs ms) same c.arriving;
        wanted = c.wanted;
        timed = c.timed;
        stopped = c.stopped;
      };
      most = most;
    }
    by_stage Waiting w most = record { stage = Waiting; so = w; most = most }
    by_stage Polling w most =
        record { stage = Polling; so = (w.0, omega (arith, w.1, no_poll)); most = most }
    by_stage Answered w most = record { stage = Answered; so = w; most = most }

-- The receiving side sends more N(R), but no more REJ and finals.
pub sends_more : (y : Source) (x : Sink) (back out more : List Kind) (b : ℕ)
    → rejections more ≡ rejections out
    → ((n : ℕ) → IsAmong n (numbers out) → IsAmong n (numbers more))
    → tally final_of more ≡ tally final_of out
    → Stream y x back out b → Stream y x back more b
sends_more y x back out more b same_rejections among finals s = by_stage s.stage s.so s.most
  where
    either : (y.vs ≡ y.vs) → (x.vr < y.vs) ⊎ IsAmong y.vs (numbers out)
        → (x.vr < y.vs) ⊎ IsAmong y.vs (numbers more)
    either same (inl less) = inl less
    either same (inr a) = inr (among y.vs a)

    by_stage : (stage : Stage) → IsAt stage y x back out → weight stage y x ≤ b
        → Stream y x back more b
    by_stage Clean c most = record {
      stage = Clean;
      so = record {
        in_7 = c.in_7;
        free = c.free;
        arriving = c.arriving;
        wanted = same_rejections ∙ c.wanted;
        timed = c.timed;
        stopped = λ runs. either refl (c.stopped runs);
      };
      most = most;
    }
    by_stage Waiting w most = record { stage = Waiting; so = w; most = most }
    by_stage Polling w most = record { stage = Polling; so = w; most = most }
    by_stage Answered w most = record { stage = Answered; so = (w.0, finals ∙ w.1); most = most }
