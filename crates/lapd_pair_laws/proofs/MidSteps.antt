-- In the middle of a step of an open side: it processes all frames in transit to it, the one in
-- hand first.
use Rattle.std.proofs.Common.{◌≡◌, inl, inr, ℕ, zero, suc, ◌≤◌, Bool, true, List, ◌∷◌, Some, refl, sym, subst, arith}
use Rattle.lapd_link_definition.specs.declared.state.State.{State}
use Rattle.lapd_link_definition.specs.declared.state.State.TheVariants.{TeiAssigned, AwaitingEstablishment, AwaitingRelease, MultipleFrameEstablished, TimerRecovery}
use Rattle.lapd_link_definition.specs.EndOfStep.{is_7_or_8}
use Rattle.lapd_pair_laws.specs.Kinds.{Kind, numbers, tally, answer_of}
use Rattle.lapd_pair_laws.specs.Parties.{Sender, Party, Reception, reception_now, receives, OnReception}
use Rattle.lapd_pair_laws.specs.Conjuncts.{IsNumbering, IsConsistentSender, is_holding, IsGot, IsReceivable, most_asks}
use Rattle.lapd_pair_laws.specs.Invariant.{IsSpeaking, Both}
use Rattle.lapd_pair_laws.proofs.Receptions.{on_both, open_receives, IsReceivedAs, received_as}
use Rattle.lapd_pair_laws.proofs.Losses.{speaking_less, receives_less, IsLess}
use Rattle.lapd_pair_laws.proofs.Parts.{part_whole, part_first}

pub record Mid (x y : Party) (out back : List Kind) : Type 0 where
  pub opened : is_7_or_8 x.state ≡ true
  pub mine : IsSpeaking x y out back (Some (reception_now x back)) (receives y out)
  pub its : IsSpeaking y x back out (receives y out) (Some (reception_now x back))

pub enter : (x y : Party) (out back : List Kind) → is_7_or_8 x.state ≡ true → Both x y out back
    → Mid x y out back
enter x y out back opened b = record {
  opened = opened;
  mine =
      subst (λ o. IsSpeaking x y out back o (receives y out)) (open_receives x back opened) b.mine;
  its = subst (λ o. IsSpeaking y x back out (receives y out) o) (open_receives x back opened) b.its;
}

pub leave : (x y : Party) (out back : List Kind) → Mid x y out back → Both x y out back
leave x y out back m = record {
  mine =
      subst (λ o. IsSpeaking x y out back o (receives y out)) (sym (open_receives x back m.opened))
      m.mine;
  its =
      subst (λ o. IsSpeaking y x back out (receives y out) o) (sym (open_receives x back m.opened))
      m.its;
}

-- the frame in hand is processed
pub put_away : (x y : Party) (out : List Kind) (k : Kind) (back : List Kind)
    → Mid x y out (k ∷ back) → Mid x y out back
put_away x y out k back m =
    let less : IsLess (reception_now x back) (reception_now x (k ∷ back)) =
    record
    { vs = refl; va = refl; vr = refl; rejecting = refl; part = part_first k back } in
    record {
      opened = m.opened;
      mine =
          speaking_less x y _ _ _ _ (part_whole out) (part_first k back) less
          (receives_less y (part_whole out)) m.mine;
      its =
          speaking_less y x _ _ _ _ (part_first k back) (part_whole out)
          (receives_less y (part_whole out)) less m.its;
    }

-- ---- Facts about an open side.

pub open_numbering : (state : State) (asked leaving : Bool) (s : Sender) → is_7_or_8 state ≡ true
    → IsConsistentSender state asked leaving s → IsNumbering s
open_numbering MultipleFrameEstablished asked leaving s opened preserved = preserved
open_numbering TimerRecovery asked leaving s opened preserved = preserved
open_numbering TeiAssigned asked leaving s opened preserved = cc
open_numbering AwaitingEstablishment asked leaving s opened preserved = cc
open_numbering AwaitingRelease asked leaving s opened preserved = cc

pub numbering : {x y : Party} {out back : List Kind} → Mid x y out back → IsNumbering x.sends
numbering {x = x} m = open_numbering x.state x.asked x.leaving x.sends m.opened m.mine.preserved

pub open_consistent : (state : State) (asked leaving : Bool) (s : Sender) → is_7_or_8 state ≡ true
    → IsNumbering s → IsConsistentSender state asked leaving s
open_consistent MultipleFrameEstablished asked leaving s opened n = n
open_consistent TimerRecovery asked leaving s opened n = n
open_consistent TeiAssigned asked leaving s opened n = cc
open_consistent AwaitingEstablishment asked leaving s opened n = cc
open_consistent AwaitingRelease asked leaving s opened n = cc

pub open_holds : (state : State) (asked leaving : Bool) → is_7_or_8 state ≡ true
    → is_holding state asked leaving ≡ true
open_holds MultipleFrameEstablished asked leaving opened = refl
open_holds TimerRecovery asked leaving opened = refl
open_holds state asked leaving opened = cc

pub open_asks_none : (state : State) → is_7_or_8 state ≡ true → most_asks state ≡ 0
open_asks_none MultipleFrameEstablished opened = refl
open_asks_none TimerRecovery opened = refl
open_asks_none state opened = cc

-- if the peer will process frames, this side received all its messages up to V(R)
pub got_where_received : {x y : Party} {out back : List Kind} → Mid x y out back
    → OnReception (λ h. IsGot y.sends.base x.takes.vr x.takes.received) (receives y out)
got_where_received {x = x} {y = y} {out = out} {back = back} m =
    on_both (IsReceivedAs y out) (IsReceivable x y (Some (reception_now x back)))
    (λ h. IsGot y.sends.base x.takes.vr x.takes.received) (receives y out)
    (λ h so i. got h so i) (received_as y out) m.mine.reception
  where
    got : (h : Reception) → IsReceivedAs y out h → IsReceivable x y (Some (reception_now x back)) h
        → IsGot y.sends.base x.takes.vr x.takes.received
    got h (inl now) i = (m.its.reception.stream.step (inl now.0)).got
    got h (inr come) i =
        let top : x.takes.vr ≤ h.vs = (i.acks.top m.opened).1 in
        let zero_ : h.vs ≡ 0 = come.vs in λ n less. absurd (omega (arith, less, top, zero_))

-- if a frame with N(R) is in hand, no answer is in transit to the peer, so the peer processes
-- frames only if it is open
pub no_answer_out : {x y : Party} {out back : List Kind} (nr : ℕ) (rest : List ℕ)
    → numbers back ≡ nr ∷ rest → Mid x y out back → tally answer_of out ≡ 0
no_answer_out {out = out} nr rest is m = none (tally answer_of out) refl
  where
    none : (n : ℕ) → tally answer_of out ≡ n → tally answer_of out ≡ 0
    none zero same = same
    none (suc n) same = let gone = m.its.exchange.before (omega (arith, same)) in cc
