-- An end in state 8 whose poll, or the answer to it, was lost. Until T200 expires it behaves as if
-- the answer were the last frame in transit to it, and never arrived.
use Rattle.std.proofs.Common.{◌≡◌, inl, ℕ, ◌+◌, ◌-◌, ◌≤◌, true, false, List, [], ◌∷◌, ◌++◌, length, length-append, Some, refl, sym, subst, arith}
use Rattle.lapd_frame.specs.declared.Role.TheVariants.{Answer}
use Rattle.lapd_frame.specs.declared.Control.TheVariants.{Rr}
use Rattle.lapd_link_definition.specs.declared.state.State.{State}
use Rattle.lapd_link_definition.specs.declared.state.State.TheVariants.{TimerRecovery}
use Rattle.lapd_link_definition.specs.EndOfStep.{is_7_or_8}
use Rattle.lapd_pair_laws.specs.Histories.{Receipt}
use Rattle.lapd_pair_laws.specs.Line.{Flight, without_info}
use Rattle.lapd_pair_laws.specs.Move.{Station}
use Rattle.lapd_pair_laws.specs.World.{World}
use Rattle.lapd_pair_laws.specs.Kinds.{Kind, Final, kinds, messages, tally, poll_of, final_of}
use Rattle.lapd_pair_laws.specs.Parties.{Party, Reception, party, reception_now, receives, OnReception}
use Rattle.lapd_pair_laws.specs.Conjuncts.{IsGot, AreAsked, IsReceivable, high}
use Rattle.lapd_pair_laws.specs.Invariant.{Both, IsInvariant}
use Rattle.lapd_pair_laws.specs.Timed.{AreSettledEnds}
use Rattle.lapd_pair_laws.proofs.ActionEffects.{kinds_more}
use Rattle.lapd_pair_laws.proofs.WorkOfActions.{AreReady, ready_more}
use Rattle.lapd_pair_laws.proofs.Drains.{Drains}
use Rattle.lapd_pair_laws.proofs.Flow.{source, sink, Answered, burden, Stream, Flow}
use Rattle.lapd_pair_laws.proofs.Lists.{messages_same, tally_more}
use Rattle.lapd_pair_laws.proofs.MidSteps.{Mid, enter, leave, got_where_received}
use Rattle.lapd_pair_laws.proofs.Receptions.{open_receives, from_open, on_map, on_both}
use Rattle.lapd_pair_laws.proofs.SenderStream as speaks
use Rattle.lapd_pair_laws.proofs.SupervisoryFrames.{sends_supervisory, acks_sent, rejected_sent, asked_received, finals_more}

-- ---- One more final of y.

abbrev pub final_of_peer : Station → Flight
final_of_peer y = without_info Answer (Rr y.end.window.vr true)

-- Neither a poll of x nor a final is in transit, and no message of x is.
pub record IsLost (out back : List Kind) : Type 0 where
  pub polls : tally poll_of out ≡ 0
  pub finals : tally final_of back ≡ 0
  pub no_message : messages out ≡ []

asked_with_final : (state : State) (base vr : ℕ) (received : List Receipt) (out back : List Kind)
    → state ≡ TimerRecovery → IsLost out back → high received ≤ base + vr
    → AreAsked state base received out back
    → AreAsked state base received out (back ++ Final vr ∷ [])
asked_with_final TimerRecovery base vr received out back is lost named asked =
    let more = tally_more final_of (Final vr) back in
    record {
      one = omega (arith, more, lost.polls, lost.finals);
      behind = asked.behind;
      alone = λ _. lost.no_message;
      names = finals_more base (high received) (Final vr) back refl (named, refl) asked.names;
    }
asked_with_final state base vr received out back is lost named asked = cc

-- the invariant allows the final
pub with_final_of_peer : (x y : Party) (out back : List Kind) → x.state ≡ TimerRecovery
    → is_7_or_8 y.state ≡ true → IsLost out back → Both x y out back
    → Both x y out (back ++ Final y.takes.vr ∷ [])
with_final_of_peer x y out back is y_open lost both =
    let u = Final y.takes.vr in
    let x_open : is_7_or_8 x.state ≡ true = rw is refl in
    let m : Mid y x back out =
    enter y x back out y_open (record { mine = both.its; its = both.mine }) in
    let here = Some (reception_now y out) in
    let Heard : Reception → Type 0 = IsReceivable y x here in
    let Got : Reception → Type 0 = λ h. IsGot x.sends.base y.takes.vr y.takes.received in
    let named : high y.takes.received ≤ x.sends.base + y.takes.vr =
    (m.its.reception.stream.step (inl x_open)).below in
    let was : Heard (reception_now x back) = from_open Heard x back x_open m.mine.reception in
    let asked : AreAsked x.state x.sends.base y.takes.received out (back ++ u ∷ []) =
    asked_with_final x.state x.sends.base y.takes.vr y.takes.received out back is lost named
    was.asked in
    let done : Mid y x (back ++ u ∷ []) out =
    sends_supervisory y x back out u
    (record {
      no_acceptance = refl;
      no_message = refl;
      no_ask = refl;
      no_answer = refl;
      known = refl;
    })
    (on_both Heard Got _ (receives x back)
    (λ h i got. acks_sent y.takes (is_7_or_8 y.state) x.sends.base h.va h.vs u h.frames
    m.opened refl got i.acks) m.mine.reception (got_where_received m))
    (subst (λ o. OnReception
    (λ h. AreAsked x.state x.sends.base y.takes.received out (h.frames ++ u ∷ [])) o)
    (sym (open_receives x back x_open)) asked)
    (on_map Heard _ (receives x back) (λ h i. rejected_sent x.state x.sends.vs x.sends.base
    y.takes.received here u h.frames refl i.rejected) m.mine.reception)
    (asked_received y.state y.sends.base x.takes.received u (receives x back) out refl refl
    m.its.reception.asked) m in
    let b = leave y x (back ++ u ∷ []) out done in
    record { mine = b.its; its = b.mine }

-- ---- The world with that final.

abbrev pub at : Station → Station → List Flight → List Flight → World
at user network to_user to_network =
    record { user = user; network = network; to_user = to_user; to_network = to_network }

abbrev pub with_final : World → World
with_final w = at w.user w.network (w.to_user ++ final_of_peer w.network ∷ []) w.to_network

-- the user is lost
pub record UserLost (n : ℕ) (w : World) : Type 0 where
  pub holds : IsInvariant w
  pub in_8 : w.user.end.state ≡ TimerRecovery
  pub two : 2 ≤ n
  pub drains : Drains (n - 2) (with_final w)

pub final_kinds : (fs : List Flight) (y : Station)
    → kinds (fs ++ final_of_peer y ∷ []) ≡ kinds fs ++ Final y.end.window.vr ∷ []
final_kinds fs y = kinds_more fs (final_of_peer y)

pub record LostParts (n : ℕ) (w : World) : Type 0 where
  pub holds : IsInvariant w
  pub ends_settled : AreSettledEnds w
  pub in_8 : w.user.end.state ≡ TimerRecovery
  pub peer_open : is_7_or_8 w.network.end.state ≡ true
  pub lost : IsLost (kinds w.to_network) (kinds w.to_user)
  pub b : ℕ
  pub its : Stream (source w.network.end) (sink w.user.end) (kinds w.to_user) (kinds w.to_network) b
  pub idle : w.user.end.window.own_busy ≡ false
  pub its_idle : w.network.end.window.own_busy ≡ false
  pub proceeding : AreReady w.to_network
  pub arriving : AreReady w.to_user
  pub most : length w.to_network + length w.to_user
      + burden 3 (source w.user.end) (sink w.network.end) + b ≤ n

pub kinds_length : (fs : List Flight) → length (kinds fs) ≡ length fs
kinds_length [] = refl
kinds_length (f ∷ fs) = let rest = kinds_length fs in omega (arith, rest)

pub lost_so : (n : ℕ) (w : World) → LostParts n w → UserLost n w
lost_so n w p =
    let x = w.user in
    let y = w.network in
    let u = Final y.end.window.vr in
    let out = kinds w.to_network in
    let back = kinds w.to_user in
    let i = p.holds in
    let same = final_kinds w.to_user y in
    let more = tally_more final_of u back in
    let polls = tally_more poll_of u back in
    let its : Stream (source y.end) (sink x.end) (back ++ u ∷ []) out p.b =
    speaks.as_sent (source y.end) (sink x.end) back out (back ++ u ∷ []) out p.b
    (messages_same u back refl) (omega (arith, polls)) refl refl refl p.its in
    let flow : Flow x.end y.end out (back ++ u ∷ []) (n - 2) = record {
      a = burden 0 (source x.end) (sink y.end);
      b = p.b;
      mine = record {
        stage = Answered;
        so = (p.in_8, omega (arith, more, p.lost.finals));
        most = omega arith;
      };
      its = its;
      most =
          let len = length-append back (u ∷ []) in
          let le = p.most in
          let l = kinds_length w.to_network in
          let k = kinds_length w.to_user in omega (arith, len, le, l, k);
    } in
    record {
      holds = i;
      in_8 = p.in_8;
      two = let le = p.most in omega (arith, le);
      drains = record {
        holds = record {
          user_base = i.user_base;
          network_base = i.network_base;
          both =
              subst (λ l. Both (party i.user_base x) (party i.network_base y) out l) (sym same)
              (with_final_of_peer (party i.user_base x) (party i.network_base y) out back p.in_8
              p.peer_open p.lost i.both);
          user_sound = i.user_sound;
          network_sound = i.network_sound;
          user_window = i.user_window;
          network_window = i.network_window;
        };
        ends_settled = record { user = p.ends_settled.user; network = p.ends_settled.network };
        sees = record {
          flow = subst (λ l. Flow x.end y.end out l (n - 2)) (sym same) flow;
          idle = p.idle;
          its_idle = p.its_idle;
          proceeding = p.proceeding;
          arriving = ready_more w.to_user (final_of_peer y) refl p.arriving;
        };
      };
    }
