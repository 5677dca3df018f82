-- T200 expires while the line is empty.
use Rattle.std.proofs.Common.{◌≡◌, ℕ, ◌-◌, true, [], Result, refl, arith}
use Rattle.lapd_timers.specs.declared.timer.Timer.TheVariants.{T200}
use Rattle.lapd_frame.specs.declared.Side.TheVariants as side
use Rattle.lapd_mod128.specs.Counting.{Whole}
use Rattle.lapd_link_definition.specs.declared.state.State.{State}
use Rattle.lapd_link_definition.specs.declared.state.State.TheVariants.{MultipleFrameEstablished}
use Rattle.lapd_link_definition.specs.EndOfStep.{end_step}
use Rattle.lapd_link_definition.specs.End.{End, StepState, begin}
use Rattle.lapd_link_definition.specs.Established.{multiple_frame_established}
use Rattle.lapd_link_definition.specs.Input.{Expiry}
use Rattle.lapd_link_definition.specs.Table.{by_state, row, step}
use Rattle.lapd_pair_laws.specs.Move.{Expire200, Station, View, ViewStep, Refusal, acts, takes, story_after, expires_200}
use Rattle.lapd_pair_laws.proofs.ActionEffects.{Context}
use Rattle.lapd_pair_laws.proofs.Lists.{by_test}
use Rattle.lapd_pair_laws.proofs.Steps.{context}
use Rattle.lapd_pair_laws.proofs.Worlds.{left_by}
use Rattle.lapd_pair_laws.proofs.Flow.{source, sink, Stage, Clean, Waiting, Polling, Answered, IsAt, Stream}
use Rattle.lapd_pair_laws.proofs.WorkOfActions.{Draws}
use Rattle.lapd_pair_laws.proofs.WorkOfClosing.{draws_close, draws_t200}
use Rattle.lapd_pair_laws.proofs.Drains.{Seen, mine_open, after_step, preserved_after}
use Rattle.lapd_pair_laws.proofs.SettledEnds.{closed_step}

module _ (station peer : Station) (n : ℕ) where
  abbrev v : View
  v = record { station = station; incoming = []; outgoing = [] }

  -- no place is read
  abbrev c : Context
  c = context 0 [] 0 v [] peer 0

  abbrev e : End
  e = station.end

  abbrev done : StepState
  done = end_step Whole (row Whole e.state (Expiry T200) (begin e))

  -- it is in state 7
  in_state_7 : (a : ℕ) → Stream (source e) (sink peer.end) [] [] a
      → e.state ≡ MultipleFrameEstablished
  in_state_7 a s = by_stage s.stage s.so
    where
      by_stage : (stage : Stage) → IsAt stage (source e) (sink peer.end) [] []
          → e.state ≡ MultipleFrameEstablished
      by_stage Clean cl = cl.in_7
      by_stage Waiting w = w.0
      by_stage Polling w = absurd (omega (arith, w.1))
      by_stage Answered w = absurd (omega (arith, w.1))

  by_7 : (state : State) → state ≡ MultipleFrameEstablished
      → Draws c peer.end [] (n - 1) (multiple_frame_established Whole (Expiry T200) (begin e))
      → Draws c peer.end [] (n - 1) (by_state Whole state (Expiry T200) (begin e))
  unfolding by_state
  by_7 MultipleFrameEstablished is d = d
  by_7 state is d = cc

  draws_row : e.t200 ≡ true → Seen n v peer → Draws c peer.end [] (n - 1) done
  unfolding row begin story_after multiple_frame_established
  draws_row on s =
      let f = s.flow in
      draws_close c peer.end [] (n - 1) _
      (by_test (λ (t : StepState). Draws c peer.end [] (n - 1) t) e.t200 _ _
      (λ _. by_7 e.state (in_state_7 f.a f.mine)
      (draws_t200 c peer.end n (begin e) on s.idle refl refl f)) (λ off. cc))

  pub seen_expired : e.t200 ≡ true → Seen n v peer
      → Seen (n - 1) (left_by v (acts Whole side.User Expire200 v)) peer
  unfolding acts expires_200 takes step
  seen_expired on s =
      let d = draws_row on s in
      by_test (λ (r : Result ViewStep Refusal). Seen (n - 1) (left_by v r) peer) e.t200 _ _
      (λ _. after_step [] 0 (n - 1) v peer [] 0 0 done (closed_step (Expiry T200) e done refl)
      (mine_open d.flow) s.its_idle tt d) (λ off. cc)

  pub preserved_expired : e.t200 ≡ true → Seen n v peer
      → (left_by v (acts Whole side.User Expire200 v)).station.history.dropped
      ≡ v.station.history.dropped
  unfolding acts expires_200 takes step
  preserved_expired on s =
      by_test (λ (r : Result ViewStep Refusal). (left_by v r).station.history.dropped ≡
      v.station.history.dropped) e.t200 _ _
      (λ _. preserved_after [] 0 (n - 1) v peer [] 0 0 done (draws_row on s)) (λ off. cc)
