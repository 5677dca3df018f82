-- Delivering a frame reduces the remaining work.
use Rattle.std.proofs.Common.{◌≡◌, ℕ, ◌-◌, true, false, List, ◌∷◌, refl, sym, subst, arith}
use Rattle.lapd_frame.specs.declared.Side.TheVariants as side
use Rattle.lapd_frame.specs.declared.Role.{Role}
use Rattle.lapd_frame.specs.declared.Role.TheVariants.{Command, Answer}
use Rattle.lapd_frame.specs.declared.Control.{Control}
use Rattle.lapd_frame.specs.declared.Control.TheVariants.{I, Rr, Rej, Ui}
use Rattle.lapd_mod128.specs.Counting.{Whole}
use Rattle.lapd_link_definition.specs.declared.state.State.{State}
use Rattle.lapd_link_definition.specs.declared.state.State.TheVariants.{TeiAssigned, AwaitingEstablishment, AwaitingRelease, MultipleFrameEstablished, TimerRecovery}
use Rattle.lapd_link_definition.specs.EndOfStep.{is_7_or_8, end_step}
use Rattle.lapd_link_definition.specs.End.{End, StepState, begin}
use Rattle.lapd_link_definition.specs.Input.{Heard}
use Rattle.lapd_link_definition.specs.Table.{by_state, row, step, is_unit_data}
use Rattle.lapd_pair_laws.specs.Line.{Flight}
use Rattle.lapd_pair_laws.specs.Move.{Deliver, Station, View, acts, receives, view_after, story_after, delivers}
use Rattle.lapd_pair_laws.specs.World.{World, swapped, view_of}
use Rattle.lapd_pair_laws.specs.Kinds.{Kind, kind, kinds}
use Rattle.lapd_pair_laws.specs.Parties.{party}
use Rattle.lapd_pair_laws.specs.Invariant.{Both, IsInvariant}
use Rattle.lapd_pair_laws.proofs.ActionEffects.{Context, seen, line, HoldsMid}
use Rattle.lapd_pair_laws.proofs.Lists.{by_test}
use Rattle.lapd_pair_laws.proofs.MidSteps.{enter}
use Rattle.lapd_pair_laws.proofs.Steps.{context, begun}
use Rattle.lapd_pair_laws.proofs.Worlds.{left_by, exchanged}
use Rattle.lapd_pair_laws.specs.Timed.{IsClosed, IsSettledEnd, AreSettledEnds}
use Rattle.lapd_pair_laws.proofs.Flow.{source, sink, Stage, Clean, Waiting, Polling, Answered, IsAt, Flow}
use Rattle.lapd_pair_laws.proofs.WorkOfActions.{with_pending, is_ready, AreReady, Draws}
use Rattle.lapd_pair_laws.proofs.WorkOfRows as rows
use Rattle.lapd_pair_laws.proofs.WorkOfClosing.{draws_close}
use Rattle.lapd_pair_laws.proofs.SettledEnds.{closed_step}

-- ---- The view of a side.

pub record Seen (n : ℕ) (v : View) (peer : Station) : Type 0 where
  pub flow : Flow v.station.end peer.end (kinds v.outgoing) (kinds v.incoming) n
  pub idle : v.station.end.window.own_busy ≡ false
  pub its_idle : peer.end.window.own_busy ≡ false
  pub proceeding : AreReady v.outgoing
  pub arriving : AreReady v.incoming

pub record Drains (n : ℕ) (w : World) : Type 0 where
  pub holds : IsInvariant w
  pub ends_settled : AreSettledEnds w
  pub sees : Seen n (view_of side.User w) w.network

-- both are open
open_at : (e : End) (y : End) (stage : Stage) (out back : List Kind)
    → IsAt stage (source e) (sink y) out back → is_7_or_8 e.state ≡ true
open_at e y Clean out back c = rw c.in_7 refl
open_at e y Waiting out back w = rw w.0 refl
open_at e y Polling out back w = rw w.0 refl
open_at e y Answered out back w = rw w.0 refl

pub mine_open : {n : ℕ} {x y : End} {out back : List Kind} → Flow x y out back n
    → is_7_or_8 x.state ≡ true
mine_open {x = x} {y = y} {out = out} {back = back} f = open_at x y f.mine.stage out back f.mine.so

pub its_open : {n : ℕ} {x y : End} {out back : List Kind} → Flow x y out back n
    → is_7_or_8 y.state ≡ true
its_open {x = x} {y = y} {out = out} {back = back} f = open_at y x f.its.stage back out f.its.so

pub turned : {n : ℕ} {x y : End} {out back : List Kind} → Flow x y out back n → Flow y x back out n
turned f = record {
  a = f.b;
  b = f.a;
  mine = f.its;
  its = f.mine;
  most = let le = f.most in omega (arith, le);
}

pub drains_swapped : (n : ℕ) (w : World) → Drains n w → Drains n (swapped w)
drains_swapped n w d = record {
  holds = exchanged w d.holds;
  ends_settled = record { user = d.ends_settled.network; network = d.ends_settled.user };
  sees =
      let s = d.sees in
      record {
        flow = turned s.flow;
        idle = s.its_idle;
        its_idle = s.idle;
        proceeding = s.arriving;
        arriving = s.proceeding;
      };
}

-- ---- A step.

not_unit : (control : Control) (role : Role) → is_ready control ≡ true
    → is_unit_data control role ≡ true → ⊥
not_unit (Ui p) Command plain unit = cc
not_unit (Ui p) Answer plain unit = cc
not_unit (I ns nr p) role plain unit = cc
not_unit (Rr nr pf) role plain unit = cc
not_unit (Rej nr pf) role plain unit = cc
not_unit control role plain unit = cc

-- the view after the step
pub after_step : (octets : List ℕ) (place n : ℕ) (v : View) (peer : Station)
    (incoming : List Flight) (base its_base : ℕ) (s : StepState) → IsClosed s.end
    → is_7_or_8 s.end.state ≡ true → peer.end.window.own_busy ≡ false → AreReady incoming
    → Draws (context base octets place v incoming peer its_base) peer.end (kinds incoming) n s
    → Seen n (view_after octets place (record v { incoming = incoming }) s) peer
unfolding view_after
after_step octets place n v peer incoming base its_base s closed opened its_idle arriving d =
    let bare : Flow s.end peer.end (kinds d.frames) (kinds incoming) n =
    subst (λ b. Flow s.end peer.end (with_pending b s.end.window.vr (kinds d.frames))
    (kinds incoming) n) (closed.acknowledged opened) d.flow in
    record {
      flow = subst (λ l. Flow s.end peer.end (kinds l) (kinds incoming) n) (sym d.so) bare;
      idle = d.idle;
      its_idle = its_idle;
      proceeding = subst AreReady (sym d.so) d.ready;
      arriving = arriving;
    }

-- and the step drops no message
pub preserved_after : (octets : List ℕ) (place n : ℕ) (v : View) (peer : Station)
    (incoming : List Flight) (base its_base : ℕ) (s : StepState)
    → Draws (context base octets place v incoming peer its_base) peer.end (kinds incoming) n s
    → (view_after octets place (record v { incoming = incoming }) s).station.history.dropped
    ≡ v.station.history.dropped
unfolding view_after
preserved_after octets place n v peer incoming base its_base s d = d.preserved

-- ---- A frame is delivered.

module _ (station peer : Station) (frame : Flight) (rest outgoing : List Flight)
    (n base its_base : ℕ)
    (both : Both (party base station) (party its_base peer) (kinds outgoing) (kinds (frame ∷ rest)))
    (ends_settled : IsSettledEnd station.end) where
  abbrev v : View
  v = record { station = station; incoming = frame ∷ rest; outgoing = outgoing }

  abbrev c : Context
  c = context base frame.info frame.place v rest peer its_base

  abbrev e : End
  e = station.end

  by_open_state : (state : State) → e.state ≡ state → is_7_or_8 state ≡ true
      → is_7_or_8 peer.end.state ≡ true → is_ready frame.control ≡ true
      → HoldsMid c (kind frame ∷ kinds rest) (begin e)
      → Draws c peer.end (kind frame ∷ kinds rest) n (begin e)
      → Draws c peer.end (kinds rest) (n - 1)
      (by_state Whole state (Heard frame.control frame.role) (begin e))
  unfolding by_state begin
  by_open_state MultipleFrameEstablished is opened its_open plain m d =
      rows.in_7 base its_base frame.place frame.info (record v { incoming = rest }) peer its_open
      (kinds rest) n frame.control frame.role (begin e) plain is
      (ends_settled.closed.acknowledged (rw is refl)) (m, d)
  by_open_state TimerRecovery is opened its_open plain m d =
      rows.in_8 base its_base frame.place frame.info (record v { incoming = rest }) peer its_open
      (kinds rest) n frame.control frame.role (begin e) plain is
      (ends_settled.closed.acknowledged (rw is refl)) (m, d)
  by_open_state TeiAssigned is opened its_open plain m d = cc
  by_open_state AwaitingEstablishment is opened its_open plain m d = cc
  by_open_state AwaitingRelease is opened its_open plain m d = cc

  abbrev done : StepState
  done = end_step Whole (row Whole e.state (Heard frame.control frame.role) (begin e))

  draws_row : Seen n v peer → Draws c peer.end (kinds rest) (n - 1) done
  unfolding row begin story_after
  draws_row s =
      let opened = mine_open s.flow in
      let m : HoldsMid c (kind frame ∷ kinds rest) (begin e) =
      enter (seen c (begin e)) c.peer (line c (begin e)) (kind frame ∷ kinds rest) opened
      (begun c (kind frame ∷ kinds rest) both) in
      let d : Draws c peer.end (kind frame ∷ kinds rest) n (begin e) = record {
        frames = outgoing;
        so = refl;
        preserved = refl;
        flow =
            subst (λ b. Flow e
            peer.end (with_pending b e.window.vr (kinds outgoing)) (kind frame ∷ kinds rest) n)
            (sym (ends_settled.closed.acknowledged opened)) s.flow;
        idle = s.idle;
        ready = s.proceeding;
      } in
      draws_close c peer.end (kinds rest) (n - 1) _
      (by_test (λ (t : StepState). Draws c peer.end (kinds rest) (n - 1) t)
      (is_unit_data frame.control frame.role) _ _
      (λ unit. absurd (not_unit frame.control frame.role s.arriving.0 unit))
      (λ _. by_open_state e.state refl opened (its_open s.flow) s.arriving.0 m d))

  pub seen_delivered : Seen n v peer
      → Seen (n - 1) (left_by v (acts Whole side.User Deliver v)) peer
  unfolding acts delivers receives step
  seen_delivered s =
      let d = draws_row s in
      after_step frame.info frame.place (n - 1) v peer rest base its_base done
      (closed_step (Heard frame.control frame.role) e done refl) (mine_open d.flow) s.its_idle
      s.arriving.1 d

  pub preserved_delivered : Seen n v peer
      → (left_by v (acts Whole side.User Deliver v)).station.history.dropped
      ≡ v.station.history.dropped
  unfolding acts delivers receives step
  preserved_delivered s =
      preserved_after frame.info frame.place (n - 1) v peer rest base its_base done (draws_row s)
