-- How often an end may still establish anew by itself, and which requests and responses are still
-- to come: a frame is delivered in states 7 and 8.
use Rattle.std.proofs.Common.{◌≡◌, ◌⊎◌, inl, inr, ℕ, zero, suc, ◌+◌, ◌-◌, ◌*◌, ◌≤◌, not, Bool, true, false, List, [], ◌∷◌, ◌++◌, length, refl, sym, ap, subst, ◌∙◌, arith}
use Rattle.lapd_frame.specs.declared.Control.{Control}
use Rattle.lapd_frame.specs.declared.Control.TheVariants.{I, Rr, Rnr, Rej, Sabme, Dm, Ui, Disc, Ua}
use Rattle.lapd_frame.specs.declared.Role.{Role}
use Rattle.lapd_frame.specs.declared.Role.TheVariants.{Command, Answer}
use Rattle.lapd_frame.specs.declared.Side.TheVariants as side
use Rattle.lapd_mod128.specs.Counting.{Whole}
use Rattle.lapd_link_definition.specs.declared.state.State.{State}
use Rattle.lapd_link_definition.specs.declared.state.State.TheVariants.{TeiAssigned, AwaitingEstablishment, AwaitingRelease, MultipleFrameEstablished, TimerRecovery}
use Rattle.lapd_link_definition.specs.EndOfStep.{is_7_or_8, end_step}
use Rattle.lapd_link_definition.specs.End.{End, StepState, begin, unsent, waiting}
use Rattle.lapd_link_definition.specs.Input.{Heard}
use Rattle.lapd_link_definition.specs.Table.{row, step}
use Rattle.lapd_pair_laws.specs.Conjuncts.{IsNumbering, most_asks}
use Rattle.lapd_pair_laws.specs.Invariant.{Both, IsInvariant}
use Rattle.lapd_pair_laws.specs.Kinds.{Message, Kind, kind, kind_of, kinds, message_of, messages, tally, ask_of, answer_of, final_of, foreign_of}
use Rattle.lapd_pair_laws.specs.Line.{Flight}
use Rattle.lapd_pair_laws.specs.Move.{Deliver, Station, View, acts, receives, delivers, view_after, story_after}
use Rattle.lapd_pair_laws.specs.Parties.{party}
use Rattle.lapd_pair_laws.specs.Timed.{IsSettledEnd}
use Rattle.lapd_pair_laws.proofs.ActionEffects.{Context, story}
use Rattle.lapd_pair_laws.proofs.Flow.{IsWhole}
use Rattle.lapd_pair_laws.proofs.Lists.{tally_append}
use Rattle.lapd_pair_laws.proofs.MidSteps.{Mid, enter, numbering, open_asks_none}
use Rattle.lapd_pair_laws.proofs.Steps.{context}
use Rattle.lapd_pair_laws.proofs.WorkOfActions.{is_ready, AreReady}
use Rattle.lapd_pair_laws.proofs.Worlds.{left_by}
use Rattle.lapd_recovery_laws.specs.EarlyTimers.{is_message, messages_in}
use Rattle.lapd_recovery_laws.specs.Losses.{one_if}
use Rattle.lapd_recovery_laws.specs.Own.{IsFree}
use Rattle.lapd_recovery_laws.proofs.ClosedSteps.{Sees}
use Rattle.lapd_recovery_laws.proofs.EndSends.{Unsending, kinds_append, Closes, end_closes}
use Rattle.lapd_recovery_laws.proofs.Expiries.{unready_of, unready, one_if_few}
use Rattle.lapd_recovery_laws.proofs.Lost.{at}
use Rattle.lapd_recovery_laws.proofs.OneMoreFrame.{seeing}
use Rattle.lapd_recovery_laws.proofs.OpenDelivers.{answered_so}
use Rattle.lapd_recovery_laws.proofs.OpenFrames.{Stays, open_delivered}
use Rattle.lapd_recovery_laws.proofs.OpenTimers.{only_runs}
use Rattle.lapd_recovery_laws.proofs.Replies.{Sending, Replies, Backs, Turns}
use Rattle.lapd_recovery_laws.proofs.SendsOn.{Opens}

-- ---- Frames that start T200: RNR. UI counts too, so that only requests and responses are left.

abbrev pub halts : Control → Bool
halts (Rnr nr pf) = true
halts (Ui p) = true
halts control = false

abbrev pub halting_of : Flight → ℕ
halting_of f = one_if (halts f.control)

abbrev pub halting : List Flight → ℕ
halting [] = 0
halting (f ∷ fs) = halting_of f + halting fs

pub halting_append : (fs gs : List Flight) → halting (fs ++ gs) ≡ halting fs + halting gs
halting_append [] gs = omega arith
halting_append (f ∷ fs) gs = let rest = halting_append fs gs in omega (arith, rest)

pub halting_few : (fs : List Flight) → halting fs ≤ length fs
halting_few [] = omega arith
halting_few (f ∷ fs) =
    let one = one_if_few (halts f.control) in let rest = halting_few fs in omega (arith, one, rest)

ready_goes_on : (control : Control) → is_ready control ≡ true → halts control ≡ false
ready_goes_on (I ns nr p) ready = refl
ready_goes_on (Rr nr pf) ready = refl
ready_goes_on (Rej nr pf) ready = refl
ready_goes_on control ready = cc

pub none_halting : (fs : List Flight) → AreReady fs → halting fs ≡ 0
none_halting [] ready = refl
none_halting (f ∷ fs) ready =
    let one : halting_of f ≡ 0 = ap one_if (ready_goes_on f.control ready.0) in
    let rest = none_halting fs ready.1 in omega (arith, one, rest)

-- all other frames that are not ready are requests, responses, or of no end
unready_halts : (control : Control) (role : Role) (info : List ℕ) (place : ℕ)
    → is_ready control ≡ false → ask_of (kind_of role control info place) ≡ 0
    → answer_of (kind_of role control info place) ≡ 0
    → foreign_of (kind_of role control info place) ≡ 0 → halts control ≡ true
unready_halts (Rnr nr pf) role info place other no_ask no_answer known = refl
unready_halts (Ui p) role info place other no_ask no_answer known = refl
unready_halts (Sabme true) Command info place other no_ask no_answer known = cc
unready_halts (Sabme false) Command info place other no_ask no_answer known = cc
unready_halts (Disc true) Command info place other no_ask no_answer known = cc
unready_halts (Disc false) Command info place other no_ask no_answer known = cc
unready_halts (Ua true) Answer info place other no_ask no_answer known = cc
unready_halts (Ua false) Answer info place other no_ask no_answer known = cc
unready_halts (Dm true) Answer info place other no_ask no_answer known = cc
unready_halts (Dm false) Answer info place other no_ask no_answer known = cc
unready_halts control Command info place other no_ask no_answer known = cc
unready_halts control Answer info place other no_ask no_answer known = cc

unready_one : (f : Flight) → ask_of (kind f) ≡ 0 → answer_of (kind f) ≡ 0
    → foreign_of (kind f) ≡ 0 → unready_of f ≤ halting_of f
unready_one f no_ask no_answer known = by_ready (is_ready f.control) refl
  where
    by_ready : (ready : Bool) → is_ready f.control ≡ ready → unready_of f ≤ halting_of f
    by_ready true ready =
        let none : unready_of f ≡ 0 = ap (λ b. one_if (not b)) ready in omega (arith, none)
    by_ready false other =
        let one : unready_of f ≡ 1 = ap (λ b. one_if (not b)) other in
        let some : halting_of f ≡ 1 =
        ap one_if (unready_halts f.control f.role f.info f.place other no_ask no_answer known) in
        omega (arith, one, some)

pub unready_halting : (fs : List Flight) → tally ask_of (kinds fs) ≡ 0
    → tally answer_of (kinds fs) ≡ 0 → tally foreign_of (kinds fs) ≡ 0 → unready fs ≤ halting fs
unready_halting [] no_ask no_answer known = omega arith
unready_halting (f ∷ fs) no_ask no_answer known =
    let one =
    unready_one f (omega (arith, no_ask)) (omega (arith, no_answer)) (omega (arith, known)) in
    let rest =
    unready_halting fs (omega (arith, no_ask)) (omega (arith, no_answer))
    (omega (arith, known)) in
    omega (arith, one, rest)

-- ---- Messages among these frames.

whole_le : (low end : ℕ) (ms : List Message) → IsWhole low end ms → low ≤ end
whole_le low end [] w = omega (arith, w)
whole_le low end (m ∷ ms) w = let le = whole_le (low + 1) end ms w.1 in omega (arith, le)

whole_none : (low end : ℕ) (ms : List Message) → end ≡ low → IsWhole low end ms → ms ≡ []
whole_none low end [] same w = refl
whole_none low end (m ∷ ms) same w =
    absurd (let le = whole_le (low + 1) end ms w.1 in omega (arith, same, le))

one_message : (role : Role) (control : Control) (info : List ℕ) (place : ℕ) (ms : List Message)
    → one_if (is_message control) + length ms
    ≤ length (message_of (kind_of role control info place) ++ ms)
    + foreign_of (kind_of role control info place)
one_message Command (I ns nr p) info place ms = omega arith
one_message Answer (I ns nr p) info place ms = omega arith
one_message Command (Rr nr true) info place ms = omega arith
one_message Command (Rr nr false) info place ms = omega arith
one_message Answer (Rr nr true) info place ms = omega arith
one_message Answer (Rr nr false) info place ms = omega arith
one_message Command (Rnr nr true) info place ms = omega arith
one_message Command (Rnr nr false) info place ms = omega arith
one_message Answer (Rnr nr true) info place ms = omega arith
one_message Answer (Rnr nr false) info place ms = omega arith
one_message Command (Rej nr pf) info place ms = omega arith
one_message Answer (Rej nr true) info place ms = omega arith
one_message Answer (Rej nr false) info place ms = omega arith
one_message Command (Sabme true) info place ms = omega arith
one_message Command (Disc true) info place ms = omega arith
one_message Command (Ui p) info place ms = omega arith
one_message Answer (Ua true) info place ms = omega arith
one_message Answer (Dm true) info place ms = omega arith
one_message Command control info place ms = omega arith
one_message Answer control info place ms = omega arith

messages_few : (fs : List Flight)
    → messages_in fs ≤ length (messages (kinds fs)) + tally foreign_of (kinds fs)
messages_few [] = omega arith
messages_few (f ∷ fs) =
    let one = one_message f.role f.control f.info f.place (messages (kinds fs)) in
    let rest = messages_few fs in omega (arith, one, rest)

-- ---- Establishments.

-- n bounds how often the end establishes anew by itself. Before it does, a message that waits is
-- acknowledged or dropped, unless none is outstanding while the end waits for the peer.
pub record Renews (e : End) (n : ℕ) : Type 0 where
  pub left : is_7_or_8 e.state ≡ true → waiting e ≤ n
  pub idle : is_7_or_8 e.state ≡ true → (e.state ≡ TimerRecovery) ⊎ (e.t200 ≡ true)
      → e.window.vs ≡ e.window.va → waiting e + 1 ≤ n
  pub kept : e.state ≡ AwaitingEstablishment → e.window.vs ≡ e.window.va → waiting e ≤ n

pub renews_more : (e : End) (m n : ℕ) → m ≤ n → Renews e m → Renews e n
renews_more e m n le r = record {
  left = λ o. let few = r.left o in omega (arith, few, le);
  idle = λ o waits level. let few = r.idle o waits level in omega (arith, few, le);
  kept = λ is level. let few = r.kept is level in omega (arith, few, le);
}

-- in states 4 and 6
pub shut_renews : (e : End) (n : ℕ) → is_7_or_8 e.state ≡ false
    → (e.state ≡ AwaitingEstablishment → ⊥) → Renews e n
shut_renews e n shut other = record {
  left = λ o. cc;
  idle = λ o waits level. cc;
  kept = λ is level. absurd (other is);
}

-- the messages that wait, in states 7 and 8
pub record IsCounted (e : End) : Type 0 where
  pub ordered : e.window.va ≤ e.window.vs
  pub all : waiting e ≡ unsent e + (e.window.vs - e.window.va)

pub counted : (x y : Station) (base its_base : ℕ) (out back : List Kind)
    → Both (party base x) (party its_base y) out back → is_7_or_8 x.end.state ≡ true
    → IsCounted x.end
counted x y base its_base out back both opened =
    let m : Mid (party base x) (party its_base y) out back =
    enter (party base x) (party its_base y) out back opened both in
    let n : IsNumbering (party base x).sends = numbering m in
    let first : x.end.first ≡ base + x.end.window.va = n.first in
    let next : x.end.next ≡ base + x.end.window.vs = n.next in
    let within : x.end.next ≤ length x.end.given = n.within in
    let ordered : x.end.window.va ≤ x.end.window.vs = n.ordered in
    record { ordered = ordered; all = omega (arith, first, next, within, ordered) }

-- ---- Requests.

-- what is still to come: 3 before the request is sent, 2 while it is in transit, 1 while the
-- response is; and 3 more for a pending release
abbrev pub request_in : State → Bool → ℕ → ℕ
request_in AwaitingEstablishment true n = 6 - n
request_in AwaitingEstablishment false n = 3 - n
request_in AwaitingRelease waits n = 3 - n
request_in state waits n = 0

abbrev pub under_way : List Kind → List Kind → ℕ
under_way out back = tally ask_of out + 2 * tally answer_of back

abbrev pub request : End → List Kind → List Kind → ℕ
request e out back = request_in e.state e.release_pending (under_way out back)

pub request_falls : (state : State) (waits : Bool) (a b j : ℕ) → a + j ≤ b → j ≤ 2 * most_asks state
    → a + j ≤ 3 → request_in state waits b + j ≤ request_in state waits a
request_falls AwaitingEstablishment true a b j le most few = omega (arith, le, few)
request_falls AwaitingEstablishment false a b j le most few = omega (arith, le, few)
request_falls AwaitingRelease waits a b j le most few = omega (arith, le, few)
request_falls TeiAssigned waits a b j le most few = omega (arith, most)
request_falls MultipleFrameEstablished waits a b j le most few = omega (arith, most)
request_falls TimerRecovery waits a b j le most few = omega (arith, most)

pub open_requests_none : (state : State) (waits : Bool) (n : ℕ) → is_7_or_8 state ≡ true
    → request_in state waits n ≡ 0
open_requests_none MultipleFrameEstablished waits n o = refl
open_requests_none TimerRecovery waits n o = refl
open_requests_none state waits n o = cc

pub request_few : (state : State) (waits : Bool) (n : ℕ) → request_in state waits n ≤ 6
request_few AwaitingEstablishment true n = omega arith
request_few AwaitingEstablishment false n = omega arith
request_few AwaitingRelease waits n = omega arith
request_few TeiAssigned waits n = omega arith
request_few MultipleFrameEstablished waits n = omega arith
request_few TimerRecovery waits n = omega arith

-- ---- After a delivery.

-- x stays in states 7 and 8
pub record HasStayed (x z : End) (k : Kind) : Type 0 where
  pub was : is_7_or_8 x.state ≡ true
  pub still : is_7_or_8 z.state ≡ true
  pub in_8 : z.state ≡ TimerRecovery → (x.state ≡ TimerRecovery) × (z.rc ≡ x.rc) × (final_of k ≡ 0)
  pub in_7 : z.state ≡ MultipleFrameEstablished
      → (x.state ≡ MultipleFrameEstablished) ⊎ (final_of k ≡ 1)

-- `frame` is delivered to x, which sends `new`
pub record Handles (x : End) (frame : Flight) (rest outgoing : List Flight) (z : End)
    (new : List Flight) : Type 0 where
  pub answers : ask_of (kind frame) ≤ tally answer_of (kinds new)
  pub falls : request z (kinds (outgoing ++ new)) (kinds rest) + answer_of (kind frame)
      ≤ request x (kinds outgoing) (kind frame ∷ kinds rest)
  pub renews : (n : ℕ) → Renews x n → Renews z (n + halting_of frame)
  pub ready : IsFree x → halting new ≡ 0
  pub quiet : z.state ≡ TimerRecovery → (x.state ≡ TimerRecovery) × (messages_in new ≡ 0)
  pub calm : ask_of (kind frame) ≡ 0 → answer_of (kind frame) ≡ 0
      → HasStayed x z (kind frame) ⊎ ((z ≡ x) × (new ≡ []))

pub record HandlesIn (x : End) (frame : Flight) (rest outgoing : List Flight) (v : View) : Type 0
  where
    pub new : List Flight
    pub sent : v.outgoing ≡ outgoing ++ new
    pub incoming : v.incoming ≡ rest
    pub handles : Handles x frame rest outgoing v.station.end new

pub by_sees : (x : End) (frame : Flight) (rest outgoing : List Flight) (v : View) (z : End)
    (new : List Flight) → Sees v z rest (outgoing ++ new) → Handles x frame rest outgoing z new
    → HandlesIn x frame rest outgoing v
by_sees x frame rest outgoing v z new s h = record {
  new = new;
  sent = s.outgoing;
  incoming = s.incoming;
  handles = subst (λ e. Handles x frame rest outgoing e new) (sym s.end) h;
}

-- ---- States 7 and 8: no SABME, DISC or response to one arrives.

module _ (x y : Station) (frame : Flight) (rest outgoing : List Flight)
    (i : IsInvariant (at x y (frame ∷ rest) outgoing)) (settled : IsSettledEnd x.end)
    (opened : is_7_or_8 x.end.state ≡ true) (none : ask_of (kind frame) ≡ 0) where
  abbrev v : View
  v = seeing x (frame ∷ rest) outgoing

  abbrev c : Context
  c = context i.user_base frame.info frame.place v rest y i.network_base

  abbrev s : StepState
  s = begin x.end

  abbrev t : StepState
  t = row Whole x.end.state (Heard frame.control frame.role) s

  abbrev u : StepState
  u = end_step Whole t

  abbrev k : Kind
  k = kind frame

  abbrev ks : List Kind
  ks = kinds rest

  closing : Closes c t u
  closing = end_closes c t

  turned : Turns c k ks s t
  turned =
      ((open_delivered x y frame rest outgoing i.user_base i.network_base settled opened
      i.both).1.0 none).1

  stays : Stays x.end x.history.dropped k outgoing u.end (story c u).history.dropped
      (story c u).line
  stays =
      ((open_delivered x y frame rest outgoing i.user_base i.network_base settled opened
      i.both).1.0 none).0

  less : waiting u.end ≤ waiting x.end
  less =
      (open_delivered x y frame rest outgoing i.user_base i.network_base settled opened
      i.both).0.fewer

  no_answer : answer_of k ≡ 0
  no_answer =
      let one = i.both.mine.exchange.one in
      let most : most_asks x.end.state ≡ 0 = open_asks_none x.end.state opened in
      omega (arith, one, most)

  -- an RNR or UI
  halts_so : is_ready frame.control ≡ false → halting_of frame ≡ 1
  halts_so other =
      let clean = i.both.its.exchange.clean in
      ap one_if (unready_halts frame.control frame.role frame.info frame.place other none no_answer
      (omega (arith, clean)))

  -- ---- Establishments.

  module _ (now : IsCounted u.end) (n : ℕ) (r : Renews x.end n) where
    was : IsCounted x.end
    was = counted x y i.user_base i.network_base (kinds outgoing) (k ∷ ks) i.both opened

    abbrev Enough : ℕ → Type 0
    Enough m = m + 1 ≤ n + halting_of frame

    -- T200 ran in state 7, or an RNR starts it
    ran : t.end.state ≡ MultipleFrameEstablished → t.end.t200 ≡ true
        → x.end.window.vs ≡ x.end.window.va → Enough (waiting x.end)
    unfolding begin
    ran in_7 on level = by_ready (is_ready frame.control) refl
      where
        by_ready : (ready : Bool) → is_ready frame.control ≡ ready → Enough (waiting x.end)
        by_ready true ready =
            let before =
            only_runs x.end frame.control frame.role settled opened ready in_7 on in
            let enough = r.idle opened (inr before.1) level in omega (arith, enough)
        by_ready false other =
            let one : halting_of frame ≡ 1 = halts_so other in
            let few = r.left opened in omega (arith, one, few)

    -- the frame is answered
    module _ (p : Replies c k s t) where
      state : u.end.state ≡ x.end.state
      unfolding begin
      state =
          ap (λ (w : Unsending). w.state) closing.same
          ∙ ap (λ (w : Sending). w.state) p.sending_same

      fewer : unsent u.end + closing.sent ≡ unsent x.end
      unfolding begin
      fewer =
          let all = closing.fewer in
          let same : unsent t.end ≡ unsent x.end =
          ap (λ (w : Sending). length w.given - w.next) p.sending_same in
          omega (arith, all, same)

      started : u.end.t200 ≡ true → closing.sent ≡ 0 → x.end.window.vs ≡ x.end.window.va
          → Enough (waiting x.end)
      unfolding begin
      started on nothing level = by_start (closing.timed on)
        where
          in_state : (state : State) → x.end.state ≡ state → is_7_or_8 state ≡ true
              → t.end.t200 ≡ true → Enough (waiting x.end)
          in_state MultipleFrameEstablished is o runs =
              ran (ap (λ (w : Sending). w.state) p.sending_same ∙ is) runs level
          in_state TimerRecovery is o runs =
              let enough = r.idle opened (inl is) level in omega (arith, enough)
          in_state state is o runs = cc

          by_start : (t.end.t200 ≡ true) ⊎ (1 ≤ closing.sent) → Enough (waiting x.end)
          by_start (inl runs) = in_state x.end.state refl opened runs
          by_start (inr some) = absurd (omega (arith, some, nothing))

      waited : (u.end.state ≡ TimerRecovery) ⊎ (u.end.t200 ≡ true) → closing.sent ≡ 0
          → x.end.window.vs ≡ x.end.window.va → Enough (waiting x.end)
      waited (inl in_8) nothing level =
          let enough = r.idle opened (inl (sym state ∙ in_8)) level in omega (arith, enough)
      waited (inr on) nothing level = started on nothing level

      replied : (u.end.state ≡ TimerRecovery) ⊎ (u.end.t200 ≡ true)
          → u.end.window.vs ≡ u.end.window.va → Enough (waiting u.end)
      replied waits level = by_level (x.end.window.vs - x.end.window.va) refl
        where
          none_out : waiting u.end ≡ unsent u.end
          none_out = let all = now.all in omega (arith, all, level)

          by_sent : (sent : ℕ) → closing.sent ≡ sent → x.end.window.vs ≡ x.end.window.va
              → Enough (waiting u.end)
          by_sent zero is same =
              let enough = waited waits is same in
              let le = less in omega (arith, enough, le)
          by_sent (suc j) is same =
              let out = none_out in
              let all = was.all in
              let f = fewer in
              let few = r.left opened in
              omega (arith, is, out, all, f, few)

          by_level : (d : ℕ) → x.end.window.vs - x.end.window.va ≡ d → Enough (waiting u.end)
          by_level zero is =
              let ordered = was.ordered in by_sent closing.sent refl (omega (arith, is, ordered))
          by_level (suc d) is =
              let out = none_out in
              let all = was.all in
              let f = fewer in
              let few = r.left opened in
              omega (arith, is, out, all, f, few)

    -- V(S) is set back
    set_back : Backs c k ks s t → (u.end.state ≡ TimerRecovery) ⊎ (u.end.t200 ≡ true)
        → u.end.window.vs ≡ u.end.window.va → Enough (waiting u.end)
    unfolding begin
    set_back b waits level = by_waits waits
      where
        in_7 : u.end.state ≡ MultipleFrameEstablished
        in_7 = ap (λ (w : Unsending). w.state) closing.same ∙ b.in_7

        nothing : closing.sent ≡ 0
        nothing =
            let given = ap (λ (w : Unsending). length w.given) closing.same in
            let first = ap (λ (w : Unsending). w.first) closing.same in
            let next = b.next in
            let f = closing.fewer in
            let all = now.all in
            omega (arith, given, first, next, f, all, level)

        by_ready : (ready : Bool) → is_ready frame.control ≡ ready
            → x.end.state ≡ TimerRecovery → t.end.t200 ≡ true → Enough (waiting u.end)
        by_ready true ready is on =
            let before =
            only_runs x.end frame.control frame.role settled opened ready b.in_7 on in
            let impossible : TimerRecovery ≡ MultipleFrameEstablished = sym is ∙ before.0 in
            cc
        by_ready false other is on =
            let one : halting_of frame ≡ 1 = halts_so other in
            let few = r.left opened in
            let le = less in
            omega (arith, one, few, le)

        in_state : (state : State) → x.end.state ≡ state → is_7_or_8 state ≡ true
            → t.end.t200 ≡ true → Enough (waiting u.end)
        in_state MultipleFrameEstablished is o on = let off = b.stopped is in cc
        in_state TimerRecovery is o on = by_ready (is_ready frame.control) refl is on
        in_state state is o on = cc

        by_start : (t.end.t200 ≡ true) ⊎ (1 ≤ closing.sent) → Enough (waiting u.end)
        by_start (inl runs) = in_state x.end.state refl opened runs
        by_start (inr some) = let zero_ = nothing in absurd (omega (arith, some, zero_))

        by_waits : (u.end.state ≡ TimerRecovery) ⊎ (u.end.t200 ≡ true) → Enough (waiting u.end)
        by_waits (inl is) =
            let impossible : MultipleFrameEstablished ≡ TimerRecovery = sym in_7 ∙ is in cc
        by_waits (inr on) = by_start (closing.timed on)

    renewed : Renews u.end (n + halting_of frame)
    renewed = record {
      left = λ o. let few = r.left opened in let le = less in omega (arith, few, le);
      idle = λ o waits level. by_turn turned waits level;
      kept = λ in_5 level.
          let o = stays.open_state in
          absurd (let shut : is_7_or_8 u.end.state ≡ false = ap is_7_or_8 in_5 in cc);
    }
      where
        by_turn : Turns c k ks s t → (u.end.state ≡ TimerRecovery) ⊎ (u.end.t200 ≡ true)
            → u.end.window.vs ≡ u.end.window.va → Enough (waiting u.end)
        by_turn (inl p) waits level = replied p waits level
        by_turn (inr b) waits level = set_back b waits level

  -- ---- The frames that are sent.

  record HasSent : Type 0 where
    new : List Flight
    sent : (story c u).line ≡ outgoing ++ new
    silent : u.end.state ≡ TimerRecovery → messages (kinds new) ≡ []
    ready : x.end.window.own_busy ≡ false → AreReady new

  has_sent : HasSent
  unfolding begin story_after
  has_sent = by_turn turned
    where
      none_sent : x.end.state ≡ TimerRecovery → (count : ℕ)
          → (count ≡ 0) ⊎ (x.end.state ≡ MultipleFrameEstablished)
          → u.end.window.vs ≡ x.end.window.vs + count → u.end.window.vs ≡ x.end.window.vs
      none_sent in_8 count (inl none_) vs = omega (arith, none_, vs)
      none_sent in_8 count (inr in_7) vs =
          let impossible : TimerRecovery ≡ MultipleFrameEstablished = sym in_8 ∙ in_7 in cc

      by_turn : Turns c k ks s t → HasSent
      by_turn (inl p) =
          let a = answered_so c k s t outgoing refl p in
          record {
            new = a.new;
            sent = a.sent;
            silent = λ is.
                let in_8 = stays.in_8 is in
                let same : u.end.window.vs ≡ x.end.window.vs =
                none_sent in_8.0 a.count a.only_7 a.further in
                whole_none x.end.window.vs u.end.window.vs (messages (kinds a.new)) same a.whole;
            ready = a.ready;
          }
      by_turn (inr b) = record {
        new = closing.frames;
        silent = λ is.
            let in_7 : u.end.state ≡ MultipleFrameEstablished =
            ap (λ (w : Unsending). w.state) closing.same ∙ b.in_7 in
            absurd (let impossible : MultipleFrameEstablished ≡ TimerRecovery = sym in_7 ∙ is in
            cc);
        sent = closing.line ∙ ap (λ l. l ++ closing.frames) b.line;
        ready = λ off. closing.ready;
      }

  stayed : HasStayed x.end u.end k
  unfolding begin
  stayed = record {
    was = opened;
    still = stays.open_state;
    in_8 = stays.in_8;
    in_7 = λ is. by_turn is turned;
  }
    where
      in_state : Backs c k ks s t → (state : State) → x.end.state ≡ state
          → is_7_or_8 state ≡ true
          → (x.end.state ≡ MultipleFrameEstablished) ⊎ (final_of k ≡ 1)
      in_state b MultipleFrameEstablished is o = inl is
      in_state b TimerRecovery is o = inr (b.final is)
      in_state b state is o = cc

      by_turn : u.end.state ≡ MultipleFrameEstablished → Turns c k ks s t
          → (x.end.state ≡ MultipleFrameEstablished) ⊎ (final_of k ≡ 1)
      by_turn is (inl p) =
          inl (sym (ap (λ (w : Unsending). w.state) closing.same
          ∙ ap (λ (w : Sending). w.state) p.sending_same) ∙ is)
      by_turn is (inr b) = in_state b x.end.state refl opened

  open_handles : IsCounted u.end → tally foreign_of (kinds (story c u).line) ≡ 0
      → Handles x.end frame rest outgoing u.end has_sent.new
  open_handles now clean = record {
    answers = omega (arith, none);
    falls =
        let zero_ =
        open_requests_none u.end.state u.end.release_pending
        (under_way (kinds (outgoing ++ has_sent.new)) ks) stays.open_state in
        let quiet = no_answer in
        omega (arith, zero_, quiet);
    renews = λ n r. renewed now n r;
    ready = λ free. none_halting has_sent.new (has_sent.ready (free opened));
    quiet = λ is.
        let none_ = ap length (has_sent.silent is) in
        let few = messages_few has_sent.new in
        let same = ap (λ l. tally foreign_of (kinds l)) has_sent.sent in
        let all = ap (λ l. tally foreign_of l) (kinds_append outgoing has_sent.new) in
        let sum = tally_append foreign_of (kinds outgoing) (kinds has_sent.new) in
        ((stays.in_8 is).0, omega (arith, none_, few, same, all, sum, clean));
    calm = λ a b. inl stayed;
  }

  pub open_handles_in : (is_7_or_8 (left_by v (acts Whole side.User Deliver v)).station.end.state
      ≡ true → IsCounted (left_by v (acts Whole side.User Deliver v)).station.end)
      → tally foreign_of (kinds (left_by v (acts Whole side.User Deliver v)).outgoing) ≡ 0
      → HandlesIn x.end frame rest outgoing (left_by v (acts Whole side.User Deliver v))
  unfolding acts delivers receives step view_after
  open_handles_in now clean = record {
    new = has_sent.new;
    sent = has_sent.sent;
    incoming = refl;
    handles = open_handles (now stays.open_state) clean;
  }

-- ---- A SABME or DISC in states 7 and 8.

-- the end has just established
pub opens_renews : (m n : ℕ) (sent rest : List Flight) (v : View) → Opens m sent rest v
    → IsCounted v.station.end → m ≤ n → Renews v.station.end n
opens_renews m n sent rest v o now le = record {
  left = λ opened. few;
  idle = λ opened waits level. by_waits waits level;
  kept = λ in_5 level.
      let is = o.up.in_7 in
      absurd (let impossible : MultipleFrameEstablished ≡ AwaitingEstablishment = sym is ∙ in_5 in
      cc);
}
  where
    few : waiting v.station.end ≤ n
    few =
        let all = now.all in
        let va = o.up.va in
        let vs = o.up.count in
        let fewer = o.fewer in
        omega (arith, all, va, vs, fewer, le)

    by_waits : (v.station.end.state ≡ TimerRecovery) ⊎ (v.station.end.t200 ≡ true)
        → v.station.end.window.vs ≡ v.station.end.window.va → waiting v.station.end + 1 ≤ n
    by_waits (inl in_8) level =
        let is = o.up.in_7 in
        absurd (let impossible : MultipleFrameEstablished ≡ TimerRecovery = sym is ∙ in_8 in cc)
    by_waits (inr on) level =
        let va = o.up.va in
        let vs = o.up.count in
        let off = o.up.off (omega (arith, va, vs, level)) in cc
