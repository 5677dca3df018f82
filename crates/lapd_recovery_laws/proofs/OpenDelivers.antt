-- A frame is delivered to an end in state 7 or 8: the weight falls.
use Rattle.std.proofs.Common.{◌≡◌, ◌⊎◌, inl, inr, ℕ, ◌+◌, ◌-◌, ◌*◌, ◌≤◌, Bool, true, false, List, [], ◌∷◌, ◌++◌, length, append_assoc, refl, sym, ap, subst, ◌∙◌, arith}
use Rattle.lapd_mod128.specs.Counting.{Whole}
use Rattle.lapd_link_definition.specs.declared.state.State.{State}
use Rattle.lapd_link_definition.specs.declared.state.State.TheVariants.{MultipleFrameEstablished, TimerRecovery}
use Rattle.lapd_link_definition.specs.EndOfStep.{is_7_or_8, end_step}
use Rattle.lapd_link_definition.specs.End.{End, StepState, unsent, waiting}
use Rattle.lapd_pair_laws.specs.Line.{Flight}
use Rattle.lapd_pair_laws.specs.Kinds.{Message, Kind, kinds, messages, rejection_of, rejections, tally, answer_of}
use Rattle.lapd_pair_laws.specs.Parties.{Reception, received_in, OnReception}
use Rattle.lapd_pair_laws.proofs.ActionEffects.{Context, story}
use Rattle.lapd_pair_laws.proofs.Flow.{IsWhole, IsInTransit, fresh}
use Rattle.lapd_pair_laws.proofs.Lists.{tally_append}
use Rattle.lapd_pair_laws.proofs.WorkOfActions.{AreReady}
use Rattle.lapd_recovery_laws.specs.Own.{IsFree}
use Rattle.lapd_recovery_laws.proofs.EndSends.{Unsending, pending_in, pending, kinds_append, ready_append, Closes, end_closes, Full, end_full}
use Rattle.lapd_recovery_laws.proofs.Proceeding.{weight_of, weigh, plain_of, heard, extra, extra_open, Arrives, Hears, Proceeds, hears_more, whole_joined, none_rejected, missing_in, missing, load, load_open, load_less, once_more, once_more_few, fresh_few, Share, Pays, Advances}
use Rattle.lapd_recovery_laws.proofs.Replies.{Sending, Receiving, receiving, Falls, Lacks, Replies, Backs}

-- ---- After a step on a delivered frame.

pub record Delivered (before y : End) (k : Kind) (ks : List Kind) (outgoing : List Flight) (x : End)
    (line : List Flight) : Type 0 where
  pub new : List Flight
  pub sent : line ≡ outgoing ++ new
  pub advances : Advances before x y k ks (kinds outgoing) (kinds new)
  pub fewer : waiting x ≤ waiting before
  pub free : IsFree before → IsFree x

-- ---- Open ends.

pub hears_in : (Q : Reception → Type 0) (e : End) (ks : List Kind) → is_7_or_8 e.state ≡ true
    → OnReception Q (heard e ks)
    → Q (record {
      vs = e.window.vs;
      va = e.window.va;
      vr = e.window.vr;
      rejecting = e.window.rejecting;
      frames = ks;
    })
hears_in Q e ks opened q = by_case e.state opened q
  where
    by_case : (state : State) → is_7_or_8 state ≡ true
        → OnReception Q (received_in state e.release_pending
        (record {
          vs = e.window.vs;
          va = e.window.va;
          vr = e.window.vr;
          rejecting = e.window.rejecting;
          frames = ks;
        }) ks)
        → Q (record {
          vs = e.window.vs;
          va = e.window.va;
          vr = e.window.vr;
          rejecting = e.window.rejecting;
          frames = ks;
        })
    by_case MultipleFrameEstablished o q = q
    by_case TimerRecovery o q = q
    by_case state o q = cc

pub heard_in : (Q : Reception → Type 0) (e : End) (ks : List Kind) → is_7_or_8 e.state ≡ true
    → Q (record {
      vs = e.window.vs;
      va = e.window.va;
      vr = e.window.vr;
      rejecting = e.window.rejecting;
      frames = ks;
    }) → OnReception Q (heard e ks)
heard_in Q e ks opened q = by_case e.state opened
  where
    by_case : (state : State) → is_7_or_8 state ≡ true
        → OnReception Q (received_in state e.release_pending
        (record {
          vs = e.window.vs;
          va = e.window.va;
          vr = e.window.vr;
          rejecting = e.window.rejecting;
          frames = ks;
        }) ks)
    by_case MultipleFrameEstablished o = q
    by_case TimerRecovery o = q
    by_case state o = cc

pub impossible : {A : Type 0} (b : Bool) → b ≡ true → b ≡ false → A
impossible true on off = cc
impossible false on off = cc

pub rest_wanted : (k : Kind) (ks : List Kind) → rejections (k ∷ ks) ≡ [] → rejections ks ≡ []
rest_wanted k ks none = by_first (rejection_of k) none
  where
    by_first : (l : List ℕ) → l ++ rejections ks ≡ [] → rejections ks ≡ []
    by_first [] none = none
    by_first (n ∷ l) none = cc

-- ---- A step that sets no V(S) back.

pub record Answered (vs : ℕ) (before : End) (k : Kind) (outgoing : List Flight) (x : End)
    (line : List Flight) : Type 0 where
  pub new : List Flight
  pub sent : line ≡ outgoing ++ new
  pub state : x.state ≡ before.state
  pub whole : IsWhole before.window.vs x.window.vs (messages (kinds new))
  pub no_answer : tally answer_of (kinds new) ≡ 0
  pub relief : ℕ
  pub count : ℕ
  pub light : weigh (kinds new) + 1 ≤ weight_of k + relief + count
  pub fewer : unsent x + count ≡ unsent before
  pub only_7 : (count ≡ 0) ⊎ (before.state ≡ MultipleFrameEstablished)
  pub further : x.window.vs ≡ before.window.vs + count
  pub falls : Falls vs (receiving before) (receiving x) relief
  pub plain : relief ≤ plain_of k
  pub less : waiting x ≤ waiting before
  pub own_busy : x.window.own_busy ≡ before.window.own_busy
  pub ready : before.window.own_busy ≡ false → AreReady new
  pub busy : before.window.own_busy ≡ true
      → (rejections (kinds new) ≡ []) × Lacks vs (receiving before) (receiving x) relief
  pub idle : before.window.own_busy ≡ false → (end : ℕ) (ks : List Kind)
      → IsInTransit before.window.rejecting before.window.vr end (messages (k ∷ ks))
      → (rejections (kinds new) ≡ []) × IsInTransit x.window.rejecting x.window.vr end (messages ks)
      × Lacks vs (receiving before) (receiving x) relief

-- while messages are sent, as many more are missing
missing_more : (open_state : Bool) (vs vr w u m j vs_now w_now u_now : ℕ) → vs_now ≡ vs + j
    → w_now ≤ w → u_now + j ≡ u
    → missing_in open_state vs_now vr w_now u_now ≤ missing_in open_state vs vr w u + j
missing_more true vs vr w u m j vs_now w_now u_now further less fewer = omega (arith, further)
missing_more false vs vr w u m j vs_now w_now u_now further less fewer = omega (arith, less, fewer)

module _ (e x y : End) (k : Kind) (ks : List Kind) (outgoing line : List Flight)
    (opened : is_7_or_8 e.state ≡ true) (a : Answered y.window.vs e k outgoing x line) where
  abbrev out : List Kind
  out = kinds outgoing

  abbrev new : List Kind
  new = kinds a.new

  still_open : is_7_or_8 x.state ≡ true
  still_open = ap is_7_or_8 a.state ∙ opened

  grows : missing x y ≤ missing e y + a.count
  grows =
      missing_more (is_7_or_8 y.state) e.window.vs y.window.vr (waiting e) (unsent e) 0 a.count
      x.window.vs (waiting x) (unsent x) a.further a.less a.fewer

  more_once : once_more x.state (missing x y) ≤ once_more e.state (missing e y)
  more_once =
      subst (λ st. once_more st (missing x y) ≤ once_more e.state (missing e y)) (sym a.state)
      (once_more_few e.state (missing e y) (missing x y) a.count grows a.only_7)

  pays : (n : ℕ) → Share e y out (k ∷ ks) n
      → Pays x y (out ++ new) ks (n + weight_of k + a.relief - weigh new)
  pays n (inl enough) =
      let was : load e y out ≡ 3 * unsent e + 2 * missing e y + fresh y.window.rejecting + once_more
      e.state (missing e y) =
      load_open e.state e.release_pending (unsent e) (missing e y)
      (fresh y.window.rejecting) (extra y out) opened in
      let now : load x y (out ++ new) ≡ 3 * unsent x + 2 * missing x y + fresh y.window.rejecting +
      once_more x.state (missing x y) =
      load_open x.state x.release_pending (unsent x) (missing x y)
      (fresh y.window.rejecting) (extra y (out ++ new)) still_open in
      let light = a.light in
      let fewer = a.fewer in
      let more = grows in
      let once = more_once in
      record {
        a = load x y (out ++ new);
        share = inl (omega arith);
        most = omega (arith, was, now, light, fewer, more, once, enough);
      }
  pays n (inr p) =
      let light = a.light in
      let fewer = a.fewer in
      let more = grows in
      let enough = p.1 in
      record {
        a = 3 * unsent x + missing x y;
        share =
            inr (
              record {
                in_7 = a.state ∙ p.0.in_7;
                wanted = rest_wanted k ks p.0.wanted;
                hears =
                    hears_more e.window.vs x.window.vs y out new a.no_answer a.whole p.0.hears;
              },
              omega arith,
            );
        most = omega (arith, light, fewer, more, enough);
      }

  none_more : rejections out ≡ [] → rejections new ≡ [] → rejections (out ++ new) ≡ []
  none_more wanted rejects_none = none_rejected out new wanted rejects_none

  -- what y misses
  lacks : Lacks y.window.vs (receiving e) (receiving x) a.relief
      → missing y x + a.relief ≤ missing y e
  lacks less =
      let now : missing y x ≡ y.window.vs - x.window.vr =
      ap (λ b. missing_in b y.window.vs x.window.vr (waiting y) (unsent y)) still_open in
      let was : missing y e ≡ y.window.vs - e.window.vr =
      ap (λ b. missing_in b y.window.vs e.window.vr (waiting y) (unsent y)) opened in
      omega (arith, now, was, less)

  load_falls : load y x ks + a.relief ≤ load y e (k ∷ ks)
  load_falls =
      let now : missing y x ≡ y.window.vs - x.window.vr =
      ap (λ b. missing_in b y.window.vs x.window.vr (waiting y) (unsent y)) still_open in
      let was : missing y e ≡ y.window.vs - e.window.vr =
      ap (λ b. missing_in b y.window.vs e.window.vr (waiting y) (unsent y)) opened in
      let some = extra_open x ks still_open in
      let all = extra_open e (k ∷ ks) opened in
      let falls = a.falls in
      let plain = a.plain in
      load_less y.state y.release_pending (unsent y) (missing y e) (fresh e.window.rejecting)
      (extra e (k ∷ ks)) (missing y x) (fresh x.window.rejecting) (extra x ks) a.relief
      (fresh_few e.window.rejecting) (omega (arith, now, was, falls))
      (omega (arith, some, all, plain))

  proceeds : Proceeds y e (k ∷ ks) out
      → Proceeds y x ks (out ++ new) × (missing y x + a.relief ≤ missing y e)
  proceeds p = by_busy e.window.own_busy refl p.hears
    where
      by_busy : (busy : Bool) → e.window.own_busy ≡ busy → Hears y.window.vs e (k ∷ ks)
          → Proceeds y x ks (out ++ new) × (missing y x + a.relief ≤ missing y e)
      by_busy true on h =
          let both = a.busy on in (
            record {
              in_7 = p.in_7;
              wanted = none_more p.wanted both.0;
              hears = inl (still_open, a.own_busy ∙ on);
            },
            lacks both.1,
          )
      by_busy false off (inl busy) = impossible e.window.own_busy busy.1 off
      by_busy false off (inr there) =
          let all =
          a.idle off y.window.vs ks
          (hears_in (Arrives y.window.vs) e (k ∷ ks) opened there) in (
            record {
              in_7 = p.in_7;
              wanted = none_more p.wanted all.0;
              hears = inr (heard_in (Arrives y.window.vs) x ks still_open all.1);
            },
            lacks all.2,
          )

  pub by_answer : Delivered e y k ks outgoing x line
  by_answer = record {
    new = a.new;
    sent = a.sent;
    advances = record { relief = a.relief; mine = pays; its_load = load_falls; its = proceeds };
    fewer = a.less;
    free = λ was o. a.own_busy ∙ was opened;
  }

-- an answer, and then the end of the step
pub answered_so : (c : Context) (k : Kind) (s t : StepState) (outgoing : List Flight)
    → (story c s).line ≡ outgoing → Replies c k s t
    → Answered c.peer.sends.vs s.end k outgoing (end_step Whole t).end
    (story c (end_step Whole t)).line
answered_so c k s t outgoing begun r =
    let u = end_step Whole t in
    let cl = end_closes c t in
    let both : kinds (r.frames ++ cl.frames) ≡ kinds r.frames ++ kinds cl.frames =
    kinds_append r.frames cl.frames in
    let vs : t.end.window.vs ≡ s.end.window.vs = ap (λ (v : Sending). v.vs) r.sending_same in
    let given : u.end.given ≡ s.end.given =
    ap (λ (v : Unsending). v.given) cl.same
    ∙ ap (λ (v : Sending). v.given) r.sending_same in
    let first : u.end.first ≡ t.end.first = ap (λ (v : Unsending). v.first) cl.same in
    let same_unsent : unsent t.end ≡ unsent s.end =
    ap (λ (v : Sending). length v.given - v.next) r.sending_same in
    let rejects_none : rejections (kinds r.frames) ≡ [] → rejections (kinds (r.frames ++ cl.frames))
    ≡ [] =
    λ none. ap rejections both ∙ none_rejected (kinds r.frames) (kinds cl.frames) none
    cl.rejects_none in
    record {
      new = r.frames ++ cl.frames;
      sent =
          cl.line ∙ ap (λ l. l ++ cl.frames) (r.line ∙ ap (λ l. l ++ r.frames) begun)
          ∙ append_assoc outgoing r.frames cl.frames;
      state =
          ap (λ (v : Unsending). v.state) cl.same ∙ ap (λ (v : Sending). v.state) r.sending_same;
      whole = subst (λ l. IsWhole s.end.window.vs u.end.window.vs (messages l)) (sym both)
          (whole_joined s.end.window.vs s.end.window.vs u.end.window.vs (kinds r.frames)
          (kinds cl.frames)
          (subst (λ ms. IsWhole s.end.window.vs s.end.window.vs ms) (sym r.silent) refl)
          (subst (λ n. IsWhole n u.end.window.vs (messages (kinds cl.frames))) vs cl.whole));
      no_answer =
          ap (λ l. tally answer_of l) both
          ∙ (let sum = tally_append answer_of (kinds r.frames) (kinds cl.frames) in
          let p = r.no_answer in let q = cl.no_answer in omega (arith, sum, p, q));
      relief = r.relief;
      count = cl.sent;
      light =
          let sum =
          ap (λ l. weigh l) both ∙ tally_append weight_of (kinds r.frames) (kinds cl.frames) in
          let p = r.light in let q = cl.light in omega (arith, sum, p, q);
      fewer = let q = cl.fewer in omega (arith, q, same_unsent);
      only_7 = by_state cl.only_7;
      further = let q = cl.count in omega (arith, q, vs);
      falls =
          subst (λ (v : Unsending). Falls c.peer.sends.vs (receiving s.end)
          (record { vr = v.vr; rejecting = v.rejecting; ack_pending = false }) r.relief)
          (sym cl.same) r.falls;
      plain = r.plain;
      less = let len = ap length given in let f = r.first in omega (arith, len, first, f);
      own_busy =
          ap (λ (v : Unsending). v.own_busy) cl.same
          ∙ ap (λ (v : Sending). v.own_busy) r.sending_same;
      ready = λ off. ready_append r.frames cl.frames (r.ready off) cl.ready;
      busy =
          λ on. let two =
          r.busy on in (
            rejects_none two.0,
            subst (λ (v : Unsending). Lacks c.peer.sends.vs (receiving s.end)
                (record { vr = v.vr; rejecting = v.rejecting; ack_pending = false }) r.relief)
                (sym cl.same) two.1,
          );
      idle = λ off end ks there.
          let three = r.idle off end ks there in
          let sink : IsInTransit u.end.window.rejecting u.end.window.vr end (messages ks) =
          subst (λ (v : Unsending). IsInTransit v.rejecting v.vr end (messages ks))
          (sym cl.same) three.1 in (
            rejects_none three.0,
            sink,
            subst (λ (v : Unsending). Lacks c.peer.sends.vs (receiving s.end)
                (record { vr = v.vr; rejecting = v.rejecting; ack_pending = false }) r.relief)
                (sym cl.same) three.2,
          );
    }
  where
    by_state : {n : ℕ} → (n ≡ 0) ⊎ (t.end.state ≡ MultipleFrameEstablished)
        → (n ≡ 0) ⊎ (s.end.state ≡ MultipleFrameEstablished)
    by_state (inl none) = inl none
    by_state (inr is) = inr (sym (ap (λ (v : Sending). v.state) r.sending_same) ∙ is)

-- ---- V(S) is set back, and then the end of the step.

module _ (c : Context) (y : End) (k : Kind) (ks : List Kind) (s t : StepState)
    (outgoing : List Flight) (begun : (story c s).line ≡ outgoing)
    (opened : is_7_or_8 s.end.state ≡ true) (b : Backs c k ks s t)
    (arrives : OnReception (Arrives b.nr) (heard y (kinds outgoing)))
    (awaited : is_7_or_8 y.state ≡ true → y.window.vr ≡ b.nr) where
  abbrev u : StepState
  u = end_step Whole t

  closing : Closes c t u
  closing = end_closes c t

  in_7 : u.end.state ≡ MultipleFrameEstablished
  in_7 = ap (λ (v : Unsending). v.state) closing.same ∙ b.in_7

  less : waiting u.end ≤ waiting s.end
  less =
      let given = ap length (ap (λ (v : Unsending). v.given) closing.same ∙ b.given) in
      let first = ap (λ (v : Unsending). v.first) closing.same in
      let f = b.first in
      omega (arith, given, first, f)

  whole : IsWhole b.nr u.end.window.vs (messages (kinds closing.frames))
  whole =
      subst (λ n. IsWhole n u.end.window.vs (messages (kinds closing.frames))) b.vs closing.whole

  -- what is missing is sent again
  lacked : (open_state : Bool) → is_7_or_8 y.state ≡ open_state
      → s.end.window.vs - b.nr
      ≤ missing_in open_state s.end.window.vs y.window.vr (waiting s.end) (unsent s.end)
  lacked true at = let same = awaited at in omega (arith, same)
  lacked false at = b.outstanding

  sent_anew : (open_state : Bool) → is_7_or_8 y.state ≡ open_state
      → missing_in open_state u.end.window.vs y.window.vr (waiting u.end) (unsent u.end)
      ≤ closing.sent
  sent_anew true at =
      let same = awaited at in
      let vs = b.vs in let count = closing.count in omega (arith, same, vs, count)
  sent_anew false at =
      let given = ap length (ap (λ (v : Unsending). v.given) closing.same) in
      let first = ap (λ (v : Unsending). v.first) closing.same in
      let next = b.next in
      let fewer = closing.fewer in
      omega (arith, given, first, next, fewer)

  -- In state 7 as many messages are sent anew as the peer misses, or all.
  sends_enough : s.end.state ≡ MultipleFrameEstablished
      → (unsent u.end ≡ 0) ⊎ (s.end.window.vs - b.nr ≤ closing.sent)
  sends_enough is = by_full (end_full t b.in_7 (b.free is))
    where
      by_full : Full t u → (unsent u.end ≡ 0) ⊎ (s.end.window.vs - b.nr ≤ closing.sent)
      by_full (inl none) = inl none
      by_full (inr full) =
          let window = b.in_window in
          let va = b.va in
          let vs = b.vs in
          let count = closing.count in inr (omega (arith, full, window, va, vs, count))

  -- u, m: unsent and missing before; d: those after N(R); v, j: unsent and sent after
  enough_in : (state : State) (u m d v j w n g : ℕ) → is_7_or_8 state ≡ true
      → (state ≡ MultipleFrameEstablished → (v ≡ 0) ⊎ (d ≤ j)) → v + j ≤ u + d → d ≤ m → g ≤ j
      → w ≤ j → 3 * u + 2 * m + once_more state m ≤ n → 3 * v + g + 1 ≤ n + 1 - w
  enough_in MultipleFrameEstablished u m d v j w n g opened window sum lack missing_ sent le =
      by_window (window refl)
    where
      by_window : (v ≡ 0) ⊎ (d ≤ j) → 3 * v + g + 1 ≤ n + 1 - w
      by_window (inl none) = omega (arith, none, sum, lack, missing_, sent, le)
      by_window (inr full) = omega (arith, full, sum, lack, missing_, sent, le)
  enough_in TimerRecovery u m d v j w n g opened window sum lack missing_ sent le =
      omega (arith, sum, lack, missing_, sent, le)
  enough_in state u m d v j w n g opened window sum lack missing_ sent le = cc

  pays_back : (n : ℕ) → pending s.end ≡ 0 → load s.end y (kinds outgoing) ≤ n
      → Pays u.end y (kinds outgoing ++ kinds closing.frames) ks
      (n + weight_of k + 0 - weigh (kinds closing.frames))
  pays_back n none enough =
      let f = fresh y.window.rejecting in
      let was : load s.end y (kinds outgoing) ≡ 3 * unsent s.end + 2 * missing s.end y + f +
      once_more s.end.state (missing s.end y) =
      load_open s.end.state s.end.release_pending (unsent s.end) (missing s.end y) f
      (extra y (kinds outgoing)) opened in
      let one = b.light in
      let light = closing.light in
      let fewer = closing.fewer in
      let resent = b.resent in
      let same : pending t.end ≡ pending s.end =
      ap (λ (v : Receiving). pending_in v.ack_pending) b.receiving_same in
      let most =
      enough_in s.end.state (unsent s.end) (missing s.end y) (s.end.window.vs - b.nr)
      (unsent u.end) closing.sent (weigh (kinds closing.frames)) n (missing u.end y) opened
      sends_enough (omega (arith, fewer, resent)) (lacked (is_7_or_8 y.state) refl)
      (sent_anew (is_7_or_8 y.state) refl) (omega (arith, light, same, none))
      (omega (arith, was, enough)) in
      record {
        a = 3 * unsent u.end + missing u.end y;
        share =
            inr (
              record {
                in_7 = in_7;
                wanted = b.wanted;
                hears =
                    hears_more b.nr u.end.window.vs y (kinds outgoing) (kinds closing.frames)
                    closing.no_answer whole (inr arrives);
              },
              omega arith,
            );
        most = omega (arith, most, one);
      }

  -- a side that proceeds is not asked to
  pays_by : (n : ℕ) → pending s.end ≡ 0 → (Proceeds s.end y (kinds outgoing) (k ∷ ks) → ⊥)
      → Share s.end y (kinds outgoing) (k ∷ ks) n
      → Pays u.end y (kinds outgoing ++ kinds closing.frames) ks
      (n + weight_of k + 0 - weigh (kinds closing.frames))
  pays_by n none not_so (inl enough) = pays_back n none enough
  pays_by n none not_so (inr p) = absurd (not_so p.0)

  sink_same : (end : ℕ) (ms : List Message)
      → IsInTransit s.end.window.rejecting s.end.window.vr end ms
      → IsInTransit u.end.window.rejecting u.end.window.vr end ms
  sink_same end ms there =
      subst (λ (v : Unsending). IsInTransit v.rejecting v.vr end ms) (sym closing.same)
      (subst (λ (v : Receiving). IsInTransit v.rejecting v.vr end ms) (sym b.receiving_same) there)

  own_busy : u.end.window.own_busy ≡ s.end.window.own_busy
  own_busy = ap (λ (v : Unsending). v.own_busy) closing.same ∙ b.own_busy

  open_still : is_7_or_8 u.end.state ≡ true
  open_still = ap is_7_or_8 in_7

  vr_same : u.end.window.vr ≡ s.end.window.vr
  vr_same =
      ap (λ (v : Unsending). v.vr) closing.same ∙ ap (λ (v : Receiving). v.vr) b.receiving_same

  rejecting_same : u.end.window.rejecting ≡ s.end.window.rejecting
  rejecting_same =
      ap (λ (v : Unsending). v.rejecting) closing.same
      ∙ ap (λ (v : Receiving). v.rejecting) b.receiving_same

  missing_same : missing y u.end ≡ missing y s.end
  missing_same =
      ap (λ b. missing_in b y.window.vs u.end.window.vr (waiting y) (unsent y)) open_still
      ∙ ap (λ n. y.window.vs - n) vr_same
      ∙ sym (ap (λ b. missing_in b y.window.vs s.end.window.vr (waiting y) (unsent y)) opened)

  load_falls_by : load y u.end ks + 0 ≤ load y s.end (k ∷ ks)
  load_falls_by =
      let same = missing_same in
      let rej = ap fresh rejecting_same in
      let some = extra_open u.end ks open_still in
      let all = extra_open s.end (k ∷ ks) opened in
      load_less y.state y.release_pending (unsent y) (missing y s.end)
      (fresh s.end.window.rejecting) (extra s.end (k ∷ ks)) (missing y u.end)
      (fresh u.end.window.rejecting) (extra u.end ks) 0 (fresh_few s.end.window.rejecting)
      (omega (arith, same, rej)) (omega (arith, some, all))

  proceeds_by : Proceeds y s.end (k ∷ ks) (kinds outgoing)
      → Proceeds y u.end ks (kinds outgoing ++ kinds closing.frames)
      × (missing y u.end + 0 ≤ missing y s.end)
  proceeds_by p = (
    record {
      in_7 = p.in_7;
      wanted = none_rejected (kinds outgoing) (kinds closing.frames) p.wanted closing.rejects_none;
      hears = by_hearing p.hears;
    },
    let same = missing_same in omega (arith, same),
  )
    where
      by_hearing : Hears y.window.vs s.end (k ∷ ks) → Hears y.window.vs u.end ks
      by_hearing (inl busy) = inl (open_still, own_busy ∙ busy.1)
      by_hearing (inr there) =
          let now : IsInTransit s.end.window.rejecting s.end.window.vr y.window.vs
          (messages (k ∷ ks)) =
          hears_in (Arrives y.window.vs) s.end (k ∷ ks) opened there in
          let rest : IsInTransit s.end.window.rejecting s.end.window.vr y.window.vs (messages ks) =
          subst (λ l. IsInTransit s.end.window.rejecting s.end.window.vr y.window.vs
          (l ++ messages ks)) b.no_message now in
          inr (heard_in (Arrives y.window.vs) u.end ks open_still
          (sink_same y.window.vs (messages ks) rest))

  pub by_back : pending s.end ≡ 0 → (Proceeds s.end y (kinds outgoing) (k ∷ ks) → ⊥)
      → Delivered s.end y k ks outgoing u.end (story c u).line
  by_back none not_so = record {
    new = closing.frames;
    sent = closing.line ∙ ap (λ l. l ++ closing.frames) (b.line ∙ begun);
    advances = record {
      relief = 0;
      mine = λ n share. pays_by n none not_so share;
      its_load = load_falls_by;
      its = proceeds_by;
    };
    fewer = less;
    free = λ was o. own_busy ∙ was opened;
  }
