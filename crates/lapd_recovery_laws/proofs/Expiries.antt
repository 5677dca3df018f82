-- How often T200 may still expire while both ends are in states 7 and 8: a delivery does not raise
-- this number.
use Rattle.std.proofs.Common.{◌≡◌, ◌⊎◌, inl, inr, ℕ, ◌+◌, ◌-◌, ◌*◌, ◌≤◌, not, Bool, true, false, List, [], ◌∷◌, ◌++◌, length, append_assoc, refl, sym, ap, subst, ◌∙◌, arith}
use Rattle.lapd_frame.specs.declared.Side.TheVariants as side
use Rattle.lapd_mod128.specs.Counting.{Whole}
use Rattle.lapd_link_definition.specs.declared.state.State.{State}
use Rattle.lapd_link_definition.specs.declared.state.State.TheVariants.{MultipleFrameEstablished, TimerRecovery}
use Rattle.lapd_link_definition.specs.EndOfStep.{is_7_or_8, end_step}
use Rattle.lapd_link_definition.specs.End.{End, StepState, begin, unsent}
use Rattle.lapd_link_definition.specs.Input.{Heard}
use Rattle.lapd_link_definition.specs.Table.{row, step}
use Rattle.lapd_pair_laws.specs.Invariant.{IsInvariant}
use Rattle.lapd_pair_laws.specs.Kinds.{Kind, kind, kinds, messages, rejections, tally, poll_of, final_of}
use Rattle.lapd_pair_laws.specs.Line.{Flight}
use Rattle.lapd_pair_laws.specs.Move.{Deliver, Station, View, acts, receives, delivers, view_after, story_after}
use Rattle.lapd_pair_laws.specs.Parties.{party, frames_received}
use Rattle.lapd_pair_laws.specs.Timed.{IsSettledEnd}
use Rattle.lapd_pair_laws.proofs.ActionEffects.{Context, story}
use Rattle.lapd_pair_laws.proofs.Flow.{IsWhole, IsInTransit}
use Rattle.lapd_pair_laws.proofs.GoingBack.{asked_in_8}
use Rattle.lapd_pair_laws.proofs.Lists.{tally_append}
use Rattle.lapd_pair_laws.proofs.MidSteps.{Mid, enter}
use Rattle.lapd_pair_laws.proofs.Receptions.{open_receives}
use Rattle.lapd_pair_laws.proofs.Steps.{context}
use Rattle.lapd_pair_laws.proofs.WorkOfActions.{is_ready, AreReady}
use Rattle.lapd_pair_laws.proofs.Worlds.{left_by}
use Rattle.lapd_recovery_laws.specs.Losses.{one_if}
use Rattle.lapd_recovery_laws.proofs.EndSends.{Unsending, kinds_append, Closes, end_closes}
use Rattle.lapd_recovery_laws.proofs.StaysOpen.{no_ask}
use Rattle.lapd_recovery_laws.proofs.Lost.{at}
use Rattle.lapd_recovery_laws.proofs.OneMoreFrame.{seeing}
use Rattle.lapd_recovery_laws.proofs.OpenDelivers.{hears_in, rest_wanted, Answered, answered_so}
use Rattle.lapd_recovery_laws.proofs.OpenFrames.{Stays, open_delivered}
use Rattle.lapd_recovery_laws.proofs.OpenTimers.{only_runs}
use Rattle.lapd_recovery_laws.proofs.Proceeding.{Arrives, now_arrives, none_rejected, fresh_few}
use Rattle.lapd_recovery_laws.proofs.Replies.{Sending, Receiving, Replies, Backs, Turns}

-- ---- Frames that are not ready: an RNR starts T200.

abbrev pub unready_of : Flight → ℕ
unready_of f = one_if (not (is_ready f.control))

abbrev pub unready : List Flight → ℕ
unready [] = 0
unready (f ∷ fs) = unready_of f + unready fs

pub unready_append : (fs gs : List Flight) → unready (fs ++ gs) ≡ unready fs + unready gs
unready_append [] gs = omega arith
unready_append (f ∷ fs) gs = let rest = unready_append fs gs in omega (arith, rest)

pub none_unready : (fs : List Flight) → AreReady fs → unready fs ≡ 0
none_unready [] ready = refl
none_unready (f ∷ fs) ready =
    let one : unready_of f ≡ 0 = ap (λ b. one_if (not b)) ready.0 in
    let rest = none_unready fs ready.1 in omega (arith, one, rest)

-- ---- The number.

-- T200 runs in state 7, or in state 8 neither the poll nor the final is in transit
abbrev pub waits_in : State → Bool → ℕ → ℕ
waits_in MultipleFrameEstablished on asked = one_if on
waits_in TimerRecovery on asked = 1 - asked
waits_in state on asked = 0

abbrev pub asked_by : List Kind → List Kind → ℕ
asked_by out back = tally poll_of out + tally final_of back

abbrev pub waits : End → List Kind → List Kind → ℕ
waits x out back = waits_in x.state x.t200 (asked_by out back)

pub waits_less : (state : State) (on : Bool) (a b : ℕ) → a ≤ b
    → waits_in state on b ≤ waits_in state on a
waits_less MultipleFrameEstablished on a b le = omega arith
waits_less TimerRecovery on a b le = omega (arith, le)
waits_less state on a b le = omega arith

pub one_if_few : (on : Bool) → one_if on ≤ 1
one_if_few true = omega arith
one_if_few false = omega arith

pub waits_few : (state : State) (on : Bool) (a : ℕ) → waits_in state on a ≤ 1
waits_few MultipleFrameEstablished on a = one_if_few on
waits_few TimerRecovery on a = omega arith
waits_few state on a = omega arith

-- these frames bring y the messages that it misses, up to `end`
abbrev Arriving : End → ℕ → List Kind → Type 0
Arriving y end ks = IsInTransit y.window.rejecting y.window.vr end (messages ks)

-- in state 7, and no message will be sent again
pub record IsComing (x y : End) (out back : List Kind) : Type 0 where
  pub in_7 : x.state ≡ MultipleFrameEstablished
  pub wanted : rejections back ≡ []
  pub arrives : Arriving y x.window.vs out

-- in state 8, and the poll is behind these messages
pub record IsPolling (x y : End) (out : List Kind) : Type 0 where
  pub in_8 : x.state ≡ TimerRecovery
  pub front : List Kind
  pub poll : Kind
  pub tail : List Kind
  pub so : out ≡ front ++ poll ∷ tail
  pub polls : poll_of poll ≡ 1
  pub arrives : Arriving y x.window.vs front

-- in state 8, and the final acknowledges all
pub record IsFinished (x y : End) (back : List Kind) : Type 0 where
  pub in_8 : x.state ≡ TimerRecovery
  pub finals : 1 ≤ tally final_of back
  pub none : x.window.vs - y.window.vr ≡ 0

abbrev pub IsClean : End → End → List Kind → List Kind → Type 0
IsClean x y out back = IsComing x y out back ⊎ (IsPolling x y out ⊎ IsFinished x y back)

-- Each message that is sent may start T200. One that is missing is sent again.
abbrev pub Expects : End → End → List Kind → List Kind → ℕ → Type 0
Expects x y out back n =
    (2 * unsent x + (x.window.vs - y.window.vr) + waits x out back ≤ n)
    ⊎ (IsClean x y out back × (unsent x + waits x out back ≤ n))

-- n bounds how often T200 of both ends may expire
pub record Expiries (x y : End) (to_user to_network : List Flight) (n : ℕ) : Type 0 where
  pub a : ℕ
  pub b : ℕ
  pub mine : Expects x y (kinds to_network) (kinds to_user) a
  pub its : Expects y x (kinds to_user) (kinds to_network) b
  pub most : a + b + unready to_user + unready to_network ≤ n

pub expiries_turned : {x y : End} {to_user to_network : List Flight} {n : ℕ}
    → Expiries x y to_user to_network n → Expiries y x to_network to_user n
expiries_turned e = record {
  a = e.b;
  b = e.a;
  mine = e.its;
  its = e.mine;
  most = let most = e.most in omega (arith, most);
}

pub polls_out : (x y : End) (out : List Kind) → IsPolling x y out → 1 ≤ tally poll_of out
polls_out x y out p =
    let same = ap (λ ks. tally poll_of ks) p.so in
    let sum = tally_append poll_of p.front (p.poll ∷ p.tail) in
    let one = p.polls in
    omega (arith, same, sum, one)

nothing_arrives : (rejecting : Bool) (vr end : ℕ) → IsInTransit rejecting vr end [] → vr ≡ end
nothing_arrives true vr end none = none
nothing_arrives false vr end none = none

first_same : {f g : Kind} {fs gs : List Kind} → f ∷ fs ≡ g ∷ gs → f ≡ g
first_same same = cc

rest_same : {f g : Kind} {fs gs : List Kind} → f ∷ fs ≡ g ∷ gs → fs ≡ gs
rest_same same = cc

-- ---- A frame is delivered.

module _ (x y : Station) (frame : Flight) (rest outgoing : List Flight)
    (i : IsInvariant (at x y (frame ∷ rest) outgoing)) (settled : IsSettledEnd x.end)
    (x_opened : is_7_or_8 x.end.state ≡ true) (y_opened : is_7_or_8 y.end.state ≡ true)
    (free : x.end.window.own_busy ≡ false) where
  abbrev v : View
  v = seeing x (frame ∷ rest) outgoing

  abbrev c : Context
  c = context i.user_base frame.info frame.place v rest y i.network_base

  abbrev s : StepState
  s = begin x.end

  abbrev t : StepState
  t = row Whole x.end.state (Heard frame.control frame.role) s

  abbrev u : StepState
  u = end_step Whole t

  abbrev k : Kind
  k = kind frame

  abbrev ks : List Kind
  ks = kinds rest

  abbrev out : List Kind
  out = kinds outgoing

  abbrev line : List Flight
  line = (story c u).line

  closing : Closes c t u
  closing = end_closes c t

  turned : Turns c k ks s t
  turned =
      ((open_delivered x y frame rest outgoing i.user_base i.network_base settled x_opened
      i.both).1.0 (no_ask x y frame rest outgoing i settled x_opened y_opened)).1

  stays : Stays x.end x.history.dropped k outgoing u.end (story c u).history.dropped line
  stays =
      ((open_delivered x y frame rest outgoing i.user_base i.network_base settled x_opened
      i.both).1.0 (no_ask x y frame rest outgoing i settled x_opened y_opened)).0

  -- T200 starts if a message is sent, or by a frame that is not ready
  more : waits u.end (kinds line) ks ≤ waits x.end out (k ∷ ks) + closing.sent + unready_of frame
  unfolding begin
  more = by_state u.end.state refl stays.open_state
    where
      few : waits u.end (kinds line) ks ≤ 1
      few = waits_few u.end.state u.end.t200 (asked_by (kinds line) ks)

      by_ready : (ready : Bool) → is_ready frame.control ≡ ready
          → t.end.state ≡ MultipleFrameEstablished → t.end.t200 ≡ true
          → waits u.end (kinds line) ks
          ≤ waits x.end out (k ∷ ks) + closing.sent + unready_of frame
      by_ready true ready is on =
          let was = only_runs x.end frame.control frame.role settled x_opened ready is on in
          let one : waits x.end out (k ∷ ks) ≡ 1 =
          ap (λ st. waits_in st x.end.t200 (asked_by out (k ∷ ks))) was.0 ∙ ap one_if was.1 in
          let le = few in
          omega (arith, le, one)
      by_ready false other is on =
          let one : unready_of frame ≡ 1 = ap (λ b. one_if (not b)) other in
          let le = few in
          omega (arith, le, one)

      by_timer : (on : Bool) → u.end.t200 ≡ on → u.end.state ≡ MultipleFrameEstablished
          → waits u.end (kinds line) ks
          ≤ waits x.end out (k ∷ ks) + closing.sent + unready_of frame
      by_timer false off is =
          let none : waits u.end (kinds line) ks ≡ 0 =
          ap (λ st. waits_in st u.end.t200 (asked_by (kinds line) ks)) is ∙ ap one_if off in
          omega (arith, none)
      by_timer true on is = by_start (closing.timed on)
        where
          by_start : (t.end.t200 ≡ true) ⊎ (1 ≤ closing.sent)
              → waits u.end (kinds line) ks
              ≤ waits x.end out (k ∷ ks) + closing.sent + unready_of frame
          by_start (inl ran) =
              by_ready (is_ready frame.control) refl
              (sym (ap (λ (w : Unsending). w.state) closing.same) ∙ is) ran
          by_start (inr some) = let le = few in omega (arith, le, some)

      by_state : (state : State) → u.end.state ≡ state → is_7_or_8 state ≡ true
          → waits u.end (kinds line) ks
          ≤ waits x.end out (k ∷ ks) + closing.sent + unready_of frame
      by_state MultipleFrameEstablished is o = by_timer u.end.t200 refl is
      by_state TimerRecovery is o =
          let before = stays.in_8 is in
          let now : waits u.end (kinds line) ks ≡ 1 - asked_by (kinds line) ks =
          ap (λ st. waits_in st u.end.t200 (asked_by (kinds line) ks)) is in
          let was : waits x.end out (k ∷ ks) ≡ 1 - asked_by out (k ∷ ks) =
          ap (λ st. waits_in st x.end.t200 (asked_by out (k ∷ ks))) before.0 in
          let polls = stays.polls in
          let none = before.2 in
          omega (arith, now, was, polls, none)
      by_state state is o = cc

  -- ---- What x still sends.

  -- the frame is answered
  module _ (r : Replies c k s t) where
    a : Answered y.end.window.vs x.end k outgoing u.end line
    unfolding begin story_after
    a = answered_so c k s t outgoing refl r

    sent_so : kinds line ≡ out ++ kinds a.new
    sent_so = ap kinds a.sent ∙ kinds_append outgoing a.new

    count_is : a.count ≡ closing.sent
    unfolding begin
    count_is =
        let one = a.fewer in
        let other = closing.fewer in
        let same : unsent t.end ≡ unsent x.end =
        ap (λ (w : Sending). length w.given - w.next) r.sending_same in
        omega (arith, one, other, same)

    -- no message is sent in state 8
    none_in_8 : x.end.state ≡ TimerRecovery → u.end.window.vs ≡ x.end.window.vs
    none_in_8 is = by_count a.only_7
      where
        by_count : (a.count ≡ 0) ⊎ (x.end.state ≡ MultipleFrameEstablished)
            → u.end.window.vs ≡ x.end.window.vs
        by_count (inl none) = let vs = a.further in omega (arith, vs, none)
        by_count (inr in_7) =
            let impossible : TimerRecovery ≡ MultipleFrameEstablished = sym is ∙ in_7 in cc

    clean_still : IsClean x.end y.end out (k ∷ ks) → IsClean u.end y.end (kinds line) ks
    clean_still (inl coming) =
        inl (record {
          in_7 = a.state ∙ coming.in_7;
          wanted = rest_wanted k ks coming.wanted;
          arrives =
              subst (λ l. Arriving y.end u.end.window.vs l) (sym sent_so)
              (now_arrives y.end.window.rejecting y.end.window.vr x.end.window.vs u.end.window.vs
              out (kinds a.new) a.whole coming.arrives);
        })
    clean_still (inr (inl p)) =
        inr (inl (record {
          in_8 = a.state ∙ p.in_8;
          front = p.front;
          poll = p.poll;
          tail = p.tail ++ kinds a.new;
          so =
              sent_so ∙ ap (λ l. l ++ kinds a.new) p.so
              ∙ append_assoc p.front (p.poll ∷ p.tail) (kinds a.new);
          polls = p.polls;
          arrives =
              subst (λ n. Arriving y.end n p.front) (sym (none_in_8 p.in_8)) p.arrives;
        }))
    clean_still (inr (inr z)) =
        let none = r.no_final in
        let finals = z.finals in
        let vs = none_in_8 z.in_8 in
        let all = z.none in
        inr (inr (record {
          in_8 = a.state ∙ z.in_8;
          finals = omega (arith, none, finals);
          none = omega (arith, vs, all);
        }))

    mine_answered : (n : ℕ) → Expects x.end y.end out (k ∷ ks) n
        → Expects u.end y.end (kinds line) ks (n + unready_of frame)
    mine_answered n (inl enough) =
        let le = more in
        let fewer = a.fewer in
        let vs = a.further in
        let count = count_is in
        inl (omega (arith, le, fewer, vs, count, enough))
    mine_answered n (inr clean) =
        let le = more in
        let fewer = a.fewer in
        let count = count_is in
        let enough = clean.1 in
        inr (clean_still clean.0, omega (arith, le, fewer, count, enough))

  -- V(S) is set back
  module _ (b : Backs c k ks s t) where
    sent_back : kinds line ≡ out ++ kinds closing.frames
    unfolding begin story_after
    sent_back =
        ap kinds (closing.line ∙ ap (λ l. l ++ closing.frames) b.line)
        ∙ kinds_append outgoing closing.frames

    arrived : Arriving y.end b.nr out
    unfolding begin story_after
    arrived = hears_in (Arrives b.nr) y.end out y_opened b.arrives

    comes_back : IsComing u.end y.end (kinds line) ks
    comes_back = record {
      in_7 = ap (λ (w : Unsending). w.state) closing.same ∙ b.in_7;
      wanted = b.wanted;
      arrives =
          subst (λ l. Arriving y.end u.end.window.vs l) (sym sent_back)
          (now_arrives y.end.window.rejecting y.end.window.vr b.nr u.end.window.vs out
          (kinds closing.frames)
          (subst (λ n. IsWhole n u.end.window.vs (messages (kinds closing.frames))) b.vs
          closing.whole) arrived);
    }

    -- at most one poll or final is in transit
    one_asked : x.end.state ≡ TimerRecovery → asked_by out (k ∷ ks) ≤ 1
    one_asked is =
        let mine = party i.user_base x in
        let its = party i.network_base y in
        let m : Mid mine its out (k ∷ ks) = enter mine its out (k ∷ ks) x_opened i.both in
        subst (λ o. tally poll_of (frames_received o) + tally final_of (k ∷ ks) ≤ 1)
        (open_receives its out y_opened) (asked_in_8 mine its out (k ∷ ks) is m).one

    mine_back : (n : ℕ) → Expects x.end y.end out (k ∷ ks) n
        → Expects u.end y.end (kinds line) ks (n + unready_of frame)
    unfolding begin
    mine_back n (inl enough) =
        let le = more in
        let fewer = closing.fewer in
        let resent = b.resent in
        let vr : y.end.window.vr ≡ b.nr = b.awaited y_opened in
        inr (inl comes_back, omega (arith, le, fewer, resent, vr, enough))
    mine_back n (inr (inl coming, enough)) = absurd (b.unwanted coming.in_7 coming.wanted)
    mine_back n (inr (inr (inl p), enough)) =
        let one = one_asked p.in_8 in
        let some = polls_out x.end y.end out p in
        let final = b.final p.in_8 in
        absurd (omega (arith, one, some, final))
    mine_back n (inr (inr (inr z), enough)) =
        let le = more in
        let fewer = closing.fewer in
        let resent = b.resent in
        let vr : y.end.window.vr ≡ b.nr = b.awaited y_opened in
        let none = z.none in
        inr (inl comes_back, omega (arith, le, fewer, resent, vr, none, enough))

  -- ---- What y still sends.

  -- x has received what it did not miss, or what it missed
  record Takes : Type 0 where
    less : y.end.window.vs - u.end.window.vr ≤ y.end.window.vs - x.end.window.vr
    passes : (end : ℕ) (ls : List Kind) → Arriving x.end end (k ∷ ls) → Arriving u.end end ls
    quiet : rejections out ≡ [] → Arriving x.end y.end.window.vs (k ∷ ks)
        → rejections (kinds line) ≡ []
    ready : unready line ≡ unready outgoing

  answered_takes : Replies c k s t → Takes
  answered_takes r =
      let all = a r in
      record {
        less =
            let falls = all.falls in
            let one = fresh_few x.end.window.rejecting in omega (arith, falls, one);
        passes = λ end ls there. (all.idle free end ls there).1;
        quiet = λ none there. ap rejections (sent_so r)
            ∙ none_rejected out (kinds all.new) none (all.idle free y.end.window.vs ks there).0;
        ready =
            let same = ap unready all.sent in
            let sum = unready_append outgoing all.new in
            let none = none_unready all.new (all.ready free) in
            omega (arith, same, sum, none);
      }

  back_takes : Backs c k ks s t → Takes
  unfolding begin story_after
  back_takes b =
      let vr : u.end.window.vr ≡ x.end.window.vr =
      ap (λ (w : Unsending). w.vr) closing.same ∙ ap (λ (w : Receiving). w.vr) b.receiving_same in
      record {
        less = omega (arith, vr);
        passes = λ end ls there.
            subst (λ (w : Unsending). IsInTransit w.rejecting w.vr end (messages ls))
            (sym closing.same)
            (subst (λ (w : Receiving). IsInTransit w.rejecting w.vr end (messages ls))
            (sym b.receiving_same)
            (subst (λ l. IsInTransit x.end.window.rejecting x.end.window.vr end (l ++ messages ls))
            b.no_message there));
        quiet = λ none there. ap rejections (sent_back b)
            ∙ none_rejected out (kinds closing.frames) none closing.rejects_none;
        ready =
            let same = ap unready (closing.line ∙ ap (λ l. l ++ closing.frames) b.line) in
            let sum = unready_append outgoing closing.frames in
            let none = none_unready closing.frames closing.ready in
            omega (arith, same, sum, none);
      }

  its_waits : waits y.end ks (kinds line) ≤ waits y.end (k ∷ ks) out
  its_waits =
      let finals = stays.finals in
      waits_less y.end.state y.end.t200 (asked_by (k ∷ ks) out) (asked_by ks (kinds line))
      (omega (arith, finals))

  clean_of_y : Takes → IsClean y.end x.end (k ∷ ks) out → IsClean y.end u.end ks (kinds line)
  clean_of_y w (inl coming) =
      inl (record {
        in_7 = coming.in_7;
        wanted = w.quiet coming.wanted coming.arrives;
        arrives = w.passes y.end.window.vs ks coming.arrives;
      })
  clean_of_y w (inr (inl p)) = by_front p.front p.so p.arrives
    where
      by_front : (front : List Kind) → k ∷ ks ≡ front ++ p.poll ∷ p.tail
          → Arriving x.end y.end.window.vs front → IsClean y.end u.end ks (kinds line)
      by_front [] so there =
          let vr = nothing_arrives x.end.window.rejecting x.end.window.vr y.end.window.vs there in
          let less = w.less in
          let finals = stays.finals in
          let one : poll_of k ≡ 1 = ap poll_of (first_same so) ∙ p.polls in
          inr (inr (record {
            in_8 = p.in_8;
            finals = omega (arith, finals, one);
            none = omega (arith, less, vr);
          }))
      by_front (f ∷ front) so there =
          inr (inl (record {
            in_8 = p.in_8;
            front = front;
            poll = p.poll;
            tail = p.tail;
            so = rest_same so;
            polls = p.polls;
            arrives =
                w.passes y.end.window.vs front
                (subst (λ g. Arriving x.end y.end.window.vs (g ∷ front)) (sym (first_same so))
                there);
          }))
  clean_of_y w (inr (inr z)) =
      let finals = stays.finals in
      let some = z.finals in
      let less = w.less in
      let none = z.none in
      inr (inr (record {
        in_8 = z.in_8;
        finals = omega (arith, finals, some);
        none = omega (arith, less, none);
      }))

  its_still : Takes → (n : ℕ) → Expects y.end x.end (k ∷ ks) out n
      → Expects y.end u.end ks (kinds line) n
  its_still w n (inl enough) =
      let le = its_waits in let less = w.less in inl (omega (arith, le, less, enough))
  its_still w n (inr clean) =
      let le = its_waits in
      let enough = clean.1 in
      inr (clean_of_y w clean.0, omega (arith, le, enough))

  -- ---- Both.

  pub delivered : (n : ℕ) → Expiries x.end y.end (frame ∷ rest) outgoing n
      → Expiries u.end y.end rest line n
  delivered n e = by_turn turned
    where
      with_both : Takes → Expects u.end y.end (kinds line) ks (e.a + unready_of frame)
          → Expiries u.end y.end rest line n
      with_both w mine = record {
        a = e.a + unready_of frame;
        b = e.b;
        mine = mine;
        its = its_still w e.b e.its;
        most = let most = e.most in let ready = w.ready in omega (arith, most, ready);
      }

      by_turn : Turns c k ks s t → Expiries u.end y.end rest line n
      by_turn (inl r) = with_both (answered_takes r) (mine_answered r e.a e.mine)
      by_turn (inr b) = with_both (back_takes b) (mine_back b e.a e.mine)

  pub view_delivered : (n : ℕ) → Expiries x.end y.end (frame ∷ rest) outgoing n
      → Expiries (left_by v (acts Whole side.User Deliver v)).station.end y.end
      (left_by v (acts Whole side.User Deliver v)).incoming
      (left_by v (acts Whole side.User Deliver v)).outgoing n
  unfolding acts delivers receives step view_after
  view_delivered n e = delivered n e
