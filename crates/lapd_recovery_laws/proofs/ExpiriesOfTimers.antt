-- T200 that expires takes one from the number of its expiries, and T203 takes none, while both ends
-- are in states 7 and 8.
use Rattle.std.proofs.Common.{◌≡◌, inl, inr, ℕ, ◌+◌, ◌-◌, ◌≤◌, not, Bool, true, false, List, [], ◌∷◌, ◌++◌, is_ok, refl, sym, ap, subst, ◌∙◌, arith}
use Rattle.lapd_frame.specs.declared.Side.{Side}
use Rattle.lapd_frame.specs.declared.Side.TheVariants as side
use Rattle.lapd_mod128.specs.Counting.{Whole}
use Rattle.lapd_supervision.specs.StateVariables.{StateVariables, without_ack_pending}
use Rattle.lapd_link_definition.specs.declared.state.State.{State}
use Rattle.lapd_link_definition.specs.declared.state.State.TheVariants.{MultipleFrameEstablished, TimerRecovery}
use Rattle.lapd_link_definition.specs.EndOfStep.{is_7_or_8}
use Rattle.lapd_link_definition.specs.End.{End}
use Rattle.lapd_link_definition.specs.RunningTimers.{HasTimersOfState}
use Rattle.lapd_pair_laws.specs.Kinds.{Kind, Rejection, kind, kinds, messages, rejections, tally, poll_of, final_of}
use Rattle.lapd_pair_laws.specs.Line.{Flight}
use Rattle.lapd_pair_laws.specs.Move.{PairEvent, Expire200, Expire203, Station, View, acts}
use Rattle.lapd_pair_laws.specs.World.{World, swapped, view_of, with_view, happens}
use Rattle.lapd_pair_laws.proofs.Flow.{IsInTransit}
use Rattle.lapd_pair_laws.proofs.Lists.{tally_append}
use Rattle.lapd_pair_laws.proofs.Swaps.{network_alike}
use Rattle.lapd_pair_laws.proofs.Worlds.{left_by}
use Rattle.lapd_recovery_laws.specs.Own.{IsFree}
use Rattle.lapd_recovery_laws.specs.Losses.{one_if}
use Rattle.lapd_recovery_laws.specs.Timers.{HaveTimersOfStates}
use Rattle.lapd_recovery_laws.proofs.CountedMoves.{after}
use Rattle.lapd_recovery_laws.proofs.EndSends.{kinds_append}
use Rattle.lapd_recovery_laws.proofs.Expiries.{unready_append, none_unready, waits_in, asked_by, waits, waits_less, IsClean, Expects, Expiries, expiries_turned, polls_out}
use Rattle.lapd_recovery_laws.proofs.LostMoves.{moved_user}
use Rattle.lapd_recovery_laws.proofs.OneMoreFrame.{seeing}
use Rattle.lapd_recovery_laws.proofs.OwnBySide.{t200_runs, t203_runs, ok_of_side}
use Rattle.lapd_recovery_laws.proofs.Proceeding.{none_rejected}
use Rattle.lapd_recovery_laws.proofs.StaysOpen.{Lasts, lasts_swapped, SendsPoll, awaits_none, t200_polls, t203_polls}
use Rattle.lapd_recovery_laws.proofs.Transitions.{timers_in, in_7_if_t203}

no_rejection : (k : Kind) → poll_of k ≡ 1 → rejections (k ∷ []) ≡ []
no_rejection (Rejection nr) polls = cc
no_rejection k polls = refl

module _ (b most : ℕ) (x y : Station) (to_user to_network : List Flight) (event : PairEvent)
    (sends : SendsPoll b most x to_user to_network event) (free : x.end.window.own_busy ≡ false)
    (quiet : x.end.state ≡ TimerRecovery → asked_by (kinds to_network) (kinds to_user) ≡ 0) where
  abbrev out : List Kind
  out = kinds to_network

  abbrev back : List Kind
  back = kinds to_user

  abbrev z : End
  z = sends.alone.station.end

  abbrev frame : Flight
  frame = sends.polls.frame

  abbrev now : List Flight
  now = to_network ++ frame ∷ []

  now_is : kinds now ≡ out ++ kind frame ∷ []
  now_is = kinds_append to_network (frame ∷ [])

  polls_now : tally poll_of (kinds now) ≡ tally poll_of out + 1
  polls_now =
      let same = ap (λ ks. tally poll_of ks) now_is in
      let sum = tally_append poll_of out (kind frame ∷ []) in
      let one = sends.polls.polls in
      omega (arith, same, sum, one)

  finals_now : tally final_of out ≤ tally final_of (kinds now)
  finals_now =
      let same = ap (λ ks. tally final_of ks) now_is in
      let sum = tally_append final_of out (kind frame ∷ []) in
      omega (arith, same, sum)

  vs_same : z.window.vs ≡ x.end.window.vs
  unfolding without_ack_pending
  vs_same = ap (λ (w : StateVariables). w.vs) sends.polls.polled.window

  vr_same : z.window.vr ≡ x.end.window.vr
  unfolding without_ack_pending
  vr_same = ap (λ (w : StateVariables). w.vr) sends.polls.polled.window

  rejecting_same : z.window.rejecting ≡ x.end.window.rejecting
  unfolding without_ack_pending
  rejecting_same = ap (λ (w : StateVariables). w.rejecting) sends.polls.polled.window

  in_8 : z.state ≡ TimerRecovery
  in_8 = sends.polls.polled.in_8

  gone : waits z (kinds now) back ≡ 0
  gone =
      let same = ap (λ st. waits_in st z.t200 (asked_by (kinds now) back)) in_8 in
      let polls = polls_now in
      omega (arith, same, polls)

  record Falls (k : ℕ) : Type 0 where
    some : waits x.end out back ≤ k
    expects : Expects z y.end (kinds now) back (k - waits x.end out back)

  mine : (k : ℕ) → Expects x.end y.end out back k → Falls k
  mine k (inl enough) =
      let none = gone in
      let vs = vs_same in
      let same = sends.polls.polled.unsent_is in
      record {
        some = omega (arith, enough);
        expects = inl (omega (arith, none, vs, same, enough));
      }
  mine k (inr (inl coming, enough)) =
      let none = gone in
      let same = sends.polls.polled.unsent_is in
      record {
        some = omega (arith, enough);
        expects =
            inr (
              inr (inl (record {
                in_8 = in_8;
                front = out;
                poll = kind frame;
                tail = [];
                so = now_is;
                polls = sends.polls.polls;
                arrives =
                    subst (λ n. IsInTransit y.end.window.rejecting y.end.window.vr n (messages out))
                    (sym vs_same) coming.arrives;
              })),
              omega (arith, none, same, enough),
            );
      }
  mine k (inr (inr (inl p), enough)) =
      let none = quiet p.in_8 in
      let some = polls_out x.end y.end out p in
      absurd (omega (arith, none, some))
  mine k (inr (inr (inr f), enough)) =
      let none = quiet f.in_8 in
      let some = f.finals in
      absurd (omega (arith, none, some))

  sink_same : (end : ℕ) (ks : List Kind)
      → IsInTransit x.end.window.rejecting x.end.window.vr end (messages ks)
      → IsInTransit z.window.rejecting z.window.vr end (messages ks)
  sink_same end ks there =
      subst (λ on. IsInTransit on z.window.vr end (messages ks)) (sym rejecting_same)
      (subst (λ n. IsInTransit x.end.window.rejecting n end (messages ks)) (sym vr_same) there)

  its_waits : waits y.end back (kinds now) ≤ waits y.end back out
  its_waits =
      let finals = finals_now in
      waits_less y.end.state y.end.t200 (asked_by back out) (asked_by back (kinds now))
      (omega (arith, finals))

  its_clean : IsClean y.end x.end back out → IsClean y.end z back (kinds now)
  its_clean (inl coming) =
      inl (record {
        in_7 = coming.in_7;
        wanted =
            ap rejections now_is
            ∙ none_rejected out (kind frame ∷ []) coming.wanted
            (no_rejection (kind frame) sends.polls.polls);
        arrives = sink_same y.end.window.vs back coming.arrives;
      })
  its_clean (inr (inl p)) =
      inr (inl (record {
        in_8 = p.in_8;
        front = p.front;
        poll = p.poll;
        tail = p.tail;
        so = p.so;
        polls = p.polls;
        arrives = sink_same y.end.window.vs p.front p.arrives;
      }))
  its_clean (inr (inr f)) =
      let some = f.finals in
      let more = finals_now in
      let none = f.none in
      let vr = vr_same in
      inr (inr (record {
        in_8 = f.in_8;
        finals = omega (arith, some, more);
        none = omega (arith, none, vr);
      }))

  its : (k : ℕ) → Expects y.end x.end back out k → Expects y.end z back (kinds now) k
  its k (inl enough) =
      let less = its_waits in let vr = vr_same in inl (omega (arith, less, vr, enough))
  its k (inr clean) =
      let less = its_waits in
      let enough = clean.1 in
      inr (its_clean clean.0, omega (arith, less, enough))

  pub record Fewer (n : ℕ) (v : View) : Type 0 where
    pub some : waits x.end out back ≤ n
    pub expiries : Expiries v.station.end y.end v.incoming v.outgoing (n - waits x.end out back)

  pub polled_expiries : (n : ℕ) → Expiries x.end y.end to_user to_network n
      → Fewer n
      (left_by (seeing x to_user to_network)
      (acts Whole side.User event (seeing x to_user to_network)))
  polled_expiries n e =
      let v =
      left_by (seeing x to_user to_network)
      (acts Whole side.User event (seeing x to_user to_network)) in
      let m = n - waits x.end out back in
      let f = mine e.a e.mine in
      let some = f.some in
      let most = e.most in
      let sum = unready_append to_network (frame ∷ []) in
      let none = none_unready (frame ∷ []) (sends.polls.ready free, tt) in
      let line : v.outgoing ≡ now =
      sends.beside.outgoing_is ∙ ap (λ fs. to_network ++ fs) sends.polls.outgoing in
      record {
        some = omega (arith, some, most);
        expiries =
            subst (λ end. Expiries end y.end v.incoming v.outgoing m) (sym sends.beside.end)
            (subst (λ l. Expiries z y.end l v.outgoing m) (sym sends.beside.incoming_is)
            (subst (λ l. Expiries z y.end to_user l m) (sym line) (record {
              a = e.a - waits x.end out back;
              b = e.b;
              mine = f.expects;
              its = its e.b e.its;
              most = omega (arith, some, most, sum, none);
            })));
      }

-- ---- The world.

abbrev pub Expires : ℕ → World → Type 0
Expires n w = Expiries w.user.end w.network.end w.to_user w.to_network n

pub record FallsBy (by n : ℕ) (now : World) : Type 0 where
  pub some : by ≤ n
  pub expires : Expires (n - by) now

falls_swapped : (by n : ℕ) (now : World) → FallsBy by n now → FallsBy by n (swapped now)
falls_swapped by n now f = record { some = f.some; expires = expiries_turned f.expires }

by_network : (event : PairEvent) (by n : ℕ) (w : World)
    → FallsBy by n (after side.User event (swapped w)) → FallsBy by n (after side.Network event w)
by_network event by n w f =
    subst (λ u. FallsBy by n u) (sym (network_alike Whole event w))
    (falls_swapped by n (after side.User event (swapped w)) f)

-- T200 is admitted
module _ (w : World) (ok : is_ok (acts Whole side.User Expire200 (view_of side.User w)) ≡ true) where
  pub quiet_200 : asked_by (kinds w.to_network) (kinds w.to_user) ≡ 0
  quiet_200 =
      let none = awaits_none (view_of side.User w) ok in
      let no_poll = none.0 in
      let no_final = none.1 in
      omega (arith, no_poll, no_final)

  waited : (state : State) → w.user.end.state ≡ state → is_7_or_8 state ≡ true
      → waits w.user.end (kinds w.to_network) (kinds w.to_user) ≡ 1
  waited MultipleFrameEstablished is o =
      ap (λ st. waits_in st w.user.end.t200
      (asked_by (kinds w.to_network) (kinds w.to_user))) is
      ∙ ap one_if (t200_runs (view_of side.User w) ok)
  waited TimerRecovery is o =
      let same =
      ap (λ st. waits_in st w.user.end.t200
      (asked_by (kinds w.to_network) (kinds w.to_user))) is in
      let none = quiet_200 in
      omega (arith, same, none)
  waited state is o = cc

  pub waits_200 : is_7_or_8 w.user.end.state ≡ true
      → waits w.user.end (kinds w.to_network) (kinds w.to_user) ≡ 1
  waits_200 opened = waited w.user.end.state refl opened

user_200 : (b n : ℕ) (w : World) → Lasts b w → IsFree w.user.end → Expires n w
    → is_ok (acts Whole side.User Expire200 (view_of side.User w)) ≡ true
    → FallsBy 1 n (after side.User Expire200 w)
user_200 b n w l free e ok =
    let x = w.user in
    let f =
    polled_expiries b x.end.parameters.n200 x w.network w.to_user w.to_network Expire200
    (t200_polls b x w.to_user w.to_network l.user ok) (free l.user.open_state)
    (λ is. quiet_200 w ok) n e
    in
    let some = f.some in
    let one = waits_200 w ok l.user.open_state in
    subst (λ u. FallsBy 1 n u) (sym (moved_user Expire200 w)) (record {
      some = omega (arith, some, one);
      expires = subst (λ j. Expires (n - j)
          (with_view side.User (left_by (view_of side.User w)
          (acts Whole side.User Expire200 (view_of side.User w))) w)) one f.expiries;
    })

pub t200_falls : (b n : ℕ) (s : Side) (w : World) → Lasts b w → IsFree w.user.end
    → IsFree w.network.end → Expires n w
    → is_ok (happens Whole (record { side = s; event = Expire200 }) w) ≡ true
    → FallsBy 1 n (after s Expire200 w)
t200_falls b n side.User w l user_free network_free e ok =
    user_200 b n w l user_free e (ok_of_side side.User Expire200 w ok)
t200_falls b n side.Network w l user_free network_free e ok =
    by_network Expire200 1 n w (user_200 b n (swapped w) (lasts_swapped b w l) network_free
    (expiries_turned e) (ok_of_side side.Network Expire200 w ok))

off_if : (on : Bool) → not on ≡ true → on ≡ false
off_if true off = cc
off_if false off = refl

user_203 : (b n : ℕ) (w : World) → Lasts b w → HasTimersOfState w.user.end → IsFree w.user.end
    → Expires n w → is_ok (acts Whole side.User Expire203 (view_of side.User w)) ≡ true
    → FallsBy 0 n (after side.User Expire203 w)
user_203 b n w l has free e ok =
    let x = w.user in
    let on = t203_runs (view_of side.User w) ok in
    let is = in_7_if_t203 x.end has on in
    let f =
    polled_expiries b x.end.parameters.n200 x w.network w.to_user w.to_network Expire203
    (t203_polls b x w.to_user w.to_network l.user has ok) (free l.user.open_state)
    (λ in_8. let impossible : MultipleFrameEstablished ≡ TimerRecovery = sym is ∙ in_8 in cc)
    n e in
    let off = off_if x.end.t200 (sym (timers_in MultipleFrameEstablished x.end has is).0 ∙ on) in
    let none : waits x.end (kinds w.to_network) (kinds w.to_user) ≡ 0 =
    ap (λ st. waits_in st x.end.t200 (asked_by (kinds w.to_network) (kinds w.to_user))) is
    ∙ ap one_if off in
    subst (λ u. FallsBy 0 n u) (sym (moved_user Expire203 w)) (record {
      some = omega arith;
      expires = subst (λ j. Expires (n - j)
          (with_view side.User (left_by (view_of side.User w)
          (acts Whole side.User Expire203 (view_of side.User w))) w)) none f.expiries;
    })

pub t203_still : (b n : ℕ) (s : Side) (w : World) → Lasts b w → HaveTimersOfStates w
    → IsFree w.user.end → IsFree w.network.end → Expires n w
    → is_ok (happens Whole (record { side = s; event = Expire203 }) w) ≡ true
    → FallsBy 0 n (after s Expire203 w)
t203_still b n side.User w l have user_free network_free e ok =
    user_203 b n w l have.user user_free e (ok_of_side side.User Expire203 w ok)
t203_still b n side.Network w l have user_free network_free e ok =
    by_network Expire203 0 n w (user_203 b n (swapped w) (lasts_swapped b w l) have.network
    network_free (expiries_turned e) (ok_of_side side.Network Expire203 w ok))
