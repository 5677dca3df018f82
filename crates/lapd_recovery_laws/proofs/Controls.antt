-- What is still to come without losses: establishments, requests and their responses. A delivery of
-- a request or a response takes one from it, and any other delivery leaves both ends in their
-- states, but for states 7 and 8.
use Rattle.std.proofs.Common.{◌≡◌, ◌⊎◌, inl, inr, ℕ, zero, suc, ◌+◌, ◌-◌, ◌*◌, ◌≤◌, true, false, List, [], ◌∷◌, ◌++◌, append-nil, refl, sym, ap, subst, ◌∙◌, arith}
use Rattle.lapd_frame.specs.declared.Side.TheVariants as side
use Rattle.lapd_mod128.specs.Counting.{Whole}
use Rattle.lapd_link_definition.specs.declared.state.State.{State}
use Rattle.lapd_link_definition.specs.declared.state.State.TheVariants.{TeiAssigned, AwaitingEstablishment, AwaitingRelease, MultipleFrameEstablished, TimerRecovery}
use Rattle.lapd_link_definition.specs.EndOfStep.{is_7_or_8}
use Rattle.lapd_link_definition.specs.End.{End}
use Rattle.lapd_pair_laws.specs.Invariant.{IsInvariant}
use Rattle.lapd_pair_laws.specs.Kinds.{Kind, kind, kinds, tally, ask_of, answer_of, final_of}
use Rattle.lapd_pair_laws.specs.Line.{Flight}
use Rattle.lapd_pair_laws.specs.Move.{Deliver, Station, View, acts}
use Rattle.lapd_pair_laws.proofs.Closings.{most_is_one}
use Rattle.lapd_pair_laws.proofs.Lists.{tally_append}
use Rattle.lapd_pair_laws.proofs.Worlds.{left_by}
use Rattle.lapd_recovery_laws.specs.Own.{IsFree}
use Rattle.lapd_recovery_laws.proofs.EndSends.{kinds_append}
use Rattle.lapd_recovery_laws.proofs.Expiries.{Expiries, expiries_turned, view_delivered}
use Rattle.lapd_recovery_laws.proofs.Handles.{delivery_handles}
use Rattle.lapd_recovery_laws.proofs.Lost.{at}
use Rattle.lapd_recovery_laws.proofs.OneMoreFrame.{seeing}
use Rattle.lapd_recovery_laws.proofs.OutageWorlds.{Facts}
use Rattle.lapd_recovery_laws.proofs.Renewals.{halting_of, halting, halting_append, Renews, under_way, request, request_falls, HasStayed, HandlesIn}

-- p bounds it, and at most U frames in transit are RNR or UI
pub record Controls (U p : ℕ) (x y : End) (to_user to_network : List Flight) : Type 0 where
  pub a : ℕ
  pub b : ℕ
  pub mine : Renews x a
  pub its : Renews y b
  pub few : halting to_user + halting to_network ≤ U
  pub most : 3 * (a + b + halting to_user + halting to_network)
      + request x (kinds to_network) (kinds to_user) + request y (kinds to_user) (kinds to_network)
      ≤ p

pub controls_turned : {U p : ℕ} {x y : End} {to_user to_network : List Flight}
    → Controls U p x y to_user to_network → Controls U p y x to_network to_user
controls_turned c = record {
  a = c.b;
  b = c.a;
  mine = c.its;
  its = c.mine;
  few = let few = c.few in omega (arith, few);
  most = let most = c.most in omega (arith, most);
}

-- ---- T200 while no end opens or closes.

-- how often it expires at an open end whose peer is closed, before the last try; the first argument
-- is N200
abbrev pub vain_in : ℕ → State → ℕ → ℕ → ℕ
vain_in N TimerRecovery rc zero = N - rc
vain_in N state rc finals = N

abbrev pub vain : ℕ → End → List Kind → ℕ
vain N e back = vain_in N e.state e.rc (tally final_of back)

pub vain_few : (N : ℕ) (state : State) (rc finals : ℕ) → vain_in N state rc finals ≤ N
vain_few N TimerRecovery rc zero = omega arith
vain_few N TimerRecovery rc (suc finals) = omega arith
vain_few N TeiAssigned rc finals = omega arith
vain_few N AwaitingEstablishment rc finals = omega arith
vain_few N AwaitingRelease rc finals = omega arith
vain_few N MultipleFrameEstablished rc finals = omega arith

vain_fewer : (N : ℕ) (state : State) (rc a b : ℕ) → a ≤ b
    → vain_in N state rc a ≤ vain_in N state rc b
vain_fewer N TimerRecovery rc zero zero le = omega arith
vain_fewer N TimerRecovery rc zero (suc b) le = omega arith
vain_fewer N TimerRecovery rc (suc a) (suc b) le = omega arith
vain_fewer N TimerRecovery rc (suc a) zero le = absurd (omega (arith, le))
vain_fewer N TeiAssigned rc a b le = omega arith
vain_fewer N AwaitingEstablishment rc a b le = omega arith
vain_fewer N AwaitingRelease rc a b le = omega arith
vain_fewer N MultipleFrameEstablished rc a b le = omega arith

-- a final comes: all tries are left
vain_all : (N : ℕ) (state : State) (rc finals : ℕ) → 1 ≤ finals → vain_in N state rc finals ≡ N
vain_all N TimerRecovery rc zero some = absurd (omega (arith, some))
vain_all N TimerRecovery rc (suc finals) some = refl
vain_all N TeiAssigned rc finals some = refl
vain_all N AwaitingEstablishment rc finals some = refl
vain_all N AwaitingRelease rc finals some = refl
vain_all N MultipleFrameEstablished rc finals some = refl

-- n bounds how often T200 expires until then
pub record Rest (N n : ℕ) (x y : End) (to_user to_network : List Flight) : Type 0 where
  pub both : is_7_or_8 x.state ≡ true → is_7_or_8 y.state ≡ true
      → Expiries x y to_user to_network n
  pub mine : is_7_or_8 x.state ≡ true → is_7_or_8 y.state ≡ false → vain N x (kinds to_user) ≤ n
  pub its : is_7_or_8 y.state ≡ true → is_7_or_8 x.state ≡ false → vain N y (kinds to_network) ≤ n

pub rest_turned : {N n : ℕ} {x y : End} {to_user to_network : List Flight}
    → Rest N n x y to_user to_network → Rest N n y x to_network to_user
rest_turned r = record {
  both = λ o p. expiries_turned (r.both p o);
  mine = r.its;
  its = r.mine;
}

-- ---- A frame is delivered to x.

-- what is still to come of y
pub peer_request : (x y : Station) (frame : Flight) (rest to_network new : List Flight)
    → IsInvariant (at x y (frame ∷ rest) to_network)
    → ask_of (kind frame) ≤ tally answer_of (kinds new)
    → request y.end (kinds rest) (kinds (to_network ++ new)) + ask_of (kind frame)
    ≤ request y.end (kind frame ∷ kinds rest) (kinds to_network)
peer_request x y frame rest to_network new i answers =
    let same = ap (λ l. tally answer_of l) (kinds_append to_network new) in
    let sum = tally_append answer_of (kinds to_network) (kinds new) in
    let all = i.both.its.exchange.one in
    let most = most_is_one y.end.state in
    request_falls y.end.state y.end.release_pending
    (under_way (kind frame ∷ kinds rest) (kinds to_network))
    (under_way (kinds rest) (kinds (to_network ++ new))) (ask_of (kind frame))
    (omega (arith, same, sum, answers)) (omega (arith, all)) (omega (arith, all, most))

-- one less is to come, or neither end opens or closes
abbrev pub Goes : ℕ → ℕ → ℕ → ℕ → End → End → List Flight → List Flight → Type 0
Goes N U p n x y to_user to_network =
    ((1 ≤ p) × Controls U (p - 1) x y to_user to_network)
    ⊎ (Controls U p x y to_user to_network × Rest N n x y to_user to_network)

pub goes_turned : {N U p n : ℕ} {x y : End} {to_user to_network : List Flight}
    → Goes N U p n x y to_user to_network → Goes N U p n y x to_network to_user
goes_turned (inl g) = inl (g.0, controls_turned g.1)
goes_turned (inr g) = inr (controls_turned g.0, rest_turned g.1)

module _ (N U p n : ℕ) (x y : Station) (frame : Flight) (rest to_network : List Flight)
    (f : Facts N (at x y (frame ∷ rest) to_network)) (free : IsFree x.end)
    (c : Controls U p x.end y.end (frame ∷ rest) to_network)
    (r : Rest N n x.end y.end (frame ∷ rest) to_network) where
  abbrev z : View
  z =
      left_by (seeing x (frame ∷ rest) to_network)
      (acts Whole side.User Deliver (seeing x (frame ∷ rest) to_network))

  abbrev e : End
  e = z.station.end

  abbrev k : Kind
  k = kind frame

  abbrev ks : List Kind
  ks = kinds rest

  abbrev out : List Kind
  out = kinds to_network

  h : HandlesIn x.end frame rest to_network z
  h =
      delivery_handles x y frame rest to_network f.holds f.settled.user f.have.user
      f.clear.user

  abbrev line : List Flight
  line = to_network ++ h.new

  -- how many requests and responses are delivered
  abbrev one : ℕ
  one = ask_of k + answer_of k

  its_request : request y.end ks (kinds line) + ask_of k ≤ request y.end (k ∷ ks) out
  its_request = peer_request x y frame rest to_network h.new f.holds h.handles.answers

  controls : (one ≤ p) × Controls U (p - one) e y.end rest line
  controls =
      let falls = h.handles.falls in
      let its = its_request in
      let most = c.most in
      let few = c.few in
      let sum = halting_append to_network h.new in
      let ready = h.handles.ready free in (
        omega (arith, falls, its, most),
        record {
          a = c.a + halting_of frame;
          b = c.b;
          mine = h.handles.renews c.a c.mine;
          its = c.its;
          few = omega (arith, few, sum, ready);
          most = omega (arith, falls, its, most, sum, ready);
        },
      )

  -- ---- No request and no response.

  module _ (none : one ≡ 0) where
    same_finals : h.new ≡ [] → tally final_of (kinds line) ≡ tally final_of out
    same_finals nothing =
        ap (λ l. tally final_of (kinds (to_network ++ l))) nothing
        ∙ ap (λ l. tally final_of (kinds l)) (append-nil to_network)

    expiries : is_7_or_8 x.end.state ≡ true → is_7_or_8 y.end.state ≡ true
        → Expiries e y.end rest line n
    expiries opened y_opened =
        let now =
        view_delivered x y frame rest to_network f.holds f.settled.user opened y_opened
        (free opened) n (r.both opened y_opened) in
        subst (λ l. Expiries e y.end l line n) h.incoming
        (subst (λ l. Expiries e y.end z.incoming l n) h.sent now)

    -- x stays in states 7 and 8
    stays : HasStayed x.end e k → Rest N n e y.end rest line
    stays s = record {
      both = λ o y_opened. expiries s.was y_opened;
      mine = λ o shut.
          let few = r.mine s.was shut in
          let le = by_state e.state refl s.still in
          omega (arith, few, le);
      its = λ y_opened shut. absurd (let o = s.still in cc);
    }
      where
        in_8 : e.state ≡ TimerRecovery → vain N e ks ≤ vain N x.end (k ∷ ks)
        in_8 is =
            let before = s.in_8 is in
            let now : vain N e ks ≡ vain_in N TimerRecovery x.end.rc (tally final_of ks) =
            ap (λ st. vain_in N st e.rc (tally final_of ks)) is
            ∙ ap (λ rc. vain_in N TimerRecovery rc (tally final_of ks)) before.1 in
            let was : vain N x.end (k ∷ ks)
            ≡ vain_in N TimerRecovery x.end.rc (final_of k + tally final_of ks) =
            ap (λ st. vain_in N st x.end.rc (final_of k + tally final_of ks)) before.0 in
            let le =
            vain_fewer N TimerRecovery x.end.rc (tally final_of ks)
            (final_of k + tally final_of ks) (omega arith) in
            omega (arith, now, was, le)

        all_before : (x.end.state ≡ MultipleFrameEstablished) ⊎ (final_of k ≡ 1)
            → vain N x.end (k ∷ ks) ≡ N
        all_before (inl is) =
            ap (λ st. vain_in N st x.end.rc (final_of k + tally final_of ks)) is
        all_before (inr final) =
            vain_all N x.end.state x.end.rc (final_of k + tally final_of ks)
            (omega (arith, final))

        by_state : (state : State) → e.state ≡ state → is_7_or_8 state ≡ true
            → vain N e ks ≤ vain N x.end (k ∷ ks)
        by_state TimerRecovery is o = in_8 is
        by_state MultipleFrameEstablished is o =
            let was = all_before (s.in_7 is) in
            let few = vain_few N e.state e.rc (tally final_of ks) in
            omega (arith, was, few)
        by_state state is o = cc

    -- x stays as it is, and sends nothing
    unchanged : e ≡ x.end → h.new ≡ [] → Rest N n e y.end rest line
    unchanged same nothing = record {
      both = λ o y_opened. expiries (ap (λ (d : End). is_7_or_8 d.state) (sym same) ∙ o) y_opened;
      mine = λ o shut.
          let few = r.mine (ap (λ (d : End). is_7_or_8 d.state) (sym same) ∙ o) shut in
          let now : vain N e ks ≡ vain N x.end ks = ap (λ (d : End). vain N d ks) same in
          let le =
          vain_fewer N x.end.state x.end.rc (tally final_of ks) (final_of k + tally final_of ks)
          (omega arith) in
          omega (arith, few, now, le);
      its = λ y_opened shut.
          let few = r.its y_opened (ap (λ (d : End). is_7_or_8 d.state) (sym same) ∙ shut) in
          let now : vain N y.end (kinds line) ≡ vain N y.end out =
          ap (λ j. vain_in N y.end.state y.end.rc j) (same_finals nothing) in
          omega (arith, few, now);
    }

    calm : Rest N n e y.end rest line
    calm = by_case (h.handles.calm (omega (arith, none)) (omega (arith, none)))
      where
        by_case : HasStayed x.end e k ⊎ ((e ≡ x.end) × (h.new ≡ []))
            → Rest N n e y.end rest line
        by_case (inl s) = stays s
        by_case (inr same) = unchanged same.0 same.1

  by_one : (j : ℕ) → one ≡ j → Goes N U p n e y.end rest line
  by_one zero none =
      let all = controls in
      inr (
        subst (λ i. Controls U i e y.end rest line) (let same : p - one ≡ p = omega (arith, none) in
            same) all.1,
        calm none,
      )
  by_one (suc j) some =
      let all = controls in
      let enough = all.0 in
      let now = all.1 in
      let most = now.most in
      inl (
        omega (arith, some, enough),
        record {
          a = now.a;
          b = now.b;
          mine = now.mine;
          its = now.its;
          few = now.few;
          most = omega (arith, some, enough, most);
        },
      )

  pub user_goes : Goes N U p n e y.end z.incoming z.outgoing
  user_goes =
      subst (λ l. Goes N U p n e y.end l z.outgoing) (sym h.incoming)
      (subst (λ l. Goes N U p n e y.end rest l) (sym h.sent) (by_one one refl))
