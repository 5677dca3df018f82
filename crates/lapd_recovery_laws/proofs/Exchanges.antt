-- The deliveries of a line after an outage, situation by situation, seen from one side.
use Rattle.std.proofs.Common.{◌≡◌, ◌⊎◌, inl, inr, ℕ, zero, suc, ◌+◌, ◌*◌, ◌-◌, ◌≤◌, ◌==◌, nat_lt, ◌&&◌, Bool, true, false, List, [], ◌∷◌, ◌++◌, length, length-append, refl, sym, ap, subst, ◌∙◌, arith}
use Rattle.std.proofs.lemmas.Bool.Decides.{nat_tests}
use Rattle.lapd_frame.specs.declared.Side.TheVariants as side
use Rattle.lapd_mod128.specs.Counting.{Whole, steps}
use Rattle.lapd_supervision.specs.StateVariables.{may_send, StateVariables}
use Rattle.lapd_link_definition.specs.declared.state.State.{State}
use Rattle.lapd_link_definition.specs.declared.state.State.TheVariants.{TeiAssigned, AwaitingEstablishment, AwaitingRelease, MultipleFrameEstablished, TimerRecovery}
use Rattle.lapd_link_definition.specs.EndOfStep.{is_7_or_8}
use Rattle.lapd_link_definition.specs.End.{End, unsent, begin}
use Rattle.lapd_link_definition.specs.RunningTimers.{HasTimersOfState}
use Rattle.lapd_pair_laws.specs.Invariant.{IsInvariant}
use Rattle.lapd_pair_laws.specs.Line.{Flight}
use Rattle.lapd_pair_laws.specs.Move.{Deliver, Station, acts}
use Rattle.lapd_pair_laws.specs.Timed.{IsTimedIn, IsSettledEnd, AreSettledEnds}
use Rattle.lapd_pair_laws.specs.World.{World}
use Rattle.lapd_pair_laws.proofs.Drains.{Drains}
use Rattle.lapd_pair_laws.proofs.Worlds.{left_by}
use Rattle.lapd_recovery_laws.proofs.OneMoreFrame.{seeing}
use Rattle.lapd_recovery_laws.proofs.Cleared.{AreClear}
use Rattle.lapd_recovery_laws.proofs.ClosedSteps.{Sees, seen_after_frame, disc_in_4, disc_in_6, ua_in_6, dm_in_6, released}
use Rattle.lapd_recovery_laws.proofs.HalfSteps.{dm, disc, sabme_in_5, disc_in_5, dm_in_5, ua_in_5, abandoned, leaving, sabme_in_6, ignored_if_closed, disconnected, disc_in_7_8}
use Rattle.lapd_recovery_laws.proofs.LoneSteps.{is_ignored, sabme, ua, established, sabme_in_4, IsNew, is_new}
use Rattle.lapd_recovery_laws.proofs.Lost.{at}
use Rattle.lapd_recovery_laws.proofs.SendsOn.{AreIgnored, IsUpWith, sabme_in_7_8, IsCleared, sendable_in, sendable, sendable_few, ua_opens}
use Rattle.lapd_recovery_laws.proofs.Situations.{twice, attempt, gone, again_in, again, polls_in, polls, by_peer_5, Asks5, by_peer_6, Asks6, Accepted, Crossed, Refused, IsAnswer, EndInAnswer, Parting, alone_5, asks_6, accepted, crossed, refused, parting, closed, ComesOn, up_drains}
use Rattle.lapd_recovery_laws.proofs.Transitions.{timers_in, empty_4_too, state_of, by_user, by_network, open_peer_6, closed_peer_6, none_left}

module _ (N : ℕ) (some_retries : 1 ≤ N) where
  -- ---- The SABME of the user is delivered.

  module _ (n : ℕ) (x y : Station) where
    abbrev after_sabme : World
    after_sabme = by_network Deliver x y [] (sabme ∷ [])

    -- y was in state 4: it has nothing to send
    new_is_up : (e : End) → IsNew e → IsUpWith [] e
    new_is_up e new = record {
      in_7 = new.in_7;
      va = new.va;
      vr = new.vr;
      idle = new.idle;
      free = new.free;
      messages_are = record {
        ignored = tt;
        ready = tt;
        whole = sym new.vs;
        polls = refl;
        finals = refl;
        rejections_none = refl;
      };
      count = new.vs;
      on = inl refl;
      off = λ _. new.off;
    }

    asks5_at_4 : Asks5 N n (at x y [] (sabme ∷ [])) → y.end.state ≡ TeiAssigned
        → length y.end.given ≡ y.end.next → y.end.t200 ≡ false → ComesOn N n after_sabme
    asks5_at_4 s is empty off =
        let v =
        seen_after_frame y sabme [] [] (established y.end) (ua ∷ [])
        (sabme_in_4 y.end is empty) in
        let new : IsNew after_sabme.network.end =
        subst IsNew (sym v.end) (is_new y.end off empty) in
        let le = s.most in
        let none = new.none in
        let vs = new.vs in
        record {
          some = omega (arith, le);
          arriving = inr (inl (accepted (record {
            user = s.user;
            frames = [];
            network = new_is_up after_sabme.network.end new;
            to_user = v.outgoing;
            to_network = v.incoming;
            most = omega (arith, le, none, vs);
          })));
        }

    asks5_at_7_8 : Asks5 N n (at x y [] (sabme ∷ [])) → is_7_or_8 y.end.state ≡ true
        → ComesOn N n after_sabme
    asks5_at_7_8 s opened =
        let o = sabme_in_7_8 y [] [] opened in
        let le = s.most in
        let few = o.fewer in
        let count = o.up.count in
        record {
          some = omega (arith, le);
          arriving = inr (inl (accepted (record {
            user = s.user;
            frames = o.frames;
            network = o.up;
            to_user = o.outgoing;
            to_network = o.incoming;
            most = omega (arith, le, few, count);
          })));
        }

    asks5_at_5 : Asks5 N n (at x y [] (sabme ∷ []))
        → y.end.state ≡ AwaitingEstablishment → ComesOn N n after_sabme
    asks5_at_5 s is =
        let v = seen_after_frame y sabme [] [] y.end (ua ∷ []) (sabme_in_5 y.end is) in
        let le = s.most in
        let all =
        ap (λ st. by_peer_5 N st (attempt y.end + gone N y.end + again N x.end)
        (attempt y.end)) is in
        let same = ap unsent v.end in
        let same_attempt = ap attempt v.end in
        let same_gone = ap (gone N) v.end in
        record {
          some = omega (arith, le);
          arriving =
              inr (inl (crossed (record {
                user = s.user;
                network = ap state_of v.end ∙ is;
                to_user = v.outgoing;
                to_network = v.incoming;
                most = omega (arith, le, all, same, same_attempt, same_gone);
              })));
        }

    asks5_at_6 : Asks5 N n (at x y [] (sabme ∷ [])) → y.end.state ≡ AwaitingRelease
        → ComesOn N n after_sabme
    asks5_at_6 s is =
        let v = seen_after_frame y sabme [] [] y.end (dm ∷ []) (sabme_in_6 y.end is) in
        let le = s.most in
        let only =
        ap (λ st. by_peer_5 N st (attempt y.end + gone N y.end + again N x.end)
        (attempt y.end)) is in
        let same_attempt = ap attempt v.end in
        record {
          some = omega (arith, le);
          arriving =
              inr (inl (refused (record {
                user = s.user;
                network = ap state_of v.end ∙ is;
                to_user = v.outgoing;
                to_network = v.incoming;
                most = omega (arith, le, only, same_attempt);
              })));
        }

    pub asks5_delivered : Asks5 N n (at x y [] (sabme ∷ []))
        → IsInvariant (at x y [] (sabme ∷ [])) → HasTimersOfState y.end → ComesOn N n after_sabme
    asks5_delivered s i has = by_state y.end.state refl
      where
        by_state : (state : State) → y.end.state ≡ state → ComesOn N n after_sabme
        by_state TeiAssigned is =
            asks5_at_4 s is (empty_4_too (at x y [] (sabme ∷ [])) i is)
            (timers_in TeiAssigned y.end has is).0
        by_state AwaitingEstablishment is = asks5_at_5 s is
        by_state AwaitingRelease is = asks5_at_6 s is
        by_state MultipleFrameEstablished is = asks5_at_7_8 s (ap is_7_or_8 is)
        by_state TimerRecovery is = asks5_at_7_8 s (ap is_7_or_8 is)

  -- ---- The DISC of the user is delivered.

  parting_cons : (f : Flight) (fs : List Flight) → is_ignored f.control ≡ true → EndInAnswer N fs
      → EndInAnswer N (f ∷ fs)
  parting_cons f [] ignored end = absurd end
  parting_cons f (g ∷ gs) ignored end = (ignored, end)

  parting_more : (fs : List Flight) (f : Flight) → AreIgnored fs → IsAnswer N f
      → EndInAnswer N (fs ++ f ∷ [])
  parting_more [] f ignored answer = answer
  parting_more (g ∷ fs) f ignored answer =
      parting_cons g (fs ++ f ∷ []) ignored.0 (parting_more fs f ignored.1 answer)

  module _ (n : ℕ) (x y : Station) (back : List Flight) where
    abbrev after_disc : World
    after_disc = by_network Deliver x y back (disc ∷ [])

    abbrev Left : End → Flight → Type 0
    Left e f =
        Sees (left_by (seeing y (disc ∷ []) back)
        (acts Whole side.User Deliver (seeing y (disc ∷ []) back))) e [] (back ++ f ∷ [])

    parts : Asks6 N n (at x y back (disc ∷ [])) → (e : End) (f : Flight) → IsAnswer N f
        → Left e f → is_7_or_8 e.state ≡ false
        → attempt e + 2 * unsent e ≤ by_peer_6 N y.end.state (attempt y.end + 2 * unsent y.end)
        → ComesOn N n after_disc
    parts s e f answer v closed_state less =
        let le = s.most in
        let len = ap (λ fs. length fs) v.outgoing in
        let more = length-append back (f ∷ []) in
        let same = ap unsent v.end in
        let same_attempt = ap attempt v.end in
        record {
          some = omega (arith, le);
          arriving = inr (inl (parting (record {
            user = s.user;
            network = ap (λ (d : End). is_7_or_8 d.state) v.end ∙ closed_state;
            to_user = subst (EndInAnswer N) (sym v.outgoing) (parting_more back f s.ignored answer);
            to_network = v.incoming;
            most = omega (arith, le, less, len, more, same, same_attempt);
          })));
        }

    pub asks6_delivered : Asks6 N n (at x y back (disc ∷ [])) → ComesOn N n after_disc
    asks6_delivered s = by_state y.end.state refl
      where
        by_state : (state : State) → y.end.state ≡ state → ComesOn N n after_disc
        by_state TeiAssigned is =
            let all =
            closed_peer_6 N some_retries y.end.state (attempt y.end + 2 * unsent y.end)
            (ap is_7_or_8 is) in
            parts s y.end dm (inr refl)
            (seen_after_frame y disc [] back y.end (dm ∷ []) (disc_in_4 y.end is)) (ap is_7_or_8 is)
            (omega (arith, all))
        by_state AwaitingEstablishment is =
            let all =
            closed_peer_6 N some_retries y.end.state (attempt y.end + 2 * unsent y.end)
            (ap is_7_or_8 is) in
            parts s y.end dm (inr refl)
            (seen_after_frame y disc [] back y.end (dm ∷ []) (disc_in_5 y.end is)) (ap is_7_or_8 is)
            (omega (arith, all))
        by_state AwaitingRelease is =
            let all =
            closed_peer_6 N some_retries y.end.state (attempt y.end + 2 * unsent y.end)
            (ap is_7_or_8 is) in
            parts s y.end ua (inl refl)
            (seen_after_frame y disc [] back y.end (ua ∷ []) (disc_in_6 y.end is)) (ap is_7_or_8 is)
            (omega (arith, all))
        by_state MultipleFrameEstablished is =
            parts s (disconnected y.end) ua (inl refl)
            (seen_after_frame y disc [] back (disconnected y.end) (ua ∷ [])
            (disc_in_7_8 y.end (ap is_7_or_8 is))) refl (omega arith)
        by_state TimerRecovery is =
            parts s (disconnected y.end) ua (inl refl)
            (seen_after_frame y disc [] back (disconnected y.end) (ua ∷ [])
            (disc_in_7_8 y.end (ap is_7_or_8 is))) refl (omega arith)

  -- the user ignores a frame before the answer
  pub asks6_ignores : (n : ℕ) (x y : Station) (frame : Flight) (rest : List Flight)
      → Asks6 N n (at x y (frame ∷ rest) (disc ∷ []))
      → ComesOn N n (by_user Deliver x y (frame ∷ rest) (disc ∷ []))
  asks6_ignores n x y frame rest s =
      let v =
      seen_after_frame x frame rest (disc ∷ []) x.end []
      (ignored_if_closed x.end frame.control frame.role (ap is_7_or_8 s.user) s.ignored.0)
      in
      let le = s.most in
      let len = ap (λ fs. length fs) v.incoming in
      record {
        some = omega (arith, le);
        arriving =
            inr (inl (asks_6 (record {
              user = ap state_of v.end ∙ s.user;
              ignored = subst AreIgnored (sym v.incoming) s.ignored.1;
              to_network = v.outgoing;
              most = omega (arith, le, len);
            })));
      }

  -- ---- An answer is delivered to the user in state 6.

  pub parting_moves : (n : ℕ) (x y : Station) (frame : Flight) (rest : List Flight)
      → Parting N n (at x y (frame ∷ rest) []) → length x.end.given ≡ x.end.next
      → ComesOn N n (by_user Deliver x y (frame ∷ rest) [])
  parting_moves n x y frame [] s empty = by_answer s.to_user
    where
      done : Sees (left_by (seeing x (frame ∷ []) [])
          (acts Whole side.User Deliver (seeing x (frame ∷ []) []))) (released x.end s.user) []
          [] → ComesOn N n (by_user Deliver x y (frame ∷ []) [])
      done v =
          let le = s.most in
          let over : attempt (by_user Deliver x y (frame ∷ []) []).user.end ≡ 0 =
          ap attempt v.end in
          let same = ap unsent v.end in
          let none = none_left x.end empty in
          record {
            some = omega (arith, le);
            arriving = inr (inl (closed (record {
              user = ap (λ (d : End). is_7_or_8 d.state) v.end;
              network = s.network;
              to_user = v.incoming;
              to_network = v.outgoing;
              sends = 0;
              leaves = 0;
              both = λ in_5 its_in_5. absurd (let is = ap state_of v.end in cc);
              most = omega (arith, le, over, same, none);
            })));
          }

      by_answer : IsAnswer N frame
          → ComesOn N n (by_user Deliver x y (frame ∷ []) [])
      by_answer (inl is) =
          done (subst (λ g. Sees (left_by (seeing x (g ∷ []) [])
          (acts Whole side.User Deliver (seeing x (g ∷ []) []))) (released x.end s.user)
          [] []) (sym is)
          (seen_after_frame x ua [] [] (released x.end s.user) [] (ua_in_6 x.end s.user)))
      by_answer (inr is) =
          done (subst (λ g. Sees (left_by (seeing x (g ∷ []) [])
          (acts Whole side.User Deliver (seeing x (g ∷ []) []))) (released x.end s.user)
          [] []) (sym is)
          (seen_after_frame x dm [] [] (released x.end s.user) [] (dm_in_6 x.end s.user)))
  parting_moves n x y frame (g ∷ gs) s empty =
      let v =
      seen_after_frame x frame (g ∷ gs) [] x.end []
      (ignored_if_closed x.end frame.control frame.role (ap is_7_or_8 s.user) s.to_user.0)
      in
      let le = s.most in
      let len = ap (λ fs. length fs) v.incoming in
      record {
        some = omega (arith, le);
        arriving =
            inr (inl (parting (record {
              user = ap state_of v.end ∙ s.user;
              network = s.network;
              to_user = subst (EndInAnswer N) (sym v.incoming) s.to_user.1;
              to_network = v.outgoing;
              most = omega (arith, le, len);
            })));
      }

  -- ---- The DM is delivered to the user in state 5.

  pub refused_moves : (n : ℕ) (x y : Station) → Refused N n (at x y (dm ∷ []) [])
      → unsent y.end ≡ 0 → ComesOn N n (by_user Deliver x y (dm ∷ []) [])
  refused_moves n x y s none =
      let v = seen_after_frame x dm [] [] (abandoned x.end s.user) [] (dm_in_5 x.end s.user) in
      let le = s.most in
      let over : attempt (by_user Deliver x y (dm ∷ []) []).user.end ≡ 0 =
      ap attempt v.end in
      let dropped : unsent (by_user Deliver x y (dm ∷ []) []).user.end ≡ unsent
      (abandoned x.end s.user) =
      ap unsent v.end in
      record {
        some = omega (arith, le);
        arriving = inr (inl (closed (record {
          user = ap (λ (d : End). is_7_or_8 d.state) v.end;
          network = ap is_7_or_8 s.network;
          to_user = v.incoming;
          to_network = v.outgoing;
          sends = 0;
          leaves = 0;
          both = λ in_5 its_in_5. absurd (let is = s.network in cc);
          most = omega (arith, le, over, dropped, none);
        })));
      }

  -- ---- The UA is delivered to the user in state 5.

  is_cleared : (e : End) → AreClear e
      → IsTimedIn e.state e.t200 e.window.vs e.window.va e.window.peer_busy
      → e.state ≡ AwaitingEstablishment → e.release_pending ≡ false → IsCleared e
  is_cleared e clear timed is stays = record {
    in_5 = is;
    stays = stays;
    idle = clear.idle;
    free = subst (λ st. IsTimedIn st e.t200 e.window.vs e.window.va e.window.peer_busy) is timed;
    none_pending = clear.none_pending;
  }

  -- with a release pending, the DISC is sent
  leaves_now : (n : ℕ) (x y : Station) (rest : List Flight)
      (is : x.end.state ≡ AwaitingEstablishment) → x.end.release_pending ≡ true
      → AreIgnored rest
      → length rest + 3 + by_peer_6 N y.end.state (attempt y.end + 2 * unsent y.end) ≤ n
      → ComesOn N n (by_user Deliver x y (ua ∷ rest) [])
  leaves_now n x y rest is pending ignored most =
      let v =
      seen_after_frame x ua rest [] (leaving x.end is) (disc ∷ [])
      (ua_in_5 x.end is pending) in
      let len = ap (λ fs. length fs) v.incoming in
      record {
        some = omega (arith, most);
        arriving =
            inr (inl (asks_6 (record {
              user = ap state_of v.end;
              ignored = subst AreIgnored (sym v.incoming) ignored;
              to_network = v.outgoing;
              most = omega (arith, most, len);
            })));
      }

  pub accepted_moves : (n : ℕ) (x y : Station) (fs : List Flight)
      → (s : Accepted N n (at x y (ua ∷ fs) [])) → s.frames ≡ fs
      → (x.end.state ≡ AwaitingEstablishment → x.end.layer3_initiated ≡ true → unsent x.end ≡ 0)
      → AreClear x.end
      → IsTimedIn x.end.state x.end.t200 x.end.window.vs x.end.window.va x.end.window.peer_busy
      → IsInvariant (by_user Deliver x y (ua ∷ fs) [])
      → AreSettledEnds (by_user Deliver x y (ua ∷ fs) [])
      → ComesOn N n (by_user Deliver x y (ua ∷ fs) [])
  accepted_moves n x y fs s same empty clear timed i settled =
      by_pending x.end.release_pending refl
    where
      up_now : IsUpWith fs y.end
      up_now = subst (λ l. IsUpWith l y.end) same s.network

      len : length s.frames ≡ length fs
      len = ap (λ l. length l) same

      by_pending : (b : Bool) → x.end.release_pending ≡ b
          → ComesOn N n (by_user Deliver x y (ua ∷ fs) [])
      by_pending true pending =
          let le = s.most in
          let bit : twice x.end.release_pending ≡ 2 = ap twice pending in
          let none =
          open_peer_6 N some_retries y.end.state (attempt y.end + 2 * unsent y.end)
          (ap is_7_or_8 up_now.in_7) in
          leaves_now n x y fs s.user pending up_now.messages_are.ignored (omega (arith, le, bit, none, len))
      by_pending false stays =
          let le = s.most in
          let o = ua_opens x (is_cleared x.end clear timed s.user stays) (empty s.user) fs [] in
          let w = by_user Deliver x y (ua ∷ fs) [] in
          let same_world : w ≡ at w.user y fs o.frames =
          ap (λ l. at w.user y l w.to_network) o.incoming
          ∙ ap (λ l. at w.user y fs l) o.outgoing in
          let few = o.fewer in
          let all = sendable_few (x.end.window.vs == x.end.window.va) (unsent x.end) in
          let count = o.up.count in
          record {
            some = omega (arith, le);
            arriving =
                inl (inl (subst (λ u. Drains (n - 1) u) (sym same_world)
                (up_drains w.user y o.frames fs (n - 1) (subst IsInvariant same_world i)
                (subst AreSettledEnds same_world settled) o.up up_now
                (omega (arith, le, few, all, count, len)))));
          }

  -- ---- The UA is delivered, and the peer is in state 5 too.

  none_unsent : (k next given : ℕ) (m : StateVariables) → 1 ≤ k → m.vs ≡ m.va → m.peer_busy ≡ false
      → (may_send Whole k m && nat_lt next given) ≡ false → given ≤ next
  unfolding may_send steps
  none_unsent k next given m some same free sent =
      let room : nat_lt (m.vs - m.va) k ≡ true = grind (arith, nat_tests, some, same) in
      let none : nat_lt next given ≡ false = rw (free, room) at sent in
      grind (arith, nat_tests, none)

  -- an end in state 7 that has sent nothing has nothing to send
  nothing_waits : (e : End) → IsSettledEnd e → e.state ≡ MultipleFrameEstablished
      → e.window.vs ≡ e.window.va → e.window.peer_busy ≡ false → unsent e ≡ 0
  unfolding begin
  nothing_waits e settled is same free =
      let sent = settled.closed.sent in
      let all =
      none_unsent e.parameters.k e.next (length e.given) e.window settled.some same free
      (rw is at sent) in
      omega (arith, all)

  -- what an end that has just established can still do while its peer is in state 5
  polls_of_up : (frames : List Flight) (e : End) (before : ℕ) → IsUpWith frames e → IsSettledEnd e
      → unsent e + length frames ≤ before
      → (polls N e + again N e ≡ 0) ⊎ ((polls N e + again N e ≤ 2 * N + 3) × (1 ≤ before))
  polls_of_up frames e before up settled few = by_length (length frames) refl
    where
      polls_are : (b : Bool) → e.t200 ≡ b
          → polls N e ≡ polls_in N MultipleFrameEstablished b (e.parameters.n200 - e.rc)
      polls_are b on =
          ap (λ st. polls_in N st e.t200 (e.parameters.n200 - e.rc)) up.in_7
          ∙ ap (λ t. polls_in N MultipleFrameEstablished t (e.parameters.n200 - e.rc)) on

      none_again : (same : Bool) → again_in N same 0 ≡ 0
      none_again true = refl
      none_again false = refl

      differs : (a b : ℕ) (m : ℕ) → a ≡ suc m → b ≡ 0 → (a == b) ≡ false
      differs a b m some none = grind (arith, nat_tests, some, none)

      by_length : (m : ℕ) → length frames ≡ m
          → (polls N e + again N e ≡ 0) ⊎ ((polls N e + again N e ≤ 2 * N + 3) × (1 ≤ before))
      by_length zero none =
          let off = up.off none in
          let vs : e.window.vs ≡ 0 = up.count ∙ none in
          let left = nothing_waits e settled up.in_7 (vs ∙ sym up.va) up.free in
          let no_polls = polls_are false off in
          let no_again : again N e ≡ 0 =
          ap (λ u. again_in N (e.window.vs == e.window.va) u) left
          ∙ none_again (e.window.vs == e.window.va) in
          inl (omega (arith, no_polls, no_again))
      by_length (suc m) some =
          let no_again : again N e ≡ 0 =
          ap (λ b. again_in N b (unsent e))
          (differs e.window.vs e.window.va m (up.count ∙ some) up.va) in
          let on : e.t200 ≡ true = elim up.on [
            | inl none ↦ absurd (omega (arith, none, some))
            | inr on ↦ on
          ] in
          let all_polls = polls_are true on in
          inr (omega (arith, no_again, all_polls), omega (arith, few, some))

  again_of_sendable : (same : Bool) (u : ℕ) → 1 ≤ sendable_in same u → again_in N same u ≡ 2 * N + 3
  again_of_sendable true zero some = absurd (omega (arith, some))
  again_of_sendable true (suc u) some = refl
  again_of_sendable false u some = absurd (omega (arith, some))

  -- messages are sent only if none is outstanding
  pub crossed_moves : (n : ℕ) (x y : Station) → Crossed N n (at x y (ua ∷ []) [])
      → (x.end.state ≡ AwaitingEstablishment → x.end.layer3_initiated ≡ true → unsent x.end ≡ 0)
      → AreClear x.end
      → IsTimedIn x.end.state x.end.t200 x.end.window.vs x.end.window.va x.end.window.peer_busy
      → AreSettledEnds (by_user Deliver x y (ua ∷ []) [])
      → ComesOn N n (by_user Deliver x y (ua ∷ []) [])
  crossed_moves n x y s empty clear timed settled = by_pending x.end.release_pending refl
    where
      by_pending : (b : Bool) → x.end.release_pending ≡ b
          → ComesOn N n (by_user Deliver x y (ua ∷ []) [])
      by_pending true pending =
          let most = s.most in
          let bit : twice x.end.release_pending ≡ 2 = ap twice pending in
          let all =
          closed_peer_6 N some_retries y.end.state (attempt y.end + 2 * unsent y.end)
          (ap is_7_or_8 s.network) in
          leaves_now n x y [] s.user pending tt (omega (arith, most, bit, all))
      by_pending false stays =
          let most = s.most in
          let o = ua_opens x (is_cleared x.end clear timed s.user stays) (empty s.user) [] [] in
          let w = by_user Deliver x y (ua ∷ []) [] in
          let few = o.fewer in
          let len = ap (λ fs. length fs) o.outgoing in
          let all = sendable_few (x.end.window.vs == x.end.window.va) (unsent x.end) in
          let room : polls N w.user.end + again N w.user.end ≤ again N x.end =
          elim (polls_of_up o.frames w.user.end (sendable x.end) o.up settled.user few) [
            | inl none ↦ omega (arith, none)
            | inr some ↦ let sends =
                again_of_sendable (x.end.window.vs == x.end.window.va) (unsent x.end) some.1 in let
                some_polls =
                some.0 in omega (arith, sends, some_polls)
          ] in
          record {
            some = omega (arith, most);
            arriving = inr (inl (alone_5 (record {
              open_state = ap is_7_or_8 o.up.in_7;
              network = s.network;
              to_user = o.incoming;
              ignored = subst AreIgnored (sym o.outgoing) o.up.messages_are.ignored;
              most = omega (arith, most, few, all, len, room);
            })));
          }
