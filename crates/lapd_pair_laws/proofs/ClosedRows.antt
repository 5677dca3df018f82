-- Rows of the state table that leave a side closed.
use Rattle.std.proofs.Common.{◌≡◌, nat_lt, Bool, true, false, List, [], ◌∷◌, ◌++◌, length, None, refl, sym, ap, subst, arith}
use Rattle.lapd_timers.specs.declared.timer.Timer.TheVariants.{T200, T203}
use Rattle.lapd_frame.specs.declared.Role.TheVariants.{Command, Answer}
use Rattle.lapd_frame.specs.declared.Control.TheVariants.{Sabme, Dm, Disc, Ua}
use Rattle.lapd_mod128.specs.Counting.{Whole}
use Rattle.lapd_link_definition.specs.declared.state.State.{State}
use Rattle.lapd_link_definition.specs.declared.state.State.TheVariants.{TeiAssigned, AwaitingEstablishment, AwaitingRelease}
use Rattle.lapd_link_definition.specs.declared.out.Letter.TheVariants as letter
use Rattle.lapd_link_definition.specs.declared.out.Out.TheVariants.{Send, Released, ReleaseConfirm, Report}
use Rattle.lapd_link_definition.specs.AwaitingEstablishment.{release_primitive, end_establishment, awaiting_establishment_t200}
use Rattle.lapd_link_definition.specs.AwaitingRelease.{confirm_release, awaiting_release_t200}
use Rattle.lapd_link_definition.specs.EndOfStep.{is_7_or_8, end_step}
use Rattle.lapd_link_definition.specs.End.{StepState, ◌▷◌}
use Rattle.lapd_link_definition.specs.Procedures.{put, state_to, rc_to, increment_rc, layer3_initiated_to, release_pending_to, start, stop, expired, discard_i_queue, establish_data_link, reestablish_data_link}
use Rattle.lapd_pair_laws.specs.Kinds.{Kind, Asks, Accepts, Refuses, tally, ask_of, answer_of}
use Rattle.lapd_pair_laws.specs.Parties.{Party, reception_now, received_in}
use Rattle.lapd_pair_laws.specs.Conjuncts.{IsNumbering, IsEmpty, IsConsistentSender, is_holding, most_asks}
use Rattle.lapd_pair_laws.specs.Invariant.{Both}
use Rattle.lapd_pair_laws.proofs.Closed.{still, still_sender, same, deaf}
use Rattle.lapd_pair_laws.proofs.Closings.{all_passed, passes_all, empties, leaving_is_empty, empty_where_leaving, asking, settling, refusing, accepts}
use Rattle.lapd_pair_laws.proofs.ActionEffects.{Context, seen, line}
use Rattle.lapd_pair_laws.proofs.Lists.{by_test}
use Rattle.lapd_pair_laws.proofs.Losses.{receives_less, both_less}
use Rattle.lapd_pair_laws.proofs.MidSteps.{open_numbering, open_holds, open_asks_none}
use Rattle.lapd_pair_laws.proofs.Parts.{part_whole, part_first}
use Rattle.lapd_pair_laws.proofs.ClosedActions.{Seems, IsUntold, Ends, ends_closed, dropping, seems_put, seems_rc, seems_increment, seems_expired, seems_start, seems_stop, seems_send, seems_state, seems_layer3, seems_pending, seems_discard, seems_establish, seems_reestablish}

pub here : (c : Context) (s : StepState) → Seems c s (seen c s) (line c s)
here c s = record { party = refl; line = refl }

-- ---- No frame is sent, and the side is unchanged.

pub ends_as_it_was : (c : Context) (ks : List Kind) (s t : StepState)
    → is_7_or_8 s.end.state ≡ false → Seems c t (seen c s) (line c s)
    → Both (seen c s) c.peer (line c s) ks → Ends c ks (end_step Whole t)
ends_as_it_was c ks s t closed w b = ends_closed c ks t (seen c s) (line c s) closed w b

-- the frame in hand is ignored
pub passed_over : (c : Context) (k : Kind) (ks : List Kind) (s : StepState)
    → Both (seen c s) c.peer (line c s) (k ∷ ks) → Both (seen c s) c.peer (line c s) ks
passed_over c k ks s b = both_less (seen c s) c.peer (part_whole (line c s)) (part_first k ks) b

-- ---- A SABME or DISC in hand is answered, in the same state.

pub ends_refusing : (c : Context) (ks : List Kind) (s : StepState) → is_7_or_8 s.end.state ≡ false
    → Both (seen c s) c.peer (line c s) (Asks ∷ ks)
    → Ends c ks (end_step Whole (put (Send Answer (Dm true)) s))
ends_refusing c ks s closed b =
    let x = seen c s in
    ends_closed c ks (put (Send Answer (Dm true)) s) x (line c s ++ Refuses ∷ []) closed
    (seems_send c Answer (Dm true) Refuses s x (line c s) refl (here c s))
    (refusing x c.peer (line c s) ks s.end.state s.end.layer3_initiated s.end.release_pending
    x.sends.first x.sends.next x.sends.passed x.takes.rejecting b closed
    (omega (arith, b.mine.exchange.one)) b.mine.preserved b.mine.passed (λ h. h)
    (same refl (receives_less x (part_first Asks ks))))

pub ends_accepting : (c : Context) (ks : List Kind) (s : StepState) → is_7_or_8 s.end.state ≡ false
    → Both (seen c s) c.peer (line c s) (Asks ∷ ks)
    → Ends c ks (end_step Whole (put (Send Answer (Ua true)) s))
ends_accepting c ks s closed b =
    let x = seen c s in
    ends_closed c ks (put (Send Answer (Ua true)) s) x (line c s ++ Accepts ∷ []) closed
    (seems_send c Answer (Ua true) Accepts s x (line c s) refl (here c s))
    (accepts x c.peer (line c s) ks s.end.state s.end.layer3_initiated s.end.release_pending
    x.sends.first x.sends.next x.sends.passed x.takes.rejecting b closed
    (omega (arith, b.mine.exchange.one)) b.mine.preserved b.mine.passed (λ h. h)
    (same refl (receives_less x (part_first Asks ks))))

-- ---- Layer 3 requests establishment or release.

-- in states 4, 7 and 8
pub ends_establishing : (c : Context) (ks : List Kind) (s : StepState) → most_asks s.end.state ≡ 0
    → Both (seen c s) c.peer (line c s) ks
    → Ends c ks
    (end_step Whole (s ▷ discard_i_queue ▷ layer3_initiated_to true ▷ establish_data_link))
ends_establishing c ks s none b =
    let x = seen c s in
    let n = length s.end.given in
    let one = b.mine.exchange.one in
    let l = line c s in
    ends_closed c ks (s ▷ discard_i_queue ▷ layer3_initiated_to true ▷ establish_data_link)
    (still AwaitingEstablishment true false n n (all_passed x.sends) false x) (l ++ Asks ∷ [])
    refl
    (seems_establish c (s ▷ discard_i_queue ▷ layer3_initiated_to true)
    (record (dropping x) { asked = true }) l
    (seems_layer3 c true (s ▷ discard_i_queue) (dropping x) l
    (seems_discard c s x l (here c s))))
    (asking x c.peer l ks ks AwaitingEstablishment true false n n
    (all_passed x.sends) false (part_whole ks) b refl refl (omega (arith, one, none))
    (omega (arith, one, none))
    (empties n n (all_passed x.sends) x.sends refl refl) (passes_all x c.peer l ks b) (λ h. cc))

-- in state 5
pub ends_established_by_layer3 : (c : Context) (ks : List Kind) (s : StepState)
    → s.end.state ≡ AwaitingEstablishment → Both (seen c s) c.peer (line c s) ks
    → Ends c ks (end_step Whole (s ▷ discard_i_queue ▷ layer3_initiated_to true))
ends_established_by_layer3 c ks s is b =
    let x = seen c s in
    let n = length s.end.given in
    let l = line c s in
    let closed : is_7_or_8 s.end.state ≡ false = ap (λ st. is_7_or_8 st) is in
    ends_closed c ks (s ▷ discard_i_queue ▷ layer3_initiated_to true)
    (still s.end.state true s.end.release_pending n n (all_passed x.sends) x.takes.rejecting x)
    l closed
    (seems_layer3 c true (s ▷ discard_i_queue) (dropping x) l (seems_discard c s x l (here c s)))
    (settling x c.peer l ks ks s.end.state true s.end.release_pending n n
    (all_passed x.sends) x.takes.rejecting (part_whole ks) b closed b.mine.exchange.one
    (subst (λ st. IsConsistentSender st true s.end.release_pending
    (still_sender n n (all_passed x.sends) x.sends)) (sym is)
    (empties n n (all_passed x.sends) x.sends refl refl)) (passes_all x c.peer l ks b)
    (λ h. let impossible : is_holding AwaitingEstablishment true s.end.release_pending ≡ true =
    subst (λ st. is_holding st true s.end.release_pending ≡ true) is h in cc)
    (same refl (receives_less x (part_whole ks))))

never_holds : (state : State) (asked : Bool) → state ≡ AwaitingEstablishment
    → is_holding state asked true ≡ true → ⊥
never_holds state true is h =
    let impossible : is_holding AwaitingEstablishment true true ≡ true =
    subst (λ st. is_holding st true true ≡ true) is h in
    cc
never_holds state false is h =
    let impossible : is_holding AwaitingEstablishment false true ≡ true =
    subst (λ st. is_holding st false true ≡ true) is h in
    cc

pub ends_release_pending : (c : Context) (ks : List Kind) (s : StepState)
    → s.end.state ≡ AwaitingEstablishment → Both (seen c s) c.peer (line c s) ks
    → Ends c ks (end_step Whole (s ▷ discard_i_queue ▷ release_pending_to true))
ends_release_pending c ks s is b =
    let x = seen c s in
    let n = length s.end.given in
    let l = line c s in
    let closed : is_7_or_8 s.end.state ≡ false = ap (λ st. is_7_or_8 st) is in
    let z =
    still s.end.state s.end.layer3_initiated true n n (all_passed x.sends) x.takes.rejecting
    x in
    ends_closed c ks (s ▷ discard_i_queue ▷ release_pending_to true) z l closed
    (seems_pending c true (s ▷ discard_i_queue) (dropping x) l (seems_discard c s x l (here c s)))
    (settling x c.peer l ks ks s.end.state s.end.layer3_initiated true n n
    (all_passed x.sends) x.takes.rejecting (part_whole ks) b closed b.mine.exchange.one
    (subst (λ st. IsConsistentSender st s.end.layer3_initiated true
    (still_sender n n (all_passed x.sends) x.sends)) (sym is)
    (leaving_is_empty s.end.layer3_initiated (still_sender n n (all_passed x.sends) x.sends)
    (empties n n (all_passed x.sends) x.sends refl refl))) (passes_all x c.peer l ks b)
    (λ h. absurd (never_holds s.end.state s.end.layer3_initiated is h))
    (deaf (subst (λ st. received_in st true (reception_now z ks) ks ≡ None) (sym is) refl)))

-- in states 7 and 8
pub ends_releasing : (c : Context) (ks : List Kind) (s : StepState) → is_7_or_8 s.end.state ≡ true
    → Both (seen c s) c.peer (line c s) ks
    → Ends c ks (end_step Whole (s ▷ discard_i_queue ▷ rc_to 0 ▷ put (Send Command (Disc true)) ▷
    stop T203 ▷ start T200 ▷ state_to AwaitingRelease))
ends_releasing c ks s opened b =
    let x = seen c s in
    let n = length s.end.given in
    let one = b.mine.exchange.one in
    let none = open_asks_none s.end.state opened in
    let l = line c s in
    let k = l ++ Asks ∷ [] in
    let p = dropping x in
    let s1 = s ▷ discard_i_queue in
    let s2 = s1 ▷ rc_to 0 in
    let s3 = s2 ▷ put (Send Command (Disc true)) in
    let s4 = s3 ▷ stop T203 in
    let s5 = s4 ▷ start T200 in
    ends_closed c ks (s5 ▷ state_to AwaitingRelease)
    (still AwaitingRelease s.end.layer3_initiated s.end.release_pending n n
    (all_passed x.sends) x.takes.rejecting x) k refl
    (seems_state c AwaitingRelease s5 p k
    (seems_start c T200 s4 p k (seems_stop c T203 s3 p k
    (seems_send c Command (Disc true) Asks s2 p l refl
    (seems_rc c 0 s1 p l (seems_discard c s x l (here c s)))))))
    (asking x c.peer l ks ks AwaitingRelease s.end.layer3_initiated s.end.release_pending n n
    (all_passed x.sends) x.takes.rejecting (part_whole ks) b refl refl
    (omega (arith, one, none)) (omega (arith, one, none))
    (empties n n (all_passed x.sends) x.sends refl refl) (passes_all x c.peer l ks b) (λ h. cc))

-- a DISC arrives in states 7 and 8
pub ends_disconnected : (c : Context) (ks : List Kind) (s : StepState)
    → is_7_or_8 s.end.state ≡ true → Both (seen c s) c.peer (line c s) (Asks ∷ ks)
    → Ends c ks (end_step Whole (s ▷ discard_i_queue ▷ put (Send Answer (Ua true)) ▷ put Released ▷
    stop T200 ▷ stop T203 ▷ state_to TeiAssigned))
ends_disconnected c ks s opened b =
    let x = seen c s in
    let n = length s.end.given in
    let one = b.mine.exchange.one in
    let none = open_asks_none s.end.state opened in
    let l = line c s in
    let k = l ++ Accepts ∷ [] in
    let p = dropping x in
    let s1 = s ▷ discard_i_queue in
    let s2 = s1 ▷ put (Send Answer (Ua true)) in
    let s3 = s2 ▷ put Released in
    let s4 = s3 ▷ stop T200 in
    let s5 = s4 ▷ stop T203 in
    ends_closed c ks (s5 ▷ state_to TeiAssigned)
    (still TeiAssigned s.end.layer3_initiated s.end.release_pending n n
    (all_passed x.sends) x.takes.rejecting x) k refl
    (seems_state c TeiAssigned s5 p k (seems_stop c T203 s4 p k
    (seems_stop c T200 s3 p k
    (seems_put c Released s2 p k (λ o t. refl)
    (seems_send c Answer (Ua true) Accepts s1 p l refl
    (seems_discard c s x l (here c s)))))))
    (accepts x c.peer l ks TeiAssigned s.end.layer3_initiated s.end.release_pending n n
    (all_passed x.sends) x.takes.rejecting b refl (omega (arith, one, none))
    (empties n n (all_passed x.sends) x.sends refl refl) (passes_all x c.peer l (Asks ∷ ks) b)
    (λ h. cc) (deaf refl))

-- T200 expired in state 8 with RC = N200: the data link establishes again by itself
pub ends_reestablishing : (c : Context) (ks : List Kind) (s t : StepState)
    → is_7_or_8 s.end.state ≡ true → Seems c t (seen c s) (line c s)
    → Both (seen c s) c.peer (line c s) ks → Ends c ks (end_step Whole (reestablish_data_link t))
ends_reestablishing c ks s t opened w b =
    let x = seen c s in
    let l = line c s in
    let one = b.mine.exchange.one in
    let none = open_asks_none s.end.state opened in
    let n : IsNumbering x.sends =
    open_numbering s.end.state s.end.layer3_initiated s.end.release_pending x.sends opened
    b.mine.preserved in
    ends_closed c ks (reestablish_data_link t)
    (still AwaitingEstablishment false false x.sends.first x.sends.next x.sends.passed false x)
    (l ++ Asks ∷ []) refl (seems_reestablish c t x l w)
    (asking x c.peer l ks ks AwaitingEstablishment false false x.sends.first x.sends.next
    x.sends.passed false (part_whole ks) b refl refl (omega (arith, one, none))
    (omega (arith, one, none))
    (record { first = n.first; next = n.next; ordered = n.ordered; within = n.within })
    b.mine.passed
    (λ h. open_holds s.end.state s.end.layer3_initiated s.end.release_pending opened))

-- ---- Answers arrive in states 5 and 6.

one_at_most : (state : State) → state ≡ AwaitingEstablishment → most_asks state ≡ 1
one_at_most state is = ap (λ st. most_asks st) is

untold_primitive : (on : Bool) → IsUntold (release_primitive on)
untold_primitive true o t = refl
untold_primitive false o t = refl

seems_ended : (c : Context) (s : StepState) (p : Party) (l : List Kind) → Seems c s p l
    → Seems c (end_establishment s) (record p { leaving = false; state = TeiAssigned }) l
unfolding end_establishment
seems_ended c s p l w =
    let a = put (release_primitive s.end.release_pending) s in
    let b = release_pending_to false a in
    seems_state c TeiAssigned b (record p { leaving = false }) l
    (seems_pending c false a p l (seems_put c (release_primitive s.end.release_pending) s p l
    (untold_primitive s.end.release_pending) w))

-- a DM in state 5
pub ends_refused : (c : Context) (ks : List Kind) (s : StepState)
    → s.end.state ≡ AwaitingEstablishment → Both (seen c s) c.peer (line c s) (Refuses ∷ ks)
    → Ends c ks (end_step Whole (s ▷ discard_i_queue ▷ stop T200 ▷ end_establishment))
ends_refused c ks s is b =
    let x = seen c s in
    let n = length s.end.given in
    let l = line c s in
    let p = dropping x in
    let one = b.mine.exchange.one in
    let most = one_at_most s.end.state is in
    ends_closed c ks (s ▷ discard_i_queue ▷ stop T200 ▷ end_establishment)
    (still TeiAssigned s.end.layer3_initiated false n n
    (all_passed x.sends) x.takes.rejecting x) l refl
    (seems_ended c (s ▷ discard_i_queue ▷ stop T200) p l
    (seems_stop c T200 (s ▷ discard_i_queue) p l (seems_discard c s x l (here c s))))
    (settling x c.peer l ks (Refuses ∷ ks) TeiAssigned s.end.layer3_initiated false n n
    (all_passed x.sends) x.takes.rejecting (part_first Refuses ks) b refl
    (omega (arith, one, most))
    (empties n n (all_passed x.sends) x.sends refl refl) (passes_all x c.peer l (Refuses ∷ ks) b)
    (λ h. cc) (deaf refl))

-- a UA in state 5 while a release is pending: the DISC is sent now
pub ends_released_by_ua : (c : Context) (ks : List Kind) (s : StepState)
    → s.end.state ≡ AwaitingEstablishment → s.end.release_pending ≡ true
    → Both (seen c s) c.peer (line c s) (Accepts ∷ ks)
    → Ends c ks (end_step Whole (s ▷ release_pending_to false ▷ rc_to 0 ▷ put
    (Send Command (Disc true)) ▷ start T200 ▷ state_to AwaitingRelease))
ends_released_by_ua c ks s is pending b =
    let x = seen c s in
    let l = line c s in
    let k = l ++ Asks ∷ [] in
    let p = record x { leaving = false } in
    let one = b.mine.exchange.one in
    let most = one_at_most s.end.state is in
    let s1 = s ▷ release_pending_to false in
    let s2 = s1 ▷ rc_to 0 in
    let s3 = s2 ▷ put (Send Command (Disc true)) in
    let s4 = s3 ▷ start T200 in
    let preserved : IsEmpty x.sends =
    empty_where_leaving s.end.layer3_initiated x.sends
    (subst
    (λ on. IsConsistentSender AwaitingEstablishment s.end.layer3_initiated on x.sends)
    pending (subst (λ st. IsConsistentSender st s.end.layer3_initiated
    s.end.release_pending x.sends) is b.mine.preserved)) in
    ends_closed c ks (s4 ▷ state_to AwaitingRelease)
    (still AwaitingRelease s.end.layer3_initiated false x.sends.first x.sends.next
    x.sends.passed x.takes.rejecting x) k refl
    (seems_state c AwaitingRelease s4 p k
    (seems_start c T200 s3 p k (seems_send c Command (Disc true) Asks s2 p l refl
    (seems_rc c 0 s1 p l (seems_pending c false s x l (here c s))))))
    (asking x c.peer l ks (Accepts ∷ ks) AwaitingRelease s.end.layer3_initiated false x.sends.first
    x.sends.next x.sends.passed x.takes.rejecting (part_first Accepts ks) b refl refl
    (omega (arith, one, most)) (omega (arith, one, most))
    preserved b.mine.passed (λ h. cc))

-- a UA or DM in state 6
pub ends_released : (c : Context) (k : Kind) (ks : List Kind) (s : StepState)
    → s.end.state ≡ AwaitingRelease → answer_of k ≡ 1 → Both (seen c s) c.peer (line c s) (k ∷ ks)
    → Ends c ks (end_step Whole (confirm_release s))
unfolding confirm_release
ends_released c k ks s is answers b =
    let x = seen c s in
    let l = line c s in
    let one = b.mine.exchange.one in
    let most : most_asks s.end.state ≡ 1 = ap (λ st. most_asks st) is in
    let s1 = s ▷ stop T200 in
    let s2 = s1 ▷ put ReleaseConfirm in
    let preserved : IsEmpty x.sends =
    subst (λ st. IsConsistentSender st s.end.layer3_initiated s.end.release_pending x.sends)
    is b.mine.preserved in
    ends_closed c ks (s2 ▷ state_to TeiAssigned)
    (still TeiAssigned s.end.layer3_initiated s.end.release_pending x.sends.first x.sends.next
    x.sends.passed x.takes.rejecting x) l refl
    (seems_state c TeiAssigned s2 x l
    (seems_put c ReleaseConfirm s1 x l (λ o t. refl) (seems_stop c T200 s x l (here c s))))
    (settling x c.peer l ks (k ∷ ks) TeiAssigned s.end.layer3_initiated s.end.release_pending
    x.sends.first x.sends.next x.sends.passed x.takes.rejecting (part_first k ks) b refl
    (omega (arith, one, most, answers))
    preserved b.mine.passed (λ h. cc) (deaf refl))

-- ---- T200 expires in states 5 and 6, with no frame of the exchange in transit.

pub ends_asking_again : (c : Context) (ks : List Kind) (s t : StepState)
    → is_7_or_8 s.end.state ≡ false → most_asks s.end.state ≡ 1 → tally ask_of (line c s) ≡ 0
    → tally answer_of ks ≡ 0 → Seems c t (seen c s) (line c s ++ Asks ∷ [])
    → Both (seen c s) c.peer (line c s) ks → Ends c ks (end_step Whole t)
ends_asking_again c ks s t closed most no_ask no_answer w b =
    let x = seen c s in
    ends_closed c ks t x (line c s ++ Asks ∷ []) closed w
    (asking x c.peer (line c s) ks ks s.end.state s.end.layer3_initiated s.end.release_pending
    x.sends.first x.sends.next x.sends.passed x.takes.rejecting (part_whole ks) b closed
    most no_ask no_answer b.mine.preserved b.mine.passed (λ h. h))

pub ends_t200_in_5 : (c : Context) (ks : List Kind) (s : StepState)
    → s.end.state ≡ AwaitingEstablishment → tally ask_of (line c s) ≡ 0 → tally answer_of ks ≡ 0
    → Both (seen c s) c.peer (line c s) ks
    → Ends c ks (end_step Whole (awaiting_establishment_t200 s))
unfolding awaiting_establishment_t200
ends_t200_in_5 c ks s is no_ask no_answer b =
    let x = seen c s in
    let n = length s.end.given in
    let l = line c s in
    let k = l ++ Asks ∷ [] in
    let p = dropping x in
    let closed : is_7_or_8 s.end.state ≡ false = ap (λ st. is_7_or_8 st) is in
    let s1 = s ▷ increment_rc in
    let s2 = s1 ▷ expired T200 in
    let s3 = s2 ▷ put (Send Command (Sabme true)) in
    let t1 = s ▷ expired T200 in
    let t2 = t1 ▷ discard_i_queue in
    let t3 = t2 ▷ put (Report letter.G) in
    by_test (λ (t : StepState). Ends c ks (end_step Whole t))
    (nat_lt s.end.rc s.end.parameters.n200) _ _
    (λ _. ends_asking_again c ks s (s3 ▷ start T200) closed (one_at_most s.end.state is) no_ask
    no_answer (seems_start c T200 s3 x k
    (seems_send c Command (Sabme true) Asks s2 x l refl
    (seems_expired c s1 x l (seems_increment c s x l (here c s))))) b)
    (λ _. ends_closed c ks (end_establishment t3) (still TeiAssigned s.end.layer3_initiated false n
    n (all_passed x.sends) x.takes.rejecting x) l refl
    (seems_ended c t3 p l
    (seems_put c (Report letter.G) t2 p l (λ o t. refl) (discards_expired c s l)))
    (settling x c.peer l ks ks TeiAssigned s.end.layer3_initiated false n n
    (all_passed x.sends) x.takes.rejecting (part_whole ks) b refl
    (omega (arith, no_ask, no_answer))
    (empties n n (all_passed x.sends) x.sends refl refl) (passes_all x c.peer l ks b) (λ h. cc)
    (deaf refl)))
  where
    discards_expired : (c : Context) (s : StepState) (l : List Kind)
        → Seems c (s ▷ expired T200 ▷ discard_i_queue) (dropping (seen c s)) (line c s)
    discards_expired c s l =
        seems_discard c (s ▷ expired T200) (seen c s) (line c s)
        (seems_expired c s (seen c s) (line c s) (here c s))

pub ends_t200_in_6 : (c : Context) (ks : List Kind) (s : StepState) → s.end.state ≡ AwaitingRelease
    → tally ask_of (line c s) ≡ 0 → tally answer_of ks ≡ 0 → Both (seen c s) c.peer (line c s) ks
    → Ends c ks (end_step Whole (awaiting_release_t200 s))
unfolding awaiting_release_t200
ends_t200_in_6 c ks s is no_ask no_answer b =
    let x = seen c s in
    let l = line c s in
    let k = l ++ Asks ∷ [] in
    let closed : is_7_or_8 s.end.state ≡ false = ap (λ st. is_7_or_8 st) is in
    let most : most_asks s.end.state ≡ 1 = ap (λ st. most_asks st) is in
    let s1 = s ▷ increment_rc in
    let s2 = s1 ▷ expired T200 in
    let s3 = s2 ▷ put (Send Command (Disc true)) in
    let t1 = s ▷ expired T200 in
    let t2 = t1 ▷ put (Report letter.H) in
    let t3 = t2 ▷ put ReleaseConfirm in
    let preserved : IsEmpty x.sends =
    subst (λ st. IsConsistentSender st s.end.layer3_initiated s.end.release_pending x.sends)
    is b.mine.preserved in
    by_test (λ (t : StepState). Ends c ks (end_step Whole t))
    (nat_lt s.end.rc s.end.parameters.n200) _ _
    (λ _. ends_asking_again c ks s (s3 ▷ start T200) closed most no_ask no_answer
    (seems_start c T200 s3 x k (seems_send c Command (Disc true) Asks s2 x l refl
    (seems_expired c s1 x l (seems_increment c s x l (here c s))))) b)
    (λ _. ends_closed c ks (state_to TeiAssigned t3)
    (still TeiAssigned s.end.layer3_initiated s.end.release_pending x.sends.first
    x.sends.next x.sends.passed x.takes.rejecting x) l refl
    (seems_state c TeiAssigned t3 x l (seems_put c ReleaseConfirm t2 x l (λ o t. refl)
    (seems_put c (Report letter.H) t1 x l (λ o t. refl)
    (seems_expired c s x l (here c s)))))
    (settling x c.peer l ks ks TeiAssigned s.end.layer3_initiated s.end.release_pending
    x.sends.first x.sends.next x.sends.passed x.takes.rejecting (part_whole ks) b refl
    (omega (arith, no_ask, no_answer))
    preserved b.mine.passed (λ h. cc) (deaf refl)))
