-- Rows of the state table that begin an establishment.
use Rattle.std.proofs.Common.{◌≡◌, ℕ, ◌+◌, ◌≤◌, nat_lt, ◌==◌, if◌then◌else◌, Bool, true, false, List, [], ◌∷◌, ◌++◌, length, append_assoc, refl, sym, ap, subst, ◌∙◌, arith}
use Rattle.std.proofs.lemmas.Bool.Decides.{nat_tests}
use Rattle.lapd_timers.specs.declared.timer.Timer.{Timer}
use Rattle.lapd_timers.specs.declared.timer.Timer.TheVariants.{T200, T203}
use Rattle.lapd_frame.specs.declared.Role.TheVariants.{Command, Answer}
use Rattle.lapd_frame.specs.declared.Control.TheVariants.{Sabme, Ua}
use Rattle.lapd_mod128.specs.Counting.{Whole}
use Rattle.lapd_supervision.specs.StateVariables.{without_exceptions, with_zero_counters}
use Rattle.lapd_link_definition.specs.declared.state.State.{State}
use Rattle.lapd_link_definition.specs.declared.state.State.TheVariants.{TeiAssigned, AwaitingEstablishment, MultipleFrameEstablished}
use Rattle.lapd_link_definition.specs.declared.out.Letter.TheVariants as letter
use Rattle.lapd_link_definition.specs.declared.out.Out.{Out}
use Rattle.lapd_link_definition.specs.declared.out.Out.TheVariants.{Send, Start, Stop, Dropped, Established, Confirmed, Report}
use Rattle.lapd_link_definition.specs.AwaitingEstablishment.{confirm_or_indicate}
use Rattle.lapd_link_definition.specs.EndOfStep.{is_7_or_8, end_step}
use Rattle.lapd_link_definition.specs.End.{StepState, ◌▷◌, waiting}
use Rattle.lapd_link_definition.specs.Established.{in_7_and_8}
use Rattle.lapd_link_definition.specs.Input.{Heard}
use Rattle.lapd_link_definition.specs.Procedures.{out_where, counted, put, state_to, start, stop, clear_exception_conditions, zero_state_variables, discard_i_queue, discard_unacknowledged}
use Rattle.lapd_link_definition.specs.TeiAssigned.{tei_assigned}
use Rattle.lapd_pair_laws.specs.Histories.{Occasion, Story, after_outputs, with_beginning}
use Rattle.lapd_pair_laws.specs.Move.{story_after}
use Rattle.lapd_pair_laws.specs.Kinds.{Kind, Asks, Accepts}
use Rattle.lapd_pair_laws.specs.Parties.{Sender, Party}
use Rattle.lapd_pair_laws.specs.Conjuncts.{IsEmpty, IsHolding, IsNumbering, IsConsistentSender, is_holding, most_asks, high}
use Rattle.lapd_pair_laws.specs.Invariant.{Both}
use Rattle.lapd_pair_laws.proofs.Begins.{beginning, IsFresh, by_acceptance, by_asking}
use Rattle.lapd_pair_laws.proofs.Closed.{still_sender}
use Rattle.lapd_pair_laws.proofs.ClosedRows.{here}
use Rattle.lapd_pair_laws.proofs.Closings.{all_passed, passes_all}
use Rattle.lapd_pair_laws.proofs.ActionEffects.{Context, story, occasion, seen, line, after_outputs_append}
use Rattle.lapd_pair_laws.proofs.Lists.{by_test}
use Rattle.lapd_pair_laws.proofs.MidSteps.{Mid, open_numbering, open_holds, open_asks_none}
use Rattle.lapd_pair_laws.proofs.Receipts.{high_given}
use Rattle.lapd_pair_laws.proofs.ClosedActions.{Seems, Ends, by_story, dropping, cleared, seems_put, seems_send, seems_start, seems_stop, seems_state, seems_clear, seems_discard}
use Rattle.lapd_pair_laws.proofs.Steps.{ends_open}

-- ---- Outputs that do not depend on the number of the establishment.

abbrev rebegun : List ℕ → Story → Story
rebegun b t = record t { history = record (t.history) { begun = b } }

abbrev pub AreBlind : List Out → Type 0
AreBlind outs =
    (o u : Occasion) (b : List ℕ) (t : Story)
    → after_outputs u outs (rebegun b t) ≡ rebegun b (after_outputs o outs t)

pub none_is_blind : AreBlind []
none_is_blind o u b t = refl

blind_more : (xs ys : List Out) → AreBlind xs → AreBlind ys → AreBlind (xs ++ ys)
blind_more xs ys p q o u b t =
    after_outputs_append u xs ys (rebegun b t) ∙ ap (λ r. after_outputs u ys r) (p o u b t)
    ∙ q o u b (after_outputs o xs t) ∙ ap (λ r. rebegun b r) (sym (after_outputs_append o xs ys t))

dropped_blind : (test : Bool) (n : ℕ) → AreBlind (out_where test (Dropped n))
dropped_blind true n o u b t = refl
dropped_blind false n o u b t = refl

stop_blind : (on : Bool) (timer : Timer) → AreBlind (out_where on (Stop timer))
stop_blind true timer o u b t = refl
stop_blind false timer o u b t = refl

-- ---- All numbers are set to 0.

abbrev zeroed : ℕ → Party → Party
zeroed base p = record p {
  sends = record (p.sends)
      { base = base; era = p.sends.era + 1; vs = 0; va = 0 };
  takes = record (p.takes) { vr = 0 };
}

-- message number 0 is at another place from now on
abbrev rebased : ℕ → Context → Context
rebased base c = record c { base = base }

seems_zero : (c : Context) (base : ℕ) (s : StepState) (p : Party) (l : List Kind) → AreBlind s.outs
    → Seems c s p l → Seems (rebased base c) (zero_state_variables s) (zeroed base p) l
unfolding story_after zero_state_variables with_zero_counters
seems_zero c base s p l blind w =
    let t = zero_state_variables s in
    let b =
    (with_beginning c.view.station.end.establishments t.end.establishments
    c.view.station.history).begun in
    by_story (rebased base c) t (rebegun b (story c s)) (zeroed base p) l
    (blind (occasion c s) (occasion c t) b
    (record {
      line = c.view.outgoing;
      history =
          with_beginning c.view.station.end.establishments s.end.establishments
          c.view.station.history;
    }))
    (ap (λ q. zeroed base q) w.party) w.line

-- the end of a step in which an establishment has begun
ends_begun : (c : Context) (base : ℕ) (ks : List Kind) (t : StepState) (p : Party) (l : List Kind)
    → Seems (rebased base c) t p l → Mid p c.peer l ks → Ends c ks (end_step Whole t)
ends_begun c base ks t p l w m =
    let e =
    ends_open (rebased base c) ks t
    (subst (λ q. Mid q c.peer (line (rebased base c) t) ks) (sym w.party)
    (subst (λ k. Mid p c.peer k ks) (sym w.line) m)) in
    record { base = e.base; both = e.both }

-- ---- If V(S) and V(A) differ, all waiting messages are dropped.

abbrev discards_by : Bool → StepState → StepState
discards_by none s = record {
  end = record (s.end) {
    first = if none then s.end.first else length s.end.given;
    next = if none then s.end.next else length s.end.given;
  };
  outs = s.outs ++ (if none then [] else counted (waiting s.end) Dropped ++ Established ∷ []);
}

by_outstanding : (P : StepState → Type 0) (s : StepState)
    → (s.end.window.vs ≡ s.end.window.va → P (discards_by true s)) → P (discards_by false s)
    → P (discard_unacknowledged s)
unfolding discard_unacknowledged
by_outstanding P s same other = cases (s.end.window.vs == s.end.window.va) refl
  where
    cases : (test : Bool) → (s.end.window.vs == s.end.window.va) ≡ test → P (discards_by test s)
    cases true is = same (grind (is, arith, nat_tests))
    cases false is = other

abbrev waiting_from : ℕ → ℕ → ℕ → Party → Party
waiting_from first next passed x = record x { sends = still_sender first next passed x.sends }

seems_preserved : (c : Context) (s : StepState) (p : Party) (l : List Kind) → Seems c s p l
    → Seems c (discards_by true s) p l
unfolding story_after
seems_preserved c s p l w =
    by_story c (discards_by true s) (story c s) p l (after_outputs_append _ s.outs [] _) w.party
    w.line

discards_all : (s : StepState) → discards_by false s ≡ put Established (discard_i_queue s)
unfolding put discard_i_queue
discards_all s =
    ap (λ l. outs_of l)
    (sym (append_assoc s.outs (counted (waiting s.end) Dropped) (Established ∷ [])))
  where
    outs_of : List Out → StepState
    outs_of l = record {
      end
          = record (s.end) { first = length s.end.given; next = length s.end.given };
      outs = l;
    }

seems_all_dropped : (c : Context) (s : StepState) (p : Party) (l : List Kind) → Seems c s p l
    → Seems c (discards_by false s) (dropping p) l
seems_all_dropped c s p l w =
    subst (λ t. Seems c t (dropping p) l) (sym (discards_all s))
    (seems_put c Established (discard_i_queue s) (dropping p) l (λ o t. refl)
    (seems_discard c s p l w))

preserved_blind : (s : StepState) → AreBlind s.outs → AreBlind (discards_by true s).outs
preserved_blind s blind = blind_more s.outs [] blind none_is_blind

all_dropped_blind : (s : StepState) → AreBlind s.outs → AreBlind (discards_by false s).outs
all_dropped_blind s blind =
    blind_more s.outs (counted (waiting s.end) Dropped ++ Established ∷ []) blind
    (blind_more (counted (waiting s.end) Dropped) (Established ∷ [])
    (dropped_blind (nat_lt 0 (waiting s.end)) (waiting s.end)) (λ o u b t. refl))

-- ---- The place of message number 0.

module _ (x y : Party) (out back : List Kind) (b : Both x y out back) where
  received_within : high y.takes.received ≤ length x.sends.given
  received_within =
      high_given 0 x.sends.given y.takes.received (omega arith) b.mine.histories.as_given

  fresh_empty : IsEmpty x.sends → IsFresh x.sends.first x.sends.next x.sends.passed x y
  fresh_empty e = record {
    unsent = omega (arith, e.first, e.next);
    gone = b.mine.passed;
    within = omega (arith, e.first);
    above = omega (arith, e.first, received_within);
  }

  fresh_dropped : IsFresh (length x.sends.given) (length x.sends.given) (all_passed x.sends) x y
  fresh_dropped = record {
    unsent = refl;
    gone = passes_all x y out back b;
    within = omega arith;
    above = received_within;
  }

  fresh_settled : x.sends.vs ≡ x.sends.va → IsHolding x.sends
      → high y.takes.received ≤ x.sends.base + x.sends.vs
      → IsFresh x.sends.first x.sends.next x.sends.passed x y
  fresh_settled none h below = record {
    unsent = omega (arith, h.first, h.next, none);
    gone = b.mine.passed;
    within = omega (arith, h.first, h.next, h.within, none);
    above = omega (arith, h.first, none, below);
  }

-- ---- A UA in state 5.

begun_by_ua : (c : Context) (ks : List Kind) (s d : StepState) (first next passed : ℕ)
    → s.end.state ≡ AwaitingEstablishment → s.end.release_pending ≡ false → AreBlind d.outs
    → Seems c d (waiting_from first next passed (seen c s)) (line c s)
    → IsFresh first next passed (seen c s) c.peer
    → Both (seen c s) c.peer (line c s) (Accepts ∷ ks)
    → Ends c ks (end_step Whole
    (d ▷ zero_state_variables ▷ stop T200 ▷ start T203 ▷ state_to MultipleFrameEstablished))
begun_by_ua c ks s d first next passed is stays blind w fresh b =
    let x = seen c s in
    let l = line c s in
    let e = rebased first c in
    let p = zeroed first (waiting_from first next passed x) in
    let d1 = d ▷ zero_state_variables in
    let d2 = d1 ▷ stop T200 in
    let d3 = d2 ▷ start T203 in
    ends_begun c first ks (d3 ▷ state_to MultipleFrameEstablished)
    (beginning first next passed x.takes.rejecting x) l
    (seems_state e
    MultipleFrameEstablished d3 p l (seems_start e
    T203 d2 p l (seems_stop e
    T200 d1 p l
    (seems_zero c first d (waiting_from first next passed x) l blind w))))
    (by_acceptance x c.peer l ks first next passed x.takes.rejecting fresh is stays b)

put_blind : (s : StepState) (out : Out) → AreBlind (out ∷ []) → AreBlind s.outs
    → AreBlind (put out s).outs
unfolding put
put_blind s out one blind = blind_more s.outs (out ∷ []) blind one

-- what the invariant states in state 5
holding_in_5 : (state : State) (asked leaving : Bool) (s : Sender) → state ≡ AwaitingEstablishment
    → leaving ≡ false → asked ≡ false → IsConsistentSender state asked leaving s → IsHolding s
holding_in_5 state asked leaving s is stays itself preserved =
    subst (λ a. IsConsistentSender AwaitingEstablishment a false s) itself
    (subst (λ on. IsConsistentSender AwaitingEstablishment asked on s) stays
    (subst (λ st. IsConsistentSender st asked leaving s) is preserved))

empty_in_5 : (state : State) (asked leaving : Bool) (s : Sender) → state ≡ AwaitingEstablishment
    → leaving ≡ false → asked ≡ true → IsConsistentSender state asked leaving s → IsEmpty s
empty_in_5 state asked leaving s is stays by_layer3 preserved =
    subst (λ a. IsConsistentSender AwaitingEstablishment a false s) by_layer3
    (subst (λ on. IsConsistentSender AwaitingEstablishment asked on s) stays
    (subst (λ st. IsConsistentSender st asked leaving s) is preserved))

-- the establishment is confirmed or indicated, and the link is established
pub ends_established : (c : Context) (ks : List Kind) (s : StepState)
    → s.end.state ≡ AwaitingEstablishment → s.end.release_pending ≡ false → AreBlind s.outs
    → Both (seen c s) c.peer (line c s) (Accepts ∷ ks)
    → Ends c ks (end_step Whole (s ▷ confirm_or_indicate ▷ zero_state_variables ▷ stop T200 ▷ start
    T203 ▷ state_to MultipleFrameEstablished))
unfolding confirm_or_indicate
ends_established c ks s is stays blind b =
    let x = seen c s in
    let y = c.peer in
    let l = line c s in
    let n = length s.end.given in
    let After : StepState → Type 0 =
    λ d. Ends c ks (end_step Whole (d
    ▷ zero_state_variables ▷ stop T200 ▷ start T203 ▷ state_to
    MultipleFrameEstablished)) in
    by_test After s.end.layer3_initiated (put Confirmed s) (discard_unacknowledged s)
    (λ by_layer3. begun_by_ua c ks s (put Confirmed s) s.end.first s.end.next x.sends.passed is
    stays (put_blind s Confirmed (λ o u b t. refl) blind)
    (seems_put c Confirmed s x l (λ o t. refl) (here c s))
    (fresh_empty x y l (Accepts ∷ ks) b (empty_in_5 s.end.state s.end.layer3_initiated
    s.end.release_pending x.sends is stays by_layer3 b.mine.preserved)) b)
    (λ itself. by_outstanding After s
    (λ none. begun_by_ua c ks s (discards_by true s) s.end.first s.end.next x.sends.passed is stays
    (preserved_blind s blind) (seems_preserved c s x l (here c s))
    (fresh_settled x y l (Accepts ∷ ks) b none
    (holding_in_5 s.end.state s.end.layer3_initiated s.end.release_pending x.sends is stays
    itself b.mine.preserved)
    (b.mine.below
    (holds s.end.state s.end.layer3_initiated s.end.release_pending is stays itself)))
    b)
    (begun_by_ua c ks s (discards_by false s) n n
    (all_passed x.sends) is stays (all_dropped_blind s blind)
    (seems_all_dropped c s x l (here c s)) (fresh_dropped x y l (Accepts ∷ ks) b) b))
  where
    holds : (state : State) (asked leaving : Bool) → state ≡ AwaitingEstablishment → leaving ≡ false
        → asked ≡ false → is_holding state asked leaving ≡ true
    holds state asked leaving is stays itself = rw (is, stays, itself) refl

-- ---- A SABME in states 4, 7 and 8.

clear_blind : (s : StepState) → AreBlind s.outs → AreBlind (clear_exception_conditions s).outs
unfolding clear_exception_conditions
clear_blind s blind = blind

pub ends_sabme_in_4 : (c : Context) (ks : List Kind) (s : StepState) → s.end.state ≡ TeiAssigned
    → AreBlind s.outs → Both (seen c s) c.peer (line c s) (Asks ∷ ks)
    → Ends c ks (end_step Whole (tei_assigned (Heard (Sabme true) Command) s))
unfolding tei_assigned
ends_sabme_in_4 c ks s is blind b =
    let x = seen c s in
    let l = line c s in
    let k = l ++ Accepts ∷ [] in
    let n = s.end.first in
    let e = rebased n c in
    let s1 = s ▷ put (Send Answer (Ua true)) in
    let s2 = s1 ▷ clear_exception_conditions in
    let s3 = s2 ▷ zero_state_variables in
    let s4 = s3 ▷ put Established in
    let s5 = s4 ▷ start T203 in
    let p = zeroed n (cleared x) in
    let preserved : IsEmpty x.sends =
    subst (λ st. IsConsistentSender st s.end.layer3_initiated s.end.release_pending x.sends)
    is b.mine.preserved in
    let said : Seems c s2 (cleared x) k =
    seems_clear c s1 x k (seems_send c Answer (Ua true) Accepts s x l refl (here c s)) in
    ends_begun c n ks (s5 ▷ state_to MultipleFrameEstablished)
    (beginning s.end.first s.end.next x.sends.passed false x) k
    (seems_state e
    MultipleFrameEstablished s5 p k
    (seems_start e T203 s4 p k (seems_put e Established s3 p k (λ o t. refl)
    (seems_zero c n
    s2 (cleared x) k
    (clear_blind s1 (put_blind s (Send Answer (Ua true)) (λ o u b t. refl) blind)) said))))
    (by_asking x c.peer l ks s.end.first s.end.next x.sends.passed false
    (fresh_empty x c.peer l (Asks ∷ ks) b preserved) (ap (λ st. most_asks st) is) b)

timers_blind : (d : StepState) → AreBlind d.outs → AreBlind (d ▷ stop T200 ▷ start T203).outs
unfolding stop start
timers_blind d blind =
    blind_more (d.outs ++ out_where d.end.t200 (Stop T200)) (Start T203 ∷ [])
    (blind_more d.outs (out_where d.end.t200 (Stop T200)) blind (stop_blind d.end.t200 T200))
    (λ o u b t. refl)

-- after the outputs, in states 7 and 8
begun_by_sabme : (c : Context) (ks : List Kind) (s d : StepState) (first next passed : ℕ)
    → is_7_or_8 s.end.state ≡ true → AreBlind d.outs
    → Seems c d (cleared (waiting_from first next passed (seen c s))) (line c s ++ Accepts ∷ [])
    → IsFresh first next passed (seen c s) c.peer
    → Both (seen c s) c.peer (line c s) (Asks ∷ ks)
    → Ends c ks (end_step Whole
    (d ▷ stop T200 ▷ start T203 ▷ zero_state_variables ▷ state_to MultipleFrameEstablished))
begun_by_sabme c ks s d first next passed opened blind w fresh b =
    let x = seen c s in
    let k = line c s ++ Accepts ∷ [] in
    let p = cleared (waiting_from first next passed x) in
    let d1 = d ▷ stop T200 in
    let d2 = d1 ▷ start T203 in
    let d3 = d2 ▷ zero_state_variables in
    ends_begun c first ks (d3 ▷ state_to MultipleFrameEstablished)
    (beginning first next passed false x) k
    (seems_state (rebased first c) MultipleFrameEstablished d3 (zeroed first p) k
    (seems_zero c first d2 p k (timers_blind d blind)
    (seems_start c T203 d1 p k (seems_stop c T200 d p k w))))
    (by_asking x c.peer (line c s) ks first next passed false fresh
    (open_asks_none s.end.state opened) b)

abbrev reported : StepState → StepState
reported s = s ▷ put (Send Answer (Ua true)) ▷ clear_exception_conditions ▷ put (Report letter.F)

as_before : (s : StepState) → (reported s).end.window.vs ≡ (reported s).end.window.va
    → s.end.window.vs ≡ s.end.window.va
unfolding put clear_exception_conditions without_exceptions
as_before s none = none

pub ends_sabme_in_7_8 : (c : Context) (ks : List Kind) (s : StepState)
    → is_7_or_8 s.end.state ≡ true → AreBlind s.outs → Both (seen c s) c.peer (line c s) (Asks ∷ ks)
    → Ends c ks (end_step Whole (in_7_and_8 (Heard (Sabme true) Command) s))
unfolding in_7_and_8
ends_sabme_in_7_8 c ks s opened blind b =
    let x = seen c s in
    let y = c.peer in
    let l = line c s in
    let k = l ++ Accepts ∷ [] in
    let s1 = s ▷ put (Send Answer (Ua true)) in
    let s2 = s1 ▷ clear_exception_conditions in
    let s3 = s2 ▷ put (Report letter.F) in
    let n = length s.end.given in
    let numbers_ : IsNumbering x.sends =
    open_numbering s.end.state s.end.layer3_initiated s.end.release_pending x.sends opened
    b.mine.preserved in
    let said : Seems c s3 (cleared x) k =
    seems_put c (Report letter.F) s2 (cleared x) k (λ o t. refl)
    (seems_clear c s1 x k (seems_send c Answer (Ua true) Accepts s x l refl (here c s))) in
    let unheeded : AreBlind s3.outs =
    put_blind s2 (Report letter.F) (λ o u b t. refl)
    (clear_blind s1 (put_blind s (Send Answer (Ua true)) (λ o u b t. refl) blind)) in
    by_outstanding (λ d. Ends c ks (end_step Whole (d
    ▷ stop T200 ▷ start T203 ▷ zero_state_variables ▷ state_to
    MultipleFrameEstablished))) s3
    (λ none. begun_by_sabme c ks s (discards_by true s3) s.end.first s.end.next x.sends.passed
    opened (preserved_blind s3 unheeded) (seems_preserved c s3 (cleared x) k said)
    (fresh_settled x y l (Asks ∷ ks) b (as_before s none)
    (record {
      first = numbers_.first;
      next = numbers_.next;
      ordered = numbers_.ordered;
      within = numbers_.within;
    })
    (b.mine.below
    (open_holds s.end.state s.end.layer3_initiated s.end.release_pending opened))) b)
    (begun_by_sabme c ks s (discards_by false s3) n n
    (all_passed x.sends) opened (all_dropped_blind s3 unheeded)
    (seems_all_dropped c s3 (cleared x) k said) (fresh_dropped x y l (Asks ∷ ks) b) b)
