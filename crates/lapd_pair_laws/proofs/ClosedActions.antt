-- The actions of the state table on a side that does not stay open, and on its line.
use Rattle.std.proofs.Common.{◌≡◌, ℕ, zero, suc, ◌+◌, ◌-◌, nat_lt, Bool, true, false, List, [], ◌∷◌, ◌++◌, length, refl, sym, ap, subst, ◌∙◌, arith}
use Rattle.std.proofs.lemmas.Bool.Decides.{nat_tests}
use Rattle.lapd_timers.specs.declared.timer.Timer.{Timer}
use Rattle.lapd_timers.specs.declared.timer.Timer.TheVariants.{T200, T201, T202, T203}
use Rattle.lapd_frame.specs.declared.Role.{Role}
use Rattle.lapd_frame.specs.declared.Role.TheVariants.{Command}
use Rattle.lapd_frame.specs.declared.Control.{Control}
use Rattle.lapd_frame.specs.declared.Control.TheVariants.{Sabme}
use Rattle.lapd_mod128.specs.Counting.{Whole}
use Rattle.lapd_supervision.specs.StateVariables.{without_exceptions}
use Rattle.lapd_link_definition.specs.declared.state.State.{State}
use Rattle.lapd_link_definition.specs.declared.state.State.TheVariants.{AwaitingEstablishment, MultipleFrameEstablished}
use Rattle.lapd_link_definition.specs.declared.out.Out.{Out}
use Rattle.lapd_link_definition.specs.declared.out.Out.TheVariants.{Send, Start, Stop, Dropped}
use Rattle.lapd_link_definition.specs.EndOfStep.{is_7_or_8, is_established, may_send_next, acknowledge_pending, end_step}
use Rattle.lapd_link_definition.specs.End.{End, StepState, unsent, waiting, runs}
use Rattle.lapd_link_definition.specs.Procedures.{out_where, counted, put, state_to, rc_to, increment_rc, layer3_initiated_to, release_pending_to, start, stop, expired, clear_exception_conditions, discard_i_queue, establish_data_link, reestablish_data_link}
use Rattle.lapd_link_definition.proofs.Sending.{sends_none}
use Rattle.lapd_pair_laws.specs.Histories.{Occasion, Story, after_output, after_outputs, with_dropped}
use Rattle.lapd_pair_laws.specs.Move.{story_after}
use Rattle.lapd_pair_laws.specs.Kinds.{Kind, Asks, kind_of, kinds}
use Rattle.lapd_pair_laws.specs.Parties.{Party, party_of}
use Rattle.lapd_pair_laws.specs.Invariant.{Both}
use Rattle.lapd_pair_laws.proofs.ActionEffects.{Context, story, occasion, seen, line, after_outputs_append, after_stop, one_behind}

-- the side and its line
pub record Seems (c : Context) (s : StepState) (p : Party) (l : List Kind) : Type 0 where
  pub party : seen c s ≡ p
  pub line : line c s ≡ l

pub by_story : (c : Context) (t : StepState) (after : Story) (p : Party) (l : List Kind)
    → story c t ≡ after → party_of c.base t.end after.history ≡ p → kinds after.line ≡ l
    → Seems c t p l
by_story c t after p l so q r = record {
  party = ap (λ st. party_of c.base t.end st.history) so ∙ q;
  line = ap (λ st. kinds st.line) so ∙ r;
}

-- ---- Outputs that are not recorded.

abbrev pub IsUntold : Out → Type 0
IsUntold out = (o : Occasion) (t : Story) → after_output o out t ≡ t

pub seems_put : (c : Context) (out : Out) (s : StepState) (p : Party) (l : List Kind) → IsUntold out
    → Seems c s p l → Seems c (put out s) p l
unfolding story_after put
seems_put c out s p l untold w =
    by_story c (put out s) (story c s) p l
    (after_outputs_append _ s.outs (out ∷ []) _ ∙ untold (occasion c s) (story c s)) w.party w.line

pub seems_rc : (c : Context) (n : ℕ) (s : StepState) (p : Party) (l : List Kind) → Seems c s p l
    → Seems c (rc_to n s) p l
unfolding story_after rc_to
seems_rc c n s p l w = record { party = w.party; line = w.line }

pub seems_increment : (c : Context) (s : StepState) (p : Party) (l : List Kind) → Seems c s p l
    → Seems c (increment_rc s) p l
unfolding story_after increment_rc
seems_increment c s p l w = record { party = w.party; line = w.line }

pub seems_expired : (c : Context) (s : StepState) (p : Party) (l : List Kind) → Seems c s p l
    → Seems c (expired T200 s) p l
unfolding story_after expired
seems_expired c s p l w = record { party = w.party; line = w.line }

pub seems_start : (c : Context) (timer : Timer) (s : StepState) (p : Party) (l : List Kind)
    → Seems c s p l → Seems c (start timer s) p l
unfolding story_after start
seems_start c T200 s p l w =
    by_story c (start T200 s) (story c s) p l (after_outputs_append _ s.outs (Start T200 ∷ []) _)
    w.party w.line
seems_start c T201 s p l w =
    by_story c (start T201 s) (story c s) p l (after_outputs_append _ s.outs (Start T201 ∷ []) _)
    w.party w.line
seems_start c T202 s p l w =
    by_story c (start T202 s) (story c s) p l (after_outputs_append _ s.outs (Start T202 ∷ []) _)
    w.party w.line
seems_start c T203 s p l w =
    by_story c (start T203 s) (story c s) p l (after_outputs_append _ s.outs (Start T203 ∷ []) _)
    w.party w.line

pub seems_stop : (c : Context) (timer : Timer) (s : StepState) (p : Party) (l : List Kind)
    → Seems c s p l → Seems c (stop timer s) p l
unfolding story_after stop
seems_stop c T200 s p l w =
    by_story c (stop T200 s) (story c s) p l
    (after_outputs_append _ s.outs (out_where (runs T200 s.end) (Stop T200)) _
    ∙ after_stop (runs T200 s.end) T200 (occasion c s) (story c s)) w.party w.line
seems_stop c T201 s p l w =
    by_story c (stop T201 s) (story c s) p l
    (after_outputs_append _ s.outs (out_where (runs T201 s.end) (Stop T201)) _
    ∙ after_stop (runs T201 s.end) T201 (occasion c s) (story c s)) w.party w.line
seems_stop c T202 s p l w =
    by_story c (stop T202 s) (story c s) p l
    (after_outputs_append _ s.outs (out_where (runs T202 s.end) (Stop T202)) _
    ∙ after_stop (runs T202 s.end) T202 (occasion c s) (story c s)) w.party w.line
seems_stop c T203 s p l w =
    by_story c (stop T203 s) (story c s) p l
    (after_outputs_append _ s.outs (out_where (runs T203 s.end) (Stop T203)) _
    ∙ after_stop (runs T203 s.end) T203 (occasion c s) (story c s)) w.party w.line

-- ---- Actions with a visible effect.

pub seems_send : (c : Context) (role : Role) (control : Control) (u : Kind) (s : StepState)
    (p : Party) (l : List Kind) → kind_of role control [] 0 ≡ u → Seems c s p l
    → Seems c (put (Send role control) s) p (l ++ u ∷ [])
unfolding story_after put
seems_send c role control u s p l is w =
    by_story c (put (Send role control) s)
    (after_outputs (occasion c s) (Send role control ∷ []) (story c s)) p (l ++ u ∷ [])
    (after_outputs_append _ s.outs (Send role control ∷ []) _) w.party
    (one_behind (story c s).line role control u is ∙ ap (λ ks. ks ++ u ∷ []) w.line)

pub seems_state : (c : Context) (state : State) (s : StepState) (p : Party) (l : List Kind)
    → Seems c s p l → Seems c (state_to state s) (record p { state = state }) l
unfolding story_after state_to
seems_state c state s p l w = record { party = ap (λ q. at q) w.party; line = w.line }
  where
    at : Party → Party
    at q = record q { state = state }

pub seems_layer3 : (c : Context) (on : Bool) (s : StepState) (p : Party) (l : List Kind)
    → Seems c s p l → Seems c (layer3_initiated_to on s) (record p { asked = on }) l
unfolding story_after layer3_initiated_to
seems_layer3 c on s p l w = record { party = ap (λ q. at q) w.party; line = w.line }
  where
    at : Party → Party
    at q = record q { asked = on }

pub seems_pending : (c : Context) (on : Bool) (s : StepState) (p : Party) (l : List Kind)
    → Seems c s p l → Seems c (release_pending_to on s) (record p { leaving = on }) l
unfolding story_after release_pending_to
seems_pending c on s p l w = record { party = ap (λ q. at q) w.party; line = w.line }
  where
    at : Party → Party
    at q = record q { leaving = on }

abbrev pub cleared : Party → Party
cleared p = record p { takes = record (p.takes) { rejecting = false } }

pub seems_clear : (c : Context) (s : StepState) (p : Party) (l : List Kind) → Seems c s p l
    → Seems c (clear_exception_conditions s) (cleared p) l
unfolding story_after clear_exception_conditions without_exceptions
seems_clear c s p l w = record { party = ap (λ q. at q) w.party; line = w.line }
  where
    at : Party → Party
    at q = cleared q

-- all waiting messages are dropped
abbrev pub dropping : Party → Party
dropping p = record p {
  sends = record (p.sends) {
    first = length p.sends.given;
    next = length p.sends.given;
    passed = p.sends.passed + (length p.sends.given - p.sends.first);
  };
}

abbrev dropped_history : ℕ → Story → Story
dropped_history n t = record t { history = with_dropped n t.history }

-- equal but for the list of dropped places, which the invariant does not read
abbrev pub SameStory : Story → Story → Type 0
SameStory t u =
    (base : ℕ) (e : End)
    → (party_of base e t.history ≡ party_of base e u.history) × (t.line ≡ u.line)

after_dropped : (n : ℕ) (o : Occasion) (t : Story)
    → SameStory (after_outputs o (counted n Dropped) t) (dropped_history n t)
after_dropped zero o t base e = (ap (λ q. passing q) (omega arith), refl)
  where
    passing : ℕ → Party
    passing q = party_of base e (record (t.history) { passed = q })
after_dropped (suc n) o t base e = by_some (nat_lt 0 (suc n)) (grind (arith, nat_tests))
  where
    by_some : (test : Bool) → test ≡ true
        → (party_of base e
        (after_outputs o (out_where test (Dropped (suc n))) t).history ≡ party_of base e
        (dropped_history (suc n) t).history)
        × ((after_outputs o (out_where test (Dropped (suc n))) t).line ≡ t.line)
    by_some true is = (refl, refl)
    by_some false is = cc

pub seems_discard : (c : Context) (s : StepState) (p : Party) (l : List Kind) → Seems c s p l
    → Seems c (discard_i_queue s) (dropping p) l
unfolding story_after discard_i_queue
seems_discard c s p l w =
    let n = waiting s.end in
    let e = (discard_i_queue s).end in
    let so : story c (discard_i_queue s) ≡ after_outputs (occasion c s) (counted n Dropped)
    (story c s) =
    after_outputs_append _ s.outs (counted n Dropped) _ in
    let after_outputs_so = after_dropped n (occasion c s) (story c s) c.base e in
    record {
      party =
          ap (λ st. party_of c.base e st.history) so ∙ after_outputs_so.0 ∙ ap (λ q. at q) w.party;
      line = ap (λ st. kinds st.line) so ∙ ap (λ fs. kinds fs) after_outputs_so.1 ∙ w.line;
    }
  where
    at : Party → Party
    at q = dropping q

-- ---- Procedures.

abbrev pub establishing : Party → Party
establishing p = record p {
  state = AwaitingEstablishment;
  leaving = false;
  takes = record (p.takes) { rejecting = false };
}

pub seems_establish : (c : Context) (s : StepState) (p : Party) (l : List Kind) → Seems c s p l
    → Seems c (establish_data_link s) (establishing p) (l ++ Asks ∷ [])
unfolding establish_data_link
seems_establish c s p l w =
    let a = clear_exception_conditions s in
    let b = release_pending_to false a in
    let d = rc_to 0 b in
    let f = put (Send Command (Sabme true)) d in
    let g = stop T203 f in
    let h = start T200 g in
    let q = record (cleared p) { leaving = false } in
    let k = l ++ Asks ∷ [] in
    seems_state c AwaitingEstablishment h q k
    (seems_start c T200 g q k (seems_stop c T203 f q k
    (seems_send c Command (Sabme true) Asks d
    q l refl (seems_rc c 0 b q l
    (seems_pending c false a (cleared p) l (seems_clear c s p l w))))))

pub seems_reestablish : (c : Context) (s : StepState) (p : Party) (l : List Kind) → Seems c s p l
    → Seems c (reestablish_data_link s) (establishing (record p { asked = false })) (l ++ Asks ∷ [])
unfolding reestablish_data_link
seems_reestablish c s p l w =
    seems_establish c (layer3_initiated_to false s) (record p { asked = false }) l
    (seems_layer3 c false s p l w)

-- ---- The end of a step that leaves the side closed.

pub not_established : (state : State) → is_7_or_8 state ≡ false → is_established state ≡ false
not_established MultipleFrameEstablished closed = cc
not_established state closed = refl

none_sent : (s : StepState) → is_7_or_8 s.end.state ≡ false → may_send_next Whole s ≡ false
none_sent s closed = rw (not_established s.end.state closed) refl

none_pending : (s : StepState) → is_7_or_8 s.end.state ≡ false → acknowledge_pending s ≡ s
unfolding acknowledge_pending
none_pending s closed = rw closed refl

pub closes_nothing : (s : StepState) → is_7_or_8 s.end.state ≡ false → end_step Whole s ≡ s
unfolding end_step
closes_nothing s closed =
    ap (λ t. acknowledge_pending t) (sends_none Whole (unsent s.end) s (none_sent s closed))
    ∙ none_pending s closed

-- ---- The end of a step: the invariant, with some place of message number 0.

pub record Ends (c : Context) (back : List Kind) (s : StepState) : Type 0 where
  pub base : ℕ
  pub both : Both (party_of base s.end (story c s).history) c.peer (line c s) back

pub ends_closed : (c : Context) (back : List Kind) (s : StepState) (p : Party) (l : List Kind)
    → is_7_or_8 p.state ≡ false → Seems c s p l → Both p c.peer l back
    → Ends c back (end_step Whole s)
ends_closed c back s p l closed w b =
    let shut : is_7_or_8 s.end.state ≡ false = ap (λ q. is_7_or_8 (state_of q)) w.party ∙ closed in
    subst (λ (t : StepState). Ends c back t) (sym (closes_nothing s shut)) (record {
      base = c.base;
      both =
          subst (λ q. Both q c.peer (line c s) back) (sym w.party)
          (subst (λ k. Both p c.peer k back) (sym w.line) b);
    })
  where
    state_of : Party → State
    state_of q = q.state
