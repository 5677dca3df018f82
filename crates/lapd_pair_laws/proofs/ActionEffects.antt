-- The effects of the state table's actions on the acting side in mid-step. Each effect keeps the
-- invariant.
use Rattle.std.proofs.Common.{◌≡◌, ℕ, zero, suc, ◌+◌, ◌-◌, nat_lt, if◌then◌else◌, Bool, true, false, List, [], ◌∷◌, ◌++◌, refl, sym, ap, subst, ◌∙◌, arith}
use Rattle.std.proofs.lemmas.Bool.Decides.{nat_tests}
use Rattle.lapd_timers.specs.declared.timer.Timer.{Timer}
use Rattle.lapd_timers.specs.declared.timer.Timer.TheVariants.{T200, T201, T202, T203}
use Rattle.lapd_frame.specs.declared.Role.{Role}
use Rattle.lapd_frame.specs.declared.Role.TheVariants.{Command, Answer}
use Rattle.lapd_frame.specs.declared.Control.{Control}
use Rattle.lapd_frame.specs.declared.Control.TheVariants.{Rr, Rnr}
use Rattle.lapd_mod128.specs.Counting.{Whole, steps, after}
use Rattle.lapd_supervision.specs.StateVariables.{StateVariables, status_frame, acknowledgement, without_ack_pending, with_peer_busy, with_own_busy, with_va, acknowledged_count}
use Rattle.lapd_link_definition.specs.declared.state.State.TheVariants.{TimerRecovery}
use Rattle.lapd_link_definition.specs.declared.out.Out.{Out}
use Rattle.lapd_link_definition.specs.declared.out.Out.TheVariants.{Send, Start, Stop, Acknowledged}
use Rattle.lapd_link_definition.specs.End.{StepState, runs}
use Rattle.lapd_link_definition.specs.Procedures.{out_where, counted, state_to, rc_to, increment_rc, start, stop, expired, set_peer_busy, set_own_busy, enquiry_response, transmit_enquiry, transmit_rr, acknowledge, ensure_t200}
use Rattle.lapd_pair_laws.specs.Histories.{History, Occasion, Story, after_output, after_outputs, with_acked}
use Rattle.lapd_pair_laws.specs.Line.{Flight, without_info}
use Rattle.lapd_pair_laws.specs.Move.{View, story_after}
use Rattle.lapd_pair_laws.specs.Kinds.{Kind, Status, Enquiry, Final, kind, kind_of, kinds}
use Rattle.lapd_pair_laws.specs.Parties.{Party, party_of}
use Rattle.lapd_pair_laws.proofs.Acknowledges.{acknowledging, preserves_acknowledging}
use Rattle.lapd_pair_laws.proofs.MidSteps.{Mid}
use Rattle.lapd_pair_laws.proofs.Polls.{IsSettled, answering, enquiring, recovering}
use Rattle.lapd_pair_laws.proofs.SupervisoryFrames.{saying_status}

-- the context of a step: the place of message number 0, the frame in hand, the side's view, and its
-- peer
pub record Context : Type 0 where
  pub base : ℕ
  pub octets : List ℕ
  pub place : ℕ
  pub view : View
  pub peer : Party

abbrev pub story : Context → StepState → Story
story c s = story_after c.octets c.place c.view s

abbrev pub occasion : Context → StepState → Occasion
occasion c s = record {
  given = s.end.given;
  establishment = s.end.establishments;
  octets = c.octets;
  place = c.place;
}

-- the side, and the frames in transit from it
abbrev pub seen : Context → StepState → Party
seen c s = party_of c.base s.end (story c s).history

abbrev pub line : Context → StepState → List Kind
line c s = kinds (story c s).line

abbrev pub HoldsMid : Context → List Kind → StepState → Type 0
HoldsMid c back s = Mid (seen c s) c.peer (line c s) back

-- ---- Outputs.

pub after_outputs_append : (o : Occasion) (xs ys : List Out) (t : Story)
    → after_outputs o (xs ++ ys) t ≡ after_outputs o ys (after_outputs o xs t)
after_outputs_append o [] ys t = refl
after_outputs_append o (out ∷ xs) ys t = after_outputs_append o xs ys (after_output o out t)

pub kinds_more : (fs : List Flight) (f : Flight) → kinds (fs ++ f ∷ []) ≡ kinds fs ++ kind f ∷ []
kinds_more [] f = refl
kinds_more (g ∷ fs) f = ap (λ ks. kind g ∷ ks) (kinds_more fs f)

-- from the recorded outputs of an action to its effect
pub moved : (c : Context) (t : StepState) (after : Story) (z : Party) (out now : List Kind)
    → story c t ≡ after → party_of c.base t.end after.history ≡ z → kinds after.line ≡ out
    → Mid z c.peer out now → HoldsMid c now t
moved c t after z out now after_outputs_so party_so line_so m =
    subst (λ st. Mid (party_of c.base t.end st.history) c.peer (kinds st.line) now)
    (sym after_outputs_so)
    (subst (λ p. Mid p c.peer (kinds after.line) now) (sym party_so)
    (subst (λ l. Mid z c.peer l now) (sym line_so) m))

pub quietly : (c : Context) (s t : StepState) (back : List Kind) → story c t ≡ story c s
    → party_of c.base t.end (story c s).history ≡ seen c s → HoldsMid c back s → HoldsMid c back t
quietly c s t back after_outputs_so party_so m =
    moved c t (story c s) (seen c s) (line c s) back after_outputs_so party_so refl m

-- ---- Actions without a visible effect.

pub mid_rc : (c : Context) (n : ℕ) (s : StepState) (back : List Kind) → HoldsMid c back s
    → HoldsMid c back (rc_to n s)
unfolding story_after rc_to
mid_rc c n s back m = m

pub mid_increment : (c : Context) (s : StepState) (back : List Kind) → HoldsMid c back s
    → HoldsMid c back (increment_rc s)
unfolding story_after increment_rc
mid_increment c s back m = m

pub mid_peer_busy : (c : Context) (on : Bool) (s : StepState) (back : List Kind) → HoldsMid c back s
    → HoldsMid c back (set_peer_busy on s)
unfolding story_after set_peer_busy with_peer_busy
mid_peer_busy c on s back m = m

pub mid_start : (c : Context) (timer : Timer) (s : StepState) (back : List Kind) → HoldsMid c back s
    → HoldsMid c back (start timer s)
unfolding story_after start
mid_start c T200 s back m =
    quietly c s (start T200 s) back (after_outputs_append _ s.outs (Start T200 ∷ []) _) refl m
mid_start c T201 s back m =
    quietly c s (start T201 s) back (after_outputs_append _ s.outs (Start T201 ∷ []) _) refl m
mid_start c T202 s back m =
    quietly c s (start T202 s) back (after_outputs_append _ s.outs (Start T202 ∷ []) _) refl m
mid_start c T203 s back m =
    quietly c s (start T203 s) back (after_outputs_append _ s.outs (Start T203 ∷ []) _) refl m

pub after_stop : (on : Bool) (timer : Timer) (o : Occasion) (t : Story)
    → after_outputs o (out_where on (Stop timer)) t ≡ t
after_stop true timer o t = refl
after_stop false timer o t = refl

pub mid_stop : (c : Context) (timer : Timer) (s : StepState) (back : List Kind) → HoldsMid c back s
    → HoldsMid c back (stop timer s)
unfolding story_after stop
mid_stop c T200 s back m =
    quietly c s (stop T200 s) back (after_outputs_append _ s.outs
    (out_where (runs T200 s.end) (Stop T200)) _
    ∙ after_stop (runs T200 s.end) T200 (occasion c s) (story c s)) refl m
mid_stop c T201 s back m =
    quietly c s (stop T201 s) back (after_outputs_append _ s.outs
    (out_where (runs T201 s.end) (Stop T201)) _
    ∙ after_stop (runs T201 s.end) T201 (occasion c s) (story c s)) refl m
mid_stop c T202 s back m =
    quietly c s (stop T202 s) back (after_outputs_append _ s.outs
    (out_where (runs T202 s.end) (Stop T202)) _
    ∙ after_stop (runs T202 s.end) T202 (occasion c s) (story c s)) refl m
mid_stop c T203 s back m =
    quietly c s (stop T203 s) back (after_outputs_append _ s.outs
    (out_where (runs T203 s.end) (Stop T203)) _
    ∙ after_stop (runs T203 s.end) T203 (occasion c s) (story c s)) refl m

pub mid_expired : (c : Context) (timer : Timer) (s : StepState) (back : List Kind)
    → HoldsMid c back s → HoldsMid c back (expired timer s)
unfolding story_after expired
mid_expired c T200 s back m = m
mid_expired c T201 s back m = m
mid_expired c T202 s back m = m
mid_expired c T203 s back m = m

pub ensured : (runs200 runs203 : Bool) (o : Occasion) (t : Story)
    → after_outputs o ((if runs200 then [] else out_where runs203 (Stop T203))
    ++ (if runs200 then [] else Start T200 ∷ [])) t ≡ t
ensured true runs203 o t = refl
ensured false true o t = refl
ensured false false o t = refl

pub mid_ensure : (c : Context) (s : StepState) (back : List Kind) → HoldsMid c back s
    → HoldsMid c back (ensure_t200 s)
unfolding story_after ensure_t200
mid_ensure c s back m =
    let stops = if s.end.t200 then [] else out_where s.end.t203 (Stop T203) in
    let starts = if s.end.t200 then [] else Start T200 ∷ [] in
    quietly c s (ensure_t200 s) back
    (after_outputs_append _ (s.outs ++ stops) starts _
    ∙ ap (λ t. after_outputs (occasion c s) starts t)
    (after_outputs_append _ s.outs stops _)
    ∙ sym (after_outputs_append (occasion c s) stops starts (story c s))
    ∙ ensured s.end.t200 s.end.t203 (occasion c s) (story c s)) refl m

-- ---- Frames that carry V(R).

status_of : (busy : Bool) (w : StateVariables) (pf : Bool) → w.own_busy ≡ busy
    → status_frame pf w ≡ (if busy then Rnr w.vr pf else Rr w.vr pf)
unfolding status_frame
status_of busy w pf is = rw is refl

pub final_kind : (w : StateVariables) → kind_of Answer (status_frame true w) [] 0 ≡ Final w.vr
final_kind w = by_busy w.own_busy refl
  where
    by_busy : (busy : Bool) → w.own_busy ≡ busy
        → kind_of Answer (status_frame true w) [] 0 ≡ Final w.vr
    by_busy true is = ap (λ k. kind_of Answer k [] 0) (status_of true w true is)
    by_busy false is = ap (λ k. kind_of Answer k [] 0) (status_of false w true is)

pub status_kind : (w : StateVariables) → kind_of Answer (status_frame false w) [] 0 ≡ Status w.vr
status_kind w = by_busy w.own_busy refl
  where
    by_busy : (busy : Bool) → w.own_busy ≡ busy
        → kind_of Answer (status_frame false w) [] 0 ≡ Status w.vr
    by_busy true is = ap (λ k. kind_of Answer k [] 0) (status_of true w false is)
    by_busy false is = ap (λ k. kind_of Answer k [] 0) (status_of false w false is)

pub enquiry_kind : (w : StateVariables) → kind_of Command (status_frame true w) [] 0 ≡ Enquiry w.vr
enquiry_kind w = by_busy w.own_busy refl
  where
    by_busy : (busy : Bool) → w.own_busy ≡ busy
        → kind_of Command (status_frame true w) [] 0 ≡ Enquiry w.vr
    by_busy true is = ap (λ k. kind_of Command k [] 0) (status_of true w true is)
    by_busy false is = ap (λ k. kind_of Command k [] 0) (status_of false w true is)

pub one_behind : (fs : List Flight) (role : Role) (control : Control) (u : Kind)
    → kind_of role control [] 0 ≡ u
    → kinds (fs ++ without_info role control ∷ []) ≡ kinds fs ++ u ∷ []
one_behind fs role control u is =
    kinds_more fs (without_info role control) ∙ ap (λ k. kinds fs ++ k ∷ []) is

-- sends the pending acknowledgement
pub mid_rr : (c : Context) (s : StepState) (back : List Kind) → HoldsMid c back s
    → HoldsMid c back (transmit_rr s)
unfolding story_after transmit_rr without_ack_pending acknowledgement
mid_rr c s back m =
    let u = Rr s.end.window.vr false in
    moved c (transmit_rr s) (after_outputs (occasion c s) (Send Answer u ∷ []) (story c s))
    (seen c s) (line c s ++ Status s.end.window.vr ∷ []) back
    (after_outputs_append _ s.outs (Send Answer u ∷ []) _) refl
    (one_behind (story c s).line Answer u (Status s.end.window.vr) refl)
    (saying_status (seen c s) c.peer (line c s) back m)

-- own receiver busy begins or ends
pub mid_own_busy : (c : Context) (on : Bool) (s : StepState) (back : List Kind) → HoldsMid c back s
    → HoldsMid c back (set_own_busy on s)
unfolding story_after set_own_busy with_own_busy
mid_own_busy c on s back m =
    let u = status_frame false (with_own_busy on s.end.window) in
    moved c (set_own_busy on s) (after_outputs (occasion c s) (Send Answer u ∷ []) (story c s))
    (seen c s) (line c s ++ Status s.end.window.vr ∷ []) back
    (after_outputs_append _ s.outs (Send Answer u ∷ []) _) refl
    (one_behind (story c s).line Answer u (Status s.end.window.vr)
    (status_kind (with_own_busy on s.end.window)))
    (saying_status (seen c s) c.peer (line c s) back m)

-- answers a poll
pub mid_response : (c : Context) (s : StepState) (nr : ℕ) (ks : List Kind)
    → HoldsMid c (Enquiry nr ∷ ks) s → HoldsMid c (Status nr ∷ ks) (enquiry_response s)
unfolding story_after enquiry_response without_ack_pending
mid_response c s nr ks m =
    let u = status_frame true s.end.window in
    moved c (enquiry_response s) (after_outputs (occasion c s) (Send Answer u ∷ []) (story c s))
    (seen c s) (line c s ++ Final s.end.window.vr ∷ []) (Status nr ∷ ks)
    (after_outputs_append _ s.outs (Send Answer u ∷ []) _) refl
    (one_behind (story c s).line Answer u (Final s.end.window.vr) (final_kind s.end.window))
    (answering (seen c s) c.peer (line c s) nr ks m)

-- ---- N(R).

abbrev pub acked_story : ℕ → Story → Story
acked_story n t = record t { history = with_acked n t.history }

nothing_acked : (t : Story) → t ≡ acked_story 0 t
nothing_acked t = ap (λ h. record t { history = h }) (no_places t.history)
  where
    no_places : (h : History) → h ≡ with_acked 0 h
    no_places h = ap (λ f. f) (both (append_nothing h.acked) (omega arith))
      where
        append_nothing : (l : List ℕ) → l ≡ l ++ []
        append_nothing [] = refl
        append_nothing (x ∷ xs) = ap (λ l. x ∷ l) (append_nothing xs)

        both : h.acked ≡ h.acked ++ [] → h.passed ≡ h.passed + 0 → h ≡ with_acked 0 h
        both a p =
            ap (λ l. record h { acked = l }) a
            ∙ ap (λ n. record h { acked = h.acked ++ []; passed = n }) p

pub after_acknowledged : (n : ℕ) (o : Occasion) (t : Story)
    → after_outputs o (counted n Acknowledged) t ≡ acked_story n t
after_acknowledged zero o t = nothing_acked t
after_acknowledged (suc n) o t = by_some (nat_lt 0 (suc n)) (grind (arith, nat_tests))
  where
    by_some : (test : Bool) → test ≡ true
        → after_outputs o (out_where test (Acknowledged (suc n))) t ≡ acked_story (suc n) t
    by_some true is = refl
    by_some false is = cc

pub mid_acknowledge : (c : Context) (nr : ℕ) (s : StepState) (ks : List Kind)
    → HoldsMid c (Status nr ∷ ks) s → HoldsMid c ks (acknowledge Whole nr s)
unfolding story_after acknowledge with_va acknowledged_count steps
mid_acknowledge c nr s ks m =
    let n = nr - s.end.window.va in
    moved c (acknowledge Whole nr s) (acked_story n (story c s)) (acknowledging nr (seen c s))
    (line c s) ks
    (after_outputs_append _ s.outs (counted n Acknowledged) _ ∙ after_acknowledged n
    (occasion c s) (story c s)) refl refl
    (preserves_acknowledging (seen c s) c.peer (line c s) nr ks m)

-- ---- This side polls.

pub mid_enquiry : (c : Context) (s : StepState) (back : List Kind)
    → IsSettled (seen c s) c.peer (line c s) back → HoldsMid c back s
    → HoldsMid c back (state_to TimerRecovery (transmit_enquiry s))
unfolding story_after transmit_enquiry state_to without_ack_pending
mid_enquiry c s back settled m =
    let u = status_frame true s.end.window in
    moved c (state_to TimerRecovery (transmit_enquiry s))
    (after_outputs (occasion c s) (Send Command u ∷ Start T200 ∷ []) (story c s))
    (recovering (seen c s)) (line c s ++ Enquiry s.end.window.vr ∷ []) back
    (after_outputs_append _ s.outs (Send Command u ∷ Start T200 ∷ []) _) refl
    (one_behind (story c s).line Command u (Enquiry s.end.window.vr)
    (enquiry_kind s.end.window)) (enquiring (seen c s) c.peer (line c s) back settled m)
