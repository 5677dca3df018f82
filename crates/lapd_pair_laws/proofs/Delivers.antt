-- A frame is delivered: cases by state and frame.
use Rattle.std.proofs.Common.{◌≡◌, true, false, List, [], ◌∷◌, refl, ap, arith}
use Rattle.lapd_timers.specs.declared.timer.Timer.TheVariants.{T200, T203}
use Rattle.lapd_frame.specs.declared.Role.{Role}
use Rattle.lapd_frame.specs.declared.Role.TheVariants.{Command, Answer}
use Rattle.lapd_frame.specs.declared.Control.{Control}
use Rattle.lapd_frame.specs.declared.Control.TheVariants.{I, Rr, Rnr, Rej, Sabme, Dm, Disc, Ua, Frmr}
use Rattle.lapd_mod128.specs.Counting.{Whole}
use Rattle.lapd_link_definition.specs.declared.state.State.{State}
use Rattle.lapd_link_definition.specs.declared.state.State.TheVariants.{TeiAssigned, AwaitingEstablishment, AwaitingRelease, MultipleFrameEstablished, TimerRecovery}
use Rattle.lapd_link_definition.specs.declared.out.Out.TheVariants.{Report, UnitUp}
use Rattle.lapd_link_definition.specs.AwaitingEstablishment.{awaiting_establishment, ua_final, confirm_or_indicate}
use Rattle.lapd_link_definition.specs.AwaitingRelease.{awaiting_release}
use Rattle.lapd_link_definition.specs.EndOfStep.{is_7_or_8, end_step}
use Rattle.lapd_link_definition.specs.End.{StepState, ◌▷◌, begin}
use Rattle.lapd_link_definition.specs.Established.{in_7_and_8, multiple_frame_established}
use Rattle.lapd_link_definition.specs.Input.{Heard}
use Rattle.lapd_link_definition.specs.Procedures.{put, state_to, start, stop, zero_state_variables}
use Rattle.lapd_link_definition.specs.Table.{by_state, row, step, is_unit_data}
use Rattle.lapd_link_definition.specs.TeiAssigned.{tei_assigned, unsolicited_ua}
use Rattle.lapd_link_definition.specs.TimerRecovery.{timer_recovery}
use Rattle.lapd_pair_laws.specs.Histories.{with_unit}
use Rattle.lapd_pair_laws.specs.Line.{Flight}
use Rattle.lapd_pair_laws.specs.Move.{Deliver, Station, View, acts, delivers, receives, story_after}
use Rattle.lapd_pair_laws.specs.Kinds.{Kind, Asks, Accepts, Refuses, Foreign, kind, kind_of, kinds}
use Rattle.lapd_pair_laws.specs.Parties.{party_of}
use Rattle.lapd_pair_laws.proofs.ClosedRows.{here, passed_over, ends_as_it_was, ends_refusing, ends_accepting, ends_disconnected, ends_refused, ends_released_by_ua, ends_released}
use Rattle.lapd_pair_laws.proofs.EachEvent.{Before, ends_nothing, opened_in, closed_in}
use Rattle.lapd_pair_laws.proofs.ActionEffects.{Context, story, seen, line, HoldsMid, after_outputs_append}
use Rattle.lapd_pair_laws.proofs.Lists.{by_test}
use Rattle.lapd_pair_laws.proofs.MidSteps.{enter, open_asks_none}
use Rattle.lapd_pair_laws.proofs.OpenRows.{mid_i_in_7, mid_rr_in_7, mid_rnr_in_7, mid_rej_in_7, mid_i_in_8, mid_rr_in_8, mid_rnr_in_8, mid_rej_in_8}
use Rattle.lapd_pair_laws.proofs.ClosedActions.{Seems, Ends, seems_put}
use Rattle.lapd_pair_laws.proofs.Steps.{context, begun, ends_open, holds_after}
use Rattle.lapd_pair_laws.proofs.Units.{ends_as_seen}
use Rattle.lapd_pair_laws.proofs.Worlds.{Holds, Preserves, left_by}

-- ---- Frames that change nothing.

-- the frame in hand is ignored
pub ends_passed : (c : Context) (k : Kind) (ks : List Kind) (s : StepState) → Before c (k ∷ ks) s
    → Ends c ks (end_step Whole s)
ends_passed c k ks s b = ends_nothing c ks s (passed_over c k ks s b)

pub no_foreign : (c : Context) (ks : List Kind) (s : StepState) → Before c (Foreign ∷ ks) s → ⊥
no_foreign c ks s b = let clean = b.its.exchange.clean in omega (arith, clean)

-- no UA or DM arrives at an open side
pub no_acceptance : (c : Context) (ks : List Kind) (s : StepState) → is_7_or_8 s.end.state ≡ true
    → Before c (Accepts ∷ ks) s → ⊥
no_acceptance c ks s opened b =
    let one = b.mine.exchange.one in
    let none = open_asks_none s.end.state opened in omega (arith, one, none)

pub no_refusal : (c : Context) (ks : List Kind) (s : StepState) → is_7_or_8 s.end.state ≡ true
    → Before c (Refuses ∷ ks) s → ⊥
no_refusal c ks s opened b =
    let one = b.mine.exchange.one in
    let none = open_asks_none s.end.state opened in omega (arith, one, none)

-- unit data is delivered to layer 3
seems_unit : (c : Context) (s : StepState) → Seems c (put UnitUp s) (seen c s) (line c s)
unfolding story_after put
seems_unit c s =
    let so : story c (put UnitUp s) ≡ record (story c s)
    { history = with_unit c.octets (story c s).history } =
    after_outputs_append _ s.outs (UnitUp ∷ []) _ in
    record {
      party = ap (λ st. party_of c.base s.end st.history) so;
      line = ap (λ st. kinds st.line) so;
    }

pub ends_unit : (c : Context) (ks : List Kind) (s : StepState) → Before c ks s
    → Ends c ks (end_step Whole (put UnitUp s))
ends_unit c ks s b = ends_as_seen c ks (put UnitUp s) (seen c s) (line c s) (seems_unit c s) b

-- ---- Rows that begin an establishment.

pub record Beginnings : Type 0 where
  pub by_acceptance : (c : Context) (ks : List Kind)
      → (begin c.view.station.end).end.state ≡ AwaitingEstablishment
      → (begin c.view.station.end).end.release_pending ≡ false
      → Before c (Accepts ∷ ks) (begin c.view.station.end)
      → Ends c ks (end_step Whole (begin c.view.station.end ▷ confirm_or_indicate ▷
      zero_state_variables ▷ stop T200 ▷ start T203 ▷ state_to
      MultipleFrameEstablished))
  pub in_4 : (c : Context) (ks : List Kind) → (begin c.view.station.end).end.state ≡ TeiAssigned
      → Before c (Asks ∷ ks) (begin c.view.station.end)
      → Ends c ks
      (end_step Whole (tei_assigned (Heard (Sabme true) Command) (begin c.view.station.end)))
  pub in_7_or_8 : (c : Context) (ks : List Kind)
      → is_7_or_8 (begin c.view.station.end).end.state ≡ true
      → Before c (Asks ∷ ks) (begin c.view.station.end)
      → Ends c ks
      (end_step Whole (in_7_and_8 (Heard (Sabme true) Command) (begin c.view.station.end)))

abbrev HoldsAtDelivery : Context → Role → Control → List Kind → StepState → Type 0
HoldsAtDelivery c role control ks s = Before c (kind_of role control c.octets c.place ∷ ks) s

module _ (begins : Beginnings) (c : Context) (ks : List Kind) where
  abbrev s : StepState
  s = begin c.view.station.end

  in_state_4 : (control : Control) (role : Role) → s.end.state ≡ TeiAssigned
      → HoldsAtDelivery c role control ks s
      → Ends c ks (end_step Whole (tei_assigned (Heard control role) s))
  unfolding tei_assigned
  in_state_4 (Sabme true) Command is b = begins.in_4 c ks is b
  in_state_4 (Sabme false) Command is b = absurd (no_foreign c ks s b)
  in_state_4 (Disc true) Command is b = ends_refusing c ks s (closed_in TeiAssigned s is refl) b
  in_state_4 (Disc false) Command is b = absurd (no_foreign c ks s b)
  in_state_4 (Ua true) Answer is b =
      ends_as_it_was c ks s (put (Report (unsolicited_ua true)) s) (closed_in TeiAssigned s is refl)
      (seems_put c (Report (unsolicited_ua true)) s (seen c s) (line c s) (λ o t. refl) (here c s))
      (passed_over c Accepts ks s b)
  in_state_4 (Ua false) Answer is b = absurd (no_foreign c ks s b)
  in_state_4 control role is b = ends_passed c _ ks s b

  in_state_5 : (control : Control) (role : Role) → s.end.state ≡ AwaitingEstablishment
      → HoldsAtDelivery c role control ks s
      → Ends c ks (end_step Whole (awaiting_establishment (Heard control role) s))
  unfolding awaiting_establishment ua_final
  in_state_5 (Sabme true) Command is b =
      ends_accepting c ks s (closed_in AwaitingEstablishment s is refl) b
  in_state_5 (Sabme false) Command is b = absurd (no_foreign c ks s b)
  in_state_5 (Disc true) Command is b =
      ends_refusing c ks s (closed_in AwaitingEstablishment s is refl) b
  in_state_5 (Disc false) Command is b = absurd (no_foreign c ks s b)
  in_state_5 (Ua true) Answer is b =
      by_test (λ (t : StepState). Ends c ks (end_step Whole t)) s.end.release_pending _ _
      (λ waits. ends_released_by_ua c ks s is waits b) (λ none. begins.by_acceptance c ks is none b)
  in_state_5 (Ua false) Answer is b = absurd (no_foreign c ks s b)
  in_state_5 (Dm true) Answer is b = ends_refused c ks s is b
  in_state_5 (Dm false) Answer is b = absurd (no_foreign c ks s b)
  in_state_5 control role is b = ends_passed c _ ks s b

  in_state_6 : (control : Control) (role : Role) → s.end.state ≡ AwaitingRelease
      → HoldsAtDelivery c role control ks s
      → Ends c ks (end_step Whole (awaiting_release (Heard control role) s))
  unfolding awaiting_release
  in_state_6 (Sabme true) Command is b =
      ends_refusing c ks s (closed_in AwaitingRelease s is refl) b
  in_state_6 (Sabme false) Command is b = absurd (no_foreign c ks s b)
  in_state_6 (Disc true) Command is b =
      ends_accepting c ks s (closed_in AwaitingRelease s is refl) b
  in_state_6 (Disc false) Command is b = absurd (no_foreign c ks s b)
  in_state_6 (Ua true) Answer is b = ends_released c Accepts ks s is refl b
  in_state_6 (Ua false) Answer is b = absurd (no_foreign c ks s b)
  in_state_6 (Dm true) Answer is b = ends_released c Refuses ks s is refl b
  in_state_6 (Dm false) Answer is b = absurd (no_foreign c ks s b)
  in_state_6 control role is b = ends_passed c _ ks s b

  in_both : (control : Control) (role : Role) → is_7_or_8 s.end.state ≡ true
      → HoldsAtDelivery c role control ks s
      → Ends c ks (end_step Whole (in_7_and_8 (Heard control role) s))
  unfolding in_7_and_8
  in_both (Sabme true) Command opened b = begins.in_7_or_8 c ks opened b
  in_both (Sabme false) Command opened b = absurd (no_foreign c ks s b)
  in_both (Disc true) Command opened b = ends_disconnected c ks s opened b
  in_both (Disc false) Command opened b = absurd (no_foreign c ks s b)
  in_both (Ua true) Answer opened b = absurd (no_acceptance c ks s opened b)
  in_both (Ua false) Answer opened b = absurd (no_foreign c ks s b)
  in_both (Dm true) Answer opened b = absurd (no_refusal c ks s opened b)
  in_both (Dm false) Answer opened b = absurd (no_foreign c ks s b)
  in_both (Frmr f) Answer opened b = absurd (no_foreign c ks s b)
  in_both control role opened b = ends_passed c _ ks s b

  opening : (control : Control) (role : Role) (state : State) → s.end.state ≡ state
      → is_7_or_8 state ≡ true → HoldsAtDelivery c role control ks s
      → HoldsMid c (kind_of role control c.octets c.place ∷ ks) s
  opening control role state is opened b =
      enter (seen c s) c.peer (line c s) (kind_of role control c.octets c.place ∷ ks)
      (opened_in state s is opened) b

  in_state_7 : (control : Control) (role : Role) → s.end.state ≡ MultipleFrameEstablished
      → HoldsAtDelivery c role control ks s
      → Ends c ks (end_step Whole (multiple_frame_established Whole (Heard control role) s))
  unfolding multiple_frame_established
  in_state_7 (I ns nr p) Command is b =
      ends_open c ks _
      (mid_i_in_7 c ns nr p ks s (opening (I ns nr p) Command MultipleFrameEstablished is refl b))
  in_state_7 (I ns nr p) Answer is b = absurd (no_foreign c ks s b)
  in_state_7 (Rr nr pf) role is b =
      ends_open c ks _ (mid_rr_in_7 c nr pf role ks s is
      (opening (Rr nr pf) role MultipleFrameEstablished is refl b))
  in_state_7 (Rnr nr pf) role is b =
      ends_open c ks _ (mid_rnr_in_7 c nr pf role ks s is
      (opening (Rnr nr pf) role MultipleFrameEstablished is refl b))
  in_state_7 (Rej nr pf) role is b =
      ends_open c ks _ (mid_rej_in_7 c nr pf role ks s is
      (opening (Rej nr pf) role MultipleFrameEstablished is refl b))
  in_state_7 (Dm true) Answer is b =
      absurd (no_refusal c ks s (opened_in MultipleFrameEstablished s is refl) b)
  in_state_7 (Dm false) Answer is b = absurd (no_foreign c ks s b)
  in_state_7 control role is b =
      in_both control role (opened_in MultipleFrameEstablished s is refl) b

  in_state_8 : (control : Control) (role : Role) → s.end.state ≡ TimerRecovery
      → HoldsAtDelivery c role control ks s
      → Ends c ks (end_step Whole (timer_recovery Whole (Heard control role) s))
  unfolding timer_recovery
  in_state_8 (I ns nr p) Command is b =
      ends_open c ks _
      (mid_i_in_8 c ns nr p ks s (opening (I ns nr p) Command TimerRecovery is refl b))
  in_state_8 (I ns nr p) Answer is b = absurd (no_foreign c ks s b)
  in_state_8 (Rr nr pf) role is b =
      ends_open c ks _
      (mid_rr_in_8 c nr pf role ks s is (opening (Rr nr pf) role TimerRecovery is refl b))
  in_state_8 (Rnr nr pf) role is b =
      ends_open c ks _
      (mid_rnr_in_8 c nr pf role ks s is (opening (Rnr nr pf) role TimerRecovery is refl b))
  in_state_8 (Rej nr pf) role is b =
      ends_open c ks _
      (mid_rej_in_8 c nr pf role ks s is (opening (Rej nr pf) role TimerRecovery is refl b))
  in_state_8 (Dm true) Answer is b =
      absurd (no_refusal c ks s (opened_in TimerRecovery s is refl) b)
  in_state_8 (Dm false) Answer is b = absurd (no_foreign c ks s b)
  in_state_8 control role is b = in_both control role (opened_in TimerRecovery s is refl) b

  by_each_state : (state : State) (control : Control) (role : Role) → s.end.state ≡ state
      → HoldsAtDelivery c role control ks s
      → Ends c ks (end_step Whole (by_state Whole state (Heard control role) s))
  unfolding by_state
  by_each_state TeiAssigned control role is b = in_state_4 control role is b
  by_each_state AwaitingEstablishment control role is b = in_state_5 control role is b
  by_each_state AwaitingRelease control role is b = in_state_6 control role is b
  by_each_state MultipleFrameEstablished control role is b = in_state_7 control role is b
  by_each_state TimerRecovery control role is b = in_state_8 control role is b

  pub ends_received : (state : State) (control : Control) (role : Role) → s.end.state ≡ state
      → HoldsAtDelivery c role control ks s
      → Ends c ks (end_step Whole (row Whole state (Heard control role) s))
  unfolding row
  ends_received state control role is b =
      by_test (λ (t : StepState). Ends c ks (end_step Whole t)) (is_unit_data control role) _ _
      (λ _. ends_unit c ks s (passed_over c (kind_of role control c.octets c.place) ks s b))
      (λ _. by_each_state state control role is b)

-- ---- From what the side sees.

module _ (begins : Beginnings) where
  delivered : (station peer : Station) (incoming outgoing : List Flight)
      → Holds (record { station = station; incoming = incoming; outgoing = outgoing }) peer
      → Holds (left_by (record { station = station; incoming = incoming; outgoing = outgoing })
      (delivers Whole incoming
      (record { station = station; incoming = incoming; outgoing = outgoing }))) peer
  unfolding delivers receives begin step
  delivered station peer [] outgoing h = h
  delivered station peer (frame ∷ rest) outgoing h =
      let v : View = record { station = station; incoming = frame ∷ rest; outgoing = outgoing } in
      let c = context h.base frame.info frame.place v rest peer h.its_base in
      holds_after frame.info frame.place v h.base h.its_base peer rest
      (end_step Whole
      (row Whole station.end.state (Heard frame.control frame.role) (begin station.end)))
      (ends_received begins c (kinds rest) station.end.state frame.control frame.role refl
      (begun c (kind frame ∷ kinds rest) h.both))

  pub preserves_deliver : Preserves Deliver
  unfolding acts
  preserves_deliver v peer small h = delivered v.station peer v.incoming v.outgoing h
