-- The steps of an end in state 5, and of others that a SABME or DISC closes or an answer ends.
use Rattle.std.proofs.Common.{◌≡◌, ℕ, ◌+◌, nat_lt, Bool, true, false, [], ◌∷◌, ◌++◌, length, append-nil, refl, sym, ap, subst, ◌∙◌}
use Rattle.lapd_timers.specs.declared.timer.Timer.TheVariants.{T200, T203}
use Rattle.lapd_frame.specs.declared.Role.{Role}
use Rattle.lapd_frame.specs.declared.Role.TheVariants.{Command, Answer}
use Rattle.lapd_frame.specs.declared.Control.{Control}
use Rattle.lapd_frame.specs.declared.Control.TheVariants.{I, Rr, Rnr, Rej, Sabme, Dm, Disc, Ua}
use Rattle.lapd_mod128.specs.Counting.{Whole}
use Rattle.lapd_link_definition.specs.declared.out.Letter.TheVariants as letter
use Rattle.lapd_link_definition.specs.declared.out.Out.TheVariants.{Send, Start, Stop, Report, Dropped, Released}
use Rattle.lapd_link_definition.specs.declared.state.State.{State}
use Rattle.lapd_link_definition.specs.declared.state.State.TheVariants.{TeiAssigned, AwaitingEstablishment, AwaitingRelease, MultipleFrameEstablished, TimerRecovery}
use Rattle.lapd_link_definition.specs.AwaitingEstablishment.{release_primitive}
use Rattle.lapd_link_definition.specs.EndOfStep.{is_7_or_8, end_step}
use Rattle.lapd_link_definition.specs.End.{End, StepState, begin, waiting}
use Rattle.lapd_link_definition.specs.Established.{in_7_and_8}
use Rattle.lapd_link_definition.specs.Input.{Heard, Expiry}
use Rattle.lapd_link_definition.specs.Procedures.{out_where, put}
use Rattle.lapd_link_definition.specs.Table.{row}
use Rattle.lapd_pair_laws.specs.Histories.{Occasion, Story, after_outputs}
use Rattle.lapd_pair_laws.specs.Line.{Flight, without_info}
use Rattle.lapd_pair_laws.specs.Move.{story_after}
use Rattle.lapd_pair_laws.proofs.ClosedActions.{closes_nothing}
use Rattle.lapd_pair_laws.proofs.Lists.{by_test}
use Rattle.lapd_recovery_laws.proofs.ClosedSteps.{Yields}
use Rattle.lapd_recovery_laws.proofs.LoneSteps.{is_ignored, sabme, ua, no_frame, same_end}
use Rattle.lapd_link_definition.proofs.ComputedStep.{each_change, each_row}

abbrev pub dm : Flight
dm = without_info Answer (Dm true)

abbrev pub disc : Flight
disc = without_info Command (Disc true)

-- ---- Outputs with counted messages.

-- the frames of these outputs, with some test in place of the count
given_up_line : (c leaving : Bool) (n : ℕ) (o : Occasion) (t : Story)
    → (after_outputs o
    ((out_where c (Dropped n) ++ Report letter.G ∷ []) ++ release_primitive leaving ∷ [])
    t).line ≡ t.line
given_up_line true true n o t = refl
given_up_line true false n o t = refl
given_up_line false true n o t = refl
given_up_line false false n o t = refl

pub refused_line : (c b leaving : Bool) (n : ℕ) (o : Occasion) (t : Story)
    → (after_outputs o
    ((out_where c (Dropped n) ++ out_where b (Stop T200)) ++ release_primitive leaving ∷ [])
    t).line ≡ t.line
refused_line true true true n o t = refl
refused_line true true false n o t = refl
refused_line true false true n o t = refl
refused_line true false false n o t = refl
refused_line false true true n o t = refl
refused_line false true false n o t = refl
refused_line false false true n o t = refl
refused_line false false false n o t = refl

disconnected_line : (c a b : Bool) (n : ℕ) (o : Occasion) (t : Story)
    → (after_outputs o ((((out_where c (Dropped n) ++ Send Answer (Ua true) ∷ []) ++ Released ∷ [])
    ++ out_where a (Stop T200)) ++ out_where b (Stop T203)) t).line ≡ t.line ++ ua
    ∷ []
disconnected_line true true true n o t = refl
disconnected_line true true false n o t = refl
disconnected_line true false true n o t = refl
disconnected_line true false false n o t = refl
disconnected_line false true true n o t = refl
disconnected_line false true false n o t = refl
disconnected_line false false true n o t = refl
disconnected_line false false false n o t = refl

-- ---- Rows of state 5.

module _ (e : End) (is : e.state ≡ AwaitingEstablishment) where
  -- the SABME and DISC of the peer are answered
  sabme_yields_5 : Yields e
      (end_step Whole (row Whole AwaitingEstablishment (Heard (Sabme true) Command) (begin e))) e
      (ua ∷ [])
  unfolding each_row put begin story_after
  sabme_yields_5 =
      subst (λ (t : StepState). Yields e t e (ua ∷ []))
      (sym (closes_nothing (put (Send Answer (Ua true)) (begin e)) (ap is_7_or_8 is)))
      (record { end = refl; line = λ octets place v same. refl })

  pub sabme_in_5 : Yields e
      (end_step Whole (row Whole e.state (Heard (Sabme true) Command) (begin e))) e (ua ∷ [])
  sabme_in_5 =
      subst (λ st. Yields e (end_step Whole (row Whole st (Heard (Sabme true) Command) (begin e))) e
      (ua ∷ [])) (sym is) sabme_yields_5

  disc_yields_5 : Yields e
      (end_step Whole (row Whole AwaitingEstablishment (Heard (Disc true) Command) (begin e))) e
      (dm ∷ [])
  unfolding each_row put begin story_after
  disc_yields_5 =
      subst (λ (t : StepState). Yields e t e (dm ∷ []))
      (sym (closes_nothing (put (Send Answer (Dm true)) (begin e)) (ap is_7_or_8 is)))
      (record { end = refl; line = λ octets place v same. refl })

  pub disc_in_5 : Yields e
      (end_step Whole (row Whole e.state (Heard (Disc true) Command) (begin e))) e (dm ∷ [])
  disc_in_5 =
      subst (λ st. Yields e (end_step Whole (row Whole st (Heard (Disc true) Command) (begin e))) e
      (dm ∷ [])) (sym is) disc_yields_5

  -- T200 expires: the SABME is retransmitted, or the end gives up
  abbrev pub asked_again : End
  asked_again = record e { rc = e.rc + 1; t200 = true }

  abbrev pub abandoned : End
  abandoned = record e {
    t200 = false;
    first = length e.given;
    next = length e.given;
    release_pending = false;
    state = TeiAssigned;
  }

  retry_yields_5 : e.t200 ≡ true → nat_lt e.rc e.parameters.n200 ≡ true
      → Yields e (end_step Whole (row Whole AwaitingEstablishment (Expiry T200) (begin e)))
      asked_again (sabme ∷ [])
  unfolding each_change each_row story_after
  retry_yields_5 on tries =
      by_test (λ (t : StepState). Yields e (end_step Whole t) asked_again (sabme ∷ [])) e.t200 _ _
      (λ _. by_test (λ (t : StepState). Yields e (end_step Whole t) asked_again (sabme ∷ []))
      (nat_lt e.rc e.parameters.n200) _ _
      (λ _. let s : StepState =
      record { end = asked_again; outs = Send Command (Sabme true) ∷ Start T200 ∷ [] } in
      subst (λ (t : StepState). Yields e t asked_again (sabme ∷ []))
      (sym (closes_nothing s (ap is_7_or_8 is)))
      (record { end = refl; line = λ octets place v same. refl }))
      (λ none. cc)) (λ off. cc)

  pub retry_in_5 : e.t200 ≡ true → nat_lt e.rc e.parameters.n200 ≡ true
      → Yields e (end_step Whole (row Whole e.state (Expiry T200) (begin e))) asked_again
      (sabme ∷ [])
  retry_in_5 on tries =
      subst (λ st. Yields e
      (end_step Whole (row Whole st (Expiry T200) (begin e))) asked_again (sabme ∷ [])) (sym is)
      (retry_yields_5 on tries)

  give_up_yields_5 : e.t200 ≡ true → nat_lt e.rc e.parameters.n200 ≡ false
      → Yields e (end_step Whole (row Whole AwaitingEstablishment (Expiry T200) (begin e)))
      abandoned []
  unfolding each_change each_row story_after
  give_up_yields_5 on last =
      by_test (λ (t : StepState). Yields e (end_step Whole t) abandoned []) e.t200 _ _
      (λ _. by_test (λ (t : StepState). Yields e (end_step Whole t) abandoned [])
      (nat_lt e.rc e.parameters.n200) _ _
      (λ some. cc)
      (λ _. let s : StepState =
      record {
        end = abandoned;
        outs =
            (out_where (nat_lt 0 (waiting e)) (Dropped (waiting e)) ++ Report letter.G ∷ [])
            ++ release_primitive e.release_pending ∷ [];
      } in
      subst (λ (t : StepState). Yields e t abandoned []) (sym (closes_nothing s refl))
      (record {
        end = refl;
        line =
            λ octets place v same. given_up_line (nat_lt 0 (waiting e)) e.release_pending
            (waiting e) _ _ ∙ sym (append-nil v.outgoing);
      })))
      (λ off. cc)

  pub give_up_in_5 : e.t200 ≡ true → nat_lt e.rc e.parameters.n200 ≡ false
      → Yields e (end_step Whole (row Whole e.state (Expiry T200) (begin e))) abandoned []
  give_up_in_5 on last =
      subst (λ st. Yields e (end_step Whole (row Whole st (Expiry T200) (begin e))) abandoned [])
      (sym is) (give_up_yields_5 on last)

  -- the DM arrives
  dm_yields_5 : Yields e
      (end_step Whole (row Whole AwaitingEstablishment (Heard (Dm true) Answer) (begin e)))
      abandoned []
  unfolding each_change each_row story_after
  dm_yields_5 =
      let s : StepState =
      record {
        end = abandoned;
        outs =
            (out_where (nat_lt 0 (waiting e)) (Dropped (waiting e))
            ++ out_where e.t200 (Stop T200)) ++ release_primitive e.release_pending ∷ [];
      }
      in
      subst (λ (t : StepState). Yields e t abandoned []) (sym (closes_nothing s refl))
      (record {
        end = refl;
        line =
            λ octets place v same. refused_line (nat_lt 0 (waiting e)) e.t200
            e.release_pending (waiting e) _ _ ∙ sym (append-nil v.outgoing);
      })

  pub dm_in_5 : Yields e (end_step Whole (row Whole e.state (Heard (Dm true) Answer) (begin e)))
      abandoned []
  dm_in_5 =
      subst (λ st. Yields e
      (end_step Whole (row Whole st (Heard (Dm true) Answer) (begin e))) abandoned []) (sym is)
      dm_yields_5

  -- the UA arrives, and a release is pending
  abbrev pub leaving : End
  leaving = record e { release_pending = false; rc = 0; t200 = true; state = AwaitingRelease }

  ua_yields_5 : e.release_pending ≡ true
      → Yields e
      (end_step Whole (row Whole AwaitingEstablishment (Heard (Ua true) Answer) (begin e)))
      leaving (disc ∷ [])
  unfolding each_change each_row story_after
  ua_yields_5 pending =
      by_test (λ (t : StepState). Yields e (end_step Whole t) leaving (disc ∷ [])) e.release_pending
      _ _
      (λ _. let s : StepState =
      record { end = leaving; outs = Send Command (Disc true) ∷ Start T200 ∷ [] } in
      subst (λ (t : StepState). Yields e t leaving (disc ∷ [])) (sym (closes_nothing s refl))
      (record { end = refl; line = λ octets place v same. refl }))
      (λ none. cc)

  pub ua_in_5 : e.release_pending ≡ true
      → Yields e (end_step Whole (row Whole e.state (Heard (Ua true) Answer) (begin e))) leaving
      (disc ∷ [])
  ua_in_5 pending =
      subst (λ st. Yields e
      (end_step Whole (row Whole st (Heard (Ua true) Answer) (begin e))) leaving (disc ∷ []))
      (sym is) (ua_yields_5 pending)

-- ---- Rows of state 6.

sabme_yields_6 : (e : End) → e.state ≡ AwaitingRelease
    → Yields e (end_step Whole (row Whole AwaitingRelease (Heard (Sabme true) Command) (begin e))) e
    (dm ∷ [])
unfolding each_row put begin story_after
sabme_yields_6 e is =
    subst (λ (t : StepState). Yields e t e (dm ∷ []))
    (sym (closes_nothing (put (Send Answer (Dm true)) (begin e)) (ap is_7_or_8 is)))
    (record { end = refl; line = λ octets place v same. refl })

pub sabme_in_6 : (e : End) → e.state ≡ AwaitingRelease
    → Yields e (end_step Whole (row Whole e.state (Heard (Sabme true) Command) (begin e))) e
    (dm ∷ [])
sabme_in_6 e is =
    subst (λ st. Yields e (end_step Whole (row Whole st (Heard (Sabme true) Command) (begin e))) e
    (dm ∷ [])) (sym is) (sabme_yields_6 e is)

-- ---- Frames that a closed end ignores.

ignores : (control : Control) (role : Role) (state : State) (s : StepState) → s.end.state ≡ state
    → is_7_or_8 state ≡ false → is_ignored control ≡ true
    → end_step Whole (row Whole state (Heard control role) s) ≡ s
unfolding each_row
ignores (I ns nr p) role TeiAssigned s is closed ignored = closes_nothing s (ap is_7_or_8 is)
ignores (I ns nr p) role AwaitingEstablishment s is closed ignored =
    closes_nothing s (ap is_7_or_8 is)
ignores (I ns nr p) role AwaitingRelease s is closed ignored = closes_nothing s (ap is_7_or_8 is)
ignores (Rr nr pf) role TeiAssigned s is closed ignored = closes_nothing s (ap is_7_or_8 is)
ignores (Rr nr pf) role AwaitingEstablishment s is closed ignored =
    closes_nothing s (ap is_7_or_8 is)
ignores (Rr nr pf) role AwaitingRelease s is closed ignored = closes_nothing s (ap is_7_or_8 is)
ignores (Rnr nr pf) role TeiAssigned s is closed ignored = closes_nothing s (ap is_7_or_8 is)
ignores (Rnr nr pf) role AwaitingEstablishment s is closed ignored =
    closes_nothing s (ap is_7_or_8 is)
ignores (Rnr nr pf) role AwaitingRelease s is closed ignored = closes_nothing s (ap is_7_or_8 is)
ignores (Rej nr pf) role TeiAssigned s is closed ignored = closes_nothing s (ap is_7_or_8 is)
ignores (Rej nr pf) role AwaitingEstablishment s is closed ignored =
    closes_nothing s (ap is_7_or_8 is)
ignores (Rej nr pf) role AwaitingRelease s is closed ignored = closes_nothing s (ap is_7_or_8 is)
ignores control role MultipleFrameEstablished s is closed ignored = cc
ignores control role TimerRecovery s is closed ignored = cc
ignores control role state s is closed ignored = cc

pub ignored_if_closed : (e : End) (control : Control) (role : Role) → is_7_or_8 e.state ≡ false
    → is_ignored control ≡ true
    → Yields e (end_step Whole (row Whole e.state (Heard control role) (begin e))) e []
ignored_if_closed e control role closed ignored =
    subst (λ (t : StepState). Yields e t e [])
    (sym (ignores control role e.state (begin e) (ap (λ (d : End). d.state) (same_end e)) closed
    ignored))
    (record { end = same_end e; line = λ octets place v same. no_frame e octets place v })

-- ---- A DISC in states 7 and 8.

abbrev pub disconnected : End → End
disconnected e = record e {
  first = length e.given;
  next = length e.given;
  t200 = false;
  t203 = false;
  state = TeiAssigned;
}

disc_closes : (e : End)
    → Yields e (end_step Whole (in_7_and_8 (Heard (Disc true) Command) (begin e))) (disconnected e)
    (ua ∷ [])
unfolding each_change in_7_and_8 story_after
disc_closes e =
    let s : StepState =
    record {
      end = disconnected e;
      outs =
          (((out_where (nat_lt 0 (waiting e)) (Dropped (waiting e)) ++ Send Answer (Ua true)
          ∷ []) ++ Released ∷ []) ++ out_where e.t200 (Stop T200))
          ++ out_where e.t203 (Stop T203);
    } in
    subst (λ (t : StepState). Yields e t (disconnected e) (ua ∷ [])) (sym (closes_nothing s refl))
    (record {
      end = refl;
      line =
          λ octets place v same. disconnected_line (nat_lt 0 (waiting e)) e.t200 e.t203
          (waiting e) _ _;
    })

disc_by_state : (e : End) (state : State) → is_7_or_8 state ≡ true
    → Yields e (end_step Whole (row Whole state (Heard (Disc true) Command) (begin e)))
    (disconnected e) (ua ∷ [])
unfolding each_row
disc_by_state e MultipleFrameEstablished opened = disc_closes e
disc_by_state e TimerRecovery opened = disc_closes e
disc_by_state e state opened = cc

pub disc_in_7_8 : (e : End) → is_7_or_8 e.state ≡ true
    → Yields e (end_step Whole (row Whole e.state (Heard (Disc true) Command) (begin e)))
    (disconnected e) (ua ∷ [])
disc_in_7_8 e opened = disc_by_state e e.state opened
