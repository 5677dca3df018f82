-- The steps of an end in states 4 and 6, and the frames that they send.
use Rattle.std.proofs.Common.{◌≡◌, ℕ, ◌+◌, nat_lt, Bool, true, false, List, [], ◌∷◌, ◌++◌, append-nil, Result, refl, sym, ap, subst}
use Rattle.lapd_timers.specs.declared.timer.Timer.TheVariants.{T200}
use Rattle.lapd_frame.specs.declared.Side.TheVariants as side
use Rattle.lapd_frame.specs.declared.Role.TheVariants.{Command, Answer}
use Rattle.lapd_frame.specs.declared.Control.TheVariants.{Dm, Disc, Ua}
use Rattle.lapd_mod128.specs.Counting.{Whole}
use Rattle.lapd_link_definition.specs.declared.out.Letter.TheVariants as letter
use Rattle.lapd_link_definition.specs.declared.out.Out.TheVariants.{Send, Start, Stop, Report, ReleaseConfirm}
use Rattle.lapd_link_definition.specs.declared.state.State.TheVariants.{TeiAssigned, AwaitingRelease}
use Rattle.lapd_link_definition.specs.AwaitingRelease.{confirm_release}
use Rattle.lapd_link_definition.specs.EndOfStep.{is_7_or_8, end_step}
use Rattle.lapd_link_definition.specs.End.{End, StepState, begin}
use Rattle.lapd_link_definition.specs.Input.{Heard, Expiry}
use Rattle.lapd_link_definition.specs.Procedures.{out_where, put}
use Rattle.lapd_link_definition.specs.Table.{row, step}
use Rattle.lapd_pair_laws.specs.Line.{Flight, without_info}
use Rattle.lapd_pair_laws.specs.Move.{Deliver, Expire200, Station, View, ViewStep, Refusal, acts, takes, receives, delivers, expires_200, view_after, story_after}
use Rattle.lapd_pair_laws.proofs.ClosedActions.{closes_nothing}
use Rattle.lapd_pair_laws.proofs.Lists.{by_test}
use Rattle.lapd_pair_laws.proofs.Worlds.{left_by}
use Rattle.lapd_recovery_laws.proofs.OneMoreFrame.{seeing}
use Rattle.lapd_link_definition.proofs.ComputedStep.{each_change, each_row}

-- ---- The view of a side after a step with these outputs.

pub record Sees (v : View) (e : End) (here there : List Flight) : Type 0 where
  pub end : v.station.end ≡ e
  pub incoming : v.incoming ≡ here
  pub outgoing : v.outgoing ≡ there

pub record Yields (e : End) (s : StepState) (after : End) (frames : List Flight) : Type 0 where
  pub end : s.end ≡ after
  pub line : (octets : List ℕ) (place : ℕ) (v : View) → v.station.end ≡ e
      → (story_after octets place v s).line ≡ v.outgoing ++ frames

pub seen_after_t200 : (x : Station) (after : End) (frames : List Flight) → x.end.t200 ≡ true
    → Yields x.end (end_step Whole (row Whole x.end.state (Expiry T200) (begin x.end))) after frames
    → Sees (left_by (seeing x [] []) (acts Whole side.User Expire200 (seeing x [] []))) after []
    frames
unfolding acts expires_200 takes step view_after
seen_after_t200 x after frames on y =
    by_test (λ (o : Result ViewStep Refusal). Sees (left_by (seeing x [] []) o) after [] frames)
    x.end.t200 _ _
    (λ _. record { end = y.end; incoming = refl; outgoing = y.line [] 0 (seeing x [] []) refl })
    (λ off. cc)

pub seen_after_frame : (x : Station) (frame : Flight) (rest outgoing : List Flight) (after : End)
    (frames : List Flight)
    → Yields x.end
    (end_step Whole (row Whole x.end.state (Heard frame.control frame.role) (begin x.end)))
    after frames
    → Sees (left_by (seeing x (frame ∷ rest) outgoing)
    (acts Whole side.User Deliver (seeing x (frame ∷ rest) outgoing))) after rest
    (outgoing ++ frames)
unfolding acts delivers receives step view_after
seen_after_frame x frame rest outgoing after frames y = record {
  end = y.end;
  incoming = refl;
  outgoing = y.line frame.info frame.place (seeing x rest outgoing) refl;
}

-- ---- Rows of state 4.

literally_4 : (e : End) → e.state ≡ TeiAssigned
    → Yields e (end_step Whole (row Whole TeiAssigned (Heard (Disc true) Command) (begin e))) e
    (without_info Answer (Dm true) ∷ [])
unfolding each_row put begin story_after
literally_4 e is =
    let s = put (Send Answer (Dm true)) (begin e) in
    subst (λ (t : StepState). Yields e t e (without_info Answer (Dm true) ∷ []))
    (sym (closes_nothing s (ap is_7_or_8 is)))
    (record { end = refl; line = λ octets place v same. refl })

pub disc_in_4 : (e : End) → e.state ≡ TeiAssigned
    → Yields e (end_step Whole (row Whole e.state (Heard (Disc true) Command) (begin e))) e
    (without_info Answer (Dm true) ∷ [])
disc_in_4 e is =
    subst (λ st. Yields e (end_step Whole (row Whole st (Heard (Disc true) Command) (begin e))) e
    (without_info Answer (Dm true) ∷ [])) (sym is) (literally_4 e is)

-- ---- Rows of state 6.

module _ (e : End) (is : e.state ≡ AwaitingRelease) where
  disc_yields : Yields e
      (end_step Whole (row Whole AwaitingRelease (Heard (Disc true) Command) (begin e))) e
      (without_info Answer (Ua true) ∷ [])
  unfolding each_row put begin story_after
  disc_yields =
      let s = put (Send Answer (Ua true)) (begin e) in
      subst (λ (t : StepState). Yields e t e (without_info Answer (Ua true) ∷ []))
      (sym (closes_nothing s (ap is_7_or_8 is)))
      (record { end = refl; line = λ octets place v same. refl })

  pub disc_in_6 : Yields e
      (end_step Whole (row Whole e.state (Heard (Disc true) Command) (begin e))) e
      (without_info Answer (Ua true) ∷ [])
  disc_in_6 =
      subst (λ st. Yields e (end_step Whole (row Whole st (Heard (Disc true) Command) (begin e))) e
      (without_info Answer (Ua true) ∷ [])) (sym is) disc_yields

  abbrev pub released : End
  released = record e { t200 = false; state = TeiAssigned }

  silent : (b : Bool) (octets : List ℕ) (place : ℕ) (v : View)
      → (story_after octets place v (record {
        end = released;
        outs = out_where b (Stop T200) ++ ReleaseConfirm ∷ [];
      })).line ≡ v.outgoing
      ++ []
  unfolding story_after
  silent true octets place v = sym (append-nil v.outgoing)
  silent false octets place v = sym (append-nil v.outgoing)

  confirmed : Yields e (end_step Whole (confirm_release (begin e))) released []
  unfolding each_change confirm_release
  confirmed =
      let s : StepState =
      record
      { end = released; outs = out_where e.t200 (Stop T200) ++ ReleaseConfirm ∷ [] } in
      subst (λ (t : StepState). Yields e t released []) (sym (closes_nothing s refl))
      (record { end = refl; line = λ octets place v same. silent e.t200 octets place v })

  ua_yields : Yields e
      (end_step Whole (row Whole AwaitingRelease (Heard (Ua true) Answer) (begin e))) released []
  unfolding each_row
  ua_yields = confirmed

  pub ua_in_6 : Yields e (end_step Whole (row Whole e.state (Heard (Ua true) Answer) (begin e)))
      released []
  ua_in_6 =
      subst (λ st. Yields e
      (end_step Whole (row Whole st (Heard (Ua true) Answer) (begin e))) released []) (sym is)
      ua_yields

  dm_yields : Yields e
      (end_step Whole (row Whole AwaitingRelease (Heard (Dm true) Answer) (begin e))) released []
  unfolding each_row
  dm_yields = confirmed

  pub dm_in_6 : Yields e (end_step Whole (row Whole e.state (Heard (Dm true) Answer) (begin e)))
      released []
  dm_in_6 =
      subst (λ st. Yields e
      (end_step Whole (row Whole st (Heard (Dm true) Answer) (begin e))) released []) (sym is)
      dm_yields

  -- T200 expires: the DISC is retransmitted, or the end gives up
  abbrev pub retried : End
  retried = record e { rc = e.rc + 1; t200 = true }

  retry_yields : e.t200 ≡ true → nat_lt e.rc e.parameters.n200 ≡ true
      → Yields e (end_step Whole (row Whole AwaitingRelease (Expiry T200) (begin e))) retried
      (without_info Command (Disc true) ∷ [])
  unfolding each_change each_row story_after
  retry_yields on tries =
      by_test (λ (t : StepState). Yields e
      (end_step Whole t) retried (without_info Command (Disc true) ∷ [])) e.t200 _ _
      (λ _. by_test (λ (t : StepState). Yields e
      (end_step Whole t) retried (without_info Command (Disc true) ∷ []))
      (nat_lt e.rc e.parameters.n200) _ _
      (λ _. let s : StepState =
      record { end = retried; outs = Send Command (Disc true) ∷ Start T200 ∷ [] } in
      subst (λ (t : StepState). Yields e t retried (without_info Command (Disc true) ∷ []))
      (sym (closes_nothing s (ap is_7_or_8 is)))
      (record { end = refl; line = λ octets place v same. refl }))
      (λ none. cc)) (λ off. cc)

  pub retry_in_6 : e.t200 ≡ true → nat_lt e.rc e.parameters.n200 ≡ true
      → Yields e (end_step Whole (row Whole e.state (Expiry T200) (begin e))) retried
      (without_info Command (Disc true) ∷ [])
  retry_in_6 on tries =
      subst (λ st. Yields e
      (end_step Whole (row Whole st (Expiry T200) (begin e))) retried
      (without_info Command (Disc true) ∷ [])) (sym is) (retry_yields on tries)

  give_up_yields : e.t200 ≡ true → nat_lt e.rc e.parameters.n200 ≡ false
      → Yields e (end_step Whole (row Whole AwaitingRelease (Expiry T200) (begin e))) released []
  unfolding each_change each_row story_after
  give_up_yields on last =
      by_test (λ (t : StepState). Yields e (end_step Whole t) released []) e.t200 _ _
      (λ _. by_test (λ (t : StepState). Yields e (end_step Whole t) released [])
      (nat_lt e.rc e.parameters.n200) _ _
      (λ some. cc)
      (λ _. let s : StepState =
      record { end = released; outs = Report letter.H ∷ ReleaseConfirm ∷ [] } in
      subst (λ (t : StepState). Yields e t released []) (sym (closes_nothing s refl))
      (record { end = refl; line = λ octets place v same. sym (append-nil v.outgoing) })))
      (λ off. cc)

  pub give_up_in_6 : e.t200 ≡ true → nat_lt e.rc e.parameters.n200 ≡ false
      → Yields e (end_step Whole (row Whole e.state (Expiry T200) (begin e))) released []
  give_up_in_6 on last =
      subst (λ st. Yields e (end_step Whole (row Whole st (Expiry T200) (begin e))) released [])
      (sym is) (give_up_yields on last)
