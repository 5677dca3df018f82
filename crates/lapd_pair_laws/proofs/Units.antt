-- Unit data is sent and received in every state, and leaves the link unchanged.
use Rattle.std.proofs.Common.{◌≡◌, ◌⊎◌, inl, inr, ℕ, Bool, true, false, List, [], ◌∷◌, ◌++◌, length, refl, sym, subst, arith}
use Rattle.lapd_mod128.specs.Counting.{Whole}
use Rattle.lapd_link_definition.specs.declared.out.Out.TheVariants.{SendUnit}
use Rattle.lapd_link_definition.specs.EndOfStep.{is_7_or_8, end_step}
use Rattle.lapd_link_definition.specs.End.{StepState, begin}
use Rattle.lapd_link_definition.specs.Input as input
use Rattle.lapd_link_definition.specs.Procedures.{put}
use Rattle.lapd_link_definition.specs.Table.{row}
use Rattle.lapd_pair_laws.specs.Histories.{after_outputs, unit_frame}
use Rattle.lapd_pair_laws.specs.Move.{UnitData, acts, takes, story_after}
use Rattle.lapd_pair_laws.specs.Kinds.{Kind, Unnumbered, ask_of, answer_of}
use Rattle.lapd_pair_laws.specs.Kinds.{kinds}
use Rattle.lapd_pair_laws.specs.Parties.{Party}
use Rattle.lapd_pair_laws.specs.Invariant.{Both}
use Rattle.lapd_pair_laws.proofs.Closed.{quietly, unnumbered_is_quiet, same, closing}
use Rattle.lapd_pair_laws.proofs.ActionEffects.{Context, story, occasion, seen, line, HoldsMid, after_outputs_append, kinds_more}
use Rattle.lapd_pair_laws.proofs.Lists.{tally_more}
use Rattle.lapd_pair_laws.proofs.Losses.{receives_less}
use Rattle.lapd_pair_laws.proofs.MidSteps.{Mid, enter, leave}
use Rattle.lapd_pair_laws.proofs.Parts.{part_whole}
use Rattle.lapd_pair_laws.proofs.SupervisoryFrames.{saying_unit}
use Rattle.lapd_pair_laws.proofs.ClosedActions.{Seems, Ends, by_story, ends_closed}
use Rattle.lapd_pair_laws.proofs.Steps.{context, begun, ends_open, by_refusal}
use Rattle.lapd_pair_laws.proofs.Worlds.{Preserves}

-- ---- A step ends, whether the side is open or closed.

pub open_or_closed : (test : Bool) → (test ≡ true) ⊎ (test ≡ false)
open_or_closed true = inl refl
open_or_closed false = inr refl

mid_as_seen : (c : Context) (back : List Kind) (s : StepState) (p : Party) (l : List Kind)
    → Seems c s p l → Mid p c.peer l back → HoldsMid c back s
mid_as_seen c back s p l w m =
    subst (λ q. Mid q c.peer (line c s) back) (sym w.party)
    (subst (λ k. Mid p c.peer k back) (sym w.line) m)

pub ends_as_seen : (c : Context) (back : List Kind) (s : StepState) (p : Party) (l : List Kind)
    → Seems c s p l → Both p c.peer l back → Ends c back (end_step Whole s)
ends_as_seen c back s p l w b = elim (open_or_closed (is_7_or_8 p.state)) [
  | inl opened ↦ ends_open c back s (mid_as_seen c back s p l w (enter p c.peer l back opened b))
  | inr closed ↦ ends_closed c back s p l closed w b
]

-- ---- Unit data is sent.

-- a side that is closed
unit_from_closed : (x y : Party) (out back : List Kind) → is_7_or_8 x.state ≡ false
    → Both x y out back → Both x y (out ++ Unnumbered ∷ []) back
unit_from_closed x y out back closed b =
    let asks = tally_more ask_of Unnumbered out in
    let answers = tally_more answer_of Unnumbered out in
    closing x y out (out ++ Unnumbered ∷ []) back back x.state x.asked x.leaving x.sends.first
    x.sends.next x.sends.passed x.takes.rejecting closed (part_whole back)
    (quietly Unnumbered unnumbered_is_quiet)
    b.mine.preserved b.mine.passed (λ holds. holds) (same refl (receives_less x (part_whole back)))
    (omega (arith, asks, b.mine.exchange.one)) (omega (arith, answers, b.its.exchange.one))
    (λ answer. b.its.exchange.before (omega (arith, answer, answers))) b

pub unit_sent : (x y : Party) (out back : List Kind) → Both x y out back
    → Both x y (out ++ Unnumbered ∷ []) back
unit_sent x y out back b = elim (open_or_closed (is_7_or_8 x.state)) [
  | inl opened ↦ leave x y (out ++ Unnumbered ∷ []) back
      (saying_unit x y out back (enter x y out back opened b))
  | inr closed ↦ unit_from_closed x y out back closed b
]

seems_unit_sent : (c : Context) (s : StepState)
    → Seems c (put SendUnit s) (seen c s) (line c s ++ Unnumbered ∷ [])
unfolding story_after put
seems_unit_sent c s =
    by_story c (put SendUnit s) (after_outputs (occasion c s) (SendUnit ∷ []) (story c s))
    (seen c s) (line c s ++ Unnumbered ∷ []) (after_outputs_append _ s.outs (SendUnit ∷ []) _) refl
    (kinds_more (story c s).line (unit_frame c.octets))

pub ends_unit_sent : (c : Context) (ks : List Kind) (len : ℕ) (s : StepState)
    → Both (seen c s) c.peer (line c s) ks
    → Ends c ks (end_step Whole (row Whole s.end.state (input.UnitData len) s))
unfolding row
ends_unit_sent c ks len s b =
    ends_as_seen c ks (put SendUnit s) (seen c s) (line c s ++ Unnumbered ∷ [])
    (seems_unit_sent c s) (unit_sent (seen c s) c.peer (line c s) ks b)

-- the move, accepted or refused
pub preserves_unit_data : (octets : List ℕ) → Preserves (UnitData octets)
unfolding acts takes begin
preserves_unit_data octets v peer small h =
    let c = context h.base octets 0 v v.incoming peer h.its_base in
    by_refusal octets 0 v h.base h.its_base peer (input.UnitData (length octets)) h
    (λ _. ends_unit_sent c (kinds v.incoming) (length octets) (begin v.station.end)
    (begun c (kinds v.incoming) h.both))
