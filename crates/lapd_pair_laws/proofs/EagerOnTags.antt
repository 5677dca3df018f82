-- An eager run on tags equals the one on whole numbers with each number replaced by its tag.
use Rattle.std.proofs.Common.{◌≡◌, ◌≤◌, ◌==◌, ◌&&◌, ℕ, if◌then◌else◌, Bool, true, false, List, [], ◌∷◌, map, Result, refl, arith}
use Rattle.lapd_timers.specs.declared.timer.Timer.TheVariants.{T200}
use Rattle.lapd_frame.specs.declared.Role.{Role}
use Rattle.lapd_frame.specs.declared.Role.TheVariants.{Command, Answer}
use Rattle.lapd_frame.specs.declared.Control.{Control}
use Rattle.lapd_frame.specs.declared.Control.TheVariants.{Rr, Rnr, Rej, Sabme, Dm, Disc, Ua}
use Rattle.lapd_frame.specs.declared.Side.{Side}
use Rattle.lapd_frame.specs.declared.Side.TheVariants as side
use Rattle.lapd_mod128.specs.Counting.{Whole, Tagged}
use Rattle.lapd_supervision.specs.Tags.{tag_control}
use Rattle.lapd_link_definition.specs.declared.state.State.{State}
use Rattle.lapd_link_definition.specs.declared.state.State.TheVariants.{TeiAssigned, AwaitingEstablishment, AwaitingRelease, MultipleFrameEstablished, TimerRecovery}
use Rattle.lapd_link_definition.specs.Input.{Expiry}
use Rattle.lapd_link_definition.specs.Sound.{IsSound}
use Rattle.lapd_pair_laws.specs.Line.{Flight}
use Rattle.lapd_pair_laws.specs.Move.{PairEvent, Expire200, Move, View, ViewStep, Refusal, acts}
use Rattle.lapd_pair_laws.specs.Tagged.{tag_flight, tag_world, tag_outcome, IsNearEvent}
use Rattle.lapd_pair_laws.specs.World.{World, view_of, world_after}
use Rattle.lapd_pair_laws.proofs.TaggedMoves.{tag_view, tag_acted, takes_on_tags, acts_on_tags, view_of_on_tags, in_world_on_tags, after_on_tags, first_near, event_is_near}
use Rattle.lapd_pair_laws.specs.Kinds.{Kind, kind, kind_of, kinds, tally, ask_of, answer_of, poll_of, final_of}
use Rattle.lapd_pair_laws.specs.Invariant.{IsInvariant}
use Rattle.lapd_pair_laws.specs.Eager.{awaited, awaited_in, expires_eagerly, acts_eagerly, happens_eagerly, run_eagerly, outcomes_eagerly}
use Rattle.lapd_pair_laws.proofs.Eager.{small_by_invariant, sound_by_invariant, eager_move_preserves}
use Rattle.lapd_pair_laws.proofs.Nearness.{within_by_invariant}

-- ---- Awaited frames.

-- both count alike as requests, answers, polls and finals
abbrev IsCountedAs : Kind → Kind → Type 0
IsCountedAs k l =
    (ask_of k ≡ ask_of l) × (answer_of k ≡ answer_of l) × (poll_of k ≡ poll_of l)
    × (final_of k ≡ final_of l)

counted_alike : (role : Role) (control : Control) (info : List ℕ) (place : ℕ)
    → IsCountedAs (kind_of role (tag_control control) info place) (kind_of role control info place)
unfolding tag_control
counted_alike Command (Rr nr true) info place = (refl, refl, refl, refl)
counted_alike Command (Rnr nr true) info place = (refl, refl, refl, refl)
counted_alike Command (Sabme true) info place = (refl, refl, refl, refl)
counted_alike Command (Disc true) info place = (refl, refl, refl, refl)
counted_alike Answer (Rr nr true) info place = (refl, refl, refl, refl)
counted_alike Answer (Rnr nr true) info place = (refl, refl, refl, refl)
counted_alike Answer (Rej nr true) info place = (refl, refl, refl, refl)
counted_alike Answer (Ua true) info place = (refl, refl, refl, refl)
counted_alike Answer (Dm true) info place = (refl, refl, refl, refl)
counted_alike role control info place = (refl, refl, refl, refl)

alike : (frame : Flight) → IsCountedAs (kind (tag_flight frame)) (kind frame)
alike frame = counted_alike frame.role frame.control frame.info frame.place

tally_alike : (f : Kind → ℕ) → ((frame : Flight) → f (kind (tag_flight frame)) ≡ f (kind frame))
    → (frames : List Flight) → tally f (kinds (map tag_flight frames)) ≡ tally f (kinds frames)
tally_alike f same [] = refl
tally_alike f same (frame ∷ frames) = omega (arith, same frame, tally_alike f same frames)

pub awaited_alike : (state : State) (out back : List Flight)
    → awaited state (kinds (map tag_flight out)) (kinds (map tag_flight back))
    ≡ awaited state (kinds out) (kinds back)
awaited_alike TeiAssigned out back = refl
awaited_alike AwaitingEstablishment out back =
    omega (
      arith,
      tally_alike ask_of (λ frame. (alike frame).0) out,
      tally_alike answer_of (λ frame. (alike frame).1) back,
    )
awaited_alike AwaitingRelease out back =
    omega (
      arith,
      tally_alike ask_of (λ frame. (alike frame).0) out,
      tally_alike answer_of (λ frame. (alike frame).1) back,
    )
awaited_alike MultipleFrameEstablished out back = refl
awaited_alike TimerRecovery out back =
    omega (
      arith,
      tally_alike poll_of (λ frame. (alike frame).2) out,
      tally_alike final_of (λ frame. (alike frame).3) back,
    )

awaited_on_tags : (v : View) → awaited_in (tag_view v) ≡ awaited_in v
awaited_on_tags v = awaited_alike v.station.end.state v.outgoing v.incoming

-- ---- The moves of a side.

either_on_tags : (test : Bool) (x y : Result ViewStep Refusal) (u v : Result ViewStep Refusal)
    → x ≡ tag_acted u → y ≡ tag_acted v
    → (if test then x else y) ≡ tag_acted (if test then u else v)
either_on_tags true x y u v one other = one
either_on_tags false x y u v one other = other

module _ (who : Side) (v : View) (small : v.station.end.parameters.k ≤ 127)
    (sound : IsSound Whole v.station.end) where
  expires_on_tags : expires_eagerly Tagged who (tag_view v)
      ≡ tag_acted (expires_eagerly Whole who v)
  unfolding expires_eagerly acts
  expires_on_tags =
      rw (awaited_on_tags v) (either_on_tags (v.station.end.t200 && (awaited_in v == 0)) _ _ _ _
      (takes_on_tags who v small sound (Expiry T200) [] tt)
      (acts_on_tags who v small sound Expire200 tt))

  eager_acts_on_tags : (event : PairEvent) → IsNearEvent event v
      → acts_eagerly Tagged who event (tag_view v) ≡ tag_acted (acts_eagerly Whole who event v)
  eager_acts_on_tags Expire200 near = expires_on_tags
  eager_acts_on_tags event near = acts_on_tags who v small sound event near

-- ---- A move, and a run.

each_event_is_near : (who : Side) (event : PairEvent) (w : World) → IsInvariant w
    → IsNearEvent event (view_of who w)
each_event_is_near side.User event w i =
    event_is_near event (view_of side.User w)
    (first_near w.network.end.parameters.k w.to_user w.user.end i.network_window i.user_sound
    (within_by_invariant w i).to_user)
each_event_is_near side.Network event w i =
    event_is_near event (view_of side.Network w)
    (first_near w.user.end.parameters.k w.to_network w.network.end i.user_window i.network_sound
    (within_by_invariant w i).to_network)

eager_move_on_tags : (move : Move) (w : World) → IsInvariant w
    → happens_eagerly Tagged move (tag_world w) ≡ tag_outcome (happens_eagerly Whole move w)
unfolding happens_eagerly
eager_move_on_tags move w i =
    let v = view_of move.side w in
    rw (
      view_of_on_tags move.side w,
      eager_acts_on_tags move.side v (small_by_invariant move.side w i)
          (sound_by_invariant move.side w i) move.event
          (each_event_is_near move.side move.event w i),
    )
    (in_world_on_tags move.side w (acts_eagerly Whole move.side move.event v))

pub eager_run_on_tags : (moves : List Move) (w : World) → IsInvariant w
    → run_eagerly Tagged moves (tag_world w) ≡ tag_world (run_eagerly Whole moves w)
eager_run_on_tags [] w i = refl
eager_run_on_tags (move ∷ moves) w i =
    rw (eager_move_on_tags move w i, after_on_tags w (happens_eagerly Whole move w))
    (eager_run_on_tags moves (world_after w (happens_eagerly Whole move w))
    (eager_move_preserves move w i))

pub eager_outcomes_on_tags : (moves : List Move) (w : World) → IsInvariant w
    → outcomes_eagerly Tagged moves (tag_world w) ≡ map tag_outcome (outcomes_eagerly Whole moves w)
eager_outcomes_on_tags [] w i = refl
eager_outcomes_on_tags (move ∷ moves) w i =
    rw (
      eager_move_on_tags move w i,
      after_on_tags w (happens_eagerly Whole move w),
      eager_outcomes_on_tags moves (world_after w (happens_eagerly Whole move w))
          (eager_move_preserves move w i),
    ) refl
