-- A move on tags has the same effect as on whole numbers if the numbers are near each other; and so
-- has a run of moves.
use Rattle.std.proofs.Common.{◌≡◌, ◌↔◌, ℕ, zero, suc, ◌+◌, ◌≤◌, nat_lt, if◌then◌else◌, Bool, true, false, List, [], ◌∷◌, map, length, Option, Some, None, Result, Ok, Err, refl, ap, ◌∙◌}
use Rattle.std.specs.List.{position, position_or_len, remove}
use Rattle.std.proofs.lemmas.List.{map-append, length-map}
use Rattle.lapd_timers.specs.declared.timer.Timer.TheVariants.{T200, T203}
use Rattle.lapd_frame.specs.declared.Side.{Side}
use Rattle.lapd_frame.specs.declared.Side.TheVariants as side
use Rattle.lapd_frame.specs.declared.Role.{Role}
use Rattle.lapd_frame.specs.declared.Control.{Control}
use Rattle.lapd_frame.specs.declared.Control.TheVariants.{I, Rr, Rnr, Rej, Sabme, Dm, Ui, Disc, Ua, Frmr, Xid}
use Rattle.lapd_mod128.specs.Counting.{Whole, Tagged}
use Rattle.lapd_supervision.specs.Tags.{tag_control}
use Rattle.lapd_supervision.proofs.Tagging.{initial_variables_on_tags}
use Rattle.lapd_link_definition.specs.declared.event.LinkFault.{LinkFault}
use Rattle.lapd_link_definition.specs.declared.out.Out.{Out}
use Rattle.lapd_link_definition.specs.declared.out.Out.TheVariants.{Send, SendMessage, SendUnit}
use Rattle.lapd_link_definition.specs.End.{End, StepState}
use Rattle.lapd_link_definition.specs.Input as input
use Rattle.lapd_link_definition.specs.Input.{Input}
use Rattle.lapd_link_definition.specs.Parameters.{Parameters}
use Rattle.lapd_link_definition.specs.Sound.{IsSound}
use Rattle.lapd_link_definition.specs.Table.{step}
use Rattle.lapd_link_definition.specs.Tagging.{tag_input, tag_out, tag_step_state, tag_result, IsReceivedNear}
use Rattle.lapd_link_definition.proofs.NearNumbers.{numbers_within_are_near}
use Rattle.lapd_link_definition.proofs.StepOnTags.{step_on_tags}
use Rattle.lapd_pair_laws.specs.Histories.{Occasion, Story, after_output, after_outputs, message_frame, unit_frame}
use Rattle.lapd_pair_laws.specs.Consistent.{IsConsistentWorld}
use Rattle.lapd_pair_laws.specs.Line.{Flight, without_info, is_poll, is_final, first_poll, first_final}
use Rattle.lapd_pair_laws.specs.Move.{PairEvent, Give, Establish, Release, Deliver, Lose, Expire200, Expire203, Busy, UnitData, Restart, Move, Refusal, NotRunning, View, ViewStep, story_after, view_after, stepped, receives, takes, delivers, loses, unless_under_way, expires_200, expires_203, restarts, busy_input, acts}
use Rattle.lapd_pair_laws.specs.Safe.{AreSafe}
use Rattle.lapd_pair_laws.specs.Tagged.{tag_flight, tag_station, tag_world, tag_outcome, IsFirstNear, IsNearEvent, IsNearMove, AreNearMoves, IsFirstWithin, AreFirstWithin}
use Rattle.lapd_pair_laws.specs.World.{World, view_of, Happened, in_world, happens, world_after, run, outcomes, left, new_world}
use Rattle.lapd_pair_laws.proofs.Consistency.{run_consistent}

-- ---- The line.

abbrev AsksAlike : Flight → Type 0
AsksAlike frame =
    (is_poll (tag_flight frame) ≡ is_poll frame) × (is_final (tag_flight frame) ≡ is_final frame)

-- tagging does not change P and F
asks_alike : (role : Role) (control : Control) (info : List ℕ) (place : ℕ)
    → AsksAlike (record { role = role; control = control; info = info; place = place })
unfolding tag_control
asks_alike role (I ns nr p) info place = (refl, refl)
asks_alike role (Rr nr pf) info place = (refl, refl)
asks_alike role (Rnr nr pf) info place = (refl, refl)
asks_alike role (Rej nr pf) info place = (refl, refl)
asks_alike role (Sabme p) info place = (refl, refl)
asks_alike role (Dm f) info place = (refl, refl)
asks_alike role (Ui p) info place = (refl, refl)
asks_alike role (Disc p) info place = (refl, refl)
asks_alike role (Ua f) info place = (refl, refl)
asks_alike role (Frmr f) info place = (refl, refl)
asks_alike role (Xid pf) info place = (refl, refl)

first_alike : (test : Flight → Bool) → ((frame : Flight) → test (tag_flight frame) ≡ test frame)
    → (frames : List Flight)
    → position_or_len test (map tag_flight frames) ≡ position_or_len test frames
first_alike test alike [] = refl
first_alike test alike (frame ∷ frames) = rw (alike frame, first_alike test alike frames) refl

position_alike : (test : Flight → Bool) → ((frame : Flight) → test (tag_flight frame) ≡ test frame)
    → (frames : List Flight) → position test (map tag_flight frames) ≡ position test frames
position_alike test alike frames =
    rw (first_alike test alike frames, length-map frames tag_flight) refl

first_poll_on_tags : (frames : List Flight) → first_poll (map tag_flight frames) ≡ first_poll frames
first_poll_on_tags frames =
    position_alike is_poll (λ frame. (asks_alike frame.role frame.control frame.info frame.place).0)
    frames

first_final_on_tags : (frames : List Flight)
    → first_final (map tag_flight frames) ≡ first_final frames
first_final_on_tags frames =
    position_alike is_final
    (λ frame. (asks_alike frame.role frame.control frame.info frame.place).1) frames

without_on_tags : (at : ℕ) (frames : List Flight)
    → remove (map tag_flight frames) at ≡ map tag_flight (remove frames at)
without_on_tags zero [] = refl
without_on_tags (suc at) [] = refl
without_on_tags zero (frame ∷ frames) = refl
without_on_tags (suc at) (frame ∷ frames) =
    ap (λ rest. tag_flight frame ∷ rest) (without_on_tags at frames)

-- ---- The recorded outputs.

abbrev tag_story : Story → Story
tag_story t = record { line = map tag_flight t.line; history = t.history }

after_output_on_tags : (o : Occasion) (out : Out) (t : Story)
    → after_output o (tag_out out) (tag_story t) ≡ tag_story (after_output o out t)
unfolding tag_control
after_output_on_tags o (Send role control) t =
    rw (map-append tag_flight t.line (without_info role control ∷ [])) refl
after_output_on_tags o (SendMessage n control) t =
    rw (map-append tag_flight t.line (message_frame o control (t.history.passed + n) ∷ [])) refl
after_output_on_tags o SendUnit t =
    rw (map-append tag_flight t.line (unit_frame o.octets ∷ [])) refl
after_output_on_tags o out t = refl

after_outputs_on_tags : (o : Occasion) (outs : List Out) (t : Story)
    → after_outputs o (map tag_out outs) (tag_story t) ≡ tag_story (after_outputs o outs t)
after_outputs_on_tags o [] t = refl
after_outputs_on_tags o (out ∷ outs) t =
    ap (λ now. after_outputs o (map tag_out outs) now) (after_output_on_tags o out t)
    ∙ after_outputs_on_tags o outs (after_output o out t)

-- ---- A step of a side.

abbrev pub tag_view : View → View
tag_view v = record {
  station = tag_station v.station;
  incoming = map tag_flight v.incoming;
  outgoing = map tag_flight v.outgoing;
}

abbrev pub tag_acted : Result ViewStep Refusal → Result ViewStep Refusal
tag_acted (Ok acted) = Ok (record { view = tag_view acted.view; outs = map tag_out acted.outs })
tag_acted (Err refusal) = Err refusal

story_after_on_tags : (octets : List ℕ) (place : ℕ) (v : View) (s : StepState)
    → story_after octets place (tag_view v) (tag_step_state s)
    ≡ tag_story (story_after octets place v s)
unfolding story_after tag_step_state
story_after_on_tags octets place v s = after_outputs_on_tags _ s.outs _

view_after_on_tags : (octets : List ℕ) (place : ℕ) (v : View) (s : StepState)
    → view_after octets place (tag_view v) (tag_step_state s)
    ≡ tag_view (view_after octets place v s)
unfolding view_after tag_step_state
view_after_on_tags octets place v s = rw (story_after_on_tags octets place v s) refl

stepped_on_tags : (octets : List ℕ) (place : ℕ) (v : View) (result : Result StepState LinkFault)
    → stepped octets place (tag_view v) (tag_result result)
    ≡ tag_acted (stepped octets place v result)
unfolding tag_step_state
stepped_on_tags octets place v (Ok s) = rw (view_after_on_tags octets place v s) refl
stepped_on_tags octets place v (Err fault) = refl

-- ---- The moves of a side.

module _ (who : Side) (v : View) (small : v.station.end.parameters.k ≤ 127)
    (sound : IsSound Whole v.station.end) where
  receives_on_tags : (frame : Flight) (rest : List Flight)
      → IsFirstNear (frame ∷ rest) v.station.end
      → receives Tagged (tag_flight frame) (tag_view (record v { incoming = rest }))
      ≡ tag_acted (receives Whole frame (record v { incoming = rest }))
  unfolding receives
  receives_on_tags frame rest near =
      let same =
      step_on_tags (input.Heard frame.control frame.role) v.station.end
      (record { window = small; sound = sound; reception = near }) in
      rw same (stepped_on_tags frame.info frame.place (record v { incoming = rest })
      (step Whole (input.Heard frame.control frame.role) v.station.end))

  delivers_on_tags : (frames : List Flight) → IsFirstNear frames v.station.end
      → delivers Tagged (map tag_flight frames) (tag_view v) ≡ tag_acted (delivers Whole frames v)
  unfolding delivers
  delivers_on_tags [] near = refl
  delivers_on_tags (frame ∷ rest) near = receives_on_tags frame rest near

  -- a request or an expired timer
  pub takes_on_tags : (what : Input) (octets : List ℕ) → IsReceivedNear what v.station.end.window
      → takes Tagged (tag_input what) octets (tag_view v) ≡ tag_acted (takes Whole what octets v)
  unfolding takes
  takes_on_tags what octets near =
      rw (step_on_tags what v.station.end
      (record { window = small; sound = sound; reception = λ _. near }))
      (stepped_on_tags octets 0 v (step Whole what v.station.end))

  busy_on_tags : (on : Bool)
      → takes Tagged (busy_input on) [] (tag_view v) ≡ tag_acted (takes Whole (busy_input on) [] v)
  busy_on_tags true = takes_on_tags input.BusyOn [] tt
  busy_on_tags false = takes_on_tags input.BusyOff [] tt

  where_there : (there : Bool) (x y : Result ViewStep Refusal) → x ≡ tag_acted y → (other : Refusal)
      → (if there then x else Err other) ≡ tag_acted (if there then y else Err other)
  where_there true x y same other = same
  where_there false x y same other = refl

  loses_on_tags : (at : ℕ) → loses at (tag_view v) ≡ tag_acted (loses at v)
  unfolding loses
  loses_on_tags at =
      rw (length-map v.incoming tag_flight, without_on_tags at v.incoming)
      (where_there (nat_lt at (length v.incoming)) _ _ refl _)

  under_way_on_tags : (poll final : Option ℕ) (x y : Result ViewStep Refusal) → x ≡ tag_acted y
      → unless_under_way who poll final x ≡ tag_acted (unless_under_way who poll final y)
  under_way_on_tags (Some at) final x y same = refl
  under_way_on_tags None (Some at) x y same = refl
  under_way_on_tags None None x y same = same

  expires_200_on_tags : expires_200 Tagged who (tag_view v) ≡ tag_acted (expires_200 Whole who v)
  unfolding expires_200
  expires_200_on_tags = rw (first_poll_on_tags v.outgoing, first_final_on_tags v.incoming)
      (where_there v.station.end.t200 _ _
      (under_way_on_tags (first_poll v.outgoing) (first_final v.incoming) _ _
      (takes_on_tags (input.Expiry T200) [] tt)) NotRunning)

  expires_203_on_tags : expires_203 Tagged (tag_view v) ≡ tag_acted (expires_203 Whole v)
  unfolding expires_203
  expires_203_on_tags =
      where_there v.station.end.t203 _ _ (takes_on_tags (input.Expiry T203) [] tt) NotRunning

  restarts_on_tags : restarts (tag_view v) ≡ tag_view (restarts v)
  unfolding restarts
  restarts_on_tags = rw (initial_variables_on_tags) refl

  pub acts_on_tags : (event : PairEvent) → IsNearEvent event v
      → acts Tagged who event (tag_view v) ≡ tag_acted (acts Whole who event v)
  unfolding acts
  acts_on_tags (Give message) near = takes_on_tags (input.Give message) [] tt
  acts_on_tags Establish near = takes_on_tags input.Establish [] tt
  acts_on_tags Release near = takes_on_tags input.Release [] tt
  acts_on_tags Deliver near = delivers_on_tags v.incoming near
  acts_on_tags (Lose at) near = loses_on_tags at
  acts_on_tags Expire200 near = expires_200_on_tags
  acts_on_tags Expire203 near = expires_203_on_tags
  acts_on_tags (Busy on) near = busy_on_tags on
  acts_on_tags (UnitData octets) near = takes_on_tags (input.UnitData (length octets)) octets tt
  acts_on_tags Restart near = rw (restarts_on_tags) refl

-- ---- The world.

pub view_of_on_tags : (who : Side) (w : World)
    → view_of who (tag_world w) ≡ tag_view (view_of who w)
view_of_on_tags side.User w = refl
view_of_on_tags side.Network w = refl

pub in_world_on_tags : (who : Side) (w : World) (outcome : Result ViewStep Refusal)
    → in_world who (tag_world w) (tag_acted outcome) ≡ tag_outcome (in_world who w outcome)
in_world_on_tags side.User w (Ok acted) = refl
in_world_on_tags side.Network w (Ok acted) = refl
in_world_on_tags who w (Err refusal) = refl

small_of : (who : Side) (w : World) → IsConsistentWorld Whole w
    → (view_of who w).station.end.parameters.k ≤ 127
small_of side.User w preserved = preserved.user.window
small_of side.Network w preserved = preserved.network.window

sound_of : (who : Side) (w : World) → IsConsistentWorld Whole w
    → IsSound Whole (view_of who w).station.end
sound_of side.User w preserved = preserved.user.sound
sound_of side.Network w preserved = preserved.network.sound

pub move_on_tags : (move : Move) (w : World) → IsConsistentWorld Whole w → IsNearMove move w
    → happens Tagged move (tag_world w) ≡ tag_outcome (happens Whole move w)
unfolding happens
move_on_tags move w preserved near =
    let v = view_of move.side w in
    rw (
      view_of_on_tags move.side w,
      acts_on_tags move.side v (small_of move.side w preserved)
          (sound_of move.side w preserved) move.event near,
    )
    (in_world_on_tags move.side w (acts Whole move.side move.event v))

-- ---- A run of moves.

pub after_on_tags : (w : World) (outcome : Result Happened Refusal)
    → world_after (tag_world w) (tag_outcome outcome) ≡ tag_world (world_after w outcome)
after_on_tags w (Ok happened) = refl
after_on_tags w (Err refusal) = refl

pub run_on_tags : (moves : List Move) (w : World) → IsConsistentWorld Whole w → AreNearMoves moves w
    → run Tagged moves (tag_world w) ≡ tag_world (run Whole moves w)
run_on_tags [] w preserved near = refl
run_on_tags (move ∷ moves) w preserved near =
    rw (move_on_tags move w preserved near.0, after_on_tags w (happens Whole move w))
    (run_on_tags moves (world_after w (happens Whole move w))
    (run_consistent Whole (move ∷ []) w preserved) near.1)

pub outcomes_on_tags : (moves : List Move) (w : World) → IsConsistentWorld Whole w
    → AreNearMoves moves w
    → outcomes Tagged moves (tag_world w) ≡ map tag_outcome (outcomes Whole moves w)
outcomes_on_tags [] w preserved near = refl
outcomes_on_tags (move ∷ moves) w preserved near =
    rw (
      move_on_tags move w preserved near.0,
      after_on_tags w (happens Whole move w),
      outcomes_on_tags moves (world_after w (happens Whole move w))
          (run_consistent Whole (move ∷ []) w preserved) near.1,
    ) refl

-- ---- When moves are near.

pub first_near : (k : ℕ) (frames : List Flight) (e : End) → k ≤ 127 → IsSound Whole e
    → IsFirstWithin k frames e → IsFirstNear frames e
first_near k [] e small sound within = tt
first_near k (frame ∷ rest) e small sound within =
    λ is. numbers_within_are_near k frame.control e small sound is (within is)

incoming_near : (who : Side) (w : World) → IsConsistentWorld Whole w → AreFirstWithin w
    → IsFirstNear (view_of who w).incoming (view_of who w).station.end
incoming_near side.User w preserved within =
    first_near w.network.end.parameters.k w.to_user w.user.end preserved.network.window
    preserved.user.sound within.to_user
incoming_near side.Network w preserved within =
    first_near w.user.end.parameters.k w.to_network w.network.end preserved.user.window
    preserved.network.sound within.to_network

pub event_is_near : (event : PairEvent) (v : View) → IsFirstNear v.incoming v.station.end
    → IsNearEvent event v
event_is_near Deliver v near = near
event_is_near event v near = tt

pub move_near : (move : Move) (w : World) → IsConsistentWorld Whole w → AreFirstWithin w
    → IsNearMove move w
move_near move w preserved within =
    event_is_near move.event (view_of move.side w) (incoming_near move.side w preserved within)

-- ---- The histories.

pub safe_on_tags : (w : World) → AreSafe (tag_world w) ↔ AreSafe w
safe_on_tags w = (λ safe. safe, λ safe. safe)

pub left_on_tags : (w : World) → left (tag_world w) ≡ left w
left_on_tags w = refl

pub new_world_on_tags : (user network : Parameters)
    → tag_world (new_world user network) ≡ new_world user network
new_world_on_tags user network = rw (initial_variables_on_tags) refl
