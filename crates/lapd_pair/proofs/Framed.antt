-- Each output of a move that sends a frame has a valid frame.
use Rattle.std.proofs.Common.{◌≡◌, ℕ, nat_lt, if◌then◌else◌, Bool, true, false, List, [], ◌∷◌, drop, length, Option, Some, None, Result, Ok, Err, refl, subst}
use Rattle.std.proofs.lemmas.List.Elements.{All-nil}
use Rattle.lapd_frame.specs.declared.Side.{Side}
use Rattle.lapd_frame.specs.declared.Side.TheVariants as side
use Rattle.lapd_link.specs.Link.{Setup}
use Rattle.lapd_link.specs.SentFrame.{made_frame, sent_frame, HaveFrames, AllowsFrames}
use Rattle.lapd_link.proofs.Frames.{frames_of_step}
use Rattle.lapd_mod128.specs.Counting.{Tagged}
use Rattle.lapd_link_definition.specs.declared.event.LinkFault.{LinkFault}
use Rattle.lapd_link_definition.specs.declared.out.Out.{Out}
use Rattle.lapd_link_definition.specs.End.{StepState}
use Rattle.lapd_link_definition.specs.Input as input
use Rattle.lapd_link_definition.specs.Input.{Input}
use Rattle.lapd_link_definition.specs.Table.{step}
use Rattle.lapd_timers.specs.declared.timer.Timer.TheVariants.{T200, T203}
use Rattle.lapd_pair_laws.specs.Consistent.{IsConsistent, IsConsistentWorld}
use Rattle.lapd_pair_laws.specs.Line.{Flight, first_poll, first_final, without_lost}
use Rattle.lapd_pair_laws.specs.Move.{PairEvent, Give, Establish, Release, Deliver, Lose, Expire200, Expire203, Busy, UnitData, Restart, Move, Refusal, View, ViewStep, view_after, stepped, receives, takes, quietly, delivers, loses, unless_under_way, expires_200, expires_203, restarts, busy_input, acts}
use Rattle.lapd_pair_laws.specs.World.{World, Happened, view_of, with_view, in_world, happens}
use Rattle.lapd_pair.specs.Setup.{setup_for}

-- ---- A step.

-- the outputs of an action have their frames, by the end after it
abbrev HasFrames : Setup → ViewStep → Type 0
HasFrames setup acted =
    HaveFrames setup (drop acted.view.station.end.first acted.view.station.end.given) acted.outs

abbrev Acts : ViewStep → Result ViewStep Refusal
Acts acted = Ok acted

same_acted : (a b : ViewStep) → Acts a ≡ Acts b → a ≡ b
same_acted a b h = cc

stepped_framed : (setup : Setup) (input : Input) (octets : List ℕ) (place : ℕ) (v : View)
    (acted : ViewStep) (result : Result StepState LinkFault) → IsConsistent Tagged v.station
    → step Tagged input v.station.end ≡ result → stepped octets place v result ≡ Ok acted
    → HasFrames setup acted
unfolding view_after
stepped_framed setup input octets place v acted (Ok s) preserved done is =
    let preserves : AllowsFrames v.station.end =
    record {
      few = preserved.window;
      sound = preserved.sound;
      numbers = preserved.numbers;
      short = preserved.short;
    } in
    subst (HasFrames setup)
    (same_acted (record { view = view_after octets place v s; outs = s.outs }) acted is)
    (frames_of_step setup input v.station.end s preserves done)
stepped_framed setup input octets place v acted (Err fault) preserved done is = cc

-- ---- The moves.

takes_framed : (setup : Setup) (input : Input) (octets : List ℕ) (v : View) (acted : ViewStep)
    → IsConsistent Tagged v.station → takes Tagged input octets v ≡ Ok acted → HasFrames setup acted
unfolding takes
takes_framed setup input octets v acted preserved is =
    stepped_framed setup input octets 0 v acted (step Tagged input v.station.end) preserved refl is

delivers_framed : (setup : Setup) (frames : List Flight) (v : View) (acted : ViewStep)
    → IsConsistent Tagged v.station → delivers Tagged frames v ≡ Ok acted → HasFrames setup acted
unfolding delivers receives
delivers_framed setup [] v acted preserved is = cc
delivers_framed setup (frame ∷ rest) v acted preserved is =
    stepped_framed setup (input.Heard frame.control frame.role) frame.info frame.place
    (record v { incoming = rest }) acted
    (step Tagged (input.Heard frame.control frame.role) v.station.end) preserved refl is

-- an action without outputs
quietly_framed : (setup : Setup) (now : View) (acted : ViewStep) → quietly now ≡ Ok acted
    → HasFrames setup acted
quietly_framed setup now acted is =
    subst (HasFrames setup) (same_acted (record { view = now; outs = [] }) acted is)
    (λ input_octets fits. All-nil (λ (output : Out). made_frame setup
    (drop now.station.end.first now.station.end.given) input_octets output ≡ sent_frame
    setup (drop now.station.end.first now.station.end.given) input_octets output))

where_there : (setup : Setup) (there : Bool) (now : View) (other : Refusal) (acted : ViewStep)
    → (if there then quietly now else Err other) ≡ Ok acted → HasFrames setup acted
where_there setup true now other acted is = quietly_framed setup now acted is
where_there setup false now other acted is = cc

loses_framed : (setup : Setup) (at : ℕ) (v : View) (acted : ViewStep) → loses at v ≡ Ok acted
    → HasFrames setup acted
unfolding loses
loses_framed setup at v acted is =
    where_there setup (nat_lt at (length v.incoming))
    (record v { incoming = without_lost at v.incoming }) _ acted is

not_under_way : (who : Side) (poll final : Option ℕ) (outcome : Result ViewStep Refusal)
    (acted : ViewStep) → unless_under_way who poll final outcome ≡ Ok acted → outcome ≡ Ok acted
not_under_way who (Some at) final outcome acted is = cc
not_under_way who None (Some at) outcome acted is = cc
not_under_way who None None outcome acted is = is

where_runs : (running : Bool) (outcome : Result ViewStep Refusal) (other : Refusal)
    (acted : ViewStep) → (if running then outcome else Err other) ≡ Ok acted → outcome ≡ Ok acted
where_runs true outcome other acted is = is
where_runs false outcome other acted is = cc

expires_200_framed : (setup : Setup) (who : Side) (v : View) (acted : ViewStep)
    → IsConsistent Tagged v.station → expires_200 Tagged who v ≡ Ok acted → HasFrames setup acted
unfolding expires_200
expires_200_framed setup who v acted preserved is =
    takes_framed setup (input.Expiry T200) [] v acted preserved
    (not_under_way who (first_poll v.outgoing) (first_final v.incoming)
    (takes Tagged (input.Expiry T200) [] v) acted
    (where_runs v.station.end.t200 _ _ acted is))

expires_203_framed : (setup : Setup) (v : View) (acted : ViewStep) → IsConsistent Tagged v.station
    → expires_203 Tagged v ≡ Ok acted → HasFrames setup acted
unfolding expires_203
expires_203_framed setup v acted preserved is =
    takes_framed setup (input.Expiry T203) [] v acted preserved
    (where_runs v.station.end.t203 _ _ acted is)

acts_framed : (setup : Setup) (who : Side) (event : PairEvent) (v : View) (acted : ViewStep)
    → IsConsistent Tagged v.station → acts Tagged who event v ≡ Ok acted → HasFrames setup acted
unfolding acts
acts_framed setup who (Give message) v acted preserved is =
    takes_framed setup (input.Give message) [] v acted preserved is
acts_framed setup who Establish v acted preserved is =
    takes_framed setup input.Establish [] v acted preserved is
acts_framed setup who Release v acted preserved is =
    takes_framed setup input.Release [] v acted preserved is
acts_framed setup who Deliver v acted preserved is =
    delivers_framed setup v.incoming v acted preserved is
acts_framed setup who (Lose at) v acted preserved is = loses_framed setup at v acted is
acts_framed setup who Expire200 v acted preserved is =
    expires_200_framed setup who v acted preserved is
acts_framed setup who Expire203 v acted preserved is = expires_203_framed setup v acted preserved is
acts_framed setup who (Busy on) v acted preserved is =
    takes_framed setup (busy_input on) [] v acted preserved is
acts_framed setup who (UnitData octets) v acted preserved is =
    takes_framed setup (input.UnitData (length octets)) octets v acted preserved is
acts_framed setup who Restart v acted preserved is = quietly_framed setup (restarts v) acted is

-- ---- The world.

consistent_station : (who : Side) (w : World) → IsConsistentWorld Tagged w
    → IsConsistent Tagged (view_of who w).station
consistent_station side.User w preserved = preserved.user
consistent_station side.Network w preserved = preserved.network

-- the outputs have their frames, by the end of the side that made the move
abbrev Framed : Side → Happened → Type 0
Framed who happened =
    HaveFrames (setup_for who) (drop (view_of who happened.world).station.end.first
    (view_of who happened.world).station.end.given) happened.outs

seen_again : (who : Side) (w : World) (acted : ViewStep) → HasFrames (setup_for who) acted
    → Framed who (record { world = with_view who acted.view w; outs = acted.outs })
seen_again side.User w acted h = h
seen_again side.Network w acted h = h

abbrev Happens : Happened → Result Happened Refusal
Happens happened = Ok happened

same_happened : (a b : Happened) → Happens a ≡ Happens b → a ≡ b
same_happened a b h = cc

in_world_framed : (who : Side) (w : World) (outcome : Result ViewStep Refusal) (happened : Happened)
    → ((acted : ViewStep) → outcome ≡ Ok acted → HasFrames (setup_for who) acted)
    → in_world who w outcome ≡ Ok happened → Framed who happened
in_world_framed who w (Ok acted) happened has is =
    subst (Framed who) (same_happened
    (record { world = with_view who acted.view w; outs = acted.outs }) happened is)
    (seen_again who w acted (has acted refl))
in_world_framed who w (Err refusal) happened has is = cc

pub frames_of_move : (move : Move) (w : World) (happened : Happened) → IsConsistentWorld Tagged w
    → happens Tagged move w ≡ Ok happened
    → HaveFrames (setup_for move.side) (drop (view_of move.side happened.world).station.end.first
    (view_of move.side happened.world).station.end.given) happened.outs
unfolding happens
frames_of_move move w happened preserved is =
    in_world_framed move.side w (acts Tagged move.side move.event (view_of move.side w)) happened
    (λ acted done. acts_framed (setup_for move.side) move.side move.event (view_of move.side w)
    acted (consistent_station move.side w preserved) done) is
