-- The result of a move, with the frames in transit to its side.
use Rattle.std.proofs.Common.{◌≡◌, ◌≤◌, ℕ, Bool, true, false, if◌then◌else◌, List, [], ◌∷◌, length, Some, None, Vec, nat_lt, Result, Ok, Err, IfOk, IfErr, OnErr, refl, sym, ap, ◌∙◌, subst}
use Rattle.std.specs.declared.alloc.Global.{Global}
use Rattle.arrayvec.specs.ArrayVec.{ArrayVec}
use Rattle.lapd_timers.specs.declared.timer.Timer.TheVariants.{T200, T203}
use Rattle.lapd_frame.specs.declared.Side.{Side}
use Rattle.lapd_frame.specs.declared.FrameFault.{FrameFault}
use Rattle.lapd_frame.specs.Address.{other_side}
use Rattle.lapd_frame.specs.Frame.{Fields, IsFrame, n201, spelling}
use Rattle.lapd_link.specs.Link.{Setup}
use Rattle.lapd_mod128.specs.Counting.{Tagged}
use Rattle.lapd_link_definition.specs.declared.event.LinkFault.{LinkFault}
use Rattle.lapd_link_definition.specs.declared.out.Out.{Out}
use Rattle.lapd_link_definition.specs.End.{StepState}
use Rattle.lapd_link_definition.specs.Input as input
use Rattle.lapd_link_definition.specs.Input.{Input, Expiry}
use Rattle.lapd_link_definition.specs.Table.{step}
use Rattle.lapd_pair_laws.specs.Consistent.{IsConsistent}
use Rattle.lapd_pair_laws.specs.Line.{Flight, without_lost, first_poll, first_final}
use Rattle.lapd_pair_laws.specs.Move as world
use Rattle.lapd_pair_laws.specs.Move.{View, ViewStep, Refusal, Refused, NothingThere, NotRunning, NotYet, view_after, stepped, receives, takes, delivers, busy_input, quietly, loses, restarts, acts, expires_200, expires_203}
use Rattle.lapd_frame.proofs.Lengths.{content_is_short}
use Rattle.lapd_pair.specs.declared.line.Line.{Line}
use Rattle.lapd_pair.specs.declared.moves.Move.{Move}
use Rattle.lapd_pair.specs.declared.moves.Move.TheVariants as moves
use Rattle.lapd_pair.specs.declared.pair_fault.PairFault.{PairFault}
use Rattle.lapd_pair.specs.declared.recorded_link.RecordedLink.{RecordedLink}
use Rattle.lapd_pair.specs.Line.{fields_of, IsOn, IsFirst}
use Rattle.lapd_pair.specs.Moves.{move_of, IsRefusedAs}
use Rattle.lapd_pair.specs.Station.{IsStation, IsView, IsActed, IsDone, Acts, StationRefusesAs, ShowsStationAsBefore, ActsInView, RefusesInView, ShowsViewAsBefore}
use Rattle.lapd_pair.proofs.Lines.{first_is_read}

abbrev ViewMove : Type 0
ViewMove = Side → View → Result ViewStep Refusal

-- ---- A step removes no frame from the line.

abbrev Did : ViewStep → Result ViewStep Refusal
Did acted = Ok acted

same_acted : (a b : ViewStep) → Did a ≡ Did b → a ≡ b
same_acted a b h = cc

stepped_takes_none : (octets : List ℕ) (place : ℕ) (v : View) (result : Result StepState LinkFault)
    (acted : ViewStep) → stepped octets place v result ≡ Did acted
    → acted.view.incoming ≡ v.incoming
unfolding view_after
stepped_takes_none octets place v (Ok s) acted is =
    ap (λ (a : ViewStep). a.view.incoming)
    (sym (same_acted (record { view = view_after octets place v s; outs = s.outs }) acted is))
stepped_takes_none octets place v (Err fault) acted is = cc

-- the action leaves the frames in transit to the side unchanged
abbrev pub TakesNone : ViewMove → Type 0
TakesNone mv =
    (side : Side) (v : View) (acted : ViewStep) → mv side v ≡ Did acted
    → acted.view.incoming ≡ v.incoming

pub request_takes_none : (i : Input) (octets : List ℕ)
    → TakesNone (λ side v. takes Tagged i octets v)
unfolding takes
request_takes_none i octets side v acted is =
    stepped_takes_none octets 0 v (step Tagged i v.station.end) acted is

-- ---- From a side to its view.

pub acts_in_view : (mv : ViewMove) (old new : RecordedLink) (inward outward outward_new : Line)
    (r : Result (ArrayVec Out) PairFault) → TakesNone mv
    → IfOk r (Acts old outward new outward_new mv)
    → IfOk r (ActsInView old inward outward new inward outward_new mv)
acts_in_view mv old new inward outward outward_new (Err fault) none h = tt
acts_in_view mv old new inward outward outward_new (Ok outs) none h = λ side v preserved shown.
    let a = h side v preserved shown.station shown.outgoing in
    record {
      acted = a.acted;
      is = a.is;
      same = a.same;
      view = record {
        station = a.station;
        incoming =
            subst (IsOn (other_side side) inward) (sym (none side v a.acted a.is)) shown.incoming;
        outgoing = a.outgoing;
      };
    }

pub refuses_in_view : (mv : ViewMove) (old : RecordedLink) (inward outward : Line)
    (r : Result (ArrayVec Out) PairFault) → IfErr r (StationRefusesAs old mv)
    → IfErr r (RefusesInView old inward outward mv)
refuses_in_view mv old inward outward (Ok outs) h = tt
refuses_in_view mv old inward outward (Err fault) h = λ side v shown. h side v shown.station

pub shows_view : (old new : RecordedLink) (inward outward outward_new : Line)
    (r : Result (ArrayVec Out) PairFault)
    → OnErr r (ShowsStationAsBefore old outward new outward_new)
    → OnErr r (ShowsViewAsBefore old inward outward new inward outward_new)
shows_view old new inward outward outward_new (Ok outs) h = tt
shows_view old new inward outward outward_new (Err fault) h = λ side v shown.
    record {
      station = h.station side v.station shown.station;
      incoming = shown.incoming;
      outgoing = h.line side v.outgoing shown.outgoing;
    }

-- ---- The view after the side has searched the line.

-- the view is the same if each line still represents the same frames of its sender
pub seen_alike : (side own other : Side) (s : RecordedLink)
    (inward inward_seen outward outward_seen : Line) (v : View) → own ≡ side
    → other_side side ≡ other
    → (IsOn other inward v.incoming → IsOn other inward_seen v.incoming)
    → (IsOn own outward v.outgoing → IsOn own outward_seen v.outgoing)
    → IsView side s inward outward v → IsView side s inward_seen outward_seen v
seen_alike side own other s inward inward_seen outward outward_seen v mine theirs arrives goes
    shown = record {
      station = shown.station;
      incoming =
          subst (λ (x : Side). IsOn x inward_seen v.incoming) (sym theirs)
          (arrives (subst (λ (x : Side). IsOn x inward v.incoming) theirs shown.incoming));
      outgoing =
          subst (λ (x : Side). IsOn x outward_seen v.outgoing) mine
          (goes (subst (λ (x : Side). IsOn x outward v.outgoing) (sym mine) shown.outgoing));
    }

pub acts_as_seen : (mv : ViewMove) (old new : RecordedLink)
    (inward inward_seen inward_new outward outward_seen outward_new : Line)
    (r : Result (ArrayVec Out) PairFault)
    → ShowsViewAsBefore old inward outward old inward_seen outward_seen
    → IfOk r (ActsInView old inward_seen outward_seen new inward_new outward_new mv)
    → IfOk r (ActsInView old inward outward new inward_new outward_new mv)
acts_as_seen mv old new inward inward_seen inward_new outward outward_seen outward_new (Err fault)
    seen h =
    tt
acts_as_seen mv old new inward inward_seen inward_new outward outward_seen outward_new (Ok outs)
    seen h = λ side v preserved shown. h side v preserved (seen side v shown)

pub shows_as_seen : (old new : RecordedLink)
    (inward inward_seen inward_new outward outward_seen outward_new : Line)
    (r : Result (ArrayVec Out) PairFault)
    → ShowsViewAsBefore old inward outward old inward_seen outward_seen
    → OnErr r (ShowsViewAsBefore old inward_seen outward_seen new inward_new outward_new)
    → OnErr r (ShowsViewAsBefore old inward outward new inward_new outward_new)
shows_as_seen old new inward inward_seen inward_new outward outward_seen outward_new (Ok outs) seen
    h =
    tt
shows_as_seen old new inward inward_seen inward_new outward outward_seen outward_new (Err fault)
    seen h = λ side v shown. h side v (seen side v shown)

-- ---- An action that equals another for the states that the side represents.

pub acts_as : (these those : ViewMove) (old new : RecordedLink) (outward outward_new : Line)
    (r : Result (ArrayVec Out) PairFault)
    → ((side : Side) (v : View) → IsStation side old v.station → those side v ≡ these side v)
    → IfOk r (Acts old outward new outward_new these)
    → IfOk r (Acts old outward new outward_new those)
acts_as these those old new outward outward_new (Err fault) same h = tt
acts_as these those old new outward outward_new (Ok outs) same h =
    λ side v preserved shown on. subst
    (λ (x : Result ViewStep Refusal). IsActed side new outward_new x outs.items)
    (sym (same side v shown)) (h side v preserved shown on)

pub refuses_as : (these those : ViewMove) (old : RecordedLink) (r : Result (ArrayVec Out) PairFault)
    → ((side : Side) (v : View) → IsStation side old v.station → those side v ≡ these side v)
    → IfErr r (StationRefusesAs old these) → IfErr r (StationRefusesAs old those)
refuses_as these those old (Ok outs) same h = tt
refuses_as these those old (Err fault) same h =
    λ side v shown. subst (λ (x : Result ViewStep Refusal). IsRefusedAs fault x)
    (sym (same side v shown)) (h side v shown)

pub acts_as_in_view : (these those : ViewMove) (old new : RecordedLink)
    (inward outward inward_new outward_new : Line) (r : Result (ArrayVec Out) PairFault)
    → ((side : Side) (v : View) → IsView side old inward outward v → those side v ≡ these side v)
    → IfOk r (ActsInView old inward outward new inward_new outward_new these)
    → IfOk r (ActsInView old inward outward new inward_new outward_new those)
acts_as_in_view these those old new inward outward inward_new outward_new (Err fault) same h = tt
acts_as_in_view these those old new inward outward inward_new outward_new (Ok outs) same h =
    λ side v preserved shown. subst
    (λ (x : Result ViewStep Refusal). IsDone side new inward_new outward_new x outs.items)
    (sym (same side v shown)) (h side v preserved shown)

pub refuses_as_in_view : (these those : ViewMove) (old : RecordedLink) (inward outward : Line)
    (r : Result (ArrayVec Out) PairFault)
    → ((side : Side) (v : View) → IsView side old inward outward v → those side v ≡ these side v)
    → IfErr r (RefusesInView old inward outward these)
    → IfErr r (RefusesInView old inward outward those)
refuses_as_in_view these those old inward outward (Ok outs) same h = tt
refuses_as_in_view these those old inward outward (Err fault) same h =
    λ side v shown. subst (λ (x : Result ViewStep Refusal). IsRefusedAs fault x)
    (sym (same side v shown)) (h side v shown)

-- ---- Expiries.

abbrev pub Refuses : Refusal → Result ViewStep Refusal
Refuses refusal = Err refusal

pub stopped_203 : (v : View) → v.station.end.t203 ≡ false → expires_203 Tagged v ≡ Err NotRunning
unfolding expires_203
stopped_203 v h = rw h refl

pub runs_203 : (v : View) → v.station.end.t203 ≡ true
    → expires_203 Tagged v ≡ takes Tagged (Expiry T203) [] v
unfolding expires_203
runs_203 v h = rw h refl

pub stopped_200 : (side : Side) (v : View) → v.station.end.t200 ≡ false
    → expires_200 Tagged side v ≡ Err NotRunning
unfolding expires_200
stopped_200 side v h = rw h refl

pub polls_200 : (side : Side) (v : View) (at : ℕ) → v.station.end.t200 ≡ true
    → first_poll v.outgoing ≡ Some at
    → expires_200 Tagged side v ≡ Err (NotYet (other_side side) at)
unfolding expires_200
polls_200 side v at h poll = rw (h, poll) refl

pub finals_200 : (side : Side) (v : View) (at : ℕ) → v.station.end.t200 ≡ true
    → first_poll v.outgoing ≡ None → first_final v.incoming ≡ Some at
    → expires_200 Tagged side v ≡ Err (NotYet side at)
unfolding expires_200
finals_200 side v at h poll final = rw (h, poll, final) refl

pub runs_200 : (side : Side) (v : View) → v.station.end.t200 ≡ true → first_poll v.outgoing ≡ None
    → first_final v.incoming ≡ None → expires_200 Tagged side v ≡ takes Tagged (Expiry T200) [] v
unfolding expires_200
runs_200 side v h poll final = rw (h, poll, final) refl

-- the link's side is the side that it represents
pub side_shown : (side own : Side) (s : RecordedLink) (t : world.Station) → own ≡ s.link.side
    → IsStation side s t → own ≡ side
side_shown side own s t h shown = h ∙ ap (λ (setup : Setup). setup.side) shown.setup

-- ---- A delivery.

pub none_delivered : (v : View) → v.incoming ≡ [] → delivers Tagged v.incoming v ≡ Err NothingThere
unfolding delivers
none_delivered v h = rw h refl

-- the result of reading the first frame
abbrev pub Read : Fields → Result Fields FrameFault
Read f = Ok f

pub read_of : (from : Side) (octets : List ℕ) (frames : List Flight)
    (read : Result Fields FrameFault)
    → ((f : Fields) → IsFrame f → octets ≡ spelling from f → read ≡ Read f)
    → IsFirst from octets frames
    → (frame : Flight) × (rest : List Flight) × (frames ≡ frame ∷ rest)
    × (read ≡ Read (fields_of frame)) × (length frame.info ≤ n201)
read_of from octets [] read only first = absurd first
read_of from octets (frame ∷ rest) read only first = (
  frame,
  rest,
  refl,
  first_is_read from octets frame rest read only first,
  content_is_short frame.role frame.control (length frame.info) first.1.content,
)

pub unread : (from : Side) (octets : List ℕ) (frames : List Flight)
    (read : Result Fields FrameFault) (fault : FrameFault)
    → ((f : Fields) → IsFrame f → octets ≡ spelling from f → read ≡ Read f)
    → IsFirst from octets frames
    → read ≡ Err fault → ⊥
unread from octets frames read fault only first is =
    let there = read_of from octets frames read only first in let same = there.3 in cc

pub same_read : (f g : Fields) → Read f ≡ Read g → f ≡ g
same_read f g h = cc

frame_takes_none : (frame : Flight) → TakesNone (λ side v. receives Tagged frame v)
unfolding receives
frame_takes_none frame side v acted is =
    stepped_takes_none frame.info frame.place v
    (step Tagged (input.Heard frame.control frame.role) v.station.end) acted is

receives_first : (v : View) (frame : Flight) (rest : List Flight) → v.incoming ≡ frame ∷ rest
    → delivers Tagged v.incoming v ≡ receives Tagged frame (record v { incoming = rest })
unfolding delivers
receives_first v frame rest h = rw h refl

pub delivered : (side : Side) (v : View) (frame : Flight) (rest : List Flight)
    (old new : RecordedLink) (inward inward_new outward outward_new : Line) (outs : ArrayVec Out)
    → v.incoming ≡ frame ∷ rest → IsConsistent Tagged v.station → IsView side old inward outward v
    → Acts old outward new outward_new (λ side v. receives Tagged frame v) outs
    → ((from : Side) (frame : Flight) (rest : List Flight) → IsOn from inward (frame ∷ rest)
    → IsOn from inward_new rest)
    → IsDone side new inward_new outward_new (delivers Tagged v.incoming v) outs.items
delivered side v frame rest old new inward inward_new outward outward_new outs is preserved shown
    acts takes =
    let a = acts side (record v { incoming = rest }) preserved shown.station shown.outgoing in
    let left : IsOn (other_side side) inward_new rest =
    takes (other_side side) frame rest
    (subst (IsOn (other_side side) inward) is shown.incoming) in
    record {
      acted = a.acted;
      is = receives_first v frame rest is ∙ a.is;
      same = a.same;
      view = record {
        station = a.station;
        incoming =
            subst (IsOn (other_side side) inward_new)
            (sym (frame_takes_none frame side (record v { incoming = rest }) a.acted a.is)) left;
        outgoing = a.outgoing;
      };
    }

pub delivery_refused : (side : Side) (v : View) (frame : Flight) (rest : List Flight)
    (old : RecordedLink) (inward outward : Line) (fault : PairFault) → v.incoming ≡ frame ∷ rest
    → IsView side old inward outward v
    → StationRefusesAs old (λ side v. receives Tagged frame v) fault
    → IsRefusedAs fault (delivers Tagged v.incoming v)
delivery_refused side v frame rest old inward outward fault is shown refuses =
    subst (λ (x : Result ViewStep Refusal). IsRefusedAs fault x)
    (sym (receives_first v frame rest is))
    (refuses side (record v { incoming = rest }) shown.station)

-- the side that sends on the line to this one
pub sender_shown : (side own other : Side) (s : RecordedLink) (t : world.Station)
    → own ≡ s.link.side → other ≡ other_side own → IsStation side s t → other_side side ≡ other
sender_shown side own other s t mine theirs shown =
    sym (theirs ∙ ap other_side (side_shown side own s t mine shown))

-- ---- The action of each move.

expiry_where : (running : Bool) (side : Side) (v : View) (acted : ViewStep)
    → (if running then takes Tagged (Expiry T203) [] v else Refuses NotRunning) ≡ Did acted
    → acted.view.incoming ≡ v.incoming
expiry_where true side v acted is = request_takes_none (Expiry T203) [] side v acted is
expiry_where false side v acted is = cc

pub expiry_takes_none : TakesNone (λ side v. expires_203 Tagged v)
unfolding expires_203
expiry_takes_none side v acted is = expiry_where v.station.end.t203 side v acted is

pub give_is : (mv : Move) (to : Side) (message : Vec ℕ Global) → mv ≡ moves.Give to message
    → (side : Side) (v : View)
    → acts Tagged side (move_of mv).event v ≡ takes Tagged (input.Give message.items) [] v
unfolding acts
give_is mv to message is side v = rw is refl

pub establish_is : (mv : Move) (to : Side) → mv ≡ moves.Establish to → (side : Side) (v : View)
    → acts Tagged side (move_of mv).event v ≡ takes Tagged input.Establish [] v
unfolding acts
establish_is mv to is side v = rw is refl

pub release_is : (mv : Move) (to : Side) → mv ≡ moves.Release to → (side : Side) (v : View)
    → acts Tagged side (move_of mv).event v ≡ takes Tagged input.Release [] v
unfolding acts
release_is mv to is side v = rw is refl

pub deliver_is : (mv : Move) (to : Side) → mv ≡ moves.Deliver to → (side : Side) (v : View)
    → acts Tagged side (move_of mv).event v ≡ delivers Tagged v.incoming v
unfolding acts
deliver_is mv to is side v = rw is refl

pub lose_is : (mv : Move) (to : Side) (at : ℕ) → mv ≡ moves.Lose to at → (side : Side) (v : View)
    → acts Tagged side (move_of mv).event v ≡ loses at v
unfolding acts
lose_is mv to at is side v = rw is refl

pub expire_200_is : (mv : Move) (to : Side) → mv ≡ moves.Expire200 to → (side : Side) (v : View)
    → acts Tagged side (move_of mv).event v ≡ expires_200 Tagged side v
unfolding acts
expire_200_is mv to is side v = rw is refl

pub expire_203_is : (mv : Move) (to : Side) → mv ≡ moves.Expire203 to → (side : Side) (v : View)
    → acts Tagged side (move_of mv).event v ≡ expires_203 Tagged v
unfolding acts
expire_203_is mv to is side v = rw is refl

pub busy_is : (mv : Move) (to : Side) (on : Bool) → mv ≡ moves.Busy to on → (side : Side) (v : View)
    → acts Tagged side (move_of mv).event v ≡ takes Tagged (busy_input on) [] v
unfolding acts
busy_is mv to on is side v = rw is refl

pub unit_as : (mv : Move) (to : Side) (unit : Vec ℕ Global) (octets : List ℕ)
    → mv ≡ moves.Unit to unit → octets ≡ unit.items → (side : Side) (v : View)
    → acts Tagged side (move_of mv).event v ≡ takes Tagged (input.UnitData (length octets)) octets v
unfolding acts
unit_as mv to unit octets is same side v = rw (is, same) refl

pub restart_is : (mv : Move) (to : Side) → mv ≡ moves.Restart to → (side : Side) (v : View)
    → acts Tagged side (move_of mv).event v ≡ quietly (restarts v)
unfolding acts
restart_is mv to is side v = rw is refl

-- ---- A loss.

pub lost_there : (at : ℕ) (v : View) → nat_lt at (length v.incoming) ≡ true
    → loses at v ≡ quietly (record v { incoming = without_lost at v.incoming })
unfolding loses
lost_there at v h = rw h refl

pub lost_nowhere : (at : ℕ) (v : View) → nat_lt at (length v.incoming) ≡ false
    → loses at v ≡ Refuses NothingThere
unfolding loses
lost_nowhere at v h = rw h refl

pub lost_shown : (side : Side) (at : ℕ) (v : View) (s : RecordedLink)
    (inward inward_new outward : Line) → nat_lt at (length v.incoming) ≡ true
    → IsView side s inward outward v
    → IsOn (other_side side) inward_new (without_lost at v.incoming)
    → IsDone side s inward_new outward (loses at v) []
lost_shown side at v s inward inward_new outward there shown left = record {
  acted = record { view = record v { incoming = without_lost at v.incoming }; outs = [] };
  is = lost_there at v there;
  same = refl;
  view = record { station = shown.station; incoming = left; outgoing = shown.outgoing };
}

pub given_as : (mv : Move) (to : Side) (message : Vec ℕ Global) (octets : List ℕ)
    → mv ≡ moves.Give to message → octets ≡ message.items → (side : Side) (v : View)
    → acts Tagged side (move_of mv).event v ≡ takes Tagged (input.Give octets) [] v
given_as mv to message octets is same side v =
    give_is mv to message is side v
    ∙ ap (λ (m : List ℕ). takes Tagged (input.Give m) [] v) (sym same)
