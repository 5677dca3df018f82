-- The result of a move at its side.
use Rattle.std.proofs.Common.{◌≡◌, ◌≤◌, ℕ, Bool, true, false, if◌then◌else◌, nat_lt, List, [], length, Option, Some, None, Vec, Result, Ok, Err, IfOk, IfErr, OnErr, is_ok, refl, sym, ap, subst, arith}
use Rattle.std.proofs.lemmas.Bool.Decides.{nat_tests}
use Rattle.std.specs.declared.alloc.Global.{Global}
use Rattle.arrayvec.specs.ArrayVec.{ArrayVec}
use Rattle.lapd_frame.specs.declared.Side.{Side}
use Rattle.lapd_frame.specs.Frame.{Fields, n201}
use Rattle.lapd_link.specs.Link.{LinkRepresents}
use Rattle.lapd_mod128.specs.Counting.{Tagged}
use Rattle.lapd_link_definition.specs.declared.event.LinkFault.{LinkFault}
use Rattle.lapd_link_definition.specs.declared.event.LinkFault.TheVariants.{TooLong}
use Rattle.lapd_link_definition.specs.declared.out.Out.{Out}
use Rattle.lapd_link_definition.specs.EndOfStep.{end_step}
use Rattle.lapd_link_definition.specs.End.{End, begin}
use Rattle.lapd_link_definition.specs.Input as input
use Rattle.lapd_link_definition.specs.Input.{Input}
use Rattle.lapd_link_definition.specs.Refusal.{refused}
use Rattle.lapd_link_definition.specs.Table.{unless, row, step}
use Rattle.lapd_pair_laws.specs.Consistent.{IsConsistent}
use Rattle.lapd_pair_laws.specs.Line.{Flight}
use Rattle.lapd_pair_laws.specs.Move as world
use Rattle.lapd_pair_laws.specs.Move.{View, Refused, stepped, receives, takes}
use Rattle.lapd_pair.specs.declared.line.Line.{Line}
use Rattle.lapd_pair.specs.declared.pair_fault.PairFault.{PairFault}
use Rattle.lapd_pair.specs.declared.recorded_link.RecordedLink.{RecordedLink}
use Rattle.lapd_pair.specs.Line.{fields_of, IsOn}
use Rattle.lapd_pair.specs.Moves.{IsRefusedAs}
use Rattle.lapd_pair.specs.Station.{IsStation, IsActed, IsAsked, HasOctets, Acts, StationRefusesAs, ShowsStationAsBefore}

-- ---- Results.

pub if_ok : {X E : Type 0} (P Q : X → Type 0) (r : Result X E) → ((x : X) → P x → Q x) → IfOk r P
    → IfOk r Q
if_ok P Q (Ok x) h p = h x p
if_ok P Q (Err e) h p = tt

pub if_err : {X E : Type 0} (P Q : E → Type 0) (r : Result X E) → ((e : E) → P e → Q e) → IfErr r P
    → IfErr r Q
if_err P Q (Ok x) h p = tt
if_err P Q (Err e) h p = h e p

pub on_err : {X E : Type 0} (P Q : Type 0) (r : Result X E) → (P → Q) → OnErr r P → OnErr r Q
on_err P Q (Ok x) h p = tt
on_err P Q (Err e) h p = h p

-- ---- A step is refused or admitted.

pub takes_refused : (i : Input) (octets : List ℕ) (v : View) (fault : LinkFault)
    → refused i v.station.end ≡ Some fault → takes Tagged i octets v ≡ Err (Refused fault)
unfolding takes step
takes_refused i octets v fault h =
    ap (λ (o : Option LinkFault). stepped octets 0 v
    (unless o (end_step Tagged (row Tagged v.station.end.state i (begin v.station.end))))) h

pub takes_is_ok : (i : Input) (octets : List ℕ) (v : View) → refused i v.station.end ≡ None
    → is_ok (takes Tagged i octets v) ≡ true
unfolding takes step
takes_is_ok i octets v h =
    ap (λ (o : Option LinkFault). is_ok (stepped octets 0 v
    (unless o (end_step Tagged (row Tagged v.station.end.state i (begin v.station.end))))))
    h

pub receives_is_ok : (frame : Flight) (v : View) → is_ok (receives Tagged frame v) ≡ true
unfolding receives step
receives_is_ok frame v = refl

-- ---- Requests.

pub asked_has_octets : (i : Input) (octets : List ℕ) → IsAsked i octets → HasOctets i octets None
asked_has_octets (input.Heard control role) octets h = absurd h
asked_has_octets other octets h = refl

few : (long : Bool) (len : ℕ) → nat_lt 260 len ≡ long → (if long then Some TooLong else None) ≡ None
    → len ≤ n201
few false len long h = grind (arith, nat_tests)
few true len long h = cc

-- unit data that the link does not refuse has at most N201 octets
pub asked_is_short : (i : Input) (octets : List ℕ) (v : View) → IsAsked i octets
    → refused i v.station.end ≡ None → length octets ≤ n201
asked_is_short (input.Heard control role) octets v h free = absurd h
asked_is_short (input.Faulty kind) octets v h free = absurd h
asked_is_short (input.Give message) octets v h free = absurd h
asked_is_short (input.UnitData len) octets v h free =
    let short : len ≤ n201 = few (nat_lt 260 len) len refl free in rw (← h) short
asked_is_short other octets v h free = rw h (omega arith)

-- ---- After an allocation, the side and the line represent what they did before.

abbrev pub StationsSame : RecordedLink → RecordedLink → Type 0
StationsSame old made =
    (side : Side) (t : world.Station) → IsStation side old t → IsStation side made t

abbrev pub LinesSame : Line → Line → Type 0
LinesSame old made =
    (from : Side) (frames : List Flight) → IsOn from old frames → IsOn from made frames

pub shows_still : (old made new : RecordedLink) (outward outward_made outward_new : Line)
    (r : Result (ArrayVec Out) PairFault) → StationsSame old made → LinesSame outward outward_made
    → OnErr r ((new ≡ made) × (outward_new ≡ outward_made))
    → OnErr r (ShowsStationAsBefore old outward new outward_new)
shows_still old made new outward outward_made outward_new (Ok outs) station line h = tt
shows_still old made new outward outward_made outward_new (Err fault) station line h = record {
  station = λ side t shown. rw h.0 (station side t shown);
  line = λ from frames on. rw h.1 (line from frames on);
}

-- ---- A request or an expiry.

-- the statement of a step for an input
abbrev pub StepsTo : Input → List ℕ → Option (Vec ℕ Global) → RecordedLink → Line → RecordedLink
    → Line → ArrayVec Out → Type 0
StepsTo i octets copy made outward_made new outward_new outs =
    (side : Side) (place : ℕ) (v : View) → IsConsistent Tagged v.station
    → IsStation side made v.station → IsOn side outward_made v.outgoing → length octets ≤ n201
    → HasOctets i octets copy
    → IsActed side new outward_new (stepped octets place v (step Tagged i v.station.end)) outs.items

abbrev pub StepRefuses : Input → RecordedLink → PairFault → Type 0
StepRefuses i made fault =
    (octets : List ℕ) (place : ℕ) (side : Side) (v : View) → IsStation side made v.station
    → IsRefusedAs fault (stepped octets place v (step Tagged i v.station.end))

pub request_acts : (i : Input) (octets : List ℕ) (old made new : RecordedLink)
    (outward outward_made outward_new : Line) (r : Result (ArrayVec Out) PairFault)
    → IsAsked i octets → ((e : End) → LinkRepresents old.link e → refused i e ≡ None)
    → StationsSame old made → LinesSame outward outward_made
    → IfOk r (StepsTo i octets None made outward_made new outward_new)
    → IfOk r (Acts old outward new outward_new (λ side v. takes Tagged i octets v))
unfolding takes
request_acts i octets old made new outward outward_made outward_new (Err fault) asked free station
    line h =
    tt
request_acts i octets old made new outward outward_made outward_new (Ok outs) asked free station
    line h = λ side v preserved shown on.
    h side 0 v preserved (station side v.station shown) (line side v.outgoing on)
    (asked_is_short i octets v asked (free v.station.end shown.link))
    (asked_has_octets i octets asked)

pub request_refused : (i : Input) (octets : List ℕ) (old made : RecordedLink)
    (r : Result (ArrayVec Out) PairFault) → StationsSame old made
    → IfErr r (StepRefuses i made)
    → IfErr r (StationRefusesAs old (λ side v. takes Tagged i octets v))
unfolding takes
request_refused i octets old made (Ok outs) station h = tt
request_refused i octets old made (Err fault) station h =
    λ side v shown. h octets 0 side v (station side v.station shown)

-- ---- A frame.

pub frame_acts : (f : Fields) (octets : List ℕ) (copy : Vec ℕ Global) (old made new : RecordedLink)
    (outward outward_made outward_new : Line) (r : Result (ArrayVec Out) PairFault)
    → octets ≡ f.info → copy.items ≡ f.info → StationsSame old made → LinesSame outward outward_made
    → IfOk r (StepsTo (input.Heard f.control f.address.role) octets (Some copy) made outward_made
    new outward_new)
    → IfOk r (λ outs. (flight : Flight) → fields_of flight ≡ f → length flight.info ≤ n201 → Acts
    old outward new outward_new (λ side v. receives Tagged flight v) outs)
unfolding receives
frame_acts f octets copy old made new outward outward_made outward_new (Err fault) whole same
    station line h =
    tt
frame_acts f octets copy old made new outward outward_made outward_new (Ok outs) whole same station
    line h = λ flight is short.
    let Is : Fields → Type 0 =
    λ g. (copy.items ≡ g.info) × StepsTo (input.Heard g.control g.address.role) g.info
    (Some copy) made outward_made new outward_new outs in
    let reported =
    subst (λ (info : List ℕ). StepsTo (input.Heard f.control f.address.role) info
    (Some copy) made outward_made new outward_new outs) whole h in
    let all = subst Is (sym is) (same, reported) in
    λ side v preserved shown on. all.1 side flight.place v preserved (station side v.station shown)
    (line side v.outgoing on) short all.0

pub frame_refused : (f : Fields) (old made : RecordedLink) (r : Result (ArrayVec Out) PairFault)
    → StationsSame old made → IfErr r (StepRefuses (input.Heard f.control f.address.role) made)
    → IfErr r (λ fault. (flight : Flight) → fields_of flight ≡ f → StationRefusesAs old
    (λ side v. receives Tagged flight v) fault)
unfolding receives
frame_refused f old made (Ok outs) station h = tt
frame_refused f old made (Err fault) station h = λ flight is.
    let Is : Fields → Type 0 = λ g. StepRefuses (input.Heard g.control g.address.role) made fault in
    let all = subst Is (sym is) h in
    λ side v shown. all flight.info flight.place side v (station side v.station shown)

-- ---- A message.

abbrev pub GivesTo : List ℕ → List ℕ → RecordedLink → Line → RecordedLink → Line → ArrayVec Out
    → Type 0
GivesTo message copy made outward_made new outward_new outs =
    (side : Side) (v : View) → IsConsistent Tagged v.station → IsStation side made v.station
    → IsOn side outward_made v.outgoing → copy ≡ message
    → IsActed side new outward_new (stepped [] 0 v (step Tagged (input.Give message) v.station.end))
    outs.items

pub message_acts : (message queued copy : List ℕ) (old made new : RecordedLink)
    (outward outward_made outward_new : Line) (r : Result (ArrayVec Out) PairFault)
    → queued ≡ message → copy ≡ message
    → StationsSame old made → LinesSame outward outward_made
    → IfOk r (GivesTo queued copy made outward_made new outward_new)
    → IfOk r
    (Acts old outward new outward_new (λ side v. takes Tagged (input.Give message) [] v))
unfolding takes
message_acts message queued copy old made new outward outward_made outward_new (Err fault) is same
    station line h =
    tt
message_acts message queued copy old made new outward outward_made outward_new (Ok outs) is same
    station line h =
    let all = subst (λ (m : List ℕ). GivesTo m copy made outward_made new outward_new outs) is h in
    λ side v preserved shown on. all side v preserved (station side v.station shown)
    (line side v.outgoing on) same

pub message_refused : (message queued : List ℕ) (old made : RecordedLink)
    (r : Result (ArrayVec Out) PairFault) → queued ≡ message → StationsSame old made
    → IfErr r (λ fault. (side : Side) (v : View) → IsStation side made v.station → IsRefusedAs fault
    (stepped [] 0 v (step Tagged (input.Give queued) v.station.end)))
    → IfErr r (StationRefusesAs old (λ side v. takes Tagged (input.Give message) [] v))
unfolding takes
message_refused message queued old made (Ok outs) is station h = tt
message_refused message queued old made (Err fault) is station h =
    let all =
    subst (λ (m : List ℕ). (side : Side) (v : View) → IsStation side made v.station →
    IsRefusedAs fault (stepped [] 0 v (step Tagged (input.Give m) v.station.end))) is
    h in
    λ side v shown. all side v (station side v.station shown)
