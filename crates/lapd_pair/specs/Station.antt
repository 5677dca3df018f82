-- How one side represents a side of the world, and its view of the line.
use Rattle.std.specs.Prelude.{◌≡◌, ℕ, List, [], length, Option, Some, None, Result, Ok, Err, Vec, ⊤}
use Rattle.std.specs.declared.alloc.Global.{Global}
use Rattle.lapd_frame.specs.declared.Side.{Side}
use Rattle.lapd_frame.specs.Address.{other_side}
use Rattle.lapd_link.specs.Link.{LinkRepresents, setup_of}
use Rattle.lapd_pair_laws.specs.Consistent.{IsConsistent}
use Rattle.lapd_pair_laws.specs.Line.{Flight}
use Rattle.lapd_pair_laws.specs.Move as world
use Rattle.arrayvec.specs.ArrayVec.{ArrayVec}
use Rattle.lapd_mod128.specs.Counting.{Tagged}
use Rattle.lapd_link_definition.specs.declared.out.Out.{Out}
use Rattle.lapd_link_definition.specs.Input.{Input, Heard, Faulty, Give, UnitData}
use Rattle.lapd_pair_laws.specs.Move.{View, ViewStep, Refusal}
use Rattle.lapd_pair.specs.Histories.{IsHistory}
use Rattle.lapd_pair.specs.Line.{IsOn}
use Rattle.lapd_pair.specs.Setup.{setup_for}
use Rattle.lapd_pair.specs.Moves.{IsRefusedAs}
use Rattle.lapd_pair.specs.declared.line.Line.{Line}
use Rattle.lapd_pair.specs.declared.pair_fault.PairFault.{PairFault}
use Rattle.lapd_pair.specs.declared.recorded_link.RecordedLink.{RecordedLink}

pub record IsStation (side : Side) (s : RecordedLink) (t : world.Station) : Type 0 where
  pub link : LinkRepresents s.link t.end
  pub setup : setup_of s.link ≡ setup_for side
  pub history : IsHistory s.history t.end.given t.history

-- the same with both directions of the line, as this side sees them
pub record IsView (side : Side) (s : RecordedLink) (inward outward : Line) (v : View) : Type 0 where
  pub station : IsStation side s v.station
  pub incoming : IsOn (other_side side) inward v.incoming
  pub outgoing : IsOn side outward v.outgoing

-- The world admits an action with these outputs. The side and its outgoing line represent the
-- result.
pub record IsActed (side : Side) (s : RecordedLink) (outward : Line)
    (outcome : Result ViewStep Refusal)
    (outs : List Out) : Type 0 where
  pub acted : ViewStep
  pub is : outcome ≡ Ok acted
  pub same : acted.outs ≡ outs
  pub station : IsStation side s acted.view.station
  pub outgoing : IsOn side outward acted.view.outgoing

-- the same with the frames in transit to the side
pub record IsDone (side : Side) (s : RecordedLink) (inward outward : Line)
    (outcome : Result ViewStep Refusal) (outs : List Out) : Type 0 where
  pub acted : ViewStep
  pub is : outcome ≡ Ok acted
  pub same : acted.outs ≡ outs
  pub view : IsView side s inward outward acted.view

-- the octets passed with an input: for a received frame, its information field, with a copy; other
-- inputs have no copy
abbrev pub HasOctets : Input → List ℕ → Option (Vec ℕ Global) → Type 0
HasOctets (Heard control role) octets None = ⊥
HasOctets (Heard control role) octets (Some copy) = copy.items ≡ octets
HasOctets input octets copy = copy ≡ None

-- the input is a request, with any unit data, or an expiry; it is not a frame or a message
abbrev pub IsAsked : Input → List ℕ → Type 0
IsAsked (Heard control role) octets = ⊥
IsAsked (Give message) octets = ⊥
IsAsked (Faulty kind) octets = ⊥
IsAsked (UnitData len) octets = len ≡ length octets
IsAsked input octets = octets ≡ []

-- the result of a call, with the outputs that it wrote into its argument
abbrev pub with_outs : {E : Type 0} → Result ⊤ E → ArrayVec Out → Result (ArrayVec Out) E
with_outs (Ok done) outs = Ok outs
with_outs (Err fault) outs = Err fault

-- ---- The moves of a side, for every side of the world that it may represent.

-- an action changes the side and its outgoing line as the world defines it; incoming frames are not
-- part of the statement
abbrev pub Acts : RecordedLink → Line → RecordedLink → Line
    → (Side → View → Result ViewStep Refusal)
    → ArrayVec Out → Type 0
Acts old outward_old new outward_new mv outs =
    (side : Side) (v : View) → IsConsistent Tagged v.station → IsStation side old v.station
    → IsOn side outward_old v.outgoing → IsActed side new outward_new (mv side v) outs.items

abbrev pub StationRefusesAs : RecordedLink → (Side → View → Result ViewStep Refusal) → PairFault
    → Type 0
StationRefusesAs old mv fault = (side : Side) (v : View) → IsStation side old v.station
    → IsRefusedAs fault (mv side v)

-- the side and its outgoing line represent all that they represented before
pub record ShowsStationAsBefore (old : RecordedLink) (outward_old : Line) (new : RecordedLink)
    (outward_new : Line) : Type 0 where
  pub station : (side : Side) (t : world.Station) → IsStation side old t → IsStation side new t
  pub line : (from : Side) (frames : List Flight) → IsOn from outward_old frames
      → IsOn from outward_new frames

-- the same with the frames in transit to the side
abbrev pub ActsInView : RecordedLink → Line → Line → RecordedLink → Line → Line
    → (Side → View → Result ViewStep Refusal) → ArrayVec Out → Type 0
ActsInView old inward_old outward_old new inward_new outward_new mv outs =
    (side : Side) (v : View) → IsConsistent Tagged v.station
    → IsView side old inward_old outward_old v
    → IsDone side new inward_new outward_new (mv side v) outs.items

abbrev pub RefusesInView : RecordedLink → Line → Line → (Side → View → Result ViewStep Refusal)
    → PairFault → Type 0
RefusesInView old inward_old outward_old mv fault = (side : Side) (v : View)
    → IsView side old inward_old outward_old v → IsRefusedAs fault (mv side v)

abbrev pub ShowsViewAsBefore : RecordedLink → Line → Line → RecordedLink → Line → Line → Type 0
ShowsViewAsBefore old inward_old outward_old new inward_new outward_new = (side : Side) (v : View)
    → IsView side old inward_old outward_old v → IsView side new inward_new outward_new v
