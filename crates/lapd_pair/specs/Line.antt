-- One direction of the line as octets, and how it represents the frames in transit.
use Rattle.std.specs.Prelude.{◌≡◌, ◌+◌, ◌-◌, ◌≤◌, ℕ, List, [], ◌∷◌, map, take, drop}
use Rattle.std.specs.List.{position_or_len}
use Rattle.std.specs.Vec.{vec_capacity}
use Rattle.lapd_frame.specs.declared.Side.{Side}
use Rattle.lapd_frame.specs.declared.Role.{Role}
use Rattle.lapd_frame.specs.declared.Sapi.TheVariants.{Call}
use Rattle.lapd_frame.specs.declared.Address.{Address}
use Rattle.lapd_frame.specs.Frame.{Fields, IsFrame, spelling}
use Rattle.lapd_pair_laws.specs.Line.{Flight, is_poll, is_final}
use Rattle.lapd_pair.specs.declared.line.Line.{Line}

-- the address of the one data link: SAPI 0, TEI 64
abbrev pub link_address : Role → Address
link_address role = record { sapi = Call; tei = 64; role = role }

-- the fields of a frame in transit
abbrev pub fields_of : Flight → Fields
fields_of frame = record {
  address = link_address frame.role;
  control = frame.control;
  info = frame.info;
}

-- all these are valid frames
abbrev pub AreFrames : List Flight → Type 0
AreFrames [] = Unit {0}
AreFrames (frame ∷ frames) = IsFrame (fields_of frame) × AreFrames frames

-- the octets of the frames in transit, in order
abbrev pub octets_on : Line → List (List ℕ)
octets_on line = map (λ frame. frame.items) (drop line.first (take line.end line.frames.items))

-- how many frames at the front the search for a command with P=1 has passed, and the search for a
-- response with F=1
abbrev pub polls_passed : Line → ℕ
polls_passed line = line.poll_from - line.first

abbrev pub finals_passed : Line → ℕ
finals_passed line = line.final_from - line.first

-- The line represents the frames in transit, encoded as the side `from` sends them. Neither search
-- has passed a frame of the kind that it looks for.
pub record IsOn (from : Side) (line : Line) (frames : List Flight) : Type 0 where
  pub octets : octets_on line ≡ map (λ frame. spelling from (fields_of frame)) frames
  pub grammar : AreFrames frames
  pub polls : polls_passed line ≤ position_or_len is_poll frames
  pub finals : finals_passed line ≤ position_or_len is_final frames

-- n more frames fit without further allocation
abbrev pub HasRoomFor : ℕ → Line → Type 0
HasRoomFor n line = line.end + n ≤ vec_capacity line.frames

-- these are the octets of the first frame in transit
abbrev pub IsFirst : Side → List ℕ → List Flight → Type 0
IsFirst from octets [] = ⊥
IsFirst from octets (frame ∷ rest) = (octets ≡ spelling from (fields_of frame))
    × IsFrame (fields_of frame)
