-- One data link that is followed, and the frames of both ends in the order in which they are seen.
use Rattle.std.specs.Prelude.{ℕ, List, [], ◌∷◌, ◌&&◌, Bool, false, Option, is_some}
use Rattle.lapd_frame.specs.declared.Side.{Side}
use Rattle.lapd_frame.specs.declared.Side.TheVariants.{Network, User}
use Rattle.lapd_frame.specs.Address.{other_side}
use Rattle.lapd_frame.specs.Frame.{Fields}
use Rattle.lapd_follow.specs.declared.packet.Packet.{Packet}
use Rattle.lapd_follow.specs.declared.remarks.Remarks.{Remarks}
use Rattle.lapd_follow.specs.Ends.{EndKnown, new_end}
use Rattle.lapd_follow.specs.Exchange.{Exchange, known_after, learns}
use Rattle.lapd_follow.specs.Remarks.{remarks_on}

-- The window k, if it is known; both ends; how many establishments began, and whether the last one
-- is known to last.
pub record LinkKnown : Type 0 where
  pub k : Option ℕ
  pub user : EndKnown
  pub network : EndKnown
  pub establishments : ℕ
  pub is_established : Bool

-- nothing was seen
abbrev pub new_link : Option ℕ → LinkKnown
new_link k = record {
  k = k;
  user = new_end;
  network = new_end;
  establishments = 0;
  is_established = false;
}

abbrev pub end_of : Side → LinkKnown → EndKnown
end_of User l = l.user
end_of Network l = l.network

-- the link as this sender of a frame sees it
abbrev pub seen_from : Side → LinkKnown → Exchange
seen_from sender l = record {
  from = end_of sender l;
  to = end_of (other_side sender) l;
  establishments = l.establishments;
  is_established = l.is_established;
}

-- the end of the user, and that of the network, if this side sent the last frame
abbrev pub user_of : Side → Exchange → EndKnown
user_of User x = x.from
user_of Network x = x.to

abbrev pub network_of : Side → Exchange → EndKnown
network_of User x = x.to
network_of Network x = x.from

-- the link whose two ends this sender of a frame sees so
abbrev pub with_exchange : Option ℕ → Side → Exchange → LinkKnown
with_exchange k sender x = record {
  k = k;
  user = user_of sender x;
  network = network_of sender x;
  establishments = x.establishments;
  is_established = x.is_established;
}

-- one frame on the line
pub record Sighting : Type 0 where
  pub packet : Packet
  pub sender : Side
  pub frame : Fields

abbrev pub sighting : Packet → Side → Fields → Sighting
sighting packet sender f = record { packet = packet; sender = sender; frame = f }

-- the numbers of both ends are known
abbrev pub is_followed : LinkKnown → Bool
is_followed l = is_some l.user.numbering && is_some l.network.numbering

-- both ends as the sender sees them, with what its frame teaches
abbrev pub taught : Sighting → LinkKnown → Exchange
taught s l = learns s.frame.control s.frame.address.role (seen_from s.sender l)

-- the remarks on it
abbrev pub said_of : Sighting → LinkKnown → Remarks
said_of s l = remarks_on l.k s.packet s.frame (taught s l)

-- the link after it
abbrev pub link_after : Sighting → LinkKnown → LinkKnown
link_after s l = with_exchange l.k s.sender (known_after s.packet s.frame (taught s l))

-- the link after these frames, and the remarks on each
abbrev pub known_after_all : List Sighting → LinkKnown → LinkKnown
known_after_all [] l = l
known_after_all (s ∷ seen) l = known_after_all seen (link_after s l)

abbrev pub said_of_all : List Sighting → LinkKnown → List Remarks
said_of_all [] l = []
said_of_all (s ∷ seen) l = said_of s l ∷ said_of_all seen (link_after s l)
