-- Which octets on the line belong to an exchange of a link: SABME and DISC, and the UA and DM that
-- answer them.
use Rattle.std.specs.Prelude.{◌≡◌, ℕ, Bool, true, false, ◌&&◌, List, Result, Ok, Err}
use Rattle.std.specs.List.{list_any}
use Rattle.lapd_frame.specs.declared.Side.{Side}
use Rattle.lapd_frame.specs.declared.Control.{Control}
use Rattle.lapd_frame.specs.declared.Control.TheVariants.{Sabme, Disc, Ua, Dm}
use Rattle.lapd_frame.specs.declared.frame_fault.FrameFault.{FrameFault}
use Rattle.lapd_frame.specs.Address.{other_side}
use Rattle.lapd_frame.specs.Frame.{Fields}
use Rattle.lapd_frame.specs.Reading.{frame_at}
use Rattle.lapd_table.specs.declared.link_id.LinkId.{LinkId}
use Rattle.lapd_two_side_laws.specs.Addressed.{is_for}
use Rattle.lapd_side_events.specs.SideView.{SideView}

-- requests an establishment or a release
abbrev pub is_command : Control → Bool
is_command (Sabme p) = true
is_command (Disc p) = true
is_command other = false

-- answers such a request
abbrev pub is_answer : Control → Bool
is_answer (Ua f) = true
is_answer (Dm f) = true
is_answer other = false

-- octets that are read as such a frame
abbrev pub reads_as : (Control → Bool) → Result Fields FrameFault → Bool
reads_as test (Ok f) = test f.control
reads_as test (Err fault) = false

-- of the link, sent by this side
abbrev pub is_of_kind_for : (Control → Bool) → Side → LinkId → List ℕ → Bool
is_of_kind_for test from id octets = is_for from id octets && reads_as test (frame_at from octets)

-- No SABME or DISC of the link from this side is in transit, and no UA or DM of it to this side.
-- Other frames of the link may be, and any frames of other links.
abbrev pub HasNoExchange : {S : Type 0} → Side → LinkId → SideView S → Type 0
HasNoExchange side id v = (list_any (is_of_kind_for is_command side id) v.outgoing ≡ false)
    × (list_any (is_of_kind_for is_answer (other_side side) id) v.incoming ≡ false)
