-- Worked runs of an interface. They show that the premises can be met, and that each is needed.
use Rattle.std.specs.Prelude.{◌≡◌, ℕ, List, [], ◌∷◌, ◌++◌, Some, None, Vec}
use Rattle.std.specs.declared.alloc.Global.{Global}
use Rattle.lapd_timers.specs.declared.timer.Timer.TheVariants.{T200, T201}
use Rattle.lapd_frame.specs.declared.Sapi.TheVariants.{Call, Packet}
use Rattle.lapd_frame.specs.declared.Side.TheVariants as side
use Rattle.lapd_table.specs.declared.link_id.LinkId.{LinkId}
use Rattle.lapd_sides_links.specs.Links.{of_sapi}
use Rattle.lapd_sides.specs.declared.request.Request.TheVariants as request
use Rattle.lapd_sides.specs.Network.{new_network}
use Rattle.lapd_sides.specs.User.{new_user}
use Rattle.lapd_sides.specs.Worked as sides
use Rattle.lapd_side_events.specs.Interface.{Configs, Interface, Move, new_interface}
use Rattle.lapd_side_events.specs.SideView.{SideEvent, Take, Lose, Expire, Ask}

abbrev pub by_user : SideEvent → Move
by_user event = record { side = side.User; event = event }

abbrev pub by_network : SideEvent → Move
by_network event = record { side = side.Network; event = event }

-- both sides serve both SAPIs; the user has TEI 64, and the network knows it
abbrev pub configs : Configs
configs = record { user = sides.both_sapis; network = sides.both_sapis }

abbrev pub call : LinkId
call = of_sapi Call 64

abbrev pub packet : LinkId
packet = of_sapi Packet 64

abbrev pub at_first : Interface
at_first = new_interface (new_user sides.both_sapis (Some 64) sides.random)
    (new_network sides.both_sapis (64 ∷ []))

-- a message of this one octet
abbrev pub IsMessage : ℕ → Vec ℕ Global → Type 0
IsMessage octet message = message.items ≡ octet ∷ []

-- ---- The premises are met.

-- The user requests both links. The SABME of call control is lost, T200 expires, and the second
-- SABME is answered.
abbrev pub establishing : List Move
establishing = by_user (Ask (request.Establish call) 0) ∷ by_user (Ask (request.Establish packet) 0)
    ∷ by_network (Lose 0) ∷ by_network (Take 0) ∷ by_user (Take 0)
    ∷ by_user (Expire T200 (Some call) 1000) ∷ by_network (Take 1000) ∷ by_user (Take 1000) ∷ []

-- Each side submits a message. The user's is received and acknowledged, and the network's is lost.
abbrev pub giving : Vec ℕ Global → Vec ℕ Global → List Move
giving message answer = by_user (Ask (request.Give call message) 1000)
    ∷ by_network (Ask (request.Give packet answer) 1000)
    ∷ by_user (Lose 0) ∷ by_network (Take 1000) ∷ by_user (Take 1000) ∷ []

-- T200 expires, the enquiry is answered, and the message is retransmitted, received and
-- acknowledged.
abbrev pub recovering : List Move
recovering = by_network (Expire T200 (Some packet) 2000) ∷ by_user (Take 2000)
    ∷ by_network (Take 2000) ∷ by_user (Take 2000) ∷ by_network (Take 2000) ∷ []

abbrev pub both_links : Vec ℕ Global → Vec ℕ Global → List Move
both_links message answer = establishing ++ giving message answer ++ recovering

-- The user has no TEI, and the network knows none.
abbrev pub unassigned : Interface
unassigned = new_interface (new_user sides.both_sapis None sides.random)
    (new_network sides.both_sapis [])

-- Layer 3 of the user requests the link. The establishment is kept until TEI 64 is assigned, and
-- done then. After it a message is submitted.
abbrev pub assigned : Vec ℕ Global → List Move
assigned message = by_user (Ask (request.Establish call) 0) ∷ by_network (Take 0)
    ∷ by_user (Take 0) ∷ by_network (Take 0) ∷ by_user (Take 0)
    ∷ by_user (Ask (request.Give call message) 0) ∷ by_network (Take 0) ∷ by_user (Take 0) ∷ []

-- ---- Each premise is needed.

-- T200 of call control expires while the answer to the user's SABME is in transit. The second SABME
-- starts another establishment at the network, and the user takes the first establishment's message
-- for the second's.
abbrev pub hasty : Vec ℕ Global → Vec ℕ Global → List Move
hasty first second = by_user (Ask (request.Establish call) 0) ∷ by_network (Take 0)
    ∷ by_network (Ask (request.Give call first) 0) ∷ by_user (Expire T200 (Some call) 1000)
    ∷ by_network (Take 1000) ∷ by_user (Take 1000)
    ∷ by_network (Ask (request.Give call second) 1000)
    ∷ by_user (Take 1000) ∷ by_network (Take 1000) ∷ []

-- The same of packet communication, whose window is wider, but the acknowledgement of the first
-- message is lost, and the network submits two more. The user rejects the second message, which
-- carries the number of the first, and receives the third, all in its first establishment.
abbrev pub skipping : Vec ℕ Global → Vec ℕ Global → Vec ℕ Global → List Move
skipping first second third = by_user (Ask (request.Establish packet) 0) ∷ by_network (Take 0)
    ∷ by_network (Ask (request.Give packet first) 0) ∷ by_user (Expire T200 (Some packet) 1000)
    ∷ by_network (Take 1000) ∷ by_user (Take 1000) ∷ by_user (Take 1000) ∷ by_network (Lose 0)
    ∷ by_user (Take 1000) ∷ by_network (Ask (request.Give packet second) 1000)
    ∷ by_network (Ask (request.Give packet third) 1000) ∷ by_user (Take 1000)
    ∷ by_user (Take 1000) ∷ []

-- The first message is lost. The network checks the TEI. The answer arrives only after T201
-- expired, so the second round counts two answers, and the TEI is removed.
abbrev pub removed : Vec ℕ Global → List Move
removed first = by_user (Ask (request.Establish call) 0) ∷ by_network (Take 0) ∷ by_user (Take 0)
    ∷ by_user (Ask (request.Give call first) 0) ∷ by_network (Lose 0)
    ∷ by_network (Ask (request.Check 64) 0) ∷ by_user (Take 0)
    ∷ by_network (Expire T201 None 1000) ∷ by_user (Take 1000)
    ∷ by_network (Take 1000) ∷ by_network (Take 1000)
    ∷ by_network (Expire T201 None 2000) ∷ by_user (Take 2000) ∷ by_user (Take 2000) ∷ []

-- The terminal obtains the same TEI again, and the second message counts as the first: it was
-- reported to layer 3 that the link was released, but not that a message was dropped.
abbrev pub regained : Vec ℕ Global → Vec ℕ Global → List Move
regained first second = removed first ++ by_user (Ask request.AskTei 2000)
    ∷ by_network (Take 2000) ∷ by_user (Take 2000)
    ∷ by_user (Ask (request.Establish call) 2000) ∷ by_network (Take 2000) ∷ by_user (Take 2000)
    ∷ by_user (Ask (request.Give call second) 2000)
    ∷ by_network (Take 2000) ∷ by_user (Take 2000) ∷ []

-- Of packet communication, the network receives the first message, and the second is lost. The TEI
-- is removed and assigned again, and the network receives the third message. Both were received in
-- the first establishment of a link, but of two links.
abbrev pub skipping_regained : Vec ℕ Global → Vec ℕ Global → Vec ℕ Global → List Move
skipping_regained first second third = by_user (Ask (request.Establish packet) 0)
    ∷ by_network (Take 0) ∷ by_user (Take 0) ∷ by_user (Ask (request.Give packet first) 0)
    ∷ by_network (Take 0) ∷ by_user (Lose 0) ∷ by_user (Ask (request.Give packet second) 0)
    ∷ by_network (Lose 0) ∷ by_network (Ask (request.Check 64) 0) ∷ by_user (Take 0)
    ∷ by_network (Expire T201 None 1000) ∷ by_user (Take 1000)
    ∷ by_network (Take 1000) ∷ by_network (Take 1000)
    ∷ by_network (Expire T201 None 2000) ∷ by_user (Take 2000) ∷ by_user (Take 2000)
    ∷ by_user (Ask request.AskTei 2000) ∷ by_network (Take 2000) ∷ by_user (Take 2000)
    ∷ by_user (Ask (request.Establish packet) 2000) ∷ by_network (Take 2000)
    ∷ by_user (Take 2000) ∷ by_user (Ask (request.Give packet third) 2000)
    ∷ by_network (Take 2000) ∷ []

-- The user's link is new, and a UA and an RR with N(R)=1 from before are in transit to it.
abbrev pub with_old_frames : Interface
with_old_frames = record at_first {
  to_user = (0x00 ∷ 0x81 ∷ 0x73 ∷ []) ∷ (0x00 ∷ 0x81 ∷ 0x01 ∷ 0x02 ∷ []) ∷ [];
}

-- The user takes the UA for the answer to its SABME, and the RR for an acknowledgement of its
-- message.
abbrev pub answered_before : Vec ℕ Global → List Move
answered_before message = by_user (Ask (request.Establish call) 0) ∷ by_user (Take 0)
    ∷ by_user (Ask (request.Give call message) 0) ∷ by_user (Take 0) ∷ []
