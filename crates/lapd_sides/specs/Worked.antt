-- Worked dialogues of both sides, which test the definitions.
use Rattle.std.specs.Prelude.{ℕ, zero, suc, true, false, List, [], ◌∷◌, Option, Some, None, Result, Ok, Err}
use Rattle.rand_pcg.specs.Lcg.{Lcg}
use Rattle.rand_pcg.specs.Pcg.{pcg32}
use Rattle.lapd_frame.specs.declared.Side.TheVariants as side
use Rattle.lapd_frame.specs.Frame.{spelling}
use Rattle.lapd_tei.specs.Message.{frame_of_message}
use Rattle.lapd_tei.specs.Out as tei
use Rattle.lapd_timers.specs.declared.timer.Timer.{Timer}
use Rattle.lapd_timers.specs.declared.timer.Timer.TheVariants.{T201, T202}
use Rattle.lapd_timers.specs.Due.{deadline_of}
use Rattle.lapd_timers.specs.Durations.{standard_lengths}
use Rattle.lapd_frame.specs.declared.Sapi.TheVariants.{Call, Packet}
use Rattle.lapd_link_definition.specs.declared.state.State.{State}
use Rattle.lapd_link_definition.specs.Parameters.{basic_parameters}
use Rattle.lapd_table.specs.declared.link_id.LinkId.{LinkId}
use Rattle.lapd_sides_links.specs.declared.config.Config.{Config}
use Rattle.lapd_sides.specs.declared.request.Request.{Request}
use Rattle.lapd_sides.specs.declared.request.Request.TheVariants as request
use Rattle.lapd_sides_links.specs.declared.side_fault.SideKind.{SideKind}
use Rattle.lapd_sides_links.specs.Effects.{Effects}
use Rattle.lapd_sides_links.specs.Links.{Linked, Reaction, of_sapi}
use Rattle.lapd_sides.specs.SideState.{Rules, SideState, expires, takes}
use Rattle.lapd_sides.specs.User.{next_reference, advanced}

-- octets from the line, the expiry of a timer, or a request; at a time in milliseconds
pub data Happening : Type 0 where
  Arrives : (octets : List ℕ) → (now : ℕ) → Happening
  Expires : (timer : Timer) → (of : Option LinkId) → (now : ℕ) → Happening
  Asked : (request : Request) → (now : ℕ) → Happening

abbrev pub side_does : {M : Type 0} → Rules M → Config → Happening → SideState M
    → Result (Reaction (SideState M)) SideKind
side_does rules config (Arrives octets now) s = Ok (takes rules config octets now s)
side_does rules config (Expires timer of now) s = Ok (expires rules config now timer of s)
side_does rules config (Asked request now) s = rules.requested config request now s

-- the state after a step, and its effects; a refusal changes nothing
abbrev pub left_by : {S : Type 0} → S → Result (Reaction S) SideKind → S
left_by s (Ok a) = a.after
left_by s (Err kind) = s

abbrev pub given_by : {S : Type 0} → Result (Reaction S) SideKind → Result Effects SideKind
given_by (Ok a) = Ok a.effects
given_by (Err kind) = Err kind

abbrev pub side_run : {M : Type 0} → Rules M → Config → List Happening → SideState M → SideState M
side_run rules config [] s = s
side_run rules config (h ∷ hs) s = side_run rules config hs (left_by s (side_does rules config h s))

abbrev pub side_gives : {M : Type 0} → Rules M → Config → List Happening → SideState M
    → List (Result Effects SideKind)
side_gives rules config [] s = []
side_gives rules config (h ∷ hs) s =
    given_by (side_does rules config h s)
    ∷ side_gives rules config hs (left_by s (side_does rules config h s))

-- the queried parts of a link: its state, and the deadlines of its timers
abbrev pub state_of : Option Linked → Option State
state_of None = None
state_of (Some l) = Some l.end.state

abbrev pub ends_at : Timer → Option Linked → Option ℕ
ends_at timer None = None
ends_at timer (Some l) = deadline_of timer l.timers

-- ---- The network side, with both SAPIs of basic access.

abbrev pub both_sapis : Config
both_sapis = record {
  sapi16 = true;
  params0 = basic_parameters Call;
  params16 = basic_parameters Packet;
  durations = standard_lengths;
  seed = 0;
}

abbrev pub call_control_alone : Config
call_control_alone = record both_sapis { sapi16 = false }

-- a TEI is requested; then a DISC is received for each of its links, and one for a TEI without
-- links
abbrev pub tei_and_disc : List Happening
tei_and_disc =
    Arrives (0xFC ∷ 0xFF ∷ 0x03 ∷ 0x0F ∷ 0x12 ∷ 0x34 ∷ 0x01 ∷ 0xFF ∷ []) 0
    ∷ Arrives (0x00 ∷ 0x81 ∷ 0x53 ∷ []) 0
    ∷ Arrives (0x40 ∷ 0x81 ∷ 0x53 ∷ []) 0
    ∷ Arrives (0x00 ∷ 0x83 ∷ 0x53 ∷ []) 0 ∷ []

-- both links are established, and the link of SAPI 16 is released
abbrev pub both_established : List Happening
both_established = Arrives (0x00 ∷ 0x81 ∷ 0x7F ∷ []) 0 ∷ Arrives (0x40 ∷ 0x81 ∷ 0x7F ∷ []) 0 ∷ []

abbrev pub one_released : List Happening
one_released = Arrives (0x40 ∷ 0x81 ∷ 0x53 ∷ []) 500 ∷ []

-- a check that no terminal responds to
abbrev pub vain_check : List Happening
vain_check = Asked (request.Check 64) 600 ∷ Expires T201 None 1600 ∷ Expires T201 None 2600 ∷ []

-- a TEI is removed at this moment; the group TEI is not
abbrev pub removed_at : ℕ → List Happening
removed_at now = Asked (request.Remove 64) now ∷ Asked (request.Remove 127) now ∷ []

-- all TEIs are checked and removed at this moment
abbrev pub all_at : ℕ → List Happening
all_at now = Asked request.CheckAll now ∷ Asked request.RemoveAll now ∷ []

-- the same during the check of one
abbrev pub check_and_all : ℕ → List Happening
check_and_all now = Asked (request.Check 64) now ∷ all_at now

-- octets that do not form a frame for an existing link, four times, and then a SABME
abbrev pub four_and_sabme : List Happening
four_and_sabme =
    Arrives (0x00 ∷ []) 0
    ∷ Arrives (0x01 ∷ 0x81 ∷ 0x73 ∷ []) 0
    ∷ Arrives (0x04 ∷ 0x81 ∷ 0x7F ∷ []) 0
    ∷ Arrives (0x00 ∷ 0x83 ∷ 0x7F ∷ []) 0
    ∷ Arrives (0x00 ∷ 0x81 ∷ 0x7F ∷ []) 0 ∷ []

-- ---- The user side.

abbrev pub random : Lcg
random = record { state = 0; increment = 1 }

-- the generator after this many references, and the octets of an identity request
abbrev pub after : ℕ → Lcg → Lcg
after zero g = g
after (suc n) g = after n (advanced (pcg32 g))

abbrev pub reference : ℕ → ℕ
reference n = next_reference (after n random)

abbrev pub asking : ℕ → List ℕ
asking ri = spelling side.User (frame_of_message (tei.request ri))

-- the octets of an answer to a check
abbrev pub answering : ℕ → ℕ → List ℕ
answering ri own = spelling side.User (frame_of_message (tei.check_response ri own))

-- a request to establish, with no answer from the network side
abbrev pub vain_want : List Happening
vain_want =
    Asked (request.Establish (of_sapi Call 0)) 0
    ∷ Expires T202 None 2000 ∷ Expires T202 None 4000 ∷ Expires T202 None 6000 ∷ []

-- a request to establish, and the assignment of TEI 64
abbrev pub want_and_tei : List Happening
want_and_tei =
    Asked (request.Establish (of_sapi Call 0)) 0
    ∷ Arrives (0xFE ∷ 0xFF ∷ 0x03 ∷ 0x0F ∷ 0x00 ∷ 0x00 ∷ 0x02 ∷ 0x81 ∷ []) 100 ∷ []

-- a check of all TEIs and a removal of all arrive, and then the check again
abbrev pub all_arrive : List Happening
all_arrive =
    Arrives (0xFE ∷ 0xFF ∷ 0x03 ∷ 0x0F ∷ 0x00 ∷ 0x00 ∷ 0x04 ∷ 0xFF ∷ []) 0
    ∷ Arrives (0xFE ∷ 0xFF ∷ 0x03 ∷ 0x0F ∷ 0x00 ∷ 0x00 ∷ 0x06 ∷ 0xFF ∷ []) 0
    ∷ Arrives (0xFE ∷ 0xFF ∷ 0x03 ∷ 0x0F ∷ 0x00 ∷ 0x00 ∷ 0x04 ∷ 0xFF ∷ []) 0 ∷ []

-- a terminal gives up its TEI 64: another TEI is not its own, nor is this one afterwards
abbrev pub given_up : List Happening
given_up = Asked (request.Remove 65) 0 ∷ Asked (request.Remove 64) 0 ∷ Asked (request.Remove 64) 0
    ∷ []
