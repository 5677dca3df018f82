-- The command `answer`: one link that executes a script by the state table.
use Rattle.std.specs.Prelude.{◌≡◌, ℕ, List, [], ◌∷◌, ◌++◌, drop, length, if◌then◌else◌, codes, Bool, Option, Some, None, option_map, Result, Ok, Err}
use Rattle.std.specs.Fmt.{decimal}
use Rattle.std.specs.Str.{bytes_eq}
use Rattle.lapd_frame.specs.declared.Side.{Side}
use Rattle.lapd_frame.specs.declared.Sapi.{Sapi}
use Rattle.lapd_frame.specs.declared.Address.{Address}
use Rattle.lapd_frame.specs.declared.fault_kind.FaultKind.{FaultKind}
use Rattle.lapd_frame.specs.declared.frame_fault.FrameFault.{FrameFault}
use Rattle.lapd_frame.specs.Address.{other_side}
use Rattle.lapd_frame.specs.Fault.{fault_name}
use Rattle.lapd_frame.specs.Frame.{Fields}
use Rattle.lapd_frame.specs.Reading.{frame_at}
use Rattle.lapd_link.specs.Counting.{Tagged}
use Rattle.lapd_link.specs.declared.Timer.TheVariants.{T200, T203}
use Rattle.lapd_link.specs.declared.LinkFault.{LinkFault}
use Rattle.lapd_link.specs.declared.link.Link.{Link}
use Rattle.lapd_link.specs.End.{End, StepState, new_end}
use Rattle.lapd_link.specs.Input.{Input, Heard, Faulty, Expiry, Establish, Release, BusyOn, BusyOff, UnitData, Give}
use Rattle.lapd_link.specs.Link.{LinkRepresents, Setup, setup_of, is_address_of}
use Rattle.lapd_link.specs.Parameters.{Parameters}
use Rattle.lapd_link.specs.State.{state_number}
use Rattle.lapd_link.specs.Table.{step}
use Rattle.lapd_cli_script.specs.Line.{words_of, nothing_of, octets_behind, text_line}
use Rattle.lapd_cli_script.specs.Script.{LineOutcome}
use Rattle.lapd_cli_answer.specs.Outputs.{outs_text, refusal_line}

-- a link: its side and address, and its current end
pub record Session : Type 0 where
  pub setup : Setup
  pub end : End

-- a new link of this side, SAPI and TEI
abbrev pub new_session : Side → Sapi → ℕ → Parameters → Session
new_session from sapi tei parameters = record {
  setup = record { side = from; sapi = sapi; tei = tei };
  end = new_end parameters;
}

-- ---- The result of a step of the link.

-- the submitted messages from index `first` on: those neither acknowledged nor dropped
abbrev pub messages_of : End → List (List ℕ)
messages_of e = drop e.first e.given

-- the text of a step, and the session after it
abbrev pub step_ended : Session → List ℕ → Result StepState LinkFault → List ℕ × Session
step_ended s input_octets (Ok done) = (
  outs_text s.setup (messages_of done.end) input_octets done.outs,
  record { setup = s.setup; end = done.end },
)
step_ended s input_octets (Err fault) = (refusal_line fault, s)

-- a step of the link, with the octets that the input carries
abbrev pub link_step : Session → Input → List ℕ → List ℕ × Session
link_step s input input_octets = step_ended s input_octets (step Tagged input s.end)

-- ---- Octets received from the other side.

abbrev pub if_mine : Session → Bool → List ℕ × Session → List ℕ × Session
if_mine s mine reception = if mine then reception else (text_line (codes "not-mine"), s)

-- octets that do not form a valid frame: with no readable address, or with this address
abbrev pub receive_fault : Session → FaultKind → Option Address → List ℕ × Session
receive_fault s kind None = (text_line (codes "discarded " ++ fault_name kind), s)
receive_fault s kind (Some a) = if_mine s (is_address_of s.setup a) (link_step s (Faulty kind) [])

abbrev pub receive_frame : Session → Fields → List ℕ × Session
receive_frame s f = if_mine s (is_address_of s.setup f.address)
    (link_step s (Heard f.control f.address.role) f.info)

-- a valid frame, or the first fault of the octets
abbrev pub receive_read : Session → Result Fields FrameFault → List ℕ × Session
receive_read s (Ok f) = receive_frame s f
receive_read s (Err fault) = receive_fault s fault.kind fault.address

abbrev pub receive : Session → List ℕ → List ℕ × Session
receive s octets = receive_read s (frame_at (other_side s.setup.side) octets)

abbrev pub state_line : End → List ℕ
state_line e = text_line (codes "state " ++ decimal (state_number e.state))

-- ---- The result of a line, by its first word and the words after it.

-- a word with nothing after it
abbrev pub alone : List (List ℕ) → List ℕ × Session → LineOutcome Session
alone behind next = option_map (λ none. next) (nothing_of behind)

-- a word with octets after it
abbrev pub with_octets : List (List ℕ) → (List ℕ → List ℕ × Session) → LineOutcome Session
with_octets behind next = option_map next (octets_behind behind)

-- `busy on` and `busy off`
abbrev pub busy : Session → List (List ℕ) → LineOutcome Session
busy s [] = None
busy s (word ∷ behind) =
    if bytes_eq word (codes "on") then alone behind (link_step s BusyOn []) else (
    if bytes_eq word (codes "off") then alone behind (link_step s BusyOff []) else None)

abbrev pub answer_word : Session → List ℕ → List (List ℕ) → LineOutcome Session
answer_word s word behind =
    if bytes_eq word (codes "frame") then with_octets behind (receive s) else (
    if bytes_eq word (codes "t200") then alone behind (link_step s (Expiry T200) []) else (
    if bytes_eq word (codes "t203") then alone behind (link_step s (Expiry T203) []) else (
    if bytes_eq word (codes "establish") then alone behind (link_step s Establish []) else (
    if bytes_eq word (codes "release") then alone behind (link_step s Release []) else (
    if bytes_eq word (codes "give")
    then with_octets behind (λ message. link_step s (Give message) []) else (
    if bytes_eq word (codes "unit")
    then with_octets behind (λ octets. link_step s (UnitData (length octets)) octets) else (
    if bytes_eq word (codes "busy") then busy s behind else (
    if bytes_eq word (codes "state") then alone behind (state_line s.end, s) else None))))))))

abbrev pub answer_words : Session → List (List ℕ) → LineOutcome Session
answer_words s [] = None
answer_words s (word ∷ behind) = answer_word s word behind

-- the result of each line
abbrev pub answer_step : Session → List ℕ → LineOutcome Session
answer_step s line = answer_words s (words_of line)

-- ---- A link and its session.

-- the link represents the session's end
pub record IsSession (link : Link) (s : Session) : Type 0 where
  pub setup : setup_of link ≡ s.setup
  pub end : LinkRepresents link s.end
