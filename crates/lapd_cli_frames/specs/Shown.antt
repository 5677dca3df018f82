-- The line of a frame whose sender is not known, or whose SAPI is not served.
use Rattle.std.specs.Prelude.{ℕ, List, ◌++◌, codes, Option, Some, None, Result, Ok, Err}
use Rattle.std.specs.Fmt.{decimal}
use Rattle.lapd_frame.specs.declared.Side.{Side}
use Rattle.lapd_frame.specs.declared.Role.{Role}
use Rattle.lapd_frame.specs.declared.FrameFault.{FrameFault}
use Rattle.lapd_frame.specs.Fault.{fault_name}
use Rattle.lapd_frame.specs.Frame.{Fields}
use Rattle.lapd_trace.specs.Trace.{direction_text, octets_text, role_text}
use Rattle.lapd_cli_ladder.specs.Words.{control_words, known_role}
use Rattle.lapd_cli_frames.specs.AnySapi.{sapi_of}

-- who sent it, or that this is not known
abbrev pub direction_words : Option Side → List ℕ
direction_words None = codes "?>? "
direction_words (Some from) = direction_text from

-- its role, or that this is not known
abbrev pub role_words : Option Role → List ℕ
role_words None = codes " ? "
role_words (Some role) = role_text role

abbrev pub address_words : ℕ → ℕ → Option Role → List ℕ
address_words sapi tei role =
    codes "SAPI " ++ (decimal sapi ++ (codes " TEI " ++ (decimal tei ++ role_words role)))

-- a frame of this SAPI
abbrev pub frame_words : ℕ → Option Role → Fields → List ℕ
frame_words sapi role f = address_words sapi f.address.tei role
    ++ (control_words role f.control ++ octets_text (codes " info=") f.info)

-- the frame in these octets, or their first fault
abbrev pub reading_words : Option Side → List ℕ → Result Fields FrameFault → List ℕ
reading_words from octets (Ok f) =
    frame_words (sapi_of octets) (known_role from f.address.role) f
reading_words from octets (Err fault) = fault_name fault.kind ++ octets_text (codes " ") octets

-- the same without the information
abbrev pub brief_words : Option Side → List ℕ → Result Fields FrameFault → List ℕ
brief_words from octets (Ok f) =
    address_words (sapi_of octets) f.address.tei (known_role from f.address.role)
    ++ control_words (known_role from f.address.role) f.control
brief_words from octets (Err fault) = reading_words from octets (Err fault)

-- the line of these octets, which were read as this
abbrev pub shown_line : Option Side → List ℕ → Result Fields FrameFault → List ℕ
shown_line from octets reading = direction_words from ++ reading_words from octets reading

-- the same without the information of a frame
abbrev pub brief_line : Option Side → List ℕ → Result Fields FrameFault → List ℕ
brief_line from octets reading = direction_words from ++ brief_words from octets reading
