-- The printed form of a link's outputs.
use Rattle.std.specs.Prelude.{ℕ, List, ◌++◌, codes, Option, Some, None}
use Rattle.lapd_frame.specs.Frame.{Fields}
use Rattle.lapd_link.specs.Link.{Setup}
use Rattle.lapd_link.specs.SentFrame.{sent_frame}
use Rattle.lapd_link.specs.Timer.{timer_name}
use Rattle.lapd_link.specs.declared.Out.{Out}
use Rattle.lapd_link.specs.declared.Out.TheVariants as out
use Rattle.lapd_link.specs.Texts.{reported_text}
use Rattle.lapd_cli_script.specs.Line.{text_line}

-- the octets that outputs refer to: the received message and unit data, and the unit data sent
pub record OutputOctets : Type 0 where
  pub message : List ℕ
  pub unit : List ℕ
  pub sent : List ℕ

-- a frame that is sent; the line of a primitive or report, or of a timer that is started or
-- stopped; or `Nothing` if a frame was to be sent and does not exist
pub data PrintedOutput : Type 0 where
  Sent : (frame : Fields) → PrintedOutput
  Primitive : (line : List ℕ) → PrintedOutput
  Timer : (line : List ℕ) → PrintedOutput
  Nothing : PrintedOutput

-- the text of an output that a whole side would report
abbrev pub text_printed : OutputOctets → Out → Option (List ℕ)
text_printed s out.UnitUp = reported_text s.unit out.UnitUp
text_printed s output = reported_text s.message output

-- an output without a frame, in the words of a whole side's report
abbrev pub printed_as : Option (List ℕ) → Out → PrintedOutput
printed_as (Some text) output = Primitive (text_line text)
printed_as None (out.Start timer) = Timer (text_line (codes "start " ++ timer_name timer))
printed_as None (out.Stop timer) = Timer (text_line (codes "stop " ++ timer_name timer))
printed_as None other = Nothing

abbrev pub printed_unsent : OutputOctets → Out → PrintedOutput
printed_unsent s output = printed_as (text_printed s output) output

-- an output, with its frame if it has one
abbrev pub printed_with : Option Fields → OutputOctets → Out → PrintedOutput
printed_with (Some frame) s output = Sent frame
printed_with None s output = printed_unsent s output

-- `messages`: those neither acknowledged nor dropped after the step
abbrev pub printed_output : Setup → List (List ℕ) → OutputOctets → Out → PrintedOutput
printed_output setup messages s output = printed_with
    (sent_frame setup messages s.sent output) s output
