-- The strict lines of `decode`.
use Rattle.std.specs.Prelude.{ℕ, if◌then◌else◌, List, [], ◌∷◌, codes, Option, Some, None, option_map}
use Rattle.std.specs.Str.{bytes_eq}
use Rattle.lapd_frame.specs.declared.Side.{Side}
use Rattle.lapd_frame.specs.declared.Side.TheVariants.{Network, User}
use Rattle.lapd_cli_script.specs.Line.{octets_behind, text_line, words_of}
use Rattle.lapd_cli_script.specs.Script.{LineOutcome}
use Rattle.lapd_cli_frames.specs.declared.style.Style.{Style}
use Rattle.lapd_cli_frames.specs.declared.style.Style.TheVariants.{Plain}
use Rattle.lapd_cli_decode.specs.Sent.{sent_by}
use Rattle.lapd_cli_frames.specs.Style.{styled_text}

-- ---- A strict line: `SIDE HEX`, single spaces between its words.

abbrev pub strict_words : List (List ℕ) → Option (Side × List ℕ)
strict_words [] = None
strict_words (word ∷ behind) =
    if bytes_eq word (codes "user") then sent_by User (octets_behind behind) else (
    if bytes_eq word (codes "net") then sent_by Network (octets_behind behind) else None)

-- ---- Printing them.

-- the octets of a line, and their sender, if it is a strict line
abbrev pub sent_in : List ℕ → Option (Side × List ℕ)
sent_in line = strict_words (words_of line)

-- how to print lines
pub record Decoding : Type 0 where
  pub style : Style

-- as trace lines
abbrev pub traces : Decoding
traces = record { style = Plain }

-- the result of each line; the state never changes
abbrev pub line_step : Decoding → List ℕ → LineOutcome Decoding
line_step s line =
    option_map (λ sent. (text_line (styled_text s.style sent.0 sent.1), s)) (sent_in line)

-- the result if bad lines are skipped: nothing is printed for them
abbrev pub or_nothing : Decoding → LineOutcome Decoding → LineOutcome Decoding
or_nothing s None = Some ([], s)
or_nothing s (Some next) = Some next

abbrev pub decode_step_skipping : Decoding → List ℕ → LineOutcome Decoding
decode_step_skipping s line = or_nothing s (line_step s line)
