-- The text about frames that a record lacks.
use Rattle.std.specs.Prelude.{ℕ, ◌-◌, ◌==◌, nat_lt, if◌then◌else◌, List, [], ◌++◌, codes}
use Rattle.std.specs.Fmt.{decimal}
use Rattle.lapd_cli_page.specs.Row.{missing_row}
use Rattle.lapd_cli_script.specs.Line.{text_line}
use Rattle.lapd_cli_frames.specs.declared.frame_style.Layout.{Layout}
use Rattle.lapd_cli_frames.specs.declared.frame_style.Layout.TheVariants.{Lines, Drawn}
use Rattle.lapd_cli_frames.specs.declared.frame_style.Drawing.TheVariants.{Ladder, Picture, Page, Records}
use Rattle.lapd_cli_frames.specs.declared.style.Style.{Style}
use Rattle.lapd_cli_frames.specs.declared.style.Style.TheVariants.{Plain, Named, Brief, Json, NamedJson}

abbrev pub missing_words : ℕ → List ℕ
missing_words count = if count == 1 then codes "1 frame is missing here"
    else decimal count ++ codes " frames are missing here"

abbrev pub missing_object : ℕ → List ℕ
missing_object count = codes "{\"missing\":" ++ (decimal count ++ codes "}")

-- this many frames are missing, in words or as an object
abbrev pub missing_text : Style → ℕ → List ℕ
missing_text Plain count = missing_words count
missing_text Named count = missing_words count
missing_text Brief count = missing_words count
missing_text Json count = missing_object count
missing_text NamedJson count = missing_object count

-- the same as a line, or as a row of a page; in a picture and in a pcap file it has no place
abbrev pub missing_by : Layout → Style → ℕ → List ℕ
missing_by Lines style count = text_line (missing_text style count)
missing_by (Drawn Ladder) style count = text_line (missing_text style count)
missing_by (Drawn Picture) style count = []
missing_by (Drawn Page) style count = missing_row count
missing_by (Drawn Records) style count = []

-- the line before a frame, if this many frames are missing in all, and so many of them were before
-- an earlier frame
abbrev pub missing_before : Layout → Style → ℕ → ℕ → List ℕ
missing_before layout style told total =
    if nat_lt told total then missing_by layout style (total - told) else []
