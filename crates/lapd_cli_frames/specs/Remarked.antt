-- The line of a frame with the remarks of a listener, in each style.
use Rattle.std.specs.Prelude.{ℕ, ◌-◌, ◌==◌, if◌then◌else◌, true, List, [], ◌∷◌, ◌++◌, codes, length, take, Option, Some, None, Result, Ok, Err, ⊤}
use Rattle.std.specs.Io.KnownBytes.{Appends, Keeps}
use Rattle.lapd_follow.specs.declared.remark.Remark.{Remark}
use Rattle.lapd_follow.specs.declared.remarks.Remarks.{Remarks}
use Rattle.lapd_follow.specs.Remarks.{class_of}
use Rattle.lapd_follow.specs.Texts.{class_name, clause_of, remark_text, remarks_text}
use Rattle.lapd_cli_ladder.specs.Words.{said_beside}
use Rattle.lapd_cli_script.specs.declared.script.LineFault.{LineFault}
use Rattle.lapd_cli_script.specs.declared.script.LineFault.TheVariants.{Bad, Device, Memory}
use Rattle.lapd_cli_frames.specs.declared.style.Style.{Style}
use Rattle.lapd_cli_frames.specs.declared.style.Style.TheVariants.{Plain, Named, Brief, Json, NamedJson}

-- a remark as a JSON object, after a comma
abbrev pub remark_object : Remark → List ℕ
remark_object r = codes ",{\"class\":\"" ++ (class_name (class_of r)
    ++ (codes "\",\"clause\":\"" ++ (clause_of r
    ++ (codes "\",\"text\":\"" ++ (remark_text r ++ codes "\"}")))))

abbrev pub object_or_none : Option Remark → List ℕ
object_or_none None = []
object_or_none (Some r) = remark_object r

-- all remarks on a frame, in the order of their kinds
abbrev pub remark_objects : Remarks → List ℕ
remark_objects r = object_or_none r.establishment ++ (object_or_none r.ns
    ++ (object_or_none r.window ++ (object_or_none r.busy ++ (object_or_none r.nr
    ++ (object_or_none r.bit ++ (object_or_none r.answer ++ (object_or_none r.identity
    ++ object_or_none r.conflict)))))))

-- the same without the first comma
abbrev pub listed : List ℕ → List ℕ
listed [] = []
listed (first ∷ rest) = if first == 44 then rest else []

-- the last member of an object, and its end
abbrev pub remarks_member : Remarks → List ℕ
remarks_member said = codes ",\"remarks\":[" ++ (listed (remark_objects said) ++ codes "]}")

-- the line up to the remarks: an object lacks its last brace
abbrev pub front_of : Style → List ℕ → List ℕ
front_of Plain text = text
front_of Named text = text
front_of Brief text = text
front_of Json text = take (length text - 1) text
front_of NamedJson text = take (length text - 1) text

-- the rest of the line
abbrev pub said_behind : Style → Remarks → List ℕ
said_behind Plain said = remarks_text said
said_behind Named said = remarks_text (said_beside true said)
said_behind Brief said = remarks_text (said_beside true said)
said_behind Json said = remarks_member said
said_behind NamedJson said = remarks_member said

-- the text of a frame with the remarks on it
abbrev pub with_remarks : Style → Remarks → List ℕ → List ℕ
with_remarks style said text = front_of style text ++ said_behind style said

-- the same if its link is followed
abbrev pub remarked : Style → Option Remarks → List ℕ → List ℕ
remarked style None text = text
remarked style (Some said) text = with_remarks style said text

-- how printing this line ends
abbrev pub RemarkedEnds : List ℕ → Result ⊤ LineFault → Option (List ℕ) → Option (List ℕ) → Type 0
RemarkedEnds line (Ok done) old new = Appends old new line
RemarkedEnds line (Err Memory) old new = Keeps old new
RemarkedEnds line (Err Device) old new = ⊤
RemarkedEnds line (Err Bad) old new = ⊥
