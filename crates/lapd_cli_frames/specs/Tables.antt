-- The table of each link, after the last frame.
use Rattle.std.specs.Prelude.{ℕ, ◌-◌, ◌/◌, ◌%◌, ◌==◌, ◌&&◌, ◌||◌, nat_lt, max, if◌then◌else◌, Bool, List, [], ◌++◌, codes, Option, Some, None, Result, Ok, Err, ⊤}
use Rattle.std.specs.List.{flat_map}
use Rattle.std.specs.Fmt.{decimal}
use Rattle.std.specs.Io.KnownBytes.{Appends, Keeps}
use Rattle.lapd_frame.specs.Address.{sapi_value}
use Rattle.lapd_follow.specs.declared.classes.Middle.{Middle}
use Rattle.lapd_follow.specs.declared.link_tally.LinkTally.{LinkTally}
use Rattle.lapd_follow.specs.declared.tally.Kinds.{Kinds}
use Rattle.lapd_follow.specs.declared.tally.Tally.{Tally}
use Rattle.lapd_follow.specs.declared.tally.Times.{Times}
use Rattle.lapd_follow.specs.Tallies.{middle_of}
use Rattle.lapd_follow.specs.Texts.{seconds_digits}
use Rattle.lapd_cli_script.specs.declared.script.ScriptFault.{ScriptFault}
use Rattle.lapd_cli_script.specs.declared.script.ScriptFault.TheVariants.{BadLine, Device, Memory, Port}
use Rattle.lapd_cli_frames.specs.declared.style.Style.{Style}
use Rattle.lapd_cli_frames.specs.declared.style.Style.TheVariants.{Plain, Named, Brief, Json, NamedJson}

-- the I frames that were followed and were not repetitions
abbrev pub messages_of : Tally → ℕ
messages_of t = t.kinds.i - t.unfollowed - t.repeated

-- of some I frames is known whether they are sent again, or there are none
abbrev pub is_counted : Tally → Bool
is_counted t = nat_lt t.unfollowed t.kinds.i || (t.kinds.i == 0)

-- a count of the frames that were followed
abbrev pub count_text : Bool → ℕ → List ℕ
count_text is_known count = if is_known then decimal count else codes "-"

-- the mean of the times, rounded down
abbrev pub mean_of : Times → ℕ
mean_of t = t.total / max t.count 1

-- ---- Lines.

-- the frames that an end sent, by kind
abbrev pub kinds_line : List ℕ → Kinds → List ℕ
kinds_line direction k = codes "  " ++ (direction ++ (codes " I " ++ (decimal k.i
    ++ (codes ", RR " ++ (decimal k.rr ++ (codes ", RNR " ++ (decimal k.rnr
    ++ (codes ", REJ " ++ (decimal k.rej ++ (codes ", SABME " ++ (decimal k.sabme
    ++ (codes ", DISC " ++ (decimal k.disc ++ (codes ", UA " ++ (decimal k.ua
    ++ (codes ", DM " ++ (decimal k.dm ++ (codes ", UI " ++ (decimal k.ui
    ++ (codes ", FRMR " ++ (decimal k.frmr ++ (codes ", XID " ++ (decimal k.xid
    ++ codes "\n")))))))))))))))))))))))

-- two times, in seconds
abbrev pub from_to : ℕ → ℕ → List ℕ
from_to least greatest = seconds_digits least ++ (codes " to "
    ++ (seconds_digits greatest ++ codes " s"))

-- the answers to polls whose times are known: the least time and the greatest, between which times
-- the middle one lies, and the mean
abbrev pub range_text : Times → Option ℕ → Option ℕ → Option Middle → List ℕ
range_text t (Some least) (Some greatest) (Some middle) = codes ", answers " ++ (decimal t.count
    ++ (codes " after " ++ (from_to least greatest ++ (codes ", middle "
    ++ (from_to middle.from middle.to ++ (codes ", mean " ++ (seconds_digits (mean_of t)
    ++ codes " s")))))))
range_text t least greatest middle = []

abbrev pub times_text : Times → List ℕ
times_text t = range_text t t.least t.greatest (middle_of t)

-- the counts of an end
abbrev pub counts_text : List ℕ → Tally → List ℕ
counts_text direction t = codes "  " ++ (direction ++ (codes " messages "
    ++ (count_text (is_counted t) (messages_of t) ++ (codes ", octets " ++ (decimal t.octets
    ++ (codes ", repeated " ++ (count_text (is_counted t) t.repeated ++ (codes ", polls "
    ++ decimal t.polls))))))))

-- the I frames that were not followed
abbrev pub unfollowed_text : ℕ → List ℕ
unfollowed_text n = if nat_lt 0 n then codes ", not followed " ++ decimal n else []

-- how long an end was busy
abbrev pub busy_text : Option ℕ → List ℕ
busy_text None = []
busy_text (Some total) = codes ", busy " ++ (seconds_digits total ++ codes " s")

abbrev pub counts_line : List ℕ → Tally → List ℕ
counts_line direction t = counts_text direction t ++ (unfollowed_text t.unfollowed
    ++ (times_text t.times ++ (busy_text t.busy.total ++ codes "\n")))

abbrev pub end_lines : List ℕ → Tally → List ℕ
end_lines direction t = kinds_line direction t.kinds ++ counts_line direction t

-- Why a link of which no establishment began is not followed: no UA answers a SABME, or the link was
-- established before and no exchange shows its numbers. A link without I and S frames has none.
abbrev pub has_numbers : Kinds → Bool
has_numbers k = nat_lt 0 k.i || nat_lt 0 k.rr || nat_lt 0 k.rnr || nat_lt 0 k.rej

abbrev pub unfollowed_reason : LinkTally → List ℕ
unfollowed_reason t = if nat_lt 0 t.user.kinds.sabme || nat_lt 0 t.network.kinds.sabme
    then codes ", not followed: no UA answers a SABME"
    else codes ", not followed: no exchange shows the numbers"

abbrev pub is_unfollowed : LinkTally → Bool
is_unfollowed t = (t.establishments == 0)
    && (has_numbers t.user.kinds || has_numbers t.network.kinds)

-- from which packet a link is followed that was established before, or why it is not
abbrev pub followed_text : LinkTally → Option ℕ → List ℕ
followed_text t (Some packet) = codes ", followed from packet " ++ decimal packet
followed_text t None = if is_unfollowed t then unfollowed_reason t else []

-- the first line of a link
abbrev pub head_text : LinkTally → List ℕ
head_text t = codes "SAPI " ++ (decimal (sapi_value t.sapi) ++ (codes " TEI " ++ (decimal t.tei
    ++ (codes ": establishments " ++ decimal t.establishments))))

abbrev pub head_line : LinkTally → List ℕ
head_line t = head_text t ++ (followed_text t t.followed ++ codes "\n")

-- the lines of a link
abbrev pub link_lines : LinkTally → List ℕ
link_lines t = head_line t
    ++ (end_lines (codes "U>N") t.user ++ end_lines (codes "N>U") t.network)

-- ---- JSON objects. Times are in microseconds.

-- two times, in a list
abbrev pub times_list : ℕ → ℕ → List ℕ
times_list from to = codes "[" ++ (decimal from ++ (codes "," ++ (decimal to ++ codes "]")))

abbrev pub range_member : Times → Option ℕ → Option ℕ → Option Middle → List ℕ
range_member t (Some least) (Some greatest) (Some middle) = codes "\"answers\":{\"count\":"
    ++ (decimal t.count ++ (codes ",\"greatest\":" ++ (decimal greatest
    ++ (codes ",\"least\":" ++ (decimal least ++ (codes ",\"mean\":" ++ (decimal (mean_of t)
    ++ (codes ",\"middle\":" ++ (times_list middle.from middle.to ++ codes "},")))))))))
range_member t least greatest middle = []

abbrev pub times_member : Times → List ℕ
times_member t = range_member t t.least t.greatest (middle_of t)

abbrev pub busy_member : Option ℕ → List ℕ
busy_member None = []
busy_member (Some total) = codes "\"busy\":" ++ (decimal total ++ codes ",")

-- a member of a count that is known
abbrev pub count_member : List ℕ → Bool → ℕ → List ℕ
count_member name is_known count = if is_known then codes ",\"" ++ (name ++ (codes "\":"
    ++ decimal count)) else []

abbrev pub kind_members : Tally → List ℕ
kind_members t = codes "\"disc\":" ++ (decimal t.kinds.disc ++ (codes ",\"dm\":"
    ++ (decimal t.kinds.dm ++ (codes ",\"frmr\":" ++ (decimal t.kinds.frmr ++ (codes ",\"i\":"
    ++ decimal t.kinds.i))))))

abbrev pub message_members : Tally → List ℕ
message_members t = count_member (codes "messages") (is_counted t) (messages_of t)
    ++ (codes ",\"octets\":" ++ (decimal t.octets ++ (codes ",\"polls\":" ++ decimal t.polls)))

abbrev pub first_members : Tally → List ℕ
first_members t = kind_members t ++ message_members t

abbrev pub last_members : Tally → List ℕ
last_members t = codes ",\"rej\":" ++ (decimal t.kinds.rej
    ++ (count_member (codes "repeated") (is_counted t) t.repeated ++ (codes ",\"rnr\":" ++ (decimal t.kinds.rnr ++ (codes ",\"rr\":"
    ++ (decimal t.kinds.rr ++ (codes ",\"sabme\":" ++ (decimal t.kinds.sabme
    ++ (codes ",\"ua\":" ++ (decimal t.kinds.ua ++ (codes ",\"ui\":" ++ (decimal t.kinds.ui
    ++ (count_member (codes "unfollowed") (nat_lt 0 t.unfollowed) t.unfollowed
    ++ (codes ",\"xid\":" ++ (decimal t.kinds.xid ++ codes "}")))))))))))))))

abbrev pub end_object : Tally → List ℕ
end_object t = codes "{" ++ (times_member t.times
    ++ (busy_member t.busy.total ++ (first_members t ++ last_members t)))

abbrev pub followed_member : Option ℕ → List ℕ
followed_member None = []
followed_member (Some packet) = codes ",\"followed\":" ++ decimal packet

abbrev pub object_head : LinkTally → List ℕ
object_head t = codes "{\"establishments\":" ++ (decimal t.establishments
    ++ (followed_member t.followed ++ codes ",\"network\":"))

abbrev pub address_members : LinkTally → List ℕ
address_members t = codes ",\"sapi\":" ++ (decimal (sapi_value t.sapi) ++ (codes ",\"tei\":"
    ++ (decimal t.tei ++ codes ",\"user\":")))

abbrev pub object_front : LinkTally → List ℕ
object_front t = object_head t ++ end_object t.network

abbrev pub object_rest : LinkTally → List ℕ
object_rest t = address_members t ++ (end_object t.user ++ codes "}\n")

abbrev pub link_object : LinkTally → List ℕ
link_object t = object_front t ++ object_rest t

-- ---- Both.

abbrev pub link_text : Style → LinkTally → List ℕ
link_text Plain t = link_lines t
link_text Named t = link_lines t
link_text Brief t = link_lines t
link_text Json t = link_object t
link_text NamedJson t = link_object t

-- a link of which no frame was seen has no table
abbrev pub place_text : Style → Option LinkTally → List ℕ
place_text style None = []
place_text style (Some t) = link_text style t

-- the tables of all links, by SAPI and then by TEI
abbrev pub tables_text : Style → List (Option LinkTally) → List ℕ
tables_text style links = flat_map (place_text style) links

-- how printing them ends
abbrev pub TablesEnd : List ℕ → Result ⊤ ScriptFault → Option (List ℕ) → Option (List ℕ) → Type 0
TablesEnd text (Ok done) old new = Appends old new text
TablesEnd text (Err Memory) old new = Keeps old new
TablesEnd text (Err Device) old new = ⊤
TablesEnd text (Err (BadLine number)) old new = ⊥
TablesEnd text (Err (Port fault)) old new = ⊥
