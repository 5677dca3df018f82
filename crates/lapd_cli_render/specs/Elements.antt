-- The information elements of a Q.931 message (4.5) that are printed behind its call reference. An
-- element is here the list of its octets.
use Rattle.std.specs.Prelude.{ℕ, zero, suc, ◌+◌, ◌/◌, ◌%◌, ◌==◌, ◌||◌, ◌&&◌, nat_lt, if◌then◌else◌, Bool, List, [], ◌∷◌, ◌++◌, codes, length, map, take, Option, Some, None}
use Rattle.std.specs.Fmt.{decimal}
use Rattle.std.specs.List.{flat_map}
use Rattle.lapd_cli_render.specs.declared.channel.Channel.{Channel}
use Rattle.lapd_cli_render.specs.declared.channel.Channel.TheVariants.{NoChannel, B1, B2, AnyChannel, Number}

-- ---- The list of elements (4.5.1).

-- the length octet of an element, even if it is missing, and the contents that it counts
abbrev pub counted : List ℕ → ℕ
counted [] = 1
counted (count ∷ contents) = 1 + count

-- how many octets of an element follow its first: none if bit 8 of the first is 1, else a length
-- and contents
abbrev pub octets_behind : ℕ → List ℕ → ℕ
octets_behind first octets = if first / 128 == 1 then 0 else counted octets

-- the list ends at a shift, 1001xxxx, after which the elements belong to another codeset (4.5.3,
-- 4.5.4), and at an element that is cut short
abbrev pub ends_list : ℕ → List ℕ → Bool
ends_list first octets = first / 16 == 9 || nat_lt (length octets) (octets_behind first octets)

-- the elements in these octets, without the first `skipped`, which belong to the element before
unfoldable pub elements_after : ℕ → List ℕ → List (List ℕ)
elements_after skipped [] = []
elements_after (suc skipped) (first ∷ octets) = elements_after skipped octets
elements_after zero (first ∷ octets) = if ends_list first octets then [] else
    (first ∷ take (octets_behind first octets) octets)
    ∷ elements_after (octets_behind first octets) octets

abbrev pub elements_in : List ℕ → List (List ℕ)
elements_in octets = elements_after 0 octets

-- ---- The contents of an element, from its octet 3 on.

-- the names of the information transfer capabilities, by octet 3 without its bit 8 (4.5.5): bits 7
-- and 6 are 0 in the coding standard of ITU-T
abbrev pub capability_name : ℕ → Option (List ℕ)
capability_name coded = if coded == 0 then Some (codes "speech") else (
    if coded == 8 then Some (codes "unrestricted") else (
    if coded == 9 then Some (codes "restricted") else (
    if coded == 16 then Some (codes "3.1kHz") else (
    if coded == 17 then Some (codes "tones") else (
    if coded == 24 then Some (codes "video") else None)))))

-- a name, or a number if there is none
abbrev pub name_or_digits : ℕ → Option (List ℕ) → List ℕ
name_or_digits number None = decimal number
name_or_digits number (Some name) = name

-- bearer capability (4.5.5)
abbrev pub bearer_text : List ℕ → List ℕ
bearer_text [] = []
bearer_text (third ∷ octets) = codes " bearer="
    ++ name_or_digits (third % 32) (capability_name (third % 128))

abbrev pub without_first : List ℕ → Option (List ℕ)
without_first [] = None
without_first (first ∷ octets) = Some octets

-- the octets after octet 3, and after octet 3a, which is present if bit 8 of octet 3 is 0
abbrev pub behind_octet_3 : List ℕ → Option (List ℕ)
behind_octet_3 [] = None
behind_octet_3 (third ∷ octets) = if third / 128 == 0 then without_first octets else Some octets

-- cause (4.5.12): its value, of Q.850, is in bits 1 to 7 of octet 4
abbrev pub value_text : List ℕ → List ℕ
value_text [] = []
value_text (fourth ∷ octets) = codes " cause=" ++ decimal (fourth % 128)

abbrev pub cause_text : Option (List ℕ) → List ℕ
cause_text None = []
cause_text (Some octets) = value_text octets

-- an octet of a number, an IA5 character: all but letters, digits and signs are printed as `?`, and
-- so are the quotation mark and the backslash, which a JSON text would escape
abbrev pub shown_digit : ℕ → ℕ
shown_digit octet = if nat_lt octet 33 || nat_lt 126 octet || octet == 34 || octet == 92 then 63
    else octet

-- calling party number (4.5.10)
abbrev pub calling_text : Option (List ℕ) → List ℕ
calling_text None = []
calling_text (Some digits) = codes " calling=" ++ map shown_digit digits

-- called party number (4.5.8)
abbrev pub called_text : List ℕ → List ℕ
called_text [] = []
called_text (third ∷ digits) = codes " called=" ++ map shown_digit digits

-- channel identification (4.5.13) of a basic interface, by bits 2 and 1 of octet 3
abbrev pub basic_channel : ℕ → Channel
basic_channel selection = if selection == 0 then NoChannel else (
    if selection == 1 then B1 else (
    if selection == 2 then B2 else AnyChannel))

-- a channel by octets 3.2 and 3.3: bit 5 of octet 3.2 is 0 if the channel has a number, and is not
-- in a map
abbrev pub numbered_channel : ℕ → List ℕ → Option Channel
numbered_channel coded [] = None
numbered_channel coded (number ∷ octets) =
    if coded / 16 % 2 == 0 then Some (Number (number % 128)) else None

abbrev pub indicated_channel : List ℕ → Option Channel
indicated_channel [] = None
indicated_channel (coded ∷ octets) = numbered_channel coded octets

-- of another interface: the octets that follow indicate the channel if bits 2 and 1 are 01. They
-- begin with octet 3.2 if bit 7 of octet 3 is 0, else an interface identifier is before it.
abbrev pub other_channel : ℕ → List ℕ → Option Channel
other_channel third octets = if third % 4 == 0 then Some NoChannel else (
    if third % 4 == 3 then Some AnyChannel else (
    if third % 4 == 1 && (third / 64 % 2 == 0) then indicated_channel octets else None))

-- bit 6 of octet 3 is 0 on a basic interface
abbrev pub channel_at : List ℕ → Option Channel
channel_at [] = None
channel_at (third ∷ octets) = if third / 32 % 2 == 0 then Some (basic_channel (third % 4))
    else other_channel third octets

abbrev pub channel_name : Channel → List ℕ
channel_name NoChannel = codes "none"
channel_name B1 = codes "B1"
channel_name B2 = codes "B2"
channel_name AnyChannel = codes "any"
channel_name (Number number) = decimal number

abbrev pub channel_text : Option Channel → List ℕ
channel_text None = []
channel_text (Some channel) = codes " channel=" ++ channel_name channel

-- ---- The text.

-- by the identifier: bearer capability, cause, channel identification, calling and called party
-- number
abbrev pub contents_text : ℕ → List ℕ → List ℕ
contents_text identifier contents = if identifier == 0x04 then bearer_text contents else (
    if identifier == 0x08 then cause_text (behind_octet_3 contents) else (
    if identifier == 0x18 then channel_text (channel_at contents) else (
    if identifier == 0x6C then calling_text (behind_octet_3 contents) else (
    if identifier == 0x70 then called_text contents else []))))

abbrev pub text_behind : ℕ → List ℕ → List ℕ
text_behind identifier [] = []
text_behind identifier (count ∷ contents) = contents_text identifier contents

unfoldable pub element_text : List ℕ → List ℕ
element_text [] = []
element_text (identifier ∷ octets) = text_behind identifier octets

-- the printed elements, in order
unfoldable pub elements_text : List ℕ → List ℕ
elements_text octets = flat_map element_text (elements_in octets)
