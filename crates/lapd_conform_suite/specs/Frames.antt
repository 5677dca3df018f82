-- Frames in words, with the hexadecimal digits of their octets.
use Rattle.std.specs.Prelude.{ℕ, ◌%◌, ◌==◌, ◌&&◌, not, Bool, true, false, List, [], ◌∷◌, length, codes, if◌then◌else◌, Option, Some, None, Result, Ok, Err}
use Rattle.std.specs.Char.{is_ascii_hexdigit}
use Rattle.std.specs.Str.{bytes_eq}
use Rattle.lapd_frame.specs.declared.Role.{Role}
use Rattle.lapd_frame.specs.declared.Role.TheVariants as role
use Rattle.lapd_conform_suite.specs.declared.fault.Wanted.TheVariants as wanted
use Rattle.lapd_conform_suite.specs.declared.frame.Fields.{Fields}
use Rattle.lapd_conform_suite.specs.declared.frame.Information.{Information}
use Rattle.lapd_conform_suite.specs.declared.frame.Information.TheVariants as information
use Rattle.lapd_conform_suite.specs.declared.frame.Pattern.{Pattern}
use Rattle.lapd_conform_suite.specs.declared.frame.Pattern.TheVariants as pattern
use Rattle.lapd_conform_suite.specs.declared.number.Value.{Value}
use Rattle.lapd_conform_suite.specs.declared.number.Value.TheVariants as value
use Rattle.lapd_conform_suite.specs.declared.words.Field.{Field}
use Rattle.lapd_conform_suite.specs.declared.words.Field.TheVariants as field
use Rattle.lapd_conform_suite.specs.declared.words.Kind.{Kind}
use Rattle.lapd_conform_suite.specs.declared.words.Opening.{Opening}
use Rattle.lapd_conform_suite.specs.declared.words.Opening.TheVariants as opening
use Rattle.lapd_conform_suite.specs.Numbers.{number_at, value_in}
use Rattle.lapd_conform_suite.specs.Reading.{Wrong, ended, first_of, front_value, read_on, rest_of, value_at}
use Rattle.lapd_conform_suite.specs.Words.{fields, is_information, kinds, openings, roles, tei_kinds}

-- ---- Octets in hexadecimal digits.

abbrev pub all_digits : List ℕ → Bool
all_digits [] = true
all_digits (octet ∷ octets) = is_ascii_hexdigit octet && all_digits octets

abbrev pub hex_octets : List ℕ → Result (List ℕ) Wrong
hex_octets word = if not (length word == 0) && length word % 2 == 0 && all_digits word
    then Ok word else Err (word, wanted.Octets)

-- ---- Fields.

-- the fields, and the digits of the information
abbrev pub Read : Type 0
Read = Fields × List ℕ

abbrev pub no_fields : Fields
no_fields = record {
  send_number = value.LeftOut;
  receive_number = value.LeftOut;
  bit = value.LeftOut;
  sapi = value.LeftOut;
  tei = value.LeftOut;
  reference = value.LeftOut;
  action_indicator = value.LeftOut;
  information = information.LeftOut;
}

abbrev pub with_field : Field → Value → Fields → Fields
with_field field.SendNumber v f = record f { send_number = v }
with_field field.ReceiveNumber v f = record f { receive_number = v }
with_field field.Poll v f = record f { bit = v }
with_field field.Final v f = record f { bit = v }
with_field field.Sapi v f = record f { sapi = v }
with_field field.Tei v f = record f { tei = v }
with_field field.Reference v f = record f { reference = v }
with_field field.ActionIndicator v f = record f { action_indicator = v }
with_field field.Information v f = f

abbrev pub with_information : Information → Fields → Fields
with_information i f = record f { information = i }

-- `N201`, `N201+1`, or octets in hexadecimal digits
abbrev pub information_in : List ℕ → Read → Result Read Wrong
information_in word read =
    if bytes_eq word (codes "N201")
    then Ok (with_information information.Longest read.0, read.1) else (
    if bytes_eq word (codes "N201+1")
    then Ok (with_information information.TooLong read.0, read.1) else
    read_on (hex_octets word) (λ digits. Ok (with_information information.Octets read.0, digits)))

abbrev pub by_field : Field → List ℕ → Read → Result Read Wrong
by_field f word read = if is_information f then information_in word read
    else read_on (value_in word) (λ v. Ok (with_field f v read.0, read.1))

abbrev pub by_front : List ℕ → Option (Field × List ℕ) → Read → Result Read Wrong
by_front word None read = Err (word, wanted.Field)
by_front word (Some front) read = by_field front.0 front.1 read

-- with the field of this word, which begins with its name
abbrev pub after_field : List ℕ → Read → Result Read Wrong
after_field word read = by_front word (front_value fields word) read

abbrev pub after_fields : List (List ℕ) → Read → Result Read Wrong
after_fields [] read = Ok read
after_fields (word ∷ words) read =
    read_on (after_field word read) (λ next. after_fields words next)

abbrev pub kind_and_fields : List (List ℕ) → Result (Kind × Read) Wrong
kind_and_fields words = read_on (value_at kinds wanted.Kind (first_of words)) (λ kind.
    read_on (after_fields (rest_of words) (no_fields, [])) (λ read. Ok (kind, read)))

-- ---- Frames.

abbrev pub FrameWords : Type 0
FrameWords = Pattern × List ℕ

abbrev pub of_role : Role → Kind → Fields → Pattern
of_role role.Command kind f = pattern.Command kind f
of_role role.Answer kind f = pattern.Response kind f

abbrev pub link_frame : Role → List (List ℕ) → Result FrameWords Wrong
link_frame r words = read_on (kind_and_fields words) (λ k. Ok (of_role r k.0 (k.1).0, (k.1).1))

abbrev pub frame_by : Opening → List (List ℕ) → Result FrameWords Wrong
frame_by opening.Command words = link_frame role.Command words
frame_by opening.Response words = link_frame role.Answer words
frame_by opening.CommandOrResponse words =
    read_on (kind_and_fields words) (λ k. Ok (pattern.Either k.0 (k.1).0, (k.1).1))
frame_by opening.Tei words = read_on (value_at tei_kinds wanted.TeiKind (first_of words)) (λ kind.
    read_on (after_fields (rest_of words) (no_fields, [])) (λ read.
    Ok (pattern.Tei kind read.0, read.1)))
frame_by opening.Octets words = read_on (value_at roles wanted.Opening (first_of words)) (λ r.
    read_on (hex_octets (first_of (rest_of words))) (λ digits.
    read_on (ended (rest_of (rest_of words))) (λ done. Ok (pattern.Octets r, digits))))
frame_by opening.Raw words = read_on (hex_octets (first_of words)) (λ digits.
    read_on (ended (rest_of words)) (λ done. Ok (pattern.Raw, digits)))
frame_by opening.Acknowledgement words = read_on (number_at (first_of words)) (λ n.
    read_on (ended (rest_of words)) (λ done. Ok (pattern.Acknowledgement n, [])))
frame_by opening.Nothing words = read_on (ended words) (λ done. Ok (pattern.Nothing, []))

abbrev pub frame_in : List (List ℕ) → Result FrameWords Wrong
frame_in words = read_on (value_at openings wanted.Opening (first_of words))
    (λ o. frame_by o (rest_of words))

-- ---- What a frame in words is good for.

abbrev pub is_known : Value → Bool
is_known (value.Choice c) = false
is_known v = true

abbrev pub are_known : Fields → Bool
are_known f = is_known f.send_number && is_known f.receive_number && is_known f.bit
    && is_known f.sapi && is_known f.tei && is_known f.reference && is_known f.action_indicator

-- it can be sent: its role and all its values are known
abbrev pub is_sendable : Pattern → Bool
is_sendable (pattern.Command kind f) = are_known f
is_sendable (pattern.Response kind f) = are_known f
is_sendable (pattern.Tei kind f) = are_known f
is_sendable (pattern.Octets r) = true
is_sendable pattern.Raw = true
is_sendable other = false

-- it is compared by its fields
abbrev pub is_comparable : Pattern → Bool
is_comparable (pattern.Octets r) = false
is_comparable pattern.Raw = false
is_comparable other = true
