-- The values that the words of a line have by the form of the line, and which lines have a form.
use Rattle.std.specs.Prelude.{◌≡◌, ℕ, ◌-◌, ◌==◌, ◌&&◌, ◌||◌, nat_le, not, Bool, true, false, List, [], ◌∷◌, length, slice_index, take, codes, if◌then◌else◌, Option, Some, None, is_some, option_and_then, option_map, Result, Ok, Err, ⊤}
use Rattle.std.specs.List.{join_with_byte}
use Rattle.std.specs.Str.{bytes_eq, is_utf8}
use Rattle.lapd_frame.specs.Address.{sapi_at, number_at}
use Rattle.lapd_frame.specs.declared.Sapi.{Sapi as SapiValue}
use Rattle.lapd_cli_script.specs.Line.{parsed_number, octets_behind, words_of}
use Rattle.lapd_cli_script.specs.Script.{is_passed_over}
use Rattle.lapd_cli_script.specs.declared.script.LineFault.{LineFault}
use Rattle.lapd_cli_script.specs.declared.script.LineFault.TheVariants.{Bad as LineBad, Memory as LineMemory}
use Rattle.lapd_cli_grammar.specs.declared.form.Argument.{Argument}
use Rattle.lapd_cli_grammar.specs.declared.form.Argument.TheVariants.{Delay, FixedTei, Hex, Loss, Message, Milliseconds, OnOff, OptionalMilliseconds, OptionalSapi, Place, Reference, Sapi, Side, Station, Tei, Terminal, Words}
use Rattle.lapd_cli_grammar.specs.declared.script.Script.{Script}
use Rattle.lapd_cli_grammar.specs.declared.unread.Unread.{Unread}
use Rattle.lapd_cli_grammar.specs.declared.unread.Unread.TheVariants.{Bad, Memory}
use Rattle.lapd_cli_grammar.specs.declared.values.Values.{Values}
use Rattle.lapd_cli_grammar.specs.Forms.{Shape, shape_named}

-- ---- The value of a word.

-- a number below 256 in decimal digits; likewise a TEI, 0 to 127, and a SAPI, 0, 16 or 63
abbrev pub octet_at : ℕ → Option ℕ
octet_at n = if nat_le n 255 then Some n else None

abbrev pub parsed_octet : List ℕ → Option ℕ
parsed_octet word = option_and_then octet_at (parsed_number word)

abbrev pub parsed_tei : List ℕ → Option ℕ
parsed_tei word = option_and_then number_at (parsed_octet word)

abbrev pub parsed_sapi : List ℕ → Option SapiValue
parsed_sapi word = option_and_then sapi_at (parsed_octet word)

-- the fixed TEI of a terminal, 0 to 126
abbrev pub fixed_at : ℕ → Option ℕ
fixed_at tei = if nat_le tei 126 then Some tei else None

abbrev pub parsed_fixed : List ℕ → Option ℕ
parsed_fixed word = option_and_then fixed_at (parsed_tei word)

-- the octets that a word spells in hexadecimal digits
abbrev pub parsed_octets : List ℕ → Option (List ℕ)
parsed_octets word = octets_behind (words_of word)

-- a time, from 1 ms to an hour
abbrev pub span_at : ℕ → Option ℕ
span_at ms = if nat_le 1 ms && nat_le ms 3600000 then Some ms else None

abbrev pub parsed_span : List ℕ → Option ℕ
parsed_span word = option_and_then span_at (parsed_number word)

-- the delay of frames, from 0 ms to an hour
abbrev pub delay_at : ℕ → Option ℕ
delay_at ms = if nat_le ms 3600000 then Some ms else None

abbrev pub parsed_delay : List ℕ → Option ℕ
parsed_delay word = option_and_then delay_at (parsed_number word)

-- 0 to 100 per cent, in digits, with or without a `%` at the end
abbrev pub without_percent : List ℕ → List ℕ
without_percent word = if slice_index word (length word - 1) == 37
    then take (length word - 1) word else word

abbrev pub percent_at : ℕ → Option ℕ
percent_at n = if nat_le n 100 then Some n else None

abbrev pub parsed_loss : List ℕ → Option ℕ
parsed_loss word = option_and_then percent_at (parsed_number (without_percent word))

-- `on` or `off`
abbrev pub parsed_switch : List ℕ → Option Bool
parsed_switch word = if bytes_eq word (codes "on") then Some true else (
    if bytes_eq word (codes "off") then Some false else None)

-- text of at least one octet
abbrev pub parsed_text : List ℕ → Option (List ℕ)
parsed_text word = if not (length word == 0) && is_utf8 word then Some word else None

-- four hexadecimal digits
abbrev pub parsed_reference : List ℕ → Option (List ℕ)
parsed_reference word = if length word == 4 then parsed_octets word else None

-- `user` or `net`
abbrev pub parsed_side : List ℕ → Option ⊤
parsed_side word = if bytes_eq word (codes "user") || bytes_eq word (codes "net") then Some tt
    else None

-- `net`, which is no terminal, or the number of a terminal
abbrev pub parsed_station : List ℕ → Option (Option ℕ)
parsed_station word = if bytes_eq word (codes "net") then Some None
    else option_map Some (parsed_number word)

-- ---- The values of a line's words. A value that no word has is `None`, 0, empty or false.

pub record LineValues : Type 0 where
  pub terminal : Option ℕ
  pub place : Option ℕ
  pub sapi : Option SapiValue
  pub tei : Option ℕ
  pub ms : Option ℕ
  pub octets : List ℕ
  pub on : Bool
  pub loss : ℕ
  pub delay : ℕ
  pub text : List ℕ

abbrev pub no_values : LineValues
no_values = record {
  terminal = None;
  place = None;
  sapi = None;
  tei = None;
  ms = None;
  octets = [];
  on = false;
  loss = 0;
  delay = 0;
  text = [];
}

-- with the value of a word of this argument; `None` if the word is not valid. Of a message, a
-- reference number and the side of a pair the value is not kept.
abbrev pub with_word : Argument → List ℕ → LineValues → Option LineValues
with_word Delay word v = option_map (λ ms. record v { delay = ms }) (parsed_delay word)
with_word FixedTei word v = option_map (λ tei. record v { tei = Some tei }) (parsed_fixed word)
with_word Hex word v = option_map (λ octets. record v { octets = octets }) (parsed_octets word)
with_word Loss word v = option_map (λ loss. record v { loss = loss }) (parsed_loss word)
with_word Message word v = option_map (λ n. v) (parsed_number word)
with_word Milliseconds word v = option_map (λ ms. record v { ms = Some ms }) (parsed_span word)
with_word OnOff word v = option_map (λ on. record v { on = on }) (parsed_switch word)
with_word OptionalMilliseconds word v =
    option_map (λ ms. record v { ms = Some ms }) (parsed_span word)
with_word OptionalSapi word v = option_map (λ s. record v { sapi = Some s }) (parsed_sapi word)
with_word Place word v = option_map (λ n. record v { place = Some n }) (parsed_number word)
with_word Reference word v = option_map (λ ri. v) (parsed_reference word)
with_word Sapi word v = option_map (λ s. record v { sapi = Some s }) (parsed_sapi word)
with_word Side word v = option_map (λ side. v) (parsed_side word)
with_word Station word v = option_map (λ n. record v { terminal = n }) (parsed_station word)
with_word Tei word v = option_map (λ tei. record v { tei = Some tei }) (parsed_tei word)
with_word Terminal word v = option_map (λ n. record v { terminal = Some n }) (parsed_number word)
with_word Words word v = option_map (λ text. record v { text = text }) (parsed_text word)

-- ---- The words of a line.

-- octets in hexadecimal digits
abbrev pub is_hex : Argument → Bool
is_hex Hex = true
is_hex argument = false

-- the form has a square bracket before this argument, whose word may be left out
abbrev pub has_bracket : Argument → Bool
has_bracket Delay = true
has_bracket FixedTei = true
has_bracket OptionalMilliseconds = true
has_bracket OptionalSapi = true
has_bracket argument = false

-- the word of this argument may be left out, with all words after it
abbrev pub is_left_out : Argument → Bool
is_left_out Hex = true
is_left_out argument = has_bracket argument

-- with the values of these words by the arguments, in order; `None` if a word is not valid, or one
-- is missing or left
abbrev pub with_words : List Argument → List (List ℕ) → LineValues → Option LineValues
with_words [] [] v = Some v
with_words [] (word ∷ words) v = None
with_words (argument ∷ arguments) [] v = if is_left_out argument then Some v else None
with_words (argument ∷ arguments) (word ∷ words) v =
    option_and_then (with_words arguments words) (with_word argument word v)

-- the words up to the last one, and the last one
abbrev pub words_before : List ℕ → List (List ℕ) → List (List ℕ)
words_before word [] = []
words_before word (next ∷ words) = word ∷ words_before next words

abbrev pub last_word : List ℕ → List (List ℕ) → List ℕ
last_word word [] = word
last_word word (next ∷ words) = last_word next words

-- two words: all words up to the last one, joined by their spaces, and the last one; or the only
-- word
abbrev pub text_and_last_of : List ℕ → List (List ℕ) → List (List ℕ)
text_and_last_of word [] = word ∷ []
text_and_last_of word (next ∷ words) = join_with_byte 32 (words_before word (next ∷ words))
    ∷ last_word word (next ∷ words) ∷ []

abbrev pub text_and_last : List (List ℕ) → List (List ℕ)
text_and_last [] = []
text_and_last (word ∷ words) = text_and_last_of word words

-- the arguments begin with WORDS..
abbrev pub is_words : Argument → Bool
is_words Words = true
is_words argument = false

abbrev pub begin_with_words : List Argument → Bool
begin_with_words [] = false
begin_with_words (argument ∷ arguments) = is_words argument

-- the words of a line by the arguments of its form: for WORDS.. all words up to the last one count
-- as one
abbrev pub by_arguments : List Argument → List (List ℕ) → List (List ℕ)
by_arguments arguments words = if begin_with_words arguments then text_and_last words else words

abbrev pub values_by : Option Shape → List (List ℕ) → Option LineValues
values_by None behind = None
values_by (Some shape) behind = with_words shape.1 (by_arguments shape.1 behind) no_values

-- ---- A line.

-- the first word of a command's line, and the values of the others; `None` if the line has no form
-- of the command's
abbrev pub parsed_words : Script → List (List ℕ) → Option (List ℕ × LineValues)
parsed_words script [] = None
parsed_words script (word ∷ behind) =
    option_map (λ v. (word, v)) (values_by (shape_named script word) behind)

abbrev pub parsed_line : Script → List ℕ → Option (List ℕ × LineValues)
parsed_line script line = parsed_words script (words_of line)

-- the line is skipped, or has a valid form for the command
abbrev pub is_line_of : Script → List ℕ → Bool
is_line_of script line = is_passed_over line || is_some (parsed_line script line)

-- ---- How the code reads.

-- a line's words are read as defined, seen by `view`, or an allocation fails
abbrev pub ReadsForm : {X Y : Type 0} → (X → Y) → Result X Unread → Option Y → Type 0
ReadsForm view (Ok x) parsed = parsed ≡ Some (view x)
ReadsForm view (Err (Bad fault)) parsed = parsed ≡ None
ReadsForm view (Err Memory) parsed = ⊤

abbrev pub line_fault_of : Unread → LineFault
line_fault_of (Bad fault) = LineBad
line_fault_of Memory = LineMemory

abbrev pub line_values : Values → LineValues
line_values v = record {
  terminal = v.terminal;
  place = v.place;
  sapi = v.sapi;
  tei = v.tei;
  ms = v.ms;
  octets = v.octets.items;
  on = v.on;
  loss = v.loss;
  delay = v.delay;
  text = v.text.now;
}
