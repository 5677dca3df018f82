-- The settings of a stack file: the meaning of a line.
use Rattle.std.specs.Prelude.{ℕ, Bool, true, false, List, [], ◌∷◌, codes, if◌then◌else◌, Some, None, Result, Ok}
use Rattle.std.specs.Str.{bytes_eq}
use Rattle.lapd_cli_script.specs.Line.{words_of}
use Rattle.lapd_conform_suite.specs.declared.words.Request.{Request}
use Rattle.lapd_conform_suite.specs.declared.words.Request.TheVariants as request
use Rattle.lapd_conform_player.specs.declared.stack.Requests.{Requests}
use Rattle.lapd_conform_player.specs.declared.stack.Stack.{Stack}
use Rattle.lapd_cli_conform.specs.declared.fault.Needed.TheVariants as wanted
use Rattle.lapd_cli_conform.specs.declared.setting.Setting.{Setting}
use Rattle.lapd_cli_conform.specs.declared.setting.Setting.TheVariants as setting
use Rattle.lapd_cli_conform.specs.declared.setting.SettingName.{SettingName}
use Rattle.lapd_cli_conform.specs.declared.setting.SettingName.TheVariants as name
use Rattle.lapd_conform_suite.specs.Reading.{first_of, read_on, rest_of}
use Rattle.lapd_cli_conform.specs.Reading.{Wrong, ended, number_in, value_at}

-- ---- The words.

-- the first word of a line
abbrev pub names : List (List ℕ × SettingName)
names =
    (codes "tei", name.Tei)
    ∷ (codes "k", name.Window)
    ∷ (codes "n200", name.N200)
    ∷ (codes "n202", name.N202)
    ∷ (codes "t200", name.T200)
    ∷ (codes "t201", name.T201)
    ∷ (codes "t202", name.T202)
    ∷ (codes "t203", name.T203)
    ∷ (codes "sapis", name.Sapis)
    ∷ (codes "layer3", name.Active)
    ∷ (codes "upper", name.Upper)
    ∷ (codes "confirms", name.Confirms)
    ∷ (codes "delay", name.Delay) ∷ []

-- the requests that an upper tester may take
abbrev pub requests : List (List ℕ × Request)
requests =
    (codes "establish", request.Establish)
    ∷ (codes "release", request.Release)
    ∷ (codes "give", request.Give)
    ∷ (codes "unit", request.Unit)
    ∷ (codes "busy", request.Busy)
    ∷ (codes "ask", request.Ask)
    ∷ (codes "check", request.Check)
    ∷ (codes "remove", request.Remove) ∷ []

-- whether some SAPIs are served only
abbrev pub shares : List (List ℕ × Bool)
shares = (codes "some", true) ∷ (codes "all", false) ∷ []

-- whether layer 3 makes requests by itself
abbrev pub activities : List (List ℕ × Bool)
activities = (codes "active", true) ∷ (codes "passive", false) ∷ []

abbrev pub answers : List (List ℕ × Bool)
answers = (codes "yes", true) ∷ (codes "no", false) ∷ []

-- ---- The values.

-- a TEI, or the word for automatic ones
abbrev pub tei_in : List ℕ → Result Setting Wrong
tei_in word = if bytes_eq word (codes "automatic") then Ok (setting.Tei None)
    else read_on (number_in 0 126 wanted.Tei word) (λ n. Ok (setting.Tei (Some n)))

-- the milliseconds of a timer that each stack has
abbrev pub timer_in : List ℕ → Result ℕ Wrong
timer_in word = number_in 1 3600000 wanted.Duration word

-- the milliseconds of T203, or the word for none
abbrev pub idle_in : List ℕ → Result Setting Wrong
idle_in word = if bytes_eq word (codes "none") then Ok (setting.T203 None)
    else read_on (number_in 1 3600000 wanted.IdleDuration word) (λ n. Ok (setting.T203 (Some n)))

abbrev pub no_requests : Requests
no_requests = record {
  establish = false;
  release = false;
  give = false;
  unit = false;
  busy = false;
  ask = false;
  check = false;
  remove = false;
}

-- `busy` is a request with two words: `busy` and `ready`
abbrev pub with_request : Requests → Request → Requests
with_request r request.Establish = record r { establish = true }
with_request r request.Release = record r { release = true }
with_request r request.Give = record r { give = true }
with_request r request.Unit = record r { unit = true }
with_request r request.Busy = record r { busy = true }
with_request r request.Ready = record r { busy = true }
with_request r request.Ask = record r { ask = true }
with_request r request.Check = record r { check = true }
with_request r request.Remove = record r { remove = true }

-- these requests, and those that the words name
abbrev pub requests_from : Requests → List (List ℕ) → Result Setting Wrong
requests_from r [] = Ok (setting.Upper r)
requests_from r (word ∷ words) = read_on (value_at requests wanted.Request word) (λ q.
    requests_from (with_request r q) words)

-- ---- A line.

-- the setting of this name with this value
abbrev pub one_in : SettingName → List ℕ → Result Setting Wrong
one_in name.Tei word = tei_in word
one_in name.Window word = read_on (number_in 1 127 wanted.Window word) (λ n. Ok (setting.Window n))
one_in name.N200 word = read_on (number_in 1 100 wanted.Times word) (λ n. Ok (setting.N200 n))
one_in name.N202 word = read_on (number_in 1 100 wanted.Times word) (λ n. Ok (setting.N202 n))
one_in name.T200 word = read_on (timer_in word) (λ n. Ok (setting.T200 n))
one_in name.T201 word = read_on (timer_in word) (λ n. Ok (setting.T201 n))
one_in name.T202 word = read_on (timer_in word) (λ n. Ok (setting.T202 n))
one_in name.T203 word = idle_in word
one_in name.Sapis word =
    read_on (value_at shares wanted.Sapis word) (λ is. Ok (setting.Sapis is))
one_in name.Active word =
    read_on (value_at activities wanted.LayerThree word) (λ is. Ok (setting.Active is))
one_in name.Upper word = Ok (setting.Upper no_requests)
one_in name.Confirms word =
    read_on (value_at answers wanted.Confirms word) (λ is. Ok (setting.Confirms is))
one_in name.Delay word = read_on (number_in 0 10000 wanted.Delay word) (λ n. Ok (setting.Delay n))

-- one value and the end of the line
abbrev pub alone : SettingName → List (List ℕ) → Result Setting Wrong
alone name words = read_on (one_in name (first_of words)) (λ s.
    read_on (ended (rest_of words)) (λ done. Ok s))

-- `upper` takes any number of values, every other name one
abbrev pub setting_by : SettingName → List (List ℕ) → Result Setting Wrong
setting_by name.Upper words = requests_from no_requests words
setting_by other words = alone other words

abbrev pub setting_of : List (List ℕ) → Result Setting Wrong
setting_of words = read_on (value_at names wanted.Name (first_of words)) (λ name.
    setting_by name (rest_of words))

abbrev pub setting_in : List ℕ → Result Setting Wrong
setting_in line = setting_of (words_of line)

-- ---- The stack after a line.

abbrev pub with_setting : Stack → Setting → Stack
with_setting s (setting.Tei tei) = record s { tei = tei }
with_setting s (setting.Window k) = record s { k = k }
with_setting s (setting.N200 n) = record s { n200 = n }
with_setting s (setting.N202 n) = record s { n202 = n }
with_setting s (setting.T200 t) = record s { t200 = t }
with_setting s (setting.T201 t) = record s { t201 = t }
with_setting s (setting.T202 t) = record s { t202 = t }
with_setting s (setting.T203 (Some t)) = record s { t203 = t; has_t203 = true }
with_setting s (setting.T203 None) = record s { has_t203 = false }
with_setting s (setting.Sapis is) = record s { has_sapis = is }
with_setting s (setting.Active is) = record s { is_active = is }
with_setting s (setting.Upper requests) = record s { requests = requests }
with_setting s (setting.Confirms is) = record s { confirms = is }
with_setting s (setting.Delay t) = record s { delay = t }
