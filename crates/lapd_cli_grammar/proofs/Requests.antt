-- A command that has a request for the values of each of its forms has one for each line that has a
-- form.
use Rattle.std.proofs.Common.{◌≡◌, ℕ, List, [], ◌∷◌, Bool, true, false, refl, sym, cond, None, Some, subst}
use Rattle.std.specs.Prelude.{Option, option_and_then, option_map, is_some, find, ⊤}
use Rattle.std.specs.Str.{bytes_eq}
use Rattle.std.proofs.lemmas.Slice.Eq.{bytes_eq-Decides}
use Rattle.lapd_frame.specs.declared.Sapi.{Sapi as SapiValue}
use Rattle.lapd_cli_script.specs.Line.{parsed_number}
use Rattle.lapd_cli_grammar.specs.declared.form.Argument.{Argument}
use Rattle.lapd_cli_grammar.specs.declared.form.Argument.TheVariants.{Delay, FixedTei, Hex, Loss, Message, Milliseconds, OnOff, OptionalMilliseconds, OptionalSapi, Place, Reference, Sapi, Side, Station, Tei, Terminal, Words}
use Rattle.lapd_cli_grammar.specs.declared.script.Script.{Script}
use Rattle.lapd_cli_grammar.specs.Forms.{Shape, shapes_of}
use Rattle.lapd_cli_grammar.specs.Values.{LineValues, by_arguments, is_left_out, no_values, parsed_delay, parsed_fixed, parsed_loss, parsed_octets, parsed_reference, parsed_sapi, parsed_side, parsed_span, parsed_station, parsed_switch, parsed_tei, parsed_text, parsed_words, values_by, with_word, with_words}

-- ---- There is a request for all values that the words of these arguments may have.

-- this holds with each value that a word of this argument may have
abbrev WithEach : Argument → LineValues → (LineValues → Type 0) → Type 0
WithEach Delay v P = (ms : ℕ) → P (record v { delay = ms })
WithEach FixedTei v P = (tei : ℕ) → P (record v { tei = Some tei })
WithEach Hex v P = (octets : List ℕ) → P (record v { octets = octets })
WithEach Loss v P = (loss : ℕ) → P (record v { loss = loss })
WithEach Milliseconds v P = (ms : ℕ) → P (record v { ms = Some ms })
WithEach OnOff v P = (on : Bool) → P (record v { on = on })
WithEach OptionalMilliseconds v P = (ms : ℕ) → P (record v { ms = Some ms })
WithEach OptionalSapi v P = (s : SapiValue) → P (record v { sapi = Some s })
WithEach Place v P = (n : ℕ) → P (record v { place = Some n })
WithEach Sapi v P = (s : SapiValue) → P (record v { sapi = Some s })
WithEach Station v P = (n : Option ℕ) → P (record v { terminal = n })
WithEach Tei v P = (tei : ℕ) → P (record v { tei = Some tei })
WithEach Terminal v P = (n : ℕ) → P (record v { terminal = Some n })
WithEach Words v P = (text : List ℕ) → P (record v { text = text })
WithEach argument v P = P v

abbrev IfSo : Bool → Type 0 → Type 0
IfSo true P = P
IfSo false P = ⊤

abbrev pub HasRequests : {R : Type 0} → (LineValues → Option R) → List Argument → LineValues
    → Type 0
HasRequests req [] v = is_some (req v) ≡ true
HasRequests req (argument ∷ arguments) v =
    IfSo (is_left_out argument) (is_some (req v) ≡ true)
    × WithEach argument v (HasRequests req arguments)

abbrev pub AllHaveRequests : {R : Type 0} → (List ℕ × LineValues → Option R) → List Shape → Type 0
AllHaveRequests req [] = ⊤
AllHaveRequests req (shape ∷ shapes) =
    HasRequests (λ v. req (shape.0, v)) shape.1 no_values × AllHaveRequests req shapes

-- ---- Then values and request exist alike.

abbrev Same : {R : Type 0} → (LineValues → Option R) → Option LineValues → Type 0
Same req values = is_some (option_and_then req values) ≡ is_some values

mapped : {R X : Type 0} (req : LineValues → Option R) (more : LineValues → Option LineValues)
    (f : X → LineValues) (o : Option X) → ((x : X) → Same req (more (f x)))
    → Same req (option_and_then more (option_map f o))
mapped req more f None h = refl
mapped req more f (Some x) h = h x

each : {R : Type 0} (req : LineValues → Option R) (P : LineValues → Type 0)
    (more : LineValues → Option LineValues) → ((u : LineValues) → P u → Same req (more u))
    → (argument : Argument) (word : List ℕ) (v : LineValues) → WithEach argument v P
    → Same req (option_and_then more (with_word argument word v))
each req P more k Delay word v h =
    mapped req more (λ ms. record v { delay = ms }) (parsed_delay word)
    (λ ms. k (record v { delay = ms }) (h ms))
each req P more k FixedTei word v h =
    mapped req more (λ tei. record v { tei = Some tei }) (parsed_fixed word)
    (λ tei. k (record v { tei = Some tei }) (h tei))
each req P more k Hex word v h =
    mapped req more (λ octets. record v { octets = octets }) (parsed_octets word)
    (λ octets. k (record v { octets = octets }) (h octets))
each req P more k Loss word v h =
    mapped req more (λ loss. record v { loss = loss }) (parsed_loss word)
    (λ loss. k (record v { loss = loss }) (h loss))
each req P more k Message word v h = mapped req more (λ n. v) (parsed_number word) (λ n. k v h)
each req P more k Milliseconds word v h =
    mapped req more (λ ms. record v { ms = Some ms }) (parsed_span word)
    (λ ms. k (record v { ms = Some ms }) (h ms))
each req P more k OnOff word v h =
    mapped req more (λ on. record v { on = on }) (parsed_switch word)
    (λ on. k (record v { on = on }) (h on))
each req P more k OptionalMilliseconds word v h =
    mapped req more (λ ms. record v { ms = Some ms }) (parsed_span word)
    (λ ms. k (record v { ms = Some ms }) (h ms))
each req P more k OptionalSapi word v h =
    mapped req more (λ s. record v { sapi = Some s }) (parsed_sapi word)
    (λ s. k (record v { sapi = Some s }) (h s))
each req P more k Place word v h =
    mapped req more (λ n. record v { place = Some n }) (parsed_number word)
    (λ n. k (record v { place = Some n }) (h n))
each req P more k Reference word v h =
    mapped req more (λ ri. v) (parsed_reference word) (λ ri. k v h)
each req P more k Sapi word v h =
    mapped req more (λ s. record v { sapi = Some s }) (parsed_sapi word)
    (λ s. k (record v { sapi = Some s }) (h s))
each req P more k Side word v h = mapped req more (λ side. v) (parsed_side word) (λ side. k v h)
each req P more k Station word v h =
    mapped req more (λ n. record v { terminal = n }) (parsed_station word)
    (λ n. k (record v { terminal = n }) (h n))
each req P more k Tei word v h =
    mapped req more (λ tei. record v { tei = Some tei }) (parsed_tei word)
    (λ tei. k (record v { tei = Some tei }) (h tei))
each req P more k Terminal word v h =
    mapped req more (λ n. record v { terminal = Some n }) (parsed_number word)
    (λ n. k (record v { terminal = Some n }) (h n))
each req P more k Words word v h =
    mapped req more (λ text. record v { text = text }) (parsed_text word)
    (λ text. k (record v { text = text }) (h text))

left_out : {R : Type 0} (req : LineValues → Option R) (v : LineValues) (test : Bool)
    → IfSo test (is_some (req v) ≡ true) → Same req (cond test (Some v) None)
left_out req v true h = h
left_out req v false h = refl

of_values : {R : Type 0} (req : LineValues → Option R) (arguments : List Argument)
    (words : List (List ℕ)) (v : LineValues) → HasRequests req arguments v
    → Same req (with_words arguments words v)
of_values req [] [] v h = h
of_values req [] (word ∷ words) v h = refl
of_values req (argument ∷ arguments) [] v h = left_out req v (is_left_out argument) h.0
of_values req (argument ∷ arguments) (word ∷ words) v h =
    each req (HasRequests req arguments) (with_words arguments words)
    (λ u k. of_values req arguments words u k) argument word v h.1

-- ---- The words of a line.

abbrev of_word : {R : Type 0} → (List ℕ × LineValues → Option R) → List ℕ → LineValues → Option R
of_word req word v = req (word, v)

of_found : {R : Type 0} (req : List ℕ × LineValues → Option R) (word : List ℕ)
    (behind : List (List ℕ)) (shapes : List Shape) → AllHaveRequests req shapes
    → Same (of_word req word) (values_by (find (λ shape. bytes_eq word shape.0) shapes) behind)
of_found req word behind [] h = refl
of_found req word behind (shape ∷ shapes) h =
    let P : Bool → Type 0 =
    λ b. bytes_eq word shape.0 ≡ b → Same (of_word req word)
    (values_by (cond b (Some shape) (find (λ s. bytes_eq word s.0) shapes)) behind) in
    elim (bytes_eq word shape.0) as P [
      | true ↦ λ e. subst (λ text. Same (of_word req text)
          (with_words shape.1 (by_arguments shape.1 behind) no_values))
          (sym ((bytes_eq-Decides word shape.0).0 e))
          (of_values (of_word req shape.0) shape.1 (by_arguments shape.1 behind) no_values h.0)
      | false ↦ λ e. of_found req word behind shapes h.1
    ] refl

paired : {R : Type 0} (req : List ℕ × LineValues → Option R) (word : List ℕ)
    (values : Option LineValues) → Same (of_word req word) values
    → is_some (option_and_then req (option_map (λ v. (word, v)) values))
    ≡ is_some {T = List ℕ × LineValues} (option_map (λ v. (word, v)) values)
paired req word None h = refl
paired req word (Some v) h = h

pub requests_exist : {R : Type 0} (req : List ℕ × LineValues → Option R) (script : Script)
    → AllHaveRequests req (shapes_of script) → (words : List (List ℕ))
    → is_some (option_and_then req (parsed_words script words))
    ≡ is_some (parsed_words script words)
requests_exist req script h [] = refl
requests_exist req script h (word ∷ behind) =
    paired req word (values_by (find (λ shape. bytes_eq word shape.0) (shapes_of script)) behind)
    (of_found req word behind (shapes_of script) h)
