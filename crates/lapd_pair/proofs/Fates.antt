-- How the fates of a side's messages change with its history.
use Rattle.std.proofs.Common.{◌≡◌, ℕ, ◌+◌, ◌-◌, ◌<◌, ◌≤◌, nat_lt, ◌==◌, Bool, true, false, if◌then◌else◌, ◌||◌, List, [], ◌∷◌, ◌++◌, map, length, drop, get_or, Option, Some, None, refl, ap, sym, ◌∙◌, zero, suc, zero-add, append_assoc, length-append, arith}
use Rattle.std.specs.Vec.{vec_len}
use Rattle.std.proofs.lemmas.Bool.Decides.{nat_tests}
use Rattle.std.proofs.lemmas.List.{take_at, drop_at, set_at}
use Rattle.std.proofs.lemmas.List.FromFn.{length-range_with_len, length-map-range_with_len, map-range_with_len_more, get_or-map-range_with_len}
use Rattle.std.proofs.Math.ListN.{set}
use Rattle.std.specs.List.{range_with_len}
use Rattle.lapd_pair_laws.specs.Histories as world
use Rattle.lapd_pair_laws.specs.Histories.{with_sending, with_acked, with_dropped}
use Rattle.lapd_pair_laws.specs.Consistent.{is_one_of, AreSettled}
use Rattle.lapd_pair_laws.proofs.Settled.{one_of_both, one_of_range}
use Rattle.lapd_pair.specs.declared.fate.Fate.{Fate}
use Rattle.lapd_pair.specs.declared.fate.Ending.{Ending}
use Rattle.lapd_pair.specs.declared.fate.Ending.TheVariants.{Waiting, Acked, Dropped}
use Rattle.lapd_pair.specs.Fates.{ended, with_endings}
use Rattle.lapd_pair.specs.declared.log.Log.{Log}
use Rattle.lapd_pair.specs.Histories.{ending_at, fate_at, fates_of, IsHistory}

-- ---- Lists made from a function of the index.

map_on : (f g : ℕ → Fate) (first n : ℕ) → ((k : ℕ) → first ≤ k → k < first + n → f k ≡ g k)
    → map f (range_with_len first n) ≡ map g (range_with_len first n)
map_on f g first zero same = refl
map_on f g first (suc n) same =
    let here : f first ≡ g first = same first (omega arith) (omega arith) in
    let rest = map_on f g (first + 1) n (λ k low high. same k (omega arith) (omega arith)) in
    cc (here, rest)

map_ended : (f g : ℕ → Fate) (ending : Ending) (first n : ℕ)
    → ((k : ℕ) → first ≤ k → k < first + n → ended ending (f k) ≡ g k)
    → map (ended ending) (map f (range_with_len first n)) ≡ map g (range_with_len first n)
map_ended f g ending first zero same = refl
map_ended f g ending first (suc n) same =
    let here : ended ending (f first) ≡ g first = same first (omega arith) (omega arith) in
    let rest =
    map_ended f g ending (first + 1) n (λ k low high. same k (omega arith) (omega arith)) in
    cc (here, rest)

map_parts : (f : ℕ → Fate) (first second n more : ℕ) → first + n ≡ second
    → map f (range_with_len first (n + more)) ≡ map f (range_with_len first n)
    ++ map f (range_with_len second more)
map_parts f first second zero more e =
    let l : 0 + more ≡ more = zero-add more in
    let s : second ≡ first = omega arith in rw (l, s) refl
map_parts f first second (suc n) more e =
    let l : suc n + more ≡ suc (n + more) = omega arith in
    rw l (ap (λ xs. f first ∷ xs) (map_parts f (first + 1) second n more (omega arith)))

map_three : (f : ℕ → Fate) (first n rest : ℕ) → map f (range_with_len 0 (first + (n + rest)))
    ≡ map f (range_with_len 0 first)
    ++ (map f (range_with_len first n) ++ map f (range_with_len (first + n) rest))
map_three f first n rest =
    map_parts f 0 first first (n + rest) (zero-add first)
    ∙ ap (λ xs. map f (range_with_len 0 first) ++ xs) (map_parts f first (first + n) n rest refl)

-- ---- Endings.

ended_middle : (ending : Ending) (first n : ℕ) (before middle after : List Fate)
    → length before ≡ first → length middle ≡ n
    → with_endings ending first n (before ++ (middle ++ after)) ≡ before
    ++ (map (ended ending) middle ++ after)
ended_middle ending first n before middle after b m =
    let front = take_at before (middle ++ after) first b in
    let back = drop_at before (middle ++ after) first b in
    let mid = take_at middle after n m in
    let last : drop (first + n) (before ++ (middle ++ after)) ≡ after =
    rw (← append_assoc before middle after)
    (drop_at (before ++ middle) after (first + n)
    (length-append before middle ∙ omega arith)) in
    rw (front, back, mid, last) (append_assoc before (map (ended ending) middle) after)

ended_within : (f g : ℕ → Fate) (ending : Ending) (first n rest : ℕ)
    → ((k : ℕ) → k < first → f k ≡ g k)
    → ((k : ℕ) → first ≤ k → k < first + n → ended ending (f k) ≡ g k)
    → ((k : ℕ) → first + n ≤ k → f k ≡ g k)
    → with_endings ending first n (map f (range_with_len 0 (first + (n + rest))))
    ≡ map g (range_with_len 0 (first + (n + rest)))
ended_within f g ending first n rest below within above =
    let a = map_on f g 0 first (λ k low high. below k (omega arith)) in
    let b = map_ended f g ending first n within in
    let c = map_on f g (first + n) rest (λ k low high. above k low) in
    let split =
    ended_middle ending first n (map f (range_with_len 0 first))
    (map f (range_with_len first n)) (map f (range_with_len (first + n) rest))
    (length-map-range_with_len f 0 first) (length-map-range_with_len f first n) in
    rw (map_three f first n rest, map_three g first n rest) (split ∙ rw (a, b, c) refl)

-- the list of g is that of f with this ending at n indices from `first` on, if f and g differ only
-- so
pub ended_fates : (f g : ℕ → Fate) (ending : Ending) (first n all : ℕ) → first + n ≤ all
    → ((k : ℕ) → k < first → f k ≡ g k)
    → ((k : ℕ) → first ≤ k → k < first + n → ended ending (f k) ≡ g k)
    → ((k : ℕ) → first + n ≤ k → f k ≡ g k)
    → with_endings ending first n (map f (range_with_len 0 all)) ≡ map g (range_with_len 0 all)
ended_fates f g ending first n all le below within above =
    let e : all ≡ first + (n + (all - (first + n))) = omega arith in
    rw e (ended_within f g ending first n (all - (first + n)) below within above)

-- ---- Which places are acknowledged and dropped.

in_next : (places : List ℕ) (first n k : ℕ) → first ≤ k → k < first + n
    → is_one_of (places ++ range_with_len first n) k ≡ true
in_next places first n k low high =
    let both = one_of_both places (range_with_len first n) k in
    let range = one_of_range first n k in grind (arith, nat_tests)

below_next : (places : List ℕ) (first n k : ℕ) → k < first
    → is_one_of (places ++ range_with_len first n) k ≡ is_one_of places k
below_next places first n k low =
    let both = one_of_both places (range_with_len first n) k in
    let range = one_of_range first n k in grind (arith, nat_tests)

above_next : (places : List ℕ) (first n k : ℕ) → first + n ≤ k
    → is_one_of (places ++ range_with_len first n) k ≡ is_one_of places k
above_next places first n k high =
    let both = one_of_both places (range_with_len first n) k in
    let range = one_of_range first n k in grind (arith, nat_tests)

neither_above : (a d : Bool) (k passed : ℕ) → (a || d) ≡ nat_lt k passed → passed ≤ k
    → (a ≡ false) × (d ≡ false)
neither_above true d k passed e le = grind (arith, nat_tests)
neither_above false true k passed e le = grind (arith, nat_tests)
neither_above false false k passed e le = (refl, refl)

abbrev fate_from : Option ℕ → Bool → Bool → Fate
fate_from sent_in acked dropped = record {
  sent_in = sent_in;
  end
      = if acked then Acked else (if dropped then Dropped else Waiting);
}

pub acked_fates : (h : world.History) (n all : ℕ) → h.passed + n ≤ all
    → with_endings Acked h.passed n (fates_of all h) ≡ fates_of all (with_acked n h)
acked_fates h n all le = ended_fates (fate_at h) (fate_at (with_acked n h)) Acked h.passed n all le
    (λ k low. ap (λ a. fate_from (h.sent_in k) a (is_one_of h.dropped k))
    (sym (below_next h.acked h.passed n k low)))
    (λ k low high. ap (λ a. fate_from (h.sent_in k) a (is_one_of h.dropped k))
    (sym (in_next h.acked h.passed n k low high)))
    (λ k high. ap (λ a. fate_from (h.sent_in k) a (is_one_of h.dropped k))
    (sym (above_next h.acked h.passed n k high)))

dropped_now : (sent_in : Option ℕ) (a d : Bool) → a ≡ false → d ≡ true
    → fate_from sent_in false true ≡ fate_from sent_in a d
dropped_now sent_in a d f t = cc

pub dropped_fates : (h : world.History) (n all : ℕ) → AreSettled h → h.passed + n ≤ all
    → with_endings Dropped h.passed n (fates_of all h) ≡ fates_of all (with_dropped n h)
dropped_fates h n all are le =
    ended_fates (fate_at h) (fate_at (with_dropped n h)) Dropped h.passed n all le
    (λ k low. ap (λ d. fate_from (h.sent_in k) (is_one_of h.acked k) d)
    (sym (below_next h.dropped h.passed n k low)))
    (λ k low high. dropped_now (h.sent_in k) (is_one_of h.acked k) _
    (neither_above _ _ k h.passed (are.settled k) low).0
    (in_next h.dropped h.passed n k low high))
    (λ k high. ap (λ d. fate_from (h.sent_in k) (is_one_of h.acked k) d)
    (sym (above_next h.dropped h.passed n k high)))

-- ---- A message is submitted, and one is sent.

new_fate : (sent_in : Option ℕ) (a d : Bool) → sent_in ≡ None → (a ≡ false) × (d ≡ false)
    → fate_from None false false ≡ fate_from sent_in a d
new_fate sent_in a d n both = let f = both.0 in let g = both.1 in cc

pub given_fates : (h : world.History) (all : ℕ) → AreSettled h → h.passed ≤ all
    → h.sent_in all ≡ None
    → fates_of all h ++ (record { sent_in = None; end = Waiting }) ∷ [] ≡ fates_of (all + 1) h
given_fates h all are le unsent =
    let new =
    new_fate (h.sent_in all) _ _ unsent
    (neither_above _ _ all h.passed (are.settled all) le) in
    ap (λ fate. fates_of all h ++ fate ∷ []) new
    ∙ sym (map-range_with_len_more (fate_at h) 0 all all (zero-add all))

abbrev fate_with : Option ℕ → Ending → Fate
fate_with sent_in end = record { sent_in = sent_in; end = end }

elsewhere : (k at establishment : ℕ) (sent_in : Option ℕ) → k == at ≡ false
    → sent_in ≡ (if k == at then Some establishment else sent_in)
elsewhere k at establishment sent_in other = rw other refl

sent_here : (at establishment : ℕ) (sent_in : Option ℕ) (end stays : Ending) → end ≡ stays
    → fate_with (Some establishment) end
    ≡ fate_with (if at == at then Some establishment else sent_in) stays
sent_here at establishment sent_in end stays e =
    let same : at == at ≡ true = grind (arith, nat_tests) in rw (same, e) refl

pub unsent_fates : (h : world.History) (all at establishment : ℕ) → all ≤ at
    → fates_of all h ≡ fates_of all (with_sending at establishment h)
unsent_fates h all at establishment le =
    map_on (fate_at h) (fate_at (with_sending at establishment h)) 0 all
    (λ k low high. ap (λ sent_in. fate_from sent_in (is_one_of h.acked k) (is_one_of h.dropped k))
    (elsewhere k at establishment (h.sent_in k) (grind (arith, nat_tests))))

sent_within : (h : world.History) (at rest establishment : ℕ) (fate : Fate)
    → fate.end ≡ ending_at h at
    → set (fates_of (at + (1 + rest)) h) at
    (record { sent_in = Some establishment; end = fate.end })
    ≡ fates_of (at + (1 + rest)) (with_sending at establishment h)
sent_within h at rest establishment fate is =
    let f = fate_at h in
    let g = fate_at (with_sending at establishment h) in
    let a =
    map_on f g 0 at (λ k low high. ap
    (λ sent_in. fate_from sent_in (is_one_of h.acked k) (is_one_of h.dropped k))
    (elsewhere k at establishment (h.sent_in k) (grind (arith, nat_tests)))) in
    let c =
    map_on f g (at + 1) rest (λ k low high. ap
    (λ sent_in. fate_from sent_in (is_one_of h.acked k) (is_one_of h.dropped k))
    (elsewhere k at establishment (h.sent_in k) (grind (arith, nat_tests)))) in
    let v = sent_here at establishment (h.sent_in at) fate.end (ending_at h at) is in
    let put =
    set_at (map f (range_with_len 0 at)) (f at) (map f (range_with_len (at + 1) rest))
    (record { sent_in = Some establishment; end = fate.end }) at
    (length-map-range_with_len f 0 at) in
    rw (map_three f at 1 rest, map_three g at 1 rest) (put ∙ rw (a, c, v) refl)

pub sent_fates : (h : world.History) (all at establishment : ℕ) (fates : List Fate) (fate : Fate)
    → fates ≡ fates_of all h → at < all → fate ≡ get_or fates at fate
    → set fates at (record { sent_in = Some establishment; end = fate.end })
    ≡ fates_of all (with_sending at establishment h)
sent_fates h all at establishment fates fate e lt read =
    let here : fate ≡ fate_at h at =
    read ∙ rw e (get_or-map-range_with_len (fate_at h) 0 all at at fate lt (zero-add at)) in
    let n : all ≡ at + (1 + (all - (at + 1))) = omega arith in
    rw (e, n) (sent_within h at (all - (at + 1)) establishment fate (ap (λ f. f.end) here))

-- ---- A recorded history.

pub fates_len : {preserved : Log} {messages : List (List ℕ)} {h : world.History}
    → IsHistory preserved messages h → vec_len preserved.fates ≡ length messages
fates_len {preserved} {messages} {h} is =
    preserved.fates.ok.0 ∙ ap length is.fates
    ∙ length-map-range_with_len (fate_at h) 0 (length messages)

pub settled_is : {preserved : Log} {messages : List (List ℕ)} {h : world.History}
    → IsHistory preserved messages h → AreSettled h
    → preserved.acknowledged + preserved.dropped ≡ h.passed
settled_is is are =
    let a = is.acknowledged in let d = is.dropped in let p = are.counted in omega arith

pub passed_within : {preserved : Log} {messages : List (List ℕ)} {h : world.History}
    → IsHistory preserved messages h → AreSettled h → h.passed ≤ length messages
passed_within {preserved} is are =
    let len = fates_len is in
    let passed = settled_is is are in let within = preserved.within in omega arith

pub acked_after : (preserved : Log) {messages : List (List ℕ)} {h : world.History}
    → IsHistory preserved messages h → AreSettled h → (n : ℕ) (after : List Fate)
    → preserved.acknowledged + preserved.dropped + n ≤ vec_len preserved.fates
    → after
    ≡ with_endings Acked (preserved.acknowledged + preserved.dropped) n
    preserved.fates.items
    → after ≡ fates_of (length messages) (with_acked n h)
acked_after preserved {messages} {h} is are n after le e =
    let len = fates_len is in
    let passed = settled_is is are in
    let all = acked_fates h n (length messages) (omega arith) in
    e ∙ rw (passed, is.fates) all

pub dropped_after : (preserved : Log) {messages : List (List ℕ)} {h : world.History}
    → IsHistory preserved messages h → AreSettled h → (n : ℕ) (after : List Fate)
    → preserved.acknowledged + preserved.dropped + n ≤ vec_len preserved.fates
    → after
    ≡ with_endings Dropped (preserved.acknowledged + preserved.dropped) n
    preserved.fates.items
    → after ≡ fates_of (length messages) (with_dropped n h)
dropped_after preserved {messages} {h} is are n after le e =
    let len = fates_len is in
    let passed = settled_is is are in
    let all = dropped_fates h n (length messages) are (omega arith) in
    e ∙ rw (passed, is.fates) all

pub acked_count : (h : world.History) (n count : ℕ) → count ≡ length h.acked
    → count + n ≡ length (with_acked n h).acked
acked_count h n count e =
    let l = length-append h.acked (range_with_len h.passed n) in
    let r = length-range_with_len h.passed n in omega arith

pub dropped_count : (h : world.History) (n count : ℕ) → count ≡ length h.dropped
    → count + n ≡ length (with_dropped n h).dropped
dropped_count h n count e =
    let l = length-append h.dropped (range_with_len h.passed n) in
    let r = length-range_with_len h.passed n in omega arith

pub given_after : (preserved : Log) {messages : List (List ℕ)} {h : world.History}
    → IsHistory preserved messages h → AreSettled h → h.sent_in (length messages) ≡ None
    → (message : List ℕ)
    → preserved.fates.items ++ fate_with None Waiting ∷ []
    ≡ fates_of (length (messages ++ message ∷ [])) h
given_after preserved {messages} {h} is are unsent message =
    rw (is.fates, length-append messages (message ∷ []))
    (given_fates h (length messages) are (passed_within is are) unsent)

pub unsent_after : (preserved : Log) {messages : List (List ℕ)} {h : world.History}
    → IsHistory preserved messages h → AreSettled h → (place waiting establishment : ℕ)
    → preserved.acknowledged + preserved.dropped + waiting ≡ vec_len preserved.fates
    → waiting ≤ place
    → preserved.fates.items
    ≡ fates_of (length messages) (with_sending (h.passed + place) establishment h)
unsent_after preserved {messages} {h} is are place waiting establishment counted le =
    let len = fates_len is in
    let passed = settled_is is are in
    is.fates ∙ unsent_fates h (length messages) (h.passed + place) establishment (omega arith)

pub sent_after : (preserved : Log) {messages : List (List ℕ)} {h : world.History}
    → IsHistory preserved messages h → AreSettled h
    → (place waiting count at establishment : ℕ) (fate : Fate)
    → preserved.acknowledged + preserved.dropped + waiting ≡ vec_len preserved.fates
    → place < waiting → at ≡ preserved.acknowledged + preserved.dropped + place
    → length h.begun ≡ establishment → count ≡ vec_len preserved.begun
    → fate ≡ get_or preserved.fates.items at fate
    → set preserved.fates.items at (fate_with (Some count) fate.end)
    ≡ fates_of (length messages) (with_sending (h.passed + place) establishment h)
sent_after preserved {messages} {h} is are place waiting count at establishment fate counted lt
    there begun counts read =
    let len = fates_len is in
    let passed = settled_is is are in
    let here : at ≡ h.passed + place = omega arith in
    let number : count ≡ establishment =
    counts ∙ preserved.begun.ok.0 ∙ ap length is.begun ∙ begun in
    let read_there : fate ≡ get_or preserved.fates.items (h.passed + place) fate =
    rw (← here) read in
    rw (here, number) (sent_fates h (length messages) (h.passed + place) establishment
    preserved.fates.items fate is.fates (omega arith) read_there)
