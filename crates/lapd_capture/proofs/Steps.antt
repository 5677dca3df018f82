-- Which step is made, by how many octets are left.
use Rattle.std.specs.Prelude.{⊤}
use Rattle.std.proofs.Common.{◌≡◌, ℕ, ◌+◌, ◌-◌, ◌%◌, ◌≤◌, ◌<◌, ◌==◌, List, [], ◌++◌, Option, Some, Result, Ok, Err, true, false, refl, sym, ap, ◌∙◌, subst, length, take, drop, min, nat_lt, slice_get, None, IsErrAnd, length-append, length-drop, drop-drop, take-append-drop, ◌≢◌, arith}
use Rattle.std.proofs.lemmas.Bool.Decides.{nat_tests}
use Rattle.lapd_capture.specs.declared.item.CaptureItem.{CaptureItem}
use Rattle.lapd_capture.specs.declared.item.CaptureItem.TheVariants.{End, Other}
use Rattle.lapd_capture.specs.declared.fault.CaptureFault.{CaptureFault}
use Rattle.lapd_capture.specs.declared.fault.CaptureFault.TheVariants.{Cut, NotACapture}
use Rattle.lapd_capture.specs.declared.fault.ReadFault.{ReadFault}
use Rattle.lapd_capture.specs.declared.link_type.LinkType.{LinkType}
use Rattle.lapd_capture.specs.declared.fault.ReadFault.TheVariants.{Capture, Device, Memory}
use Rattle.lapd_capture.specs.declared.order.Order.{Order}
use Rattle.lapd_capture.specs.declared.order.Order.TheVariants.{Big}
use Rattle.lapd_capture.specs.declared.capture_reader.CaptureReader.{CaptureReader}
use Rattle.lapd_capture.specs.Octets.{number_at}
use Rattle.lapd_capture.specs.Packet.{link_type_of}
use Rattle.lapd_capture.specs.Reader.{MakesStep, Opens, TakesLast, reading_of, unread}
use lib.Seq.{take-append-add, drop-append-add, take-append_seam, drop-append_seam}
use Rattle.lapd_capture.specs.Reading.{Reading, Step, after_section, block_after, block_ended, block_missing, block_moment, block_of_kind, block_rest, block_step, enhanced_packet, most_body, opened_by_order, opened_from, order_of_pcap, simple_packet, units_of_pcap, item_on, moment_at, or_end, other_step, pcap_opened, record_after, record_found, record_packet, record_step, with_body, with_link, most_packet}

-- a step that equals another
pub same_step : {R : Type 0} (remaining : R → Option (List ℕ)) (a b : Result Step CaptureFault)
    (result : Result CaptureItem ReadFault) (new : CaptureReader R)
    → a ≡ b → MakesStep remaining b result new → MakesStep remaining a result new
same_step remaining a b result new e h = subst (λ s. MakesStep remaining s result new) (sym e) h

pub same_opening : {R : Type 0} (remaining : R → Option (List ℕ))
    (a b : Result Reading CaptureFault) (result : Result ⊤ ReadFault) (new : CaptureReader R)
    → a ≡ b → Opens remaining b result new → Opens remaining a result new
same_opening remaining a b result new e h = subst (λ s. Opens remaining s result new) (sym e) h

pub ended : (step : Reading → Result Step CaptureFault) (r : Reading) → r.left ≡ []
    → or_end step r ≡ Ok (record { item = End; reading = record r { left = [] } })
ended step r none =
    let at_end : (left : List ℕ) → left ≡ [] → or_end step (record r { left = left }) ≡ Ok
    (record { item = End; reading = record r { left = [] } }) =
    λ left e. rw e refl in
    at_end r.left none

not_ended : (left : List ℕ) → 0 < length left → (length left == 0) ≡ false
not_ended left some = grind (arith, nat_tests)

-- ---- pcap

pub pcap_cut : (order : Order) (units : ℕ) (r : Reading) → length r.left < 20
    → pcap_opened order units r ≡ Err Cut
pcap_cut order units r few =
    let cut : nat_lt (length r.left) 20 ≡ true = grind (arith, nat_tests) in rw cut refl

pub pcap_begun : (order : Order) (units : ℕ) (r : Reading) (link : LinkType) (number : ℕ)
    (header : List ℕ) → 20 ≤ length r.left → header ≡ take 20 r.left
    → number ≡ number_at order 4 16 header → link ≡ link_type_of (number % 0x10000)
    → pcap_opened order units r ≡ with_link order link units (record r { left = drop 20 r.left })
pcap_begun order units r link number header enough same is_number is_link =
    let all : nat_lt (length r.left) 20 ≡ false = grind (arith, nat_tests) in
    rw (is_link, is_number, same, all) refl

pub record_begun : (r : Reading) (header : List ℕ) → 16 ≤ length r.left → header ≡ take 16 r.left
    → or_end record_step r ≡ record_after header (record r { left = drop 16 r.left })
record_begun r header enough same =
    let some : (length r.left == 0) ≡ false = not_ended r.left (omega arith) in
    let all : nat_lt (length r.left) 16 ≡ false = grind (arith, nat_tests) in
    rw (same, some, all) refl

pub record_cut : (r : Reading) → 0 < length r.left → length r.left < 16
    → or_end record_step r ≡ Err Cut
record_cut r some few =
    let some_left : (length r.left == 0) ≡ false = not_ended r.left some in
    let cut : nat_lt (length r.left) 16 ≡ true = grind (arith, nat_tests) in
    rw (some_left, cut) refl

-- the packet of a record
pub packet_begun : (header : List ℕ) (captured number : ℕ) (r : Reading)
    → captured ≡ number_at r.order 4 8 header → captured ≤ 262144 → captured ≤ length r.left
    → record_after header r ≡ record_found header captured (with_body captured r)
packet_begun header captured number r is fits enough =
    let small : nat_lt most_packet captured ≡ false = grind (arith, nat_tests) in
    let all : nat_lt (length r.left) captured ≡ false = grind (arith, nat_tests) in
    let packet : record_packet header captured r ≡ record_found header captured
    (with_body captured r) =
    rw (small, all) refl in
    ap (λ n. record_packet header n r) (sym is) ∙ packet

pub record_is_found : {R : Type 0} (remaining : R → Option (List ℕ)) (old new : CaptureReader R)
    (header : List ℕ) (captured original : ℕ) (item : CaptureItem) (moment : Option ℕ)
    → original ≡ number_at old.order 4 12 header
    → item ≡ item_on (slice_get old.interfaces.items 0) original 0 captured old.body.items
    → moment
    ≡ moment_at (slice_get old.interfaces.items 0) (number_at old.order 4 0 header)
    (number_at old.order 4 4 header)
    → new
    ≡ record old
    { place = old.place + (16 + captured); packets = old.packets + 1; moment = moment }
    → (left : List ℕ) → unread remaining old ≡ Some left
    → MakesStep remaining (record_found header captured (reading_of old left)) (Ok item) new
record_is_found remaining old new header captured original item moment n i m moved left e =
    rw (moved, i, m, n) (left, e, refl)

-- ---- pcapng

pub block_begun : (r : Reading) (head : List ℕ) → 12 ≤ length r.left → head ≡ take 12 r.left
    → or_end block_step r ≡ block_after head (record r { left = drop 12 r.left })
block_begun r head enough same =
    let some : (length r.left == 0) ≡ false = not_ended r.left (omega arith) in
    let all : nat_lt (length r.left) 12 ≡ false = grind (arith, nat_tests) in
    rw (same, some, all) refl

pub block_cut : (r : Reading) → 0 < length r.left → length r.left < 12
    → or_end block_step r ≡ Err Cut
block_cut r some few =
    let some_left : (length r.left == 0) ≡ false = not_ended r.left some in
    let cut : nat_lt (length r.left) 12 ≡ true = grind (arith, nat_tests) in
    rw (some_left, cut) refl

pub other_is_passed : {R : Type 0} (remaining : R → Option (List ℕ)) (old new : CaptureReader R)
    (n : ℕ) → new ≡ record old { place = old.place + n }
    → (left : List ℕ) → unread remaining old ≡ Some left
    → MakesStep remaining (other_step n (reading_of old left)) (Ok Other) new
other_is_passed remaining old new n moved left e = rw moved (left, e, refl)

pub enhanced_is_passed : {R : Type 0} (remaining : R → Option (List ℕ)) (old new : CaptureReader R)
    (kind n : ℕ) (head : List ℕ) (item : CaptureItem) (moment : Option ℕ) (missing : ℕ)
    → (left : List ℕ) → kind ≡ 6 → item ≡ enhanced_packet n head (reading_of old left)
    → moment ≡ block_moment n head (reading_of old left)
    → missing ≡ min (old.missing + block_missing n (reading_of old left)) 18446744073709551615
    → new
    ≡ record old {
      place = old.place + n;
      packets = old.packets + 1;
      moment = moment;
      missing = missing;
    }
    → unread remaining old ≡ Some left
    → MakesStep remaining (block_of_kind kind n head (reading_of old left)) (Ok item) new
enhanced_is_passed remaining old new kind n head item moment missing left k i m d moved e =
    rw (moved, i, m, d, k) (left, e, refl)

pub simple_is_passed : {R : Type 0} (remaining : R → Option (List ℕ)) (old new : CaptureReader R)
    (kind n : ℕ) (head : List ℕ) (item : CaptureItem)
    → (left : List ℕ) → kind ≡ 3 → item ≡ simple_packet n head (reading_of old left)
    → new ≡ record old { place = old.place + n; packets = old.packets + 1; moment = None }
    → unread remaining old ≡ Some left
    → MakesStep remaining (block_of_kind kind n head (reading_of old left)) (Ok item) new
simple_is_passed remaining old new kind n head item left k i moved e =
    rw (moved, i, k) (left, e, refl)

-- a fault is passed on
pub stops : {R : Type 0} (remaining : R → Option (List ℕ)) (step : Result Step CaptureFault)
    (result : Result CaptureItem ReadFault) (fault : ReadFault) (new : CaptureReader R)
    → IsErrAnd result (λ e. e ≡ fault) → MakesStep remaining step (Err fault) new
    → MakesStep remaining step result new
stops remaining step (Ok item) fault new is h = absurd is
stops remaining step (Err e) fault new is h =
    subst (λ f. MakesStep remaining step (Err f) new) (sym is) h

rest_cut : (n : ℕ) (head : List ℕ) (r : Reading) → length r.left < n - 12
    → block_rest n head r ≡ Err Cut
rest_cut n head r few =
    let cut : nat_lt (length r.left) (n - 12) ≡ true = grind (arith, nat_tests) in rw cut refl

-- the end of a block is missing
pub last_stops : {R : Type 0} (remaining : R → Option (List ℕ)) (old new : CaptureReader R)
    (fault : ReadFault) (n kept k : ℕ) (head : List ℕ) (r : Reading)
    → 16 ≤ n → kept ≤ n - 16 → k ≡ n - 16 - kept → kept ≤ length r.left
    → unread remaining old ≡ Some (drop kept r.left)
    → TakesLast remaining k (Err fault) old new
    → MakesStep remaining (block_rest n head r) (Err fault) new
last_stops remaining old new (Capture fault) n kept k head r least most is_k enough e t =
    let few : length (drop kept r.left) < k + 4 = t.1 (drop kept r.left) e in
    let len : length (drop kept r.left) ≡ length r.left - kept = length-drop kept r.left in
    rest_cut n head r (omega arith) ∙ ap Err (sym t.0)
last_stops remaining old new (Device kind) n kept k head r least most is_k enough e t = tt
last_stops remaining old new Memory n kept k head r least most is_k enough e t = tt

-- the rest of a block, in its parts
pub rest_read : (n kept k number : ℕ) (head last : List ℕ) (r after : Reading) → 16 ≤ n
    → kept ≤ n - 16 → kept ≡ min (n - 16) most_body → k ≡ n - 16 - kept
    → kept ≤ length r.left → k + 4 ≤ length (drop kept r.left)
    → last ≡ take 4 (drop k (drop kept r.left)) → number ≡ number_at after.order 4 0 last
    → after ≡ record r { left = drop (k + 4) (drop kept r.left); body = take kept r.left }
    → block_rest n head r ≡ block_ended number n head after
rest_read n kept k number head last r after least most is_kept is_k enough more is_last is_number
    is_after =
    let len : length (drop kept r.left) ≡ length r.left - kept = length-drop kept r.left in
    let all : nat_lt (length r.left) (n - 12) ≡ false =
    (let few : n - 12 ≤ length r.left = omega arith in grind (arith, nat_tests)) in
    let whole : kept + (k + 4) ≡ n - 12 = omega arith in
    let front : kept + k ≡ n - 16 = omega arith in
    let here : drop (k + 4) (drop kept r.left) ≡ drop (n - 12) r.left =
    drop-drop (k + 4) kept r.left ∙ ap (λ m. drop m r.left) whole in
    let end : drop k (drop kept r.left) ≡ drop (n - 16) r.left =
    drop-drop k kept r.left ∙ ap (λ m. drop m r.left) front in
    let place : Reading =
    record r { left = drop (n - 12) r.left; body = take (min (n - 16) most_body) r.left } in
    let same_after : after ≡ place =
    is_after ∙ ap (λ l. record r { left = l; body = take kept r.left }) here
    ∙ ap (λ m. record r { left = drop (n - 12) r.left; body = take m r.left }) is_kept in
    let same_number : number ≡ number_at r.order 4 0 (take 4 (drop (n - 16) r.left)) =
    is_number ∙ ap (λ q. number_at q.order 4 0 last) same_after
    ∙ ap (λ l. number_at r.order 4 0 l) (is_last ∙ ap (take 4) end) in
    let rest : block_rest n head r ≡ block_ended
    (number_at r.order 4 0 (take 4 (drop (n - 16) r.left))) n head place =
    rw all refl in
    rest ∙ ap (λ x. block_ended x n head place) (sym same_number)
    ∙ ap (λ q. block_ended number n head q) (sym same_after)

-- ---- the head of a file

pub section_cut : (r : Reading) (magic left : List ℕ) → length magic ≡ 4 → length left < 8
    → after_section (block_step (record r { left = magic ++ left })) ≡ Err Cut
section_cut r magic left four few =
    let sum : length (magic ++ left) ≡ length magic + length left = length-append magic left in
    let cut : nat_lt (length (magic ++ left)) 12 ≡ true =
    (let less : length (magic ++ left) < 12 = omega arith in grind (arith, nat_tests)) in
    rw cut refl

pub section_begun : (r : Reading) (magic left part head : List ℕ) → length magic ≡ 4
    → 8 ≤ length left → part ≡ take 8 left → head ≡ magic ++ part
    → block_step (record r { left = magic ++ left })
    ≡ block_after head (record r { left = drop 8 left })
section_begun r magic left part head four enough is_part is_head =
    let sum : length (magic ++ left) ≡ length magic + length left = length-append magic left in
    let all : nat_lt (length (magic ++ left)) 12 ≡ false =
    (let more : 12 ≤ length (magic ++ left) = omega arith in grind (arith, nat_tests)) in
    let twelve : length magic + 8 ≡ 12 = omega arith in
    let front : take 12 (magic ++ left) ≡ head =
    ap (λ m. take m (magic ++ left)) (sym twelve) ∙ take-append-add magic left 8
    ∙ ap (λ l. magic ++ l) (sym is_part) ∙ sym is_head in
    let back : drop 12 (magic ++ left) ≡ drop 8 left =
    ap (λ m. drop m (magic ++ left)) (sym twelve) ∙ drop-append-add magic left 8 in
    let begun : block_step (record r { left = magic ++ left }) ≡ block_after
    (take 12 (magic ++ left)) (record r { left = drop 12 (magic ++ left) }) =
    rw all refl in
    begun ∙ ap (λ l. block_after l (record r { left = drop 12 (magic ++ left) })) front
    ∙ ap (λ l. block_after head (record r { left = l })) back

pub section_fault : {R : Type 0} (remaining : R → Option (List ℕ)) (step : Result Step CaptureFault)
    (fault : ReadFault) (new : CaptureReader R)
    → MakesStep remaining step (Err fault) new
    → Opens remaining (after_section step) (Err fault) new
section_fault remaining step (Capture fault) new h = ap after_section h
section_fault remaining step (Device kind) new h = tt
section_fault remaining step Memory new h = tt

pub pcap_magic : (r : Reading) (magic left : List ℕ) (number units : ℕ) (order : Order)
    → length magic ≡ 4 → number ≡ number_at Big 4 0 magic → number ≢ 0x0A0D0D0A
    → Some order ≡ order_of_pcap number → units ≡ units_of_pcap number
    → opened_from (record r { left = magic ++ left })
    ≡ pcap_opened order units (record r { left = left })
pcap_magic r magic left number units order four is_number other is_order is_units =
    let sum : length (magic ++ left) ≡ length magic + length left = length-append magic left in
    let all : nat_lt (length (magic ++ left)) 4 ≡ false =
    (let more : 4 ≤ length (magic ++ left) = omega arith in grind (arith, nat_tests)) in
    let front : take 4 (magic ++ left) ≡ magic =
    ap (λ m. take m (magic ++ left)) (sym four) ∙ take-append_seam magic left in
    let back : drop 4 (magic ++ left) ≡ left =
    ap (λ m. drop m (magic ++ left)) (sym four) ∙ drop-append_seam magic left in
    let no : (number == 0x0A0D0D0A) ≡ false = grind (arith, nat_tests) in
    let same : number_at Big 4 0 (take 4 (magic ++ left)) ≡ number =
    ap (λ l. number_at Big 4 0 l) front ∙ sym is_number in
    let begun : opened_from (record r { left = magic ++ left }) ≡ opened_by_order
    (order_of_pcap number) number (record r { left = drop 4 (magic ++ left) }) =
    rw (all, same, no) refl in
    begun ∙ ap (λ l. opened_by_order (order_of_pcap number) number (record r { left = l })) back
    ∙ ap (λ o. opened_by_order o number (record r { left = left })) (sym is_order)
    ∙ ap (λ u. pcap_opened order u (record r { left = left })) (sym is_units)

pub magic_cut : (r : Reading) → length r.left < 4 → opened_from r ≡ Err NotACapture
magic_cut r few =
    let cut : nat_lt (length r.left) 4 ≡ true = grind (arith, nat_tests) in rw cut refl

pub magic_taken : (r : Reading) (magic : List ℕ) → magic ≡ take 4 r.left
    → opened_from r ≡ opened_from (record r { left = magic ++ drop 4 r.left })
magic_taken r magic is =
    ap (λ l. opened_from (record r { left = l }))
    (sym (ap (λ l. l ++ drop 4 r.left) is ∙ take-append-drop 4 r.left))
