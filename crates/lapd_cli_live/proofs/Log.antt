-- Events, one after another.
use Rattle.std.proofs.Common.{◌≡◌, ℕ, ◌+◌, ◌<◌, List, [], ◌∷◌, ◌++◌, get_or, length, map, take, Option, refl, sym, ap, subst, ◌∙◌, append_assoc, append-nil}
use Rattle.std.specs.Prelude.{Bool, true, false, ◌||◌, flat_map, fold}
use Rattle.std.specs.List.{list_any}
use Rattle.std.proofs.KnownBytes.{Appends-nil, Appends-trans}
use Rattle.std.specs.Io.KnownBytes.{Appends}
use Rattle.std.proofs.lemmas.List.{map-append, take-map, take_more}
use Rattle.std.proofs.Math.Seq.{take-length}
use Rattle.std.proofs.lemmas.List.Sums.{fold-append}
use Rattle.std.proofs.lemmas.List.Folds.{list_any-append}
use Rattle.lapd_frame.specs.declared.Side.{Side}
use Rattle.lapd_sides_links.specs.declared.primitive.Primitive.{Primitive}
use Rattle.lapd_sides_links.specs.Effects.{Effects}
use Rattle.lapd_sides.specs.declared.either_side.EitherSide.{EitherSide}
use Rattle.lapd_sides.specs.Either.{side_of}
use Rattle.lapd_cli_wire.specs.declared.impairment.Impairment.{Impairment}
use Rattle.lapd_cli_wire.specs.declared.outside.Sending.{Sending}
use Rattle.lapd_cli_wire.specs.declared.outside.Sending.TheVariants.{Sent as WasSent, Lost as WasLost}
use Rattle.lapd_cli_live.specs.declared.style.Style.{Style}
use Rattle.lapd_cli_live.specs.declared.printer.Printer.{Printer}
use Rattle.lapd_cli_wire.specs.IoEvents.{Adds, IoEvent, Sends, SendsFront, all_sent}
use Rattle.lapd_cli_live.specs.Entries.{Entry, Outgoing, Prints, Shown, Delivered, counted, entries_text, entry_kept, entry_text, is_awaited, moment_after, octets_of, outgoing_entry, sent_entry}
use Rattle.lapd_cli_live.specs.Printers.{PrintsOn, SendsAll, shown}
use Rattle.lapd_cli_live.specs.Log.{Around, Chain, Happen, IsCarriedOut, LiveEvent, LiveState, Shows, io_events_in, entries_in, sending_events, primitive_event}
use Rattle.lapd_cli_wire.proofs.IoEvents.{adds_both, adds_none}

-- ---- Events.

io_events_both : (xs ys : List LiveEvent)
    → io_events_in (xs ++ ys) ≡ io_events_in xs ++ io_events_in ys
io_events_both [] ys = refl
io_events_both (Around io_event ∷ xs) ys =
    ap (λ (io_events : List IoEvent). io_event ∷ io_events) (io_events_both xs ys)
io_events_both (Shows entry ∷ xs) ys = io_events_both xs ys

entries_both : (xs ys : List LiveEvent) → entries_in (xs ++ ys) ≡ entries_in xs ++ entries_in ys
entries_both [] ys = refl
entries_both (Around io_event ∷ xs) ys = entries_both xs ys
entries_both (Shows entry ∷ xs) ys =
    ap (λ (entries : List Entry). entry ∷ entries) (entries_both xs ys)

-- ---- Entries.

text_both : (style : Style) (own : Side) (now : ℕ) (xs ys : List Entry)
    → entries_text style own now (xs ++ ys) ≡ entries_text style own now xs
    ++ entries_text style own (fold moment_after now xs) ys
text_both style own now [] ys = refl
text_both style own now (x ∷ xs) ys =
    ap (λ (text : List ℕ). entry_text style own now x ++ text)
    (text_both style own (moment_after now x) xs ys)
    ∙ sym
    (append_assoc (entry_text style own now x) (entries_text style own (moment_after now x) xs)
    (entries_text style own (fold moment_after (moment_after now x) xs) ys))

or_none : (a : Bool) → a ≡ (a || false)
or_none true = refl
or_none false = refl

or_both : (a b c : Bool) → ((a || b) || c) ≡ (a || (b || c))
or_both true b c = refl
or_both false b c = refl

pub prints_none : (style : Style) (own : Side) (a : Shown) → Prints style own [] a a
prints_none style own a = record {
  text = Appends-nil a.text;
  now = refl;
  stats = refl;
  awaited = refl;
  matched = or_none a.matched;
  keeps = refl;
  kept = refl;
}

pub prints_both : (style : Style) (own : Side) (xs ys : List Entry) (a b c : Shown)
    → Prints style own xs a b → Prints style own ys b c
    → Prints style own (xs ++ ys) a c
prints_both style own xs ys a b c p q =
    let texts : entries_text style own a.now xs ++ entries_text style own b.now ys ≡ entries_text
    style own a.now (xs ++ ys) =
    ap (λ (now : ℕ). entries_text style own a.now xs ++ entries_text style own now ys) p.now
    ∙ sym (text_both style own a.now xs ys) in
    let any : list_any (is_awaited style own b.awaited) ys ≡ list_any
    (is_awaited style own a.awaited) ys =
    ap (λ (words : List ℕ). list_any (is_awaited style own words) ys) p.awaited in
    record {
      text =
          subst (Appends a.text c.text) texts
          (Appends-trans a.text b.text c.text _ _ p.text q.text);
      now =
          q.now ∙ ap (λ (now : ℕ). fold moment_after now ys) p.now
          ∙ sym (fold-append moment_after a.now xs ys);
      stats =
          q.stats ∙ ap (λ stats. fold (counted own) stats ys) p.stats
          ∙ sym (fold-append (counted own) a.stats xs ys);
      awaited = q.awaited ∙ p.awaited;
      matched =
          q.matched
          ∙ ap (λ (matched : Bool). matched || list_any (is_awaited style own b.awaited) ys)
          p.matched
          ∙ ap (λ (matched : Bool). (a.matched || list_any (is_awaited style own a.awaited) xs) ||
          matched) any
          ∙ or_both a.matched (list_any (is_awaited style own a.awaited) xs)
          (list_any (is_awaited style own a.awaited) ys)
          ∙ ap (λ (matched : Bool). a.matched || matched)
          (sym (list_any-append (is_awaited style own a.awaited) xs ys));
      keeps = q.keeps ∙ p.keeps;
      kept = q.kept ∙ ap (λ (keeps : Bool). fold (entry_kept style own keeps) b.kept ys) p.keeps
          ∙ ap (λ (kept : List (List ℕ)). fold (entry_kept style own a.keeps) kept ys) p.kept
          ∙ sym (fold-append (entry_kept style own a.keeps) a.kept xs ys);
    }

prints_as : (style other : Style) (own same : Side) (xs : List Entry) (a b : Shown) → style ≡ other
    → own ≡ same → Prints style own xs a b
    → Prints other same xs a b
prints_as style other own same xs a b is are p =
    subst (λ (x : Style). Prints x same xs a b) is
    (subst (λ (x : Side). Prints style x xs a b) are p)

pub prints_on_none : {W : Type 0} (contents : W → Option (List ℕ)) (own : Side) (p : Printer W)
    → PrintsOn contents own [] p p
prints_on_none contents own p =
    record { style = refl; prints = prints_none p.style own (shown contents p) }

pub prints_on_both : {W : Type 0} (contents : W → Option (List ℕ)) (own : Side) (xs ys : List Entry)
    (p q r : Printer W)
    → PrintsOn contents own xs p q → PrintsOn contents own ys q r
    → PrintsOn contents own (xs ++ ys) p r
prints_on_both contents own xs ys p q r first last = record {
  style = last.style ∙ first.style;
  prints =
      prints_both p.style own xs ys (shown contents p) (shown contents q) (shown contents r)
      first.prints
      (prints_as q.style p.style own own ys (shown contents q) (shown contents r) first.style refl
      last.prints);
}

-- ---- Entries of the log.

pub happen_both : (xs ys : List LiveEvent) (a b c : LiveState) → Happen xs a b → Happen ys b c
    → Happen (xs ++ ys) a c
happen_both xs ys a b c p q = record {
  own = q.own ∙ p.own;
  style = q.style ∙ p.style;
  io_events =
      subst (Adds a.io_events c.io_events) (sym (io_events_both xs ys))
      (adds_both a.io_events b.io_events c.io_events _ _ p.io_events q.io_events);
  impairment = q.impairment ∙ p.impairment;
  most = q.most ∙ p.most;
  shown =
      subst (λ (entries : List Entry). Prints a.style (side_of a.side) entries a.shown c.shown)
      (sym (entries_both xs ys))
      (prints_both a.style (side_of a.side) (entries_in xs) (entries_in ys) a.shown b.shown c.shown
      p.shown
      (prints_as b.style a.style (side_of b.side) (side_of a.side) (entries_in ys) b.shown c.shown
      p.style p.own q.shown));
}

pub happen_none : (a : LiveState) → Happen [] a a
happen_none a = record {
  own = refl;
  style = refl;
  io_events = adds_none a.io_events;
  impairment = refl;
  shown = prints_none a.style (side_of a.side) a.shown;
  most = refl;
}

-- ---- Frames that are sent, and primitives.

one_moment : (now : ℕ) (octets : List ℕ) (sending : Sending)
    → moment_after now (sent_entry octets sending) ≡ now
one_moment now octets WasSent = refl
one_moment now octets WasLost = refl

sent_moment : (now : ℕ) (outgoing : List Outgoing)
    → fold moment_after now (map outgoing_entry outgoing) ≡ now
sent_moment now [] = refl
sent_moment now (first ∷ outgoing) =
    ap (λ (x : ℕ). fold moment_after x (map outgoing_entry outgoing))
    (one_moment now first.octets first.sending) ∙ sent_moment now outgoing

primitives_moment : (now : ℕ) (primitives : List Primitive)
    → fold moment_after now (map Delivered primitives) ≡ now
primitives_moment now [] = refl
primitives_moment now (primitive ∷ primitives) = primitives_moment now primitives

io_events_of_primitives : (primitives : List Primitive)
    → io_events_in (map primitive_event primitives) ≡ []
io_events_of_primitives [] = refl
io_events_of_primitives (primitive ∷ primitives) = io_events_of_primitives primitives

entries_of_primitives : (primitives : List Primitive)
    → entries_in (map primitive_event primitives) ≡ map Delivered primitives
entries_of_primitives [] = refl
entries_of_primitives (primitive ∷ primitives) =
    ap (λ (entries : List Entry). Delivered primitive ∷ entries) (entries_of_primitives primitives)

io_events_of_sent : (outgoing : List Outgoing)
    → io_events_in (flat_map sending_events outgoing) ≡ all_sent (map octets_of outgoing)
io_events_of_sent [] = refl
io_events_of_sent (first ∷ outgoing) =
    ap (λ (io_events : List IoEvent). Sends first.octets ∷ io_events) (io_events_of_sent outgoing)

entries_of_sent : (outgoing : List Outgoing)
    → entries_in (flat_map sending_events outgoing) ≡ map outgoing_entry outgoing
entries_of_sent [] = refl
entries_of_sent (first ∷ outgoing) =
    ap (λ (entries : List Entry). outgoing_entry first ∷ entries) (entries_of_sent outgoing)

pub sends_none : {W : Type 0} (own : Side) (contents : W → Option (List ℕ))
    (a : Option (List IoEvent)) (i : Option Impairment) (p : Printer W)
    → SendsAll own [] a a i i contents p p
sends_none own contents a i p = record {
  outgoing = [];
  octets = refl;
  io_events = adds_none a;
  impairment = refl;
  prints = prints_on_none contents own p;
}

pub sends_more : {W : Type 0} (own : Side) (frames : List (List ℕ)) (frame : List ℕ)
    (sending : Sending) (a b c : Option (List IoEvent)) (i j k : Option Impairment)
    (contents : W → Option (List ℕ)) (p q r : Printer W) → SendsAll own frames a b i j contents p q
    → Adds b c (Sends frame ∷ []) → k ≡ j
    → PrintsOn contents own (sent_entry frame sending ∷ []) q r
    → SendsAll own (frames ++ frame ∷ []) a c i k contents p r
sends_more own frames frame sending a b c i j k contents p q r some adds same prints =
    let one : Outgoing = record { octets = frame; sending = sending } in
    record {
      outgoing = some.outgoing ++ one ∷ [];
      octets =
          map-append octets_of some.outgoing (one ∷ []) ∙ ap (λ xs. xs ++ frame ∷ []) some.octets;
      io_events =
          subst (Adds a c) (sym (map-append Sends frames (frame ∷ [])))
          (adds_both a b c _ _ some.io_events adds);
      impairment = same ∙ some.impairment;
      prints =
          subst (λ (entries : List Entry). PrintsOn contents own entries p r)
          (sym (map-append outgoing_entry some.outgoing (one ∷ [])))
          (prints_on_both contents own (map outgoing_entry some.outgoing) (outgoing_entry one ∷ [])
          p q r some.prints prints);
    }

-- the next of some frames is sent
pub sends_next : {F W : Type 0} (octets : F → List ℕ) (own : Side) (frames : List F) (at : ℕ)
    (frame : F) (item : List ℕ) (sending : Sending)
    (a b c : Option (List IoEvent)) (i j k : Option Impairment) (contents : W → Option (List ℕ))
    (p q r : Printer W) → at < length frames → frame ≡ get_or frames at frame
    → item ≡ octets frame → SendsAll own (map octets (take at frames)) a b i j contents p q
    → Adds b c (Sends item ∷ []) → k ≡ j
    → PrintsOn contents own (sent_entry item sending ∷ []) q r
    → SendsAll own (map octets (take (at + 1) frames)) a c i k contents p r
sends_next octets own frames at frame item sending a b c i j k contents p q r within is says some
    adds same prints =
    let one : take (at + 1) frames ≡ take at frames ++ frame ∷ [] =
    take_more frames at frame within ∙ ap (λ x. take at frames ++ x ∷ []) (sym is) in
    let all : map octets (take (at + 1) frames) ≡ map octets (take at frames) ++ item ∷ [] =
    ap (map octets) one ∙ map-append octets (take at frames) (frame ∷ [])
    ∙ ap (λ x. map octets (take at frames) ++ x ∷ []) (sym says) in
    subst (λ (xs : List (List ℕ)). SendsAll own xs a c i k contents p r) (sym all)
    (sends_more own (map octets (take at frames)) item sending a b c i j k contents p q r some adds
    same prints)

-- the next of some primitives is printed
pub next_primitive : {W : Type 0} (own : Side) (primitives : List Primitive) (at : ℕ)
    (primitive : Primitive) (contents : W → Option (List ℕ)) (p q r : Printer W)
    → at < length primitives → primitive ≡ get_or primitives at primitive
    → PrintsOn contents own (map Delivered (take at primitives)) p q
    → PrintsOn contents own (Delivered primitive ∷ []) q r
    → PrintsOn contents own (map Delivered (take (at + 1) primitives)) p r
next_primitive own primitives at primitive contents p q r within is some now =
    let one : take (at + 1) primitives ≡ take at primitives ++ primitive ∷ [] =
    take_more primitives at primitive within ∙ ap (λ x. take at primitives ++ x ∷ []) (sym is) in
    let all : map Delivered (take (at + 1) primitives) ≡ map Delivered (take at primitives) ++
    Delivered primitive ∷ [] =
    ap (map Delivered) one ∙ map-append Delivered (take at primitives) (primitive ∷ []) in
    subst (λ (entries : List Entry). PrintsOn contents own entries p r) (sym all)
    (prints_on_both contents own (map Delivered (take at primitives)) (Delivered primitive ∷ []) p q
    r some now)

-- a running side, by its parts
abbrev pub live : {W : Type 0} → ℕ → EitherSide → Option (List IoEvent) → Option Impairment
    → (W → Option (List ℕ)) → Printer W → LiveState
live most side io_events impairment contents printer = record {
  side = side;
  style = printer.style;
  io_events = io_events;
  impairment = impairment;
  shown = shown contents printer;
  most = most;
}

pub carried : {W : Type 0} {most : ℕ} (contents : W → Option (List ℕ)) (side : EitherSide)
    (own : Side) (frames : List (List ℕ)) (primitives : List Primitive) (acts : Effects)
    (a b : Option (List IoEvent)) (i j : Option Impairment) (p q r : Printer W) → own ≡ side_of side
    → frames ≡ acts.frames → primitives ≡ acts.primitives
    → SendsAll own frames a b i j contents p q
    → PrintsOn contents own (map Delivered primitives) q r
    → IsCarriedOut acts (live most side a i contents p) (live most side b j contents r)
carried contents side own frames primitives acts a b i j p q r is are same sends matched =
    let printed_primitives : PrintsOn contents own (map Delivered acts.primitives) q r =
    subst (λ (x : List Primitive). PrintsOn contents own (map Delivered x) q r) same matched in
    let events : List LiveEvent =
    flat_map sending_events sends.outgoing ++ map primitive_event acts.primitives in
    let io_events : io_events_in events ≡ all_sent frames =
    io_events_both (flat_map sending_events sends.outgoing) (map primitive_event acts.primitives)
    ∙ ap (λ (io_events : List IoEvent). io_events_in (flat_map sending_events sends.outgoing) ++
    io_events) (io_events_of_primitives acts.primitives)
    ∙ append-nil (io_events_in (flat_map sending_events sends.outgoing))
    ∙ io_events_of_sent sends.outgoing ∙ ap all_sent sends.octets in
    let entries : entries_in events ≡ map outgoing_entry sends.outgoing ++ map Delivered
    acts.primitives =
    entries_both (flat_map sending_events sends.outgoing) (map primitive_event acts.primitives)
    ∙ ap (λ (entries : List Entry). entries ++ entries_in (map primitive_event acts.primitives))
    (entries_of_sent sends.outgoing)
    ∙ ap (λ (entries : List Entry). map outgoing_entry sends.outgoing ++ entries)
    (entries_of_primitives acts.primitives) in
    let prints : PrintsOn contents own
    (map outgoing_entry sends.outgoing ++ map Delivered acts.primitives) p r =
    prints_on_both contents own (map outgoing_entry sends.outgoing) (map Delivered acts.primitives)
    p q r sends.prints printed_primitives in
    record {
      events = events;
      carries = record { outgoing = sends.outgoing; frames = sends.octets ∙ are; are = refl };
      beside = record {
        side = refl;
        moment =
            prints.prints.now
            ∙ fold-append moment_after p.moment (map outgoing_entry sends.outgoing)
            (map Delivered acts.primitives)
            ∙ ap (λ (now : ℕ). fold moment_after now (map Delivered acts.primitives))
            (sent_moment p.moment sends.outgoing) ∙ primitives_moment p.moment acts.primitives;
        happen = record {
          own = refl;
          style = prints.style;
          io_events = subst (Adds a b) (sym io_events) sends.io_events;
          impairment = sends.impairment;
          most = refl;
          shown =
              subst (λ (xs : List Entry). Prints p.style (side_of side) xs (shown contents p)
              (shown contents r)) (sym entries)
              (subst (λ (x : Side). Prints p.style x
              (map outgoing_entry sends.outgoing ++ map Delivered acts.primitives)
              (shown contents p) (shown contents r)) is prints.prints);
        };
      };
    }

-- ---- Chains.

pub chain_more : (R : LiveState → LiveState → Type 0) (states : List LiveState) (a b c : LiveState)
    → Chain R states a b → R b c → Chain R (states ++ c ∷ []) a c
chain_more R [] a b c are one = (subst (λ (x : LiveState). R x c) are one, refl)
chain_more R (mid ∷ states) a b c are one = (are.0, chain_more R states mid b c are.1 one)

-- ---- Calls that fail.

-- this many frames were sent, and then nothing
pub front_of : {F : Type 0} (octets : F → List ℕ) (frames : List F) (count : ℕ)
    (a b c : Option (List IoEvent)) → Adds a b (all_sent (map octets (take count frames))) → c ≡ b
    → SendsFront (map octets frames) a c
front_of octets frames count a b c adds stays = (
  count,
  subst (λ (x : List (List ℕ)). Adds a c (all_sent x)) (sym (take-map octets count frames))
      (subst (λ (x : Option (List IoEvent)). Adds a x (all_sent (map octets (take count frames))))
      (sym stays) adds),
)

-- or one more was
pub front_next : {F : Type 0} (octets : F → List ℕ) (frames : List F) (at : ℕ) (frame : F)
    (item : List ℕ) (a b c : Option (List IoEvent)) → at < length frames
    → frame ≡ get_or frames at frame → item ≡ octets frame
    → Adds a b (all_sent (map octets (take at frames))) → Adds b c (Sends item ∷ [])
    → SendsFront (map octets frames) a c
front_next octets frames at frame item a b c within is says before now =
    let one : take (at + 1) frames ≡ take at frames ++ frame ∷ [] =
    take_more frames at frame within ∙ ap (λ x. take at frames ++ x ∷ []) (sym is) in
    let sent : all_sent (map octets (take (at + 1) frames)) ≡ all_sent (map octets (take at frames))
    ++ Sends item ∷ [] =
    ap (λ xs. all_sent (map octets xs)) one
    ∙ ap all_sent (map-append octets (take at frames) (frame ∷ []))
    ∙ map-append Sends (map octets (take at frames)) (octets frame ∷ [])
    ∙ ap (λ x. all_sent (map octets (take at frames)) ++ Sends x ∷ []) (sym says) in
    front_of octets frames (at + 1) a c c
    (subst (Adds a c) (sym sent) (adds_both a b c _ _ before now)) refl

-- or all were sent
pub front_is_all : (frames all : List (List ℕ)) (a b : Option (List IoEvent)) → frames ≡ all
    → Adds a b (all_sent frames) → SendsFront all a b
front_is_all frames all a b same adds = (
  length all,
  subst (λ (x : List (List ℕ)). Adds a b (all_sent x)) (same ∙ sym (take-length all))
      adds,
)
