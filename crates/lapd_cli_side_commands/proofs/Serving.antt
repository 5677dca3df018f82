-- The behaviour of a side, line after line.
use Rattle.std.proofs.Common.{◌≡◌, ◌<◌, ℕ, ◌+◌, List, [], ◌∷◌, ◌++◌, get_or, length, map, take, Option, None, Some, OnOk, Result, Ok, Err, inl, inr, refl, sym, ap, subst, ◌∙◌, append_assoc}
use Rattle.std.specs.Prelude.{IsSomeAnd, flat_map, option_and_then, option_map}
use Rattle.std.proofs.lemmas.Grind.{flat_map-append}
use Rattle.std.proofs.lemmas.List.{append-nil, map-append, take_more}
use Rattle.std.proofs.KnownBytes.{Appends-trans}
use Rattle.std.specs.Io.KnownBytes.{Appends, Keeps}
use Rattle.lapd_port.specs.SocketText.{frame_text, socket_text}
use Rattle.lapd_sides_links.specs.declared.side_fault.SideFault.{SideFault}
use Rattle.lapd_sides_links.specs.declared.primitive.Primitive.{Primitive}
use Rattle.lapd_sides_links.specs.Effects.{Effects, no_effects}
use Rattle.lapd_sides.specs.declared.request.Request.{Request}
use Rattle.lapd_sides.specs.declared.request.Request.TheVariants as request
use Rattle.lapd_sides.specs.declared.either_side.EitherSide.{EitherSide}
use Rattle.lapd_sides.specs.declared.either_side.EitherSide.TheVariants as either
use Rattle.lapd_sides.specs.Either.{side_of, Answers, Expires, StaysIdle}
use Rattle.lapd_frame.specs.declared.Side.{Side}
use Rattle.lapd_cli_script.specs.Script.{LineOutcome}
use Rattle.lapd_cli_side_lines.specs.declared.side_lines.SideLine.{SideLine}
use Rattle.lapd_cli_side_lines.specs.declared.line_style.LineStyle.{LineStyle}
use Rattle.lapd_cli_side_lines.specs.SideTexts.{acts_text, frame_text_line, frames_text, primitive_line, primitives_text}
use Rattle.lapd_cli_side_lines.specs.Calls.{frames_given, primitives_given}
use Rattle.lapd_cli_side_commands.specs.Served.{AtWork, Asks, Devices, ExpiresAll, HasReached, LineDoes, LinesDo, Progress, after_line, side_step, request_list}
use Rattle.lapd_cli_side_commands.specs.Clocks.{Clocked, clock_step, clocked, moment_after}
use Rattle.lapd_cli_side_lines.specs.LineRequests.{LineRequest, Read, Tick, Establish, Release, Give, Unit, Busy, AskTei, Check, Remove, CheckAll, RemoveAll, request_of, request_of_line, line_request_of}
use Rattle.lapd_cli_side_lines.proofs.Calls.{AreExpired, one_more, then_none}

-- ---- Frames.

-- the output of one element more is appended to the output of the others
flat_more : {X Y : Type 0} (f : X → List Y) (xs : List X) (x : X)
    → flat_map f (xs ++ x ∷ []) ≡ flat_map f xs ++ f x
flat_more f [] x = append-nil (f x)
flat_more f (first ∷ xs) x =
    ap (λ ys. f first ++ ys) (flat_more f xs x) ∙ sym (append_assoc (f first) (flat_map f xs) (f x))

one_taken : {F : Type 0} (frames : List F) (at : ℕ) (frame : F) → at < length frames
    → frame ≡ get_or frames at frame → take (at + 1) frames ≡ take at frames ++ frame ∷ []
one_taken frames at frame within is =
    take_more frames at frame within ∙ ap (λ x. take at frames ++ x ∷ []) (sym is)

one_of_all : {F : Type 0} (octets : F → List ℕ) (frames : List F) (at : ℕ) (frame : F)
    (item : List ℕ) → at < length frames → frame ≡ get_or frames at frame → item ≡ octets frame
    → map octets (take (at + 1) frames) ≡ map octets (take at frames) ++ item ∷ []
one_of_all octets frames at frame item within is says =
    ap (map octets) (one_taken frames at frame within is)
    ∙ map-append octets (take at frames) (frame ∷ [])
    ∙ ap (λ x. map octets (take at frames) ++ x ∷ []) (sym says)

-- one frame more of a list is kept
pub one_preserved : {F : Type 0} (octets : F → List ℕ) (frames : List F) (at : ℕ) (frame : F)
    (item : List ℕ) (before mid after : List (List ℕ)) → at < length frames
    → frame ≡ get_or frames at frame → item ≡ octets frame
    → mid ≡ before ++ map octets (take at frames) → after ≡ mid ++ item ∷ []
    → after ≡ before ++ map octets (take (at + 1) frames)
one_preserved octets frames at frame item before mid after within is says so more =
    more ∙ ap (λ (preserved : List (List ℕ)). preserved ++ item ∷ []) so
    ∙ append_assoc before (map octets (take at frames)) (item ∷ [])
    ∙ ap (λ (preserved : List (List ℕ)). before ++ preserved)
    (sym (one_of_all octets frames at frame item within is says))

-- its text is kept
pub one_traced : {F : Type 0} (line : List ℕ → List ℕ) (octets : F → List ℕ) (frames : List F)
    (at : ℕ) (frame : F) (item : List ℕ) (before mid after : List ℕ) → at < length frames
    → frame ≡ get_or frames at frame → item ≡ octets frame
    → mid ≡ before ++ flat_map line (map octets (take at frames)) → after ≡ mid ++ line item
    → after ≡ before ++ flat_map line (map octets (take (at + 1) frames))
one_traced line octets frames at frame item before mid after within is says so more =
    let others = map octets (take at frames) in
    more ∙ ap (λ (text : List ℕ). text ++ line item) so
    ∙ append_assoc before (flat_map line others) (line item)
    ∙ ap (λ (text : List ℕ). before ++ text)
    (sym (ap (flat_map line) (one_of_all octets frames at frame item within is says)
    ∙ flat_more line others item))

text_more : (frames : List (List ℕ)) (frame : List ℕ)
    → socket_text (frames ++ frame ∷ []) ≡ socket_text frames ++ frame_text frame
text_more [] frame = append-nil (frame_text frame)
text_more (first ∷ frames) frame =
    ap (λ (text : List ℕ). frame_text first ++ text) (text_more frames frame)
    ∙ sym (append_assoc (frame_text first) (socket_text frames) (frame_text frame))

-- it is written
pub one_written : {F : Type 0} (octets : F → List ℕ) (frames : List F) (at : ℕ) (frame : F)
    (item : List ℕ) (written more grown : Option (List ℕ)) → at < length frames
    → frame ≡ get_or frames at frame → item ≡ octets frame
    → Appends written more (socket_text (map octets (take at frames)))
    → Appends more grown (frame_text item)
    → Appends written grown (socket_text (map octets (take (at + 1) frames)))
one_written octets frames at frame item written more grown within is says before now =
    let text =
    ap socket_text (one_of_all octets frames at frame item within is says)
    ∙ text_more (map octets (take at frames)) item in
    subst (Appends written grown) (sym text) (Appends-trans written more grown _ _ before now)

-- it is printed
pub one_printed : {F : Type 0} (line : F → List ℕ) (frames : List F) (at : ℕ) (frame : F)
    (text : List ℕ) (printed more grown : Option (List ℕ)) → at < length frames
    → frame ≡ get_or frames at frame → text ≡ line frame
    → Appends printed more (flat_map line (take at frames)) → Appends more grown text
    → Appends printed grown (flat_map line (take (at + 1) frames))
one_printed line frames at frame text printed more grown within is says before now =
    let all =
    ap (flat_map line) (one_taken frames at frame within is)
    ∙ flat_more line (take at frames) frame
    ∙ ap (λ (last : List ℕ). flat_map line (take at frames) ++ last) (sym says) in
    subst (Appends printed grown) (sym all) (Appends-trans printed more grown _ _ before now)

pub on_both : {A E : Type 0} (r : Result A E) (P Q R : Type 0) → (P → Q → R) → OnOk r P → OnOk r Q
    → OnOk r R
on_both (Ok done) P Q R f p q = f p q
on_both (Err fault) P Q R f p q = tt

-- ---- Expiries.

-- the timers that expired so far, with their output kept
pub record ExpiresSome (style : LineStyle) (now : ℕ) (side : Side) (old new : EitherSide)
    (preserved : List (List ℕ)) (traced delivered : List ℕ) : Type 0 where
  pub calls : List Effects
  pub are : AreExpired now calls old new
  pub gave : preserved ≡ frames_given calls
  pub lines : traced ≡ frames_text style side (frames_given calls)
  pub says : delivered ≡ primitives_text style (primitives_given calls)

pub none_yet : (style : LineStyle) (now : ℕ) (side : Side) (old : EitherSide)
    (preserved : List (List ℕ)) (traced delivered : List ℕ) → preserved ≡ [] → traced ≡ []
    → delivered ≡ []
    → ExpiresSome style now side old old preserved traced delivered
none_yet style now side old preserved traced delivered no_frames no_lines no_words =
    record { calls = []; are = refl; gave = no_frames; lines = no_lines; says = no_words }

pub some_more : (style : LineStyle) (now : ℕ) (side : Side) (old mid new : EitherSide)
    (acts : Effects) (before after : List (List ℕ)) (traced lines delivered words : List ℕ)
    → ExpiresSome style now side old mid before traced delivered → Expires now mid new acts
    → after ≡ before ++ acts.frames → lines ≡ traced ++ frames_text style side acts.frames
    → words ≡ delivered ++ primitives_text style acts.primitives
    → ExpiresSome style now side old new after lines words
some_more style now side old mid new acts before after traced lines delivered words some due more
    and_lines and_words =
    let frames : List (List ℕ) = frames_given some.calls in
    let primitives : List Primitive = primitives_given some.calls in
    let all_frames : frames_given (some.calls ++ acts ∷ []) ≡ frames ++ acts.frames =
    flat_more (λ (a : Effects). a.frames) some.calls acts in
    let all_primitives : primitives_given (some.calls ++ acts ∷ []) ≡ primitives ++
    acts.primitives =
    flat_more (λ (a : Effects). a.primitives) some.calls acts in
    record {
      calls = some.calls ++ acts ∷ [];
      are = one_more now some.calls acts old mid new some.are due;
      gave =
          more ∙ ap (λ (preserved : List (List ℕ)). preserved ++ acts.frames) some.gave
          ∙ sym all_frames;
      lines =
          and_lines ∙ ap (λ (text : List ℕ). text ++ frames_text style side acts.frames) some.lines
          ∙ sym (ap (frames_text style side) all_frames
          ∙ flat_map-append (frame_text_line style side) frames acts.frames);
      says =
          and_words
          ∙ ap (λ (text : List ℕ). text ++ primitives_text style acts.primitives) some.says
          ∙ sym (ap (primitives_text style) all_primitives
          ∙ flat_map-append (primitive_line style) primitives acts.primitives);
    }

-- no timer is due any more, and the kept output is sent and printed
pub all_expired : (now at : ℕ) (old mid after_idle new : EitherSide) (preserved : List (List ℕ))
    (traced delivered : List ℕ) (start here end : Devices) → at ≡ now
    → ExpiresSome start.style now (side_of old) old mid preserved traced delivered
    → StaysIdle at mid after_idle → new ≡ after_idle → end.style ≡ start.style
    → here.written ≡ start.written → here.printed ≡ start.printed
    → Appends here.written end.written (socket_text preserved)
    → Appends here.printed end.printed (traced ++ delivered) → ExpiresAll now old new start end
all_expired now at old mid after_idle new preserved traced delivered start here end same some rests
    own style port out sent printed =
    let text : traced ++ delivered ≡ acts_text start.style (side_of old) (frames_given some.calls)
    (primitives_given some.calls) =
    ap (λ (front : List ℕ). front ++ delivered) some.lines
    ∙ ap (λ (back : List ℕ). frames_text start.style (side_of old) (frames_given some.calls) ++
    back) some.says in
    record {
      calls = some.calls;
      in_order = then_none now some.calls old mid new some.are
          (subst (λ (side : EitherSide). StaysIdle now mid side) (sym own)
          (subst (λ (moment : ℕ). StaysIdle moment mid after_idle) same rests));
      puts = record {
        style = style;
        sent =
            subst
            (λ (w : Option (List ℕ)). Appends w end.written (socket_text (frames_given some.calls)))
            port
            (subst (λ (frames : List (List ℕ)). Appends here.written end.written
            (socket_text frames)) some.gave sent);
        printed =
            subst (λ (p : Option (List ℕ)). Appends p end.printed
            (acts_text start.style (side_of old) (frames_given some.calls)
            (primitives_given some.calls))) out
            (subst (λ (t : List ℕ). Appends here.printed end.printed t) text printed);
      };
    }

-- ---- Requests.

-- ---- Lines.

pub lines_more : (line_requests : List LineRequest) (line_request : LineRequest) (a mid b : AtWork)
    → LinesDo line_requests a mid → LineDoes line_request mid b
    → LinesDo (line_requests ++ line_request ∷ []) a b
lines_more [] line_request a mid b lines does =
    (b, subst (λ (at : AtWork). LineDoes line_request at b) lines does, refl)
lines_more (first ∷ line_requests) line_request a mid b lines does =
    (lines.0, lines.1, lines_more line_requests line_request lines.0 mid b lines.2 does)

-- the style of lines does not change
style_preserved : (line_request : LineRequest) (a b : AtWork) → LineDoes line_request a b
    → b.around.style ≡ a.around.style
style_preserved Read a b (inl h) = h.takes.puts.style
style_preserved Read a b (inr h) = h.puts.style
style_preserved (Tick ms) a b h = h.due.puts.style
style_preserved (Establish id) a b h = h.puts.style
style_preserved (Release id) a b h = h.puts.style
style_preserved (Give id message) a b h = h.puts.style
style_preserved (Unit id octets) a b h = h.puts.style
style_preserved (Busy id on) a b h = h.puts.style
style_preserved AskTei a b h = h.puts.style
style_preserved (Check tei) a b h = h.puts.style
style_preserved (Remove tei) a b h = h.puts.style
style_preserved CheckAll a b h = h.puts.style
style_preserved RemoveAll a b h = h.puts.style

pub styles_preserved : (line_requests : List LineRequest) (a b : AtWork) → LinesDo line_requests a b
    → b.around.style ≡ a.around.style
styles_preserved [] a b same = ap (λ (at : AtWork). at.around.style) same
styles_preserved (line_request ∷ line_requests) a b h =
    styles_preserved line_requests h.0 b h.2 ∙ style_preserved line_request a h.0 h.1

-- a side that has executed the lines so far has executed one line more
pub line_done : (s : Progress) (line : List ℕ) (asked : SideLine) (a b : AtWork)
    (old new : Option (List ℕ)) → HasReached s a
    → request_of_line (side_of a.side) line ≡ Some (request_of asked)
    → moment_after a.now (request_of asked) ≡ Some b.now → side_of b.side ≡ side_of a.side
    → LineDoes (request_of asked) a b → Appends old new []
    → IsSomeAnd (side_step s line) (λ next. HasReached next.1 b × Appends old new next.0)
line_done s line asked a b old new come asks moves same does preserved =
    let line_request : LineRequest = request_of asked in
    let clock : Clocked = record { side = s.clock.side; now = b.now } in
    let here : request_of_line s.clock.side line ≡ Some line_request =
    subst (λ (side : Side). request_of_line side line ≡ Some line_request) come.of_side
    asks in
    let goes : moment_after s.clock.now line_request ≡ Some b.now =
    subst (λ (now : ℕ). moment_after now line_request ≡ Some b.now) come.moment moves in
    let clock_is : clock_step s.clock line ≡ Some ([], clock) =
    ap (λ (o : Option LineRequest). option_map (clocked s.clock.side)
    (option_and_then (moment_after s.clock.now) o)) here
    ∙ ap (option_map (clocked s.clock.side)) goes in
    let did : LinesDo (s.line_requests ++ request_list (request_of_line s.clock.side line)) s.begun
    b =
    subst (λ (o : Option LineRequest). LinesDo (s.line_requests ++ request_list o) s.begun b)
    (sym here) (lines_more s.line_requests line_request s.begun a b come.did does) in
    subst (λ (o : LineOutcome Clocked). IsSomeAnd (option_map (after_line s line) o)
    (λ next. HasReached next.1 b × Appends old new next.0)) (sym clock_is)
    (record { of_side = same ∙ come.of_side; moment = refl; did = did }, preserved)
