-- The effect of lines that wait, put together.
use Rattle.std.proofs.Common.{◌≡◌, ◌⊎◌, ℕ, List, [], Option, sym, ap, subst, inl, inr, ◌∙◌}
use Rattle.std.specs.Prelude.{Bool, true, false}
use Rattle.std.specs.Io.KnownBytes.{append_known}
use Rattle.lapd_sides.specs.declared.either_side.EitherSide.{EitherSide}
use Rattle.lapd_cli_live.specs.declared.printer.Printer.{Printer}
use Rattle.lapd_cli_live.specs.declared.service.EndReason.{EndReason}
use Rattle.lapd_cli_live.specs.declared.service.EndReason.TheVariants as end_reason
use Rattle.lapd_cli_wire.specs.IoEvents.{IoEvent}
use Rattle.lapd_cli_wire.specs.declared.impairment.Impairment.{Impairment}
use Rattle.lapd_cli_live.specs.Entries.{Shown}
use Rattle.lapd_cli_live.specs.Printers.{Awaits, shown}
use Rattle.lapd_cli_live.specs.Log.{HappenBeside, LiveState}
use Rattle.lapd_cli_live.specs.RecentOutput.{lines_behind, recent_lines}
use Rattle.lapd_cli_live.specs.WaitingLines.{awaiting, behind_line, forgetting, keeping, read_events, with_kept}
use Rattle.lapd_cli_live.proofs.Log.{live}
use Rattle.lapd_cli_live.proofs.Steps.{beside_none}

-- the state of a printer that awaits a line
shown_awaiting : {W : Type 0} (contents : W → Option (List ℕ)) (words : List ℕ) (p q : Printer W)
    → Awaits words p q
    → shown contents q ≡ record (shown contents p) { awaited = words; matched = false }
shown_awaiting {W = W} contents words p q awaits =
    ap (λ (x : W). record (shown contents q) { text = append_known (contents x) q.text.items })
    awaits.out
    ∙ ap (λ text. record (shown contents q) { text = append_known (contents p.out) text.items })
    awaits.text
    ∙ ap (λ moment. record (shown contents q)
    { text = append_known (contents p.out) p.text.items; now = moment }) awaits.moment
    ∙ ap (λ stats. record (shown contents q)
    { text = append_known (contents p.out) p.text.items; now = p.moment; stats = stats })
    awaits.stats
    ∙ ap (λ (awaited : List ℕ). record (shown contents q) {
      text = append_known (contents p.out) p.text.items;
      now = p.moment;
      stats = p.stats;
      awaited = awaited;
    }) awaits.awaited
    ∙ ap (λ (matched : Bool). record (shown contents q) {
      text = append_known (contents p.out) p.text.items;
      now = p.moment;
      stats = p.stats;
      awaited = words;
      matched = matched;
    }) awaits.matched
    ∙ ap (λ recent_output. record (shown contents p) {
      awaited = words;
      matched = false;
      keeps = recent_output.is_retained;
      kept = recent_lines recent_output;
    })
    awaits.recent_output

-- a side whose printer awaits a line
pub is_awaiting : {W : Type 0} {most : ℕ} (contents : W → Option (List ℕ)) (side : EitherSide)
    (io_events : Option (List IoEvent)) (impairment : Option Impairment) (words : List ℕ)
    (p q : Printer W)
    → Awaits words p q
    → live most side io_events impairment contents q
    ≡ awaiting words (live most side io_events impairment contents p)
is_awaiting {most = most} contents side io_events impairment words p q awaits =
    ap (λ style. record {
      side = side;
      style = style;
      io_events = io_events;
      impairment = impairment;
      shown = shown contents q;
      most = most;
    }) awaits.style
    ∙ ap (λ (x : Shown). record {
      side = side;
      style = p.style;
      io_events = io_events;
      impairment = impairment;
      shown = x;
      most = most;
    })
    (shown_awaiting contents words p q awaits)

-- a side with other kept lines
other_kept : {W : Type 0} {most : ℕ} (contents : W → Option (List ℕ)) (side : EitherSide)
    (io_events : Option (List IoEvent)) (impairment : Option Impairment) (keeps : Bool)
    (kept : List (List ℕ))
    (p q : Printer W) → q ≡ record p { recent_output = q.recent_output }
    → q.recent_output.is_retained ≡ keeps → recent_lines q.recent_output ≡ kept
    → live most side io_events impairment contents q
    ≡ with_kept keeps kept (live most side io_events impairment contents p)
other_kept {most = most} contents side io_events impairment keeps kept p q same retained lines =
    ap (λ printer. live most side io_events impairment contents printer) same
    ∙ ap (λ (x : Bool). with_kept x (recent_lines q.recent_output)
    (live most side io_events impairment contents p)) retained
    ∙ ap (λ (xs : List (List ℕ)). with_kept keeps xs
    (live most side io_events impairment contents p)) lines

pub is_keeping : {W : Type 0} {most : ℕ} (contents : W → Option (List ℕ)) (side : EitherSide)
    (io_events : Option (List IoEvent)) (impairment : Option Impairment) (p q : Printer W)
    → q ≡ record p { recent_output = q.recent_output } → q.recent_output.is_retained ≡ true
    → recent_lines q.recent_output ≡ recent_lines p.recent_output
    → live most side io_events impairment contents q
    ≡ keeping (live most side io_events impairment contents p)
is_keeping {most = most} contents side io_events impairment p q same retained lines =
    other_kept contents side io_events impairment true (recent_lines p.recent_output) p q same
    retained lines

pub is_forgetting : {W : Type 0} {most : ℕ} (contents : W → Option (List ℕ)) (side : EitherSide)
    (io_events : Option (List IoEvent)) (impairment : Option Impairment) (p q : Printer W)
    → q ≡ record p { recent_output = q.recent_output } → q.recent_output.is_retained ≡ false
    → recent_lines q.recent_output ≡ []
    → live most side io_events impairment contents q
    ≡ forgetting (live most side io_events impairment contents p)
is_forgetting {most = most} contents side io_events impairment p q same retained lines =
    other_kept contents side io_events impairment false [] p q same retained lines

pub is_behind : {W : Type 0} {most : ℕ} (contents : W → Option (List ℕ)) (side : EitherSide)
    (io_events : Option (List IoEvent)) (impairment : Option Impairment) (words : List ℕ)
    (p q : Printer W)
    → q ≡ record p { recent_output = q.recent_output } → q.recent_output.is_retained ≡ false
    → recent_lines q.recent_output ≡ lines_behind words (recent_lines p.recent_output)
    → live most side io_events impairment contents q
    ≡ behind_line words (live most side io_events impairment contents p)
is_behind {most = most} contents side io_events impairment words p q same retained lines =
    other_kept contents side io_events impairment false
    (lines_behind words (recent_lines p.recent_output)) p q same retained lines

-- `read` prints nothing if a frame was received
pub read_nothing : (why : EndReason) (a : LiveState)
    → (why ≡ end_reason.Frame) ⊎ ((why ≡ end_reason.Matched) ⊎ (why ≡ end_reason.Line))
    → HappenBeside (read_events why) a a
read_nothing why a (inl is) =
    subst (λ (x : EndReason). HappenBeside (read_events x) a a) (sym is) (beside_none a)
read_nothing why a (inr (inl is)) =
    subst (λ (x : EndReason). HappenBeside (read_events x) a a) (sym is) (beside_none a)
read_nothing why a (inr (inr is)) =
    subst (λ (x : EndReason). HappenBeside (read_events x) a a) (sym is) (beside_none a)

pub read_as : (why is : EndReason) (a b : LiveState) → why ≡ is → HappenBeside (read_events is) a b
    → HappenBeside (read_events why) a b
read_as why is a b same happen =
    subst (λ (x : EndReason). HappenBeside (read_events x) a b) (sym same) happen
