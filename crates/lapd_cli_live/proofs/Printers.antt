-- A line that is printed.
use Rattle.std.proofs.Common.{◌≡◌, ℕ, List, [], ◌∷◌, ◌++◌, Option, None, Some, refl, sym, ap, subst, ◌∙◌, append_assoc, append-nil}
use Rattle.std.specs.Prelude.{Bool, true, false, ◌||◌}
use Rattle.std.specs.Io.KnownBytes.{Appends, append_known}
use Rattle.lapd_frame.specs.declared.Side.{Side}
use Rattle.lapd_cli_live.specs.declared.printer.Printer.{Printer}
use Rattle.lapd_cli_live.specs.Entries.{Entry, begins_so, counted, entry_text, line_kept, line_of, moment_after, object_of, printed_line}
use Rattle.lapd_cli_live.specs.Printers.{PrintsOn, PutsLine}
use Rattle.lapd_cli_live.specs.RecentOutput.{recent_lines}

appends_known : (known : Option (List ℕ)) (a b : List ℕ)
    → Appends (append_known known a) (append_known known (a ++ b)) b
appends_known None a b = tt
appends_known (Some before) a b = sym (append_assoc before a b)

-- two printers differ at most in the buffer for a line and in the counts
pub record IsBeside {W : Type 0} (old mid : Printer W) : Type 0 where
  pub out : mid.out ≡ old.out
  pub style : mid.style ≡ old.style
  pub moment : mid.moment ≡ old.moment
  pub awaited : mid.awaited ≡ old.awaited
  pub text : mid.text ≡ old.text
  pub matched : mid.is_matched ≡ old.is_matched
  pub recent_output : mid.recent_output ≡ old.recent_output

-- a line is printed from a printer that differs in the buffer for it
pub puts_same : {W : Type 0} (line other object : List ℕ) (old mid new : Printer W)
    → IsBeside old mid → mid.stats ≡ old.stats → line ≡ other
    → PutsLine line object mid new → PutsLine other object old new
puts_same line other object old mid new beside stats is puts = record {
  out = puts.out ∙ beside.out;
  style = puts.style ∙ beside.style;
  moment = puts.moment ∙ beside.moment;
  stats = puts.stats ∙ stats;
  awaited = puts.awaited ∙ beside.awaited;
  text =
      puts.text
      ∙ ap (λ text. text.items ++ printed_line mid.style mid.moment line object) beside.text
      ∙ ap (λ style. old.text.items ++ printed_line style mid.moment line object) beside.style
      ∙ ap (λ moment. old.text.items ++ printed_line old.style moment line object) beside.moment
      ∙ ap (λ line. old.text.items ++ printed_line old.style old.moment line object) is;
  matched =
      puts.matched ∙ ap (λ matched. matched || begins_so mid.awaited.items line) beside.matched
      ∙ ap (λ awaited. old.is_matched || begins_so awaited.items line) beside.awaited
      ∙ ap (λ line. old.is_matched || begins_so old.awaited.items line) is;
  keeps = puts.keeps ∙ ap (λ recent_output. recent_output.is_retained) beside.recent_output;
  kept =
      puts.kept
      ∙ ap (λ recent_output. line_kept recent_output.is_retained line (recent_lines recent_output))
      beside.recent_output
      ∙ ap (λ line. line_kept old.recent_output.is_retained line (recent_lines old.recent_output))
      is;
}

or_false : (a : Bool) → a ≡ (a || false)
or_false true = refl
or_false false = refl

-- the line of an entry is printed, and the entry counted
pub prints_entry : {W : Type 0} (contents : W → Option (List ℕ)) (own : Side) (entry : Entry)
    (line object : List ℕ) (old mid new : Printer W)
    → IsBeside old mid → mid.stats ≡ counted own old.stats entry
    → moment_after old.moment entry ≡ old.moment → line ≡ line_of old.style own entry
    → object ≡ object_of own entry → PutsLine line object mid new
    → PrintsOn contents own (entry ∷ []) old new
prints_entry {W = W} contents own entry line object old mid new beside stats stays is of puts =
    let text : new.text.items ≡ old.text.items ++
    (entry_text old.style own old.moment entry ++ []) =
    puts.text ∙ ap (λ text. text.items ++ printed_line mid.style mid.moment line object) beside.text
    ∙ ap (λ style. old.text.items ++ printed_line style mid.moment line object) beside.style
    ∙ ap (λ moment. old.text.items ++ printed_line old.style moment line object) beside.moment
    ∙ ap (λ line. old.text.items ++ printed_line old.style old.moment line object) is
    ∙ ap (λ object. old.text.items ++ printed_line old.style old.moment
    (line_of old.style own entry) object) of
    ∙ ap (λ text. old.text.items ++ text)
    (sym (append-nil (entry_text old.style own old.moment entry))) in
    let matched : new.is_matched ≡
    (old.is_matched || (begins_so old.awaited.items (line_of old.style own entry) || false)) =
    puts.matched ∙ ap (λ matched. matched || begins_so mid.awaited.items line) beside.matched
    ∙ ap (λ awaited. old.is_matched || begins_so awaited.items line) beside.awaited
    ∙ ap (λ line. old.is_matched || begins_so old.awaited.items line) is
    ∙ ap (λ matched. old.is_matched || matched)
    (or_false (begins_so old.awaited.items (line_of old.style own entry))) in
    record {
      style = puts.style ∙ beside.style;
      prints = record {
        text =
            subst (λ (x : List ℕ). Appends (append_known (contents old.out) old.text.items)
            (append_known (contents new.out) x)
            (entry_text old.style own old.moment entry ++ [])) (sym text)
            (subst (λ (x : W). Appends (append_known (contents old.out) old.text.items)
            (append_known (contents x)
            (old.text.items ++ (entry_text old.style own old.moment entry ++ [])))
            (entry_text old.style own old.moment entry ++ []))
            (sym (puts.out ∙ beside.out))
            (appends_known (contents old.out) old.text.items
            (entry_text old.style own old.moment entry ++ [])));
        now = puts.moment ∙ beside.moment ∙ sym stays;
        stats = puts.stats ∙ stats;
        awaited = ap (λ awaited. awaited.items) (puts.awaited ∙ beside.awaited);
        matched = matched;
        keeps = puts.keeps ∙ ap (λ recent_output. recent_output.is_retained) beside.recent_output;
        kept =
            puts.kept
            ∙ ap (λ recent_output. line_kept recent_output.is_retained line
            (recent_lines recent_output)) beside.recent_output
            ∙ ap (λ line. line_kept old.recent_output.is_retained line
            (recent_lines old.recent_output)) is;
      };
    }
