-- The lines of `state` and `stats`, put together.
use Rattle.std.proofs.Common.{◌≡◌, ℕ, ◌+◌, ◌<◌, List, [], ◌∷◌, ◌++◌, get_or, length, take, Option, refl, sym, ap, subst, ◌∙◌}
use Rattle.std.proofs.lemmas.List.{take_more}
use Rattle.std.specs.Prelude.{Bool, true, false, ◌==◌, map, Some}
use Rattle.lapd_timers.specs.Due.{Timers}
use Rattle.lapd_cli_live_text.specs.LinkText.{management_text}
use Rattle.lapd_table.specs.declared.link_id.LinkId.{LinkId}
use Rattle.lapd_sides_links.specs.declared.side_fault.SideKind.TheVariants.{NoLink}
use Rattle.lapd_sides.specs.declared.either_side.EitherSide.{EitherSide}
use Rattle.lapd_sides.specs.Either.{side_of}
use Rattle.lapd_cli_wire.specs.declared.outside.Lines.{Lines}
use Rattle.lapd_cli_live.specs.LineDone.{FindsLine, sought}
use Rattle.lapd_cli_live.specs.declared.printer.Printer.{Printer}
use Rattle.lapd_cli_wire.specs.IoEvents.{IoEvent}
use Rattle.lapd_cli_wire.specs.declared.impairment.Impairment.{Impairment}
use Rattle.lapd_cli_live.specs.Entries.{Worded, refused, stats_entries}
use Rattle.lapd_cli_live.specs.Printers.{PrintsOn}
use Rattle.lapd_cli_live.specs.Log.{HappenBeside, LiveState, Shows}
use Rattle.lapd_cli_live.specs.StateLines.{PutsLink, PutsNoLink, PutsState, RefusesLink, StateEach, line_unless_empty, management_events, shown_event}
use Rattle.lapd_cli_wire.proofs.IoEvents.{adds_none}
use Rattle.lapd_cli_live.proofs.Log.{live}

pub puts_link : (id : LinkId) (matched : Bool) (a b : LiveState) → matched ≡ true
    → PutsState id matched a b → PutsLink id a b
puts_link id matched a b is puts = subst (λ (x : Bool). PutsState id x a b) is puts

pub puts_no_link : (id : LinkId) (matched : Bool) (a b : LiveState) → matched ≡ false
    → PutsState id matched a b → PutsNoLink id a b
puts_no_link id matched a b is puts = subst (λ (x : Bool). PutsState id x a b) is puts

pub refuses_link : (id : LinkId) (a m b : LiveState) → PutsNoLink id a m
    → HappenBeside (Shows (refused NoLink) ∷ []) m b → RefusesLink id a b
refuses_link id a m b none prints = record {
  lacks = none.lacks;
  prints =
      subst (λ (x : LiveState). HappenBeside (Shows (refused NoLink) ∷ []) x b) none.same prints;
}

pub counts_printed : {W : Type 0} {most : ℕ} (contents : W → Option (List ℕ)) (side : EitherSide)
    (io_events : Option (List IoEvent)) (impairment : Option Impairment) (p q : Printer W)
    (discarded : ℕ)
    → PrintsOn contents (side_of side) (stats_entries p.stats discarded) p q
    → HappenBeside (map shown_event (stats_entries p.stats discarded))
    (live most side io_events impairment contents p)
    (live most side io_events impairment contents q)
counts_printed contents side io_events impairment p q discarded prints = record {
  side = refl;
  moment = prints.prints.now;
  happen = record {
    own = refl;
    style = prints.style;
    io_events = adds_none io_events;
    impairment = refl;
    shown = prints.prints;
    most = refl;
  };
}

pub state_more : (ids : List LinkId) (id : LinkId) (matched : Bool) (a b c : LiveState)
    → StateEach ids a b → PutsState id matched b c → StateEach (ids ++ id ∷ []) a c
state_more [] id matched a b c same puts =
    (c, matched, subst (λ (x : LiveState). PutsState id matched x c) same puts, refl)
state_more (first ∷ ids) id matched a b c each puts =
    (each.0, each.1, each.2, state_more ids id matched each.0 b c each.3 puts)

-- the next of some links
pub state_next : (ids : List LinkId) (at : ℕ) (id : LinkId) (matched : Bool) (a b c : LiveState)
    → at < length ids → id ≡ get_or ids at id
    → StateEach (take at ids) a b → PutsState id matched b c → StateEach (take (at + 1) ids) a c
state_next ids at id matched a b c within is each puts =
    subst (λ (xs : List LinkId). StateEach xs a c)
    (sym (take_more ids at id within ∙ ap (λ (x : LinkId). take at ids ++ x ∷ []) (sym is)))
    (state_more (take at ids) id matched a b c each puts)

-- the line of TEI management is printed, since it is not empty
pub management_printed : (timers : Option Timers) (t : Timers) (now : ℕ) (words : List ℕ)
    (a b : LiveState) → timers ≡ Some t → words ≡ management_text t now
    → (length words == 0) ≡ false → HappenBeside (Shows (Worded words) ∷ []) a b
    → HappenBeside (management_events timers now) a b
management_printed timers t now [] a b is are some prints =
    let impossible : true ≡ false = some in cc
management_printed timers t now (first ∷ words) a b is are some prints =
    subst (λ (x : Option Timers). HappenBeside (management_events x now) a b) (sym is)
    (subst (λ (x : List ℕ). HappenBeside (line_unless_empty x) a b) are prints)

-- the words of a line, put in their place
pub finds_sought : (line words : List ℕ) (ms : ℕ) (lines : Lines) (matched is : Bool)
    (a b : LiveState) → line ≡ sought words a → matched ≡ is
    → FindsLine line ms lines matched a b → FindsLine (sought words a) ms lines is a b
finds_sought line words ms lines matched is a b same known finds =
    subst (λ (x : List ℕ). FindsLine x ms lines is a b) same
    (subst (λ (x : Bool). FindsLine line ms lines x a b) known finds)
