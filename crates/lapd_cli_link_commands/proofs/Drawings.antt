-- A line of a drawn script, and the head above the first.
use Rattle.std.proofs.Common.{◌≡◌, ℕ, List, [], ◌++◌, Option, Some, None, map, option_map, Result, Ok, Err, refl, sym, ap, ◌∙◌, subst}
use Rattle.std.specs.Prelude.{⊤, IfSome, IsErrAnd, IsSomeAnd, slice_get}
use Rattle.std.specs.Io.KnownBytes.{Appends, Keeps, append_known}
use Rattle.std.proofs.lemmas.Option.{slice_get-map}
use Rattle.lapd_cli_script.specs.Script.{LineEndsAs, LineOutcome, lines_of}
use Rattle.lapd_cli_script.specs.declared.script.LineFault.{LineFault}
use Rattle.lapd_cli_script.specs.declared.script.LineFault.TheVariants.{Bad, Device as LineDevice, Memory as LineMemory}
use Rattle.lapd_cli_script.specs.declared.script.ScriptFault.{ScriptFault}
use Rattle.lapd_cli_script.specs.declared.script.ScriptFault.TheVariants.{Device}
use Rattle.lapd_pair_laws.specs.World.{World}
use Rattle.lapd_cli_link_commands.specs.declared.pair_ladder.Drawer.{Drawer}
use Rattle.lapd_cli_link_commands.specs.Moves.{move_of_line}
use Rattle.lapd_cli_link_commands.specs.Pair.{ClosesAs}
use Rattle.lapd_cli_link_commands.specs.PairLadder.{LadderEndsAs, TakenFrame, drawn, drawn_step, drawn_text, ends_head, taken_by_move}
use Rattle.lapd_cli_link_commands.specs.RepresentsLadder.{IsDrawer, KeepsText}
use Rattle.lapd_cli_link_commands.specs.RepresentsWorld.{IsSettler}

-- a frame among the octets of its line
pub octets_at : {A : Type 0} (items : A → List ℕ) (frames : List A) (line : List (List ℕ))
    (place : ℕ) (found : Option A) → map items frames ≡ line → found ≡ slice_get frames place
    → slice_get line place ≡ option_map items found
octets_at items frames line place found same is =
    ap (λ octets. slice_get octets place) (sym same) ∙ slice_get-map items frames place
    ∙ ap (option_map items) (sym is)

-- a valid line that was executed, drawn and printed
pub line_drawn : (w : World) (line : List ℕ) (outcome : LineOutcome World)
    (taken : Option TakenFrame) (executed drawer : Drawer) (old new : Option (List ℕ))
    → taken ≡ taken_by_move w (move_of_line line)
    → IsSomeAnd outcome (λ next. IsDrawer executed next.1 × (executed.text.items ≡ next.0))
    → ((v : World) → IsDrawer executed v
    → drawer.drawn.items ≡ drawn_text v taken executed.text.items)
    → drawer.settler ≡ executed.settler
    → Appends old new drawer.drawn.items
    → IsSomeAnd (option_map (drawn w line) outcome)
    (λ next. IsDrawer drawer next.1 × Appends old new next.0)
line_drawn w line None taken executed drawer old new e h draws same grew = absurd h
line_drawn w line (Some (text, v)) taken executed drawer old new e h draws same grew =
    let is : drawer.drawn.items ≡ drawn_text v (taken_by_move w (move_of_line line)) text =
    draws v h.0 ∙ ap (λ t. drawn_text v t executed.text.items) e
    ∙ ap (drawn_text v (taken_by_move w (move_of_line line))) h.1 in
    (subst (λ settler. IsSettler settler v) (sym same) h.0, subst (Appends old new) is grew)

-- a line that is not valid, or an allocation failed; nothing was printed
pub line_failed : (w : World) (line : List ℕ) (o : LineOutcome World) (result : Result ⊤ LineFault)
    (fault : LineFault) (executed drawer : Drawer) (old : Option (List ℕ))
    → IsErrAnd result (λ e. e ≡ fault) → KeepsText o (Err fault) executed
    → LineEndsAs IsDrawer (option_map (drawn w line) o) result drawer old old
line_failed w line o (Ok done) fault executed drawer old is h = absurd is
line_failed w line o (Err e) fault executed drawer old is h =
    let F : LineFault → Type 0 =
    λ x. LineEndsAs IsDrawer (option_map (drawn w line) o) (Err x) drawer old old in
    subst F (sym is) (by_fault fault o h)
  where
    kept : (known : Option (List ℕ)) → Keeps known known
    kept None = tt
    kept (Some octets) = refl

    by_fault : (fault : LineFault) (o : LineOutcome World) → KeepsText o (Err fault) executed
        → LineEndsAs IsDrawer (option_map (drawn w line) o) (Err fault) drawer old old
    by_fault Bad None h = (h, kept old)
    by_fault Bad (Some next) h = let none = h in absurd cc
    by_fault LineMemory o h = kept old
    by_fault LineDevice o h = absurd h

-- the text of a valid line, kept
pub text_kept : (outcome : LineOutcome World) (drawer : Drawer) (before : List ℕ) → before ≡ []
    → LineEndsAs IsSettler outcome (Ok tt) drawer.settler (Some before) (Some drawer.text.items)
    → KeepsText outcome (Ok tt) drawer
text_kept None drawer before e h = absurd h
text_kept (Some (text, v)) drawer before e h = (h.0, h.1 ∙ ap (λ octets. octets ++ text) e)

-- ---- The head.

-- the head could be printed, even if it was not
head_appended : (old : Option (List ℕ)) (head : List ℕ) → Appends old (append_known old head) head
head_appended None head = tt
head_appended (Some known) head = refl

-- the lines are drawn below the head
pub with_head : (known : Option (List ℕ)) (w : World) (result : Result ⊤ ScriptFault)
    (old begun new : Option (List ℕ))
    → Appends old begun ends_head
    → IfSome known (λ octets. ClosesAs drawn_step w result (lines_of octets) begun new)
    → IfSome known (λ octets. LadderEndsAs w result (lines_of octets) old new)
with_head None w result old begun new head h = tt
with_head (Some octets) w result old begun new head h = (begun, head, h)

-- the head could not be printed
pub head_failed : (known : Option (List ℕ)) (w : World) (old new : Option (List ℕ))
    → IfSome known (λ octets. LadderEndsAs w (Err Device) (lines_of octets) old new)
head_failed None w old new = tt
head_failed (Some octets) w old new = (append_known old ends_head, head_appended old ends_head, tt)
