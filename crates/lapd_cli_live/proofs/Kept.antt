-- Kept lines.
use Rattle.std.proofs.Common.{◌≡◌, ℕ, List, [], ◌∷◌, refl, sym, ap, ◌∙◌}
use Rattle.std.specs.Prelude.{Bool, ◌||◌, Option, is_some}
use Rattle.std.specs.List.{list_any}
use Rattle.std.specs.declared.alloc.Global.{Global}
use Rattle.std.specs.declared.vec.Vec.{Vec}
use Rattle.lapd_cli_live.specs.RecentOutput.{begins_with, has_line, line_octets}

begins_in : (words : List ℕ) (lines : List (Vec ℕ Global))
    → list_any (begins_with words) lines ≡ has_line words (line_octets lines)
begins_in words [] = refl
begins_in words (line ∷ lines) =
    ap (λ (rest : Bool). begins_with words line || rest) (begins_in words lines)

-- a line is found exactly if one of the lines begins with the words
pub found_in : (words : List ℕ) (place other : Option ℕ) (slice lines : List (Vec ℕ Global))
    → place ≡ other → is_some place ≡ list_any (begins_with words) slice → slice ≡ lines
    → is_some other ≡ has_line words (line_octets lines)
found_in words place other slice lines same found is =
    ap (λ (x : Option ℕ). is_some x) (sym same) ∙ found ∙ ap (list_any (begins_with words)) is
    ∙ begins_in words lines
