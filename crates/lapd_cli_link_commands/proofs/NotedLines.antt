-- The lines of a text, one after the other.
use Rattle.std.proofs.Common.{◌≡◌, ℕ, ◌==◌, List, [], ◌∷◌, ◌++◌, refl, ap, ◌∙◌, append-nil}
use Rattle.std.specs.List.{flat_map, slice_split}
use Rattle.std.proofs.lemmas.Bool.{ne_eqb}
use Rattle.lapd_cli_script.specs.WalkState.{HasNoFeed}
use Rattle.lapd_cli_link_commands.specs.PairLadder.{is_feed, noted_line, notes_in}

one_line : (line : List ℕ) → HasNoFeed line → slice_split is_feed line ≡ line ∷ []
one_line [] h = refl
one_line (octet ∷ line) h = rw (ne_eqb _ _ h.0, one_line line h.1) refl

lines_behind : (line behind : List ℕ) → HasNoFeed line
    → slice_split is_feed (line ++ 10 ∷ behind) ≡ line ∷ slice_split is_feed behind
lines_behind [] behind h = refl
lines_behind (octet ∷ line) behind h = rw (ne_eqb _ _ h.0, lines_behind line behind h.1) refl

pub notes_cut : (text line behind : List ℕ) → text ≡ line ++ 10 ∷ behind → HasNoFeed line
    → notes_in text ≡ noted_line line ++ notes_in behind
notes_cut text line behind e h =
    ap notes_in e ∙ ap (flat_map noted_line) (lines_behind line behind h)

pub notes_whole : (text : List ℕ) → HasNoFeed text → notes_in text ≡ noted_line text
notes_whole text h = ap (flat_map noted_line) (one_line text h) ∙ append-nil (noted_line text)
