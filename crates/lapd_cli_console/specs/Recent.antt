-- The lines that are kept of what a reader read last.
use Rattle.std.specs.Prelude.{◌≡◌, ℕ, zero, suc, ◌-◌, ◌^◌, ◌==◌, min, nat_lt, if◌then◌else◌, Bool, List, [], ◌∷◌, ◌++◌, take, slice_get, Option, None, option_map, Result, Ok, Err}
use Rattle.std.specs.List.{slice_split}
use Rattle.std.specs.declared.io.Error.{Error}
use Rattle.lapd_cli_console.specs.declared.recent_lines.RecentLines.{RecentLines}

-- ---- The octets that were read.

-- all octets up to the last read that returned any, and those of that read
pub record ReadOctets : Type 0 where
  pub before : List ℕ
  pub last : List ℕ

-- nothing was read
abbrev pub nothing_read : ReadOctets
nothing_read = record { before = []; last = [] }

-- a read returned these octets; none at the end of the input
abbrev pub after_octets : ReadOctets → List ℕ → ReadOctets
after_octets r [] = r
after_octets r (octet ∷ octets) = record { before = r.before ++ r.last; last = octet ∷ octets }

abbrev pub after_read : ReadOctets → Result ℕ Error → List ℕ → ReadOctets
after_read r (Ok count) octets = after_octets r (take count octets)
after_read r (Err error) octets = r

-- the last read is over
abbrev pub forgotten : ReadOctets → ReadOctets
forgotten r = record { before = r.before ++ r.last; last = [] }

-- ---- Lines.

abbrev pub is_feed : ℕ → Bool
is_feed octet = octet == 10

-- the number of line feeds, and so of lines that have ended
abbrev pub feeds : List ℕ → ℕ
feeds [] = 0
feeds (octet ∷ octets) = if is_feed octet then suc (feeds octets) else feeds octets

-- the lines, without their line feeds; the last one has not ended
abbrev pub lines_in : List ℕ → List (List ℕ)
lines_in octets = slice_split is_feed octets

-- The line with this number, counted from 1, cut to 4,096 octets. No line is kept if it ended before
-- the last read.
abbrev pub kept_line : ReadOctets → ℕ → Option (List ℕ)
kept_line r number = if nat_lt (feeds r.before) number
    then option_map (take 4096) (slice_get (lines_in (r.before ++ r.last)) (number - 1)) else None

-- ---- The lines that are kept.

-- the octets before the first line feed
abbrev pub line_front : List ℕ → List ℕ
line_front [] = []
line_front (octet ∷ octets) = if is_feed octet then [] else octet ∷ line_front octets

-- the first list if the count is 0, or else the second
abbrev pub by_count : ℕ → List ℕ → List ℕ → List ℕ
by_count zero first second = first
by_count (suc n) first second = second

-- the octets after the last line feed
abbrev pub line_begun : List ℕ → List ℕ
line_begun [] = []
line_begun (octet ∷ octets) =
    by_count (feeds (octet ∷ octets)) (octet ∷ octets) (line_begun octets)

-- a reader of recent lines has read this
pub record HasRead {R : Type 0} (recent : RecentLines R) (r : ReadOctets) : Type 0 where
  pub ended : recent.ended ≡ min (feeds r.before) (2 ^ 64 - 1)
  pub head : recent.head.items ≡ take 4096 (line_begun r.before ++ line_front r.last)
  pub part : recent.part.items ≡ r.last
