-- The TEIs of a side and of its links, each list in ascending order.
use Rattle.std.specs.Prelude.{◌≡◌, ℕ, nat_lt, Bool, true, false, List, [], ◌∷◌, length, is_some, Option, Some, None}
use Rattle.std.specs.List.{filter, range_with_len}
use Rattle.lapd_frame.specs.declared.Sapi.{Sapi}
use Rattle.lapd_table.specs.declared.link_table.LinkTable.{LinkTable}
use Rattle.lapd_table.specs.LinkTable.{link_at}
use Rattle.lapd_tei.specs.Assigner.{is_held}
use Rattle.lapd_tei.specs.Terminal.{tei_of}
use Rattle.lapd_sides_links.specs.Links.{of_sapi}
use Rattle.lapd_sides.specs.declared.either_side.EitherSide.{EitherSide}
use Rattle.lapd_sides.specs.declared.either_side.EitherSide.TheVariants as either
use Rattle.lapd_sides.specs.Calls.{EachShown}
use Rattle.lapd_sides.specs.Either.{HasTable}
use Rattle.lapd_sides.specs.ShowsNetwork.{ShowNetwork}
use Rattle.lapd_sides.specs.ShowsUser.{ShowUser}
use Rattle.lapd_c.specs.declared.held_side.HeldSide.{HeldSide}
use Rattle.lapd_c.specs.Calls.{Buffer, overwritten}
use Rattle.lapd_c.specs.Codes.{done, no_side, out_of_range}
use Rattle.lapd_c.specs.Owned.{Held}
use Rattle.lapd_c.specs.ThroughHandle.{Through}

-- the numbers below this one that have a property
unfoldable pub those_below : (ℕ → Bool) → ℕ → List ℕ
those_below has n = filter has (range_with_len 0 n)

-- the TEIs of 0 to 126 that an assigner holds
abbrev pub teis_held : List Bool → List ℕ
teis_held held = those_below (is_held held) 127

abbrev pub tei_alone : Option ℕ → List ℕ
tei_alone None = []
tei_alone (Some tei) = tei ∷ []

-- the TEIs that a network side holds, and the one that a user side has
abbrev pub HasTeis : EitherSide → List ℕ → Type 0
HasTeis (either.Network code) teis =
    EachShown ShowNetwork code (λ s. teis ≡ teis_held s.management.held)
HasTeis (either.User code) teis =
    EachShown ShowUser code (λ s. teis ≡ tei_alone (tei_of s.management.terminal))

-- the link with this SAPI and TEI exists
abbrev pub has_link : LinkTable → Sapi → ℕ → Bool
has_link table sapi tei = is_some (link_at table (of_sapi sapi tei))

-- the TEIs of 0 to 127 that have a link with this SAPI
abbrev pub teis_with_link : LinkTable → Sapi → List ℕ
teis_with_link table sapi = those_below (has_link table sapi) 128

-- ---- The calls.

-- the list is written to the beginning of the buffer, if it fits
pub record ReturnsList (teis : List ℕ) (code count : ℕ) (buffer : Buffer) : Type 0 where
  pub counted : count ≡ length teis
  pub done : nat_lt (length buffer.before) (length teis) ≡ false
      → (code ≡ done) × (buffer.after ≡ overwritten teis buffer.before)
  pub refused : nat_lt (length buffer.before) (length teis) ≡ true
      → (code ≡ out_of_range) × (buffer.after ≡ buffer.before)

-- the TEIs of the side
pub record ReturnsTeis (old new : HeldSide) (code count : ℕ) (buffer : Buffer) : Type 0 where
  pub same : new ≡ old
  pub teis : List ℕ
  pub has_teis : HasTeis old.queued.side teis
  pub list : ReturnsList teis code count buffer

-- the TEIs of the links with this SAPI
pub record ReturnsLinks (sapi : Sapi) (old new : HeldSide) (code count : ℕ) (buffer : Buffer) :
    Type 0 where
  pub same : new ≡ old
  pub table : LinkTable
  pub has_table : HasTable old.queued.side table
  pub list : ReturnsList (teis_with_link table sapi) code count buffer

-- the same through a handle, which may own no side; the SAPI may not be valid
abbrev pub ReturnsLinksThrough : ℕ → ℕ → Buffer → Held → Held → Option Sapi → Type 0
ReturnsLinksThrough code count buffer old new None = (code ≡ out_of_range) × (count ≡ 0)
    × (buffer.after ≡ buffer.before) × (new ≡ old)
ReturnsLinksThrough code count buffer old new (Some sapi) =
    Through (λ o n. ReturnsLinks sapi o n code count buffer)
    ((code ≡ no_side) × (count ≡ 0) × (buffer.after ≡ buffer.before)) old new
