-- The terminal of a user side and the check of a network side, as calls of C read them.
use Rattle.std.specs.Prelude.{◌≡◌, ℕ, Option, Some, None}
use Rattle.lapd_link.specs.declared.link.Link.{Link}
use Rattle.lapd_sides.specs.declared.either_side.EitherSide.{EitherSide}
use Rattle.lapd_sides.specs.declared.either_side.EitherSide.TheVariants as either
use Rattle.lapd_sides.specs.Calls.{EachShown}
use Rattle.lapd_sides.specs.ShowsNetwork.{ShowNetwork}
use Rattle.lapd_sides.specs.ShowsUser.{ShowUser}
use Rattle.lapd_sides_links.specs.Links.{of_sapi}
use Rattle.lapd_table.specs.declared.link_id.LinkId.{LinkId}
use Rattle.lapd_table.specs.declared.link_table.LinkTable.{LinkTable}
use Rattle.lapd_table.specs.LinkTable.{link_at}
use Rattle.lapd_tei.specs.Assigner.{checked}
use Rattle.lapd_tei.specs.Terminal.{state_number, tei_of}
use Rattle.lapd_tei.specs.declared.phase.Phase.{Phase}

-- the terminal of a user side; a network side has none
abbrev pub HasTerminal : EitherSide → Option Phase → Type 0
HasTerminal (either.Network code) terminal = terminal ≡ None
HasTerminal (either.User code) terminal =
    EachShown ShowUser code (λ s. terminal ≡ Some s.management.terminal)

-- the TEI that a network side checks, if a check is in progress; a user side checks none
abbrev pub HasCheck : EitherSide → Option ℕ → Type 0
HasCheck (either.Network code) tei =
    EachShown ShowNetwork code (λ s. tei ≡ checked s.management.check)
HasCheck (either.User code) tei = tei ≡ None

-- ---- A terminal in numbers.

-- 255 if there is no TEI, which is LAPD_NO_TEI in C
abbrev pub or_no_tei : Option ℕ → ℕ
or_no_tei None = 255
or_no_tei (Some tei) = tei

-- the state of a terminal, 1 to 4; 0 for a network side
abbrev pub state_of_terminal : Option Phase → ℕ
state_of_terminal None = 0
state_of_terminal (Some phase) = state_number phase

abbrev pub tei_of_terminal : Option Phase → ℕ
tei_of_terminal None = or_no_tei None
tei_of_terminal (Some phase) = or_no_tei (tei_of phase)

-- ---- The link that C means.

-- A user side's link has the terminal's own TEI, whatever TEI C passes.
abbrev pub with_own_tei : LinkId → Option ℕ → Option LinkId
with_own_tei id None = None
with_own_tei id (Some tei) = Some (of_sapi id.sapi tei)

abbrev pub link_of_call : Option Phase → LinkId → Option LinkId
link_of_call None id = Some id
link_of_call (Some phase) id = with_own_tei id (tei_of phase)

abbrev pub link_meant : LinkTable → Option LinkId → Option Link
link_meant table None = None
link_meant table (Some id) = link_at table id
