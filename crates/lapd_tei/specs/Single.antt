-- When no two terminals of a bus hold the same TEI (Q.921 5.3.1): the claim, and the two premises
-- on the run that leads there.
use Rattle.std.specs.Prelude.{◌≡◌, ◌≢◌, ℕ, List, [], ◌∷◌, ◌++◌, slice_get, Option, Some, None}
use Rattle.std.specs.List.{All, AllByRecursion}
use Rattle.lapd_tei.specs.declared.message.TeiMessage.{TeiMessage}
use Rattle.lapd_tei.specs.declared.kind.TeiKind.{TeiKind}
use Rattle.lapd_tei.specs.declared.kind.TeiKind.TheVariants as kind
use Rattle.lapd_tei.specs.declared.out.TeiOut.{TeiOut}
use Rattle.lapd_tei.specs.declared.out.TeiOut.TheVariants.{Free, Doubled}
use Rattle.lapd_tei.specs.declared.phase.Phase.{Phase}
use Rattle.lapd_tei.specs.declared.bus_move.BusMove.{BusMove}
use Rattle.lapd_tei.specs.Out.{sent}
use Rattle.lapd_tei.specs.Terminal.{tei_of}
use Rattle.lapd_tei.specs.Bus.{BusState, new_bus, moved}

-- the terminal at this index holds this TEI
pub record Holds (b : BusState) (place n : ℕ) : Type 0 where
  pub terminal : Phase
  pub there : slice_get b.terminals place ≡ Some terminal
  pub its : tei_of terminal ≡ Some n

-- no two terminals hold the same TEI
abbrev pub Single : BusState → Type 0
Single b = (i j n : ℕ) → Holds b i n → Holds b j n → i ≡ j

-- ---- The first premise: each reference is used once in the run.

-- the references of the requests among these messages
abbrev pub requested_by : TeiKind → ℕ → List ℕ
requested_by kind.Request ri = ri ∷ []
requested_by other ri = []

abbrev pub references : List TeiMessage → List ℕ
references [] = []
references (m ∷ ms) = requested_by m.kind m.ri ++ references ms

-- the references of the requests that a run sends, in order
abbrev pub asked : BusState → List BusMove → List ℕ
asked b [] = []
asked b (m ∷ ms) = references (sent (moved b m).outs) ++ asked (moved b m).now ms

-- no two of these are equal
abbrev pub Differ : List ℕ → Type 0
Differ [] = Unit {0}
Differ (r ∷ rs) = AllByRecursion (λ s. s ≢ r) rs × Differ rs

-- ---- The second premise: a TEI is freed only while it is neither held nor being assigned.

-- the TEIs that these outputs free
abbrev pub freed : List TeiOut → List ℕ
freed [] = []
freed (Free n ∷ outs) = n ∷ freed outs
freed (Doubled n ∷ outs) = n ∷ freed outs
freed (out ∷ outs) = freed outs

-- the TEI that a message assigns
abbrev pub assigned_by : TeiKind → ℕ → Option ℕ
assigned_by kind.Assigned ai = Some ai
assigned_by other ai = None

pub record IsNobodys (b : BusState) (n : ℕ) : Type 0 where
  pub unheld : All (λ t. tei_of t ≢ Some n) b.terminals
  pub unassigned : All (λ f. assigned_by f.message.kind f.message.ai ≢ Some n) b.down

abbrev pub FreesNobodys : BusState → List BusMove → Type 0
FreesNobodys b [] = Unit {0}
FreesNobodys b (m ∷ ms) = AllByRecursion (IsNobodys b) (freed (moved b m).outs)
    × FreesNobodys (moved b m).now ms

-- both premises, for these moves from a new bus of this many terminals
pub record MeetsPremises (terminals : ℕ) (moves : List BusMove) : Type 0 where
  pub references : Differ (asked (new_bus terminals) moves)
  pub freeing : FreesNobodys (new_bus terminals) moves
