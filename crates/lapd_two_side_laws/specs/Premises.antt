-- The premises of one link: its T200 is timely, nobody else sends octets for it, and its TEI is
-- assigned once.
use Rattle.std.specs.Prelude.{◌≡◌, ℕ, ◌==◌, ◌||◌, Bool, true, false, List, [], ◌∷◌, Some, is_some}
use Rattle.std.specs.List.{list_any}
use Rattle.lapd_timers.specs.declared.timer.Timer.TheVariants.{T200}
use Rattle.lapd_frame.specs.declared.Side.{Side}
use Rattle.lapd_frame.specs.declared.Side.TheVariants as side
use Rattle.lapd_frame.specs.Address.{other_side}
use Rattle.lapd_tei.specs.declared.out.TeiOut.TheVariants as outcome
use Rattle.lapd_table.specs.declared.link_id.LinkId.{LinkId}
use Rattle.lapd_sides_links.specs.declared.primitive.Primitive.{Primitive}
use Rattle.lapd_sides_links.specs.declared.primitive.Primitive.TheVariants.{Management}
use Rattle.lapd_sides_links.specs.Effects.{Effects}
use Rattle.lapd_sides_links.specs.Links.{Links}
use Rattle.lapd_two_side_laws.specs.Addressed.{is_for, is_poll_for, is_final_for}
use Rattle.lapd_side_events.specs.Interface.{Configs, Interface, Move, user_behaviour, network_behaviour, by_user, by_network, happens}
use Rattle.lapd_side_events.specs.SideView.{Behaviour, SideView, SideEvent, Expire, Overhear, reaction}

-- ---- Of one event.

-- T200 of the link does not expire while a command with P=1 from this side, or a response with F=1
-- to it, is in transit. Octets that the side overhears do not belong to the link.
abbrev pub IsTimely : {S : Type 0} → Side → LinkId → SideEvent → SideView S → Type 0
IsTimely side id (Expire timer of now) v = timer ≡ T200 → of ≡ Some id
    → (list_any (is_poll_for side id) v.outgoing ≡ false)
    × (list_any (is_final_for (other_side side) id) v.incoming ≡ false)
IsTimely side id (Overhear octets now) v = is_for (other_side side) id octets ≡ false
IsTimely side id event v = Unit {0}

-- a primitive reports that the TEI is freed, removed or given up
abbrev pub is_removal : ℕ → Primitive → Bool
is_removal tei (Management (outcome.Free t)) = t == tei
is_removal tei (Management (outcome.Doubled t)) = t == tei
is_removal tei (Management (outcome.Gone t)) = t == tei
is_removal tei other = false

-- a primitive reports that the TEI is assigned or obtained
abbrev pub is_assignment : ℕ → Primitive → Bool
is_assignment tei (Management (outcome.Given t)) = t == tei
is_assignment tei (Management (outcome.Got t)) = t == tei
is_assignment tei other = false

-- The TEI is not assigned or obtained while the link exists, nor after the TEI was removed.
abbrev pub IsGivenOnce : LinkId → Links → Bool → Effects → Type 0
IsGivenOnce id links removed effects = (is_some (links id) || removed) ≡ true
    → list_any (is_assignment id.tei) effects.primitives ≡ false

abbrev pub GivesTeiOnce : {S : Type 0} → Behaviour S → LinkId → SideEvent → SideView S → Type 0
GivesTeiOnce w id event v = IsGivenOnce id (w.served v.now).links
    (list_any (is_removal id.tei) v.delivered) (reaction w event v).effects

-- The TEI is not assigned or obtained after it was removed. For newly created sides this is enough:
-- they never assign or obtain a TEI whose links exist.
abbrev pub IsNotGivenAgain : LinkId → Bool → Effects → Type 0
IsNotGivenAgain id removed effects = removed ≡ true
    → list_any (is_assignment id.tei) effects.primitives ≡ false

abbrev pub LeavesTeiTaken : {S : Type 0} → Behaviour S → LinkId → SideEvent → SideView S → Type 0
LeavesTeiTaken w id event v =
    IsNotGivenAgain id (list_any (is_removal id.tei) v.delivered) (reaction w event v).effects

-- ---- Of all moves of a run.

abbrev pub IsTimelyMove : LinkId → Side → SideEvent → Interface → Type 0
IsTimelyMove id side.User event i = IsTimely side.User id event (by_user i)
IsTimelyMove id side.Network event i = IsTimely side.Network id event (by_network i)

abbrev pub IsMoveGivingTeiOnce : Configs → LinkId → Side → SideEvent → Interface → Type 0
IsMoveGivingTeiOnce c id side.User event i = GivesTeiOnce (user_behaviour c.user) id event
    (by_user i)
IsMoveGivingTeiOnce c id side.Network event i =
    GivesTeiOnce (network_behaviour c.network) id event (by_network i)

abbrev pub IsMoveLeavingTeiTaken : Configs → LinkId → Side → SideEvent → Interface → Type 0
IsMoveLeavingTeiTaken c id side.User event i =
    LeavesTeiTaken (user_behaviour c.user) id event (by_user i)
IsMoveLeavingTeiTaken c id side.Network event i =
    LeavesTeiTaken (network_behaviour c.network) id event (by_network i)

abbrev pub AreTimely : Configs → LinkId → List Move → Interface → Type 0
AreTimely c id [] i = Unit {0}
AreTimely c id (move ∷ moves) i = IsTimelyMove id move.side move.event i
    × AreTimely c id moves (happens c move i)

abbrev pub GiveTeiOnce : Configs → LinkId → List Move → Interface → Type 0
GiveTeiOnce c id [] i = Unit {0}
GiveTeiOnce c id (move ∷ moves) i = IsMoveGivingTeiOnce c id move.side move.event i
    × GiveTeiOnce c id moves (happens c move i)

abbrev pub LeaveTeiTaken : Configs → LinkId → List Move → Interface → Type 0
LeaveTeiTaken c id [] i = Unit {0}
LeaveTeiTaken c id (move ∷ moves) i = IsMoveLeavingTeiTaken c id move.side move.event i
    × LeaveTeiTaken c id moves (happens c move i)

-- both premises; then both premises for newly created sides
abbrev pub SatisfyPremises : Configs → LinkId → List Move → Interface → Type 0
SatisfyPremises c id moves i = AreTimely c id moves i × GiveTeiOnce c id moves i

abbrev pub SatisfyPremisesAsMade : Configs → LinkId → List Move → Interface → Type 0
SatisfyPremisesAsMade c id moves i = AreTimely c id moves i × LeaveTeiTaken c id moves i
