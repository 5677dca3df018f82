-- TEI messages of the network side to all terminals: their action indicator is the group TEI (Q.921
-- 5.3.3, 5.3.4, 5.3.6.5). The assigner sends none of them, and is unchanged by them.
use Rattle.std.specs.Prelude.{ℕ, zero, suc, ◌||◌, if◌then◌else◌, Bool, false, List, [], ◌∷◌, Option, Some, None}
use Rattle.std.specs.List.{filter_map}
use Rattle.lapd_frame.specs.declared.Side.TheVariants as side
use Rattle.lapd_tei.specs.declared.check.Check.{Check}
use Rattle.lapd_tei.specs.declared.out.TeiOut.{TeiOut}
use Rattle.lapd_tei.specs.declared.out.TeiOut.TheVariants.{Send}
use Rattle.lapd_tei.specs.Assigner.{is_held}
use Rattle.lapd_tei.specs.Message.{group_tei}
use Rattle.lapd_tei.specs.Out.{check_request, remove}
use Rattle.lapd_sides_links.specs.Effects.{Effects, message_sent, no_effects}

-- whether one of the TEIs below n is held
abbrev pub holds_below : ℕ → List Bool → Bool
holds_below zero held = false
holds_below (suc n) held = holds_below n held || is_held held n

-- whether a TEI is held
unfoldable pub holds_any : List Bool → Bool
holds_any held = holds_below group_tei held

-- Each terminal that has a TEI answers with it (5.3.3). Nothing is sent while a check is in
-- progress, which would count these answers too.
abbrev pub check_of_all : Option Check → List TeiOut
check_of_all None = Send (check_request group_tei) ∷ []
check_of_all (Some check) = []

-- Each terminal that has a TEI gives it up. Identity remove is sent twice, since one may be lost
-- (5.3.4). Nothing is sent while the side holds a TEI, whose links would remain.
abbrev pub removal_of_all : List Bool → List TeiOut
removal_of_all held =
    if holds_any held then [] else Send (remove group_tei) ∷ Send (remove group_tei) ∷ []

-- the effects of sending these messages
abbrev pub sending : List TeiOut → Effects
sending messages = record no_effects {
  frames = filter_map (message_sent side.Network) messages;
}
