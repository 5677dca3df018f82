-- The effects of the steps of a network side.
use Rattle.std.proofs.Common.{◌≡◌, ℕ, List, length, Bool, false, Option, None, sym, ap, subst, ◌∙◌}
use Rattle.std.specs.Prelude.{◌&&◌, ◌==◌, if◌then◌else◌}
use Rattle.lapd_link_definition.specs.Input.{UnitData}
use Rattle.lapd_frame.specs.declared.Side.TheVariants as side
use Rattle.lapd_tei.specs.declared.assigner.AssignerEvent.{AssignerEvent}
use Rattle.lapd_tei.specs.declared.out.TeiOut.{TeiOut}
use Rattle.lapd_tei.specs.Assigner.{assigner_step}
use Rattle.lapd_tei.specs.Message.{group_tei}
use Rattle.lapd_tei.specs.Out.{tei_given}
use Rattle.lapd_sides_links.specs.declared.config.Config.{Config}
use Rattle.lapd_table.specs.declared.link_id.LinkId.{LinkId}
use Rattle.lapd_sides_links.specs.Effects.{Effects}
use Rattle.lapd_sides_links.specs.Links.{Served, is_served}
use Rattle.lapd_sides.specs.declared.links_and_timer.LinksAndTimer.{LinksAndTimer}
use Rattle.lapd_sides.specs.Calls.{HasDone}
use Rattle.lapd_sides.specs.Management.{links_with, manages}
use Rattle.lapd_sides.specs.SideState.{link_of}
use Rattle.lapd_sides.specs.Network.{Network, unit_requested, unit_to_group, assigner_acts}
use Rattle.lapd_sides.specs.Shows.{ShowServed, HaveServed}
use Rattle.lapd_sides.specs.ShowsNetwork.{NetSide, ShowNetwork}

-- ---- TEI management.

pub assigned_so : (code : NetSide) (config : Config) (now : ℕ) (event : AssignerEvent) (s : Network)
    (outs : List TeiOut) (acts : Effects) → code.config ≡ config
    → code.served.discarded ≡ s.discarded
    → outs ≡ (assigner_step s.management event).outs
    → code.management ≡ (assigner_step s.management event).now
    → HaveServed side.Network code.served acts (manages side.Network config now outs s.served)
    → HasDone ShowNetwork code config acts (assigner_acts config now event s)
unfolding assigner_acts
assigned_so code config now event s outs acts configured counted same assigner done =
    let served =
    subst (λ (o : List TeiOut). HaveServed side.Network code.served acts
    (manages side.Network config now o s.served)) same done in
    record {
      shown = record {
        configured = configured;
        served = served.shown;
        management = assigner;
        discarded = counted;
      };
      given = served.given;
    }

-- without an assigned TEI, the links are unchanged
pub none_given : (code : LinksAndTimer) (config : Config) (outs : List TeiOut) (s : Served)
    → tei_given outs ≡ None → ShowServed side.Network code s
    → ShowServed side.Network code (record s { links = links_with config (tei_given outs) s.links })
none_given code config outs s none shown =
    subst (λ (t : Option ℕ). ShowServed side.Network code
    (record s { links = links_with config t s.links })) (sym none) shown

-- ---- Unit data.

-- unit data that is not for all terminals is for a link
pub not_to_group : (own config : Config) (now : ℕ) (id : LinkId) (octets : List ℕ) (s : Network)
    (test : Bool) → test ≡ (is_served own id.sapi && (id.tei == group_tei)) → test ≡ false
    → own ≡ config
    → unit_requested config now id octets s
    ≡ link_of side.Network now id (UnitData (length octets)) octets s
not_to_group own config now id octets s test is fails same =
    ap (λ (b : Bool). if b then unit_to_group id.sapi octets s
    else link_of side.Network now id (UnitData (length octets)) octets s)
    (ap (λ (k : Config). is_served k id.sapi && (id.tei == group_tei)) (sym same) ∙ sym is ∙ fails)
