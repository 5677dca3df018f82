-- The id of a link (Q.921 3.4.1): its SAPI and its TEI, and the order of ids.
use Rattle.std.specs.Prelude.{ℕ, ◌+◌, ◌*◌, Bool, ◌==◌, List, ◌++◌, codes}
use Rattle.std.specs.Fmt.{decimal}
use Rattle.std.specs.declared.cmp.Ordering.{Ordering}
use Rattle.std.specs.Ordering.{nat_cmp, on, then_cmp, eq_of_both}
use Rattle.lapd_frame.specs.declared.Side.{Side}
use Rattle.lapd_frame.specs.declared.Sapi.{Sapi}
use Rattle.lapd_frame.specs.declared.Sapi.TheVariants.{Call, Packet, Management}
use Rattle.lapd_frame.specs.declared.Address.{Address}
use Rattle.lapd_frame.specs.Address.{sapi_value}
use Rattle.lapd_link.specs.Link.{Setup}
use Rattle.lapd_table.specs.declared.link_id.LinkId.{LinkId}

-- the link that frames with this address are for
abbrev pub id_of_address : Address → LinkId
id_of_address a = record { sapi = a.sapi; tei = a.tei }

-- the id of a link with this setup
abbrev pub id_of_setup : Setup → LinkId
id_of_setup setup = record { sapi = setup.sapi; tei = setup.tei }

-- the setup of the link of this side with this SAPI and TEI
abbrev pub setup_for : Side → LinkId → Setup
setup_for side id = record { side = side; sapi = id.sapi; tei = id.tei }

-- the same SAPI and the same TEI
abbrev pub id_eq : LinkId → LinkId → Bool
id_eq = eq_of_both (on (λ id. sapi_value id.sapi) ◌==◌) (on (λ id. id.tei) ◌==◌)

-- by SAPI, then by TEI
abbrev pub id_cmp : LinkId → LinkId → Ordering
id_cmp = then_cmp (on (λ id. sapi_value id.sapi) nat_cmp) (on (λ id. id.tei) nat_cmp)

-- the rank in that order, as one number, below 384; the TEI has seven bits
abbrev pub sapi_place : Sapi → ℕ
sapi_place Call = 0
sapi_place Packet = 1
sapi_place Management = 2

abbrev pub place_of : LinkId → ℕ
place_of id = sapi_place id.sapi * 128 + id.tei

-- the printed form
abbrev pub id_text : LinkId → List ℕ
id_text id = codes "SAPI " ++ (decimal (sapi_value id.sapi) ++ (codes " TEI " ++ decimal id.tei))
