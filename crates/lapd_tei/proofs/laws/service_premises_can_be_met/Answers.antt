use Rattle.std.proofs.Common.{refl}
use Rattle.lapd_tei.proofs.Witnesses.{met_in_service, met_on_its_way}
use Rattle.lapd_tei.proofs.laws.service_premises_can_be_met.Goals as goal

pub returns : goal.returns
returns c = record {
  met = met_in_service;
  got = refl;
  met_on_its_way = met_on_its_way;
  got_on_its_way = refl;
}
