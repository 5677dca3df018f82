use Rattle.std.proofs.Common.{refl}
use Rattle.lapd_tei.proofs.Witnesses.{met_references, met_freeing}
use Rattle.lapd_tei.proofs.laws.premises_can_be_met.Goals as goal

pub returns : goal.returns
returns c =
    record { met = record { references = met_references; freeing = met_freeing }; got = refl }
