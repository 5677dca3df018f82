use Rattle.lapd_tei.proofs.Witnesses.{references_are_needed, holders_are_needed, assignments_are_needed}
use Rattle.lapd_tei.proofs.laws.premises_are_needed.Goals as goal

pub returns : goal.returns
returns c = record {
  references = references_are_needed;
  holders = holders_are_needed;
  assignments = assignments_are_needed;
}
