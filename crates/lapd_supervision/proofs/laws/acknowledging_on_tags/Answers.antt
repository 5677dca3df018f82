use Rattle.lapd_supervision.proofs.Tagging.{is_valid_nr_on_tags, acknowledged_count_on_tags, acknowledges_all_on_tags}
use Rattle.lapd_supervision.proofs.laws.acknowledging_on_tags.Goals as goal

pub returns-clause-valid : goal.returns-clause-valid
returns-clause-valid c = is_valid_nr_on_tags

pub returns-clause-count : goal.returns-clause-count
returns-clause-count c = acknowledged_count_on_tags

pub returns-clause-all : goal.returns-clause-all
returns-clause-all c = acknowledges_all_on_tags
