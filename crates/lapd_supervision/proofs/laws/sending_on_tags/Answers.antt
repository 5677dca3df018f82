use Rattle.lapd_supervision.proofs.Tagging.{may_send_on_tags, after_sending_on_tags}
use Rattle.lapd_supervision.proofs.laws.sending_on_tags.Goals as goal

pub returns-clause-allowed : goal.returns-clause-allowed
returns-clause-allowed c = may_send_on_tags

pub returns-clause-variables : goal.returns-clause-variables
returns-clause-variables c = after_sending_on_tags
