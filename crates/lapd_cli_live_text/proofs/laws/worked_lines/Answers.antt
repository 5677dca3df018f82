use Rattle.std.proofs.Common.{refl}
use Rattle.std.specs.Fmt.{digits}
use Rattle.serde_json.proofs.OnLiterals.{serde_json_on_literals}
use Rattle.lapd_cli_live_text.specs.LineObjects.{words_object}
use Rattle.lapd_cli_live_text.specs.LinkText.{link_text, management_text, number_text, timers_text}
use Rattle.lapd_cli_live_text.proofs.laws.worked_lines.Goals as goal

pub returns-clause-link : goal.returns-clause-link
unfolding digits link_text timers_text number_text
returns-clause-link c parameters = refl

pub returns-clause-management : goal.returns-clause-management
unfolding digits management_text timers_text number_text
returns-clause-management c = refl

pub returns-clause-past : goal.returns-clause-past
unfolding digits management_text timers_text number_text
returns-clause-past c = refl

pub returns-clause-none : goal.returns-clause-none
unfolding management_text
returns-clause-none c = refl

pub returns-clause-object : goal.returns-clause-object
unfolding serde_json_on_literals digits words_object
returns-clause-object c = refl

pub returns-clause-later : goal.returns-clause-later
unfolding serde_json_on_literals digits words_object
returns-clause-later c = refl
