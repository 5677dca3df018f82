use Rattle.std.proofs.Common.{refl}
use Rattle.std.specs.Fmt.{digits}
use Rattle.lapd_cli_live_text.specs.LinkText.{number_text}
use Rattle.lapd_cli_live_text.specs.Stats.{kinds_text, letters_text, no_traffic, nothing_counted, received_counted, received_words, reports_words, sent_counted, sent_words, primitive_counted}
use Rattle.lapd_cli_live_text.proofs.laws.rejected_message_is_sent_again.Goals as goal

pub returns-clause-sent : goal.returns-clause-sent
unfolding digits no_traffic nothing_counted sent_counted received_counted primitive_counted
    sent_words kinds_text number_text
returns-clause-sent c = refl

pub returns-clause-received : goal.returns-clause-received
unfolding digits no_traffic nothing_counted sent_counted received_counted primitive_counted
    received_words kinds_text number_text
returns-clause-received c = refl

pub returns-clause-reports : goal.returns-clause-reports
unfolding digits no_traffic nothing_counted sent_counted received_counted primitive_counted
    reports_words letters_text number_text
returns-clause-reports c = refl
