use Rattle.lapd_cli_live_text.proofs.AwaitedLines.{behind_at, behind_whole, first_at, first_whole}
use Rattle.lapd_cli_live_text.proofs.sought.cut_word.Goals as goal

pub returns-in-Some-clause-word : goal.returns-in-Some-clause-word
returns-in-Some-clause-word c =
    first_at c.args.line.now c.in-Some.word.now c.in-Some._behind.now c.in-Some.ensures.parts.0
    c.in-Some.ensures.parts.1

pub returns-in-Some-clause-rest : goal.returns-in-Some-clause-rest
returns-in-Some-clause-rest c =
    behind_at c.args.line.now c.in-Some.word.now c.in-Some._behind.now c.in-Some.ensures.parts.0
    c.in-Some.ensures.parts.1

pub returns-in-None-clause-word : goal.returns-in-None-clause-word
returns-in-None-clause-word c = first_whole c.args.line.now c.in-None.ensures.none

pub returns-in-None-clause-rest : goal.returns-in-None-clause-rest
returns-in-None-clause-rest c = behind_whole c.args.line.now c.in-None.ensures.none
