use Rattle.lapd_cli_answer.proofs.answerer.Answerer.of_link.Goals as goal

pub returns : goal.returns
returns c = record { setup = c.in_ok-link.ensures.setup; end = c.in_ok-link.ensures.end }
