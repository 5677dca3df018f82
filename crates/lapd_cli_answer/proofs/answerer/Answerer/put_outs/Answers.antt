use Rattle.lapd_cli_answer.proofs.answerer.Answerer.put_outs.Goals as goal

pub returns-clause-ok : goal.returns-clause-ok
returns-clause-ok g c =
    λ s h. rw (h.setup, c.as_slice.ensures.value) at (c.put_outs.ensures.ok s.end h.end)
