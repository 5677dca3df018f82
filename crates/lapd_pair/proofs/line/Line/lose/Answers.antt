use Rattle.lapd_pair.proofs.Lines.{without_one}
use Rattle.lapd_pair.proofs.line.Line.lose.Goals as goal

pub returns-then-place-frames-clause-shows : goal.returns-then-place-frames-clause-shows
returns-then-place-frames-clause-shows c =
    λ from frames o _. without_one from _ _ c.args.place frames c.take_out.ensures.octets
    c.take_out.ensures.polls c.take_out.ensures.finals o
