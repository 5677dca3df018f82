use Rattle.std.proofs.Common.{take, drop}
use Rattle.std.specs.Io.KnownBytes.{Appends}
use Rattle.lapd_link.specs.End.{End}
use Rattle.lapd_link.specs.Link.{LinkRepresents, setup_of}
use Rattle.lapd_cli_answer.specs.Session.{made_text}
use Rattle.lapd_cli_answer.proofs.outputs.put_outs.Given as goal

abbrev pub invariant-loop-given : goal.invariant-loop-given
invariant-loop-given g l =
    (e : End) → LinkRepresents l.link e
    → Appends (g.W.Write.contents l.initial.out) (g.W.Write.contents l.out)
    (made_text (setup_of l.link) (drop e.first e.given) l.input_octets
    (take l.given-index l.outs))
