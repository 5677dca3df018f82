use Rattle.lapd_frame.proofs.Lengths.{content_is_short}
use Rattle.lapd_cli_answer.proofs.answerer.Answerer.receive_into.Goals as goal

pub receive_frame-requires : goal.receive_frame-requires
receive_frame-requires g c =
    let is = (c.in-Ok.ensures.found).0 in record { fits = content_is_short _ _ _ is.content }
