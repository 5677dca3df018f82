use Rattle.std.proofs.Common.{◌≡◌, ◌-◌, length, take, drop, arith}
use Rattle.std.proofs.lemmas.List.{take_rest}
use Rattle.lapd_frame.proofs.FrameAt.{joined_is_frame_at, spelled_frame_at}
use Rattle.lapd_frame.proofs.frame.frame_at.Goals as goal

pub returns-in-len3-up-clause-exact : goal.returns-in-len3-up-clause-exact
returns-in-len3-up-clause-exact c =
    let octets = c.args.octets.now in
    let field : take (length octets - 2) (drop 2 octets) ≡ drop 2 octets = take_rest octets 2 in
    rw (c.frame_of_fields.ensures, c.read.ensures.exact, c.read-in-len3-up.ensures.exact, field)
    (joined_is_frame_at _ octets (omega arith))

pub returns-in-len3-up-clause-found : goal.returns-in-len3-up-clause-found
returns-in-len3-up-clause-found c =
    let octets = c.args.octets.now in
    let field : take (length octets - 2) (drop 2 octets) ≡ drop 2 octets = take_rest octets 2 in
    spelled_frame_at c.args.from octets c.read.result c.read-in-len3-up.result
    c.frame_of_fields.result (omega arith) c.read.ensures.found
    (rw field at c.read-in-len3-up.ensures.found) (rw field at c.frame_of_fields.ensures)
