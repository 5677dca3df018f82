use Rattle.std.proofs.Common.{rules}
use Rattle.lapd_capture.proofs.Fronts.{front_kind}
use Rattle.lapd_capture.proofs.file_kind.take_front.Goals as goal

pub returns-clause-kind : goal.returns-clause-kind
returns-clause-kind g c =
    λ xs e. front_kind c.fill.result _ _ c.fill.new.octets xs (search rules) c.fill.ensures.bound
    c.fill.ensures.octets e
