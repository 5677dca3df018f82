use Rattle.std.proofs.Common.{◌≡◌, ◌-◌}
use Rattle.lapd_tei_audit.specs.Audit.{first_of, first_unknown, is_unknown}
use Rattle.lapd_tei_audit.proofs.tei_audit.TeiAudit.first_unknown.Given as goal

abbrev pub invariant-loop-place : goal.invariant-loop-place
invariant-loop-place l = first_unknown l.assigner.held l.self
    ≡ first_of (127 - l.place) l.place (is_unknown l.assigner.held l.self)
