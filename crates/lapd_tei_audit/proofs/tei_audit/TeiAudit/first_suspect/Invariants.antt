use Rattle.std.proofs.Common.{◌≡◌, ◌-◌}
use Rattle.lapd_tei_audit.specs.Audit.{first_automatic, first_of, is_suspect}
use Rattle.lapd_tei_audit.proofs.tei_audit.TeiAudit.first_suspect.Given as goal

abbrev pub invariant-loop-place : goal.invariant-loop-place
invariant-loop-place l = first_automatic (is_suspect l.assigner.held l.up l.self)
    ≡ first_of (127 - l.place) l.place (is_suspect l.assigner.held l.up l.self)
