-- A terminal's TEI is not the group TEI.
use Rattle.std.proofs.Common.{◌≡◌, ℕ, ◌<◌, true, ap, arith}
use Rattle.std.proofs.lemmas.Bool.{ne_eqb}
use Rattle.std.specs.Prelude.{◌==◌, not}

pub one_is_named : (tei : ℕ) → tei < 127 → not (tei == 127) ≡ true
one_is_named tei below = ap not (ne_eqb tei 127 (λ e. omega arith))
