use Rattle.std.proofs.Common.{ap, arith, unsigned_abs, ◌∙◌}
use Rattle.jiff_core.proofs.SignedLemmas.{signed_arith}
use Rattle.jiff_tz.proofs.YearLemmas.{back_year}
use Rattle.lapd_zone.proofs.Months.{date_found}
use Rattle.lapd_zone.proofs.calendar.date_of.Goals as goal

pub returns : goal.returns
returns c =
    let date = c.from_days_since_min-date.result in
    date_found date c.args.days c.from.result c.from-2.result c.from-3.result
    (omega (arith, signed_arith, c.from_days_since_min-date.ensures))
    (c.from.ensures ∙ c.unsigned_abs.ensures.value ∙ ap unsigned_abs (back_year date.year date.year_in))
    c.from-2.ensures c.from-3.ensures
