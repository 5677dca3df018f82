use Rattle.std.proofs.Common.{None, slice_index_or, arith}
use Rattle.std.proofs.lemmas.List.{get_or_default}
use Rattle.std.proofs.lemmas.List.Edits.{map_over_more}
use Rattle.lapd_pair.specs.declared.fate.Fate.{Fate}
use Rattle.lapd_pair.specs.declared.fate.Ending.TheVariants.{Waiting}
use Rattle.lapd_pair.specs.Fates.{ended}
use Rattle.lapd_pair.proofs.log.end_all.Goals as goal

pub loop-fate-preserved : goal.loop-fate-preserved
loop-fate-preserved c =
    let now = c.loop-fate.fate-items in
    let place = c.loop-fate.fate-index in
    let none : Fate = record { sent_in = None; end = Waiting } in
    map_over_more (ended c.args.ending) c.args.fates.now now place (slice_index_or now place none)
    (omega arith) c.loop-fate.invariant
    (get_or_default now place none (slice_index_or now place none) (omega arith))
