use Rattle.std.proofs.Common.{[], ap}
use Rattle.lapd_sides.specs.Either.{side_of}
use Rattle.lapd_c.proofs.CountedCalls.{answers, both, gives, none, one, returned, sets, takes, ticks}
use Rattle.lapd_c.proofs.laws.counters_are_sums.Goals as goal

pub returns : goal.returns
returns c = record {
  frame =
      λ octets now code old new h. one octets h.given old new
      (takes octets now h.result old.queued.side new.queued.side h.given h.called) h.counts;
  request =
      λ request now code old new h. one [] h.given old new
      (answers request now h.result old.queued.side new.queued.side h.given h.called) h.counts;
  give = λ id octets now code old new h. one [] h.given old new
      (gives id octets now h.result old.queued.side new.queued.side h.given h.called) h.counts;
  tick =
      λ now expired code old new h. one [] h.given old new (ticks now expired code old new h)
      h.counts;
  set_timers =
      λ durations code old new h. none old new
      (sets durations old.queued.side new.queued.side h.set) h.counts;
  other = λ old new side counts. none old new (ap side_of side) counts;
  together = both;
  returned = returned;
}
