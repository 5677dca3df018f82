use Rattle.lapd_frame.specs.declared.Side.TheVariants.{User, Network}
use Rattle.lapd_pair.proofs.Pairs.{new_represents, new_reached}
use Rattle.lapd_pair.proofs.SafeReaders.{readings_are_safe}
use Rattle.lapd_pair.proofs.pair.Pair.new.Goals as goal

pub invariant_of-result : goal.invariant_of-result
invariant_of-result c = record {
  reached =
      new_reached c.args.user c.args.network c.in_ok-new.field-0 c.in_ok-new-2.field-0
      c.new-3.result c.new-4.result c.new.ensures.window c.new-2.ensures.window c.new.ensures.some
      c.new-2.ensures.some
      (new_represents c.args.user c.args.network c.in_ok-new.field-0 c.in_ok-new-2.field-0
      c.new-3.result c.new-4.result
      c.new.ensures.window c.new-2.ensures.window c.in_ok-new.ensures.station
      c.in_ok-new-2.ensures.station (c.new-3.ensures Network) (c.new-4.ensures User));
}

pub returns : goal.returns
returns c = record {
  representation =
      new_represents c.args.user c.args.network c.in_ok-new.field-0 c.in_ok-new-2.field-0
      c.new-3.result c.new-4.result
      c.new.ensures.window c.new-2.ensures.window c.in_ok-new.ensures.station
      c.in_ok-new-2.ensures.station (c.new-3.ensures Network) (c.new-4.ensures User);
  readers = readings_are_safe _;
}
