use Rattle.std.proofs.Common.{rules, ◌-◌, length, subst, sym}
use Rattle.std.specs.Io.KnownBytes.{Consumes}
use Rattle.std.proofs.KnownBytes.{Consumes-trans, Consumes-kept}
use Rattle.lapd_port.proofs.Filling.{take-filled, take-filled_more}
use Rattle.lapd_port.proofs.Turning.{one_more_made}
use Rattle.lapd_port.proofs.reading.fill.Goals as goal

pub returns-in-Ok-eq0-clause-turns : goal.returns-in-Ok-eq0-clause-turns
returns-in-Ok-eq0-clause-turns g c =
    one_more_made _ _ _ _ _ _ c.loop-filled.invariant.turns c.read.ensures.turn

pub loop-filled-preserved-in-Ok : goal.loop-filled-preserved-in-Ok
loop-filled-preserved-in-Ok g c = record {
  same_length = search rules;
  within = search rules;
  given =
      subst (Consumes _ _) (take-filled_more c.loop-filled.filled
      (length c.loop-filled.octets - c.loop-filled.filled) c.in-Ok.count c.loop-filled.octets
      c.read.new.octets c.loop-filled.invariant.within c.in-Ok.ensures.bound.0)
      (Consumes-trans _ _ _ _ _ c.loop-filled.invariant.given c.in-Ok.ensures.octets.0);
  no_failure = search rules;
  turns = one_more_made _ _ _ _ _ _ c.loop-filled.invariant.turns c.read.ensures.turn;
  most = search rules;
}

pub loop-filled-preserved : goal.loop-filled-preserved
loop-filled-preserved g c = record {
  same_length = search rules;
  within = search rules;
  given =
      subst (Consumes _ _) (sym (take-filled c.loop-filled.filled
      (length c.loop-filled.octets - c.loop-filled.filled) c.loop-filled.octets
      c.read.new.octets c.loop-filled.invariant.within))
      (Consumes-kept _ _ _ _ c.loop-filled.invariant.given c.in-Err-Interrupted.ensures.octets);
  no_failure = search rules;
  turns = one_more_made _ _ _ _ _ _ c.loop-filled.invariant.turns c.read.ensures.turn;
  most = search rules;
}

pub returns-in-Err-Failed-clause-turns : goal.returns-in-Err-Failed-clause-turns
returns-in-Err-Failed-clause-turns g c =
    one_more_made _ _ _ _ _ _ c.loop-filled.invariant.turns c.read.ensures.turn
