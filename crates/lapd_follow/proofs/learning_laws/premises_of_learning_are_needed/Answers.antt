use Rattle.std.proofs.Common.{refl, arith}
use Rattle.lapd_mod128.specs.Counting.{after, steps, lies_within, tag}
use Rattle.lapd_follow.specs.WorkedDirections.{after_exchange}
use Rattle.lapd_follow.proofs.learning_laws.premises_of_learning_are_needed.Goals as goal

pub returns-clause-passes : goal.returns-clause-passes
returns-clause-passes c = (
  record { acknowledged = 5; told = 5; expected = 5; reached = 6; sent = 6 },
  record {
    was_sent = omega arith;
    near = omega arith;
    not_received = λ p. omega arith;
    told = refl;
    reached = omega arith;
    sent = omega arith;
    right = record {
      acknowledged = omega arith;
      told = omega arith;
      expected = omega arith;
      reached = omega arith;
      window = omega arith;
    };
  },
  (
    record { acknowledged = 5; told = 5; expected = 6; reached = 6; sent = 6 },
    record {
      told = refl;
      reached = omega arith;
      sent = omega arith;
      right = record {
        acknowledged = omega arith;
        told = omega arith;
        expected = omega arith;
        reached = omega arith;
        window = omega arith;
      };
    },
    (
      after_exchange,
      record {
        after = omega arith;
        expected = omega arith;
        answer = λ p. omega arith;
        told = refl;
        reached = omega arith;
        sent = omega arith;
        right = record {
          acknowledged = omega arith;
          told = omega arith;
          expected = omega arith;
          reached = omega arith;
          window = omega arith;
        };
      },
      refl,
    ),
  ),
)

pub returns-clause-learned : goal.returns-clause-learned
unfolding after tag
returns-clause-learned c = refl

pub returns-clause-sent_twice : goal.returns-clause-sent_twice
unfolding after tag
returns-clause-sent_twice c = refl

pub returns-clause-answered_early : goal.returns-clause-answered_early
unfolding after tag
returns-clause-answered_early c = refl

pub returns-clause-right : goal.returns-clause-right
returns-clause-right c = record {
  acknowledged = omega arith;
  told = omega arith;
  expected = omega arith;
  reached = omega arith;
  window = omega arith;
}

pub returns-clause-not_in_step : goal.returns-clause-not_in_step
unfolding tag
returns-clause-not_in_step c = λ h. omega (
  arith,
  h.bounds.tagged,
  h.bounds.not_exceeded,
  h.bounds.was_sent,
)

pub returns-clause-violation : goal.returns-clause-violation
unfolding steps lies_within
returns-clause-violation c = refl
