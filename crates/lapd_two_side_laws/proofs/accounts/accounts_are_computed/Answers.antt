use Rattle.lapd_two_side_laws.proofs.AccountsComputed.{one_of_each_so, then_removed_so, too_early_so}
use Rattle.lapd_two_side_laws.proofs.accounts.accounts_are_computed.Goals as goal

pub returns : goal.returns
returns c = record {
  keeps = λ first second third one two three.
      (one_of_each_so first second third one two three).keeps;
  given = λ first second third one two three.
      (one_of_each_so first second third one two three).given;
  delivered = λ first second third one two three.
      (one_of_each_so first second third one two three).delivered;
  queue = λ first second third one two three.
      (one_of_each_so first second third one two three).queue;
  removed = λ first second third one two three.
      (then_removed_so first second third one two three).removed;
  lost = λ first second third one two three.
      (then_removed_so first second third one two three).lost;
  refused = λ message one. (too_early_so message one).given;
  uncounted = λ message one. (too_early_so message one).with_it;
}
