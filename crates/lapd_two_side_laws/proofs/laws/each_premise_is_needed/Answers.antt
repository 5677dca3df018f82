use Rattle.lapd_two_side_laws.proofs.Computed.{hasty_so, hasty_is_not_right, skipping_so, skipping_is_received, skipping_skips, regained_so, regained_is_not_right, skipping_regained_so, skipping_regained_is_received, skipping_regained_skips, answered_before_so, answered_before_is_not_right}
use Rattle.lapd_two_side_laws.proofs.laws.each_premise_is_needed.Goals as goal

pub returns : goal.returns
returns c = record {
  t200 =
      λ first second one two.
      ((hasty_so first second one two).tei, hasty_is_not_right first second one two);
  of_that_link =
      λ first second one two.
      ((hasty_so first second one two).packet_premises, hasty_is_not_right first second one two);
  t200_skips =
      λ first second third one two three. (
        (skipping_so first second third one two three).tei,
        skipping_is_received first second third one two three,
        skipping_skips first second third one two three,
      );
  tei =
      λ first second one two.
      ((regained_so first second one two).timely, regained_is_not_right first second one two);
  tei_skips =
      λ first second third one two three. (
        (skipping_regained_so first second third one two three).timely,
        skipping_regained_is_received first second third one two three,
        skipping_regained_skips first second third one two three,
      );
  line =
      λ message one.
      ((answered_before_so message one).premises, answered_before_is_not_right message one);
}
