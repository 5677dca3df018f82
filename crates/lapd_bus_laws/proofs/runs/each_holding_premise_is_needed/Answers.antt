use Rattle.lapd_bus_laws.proofs.HoldingRunsComputed.{hasty_so, hasty_is_not_right, regained_so, regained_is_not_right, old_is_reached, old_assigns_apart, old_assigns, old_claims, old_keeps, old_is_not_expected, twice_keeps, twice_is_someone_elses, joined_keeps, joined_is_someone_elses, replaced_so, replaced_is_not_right, restarted_so, restarted_is_not_right}
use Rattle.lapd_bus_laws.proofs.runs.each_holding_premise_is_needed.Goals as goal

pub returns : goal.returns
returns c = record {
  t200 = λ first second one two.
      ((hasty_so first second one two).keeps, hasty_is_not_right first second one two);
  again = λ first second one two.
      ((regained_so first second one two).keeps, regained_is_not_right first second one two);
  line_reached = old_is_reached;
  line_apart = old_assigns_apart;
  line_assigns = old_assigns;
  line_only = old_claims;
  line_keeps = old_keeps;
  line = old_is_not_expected;
  references = (twice_keeps, twice_is_someone_elses);
  joining = (joined_keeps, joined_is_someone_elses);
  replacing = λ first second one two.
      ((replaced_so first second one two).keeps, replaced_is_not_right first second one two);
  restarting = λ first second one two.
      ((restarted_so first second one two).keeps, restarted_is_not_right first second one two);
}
