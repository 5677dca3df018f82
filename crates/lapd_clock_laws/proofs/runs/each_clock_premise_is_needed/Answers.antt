use Rattle.std.proofs.Common.{refl}
use Rattle.lapd_two_side_laws.specs.Schedule.{at_first, configs}
use Rattle.lapd_clock_laws.specs.Runs.{hasty_at, hurried_at_first, hurried_configs}
use Rattle.lapd_clock_laws.proofs.RunsComputed.{at_the_end_is_not_timely, at_the_end_kept, hasty_is_not_right, hurried_in_time, hurried_so, not_first_kept, not_first_so, not_prompt_kept, not_prompt_so, too_early_kept, too_early_so, turned_back_is_not_timely, turned_back_kept}
use Rattle.lapd_clock_laws.proofs.runs.each_clock_premise_is_needed.Goals as goal

pub returns : goal.returns
returns c = record {
  twice = refl;
  half = λ first second one two. (let h = hurried_so first second one two in (
    hurried_in_time first second one two,
    h.once,
    hasty_is_not_right hurried_configs hurried_at_first _ (hasty_at 500 999 1000 first second) h,
  ));
  when_due = λ first second one two. (let h = too_early_so first second one two in (
    too_early_kept first second one two,
    h.once,
    hasty_is_not_right configs at_first _ (hasty_at 500 999 1000 first second) h,
  ));
  takes_first = λ first second one two. (let h = not_first_so first second one two in (
    not_first_kept first second one two,
    h.once,
    hasty_is_not_right configs at_first _ (hasty_at 500 1000 1000 first second) h,
  ));
  prompt = λ first second one two. (let h = not_prompt_so first second one two in (
    not_prompt_kept first second one two,
    h.once,
    hasty_is_not_right configs at_first _ (hasty_at 501 1000 1001 first second) h,
  ));
  in_order = (turned_back_kept, turned_back_is_not_timely);
  in_range = (at_the_end_kept, at_the_end_is_not_timely);
}
