use Rattle.lapd_tei.proofs.Witnesses.{outstanding_is_needed, got_by_is_needed, checked_held_is_needed, checked_assigned_is_needed, removed_held_is_needed, restarted_held_is_needed, restarted_assigned_is_needed, joined_held_is_needed, joined_assigned_is_needed, joined_known_is_needed}
use Rattle.lapd_tei.proofs.laws.service_premises_are_needed.Goals as goal

pub returns : goal.returns
returns c = record {
  outstanding = outstanding_is_needed;
  got_by = got_by_is_needed;
  checked_held = checked_held_is_needed;
  checked_assigned = checked_assigned_is_needed;
  removed_held = removed_held_is_needed;
  restarted_held = restarted_held_is_needed;
  restarted_assigned = restarted_assigned_is_needed;
  joined_held = joined_held_is_needed;
  joined_assigned = joined_assigned_is_needed;
  joined_unknown = joined_known_is_needed;
}
