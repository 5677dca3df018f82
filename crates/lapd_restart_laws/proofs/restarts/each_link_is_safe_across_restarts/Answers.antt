use Rattle.lapd_restart_laws.proofs.Across.{safe_across_from}
use Rattle.lapd_restart_laws.proofs.AcrossAsMade.{made_safe_across, same_without}
use Rattle.lapd_restart_laws.proofs.restarts.each_link_is_safe_across_restarts.Goals as goal

pub returns : goal.returns
returns c = record {
  as_made = made_safe_across;
  from_here = λ c id i low small_p small_q. safe_across_from c id low small_p small_q i;
  without = same_without;
}
