use Rattle.lapd_two_side_laws.proofs.AsMade.{made_link_safe}
use Rattle.lapd_two_side_laws.proofs.Whole.{link_safe, link_safe_from}
use Rattle.lapd_two_side_laws.proofs.laws.each_link_is_safe.Goals as goal

pub returns : goal.returns
returns c = record {
  safe =
      λ c id user network p q m n low small_p small_q. link_safe c id low p q small_p small_q user
      network m n;
  as_made = made_link_safe;
  from_here =
      λ c id i p q m n low small_p small_q. link_safe_from c id low p q small_p small_q i m n;
}
