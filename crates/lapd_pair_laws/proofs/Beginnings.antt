-- The rows that begin an establishment after a frame was delivered, and so every delivery.
use Rattle.lapd_link_definition.specs.End.{begin}
use Rattle.lapd_pair_laws.specs.Move.{Deliver}
use Rattle.lapd_pair_laws.proofs.BeginRows.{none_is_blind, ends_established, ends_sabme_in_4, ends_sabme_in_7_8}
use Rattle.lapd_pair_laws.proofs.Delivers.{Beginnings, preserves_deliver}
use Rattle.lapd_pair_laws.proofs.Worlds.{Preserves}

pub beginnings : Beginnings
unfolding begin
beginnings = record {
  by_acceptance =
      λ c ks is stays b. ends_established c ks (begin c.view.station.end) is stays none_is_blind b;
  in_4 = λ c ks is b. ends_sabme_in_4 c ks (begin c.view.station.end) is none_is_blind b;
  in_7_or_8 =
      λ c ks opened b. ends_sabme_in_7_8 c ks (begin c.view.station.end) opened none_is_blind b;
}

pub preserves_delivery : Preserves Deliver
preserves_delivery = preserves_deliver beginnings
