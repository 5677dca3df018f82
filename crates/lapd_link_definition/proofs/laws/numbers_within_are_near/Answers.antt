use Rattle.lapd_link_definition.proofs.NearNumbers.{numbers_within_are_near}
use Rattle.lapd_link_definition.proofs.laws.numbers_within_are_near.Goals as goal

pub returns : goal.returns
returns c = numbers_within_are_near
