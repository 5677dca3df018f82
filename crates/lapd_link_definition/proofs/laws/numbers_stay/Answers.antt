use Rattle.lapd_link_definition.proofs.NumbersOfStep.{numbers_stay, numbers_are_sent}
use Rattle.lapd_link_definition.proofs.laws.numbers_stay.Goals as goal

pub returns : goal.returns
returns c = record { own = numbers_stay; sent = numbers_are_sent }
