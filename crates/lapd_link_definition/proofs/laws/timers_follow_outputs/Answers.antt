use Rattle.lapd_link_definition.proofs.TimersOfWholeStep.{timers_begin, timers_stay, timers_follow}
use Rattle.lapd_link_definition.proofs.laws.timers_follow_outputs.Goals as goal

pub returns : goal.returns
returns c = record { begins = timers_begin; stays = timers_stay; follows = timers_follow }
