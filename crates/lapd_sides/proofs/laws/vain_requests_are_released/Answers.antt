use Rattle.lapd_sides.proofs.Dialogues as dialogues
use Rattle.lapd_sides.proofs.laws.vain_requests_are_released.Goals as goal

pub returns : goal.returns
returns c = dialogues.vain_requests_are_released
