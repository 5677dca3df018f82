use Rattle.lapd_cli_frames.proofs.ByKind.{ends_alike, words_alike}
use Rattle.lapd_cli_frames.proofs.laws.both_draw_alike.Goals as goal

pub returns-clause-words : goal.returns-clause-words
returns-clause-words c = words_alike

pub returns-clause-ends : goal.returns-clause-ends
returns-clause-ends c = ends_alike
