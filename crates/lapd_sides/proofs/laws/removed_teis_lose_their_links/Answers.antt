use Rattle.lapd_sides.proofs.Dialogues as dialogues
use Rattle.lapd_sides.proofs.laws.removed_teis_lose_their_links.Goals as goal

pub returns : goal.returns
returns c = record {
  gives = dialogues.removed_teis_lose_their_links_gives;
  gone = dialogues.removed_teis_lose_their_links_removed;
  given_up = dialogues.removed_teis_lose_their_links_given_up;
}
