use Rattle.lapd_sides.proofs.Dialogues as dialogues
use Rattle.lapd_sides.proofs.laws.freed_teis_lose_their_links.Goals as goal

pub returns : goal.returns
returns c = record {
  gives = dialogues.freed_teis_lose_their_links_gives;
  gone = dialogues.freed_teis_lose_their_links_removed;
}
