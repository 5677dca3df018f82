use Rattle.lapd_sides.proofs.Dialogues as dialogues
use Rattle.lapd_sides.proofs.laws.releases_leave_other_links.Goals as goal

pub returns : goal.returns
returns c = record {
  gives = dialogues.releases_leave_other_links_gives;
  released = dialogues.releases_leave_other_links_released;
  other_state = dialogues.releases_leave_other_links_other_state;
  other_timer = dialogues.releases_leave_other_links_other_timer;
}
