-- A link is safe across restarts.
use Rattle.std.specs.Prelude.{List}
use Rattle.lapd_mod128.specs.Counting.{Tagged}
use Rattle.lapd_link_definition.specs.Parameters.{Parameters}
use Rattle.lapd_pair_laws.specs.Move as world
use Rattle.lapd_pair_laws.specs.Safe.{AreSafe}
use Rattle.lapd_pair_laws.specs.World.{new_world}
use Rattle.lapd_recovery_laws.specs.QuickRestart.{run_quickly}
use Rattle.lapd_table.specs.declared.link_id.LinkId.{LinkId}
use Rattle.lapd_two_side_laws.specs.Establishments.{LinkRecords, IsReceivedUnskipped}
use Rattle.lapd_side_events.specs.Interface.{Configs, Interface}
use Rattle.lapd_two_side_laws.specs.Primitives.{link_primitives, given_to, known_of, AreExpectedOfLink}
use Rattle.lapd_two_side_laws.specs.Projects.{ProjectsTo, ShowRecords}
use Rattle.lapd_restart_laws.specs.Restarts.{Change, run_across, records_across}

-- Layer 3 at each side knows only what is right of the link (`IsRight` of `lapd_two_side_laws`), and
-- no error but F, G, H and I was reported. `r` is what was recorded of establishments. Messages
-- count from the first change on, whichever sides restarted meanwhile.
pub record IsRightNow (id : LinkId) (i : Interface) (r : LinkRecords) : Type 0 where
  pub to_network : IsReceivedUnskipped (given_to id i.given_to_user) r.user.sent_in
      (known_of id i.delivered_to_user).acked (known_of id i.delivered_to_network).received
      r.network.received_in
  pub to_user : IsReceivedUnskipped (given_to id i.given_to_network) r.network.sent_in
      (known_of id i.delivered_to_network).acked (known_of id i.delivered_to_user).received
      r.user.received_in
  pub reports_to_user : AreExpectedOfLink (link_primitives id i.delivered_to_user)
  pub reports_to_network : AreExpectedOfLink (link_primitives id i.delivered_to_network)

-- After these changes the interface represents, for the link, a world of two ends that some moves
-- with quick restarts lead to from a new world. That world is safe, so the link is right.
pub record IsSafeAcross (c : Configs) (id : LinkId) (all : List Change) (i : Interface) : Type 0
  where
    pub user : Parameters
    pub network : Parameters
    pub moves : List world.Move
    pub shows : ProjectsTo c id (run_across c all i)
        (run_quickly Tagged moves (new_world user network))
    pub recorded : ShowRecords (records_across c id all i)
        (run_quickly Tagged moves (new_world user network))
    pub safe : AreSafe (run_quickly Tagged moves (new_world user network))
    pub right : IsRightNow id (run_across c all i) (records_across c id all i)
