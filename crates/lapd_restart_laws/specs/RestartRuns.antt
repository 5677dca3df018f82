-- Worked runs with restarts. They show that the premises can be met, and that each is needed.
use Rattle.std.specs.Prelude.{◌≡◌, ℕ, false, List, [], ◌∷◌, ◌++◌, map, Some, None, Vec}
use Rattle.std.specs.List.{list_any}
use Rattle.std.specs.declared.alloc.Global.{Global}
use Rattle.lapd_frame.specs.declared.Sapi.TheVariants.{Call}
use Rattle.lapd_frame.specs.declared.Side.TheVariants as side
use Rattle.lapd_table.specs.declared.link_id.LinkId.{LinkId}
use Rattle.lapd_sides_links.specs.Links.{of_sapi}
use Rattle.lapd_sides.specs.declared.request.Request.TheVariants as request
use Rattle.lapd_sides.specs.Network.{new_network}
use Rattle.lapd_sides.specs.Worked.{random}
use Rattle.lapd_side_events.specs.Interface.{Interface, Move, run}
use Rattle.lapd_side_events.specs.Interface as interface
use Rattle.lapd_two_side_laws.specs.Schedule.{by_user, by_network, configs, call, at_first, assigned}
use Rattle.lapd_side_events.specs.SideView.{Take, Lose, Ask}
use Rattle.lapd_restart_laws.specs.Exchanges.{is_command, is_answer, is_of_kind_for, HasNoExchange}
use Rattle.lapd_restart_laws.specs.RestartPremises.{BringsNoLinkBack, KeepPremises}
use Rattle.lapd_restart_laws.specs.Restarts.{Change, Moves, NetworkRestarts, UserRestarts, changes}

-- moves without a restart
abbrev pub moved : List Move → List Change
moved moves = map (λ move. Moves move) moves

-- each side restarts with TEI 64
abbrev pub user_restarts : Change
user_restarts = UserRestarts (Some 64) random

abbrev pub network_restarts : Change
network_restarts = NetworkRestarts (64 ∷ [])

-- layer 3 of the user requests the link, and the network answers
abbrev pub establishing : List Move
establishing = by_user (Ask (request.Establish call) 0) ∷ by_network (Take 0)
    ∷ by_user (Take 0) ∷ []

-- The user restarts while a message is in transit in each direction. The network receives the
-- user's message, and the user ignores the network's and the RR. The user establishes again and
-- sends a second message, which is acknowledged. Then the network restarts while a third message is
-- in transit to it, and ignores it. The user establishes again.
abbrev pub across_both : Vec ℕ Global → Vec ℕ Global → Vec ℕ Global → Vec ℕ Global → List Change
across_both first answer second third =
    moved (establishing ++ by_user (Ask (request.Give call first) 0)
    ∷ by_network (Ask (request.Give call answer) 0) ∷ [])
    ++ user_restarts
    ∷ moved (by_network (Take 0) ∷ by_user (Take 0) ∷ by_user (Take 0) ∷ establishing
    ++ by_user (Ask (request.Give call second) 0) ∷ by_network (Take 0) ∷ by_user (Take 0)
    ∷ by_user (Ask (request.Give call third) 0) ∷ [])
    ++ network_restarts
    ∷ moved (by_network (Take 0) ∷ establishing)

-- The user has no TEI at first, obtains 64, and sends a message on the link. It restarts without a
-- TEI, requests the link again, and obtains 65. The network still has both links.
abbrev pub tei_lost : Vec ℕ Global → List Change
tei_lost message = moved (assigned message) ++ UserRestarts None random
    ∷ moved (by_user (Ask (request.Establish call) 0) ∷ by_network (Take 0) ∷ by_user (Take 0)
    ∷ by_network (Take 0) ∷ by_user (Take 0) ∷ [])

-- the link of call control with that TEI
abbrev pub next_call : LinkId
next_call = of_sapi Call 65

-- ---- Each premise is needed.

-- moves, a restart, and more moves
abbrev pub with_restart : List Move → Change → List Move → List Change
with_restart before restart after = moved before ++ restart ∷ moved after

-- the moves keep their premises, and so does the restart as far as `part` says
abbrev pub KeepInPart : Type 0 → List Move → Change → List Move → Type 0
KeepInPart part before restart after = KeepPremises configs call (moved before) at_first × (part
    × KeepPremises configs call (moved after)
    (changes configs restart (run configs before at_first)))

-- The network requests the link, and its SABME is in transit when it restarts. The user answers it.
abbrev pub command_sent : List Move
command_sent = by_network (Ask (request.Establish call) 0) ∷ []

abbrev pub command_answered : List Move
command_answered = by_user (Take 0) ∷ by_network (Take 0) ∷ []

-- the UA that answers it is in transit when the network restarts
abbrev pub answer_sent : List Move
answer_sent = by_network (Ask (request.Establish call) 0) ∷ by_user (Take 0) ∷ []

abbrev pub answer_taken : List Move
answer_taken = by_network (Take 0) ∷ []

-- the network restarts with TEI 64, and has no link again that it had not
abbrev pub BringsNoCallBack : Interface → Type 0
BringsNoCallBack i = BringsNoLinkBack call i.network.served.links
    (new_network configs.network (64 ∷ [])).served.links i.delivered_to_network

-- no UA or DM of the link is in transit to the network; no SABME or DISC from it
abbrev pub HasNoAnswer : Interface → Type 0
HasNoAnswer i = list_any (is_of_kind_for is_answer side.User call) i.to_network ≡ false

abbrev pub HasNoCommand : Interface → Type 0
HasNoCommand i = list_any (is_of_kind_for is_command side.Network call) i.to_user ≡ false

-- The first message is lost. The user gives up its TEI, and its layer 3 knows of the release. It
-- restarts with that TEI, so it has the link again.
abbrev pub given_up : Vec ℕ Global → List Move
given_up first = establishing ++ by_user (Ask (request.Give call first) 0) ∷ by_network (Lose 0)
    ∷ by_user (Ask (request.Remove 64) 0) ∷ []

-- The second message counts as the first.
abbrev pub comes_back : Vec ℕ Global → List Move
comes_back second = establishing ++ by_user (Ask (request.Give call second) 0)
    ∷ by_network (Take 0) ∷ by_user (Take 0) ∷ []

-- no exchange of the link is in transit, by the view of the user
abbrev pub IsQuietForUser : Interface → Type 0
IsQuietForUser i = HasNoExchange side.User call (interface.by_user i)
