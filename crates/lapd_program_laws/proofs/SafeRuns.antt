-- Two programs joined by a line are safe, and what they print is right.
use Rattle.std.proofs.Common.{◌≡◌, ℕ, ◌<◌, ◌≤◌, List, Option, subst}
use Rattle.rand_pcg.specs.Lcg.{Lcg}
use Rattle.lapd_table.specs.declared.link_id.LinkId.{LinkId}
use Rattle.lapd_sides_links.specs.declared.primitive.Primitive.{Primitive}
use Rattle.lapd_sides_links.specs.Links.{parameters_for}
use Rattle.lapd_sides.specs.Network.{new_network}
use Rattle.lapd_sides.specs.User.{new_user, seeded}
use Rattle.lapd_two_side_laws.specs.Establishments.{IsReceivedUnskipped}
use Rattle.lapd_side_events.specs.Interface.{Configs, Interface, Move, new_interface, run}
use Rattle.lapd_two_side_laws.specs.Premises.{SatisfyPremisesAsMade}
use Rattle.lapd_two_side_laws.specs.Primitives.{AreExpectedOfLink, given_to, known_of, link_primitives}
use Rattle.lapd_two_side_laws.specs.Projects.{IsRight}
use Rattle.lapd_two_side_laws.proofs.AsMade.{made_link_safe}
use Rattle.lapd_cli_side_commands.specs.Served.{Devices}
use Rattle.lapd_cli_side_lines.specs.LineRequests.{LineRequest}
use Rattle.lapd_program_laws.specs.Joined.{AreAt, AreRunSafely, ProgramLine, Programs, ProgramsDo}
use Rattle.lapd_program_laws.specs.JoinedRuns.{AreMovesInPrint, ArePrinted, IsRightInPrint, IsSafeInPrint, sides_at_first}
use Rattle.lapd_program_laws.specs.Transcripts.{ExecutedLine}
use Rattle.lapd_program_laws.proofs.Joins.{both_run}

pub run_safely : (c : Configs) (fixed : Option ℕ) (known : List ℕ) (random : Lcg)
    (lines : List ProgramLine) (a b : Programs)
    → AreAt c a (new_interface (new_user c.user fixed random) (new_network c.network known))
    → ProgramsDo lines a b
    → AreRunSafely c lines a b
    (new_interface (new_user c.user fixed random) (new_network c.network known))
run_safely c fixed known random lines a b at did =
    let p =
    both_run c lines a b
    (new_interface (new_user c.user fixed random) (new_network c.network known)) at did in
    record {
      run_together = p;
      safe = λ id low few_u few_n. made_link_safe c id fixed known random low few_u few_n p.moves;
    }

-- ---- The printed lines.

received_so : (id : LinkId) (given gave : List (LinkId × List ℕ)) (sent_in : ℕ → Option ℕ)
    (own owned other others : List Primitive) (numbers : List ℕ) → given ≡ gave → own ≡ owned
    → other ≡ others
    → IsReceivedUnskipped (given_to id given) sent_in (known_of id own).acked
    (known_of id other).received numbers
    → IsReceivedUnskipped (given_to id gave) sent_in (known_of id owned).acked
    (known_of id others).received numbers
received_so id given gave sent_in own owned other others numbers same_given same_own same_other h =
    subst (λ (xs : List (LinkId × List ℕ)). IsReceivedUnskipped (given_to id xs) sent_in
    (known_of id owned).acked (known_of id others).received numbers) same_given
    (subst (λ (ps : List Primitive). IsReceivedUnskipped (given_to id given) sent_in
    (known_of id ps).acked (known_of id others).received numbers) same_own
    (subst (λ (ps : List Primitive). IsReceivedUnskipped (given_to id given) sent_in
    (known_of id own).acked (known_of id ps).received numbers) same_other h))

in_print : (c : Configs) (id : LinkId) (fixed : Option ℕ) (network user : List ExecutedLine)
    (moves : List Move) (i : Interface) → ArePrinted fixed network user (run c moves i)
    → IsRight c id moves i → IsRightInPrint c id fixed network user moves i
in_print c id fixed network user moves i reported right = record {
  to_network =
      received_so id _ _ _ _ _ _ _ _ reported.given_to_user reported.delivered_to_user
      reported.delivered_to_network right.to_network;
  to_user =
      received_so id _ _ _ _ _ _ _ _ reported.given_to_network reported.delivered_to_network
      reported.delivered_to_user right.to_user;
  reports_to_user =
      subst (λ (ps : List Primitive). AreExpectedOfLink (link_primitives id ps))
      reported.delivered_to_user right.reports_to_user;
  reports_to_network =
      subst (λ (ps : List Primitive). AreExpectedOfLink (link_primitives id ps))
      reported.delivered_to_network right.reports_to_network;
}

pub right_in_print : (c : Configs) (fixed : Option ℕ) (known : List ℕ) (lines : List ProgramLine)
    (ns us : List LineRequest) (nb na ub ua : Devices)
    (runs : AreMovesInPrint c fixed known lines ns us nb na ub ua)
    (id : LinkId) → id.tei < 127 → (parameters_for c.user id.sapi).k ≤ 127
    → (parameters_for c.network id.sapi).k ≤ 127
    → SatisfyPremisesAsMade c id runs.moves (sides_at_first c fixed known)
    → IsSafeInPrint c id fixed runs.network runs.user runs.moves (sides_at_first c fixed known)
right_in_print c fixed known lines ns us nb na ub ua runs id low few_u few_n preserved =
    let safe =
    made_link_safe c id fixed known (seeded c.user.seed) low few_u few_n runs.moves
    preserved in
    record {
      safe = safe;
      in_print =
          in_print c id fixed runs.network runs.user runs.moves (sides_at_first c fixed known)
          runs.reported safe.right;
    }
