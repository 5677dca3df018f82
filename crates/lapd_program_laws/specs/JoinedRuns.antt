-- A run of `net` and one of `user` whose ports are joined, and what both print.
use Rattle.std.specs.Prelude.{◌≡◌, ℕ, List, [], ◌∷◌, ◌++◌, Option, Some, IsSome, ⊤}
use Rattle.std.specs.Io.KnownBytes.{Appends}
use Rattle.lapd_frame.specs.declared.Side.{Side}
use Rattle.lapd_frame.specs.declared.Side.TheVariants as side
use Rattle.lapd_table.specs.declared.link_id.LinkId.{LinkId}
use Rattle.lapd_sides.specs.declared.either_side.EitherSide.{EitherSide}
use Rattle.lapd_sides.specs.Network.{new_network}
use Rattle.lapd_sides.specs.User.{new_user, seeded}
use Rattle.lapd_two_side_laws.specs.Establishments.{records_of, IsReceivedUnskipped}
use Rattle.lapd_side_events.specs.Interface.{Configs, Interface, Move, new_interface, run}
use Rattle.lapd_two_side_laws.specs.Primitives.{AreExpectedOfLink, given_to, known_of, link_primitives}
use Rattle.lapd_two_side_laws.specs.Projects.{IsSafeAt}
use Rattle.lapd_cli_side_commands.specs.Served.{AtWork, Devices, HasServed, LinesDo, at_work}
use Rattle.lapd_cli_side_lines.specs.LineRequests.{LineRequest}
use Rattle.lapd_program_laws.specs.Joined.{AreMovesFor, ProgramLine}
use Rattle.lapd_program_laws.specs.Transcripts.{ExecutedLine, IsTranscript, primitives_of, submitted_by_network, submitted_by_user}

-- ---- The premises: what is written arrives, and is written before it is read.

-- what a program writes from start to end is what the source of the other one has at the start
pub record IsSourceOf (before after reader : Devices) : Type 0 where
  pub octets : List ℕ
  pub known : IsSome before.written
  pub wrote : Appends before.written after.written octets
  pub source : reader.rest ≡ Some octets

-- each source has the octets that the other program's sink gets
pub record AreJoined (network_before network_after user_before user_after : Devices) : Type 0 where
  pub to_user : IsSourceOf network_before network_after user_before
  pub to_network : IsSourceOf user_before user_after network_before

-- The octets that a source has left include all that the other program has yet to write until its
-- end. So what was read was written before.
pub record ReadsOnlyWritten (reader writer end : Devices) : Type 0 where
  pub left : List ℕ
  pub later : List ℕ
  pub rest : reader.rest ≡ Some (left ++ later)
  pub yet_to_write : Appends writer.written end.written later

-- The lines of both programs are executed in this order, and each line reads only what was written
-- by the lines before it. The two runs are `LinesDo`, from a to b and from p to q.
abbrev pub AreInOrder : List Side → (network_lines : List LineRequest) (a b : AtWork)
    → LinesDo network_lines a b → (user_lines : List LineRequest) (p q : AtWork)
    → LinesDo user_lines p q → Type 0
AreInOrder [] [] a b did [] p q does = ⊤
AreInOrder [] [] a b did (u ∷ us) p q does = ⊥
AreInOrder [] (n ∷ ns) a b did us p q does = ⊥
AreInOrder (side.Network ∷ order) [] a b did us p q does = ⊥
AreInOrder (side.Network ∷ order) (n ∷ ns) a b did us p q does =
    ReadsOnlyWritten did.0.around p.around q.around
    × AreInOrder order ns did.0 b did.2 us p q does
AreInOrder (side.User ∷ order) ns a b did [] p q does = ⊥
AreInOrder (side.User ∷ order) ns a b did (u ∷ us) p q does =
    ReadsOnlyWritten does.0.around a.around b.around
    × AreInOrder order ns a b did us does.0 q does.2

-- so for two scripts that were executed
abbrev pub AreServedInOrder : List Side → (network user : EitherSide)
    (network_lines user_lines : List LineRequest)
    (network_before network_after user_before user_after : Devices)
    → HasServed network network_lines network_before network_after
    → HasServed user user_lines user_before user_after → Type 0
AreServedInOrder order network user network_lines user_lines network_before network_after
    user_before user_after n u =
    AreInOrder order network_lines (at_work network 0 network_before)
    (at_work n.ended n.moment network_after) n.did user_lines (at_work user 0 user_before)
    (at_work u.ended u.moment user_after) u.did

-- the lines of both scripts, in this order
abbrev pub lines_in : List Side → List LineRequest → List LineRequest → List ProgramLine
lines_in [] ns us = []
lines_in (side.Network ∷ order) [] us = []
lines_in (side.Network ∷ order) (n ∷ ns) us =
    record { side = side.Network; line_request = n } ∷ lines_in order ns us
lines_in (side.User ∷ order) ns [] = []
lines_in (side.User ∷ order) ns (u ∷ us) =
    record { side = side.User; line_request = u } ∷ lines_in order ns us

-- ---- The interface that both programs begin with.

abbrev pub sides_at_first : Configs → Option ℕ → List ℕ → Interface
sides_at_first c fixed known =
    new_interface (new_user c.user fixed (seeded c.user.seed)) (new_network c.network known)

-- ---- The printed lines are right.

-- the transcripts contain what the sides of the interface delivered and accepted
pub record ArePrinted (fixed : Option ℕ) (network user : List ExecutedLine) (i : Interface)
    : Type 0 where
  pub delivered_to_network : i.delivered_to_network ≡ primitives_of network
  pub delivered_to_user : i.delivered_to_user ≡ primitives_of user
  pub given_to_network : i.given_to_network ≡ submitted_by_network network
  pub given_to_user : i.given_to_user ≡ submitted_by_user fixed user

-- Of one link, in both directions: the messages in the `data` lines that one program prints are, in
-- order and once each, among those of the other program's `give` lines that were not refused.
-- Within one establishment none is skipped. The messages that the counts of its `acknowledged`
-- lines report were received. No error but F, G, H and I is printed. The establishments are not
-- printed: they are those of the interface that these moves lead to.
pub record IsRightInPrint (c : Configs) (id : LinkId) (fixed : Option ℕ)
    (network user : List ExecutedLine) (moves : List Move) (i : Interface) : Type 0 where
  pub to_network : IsReceivedUnskipped (given_to id (submitted_by_user fixed user))
      (records_of c id moves i).user.sent_in
      (known_of id (primitives_of user)).acked (known_of id (primitives_of network)).received
      (records_of c id moves i).network.received_in
  pub to_user : IsReceivedUnskipped (given_to id (submitted_by_network network))
      (records_of c id moves i).network.sent_in
      (known_of id (primitives_of network)).acked (known_of id (primitives_of user)).received
      (records_of c id moves i).user.received_in
  pub reports_to_user : AreExpectedOfLink (link_primitives id (primitives_of user))
  pub reports_to_network : AreExpectedOfLink (link_primitives id (primitives_of network))

-- the link is safe in the interface after these moves, and what both programs printed of it is
-- right
pub record IsSafeInPrint (c : Configs) (id : LinkId) (fixed : Option ℕ)
    (network user : List ExecutedLine) (moves : List Move) (i : Interface) : Type 0 where
  pub safe : IsSafeAt c id moves i
  pub in_print : IsRightInPrint c id fixed network user moves i

-- Both runs have transcripts, and are moves of an interface whose primitives and messages the
-- transcripts contain.
pub record AreMovesInPrint (c : Configs) (fixed : Option ℕ) (known : List ℕ)
    (lines : List ProgramLine) (network_lines user_lines : List LineRequest)
    (network_before network_after user_before user_after : Devices) : Type 0 where
  pub network : List ExecutedLine
  pub user : List ExecutedLine
  pub by_network : IsTranscript network network_lines network_before network_after
  pub by_user : IsTranscript user user_lines user_before user_after
  pub moves : List Move
  pub asked : AreMovesFor lines 0 0 moves
  pub reported : ArePrinted fixed network user (run c moves (sides_at_first c fixed known))
