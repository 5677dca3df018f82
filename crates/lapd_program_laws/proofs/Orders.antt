-- Two runs whose lines are in order are lines of two programs that are joined by a line.
use Rattle.std.proofs.Common.{◌≡◌, ℕ, List, [], ◌∷◌, ◌++◌, Option, Some, refl, sym, ap, subst, ◌∙◌}
use Rattle.std.specs.Prelude.{IsSome}
use Rattle.std.specs.Io.KnownBytes.{Appends}
use Rattle.std.proofs.KnownBytes.{Appends-nil, Appends-trans}
use Rattle.lapd_frame.specs.declared.Side.{Side}
use Rattle.lapd_frame.specs.declared.Side.TheVariants as side
use Rattle.lapd_port.specs.SocketText.{socket_text}
use Rattle.lapd_sides.specs.declared.either_side.EitherSide.TheVariants as either
use Rattle.lapd_sides.specs.User.{seeded}
use Rattle.lapd_sides_links.specs.declared.config.Config.{Config}
use Rattle.lapd_side_events.specs.Interface.{Configs, by_user}
use Rattle.lapd_cli_side_commands.specs.Served.{AtWork, Devices, LineDoes, LinesDo, NetHasServed, UserHasServed, at_work}
use Rattle.lapd_cli_side_lines.specs.LineRequests.{LineRequest}
use Rattle.lapd_program_laws.specs.Joined.{AreAt, Program, Programs, ProgramsDo, WritesTo, requests_of_side}
use Rattle.lapd_program_laws.specs.JoinedRuns.{AreInOrder, AreJoined, AreMovesInPrint, AreServedInOrder, ReadsOnlyWritten, lines_in, sides_at_first}
use Rattle.lapd_program_laws.proofs.Joins.{same_text, still_known}
use Rattle.lapd_program_laws.proofs.Lines.{network_line, network_lines}
use Rattle.lapd_program_laws.proofs.Transcribed.{new_knows, transcribed}

-- ---- The octets that lines write.

-- what a line writes, and what the others write after it
record IsWrittenAs (a mid b : AtWork) (octets : List ℕ) : Type 0 where
  first : List ℕ
  others : List ℕ
  both : octets ≡ first ++ others
  wrote : Appends a.around.written mid.around.written first
  known : IsSome mid.around.written
  will : Appends mid.around.written b.around.written others

-- (what is written does not depend on the configuration)
written_as : (config : Config) (n : LineRequest) (ns : List LineRequest) (a mid b : AtWork)
    (octets : List ℕ) → LineDoes n a mid → LinesDo ns mid b
    → IsSome a.around.written → Appends a.around.written b.around.written octets
    → IsWrittenAs a mid b octets
written_as config n ns a mid b octets line lines known all =
    let x = network_line config n a mid line in
    let y = network_lines config ns mid b lines in record {
      first = socket_text x.sent;
      others = socket_text y.sent;
      both =
          same_text a.around.written b.around.written octets
          (socket_text x.sent ++ socket_text y.sent) known all
          (Appends-trans a.around.written mid.around.written b.around.written (socket_text x.sent)
          (socket_text y.sent) x.written y.written);
      wrote = x.written;
      known = still_known a.around.written mid.around.written (socket_text x.sent) known x.written;
      will = y.written;
    }

-- ---- Lines in order.

abbrev with_later : AtWork → List ℕ → Program
with_later at later = record { at = at; later = later }

-- both programs, and what each has yet to write
abbrev programs : AtWork → List ℕ → AtWork → List ℕ → Programs
programs a by_network p by_user =
    record { network = with_later a by_user; user = with_later p by_network }

writes_to : (n : LineRequest) (a mid b p q : AtWork) (octets later : List ℕ) → LineDoes n a mid
    → (w : IsWrittenAs a mid b octets) → ReadsOnlyWritten mid.around p.around q.around
    → IsSome p.around.written → Appends p.around.written q.around.written later
    → WritesTo n (with_later a later) (with_later mid later) (with_later p octets)
    (with_later p w.others)
writes_to n a mid b p q octets later line w reads known will = record {
  does = line;
  later = refl;
  left = reads.left;
  reads =
      reads.rest
      ∙ ap (λ (yet : List ℕ). Some (reads.left ++ yet))
      (same_text p.around.written q.around.written reads.later later known reads.yet_to_write
      will);
  octets = w.first;
  wrote = w.wrote;
  stays = refl;
  arrives = w.both;
}

no_more : (a b : AtWork) (octets : List ℕ) → b ≡ a → IsSome a.around.written
    → Appends a.around.written b.around.written octets → octets ≡ []
no_more a b octets same known will =
    same_text a.around.written a.around.written octets [] known
    (subst (λ (p : AtWork). Appends a.around.written p.around.written octets) same will)
    (Appends-nil a.around.written)

module _ (config : Config) where
  in_order : (order : List Side) (ns : List LineRequest) (a b : AtWork) (did : LinesDo ns a b)
      (us : List LineRequest) (p q : AtWork) (does : LinesDo us p q) (x y : List ℕ)
      → IsSome a.around.written → IsSome p.around.written
      → Appends a.around.written b.around.written x
      → Appends p.around.written q.around.written y
      → AreInOrder order ns a b did us p q does
      → ProgramsDo (lines_in order ns us) (programs a x p y) (programs b [] q [])
  in_order [] [] a b did [] p q does x y known_a known_p will_a will_p h =
      ap (λ (at : AtWork). programs at [] q []) did ∙ ap (λ (at : AtWork). programs a [] at []) does
      ∙ ap (λ (octets : List ℕ). programs a octets p []) (sym (no_more a b x did known_a will_a))
      ∙ ap (λ (octets : List ℕ). programs a x p octets)
      (sym (no_more p q y does known_p will_p))
  in_order [] [] a b did (u ∷ us) p q does x y known_a known_p will_a will_p h = absurd h
  in_order [] (n ∷ ns) a b did us p q does x y known_a known_p will_a will_p h = absurd h
  in_order (side.Network ∷ order) [] a b did us p q does x y known_a known_p will_a will_p h =
      absurd h
  in_order (side.Network ∷ order) (n ∷ ns) a b did us p q does x y known_a known_p will_a will_p h =
      let w = written_as config n ns a did.0 b x did.1 did.2 known_a will_a in (
        programs did.0 w.others p y,
        writes_to n a did.0 b p q x y did.1 w h.0 known_p will_p,
        in_order order ns did.0 b did.2 us p q does w.others y w.known known_p w.will will_p h.1,
      )
  in_order (side.User ∷ order) ns a b did [] p q does x y known_a known_p will_a will_p h = absurd h
  in_order (side.User ∷ order) ns a b did (u ∷ us) p q does x y known_a known_p will_a will_p h =
      let w = written_as config u us p does.0 q y does.1 does.2 known_p will_p in (
        programs a x does.0 w.others,
        writes_to u p does.0 q a b y x does.1 w h.0 known_a will_a,
        in_order order ns a b did us does.0 q does.2 x w.others known_a w.known will_a w.will h.1,
      )

-- the lines of one side are its script
network_script : (order : List Side) (ns : List LineRequest) (a b : AtWork) (did : LinesDo ns a b)
    (us : List LineRequest) (p q : AtWork) (does : LinesDo us p q)
    → AreInOrder order ns a b did us p q does
    → requests_of_side side.Network (lines_in order ns us) ≡ ns
network_script [] [] a b did [] p q does h = refl
network_script [] [] a b did (u ∷ us) p q does h = absurd h
network_script [] (n ∷ ns) a b did us p q does h = absurd h
network_script (side.Network ∷ order) [] a b did us p q does h = absurd h
network_script (side.Network ∷ order) (n ∷ ns) a b did us p q does h =
    ap (λ (rs : List LineRequest). n ∷ rs) (network_script order ns did.0 b did.2 us p q does h.1)
network_script (side.User ∷ order) ns a b did [] p q does h = absurd h
network_script (side.User ∷ order) ns a b did (u ∷ us) p q does h =
    network_script order ns a b did us does.0 q does.2 h.1

user_script : (order : List Side) (ns : List LineRequest) (a b : AtWork) (did : LinesDo ns a b)
    (us : List LineRequest) (p q : AtWork) (does : LinesDo us p q)
    → AreInOrder order ns a b did us p q does
    → requests_of_side side.User (lines_in order ns us) ≡ us
user_script [] [] a b did [] p q does h = refl
user_script [] [] a b did (u ∷ us) p q does h = absurd h
user_script [] (n ∷ ns) a b did us p q does h = absurd h
user_script (side.Network ∷ order) [] a b did us p q does h = absurd h
user_script (side.Network ∷ order) (n ∷ ns) a b did us p q does h =
    user_script order ns did.0 b did.2 us p q does h.1
user_script (side.User ∷ order) ns a b did [] p q does h = absurd h
user_script (side.User ∷ order) ns a b did (u ∷ us) p q does h =
    ap (λ (rs : List LineRequest). u ∷ rs) (user_script order ns a b did us does.0 q does.2 h.1)

-- ---- A run of `net` and one of `user`.

pub printed_together : (c : Configs) (fixed : Option ℕ) (known : List ℕ) (ns us : List LineRequest)
    (nb na ub ua : Devices)
    (net : NetHasServed c.network known ns nb na) (user : UserHasServed c.user fixed us ub ua)
    (order : List Side) → AreJoined nb na ub ua
    → AreServedInOrder order (either.Network net.began) (either.User user.began) ns us nb na ub ua
    net.served user.served
    → AreMovesInPrint c fixed known (lines_in order ns us) ns us nb na ub ua
printed_together c fixed known ns us nb na ub ua net user order joined ordered =
    let a : AtWork = at_work (either.Network net.began) 0 nb in
    let b : AtWork = at_work net.served.ended net.served.moment na in
    let p : AtWork = at_work (either.User user.began) 0 ub in
    let q : AtWork = at_work user.served.ended user.served.moment ua in
    let x : List ℕ = joined.to_user.octets in
    let y : List ℕ = joined.to_network.octets in
    let at : AreAt c (programs a x p y) (sides_at_first c fixed known) = record {
      network = net.new;
      user = user.new;
      to_network = joined.to_network.source;
      to_user = joined.to_user.source;
      by_network = joined.to_user.known;
      by_user = joined.to_network.known;
    } in
    let did =
    in_order c.network order ns a b net.served.did us p q user.served.did x y
    joined.to_user.known joined.to_network.known joined.to_user.wrote
    joined.to_network.wrote ordered in
    let t =
    transcribed c fixed (lines_in order ns us) (programs a x p y) (programs b [] q [])
    (sides_at_first c fixed known) at (new_knows c.user fixed (seeded c.user.seed)) did in
    record {
      network = t.network;
      user = t.user;
      by_network = record {
        lines =
            t.of_network.lines_are
            ∙ network_script order ns a b net.served.did us p q user.served.did ordered;
        text = t.of_network.text;
      };
      by_user = record {
        lines =
            t.of_user.lines_are
            ∙ user_script order ns a b net.served.did us p q user.served.did ordered;
        text = t.of_user.text;
      };
      moves = t.runs.moves;
      asked = t.runs.asked;
      reported = record {
        delivered_to_network = t.reported.delivered_to_network;
        delivered_to_user = t.reported.delivered_to_user;
        given_to_network = t.reported.given_to_network;
        given_to_user = t.reported.given_to_user;
      };
    }
