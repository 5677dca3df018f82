-- Two programs joined by a line perform moves of an interface.
use Rattle.std.proofs.Common.{◌≡◌, ℕ, ◌+◌, ◌*◌, ◌/◌, ◌%◌, List, [], ◌∷◌, ◌++◌, length, take, drop, Option, Some, None, refl, sym, ap, subst, ◌∙◌, append_assoc}
use Rattle.std.specs.Prelude.{IsSome}
use Rattle.std.specs.Io.KnownBytes.{Appends, Consumes}
use Rattle.std.proofs.lemmas.Nat.{div-add-mod'}
use Rattle.std.proofs.lemmas.List.{append_cancel_left, append_cancel_right}
use Rattle.std.proofs.Math.Seq.{take-append_seam, drop-append_seam}
use Rattle.lapd_frame.specs.declared.Side.{Side}
use Rattle.lapd_frame.specs.declared.Side.TheVariants as side
use Rattle.lapd_frame.specs.Address.{other_side}
use Rattle.lapd_port.specs.SocketText.{frame_text, socket_text}
use Rattle.lapd_table.specs.declared.link_id.LinkId.{LinkId}
use Rattle.lapd_sides_links.specs.declared.primitive.Primitive.{Primitive}
use Rattle.lapd_sides.specs.Network.{Network}
use Rattle.lapd_sides.specs.User.{User}
use Rattle.lapd_side_events.specs.Interface.{Configs, Interface, Move, own_link, network_behaviour, user_behaviour, by_network, by_user, with_network, with_user, happens, run}
use Rattle.lapd_side_events.specs.SideView.{SideView, SideEvent}
use Rattle.lapd_cli_side_commands.specs.Served.{AtWork, LinesDo}
use Rattle.lapd_cli_side_lines.specs.LineRequests.{LineRequest}
use Rattle.lapd_program_laws.specs.SideEvents.{AreFor, ShowsNetwork, ShowsUser, does_all, moves_of}
use Rattle.lapd_program_laws.specs.Joined.{Programs, ProgramLine, WritesTo, ProgramDoes, ProgramsDo, AreAt, AreMovesFor, AreRun, clock_of, network_clock, user_clock, requests_behind, requests_of_side}
use Rattle.lapd_program_laws.specs.Transcripts.{PrintedLine, is_refused, lines_text, primitives_in, submitted_in}
use Rattle.lapd_program_laws.proofs.Lines.{moment_is, network_moves, text_of_both, user_moves}
use Rattle.lapd_program_laws.proofs.Prints.{network_prints, user_prints}

-- ---- The octets of frames determine the frames.

same_length : (n m : ℕ) → n / 256 ≡ m / 256 → n % 256 ≡ m % 256 → n ≡ m
same_length n m high low =
    sym (div-add-mod' n 256) ∙ ap (λ (q : ℕ). q * 256 + n % 256) high
    ∙ ap (λ (r : ℕ). m / 256 * 256 + r) low ∙ div-add-mod' m 256

same_head : (x y : ℕ) (xs ys : List ℕ) → x ∷ xs ≡ y ∷ ys → x ≡ y
same_head x y xs ys h = cc

same_tail : (x y : ℕ) (xs ys : List ℕ) → x ∷ xs ≡ y ∷ ys → xs ≡ ys
same_tail x y xs ys h = cc

no_head : {A : Type 0} (x : ℕ) (xs : List ℕ) → [] ≡ x ∷ xs → A
no_head x xs h = let no : ⊥ = cc in absurd no

same_first : (f g r s : List ℕ) → frame_text f ++ r ≡ frame_text g ++ s → (f ≡ g) × (r ≡ s)
same_first f g r s h =
    let behind : (length f % 256) ∷ (f ++ r) ≡ (length g % 256) ∷ (g ++ s) =
    same_tail (length f / 256) (length g / 256) ((length f % 256) ∷ (f ++ r))
    ((length g % 256) ∷ (g ++ s)) h in
    let octets : f ++ r ≡ g ++ s =
    same_tail (length f % 256) (length g % 256) (f ++ r) (g ++ s) behind in
    let high : length f / 256 ≡ length g / 256 =
    same_head (length f / 256) (length g / 256) ((length f % 256) ∷ (f ++ r))
    ((length g % 256) ∷ (g ++ s)) h in
    let low : length f % 256 ≡ length g % 256 =
    same_head (length f % 256) (length g % 256) (f ++ r) (g ++ s) behind in
    let same : length f ≡ length g = same_length (length f) (length g) high low in (
      sym (take-append_seam f r) ∙ ap (λ (n : ℕ). take n (f ++ r)) same
          ∙ ap (take (length g)) octets ∙ take-append_seam g s,
      sym (drop-append_seam f r) ∙ ap (λ (n : ℕ). drop n (f ++ r)) same
          ∙ ap (drop (length g)) octets ∙ drop-append_seam g s,
    )

parted : (xs reception : List (List ℕ)) (ys : List ℕ) → socket_text xs ≡ socket_text reception ++ ys
    → (left : List (List ℕ)) × (xs ≡ reception ++ left) × (ys ≡ socket_text left)
parted xs [] ys h = (xs, refl, sym h)
parted [] (frame ∷ reception) ys h =
    no_head (length frame / 256) ((length frame % 256) ∷ ((frame ++ socket_text reception) ++ ys)) h
parted (first ∷ xs) (frame ∷ reception) ys h =
    let both =
    same_first first frame (socket_text xs) (socket_text reception ++ ys)
    (h ∙ append_assoc (frame_text frame) (socket_text reception) ys) in
    let more = parted xs reception ys both.1 in (
      more.0,
      ap (λ (f : List ℕ). f ∷ xs) both.0 ∙ ap (λ (fs : List (List ℕ)). frame ∷ fs) more.1,
      more.2,
    )

same_octets : (x y : List ℕ) → Some x ≡ Some y → x ≡ y
same_octets x y h = cc

-- If a source holds frames on their way and then later octets, it can only lose the first of these
-- frames, and the octets of the others are left.
pub rest_left : (old new : Option (List ℕ)) (xs reception : List (List ℕ)) (left later : List ℕ)
    → old ≡ Some (socket_text xs ++ later) → new ≡ Some (left ++ later)
    → Consumes old new (socket_text reception)
    → (others : List (List ℕ)) × (xs ≡ reception ++ others)
    × (new ≡ Some (socket_text others ++ later))
rest_left old None xs reception left later is ends taken = let no : ⊥ = cc in absurd no
rest_left old (Some ys) xs reception left later is ends taken =
    let lost : socket_text xs ++ later ≡ socket_text reception ++ ys =
    subst (λ (o : Option (List ℕ)). Consumes o (Some ys) (socket_text reception)) is
    taken in
    let end : ys ≡ left ++ later = same_octets ys (left ++ later) ends in
    let all : socket_text xs ++ later ≡ (socket_text reception ++ left) ++ later =
    lost ∙ ap (λ (zs : List ℕ). socket_text reception ++ zs) end
    ∙ sym (append_assoc (socket_text reception) left later) in
    let p =
    parted xs reception left
    (append_cancel_right (socket_text xs) (socket_text reception ++ left) later all) in
    (p.0, p.1, ends ∙ ap (λ (zs : List ℕ). Some (zs ++ later)) p.2)

-- ---- The octets that are written.

pub same_text : (old new : Option (List ℕ)) (one two : List ℕ) → IsSome old → Appends old new one
    → Appends old new two → one ≡ two
same_text None new one two known p q = let no : ⊥ = cc in absurd no
same_text (Some x) None one two known p q = absurd p
same_text (Some x) (Some y) one two known p q = append_cancel_left x one two (sym p ∙ q)

pub still_known : (old new : Option (List ℕ)) (text : List ℕ) → IsSome old → Appends old new text
    → IsSome new
still_known None new text known p = let no : ⊥ = cc in absurd no
still_known (Some x) None text known p = absurd p
still_known (Some x) (Some y) text known p = refl

-- the octets written are the next ones that the other program reads
grows : (rest after : Option (List ℕ)) (line sent : List (List ℕ)) (octets before later : List ℕ)
    → after ≡ rest → rest ≡ Some (socket_text line ++ before) → before ≡ octets ++ later
    → octets ≡ socket_text sent → after ≡ Some (socket_text (line ++ sent) ++ later)
grows rest after line sent octets before later stays is arrives same =
    let text : before ≡ socket_text sent ++ later =
    arrives ∙ ap (λ (t : List ℕ). t ++ later) same in
    stays ∙ is ∙ ap (λ (t : List ℕ). Some (socket_text line ++ t)) text
    ∙ ap Some (sym (append_assoc (socket_text line) (socket_text sent) later)
    ∙ ap (λ (t : List ℕ). t ++ later) (sym (text_of_both line sent)))

-- ---- A line of one program.

-- the program of this side; and the link that a request of this side refers to
abbrev pub program_of : Side → Programs → AtWork
program_of side.Network a = a.network.at
program_of side.User a = a.user.at

abbrev pub meant_by : Side → Interface → LinkId → LinkId
meant_by side.Network i id = id
meant_by side.User i id = own_link i.user.management.terminal id

-- the primitives that this side delivered, and the messages that it accepted
abbrev pub delivered_by : Side → Interface → List Primitive
delivered_by side.Network i = i.delivered_to_network
delivered_by side.User i = i.delivered_to_user

abbrev pub given_by : Side → Interface → List (LinkId × List ℕ)
given_by side.Network i = i.given_to_network
given_by side.User i = i.given_to_user

-- what a line of one side printed, and that the other side delivered and accepted nothing
pub record IsTold (s : Side) (line_request : LineRequest) (printed : List PrintedLine)
    (i j : Interface) : Type 0 where
  pub delivered : delivered_by s j ≡ delivered_by s i ++ primitives_in printed
  pub given : given_by s j ≡ given_by s i
      ++ submitted_in (meant_by s i) line_request (is_refused printed)
  pub others_delivered : delivered_by (other_side s) j ≡ delivered_by (other_side s) i
  pub others_given : given_by (other_side s) j ≡ given_by (other_side s) i

pub record IsStepped (c : Configs) (s : Side) (line_request : LineRequest) (a b : Programs)
    (i : Interface) : Type 0 where
  pub events : List SideEvent
  pub asked : AreFor line_request (clock_of s a.network.at.now a.user.at.now) events
  pub are : AreAt c b (run c (moves_of s events) i)
  pub network_now : network_clock s line_request a.network.at.now ≡ b.network.at.now
  pub user_now : user_clock s line_request a.user.at.now ≡ b.user.at.now
  pub printed : List PrintedLine
  pub style : (program_of s b).around.style ≡ (program_of s a).around.style
  pub text : Appends (program_of s a).around.printed (program_of s b).around.printed
      (lines_text (program_of s a).around.style printed)
  pub other : program_of (other_side s) b ≡ program_of (other_side s) a
  pub reported : IsTold s line_request printed i (run c (moves_of s events) i)

network_steps : (c : Configs) (line_request : LineRequest) (a b : Programs) (i : Interface)
    → AreAt c a i → WritesTo line_request a.network b.network a.user b.user
    → IsStepped c side.Network line_request a b i
network_steps c line_request a b i at w =
    let before : AtWork = a.network.at in
    let after : AtWork = b.network.at in
    let pr = network_prints c.network line_request before after w.does in
    let x = pr.by_events in
    let r =
    rest_left before.around.rest after.around.rest i.to_network x.reception w.left
    a.network.later at.to_network w.reads x.read in
    let d = x.are (by_network i) r.0 at.network r.1 in
    let t = pr.reported (by_network i) r.0 at.network r.1 in
    let moved = network_moves c d.0 i in
    let u : SideView Network = does_all (network_behaviour c.network) d.0 (by_network i) in
    let same : w.octets ≡ socket_text x.sent =
    same_text before.around.written after.around.written w.octets (socket_text x.sent)
    at.by_network w.wrote x.written in
    let now : AreAt c b (with_network u i) = record {
      network = d.2.is_so;
      user = subst (λ (p : AtWork). ShowsUser c.user p.side i.user) (sym w.stays) at.user;
      to_network =
          r.2
          ∙ ap (λ (line : List (List ℕ)). Some (socket_text line ++ a.network.later))
          (sym d.2.incoming)
          ∙ ap (λ (later : List ℕ). Some (socket_text u.incoming ++ later)) (sym w.later);
      to_user =
          grows a.user.at.around.rest b.user.at.around.rest i.to_user x.sent w.octets a.user.later
          b.user.later (ap (λ (p : AtWork). p.around.rest) w.stays) at.to_user w.arrives same
          ∙ ap (λ (line : List (List ℕ)). Some (socket_text line ++ b.user.later))
          (sym d.2.outgoing);
      by_network =
          still_known before.around.written after.around.written w.octets at.by_network w.wrote;
      by_user = subst (λ (p : AtWork). IsSome p.around.written) (sym w.stays) at.by_user;
    } in
    record {
      events = d.0;
      asked = d.1;
      are = subst (AreAt c b) (sym moved) now;
      network_now = sym (moment_is line_request before after w.does);
      user_now = sym (ap (λ (p : AtWork). p.now) w.stays);
      printed = pr.printed;
      style = pr.style;
      text = pr.text;
      other = w.stays;
      reported = record {
        delivered = ap (λ (j : Interface). j.delivered_to_network) moved ∙ t.delivered;
        given = ap (λ (j : Interface). j.given_to_network) moved ∙ t.given;
        others_delivered = ap (λ (j : Interface). j.delivered_to_user) moved;
        others_given = ap (λ (j : Interface). j.given_to_user) moved;
      };
    }

user_steps : (c : Configs) (line_request : LineRequest) (a b : Programs) (i : Interface)
    → AreAt c a i → WritesTo line_request a.user b.user a.network b.network
    → IsStepped c side.User line_request a b i
user_steps c line_request a b i at w =
    let before : AtWork = a.user.at in
    let after : AtWork = b.user.at in
    let pr = user_prints c.user line_request before after w.does in
    let x = pr.by_events in
    let r =
    rest_left before.around.rest after.around.rest i.to_user x.reception w.left a.user.later
    at.to_user w.reads x.read in
    let d = x.are (by_user i) r.0 at.user r.1 in
    let t = pr.reported (by_user i) r.0 at.user r.1 in
    let moved = user_moves c d.0 i in
    let u : SideView User = does_all (user_behaviour c.user) d.0 (by_user i) in
    let same : w.octets ≡ socket_text x.sent =
    same_text before.around.written after.around.written w.octets (socket_text x.sent)
    at.by_user w.wrote x.written in
    let now : AreAt c b (with_user u i) = record {
      network =
          subst (λ (p : AtWork). ShowsNetwork c.network p.side i.network) (sym w.stays) at.network;
      user = d.2.is_so;
      to_network =
          grows a.network.at.around.rest b.network.at.around.rest i.to_network x.sent w.octets
          a.network.later b.network.later (ap (λ (p : AtWork). p.around.rest) w.stays) at.to_network
          w.arrives same
          ∙ ap (λ (line : List (List ℕ)). Some (socket_text line ++ b.network.later))
          (sym d.2.outgoing);
      to_user =
          r.2
          ∙ ap (λ (line : List (List ℕ)). Some (socket_text line ++ a.user.later))
          (sym d.2.incoming)
          ∙ ap (λ (later : List ℕ). Some (socket_text u.incoming ++ later)) (sym w.later);
      by_network = subst (λ (p : AtWork). IsSome p.around.written) (sym w.stays) at.by_network;
      by_user = still_known before.around.written after.around.written w.octets at.by_user w.wrote;
    } in
    record {
      events = d.0;
      asked = d.1;
      are = subst (AreAt c b) (sym moved) now;
      network_now = sym (ap (λ (p : AtWork). p.now) w.stays);
      user_now = sym (moment_is line_request before after w.does);
      printed = pr.printed;
      style = pr.style;
      text = pr.text;
      other = w.stays;
      reported = record {
        delivered = ap (λ (j : Interface). j.delivered_to_user) moved ∙ t.delivered;
        given = ap (λ (j : Interface). j.given_to_user) moved ∙ t.given;
        others_delivered = ap (λ (j : Interface). j.delivered_to_network) moved;
        others_given = ap (λ (j : Interface). j.given_to_network) moved;
      };
    }

pub steps_together : (c : Configs) (s : Side) (line_request : LineRequest) (a b : Programs)
    (i : Interface) → AreAt c a i → ProgramDoes s line_request a b
    → IsStepped c s line_request a b i
steps_together c side.Network line_request a b i at w = network_steps c line_request a b i at w
steps_together c side.User line_request a b i at w = user_steps c line_request a b i at w

-- ---- All lines.

pub run_of_both : (c : Configs) (xs ys : List Move) (i : Interface)
    → run c (xs ++ ys) i ≡ run c ys (run c xs i)
run_of_both c [] ys i = refl
run_of_both c (move ∷ xs) ys i = run_of_both c xs ys (happens c move i)

unfoldable pub no_line_runs : (c : Configs) (a b : Programs) (i : Interface) → AreAt c a i → b ≡ a
    → AreRun c [] a b i
no_line_runs c a b i at same =
    record { moves = []; asked = refl; are = subst (λ (p : Programs). AreAt c p i) (sym same) at }

-- a line, and then others
unfoldable pub line_runs : (c : Configs) (line : ProgramLine) (lines : List ProgramLine)
    (a mid b : Programs) (i : Interface) (t : IsStepped c line.side line.line_request a mid i)
    → AreRun c lines mid b (run c (moves_of line.side t.events) i) → AreRun c (line ∷ lines) a b i
line_runs c line lines a mid b i t more =
    let Asked : ℕ → ℕ → Type 0 = λ network user. AreMovesFor lines network user more.moves in
    record {
      moves = moves_of line.side t.events ++ more.moves;
      asked = record {
        first = t.events;
        others = more.moves;
        both = refl;
        for_first = t.asked;
        for_others =
            subst
            (λ (network : ℕ). Asked network (user_clock line.side line.line_request a.user.at.now))
            (sym t.network_now)
            (subst (Asked mid.network.at.now) (sym t.user_now) more.asked);
      };
      are =
          subst (AreAt c b) (sym (run_of_both c (moves_of line.side t.events) more.moves i))
          more.are;
    }

pub both_run : (c : Configs) (lines : List ProgramLine) (a b : Programs) (i : Interface)
    → AreAt c a i → ProgramsDo lines a b → AreRun c lines a b i
both_run c [] a b i at same = no_line_runs c a b i at same
both_run c (line ∷ lines) a b i at h =
    let t = steps_together c line.side line.line_request a h.0 i at h.1 in
    line_runs c line lines a h.0 b i t
    (both_run c lines h.0 b (run c (moves_of line.side t.events) i) t.are h.2)

-- the lines of one side are executed by its program alone
network_first : (s : Side) (line_request : LineRequest) (line_requests : List LineRequest)
    (a mid : Programs) (b : AtWork) → ProgramDoes s line_request a mid
    → LinesDo line_requests mid.network.at b
    → LinesDo (requests_behind side.Network s line_request line_requests) a.network.at b
network_first side.Network line_request line_requests a mid b w more =
    (mid.network.at, w.does, more)
network_first side.User line_request line_requests a mid b w more =
    subst (λ (p : AtWork). LinesDo line_requests p b) w.stays more

pub lines_of_network : (lines : List ProgramLine) (a b : Programs) → ProgramsDo lines a b
    → LinesDo (requests_of_side side.Network lines) a.network.at b.network.at
lines_of_network [] a b same = ap (λ (p : Programs). p.network.at) same
lines_of_network (line ∷ lines) a b h =
    network_first line.side line.line_request (requests_of_side side.Network lines) a h.0
    b.network.at h.1 (lines_of_network lines h.0 b h.2)

user_first : (s : Side) (line_request : LineRequest) (line_requests : List LineRequest)
    (a mid : Programs) (b : AtWork) → ProgramDoes s line_request a mid
    → LinesDo line_requests mid.user.at b
    → LinesDo (requests_behind side.User s line_request line_requests) a.user.at b
user_first side.User line_request line_requests a mid b w more = (mid.user.at, w.does, more)
user_first side.Network line_request line_requests a mid b w more =
    subst (λ (p : AtWork). LinesDo line_requests p b) w.stays more

pub lines_of_user : (lines : List ProgramLine) (a b : Programs) → ProgramsDo lines a b
    → LinesDo (requests_of_side side.User lines) a.user.at b.user.at
lines_of_user [] a b same = ap (λ (p : Programs). p.user.at) same
lines_of_user (line ∷ lines) a b h =
    user_first line.side line.line_request (requests_of_side side.User lines) a h.0 b.user.at h.1
    (lines_of_user lines h.0 b h.2)
