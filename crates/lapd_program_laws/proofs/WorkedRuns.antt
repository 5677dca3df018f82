-- The worked run of `net` and `user`, computed line by line.
use Rattle.std.proofs.Common.{◌≡◌, ◌⊎◌, inl, inr, ℕ, ◌+◌, ◌*◌, ◌/◌, ◌%◌, ◌≤◌, List, [], ◌∷◌, ◌++◌, length, drop, Bool, true, false, if◌then◌else◌, Option, Some, None, Ok, Err, refl, sym, ap, subst, ◌∙◌, append-nil}
use Rattle.std.specs.Prelude.{IsSome, Vec, not, nat_lt}
use Rattle.std.specs.declared.alloc.Global.{Global}
use Rattle.std.specs.Io.KnownBytes.{Appends, Consumes}
use Rattle.lapd_frame.specs.declared.Side.{Side}
use Rattle.lapd_frame.specs.declared.Side.TheVariants as side
use Rattle.lapd_port.specs.declared.port_fault.PortFault.TheVariants.{BadLength, Cut, End}
use Rattle.lapd_port.specs.Port.{Shows}
use Rattle.lapd_port.specs.SocketText.{frame_of_length, is_frame_length, next_frame, socket_text}
use Rattle.lapd_table.specs.declared.link_id.LinkId.{LinkId}
use Rattle.lapd_mod128.specs.Counting.{after}
use Rattle.lapd_sides.specs.SideState.{takes}
use Rattle.lapd_sides.specs.Network.{Network, new_network}
use Rattle.lapd_sides.specs.User.{User, new_user, seeded}
use Rattle.lapd_sides.specs.declared.request.Request.{Request}
use Rattle.lapd_sides.specs.declared.request.Request.TheVariants as request
use Rattle.lapd_sides.specs.declared.either_side.EitherSide.{EitherSide}
use Rattle.lapd_sides.specs.declared.either_side.EitherSide.TheVariants as either
use Rattle.lapd_side_events.specs.Interface.{Move, network_behaviour, user_behaviour}
use Rattle.lapd_two_side_laws.specs.Premises.{SatisfyPremisesAsMade}
use Rattle.lapd_two_side_laws.specs.Schedule.{call, configs}
use Rattle.lapd_side_events.specs.SideView.{Behaviour, SideView, SideEvent, Take, Ask, does}
use Rattle.lapd_cli_side_commands.specs.Served.{AtWork, Asks, Devices, LineDoes, NetHasServed, TakesNext, UserHasServed, at_work}
use Rattle.lapd_cli_side_lines.specs.LineRequests.{LineRequest, Read, Establish, Give, line_request_of}
use Rattle.lapd_program_laws.specs.SideEvents.{ShowsNetwork, ShowsUser, moves_of}
use Rattle.lapd_program_laws.specs.Joined.{AreMovesFor}
use Rattle.lapd_program_laws.specs.JoinedRuns.{ReadsOnlyWritten, lines_in, sides_at_first}
use Rattle.lapd_program_laws.specs.WorkedRuns.{AreOverWorkedOctets, MeetPremises, from_network, from_user, i_frame, in_turn, network_script, rr, sabme, ua, user_script}
use Rattle.lapd_program_laws.proofs.Joins.{rest_left}
use Rattle.lapd_program_laws.proofs.Lines.{Did, HasEvents, network_has, text_of_both, user_has}
use Rattle.lapd_two_side_laws.proofs.ComputedEvents.{computed_events}

-- ---- A program whose source and sink have the octets of these frames.

pub record IsAt {S : Type 0} (Shown : EitherSide → S → Type 0) (a : AtWork) (v : SideView S) : Type
    0 where
  pub shown : Shown a.side v.now
  pub clock : a.now ≡ 0
  pub rest : a.around.rest ≡ Some (socket_text v.incoming)
  pub written : a.around.written ≡ Some (socket_text v.outgoing)

rest_after : (old new : Option (List ℕ)) (xs : List ℕ) → old ≡ Some xs → Consumes old new []
    → new ≡ Some xs
rest_after None new xs is h = let no : ⊥ = cc in absurd no
rest_after (Some ys) None xs is h = absurd h
rest_after (Some ys) (Some zs) xs is h = ap Some (sym h) ∙ is

written_after : (old new : Option (List ℕ)) (xs ys : List (List ℕ)) → old ≡ Some (socket_text xs)
    → Appends old new (socket_text ys) → new ≡ Some (socket_text (xs ++ ys))
written_after None new xs ys is h = let no : ⊥ = cc in absurd no
written_after (Some os) None xs ys is h = absurd h
written_after (Some os) (Some ns) xs ys is h =
    let same : os ≡ socket_text xs = cc in
    ap Some (h ∙ ap (λ (text : List ℕ). text ++ socket_text ys) same ∙ sym (text_of_both xs ys))

pub known_after : (old new : Option (List ℕ)) (text : List ℕ) → IsSome old → Consumes old new text
    → (ys : List ℕ) × (new ≡ Some ys)
known_after None new text known h = let no : ⊥ = cc in absurd no
known_after (Some xs) None text known h = absurd h
known_after (Some xs) (Some ys) text known h = (ys, refl)

pub is_known : (old : Option (List ℕ)) (xs : List ℕ) → old ≡ Some xs → IsSome old
is_known old xs is = subst (λ (o : Option (List ℕ)). IsSome o) (sym is) refl

pub never_ends : (n : ℕ) (octets : List ℕ) → frame_of_length n octets ≡ Err End → ⊥
never_ends n octets = by_tests (not (is_frame_length n)) (nat_lt (length octets) n) _
  where
    by_tests : (bad short : Bool) (frame : List ℕ)
        → (if bad then Err BadLength else if short then Err Cut else Ok frame) ≡ Err End → ⊥
    by_tests true short frame h = cc
    by_tests false true frame h = cc
    by_tests false false frame h = cc

module _ {S : Type 0} (w : Behaviour S) (Shown : EitherSide → S → Type 0)
    (has : HasEvents w Shown) where
  pub asked : (line_request : LineRequest) (a b : AtWork) (v : SideView S) → IsAt Shown a v
      → Asks line_request a b
      → (request : Request) × (line_request_of request ≡ line_request)
      × IsAt Shown b (does w (Ask request 0) v)
  unfolding does
  asked line_request a b v at h =
      let d =
      subst (λ (now : ℕ). Did w (Shown b.side) h.acts (Ask h.request now) v) at.clock
      (has.asks h.request a.now h.result a.side b.side h.acts h.answers v at.shown) in (
        h.request,
        h.is,
        record {
          shown = d.is_so;
          clock = h.clock ∙ at.clock;
          rest = rest_after a.around.rest b.around.rest (socket_text v.incoming) at.rest h.read;
          written =
              written_after a.around.written b.around.written v.outgoing h.acts.frames at.written
              h.puts.sent
              ∙ ap (λ (line : List (List ℕ)). Some (socket_text line)) (sym d.puts.sent);
        },
      )

  took : (a b : AtWork) (v : SideView S) → IsAt Shown a v → TakesNext a b
      → IsAt Shown b (does w (Take 0) v)
  unfolding does
  took a b v at h =
      let k =
      known_after a.around.rest b.around.rest _
      (is_known a.around.rest (socket_text v.incoming) at.rest) h.read in
      let r =
      rest_left a.around.rest b.around.rest v.incoming (h.frame ∷ []) k.0 []
      (at.rest ∙ ap Some (sym (append-nil (socket_text v.incoming))))
      (k.1 ∙ ap Some (sym (append-nil k.0)))
      (subst (Consumes a.around.rest b.around.rest) (sym (append-nil _)) h.read) in
      let d =
      subst (λ (now : ℕ). Did w (Shown b.side) h.takes.acts (Take now) v) at.clock
      (has.takes h.frame a.now a.side b.side h.takes.acts h.takes.takes v r.0 at.shown r.1)
      in
      record {
        shown = d.is_so;
        clock = h.clock ∙ at.clock;
        rest =
            r.2 ∙ ap Some (append-nil (socket_text r.0))
            ∙ ap (λ (line : List (List ℕ)). Some (socket_text (drop 1 line))) (sym r.1);
        written =
            written_after a.around.written b.around.written v.outgoing h.takes.acts.frames
            at.written h.takes.puts.sent
            ∙ ap (λ (line : List (List ℕ)). Some (socket_text line)) (sym d.puts.sent);
      }

  pub reads : (a b : AtWork) (v : SideView S) (frame : List ℕ) (frames : List (List ℕ))
      → v.incoming ≡ frame ∷ frames → IsAt Shown a v → LineDoes Read a b
      → IsAt Shown b (does w (Take 0) v)
  reads a b v frame frames are at (inl h) = took a b v at h
  reads a b v frame frames are at (inr h) =
      let rest : a.around.rest ≡ Some (socket_text (frame ∷ frames)) =
      at.rest ∙ ap (λ (line : List (List ℕ)). Some (socket_text line)) are in
      let ended : next_frame (socket_text (frame ∷ frames)) ≡ Err End =
      subst (λ (o : Option (List ℕ)). Shows o (Err End)) rest h.ended in
      absurd (never_ends (length frame / 256 * 256 + length frame % 256)
      (frame ++ socket_text frames) ended)

-- ---- A message of given octets.

abbrev Fits : Vec ℕ Global → List ℕ → Type 0
Fits v octets = (v.len ≡ length octets) × (v.len ≤ v.cap)

abbrev holding : (v : Vec ℕ Global) (octets : List ℕ) → Fits v octets → Vec ℕ Global
holding v octets fits = record {
  ptr = v.ptr;
  len = v.len;
  cap = v.cap;
  alloc = v.alloc;
  items = octets;
  ok = fits;
  small = v.small;
}

-- a property of every vector that holds these octets is a property of this one
with_octets : (P : Vec ℕ Global → Type 0) (octets : List ℕ)
    → ((v : Vec ℕ Global) (fits : Fits v octets) → P (holding v octets fits)) → (v : Vec ℕ Global)
    → v.items ≡ octets → P v
with_octets P octets each v is =
    subst (λ (xs : List ℕ). (fits : Fits v xs) → P (holding v xs fits)) (sym is)
    (λ fits. each v fits) v.ok

pub same_establish : (id : LinkId) (r : Request) → line_request_of r ≡ Establish id
    → r ≡ request.Establish id
same_establish id (request.Establish other) is = cc
same_establish id (request.Release other) is = cc
same_establish id (request.Unit other octets) is = cc
same_establish id (request.Give other message) is = cc
same_establish id (request.Busy other on) is = cc
same_establish id request.AskTei is = cc
same_establish id (request.Check tei) is = cc
same_establish id (request.Remove tei) is = cc
same_establish id request.CheckAll is = cc
same_establish id request.RemoveAll is = cc

same_link : (one other : LinkId) (xs ys : List ℕ) → Give one xs ≡ Give other ys → one ≡ other
same_link one other xs ys is = cc

same_message : (one other : LinkId) (xs ys : List ℕ) → Give one xs ≡ Give other ys → xs ≡ ys
same_message one other xs ys is = cc

record IsGiving (id : LinkId) (octets : List ℕ) (r : Request) : Type 0 where
  message : Vec ℕ Global
  octets_are : message.items ≡ octets
  is : r ≡ request.Give id message

giving : (id : LinkId) (octets : List ℕ) (r : Request) → line_request_of r ≡ Give id octets
    → IsGiving id octets r
giving id octets (request.Give other message) is = record {
  message = message;
  octets_are = same_message other id message.items octets is;
  is =
      ap (λ (link : LinkId). request.Give link message)
      (same_link other id message.items octets is);
}
giving id octets (request.Establish other) is = let no : ⊥ = cc in absurd no
giving id octets (request.Release other) is = let no : ⊥ = cc in absurd no
giving id octets (request.Unit other octets') is = let no : ⊥ = cc in absurd no
giving id octets (request.Busy other on) is = let no : ⊥ = cc in absurd no
giving id octets request.AskTei is = let no : ⊥ = cc in absurd no
giving id octets (request.Check tei) is = let no : ⊥ = cc in absurd no
giving id octets (request.Remove tei) is = let no : ⊥ = cc in absurd no
giving id octets request.CheckAll is = let no : ⊥ = cc in absurd no
giving id octets request.RemoveAll is = let no : ⊥ = cc in absurd no

-- ---- The views of both sides after each line.

abbrev pub net : Behaviour Network
net = network_behaviour configs.network

abbrev pub usr : Behaviour User
usr = user_behaviour configs.user

abbrev n0 : SideView Network
n0 = record {
  now = new_network configs.network (64 ∷ []);
  delivered = [];
  given = [];
  incoming = from_user;
  outgoing = [];
}

abbrev n1 : SideView Network
n1 = does net (Take 0) n0

abbrev n2 : SideView Network
n2 = does net (Take 0) n1

abbrev u0 : SideView User
u0 = record {
  now = new_user configs.user (Some 64) (seeded configs.user.seed);
  delivered = [];
  given = [];
  incoming = from_network;
  outgoing = [];
}

abbrev u1 : SideView User
u1 = does usr (Ask (request.Establish call) 0) u0

abbrev u2 : SideView User
u2 = does usr (Take 0) u1

abbrev u3 : Vec ℕ Global → SideView User
u3 message = does usr (Ask (request.Give call message) 0) u2

abbrev u4 : Vec ℕ Global → SideView User
u4 message = does usr (Take 0) (u3 message)

abbrev pub IsLine : {S : Type 0} → SideView S → List (List ℕ) → List (List ℕ) → Type 0
IsLine v incoming outgoing = (v.incoming ≡ incoming) × (v.outgoing ≡ outgoing)

record FirstLines : Type 0 where
  n1_line : IsLine n1 (i_frame ∷ []) (ua ∷ [])
  n2_line : IsLine n2 [] from_network
  u1_line : IsLine u1 from_network (sabme ∷ [])
  u2_line : IsLine u2 (rr ∷ []) (sabme ∷ [])

record MessageLines (message : Vec ℕ Global) : Type 0 where
  u3_line : IsLine (u3 message) (rr ∷ []) from_user
  u4_line : IsLine (u4 message) [] from_user

lines_are : FirstLines
unfolding computed_events
lines_are = record {
  n1_line = (refl, refl);
  n2_line = (refl, refl);
  u1_line = (refl, refl);
  u2_line = (refl, refl);
}

message_lines_hold : (v : Vec ℕ Global) (x : Fits v (1 ∷ [])) → MessageLines (holding v (1 ∷ []) x)
unfolding computed_events
message_lines_hold v x = record { u3_line = (refl, refl); u4_line = (refl, refl) }

message_lines : (message : Vec ℕ Global) → message.items ≡ 1 ∷ [] → MessageLines message
message_lines = with_octets MessageLines (1 ∷ []) message_lines_hold

-- ---- The runs, line by line.

-- what a source has left and what a sink got, as lists of frames
pub record HasFrames (a : AtWork) (incoming outgoing : List (List ℕ)) : Type 0 where
  pub rest : a.around.rest ≡ Some (socket_text incoming)
  pub written : a.around.written ≡ Some (socket_text outgoing)

pub frames_at : {S : Type 0} (Shown : EitherSide → S → Type 0) (a : AtWork) (v : SideView S)
    (incoming outgoing : List (List ℕ)) → IsLine v incoming outgoing → IsAt Shown a v
    → HasFrames a incoming outgoing
frames_at Shown a v incoming outgoing line at = record {
  rest = at.rest ∙ ap (λ (frames : List (List ℕ)). Some (socket_text frames)) line.0;
  written = at.written ∙ ap (λ (frames : List (List ℕ)). Some (socket_text frames)) line.1;
}

pub still_frames : (a b : AtWork) (incoming outgoing : List (List ℕ)) → b ≡ a
    → HasFrames a incoming outgoing → HasFrames b incoming outgoing
still_frames a b incoming outgoing same h =
    subst (λ (p : AtWork). HasFrames p incoming outgoing) (sym same) h

record NetworkRun (a n1_at n2_at b : AtWork) : Type 0 where
  first : HasFrames n1_at (i_frame ∷ []) (ua ∷ [])
  second : HasFrames n2_at [] from_network
  end : HasFrames b [] from_network

network_run : (nb na : Devices)
    (network : NetHasServed configs.network (64 ∷ []) network_script nb na)
    → nb.rest ≡ Some (socket_text from_user) → nb.written ≡ Some []
    → NetworkRun (at_work (either.Network network.began) 0 nb) network.served.did.0
    network.served.did.2.0 (at_work network.served.ended network.served.moment na)
network_run nb na network rest written =
    let Shown : EitherSide → Network → Type 0 = ShowsNetwork configs.network in
    let d = network.served.did in
    let a : AtWork = at_work (either.Network network.began) 0 nb in
    let at0 : IsAt Shown a n0 =
    record { shown = network.new; clock = refl; rest = rest; written = written } in
    let at1 =
    reads net Shown (network_has configs.network) a d.0 n0 sabme (i_frame ∷ []) refl at0
    d.1 in
    let at2 =
    reads net Shown (network_has configs.network) d.0 d.2.0 n1 i_frame []
    lines_are.n1_line.0 at1 d.2.1 in
    let two = frames_at Shown d.2.0 n2 [] from_network lines_are.n2_line at2 in
    record {
      first = frames_at Shown d.0 n1 (i_frame ∷ []) (ua ∷ []) lines_are.n1_line at1;
      second = two;
      end =
          still_frames d.2.0 (at_work network.served.ended network.served.moment na) [] from_network
          d.2.2 two;
    }

record UserRun (u1_at u2_at u3_at u4_at b : AtWork) : Type 0 where
  first : HasFrames u1_at from_network (sabme ∷ [])
  second : HasFrames u2_at (rr ∷ []) (sabme ∷ [])
  third : HasFrames u3_at (rr ∷ []) from_user
  fourth : HasFrames u4_at [] from_user
  end : HasFrames b [] from_user

user_run : (ub ua_ : Devices) (user : UserHasServed configs.user (Some 64) user_script ub ua_)
    → ub.rest ≡ Some (socket_text from_network) → ub.written ≡ Some []
    → UserRun user.served.did.0 user.served.did.2.0 user.served.did.2.2.0 user.served.did.2.2.2.0
    (at_work user.served.ended user.served.moment ua_)
user_run ub ua_ user rest written =
    let Shown : EitherSide → User → Type 0 = ShowsUser configs.user in
    let has = user_has configs.user in
    let d = user.served.did in
    let a : AtWork = at_work (either.User user.began) 0 ub in
    let at0 : IsAt Shown a u0 =
    record { shown = user.new; clock = refl; rest = rest; written = written } in
    let x1 = asked usr Shown has (Establish call) a d.0 u0 at0 d.1 in
    let at1 : IsAt Shown d.0 u1 =
    subst (λ (r : Request). IsAt Shown d.0 (does usr (Ask r 0) u0))
    (same_establish call x1.0 x1.1) x1.2 in
    let at2 = reads usr Shown has d.0 d.2.0 u1 ua (rr ∷ []) lines_are.u1_line.0 at1 d.2.1 in
    let x3 = asked usr Shown has (Give call (1 ∷ [])) d.2.0 d.2.2.0 u2 at2 d.2.2.1 in
    let g = giving call (1 ∷ []) x3.0 x3.1 in
    let at3 : IsAt Shown d.2.2.0 (u3 g.message) =
    subst (λ (r : Request). IsAt Shown d.2.2.0 (does usr (Ask r 0) u2)) g.is x3.2 in
    let more = message_lines g.message g.octets_are in
    let at4 =
    reads usr Shown has d.2.2.0 d.2.2.2.0 (u3 g.message) rr [] more.u3_line.0 at3
    d.2.2.2.1 in
    let four = frames_at Shown d.2.2.2.0 (u4 g.message) [] from_user more.u4_line at4 in
    record {
      first = frames_at Shown d.0 u1 from_network (sabme ∷ []) lines_are.u1_line at1;
      second = frames_at Shown d.2.0 u2 (rr ∷ []) (sabme ∷ []) lines_are.u2_line at2;
      third = frames_at Shown d.2.2.0 (u3 g.message) (rr ∷ []) from_user more.u3_line at3;
      fourth = four;
      end =
          still_frames d.2.2.2.0 (at_work user.served.ended user.served.moment ua_) [] from_user
          d.2.2.2.2 four;
    }

-- ---- The premises of the runs.

pub appends_so : (old new : Option (List ℕ)) (xs ys text : List ℕ) → old ≡ Some xs → new ≡ Some ys
    → ys ≡ xs ++ text → Appends old new text
appends_so old new xs ys text was is both =
    subst (λ (o : Option (List ℕ)). Appends o new text) (sym was)
    (subst (λ (o : Option (List ℕ)). Appends (Some xs) o text) (sym is) both)

-- what is left to read is exactly what the other program has yet to write
reads_written : (reader writer end : AtWork) (left out got before after : List (List ℕ))
    → HasFrames reader left out → HasFrames writer before got → HasFrames end after (got ++ left)
    → ReadsOnlyWritten reader.around writer.around end.around
reads_written reader writer end left out got before after r w e = record {
  left = [];
  later = socket_text left;
  rest = r.rest;
  yet_to_write =
      appends_so writer.around.written end.around.written (socket_text got)
      (socket_text (got ++ left)) (socket_text left) w.written e.written (text_of_both got left);
}

-- ---- The premises of the link.

abbrev taken : Bool → List SideEvent
taken true = Take 0 ∷ []
taken false = []

abbrev moves_by : Bool → Bool → Bool → Bool → Vec ℕ Global → List Move
moves_by a b c d message =
    moves_of side.User (Ask (request.Establish call) 0 ∷ [])
    ++ (moves_of side.Network (taken a) ++ (moves_of side.User (taken b)
    ++ (moves_of side.User (Ask (request.Give call message) 0 ∷ [])
    ++ (moves_of side.Network (taken c) ++ (moves_of side.User (taken d) ++ [])))))

abbrev Keep : List Move → Type 0
Keep moves = SatisfyPremisesAsMade configs call moves (sides_at_first configs (Some 64) (64 ∷ []))

kept_so : (a b c d : Bool) (v : Vec ℕ Global) (x : Fits v (1 ∷ []))
    → Keep (moves_by a b c d (holding v (1 ∷ []) x))
unfolding computed_events
kept_so true true true true v x = (
  (tt, (tt, (tt, (tt, (tt, (tt, tt)))))),
  (λ t. refl, (λ t. refl, (λ t. refl, (λ t. refl, (λ t. refl, (λ t. refl, tt)))))),
)
kept_so true true true false v x = (
  (tt, (tt, (tt, (tt, (tt, tt))))),
  (λ t. refl, (λ t. refl, (λ t. refl, (λ t. refl, (λ t. refl, tt))))),
)
kept_so true true false true v x = (
  (tt, (tt, (tt, (tt, (tt, tt))))),
  (λ t. refl, (λ t. refl, (λ t. refl, (λ t. refl, (λ t. refl, tt))))),
)
kept_so true true false false v x =
    ((tt, (tt, (tt, (tt, tt)))), (λ t. refl, (λ t. refl, (λ t. refl, (λ t. refl, tt)))))
kept_so true false true true v x = (
  (tt, (tt, (tt, (tt, (tt, tt))))),
  (λ t. refl, (λ t. refl, (λ t. refl, (λ t. refl, (λ t. refl, tt))))),
)
kept_so true false true false v x =
    ((tt, (tt, (tt, (tt, tt)))), (λ t. refl, (λ t. refl, (λ t. refl, (λ t. refl, tt)))))
kept_so true false false true v x =
    ((tt, (tt, (tt, (tt, tt)))), (λ t. refl, (λ t. refl, (λ t. refl, (λ t. refl, tt)))))
kept_so true false false false v x =
    ((tt, (tt, (tt, tt))), (λ t. refl, (λ t. refl, (λ t. refl, tt))))
kept_so false true true true v x = (
  (tt, (tt, (tt, (tt, (tt, tt))))),
  (λ t. refl, (λ t. refl, (λ t. refl, (λ t. refl, (λ t. refl, tt))))),
)
kept_so false true true false v x =
    ((tt, (tt, (tt, (tt, tt)))), (λ t. refl, (λ t. refl, (λ t. refl, (λ t. refl, tt)))))
kept_so false true false true v x =
    ((tt, (tt, (tt, (tt, tt)))), (λ t. refl, (λ t. refl, (λ t. refl, (λ t. refl, tt)))))
kept_so false true false false v x =
    ((tt, (tt, (tt, tt))), (λ t. refl, (λ t. refl, (λ t. refl, tt))))
kept_so false false true true v x =
    ((tt, (tt, (tt, (tt, tt)))), (λ t. refl, (λ t. refl, (λ t. refl, (λ t. refl, tt)))))
kept_so false false true false v x =
    ((tt, (tt, (tt, tt))), (λ t. refl, (λ t. refl, (λ t. refl, tt))))
kept_so false false false true v x =
    ((tt, (tt, (tt, tt))), (λ t. refl, (λ t. refl, (λ t. refl, tt))))
kept_so false false false false v x = ((tt, (tt, tt)), (λ t. refl, (λ t. refl, tt)))

as_taken : (first : List SideEvent) → (first ≡ []) ⊎ (first ≡ Take 0 ∷ [])
    → (read : Bool) × (first ≡ taken read)
as_taken first (inl none) = (false, none)
as_taken first (inr one) = (true, one)

parted : (s : Side) (first one : List SideEvent) (moves others rest : List Move)
    → moves ≡ moves_of s first ++ others → first ≡ one → others ≡ rest
    → moves ≡ moves_of s one ++ rest
parted s first one moves others rest both is more =
    both ∙ ap (λ (events : List SideEvent). moves_of s events ++ others) is
    ∙ ap (λ (ms : List Move). moves_of s one ++ ms) more

all_keep : (moves : List Move) → AreMovesFor (lines_in in_turn network_script user_script) 0 0 moves
    → Keep moves
all_keep moves h1 =
    let h2 = h1.for_others in
    let h3 = h2.for_others in
    let h4 = h3.for_others in
    let h5 = h4.for_others in
    let h6 = h5.for_others in
    let f1 = h1.for_first in
    let f2 = as_taken h2.first h2.for_first in
    let f3 = as_taken h3.first h3.for_first in
    let f4 = h4.for_first in
    let g = giving call (1 ∷ []) f4.0 f4.1 in
    let f5 = as_taken h5.first h5.for_first in
    let f6 = as_taken h6.first h6.for_first in
    let are : moves ≡ moves_by f2.0 f3.0 f5.0 f6.0 g.message =
    parted side.User h1.first _ moves h1.others _ h1.both
    (f1.2 ∙ ap (λ (r : Request). Ask r 0 ∷ []) (same_establish call f1.0 f1.1))
    (parted side.Network h2.first _ h1.others h2.others _ h2.both f2.1
    (parted side.User h3.first _ h2.others h3.others _ h3.both f3.1
    (parted side.User h4.first _ h3.others h4.others _ h4.both
    (f4.2 ∙ ap (λ (r : Request). Ask r 0 ∷ []) g.is)
    (parted side.Network h5.first _ h4.others h5.others _ h5.both f5.1
    (parted side.User h6.first _ h5.others h6.others [] h6.both f6.1 h6.for_others))))) in
    subst Keep (sym are) (with_octets
    (λ (message : Vec ℕ Global). Keep (moves_by f2.0 f3.0 f5.0 f6.0 message)) (1 ∷ [])
    (kept_so f2.0 f3.0 f5.0 f6.0) g.message g.octets_are)

-- ---- All premises.

pub premises_met : (nb na ub ua_ : Devices)
    (network : NetHasServed configs.network (64 ∷ []) network_script nb na)
    (user : UserHasServed configs.user (Some 64) user_script ub ua_)
    → AreOverWorkedOctets nb ub → MeetPremises nb na ub ua_ network user
premises_met nb na ub ua_ network user over =
    let n = network_run nb na network over.network_rest over.network_written in
    let u = user_run ub ua_ user over.user_rest over.user_written in
    let a : AtWork = at_work (either.Network network.began) 0 nb in
    let b : AtWork = at_work network.served.ended network.served.moment na in
    let q : AtWork = at_work user.served.ended user.served.moment ua_ in
    let e = network.served.did in
    let d = user.served.did in
    let zero_ : HasFrames a from_user [] =
    record { rest = over.network_rest; written = over.network_written } in
    record {
      joined = record {
        to_user = record {
          octets = socket_text from_network;
          known = is_known nb.written [] over.network_written;
          wrote =
              appends_so nb.written na.written [] (socket_text from_network)
              (socket_text from_network) over.network_written n.end.written refl;
          source = over.user_rest;
        };
        to_network = record {
          octets = socket_text from_user;
          known = is_known ub.written [] over.user_written;
          wrote =
              appends_so ub.written ua_.written [] (socket_text from_user) (socket_text from_user)
              over.user_written u.end.written refl;
          source = over.network_rest;
        };
      };
      in_order = (
        reads_written d.0 a b from_network (sabme ∷ []) [] from_user [] u.first zero_ n.end,
        (
          reads_written e.0 d.0 q (i_frame ∷ []) (ua ∷ []) (sabme ∷ []) from_network [] n.first
              u.first u.end,
          (
            reads_written d.2.0 e.0 b (rr ∷ []) (sabme ∷ []) (ua ∷ []) (i_frame ∷ []) [] u.second
                n.first n.end,
            (
              reads_written d.2.2.0 e.0 b (rr ∷ []) from_user (ua ∷ []) (i_frame ∷ []) [] u.third
                  n.first n.end,
              (
                reads_written e.2.0 d.2.2.0 q [] from_network from_user (rr ∷ []) [] n.second
                    u.third u.end,
                (
                  reads_written d.2.2.2.0 e.2.0 b [] from_user from_network [] [] u.fourth n.second
                      n.end,
                  tt,
                ),
              ),
            ),
          ),
        ),
      );
      preserved = all_keep;
    }
