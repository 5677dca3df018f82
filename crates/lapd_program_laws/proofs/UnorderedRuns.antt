-- A run in which `net` reads what was not yet written, computed line by line.
use Rattle.std.proofs.Common.{◌≡◌, inl, inr, ℕ, ◌+◌, ◌*◌, ◌/◌, ◌%◌, List, [], ◌∷◌, ◌++◌, length, Option, Some, Err, refl, sym, ap, subst, ◌∙◌, append-nil}
use Rattle.std.specs.Io.KnownBytes.{Appends, Consumes}
use Rattle.std.proofs.KnownBytes.{Appends-trans}
use Rattle.lapd_frame.specs.declared.Side.{Side}
use Rattle.lapd_frame.specs.declared.Side.TheVariants as side
use Rattle.lapd_frame.specs.Address.{other_side}
use Rattle.lapd_port.specs.declared.port_fault.PortFault.TheVariants.{End}
use Rattle.lapd_port.specs.Port.{Shows}
use Rattle.lapd_port.specs.SocketText.{next_frame, socket_text}
use Rattle.lapd_sides.specs.SideState.{takes}
use Rattle.lapd_sides.specs.Network.{Network, new_network}
use Rattle.lapd_sides.specs.User.{User, new_user, seeded}
use Rattle.lapd_link_definition.specs.declared.out.Letter.TheVariants as letter
use Rattle.lapd_sides_links.specs.declared.primitive.Primitive.{Primitive}
use Rattle.lapd_sides_links.specs.declared.primitive.Primitive.TheVariants.{Of}
use Rattle.lapd_sides_links.specs.declared.primitive.What.TheVariants as what
use Rattle.lapd_sides_links.specs.Effects.{Effects}
use Rattle.lapd_sides.specs.declared.request.Request.{Request}
use Rattle.lapd_sides.specs.declared.request.Request.TheVariants as request
use Rattle.lapd_sides.specs.declared.either_side.EitherSide.{EitherSide}
use Rattle.lapd_sides.specs.declared.either_side.EitherSide.TheVariants as either
use Rattle.lapd_sides.specs.Either.{side_of}
use Rattle.lapd_two_side_laws.specs.Primitives.{AreExpectedOfLink, link_primitives}
use Rattle.lapd_two_side_laws.specs.Schedule.{call, configs}
use Rattle.lapd_side_events.specs.SideView.{Behaviour, SideView, Take, Ask, does}
use Rattle.lapd_cli_side_lines.specs.declared.line_style.LineStyle.{LineStyle}
use Rattle.lapd_cli_side_lines.specs.LineRequests.{Read, Establish}
use Rattle.lapd_cli_side_lines.specs.SideTexts.{frame_text_line}
use Rattle.lapd_cli_side_commands.specs.Served.{AtWork, Devices, LineDoes, NetHasServed, TakesNext, UserHasServed, at_work}
use Rattle.lapd_program_laws.specs.SideEvents.{ShowsNetwork, ShowsUser}
use Rattle.lapd_program_laws.specs.Transcripts.{PrintedLine, Frame, lines_text, primitives_in}
use Rattle.lapd_program_laws.specs.JoinedRuns.{AreServedInOrder, ReadsOnlyWritten}
use Rattle.lapd_program_laws.specs.UnorderedRuns.{AreOverUnorderedOctets, AreWrong, answering_script, early_script, network_sabme, user_ua}
use Rattle.lapd_program_laws.proofs.Joins.{rest_left}
use Rattle.lapd_program_laws.proofs.Lines.{Did, HasEvents, network_has, user_has}
use Rattle.lapd_program_laws.proofs.Prints.{acts_are, acts_lines, acts_read, network_prints, reads_as}
use Rattle.lapd_program_laws.proofs.WorkedRuns.{HasFrames, IsAt, IsLine, appends_so, asked, frames_at, is_known, known_after, net, never_ends, reads, same_establish, still_frames, usr}
use Rattle.lapd_two_side_laws.proofs.ComputedEvents.{computed_events}

-- ---- The output of a line that takes a frame.

record PrintsTaken {S : Type 0} (w : Behaviour S) (a b : AtWork) (v : SideView S) : Type 0 where
  printed : List PrintedLine
  style : b.around.style ≡ a.around.style
  text : Appends a.around.printed b.around.printed (lines_text a.around.style printed)
  delivered : (does w (Take 0) v).delivered ≡ v.delivered ++ primitives_in printed

module _ {S : Type 0} (w : Behaviour S) (Shown : EitherSide → S → Type 0)
    (has : HasEvents w Shown) where
  took_prints : (a b : AtWork) (v : SideView S) → IsAt Shown a v → TakesNext a b
      → PrintsTaken w a b v
  took_prints a b v at h =
      let side : Side = side_of a.side in
      let acts : Effects = h.takes.acts in
      let k =
      known_after a.around.rest b.around.rest _
      (is_known a.around.rest (socket_text v.incoming) at.rest) h.read in
      let r =
      rest_left a.around.rest b.around.rest v.incoming (h.frame ∷ []) k.0 []
      (at.rest ∙ ap Some (sym (append-nil (socket_text v.incoming))))
      (k.1 ∙ ap Some (sym (append-nil k.0)))
      (subst (Consumes a.around.rest b.around.rest) (sym (append-nil _)) h.read) in
      let d =
      subst (λ (now : ℕ). Did w (Shown b.side) acts (Take now) v) at.clock
      (has.takes h.frame a.now a.side b.side acts h.takes.takes v r.0 at.shown r.1) in
      record {
        printed = Frame (other_side side) h.frame ∷ acts_lines side acts.frames acts.primitives;
        style = h.takes.puts.style;
        text =
            reads_as a.around.printed b.around.printed _ _
            (ap (λ (text : List ℕ). frame_text_line a.around.style (other_side side) h.frame ++
            text) (acts_read a.around.style side acts.frames acts.primitives))
            h.takes.puts.printed;
        delivered =
            d.puts.delivered
            ∙ ap (λ (primitives : List Primitive). v.delivered ++ primitives)
            (sym (acts_are side acts.frames acts.primitives));
      }

  read_prints : (a b : AtWork) (v : SideView S) (frame : List ℕ) (frames : List (List ℕ))
      → v.incoming ≡ frame ∷ frames → IsAt Shown a v → LineDoes Read a b → PrintsTaken w a b v
  read_prints a b v frame frames are at (inl h) = took_prints a b v at h
  read_prints a b v frame frames are at (inr h) =
      let rest : a.around.rest ≡ Some (socket_text (frame ∷ frames)) =
      at.rest ∙ ap (λ (line : List (List ℕ)). Some (socket_text line)) are in
      let ended : next_frame (socket_text (frame ∷ frames)) ≡ Err End =
      subst (λ (o : Option (List ℕ)). Shows o (Err End)) rest h.ended in
      absurd (never_ends (length frame / 256 * 256 + length frame % 256)
      (frame ++ socket_text frames) ended)

-- ---- The views of both sides.

abbrev m0 : SideView Network
m0 = record {
  now = new_network configs.network (64 ∷ []);
  delivered = [];
  given = [];
  incoming = user_ua ∷ [];
  outgoing = [];
}

abbrev m1 : SideView Network
m1 = does net (Take 0) m0

abbrev m2 : SideView Network
m2 = does net (Ask (request.Establish call) 0) m1

abbrev k0 : SideView User
k0 = record {
  now = new_user configs.user (Some 64) (seeded configs.user.seed);
  delivered = [];
  given = [];
  incoming = network_sabme ∷ [];
  outgoing = [];
}

abbrev k1 : SideView User
k1 = does usr (Take 0) k0

record UnorderedLines : Type 0 where
  m1_line : IsLine m1 [] []
  m2_line : IsLine m2 [] (network_sabme ∷ [])
  k1_line : IsLine k1 [] (user_ua ∷ [])
  m1_reports : m1.delivered ≡ Of call (what.Report letter.C) ∷ []

unordered_lines : UnorderedLines
unfolding computed_events
unordered_lines = record {
  m1_line = (refl, refl);
  m2_line = (refl, refl);
  k1_line = (refl, refl);
  m1_reports = refl;
}

-- ---- The runs.

reports_c : (others printed : List Primitive) → Of call (what.Report letter.C) ∷ [] ≡ printed
    → AreExpectedOfLink (link_primitives call (printed ++ others)) → ⊥
reports_c others printed is h = (subst
    (λ (ps : List Primitive). AreExpectedOfLink (link_primitives call (ps ++ others))) (sym is)
    h).0

-- the other program has yet to write, but all is read
read_early : (reader writer end : Devices) (x : ℕ) (xs : List ℕ) → reader.rest ≡ Some []
    → writer.written ≡ Some [] → end.written ≡ Some (x ∷ xs) → ReadsOnlyWritten reader writer end
    → ⊥
read_early reader writer end x xs rest was is r =
    let all : x ∷ xs ≡ r.later =
    subst (λ (o : Option (List ℕ)). Appends (Some []) o r.later) is
    (subst (λ (o : Option (List ℕ)). Appends o end.written r.later) was r.yet_to_write) in
    none r.left (same_list (r.left ++ r.later) (sym r.rest ∙ rest)) all
  where
    same_list : (left : List ℕ) → Some left ≡ Some [] → left ≡ []
    same_list left h = cc

    none : (left : List ℕ) → left ++ r.later ≡ [] → x ∷ xs ≡ r.later → ⊥
    none [] h all = cc
    none (y ∷ ys) h all = cc

no_order : (nb na ub ua_ : Devices)
    (network : NetHasServed configs.network (64 ∷ []) early_script nb na)
    (user : UserHasServed configs.user (Some 64) answering_script ub ua_)
    → network.served.did.0.around.rest ≡ Some [] → user.served.did.0.around.rest ≡ Some []
    → nb.written ≡ Some [] → ub.written ≡ Some []
    → na.written ≡ Some (socket_text (network_sabme ∷ []))
    → ua_.written ≡ Some (socket_text (user_ua ∷ []))
    → (order : List Side)
    → AreServedInOrder order (either.Network network.began) (either.User user.began)
    early_script answering_script nb na ub ua_ network.served user.served → ⊥
no_order nb na ub ua_ network user read_n read_u none_n none_u all_n all_u [] h = h
no_order nb na ub ua_ network user read_n read_u none_n none_u all_n all_u (side.Network ∷ order)
    h =
    read_early network.served.did.0.around ub ua_ 0 _ read_n none_u all_u h.0
no_order nb na ub ua_ network user read_n read_u none_n none_u all_n all_u (side.User ∷ order) h =
    read_early user.served.did.0.around nb na 0 _ read_u none_n all_n h.0

pub wrong_runs : (nb na ub ua_ : Devices)
    (network : NetHasServed configs.network (64 ∷ []) early_script nb na)
    (user : UserHasServed configs.user (Some 64) answering_script ub ua_)
    → AreOverUnorderedOctets nb ub → AreWrong nb na ub ua_ network user
wrong_runs nb na ub ua_ network user over =
    let a : AtWork = at_work (either.Network network.began) 0 nb in
    let b : AtWork = at_work network.served.ended network.served.moment na in
    let p : AtWork = at_work (either.User user.began) 0 ub in
    let q : AtWork = at_work user.served.ended user.served.moment ua_ in
    let e = network.served.did in
    let d = user.served.did in
    let ShownN : EitherSide → Network → Type 0 = ShowsNetwork configs.network in
    let ShownU : EitherSide → User → Type 0 = ShowsUser configs.user in
    let at0 : IsAt ShownN a m0 =
    record {
      shown = network.new;
      clock = refl;
      rest = over.network_rest;
      written = over.network_written;
    } in
    let at1 = reads net ShownN (network_has configs.network) a e.0 m0 user_ua [] refl at0 e.1 in
    let x =
    asked net ShownN (network_has configs.network) (Establish call) e.0 e.2.0 m1 at1
    e.2.1 in
    let at2 : IsAt ShownN e.2.0 m2 =
    subst (λ (r : Request). IsAt ShownN e.2.0 (does net (Ask r 0) m1))
    (same_establish call x.0 x.1) x.2 in
    let n : HasFrames b [] (network_sabme ∷ []) =
    still_frames e.2.0 b [] (network_sabme ∷ []) e.2.2
    (frames_at ShownN e.2.0 m2 [] (network_sabme ∷ []) unordered_lines.m2_line at2) in
    let at3 : IsAt ShownU p k0 =
    record {
      shown = user.new;
      clock = refl;
      rest = over.user_rest;
      written = over.user_written;
    } in
    let at4 = reads usr ShownU (user_has configs.user) p d.0 k0 network_sabme [] refl at3 d.1 in
    let u : HasFrames q [] (user_ua ∷ []) =
    still_frames d.0 q [] (user_ua ∷ []) d.2
    (frames_at ShownU d.0 k1 [] (user_ua ∷ []) unordered_lines.k1_line at4) in
    let first =
    read_prints net ShownN (network_has configs.network) a e.0 m0 user_ua [] refl at0 e.1 in
    let second = network_prints configs.network (Establish call) e.0 e.2.0 e.2.1 in
    let more : Appends e.0.around.printed b.around.printed
    (lines_text a.around.style second.printed ++ []) =
    subst (λ (style : LineStyle). Appends e.0.around.printed b.around.printed
    (lines_text style second.printed ++ [])) first.style
    (subst (λ (at : AtWork). Appends e.0.around.printed at.around.printed
    (lines_text e.0.around.style second.printed ++ [])) (sym e.2.2)
    (reads_as e.0.around.printed e.2.0.around.printed _ _ (append-nil _) second.text)) in
    record {
      joined = record {
        to_user = record {
          octets = socket_text (network_sabme ∷ []);
          known = is_known nb.written [] over.network_written;
          wrote =
              appends_so nb.written na.written [] (socket_text (network_sabme ∷ []))
              (socket_text (network_sabme ∷ [])) over.network_written n.written refl;
          source = over.user_rest;
        };
        to_network = record {
          octets = socket_text (user_ua ∷ []);
          known = is_known ub.written [] over.user_written;
          wrote =
              appends_so ub.written ua_.written [] (socket_text (user_ua ∷ []))
              (socket_text (user_ua ∷ [])) over.user_written u.written refl;
          source = over.network_rest;
        };
      };
      unordered =
          no_order nb na ub ua_ network user
          (frames_at ShownN e.0 m1 [] [] unordered_lines.m1_line at1).rest
          (frames_at ShownU d.0 k1 [] (user_ua ∷ []) unordered_lines.k1_line at4).rest
          over.network_written over.user_written n.written u.written;
      wrong = record {
        transcript = record { line_request = Read; printed = first.printed }
            ∷ record { line_request = Establish call; printed = second.printed } ∷ [];
        printed = record {
          lines = refl;
          text =
              Appends-trans nb.printed e.0.around.printed na.printed
              (lines_text nb.style first.printed) (lines_text nb.style second.printed ++ [])
              first.text more;
        };
        wrong =
            reports_c (primitives_in second.printed ++ []) (primitives_in first.printed)
            (sym unordered_lines.m1_reports ∙ first.delivered);
      };
    }
