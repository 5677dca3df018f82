-- Two programs joined by a line print what the sides of their interface deliver and accept.
use Rattle.std.proofs.Common.{◌≡◌, ℕ, List, [], ◌∷◌, ◌++◌, Bool, true, false, map, Option, Some, None, refl, sym, ap, subst, ◌∙◌, append_assoc}
use Rattle.std.specs.Io.KnownBytes.{Appends}
use Rattle.std.proofs.KnownBytes.{Appends-nil, Appends-trans}
use Rattle.std.proofs.lemmas.List.{append-nil}
use Rattle.rand_pcg.specs.Lcg.{Lcg}
use Rattle.lapd_frame.specs.declared.Side.{Side}
use Rattle.lapd_frame.specs.declared.Side.TheVariants as side
use Rattle.lapd_tei.specs.declared.phase.Phase.{Phase}
use Rattle.lapd_tei.specs.declared.phase.Phase.TheVariants.{Unassigned, Awaiting, Assigned}
use Rattle.lapd_tei.specs.Terminal.{tei_of}
use Rattle.lapd_table.specs.declared.link_id.LinkId.{LinkId}
use Rattle.lapd_sides_links.specs.declared.config.Config.{Config}
use Rattle.lapd_sides_links.specs.declared.primitive.Primitive.{Primitive}
use Rattle.lapd_sides.specs.User.{User, new_user}
use Rattle.lapd_side_events.specs.Interface as interface
use Rattle.lapd_side_events.specs.Interface.{Configs, Interface, user_behaviour, by_user, run}
use Rattle.lapd_side_events.specs.SideView.{SideView, SideEvent, does}
use Rattle.lapd_cli_side_commands.specs.Served.{AtWork}
use Rattle.lapd_cli_side_lines.specs.declared.line_style.LineStyle.{LineStyle}
use Rattle.lapd_cli_side_lines.specs.LineRequests.{LineRequest, Read, Tick, Establish, Release, Give, Unit, Busy, AskTei, Check, Remove, CheckAll, RemoveAll}
use Rattle.lapd_program_laws.specs.SideEvents.{does_all, moves_of}
use Rattle.lapd_program_laws.specs.Joined.{AreAt, AreRun, ProgramLine, Programs, ProgramsDo, requests_of_side}
use Rattle.lapd_program_laws.specs.Transcripts.{ExecutedLine, PrintedLine, is_refused, lines_text, named_link, own_link, own_tei, primitives_in, primitives_of, submitted_after, submitted_in, transcript_text, with_own_tei}
use Rattle.lapd_program_laws.proofs.Joins.{IsStepped, line_runs, no_line_runs, program_of, run_of_both, steps_together}
use Rattle.lapd_program_laws.proofs.Lines.{network_moves, user_moves}
use Rattle.lapd_program_laws.proofs.OwnTei.{KnowsTei, event_tells}

-- ---- The user side's own TEI.

events_tell : (config : Config) (fixed : Option ℕ) (events : List SideEvent) (v : SideView User)
    → KnowsTei fixed v → KnowsTei fixed (does_all (user_behaviour config) events v)
events_tell config fixed [] v known = known
events_tell config fixed (event ∷ events) v known =
    events_tell config fixed events (does (user_behaviour config) event v)
    (event_tells config fixed v event known)

moves_tell : (c : Configs) (fixed : Option ℕ) (s : Side) (events : List SideEvent) (i : Interface)
    → KnowsTei fixed (by_user i) → KnowsTei fixed (by_user (run c (moves_of s events) i))
moves_tell c fixed side.Network events i known =
    subst (λ (j : Interface). KnowsTei fixed (by_user j)) (sym (network_moves c events i)) known
moves_tell c fixed side.User events i known =
    subst (λ (j : Interface). KnowsTei fixed (by_user j)) (sym (user_moves c events i))
    (events_tell c.user fixed events (by_user i) known)

pub new_knows : (config : Config) (fixed : Option ℕ) (random : Lcg)
    → tei_of (new_user config fixed random).management.terminal ≡ own_tei fixed []
new_knows config None random = refl
new_knows config (Some tei) random = refl

means_own : (phase : Phase) (id : LinkId)
    → interface.own_link phase id ≡ with_own_tei (tei_of phase) id
means_own Unassigned id = refl
means_own (Awaiting purpose count ri) id = refl
means_own (Assigned by tei) id = refl

same_submitted : (f g : LinkId → LinkId) (line_request : LineRequest) (refused : Bool)
    → ((id : LinkId) → f id ≡ g id)
    → submitted_in f line_request refused ≡ submitted_in g line_request refused
same_submitted f g (Give id message) false same =
    ap (λ (link : LinkId). (link, message) ∷ []) (same id)
same_submitted f g (Give id message) true same = refl
same_submitted f g Read refused same = refl
same_submitted f g (Tick ms) refused same = refl
same_submitted f g (Establish id) refused same = refl
same_submitted f g (Release id) refused same = refl
same_submitted f g (Unit id octets) refused same = refl
same_submitted f g (Busy id on) refused same = refl
same_submitted f g AskTei refused same = refl
same_submitted f g (Check tei) refused same = refl
same_submitted f g (Remove tei) refused same = refl
same_submitted f g CheckAll refused same = refl
same_submitted f g RemoveAll refused same = refl

user_submits : (fixed : Option ℕ) (i : Interface) (line_request : LineRequest) (refused : Bool)
    → KnowsTei fixed (by_user i)
    → submitted_in (interface.own_link i.user.management.terminal) line_request refused
    ≡ submitted_in (own_link fixed i.delivered_to_user) line_request refused
user_submits fixed i line_request refused known =
    same_submitted (interface.own_link i.user.management.terminal)
    (own_link fixed i.delivered_to_user) line_request refused
    (λ id. means_own i.user.management.terminal id ∙ ap (λ (own : Option ℕ). with_own_tei own id)
    known)

-- ---- Transcripts of both programs.

-- from one interface to another, the transcripts contain what the sides delivered and accepted
pub record Tell (fixed : Option ℕ) (network user : List ExecutedLine) (i j : Interface) : Type
    0 where
  pub delivered_to_network : j.delivered_to_network ≡ i.delivered_to_network
      ++ primitives_of network
  pub delivered_to_user : j.delivered_to_user ≡ i.delivered_to_user ++ primitives_of user
  pub given_to_network : j.given_to_network ≡ i.given_to_network
      ++ submitted_after named_link i.delivered_to_network network
  pub given_to_user : j.given_to_user ≡ i.given_to_user
      ++ submitted_after (own_link fixed) i.delivered_to_user user

pub record IsOfProgram (s : Side) (lines : List ProgramLine) (a b : Programs)
    (transcript : List ExecutedLine) : Type 0 where
  pub lines_are : map (λ executed. executed.line_request) transcript ≡ requests_of_side s lines
  pub text : Appends (program_of s a).around.printed (program_of s b).around.printed
      (transcript_text (program_of s a).around.style transcript)

pub record AreTranscribed (c : Configs) (fixed : Option ℕ) (lines : List ProgramLine)
    (a b : Programs) (i : Interface) : Type 0 where
  pub runs : AreRun c lines a b i
  pub network : List ExecutedLine
  pub user : List ExecutedLine
  pub of_network : IsOfProgram side.Network lines a b network
  pub of_user : IsOfProgram side.User lines a b user
  pub reported : Tell fixed network user i (run c runs.moves i)

-- a list grows by one part, and then by another
grows_twice : {X : Type 0} (i mid j more others : List X) → mid ≡ i ++ more → j ≡ mid ++ others
    → j ≡ i ++ (more ++ others)
grows_twice i mid j more others first second =
    second ∙ ap (λ (xs : List _). xs ++ others) first ∙ append_assoc i more others

-- the program whose line it was; and the other one
one_more_line : (line_request : LineRequest) (printed : List PrintedLine)
    (transcript : List ExecutedLine) (a mid b : AtWork)
    → Appends a.around.printed mid.around.printed (lines_text a.around.style printed)
    → mid.around.style ≡ a.around.style
    → Appends mid.around.printed b.around.printed (transcript_text mid.around.style transcript)
    → Appends a.around.printed b.around.printed
    (transcript_text a.around.style
    (record { line_request = line_request; printed = printed } ∷ transcript))
one_more_line line_request printed transcript a mid b first style more =
    Appends-trans a.around.printed mid.around.printed b.around.printed
    (lines_text a.around.style printed) (transcript_text a.around.style transcript) first
    (subst (λ (st : LineStyle). Appends mid.around.printed b.around.printed
    (transcript_text st transcript)) style more)

unchanged : (a mid b : AtWork) (transcript : List ExecutedLine) → mid ≡ a
    → Appends mid.around.printed b.around.printed (transcript_text mid.around.style transcript)
    → Appends a.around.printed b.around.printed (transcript_text a.around.style transcript)
unchanged a mid b transcript same text =
    subst (λ (p : AtWork). Appends p.around.printed b.around.printed
    (transcript_text p.around.style transcript)) same text

adds : (c : Configs) (fixed : Option ℕ) (s : Side) (line_request : LineRequest)
    (lines : List ProgramLine) (a mid b : Programs) (i : Interface)
    (t : IsStepped c s line_request a mid i)
    → KnowsTei fixed (by_user i)
    → AreTranscribed c fixed lines mid b (run c (moves_of s t.events) i)
    → AreTranscribed c fixed (record { side = s; line_request = line_request } ∷ lines) a b i
unfolding line_runs
adds c fixed side.Network line_request lines a mid b i t known more =
    let m : Interface = run c (moves_of side.Network t.events) i in
    let runs : AreRun c (record { side = side.Network; line_request = line_request } ∷ lines) a b
    i =
    line_runs c (record { side = side.Network; line_request = line_request }) lines a mid b
    i t more.runs in
    let e : ExecutedLine = record { line_request = line_request; printed = t.printed } in record {
      runs = runs;
      network = e ∷ more.network;
      user = more.user;
      of_network = record {
        lines_are = ap (λ (rs : List LineRequest). line_request ∷ rs) more.of_network.lines_are;
        text =
            one_more_line line_request t.printed more.network a.network.at mid.network.at
            b.network.at t.text t.style more.of_network.text;
      };
      of_user = record {
        lines_are = more.of_user.lines_are;
        text = unchanged a.user.at mid.user.at b.user.at more.user t.other more.of_user.text;
      };
      reported =
          subst (Tell fixed (e ∷ more.network) more.user i)
          (sym (run_of_both c (moves_of side.Network t.events) more.runs.moves i)) (record {
            delivered_to_network =
                grows_twice i.delivered_to_network m.delivered_to_network _ (primitives_in t.printed)
                (primitives_of more.network) t.reported.delivered more.reported.delivered_to_network;
            delivered_to_user =
                more.reported.delivered_to_user
                ∙ ap (λ (ps : List Primitive). ps ++ primitives_of more.user)
                t.reported.others_delivered;
            given_to_network =
                grows_twice i.given_to_network m.given_to_network _
                (submitted_in (named_link i.delivered_to_network) line_request (is_refused t.printed))
                (submitted_after named_link (i.delivered_to_network ++ primitives_in t.printed)
                more.network) t.reported.given
                (more.reported.given_to_network
                ∙ ap (λ (ps : List Primitive). m.given_to_network ++ submitted_after named_link
                ps more.network) t.reported.delivered);
            given_to_user =
                more.reported.given_to_user
                ∙ ap (λ (gs : List (LinkId × List ℕ)). gs ++ submitted_after (own_link fixed)
                m.delivered_to_user more.user) t.reported.others_given
                ∙ ap (λ (ps : List Primitive). i.given_to_user ++ submitted_after (own_link fixed) ps
                more.user) t.reported.others_delivered;
          });
    }
adds c fixed side.User line_request lines a mid b i t known more =
    let m : Interface = run c (moves_of side.User t.events) i in
    let runs : AreRun c (record { side = side.User; line_request = line_request } ∷ lines) a b i =
    line_runs c (record { side = side.User; line_request = line_request }) lines a mid b i t
    more.runs in
    let e : ExecutedLine = record { line_request = line_request; printed = t.printed } in record {
      runs = runs;
      network = more.network;
      user = e ∷ more.user;
      of_network = record {
        lines_are = more.of_network.lines_are;
        text =
            unchanged a.network.at mid.network.at b.network.at more.network t.other
            more.of_network.text;
      };
      of_user = record {
        lines_are = ap (λ (rs : List LineRequest). line_request ∷ rs) more.of_user.lines_are;
        text =
            one_more_line line_request t.printed more.user a.user.at mid.user.at b.user.at t.text
            t.style more.of_user.text;
      };
      reported =
          subst (Tell fixed more.network (e ∷ more.user) i)
          (sym (run_of_both c (moves_of side.User t.events) more.runs.moves i)) (record {
            delivered_to_user =
                grows_twice i.delivered_to_user m.delivered_to_user _ (primitives_in t.printed)
                (primitives_of more.user) t.reported.delivered more.reported.delivered_to_user;
            delivered_to_network =
                more.reported.delivered_to_network
                ∙ ap (λ (ps : List Primitive). ps ++ primitives_of more.network)
                t.reported.others_delivered;
            given_to_user =
                grows_twice i.given_to_user m.given_to_user _
                (submitted_in (own_link fixed i.delivered_to_user) line_request (is_refused t.printed))
                (submitted_after (own_link fixed) (i.delivered_to_user ++ primitives_in t.printed)
                more.user)
                (t.reported.given
                ∙ ap (λ (gs : List (LinkId × List ℕ)). i.given_to_user ++ gs)
                (user_submits fixed i line_request (is_refused t.printed) known))
                (more.reported.given_to_user
                ∙ ap (λ (ps : List Primitive). m.given_to_user ++ submitted_after
                (own_link fixed) ps more.user) t.reported.delivered);
            given_to_network =
                more.reported.given_to_network
                ∙ ap (λ (gs : List (LinkId × List ℕ)). gs ++ submitted_after named_link
                m.delivered_to_network more.network) t.reported.others_given
                ∙ ap (λ (ps : List Primitive). i.given_to_network ++ submitted_after named_link ps
                more.network) t.reported.others_delivered;
          });
    }

appends_none : (s : Side) (a b : Programs) → b ≡ a
    → Appends (program_of s a).around.printed (program_of s b).around.printed []
appends_none s a b same =
    subst
    (λ (p : Programs). Appends (program_of s a).around.printed (program_of s p).around.printed [])
    (sym same) (Appends-nil (program_of s a).around.printed)

pub transcribed : (c : Configs) (fixed : Option ℕ) (lines : List ProgramLine) (a b : Programs)
    (i : Interface) → AreAt c a i → KnowsTei fixed (by_user i) → ProgramsDo lines a b
    → AreTranscribed c fixed lines a b i
unfolding no_line_runs
transcribed c fixed [] a b i at known same = record {
  runs = no_line_runs c a b i at same;
  network = [];
  user = [];
  of_network = record { lines_are = refl; text = appends_none side.Network a b same };
  of_user = record { lines_are = refl; text = appends_none side.User a b same };
  reported = record {
    delivered_to_network = sym (append-nil i.delivered_to_network);
    delivered_to_user = sym (append-nil i.delivered_to_user);
    given_to_network = sym (append-nil i.given_to_network);
    given_to_user = sym (append-nil i.given_to_user);
  };
}
transcribed c fixed (line ∷ lines) a b i at known h =
    let t = steps_together c line.side line.line_request a h.0 i at h.1 in
    adds c fixed line.side line.line_request lines a h.0 b i t known
    (transcribed c fixed lines h.0 b (run c (moves_of line.side t.events) i) t.are
    (moves_tell c fixed line.side t.events i known) h.2)
