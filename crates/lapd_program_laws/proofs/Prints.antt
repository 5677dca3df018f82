-- The lines that a line of `net` or `user` prints show its events.
use Rattle.std.proofs.Common.{◌≡◌, ℕ, ◌+◌, List, [], ◌∷◌, ◌++◌, false, map, Option, Result, Ok, Err, inl, inr, refl, sym, ap, subst, ◌∙◌, append_assoc}
use Rattle.std.specs.Prelude.{⊤}
use Rattle.std.specs.Io.KnownBytes.{Appends}
use Rattle.std.proofs.lemmas.Grind.{flat_map-append}
use Rattle.std.proofs.lemmas.List.{append-nil}
use Rattle.lapd_frame.specs.declared.Side.{Side}
use Rattle.lapd_frame.specs.Address.{other_side}
use Rattle.lapd_table.specs.declared.link_id.LinkId.{LinkId}
use Rattle.lapd_sides_links.specs.declared.config.Config.{Config}
use Rattle.lapd_sides_links.specs.declared.primitive.Primitive.{Primitive}
use Rattle.lapd_sides_links.specs.declared.running_timer.RunningTimer.{RunningTimer}
use Rattle.lapd_sides_links.specs.declared.side_fault.SideFault.{SideFault}
use Rattle.lapd_sides_links.specs.declared.side_fault.SideKind.{SideKind}
use Rattle.lapd_sides_links.specs.Effects.{Effects}
use Rattle.lapd_sides_links.specs.Links.{Reaction}
use Rattle.lapd_sides.specs.declared.request.Request.{Request}
use Rattle.lapd_sides.specs.declared.request.Request.TheVariants as request
use Rattle.lapd_sides.specs.declared.either_side.EitherSide.{EitherSide}
use Rattle.lapd_sides.specs.declared.either_side.EitherSide.TheVariants as either
use Rattle.lapd_sides.specs.Either.{side_of, Answers}
use Rattle.lapd_side_events.specs.Interface.{network_behaviour, user_behaviour}
use Rattle.lapd_side_events.specs.SideView.{Behaviour, SideView, SideEvent, Take, Expire, Ask, if_granted, or_unmoved, does}
use Rattle.lapd_cli_side_lines.specs.declared.line_style.LineStyle.{LineStyle}
use Rattle.lapd_cli_side_lines.specs.Calls.{ExpireInOrder, frames_given, primitives_given}
use Rattle.lapd_cli_side_lines.specs.LineRequests.{LineRequest, Read, Tick, Establish, Release, Give, Unit, Busy, AskTei, Check, Remove, CheckAll, RemoveAll, line_request_of}
use Rattle.lapd_cli_side_lines.specs.SideTexts.{acts_text, answer_text, frame_text_line, frames_text, primitive_line, primitives_text, refusal_line}
use Rattle.lapd_cli_side_commands.specs.Served.{AtWork, Asks, FindsNone, Ticks, LineDoes, TakesNext}
use Rattle.lapd_program_laws.specs.SideEvents.{AreFor, ShowsNetwork, ShowsUser, does_all}
use Rattle.lapd_program_laws.specs.Printed.{IsPrinted}
use Rattle.lapd_program_laws.specs.Transcripts.{PrintedLine, Frame, Delivered, Refusal, InputEnd, is_refused, lines_text, line_text, primitives_in, submitted_in}
use Rattle.lapd_program_laws.proofs.Lines.{HasEvents, IsOneRequest, all_expire, asks_one, expiry_leaves, finds_none, network_has, takes_next, ticks, user_has}

-- ---- The lines of a call's output.

abbrev pub acts_lines : Side → List (List ℕ) → List Primitive → List PrintedLine
acts_lines side frames primitives = map (Frame side) frames ++ map Delivered primitives

frames_read : (style : LineStyle) (side : Side) (frames : List (List ℕ))
    → lines_text style (map (Frame side) frames) ≡ frames_text style side frames
frames_read style side [] = refl
frames_read style side (frame ∷ frames) =
    ap (λ (text : List ℕ). frame_text_line style side frame ++ text) (frames_read style side frames)

primitives_read : (style : LineStyle) (primitives : List Primitive)
    → lines_text style (map Delivered primitives) ≡ primitives_text style primitives
primitives_read style [] = refl
primitives_read style (primitive ∷ primitives) =
    ap (λ (text : List ℕ). primitive_line style primitive ++ text)
    (primitives_read style primitives)

pub acts_read : (style : LineStyle) (side : Side) (frames : List (List ℕ))
    (primitives : List Primitive)
    → lines_text style (acts_lines side frames primitives) ≡ acts_text style side frames primitives
acts_read style side frames primitives =
    flat_map-append (line_text style) (map (Frame side) frames) (map Delivered primitives)
    ∙ ap (λ (text : List ℕ). text ++ lines_text style (map Delivered primitives))
    (frames_read style side frames)
    ∙ ap (λ (text : List ℕ). frames_text style side frames ++ text)
    (primitives_read style primitives)

primitives_are : (primitives : List Primitive)
    → primitives_in (map Delivered primitives) ≡ primitives
primitives_are [] = refl
primitives_are (primitive ∷ primitives) =
    ap (λ (others : List Primitive). primitive ∷ others) (primitives_are primitives)

pub acts_are : (side : Side) (frames : List (List ℕ)) (primitives : List Primitive)
    → primitives_in (acts_lines side frames primitives) ≡ primitives
acts_are side [] primitives = primitives_are primitives
acts_are side (frame ∷ frames) primitives = acts_are side frames primitives

acts_refuse_none : (side : Side) (frames : List (List ℕ)) (primitives : List Primitive)
    → is_refused (acts_lines side frames primitives) ≡ false
acts_refuse_none side [] [] = refl
acts_refuse_none side [] (primitive ∷ primitives) = refl
acts_refuse_none side (frame ∷ frames) primitives = refl

abbrev answer_lines : Side → Result ⊤ SideFault → Effects → List PrintedLine
answer_lines side (Ok done) acts = acts_lines side acts.frames acts.primitives
answer_lines side (Err fault) acts = Refusal fault.kind ∷ []

answer_read : (style : LineStyle) (side : Side) (result : Result ⊤ SideFault) (acts : Effects)
    → lines_text style (answer_lines side result acts) ≡ answer_text style side result acts
answer_read style side (Ok done) acts = acts_read style side acts.frames acts.primitives
answer_read style side (Err fault) acts = append-nil (refusal_line style fault.kind)

pub reads_as : (old new : Option (List ℕ)) (one two : List ℕ) → one ≡ two → Appends old new two
    → Appends old new one
reads_as old new one two same appends = subst (Appends old new) (sym same) appends

-- ---- A request.

-- the result of a call is that of the definition
abbrev IsAnsweredAs : {S : Type 0} → Result ⊤ SideFault → Result (Reaction S) SideKind → Type 0
IsAnsweredAs {S} (Ok done) outcome = (a : Reaction S) × (outcome ≡ Ok a)
IsAnsweredAs (Err fault) outcome = outcome ≡ Err fault.kind

abbrev HasAnswers : {S : Type 0} → Behaviour S → (EitherSide → S → Type 0) → Type 0
HasAnswers {S} w Shows =
    (request : Request) (now : ℕ) (result : Result ⊤ SideFault) (old new : EitherSide)
    (acts : Effects) → Answers request now result old new acts
    → (s : S) → Shows old s → IsAnsweredAs result (w.requested request now s)

network_answers : (config : Config) → HasAnswers (network_behaviour config) (ShowsNetwork config)
network_answers config request now (Ok done) (either.Network old) (either.Network new) acts h s
    shown =
    let x = h config s shown in (x.acted, x.is)
network_answers config request now (Err fault) (either.Network old) (either.Network new) acts h s
    shown =
    h.kind config s shown
network_answers config request now (Ok done) (either.User old) new acts h s shown = absurd shown
network_answers config request now (Err fault) (either.User old) new acts h s shown = absurd shown
network_answers config request now (Ok done) (either.Network old) (either.User new) acts h s shown =
    absurd h
network_answers config request now (Err fault) (either.Network old) (either.User new) acts h s
    shown = absurd h

user_answers : (config : Config) → HasAnswers (user_behaviour config) (ShowsUser config)
user_answers config request now (Ok done) (either.User old) (either.User new) acts h s shown =
    let x = h config s shown in (x.acted, x.is)
user_answers config request now (Err fault) (either.User old) (either.User new) acts h s shown =
    h.kind config s shown
user_answers config request now (Ok done) (either.Network old) new acts h s shown = absurd shown
user_answers config request now (Err fault) (either.Network old) new acts h s shown = absurd shown
user_answers config request now (Ok done) (either.User old) (either.Network new) acts h s shown =
    absurd h
user_answers config request now (Err fault) (either.User old) (either.Network new) acts h s shown =
    absurd h

-- the primitives of a request are those printed
answer_delivers : {S : Type 0} (w : Behaviour S) (side : Side) (request : Request) (now : ℕ)
    (result : Result ⊤ SideFault) (acts : Effects) (v : SideView S)
    → IsAnsweredAs result (w.requested request now v.now)
    → (does w (Ask request now) v).delivered ≡ v.delivered ++ acts.primitives
    → (does w (Ask request now) v).delivered ≡ v.delivered
    ++ primitives_in (answer_lines side result acts)
unfolding does
answer_delivers w side request now (Ok done) acts v as_ delivered =
    delivered
    ∙ ap (λ (primitives : List Primitive). v.delivered ++ primitives)
    (sym (acts_are side acts.frames acts.primitives))
answer_delivers {S} w side request now (Err fault) acts v as_ delivered =
    ap
    (λ (r : Result (Reaction S) SideKind). v.delivered ++ (or_unmoved v.now r).effects.primitives)
    as_

granted_message : {S : Type 0} (link : LinkId → LinkId) (id : LinkId) (message : List ℕ)
    (side : Side) (result : Result ⊤ SideFault) (acts : Effects)
    (outcome : Result (Reaction S) SideKind) → IsAnsweredAs result outcome
    → if_granted (link id) message outcome
    ≡ submitted_in link (Give id message) (is_refused (answer_lines side result acts))
granted_message link id message side (Ok done) acts outcome as_ =
    ap (if_granted (link id) message) as_.1
    ∙ ap (submitted_in link (Give id message))
    (sym (acts_refuse_none side acts.frames acts.primitives))
granted_message link id message side (Err fault) acts outcome as_ =
    ap (if_granted (link id) message) as_

answer_gives : {S : Type 0} (w : Behaviour S) (side : Side) (request : Request) (now : ℕ)
    (result : Result ⊤ SideFault) (acts : Effects) (v : SideView S)
    → IsAnsweredAs result (w.requested request now v.now)
    → (does w (Ask request now) v).given ≡ v.given
    ++ submitted_in (w.means v.now) (line_request_of request)
    (is_refused (answer_lines side result acts))
unfolding does
answer_gives w side (request.Give id message) now result acts v as_ =
    ap (λ (more : List (LinkId × List ℕ)). v.given ++ more)
    (granted_message (w.means v.now) id message.items side result acts
    (w.requested (request.Give id message) now v.now) as_)
answer_gives w side (request.Establish id) now result acts v as_ = refl
answer_gives w side (request.Release id) now result acts v as_ = refl
answer_gives w side (request.Unit id octets) now result acts v as_ = refl
answer_gives w side (request.Busy id on) now result acts v as_ = refl
answer_gives w side request.AskTei now result acts v as_ = refl
answer_gives w side (request.Check tei) now result acts v as_ = refl
answer_gives w side (request.Remove tei) now result acts v as_ = refl
answer_gives w side request.CheckAll now result acts v as_ = refl
answer_gives w side request.RemoveAll now result acts v as_ = refl

asked_prints : {S : Type 0} (w : Behaviour S) (Shows : EitherSide → S → Type 0) → HasEvents w Shows
    → HasAnswers w Shows → (line_request : LineRequest) (a b : AtWork) → Asks line_request a b
    → IsPrinted w Shows (IsOneRequest line_request a.now) line_request a b
unfolding asks_one
asked_prints {S} w Shows has answers line_request a b h =
    let side : Side = side_of a.side in
    let printed : List PrintedLine = answer_lines side h.result h.acts in record {
      by_events = asks_one w Shows has line_request a b h;
      printed = printed;
      style = h.puts.style;
      text =
          reads_as a.around.printed b.around.printed _ _
          (answer_read a.around.style side h.result h.acts) h.puts.printed;
      reported = λ v left shown are.
          let d = has.asks h.request a.now h.result a.side b.side h.acts h.answers v shown in
          let as_ = answers h.request a.now h.result a.side b.side h.acts h.answers v.now shown in
          record {
            delivered =
                answer_delivers w side h.request a.now h.result h.acts v as_ d.puts.delivered;
            given =
                subst (λ (r : LineRequest). (does_all w (Ask h.request a.now ∷ []) v).given ≡
                v.given ++ submitted_in (w.means v.now) r (is_refused printed)) h.is
                (answer_gives w side h.request a.now h.result h.acts v as_);
          };
    }

-- ---- The other lines.

take_gives : {S : Type 0} (w : Behaviour S) (now : ℕ) (v : SideView S)
    → (does w (Take now) v).given ≡ v.given ++ []
unfolding does
take_gives w now v = refl

take_prints : {S : Type 0} (w : Behaviour S) (Shows : EitherSide → S → Type 0) → HasEvents w Shows
    → (a b : AtWork) → TakesNext a b → IsPrinted w Shows (AreFor Read a.now) Read a b
unfolding takes_next
take_prints {S} w Shows has a b h =
    let side : Side = side_of a.side in
    let acts : Effects = h.takes.acts in record {
      by_events = takes_next w Shows has a b h;
      printed = Frame (other_side side) h.frame ∷ acts_lines side acts.frames acts.primitives;
      style = h.takes.puts.style;
      text =
          reads_as a.around.printed b.around.printed _ _
          (ap (λ (text : List ℕ). frame_text_line a.around.style (other_side side) h.frame ++ text)
          (acts_read a.around.style side acts.frames acts.primitives)) h.takes.puts.printed;
      reported = λ v left shown are.
          let d = has.takes h.frame a.now a.side b.side acts h.takes.takes v left shown are in
          record {
            delivered =
                d.puts.delivered
                ∙ ap (λ (primitives : List Primitive). v.delivered ++ primitives)
                (sym (acts_are side acts.frames acts.primitives));
            given = take_gives w a.now v;
          };
    }

end_prints : {S : Type 0} (w : Behaviour S) (Shows : EitherSide → S → Type 0) → HasEvents w Shows
    → (a b : AtWork) → FindsNone a b → IsPrinted w Shows (AreFor Read a.now) Read a b
unfolding finds_none
end_prints w Shows has a b h = record {
  by_events = finds_none w Shows has a b h;
  printed = InputEnd ∷ [];
  style = h.puts.style;
  text =
      reads_as a.around.printed b.around.printed _ _
      (append-nil (line_text a.around.style InputEnd)) h.puts.printed;
  reported =
      λ v left shown are.
      record { delivered = sym (append-nil v.delivered); given = sym (append-nil v.given) };
}

expiry_gives : {S : Type 0} (w : Behaviour S) (e : RunningTimer) (now : ℕ) (v : SideView S)
    → (does w (Expire e.timer e.of now) v).given ≡ v.given
unfolding does
expiry_gives w e now v = append-nil v.given

record AllTold {S : Type 0} (w : Behaviour S) (calls : List Effects) (events : List SideEvent)
    (v : SideView S) : Type 0 where
  delivered : (does_all w events v).delivered ≡ v.delivered ++ primitives_given calls
  given : (does_all w events v).given ≡ v.given

all_told : {S : Type 0} (w : Behaviour S) (Shows : EitherSide → S → Type 0)
    (has : HasEvents w Shows) (now : ℕ) (calls : List Effects) (old new : EitherSide)
    (h : ExpireInOrder now calls old new)
    → (v : SideView S) (left : List (List ℕ)) (shown : Shows old v.now) (are : v.incoming ≡ left)
    → AllTold w calls (all_expire w Shows has now calls old new h v left shown are).0 v
unfolding all_expire
all_told w Shows has now [] old new h v left shown are =
    record { delivered = sym (append-nil v.delivered); given = refl }
all_told {S} w Shows has now (acts ∷ calls) old new h v left shown are =
    let x = has.expires now old h.0 acts h.1 v shown in
    let e : RunningTimer = x.0 in
    let u : SideView S = does w (Expire e.timer e.of now) v in
    let more =
    all_told w Shows has now calls h.0 new h.2 u left x.1.is_so
    (expiry_leaves w e.timer e.of now v ∙ are) in
    record {
      delivered =
          more.delivered
          ∙ ap (λ (primitives : List Primitive). primitives ++ primitives_given calls)
          x.1.puts.delivered
          ∙ append_assoc v.delivered acts.primitives (primitives_given calls);
      given = more.given ∙ expiry_gives w e now v;
    }

tick_prints : {S : Type 0} (w : Behaviour S) (Shows : EitherSide → S → Type 0) → HasEvents w Shows
    → (ms : ℕ) (a b : AtWork) → Ticks ms a b
    → IsPrinted w Shows (AreFor (Tick ms) a.now) (Tick ms) a b
unfolding ticks
tick_prints w Shows has ms a b h =
    let side : Side = side_of a.side in
    let calls : List Effects = h.due.calls in record {
      by_events = ticks w Shows has ms a b h;
      printed = acts_lines side (frames_given calls) (primitives_given calls);
      style = h.due.puts.style;
      text =
          reads_as a.around.printed b.around.printed _ _
          (acts_read a.around.style side (frames_given calls) (primitives_given calls))
          h.due.puts.printed;
      reported = λ v left shown are.
          let all =
          all_told w Shows has (a.now + ms) calls a.side b.side h.due.in_order v left shown
          are in
          record {
            delivered =
                all.delivered
                ∙ ap (λ (primitives : List Primitive). v.delivered ++ primitives)
                (sym (acts_are side (frames_given calls) (primitives_given calls)));
            given = all.given ∙ sym (append-nil v.given);
          };
    }

line_prints : {S : Type 0} (w : Behaviour S) (Shows : EitherSide → S → Type 0) → HasEvents w Shows
    → HasAnswers w Shows → (line_request : LineRequest) (a b : AtWork) → LineDoes line_request a b
    → IsPrinted w Shows (AreFor line_request a.now) line_request a b
line_prints w Shows has answers Read a b (inl h) = take_prints w Shows has a b h
line_prints w Shows has answers Read a b (inr h) = end_prints w Shows has a b h
line_prints w Shows has answers (Tick ms) a b h = tick_prints w Shows has ms a b h
line_prints w Shows has answers (Establish id) a b h =
    asked_prints w Shows has answers (Establish id) a b h
line_prints w Shows has answers (Release id) a b h =
    asked_prints w Shows has answers (Release id) a b h
line_prints w Shows has answers (Give id message) a b h =
    asked_prints w Shows has answers (Give id message) a b h
line_prints w Shows has answers (Unit id octets) a b h =
    asked_prints w Shows has answers (Unit id octets) a b h
line_prints w Shows has answers (Busy id on) a b h =
    asked_prints w Shows has answers (Busy id on) a b h
line_prints w Shows has answers AskTei a b h = asked_prints w Shows has answers AskTei a b h
line_prints w Shows has answers (Check tei) a b h =
    asked_prints w Shows has answers (Check tei) a b h
line_prints w Shows has answers (Remove tei) a b h =
    asked_prints w Shows has answers (Remove tei) a b h
line_prints w Shows has answers CheckAll a b h = asked_prints w Shows has answers CheckAll a b h
line_prints w Shows has answers RemoveAll a b h = asked_prints w Shows has answers RemoveAll a b h

pub network_prints : (config : Config) (line_request : LineRequest) (a b : AtWork)
    → LineDoes line_request a b
    → IsPrinted (network_behaviour config) (ShowsNetwork config) (AreFor line_request a.now)
    line_request a b
network_prints config =
    line_prints (network_behaviour config) (ShowsNetwork config) (network_has config)
    (network_answers config)

pub user_prints : (config : Config) (line_request : LineRequest) (a b : AtWork)
    → LineDoes line_request a b
    → IsPrinted (user_behaviour config) (ShowsUser config) (AreFor line_request a.now) line_request
    a b
user_prints config =
    line_prints (user_behaviour config) (ShowsUser config) (user_has config) (user_answers config)
