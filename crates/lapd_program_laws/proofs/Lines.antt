-- A line of `net` or `user` is a sequence of side events.
use Rattle.std.proofs.Common.{◌≡◌, ℕ, ◌+◌, List, [], ◌∷◌, ◌++◌, drop, Option, Result, Ok, inl, inr, refl, sym, ap, subst, ◌∙◌, append_assoc}
use Rattle.std.specs.Prelude.{⊤}
use Rattle.std.specs.List.{AllByRecursion}
use Rattle.std.specs.Io.KnownBytes.{Appends, Consumes}
use Rattle.std.proofs.KnownBytes.{Appends-nil, Appends-trans, Consumes-nil, Consumes-trans}
use Rattle.std.proofs.lemmas.List.{append-nil}
use Rattle.lapd_timers.specs.declared.timer.Timer.{Timer}
use Rattle.lapd_frame.specs.declared.Side.TheVariants as side
use Rattle.lapd_port.specs.SocketText.{frame_text, socket_text}
use Rattle.lapd_table.specs.declared.link_id.LinkId.{LinkId}
use Rattle.lapd_sides_links.specs.declared.config.Config.{Config}
use Rattle.lapd_sides_links.specs.declared.running_timer.RunningTimer.{RunningTimer}
use Rattle.lapd_sides_links.specs.declared.side_fault.SideFault.{SideFault}
use Rattle.lapd_sides_links.specs.Effects.{Effects}
use Rattle.lapd_sides.specs.declared.request.Request.{Request}
use Rattle.lapd_sides.specs.declared.either_side.EitherSide.{EitherSide}
use Rattle.lapd_sides.specs.declared.either_side.EitherSide.TheVariants as either
use Rattle.lapd_sides.specs.Either.{Takes, Answers, Expires, StaysIdle}
use Rattle.lapd_sides.specs.Network.{Network, network_rules}
use Rattle.lapd_sides.specs.ShowsNetwork.{ShowNetwork}
use Rattle.lapd_sides.specs.Requests.{message_of}
use Rattle.lapd_sides.specs.ShowsUser.{ShowUser}
use Rattle.lapd_sides.specs.User.{User, user_rules}
use Rattle.lapd_side_events.specs.Calls.{Puts}
use Rattle.lapd_side_events.specs.Interface.{Configs, Interface, network_behaviour, user_behaviour, by_network, by_user, with_network, with_user, run}
use Rattle.lapd_side_events.specs.SideView.{Behaviour, SideView, SideEvent, Take, Expire, Ask, does}
use Rattle.lapd_side_events.proofs.Called.{call_takes, call_ticks, call_requests}
use Rattle.lapd_cli_side_lines.specs.Calls.{ExpireInOrder, frames_given}
use Rattle.lapd_cli_side_commands.specs.Served.{AtWork, Asks, FindsNone, Ticks, LineDoes, LinesDo, TakesNext}
use Rattle.lapd_cli_side_lines.specs.LineRequests.{LineRequest, Read, Tick, Establish, Release, Give, Unit, Busy, AskTei, Check, Remove, CheckAll, RemoveAll, line_request_of}
use Rattle.lapd_program_laws.specs.SideEvents.{AreFor, AreForAll, ArePartedFor, IsByEvents, IsExpiryAt, LeadTo, ShowsNetwork, ShowsUser, does_all, moment_behind, moves_of}

-- ---- A call of a side of either kind is a side event.

-- the code shows the side after the event, and the call's output is what the event sent and
-- reported
pub record Did {S : Type 0} (w : Behaviour S) (IsSo : S → Type 0) (acts : Effects)
    (event : SideEvent) (v : SideView S) : Type 0 where
  pub is_so : IsSo (does w event v).now
  pub puts : Puts w acts event v

-- the calls of a side are events of this behaviour
pub record HasEvents {S : Type 0} (w : Behaviour S) (Shows : EitherSide → S → Type 0) : Type 0 where
  pub takes : (octets : List ℕ) (now : ℕ) (old new : EitherSide) (acts : Effects)
      → Takes octets now (Ok tt) old new acts
      → (v : SideView S) (rest : List (List ℕ)) → Shows old v.now → v.incoming ≡ octets ∷ rest
      → Did w (Shows new) acts (Take now) v
  pub expires : (now : ℕ) (old new : EitherSide) (acts : Effects) → Expires now old new acts
      → (v : SideView S) → Shows old v.now
      → (e : RunningTimer) × Did w (Shows new) acts (Expire e.timer e.of now) v
  pub stays_idle : (now : ℕ) (old new : EitherSide) → StaysIdle now old new → (v : SideView S)
      → Shows old v.now → Shows new v.now
  pub asks : (request : Request) (now : ℕ) (result : Result ⊤ SideFault) (old new : EitherSide)
      (acts : Effects) → Answers request now result old new acts
      → (v : SideView S) → Shows old v.now → Did w (Shows new) acts (Ask request now) v

network_takes : (config : Config) (octets : List ℕ) (now : ℕ) (old new : EitherSide)
    (acts : Effects) → Takes octets now (Ok tt) old new acts
    → (v : SideView Network) (rest : List (List ℕ)) → ShowsNetwork config old v.now
    → v.incoming ≡ octets ∷ rest
    → Did (network_behaviour config) (ShowsNetwork config new) acts (Take now) v
network_takes config octets now (either.Network old) (either.Network new) acts h v rest shown are =
    let d =
    call_takes ShowNetwork network_rules old new acts (Ok tt) octets rest now h config v shown
    are in record { is_so = d.shown; puts = d.puts }
network_takes config octets now (either.User old) new acts h v rest shown are = absurd shown
network_takes config octets now (either.Network old) (either.User new) acts h v rest shown are =
    absurd h

network_expires : (config : Config) (now : ℕ) (old new : EitherSide) (acts : Effects)
    → Expires now old new acts
    → (v : SideView Network) → ShowsNetwork config old v.now
    → (e : RunningTimer)
    × Did (network_behaviour config) (ShowsNetwork config new) acts (Expire e.timer e.of now) v
network_expires config now (either.Network old) (either.Network new) acts h v shown =
    let d = call_ticks ShowNetwork network_rules old new acts now h config v shown in
    (d.0, record { is_so = d.2.shown; puts = d.2.puts })
network_expires config now (either.User old) new acts h v shown = absurd shown
network_expires config now (either.Network old) (either.User new) acts h v shown = absurd h

network_stays_idle : (config : Config) (now : ℕ) (old new : EitherSide) → StaysIdle now old new
    → (v : SideView Network) → ShowsNetwork config old v.now → ShowsNetwork config new v.now
network_stays_idle config now (either.Network old) (either.Network new) h v shown =
    (h config v.now shown).1
network_stays_idle config now (either.User old) new h v shown = absurd shown
network_stays_idle config now (either.Network old) (either.User new) h v shown = absurd h

network_asks : (config : Config) (request : Request) (now : ℕ) (result : Result ⊤ SideFault)
    (old new : EitherSide) (acts : Effects) → Answers request now result old new acts
    → (v : SideView Network) → ShowsNetwork config old v.now
    → Did (network_behaviour config) (ShowsNetwork config new) acts (Ask request now) v
network_asks config request now result (either.Network old) (either.Network new) acts h v shown =
    let d =
    call_requests ShowNetwork network_rules old new acts result (message_of request) request now
    h
    config v shown in record { is_so = d.shown; puts = d.puts }
network_asks config request now result (either.User old) new acts h v shown = absurd shown
network_asks config request now result (either.Network old) (either.User new) acts h v shown =
    absurd h

pub network_has : (config : Config) → HasEvents (network_behaviour config) (ShowsNetwork config)
network_has config = record {
  takes = network_takes config;
  expires = network_expires config;
  stays_idle = network_stays_idle config;
  asks = network_asks config;
}

user_takes : (config : Config) (octets : List ℕ) (now : ℕ) (old new : EitherSide) (acts : Effects)
    → Takes octets now (Ok tt) old new acts
    → (v : SideView User) (rest : List (List ℕ)) → ShowsUser config old v.now
    → v.incoming ≡ octets ∷ rest
    → Did (user_behaviour config) (ShowsUser config new) acts (Take now) v
user_takes config octets now (either.User old) (either.User new) acts h v rest shown are =
    let d = call_takes ShowUser user_rules old new acts (Ok tt) octets rest now h config v shown
    are in record { is_so = d.shown; puts = d.puts }
user_takes config octets now (either.Network old) new acts h v rest shown are = absurd shown
user_takes config octets now (either.User old) (either.Network new) acts h v rest shown are =
    absurd h

user_expires : (config : Config) (now : ℕ) (old new : EitherSide) (acts : Effects)
    → Expires now old new acts
    → (v : SideView User) → ShowsUser config old v.now
    → (e : RunningTimer)
    × Did (user_behaviour config) (ShowsUser config new) acts (Expire e.timer e.of now) v
user_expires config now (either.User old) (either.User new) acts h v shown =
    let d = call_ticks ShowUser user_rules old new acts now h config v shown in
    (d.0, record { is_so = d.2.shown; puts = d.2.puts })
user_expires config now (either.Network old) new acts h v shown = absurd shown
user_expires config now (either.User old) (either.Network new) acts h v shown = absurd h

user_stays_idle : (config : Config) (now : ℕ) (old new : EitherSide) → StaysIdle now old new
    → (v : SideView User) → ShowsUser config old v.now → ShowsUser config new v.now
user_stays_idle config now (either.User old) (either.User new) h v shown = (h config v.now shown).1
user_stays_idle config now (either.Network old) new h v shown = absurd shown
user_stays_idle config now (either.User old) (either.Network new) h v shown = absurd h

user_asks : (config : Config) (request : Request) (now : ℕ) (result : Result ⊤ SideFault)
    (old new : EitherSide) (acts : Effects) → Answers request now result old new acts
    → (v : SideView User) → ShowsUser config old v.now
    → Did (user_behaviour config) (ShowsUser config new) acts (Ask request now) v
user_asks config request now result (either.User old) (either.User new) acts h v shown =
    let d = call_requests ShowUser user_rules old new acts result (message_of request) request now h
    config v shown in record { is_so = d.shown; puts = d.puts }
user_asks config request now result (either.Network old) new acts h v shown = absurd shown
user_asks config request now result (either.User old) (either.Network new) acts h v shown = absurd h

pub user_has : (config : Config) → HasEvents (user_behaviour config) (ShowsUser config)
user_has config = record {
  takes = user_takes config;
  expires = user_expires config;
  stays_idle = user_stays_idle config;
  asks = user_asks config;
}

-- ---- One line.

-- no event, or one
pub none_lead : {S : Type 0} (w : Behaviour S) (IsSo : S → Type 0) (left : List (List ℕ))
    (v : SideView S) → IsSo v.now → v.incoming ≡ left → LeadTo w IsSo left [] [] v
none_lead w IsSo left v is are =
    record { is_so = is; incoming = are; outgoing = sym (append-nil v.outgoing) }

pub take_leads : {S : Type 0} (w : Behaviour S) (IsSo : S → Type 0) (acts : Effects) (now : ℕ)
    (v : SideView S) (octets : List ℕ) (left : List (List ℕ)) → v.incoming ≡ octets ∷ left
    → Did w IsSo acts (Take now) v → LeadTo w IsSo left acts.frames (Take now ∷ []) v
unfolding does
take_leads w IsSo acts now v octets left are d =
    record { is_so = d.is_so; incoming = ap (drop 1) are; outgoing = d.puts.sent }

pub ask_leads : {S : Type 0} (w : Behaviour S) (IsSo : S → Type 0) (acts : Effects)
    (request : Request) (now : ℕ) (v : SideView S) (left : List (List ℕ)) → v.incoming ≡ left
    → Did w IsSo acts (Ask request now) v → LeadTo w IsSo left acts.frames (Ask request now ∷ []) v
unfolding does
ask_leads w IsSo acts request now v left are d =
    record { is_so = d.is_so; incoming = are; outgoing = d.puts.sent }

-- an expiry, and then other events
pub expiry_leads : {S : Type 0} (w : Behaviour S) (IsSo Mid : S → Type 0) (acts : Effects)
    (timer : Timer) (of : Option LinkId) (now : ℕ) (v : SideView S) (left sent : List (List ℕ))
    (events : List SideEvent) → Did w Mid acts (Expire timer of now) v
    → LeadTo w IsSo left sent events (does w (Expire timer of now) v)
    → LeadTo w IsSo left (acts.frames ++ sent) (Expire timer of now ∷ events) v
expiry_leads w IsSo Mid acts timer of now v left sent events d more = record {
  is_so = more.is_so;
  incoming = more.incoming;
  outgoing =
      more.outgoing ∙ ap (λ (line : List (List ℕ)). line ++ sent) d.puts.sent
      ∙ append_assoc v.outgoing acts.frames sent;
}

pub expiry_leaves : {S : Type 0} (w : Behaviour S) (timer : Timer) (of : Option LinkId) (now : ℕ)
    (v : SideView S) → (does w (Expire timer of now) v).incoming ≡ v.incoming
unfolding does
expiry_leaves w timer of now v = refl

unfoldable pub all_expire : {S : Type 0} (w : Behaviour S) (Shows : EitherSide → S → Type 0)
    → HasEvents w Shows → (now : ℕ) (calls : List Effects) (old new : EitherSide)
    → ExpireInOrder now calls old new
    → (v : SideView S) (left : List (List ℕ)) → Shows old v.now → v.incoming ≡ left
    → (events : List SideEvent) × AllByRecursion (IsExpiryAt now) events
    × LeadTo w (Shows new) left (frames_given calls) events v
all_expire {S} w Shows has now [] old new h v left shown are =
    ([], tt, none_lead w (Shows new) left v (has.stays_idle now old new h v shown) are)
all_expire {S} w Shows has now (acts ∷ calls) old new h v left shown are =
    let x = has.expires now old h.0 acts h.1 v shown in
    let e : RunningTimer = x.0 in
    let u : SideView S = does w (Expire e.timer e.of now) v in
    let more =
    all_expire w Shows has now calls h.0 new h.2 u left x.1.is_so
    (expiry_leaves w e.timer e.of now v ∙ are) in (
      Expire e.timer e.of now ∷ more.0,
      ((e.timer, e.of, refl), more.1),
      expiry_leads w (Shows new) (Shows h.0) acts e.timer e.of now v left (frames_given calls)
          more.0 x.1 more.2,
    )

unfoldable pub takes_next : {S : Type 0} (w : Behaviour S) (Shows : EitherSide → S → Type 0)
    → HasEvents w Shows → (a b : AtWork) → TakesNext a b
    → IsByEvents w Shows (AreFor Read a.now) a b
takes_next w Shows has a b h = record {
  reception = h.frame ∷ [];
  sent = h.takes.acts.frames;
  read =
      subst (Consumes a.around.rest b.around.rest) (sym (append-nil (frame_text h.frame))) h.read;
  written = h.takes.puts.sent;
  are = λ v left shown are. (
    Take a.now ∷ [],
    inr refl,
    take_leads w (Shows b.side) h.takes.acts a.now v h.frame left are
        (has.takes h.frame a.now a.side b.side h.takes.acts h.takes.takes v left shown are),
  );
}

unfoldable pub finds_none : {S : Type 0} (w : Behaviour S) (Shows : EitherSide → S → Type 0)
    → HasEvents w Shows → (a b : AtWork) → FindsNone a b
    → IsByEvents w Shows (AreFor Read a.now) a b
finds_none {S} w Shows has a b h = record {
  reception = [];
  sent = [];
  read = h.read;
  written = h.puts.sent;
  are =
      λ v left shown are. (
        [],
        inl refl,
        none_lead w (Shows b.side) left v
            (subst (λ (side : EitherSide). Shows side v.now) (sym h.side) shown) are,
      );
}

unfoldable pub ticks : {S : Type 0} (w : Behaviour S) (Shows : EitherSide → S → Type 0)
    → HasEvents w Shows → (ms : ℕ) (a b : AtWork) → Ticks ms a b
    → IsByEvents w Shows (AreFor (Tick ms) a.now) a b
ticks w Shows has ms a b h = record {
  reception = [];
  sent = frames_given h.due.calls;
  read = h.read;
  written = h.due.puts.sent;
  are =
      λ v left shown are. all_expire w Shows has (a.now + ms) h.due.calls a.side b.side
      h.due.in_order v left shown are;
}

-- exactly one request: the one the line names
abbrev pub IsOneRequest : LineRequest → ℕ → List SideEvent → Type 0
IsOneRequest line_request now events =
    (request : Request) × (line_request_of request ≡ line_request) × (events ≡ Ask request now ∷ [])

unfoldable pub asks_one : {S : Type 0} (w : Behaviour S) (Shows : EitherSide → S → Type 0)
    → HasEvents w Shows → (line_request : LineRequest) (a b : AtWork) → Asks line_request a b
    → IsByEvents w Shows (IsOneRequest line_request a.now) a b
asks_one w Shows has line_request a b h = record {
  reception = [];
  sent = h.acts.frames;
  read = h.read;
  written = h.puts.sent;
  are = λ v left shown are. (
    Ask h.request a.now ∷ [],
    (h.request, h.is, refl),
    ask_leads w (Shows b.side) h.acts h.request a.now v left are
        (has.asks h.request a.now h.result a.side b.side h.acts h.answers v shown),
  );
}

line : {S : Type 0} (w : Behaviour S) (Shows : EitherSide → S → Type 0) → HasEvents w Shows
    → (line_request : LineRequest) (a b : AtWork) → LineDoes line_request a b
    → IsByEvents w Shows (AreFor line_request a.now) a b
line w Shows has Read a b (inl h) = takes_next w Shows has a b h
line w Shows has Read a b (inr h) = finds_none w Shows has a b h
line w Shows has (Tick ms) a b h = ticks w Shows has ms a b h
line w Shows has (Establish id) a b h = asks_one w Shows has (Establish id) a b h
line w Shows has (Release id) a b h = asks_one w Shows has (Release id) a b h
line w Shows has (Give id message) a b h = asks_one w Shows has (Give id message) a b h
line w Shows has (Unit id octets) a b h = asks_one w Shows has (Unit id octets) a b h
line w Shows has (Busy id on) a b h = asks_one w Shows has (Busy id on) a b h
line w Shows has AskTei a b h = asks_one w Shows has AskTei a b h
line w Shows has (Check tei) a b h = asks_one w Shows has (Check tei) a b h
line w Shows has (Remove tei) a b h = asks_one w Shows has (Remove tei) a b h
line w Shows has CheckAll a b h = asks_one w Shows has CheckAll a b h
line w Shows has RemoveAll a b h = asks_one w Shows has RemoveAll a b h

-- ---- All lines.

pub moment_is : (line_request : LineRequest) (a b : AtWork) → LineDoes line_request a b
    → b.now ≡ moment_behind line_request a.now
moment_is Read a b (inl h) = h.clock
moment_is Read a b (inr h) = h.clock
moment_is (Tick ms) a b h = h.clock
moment_is (Establish id) a b h = h.clock
moment_is (Release id) a b h = h.clock
moment_is (Give id message) a b h = h.clock
moment_is (Unit id octets) a b h = h.clock
moment_is (Busy id on) a b h = h.clock
moment_is AskTei a b h = h.clock
moment_is (Check tei) a b h = h.clock
moment_is (Remove tei) a b h = h.clock
moment_is CheckAll a b h = h.clock
moment_is RemoveAll a b h = h.clock

pub text_of_both : (xs ys : List (List ℕ))
    → socket_text (xs ++ ys) ≡ socket_text xs ++ socket_text ys
text_of_both [] ys = refl
text_of_both (frame ∷ xs) ys =
    ap (λ (text : List ℕ). frame_text frame ++ text) (text_of_both xs ys)
    ∙ sym (append_assoc (frame_text frame) (socket_text xs) (socket_text ys))

all_of_both : {S : Type 0} (w : Behaviour S) (xs ys : List SideEvent) (v : SideView S)
    → does_all w (xs ++ ys) v ≡ does_all w ys (does_all w xs v)
all_of_both w [] ys v = refl
all_of_both w (event ∷ xs) ys v = all_of_both w xs ys (does w event v)

both_lead : {S : Type 0} (w : Behaviour S) (Mid IsSo : S → Type 0)
    (mid left sent more : List (List ℕ)) (xs ys : List SideEvent) (v : SideView S)
    → LeadTo w Mid mid sent xs v
    → LeadTo w IsSo left more ys (does_all w xs v) → LeadTo w IsSo left (sent ++ more) (xs ++ ys) v
both_lead {S} w Mid IsSo mid left sent more xs ys v p q =
    let same : does_all w ys (does_all w xs v) ≡ does_all w (xs ++ ys) v =
    sym (all_of_both w xs ys v) in
    record {
      is_so = subst (λ (u : SideView S). IsSo u.now) same q.is_so;
      incoming = subst (λ (u : SideView S). u.incoming ≡ left) same q.incoming;
      outgoing = subst (λ (u : SideView S). u.outgoing ≡ v.outgoing ++ (sent ++ more)) same
          (q.outgoing ∙ ap (λ (line : List (List ℕ)). line ++ more) p.outgoing
          ∙ append_assoc v.outgoing sent more);
    }

two_parts : {S : Type 0} (w : Behaviour S) (Shows : EitherSide → S → Type 0)
    (line_request : LineRequest) (Others : List SideEvent → Type 0) (a mid b : AtWork)
    → IsByEvents w Shows (AreFor line_request a.now) a mid
    → IsByEvents w Shows Others mid b
    → IsByEvents w Shows (ArePartedFor line_request a.now Others) a b
two_parts {S} w Shows line_request Others a mid b x y = record {
  reception = x.reception ++ y.reception;
  sent = x.sent ++ y.sent;
  read = subst (Consumes a.around.rest b.around.rest) (sym (text_of_both x.reception y.reception))
      (Consumes-trans a.around.rest mid.around.rest b.around.rest (socket_text x.reception)
      (socket_text y.reception) x.read y.read);
  written = subst (Appends a.around.written b.around.written) (sym (text_of_both x.sent y.sent))
      (Appends-trans a.around.written mid.around.written b.around.written (socket_text x.sent)
      (socket_text y.sent) x.written y.written);
  are = λ v left shown are.
      let first =
      x.are v (y.reception ++ left) shown
      (are ∙ append_assoc x.reception y.reception left) in
      let u : SideView S = does_all w first.0 v in
      let others = y.are u left first.2.is_so first.2.incoming in (
        first.0 ++ others.0,
        record {
          first = first.0;
          others = others.0;
          both = refl;
          for_first = first.1;
          for_others = others.1;
        },
        both_lead w (Shows mid.side) (Shows b.side) (y.reception ++ left) left x.sent y.sent first.0
            others.0 v first.2 others.2,
      );
}

consumes_none : (a b : AtWork) → b ≡ a → Consumes a.around.rest b.around.rest []
consumes_none a b same =
    subst (λ (at : AtWork). Consumes a.around.rest at.around.rest []) (sym same)
    (Consumes-nil a.around.rest)

appends_none : (a b : AtWork) → b ≡ a → Appends a.around.written b.around.written []
appends_none a b same =
    subst (λ (at : AtWork). Appends a.around.written at.around.written []) (sym same)
    (Appends-nil a.around.written)

lines : {S : Type 0} (w : Behaviour S) (Shows : EitherSide → S → Type 0) → HasEvents w Shows
    → (line_requests : List LineRequest) (a b : AtWork) → LinesDo line_requests a b
    → IsByEvents w Shows (AreForAll line_requests a.now) a b
lines w Shows has [] a b same = record {
  reception = [];
  sent = [];
  read = consumes_none a b same;
  written = appends_none a b same;
  are =
      λ v left shown are. (
        [],
        refl,
        none_lead w (Shows b.side) left v
            (subst (λ (at : AtWork). Shows at.side v.now) (sym same) shown) are,
      );
}
lines w Shows has (line_request ∷ line_requests) a b h =
    let mid : AtWork = h.0 in
    let others : IsByEvents w Shows (AreForAll line_requests (moment_behind line_request a.now)) mid
    b =
    subst (λ (now : ℕ). IsByEvents w Shows (AreForAll line_requests now) mid b)
    (moment_is line_request a mid h.1) (lines w Shows has line_requests mid b h.2) in
    two_parts w Shows line_request (AreForAll line_requests (moment_behind line_request a.now)) a
    mid b (line w Shows has line_request a mid h.1) others

-- ---- For either side.

pub network_line : (config : Config) (line_request : LineRequest) (a b : AtWork)
    → LineDoes line_request a b
    → IsByEvents (network_behaviour config) (ShowsNetwork config) (AreFor line_request a.now) a b
network_line config = line (network_behaviour config) (ShowsNetwork config) (network_has config)

pub network_lines : (config : Config) (line_requests : List LineRequest) (a b : AtWork)
    → LinesDo line_requests a b
    → IsByEvents (network_behaviour config) (ShowsNetwork config) (AreForAll line_requests a.now) a
    b
network_lines config = lines (network_behaviour config) (ShowsNetwork config) (network_has config)

pub user_line : (config : Config) (line_request : LineRequest) (a b : AtWork)
    → LineDoes line_request a b
    → IsByEvents (user_behaviour config) (ShowsUser config) (AreFor line_request a.now) a b
user_line config = line (user_behaviour config) (ShowsUser config) (user_has config)

pub user_lines : (config : Config) (line_requests : List LineRequest) (a b : AtWork)
    → LinesDo line_requests a b
    → IsByEvents (user_behaviour config) (ShowsUser config) (AreForAll line_requests a.now) a b
user_lines config = lines (user_behaviour config) (ShowsUser config) (user_has config)

-- ---- The events of one side are moves of an interface.

pub network_moves : (c : Configs) (events : List SideEvent) (i : Interface)
    → run c (moves_of side.Network events) i
    ≡ with_network (does_all (network_behaviour c.network) events (by_network i)) i
network_moves c [] i = refl
network_moves c (event ∷ events) i =
    network_moves c events
    (with_network (does (network_behaviour c.network) event (by_network i)) i)

pub user_moves : (c : Configs) (events : List SideEvent) (i : Interface)
    → run c (moves_of side.User events) i
    ≡ with_user (does_all (user_behaviour c.user) events (by_user i)) i
user_moves c [] i = refl
user_moves c (event ∷ events) i =
    user_moves c events (with_user (does (user_behaviour c.user) event (by_user i)) i)
