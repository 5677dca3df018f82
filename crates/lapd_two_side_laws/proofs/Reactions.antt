-- Each reaction of a side consists of steps of its links and of its TEI management. So a law of all
-- reactions is proved for these steps, once for both kinds of sides.
use Rattle.std.proofs.Common.{◌≡◌, ℕ, List, [], ◌∷◌, length, Bool, true, false, Option, Some, None, Result, Ok, Err, refl}
use Rattle.std.specs.Prelude.{IfOk, if◌then◌else◌}
use Rattle.lapd_timers.specs.declared.timer.Timer.{Timer}
use Rattle.lapd_frame.specs.declared.Address.{Address}
use Rattle.lapd_frame.specs.declared.Control.{Control}
use Rattle.lapd_frame.specs.declared.Role.{Role}
use Rattle.lapd_frame.specs.declared.Sapi.{Sapi}
use Rattle.lapd_frame.specs.declared.fault_kind.FaultKind.{FaultKind}
use Rattle.lapd_frame.specs.declared.frame_fault.FrameFault.{FrameFault}
use Rattle.lapd_frame.specs.Address.{other_side}
use Rattle.lapd_frame.specs.Frame.{Fields}
use Rattle.lapd_frame.specs.Reading.{frame_at}
use Rattle.lapd_link_definition.specs.Input as input
use Rattle.lapd_link_definition.specs.Input.{Input, Heard, Faulty, Expiry}
use Rattle.lapd_tei.specs.declared.message.TeiMessage.{TeiMessage}
use Rattle.lapd_tei.specs.declared.fault.TeiFault.{TeiFault}
use Rattle.lapd_tei.specs.Message.{message_at}
use Rattle.lapd_table.specs.declared.link_id.LinkId.{LinkId}
use Rattle.lapd_table.specs.LinkId.{id_of_address}
use Rattle.lapd_sides_links.specs.declared.config.Config.{Config}
use Rattle.lapd_sides_links.specs.declared.side_fault.SideKind.{SideKind}
use Rattle.lapd_sides_links.specs.Links.{Links, Reaction, in_links, link_acts, link_expires}
use Rattle.lapd_sides.specs.declared.request.Request.{Request}
use Rattle.lapd_sides.specs.declared.request.Request.TheVariants as request
use Rattle.lapd_sides.specs.Management.{carries_message}
use Rattle.lapd_sides.specs.SideState as sides
use Rattle.lapd_sides.specs.SideState.{SideState, Rules, unmoved, discards, with_links, among_links, or_discarded, unit_from_group, link_of, message_received, data_received, fault_received, received, takes, with_stopped, expires}
use Rattle.lapd_side_events.specs.Interface.{behaviour}
use Rattle.lapd_side_events.specs.SideView.{SideView, SideEvent, Take, Lose, Expire, Ask, Overhear, takes_first, may_expire, or_unmoved, reaction}

abbrev pub IsNoExpiry : Input → Type 0
IsNoExpiry (Expiry timer) = ⊥
IsNoExpiry input = Unit {0}

pub if_either : {X : Type 0} (P : X → Type 0) (test : Bool) (a b : X) → P a → P b
    → P (if test then a else b)
if_either P true a b first second = first
if_either P false a b first second = second

-- the moment of an event, or that of the last one before
abbrev pub moment_or : ℕ → SideEvent → ℕ
moment_or last (Take now) = now
moment_or last (Lose at) = last
moment_or last (Expire timer of now) = now
moment_or last (Ask request now) = now
moment_or last (Overhear octets now) = now

-- the inputs that links may take, with the octets of a message or of unit data
abbrev pub Inputs : Type 1
Inputs = LinkId → Input → List ℕ → Type 0

-- what a law says of a reaction of a side in a state
abbrev pub Law : Type 0 → Type 1
Law M = SideState M → Reaction (SideState M) → Type 0

-- ---- What a law has to hold of.

-- nothing happens, a frame is discarded or is unit data for layer 3, or a link takes a permitted
-- input
pub record HoldsOfLinks {M : Type 0} (rules : Rules M) (now : ℕ) (R : Law M) (Permits : Inputs) :
    Type 0 where
  pub still : (s : SideState M) → R s (unmoved s)
  pub counts : (s : SideState M) → R s (discards s)
  pub reports : (sapi : Sapi) (octets : List ℕ) (s : SideState M)
      → R s (unit_from_group sapi octets s)
  pub steps : (id : LinkId) (input : Input) (octets : List ℕ) (s : SideState M)
      (b : Reaction Links) → IsNoExpiry input → Permits id input octets
      → in_links id (link_acts rules.side id now input octets) s.served.links ≡ Ok b
      → R s (with_links s b)

-- TEI management receives a message
abbrev pub HoldsOfMessages : {M : Type 0} → Rules M → Config → ℕ → Law M → Type 0
HoldsOfMessages {M} rules config now R =
    (m : TeiMessage) (s : SideState M) → R s (rules.hears config now m s)

-- TEI management receives a message, its timer expires, or an allowed request is executed
pub record HoldsOfRules {M : Type 0} (rules : Rules M) (config : Config) (now : ℕ) (R : Law M)
    (Allows : Request → Type 0) : Type 0 where
  pub hears : HoldsOfMessages rules config now R
  pub times_out : (timer : Timer) (s : SideState M) → may_expire timer None s.served ≡ true
      → R s (rules.times_out config now (with_stopped timer s))
  pub requested : (request : Request) (s : SideState M) → Allows request
      → IfOk (rules.requested config request now s) (R s)

-- any event: also a timer of a link expires
pub record HoldsOfEvents {M : Type 0} (rules : Rules M) (config : Config) (now : ℕ) (R : Law M)
    (Permits : Inputs) (Allows : Request → Type 0) : Type 0 where
  pub links : HoldsOfLinks rules now R Permits
  pub expires : (id : LinkId) (timer : Timer) (s : SideState M) (b : Reaction Links)
      → in_links id (link_expires rules.side id now timer) s.served.links ≡ Ok b
      → R s (with_links s b)
  pub by_rules : HoldsOfRules rules config now R Allows

-- ---- Octets arrive.

abbrev pub PermitsFault : Inputs → FaultKind → Option Address → Type 0
PermitsFault Permits kind None = Unit {0}
PermitsFault Permits kind (Some address) = Permits (id_of_address address) (Faulty kind) []

abbrev pub PermitsFrame : Inputs → Result Fields FrameFault → Type 0
PermitsFrame Permits (Ok frame) =
    Permits (id_of_address frame.address) (Heard frame.control frame.address.role) frame.info
PermitsFrame Permits (Err fault) = PermitsFault Permits fault.kind fault.address

module _ {M : Type 0} {rules : Rules M} {now : ℕ} {R : Law M} {Permits : Inputs}
    (law : HoldsOfLinks rules now R Permits) where
  among : (s : SideState M) (r : Result (Reaction Links) SideKind)
      → ((b : Reaction Links) → r ≡ Ok b → R s (with_links s b)) → IfOk (among_links s r) (R s)
  among s (Ok b) each = each b refl
  among s (Err kind) each = tt

  -- a link takes an input, if it exists and does not refuse
  pub linked : (id : LinkId) (input : Input) (octets : List ℕ) (s : SideState M)
      → IsNoExpiry input → Permits id input octets
      → IfOk (link_of rules.side now id input octets s) (R s)
  unfolding link_of
  linked id input octets s plain permits =
      among s (in_links id (link_acts rules.side id now input octets) s.served.links)
      (λ b done. law.steps id input octets s b plain permits done)

  or_counts : (s : SideState M) (r : Result (Reaction (SideState M)) SideKind) → IfOk r (R s)
      → R s (or_discarded s r)
  or_counts s (Ok a) h = h
  or_counts s (Err kind) h = law.counts s

  pub or_still : (s : SideState M) (r : Result (Reaction (SideState M)) SideKind) → IfOk r (R s)
      → R s (sides.or_unmoved s r)
  or_still s (Ok a) h = h
  or_still s (Err kind) h = law.still s

  pub frame_data : (config : Config) (frame : Fields) (s : SideState M)
      → PermitsFrame Permits (Ok frame) → R s (data_received rules config now frame s)
  frame_data config frame s permits =
      let id = id_of_address frame.address in
      let input = Heard frame.control frame.address.role in
      let does = link_of rules.side now id input frame.info s in
      if_either (R s) (rules.is_for_layer_3 config frame)
      (unit_from_group frame.address.sapi frame.info s) (or_discarded s does)
      (law.reports frame.address.sapi frame.info s)
      (or_counts s does (linked id input frame.info s tt permits))

  pub faulty : (kind : FaultKind) (address : Option Address) (s : SideState M)
      → PermitsFault Permits kind address → R s (fault_received rules.side now kind address s)
  faulty kind None s permits = law.counts s
  faulty kind (Some address) s permits =
      let id = id_of_address address in
      or_counts s (link_of rules.side now id (Faulty kind) [] s)
      (linked id (Faulty kind) [] s tt permits)

  module _ (config : Config) (hears : HoldsOfMessages rules config now R) where
    message : (found : Result TeiMessage TeiFault) (s : SideState M)
        → R s (message_received rules config now found s)
    message (Ok m) s = hears m s
    message (Err fault) s = law.still s

    reception : (r : Result Fields FrameFault) (s : SideState M) → PermitsFrame Permits r
        → R s (received rules config now r s)
    reception (Ok frame) s permits =
        if_either (R s) (carries_message frame)
        (message_received rules config now (message_at frame.info) s)
        (data_received rules config now frame s) (message (message_at frame.info) s)
        (frame_data config frame s permits)
    reception (Err fault) s permits = faulty fault.kind fault.address s permits

    pub takes_so : (octets : List ℕ) (s : SideState M)
        → PermitsFrame Permits (frame_at (other_side rules.side) octets)
        → R s (takes rules config octets now s)
    unfolding takes
    takes_so octets s permits = reception (frame_at (other_side rules.side) octets) s permits

-- ---- Every event.

-- requests that the law allows, at a moment
abbrev pub Requests : Type 1
Requests = ℕ → Request → Type 0

abbrev pub PermitsFirst : {M : Type 0} → Rules M → Inputs → List (List ℕ) → Type 0
PermitsFirst rules Permits [] = Unit {0}
PermitsFirst rules Permits (octets ∷ line) =
    PermitsFrame Permits (frame_at (other_side rules.side) octets)

abbrev pub PermitsEvent : {M : Type 0} → Rules M → Inputs → Requests → SideEvent
    → SideView (SideState M) → Type 0
PermitsEvent rules Permits Allows (Take now) v = PermitsFirst rules Permits v.incoming
PermitsEvent rules Permits Allows (Ask request now) v = Allows now request
PermitsEvent rules Permits Allows (Overhear octets now) v =
    PermitsFrame Permits (frame_at (other_side rules.side) octets)
PermitsEvent rules Permits Allows event v = Unit {0}

module _ {M : Type 0} {rules : Rules M} {config : Config} {R : ℕ → Law M} {Permits : Inputs}
    {Allows : Requests}
    (law : (now : ℕ) → HoldsOfEvents rules config now (R now) Permits (Allows now)) where
  pub expires_so : (now : ℕ) (timer : Timer) (of : Option LinkId) (s : SideState M)
      → may_expire timer of s.served ≡ true → R now s (expires rules config now timer of s)
  unfolding expires
  expires_so now timer None s may = (law now).by_rules.times_out timer s may
  expires_so now timer (Some id) s may =
      let r = in_links id (link_expires rules.side id now timer) s.served.links in
      or_still (law now).links s (among_links s r)
      (among (law now).links s r (λ b done. (law now).expires id timer s b done))

  first_taken : (now : ℕ) (line : List (List ℕ)) (s : SideState M)
      → PermitsFirst rules Permits line
      → R now s (takes_first (behaviour rules config) now line s)
  first_taken now [] s permits = (law now).links.still s
  first_taken now (octets ∷ line) s permits =
      takes_so (law now).links config (law now).by_rules.hears octets s permits

  expires_if : (now : ℕ) (timer : Timer) (of : Option LinkId) (s : SideState M) (test : Bool)
      → may_expire timer of s.served ≡ test
      → R now s (if test then expires rules config now timer of s else unmoved s)
  expires_if now timer of s true may = expires_so now timer of s may
  expires_if now timer of s false may = (law now).links.still s

  granted : (now : ℕ) (s : SideState M) (r : Result (Reaction (SideState M)) SideKind)
      → IfOk r (R now s) → R now s (or_unmoved s r)
  granted now s (Ok a) h = h
  granted now s (Err kind) h = (law now).links.still s

  pub reacts : (last : ℕ) (event : SideEvent) (v : SideView (SideState M))
      → PermitsEvent rules Permits Allows event v
      → R (moment_or last event) v.now (reaction (behaviour rules config) event v)
  reacts last (Take now) v permits = first_taken now v.incoming v.now permits
  reacts last (Lose at) v permits = (law last).links.still v.now
  reacts last (Expire timer of now) v permits =
      expires_if now timer of v.now (may_expire timer of v.now.served) refl
  reacts last (Ask request now) v permits =
      granted now v.now (rules.requested config request now v.now)
      ((law now).by_rules.requested request v.now permits)
  reacts last (Overhear octets now) v permits =
      takes_so (law now).links config (law now).by_rules.hears octets v.now permits

-- ---- Each frame and each fault of a frame is permitted.

module _ (Permits : Inputs) (heard : (id : LinkId) (control : Control) (role : Role)
    (info : List ℕ) → Permits id (Heard control role) info)
    (fault : (id : LinkId) (kind : FaultKind) → Permits id (Faulty kind) []) where
  any_fault : (kind : FaultKind) (address : Option Address) → PermitsFault Permits kind address
  any_fault kind None = tt
  any_fault kind (Some address) = fault (id_of_address address) kind

  pub any_frame : (r : Result Fields FrameFault) → PermitsFrame Permits r
  any_frame (Ok frame) =
      heard (id_of_address frame.address) frame.control frame.address.role frame.info
  any_frame (Err f) = any_fault f.kind f.address

  any_first : {M : Type 0} (rules : Rules M) (line : List (List ℕ))
      → PermitsFirst rules Permits line
  any_first rules [] = tt
  any_first rules (octets ∷ line) = any_frame (frame_at (other_side rules.side) octets)

  pub any_event : {M : Type 0} (rules : Rules M) (Allows : Requests) (event : SideEvent)
      (v : SideView (SideState M)) → ((request : Request) (now : ℕ) → event ≡ Ask request now
      → Allows now request) → PermitsEvent rules Permits Allows event v
  any_event rules Allows (Take now) v allowed = any_first rules v.incoming
  any_event rules Allows (Lose at) v allowed = tt
  any_event rules Allows (Expire timer of now) v allowed = tt
  any_event rules Allows (Ask request now) v allowed = allowed request now refl
  any_event rules Allows (Overhear octets now) v allowed =
      any_frame (frame_at (other_side rules.side) octets)

-- ---- Requests.

-- the link that is meant may take this input
abbrev pub PermitsMeant : {M : Type 0} → Rules M → Inputs → M → LinkId → Input → List ℕ → Type 0
PermitsMeant rules Permits m id input octets =
    (own : LinkId) → rules.link_of_call m id ≡ Some own → Permits own input octets

-- and so the input of this request
abbrev pub PermitsRequest : {M : Type 0} → Rules M → Inputs → M → Request → Type 0
PermitsRequest rules Permits m (request.Establish id) =
    PermitsMeant rules Permits m id input.Establish []
PermitsRequest rules Permits m (request.Release id) =
    PermitsMeant rules Permits m id input.Release []
PermitsRequest rules Permits m (request.Unit id octets) =
    PermitsMeant rules Permits m id (input.UnitData (length octets.items)) octets.items
PermitsRequest rules Permits m (request.Give id message) =
    PermitsMeant rules Permits m id (input.Give message.items) []
PermitsRequest rules Permits m (request.Busy id true) =
    PermitsMeant rules Permits m id input.BusyOn []
PermitsRequest rules Permits m (request.Busy id false) =
    PermitsMeant rules Permits m id input.BusyOff []
PermitsRequest rules Permits m other = Unit {0}

-- an input by a request of layer 3
abbrev pub IsOfRequest : Input → Type 0
IsOfRequest (Heard control role) = ⊥
IsOfRequest (Faulty kind) = ⊥
IsOfRequest (Expiry timer) = ⊥
IsOfRequest input = Unit {0}

-- a law that permits each of these permits each request
pub any_request : {M : Type 0} (rules : Rules M) (Permits : Inputs)
    → ((id : LinkId) (input : Input) (octets : List ℕ) → IsOfRequest input
    → Permits id input octets) → (m : M) (asked : Request) → PermitsRequest rules Permits m asked
any_request rules Permits any m (request.Establish id) = λ own is. any own _ _ tt
any_request rules Permits any m (request.Release id) = λ own is. any own _ _ tt
any_request rules Permits any m (request.Unit id octets) = λ own is. any own _ _ tt
any_request rules Permits any m (request.Give id message) = λ own is. any own _ _ tt
any_request rules Permits any m (request.Busy id true) = λ own is. any own _ _ tt
any_request rules Permits any m (request.Busy id false) = λ own is. any own _ _ tt
any_request rules Permits any m request.AskTei = tt
any_request rules Permits any m (request.Check tei) = tt
any_request rules Permits any m (request.Remove tei) = tt
any_request rules Permits any m request.CheckAll = tt
any_request rules Permits any m request.RemoveAll = tt

-- ---- A law that permits each input and allows each request.

abbrev pub AnyInput : Inputs
AnyInput id input octets = Unit {0}

abbrev pub AnyRequest : Request → Type 0
AnyRequest request = Unit {0}

pub each_request : {M : Type 0} (rules : Rules M) (m : M) (asked : Request)
    → PermitsRequest rules AnyInput m asked
each_request rules = any_request rules AnyInput (λ id input octets is. tt)

pub each_event : {M : Type 0} (rules : Rules M) (event : SideEvent)
    (v : SideView (SideState M)) → PermitsEvent rules AnyInput (λ now. AnyRequest) event v
each_event rules event v =
    any_event AnyInput (λ id control role info. tt) (λ id kind. tt) rules (λ now. AnyRequest)
    event v (λ request now is. tt)
