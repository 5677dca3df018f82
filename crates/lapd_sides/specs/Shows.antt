-- How code represents the common part of both sides, and how its steps are specified.
use Rattle.std.specs.Prelude.{◌≡◌, ℕ, Bool, false, List, [], Option, Some, None, option_map, Result, Ok, Err}
use Rattle.lapd_frame.specs.declared.Side.{Side}
use Rattle.lapd_frame.specs.declared.Address.{Address}
use Rattle.lapd_frame.specs.declared.fault_kind.FaultKind.{FaultKind}
use Rattle.lapd_frame.specs.declared.frame_fault.FrameFault.{FrameFault}
use Rattle.lapd_frame.specs.declared.predicted_frame.PredictedFrame.{PredictedFrame}
use Rattle.lapd_frame.specs.Frame.{Fields}
use Rattle.lapd_frame.specs.PredictedFrame.{predicted_fields}
use Rattle.lapd_frame.specs.Reading.{frame_at}
use Rattle.lapd_link.specs.Link.{LinkRepresents}
use Rattle.lapd_link.specs.declared.link.Link.{Link}
use Rattle.lapd_link_definition.specs.End.{End}
use Rattle.lapd_link_definition.specs.Input.{Faulty, Heard}
use Rattle.lapd_table.specs.declared.link_id.LinkId.{LinkId}
use Rattle.lapd_table.specs.declared.link_table.LinkTable.{LinkTable}
use Rattle.lapd_table.specs.LinkId.{id_of_address}
use Rattle.lapd_table.specs.LinkTable.{side_of, link_at}
use Rattle.lapd_tei.specs.declared.out.TeiOut.{TeiOut}
use Rattle.lapd_tei.specs.Out.{tei_given}
use Rattle.lapd_sides_links.specs.declared.config.Config.{Config}
use Rattle.lapd_sides_links.specs.declared.running_timer.RunningTimer.{RunningTimer}
use Rattle.lapd_sides_links.specs.declared.side_fault.SideKind.{SideKind}
use Rattle.lapd_sides_links.specs.declared.side_fault.SideKind.TheVariants.{NoLink}
use Rattle.lapd_sides.specs.declared.links_and_timer.Expired.{Expired}
use Rattle.lapd_sides.specs.declared.links_and_timer.Expired.TheVariants as expired
use Rattle.lapd_sides.specs.declared.links_and_timer.LinksAndTimer.{LinksAndTimer}
use Rattle.lapd_sides_links.specs.Effects.{Effects, no_effects, stopped}
use Rattle.lapd_sides_links.specs.Expiries.{IsDue}
use Rattle.lapd_sides_links.specs.Links.{Links, Linked, Reaction, Served, in_links, link_acts, link_expires, predicts}
use Rattle.lapd_sides_links.specs.Shown.{ShowLinks}
use Rattle.lapd_sides.specs.Management.{links_with, manages, one_more}

-- the links and the timer of TEI management
pub record ShowServed (side : Side) (code : LinksAndTimer) (s : Served) : Type 0 where
  pub links : ShowLinks side code.links s.links
  pub timers : code.timers ≡ s.timers

-- a step has been taken: the code represents the state after it, and its effects are in `acts`
pub record HaveServed (side : Side) (code : LinksAndTimer) (acts : Effects)
    (a : Reaction Served) : Type 0 where
  pub shown : ShowServed side code a.after
  pub given : acts ≡ a.effects

-- adds the links of the TEI that these outputs of TEI management assign or obtain, if any
abbrev pub with_given_links : Config → List TeiOut → Served → Served
with_given_links config outs s = record s { links = links_with config (tei_given outs) s.links }

-- ---- How calls are specified, whatever the code represented before.

-- a step for octets, a timer or an event of TEI management, on a side with this configuration
abbrev pub Step : Type 0 → Type 0
Step S = Config → S → Reaction S

-- a step for a request, which may be refused
abbrev pub RequestOutcome : Type 0 → Type 0
RequestOutcome S = Config → S → Result (Reaction S) SideKind

-- they change in this way
abbrev pub Become : LinksAndTimer → LinksAndTimer → (Served → Served) → Type 0
Become old new change =
    (side : Side) (s : Served) → ShowServed side old s → ShowServed side new (change s)

-- they represent what they represented before
abbrev pub ShowAsBefore : LinksAndTimer → LinksAndTimer → Type 0
ShowAsBefore old new = (side : Side) (s : Served) → ShowServed side old s → ShowServed side new s

-- they carry out the rest of these outputs, on this side
abbrev pub CarryOut : Side → LinksAndTimer → LinksAndTimer → Effects → ℕ → List TeiOut → Type 0
CarryOut side old new acts now outs =
    (config : Config) (s : Served) → ShowServed side old (with_given_links config outs s)
    → HaveServed side new acts (manages side config now outs s)

-- ---- Received frames.

-- the link that a frame is addressed to processes it
abbrev pub frame_on_links : ℕ → Fields → Side → Links → Result (Reaction Links) SideKind
frame_on_links now frame side links = in_links (id_of_address frame.address)
    (link_acts side (id_of_address frame.address) now
    (Heard frame.control frame.address.role) frame.info) links

-- a link processes a fault of a frame for it; other octets are for no link
abbrev pub fault_on_links : ℕ → FaultKind → Option Address → Side → Links
    → Result (Reaction Links) SideKind
fault_on_links now kind None side links = Err NoLink
fault_on_links now kind (Some address) side links = in_links (id_of_address address)
    (link_acts side (id_of_address address) now (Faulty kind) []) links

-- without a link for it, a step changes nothing
abbrev pub links_after : Links → Result (Reaction Links) SideKind → Links
links_after links (Ok a) = a.after
links_after links (Err kind) = links

abbrev pub effects_after : Result (Reaction Links) SideKind → Effects
effects_after (Ok a) = a.effects
effects_after (Err kind) = no_effects

-- without a link for it, one more frame is discarded
abbrev pub discarded_after : ℕ → Result (Reaction Links) SideKind → ℕ
discarded_after n (Ok a) = n
discarded_after n (Err kind) = one_more n

-- a link has taken this step, or the frame is discarded and counted
pub record HaveReceived (side : Side) (old new : LinksAndTimer) (acts : Effects)
    (links : Links) (outcome : Result (Reaction Links) SideKind) : Type 0 where
  pub shown : ShowLinks side new.links (links_after links outcome)
  pub given : acts ≡ effects_after outcome
  pub counted : new.discarded ≡ discarded_after old.discarded outcome
  pub timers : new.timers ≡ old.timers

-- they receive a frame, or a fault, in this way
abbrev pub Receive : LinksAndTimer → LinksAndTimer → Effects
    → (Side → Links → Result (Reaction Links) SideKind) → Type 0
Receive old new acts step = (side : Side) (links : Links) → ShowLinks side old.links links
    → HaveReceived side old new acts links (step side links)

-- ---- Predicted steps.

-- the frame makes a predicted step of the link that it is addressed to
abbrev pub is_predicted_on_links : Fields → Links → Bool
is_predicted_on_links frame links =
    predicts frame.control frame.address.role (links (id_of_address frame.address))

-- octets that were read as such a frame
abbrev pub are_predicted : Result Fields FrameFault → Links → Bool
are_predicted (Ok frame) links = is_predicted_on_links frame links
are_predicted (Err fault) links = false

-- They receive octets of this sender's, which are read as a frame of a kind that is predicted.
pub record ReceivePredicted (from : Side) (octets : List ℕ) (now : ℕ) (old new : LinksAndTimer)
    (given : Effects) : Type 0 where
  pub frame : PredictedFrame
  pub found : frame_at from octets ≡ Ok (predicted_fields frame)
  pub received : Receive old new given (frame_on_links now (predicted_fields frame))

-- ---- Expired timers.

-- a link has taken this step, or nothing has happened
pub record HaveStepped (side : Side) (new : LinksAndTimer) (acts : Effects) (links : Links)
    (outcome : Result (Reaction Links) SideKind) : Type 0 where
  pub shown : ShowLinks side new.links (links_after links outcome)
  pub given : acts ≡ effects_after outcome

abbrev pub StepLinks : LinksAndTimer → LinksAndTimer → Effects
    → (Side → Links → Result (Reaction Links) SideKind) → Type 0
StepLinks old new acts step = (side : Side) (links : Links) → ShowLinks side old.links links
    → HaveStepped side new acts links (step side links)

-- no timer is due
pub record NoneIsDue (side : Side) (new : LinksAndTimer) (acts : Effects) (now : ℕ)
    (s : Served) : Type 0 where
  pub due : IsDue now s None
  pub shown : ShowServed side new s
  pub nothing : acts ≡ no_effects

-- the first due timer belongs to a link, and has expired in it
pub record LinkHasExpired (side : Side) (new : LinksAndTimer) (acts : Effects) (now : ℕ)
    (s : Served) : Type 0 where
  pub expiry : RunningTimer
  pub due : IsDue now s (Some expiry)
  pub id : LinkId
  pub of : expiry.of ≡ Some id
  pub shown : ShowLinks side new.links
      (links_after s.links (in_links id (link_expires side id now expiry.timer) s.links))
  pub given : acts ≡ effects_after (in_links id (link_expires side id now expiry.timer) s.links)
  pub timers : new.timers ≡ s.timers

-- the first due timer belongs to TEI management, and has been stopped
pub record ManagementHasExpired (side : Side) (new : LinksAndTimer) (acts : Effects) (now : ℕ)
    (s : Served) : Type 0 where
  pub expiry : RunningTimer
  pub due : IsDue now s (Some expiry)
  pub of : expiry.of ≡ None
  pub shown : ShowServed side new
      (record { links = s.links; timers = stopped expiry.timer s.timers })
  pub nothing : acts ≡ no_effects

abbrev pub HaveExpired : Side → Expired → LinksAndTimer → Effects → ℕ → Served → Type 0
HaveExpired side expired.Nothing new acts now s = NoneIsDue side new acts now s
HaveExpired side expired.Link new acts now s = LinkHasExpired side new acts now s
HaveExpired side expired.Management new acts now s = ManagementHasExpired side new acts now s

-- they expire the first due timer, if there is one
abbrev pub ExpireFirst : Expired → LinksAndTimer → LinksAndTimer → Effects → ℕ → Type 0
ExpireFirst result old new acts now = (side : Side) (s : Served) → ShowServed side old s
    → HaveExpired side result new acts now s

-- ---- Queries of a side.

-- a link represents an end, or neither exists
abbrev pub IsThere : Option Link → Option End → Type 0
IsThere None None = Unit {0}
IsThere (Some link) (Some e) = LinkRepresents link e
IsThere link e = ⊥

-- a table has the links, of this side
pub record ShowEnds (side : Side) (table : LinkTable) (links : Links) : Type 0 where
  pub of_side : side_of table ≡ side
  pub each : (id : LinkId)
      → IsThere (link_at table id) (option_map (λ (l : Linked). l.end) (links id))
