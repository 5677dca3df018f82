-- How the links of a side in code represent those of the definition.
use Rattle.std.specs.Prelude.{◌≡◌, ℕ, Bool, false, List, drop, Option, Some, None, option_map, IfSome, Result, Ok, Err}
use Rattle.lapd_timers.specs.Due.{Timers}
use Rattle.lapd_frame.specs.declared.Side.{Side}
use Rattle.lapd_frame.specs.Frame.{spelling}
use Rattle.lapd_link.specs.Link.{LinkRepresents, Setup}
use Rattle.lapd_link.specs.SentFrame.{made_frame}
use Rattle.lapd_link.specs.declared.link.Link.{Link}
use Rattle.lapd_link_definition.specs.declared.out.Out.{Out}
use Rattle.lapd_link_definition.specs.End.{End}
use Rattle.lapd_table.specs.declared.link_id.LinkId.{LinkId}
use Rattle.lapd_table.specs.LinkTable.{side_of, link_at}
use Rattle.lapd_sides_links.specs.declared.link_set.LinkSet.{LinkSet}
use Rattle.lapd_sides_links.specs.declared.link_timers.LinkTimers.{LinkTimers}
use Rattle.lapd_sides_links.specs.declared.side_fault.SideKind.{SideKind}
use Rattle.lapd_sides_links.specs.Effects.{Effects, and_then}
use Rattle.lapd_sides_links.specs.Links.{Links, Linked, Reaction}
use Rattle.lapd_sides_links.specs.Places.{AreStopped}
use Rattle.lapd_sides_links.specs.LinkTimers.{timers_of}

-- the timers for which a link has room, whether or not the link exists
abbrev pub timers_at : LinkTimers → LinkId → Option Timers
timers_at s id = timers_of s id

-- the octets of the frame that the code makes of an output of this link, after a step that ended in
-- `e`
abbrev pub made_by : Setup → End → List ℕ → Out → Option (List ℕ)
made_by setup e octets output = option_map (spelling setup.side)
    (made_frame setup (drop e.first e.given) octets output)

-- a link with its timers; or no link, and no timer running for it
abbrev pub IsLinked : Option Link → Option Timers → Option Linked → Type 0
IsLinked None timers None = IfSome timers AreStopped
IsLinked (Some link) (Some timers) (Some l) = LinkRepresents link l.end × (timers ≡ l.timers)
IsLinked link timers l = ⊥

-- The existing links represent those of the definition, and so do their timers.
pub record ShowLinks (side : Side) (s : LinkSet) (links : Links) : Type 0 where
  pub of_side : side_of s.table ≡ side
  pub each : (id : LinkId) → IsLinked (link_at s.table id) (timers_at s.link_timers id) (links id)

-- A step has been taken: it succeeded, the links represent the state after it, and its effects are
-- appended to the earlier ones.
pub record HaveActed (side : Side) (s : LinkSet) (before after : Effects)
    (outcome : Result (Reaction Links) SideKind) : Type 0 where
  pub acted : Reaction Links
  pub is : outcome ≡ Ok acted
  pub shown : ShowLinks side s acted.after
  pub given : after ≡ and_then before acted.effects

-- ---- The effect of a call, whatever links it finds.

-- the call takes this step of the links
abbrev pub LinksDo : LinkSet → LinkSet → Effects → Effects
    → (Side → Links → Result (Reaction Links) SideKind) → Type 0
LinksDo old new before after step =
    (side : Side) (links : Links) → ShowLinks side old links
    → HaveActed side new before after (step side links)

-- the step of the links is refused, for this reason
abbrev pub LinksRefuseAs : LinkSet → (Side → Links → Result (Reaction Links) SideKind) → SideKind
    → Type 0
LinksRefuseAs old step kind = (side : Side) (links : Links) → ShowLinks side old links
    → step side links ≡ Err kind

-- the links have no step of this kind
abbrev pub LinksHaveNone : LinkSet → (Links → Bool) → Type 0
LinksHaveNone old has = (side : Side) (links : Links) → ShowLinks side old links
    → has links ≡ false

-- the links change in this way
abbrev pub Becomes : LinkSet → LinkSet → (Links → Links) → Type 0
Becomes old new change = (side : Side) (links : Links) → ShowLinks side old links
    → ShowLinks side new (change links)

-- the links are unchanged
abbrev pub ShowsLinksAsBefore : LinkSet → LinkSet → Type 0
ShowsLinksAsBefore old new = Becomes old new (λ links. links)
