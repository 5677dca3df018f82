-- The common part of both sides processes received frames and expired timers.
use Rattle.std.proofs.Common.{◌≡◌, ℕ, List, [], Option, Some, None, Result, Ok, Err, refl, sym, ap, subst, ◌∙◌}
use Rattle.std.specs.Prelude.{OnOk, OnErr, IfErr}
use Rattle.lapd_frame.specs.declared.Side.{Side}
use Rattle.lapd_frame.specs.declared.Address.{Address}
use Rattle.lapd_frame.specs.declared.fault_kind.FaultKind.{FaultKind}
use Rattle.lapd_link_definition.specs.Input.{Faulty, Heard}
use Rattle.lapd_frame.specs.Frame.{Fields}
use Rattle.lapd_table.specs.declared.link_id.LinkId.{LinkId}
use Rattle.lapd_table.specs.LinkId.{id_of_address}
use Rattle.lapd_sides_links.specs.declared.side_fault.SideKind.{SideKind}
use Rattle.lapd_sides_links.specs.declared.link_set.LinkSet.{LinkSet}
use Rattle.lapd_sides_links.specs.Effects.{Effects, no_effects}
use Rattle.lapd_sides_links.specs.Links.{Links, Reaction, in_links, link_acts}
use Rattle.lapd_sides_links.specs.Shown.{ShowLinks, HaveActed, LinksDo, LinksRefuseAs, ShowsLinksAsBefore}
use Rattle.lapd_sides.specs.declared.links_and_timer.LinksAndTimer.{LinksAndTimer}
use Rattle.lapd_sides.specs.Management.{one_more}
use Rattle.lapd_sides.specs.Shows.{HaveReceived, HaveStepped, Receive, fault_on_links, frame_on_links}

-- ---- Frames.

-- a link takes its step
pub received_by : (side : Side) (old new : LinksAndTimer) (before acts : Effects) (links : Links)
    (outcome : Result (Reaction Links) SideKind) → before ≡ no_effects
    → HaveActed side new.links before acts outcome → new.discarded ≡ old.discarded
    → new.timers ≡ old.timers → HaveReceived side old new acts links outcome
received_by side old new before acts links outcome empty h counted timers =
    let done = subst (λ (e : Effects). HaveActed side new.links e acts outcome) empty h in
    subst (HaveReceived side old new acts links) (sym done.is)
    (record { shown = done.shown; given = done.given; counted = counted; timers = timers })

-- or the frame is discarded, and counted
pub discarded_by : (side : Side) (old new : LinksAndTimer) (before acts : Effects) (links : Links)
    (outcome : Result (Reaction Links) SideKind) (kind : SideKind) → before ≡ no_effects
    → outcome ≡ Err kind → ShowLinks side new.links links → acts ≡ before
    → new.discarded ≡ one_more old.discarded → new.timers ≡ old.timers
    → HaveReceived side old new acts links outcome
discarded_by side old new before acts links outcome kind empty is shown nothing counted timers =
    subst (HaveReceived side old new acts links) (sym is)
    (record { shown = shown; given = nothing ∙ empty; counted = counted; timers = timers })

-- the frame is for the link with its address
pub addressed : (side : Side) (old new : LinksAndTimer) (acts : Effects) (links : Links) (now : ℕ)
    (frame : Fields) (id : LinkId) (address : Address) (octets : List ℕ)
    → id ≡ id_of_address address → address ≡ frame.address → octets ≡ frame.info
    → HaveReceived side old new acts links
    (in_links id (link_acts side id now (Heard frame.control frame.address.role) octets) links)
    → HaveReceived side old new acts links (frame_on_links now frame side links)
addressed side old new acts links now frame id address octets named of same h =
    subst (λ (o : List ℕ). HaveReceived side old new acts links
    (in_links (id_of_address frame.address)
    (link_acts side (id_of_address frame.address) now
    (Heard frame.control frame.address.role) o) links)) same
    (subst (λ (i : LinkId). HaveReceived side old new acts links
    (in_links i (link_acts side i now (Heard frame.control frame.address.role) octets)
    links)) (named ∙ ap (λ (a : Address). id_of_address a) of) h)

-- a link takes its step for the frame
pub received_at_once : (old : LinksAndTimer) (links : LinkSet) (before acts : Effects) (now : ℕ)
    (frame : Fields) → before ≡ no_effects
    → LinksDo old.links links before acts (λ side. in_links (id_of_address frame.address)
    (link_acts side (id_of_address frame.address) now
    (Heard frame.control frame.address.role) frame.info))
    → Receive old (record old { links = links }) acts (frame_on_links now frame)
received_at_once old links before acts now frame empty does = λ side l here.
    received_by side old (record old { links = links }) before acts l _ empty (does side l here)
    refl refl

-- and so is a fault with an address
pub faulty : (side : Side) (old new : LinksAndTimer) (acts : Effects) (links : Links) (now : ℕ)
    (kind : FaultKind) (found : Option Address) (address : Address) (id : LinkId)
    → found ≡ Some address → id ≡ id_of_address address
    → HaveReceived side old new acts links
    (in_links id (link_acts side id now (Faulty kind) []) links)
    → HaveReceived side old new acts links (fault_on_links now kind found side links)
faulty side old new acts links now kind found address id is named h =
    subst (λ (f : Option Address). HaveReceived side old new acts links
    (fault_on_links now kind f side links)) (sym is)
    (subst (λ (i : LinkId). HaveReceived side old new acts links
    (in_links i (link_acts side i now (Faulty kind) []) links)) named h)

pub unaddressed : (side : Side) (old new : LinksAndTimer) (acts : Effects) (links : Links) (now : ℕ)
    (kind : FaultKind) (found : Option Address) → found ≡ None
    → acts ≡ no_effects → ShowLinks side new.links links → new.discarded ≡ one_more old.discarded
    → new.timers ≡ old.timers
    → HaveReceived side old new acts links (fault_on_links now kind found side links)
unaddressed side old new acts links now kind found is empty shown counted timers =
    subst (λ (f : Option Address). HaveReceived side old new acts links
    (fault_on_links now kind f side links)) (sym is)
    (record { shown = shown; given = empty; counted = counted; timers = timers })

-- ---- Expiries.

-- a link takes its step, or nothing happens
pub stepped : (result : Result (Unit {0}) SideKind) (side : Side) (links : Links)
    (old new : LinksAndTimer) (before acts : Effects)
    (step : Side → Links → Result (Reaction Links) SideKind) → before ≡ no_effects
    → ShowLinks side old.links links
    → OnOk result (LinksDo old.links new.links before acts step)
    → IfErr result (LinksRefuseAs old.links step)
    → OnErr result (ShowsLinksAsBefore old.links new.links) → OnErr result (acts ≡ before)
    → HaveStepped side new acts links (step side links)
stepped (Ok u) side links old new before acts step empty here ok err same nothing =
    let done =
    subst (λ (e : Effects). HaveActed side new.links e acts (step side links)) empty
    (ok side links here) in
    subst (HaveStepped side new acts links) (sym done.is)
    (record { shown = done.shown; given = done.given })
stepped (Err kind) side links old new before acts step empty here ok err same nothing =
    subst (HaveStepped side new acts links) (sym (err side links here))
    (record { shown = same side links here; given = nothing ∙ empty })
