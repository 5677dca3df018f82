-- How a side serves each of its links. The link's own octets, timers and requests are steps of the
-- state table. Everything else leaves the link, its timers and its frames unchanged, unless its TEI
-- is assigned or removed.
use Rattle.std.specs.Prelude.{◌≡◌, ◌⊎◌, ℕ, Bool, true, false, List, [], length, Option, Some, None, Ok}
use Rattle.std.specs.List.{filter_map, list_any}
use Rattle.lapd_timers.specs.declared.timer.Timer.{Timer}
use Rattle.lapd_timers.specs.Due.{Timers}
use Rattle.lapd_frame.specs.declared.Side.{Side}
use Rattle.lapd_frame.specs.Address.{other_side}
use Rattle.lapd_frame.specs.Frame.{content_fault}
use Rattle.lapd_mod128.specs.Counting.{Tagged}
use Rattle.lapd_link_definition.specs.Counts.{messages_of}
use Rattle.lapd_link_definition.specs.End.{StepState}
use Rattle.lapd_link_definition.specs.Input.{Input, Heard, Expiry, Establish}
use Rattle.lapd_link_definition.specs.Table.{step}
use Rattle.lapd_pair_laws.specs.Line.{Flight}
use Rattle.lapd_pair_laws.specs.Move as world
use Rattle.lapd_pair_laws.specs.Move.{View, acts, takes}
use Rattle.lapd_table.specs.declared.link_id.LinkId.{LinkId}
use Rattle.lapd_table.specs.LinkId.{id_eq, setup_for}
use Rattle.lapd_sides_links.specs.declared.primitive.What.{What}
use Rattle.lapd_sides_links.specs.Effects.{Effects, sent_by, what_of, timed, stopped}
use Rattle.lapd_sides_links.specs.Links.{Links, Linked, Reaction, with_link}
use Rattle.lapd_sides.specs.declared.request.Request.{Request}
use Rattle.lapd_two_side_laws.specs.Addressed.{is_for, those_for, spelled}
use Rattle.lapd_two_side_laws.specs.Premises.{is_removal, IsGivenOnce}
use Rattle.lapd_two_side_laws.specs.Projects.{IsTimed}
use Rattle.lapd_side_events.specs.SideView.{Behaviour, accepted_by}
use Rattle.lapd_two_side_laws.specs.Primitives.{link_primitives, given_to, Known, learns_all, AreExpectedOfLink}

-- ---- An event of a side does nothing to one of its links, or one step.

-- the link stays unchanged, and no frame and no primitive is for it
pub record PassesBy (side : Side) (id : LinkId) (before now : Links) (effects : Effects) : Type 0
  where
    pub links : now id ≡ before id
    pub frames : those_for side id effects.frames ≡ []
    pub delivered : link_primitives id effects.primitives ≡ []

-- The link does a step of the state table, and the frames and primitives for the link are those of
-- the step. Before the step, `change` leaves the link's timers unchanged or stops an expired one.
pub record IsStep (side : Side) (id : LinkId) (at : ℕ) (input : Input) (octets : List ℕ)
    (change : Timers → Timers) (before now : Links) (effects : Effects) : Type 0 where
  pub linked : Linked
  pub was : before id ≡ Some linked
  pub done : StepState
  pub is : step Tagged input linked.end ≡ Ok done
  pub links : now id
      ≡ Some (record { end = done.end; timers = timed at done.outs (change linked.timers) })
  pub frames : those_for side id effects.frames
      ≡ filter_map (sent_by (setup_for side id) done.end octets) done.outs
  pub delivered : link_primitives id effects.primitives ≡ filter_map (what_of octets) done.outs

-- The link joins as a new one, if its TEI was not removed before. Then it stays unchanged, or does
-- the establishment that was kept for it.
pub record IsAddition (side : Side) (id : LinkId) (at : ℕ) (fresh : Linked) (removed : Bool)
    (before now : Links) (effects : Effects) : Type 0 where
  pub absent : before id ≡ None
  pub not_removed : removed ≡ false
  pub arrives : PassesBy side id (with_link id (Some fresh) before) now effects
      ⊎ IsStep side id at Establish [] (λ t. t) (with_link id (Some fresh) before) now effects

-- primitives for a link that is removed: they change nothing that layer 3 knows, and report no
-- error
pub record AreSilent (reports_of_link : List What) : Type 0 where
  pub teaches : (k : Known) → learns_all reports_of_link k ≡ k
  pub expected : AreExpectedOfLink reports_of_link

-- the link is removed with its TEI
pub record IsRemoval (side : Side) (id : LinkId) (now : Links) (effects : Effects) : Type 0 where
  pub now_absent : now id ≡ None
  pub frames : those_for side id effects.frames ≡ []
  pub delivered : AreSilent (link_primitives id effects.primitives)
  pub reporting : list_any (is_removal id.tei) effects.primitives ≡ true

-- the event is no step of an existing link: it leaves the link unchanged, creates it or removes it
abbrev pub IsUnmovedBy : Side → LinkId → ℕ → Linked → Bool → Links → Links → Effects → Type 0
IsUnmovedBy side id at fresh removed before now effects = PassesBy side id before now effects
    ⊎ (IsAddition side id at fresh removed before now effects ⊎ IsRemoval side id now effects)

-- an accepted request is a move of the link (`IsRequest`), or no step of it (`IsNoRequest`)
pub record IsRequest (side : Side) (id : LinkId) (now : ℕ) (before after : Links)
    (effects : Effects) (given : List (LinkId × List ℕ)) : Type 0 where
  pub event : world.PairEvent
  pub input : Input
  pub octets : List ℕ
  pub is_event : (v : View) → acts Tagged side event v ≡ takes Tagged input octets v
  pub no_expiry : (timer : Timer) → input ≡ Expiry timer → ⊥
  pub is_step : IsStep side id now input octets (λ t. t) before after effects
  pub given_is : given_to id given ≡ messages_of input

pub record IsNoRequest (side : Side) (id : LinkId) (now : ℕ) (fresh : Linked) (removed : Bool)
    (before after : Links) (effects : Effects) (given : List (LinkId × List ℕ)) : Type 0 where
  pub proceeds : IsUnmovedBy side id now fresh removed before after effects
  pub none_given : given_to id given ≡ []

-- ---- Every event of a side.

-- Octets of other links, other timers and other requests are no step of the link, if its TEI is
-- assigned once. The link's own are steps of it. Octets for a link that does not exist are
-- discarded.
pub record ServesLink {S : Type 0} (w : Behaviour S) (side : Side) (id : LinkId) (removed : Bool)
    : Type 0 where
  pub takes_other : (octets : List ℕ) (now : ℕ) (s : S) → is_for (other_side side) id octets ≡ false
      → IsGivenOnce id (w.served s).links removed (w.takes octets now s).effects
      → IsUnmovedBy side id now (w.fresh id) removed (w.served s).links
      (w.served (w.takes octets now s).after).links (w.takes octets now s).effects
  pub takes_own : (frame : Flight) (now : ℕ) (s : S) (l : Linked) (d : StepState)
      → content_fault frame.role frame.control (length frame.info) ≡ None
      → (w.served s).links id ≡ Some l
      → step Tagged (Heard frame.control frame.role) l.end ≡ Ok d
      → IsStep side id now (Heard frame.control frame.role) frame.info (λ t. t) (w.served s).links
      (w.served (w.takes (spelled (other_side side) id frame) now s).after).links
      (w.takes (spelled (other_side side) id frame) now s).effects
  pub takes_absent : (frame : Flight) (now : ℕ) (s : S)
      → content_fault frame.role frame.control (length frame.info) ≡ None
      → (w.served s).links id ≡ None
      → PassesBy side id (w.served s).links
      (w.served (w.takes (spelled (other_side side) id frame) now s).after).links
      (w.takes (spelled (other_side side) id frame) now s).effects
  pub expires_other : (now : ℕ) (timer : Timer) (of : Option LinkId) (s : S)
      → ((other : LinkId) → of ≡ Some other → id_eq id other ≡ false)
      → IsGivenOnce id (w.served s).links removed (w.expires now timer of s).effects
      → IsUnmovedBy side id now (w.fresh id) removed (w.served s).links
      (w.served (w.expires now timer of s).after).links (w.expires now timer of s).effects
  pub expires_own : (now : ℕ) (timer : Timer) (s : S) (l : Linked) (d : StepState)
      → (w.served s).links id ≡ Some l → step Tagged (Expiry timer) l.end ≡ Ok d
      → IsStep side id now (Expiry timer) [] (stopped timer) (w.served s).links
      (w.served (w.expires now timer (Some id) s).after).links
      (w.expires now timer (Some id) s).effects
  pub asked : (request : Request) (now : ℕ) (s : S) (a : Reaction S)
      → w.requested request now s ≡ Ok a
      → IsGivenOnce id (w.served s).links removed a.effects
      → IsNoRequest side id now (w.fresh id) removed (w.served s).links (w.served a.after).links
      a.effects (accepted_by w request now s)
      ⊎ IsRequest side id now (w.served s).links (w.served a.after).links a.effects
      (accepted_by w request now s)
  pub fresh_is_timed : IsTimed (w.fresh id)
