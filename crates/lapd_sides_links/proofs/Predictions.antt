-- The frames that a link predicts, and the room for the results of a predicted step.
use Rattle.std.proofs.Common.{◌≡◌, ◌≤◌, ◌+◌, ℕ, true, false, List, length, Option, Some, None, Result, refl, subst, arith}
use Rattle.std.specs.Prelude.{nat_le, IsSomeAnd}
use Rattle.std.proofs.Math.Bool.{and-false}
use Rattle.std.proofs.lemmas.Bool.{and_parts, leb-true}
use Rattle.lapd_frame.specs.declared.Control.{Control}
use Rattle.lapd_frame.specs.declared.Control.TheVariants.{I, Rr, Rnr, Rej, Sabme, Dm, Ui, Disc, Ua, Frmr, Xid}
use Rattle.lapd_frame.specs.declared.Role.{Role}
use Rattle.lapd_frame.specs.declared.Role.TheVariants.{Command, Answer}
use Rattle.lapd_frame.specs.declared.Side.{Side}
use Rattle.lapd_timers.specs.Due.{Timers}
use Rattle.lapd_frame.specs.PredictedFrame.{is_predictable, predicted_control, predicted_role}
use Rattle.lapd_frame.specs.declared.Number.{Number}
use Rattle.lapd_frame.specs.declared.predicted_frame.PredictedKind.{PredictedKind}
use Rattle.lapd_link.specs.Link.{LinkRepresents}
use Rattle.lapd_link.specs.declared.link.Link.{Link}
use Rattle.lapd_link_definition.specs.End.{End}
use Rattle.lapd_link_definition.specs.Input.{Input, Establish, Heard}
use Rattle.lapd_link_machine.specs.Bounds.{most_outputs}
use Rattle.lapd_link_machine.specs.Given.{is_sent_at_once}
use Rattle.lapd_link_machine.specs.Predicted.{is_idle, is_predicted, is_predicted_frame}
use Rattle.lapd_table.specs.declared.link_id.LinkId.{LinkId}
use Rattle.lapd_table.specs.LinkTable.{link_at, NotAtOnceAt, NotPredictedAt}
use Rattle.lapd_sides_links.specs.declared.acts.TheConstants.{MOST_FRAMES, MOST_PRIMITIVES}
use Rattle.lapd_sides_links.specs.declared.link_set.LinkSet.{LinkSet}
use Rattle.lapd_sides_links.specs.declared.side_fault.SideKind.{SideKind}
use Rattle.lapd_sides_links.specs.Effects.{Adds, Appends, Effects, no_effects}
use Rattle.lapd_sides_links.specs.Links.{Linked, Links, Reaction, gives_at_once, in_links, link_acts, predicts}
use Rattle.lapd_sides_links.specs.Rooms.{HasRoomFor, HasRoomForPredicted, has_room_for_predicted}
use Rattle.lapd_sides_links.specs.Shown.{timers_at, IsLinked, LinksDo, LinksHaveNone, ShowLinks}
use Rattle.lapd_sides_links.proofs.Acting.{done_alone, nothing_linked}

-- ---- Room.

-- the room is tested before
pub room_tested : (acts : Effects) → has_room_for_predicted acts ≡ true → HasRoomForPredicted acts
room_tested acts h =
    let both = and_parts (nat_le (length acts.frames + 2) MOST_FRAMES)
    (nat_le (length acts.primitives + 2) MOST_PRIMITIVES) h in
    record { frames = leb-true _ _ both.0; primitives = leb-true _ _ both.1 }

two_outputs : (input : Input) → 2 ≤ most_outputs input
two_outputs Establish = omega arith
two_outputs input = omega arith

-- room for any step for this input is room for a predicted one
pub room_for_predicted : (input : Input) (acts : Effects) → HasRoomFor input acts
    → HasRoomForPredicted acts
room_for_predicted input acts room = record {
  frames = omega (arith, room.frames, two_outputs input);
  primitives = omega (arith, room.primitives);
}

-- ---- A frame for the link that was found.

-- the link with this id processes a frame with this information
abbrev hears : ℕ → LinkId → Control → Role → List ℕ → Side → Links
    → Result (Reaction Links) SideKind
hears now id control role octets side =
    in_links id (link_acts side id now (Heard control role) octets)

pub do_as_found : (now : ℕ) (found id : LinkId) (same : found ≡ id) (control : Control)
    (role : Role) (octets : List ℕ) (old new : LinkSet) (before after : Effects)
    → LinksDo old new before after (hears now found control role octets)
    → LinksDo old new before after (hears now id control role octets)
do_as_found now found id same control role octets old new before after h =
    subst (λ (i : LinkId). LinksDo old new before after (hears now i control role octets)) same h

-- the frame is of the kind that was processed
pub acts_as_kind : (now : ℕ) (found id : LinkId) (same : found ≡ id) (kind known : PredictedKind)
    (is : kind ≡ known) (nr : Number) (octets : List ℕ) (old new : LinkSet) (before after : Effects)
    → Appends before after
    → LinksDo old new before after
    (hears now found (predicted_control known nr) (predicted_role known) octets)
    → Adds before after (λ given. LinksDo old new no_effects given
    (hears now id (predicted_control kind nr) (predicted_role kind) octets))
acts_as_kind now found id same kind known is nr octets old new before after appends does =
    rw is (done_alone old new before after _ appends
    (do_as_found now found id same _ _ octets old new before after does))

-- ---- The steps that are not made.

-- no link with this id has such a step, since the table's link has none
pub none_taken : (s : LinkSet) (id : LinkId) (control : Control) (role : Role)
    → NotPredictedAt s.table id control role
    → LinksHaveNone s (λ links. predicts control role (links id))
none_taken s id control role h side links shown =
    by (link_at s.table id) (timers_at s.link_timers id) (links id) h (shown.each id)
  where
    by : (link : Option Link) (timers : Option Timers) (l : Option Linked)
        → IsSomeAnd link
        (λ link. (e : End) → LinkRepresents link e → is_predicted control role e ≡ false)
        → IsLinked link timers l → predicts control role l ≡ false
    by link timers None none is = refl
    by None timers (Some l) none is = absurd none
    by (Some link) (Some timers) (Some l) none is = none l.end is.0
    by (Some link) None (Some l) none is = absurd is

pub none_given : (s : LinkSet) (id : LinkId) (message : List ℕ) → NotAtOnceAt s.table id message
    → LinksHaveNone s (λ links. gives_at_once message (links id))
none_given s id message h side links shown =
    by (link_at s.table id) (timers_at s.link_timers id) (links id) h (shown.each id)
  where
    by : (link : Option Link) (timers : Option Timers) (l : Option Linked)
        → IsSomeAnd link
        (λ link. (e : End) → LinkRepresents link e → is_sent_at_once message e ≡ false)
        → IsLinked link timers l → gives_at_once message l ≡ false
    by link timers None none is = refl
    by None timers (Some l) none is = absurd none
    by (Some link) (Some timers) (Some l) none is = none l.end is.0
    by (Some link) None (Some l) none is = absurd is

-- the link does not exist
pub no_link : (s : LinkSet) (id : LinkId) → link_at s.table id ≡ None
    → (side : Side) (links : Links) → ShowLinks side s links → links id ≡ None
no_link s id absent side links shown =
    nothing_linked (link_at s.table id) (timers_at s.link_timers id) (links id) absent
    (shown.each id)

-- a frame of no kind that is predicted makes no predicted step
not_predicted_frame : (control : Control) (role : Role) (e : End)
    → is_predictable control role ≡ false → is_predicted_frame control role e.window ≡ false
not_predicted_frame (I ns nr false) Command e h = cc
not_predicted_frame (I ns nr true) Command e h = refl
not_predicted_frame (I ns nr false) Answer e h = refl
not_predicted_frame (I ns nr true) Answer e h = refl
not_predicted_frame (Rr nr true) Command e h = cc
not_predicted_frame (Rr nr false) Command e h = refl
not_predicted_frame (Rr nr true) Answer e h = refl
not_predicted_frame (Rr nr false) Answer e h = cc
not_predicted_frame (Rnr nr pf) role e h = refl
not_predicted_frame (Rej nr pf) role e h = refl
not_predicted_frame (Sabme p) role e h = refl
not_predicted_frame (Dm f) role e h = refl
not_predicted_frame (Ui p) role e h = refl
not_predicted_frame (Disc p) role e h = refl
not_predicted_frame (Ua f) role e h = refl
not_predicted_frame (Frmr f) role e h = refl
not_predicted_frame (Xid pf) role e h = refl

pub not_predicted : (control : Control) (role : Role) (l : Option Linked)
    → is_predictable control role ≡ false → predicts control role l ≡ false
not_predicted control role None h = refl
not_predicted control role (Some l) h =
    rw (not_predicted_frame control role l.end h) (and-false (is_idle l.end))
