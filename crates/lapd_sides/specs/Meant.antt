-- The laws of the rules of both sides: no link predicts a frame for layer 3, and a message is for
-- the link that is meant.
use Rattle.std.specs.Prelude.{◌≡◌, ℕ, ◌&&◌, Bool, true, false, [], Some, Result, refl}
use Rattle.lapd_frame.specs.declared.predicted_frame.PredictedFrame.{PredictedFrame}
use Rattle.lapd_frame.specs.declared.predicted_frame.PredictedKind.{PredictedKind}
use Rattle.lapd_frame.specs.declared.predicted_frame.PredictedKind.TheVariants.{Message, Acknowledgement, Poll}
use Rattle.lapd_frame.specs.PredictedFrame.{predicted_control, predicted_fields}
use Rattle.lapd_link_definition.specs.Input.{Input, Give}
use Rattle.lapd_tei.specs.declared.phase.Phase.{Phase}
use Rattle.lapd_tei.specs.declared.phase.Phase.TheVariants.{Unassigned, Awaiting, Assigned}
use Rattle.lapd_table.specs.declared.link_id.LinkId.{LinkId}
use Rattle.lapd_sides_links.specs.declared.config.Config.{Config}
use Rattle.lapd_sides_links.specs.Links.{Reaction, is_served, of_sapi}
use Rattle.lapd_sides_links.specs.declared.side_fault.SideKind.{SideKind}
use Rattle.lapd_sides_links.specs.Messages as messages
use Rattle.lapd_sides.specs.declared.request.Request.TheVariants as request
use Rattle.lapd_frame.specs.declared.Side.TheVariants as side
use Rattle.lapd_sides.specs.Management.{is_ui, is_unit_to_group}
use Rattle.lapd_sides.specs.Network.{Network, network_requested, network_rules}
use Rattle.lapd_sides.specs.SideState.{link_of}
use Rattle.lapd_sides.specs.User.{User, for_layer_3, own_link, user_requested, with_tei_or}

-- ---- The network side.

pub gives_to_link : (config : Config) (id own : LinkId) (message : messages.Message) (now : ℕ)
    (s : Network) → network_rules.link_of_call s.management id ≡ Some own
    → network_requested config (request.Give id message) now s
    ≡ link_of side.Network now own (Give message.items) [] s
unfolding network_requested link_of
gives_to_link config id own message now s is = let same : id ≡ own = cc in rw same refl

-- ---- A user side.

not_both : (b : Bool) → (b && false) ≡ false
not_both true = refl
not_both false = refl

pub not_ui : (kind : PredictedKind) (nr : ℕ) → is_ui (predicted_control kind nr) ≡ false
not_ui (Message ns) nr = refl
not_ui Acknowledgement nr = refl
not_ui Poll nr = refl

pub predicted_is_no_group_unit : (p : PredictedFrame)
    → is_unit_to_group (predicted_fields p) ≡ false
predicted_is_no_group_unit p = rw (not_ui p.kind p.nr) refl

pub predicted_is_not_for_layer_3 : (config : Config) (p : PredictedFrame)
    → for_layer_3 config (predicted_fields p) ≡ false
predicted_is_not_for_layer_3 config p =
    rw (predicted_is_no_group_unit p) (not_both (is_served config p.sapi))

to_own_link : (phase : Phase) (id own : LinkId) (input : Input) (otherwise : Result (Reaction User) SideKind)
    (now : ℕ) (s : User) → own_link phase id ≡ Some own
    → with_tei_or now phase id.sapi input [] otherwise s ≡ link_of side.User now own input [] s
unfolding link_of
to_own_link Unassigned id own input otherwise now s is = absurd (cc)
to_own_link (Awaiting purpose count ri) id own input otherwise now s is = absurd (cc)
to_own_link (Assigned by tei) id own input otherwise now s is =
    let same : of_sapi id.sapi tei ≡ own = cc in rw same refl

pub gives_to_own_link : (config : Config) (id own : LinkId) (message : messages.Message) (now : ℕ)
    (s : User) → own_link s.management.terminal id ≡ Some own
    → user_requested config (request.Give id message) now s
    ≡ link_of side.User now own (Give message.items) [] s
unfolding user_requested
gives_to_own_link config id own message now s is =
    to_own_link s.management.terminal id own (Give message.items) _ now s is
