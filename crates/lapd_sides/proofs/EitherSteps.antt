-- The steps of a side of either kind, by its links.
use Rattle.std.proofs.Common.{◌≡◌, ℕ, List, [], false, Some, None, Result, Ok, refl, sym, ap, subst, ◌∙◌}
use Rattle.lapd_frame.specs.declared.predicted_frame.PredictedFrame.{PredictedFrame}
use Rattle.lapd_frame.specs.declared.Side.{Side}
use Rattle.lapd_frame.specs.declared.Side.TheVariants as side
use Rattle.lapd_frame.specs.PredictedFrame.{predicted_fields}
use Rattle.lapd_frame.specs.Reading.{frame_at}
use Rattle.lapd_link_definition.specs.Input.{Give}
use Rattle.lapd_table.specs.declared.link_id.LinkId.{LinkId}
use Rattle.lapd_tei.specs.declared.phase.Phase.{Phase}
use Rattle.lapd_sides_links.specs.declared.at_once.AtOnce.{AtOnce}
use Rattle.lapd_sides_links.specs.declared.link_set.LinkSet.{LinkSet}
use Rattle.lapd_sides_links.specs.Effects.{Adds, Effects, no_effects}
use Rattle.lapd_sides_links.specs.Links.{gives_at_once, in_links, link_acts}
use Rattle.lapd_sides_links.specs.Messages.{Message, SendsAtOnce}
use Rattle.lapd_sides_links.specs.Shown.{LinksDo, LinksHaveNone, ShowLinks}
use Rattle.lapd_sides.specs.declared.either_side.EitherSide.{EitherSide}
use Rattle.lapd_sides.specs.declared.either_side.EitherSide.TheVariants as either
use Rattle.lapd_sides.specs.declared.links_and_timer.LinksAndTimer.{LinksAndTimer}
use Rattle.lapd_sides.specs.declared.request.Request.TheVariants as request
use Rattle.lapd_sides.specs.Either.{Answers, PredictsNone, SendsNone, Takes, meant_by, served_of, side_of, with_served}
use Rattle.lapd_sides.specs.Meant.{gives_to_link, gives_to_own_link, predicted_is_not_for_layer_3}
use Rattle.lapd_sides.specs.Network.{network_rules}
use Rattle.lapd_sides.specs.Shows.{Receive, are_predicted, frame_on_links}
use Rattle.lapd_sides.specs.ShowsNetwork.{is_assigner}
use Rattle.lapd_sides.specs.ShowsUser.{ShowTerminal}
use Rattle.lapd_frame.specs.Address.{other_side}
use Rattle.lapd_sides.specs.User.{own_link, user_rules}
use Rattle.lapd_sides.proofs.Calling.{sends_so}
use Rattle.lapd_sides.proofs.Steps.{predicted, sends_none_by, sent}

-- its link predicts a frame, and has processed it
pub takes_predicted : (s : EitherSide) (served : LinksAndTimer) (octets : List ℕ)
    (p : PredictedFrame) (now : ℕ) (acts : Effects)
    → frame_at (other_side (side_of s)) octets ≡ Ok (predicted_fields p)
    → Receive (served_of s) served acts (frame_on_links now (predicted_fields p))
    → Takes octets now (Ok tt) s (with_served s served) acts
takes_predicted (either.Network code) served octets p now acts found does =
    predicted is_assigner network_rules (λ config p. refl) code served octets p now acts found does
takes_predicted (either.User code) served octets p now acts found does =
    predicted ShowTerminal user_rules predicted_is_not_for_layer_3 code served octets p now acts
    found does

-- the octets are not those of a frame that its link predicts
pub declines : (s : EitherSide) (octets : List ℕ) (served : LinksAndTimer) (from : Side)
    → served ≡ served_of s → from ≡ other_side (side_of s)
    → LinksHaveNone served.links (are_predicted (frame_at from octets)) → PredictsNone octets s
declines (either.Network code) octets served from own other none = λ config s shown.
    subst (λ (f : Side). are_predicted (frame_at f octets) s.served.links ≡ false) other
    (none side.Network s.served.links (subst
    (λ (l : LinksAndTimer). ShowLinks side.Network l.links s.served.links) (sym own)
    shown.served.links))
declines (either.User code) octets served from own other none = λ config s shown.
    subst (λ (f : Side). are_predicted (frame_at f octets) s.served.links ≡ false) other
    (none side.User s.served.links (subst
    (λ (l : LinksAndTimer). ShowLinks side.User l.links s.served.links) (sym own)
    shown.served.links))

-- the link that is meant has sent a message
sends : (s : EitherSide) (links : LinkSet) (id own : LinkId) (message : Message) (now : ℕ)
    (acts : Effects) → meant_by s id ≡ Some own
    → LinksDo (served_of s).links links no_effects acts (λ at. in_links own
    (link_acts at own now (Give message.items) []))
    → Answers (request.Give id message) now (Ok tt) s
    (with_served s (record (served_of s) { links = links })) acts
sends (either.Network code) links id own message now acts meant does =
    sent is_assigner network_rules gives_to_link code links id own message now acts
    (λ m shown. meant) does
sends (either.User code) links id own message now acts meant does =
    sent ShowTerminal user_rules gives_to_own_link code links id own message now acts
    (λ m shown. ap (λ (phase : Phase). own_link phase id) (sym shown.terminal) ∙ meant) does

-- it has not sent it
sends_none : (s : EitherSide) (id own : LinkId) (octets : List ℕ) → meant_by s id ≡ Some own
    → LinksHaveNone (served_of s).links (λ links. gives_at_once octets (links own))
    → SendsNone id octets s
sends_none (either.Network code) id own octets meant none = λ config s shown.
    sends_none_by _ own octets s.served.links meant
    (none side.Network s.served.links shown.served.links)
sends_none (either.User code) id own octets meant none = λ config s shown.
    sends_none_by _ own octets s.served.links
    (ap (λ (phase : Phase). own_link phase id) (sym shown.management.terminal) ∙ meant)
    (none side.User s.served.links shown.served.links)

-- no link is meant
pub means_none : (s : EitherSide) (id : LinkId) (octets : List ℕ) → meant_by s id ≡ None
    → SendsNone id octets s
means_none (either.Network code) id octets none = absurd (cc)
means_none (either.User code) id octets none = λ config s shown.
    rw (ap (λ (phase : Phase). own_link phase id) (sym shown.management.terminal) ∙ none) refl

same_side : (s : EitherSide) → with_served s (served_of s) ≡ s
same_side (either.Network code) = refl
same_side (either.User code) = refl

-- the link that is meant sends a message at once, or the side is unchanged
pub sends_or_not : (s : EitherSide) (served : LinksAndTimer) (links : LinkSet) (id own : LinkId)
    (octets : List ℕ) (now : ℕ) (before after : Effects) (result : AtOnce)
    → served ≡ served_of s → meant_by s id ≡ Some own
    → SendsAtOnce octets (λ message. Adds before after
    (λ given. LinksDo served.links links no_effects given (λ at. in_links own
    (link_acts at own now (Give message.items) []))))
    (LinksHaveNone served.links (λ links. gives_at_once octets (links own)))
    ((links ≡ served.links) × (after ≡ before)) result
    → SendsAtOnce octets (λ message. Adds before after
    (Answers (request.Give id message) now (Ok tt) s
    (with_served s (record served { links = links })))) (SendsNone id octets s)
    ((with_served s (record served { links = links }) ≡ s) × (after ≡ before)) result
sends_or_not s served links id own octets now before after result is meant h =
    sends_so octets before after _ _ _ _ _ _ result
    (λ message given does. subst (λ (l : LinksAndTimer).
    LinksDo l.links links no_effects given (λ at. in_links own
    (link_acts at own now (Give message.items) []))
    → Answers (request.Give id message) now (Ok tt) s
    (with_served s (record l { links = links })) given) (sym is)
    (sends s links id own message now given meant) does)
    (λ none. sends_none s id own octets meant (subst (λ (l : LinksAndTimer).
    LinksHaveNone l.links (λ links. gives_at_once octets (links own))) is none))
    (λ same. (
      ap (λ (l : LinkSet). with_served s (record served { links = l })) same.0
          ∙ ap (with_served s) is ∙ same_side s,
      same.1,
    )) h
