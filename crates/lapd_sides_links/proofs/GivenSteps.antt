-- The outputs of a message that is sent at once: its frame and its timers. It has no primitive.
use Rattle.std.proofs.Common.{◌≡◌, ℕ, true, false, List, [], ◌∷◌, ◌++◌, map, Option, Some, None, option_map, Result, append-nil, refl, sym, ap, subst, ◌∙◌}
use Rattle.std.specs.List.{filter_map}
use Rattle.std.proofs.lemmas.List.Elements.{filter_map-append}
use Rattle.lapd_frame.specs.Control.{field_of_message}
use Rattle.lapd_frame.specs.declared.Control.{Control}
use Rattle.lapd_timers.specs.Due.{Timers}
use Rattle.lapd_link.specs.Link.{Setup}
use Rattle.lapd_link_definition.specs.declared.out.Out.{Out}
use Rattle.lapd_link_definition.specs.declared.out.Out.TheVariants.{SendMessage}
use Rattle.lapd_link_definition.specs.End.{End}
use Rattle.lapd_link_definition.specs.Input.{Give}
use Rattle.lapd_link_machine.specs.declared.machine.given.GivenOuts.{GivenOuts}
use Rattle.lapd_link_machine.specs.declared.machine.given.SendEffect.{SendEffect}
use Rattle.lapd_link_machine.specs.declared.machine.given.SendEffect.TheVariants.{Nothing, Starts}
use Rattle.lapd_link_machine.specs.Given.{given_outs, send_outs}
use Rattle.lapd_table.specs.declared.link_id.LinkId.{LinkId}
use Rattle.lapd_sides_links.specs.declared.primitive.Primitive.{Primitive}
use Rattle.lapd_sides_links.specs.declared.primitive.Primitive.TheVariants.{Of}
use Rattle.lapd_frame.specs.declared.Side.{Side}
use Rattle.lapd_sides_links.specs.declared.link_set.LinkSet.{LinkSet}
use Rattle.lapd_sides_links.specs.declared.side_fault.SideKind.{SideKind}
use Rattle.lapd_sides_links.specs.Effects.{Effects, timed, what_of}
use Rattle.lapd_sides_links.specs.Links.{Links, Reaction, in_links, link_acts}
use Rattle.lapd_sides_links.specs.Messages.{Message}
use Rattle.lapd_sides_links.specs.Shown.{made_by, LinksDo, LinksRefuseAs}

module _ (setup : Setup) (e : End) (octets : List ℕ) where
  abbrev made : List Out → List (List ℕ)
  made outs = filter_map (made_by setup e octets) outs

  no_frame_of_effect : (effect : SendEffect) → made (send_outs effect) ≡ []
  no_frame_of_effect Nothing = refl
  no_frame_of_effect (Starts true) = refl
  no_frame_of_effect (Starts false) = refl

  pub given_frames_put : (g : GivenOuts) (f0 f1 : List (List ℕ))
      → f1 ≡ f0 ++ made (SendMessage g.place (field_of_message g.field) ∷ [])
      → f1 ≡ f0 ++ made (given_outs g)
  given_frames_put g f0 f1 a =
      a
      ∙ ap (λ (l : List (List ℕ)). f0 ++ l)
      (sym (filter_map-append (made_by setup e octets)
      (SendMessage g.place (field_of_message g.field) ∷ []) (send_outs g.effect)
      ∙ rw (no_frame_of_effect g.effect)
      (append-nil (made (SendMessage g.place (field_of_message g.field) ∷ [])))))

module _ (id : LinkId) where
  abbrev delivered : List Out → List Primitive
  delivered outs = map (Of id) (filter_map (what_of []) outs)

  nothing_delivered : (place : ℕ) (control : Control) (effect : SendEffect)
      → delivered (SendMessage place control ∷ send_outs effect) ≡ []
  nothing_delivered place control Nothing = refl
  nothing_delivered place control (Starts true) = refl
  nothing_delivered place control (Starts false) = refl

  pub given_primitives_put : (g : GivenOuts) (p0 p1 : List Primitive) → p1 ≡ p0
      → p1 ≡ p0 ++ delivered (given_outs g)
  given_primitives_put g p0 p1 a =
      a
      ∙ (sym (append-nil p0)
      ∙ ap (λ (l : List Primitive). p0 ++ l)
      (sym (nothing_delivered g.place (field_of_message g.field) g.effect)))

module _ (now : ℕ) where
  pub given_timed : (g : GivenOuts) (o : Option Timers)
      → option_map (timed now (send_outs g.effect)) o ≡ option_map (timed now (given_outs g)) o
  given_timed g None = refl
  given_timed g (Some t) = refl

  pub nothing_timed : (o : Option Timers) → o ≡ option_map (timed now (send_outs Nothing)) o
  nothing_timed None = refl
  nothing_timed (Some t) = refl

-- ---- A message that was not sent at once is returned, for the link that was found.

-- a message is submitted to the link with this id
abbrev pub gives : ℕ → LinkId → Message → Side → Links → Result (Reaction Links) SideKind
gives now id message side = in_links id (link_acts side id now (Give message.items) [])

module _ (now : ℕ) (found id : LinkId) (same_id : found ≡ id) (back message : Message)
    (same : back ≡ message) where
  pub do_as_given : (old new : LinkSet) (before after : Effects)
      → LinksDo old new before after (gives now found back)
      → LinksDo old new before after (gives now id message)
  do_as_given old new before after h =
      subst (λ (i : LinkId). LinksDo old new before after (gives now i message)) same_id
      (subst (λ (m : Message). LinksDo old new before after (gives now found m)) same h)

  pub refuse_as_given : (old : LinkSet) (kind : SideKind)
      → LinksRefuseAs old (gives now found back) kind
      → LinksRefuseAs old (gives now id message) kind
  refuse_as_given old kind h =
      subst (λ (i : LinkId). LinksRefuseAs old (gives now i message) kind) same_id
      (subst (λ (m : Message). LinksRefuseAs old (gives now found m) kind) same h)
