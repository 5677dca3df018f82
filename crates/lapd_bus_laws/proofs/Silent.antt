-- A terminal without a link sends nothing for it, delivers nothing about it, and stays without it
-- unless its TEI is obtained.
use Rattle.std.proofs.Common.{◌≡◌, inl, inr, ℕ, ◌<◌, true, [], None, refl, ◌∙◌}
use Rattle.std.specs.List.{list_any}
use Rattle.std.proofs.lemmas.List.Elements.{filter-append, filter_map-append}
use Rattle.lapd_frame.specs.declared.Side.TheVariants as side
use Rattle.lapd_table.specs.declared.link_id.LinkId.{LinkId}
use Rattle.lapd_sides_links.specs.declared.config.Config.{Config}
use Rattle.lapd_sides_links.specs.Links.{Reaction}
use Rattle.lapd_sides.specs.User.{User}
use Rattle.lapd_two_side_laws.specs.Addressed.{is_for, those_for}
use Rattle.lapd_side_events.specs.Interface.{fresh_link, user_behaviour}
use Rattle.lapd_two_side_laws.specs.Owed.{IsUnmovedBy}
use Rattle.lapd_two_side_laws.specs.Premises.{is_removal, IsGivenOnce}
use Rattle.lapd_two_side_laws.specs.Primitives.{what_for, link_primitives}
use Rattle.lapd_side_events.specs.SideView.{Behaviour, SideView, SideEvent, reaction, does}
use Rattle.lapd_two_side_laws.proofs.Users.{reacts_without}
use Rattle.lapd_two_side_laws.proofs.Reactions.{moment_or}

module _ (config : Config) (id : LinkId) (low : id.tei < 127) where
  abbrev W : Behaviour User
  W = user_behaviour config

  pub record IsSilent (a : Reaction User) : Type 0 where
    pub links : a.after.served.links id ≡ None
    pub frames : those_for side.User id a.effects.frames ≡ []
    pub delivered : link_primitives id a.effects.primitives ≡ []

  -- the TEI is neither obtained nor reported as removed
  abbrev pub Keeps : User → Reaction User → Type 0
  Keeps s a = IsGivenOnce id s.served.links true a.effects
      × (list_any (is_removal id.tei) a.effects.primitives ≡ true → ⊥)

  by_unmoved : (now : ℕ) (s : User) (a : Reaction User) → s.served.links id ≡ None → Keeps s a
      → IsUnmovedBy side.User id now (fresh_link config id) true s.served.links a.after.served.links
      a.effects → IsSilent a
  by_unmoved now s a none stays (inl passes) = record {
    links = passes.links ∙ none;
    frames =
        passes.frames;
    delivered = passes.delivered;
  }
  by_unmoved now s a none stays (inr (inl arrives)) = let no = arrives.not_removed in cc
  by_unmoved now s a none stays (inr (inr removal)) = absurd (stays.1 removal.reporting)

  reacts : (event : SideEvent) (v : SideView User) → v.now.served.links id ≡ None
      → Keeps v.now (reaction W event v) → IsSilent (reaction W event v)
  reacts event v none stays = by_unmoved (moment_or 0 event) v.now (reaction W event v) none stays
      (reacts_without config id low true 0 event v none stays.0)

  -- The terminal stays without the link, nothing of it is on its line to the network, and it
  -- delivers nothing about it.
  pub record StaysSilent (v : SideView User) : Type 0 where
    pub links : v.now.served.links id ≡ None
    pub line : those_for side.User id v.outgoing ≡ []
    pub delivered : link_primitives id v.delivered ≡ []

  pub stays_silent : (event : SideEvent) (v : SideView User) → StaysSilent v
      → Keeps v.now (reaction W event v) → StaysSilent (does W event v)
  unfolding does
  stays_silent event v h stays =
      let a = reaction W event v in
      let r = reacts event v h.links stays in
      record {
        links = r.links;
        line = filter-append (is_for side.User id) v.outgoing a.effects.frames
            ∙ rw (h.line, r.frames) refl;
        delivered = filter_map-append (what_for id) v.delivered a.effects.primitives
            ∙ rw (h.delivered, r.delivered) refl;
      }
