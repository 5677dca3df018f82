-- A side of either kind submits a copy of a message.
use Rattle.std.proofs.Common.{◌≡◌, ◌⊎◌, inl, inr, ℕ, List, Some, Result, sym, ap, subst}
use Rattle.std.specs.Prelude.{⊤}
use Rattle.lapd_table.specs.declared.link_id.LinkId.{LinkId}
use Rattle.lapd_sides_links.specs.declared.side_fault.SideFault.{SideFault}
use Rattle.lapd_sides_links.specs.Effects.{Effects}
use Rattle.lapd_sides.specs.declared.either_side.EitherSide.{EitherSide}
use Rattle.lapd_sides.specs.declared.either_side.EitherSide.TheVariants.{Network, User}
use Rattle.lapd_sides.specs.declared.request.Request.TheVariants.{Give}
use Rattle.lapd_sides.specs.Either.{Gives}
use Rattle.lapd_sides.specs.Network.{network_requested}
use Rattle.lapd_sides_links.specs.Messages.{WithMessage}
use Rattle.lapd_sides.specs.Requests.{LacksMessage}
use Rattle.lapd_sides.specs.Calls.{Answers}
use Rattle.lapd_sides.specs.ShowsNetwork.{NetSide, ShowNetwork}
use Rattle.lapd_sides.specs.ShowsUser.{ShowUser, UserSide}
use Rattle.lapd_sides.specs.User.{user_requested}

module _ (id : LinkId) (octets : List ℕ) (now : ℕ) (result : Result ⊤ SideFault) (side : EitherSide)
    (acts : Effects) where
  pub network_gives : (old new : NetSide) → side ≡ Network old
      → LacksMessage result old new acts
      ⊎ WithMessage octets (λ message. Answers ShowNetwork result old new acts (Some message)
      (λ config. network_requested config (Give id message) now))
      → Gives id octets now result side (Network new) acts
  network_gives old new is h =
      subst (λ (x : EitherSide). Gives id octets now result x (Network new) acts) (sym is) (elim h [
        | inl lacks ↦ inl (record {
          refused = lacks.refused;
          unchanged = ap (λ (s : NetSide). Network s) lacks.unchanged;
          nothing = lacks.nothing;
        })
        | inr copied ↦ inr (record {
          message = copied.message;
          items = copied.items;
          asks = copied.asks;
        })
      ])

  pub user_gives : (old new : UserSide) → side ≡ User old
      → LacksMessage result old new acts
      ⊎ WithMessage octets (λ message. Answers ShowUser result old new acts (Some message)
      (λ config. user_requested config (Give id message) now))
      → Gives id octets now result side (User new) acts
  user_gives old new is h =
      subst (λ (x : EitherSide). Gives id octets now result x (User new) acts) (sym is) (elim h [
        | inl lacks ↦ inl (record {
          refused = lacks.refused;
          unchanged = ap (λ (s : UserSide). User s) lacks.unchanged;
          nothing = lacks.nothing;
        })
        | inr copied ↦ inr (record {
          message = copied.message;
          items = copied.items;
          asks = copied.asks;
        })
      ])
