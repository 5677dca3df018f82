-- The link as a sender sees it, by the sender of the frame before.
use Rattle.std.proofs.Common.{◌≡◌, ℕ, Option, refl}
use Rattle.lapd_frame.specs.declared.Side.{Side}
use Rattle.lapd_frame.specs.declared.Side.TheVariants.{Network, User}
use Rattle.lapd_follow.specs.Exchange.{Exchange, turned}
use Rattle.lapd_follow.specs.Link.{seen_from, with_exchange}

pub seen_is_turned : (k : Option ℕ) (before now : Side) (x : Exchange)
    → seen_from now (with_exchange k before x) ≡ turned before now x
unfolding turned
seen_is_turned k User User x = refl
seen_is_turned k User Network x = refl
seen_is_turned k Network User x = refl
seen_is_turned k Network Network x = refl
