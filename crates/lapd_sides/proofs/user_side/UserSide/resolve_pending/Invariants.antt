use Rattle.std.proofs.Common.{◌≡◌, drop}
use Rattle.lapd_sides.specs.User.{User, pending_after}
use Rattle.lapd_sides.proofs.user_side.UserSide.resolve_pending.Given as goal

abbrev pub invariant-loop-out : goal.invariant-loop-out
invariant-loop-out l =
    ((s : User) → pending_after l.now (drop l.out-index l.outs) s ≡ pending_after l.now l.outs s)
    × ((l.self ≡ l.initial.self) × (l.acts ≡ l.initial.acts))
