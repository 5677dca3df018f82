use Rattle.std.proofs.Common.{sym, ◌∙◌}
use Rattle.lapd_frame.specs.declared.Side.TheVariants.{User, Network}
use Rattle.lapd_pair.proofs.Settling.{some_starts, none_starts, deliver_to_network, deliver_to_user, t200_of_user, t200_of_network, nothing_next}
use Rattle.lapd_pair.proofs.pair.Pair.next_move.Goals as goal

pub returns-then-is_some : goal.returns-then-is_some
returns-then-is_some c =
    λ w s. deliver_to_network w (some_starts (λ o. o.now) User c.args.self.now.to_network
    c.first.result w.to_network (sym c.if-is_some.true ∙ c.is_some.ensures) c.first.ensures.some
    s.to_network)

pub returns-then-is_some-2 : goal.returns-then-is_some-2
returns-then-is_some-2 c =
    λ w s. deliver_to_user w (none_starts User c.args.self.now.to_network c.first.result
    w.to_network (sym c.if-is_some.false ∙ c.is_some.ensures) c.first.ensures.none s.to_network)
    (some_starts (λ o. o.now) Network c.args.self.now.to_user c.first-2.result w.to_user
    (sym c.if-is_some-2.true ∙ c.is_some-2.ensures) c.first-2.ensures.some s.to_user)

pub returns-then-running : goal.returns-then-running
returns-then-running c =
    λ w s. t200_of_user w (none_starts User c.args.self.now.to_network c.first.result w.to_network
    (sym c.if-is_some.false ∙ c.is_some.ensures) c.first.ensures.none s.to_network)
    (none_starts Network c.args.self.now.to_user c.first-2.result w.to_user
    (sym c.if-is_some-2.false ∙ c.is_some-2.ensures) c.first-2.ensures.none s.to_user)
    (sym (c.running.ensures w.user.end s.user.link) ∙ c.if-running.true)

pub returns-then-running-2 : goal.returns-then-running-2
returns-then-running-2 c =
    λ w s. t200_of_network w (none_starts User c.args.self.now.to_network c.first.result
    w.to_network (sym c.if-is_some.false ∙ c.is_some.ensures) c.first.ensures.none s.to_network)
    (none_starts Network c.args.self.now.to_user c.first-2.result w.to_user
    (sym c.if-is_some-2.false ∙ c.is_some-2.ensures) c.first-2.ensures.none s.to_user)
    (sym (c.running.ensures w.user.end s.user.link) ∙ c.if-running.false)
    (sym (c.running-2.ensures w.network.end s.network.link) ∙ c.if-running-2.true)

pub returns : goal.returns
returns c =
    λ w s. nothing_next w (none_starts User c.args.self.now.to_network c.first.result w.to_network
    (sym c.if-is_some.false ∙ c.is_some.ensures) c.first.ensures.none s.to_network)
    (none_starts Network c.args.self.now.to_user c.first-2.result w.to_user
    (sym c.if-is_some-2.false ∙ c.is_some-2.ensures) c.first-2.ensures.none s.to_user)
    (sym (c.running.ensures w.user.end s.user.link) ∙ c.if-running.false)
    (sym (c.running-2.ensures w.network.end s.network.link) ∙ c.if-running-2.false)
