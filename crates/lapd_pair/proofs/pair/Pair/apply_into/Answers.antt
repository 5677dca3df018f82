use Rattle.lapd_pair.specs.Station.{with_outs}
use Rattle.std.proofs.Common.{sym, ◌∙◌}
use Rattle.lapd_pair.specs.Moves.{move_of}
use Rattle.lapd_pair.proofs.Acts.{if_ok, if_err, on_err}
use Rattle.lapd_pair.proofs.Pairs.{user_did, network_did, user_refused, network_refused, user_still, network_still, user_reached, network_reached}
use Rattle.lapd_pair.proofs.Reported.{move_reports}
use Rattle.lapd_pair.proofs.SafePairs.{pair_is_safe}
use Rattle.lapd_pair.proofs.SafeReaders.{readings_are_safe}
use Rattle.lapd_pair.proofs.pair.Pair.apply_into.Goals as goal

pub invariant_of-self : goal.invariant_of-self
invariant_of-self c =
    let p = c.args.self.now in
    record {
      reached =
          user_reached (move_of c.args.mv.now) p.user p.network c.act.new.self p.to_user
          p.to_network c.act.new.inward c.act.new.outward (with_outs c.act.result c.act.new.outs)
          (sym c.side.ensures ∙ c.in-User.is) c.act.ensures.ok c.act.ensures.unchanged p.reached;
    }

pub invariant_of-self-in-Network : goal.invariant_of-self-in-Network
invariant_of-self-in-Network c =
    let p = c.args.self.now in
    let a = c.act-in-Network in
    record {
      reached =
          network_reached (move_of c.args.mv.now) p.user p.network a.new.self p.to_user
          p.to_network a.new.outward a.new.inward (with_outs a.result a.new.outs)
          (sym c.side.ensures ∙ c.in-Network.is) a.ensures.ok a.ensures.unchanged p.reached;
    }

pub returns-in-User-clause-ok : goal.returns-in-User-clause-ok
returns-in-User-clause-ok c =
    let p = c.args.self.now in
    if_ok _ _ (with_outs c.act.result c.act.new.outs) (λ outs acts w s.
    let d =
    user_did (move_of c.args.mv.now) w p.user p.network c.act.new.self p.to_user
    p.to_network c.act.new.inward c.act.new.outward outs (sym c.side.ensures ∙ c.in-User.is)
    s acts in
    record {
      happened = d.happened;
      is = d.is;
      same = d.same;
      representation = d.represent;
    }) c.act.ensures.ok

pub returns-in-User-clause-err : goal.returns-in-User-clause-err
returns-in-User-clause-err c =
    let p = c.args.self.now in
    if_err _ _ (with_outs c.act.result c.act.new.outs)
    (λ fault refuses w s. user_refused (move_of c.args.mv.now) w p.user p.network p.to_user
    p.to_network fault (sym c.side.ensures ∙ c.in-User.is) s refuses) c.act.ensures.err

pub returns-in-User-clause-unchanged : goal.returns-in-User-clause-unchanged
returns-in-User-clause-unchanged c =
    let p = c.args.self.now in
    on_err _ _ (with_outs c.act.result c.act.new.outs)
    (λ shows w s. user_still w p.user p.network c.act.new.self p.to_user p.to_network
    c.act.new.inward c.act.new.outward s shows) c.act.ensures.unchanged

pub returns-in-Network-clause-ok : goal.returns-in-Network-clause-ok
returns-in-Network-clause-ok c =
    let p = c.args.self.now in
    let a = c.act-in-Network in
    if_ok _ _ (with_outs a.result a.new.outs) (λ outs acts w s.
    let d =
    network_did (move_of c.args.mv.now) w p.user p.network a.new.self p.to_user p.to_network
    a.new.outward a.new.inward outs (sym c.side.ensures ∙ c.in-Network.is) s acts in
    record {
      happened = d.happened;
      is = d.is;
      same = d.same;
      representation = d.represent;
    }) a.ensures.ok

pub returns-in-Network-clause-err : goal.returns-in-Network-clause-err
returns-in-Network-clause-err c =
    let p = c.args.self.now in
    let a = c.act-in-Network in
    if_err _ _ (with_outs a.result a.new.outs)
    (λ fault refuses w s. network_refused (move_of c.args.mv.now) w p.user p.network p.to_user
    p.to_network fault (sym c.side.ensures ∙ c.in-Network.is) s refuses) a.ensures.err

pub returns-in-Network-clause-unchanged : goal.returns-in-Network-clause-unchanged
returns-in-Network-clause-unchanged c =
    let p = c.args.self.now in
    let a = c.act-in-Network in
    on_err _ _ (with_outs a.result a.new.outs)
    (λ shows w s. network_still w p.user p.network a.new.self p.to_user p.to_network
    a.new.outward a.new.inward s shows) a.ensures.unchanged

pub returns-in-User-clause-reports : goal.returns-in-User-clause-reports
returns-in-User-clause-reports c =
    move_reports c.args.self.now _ (move_of c.args.mv.now) (with_outs c.act.result c.act.new.outs)
    (returns-in-User-clause-ok c)

pub returns-in-Network-clause-reports : goal.returns-in-Network-clause-reports
returns-in-Network-clause-reports c =
    move_reports c.args.self.now _ (move_of c.args.mv.now)
    (with_outs c.act-in-Network.result c.act-in-Network.new.outs) (returns-in-Network-clause-ok c)

pub returns-in-User-clause-safe : goal.returns-in-User-clause-safe
returns-in-User-clause-safe c = pair_is_safe _

pub returns-in-Network-clause-safe : goal.returns-in-Network-clause-safe
returns-in-Network-clause-safe c = pair_is_safe _

pub returns-in-User-clause-readers : goal.returns-in-User-clause-readers
returns-in-User-clause-readers c = readings_are_safe _

pub returns-in-Network-clause-readers : goal.returns-in-Network-clause-readers
returns-in-Network-clause-readers c = readings_are_safe _
