use Rattle.std.proofs.Common.{ℕ, refl, ap, subst, sym}
use Rattle.lapd_sides.specs.Either.{Answers, side_of}
use Rattle.lapd_cli_live.specs.Entries.{refused}
use Rattle.lapd_cli_live.specs.Steps.{refusal_events}
use Rattle.lapd_cli_live.proofs.Steps.{executed, beside_none, beside_printed, on_ok}
use Rattle.lapd_cli_live.proofs.live_side.LiveSide.execute.Goals as goal

pub returns-in-Ok : goal.returns-in-Ok
returns-in-Ok g c =
    let answers =
    subst (λ (now : ℕ). Answers c.args.request now c.request-answered.result
    c.args.self.now.side c.request-answered.new.self c.request-answered.new.acts)
    c.moment-now.ensures c.request-answered.ensures.answers in
    executed _ _ _ _ _ _ _ _ answers c.request-answered.ensures.side
    c.in_ok-carry_out.ensures.carried
    (ap refusal_events (sym c.in-Ok.is)) (beside_none _)

pub returns-in-Err : goal.returns-in-Err
returns-in-Err g c =
    let answers =
    subst (λ (now : ℕ). Answers c.args.request now c.request-answered.result
    c.args.self.now.side c.request-answered.new.self c.request-answered.new.acts)
    c.moment-now.ensures c.request-answered.ensures.answers in
    on_ok c.put_refused.result _ _
    (λ prints. executed _ _ _ _ _ _ _ _ answers c.request-answered.ensures.side
    c.in_ok-carry_out.ensures.carried
    (ap refusal_events (sym c.in-Err.is))
    (beside_printed g.W.Write.contents c.carry_out.new.self.side _ _ _ _
    (refused c.in-Err.fault.kind) prints refl))
    (c.put_refused.ensures (side_of c.carry_out.new.self.side))
