use Rattle.std.proofs.Common.{ℕ, refl, ap}
use Rattle.lapd_cli_side_commands.specs.Served.{at_work, devices, new_progress}
use Rattle.lapd_cli_side_commands.proofs.SideWalks.{ended, served, unsaid}
use Rattle.lapd_cli_side_commands.proofs.side_runner.SideRunner.read_script.Goals as goal

pub returns-in-Some-clause-ended : goal.returns-in-Some-clause-ended
returns-in-Some-clause-ended g c = unsaid (g.R.Read.remaining c.args.script.now)

pub returns-in-Some-clause-served : goal.returns-in-Some-clause-served
returns-in-Some-clause-served g c = unsaid (g.R.Read.remaining c.args.script.now)

pub returns-in-None-clause-ended : goal.returns-in-None-clause-ended
returns-in-None-clause-ended g c =
    let at = c.args.self.now in
    let before =
    devices at.style (g.S.Source.rest at.port.source) (g.K.Sink.written at.port.sink)
    (g.W.Write.contents at.out) in
    ended at.side before (g.R.Read.remaining c.args.script.now) c.walk-walked.result _ _
    (c.walk-walked.ensures.ended (new_progress at.side before)
    (record {
      of_side = refl;
      moment = c.requires;
      did = ap (λ (now : ℕ). at_work at.side now before) c.requires;
    }))

pub returns-in-None-clause-served : goal.returns-in-None-clause-served
returns-in-None-clause-served g c =
    let at = c.args.self.now in
    let before =
    devices at.style (g.S.Source.rest at.port.source) (g.K.Sink.written at.port.sink)
    (g.W.Write.contents at.out) in
    let new = c.walk-walked.new.command in
    let start = new_progress at.side before in
    served at.side before new.style (g.S.Source.rest new.port.source)
    (g.K.Sink.written new.port.sink) (g.W.Write.contents new.out) new.now new.side
    (g.R.Read.remaining c.args.script.now) c.walk-walked.result _ _
    (c.walk-walked.ensures.ended start (record {
      of_side = refl;
      moment = c.requires;
      did = ap (λ (now : ℕ). at_work at.side now before) c.requires;
    }))
    (c.walk-walked.ensures.state start (record {
      of_side = refl;
      moment = c.requires;
      did = ap (λ (now : ℕ). at_work at.side now before) c.requires;
    }))
