use Rattle.std.proofs.Common.{Ok, Err}
use Rattle.lapd_cli_link_commands.proofs.Closed.{closed}
use Rattle.lapd_cli_link_commands.specs.Pair.{move_step}
use Rattle.lapd_cli_link_commands.specs.RepresentsWorld.{IsMover}
use Rattle.lapd_pair_laws.specs.World.{new_world}
use Rattle.lapd_cli_link_commands.specs.LoopState.{new_loop}
use Rattle.lapd_cli_link_commands.proofs.Loops.{frames_crossed, new_represents, represents_same, text_same}
use Rattle.lapd_cli_link_commands.proofs.looper.loop_over.Goals as goal

pub returns-in-Ok-ended-clause-text : goal.returns-in-Ok-ended-clause-text
returns-in-Ok-ended-clause-text g c =
    let known = g.R.Read.remaining c.args.script.now in
    let w = new_world c.args.user c.args.network in
    let rest = g.S.Source.rest c.args.port.source in
    let written = g.K.Sink.written c.args.port.sink in
    let looper = c.walk-ended.new.command in
    let s = new_loop w rest written in
    let representation = new_represents c.in-Ok.mover w rest written c.in-Ok.ensures in
    let a = g.W.Write.contents c.args.out.now in
    let b = g.W.Write.contents c.walk-ended.new.out in
    closed move_step IsMover known w looper.mover c.close.result a b
    (g.W.Write.contents c.close.new.out)
    (text_same known s (Ok tt) a b (c.in-Ok-ended.ensures.ended s representation))
    (represents_same known s looper.mover (g.S.Source.rest looper.port.source)
    (g.K.Sink.written looper.port.sink) (c.in-Ok-ended.ensures.state s representation))
    c.close.ensures.ok c.close.ensures.err

pub returns-in-Ok-ended-clause-crossed : goal.returns-in-Ok-ended-clause-crossed
returns-in-Ok-ended-clause-crossed g c =
    let known = g.R.Read.remaining c.args.script.now in
    let w = new_world c.args.user c.args.network in
    let rest = g.S.Source.rest c.args.port.source in
    let written = g.K.Sink.written c.args.port.sink in
    let looper = c.walk-ended.new.command in
    let representation = new_represents c.in-Ok.mover w rest written c.in-Ok.ensures in
    frames_crossed known w rest written looper.mover (g.S.Source.rest looper.port.source)
    (g.K.Sink.written looper.port.sink) c.close.result
    (c.in-Ok-ended.ensures.state (new_loop w rest written) representation)

pub returns-clause-text : goal.returns-clause-text
returns-clause-text g c =
    let w = new_world c.args.user c.args.network in
    let rest = g.S.Source.rest c.args.port.source in
    let written = g.K.Sink.written c.args.port.sink in
    let s = new_loop w rest written in
    let a = g.W.Write.contents c.args.out.now in
    let b = g.W.Write.contents c.walk-ended.new.out in
    text_same (g.R.Read.remaining c.args.script.now) s (Err c.in-Err-ended.fault) a b
    (c.in-Err-ended.ensures.ended s
    (new_represents c.in-Ok.mover w rest written c.in-Ok.ensures))
