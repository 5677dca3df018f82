use Rattle.std.proofs.Common.{inl, sym, ◌∙◌}
use Rattle.lapd_cli_live.proofs.WaitingLines.{is_behind}
use Rattle.lapd_cli_live.proofs.live_side.LiveSide.find_line.Goals as goal

pub returns-then-take_unseen : goal.returns-then-take_unseen
returns-then-take_unseen g c = inl (record {
  kept = sym c.take_unseen.ensures.matched ∙ c.if-take_unseen.true;
  left =
      is_behind g.W.Write.contents c.args.self.now.side _ _ c.args.words.now c.args.self.now.printer
      c.take_unseen.new.self c.take_unseen.ensures.same c.take_unseen.ensures.preserved
      c.take_unseen.ensures.lines;
})
