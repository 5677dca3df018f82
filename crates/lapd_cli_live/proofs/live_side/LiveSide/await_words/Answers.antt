use Rattle.std.proofs.Common.{subst}
use Rattle.lapd_cli_live.specs.declared.service.Until.TheVariants as until
use Rattle.lapd_cli_live.specs.Log.{LiveState, state_of}
use Rattle.lapd_cli_live.specs.WaitingLines.{service}
use Rattle.lapd_cli_live.specs.Steps.{IsServed}
use Rattle.lapd_cli_live.proofs.WaitingLines.{is_awaiting}
use Rattle.lapd_cli_live.proofs.live_side.LiveSide.await_words.Goals as goal

pub returns : goal.returns
returns g c =
    record {
      end = c.in_ok-end.end;
      begun =
          state_of g.O.Outside.io_events g.O.Outside.impaired_by g.W.Write.contents
          c.end_after.new.self;
      ends = c.in_ok-end.ensures;
      why = c.in_ok-serve.field-0;
      served_to =
          state_of g.O.Outside.io_events g.O.Outside.impaired_by g.W.Write.contents
          c.serve.new.self;
      served =
          subst (λ (s : LiveState). IsServed (service c.in_ok-end.end until.Matched c.args.lines)
          c.in_ok-serve.field-0 s
          (state_of g.O.Outside.io_events g.O.Outside.impaired_by g.W.Write.contents
          c.serve.new.self))
          (is_awaiting g.W.Write.contents c.end_after.new.self.side _ _ _ _ _
          c.in_ok-await_line.ensures) c.in_ok-serve.ensures;
      is = c.end_wait.ensures.matched;
      after =
          is_awaiting g.W.Write.contents c.serve.new.self.side _ _ _ _ _ c.end_wait.ensures.ends;
    }
