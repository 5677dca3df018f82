use Rattle.std.proofs.Common.{refl}
use Rattle.lapd_sides.specs.Either.{side_of}
use Rattle.lapd_cli_live.specs.declared.service.EndReason.TheVariants as end_reason
use Rattle.lapd_cli_live.specs.Log.{state_of}
use Rattle.lapd_cli_live.proofs.WaitingLines.{read_as, read_nothing}
use Rattle.lapd_cli_live.proofs.Steps.{beside_printed, on_ok}
use Rattle.lapd_cli_live.proofs.live_side.LiveSide.read.Goals as goal

pub returns-in-Closed : goal.returns-in-Closed
returns-in-Closed g c =
    on_ok c.put_named.result _ _
    (λ prints. record {
      why = c.in_ok-serve.field-0;
      served_to =
          state_of g.O.Outside.io_events g.O.Outside.impaired_by g.W.Write.contents
          c.serve.new.self;
      served = record {
        end = c.in_ok-end.end;
        begun = _;
        ends = c.in_ok-end.ensures;
        served = c.in_ok-serve.ensures;
      };
      prints = read_as c.in_ok-serve.field-0 end_reason.Closed _ _ c.in-Closed.is
          (beside_printed g.W.Write.contents c.serve.new.self.side _ _ _ _ _ prints refl);
    })
    (c.put_named.ensures (side_of c.serve.new.self.side))

pub returns-in-End : goal.returns-in-End
returns-in-End g c =
    on_ok c.put_words.result _ _
    (λ prints. record {
      why = c.in_ok-serve.field-0;
      served_to =
          state_of g.O.Outside.io_events g.O.Outside.impaired_by g.W.Write.contents
          c.serve.new.self;
      served = record {
        end = c.in_ok-end.end;
        begun = _;
        ends = c.in_ok-end.ensures;
        served = c.in_ok-serve.ensures;
      };
      prints = read_as c.in_ok-serve.field-0 end_reason.End _ _ c.in-End.is
          (beside_printed g.W.Write.contents c.serve.new.self.side _ _ _ _ _ prints refl);
    })
    (c.put_words.ensures (side_of c.serve.new.self.side))

pub returns-in-Frame : goal.returns-in-Frame
returns-in-Frame g c = record {
  why = c.in_ok-serve.field-0;
  served_to =
      state_of g.O.Outside.io_events g.O.Outside.impaired_by g.W.Write.contents c.serve.new.self;
  served = record {
    end = c.in_ok-end.end;
    begun = _;
    ends = c.in_ok-end.ensures;
    served = c.in_ok-serve.ensures;
  };
  prints = read_nothing c.in_ok-serve.field-0 _ c.in-Frame.is;
}
