use Rattle.lapd_cli_live.proofs.live_side.LiveSide.run.Goals as goal

pub returns : goal.returns
returns g c = record {
  why = c.in_ok-serve.field-0;
  served = record {
    end = c.in_ok-end.end;
    begun = _;
    ends = c.in_ok-end.ensures;
    served = c.in_ok-serve.ensures;
  };
}
