use Rattle.std.proofs.Common.{true, ap, ◌∙◌}
use Rattle.lapd_tei.specs.declared.terminal.TerminalEvent.TheVariants as event
use Rattle.lapd_sides.specs.User.{PendingEstablishments, User, with_kept, with_pending}
use Rattle.lapd_sides.proofs.Using.{acts_so, want_gets_none, wanted}
use Rattle.lapd_sides.proofs.user_side.UserSide.keep_pending.Goals as goal

pub manage-requires-clause-gets_none : goal.manage-requires-clause-gets_none
manage-requires-clause-gets_none c = want_gets_none c.next.result

pub returns : goal.returns
returns c = λ config s shown.
    let t : User = with_kept s (with_pending c.args.sapi true s.management.pending) in
    wanted c.args.self.now c.manage.new.self config c.args.now c.args.sapi s c.manage.new.acts
    c.serves.result c.serves.ensures c.if-not-serves.false shown
    (acts_so c.manage.new.self config c.args.now t c.manage.new.acts event.Want c.next.result
    (c.next.ensures s.management.random shown.management.random)
    (c.manage.ensures config t (record {
      configured = shown.configured;
      served = shown.served;
      management = record {
        terminal = shown.management.terminal;
        pending = c.set.ensures
            ∙ ap (λ (k : PendingEstablishments). with_pending c.args.sapi true k)
            shown.management.pending;
        random = shown.management.random;
      };
      discarded = shown.discarded;
    })))
