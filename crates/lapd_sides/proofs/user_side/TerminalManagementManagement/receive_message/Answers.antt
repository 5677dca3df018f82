use Rattle.std.proofs.Common.{ℕ, List, sym, ap, subst, ◌∙◌}
use Rattle.std.specs.Prelude.{IsSome}
use Rattle.lapd_frame.specs.declared.Side.TheVariants as side
use Rattle.lapd_tei.specs.declared.out.TeiOut.{TeiOut}
use Rattle.lapd_tei.specs.declared.phase.Phase.{Phase}
use Rattle.lapd_tei.specs.declared.terminal.TerminalEvent.TheVariants as event
use Rattle.lapd_tei.specs.Out.{tei_given}
use Rattle.lapd_tei.specs.Terminal.{terminal_step}
use Rattle.lapd_sides_links.specs.declared.config.Config.{Config}
use Rattle.lapd_sides.specs.Management.{links_with}
use Rattle.lapd_sides.specs.Shows.{ShowServed}
use Rattle.lapd_sides.proofs.Calling.{lacks}
use Rattle.lapd_sides.proofs.Using.{acts_so, outs_of}
use Rattle.lapd_sides.proofs.user_side.TerminalManagementManagement.receive_message.Goals as goal

pub returns-in_err-admit : goal.returns-in_err-admit
returns-in_err-admit c =
    let received = event.Heard c.args.message c.next.result in
    lacks c.from_residual.result _ _ _ _ _ c.from_residual.ensures.0 (record {
      only = λ config s shown. subst (λ (o : List TeiOut). IsSome (tei_given o))
          (sym (outs_of c.args.side.now config s received c.as_slice.result.now shown
          (c.as_slice.ensures.value ∙ c.handle-outs.ensures.outs))
          ∙ ap (λ (r : ℕ).
          (terminal_step s.management.terminal (event.Heard c.args.message r)).outs)
          (c.next.ensures s.management.random shown.management.random))
          c.in_err-admit.ensures.only;
      unchanged = λ config s shown. record {
        configured = shown.configured;
        served = c.in_err-admit.ensures.unchanged side.User s.served shown.served;
        management = shown.management;
        discarded = c.in_err-admit.ensures.discarded ∙ shown.discarded;
      };
      nothing = c.requires.empty;
    })

pub returns : goal.returns
returns c = λ config s shown.
    let received = event.Heard c.args.message c.next.result in
    let outs = c.as_slice-2.result.now in
    let are =
    outs_of c.args.side.now config s received outs shown
    (c.as_slice-2.ensures.value ∙ c.handle-outs.ensures.outs) in
    let served =
    subst (λ (o : List TeiOut). ShowServed side.User c.admit.new.self
    (record s.served { links = links_with config (tei_given o) s.served.links }))
    (c.as_slice.ensures.value ∙ sym c.as_slice-2.ensures.value ∙ sym are)
    (subst (λ (k : Config). ShowServed side.User c.admit.new.self
    (record s.served
    { links = links_with k (tei_given c.as_slice.result.now) s.served.links }))
    shown.configured (c.in_ok-admit.ensures.ok side.User s.served shown.served)) in
    acts_so c.carry_out.new.self config c.args.now s c.carry_out.new.acts
    (event.Heard c.args.message) c.next.result
    (c.next.ensures s.management.random shown.management.random)
    (c.carry_out.ensures config s (terminal_step s.management.terminal received) are (record {
      configured = shown.configured;
      served = served;
      management = record {
        terminal =
            c.handle-outs.ensures.now
            ∙ ap (λ (p : Phase). (terminal_step p received).now) shown.management.terminal;
        pending = shown.management.pending;
        random = shown.management.random;
      };
      discarded = c.in_ok-admit.ensures.discarded ∙ shown.discarded;
    }))
