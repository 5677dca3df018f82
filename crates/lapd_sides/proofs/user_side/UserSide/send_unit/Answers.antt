use Rattle.std.proofs.Common.{Err, List, length, sym, ap, subst, ◌≡◌, ◌∙◌}
use Rattle.lapd_frame.specs.declared.Side.TheVariants as side
use Rattle.lapd_link_definition.specs.Input.{UnitData}
use Rattle.lapd_sides_links.specs.declared.side_fault.SideKind.TheVariants.{NoLink}
use Rattle.lapd_sides.specs.Calls.{HasGranted}
use Rattle.lapd_sides.specs.ShowsUser.{ShowTerminal, ShowUser}
use Rattle.lapd_sides.specs.SideState.{link_of, among_links}
use Rattle.lapd_sides.specs.User.{with_tei_or}
use Rattle.lapd_sides.proofs.Calling.{granted_as}
use Rattle.lapd_sides.proofs.Steps.{granted, links_shown, relinked}
use Rattle.lapd_sides.proofs.Using.{is_own}
use Rattle.lapd_sides.proofs.user_side.UserSide.send_unit.Goals as goal

pub returns-in-Ok : goal.returns-in-Ok
unfolding link_of
returns-in-Ok c = λ config s shown.
    let octets = c.as_slice.result.now in
    subst (λ (o : List _). HasGranted ShowUser (relinked c.args.self.now c.send_unit-sent.new.self)
    config c.send_unit-sent.new.acts
    (with_tei_or c.args.now s.management.terminal c.args.sapi (UnitData (length o)) o
    (Err NoLink) s)) c.as_slice.ensures.value
    (granted_as _ config c.send_unit-sent.new.acts _ _
    (is_own c.args.self.now config s c.tei.result c.in-Some.tei c.args.now c.args.sapi
    c.link_id.result
    (UnitData (length octets)) octets (Err NoLink) shown
    (record { of = c.tei.ensures; is = c.in-Some.is; named = c.link_id.ensures }))
    (granted ShowTerminal side.User c.args.self.now c.send_unit-sent.new.self config s
    c.args.acts.now c.send_unit-sent.new.acts _ shown c.requires.empty
    (c.in-Ok.ensures.ok side.User s.served.links shown.served.links)))

pub returns-in-Err : goal.returns-in-Err
unfolding link_of
returns-in-Err c =
    let octets = c.as_slice.result.now in
    record {
      kind =
          λ config s shown. subst (λ (o : List _). with_tei_or c.args.now s.management.terminal
          c.args.sapi (UnitData (length o)) o (Err NoLink) s ≡ Err c.refused-in-Err.result.kind)
          c.as_slice.ensures.value
          (is_own c.args.self.now config s c.tei.result c.in-Some.tei c.args.now c.args.sapi
          c.link_id.result (UnitData (length octets)) octets (Err NoLink) shown
          (record { of = c.tei.ensures; is = c.in-Some.is; named = c.link_id.ensures })
          ∙ ap (among_links s) (c.in-Err.ensures.err side.User s.served.links shown.served.links)
          ∙ ap Err (sym c.refused-in-Err.ensures.kind));
      returned = c.refused-in-Err.ensures.message;
      unchanged =
          λ config s shown. links_shown ShowTerminal side.User c.args.self.now
          c.send_unit-sent.new.self config s shown
          (c.in-Err.ensures.unchanged side.User s.served.links shown.served.links);
      nothing = c.in-Err.ensures.nothing ∙ c.requires.empty;
    }
