use Rattle.std.proofs.Common.{◌<◌, ◌≤◌, length, refl, sym, ap, subst, rules}
use Rattle.std.specs.Prelude.{is_some, Option}
use Rattle.std.specs.Vec.{with_item}
use Rattle.std.proofs.lemmas.Option.{slice_get_read}
use Rattle.lapd_sides.specs.ShowsUser.{ShowUser}
use Rattle.lapd_sides.specs.User.{User, new_user, seeded}
use Rattle.lapd_side_events.specs.Bus.{terminal_joins}
use Rattle.lapd_side_events.specs.SideView.{SideView}
use Rattle.lapd_bus.specs.Shows.{ShowBus, joining}
use Rattle.lapd_bus.proofs.Listed.{code_at, none_at, shown_set}
use Rattle.lapd_bus.proofs.side_bus.SideBus.join.Goals as goal

pub returns-then-at-len-clause-joins : goal.returns-then-at-len-clause-joins
returns-then-at-len-clause-joins c = λ config b shown.
    let past : length c.args.self.now.terminals.items ≤ c.args.at = search rules in
    subst (λ bus. ShowBus c.args.self.now config bus)
    (sym (ap (λ (o : Option (SideView User)).
    terminal_joins config c.args.at (joining c.args.new) o b)
    (none_at c.args.self.now.terminals.items config.user b.terminals c.args.at shown.terminals
    past))) shown

pub returns-then-at-len-clause-there : goal.returns-then-at-len-clause-there
returns-then-at-len-clause-there c = λ config b shown.
    let past : length c.args.self.now.terminals.items ≤ c.args.at = search rules in
    sym (ap is_some (none_at c.args.self.now.terminals.items config.user b.terminals c.args.at
    shown.terminals past))

pub returns-clause-joins : goal.returns-clause-joins
returns-clause-joins c = λ config b shown.
    let codes = c.args.self.now.terminals.items in
    let code = c.index_mut.result.now in
    let within : c.args.at < length codes = search rules in
    let its = code_at codes config.user b.terminals c.args.at code shown.terminals
    (slice_get_read codes (length codes) c.args.at code refl within c.index_mut.ensures.value) in
    let new = new_user config.user c.args.new.fixed (seeded c.args.new.seed) in
    subst (λ bus. ShowBus (record c.args.self.now {
      terminals = with_item c.args.self.now.terminals c.args.at
          (record code { side = c.in_ok-side.side });
    }) config bus)
    (sym (ap (λ (o : Option (SideView User)).
    terminal_joins config c.args.at (joining c.args.new) o b) its.there))
    (record {
      network_config = shown.network_config;
      terminal_config = shown.terminal_config;
      network = shown.network;
      terminals = shown_set codes config.user b.terminals c.args.at
          (record code { side = c.in_ok-side.side }) (record its.terminal { now = new })
          shown.terminals (record {
            side = subst (λ user. ShowUser c.in_ok-side.side user
                (new_user user c.args.new.fixed (seeded c.args.new.seed))) shown.terminal_config
                c.in_ok-side.ensures;
            incoming = its.shown.incoming;
            outgoing = its.shown.outgoing;
          });
    })

pub returns-clause-there : goal.returns-clause-there
returns-clause-there c = λ config b shown.
    let codes = c.args.self.now.terminals.items in
    let code = c.index_mut.result.now in
    let within : c.args.at < length codes = search rules in
    let its = code_at codes config.user b.terminals c.args.at code shown.terminals
    (slice_get_read codes (length codes) c.args.at code refl within c.index_mut.ensures.value) in
    sym (ap is_some its.there)
