use Rattle.std.proofs.Common.{◌<◌, ◌≤◌, length, Option, refl, sym, subst, rules}
use Rattle.lapd_side_events.specs.SideView.{SideView}
use Rattle.lapd_sides.specs.User.{User}
use Rattle.lapd_bus.specs.Moves.{Makes}
use Rattle.lapd_bus.specs.Stations.{index_of, station_of}
use Rattle.lapd_bus.specs.declared.bus_move.BusMove.TheVariants as move
use Rattle.lapd_bus.specs.declared.bus_move.Outcome.TheVariants.{Nothing}
use Rattle.lapd_bus.proofs.Listed.{none_at, there_at}
use Rattle.lapd_bus.proofs.Sides.{ok_so}
use Rattle.lapd_bus.proofs.side_bus.SideBus.apply.Goals as goal

pub returns-then-index-len : goal.returns-then-index-len
returns-then-index-len c = λ config b shown.
    let at = index_of (station_of c.args.mv) in
    let codes = c.args.self.now.terminals.items in
    let past : length codes ≤ at = search rules in
    subst (λ (o : Option (SideView User)).
    Makes c.args.self.now config c.clear.new.self c.args.mv c.args.now o b Nothing)
    (sym (none_at codes config.user b.terminals at shown.terminals past)) (
      refl,
      record { shown = shown; nothing = c.clear.ensures },
    )

pub returns-in-Take : goal.returns-in-Take
returns-in-Take c =
    let codes = c.args.self.now.terminals.items in
    let any : index_of (station_of c.args.mv) < length codes = search rules in
    let within = subst (λ m. index_of (station_of m) < length codes) c.in-Take.is any in
    rw c.in-Take.is (ok_so c.take.result _ _ (λ o h. λ config b shown.
    let its = there_at codes config.user b.terminals (index_of c.in-Take.at) shown.terminals within
    in
    subst (λ (t : Option (SideView User)).
    Makes c.take.new.self config c.take.new.acts (move.Take c.in-Take.at) c.args.now t b o) (sym its.1)
    (h config its.0 b shown its.1)) c.take.ensures)

pub returns-in-Lose : goal.returns-in-Lose
returns-in-Lose c =
    let codes = c.args.self.now.terminals.items in
    let any : index_of (station_of c.args.mv) < length codes = search rules in
    let within = subst (λ m. index_of (station_of m) < length codes) c.in-Lose.is any in
    rw c.in-Lose.is (λ config b shown.
    let its = there_at codes config.user b.terminals (index_of c.in-Lose.at) shown.terminals within
    in
    subst (λ (t : Option (SideView User)).
    Makes c.lose.new.self config c.clear.new.self (move.Lose c.in-Lose.at c.in-Lose.place) c.args.now t b c.lose.result) (sym its.1)
    (rw c.clear.ensures (c.lose.ensures config its.0 b shown its.1)))

pub returns-in-Expire : goal.returns-in-Expire
returns-in-Expire c =
    let codes = c.args.self.now.terminals.items in
    let any : index_of (station_of c.args.mv) < length codes = search rules in
    let within = subst (λ m. index_of (station_of m) < length codes) c.in-Expire.is any in
    rw c.in-Expire.is (ok_so c.expire.result _ _ (λ o h. λ config b shown.
    let its = there_at codes config.user b.terminals (index_of c.in-Expire.at) shown.terminals within
    in
    subst (λ (t : Option (SideView User)).
    Makes c.expire.new.self config c.expire.new.acts (move.Expire c.in-Expire.at) c.args.now t b o) (sym its.1)
    (h config its.0 b shown its.1)) c.expire.ensures)

pub returns-in-Ask : goal.returns-in-Ask
returns-in-Ask c =
    let codes = c.args.self.now.terminals.items in
    let any : index_of (station_of c.args.mv) < length codes = search rules in
    let within = subst (λ m. index_of (station_of m) < length codes) c.in-Ask.is any in
    rw c.in-Ask.is (ok_so c.ask.result _ _ (λ o h. λ config b shown.
    let its = there_at codes config.user b.terminals (index_of c.in-Ask.at) shown.terminals within
    in
    subst (λ (t : Option (SideView User)).
    Makes c.ask.new.self config c.ask.new.acts (move.Ask c.in-Ask.at c.in-Ask.request) c.args.now t b o) (sym its.1)
    (h config its.0 b shown its.1)) c.ask.ensures)
