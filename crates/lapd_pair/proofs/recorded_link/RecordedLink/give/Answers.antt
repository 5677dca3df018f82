use Rattle.std.proofs.Common.{◌≡◌, ℕ, List, [], ◌∷◌, ◌++◌, length, None, refl, subst}
use Rattle.lapd_pair_laws.specs.Histories as world
use Rattle.lapd_pair_laws.specs.Consistent.{AreSettled}
use Rattle.lapd_pair.specs.Histories.{IsHistory}
use Rattle.lapd_pair.specs.declared.recorded_link.RecordedLink.{RecordedLink}
use Rattle.lapd_pair.proofs.Steps.{give_acted, records_of}
use Rattle.lapd_pair.proofs.recorded_link.RecordedLink.give.Goals as goal

pub returns-in-Ok-clause-ok : goal.returns-in-Ok-clause-ok
returns-in-Ok-clause-ok c = λ side v preserved shown on same.
    let before = c.args.self.now in
    let now : RecordedLink = record { link = c.give_into.new.self; history = c.give.new.self } in
    let Gives : List ℕ → Type 0 =
    λ m. (messages : List (List ℕ)) (h : world.History) → AreSettled h → h.sent_in
    (length messages) ≡ None → IsHistory before.history messages h → IsHistory now.history
    (messages ++ m ∷ []) h in
    give_acted side c.args.message.items None c.carry_out.new.copy v c.give_into.new.outs.items
    before now c.carry_out.new.self c.args.outward.now c.carry_out.new.outward
    refl preserved shown on c.in-Ok.ensures.ok c.give_into.ensures.setup
    (subst Gives same c.give.ensures.history)
    (records_of [] _ _ now c.args.outward.now None c.carry_out.new.self c.carry_out.new.outward
    c.carry_out.new.copy c.as_slice.ensures.value c.carry_out.ensures.shows)
