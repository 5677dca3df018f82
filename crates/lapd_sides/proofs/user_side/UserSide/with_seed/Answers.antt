use Rattle.std.proofs.Common.{◌≡◌, refl, sym, ap, ◌∙◌}
use Rattle.lapd_frame.specs.declared.Side.TheVariants as side
use Rattle.lapd_timers.specs.Due.{all_stopped}
use Rattle.lapd_tei.specs.Terminal.{new_terminal}
use Rattle.lapd_sides_links.specs.Links.{no_links}
use Rattle.lapd_sides.specs.declared.links_and_timer.LinksAndTimer.{LinksAndTimer}
use Rattle.lapd_sides.specs.Shows.{ShowServed}
use Rattle.lapd_sides.specs.User.{links_of_fixed}
use Rattle.lapd_sides.proofs.Using.{with_fixed, without_fixed}
use Rattle.lapd_sides.proofs.user_side.UserSide.with_seed.Goals.{in-Some+in_ok-add_tei, in_default}
use Rattle.lapd_sides.proofs.user_side.UserSide.with_seed.Goals as goal

pub returns : goal.returns
returns c =
    let served : ShowServed side.User c.match-fixed.served
    (record {
      links = links_of_fixed c.args.config c.args.fixed;
      timers = all_stopped c.args.config.durations;
    }) =
    elim c.match-fixed.branch [
      | in-Some+in_ok-add_tei w ↦ with_fixed c.in_ok-served.served c.match-fixed.served
          w.add_tei.new.self c.args.config c.args.fixed w.in-Some.tei w.in-Some.is w.served-is
          c.in_ok-served.ensures.shown
          (w.in_ok-add_tei.ensures.ok side.User no_links c.in_ok-served.ensures.shown.links)
      | in_default w ↦ without_fixed c.in_ok-served.served c.match-fixed.served c.args.config
          c.args.fixed w.in_default.is w.served-is c.in_ok-served.ensures.shown
    ] in
    let fixed : c.match-fixed.fixed ≡ c.args.fixed =
    elim c.match-fixed.branch [
      | in-Some+in_ok-add_tei w ↦ w.fixed-is
          ∙ sym w.in-Some.is
      | in_default w ↦ w.fixed-is
    ] in
    let none : c.match-fixed.served.discarded ≡ 0 = elim c.match-fixed.branch [
      | in-Some+in_ok-add_tei w ↦ ap (λ (k : LinksAndTimer). k.discarded) w.served-is
          ∙ c.in_ok-served.ensures.none
      | in_default w ↦ ap (λ (k : LinksAndTimer). k.discarded) w.served-is
          ∙ c.in_ok-served.ensures.none
    ] in
    record {
      configured = refl;
      served = served;
      management = record {
        terminal = c.new-2.ensures ∙ ap new_terminal fixed;
        pending = c.nothing.ensures;
        random = c.new-3.ensures;
      };
      discarded = none;
    }
