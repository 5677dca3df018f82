use Rattle.std.proofs.Common.{Option, inr, subst, sym, ◌∙◌}
use Rattle.lapd_sides_links.specs.declared.config.Config.{Config}
use Rattle.lapd_c.specs.ThroughHandle.{Makes}
use Rattle.lapd_c.specs.Settings.{IsNewUser}
use Rattle.lapd_c.proofs.lapd_side_user.Goals as goal

pub returns-in-Ok : goal.returns-in-Ok
returns-in-Ok c =
    subst (λ (o : Option Config). Makes (IsNewUser c.args.fixed) c.args.settings.now.most_waiting
    c.put.result c.args.handle.now.held c.put.new.handle.held o)
    (sym (sym c.user_config.ensures ∙ c.in-Some.is))
    (inr (record {
      done = c.put.ensures.done;
      held = c.in-Ok.side.value;
      owned = c.put.ensures.owned;
      is_new = c.in-Ok.ensures;
    }))
