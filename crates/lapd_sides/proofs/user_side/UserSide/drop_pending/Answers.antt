use Rattle.std.proofs.Common.{ap, ◌∷◌, ◌++◌, [], ◌∙◌}
use Rattle.lapd_tei.specs.Message.{group_tei}
use Rattle.lapd_sides_links.specs.Effects.{Effects}
use Rattle.lapd_sides_links.specs.Links.{of_sapi}
use Rattle.lapd_sides_links.specs.declared.primitive.Primitive.TheVariants.{Of}
use Rattle.lapd_sides_links.specs.declared.primitive.What.TheVariants as what
use Rattle.lapd_sides.proofs.Using.{forgotten}
use Rattle.lapd_sides.proofs.user_side.UserSide.drop_pending.Goals as goal

pub returns : goal.returns
returns c = λ config s shown.
    forgotten c.args.self.now c.set.new.self config c.args.sapi s c.deliver_for_sapi.new.acts
    c.has.result c.has.ensures c.if-not-has.false c.set.ensures
    (c.deliver_for_sapi.ensures
    ∙ ap (λ (e : Effects). record e {
      primitives =
          e.primitives ++ Of (of_sapi c.args.sapi group_tei) what.ReleaseConfirm
          ∷ [];
    }) c.requires.empty) shown
