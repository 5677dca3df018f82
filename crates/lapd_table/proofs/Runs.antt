-- A link in a table behaves as it does alone.
use Rattle.std.proofs.Common.{◌≡◌, List, [], ◌∷◌, ◌++◌, Bool, true, false, Option, Some, None, refl, sym, ap, ◌∙◌}
use Rattle.std.specs.Prelude.{if◌then◌else◌, option_map}
use Rattle.lapd_frame.specs.declared.Side.{Side}
use Rattle.lapd_link_definition.specs.declared.out.Out.{Out}
use Rattle.lapd_link_definition.specs.End.{End}
use Rattle.lapd_link_definition.specs.Input.{Input}
use Rattle.lapd_table.specs.declared.link_id.LinkId.{LinkId}
use Rattle.lapd_table.specs.LinkId.{id_eq}
use Rattle.lapd_table.specs.Alone.{Arrival, Ends, named, part_of, if_for, after, sent, after_all, sent_by_all, ends_after, sent_at, sent_for, table_step, table_run, run_sends, IsAsAlone}
use Rattle.lapd_table.proofs.Ids.{same_id_eq}

-- ---- One input, for this link or another, and the inputs after it.

-- the end of this link after the input
abbrev end_then : Bool → Input → End → End
end_then mine input e = if mine then after input e else e

end_named : (mine : Bool) (input : Input) (e : End)
    → (if mine then option_map (after input) (Some e) else Some e) ≡ Some (end_then mine input e)
end_named true input e = refl
end_named false input e = refl

after_part : (mine : Bool) (input : Input) (rest : List Input) (e : End)
    → after_all (if mine then input ∷ rest else rest) e ≡ after_all rest (end_then mine input e)
after_part true input rest e = refl
after_part false input rest e = refl

-- the outputs of this link for the input
abbrev sent_then : Bool → Input → End → List Out
sent_then mine input e = if mine then sent input e else []

sent_named : (mine : Bool) (input : Input) (at mine_at : Option End) (e : End)
    → (mine ≡ true → at ≡ mine_at) → mine_at ≡ Some e
    → (if mine then sent_at at input else []) ≡ sent_then mine input e
sent_named true input at mine_at e same there = ap (λ o. sent_at o input) (same refl ∙ there)
sent_named false input at mine_at e same there = refl

sent_part : (mine : Bool) (input : Input) (rest : List Input) (e : End)
    → sent_by_all (if mine then input ∷ rest else rest) e ≡ sent_then mine input e
    ++ sent_by_all rest (end_then mine input e)
sent_part true input rest e = refl
sent_part false input rest e = refl

-- ---- The law.

module _ (side : Side) (id : LinkId) where
  -- the end of the link after one input, and after the others
  abbrev NextEnd : Option (LinkId × Input) → End → End
  NextEnd None e = e
  NextEnd (Some (other, input)) e = end_then (id_eq id other) input e

  next_end : (what : Option (LinkId × Input)) (ends : Ends) (e : End) → ends id ≡ Some e
      → ends_after what ends id ≡ Some (NextEnd what e)
  next_end None ends e there = there
  next_end (Some (other, input)) ends e there =
      ap (λ o. if id_eq id other then option_map (after input) o else o) there
      ∙ end_named (id_eq id other) input e

  after_next : (what : Option (LinkId × Input)) (rest : List Input) (e : End)
      → after_all (if_for id what rest) e ≡ after_all rest (NextEnd what e)
  after_next None rest e = refl
  after_next (Some (other, input)) rest e = after_part (id_eq id other) input rest e

  sent_next : (what : Option (LinkId × Input)) (ends : Ends) (rest : List Input) (e : End)
      → ends id ≡ Some e
      → sent_for id what ends ++ sent_by_all rest (NextEnd what e)
      ≡ sent_by_all (if_for id what rest) e
  sent_next None ends rest e there = refl
  sent_next (Some (other, input)) ends rest e there =
      ap (λ outs. outs ++ sent_by_all rest (end_then (id_eq id other) input e))
      (sent_named (id_eq id other) input (ends other) (ends id) e
      (λ mine. ap ends (sym (same_id_eq id other mine))) there)
      ∙ sym (sent_part (id_eq id other) input rest e)

  pub end_as_alone : (arrivals : List Arrival) (ends : Ends) (e : End) → ends id ≡ Some e
      → table_run side arrivals ends id ≡ Some (after_all (part_of side id arrivals) e)
  end_as_alone [] ends e there = there
  end_as_alone (arrival ∷ arrivals) ends e there =
      end_as_alone arrivals (table_step side arrival ends) (NextEnd (named side arrival) e)
      (next_end (named side arrival) ends e there)
      ∙ ap Some (sym (after_next (named side arrival) (part_of side id arrivals) e))

  pub sent_as_alone : (arrivals : List Arrival) (ends : Ends) (e : End) → ends id ≡ Some e
      → run_sends id side arrivals ends ≡ sent_by_all (part_of side id arrivals) e
  sent_as_alone [] ends e there = refl
  sent_as_alone (arrival ∷ arrivals) ends e there =
      ap (λ outs. sent_for id (named side arrival) ends ++ outs)
      (sent_as_alone arrivals (table_step side arrival ends) (NextEnd (named side arrival) e)
      (next_end (named side arrival) ends e there))
      ∙ sent_next (named side arrival) ends (part_of side id arrivals) e there

pub as_alone : (side : Side) (arrivals : List Arrival) (ends : Ends) (id : LinkId) (e : End)
    → ends id ≡ Some e → IsAsAlone side arrivals ends id e
as_alone side arrivals ends id e there = record {
  end = end_as_alone side id arrivals ends e there;
  sent = sent_as_alone side id arrivals ends e there;
}
