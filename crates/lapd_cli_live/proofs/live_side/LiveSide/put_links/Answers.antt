use Rattle.std.proofs.Common.{List, sym, subst}
use Rattle.std.specs.Prelude.{◌↔◌, Contains, IsSome}
use Rattle.std.specs.List.Sorted.{IsStrictlySortedBy}
use Rattle.lapd_table.specs.declared.link_id.LinkId.{LinkId}
use Rattle.lapd_table.specs.LinkTable.{link_at}
use Rattle.lapd_table.specs.LinkId.{id_cmp}
use Rattle.lapd_cli_live.proofs.Steps.{on_ok}
use Rattle.lapd_cli_live.proofs.live_side.LiveSide.put_links.Goals as goal

pub returns : goal.returns
returns g c =
    on_ok c.put_management.result _ _
    (λ management. record {
      ready = _;
      catches_up = c.in_ok-catch_up.ensures.does;
      table = c.table.result.now;
      has = c.table.ensures;
      ids = c.as_slice.result.now;
      rising =
          subst (λ (xs : List LinkId). IsStrictlySortedBy id_cmp xs) (sym c.as_slice.ensures.value)
          c.in_ok-ids.ensures.rising;
      all =
          subst (λ (xs : List LinkId). (id : LinkId) → Contains xs id ↔ IsSome
          (link_at c.table.result.now id)) (sym c.as_slice.ensures.value)
          c.in_ok-ids.ensures.all;
      links_done = _;
      each = c.in_ok-put_each.ensures;
      management = management;
    })
    c.put_management.ensures
