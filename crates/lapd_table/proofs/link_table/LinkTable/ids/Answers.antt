use Rattle.std.proofs.Common.{◌≡◌, ◌↔◌, List, Contains, IsSome, sym, subst, rules}
use Rattle.lapd_table.specs.declared.link_id.LinkId.{LinkId}
use Rattle.lapd_table.specs.LinkTable.{link_at}
use Rattle.lapd_table.proofs.Tables.{ids_there, on_ok_all}
use Rattle.lapd_table.proofs.link_table.LinkTable.ids.Goals as goal

pub returns-clause-all : goal.returns-clause-all
returns-clause-all c = on_ok_all c.collect.result (λ ids. ids.items ≡ c.keys.result) _
    (λ ids same id. let There : List LinkId → Type 0 =
    λ all. Contains all id ↔ IsSome (link_at c.args.self.now id) in subst There (sym same)
    (ids_there c.args.self.now c.keys.result c.keys.ensures.has id))
    (search rules)
