use Rattle.std.proofs.Common.{sym, subst, ◌∙◌, IsSome, ◌≡◌, None, Some}
use Rattle.lapd_table.specs.LinkTable.{link_at, Changes}
use Rattle.lapd_table.proofs.Tables.{key_is_there, no_key, none_at}
use Rattle.lapd_table.proofs.link_table.LinkTable.add.Goals as goal

pub returns-then-contains_key-clause-err : goal.returns-then-contains_key-clause-err
returns-then-contains_key-clause-err c =
    subst (λ id. IsSome (link_at c.args.self.now id)) c.of_link-id.ensures
    (key_is_there c.args.self.now c.of_link-id.result
    (sym c.contains_key.ensures ∙ c.if-contains_key.true))

pub store-requires-clause-absent : goal.store-requires-clause-absent
store-requires-clause-absent c = no_key _ (sym c.contains_key.ensures ∙ c.if-contains_key.false)

pub returns-in-Ok-clause-new : goal.returns-in-Ok-clause-new
returns-in-Ok-clause-new c =
    subst (λ id. link_at c.args.self.now id ≡ None) c.of_link-id.ensures
    (none_at c.args.self.now c.of_link-id.result
    (no_key _ (sym c.contains_key.ensures ∙ c.if-contains_key.false)))

pub returns-in-Ok-clause-ok : goal.returns-in-Ok-clause-ok
returns-in-Ok-clause-ok c =
    subst (λ id. Changes c.args.self.now c.store.new.self id (Some c.args.link))
    c.of_link-id.ensures c.in-Ok.ensures.ok

pub returns-in-Err-clause-err : goal.returns-in-Err-clause-err
returns-in-Err-clause-err c =
    subst (λ id. link_at c.args.self.now id ≡ None) c.of_link-id.ensures
    (none_at c.args.self.now c.of_link-id.result
    (no_key _ (sym c.contains_key.ensures ∙ c.if-contains_key.false)))
