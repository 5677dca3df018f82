-- How a step of a link changes its table.
use Rattle.std.proofs.Common.{◌≡◌, ℕ, List, [], true, false, Option, Some, None, Result, Ok, Err, IsSome, IfSome, IfOk, IfErr, OnOk, OnErr, Bor, option_copied, set, Contains, ◌↔◌, refl, sym, ap, subst, ◌∙◌, inl, inr, eq-eqb}
use Rattle.std.specs.Prelude.{◌==◌, option_and_then, is_some, IsSomeAnd}
use Rattle.std.proofs.Props.{props}
use Rattle.std.proofs.lemmas.Bool.{and_from, cases_eq}
use Rattle.std.proofs.lemmas.List.{set-get_or}
use mathlib.Core.HLevel.{is_prop→PathP}
use Rattle.std.specs.BTreeMap as tree
use Rattle.std.specs.Map.{lookup}
use Rattle.std.specs.Set.{is_member}
use Rattle.std.specs.Ordering.{eq_by_cmp}
use Rattle.std.specs.Cmp.{eq_by_cmp_equiv}
use Rattle.std.proofs.lemmas.Map.Views.{list_any-from_Contains, Contains-from_any}
use Rattle.slab.specs.Slab as slab
use Rattle.slab.proofs.SlabLemmas.{Updates-with_value}
use Rattle.lapd_frame.specs.declared.Side.{Side}
use Rattle.lapd_frame.specs.declared.Address.{Address}
use Rattle.lapd_frame.specs.Address.{sapi_value, other_side}
use Rattle.lapd_frame.specs.declared.frame_fault.FrameFault.{FrameFault}
use Rattle.lapd_frame.specs.Frame.{Fields}
use Rattle.lapd_frame.specs.Reading.{frame_at}
use Rattle.lapd_link_definition.specs.declared.event.Event.{Event}
use Rattle.lapd_link_definition.specs.declared.event.Event.TheVariants as event
use Rattle.lapd_link_definition.specs.declared.event.LinkFault.{LinkFault}
use Rattle.lapd_link_definition.specs.declared.out.Out.{Out}
use Rattle.lapd_link_definition.specs.End.{End}
use Rattle.lapd_link_definition.specs.Input.{Input}
use Rattle.lapd_link_definition.specs.Refusal.{refused}
use Rattle.lapd_link.specs.Link.{setup_of, is_address_of, IsForLink, Steps, Refuses}
use Rattle.lapd_link.specs.declared.link.Link.{Link}
use Rattle.lapd_link.proofs.BetweenSteps.{end_of, shows_end, step_done}
use Rattle.lapd_table.specs.declared.link_id.LinkId.{LinkId}
use Rattle.lapd_table.specs.declared.link_key.LinkKey.{LinkKey}
use Rattle.lapd_table.specs.declared.link_table.LinkTable.{LinkTable}
use Rattle.lapd_table.specs.declared.table_fault.TableFault.{TableFault}
use Rattle.lapd_table.specs.declared.table_fault.TableFault.TheVariants.{NoLink}
use Rattle.lapd_table.specs.LinkId.{id_cmp, id_of_address, id_of_setup, setup_for}
use Rattle.lapd_table.specs.Index.{key_of, IsIndex, ArePlaces}
use Rattle.lapd_table.specs.Octets.{fault_for, event_by}
use Rattle.lapd_table.specs.LinkTable.{side_of, link_at, IsKey, Changes, IsUnchanged, StepsAt, RefusesAt, IsFor, arrives, HasDispatched, IsForNoLink}
use Rattle.lapd_table.proofs.Ids.{id_cmp_total, same_by_eq}
use Rattle.lapd_table.proofs.Indexes.{Links, Keys, Preserves, found_in, Finds, preserves_of_updates, linked, found_setup, stepped_index, stepped_finds, removed_index, removed_finds, added_index, added_finds, same_index, same_found, taken_out_again}

-- ---- By cases of options and results.

pub on_ok : {A E : Type 0} (r : Result A E) (P Q : Type 0) → (P → Q) → OnOk r P → OnOk r Q
on_ok (Ok a) P Q f h = f h
on_ok (Err e) P Q f h = tt

pub on_err : {A E : Type 0} (r : Result A E) (P Q : Type 0) → (P → Q) → OnErr r P → OnErr r Q
on_err (Ok a) P Q f h = tt
on_err (Err e) P Q f h = f h

pub if_err : {A E : Type 0} (r : Result A E) (P Q : E → Type 0) → ((e : E) → P e → Q e) → IfErr r P
    → IfErr r Q
if_err (Ok a) P Q f h = tt
if_err (Err e) P Q f h = f e h

pub is_some_of : {A : Type 0} (o : Option A) (a : A) → o ≡ Some a → IsSome o
is_some_of o a h = ap is_some h

-- the link of a table is the one under the key of its entry
pub has_key : (table : LinkTable) (id : LinkId) → IsSome (link_at table id)
    → (key : ℕ) × (key_of table.keys id ≡ Some key)
unfolding link_at
has_key table id = by (key_of table.keys id) refl
  where
    by : (o : Option ℕ) → key_of table.keys id ≡ o
        → IsSome (option_and_then (slab.get table.links) o)
        → (key : ℕ) × (key_of table.keys id ≡ Some key)
    by None there h = absurd (cc)
    by (Some key) there h = (key, there)

pub none_at : (table : LinkTable) (id : LinkId) → key_of table.keys id ≡ None
    → link_at table id ≡ None
unfolding link_at
none_at table id h = ap (option_and_then (slab.get table.links)) h

pub link_at_key : (table : LinkTable) (id : LinkId) (key : ℕ) → key_of table.keys id ≡ Some key
    → link_at table id ≡ slab.get table.links key
unfolding link_at
link_at_key table id key h = ap (option_and_then (slab.get table.links)) h

pub setup_at : (table : LinkTable) (id : LinkId) (link : Link) → link_at table id ≡ Some link
    → setup_of link ≡ setup_for (side_of table) id
unfolding link_at side_of
setup_at table id link h = found_setup table.side table.links table.keys table.index id link h

-- ---- Tables in which another link is found.

pub changed : (old new : LinkTable) (id : LinkId) (slot : Option Link) → new.side ≡ old.side
    → Finds old.links old.keys new.links new.keys id slot → Changes old new id slot
unfolding link_at side_of
changed old new id slot side finds =
    record { side = side; there = finds.there; others = finds.others }

pub unchanged : (old new : LinkTable) → new.side ≡ old.side
    → ((id : LinkId) → found_in new.links new.keys id ≡ found_in old.links old.keys id)
    → IsUnchanged old new
unfolding link_at side_of
unchanged old new side same = record { side = side; links = same }

-- ---- The link under a key takes a step.

module _ (old : LinkTable) (id : LinkId) (key : ℕ) (there : key_of old.keys id ≡ Some key) where
  pub has_link : slab.ContainsKey old.links key
  has_link = let l = linked old.side old.links old.keys old.index id key there in is_some_of _ _ l.1

  module _ (before : Link) (was : slab.get old.links key ≡ Some before) where
    pub before_at : link_at old id ≡ Some before
    before_at = link_at_key old id key there ∙ was

    pub before_setup : setup_of before ≡ setup_for old.side id
    unfolding side_of
    before_setup = setup_at old id before before_at

    module _ (after : Link) (setup : setup_of after ≡ setup_of before) where
      written : slab.Updates old.links (slab.with_value old.links key after) key (Some after)
      written = Updates-with_value old.links key after (is_some_of _ _ was)

      pub after_index : IsIndex old.side (slab.with_value old.links key after) old.keys
      after_index =
          stepped_index old.side old.links old.keys old.index id key there _ after written
          (setup ∙ before_setup)

      after_finds : Finds old.links old.keys (slab.with_value old.links key after) old.keys id
          (Some after)
      after_finds =
          stepped_finds old.side old.links old.keys old.index id key there _ after written
          (setup ∙ before_setup)

      module _ (new : LinkTable) (side : new.side ≡ old.side)
          (links : new.links ≡ slab.with_value old.links key after)
          (keys : new.keys ≡ old.keys) where
        finds : Finds old.links old.keys new.links new.keys id (Some after)
        finds = rw (links, keys) after_finds

        pub steps_at : (input : Input) (outs : List Out) → Steps before after input outs
            → StepsAt old new id input outs
        steps_at input outs steps = record {
          before = before;
          after = after;
          was = before_at;
          steps = steps;
          changes = changed old new id (Some after) side finds;
        }

    -- a property of the link that was found
    pub is_so_at : (IsSo : Link → Type 0) → IsSo before → IsSomeAnd (link_at old id) IsSo
    is_so_at IsSo h =
        let P : Option Link → Type 0 = λ o. IsSomeAnd o IsSo in
        subst P (sym before_at) h

    pub refuses_at : (input : Input) (fault : LinkFault) → Refuses before input fault
        → RefusesAt old id input fault
    refuses_at input fault = is_so_at (λ link. Refuses link input fault)

-- ---- The link under a key is written back as it was.

-- two tables with the same fields are the same
same_table : (old new : LinkTable) → new.alloc ≡ old.alloc → new.side ≡ old.side
    → new.links ≡ old.links → new.keys ≡ old.keys → new.places ≡ old.places → new ≡ old
same_table old new alloc side links keys places = λ i. record {
  alloc = alloc i;
  side = side i;
  links = links i;
  keys = keys i;
  places = places i;
  places_fit =
      is_prop→PathP (λ j. ArePlaces (places j) (keys j)) (λ j. hlevel props) new.places_fit
      old.places_fit i;
  index =
      is_prop→PathP (λ j. IsIndex (side j) (links j) (keys j)) (λ j. hlevel props) new.index
      old.index i;
}

same_slab : (links : Links) (key : ℕ) (link : Link) → slab.get links key ≡ Some link
    → slab.with_value links key link ≡ links
same_slab links key link was =
    let slots : set links.slots key (Some link) ≡ links.slots =
    ap (set links.slots key) (sym was) ∙ set-get_or links.slots key None in
    ap (λ (s : List (Option Link)). let written : Links = record links { slots = s } in written)
    slots

-- after a refusal the link and the table are unchanged
module _ (old : LinkTable) (id : LinkId) (key : ℕ) (there : key_of old.keys id ≡ Some key)
    (before : Link) (was : slab.get old.links key ≡ Some before) (after : Link)
    (same : after ≡ before) where
  rewritten : slab.SameValues old.links (slab.with_value old.links key after)
  rewritten at =
      let w = Updates-with_value old.links key after (is_some_of _ _ was) in
      elim (cases_eq at key) [
        | inl here ↦ ap (slab.get (slab.with_value old.links key after)) here ∙ w.changed
            ∙ ap Some same ∙ sym was ∙ ap (slab.get old.links) (sym here)
        | inr differs ↦ w.others at differs
      ]

  pub unchanged_by : (new : LinkTable) → new.side ≡ old.side
      → new.links ≡ slab.with_value old.links key after → new.keys ≡ old.keys → IsUnchanged old new
  unchanged_by new side links keys =
      unchanged old new side (same_found old.side old.links old.keys old.index new.links new.keys
      (λ at. ap (λ l. slab.get l at) links ∙ rewritten at)
      (λ at. ap (λ k. key_of k at) keys))

  pub same_by : (new : LinkTable) → new.alloc ≡ old.alloc → new.side ≡ old.side
      → new.links ≡ slab.with_value old.links key after → new.keys ≡ old.keys
      → new.places ≡ old.places → new ≡ old
  same_by new alloc side links keys =
      same_table old new alloc side
      (links ∙ ap (slab.with_value old.links key) same ∙ same_slab old.links key before was)
      keys

-- ---- Events that are for the link.

self_address : (side : Side) (a : Address)
    → is_address_of (setup_for side (id_of_address a)) a ≡ true
self_address side a =
    and_from (sapi_value a.sapi == sapi_value a.sapi) (a.tei == a.tei)
    (eq-eqb (sapi_value a.sapi) (sapi_value a.sapi) refl) (eq-eqb a.tei a.tei refl)

pub is_for_link_there : (link : Link) (side : Side) (id : LinkId) (e : Event)
    → setup_of link ≡ setup_for side id → IsFor id e → IsForLink link e
is_for_link_there link side id (event.Heard frame) setup is_for =
    ap (λ s. is_address_of s frame.now.address) (setup ∙ ap (setup_for side) (sym is_for))
    ∙ self_address side frame.now.address
is_for_link_there link side id (event.Fault kind) setup is_for = is_for
is_for_link_there link side id event.T200 setup is_for = tt
is_for_link_there link side id event.T203 setup is_for = tt
is_for_link_there link side id event.Establish setup is_for = tt
is_for_link_there link side id event.Release setup is_for = tt
is_for_link_there link side id event.BusyOn setup is_for = tt
is_for_link_there link side id event.BusyOff setup is_for = tt
is_for_link_there link side id (event.Unit len) setup is_for = tt

-- an existing link represents some end, so it refuses only what some end refuses
never_refuses : (link : Link) (input : Input) (fault : LinkFault)
    → ((e : End) → refused input e ≡ None) → Refuses link input fault → ⊥
never_refuses link input fault none refuses =
    let e = end_of link.machine in
    let no = refuses e (shows_end link.machine link.between) in
    let yes = step_done input e (sym (none e)) in
    cc

pub never_refused_at : (table : LinkTable) (id : LinkId) (input : Input) (fault : LinkFault)
    → ((e : End) → refused input e ≡ None) → RefusesAt table id input fault → ⊥
never_refused_at table id input fault none = by (link_at table id)
  where
    by : (o : Option Link) → IsSomeAnd o (λ link. Refuses link input fault) → ⊥
    by None h = h
    by (Some link) h = never_refuses link input fault none h

-- ---- Octets.

pub dispatched : (result : Result LinkId TableFault) (old new : LinkTable) (octets : List ℕ)
    (id : LinkId) (input : Input) (outs : List Out) → arrives old octets ≡ Ok (id, input)
    → IfOk result (λ done. (done ≡ id) × StepsAt old new id input outs)
    → IfOk result (λ done. HasDispatched old new octets done outs)
dispatched (Ok done) old new octets id input outs arrived h =
    let S : LinkId → Type 0 = λ i. StepsAt old new i input outs in
    record {
      input = input;
      arrived = arrived ∙ ap (λ i. Ok (i, input)) (sym h.0);
      steps = subst S (sym h.0) h.1;
    }
dispatched (Err fault) old new octets id input outs arrived h = tt

pub not_dispatched : (result : Result LinkId TableFault) (old : LinkTable) (octets : List ℕ)
    (id : LinkId) (input : Input) → arrives old octets ≡ Ok (id, input)
    → IfErr result (λ fault. (fault ≡ NoLink) × (link_at old id ≡ None))
    → IfErr result (IsForNoLink old octets)
not_dispatched (Ok done) old octets id input arrived h = tt
not_dispatched (Err fault) old octets id input arrived h =
    subst (IsForNoLink old octets) (sym h.0) (id, input, arrived, h.1)

-- ---- Whether a link exists, by its entry.

pub key_is_there : (table : LinkTable) (id : LinkId) → is_some (key_of table.keys id) ≡ true
    → IsSome (link_at table id)
key_is_there table id = by (key_of table.keys id) refl
  where
    by : (o : Option ℕ) → key_of table.keys id ≡ o → is_some o ≡ true → IsSome (link_at table id)
    by None there h = absurd (cc)
    by (Some key) there h =
        ap is_some (link_at_key table id key there) ∙ has_link table id key there

pub key_is_of_link : (table : LinkTable) (key : LinkKey) → IsKey table key
    → IsSome (link_at table key.id)
unfolding IsKey
key_is_of_link table key is = key_is_there table key.id (ap is_some is)

pub no_key : (o : Option ℕ) → is_some o ≡ false → o ≡ None
no_key None h = refl
no_key (Some key) h = absurd (cc)

-- ---- Adding a link.

setup_in : (table : LinkTable) (link : Link) → (setup_of link).side ≡ side_of table
    → setup_of link ≡ setup_for table.side (id_of_setup (setup_of link))
unfolding side_of
setup_in table link side = ap (λ s. setup_for s (id_of_setup (setup_of link))) side

-- the slab has room, and the link is stored under a vacant key
module _ (old : LinkTable) (link : Link) (side : (setup_of link).side ≡ side_of old) (id : LinkId)
    (its : id ≡ id_of_setup (setup_of link)) (absent : key_of old.keys id ≡ None)
    (roomy : Links) (preserved : slab.SameValues old.links roomy) (key : ℕ)
    (vacant : slab.get roomy key ≡ None) (links : Links)
    (put : slab.Updates roomy links key (Some link)) where
  setup : setup_of link ≡ setup_for old.side id
  setup = setup_in old link side ∙ ap (setup_for old.side) (sym its)

  roomy_index : IsIndex old.side roomy old.keys
  roomy_index =
      same_index old.side old.links old.keys old.index roomy old.keys preserved (λ at. refl)

  -- the entry of the link is in the map
  module _ (keys : Keys) (named : tree.Updates id_cmp old.keys keys id (Some key)) where
    preserves : Preserves old.keys keys id (Some key)
    preserves = preserves_of_updates old.keys keys id (Some key) named

    pub with_link_index : IsIndex old.side links keys
    with_link_index =
        added_index old.side roomy old.keys roomy_index id absent key vacant links keys link put
        preserves setup

    added : Finds old.links old.keys links keys id (Some link)
    added =
        let now =
        added_finds old.side roomy old.keys roomy_index id absent key vacant links keys link
        put preserves setup in
        let before =
        same_found old.side old.links old.keys old.index roomy old.keys preserved
        (λ at. refl) in
        record {
          there = now.there;
          others = λ other differs. now.others other differs ∙ before other;
        }

    pub with_link : (new : LinkTable) → new.side ≡ old.side → new.links ≡ links → new.keys ≡ keys
        → Changes old new id (Some link)
    with_link new same_side same_links same_keys =
        let now : Finds old.links old.keys new.links new.keys id (Some link) =
        rw (same_links, same_keys) added in
        changed old new id (Some link) same_side now

  -- the map could not allocate, and the link is removed again
  module _ (back : Links) (out : slab.Updates links back key None) (keys : Keys)
      (same : keys.entries ≡ old.keys.entries) where
    as_before_links : slab.SameValues old.links back
    as_before_links at = taken_out_again roomy links back key link vacant put out at ∙ preserved at

    as_before_keys : (at : LinkId) → key_of keys at ≡ key_of old.keys at
    as_before_keys at = ap (λ es. lookup (tree.is_at (id_cmp at)) es) same

    pub as_before_index : IsIndex old.side back keys
    as_before_index =
        same_index old.side old.links old.keys old.index back keys as_before_links as_before_keys

    pub as_before : (new : LinkTable) → new.side ≡ old.side → new.links ≡ back → new.keys ≡ keys
        → IsUnchanged old new
    as_before new same_side same_links same_keys =
        unchanged old new same_side
        (λ i. ap (λ l. found_in l new.keys i) same_links ∙ ap (λ k. found_in back k i) same_keys
        ∙ same_found old.side old.links old.keys old.index back keys as_before_links as_before_keys
        i)

-- only the slab tried to allocate
pub with_room : (old new : LinkTable) → new.side ≡ old.side → slab.SameValues old.links new.links
    → new.keys ≡ old.keys → IsUnchanged old new
with_room old new side preserved keys =
    unchanged old new side (same_found old.side old.links old.keys old.index new.links new.keys
    preserved (λ at. ap (λ k. key_of k at) keys))

-- ---- Removing a link.

module _ (old : LinkTable) (id : LinkId) (keys : Keys)
    (unnamed : tree.Updates id_cmp old.keys keys id None) where
  gone : Preserves old.keys keys id None
  gone = preserves_of_updates old.keys keys id None unnamed

  pub without_link_index : (key : ℕ) → key_of old.keys id ≡ Some key → (links : Links)
      → slab.Updates old.links links key None → IsIndex old.side links keys
  without_link_index key there links out =
      removed_index old.side old.links old.keys old.index id key there links keys out gone

  pub without_link : (key : ℕ) → key_of old.keys id ≡ Some key → (links : Links)
      → slab.Updates old.links links key None
      → (new : LinkTable) → new.side ≡ old.side → new.links ≡ links → new.keys ≡ keys
      → Changes old new id None
  without_link key there links out new same_side same_links same_keys =
      let finds =
      removed_finds old.side old.links old.keys old.index id key there links keys out
      gone in
      let now : Finds old.links old.keys new.links new.keys id None =
      rw (same_links, same_keys) finds in
      changed old new id None same_side now

  -- no such link existed
  pub without_any : (new : LinkTable) → new.side ≡ old.side → new.links ≡ old.links
      → new.keys ≡ keys → Changes old new id None
  without_any new same_side same_links same_keys =
      let finds : Finds old.links old.keys old.links keys id None = record {
        there = ap (option_and_then (slab.get old.links)) gone.there;
        others =
            λ other differs. ap (option_and_then (slab.get old.links)) (gone.others other differs);
      } in
      let now : Finds old.links old.keys new.links new.keys id None =
      rw (same_links, same_keys) finds in
      changed old new id None same_side now

-- ---- A table without links.

pub none_in_empty : (table : LinkTable) → table.keys.entries ≡ [] → (id : LinkId)
    → link_at table id ≡ None
none_in_empty table empty id =
    none_at table id (ap (λ es. lookup (tree.is_at (id_cmp id)) es) empty)

pub side_is : (table : LinkTable) (side : Side) → table.side ≡ side → side_of table ≡ side
unfolding side_of
side_is table side h = h

-- ---- Lent parts of a table.

pub setup_of_lent : (table : LinkTable) (id : LinkId) (lent : Option (Bor Link))
    → option_copied lent ≡ link_at table id
    → IfSome lent (λ link. setup_of link.now ≡ setup_for (side_of table) id)
setup_of_lent table id None h = tt
setup_of_lent table id (Some link) h = setup_at table id link.now (sym h)

-- ---- Reading octets.

pub arrived : (table : LinkTable) (octets : List ℕ) (from : Side)
    (result : Result Fields FrameFault) → from ≡ other_side table.side
    → result ≡ frame_at from octets → arrives table octets ≡ event_by result
unfolding side_of
arrived table octets from result same exact =
    sym (ap event_by exact ∙ ap (λ f. event_by (frame_at f octets)) same)

-- ---- The ids.

-- the keys of the map, in order, are the ids of the existing links
pub ids_there : (table : LinkTable) (keys : List LinkId)
    → ((id : LinkId) → is_some (key_of table.keys id) ≡ is_member (eq_by_cmp id_cmp) keys id)
    → (id : LinkId) → Contains keys id ↔ IsSome (link_at table id)
ids_there table keys has id = (
  λ among. key_is_there table id
      (has id ∙ list_any-from_Contains (eq_by_cmp_equiv id_cmp_total) id keys among),
  λ there. let key =
      has_key table id there in Contains-from_any (λ x y. same_by_eq x y) id keys
      (sym (has id) ∙ ap is_some key.1),
)

pub on_ok_all : {A E : Type 0} (r : Result A E) (P Q : A → Type 0) → ((a : A) → P a → Q a)
    → IfOk r P → IfOk r Q
on_ok_all (Ok a) P Q f h = f a h
on_ok_all (Err e) P Q f h = tt

-- octets with a fault that has an address are for that link; those with a fault that has none are
-- for no link
pub arrived_fault : (table : LinkTable) (octets : List ℕ) (from : Side) (fault : FrameFault)
    → from ≡ other_side table.side → Err fault ≡ frame_at from octets
    → (address : Option Address) → fault.address ≡ address
    → arrives table octets ≡ fault_for address fault.kind
arrived_fault table octets from fault same exact address its =
    arrived table octets from (Err fault) same exact ∙ ap (λ a. fault_for a fault.kind) its
