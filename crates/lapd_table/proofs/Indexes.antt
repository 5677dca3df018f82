-- How a change of the slab and the map affects the index and the link that is found by it.
use Rattle.std.proofs.Common.{◌≡◌, ◌≢◌, ℕ, true, false, Option, Some, None, refl, sym, ap, ◌∙◌, inl, inr}
use Rattle.std.specs.Prelude.{option_map, option_and_then}
use Rattle.std.specs.Ordering.{is_eq}
use Rattle.std.proofs.lemmas.Bool.{cases_eq}
use Rattle.std.specs.BTreeMap as tree
use Rattle.slab.specs.Slab as slab
use Rattle.lapd_frame.specs.declared.Side.{Side}
use Rattle.lapd_link.specs.Link.{Setup, setup_of}
use Rattle.lapd_link.specs.declared.link.Link.{Link}
use Rattle.lapd_table.specs.declared.link_id.LinkId.{LinkId}
use Rattle.lapd_table.specs.LinkId.{id_cmp, id_of_setup, setup_for}
use Rattle.lapd_table.specs.Index.{key_of, IsIndex}
use Rattle.lapd_table.proofs.Ids.{id_cmp_self, id_cases}

abbrev pub Links : Type 0
Links = slab.Slab Link

abbrev pub Keys : Type 0
Keys = tree.BTreeMap LinkId ℕ

-- the link that is found by its SAPI and TEI
abbrev pub found_in : Links → Keys → LinkId → Option Link
found_in links keys id = option_and_then (slab.get links) (key_of keys id)

-- every SAPI and TEI except this one has the same key as before
pub record Preserves (old new : Keys) (id : LinkId) (slot : Option ℕ) : Type 0 where
  pub there : key_of new id ≡ slot
  pub others : (other : LinkId) → other ≢ id → key_of new other ≡ key_of old other

-- the link that is found now
pub record Finds (old_links : Links) (old_keys : Keys) (links : Links) (keys : Keys) (id : LinkId)
    (slot : Option Link) : Type 0 where
  pub there : found_in links keys id ≡ slot
  pub others : (other : LinkId) → other ≢ id
      → found_in links keys other ≡ found_in old_links old_keys other

-- ---- By cases of options.

some_inj : {A : Type 0} (a b : A) → Some a ≡ Some b → a ≡ b
some_inj a b h = cc

some_of_map : (o : Option Link) (setup : Setup) → option_map setup_of o ≡ Some setup
    → (link : Link) × (o ≡ Some link) × (setup_of link ≡ setup)
some_of_map None setup h = absurd (cc)
some_of_map (Some link) setup h = (link, refl, some_inj _ _ h)

id_of_setup_for : (side : Side) (id other : LinkId) → setup_for side id ≡ setup_for side other
    → id ≡ other
id_of_setup_for side id other h = ap id_of_setup h

-- ---- The map of the keys.

pub preserves_of_updates : (old new : Keys) (id : LinkId) (slot : Option ℕ)
    → tree.Updates id_cmp old new id slot → Preserves old new id slot
preserves_of_updates old new id slot updates = record {
  there = updates.1;
  others = λ other differs. elim (id_cases id other) [
    | inl same ↦ absurd (differs (sym same))
    | inr apart ↦ updates.2 other apart
  ];
}

-- ---- The index.

module _ (side : Side) (links : Links) (keys : Keys) (index : IsIndex side links keys) where
  -- an entry names an existing link
  pub linked : (id : LinkId) (key : ℕ) → key_of keys id ≡ Some key
      → (link : Link) × (slab.get links key ≡ Some link) × (setup_of link ≡ setup_for side id)
  linked id key there = some_of_map _ _ (index.names id key there)

  -- two entries with the same key are equal
  pub named_once : (id other : LinkId) (key : ℕ) → key_of keys id ≡ Some key
      → key_of keys other ≡ Some key → id ≡ other
  named_once id other key there again =
      id_of_setup_for side id other
      (some_inj _ _ (sym (index.names id key there) ∙ index.names other key again))

  -- a found link is of this side and of exactly that SAPI and TEI
  pub found_setup : (id : LinkId) (link : Link) → found_in links keys id ≡ Some link
      → setup_of link ≡ setup_for side id
  found_setup id link = by (key_of keys id) refl
    where
      by : (o : Option ℕ) → key_of keys id ≡ o → option_and_then (slab.get links) o ≡ Some link
          → setup_of link ≡ setup_for side id
      by None there h = absurd (cc)
      by (Some key) there h =
          let l = linked id key there in
          ap setup_of (some_inj _ _ (sym h ∙ l.1)) ∙ l.2

  module _ (id : LinkId) (key : ℕ) (there : key_of keys id ≡ Some key) where
    -- another entry names another key
    pub other_key : (other : LinkId) (at : ℕ) → other ≢ id → key_of keys other ≡ Some at → at ≢ key
    other_key other at differs again same =
        differs (named_once other id key (again ∙ ap Some same) there)

    -- ---- a link takes a step: only its slot is written, and its side, SAPI and TEI are unchanged

    module _ (links' : Links) (link : Link) (updates : slab.Updates links links' key (Some link))
        (setup : setup_of link ≡ setup_for side id) where
      pub stepped_names : (other : LinkId) (at : ℕ) → key_of keys other ≡ Some at
          → option_map setup_of (slab.get links' at) ≡ Some (setup_for side other)
      stepped_names other at again = elim (cases_eq at key) [
        | inl same ↦
            let one : id ≡ other = named_once id other key there (again ∙ ap Some same) in
            ap (λ k. option_map setup_of (slab.get links' k)) same
            ∙ ap (option_map setup_of) updates.changed
            ∙ ap Some (setup ∙ ap (setup_for side) one)
        | inr differs ↦ ap (option_map setup_of) (updates.others at differs)
            ∙ index.names other at again
      ]

      pub stepped_named : (at : ℕ) (other : Link) → slab.get links' at ≡ Some other
          → key_of keys (id_of_setup (setup_of other)) ≡ Some at
      stepped_named at other h = elim (cases_eq at key) [
        | inl same ↦
            let one : link ≡ other =
            some_inj _ _ (sym updates.changed ∙ ap (slab.get links') (sym same) ∙ h) in
            ap (λ l. key_of keys (id_of_setup (setup_of l))) (sym one)
            ∙ ap (λ s. key_of keys (id_of_setup s)) setup ∙ there ∙ ap Some (sym same)
        | inr differs ↦ index.named at other (sym (updates.others at differs) ∙ h)
      ]

      pub stepped_index : IsIndex side links' keys
      stepped_index = record { names = stepped_names; named = stepped_named }

      stepped_other : (other : LinkId) → other ≢ id → (o : Option ℕ) → key_of keys other ≡ o
          → option_and_then (slab.get links') o ≡ option_and_then (slab.get links) o
      stepped_other other differs None again = refl
      stepped_other other differs (Some at) again =
          updates.others at (other_key other at differs again)

      pub stepped_finds : Finds links keys links' keys id (Some link)
      stepped_finds = record {
        there = ap (option_and_then (slab.get links')) there ∙ updates.changed;
        others = λ other differs. stepped_other other differs (key_of keys other) refl;
      }

    -- ---- a link is removed, and so is its entry

    module _ (links' : Links) (keys' : Keys) (updates : slab.Updates links links' key None)
        (preserves : Preserves keys keys' id None) where
      not_removed : (other : LinkId) (at : ℕ) → key_of keys' other ≡ Some at
          → (other ≢ id) × (key_of keys other ≡ Some at)
      not_removed other at again = elim (id_cases id other) [
        | inl same ↦ absurd
            (let h : None ≡ Some at = sym preserves.there ∙ ap (key_of keys') same ∙ again in cc)
        | inr apart ↦
            let differs : other ≢ id =
            λ same. absurd (let h : None ≡ Some at =
            sym preserves.there ∙ ap (key_of keys') (sym same) ∙ again in
            cc) in
            (differs, sym (preserves.others other differs) ∙ again)
      ]

      removed_names : (other : LinkId) (at : ℕ) → key_of keys' other ≡ Some at
          → option_map setup_of (slab.get links' at) ≡ Some (setup_for side other)
      removed_names other at again =
          let was = not_removed other at again in
          ap (option_map setup_of) (updates.others at (other_key other at was.0 was.1))
          ∙ index.names other at was.1

      removed_named : (at : ℕ) (other : Link) → slab.get links' at ≡ Some other
          → key_of keys' (id_of_setup (setup_of other)) ≡ Some at
      removed_named at other h = elim (cases_eq at key) [
        | inl same ↦ absurd (let e
            : None ≡ Some other =
            sym updates.changed ∙ ap (slab.get links') (sym same) ∙ h in cc)
        | inr differs ↦
            let was = index.named at other (sym (updates.others at differs) ∙ h) in
            let apart : id_of_setup (setup_of other) ≢ id =
            λ same. differs (some_inj _ _ (sym was ∙ ap (key_of keys) same ∙ there)) in
            preserves.others _ apart ∙ was
      ]

      pub removed_index : IsIndex side links' keys'
      removed_index = record { names = removed_names; named = removed_named }

      removed_other : (other : LinkId) → other ≢ id → (o : Option ℕ) → key_of keys other ≡ o
          → option_and_then (slab.get links') o ≡ option_and_then (slab.get links) o
      removed_other other differs None again = refl
      removed_other other differs (Some at) again =
          updates.others at (other_key other at differs again)

      pub removed_finds : Finds links keys links' keys' id None
      removed_finds = record {
        there = ap (option_and_then (slab.get links')) preserves.there;
        others =
            λ other differs. ap (option_and_then (slab.get links')) (preserves.others other differs)
            ∙ removed_other other differs (key_of keys other) refl;
      }

  -- ---- a link is added under a vacant key, with an entry

  module _ (id : LinkId) (absent : key_of keys id ≡ None) (key : ℕ)
      (vacant : slab.get links key ≡ None) (links' : Links) (keys' : Keys) (link : Link)
      (updates : slab.Updates links links' key (Some link))
      (preserves : Preserves keys keys' id (Some key))
      (setup : setup_of link ≡ setup_for side id) where
    -- an earlier entry names another key
    taken : (other : LinkId) (at : ℕ) → key_of keys other ≡ Some at → at ≢ key
    taken other at again same =
        let l = linked other at again in
        let h : None ≡ Some l.0 = sym vacant ∙ ap (slab.get links) (sym same) ∙ l.1 in
        absurd (cc)

    added_names : (other : LinkId) (at : ℕ) → key_of keys' other ≡ Some at
        → option_map setup_of (slab.get links' at) ≡ Some (setup_for side other)
    added_names other at again = elim (id_cases other id) [
      | inl same ↦
          let one : key ≡ at =
          some_inj _ _ (sym preserves.there ∙ ap (key_of keys') (sym same) ∙ again) in
          ap (λ k. option_map setup_of (slab.get links' k)) (sym one)
          ∙ ap (option_map setup_of) updates.changed
          ∙ ap Some (setup ∙ ap (setup_for side) (sym same))
      | inr apart ↦
          let differs : other ≢ id =
          λ same. let h : false ≡ true =
          sym apart ∙ ap (λ o. is_eq (id_cmp o id)) same ∙ id_cmp_self id in absurd (cc) in
          let was : key_of keys other ≡ Some at = sym (preserves.others other differs) ∙ again in
          ap (option_map setup_of) (updates.others at (taken other at was))
          ∙ index.names other at was
    ]

    added_named : (at : ℕ) (other : Link) → slab.get links' at ≡ Some other
        → key_of keys' (id_of_setup (setup_of other)) ≡ Some at
    added_named at other h = elim (cases_eq at key) [
      | inl same ↦
          let one : link ≡ other =
          some_inj _ _ (sym updates.changed ∙ ap (slab.get links') (sym same) ∙ h) in
          ap (λ l. key_of keys' (id_of_setup (setup_of l))) (sym one)
          ∙ ap (λ s. key_of keys' (id_of_setup s)) setup ∙ preserves.there ∙ ap Some (sym same)
      | inr differs ↦
          let was = index.named at other (sym (updates.others at differs) ∙ h) in
          let apart : id_of_setup (setup_of other) ≢ id =
          λ same. let e : None ≡ Some at =
          sym absent ∙ ap (key_of keys) (sym same) ∙ was in absurd (cc) in
          preserves.others _ apart ∙ was
    ]

    pub added_index : IsIndex side links' keys'
    added_index = record { names = added_names; named = added_named }

    added_other : (other : LinkId) (o : Option ℕ) → key_of keys other ≡ o
        → option_and_then (slab.get links') o ≡ option_and_then (slab.get links) o
    added_other other None again = refl
    added_other other (Some at) again = updates.others at (taken other at again)

    pub added_finds : Finds links keys links' keys' id (Some link)
    added_finds = record {
      there = ap (option_and_then (slab.get links')) preserves.there ∙ updates.changed;
      others =
          λ other differs. ap (option_and_then (slab.get links')) (preserves.others other differs) ∙
          added_other other (key_of keys other) refl;
    }

  -- ---- no link that can be found has changed

  module _ (links' : Links) (keys' : Keys) (same_links : slab.SameValues links links')
      (same_keys : (id : LinkId) → key_of keys' id ≡ key_of keys id) where
    pub same_index : IsIndex side links' keys'
    same_index = record {
      names =
          λ id key there. ap (option_map setup_of) (same_links key) ∙ index.names id key
          (sym (same_keys id) ∙ there);
      named = λ key link there. same_keys _ ∙ index.named key link (sym (same_links key) ∙ there);
    }

    same_at : (o : Option ℕ)
        → option_and_then (slab.get links') o ≡ option_and_then (slab.get links) o
    same_at None = refl
    same_at (Some key) = same_links key

    pub same_found : (id : LinkId) → found_in links' keys' id ≡ found_in links keys id
    same_found id = ap (option_and_then (slab.get links')) (same_keys id) ∙ same_at (key_of keys id)

-- adding a link and removing it again changes nothing
pub taken_out_again : (links put back : Links) (key : ℕ) (link : Link) → slab.get links key ≡ None
    → slab.Updates links put key (Some link) → slab.Updates put back key None
    → slab.SameValues links back
taken_out_again links put back key link vacant in_it out_of_it at = elim (cases_eq at key) [
  | inl same ↦ ap (slab.get back) same ∙ out_of_it.changed ∙ sym vacant
      ∙ ap (slab.get links) (sym same)
  | inr differs ↦ out_of_it.others at differs ∙ in_it.others at differs
]
