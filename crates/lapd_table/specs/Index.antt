-- The links of a table, in a slab; the map with the slab key of each; and the places, by which a key
-- is found without a search.
use Rattle.std.specs.Prelude.{◌≡◌, ℕ, suc, ◌≤◌, List, slice_index_or, Option, Some, option_map}
use Rattle.std.specs.BTreeMap as tree
use Rattle.slab.specs.Slab as slab
use Rattle.lapd_frame.specs.declared.Side.{Side}
use Rattle.lapd_link.specs.Link.{setup_of}
use Rattle.lapd_link.specs.declared.link.Link.{Link}
use Rattle.lapd_table.specs.declared.link_id.LinkId.{LinkId}
use Rattle.lapd_table.specs.LinkId.{id_cmp, id_of_setup, setup_for, place_of}

-- the key of this SAPI and TEI
abbrev pub key_of : tree.BTreeMap LinkId ℕ → LinkId → Option ℕ
key_of keys id = tree.get id_cmp keys id

-- Each map entry names a link of this side with exactly the entry's SAPI and TEI. Each link has
-- exactly one entry, under its own id.
pub record IsIndex (side : Side) (links : slab.Slab Link) (keys : tree.BTreeMap LinkId ℕ) :
    Type 0 where
  pub names : (id : LinkId) (key : ℕ) → key_of keys id ≡ Some key
      → option_map setup_of (slab.get links key) ≡ Some (setup_for side id)
  pub named : (key : ℕ) (link : Link) → slab.get links key ≡ Some link
      → key_of keys (id_of_setup (setup_of link)) ≡ Some key

-- A place has one more than the key of its SAPI and TEI, or 0.
abbrev pub ArePlaces : List ℕ → tree.BTreeMap LinkId ℕ → Type 0
ArePlaces places keys = (id : LinkId) (key : ℕ) → id.tei ≤ 127
    → slice_index_or places (place_of id) 0 ≡ suc key → key_of keys id ≡ Some key
