-- How a change of the map and of one place affects how a key is found.
use Rattle.std.proofs.Common.{◌≡◌, ◌≢◌, ℕ, zero, suc, ◌≤◌, ◌<◌, ◌-◌, List, [], ◌∷◌, Option, Some, None, set, get_or, replicate, sym, ap, ◌∙◌, inl, inr, arith}
use Rattle.std.proofs.lemmas.Bool.{cases_eq}
use Rattle.std.proofs.lemmas.List.{get_or-set_other, get_or-replicate}
use Rattle.std.specs.Prelude.{◌+◌, ◌*◌}
use Rattle.std.specs.BTreeMap as tree
use Rattle.std.specs.Map.{lookup}
use Rattle.lapd_frame.specs.declared.Sapi.{Sapi}
use Rattle.lapd_frame.specs.declared.Sapi.TheVariants.{Call, Packet, Management}
use Rattle.lapd_table.specs.declared.link_id.LinkId.{LinkId}
use Rattle.lapd_table.specs.LinkId.{id_cmp, place_of, sapi_place}
use Rattle.lapd_table.specs.Index.{key_of, ArePlaces}
use Rattle.lapd_table.proofs.Ids.{same_place}
use Rattle.lapd_table.proofs.Indexes.{Keys, preserves_of_updates}

-- a place that was written has what was written, or 0
read_again : (places : List ℕ) (at mark key : ℕ) → get_or (set places at mark) at 0 ≡ suc key
    → mark ≡ suc key
read_again [] at mark key h = absurd (omega (arith, h))
read_again (place ∷ places) zero mark key h = h
read_again (place ∷ places) (suc at) mark key h = read_again places at mark key h

-- the entry of an id changes, and its place is written
pub written : (places : List ℕ) (old new : Keys) (id : LinkId) (slot : Option ℕ) (at mark : ℕ)
    → ArePlaces places old → tree.Updates id_cmp old new id slot → id.tei ≤ 127 → at ≡ place_of id
    → ((key : ℕ) → mark ≡ suc key → slot ≡ Some key) → ArePlaces (set places at mark) new
written places old new id slot at mark are updates tei its marked other key other_tei h =
    let preserves = preserves_of_updates old new id slot updates in
    elim (cases_eq (place_of other) at) [
      | inl same ↦
          let one : other ≡ id = same_place other id other_tei tei (same ∙ its) in
          let here = ap (λ i. get_or (set places at mark) i 0) (sym same) ∙ h in
          ap (key_of new) one ∙ preserves.there ∙ marked key (read_again places at mark key here)
      | inr apart ↦
          let unwritten = get_or-set_other places at (place_of other) mark 0 apart in
          let differs : other ≢ id = λ same. apart (ap place_of same ∙ sym its) in
          preserves.others other differs ∙ are other key other_tei (sym unwritten ∙ h)
    ]

-- a map with the same entries
pub kept : (places : List ℕ) (old new : Keys) → new.entries ≡ old.entries → ArePlaces places old
    → ArePlaces places new
kept places old new same are id key tei h =
    ap (lookup (tree.is_at (id_cmp id))) same ∙ are id key tei h

-- a place that is not 0 has one more than a key
pub one_more : (m n : ℕ) → 0 < m → n ≡ m → m ≡ suc (n - 1)
one_more m n h same = omega (arith, h, same)

-- 0 says nothing of a key
pub none_marked : (key : ℕ) → 0 ≡ suc key → None ≡ Some key
none_marked key h = absurd (omega (arith, h))

-- in a table without links each place has 0
pub no_places : (keys : Keys) → ArePlaces (replicate 384 0) keys
no_places keys id key tei h =
    let none = get_or-replicate {A = ℕ} 384 (place_of id) 0 0 (in_range id.sapi id.tei tei) in
    absurd (omega (arith, none, h))
  where
    in_range : (sapi : Sapi) (tei : ℕ) → tei ≤ 127 → sapi_place sapi * 128 + tei < 384
    in_range Call tei p = omega (arith, p)
    in_range Packet tei p = omega (arith, p)
    in_range Management tei p = omega (arith, p)
