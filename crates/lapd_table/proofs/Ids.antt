-- The order of SAPI and TEI distinguishes all ids.
use Rattle.std.proofs.Common.{◌≡◌, ◌⊎◌, ℕ, Bool, true, false, ◌&&◌, refl, ap, inl, inr, arith, rules}
use Rattle.std.proofs.lemmas.Bool.{eqb-true, eq-eqb, and_from}
use Rattle.std.specs.Prelude.{◌==◌, ◌+◌, ◌*◌, ◌≤◌}
use Rattle.std.specs.Cmp.{IsTotalOrder}
use Rattle.std.specs.Cmp.Rules.{comparing}
use Rattle.std.specs.declared.cmp.Ordering.{Ordering}
use Rattle.std.specs.declared.cmp.Ordering.TheVariants.{Less, Equal, Greater}
use Rattle.std.specs.Ordering.{is_eq, ordering_then, ordering_reverse}
use Rattle.std.proofs.lemmas.Map.Lookups.{exact_unsigned}
use Rattle.lapd_frame.specs.declared.Sapi.{Sapi}
use Rattle.lapd_frame.specs.declared.Sapi.TheVariants.{Call, Packet, Management}
use Rattle.lapd_frame.specs.Address.{sapi_value}
use Rattle.lapd_table.specs.declared.link_id.LinkId.{LinkId}
use Rattle.lapd_table.specs.LinkId.{id_cmp, id_eq, sapi_place, place_of}

pub id_cmp_total : IsTotalOrder id_cmp
id_cmp_total = search (comparing, rules)

sapi_of_value : (a b : Sapi) → sapi_value a ≡ sapi_value b → a ≡ b
sapi_of_value Call Call h = refl
sapi_of_value Call Packet h = absurd (omega (arith, h))
sapi_of_value Call Management h = absurd (omega (arith, h))
sapi_of_value Packet Call h = absurd (omega (arith, h))
sapi_of_value Packet Packet h = refl
sapi_of_value Packet Management h = absurd (omega (arith, h))
sapi_of_value Management Call h = absurd (omega (arith, h))
sapi_of_value Management Packet h = absurd (omega (arith, h))
sapi_of_value Management Management h = refl

both_equal : (x y : Ordering) → ordering_then x y ≡ Equal → (x ≡ Equal) × (y ≡ Equal)
both_equal Less y h = absurd (cc)
both_equal Equal y h = (refl, h)
both_equal Greater y h = absurd (cc)

abbrev make : Sapi → ℕ → LinkId
make sapi tei = record { sapi = sapi; tei = tei }

same_fields : (s t : Sapi) (m n : ℕ) → s ≡ t → m ≡ n → make s m ≡ make t n
same_fields s t m n p q = rw (p, q) refl

pub same_id : (a b : LinkId) → id_cmp a b ≡ Equal → a ≡ b
same_id a b h =
    let both = both_equal _ _ h in
    let sapi = sapi_of_value a.sapi b.sapi (exact_unsigned _ _ both.0) in
    same_fields a.sapi b.sapi a.tei b.tei sapi (exact_unsigned _ _ both.1)

equal_from : (o : Ordering) → is_eq o ≡ true → o ≡ Equal
equal_from Less h = absurd (cc)
equal_from Equal h = refl
equal_from Greater h = absurd (cc)

pub same_by_eq : (a b : LinkId) → is_eq (id_cmp a b) ≡ true → a ≡ b
same_by_eq a b h = same_id a b (equal_from _ h)

equal_to_reverse : (o : Ordering) → o ≡ ordering_reverse o → is_eq o ≡ true
equal_to_reverse Less h = absurd (cc)
equal_to_reverse Equal h = refl
equal_to_reverse Greater h = absurd (cc)

pub id_cmp_self : (a : LinkId) → is_eq (id_cmp a a) ≡ true
id_cmp_self a = equal_to_reverse _ (id_cmp_total.antisymm a a)

pub bool_cases : (b : Bool) → (b ≡ true) ⊎ (b ≡ false)
bool_cases true = inl refl
bool_cases false = inr refl

pub id_cases : (a b : LinkId) → (a ≡ b) ⊎ (is_eq (id_cmp a b) ≡ false)
id_cases a b = elim (bool_cases (is_eq (id_cmp a b))) [
  | inl h ↦ inl (same_id a b (equal_from _ h))
  | inr h ↦ inr h
]

-- ---- The same for the equality test.

and_both : (x y : Bool) → (x && y) ≡ true → (x ≡ true) × (y ≡ true)
and_both true y h = (refl, h)
and_both false y h = absurd (cc)

pub same_id_eq : (a b : LinkId) → id_eq a b ≡ true → a ≡ b
same_id_eq a b h =
    let both = and_both (sapi_value a.sapi == sapi_value b.sapi) (a.tei == b.tei) h in
    same_fields a.sapi b.sapi a.tei b.tei (sapi_of_value a.sapi b.sapi (eqb-true _ _ both.0))
    (eqb-true _ _ both.1)

pub id_eq_self : (a : LinkId) → id_eq a a ≡ true
id_eq_self a =
    and_from (sapi_value a.sapi == sapi_value a.sapi) (a.tei == a.tei)
    (eq-eqb (sapi_value a.sapi) (sapi_value a.sapi) refl) (eq-eqb a.tei a.tei refl)

-- ---- The same for the rank.

same_rank : (s t : Sapi) (m n : ℕ) → m ≤ 127 → n ≤ 127
    → sapi_place s * 128 + m ≡ sapi_place t * 128 + n → make s m ≡ make t n
same_rank Call Call m n p q h = ap (make Call) (omega (arith, h))
same_rank Call Packet m n p q h = absurd (omega (arith, p, h))
same_rank Call Management m n p q h = absurd (omega (arith, p, h))
same_rank Packet Call m n p q h = absurd (omega (arith, q, h))
same_rank Packet Packet m n p q h = ap (make Packet) (omega (arith, h))
same_rank Packet Management m n p q h = absurd (omega (arith, p, h))
same_rank Management Call m n p q h = absurd (omega (arith, q, h))
same_rank Management Packet m n p q h = absurd (omega (arith, q, h))
same_rank Management Management m n p q h = ap (make Management) (omega (arith, h))

pub same_place : (a b : LinkId) → a.tei ≤ 127 → b.tei ≤ 127 → place_of a ≡ place_of b → a ≡ b
same_place a b p q h = same_rank a.sapi b.sapi a.tei b.tei p q h
