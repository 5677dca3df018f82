-- The losses of a restart, as layer 3 counts them for one link.
use Rattle.std.proofs.Common.{◌≡◌, ℕ, zero, suc, ◌<◌, ◌≤◌, ◌==◌, ◌&&◌, Bool, true, false, List, [], ◌∷◌, ◌++◌, Option, Some, None, refl, sym, ap, subst, ◌∙◌, arith}
use Rattle.std.specs.Prelude.{◌||◌}
use Rattle.std.specs.List.{list_any}
use Rattle.std.proofs.lemmas.Bool.Decides.{nat_tests}
use Rattle.std.proofs.lemmas.List.{append-nil}
use Rattle.std.proofs.lemmas.List.Elements.{filter_map-append}
use Rattle.lapd_frame.specs.declared.Sapi.{Sapi}
use Rattle.lapd_frame.specs.declared.Sapi.TheVariants.{Call, Packet, Management}
use Rattle.lapd_frame.specs.Address.{sapi_value}
use Rattle.lapd_link_definition.specs.End.{waiting}
use Rattle.lapd_table.specs.declared.link_id.LinkId.{LinkId}
use Rattle.lapd_table.specs.LinkId.{id_eq}
use Rattle.lapd_table.proofs.Ids.{id_eq_self}
use Rattle.lapd_sides_links.specs.declared.primitive.Primitive.{Primitive}
use Rattle.lapd_sides_links.specs.declared.primitive.What.{What}
use Rattle.lapd_sides_links.specs.declared.primitive.What.TheVariants as what
use Rattle.lapd_sides_links.specs.Links.{Linked, Links, of_sapi}
use Rattle.lapd_two_side_laws.specs.Premises.{is_removal}
use Rattle.lapd_two_side_laws.specs.Primitives.{what_for, link_primitives}
use Rattle.lapd_two_side_laws.proofs.LinkParts.{any_more, any_behind}
use Rattle.lapd_restart_laws.specs.Restarts.{drop_all, losses_of, losses_at, losses_below, losses}

-- ---- One link.

-- the drop of so many messages, and that of a link that the side has again
abbrev pub dropped_all : ℕ → List What
dropped_all zero = []
dropped_all (suc n) = what.Dropped (suc n) ∷ []

abbrev pub loss_of : Option Linked → Option Linked → List What
loss_of None new = []
loss_of (Some before) None = []
loss_of (Some before) (Some new) = dropped_all (waiting before.end)

all_of_own : (id other : LinkId) (n : ℕ) → id_eq id other ≡ true
    → link_primitives id (drop_all other n) ≡ dropped_all n
all_of_own id other zero same = refl
all_of_own id other (suc n) same = rw same refl

of_own : (id other : LinkId) (before new : Option Linked) → id_eq id other ≡ true
    → link_primitives id (losses_of other before new) ≡ loss_of before new
of_own id other None new same = refl
of_own id other (Some before) None same = refl
of_own id other (Some before) (Some new) same = all_of_own id other (waiting before.end) same

all_of_other : (id other : LinkId) (n : ℕ) → id_eq id other ≡ false
    → link_primitives id (drop_all other n) ≡ []
all_of_other id other zero apart = refl
all_of_other id other (suc n) apart = rw apart refl

of_other : (id other : LinkId) (before new : Option Linked) → id_eq id other ≡ false
    → link_primitives id (losses_of other before new) ≡ []
of_other id other None new apart = refl
of_other id other (Some before) None apart = refl
of_other id other (Some before) (Some new) apart = all_of_other id other (waiting before.end) apart

module _ (before new : Links) where
  -- ---- The links of one TEI.

  abbrev at_sapi : Sapi → ℕ → List Primitive
  at_sapi sapi tei = losses_at (of_sapi sapi tei) before new

  abbrev at_tei : ℕ → List Primitive
  at_tei tei = at_sapi Call tei ++ (at_sapi Packet tei ++ at_sapi Management tei)

  abbrev own : LinkId → List What
  own id = loss_of (before id) (new id)

  three_parts : (id : LinkId) (tei : ℕ) (a b c : List What)
      → link_primitives id (at_sapi Call tei) ≡ a → link_primitives id (at_sapi Packet tei) ≡ b
      → link_primitives id (at_sapi Management tei) ≡ c
      → link_primitives id (at_tei tei) ≡ a ++ (b ++ c)
  three_parts id tei a b c is_a is_b is_c =
      filter_map-append (what_for id) (at_sapi Call tei)
      (at_sapi Packet tei ++ at_sapi Management tei)
      ∙ ap (λ ws. link_primitives id (at_sapi Call tei) ++ ws)
      (filter_map-append (what_for id) (at_sapi Packet tei) (at_sapi Management tei))
      ∙ rw (is_a, is_b, is_c) refl

  of_another : (id other : LinkId) → id_eq id other ≡ false
      → link_primitives id (losses_at other before new) ≡ []
  of_another id other apart = of_other id other (before other) (new other) apart

  own_tei : (sapi : Sapi) (tei : ℕ)
      → link_primitives (of_sapi sapi tei) (at_tei tei) ≡ own (of_sapi sapi tei)
  own_tei Call tei =
      let id = of_sapi Call tei in
      three_parts id tei (own id) [] [] (of_own id id (before id) (new id) (id_eq_self id))
      (of_another id (of_sapi Packet tei) refl) (of_another id (of_sapi Management tei) refl)
      ∙ append-nil (own id)
  own_tei Packet tei =
      let id = of_sapi Packet tei in
      three_parts id tei [] (own id) [] (of_another id (of_sapi Call tei) refl)
      (of_own id id (before id) (new id) (id_eq_self id))
      (of_another id (of_sapi Management tei) refl)
      ∙ append-nil (own id)
  own_tei Management tei =
      let id = of_sapi Management tei in
      three_parts id tei [] [] (own id) (of_another id (of_sapi Call tei) refl)
      (of_another id (of_sapi Packet tei) refl)
      (of_own id id (before id) (new id) (id_eq_self id))

  never_both : (a b : Bool) → b ≡ false → (a && b) ≡ false
  never_both true b h = h
  never_both false b h = refl

  other_tei : (id : LinkId) (tei : ℕ) → (id.tei == tei) ≡ false
      → link_primitives id (at_tei tei) ≡ []
  other_tei id tei apart =
      three_parts id tei [] [] [] (at_other Call) (at_other Packet) (at_other Management)
    where
      at_other : (sapi : Sapi) → link_primitives id (at_sapi sapi tei) ≡ []
      at_other sapi =
          of_another id (of_sapi sapi tei)
          (never_both (sapi_value id.sapi == sapi_value sapi) (id.tei == tei) apart)

  -- ---- The links of all TEIs below a number.

  both_parts : (id : LinkId) (n : ℕ) (a b : List What)
      → link_primitives id (losses_below n before new) ≡ a → link_primitives id (at_tei n) ≡ b
      → link_primitives id (losses_below (suc n) before new) ≡ a ++ b
  both_parts id n a b is_a is_b =
      filter_map-append (what_for id) (losses_below n before new) (at_tei n) ∙ rw (is_a, is_b) refl

  not_below : (id : LinkId) (n : ℕ) → n ≤ id.tei
      → link_primitives id (losses_below n before new) ≡ []
  not_below id zero high = refl
  not_below id (suc n) high =
      both_parts id n [] [] (not_below id n (omega (arith, high)))
      (other_tei id n (grind (arith, nat_tests, high)))

  one_more : (id : LinkId) (n : ℕ) (test : Bool) → id.tei < suc n → (id.tei == n) ≡ test
      → (id.tei < n → link_primitives id (losses_below n before new) ≡ own id)
      → link_primitives id (losses_below (suc n) before new) ≡ own id
  one_more id n true low is earlier =
      let same : id.tei ≡ n = grind (arith, nat_tests, is) in
      both_parts id n [] (own id) (not_below id n (omega (arith, same)))
      (subst (λ t. link_primitives id (at_tei t) ≡ own id) same (own_tei id.sapi id.tei))
  one_more id n false low is earlier =
      both_parts id n (own id) [] (earlier (grind (arith, nat_tests, is, low))) (other_tei id n is)
      ∙ append-nil (own id)

  below : (id : LinkId) (n : ℕ) → id.tei < n
      → link_primitives id (losses_below n before new) ≡ own id
  below id zero low = absurd (omega (arith, low))
  below id (suc n) low = one_more id n (id.tei == n) low refl (λ less. below id n less)

  -- ---- A link that is gone.

  gone_at : (sapi : Sapi) (tei : ℕ) → list_any (is_removal tei) (at_sapi sapi tei) ≡ true
      → list_any (is_removal tei) (at_tei tei) ≡ true
  gone_at Call tei h =
      any_more (is_removal tei) (at_sapi Call tei) (at_sapi Packet tei ++ at_sapi Management tei) h
  gone_at Packet tei h =
      any_behind (is_removal tei) (at_sapi Call tei) (at_sapi Packet tei ++ at_sapi Management tei)
      (any_more (is_removal tei) (at_sapi Packet tei) (at_sapi Management tei) h)
  gone_at Management tei h =
      any_behind (is_removal tei) (at_sapi Call tei) (at_sapi Packet tei ++ at_sapi Management tei)
      (any_behind (is_removal tei) (at_sapi Packet tei) (at_sapi Management tei) h)

  gone_more : (id : LinkId) (n : ℕ) (test : Bool) → id.tei < suc n → (id.tei == n) ≡ test
      → list_any (is_removal id.tei) (losses_at id before new) ≡ true
      → (id.tei < n → list_any (is_removal id.tei) (losses_below n before new) ≡ true)
      → list_any (is_removal id.tei) (losses_below (suc n) before new) ≡ true
  gone_more id n true low is own earlier =
      let same : id.tei ≡ n = grind (arith, nat_tests, is) in
      any_behind (is_removal id.tei) (losses_below n before new) (at_tei n)
      (subst (λ t. list_any (is_removal id.tei) (at_tei t) ≡ true) same
      (gone_at id.sapi id.tei own))
  gone_more id n false low is own earlier =
      any_more (is_removal id.tei) (losses_below n before new) (at_tei n)
      (earlier (grind (arith, nat_tests, is, low)))

  gone_below : (id : LinkId) (n : ℕ) → id.tei < n
      → list_any (is_removal id.tei) (losses_at id before new) ≡ true
      → list_any (is_removal id.tei) (losses_below n before new) ≡ true
  gone_below id zero low own = absurd (omega (arith, low))
  gone_below id (suc n) low own =
      gone_more id n (id.tei == n) low refl own (λ less. gone_below id n less own)

  gone_itself : (id : LinkId) (b n : Option Linked) (l : Linked) → b ≡ Some l → n ≡ None
      → list_any (is_removal id.tei) (losses_of id b n) ≡ true
  gone_itself id b n l was is =
      subst (λ o. list_any (is_removal id.tei) (losses_of id o n) ≡ true) (sym was)
      (subst (λ o. list_any (is_removal id.tei) (losses_of id (Some l) o) ≡ true) (sym is)
      (reported (id.tei == id.tei) refl))
    where
      reported : (test : Bool) → (id.tei == id.tei) ≡ test → (test || false) ≡ true
      reported true is = refl
      reported false is = let impossible : true ≡ false = grind (arith, nat_tests, is) in cc

  -- ---- All links.

  pub losses_are : (id : LinkId) → id.tei < 127 → link_primitives id (losses before new) ≡ own id
  unfolding losses
  losses_are id low = below id 127 low

  pub loss_is_removal : (id : LinkId) (l : Linked) → id.tei < 127 → before id ≡ Some l
      → new id ≡ None → list_any (is_removal id.tei) (losses before new) ≡ true
  unfolding losses
  loss_is_removal id l low was is =
      gone_below id 127 low (gone_itself id (before id) (new id) l was is)
