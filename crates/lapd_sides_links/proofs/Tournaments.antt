-- Node 1 has the first of all entries, and updating a node leaves only its parent to be updated.
use Rattle.std.proofs.Common.{◌≡◌, ◌≢◌, ℕ, zero, suc, ◌+◌, ◌*◌, ◌/◌, ◌-◌, ◌<◌, ◌≤◌, List, length, replicate, drop, set, get_or, Option, Some, None, Bool, true, false, not, inl, inr, refl, sym, ap, subst, ◌∙◌, arith, ◌⊎◌}
use Rattle.std.specs.Prelude.{is_some}
use Rattle.std.proofs.lemmas.Bool.{cases_lt, cases_eq}
use Rattle.std.proofs.lemmas.List.{get_or-drop, get_or_read, get_or-replicate, length-replicate, get_or_past, get_or-set_same, get_or-set_other, length-set}
use Rattle.lapd_sides_links.specs.declared.running_timer.RunningTimer.{RunningTimer}
use Rattle.lapd_sides_links.specs.Expiries.{IsNoLater, IsFirst}
use Rattle.lapd_sides_links.specs.Places.{IsSooner}
use Rattle.lapd_sides_links.specs.Tournament.{entry, IsEntered, IsWonAt, IsWonBut, IsAlone, HasTop}
use Rattle.lapd_sides_links.proofs.Order.{no_later_self, no_later_chained}

-- ---- The winner of two.

-- an expiry that is no later is found
pub record IsBehind (found : Option RunningTimer) (e : RunningTimer) : Type 0 where
  pub first : RunningTimer
  pub there : found ≡ Some first
  pub low : IsNoLater first e

over_left : (a : RunningTimer) (b c : Option RunningTimer) → IsSooner (Some a) b c → IsBehind c a
over_left a None c is = record { first = a; there = is; low = no_later_self a }
over_left a (Some b) c (inl is) = record { first = a; there = is.0; low = no_later_self a }
over_left a (Some b) c (inr is) = record { first = b; there = is.0; low = is.1 }

over_right : (a : Option RunningTimer) (b : RunningTimer) (c : Option RunningTimer)
    → IsSooner a (Some b) c → IsBehind c b
over_right None b c is = record { first = b; there = is; low = no_later_self b }
over_right (Some a) b c (inl is) = record { first = a; there = is.0; low = is.1 }
over_right (Some a) b c (inr is) = record { first = b; there = is.0; low = no_later_self b }

one_of_two : (a b c : Option RunningTimer) (e : RunningTimer) → IsSooner a b c → c ≡ Some e
    → (a ≡ Some e) ⊎ (b ≡ Some e)
one_of_two None b c e is there = inr (sym is ∙ there)
one_of_two (Some a) None c e is there = inl (sym is ∙ there)
one_of_two (Some a) (Some b) c e (inl is) there = inl (sym is.0 ∙ there)
one_of_two (Some a) (Some b) c e (inr is) there = inr (sym is.0 ∙ there)

same_sooner : (a b c x y z : Option RunningTimer) → x ≡ a → y ≡ b → z ≡ c → IsSooner a b c
    → IsSooner x y z
same_sooner a b c x y z p q r h = subst (λ (o : Option RunningTimer). IsSooner x y o) (sym r)
    (subst (λ (o : Option RunningTimer). IsSooner x o c) (sym q)
    (subst (λ (o : Option RunningTimer). IsSooner o b c) (sym p) h))

-- ---- From a node to the root.

above : (nodes : List (Option RunningTimer)) (n : ℕ) (e : RunningTimer) → IsWonBut 0 nodes → 2 ≤ n
    → n < 512 → entry nodes n ≡ Some e → IsBehind (entry nodes (n / 2)) e
above nodes n e h low high there =
    let won = h.won (n / 2) (λ q. omega (arith, q)) (omega arith) (omega arith) in
    elim (cases_eq n (2 * (n / 2))) [
      | inl even ↦ over_left e _ _ (subst
          (λ (o : Option RunningTimer). IsSooner o (entry nodes (2 * (n / 2) + 1))
          (entry nodes (n / 2))) (sym (ap (entry nodes) even) ∙ there) won)
      | inr other ↦
          let odd : n ≡ 2 * (n / 2) + 1 = omega (arith, other) in
          over_right _ e _ (subst (λ (o : Option RunningTimer). IsSooner (entry nodes (2 * (n / 2)))
          o (entry nodes (n / 2))) (sym (ap (entry nodes) odd) ∙ there) won)
    ]

behind_first : (nodes : List (Option RunningTimer)) (k n : ℕ) (e : RunningTimer) → IsWonBut 0 nodes
    → n ≤ k → 1 ≤ n → n < 512 → entry nodes n ≡ Some e → IsBehind (entry nodes 1) e
behind_first nodes zero n e h few low high there = absurd (omega (arith, few, low))
behind_first nodes (suc k) n e h few low high there = elim (cases_lt 1 n) [
  | inl more ↦
      let up = above nodes n e h (omega (arith, more)) high there in
      let top =
      behind_first nodes k (n / 2) up.first h (omega (arith, few, more))
      (omega (arith, more)) (omega (arith, high)) up.there in
      record {
        first = top.first;
        there = top.there;
        low = no_later_chained top.first up.first e
            top.low up.low;
      }
  | inr one ↦
      let same : n ≡ 1 = omega (arith, one, low) in
      record { first = e; there = sym (ap (entry nodes) same) ∙ there; low = no_later_self e }
]

at_a_place : (nodes : List (Option RunningTimer)) (n : ℕ) (e : RunningTimer) → 256 ≤ n
    → entry nodes n ≡ Some e → IsEntered (drop 256 nodes) e
at_a_place nodes n e low there =
    let same : 256 + (n - 256) ≡ n = omega (arith, low) in
    record {
      at = n - 256;
      there = get_or-drop 256 nodes (n - 256) None ∙ (ap (entry nodes) same ∙ there);
    }

entered : (nodes : List (Option RunningTimer)) (k n : ℕ) (e : RunningTimer) → IsWonBut 0 nodes
    → 256 ≤ n + k → 1 ≤ n → entry nodes n ≡ Some e → IsEntered (drop 256 nodes) e
entered nodes zero n e h room low there = at_a_place nodes n e (omega (arith, room)) there
entered nodes (suc k) n e h room low there = elim (cases_lt n 256) [
  | inl inner ↦ elim (one_of_two _ _ _ e (h.won n (λ q. omega (arith, low, q)) low inner) there) [
    | inl x ↦ entered nodes k (2 * n) e h (omega (arith, room, low)) (omega (arith, low)) x
    | inr x ↦ entered nodes k (2 * n + 1) e h (omega (arith, room, low)) (omega (arith, low)) x
  ]
  | inr place ↦ at_a_place nodes n e place there
]

entered_behind : (nodes : List (Option RunningTimer)) (e : RunningTimer) → IsWonBut 0 nodes
    → IsEntered (drop 256 nodes) e → IsBehind (entry nodes 1) e
entered_behind nodes e h x =
    let there : entry nodes (256 + x.at) ≡ Some e =
    sym (get_or-drop 256 nodes x.at None) ∙ x.there in
    elim (cases_lt (256 + x.at) 512) [
      | inl within ↦ behind_first nodes 512 (256 + x.at) e h (omega (arith, within)) (omega arith)
          within there
      | inr past ↦
          let none : entry nodes (256 + x.at) ≡ None =
          get_or_past nodes (256 + x.at) None (omega (arith, past, h.size)) in
          let k : None ≡ Some e = sym none ∙ there in absurd (cc)
    ]

first_at : (nodes : List (Option RunningTimer)) (first : Option RunningTimer)
    → entry nodes 1 ≡ first → IsWonBut 0 nodes → IsFirst (IsEntered (drop 256 nodes)) first
first_at nodes None is h = λ e x.
    let behind = entered_behind nodes e h x in
    let k : None ≡ Some behind.first = sym is ∙ behind.there in absurd (cc)
first_at nodes (Some a) is h = (
  entered nodes 256 1 a h (omega arith) (omega arith) is,
  λ e x.
      let behind = entered_behind nodes e h x in
      let k : Some a ≡ Some behind.first = sym is ∙ behind.there in
      let same : behind.first ≡ a = cc in
      subst (λ (f : RunningTimer). IsNoLater f e) same behind.low,
)

pub first_of_entered : (nodes : List (Option RunningTimer)) (first : Option RunningTimer)
    → first ≡ entry nodes 1 → IsWonBut 0 nodes → IsFirst (IsEntered (drop 256 nodes)) first
first_of_entered nodes first is h = first_at nodes first (sym is) h

-- ---- Writing a node.

unchanged_node : (nodes : List (Option RunningTimer)) (at n : ℕ) (first : Option RunningTimer)
    → n ≢ at → 2 * n ≢ at → 2 * n + 1 ≢ at → IsWonAt nodes n → IsWonAt (set nodes at first) n
unchanged_node nodes at n first own left right h = same_sooner _ _ _ _ _ _
    (get_or-set_other nodes at (2 * n) first None left)
    (get_or-set_other nodes at (2 * n + 1) first None right)
    (get_or-set_other nodes at n first None own) h

-- a node is updated, and the nodes above it are still to be updated
pub won_anew : (nodes : List (Option RunningTimer)) (at : ℕ) (first : Option RunningTimer)
    → IsWonBut at nodes → 1 ≤ at → at < 256
    → IsSooner (entry nodes (2 * at)) (entry nodes (2 * at + 1)) first
    → IsWonBut (at / 2) (set nodes at first)
won_anew nodes at first h low high is = record {
  size = length-set nodes at first ∙ h.size;
  won = λ n other least most. elim (cases_eq n at) [
    | inl same ↦ subst (λ (m : ℕ). IsWonAt (set nodes at first) m) (sym same)
        (same_sooner _ _ _ _ _ _
        (get_or-set_other nodes at (2 * at) first None (λ q. omega (arith, q, low)))
        (get_or-set_other nodes at (2 * at + 1) first None (λ q. omega (arith, q, low)))
        (get_or-set_same nodes at first None (omega (arith, h.size, high))) is)
    | inr differ ↦ unchanged_node nodes at n first differ (λ q. other (omega (arith, q)))
        (λ q. other (omega (arith, q))) (h.won n differ least most)
  ];
}

-- reading a node
pub read_entry : (nodes : List (Option RunningTimer)) (n : ℕ) (found : Option RunningTimer)
    → n < length nodes → found ≡ get_or nodes n found → entry nodes n ≡ found
read_entry nodes n found within is = sym (get_or_read nodes n found within is None)

either_way : (a b c : Option RunningTimer) → IsSooner a b c → IsSooner b a c
either_way None None c is = is
either_way None (Some b) c is = is
either_way (Some a) None c is = is
either_way (Some a) (Some b) c (inl is) = inr is
either_way (Some a) (Some b) c (inr is) = inl is

-- the expiry at a node compared with its sibling
pub sooner_of_pair : (nodes : List (Option RunningTimer)) (at : ℕ)
    (own other first : Option RunningTimer) → length nodes ≡ 512 → at < 512 → 2 ≤ at
    → entry nodes at ≡ own → other ≡ get_or nodes (4 * (at / 2) + 1 - at) other
    → IsSooner own other first
    → IsSooner (entry nodes (2 * (at / 2))) (entry nodes (2 * (at / 2) + 1)) first
sooner_of_pair nodes at own other first size high low there beside is =
    let reads : entry nodes (4 * (at / 2) + 1 - at) ≡ other =
    read_entry nodes _ other (omega (arith, size, high)) beside in
    elim (cases_eq at (2 * (at / 2))) [
      | inl even ↦
          let next : 2 * (at / 2) + 1 ≡ 4 * (at / 2) + 1 - at = omega (arith, even) in
          same_sooner own other first _ _ first (sym (ap (entry nodes) even) ∙ there)
          (ap (entry nodes) next ∙ reads) refl is
      | inr differ ↦
          let odd : at ≡ 2 * (at / 2) + 1 = omega (arith, differ) in
          let before : 2 * (at / 2) ≡ 4 * (at / 2) + 1 - at = omega (arith, odd) in
          same_sooner other own first _ _ first (ap (entry nodes) before ∙ reads)
          (sym (ap (entry nodes) odd) ∙ there) refl (either_way own other first is)
    ]

-- a node that does not change
pub won_before : (nodes : List (Option RunningTimer)) (at : ℕ) (first : Option RunningTimer)
    → IsWonBut at nodes → IsSooner (entry nodes (2 * at)) (entry nodes (2 * at + 1)) first
    → entry nodes at ≡ first → IsWonBut 0 nodes
won_before nodes at first h is same = record {
  size = h.size;
  won = λ n other least most. elim (cases_eq n at) [
    | inl own ↦ subst (λ (m : ℕ). IsWonAt nodes m) (sym own)
        (subst (IsSooner (entry nodes (2 * at)) (entry nodes (2 * at + 1))) (sym same) is)
    | inr differ ↦ h.won n differ least most
  ];
}

-- a slot is written, and the nodes above it are still to be updated
pub place_written : (nodes : List (Option RunningTimer)) (at : ℕ) (expiry : Option RunningTimer)
    → IsWonBut (at / 2) nodes → 256 ≤ at → IsWonBut (at / 2) (set nodes at expiry)
place_written nodes at expiry h low = record {
  size = length-set nodes at expiry ∙ h.size;
  won =
      λ n other least most. unchanged_node nodes at n expiry (λ q. omega (arith, q, low, most))
      (λ q. other (omega (arith, q))) (λ q. other (omega (arith, q)))
      (h.won n other least most);
}

won_but : (nodes : List (Option RunningTimer)) (open_node : ℕ) → IsWonBut 0 nodes
    → IsWonBut open_node nodes
won_but nodes open_node h = record {
  size = h.size;
  won = λ n other least most. h.won n (λ q. omega (arith, q, least)) least most;
}

-- ---- A single occupied slot.

pub size_of : (nodes : List (Option RunningTimer)) (top : ℕ) → HasTop top nodes → length nodes ≡ 512
size_of nodes top (inl x) = x.1.size
size_of nodes top (inr x) = x.won.size

the_one : (nodes : List (Option RunningTimer)) (place : ℕ) (e : RunningTimer) → IsAlone place nodes
    → IsEntered (drop 256 nodes) e → entry nodes place ≡ Some e
the_one nodes place e h x =
    let there : entry nodes (256 + x.at) ≡ Some e =
    sym (get_or-drop 256 nodes x.at None) ∙ x.there in
    elim (cases_eq (256 + x.at) place) [
      | inl own ↦ sym (ap (entry nodes) own) ∙ there
      | inr differ ↦
          let none = h.others (256 + x.at) (omega arith) differ in
          let k : None ≡ Some e = sym none ∙ there in absurd (cc)
    ]

first_alone : (nodes : List (Option RunningTimer)) (place : ℕ) (first : Option RunningTimer)
    → entry nodes place ≡ first → IsAlone place nodes → IsFirst (IsEntered (drop 256 nodes)) first
first_alone nodes place None is h =
    λ e x. let k : None ≡ Some e = sym is ∙ the_one nodes place e h x in absurd (cc)
first_alone nodes place (Some a) is h = (
  at_a_place nodes place a h.low is,
  λ e x.
      let k : Some a ≡ Some e = sym is ∙ the_one nodes place e h x in
      let same : a ≡ e = cc in
      subst (IsNoLater a) same (no_later_self a),
)

pub first_of_all : (nodes : List (Option RunningTimer)) (top : ℕ) (first : Option RunningTimer)
    → entry nodes top ≡ first → HasTop top nodes → IsFirst (IsEntered (drop 256 nodes)) first
first_of_all nodes top first is (inl x) =
    first_of_entered nodes first (sym is ∙ ap (entry nodes) x.0) x.1
first_of_all nodes top first is (inr x) = first_alone nodes top first is x

-- the slot is written
alone_again : (nodes : List (Option RunningTimer)) (place : ℕ) (expiry : Option RunningTimer)
    → IsAlone place nodes → IsAlone place (set nodes place expiry)
alone_again nodes place expiry h = record {
  low = h.low;
  high = h.high;
  others =
      λ n low differ. get_or-set_other nodes place n expiry None differ ∙ h.others n low differ;
  above =
      get_or-set_other nodes place (place / 2) expiry None (λ q. omega (arith, q, h.low)) ∙ h.above;
  won = place_written nodes place expiry h.won h.low;
}

-- if no slot has an expiry, the first expiry can be in any
none_if : (nodes : List (Option RunningTimer)) (n : ℕ) (found : Option RunningTimer)
    → ((e : RunningTimer) → IsEntered (drop 256 nodes) e → ⊥) → 256 ≤ n → entry nodes n ≡ found
    → found ≡ None
none_if nodes n None none low is = refl
none_if nodes n (Some e) none low is = absurd (none e (at_a_place nodes n e low is))

all_none : (nodes : List (Option RunningTimer)) (n : ℕ)
    → ((e : RunningTimer) → IsEntered (drop 256 nodes) e → ⊥) → 256 ≤ n → entry nodes n ≡ None
all_none nodes n none low = none_if nodes n (entry nodes n) none low refl

none_won : (nodes : List (Option RunningTimer)) (top : ℕ)
    → ((e : RunningTimer) → IsEntered (drop 256 nodes) e → ⊥) → HasTop top nodes → IsWonBut 0 nodes
none_won nodes top none (inl x) = x.1
none_won nodes top none (inr x) = record {
  size = x.won.size;
  won = λ n other least most. elim (cases_eq n (top / 2)) [
    | inl own ↦ same_sooner None None None _ _ _
        (all_none nodes (2 * n) none (omega (arith, own, x.low)))
        (all_none nodes (2 * n + 1) none (omega (arith, own, x.low)))
        (ap (entry nodes) own ∙ x.above) refl
    | inr differ ↦ x.won.won n differ least most
  ];
}

sooner_of_none : (a b c : Option RunningTimer) → a ≡ None → b ≡ None → IsSooner a b c → c ≡ None
sooner_of_none a b c p q h =
    let same : c ≡ b = subst (λ (o : Option RunningTimer). IsSooner o b c) p h in same ∙ q

pub alone_anew : (nodes : List (Option RunningTimer)) (top place : ℕ) (expiry : Option RunningTimer)
    → ((e : RunningTimer) → IsEntered (drop 256 nodes) e → ⊥) → 256 ≤ place → place < 512
    → HasTop top nodes → HasTop place (set nodes place expiry)
alone_anew nodes top place expiry none low high h =
    let won = none_won nodes top none h in
    inr (alone_again nodes place expiry (record {
      low = low;
      high = high;
      others = λ n least differ. all_none nodes n none least;
      above =
          sooner_of_none _ _ _ (all_none nodes (2 * (place / 2)) none (omega (arith, low)))
          (all_none nodes (2 * (place / 2) + 1) none (omega (arith, low)))
          (won.won (place / 2) (λ q. omega (arith, q, low)) (omega (arith, low))
          (omega (arith, high)));
      won = won_but nodes (place / 2) won;
    }))

pub none_first : (Among : RunningTimer → Type 0) (first : Option RunningTimer) (is : Bool)
    → is_some first ≡ not is → is ≡ true → IsFirst Among first → (e : RunningTimer) → Among e → ⊥
none_first Among None is p q h = h
none_first Among (Some a) true p q h = let k : true ≡ false = p in absurd (cc)
none_first Among (Some a) false p q h = let k : false ≡ true = q in absurd (cc)

-- ---- The new tournament.

pub none_at : (nodes : List (Option RunningTimer)) (n : ℕ) → nodes ≡ replicate 512 None
    → entry nodes n ≡ None
none_at nodes n all = elim (cases_lt n 512) [
  | inl within ↦ ap (λ (xs : List (Option RunningTimer)). entry xs n) all
      ∙ get_or-replicate 512 n None None within
  | inr past ↦ get_or_past nodes n None
      (omega (arith, past, ap length all, length-replicate {A = Option RunningTimer} 512 None))
]

pub new_tournament : (nodes : List (Option RunningTimer)) → nodes ≡ replicate 512 None
    → IsWonBut 0 nodes
new_tournament nodes all = record {
  size = ap length all ∙ length-replicate {A = Option RunningTimer} 512 None;
  won =
      λ n other least most. same_sooner None None None _ _ _ (none_at nodes (2 * n) all)
      (none_at nodes (2 * n + 1) all) (none_at nodes n all) refl;
}

pub none_entered : (nodes : List (Option RunningTimer)) → nodes ≡ replicate 512 None → (at : ℕ)
    → entry (drop 256 nodes) at ≡ None
none_entered nodes all at = get_or-drop 256 nodes at None ∙ none_at nodes (256 + at) all

-- ---- Entering an expiry.

pub own_entry : (nodes settled : List (Option RunningTimer)) (place : ℕ)
    (expiry : Option RunningTimer) → place < 256 → length nodes ≡ 512
    → ((n : ℕ) → 256 ≤ n → entry settled n ≡ entry (set nodes (256 + place) expiry) n)
    → entry (drop 256 settled) place ≡ expiry
own_entry nodes settled place expiry within size same =
    get_or-drop 256 settled place None ∙ (same (256 + place) (omega arith)
    ∙ get_or-set_same nodes (256 + place) expiry None (omega (arith, size, within)))

pub other_entry : (nodes settled : List (Option RunningTimer)) (place other : ℕ)
    (expiry : Option RunningTimer) → other ≢ place
    → ((n : ℕ) → 256 ≤ n → entry settled n ≡ entry (set nodes (256 + place) expiry) n)
    → entry (drop 256 settled) other ≡ entry (drop 256 nodes) other
other_entry nodes settled place other expiry differ same =
    get_or-drop 256 settled other None ∙ (same (256 + other) (omega arith)
    ∙ (get_or-set_other nodes (256 + place) (256 + other) expiry None
    (λ q. differ (omega (arith, q))) ∙ sym (get_or-drop 256 nodes other None)))

pub places_preserved : (nodes won : List (Option RunningTimer)) (other : ℕ)
    → ((n : ℕ) → 256 ≤ n → entry won n ≡ entry nodes n)
    → entry (drop 256 won) other ≡ entry (drop 256 nodes) other
places_preserved nodes won other same =
    get_or-drop 256 won other None
    ∙ (same (256 + other) (omega arith) ∙ sym (get_or-drop 256 nodes other None))
