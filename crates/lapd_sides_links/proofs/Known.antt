-- The links of the held TEIs are added one TEI after another.
use Rattle.std.proofs.Common.{◌≡◌, ℕ, ◌+◌, List, Bool, true, false, Option, Some, None, refl, ap, arith, ◌∙◌}
use Rattle.std.specs.Prelude.{◌==◌, ◌&&◌, nat_lt, if◌then◌else◌}
use Rattle.lapd_frame.specs.declared.Side.{Side}
use Rattle.lapd_tei.specs.Assigner.{is_held}
use Rattle.lapd_sides_links.specs.declared.config.Config.{Config}
use Rattle.lapd_sides_links.specs.declared.link_set.LinkSet.{LinkSet}
use Rattle.lapd_sides_links.specs.Links.{Linked, is_served, parameters_for, new_linked, no_links, or_new, with_tei, is_held_below, links_below}
use Rattle.lapd_sides_links.specs.Shown.{ShowLinks}
use Rattle.lapd_sides_links.proofs.Arrivals.{same_links}

-- a number below n + 1 is n, or below n
not_last : (t n : ℕ) → (t == n) ≡ false → nat_lt t n ≡ nat_lt t (n + 1)
not_last t n h = grind arith

last_below : (t n : ℕ) → (t == n) ≡ true → nat_lt t (n + 1) ≡ true
last_below t n h = grind arith

last_same : (t n : ℕ) → (t == n) ≡ true → t ≡ n
last_same t n h = grind arith

or_new_either : (new : Linked) (test : Bool)
    → or_new new (if test then Some new else None) ≡ Some new
or_new_either new true = refl
or_new_either new false = refl

-- the links of a held TEI
held_at : (served same : Bool) (t n : ℕ) (held : List Bool) (new : Linked) → (t == n) ≡ same
    → is_held held n ≡ true
    → (if served && same
    then or_new new (if served && is_held_below held n t then Some new else None)
    else (if served && is_held_below held n t then Some new else None))
    ≡ (if served && is_held_below held (n + 1) t then Some new else None)
held_at false same t n held new is h = refl
held_at true true t n held new is h =
    or_new_either new (is_held_below held n t) ∙ rw (last_below t n is, last_same t n is, h) refl
held_at true false t n held new is h =
    ap (λ (b : Bool). if b && is_held held t then Some new else None) (not_last t n is)

-- the links of a TEI that is not held
unheld_at : (served same : Bool) (t n : ℕ) (held : List Bool) (l : Option Linked) → (t == n) ≡ same
    → is_held held n ≡ false
    → (if served && is_held_below held n t then l else None)
    ≡ (if served && is_held_below held (n + 1) t then l else None)
unheld_at false same t n held l is h = refl
unheld_at true true t n held l is h = rw (last_same t n is, h) grind arith
unheld_at true false t n held l is h =
    ap (λ (b : Bool). if b && is_held held t then l else None) (not_last t n is)

pub held_next : (side : Side) (s : LinkSet) (config : Config) (held : List Bool) (n : ℕ)
    → is_held held n ≡ true → ShowLinks side s (with_tei config n (links_below config held n))
    → ShowLinks side s (links_below config held (n + 1))
unfolding with_tei links_below
held_next side s config held n h shown =
    same_links side s (with_tei config n (links_below config held n))
    (links_below config held (n + 1)) (λ id. held_at (is_served config id.sapi) (id.tei == n) id.tei
    n held (new_linked (parameters_for config id.sapi) config.durations) refl h) shown

pub unheld_next : (side : Side) (s : LinkSet) (config : Config) (held : List Bool) (n : ℕ)
    → is_held held n ≡ false → ShowLinks side s (links_below config held n)
    → ShowLinks side s (links_below config held (n + 1))
unfolding links_below
unheld_next side s config held n h shown =
    same_links side s (links_below config held n) (links_below config held (n + 1))
    (λ id. unheld_at (is_served config id.sapi) (id.tei == n) id.tei n
    held (Some (new_linked (parameters_for config id.sapi) config.durations)) refl h) shown

none_below_zero : (t : ℕ) → nat_lt t 0 ≡ false
none_below_zero t = grind arith

none_at : (served : Bool) (t : ℕ) (held : List Bool) (l : Option Linked)
    → None ≡ (if served && is_held_below held 0 t then l else None)
none_at false t held l = refl
none_at true t held l = rw (none_below_zero t) refl

pub none_below : (side : Side) (s : LinkSet) (config : Config) (held : List Bool)
    → ShowLinks side s no_links → ShowLinks side s (links_below config held 0)
unfolding links_below
none_below side s config held shown =
    same_links side s no_links (links_below config held 0)
    (λ id. none_at (is_served config id.sapi) id.tei held
    (Some (new_linked (parameters_for config id.sapi) config.durations))) shown
