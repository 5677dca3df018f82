-- An object of texts and numbers has no float, so its text is known.
use Rattle.std.proofs.Common.{◌≡◌, ℕ, List, false, Result, Ok, Err, OnOk, OnErr, String, refl, ap, ◌∙◌}
use Rattle.std.proofs.lemmas.Bool.{or_parts}
use Rattle.std.specs.Ordering.{nat_cmp, match_ordering}
use Rattle.std.specs.Cmp.Lexicographic.{slice_cmp}
use Rattle.std.specs.declared.cmp.Ordering.{Ordering}
use Rattle.std.specs.declared.cmp.Ordering.TheVariants.{Less, Equal, Greater}
use Rattle.serde_json.specs.Data.{Data, Members, no_members, member, put}
use Rattle.std.specs.declared.alloc.Global.{Global}
use Rattle.serde_json.specs.declared.value.Value.{Value}
use Rattle.serde_json.specs.View.{members_view}
use Rattle.serde_json.specs.Written.{has_float, members_have_float}

one_of_three : (o : Ordering) (a b c : Members) → members_have_float a ≡ false
    → members_have_float b ≡ false → members_have_float c ≡ false
    → members_have_float (match_ordering o a b c) ≡ false
one_of_three Less a b c p q r = p
one_of_three Equal a b c p q r = q
one_of_three Greater a b c p q r = r

both_none : (d : Data) (rest : Members) (key : List ℕ) → has_float d ≡ false
    → members_have_float rest ≡ false
    → members_have_float (member key d rest) ≡ false
both_none d rest key one all = rw one all

pub put_no_float : (key : List ℕ) (d : Data) (old : Members) → has_float d ≡ false
    → members_have_float old ≡ false
    → members_have_float (put key d old) ≡ false
put_no_float key d no_members one all = both_none d no_members key one refl
put_no_float key d (member other e rest) one all =
    let parts = or_parts (has_float e) (members_have_float rest) all in
    one_of_three (slice_cmp nat_cmp key other) (member key d (member other e rest))
    (member other d rest) (member other e (put key d rest))
    (both_none d (member other e rest) key one all)
    (both_none d rest other one parts.1)
    (both_none e (put key d rest) other parts.0 (put_no_float key d rest one parts.1))

-- an object keeps none, whether a member is put or there is no memory for it
pub put_preserves : {A E : Type 0} (r : Result A E) (key : List ℕ) (d : Data)
    (old new : List (String Global × Value)) → has_float d ≡ false
    → members_have_float (members_view old) ≡ false
    → OnOk r (members_view new ≡ put key d (members_view old)) → OnErr r (new ≡ old)
    → members_have_float (members_view new) ≡ false
put_preserves (Ok done) key d old new one all ok err =
    ap members_have_float ok ∙ put_no_float key d (members_view old) one all
put_preserves (Err fault) key d old new one all ok err =
    ap (λ entries. members_have_float (members_view entries)) err ∙ all
