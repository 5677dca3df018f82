-- No remarks have no text.
use Rattle.std.proofs.Common.{◌≡◌, ℕ, ◌&&◌, Bool, true, List, [], ◌++◌, Option, Some, None, is_none, refl}
use Rattle.std.proofs.lemmas.Bool.{false≢true}
use Rattle.lapd_follow.specs.declared.remark.Remark.{Remark}
use Rattle.lapd_follow.specs.declared.remarks.Remarks.{Remarks}
use Rattle.lapd_follow.specs.Remarks.{is_empty}
use Rattle.lapd_follow.specs.Texts.{noted_text, remarks_text}

last : (o : Option Remark) → is_none o ≡ true → noted_text o ≡ []
last None empty = refl
last (Some r) empty = absurd (false≢true empty)

before : (o : Option Remark) (rest : Bool) (text : List ℕ) → (rest ≡ true → text ≡ [])
    → (is_none o && rest) ≡ true → noted_text o ++ text ≡ []
before None rest text silent empty = silent empty
before (Some r) rest text silent empty = absurd (false≢true empty)

pub no_text : (r : Remarks) → is_empty r ≡ true → remarks_text r ≡ []
no_text r empty = before r.establishment _ _ (before r.ns _ _ (before r.window _ _
    (before r.busy _ _ (before r.nr _ _ (before r.bit _ _ (before r.answer _ _
    (before r.identity _ _ (last r.conflict)))))))) empty
