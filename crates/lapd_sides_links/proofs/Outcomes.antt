-- A property of a result implies its consequence for the result.
use Rattle.std.specs.Prelude.{Result, Ok, Err, OnOk, OnErr, IfErr}

pub ok_gives : {A E : Type 0} (result : Result A E) (P Q : Type 0) → (P → Q) → OnOk result P
    → OnOk result Q
ok_gives (Ok a) P Q f p = f p
ok_gives (Err e) P Q f p = tt

pub err_gives : {A E : Type 0} (result : Result A E) (P Q : Type 0) → (P → Q) → OnErr result P
    → OnErr result Q
err_gives (Ok a) P Q f p = tt
err_gives (Err e) P Q f p = f p

pub each_err : {A E : Type 0} (result : Result A E) (P Q : E → Type 0) → ((e : E) → P e → Q e)
    → IfErr result P → IfErr result Q
each_err (Ok a) P Q f p = tt
each_err (Err e) P Q f p = f e p
