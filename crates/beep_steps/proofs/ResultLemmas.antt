-- What holds of an answer of which two things are known.
use Rattle.std.specs.Prelude.{Result, Ok, Err, IfErr, OnOk}

-- where a call failed
pub err-both : {A E : Type 0} (result : Result A E) (P Q R : E → Type 0) → ((e : E) → P e → Q e → R e) → IfErr result P → IfErr result Q → IfErr result R
err-both (Ok value) P Q R f p q = p
err-both (Err error) P Q R f p q = f error p q

-- where it succeeded
pub on-ok : {A E : Type 0} (result : Result A E) (P : Type 0) → P → OnOk result P
on-ok (Ok value) P p = p
on-ok (Err error) P p = tt

pub ok-and : {A E : Type 0} (result : Result A E) (P Q R : Type 0) → (P → Q → R) → OnOk result P → OnOk result Q → OnOk result R
ok-and (Ok value) P Q R f p q = f p q
ok-and (Err error) P Q R f p q = p
