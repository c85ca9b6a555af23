-- What a call of a handle leaves, of the session that it holds.
use Rattle.std.proofs.Common.{◌≡◌, Ok, Err, sym, subst}
use Rattle.std.specs.declared.result.Result.{Result}
use Rattle.std.specs.Prelude.{OnOk}
use Rattle.beep_two_sessions.specs.beep_session.specs.Session.{Held}
use Rattle.beep_two_sessions.specs.beep_session.specs.Lawfully.{KeepsUpright}

pub upright-over : (a b old new : Held) → a ≡ old → new ≡ b → KeepsUpright a b → KeepsUpright old new
upright-over a b old new first last u = subst (λ s. KeepsUpright s new) first (subst (λ s. KeepsUpright a s) (sym last) u)

pub of-ok : {A E : Type 0} (r : Result A E) (value : A) (P : Type 0) → r ≡ Ok value → OnOk r P → P
of-ok (Ok x) value P e p = p
of-ok (Err x) value P e p = absurd (let bad : Err x ≡ Ok value = e in cc)
