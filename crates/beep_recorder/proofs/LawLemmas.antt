-- Logs that say the same are the same.
use Rattle.std.proofs.Common.{◌≡◌, List, [], ◌∷◌, ap₂, refl}
use Rattle.beep_wires.specs.Log.{Entry, read, wrote, quiet, ended}
use Rattle.beep_recorder.specs.Said.{entry_said, log_said}

entry-said-once : (one other : Entry) → entry_said one ≡ entry_said other → one ≡ other
entry-said-once (read a) (read b) is = cc is
entry-said-once (read a) (wrote b) is = absurd (cc is)
entry-said-once (read a) quiet is = absurd (cc is)
entry-said-once (read a) ended is = absurd (cc is)
entry-said-once (wrote a) (read b) is = absurd (cc is)
entry-said-once (wrote a) (wrote b) is = cc is
entry-said-once (wrote a) quiet is = absurd (cc is)
entry-said-once (wrote a) ended is = absurd (cc is)
entry-said-once quiet (read b) is = absurd (cc is)
entry-said-once quiet (wrote b) is = absurd (cc is)
entry-said-once quiet quiet is = refl
entry-said-once quiet ended is = absurd (cc is)
entry-said-once ended (read b) is = absurd (cc is)
entry-said-once ended (wrote b) is = absurd (cc is)
entry-said-once ended quiet is = absurd (cc is)
entry-said-once ended ended is = refl

pub log-said-once : (one other : List Entry) → log_said one ≡ log_said other → one ≡ other
log-said-once [] [] is = refl
log-said-once [] (y ∷ ys) is = absurd (cc is)
log-said-once (x ∷ xs) [] is = absurd (cc is)
log-said-once (x ∷ xs) (y ∷ ys) is =
    let head : entry_said x ≡ entry_said y = cc is in
    let tail : log_said xs ≡ log_said ys = cc is in
    ap₂ (λ z zs. z ∷ zs) (entry-said-once x y head) (log-said-once xs ys tail)
