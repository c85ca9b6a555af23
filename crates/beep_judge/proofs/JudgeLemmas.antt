-- Some journal is judged after each call.
use Rattle.std.proofs.Common.{◌≡◌, ◌∷◌, List, Option, Some, None, refl, sym, subst}
use Rattle.std.specs.Prelude.{IfSome, Result, Ok, Err, OnOk, OnErr}
use Rattle.std.proofs.Math.Logic.{∥∥₁_map}
use Rattle.beep_frame.specs.declared.rule.Rule.{Rule}
use Rattle.beep_history.specs.Journal.{Item}
use Rattle.beep_judge.specs.declared.session.Session.{Session}
use Rattle.beep_judge.specs.Judges.{Judges}

-- an item joins, or nothing changes
pub joins : (old new : Session) (item : Item) (result : Option Rule) → ∥ ((journal : List Item) × Judges old journal) ∥₁
    → (result ≡ None → (journal : List Item) → Judges old journal → Judges new (item ∷ journal)) → IfSome result (λ _. new ≡ old)
    → ∥ ((journal : List Item) × Judges new journal) ∥₁
joins old new item None reached none some = ∥∥₁_map reached (λ s. (item ∷ s.0, none refl s.0 s.1))
joins old new item (Some rule) reached none some = subst (λ (session : Session). ∥ ((journal : List Item) × Judges session journal) ∥₁) (sym some) reached

-- an item joins, or the same journal is judged
pub passes : {T E : Type 0} (old new : Session) (item : Item) (result : Result T E) → ∥ ((journal : List Item) × Judges old journal) ∥₁
    → ((journal : List Item) → Judges old journal → OnOk result (Judges new (item ∷ journal)))
    → ((journal : List Item) → Judges old journal → OnErr result (Judges new journal))
    → ∥ ((journal : List Item) × Judges new journal) ∥₁
passes old new item (Ok x) reached ok err = ∥∥₁_map reached (λ s. (item ∷ s.0, ok s.0 s.1))
passes old new item (Err e) reached ok err = ∥∥₁_map reached (λ s. (s.0, err s.0 s.1))
