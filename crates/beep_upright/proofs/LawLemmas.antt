-- What goes out leaves a lawful journal lawful.
use Rattle.std.proofs.Common.{◌≡◌, ℕ, Bool, true, ◌&&◌, List, ◌∷◌, Option, None, refl}
use Rattle.std.specs.Option.{is_none}
use Rattle.beep_management.specs.beep_frame.specs.declared.head.Head.{Head}
use Rattle.beep_management.specs.beep_frame.specs.declared.seq.Seq.{Seq}
use Rattle.beep_management.specs.beep_history.specs.declared.journal.Side.{Side}
use Rattle.beep_management.specs.beep_history.specs.Journal.{Item, began, passed, told}
use Rattle.beep_management.specs.beep_journal.specs.Broken.{Tuning}
use Rattle.beep_lawful.specs.declared.breach.Breach.{Breach}
use Rattle.beep_lawful.specs.declared.terms.Terms.{Terms}
use Rattle.beep_lawful.specs.Lawful.{unlawful_head, unlawful_frame, unlawful_seq, is_lawful, IsLawful}

none-more : (o : Option Breach) (b : Bool) → o ≡ None → b ≡ true → (is_none o && b) ≡ true
none-more o b e f = rw (e, f) refl

module _ (terms : Terms) (tunes : Tuning) (journal : List Item) (lawful : IsLawful terms tunes journal) where
  pub with-seq : (seq : Seq) → unlawful_seq terms tunes journal seq ≡ None → IsLawful terms tunes (told Side.Sent seq ∷ journal)
  with-seq seq e = none-more (unlawful_seq terms tunes journal seq) (is_lawful terms tunes journal) e lawful

  pub with-frame : (head : Head) (payload : List ℕ) → unlawful_head terms tunes journal head ≡ None
      → unlawful_frame terms tunes (began Side.Sent head ∷ journal) head payload ≡ None
      → IsLawful terms tunes (passed Side.Sent head payload ∷ began Side.Sent head ∷ journal)
  with-frame head payload e f =
      none-more (unlawful_frame terms tunes (began Side.Sent head ∷ journal) head payload) _ f
      (none-more (unlawful_head terms tunes journal head) (is_lawful terms tunes journal) e lawful)
