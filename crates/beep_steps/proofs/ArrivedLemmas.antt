-- What a frame that arrives adds to the marks of its live life.
use Rattle.std.proofs.Common.{◌≡◌, ◌∙◌, refl, sym, ap, ℕ, ◌==◌, Bool, true, false, List, ◌∷◌, ◌++◌, append-nil, arith}
use Rattle.std.proofs.lemmas.Bool.Decides.{nat_tests}
use Rattle.beep_session.specs.beep_frame.specs.declared.head.Head.{Head}
use Rattle.beep_session.specs.beep_history.specs.declared.journal.Side.{Side}
use Rattle.beep_session.specs.beep_history.specs.Journal.{Item, passed}
use Rattle.beep_session.specs.beep_history.specs.Marks.{marks, frame_marks, tag_of}
use Rattle.beep_session.specs.beep_journal.specs.Life.{history, is_there, life_now, life_under_way}
use Rattle.beep_session.specs.beep_journal.proofs.JournalLemmas.{above-history}
use Rattle.beep_steps.specs.Steps.{arrived_marks}

pub turn : (a b : ℕ) → (a == b) ≡ false → (b == a) ≡ false
turn a b e = grind (arith, nat_tests)

module _ (head : Head) (payload : List ℕ) (journal : List Item) (above : (head.channel == 0) ≡ false) where
  carried : (past : List Item) → marks Side.Received (passed Side.Received head payload ∷ past) ≡ marks Side.Received past ++ frame_marks (tag_of Side.Received past head) head payload
  carried past = rw above refl

  pub own-marks : is_there head.channel journal ≡ true → marks Side.Received (history head.channel (passed Side.Received head payload ∷ journal)) ≡ marks Side.Received (history head.channel journal) ++ arrived_marks head payload journal
  own-marks there = by (life_under_way head.channel Side.Received journal == life_now head.channel journal) refl
    where
      by : (g : Bool) → (life_under_way head.channel Side.Received journal == life_now head.channel journal) ≡ g
          → marks Side.Received (history head.channel (passed Side.Received head payload ∷ journal)) ≡ marks Side.Received (history head.channel journal) ++ arrived_marks head payload journal
      by true e = ap (marks Side.Received) (above-history Side.Received head payload journal above true e) ∙ carried (history head.channel journal)
          ∙ ap (λ f. marks Side.Received (history head.channel journal) ++ f) (sym (rw (there, e) refl))
      by false e = ap (marks Side.Received) (above-history Side.Received head payload journal above false e) ∙ sym (append-nil (marks Side.Received (history head.channel journal)))
          ∙ ap (λ f. marks Side.Received (history head.channel journal) ++ f) (sym (rw (there, e) refl))
