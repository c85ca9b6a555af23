-- What is read adds to the journal that a log shows, and takes nothing from it.
use Rattle.std.proofs.Common.{◌≡◌, inl, inr, ℕ, Bool, true, false, not, ◌&&◌, List, [], ◌∷◌, ◌++◌, Option, None, Some, refl, sym, ap, ◌∙◌, subst}
use Rattle.beep_session.specs.beep_frame.specs.declared.head.Head.{Head}
use Rattle.beep_session.specs.beep_frame.specs.declared.rule.Rule.{Rule}
use Rattle.beep_session.specs.beep_frame.specs.declared.seq.Seq.{Seq}
use Rattle.beep_session.specs.beep_history.specs.declared.journal.Side.{Side}
use Rattle.beep_session.specs.beep_history.specs.Journal.{Item, began, passed, told}
use Rattle.beep_session.specs.beep_journal.specs.Broken.{none_tunes, broken_head, broken_seq}
use Rattle.beep_session.specs.beep_journal.specs.Journal.{Past, Shows, TakesOctet, TakesWhere, begins, seq_ends, goes_on}
use Rattle.beep_session.specs.beep_journal.specs.Life.{is_released}
use Rattle.beep_session.specs.beep_journal.specs.Log.{Moment, got, got_all}

-- the new items come after the old ones
pub record Adds (old new : List Item) : Type 0 where
  pub later : List Item
  pub journal_is : new ≡ later ++ old

adds-none : (old new : List Item) → new ≡ old → Adds old new
adds-none old new e = record { later = []; journal_is = e }

adds-one : (item : Item) (old new : List Item) → new ≡ item ∷ old → Adds old new
adds-one item old new e = record { later = item ∷ []; journal_is = e }

adds-then : (a b c : List Item) → Adds a b → Adds b c → Adds a c
adds-then a b c p q = record {
  later = q.later ++ p.later;
  journal_is = q.journal_is ∙ ap (λ x. q.later ++ x) p.journal_is ∙ sym (items-assoc q.later p.later a);
}
  where
    items-assoc : (xs ys zs : List Item) → (xs ++ ys) ++ zs ≡ xs ++ (ys ++ zs)
    items-assoc [] ys zs = refl
    items-assoc (x ∷ xs) ys zs = ap (λ r. x ∷ r) (items-assoc xs ys zs)

begins-adds : (o : Option Rule) (side : Side) (octet : ℕ) (head : Head) (old : Past) → Adds old.journal (begins o side octet head old).journal
begins-adds None side octet head old = adds-one (began side head) old.journal _ refl
begins-adds (Some rule) side octet head old = adds-none old.journal _ refl

seq-adds : (o : Option Rule) (side : Side) (seq : Seq) (old : Past) → Adds old.journal (seq_ends o side seq old).journal
seq-adds None side seq old = adds-one (told side seq) old.journal _ refl
seq-adds (Some rule) side seq old = adds-none old.journal _ refl

octet-adds : (side : Side) (octet : ℕ) (old new : Past) → TakesOctet none_tunes side octet old new → Adds old.journal new.journal
octet-adds side octet old new (inl on) = adds-none old.journal new.journal (ap (λ (p : Past). p.journal) on.new_is)
octet-adds side octet old new (inr (inl h)) =
    subst (λ (p : Past). Adds old.journal p.journal) (sym h.new_is) (begins-adds (broken_head none_tunes side old.journal h.head) side octet h.head old)
octet-adds side octet old new (inr (inr (inl f))) = adds-one (passed side f.head f.payload) old.journal new.journal (ap (λ (p : Past). p.journal) f.new_is)
octet-adds side octet old new (inr (inr (inr (inl s)))) =
    subst (λ (p : Past). Adds old.journal p.journal) (sym s.new_is) (seq-adds (broken_seq side old.journal s.seq) side s.seq old)
octet-adds side octet old new (inr (inr (inr (inr d)))) = adds-none old.journal new.journal (ap (λ (p : Past). p.journal) d.new_is)

where-adds : (b : Bool) (side : Side) (octet : ℕ) (old new : Past) → TakesWhere b none_tunes side octet old new → Adds old.journal new.journal
where-adds true side octet old new t = octet-adds side octet old new t
where-adds false side octet old new t = adds-none old.journal new.journal (ap (λ (p : Past). p.journal) t)

-- a log showed the beginning of a journal
pub record ShowsBefore (log : List Moment) (journal : List Item) : Type 0 where
  pub past : Past
  pub shows : Shows none_tunes log past
  pub adds : Adds past.journal journal

pub gots-back : (octets : List ℕ) (log : List Moment) (past : Past) → Shows none_tunes (got_all octets log) past → ShowsBefore log past.journal
gots-back [] log past s = record { past = past; shows = s; adds = adds-none past.journal past.journal refl }
gots-back (octet ∷ octets) log past s =
    let b = gots-back octets (got octet ∷ log) past s in
    let old = b.shows.0 in
    record {
      past = old;
      shows = b.shows.1;
      adds = adds-then old.journal b.past.journal past.journal (where-adds (goes_on old && not (is_released old.journal)) Side.Received octet old b.past b.shows.2) b.adds;
    }
