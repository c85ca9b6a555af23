-- An item that is sent changes nothing of what was heard.
use Rattle.std.proofs.Common.{◌≡◌, ℕ, ◌==◌, Bool, true, false, if◌then◌else◌, List, ◌∷◌, ◌++◌, map, Option, refl, sym, ap, ◌∙◌, subst}
use Rattle.std.proofs.lemmas.List.{append-nil}
use Rattle.std.specs.Prelude.{is_some}
use Rattle.beep_upright.specs.beep_frame.specs.declared.head.Head.{Head}
use Rattle.beep_upright.specs.beep_frame.specs.declared.seq.Seq.{Seq}
use Rattle.beep_upright.specs.beep_frame.specs.Decoding.{WasFed}
use Rattle.beep_upright.specs.beep_frame.specs.Fed.{fed_of}
use Rattle.beep_upright.specs.beep_history.specs.declared.journal.Side.{Side}
use Rattle.beep_upright.specs.beep_history.specs.Journal.{Item, began, passed, told}
use Rattle.beep_upright.specs.beep_history.specs.Marks.{Mark, marks, mark_modulo_2_64, previous}
use Rattle.beep_upright.specs.beep_history.specs.Broken.{under_way}
use Rattle.beep_upright.specs.beep_journal.specs.Zero.{zero_history, gathered, channel_of}
use Rattle.beep_upright.specs.beep_journal.specs.Journal.{spelled}
use Rattle.beep_upright.specs.beep_standing.specs.Standing.{Marks}
use Rattle.beep_hearing.specs.declared.ear.Ear.{Ear}
use Rattle.beep_hearing.specs.Hears.{Hears, IsText, IsZeroTaken}

-- an item after which the received side is as before
pub record IsDeaf (item : Item) (journal : List Item) : Type 0 where
  pub spelled_is : spelled Side.Received (item ∷ journal) ≡ spelled Side.Received journal
  pub under_is : under_way Side.Received (item ∷ journal) ≡ under_way Side.Received journal
  pub previous_is : previous Side.Received (item ∷ journal) ≡ previous Side.Received journal
  pub gathered_is : gathered Side.Received (zero_history (item ∷ journal)) ≡ gathered Side.Received (zero_history journal)
  pub marks_are : marks Side.Received (zero_history (item ∷ journal)) ≡ marks Side.Received (zero_history journal)

-- channel zero is left by an item that leaves the history of its channel
in-zero : {X : Type 0} (f : List Item → X) (item : Item) (journal : List Item) → f (item ∷ zero_history journal) ≡ f (zero_history journal)
    → f (zero_history (item ∷ journal)) ≡ f (zero_history journal)
in-zero f item journal same = of (channel_of item == 0)
  where
    of : (b : Bool) → f (if b then item ∷ zero_history journal else zero_history journal) ≡ f (zero_history journal)
    of true = same
    of false = refl

pub deaf-header : (head : Head) (journal : List Item) → IsDeaf (began Side.Sent head) journal
deaf-header head journal = record {
  spelled_is = refl;
  under_is = refl;
  previous_is = refl;
  gathered_is = in-zero (gathered Side.Received) (began Side.Sent head) journal refl;
  marks_are = in-zero (marks Side.Received) (began Side.Sent head) journal refl;
}

pub deaf-frame : (head : Head) (payload : List ℕ) (journal : List Item) → IsDeaf (passed Side.Sent head payload) journal
deaf-frame head payload journal = record {
  spelled_is = refl;
  under_is = refl;
  previous_is = refl;
  gathered_is = in-zero (gathered Side.Received) (passed Side.Sent head payload) journal refl;
  marks_are = in-zero (marks Side.Received) (passed Side.Sent head payload) journal (append-nil (marks Side.Received (zero_history journal)));
}

pub deaf-seq : (seq : Seq) (journal : List Item) → IsDeaf (told Side.Sent seq) journal
deaf-seq seq journal = record {
  spelled_is = refl;
  under_is = refl;
  previous_is = refl;
  gathered_is = in-zero (gathered Side.Received) (told Side.Sent seq) journal refl;
  marks_are = in-zero (marks Side.Received) (told Side.Sent seq) journal refl;
}

pub deaf-hears : (item : Item) (journal : List Item) (fed rest : List ℕ) (ear : Ear) → IsDeaf item journal → Hears fed rest journal ear → Hears fed rest (item ∷ journal) ear
deaf-hears item journal fed rest ear d h = record {
  is_fed = record {
    frames = h.is_fed.frames;
    fed_is = h.is_fed.fed_is ∙ ap (λ (o : List ℕ). o ++ rest) (sym d.spelled_is);
    was_fed = subst (λ (u : Option Head). WasFed ear.decoder (fed_of fed h.is_fed.frames rest u)) (sym d.under_is) h.is_fed.was_fed;
    max = h.is_fed.max;
    used_is = h.is_fed.used_is;
  };
  heard = h.heard ∙ ap (λ (o : Option Head). is_some o) (sym d.previous_is);
  text = subst (λ (t : List ℕ). IsText ear.text t) (sym d.gathered_is) h.text;
  under = h.under ∙ sym d.under_is;
  going = h.going;
  none = h.none;
}

pub deaf-zero : (item : Item) (journal : List Item) (taken : Marks) → IsDeaf item journal → IsZeroTaken journal taken → IsZeroTaken (item ∷ journal) taken
deaf-zero item journal taken d zero = zero ∙ ap (λ (ms : List Mark). map mark_modulo_2_64 ms) (sym d.marks_are)
