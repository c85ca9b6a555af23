-- A SEQ that goes out is lawful.
use Rattle.std.proofs.Common.{◌≡◌, ℕ, ◌+◌, ◌-◌, true, false, List, Option, None, Some, is_some, refl, sym, ap, ◌∙◌, arith, subst}
use Rattle.beep_management.specs.beep_frame.specs.declared.seq.Seq.{Seq}
use Rattle.beep_management.specs.beep_seq.specs.Wire.{wire_number}
use Rattle.beep_management.specs.beep_seq.specs.Due.{is_seq_due}
use Rattle.beep_management.specs.beep_history.specs.declared.journal.Side.{Side}
use Rattle.beep_management.specs.beep_history.specs.Journal.{Item}
use Rattle.beep_management.specs.beep_history.specs.Marks.{passed_octets}
use Rattle.beep_management.specs.beep_history.specs.Broken.{under_way}
use Rattle.beep_management.specs.beep_history.specs.Windows.{greatest_edge}
use Rattle.beep_management.specs.beep_journal.specs.Life.{is_there, is_released, history}
use Rattle.beep_management.specs.beep_journal.specs.Broken.{none_tunes}
use Rattle.beep_management.specs.beep_channel.specs.Held.{Held, Live}
use Rattle.beep_management.specs.beep_channel.specs.Stands.{Stands, taken_octets}
use Rattle.beep_management.specs.beep_channel.proofs.CallLemmas.{due-is}
use Rattle.beep_management.specs.beep_lives.specs.Lives.{live_at}
use Rattle.beep_management.specs.beep_lives.specs.Edits.{Edits, Tells}
use Rattle.beep_management.specs.beep_lives.proofs.ListLemmas.{live-number}
use Rattle.beep_management.specs.beep_decide.specs.Asks.{is_greeted}
use Rattle.beep_lawful.specs.declared.terms.Terms.{Terms}
use Rattle.beep_lawful.specs.Lawful.{unlawful_seq, IsLawful}
use Rattle.beep_lawful.specs.Due.{due}
use Rattle.beep_lawful.proofs.DueLemmas.{due-lawful}
use Rattle.beep_management.specs.beep_standing.specs.Standing.{Marks, AreLiveBy}
use Rattle.beep_management.specs.beep_standing.proofs.EachLemmas.{past-by, to-each}
use Rattle.beep_upright.proofs.TestLemmas.{not-tuning, goes-on}

-- the channel of a number stands for the history of its life
pub stands-by : (size : ℕ) (journal : List Item) (given taken : Marks) (channels : List Live) → AreLiveBy size journal given taken channels
    → (n : ℕ) (c : Live) → live_at n channels ≡ Some c → Stands size c.held (history n journal) (given n) (taken n)
stands-by size journal given taken channels s n c at =
    subst (λ (p : List Item). Stands size c.held p (given n) (taken n)) (past-by n journal) (to-each size journal journal given taken channels s n c at).stands

-- a SEQ of these numbers
abbrev seq-with : ℕ → ℕ → ℕ → Seq
seq-with channel ackno window = record { channel = channel; ackno = ackno; window = window }

same-seq : (a b c x y z : ℕ) → a ≡ x → b ≡ y → c ≡ z → seq-with a b c ≡ seq-with x y z
same-seq a b c x y z p q r = rw (p, q, r) refl

module _ (terms : Terms) (journal : List Item) (given taken : Marks) (old new : List Live) (seq : Seq) (s : AreLiveBy terms.window journal given taken old)
    (e : Edits seq.channel (Tells seq) old new) (greeted : is_greeted journal ≡ true) where
  abbrev past : List Item
  past = history seq.channel journal

  abbrev c : Held
  c = e.before.held

  t : Stands terms.window e.before.held (history seq.channel journal) (given seq.channel) (taken seq.channel)
  t = stands-by terms.window journal given taken old s seq.channel e.before e.was

  there : is_there seq.channel journal ≡ true
  there = s.there seq.channel ∙ ap (λ (o : Option Live). is_some o) e.was

  taken-is : taken_octets c past ≡ t.held.taken
  taken-is = let h = t.held in let i = h.inbox in let u = h.receives.untaken in omega (arith, i, u)

  opens : is_seq_due terms.window t.held.taken (greatest_edge Side.Received past) ≡ true
  opens =
      ap (λ (n : ℕ). is_seq_due terms.window n (greatest_edge Side.Received past)) (sym taken-is)
      ∙ sym (due-is terms.window c past (given seq.channel) (taken seq.channel) t) ∙ e.step.due

  seq-is : seq-with seq.channel (wire_number (passed_octets Side.Received past)) (t.held.taken + terms.window - passed_octets Side.Received past) ≡ seq
  seq-is = sym (e.step.is ∙ same-seq _ _ _ _ _ _ (live-number seq.channel old e.before e.was) t.held.receives.next window)
    where
      window : c.receives.size - c.receives.untaken ≡ t.held.taken + terms.window - passed_octets Side.Received past
      window = let r = t.held.receives in let a = r.sized in let b = r.untaken in omega (arith, a, b)

  is-due : due terms.window t.held.taken seq.channel journal ≡ Some seq
  is-due = rw (there, greeted, opens) (ap (λ (x : Seq). Some x) seq-is)

  pub seq-lawful : IsLawful terms none_tunes journal → under_way Side.Sent journal ≡ None → is_released journal ≡ false
      → unlawful_seq terms none_tunes journal seq ≡ None
  seq-lawful lawful idle going =
      due-lawful terms none_tunes journal seq.channel t.held.taken c.receives seq lawful t.held.receives is-due
      (rw idle refl) (not-tuning journal) (goes-on journal going)
