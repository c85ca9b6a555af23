-- What is sent joins the journal, and what is given and taken joins what was.
use Rattle.std.proofs.Common.{◌≡◌, ℕ, ◌==◌, Bool, true, false, List, ◌∷◌, ◌++◌, refl, sym, ap, ◌∙◌, subst}
use Rattle.beep_frame.specs.declared.head.Head.{Head}
use Rattle.beep_frame.specs.declared.seq.Seq.{Seq}
use Rattle.beep_history.specs.declared.journal.Side.{Side}
use Rattle.beep_history.specs.Journal.{Item, began, passed, told}
use Rattle.beep_history.specs.Marks.{Mark}
use Rattle.beep_inbox.specs.declared.part.Part.{Part}
use Rattle.beep_inbox.specs.Laws.{part_marks}
use Rattle.beep_journal.specs.Life.{life_now, life_under_way}
use Rattle.beep_journal.proofs.MomentLemmas.{same-number}
use Rattle.beep_journal.proofs.JournalLemmas.{began-there, began-now, began-history, began-others, told-there, told-now, told-history, told-others, above-there, above-now, above-history, above-others}
use Rattle.beep_channel.specs.Held.{Held, Live}
use Rattle.beep_channel.specs.Stands.{Stands}
use Rattle.beep_lives.specs.Edits.{Sends, Tells, Gives, Takes, KeepsHeld, Edits, EditsWhere}
use Rattle.beep_standing.specs.Standing.{Marks, with_marks, under_in, AreLive, AreLiveBy}
use Rattle.beep_standing.proofs.EachLemmas.{Each, past_of, past-by, past-above, each-stays, under-by, step-all}
use Rattle.beep_standing.proofs.ArriveLemmas.{EachBy, equal-zero}

-- ---- a frame

module _ (size most : ℕ) (journal : List Item) (given taken : Marks) (old new : List Live) (head : Head) (payload : List ℕ)
    (s : AreLiveBy size journal given taken old) (e : Edits head.channel (Sends most head payload) old new) where
  abbrev begun : List Item
  begun = began Side.Sent head ∷ journal

  abbrev sent : List Item
  sent = passed Side.Sent head payload ∷ began Side.Sent head ∷ journal

  next-stands : EachBy size journal given taken head.channel e.before
      → Stands size e.after.held (passed Side.Sent head payload ∷ began Side.Sent head ∷ past_of head.channel journal journal) (given head.channel) (taken head.channel)
  next-stands b = (e.step.next size (past_of head.channel journal journal) (given head.channel) (taken head.channel) b.stands).stands

  module _ (above : (head.channel == 0) ≡ false) where
    sent-now : (n : ℕ) → life_now n sent ≡ life_now n journal
    sent-now n = above-now Side.Sent head payload begun above n ∙ began-now Side.Sent head journal n

    stays-under : (n : ℕ) → under_in n (life_now n sent) sent ≡ under_in n (life_now n journal) journal
    stays-under n = under-by n (life_now n sent) journal sent refl refl ∙ ap (λ (k : ℕ). under_in n k journal) (sent-now n)

    here : (life_under_way head.channel Side.Sent begun == life_now head.channel begun) ≡ true
    here =
        ap (λ (k : ℕ). life_under_way head.channel Side.Sent begun == k) (began-now Side.Sent head journal head.channel)
        ∙ rw (same-number head.channel) (same-number (life_now head.channel journal))

    pub sent-joins : AreLiveBy size sent given taken new
    sent-joins =
        step-all size journal journal sent sent given taken given taken head.channel (Sends most head payload) old new s e
        (λ n. above-there Side.Sent head payload begun above n ∙ began-there Side.Sent head journal n) mine others
      where
        mine : EachBy size journal given taken head.channel e.before → EachBy size sent given taken head.channel e.after
        mine b = record {
          stands = subst (λ (p : List Item). Stands size e.after.held p (given head.channel) (taken head.channel))
              (ap (λ (p : List Item). passed Side.Sent head payload ∷ began Side.Sent head ∷ p) (past-by head.channel journal)
              ∙ ap (λ (p : List Item). passed Side.Sent head payload ∷ p) (sym (began-history Side.Sent head journal))
              ∙ sym (above-history Side.Sent head payload begun above true here) ∙ sym (past-by head.channel sent))
              (next-stands b);
          under = e.step.under ∙ b.under ∙ sym (stays-under head.channel);
        }

        others : (n : ℕ) (c : Live) → (head.channel == n) ≡ false → EachBy size journal given taken n c → EachBy size sent given taken n c
        others n c f b =
            each-stays size journal journal sent sent given taken given taken n c
            (past-by n sent ∙ above-others Side.Sent head payload begun above n f ∙ began-others Side.Sent head journal n f ∙ sym (past-by n journal)) refl refl
            (stays-under n) b

  module _ (zero : (head.channel == 0) ≡ true) where
    zero-under : (n : ℕ) → under_in n (life_now n begun) sent ≡ under_in n (life_now n journal) journal
    zero-under n = under-by n (life_now n begun) journal sent refl refl ∙ ap (λ (k : ℕ). under_in n k journal) (began-now Side.Sent head journal n)

    pub sent-zero-joins : AreLive size begun sent given taken new
    sent-zero-joins =
        step-all size journal journal begun sent given taken given taken head.channel (Sends most head payload) old new s e
        (λ n. began-there Side.Sent head journal n) mine others
      where
        past : past_of head.channel begun sent ≡ passed Side.Sent head payload ∷ began Side.Sent head ∷ past_of head.channel journal journal
        past = rw zero refl

        mine : EachBy size journal given taken head.channel e.before → Each size begun sent given taken head.channel e.after
        mine b = record {
          stands = subst (λ (p : List Item). Stands size e.after.held p (given head.channel) (taken head.channel)) (sym past) (next-stands b);
          under = e.step.under ∙ b.under ∙ sym (zero-under head.channel);
        }

        others : (n : ℕ) (c : Live) → (head.channel == n) ≡ false → EachBy size journal given taken n c → Each size begun sent given taken n c
        others n c f b =
            each-stays size journal journal begun sent given taken given taken n c
            (of (n == 0) refl) refl refl (zero-under n) b
          where
            of : (z : Bool) → (n == 0) ≡ z → past_of n begun sent ≡ past_of n journal journal
            of false z = past-above n begun sent z ∙ began-others Side.Sent head journal n f ∙ sym (past-above n journal journal z)
            of true z = absurd (let g : false ≡ true = sym f ∙ equal-zero head.channel n zero z in cc)

-- ---- a SEQ

module _ (size : ℕ) (journal : List Item) (given taken : Marks) (old new : List Live) (seq : Seq)
    (s : AreLiveBy size journal given taken old) (e : Edits seq.channel (Tells seq) old new) where
  abbrev after : List Item
  after = told Side.Sent seq ∷ journal

  stays-told : (n : ℕ) → under_in n (life_now n after) after ≡ under_in n (life_now n journal) journal
  stays-told n = under-by n (life_now n after) journal after refl refl ∙ ap (λ (k : ℕ). under_in n k journal) (told-now Side.Sent seq journal n)

  pub sent-seq-joins : AreLiveBy size after given taken new
  sent-seq-joins =
      step-all size journal journal after after given taken given taken seq.channel (Tells seq) old new s e
      (λ n. told-there Side.Sent seq journal n) mine others
    where
      mine : EachBy size journal given taken seq.channel e.before → EachBy size after given taken seq.channel e.after
      mine b = record {
        stands = subst (λ (p : List Item). Stands size e.after.held p (given seq.channel) (taken seq.channel))
            (ap (λ (p : List Item). told Side.Sent seq ∷ p) (past-by seq.channel journal) ∙ sym (told-history Side.Sent seq journal) ∙ sym (past-by seq.channel after))
            (e.step.told size (past_of seq.channel journal journal) (given seq.channel) (taken seq.channel) b.stands).stands;
        under = ap (λ (h : Held). h.life.received.under_way) e.step.held ∙ b.under
            ∙ sym (stays-told seq.channel);
      }

      others : (n : ℕ) (c : Live) → (seq.channel == n) ≡ false → EachBy size journal given taken n c → EachBy size after given taken n c
      others n c f b =
          each-stays size journal journal after after given taken given taken n c
          (past-by n after ∙ told-others Side.Sent seq journal n f ∙ sym (past-by n journal)) refl refl
          (stays-told n) b

-- ---- given and taken

pub with-same : (number : ℕ) (ones : List Mark) (marks : Marks) → with_marks number ones marks number ≡ ones
with-same number ones marks = rw (same-number number) refl

pub with-other : (number n : ℕ) (ones : List Mark) (marks : Marks) → (number == n) ≡ false → with_marks number ones marks n ≡ marks n
with-other number n ones marks f = rw f refl

module _ (size number : ℕ) (lives journal : List Item) (given taken : Marks) (old new : List Live) (s : AreLive size lives journal given taken old) where
  pub given-joins : (marks : List Mark) → Edits number (Gives marks) old new
      → AreLive size lives journal (with_marks number (given number ++ marks) given) taken new
  given-joins marks e =
      step-all size lives journal lives journal given taken (with_marks number (given number ++ marks) given) taken number (Gives marks) old new s e
      (λ n. refl) mine others
    where
      mine : Each size lives journal given taken number e.before
          → Each size lives journal (with_marks number (given number ++ marks) given) taken number e.after
      mine b = record {
        stands = subst (λ (ms : List Mark). Stands size e.after.held (past_of number lives journal) ms (taken number)) (sym (with-same number (given number ++ marks) given))
            (e.step.stands size (past_of number lives journal) (given number) (taken number) b.stands);
        under = e.step.under ∙ b.under;
      }

      others : (n : ℕ) (c : Live) → (number == n) ≡ false → Each size lives journal given taken n c
          → Each size lives journal (with_marks number (given number ++ marks) given) taken n c
      others n c f b =
          each-stays size lives journal lives journal given taken (with_marks number (given number ++ marks) given) taken n c refl
          (with-other number n (given number ++ marks) given f) refl refl b

  pub taken-joins : (part : Part) (before after : List ℕ) → Edits number (Takes part before after) old new
      → AreLive size lives journal given (with_marks number (taken number ++ part_marks part after) taken) new
  taken-joins part before after e =
      step-all size lives journal lives journal given taken given (with_marks number (taken number ++ part_marks part after) taken) number (Takes part before after) old new s e
      (λ n. refl) mine others
    where
      mine : Each size lives journal given taken number e.before
          → Each size lives journal given (with_marks number (taken number ++ part_marks part after) taken) number e.after
      mine b = record {
        stands = subst (λ (ms : List Mark). Stands size e.after.held (past_of number lives journal) (given number) ms)
            (sym (with-same number (taken number ++ part_marks part after) taken))
            (e.step.takes.stands size (past_of number lives journal) (given number) (taken number) b.stands);
        under = e.step.under ∙ b.under;
      }

      others : (n : ℕ) (c : Live) → (number == n) ≡ false → Each size lives journal given taken n c
          → Each size lives journal given (with_marks number (taken number ++ part_marks part after) taken) n c
      others n c f b =
          each-stays size lives journal lives journal given taken given (with_marks number (taken number ++ part_marks part after) taken) n c refl refl
          (with-other number n (taken number ++ part_marks part after) taken f) refl b

  pub room-stays : (made : Bool) → EditsWhere made number KeepsHeld old new → AreLive size lives journal given taken new
  room-stays true e =
      step-all size lives journal lives journal given taken given taken number KeepsHeld old new s e (λ n. refl) mine (λ n c f b. b)
    where
      mine : Each size lives journal given taken number e.before → Each size lives journal given taken number e.after
      mine b = record {
        stands = subst (λ (h : Held). Stands size h (past_of number lives journal) (given number) (taken number)) (sym e.step.held) b.stands;
        under = ap (λ (h : Held). h.life.received.under_way) e.step.held ∙ b.under;
      }
  room-stays false e = subst (λ (cs : List Live). AreLive size lives journal given taken cs) (sym e) s
