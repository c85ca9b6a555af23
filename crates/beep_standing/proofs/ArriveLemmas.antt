-- What is received joins the journal.
use Rattle.std.proofs.Common.{◌≡◌, ℕ, ◌==◌, Bool, true, false, ◌&&◌, if◌then◌else◌, List, ◌∷◌, Option, Some, None, refl, sym, ap, ◌∙◌, arith, subst}
use Rattle.std.specs.Prelude.{is_some}
use Rattle.std.proofs.lemmas.Bool.Decides.{nat_tests}
use Rattle.beep_frame.specs.declared.head.Head.{Head}
use Rattle.beep_frame.specs.declared.rule.Rule.{Rule}
use Rattle.beep_frame.specs.declared.seq.Seq.{Seq}
use Rattle.beep_history.specs.declared.journal.Side.{Side}
use Rattle.beep_history.specs.Journal.{Item, began, passed, told}
use Rattle.beep_history.specs.Marks.{Mark}
use Rattle.beep_history.specs.Broken.{under_way, broken_rule}
use Rattle.beep_history.specs.Windows.{is_bad_ack}
use Rattle.beep_journal.specs.Life.{life_now, life_under_way, is_there, history}
use Rattle.beep_journal.specs.Broken.{broken_seq}
use Rattle.beep_journal.proofs.MomentLemmas.{same-number, equal-number}
use Rattle.beep_journal.proofs.JournalLemmas.{began-there, began-now, began-history, began-others, told-there, told-now, told-history, told-others, above-there, above-history, above-others}
use Rattle.beep_channel.specs.Held.{Live}
use Rattle.beep_channel.specs.Stands.{Stands}
use Rattle.beep_channel.proofs.JudgeLemmas.{judge-held}
use Rattle.beep_lives.specs.Lives.{live_at, judged_at, has_begun, lives_judged}
use Rattle.beep_lives.specs.Edits.{Begins, Arrives, Obeys, Edits, EditsWhere}
use Rattle.beep_standing.specs.Standing.{Marks, under_in, AreLive, AreLiveBy}
use Rattle.beep_standing.proofs.ZeroLemmas.{begun-zero}
use Rattle.beep_standing.proofs.EachLemmas.{Each, past_of, past-by, past-above, to-each, each-stays, under-none, under-other, under-same, under-by, step-all, all-stay}

pub equal-zero : (c n : ℕ) → (c == 0) ≡ true → (n == 0) ≡ true → (c == n) ≡ true
equal-zero c n e f = grind (arith, nat_tests)

-- a channel that stands for the history of its number
abbrev pub EachBy : ℕ → List Item → Marks → Marks → ℕ → Live → Type 0
EachBy size journal given taken n c = Each size journal journal given taken n c

-- ---- the rules

module _ (size : ℕ) (lives journal : List Item) (given taken : Marks) (channels : List Live) (s : AreLive size lives journal given taken channels) where
  -- a received header is judged by the history of its channel
  pub judged-each : (head : Head) → lives_judged channels head
      ≡ (if is_there head.channel lives then broken_rule Side.Received (past_of head.channel lives journal) head else Some Rule.NoSuchChannel)
  judged-each head = of (live_at head.channel channels) refl
    where
      of : (o : Option Live) → live_at head.channel channels ≡ o
          → judged_at (live_at head.channel channels) head
          ≡ (if is_there head.channel lives then broken_rule Side.Received (past_of head.channel lives journal) head else Some Rule.NoSuchChannel)
      of None at =
          let there : is_there head.channel lives ≡ false = s.there head.channel ∙ ap (λ (o : Option Live). is_some o) at in
          ap (λ (o : Option Live). judged_at o head) at
          ∙ sym (ap (λ (b : Bool). if b then broken_rule Side.Received (past_of head.channel lives journal) head else Some Rule.NoSuchChannel) there)
      of (Some c) at =
          let there : is_there head.channel lives ≡ true = s.there head.channel ∙ ap (λ (o : Option Live). is_some o) at in
          let e : Each size lives journal given taken head.channel c = to-each size lives journal given taken channels s head.channel c at in
          ap (λ (o : Option Live). judged_at o head) at
          ∙ judge-held c.held head size (past_of head.channel lives journal) e.stands.held
          ∙ sym (ap (λ (b : Bool). if b then broken_rule Side.Received (past_of head.channel lives journal) head else Some Rule.NoSuchChannel) there)

  -- no frame is under way in a channel where none is in the session
  pub idle-each : under_way Side.Received journal ≡ None → (n : ℕ) (c : Live) → live_at n channels ≡ Some c → c.held.life.received.under_way ≡ None
  idle-each none n c at = s.under n c at ∙ under-none n (life_now n lives) journal none

  -- the one under way in a channel is that of the session
  pub is-each : (n : ℕ) (c : Live) (head : Head) → live_at n channels ≡ Some c → c.held.life.received.under_way ≡ Some head
      → under_way Side.Received journal ≡ Some head
  is-each n c head at begun = of (under_way Side.Received journal) refl
    where
      of : (o : Option Head) → under_way Side.Received journal ≡ o → under_way Side.Received journal ≡ Some head
      of None e = let g : None ≡ Some head = sym (under-none n (life_now n lives) journal e) ∙ sym (s.under n c at) ∙ begun in cc
      of (Some other) e = by (other.channel == n) (life_under_way n Side.Received journal == life_now n lives) refl refl
        where
          by : (a b : Bool) → (other.channel == n) ≡ a → (life_under_way n Side.Received journal == life_now n lives) ≡ b → under_way Side.Received journal ≡ Some head
          by false b f g = let q : None ≡ Some head = sym (under-other n (life_now n lives) journal other e f) ∙ sym (s.under n c at) ∙ begun in cc
          by true false f g = let q : None ≡ Some head = sym (under-same n (life_now n lives) journal other false e f g) ∙ sym (s.under n c at) ∙ begun in cc
          by true true f g = let q : Some other ≡ Some head = sym (under-same n (life_now n lives) journal other true e f g) ∙ sym (s.under n c at) ∙ begun in e ∙ q

-- between two messages of channel zero
pub judged-by : (size : ℕ) (journal : List Item) (given taken : Marks) (channels : List Live) (head : Head) → AreLiveBy size journal given taken channels
    → lives_judged channels head ≡ (if is_there head.channel journal then broken_rule Side.Received (history head.channel journal) head else Some Rule.NoSuchChannel)
judged-by size journal given taken channels head s =
    judged-each size journal journal given taken channels s head
    ∙ ap (λ (p : List Item). if is_there head.channel journal then broken_rule Side.Received p head else Some Rule.NoSuchChannel) (past-by head.channel journal)

-- ---- a header

module _ (size : ℕ) (journal : List Item) (given taken : Marks) (old new : List Live) (head : Head)
    (s : AreLiveBy size journal given taken old) (none : under_way Side.Received journal ≡ None)
    (e : Edits head.channel (Begins head) old new) where
  abbrev later : List Item
  later = began Side.Received head ∷ journal

  pub header-joins : AreLiveBy size later given taken new
  header-joins =
      step-all size journal journal later later given taken given taken head.channel (Begins head) old new s e
      (λ n. began-there Side.Received head journal n) mine others
    where
      now : (life_under_way head.channel Side.Received later == life_now head.channel later) ≡ true
      now =
          ap (λ (k : ℕ). life_under_way head.channel Side.Received later == k) (began-now Side.Received head journal head.channel)
          ∙ rw (same-number head.channel) (same-number (life_now head.channel journal))

      mine : EachBy size journal given taken head.channel e.before → EachBy size later given taken head.channel e.after
      mine b = record {
        stands = subst (λ (p : List Item). Stands size e.after.held p (given head.channel) (taken head.channel))
            (ap (λ (p : List Item). began Side.Received head ∷ p) (past-by head.channel journal) ∙ sym (began-history Side.Received head journal) ∙ sym (past-by head.channel later))
            (e.step.stands size (past_of head.channel journal journal) (given head.channel) (taken head.channel) b.stands);
        under = e.step.begun ∙ sym (under-same head.channel (life_now head.channel later) later head true refl (same-number head.channel) now);
      }

      others : (n : ℕ) (c : Live) → (head.channel == n) ≡ false → EachBy size journal given taken n c → EachBy size later given taken n c
      others n c f b =
          each-stays size journal journal later later given taken given taken n c
          (past-by n later ∙ began-others Side.Received head journal n f ∙ sym (past-by n journal)) refl refl
          (under-other n (life_now n later) later head refl f ∙ sym (under-none n (life_now n journal) journal none)) b

-- ---- a frame of a channel above zero

module _ (size : ℕ) (journal : List Item) (given taken : Marks) (old new : List Live) (head : Head) (payload : List ℕ)
    (s : AreLiveBy size journal given taken old) (begun : under_way Side.Received journal ≡ Some head) where
  abbrev passing : List Item
  passing = passed Side.Received head payload ∷ journal

  module _ (above : (head.channel == 0) ≡ false) where
    -- whether its life goes on
    goes : (b : Bool) → (life_under_way head.channel Side.Received journal == life_now head.channel journal) ≡ b
        → (c : Live) → live_at head.channel old ≡ Some c → has_begun (live_at head.channel old) ≡ b
    goes b here c at =
        ap has_begun at ∙ ap (λ (o : Option Head). is_some o) (s.under head.channel c at ∙ under-same head.channel (life_now head.channel journal) journal head b begun (same-number head.channel) here)
        ∙ is b
      where
        is : (b : Bool) → is_some (if b then Some head else None) ≡ b
        is true = refl
        is false = refl

    others-stay : (n : ℕ) (c : Live) → (head.channel == n) ≡ false → EachBy size journal given taken n c → EachBy size passing given taken n c
    others-stay n c f b =
        each-stays size journal journal passing passing given taken given taken n c
        (past-by n passing ∙ above-others Side.Received head payload journal above n f ∙ sym (past-by n journal)) refl refl
        (sym (under-other n (life_now n journal) journal head begun f)) b

    -- it goes on
    frame-goes : Edits head.channel (Arrives head payload) old new → has_begun (live_at head.channel old) ≡ true → AreLiveBy size passing given taken new
    frame-goes e has =
        step-all size journal journal passing passing given taken given taken head.channel (Arrives head payload) old new s e
        (λ n. above-there Side.Received head payload journal above n) mine others-stay
      where
        here : (life_under_way head.channel Side.Received journal == life_now head.channel journal) ≡ true
        here = sym (goes (life_under_way head.channel Side.Received journal == life_now head.channel journal) refl e.before e.was) ∙ has

        mine : EachBy size journal given taken head.channel e.before → EachBy size passing given taken head.channel e.after
        mine b = record {
          stands = subst (λ (p : List Item). Stands size e.after.held p (given head.channel) (taken head.channel))
              (ap (λ (p : List Item). passed Side.Received head payload ∷ p) (past-by head.channel journal)
              ∙ sym (above-history Side.Received head payload journal above true here) ∙ sym (past-by head.channel passing))
              (e.step.stands size (past_of head.channel journal journal) (given head.channel) (taken head.channel) b.stands);
          under = e.step.whole;
        }

    -- it has ended since the header
    frame-ended : new ≡ old → has_begun (live_at head.channel old) ≡ false → AreLiveBy size passing given taken new
    frame-ended same has =
        subst (λ (cs : List Live). AreLiveBy size passing given taken cs) (sym same)
        (all-stay size journal journal passing passing given taken given taken old s (λ n. above-there Side.Received head payload journal above n)
        (λ n c at b. of n c at b (head.channel == n) refl))
      where
        of : (n : ℕ) (c : Live) → live_at n old ≡ Some c → EachBy size journal given taken n c → (b : Bool) → (head.channel == n) ≡ b → EachBy size passing given taken n c
        of n c at b false f = others-stay n c f b
        of n c at b true f =
            let same : head.channel ≡ n = equal-number head.channel n f in
            let mine : live_at head.channel old ≡ Some c = subst (λ (k : ℕ). live_at k old ≡ Some c) (sym same) at in
            let here : (life_under_way head.channel Side.Received journal == life_now head.channel journal) ≡ false =
            sym (goes (life_under_way head.channel Side.Received journal == life_now head.channel journal) refl c mine) ∙ has in
            let stays : EachBy size passing given taken head.channel c =
            each-stays size journal journal passing passing given taken given taken head.channel c
            (past-by head.channel passing ∙ above-history Side.Received head payload journal above false here ∙ sym (past-by head.channel journal)) refl refl
            (sym (under-same head.channel (life_now head.channel journal) journal head false begun (same-number head.channel) here))
            (subst (λ (k : ℕ). EachBy size journal given taken k c) (sym same) b) in
            subst (λ (k : ℕ). EachBy size passing given taken k c) same stays

    pub frame-joins : (goes_on : Bool) → EditsWhere goes_on head.channel (Arrives head payload) old new → goes_on ≡ has_begun (live_at head.channel old)
        → AreLiveBy size passing given taken new
    frame-joins true e has = frame-goes e (sym has)
    frame-joins false e has = frame-ended e (sym has)

  -- ---- a frame of channel zero

  module _ (zero : (head.channel == 0) ≡ true) where
    zero-goes : Edits head.channel (Arrives head payload) old new → AreLive size journal passing given taken new
    zero-goes e =
        step-all size journal journal journal passing given taken given taken head.channel (Arrives head payload) old new s e (λ n. refl) mine others
      where
        past : past_of head.channel journal passing ≡ passed Side.Received head payload ∷ past_of head.channel journal journal
        past = rw zero refl

        mine : EachBy size journal given taken head.channel e.before → Each size journal passing given taken head.channel e.after
        mine b = record {
          stands = subst (λ (p : List Item). Stands size e.after.held p (given head.channel) (taken head.channel)) (sym past)
              (e.step.stands size (past_of head.channel journal journal) (given head.channel) (taken head.channel) b.stands);
          under = e.step.whole;
        }

        others : (n : ℕ) (c : Live) → (head.channel == n) ≡ false → EachBy size journal given taken n c → Each size journal passing given taken n c
        others n c f b =
            each-stays size journal journal journal passing given taken given taken n c
            (of (n == 0) refl) refl refl (sym (under-other n (life_now n journal) journal head begun f)) b
          where
            of : (z : Bool) → (n == 0) ≡ z → past_of n journal passing ≡ past_of n journal journal
            of false z = past-above n journal passing z ∙ sym (past-above n journal journal z)
            of true z = absurd (let g : false ≡ true = sym f ∙ equal-zero head.channel n zero z in cc)

    pub zero-joins : (goes_on : Bool) → EditsWhere goes_on head.channel (Arrives head payload) old new → goes_on ≡ has_begun (live_at head.channel old)
        → AreLive size journal passing given taken new
    zero-joins true e has = zero-goes e
    zero-joins false e has = absurd (let g : false ≡ true = has ∙ begun-zero size journal given taken old head s begun zero in cc)

-- ---- a SEQ

module _ (size : ℕ) (journal : List Item) (given taken : Marks) (old new : List Live) (seq : Seq) (s : AreLiveBy size journal given taken old) where
  abbrev after : List Item
  after = told Side.Received seq ∷ journal

  stays-under : (n : ℕ) → under_in n (life_now n after) after ≡ under_in n (life_now n journal) journal
  stays-under n = under-by n (life_now n after) journal after refl refl ∙ ap (λ (k : ℕ). under_in n k journal) (told-now Side.Received seq journal n)

  apart-stays : (n : ℕ) (c : Live) → (seq.channel == n) ≡ false → EachBy size journal given taken n c → EachBy size after given taken n c
  apart-stays n c f b =
      each-stays size journal journal after after given taken given taken n c
      (past-by n after ∙ told-others Side.Received seq journal n f ∙ sym (past-by n journal)) refl refl
      (stays-under n) b

  seq-obeyed : Edits seq.channel (Obeys seq) old new → AreLiveBy size after given taken new
  seq-obeyed e =
      step-all size journal journal after after given taken given taken seq.channel (Obeys seq) old new s e
      (λ n. told-there Side.Received seq journal n) mine apart-stays
    where
      mine : EachBy size journal given taken seq.channel e.before → EachBy size after given taken seq.channel e.after
      mine b = record {
        stands = subst (λ (p : List Item). Stands size e.after.held p (given seq.channel) (taken seq.channel))
            (ap (λ (p : List Item). told Side.Received seq ∷ p) (past-by seq.channel journal) ∙ sym (told-history Side.Received seq journal) ∙ sym (past-by seq.channel after))
            (e.step.stands size (past_of seq.channel journal journal) (given seq.channel) (taken seq.channel) b.stands);
        under = e.step.under ∙ b.under ∙ sym (stays-under seq.channel);
      }

  seq-ignored : new ≡ old → is_some (live_at seq.channel old) ≡ false → AreLiveBy size after given taken new
  seq-ignored same none =
      subst (λ (cs : List Live). AreLiveBy size after given taken cs) (sym same)
      (all-stay size journal journal after after given taken given taken old s (λ n. told-there Side.Received seq journal n)
      (λ n c at b. of n c at b (seq.channel == n) refl))
    where
      of : (n : ℕ) (c : Live) → live_at n old ≡ Some c → EachBy size journal given taken n c → (b : Bool) → (seq.channel == n) ≡ b → EachBy size after given taken n c
      of n c at b false f = apart-stays n c f b
      of n c at b true f =
          absurd (let g : false ≡ true = sym none ∙ ap (λ (k : ℕ). is_some (live_at k old)) (equal-number seq.channel n f) ∙ ap (λ (o : Option Live). is_some o) at in cc)

  pub seq-joins : (b : Bool) → is_some (live_at seq.channel old) ≡ b → EditsWhere b seq.channel (Obeys seq) old new → AreLiveBy size after given taken new
  seq-joins true some e = seq-obeyed e
  seq-joins false none e = seq-ignored e none

  -- it breaks a rule where it does by the history of its channel, where that is there
  pub seq-judged : (bad : Bool) → (live_at seq.channel old ≡ None → bad ≡ false)
      → ((c : Live) → live_at seq.channel old ≡ Some c
      → (size : ℕ) (past : List Item) (given taken : List Mark) → Stands size c.held past given taken → bad ≡ is_bad_ack Side.Received past seq)
      → (if bad then Some Rule.BadAck else None) ≡ broken_seq Side.Received journal seq
  unfolding broken_seq
  seq-judged bad none some = of (live_at seq.channel old) refl
    where
      of : (o : Option Live) → live_at seq.channel old ≡ o → (if bad then Some Rule.BadAck else None)
          ≡ (if is_there seq.channel journal && is_bad_ack Side.Received (history seq.channel journal) seq then Some Rule.BadAck else None)
      of (Some c) at =
          let b : EachBy size journal given taken seq.channel c = to-each size journal journal given taken old s seq.channel c at in
          let is : bad ≡ is_bad_ack Side.Received (history seq.channel journal) seq =
          some c at size (past_of seq.channel journal journal) (given seq.channel) (taken seq.channel) b.stands
          ∙ ap (λ (p : List Item). is_bad_ack Side.Received p seq) (past-by seq.channel journal) in
          rw (s.there seq.channel, at) (ap (λ (x : Bool). if x then Some Rule.BadAck else None) is)
      of None at =
          rw (s.there seq.channel, at) (ap (λ (x : Bool). if x then Some Rule.BadAck else None) (none at))
