-- What a message of channel zero makes of the live channels.
use Rattle.std.proofs.Common.{◌≡◌, ℕ, ◌+◌, ◌<◌, ◌==◌, Bool, true, false, ◌||◌, if◌then◌else◌, List, [], ◌∷◌, Option, Some, None, refl, sym, ap, ◌∙◌, arith, subst}
use Rattle.std.specs.Prelude.{is_some}
use Rattle.std.proofs.lemmas.Bool.Decides.{nat_tests}
use Rattle.beep_frame.specs.declared.head.Head.{Head}
use Rattle.beep_history.specs.declared.journal.Side.{Side}
use Rattle.beep_history.specs.Journal.{Item, began, passed, told, same_side}
use Rattle.beep_history.specs.Marks.{Mark}
use Rattle.beep_history.specs.Broken.{under_way}
use Rattle.beep_exchange.specs.Kept.{Kept}
use Rattle.beep_journal.specs.Lives.{Event, lives as lives_of, is_live, live_life}
use Rattle.beep_journal.specs.Zero.{channel_of, events}
use Rattle.beep_journal.specs.Life.{life_now, life_under_way, is_of_life, life, is_there, history}
use Rattle.beep_journal.proofs.MomentLemmas.{same-number, equal-number, apart-zero, other-start, other-start-lives, start-lives, start-live, other-close, close-live}
use Rattle.beep_journal.proofs.LifeLemmas.{nothing-before}
use Rattle.beep_journal.proofs.JournalLemmas.{above-events}
use Rattle.beep_channel.specs.Held.{Live}
use Rattle.beep_channel.specs.Stands.{Stands}
use Rattle.beep_lives.specs.Lives.{live_at}
use Rattle.beep_lives.specs.Edits.{Joins, Leaves}
use Rattle.beep_standing.specs.Standing.{Marks, with_marks, under_in, AreLive, AreLiveBy}
use Rattle.beep_standing.specs.Moving.{MovesNone, BeginsLife, EndsLife}
use Rattle.beep_standing.proofs.EachLemmas.{Each, past_of, past-above, past-zero, to-each, from-each, each-stays, under-none, under-other, under-same, all-stay}
use Rattle.beep_standing.proofs.ArriveLemmas.{EachBy}
use Rattle.beep_standing.proofs.SendLemmas.{with-same, with-other}

-- ---- one number

-- it has as many lives as before, live or not
record SameAt (n : ℕ) (before after : List Event) : Type 0 where
  pub lives : lives_of n after ≡ lives_of n before
  pub live : is_live n after ≡ is_live n before

same-now : (n : ℕ) (before after : List Event) → SameAt n before after → live_life n after ≡ live_life n before
same-now n before after same =
    ap (λ (b : Bool). if b then lives_of n after else 0) same.live ∙ ap (λ (l : ℕ). if is_live n before then l else 0) same.lives

history-above : (n : ℕ) (journal : List Item) → (n == 0) ≡ false → history n journal ≡ life n (life_now n journal) journal
history-above n journal e = rw e refl

-- an item of channel zero is in the history of no life
module _ (item : Item) (journal : List Item) (zero : (channel_of item == 0) ≡ true) where
  not-of : (n k : ℕ) (item : Item) → (channel_of item == 0) ≡ true → (n == 0) ≡ false → is_of_life n k item journal ≡ false
  not-of n k (began by head) z e = rw (apart-zero head.channel n z e) refl
  not-of n k (passed by head payload) z e = rw (apart-zero head.channel n z e) refl
  not-of n k (told by seq) z e = rw (apart-zero seq.channel n z e) refl

  life-stays : (n k : ℕ) → (n == 0) ≡ false → life n k (item ∷ journal) ≡ life n k journal
  life-stays n k e = rw (not-of n k item zero e) refl

  -- the history of a number whose lives are the same stays
  past-stays : (n : ℕ) → SameAt n (events journal) (events (item ∷ journal)) → past_of n (item ∷ journal) (item ∷ journal) ≡ past_of n journal (item ∷ journal)
  past-stays n same = of (n == 0) refl
    where
      of : (b : Bool) → (n == 0) ≡ b → past_of n (item ∷ journal) (item ∷ journal) ≡ past_of n journal (item ∷ journal)
      of true e = past-zero n (item ∷ journal) (item ∷ journal) e ∙ sym (past-zero n journal (item ∷ journal) e)
      of false e =
          past-above n (item ∷ journal) (item ∷ journal) e ∙ history-above n (item ∷ journal) e
          ∙ ap (λ (k : ℕ). life n k (item ∷ journal)) (same-now n (events journal) (events (item ∷ journal)) same)
          ∙ life-stays n (life_now n journal) e ∙ sym (history-above n journal e) ∙ sym (past-above n journal (item ∷ journal) e)

  -- so its channel stays
  same-stays : (size : ℕ) (given taken given' taken' : Marks) (n : ℕ) (c : Live) → SameAt n (events journal) (events (item ∷ journal))
      → given' n ≡ given n → taken' n ≡ taken n → Each size journal (item ∷ journal) given taken n c → EachBy size (item ∷ journal) given' taken' n c
  same-stays size given taken given' taken' n c same g t b =
      each-stays size journal (item ∷ journal) (item ∷ journal) (item ∷ journal) given taken given' taken' n c (past-stays n same) g t
      (ap (λ (k : ℕ). under_in n k (item ∷ journal)) (same-now n (events journal) (events (item ∷ journal)) same)) b

-- ---- no life begins or ends

pub lives-stay : (size : ℕ) (journal : List Item) (given taken : Marks) (channels : List Live) (item : Item)
    → AreLive size journal (item ∷ journal) given taken channels → MovesNone (events journal) (events (item ∷ journal)) → (channel_of item == 0) ≡ true
    → AreLiveBy size (item ∷ journal) given taken channels
lives-stay size journal given taken channels item s none zero =
    all-stay size journal (item ∷ journal) (item ∷ journal) (item ∷ journal) given taken given taken channels s
    (λ n. ap (λ (b : Bool). n == 0 || b) (none.live n))
    (λ n c at b. same-stays item journal zero size given taken given taken n c (record { lives = none.lives n; live = none.live n }) refl refl b)

-- ---- a life begins

-- where a number had no more lives, no frame is under way in a later one
none-under : (n k : ℕ) (head : Head) (journal : List Item) → (n == 0) ≡ false → lives_of n (events journal) < k → (head.channel == n) ≡ true
    → (life_under_way n Side.Received journal == k) ≡ false
none-under n k head journal above below same = of (life_under_way n Side.Received journal == k) refl
  where
    apart : (c n : ℕ) → (n == 0) ≡ false → (c == n) ≡ true → (c == 0) ≡ false
    apart c n e f = grind (arith, nat_tests)

    nothing : life n k (passed Side.Received head [] ∷ journal) ≡ []
    nothing = nothing-before n k (passed Side.Received head [] ∷ journal)
        (subst (λ (es : List Event). lives_of n es < k) (sym (above-events Side.Received head [] journal (apart head.channel n above same))) below)

    of : (b : Bool) → (life_under_way n Side.Received journal == k) ≡ b → b ≡ false
    of false e = refl
    of true e =
        let here : life n k (passed Side.Received head [] ∷ journal) ≡ passed Side.Received head [] ∷ life n k journal = rw (same, e) refl in
        let g : passed Side.Received head [] ∷ life n k journal ≡ [] = sym here ∙ nothing in cc

-- an item of channel zero leaves it so
under-apart : (n k : ℕ) (item : Item) (journal : List Item) → (channel_of item == 0) ≡ true → (n == 0) ≡ false → 0 < k
    → (life_under_way n Side.Received journal == k) ≡ false → (life_under_way n Side.Received (item ∷ journal) == k) ≡ false
under-apart n k (began by head) journal zero above some apart = of (same_side by Side.Received)
  where
    no-zero : (k : ℕ) → 0 < k → (0 == k) ≡ false
    no-zero k some = grind (arith, nat_tests)

    of : (b : Bool) → ((if b then (if head.channel == n then life_now n journal else 0) else life_under_way n Side.Received journal) == k) ≡ false
    of true = rw (apart-zero head.channel n zero above) (no-zero k some)
    of false = apart
under-apart n k (passed by head payload) journal zero above some apart = apart
under-apart n k (told by seq) journal zero above some apart = apart

module _ (size number : ℕ) (journal : List Item) (given taken : Marks) (old new : List Live) (item : Item)
    (s : AreLive size journal (item ∷ journal) given taken old) (zero : (channel_of item == 0) ≡ true) where
  module _ (begins : BeginsLife number (events journal) (events (item ∷ journal))) (channel : Live) (is : channel.held.number ≡ number)
      (fresh : Stands size channel.held [] [] []) (joins : Joins channel old new) where
    joined : (n : ℕ) (b : Bool) → (number == n) ≡ b → live_at n new ≡ (if b then Some channel else live_at n old)
    joined n b f = joins.at n ∙ ap (λ (k : ℕ). if k == n then Some channel else live_at n old) is ∙ ap (λ (x : Bool). if x then Some channel else live_at n old) f

    apart-same : (n : ℕ) → (number == n) ≡ false → SameAt n (events journal) (events (item ∷ journal))
    apart-same n f = record {
      lives = ap (λ (es : List Event). lives_of n es) begins.granted ∙ other-start-lives number (events journal) n f;
      live = ap (λ (es : List Event). is_live n es) begins.granted ∙ other-start number (events journal) n f;
    }

    begun-live : is_live number (events (item ∷ journal)) ≡ true
    begun-live = ap (λ (es : List Event). is_live number es) begins.granted ∙ start-live number (events journal) begins.free

    begun-lives : lives_of number (events (item ∷ journal)) ≡ lives_of number (events journal) + 1
    begun-lives = ap (λ (es : List Event). lives_of number es) begins.granted ∙ start-lives number (events journal) begins.free

    now : life_now number (item ∷ journal) ≡ lives_of number (events journal) + 1
    now = ap (λ (b : Bool). if b then lives_of number (events (item ∷ journal)) else 0) begun-live ∙ begun-lives

    nothing-in : past_of number (item ∷ journal) (item ∷ journal) ≡ []
    nothing-in =
        past-above number (item ∷ journal) (item ∷ journal) begins.above ∙ history-above number (item ∷ journal) begins.above
        ∙ ap (λ (k : ℕ). life number k (item ∷ journal)) now ∙ life-stays item journal zero number (lives_of number (events journal) + 1) begins.above
        ∙ nothing-before number (lives_of number (events journal) + 1) journal (omega arith)

    nothing-under : under_in number (life_now number (item ∷ journal)) (item ∷ journal) ≡ None
    nothing-under = of (under_way Side.Received (item ∷ journal)) refl
      where
        of : (o : Option Head) → under_way Side.Received (item ∷ journal) ≡ o → under_in number (life_now number (item ∷ journal)) (item ∷ journal) ≡ None
        of None e = under-none number (life_now number (item ∷ journal)) (item ∷ journal) e
        of (Some head) e = by (head.channel == number) refl
          where
            by : (b : Bool) → (head.channel == number) ≡ b → under_in number (life_now number (item ∷ journal)) (item ∷ journal) ≡ None
            by false f = under-other number (life_now number (item ∷ journal)) (item ∷ journal) head e f
            by true f =
                under-same number (life_now number (item ∷ journal)) (item ∷ journal) head false e f
                (ap (λ (k : ℕ). life_under_way number Side.Received (item ∷ journal) == k) now
                ∙ under-apart number (lives_of number (events journal) + 1) item journal zero begins.above (omega arith)
                (none-under number (lives_of number (events journal) + 1) head journal begins.above (omega arith) f))

    abbrev given-now : Marks
    given-now = with_marks number [] given

    abbrev taken-now : Marks
    taken-now = with_marks number [] taken

    fresh-each : EachBy size (item ∷ journal) given-now taken-now number channel
    fresh-each = record {
      stands = subst (λ (p : List Item). Stands size channel.held p (given-now number) (taken-now number)) (sym nothing-in)
          (subst (λ (ms : List Mark). Stands size channel.held [] ms (taken-now number)) (sym (with-same number [] given))
          (subst (λ (ms : List Mark). Stands size channel.held [] [] ms) (sym (with-same number [] taken)) fresh));
      under = ap (λ (k : Kept). k.under_way) fresh.held.exchange.received ∙ sym nothing-under;
    }

    joined-there : (n : ℕ) (b : Bool) → (number == n) ≡ b → is_there n (item ∷ journal) ≡ is_some (live_at n new)
    joined-there n true f =
        ap (λ (b : Bool). n == 0 || b) (subst (λ (k : ℕ). is_live k (events (item ∷ journal)) ≡ true) (equal-number number n f) begun-live)
        ∙ or-true (n == 0) ∙ sym (ap (λ (o : Option Live). is_some o) (joined n true f))
      where
        or-true : (b : Bool) → (b || true) ≡ true
        or-true true = refl
        or-true false = refl
    joined-there n false f =
        ap (λ (b : Bool). n == 0 || b) (apart-same n f).live ∙ s.there n ∙ sym (ap (λ (o : Option Live). is_some o) (joined n false f))

    joined-each : (n : ℕ) (c : Live) (b : Bool) → (number == n) ≡ b → live_at n new ≡ Some c → EachBy size (item ∷ journal) given-now taken-now n c
    joined-each n c true f at =
        let same : channel ≡ c = (let g : Some channel ≡ Some c = sym (joined n true f) ∙ at in cc) in
        subst (λ (l : Live). EachBy size (item ∷ journal) given-now taken-now n l) same
        (subst (λ (k : ℕ). EachBy size (item ∷ journal) given-now taken-now k channel) (equal-number number n f) fresh-each)
    joined-each n c false f at =
        same-stays item journal zero size given taken given-now taken-now n c (apart-same n f)
        (with-other number n [] given f) (with-other number n [] taken f)
        (to-each size journal (item ∷ journal) given taken old s n c (sym (joined n false f) ∙ at))

    pub life-begins : AreLiveBy size (item ∷ journal) given-now taken-now new
    life-begins =
        from-each size (item ∷ journal) (item ∷ journal) given-now taken-now new (λ n. joined-there n (number == n) refl)
        (λ n c at. joined-each n c (number == n) refl at) joins.ascending

  -- ---- a life ends

  module _ (ends : EndsLife number (events journal) (events (item ∷ journal))) (leaves : Leaves number old new) where
    left : (n : ℕ) (b : Bool) → (number == n) ≡ b → live_at n new ≡ (if b then None else live_at n old)
    left n b f = leaves.at n ∙ ap (λ (x : Bool). if x then None else live_at n old) f

    still-same : (n : ℕ) → (number == n) ≡ false → SameAt n (events journal) (events (item ∷ journal))
    still-same n f = record {
      lives = ap (λ (es : List Event). lives_of n es) ends.granted;
      live = ap (λ (es : List Event). is_live n es) ends.granted ∙ other-close number ends.side ends.position (events journal) n f;
    }

    ended : is_live number (events (item ∷ journal)) ≡ false
    ended =
        ap (λ (es : List Event). is_live number es) ends.granted
        ∙ close-live number ends.side ends.position (events journal)
        (ap (λ (k : ℕ). k == lives_of number (events journal)) ends.named ∙ same-number (lives_of number (events journal)))

    left-there : (n : ℕ) (b : Bool) → (number == n) ≡ b → is_there n (item ∷ journal) ≡ is_some (live_at n new)
    left-there n true f =
        subst (λ (k : ℕ). is_there k (item ∷ journal) ≡ false) (equal-number number n f) (ap (λ (b : Bool). number == 0 || b) ended ∙ ap (λ (b : Bool). b || false) ends.above)
        ∙ sym (ap (λ (o : Option Live). is_some o) (left n true f))
    left-there n false f =
        ap (λ (b : Bool). n == 0 || b) (still-same n f).live ∙ s.there n ∙ sym (ap (λ (o : Option Live). is_some o) (left n false f))

    left-each : (n : ℕ) (c : Live) (b : Bool) → (number == n) ≡ b → live_at n new ≡ Some c → EachBy size (item ∷ journal) given taken n c
    left-each n c true f at = absurd (let g : None ≡ Some c = sym (left n true f) ∙ at in cc)
    left-each n c false f at =
        same-stays item journal zero size given taken given taken n c (still-same n f) refl refl
        (to-each size journal (item ∷ journal) given taken old s n c (sym (left n false f) ∙ at))

    pub life-ends : AreLiveBy size (item ∷ journal) given taken new
    life-ends =
        from-each size (item ∷ journal) (item ∷ journal) given taken new (λ n. left-there n (number == n) refl)
        (λ n c at. left-each n c (number == n) refl at) leaves.ascending
