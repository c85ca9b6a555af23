-- What channels stand for, number by number, and one step of one channel.
use Rattle.std.proofs.Common.{◌≡◌, ℕ, ◌+◌, ◌==◌, Bool, true, false, if◌then◌else◌, List, [], ◌∷◌, Option, Some, None, refl, sym, ap, ◌∙◌, arith, subst}
use Rattle.std.specs.Prelude.{is_some}
use Rattle.beep_frame.specs.declared.head.Head.{Head}
use Rattle.beep_history.specs.declared.journal.Side.{Side}
use Rattle.beep_history.specs.Journal.{Item}
use Rattle.beep_history.specs.Marks.{Mark}
use Rattle.beep_history.specs.Broken.{under_way}
use Rattle.beep_journal.specs.Zero.{zero_history}
use Rattle.beep_journal.specs.Life.{life_now, life_under_way, is_there, history}
use Rattle.beep_journal.proofs.MomentLemmas.{equal-number}
use Rattle.beep_channel.specs.Held.{Live}
use Rattle.beep_channel.specs.Stands.{Stands}
use Rattle.beep_lives.specs.Lives.{live_at, numbers, IsAscendingFrom}
use Rattle.beep_lives.specs.Edits.{Edits}
use Rattle.beep_standing.specs.Standing.{Marks, under_in, AreLive}

-- ---- one number

-- the history for which the channel of a number stands
abbrev pub past_of : ℕ → List Item → List Item → List Item
past_of n lives journal = if n == 0 then zero_history journal else history n lives

-- a channel stands for the history of its number
pub record Each (size : ℕ) (lives journal : List Item) (given taken : Marks) (n : ℕ) (c : Live) : Type 0 where
  pub stands : Stands size c.held (past_of n lives journal) (given n) (taken n)
  pub under : c.held.life.received.under_way ≡ under_in n (life_now n lives) journal

pub past-by : (n : ℕ) (journal : List Item) → past_of n journal journal ≡ history n journal
past-by n journal = of (n == 0) refl
  where
    of : (b : Bool) → (n == 0) ≡ b → (if b then zero_history journal else history n journal) ≡ history n journal
    of true e = rw e refl
    of false e = refl

pub past-above : (n : ℕ) (lives journal : List Item) → (n == 0) ≡ false → past_of n lives journal ≡ history n lives
past-above n lives journal e = ap (λ (b : Bool). if b then zero_history journal else history n lives) e

pub past-zero : (n : ℕ) (lives journal : List Item) → (n == 0) ≡ true → past_of n lives journal ≡ zero_history journal
past-zero n lives journal e = ap (λ (b : Bool). if b then zero_history journal else history n lives) e

module _ (size : ℕ) (lives journal : List Item) (given taken : Marks) (channels : List Live) where
  pub to-each : AreLive size lives journal given taken channels → (n : ℕ) (c : Live) → live_at n channels ≡ Some c
      → Each size lives journal given taken n c
  to-each s n c at = record { stands = of (n == 0) refl; under = s.under n c at }
    where
      of : (b : Bool) → (n == 0) ≡ b → Stands size c.held (if b then zero_history journal else history n lives) (given n) (taken n)
      of true e =
          subst (λ (k : ℕ). Stands size c.held (zero_history journal) (given k) (taken k)) (sym (equal-number n 0 e))
          (s.zero c (subst (λ (k : ℕ). live_at k channels ≡ Some c) (equal-number n 0 e) at))
      of false e = s.above n c e at

  pub from-each : ((n : ℕ) → is_there n lives ≡ is_some (live_at n channels))
      → ((n : ℕ) (c : Live) → live_at n channels ≡ Some c → Each size lives journal given taken n c)
      → IsAscendingFrom 0 channels → AreLive size lives journal given taken channels
  from-each there each ascending = record {
    there = there;
    zero = λ c at. (each 0 c at).stands;
    above = λ n c e at. subst (λ (past : List Item). Stands size c.held past (given n) (taken n)) (past-above n lives journal e) (each n c at).stands;
    under = λ n c at. (each n c at).under;
    ascending = ascending;
  }

-- what is the same of a number keeps its channel
pub each-stays : (size : ℕ) (lives journal later now : List Item) (given taken given' taken' : Marks) (n : ℕ) (c : Live)
    → past_of n later now ≡ past_of n lives journal → given' n ≡ given n → taken' n ≡ taken n
    → under_in n (life_now n later) now ≡ under_in n (life_now n lives) journal
    → Each size lives journal given taken n c → Each size later now given' taken' n c
each-stays size lives journal later now given taken given' taken' n c past g t under s = record {
  stands = subst (λ (p : List Item). Stands size c.held p (given' n) (taken' n)) (sym past)
      (subst (λ (ms : List Mark). Stands size c.held (past_of n lives journal) ms (taken' n)) (sym g)
      (subst (λ (ms : List Mark). Stands size c.held (past_of n lives journal) (given n) ms) (sym t) s.stands));
  under = s.under ∙ sym under;
}

-- ---- the frame under way, number by number

pub under-none : (n count : ℕ) (journal : List Item) → under_way Side.Received journal ≡ None → under_in n count journal ≡ None
under-none n count journal none = rw none refl

pub under-other : (n count : ℕ) (journal : List Item) (head : Head) → under_way Side.Received journal ≡ Some head → (head.channel == n) ≡ false
    → under_in n count journal ≡ None
under-other n count journal head begun apart = rw (begun, apart) refl

pub under-same : (n count : ℕ) (journal : List Item) (head : Head) (b : Bool) → under_way Side.Received journal ≡ Some head → (head.channel == n) ≡ true
    → (life_under_way n Side.Received journal == count) ≡ b → under_in n count journal ≡ (if b then Some head else None)
under-same n count journal head true begun same here = rw (begun, same, here) refl
under-same n count journal head false begun same here = rw (begun, same, here) refl

-- what changes neither the header under way nor its life leaves it in its channel
pub under-by : (n count : ℕ) (journal now : List Item) → under_way Side.Received now ≡ under_way Side.Received journal
    → life_under_way n Side.Received now ≡ life_under_way n Side.Received journal → under_in n count now ≡ under_in n count journal
under-by n count journal now same here = of (under_way Side.Received journal) refl
  where
    of : (o : Option Head) → under_way Side.Received journal ≡ o → under_in n count now ≡ under_in n count journal
    of None e = under-none n count now (same ∙ e) ∙ sym (under-none n count journal e)
    of (Some head) e = by (head.channel == n) refl
      where
        by : (b : Bool) → (head.channel == n) ≡ b → under_in n count now ≡ under_in n count journal
        by false f = under-other n count now head (same ∙ e) f ∙ sym (under-other n count journal head e f)
        by true f =
            under-same n count now head (life_under_way n Side.Received journal == count) (same ∙ e) f (ap (λ (k : ℕ). k == count) here)
            ∙ sym (under-same n count journal head (life_under_way n Side.Received journal == count) e f refl)

-- ---- one step of one channel

no-cons : (x : ℕ) (xs : List ℕ) → x ∷ xs ≡ [] → ⊥
no-cons x xs e = cc

cons-head : (x y : ℕ) (xs ys : List ℕ) → x ∷ xs ≡ y ∷ ys → x ≡ y
cons-head x y xs ys e = cc

cons-tail : (x y : ℕ) (xs ys : List ℕ) → x ∷ xs ≡ y ∷ ys → xs ≡ ys
cons-tail x y xs ys e = cc

ascending-same : (least : ℕ) (news olds : List Live) → numbers news ≡ numbers olds → IsAscendingFrom least olds → IsAscendingFrom least news
ascending-same least [] [] same up = tt
ascending-same least [] (b ∷ olds) same up = tt
ascending-same least (a ∷ news) [] same up = absurd (no-cons _ _ same)
ascending-same least (a ∷ news) (b ∷ olds) same up =
    let head : a.held.number ≡ b.held.number = cons-head _ _ _ _ same in
    let tail : numbers news ≡ numbers olds = cons-tail _ _ _ _ same in
    let first = up.0 in (
      omega (arith, head, first),
      subst (λ (k : ℕ). IsAscendingFrom (k + 1) news) (sym head) (ascending-same (b.held.number + 1) news olds tail up.1),
    )

module _ (number : ℕ) (Step : Live → Live → Type 0) (old new : List Live) (e : Edits number Step old new) where
  pub edited-at : (n : ℕ) (b : Bool) → (number == n) ≡ b → live_at n new ≡ (if b then Some e.after else live_at n old)
  edited-at n b f = e.at n ∙ ap (λ (c : Bool). if c then Some e.after else live_at n old) f

  pub edited-was : (n : ℕ) → (number == n) ≡ true → live_at n old ≡ Some e.before
  edited-was n f = subst (λ (k : ℕ). live_at k old ≡ Some e.before) (equal-number number n f) e.was

  pub edited-some : (n : ℕ) → is_some (live_at n new) ≡ is_some (live_at n old)
  edited-some n = of (number == n) refl
    where
      of : (b : Bool) → (number == n) ≡ b → is_some (live_at n new) ≡ is_some (live_at n old)
      of true f = ap (λ (o : Option Live). is_some o) (edited-at n true f) ∙ ap (λ (o : Option Live). is_some o) (sym (edited-was n f))
      of false f = ap (λ (o : Option Live). is_some o) (edited-at n false f)

  pub edited-is : (n : ℕ) (c : Live) → (number == n) ≡ true → live_at n new ≡ Some c → e.after ≡ c
  edited-is n c f at = let g : Some e.after ≡ Some c = sym (edited-at n true f) ∙ at in cc

  pub edited-ascending : IsAscendingFrom 0 old → IsAscendingFrom 0 new
  edited-ascending = ascending-same 0 new old e.order

-- the channel steps, the others stay
module _ (size : ℕ) (lives journal later now : List Item) (given taken given' taken' : Marks) (number : ℕ) (Step : Live → Live → Type 0) (old new : List Live)
    (s : AreLive size lives journal given taken old) (e : Edits number Step old new)
    (there : (n : ℕ) → is_there n later ≡ is_there n lives)
    (mine : Each size lives journal given taken number e.before → Each size later now given' taken' number e.after)
    (others : (n : ℕ) (c : Live) → (number == n) ≡ false → Each size lives journal given taken n c → Each size later now given' taken' n c) where
  each-by : (n : ℕ) (c : Live) (b : Bool) → (number == n) ≡ b → live_at n new ≡ Some c → Each size later now given' taken' n c
  each-by n c true f at =
      subst (λ (l : Live). Each size later now given' taken' n l) (edited-is number Step old new e n c f at)
      (subst (λ (k : ℕ). Each size later now given' taken' k e.after) (equal-number number n f)
      (mine (to-each size lives journal given taken old s number e.before e.was)))
  each-by n c false f at = others n c f (to-each size lives journal given taken old s n c (sym (edited-at number Step old new e n false f) ∙ at))

  pub step-all : AreLive size later now given' taken' new
  step-all =
      from-each size later now given' taken' new (λ n. there n ∙ s.there n ∙ sym (edited-some number Step old new e n))
      (λ n c at. each-by n c (number == n) refl at) (edited-ascending number Step old new e s.ascending)

-- all stay
pub all-stay : (size : ℕ) (lives journal later now : List Item) (given taken given' taken' : Marks) (channels : List Live)
    → AreLive size lives journal given taken channels → ((n : ℕ) → is_there n later ≡ is_there n lives)
    → ((n : ℕ) (c : Live) → live_at n channels ≡ Some c → Each size lives journal given taken n c → Each size later now given' taken' n c)
    → AreLive size later now given' taken' channels
all-stay size lives journal later now given taken given' taken' channels s there each =
    from-each size later now given' taken' channels (λ n. there n ∙ s.there n)
    (λ n c at. each n c at (to-each size lives journal given taken channels s n c at)) s.ascending
