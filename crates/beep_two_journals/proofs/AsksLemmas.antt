-- What the requests and replies that a lawful end sends on channel zero say.
use Rattle.std.proofs.Common.{◌≡◌, ℕ, ◌+◌, ◌-◌, ◌≤◌, ◌==◌, nat_lt, Bool, true, false, not, ◌&&◌, ◌||◌, if◌then◌else◌, List, [], ◌∷◌, length, Option, Some, None, refl, sym, ap, ◌∙◌, arith, subst}
use Rattle.std.proofs.lemmas.Bool.{le-ltb}
use Rattle.std.proofs.lemmas.Bool.Decides.{nat_tests}
use Rattle.beep_history.specs.declared.journal.Side.{Side}
use Rattle.beep_history.specs.Journal.{Item}
use Rattle.beep_history.specs.Marks.{frames, is_answered}
use Rattle.beep_history.specs.Moments.{replies_ended}
use Rattle.beep_history.specs.Broken.{KeepsExchangeRules}
use Rattle.beep_history.proofs.RepliesLemmas.{answered}
use Rattle.beep_mgmt.specs.Form.{Form, greeting, start, chosen, close, okay, fault}
use Rattle.beep_journal.specs.declared.role.Role.{Role}
use Rattle.beep_journal.specs.Lives as landed
use Rattle.beep_journal.specs.Lives.{Event}
use Rattle.beep_journal.specs.Zero.{zero_history, events, said_at, asked as asked_of}
use Rattle.beep_decide.specs.Asks.{is_start_of, is_close_of, has_waiting, has_own_start, has_own_release, has_close_among}
use Rattle.beep_decide.specs.Numbers.{other_role, may_start}
use Rattle.beep_lawful.specs.Lawful.{breaks_start_number, breaks_grant_number, breaks_close_starting}
use Rattle.beep_two_journals.proofs.Entries.{starts, says_else, Entry, is_start, is_close, replied, is_live, NoStart, IsLawfulAsk, says_of, entries}
use Rattle.beep_two_journals.proofs.PassingLemmas.{Bridged}
use Rattle.beep_two_journals.proofs.LifeLemmas.{live-same}

pub or-one : (a b : Bool) → (a || b) ≡ false → a ≡ false
or-one true b e = cc
or-one false b e = refl

pub or-two : (a b : Bool) → (a || b) ≡ false → b ≡ false
or-two true b e = cc
or-two false b e = e

or-second : (a b : Bool) → b ≡ true → (a || b) ≡ true
or-second true b e = refl
or-second false b e = e

first-false : (a b : Bool) → b ≡ false → (a && not b) ≡ false → a ≡ false
first-false true true e f = cc
first-false true false e f = cc
first-false false b e f = refl

number : (a b : ℕ) → (a == b) ≡ true → a ≡ b
number a b e = grind (arith, nat_tests)

clash : (b : Bool) → b ≡ true → b ≡ false → ⊥
clash b t f = let e : true ≡ false = sym t ∙ f in cc

not-not : (b : Bool) → not b ≡ false → b ≡ true
not-not true e = refl
not-not false e = cc

-- ---- starts that wait

none-by : (says : Option Form → Bool) (side : Side) (past : List Item) (form : Option Form) (forms : List (Option Form)) (p : ℕ) (rest : Bool)
    → ((says form && not (is_answered side (length forms) past)) || rest) ≡ false → is_answered side p past ≡ false → says (said_at p forms) ≡ false
    → (b : Bool) → (length forms == p) ≡ b → says (if b then form else said_at p forms) ≡ false
none-by says side past form forms p rest w a ih true e =
    first-false (says form) (is_answered side (length forms) past) (ap (λ (q : ℕ). is_answered side q past) (number (length forms) p e) ∙ a)
    (or-one (says form && not (is_answered side (length forms) past)) rest w)
none-by says side past form forms p rest w a ih false e = ih

none-waits : (says : Option Form → Bool) (side : Side) (past : List Item) (forms : List (Option Form)) (p : ℕ) → says None ≡ false
    → has_waiting says side past forms ≡ false → is_answered side p past ≡ false → says (said_at p forms) ≡ false
none-waits says side past [] p n w a = n
none-waits says side past (form ∷ forms) p n w a =
    none-by says side past form forms p (has_waiting says side past forms) w a
    (none-waits says side past forms p n (or-two (says form && not (is_answered side (length forms) past)) (has_waiting says side past forms) w) a) (length forms == p) refl

not-start : (n : ℕ) (form : Option Form) → is_start_of n form ≡ false → is_start n (says_of form) ≡ false
not-start n None e = refl
not-start n (Some (greeting features localize profiles)) e = refl
not-start n (Some (start m server profiles)) e = by-number (nat_lt 0 m)
  where
    by-number : (b : Bool) → is_start n (if b then starts m else says_else) ≡ false
    by-number true = e
    by-number false = refl
not-start n (Some (chosen profile)) e = refl
not-start n (Some (close m code note)) e = refl
not-start n (Some okay) e = refl
not-start n (Some (fault code note)) e = refl

zero-start : (form : Option Form) → is_start 0 (says_of form) ≡ false
zero-start None = refl
zero-start (Some (greeting features localize profiles)) = refl
zero-start (Some (start m server profiles)) = by-number (nat_lt 0 m) refl
  where
    apart : nat_lt 0 m ≡ true → (m == 0) ≡ false
    apart e = grind (arith, nat_tests)

    by-number : (b : Bool) → nat_lt 0 m ≡ b → is_start 0 (if b then starts m else says_else) ≡ false
    by-number true e = apart e
    by-number false e = refl
zero-start (Some (chosen profile)) = refl
zero-start (Some (close m code note)) = refl
zero-start (Some okay) = refl
zero-start (Some (fault code note)) = refl

-- a request after the replies so far isn't answered
pub not-answered : (past : List Item) (es : List Entry) (p : ℕ) → KeepsExchangeRules (zero_history past) → Bridged (zero_history past) es → length (replied Side.Received es) ≤ p
    → is_answered Side.Sent (p + 1) (zero_history past) ≡ false
not-answered past es p u b h =
    answered Side.Sent (zero_history past) u (p + 1)
    ∙ le-ltb (p + 1) (replies_ended (frames Side.Received (zero_history past))) (few (replies_ended (frames Side.Received (zero_history past))) (length (replied Side.Received es)) (b.replied_is Side.Received) h)
  where
    few : (r n : ℕ) → n ≡ r - 1 → n ≤ p → r ≤ p + 1
    few r n e h = omega (arith, e, h)

pub no_start : (n : ℕ) (past : List Item) (es : List Entry) → KeepsExchangeRules (zero_history past) → Bridged (zero_history past) es → has_own_start n past ≡ false → NoStart n es
no_start n past es u b w p h =
    ap (is_start n) (sym ((b.tells Side.Sent).at p))
    ∙ not-start n (said_at (p + 1) (asked_of Side.Sent (zero_history past)))
    (none-waits (is_start_of n) Side.Sent (zero_history past) (asked_of Side.Sent (zero_history past)) (p + 1) refl w (not-answered past es p u b h))

pub no_start_of_zero : (past : List Item) (es : List Entry) → Bridged (zero_history past) es → NoStart 0 es
no_start_of_zero past es b p h =
    ap (is_start 0) (sym ((b.tells Side.Sent).at p)) ∙ zero-start (said_at (p + 1) (asked_of Side.Sent (zero_history past)))

not-above : (n : ℕ) → nat_lt 0 n ≡ false → 0 ≡ n
not-above n e = grind (arith, nat_tests)

-- ---- own requests and replies

module _ (role : Role) (own : ℕ → Bool) (mine : (n : ℕ) → may_start role n ≡ true → own n ≡ true) (theirs : (n : ℕ) → may_start (other_role role) n ≡ true → own n ≡ false)
    (past : List Item) (u : KeepsExchangeRules (zero_history past)) (b : Bridged (zero_history past) (entries past)) where
  pub ask_law : (form : Option Form) → breaks_start_number role past form ≡ false → breaks_close_starting past form ≡ false → IsLawfulAsk own (entries past) (says_of form)
  ask_law None s c = tt
  ask_law (Some (greeting features localize profiles)) s c = tt
  ask_law (Some (chosen profile)) s c = tt
  ask_law (Some okay) s c = tt
  ask_law (Some (fault code note)) s c = tt
  ask_law (Some (start n server profiles)) s c = by-number (nat_lt 0 n)
    where
      both : (not (may_start role n) || landed.is_live n (events past)) ≡ false
      both = or-one (not (may_start role n) || landed.is_live n (events past)) (has_own_start n past) s

      by-number : (t : Bool) → IsLawfulAsk own (entries past) (if t then starts n else says_else)
      by-number true = (
        mine n (not-not (may_start role n) (or-one (not (may_start role n)) (landed.is_live n (events past)) both)),
        sym (live-same n past b) ∙ or-two (not (may_start role n)) (landed.is_live n (events past)) both,
        no_start n past (entries past) u b (or-two (not (may_start role n) || landed.is_live n (events past)) (has_own_start n past) s),
      )
      by-number false = tt
  ask_law (Some (close n code note)) s c = by-number (nat_lt 0 n) refl c
    where
      by-number : (t : Bool) → nat_lt 0 n ≡ t → (t && has_own_start n past) ≡ false → NoStart n (entries past)
      by-number true e f = no_start n past (entries past) u b f
      by-number false e f = subst (λ (m : ℕ). NoStart m (entries past)) (not-above n e) (no_start_of_zero past (entries past) b)

  pub reply_law : (form : Option Form) → breaks_grant_number role past form ≡ false → (n : ℕ) → is_start n (says_of form) ≡ true
      → (own n ≡ false) × (is_live n (entries past) ≡ false)
  reply_law None g n e = cc
  reply_law (Some (greeting features localize profiles)) g n e = cc
  reply_law (Some (chosen profile)) g n e = cc
  reply_law (Some okay) g n e = cc
  reply_law (Some (fault code note)) g n e = cc
  reply_law (Some (close m code note)) g n e = cc
  reply_law (Some (start m server profiles)) g n e = by-number (nat_lt 0 m) e
    where
      both : (not (may_start (other_role role) m) || landed.is_live m (events past)) ≡ false
      both = or-one (not (may_start (other_role role) m) || landed.is_live m (events past)) (has_own_release past) g

      by-number : (t : Bool) → is_start n (if t then starts m else says_else) ≡ true → (own n ≡ false) × (is_live n (entries past) ≡ false)
      by-number true f =
          subst (λ (j : ℕ). (own j ≡ false) × (is_live j (entries past) ≡ false)) (number m n f) (
            theirs m (not-not (may_start (other_role role) m) (or-one (not (may_start (other_role role) m)) (landed.is_live m (events past)) both)),
            sym (live-same m past b) ∙ or-two (not (may_start (other_role role) m)) (landed.is_live m (events past)) both,
          )
      by-number false f = cc

-- ---- closes that wait

pub close-of : (n : ℕ) (form : Option Form) → is_close n (says_of form) ≡ true → is_close_of n form ≡ true
close-of n None e = cc
close-of n (Some (greeting features localize profiles)) e = cc
close-of n (Some (start m server profiles)) e = by-number (nat_lt 0 m) e
  where
    by-number : (t : Bool) → is_close n (if t then starts m else says_else) ≡ true → false ≡ true
    by-number true f = cc
    by-number false f = cc
close-of n (Some (chosen profile)) e = cc
close-of n (Some (close m code note)) e = e
close-of n (Some okay) e = cc
close-of n (Some (fault code note)) e = cc

three-true : (a b c rest : Bool) → a ≡ true → b ≡ false → c ≡ true → ((a && not b && c) || rest) ≡ true
three-true a b c rest e f g = rw (e, f, g) refl

among-by : (n count : ℕ) (es : List Event) (past : List Item) (form : Option Form) (forms : List (Option Form)) (p : ℕ)
    → (is_close_of n (said_at p forms) ≡ true → has_close_among n count es past forms ≡ true) → is_answered Side.Sent p past ≡ false
    → (landed.life_named n Side.Sent p es == count) ≡ true → (b : Bool) → (length forms == p) ≡ b → is_close_of n (if b then form else said_at p forms) ≡ true
    → ((is_close_of n form && not (is_answered Side.Sent (length forms) past) && landed.life_named n Side.Sent (length forms) es == count) || has_close_among n count es past forms) ≡ true
among-by n count es past form forms p ih a l true e c =
    three-true (is_close_of n form) (is_answered Side.Sent (length forms) past) (landed.life_named n Side.Sent (length forms) es == count) (has_close_among n count es past forms)
    c (ap (λ (q : ℕ). is_answered Side.Sent q past) (number (length forms) p e) ∙ a) (ap (λ (q : ℕ). landed.life_named n Side.Sent q es == count) (number (length forms) p e) ∙ l)
among-by n count es past form forms p ih a l false e c =
    or-second (is_close_of n form && not (is_answered Side.Sent (length forms) past) && landed.life_named n Side.Sent (length forms) es == count)
    (has_close_among n count es past forms) (ih c)

pub close-among : (n count : ℕ) (es : List Event) (past : List Item) (forms : List (Option Form)) (p : ℕ) → is_close_of n (said_at p forms) ≡ true
    → is_answered Side.Sent p past ≡ false → (landed.life_named n Side.Sent p es == count) ≡ true → has_close_among n count es past forms ≡ true
close-among n count es past [] p c a l = c
close-among n count es past (form ∷ forms) p c a l =
    among-by n count es past form forms p (λ d. close-among n count es past forms p d a l) a l (length forms == p) refl c
