-- What an answer waits for has come exactly where its script says that it waits for nothing.
use Rattle.std.proofs.Common.{◌≡◌, ◌∙◌, refl, sym, ap, subst, ℕ, zero, suc, ◌+◌, ◌-◌, ◌==◌, ◌<◌, ◌≤◌, Bool, true, false, not, ◌&&◌, ◌||◌, if◌then◌else◌, List, [], ◌∷◌, ◌++◌, length, map, drop, reverse, Option, None, Some, arith, ◌⊎◌, inl, inr}
use Rattle.std.specs.Prelude.{nat_lt, is_some}
use Rattle.std.specs.List.{list_all, list_any}
use Rattle.std.proofs.lemmas.Bool.Decides.{nat_tests}
use Rattle.beep_peer.specs.beep_history.specs.declared.journal.Side.{Side}
use Rattle.beep_peer.specs.beep_history.specs.Journal.{Item}
use Rattle.beep_peer.specs.beep_history.specs.Marks.{is_answered}
use Rattle.beep_peer.specs.beep_history.specs.Broken.{KeepsExchangeRules}
use Rattle.beep_peer.specs.beep_mgmt.specs.Form.{Form}
use Rattle.beep_peer.specs.beep_journal.specs.Life.{life, life_now}
use Rattle.beep_peer.specs.beep_lawful.specs.Closing.{is_drained}
use Rattle.beep_peer.specs.beep_journal.specs.Lives.{Event, has_ended, is_live, life_named, lives}
use Rattle.beep_peer.specs.beep_journal.specs.Zero.{asked, events, zero_history}
use Rattle.beep_peer.specs.beep_journal.proofs.LivesLemmas.{ended-before}
use Rattle.beep_peer.specs.beep_journal.proofs.MomentLemmas.{equal-number, named-within}
use Rattle.beep_peer.specs.beep_standing.specs.Standing.{Marks, AreLiveBy}
use Rattle.beep_peer.specs.beep_standing.proofs.ZeroLemmas.{none-of-zero}
use Rattle.beep_peer.specs.beep_spoken.specs.Spoken.{Spoken}
use Rattle.beep_peer.specs.beep_asked.specs.Asked.{names_live}
use Rattle.beep_peer.specs.beep_asked.specs.Kept.{Kept, asks_otherwise}
use Rattle.beep_peer.specs.beep_management.specs.declared.wait.Wait.{Wait}
use Rattle.beep_peer.specs.beep_management.specs.Managed.{Prepared, requests_among}
use Rattle.beep_peer.specs.beep_management.specs.Manages.{IsManaged}
use Rattle.beep_peer.specs.beep_decide.specs.Asks.{is_close_of}
use Rattle.beep_peer.specs.Waiting.{HasCome, IsDrainedAt}
use Rattle.beep_peer.specs.declared.peer.Peer.{Peer}
use Rattle.beep_script.specs.beep_talk.specs.AtZero.{ZeroMessage}
use Rattle.beep_script.specs.beep_talk.specs.Plan.{PlainPlan}
use Rattle.beep_script.specs.Desk.{are_free, has_listed, is_clear_of, is_free, is_said, live_numbers}
use Rattle.beep_desk.specs.Listed.{ArePlacedFrom, asked_positions, spoken_of}
use Rattle.beep_desk.specs.Waiting.{AllTaken, IsDone, SaysAll, WaitsFor}
use Rattle.beep_desk.specs.Desks.{AreDoneFor, IsDoneFor, MayWait}
use Rattle.beep_desk.proofs.DrainLemmas.{drained-where-free, free-none, free-where-drained}
use Rattle.beep_desk.proofs.LiveLemmas.{among-numbers}
use Rattle.beep_desk.proofs.OwnLemmas.{any-append, any-map, any-reverse, form_said, listed-says}
use Rattle.beep_desk.proofs.NumberLemmas.{all-hold, all-of}
use Rattle.beep_desk.proofs.KeptLemmas.{own-kept, own-listed}

both-left : (a b : Bool) → (a && b) ≡ true → a ≡ true
both-left true b e = refl
both-left false b e = absurd cc

both-right : (a b : Bool) → (a && b) ≡ true → b ≡ true
both-right true b e = e
both-right false b e = absurd cc

both-of : (a b : Bool) → a ≡ true → b ≡ true → (a && b) ≡ true
both-of true b f g = g
both-of false b f g = absurd cc

or-left : (a b : Bool) → (a || b) ≡ false → a ≡ false
or-left true b e = absurd cc
or-left false b e = refl

or-right : (a b : Bool) → (a || b) ≡ false → b ≡ false
or-right true b e = absurd cc
or-right false b e = e

turned : (b : Bool) → not b ≡ true → b ≡ false
turned true e = absurd cc
turned false e = refl

-- ---- a life that isn't live, by its name

ended-free : (plan : PlainPlan) (n k : ℕ) (journal : List Item) → (k == 0) ≡ false → has_ended n k (events journal) ≡ true → is_free plan n k journal ≡ true
ended-free plan n k journal some ended =
    ap (λ b. b || has_ended n k (events journal) || (is_drained (life n k journal) && is_said plan n k journal)) some
    ∙ ap (λ b. b || (is_drained (life n k journal) && is_said plan n k journal)) ended

-- a life that is named and isn't live has ended, or none was named
named-over : (plan : PlainPlan) (n p : ℕ) (journal : List Item) → names_live n Side.Received p (events journal) ≡ false
    → is_free plan n (life_named n Side.Received p (events journal)) journal ≡ true
named-over plan n p journal none = by (life_named n Side.Received p (events journal) == 0) refl (life_named n Side.Received p (events journal) == lives n (events journal)) refl
  where
    by : (a : Bool) → (life_named n Side.Received p (events journal) == 0) ≡ a → (b : Bool) → (life_named n Side.Received p (events journal) == lives n (events journal)) ≡ b
        → is_free plan n (life_named n Side.Received p (events journal)) journal ≡ true
    by true none b e = ap (λ m. is_free plan n m journal) (equal-number _ 0 none)
    by false some true e =
        ended-free plan n (life_named n Side.Received p (events journal)) journal some
        (ap (λ m. has_ended n m (events journal)) (equal-number _ _ e) ∙ over (nat_lt 0 (lives n (events journal))) (has_ended n (lives n (events journal)) (events journal))
        (more (lives n (events journal)) (ap (λ m. m == 0) (sym (equal-number _ _ e)) ∙ some))
        (left-none (is_live n (events journal)) (ap (λ b. is_live n (events journal) && b) (sym e) ∙ none)))
      where
        left-none : (b : Bool) → (b && true) ≡ false → b ≡ false
        left-none true e = absurd cc
        left-none false e = refl

        more : (m : ℕ) → (m == 0) ≡ false → nat_lt 0 m ≡ true
        more m e = grind (arith, nat_tests, e)

        over : (a b : Bool) → a ≡ true → (a && not b) ≡ false → b ≡ true
        over true true e f = refl
        over true false e f = absurd cc
        over false b e f = absurd cc
    by false some false e =
        let within = named-within n Side.Received p (events journal) in
        ended-free plan n (life_named n Side.Received p (events journal)) journal some
        (ended-before n (life_named n Side.Received p (events journal)) (events journal) (above (life_named n Side.Received p (events journal)) some)
        (apart (life_named n Side.Received p (events journal)) (lives n (events journal)) within e))
      where
        above : (m : ℕ) → (m == 0) ≡ false → 0 < m
        above m e = grind (arith, nat_tests, e)

        apart : (m k : ℕ) → m ≤ k → (m == k) ≡ false → m < k
        apart m k less e = grind (arith, nat_tests, less, e)

-- ---- all channels

module _ (plan : PlainPlan) (size : ℕ) (journal : List Item) (given taken : Marks) (peer : Peer) (spoken prepared : List Spoken) (keeps : KeepsExchangeRules (zero_history journal))
    (live : AreLiveBy size journal given taken peer.lives) (managed : IsManaged size journal given peer.management spoken prepared) (ours : List ZeroMessage)
    (same : requests_among (map spoken_of ours) ≡ requests_among spoken) (placed : ArePlacedFrom 1 (asked_positions ours)) where
  each-free : ((n : ℕ) → (n == 0) ≡ false → IsDone plan journal given n) → ((n : ℕ) → IsDrainedAt n peer.lives) → (n : ℕ) → is_free plan n (life_now n journal) journal ≡ true
  each-free done drained n = by (n == 0) refl
    where
      by : (b : Bool) → (n == 0) ≡ b → is_free plan n (life_now n journal) journal ≡ true
      by true e =
          subst (λ m. is_free plan m (life_now m journal) journal ≡ true) (sym (equal-number n 0 e))
          (free-none plan size journal given taken peer.lives live 0 (none-of-zero journal))
      by false e = free-where-drained plan size journal given taken peer.lives live n e (done n e) (drained n)

  each-drained : AllTaken peer.lives → SaysAll plan journal given → list_all (λ (n : ℕ). is_free plan n (life_now n journal) journal) (live_numbers journal) ≡ true → (n : ℕ) → IsDrainedAt n peer.lives
  each-drained all_taken says all n = by (is_live n (events journal)) refl
    where
      by : (b : Bool) → is_live n (events journal) ≡ b → IsDrainedAt n peer.lives
      by true here =
          drained-where-free plan size journal given taken peer.lives live all_taken says n
          (all-hold (λ (n : ℕ). is_free plan n (life_now n journal) journal) n (live_numbers journal) all (among-numbers n journal ∙ here))
      by false none = drained-where-free plan size journal given taken peer.lives live all_taken says n (free-none plan size journal given taken peer.lives live n none)

  -- the own requests that wait and are no close of 0, once the peer's greeting has come
  own-otherwise : is_answered Side.Sent 0 (zero_history journal) ≡ true
      → (asks_otherwise peer.management.mine.requests || asks_otherwise peer.management.acts.requests) ≡ has_listed (λ (form : Option Form). not (is_close_of 0 form)) (zero_history journal) ours
  own-otherwise met =
      let q = λ (form : Option Form). not (is_close_of 0 form) in
      let mine = peer.management.mine.requests in
      let acts = peer.management.acts.requests in
      let rest = length (asked Side.Sent (zero_history journal)) - length mine in
      let less = below (length mine) (length (asked Side.Sent (zero_history journal))) (sym (managed.mine.answered 0) ∙ met) in
      sym (any-append (λ (kept : Kept). q kept.said) (reverse mine) (reverse acts)
      ∙ ap (λ b. b || list_any (λ (kept : Kept). q kept.said) (reverse acts)) (any-reverse (λ (kept : Kept). q kept.said) mine)
      ∙ ap (λ b. asks_otherwise mine || b) (any-reverse (λ (kept : Kept). q kept.said) acts))
      ∙ sym (any-map q (λ (kept : Kept). kept.said) (reverse mine ++ reverse acts))
      ∙ ap (list_any q) (own-kept size journal given taken peer spoken prepared keeps live managed ours same placed)
      ∙ dropped q rest (map form_said (requests_among spoken)) (omega (arith, less))
      ∙ ap (list_any q) (sym (own-listed size journal given taken peer spoken prepared keeps live managed ours same placed))
      ∙ sym (listed-says q (zero_history journal) ours)
    where
      below : (m n : ℕ) → nat_lt (0 + m) n ≡ true → m + 1 ≤ n
      below m n e = grind (arith, nat_tests, e)

      dropped : (q : Option Form → Bool) (c : ℕ) (forms : List (Option Form)) → 1 ≤ c → list_any q (drop c (None ∷ forms)) ≡ list_any q (drop (c - 1) forms)
      dropped q zero forms some = absurd (omega (arith, some))
      dropped q (suc c) forms some = ap (λ n. list_any q (drop n forms)) (less c)
        where
          less : (n : ℕ) → n ≡ suc n - 1
          less n = omega arith

  module _ (met : is_answered Side.Sent 0 (zero_history journal) ≡ true) (position : ℕ) where
    -- a life that is named and live is the one that is live now
    now-named : (n : ℕ) → names_live n Side.Received position (events journal) ≡ true → life_named n Side.Received position (events journal) ≡ life_now n journal
    now-named n names =
        equal-number _ _ (both-right (is_live n (events journal)) (life_named n Side.Received position (events journal) == lives n (events journal)) names)
        ∙ sym (ap (λ b. if b then lives n (events journal) else 0) (both-left (is_live n (events journal)) (life_named n Side.Received position (events journal) == lives n (events journal)) names))

    clear-some : (n : ℕ) → (n == 0) ≡ false
        → is_clear_of plan ours journal position (Some n) ≡ is_free plan n (life_named n Side.Received position (events journal)) journal
    clear-some n above = ap (λ b. if b then are_free plan ours journal else is_free plan n (life_named n Side.Received position (events journal)) journal) above

    -- a life that isn't live has no channel
    drained-dead : (n : ℕ) → is_live n (events journal) ≡ false → IsDrainedAt n peer.lives
    drained-dead n dead above c at =
        absurd (let h : false ≡ true = sym (ap (λ b. b || is_live n (events journal)) above ∙ dead) ∙ live.there n ∙ ap is_some at in cc)

    pub clear-then : (closes : Option ℕ) (waits : Wait) → MayWait (events journal) position closes waits → IsDoneFor plan journal given waits → HasCome waits peer.lives peer.management
        → is_clear_of plan ours journal position closes ≡ true
    clear-then None waits w done come = refl
    clear-then (Some n) Wait.Nothing w done come = clear-some n w.0 ∙ named-over plan n position journal w.1
    clear-then (Some n) (Wait.Life m) w done come = by w.2
      where
        by : (names_live n Side.Received position (events journal) ≡ true) ⊎ (is_live n (events journal) ≡ false) → is_clear_of plan ours journal position (Some n) ≡ true
        by (inl names) =
            clear-some n w.0 ∙ ap (λ k. is_free plan n k journal) (now-named n names)
            ∙ free-where-drained plan size journal given taken peer.lives live n w.0 (subst (λ i. IsDone plan journal given i) w.1 (done (ap (λ (i : ℕ). i == 0) w.1 ∙ w.0))) (subst (λ i. IsDrainedAt i peer.lives) w.1 come)
        by (inr dead) =
            clear-some n w.0
            ∙ named-over plan n position journal (ap (λ b. b && life_named n Side.Received position (events journal) == lives n (events journal)) dead)
    clear-then (Some n) Wait.All w done come =
        ap (λ m. is_clear_of plan ours journal position (Some m)) w
        ∙ both-of _ _ (all-of (λ (n : ℕ). is_free plan n (life_now n journal) journal) (each-free done come.2) (live_numbers journal))
        (ap not (sym (own-otherwise met) ∙ ap (λ b. b || asks_otherwise peer.management.acts.requests) come.0 ∙ come.1))

    pub come-then : AllTaken peer.lives → SaysAll plan journal given → (closes : Option ℕ) (waits : Wait) → MayWait (events journal) position closes waits
        → is_clear_of plan ours journal position closes ≡ true → HasCome waits peer.lives peer.management
    come-then all_taken says closes Wait.Nothing w clear = tt
    come-then all_taken says None (Wait.Life m) w clear = absurd (let h : Wait.Life m ≡ Wait.Nothing = w in cc)
    come-then all_taken says None Wait.All w clear = absurd (let h : Wait.All ≡ Wait.Nothing = w in cc)
    come-then all_taken says (Some n) (Wait.Life m) w clear = subst (λ i. IsDrainedAt i peer.lives) (sym w.1) (by w.2)
      where
        by : (names_live n Side.Received position (events journal) ≡ true) ⊎ (is_live n (events journal) ≡ false) → IsDrainedAt n peer.lives
        by (inl names) =
            drained-where-free plan size journal given taken peer.lives live all_taken says n
            (ap (λ k. is_free plan n k journal) (sym (now-named n names)) ∙ sym (clear-some n w.0) ∙ clear)
        by (inr dead) = drained-dead n dead
    come-then all_taken says (Some n) Wait.All w clear =
        let free = ap (λ m. is_clear_of plan ours journal position (Some m)) (sym w) ∙ clear in
        let own = own-otherwise met ∙ turned _ (both-right (list_all (λ (n : ℕ). is_free plan n (life_now n journal) journal) (live_numbers journal)) _ free) in (
          or-left (asks_otherwise peer.management.mine.requests) (asks_otherwise peer.management.acts.requests) own,
          or-right (asks_otherwise peer.management.mine.requests) (asks_otherwise peer.management.acts.requests) own,
          each-drained all_taken says (both-left (list_all (λ (n : ℕ). is_free plan n (life_now n journal) journal) (live_numbers journal)) _ free),
        )

-- what waits for so much waits for no more
pub may-wait : (es : List Event) (position : ℕ) (closes : Option ℕ) (waits : Wait) → WaitsFor es position closes waits → MayWait es position closes waits
may-wait es position None waits w = w
may-wait es position (Some n) Wait.Nothing w = w
may-wait es position (Some n) (Wait.Life m) w = (w.0, w.1, inl w.2)
may-wait es position (Some n) Wait.All w = w

-- where all is said it is so for each answer that waits
pub done-where : (plan : PlainPlan) (journal : List Item) (given : Marks) → SaysAll plan journal given → (waits : Wait) → IsDoneFor plan journal given waits
done-where plan journal given says Wait.Nothing = tt
done-where plan journal given says (Wait.Life n) = says.done n
done-where plan journal given says Wait.All = says.done

pub all-done : (plan : PlainPlan) (journal : List Item) (given : Marks) → SaysAll plan journal given → (answers : List Prepared) → AreDoneFor plan journal given answers
all-done plan journal given says [] = tt
all-done plan journal given says (answer ∷ answers) = (done-where plan journal given says answer.waits, all-done plan journal given says answers)
