-- When the `ok` to a close may go out, over the entries of a journal.
use Rattle.std.proofs.Common.{◌≡◌, ◌⊎◌, inl, inr, ℕ, ◌+◌, ◌<◌, ◌==◌, Bool, true, false, not, ◌&&◌, ◌||◌, if◌then◌else◌, List, [], ◌∷◌, ◌++◌, length, Option, refl, sym, ap, ◌∙◌, arith, subst}
use Rattle.std.proofs.lemmas.Bool.{ltb-true}
use Rattle.std.proofs.lemmas.Bool.Decides.{nat_tests}
use Rattle.beep_frame.specs.declared.head.Head.{Head}
use Rattle.beep_history.specs.declared.journal.Side.{Side}
use Rattle.beep_history.specs.Journal.{Item, began, passed, told}
use Rattle.beep_history.specs.Marks.{begins_request, requests}
use Rattle.beep_history.specs.Broken.{KeepsExchangeRules}
use Rattle.beep_mgmt.specs.Form.{Form}
use Rattle.beep_journal.specs.Lives as landed
use Rattle.beep_journal.specs.Zero.{channel_of, zero_history, events, asked as asked_of, said_at}
use Rattle.beep_journal.specs.Life as of_journal
use Rattle.beep_journal.specs.Life.{history, is_of_life}
use Rattle.beep_decide.specs.Asks.{has_own_close}
use Rattle.beep_lawful.specs.Closing.{is_drained, is_ready, asks_again, begins_asking, has_come, was_quiet_since}
use Rattle.beep_lawful.specs.Lawful.{begins_own, breaks_asked_closing}
use Rattle.beep_two_ends.proofs.WindowLemmas.{unbroken}
use Rattle.beep_two_journals.proofs.Entries.{Entry, is_close, asked, said, lives, ended, names, is_live, life, DrainedSince, CloseWaits, IsLawfulLives, NeverBrokeAll, says_of, entries}
use Rattle.beep_two_journals.proofs.BridgeLemmas.{bridged, HasForms, keeps-if}
use Rattle.beep_two_journals.proofs.LifeLemmas.{IsSteady, now-same, life-same, history-same, number, itself}
use Rattle.beep_two_journals.proofs.EntriesLemmas.{entries-before}
use Rattle.beep_two_journals.proofs.EndsLemmas.{ended-later}
use Rattle.beep_two_journals.proofs.TailLemmas.{lives-earlier, whole-all-earlier, life-lawful, life-whole}
use Rattle.beep_two_journals.proofs.DrainLemmas.{drained_of}
use Rattle.beep_two_journals.proofs.AsksLemmas.{not-answered, close-of, close-among}

-- ---- no own request while an own close waits

both-true : (a b : Bool) → a ≡ true → b ≡ true → (a && b) ≡ false → ⊥
both-true true true e f g = cc
both-true true false e f g = cc
both-true false b e f g = cc

pub none_begins : (past : List Item) (head : Head) → KeepsExchangeRules (zero_history past) → HasForms past → IsSteady past → (head.channel == 0) ≡ false
    → is_live head.channel (entries past) ≡ true → breaks_asked_closing past head ≡ false
    → begins_request Side.Sent (life head.channel (lives head.channel (entries past)) (entries past)) head ≡ true → (p : ℕ) → CloseWaits head.channel p (entries past) → ⊥
none_begins past head u f s z live closing begins p (place, many, close, named) =
    let b = bridged past u f in
    let n : ℕ = head.channel in
    let h = history-same n z past u f s live in
    let now : of_journal.life_now n past ≡ lives n (entries past) = now-same n past b ∙ rw live refl in
    let own : begins_own past head ≡ true = ap (λ (xs : List Item). begins_request Side.Sent xs head) h ∙ begins in
    let said_is : is_close n (says_of (said_at (p + 1) (asked_of Side.Sent (zero_history past)))) ≡ true = ap (is_close n) ((b.tells Side.Sent).at p) ∙ close in
    let named_is : (landed.life_named n Side.Sent (p + 1) (events past) == of_journal.life_now n past) ≡ true =
    ap (λ (k : ℕ). k == of_journal.life_now n past) (b.named_is n n Side.Sent p close ∙ named) ∙ ap (λ (k : ℕ). lives n (entries past) == k) now ∙ itself (lives n (entries past)) in
    let waits : has_own_close n (of_journal.life_now n past) past ≡ true =
    close-among n (of_journal.life_now n past) (events past) (zero_history past) (asked_of Side.Sent (zero_history past)) (p + 1)
    (close-of n (said_at (p + 1) (asked_of Side.Sent (zero_history past))) said_is) (not-answered past (entries past) p u b place) named_is in
    both-true (begins_own past head) (has_own_close n (of_journal.life_now n past) past) own waits closing

-- ---- the moment at which the `ok` had nothing to wait for

pub record QuietSince (position n k : ℕ) (forms : List (Option Form)) (past : List Item) : Type 0 where
  pub later : List Item
  pub earlier : List Item
  pub is : past ≡ later ++ earlier
  pub come : has_come position earlier ≡ true
  pub ready : is_ready n k forms earlier ≡ true
  pub same : length (requests Side.Sent (of_journal.life n k past)) ≡ length (requests Side.Sent (of_journal.life n k earlier))

and-one : (a b : Bool) → (a && b) ≡ true → a ≡ true
and-one true b e = refl
and-one false b e = cc

and-two : (a b : Bool) → (a && b) ≡ true → b ≡ true
and-two true b e = e
and-two false b e = cc

not-true : (b : Bool) → not b ≡ true → b ≡ false
not-true true e = cc
not-true false e = refl

passes-by : (t : Bool) (item : Item) (xs : List Item) → requests Side.Sent (item ∷ xs) ≡ requests Side.Sent xs
    → length (requests Side.Sent (if t then item ∷ xs else xs)) ≡ length (requests Side.Sent xs)
passes-by true item xs e = ap length e
passes-by false item xs e = refl

history-of : (n k : ℕ) (head : Head) (past : List Item) → (n == 0) ≡ false → (head.channel == n && of_journal.life_now n past == k) ≡ true
    → history head.channel past ≡ of_journal.life n k past
history-of n k head past z e =
    let c : head.channel ≡ n = number head.channel n (and-one (head.channel == n) (of_journal.life_now n past == k) e) in
    let now : of_journal.life_now n past ≡ k = number (of_journal.life_now n past) k (and-two (head.channel == n) (of_journal.life_now n past == k) e) in
    ap (λ (m : ℕ). history m past) c ∙ rw z (ap (λ (j : ℕ). of_journal.life n j past) now)

own-by : (n k : ℕ) (forms : List (Option Form)) (head : Head) (past : List Item) → (n == 0) ≡ false → begins_asking n k forms head past ≡ false
    → (t : Bool) → (head.channel == n && of_journal.life_now n past == k) ≡ t
    → length (requests Side.Sent (if t then began Side.Sent head ∷ of_journal.life n k past else of_journal.life n k past)) ≡ length (requests Side.Sent (of_journal.life n k past))
own-by n k forms head past z a false e = refl
own-by n k forms head past z a true e =
    let none : begins_request Side.Sent (history head.channel past) head ≡ false = first-false (begins_request Side.Sent (history head.channel past) head) (rw (z, e) at a) in
    let here : begins_request Side.Sent (of_journal.life n k past) head ≡ false = ap (λ (xs : List Item). begins_request Side.Sent xs head) (sym (history-of n k head past z e)) ∙ none in
    rw here refl
  where
    first-false : (b : Bool) → (b && true) ≡ false → b ≡ false
    first-false true e = cc
    first-false false e = refl

asked-same : (n k : ℕ) (forms : List (Option Form)) → (n == 0) ≡ false → (item : Item) (past : List Item) → asks_again n k forms item past ≡ false
    → length (requests Side.Sent (of_journal.life n k (item ∷ past))) ≡ length (requests Side.Sent (of_journal.life n k past))
asked-same n k forms z (began Side.Received head) past a = passes-by (is_of_life n k (began Side.Received head) past) (began Side.Received head) (of_journal.life n k past) refl
asked-same n k forms z (began Side.Sent head) past a = own-by n k forms head past z a (head.channel == n && of_journal.life_now n past == k) refl
asked-same n k forms z (passed by head payload) past a = passes-by (is_of_life n k (passed by head payload) past) (passed by head payload) (of_journal.life n k past) refl
asked-same n k forms z (told by seq) past a = passes-by (is_of_life n k (told by seq) past) (told by seq) (of_journal.life n k past) refl

quiet-by : (position n k : ℕ) (forms : List (Option Form)) (item : Item) (past : List Item) → (n == 0) ≡ false
    → (was_quiet_since position n k forms past ≡ true → QuietSince position n k forms past) → has_come position (item ∷ past) ≡ true
    → (r : Bool) → is_ready n k forms (item ∷ past) ≡ r → (r || (not (asks_again n k forms item past) && was_quiet_since position n k forms past)) ≡ true
    → QuietSince position n k forms (item ∷ past)
quiet-by position n k forms item past z ih come true ready e = record { later = []; earlier = item ∷ past; is = refl; come = come; ready = ready; same = refl }
quiet-by position n k forms item past z ih come false ready e =
    let q = ih (and-two (not (asks_again n k forms item past)) (was_quiet_since position n k forms past) e) in
    record {
      later = item ∷ q.later;
      earlier = q.earlier;
      is = ap (λ (xs : List Item). item ∷ xs) q.is;
      come = q.come;
      ready = q.ready;
      same = asked-same n k forms z item past (not-true (asks_again n k forms item past) (and-one (not (asks_again n k forms item past)) (was_quiet_since position n k forms past) e)) ∙ q.same;
    }

pub quiet_since : (position n k : ℕ) (forms : List (Option Form)) → (n == 0) ≡ false → (past : List Item) → was_quiet_since position n k forms past ≡ true
    → QuietSince position n k forms past
quiet_since position n k forms z [] e = cc
quiet_since position n k forms z (item ∷ past) e =
    quiet-by position n k forms item past z (λ f. quiet_since position n k forms z past f)
    (and-one (has_come position (item ∷ past)) _ e) (is_ready n k forms (item ∷ past)) refl (and-two (has_come position (item ∷ past)) _ e)

-- ---- earlier moments of a journal

pub keeps-earlier : (later earlier : List Item) → KeepsExchangeRules (zero_history (later ++ earlier)) → KeepsExchangeRules (zero_history earlier)
keeps-earlier [] earlier u = u
keeps-earlier (item ∷ later) earlier u = keeps-earlier later earlier (keeps-if (channel_of item == 0) item (zero_history (later ++ earlier)) u)

pub forms-earlier : (later earlier : List Item) → HasForms (later ++ earlier) → HasForms earlier
forms-earlier [] earlier f = f
forms-earlier (began by head ∷ later) earlier f = forms-earlier later earlier f
forms-earlier (passed by head payload ∷ later) earlier f = forms-earlier later earlier f.1
forms-earlier (told by seq ∷ later) earlier f = forms-earlier later earlier f

pub steady-earlier : (later earlier : List Item) → IsSteady (later ++ earlier) → IsSteady earlier
steady-earlier [] earlier s = s
steady-earlier (began by head ∷ later) earlier s = steady-earlier later earlier s
steady-earlier (passed by head payload ∷ later) earlier s = steady-earlier later earlier s.1
steady-earlier (told by seq ∷ later) earlier s = steady-earlier later earlier s

-- ---- the `ok` that goes out

ready-parts : (zero ended drained : Bool) → (zero || ended || drained) ≡ true → zero ≡ false → (ended ≡ true) ⊎ (drained ≡ true)
ready-parts true ended drained e f = cc
ready-parts false true drained e f = inl refl
ready-parts false false drained e f = inr e

pub drained_since : (n r : ℕ) (past : List Item) → (n == 0) ≡ false → KeepsExchangeRules (zero_history past) → HasForms past → IsSteady past
    → IsLawfulLives (entries past) → NeverBrokeAll (entries past) → is_close n (said r (asked Side.Received (entries past))) ≡ true
    → 0 < names n Side.Received r (entries past)
    → was_quiet_since (r + 1) n (landed.life_named n Side.Received (r + 1) (events past)) (asked_of Side.Sent (zero_history past)) past ≡ true
    → (ended n (names n Side.Received r (entries past)) (entries past) ≡ true) ⊎ DrainedSince n (names n Side.Received r (entries past)) r (entries past)
drained_since n r past z u f s ls ws close pos quiet =
    let k : ℕ = names n Side.Received r (entries past) in
    let b = bridged past u f in
    let count : landed.life_named n Side.Received (r + 1) (events past) ≡ k = b.named_is n n Side.Received r close in
    let q = quiet_since (r + 1) n k (asked_of Side.Sent (zero_history past)) z past
    (ap (λ (c : ℕ). was_quiet_since (r + 1) n c (asked_of Side.Sent (zero_history past)) past) (sym count) ∙ quiet) in
    let u' = keeps-earlier q.later q.earlier (subst (λ (xs : List Item). KeepsExchangeRules (zero_history xs)) q.is u) in
    let f' = forms-earlier q.later q.earlier (subst (λ (xs : List Item). HasForms xs) q.is f) in
    let s' = steady-earlier q.later q.earlier (subst (λ (xs : List Item). IsSteady xs) q.is s) in
    let b' = bridged q.earlier u' f' in
    let w = entries-before q.later q.earlier in
    let is : entries past ≡ w.newer ++ entries q.earlier = ap entries q.is ∙ w.is in
    let here = life-same n k z past u f s in
    let there = life-same n k z q.earlier u' f' s' in
    let parts = ready-parts (k == 0) (landed.has_ended n k (events q.earlier)) (is_drained (of_journal.life n k q.earlier)) (rw z at q.ready) (above k pos) in
    by-parts k w.newer q.earlier is (b'.ended_is n k) there (sym (ap (λ (xs : List Item). length (requests Side.Sent xs)) here) ∙ q.same ∙ ap (λ (xs : List Item). length (requests Side.Sent xs)) there)
    (within (length (asked_of Side.Received (zero_history q.earlier))) (length (asked Side.Received (entries q.earlier))) (ltb-true (r + 1) _ q.come) (b'.tells Side.Received).one)
    (unbroken (life n k (entries q.earlier)) (life-lawful n k (entries q.earlier) pos (lives-earlier w.newer (entries q.earlier) (subst (λ (es : List Entry). IsLawfulLives es) is ls)))
    (life-whole n k (entries q.earlier) pos (whole-all-earlier w.newer (entries q.earlier) (subst (λ (es : List Entry). NeverBrokeAll es) is ws)))) parts
  where
    above : (k : ℕ) → 0 < k → (k == 0) ≡ false
    above k h = grind (arith, nat_tests)

    within : (a b : ℕ) → r + 1 < a → a ≡ b + 1 → r < b
    within a b h e = omega (arith, h, e)

    by-parts : (k : ℕ) (newer : List Entry) (earlier : List Item) → entries past ≡ newer ++ entries earlier → landed.has_ended n k (events earlier) ≡ ended n k (entries earlier)
        → of_journal.life n k earlier ≡ life n k (entries earlier)
        → length (requests Side.Sent (life n k (entries past))) ≡ length (requests Side.Sent (life n k (entries earlier))) → r < length (asked Side.Received (entries earlier))
        → KeepsExchangeRules (life n k (entries earlier)) → (landed.has_ended n k (events earlier) ≡ true) ⊎ (is_drained (of_journal.life n k earlier) ≡ true)
        → (ended n k (entries past) ≡ true) ⊎ DrainedSince n k r (entries past)
    by-parts k newer earlier is ended_is there same came keeps (inl e) =
        inl (ap (ended n k) is ∙ ended-later n k newer (entries earlier) (sym ended_is ∙ e))
    by-parts k newer earlier is ended_is there same came keeps (inr e) =
        inr (record {
          later = newer;
          earlier = entries earlier;
          is = is;
          close_came = came;
          drained = drained_of (life n k (entries earlier)) keeps (ap is_drained (sym there) ∙ e);
          none = same;
        })
