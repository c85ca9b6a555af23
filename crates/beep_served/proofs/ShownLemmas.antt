-- What a log shows of an end that serves one profile.
use Rattle.std.proofs.Common.{◌≡◌, ℕ, ◌+◌, ◌<◌, ◌≤◌, ◌^◌, ◌==◌, Bool, true, false, not, ◌&&◌, ◌||◌, if◌then◌else◌, List, [], ◌∷◌, ◌++◌, Option, None, Some, inl, inr, refl, sym, ap, ◌∙◌, subst, arith}
use Rattle.std.specs.Prelude.{is_some, nat_lt}
use Rattle.std.specs.List.{list_any}
use Rattle.std.proofs.lemmas.Bool.Decides.{nat_tests}
use Rattle.beep_frame.specs.declared.head.Head.{Head}
use Rattle.beep_frame.specs.declared.rule.Rule.{Rule}
use Rattle.beep_frame.specs.declared.seq.Seq.{Seq}
use Rattle.beep_history.specs.declared.journal.Side.{Side}
use Rattle.beep_history.specs.declared.limits.TheConstants.{MAX_REQUESTS}
use Rattle.beep_history.specs.Journal.{Item, began, passed, told, same_side}
use Rattle.beep_history.specs.Marks.{position_of}
use Rattle.beep_journal.specs.Broken.{Tuning, none_tunes, broken_head, broken_seq}
use Rattle.beep_journal.specs.Lives.{lives, is_live, has_ended}
use Rattle.beep_journal.specs.Zero.{channel_of, zero_history, asked, events}
use Rattle.beep_journal.specs.Life.{history, is_there, life_now, is_released}
use Rattle.beep_journal.specs.Laws.{completed, contents}
use Rattle.beep_journal.specs.Log.{Moment, got, put, none, over, got_all, put_all}
use Rattle.beep_journal.specs.Journal.{Past, begins, seq_ends, TakesOctet, TakesWhere, Takes, goes_on, Shows}
use Rattle.beep_journal.proofs.ShownLemmas.{one-shown}
use Rattle.beep_lawful.specs.declared.terms.Terms.{Terms}
use Rattle.beep_lawful.specs.Lawful.{IsLawful, IsLawfulLog}
use Rattle.beep_lawful.proofs.LawfulLemmas.{lawful-before}
use Rattle.beep_talk.specs.Plan.{PlainPlan}
use Rattle.beep_talk.specs.Talk.{has_profile}
use Rattle.beep_served.specs.Served.{chooses_other, IsServing, ServedAt, IsServed, side_of, items_got, octets_got}
use Rattle.beep_served.proofs.ProfileLemmas.{serving-then, have-profile}
use Rattle.beep_served.proofs.PositionLemmas.{position-within}

-- ---- what an octet adds

-- a journal has one item more of a side, or none
pub data Adds (side : Side) (old new : List Item) : Type 0 where
  stays : new ≡ old → Adds side old new
  more : (item : Item) → side_of item ≡ side → new ≡ item ∷ old → Adds side old new

begins-adds : (rule : Option Rule) (side : Side) (octet : ℕ) (head : Head) (past : Past) → Adds side past.journal (begins rule side octet head past).journal
begins-adds None side octet head past = more (began side head) refl refl
begins-adds (Some rule) side octet head past = stays refl

ends-adds : (rule : Option Rule) (side : Side) (seq : Seq) (past : Past) → Adds side past.journal (seq_ends rule side seq past).journal
ends-adds None side seq past = more (told side seq) refl refl
ends-adds (Some rule) side seq past = stays refl

octet-adds : (tunes : Tuning) (side : Side) (octet : ℕ) (old new : Past) → TakesOctet tunes side octet old new → Adds side old.journal new.journal
octet-adds tunes side octet old new (inl on) = stays (ap (λ (p : Past). p.journal) on.new_is)
octet-adds tunes side octet old new (inr (inl h)) =
    subst (λ (p : Past). Adds side old.journal p.journal) (sym h.new_is) (begins-adds (broken_head tunes side old.journal h.head) side octet h.head old)
octet-adds tunes side octet old new (inr (inr (inl f))) =
    more (passed side f.head f.payload) refl (ap (λ (p : Past). p.journal) f.new_is)
octet-adds tunes side octet old new (inr (inr (inr (inl s)))) =
    subst (λ (p : Past). Adds side old.journal p.journal) (sym s.new_is) (ends-adds (broken_seq side old.journal s.seq) side s.seq old)
octet-adds tunes side octet old new (inr (inr (inr (inr d)))) = stays (ap (λ (p : Past). p.journal) d.new_is)

where-adds : (b : Bool) (tunes : Tuning) (side : Side) (octet : ℕ) (old new : Past) → TakesWhere b tunes side octet old new → Adds side old.journal new.journal
where-adds true tunes side octet old new takes = octet-adds tunes side octet old new takes
where-adds false tunes side octet old new takes = stays (ap (λ (p : Past). p.journal) takes)

got-adds : (tunes : Tuning) (octet : ℕ) (old new : Past) → Takes tunes (got octet) old new → Adds Side.Received old.journal new.journal
got-adds tunes octet old new takes = where-adds (goes_on old && not (is_released old.journal)) tunes Side.Received octet old new takes

put-adds : (tunes : Tuning) (octet : ℕ) (old new : Past) → Takes tunes (put octet) old new → Adds Side.Sent old.journal new.journal
put-adds tunes octet old new takes = where-adds (goes_on old) tunes Side.Sent octet old new takes

-- ---- how much came

got-items : (old new : List Item) → Adds Side.Received old new → items_got new ≤ items_got old + 1
got-items old new (stays is) = subst (λ (j : List Item). items_got j ≤ items_got old + 1) (sym is) (omega arith)
got-items old new (more item side is) =
    subst (λ (j : List Item). items_got j ≤ items_got old + 1) (sym is) (of (same_side (side_of item) Side.Received))
  where
    of : (b : Bool) → (if b then items_got old + 1 else items_got old) ≤ items_got old + 1
    of true = omega arith
    of false = omega arith

put-items : (old new : List Item) → Adds Side.Sent old new → items_got new ≡ items_got old
put-items old new (stays is) = ap items_got is
put-items old new (more item side is) =
    ap items_got is ∙ ap (λ (s : Side). if same_side s Side.Received then items_got old + 1 else items_got old) side

pub items-shown : (tunes : Tuning) (log : List Moment) (past : Past) → Shows tunes log past → items_got past.journal ≤ octets_got log
items-shown tunes [] past shows = subst (λ (p : Past). items_got p.journal ≤ 0) (sym shows) (omega arith)
items-shown tunes (got octet ∷ log) past shows =
    let before = items-shown tunes log shows.0 shows.1 in
    let one = got-items shows.0.journal past.journal (got-adds tunes octet shows.0 past shows.2) in
    omega (arith, before, one)
items-shown tunes (put octet ∷ log) past shows =
    let before = items-shown tunes log shows.0 shows.1 in
    let same = put-items shows.0.journal past.journal (put-adds tunes octet shows.0 past shows.2) in
    omega (arith, before, same)
items-shown tunes (none ∷ log) past shows =
    subst (λ (p : Past). items_got p.journal ≤ octets_got log) (sym shows.2) (items-shown tunes log shows.0 shows.1)
items-shown tunes (over ∷ log) past shows =
    subst (λ (p : Past). items_got p.journal ≤ octets_got log) (sym shows.2) (items-shown tunes log shows.0 shows.1)

-- ---- an end serves on

-- what comes is no message of this end
received-asked : (item : Item) (zero : List Item) → side_of item ≡ Side.Received → asked Side.Sent (item ∷ zero) ≡ asked Side.Sent zero
received-asked (began by head) zero side = refl
received-asked (told by seq) zero side = refl
received-asked (passed Side.Received head payload) zero side = refl
received-asked (passed Side.Sent head payload) zero side = absurd (let g : Side.Sent ≡ Side.Received = side in cc)

received-completes : (item : Item) (zero : List Item) → side_of item ≡ Side.Received → completed Side.Sent item zero ≡ []
received-completes (began by head) zero side = refl
received-completes (told by seq) zero side = refl
received-completes (passed Side.Received head payload) zero side = refl
received-completes (passed Side.Sent head payload) zero side = absurd (let g : Side.Sent ≡ Side.Received = side in cc)

pub serving-item : (uri : List ℕ) (item : Item) (journal : List Item) → side_of item ≡ Side.Received → IsServing uri journal → IsServing uri (item ∷ journal)
serving-item uri item journal side s = record {
  no_request = asks (channel_of item == 0);
  no_other = says (channel_of item == 0);
}
  where
    asks : (b : Bool) → list_any is_some (asked Side.Sent (if b then item ∷ zero_history journal else zero_history journal)) ≡ false
    asks true = ap (list_any is_some) (received-asked item (zero_history journal) side) ∙ s.no_request
    asks false = s.no_request

    nothing : (xs : List (List ℕ)) → xs ++ [] ≡ xs
    nothing [] = refl
    nothing (x ∷ xs) = ap (λ rest. x ∷ rest) (nothing xs)

    says : (b : Bool) → list_any (chooses_other uri) (if b then contents Side.Sent journal ++ completed Side.Sent item (zero_history journal) else contents Side.Sent journal) ≡ false
    says true =
        ap (λ (xs : List (List ℕ)). list_any (chooses_other uri) (contents Side.Sent journal ++ xs)) (received-completes item (zero_history journal) side)
        ∙ ap (list_any (chooses_other uri)) (nothing (contents Side.Sent journal)) ∙ s.no_other
    says false = s.no_other

adds-serving : (uri : List ℕ) (old new : List Item) → Adds Side.Received old new → IsServing uri old → IsServing uri new
adds-serving uri old new (stays is) s = subst (IsServing uri) (sym is) s
adds-serving uri old new (more item side is) s = subst (IsServing uri) (sym is) (serving-item uri item old side s)

less-serving : (uri : List ℕ) (side : Side) (old new : List Item) → Adds side old new → IsServing uri new → IsServing uri old
less-serving uri side old new (stays is) s = subst (IsServing uri) is s
less-serving uri side old new (more item of is) s = serving-then uri (item ∷ []) old (subst (IsServing uri) is s)

-- what comes takes nothing from it
pub serves-on : (uri : List ℕ) (octets : List ℕ) (log : List Moment) (before after : Past) → Shows none_tunes log before → Shows none_tunes (got_all octets log) after
    → IsServing uri before.journal → IsServing uri after.journal
serves-on uri [] log before after one other s = subst (λ (p : Past). IsServing uri p.journal) (one-shown none_tunes log before after one other) s
serves-on uri (octet ∷ octets) log before after one other s =
    let mid = middle octets (got octet ∷ log) after other in
    let first : before ≡ mid.1.0 = one-shown none_tunes log before mid.1.0 one mid.1.1 in
    serves-on uri octets (got octet ∷ log) mid.0 after mid.1 other
    (adds-serving uri mid.1.0.journal mid.0.journal (got-adds none_tunes octet mid.1.0 mid.0 mid.1.2) (subst (λ (p : Past). IsServing uri p.journal) first s))
  where
    -- what was shown before the octets
    middle : (octets : List ℕ) (log : List Moment) (after : Past) → Shows none_tunes (got_all octets log) after → (mid : Past) × Shows none_tunes log mid
    middle [] log after shows = (after, shows)
    middle (octet ∷ octets) log after shows = let next = middle octets (got octet ∷ log) after shows in (next.1.0, next.1.1)

-- what isn't written yet adds to it
pub served-before : (uri : List ℕ) (octets : List ℕ) (log : List Moment) (before after : Past) → Shows none_tunes log before → Shows none_tunes (put_all octets log) after
    → IsServing uri after.journal → IsServing uri before.journal
served-before uri octets log before after one other s =
    let mid = back octets log after other s in
    subst (λ (p : Past). IsServing uri p.journal) (one-shown none_tunes log mid.0 before mid.1.0 one) mid.1.1
  where
    back : (octets : List ℕ) (log : List Moment) (after : Past) → Shows none_tunes (put_all octets log) after → IsServing uri after.journal
        → (mid : Past) × (Shows none_tunes log mid × IsServing uri mid.journal)
    back [] log after shows s = (after, (shows, s))
    back (octet ∷ octets) log after shows s =
        let next = back octets (put octet ∷ log) after shows s in
        (next.1.0.0, (next.1.0.1, less-serving uri Side.Sent next.1.0.0.journal next.0.journal (put-adds none_tunes octet next.1.0.0 next.0 next.1.0.2) next.1.1))

-- ---- all that comes is served

served-frame : (plan : PlainPlan) (terms : Terms) (head : Head) (journal : List Item) → IsLawful terms none_tunes journal → IsServing plan.raw_uri journal → items_got journal < 2 ^ 32
    → (head.channel == 0) ≡ false → is_there head.channel journal ≡ true
    → (has_profile plan.raw_uri head.channel (life_now head.channel journal) journal ≡ true) × (position_of Side.Received (history head.channel journal) head < 2 ^ 64)
served-frame plan terms head journal lawful s few above there = (
  have-profile plan.raw_uri journal s head.channel (life_now head.channel journal) (some-now live) (within live),
  (let most = position-within terms none_tunes head.channel head journal above lawful in omega (arith, few, most)),
)
  where
    live : is_live head.channel (events journal) ≡ true
    live = sym (ap (λ (b : Bool). b || is_live head.channel (events journal)) above) ∙ there

    some : (m : ℕ) (b : Bool) → (nat_lt 0 m && b) ≡ true → 0 < m
    some m true e = grind (arith, nat_tests)
    some m false e = absurd (no (nat_lt 0 m) e)
      where
        no : (b : Bool) → (b && false) ≡ true → ⊥
        no true e = cc
        no false e = cc

    now-is : is_live head.channel (events journal) ≡ true → life_now head.channel journal ≡ lives head.channel (events journal)
    now-is is = ap (λ (b : Bool). if b then lives head.channel (events journal) else 0) is

    some-now : is_live head.channel (events journal) ≡ true → 0 < life_now head.channel journal
    some-now is =
        let e = now-is is in
        let less = some (lives head.channel (events journal)) (not (has_ended head.channel (lives head.channel (events journal)) (events journal))) is in
        omega (arith, e, less)

    within : is_live head.channel (events journal) ≡ true → life_now head.channel journal ≤ lives head.channel (events journal)
    within is = let e = now-is is in omega (arith, e)

served-item : (plan : PlainPlan) (terms : Terms) (item : Item) (journal : List Item) → IsLawful terms none_tunes journal → IsServing plan.raw_uri journal → items_got journal < 2 ^ 32
    → ServedAt plan item journal
served-item plan terms (began by head) journal lawful s few = tt
served-item plan terms (passed Side.Received head payload) journal lawful s few = served-frame plan terms head journal lawful s few
served-item plan terms (passed Side.Sent head payload) journal lawful s few = tt
served-item plan terms (told by seq) journal lawful s few = tt

items-before : (item : Item) (journal : List Item) → items_got (item ∷ journal) < 2 ^ 32 → items_got journal < 2 ^ 32
items-before item journal few = of (same_side (side_of item) Side.Received) few
  where
    of : (b : Bool) → (if b then items_got journal + 1 else items_got journal) < 2 ^ 32 → items_got journal < 2 ^ 32
    of true e = omega (arith, e)
    of false e = e

pub all-served : (plan : PlainPlan) (terms : Terms) (journal : List Item) → IsLawful terms none_tunes journal → IsServing plan.raw_uri journal → items_got journal < 2 ^ 32
    → IsServed plan journal
all-served plan terms [] lawful s few = tt
all-served plan terms (item ∷ journal) lawful s few =
    let lawful_then = lawful-before terms none_tunes (item ∷ []) journal lawful in
    let serving = serving-then plan.raw_uri (item ∷ []) journal s in
    let less = items-before item journal few in
    (served-item plan terms item journal lawful_then serving less, all-served plan terms journal lawful_then serving less)

-- ---- what a log shows

pub shown-served : (plan : PlainPlan) (terms : Terms) (log : List Moment) (past : Past) → IsLawfulLog terms none_tunes log → Shows none_tunes log past → IsServing plan.raw_uri past.journal
    → octets_got log < 2 ^ 32 → IsServed plan past.journal
shown-served plan terms log past lawful shows s few =
    let most = items-shown none_tunes log past shows in
    all-served plan terms past.journal (lawful.items past shows) s (omega (arith, few, most))

pub shown-position : (terms : Terms) (log : List Moment) (past : Past) (number : ℕ) (head : Head) → IsLawfulLog terms none_tunes log → Shows none_tunes log past → (number == 0) ≡ false
    → position_of Side.Received (history number past.journal) head ≤ octets_got log + MAX_REQUESTS
shown-position terms log past number head lawful shows above =
    let most = items-shown none_tunes log past shows in
    let bound = position-within terms none_tunes number head past.journal above (lawful.items past shows) in
    omega (arith, most, bound)
