-- Where no rule was broken, a request is whole where more requests of its side have ended.
use Rattle.std.proofs.Common.{◌≡◌, ℕ, zero, suc, ◌+◌, ◌<◌, ◌==◌, nat_lt, Bool, true, false, not, ◌&&◌, ◌||◌, if◌then◌else◌, List, [], ◌∷◌, length, Option, Some, None, refl, sym, ap, ◌∙◌, arith}
use Rattle.std.specs.Option.{option_map_or}
use Rattle.std.proofs.lemmas.Bool.{le-ltb, ltb-true}
use Rattle.std.proofs.lemmas.Bool.Decides.{nat_tests}
use Rattle.beep_frame.specs.declared.head.Head.{Head}
use Rattle.beep_history.specs.declared.journal.Side.{Side}
use Rattle.beep_frame.specs.Frame.{is_msg, is_reply}
use Rattle.beep_history.specs.Journal.{Item, began, passed, told, other}
use Rattle.beep_history.specs.Marks.{frames, previous, goes_on, begins_request, requests, is_whole}
use Rattle.beep_history.specs.Broken.{under_way, KeepsExchangeRules}
use Rattle.beep_history.proofs.StepsLemmas.{under_way-began-mine, requests-began-mine, frames-passed-mine, whole-passed-mine}
use Rattle.beep_history.proofs.PassedLemmas.{sound}
use Rattle.beep_history.specs.Moments.{replies_ended}
use Rattle.beep_two_journals.proofs.PlaceLemmas.{in_place}

-- the requests that these frames end
abbrev pub requests_ended : List Head → ℕ
requests_ended [] = 0
requests_ended (head ∷ before) = if is_msg head.kind && not head.more then requests_ended before + 1 else requests_ended before

-- a frame of a request, under way or passed last, has its request
pub record HasRequest (side : Side) (past : List Item) : Type 0 where
  pub going : (head : Head) → under_way side past ≡ Some head → is_msg head.kind ≡ true → 0 < length (requests side past)
  pub last : (head : Head) → previous side past ≡ Some head → is_msg head.kind ≡ true → 0 < length (requests side past)

some-head : (a b : Head) (o : Option Head) → o ≡ Some a → o ≡ Some b → a ≡ b
some-head a b o e f = let g : Some a ≡ Some b = sym e ∙ f in cc

began-has : (side : Side) (past : List Item) (head : Head) → HasRequest side past → (b : Bool) → begins_request side past head ≡ b → is_msg head.kind ≡ true
    → 0 < length (requests side (began side head ∷ past))
began-has side past head h true e m = rw (requests-began-mine head past side, e) (omega arith)
began-has side past head h false e m = rw (requests-began-mine head past side, e) (goes-on (previous side past) refl (rw m at e))
  where
    and-first : (a b : Bool) → (a && b) ≡ true → a ≡ true
    and-first true b e = refl
    and-first false b e = e

    not-not : (a : Bool) → not a ≡ false → a ≡ true
    not-not true e = refl
    not-not false e = cc

    goes-on : (o : Option Head) → previous side past ≡ o → not (option_map_or (λ (before : Head). is_msg before.kind && goes_on head before) o false) ≡ false
        → 0 < length (requests side past)
    goes-on None p f = cc
    goes-on (Some before) p f = h.last before p (and-first _ _ (not-not _ f))

has-began-mine : (side : Side) (past : List Item) (head : Head) → previous side (began side head ∷ past) ≡ previous side past → HasRequest side past → HasRequest side (began side head ∷ past)
has-began-mine side past head p h = record {
  going = λ g e m.
      let same = some-head head g _ (under_way-began-mine head past side) e in
      began-has side past head h _ refl (ap (λ (x : Head). is_msg x.kind) same ∙ m);
  last = λ g e m. grown (h.last g (sym p ∙ e) m);
}
  where
    grown-by : (b : Bool) → begins_request side past head ≡ b → 0 < length (requests side past) → 0 < length (requests side (began side head ∷ past))
    grown-by true e f = rw (requests-began-mine head past side, e) (omega arith)
    grown-by false e f = rw (requests-began-mine head past side, e) f

    grown : 0 < length (requests side past) → 0 < length (requests side (began side head ∷ past))
    grown f = grown-by _ refl f

pub has_request : (side : Side) (past : List Item) → KeepsExchangeRules past → HasRequest side past
has_request side [] u = record { going = λ g e m. cc; last = λ g e m. cc }
has_request Side.Received (began Side.Received head ∷ past) u = has-began-mine Side.Received past head refl (has_request Side.Received past u.2)
has_request Side.Sent (began Side.Sent head ∷ past) u = has-began-mine Side.Sent past head refl (has_request Side.Sent past u.2)
has_request Side.Received (began Side.Sent head ∷ past) u = let h = has_request Side.Received past u.2 in record { going = h.going; last = h.last }
has_request Side.Sent (began Side.Received head ∷ past) u = let h = has_request Side.Sent past u.2 in record { going = h.going; last = h.last }
has_request Side.Received (passed Side.Received head payload ∷ past) u =
    let h = has_request Side.Received past u.2 in
    record { going = λ g e m. cc; last = λ g e m. let same : head ≡ g = cc in h.going head u.0 (ap (λ (x : Head). is_msg x.kind) same ∙ m) }
has_request Side.Sent (passed Side.Sent head payload ∷ past) u =
    let h = has_request Side.Sent past u.2 in
    record { going = λ g e m. cc; last = λ g e m. let same : head ≡ g = cc in h.going head u.0 (ap (λ (x : Head). is_msg x.kind) same ∙ m) }
has_request Side.Received (passed Side.Sent head payload ∷ past) u = let h = has_request Side.Received past u.2 in record { going = h.going; last = h.last }
has_request Side.Sent (passed Side.Received head payload ∷ past) u = let h = has_request Side.Sent past u.2 in record { going = h.going; last = h.last }
has_request side (told by seq ∷ past) u = let h = has_request side past u in record { going = h.going; last = h.last }

one-less : (w n : ℕ) → 0 < n → ((p : ℕ) → nat_lt p w ≡ nat_lt (p + 1) n) → n ≡ w + 1
one-less w (suc n) h same =
    let a : nat_lt w w ≡ nat_lt (w + 1) (suc n) = same w in
    let b : nat_lt n w ≡ nat_lt (n + 1) (suc n) = same n in
    grind (arith, nat_tests)
one-less w zero h same = absurd (omega arith)

ended-step : (p w n : ℕ) (m more whole : Bool) → (m ≡ true → n ≡ w + 1) → whole ≡ nat_lt p w
    → ((m && not more && n == p + 1) || whole) ≡ nat_lt p (if m && not more then w + 1 else w)
ended-step p w n true true whole at e = e
ended-step p w n true false whole at e = let f = at refl in rw (e, f) (grind (arith, nat_tests))
ended-step p w n false more whole at e = e

ended-mine : (side : Side) (past : List Item) (head : Head) (payload : List ℕ) (p : ℕ) → KeepsExchangeRules past → under_way side past ≡ Some head
    → ((q : ℕ) → is_whole side q past ≡ nat_lt q (requests_ended (frames side past)))
    → is_whole side p (passed side head payload ∷ past) ≡ nat_lt p (requests_ended (frames side (passed side head payload ∷ past)))
ended-mine side past head payload p u under before =
    rw (whole-passed-mine head payload past side p, frames-passed-mine head payload past side)
    (ended-step p (requests_ended (frames side past)) (length (requests side past)) (is_msg head.kind) head.more (is_whole side p past) place (before p))
  where
    place : is_msg head.kind ≡ true → length (requests side past) ≡ requests_ended (frames side past) + 1
    place m =
        let s = sound side past u in
        one-less (requests_ended (frames side past)) (length (requests side past)) ((has_request side past u).going head under m)
        (λ q. sym (before q) ∙ rw (under, m) at (s.whole q))

pub whole_ended : (side : Side) (past : List Item) (p : ℕ) → KeepsExchangeRules past → is_whole side p past ≡ nat_lt p (requests_ended (frames side past))
whole_ended side [] p u = sym (le-ltb _ _ (omega arith))
whole_ended side (began by head ∷ past) p u = whole_ended side past p u.2
whole_ended side (told by seq ∷ past) p u = whole_ended side past p u
whole_ended Side.Received (passed Side.Received head payload ∷ past) p u = ended-mine Side.Received past head payload p u.2 u.0 (λ q. whole_ended Side.Received past q u.2)
whole_ended Side.Sent (passed Side.Sent head payload ∷ past) p u = ended-mine Side.Sent past head payload p u.2 u.0 (λ q. whole_ended Side.Sent past q u.2)
whole_ended Side.Received (passed Side.Sent head payload ∷ past) p u = whole_ended Side.Received past p u.2
whole_ended Side.Sent (passed Side.Received head payload ∷ past) p u = whole_ended Side.Sent past p u.2

-- a reply that is under way has a whole request before it
pub reply_after : (asker : Side) (past : List Item) (head : Head) → KeepsExchangeRules past → under_way (other asker) past ≡ Some head → is_reply head.kind ≡ true
    → replies_ended (frames (other asker) past) < requests_ended (frames asker past)
reply_after asker past head u under r =
    let i = in_place asker past head u under r in
    ltb-true _ _ (sym (whole_ended asker past (replies_ended (frames (other asker) past)) u) ∙ i.whole)
