-- An end that has sent nothing: what it sends first is its greeting.
use Rattle.std.proofs.Common.{◌≡◌, ℕ, ◌<◌, ◌==◌, nat_lt, Bool, true, false, ◌&&◌, if◌then◌else◌, List, [], ◌∷◌, length, None, Some, refl, sym, ap, ◌∙◌, arith, subst}
use Rattle.std.specs.List.{list_any, find}
use Rattle.std.proofs.lemmas.Bool.Decides.{nat_tests}
use Rattle.beep_management.specs.beep_text.specs.Said.{element_said}
use Rattle.beep_management.specs.beep_frame.specs.declared.head.Head.{Head}
use Rattle.beep_management.specs.beep_frame.specs.declared.kind.Kind.{Kind}
use Rattle.beep_management.specs.beep_frame.specs.Frame.{is_reply, same_kind}
use Rattle.beep_management.specs.beep_mgmt.specs.Message.{message_said}
use Rattle.beep_management.specs.beep_history.specs.declared.journal.Side.{Side}
use Rattle.beep_management.specs.beep_history.specs.Journal.{Item, began, passed, told, same_side}
use Rattle.beep_management.specs.beep_history.specs.Marks.{Request, ends_reply, previous, begins_request, requests, reply}
use Rattle.beep_management.specs.beep_history.specs.Broken.{KeepsExchangeRules}
use Rattle.beep_management.specs.beep_history.proofs.SoundLemmas.{IsDue, Sound}
use Rattle.beep_management.specs.beep_history.proofs.PassedLemmas.{sound}
use Rattle.beep_management.specs.beep_journal.specs.Zero.{zero_history, asked}
use Rattle.beep_management.specs.beep_journal.specs.Broken.{is_greeting}
use Rattle.beep_upright.proofs.ClosingLemmas.{zero-requests-grow}

-- ---- requests of channel zero

some-request : (journal : List Item) → 0 < length (requests Side.Received (zero_history journal))
some-request [] = omega arith
some-request (item ∷ journal) = omega (arith, some-request journal, zero-requests-grow Side.Received item journal)

-- the one at position 0 is the implied one, whose number is 0
abbrev IsImplied : (Request → Bool) → List Request → Type 0
IsImplied test rs = (r : Request) → find test rs ≡ Some r → r.position ≡ 0 → r.number ≡ 0

implied-on : (test : Request → Bool) (rs : List Request) (number : ℕ) → 0 < length rs → IsImplied test rs
    → IsImplied test (record { position = length rs; number = number } ∷ rs)
implied-on test rs number some all r = of (test (record { position = length rs; number = number }))
  where
    of : (b : Bool) → (if b then Some (record { position = length rs; number = number }) else find test rs) ≡ Some r → r.position ≡ 0 → r.number ≡ 0
    of true e at = let same : record { position = length rs; number = number } ≡ r = cc in absurd (omega (arith, some, at, ap (λ (x : Request). x.position) same))
    of false e at = all r e at

abbrev implied-one : Request
implied-one = record { position = 0; number = 0 }

implied-first : (test : Request → Bool) → IsImplied test (implied-one ∷ [])
implied-first test r e at = of (test implied-one) e
  where
    of : (b : Bool) → (if b then Some implied-one else None) ≡ Some r → r.number ≡ 0
    of true e = let same : implied-one ≡ r = cc in sym (ap (λ (x : Request). x.number) same)
    of false e = cc

first-implied : (test : Request → Bool) (journal : List Item) → IsImplied test (requests Side.Received (zero_history journal))
first-implied test [] = implied-first test
first-implied test (passed by head payload ∷ journal) = of (head.channel == 0) (first-implied test journal)
  where
    of : (b : Bool) → IsImplied test (requests Side.Received (zero_history journal))
        → IsImplied test (requests Side.Received (if b then passed by head payload ∷ zero_history journal else zero_history journal))
    of true all = all
    of false all = all
first-implied test (told by seq ∷ journal) = of (seq.channel == 0) (first-implied test journal)
  where
    of : (b : Bool) → IsImplied test (requests Side.Received (zero_history journal))
        → IsImplied test (requests Side.Received (if b then told by seq ∷ zero_history journal else zero_history journal))
    of true all = all
    of false all = all
first-implied test (began by head ∷ journal) = of (head.channel == 0) (first-implied test journal)
  where
    more : (b : Bool) → IsImplied test (requests Side.Received (zero_history journal))
        → IsImplied test (if b then record { position = length (requests Side.Received (zero_history journal)); number = head.msgno } ∷ requests Side.Received (zero_history journal)
        else requests Side.Received (zero_history journal))
    more true all = implied-on test (requests Side.Received (zero_history journal)) head.msgno (some-request journal) all
    more false all = all

    of : (b : Bool) → IsImplied test (requests Side.Received (zero_history journal))
        → IsImplied test (requests Side.Received (if b then began by head ∷ zero_history journal else zero_history journal))
    of true all = more (same_side by Side.Received && begins_request Side.Received (zero_history journal) head) all
    of false all = all

found-true : (test : Request → Bool) (rs : List Request) (r : Request) → find test rs ≡ Some r → test r ≡ true
found-true test [] r e = cc
found-true test (one ∷ rs) r e = of (test one) refl e (found-true test rs r)
  where
    of : (b : Bool) → test one ≡ b → (if b then Some one else find test rs) ≡ Some r → (find test rs ≡ Some r → test r ≡ true) → test r ≡ true
    of true is e later = let same : one ≡ r = cc in subst (λ (x : Request). test x ≡ true) same is
    of false is e later = later e

-- ---- nothing was sent

pub says-nothing : message_said [] ≡ None
unfolding message_said element_said
says-nothing = refl

pub asked-none : (journal : List Item) → previous Side.Sent journal ≡ None → asked Side.Sent (zero_history journal) ≡ message_said [] ∷ []
asked-none [] none = refl
asked-none (began by head ∷ journal) none = of (head.channel == 0) (asked-none journal none)
  where
    of : (b : Bool) → asked Side.Sent (zero_history journal) ≡ message_said [] ∷ []
        → asked Side.Sent (if b then began by head ∷ zero_history journal else zero_history journal) ≡ message_said [] ∷ []
    of true e = e
    of false e = e
asked-none (told by seq ∷ journal) none = of (seq.channel == 0) (asked-none journal none)
  where
    of : (b : Bool) → asked Side.Sent (zero_history journal) ≡ message_said [] ∷ []
        → asked Side.Sent (if b then told by seq ∷ zero_history journal else zero_history journal) ≡ message_said [] ∷ []
    of true e = e
    of false e = e
asked-none (passed Side.Sent head payload ∷ journal) none = cc
asked-none (passed Side.Received head payload ∷ journal) none = of (head.channel == 0) (asked-none journal none)
  where
    of : (b : Bool) → asked Side.Sent (zero_history journal) ≡ message_said [] ∷ []
        → asked Side.Sent (if b then passed Side.Received head payload ∷ zero_history journal else zero_history journal) ≡ message_said [] ∷ []
    of true e = e
    of false e = e

pub reply-none : (p : ℕ) (journal : List Item) → previous Side.Sent journal ≡ None → reply Side.Received p (zero_history journal) ≡ []
reply-none p [] none = refl
reply-none p (began by head ∷ journal) none = of (head.channel == 0) (reply-none p journal none)
  where
    of : (b : Bool) → reply Side.Received p (zero_history journal) ≡ []
        → reply Side.Received p (if b then began by head ∷ zero_history journal else zero_history journal) ≡ []
    of true e = e
    of false e = e
reply-none p (told by seq ∷ journal) none = of (seq.channel == 0) (reply-none p journal none)
  where
    of : (b : Bool) → reply Side.Received p (zero_history journal) ≡ []
        → reply Side.Received p (if b then told by seq ∷ zero_history journal else zero_history journal) ≡ []
    of true e = e
    of false e = e
reply-none p (passed Side.Sent head payload ∷ journal) none = cc
reply-none p (passed Side.Received head payload ∷ journal) none = of (head.channel == 0) (reply-none p journal none)
  where
    of : (b : Bool) → reply Side.Received p (zero_history journal) ≡ []
        → reply Side.Received p (if b then passed Side.Received head payload ∷ zero_history journal else zero_history journal) ≡ []
    of true e = e
    of false e = e

-- ---- the first reply is the greeting

pub first-greets : (journal : List Item) (head : Head) → previous Side.Sent journal ≡ None → (head.channel == 0) ≡ true → same_kind Kind.Rpy head.kind ≡ true
    → is_reply head.kind ≡ true → KeepsExchangeRules (began Side.Sent head ∷ zero_history journal) → is_greeting head ≡ true
first-greets journal head none zero rpy replies keeps = rw (rpy, zero, number-zero) refl
  where
    past : List Item
    past = began Side.Sent head ∷ zero_history journal

    s : Sound Side.Received (began Side.Sent head ∷ zero_history journal)
    s = sound Side.Received (began Side.Sent head ∷ zero_history journal) keeps

    d : IsDue Side.Received s.oldest (began Side.Sent head ∷ zero_history journal) head
    d = s.due head refl replies

    oldest : s.oldest ≡ 0
    oldest = least s.oldest (sym (s.answered 0) ∙ ap (list_any ends_reply) (reply-none 0 journal none))
      where
        least : (n : ℕ) → nat_lt 0 n ≡ false → n ≡ 0
        least n e = grind (arith, nat_tests)

    number : d.request.number ≡ 0
    number = first-implied (λ r. r.number == head.msgno) journal d.request d.found (d.at ∙ oldest)

    number-zero : (head.msgno == 0) ≡ true
    number-zero = turned d.request.number head.msgno (found-true (λ r. r.number == head.msgno) (requests Side.Received (zero_history journal)) d.request d.found) number
      where
        turned : (a b : ℕ) → (a == b) ≡ true → a ≡ 0 → (b == 0) ≡ true
        turned a b e z = grind (arith, nat_tests)
