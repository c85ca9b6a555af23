-- The moment at which an item was sent, and what goes on from an earlier moment to a later one.
use Rattle.std.proofs.Common.{◌≡◌, ◌+◌, ◌≤◌, max, true, List, [], ◌∷◌, ◌++◌, refl, sym, ap, ◌∙◌, arith, subst}
use Rattle.beep_history.specs.declared.journal.Side.{Side}
use Rattle.beep_history.specs.Journal.{Item, began, passed, told, turned}
use Rattle.beep_history.specs.Marks.{frames, passed_octets, octets_of}
use Rattle.beep_history.specs.Windows.{greatest_edge}
use Rattle.beep_two_ends.specs.Seen.{arrived, sent, is_received}
use Rattle.beep_two_ends.specs.OneLife.{IsLawful, NeverBroke}

-- an item was sent at a moment of this history, when these had been sent
pub record SentAt (past : List Item) (item : Item) (before : List Item) : Type 0 where
  pub later : List Item
  pub earlier : List Item
  pub is : past ≡ later ++ turned item ∷ earlier
  pub at : sent earlier ≡ before
  pub comes : is_received item ≡ true

more-later : (x : Item) (past : List Item) (item : Item) (before : List Item) → SentAt past item before → SentAt (x ∷ past) item before
more-later x past item before s =
    record { later = x ∷ s.later; earlier = s.earlier; is = ap (λ (xs : List Item). x ∷ xs) s.is; at = s.at; comes = s.comes }

sent-here : (x : Item) (past : List Item) (item : Item) (newer before : List Item) → is_received (turned x) ≡ true → turned (turned x) ≡ x
    → ((ns : List Item) → sent past ≡ ns ++ item ∷ before → SentAt past item before)
    → turned x ∷ sent past ≡ newer ++ item ∷ before → SentAt (x ∷ past) item before
sent-here x past item [] before r t later e =
    let same : turned x ≡ item = cc in
    let rest : sent past ≡ before = cc in
    record {
      later = [];
      earlier = past;
      is = ap (λ (y : Item). y ∷ past) (sym t ∙ ap turned same);
      at = rest;
      comes = subst (λ (y : Item). is_received y ≡ true) same r;
    }
sent-here x past item (n ∷ newer) before r t later e =
    let rest : sent past ≡ newer ++ item ∷ before = cc in
    more-later x past item before (later newer rest)

pub sent_at : (past : List Item) (item : Item) (newer before : List Item) → sent past ≡ newer ++ item ∷ before → SentAt past item before
sent_at [] item [] before e = cc
sent_at [] item (n ∷ newer) before e = cc
sent_at (began Side.Received head ∷ past) item newer before e = more-later _ past item before (sent_at past item newer before e)
sent_at (passed Side.Received head payload ∷ past) item newer before e = more-later _ past item before (sent_at past item newer before e)
sent_at (told Side.Received seq ∷ past) item newer before e = more-later _ past item before (sent_at past item newer before e)
sent_at (began Side.Sent head ∷ past) item newer before e =
    sent-here (began Side.Sent head) past item newer before refl refl (λ ns f. sent_at past item ns before f) e
sent_at (passed Side.Sent head payload ∷ past) item newer before e =
    sent-here (passed Side.Sent head payload) past item newer before refl refl (λ ns f. sent_at past item ns before f) e
sent_at (told Side.Sent seq ∷ past) item newer before e =
    sent-here (told Side.Sent seq) past item newer before refl refl (λ ns f. sent_at past item ns before f) e

-- a moment at which just these had been sent
pub record When (past before : List Item) : Type 0 where
  pub later : List Item
  pub earlier : List Item
  pub is : past ≡ later ++ earlier
  pub at : sent earlier ≡ before

pub when : (past newer before : List Item) → sent past ≡ newer ++ before → When past before
when past [] before e = record { later = []; earlier = past; is = refl; at = e }
when [] (n ∷ newer) before e = cc
when (began Side.Received head ∷ past) (n ∷ newer) before e = when-more (began Side.Received head) past before (when past (n ∷ newer) before e)
  where
    when-more : (x : Item) (past before : List Item) → When past before → When (x ∷ past) before
    when-more x past before w = record { later = x ∷ w.later; earlier = w.earlier; is = ap (λ (xs : List Item). x ∷ xs) w.is; at = w.at }
when (passed Side.Received head payload ∷ past) (n ∷ newer) before e =
    let w = when past (n ∷ newer) before e in
    record { later = passed Side.Received head payload ∷ w.later; earlier = w.earlier; is = ap (λ (xs : List Item). passed Side.Received head payload ∷ xs) w.is; at = w.at }
when (told Side.Received seq ∷ past) (n ∷ newer) before e =
    let w = when past (n ∷ newer) before e in
    record { later = told Side.Received seq ∷ w.later; earlier = w.earlier; is = ap (λ (xs : List Item). told Side.Received seq ∷ xs) w.is; at = w.at }
when (began Side.Sent head ∷ past) (n ∷ newer) before e =
    let rest : sent past ≡ newer ++ before = cc in
    let w = when past newer before rest in
    record { later = began Side.Sent head ∷ w.later; earlier = w.earlier; is = ap (λ (xs : List Item). began Side.Sent head ∷ xs) w.is; at = w.at }
when (passed Side.Sent head payload ∷ past) (n ∷ newer) before e =
    let rest : sent past ≡ newer ++ before = cc in
    let w = when past newer before rest in
    record { later = passed Side.Sent head payload ∷ w.later; earlier = w.earlier; is = ap (λ (xs : List Item). passed Side.Sent head payload ∷ xs) w.is; at = w.at }
when (told Side.Sent seq ∷ past) (n ∷ newer) before e =
    let rest : sent past ≡ newer ++ before = cc in
    let w = when past newer before rest in
    record { later = told Side.Sent seq ∷ w.later; earlier = w.earlier; is = ap (λ (xs : List Item). told Side.Sent seq ∷ xs) w.is; at = w.at }

-- ---- from an earlier moment on

pub lawful-earlier : (later earlier : List Item) → IsLawful (later ++ earlier) → IsLawful earlier
lawful-earlier [] earlier l = l
lawful-earlier (item ∷ later) earlier l = lawful-earlier later earlier l.1

pub whole-earlier : (later earlier : List Item) → NeverBroke (later ++ earlier) → NeverBroke earlier
whole-earlier [] earlier w = w
whole-earlier (item ∷ later) earlier w = whole-earlier later earlier w.1

pub arrived-append : (later earlier : List Item) → arrived (later ++ earlier) ≡ arrived later ++ arrived earlier
arrived-append [] earlier = refl
arrived-append (began Side.Received head ∷ later) earlier = rw (arrived-append later earlier)
arrived-append (began Side.Sent head ∷ later) earlier = arrived-append later earlier
arrived-append (passed Side.Received head payload ∷ later) earlier = rw (arrived-append later earlier)
arrived-append (passed Side.Sent head payload ∷ later) earlier = arrived-append later earlier
arrived-append (told Side.Received seq ∷ later) earlier = rw (arrived-append later earlier)
arrived-append (told Side.Sent seq ∷ later) earlier = arrived-append later earlier

pub edge-earlier : (later earlier : List Item) → greatest_edge Side.Received earlier ≤ greatest_edge Side.Received (later ++ earlier)
edge-earlier [] earlier = omega arith
edge-earlier (began by head ∷ later) earlier = edge-earlier later earlier
edge-earlier (passed by head payload ∷ later) earlier = edge-earlier later earlier
edge-earlier (told Side.Received seq ∷ later) earlier = edge-earlier later earlier
edge-earlier (told Side.Sent seq ∷ later) earlier =
    let rest = edge-earlier later earlier in
    let up : greatest_edge Side.Received (later ++ earlier) ≤ max (greatest_edge Side.Received (later ++ earlier)) (passed_octets Side.Received (later ++ earlier) + seq.window) = omega arith in
    omega (arith, rest, up)

pub octets-earlier : (newer past : List Item) → octets_of (frames Side.Received past) ≤ octets_of (frames Side.Received (newer ++ past))
octets-earlier [] past = omega arith
octets-earlier (began by head ∷ newer) past = octets-earlier newer past
octets-earlier (passed Side.Received head payload ∷ newer) past = omega (arith, octets-earlier newer past)
octets-earlier (passed Side.Sent head payload ∷ newer) past = octets-earlier newer past
octets-earlier (told by seq ∷ newer) past = octets-earlier newer past
