-- Where no rule of the exchange was broken: the order of replies, and that each is ended once.
use Rattle.std.proofs.Common.{◌≡◌, ℕ, ◌<◌, ◌≤◌, ◌==◌, nat_lt, Bool, true, false, not, ◌&&◌, if◌then◌else◌, List, [], ◌∷◌, ◌++◌, refl, sym, ap, ◌∙◌, subst, arith, ⊎_elim}
use Rattle.std.specs.List.{list_any}
use Rattle.std.proofs.lemmas.Bool.{lt-ltb, le-ltb, ltb-true, cases_lt}
use Rattle.std.proofs.lemmas.Bool.Decides.{nat_tests}
use Rattle.std.proofs.lemmas.List.{append-nil}
use Rattle.beep_frame.specs.declared.head.Head.{Head}
use Rattle.beep_history.specs.declared.journal.Side.{Side}
use Rattle.beep_frame.specs.Frame.{is_msg, is_reply}
use Rattle.beep_history.specs.Journal.{Item, began, passed, told, same_side, other}
use Rattle.beep_history.specs.Marks.{reply, ends_reply, is_answered, answers, tag_of, carries, frame_marks, marks}
use Rattle.beep_history.specs.Broken.{KeepsExchangeRules}
use Rattle.beep_history.specs.Moments.{reply_positions, IsRising, EndsOnce}
use Rattle.beep_history.proofs.SoundLemmas.{IsDue, Sound}
use Rattle.beep_history.proofs.StepsLemmas.{reply-passed-mine, reply-passed-theirs}
use Rattle.beep_history.proofs.PassedLemmas.{sound, reply-grown}
use Rattle.beep_history.proofs.MarksLemmas.{AllUpTo, AllAre, positions-append, positions-frame, positions-request, rising-more}

-- ---- answers in order

pub answered-in-order : (side : Side) (past : List Item) (earlier later : ℕ) → KeepsExchangeRules past → earlier ≤ later
    → is_answered side later past ≡ true → is_answered side earlier past ≡ true
answered-in-order side past earlier later u upto e =
    let s = sound side past u in
    let below : later < s.oldest = ltb-true _ _ (sym (s.answered later) ∙ e) in
    s.answered earlier ∙ lt-ltb _ _ (omega arith)

-- ---- ended once

once-step : (side : Side) (past : List Item) (head : Head) (payload : List ℕ) (oldest p : ℕ) (test ends : Bool)
    → (oldest == p) ≡ test → ends_reply head ≡ ends
    → (list_any ends_reply (reply side p past) ≡ true → EndsOnce (reply side p past))
    → list_any ends_reply (reply side p past) ≡ nat_lt p oldest
    → list_any ends_reply (if test then head ∷ reply side p past else reply side p past) ≡ true
    → EndsOnce (if test then head ∷ reply side p past else reply side p past)
once-step side past head payload oldest p true true at ends before answered e =
    record { last = head; before = reply side p past; is = refl; ends = ends; once = answered ∙ le-ltb _ _ (grind (arith, nat_tests)) }
once-step side past head payload oldest p true false at ends before answered e =
    let still : list_any ends_reply (reply side p past) ≡ true = rw ends at e in
    let never : list_any ends_reply (reply side p past) ≡ false = answered ∙ le-ltb _ _ (grind (arith, nat_tests)) in
    let clash : true ≡ false = sym still ∙ never in
    cc
once-step side past head payload oldest p false ends at ends_is before answered e = before e

once-theirs : (side : Side) (past : List Item) (head : Head) (payload : List ℕ) (p : ℕ) (b : Bool) → is_reply head.kind ≡ b
    → (s : Sound side past) → (b ≡ true → IsDue side s.oldest past head)
    → (is_answered side p past ≡ true → EndsOnce (reply side p past))
    → is_answered side p (passed (other side) head payload ∷ past) ≡ true → EndsOnce (reply side p (passed (other side) head payload ∷ past))
once-theirs side past head payload p true r s due before e =
    let grown = reply-grown side past head payload s.oldest r (due refl) p in
    rw grown (once-step side past head payload s.oldest p _ _ refl refl before (s.answered p) (rw grown at e))
once-theirs side past head payload p false r s due before e =
    let same : reply side p (passed (other side) head payload ∷ past) ≡ reply side p past = rw (reply-passed-theirs head payload past side p, r) in
    rw same (before (rw same at e))

once-mine : (side : Side) (past : List Item) (head : Head) (payload : List ℕ) (p : ℕ)
    → (is_answered side p past ≡ true → EndsOnce (reply side p past))
    → is_answered side p (passed side head payload ∷ past) ≡ true → EndsOnce (reply side p (passed side head payload ∷ past))
once-mine side past head payload p before e =
    let same = reply-passed-mine head payload past side p in rw same (before (rw same at e))

pub ends-once : (side : Side) (past : List Item) (p : ℕ) → KeepsExchangeRules past → is_answered side p past ≡ true → EndsOnce (reply side p past)
ends-once side [] p u e = cc
ends-once side (began by head ∷ past) p u e = ends-once side past p u.2 e
ends-once side (told by seq ∷ past) p u e = ends-once side past p u e
ends-once Side.Received (passed Side.Received head payload ∷ past) p u e =
    once-mine Side.Received past head payload p (ends-once Side.Received past p u.2) e
ends-once Side.Sent (passed Side.Sent head payload ∷ past) p u e =
    once-mine Side.Sent past head payload p (ends-once Side.Sent past p u.2) e
ends-once Side.Received (passed Side.Sent head payload ∷ past) p u e =
    let s = sound Side.Received past u.2 in
    once-theirs Side.Received past head payload p _ refl s (s.due head u.0) (ends-once Side.Received past p u.2) e
ends-once Side.Sent (passed Side.Received head payload ∷ past) p u e =
    let s = sound Side.Sent past u.2 in
    once-theirs Side.Sent past head payload p _ refl s (s.due head u.0) (ends-once Side.Sent past p u.2) e

-- ---- replies in order

-- each of these positions has a frame of its reply
abbrev pub AllBegun : Side → List Item → List ℕ → Type 0
AllBegun asker past [] = Unit {0}
AllBegun asker past (n ∷ ns) = (reply asker n past ≡ [] → ⊥) × AllBegun asker past ns

-- the marks of a side name requests of the other in order, each with a frame of its reply
pub record Ordered (side : Side) (past : List Item) : Type 0 where
  pub rising : IsRising (reply_positions (marks side past))
  pub begun : AllBegun (other side) past (reply_positions (marks side past))

begun-append : (asker : Side) (past : List Item) (xs ys : List ℕ) → AllBegun asker past xs → AllBegun asker past ys → AllBegun asker past (xs ++ ys)
begun-append asker past [] ys a b = b
begun-append asker past (x ∷ xs) ys a b = (a.0, begun-append asker past xs ys a.1 b)

longer : (head : Head) (frames : List Head) (test : Bool) → (frames ≡ [] → ⊥) → (if test then head ∷ frames else frames) ≡ [] → ⊥
longer head frames true some none = cc
longer head frames false some none = some none

begun-more : (asker : Side) (past : List Item) (by : Side) (head : Head) (payload : List ℕ) (ns : List ℕ) → AllBegun asker past ns
    → AllBegun asker (passed by head payload ∷ past) ns
begun-more asker past by head payload [] all = tt
begun-more asker past by head payload (n ∷ ns) all =
    (longer head (reply asker n past) (answers asker n past by head) all.0, begun-more asker past by head payload ns all.1)

begun-upto : (asker : Side) (past : List Item) (s : Sound asker past) (ns : List ℕ) → AllBegun asker past ns → AllUpTo s.oldest ns
begun-upto asker past s [] all = tt
begun-upto asker past s (n ∷ ns) all =
    (⊎_elim (λ (h : s.oldest < n). absurd (all.0 (s.later n h))) (λ (h : n ≤ s.oldest). h) (cases_lt s.oldest n), begun-upto asker past s ns all.1)

begun-here : (asker : Side) (past : List Item) (k : ℕ) (ns : List ℕ) → (reply asker k past ≡ [] → ⊥) → AllAre k ns → AllBegun asker past ns
begun-here asker past k [] some all = tt
begun-here asker past k (n ∷ ns) some all =
    (λ none. some (subst (λ (x : ℕ). reply asker x past ≡ []) all.0 none), begun-here asker past k ns some all.1)

same-self : (side : Side) → same_side side side ≡ true
same-self Side.Received = refl
same-self Side.Sent = refl

same-other : (side : Side) → same_side (other side) side ≡ false
same-other Side.Received = refl
same-other Side.Sent = refl

not-msg : (b : Bool) → not b ≡ true → b ≡ false
not-msg true e = cc
not-msg false e = refl

-- the position that a reply's frame is marked with is that of the oldest request that waits
position-due : (side : Side) (past : List Item) (head : Head) (oldest : ℕ) → is_reply head.kind ≡ true → IsDue (other side) oldest past head
    → (tag_of side past head).request ≡ oldest
position-due side past head oldest r d = rw (not-msg (is_msg head.kind) r, d.found) d.at

unimplied : (zero request first : Bool) → request ≡ false → not (zero && request && first) ≡ true
unimplied true request first e = rw e refl
unimplied false request first e = refl

-- a reply's frame adds its marks
marks-reply : (side : Side) (past : List Item) (head : Head) (payload : List ℕ) → is_reply head.kind ≡ true
    → marks side (passed side head payload ∷ past) ≡ marks side past ++ frame_marks (tag_of side past head) head payload
marks-reply side past head payload r =
    let carried : carries side past side head ≡ true = rw (same-self side) (unimplied _ _ _ (not-msg (is_msg head.kind) r)) in
    ap (λ (b : Bool). marks side past ++ (if b then frame_marks (tag_of side past head) head payload else [])) carried

-- a request's frame adds no position of a reply
positions-same : (side : Side) (past : List Item) (head : Head) (payload : List ℕ) → is_reply head.kind ≡ false
    → reply_positions (marks side (passed side head payload ∷ past)) ≡ reply_positions (marks side past)
positions-same side past head payload r =
    positions-append (marks side past) (if carries side past side head then frame_marks (tag_of side past head) head payload else [])
    ∙ ap (λ (x : List ℕ). reply_positions (marks side past) ++ x) (positions-if (carries side past side head))
    ∙ append-nil (reply_positions (marks side past))
  where
    positions-if : (b : Bool) → reply_positions (if b then frame_marks (tag_of side past head) head payload else []) ≡ []
    positions-if true = positions-request (tag_of side past head) head payload r
    positions-if false = refl

ordered-reply : (side : Side) (past : List Item) (head : Head) (payload : List ℕ) (s : Sound (other side) past) → is_reply head.kind ≡ true
    → IsDue (other side) s.oldest past head
    → reply (other side) s.oldest (passed side head payload ∷ past) ≡ head ∷ reply (other side) s.oldest past
    → Ordered side past → Ordered side (passed side head payload ∷ past)
ordered-reply side past head payload s r d grown o =
    let here : AllAre s.oldest (reply_positions (frame_marks (tag_of side past head) head payload)) =
    subst (λ (k : ℕ). AllAre k (reply_positions (frame_marks (tag_of side past head) head payload)))
    (position-due side past head s.oldest r d) (positions-frame (tag_of side past head) head payload) in
    let some : reply (other side) s.oldest (passed side head payload ∷ past) ≡ [] → ⊥ =
    λ none. let clash : head ∷ reply (other side) s.oldest past ≡ [] = sym grown ∙ none in cc in
    let more : reply_positions (marks side (passed side head payload ∷ past))
    ≡ reply_positions (marks side past) ++ reply_positions (frame_marks (tag_of side past head) head payload) =
    ap reply_positions (marks-reply side past head payload r)
    ∙ positions-append (marks side past) (frame_marks (tag_of side past head) head payload) in
    record {
      rising = subst (λ (ns : List ℕ). IsRising ns) (sym more)
          (rising-more s.oldest _ _ o.rising (begun-upto (other side) past s _ o.begun) here);
      begun = subst (λ (ns : List ℕ). AllBegun (other side) (passed side head payload ∷ past) ns) (sym more)
          (begun-append (other side) (passed side head payload ∷ past) _ _ (begun-more (other side) past side head payload _ o.begun)
          (begun-here (other side) (passed side head payload ∷ past) s.oldest _ some here));
    }

ordered-request : (side : Side) (past : List Item) (head : Head) (payload : List ℕ) → is_reply head.kind ≡ false
    → Ordered side past → Ordered side (passed side head payload ∷ past)
ordered-request side past head payload r o =
    let same = positions-same side past head payload r in
    record {
      rising = subst (λ (ns : List ℕ). IsRising ns) (sym same) o.rising;
      begun = subst (λ (ns : List ℕ). AllBegun (other side) (passed side head payload ∷ past) ns) (sym same)
          (begun-more (other side) past side head payload _ o.begun);
    }

ordered-theirs : (side : Side) (past : List Item) (head : Head) (payload : List ℕ) → Ordered side past → Ordered side (passed (other side) head payload ∷ past)
ordered-theirs side past head payload o = record {
  rising = rw (same-other side, append-nil (marks side past)) o.rising;
  begun = rw (same-other side, append-nil (marks side past)) (begun-more (other side) past (other side) head payload _ o.begun);
}

ordered-mine : (side : Side) (past : List Item) (head : Head) (payload : List ℕ) (s : Sound (other side) past) (b : Bool) → is_reply head.kind ≡ b
    → (b ≡ true → IsDue (other side) s.oldest past head)
    → (b ≡ true → reply (other side) s.oldest (passed side head payload ∷ past) ≡ head ∷ reply (other side) s.oldest past)
    → Ordered side past → Ordered side (passed side head payload ∷ past)
ordered-mine side past head payload s true r due grown o = ordered-reply side past head payload s r (due refl) (grown refl) o
ordered-mine side past head payload s false r due grown o = ordered-request side past head payload r o

grown-here : (asker : Side) (past : List Item) (head : Head) (payload : List ℕ) (oldest : ℕ) → is_reply head.kind ≡ true → IsDue asker oldest past head
    → reply asker oldest (passed (other asker) head payload ∷ past) ≡ head ∷ reply asker oldest past
grown-here asker past head payload oldest r d = reply-grown asker past head payload oldest r d oldest ∙ at-itself oldest _ _
  where
    at-itself : (n : ℕ) (a b : List Head) → (if n == n then a else b) ≡ a
    at-itself n a b = grind (arith, nat_tests)

ordered-other : (side : Side) (past : List Item) (item : Item) → marks side (item ∷ past) ≡ marks side past
    → ((n : ℕ) → reply (other side) n (item ∷ past) ≡ reply (other side) n past) → Ordered side past → Ordered side (item ∷ past)
ordered-other side past item same replies o = record { rising = rw same o.rising; begun = rw same (begun-same _ o.begun) }
  where
    begun-same : (ns : List ℕ) → AllBegun (other side) past ns → AllBegun (other side) (item ∷ past) ns
    begun-same [] all = tt
    begun-same (n ∷ ns) all = (λ none. all.0 (sym (replies n) ∙ none), begun-same ns all.1)

ordered : (side : Side) (past : List Item) → KeepsExchangeRules past → Ordered side past
ordered side [] u = record { rising = tt; begun = tt }
ordered side (began by head ∷ past) u = ordered-other side past (began by head) refl (λ n. refl) (ordered side past u.2)
ordered side (told by seq ∷ past) u = ordered-other side past (told by seq) refl (λ n. refl) (ordered side past u)
ordered Side.Received (passed Side.Received head payload ∷ past) u =
    let s = sound Side.Sent past u.2 in
    ordered-mine Side.Received past head payload s _ refl (s.due head u.0) (λ r. grown-here Side.Sent past head payload s.oldest r (s.due head u.0 r))
    (ordered Side.Received past u.2)
ordered Side.Sent (passed Side.Sent head payload ∷ past) u =
    let s = sound Side.Received past u.2 in
    ordered-mine Side.Sent past head payload s _ refl (s.due head u.0) (λ r. grown-here Side.Received past head payload s.oldest r (s.due head u.0 r))
    (ordered Side.Sent past u.2)
ordered Side.Received (passed Side.Sent head payload ∷ past) u = ordered-theirs Side.Received past head payload (ordered Side.Received past u.2)
ordered Side.Sent (passed Side.Received head payload ∷ past) u = ordered-theirs Side.Sent past head payload (ordered Side.Sent past u.2)

pub replies-rise : (side : Side) (past : List Item) → KeepsExchangeRules past → IsRising (reply_positions (marks side past))
replies-rise side past u = (ordered side past u).rising
