-- A history in which no rule of the exchange was broken is sound for both sides, by one item after the other.
use Rattle.std.proofs.Common.{◌≡◌, ℕ, zero, suc, min, ◌+◌, ◌-◌, ◌<◌, ◌≤◌, ◌==◌, nat_lt, Bool, true, false, not, ◌&&◌, ◌||◌, if◌then◌else◌, List, [], ◌∷◌, length, take, map, Option, Some, None, refl, sym, ap, ◌∙◌, arith, subst, length-take}
use Rattle.std.specs.List.{list_any}
use Rattle.std.specs.Option.{option_map_or}
use Rattle.std.proofs.lemmas.Bool.{lt-ltb, le-ltb, leb-false}
use Rattle.std.proofs.lemmas.Bool.Decides.{nat_tests}
use Rattle.beep_frame.specs.declared.head.Head.{Head}
use Rattle.beep_frame.specs.declared.kind.Kind.{Kind}
use Rattle.beep_history.specs.declared.journal.Side.{Side}
use Rattle.beep_history.specs.declared.limits.TheConstants.{MAX_REQUESTS}
use Rattle.beep_frame.specs.Frame.{is_msg, is_nul, is_reply, same_kind}
use Rattle.beep_history.specs.Journal.{Item, began, other}
use Rattle.beep_history.specs.Marks.{previous, Request, goes_on, begins_request, requests, is_whole, is_answered, waiting}
use Rattle.beep_history.specs.Broken.{under_way}
use Rattle.beep_history.proofs.AnswersLemmas.{has}
use Rattle.beep_history.proofs.ListsLemmas.{find-holds, find-any, IsNumbered}
use Rattle.beep_history.proofs.KeptLemmas.{Kept, kept_reply, after-true}
use Rattle.beep_history.proofs.StepsLemmas.{under_way-began-mine, under_way-began-theirs, requests-began-mine, requests-began-theirs, under_way-other-began}
use Rattle.beep_history.proofs.SoundLemmas.{IsApartFirst, unfinished_request, is_open, numbers, IsDue, Sound, requests-numbered, waiting-newest, due_of}

-- ---- the frame before and the frame under way

open-same-at : (m pm pmore same : Bool) → (m && not (pm && (pmore && same))) ≡ false → (m || (pm && pmore)) ≡ (pm && pmore)
open-same-at false pm pmore same e = refl
open-same-at true true true same e = refl
open-same-at true true false same e = cc
open-same-at true false pmore same e = cc

-- a header that begins no request leaves open what was open
open-same : (head : Head) (before : Option Head)
    → (is_msg head.kind && not (option_map_or (λ (b : Head). is_msg b.kind && goes_on head b) before false)) ≡ false
    → is_open (Some head) before ≡ is_open None before
open-same head None e = open-same-at (is_msg head.kind) false false false e
open-same head (Some b) e = open-same-at (is_msg head.kind) (is_msg b.kind) b.more (b.msgno == head.msgno) e

open-none-at : (m pm pmore same : Bool) → (m && not (pm && (pmore && same))) ≡ true → (pmore && not same) ≡ false → (pm && pmore) ≡ false
open-none-at m false pmore same e n = refl
open-none-at m true false same e n = refl
open-none-at m true true false e n = cc
open-none-at true true true true e n = cc
open-none-at false true true true e n = cc

-- where a request begins, none is open
open-none : (head : Head) (before : Option Head)
    → (is_msg head.kind && not (option_map_or (λ (b : Head). is_msg b.kind && goes_on head b) before false)) ≡ true
    → option_map_or (λ (b : Head). b.more && not (b.msgno == head.msgno)) before false ≡ false
    → unfinished_request before ≡ false
open-none head None e n = refl
open-none head (Some b) e n = open-none-at (is_msg head.kind) (is_msg b.kind) b.more (b.msgno == head.msgno) e n

msg-differs : (a b : Kind) → is_msg a ≡ true → is_msg b ≡ false → same_kind a b ≡ false
msg-differs Kind.Msg Kind.Msg m n = cc
msg-differs Kind.Msg Kind.Rpy m n = refl
msg-differs Kind.Msg Kind.Err m n = refl
msg-differs Kind.Msg Kind.Ans m n = refl
msg-differs Kind.Msg Kind.Nul m n = refl
msg-differs Kind.Rpy b m n = cc
msg-differs Kind.Err b m n = cc
msg-differs Kind.Ans b m n = cc
msg-differs Kind.Nul b m n = cc

quiet-at : (nul pm pmore same sk rest : Bool) → (pm ≡ true → sk ≡ false) → (pmore && not same) ≡ false
    → (if nul then (pmore && same) && pm else ((pmore && same) && not sk) || rest) ≡ false → (pm && pmore) ≡ false
quiet-at nul false pmore same sk rest d n k = refl
quiet-at nul true false same sk rest d n k = refl
quiet-at nul true true false sk rest d n k = cc
quiet-at true true true true sk rest d n k = cc
quiet-at false true true true true rest d n k = let e : true ≡ false = d refl in cc
quiet-at false true true true false rest d n k = cc

-- a header of a reply comes after no unfinished request
quiet-of : (head : Head) (before : Option Head) (rest : Bool) → is_msg head.kind ≡ false
    → option_map_or (λ (b : Head). b.more && not (b.msgno == head.msgno)) before false ≡ false
    → (if is_nul head.kind
    then option_map_or (λ (b : Head). goes_on head b && is_msg b.kind) before false
    else option_map_or (λ (b : Head). goes_on head b && not (same_kind b.kind head.kind)) before false || rest) ≡ false
    → unfinished_request before ≡ false
quiet-of head None rest m n k = refl
quiet-of head (Some b) rest m n k =
    quiet-at (is_nul head.kind) (is_msg b.kind) b.more (b.msgno == head.msgno) (same_kind b.kind head.kind) rest
    (λ pm. msg-differs b.kind head.kind pm m) n k

-- ---- a header of the other side

due-began-theirs : (side : Side) (oldest : ℕ) (past : List Item) (head g : Head) → IsDue side oldest past g
    → IsDue side oldest (began (other side) head ∷ past) g
due-began-theirs side oldest past head g d = record {
  request = d.request;
  found = rw (requests-began-theirs head past side) d.found;
  at = d.at;
  waits = rw (requests-began-theirs head past side) d.waits;
  whole = d.whole;
  same = d.same;
  room = d.room;
  alone = d.alone;
}

some-same : (a b : Head) (o : Option Head) → o ≡ Some a → o ≡ Some b → a ≡ b
some-same a b o e f = let g : Some a ≡ Some b = sym e ∙ f in cc

pub began-theirs : (side : Side) (past : List Item) (head : Head) → Kept (other side) past head → Sound side past
    → Sound side (began (other side) head ∷ past)
began-theirs side past head k s = record {
  oldest = s.oldest;
  within = rw (requests-began-theirs head past side) s.within;
  few = rw (requests-began-theirs head past side) s.few;
  answered = s.answered;
  later = s.later;
  uniform = s.uniform;
  few_answers = s.few_answers;
  whole = λ p. rw (requests-began-theirs head past side, under_way-began-theirs head past side) (s.whole p);
  quiet = λ g e. s.quiet g (sym (under_way-began-theirs head past side) ∙ e);
  apart = rw (requests-began-theirs head past side) s.apart;
  due = λ g e r.
      let same : head ≡ g = some-same head g (under_way (other side) (began (other side) head ∷ past)) (under_way-began-mine head past (other side)) e in
      let r' : is_reply head.kind ≡ true = subst (λ (x : Head). is_reply x.kind ≡ true) (sym same) r in
      due-began-theirs side s.oldest past head g
      (subst (λ (x : Head). IsDue side s.oldest past x) same (due_of side past head s.oldest (kept_reply side past head k r') s.answered));
}

-- ---- a header of this side

quiet-began : (side : Side) (past : List Item) (head : Head) → Kept side past head → (g : Head)
    → under_way side (began side head ∷ past) ≡ Some g → is_msg g.kind ≡ false → unfinished_request (previous side past) ≡ false
quiet-began side past head k g e m =
    let same : head ≡ g = some-same head g (under_way side (began side head ∷ past)) (under_way-began-mine head past side) e in
    let m' : is_msg head.kind ≡ false = subst (λ (x : Head). is_msg x.kind ≡ false) (sym same) m in
    quiet-of head (previous side past) _ m' k.not_continued k.kind_changed

-- with the requests as they were
began-mine-on : (side : Side) (past : List Item) (head : Head) → under_way side past ≡ None → begins_request side past head ≡ false
    → Kept side past head → Sound side past → Sound side (began side head ∷ past)
began-mine-on side past head idle on k s =
    let same : requests side (began side head ∷ past) ≡ requests side past = rw (requests-began-mine head past side, on) in
    let open_same : is_open (under_way side (began side head ∷ past)) (previous side past) ≡ is_open (under_way side past) (previous side past) =
    rw (under_way-began-mine head past side, idle) (open-same head (previous side past) on) in
    record {
      oldest = s.oldest;
      within = rw same s.within;
      few = rw same s.few;
      answered = s.answered;
      later = s.later;
      uniform = s.uniform;
      few_answers = s.few_answers;
      whole = λ p. rw (same, open_same) (s.whole p);
      quiet = quiet-began side past head k;
      apart = rw same s.apart;
      due = λ g e r.
          let d = s.due g (sym (under_way-other-began head past side) ∙ e) r in
          record {
            request = d.request;
            found = rw same d.found;
            at = d.at;
            waits = rw same d.waits;
            whole = d.whole;
            same = d.same;
            room = d.room;
            alone = d.alone;
          };
    }

pub any-whole : (n : ℕ) (f : ℕ → Bool) (w : ℕ) (rs : List Request) → IsNumbered rs → ((p : ℕ) → p < length rs → f p ≡ true)
    → list_any (λ (r : Request). r.number == n && f r.position) (take w rs) ≡ has n (take w (map (λ (r : Request). r.number) rs))
any-whole n f zero rs numbered all = refl
any-whole n f (suc w) [] numbered all = refl
any-whole n f (suc w) (r ∷ rs) numbered all =
    let here : f r.position ≡ true = all r.position (omega (arith, numbered.0)) in
    let rest = any-whole n f w rs numbered.1 (λ p h. all p (omega arith)) in
    rw (here, rest) (and-true (r.number == n) (has n (take w (map (λ (x : Request). x.number) rs))))
  where
    and-true : (a b : Bool) → ((a && true) || b) ≡ (a || b)
    and-true true b = refl
    and-true false b = refl

and-first : (a b : Bool) → (a && b) ≡ true → a ≡ true
and-first true b e = refl
and-first false b e = e

pub min-less : (n m : ℕ) → min (n - m) n ≡ n - m
min-less n m = omega arith

-- what holds where a new request begins
record NewRequest (side : Side) (past : List Item) (head : Head) (oldest : ℕ) : Type 0 where
  grown : requests side (began side head ∷ past) ≡ record { position = length (requests side past); number = head.msgno } ∷ requests side past
  is_request : is_msg head.kind ≡ true
  whole : (p : ℕ) → is_whole side p past ≡ nat_lt p (length (requests side past))
  unused : list_any (λ (r : Request). r.number == head.msgno && is_whole side r.position past) (waiting side past) ≡ false
  fresh : has head.msgno (take (length (requests side past) - oldest) (numbers side past)) ≡ false
  few : length (requests side past) < oldest + MAX_REQUESTS

new-request : (side : Side) (past : List Item) (head : Head) → under_way side past ≡ None → begins_request side past head ≡ true
    → Kept side past head → (s : Sound side past) → NewRequest side past head s.oldest
new-request side past head idle new k s =
    let R : List Request = requests side past in
    let closed : is_open (under_way side past) (previous side past) ≡ false = rw idle (open-none head (previous side past) new k.not_continued) in
    let whole : (p : ℕ) → is_whole side p past ≡ nat_lt p (length R) = λ p. rw closed at (s.whole p) ∙ ap (λ (n : ℕ). nat_lt n (length R)) (omega arith) in
    let newest = waiting-newest side past s.oldest s.answered in
    let unused : list_any (λ (r : Request). r.number == head.msgno && is_whole side r.position past) (waiting side past) ≡ false =
    after-true _ _ new k.number_in_use in
    let room : length (waiting side past) < MAX_REQUESTS = leb-false _ _ (after-true _ _ new k.too_many_requests) in
    let count : length (waiting side past) ≡ length R - s.oldest =
    ap length newest ∙ length-take (length R - s.oldest) R ∙ min-less (length R) s.oldest in
    record {
      grown = rw (requests-began-mine head past side, new);
      is_request = and-first _ _ new;
      whole = whole;
      unused = unused;
      fresh = sym (any-whole head.msgno (λ p. is_whole side p past) (length R - s.oldest) R (requests-numbered side past) (λ p h. whole p ∙ lt-ltb _ _ h))
          ∙ subst (λ (rs : List Request). list_any (λ (r : Request). r.number == head.msgno && is_whole side r.position past) rs ≡ false) newest unused;
      few = omega (arith, room, count, s.within);
    }

lt-more : (p n : ℕ) → nat_lt (p + 1) (suc n) ≡ nat_lt p n
lt-more p n = grind (arith, nat_tests)

-- a reply that is due stays so, as the new request has another number
due-new : (side : Side) (past : List Item) (head : Head) (s : Sound side past) → NewRequest side past head s.oldest
    → (g : Head) → IsDue side s.oldest past g → IsDue side s.oldest (began side head ∷ past) g
due-new side past head s new g d =
    let waits : is_answered side d.request.position past ≡ false = s.answered d.request.position ∙ le-ltb _ _ (omega (arith, d.at)) in
    let whole : is_whole side d.request.position past ≡ true = subst (λ (p : ℕ). is_whole side p past ≡ true) (sym d.at) d.whole in
    let other_number : (d.request.number == head.msgno && is_whole side d.request.position past) ≡ false =
    find-any (λ (r : Request). r.number == g.msgno) (λ (r : Request). r.number == head.msgno && is_whole side r.position past)
    (λ (r : Request). not (is_answered side r.position past)) (requests side past) d.request d.found (ap not waits) new.unused in
    let named : (d.request.number == g.msgno) ≡ true = find-holds (λ (r : Request). r.number == g.msgno) (requests side past) d.request d.found in
    let apart : (head.msgno == g.msgno) ≡ false = apart-numbers d.request.number head.msgno g.msgno _ whole other_number named in
    record {
      request = d.request;
      found = rw (new.grown, apart) d.found;
      at = d.at;
      waits = rw new.grown (omega (arith, d.waits));
      whole = d.whole;
      same = d.same;
      room = d.room;
      alone = d.alone;
    }
  where
    apart-numbers : (a b c : ℕ) (whole : Bool) → whole ≡ true → ((a == b) && whole) ≡ false → (a == c) ≡ true → (b == c) ≡ false
    apart-numbers a b c whole w o n = grind (arith, nat_tests)

began-mine-new : (side : Side) (past : List Item) (head : Head) → Kept side past head → (s : Sound side past) → NewRequest side past head s.oldest
    → Sound side (began side head ∷ past)
began-mine-new side past head k s new =
    record {
      oldest = s.oldest;
      within = rw new.grown (omega (arith, s.within));
      few = rw new.grown (omega (arith, new.few));
      answered = s.answered;
      later = s.later;
      uniform = s.uniform;
      few_answers = s.few_answers;
      whole = λ p. rw (new.grown, under_way-began-mine head past side, new.is_request) (new.whole p ∙ sym (lt-more p (length (requests side past))));
      quiet = quiet-began side past head k;
      apart = rw new.grown (apart-new (length (requests side past)) s.oldest head.msgno (numbers side past) s.within new.fresh s.apart);
      due = λ g e r. due-new side past head s new g (s.due g (sym (under_way-other-began head past side) ∙ e) r);
    }
  where
    apart-new : (n oldest number : ℕ) (ns : List ℕ) → oldest ≤ n → has number (take (n - oldest) ns) ≡ false → IsApartFirst (n - oldest) ns
        → IsApartFirst (suc n - oldest) (number ∷ ns)
    apart-new n oldest number ns within fresh apart =
        let more : suc n - oldest ≡ suc (n - oldest) = omega arith in rw more (fresh, apart)

pub began-mine : (side : Side) (past : List Item) (head : Head) → under_way side past ≡ None → Kept side past head → Sound side past
    → Sound side (began side head ∷ past)
began-mine side past head idle k s = began-mine-by (begins_request side past head) refl
  where
    began-mine-by : (b : Bool) → begins_request side past head ≡ b → Sound side (began side head ∷ past)
    began-mine-by true e = began-mine-new side past head k s (new-request side past head idle e k s)
    began-mine-by false e = began-mine-on side past head idle e k s
