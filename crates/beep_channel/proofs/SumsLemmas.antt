-- The sums of a life, step by step.
use Rattle.std.proofs.Common.{◌≡◌, ℕ, zero, suc, ◌+◌, ◌-◌, ◌%◌, ◌^◌, ◌<◌, ◌≤◌, ◌==◌, nat_lt, Bool, true, false, not, ◌&&◌, ◌||◌, if◌then◌else◌, List, [], ◌∷◌, ◌++◌, length, drop, map, Option, Some, None, refl, sym, ap, ◌∙◌, arith, subst}
use Rattle.std.specs.Option.{option_map_or}
use Rattle.std.proofs.lemmas.Bool.Decides.{nat_tests}
use Rattle.beep_frame.specs.declared.head.Head.{Head}
use Rattle.beep_frame.specs.declared.kind.Kind.{Kind}
use Rattle.beep_frame.specs.Frame.{is_msg, is_ans, is_reply}
use Rattle.beep_history.specs.Marks.{Mark, octet, end, goes_on}
use Rattle.beep_exchange.specs.Kept.{Kept, begins, is_open, began_kept, passed_kept, replied_kept, continued, completed}
use Rattle.beep_exchange.specs.declared.given.Given.{Given}
use Rattle.beep_exchange.specs.Given.{MayTakeOf, after_taken, after_end}
use Rattle.beep_outbox.specs.Queue.{Message}
use Rattle.beep_channel.specs.Fits.{replies, asks, as_number}
use Rattle.beep_exchange.specs.Given.{ends_reply}
use Rattle.beep_inbox.specs.Runs.{Run, run_marks, marks_of, octets_of, has_mark, AllMarked, put_after, put_run, left_runs}
use Rattle.beep_channel.proofs.LaterLemmas.{ended-after, octets-after, marks-after, marked-after, placed-after, answerable-after, request-after}
use Rattle.beep_channel.specs.Sums.{ended_of, IsPlaced, IsAnswerable, is_partly, new_asks, Sums, arriving_tag, arriving_run}

-- the same of a run that may have no mark
module _ (rs : List Run) (r : Run) where
  by-mark : (P : List Run → Type 0) → P (put_after rs r) → (has_mark r ≡ false → P rs) → P (put_run rs r)
  by-mark P yes-it no-it = of (has_mark r) refl
    where
      of : (b : Bool) → has_mark r ≡ b → P (if b then put_after rs r else rs)
      of true e = yes-it
      of false e = no-it e

  pub no-octets : has_mark r ≡ false → length r.octets ≡ 0
  no-octets e = of (length r.octets) r.ended e
    where
      of : (n : ℕ) (b : Bool) → (nat_lt 0 n || b) ≡ false → n ≡ 0
      of zero b e = refl
      of (suc n) b e = absurd (let g : nat_lt 0 (suc n) ≡ true = grind (arith, nat_tests) in let h : (true || b) ≡ false = subst (λ (x : Bool). (x || b) ≡ false) g e in cc)

  no-end : has_mark r ≡ false → r.ended ≡ false
  no-end e = of (nat_lt 0 (length r.octets)) r.ended e
    where
      of : (a b : Bool) → (a || b) ≡ false → b ≡ false
      of true b e = absurd (let g : true ≡ false = e in cc)
      of false b e = e

  pub put-ended : (test : Kind → Bool) → ended_of test (put_run rs r) ≡ ended_of test rs + (if r.ended && test r.tag.kind then 1 else 0)
  put-ended test = by-mark (λ (xs : List Run). ended_of test xs ≡ ended_of test rs + (if r.ended && test r.tag.kind then 1 else 0)) (ended-after test rs r)
      (λ e. rw (no-end e) (omega arith))

  pub put-octets : octets_of (put_run rs r) ≡ octets_of rs + length r.octets
  put-octets = by-mark (λ (xs : List Run). octets_of xs ≡ octets_of rs + length r.octets) (octets-after rs r) (λ e. let n = no-octets e in omega (arith, n))

  pub put-marks : marks_of (put_run rs r) ≡ marks_of rs ++ run_marks r
  put-marks = by-mark (λ (xs : List Run). marks_of xs ≡ marks_of rs ++ run_marks r) (marks-after rs r)
      (λ e. of r.octets r.ended (no-octets e) (no-end e))
    where
      more : (xs : List Mark) → xs ≡ xs ++ []
      more [] = refl
      more (x ∷ xs) = ap (λ (l : List Mark). x ∷ l) (more xs)

      of : (os : List ℕ) (b : Bool) → length os ≡ 0 → b ≡ false → marks_of rs ≡ marks_of rs ++ (map (octet r.tag) os ++ (if b then end r.tag ∷ [] else []))
      of [] false e f = more (marks_of rs)
      of [] true e f = absurd (let g : true ≡ false = f in cc)
      of (o ∷ os) b e f = absurd (omega (arith, e))

  pub put-marked : AllMarked rs → AllMarked (put_run rs r)
  put-marked a = of (has_mark r) refl
    where
      of : (b : Bool) → has_mark r ≡ b → AllMarked (if b then put_after rs r else rs)
      of true e = marked-after rs r a e
      of false e = a

  pub put-placed : (own theirs : ℕ) → IsPlaced own theirs rs
      → r.tag.request ≡ (if is_msg r.tag.kind then theirs + ended_of is_msg rs else own + ended_of ends_reply rs) % 2 ^ 64 → IsPlaced own theirs (put_run rs r)
  put-placed own theirs p e = by-mark (λ (xs : List Run). IsPlaced own theirs xs) (placed-after own theirs rs r p e) (λ _. p)

pub more-answerable : (w v : ℕ) (rs : List Run) → w ≤ v → IsAnswerable w rs → IsAnswerable v rs
more-answerable w v [] p a = tt
more-answerable w v (r ∷ rs) p a = (λ k. let q = a.0 k in omega (arith, p, q), more-answerable w v rs p a.1)

-- ---- the tag of a frame that arrives has the place of its message

pub tag-placed : (given : Given) (runs : List Run) (head : Head) (own theirs : ℕ) → given.first_asked ≡ own % 2 ^ 64 → given.first_owed ≡ theirs % 2 ^ 64
    → (arriving_tag given runs head).request ≡ (if is_msg head.kind then (theirs + given.owed) + ended_of is_msg runs else own + ended_of ends_reply runs) % 2 ^ 64
tag-placed given runs head own theirs a o = of (is_msg head.kind)
  where
    of : (b : Bool) → (if b then (given.first_owed + given.owed + ended_of is_msg runs) % 2 ^ 64 else (given.first_asked + ended_of ends_reply runs) % 2 ^ 64)
        ≡ (if b then (theirs + given.owed) + ended_of is_msg runs else own + ended_of ends_reply runs) % 2 ^ 64
    of true = omega (arith, o)
    of false = omega (arith, a)

-- ---- a received header

pub open-now : (theirs : Kept) (head : Head) → theirs.under_way ≡ None → (is_msg head.kind ≡ true → begins theirs head ≡ true → is_open theirs ≡ false)
    → as_number (is_open (began_kept theirs head)) ≡ as_number (is_open theirs) + (if begins theirs head then 1 else 0)
open-now theirs head idle apart = rw idle (of (is_msg head.kind) theirs.before (rw idle at apart))
  where
    of : (m : Bool) (before : Option Head)
        → (m ≡ true → (m && not (option_map_or (λ (b : Head). is_msg b.kind && goes_on head b) before false)) ≡ true → option_map_or (λ (h : Head). is_msg h.kind && h.more) before false ≡ false)
        → as_number (m || option_map_or (λ (h : Head). is_msg h.kind && h.more) before false)
        ≡ as_number (option_map_or (λ (h : Head). is_msg h.kind && h.more) before false) + (if m && not (option_map_or (λ (b : Head). is_msg b.kind && goes_on head b) before false) then 1 else 0)
    of false before a = omega arith
    of true None a = refl
    of true (Some b) a = more (is_msg b.kind) b.more (b.msgno == head.msgno) (a refl)
      where
        more : (k m n : Bool) → (not (k && (m && n)) ≡ true → (k && m) ≡ false) → as_number true ≡ as_number (k && m) + (if not (k && (m && n)) then 1 else 0)
        more true true true a = refl
        more true true false a = absurd (let g : true ≡ false = a refl in cc)
        more true false n a = refl
        more false m n a = refl

pub header-sums : (given : Given) (queue : List Message) (runs : List Run) (mine theirs : Kept) (own count : ℕ) (head : Head)
    → Sums given queue runs mine theirs own count → theirs.under_way ≡ None → (is_msg head.kind ≡ true → begins theirs head ≡ true → is_open theirs ≡ false)
    → Sums given queue runs mine (began_kept theirs head) own (if begins theirs head then count + 1 else count)
header-sums given queue runs mine theirs own count head s idle apart = record {
  taken_replies = s.taken_replies;
  given_replies = s.given_replies;
  first_asked = s.first_asked;
  first_owed = s.first_owed;
  asked = s.asked;
  partly = s.partly;
  replied = s.replied;
  owed = (let o = open-now theirs head idle apart in let d = s.owed in let w = two (begins theirs head) count in omega (arith, o, d, w));
  replies = (let d = s.replies in let w = two (begins theirs head) count in let v = two (begins theirs head) theirs.waiting in omega (arith, d, w, v));
  placed = s.placed;
  marked = s.marked;
  answerable = s.answerable;
}
  where
    two : (b : Bool) (n : ℕ) → (if b then n + 1 else n) ≡ n + (if b then 1 else 0)
    two true n = refl
    two false n = omega arith

-- ---- the received frame has arrived

pub request-sums : (given : Given) (queue : List Message) (runs : List Run) (mine theirs : Kept) (own count : ℕ) (head : Head) (payload : List ℕ)
    → Sums given queue runs mine theirs own count → theirs.under_way ≡ Some head → is_msg head.kind ≡ true
    → Sums given queue (put_run runs (arriving_run given runs head payload)) mine (passed_kept theirs) own count
request-sums given queue runs mine theirs own count head payload s under m = record {
  taken_replies = s.taken_replies;
  given_replies = s.given_replies;
  first_asked = s.first_asked;
  first_owed = s.first_owed;
  asked = s.asked;
  partly = s.partly;
  replied = (let e = put-ended runs r ends_reply in let n = no-reply head.kind (not head.more) m in let d = s.replied in omega (arith, e, n, d));
  owed = (let e = put-ended runs r is_msg in let d = s.owed in let o = opens in omega (arith, e, d, o));
  replies = s.replies;
  placed = put-placed runs r _ _ s.placed (tag-placed given runs head s.taken_replies s.given_replies s.first_asked s.first_owed);
  marked = put-marked runs r s.marked;
  answerable = by-mark runs r (λ (xs : List Run). IsAnswerable mine.waiting xs) (request-after mine.waiting runs r s.answerable m) (λ _. s.answerable);
}
  where
    r : Run
    r = arriving_run given runs head payload

    no-reply : (k : Kind) (b : Bool) → is_msg k ≡ true → as_number (b && ends_reply k) ≡ 0
    no-reply Kind.Msg true e = refl
    no-reply Kind.Msg false e = refl
    no-reply Kind.Rpy b e = absurd (let g : false ≡ true = e in cc)
    no-reply Kind.Err b e = absurd (let g : false ≡ true = e in cc)
    no-reply Kind.Ans b e = absurd (let g : false ≡ true = e in cc)
    no-reply Kind.Nul b e = absurd (let g : false ≡ true = e in cc)

    opens : as_number (is_open (passed_kept theirs)) + (if not head.more && is_msg head.kind then 1 else 0) ≡ as_number (is_open theirs)
    opens = rw (under, m) (of head.more (option_map_or (λ (h : Head). is_msg h.kind && h.more) theirs.before false))
      where
        of : (more o : Bool) → as_number (false || (true && more)) + (if not more && true then 1 else 0) ≡ as_number (true || o)
        of true o = refl
        of false o = refl

pub reply-sums : (given : Given) (queue : List Message) (runs : List Run) (mine theirs : Kept) (own count : ℕ) (head : Head) (payload : List ℕ)
    → Sums given queue runs mine theirs own count → theirs.under_way ≡ Some head → is_reply head.kind ≡ true → is_open theirs ≡ false → 0 < mine.waiting
    → Sums given queue (put_run runs (arriving_run given runs head payload)) (replied_kept mine head) (passed_kept theirs) own count
reply-sums given queue runs mine theirs own count head payload s under m quiet waits = record {
  taken_replies = s.taken_replies;
  given_replies = s.given_replies;
  first_asked = s.first_asked;
  first_owed = s.first_owed;
  asked = s.asked ∙ ap (λ (h : Option Head). own + (asks queue - as_number (option_map_or (λ (x : Head). is_msg x.kind && x.more) h false))) (sym same-before);
  partly = subst (λ (h : Option Head). as_number (option_map_or (λ (x : Head). is_msg x.kind && x.more) h false) ≤ asks queue) (sym same-before) s.partly;
  replied = (let e = put-ended runs r ends_reply in let d = s.replied in let w = fewer in omega (arith, e, d, w));
  owed = (let e = put-ended runs r is_msg in let d = s.owed in let o = opens in let n = no-request head.kind (not head.more) m in let q = ap (λ (b : Bool). as_number b) quiet in omega (arith, e, d, o, n, q));
  replies = s.replies;
  placed = put-placed runs r _ _ s.placed (tag-placed given runs head s.taken_replies s.given_replies s.first_asked s.first_owed);
  marked = put-marked runs r s.marked;
  answerable = by-mark runs r (λ (xs : List Run). IsAnswerable (replied_kept mine head).waiting xs)
      (answerable-after mine.waiting (replied_kept mine head).waiting runs r s.answerable (sym fewer) waits)
      (λ e. more-answerable mine.waiting (replied_kept mine head).waiting runs
      (let f = fewer in let n = ap (λ (b : Bool). as_number (b && ends_reply head.kind)) (no-end runs r e) in omega (arith, f, n)) s.answerable);
}
  where
    r : Run
    r = arriving_run given runs head payload

    no-request : (k : Kind) (b : Bool) → is_reply k ≡ true → as_number (b && is_msg k) ≡ 0
    no-request Kind.Msg b e = absurd (let g : false ≡ true = e in cc)
    no-request Kind.Rpy true e = refl
    no-request Kind.Rpy false e = refl
    no-request Kind.Err true e = refl
    no-request Kind.Err false e = refl
    no-request Kind.Ans true e = refl
    no-request Kind.Ans false e = refl
    no-request Kind.Nul true e = refl
    no-request Kind.Nul false e = refl

    same-before : (replied_kept mine head).before ≡ mine.before
    same-before = of (not head.more && not (is_ans head.kind))
      where
        of : (b : Bool) → (if b then record mine { waiting = mine.waiting - 1; kind = None; answers = [] } else record mine { kind = Some head.kind; answers = if is_ans head.kind then (if head.more then continued head.ansno head.size mine.answers else completed head.ansno mine.answers) else mine.answers }).before ≡ mine.before
        of true = refl
        of false = refl

    fewer : (replied_kept mine head).waiting + (if not head.more && ends_reply head.kind then 1 else 0) ≡ mine.waiting
    fewer = of (not head.more) (is_ans head.kind) (is_msg head.kind) m
      where
        of : (b a k : Bool) → not k ≡ true → (if b && not a then record mine { waiting = mine.waiting - 1; kind = None; answers = [] } else record mine { kind = Some head.kind; answers = if is_ans head.kind then (if head.more then continued head.ansno head.size mine.answers else completed head.ansno mine.answers) else mine.answers }).waiting + (if b && (not k && not a) then 1 else 0) ≡ mine.waiting
        of b a true e = absurd (let g : false ≡ true = e in cc)
        of true true false e = omega arith
        of true false false e = omega (arith, waits)
        of false a false e = omega arith

    opens : as_number (is_open (passed_kept theirs)) ≡ 0
    opens = rw under (of head.kind m)
      where
        of : (k : Kind) → is_reply k ≡ true → as_number (false || (is_msg k && head.more)) ≡ 0
        of Kind.Msg e = absurd (let g : false ≡ true = e in cc)
        of Kind.Rpy e = refl
        of Kind.Err e = refl
        of Kind.Ans e = refl
        of Kind.Nul e = refl

-- the end of a reply is taken
ended-reply : (given : Given) (queue : List Message) (mine theirs : Kept) (own count : ℕ) (rs : List Run) (tr gr : ℕ)
    → given.first_asked ≡ tr % 2 ^ 64 → given.first_owed ≡ gr % 2 ^ 64 → tr + given.asked ≡ own + new_asks queue mine → as_number (is_partly mine) ≤ asks queue
    → tr + (ended_of ends_reply rs + 1) + mine.waiting ≡ own → gr + given.owed + ended_of is_msg rs + as_number (is_open theirs) ≡ count → gr + theirs.waiting ≡ count + replies queue
    → IsPlaced (tr + 1) (gr + given.owed) rs → AllMarked rs → IsAnswerable mine.waiting rs
    → Sums (after_end given) queue rs mine theirs own count
ended-reply given queue mine theirs own count rs tr gr a o asked partly replied owed reps placed marked answerable = record {
  taken_replies = tr + 1;
  given_replies = gr;
  first_asked = omega (arith, a);
  first_owed = o;
  asked = omega (arith, asked, replied);
  partly = partly;
  replied = omega (arith, replied);
  owed = owed;
  replies = reps;
  placed = placed;
  marked = marked;
  answerable = answerable;
}

-- ---- a piece of the first run is taken

-- what was given and taken, once so many octets of the first run are taken, and its end where that follows
abbrev pub given_after : ℕ → Run → Given → Given
given_after n r given = if r.ended && not (nat_lt n (length r.octets)) then after_taken given r.tag.kind else given

module _ (given : Given) (queue : List Message) (mine theirs : Kept) (own count : ℕ) where
  pub may-take : (k : Kind) (request ansno : ℕ) (octets : List ℕ) (rs : List Run)
      → Sums given queue (record { tag = record { kind = k; request = request; ansno = ansno }; octets = octets; ended = true } ∷ rs) mine theirs own count
      → theirs.waiting ≤ 1024 → MayTakeOf given k request
  may-take Kind.Msg request ansno octets rs s few = (let p = s.placed.0 in let o = s.first_owed in omega (arith, p, o), let d = s.owed in let e = s.replies in omega (arith, d, e, few))
  may-take Kind.Rpy request ansno octets rs s few = (let d = s.asked in let e = s.replied in omega (arith, d, e), s.placed.0 ∙ sym s.first_asked)
  may-take Kind.Err request ansno octets rs s few = (let d = s.asked in let e = s.replied in omega (arith, d, e), s.placed.0 ∙ sym s.first_asked)
  may-take Kind.Ans request ansno octets rs s few = (let d = s.asked in let e = s.replied in let a = s.answerable.0 refl in omega (arith, d, e, a), s.placed.0 ∙ sym s.first_asked)
  may-take Kind.Nul request ansno octets rs s few = (let d = s.asked in let e = s.replied in omega (arith, d, e), s.placed.0 ∙ sym s.first_asked)

  -- the whole run, with its end
  take-end : (k : Kind) (request ansno : ℕ) (octets : List ℕ) (rs : List Run)
      → Sums given queue (record { tag = record { kind = k; request = request; ansno = ansno }; octets = octets; ended = true } ∷ rs) mine theirs own count
      → Sums (after_taken given k) queue rs mine theirs own count
  take-end Kind.Msg request ansno octets rs s = record {
    taken_replies = s.taken_replies;
    given_replies = s.given_replies;
    first_asked = s.first_asked;
    first_owed = s.first_owed;
    asked = s.asked;
    partly = s.partly;
    replied = s.replied;
    owed = (let d = s.owed in omega (arith, d));
    replies = s.replies;
    placed = (let e : s.given_replies + given.owed + 1 ≡ s.given_replies + (given.owed + 1) = omega arith in subst (λ (x : ℕ). IsPlaced s.taken_replies x rs) e s.placed.1);
    marked = s.marked.1;
    answerable = s.answerable.1;
  }
  take-end Kind.Rpy request ansno octets rs s = ended-reply given queue mine theirs own count rs s.taken_replies s.given_replies s.first_asked s.first_owed s.asked s.partly s.replied s.owed s.replies s.placed.1 s.marked.1 s.answerable.1
  take-end Kind.Err request ansno octets rs s = ended-reply given queue mine theirs own count rs s.taken_replies s.given_replies s.first_asked s.first_owed s.asked s.partly s.replied s.owed s.replies s.placed.1 s.marked.1 s.answerable.1
  take-end Kind.Nul request ansno octets rs s = ended-reply given queue mine theirs own count rs s.taken_replies s.given_replies s.first_asked s.first_owed s.asked s.partly s.replied s.owed s.replies s.placed.1 s.marked.1 s.answerable.1
  take-end Kind.Ans request ansno octets rs s = record {
    taken_replies = s.taken_replies;
    given_replies = s.given_replies;
    first_asked = s.first_asked;
    first_owed = s.first_owed;
    asked = s.asked;
    partly = s.partly;
    replied = s.replied;
    owed = s.owed;
    replies = s.replies;
    placed = s.placed.1;
    marked = s.marked.1;
    answerable = s.answerable.1;
  }

  -- the whole run, whose message goes on
  take-run : (r : Run) (rs : List Run) → r.ended ≡ false → Sums given queue (r ∷ rs) mine theirs own count → Sums given queue rs mine theirs own count
  take-run r rs e s = record {
    taken_replies = s.taken_replies;
    given_replies = s.given_replies;
    first_asked = s.first_asked;
    first_owed = s.first_owed;
    asked = s.asked;
    partly = s.partly;
    replied = subst (λ (b : Bool). s.taken_replies + (if b && ends_reply r.tag.kind then ended_of ends_reply rs + 1 else ended_of ends_reply rs) + mine.waiting ≡ own) e s.replied;
    owed = subst (λ (b : Bool). s.given_replies + given.owed + (if b && is_msg r.tag.kind then ended_of is_msg rs + 1 else ended_of is_msg rs) + as_number (is_open theirs) ≡ count) e s.owed;
    replies = s.replies;
    placed = subst (λ (b : Bool). IsPlaced (if b && ends_reply r.tag.kind then s.taken_replies + 1 else s.taken_replies) (if b && is_msg r.tag.kind then s.given_replies + given.owed + 1 else s.given_replies + given.owed) rs) e s.placed.1;
    marked = s.marked.1;
    answerable = s.answerable.1;
  }

  -- a part of the run
  take-part : (n : ℕ) (r : Run) (rs : List Run) → n < length r.octets → Sums given queue (r ∷ rs) mine theirs own count → Sums given queue (record r { octets = drop n r.octets } ∷ rs) mine theirs own count
  take-part n r rs p s = record {
    taken_replies = s.taken_replies;
    given_replies = s.given_replies;
    first_asked = s.first_asked;
    first_owed = s.first_owed;
    asked = s.asked;
    partly = s.partly;
    replied = s.replied;
    owed = s.owed;
    replies = s.replies;
    placed = s.placed;
    marked = (some-left n r.octets p, s.marked.1);
    answerable = s.answerable;
  }
    where
      some-left : (n : ℕ) (xs : List ℕ) → n < length xs → (nat_lt 0 (length (drop n xs)) || r.ended) ≡ true
      some-left zero [] p = absurd (omega (arith, p))
      some-left zero (x ∷ xs) p = let e : nat_lt 0 (suc (length xs)) ≡ true = grind (arith, nat_tests) in ap (λ (b : Bool). b || r.ended) e
      some-left (suc n) [] p = absurd (omega (arith, p))
      some-left (suc n) (x ∷ xs) p = some-left n xs (omega (arith, p))

  pub take-sums : (n : ℕ) (r : Run) (rs : List Run) → Sums given queue (r ∷ rs) mine theirs own count → Sums (given_after n r given) queue (left_runs n (r ∷ rs)) mine theirs own count
  take-sums n r rs s = of (nat_lt n (length r.octets)) refl r.ended refl
    where
      of : (l : Bool) → nat_lt n (length r.octets) ≡ l → (e : Bool) → r.ended ≡ e
          → Sums (if e && not l then after_taken given r.tag.kind else given) queue (if l then record r { octets = drop n r.octets } ∷ rs else rs) mine theirs own count
      of true l false e = take-part n r rs (grind (arith, nat_tests)) s
      of true l true e = take-part n r rs (grind (arith, nat_tests)) s
      of false l false e = take-run r rs e s
      of false l true e = take-end r.tag.kind r.tag.request r.tag.ansno r.octets rs (subst (λ (b : Bool). Sums given queue (record { tag = record { kind = r.tag.kind; request = r.tag.request; ansno = r.tag.ansno }; octets = r.octets; ended = b } ∷ rs) mine theirs own count) e s)

-- a take leaves what is owed with the untaken requests
pub take-owed : (n : ℕ) (r : Run) (rs : List Run) (given : Given) → (given_after n r given).owed + ended_of is_msg (left_runs n (r ∷ rs)) ≡ given.owed + ended_of is_msg (r ∷ rs)
take-owed n r rs given = of r.tag.kind r.ended (nat_lt n (length r.octets))
  where
    of : (k : Kind) (e l : Bool) → (if e && not l then after_taken given k else given).owed + ended_of is_msg (if l then record r { tag = record r.tag { kind = k }; octets = drop n r.octets; ended = e } ∷ rs else rs)
        ≡ given.owed + (if e && is_msg k then ended_of is_msg rs + 1 else ended_of is_msg rs)
    of k true true = refl
    of k false true = refl
    of k false false = refl
    of Kind.Msg true false = omega arith
    of Kind.Rpy true false = refl
    of Kind.Err true false = refl
    of Kind.Ans true false = refl
    of Kind.Nul true false = refl
