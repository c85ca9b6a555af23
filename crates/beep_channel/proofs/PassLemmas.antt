-- The queue still fits as a received frame passes, and the sums hold as an own frame goes and as a message is given.
use Rattle.std.proofs.Common.{◌≡◌, ℕ, ◌+◌, ◌-◌, ◌<◌, ◌≤◌, nat_lt, Bool, true, false, not, ◌&&◌, if◌then◌else◌, List, [], ◌∷◌, ◌++◌, length, drop, Option, Some, None, refl, ap, ◌∙◌, arith, subst, ◌⊎◌, inl, inr, ⊎_elim}
use Rattle.beep_frame.specs.declared.head.Head.{Head}
use Rattle.beep_frame.specs.declared.kind.Kind.{Kind}
use Rattle.beep_frame.specs.Frame.{is_msg, is_ans, is_reply}
use Rattle.beep_exchange.specs.Kept.{Kept, begins, is_open, passed_kept, replied_kept, continued, completed}
use Rattle.beep_exchange.specs.declared.given.Given.{Given}
use Rattle.beep_outbox.specs.Queue.{Message}
use Rattle.beep_channel.specs.Fits.{replies, asks, as_number, so_far_after, IsRun, Fits, mine_after, theirs_after, left_of, count_after}
use Rattle.beep_exchange.specs.Given.{ends_reply, after_given, after_reply}
use Rattle.beep_inbox.specs.Runs.{Run}
use Rattle.beep_channel.specs.Sums.{ended_of, IsPlaced, is_partly, new_asks, Sums}
use Rattle.beep_channel.proofs.SumsLemmas.{more-answerable}
use Rattle.beep_channel.proofs.GiveLemmas.{append-replies, append-asks}

-- more may be owed
more-run : (owed more : ℕ) (so_far : Option Kind) (ms : List Message) → owed ≤ more → IsRun owed so_far ms → IsRun more so_far ms
more-run owed more so_far [] p r = λ e. let q = r e in omega (arith, p, q)
more-run owed more so_far (m ∷ ms) p r = (r.0, r.1, more-run owed more (so_far_after so_far m.tag.kind) ms p r.2)

-- a received frame passes: what was open becomes owed with the untaken ones
pub request-fits : (count owed more : ℕ) (ms : List Message) (mine theirs : Kept) → Fits count owed ms mine theirs → owed ≤ more
    → more + as_number (is_open (passed_kept theirs)) ≤ owed + as_number (is_open theirs) → Fits count more ms mine (passed_kept theirs)
request-fits count owed more ms mine theirs f p q = record {
  idle = f.idle;
  counted = f.counted;
  within = f.within;
  own = f.own;
  demand = (let d = f.demand in omega (arith, d, q));
  kept = f.kept;
  apart = f.apart;
  first = ⊎_elim
      (λ w. inl (record { complete = w.complete; answers = w.answers; run = more-run owed more theirs.kind ms p w.run; few = w.few }))
      (λ b. inr (record {
        first = b.first;
        others = b.others;
        is = b.is;
        before = b.before;
        last = b.last;
        more = b.more;
        kind = b.kind;
        left = b.left;
        no_nul = b.no_nul;
        number = b.number;
        same = b.same;
        answer = b.answer;
        answers = b.answers;
        run = more-run owed more (so_far_after theirs.kind b.first.tag.kind) b.others p b.run;
        few = b.few;
      })) f.first;
}

-- a frame of the reply to an own request passes
pub reply-fits : (count owed : ℕ) (ms : List Message) (mine theirs : Kept) (head : Head) → Fits count owed ms mine theirs
    → Fits count owed ms (replied_kept mine head) theirs
reply-fits count owed ms mine theirs head f = of (not head.more && not (is_ans head.kind))
  where
    of : (b : Bool) → Fits count owed ms (if b then record mine { waiting = mine.waiting - 1; kind = None; answers = [] } else record mine { kind = Some head.kind; answers = if is_ans head.kind then (if head.more then continued head.ansno head.size mine.answers else completed head.ansno mine.answers) else mine.answers }) theirs
    of true = record {
      idle = f.idle;
      counted = f.counted;
      within = (let w = f.within in omega (arith, w));
      own = f.own;
      demand = f.demand;
      kept = f.kept;
      apart = f.apart;
      first = ⊎_elim
          (λ w. inl (record { complete = w.complete; answers = w.answers; run = w.run; few = (let n = w.few in omega (arith, n)) }))
          (λ b. inr (record {
            first = b.first;
            others = b.others;
            is = b.is;
            before = b.before;
            last = b.last;
            more = b.more;
            kind = b.kind;
            left = b.left;
            no_nul = b.no_nul;
            number = b.number;
            same = b.same;
            answer = b.answer;
            answers = b.answers;
            run = b.run;
            few = (let n = b.few in omega (arith, n));
          })) f.first;
    }
    of false = record {
      idle = f.idle;
      counted = f.counted;
      within = f.within;
      own = f.own;
      demand = f.demand;
      kept = f.kept;
      apart = f.apart;
      first = ⊎_elim
          (λ w. inl (record { complete = w.complete; answers = w.answers; run = w.run; few = w.few }))
          (λ b. inr (record {
            first = b.first;
            others = b.others;
            is = b.is;
            before = b.before;
            last = b.last;
            more = b.more;
            kind = b.kind;
            left = b.left;
            no_nul = b.no_nul;
            number = b.number;
            same = b.same;
            answer = b.answer;
            answers = b.answers;
            run = b.run;
            few = b.few;
          })) f.first;
    }

-- ---- an own frame goes

-- the first message goes on as the frame has more
pub cut-sums : (given : Given) (runs : List Run) (mine theirs : Kept) (own count size ansno place : ℕ) (octets : List ℕ) (ms : List Message) (k : Kind) (head : Head)
    → Sums given (record { tag = record { kind = k; request = place; ansno = ansno }; octets = octets } ∷ ms) runs mine theirs own count
    → head.kind ≡ k → head.more ≡ nat_lt size (length octets) → (is_reply k ≡ true → 0 < theirs.waiting)
    → ((begins mine head ≡ is_msg k) × (is_partly mine ≡ false)) ⊎ ((begins mine head ≡ false) × (is_partly mine ≡ is_msg k))
    → Sums given (left_of size (record { tag = record { kind = k; request = place; ansno = ansno }; octets = octets }) ms) runs (mine_after mine head) (theirs_after theirs head) (count_after own mine head) count
cut-sums given runs mine theirs own count size ansno place octets ms k head s kind more waits b = record {
  taken_replies = s.taken_replies;
  given_replies = s.given_replies;
  first_asked = s.first_asked;
  first_owed = s.first_owed;
  asked = (let a = s.asked in let n = news in omega (arith, a, n));
  partly = rw (kind, more) (still (nat_lt size (length octets)));
  replied = (let r = s.replied in let w = two (begins mine head) mine.waiting in let v = two (begins mine head) own in omega (arith, r, w, v));
  owed = ap (λ (n : ℕ). s.given_replies + given.owed + ended_of is_msg runs + n) same-open ∙ s.owed;
  replies = (let r = s.replies in let w = answered in omega (arith, r, w));
  placed = s.placed;
  marked = s.marked;
  answerable = more-answerable mine.waiting (mine_after mine head).waiting runs (let w = two (begins mine head) mine.waiting in omega (arith, w)) s.answerable;
}
  where
    m : Message
    m = record { tag = record { kind = k; request = place; ansno = ansno }; octets = octets }

    two : (b : Bool) (n : ℕ) → (if b then n + 1 else n) ≡ n + (if b then 1 else 0)
    two true n = refl
    two false n = omega arith

    still : (l : Bool) → as_number (is_msg k && l) ≤ asks (if l then record { tag = record { kind = k; request = place; ansno = ansno }; octets = drop size octets } ∷ ms else ms)
    still true = of (is_msg k)
      where
        of : (a : Bool) → as_number (a && true) ≤ (if a then asks ms + 1 else asks ms)
        of true = omega arith
        of false = omega arith
    still false = of (is_msg k)
      where
        of : (a : Bool) → as_number (a && false) ≤ asks ms
        of true = omega arith
        of false = omega arith

    news : count_after own mine head + new_asks (left_of size m ms) (mine_after mine head) ≡ own + new_asks (m ∷ ms) mine
    news =
        ap (λ (n : ℕ). count_after own mine head + (n - as_number (is_partly (mine_after mine head)))) (asks-left (nat_lt size (length octets)))
        ∙ ap (λ (p : Bool). count_after own mine head + ((if is_msg k && nat_lt size (length octets) then asks ms + 1 else asks ms) - as_number p)) partly-after
        ∙ main (begins mine head) (is_partly mine) (is_msg k) (nat_lt size (length octets)) b
      where
        asks-left : (l : Bool) → asks (if l then record { tag = record { kind = k; request = place; ansno = ansno }; octets = drop size octets } ∷ ms else ms) ≡ (if is_msg k && l then asks ms + 1 else asks ms)
        asks-left true = of (is_msg k)
          where
            of : (a : Bool) → (if a then asks ms + 1 else asks ms) ≡ (if a && true then asks ms + 1 else asks ms)
            of true = refl
            of false = refl
        asks-left false = of (is_msg k)
          where
            of : (a : Bool) → asks ms ≡ (if a && false then asks ms + 1 else asks ms)
            of true = refl
            of false = refl

        partly-after : is_partly (mine_after mine head) ≡ (is_msg k && nat_lt size (length octets))
        partly-after = rw (kind, more) refl

        main : (bg pt a l : Bool) → ((bg ≡ a) × (pt ≡ false)) ⊎ ((bg ≡ false) × (pt ≡ a))
            → (if bg then own + 1 else own) + ((if a && l then asks ms + 1 else asks ms) - as_number (a && l)) ≡ own + ((if a then asks ms + 1 else asks ms) - as_number pt)
        main bg pt a l (inl w) = rw (w.0, w.1) (fresh a l)
          where
            fresh : (a l : Bool) → (if a then own + 1 else own) + ((if a && l then asks ms + 1 else asks ms) - as_number (a && l)) ≡ own + ((if a then asks ms + 1 else asks ms) - as_number false)
            fresh true true = omega arith
            fresh true false = omega arith
            fresh false l = refl
        main bg pt a l (inr w) = rw (w.0, w.1) (on a l)
          where
            on : (a l : Bool) → own + ((if a && l then asks ms + 1 else asks ms) - as_number (a && l)) ≡ own + ((if a then asks ms + 1 else asks ms) - as_number a)
            on true true = refl
            on true false = omega arith
            on false l = refl

    same-open : as_number (is_open (theirs_after theirs head)) ≡ as_number (is_open theirs)
    same-open = of (is_reply head.kind) (not head.more && not (is_ans head.kind))
      where
        of : (a b : Bool) → as_number (is_open (if a then (if b then record theirs { waiting = theirs.waiting - 1; kind = None; answers = [] } else record theirs { kind = Some head.kind; answers = if is_ans head.kind then (if head.more then continued head.ansno head.size theirs.answers else completed head.ansno theirs.answers) else theirs.answers }) else theirs)) ≡ as_number (is_open theirs)
        of true true = refl
        of true false = refl
        of false b = refl

    answered : theirs.waiting + replies (left_of size m ms) ≡ (theirs_after theirs head).waiting + replies (m ∷ ms)
    answered = rw (kind, more) (of k refl (nat_lt size (length octets)) waits)
      where
        of : (j : Kind) → k ≡ j → (l : Bool) → (is_reply j ≡ true → 0 < theirs.waiting)
            → theirs.waiting + replies (if l then record { tag = record { kind = j; request = place; ansno = ansno }; octets = drop size octets } ∷ ms else ms)
            ≡ (if is_reply j then (if not l && not (is_ans j) then record theirs { waiting = theirs.waiting - 1; kind = None; answers = [] } else record theirs { kind = Some j; answers = if is_ans j then (if l then continued head.ansno head.size theirs.answers else completed head.ansno theirs.answers) else theirs.answers }) else theirs).waiting
            + (if ends_reply j then replies ms + 1 else replies ms)
        of Kind.Msg e true p = refl
        of Kind.Msg e false p = refl
        of Kind.Rpy e true p = refl
        of Kind.Rpy e false p = let q = p refl in omega (arith, q)
        of Kind.Err e true p = refl
        of Kind.Err e false p = let q = p refl in omega (arith, q)
        of Kind.Ans e true p = refl
        of Kind.Ans e false p = refl
        of Kind.Nul e true p = refl
        of Kind.Nul e false p = let q = p refl in omega (arith, q)

-- ---- a message is given

pub ask-sums : (given : Given) (queue : List Message) (runs : List Run) (mine theirs : Kept) (own count place : ℕ) (octets : List ℕ)
    → Sums given queue runs mine theirs own count
    → Sums (after_given given Kind.Msg) (queue ++ record { tag = record { kind = Kind.Msg; request = place; ansno = 0 }; octets = octets } ∷ []) runs mine theirs own count
ask-sums given queue runs mine theirs own count place octets s =
    let a = append-asks (record { tag = record { kind = Kind.Msg; request = place; ansno = 0 }; octets = octets }) queue in
    let r = append-replies (record { tag = record { kind = Kind.Msg; request = place; ansno = 0 }; octets = octets }) queue in
    record {
      taken_replies = s.taken_replies;
      given_replies = s.given_replies;
      first_asked = s.first_asked;
      first_owed = s.first_owed;
      asked = (let d = s.asked in let p = s.partly in omega (arith, a, d, p));
      partly = (let p = s.partly in omega (arith, a, p));
      replied = s.replied;
      owed = s.owed;
      replies = (let d = s.replies in omega (arith, r, d));
      placed = s.placed;
      marked = s.marked;
      answerable = s.answerable;
    }

-- a whole reply
pub reply-given : (given : Given) (queue : List Message) (runs : List Run) (mine theirs : Kept) (own count place : ℕ) (k : Kind) (octets : List ℕ)
    → Sums given queue runs mine theirs own count → ends_reply k ≡ true → 0 < given.owed
    → Sums (after_reply given) (queue ++ record { tag = record { kind = k; request = place; ansno = 0 }; octets = octets } ∷ []) runs mine theirs own count
reply-given given queue runs mine theirs own count place k octets s e o =
    let a = append-asks (record { tag = record { kind = k; request = place; ansno = 0 }; octets = octets }) queue in
    let r = append-replies (record { tag = record { kind = k; request = place; ansno = 0 }; octets = octets }) queue in
    let n : as_number (is_msg k) ≡ 0 = no-msg k e in
    let y = ap (λ (b : Bool). as_number b) e in
    record {
      taken_replies = s.taken_replies;
      given_replies = s.given_replies + 1;
      first_asked = s.first_asked;
      first_owed = (let f = s.first_owed in omega (arith, f));
      asked = (let d = s.asked in omega (arith, a, d, n));
      partly = (let p = s.partly in omega (arith, a, p));
      replied = s.replied;
      owed = (let d = s.owed in omega (arith, d, o));
      replies = (let d = s.replies in omega (arith, r, d, y));
      placed = (let g : s.given_replies + given.owed ≡ s.given_replies + 1 + (given.owed - 1) = omega (arith, o) in subst (λ (x : ℕ). IsPlaced s.taken_replies x runs) g s.placed);
      marked = s.marked;
      answerable = s.answerable;
    }
  where
    no-msg : (k : Kind) → ends_reply k ≡ true → as_number (is_msg k) ≡ 0
    no-msg Kind.Msg e = absurd (let g : false ≡ true = e in cc)
    no-msg Kind.Rpy e = refl
    no-msg Kind.Err e = refl
    no-msg Kind.Ans e = refl
    no-msg Kind.Nul e = refl

-- an answer of many
pub answer-given : (given : Given) (queue : List Message) (runs : List Run) (mine theirs : Kept) (own count ansno place : ℕ) (octets : List ℕ) (answers : Option ℕ)
    → Sums given queue runs mine theirs own count
    → Sums (record given { answers = answers }) (queue ++ record { tag = record { kind = Kind.Ans; request = place; ansno = ansno }; octets = octets } ∷ []) runs mine theirs own count
answer-given given queue runs mine theirs own count ansno place octets answers s =
    let a = append-asks (record { tag = record { kind = Kind.Ans; request = place; ansno = ansno }; octets = octets }) queue in
    let r = append-replies (record { tag = record { kind = Kind.Ans; request = place; ansno = ansno }; octets = octets }) queue in
    record {
      taken_replies = s.taken_replies;
      given_replies = s.given_replies;
      first_asked = s.first_asked;
      first_owed = s.first_owed;
      asked = (let d = s.asked in omega (arith, a, d));
      partly = (let p = s.partly in omega (arith, a, p));
      replied = s.replied;
      owed = s.owed;
      replies = (let d = s.replies in omega (arith, r, d));
      placed = s.placed;
      marked = s.marked;
      answerable = s.answerable;
    }
