-- The queue fits: its next frame breaks no rule, and after it the queue fits again.
use Rattle.std.proofs.Common.{◌≡◌, ℕ, ◌+◌, ◌%◌, ◌^◌, ◌<◌, ◌≤◌, ◌==◌, nat_lt, Bool, true, false, not, ◌&&◌, if◌then◌else◌, List, [], ◌∷◌, length, Option, Some, None, refl, sym, ap, ◌∙◌, arith, subst, ⊎_elim}
use Rattle.std.specs.Option.{option_map_or}
use Rattle.std.proofs.lemmas.Bool.Decides.{nat_tests}
use Rattle.beep_frame.specs.declared.head.Head.{Head}
use Rattle.beep_frame.specs.declared.kind.Kind.{Kind}
use Rattle.beep_history.specs.declared.limits.TheConstants.{MAX_REQUESTS}
use Rattle.beep_frame.specs.Frame.{head_of, is_msg, is_ans, is_nul, is_reply}
use Rattle.beep_exchange.specs.Kept.{Kept, begins, judged}
use Rattle.beep_outbox.specs.Queue.{Message}
use Rattle.beep_channel.specs.Fits.{asks, replies, so_far_after, IsRun, current, was_more, OneAnswer, IsWhole, IsBegun, Fits, next_number, IsCut, mine_after, theirs_after, left_of, count_after, is_shaped}
use Rattle.beep_channel.proofs.JudgedLemmas.{on-begins}
use Rattle.beep_channel.proofs.NextLemmas.{whole-next, begun-next, reply-owes}
use Rattle.beep_channel.proofs.AfterLemmas.{Next, After, after-any, after-after, after-within, one-new, one-more, one-done}

pub first-of : (x y : Message) (xs ys : List Message) → x ∷ xs ≡ y ∷ ys → x ≡ y
first-of x y xs ys e = cc

others-of : (x y : Message) (xs ys : List Message) → x ∷ xs ≡ y ∷ ys → xs ≡ ys
others-of x y xs ys e = cc

module _ (mine theirs : Kept) (channel seqno size ansno place : ℕ) (octets : List ℕ) (ms : List Message) (count owed : ℕ) (k : Kind)
    (fits : Fits count owed (record { tag = record { kind = k; request = place; ansno = ansno }; octets = octets } ∷ ms) mine theirs)
    (is_cut : IsCut size (record { tag = record { kind = k; request = place; ansno = ansno }; octets = octets })) where
  abbrev pub the-next : Head
  the-next = head_of k channel (next_number count k mine theirs) (nat_lt size (length octets)) seqno size ansno

  -- the parts of a message that is partly sent
  pub record Begun : Type 0 where
    pub before : Head
    pub last : mine.before ≡ Some before
    pub more : before.more ≡ true
    pub kind : before.kind ≡ k
    pub left : 0 < length octets
    pub no_nul : is_nul k ≡ false
    pub number : is_reply k ≡ true → before.msgno ≡ current theirs
    pub same : is_reply k ≡ true → theirs.kind ≡ Some k
    pub answer : is_ans k ≡ true → OneAnswer ansno theirs.answers
    pub answers : is_ans k ≡ false → theirs.answers ≡ []
    pub run : IsRun owed (so_far_after theirs.kind k) ms
    pub few : mine.waiting + asks ms ≤ MAX_REQUESTS

  pub begun : IsBegun owed (record { tag = record { kind = k; request = place; ansno = ansno }; octets = octets } ∷ ms) mine theirs → Begun
  begun b =
      let f : record { tag = record { kind = k; request = place; ansno = ansno }; octets = octets } ≡ b.first = first-of _ _ _ _ b.is in
      let o : ms ≡ b.others = others-of _ _ _ _ b.is in
      let fk : b.first.tag.kind ≡ k = ap (λ (m : Message). m.tag.kind) (sym f) in
      let fa : b.first.tag.ansno ≡ ansno = ap (λ (m : Message). m.tag.ansno) (sym f) in
      let fo : b.first.octets ≡ octets = ap (λ (m : Message). m.octets) (sym f) in
      record {
        before = b.before;
        last = b.last;
        more = b.more;
        kind = b.kind ∙ fk;
        left = subst (λ (os : List ℕ). 0 < length os) fo b.left;
        no_nul = subst (λ (x : Kind). is_nul x ≡ false) fk b.no_nul;
        number = subst (λ (x : Kind). is_reply x ≡ true → b.before.msgno ≡ current theirs) fk b.number;
        same = subst (λ (x : Kind). is_reply x ≡ true → theirs.kind ≡ Some x) fk b.same;
        answer = subst (λ (x : Kind). is_ans x ≡ true → OneAnswer ansno theirs.answers) fk (subst (λ (a : ℕ). is_ans b.first.tag.kind ≡ true → OneAnswer a theirs.answers) fa b.answer);
        answers = subst (λ (x : Kind). is_ans x ≡ false → theirs.answers ≡ []) fk b.answers;
        run = subst (λ (x : Kind). IsRun owed (so_far_after theirs.kind x) ms) fk (subst (λ (os : List Message). IsRun owed (so_far_after theirs.kind b.first.tag.kind) os) (sym o) b.run);
        few = subst (λ (os : List Message). mine.waiting + asks os ≤ MAX_REQUESTS) (sym o) b.few;
      }

  -- the next frame breaks no rule of the exchange
  pub next-judged : judged mine theirs the-next ≡ None
  next-judged = ⊎_elim
      (λ w. whole-next mine theirs channel seqno size ansno place octets ms count owed fits.idle fits.counted fits.within fits.kept fits.apart k w fits.demand is_cut)
      (λ b. let g : Begun = begun b in begun-next mine theirs channel seqno size ansno place octets ms count owed fits.idle fits.counted fits.within fits.kept fits.apart k
      g.before g.last g.more g.kind g.left g.no_nul g.number g.same g.answer g.run fits.demand is_cut)
      fits.first

  -- a message begins: a request is new
  pub whole-begins : was_more mine ≡ false → begins mine the-next ≡ is_msg k
  whole-begins e = of mine.before (next_number count k mine theirs) e
    where
      and-true : (b : Bool) → (b && true) ≡ b
      and-true true = refl
      and-true false = refl

      and-false : (b : Bool) → (b && false) ≡ false
      and-false true = refl
      and-false false = refl

      of : (before : Option Head) (number : ℕ) → option_map_or (λ (h : Head). h.more) before false ≡ false
          → (is_msg k && not (option_map_or (λ (b : Head). is_msg b.kind && (b.more && b.msgno == number)) before false)) ≡ is_msg k
      of None number e = and-true (is_msg k)
      of (Some b) number e = rw (e, and-false (is_msg b.kind)) (and-true (is_msg k))

  pub begun-begins : Begun → begins mine the-next ≡ false
  begun-begins g = of k g.kind
    where
      of : (k : Kind) → g.before.kind ≡ k → begins mine (head_of k channel (next_number count k mine theirs) (nat_lt size (length octets)) seqno size ansno) ≡ false
      of Kind.Msg e = on-begins mine (head_of Kind.Msg channel (next_number count Kind.Msg mine theirs) (nat_lt size (length octets)) seqno size ansno) g.before g.last g.more e (sym (rw (g.last, g.more) refl)) refl
      of Kind.Rpy e = refl
      of Kind.Err e = refl
      of Kind.Ans e = refl
      of Kind.Nul e = refl

  named-reply : is_reply k ≡ true → next_number count k mine theirs ≡ current theirs
  named-reply r = rw r refl

  whole-next-of : IsWhole owed (record { tag = record { kind = k; request = place; ansno = ansno }; octets = octets } ∷ ms) mine theirs
      → Next k ansno place size owed octets ms (next_number count k mine theirs) (mine_after mine the-next).waiting theirs
  whole-next-of w = record {
    run = w.run.2;
    few = rw (whole-begins w.complete) (few-of (is_msg k) w.few);
    answers = λ e. w.answers;
    grown = λ e. rw w.answers (one-new ansno size (is_cut.some (some-of k e w.run.1)), refl);
    named = named-reply;
    whole = nul-of k w.run.1;
    demand = fits.demand;
  }
    where
      few-of : (b : Bool) → mine.waiting + (if b then asks ms + 1 else asks ms) ≤ MAX_REQUESTS → (if b then mine.waiting + 1 else mine.waiting) + asks ms ≤ MAX_REQUESTS
      few-of true e = omega (arith, e)
      few-of false e = e

      some-of : (k : Kind) → is_ans k ≡ true → is_shaped k octets ≡ true → 0 < length octets
      some-of Kind.Msg e s = cc
      some-of Kind.Rpy e s = cc
      some-of Kind.Err e s = cc
      some-of Kind.Ans e s = grind (arith, nat_tests, s)
      some-of Kind.Nul e s = cc

      nul-of : (k : Kind) → is_shaped k octets ≡ true → nat_lt size (length octets) ≡ true → is_nul k ≡ false
      nul-of Kind.Msg s e = refl
      nul-of Kind.Rpy s e = refl
      nul-of Kind.Err s e = refl
      nul-of Kind.Ans s e = refl
      nul-of Kind.Nul s e = absurd (let a : length octets ≡ 0 = grind (arith, nat_tests, s) in let b : size < length octets = grind (arith, nat_tests, e) in omega (arith, a, b))

  begun-next-of : Begun → Next k ansno place size owed octets ms (next_number count k mine theirs) (mine_after mine the-next).waiting theirs
  begun-next-of g = record {
    run = g.run;
    few = rw (begun-begins g) g.few;
    answers = g.answers;
    grown = λ e. (one-more ansno size theirs.answers (g.answer e), one-done ansno theirs.answers (g.answer e));
    named = named-reply;
    whole = λ e. g.no_nul;
    demand = fits.demand;
  }

  pub numbered : begins mine the-next ≡ true → next_number count k mine theirs ≡ count % 2 ^ 31
  numbered e = ⊎_elim
      (λ w. of k w.complete (sym (whole-begins w.complete) ∙ e))
      (λ b. absurd (let f : true ≡ false = sym e ∙ begun-begins (begun b) in cc))
      fits.first
    where
      of : (k : Kind) → was_more mine ≡ false → is_msg k ≡ true → next_number count k mine theirs ≡ count % 2 ^ 31
      of Kind.Msg c e = rw c refl
      of Kind.Rpy c e = cc
      of Kind.Err c e = cc
      of Kind.Ans c e = cc
      of Kind.Nul c e = cc

  roomy : begins mine the-next ≡ true → mine.waiting < MAX_REQUESTS
  roomy e = ⊎_elim
      (λ w. of (is_msg k) w.few (sym (whole-begins w.complete) ∙ e))
      (λ b. absurd (let f : true ≡ false = sym e ∙ begun-begins (begun b) in cc))
      fits.first
    where
      of : (b : Bool) → mine.waiting + (if b then asks ms + 1 else asks ms) ≤ MAX_REQUESTS → b ≡ true → mine.waiting < MAX_REQUESTS
      of true f e = omega (arith, f)
      of false f e = cc

  own-on : (is_msg k && nat_lt size (length octets)) ≡ true → 0 < count_after count mine the-next
  own-on e = ⊎_elim
      (λ w. whole-own (begins mine the-next) (is_msg k) (nat_lt size (length octets)) (whole-begins w.complete) e)
      (λ b. begun-own (begins mine the-next) (fits.own (let g : Begun = begun b in rw (g.last, g.more, g.kind) (msg-both (is_msg k) (nat_lt size (length octets)) e))))
      fits.first
    where
      whole-own : (b m l : Bool) → b ≡ m → (m && l) ≡ true → 0 < (if b then count + 1 else count)
      whole-own true m l e f = omega arith
      whole-own false true l e f = absurd (let g : false ≡ true = e in cc)
      whole-own false false l e f = absurd (let g : false ≡ true = f in cc)

      msg-both : (m l : Bool) → (m && l) ≡ true → (m && true) ≡ true
      msg-both true l e = refl
      msg-both false l e = e

      begun-own : (b : Bool) → 0 < count → 0 < (if b then count + 1 else count)
      begun-own true p = omega arith
      begun-own false p = p

  -- and after it the queue fits
  pub next-fits : Fits (count_after count mine the-next) owed (left_of size (record { tag = record { kind = k; request = place; ansno = ansno }; octets = octets }) ms) (mine_after mine the-next) (theirs_after theirs the-next)
  next-fits =
      let n : Next k ansno place size owed octets ms (next_number count k mine theirs) (mine_after mine the-next).waiting theirs = ⊎_elim whole-next-of (λ b. begun-next-of (begun b)) fits.first in
      let a : After owed (left_of size (record { tag = record { kind = k; request = place; ansno = ansno }; octets = octets }) ms) (mine_after mine the-next) (theirs_after theirs the-next)
      = after-any mine theirs channel (next_number count k mine theirs) seqno size ansno place octets ms owed fits.kept fits.apart k (nat_lt size (length octets)) refl n in
      record {
        idle = refl;
        counted = after-after count mine the-next fits.counted numbered;
        within = after-within count mine the-next fits.counted roomy fits.within;
        own = own-on;
        demand = a.demand;
        kept = a.kept;
        apart = a.apart;
        first = a.first;
      }

-- where a reply is next, a request waits for it
pub reply-waits : (mine theirs : Kept) (ansno place : ℕ) (octets : List ℕ) (ms : List Message) (count owed : ℕ) (k : Kind)
    → Fits count owed (record { tag = record { kind = k; request = place; ansno = ansno }; octets = octets } ∷ ms) mine theirs → is_reply k ≡ true → 0 < theirs.waiting
reply-waits mine theirs ansno place octets ms count owed k fits r =
    let o : 0 < replies (record { tag = record { kind = k; request = place; ansno = ansno }; octets = octets } ∷ ms) + owed = ⊎_elim
    (λ w. reply-owes owed theirs.kind k ms r w.run.2)
    (λ b. let f : record { tag = record { kind = k; request = place; ansno = ansno }; octets = octets } ≡ b.first = first-of _ _ _ _ b.is in
    let e : ms ≡ b.others = others-of _ _ _ _ b.is in
    reply-owes owed theirs.kind k ms r
    (subst (λ (x : Kind). IsRun owed (so_far_after theirs.kind x) ms) (ap (λ (m : Message). m.tag.kind) (sym f)) (subst (λ (os : List Message). IsRun owed (so_far_after theirs.kind b.first.tag.kind) os) (sym e) b.run)))
    fits.first in
    omega (arith, o, fits.demand)
