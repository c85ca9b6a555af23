-- The lives of one number at one end.
use Rattle.std.proofs.Common.{◌≡◌, ℕ, suc, ◌+◌, ◌<◌, ◌≤◌, ◌==◌, nat_lt, Bool, true, false, not, ◌&&◌, ◌||◌, if◌then◌else◌, List, [], ◌∷◌, ◌++◌, length, refl, sym, ◌∙◌, arith, subst, length-append}
use Rattle.std.proofs.lemmas.Bool.Decides.{nat_tests}
use Rattle.beep_history.specs.declared.journal.Side.{Side}
use Rattle.beep_two_journals.proofs.Entries.{Says, starts, closes, says_else, Entry, asks, replies, on, is_start, asked, replied, said, answers_to, lives, ended, is_live, NoStart, IsLawfulAsk, IsLawfulReply, IsLawfulEnd}

-- ---- tests

differ : (b : Bool) → b ≡ true → b ≡ false → ⊥
differ b t f = let e : true ≡ false = sym t ∙ f in cc

live-less : (positive c e : Bool) → (positive && not e) ≡ false → (positive && not (c || e)) ≡ false
live-less true true e h = refl
live-less true false e h = h
live-less false c e h = refl

-- a number that is not live stays so but for a granted start
pub live-after : (n : ℕ) (by : Side) (ok : Bool) (past : List Entry) → (ok && is_start n (answers_to by past)) ≡ false → is_live n past ≡ false
    → is_live n (replies by ok ∷ past) ≡ false
live-after n by ok past e h = rw e (live-less (nat_lt 0 (lives n past)) _ (ended n (lives n past) past) h)

pub lives-same : (n : ℕ) (by : Side) (ok : Bool) (past : List Entry) → (ok && is_start n (answers_to by past)) ≡ false
    → lives n (replies by ok ∷ past) ≡ lives n past
lives-same n by ok past e = rw e

pub lives-more : (n : ℕ) (by : Side) (ok : Bool) (past : List Entry) → (ok && is_start n (answers_to by past)) ≡ true → is_live n past ≡ false
    → lives n (replies by ok ∷ past) ≡ lives n past + 1
lives-more n by ok past e h = rw (e, h)

-- ---- what requests say, by their places

pub said-stable : (p : ℕ) (newer says : List Says) → p < length says → said p (newer ++ says) ≡ said p says
said-stable p [] says h = refl
said-stable p (s ∷ newer) says h =
    let e : (length (newer ++ says) == p) ≡ false = not-at (length (newer ++ says)) p (omega (arith, length-append newer says)) in
    rw e (said-stable p newer says h)
  where
    not-at : (a b : ℕ) → b < a → (a == b) ≡ false
    not-at a b h = grind (arith, nat_tests)

-- the starts of n among these requests that these replies granted
abbrev pub granted : ℕ → List Says → List Bool → ℕ
granted n says [] = 0
granted n says (ok ∷ oks) = if ok && is_start n (said (length oks) says) then granted n says oks + 1 else granted n says oks

pub granted-stable : (n : ℕ) (newer says : List Says) (oks : List Bool) → length oks ≤ length says → granted n (newer ++ says) oks ≡ granted n says oks
granted-stable n newer says [] h = refl
granted-stable n newer says (ok ∷ oks) h =
    rw (said-stable (length oks) newer says h, granted-stable n newer says oks (omega arith))

and-false : (a b : Bool) → b ≡ false → (a && b) ≡ false
and-false true b e = e
and-false false b e = refl

pub granted-more : (n : ℕ) (says : List Says) (newer oks : List Bool) → ((p : ℕ) → length oks ≤ p → is_start n (said p says) ≡ false)
    → granted n says (newer ++ oks) ≡ granted n says oks
granted-more n says [] oks none = refl
granted-more n says (ok ∷ newer) oks none =
    let e = and-false ok _ (none (length (newer ++ oks)) (omega (arith, length-append newer oks))) in
    rw e (granted-more n says newer oks none)

-- ---- the end that may start n

pub record Starter (n : ℕ) (past : List Entry) : Type 0 where
  pub fit : length (replied Side.Received past) ≤ length (asked Side.Sent past)
  pub count : lives n past ≡ granted n (asked Side.Sent past) (replied Side.Received past)
  pub one : (p q : ℕ) → length (replied Side.Received past) ≤ p → length (replied Side.Received past) ≤ q
      → is_start n (said p (asked Side.Sent past)) ≡ true → is_start n (said q (asked Side.Sent past)) ≡ true → p ≡ q
  pub idle : (p : ℕ) → length (replied Side.Received past) ≤ p → is_start n (said p (asked Side.Sent past)) ≡ true → is_live n past ≡ false

ask-law : (own : ℕ → Bool) (n : ℕ) (past : List Entry) (says : Says) → IsLawfulAsk own past says → is_start n says ≡ true
    → (own n ≡ true) × (is_live n past ≡ false) × NoStart n past
ask-law own n past (starts m) l e =
    let same : m ≡ n = same-number m n e in
    subst (λ (k : ℕ). (own k ≡ true) × (is_live k past ≡ false) × NoStart k past) same l
  where
    same-number : (a b : ℕ) → (a == b) ≡ true → a ≡ b
    same-number a b e = grind (arith, nat_tests)
ask-law own n past (closes m) l e = cc
ask-law own n past says_else l e = cc

-- a further request: a start of n stands where it does, or as one of the earlier requests
said-first : (n p : ℕ) (says : Says) (others : List Says) (P : Type 0) → (is_start n says ≡ true → length others ≡ p → P)
    → (is_start n (said p others) ≡ true → P) → is_start n (said p (says ∷ others)) ≡ true → P
said-first n p says others P here there e = said-by (length others == p) refl e
  where
    at : (a b : ℕ) → (a == b) ≡ true → a ≡ b
    at a b e = grind (arith, nat_tests)

    said-by : (b : Bool) → (length others == p) ≡ b → is_start n (if b then says else said p others) ≡ true → P
    said-by true e f = here f (at (length others) p e)
    said-by false e f = there f

starter-asks : (own : ℕ → Bool) (n : ℕ) (past : List Entry) (says : Says) → IsLawfulAsk own past says → Starter n past → Starter n (asks Side.Sent says ∷ past)
starter-asks own n past says l s = record {
  fit = omega (arith, s.fit);
  count = s.count ∙ sym (granted-stable n (says ∷ []) (asked Side.Sent past) (replied Side.Received past) s.fit);
  one = λ p q hp hq ep eq.
      said-first n p says (asked Side.Sent past) (p ≡ q)
      (λ st at. said-first n q says (asked Side.Sent past) (p ≡ q) (λ st' at'. sym at ∙ at')
      (λ f. absurd (differ _ f ((ask-law own n past says l st).2 q hq))) eq)
      (λ f. said-first n q says (asked Side.Sent past) (p ≡ q)
      (λ st' at'. absurd (differ _ f ((ask-law own n past says l st').2 p hp))) (λ f'. s.one p q hp hq f f') eq) ep;
  idle = λ p hp ep. said-first n p says (asked Side.Sent past) (is_live n past ≡ false)
      (λ st at. (ask-law own n past says l st).1) (λ f. s.idle p hp f) ep;
}

starter-gets : (n : ℕ) (past : List Entry) (ok : Bool) → length (replied Side.Received past) < length (asked Side.Sent past) → Starter n past
    → (b : Bool) → (ok && is_start n (answers_to Side.Received past)) ≡ b → Starter n (replies Side.Received ok ∷ past)
starter-gets n past ok fit s true e =
    let started : is_start n (said (length (replied Side.Received past)) (asked Side.Sent past)) ≡ true = and-second ok _ e in
    let idle = s.idle (length (replied Side.Received past)) (omega arith) started in
    record {
      fit = fit;
      count = lives-more n Side.Received ok past e idle ∙ rw (e, s.count);
      one = λ p q hp hq ep eq. s.one p q (omega arith) (omega arith) ep eq;
      idle = λ p hp ep. absurd (later _ p hp (s.one _ p (omega arith) (omega arith) started ep));
    }
  where
    and-second : (a b : Bool) → (a && b) ≡ true → b ≡ true
    and-second true b e = e
    and-second false b e = cc

    later : (a p : ℕ) → suc a ≤ p → a ≡ p → ⊥
    later a p h e = omega arith
starter-gets n past ok fit s false e = record {
  fit = fit;
  count = lives-same n Side.Received ok past e ∙ s.count ∙ rw e;
  one = λ p q hp hq ep eq. s.one p q (omega arith) (omega arith) ep eq;
  idle = λ p hp ep. live-after n Side.Received ok past e (s.idle p (omega arith) ep);
}

starter-answers : (own : ℕ → Bool) (n : ℕ) (past : List Entry) (ok : Bool) → own n ≡ true → IsLawfulReply own past ok → Starter n past
    → (b : Bool) → (ok && is_start n (answers_to Side.Sent past)) ≡ b → Starter n (replies Side.Sent ok ∷ past)
starter-answers own n past ok mine l s true e = absurd (differ _ mine (l n e).0)
starter-answers own n past ok mine l s false e = record {
  fit = s.fit;
  count = lives-same n Side.Sent ok past e ∙ s.count;
  one = s.one;
  idle = λ p hp ep. live-after n Side.Sent ok past e (s.idle p hp ep);
}

pub starter : (own : ℕ → Bool) (n : ℕ) (past : List Entry) → own n ≡ true → IsLawfulEnd own past → Starter n past
starter own n [] mine l = record { fit = omega arith; count = refl; one = λ p q hp hq ep eq. cc; idle = λ p hp ep. cc }
starter own n (asks Side.Received says ∷ past) mine l =
    let s = starter own n past mine l in record { fit = s.fit; count = s.count; one = s.one; idle = s.idle }
starter own n (asks Side.Sent says ∷ past) mine l = starter-asks own n past says l.0 (starter own n past mine l.1)
starter own n (replies Side.Received ok ∷ past) mine l = starter-gets n past ok l.0 (starter own n past mine l.1) _ refl
starter own n (replies Side.Sent ok ∷ past) mine l = starter-answers own n past ok mine l.1 (starter own n past mine l.2) _ refl
starter own n (on m item ∷ past) mine l =
    let s = starter own n past mine l.1 in record { fit = s.fit; count = s.count; one = s.one; idle = s.idle }

-- ---- the other end

pub record Acceptor (n : ℕ) (past : List Entry) : Type 0 where
  pub fit : length (replied Side.Sent past) ≤ length (asked Side.Received past)
  pub never : (p : ℕ) → is_start n (said p (asked Side.Sent past)) ≡ false
  pub count : lives n past ≡ granted n (asked Side.Received past) (replied Side.Sent past)

not-true : (b : Bool) → (b ≡ true → ⊥) → b ≡ false
not-true true h = absurd (h refl)
not-true false h = refl

acceptor-answers : (own : ℕ → Bool) (n : ℕ) (past : List Entry) (ok : Bool) → length (replied Side.Sent past) < length (asked Side.Received past)
    → IsLawfulReply own past ok → Acceptor n past
    → (b : Bool) → (ok && is_start n (answers_to Side.Sent past)) ≡ b → Acceptor n (replies Side.Sent ok ∷ past)
acceptor-answers own n past ok fit l s true e =
    record { fit = fit; never = s.never; count = lives-more n Side.Sent ok past e (l n e).1 ∙ rw (e, s.count) }
acceptor-answers own n past ok fit l s false e =
    record { fit = fit; never = s.never; count = lives-same n Side.Sent ok past e ∙ s.count ∙ rw e }

pub acceptor : (own : ℕ → Bool) (n : ℕ) (past : List Entry) → own n ≡ false → IsLawfulEnd own past → Acceptor n past
acceptor own n [] theirs l = record { fit = omega arith; never = λ p. refl; count = refl }
acceptor own n (asks Side.Received says ∷ past) theirs l =
    let s = acceptor own n past theirs l in
    record {
      fit = omega (arith, s.fit);
      never = s.never;
      count = s.count ∙ sym (granted-stable n (says ∷ []) (asked Side.Received past) (replied Side.Sent past) s.fit);
    }
acceptor own n (asks Side.Sent says ∷ past) theirs l =
    let s = acceptor own n past theirs l.1 in
    record {
      fit = s.fit;
      never = λ p. not-true _ (λ e. said-first n p says (asked Side.Sent past) ⊥
          (λ st at. differ _ (ask-law own n past says l.0 st).0 theirs) (λ f. differ _ f (s.never p)) e);
      count = s.count;
    }
acceptor own n (replies Side.Received ok ∷ past) theirs l =
    let s = acceptor own n past theirs l.1 in
    record {
      fit = s.fit;
      never = s.never;
      count = lives-same n Side.Received ok past (and-false ok _ (s.never (length (replied Side.Received past)))) ∙ s.count;
    }
acceptor own n (replies Side.Sent ok ∷ past) theirs l = acceptor-answers own n past ok l.0 l.1 (acceptor own n past theirs l.2) _ refl
acceptor own n (on m item ∷ past) theirs l =
    let s = acceptor own n past theirs l.1 in record { fit = s.fit; never = s.never; count = s.count }
