-- What each end has of one life.
use Rattle.std.proofs.Common.{◌≡◌, ℕ, ◌<◌, ◌==◌, nat_lt, Bool, true, false, not, ◌&&◌, ◌||◌, if◌then◌else◌, List, [], ◌∷◌, ◌++◌, refl, sym, ap, ◌∙◌, arith, subst, append_assoc}
use Rattle.std.proofs.lemmas.Bool.{lt-ltb, ltb-true}
use Rattle.std.proofs.Math.Path.{fun_ext}
use Rattle.std.proofs.lemmas.Bool.Decides.{nat_tests}
use Rattle.beep_history.specs.declared.journal.Side.{Side}
use Rattle.beep_history.specs.Journal.{turned, Item, began, passed, told}
use Rattle.beep_two_ends.specs.Seen.{is_received, arrived, sent}
use Rattle.beep_two_journals.proofs.Entries.{Entry, asks, replies, on, lives, ended, is_live, life_now, life, IsLawfulEnd, came, went, comes, turned_entry, SeesAll, Causal, SameLife, LifeSees}
use Rattle.beep_two_journals.proofs.CountLemmas.{same_count}

-- ---- entries

module _ (past : List Item) where
  pub sent-received : (item : Item) → is_received item ≡ true → sent (item ∷ past) ≡ sent past
  sent-received (began Side.Received head) e = refl
  sent-received (passed Side.Received head payload) e = refl
  sent-received (told Side.Received seq) e = refl
  sent-received (began Side.Sent head) e = cc
  sent-received (passed Side.Sent head payload) e = cc
  sent-received (told Side.Sent seq) e = cc

  pub arrived-sent : (item : Item) → is_received item ≡ false → arrived (item ∷ past) ≡ arrived past
  arrived-sent (began Side.Received head) e = cc
  arrived-sent (passed Side.Received head payload) e = cc
  arrived-sent (told Side.Received seq) e = cc
  arrived-sent (began Side.Sent head) e = refl
  arrived-sent (passed Side.Sent head payload) e = refl
  arrived-sent (told Side.Sent seq) e = refl

  pub arrived-received : (item : Item) → is_received item ≡ true → arrived (item ∷ past) ≡ item ∷ arrived past
  arrived-received (began Side.Received head) e = refl
  arrived-received (passed Side.Received head payload) e = refl
  arrived-received (told Side.Received seq) e = refl
  arrived-received (began Side.Sent head) e = cc
  arrived-received (passed Side.Sent head payload) e = cc
  arrived-received (told Side.Sent seq) e = cc

  pub sent-turned : (item : Item) → is_received item ≡ true → sent (turned item ∷ past) ≡ item ∷ sent past
  sent-turned (began Side.Received head) e = refl
  sent-turned (passed Side.Received head payload) e = refl
  sent-turned (told Side.Received seq) e = refl
  sent-turned (began Side.Sent head) e = cc
  sent-turned (passed Side.Sent head payload) e = cc
  sent-turned (told Side.Sent seq) e = cc

pub turned-flips : (item : Item) → is_received (turned item) ≡ not (is_received item)
turned-flips (began Side.Received head) = refl
turned-flips (passed Side.Received head payload) = refl
turned-flips (told Side.Received seq) = refl
turned-flips (began Side.Sent head) = refl
turned-flips (passed Side.Sent head payload) = refl
turned-flips (told Side.Sent seq) = refl

pub turned-twice : (item : Item) → turned (turned item) ≡ item
turned-twice (began Side.Received head) = refl
turned-twice (passed Side.Received head payload) = refl
turned-twice (told Side.Received seq) = refl
turned-twice (began Side.Sent head) = refl
turned-twice (passed Side.Sent head payload) = refl
turned-twice (told Side.Sent seq) = refl

pub entry-twice : (entry : Entry) → turned_entry (turned_entry entry) ≡ entry
entry-twice (asks Side.Received says) = refl
entry-twice (asks Side.Sent says) = refl
entry-twice (replies Side.Received ok) = refl
entry-twice (replies Side.Sent ok) = refl
entry-twice (on n item) = ap (λ (i : Item). on n i) (turned-twice item)

-- what an entry that came adds to a life, of what was sent, and the other way round
pub sent-if : (item : Item) (xs : List Item) (t : Bool) → is_received item ≡ true → sent (if t then item ∷ xs else xs) ≡ sent xs
sent-if item xs true e = sent-received xs item e
sent-if item xs false e = refl

pub arrived-if : (item : Item) (xs : List Item) (t : Bool) → is_received item ≡ false → arrived (if t then item ∷ xs else xs) ≡ arrived xs
arrived-if item xs true e = arrived-sent xs item e
arrived-if item xs false e = refl

module _ (n k : ℕ) (past : List Entry) where
  pub life-came : (entry : Entry) → comes entry ≡ true → sent (life n k (entry ∷ past)) ≡ sent (life n k past)
  life-came (asks by says) e = refl
  life-came (replies by ok) e = refl
  life-came (on m item) e = sent-if item (life n k past) (m == n && life_now n past == k) e

  pub life-went : (entry : Entry) → comes entry ≡ false → arrived (life n k (entry ∷ past)) ≡ arrived (life n k past)
  life-went (asks by says) e = refl
  life-went (replies by ok) e = refl
  life-went (on m item) e = arrived-if item (life n k past) (m == n && life_now n past == k) e

  pub ended-still : (entry : Entry) → ended n k (entry ∷ past) ≡ false → ended n k past ≡ false
  ended-still (asks by says) e = e
  ended-still (replies by ok) e = or-right _ _ e
    where
      or-right : (a b : Bool) → (a || b) ≡ false → b ≡ false
      or-right true b e = cc
      or-right false b e = e
  ended-still (on m item) e = e

pub end-tail : (own : ℕ → Bool) (entry : Entry) (past : List Entry) → IsLawfulEnd own (entry ∷ past) → IsLawfulEnd own past
end-tail own (asks Side.Received says) past l = l
end-tail own (asks Side.Sent says) past l = l.1
end-tail own (replies Side.Received ok) past l = l.1
end-tail own (replies Side.Sent ok) past l = l.2
end-tail own (on n item) past l = l.1

-- ---- the tests at the two ends

same-test : (m n k : ℕ) (mine theirs : ℕ) (there : Bool) → (((m == n) ≡ true) → (0 < mine) × (theirs ≡ mine) × (theirs ≡ k → there ≡ true))
    → 0 < k → (m == n && (if there then theirs else 0) == k) ≡ (m == n && mine == k)
same-test m n k mine theirs there h pos = same-test-by (m == n) h
  where
    zero-not : (0 == k) ≡ false
    zero-not = grind (arith, nat_tests)

    number : (a b : ℕ) → (a == b) ≡ true → a ≡ b
    number a b e = grind (arith, nat_tests)

    by-number : (b : Bool) → (theirs == k) ≡ b → (theirs ≡ k → there ≡ true) → ((if there then theirs else 0) == k) ≡ b
    by-number true e t = rw (t (number theirs k e)) e
    by-number false e t = by-there there
      where
        by-there : (c : Bool) → ((if c then theirs else 0) == k) ≡ false
        by-there true = e
        by-there false = zero-not

    same-test-by : (b : Bool) → (b ≡ true → (0 < mine) × (theirs ≡ mine) × (theirs ≡ k → there ≡ true))
        → (b && (if there then theirs else 0) == k) ≡ (b && mine == k)
    same-test-by false h = refl
    same-test-by true h =
        let f = h refl in by-number (theirs == k) refl f.2 ∙ ap (λ (a : ℕ). a == k) f.1

live-parts : (v : ℕ) (e : Bool) → (nat_lt 0 v && not e) ≡ true → (0 < v) × (e ≡ false)
live-parts v e h = parts (nat_lt 0 v) refl e h
  where
    parts : (b : Bool) → nat_lt 0 v ≡ b → (c : Bool) → (b && not c) ≡ true → (0 < v) × (c ≡ false)
    parts true p false h = (ltb-true 0 v p, refl)
    parts true p true h = cc
    parts false p c h = cc

pub live_parts : (n : ℕ) (past : List Entry) → is_live n past ≡ true → (0 < lives n past) × (ended n (lives n past) past ≡ false)
live_parts n past h = live-parts (lives n past) _ h

pub live_of : (n : ℕ) (past : List Entry) → 0 < lives n past → ended n (lives n past) past ≡ false → is_live n past ≡ true
live_of n past p e = rw (lt-ltb 0 (lives n past) p, e)

-- ---- the walk

abbrev Walk : (ℕ → Bool) → ℕ → ℕ → List Entry → List Entry → Type 0
Walk own n k mine theirs = IsLawfulEnd own mine → IsLawfulEnd (λ m. not (own m)) theirs → Causal mine theirs → came theirs ≡ went mine
    → ended n k theirs ≡ false → arrived (life n k theirs) ≡ sent (life n k mine)

pub came-if : (entry : Entry) (past : List Entry) (b : Bool) → comes entry ≡ b → came (entry ∷ past) ≡ (if b then entry ∷ came past else came past)
came-if entry past b e = rw e

pub went-if : (entry : Entry) (past : List Entry) (b : Bool) → comes entry ≡ b → went (entry ∷ past) ≡ (if b then went past else turned_entry entry ∷ went past)
went-if entry past b e = rw e

-- both ends add the same
both : (own : ℕ → Bool) (n k : ℕ) (mine theirs : List Entry) (entry : Entry) → 0 < k → comes entry ≡ true
    → IsLawfulEnd own (turned_entry entry ∷ mine) → IsLawfulEnd (λ m. not (own m)) theirs → SeesAll mine theirs → ended n k theirs ≡ false
    → arrived (life n k theirs) ≡ sent (life n k mine)
    → arrived (life n k (entry ∷ theirs)) ≡ sent (life n k (turned_entry entry ∷ mine))
both own n k mine theirs (asks by says) pos c l w s e ih = ih
both own n k mine theirs (replies by ok) pos c l w s e ih = ih
both own n k mine theirs (on m item) pos c l w s e ih =
    let live : is_live m mine ≡ true = l.0 (turned-flips item ∙ ap not c) in
    let test : (m == n && life_now n theirs == k) ≡ (m == n && lives n mine == k) =
    same-test m n k (lives n mine) (lives n theirs) (is_live n theirs)
    (λ same. let at : m ≡ n = number m n same in
    let here : is_live n mine ≡ true = subst (λ (j : ℕ). is_live j mine ≡ true) at live in
    let p = live_parts n mine here in
    let count : lives n theirs ≡ lives n mine = same_count own mine theirs n l.1 w s here in
    (p.0, count, λ at_k. live_of n theirs (omega (arith, p.0, count)) (ap (λ (j : ℕ). ended n j theirs) at_k ∙ e))) pos in
    let mine-test : (m == n && life_now n mine == k) ≡ (m == n && lives n mine == k) =
    now-test (m == n) refl in
    adds (m == n && life_now n theirs == k) (m == n && life_now n mine == k) (test ∙ sym mine-test)
  where
    number : (a b : ℕ) → (a == b) ≡ true → a ≡ b
    number a b e = grind (arith, nat_tests)

    now-test : (b : Bool) → (m == n) ≡ b → (b && life_now n mine == k) ≡ (b && lives n mine == k)
    now-test false f = refl
    now-test true f =
        let here : is_live n mine ≡ true = subst (λ (j : ℕ). is_live j mine ≡ true) (number m n f) (l.0 (turned-flips item ∙ ap not c)) in
        rw here

    adds : (t u : Bool) → t ≡ u → arrived (if t then item ∷ life n k theirs else life n k theirs) ≡ sent (if u then turned item ∷ life n k mine else life n k mine)
    adds true true f = arrived-received (life n k theirs) item c ∙ ap (λ (xs : List Item). item ∷ xs) ih ∙ sym (sent-turned (life n k mine) item c)
    adds true false f = cc
    adds false true f = cc
    adds false false f = ih

pub causal-mine : (y : Entry) (mine theirs : List Entry) → Causal (y ∷ mine) theirs → Causal mine theirs
causal-mine y mine theirs c l before m since entry a b r e =
    c (y ∷ l) before m since entry (ap (λ (xs : List Entry). y ∷ xs) a) b r e

pub causal-theirs : (z : Entry) (mine theirs : List Entry) → Causal mine (z ∷ theirs) → Causal mine theirs
causal-theirs z mine theirs c l before m since entry a b r e =
    c l before (z ∷ m) since entry a (ap (λ (xs : List Entry). z ∷ xs) b) r e

walk-end-by : (own : ℕ → Bool) (n k : ℕ) (z : Entry) (theirs : List Entry) → Walk own n k [] theirs → (b : Bool) → comes z ≡ b → Walk own n k [] (z ∷ theirs)
walk-end-by own n k z theirs ih true r l w c e f = let g : z ∷ came theirs ≡ [] = sym (came-if z theirs true r) ∙ e in cc
walk-end-by own n k z theirs ih false r l w c e f =
    life-went n k theirs z r ∙ ih l (end-tail (λ m. not (own m)) z theirs w) (causal-theirs z [] theirs c) (sym (came-if z theirs false r) ∙ e) (ended-still n k theirs z f)

walk-end : (own : ℕ → Bool) (n k : ℕ) (theirs : List Entry) → Walk own n k [] theirs
walk-end own n k [] = λ l w c e f. refl
walk-end own n k (z ∷ theirs) = walk-end-by own n k z theirs (walk-end own n k theirs) (comes z) refl

walk-both : (own : ℕ → Bool) (n k : ℕ) → 0 < k → (y : Entry) (mine : List Entry) → Walk own n k mine [] → (z : Entry) (theirs : List Entry)
    → Walk own n k mine theirs → Walk own n k (y ∷ mine) theirs → comes y ≡ false → (b : Bool) → comes z ≡ b → Walk own n k (y ∷ mine) (z ∷ theirs)
walk-both own n k pos y mine none z theirs ih same r true q l w c e f =
    let g : z ∷ came theirs ≡ turned_entry y ∷ went mine = sym (came-if z theirs true q) ∙ e ∙ went-if y mine false r in
    let at : z ≡ turned_entry y = cc in
    let rest : came theirs ≡ went mine = cc in
    let back : y ≡ turned_entry z = sym (entry-twice y) ∙ ap turned_entry (sym at) in
    let s : SeesAll mine theirs = c [] mine [] theirs z (ap (λ (x : Entry). x ∷ mine) back) refl q rest in
    let w' : IsLawfulEnd (λ m. not (own m)) theirs = end-tail (λ m. not (own m)) z theirs w in
    let f' : ended n k theirs ≡ false = ended-still n k theirs z f in
    let l' : IsLawfulEnd own (turned_entry z ∷ mine) = subst (λ (x : Entry). IsLawfulEnd own (x ∷ mine)) back l in
    both own n k mine theirs z pos q l' w' s f'
    (ih (end-tail own y mine l) w' (causal-theirs z mine theirs (causal-mine y mine (z ∷ theirs) c)) rest f')
    ∙ ap (λ (x : Entry). sent (life n k (x ∷ mine))) (sym back)
walk-both own n k pos y mine none z theirs ih same r false q l w c e f =
    life-went n k theirs z q
    ∙ same l (end-tail (λ m. not (own m)) z theirs w) (causal-theirs z (y ∷ mine) theirs c) (sym (came-if z theirs false q) ∙ e) (ended-still n k theirs z f)

walk-inner : (own : ℕ → Bool) (n k : ℕ) → 0 < k → (y : Entry) (mine : List Entry) → ((theirs : List Entry) → Walk own n k mine theirs) → comes y ≡ false
    → (theirs : List Entry) → Walk own n k (y ∷ mine) theirs
walk-inner own n k pos y mine ih r [] = λ l w c e f. let g : [] ≡ turned_entry y ∷ went mine = e ∙ went-if y mine false r in cc
walk-inner own n k pos y mine ih r (z ∷ theirs) =
    walk-both own n k pos y mine (ih []) z theirs (ih theirs) (walk-inner own n k pos y mine ih r theirs) r (comes z) refl

walk-by : (own : ℕ → Bool) (n k : ℕ) → 0 < k → (y : Entry) (mine : List Entry) → ((theirs : List Entry) → Walk own n k mine theirs)
    → (b : Bool) → comes y ≡ b → (theirs : List Entry) → Walk own n k (y ∷ mine) theirs
walk-by own n k pos y mine ih false r theirs = walk-inner own n k pos y mine ih r theirs
walk-by own n k pos y mine ih true r theirs = λ l w c e f.
    ih theirs (end-tail own y mine l) w (causal-mine y mine theirs c) (e ∙ went-if y mine true r) f ∙ sym (life-came n k mine y r)

walk : (own : ℕ → Bool) (n k : ℕ) → 0 < k → (mine theirs : List Entry) → Walk own n k mine theirs
walk own n k pos [] theirs = walk-end own n k theirs
walk own n k pos (y ∷ mine) theirs = walk-by own n k pos y mine (walk own n k pos mine) (comes y) refl theirs

pub same_life : SameLife
same_life own mine theirs n k l w c e pos f = walk own n k pos mine theirs l w c e f

-- ---- an earlier moment of the other end

pub record WhenAll (past before : List Entry) : Type 0 where
  pub later : List Entry
  pub earlier : List Entry
  pub is : past ≡ later ++ earlier
  pub at : went earlier ≡ before

when-cons : (x : Entry) (past before : List Entry) → WhenAll past before → WhenAll (x ∷ past) before
when-cons x past before w = record { later = x ∷ w.later; earlier = w.earlier; is = ap (λ (xs : List Entry). x ∷ xs) w.is; at = w.at }

when-by : (x : Entry) (past : List Entry) (n : Entry) (newer before : List Entry) → ((ns : List Entry) → went past ≡ ns ++ before → WhenAll past before)
    → (b : Bool) → comes x ≡ b → went (x ∷ past) ≡ n ∷ newer ++ before → WhenAll (x ∷ past) before
when-by x past n newer before ih true r e = when-cons x past before (ih (n ∷ newer) (sym (went-if x past true r) ∙ e))
when-by x past n newer before ih false r e =
    let g : turned_entry x ∷ went past ≡ n ∷ newer ++ before = sym (went-if x past false r) ∙ e in
    let rest : went past ≡ newer ++ before = cc in
    when-cons x past before (ih newer rest)

pub when_all : (past newer before : List Entry) → went past ≡ newer ++ before → WhenAll past before
when_all past [] before e = record { later = []; earlier = past; is = refl; at = e }
when_all [] (n ∷ newer) before e = cc
when_all (x ∷ past) (n ∷ newer) before e = when-by x past n newer before (λ ns f. when_all past ns before f) (comes x) refl e

pub end-earlier : (own : ℕ → Bool) (later earlier : List Entry) → IsLawfulEnd own (later ++ earlier) → IsLawfulEnd own earlier
end-earlier own [] earlier l = l
end-earlier own (y ∷ later) earlier l = end-earlier own later earlier (end-tail own y (later ++ earlier) l)

pub ended-earlier : (n k : ℕ) (later earlier : List Entry) → ended n k (later ++ earlier) ≡ false → ended n k earlier ≡ false
ended-earlier n k [] earlier e = e
ended-earlier n k (y ∷ later) earlier e = ended-earlier n k later earlier (ended-still n k (later ++ earlier) y e)

-- what was sent of a life at an earlier moment stays
pub record SentBefore (xs ys : List Item) : Type 0 where
  pub newer : List Item
  pub is : ys ≡ newer ++ xs

sent-more : (item : Item) (xs ys : List Item) (b : Bool) → is_received item ≡ b → SentBefore (sent xs) (sent ys) → SentBefore (sent xs) (sent (item ∷ ys))
sent-more item xs ys true r w = record { newer = w.newer; is = sent-received ys item r ∙ w.is }
sent-more item xs ys false r w =
    let flipped : is_received (turned item) ≡ true = turned-flips item ∙ ap not r in
    record {
      newer = turned item ∷ w.newer;
      is = ap (λ (i : Item). sent (i ∷ ys)) (sym (turned-twice item)) ∙ sent-turned ys (turned item) flipped ∙ ap (λ (zs : List Item). turned item ∷ zs) w.is;
    }

sent-more-if : (item : Item) (xs ys : List Item) (t : Bool) → SentBefore (sent xs) (sent ys) → SentBefore (sent xs) (sent (if t then item ∷ ys else ys))
sent-more-if item xs ys true w = sent-more item xs ys (is_received item) refl w
sent-more-if item xs ys false w = w

pub sent-before : (n k : ℕ) (later earlier : List Entry) → SentBefore (sent (life n k earlier)) (sent (life n k (later ++ earlier)))
sent-before n k [] earlier = record { newer = []; is = refl }
sent-before n k (asks by says ∷ later) earlier = sent-before n k later earlier
sent-before n k (replies by ok ∷ later) earlier = sent-before n k later earlier
sent-before n k (on m item ∷ later) earlier =
    sent-more-if item (life n k earlier) (life n k (later ++ earlier)) (m == n && life_now n (later ++ earlier) == k) (sent-before n k later earlier)

pub causal-earlier : (later earlier theirs : List Entry) → Causal (later ++ earlier) theirs → Causal earlier theirs
causal-earlier later earlier theirs c l before m since entry a b r e =
    c (later ++ l) before m since entry (ap (λ (xs : List Entry). later ++ xs) a ∙ sym (append_assoc later l (turned_entry entry ∷ before))) b r e

-- the owner of numbers seen from the other side
pub end-twice : (own : ℕ → Bool) (past : List Entry) → IsLawfulEnd own past → IsLawfulEnd (λ m. not (not (own m))) past
end-twice own past l = subst (λ (f : ℕ → Bool). IsLawfulEnd f past) (fun_ext (λ m. sym (not-twice (own m)))) l
  where
    not-twice : (b : Bool) → not (not b) ≡ b
    not-twice true = refl
    not-twice false = refl

pub life_sees : LifeSees
life_sees own mine theirs n k l w c d s pos e f =
    let m = when_all theirs s.newer (came mine) s.some in
    let w' : IsLawfulEnd (λ j. not (own j)) m.earlier = end-earlier (λ j. not (own j)) m.later m.earlier (subst (λ (xs : List Entry). IsLawfulEnd (λ j. not (own j)) xs) m.is w) in
    let d' : Causal m.earlier mine = causal-earlier m.later m.earlier mine (subst (λ (xs : List Entry). Causal xs mine) m.is d) in
    let back : arrived (life n k mine) ≡ sent (life n k m.earlier) =
    walk (λ j. not (own j)) n k pos m.earlier mine w' (end-twice own mine l) d' (sym m.at) e in
    let b = sent-before n k m.later m.earlier in
    record {
      all = walk own n k pos mine theirs l w c s.all f;
      newer = b.newer;
      some = ap (λ (xs : List Entry). sent (life n k xs)) m.is ∙ b.is ∙ ap (λ (xs : List Item). b.newer ++ xs) (sym back);
    }
