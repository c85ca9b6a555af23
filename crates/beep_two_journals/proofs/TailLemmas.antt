-- What goes on in a life that has ended at one end.
use Rattle.std.proofs.Common.{◌≡◌, ℕ, ◌<◌, ◌≤◌, ◌==◌, Bool, true, false, not, ◌&&◌, if◌then◌else◌, List, [], ◌∷◌, ◌++◌, refl, sym, ap, ◌∙◌, arith, subst}
use Rattle.std.proofs.lemmas.Bool.Decides.{nat_tests}
use Rattle.beep_history.specs.declared.journal.Side.{Side}
use Rattle.beep_history.specs.Journal.{turned, Item, began, passed, told}
use Rattle.beep_history.specs.Marks.{frames}
use Rattle.beep_history.specs.Broken.{under_way}
use Rattle.beep_two_ends.specs.Seen.{is_received, arrived, sent}
use Rattle.beep_two_ends.specs.OneLife.{IsLawful, NeverBroke}
use Rattle.beep_two_journals.proofs.Entries.{Entry, asks, replies, on, lives, ended, is_live, life_now, life, came, went, comes, Causal}
use Rattle.beep_two_journals.proofs.Entries.{IsLawfulLives, NeverBrokeAll, IsWholeOn, is_told}
use Rattle.beep_two_journals.proofs.WalkLemmas.{turned-flips, turned-twice, sent-turned, sent-received, arrived-received, arrived-sent, live_parts, causal-mine, causal-theirs}
use Rattle.beep_two_journals.proofs.EndsLemmas.{lives-later, ended-later}

number : (a b : ℕ) → (a == b) ≡ true → a ≡ b
number a b e = grind (arith, nat_tests)

clash : (b : Bool) → b ≡ true → b ≡ false → ⊥
clash b t f = let e : true ≡ false = sym t ∙ f in cc

not-false' : (b : Bool) → (b ≡ false → ⊥) → b ≡ true
not-false' true h = refl
not-false' false h = absurd (h refl)

not-true' : (b : Bool) → (b ≡ true → ⊥) → b ≡ false
not-true' true h = absurd (h refl)
not-true' false h = refl

-- ---- parts of an end's laws

pub lives-tail : (entry : Entry) (past : List Entry) → IsLawfulLives (entry ∷ past) → IsLawfulLives past
lives-tail (asks by says) past l = l
lives-tail (replies Side.Received ok) past l = l
lives-tail (replies Side.Sent ok) past l = l.1
lives-tail (on n item) past l = l.1

pub whole-tail : (entry : Entry) (past : List Entry) → NeverBrokeAll (entry ∷ past) → NeverBrokeAll past
whole-tail (asks by says) past l = l
whole-tail (replies by ok) past l = l
whole-tail (on n item) past l = l.1

pub lives-earlier : (later earlier : List Entry) → IsLawfulLives (later ++ earlier) → IsLawfulLives earlier
lives-earlier [] earlier l = l
lives-earlier (y ∷ later) earlier l = lives-earlier later earlier (lives-tail y (later ++ earlier) l)

pub whole-all-earlier : (later earlier : List Entry) → NeverBrokeAll (later ++ earlier) → NeverBrokeAll earlier
whole-all-earlier [] earlier l = l
whole-all-earlier (y ∷ later) earlier l = whole-all-earlier later earlier (whole-tail y (later ++ earlier) l)

pub causal-parts : (l mine m theirs : List Entry) → Causal (l ++ mine) (m ++ theirs) → Causal mine theirs
causal-parts [] mine [] theirs c = c
causal-parts [] mine (z ∷ m) theirs c = causal-parts [] mine m theirs (causal-theirs z mine (m ++ theirs) c)
causal-parts (y ∷ l) mine m theirs c = causal-parts l mine m theirs (causal-mine y (l ++ mine) (m ++ theirs) c)

-- ---- the history of a life

pub lawful-here : (item : Item) (h : List Item) → is_received item ≡ true → IsLawful h → IsLawful (item ∷ h)
lawful-here (began Side.Received head) h r l = (tt, l)
lawful-here (passed Side.Received head payload) h r l = (tt, l)
lawful-here (told Side.Received seq) h r l = (tt, l)
lawful-here (began Side.Sent head) h r l = cc
lawful-here (passed Side.Sent head payload) h r l = cc
lawful-here (told Side.Sent seq) h r l = cc

pub whole-here : (item : Item) (h : List Item) → is_received item ≡ false → NeverBroke h → NeverBroke (item ∷ h)
whole-here (began Side.Received head) h r l = cc
whole-here (passed Side.Received head payload) h r l = cc
whole-here (told Side.Received seq) h r l = cc
whole-here (began Side.Sent head) h r l = (tt, l)
whole-here (passed Side.Sent head payload) h r l = (tt, l)
whole-here (told Side.Sent seq) h r l = (tt, l)

-- where an item is of the k-th life, that is the live one
record OfLife (m n k : ℕ) (past : List Entry) : Type 0 where
  same : m ≡ n
  live : is_live n past ≡ true
  count : lives n past ≡ k

of-life : (m n k : ℕ) (past : List Entry) → 0 < k → (m == n && life_now n past == k) ≡ true → OfLife m n k past
of-life m n k past pos t = by-parts (m == n) refl (is_live n past) refl t
  where
    by-parts : (a : Bool) → (m == n) ≡ a → (b : Bool) → is_live n past ≡ b → (a && (if b then lives n past else 0) == k) ≡ true → OfLife m n k past
    by-parts true e true l t = record { same = number m n e; live = l; count = number _ k t }
    by-parts true e false l t = absurd (zero-is k pos (number 0 k t))
      where
        zero-is : (k : ℕ) → 0 < k → 0 ≡ k → ⊥
        zero-is k h e = omega arith
    by-parts false e b l t = cc

lawful-on : (own : ℕ → Bool) (m n k : ℕ) (item : Item) (past : List Entry) → 0 < k
    → (is_received item ≡ false → IsLawful (item ∷ life m (lives m past) past)) → IsLawful (life n k past)
    → (t : Bool) → (m == n && life_now n past == k) ≡ t → IsLawful (if t then item ∷ life n k past else life n k past)
lawful-on own m n k item past pos l ih false e = ih
lawful-on own m n k item past pos l ih true e =
    let o = of-life m n k past pos e in by-side (is_received item) refl o
  where
    by-side : (b : Bool) → is_received item ≡ b → OfLife m n k past → IsLawful (item ∷ life n k past)
    by-side true r o = lawful-here item (life n k past) r ih
    by-side false r o =
        subst (λ (j : ℕ). IsLawful (item ∷ life n j past)) o.count
        (subst (λ (j : ℕ). IsLawful (item ∷ life j (lives j past) past)) o.same (l r))

pub life-lawful : (n k : ℕ) (past : List Entry) → 0 < k → IsLawfulLives past → IsLawful (life n k past)
life-lawful n k [] pos l = tt
life-lawful n k (asks by says ∷ past) pos l = life-lawful n k past pos l
life-lawful n k (replies Side.Received ok ∷ past) pos l = life-lawful n k past pos l
life-lawful n k (replies Side.Sent ok ∷ past) pos l = life-lawful n k past pos l.1
life-lawful n k (on m item ∷ past) pos l =
    lawful-on (λ j. true) m n k item past pos (λ r. (l.0 r).0) (life-lawful n k past pos l.1) _ refl

whole-on : (m n k : ℕ) (item : Item) (past : List Entry) → 0 < k → (is_received item ≡ true → IsWholeOn m item past) → NeverBroke (life n k past)
    → (t : Bool) → (m == n && life_now n past == k) ≡ t → NeverBroke (if t then item ∷ life n k past else life n k past)
whole-on m n k item past pos l ih false e = ih
whole-on m n k item past pos l ih true e =
    let o = of-life m n k past pos e in by-side (is_received item) refl o
  where
    by-side : (b : Bool) → is_received item ≡ b → OfLife m n k past → NeverBroke (item ∷ life n k past)
    by-side false r o = whole-here item (life n k past) r ih
    by-side true r o =
        subst (λ (j : ℕ). NeverBroke (item ∷ life n j past)) o.count
        (subst (λ (j : ℕ). is_live j past ≡ true → NeverBroke (item ∷ life j (lives j past) past)) o.same (l r).1 o.live)

pub life-whole : (n k : ℕ) (past : List Entry) → 0 < k → NeverBrokeAll past → NeverBroke (life n k past)
life-whole n k [] pos l = tt
life-whole n k (asks by says ∷ past) pos l = life-whole n k past pos l
life-whole n k (replies by ok ∷ past) pos l = life-whole n k past pos l
life-whole n k (on m item ∷ past) pos l = whole-on m n k item past pos l.0 (life-whole n k past pos l.1) _ refl

-- ---- after the end of a life

-- a life that has ended and is the last is not live
pub not-live : (n k : ℕ) (past : List Entry) → ended n k past ≡ true → lives n past ≡ k → is_live n past ≡ false
not-live n k past e c = not-true' _ (λ l. clash _ (ap (λ (j : ℕ). ended n j past) c ∙ e) (live_parts n past l).1)

-- each item of n among these is a SEQ
abbrev pub NoData : ℕ → List Entry → Type 0
NoData n [] = Unit {0}
NoData n (asks by says ∷ past) = NoData n past
NoData n (replies by ok ∷ past) = NoData n past
NoData n (on m item ∷ past) = ((m == n) ≡ true → is_told item ≡ true) × NoData n past

module _ (n k : ℕ) (over : List Entry) (e : ended n k over ≡ true) (least : k ≤ lives n over) where
  idle-after : (later : List Entry) → lives n (later ++ over) ≤ k → is_live n (later ++ over) ≡ false
  idle-after later most =
      let least' = lives-later n later over in
      not-live n k (later ++ over) (ended-later n k later over e) (omega (arith, least, least', most))

  fewer : (y : Entry) (later : List Entry) → lives n (y ∷ later ++ over) ≤ k → lives n (later ++ over) ≤ k
  fewer y later most = let h = lives-later n (y ∷ []) (later ++ over) in omega (arith, h, most)

  no-data-if : (m : ℕ) (item : Item) (later : List Entry) → is_live n (later ++ over) ≡ false → (is_received item ≡ true → IsWholeOn m item (later ++ over))
      → NoData n (came later) → (b : Bool) → is_received item ≡ b → NoData n (if b then on m item ∷ came later else came later)
  no-data-if m item later idle w ih false r = ih
  no-data-if m item later idle w ih true r =
      (λ same. not-false' _ (λ plain. clash _ (subst (λ (j : ℕ). is_live j (later ++ over) ≡ true) (number m n same) ((w r).0 plain)) idle), ih)

  -- what arrived since is SEQs alone
  pub no-data : (later : List Entry) → NeverBrokeAll (later ++ over) → lives n (later ++ over) ≤ k → NoData n (came later)
  no-data [] w most = tt
  no-data (asks Side.Received says ∷ later) w most = no-data later w (fewer (asks Side.Received says) later most)
  no-data (asks Side.Sent says ∷ later) w most = no-data later w (fewer (asks Side.Sent says) later most)
  no-data (replies Side.Received ok ∷ later) w most = no-data later w (fewer (replies Side.Received ok) later most)
  no-data (replies Side.Sent ok ∷ later) w most = no-data later w (fewer (replies Side.Sent ok) later most)
  no-data (on m item ∷ later) w most =
      no-data-if m item later (idle-after later most) w.0 (no-data later w.1 most) (is_received item) refl

  sent-same-if : (m : ℕ) (item : Item) (later : List Entry) → is_live n (later ++ over) ≡ false
      → (b : Bool) → (m == n && life_now n (later ++ over) == k) ≡ b → 0 < k
      → sent (if b then item ∷ life n k (later ++ over) else life n k (later ++ over)) ≡ sent (life n k (later ++ over))
  sent-same-if m item later idle false t pos = refl
  sent-same-if m item later idle true t pos =
      let o = of-life m n k (later ++ over) pos t in absurd (clash _ o.live idle)

  -- nothing was sent since
  pub nothing-sent : 0 < k → (later : List Entry) → lives n (later ++ over) ≤ k → sent (life n k (later ++ over)) ≡ sent (life n k over)
  nothing-sent pos [] most = refl
  nothing-sent pos (asks by says ∷ later) most = nothing-sent pos later (fewer (asks by says) later most)
  nothing-sent pos (replies by ok ∷ later) most = nothing-sent pos later (fewer (replies by ok) later most)
  nothing-sent pos (on m item ∷ later) most =
      sent-same-if m item later (idle-after later most) _ refl pos ∙ nothing-sent pos later most

-- ---- what was sent since, where it is SEQs alone

-- all are SEQs
abbrev pub AllTold : List Item → Type 0
AllTold [] = Unit {0}
AllTold (item ∷ items) = (is_told item ≡ true) × AllTold items

pub record ToldSince (xs ys : List Item) : Type 0 where
  pub newer : List Item
  pub all : AllTold newer
  pub is : ys ≡ newer ++ xs

told-turned : (item : Item) → is_told (turned item) ≡ is_told item
told-turned (began side head) = refl
told-turned (passed side head payload) = refl
told-turned (told side seq) = refl

told-on : (item : Item) (xs ys : List Item) → (t : Bool) → (t ≡ true → is_received item ≡ false → is_told item ≡ true) → ToldSince (sent xs) (sent ys)
    → ToldSince (sent xs) (sent (if t then item ∷ ys else ys))
told-on item xs ys false h w = w
told-on item xs ys true h w = by-side (is_received item) refl
  where
    by-side : (b : Bool) → is_received item ≡ b → ToldSince (sent xs) (sent (item ∷ ys))
    by-side true r = record { newer = w.newer; all = w.all; is = sent-received ys item r ∙ w.is }
    by-side false r =
        let flipped : is_received (turned item) ≡ true = turned-flips item ∙ ap not r in
        record {
          newer = turned item ∷ w.newer;
          all = (told-turned item ∙ h refl r, w.all);
          is = ap (λ (i : Item). sent (i ∷ ys)) (sym (turned-twice item)) ∙ sent-turned ys (turned item) flipped ∙ ap (λ (zs : List Item). turned item ∷ zs) w.is;
        }

no-data-went : (n m : ℕ) (item : Item) (later : List Entry) (b : Bool) → is_received item ≡ b → NoData n (if b then went later else on m (turned item) ∷ went later)
    → ((m == n) ≡ true → is_received item ≡ false → is_told item ≡ true) × NoData n (went later)
no-data-went n m item later true r d = ((λ same f. absurd (clash _ r f)), d)
no-data-went n m item later false r d = ((λ same f. sym (told-turned item) ∙ d.0 same), d.1)

pub told-since : (n k : ℕ) (later past : List Entry) → NoData n (went later) → ToldSince (sent (life n k past)) (sent (life n k (later ++ past)))
told-since n k [] past d = record { newer = []; all = tt; is = refl }
told-since n k (asks Side.Received says ∷ later) past d = told-since n k later past d
told-since n k (asks Side.Sent says ∷ later) past d = told-since n k later past d
told-since n k (replies Side.Received ok ∷ later) past d = told-since n k later past d
told-since n k (replies Side.Sent ok ∷ later) past d = told-since n k later past d
told-since n k (on m item ∷ later) past d =
    let p = no-data-went n m item later (is_received item) refl d in
    told-on item (life n k past) (life n k (later ++ past)) (m == n && life_now n (later ++ past) == k)
    (λ t f. p.0 (and-first (m == n) _ t) f) (told-since n k later past p.1)
  where
    and-first : (a b : Bool) → (a && b) ≡ true → a ≡ true
    and-first true b e = refl
    and-first false b e = e

pub frames-told : (newer xs : List Item) → AllTold newer → frames Side.Received (newer ++ xs) ≡ frames Side.Received xs
frames-told [] xs a = refl
frames-told (began side head ∷ newer) xs a = let h : false ≡ true = a.0 in cc
frames-told (passed side head payload ∷ newer) xs a = let h : false ≡ true = a.0 in cc
frames-told (told side seq ∷ newer) xs a = frames-told newer xs a.1

pub under_way-told : (newer xs : List Item) → AllTold newer → under_way Side.Received (newer ++ xs) ≡ under_way Side.Received xs
under_way-told [] xs a = refl
under_way-told (began side head ∷ newer) xs a = let h : false ≡ true = a.0 in cc
under_way-told (passed side head payload ∷ newer) xs a = let h : false ≡ true = a.0 in cc
under_way-told (told side seq ∷ newer) xs a = under_way-told newer xs a.1

went-append-by : (y : Entry) (later earlier : List Entry) → went (later ++ earlier) ≡ went later ++ went earlier → (b : Bool) → comes y ≡ b
    → went (y ∷ later ++ earlier) ≡ went (y ∷ later) ++ went earlier
went-append-by y later earlier ih true e = rw (e, ih)
went-append-by y later earlier ih false e = rw (e, ih)

pub went-append : (later earlier : List Entry) → went (later ++ earlier) ≡ went later ++ went earlier
went-append [] earlier = refl
went-append (y ∷ later) earlier = went-append-by y later earlier (went-append later earlier) (comes y) refl

-- ---- what arrived since, where it is SEQs alone

came-on : (item : Item) (xs ys : List Item) → (t : Bool) → (t ≡ true → is_received item ≡ true → is_told item ≡ true) → ToldSince (arrived xs) (arrived ys)
    → ToldSince (arrived xs) (arrived (if t then item ∷ ys else ys))
came-on item xs ys false h w = w
came-on item xs ys true h w = by-side (is_received item) refl
  where
    by-side : (b : Bool) → is_received item ≡ b → ToldSince (arrived xs) (arrived (item ∷ ys))
    by-side true r = record { newer = item ∷ w.newer; all = (h refl r, w.all); is = arrived-received ys item r ∙ ap (λ (zs : List Item). item ∷ zs) w.is }
    by-side false r = record { newer = w.newer; all = w.all; is = arrived-sent ys item r ∙ w.is }

no-data-came : (n m : ℕ) (item : Item) (later : List Entry) (b : Bool) → is_received item ≡ b → NoData n (if b then on m item ∷ came later else came later)
    → ((m == n) ≡ true → is_received item ≡ true → is_told item ≡ true) × NoData n (came later)
no-data-came n m item later true r d = ((λ same f. d.0 same), d.1)
no-data-came n m item later false r d = ((λ same f. absurd (clash _ f r)), d)

pub told-came : (n k : ℕ) (later past : List Entry) → NoData n (came later) → ToldSince (arrived (life n k past)) (arrived (life n k (later ++ past)))
told-came n k [] past d = record { newer = []; all = tt; is = refl }
told-came n k (asks Side.Received says ∷ later) past d = told-came n k later past d
told-came n k (asks Side.Sent says ∷ later) past d = told-came n k later past d
told-came n k (replies Side.Received ok ∷ later) past d = told-came n k later past d
told-came n k (replies Side.Sent ok ∷ later) past d = told-came n k later past d
told-came n k (on m item ∷ later) past d =
    let p = no-data-came n m item later (is_received item) refl d in
    came-on item (life n k past) (life n k (later ++ past)) (m == n && life_now n (later ++ past) == k)
    (λ t f. p.0 (and-first (m == n) _ t) f) (told-came n k later past p.1)
  where
    and-first : (a b : Bool) → (a && b) ≡ true → a ≡ true
    and-first true b e = refl
    and-first false b e = e

pub no-data-append : (n : ℕ) (xs ys : List Entry) → NoData n xs → NoData n ys → NoData n (xs ++ ys)
no-data-append n [] ys d e = e
no-data-append n (asks by says ∷ xs) ys d e = no-data-append n xs ys d e
no-data-append n (replies by ok ∷ xs) ys d e = no-data-append n xs ys d e
no-data-append n (on m item ∷ xs) ys d e = (d.0, no-data-append n xs ys d.1 e)
