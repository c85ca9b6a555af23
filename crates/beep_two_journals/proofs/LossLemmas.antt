-- Where all that was sent has arrived, each frame of a life has arrived in that life. SEQs alone may come after its end.
use Rattle.std.proofs.Common.{◌≡◌, ℕ, ◌==◌, Bool, true, false, not, ◌&&◌, if◌then◌else◌, List, [], ◌∷◌, refl, sym, ap, ◌∙◌, arith, subst}
use Rattle.std.proofs.lemmas.Bool.Decides.{nat_tests}
use Rattle.beep_frame.specs.declared.head.Head.{Head}
use Rattle.beep_history.specs.declared.journal.Side.{Side}
use Rattle.beep_history.specs.Journal.{Item, began, passed, told, turned}
use Rattle.beep_history.specs.Marks.{frames, requests, marks}
use Rattle.beep_history.specs.Broken.{KeepsExchangeRules}
use Rattle.beep_two_ends.specs.Seen.{is_received, arrived, sent}
use Rattle.beep_two_journals.proofs.Entries.{Entry, asks, replies, on, lives, is_live, life_now, life, IsLawfulEnd, came, went, comes, turned_entry, SeesAll, Causal, NeverBrokeAll, is_told}
use Rattle.beep_two_journals.proofs.CountLemmas.{same_count}
use Rattle.beep_two_journals.proofs.WalkLemmas.{came-if, went-if, turned-flips, entry-twice, arrived-received, sent-turned, life-came, life-went, end-tail, causal-mine, causal-theirs}
use Rattle.beep_two_journals.proofs.TailLemmas.{whole-tail}
use Rattle.beep_two_journals.proofs.MarksLemmas.{way_marks, marks-arrived, marks-sent}

-- all but the SEQs
abbrev pub plain : List Item → List Item
plain [] = []
plain (item ∷ past) = if is_told item then plain past else item ∷ plain past

-- ---- frames that arrived

abbrev All : (ℕ → Bool) → ℕ → ℕ → List Entry → List Entry → Type 0
All own n k mine theirs = IsLawfulEnd own mine → IsLawfulEnd (λ m. not (own m)) theirs → Causal mine theirs → NeverBrokeAll theirs → came theirs ≡ went mine
    → plain (arrived (life n k theirs)) ≡ plain (sent (life n k mine))

number : (a b : ℕ) → (a == b) ≡ true → a ≡ b
number a b e = grind (arith, nat_tests)

-- a SEQ adds nothing on either side
seq-adds : (item : Item) (xs ys : List Item) (t u : Bool) → is_received item ≡ true → is_told item ≡ true → plain (arrived xs) ≡ plain (sent ys)
    → plain (arrived (if t then item ∷ xs else xs)) ≡ plain (sent (if u then turned item ∷ ys else ys))
seq-adds item xs ys t u c is_seq ih = here t ∙ ih ∙ there u
  where
    here : (t : Bool) → plain (arrived (if t then item ∷ xs else xs)) ≡ plain (arrived xs)
    here true = ap plain (arrived-received xs item c) ∙ rw is_seq refl
    here false = refl

    there : (u : Bool) → plain (sent ys) ≡ plain (sent (if u then turned item ∷ ys else ys))
    there true = sym (ap plain (sent-turned ys item c) ∙ rw is_seq refl)
    there false = refl

frame-adds : (item : Item) (xs ys : List Item) (t u : Bool) → is_received item ≡ true → is_told item ≡ false → t ≡ u → plain (arrived xs) ≡ plain (sent ys)
    → plain (arrived (if t then item ∷ xs else xs)) ≡ plain (sent (if u then turned item ∷ ys else ys))
frame-adds item xs ys true true c is_seq f ih =
    ap plain (arrived-received xs item c) ∙ shown (arrived xs) ∙ ap (λ (zs : List Item). item ∷ zs) ih ∙ sym (ap plain (sent-turned ys item c) ∙ shown (sent ys))
  where
    shown : (zs : List Item) → plain (item ∷ zs) ≡ item ∷ plain zs
    shown zs = rw is_seq refl
frame-adds item xs ys true false c is_seq f ih = cc
frame-adds item xs ys false true c is_seq f ih = cc
frame-adds item xs ys false false c is_seq f ih = ih

-- a frame that arrives finds the life that it was sent in
same-life-now : (own : ℕ → Bool) (mine theirs : List Entry) (m n k : ℕ) → IsLawfulEnd own mine → IsLawfulEnd (λ j. not (own j)) theirs → SeesAll mine theirs
    → is_live m mine ≡ true → is_live m theirs ≡ true → (b : Bool) → (m == n) ≡ b → (b && life_now n theirs == k) ≡ (b && life_now n mine == k)
same-life-now own mine theirs m n k l w s here there false e = refl
same-life-now own mine theirs m n k l w s here there true e =
    let at : m ≡ n = number m n e in
    let live_mine : is_live n mine ≡ true = subst (λ (j : ℕ). is_live j mine ≡ true) at here in
    let live_theirs : is_live n theirs ≡ true = subst (λ (j : ℕ). is_live j theirs ≡ true) at there in
    ap (λ (c : ℕ). c == k) (now theirs live_theirs ∙ same_count own mine theirs n l w s live_mine ∙ sym (now mine live_mine))
  where
    now : (past : List Entry) → is_live n past ≡ true → life_now n past ≡ lives n past
    now past live = rw live refl

both : (own : ℕ → Bool) (n k : ℕ) (mine theirs : List Entry) (entry : Entry) → comes entry ≡ true
    → IsLawfulEnd own (turned_entry entry ∷ mine) → IsLawfulEnd (λ m. not (own m)) theirs → SeesAll mine theirs → NeverBrokeAll (entry ∷ theirs)
    → plain (arrived (life n k theirs)) ≡ plain (sent (life n k mine))
    → plain (arrived (life n k (entry ∷ theirs))) ≡ plain (sent (life n k (turned_entry entry ∷ mine)))
both own n k mine theirs (asks by says) c l w s v ih = ih
both own n k mine theirs (replies by ok) c l w s v ih = ih
both own n k mine theirs (on m item) c l w s v ih = by-told (is_told item) refl
  where
    live : is_live m mine ≡ true
    live = l.0 (turned-flips item ∙ ap not c)

    by-told : (b : Bool) → is_told item ≡ b
        → plain (arrived (if m == n && life_now n theirs == k then item ∷ life n k theirs else life n k theirs))
        ≡ plain (sent (if m == n && life_now n mine == k then turned item ∷ life n k mine else life n k mine))
    by-told true e = seq-adds item (life n k theirs) (life n k mine) (m == n && life_now n theirs == k) (m == n && life_now n mine == k) c e ih
    by-told false e =
        frame-adds item (life n k theirs) (life n k mine) (m == n && life_now n theirs == k) (m == n && life_now n mine == k) c e
        (same-life-now own mine theirs m n k l.1 w s live ((v.0 c).0 e) (m == n) refl) ih

walk-end-by : (own : ℕ → Bool) (n k : ℕ) (z : Entry) (theirs : List Entry) → All own n k [] theirs → (b : Bool) → comes z ≡ b → All own n k [] (z ∷ theirs)
walk-end-by own n k z theirs ih true r l w c v e = let g : z ∷ came theirs ≡ [] = sym (came-if z theirs true r) ∙ e in cc
walk-end-by own n k z theirs ih false r l w c v e =
    ap plain (life-went n k theirs z r) ∙ ih l (end-tail (λ m. not (own m)) z theirs w) (causal-theirs z [] theirs c) (whole-tail z theirs v) (sym (came-if z theirs false r) ∙ e)

walk-end : (own : ℕ → Bool) (n k : ℕ) (theirs : List Entry) → All own n k [] theirs
walk-end own n k [] = λ l w c v e. refl
walk-end own n k (z ∷ theirs) = walk-end-by own n k z theirs (walk-end own n k theirs) (comes z) refl

walk-both : (own : ℕ → Bool) (n k : ℕ) (y : Entry) (mine : List Entry) (z : Entry) (theirs : List Entry)
    → All own n k mine theirs → All own n k (y ∷ mine) theirs → comes y ≡ false → (b : Bool) → comes z ≡ b → All own n k (y ∷ mine) (z ∷ theirs)
walk-both own n k y mine z theirs ih same r true q l w c v e =
    let g : z ∷ came theirs ≡ turned_entry y ∷ went mine = sym (came-if z theirs true q) ∙ e ∙ went-if y mine false r in
    let at : z ≡ turned_entry y = cc in
    let rest : came theirs ≡ went mine = cc in
    let back : y ≡ turned_entry z = sym (entry-twice y) ∙ ap turned_entry (sym at) in
    let s : SeesAll mine theirs = c [] mine [] theirs z (ap (λ (x : Entry). x ∷ mine) back) refl q rest in
    let w' : IsLawfulEnd (λ m. not (own m)) theirs = end-tail (λ m. not (own m)) z theirs w in
    let l' : IsLawfulEnd own (turned_entry z ∷ mine) = subst (λ (x : Entry). IsLawfulEnd own (x ∷ mine)) back l in
    both own n k mine theirs z q l' w' s v
    (ih (end-tail own y mine l) w' (causal-theirs z mine theirs (causal-mine y mine (z ∷ theirs) c)) (whole-tail z theirs v) rest)
    ∙ ap (λ (x : Entry). plain (sent (life n k (x ∷ mine)))) (sym back)
walk-both own n k y mine z theirs ih same r false q l w c v e =
    ap plain (life-went n k theirs z q)
    ∙ same l (end-tail (λ m. not (own m)) z theirs w) (causal-theirs z (y ∷ mine) theirs c) (whole-tail z theirs v) (sym (came-if z theirs false q) ∙ e)

walk-inner : (own : ℕ → Bool) (n k : ℕ) (y : Entry) (mine : List Entry) → ((theirs : List Entry) → All own n k mine theirs) → comes y ≡ false
    → (theirs : List Entry) → All own n k (y ∷ mine) theirs
walk-inner own n k y mine ih r [] = λ l w c v e. let g : [] ≡ turned_entry y ∷ went mine = e ∙ went-if y mine false r in cc
walk-inner own n k y mine ih r (z ∷ theirs) = walk-both own n k y mine z theirs (ih theirs) (walk-inner own n k y mine ih r theirs) r (comes z) refl

walk-by : (own : ℕ → Bool) (n k : ℕ) (y : Entry) (mine : List Entry) → ((theirs : List Entry) → All own n k mine theirs)
    → (b : Bool) → comes y ≡ b → (theirs : List Entry) → All own n k (y ∷ mine) theirs
walk-by own n k y mine ih false r theirs = walk-inner own n k y mine ih r theirs
walk-by own n k y mine ih true r theirs = λ l w c v e.
    ih theirs (end-tail own y mine l) w (causal-mine y mine theirs c) v (e ∙ went-if y mine true r) ∙ sym (ap plain (life-came n k mine y r))

pub frames_arrived : (own : ℕ → Bool) (n k : ℕ) (mine theirs : List Entry) → All own n k mine theirs
frames_arrived own n k [] theirs = walk-end own n k theirs
frames_arrived own n k (y ∷ mine) theirs = walk-by own n k y mine (frames_arrived own n k mine) (comes y) refl theirs

-- ---- marks by frames alone

frames-plain : (past : List Item) → frames Side.Received (plain past) ≡ frames Side.Received past
frames-plain [] = refl
frames-plain (began Side.Received head ∷ past) = frames-plain past
frames-plain (began Side.Sent head ∷ past) = frames-plain past
frames-plain (passed Side.Received head payload ∷ past) = ap (λ (fs : List Head). head ∷ fs) (frames-plain past)
frames-plain (passed Side.Sent head payload ∷ past) = frames-plain past
frames-plain (told side seq ∷ past) = frames-plain past

requests-plain : (past : List Item) → requests Side.Received (plain past) ≡ requests Side.Received past
requests-plain [] = refl
requests-plain (began Side.Received head ∷ past) = rw (frames-plain past, requests-plain past) refl
requests-plain (began Side.Sent head ∷ past) = requests-plain past
requests-plain (passed side head payload ∷ past) = requests-plain past
requests-plain (told side seq ∷ past) = requests-plain past

way-plain : (past : List Item) → way_marks (plain past) ≡ way_marks past
way-plain [] = refl
way-plain (began side head ∷ past) = way-plain past
way-plain (passed side head payload ∷ past) = rw (way-plain past, frames-plain past, requests-plain past) refl
way-plain (told side seq ∷ past) = way-plain past

-- where each frame has arrived each mark has
pub marks_all : (mine theirs : List Item) → KeepsExchangeRules mine → KeepsExchangeRules theirs → plain (arrived theirs) ≡ plain (sent mine)
    → marks Side.Sent mine ≡ marks Side.Received theirs
marks_all mine theirs u v e =
    marks-sent mine u ∙ sym (way-plain (sent mine)) ∙ ap way_marks (sym e) ∙ way-plain (arrived theirs) ∙ sym (marks-arrived theirs v)
