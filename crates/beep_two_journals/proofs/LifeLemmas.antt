-- The history of a life by the moments of a journal is that by its entries.
use Rattle.std.proofs.Common.{◌≡◌, ℕ, ◌==◌, Bool, true, false, ◌&&◌, ◌||◌, if◌then◌else◌, List, [], ◌∷◌, ◌++◌, refl, sym, ap, ◌∙◌, arith, subst}
use Rattle.std.proofs.lemmas.Bool.Decides.{nat_tests}
use Rattle.beep_frame.specs.declared.head.Head.{Head}
use Rattle.beep_frame.specs.declared.kind.Kind.{Kind}
use Rattle.beep_frame.specs.Frame.{is_msg, is_ans, same_kind}
use Rattle.beep_history.specs.declared.journal.Side.{Side}
use Rattle.beep_history.specs.Journal.{Item, began, passed, told}
use Rattle.beep_history.specs.Marks.{frames}
use Rattle.beep_history.specs.Moments.{replies_ended}
use Rattle.beep_history.specs.Broken.{KeepsExchangeRules}
use Rattle.beep_journal.specs.Lives as landed
use Rattle.beep_journal.specs.Zero.{zero_history, gathered, events}
use Rattle.beep_journal.specs.Life as of_journal
use Rattle.beep_journal.specs.Life.{history, is_there, life_under_way}
use Rattle.beep_journal.proofs.MomentLemmas.{apart-zero}
use Rattle.beep_two_journals.proofs.Entries.{Says, Entry, asks, replies, on, lives, is_live, life_now, life, read, speaks, entries}
use Rattle.beep_two_journals.proofs.PassingLemmas.{Bridged}
use Rattle.beep_two_journals.proofs.BridgeLemmas.{bridged, HasForms, keeps-if}

pub number : (a b : ℕ) → (a == b) ≡ true → a ≡ b
number a b e = grind (arith, nat_tests)

pub itself : (a : ℕ) → (a == a) ≡ true
itself a = grind (arith, nat_tests)

-- ---- what lives

pub live-same : (n : ℕ) (past : List Item) → Bridged (zero_history past) (entries past) → landed.is_live n (events past) ≡ is_live n (entries past)
live-same n past b = rw (b.lives_is n, b.ended_is n (lives n (entries past))) refl

pub now-same : (n : ℕ) (past : List Item) → Bridged (zero_history past) (entries past) → of_journal.life_now n past ≡ life_now n (entries past)
now-same n past b = rw (b.lives_is n, b.ended_is n (lives n (entries past))) refl

-- ---- frames that pass in the life in which they began

abbrev pub IsSteady : List Item → Type 0
IsSteady [] = Unit {0}
IsSteady (began by head ∷ past) = IsSteady past
IsSteady (passed by head payload ∷ past) =
    ((head.channel == 0) ≡ false → life_under_way head.channel by past ≡ of_journal.life_now head.channel past) × IsSteady past
IsSteady (told by seq ∷ past) = IsSteady past

pick : (t u : Bool) (item : Item) (xs ys : List Item) → t ≡ u → xs ≡ ys → (if t then item ∷ xs else xs) ≡ (if u then item ∷ ys else ys)
pick true true item xs ys e f = ap (λ (zs : List Item). item ∷ zs) f
pick true false item xs ys e f = cc
pick false true item xs ys e f = cc
pick false false item xs ys e f = f

-- an item of another number
aside : (c n k now : ℕ) (item : Item) (xs ys : List Item) → (c == 0) ≡ true → (n == 0) ≡ false → xs ≡ ys → (if c == n && now == k then item ∷ xs else xs) ≡ ys
aside c n k now item xs ys e f g = rw (apart-zero c n e f) g

above : (c n k now now' : ℕ) (item : Item) (xs ys : List Item) → ((c == n) ≡ true → now ≡ now') → xs ≡ ys
    → (if c == n && now == k then item ∷ xs else xs) ≡ (if c == n && now' == k then item ∷ ys else ys)
above c n k now now' item xs ys e f = pick _ _ item xs ys (by-number (c == n) refl) f
  where
    by-number : (b : Bool) → (c == n) ≡ b → (b && now == k) ≡ (b && now' == k)
    by-number true g = ap (λ (m : ℕ). m == k) (e g)
    by-number false g = refl

-- what channel zero says is in no life above it
life-speaks : (n k : ℕ) (more msg none : Bool) (by : Side) (says : Says) (ok : Bool) (es : List Entry)
    → life n k ((if more then [] else (if msg then asks by says ∷ [] else (if none then [] else replies by ok ∷ []))) ++ es) ≡ life n k es
life-speaks n k true msg none by says ok es = refl
life-speaks n k false true none by says ok es = refl
life-speaks n k false false true by says ok es = refl
life-speaks n k false false false by says ok es = refl

item-same : (n k now now' c : ℕ) (item : Item) (xs : List Item) (es : List Entry) → (n == 0) ≡ false → now' ≡ life_now n es → ((c == n) ≡ true → now ≡ now') → xs ≡ life n k es
    → (b : Bool) → (c == 0) ≡ b → (if c == n && now == k then item ∷ xs else xs) ≡ life n k ((if b then [] else on c item ∷ []) ++ es)
item-same n k now now' c item xs es z at same e true zero_channel = aside c n k now item xs (life n k es) zero_channel z e
item-same n k now now' c item xs es z at same e false zero_channel = above c n k now (life_now n es) item xs (life n k es) (λ f. same f ∙ at) e

frame-same : (n k now now' c : ℕ) (by : Side) (head : Head) (payload : List ℕ) (text : List ℕ) (fs : List Head) (xs : List Item) (es : List Entry)
    → (n == 0) ≡ false → now' ≡ life_now n es → xs ≡ life n k es
    → (b : Bool) → (c == 0) ≡ b → (b ≡ false → (c == n) ≡ true → now ≡ now')
    → (if c == n && now == k then passed by head payload ∷ xs else xs) ≡ life n k ((if b then speaks by head payload text fs else on c (passed by head payload) ∷ []) ++ es)
frame-same n k now now' c by head payload text fs xs es z at e true zero_channel same =
    aside c n k now (passed by head payload) xs (life n k es) zero_channel z e
    ∙ sym (life-speaks n k head.more (is_msg head.kind) (is_ans head.kind || replies_ended fs == 0) by (read (text ++ payload)) (same_kind Kind.Rpy head.kind) es)
frame-same n k now now' c by head payload text fs xs es z at e false zero_channel same =
    above c n k now (life_now n es) (passed by head payload) xs (life n k es) (λ f. same refl f ∙ at) e

pub life-same : (n k : ℕ) → (n == 0) ≡ false → (past : List Item) → KeepsExchangeRules (zero_history past) → HasForms past → IsSteady past
    → of_journal.life n k past ≡ life n k (entries past)
life-same n k z [] u f s = refl
life-same n k z (began by head ∷ past) u f s =
    let v = keeps-if (head.channel == 0) (began by head) (zero_history past) u in
    item-same n k (of_journal.life_now n past) (of_journal.life_now n past) head.channel (began by head) (of_journal.life n k past) (entries past) z
    (now-same n past (bridged past v f)) (λ g. refl) (life-same n k z past v f s) (head.channel == 0) refl
life-same n k z (told by seq ∷ past) u f s =
    let v = keeps-if (seq.channel == 0) (told by seq) (zero_history past) u in
    item-same n k (of_journal.life_now n past) (of_journal.life_now n past) seq.channel (told by seq) (of_journal.life n k past) (entries past) z
    (now-same n past (bridged past v f)) (λ g. refl) (life-same n k z past v f s) (seq.channel == 0) refl
life-same n k z (passed by head payload ∷ past) u f s =
    let v = keeps-if (head.channel == 0) (passed by head payload) (zero_history past) u in
    frame-same n k (life_under_way n by past) (of_journal.life_now n past) head.channel by head payload (gathered by (zero_history past)) (frames by (zero_history past))
    (of_journal.life n k past) (entries past) z (now-same n past (bridged past v f.1)) (life-same n k z past v f.1 s.1) (head.channel == 0) refl
    (λ above same. subst (λ (j : ℕ). life_under_way j by past ≡ of_journal.life_now j past) (number head.channel n same) (s.0 above))

-- the history of a number that is live
pub history-same : (n : ℕ) → (n == 0) ≡ false → (past : List Item) → KeepsExchangeRules (zero_history past) → HasForms past → IsSteady past → is_live n (entries past) ≡ true
    → history n past ≡ life n (lives n (entries past)) (entries past)
history-same n z past u f s live =
    let b = bridged past u f in
    let now : of_journal.life_now n past ≡ lives n (entries past) = now-same n past b ∙ rw live refl in
    rw z (ap (λ (k : ℕ). of_journal.life n k past) now ∙ life-same n (lives n (entries past)) z past u f s)

pub history-zero : (n : ℕ) → (n == 0) ≡ true → (past : List Item) → history n past ≡ zero_history past
history-zero n z past = rw z refl

pub there-live : (n : ℕ) → (n == 0) ≡ false → (past : List Item) → Bridged (zero_history past) (entries past) → is_there n past ≡ true → is_live n (entries past) ≡ true
there-live n z past b t = sym (live-same n past b) ∙ (rw z at t)

pub live-there : (n : ℕ) → (n == 0) ≡ false → (past : List Item) → Bridged (zero_history past) (entries past) → is_live n (entries past) ≡ true → is_there n past ≡ true
live-there n z past b l = rw z (live-same n past b ∙ l)

pub zero-there : (n : ℕ) → (n == 0) ≡ true → (past : List Item) → is_there n past ≡ true
zero-there n z past = rw z refl
