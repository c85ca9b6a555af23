-- Over all that two ends with many lives do.
use Rattle.std.proofs.Common.{◌≡◌, ℕ, suc, ◌+◌, ◌≤◌, Bool, true, false, not, List, [], ◌∷◌, ◌++◌, length, refl, sym, ap, ◌∙◌, arith, subst, length-append, append_assoc}
use Rattle.std.proofs.Math.Path.{fun_ext}
use Rattle.beep_history.specs.declared.journal.Side.{Side}
use Rattle.beep_history.specs.Journal.{turned, Item, began, passed, told}
use Rattle.beep_two_ends.specs.Seen.{is_received, Sees}
use Rattle.beep_two_ends.specs.OneLife.{NeverBroke}
use Rattle.beep_two_journals.proofs.Entries.{Entry, asks, replies, on, asked, lives, ended, is_live, life, IsLawfulEnd, came, went, comes, turned_entry, SeesAll, Causal}
use Rattle.beep_two_journals.proofs.Entries.{IsLawfulLives, NeverBrokeAll, IsWholeOn, is_told, BothEnds}
use Rattle.beep_two_ends.proofs.WorldLemmas.{arrives}
use Rattle.beep_two_journals.proofs.CountLemmas.{same_count, zero_agrees}
use Rattle.beep_two_journals.proofs.WalkLemmas.{came-if, went-if, turned-flips, live_parts, life_sees}
use Rattle.beep_two_journals.proofs.EndsLemmas.{came-append}
use Rattle.beep_two_journals.proofs.TailLemmas.{life-lawful, life-whole}
use Rattle.beep_two_journals.proofs.StaysLemmas.{stays_live}

true-false : (b : Bool) → b ≡ true → b ≡ false → ⊥
true-false b t f = let e : true ≡ false = sym t ∙ f in cc

pub entry-flips : (entry : Entry) → comes (turned_entry entry) ≡ not (comes entry)
entry-flips (asks Side.Received says) = refl
entry-flips (asks Side.Sent says) = refl
entry-flips (replies Side.Received ok) = refl
entry-flips (replies Side.Sent ok) = refl
entry-flips (on n item) = turned-flips item

pub swap-end : (own : ℕ → Bool) (past : List Entry) → IsLawfulEnd (λ n. not (not (own n))) past → IsLawfulEnd own past
swap-end own past l = subst (λ (f : ℕ → Bool). IsLawfulEnd f past) (fun_ext (λ n. not-twice (own n))) l
  where
    not-twice : (b : Bool) → not (not b) ≡ b
    not-twice true = refl
    not-twice false = refl

-- ---- an end sends

-- what a moment had seen, on what has been sent and come since
sees-from : (a b to_a l before : List Entry) (entry : Entry) → went b ≡ to_a ++ came a → a ≡ l ++ turned_entry entry ∷ before → comes entry ≡ true
    → came b ≡ went before → SeesAll before b
sees-from a b to_a l before entry pair is c all = record {
  all = all;
  newer = to_a ++ came l;
  some = pair ∙ ap (λ (xs : List Entry). to_a ++ xs) (ap came is ∙ came-append l (turned_entry entry ∷ before) ∙ ap (λ (xs : List Entry). came l ++ xs) (came-if (turned_entry entry) before false (entry-flips entry ∙ ap not c)))
      ∙ sym (append_assoc to_a (came l) (came before));
}

pub causal-sent : (a b to_b : List Entry) (y : Entry) → went a ≡ to_b ++ came b → Causal a b → Causal (turned_entry y ∷ a) b
causal-sent a b to_b y pair c [] before m since entry at bt r e =
    let same : a ≡ before = cc in
    let many : came b ≡ came m ++ entry ∷ came since = ap came bt ∙ came-append m (entry ∷ since) ∙ ap (λ (xs : List Entry). came m ++ xs) (came-if entry since true r) in
    absurd (too-many (length to_b) (length (came m)) (length (came since)) (length (came b)) (length (went a))
    (ap length pair ∙ length-append to_b (came b)) (ap length many ∙ length-append (came m) (entry ∷ came since)) (ap length e ∙ ap (λ (xs : List Entry). length (went xs)) (sym same)))
  where
    too-many : (t m s b w : ℕ) → w ≡ t + b → b ≡ m + suc s → s ≡ w → ⊥
    too-many t m s b w e f g = omega arith
causal-sent a b to_b y pair c (z ∷ l) before m since entry at bt r e =
    let rest : a ≡ l ++ turned_entry entry ∷ before = cc in c l before m since entry rest bt r e

pub causal-beside : (a b : List Entry) (y : Entry) → comes y ≡ false → Causal b a → Causal b (y ∷ a)
causal-beside a b y f c l before [] since entry at bt r e =
    let same : y ≡ entry = cc in absurd (true-false (comes y) (ap comes same ∙ r) f)
causal-beside a b y f c l before (z ∷ m) since entry at bt r e =
    let rest : a ≡ m ++ entry ∷ since = cc in c l before m since entry at rest r e

whole-sent-by : (n : ℕ) (item : Item) (past : List Entry) → is_received item ≡ false → NeverBrokeAll past → NeverBrokeAll (on n item ∷ past)
whole-sent-by n item past f w = ((λ r. absurd (true-false _ r f)), w)

pub whole-sent : (entry : Entry) (past : List Entry) → comes entry ≡ true → NeverBrokeAll past → NeverBrokeAll (turned_entry entry ∷ past)
whole-sent (asks by says) past c w = w
whole-sent (replies by ok) past c w = w
whole-sent (on n item) past c w = whole-sent-by n (turned item) past (turned-flips item ∙ ap not c) w

-- ---- an entry arrives

pub causal-got : (a b to_a : List Entry) (x : Entry) → went b ≡ to_a ++ came a → Causal a b → Causal a (x ∷ b)
causal-got a b to_a x pair c l before [] since entry at bt r e =
    let same : b ≡ since = cc in
    subst (λ (xs : List Entry). SeesAll before xs) same (sees-from a b to_a l before entry pair at r (ap came same ∙ e))
causal-got a b to_a x pair c l before (z ∷ m) since entry at bt r e =
    let rest : b ≡ m ++ entry ∷ since = cc in c l before m since entry at rest r e

pub causal-aside : (a b : List Entry) (x : Entry) → comes x ≡ true → Causal b a → Causal (x ∷ b) a
causal-aside a b x f c [] before m since entry at bt r e =
    let same : x ≡ turned_entry entry = cc in
    absurd (true-false (comes x) f (ap comes same ∙ entry-flips entry ∙ ap not r))
causal-aside a b x f c (z ∷ l) before m since entry at bt r e =
    let rest : b ≡ l ++ turned_entry entry ∷ before = cc in c l before m since entry rest bt r e

-- what is on a wire is received
pub on-wire : (past newer : List Entry) (entry : Entry) (before : List Entry) → went past ≡ newer ++ entry ∷ before → comes entry ≡ true
on-wire [] [] entry before e = cc
on-wire [] (n ∷ newer) entry before e = cc
on-wire (x ∷ past) newer entry before e = by-side x past newer entry before (λ ns f. on-wire past ns entry before f) (comes x) refl e
  where
    by-side : (x : Entry) (past newer : List Entry) (entry : Entry) (before : List Entry) → ((ns : List Entry) → went past ≡ ns ++ entry ∷ before → comes entry ≡ true)
        → (b : Bool) → comes x ≡ b → went (x ∷ past) ≡ newer ++ entry ∷ before → comes entry ≡ true
    by-side x past newer entry before ih true r e = ih newer (sym (went-if x past true r) ∙ e)
    by-side x past [] entry before ih false r e =
        let g : turned_entry x ∷ went past ≡ entry ∷ before = sym (went-if x past false r) ∙ e in
        let same : turned_entry x ≡ entry = cc in
        ap comes (sym same) ∙ entry-flips x ∙ ap not r
    by-side x past (n ∷ newer) entry before ih false r e =
        let g : turned_entry x ∷ went past ≡ n ∷ newer ++ entry ∷ before = sym (went-if x past false r) ∙ e in
        let rest : went past ≡ newer ++ entry ∷ before = cc in
        ih newer rest

item-arrives : (own : ℕ → Bool) (mine theirs : List Entry) (n : ℕ) (item : Item) → BothEnds own mine theirs → is_received item ≡ true
    → IsLawfulEnd own (on n (turned item) ∷ mine) → IsLawfulLives (on n (turned item) ∷ mine) → IsWholeOn n item theirs
item-arrives own mine theirs n item x r l v =
    let out : is_received (turned item) ≡ false = turned-flips item ∙ ap not r in
    let live : is_live n mine ≡ true = l.0 out in
    let law = v.0 out in
    let p = live_parts n mine live in
    let count : lives n theirs ≡ lives n mine = same_count own mine theirs n x.mine_end x.theirs_end x.sees live in (
      (λ plain. stays_live own mine theirs n (turned item) x live (told-turned item ∙ plain) out law.0 law.1 law.2),
      (λ there.
          let q = live_parts n theirs there in
          let s : Sees (life n (lives n mine) mine) (life n (lives n mine) theirs) =
          life_sees own mine theirs n (lives n mine) x.mine_end x.theirs_end x.there x.back x.sees p.0 p.1 (subst (λ (j : ℕ). ended n j theirs ≡ false) count q.1) in
          subst (λ (j : ℕ). NeverBroke (item ∷ life n j theirs)) (sym count) (
            arrives (life n (lives n mine) theirs) item (life n (lives n mine) mine) law.0 (whole-out (turned item) (life n (lives n mine) mine) out (life-whole n (lives n mine) mine p.0 x.mine_whole))
                (life-lawful n (lives n mine) theirs p.0 x.theirs_lives) (life-whole n (lives n mine) theirs p.0 x.theirs_whole) s r,
            life-whole n (lives n mine) theirs p.0 x.theirs_whole,
          )),
    )
  where
    told-turned : (item : Item) → is_told (turned item) ≡ is_told item
    told-turned (began side head) = refl
    told-turned (passed side head payload) = refl
    told-turned (told side seq) = refl

    whole-out : (item : Item) (h : List Item) → is_received item ≡ false → NeverBroke h → NeverBroke (item ∷ h)
    whole-out (began Side.Received head) h f w = cc
    whole-out (passed Side.Received head payload) h f w = cc
    whole-out (told Side.Received seq) h f w = cc
    whole-out (began Side.Sent head) h f w = (tt, w)
    whole-out (passed Side.Sent head payload) h f w = (tt, w)
    whole-out (told Side.Sent seq) h f w = (tt, w)

pub entry-arrives : (own : ℕ → Bool) (mine theirs : List Entry) (entry : Entry) → BothEnds own mine theirs → comes entry ≡ true
    → IsLawfulEnd own (turned_entry entry ∷ mine) → IsLawfulLives (turned_entry entry ∷ mine)
    → IsLawfulEnd (λ n. not (own n)) (entry ∷ theirs) × IsLawfulLives (entry ∷ theirs) × NeverBrokeAll (entry ∷ theirs)
entry-arrives own mine theirs (asks Side.Received says) x c l v = (x.theirs_end, x.theirs_lives, x.theirs_whole)
entry-arrives own mine theirs (asks Side.Sent says) x c l v = cc
entry-arrives own mine theirs (replies Side.Received ok) x c l v =
    let z = zero_agrees mine theirs x.sees in
    let more : length (asked Side.Received mine) ≤ length (asked Side.Sent theirs) = rw z.more_asked.is (omega (arith, length-append z.more_asked.newer (asked Side.Received mine))) in
    ((omega (arith, l.0, more, ap length z.same_replied), x.theirs_end), x.theirs_lives, x.theirs_whole)
entry-arrives own mine theirs (replies Side.Sent ok) x c l v = cc
entry-arrives own mine theirs (on n item) x c l v =
    (((λ f. absurd (true-false _ c f)), x.theirs_end), ((λ f. absurd (true-false _ c f)), x.theirs_lives), ((λ r. item-arrives own mine theirs n item x c l v), x.theirs_whole))
