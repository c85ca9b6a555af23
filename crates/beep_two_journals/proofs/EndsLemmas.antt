-- What a close names, and the moment at which a life ended.
use Rattle.std.proofs.Common.{◌≡◌, ℕ, suc, ◌+◌, ◌<◌, ◌≤◌, ◌==◌, nat_lt, Bool, true, false, not, ◌&&◌, ◌||◌, if◌then◌else◌, List, [], ◌∷◌, ◌++◌, length, refl, sym, ap, ◌∙◌, arith, subst, length-append, append_assoc}
use Rattle.std.proofs.lemmas.Bool.Decides.{nat_tests}
use Rattle.beep_history.specs.declared.journal.Side.{Side}
use Rattle.beep_history.specs.Journal.{other, same_side}
use Rattle.beep_two_journals.proofs.Entries.{Says, starts, closes, says_else, Entry, asks, replies, on, is_start, is_close, asked, replied, said, answers_to, lives, ended, names, NoStart, IsLawfulEnd, IsLawfulAsk, came, went, comes, turned_entry, SeesAll, Causal}
use Rattle.beep_two_journals.proofs.LivesLemmas.{said-stable}
use Rattle.beep_two_journals.proofs.CountLemmas.{AskedBefore, same_count_idle, zero_agrees}
use Rattle.beep_two_journals.proofs.WalkLemmas.{entry-twice, end-tail, end-earlier, ended-earlier}

came-if : (entry : Entry) (past : List Entry) (b : Bool) → comes entry ≡ b → came (entry ∷ past) ≡ (if b then entry ∷ came past else came past)
came-if entry past b e = rw e

went-if : (entry : Entry) (past : List Entry) (b : Bool) → comes entry ≡ b → went (entry ∷ past) ≡ (if b then went past else turned_entry entry ∷ went past)
went-if entry past b e = rw e

came-append-by : (y : Entry) (later earlier : List Entry) → came (later ++ earlier) ≡ came later ++ came earlier → (b : Bool) → comes y ≡ b
    → came (y ∷ later ++ earlier) ≡ came (y ∷ later) ++ came earlier
came-append-by y later earlier ih true e = rw (e, ih)
came-append-by y later earlier ih false e = rw (e, ih)

pub came-append : (later earlier : List Entry) → came (later ++ earlier) ≡ came later ++ came earlier
came-append [] earlier = refl
came-append (y ∷ later) earlier = came-append-by y later earlier (came-append later earlier) (comes y) refl

-- an entry was sent at a moment, when these had been sent
pub record SentAll (past : List Entry) (entry : Entry) (before : List Entry) : Type 0 where
  pub later : List Entry
  pub earlier : List Entry
  pub is : past ≡ later ++ turned_entry entry ∷ earlier
  pub at : went earlier ≡ before

sent-cons : (x : Entry) (past : List Entry) (entry : Entry) (before : List Entry) → SentAll past entry before → SentAll (x ∷ past) entry before
sent-cons x past entry before s = record { later = x ∷ s.later; earlier = s.earlier; is = ap (λ (xs : List Entry). x ∷ xs) s.is; at = s.at }

sent-by : (x : Entry) (past : List Entry) (entry : Entry) (newer before : List Entry)
    → ((ns : List Entry) → went past ≡ ns ++ entry ∷ before → SentAll past entry before)
    → (b : Bool) → comes x ≡ b → went (x ∷ past) ≡ newer ++ entry ∷ before → SentAll (x ∷ past) entry before
sent-by x past entry newer before ih true r e = sent-cons x past entry before (ih newer (sym (went-if x past true r) ∙ e))
sent-by x past entry [] before ih false r e =
    let g : turned_entry x ∷ went past ≡ entry ∷ before = sym (went-if x past false r) ∙ e in
    let same : turned_entry x ≡ entry = cc in
    let rest : went past ≡ before = cc in
    record { later = []; earlier = past; is = ap (λ (y : Entry). y ∷ past) (sym (entry-twice x) ∙ ap turned_entry same); at = rest }
sent-by x past entry (n ∷ newer) before ih false r e =
    let g : turned_entry x ∷ went past ≡ n ∷ newer ++ entry ∷ before = sym (went-if x past false r) ∙ e in
    let rest : went past ≡ newer ++ entry ∷ before = cc in
    sent-cons x past entry before (ih newer rest)

pub sent_all : (past : List Entry) (entry : Entry) (newer before : List Entry) → went past ≡ newer ++ entry ∷ before → SentAll past entry before
sent_all [] entry [] before e = cc
sent_all [] entry (n ∷ newer) before e = cc
sent_all (x ∷ past) entry newer before e = sent-by x past entry newer before (λ ns f. sent_all past entry ns before f) (comes x) refl e

-- ---- the request at a place

pub record Moment (side : Side) (p : ℕ) (past : List Entry) : Type 0 where
  pub later : List Entry
  pub says : Says
  pub earlier : List Entry
  pub is : past ≡ later ++ asks side says ∷ earlier
  pub at : length (asked side earlier) ≡ p
  pub says_is : said p (asked side past) ≡ says
  pub named : (n : ℕ) → names n side p past ≡ lives n earlier

moment-here : (side : Side) (says : Says) (past : List Entry) (p : ℕ) → same_side side side ≡ true
    → ((n : ℕ) → names n side p (asks side says ∷ past) ≡ (if length (asked side past) == p then lives n past else names n side p past))
    → asked side (asks side says ∷ past) ≡ says ∷ asked side past
    → p < suc (length (asked side past)) → (p < length (asked side past) → Moment side p past)
    → (b : Bool) → (length (asked side past) == p) ≡ b → Moment side p (asks side says ∷ past)
moment-here side says past p same n a h ih true e = record {
  later = [];
  says = says;
  earlier = past;
  is = refl;
  at = at-place (length (asked side past)) p e;
  says_is = rw (a, e);
  named = λ m. n m ∙ rw e;
}
  where
    at-place : (a b : ℕ) → (a == b) ≡ true → a ≡ b
    at-place a b e = grind (arith, nat_tests)
moment-here side says past p same n a h ih false e =
    let m = ih (below (length (asked side past)) p h e) in
    record {
      later = asks side says ∷ m.later;
      says = m.says;
      earlier = m.earlier;
      is = ap (λ (xs : List Entry). asks side says ∷ xs) m.is;
      at = m.at;
      says_is = rw (a, e) m.says_is;
      named = λ j. n j ∙ rw e (m.named j);
    }
  where
    below : (a b : ℕ) → b < suc a → (a == b) ≡ false → b < a
    below a b h e = grind (arith, nat_tests)

moment-skip : (x : Entry) (side : Side) (p : ℕ) (past : List Entry) → asked side (x ∷ past) ≡ asked side past
    → ((n : ℕ) → names n side p (x ∷ past) ≡ names n side p past) → Moment side p past → Moment side p (x ∷ past)
moment-skip x side p past a n m = record {
  later = x ∷ m.later;
  says = m.says;
  earlier = m.earlier;
  is = ap (λ (xs : List Entry). x ∷ xs) m.is;
  at = m.at;
  says_is = ap (said p) a ∙ m.says_is;
  named = λ j. n j ∙ m.named j;
}

pub moment : (side : Side) (p : ℕ) (past : List Entry) → p < length (asked side past) → Moment side p past
moment side p [] h = absurd (omega arith)
moment Side.Received p (asks Side.Received says ∷ past) h =
    moment-here Side.Received says past p refl (λ n. refl) refl h (λ f. moment Side.Received p past f) _ refl
moment Side.Sent p (asks Side.Sent says ∷ past) h =
    moment-here Side.Sent says past p refl (λ n. refl) refl h (λ f. moment Side.Sent p past f) _ refl
moment Side.Received p (asks Side.Sent says ∷ past) h = moment-skip _ Side.Received p past refl (λ n. refl) (moment Side.Received p past h)
moment Side.Sent p (asks Side.Received says ∷ past) h = moment-skip _ Side.Sent p past refl (λ n. refl) (moment Side.Sent p past h)
moment side p (replies by ok ∷ past) h = moment-skip _ side p past refl (λ n. refl) (moment side p past h)
moment side p (on n item ∷ past) h = moment-skip _ side p past refl (λ n. refl) (moment side p past h)

-- ---- what stays

pub asked-grows : (side : Side) (later past : List Entry) → AskedBefore (asked side past) (asked side (later ++ past))
asked-grows side [] past = record { newer = []; is = refl }
asked-grows Side.Received (asks Side.Received says ∷ later) past =
    let w = asked-grows Side.Received later past in record { newer = says ∷ w.newer; is = ap (λ (xs : List Says). says ∷ xs) w.is }
asked-grows Side.Sent (asks Side.Sent says ∷ later) past =
    let w = asked-grows Side.Sent later past in record { newer = says ∷ w.newer; is = ap (λ (xs : List Says). says ∷ xs) w.is }
asked-grows Side.Received (asks Side.Sent says ∷ later) past = asked-grows Side.Received later past
asked-grows Side.Sent (asks Side.Received says ∷ later) past = asked-grows Side.Sent later past
asked-grows side (replies by ok ∷ later) past = asked-grows side later past
asked-grows side (on n item ∷ later) past = asked-grows side later past

pub said-later : (side : Side) (p : ℕ) (later past : List Entry) → p < length (asked side past) → said p (asked side (later ++ past)) ≡ said p (asked side past)
said-later side p later past h =
    let w = asked-grows side later past in ap (said p) w.is ∙ said-stable p w.newer (asked side past) h

pub length-grows : (side : Side) (later past : List Entry) → length (asked side past) ≤ length (asked side (later ++ past))
length-grows side later past = let w = asked-grows side later past in rw w.is (omega (arith, length-append w.newer (asked side past)))

not-place : (a p : ℕ) → p < a → (a == p) ≡ false
not-place a p h = grind (arith, nat_tests)

pub names-later : (n : ℕ) (side : Side) (p : ℕ) (later past : List Entry) → p < length (asked side past) → names n side p (later ++ past) ≡ names n side p past
names-later n side p [] past h = refl
names-later n Side.Received p (asks Side.Received says ∷ later) past h =
    let e : (length (asked Side.Received (later ++ past)) == p) ≡ false = not-place _ p (omega (arith, length-grows Side.Received later past)) in
    rw e (names-later n Side.Received p later past h)
names-later n Side.Sent p (asks Side.Sent says ∷ later) past h =
    let e : (length (asked Side.Sent (later ++ past)) == p) ≡ false = not-place _ p (omega (arith, length-grows Side.Sent later past)) in
    rw e (names-later n Side.Sent p later past h)
names-later n Side.Received p (asks Side.Sent says ∷ later) past h = names-later n Side.Received p later past h
names-later n Side.Sent p (asks Side.Received says ∷ later) past h = names-later n Side.Sent p later past h
names-later n side p (replies by ok ∷ later) past h = names-later n side p later past h
names-later n side p (on m item ∷ later) past h = names-later n side p later past h

lives-step : (v : ℕ) (b : Bool) → v ≤ (if b then v + 1 else v)
lives-step v true = omega arith
lives-step v false = omega arith

pub lives-later : (n : ℕ) (later past : List Entry) → lives n past ≤ lives n (later ++ past)
lives-later n [] past = omega arith
lives-later n (asks by says ∷ later) past = lives-later n later past
lives-later n (replies by ok ∷ later) past =
    let h = lives-later n later past in
    let s = lives-step (lives n (later ++ past)) ((ok && is_start n (answers_to by (later ++ past))) && not (nat_lt 0 (lives n (later ++ past)) && not (ended n (lives n (later ++ past)) (later ++ past)))) in
    omega (arith, h, s)
lives-later n (on m item ∷ later) past = lives-later n later past

pub ended-later : (n k : ℕ) (later past : List Entry) → ended n k past ≡ true → ended n k (later ++ past) ≡ true
ended-later n k later past e = by-test (ended n k (later ++ past)) refl
  where
    by-test : (b : Bool) → ended n k (later ++ past) ≡ b → b ≡ true
    by-test true f = refl
    by-test false f = let g : ended n k past ≡ false = ended-earlier n k later past f in let bad : true ≡ false = sym e ∙ g in cc

-- ---- a close names one life at both ends

close-law : (own : ℕ → Bool) (n : ℕ) (past : List Entry) (says : Says) → IsLawfulAsk own past says → is_close n says ≡ true → NoStart n past
close-law own n past (starts m) l e = cc
close-law own n past (closes m) l e = subst (λ (j : ℕ). NoStart j past) (number m n e) l
  where
    number : (a b : ℕ) → (a == b) ≡ true → a ≡ b
    number a b e = grind (arith, nat_tests)
close-law own n past says_else l e = cc

pub names_same : (own : ℕ → Bool) (mine theirs : List Entry) (n p : ℕ) → IsLawfulEnd own mine → IsLawfulEnd (λ m. not (own m)) theirs → Causal mine theirs
    → (newer : List Entry) → went mine ≡ newer ++ came theirs → p < length (asked Side.Received theirs) → is_close n (said p (asked Side.Received theirs)) ≡ true
    → names n Side.Received p theirs ≡ names n Side.Sent p mine
names_same own mine theirs n p l w c newer some h close =
    let m = moment Side.Received p theirs h in
    let came_is : came theirs ≡ came m.later ++ asks Side.Received m.says ∷ came m.earlier = ap came m.is ∙ came-append m.later (asks Side.Received m.says ∷ m.earlier) in
    let s = sent_all mine (asks Side.Received m.says) (newer ++ came m.later) (came m.earlier)
    (some ∙ ap (λ (xs : List Entry). newer ++ xs) came_is ∙ sym (append_assoc newer (came m.later) (asks Side.Received m.says ∷ came m.earlier))) in
    let sees : SeesAll s.earlier m.earlier = c s.later s.earlier m.later m.earlier (asks Side.Received m.says) s.is m.is refl (sym s.at) in
    let at : length (asked Side.Sent s.earlier) ≡ p = ap length (sym (zero_agrees s.earlier m.earlier sees).same_asked) ∙ m.at in
    let l' : IsLawfulEnd own (asks Side.Sent m.says ∷ s.earlier) = end-earlier own s.later (asks Side.Sent m.says ∷ s.earlier) (subst (λ (xs : List Entry). IsLawfulEnd own xs) s.is l) in
    let w' : IsLawfulEnd (λ j. not (own j)) m.earlier =
    end-tail (λ j. not (own j)) (asks Side.Received m.says) m.earlier (end-earlier (λ j. not (own j)) m.later (asks Side.Received m.says ∷ m.earlier) (subst (λ (xs : List Entry). IsLawfulEnd (λ j. not (own j)) xs) m.is w)) in
    let idle : NoStart n s.earlier = close-law own n s.earlier m.says l'.0 (ap (is_close n) (sym m.says_is) ∙ close) in
    m.named n ∙ same_count_idle own s.earlier m.earlier n l'.1 w' sees idle ∙ sym (named-here s.earlier m.says s.later at ∙ refl) ∙ ap (λ (xs : List Entry). names n Side.Sent p xs) (sym s.is)
  where
    here : (past : List Entry) (says : Says) → length (asked Side.Sent past) ≡ p → names n Side.Sent p (asks Side.Sent says ∷ past) ≡ lives n past
    here past says at = rw (number-refl (length (asked Side.Sent past)) p at)
      where
        number-refl : (a b : ℕ) → a ≡ b → (a == b) ≡ true
        number-refl a b e = grind (arith, nat_tests)

    named-here : (past : List Entry) (says : Says) (later : List Entry) → length (asked Side.Sent past) ≡ p
        → names n Side.Sent p (later ++ asks Side.Sent says ∷ past) ≡ lives n past
    named-here past says later at = names-later n Side.Sent p later (asks Side.Sent says ∷ past) (omega (arith, at)) ∙ here past says at

-- ---- the moment at which a life ended

pub record EndMoment (n k : ℕ) (past : List Entry) : Type 0 where
  pub later : List Entry
  pub by : Side
  pub earlier : List Entry
  pub is : past ≡ later ++ replies by true ∷ earlier
  pub close : is_close n (answers_to by earlier) ≡ true
  pub named : names n (other by) (length (replied by earlier)) earlier ≡ k
  pub before : ended n k earlier ≡ false

end-cons : (x : Entry) (n k : ℕ) (past : List Entry) → EndMoment n k past → EndMoment n k (x ∷ past)
end-cons x n k past m = record { later = x ∷ m.later; by = m.by; earlier = m.earlier; is = ap (λ (xs : List Entry). x ∷ xs) m.is; close = m.close; named = m.named; before = m.before }

end-reply : (n k : ℕ) (by : Side) (ok : Bool) (past : List Entry) → (ended n k past ≡ true → EndMoment n k past)
    → (a : Bool) → ok ≡ a → (c : Bool) → is_close n (answers_to by past) ≡ c → (t : Bool) → (names n (other by) (length (replied by past)) past == k) ≡ t
    → (e : Bool) → ended n k past ≡ e → (((a && c) && t) || e) ≡ true → EndMoment n k (replies by ok ∷ past)
end-reply n k by ok past ih a oka c cl t na true en h = end-cons (replies by ok) n k past (ih en)
end-reply n k by ok past ih true oka true cl true na false en h = record {
  later = [];
  by = by;
  earlier = past;
  is = ap (λ (o : Bool). replies by o ∷ past) oka;
  close = cl;
  named = number _ k na;
  before = en;
}
  where
    number : (a b : ℕ) → (a == b) ≡ true → a ≡ b
    number a b e = grind (arith, nat_tests)
end-reply n k by ok past ih false oka c cl t na false en h = cc
end-reply n k by ok past ih true oka false cl t na false en h = cc
end-reply n k by ok past ih true oka true cl false na false en h = cc

pub end_moment : (n k : ℕ) (past : List Entry) → ended n k past ≡ true → EndMoment n k past
end_moment n k [] e = cc
end_moment n k (asks by says ∷ past) e = end-cons (asks by says) n k past (end_moment n k past e)
end_moment n k (replies by ok ∷ past) e = end-reply n k by ok past (λ f. end_moment n k past f) ok refl _ refl _ refl _ refl e
end_moment n k (on m item ∷ past) e = end-cons (on m item) n k past (end_moment n k past e)
