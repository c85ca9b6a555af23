-- The reply at a place among those of a side, and the `ok` to a close.
use Rattle.std.proofs.Common.{◌≡◌, ◌⊎◌, inl, inr, ℕ, suc, ◌<◌, ◌≤◌, ◌==◌, Bool, true, false, not, if◌then◌else◌, List, [], ◌∷◌, ◌++◌, length, refl, sym, ap, ◌∙◌, arith, subst, length-append, append_assoc}
use Rattle.std.proofs.lemmas.Bool.{cases_lt}
use Rattle.std.proofs.lemmas.Bool.Decides.{nat_tests}
use Rattle.beep_history.specs.declared.journal.Side.{Side}
use Rattle.beep_history.specs.Journal.{other}
use Rattle.beep_two_journals.proofs.Entries.{Entry, asks, replies, on, is_close, asked, replied, said, answers_to, lives, ended, names, IsLawfulEnd, came, SeesAll, Causal}
use Rattle.beep_two_journals.proofs.Entries.{CloseWaits, BothEnds}
use Rattle.beep_two_journals.proofs.LivesLemmas.{said-stable}
use Rattle.beep_two_journals.proofs.CountLemmas.{RepliedBefore, ZeroAgrees, zero_agrees}
use Rattle.beep_two_journals.proofs.WalkLemmas.{end-tail, end-earlier, end-twice}
use Rattle.beep_two_journals.proofs.EndsLemmas.{came-append, sent_all, said-later, length-grows, names-later, ended-later, names_same}
use Rattle.beep_two_journals.proofs.TailLemmas.{causal-parts}

-- ---- the reply at a place

abbrev pub ok_at : ℕ → List Bool → Bool
ok_at p [] = false
ok_at p (ok ∷ oks) = if length oks == p then ok else ok_at p oks

apart : (a b : ℕ) → b < a → (a == b) ≡ false
apart a b h = grind (arith, nat_tests)

pub same-place : (a b : ℕ) → a ≡ b → (a == b) ≡ true
same-place a b h = grind (arith, nat_tests)

pub ok-stable : (p : ℕ) (newer oks : List Bool) → p < length oks → ok_at p (newer ++ oks) ≡ ok_at p oks
ok-stable p [] oks h = refl
ok-stable p (o ∷ newer) oks h = rw (apart (length (newer ++ oks)) p (omega (arith, length-append newer oks))) (ok-stable p newer oks h)

pub replied-grows : (side : Side) (later past : List Entry) → RepliedBefore (replied side past) (replied side (later ++ past))
replied-grows side [] past = record { newer = []; is = refl }
replied-grows Side.Received (replies Side.Received ok ∷ later) past =
    let w = replied-grows Side.Received later past in record { newer = ok ∷ w.newer; is = ap (λ (xs : List Bool). ok ∷ xs) w.is }
replied-grows Side.Sent (replies Side.Sent ok ∷ later) past =
    let w = replied-grows Side.Sent later past in record { newer = ok ∷ w.newer; is = ap (λ (xs : List Bool). ok ∷ xs) w.is }
replied-grows Side.Received (replies Side.Sent ok ∷ later) past = replied-grows Side.Received later past
replied-grows Side.Sent (replies Side.Received ok ∷ later) past = replied-grows Side.Sent later past
replied-grows side (asks by says ∷ later) past = replied-grows side later past
replied-grows side (on n item ∷ later) past = replied-grows side later past

pub record ReplyMoment (p : ℕ) (past : List Entry) : Type 0 where
  pub later : List Entry
  pub ok : Bool
  pub earlier : List Entry
  pub is : past ≡ later ++ replies Side.Received ok ∷ earlier
  pub at : length (replied Side.Received earlier) ≡ p
  pub ok_is : ok_at p (replied Side.Received past) ≡ ok

reply-cons : (x : Entry) (p : ℕ) (past : List Entry) → replied Side.Received (x ∷ past) ≡ replied Side.Received past → ReplyMoment p past → ReplyMoment p (x ∷ past)
reply-cons x p past e m = record { later = x ∷ m.later; ok = m.ok; earlier = m.earlier; is = ap (λ (xs : List Entry). x ∷ xs) m.is; at = m.at; ok_is = ap (ok_at p) e ∙ m.ok_is }

reply-here : (ok : Bool) (p : ℕ) (past : List Entry) → p < suc (length (replied Side.Received past)) → (p < length (replied Side.Received past) → ReplyMoment p past)
    → (b : Bool) → (length (replied Side.Received past) == p) ≡ b → ReplyMoment p (replies Side.Received ok ∷ past)
reply-here ok p past h ih true e = record { later = []; ok = ok; earlier = past; is = refl; at = at-place (length (replied Side.Received past)) p e; ok_is = rw e }
  where
    at-place : (a b : ℕ) → (a == b) ≡ true → a ≡ b
    at-place a b e = grind (arith, nat_tests)
reply-here ok p past h ih false e =
    let m = ih (below (length (replied Side.Received past)) p h e) in
    record { later = replies Side.Received ok ∷ m.later; ok = m.ok; earlier = m.earlier; is = ap (λ (xs : List Entry). replies Side.Received ok ∷ xs) m.is; at = m.at; ok_is = rw e m.ok_is }
  where
    below : (a b : ℕ) → b < suc a → (a == b) ≡ false → b < a
    below a b h e = grind (arith, nat_tests)

pub reply-moment : (p : ℕ) (past : List Entry) → p < length (replied Side.Received past) → ReplyMoment p past
reply-moment p [] h = absurd (omega arith)
reply-moment p (replies Side.Received ok ∷ past) h = reply-here ok p past h (λ f. reply-moment p past f) _ refl
reply-moment p (replies Side.Sent ok ∷ past) h = reply-cons _ p past refl (reply-moment p past h)
reply-moment p (asks by says ∷ past) h = reply-cons _ p past refl (reply-moment p past h)
reply-moment p (on n item ∷ past) h = reply-cons _ p past refl (reply-moment p past h)

-- ---- an ok to a close

pub ends-here : (n k : ℕ) (by : Side) (past : List Entry) → is_close n (answers_to by past) ≡ true → names n (other by) (length (replied by past)) past ≡ k
    → ended n k (replies by true ∷ past) ≡ true
ends-here n k by past c e = rw (c, same-place _ _ e)

pub true-false : (b : Bool) → b ≡ true → b ≡ false → ⊥
true-false b t f = let e : true ≡ false = sym t ∙ f in cc

module _ (own : ℕ → Bool) (mine theirs : List Entry) (n k : ℕ) (x : BothEnds own mine theirs) (going : ended n k mine ≡ false) where
  -- an ok that arrived had ended the life here
  pub ended-by-mine : (later past : List Entry) → theirs ≡ later ++ replies Side.Received true ∷ past → is_close n (answers_to Side.Received past) ≡ true
      → names n Side.Sent (length (replied Side.Received past)) past ≡ k → ⊥
  ended-by-mine later past is close named =
      let came_is : came theirs ≡ came later ++ replies Side.Received true ∷ came past = ap came is ∙ came-append later (replies Side.Received true ∷ past) in
      let s = sent_all mine (replies Side.Received true) (came later) (came past) (sym x.sees.all ∙ came_is) in
      let sees : SeesAll s.earlier past = x.there s.later s.earlier later past (replies Side.Received true) s.is is refl (sym s.at) in
      let l = end-earlier own s.later (replies Side.Sent true ∷ s.earlier) (subst (λ (xs : List Entry). IsLawfulEnd own xs) s.is x.mine_end) in
      let w = end-tail (λ m. not (own m)) (replies Side.Received true) past (end-earlier (λ m. not (own m)) later (replies Side.Received true ∷ past) (subst (λ (xs : List Entry). IsLawfulEnd (λ m. not (own m)) xs) is x.theirs_end)) in
      let z = zero_agrees s.earlier past sees in
      let place : length (replied Side.Received past) ≡ length (replied Side.Sent s.earlier) = ap length z.same_replied in
      let says : said (length (replied Side.Received past)) (asked Side.Sent past) ≡ said (length (replied Side.Sent s.earlier)) (asked Side.Received s.earlier) =
      ap (λ (p : ℕ). said p (asked Side.Sent past)) place ∙ ap (said (length (replied Side.Sent s.earlier))) z.more_asked.is
      ∙ said-stable (length (replied Side.Sent s.earlier)) z.more_asked.newer (asked Side.Received s.earlier) l.0 in
      let close' : is_close n (answers_to Side.Sent s.earlier) ≡ true = ap (is_close n) (sym says) ∙ close in
      let back : Causal past s.earlier =
      causal-parts (later ++ replies Side.Received true ∷ []) past (s.later ++ replies Side.Sent true ∷ []) s.earlier
      (subst (λ (xs : List Entry). Causal (later' later past) xs) (s.is ∙ sym (append_assoc s.later (replies Side.Sent true ∷ []) s.earlier))
      (subst (λ (xs : List Entry). Causal xs mine) (is ∙ sym (append_assoc later (replies Side.Received true ∷ []) past)) x.back)) in
      let same = names_same (λ m. not (own m)) past s.earlier n (length (replied Side.Sent s.earlier)) w (end-twice own s.earlier l.2) back sees.newer sees.some l.0 close' in
      let named' : names n Side.Received (length (replied Side.Sent s.earlier)) s.earlier ≡ k = same ∙ ap (λ (p : ℕ). names n Side.Sent p past) (sym place) ∙ named in
      let over = ended-later n k s.later (replies Side.Sent true ∷ s.earlier) (ends-here n k Side.Sent s.earlier close' named') in
      true-false _ (ap (ended n k) s.is ∙ over) going
    where
      later' : List Entry → List Entry → List Entry
      later' later past = (later ++ replies Side.Received true ∷ []) ++ past

  -- an ok of the other end that hasn't arrived: the own close waits
  pub close-waits : (later past : List Entry) → theirs ≡ later ++ replies Side.Sent true ∷ past → is_close n (answers_to Side.Sent past) ≡ true
      → names n Side.Received (length (replied Side.Sent past)) past ≡ k → k ≡ lives n mine → CloseWaits n (length (replied Side.Sent past)) mine
  close-waits later past is close named count =
      let p : ℕ = length (replied Side.Sent past) in
      let w = end-earlier (λ m. not (own m)) later (replies Side.Sent true ∷ past) (subst (λ (xs : List Entry). IsLawfulEnd (λ m. not (own m)) xs) is x.theirs_end) in
      let z = zero_agrees mine theirs x.sees in
      let within : p < length (asked Side.Received past) = w.0 in
      let grown : length (asked Side.Received past) ≤ length (asked Side.Received theirs) =
      subst (λ (xs : List Entry). length (asked Side.Received past) ≤ length (asked Side.Received xs)) (sym is) (length-grows Side.Received later (replies Side.Sent true ∷ past)) in
      let many : p < length (asked Side.Received theirs) = omega (arith, within, grown) in
      let says : said p (asked Side.Received theirs) ≡ said p (asked Side.Received past) =
      ap (λ (xs : List Entry). said p (asked Side.Received xs)) is ∙ said-later Side.Received p later (replies Side.Sent true ∷ past) within in
      let close' : is_close n (said p (asked Side.Received theirs)) ≡ true = ap (is_close n) says ∙ close in
      let named' : names n Side.Received p theirs ≡ k =
      ap (names n Side.Received p) is ∙ names-later n Side.Received p later (replies Side.Sent true ∷ past) within ∙ named in
      let same = names_same own mine theirs n p x.mine_end x.theirs_end x.there [] (sym x.sees.all) many close' in
      let own_says : said p (asked Side.Sent mine) ≡ said p (asked Side.Received theirs) = ap (said p) (sym z.same_asked) in
      let own_many : p < length (asked Side.Sent mine) = omega (arith, many, ap length z.same_asked) in
      let own_named : names n Side.Sent p mine ≡ k = sym same ∙ named' in
      let own_close : is_close n (said p (asked Side.Sent mine)) ≡ true = ap (is_close n) own_says ∙ close' in
      let ok_there : ok_at p (replied Side.Sent theirs) ≡ true =
      ap (λ (xs : List Entry). ok_at p (replied Side.Sent xs)) is ∙ ok-there later past in
      (not-arrived p own_many own_close own_named ok_there z (length (replied Side.Received mine)) refl, own_many, own_close, own_named ∙ count)
    where
      ok-there : (later past : List Entry) → ok_at (length (replied Side.Sent past)) (replied Side.Sent (later ++ replies Side.Sent true ∷ past)) ≡ true
      ok-there later past =
          let g = replied-grows Side.Sent later (replies Side.Sent true ∷ past) in
          ap (ok_at (length (replied Side.Sent past))) g.is ∙ ok-stable (length (replied Side.Sent past)) g.newer (true ∷ replied Side.Sent past) (omega arith)
          ∙ (let e : (length (replied Side.Sent past) == length (replied Side.Sent past)) ≡ true = same-place _ _ refl in rw e refl)

      not-arrived : (p : ℕ) → p < length (asked Side.Sent mine) → is_close n (said p (asked Side.Sent mine)) ≡ true → names n Side.Sent p mine ≡ k
          → ok_at p (replied Side.Sent theirs) ≡ true → ZeroAgrees mine theirs → (m : ℕ) → length (replied Side.Received mine) ≡ m → m ≤ p
      not-arrived p many close named ok z m e = by-place (cases_lt p m)
        where
          arrived-ends : p < m → ⊥
          arrived-ends h =
              let r = reply-moment p mine (omega (arith, e, h)) in
              let l = end-earlier own r.later (replies Side.Received r.ok ∷ r.earlier) (subst (λ (xs : List Entry). IsLawfulEnd own xs) r.is x.mine_end) in
              let fits : p < length (asked Side.Sent r.earlier) = omega (arith, r.at, l.0) in
              let good : r.ok ≡ true =
              sym r.ok_is ∙ sym (ok-stable p z.more_replied.newer (replied Side.Received mine) (omega (arith, e, h))) ∙ ap (ok_at p) (sym z.more_replied.is) ∙ ok in
              let says : said p (asked Side.Sent mine) ≡ said p (asked Side.Sent r.earlier) =
              ap (λ (xs : List Entry). said p (asked Side.Sent xs)) r.is ∙ said-later Side.Sent p r.later (replies Side.Received r.ok ∷ r.earlier) fits in
              let close' : is_close n (answers_to Side.Received r.earlier) ≡ true =
              ap (λ (q : ℕ). is_close n (said q (asked Side.Sent r.earlier))) r.at ∙ ap (is_close n) (sym says) ∙ close in
              let named' : names n Side.Sent (length (replied Side.Received r.earlier)) r.earlier ≡ k =
              ap (λ (q : ℕ). names n Side.Sent q r.earlier) r.at
              ∙ sym (names-later n Side.Sent p r.later (replies Side.Received r.ok ∷ r.earlier) fits) ∙ ap (names n Side.Sent p) (sym r.is) ∙ named in
              let over : ended n k (r.later ++ replies Side.Received true ∷ r.earlier) ≡ true =
              ended-later n k r.later (replies Side.Received true ∷ r.earlier) (ends-here n k Side.Received r.earlier close' named') in
              true-false _ (ap (ended n k) (r.is ∙ ap (λ (o : Bool). r.later ++ replies Side.Received o ∷ r.earlier) good) ∙ over) going

          by-place : (p < m) ⊎ (m ≤ p) → m ≤ p
          by-place (inl h) = absurd (arrived-ends h)
          by-place (inr h) = h
