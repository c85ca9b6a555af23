-- A life that has ended at one end has ended at the other, or its close waits there.
use Rattle.std.proofs.Common.{◌≡◌, ◌⊎◌, inl, inr, ℕ, ◌<◌, ◌≤◌, ◌==◌, Bool, true, not, List, [], ◌∷◌, ◌++◌, length, refl, sym, ap, ◌∙◌, arith, subst, length-append, append_assoc}
use Rattle.std.proofs.lemmas.Bool.{cases_lt}
use Rattle.beep_session.specs.beep_history.specs.declared.journal.Side.{Side}
use Rattle.beep_session.specs.beep_history.specs.Journal.{other}
use Rattle.beep_two_journals.proofs.Entries.{Says, Entry, replies, is_close, asked, replied, said, answers_to, ended, names, IsLawfulEnd, came, went, SeesAll, Causal}
use Rattle.beep_two_journals.proofs.LivesLemmas.{said-stable}
use Rattle.beep_two_journals.proofs.CountLemmas.{asked-came, replied-came, asked-went, replied-went, asked-before, replied-before, zero_agrees}
use Rattle.beep_two_journals.proofs.WalkLemmas.{end-tail, end-earlier, end-twice}
use Rattle.beep_two_journals.proofs.EndsLemmas.{came-append, sent_all, said-later, length-grows, names-later, ended-later, names_same, end_moment}
use Rattle.beep_two_journals.proofs.TailLemmas.{causal-parts}
use Rattle.beep_two_journals.proofs.OkLemmas.{ok_at, ok-stable, replied-grows, reply-moment, ends-here, same-place}

-- an own close of the k-th life of n waits for its reply
abbrev pub OwnCloseWaits : ℕ → ℕ → List Entry → Type 0
OwnCloseWaits n k past =
    (p : ℕ) × (length (replied Side.Received past) ≤ p) × (p < length (asked Side.Sent past)) × (is_close n (said p (asked Side.Sent past)) ≡ true)
    × (names n Side.Sent p past ≡ k)

-- the k-th life of n has ended here, or an own close of it waits
abbrev pub IsOver : ℕ → ℕ → List Entry → Type 0
IsOver n k past = (ended n k past ≡ true) ⊎ OwnCloseWaits n k past

-- ---- the other end of a life that has ended

module _ (own : ℕ → Bool) (mine theirs to_mine to_theirs : List Entry) (l : IsLawfulEnd own mine) (w : IsLawfulEnd (λ m. not (own m)) theirs)
    (there : Causal mine theirs) (back : Causal theirs mine) (out : went mine ≡ to_theirs ++ came theirs) (in_ : went theirs ≡ to_mine ++ came mine) (n k : ℕ) where
  -- an ok that arrived there had ended the life here
  granted-here : (later past : List Entry) → theirs ≡ later ++ replies Side.Received true ∷ past → is_close n (answers_to Side.Received past) ≡ true
      → names n Side.Sent (length (replied Side.Received past)) past ≡ k → ended n k mine ≡ true
  granted-here later past is close named =
      let came_is : came theirs ≡ came later ++ replies Side.Received true ∷ came past = ap came is ∙ came-append later (replies Side.Received true ∷ past) in
      let s = sent_all mine (replies Side.Received true) (to_theirs ++ came later) (came past) (out ∙ ap (λ (xs : List Entry). to_theirs ++ xs) came_is ∙ sym (append_assoc to_theirs (came later) (replies Side.Received true ∷ came past))) in
      let sees : SeesAll s.earlier past = there s.later s.earlier later past (replies Side.Received true) s.is is refl (sym s.at) in
      let l' = end-earlier own s.later (replies Side.Sent true ∷ s.earlier) (subst (λ (xs : List Entry). IsLawfulEnd own xs) s.is l) in
      let w' = end-tail (λ m. not (own m)) (replies Side.Received true) past (end-earlier (λ m. not (own m)) later (replies Side.Received true ∷ past) (subst (λ (xs : List Entry). IsLawfulEnd (λ m. not (own m)) xs) is w)) in
      let z = zero_agrees s.earlier past sees in
      let place : length (replied Side.Received past) ≡ length (replied Side.Sent s.earlier) = ap length z.same_replied in
      let says : said (length (replied Side.Received past)) (asked Side.Sent past) ≡ said (length (replied Side.Sent s.earlier)) (asked Side.Received s.earlier) =
      ap (λ (p : ℕ). said p (asked Side.Sent past)) place ∙ ap (said (length (replied Side.Sent s.earlier))) z.more_asked.is
      ∙ said-stable (length (replied Side.Sent s.earlier)) z.more_asked.newer (asked Side.Received s.earlier) l'.0 in
      let close' : is_close n (answers_to Side.Sent s.earlier) ≡ true = ap (is_close n) (sym says) ∙ close in
      let back' : Causal past s.earlier =
      causal-parts (later ++ replies Side.Received true ∷ []) past (s.later ++ replies Side.Sent true ∷ []) s.earlier
      (subst (λ (xs : List Entry). Causal (later' later past) xs) (s.is ∙ sym (append_assoc s.later (replies Side.Sent true ∷ []) s.earlier))
      (subst (λ (xs : List Entry). Causal xs mine) (is ∙ sym (append_assoc later (replies Side.Received true ∷ []) past)) back)) in
      let same = names_same (λ m. not (own m)) past s.earlier n (length (replied Side.Sent s.earlier)) w' (end-twice own s.earlier l'.2) back' sees.newer sees.some l'.0 close' in
      let named' : names n Side.Received (length (replied Side.Sent s.earlier)) s.earlier ≡ k = same ∙ ap (λ (p : ℕ). names n Side.Sent p past) (sym place) ∙ named in
      ap (ended n k) s.is ∙ ended-later n k s.later (replies Side.Sent true ∷ s.earlier) (ends-here n k Side.Sent s.earlier close' named')
    where
      later' : List Entry → List Entry → List Entry
      later' later past = (later ++ replies Side.Received true ∷ []) ++ past

  -- an ok of the other end: it ended the life here, or the own close waits
  granted-there : (later past : List Entry) → theirs ≡ later ++ replies Side.Sent true ∷ past → is_close n (answers_to Side.Sent past) ≡ true
      → names n Side.Received (length (replied Side.Sent past)) past ≡ k → IsOver n k mine
  granted-there later past is close named =
      let p : ℕ = length (replied Side.Sent past) in
      let w' = end-earlier (λ m. not (own m)) later (replies Side.Sent true ∷ past) (subst (λ (xs : List Entry). IsLawfulEnd (λ m. not (own m)) xs) is w) in
      let within : p < length (asked Side.Received past) = w'.0 in
      let grown : length (asked Side.Received past) ≤ length (asked Side.Received theirs) =
      subst (λ (xs : List Entry). length (asked Side.Received past) ≤ length (asked Side.Received xs)) (sym is) (length-grows Side.Received later (replies Side.Sent true ∷ past)) in
      let many : p < length (asked Side.Received theirs) = omega (arith, within, grown) in
      let says : said p (asked Side.Received theirs) ≡ said p (asked Side.Received past) =
      ap (λ (xs : List Entry). said p (asked Side.Received xs)) is ∙ said-later Side.Received p later (replies Side.Sent true ∷ past) within in
      let close' : is_close n (said p (asked Side.Received theirs)) ≡ true = ap (is_close n) says ∙ close in
      let named' : names n Side.Received p theirs ≡ k =
      ap (names n Side.Received p) is ∙ names-later n Side.Received p later (replies Side.Sent true ∷ past) within ∙ named in
      let same = names_same own mine theirs n p l w there to_theirs out many close' in
      let more = asked-before to_theirs (came theirs) in
      let own_asked : asked Side.Sent mine ≡ more.newer ++ asked Side.Received theirs =
      sym (asked-went mine) ∙ ap (asked Side.Received) out ∙ more.is ∙ ap (λ (xs : List Says). more.newer ++ xs) (asked-came theirs) in
      let own_says : said p (asked Side.Sent mine) ≡ said p (asked Side.Received theirs) = ap (said p) own_asked ∙ said-stable p more.newer (asked Side.Received theirs) many in
      let own_many : p < length (asked Side.Sent mine) = omega (arith, many, ap length own_asked, length-append more.newer (asked Side.Received theirs)) in
      let own_named : names n Side.Sent p mine ≡ k = sym same ∙ named' in
      let own_close : is_close n (said p (asked Side.Sent mine)) ≡ true = ap (is_close n) own_says ∙ close' in
      let ok_there : ok_at p (replied Side.Sent theirs) ≡ true =
      ap (λ (xs : List Entry). ok_at p (replied Side.Sent xs)) is ∙ ok-there later past in
      by-place p own_many own_close own_named ok_there (cases_lt p (length (replied Side.Received mine)))
    where
      ok-there : (later past : List Entry) → ok_at (length (replied Side.Sent past)) (replied Side.Sent (later ++ replies Side.Sent true ∷ past)) ≡ true
      ok-there later past =
          let g = replied-grows Side.Sent later (replies Side.Sent true ∷ past) in
          ap (ok_at (length (replied Side.Sent past))) g.is ∙ ok-stable (length (replied Side.Sent past)) g.newer (true ∷ replied Side.Sent past) (omega arith)
          ∙ (let e : (length (replied Side.Sent past) == length (replied Side.Sent past)) ≡ true = same-place _ _ refl in rw e refl)

      arrived-ends : (p : ℕ) → is_close n (said p (asked Side.Sent mine)) ≡ true → names n Side.Sent p mine ≡ k
          → ok_at p (replied Side.Sent theirs) ≡ true → p < length (replied Side.Received mine) → ended n k mine ≡ true
      arrived-ends p close named ok h =
          let r = reply-moment p mine h in
          let l' = end-earlier own r.later (replies Side.Received r.ok ∷ r.earlier) (subst (λ (xs : List Entry). IsLawfulEnd own xs) r.is l) in
          let fits : p < length (asked Side.Sent r.earlier) = omega (arith, r.at, l'.0) in
          let more = replied-before to_mine (came mine) in
          let there_replied : replied Side.Sent theirs ≡ more.newer ++ replied Side.Received mine =
          sym (replied-went theirs) ∙ ap (replied Side.Received) in_ ∙ more.is ∙ ap (λ (xs : List Bool). more.newer ++ xs) (replied-came mine) in
          let good : r.ok ≡ true =
          sym r.ok_is ∙ sym (ok-stable p more.newer (replied Side.Received mine) h) ∙ ap (ok_at p) (sym there_replied) ∙ ok in
          let says : said p (asked Side.Sent mine) ≡ said p (asked Side.Sent r.earlier) =
          ap (λ (xs : List Entry). said p (asked Side.Sent xs)) r.is ∙ said-later Side.Sent p r.later (replies Side.Received r.ok ∷ r.earlier) fits in
          let close' : is_close n (answers_to Side.Received r.earlier) ≡ true =
          ap (λ (q : ℕ). is_close n (said q (asked Side.Sent r.earlier))) r.at ∙ ap (is_close n) (sym says) ∙ close in
          let named' : names n Side.Sent (length (replied Side.Received r.earlier)) r.earlier ≡ k =
          ap (λ (q : ℕ). names n Side.Sent q r.earlier) r.at
          ∙ sym (names-later n Side.Sent p r.later (replies Side.Received r.ok ∷ r.earlier) fits) ∙ ap (names n Side.Sent p) (sym r.is) ∙ named in
          let over : ended n k (r.later ++ replies Side.Received true ∷ r.earlier) ≡ true =
          ended-later n k r.later (replies Side.Received true ∷ r.earlier) (ends-here n k Side.Received r.earlier close' named') in
          ap (ended n k) (r.is ∙ ap (λ (o : Bool). r.later ++ replies Side.Received o ∷ r.earlier) good) ∙ over

      by-place : (p : ℕ) → p < length (asked Side.Sent mine) → is_close n (said p (asked Side.Sent mine)) ≡ true → names n Side.Sent p mine ≡ k
          → ok_at p (replied Side.Sent theirs) ≡ true → (p < length (replied Side.Received mine)) ⊎ (length (replied Side.Received mine) ≤ p) → IsOver n k mine
      by-place p many close named ok (inl h) = inl (arrived-ends p close named ok h)
      by-place p many close named ok (inr h) = inr (p, h, many, close, named)

  -- where a life has ended there, it has ended here, or the own close of it waits
  pub other_over : ended n k theirs ≡ true → IsOver n k mine
  other_over e = let m = end_moment n k theirs e in by-side m.by m.later m.earlier m.is m.close m.named
    where
      by-side : (by : Side) (later past : List Entry) → theirs ≡ later ++ replies by true ∷ past → is_close n (answers_to by past) ≡ true
          → names n (other by) (length (replied by past)) past ≡ k → IsOver n k mine
      by-side Side.Received later past is close named = inl (granted-here later past is close named)
      by-side Side.Sent later past is close named = granted-there later past is close named
