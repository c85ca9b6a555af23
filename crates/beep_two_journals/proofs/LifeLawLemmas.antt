-- What is known of each life in a run of two sessions.
use Rattle.std.proofs.Common.{◌≡◌, ℕ, ◌<◌, ◌==◌, Bool, true, false, not, List, [], ◌++◌, sym, ap, ◌∙◌, arith, subst}
use Rattle.std.proofs.lemmas.Bool.Decides.{nat_tests}
use Rattle.beep_history.specs.declared.journal.Side.{Side}
use Rattle.beep_history.specs.Journal.{Item}
use Rattle.beep_history.specs.Marks.{Mark, marks}
use Rattle.beep_history.specs.Moments.{IsRising, reply_positions}
use Rattle.beep_history.specs.Broken.{KeepsExchangeRules}
use Rattle.beep_history.proofs.OrderLemmas.{replies-rise}
use Rattle.beep_journal.specs.Lives as landed
use Rattle.beep_journal.specs.Zero.{zero_history, events}
use Rattle.beep_journal.specs.Life as of_journal
use Rattle.beep_decide.specs.Numbers.{may_start}
use Rattle.beep_lawful.specs.declared.terms.Terms.{Terms}
use Rattle.beep_two_ends.specs.Seen.{arrived, sent, Sees}
use Rattle.beep_two_ends.specs.OneLife as one
use Rattle.beep_two_ends.specs.Run.{Step}
use Rattle.beep_two_ends.proofs.WindowLemmas.{unbroken}
use Rattle.beep_two_journals.specs.Session.{AreEnds, IsRun}
use Rattle.beep_two_journals.proofs.Entries.{is_live, life, entries, came, went}
use Rattle.beep_two_journals.proofs.CountLemmas.{same_count}
use Rattle.beep_two_journals.proofs.TailLemmas.{life-lawful, life-whole}
use Rattle.beep_two_journals.proofs.WalkLemmas.{SentBefore}
use Rattle.beep_two_journals.proofs.EntriesLemmas.{way_entries, entries-came, entries-went}
use Rattle.beep_two_journals.proofs.SessionLemmas.{entries_see, wire_entries}
use Rattle.beep_two_journals.proofs.BridgeLemmas.{bridged}
use Rattle.beep_two_journals.proofs.LifeLemmas.{live-same, life-same}
use Rattle.beep_two_journals.proofs.NeverBreakLemmas.{All, run_all, swap}
use Rattle.beep_two_journals.proofs.FrozenLemmas.{life_way}
use Rattle.beep_two_journals.proofs.LossLemmas.{plain, frames_arrived, marks_all}
use Rattle.beep_two_journals.proofs.MarksLemmas.{marks_prefix}

apart : (n : ℕ) → 0 < n → (n == 0) ≡ false
apart n h = grind (arith, nat_tests)

module _ (of_a of_b : Terms) (own : ℕ → Bool) (a b to_a to_b : List Item) (w : All of_a of_b own a b to_a to_b) where
  keeps : KeepsExchangeRules (zero_history a)
  keeps = unbroken (zero_history a) w.reached.a_law.on_zero w.reached.a_whole.on_zero

  keeps-there : KeepsExchangeRules (zero_history b)
  keeps-there = unbroken (zero_history b) w.reached.b_law.on_zero w.reached.b_whole.on_zero

  pub lawful_life : (n k : ℕ) → 0 < n → 0 < k → one.IsLawful (of_journal.life n k a)
  lawful_life n k above pos =
      subst (λ (xs : List Item). one.IsLawful xs) (sym (life-same n k (apart n above) a keeps w.a_forms w.a_steady)) (life-lawful n k (entries a) pos w.reached.a_law.of_lives)

  pub whole_life : (n k : ℕ) → 0 < n → 0 < k → one.NeverBroke (of_journal.life n k a)
  whole_life n k above pos =
      subst (λ (xs : List Item). one.NeverBroke xs) (sym (life-same n k (apart n above) a keeps w.a_forms w.a_steady)) (life-whole n k (entries a) pos w.reached.a_whole.above)

  -- where all that was sent has arrived both ends count alike
  pub counts_alike : Sees a b → (n : ℕ) → landed.is_live n (events a) ≡ true → landed.lives n (events b) ≡ landed.lives n (events a)
  counts_alike s n l =
      let x = bridged a keeps w.a_forms in
      let y = bridged b keeps-there w.b_forms in
      let live : is_live n (entries a) ≡ true = sym (live-same n a x) ∙ l in
      y.lives_is n ∙ same_count own (entries a) (entries b) n w.reached.a_law.of_ends w.reached.b_law.of_ends (entries_see a b s) live ∙ sym (x.lives_is n)

  keeps-life : (n k : ℕ) → 0 < n → 0 < k → KeepsExchangeRules (of_journal.life n k a)
  keeps-life n k above pos = unbroken (of_journal.life n k a) (lawful_life n k above pos) (whole_life n k above pos)

  -- what arrived of a life was sent of it
  life-arrives : (n k : ℕ) → 0 < n → 0 < k → SentBefore (arrived (of_journal.life n k b)) (sent (of_journal.life n k a))
  life-arrives n k above pos =
      let e = wire_entries a b to_b w.reached.to_b_is in
      let s = life_way own (entries a) (entries b) n k w.reached.a_law.of_ends w.reached.b_law.of_ends w.reached.there e.newer e.is pos in
      let mine : of_journal.life n k a ≡ life n k (entries a) = life-same n k (apart n above) a keeps w.a_forms w.a_steady in
      let theirs : of_journal.life n k b ≡ life n k (entries b) = life-same n k (apart n above) b keeps-there w.b_forms w.b_steady in
      record { newer = s.newer; is = ap sent mine ∙ s.is ∙ ap (λ (xs : List Item). s.newer ++ arrived xs) (sym theirs) }

module _ (of_a of_b : Terms) (own : ℕ → Bool) (a b to_a to_b : List Item) (w : All of_a of_b own a b to_a to_b) where
  marks_arrive : (n k : ℕ) → 0 < n → 0 < k → (more : List Mark) × (marks Side.Sent (of_journal.life n k a) ≡ marks Side.Received (of_journal.life n k b) ++ more)
  marks_arrive n k above pos =
      let s = life-arrives of_a of_b own a b to_a to_b w n k above pos in
      marks_prefix (of_journal.life n k a) (of_journal.life n k b) s.newer (keeps-life of_a of_b own a b to_a to_b w n k above pos)
      (keeps-life of_b of_a (λ n. not (own n)) b a to_b to_a (swap of_a of_b own a b to_a to_b w) n k above pos) s.is

module _ (of_a of_b : Terms) (own : ℕ → Bool) (a b to_a : List Item) (w : All of_a of_b own a b to_a []) where
  -- where nothing lies on the wire, each mark of a life has arrived in it
  marks_arrived : (n k : ℕ) → 0 < n → 0 < k → marks Side.Sent (of_journal.life n k a) ≡ marks Side.Received (of_journal.life n k b)
  marks_arrived n k above pos =
      let all : came (entries b) ≡ went (entries a) = entries-came b ∙ ap way_entries (sym w.reached.to_b_is) ∙ sym (entries-went a) in
      let p = frames_arrived own n k (entries a) (entries b) w.reached.a_law.of_ends w.reached.b_law.of_ends w.reached.there w.reached.b_whole.above all in
      let mine : of_journal.life n k a ≡ life n k (entries a) = life-same n k (apart n above) a (keeps of_a of_b own a b to_a [] w) w.a_forms w.a_steady in
      let theirs : of_journal.life n k b ≡ life n k (entries b) = life-same n k (apart n above) b (keeps-there of_a of_b own a b to_a [] w) w.b_forms w.b_steady in
      marks_all (of_journal.life n k a) (of_journal.life n k b) (keeps-life of_a of_b own a b to_a [] w n k above pos)
      (keeps-life of_b of_a (λ m. not (own m)) b a [] to_a (swap of_a of_b own a b to_a [] w) n k above pos)
      (ap (λ (xs : List Item). plain (arrived xs)) theirs ∙ p ∙ sym (ap (λ (xs : List Item). plain (sent xs)) mine))

-- ---- in a run

module _ (of_a of_b : Terms) (steps : List Step) (a b to_a to_b : List Item) (e : AreEnds of_a of_b) (r : IsRun of_a of_b steps a b to_a to_b) where
  abbrev owner : ℕ → Bool
  owner = λ n. may_start of_a.role n

  reached : All of_a of_b owner a b to_a to_b
  reached = run_all of_a of_b steps a b to_a to_b e r

  turned : All of_b of_a (λ n. not (owner n)) b a to_b to_a
  turned = swap of_a of_b owner a b to_a to_b reached

  pub lawful_at_a : (n k : ℕ) → 0 < n → 0 < k → one.IsLawful (of_journal.life n k a)
  lawful_at_a n k above pos = lawful_life of_a of_b owner a b to_a to_b reached n k above pos

  pub lawful_at_b : (n k : ℕ) → 0 < n → 0 < k → one.IsLawful (of_journal.life n k b)
  lawful_at_b n k above pos = lawful_life of_b of_a (λ m. not (owner m)) b a to_b to_a turned n k above pos

  pub whole_at_a : (n k : ℕ) → 0 < n → 0 < k → one.NeverBroke (of_journal.life n k a)
  whole_at_a n k above pos = whole_life of_a of_b owner a b to_a to_b reached n k above pos

  pub whole_at_b : (n k : ℕ) → 0 < n → 0 < k → one.NeverBroke (of_journal.life n k b)
  whole_at_b n k above pos = whole_life of_b of_a (λ m. not (owner m)) b a to_b to_a turned n k above pos

  pub prefix_at_b : (n k : ℕ) → 0 < n → 0 < k → (more : List Mark) × (marks Side.Sent (of_journal.life n k a) ≡ marks Side.Received (of_journal.life n k b) ++ more)
  prefix_at_b n k above pos = marks_arrive of_a of_b owner a b to_a to_b reached n k above pos

  pub prefix_at_a : (n k : ℕ) → 0 < n → 0 < k → (more : List Mark) × (marks Side.Sent (of_journal.life n k b) ≡ marks Side.Received (of_journal.life n k a) ++ more)
  prefix_at_a n k above pos = marks_arrive of_b of_a (λ n. not (owner n)) b a to_b to_a turned n k above pos

  pub order_at_a : (n k : ℕ) → 0 < n → 0 < k → IsRising (reply_positions (marks Side.Received (of_journal.life n k a)))
  order_at_a n k above pos = replies-rise Side.Received (of_journal.life n k a) (keeps-life of_a of_b owner a b to_a to_b reached n k above pos)

  pub order_at_b : (n k : ℕ) → 0 < n → 0 < k → IsRising (reply_positions (marks Side.Received (of_journal.life n k b)))
  order_at_b n k above pos = replies-rise Side.Received (of_journal.life n k b) (keeps-life of_b of_a (λ m. not (owner m)) b a to_b to_a turned n k above pos)

  -- where nothing lies on the wire to an end, it has seen all
  pub count_at_b : to_b ≡ [] → (n : ℕ) → landed.is_live n (events a) ≡ true → landed.lives n (events b) ≡ landed.lives n (events a)
  count_at_b none n l =
      counts_alike of_a of_b owner a b to_a to_b reached
      (record { all = sym (reached.reached.to_b_is ∙ ap (λ (xs : List Item). xs ++ arrived b) none); newer = to_a; some = reached.reached.to_a_is }) n l

  pub count_at_a : to_a ≡ [] → (n : ℕ) → landed.is_live n (events b) ≡ true → landed.lives n (events a) ≡ landed.lives n (events b)
  count_at_a none n l =
      counts_alike of_b of_a (λ n. not (owner n)) b a to_b to_a turned
      (record { all = sym (reached.reached.to_a_is ∙ ap (λ (xs : List Item). xs ++ arrived a) none); newer = to_b; some = reached.reached.to_b_is }) n l

module _ (of_a of_b : Terms) (steps : List Step) (a b wire : List Item) (e : AreEnds of_a of_b) (n k : ℕ) (above : 0 < n) (pos : 0 < k) where
  pub none_lost_at_b : IsRun of_a of_b steps a b wire [] → marks Side.Sent (of_journal.life n k a) ≡ marks Side.Received (of_journal.life n k b)
  none_lost_at_b r = marks_arrived of_a of_b (owner of_a of_b steps a b wire [] e r) a b wire (reached of_a of_b steps a b wire [] e r) n k above pos

  pub none_lost_at_a : IsRun of_a of_b steps a b [] wire → marks Side.Sent (of_journal.life n k b) ≡ marks Side.Received (of_journal.life n k a)
  none_lost_at_a r =
      marks_arrived of_b of_a (λ m. not (owner of_a of_b steps a b [] wire e r m)) b a wire (turned of_a of_b steps a b [] wire e r) n k above pos
