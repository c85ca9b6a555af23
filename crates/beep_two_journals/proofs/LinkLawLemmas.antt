-- What two lawful ends of a link know of one another, from all their moves.
use Rattle.std.proofs.Common.{length, length-append, append-nil, arith, ◌≡◌, ℕ, ◌<◌, false, List, [], ◌∷◌, ◌++◌, None, refl, sym, ap, ◌∙◌, subst}
use Rattle.std.specs.List.{flat_map}
use Rattle.beep_frame.specs.Spelling.{spelling}
use Rattle.beep_history.specs.declared.journal.Side.{Side}
use Rattle.beep_history.specs.Journal.{Item}
use Rattle.beep_history.specs.Marks.{Mark, marks}
use Rattle.beep_journal.specs.Life.{is_released, life}
use Rattle.beep_journal.specs.Broken.{none_tunes}
use Rattle.beep_journal.specs.Log.{Moment}
use Rattle.beep_journal.specs.Journal.{Past, Shows}
use Rattle.beep_journal.proofs.ShownLemmas.{frames_of, spelled-frames}
use Rattle.beep_lawful.specs.declared.terms.Terms.{Terms}
use Rattle.beep_lawful.specs.Lawful.{IsLawfulLog}
use Rattle.beep_two_ends.specs.Seen.{arrived, sent}
use Rattle.beep_two_journals.specs.Session.{AreEnds, IsRun}
use Rattle.beep_two_journals.specs.Link.{Move, IsLinked}
use Rattle.beep_two_journals.proofs.NeverBreakLemmas.{run_all}
use Rattle.beep_two_journals.proofs.LifeLawLemmas.{prefix_at_a, prefix_at_b, none_lost_at_b}
use Rattle.beep_two_journals.proofs.ReadingLemmas.{in_order}
use Rattle.beep_two_journals.proofs.StepLemmas.{text}
use Rattle.beep_two_journals.proofs.FlipLemmas.{ends-flip}
use Rattle.beep_two_journals.proofs.LinkLemmas.{Holds, holds-flips, linked}

none-longer : (xs ys zs : List Item) → zs ≡ xs ++ (ys ++ zs) → xs ≡ []
none-longer [] ys zs e = refl
none-longer (x ∷ xs) ys zs e =
    let n : length zs ≡ length (x ∷ xs ++ (ys ++ zs)) = ap length e in
    absurd (omega (arith, n, length-append (x ∷ xs) (ys ++ zs), length-append ys zs))

module _ (of_a of_b : Terms) (at_a at_b : Past) (to_a to_b : List ℕ) (ends : AreEnds of_a of_b) (h : Holds of_a of_b at_a at_b to_a to_b) where
  -- where no octet lies on the wire, and octets count, no item does
  none-left : to_b ≡ [] → is_released at_b.journal ≡ false → h.items_b ≡ []
  none-left empty going =
      let whole : (flat_map spelling (frames_of Side.Sent at_a.journal) ++ at_a.rest Side.Sent) ++ [] ≡ flat_map spelling (frames_of Side.Received at_b.journal) ++ at_b.rest Side.Received =
      append-nil (flat_map spelling (frames_of Side.Sent at_a.journal) ++ at_a.rest Side.Sent)
      ∙ ap (λ (xs : List ℕ). xs ++ at_a.rest Side.Sent) (sym (spelled-frames Side.Sent at_a.journal))
      ∙ h.to_b_is going ∙ ap (λ (xs : List ℕ). text Side.Received at_b ++ xs) empty ∙ append-nil (text Side.Received at_b)
      ∙ ap (λ (xs : List ℕ). xs ++ at_b.rest Side.Received) (spelled-frames Side.Received at_b.journal) in
      let o = in_order (frames_of Side.Sent at_a.journal) (frames_of Side.Received at_b.journal) (at_a.rest Side.Sent) (at_b.rest Side.Received) [] h.a_sent.head h.b_got.head
      (h.a_each Side.Sent) (h.b_each Side.Received) h.b_got.unfinished h.a_sent.in_rest h.b_got.in_rest whole in
      let got_is : arrived at_b.journal ≡ o.0 ++ sent at_a.journal = h.b_got.items ∙ o.1 ∙ ap (λ (xs : List Item). o.0 ++ xs) (sym h.a_sent.items) in
      none-longer h.items_b o.0 (sent at_a.journal)
      ((run_all of_a of_b h.steps at_a.journal at_b.journal h.items_a h.items_b ends h.run).reached.to_b_is ∙ ap (λ (xs : List Item). h.items_b ++ xs) got_is)

  none_lost : to_b ≡ [] → is_released at_b.journal ≡ false → (n k : ℕ) → 0 < n → 0 < k → marks Side.Sent (life n k at_a.journal) ≡ marks Side.Received (life n k at_b.journal)
  none_lost empty going n k above pos =
      none_lost_at_b of_a of_b h.steps at_a.journal at_b.journal h.items_a ends n k above pos
      (subst (λ (xs : List Item). IsRun of_a of_b h.steps at_a.journal at_b.journal h.items_a xs) (none-left empty going) h.run)

module _ (of_a of_b : Terms) (moves : List Move) (a b : List Moment) (to_a to_b : List ℕ) (at_a at_b : Past) (ends : AreEnds of_a of_b) (m : IsLinked moves a b to_a to_b)
    (l : IsLawfulLog of_a none_tunes a) (k : IsLawfulLog of_b none_tunes b) (s : Shows none_tunes a at_a) (t : Shows none_tunes b at_b) where
  both : Holds of_a of_b at_a at_b to_a to_b
  both =
      linked of_a of_b ends moves a b to_a to_b at_a at_b m s t (record { items = l.items at_a s; peers = λ fault e. l.faultless at_a fault s e })
      (record { items = k.items at_b t; peers = λ fault e. k.faultless at_b fault t e })

  pub fine_at_a : at_a.fault ≡ None
  fine_at_a = both.a_fine

  pub fine_at_b : at_b.fault ≡ None
  fine_at_b = both.b_fine

  pub read_at_a : (n k : ℕ) → 0 < n → 0 < k → (more : List Mark) × (marks Side.Sent (life n k at_b.journal) ≡ marks Side.Received (life n k at_a.journal) ++ more)
  read_at_a n k above pos = prefix_at_a of_a of_b both.steps at_a.journal at_b.journal both.items_a both.items_b ends both.run n k above pos

  pub read_at_b : (n k : ℕ) → 0 < n → 0 < k → (more : List Mark) × (marks Side.Sent (life n k at_a.journal) ≡ marks Side.Received (life n k at_b.journal) ++ more)
  read_at_b n k above pos = prefix_at_b of_a of_b both.steps at_a.journal at_b.journal both.items_a both.items_b ends both.run n k above pos

  pub written_at_b : to_b ≡ [] → is_released at_b.journal ≡ false → (n k : ℕ) → 0 < n → 0 < k
      → marks Side.Sent (life n k at_a.journal) ≡ marks Side.Received (life n k at_b.journal)
  written_at_b empty going n k above pos = none_lost of_a of_b at_a at_b to_a to_b ends both empty going n k above pos

  pub written_at_a : to_a ≡ [] → is_released at_a.journal ≡ false → (n k : ℕ) → 0 < n → 0 < k
      → marks Side.Sent (life n k at_b.journal) ≡ marks Side.Received (life n k at_a.journal)
  written_at_a empty going n k above pos =
      none_lost of_b of_a at_b at_a to_b to_a (ends-flip of_a of_b ends) (holds-flips of_a of_b at_a at_b to_a to_b both) empty going n k above pos
