-- What two ends used and sent of one another's octets, and what lies between, as a run of items.
use Rattle.std.proofs.Common.{◌≡◌, ℕ, List, [], ◌∷◌, ◌++◌, refl, sym, ap, ◌∙◌, subst, append_assoc, append-nil}
use Rattle.std.proofs.lemmas.List.{append_cancel_right}
use Rattle.beep_session.specs.beep_frame.specs.declared.head.Head.{Head}
use Rattle.beep_session.specs.beep_frame.specs.declared.seq.Seq.{Seq}
use Rattle.beep_session.specs.beep_frame.specs.Frame.{framed, seq_frame, IsFrame, IsSeq}
use Rattle.beep_session.specs.beep_frame.specs.Spelling.{spelling}
use Rattle.beep_session.specs.beep_frame.specs.Stream.{IsHeadOf}
use Rattle.beep_session.specs.beep_history.specs.declared.journal.Side.{Side}
use Rattle.beep_session.specs.beep_history.specs.Journal.{Item, began, passed, told}
use Rattle.beep_session.specs.beep_history.specs.Broken.{under_way}
use Rattle.beep_session.specs.beep_journal.specs.Broken.{none_tunes}
use Rattle.beep_session.specs.beep_journal.specs.Journal.{spelled}
use Rattle.beep_session.specs.beep_lawful.specs.declared.terms.Terms.{Terms}
use Rattle.beep_session.specs.beep_lawful.specs.Lawful.{IsLawful}
use Rattle.beep_two_journals.specs.beep_two_ends.specs.Seen.{arrived}
use Rattle.beep_two_journals.specs.beep_two_ends.specs.Run.{Step, a_sends, a_gets}
use Rattle.beep_two_journals.specs.Session.{AreEnds, IsRun}
use Rattle.beep_two_journals.proofs.KeptLemmas.{lawful-tail}
use Rattle.beep_two_journals.proofs.NeverBreakLemmas.{run_all}
use Rattle.beep_two_journals.proofs.FlipLemmas.{flips, run-flips, ends-flip}
use Rattle.beep_two_sessions.proofs.ReadLemmas.{AllCome, Reads, gained-reads, gained-arrived, Sends, gained-sends, gained-spelled, frame-sends, seq-sends, reads-on}

-- ---- two ends and their wires

pub record Wired (of_a of_b : Terms) (a b : List Item) (fed_a fed_b to_a to_b : List ℕ) : Type 0 where
  pub ends : AreEnds of_a of_b
  pub steps : List Step
  pub items_a : List Item
  pub items_b : List Item
  pub run : IsRun of_a of_b steps a b items_a items_b
  pub a_sends : Sends a
  pub b_sends : Sends b
  pub a_reads : Reads a
  pub b_reads : Reads b
  pub to_a_is : fed_a ++ to_a ≡ spelled Side.Sent b
  pub to_b_is : fed_b ++ to_b ≡ spelled Side.Sent a

pub wired-flips : (of_a of_b : Terms) (a b : List Item) (fed_a fed_b to_a to_b : List ℕ) → Wired of_a of_b a b fed_a fed_b to_a to_b
    → Wired of_b of_a b a fed_b fed_a to_b to_a
wired-flips of_a of_b a b fed_a fed_b to_a to_b w = record {
  ends = ends-flip of_a of_b w.ends;
  steps = flips w.steps;
  items_a = w.items_b;
  items_b = w.items_a;
  run = run-flips of_a of_b w.steps a b w.items_a w.items_b w.run;
  a_sends = w.b_sends;
  b_sends = w.a_sends;
  a_reads = w.b_reads;
  b_reads = w.a_reads;
  to_a_is = w.to_b_is;
  to_b_is = w.to_a_is;
}

-- ---- items that arrive

-- items that are the oldest on a wire arrive in order
arrive : (of_a of_b : Terms) (steps : List Step) (a b items_a items_b gained : List Item) → IsRun of_a of_b steps a b (items_a ++ gained) items_b
    → (later : List Step) × IsRun of_a of_b later (gained ++ a) b items_a items_b
arrive of_a of_b steps a b items_a items_b [] r =
    (steps, subst (λ (xs : List Item). IsRun of_a of_b steps a b xs items_b) (append-nil items_a) r)
arrive of_a of_b steps a b items_a items_b (item ∷ gained) r =
    let n = arrive of_a of_b steps a b (items_a ++ item ∷ []) items_b gained
    (subst (λ (xs : List Item). IsRun of_a of_b steps a b xs items_b) (sym (append_assoc items_a (item ∷ []) gained)) r) in
    (a_gets ∷ n.0, (gained ++ a, item, refl, n.1))

module _ (of_a of_b : Terms) (a b : List Item) (fed_a fed_b to_a to_b : List ℕ) (w : Wired of_a of_b a b fed_a fed_b to_a to_b)
    (gained : List Item) (j : AllCome gained a) (fed rest later : List ℕ) (is : fed ≡ spelled Side.Received (gained ++ a) ++ rest)
    (head : IsHeadOf rest (under_way Side.Received (gained ++ a))) (all : fed ++ later ≡ fed_a ++ to_a) where
  -- they are the oldest on the wire
  pub oldest : (newer : List Item) × (w.items_a ≡ newer ++ gained)
  oldest =
      let n = reads-on b (gained ++ a) fed rest later w.b_sends (gained-reads gained a j w.a_reads) is head (all ∙ w.to_a_is) in (
        n.0,
        append_cancel_right w.items_a (n.0 ++ gained) (arrived a)
            (sym (run_all of_a of_b w.steps a b w.items_a w.items_b w.ends w.run).reached.to_a_is ∙ n.1
            ∙ ap (λ (xs : List Item). n.0 ++ xs) (gained-arrived gained a j) ∙ sym (append_assoc n.0 gained (arrived a))),
      )

  pub gains : Wired of_a of_b (gained ++ a) b fed fed_b later to_b
  gains =
      let o = oldest in
      let n = arrive of_a of_b w.steps a b o.0 w.items_b gained
      (subst (λ (xs : List Item). IsRun of_a of_b w.steps a b xs w.items_b) o.1 w.run) in
      record {
        ends = w.ends;
        steps = n.0;
        items_a = o.0;
        items_b = w.items_b;
        run = n.1;
        a_sends = gained-sends gained a j w.a_sends;
        b_sends = w.b_sends;
        a_reads = gained-reads gained a j w.a_reads;
        b_reads = w.b_reads;
        to_a_is = all ∙ w.to_a_is;
        to_b_is = w.to_b_is ∙ sym (gained-spelled gained a j);
      }

-- ---- what goes out

module _ (of_a of_b : Terms) (a b : List Item) (fed_a fed_b to_a to_b : List ℕ) (w : Wired of_a of_b a b fed_a fed_b to_a to_b) where
  pub sends-frame : (head : Head) (payload : List ℕ) → IsFrame (framed head payload)
      → IsLawful of_a none_tunes (passed Side.Sent head payload ∷ began Side.Sent head ∷ a)
      → Wired of_a of_b (passed Side.Sent head payload ∷ began Side.Sent head ∷ a) b fed_a fed_b to_a (to_b ++ spelling (framed head payload))
  sends-frame head payload is l = record {
    ends = w.ends;
    steps = a_sends (passed Side.Received head payload) ∷ a_sends (began Side.Received head) ∷ w.steps;
    items_a = w.items_a;
    items_b = passed Side.Received head payload ∷ began Side.Received head ∷ w.items_b;
    run = (
      began Side.Sent head ∷ a,
      began Side.Received head ∷ w.items_b,
      refl,
      refl,
      l,
      refl,
      (a, w.items_b, refl, refl, lawful-tail of_a (passed Side.Sent head payload) (began Side.Sent head ∷ a) l, refl, w.run),
    );
    a_sends = frame-sends a head payload is w.a_sends;
    b_sends = w.b_sends;
    a_reads = record { each = w.a_reads.each; items = w.a_reads.items };
    b_reads = w.b_reads;
    to_a_is = w.to_a_is;
    to_b_is = sym (append_assoc fed_b to_b (spelling (framed head payload))) ∙ ap (λ (xs : List ℕ). xs ++ spelling (framed head payload)) w.to_b_is;
  }

  pub sends-seq : (seq : Seq) → IsSeq seq → IsLawful of_a none_tunes (told Side.Sent seq ∷ a)
      → Wired of_a of_b (told Side.Sent seq ∷ a) b fed_a fed_b to_a (to_b ++ spelling (seq_frame seq))
  sends-seq seq is l = record {
    ends = w.ends;
    steps = a_sends (told Side.Received seq) ∷ w.steps;
    items_a = w.items_a;
    items_b = told Side.Received seq ∷ w.items_b;
    run = (a, w.items_b, refl, refl, l, refl, w.run);
    a_sends = seq-sends a seq is w.a_sends;
    b_sends = w.b_sends;
    a_reads = record { each = w.a_reads.each; items = w.a_reads.items };
    b_reads = w.b_reads;
    to_a_is = w.to_a_is;
    to_b_is = sym (append_assoc fed_b to_b (spelling (seq_frame seq))) ∙ ap (λ (xs : List ℕ). xs ++ spelling (seq_frame seq)) w.to_b_is;
  }
