-- Nothing that arrives from a lawful end breaks a rule.
use Rattle.std.proofs.Common.{◌≡◌, inl, inr, ℕ, ◌==◌, Bool, true, false, not, ◌&&◌, if◌then◌else◌, List, [], ◌∷◌, ◌++◌, length, Option, Some, None, refl, sym, ap, ◌∙◌, subst, append_assoc, append-nil, arith}
use Rattle.beep_session.specs.beep_frame.specs.declared.head.Head.{Head}
use Rattle.beep_session.specs.beep_frame.specs.declared.rule.Rule.{Rule}
use Rattle.beep_session.specs.beep_frame.specs.Frame.{framed, seq_frame, is_msg, is_reply, IsFrame}
use Rattle.beep_session.specs.beep_frame.specs.Spelling.{spelling, header}
use Rattle.beep_session.specs.beep_frame.specs.Stream.{IsHeadOf}
use Rattle.beep_session.specs.beep_history.specs.declared.journal.Side.{Side}
use Rattle.beep_session.specs.beep_history.specs.Journal.{Item, began, passed, told}
use Rattle.beep_session.specs.beep_history.specs.Broken.{under_way}
use Rattle.beep_session.specs.beep_journal.specs.Zero.{zero_history, completes_form}
use Rattle.beep_session.specs.beep_journal.specs.Broken.{none_tunes, broken_seq, broken_content}
use Rattle.beep_session.specs.beep_journal.specs.Journal.{Past, spelled, fault_at, begins, seq_ends, GoesOn, EndsHeader, EndsFrame, EndsSeq, Dies, TakesOctet}
use Rattle.beep_session.specs.beep_journal.proofs.ShownLemmas.{frames_of, spelled-frames}
use Rattle.beep_session.specs.beep_lawful.specs.declared.terms.Terms.{Terms}
use Rattle.beep_session.specs.beep_hearing.specs.Hears.{BreaksAt}
use Rattle.beep_two_journals.specs.beep_two_ends.proofs.OctetsLemmas.{always_alive}
use Rattle.beep_two_journals.specs.Session.{BreaksNothing, IsRun}
use Rattle.beep_two_journals.proofs.NeverBreakLemmas.{next_to_a}
use Rattle.beep_two_journals.proofs.ReadingLemmas.{InRest, head_ends, seq_ends_in}
use Rattle.beep_two_sessions.proofs.ReadLemmas.{Comes, head-of-none}
use Rattle.beep_two_sessions.proofs.WireLemmas.{Wired, oldest}

-- ---- the next item on a wire

module _ (of_a of_b : Terms) (a b : List Item) (fed_a fed_b to_a to_b : List ℕ) (w : Wired of_a of_b a b fed_a fed_b to_a to_b) where
  -- an item that the next octets complete breaks nothing
  pub next-fine : (item : Item) → Comes item a → (fed rest later : List ℕ) → fed ≡ spelled Side.Received (item ∷ a) ++ rest
      → IsHeadOf rest (under_way Side.Received (item ∷ a)) → fed ++ later ≡ fed_a ++ to_a → BreaksNothing a item
  next-fine item c fed rest later is head all =
      let o = oldest of_a of_b a b fed_a fed_b to_a to_b w (item ∷ []) (c, tt) fed rest later is head all in
      next_to_a of_a of_b w.steps a b o.0 w.items_b item w.ends
      (subst (λ (xs : List Item). IsRun of_a of_b w.steps a b xs w.items_b) o.1 w.run)

-- ---- a reply that waits

content-of : (zero reply more form : Bool) → zero ≡ true → reply ≡ true → more ≡ false
    → (if zero && reply && not more && not form then Some Rule.ZeroReply else None) ≡ None → form ≡ true
content-of true true false true z r m e = refl
content-of true true false false z r m e = cc
content-of true true true form z r m e = cc
content-of true false more form z r m e = cc
content-of false reply more form z r m e = cc

content-fine : (past : List Item) (head : Head) (payload : List ℕ) → (head.channel == 0) ≡ true → is_msg head.kind ≡ false → head.more ≡ false
    → broken_content Side.Received past head payload ≡ None → completes_form Side.Received head payload (zero_history past) ≡ true
unfolding broken_content
content-fine past head payload z k m e =
    content-of (head.channel == 0) (is_reply head.kind) head.more (completes_form Side.Received head payload (zero_history past)) z (ap not k) m e

module _ (of_a of_b : Terms) (a b : List Item) (fed_a fed_b to_a to_b : List ℕ) (w : Wired of_a of_b a b fed_a fed_b to_a to_b) where
  pub waiting-fine : (head : Head) (payload : List ℕ) → (head.channel == 0) ≡ true → head.more ≡ false → IsFrame (framed head payload)
      → under_way Side.Received a ≡ Some head → fed_a ≡ spelled Side.Received a ++ spelling (framed head payload) → is_msg head.kind ≡ false
      → completes_form Side.Received head payload (zero_history a) ≡ true
  waiting-fine head payload z m is begun fed k =
      let n : BreaksNothing a (passed Side.Received head payload) =
      next-fine of_a of_b a b fed_a fed_b to_a to_b w (passed Side.Received head payload) (refl, is, begun) fed_a [] to_a
      (fed ∙ sym (append-nil (spelled Side.Received a ++ spelling (framed head payload)))) head-of-none refl in
      content-fine a head payload z k m n.2

-- ---- the next octet

pub in-rest : (rest : List ℕ) (head : Option Head) → IsHeadOf rest head → InRest head rest
in-rest rest None h = h.none
in-rest rest (Some head) h = (h.is_head, h.more, h.begins)

longer : (item : Item) (xs : List Item) → xs ≡ item ∷ xs → ⊥
longer item xs e = let n : length xs ≡ length (item ∷ xs) = ap length e in absurd (omega (arith, n))

module _ (of_a of_b : Terms) (a b : List Item) (fed fed_b later to_b rest : List ℕ) (octet : ℕ) (w : Wired of_a of_b a b fed fed_b (octet ∷ later) to_b)
    (is : fed ≡ spelled Side.Received a ++ rest) (head : IsHeadOf rest (under_way Side.Received a)) (rule : Rule) where
  abbrev past : Past
  past = record { journal = a; rest = λ side. rest; fault = None }

  abbrev broken : Past
  broken = record past { fault = Some (fault_at Side.Received past rule) }

  more : (fed ++ octet ∷ []) ++ later ≡ fed ++ octet ∷ later
  more = append_assoc fed (octet ∷ []) later

  grown : fed ++ octet ∷ [] ≡ spelled Side.Received a ++ (rest ++ octet ∷ [])
  grown = ap (λ (xs : List ℕ). xs ++ octet ∷ []) is ∙ append_assoc (spelled Side.Received a) rest (octet ∷ [])

  by-goes : GoesOn Side.Received octet past broken → ⊥
  by-goes g = let e : Some (fault_at Side.Received past rule) ≡ None = ap (λ (p : Past). p.fault) g.new_is in cc

  by-header : EndsHeader none_tunes Side.Received octet past broken → ⊥
  by-header h =
      let none : under_way Side.Received a ≡ None = head_ends (under_way Side.Received a) rest octet h.head (in-rest rest (under_way Side.Received a) head) h.is_head h.whole in
      let fine : BreaksNothing a (began Side.Received h.head) =
      next-fine of_a of_b a b fed fed_b (octet ∷ later) to_b w (began Side.Received h.head) (refl, none) (fed ++ octet ∷ []) (header h.head) later
      (grown ∙ ap (λ (xs : List ℕ). spelled Side.Received a ++ xs) h.whole) (record { is_head = h.is_head; more = []; begins = sym (append-nil (header h.head)) }) more in
      let e : Some (fault_at Side.Received past rule) ≡ None =
      ap (λ (p : Past). p.fault) (h.new_is ∙ ap (λ (r : Option Rule). begins r Side.Received octet h.head past) fine.1) in
      cc

  by-frame : EndsFrame Side.Received octet past broken → ⊥
  by-frame f = longer (passed Side.Received f.head f.payload) a (ap (λ (p : Past). p.journal) f.new_is)

  by-seq : EndsSeq Side.Received octet past broken → ⊥
  by-seq s =
      let none : under_way Side.Received a ≡ None = seq_ends_in (under_way Side.Received a) rest octet s.seq (in-rest rest (under_way Side.Received a) head) s.is_seq s.whole in
      let fine : broken_seq Side.Received a s.seq ≡ None =
      next-fine of_a of_b a b fed fed_b (octet ∷ later) to_b w (told Side.Received s.seq) (refl, s.is_seq, none) (fed ++ octet ∷ []) [] later
      (grown ∙ ap (λ (xs : List ℕ). spelled Side.Received a ++ xs) s.whole ∙ sym (append-nil (spelled Side.Received a ++ spelling (seq_frame s.seq))))
      (subst (IsHeadOf []) (sym none) head-of-none) more in
      let e : Some (fault_at Side.Received past rule) ≡ None =
      ap (λ (p : Past). p.fault) (s.new_is ∙ ap (λ (r : Option Rule). seq_ends r Side.Received s.seq past) fine) in
      cc

  by-death : Dies Side.Received octet past broken → ⊥
  by-death d =
      d.dies.dead
      (always_alive (frames_of Side.Sent b) ((spelled Side.Received a ++ rest) ++ octet ∷ []) later w.b_sends.each
      (ap (λ (xs : List ℕ). (xs ++ octet ∷ []) ++ later) (sym is) ∙ more ∙ w.to_a_is ∙ spelled-frames Side.Sent b))

  by-octet : TakesOctet none_tunes Side.Received octet past broken → ⊥
  by-octet (inl g) = by-goes g
  by-octet (inr (inl h)) = by-header h
  by-octet (inr (inr (inl f))) = by-frame f
  by-octet (inr (inr (inr (inl s)))) = by-seq s
  by-octet (inr (inr (inr (inr d)))) = by-death d

  pub none-breaks : BreaksAt a rest octet rule → ⊥
  none-breaks breaks = by-octet (breaks past refl refl)
