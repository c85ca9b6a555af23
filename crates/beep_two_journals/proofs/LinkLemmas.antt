-- Whatever two lawful ends of a link write, octet by octet, no octet that is read breaks a rule.
use Rattle.std.proofs.Common.{◌≡◌, ◌⊎◌, inl, inr, ℕ, Bool, true, false, not, ◌&&◌, List, [], ◌∷◌, ◌++◌, Option, Some, None, refl, sym, ap, ◌∙◌, subst, append_assoc}
use Rattle.std.specs.Option.{is_none}
use Rattle.std.specs.List.{flat_map}
use Rattle.std.proofs.lemmas.List.{append_cancel_right}
use Rattle.beep_frame.specs.declared.rule.Rule.{Rule}
use Rattle.beep_frame.specs.Spelling.{spelling}
use Rattle.beep_frame.specs.Stream.{DiesAt}
use Rattle.beep_frame.proofs.AliveLemmas.{alive_before}
use Rattle.beep_history.specs.declared.journal.Side.{Side}
use Rattle.beep_history.specs.Journal.{Item, began, passed, told}
use Rattle.beep_journal.specs.Life.{is_released}
use Rattle.beep_journal.specs.Broken.{none_tunes, broken_head, broken_seq}
use Rattle.beep_journal.specs.Log.{Moment, got, put, none, over}
use Rattle.beep_journal.specs.Journal.{Past, Fault, no_past, begins, seq_ends, TakesOctet, TakesWhere, goes_on, Shows}
use Rattle.beep_journal.proofs.ShownLemmas.{frames_of, spelled-frames, AreFrames, shown-frames}
use Rattle.beep_lawful.specs.declared.terms.Terms.{Terms}
use Rattle.beep_lawful.specs.Lawful.{IsLawful}
use Rattle.beep_two_ends.specs.Seen.{is_received, arrived, sent}
use Rattle.beep_two_ends.specs.Run.{Step, a_sends, b_gets}
use Rattle.beep_two_ends.specs.Octets.{read_items}
use Rattle.beep_two_journals.specs.Session.{BreaksNothing, AreEnds, IsRun}
use Rattle.beep_two_journals.specs.Link.{Move, a_writes, b_writes, a_reads, b_reads, a_waits, b_waits, IsLinked}
use Rattle.beep_two_journals.proofs.KeptLemmas.{lawful-tail}
use Rattle.beep_two_journals.proofs.NeverBreakLemmas.{run_all, next_to_b}
use Rattle.beep_two_journals.proofs.ReadingLemmas.{in_none, none_unfinished, in_order}
use Rattle.beep_two_journals.proofs.StepLemmas.{sided, text, Reading, Comes, Stepped, stepped, sends_outcome, gets_outcome}
use Rattle.beep_two_journals.proofs.FlipLemmas.{flips, run-flips, ends-flip, released-before}

-- ---- what holds of two ends of a link

pub record Holds (of_a of_b : Terms) (a b : Past) (to_a to_b : List ℕ) : Type 0 where
  pub a_fine : a.fault ≡ None
  pub b_fine : b.fault ≡ None
  pub steps : List Step
  pub items_a : List Item
  pub items_b : List Item
  pub run : IsRun of_a of_b steps a.journal b.journal items_a items_b
  pub a_sent : Reading Side.Sent a
  pub a_got : Reading Side.Received a
  pub b_sent : Reading Side.Sent b
  pub b_got : Reading Side.Received b
  pub a_each : AreFrames a
  pub b_each : AreFrames b
  pub to_b_is : is_released b.journal ≡ false → text Side.Sent a ≡ text Side.Received b ++ to_b
  pub to_a_is : is_released a.journal ≡ false → text Side.Sent b ≡ text Side.Received a ++ to_a

pub holds-flips : (of_a of_b : Terms) (a b : Past) (to_a to_b : List ℕ) → Holds of_a of_b a b to_a to_b → Holds of_b of_a b a to_b to_a
holds-flips of_a of_b a b to_a to_b h = record {
  a_fine = h.b_fine;
  b_fine = h.a_fine;
  steps = flips h.steps;
  items_a = h.items_b;
  items_b = h.items_a;
  run = run-flips of_a of_b h.steps a.journal b.journal h.items_a h.items_b h.run;
  a_sent = h.b_sent;
  a_got = h.b_got;
  b_sent = h.a_sent;
  b_got = h.a_got;
  a_each = h.b_each;
  b_each = h.a_each;
  to_b_is = h.to_a_is;
  to_a_is = h.to_b_is;
}

-- what is known of an end: each item of its journal was lawful, and its fault, if there is one, is the peer's
pub record Law (terms : Terms) (past : Past) : Type 0 where
  pub items : IsLawful terms none_tunes past.journal
  pub peers : (fault : Fault) → past.fault ≡ Some fault → fault.side ≡ Side.Received

-- ---- an end writes an octet

more-journal : (old new : Past) (side : Side) → (new.journal ≡ old.journal) ⊎ ((x : Item) × (is_received x ≡ true) × (new.journal ≡ sided side x ∷ old.journal))
    → is_released new.journal ≡ false → is_released old.journal ≡ false
more-journal old new side (inl e) r = ap is_released (sym e) ∙ r
more-journal old new side (inr (x, c, e)) r = released-before (sided side x) old.journal (ap is_released (sym e) ∙ r)

writes : (of_a of_b : Terms) (a a' b : Past) (to_a to_b : List ℕ) (octet : ℕ) → Holds of_a of_b a b to_a to_b → TakesWhere (goes_on a) none_tunes Side.Sent octet a a'
    → Law of_a a' → AreFrames a' → Holds of_a of_b a' b to_a (to_b ++ octet ∷ [])
writes of_a of_b a a' b to_a to_b octet h t l each =
    let takes : TakesOctet none_tunes Side.Sent octet a a' = subst (λ (w : Bool). TakesWhere w none_tunes Side.Sent octet a a') (ap (λ (o : Option Fault). is_none o) h.a_fine) t in
    let s = stepped Side.Sent octet a a' h.a_fine h.a_sent h.a_each (sends_outcome octet a a' l.peers takes) in
    by-item s s.item
  where
    wire : (s : Stepped Side.Sent octet a a') → is_released b.journal ≡ false → text Side.Sent a' ≡ text Side.Received b ++ (to_b ++ octet ∷ [])
    wire s r = s.text_is ∙ ap (λ (xs : List ℕ). xs ++ octet ∷ []) (h.to_b_is r) ∙ append_assoc (text Side.Received b) to_b (octet ∷ [])

    back : (s : Stepped Side.Sent octet a a') → is_released a'.journal ≡ false → text Side.Sent b ≡ text Side.Received a' ++ to_a
    back s r = h.to_a_is (more-journal a a' Side.Sent s.item r) ∙ ap (λ (xs : List ℕ). xs ++ to_a) (sym s.text_other)

    by-item : (s : Stepped Side.Sent octet a a') → (a'.journal ≡ a.journal) ⊎ ((x : Item) × (is_received x ≡ true) × (a'.journal ≡ sided Side.Sent x ∷ a.journal))
        → Holds of_a of_b a' b to_a (to_b ++ octet ∷ [])
    by-item s (inl e) = record {
      a_fine = s.fine;
      b_fine = h.b_fine;
      steps = h.steps;
      items_a = h.items_a;
      items_b = h.items_b;
      run = subst (λ (j : List Item). IsRun of_a of_b h.steps j b.journal h.items_a h.items_b) (sym e) h.run;
      a_sent = s.reading;
      a_got = s.others h.a_got;
      b_sent = h.b_sent;
      b_got = h.b_got;
      a_each = each;
      b_each = h.b_each;
      to_b_is = wire s;
      to_a_is = back s;
    }
    by-item s (inr (x, c, e)) = record {
      a_fine = s.fine;
      b_fine = h.b_fine;
      steps = a_sends x ∷ h.steps;
      items_a = h.items_a;
      items_b = x ∷ h.items_b;
      run = (a.journal, h.items_b, e, refl, subst (λ (j : List Item). IsLawful of_a none_tunes j) e l.items, c, h.run);
      a_sent = s.reading;
      a_got = s.others h.a_got;
      b_sent = h.b_sent;
      b_got = h.b_got;
      a_each = each;
      b_each = h.b_each;
      to_b_is = wire s;
      to_a_is = back s;
    }

-- ---- an end reads the oldest octet on its wire

module _ (of_a of_b : Terms) (ends : AreEnds of_a of_b) (a b : Past) (to_a to_b : List ℕ) (octet : ℕ) (h : Holds of_a of_b a b to_a (octet ∷ to_b)) (going : is_released b.journal ≡ false) where
  -- what was written, past the octet
  written : (text Side.Received b ++ octet ∷ []) ++ to_b ≡ flat_map spelling (frames_of Side.Sent a.journal) ++ a.rest Side.Sent
  written =
      append_assoc (text Side.Received b) (octet ∷ []) to_b ∙ sym (h.to_b_is going)
      ∙ ap (λ (xs : List ℕ). xs ++ a.rest Side.Sent) (spelled-frames Side.Sent a.journal)

  -- the item that the octet completes is the oldest on the wire
  wire-items : (x : Item) (newer : List Item) → sent a.journal ≡ newer ++ (x ∷ arrived b.journal) → h.items_b ≡ newer ++ x ∷ []
  wire-items x newer e =
      append_cancel_right h.items_b (newer ++ x ∷ []) (arrived b.journal)
      (sym (run_all of_a of_b h.steps a.journal b.journal h.items_a h.items_b ends h.run).reached.to_b_is ∙ e ∙ sym (append_assoc newer (x ∷ []) (arrived b.journal)))

  next : (c : Comes Side.Received octet b) → (newer : List Item) × (sent a.journal ≡ newer ++ (c.item ∷ arrived b.journal))
  next c =
      let o = in_order c.frames (frames_of Side.Sent a.journal) c.rest (a.rest Side.Sent) to_b c.head h.a_sent.head c.each (h.a_each Side.Sent) h.a_sent.unfinished
      c.in_rest h.a_sent.in_rest (ap (λ (xs : List ℕ). xs ++ to_b) (sym c.spelled_is) ∙ written) in
      (o.0, h.a_sent.items ∙ o.1 ∙ ap (λ (xs : List Item). o.0 ++ xs) c.items)

  comes-fine : (c : Comes Side.Received octet b) → BreaksNothing b.journal c.item
  comes-fine c =
      let n = next c in
      next_to_b of_a of_b h.steps a.journal b.journal h.items_a n.0 c.item ends
      (subst (λ (xs : List Item). IsRun of_a of_b h.steps a.journal b.journal h.items_a xs) (wire-items c.item n.0 n.1) h.run)

  alive : DiesAt (text Side.Received b) octet → ⊥
  alive d = d.dead (alive_before (frames_of Side.Sent a.journal) (text Side.Received b ++ octet ∷ []) to_b (a.rest Side.Sent) (h.a_each Side.Sent) h.a_sent.unfinished written)

  -- the item that was added is the oldest on the wire
  added : (b' : Past) (s : Stepped Side.Received octet b b') (each : AreFrames b') (x : Item) → is_received x ≡ true → b'.journal ≡ x ∷ b.journal
      → (newer : List Item) × (h.items_b ≡ newer ++ x ∷ [])
  added b' s each x c e =
      let shown : text Side.Received b' ≡ flat_map spelling (frames_of Side.Received b'.journal) ++ b'.rest Side.Received =
      ap (λ (xs : List ℕ). xs ++ b'.rest Side.Received) (spelled-frames Side.Received b'.journal) in
      let o = in_order (frames_of Side.Received b'.journal) (frames_of Side.Sent a.journal) (b'.rest Side.Received) (a.rest Side.Sent) to_b s.reading.head h.a_sent.head
      (each Side.Received) (h.a_each Side.Sent) h.a_sent.unfinished s.reading.in_rest h.a_sent.in_rest
      (ap (λ (xs : List ℕ). xs ++ to_b) (sym shown ∙ s.text_is) ∙ written) in
      let got_items : read_items (frames_of Side.Received b'.journal) s.reading.head ≡ x ∷ arrived b.journal =
      sym s.reading.items ∙ ap arrived e ∙ at-front x c in
      (o.0, wire-items x o.0 (h.a_sent.items ∙ o.1 ∙ ap (λ (xs : List Item). o.0 ++ xs) got_items))
    where
      at-front : (x : Item) → is_received x ≡ true → arrived (x ∷ b.journal) ≡ x ∷ arrived b.journal
      at-front x c = rw c refl

  reads-on : (b' : Past) → TakesOctet none_tunes Side.Received octet b b' → AreFrames b' → Holds of_a of_b a b' to_a to_b
  reads-on b' takes each =
      let s = stepped Side.Received octet b b' h.b_fine h.b_got h.b_each (gets_outcome octet b b' h.b_got h.b_each comes-fine alive takes) in
      by-item s s.item
    where
      wire : (s : Stepped Side.Received octet b b') → is_released b'.journal ≡ false → text Side.Sent a ≡ text Side.Received b' ++ to_b
      wire s r = h.to_b_is going ∙ sym (append_assoc (text Side.Received b) (octet ∷ []) to_b) ∙ ap (λ (xs : List ℕ). xs ++ to_b) (sym s.text_is)

      back : (s : Stepped Side.Received octet b b') → is_released a.journal ≡ false → text Side.Sent b' ≡ text Side.Received a ++ to_a
      back s r = s.text_other ∙ h.to_a_is r

      by-item : (s : Stepped Side.Received octet b b') → (b'.journal ≡ b.journal) ⊎ ((x : Item) × (is_received x ≡ true) × (b'.journal ≡ sided Side.Received x ∷ b.journal))
          → Holds of_a of_b a b' to_a to_b
      by-item s (inl e) = record {
        a_fine = h.a_fine;
        b_fine = s.fine;
        steps = h.steps;
        items_a = h.items_a;
        items_b = h.items_b;
        run = subst (λ (j : List Item). IsRun of_a of_b h.steps a.journal j h.items_a h.items_b) (sym e) h.run;
        a_sent = h.a_sent;
        a_got = h.a_got;
        b_sent = s.others h.b_sent;
        b_got = s.reading;
        a_each = h.a_each;
        b_each = each;
        to_b_is = wire s;
        to_a_is = back s;
      }
      by-item s (inr (x, c, e)) =
          let n = added b' s each x c e in
          record {
            a_fine = h.a_fine;
            b_fine = s.fine;
            steps = b_gets ∷ h.steps;
            items_a = h.items_a;
            items_b = n.0;
            run = (b.journal, x, e, subst (λ (xs : List Item). IsRun of_a of_b h.steps a.journal b.journal h.items_a xs) n.1 h.run);
            a_sent = h.a_sent;
            a_got = h.a_got;
            b_sent = s.others h.b_sent;
            b_got = s.reading;
            a_each = h.a_each;
            b_each = each;
            to_b_is = wire s;
            to_a_is = back s;
          }

reads : (of_a of_b : Terms) → AreEnds of_a of_b → (a b b' : Past) (to_a to_b : List ℕ) (octet : ℕ) → Holds of_a of_b a b to_a (octet ∷ to_b)
    → TakesWhere (goes_on b && not (is_released b.journal)) none_tunes Side.Received octet b b' → AreFrames b' → Holds of_a of_b a b' to_a to_b
reads of_a of_b ends a b b' to_a to_b octet h t each = by-released (is_released b.journal) refl
  where
    on : goes_on b ≡ true
    on = ap (λ (o : Option Fault). is_none o) h.b_fine

    test : (r : Bool) → is_released b.journal ≡ r → (goes_on b && not (is_released b.journal)) ≡ not r
    test r e = rw (on, e) refl

    by-released : (r : Bool) → is_released b.journal ≡ r → Holds of_a of_b a b' to_a to_b
    by-released false e =
        reads-on of_a of_b ends a b to_a to_b octet h e b' (subst (λ (w : Bool). TakesWhere w none_tunes Side.Received octet b b') (test false e) t) each
    by-released true e =
        let same : b' ≡ b = subst (λ (w : Bool). TakesWhere w none_tunes Side.Received octet b b') (test true e) t in
        subst (λ (p : Past). Holds of_a of_b a p to_a to_b) (sym same) (record {
          a_fine = h.a_fine;
          b_fine = h.b_fine;
          steps = h.steps;
          items_a = h.items_a;
          items_b = h.items_b;
          run = h.run;
          a_sent = h.a_sent;
          a_got = h.a_got;
          b_sent = h.b_sent;
          b_got = h.b_got;
          a_each = h.a_each;
          b_each = h.b_each;
          to_b_is = λ f. over e f;
          to_a_is = h.to_a_is;
        })
      where
        over : is_released b.journal ≡ true → is_released b.journal ≡ false → text Side.Sent a ≡ text Side.Received b ++ to_b
        over t f = let bad : true ≡ false = sym t ∙ f in cc

-- ---- an earlier moment of an end

going-none : (o : Option Fault) → is_none o ≡ true → (fault : Fault) → o ≡ Some fault → fault.side ≡ Side.Received
going-none None e fault f = cc
going-none (Some g) e fault f = cc

octet-items : (terms : Terms) (side : Side) (octet : ℕ) (old new : Past) → TakesOctet none_tunes side octet old new → IsLawful terms none_tunes new.journal
    → IsLawful terms none_tunes old.journal
octet-items terms side octet old new (inl g) l = subst (λ (p : Past). IsLawful terms none_tunes p.journal) g.new_is l
octet-items terms side octet old new (inr (inl h)) l =
    by-rule (broken_head none_tunes side old.journal h.head) (subst (λ (p : Past). IsLawful terms none_tunes p.journal) h.new_is l)
  where
    by-rule : (rule : Option Rule) → IsLawful terms none_tunes (begins rule side octet h.head old).journal → IsLawful terms none_tunes old.journal
    by-rule None w = lawful-tail terms (began side h.head) old.journal w
    by-rule (Some rule) w = w
octet-items terms side octet old new (inr (inr (inl f))) l =
    lawful-tail terms (passed side f.head f.payload) old.journal (subst (λ (p : Past). IsLawful terms none_tunes p.journal) f.new_is l)
octet-items terms side octet old new (inr (inr (inr (inl s)))) l =
    by-rule (broken_seq side old.journal s.seq) (subst (λ (p : Past). IsLawful terms none_tunes p.journal) s.new_is l)
  where
    by-rule : (rule : Option Rule) → IsLawful terms none_tunes (seq_ends rule side s.seq old).journal → IsLawful terms none_tunes old.journal
    by-rule None w = lawful-tail terms (told side s.seq) old.journal w
    by-rule (Some rule) w = w
octet-items terms side octet old new (inr (inr (inr (inr d)))) l = subst (λ (p : Past). IsLawful terms none_tunes p.journal) d.new_is l

where-law : (terms : Terms) (side : Side) (octet : ℕ) (old new : Past) (w : Bool) → (w ≡ true → goes_on old ≡ true) → TakesWhere w none_tunes side octet old new → Law terms new
    → Law terms old
where-law terms side octet old new true on t l = record { items = octet-items terms side octet old new t l.items; peers = λ fault e. going-none old.fault (on refl) fault e }
where-law terms side octet old new false on t l = subst (λ (p : Past). Law terms p) t l

and-one : (a b : Bool) → (a && b) ≡ true → a ≡ true
and-one true b e = refl
and-one false b e = cc

-- ---- all moves

start : Reading Side.Sent no_past × Reading Side.Received no_past
start = (
  record { head = None; in_rest = in_none; unfinished = none_unfinished; items = refl },
  record { head = None; in_rest = in_none; unfinished = none_unfinished; items = refl },
)

at-start : (of_a of_b : Terms) → Holds of_a of_b no_past no_past [] []
at-start of_a of_b = record {
  a_fine = refl;
  b_fine = refl;
  steps = [];
  items_a = [];
  items_b = [];
  run = (refl, refl, refl, refl);
  a_sent = start.0;
  a_got = start.1;
  b_sent = start.0;
  b_got = start.1;
  a_each = λ side. tt;
  b_each = λ side. tt;
  to_b_is = λ r. refl;
  to_a_is = λ r. refl;
}

shown-waits : (before a : List Moment) (at_a : Past) → (a ≡ none ∷ before) ⊎ (a ≡ over ∷ before) → Shows none_tunes a at_a → Shows none_tunes before at_a
shown-waits before a at_a (inl e) s =
    let t : Shows none_tunes (none ∷ before) at_a = subst (λ (log : List Moment). Shows none_tunes log at_a) e s in
    subst (λ (p : Past). Shows none_tunes before p) (sym t.2) t.1
shown-waits before a at_a (inr e) s =
    let t : Shows none_tunes (over ∷ before) at_a = subst (λ (log : List Moment). Shows none_tunes log at_a) e s in
    subst (λ (p : Past). Shows none_tunes before p) (sym t.2) t.1

pub linked : (of_a of_b : Terms) → AreEnds of_a of_b → (moves : List Move) (a b : List Moment) (to_a to_b : List ℕ) (at_a at_b : Past) → IsLinked moves a b to_a to_b
    → Shows none_tunes a at_a → Shows none_tunes b at_b → Law of_a at_a → Law of_b at_b → Holds of_a of_b at_a at_b to_a to_b
linked of_a of_b ends [] a b to_a to_b at_a at_b m s t l k =
    let sa : at_a ≡ no_past = subst (λ (log : List Moment). Shows none_tunes log at_a) m.0 s in
    let sb : at_b ≡ no_past = subst (λ (log : List Moment). Shows none_tunes log at_b) m.1 t in
    rw (sa, sb, m.2, m.3) (at-start of_a of_b)
linked of_a of_b ends (a_writes ∷ moves) a b to_a to_b at_a at_b (before, rest, octet, is, wire, m) s t l k =
    let s' : Shows none_tunes (put octet ∷ before) at_a = subst (λ (log : List Moment). Shows none_tunes log at_a) is s in
    let l' : Law of_a s'.0 = where-law of_a Side.Sent octet s'.0 at_a (goes_on s'.0) (λ e. e) s'.2 l in
    rw wire (writes of_a of_b s'.0 at_a at_b to_a rest octet (linked of_a of_b ends moves before b to_a rest s'.0 at_b m s'.1 t l' k) s'.2 l (shown-frames none_tunes (put octet ∷ before) at_a s'))
linked of_a of_b ends (b_writes ∷ moves) a b to_a to_b at_a at_b (before, rest, octet, is, wire, m) s t l k =
    let t' : Shows none_tunes (put octet ∷ before) at_b = subst (λ (log : List Moment). Shows none_tunes log at_b) is t in
    let k' : Law of_b t'.0 = where-law of_b Side.Sent octet t'.0 at_b (goes_on t'.0) (λ e. e) t'.2 k in
    rw wire
    (holds-flips of_b of_a at_b at_a to_b (rest ++ octet ∷ [])
    (writes of_b of_a t'.0 at_b at_a to_b rest octet (holds-flips of_a of_b at_a t'.0 rest to_b (linked of_a of_b ends moves a before rest to_b at_a t'.0 m s t'.1 l k')) t'.2 k
    (shown-frames none_tunes (put octet ∷ before) at_b t')))
linked of_a of_b ends (b_reads ∷ moves) a b to_a to_b at_a at_b (before, octet, is, m) s t l k =
    let t' : Shows none_tunes (got octet ∷ before) at_b = subst (λ (log : List Moment). Shows none_tunes log at_b) is t in
    let k' : Law of_b t'.0 = where-law of_b Side.Received octet t'.0 at_b (goes_on t'.0 && not (is_released t'.0.journal)) (λ e. and-one (goes_on t'.0) _ e) t'.2 k in
    reads of_a of_b ends at_a t'.0 at_b to_a to_b octet (linked of_a of_b ends moves a before to_a (octet ∷ to_b) at_a t'.0 m s t'.1 l k') t'.2
    (shown-frames none_tunes (got octet ∷ before) at_b t')
linked of_a of_b ends (a_reads ∷ moves) a b to_a to_b at_a at_b (before, octet, is, m) s t l k =
    let s' : Shows none_tunes (got octet ∷ before) at_a = subst (λ (log : List Moment). Shows none_tunes log at_a) is s in
    let l' : Law of_a s'.0 = where-law of_a Side.Received octet s'.0 at_a (goes_on s'.0 && not (is_released s'.0.journal)) (λ e. and-one (goes_on s'.0) _ e) s'.2 l in
    holds-flips of_b of_a at_b at_a to_b to_a
    (reads of_b of_a (ends-flip of_a of_b ends) at_b s'.0 at_a to_b to_a octet
    (holds-flips of_a of_b s'.0 at_b (octet ∷ to_a) to_b (linked of_a of_b ends moves before b (octet ∷ to_a) to_b s'.0 at_b m s'.1 t l' k)) s'.2
    (shown-frames none_tunes (got octet ∷ before) at_a s'))
linked of_a of_b ends (a_waits ∷ moves) a b to_a to_b at_a at_b (before, is, m) s t l k =
    linked of_a of_b ends moves before b to_a to_b at_a at_b m (shown-waits before a at_a is s) t l k
linked of_a of_b ends (b_waits ∷ moves) a b to_a to_b at_a at_b (before, is, m) s t l k =
    linked of_a of_b ends moves a before to_a to_b at_a at_b m s (shown-waits before b at_b is t) l k
