-- What one octet of a side makes of a session that has no fault.
use Rattle.std.proofs.Common.{◌≡◌, ◌⊎◌, inl, inr, ℕ, true, not, if◌then◌else◌, List, [], ◌∷◌, ◌++◌, Option, Some, None, refl, sym, ap, ◌∙◌, subst, append_assoc, append-nil}
use Rattle.std.specs.List.{flat_map, AllByRecursion}
use Rattle.std.proofs.lemmas.Grind.{flat_map-append}
use Rattle.beep_frame.specs.declared.head.Head.{Head}
use Rattle.beep_frame.specs.declared.rule.Rule.{Rule}
use Rattle.beep_frame.specs.declared.seq.Seq.{Seq}
use Rattle.beep_frame.specs.Frame.{Frame, framed, seq_frame, IsHead, IsFrame, IsSeq}
use Rattle.beep_frame.specs.Spelling.{spelling, header}
use Rattle.beep_frame.specs.Stream.{IsUnfinished, DiesAt}
use Rattle.beep_history.specs.declared.journal.Side.{Side}
use Rattle.beep_history.specs.Journal.{Item, began, passed, told, same_side, other, turned}
use Rattle.beep_journal.specs.Broken.{none_tunes, broken_head, broken_seq, broken_content}
use Rattle.beep_journal.specs.Journal.{Past, Fault, spelled, fault_at, with_rest, begins, passes, seq_ends, GoesOn, TakesOctet}
use Rattle.beep_journal.proofs.OctetLemmas.{unfinished_head}
use Rattle.beep_journal.proofs.ShownLemmas.{frames_of, spelled-frames, AreFrames}
use Rattle.beep_two_ends.specs.Seen.{is_received, arrived, sent}
use Rattle.beep_two_ends.specs.Octets.{items_of, read_items, begun_items}
use Rattle.beep_two_journals.specs.Session.{BreaksNothing}
use Rattle.beep_two_journals.proofs.WalkLemmas.{sent-received, arrived-sent, arrived-received, sent-turned, turned-flips}
use Rattle.beep_two_journals.proofs.ReadingLemmas.{InRest, in_none, none_unfinished, goes_on_in, head_ends, frame_ends, seq_ends_in, items-last, all-last}

-- ---- the items of a side, as they are where they arrive

abbrev pub way : Side → List Item → List Item
way Side.Received past = arrived past
way Side.Sent past = sent past

-- an item of a side, by what it is where it arrives
abbrev pub sided : Side → Item → Item
sided Side.Received item = item
sided Side.Sent item = turned item

way-sided : (side : Side) (item : Item) (past : List Item) → is_received item ≡ true → way side (sided side item ∷ past) ≡ item ∷ way side past
way-sided Side.Received item past r = arrived-received past item r
way-sided Side.Sent item past r = sent-turned past item r

way-other : (side : Side) (item : Item) (past : List Item) → is_received item ≡ true → way (other side) (sided side item ∷ past) ≡ way (other side) past
way-other Side.Received item past r = sent-received past item r
way-other Side.Sent item past r = arrived-sent past (turned item) (turned-flips item ∙ ap not r)

abbrev pub text : Side → Past → List ℕ
text side past = spelled side past.journal ++ past.rest side

-- the octets of a side spell its items
pub record Reading (side : Side) (past : Past) : Type 0 where
  pub head : Option Head
  pub in_rest : InRest head (past.rest side)
  pub unfinished : IsUnfinished (past.rest side)
  pub items : way side past.journal ≡ read_items (frames_of side past.journal) head

at-rest : (side : Side) (octets : List ℕ) (rest : Side → List ℕ) → with_rest side octets rest side ≡ octets
at-rest Side.Received octets rest = refl
at-rest Side.Sent octets rest = refl

rest-other : (side : Side) (octets : List ℕ) (rest : Side → List ℕ) → with_rest side octets rest (other side) ≡ rest (other side)
rest-other Side.Received octets rest = refl
rest-other Side.Sent octets rest = refl

-- ---- an item that an octet completes

pub record Comes (side : Side) (octet : ℕ) (old : Past) : Type 0 where
  pub item : Item
  pub received : is_received item ≡ true
  pub frames : List Frame
  pub each : AllByRecursion IsFrame frames
  pub rest : List ℕ
  pub head : Option Head
  pub in_rest : InRest head rest
  pub unfinished : IsUnfinished rest
  pub spelled_is : text side old ++ octet ∷ [] ≡ flat_map spelling frames ++ rest
  pub items : read_items frames head ≡ item ∷ way side old.journal

module _ (side : Side) (octet : ℕ) (old : Past) (r : Reading side old) (each : AllByRecursion IsFrame (frames_of side old.journal)) where
  abbrev pub fs : List Frame
  fs = frames_of side old.journal

  pub grown : text side old ++ octet ∷ [] ≡ flat_map spelling fs ++ (old.rest side ++ octet ∷ [])
  grown =
      append_assoc (spelled side old.journal) (old.rest side) (octet ∷ [])
      ∙ ap (λ (xs : List ℕ). xs ++ (old.rest side ++ octet ∷ [])) (spelled-frames side old.journal)

  pub grown-whole : (f : Frame) → old.rest side ++ octet ∷ [] ≡ spelling f → text side old ++ octet ∷ [] ≡ flat_map spelling (fs ++ f ∷ []) ++ []
  grown-whole f e =
      grown ∙ ap (λ (xs : List ℕ). flat_map spelling fs ++ xs) (e ∙ sym (append-nil (spelling f)))
      ∙ sym (flat_map-append spelling fs (f ∷ [])) ∙ sym (append-nil (flat_map spelling (fs ++ f ∷ [])))

  abbrev pub head_comes : (h : Head) → IsHead h → old.rest side ++ octet ∷ [] ≡ header h → Comes side octet old
  head_comes h w e =
      let none : r.head ≡ None = head_ends r.head (old.rest side) octet h r.in_rest w e in
      record {
        item = began Side.Received h;
        received = refl;
        frames = fs;
        each = each;
        rest = old.rest side ++ octet ∷ [];
        head = Some h;
        in_rest = (w, [], e ∙ sym (append-nil (header h)));
        unfinished = unfinished_head (old.rest side ++ octet ∷ []) h w e;
        spelled_is = grown;
        items = ap (λ (xs : List Item). began Side.Received h ∷ xs) (ap (λ (o : Option Head). begun_items o ++ items_of fs) (sym none) ∙ sym r.items);
      }

  abbrev pub frame_comes : (h : Head) (payload : List ℕ) → IsFrame (framed h payload) → old.rest side ++ octet ∷ [] ≡ spelling (framed h payload) → Comes side octet old
  frame_comes h payload w e =
      let begun : r.head ≡ Some h = frame_ends r.head (old.rest side) octet h payload r.in_rest w e in
      record {
        item = passed Side.Received h payload;
        received = refl;
        frames = fs ++ framed h payload ∷ [];
        each = all-last fs (framed h payload) each w;
        rest = [];
        head = None;
        in_rest = in_none;
        unfinished = none_unfinished;
        spelled_is = grown-whole (framed h payload) e;
        items = items-last fs (framed h payload)
            ∙ ap (λ (xs : List Item). passed Side.Received h payload ∷ xs) (ap (λ (o : Option Head). begun_items o ++ items_of fs) (sym begun) ∙ sym r.items);
      }

  abbrev pub seq_comes : (s : Seq) → IsSeq s → old.rest side ++ octet ∷ [] ≡ spelling (seq_frame s) → Comes side octet old
  seq_comes s w e =
      let none : r.head ≡ None = seq_ends_in r.head (old.rest side) octet s r.in_rest w e in
      record {
        item = told Side.Received s;
        received = refl;
        frames = fs ++ seq_frame s ∷ [];
        each = all-last fs (seq_frame s) each w;
        rest = [];
        head = None;
        in_rest = in_none;
        unfinished = none_unfinished;
        spelled_is = grown-whole (seq_frame s) e;
        items = items-last fs (seq_frame s)
            ∙ ap (λ (xs : List Item). told Side.Received s ∷ xs) (ap (λ (o : Option Head). begun_items o ++ items_of fs) (sym none) ∙ sym r.items);
      }

-- ---- what an octet makes where it breaks no rule

pub data Outcome (side : Side) (octet : ℕ) (old new : Past) : Type 0 where
  goes : GoesOn side octet old new → Outcome side octet old new
  heads : (h : Head) → IsHead h → old.rest side ++ octet ∷ [] ≡ header h → new ≡ begins None side octet h old → Outcome side octet old new
  frame : (h : Head) (payload : List ℕ) → IsFrame (framed h payload) → old.rest side ++ octet ∷ [] ≡ spelling (framed h payload) → new ≡ passes None side h payload old
      → Outcome side octet old new
  seq : (s : Seq) → IsSeq s → old.rest side ++ octet ∷ [] ≡ spelling (seq_frame s) → new ≡ seq_ends None side s old → Outcome side octet old new

-- what it is then
pub record Stepped (side : Side) (octet : ℕ) (old new : Past) : Type 0 where
  pub fine : new.fault ≡ None
  pub reading : Reading side new
  pub text_is : text side new ≡ text side old ++ octet ∷ []
  pub others : Reading (other side) old → Reading (other side) new
  pub text_other : text (other side) new ≡ text (other side) old
  pub item : (new.journal ≡ old.journal) ⊎ ((x : Item) × (is_received x ≡ true) × (new.journal ≡ sided side x ∷ old.journal))

frames-other : (side : Side) (item : Item) (past : List Item) → is_received item ≡ true → frames_of (other side) (sided side item ∷ past) ≡ frames_of (other side) past
frames-other Side.Received (began Side.Received h) past r = refl
frames-other Side.Received (passed Side.Received h payload) past r = refl
frames-other Side.Received (told Side.Received s) past r = refl
frames-other Side.Sent (began Side.Received h) past r = refl
frames-other Side.Sent (passed Side.Received h payload) past r = refl
frames-other Side.Sent (told Side.Received s) past r = refl
frames-other side (began Side.Sent h) past r = cc
frames-other side (passed Side.Sent h payload) past r = cc
frames-other side (told Side.Sent s) past r = cc

spelled-other : (side : Side) (item : Item) (past : List Item) → is_received item ≡ true → spelled (other side) (sided side item ∷ past) ≡ spelled (other side) past
spelled-other Side.Received (began Side.Received h) past r = refl
spelled-other Side.Received (passed Side.Received h payload) past r = refl
spelled-other Side.Received (told Side.Received s) past r = refl
spelled-other Side.Sent (began Side.Received h) past r = refl
spelled-other Side.Sent (passed Side.Received h payload) past r = refl
spelled-other Side.Sent (told Side.Received s) past r = refl
spelled-other side (began Side.Sent h) past r = cc
spelled-other side (passed Side.Sent h payload) past r = cc
spelled-other side (told Side.Sent s) past r = cc

-- from the item that came
from-comes : (side : Side) (octet : ℕ) (old new : Past) (c : Comes side octet old) → new.fault ≡ None → new.journal ≡ sided side c.item ∷ old.journal
    → frames_of side new.journal ≡ c.frames → new.rest side ≡ c.rest → new.rest (other side) ≡ old.rest (other side) → Stepped side octet old new
from-comes side octet old new c fine journal frames rest beside = record {
  fine = fine;
  reading = record {
    head = c.head;
    in_rest = subst (λ (xs : List ℕ). InRest c.head xs) (sym rest) c.in_rest;
    unfinished = subst (λ (xs : List ℕ). IsUnfinished xs) (sym rest) c.unfinished;
    items = ap (way side) journal ∙ way-sided side c.item old.journal c.received ∙ sym c.items ∙ ap (λ (fs : List Frame). read_items fs c.head) (sym frames);
  };
  text_is = ap (λ (xs : List ℕ). xs ++ new.rest side) (spelled-frames side new.journal ∙ ap (flat_map spelling) frames) ∙ ap (λ (xs : List ℕ). flat_map spelling c.frames ++ xs) rest
      ∙ sym c.spelled_is;
  others = λ r. record {
    head = r.head;
    in_rest = subst (λ (xs : List ℕ). InRest r.head xs) (sym beside) r.in_rest;
    unfinished = subst (λ (xs : List ℕ). IsUnfinished xs) (sym beside) r.unfinished;
    items = ap (way (other side)) journal ∙ way-other side c.item old.journal c.received ∙ r.items
        ∙ ap (λ (fs : List Frame). read_items fs r.head) (sym (ap (frames_of (other side)) journal ∙ frames-other side c.item old.journal c.received));
  };
  text_other = ap (λ (xs : List ℕ). xs ++ new.rest (other side)) (ap (spelled (other side)) journal ∙ spelled-other side c.item old.journal c.received)
      ∙ ap (λ (xs : List ℕ). spelled (other side) old.journal ++ xs) beside;
  item = inr (c.item, c.received, journal);
}

of-side : (side : Side) (before : List Frame) (f : Frame) → (if same_side side side then before ++ f ∷ [] else before) ≡ before ++ f ∷ []
of-side Side.Received before f = refl
of-side Side.Sent before f = refl

sided-began : (side : Side) (h : Head) → began side h ≡ sided side (began Side.Received h)
sided-began Side.Received h = refl
sided-began Side.Sent h = refl

sided-passed : (side : Side) (h : Head) (payload : List ℕ) → passed side h payload ≡ sided side (passed Side.Received h payload)
sided-passed Side.Received h payload = refl
sided-passed Side.Sent h payload = refl

sided-told : (side : Side) (s : Seq) → told side s ≡ sided side (told Side.Received s)
sided-told Side.Received s = refl
sided-told Side.Sent s = refl

goes-step : (side : Side) (octet : ℕ) (old : Past) → old.fault ≡ None → (r : Reading side old) → IsUnfinished (old.rest side ++ octet ∷ [])
    → ((head : Head) → IsHead head → old.rest side ++ octet ∷ [] ≡ header head → ⊥)
    → Stepped side octet old (record old { rest = with_rest side (old.rest side ++ octet ∷ []) old.rest })
goes-step side octet old fine r u none = record {
  fine = fine;
  reading = record {
    head = r.head;
    in_rest = subst (λ (xs : List ℕ). InRest r.head xs) (sym (at-rest side (old.rest side ++ octet ∷ []) old.rest)) (goes_on_in r.head (old.rest side) octet r.in_rest none);
    unfinished = subst (λ (xs : List ℕ). IsUnfinished xs) (sym (at-rest side (old.rest side ++ octet ∷ []) old.rest)) u;
    items = r.items;
  };
  text_is = ap (λ (xs : List ℕ). spelled side old.journal ++ xs) (at-rest side (old.rest side ++ octet ∷ []) old.rest)
      ∙ sym (append_assoc (spelled side old.journal) (old.rest side) (octet ∷ []));
  others = λ q. record {
    head = q.head;
    in_rest = subst (λ (xs : List ℕ). InRest q.head xs) (sym (rest-other side (old.rest side ++ octet ∷ []) old.rest)) q.in_rest;
    unfinished = subst (λ (xs : List ℕ). IsUnfinished xs) (sym (rest-other side (old.rest side ++ octet ∷ []) old.rest)) q.unfinished;
    items = q.items;
  };
  text_other = ap (λ (xs : List ℕ). spelled (other side) old.journal ++ xs) (rest-other side (old.rest side ++ octet ∷ []) old.rest);
  item = inl refl;
}

pub stepped : (side : Side) (octet : ℕ) (old new : Past) → old.fault ≡ None → Reading side old → AreFrames old → Outcome side octet old new → Stepped side octet old new
stepped side octet old new fine r each (goes g) =
    subst (λ (p : Past). Stepped side octet old p) (sym g.new_is) (goes-step side octet old fine r g.unfinished g.no_header)
stepped side octet old new fine r each (heads h w e is) =
    subst (λ (p : Past). Stepped side octet old p) (sym is)
    (from-comes side octet old (begins None side octet h old) (head_comes side octet old r (each side) h w e) fine (ap (λ (i : Item). i ∷ old.journal) (sided-began side h)) refl
    (at-rest side (old.rest side ++ octet ∷ []) old.rest) (rest-other side (old.rest side ++ octet ∷ []) old.rest))
stepped side octet old new fine r each (frame h payload w e is) =
    subst (λ (p : Past). Stepped side octet old p) (sym is)
    (from-comes side octet old (passes None side h payload old) (frame_comes side octet old r (each side) h payload w e) refl (ap (λ (i : Item). i ∷ old.journal) (sided-passed side h payload))
    (of-side side (frames_of side old.journal) (framed h payload)) (at-rest side [] old.rest) (rest-other side [] old.rest))
stepped side octet old new fine r each (seq s w e is) =
    subst (λ (p : Past). Stepped side octet old p) (sym is)
    (from-comes side octet old (seq_ends None side s old) (seq_comes side octet old r (each side) s w e) fine (ap (λ (i : Item). i ∷ old.journal) (sided-told side s))
    (of-side side (frames_of side old.journal) (seq_frame s)) (at-rest side [] old.rest) (rest-other side [] old.rest))

-- ---- which octets do

-- an end whose faults are its peer's
pub sends_outcome : (octet : ℕ) (old new : Past) → ((fault : Fault) → new.fault ≡ Some fault → fault.side ≡ Side.Received) → TakesOctet none_tunes Side.Sent octet old new
    → Outcome Side.Sent octet old new
sends_outcome octet old new none (inl g) = goes g
sends_outcome octet old new none (inr (inl h)) = by-rule (broken_head none_tunes Side.Sent old.journal h.head) h.new_is
  where
    by-rule : (rule : Option Rule) → new ≡ begins rule Side.Sent octet h.head old → Outcome Side.Sent octet old new
    by-rule None is = heads h.head h.is_head h.whole is
    by-rule (Some rule) is = let bad : Side.Sent ≡ Side.Received = none (fault_at Side.Sent old rule) (ap (λ (p : Past). p.fault) is) in cc
sends_outcome octet old new none (inr (inr (inl f))) = by-rule (broken_content Side.Sent old.journal f.head f.payload) f.new_is
  where
    by-rule : (rule : Option Rule) → new ≡ passes rule Side.Sent f.head f.payload old → Outcome Side.Sent octet old new
    by-rule None is = frame f.head f.payload f.is_frame f.whole is
    by-rule (Some rule) is = let bad : Side.Sent ≡ Side.Received = none (fault_at Side.Sent old rule) (ap (λ (p : Past). p.fault) is) in cc
sends_outcome octet old new none (inr (inr (inr (inl s)))) = by-rule (broken_seq Side.Sent old.journal s.seq) s.new_is
  where
    by-rule : (rule : Option Rule) → new ≡ seq_ends rule Side.Sent s.seq old → Outcome Side.Sent octet old new
    by-rule None is = seq s.seq s.is_seq s.whole is
    by-rule (Some rule) is = let bad : Side.Sent ≡ Side.Received = none (fault_at Side.Sent old rule) (ap (λ (p : Past). p.fault) is) in cc
sends_outcome octet old new none (inr (inr (inr (inr d)))) =
    let bad : Side.Sent ≡ Side.Received = none (fault_at Side.Sent old d.rule) (ap (λ (p : Past). p.fault) d.new_is) in cc

-- an end at which nothing that comes breaks a rule, and of which the stream isn't dead
pub gets_outcome : (octet : ℕ) (old new : Past) (r : Reading Side.Received old) (each : AreFrames old) → ((c : Comes Side.Received octet old) → BreaksNothing old.journal c.item)
    → (DiesAt (text Side.Received old) octet → ⊥) → TakesOctet none_tunes Side.Received octet old new → Outcome Side.Received octet old new
gets_outcome octet old new r each fine alive (inl g) = goes g
gets_outcome octet old new r each fine alive (inr (inl h)) =
    let none = (fine (head_comes Side.Received octet old r (each Side.Received) h.head h.is_head h.whole)).1 in
    heads h.head h.is_head h.whole (h.new_is ∙ ap (λ (rule : Option Rule). begins rule Side.Received octet h.head old) none)
gets_outcome octet old new r each fine alive (inr (inr (inl f))) =
    let none = (fine (frame_comes Side.Received octet old r (each Side.Received) f.head f.payload f.is_frame f.whole)).2 in
    frame f.head f.payload f.is_frame f.whole (f.new_is ∙ ap (λ (rule : Option Rule). passes rule Side.Received f.head f.payload old) none)
gets_outcome octet old new r each fine alive (inr (inr (inr (inl s)))) =
    let none = fine (seq_comes Side.Received octet old r (each Side.Received) s.seq s.is_seq s.whole) in
    seq s.seq s.is_seq s.whole (s.new_is ∙ ap (λ (rule : Option Rule). seq_ends rule Side.Received s.seq old) none)
gets_outcome octet old new r each fine alive (inr (inr (inr (inr d)))) = absurd (alive d.dies)
