-- Octets that complete a header, a frame or a SEQ.
use Rattle.std.proofs.Common.{◌≡◌, ℕ, inl, inr, List, [], ◌∷◌, ◌++◌, length, replicate, None, Option, refl, sym, ap, ◌∙◌, subst, append_assoc, append-nil, arith, length-append}
use Rattle.std.proofs.lemmas.List.{length-replicate}
use Rattle.beep_peer.specs.beep_frame.specs.declared.head.Head.{Head}
use Rattle.beep_peer.specs.beep_frame.specs.declared.seq.Seq.{Seq}
use Rattle.beep_peer.specs.beep_frame.specs.declared.rule.Rule.{Rule}
use Rattle.beep_peer.specs.beep_frame.specs.Frame.{framed, seq_frame, IsHead, IsFrame, IsSeq}
use Rattle.beep_peer.specs.beep_frame.specs.Spelling.{spelling, header}
use Rattle.beep_peer.specs.beep_frame.specs.Stream.{IsUnfinished, HasNoHead}
use Rattle.beep_peer.specs.beep_frame.specs.Line.{at_head, at_seq}
use Rattle.beep_peer.specs.beep_frame.proofs.LawLemmas.{same_head, not_whole}
use Rattle.beep_peer.specs.beep_frame.proofs.StreamLemmas.{same_line}
use Rattle.beep_peer.specs.beep_history.specs.declared.journal.Side.{Side}
use Rattle.beep_peer.specs.beep_history.specs.Journal.{Item, began, passed, told, other}
use Rattle.beep_peer.specs.beep_journal.specs.Log.{Moment}
use Rattle.beep_peer.specs.beep_journal.specs.Broken.{none_tunes, broken_head, broken_seq, broken_content}
use Rattle.beep_peer.specs.beep_journal.specs.Journal.{Past, begins, passes, seq_ends, EndsHeader, EndsFrame, EndsSeq}
use Rattle.beep_peer.specs.beep_journal.proofs.OctetLemmas.{unfinished_head}
use Rattle.beep_peer.specs.beep_lawful.specs.declared.terms.Terms.{Terms}
use Rattle.beep_peer.specs.beep_lawful.specs.Lawful.{IsLawful}
use Rattle.beep_logged.proofs.OctetLemmas.{At, May, moment_of, many, many-append, step, goes, shorter, NoHeadAfter, rest-own, rest-other}

-- ---- where no header ends

-- a header without its last octet has no header in it
pub none-before : (rest octets : List ℕ) (octet : ℕ) (head : Head) → IsHead head → rest ++ (octets ++ octet ∷ []) ≡ header head → NoHeadAfter rest (rest ++ octets)
none-before rest octets octet head is e other more is_other begins longer =
    let none : HasNoHead (rest ++ octets) = not_whole head (rest ++ octets) octet is (append_assoc rest octets (octet ∷ []) ∙ e) in
    none.none other more is_other begins

-- no other header ends after the one that begins a rest
pub none-after : (rest part octets : List ℕ) (head : Head) → IsHead head → rest ≡ header head ++ part → NoHeadAfter rest (rest ++ octets)
none-after rest part octets head is begins other more is_other e longer =
    let whole : header head ++ (part ++ octets) ≡ header other ++ more = sym (append_assoc (header head) part octets) ∙ ap (λ r. r ++ octets) (sym begins) ∙ e in
    let same : head ≡ other = same_head head other (part ++ octets) more is is_other whole in
    let size : length (header head) ≡ length (header other) = ap (λ (h : Head). length (header h)) same in
    omega (arith, longer, size, ap length begins, length-append (header head) part)

-- no header ends in a SEQ
pub none-in-seq : (rest octets : List ℕ) (octet : ℕ) (seq : Seq) → IsSeq seq → rest ++ (octets ++ octet ∷ []) ≡ spelling (seq_frame seq) → NoHeadAfter rest (rest ++ octets)
none-in-seq rest octets octet seq is e head more is_head begins longer =
    let whole : spelling (seq_frame seq) ++ [] ≡ header head ++ (more ++ octet ∷ []) =
    append-nil (spelling (seq_frame seq)) ∙ sym e ∙ sym (append_assoc rest octets (octet ∷ [])) ∙ ap (λ r. r ++ octet ∷ []) begins ∙ append_assoc (header head) more (octet ∷ []) in
    let line = same_line (seq_frame seq) (framed head (replicate head.size 0)) [] (more ++ octet ∷ []) is (is_head, length-replicate head.size 0) whole in
    let ends : at_seq seq ≡ at_head head = line.end in
    cc

-- ---- less than a frame

part-of : (rest octets : List ℕ) (octet : ℕ) (all : List ℕ) → rest ++ (octets ++ octet ∷ []) ≡ all → (rest ++ octets) ++ octet ∷ [] ≡ all
part-of rest octets octet all e = append_assoc rest octets (octet ∷ []) ∙ e

head-unfinished : (rest octets : List ℕ) (octet : ℕ) (head : Head) → IsHead head → rest ++ (octets ++ octet ∷ []) ≡ header head → IsUnfinished (rest ++ octets)
head-unfinished rest octets octet head is e =
    shorter (rest ++ octets) (octet ∷ []) (unfinished_head ((rest ++ octets) ++ octet ∷ []) head is (part-of rest octets octet (header head) e))

frame-unfinished : (rest octets : List ℕ) (octet : ℕ) (head : Head) (payload : List ℕ) → IsFrame (framed head payload)
    → rest ++ (octets ++ octet ∷ []) ≡ spelling (framed head payload) → IsUnfinished (rest ++ octets)
frame-unfinished rest octets octet head payload is e =
    record { frame = framed head payload; is_frame = is; next = octet; others = []; spelled = sym (part-of rest octets octet (spelling (framed head payload)) e) }

seq-unfinished : (rest octets : List ℕ) (octet : ℕ) (seq : Seq) → IsSeq seq → rest ++ (octets ++ octet ∷ []) ≡ spelling (seq_frame seq) → IsUnfinished (rest ++ octets)
seq-unfinished rest octets octet seq is e =
    record { frame = seq_frame seq; is_frame = is; next = octet; others = []; spelled = sym (part-of rest octets octet (spelling (seq_frame seq)) e) }

-- ---- one item more

module _ (terms : Terms) (side : Side) (journal : List Item) (rest others octets : List ℕ) (octet : ℕ) (log : List Moment) (at : At terms side journal rest others log)
    (may : May side journal others) (is : IsLawful terms none_tunes journal) where
  all-octets : many side (octets ++ octet ∷ []) log ≡ moment_of side octet ∷ many side octets log
  all-octets = many-append side octets (octet ∷ []) log

  pub header-ends : (head : Head) → IsHead head → rest ++ (octets ++ octet ∷ []) ≡ header head → broken_head none_tunes side journal head ≡ None
      → IsLawful terms none_tunes (began side head ∷ journal) → At terms side (began side head ∷ journal) (header head) others (many side (octets ++ octet ∷ []) log)
  header-ends head is_head e unbroken lawful =
      let before : At terms side journal (rest ++ octets) others (many side octets log) =
      goes terms side journal rest others octets log at may is (head-unfinished rest octets octet head is_head e) (none-before rest octets octet head is_head e) in
      let new : Past = begins None side octet head before.past in
      let unbroken_then : broken_head none_tunes side before.past.journal head ≡ None = ap (λ j. broken_head none_tunes side j head) before.journal_is ∙ unbroken in
      let octets_are : before.past.rest side ++ octet ∷ [] ≡ header head = ap (λ r. r ++ octet ∷ []) before.rest_is ∙ part-of rest octets octet (header head) e in
      let ends : EndsHeader none_tunes side octet before.past new =
      record { head = head; is_head = is_head; whole = octets_are; new_is = ap (λ (o : Option Rule). begins o side octet head before.past) (sym unbroken_then) } in
      subst (At terms side (began side head ∷ journal) (header head) others) (sym all-octets)
      (step terms side journal (rest ++ octets) others (many side octets log) octet before may new (inr (inl ends)) before.going (began side head ∷ journal)
      (ap (λ j. began side head ∷ j) before.journal_is) lawful (header head)
      (rest-own side (before.past.rest side ++ octet ∷ []) before.past.rest ∙ octets_are)
      (rest-other side (before.past.rest side ++ octet ∷ []) before.past.rest))

  pub frame-ends : (head : Head) (payload part : List ℕ) → IsFrame (framed head payload) → rest ≡ header head ++ part → rest ++ (octets ++ octet ∷ []) ≡ spelling (framed head payload)
      → broken_content side journal head payload ≡ None → IsLawful terms none_tunes (passed side head payload ∷ journal)
      → At terms side (passed side head payload ∷ journal) [] others (many side (octets ++ octet ∷ []) log)
  frame-ends head payload part is_frame begins_so e unbroken lawful =
      let before : At terms side journal (rest ++ octets) others (many side octets log) =
      goes terms side journal rest others octets log at may is (frame-unfinished rest octets octet head payload is_frame e) (none-after rest part octets head is_frame.0 begins_so) in
      let new : Past = passes None side head payload before.past in
      let unbroken_then : broken_content side before.past.journal head payload ≡ None = ap (λ j. broken_content side j head payload) before.journal_is ∙ unbroken in
      let octets_are : before.past.rest side ++ octet ∷ [] ≡ spelling (framed head payload) =
      ap (λ r. r ++ octet ∷ []) before.rest_is ∙ part-of rest octets octet (spelling (framed head payload)) e in
      let ends : EndsFrame side octet before.past new = record {
        head = head;
        payload = payload;
        is_frame = is_frame;
        whole = octets_are;
        new_is = ap (λ (o : Option Rule). passes o side head payload before.past) (sym unbroken_then);
      } in
      subst (At terms side (passed side head payload ∷ journal) [] others) (sym all-octets)
      (step terms side journal (rest ++ octets) others (many side octets log) octet before may new (inr (inr (inl ends))) refl (passed side head payload ∷ journal)
      (ap (λ j. passed side head payload ∷ j) before.journal_is) lawful []
      (rest-own side [] before.past.rest) (rest-other side [] before.past.rest))

  pub seq-ends : (seq : Seq) → IsSeq seq → rest ++ (octets ++ octet ∷ []) ≡ spelling (seq_frame seq) → broken_seq side journal seq ≡ None
      → IsLawful terms none_tunes (told side seq ∷ journal) → At terms side (told side seq ∷ journal) [] others (many side (octets ++ octet ∷ []) log)
  seq-ends seq is_seq e unbroken lawful =
      let before : At terms side journal (rest ++ octets) others (many side octets log) =
      goes terms side journal rest others octets log at may is (seq-unfinished rest octets octet seq is_seq e) (none-in-seq rest octets octet seq is_seq e) in
      let new : Past = seq_ends None side seq before.past in
      let unbroken_then : broken_seq side before.past.journal seq ≡ None = ap (λ j. broken_seq side j seq) before.journal_is ∙ unbroken in
      let octets_are : before.past.rest side ++ octet ∷ [] ≡ spelling (seq_frame seq) =
      ap (λ r. r ++ octet ∷ []) before.rest_is ∙ part-of rest octets octet (spelling (seq_frame seq)) e in
      let ends : EndsSeq side octet before.past new =
      record { seq = seq; is_seq = is_seq; whole = octets_are; new_is = ap (λ (o : Option Rule). seq_ends o side seq before.past) (sym unbroken_then) } in
      subst (At terms side (told side seq ∷ journal) [] others) (sym all-octets)
      (step terms side journal (rest ++ octets) others (many side octets log) octet before may new (inr (inr (inr (inl ends)))) before.going (told side seq ∷ journal)
      (ap (λ j. told side seq ∷ j) before.journal_is) lawful []
      (rest-own side [] before.past.rest) (rest-other side [] before.past.rest))
