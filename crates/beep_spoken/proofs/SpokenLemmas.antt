-- What was given to channel zero is what its frames say.
use Rattle.std.proofs.Common.{◌≡◌, ℕ, suc, ◌==◌, Bool, true, false, if◌then◌else◌, List, [], ◌∷◌, ◌++◌, length, map, take, Some, refl, sym, ap, ◌∙◌, arith, append_assoc, length-append, subst}
use Rattle.std.proofs.Math.Seq.{take-append_seam}
use Rattle.std.proofs.lemmas.List.{map-append, take-map, append-nil}
use Rattle.beep_frame.specs.declared.head.Head.{Head}
use Rattle.beep_frame.specs.declared.tag.Tag.{Tag}
use Rattle.beep_frame.specs.declared.kind.Kind.{Kind}
use Rattle.beep_history.specs.declared.journal.Side.{Side}
use Rattle.beep_history.specs.Journal.{Item, passed}
use Rattle.beep_history.specs.Marks.{Mark, octet, end, mark_modulo_2_64, tag_of, carries, frame_marks, marks}
use Rattle.beep_history.specs.Broken.{KeepsExchangeRules}
use Rattle.beep_outbox.specs.Queue.{Message, message_marks}
use Rattle.beep_mgmt.specs.Message.{message_said}
use Rattle.beep_journal.specs.Zero.{zero_history, gathered}
use Rattle.beep_journal.specs.Laws.{contents, pieces_from, rest_from}
use Rattle.beep_journal.proofs.PiecesLemmas.{are-cut}
use Rattle.beep_spoken.specs.Spoken.{Spoken, text_of, AllSaid, kinds_of, AreSpoken, IsSaid}

-- ---- marks after others

rest-append : (begun : List ℕ) (xs ys : List Mark) → rest_from begun (xs ++ ys) ≡ rest_from (rest_from begun xs) ys
rest-append begun [] ys = refl
rest-append begun (octet tag value ∷ xs) ys = rest-append (begun ++ value ∷ []) xs ys
rest-append begun (end tag ∷ xs) ys = rest-append [] xs ys

pieces-append : (begun : List ℕ) (xs ys : List Mark)
    → pieces_from begun (xs ++ ys) ≡ pieces_from begun xs ++ pieces_from (rest_from begun xs) ys
pieces-append begun [] ys = refl
pieces-append begun (octet tag value ∷ xs) ys = pieces-append (begun ++ value ∷ []) xs ys
pieces-append begun (end tag ∷ xs) ys = ap (λ rest. begun ∷ rest) (pieces-append [] xs ys)

kinds-append : (xs ys : List Mark) → kinds_of (xs ++ ys) ≡ kinds_of xs ++ kinds_of ys
kinds-append [] ys = refl
kinds-append (octet tag value ∷ xs) ys = kinds-append xs ys
kinds-append (end tag ∷ xs) ys = ap (λ rest. tag.kind ∷ rest) (kinds-append xs ys)

-- ---- positions modulo 2^64 change neither octets nor kinds

pieces-modulo : (begun : List ℕ) (xs : List Mark) → pieces_from begun (map mark_modulo_2_64 xs) ≡ pieces_from begun xs
pieces-modulo begun [] = refl
pieces-modulo begun (octet tag value ∷ xs) = pieces-modulo (begun ++ value ∷ []) xs
pieces-modulo begun (end tag ∷ xs) = ap (λ rest. begun ∷ rest) (pieces-modulo [] xs)

rest-modulo : (begun : List ℕ) (xs : List Mark) → rest_from begun (map mark_modulo_2_64 xs) ≡ rest_from begun xs
rest-modulo begun [] = refl
rest-modulo begun (octet tag value ∷ xs) = rest-modulo (begun ++ value ∷ []) xs
rest-modulo begun (end tag ∷ xs) = rest-modulo [] xs

kinds-modulo : (xs : List Mark) → kinds_of (map mark_modulo_2_64 xs) ≡ kinds_of xs
kinds-modulo [] = refl
kinds-modulo (octet tag value ∷ xs) = kinds-modulo xs
kinds-modulo (end tag ∷ xs) = ap (λ rest. tag.kind ∷ rest) (kinds-modulo xs)

-- a message ends where a piece does
kinds-count : (begun : List ℕ) (xs : List Mark) → length (kinds_of xs) ≡ length (pieces_from begun xs)
kinds-count begun [] = refl
kinds-count begun (octet tag value ∷ xs) = kinds-count (begun ++ value ∷ []) xs
kinds-count begun (end tag ∷ xs) = ap suc (kinds-count [] xs)

-- ---- the marks of one message

module _ (tag : Tag) where
  octets-pieces : (begun octets : List ℕ) (after : List Mark) → pieces_from begun (map (octet tag) octets ++ after) ≡ pieces_from (begun ++ octets) after
  octets-pieces begun [] after = ap (λ (x : List ℕ). pieces_from x after) (sym (append-nil begun))
  octets-pieces begun (value ∷ octets) after =
      octets-pieces (begun ++ value ∷ []) octets after
      ∙ ap (λ (x : List ℕ). pieces_from x after) (append_assoc begun (value ∷ []) octets)

  octets-rest : (begun octets : List ℕ) (after : List Mark) → rest_from begun (map (octet tag) octets ++ after) ≡ rest_from (begun ++ octets) after
  octets-rest begun [] after = ap (λ (x : List ℕ). rest_from x after) (sym (append-nil begun))
  octets-rest begun (value ∷ octets) after =
      octets-rest (begun ++ value ∷ []) octets after
      ∙ ap (λ (x : List ℕ). rest_from x after) (append_assoc begun (value ∷ []) octets)

  octets-kinds : (octets : List ℕ) (after : List Mark) → kinds_of (map (octet tag) octets ++ after) ≡ kinds_of after
  octets-kinds [] after = refl
  octets-kinds (value ∷ octets) after = octets-kinds octets after

-- ---- giving

said-append : (xs : List Spoken) (one : Spoken) → AllSaid xs → message_said (text_of one) ≡ Some one.form → AllSaid (xs ++ one ∷ [])
said-append [] one all says = (says, tt)
said-append (x ∷ xs) one all says = (all.0, said-append xs one all.1 says)

pub spoken-more : (spoken : List Spoken) (given : List Mark) (message : Message) (one : Spoken) → AreSpoken spoken given
    → message.octets ≡ text_of one → message_said (text_of one) ≡ Some one.form → message.tag.kind ≡ one.kind
    → AreSpoken (spoken ++ one ∷ []) (given ++ message_marks message)
spoken-more spoken given message one s octets says kind = record {
  octets = pieces-append [] given (message_marks message)
      ∙ rw (s.octets, s.whole) (ap (λ (x : List (List ℕ)). map text_of spoken ++ x)
      (octets-pieces message.tag [] message.octets (end message.tag ∷ []) ∙ ap (λ (x : List ℕ). x ∷ []) octets))
      ∙ sym (map-append text_of spoken (one ∷ []));
  kinds = kinds-append given (message_marks message)
      ∙ rw s.kinds (ap (λ (x : List Kind). map (λ (one : Spoken). one.kind) spoken ++ x)
      (octets-kinds message.tag message.octets (end message.tag ∷ []) ∙ ap (λ (x : Kind). x ∷ []) kind))
      ∙ sym (map-append (λ (one : Spoken). one.kind) spoken (one ∷ []));
  whole = rest-append [] given (message_marks message)
      ∙ rw s.whole (octets-rest message.tag [] message.octets (end message.tag ∷ []));
  said = said-append spoken one s.said says;
}

-- ---- sending

module _ (spoken : List Spoken) (given unsent : List Mark) (journal : List Item) (keeps : KeepsExchangeRules (zero_history journal)) (s : AreSpoken spoken given)
    (all : given ≡ map mark_modulo_2_64 (marks Side.Sent (zero_history journal)) ++ unsent) where
  abbrev sent : List Mark
  sent = marks Side.Sent (zero_history journal)

  abbrev left : List ℕ
  left = rest_from [] (map mark_modulo_2_64 sent)

  octets-split : map text_of spoken ≡ contents Side.Sent journal ++ pieces_from left unsent
  octets-split =
      sym s.octets ∙ ap (pieces_from []) all ∙ pieces-append [] (map mark_modulo_2_64 sent) unsent
      ∙ ap (λ (x : List (List ℕ)). x ++ pieces_from left unsent) (pieces-modulo [] sent ∙ (are-cut Side.Sent journal keeps).pieces)

  kinds-split : map (λ (one : Spoken). one.kind) spoken ≡ kinds_of sent ++ kinds_of unsent
  kinds-split =
      sym s.kinds ∙ ap kinds_of all ∙ kinds-append (map mark_modulo_2_64 sent) unsent
      ∙ ap (λ (x : List Kind). x ++ kinds_of unsent) (kinds-modulo sent)

  pub sent-first : contents Side.Sent journal ≡ map text_of (take (length (contents Side.Sent journal)) spoken)
  sent-first =
      sym (take-append_seam (contents Side.Sent journal) (pieces_from left unsent))
      ∙ ap (take (length (contents Side.Sent journal))) (sym octets-split)
      ∙ take-map text_of (length (contents Side.Sent journal)) spoken

-- ---- the message at a place

found : (before : List (List ℕ)) (x : List ℕ) (after : List (List ℕ)) (kinds : List Kind) (kind_here : Kind) (others : List Kind) (spoken : List Spoken)
    → map text_of spoken ≡ before ++ x ∷ after → map (λ (one : Spoken). one.kind) spoken ≡ kinds ++ kind_here ∷ others → length kinds ≡ length before
    → AllSaid spoken → IsSaid spoken (length before) kind_here x
found [] x after [] kind_here others [] e k l said = cc
found [] x after [] kind_here others (one ∷ spoken) e k l said =
    let octets : x ≡ text_of one = cc in
    record { one = one; at = refl; kind_is = cc; octets_are = octets; says = ap message_said octets ∙ said.0 }
found [] x after (kind ∷ kinds) kind_here others spoken e k l said = cc
found (y ∷ before) x after [] kind_here others spoken e k l said = cc
found (y ∷ before) x after (kind ∷ kinds) kind_here others [] e k l said = cc
found (y ∷ before) x after (kind ∷ kinds) kind_here others (one ∷ spoken) e k l said =
    let octets : map text_of spoken ≡ before ++ x ∷ after = cc in
    let asked : map (λ (one : Spoken). one.kind) spoken ≡ kinds ++ kind_here ∷ others = cc in
    let count : length kinds ≡ length before = cc in
    let later = found before x after kinds kind_here others spoken octets asked count said.1 in
    record { one = later.one; at = later.at; kind_is = later.kind_is; octets_are = later.octets_are; says = later.says }

module _ (spoken : List Spoken) (given unsent : List Mark) (journal : List Item) (head : Head) (payload : List ℕ) where
  abbrev now : List Item
  now = passed Side.Sent head payload ∷ journal

  abbrev tag : Tag
  tag = tag_of Side.Sent (zero_history journal) head

  whole-frame : head.more ≡ false → kinds_of (frame_marks tag head payload) ≡ head.kind ∷ []
  whole-frame last = rw last (octets-kinds tag payload (end tag ∷ []))

  module _ (keeps : KeepsExchangeRules (zero_history (passed Side.Sent head payload ∷ journal))) (s : AreSpoken spoken given)
      (all : given ≡ map mark_modulo_2_64 (marks Side.Sent (zero_history (passed Side.Sent head payload ∷ journal))) ++ unsent)
      (zero : (head.channel == 0) ≡ true) (last : head.more ≡ false) where
    zero-now : zero_history now ≡ passed Side.Sent head payload ∷ zero_history journal
    zero-now = rw zero refl

    keeps-both : KeepsExchangeRules (passed Side.Sent head payload ∷ zero_history journal)
    keeps-both = subst KeepsExchangeRules zero-now keeps

    contents-now : contents Side.Sent now ≡ contents Side.Sent journal ++ (gathered Side.Sent (zero_history journal) ++ payload) ∷ []
    contents-now = rw (zero, last) refl

    marks-now : marks Side.Sent (zero_history now) ≡ marks Side.Sent (zero_history journal)
        ++ (if carries Side.Sent (zero_history journal) Side.Sent head then frame_marks tag head payload else [])
    marks-now = ap (marks Side.Sent) zero-now

    before-count : length (kinds_of (marks Side.Sent (zero_history journal))) ≡ length (contents Side.Sent journal)
    before-count = kinds-count [] (marks Side.Sent (zero_history journal)) ∙ ap length (are-cut Side.Sent journal keeps-both.2).pieces

    now-count : length (kinds_of (marks Side.Sent (zero_history now))) ≡ suc (length (contents Side.Sent journal))
    now-count =
        kinds-count [] (marks Side.Sent (zero_history now)) ∙ ap length ((are-cut Side.Sent now keeps).pieces ∙ contents-now)
        ∙ length-append (contents Side.Sent journal) _ ∙ omega arith

    kinds-now : kinds_of (marks Side.Sent (zero_history now)) ≡ kinds_of (marks Side.Sent (zero_history journal)) ++ head.kind ∷ []
    kinds-now = of (carries Side.Sent (zero_history journal) Side.Sent head) (ap kinds_of marks-now)
      where
        of : (b : Bool) → kinds_of (marks Side.Sent (zero_history now)) ≡ kinds_of (marks Side.Sent (zero_history journal) ++ (if b then frame_marks tag head payload else []))
            → kinds_of (marks Side.Sent (zero_history now)) ≡ kinds_of (marks Side.Sent (zero_history journal)) ++ head.kind ∷ []
        of true e = e ∙ kinds-append (marks Side.Sent (zero_history journal)) (frame_marks tag head payload)
            ∙ ap (λ (x : List Kind). kinds_of (marks Side.Sent (zero_history journal)) ++ x) (whole-frame last)
        of false e =
            let same : length (kinds_of (marks Side.Sent (zero_history now))) ≡ length (kinds_of (marks Side.Sent (zero_history journal))) =
            ap length (e ∙ ap kinds_of (append-nil (marks Side.Sent (zero_history journal)))) in
            absurd (omega (arith, same, before-count, now-count))

    pub next-said : IsSaid spoken (length (contents Side.Sent journal)) (head.kind) (gathered Side.Sent (zero_history journal) ++ payload)
    next-said =
        found (contents Side.Sent journal) (gathered Side.Sent (zero_history journal) ++ payload) (pieces_from (rest_from [] (map mark_modulo_2_64 (marks Side.Sent (zero_history now)))) unsent)
        (kinds_of (marks Side.Sent (zero_history journal))) (head.kind) (kinds_of unsent) spoken
        (octets-split spoken given unsent now keeps s all
        ∙ ap (λ (x : List (List ℕ)). x ++ pieces_from (rest_from [] (map mark_modulo_2_64 (marks Side.Sent (zero_history now)))) unsent) contents-now
        ∙ append_assoc (contents Side.Sent journal) _ _)
        (kinds-split spoken given unsent now keeps s all
        ∙ ap (λ (x : List Kind). x ++ kinds_of unsent) kinds-now
        ∙ append_assoc (kinds_of (marks Side.Sent (zero_history journal))) _ _)
        before-count s.said
