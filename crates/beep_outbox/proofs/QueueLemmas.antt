-- Messages as marks: given after the others, and cut from the front.
use Rattle.std.proofs.Common.{◌≡◌, ℕ, ◌+◌, ◌≤◌, min, nat_lt, Bool, true, false, if◌then◌else◌, List, [], ◌∷◌, ◌++◌, map, length, take, drop, refl, sym, ap, ◌∙◌, arith, append_assoc}
use Rattle.std.proofs.lemmas.Bool.Decides.{nat_tests}
use Rattle.std.proofs.lemmas.List.{append-nil, map-append, take_all, take-append-drop, length-drop}
use Rattle.beep_frame.specs.declared.tag.Tag.{Tag}
use Rattle.beep_history.specs.Marks.{Mark, octet, end}
use Rattle.beep_outbox.specs.Queue.{Message, message_marks, marks_of, octets_of, first_octets, left_after}
use Rattle.beep_outbox.specs.Unsent.{IsCut, cut_marks}

pub marks-given : (messages : List Message) (message : Message)
    → marks_of (messages ++ message ∷ []) ≡ marks_of messages ++ message_marks message
marks-given [] message = append-nil (message_marks message)
marks-given (first ∷ others) message =
    ap (λ (ms : List Mark). message_marks first ++ ms) (marks-given others message)
    ∙ sym (append_assoc (message_marks first) (marks_of others) (message_marks message))

pub octets-given : (messages : List Message) (message : Message)
    → octets_of (messages ++ message ∷ []) ≡ octets_of messages + length message.octets
octets-given [] message = omega arith
octets-given (first ∷ others) message =
    let rest = octets-given others message in omega (arith, rest)

-- a beginning of a message, and what is left of it
cut-two : (tag : Tag) (xs ys : List ℕ)
    → cut_marks tag xs true ++ (map (octet tag) ys ++ end tag ∷ [])
    ≡ map (octet tag) (xs ++ ys) ++ end tag ∷ []
cut-two tag xs ys =
    ap (λ (ms : List Mark). ms ++ (map (octet tag) ys ++ end tag ∷ []))
    (append-nil (map (octet tag) xs))
    ∙ sym (append_assoc (map (octet tag) xs) (map (octet tag) ys) (end tag ∷ []))
    ∙ ap (λ (ms : List Mark). ms ++ end tag ∷ []) (sym (map-append (octet tag) xs ys))

cut-first : (first : Message) (others : List Message) (count : ℕ) (b : Bool)
    → nat_lt count (length first.octets) ≡ b
    → cut_marks first.tag (take count first.octets) b
    ++ marks_of (if b then record first { octets = drop count first.octets } ∷ others else others)
    ≡ message_marks first ++ marks_of others
cut-first first others count true e =
    sym (append_assoc (cut_marks first.tag (take count first.octets) true)
    (map (octet first.tag) (drop count first.octets) ++ end first.tag ∷ []) (marks_of others))
    ∙ ap (λ (ms : List Mark). ms ++ marks_of others)
    (cut-two first.tag (take count first.octets) (drop count first.octets))
    ∙ ap (λ (os : List ℕ). (map (octet first.tag) os ++ end first.tag ∷ []) ++ marks_of others)
    (take-append-drop count first.octets)
cut-first first others count false e =
    ap (λ (os : List ℕ). (map (octet first.tag) os ++ end first.tag ∷ []) ++ marks_of others)
    (take_all count first.octets (all e))
  where
    all : nat_lt count (length first.octets) ≡ false → length first.octets ≤ count
    all f = grind (arith, nat_tests)

marks-at : (first : Message) (others : List Message) (count : ℕ) (tag : Tag) (more : Bool)
    (old new : List Message)
    → old ≡ first ∷ others → tag ≡ first.tag → more ≡ nat_lt count (length first.octets)
    → new ≡ left_after count old
    → cut_marks tag (take count (first_octets old)) more ++ marks_of new ≡ marks_of old
marks-at first others count tag more old new is same more-is left =
    rw (left, more-is, same, is) (cut-first first others count (nat_lt count (length first.octets))
    refl)

pub marks-cut : (most count : ℕ) (tag : Tag) (more : Bool) (old new : List Message)
    → IsCut most tag count more old new
    → cut_marks tag (take count (first_octets old)) more ++ marks_of new ≡ marks_of old
marks-cut most count tag more old new cut =
    marks-at cut.first cut.others count tag more old new cut.is cut.tag_is cut.more_is cut.left

octets-first : (first : Message) (others : List Message) (count : ℕ) (b : Bool)
    → nat_lt count (length first.octets) ≡ b → count ≤ length first.octets
    → count + octets_of (if b then record first { octets = drop count first.octets } ∷ others
    else others)
    ≡ length first.octets + octets_of others
octets-first first others count true e within = omega (arith, length-drop count first.octets)
octets-first first others count false e within = grind (arith, nat_tests)

octets-at : (first : Message) (others : List Message) (most count : ℕ) (old new : List Message)
    → old ≡ first ∷ others → count ≡ min most (length first.octets) → new ≡ left_after count old
    → count + octets_of new ≡ octets_of old
octets-at first others most count old new is count-is left =
    rw (left, is) (octets-first first others count (nat_lt count (length first.octets)) refl
    (omega (arith, count-is)))

pub octets-cut : (most count : ℕ) (tag : Tag) (more : Bool) (old new : List Message)
    → IsCut most tag count more old new → count + octets_of new ≡ octets_of old
octets-cut most count tag more old new cut =
    octets-at cut.first cut.others most count old new cut.is cut.count_is cut.left
