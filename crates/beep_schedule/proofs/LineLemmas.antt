-- Lines up to their LF.
use Rattle.std.proofs.Common.{◌≡◌, ℕ, suc, zero, ◌+◌, ◌<◌, ◌^◌, ◌==◌, Bool, true, false, ◌&&◌, cond, List, [], ◌∷◌, ◌++◌, length, take, drop, get_or, codes, Option, Some, None, refl, ap, sym, ◌∙◌, arith, append_assoc, add-one}
use Rattle.std.specs.Bool.{IsTrue}
use Rattle.std.proofs.lemmas.Bool.Decides.{nat_tests}
use Rattle.std.proofs.lemmas.List.Quantifiers.{position-Some}
use Rattle.beep_schedule.specs.declared.event.End.{End}
use Rattle.beep_schedule.specs.declared.event.Act.{Act}
use Rattle.beep_schedule.specs.declared.event.PairEvent.{PairEvent}
use Rattle.beep_settings.specs.declared.limits.TheConstants.{MAX_PIECE}
use Rattle.beep_schedule.specs.declared.limits.TheConstants.{MAX_COUNT}
use Rattle.beep_schedule.specs.Events.{field, end_text, act_text, event_text, is_from_to, is_above, is_of, is_message, is_bare, is_event}
use Rattle.beep_schedule.specs.Schedule.{event_line}
use Rattle.beep_schedule.specs.Refused.{line_of}
use Rattle.beep_schedule.specs.Reading.{place_of, event_in}
use Rattle.beep_schedule.proofs.WordLemmas.{Lacks, lacks_append, number_lacks, place_is, take_append}
use Rattle.beep_schedule.proofs.EventLemmas.{both, below, above_small, sent_said, event_word, event_said, none_some}

-- ---- no event has an LF

field_lacks : (n : ℕ) → n < 2 ^ 32 → Lacks 10 (field n)
field_lacks n small = (refl, number_lacks 10 n (omega arith) small)

end_lacks : (at : End) → Lacks 10 (end_text at)
end_lacks End.A = (refl, tt)
end_lacks End.B = (refl, tt)

three_lacks : (word : List ℕ) (n m k : ℕ) → Lacks 10 word → n < 2 ^ 32 → m < 2 ^ 32 → k < 2 ^ 32 → Lacks 10 (word ++ field n ++ field m ++ field k)
three_lacks word n m k l a b c =
    lacks_append 10 (word ++ field n ++ field m) (field k) (lacks_append 10 (word ++ field n) (field m) (lacks_append 10 word (field n) l (field_lacks n a)) (field_lacks m b)) (field_lacks k c)

two_lacks : (word : List ℕ) (n m : ℕ) → Lacks 10 word → n < 2 ^ 32 → m < 2 ^ 32 → Lacks 10 (word ++ field n ++ field m)
two_lacks word n m l a b = lacks_append 10 (word ++ field n) (field m) (lacks_append 10 word (field n) l (field_lacks n a)) (field_lacks m b)

one_lacks : (word : List ℕ) (n : ℕ) → Lacks 10 word → n < 2 ^ 32 → Lacks 10 (word ++ field n)
one_lacks word n l a = lacks_append 10 word (field n) l (field_lacks n a)

act_lacks : (at : End) (act : Act) (n len fill : ℕ) → IsTrue (is_event (PairEvent.Do at act n len fill)) → Lacks 10 (act_text act n len fill)
act_lacks at Act.Start n len fill is =
    let parts = both (is_above n && is_of at n) (is_bare len fill) is in
    one_lacks (codes " start") n (refl, (refl, (refl, (refl, (refl, (refl, tt)))))) (above_small n (both (is_above n) (is_of at n) parts.0).0)
act_lacks at Act.Ask n len fill is =
    let parts = both (is_above n) (is_message 0 len fill) is in
    let sent = sent_said 0 len fill parts.1 in
    three_lacks (codes " ask") n len fill (refl, (refl, (refl, (refl, tt)))) (above_small n parts.0) sent.small_len sent.small_fill
act_lacks at Act.Reply n len fill is =
    let parts = both (is_above n) (is_message 0 len fill) is in
    let sent = sent_said 0 len fill parts.1 in
    three_lacks (codes " reply") n len fill (refl, (refl, (refl, (refl, (refl, (refl, tt)))))) (above_small n parts.0) sent.small_len sent.small_fill
act_lacks at Act.Refuse n len fill is =
    let parts = both (is_above n) (is_message 0 len fill) is in
    let sent = sent_said 0 len fill parts.1 in
    three_lacks (codes " refuse") n len fill (refl, (refl, (refl, (refl, (refl, (refl, (refl, tt))))))) (above_small n parts.0) sent.small_len sent.small_fill
act_lacks at Act.Answer n len fill is =
    let parts = both (is_above n) (is_message 1 len fill) is in
    let sent = sent_said 1 len fill parts.1 in
    three_lacks (codes " answer") n len fill (refl, (refl, (refl, (refl, (refl, (refl, (refl, tt))))))) (above_small n parts.0) sent.small_len sent.small_fill
act_lacks at Act.Done n len fill is =
    let parts = both (is_above n) (is_bare len fill) is in
    one_lacks (codes " done") n (refl, (refl, (refl, (refl, (refl, tt))))) (above_small n parts.0)
act_lacks at Act.Close n len fill is =
    let parts = both (is_above n) (is_bare len fill) is in
    one_lacks (codes " close") n (refl, (refl, (refl, (refl, (refl, (refl, tt)))))) (above_small n parts.0)
act_lacks at Act.Release n len fill is = (refl, (refl, (refl, (refl, (refl, (refl, (refl, (refl, tt))))))))

event_lacks : (e : PairEvent) → IsTrue (is_event e) → Lacks 10 (event_text e)
event_lacks (PairEvent.Do at act n len fill) is = lacks_append 10 (end_text at) (act_text act n len fill) (end_lacks at) (act_lacks at act n len fill is)
event_lacks (PairEvent.Send at max) is = lacks_append 10 (end_text at) (codes " send" ++ field max) (end_lacks at) (one_lacks (codes " send") max (refl, (refl, (refl, (refl, (refl, tt))))) (below 1 MAX_PIECE max (omega arith) is))
event_lacks (PairEvent.Get at count) is = lacks_append 10 (end_text at) (codes " get" ++ field count) (end_lacks at) (one_lacks (codes " get") count (refl, (refl, (refl, (refl, tt)))) (below 1 MAX_COUNT count (omega arith) is))
event_lacks (PairEvent.Take at n count) is =
    let parts = both (is_above n) (is_from_to 1 MAX_COUNT count) is in
    lacks_append 10 (end_text at) (codes " take" ++ field n ++ field count) (end_lacks at) (two_lacks (codes " take") n count (refl, (refl, (refl, (refl, (refl, tt))))) (above_small n parts.0) (below 1 MAX_COUNT count (omega arith) parts.1))
event_lacks (PairEvent.Drain max piece) is =
    let parts = both (is_from_to 1 MAX_PIECE max) (is_from_to 1 MAX_COUNT piece) is in
    two_lacks (codes "drain") max piece (refl, (refl, (refl, (refl, (refl, tt))))) (below 1 MAX_PIECE max (omega arith) parts.0) (below 1 MAX_COUNT piece (omega arith) parts.1)

-- ---- the first line of octets

-- what follows the first line
abbrev pub rest_of : List ℕ → List ℕ
rest_of [] = []
rest_of (octet ∷ octets) = cond (octet == 10) octets (rest_of octets)

pub line_and_rest : (text : List ℕ) → line_of text ++ rest_of text ≡ text
line_and_rest [] = refl
line_and_rest (octet ∷ octets) = by_test (line_and_rest octets) (octet == 10) refl
  where
    by_test : line_of octets ++ rest_of octets ≡ octets → (b : Bool) → (octet == 10) ≡ b → line_of (octet ∷ octets) ++ rest_of (octet ∷ octets) ≡ octet ∷ octets
    by_test again true e = rw e refl
    by_test again false e = rw (e, again) refl

-- the line of an event before other octets
pub line_before : (line rest : List ℕ) → Lacks 10 line → line_of ((line ++ 10 ∷ []) ++ rest) ≡ line ++ 10 ∷ []
line_before [] rest l = refl
line_before (x ∷ line) rest (e, l) = rw (e, line_before line rest l) refl

pub event_line_before : (e : PairEvent) (rest : List ℕ) → IsTrue (is_event e) → line_of (event_line e ++ rest) ≡ event_line e
event_line_before e rest is = line_before (event_text e) rest (event_lacks e is)

-- a text whose first line is an event's goes on after its LF
pub begins_line : (text : List ℕ) (e : PairEvent) → line_of text ≡ event_line e → text ≡ event_text e ++ 10 ∷ rest_of text
begins_line text e h = sym (line_and_rest text) ∙ ap (λ xs. xs ++ rest_of text) h ∙ append_assoc (event_text e) (10 ∷ []) (rest_of text)

pub place_in_line : (text : List ℕ) (e : PairEvent) → IsTrue (is_event e) → line_of text ≡ event_line e → place_of 10 text ≡ Some (length (event_text e))
place_in_line text e is h = ap (place_of 10) (begins_line text e h) ∙ place_is 10 (event_text e) (rest_of text) (event_lacks e is)

-- no LF, no event
pub no_line : (text : List ℕ) (e : PairEvent) → place_of 10 text ≡ None → IsTrue (is_event e) → line_of text ≡ event_line e → ⊥
no_line text e none is h = none_some (length (event_text e)) (sym none ∙ place_in_line text e is h)

-- a line that says no event
pub no_event : (text : List ℕ) (at : ℕ) (e : PairEvent) → place_of 10 text ≡ Some at → event_in (take at text) ≡ None → IsTrue (is_event e) → line_of text ≡ event_line e → ⊥
no_event text at e place none is h =
    let same : at ≡ length (event_text e) = ap place_or_none (sym place ∙ place_in_line text e is h) in
    let word : take at text ≡ event_text e = ap (λ n. take n text) same ∙ ap (take (length (event_text e))) (begins_line text e h) ∙ take_append (event_text e) (10 ∷ rest_of text) in
    none_some e (sym none ∙ ap event_in word ∙ event_word e is)
  where
    place_or_none : Option ℕ → ℕ
    place_or_none None = at
    place_or_none (Some k) = k

split_at : (text : List ℕ) (at : ℕ) → at < length text → text ≡ take at text ++ get_or text at 0 ∷ drop (suc at) text
split_at [] at h = absurd (omega arith)
split_at (x ∷ text) zero h = refl
split_at (x ∷ text) (suc at) h = ap (λ xs. x ∷ xs) (split_at text at (omega arith))

-- a line that says an event
pub some_line : (text : List ℕ) (at : ℕ) (e : PairEvent) → place_of 10 text ≡ Some at → event_in (take at text) ≡ Some e → IsTrue (is_event e) × (text ≡ event_line e ++ drop (at + 1) text)
some_line text at e place some =
    let found = position-Some (λ other. other == 10) text at 0 place in
    let read = event_said (take at text) e some in
    let lf : get_or text at 0 ≡ 10 = grind (arith, nat_tests, found.1) in
    (read.valid, split_at text at found.0 ∙ ap (λ x. take at text ++ x ∷ drop (suc at) text) lf ∙ ap (λ xs. xs ++ 10 ∷ drop (suc at) text) read.text_is ∙ sym (append_assoc (event_text e) (10 ∷ []) (drop (suc at) text)) ∙ ap (λ n. event_line e ++ drop n text) (sym (add-one at)))
