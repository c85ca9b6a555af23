-- The event that a line says.
use Rattle.std.proofs.Common.{◌≡◌, ℕ, ◌<◌, ◌≤◌, ◌^◌, ◌==◌, Bool, true, false, ◌&&◌, nat_le, cond, eqb, codes, List, [], ◌∷◌, ◌++◌, length, drop, Option, Some, None, refl, ap, sym, ◌∙◌, subst, arith}
use Rattle.std.specs.Bool.{IsTrue}
use Rattle.std.specs.List.{starts_with}
use Rattle.std.proofs.lemmas.Slice.Eq.{starts_is}
use Rattle.std.proofs.lemmas.Bool.Decides.{nat_tests, Decides-eqb}
use Rattle.beep_schedule.specs.declared.event.End.{End}
use Rattle.beep_schedule.specs.declared.event.Act.{Act}
use Rattle.beep_schedule.specs.declared.event.PairEvent.{PairEvent}
use Rattle.beep_schedule.specs.declared.field.Numbers.{Numbers}
use Rattle.beep_schedule.specs.declared.line.Verb.{Verb}
use Rattle.beep_frame.specs.declared.head.TheConstants.{MAX_NUMBER}
use Rattle.beep_settings.specs.declared.limits.TheConstants.{MAX_PIECE}
use Rattle.beep_schedule.specs.declared.limits.TheConstants.{MAX_LEN, MAX_FILL, MAX_COUNT}
use Rattle.beep_schedule.specs.Events.{field, end_text, act_text, event_text, is_from_to, is_above, is_of, is_message, is_bare, is_event}
use Rattle.beep_schedule.specs.Reading.{numbers_of, verb_text, verb_in, all_verbs, message_act, bare_act, with_none, with_one, with_two, with_three, event_with, valid, counted, said, drained, drain_in, event_in}
use Rattle.beep_schedule.proofs.WordLemmas.{numbers_text, AreSmall, numbers_word, numbers_said}

-- ---- tests

pub both : (a b : Bool) → (a && b) ≡ true → (a ≡ true) × (b ≡ true)
both true true e = (refl, refl)
both true false e = absurd (let d : false ≡ true = e in cc)
both false b e = absurd (let d : false ≡ true = e in cc)

pub below : (least most n : ℕ) → most < 2 ^ 32 → is_from_to least most n ≡ true → n < 2 ^ 32
below least most n small e =
    let le : n ≤ most = grind (arith, nat_tests, both (nat_le least n) (nat_le n most) e) in
    omega arith

pub above_small : (n : ℕ) → is_above n ≡ true → n < 2 ^ 32
above_small n e = below 1 MAX_NUMBER n (omega arith) e

pub record IsSent (len fill : ℕ) : Type 0 where
  pub small_len : len < 2 ^ 32
  pub small_fill : fill < 2 ^ 32
  pub octet : nat_le fill MAX_FILL ≡ true

pub sent_said : (least len fill : ℕ) → is_message least len fill ≡ true → IsSent len fill
sent_said least len fill e =
    let parts = both (is_from_to least MAX_LEN len) (nat_le fill MAX_FILL) e in
    let le : fill ≤ MAX_FILL = grind (arith, nat_tests, parts.1) in
    record {
      small_len = below least MAX_LEN len (omega arith) parts.0;
      small_fill = omega arith;
      octet = parts.1;
    }

pub none_some : {X : Type 0} (x : X) → None ≡ Some x → ⊥
none_some x e = cc

-- ---- from an event to its line

at_line : (at : End) (text : List ℕ) → event_in (end_text at ++ text) ≡ valid (said at text (verb_in all_verbs text))
at_line End.A text = refl
at_line End.B text = refl

counted_word : (at : End) (verb : Verb) (ns : Numbers) → AreSmall ns → counted at verb (numbers_of (numbers_text ns)) ≡ event_with at verb ns
counted_word at verb ns small = ap (counted at verb) (numbers_word ns small)

is_valid : (e : PairEvent) → IsTrue (is_event e) → valid (Some e) ≡ Some e
is_valid e is = ap (λ (b : Bool). cond b (Some e) None) is

message_word : (at : End) (act : Act) (n len fill : ℕ) → nat_le fill MAX_FILL ≡ true → message_act at act n len fill ≡ Some (PairEvent.Do at act n len fill)
message_word at act n len fill e = ap (λ (b : Bool). cond b (Some (PairEvent.Do at act n len fill)) None) e

bare_word : (at : End) (act : Act) (n len fill : ℕ) → is_bare len fill ≡ true → bare_act at act n ≡ Some (PairEvent.Do at act n len fill)
bare_word at act n len fill e =
    let parts = both (len == 0) (fill == 0) e in
    let a : len ≡ 0 = grind (arith, nat_tests, parts.0) in
    let b : fill ≡ 0 = grind (arith, nat_tests, parts.1) in
    rw (a, b) refl

-- an event of an end, whose verb has these numbers
at_word : (at : End) (verb : Verb) (ns : Numbers) (text : List ℕ) (e : PairEvent) → verb_in all_verbs text ≡ Some verb → drop (length (verb_text verb)) text ≡ numbers_text ns → AreSmall ns → event_with at verb ns ≡ Some e → IsTrue (is_event e) → event_in (end_text at ++ text) ≡ Some e
at_word at verb ns text e v rest small w is =
    at_line at text ∙ ap (λ o. valid (said at text o)) v ∙ ap (λ xs. valid (counted at verb (numbers_of xs))) rest ∙ ap valid (counted_word at verb ns small ∙ w) ∙ is_valid e is

pub event_word : (e : PairEvent) → IsTrue (is_event e) → event_in (event_text e) ≡ Some e
event_word (PairEvent.Do at Act.Start n len fill) is =
    let parts = both (is_above n && is_of at n) (is_bare len fill) is in
    at_word at Verb.Start (Numbers.One n) (act_text Act.Start n len fill) (PairEvent.Do at Act.Start n len fill) refl refl (above_small n (both (is_above n) (is_of at n) parts.0).0) (bare_word at Act.Start n len fill parts.1) is
event_word (PairEvent.Do at Act.Ask n len fill) is =
    let parts = both (is_above n) (is_message 0 len fill) is in
    let sent = sent_said 0 len fill parts.1 in
    at_word at Verb.Ask (Numbers.Three n len fill) (act_text Act.Ask n len fill) (PairEvent.Do at Act.Ask n len fill) refl refl (above_small n parts.0, sent.small_len, sent.small_fill) (message_word at Act.Ask n len fill sent.octet) is
event_word (PairEvent.Do at Act.Reply n len fill) is =
    let parts = both (is_above n) (is_message 0 len fill) is in
    let sent = sent_said 0 len fill parts.1 in
    at_word at Verb.Reply (Numbers.Three n len fill) (act_text Act.Reply n len fill) (PairEvent.Do at Act.Reply n len fill) refl refl (above_small n parts.0, sent.small_len, sent.small_fill) (message_word at Act.Reply n len fill sent.octet) is
event_word (PairEvent.Do at Act.Refuse n len fill) is =
    let parts = both (is_above n) (is_message 0 len fill) is in
    let sent = sent_said 0 len fill parts.1 in
    at_word at Verb.Refuse (Numbers.Three n len fill) (act_text Act.Refuse n len fill) (PairEvent.Do at Act.Refuse n len fill) refl refl (above_small n parts.0, sent.small_len, sent.small_fill) (message_word at Act.Refuse n len fill sent.octet) is
event_word (PairEvent.Do at Act.Answer n len fill) is =
    let parts = both (is_above n) (is_message 1 len fill) is in
    let sent = sent_said 1 len fill parts.1 in
    at_word at Verb.Answer (Numbers.Three n len fill) (act_text Act.Answer n len fill) (PairEvent.Do at Act.Answer n len fill) refl refl (above_small n parts.0, sent.small_len, sent.small_fill) (message_word at Act.Answer n len fill sent.octet) is
event_word (PairEvent.Do at Act.Done n len fill) is =
    let parts = both (is_above n) (is_bare len fill) is in
    at_word at Verb.Done (Numbers.One n) (act_text Act.Done n len fill) (PairEvent.Do at Act.Done n len fill) refl refl (above_small n parts.0) (bare_word at Act.Done n len fill parts.1) is
event_word (PairEvent.Do at Act.Close n len fill) is =
    let parts = both (is_above n) (is_bare len fill) is in
    at_word at Verb.Close (Numbers.One n) (act_text Act.Close n len fill) (PairEvent.Do at Act.Close n len fill) refl refl (above_small n parts.0) (bare_word at Act.Close n len fill parts.1) is
event_word (PairEvent.Do at Act.Release n len fill) is =
    let parts = both (n == 0) (is_bare len fill) is in
    let zero_number : n ≡ 0 = grind (arith, nat_tests, parts.0) in
    at_word at Verb.Release Numbers.Zero (act_text Act.Release n len fill) (PairEvent.Do at Act.Release n len fill) refl refl tt (rw (zero_number) (bare_word at Act.Release 0 len fill parts.1)) is
event_word (PairEvent.Send at max) is =
    at_word at Verb.Send (Numbers.One max) (codes " send" ++ field max) (PairEvent.Send at max) refl refl (below 1 MAX_PIECE max (omega arith) is) refl is
event_word (PairEvent.Get at count) is =
    at_word at Verb.Get (Numbers.One count) (codes " get" ++ field count) (PairEvent.Get at count) refl refl (below 1 MAX_COUNT count (omega arith) is) refl is
event_word (PairEvent.Take at n count) is =
    let parts = both (is_above n) (is_from_to 1 MAX_COUNT count) is in
    at_word at Verb.Take (Numbers.Two n count) (codes " take" ++ field n ++ field count) (PairEvent.Take at n count) refl refl (above_small n parts.0, below 1 MAX_COUNT count (omega arith) parts.1) refl is
event_word (PairEvent.Drain max piece) is =
    let parts = both (is_from_to 1 MAX_PIECE max) (is_from_to 1 MAX_COUNT piece) is in
    ap (λ r. valid (drained r)) (numbers_word (Numbers.Two max piece) (below 1 MAX_PIECE max (omega arith) parts.0, below 1 MAX_COUNT piece (omega arith) parts.1)) ∙ is_valid (PairEvent.Drain max piece) is

-- ---- from a line to its event

abbrev text_in : Option PairEvent → List ℕ
text_in None = []
text_in (Some e) = event_text e

same_text : (x e : PairEvent) → Some x ≡ Some e → event_text e ≡ event_text x
same_text x e h = ap text_in (sym h)

message_said : (at : End) (act : Act) (n len fill : ℕ) (e : PairEvent) → message_act at act n len fill ≡ Some e → event_text e ≡ event_text (PairEvent.Do at act n len fill)
message_said at act n len fill e h = by_test (nat_le fill MAX_FILL) refl
  where
    by_test : (b : Bool) → nat_le fill MAX_FILL ≡ b → event_text e ≡ event_text (PairEvent.Do at act n len fill)
    by_test true f = same_text (PairEvent.Do at act n len fill) e (sym (ap (λ (b : Bool). cond b (Some (PairEvent.Do at act n len fill)) None) f) ∙ h)
    by_test false f = absurd (none_some e (sym (ap (λ (b : Bool). cond b (Some (PairEvent.Do at act n len fill)) None) f) ∙ h))

none_said : (at : End) (verb : Verb) (e : PairEvent) → with_none at verb ≡ Some e → event_text e ≡ end_text at ++ (verb_text verb ++ numbers_text Numbers.Zero)
none_said at Verb.Start e h = absurd (none_some e h)
none_said at Verb.Ask e h = absurd (none_some e h)
none_said at Verb.Reply e h = absurd (none_some e h)
none_said at Verb.Refuse e h = absurd (none_some e h)
none_said at Verb.Answer e h = absurd (none_some e h)
none_said at Verb.Done e h = absurd (none_some e h)
none_said at Verb.Close e h = absurd (none_some e h)
none_said at Verb.Release e h = same_text (PairEvent.Do at Act.Release 0 0 0) e h
none_said at Verb.Send e h = absurd (none_some e h)
none_said at Verb.Get e h = absurd (none_some e h)
none_said at Verb.Take e h = absurd (none_some e h)

one_said : (at : End) (verb : Verb) (n : ℕ) (e : PairEvent) → with_one at verb n ≡ Some e → event_text e ≡ end_text at ++ (verb_text verb ++ numbers_text (Numbers.One n))
one_said at Verb.Start n e h = same_text (PairEvent.Do at Act.Start n 0 0) e h
one_said at Verb.Ask n e h = absurd (none_some e h)
one_said at Verb.Reply n e h = absurd (none_some e h)
one_said at Verb.Refuse n e h = absurd (none_some e h)
one_said at Verb.Answer n e h = absurd (none_some e h)
one_said at Verb.Done n e h = same_text (PairEvent.Do at Act.Done n 0 0) e h
one_said at Verb.Close n e h = same_text (PairEvent.Do at Act.Close n 0 0) e h
one_said at Verb.Release n e h = absurd (none_some e h)
one_said at Verb.Send n e h = same_text (PairEvent.Send at n) e h
one_said at Verb.Get n e h = same_text (PairEvent.Get at n) e h
one_said at Verb.Take n e h = absurd (none_some e h)

two_said : (at : End) (verb : Verb) (n m : ℕ) (e : PairEvent) → with_two at verb n m ≡ Some e → event_text e ≡ end_text at ++ (verb_text verb ++ numbers_text (Numbers.Two n m))
two_said at Verb.Start n m e h = absurd (none_some e h)
two_said at Verb.Ask n m e h = absurd (none_some e h)
two_said at Verb.Reply n m e h = absurd (none_some e h)
two_said at Verb.Refuse n m e h = absurd (none_some e h)
two_said at Verb.Answer n m e h = absurd (none_some e h)
two_said at Verb.Done n m e h = absurd (none_some e h)
two_said at Verb.Close n m e h = absurd (none_some e h)
two_said at Verb.Release n m e h = absurd (none_some e h)
two_said at Verb.Send n m e h = absurd (none_some e h)
two_said at Verb.Get n m e h = absurd (none_some e h)
two_said at Verb.Take n m e h = same_text (PairEvent.Take at n m) e h

three_said : (at : End) (verb : Verb) (n m k : ℕ) (e : PairEvent) → with_three at verb n m k ≡ Some e → event_text e ≡ end_text at ++ (verb_text verb ++ numbers_text (Numbers.Three n m k))
three_said at Verb.Start n m k e h = absurd (none_some e h)
three_said at Verb.Ask n m k e h = message_said at Act.Ask n m k e h
three_said at Verb.Reply n m k e h = message_said at Act.Reply n m k e h
three_said at Verb.Refuse n m k e h = message_said at Act.Refuse n m k e h
three_said at Verb.Answer n m k e h = message_said at Act.Answer n m k e h
three_said at Verb.Done n m k e h = absurd (none_some e h)
three_said at Verb.Close n m k e h = absurd (none_some e h)
three_said at Verb.Release n m k e h = absurd (none_some e h)
three_said at Verb.Send n m k e h = absurd (none_some e h)
three_said at Verb.Get n m k e h = absurd (none_some e h)
three_said at Verb.Take n m k e h = absurd (none_some e h)

with_said : (at : End) (verb : Verb) (ns : Numbers) (e : PairEvent) → event_with at verb ns ≡ Some e → event_text e ≡ end_text at ++ (verb_text verb ++ numbers_text ns)
with_said at verb Numbers.Zero e h = none_said at verb e h
with_said at verb (Numbers.One n) e h = one_said at verb n e h
with_said at verb (Numbers.Two n m) e h = two_said at verb n m e h
with_said at verb (Numbers.Three n m k) e h = three_said at verb n m k e h

counted_said : (at : End) (verb : Verb) (rest : List ℕ) (r : Option Numbers) (e : PairEvent) → numbers_of rest ≡ r → counted at verb r ≡ Some e → event_text e ≡ end_text at ++ (verb_text verb ++ rest)
counted_said at verb rest None e q h = absurd (none_some e h)
counted_said at verb rest (Some ns) e q h =
    with_said at verb ns e h ∙ ap (λ xs. end_text at ++ (verb_text verb ++ xs)) (sym (numbers_said rest ns q))

begins : (text word : List ℕ) → starts_with eqb text word ≡ true → text ≡ word ++ drop (length word) text
begins text word e = (starts_is Decides-eqb text word (starts_with eqb text word) refl).0 e

verb_said : (verbs : List Verb) (text : List ℕ) (verb : Verb) → verb_in verbs text ≡ Some verb → text ≡ verb_text verb ++ drop (length (verb_text verb)) text
verb_said [] text verb h = absurd (none_some verb h)
verb_said (v ∷ verbs) text verb h = by_test (verb_said verbs text verb) (starts_with eqb text (verb_text v)) refl
  where
    verb_or : Verb → Option Verb → Verb
    verb_or d None = d
    verb_or d (Some w) = w

    by_test : (verb_in verbs text ≡ Some verb → text ≡ verb_text verb ++ drop (length (verb_text verb)) text) → (b : Bool) → starts_with eqb text (verb_text v) ≡ b → text ≡ verb_text verb ++ drop (length (verb_text verb)) text
    by_test again true f =
        let same : v ≡ verb = ap (verb_or v) (sym (ap (λ (b : Bool). cond b (Some v) (verb_in verbs text)) f) ∙ h) in
        subst (λ w. text ≡ verb_text w ++ drop (length (verb_text w)) text) same (begins text (verb_text v) f)
    by_test again false f = again (sym (ap (λ (b : Bool). cond b (Some v) (verb_in verbs text)) f) ∙ h)

said_said : (at : End) (text : List ℕ) (v : Option Verb) (e : PairEvent) → verb_in all_verbs text ≡ v → said at text v ≡ Some e → event_text e ≡ end_text at ++ text
said_said at text None e q h = absurd (none_some e h)
said_said at text (Some verb) e q h =
    counted_said at verb (drop (length (verb_text verb)) text) (numbers_of (drop (length (verb_text verb)) text)) e refl h ∙ ap (λ xs. end_text at ++ xs) (sym (verb_said all_verbs text verb q))

drained_said : (rest : List ℕ) (r : Option Numbers) (e : PairEvent) → numbers_of rest ≡ r → drained r ≡ Some e → event_text e ≡ codes "drain" ++ rest
drained_said rest None e q h = absurd (none_some e h)
drained_said rest (Some Numbers.Zero) e q h = absurd (none_some e h)
drained_said rest (Some (Numbers.One n)) e q h = absurd (none_some e h)
drained_said rest (Some (Numbers.Two n m)) e q h = same_text (PairEvent.Drain n m) e h ∙ ap (λ xs. codes "drain" ++ xs) (sym (numbers_said rest (Numbers.Two n m) q))
drained_said rest (Some (Numbers.Three n m k)) e q h = absurd (none_some e h)

drain_said : (text : List ℕ) (e : PairEvent) → drain_in text ≡ Some e → event_text e ≡ text
drain_said text e h = by_test (starts_with eqb text (codes "drain")) refl
  where
    by_test : (b : Bool) → starts_with eqb text (codes "drain") ≡ b → event_text e ≡ text
    by_test true f = drained_said (drop 5 text) (numbers_of (drop 5 text)) e refl (sym (ap (λ (b : Bool). cond b (drained (numbers_of (drop 5 text))) None) f) ∙ h) ∙ sym (begins text (codes "drain") f)
    by_test false f = absurd (none_some e (sym (ap (λ (b : Bool). cond b (drained (numbers_of (drop 5 text))) None) f) ∙ h))

valid_said : (r : Option PairEvent) (e : PairEvent) → valid r ≡ Some e → (r ≡ Some e) × IsTrue (is_event e)
valid_said None e h = absurd (none_some e h)
valid_said (Some x) e h = by_test (is_event x) refl
  where
    event_or : Option PairEvent → PairEvent
    event_or None = x
    event_or (Some y) = y

    by_test : (b : Bool) → is_event x ≡ b → (Some x ≡ Some e) × IsTrue (is_event e)
    by_test true f =
        let some : Some x ≡ Some e = sym (ap (λ (b : Bool). cond b (Some x) None) f) ∙ h in
        (some, subst (λ y. IsTrue (is_event y)) (ap event_or some) f)
    by_test false f = absurd (none_some e (sym (ap (λ (b : Bool). cond b (Some x) None) f) ∙ h))

-- what was read of a line
pub record IsRead (line : List ℕ) (e : PairEvent) : Type 0 where
  pub valid : IsTrue (is_event e)
  pub text_is : line ≡ event_text e

pub event_said : (line : List ℕ) (e : PairEvent) → event_in line ≡ Some e → IsRead line e
event_said [] e h = absurd (none_some e h)
event_said (octet ∷ text) e h = by_a (octet == 65) refl
  where
    a_said : Option PairEvent
    a_said = said End.A text (verb_in all_verbs text)

    b_said : Option PairEvent
    b_said = said End.B text (verb_in all_verbs text)

    by_b : (octet == 65) ≡ false → (b : Bool) → (octet == 66) ≡ b → IsRead (octet ∷ text) e
    by_b n true f =
        let is = valid_said b_said e (sym (ap (λ (b : Bool). valid (cond b a_said (cond (octet == 66) b_said (drain_in (octet ∷ text))))) n ∙ ap (λ (b : Bool). valid (cond b b_said (drain_in (octet ∷ text)))) f) ∙ h) in
        let same : octet ≡ 66 = grind (arith, nat_tests) in
        record { valid = is.1; text_is = ap (λ x. x ∷ text) same ∙ sym (said_said End.B text (verb_in all_verbs text) e refl is.0) }
    by_b n false f =
        let is = valid_said (drain_in (octet ∷ text)) e (sym (ap (λ (b : Bool). valid (cond b a_said (cond (octet == 66) b_said (drain_in (octet ∷ text))))) n ∙ ap (λ (b : Bool). valid (cond b b_said (drain_in (octet ∷ text)))) f) ∙ h) in
        record { valid = is.1; text_is = sym (drain_said (octet ∷ text) e is.0) }

    by_a : (b : Bool) → (octet == 65) ≡ b → IsRead (octet ∷ text) e
    by_a true f =
        let is = valid_said a_said e (sym (ap (λ (b : Bool). valid (cond b a_said (cond (octet == 66) b_said (drain_in (octet ∷ text))))) f) ∙ h) in
        let same : octet ≡ 65 = grind (arith, nat_tests) in
        record { valid = is.1; text_is = ap (λ x. x ∷ text) same ∙ sym (said_said End.A text (verb_in all_verbs text) e refl is.0) }
    by_a false f = by_b f (octet == 66) refl
