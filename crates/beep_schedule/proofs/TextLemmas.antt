-- The text of a schedule, line by line.
use Rattle.std.proofs.Common.{◌≡◌, ℕ, suc, zero, ◌+◌, ◌<◌, ◌≤◌, true, false, eqb, List, [], ◌∷◌, ◌++◌, length, drop, drop-drop, length-drop, Some, None, refl, ap, sym, ◌∙◌, arith, append_assoc, append-nil, length-append}
use Rattle.std.specs.Bool.{IsTrue}
use Rattle.std.specs.List.{starts_with, flat_map}
use Rattle.std.proofs.lemmas.Slice.Eq.{starts_is}
use Rattle.std.proofs.lemmas.Grind.{flat_map-append}
use Rattle.std.proofs.lemmas.Bool.Decides.{Decides-eqb}
use Rattle.beep_schedule.specs.declared.event.PairEvent.{PairEvent}
use Rattle.beep_schedule.specs.Events.{is_event, AreEvents}
use Rattle.beep_schedule.specs.Schedule.{first_line, event_line, schedule_text, Says}
use Rattle.beep_schedule.specs.Refused.{line_of, IsBadAt}
use Rattle.beep_schedule.proofs.LineLemmas.{line_and_rest, rest_of}

-- ---- what was read so far

pub record Read (text : List ℕ) (i number : ℕ) (events : List PairEvent) : Type 0 where
  pub within : i ≤ length text
  pub valid : AreEvents events
  pub text_is : text ≡ schedule_text events ++ drop i text
  pub number_is : number ≡ length events + 2
  pub few : number ≤ i

pub are_more : (events : List PairEvent) (e : PairEvent) → AreEvents events → IsTrue (is_event e) → AreEvents (events ++ e ∷ [])
are_more [] e are is = (is, tt)
are_more (x ∷ events) e (a, are) is = (a, are_more events e are is)

pub text_more : (events : List PairEvent) (e : PairEvent) → schedule_text (events ++ e ∷ []) ≡ schedule_text events ++ event_line e
text_more events e = ap (λ xs. first_line ++ xs) (flat_map-append event_line events (e ∷ []) ∙ ap (λ xs. flat_map event_line events ++ xs) (append-nil (event_line e))) ∙ sym (append_assoc first_line (flat_map event_line events) (event_line e))

pub read_more : (text : List ℕ) (i number len : ℕ) (events : List PairEvent) (e : PairEvent) → Read text i number events → IsTrue (is_event e) → drop i text ≡ event_line e ++ drop len (drop i text) → 0 < len → i + len ≤ length text → Read text (i + len) (number + 1) (events ++ e ∷ [])
read_more text i number len events e so_far is line some within = record {
  within = within;
  valid = are_more events e so_far.valid is;
  text_is = so_far.text_is ∙ ap (λ xs. schedule_text events ++ xs) line ∙ sym (append_assoc (schedule_text events) (event_line e) (drop len (drop i text))) ∙ ap (λ xs. xs ++ drop len (drop i text)) (sym (text_more events e)) ∙ ap (λ xs. schedule_text (events ++ e ∷ []) ++ xs) (dropped i len text);
  number_is = omega (arith, so_far.number_is, length-append events (e ∷ []));
  few = omega (arith, so_far.few);
}
  where
    dropped : (i len : ℕ) (text : List ℕ) → drop len (drop i text) ≡ drop (i + len) text
    dropped i len text = drop-drop len i text

-- ---- the first line

begins : (text : List ℕ) → starts_with eqb text first_line ≡ true → text ≡ first_line ++ drop (length first_line) text
begins text e = (starts_is Decides-eqb text first_line (starts_with eqb text first_line) refl).0 e

length_of : (text : List ℕ) → text ≡ first_line ++ drop 16 text → 16 ≤ length text
length_of text e =
    let n : length text ≡ 16 + length (drop 16 text) = ap length e ∙ length-append first_line (drop 16 text) in
    omega arith

pub read_first : (text : List ℕ) → starts_with eqb text first_line ≡ true → Read text 16 2 []
read_first text e =
    let whole : text ≡ first_line ++ drop 16 text = begins text e in
    record {
      within = length_of text whole;
      valid = tt;
      text_is = whole ∙ ap (λ xs. xs ++ drop 16 text) (sym (append-nil first_line));
      number_is = refl;
      few = omega arith;
    }

pub bad_first : (text : List ℕ) → starts_with eqb text first_line ≡ false → IsBadAt text 1
bad_first text e = record {
  before = None;
  are = tt;
  rest = text;
  text_is = refl;
  number_is = refl;
  wanting = tt;
  bad = λ h. differs (sym e ∙ (starts_is Decides-eqb text first_line (starts_with eqb text first_line) refl).1 (rest_of text) (sym (line_and_rest text) ∙ ap (λ xs. xs ++ rest_of text) h));
}
  where
    differs : false ≡ true → ⊥
    differs h = cc

-- ---- another line

pub bad_line : (text : List ℕ) (i number : ℕ) (events : List PairEvent) → i < length text → Read text i number events → ((e : PairEvent) → IsTrue (is_event e) → line_of (drop i text) ≡ event_line e → ⊥) → IsBadAt text number
bad_line text i number events more so_far never = record {
  before = Some events;
  are = so_far.valid;
  rest = drop i text;
  text_is = so_far.text_is;
  number_is = so_far.number_is;
  wanting = λ h. wants (ap length h);
  bad = λ h. never h.0 h.1 h.2;
}
  where
    wants : length (drop i text) ≡ 0 → ⊥
    wants h = omega (arith, length-drop i text)

pub says_all : (text : List ℕ) (i number : ℕ) (events : List PairEvent) → length text ≤ i → Read text i number events → Says text events
says_all text i number events end so_far =
    let none : drop i text ≡ [] = drop_end text i end in
    record {
      valid = so_far.valid;
      text_is = so_far.text_is ∙ ap (λ xs. schedule_text events ++ xs) none ∙ append-nil (schedule_text events);
    }
  where
    drop_end : (text : List ℕ) (i : ℕ) → length text ≤ i → drop i text ≡ []
    drop_end [] zero h = refl
    drop_end [] (suc i) h = refl
    drop_end (x ∷ text) zero h = absurd (omega arith)
    drop_end (x ∷ text) (suc i) h = drop_end text i (omega arith)
