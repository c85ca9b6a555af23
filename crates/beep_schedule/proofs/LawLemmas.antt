-- A text is read in one way.
use Rattle.std.proofs.Common.{◌≡◌, ℕ, suc, ◌+◌, List, [], ◌∷◌, ◌++◌, length, take, drop, Option, Some, None, refl, ap, sym, subst, ◌∙◌, arith, append_assoc, length-append, append-nil}
use Rattle.std.specs.Bool.{IsTrue}
use Rattle.std.specs.List.{flat_map}
use Rattle.beep_schedule.specs.declared.event.PairEvent.{PairEvent}
use Rattle.beep_schedule.specs.Events.{event_text, is_event, AreEvents}
use Rattle.beep_schedule.specs.Schedule.{first_line, event_line, schedule_text, Says}
use Rattle.beep_schedule.specs.Refused.{line_of, IsBadAt, MayFollow, AreBefore, text_before, line_after, IsWanting}
use Rattle.beep_schedule.specs.Reading.{event_in}
use Rattle.beep_schedule.proofs.WordLemmas.{take_append, drop_append}
use Rattle.beep_schedule.proofs.EventLemmas.{event_word}
use Rattle.beep_schedule.proofs.LineLemmas.{event_line_before}

-- lists after one prefix
cut_front : (xs ys zs : List ℕ) → xs ++ ys ≡ xs ++ zs → ys ≡ zs
cut_front xs ys zs e = sym (drop_append xs ys) ∙ ap (drop (length xs)) e ∙ drop_append xs zs

-- a line says one event
one_event : (e f : PairEvent) → IsTrue (is_event e) → IsTrue (is_event f) → event_line e ≡ event_line f → e ≡ f
one_event e f a b h =
    let lines : length (event_line e) ≡ length (event_line f) = ap length h in
    let same : length (event_text e) ≡ length (event_text f) = omega (arith, lines, length-append (event_text e) (10 ∷ []), length-append (event_text f) (10 ∷ [])) in
    let text : event_text e ≡ event_text f = sym (take_append (event_text e) (10 ∷ [])) ∙ ap (take (length (event_text e))) h ∙ ap (λ n. take n (event_line f)) same ∙ take_append (event_text f) (10 ∷ []) in
    ap (event_or e) (sym (event_word e a) ∙ ap event_in text ∙ event_word f b)
  where
    event_or : PairEvent → Option PairEvent → PairEvent
    event_or d None = d
    event_or d (Some x) = x

line_some : (e : PairEvent) (xs : List ℕ) → [] ≡ event_line e ++ xs → ⊥
line_some e xs h =
    let n : 0 ≡ length (event_line e ++ xs) = ap length h in
    omega (arith, n, length-append (event_line e) xs, length-append (event_text e) (10 ∷ []))

-- two lines and what follows
record SameFirst (e f : PairEvent) (xs ys : List ℕ) : Type 0 where
  pub same : e ≡ f
  pub rest : xs ≡ ys

same_first : (e f : PairEvent) (xs ys : List ℕ) → IsTrue (is_event e) → IsTrue (is_event f) → event_line e ++ xs ≡ event_line f ++ ys → SameFirst e f xs ys
same_first e f xs ys a b h =
    let line : event_line e ≡ event_line f = sym (event_line_before e xs a) ∙ ap line_of h ∙ event_line_before f ys b in
    let same : e ≡ f = one_event e f a b line in
    record { same = same; rest = cut_front (event_line e) xs ys (h ∙ ap (λ l. l ++ ys) (sym line)) }

pub same_events : (es fs : List PairEvent) → AreEvents es → AreEvents fs → flat_map event_line es ≡ flat_map event_line fs → es ≡ fs
same_events [] [] a b h = refl
same_events [] (f ∷ fs) a b h = absurd (line_some f (flat_map event_line fs) h)
same_events (e ∷ es) [] a b h = absurd (line_some e (flat_map event_line es) (sym h))
same_events (e ∷ es) (f ∷ fs) (a, are) (b, bre) h =
    let first = same_first e f (flat_map event_line es) (flat_map event_line fs) a b h in
    ap (λ x. x ∷ es) first.same ∙ ap (λ xs. f ∷ xs) (same_events es fs are bre first.rest)

pub one_schedule : (text : List ℕ) (es fs : List PairEvent) → Says text es → Says text fs → es ≡ fs
one_schedule text es fs a b =
    same_events es fs a.valid b.valid (cut_front first_line (flat_map event_line es) (flat_map event_line fs) (sym a.text_is ∙ b.text_is))

-- where lines before others and a bad one stand
pub record Stops (es : List PairEvent) (rest : List ℕ) : Type 0 where
  pub are : AreEvents es
  pub some : rest ≡ [] → ⊥
  pub bad : (e : PairEvent) → IsTrue (is_event e) → line_of rest ≡ event_line e → ⊥

pub never_both : (es fs : List PairEvent) (rest : List ℕ) → AreEvents es → Stops fs rest → flat_map event_line es ≡ flat_map event_line fs ++ rest → ⊥
never_both [] [] rest are s h = s.some (sym h)
never_both [] (f ∷ fs) rest are s h = line_some f (flat_map event_line fs ++ rest) (h ∙ append_assoc (event_line f) (flat_map event_line fs) rest)
never_both (e ∷ es) [] rest (a, are) s h = s.bad e a (ap line_of (sym h) ∙ event_line_before e (flat_map event_line es) a)
never_both (e ∷ es) (f ∷ fs) rest (a, are) s h =
    let first = same_first e f (flat_map event_line es) (flat_map event_line fs ++ rest) a s.are.0 (h ∙ append_assoc (event_line f) (flat_map event_line fs) rest) in
    never_both es fs rest are (record { are = s.are.1; some = s.some; bad = s.bad }) first.rest

pub one_stop : (es fs : List PairEvent) (xs ys : List ℕ) → Stops es xs → Stops fs ys → flat_map event_line es ++ xs ≡ flat_map event_line fs ++ ys → length es ≡ length fs
one_stop [] [] xs ys s t h = refl
one_stop [] (f ∷ fs) xs ys s t h =
    absurd (s.bad f t.are.0 (ap line_of (h ∙ append_assoc (event_line f) (flat_map event_line fs) ys) ∙ event_line_before f (flat_map event_line fs ++ ys) t.are.0))
one_stop (e ∷ es) [] xs ys s t h =
    absurd (t.bad e s.are.0 (ap line_of (sym h ∙ append_assoc (event_line e) (flat_map event_line es) xs) ∙ event_line_before e (flat_map event_line es ++ xs) s.are.0))
one_stop (e ∷ es) (f ∷ fs) xs ys s t h =
    let first = same_first e f (flat_map event_line es ++ xs) (flat_map event_line fs ++ ys) s.are.0 t.are.0 (sym (append_assoc (event_line e) (flat_map event_line es) xs) ∙ h ∙ append_assoc (event_line f) (flat_map event_line fs) ys) in
    ap suc (one_stop es fs xs ys (record { are = s.are.1; some = s.some; bad = s.bad }) (record { are = t.are.1; some = t.some; bad = t.bad }) first.rest)

-- ---- the first line

begins_first : (xs : List ℕ) → line_of (first_line ++ xs) ≡ first_line
begins_first xs = refl

no_first : (es : List PairEvent) (rest text : List ℕ) → text ≡ schedule_text es ++ rest → (line_of text ≡ first_line → ⊥) → ⊥
no_first es rest text e bad = bad (ap line_of (e ∙ append_assoc first_line (flat_map event_line es) rest) ∙ begins_first (flat_map event_line es ++ rest))

stops_of : (text : List ℕ) (number : ℕ) (events : List PairEvent) (b : IsBadAt text number) → b.before ≡ Some events → Stops events b.rest
stops_of text number events b e = record {
  are = subst (λ o. AreBefore o) e b.are;
  some = subst (λ o. IsWanting o b.rest) e b.wanting;
  bad = λ x is h. subst (λ o. MayFollow o (line_of b.rest) → ⊥) e b.bad (x, is, h);
}

after_first : (text : List ℕ) (number : ℕ) (events : List PairEvent) (b : IsBadAt text number) → b.before ≡ Some events → text ≡ first_line ++ (flat_map event_line events ++ b.rest)
after_first text number events b e = b.text_is ∙ ap (λ o. text_before o ++ b.rest) e ∙ append_assoc first_line (flat_map event_line events) b.rest

pub no_bad_line : (text : List ℕ) (events : List PairEvent) (number : ℕ) → Says text events → IsBadAt text number → ⊥
no_bad_line text events number s b = by_before b.before refl
  where
    by_before : (o : Option (List PairEvent)) → b.before ≡ o → ⊥
    by_before None e =
        let rest : text ≡ b.rest = b.text_is ∙ ap (λ o. text_before o ++ b.rest) e in
        no_first events [] text (s.text_is ∙ sym (append-nil (schedule_text events))) (λ h. subst (λ o. MayFollow o (line_of b.rest) → ⊥) e b.bad (ap line_of (sym rest) ∙ h))
    by_before (Some es) e =
        never_both events es b.rest s.valid (stops_of text number es b e) (cut_front first_line (flat_map event_line events) (flat_map event_line es ++ b.rest) (sym s.text_is ∙ after_first text number es b e))

-- the first line isn't there
none_first : (text : List ℕ) (number : ℕ) (b : IsBadAt text number) → b.before ≡ None → line_of text ≡ first_line → ⊥
none_first text number b e h =
    let rest : text ≡ b.rest = b.text_is ∙ ap (λ o. text_before o ++ b.rest) e in
    subst (λ o. MayFollow o (line_of b.rest) → ⊥) e b.bad (ap line_of (sym rest) ∙ h)

pub one_bad_line : (text : List ℕ) (one other : ℕ) → IsBadAt text one → IsBadAt text other → one ≡ other
one_bad_line text one other a b = by_first a.before refl
  where
    number_a : (o : Option (List PairEvent)) → a.before ≡ o → one ≡ line_after o
    number_a o e = a.number_is ∙ ap line_after e

    number_b : (o : Option (List PairEvent)) → b.before ≡ o → other ≡ line_after o
    number_b o e = b.number_is ∙ ap line_after e

    by_second : (es : List PairEvent) → a.before ≡ Some es → (o : Option (List PairEvent)) → b.before ≡ o → one ≡ other
    by_second es e None f = absurd (no_first es a.rest text (a.text_is ∙ ap (λ o. text_before o ++ a.rest) e) (none_first text other b f))
    by_second es e (Some fs) f =
        let same : length es ≡ length fs = one_stop es fs a.rest b.rest (stops_of text one es a e) (stops_of text other fs b f) (cut_front first_line (flat_map event_line es ++ a.rest) (flat_map event_line fs ++ b.rest) (sym (after_first text one es a e) ∙ after_first text other fs b f)) in
        number_a (Some es) e ∙ ap (λ n. n + 2) same ∙ sym (number_b (Some fs) f)

    by_none : a.before ≡ None → (o : Option (List PairEvent)) → b.before ≡ o → one ≡ other
    by_none e None f = number_a None e ∙ sym (number_b None f)
    by_none e (Some fs) f = absurd (no_first fs b.rest text (b.text_is ∙ ap (λ o. text_before o ++ b.rest) f) (none_first text one a e))

    by_first : (o : Option (List PairEvent)) → a.before ≡ o → one ≡ other
    by_first None e = by_none e b.before refl
    by_first (Some es) e = by_second es e b.before refl
