-- What a take leaves of what is untaken above channel zero.
use Rattle.std.proofs.Common.{◌≡◌, ◌∙◌, refl, sym, ap, subst, ℕ, ◌==◌, ◌<◌, ◌≤◌, ◌+◌, Bool, true, false, not, ◌||◌, ◌&&◌, nat_lt, List, [], ◌∷◌, ◌++◌, length, take, drop, map, Option, Some, None, append-nil, length-append, arith}
use Rattle.std.specs.Prelude.{is_some, min, IfSome}
use Rattle.std.proofs.lemmas.List.{length-take}
use Rattle.std.proofs.lemmas.Bool.Decides.{nat_tests}
use Rattle.beep_session.specs.beep_frame.specs.declared.tag.Tag.{Tag}
use Rattle.beep_session.specs.beep_history.specs.declared.journal.Side.{Side}
use Rattle.beep_session.specs.beep_history.specs.Marks.{Mark, marks, mark_modulo_2_64}
use Rattle.beep_session.specs.beep_inbox.specs.declared.part.Part.{Part}
use Rattle.beep_session.specs.beep_inbox.specs.Laws.{part_marks}
use Rattle.beep_session.specs.beep_inbox.specs.Runs.{Run, marks_with, marks_of, has_mark, AllMarked}
use Rattle.beep_session.specs.beep_inbox.specs.Untaken.{IsTaken}
use Rattle.beep_session.specs.beep_inbox.proofs.RunsLemmas.{take-marks}
use Rattle.beep_session.specs.beep_journal.specs.Life.{history, is_there}
use Rattle.beep_session.specs.beep_journal.specs.Log.{Moment}
use Rattle.beep_session.specs.beep_channel.specs.Held.{Live}
use Rattle.beep_session.specs.beep_lives.specs.Lives.{live_at}
use Rattle.beep_session.specs.beep_giving.specs.Looks.{inbox_of}
use Rattle.beep_session.specs.beep_standing.specs.Standing.{AreLiveBy, with_marks}
use Rattle.beep_session.specs.beep_peer.specs.Peering.{is_over, zero_waits}
use Rattle.beep_session.specs.Channels.{Takes}
use Rattle.beep_session.specs.Looks.{IsTakenAt}
use Rattle.beep_session.specs.Session.{Held}
use Rattle.beep_steps.specs.Logs.{StandsOn}
use Rattle.beep_steps.specs.Steps.{IsUntaken, TookMost, TookPart}
use Rattle.beep_steps.proofs.ArrivedLemmas.{turn}
use Rattle.beep_steps.proofs.TakenLemmas.{taken-at}

-- ---- the marks of a part

some-with : (tag : Tag) (octets : List ℕ) (ended : Bool) → (nat_lt 0 (length octets) || ended) ≡ true → 0 < length (marks_with tag octets ended)
some-with tag [] true e = omega arith
some-with tag [] false e = absurd (let h : false ≡ true = e in cc)
some-with tag (value ∷ octets) ended e = omega arith

module _ (part : Part) (old new : List Run) (before after : List ℕ) (t : IsTaken part old new before after) where
  pub first-marks : part_marks part after ++ marks_of new ≡ marks_of old
  first-marks = take-marks t.first t.others part.tag part.len part.ended old new before after t.is t.tag t.len t.ended t.left t.octets

  pub part-within : part.len ≤ length after
  part-within =
      let len = t.len in
      let whole : length after ≡ length (take part.len t.first.octets) + length (drop part.len before) = ap length t.octets ∙ length-append (take part.len t.first.octets) (drop part.len before) in
      let front : length (take part.len t.first.octets) ≡ min part.len (length t.first.octets) = length-take part.len t.first.octets in
      omega (arith, len, whole, front)

  pub part-some : 0 < length before → AllMarked old → 0 < length (part_marks part after)
  part-some some are =
      let marked : has_mark t.first ≡ true = (subst AllMarked t.is are).0 in
      some-with part.tag (take part.len after) part.ended (by (nat_lt 0 (length t.first.octets)) refl marked)
    where
      taken-length : length (take part.len after) ≡ part.len
      taken-length = let w = part-within in let l = length-take part.len after in omega (arith, w, l)

      by : (b : Bool) → nat_lt 0 (length t.first.octets) ≡ b → (b || t.first.ended) ≡ true → (nat_lt 0 (length (take part.len after)) || part.ended) ≡ true
      by true e m = let more : 0 < length (take part.len after) = (let l = t.len in let k = taken-length in grind (arith, nat_tests, l, k, e, some)) in lt-or more part.ended
        where
          lt-or : 0 < length (take part.len after) → (d : Bool) → (nat_lt 0 (length (take part.len after)) || d) ≡ true
          lt-or less d = let is : nat_lt 0 (length (take part.len after)) ≡ true = grind (arith, nat_tests, less) in rw is refl
      by false e m =
          let none : length t.first.octets ≡ 0 = grind (arith, nat_tests, e) in
          let zero : part.len ≡ length t.first.octets = (let l = t.len in omega (arith, l, none)) in
          let same : (part.len == length t.first.octets) ≡ true = grind (arith, nat_tests, zero) in
          or-true (nat_lt 0 (length (take part.len after))) part.ended (t.ended ∙ ap (λ (x : Bool). x && (part.len == length t.first.octets)) m ∙ same)
        where
          or-true : (x y : Bool) → y ≡ true → (x || y) ≡ true
          or-true true y h = refl
          or-true false y h = h

-- ---- what is untaken afterwards

module _ (number : ℕ) (old new : Held) (log : List Moment) (s : StandsOn old log) (above : (number == 0) ≡ false) where
  -- all that arrived of one number was taken
  all-at : (n : ℕ) → (n == 0) ≡ false → IsTakenAt n old.peer.lives → is_there n s.journal ≡ true → s.taken n ≡ map mark_modulo_2_64 (marks Side.Received (history n s.journal))
  all-at n up are there = by (live_at n old.peer.lives) refl
    where
      live : AreLiveBy old.limits.window s.journal s.given s.taken old.peer.lives
      live = s.stands.stands.holds.live

      by : (o : Option Live) → live_at n old.peer.lives ≡ o → s.taken n ≡ map mark_modulo_2_64 (marks Side.Received (history n s.journal))
      by None at = absurd (let h : true ≡ false = sym there ∙ live.there n ∙ ap is_some at in cc)
      by (Some c) at = sym ((live.above n c up at).all_arrived ∙ ap (λ runs. s.taken n ++ marks_of runs) (are up c at) ∙ append-nil (s.taken n))

  marked-at : AllMarked (inbox_of (live_at number old.peer.lives))
  marked-at = by (live_at number old.peer.lives) refl
    where
      by : (o : Option Live) → live_at number old.peer.lives ≡ o → AllMarked (inbox_of o)
      by None at = tt
      by (Some c) at = (s.stands.stands.holds.live.above number c above at).held.sums.marked

  untaken-marks : (left : List Mark) → IsUntaken number left old → (others : List Run) (first : Run) → inbox_of (live_at number old.peer.lives) ≡ first ∷ others
      → marks_of (inbox_of (live_at number old.peer.lives)) ≡ left
  untaken-marks left u others first = by (live_at number old.peer.lives) refl
    where
      by : (o : Option Live) → live_at number old.peer.lives ≡ o → inbox_of o ≡ first ∷ others → marks_of (inbox_of o) ≡ left
      by None at e = absurd (let h : [] ≡ first ∷ others = e in cc)
      by (Some c) at e = u.own c at

  pub took-part : (part : Part) (before octets : List ℕ) → Takes number part octets old new
      → IsTaken part (inbox_of (live_at number old.peer.lives)) (inbox_of (live_at number new.peer.lives)) before octets → 0 < length before
      → (left : List Mark) → IsUntaken number left old → TookPart number part octets left new
  took-part part before octets g t some left u =
      let was = inbox_of (live_at number old.peer.lives) in
      let now = inbox_of (live_at number new.peer.lives) in
      let m = g.takes s.fed s.rest s.journal s.given s.taken s.stands.stands in
      let later = with_marks number (s.taken number ++ part_marks part octets) s.taken in
      record {
        rest = marks_of now;
        left_is = sym (untaken-marks left u t.others t.first t.is) ∙ sym (first-marks part was now before octets t);
        some = part-some part was now before octets t some marked-at;
        untaken = record {
          own = λ c at. ap (λ o. marks_of (inbox_of o)) (sym at);
          others = λ n other up c at.
              taken-at old.limits.window s.journal m.given_now later new.peer.lives m.stands.holds.live n
              (λ there. rest-same n (turn n number other) (s.taken number ++ part_marks part octets) ∙ all-at n up (u.others n other) there) up c at;
        };
      }
    where
      rest-same : (n : ℕ) → (number == n) ≡ false → (x : List Mark) → with_marks number x s.taken n ≡ s.taken n
      rest-same n e x = rw e refl

-- a take that gave one
pub some-part : (number at : ℕ) (result : Option Part) (before octets : List ℕ) (old mid new : Held) (log : List Moment) → StandsOn old log → (number == 0) ≡ false → mid ≡ old → at ≡ number
    → IfSome result (λ part. Takes at part octets mid new)
    → IfSome result (λ part. IsTaken part (inbox_of (live_at at mid.peer.lives)) (inbox_of (live_at at new.peer.lives)) before octets) → 0 < length before
    → (left : List Mark) → IsUntaken number left old → IfSome result (λ part. TookPart number part octets left new)
some-part number at None before octets old mid new log s above same number_is takes part some left u = tt
some-part number at (Some one) before octets old mid new log s above same number_is takes part some left u =
    took-part number old new log s above one before octets
    (subst (λ n. Takes n one octets old new) number_is (subst (λ (x : Held). Takes at one octets x new) same takes))
    (subst (λ n. IsTaken one (inbox_of (live_at n old.peer.lives)) (inbox_of (live_at n new.peer.lives)) before octets) number_is
    (subst (λ (x : Held). IsTaken one (inbox_of (live_at at x.peer.lives)) (inbox_of (live_at at new.peer.lives)) before octets) same part)) some left u

-- a take takes what finds room
pub most-taken : (result : Option Part) (number at : ℕ) (before octets : List ℕ) (old mid new : Held) → at ≡ number → mid ≡ old
    → IfSome result (λ part. IsTaken part (inbox_of (live_at at mid.peer.lives)) (inbox_of (live_at at new.peer.lives)) before octets)
    → IfSome result (λ part. TookMost number part before octets old new)
most-taken None number at before octets old mid new number_is same part = tt
most-taken (Some one) number at before octets old mid new number_is same part =
    record {
      is_taken = subst (λ n. IsTaken one (inbox_of (live_at n old.peer.lives)) (inbox_of (live_at n new.peer.lives)) before octets) number_is
          (subst (λ (x : Held). IsTaken one (inbox_of (live_at at x.peer.lives)) (inbox_of (live_at at new.peer.lives)) before octets) same part);
    }

-- while a session stands for a log no message of channel zero waits
pub none-waits : (session : Held) (log : List Moment) → StandsOn session log → zero_waits session.peer ≡ false
none-waits session log s = ap (λ w. not (is_over session.peer) && is_some w) s.stands.stands.hears.none ∙ by (is_over session.peer)
  where
    by : (b : Bool) → (not b && false) ≡ false
    by true = refl
    by false = refl
