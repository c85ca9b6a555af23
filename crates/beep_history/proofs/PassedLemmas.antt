-- What holds of the requests and replies of a side stays so as a frame passes, and so of each history without a broken rule.
use Rattle.std.proofs.Common.{◌≡◌, ℕ, zero, suc, ◌+◌, ◌-◌, ◌<◌, ◌≤◌, ◌==◌, nat_lt, Bool, true, false, not, ◌&&◌, ◌||◌, if◌then◌else◌, List, [], ◌∷◌, length, take, Some, None, refl, sym, ◌∙◌, arith, ⊎_elim}
use Rattle.std.specs.List.{list_any}
use Rattle.std.proofs.lemmas.Bool.{lt-ltb, le-ltb, cases_Bool}
use Rattle.std.proofs.lemmas.Bool.Decides.{nat_tests}
use Rattle.beep_frame.specs.declared.head.Head.{Head}
use Rattle.beep_frame.specs.declared.kind.Kind.{Kind}
use Rattle.beep_frame.specs.declared.seq.Seq.{Seq}
use Rattle.beep_history.specs.declared.journal.Side.{Side}
use Rattle.beep_history.specs.declared.limits.TheConstants.{MAX_ANSWERS}
use Rattle.beep_frame.specs.Frame.{is_msg, is_ans, is_nul, is_reply}
use Rattle.beep_history.specs.Journal.{Item, began, passed, told, other}
use Rattle.beep_history.specs.Marks.{frames, previous, requests, is_whole, reply, ends_reply, unfinished, begins_answer}
use Rattle.beep_history.specs.Broken.{under_way, KeepsExchangeRules}
use Rattle.beep_history.proofs.AnswersLemmas.{has, after_frame, length_after, IsApart-unfinished}
use Rattle.beep_history.proofs.KeptLemmas.{kept}
use Rattle.beep_history.proofs.StepsLemmas.{frames-passed-mine, frames-passed-theirs, under_way-passed-mine, under_way-passed-theirs, reply-passed-mine, reply-passed-theirs, whole-passed-mine, whole-passed-theirs, under_way-other-passed}
use Rattle.beep_history.proofs.SoundLemmas.{IsApartFirst, unfinished_request, numbers, IsDue, Sound}
use Rattle.beep_history.proofs.UnbrokenLemmas.{began-mine, began-theirs}

-- ---- a frame of this side

whole-after : (m more u : Bool) (p n : ℕ) (w : Bool) → (m ≡ false → u ≡ false) → w ≡ nat_lt (p + (if m || u then 1 else 0)) n
    → ((m && not more && n == p + 1) || w) ≡ nat_lt (p + (if m && more then 1 else 0)) n
whole-after true true u p n w quiet e = e
whole-after true false u p n w quiet e = grind (arith, nat_tests)
whole-after false more u p n w quiet e = let q : u ≡ false = quiet refl in rw q at e

or-true : (a b : Bool) → b ≡ true → (a || b) ≡ true
or-true true b e = refl
or-true false b e = e

pub passed-mine : (side : Side) (past : List Item) (head : Head) (payload : List ℕ) → under_way side past ≡ Some head → Sound side past
    → Sound side (passed side head payload ∷ past)
passed-mine side past head payload under s = record {
  oldest = s.oldest;
  within = s.within;
  few = s.few;
  answered = λ p. rw (reply-passed-mine head payload past side p) (s.answered p);
  later = λ p h. rw (reply-passed-mine head payload past side p) (s.later p h);
  uniform = rw (reply-passed-mine head payload past side s.oldest) s.uniform;
  few_answers = rw (reply-passed-mine head payload past side s.oldest) s.few_answers;
  whole = λ p. rw (whole-passed-mine head payload past side p, under_way-passed-mine head payload past side, frames-passed-mine head payload past side)
      (whole-after (is_msg head.kind) head.more (unfinished_request (previous side past)) p (length (requests side past)) (is_whole side p past)
      (s.quiet head under) (rw under at (s.whole p)));
  quiet = λ g e m. let none : None ≡ Some g = sym (under_way-passed-mine head payload past side) ∙ e in cc;
  apart = s.apart;
  due = λ g e r.
      let d = s.due g (sym (under_way-other-passed head payload past side) ∙ e) r in
      record {
        request = d.request;
        found = d.found;
        at = d.at;
        waits = d.waits;
        whole = rw (whole-passed-mine head payload past side s.oldest) (or-true _ _ d.whole);
        same = λ n. rw (reply-passed-mine head payload past side s.oldest) (d.same n);
        room = rw (reply-passed-mine head payload past side s.oldest) d.room;
        alone = d.alone;
      };
}

-- ---- a frame of the other side

-- where the frame is no reply
passed-theirs-request : (side : Side) (past : List Item) (head : Head) (payload : List ℕ) → is_reply head.kind ≡ false → Sound side past
    → Sound side (passed (other side) head payload ∷ past)
passed-theirs-request side past head payload request s =
    let same : (p : ℕ) → reply side p (passed (other side) head payload ∷ past) ≡ reply side p past =
    λ p. rw (reply-passed-theirs head payload past side p, request) in
    record {
      oldest = s.oldest;
      within = s.within;
      few = s.few;
      answered = λ p. rw (same p) (s.answered p);
      later = λ p h. rw (same p) (s.later p h);
      uniform = rw (same s.oldest) s.uniform;
      few_answers = rw (same s.oldest) s.few_answers;
      whole = λ p. rw (whole-passed-theirs head payload past side p, under_way-passed-theirs head payload past side, frames-passed-theirs head payload past side) (s.whole p);
      quiet = λ g e m. rw (frames-passed-theirs head payload past side) (s.quiet g (sym (under_way-passed-theirs head payload past side) ∙ e) m);
      apart = s.apart;
      due = λ g e r. let none : None ≡ Some g = sym (under_way-passed-mine head payload past (other side)) ∙ e in cc;
    }

-- the frames of the replies after a frame of the reply to the oldest
pub reply-grown : (side : Side) (past : List Item) (head : Head) (payload : List ℕ) (oldest : ℕ) → is_reply head.kind ≡ true → IsDue side oldest past head
    → (p : ℕ) → reply side p (passed (other side) head payload ∷ past) ≡ (if oldest == p then head ∷ reply side p past else reply side p past)
reply-grown side past head payload oldest r d p = rw (reply-passed-theirs head payload past side p, r, d.found, d.at)

pub answered-ended : (oldest p : ℕ) (head : Head) (frames : List Head) (test : Bool) → (oldest == p) ≡ test → ends_reply head ≡ true
    → list_any ends_reply frames ≡ nat_lt p oldest
    → list_any ends_reply (if test then head ∷ frames else frames) ≡ nat_lt p (suc oldest)
answered-ended oldest p head frames true e ends before = rw ends (sym (lt-ltb _ _ (grind (arith, nat_tests))))
answered-ended oldest p head frames false e ends before = rw before (grind (arith, nat_tests))

pub answered-on : (oldest p : ℕ) (head : Head) (frames : List Head) (test : Bool) → (oldest == p) ≡ test → ends_reply head ≡ false
    → list_any ends_reply frames ≡ nat_lt p oldest
    → list_any ends_reply (if test then head ∷ frames else frames) ≡ nat_lt p oldest
answered-on oldest p head frames true e ends before = rw ends before
answered-on oldest p head frames false e ends before = before

pub other-place : (oldest p : ℕ) (head : Head) (frames : List Head) → oldest < p → frames ≡ [] → (if oldest == p then head ∷ frames else frames) ≡ []
other-place oldest p head frames later none = let e : (oldest == p) ≡ false = grind (arith, nat_tests) in rw e none

or-less : (a b c : Bool) → (a || b) ≡ false → (b ≡ false → c ≡ false) → (a || c) ≡ false
or-less true b c e less = cc
or-less false b c e less = less e

has-less : (n w : ℕ) (ns : List ℕ) → has n (take (suc w) ns) ≡ false → has n (take w ns) ≡ false
has-less n zero ns none = refl
has-less n (suc w) [] none = refl
has-less n (suc w) (x ∷ ns) none = or-less _ _ _ none (has-less n w ns)

apart-less : (w : ℕ) (ns : List ℕ) → IsApartFirst (suc w) ns → IsApartFirst w ns
apart-less zero ns apart = tt
apart-less (suc w) [] apart = tt
apart-less (suc w) (n ∷ ns) apart = (has-less n w ns apart.0, apart-less w ns apart.1)

passed-theirs-end : (side : Side) (past : List Item) (head : Head) (payload : List ℕ) → is_reply head.kind ≡ true → ends_reply head ≡ true
    → (s : Sound side past) → IsDue side s.oldest past head → Sound side (passed (other side) head payload ∷ past)
passed-theirs-end side past head payload r ends s d =
    let grown = reply-grown side past head payload s.oldest r d in
    let gone : reply side (suc s.oldest) (passed (other side) head payload ∷ past) ≡ [] =
    grown (suc s.oldest) ∙ other-place s.oldest (suc s.oldest) head _ (omega arith) (s.later (suc s.oldest) (omega arith)) in
    record {
      oldest = suc s.oldest;
      within = d.waits;
      few = omega (arith, s.few);
      answered = λ p. rw (grown p) (answered-ended s.oldest p head (reply side p past) (s.oldest == p) refl ends (s.answered p));
      later = λ p h. grown p ∙ other-place s.oldest p head _ (omega arith) (s.later p (omega arith));
      uniform = rw gone tt;
      few_answers = rw gone (omega arith);
      whole = λ p. rw (whole-passed-theirs head payload past side p, under_way-passed-theirs head payload past side, frames-passed-theirs head payload past side) (s.whole p);
      quiet = λ g e m. rw (frames-passed-theirs head payload past side) (s.quiet g (sym (under_way-passed-theirs head payload past side) ∙ e) m);
      apart = apart-fewer (length (requests side past)) s.oldest (numbers side past) d.waits s.apart;
      due = λ g e h. let none : None ≡ Some g = sym (under_way-passed-mine head payload past (other side)) ∙ e in cc;
    }
  where
    apart-fewer : (n oldest : ℕ) (ns : List ℕ) → oldest < n → IsApartFirst (n - oldest) ns → IsApartFirst (n - suc oldest) ns
    apart-fewer n oldest ns waits apart =
        let e : n - oldest ≡ suc (n - suc oldest) = omega arith in apart-less (n - suc oldest) ns (rw e at apart)

bounded : (after before : ℕ) (more had : Bool) → after + (if had && not more then 1 else 0) ≡ before + (if more && not had then 1 else 0)
    → before ≤ MAX_ANSWERS → (not had ≡ true → before < MAX_ANSWERS) → after ≤ MAX_ANSWERS
bounded after before more true e few room = ⊎_elim (λ (h : more ≡ true). bounded-same h) (λ (h : more ≡ false). bounded-less h) (cases_Bool more)
  where
    bounded-same : more ≡ true → after ≤ MAX_ANSWERS
    bounded-same h = let g = rw h at e in omega (arith, g)

    bounded-less : more ≡ false → after ≤ MAX_ANSWERS
    bounded-less h = let g = rw h at e in omega (arith, g)
bounded after before true false e few room = let g : before < MAX_ANSWERS = room refl in omega (arith, g, e)
bounded after before false false e few room = omega (arith, few, e)

few-after-by : (head : Head) (frames : List Head) (b : Bool) → is_ans head.kind ≡ b → length (unfinished frames) ≤ MAX_ANSWERS
    → ((b && not (has head.ansno (unfinished frames))) ≡ true → length (unfinished frames) < MAX_ANSWERS)
    → length (unfinished (head ∷ frames)) ≤ MAX_ANSWERS
few-after-by head frames true answer few room =
    rw answer (bounded (length (after_frame head.more head.ansno (unfinished frames))) (length (unfinished frames)) head.more (has head.ansno (unfinished frames))
    (length_after head.ansno head.more (unfinished frames) (IsApart-unfinished frames)) few room)
few-after-by head frames false answer few room = rw answer few

few-after : (head : Head) (frames : List Head) → length (unfinished frames) ≤ MAX_ANSWERS
    → (begins_answer frames head ≡ true → length (unfinished frames) < MAX_ANSWERS) → length (unfinished (head ∷ frames)) ≤ MAX_ANSWERS
few-after head frames few room = few-after-by head frames (is_ans head.kind) refl few room

nul-not-ans : (kind : Kind) → is_nul kind ≡ true → is_ans kind ≡ false
nul-not-ans Kind.Msg n = refl
nul-not-ans Kind.Rpy n = refl
nul-not-ans Kind.Err n = refl
nul-not-ans Kind.Ans n = cc
nul-not-ans Kind.Nul n = refl

not-nul-by : (head : Head) (b : Bool) → is_nul head.kind ≡ b → (b ≡ true → head.more ≡ false) → ends_reply head ≡ false → b ≡ false
not-nul-by head true nul alone on =
    let complete : head.more ≡ false = alone refl in
    let e : true ≡ false = rw (complete, nul-not-ans head.kind nul) at on in cc
not-nul-by head false nul alone on = refl

passed-theirs-on : (side : Side) (past : List Item) (head : Head) (payload : List ℕ) → is_reply head.kind ≡ true → ends_reply head ≡ false
    → (s : Sound side past) → IsDue side s.oldest past head → Sound side (passed (other side) head payload ∷ past)
passed-theirs-on side past head payload r on s d =
    let grown = reply-grown side past head payload s.oldest r d in
    let longer : reply side s.oldest (passed (other side) head payload ∷ past) ≡ head ∷ reply side s.oldest past =
    grown s.oldest ∙ here s.oldest _ _ in
    let alive : is_nul head.kind ≡ false = not-nul-by head (is_nul head.kind) refl d.alone on in
    record {
      oldest = s.oldest;
      within = s.within;
      few = s.few;
      answered = λ p. rw (grown p) (answered-on s.oldest p head (reply side p past) (s.oldest == p) refl on (s.answered p));
      later = λ p h. grown p ∙ other-place s.oldest p head _ h (s.later p h);
      uniform = rw longer (d.same alive);
      few_answers = rw longer (few-after head (reply side s.oldest past) s.few_answers d.room);
      whole = λ p. rw (whole-passed-theirs head payload past side p, under_way-passed-theirs head payload past side, frames-passed-theirs head payload past side) (s.whole p);
      quiet = λ g e m. rw (frames-passed-theirs head payload past side) (s.quiet g (sym (under_way-passed-theirs head payload past side) ∙ e) m);
      apart = s.apart;
      due = λ g e h. let none : None ≡ Some g = sym (under_way-passed-mine head payload past (other side)) ∙ e in cc;
    }
  where
    here : (n : ℕ) (a b : List Head) → (if n == n then a else b) ≡ a
    here n a b = grind (arith, nat_tests)

pub passed-theirs : (side : Side) (past : List Item) (head : Head) (payload : List ℕ) → under_way (other side) past ≡ Some head → Sound side past
    → Sound side (passed (other side) head payload ∷ past)
passed-theirs side past head payload under s = by-kind (is_reply head.kind) refl (ends_reply head) refl
  where
    by-kind : (b : Bool) → is_reply head.kind ≡ b → (c : Bool) → ends_reply head ≡ c → Sound side (passed (other side) head payload ∷ past)
    by-kind false r c e = passed-theirs-request side past head payload r s
    by-kind true r true e = passed-theirs-end side past head payload r e s (s.due head under r)
    by-kind true r false e = passed-theirs-on side past head payload r e s (s.due head under r)

told-step : (side by : Side) (past : List Item) (seq : Seq) → Sound side past → Sound side (told by seq ∷ past)
told-step side by past seq s = record {
  oldest = s.oldest;
  within = s.within;
  few = s.few;
  answered = s.answered;
  later = s.later;
  uniform = s.uniform;
  few_answers = s.few_answers;
  whole = s.whole;
  quiet = s.quiet;
  apart = s.apart;
  due = λ g e r. let d = s.due g e r in record {
    request = d.request;
    found = d.found;
    at = d.at;
    waits = d.waits;
    whole = d.whole;
    same = d.same;
    room = d.room;
    alone = d.alone;
  };
}

-- each history without a broken rule is sound for each side
pub sound : (side : Side) (past : List Item) → KeepsExchangeRules past → Sound side past
sound side [] unbroken = record {
  oldest = 0;
  within = omega arith;
  few = omega arith;
  answered = λ p. sym (le-ltb _ _ (omega arith));
  later = λ p h. refl;
  uniform = tt;
  few_answers = omega arith;
  whole = λ p. sym (le-ltb _ _ (omega arith));
  quiet = λ g e m. refl;
  apart = tt;
  due = λ g e r. cc;
}
sound Side.Received (began Side.Received head ∷ past) u = began-mine Side.Received past head u.0 (kept _ _ _ u.1) (sound Side.Received past u.2)
sound Side.Received (began Side.Sent head ∷ past) u = began-theirs Side.Received past head (kept _ _ _ u.1) (sound Side.Received past u.2)
sound Side.Sent (began Side.Sent head ∷ past) u = began-mine Side.Sent past head u.0 (kept _ _ _ u.1) (sound Side.Sent past u.2)
sound Side.Sent (began Side.Received head ∷ past) u = began-theirs Side.Sent past head (kept _ _ _ u.1) (sound Side.Sent past u.2)
sound Side.Received (passed Side.Received head payload ∷ past) u = passed-mine Side.Received past head payload u.0 (sound Side.Received past u.2)
sound Side.Received (passed Side.Sent head payload ∷ past) u = passed-theirs Side.Received past head payload u.0 (sound Side.Received past u.2)
sound Side.Sent (passed Side.Sent head payload ∷ past) u = passed-mine Side.Sent past head payload u.0 (sound Side.Sent past u.2)
sound Side.Sent (passed Side.Received head payload ∷ past) u = passed-theirs Side.Sent past head payload u.0 (sound Side.Sent past u.2)
sound side (told by seq ∷ past) u = told-step side by past seq (sound side past u)
