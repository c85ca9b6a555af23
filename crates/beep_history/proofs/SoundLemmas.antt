-- What holds of the requests of one side, and of the replies to them, where no rule of the exchange was broken.
use Rattle.std.proofs.Common.{◌≡◌, ℕ, zero, suc, ◌+◌, ◌-◌, ◌<◌, ◌≤◌, ◌==◌, nat_lt, nat_le, Bool, true, false, not, ◌&&◌, ◌||◌, if◌then◌else◌, List, [], ◌∷◌, length, take, map, Option, Some, None, refl, sym, ap, ◌∙◌, arith, subst, ⊎_elim}
use Rattle.std.specs.List.{list_any, find}
use Rattle.std.specs.Option.{option_map_or, is_none}
use Rattle.std.proofs.lemmas.Bool.{ltb-false, le-ltb, leb-false, cases_lt, not-false}
use Rattle.beep_frame.specs.declared.head.Head.{Head}
use Rattle.beep_frame.specs.declared.kind.Kind.{Kind}
use Rattle.beep_history.specs.declared.journal.Side.{Side}
use Rattle.beep_history.specs.declared.limits.TheConstants.{MAX_REQUESTS, MAX_ANSWERS}
use Rattle.beep_frame.specs.Frame.{is_msg, is_nul, is_reply, same_kind}
use Rattle.beep_history.specs.Journal.{Item, began, passed, told, other}
use Rattle.beep_history.specs.Marks.{previous, Request, begins_request, requests, latest, is_whole, reply, is_answered, waiting, unfinished, begins_answer}
use Rattle.beep_history.specs.Broken.{under_way}
use Rattle.beep_history.proofs.AnswersLemmas.{has}
use Rattle.beep_history.proofs.ListsLemmas.{filter-agree, find-take, IsNumbered, find-below, filter-newest, earlier-waits}
use Rattle.beep_history.proofs.KeptLemmas.{KeptReply, so_far, after-true, or-left, or-right}

-- each frame is of this kind
abbrev pub IsAlike : Kind → List Head → Type 0
IsAlike kind [] = Unit {0}
IsAlike kind (frame ∷ frames) = (same_kind frame.kind kind ≡ true) × IsAlike kind frames

-- the frames are of one kind
abbrev pub IsUniform : List Head → Type 0
IsUniform [] = Unit {0}
IsUniform (frame ∷ frames) = IsAlike frame.kind frames

-- each of the first numbers is apart from those after it among them
abbrev pub IsApartFirst : ℕ → List ℕ → Type 0
IsApartFirst zero numbers = Unit {0}
IsApartFirst (suc w) [] = Unit {0}
IsApartFirst (suc w) (n ∷ numbers) = (has n (take w numbers) ≡ false) × IsApartFirst w numbers

-- the frame that passed last belongs to a request and was not complete
abbrev pub unfinished_request : Option Head → Bool
unfinished_request before = option_map_or (λ head. is_msg head.kind && head.more) before false

-- the newest request of a side has not wholly passed, by the frame under way and the one before
abbrev pub is_open : Option Head → Option Head → Bool
is_open under before = option_map_or (λ head. is_msg head.kind) under false || unfinished_request before

-- the numbers of the requests of a side, the latest first
abbrev pub numbers : Side → List Item → List ℕ
numbers side past = map (λ (request : Request). request.number) (requests side past)

-- a reply under way names the oldest request that waits, and fits what its reply has so far
pub record IsDue (asker : Side) (oldest : ℕ) (past : List Item) (head : Head) : Type 0 where
  pub request : Request
  pub found : latest asker head.msgno past ≡ Some request
  pub at : request.position ≡ oldest
  pub waits : oldest < length (requests asker past)
  pub whole : is_whole asker oldest past ≡ true
  pub same : is_nul head.kind ≡ false → IsAlike head.kind (reply asker oldest past)
  pub room : begins_answer (reply asker oldest past) head ≡ true → length (unfinished (reply asker oldest past)) < MAX_ANSWERS
  pub alone : is_nul head.kind ≡ true → head.more ≡ false

-- the requests before the oldest are answered, and those from it on wait, with no reply but to the oldest
pub record Sound (side : Side) (past : List Item) : Type 0 where
  pub oldest : ℕ
  pub within : oldest ≤ length (requests side past)
  pub few : length (requests side past) ≤ oldest + MAX_REQUESTS
  pub answered : (p : ℕ) → is_answered side p past ≡ nat_lt p oldest
  pub later : (p : ℕ) → oldest < p → reply side p past ≡ []
  pub uniform : IsUniform (reply side oldest past)
  pub few_answers : length (unfinished (reply side oldest past)) ≤ MAX_ANSWERS
  pub whole : (p : ℕ) → is_whole side p past ≡ nat_lt (p + (if is_open (under_way side past) (previous side past) then 1 else 0)) (length (requests side past))
  pub quiet : (head : Head) → under_way side past ≡ Some head → is_msg head.kind ≡ false → unfinished_request (previous side past) ≡ false
  pub apart : IsApartFirst (length (requests side past) - oldest) (numbers side past)
  pub due : (head : Head) → under_way (other side) past ≡ Some head → is_reply head.kind ≡ true → IsDue side oldest past head

-- ---- requests

numbered-step : (b : Bool) (number : ℕ) (rs : List Request) → IsNumbered rs
    → IsNumbered (if b then record { position = length rs; number = number } ∷ rs else rs)
numbered-step true number rs numbered = (refl, numbered)
numbered-step false number rs numbered = numbered

pub requests-numbered : (side : Side) (past : List Item) → IsNumbered (requests side past)
requests-numbered side [] = tt
requests-numbered Side.Received (began Side.Received head ∷ past) = numbered-step (begins_request Side.Received past head) head.msgno _ (requests-numbered Side.Received past)
requests-numbered Side.Received (began Side.Sent head ∷ past) = requests-numbered Side.Received past
requests-numbered Side.Sent (began Side.Received head ∷ past) = requests-numbered Side.Sent past
requests-numbered Side.Sent (began Side.Sent head ∷ past) = numbered-step (begins_request Side.Sent past head) head.msgno _ (requests-numbered Side.Sent past)
requests-numbered side (passed by head payload ∷ past) = requests-numbered side past
requests-numbered side (told by seq ∷ past) = requests-numbered side past

-- the requests that wait are the newest
pub waiting-newest : (side : Side) (past : List Item) (oldest : ℕ) → ((p : ℕ) → is_answered side p past ≡ nat_lt p oldest)
    → waiting side past ≡ take (length (requests side past) - oldest) (requests side past)
waiting-newest side past oldest answered =
    filter-agree (λ (r : Request). not (is_answered side r.position past)) (λ (r : Request). not (nat_lt r.position oldest)) (requests side past)
    (λ r. ap not (answered r.position))
    ∙ filter-newest oldest (requests side past) (requests-numbered side past)

-- ---- a header that is a reply

pub some-of : {A : Type 0} (o : Option A) → is_none o ≡ false → (x : A) × (o ≡ Some x)
some-of None e = cc
some-of (Some x) e = (x, refl)

pub at-some : {A B : Type 0} (f : A → B) (o : Option A) (x : A) (d : B) → o ≡ Some x → option_map_or f o d ≡ f x
at-some f o x d e = rw e

alike-of : (kind : Kind) (frames : List Head) → list_any (λ frame. not (same_kind frame.kind kind)) frames ≡ false → IsAlike kind frames
alike-of kind [] none = tt
alike-of kind (frame ∷ frames) none =
    (not-false _ (or-left _ _ none), alike-of kind frames (or-right _ _ none))

true≢false' : (b : Bool) → b ≡ true → b ≡ false → ⊥
true≢false' b t f = let e : true ≡ false = sym t ∙ f in cc

-- the request that a reply names is the oldest that waits
due-place : (asker : Side) (past : List Item) (head : Head) (oldest : ℕ) (r : Request) → KeptReply asker past head
    → ((p : ℕ) → is_answered asker p past ≡ nat_lt p oldest) → latest asker head.msgno past ≡ Some r
    → (r.position ≡ oldest) × (oldest < length (requests asker past))
due-place asker past head oldest r k answered found =
    let fresh : is_answered asker r.position past ≡ false =
    sym (at-some (λ (x : Request). is_answered asker x.position past) (latest asker head.msgno past) r false found) ∙ k.fresh in
    let lower : oldest ≤ r.position = ltb-false _ _ (sym (answered r.position) ∙ fresh) in
    let below : r.position < length (requests asker past) =
    find-below (λ (x : Request). x.number == head.msgno) (requests asker past) r (requests-numbered asker past) found in
    let none : list_any (λ (e : Request). nat_lt e.position r.position) (waiting asker past) ≡ false =
    sym (at-some (λ (x : Request). list_any (λ earlier. nat_lt earlier.position x.position) (waiting asker past)) (latest asker head.msgno past) r false found) ∙ k.turn in
    let newest = waiting-newest asker past oldest answered in
    let upper : r.position ≤ oldest = ⊎_elim
    (λ (later : oldest < r.position). absurd (true≢false' _
    (earlier-waits oldest r.position (requests asker past) (requests-numbered asker past) (omega arith) later)
    (subst (λ (rs : List Request). list_any (λ (e : Request). nat_lt e.position r.position) rs ≡ false) newest none)))
    (λ (h : r.position ≤ oldest). h) (cases_lt oldest r.position) in
    (omega arith, omega arith)

due-room : (frames : List Head) (head : Head) → (begins_answer frames head && nat_le MAX_ANSWERS (length (unfinished frames))) ≡ false
    → begins_answer frames head ≡ true → length (unfinished frames) < MAX_ANSWERS
due-room frames head none begins = leb-false _ _ (after-true _ _ begins none)

not-both : (a b : Bool) → a ≡ false → (not a && b) ≡ false → b ≡ false
not-both true b f e = cc
not-both false b f e = e

-- a reply that keeps the rules is due
pub due_of : (asker : Side) (past : List Item) (head : Head) (oldest : ℕ) → KeptReply asker past head
    → ((p : ℕ) → is_answered asker p past ≡ nat_lt p oldest) → IsDue asker oldest past head
due_of asker past head oldest k answered =
    let some = some-of (find (λ (x : Request). x.number == head.msgno) (take MAX_REQUESTS (requests asker past))) k.asked in
    let found : latest asker head.msgno past ≡ Some some.0 = find-take (λ (x : Request). x.number == head.msgno) MAX_REQUESTS (requests asker past) some.0 some.1 in
    let place = due-place asker past head oldest some.0 k answered found in
    let frames : so_far asker head.msgno past ≡ reply asker oldest past =
    at-some (λ (x : Request). reply asker x.position past) (latest asker head.msgno past) some.0 [] found ∙ ap (λ (p : ℕ). reply asker p past) place.0 in
    let waits : is_answered asker some.0.position past ≡ false = answered some.0.position ∙ le-ltb _ _ (omega arith) in
    record {
      request = some.0;
      found = found;
      at = place.0;
      waits = place.1;
      whole = subst (λ (p : ℕ). is_whole asker p past ≡ true) place.0
          (not-false _ (sym (at-some (λ (x : Request). not (is_whole asker x.position past)) (latest asker head.msgno past) some.0 false found) ∙ k.whole));
      same = λ n. alike-of head.kind (reply asker oldest past)
          (subst (λ (p : ℕ). list_any (λ (frame : Head). not (same_kind frame.kind head.kind)) (reply asker p past) ≡ false) place.0
          (not-both _ _ waits
          (sym (at-some (λ (x : Request). not (is_answered asker x.position past) && list_any (λ (frame : Head). not (same_kind frame.kind head.kind)) (reply asker x.position past))
          (latest asker head.msgno past) some.0 false found) ∙ k.same n)));
      room = due-room (reply asker oldest past) head (subst (λ (f : List Head). (begins_answer f head && nat_le MAX_ANSWERS (length (unfinished f))) ≡ false) frames k.room);
      alone = k.alone;
    }
