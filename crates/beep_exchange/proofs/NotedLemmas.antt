-- What a history leaves of each direction, item by item.
use Rattle.std.proofs.Common.{◌≡◌, ℕ, suc, ◌+◌, ◌-◌, ◌%◌, ◌^◌, ◌<◌, ◌==◌, min, nat_lt, Bool, true, false, cond, not, ◌&&◌, ◌||◌, if◌then◌else◌, List, [], ◌∷◌, ◌++◌, length, take, map, Option, Some, None, option_map, refl, sym, ap, ◌∙◌, arith, length-take}
use Rattle.std.specs.List.{list_any, filter}
use Rattle.std.specs.Option.{option_map_or}
use Rattle.std.proofs.lemmas.Bool.{le-ltb, lt-ltb, eq-eqb, eqb-true}
use Rattle.std.proofs.lemmas.Bool.Decides.{nat_tests}
use Rattle.std.proofs.lemmas.List.{length-map, take-take}
use Rattle.beep_frame.specs.declared.head.Head.{Head}
use Rattle.beep_frame.specs.declared.kind.Kind.{Kind}
use Rattle.beep_history.specs.declared.journal.Side.{Side}
use Rattle.beep_history.specs.declared.limits.TheConstants.{MAX_ANSWERS}
use Rattle.beep_frame.specs.Frame.{is_ans, is_reply, same_kind}
use Rattle.beep_history.specs.Journal.{Item, began, passed, other}
use Rattle.beep_history.specs.Marks.{first, frames, goes_on, begun_octets, Request, begins_request, requests, reply, ends_reply, is_answered, waiting, unfinished, answer_octets, with_number, without, begins_answer}
use Rattle.beep_history.specs.Broken.{under_way}
use Rattle.beep_history.proofs.AnswersLemmas.{has}
use Rattle.beep_history.proofs.SoundLemmas.{IsDue, Sound, waiting-newest}
use Rattle.beep_history.proofs.ListsLemmas.{filter-agree}
use Rattle.beep_history.proofs.StepsLemmas.{under_way-began-mine, requests-began-mine, under_way-passed-theirs, frames-passed-theirs, reply-passed-theirs}
use Rattle.beep_history.proofs.UnbrokenLemmas.{min-less}
use Rattle.beep_history.proofs.PassedLemmas.{reply-grown, answered-ended, answered-on, other-place}
use Rattle.beep_exchange.specs.declared.answer.Answer.{Answer}
use Rattle.beep_exchange.specs.Kept.{Kept, added, begun_in, began_kept, passed_kept, replied_kept, grown, continued, completed}
use Rattle.beep_exchange.specs.Exchange.{current, answer_of, octets_so_far, kept_of}
use Rattle.beep_exchange.proofs.NumbersLemmas.{num}
use Rattle.beep_exchange.proofs.AskerLemmas.{count-waiting, current-is}
use Rattle.beep_exchange.proofs.RowsLemmas.{has-answers, octets-none}

-- ---- what is kept, part by part

build : Option Head → Option Head → ℕ → List ℕ → ℕ → ℕ → Option Kind → List Answer → Kept
build under before octets numbers count w kind answers = record {
  under_way = under;
  before = before;
  octets = octets;
  numbers = numbers;
  count = count;
  waiting = w;
  kind = kind;
  answers = answers;
}

build-eq : (a a' b b' : Option Head) (o o' : ℕ) (c c' : List ℕ) (n n' d d' : ℕ) (e e' : Option Kind) (f f' : List Answer)
    → a ≡ a' → b ≡ b' → o ≡ o' → c ≡ c' → n ≡ n' → d ≡ d' → e ≡ e' → f ≡ f' → build a b o c n d e f ≡ build a' b' o' c' n' d' e' f'
build-eq a a' b b' o o' c c' n n' d d' e e' f f' p q v r w s t u = rw (p, q, v, r, w, s, t, u)

-- two are one where each part is
kept-eq : (x y : Kept) → x.under_way ≡ y.under_way → x.before ≡ y.before → x.octets ≡ y.octets → x.numbers ≡ y.numbers → x.count ≡ y.count
    → x.waiting ≡ y.waiting → x.kind ≡ y.kind → x.answers ≡ y.answers → x ≡ y
unfolding build
kept-eq x y p q v r w s t u =
    build-eq x.under_way y.under_way x.before y.before x.octets y.octets x.numbers y.numbers x.count y.count x.waiting y.waiting
    x.kind y.kind x.answers y.answers p q v r w s t u

kind_of : List Head → Option Kind
kind_of frames = option_map (λ (frame : Head). frame.kind) (first frames)

-- ---- a header

take-again : (k n : ℕ) (ns : List ℕ) → take (suc k) (n ∷ take (suc k) ns) ≡ take (suc k) (n ∷ ns)
take-again k n ns = ap (λ (xs : List ℕ). n ∷ xs) (take-take k (suc k) ns (omega arith))

began-new : (side : Side) (past : List Item) (head : Head) → begins_request side past head ≡ true → Sound side past
    → kept_of side (began side head ∷ past) ≡ began_kept (kept_of side past) head
began-new side past head e s =
    let reqs : requests side (began side head ∷ past) ≡ record { position = length (requests side past); number = head.msgno } ∷ requests side past =
    rw (requests-began-mine head past side, e) in
    let waits : is_answered side (length (requests side past)) past ≡ false = s.answered (length (requests side past)) ∙ le-ltb _ _ s.within in
    let longer : length (waiting side (began side head ∷ past)) ≡ suc (length (waiting side past)) = rw (reqs, waits) in
    let more : length (requests side (began side head ∷ past)) ≡ suc (length (requests side past)) = rw reqs in
    let place : length (requests side (began side head ∷ past)) - length (waiting side (began side head ∷ past))
    ≡ length (requests side past) - length (waiting side past) = omega (arith, longer, more) in
    let same : current side (began side head ∷ past) ≡ current side past = ap (λ (p : ℕ). reply side p past) place in
    kept-eq (kept_of side (began side head ∷ past)) (began_kept (kept_of side past) head)
    (under_way-began-mine head past side) refl refl
    (rw (reqs, e) (sym (take-again 1023 head.msgno (num (requests side past)))))
    (ap (λ (n : ℕ). n % 2 ^ 64) more ∙ rw e (omega arith))
    (longer ∙ rw e (omega arith))
    (ap (λ (frames : List Head). option_map (λ (frame : Head). frame.kind) (first frames)) same)
    (ap (λ (frames : List Head). map (answer_of frames) (unfinished frames)) same)

began-on : (side : Side) (past : List Item) (head : Head) → begins_request side past head ≡ false
    → kept_of side (began side head ∷ past) ≡ began_kept (kept_of side past) head
began-on side past head e =
    let reqs : requests side (began side head ∷ past) ≡ requests side past = rw (requests-began-mine head past side, e) in
    let fewer : length (waiting side (began side head ∷ past)) ≡ length (waiting side past) = rw reqs in
    let more : length (requests side (began side head ∷ past)) ≡ length (requests side past) = rw reqs in
    let place : length (requests side (began side head ∷ past)) - length (waiting side (began side head ∷ past))
    ≡ length (requests side past) - length (waiting side past) = omega (arith, fewer, more) in
    let same : current side (began side head ∷ past) ≡ current side past = ap (λ (p : ℕ). reply side p past) place in
    kept-eq (kept_of side (began side head ∷ past)) (began_kept (kept_of side past) head)
    (under_way-began-mine head past side) refl refl (rw (reqs, e)) (rw (reqs, e)) (rw (reqs, e))
    (ap (λ (frames : List Head). option_map (λ (frame : Head). frame.kind) (first frames)) same)
    (ap (λ (frames : List Head). map (answer_of frames) (unfinished frames)) same)

-- a header of a side, in what is kept of it
pub began-kept : (side : Side) (past : List Item) (head : Head) → Sound side past
    → kept_of side (began side head ∷ past) ≡ began_kept (kept_of side past) head
began-kept side past head s = began-by (begins_request side past head) refl
  where
    began-by : (b : Bool) → begins_request side past head ≡ b → kept_of side (began side head ∷ past) ≡ began_kept (kept_of side past) head
    began-by true e = began-new side past head e s
    began-by false e = began-on side past head e

-- and of the other
pub began-other : (side : Side) (past : List Item) (head : Head) → kept_of (other side) (began side head ∷ past) ≡ kept_of (other side) past
began-other Side.Received past head = refl
began-other Side.Sent past head = refl

-- ---- the octets of a message

same-octets : (a b : Head) → a.kind ≡ b.kind → a.msgno ≡ b.msgno → (fs : List Head) → begun_octets a fs ≡ begun_octets b fs
same-octets a b k n [] = refl
same-octets a b k n (f ∷ fs) = rw (k, n, same-octets a b k n fs) refl

same-kind : (a b : Kind) → same_kind a b ≡ true → a ≡ b
same-kind a b e = grind (arith, nat_tests)

begun-step : (kind : Bool) (before head : Head) (more number : Bool) (fs : List Head) → (kind ≡ true → before.kind ≡ head.kind)
    → (number ≡ true → before.msgno ≡ head.msgno) → (cap : ℕ)
    → min (head.size + (if kind && (more && number) then before.size + begun_octets head fs else 0)) cap
    ≡ min ((if kind && (more && number) then min (before.size + begun_octets before fs) cap else 0) + head.size) cap
begun-step true before head true true fs k n cap =
    let same = same-octets before head (k refl) (n refl) fs in omega (arith, same)
begun-step true before head true false fs k n cap = omega arith
begun-step true before head false number fs k n cap = omega arith
begun-step false before head more number fs k n cap = omega arith

-- the octets of a message with those of the frame that passes
pub octets-passed : (head : Head) (fs : List Head) (cap : ℕ)
    → min (octets_so_far (head ∷ fs)) cap
    ≡ min ((if option_map_or (λ before. same_kind before.kind head.kind && goes_on head before) (first fs) false
    then min (octets_so_far fs) cap else 0) + head.size) cap
octets-passed head [] cap = omega arith
octets-passed head (before ∷ fs) cap =
    begun-step (same_kind before.kind head.kind) before head before.more (before.msgno == head.msgno) fs
    (same-kind before.kind head.kind) (eqb-true before.msgno head.msgno) cap

-- ---- a frame

octets-under : (side : Side) (past : List Item) (head : Head) → under_way side past ≡ Some head
    → min (octets_so_far (head ∷ frames side past)) (2 ^ 32 - 1) ≡ (passed_kept (kept_of side past)).octets
octets-under side past head e =
    octets-passed head (frames side past) (2 ^ 32 - 1)
    ∙ sym (ap (λ (o : Option Head). option_map_or (λ (h : Head). added (begun_in (kept_of side past) h) h.size) o (kept_of side past).octets) e)

-- a frame of a side, in what is kept of it
pub passed-kept : (side : Side) (past : List Item) (head : Head) (payload : List ℕ) → under_way side past ≡ Some head
    → kept_of side (passed side head payload ∷ past) ≡ passed_kept (kept_of side past)
passed-kept Side.Received past head payload e =
    kept-eq _ _ refl (sym e) (octets-under Side.Received past head e) refl refl refl refl refl
passed-kept Side.Sent past head payload e =
    kept-eq _ _ refl (sym e) (octets-under Side.Sent past head e) refl refl refl refl refl

-- an item that changes no reply of a side
replies-same : (side : Side) (past : List Item) (item : Item) → requests side (item ∷ past) ≡ requests side past
    → under_way side (item ∷ past) ≡ under_way side past → frames side (item ∷ past) ≡ frames side past
    → ((p : ℕ) → reply side p (item ∷ past) ≡ reply side p past) → kept_of side (item ∷ past) ≡ kept_of side past
replies-same side past item reqs under before same =
    let waits : waiting side (item ∷ past) ≡ waiting side past =
    filter-agree (λ (r : Request). not (is_answered side r.position (item ∷ past))) (λ (r : Request). not (is_answered side r.position past))
    (requests side (item ∷ past)) (λ r. ap (λ (frames : List Head). not (list_any ends_reply frames)) (same r.position))
    ∙ ap (filter (λ (r : Request). not (is_answered side r.position past))) reqs in
    let fewer : length (waiting side (item ∷ past)) ≡ length (waiting side past) = ap length waits in
    let more : length (requests side (item ∷ past)) ≡ length (requests side past) = ap length reqs in
    let place : length (requests side (item ∷ past)) - length (waiting side (item ∷ past)) ≡ length (requests side past) - length (waiting side past) =
    omega (arith, fewer, more) in
    let frames : current side (item ∷ past) ≡ current side past =
    same (length (requests side (item ∷ past)) - length (waiting side (item ∷ past))) ∙ ap (λ (p : ℕ). reply side p past) place in
    kept-eq (kept_of side (item ∷ past)) (kept_of side past) under (ap first before)
    (ap (λ (fs : List Head). min (octets_so_far fs) (2 ^ 32 - 1)) before) (ap (λ (rs : List Request). take 1024 (num rs)) reqs)
    (ap (λ (rs : List Request). length rs % 2 ^ 64) reqs) (ap length waits)
    (ap (λ (fs : List Head). option_map (λ (frame : Head). frame.kind) (first fs)) frames)
    (ap (λ (fs : List Head). map (answer_of fs) (unfinished fs)) frames)

-- of a request, in what is kept of the other
pub request-other : (asker : Side) (past : List Item) (head : Head) (payload : List ℕ) → is_reply head.kind ≡ false
    → kept_of asker (passed (other asker) head payload ∷ past) ≡ kept_of asker past
request-other asker past head payload e =
    replies-same asker past (passed (other asker) head payload) refl (under_way-passed-theirs head payload past asker)
    (frames-passed-theirs head payload past asker)
    (λ p. rw (reply-passed-theirs head payload past asker p, e))

-- ---- the answers after one more frame

map-agree : (f g : ℕ → Answer) (us : List ℕ) → ((u : ℕ) → f u ≡ g u) → map f us ≡ map g us
map-agree f g [] agree = refl
map-agree f g (u ∷ us) agree = rw (agree u, map-agree f g us agree)

octets-capped : (size before cap : ℕ) → min (size + before) cap ≡ min (min before cap + size) cap
octets-capped size before cap = omega arith

grown-at : (a n size : ℕ) (frames : List Head) (b : Bool) → (a == n) ≡ b
    → record { number = n; octets = min (if b then size + answer_octets n frames else answer_octets n frames) (2 ^ 32 - 1) }
    ≡ grown a size (answer_of frames n)
grown-at a n size frames true e =
    let f : (n == a) ≡ true = grind (arith, nat_tests) in rw (f, octets-capped size (answer_octets n frames) (2 ^ 32 - 1))
grown-at a n size frames false e = let f : (n == a) ≡ false = grind (arith, nat_tests) in rw f

apart-parts : (u a : ℕ) (rest : Bool) → ((u == a) || rest) ≡ false → ((a == u) ≡ false) × (rest ≡ false)
apart-parts u a rest e = (grind (arith, nat_tests), grind (arith, nat_tests))

flip : (u a : ℕ) → (u == a) ≡ false → (a == u) ≡ false
flip u a e = grind (arith, nat_tests)

module _ (head : Head) (frames : List Head) (answer : is_ans head.kind ≡ true) where
  other-answer : (n : ℕ) → (head.ansno == n) ≡ false → answer_of (head ∷ frames) n ≡ answer_of frames n
  other-answer n e = rw (answer, e)

  others-apart : (us : List ℕ) → has head.ansno us ≡ false → map (answer_of (head ∷ frames)) us ≡ map (answer_of frames) us
  others-apart [] none = refl
  others-apart (u ∷ us) none =
      let parts = apart-parts u head.ansno (has head.ansno us) none in
      rw (other-answer u parts.0, others-apart us parts.1)

  grown-all : head.more ≡ true → (us : List ℕ) → map (answer_of (head ∷ frames)) us ≡ map (grown head.ansno head.size) (map (answer_of frames) us)
  grown-all more [] = refl
  grown-all more (u ∷ us) =
      let here : answer_of (head ∷ frames) u ≡ grown head.ansno head.size (answer_of frames u) =
      rw (answer, more) (grown-at head.ansno u head.size frames (head.ansno == u) refl) in
      rw (here, grown-all more us)

  without-step : (u : ℕ) (us : List ℕ) (b : Bool) → (u == head.ansno) ≡ b
      → map (answer_of (head ∷ frames)) (without head.ansno us) ≡ completed head.ansno (map (answer_of frames) us)
      → map (answer_of (head ∷ frames)) (cond (not b) (u ∷ without head.ansno us) (without head.ansno us))
      ≡ cond (not b) (answer_of frames u ∷ completed head.ansno (map (answer_of frames) us)) (completed head.ansno (map (answer_of frames) us))
  without-step u us true e rest = rest
  without-step u us false e rest = rw (other-answer u (flip u head.ansno e), rest)

  without-all : (us : List ℕ) → map (answer_of (head ∷ frames)) (without head.ansno us) ≡ completed head.ansno (map (answer_of frames) us)
  without-all [] = refl
  without-all (u ∷ us) = without-step u us (u == head.ansno) refl (without-all us)

fewer-than : (n : ℕ) → n < MAX_ANSWERS → nat_lt n MAX_ANSWERS ≡ true
fewer-than n h = lt-ltb _ _ h

module _ (head : Head) (frames : List Head) (answer : is_ans head.kind ≡ true) where
  continued-had : head.more ≡ true → has head.ansno (unfinished frames) ≡ true
      → map (answer_of (head ∷ frames)) (with_number head.ansno (unfinished frames)) ≡ continued head.ansno head.size (map (answer_of frames) (unfinished frames))
  continued-had more had = rw (had, has-answers frames head.ansno (unfinished frames), had) (grown-all head frames answer more (unfinished frames))

  continued-new : head.more ≡ true → has head.ansno (unfinished frames) ≡ false → length (unfinished frames) < MAX_ANSWERS
      → map (answer_of (head ∷ frames)) (with_number head.ansno (unfinished frames)) ≡ continued head.ansno head.size (map (answer_of frames) (unfinished frames))
  continued-new more none room =
      let count : nat_lt (length (map (answer_of frames) (unfinished frames))) MAX_ANSWERS ≡ true =
      ap (λ (n : ℕ). nat_lt n MAX_ANSWERS) (length-map (unfinished frames) (answer_of frames)) ∙ fewer-than (length (unfinished frames)) room in
      let begun : ◌≡◌ {A = Answer} (answer_of (head ∷ frames) head.ansno) (record { number = head.ansno; octets = min head.size (2 ^ 32 - 1) }) =
      rw (answer, more) (grown-new head.ansno head.size frames (octets-none head.ansno frames none)) in
      rw (none, has-answers frames head.ansno (unfinished frames), none, count)
      (map-append (unfinished frames) (head.ansno ∷ []) ∙ rw (others-apart head frames answer (unfinished frames) none, begun) refl)
    where
      map-append : (xs ys : List ℕ) → map (answer_of (head ∷ frames)) (xs ++ ys) ≡ map (answer_of (head ∷ frames)) xs ++ map (answer_of (head ∷ frames)) ys
      map-append [] ys = refl
      map-append (x ∷ xs) ys = ap (λ (rest : List Answer). answer_of (head ∷ frames) x ∷ rest) (map-append xs ys)

      grown-new : (a size : ℕ) (fs : List Head) → answer_octets a fs ≡ 0
          → ◌≡◌ {A = Answer} (record { number = a; octets = min (if a == a then size + answer_octets a fs else answer_octets a fs) (2 ^ 32 - 1) })
          (record { number = a; octets = min size (2 ^ 32 - 1) })
      grown-new a size fs none =
          let same : (a == a) ≡ true = eq-eqb _ _ refl in
          let sum : size + answer_octets a fs ≡ size = omega (arith, none) in
          rw (same, sum)

-- the answers after a frame, where it is an ANS or not, goes on or not, and its answer was unfinished or not
answers-by : (head : Head) (frames : List Head) (a m h : Bool) → is_ans head.kind ≡ a → head.more ≡ m → has head.ansno (unfinished frames) ≡ h
    → ((a && not h) ≡ true → length (unfinished frames) < MAX_ANSWERS)
    → map (answer_of (head ∷ frames)) (unfinished (head ∷ frames))
    ≡ (if a
    then (if m then continued head.ansno head.size (map (answer_of frames) (unfinished frames))
    else completed head.ansno (map (answer_of frames) (unfinished frames)))
    else map (answer_of frames) (unfinished frames))
answers-by head frames false m h a e f room = rw a (map-agree (answer_of (head ∷ frames)) (answer_of frames) (unfinished frames) (λ u. rw a refl))
answers-by head frames true true true a e f room =
    let now : unfinished (head ∷ frames) ≡ with_number head.ansno (unfinished frames) = rw (a, e) in
    ap (map (answer_of (head ∷ frames))) now ∙ continued-had head frames a e f
answers-by head frames true true false a e f room =
    let now : unfinished (head ∷ frames) ≡ with_number head.ansno (unfinished frames) = rw (a, e) in
    ap (map (answer_of (head ∷ frames))) now ∙ continued-new head frames a e f (room refl)
answers-by head frames true false h a e f room =
    let now : unfinished (head ∷ frames) ≡ without head.ansno (unfinished frames) = rw (a, e) in
    ap (map (answer_of (head ∷ frames))) now ∙ without-all head frames a (unfinished frames)

pub answers-step : (head : Head) (frames : List Head) → (begins_answer frames head ≡ true → length (unfinished frames) < MAX_ANSWERS)
    → map (answer_of (head ∷ frames)) (unfinished (head ∷ frames))
    ≡ (if is_ans head.kind
    then (if head.more then continued head.ansno head.size (map (answer_of frames) (unfinished frames))
    else completed head.ansno (map (answer_of frames) (unfinished frames)))
    else map (answer_of frames) (unfinished frames))
answers-step head frames room = answers-by head frames _ _ _ refl refl refl room

-- ---- a frame of a reply, in what is kept of the side that asked

module _ (asker : Side) (past : List Item) (head : Head) (payload : List ℕ) (s : Sound asker past) (r : is_reply head.kind ≡ true)
    (d : IsDue asker s.oldest past head) where
  replied-end : ends_reply head ≡ true
      → kept_of asker (passed (other asker) head payload ∷ past)
      ≡ record (kept_of asker past) { waiting = length (waiting asker past) - 1; kind = None; answers = [] }
  replied-end ends =
      let grown_reply = reply-grown asker past head payload s.oldest r d in
      let now : List Item = passed (other asker) head payload ∷ past in
      let answered : (p : ℕ) → is_answered asker p now ≡ nat_lt p (suc s.oldest) =
      λ p. rw (grown_reply p) (answered-ended s.oldest p head (reply asker p past) (s.oldest == p) refl ends (s.answered p)) in
      let count : length (waiting asker now) ≡ length (requests asker past) - suc s.oldest =
      ap length (waiting-newest asker now (suc s.oldest) answered) ∙ length-take (length (requests asker past) - suc s.oldest) (requests asker past)
      ∙ min-less (length (requests asker past)) (suc s.oldest) in
      let before = count-waiting asker past s in
      let place : length (requests asker past) - length (waiting asker now) ≡ suc s.oldest = omega (arith, count, d.waits) in
      let gone : current asker now ≡ [] =
      ap (λ (p : ℕ). reply asker p now) place ∙ grown_reply (suc s.oldest)
      ∙ other-place s.oldest (suc s.oldest) head _ (omega arith) (s.later (suc s.oldest) (omega arith)) in
      kept-eq (kept_of asker now) (record (kept_of asker past) { waiting = length (waiting asker past) - 1; kind = None; answers = [] })
      (under_way-passed-theirs head payload past asker)
      (ap first (frames-passed-theirs head payload past asker))
      (ap (λ (fs : List Head). min (octets_so_far fs) (2 ^ 32 - 1)) (frames-passed-theirs head payload past asker))
      refl refl (omega (arith, count, before))
      (ap (λ (fs : List Head). option_map (λ (frame : Head). frame.kind) (first fs)) gone)
      (ap (λ (fs : List Head). map (answer_of fs) (unfinished fs)) gone)

  replied-on : ends_reply head ≡ false
      → kept_of asker (passed (other asker) head payload ∷ past)
      ≡ record (kept_of asker past) {
        kind = Some head.kind;
        answers = if is_ans head.kind
            then (if head.more then continued head.ansno head.size (kept_of asker past).answers else completed head.ansno (kept_of asker past).answers)
            else (kept_of asker past).answers;
      }
  replied-on on =
      let grown_reply = reply-grown asker past head payload s.oldest r d in
      let now : List Item = passed (other asker) head payload ∷ past in
      let answered : (p : ℕ) → is_answered asker p now ≡ nat_lt p s.oldest =
      λ p. rw (grown_reply p) (answered-on s.oldest p head (reply asker p past) (s.oldest == p) refl on (s.answered p)) in
      let count : length (waiting asker now) ≡ length (requests asker past) - s.oldest =
      ap length (waiting-newest asker now s.oldest answered) ∙ length-take (length (requests asker past) - s.oldest) (requests asker past)
      ∙ min-less (length (requests asker past)) s.oldest in
      let before = count-waiting asker past s in
      let place : length (requests asker past) - length (waiting asker now) ≡ s.oldest = omega (arith, count, s.within) in
      let longer : current asker now ≡ head ∷ reply asker s.oldest past =
      ap (λ (p : ℕ). reply asker p now) place ∙ grown_reply s.oldest ∙ at-itself s.oldest _ _ in
      let old : reply asker s.oldest past ≡ current asker past = sym (current-is asker past s) in
      kept-eq (kept_of asker now) _
      (under_way-passed-theirs head payload past asker)
      (ap first (frames-passed-theirs head payload past asker))
      (ap (λ (fs : List Head). min (octets_so_far fs) (2 ^ 32 - 1)) (frames-passed-theirs head payload past asker))
      refl refl (count ∙ sym before)
      (ap (λ (fs : List Head). option_map (λ (frame : Head). frame.kind) (first fs)) longer)
      (ap (λ (fs : List Head). map (answer_of fs) (unfinished fs)) longer
      ∙ answers-step head (reply asker s.oldest past) d.room
      ∙ ap (λ (fs : List Head). if is_ans head.kind
      then (if head.more then continued head.ansno head.size (map (answer_of fs) (unfinished fs)) else completed head.ansno (map (answer_of fs) (unfinished fs)))
      else map (answer_of fs) (unfinished fs)) old)
    where
      at-itself : (n : ℕ) (a b : List Head) → (if n == n then a else b) ≡ a
      at-itself n a b = grind (arith, nat_tests)

  pub replied-kept : kept_of asker (passed (other asker) head payload ∷ past) ≡ replied_kept (kept_of asker past) head
  replied-kept = replied-by (ends_reply head) refl
    where
      replied-by : (b : Bool) → ends_reply head ≡ b → kept_of asker (passed (other asker) head payload ∷ past) ≡ replied_kept (kept_of asker past) head
      replied-by true e = replied-end e ∙ sym (rw e refl)
      replied-by false e = replied-on e ∙ sym (rw e refl)
