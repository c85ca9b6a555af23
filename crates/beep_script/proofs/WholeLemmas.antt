-- What was sent, by the marks of a history: the end of each whole request, and of the lines.
use Rattle.std.proofs.Common.{◌≡◌, ℕ, ◌+◌, ◌-◌, ◌==◌, Bool, true, false, not, ◌&&◌, ◌||◌, if◌then◌else◌, List, [], ◌∷◌, ◌++◌, map, take, length, refl, sym, ap, ◌∙◌, subst, arith, None, ◌⊎◌, inl, inr, ⊎_elim}
use Rattle.std.specs.List.{list_any, prefix_len}
use Rattle.std.proofs.lemmas.List.Folds.{list_any-append}
use Rattle.beep_frame.specs.declared.head.Head.{Head}
use Rattle.beep_frame.specs.declared.tag.Tag.{Tag}
use Rattle.beep_frame.specs.Frame.{is_msg, is_nul}
use Rattle.beep_history.specs.declared.journal.Side.{Side}
use Rattle.beep_history.specs.Journal.{Item, began, passed, told}
use Rattle.beep_history.specs.Marks.{Mark, octet, end, requests, is_whole, position_of, tag_of, is_implied, carries, frame_marks, marks}
use Rattle.beep_history.specs.Moments.{mark_tag}
use Rattle.beep_mgmt.specs.Form.{Form, greeting, start, chosen, close, okay, fault}
use Rattle.beep_journal.specs.Life.{life, is_of_life, life_under_way}
use Rattle.beep_journal.specs.Zero.{channel_of, zero_history}
use Rattle.beep_journal.proofs.MomentLemmas.{same-number, equal-number}
use Rattle.beep_talk.specs.declared.plan.Command.{Command}
use Rattle.beep_talk.specs.Plan.{PlainPlan}
use Rattle.beep_talk.specs.Talk.{has_profile}
use Rattle.beep_talk.specs.AtZero.{ZeroMessage, Answer, answer_message, kind_of, profile_of}
use Rattle.beep_script.specs.Desk.{grants_own, ends_lines, asks_where, asks, listing, is_clear, decided, desk}
use Rattle.beep_script.proofs.SentLemmas.{is_nul_mark, is_first_mark, any-left, any-right, or-left}

-- the marks that belong to the own request at a position
abbrev pub is_ask_mark : ℕ → Mark → Bool
is_ask_mark position mark = is_msg (mark_tag mark).kind && (mark_tag mark).request == position

both : (a b : Bool) → a ≡ true → b ≡ true → (a && b) ≡ true
both true b first second = second
both false b first second = absurd cc

either-of : (a b : Bool) → (a || b) ≡ true → (a ≡ true) ⊎ (b ≡ true)
either-of true b is = inl refl
either-of false b is = inr is

pub any-either : {X : Type 0} (p : X → Bool) (xs ys : List X) → list_any p (xs ++ ys) ≡ true → (list_any p xs ≡ true) ⊎ (list_any p ys ≡ true)
any-either p xs ys is = either-of (list_any p xs) (list_any p ys) (sym (list_any-append p xs ys) ∙ is)

-- ---- one frame

-- a complete frame that carries a message has the end of it among its marks
end-among : (p : Mark → Bool) (tag : Tag) (head : Head) (payload : List ℕ) → not head.more ≡ true → p (end tag) ≡ true → list_any p (frame_marks tag head payload) ≡ true
end-among p tag head payload last is =
    any-right p (map (octet tag) payload) (if head.more then [] else end tag ∷ []) (here head.more last)
  where
    here : (b : Bool) → not b ≡ true → list_any p (if b then [] else end tag ∷ []) ≡ true
    here true e = absurd cc
    here false e = or-left (p (end tag)) false is

-- and so have those of the side
frame-among : (p : Mark → Bool) (past : List Item) (head : Head) (payload : List ℕ) → is_implied Side.Sent past head ≡ false → not head.more ≡ true
    → p (end (tag_of Side.Sent past head)) ≡ true → list_any p (marks Side.Sent (passed Side.Sent head payload ∷ past)) ≡ true
frame-among p past head payload own last is =
    any-right p (marks Side.Sent past) (if carries Side.Sent past Side.Sent head then frame_marks (tag_of Side.Sent past head) head payload else [])
    (subst (λ (b : Bool). list_any p (if not b then frame_marks (tag_of Side.Sent past head) head payload else []) ≡ true) (sym own)
    (end-among p (tag_of Side.Sent past head) head payload last is))

-- marks stay
marks-later : (p : Mark → Bool) (item : Item) (past : List Item) → list_any p (marks Side.Sent past) ≡ true → list_any p (marks Side.Sent (item ∷ past)) ≡ true
marks-later p (began by head) past is = is
marks-later p (passed by head payload) past is =
    any-left p (marks Side.Sent past) (if carries Side.Sent past by head then frame_marks (tag_of Side.Sent past head) head payload else []) is
marks-later p (told by seq) past is = is

marks-where : (p : Mark → Bool) (b : Bool) (item : Item) (past : List Item) → list_any p (marks Side.Sent past) ≡ true
    → list_any p (marks Side.Sent (if b then item ∷ past else past)) ≡ true
marks-where p true item past is = marks-later p item past is
marks-where p false item past is = is

pub zero-later : (p : Mark → Bool) (later journal : List Item) → list_any p (marks Side.Sent (zero_history journal)) ≡ true
    → list_any p (marks Side.Sent (zero_history (later ++ journal))) ≡ true
zero-later p [] journal is = is
zero-later p (item ∷ later) journal is =
    marks-where p (channel_of item == 0) item (zero_history (later ++ journal)) (zero-later p later journal is)

pub life-later : (p : Mark → Bool) (number count : ℕ) (later journal : List Item) → list_any p (marks Side.Sent (life number count journal)) ≡ true
    → list_any p (marks Side.Sent (life number count (later ++ journal))) ≡ true
life-later p number count [] journal is = is
life-later p number count (item ∷ later) journal is =
    marks-where p (is_of_life number count item (later ++ journal)) item (life number count (later ++ journal)) (life-later p number count later journal is)

-- ---- a whole request

all-true : (a b c : Bool) → (a && b && c) ≡ true → (a ≡ true) × (b ≡ true) × (c ≡ true)
all-true true true c is = (refl, refl, is)
all-true false b c is = absurd cc
all-true true false c is = absurd cc

last-false : (a b c : Bool) → c ≡ false → (a && b && c) ≡ false
last-false true true c is = is
last-false false b c is = refl
last-false true false c is = refl

sent-at : (past : List Item) (head : Head) → is_msg head.kind ≡ true → position_of Side.Sent past head ≡ length (requests Side.Sent past) - 1
sent-at past head msg = rw (msg) refl

one-more : (n p : ℕ) → n ≡ p + 1 → n - 1 ≡ p
one-more n p e = omega (arith, e)

whole-step : (position : ℕ) → (position == 0) ≡ false → (past : List Item) (head : Head) (payload : List ℕ)
    → (is_msg head.kind && not head.more && length (requests Side.Sent past) == position + 1) ≡ true
    → list_any (is_ask_mark position) (marks Side.Sent (passed Side.Sent head payload ∷ past)) ≡ true
whole-step position other past head payload is =
    let parts = all-true (is_msg head.kind) (not head.more) (length (requests Side.Sent past) == position + 1) is in
    let at = sent-at past head parts.0 ∙ one-more (length (requests Side.Sent past)) position (equal-number (length (requests Side.Sent past)) (position + 1) parts.2) in
    frame-among (is_ask_mark position) past head payload
    (last-false (head.channel == 0) (is_msg head.kind) (position_of Side.Sent past head == 0) (ap (λ n. n == 0) at ∙ other)) parts.1
    (both (is_msg head.kind) (position_of Side.Sent past head == position) parts.0 (ap (λ n. n == position) at ∙ same-number position))

-- of each own request that has wholly passed the end is among the marks
pub whole-marks : (position : ℕ) → (position == 0) ≡ false → (past : List Item) → is_whole Side.Sent position past ≡ true
    → list_any (is_ask_mark position) (marks Side.Sent past) ≡ true
whole-marks position other [] is = absurd cc
whole-marks position other (began by head ∷ past) is = whole-marks position other past is
whole-marks position other (passed Side.Received head payload ∷ past) is =
    marks-later (is_ask_mark position) (passed Side.Received head payload) past (whole-marks position other past is)
whole-marks position other (passed Side.Sent head payload ∷ past) is =
    ⊎_elim (λ here. whole-step position other past head payload here)
    (λ before. marks-later (is_ask_mark position) (passed Side.Sent head payload) past (whole-marks position other past before))
    (either-of (is_msg head.kind && not head.more && length (requests Side.Sent past) == position + 1) (is_whole Side.Sent position past) is)
whole-marks position other (told by seq ∷ past) is = whole-marks position other past is

-- ---- the end of the lines

five-true : (a b c d e f : Bool) → (a && b && c && d && e && f) ≡ true → (a ≡ true) × (b ≡ true) × (c ≡ true) × (d ≡ true) × (e ≡ true)
five-true true true true true true f is = (refl, refl, refl, refl, refl)
five-true false b c d e f is = absurd cc
five-true true false c d e f is = absurd cc
five-true true true false d e f is = absurd cc
five-true true true true false e f is = absurd cc
five-true true true true true false f is = absurd cc

first-false : (a b c : Bool) → a ≡ false → (a && b && c) ≡ false
first-false true b c is = absurd cc
first-false false b c is = refl

above-zero : (n : ℕ) → (n == 1) ≡ true → (n == 0) ≡ false
above-zero n is = ap (λ m. m == 0) (equal-number n 1 is)

-- where the lines end, the end of the answers to the first request is among the marks of channel 1
pub nul-marks : (plan : PlainPlan) (item : Item) (journal : List Item) → ends_lines plan item journal ≡ true
    → list_any (λ mark. is_nul_mark mark && is_first_mark mark) (marks Side.Sent (life 1 1 (item ∷ journal))) ≡ true
nul-marks plan (began by head) journal is = absurd cc
nul-marks plan (passed Side.Received head payload) journal is = absurd cc
nul-marks plan (told by seq) journal is = absurd cc
nul-marks plan (passed Side.Sent head payload) journal is =
    let past = life 1 1 journal in
    let parts = five-true (is_nul head.kind) (not head.more) (head.channel == 1) (life_under_way 1 Side.Sent journal == 1) (position_of Side.Sent past head == 0)
    (has_profile plan.raw_uri 1 1 journal) is in
    let mine = both (head.channel == 1) (life_under_way 1 Side.Sent journal == 1) parts.2 parts.3 in
    subst (λ (b : Bool). list_any (λ mark. is_nul_mark mark && is_first_mark mark)
    (marks Side.Sent (if b then passed Side.Sent head payload ∷ past else past)) ≡ true) (sym mine)
    (frame-among (λ mark. is_nul_mark mark && is_first_mark mark) past head payload
    (first-false (head.channel == 0) (is_msg head.kind) (position_of Side.Sent past head == 0) (above-zero head.channel parts.2)) parts.1
    (both (is_nul head.kind) (position_of Side.Sent past head == 0) parts.0 parts.4))

-- ---- a listed request

abbrev pub is_ask : ℕ → ZeroMessage → Bool
is_ask position one = is_msg one.tag.kind && one.tag.request == position

-- at some moment the lines ended
pub record LinesEnded (plan : PlainPlan) (journal : List Item) : Type 0 where
  pub later : List Item
  pub item : Item
  pub earlier : List Item
  pub is : journal ≡ later ++ item ∷ earlier
  pub ends : ends_lines plan item earlier ≡ true

ended-later : (plan : PlainPlan) (item : Item) (journal : List Item) → LinesEnded plan journal → LinesEnded plan (item ∷ journal)
ended-later plan item journal moment = record {
  later = item ∷ moment.later;
  item = moment.item;
  earlier = moment.earlier;
  is = ap (λ xs. item ∷ xs) moment.is;
  ends = moment.ends;
}

pub reply-kind : (form : Form) → is_msg (kind_of form) ≡ false
reply-kind (greeting features localize profiles) = refl
reply-kind (start number server profiles) = refl
reply-kind (chosen profile) = refl
reply-kind (close number code note) = refl
reply-kind okay = refl
reply-kind (fault code note) = refl

no-asks : (position : ℕ) (answers : List Answer) → list_any (is_ask position) (map answer_message answers) ≡ false
no-asks position [] = refl
no-asks position (answer ∷ answers) = rw (reply-kind answer.form) (no-asks position answers)

pub false-apart : (b : Bool) → b ≡ true → b ≡ false → ⊥
false-apart true is none = absurd cc
false-apart false is none = absurd cc

-- of a sender's own requests the second comes where the lines end
second-ask : (first second third : Bool) (a b c : Form)
    → list_any (is_ask 2) (asks_where first 1 a ++ asks_where second 2 b ++ asks_where third 3 c) ≡ true → second ≡ true
second-ask true true third a b c is = refl
second-ask false true third a b c is = refl
second-ask true false true a b c is = absurd cc
second-ask false false true a b c is = absurd cc
second-ask true false false a b c is = absurd cc
second-ask false false false a b c is = absurd cc

-- what is listed was so before, or is an own request
listed-either : (position count : ℕ) (listed : List ZeroMessage) (queue : List Answer) (own : List ZeroMessage)
    → list_any (is_ask position) (listing count listed queue own).listed ≡ true
    → (list_any (is_ask position) listed ≡ true) ⊎ (list_any (is_ask position) own ≡ true)
listed-either position count listed queue own is =
    ⊎_elim (λ front. ⊎_elim (λ before. inl before) (λ replied. absurd (false-apart (list_any (is_ask position) (map answer_message (take count queue))) replied (no-asks position (take count queue))))
    (any-either (is_ask position) listed (map answer_message (take count queue)) front))
    (λ asked. inr asked)
    (any-either (is_ask position) (listed ++ map answer_message (take count queue)) own is)

asked-now : (plan : PlainPlan) (item : Item) (journal : List Item) → plan.command ≡ Command.Send
    → list_any (is_ask 2) (asks plan.command plan item journal) ≡ true → ends_lines plan item journal ≡ true
asked-now plan item journal send is =
    second-ask (grants_own 0 item journal) (ends_lines plan item journal) (grants_own 2 item journal)
    (start 1 None (profile_of plan.raw_uri ∷ [])) (close 1 200 []) (close 0 200 [])
    (sym (ap (λ c. list_any (is_ask 2) (asks c plan item journal)) send) ∙ is)

-- the close of channel 1 is listed where the lines have ended
pub close-listed : (plan : PlainPlan) (journal : List Item) → plan.command ≡ Command.Send → list_any (is_ask 2) (desk plan journal).listed ≡ true → LinesEnded plan journal
close-listed plan [] send is = absurd cc
close-listed plan (item ∷ journal) send is =
    ⊎_elim (λ listed. ended-later plan item journal (close-listed plan journal send listed))
    (λ asked. record { later = []; item = item; earlier = journal; is = refl; ends = asked-now plan item journal send asked })
    (listed-either 2 (prefix_len (is_clear plan (desk plan journal).listed (item ∷ journal)) ((desk plan journal).owed ++ decided plan (desk plan journal) item journal))
    (desk plan journal).listed ((desk plan journal).owed ++ decided plan (desk plan journal) item journal) (asks plan.command plan item journal) is)
