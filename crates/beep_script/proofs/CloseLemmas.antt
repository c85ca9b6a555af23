-- What an own request says is what a listed message says, and only the release says a close of 0.
use Rattle.std.proofs.Common.{◌≡◌, ℕ, ◌+◌, ◌-◌, ◌<◌, ◌==◌, nat_lt, Bool, true, false, not, ◌&&◌, if◌then◌else◌, List, [], ◌∷◌, ◌++◌, map, flat_map, take, length, Option, None, Some, ◌⊎◌, inl, inr, refl, sym, ap, ◌∙◌, subst, arith, ⊎_elim}
use Rattle.std.specs.List.{list_any, prefix_len}
use Rattle.std.proofs.lemmas.Bool.{ltb-true}
use Rattle.std.proofs.lemmas.List.{append_assoc, append-nil}
use Rattle.beep_chars.proofs.BoolLemmas.{left_of, right_of}
use Rattle.beep_frame.specs.declared.head.Head.{Head}
use Rattle.beep_frame.specs.declared.tag.Tag.{Tag}
use Rattle.beep_frame.specs.Frame.{is_msg}
use Rattle.beep_history.specs.declared.journal.Side.{Side}
use Rattle.beep_history.specs.Journal.{Item, began, passed, told}
use Rattle.beep_history.specs.Marks.{Mark, octet, end, previous, requests, is_whole, position_of, tag_of, is_implied, frame_marks, marks}
use Rattle.beep_history.specs.Broken.{under_way, KeepsExchangeRules}
use Rattle.beep_history.proofs.PassedLemmas.{sound}
use Rattle.beep_history.proofs.SoundLemmas.{is_open, unfinished_request}
use Rattle.beep_mgmt.specs.Form.{Form, start, close}
use Rattle.beep_text.specs.Said.{element_said}
use Rattle.beep_mgmt.specs.Message.{message_said, message_text}
use Rattle.beep_journal.specs.Laws.{rest_from}
use Rattle.beep_journal.specs.Zero.{channel_of, zero_history, gathered, asked, said_at}
use Rattle.beep_journal.proofs.PiecesLemmas.{AreCut, are-cut}
use Rattle.beep_journal.proofs.MomentLemmas.{apart-more}
use Rattle.beep_decide.specs.Asks.{is_close_of}
use Rattle.beep_talk.specs.declared.plan.Command.{Command}
use Rattle.beep_talk.specs.Plan.{PlainPlan}
use Rattle.beep_talk.specs.AtZero.{ZeroMessage, Answer, answer_message, profile_of}
use Rattle.beep_script.specs.Desk.{grants_own, ends_lines, asks_where, asks, listing, is_clear, decided, desk}
use Rattle.beep_script.specs.Script.{whole_message, message_marks, KeepsScript}
use Rattle.beep_script.specs.EachEnd.{WasGranted}
use Rattle.beep_script.specs.Laws.{AreRead}
use Rattle.beep_script.proofs.SentLemmas.{or-left, or-right}
use Rattle.beep_script.proofs.OnceLemmas.{is_some_msg, keeps-where}
use Rattle.beep_script.proofs.WholeLemmas.{any-either, reply-kind, false-apart}

-- ---- a list has an element

abbrev pub IsIn : {X : Type 0} → X → List X → Type 0
IsIn x [] = ⊥
IsIn x (y ∷ ys) = (y ≡ x) ⊎ IsIn x ys

in-left : {X : Type 0} (x : X) (xs ys : List X) → IsIn x xs → IsIn x (xs ++ ys)
in-left x [] ys is = absurd is
in-left x (y ∷ xs) ys is = ⊎_elim (λ here. inl here) (λ rest. inr (in-left x xs ys rest)) is

in-right : {X : Type 0} (x : X) (xs ys : List X) → IsIn x ys → IsIn x (xs ++ ys)
in-right x [] ys is = is
in-right x (y ∷ xs) ys is = inr (in-right x xs ys is)

-- ---- marks cut at their ends, each piece with its tag

pub record Piece : Type 0 where
  pub tag : Tag
  pub content : List ℕ

abbrev pub cut : List ℕ → List Mark → List Piece
cut begun [] = []
cut begun (octet tag value ∷ ms) = cut (begun ++ value ∷ []) ms
cut begun (end tag ∷ ms) = record { tag = tag; content = begun } ∷ cut [] ms

cut-append : (begun : List ℕ) (xs ys : List Mark) → cut begun (xs ++ ys) ≡ cut begun xs ++ cut (rest_from begun xs) ys
cut-append begun [] ys = refl
cut-append begun (octet tag value ∷ xs) ys = cut-append (begun ++ value ∷ []) xs ys
cut-append begun (end tag ∷ xs) ys = ap (λ rest. record { tag = tag; content = begun } ∷ rest) (cut-append [] xs ys)

cut-message : (begun : List ℕ) (tag : Tag) (content : List ℕ) (ms : List Mark)
    → cut begun (map (octet tag) content ++ end tag ∷ [] ++ ms) ≡ record { tag = tag; content = begun ++ content } ∷ cut [] ms
cut-message begun tag [] ms = ap (λ c. record { tag = tag; content = c } ∷ cut [] ms) (sym (append-nil begun))
cut-message begun tag (c ∷ cs) ms =
    cut-message (begun ++ c ∷ []) tag cs ms ∙ ap (λ content. record { tag = tag; content = content } ∷ cut [] ms) (append_assoc begun (c ∷ []) cs)

-- a piece of a front is one of the whole
in-front : (piece : Piece) (xs ys : List Mark) → IsIn piece (cut [] xs) → IsIn piece (cut [] (xs ++ ys))
in-front piece xs ys is =
    subst (λ (ps : List Piece). IsIn piece ps) (sym (cut-append [] xs ys)) (in-left piece (cut [] xs) (cut (rest_from [] xs) ys) is)

-- the pieces of a script are its messages
abbrev piece_of : ZeroMessage → Piece
piece_of one = record { tag = one.tag; content = message_text one.form }

script-pieces : (listed : List ZeroMessage) → cut [] (flat_map message_marks (map whole_message listed)) ≡ map piece_of listed
script-pieces [] = refl
script-pieces (one ∷ others) =
    cut-message [] one.tag (message_text one.form) (flat_map message_marks (map whole_message others))
    ∙ ap (λ rest. piece_of one ∷ rest) (script-pieces others)

-- the last message of marks
cut-last : (begun : List ℕ) (tag : Tag) (content : List ℕ) → cut begun (map (octet tag) content ++ end tag ∷ []) ≡ record { tag = tag; content = begun ++ content } ∷ []
cut-last begun tag [] = ap (λ c. record { tag = tag; content = c } ∷ []) (sym (append-nil begun))
cut-last begun tag (c ∷ cs) =
    cut-last (begun ++ c ∷ []) tag cs ∙ ap (λ content. record { tag = tag; content = content } ∷ []) (append_assoc begun (c ∷ []) cs)

-- ---- an own request that passes whole

first-later : (item : Item) (past : List Item) → is_whole Side.Sent 0 past ≡ true → is_whole Side.Sent 0 (item ∷ past) ≡ true
first-later (began by head) past is = is
first-later (passed by head payload) past is = or-right _ (is_whole Side.Sent 0 past) is
first-later (told by seq) past is = is

first-where : (b : Bool) (item : Item) (past : List Item) → is_whole Side.Sent 0 past ≡ true → is_whole Side.Sent 0 (if b then item ∷ past else past) ≡ true
first-where true item past is = first-later item past is
first-where false item past is = is

-- the implied one has passed
pub first-whole : (journal : List Item) → is_whole Side.Sent 0 (zero_history journal) ≡ true
first-whole [] = refl
first-whole (item ∷ journal) = first-where (channel_of item == 0) item (zero_history journal) (first-whole journal)

sent-place : (past : List Item) (head : Head) → is_msg head.kind ≡ true → position_of Side.Sent past head ≡ length (requests Side.Sent past) - 1
sent-place past head msg = rw (msg) refl

last-false : (a b c : Bool) → c ≡ false → (a && b && c) ≡ false
last-false true true c is = is
last-false false b c is = refl
last-false true false c is = refl

-- so that a further one isn't implied
pub own-place : (past : List Item) (head : Head) → KeepsExchangeRules past → under_way Side.Sent past ≡ Some head → is_msg head.kind ≡ true
    → is_whole Side.Sent 0 past ≡ true → is_implied Side.Sent past head ≡ false
own-place past head keeps under msg whole =
    let s = sound Side.Sent past keeps in
    let count = length (requests Side.Sent past) in
    let open_now : is_open (under_way Side.Sent past) (previous Side.Sent past) ≡ true =
    or-left (is_some_msg (under_way Side.Sent past)) (unfinished_request (previous Side.Sent past)) (ap is_some_msg under ∙ msg) in
    let at : nat_lt (0 + (if is_open (under_way Side.Sent past) (previous Side.Sent past) then 1 else 0)) count ≡ true = sym (s.whole 0) ∙ whole in
    let more : nat_lt 1 count ≡ true = sym (ap (λ b. nat_lt (0 + (if b then 1 else 0)) count) open_now) ∙ at in
    let some : 0 < count - 1 = omega (arith, ltb-true 1 count more) in
    last-false (head.channel == 0) (is_msg head.kind) (position_of Side.Sent past head == 0)
    (ap (λ p. p == 0) (sent-place past head msg) ∙ apart-more (count - 1) 0 some)

more-none : (b : Bool) → not b ≡ true → b ≡ false
more-none true is = absurd cc
more-none false is = refl

-- the message that a frame completes is a piece of what was sent
passing-piece : (past : List Item) (head : Head) (payload begun : List ℕ) → is_implied Side.Sent past head ≡ false → not head.more ≡ true
    → rest_from [] (marks Side.Sent past) ≡ begun
    → IsIn (record { tag = tag_of Side.Sent past head; content = begun ++ payload }) (cut [] (marks Side.Sent (passed Side.Sent head payload ∷ past)))
passing-piece past head payload begun own last rest =
    let tag = tag_of Side.Sent past head in
    let before = marks Side.Sent past in
    let piece : Piece = record { tag = tag; content = begun ++ payload } in
    let ends : cut (rest_from [] before) (map (octet tag) payload ++ end tag ∷ []) ≡ piece ∷ [] =
    cut-last (rest_from [] before) tag payload ∙ ap (λ b. record { tag = tag; content = b ++ payload } ∷ []) rest in
    let here : IsIn piece (cut [] (before ++ (map (octet tag) payload ++ end tag ∷ []))) =
    subst (λ (ps : List Piece). IsIn piece ps) (sym (cut-append [] before (map (octet tag) payload ++ end tag ∷ [])))
    (in-right piece (cut [] before) (cut (rest_from [] before) (map (octet tag) payload ++ end tag ∷ []))
    (subst (λ (ps : List Piece). IsIn piece ps) (sym ends) (inl refl))) in
    let whole : IsIn piece (cut [] (before ++ frame_marks tag head payload)) =
    subst (λ (b : Bool). IsIn piece (cut [] (before ++ (map (octet tag) payload ++ (if b then [] else end tag ∷ []))))) (sym (more-none head.more last)) here in
    subst (λ (b : Bool). IsIn piece (cut [] (before ++ (if not b then frame_marks tag head payload else [])))) (sym own) whole

-- ---- a close of 0 that this end asked

-- a request among these marks says it
pub record SaysRelease (ms : List Mark) : Type 0 where
  pub piece : Piece
  pub is_in : IsIn piece (cut [] ms)
  pub msg : is_msg piece.tag.kind ≡ true
  pub says : is_close_of 0 (message_said piece.content) ≡ true

pub says-more : (xs ys : List Mark) → SaysRelease xs → SaysRelease (xs ++ ys)
says-more xs ys s = record { piece = s.piece; is_in = in-front s.piece xs ys s.is_in; msg = s.msg; says = s.says }

pub says-nothing : message_said [] ≡ None
unfolding message_said element_said
says-nothing = refl

pub none-said : (p n : ℕ) → is_close_of 0 (if n == p then message_said [] else None) ≡ true → ⊥
none-said p n is = by (n == p) (subst (λ (said : Option Form). is_close_of 0 (if n == p then said else None) ≡ true) says-nothing is)
  where
    by : (b : Bool) → is_close_of 0 (if b then None else None) ≡ true → ⊥
    by true e = absurd cc
    by false e = absurd cc

-- in one item of channel zero
said-item : (item : Item) (journal : List Item) (p : ℕ) → (channel_of item == 0) ≡ true → KeepsExchangeRules (item ∷ zero_history journal)
    → (is_close_of 0 (said_at p (asked Side.Sent (zero_history journal))) ≡ true → SaysRelease (marks Side.Sent (zero_history journal)))
    → is_close_of 0 (said_at p (asked Side.Sent (item ∷ zero_history journal))) ≡ true → SaysRelease (marks Side.Sent (item ∷ zero_history journal))
said-item (began by head) journal p zero keeps before is = before is
said-item (told by seq) journal p zero keeps before is = before is
said-item (passed Side.Received head payload) journal p zero keeps before is = says-more (marks Side.Sent (zero_history journal)) [] (before is)
said-item (passed Side.Sent head payload) journal p zero keeps before is =
    by (is_msg head.kind && not head.more) refl is
  where
    past : List Item
    past = zero_history journal

    more : List Mark
    more = if not (is_implied Side.Sent past head) then frame_marks (tag_of Side.Sent past head) head payload else []

    cut_so_far : AreCut Side.Sent journal
    cut_so_far = are-cut Side.Sent journal keeps.2

    either : (b : Bool) → is_msg head.kind ≡ true → not head.more ≡ true
        → is_close_of 0 (if b then message_said (gathered Side.Sent past ++ payload) else said_at p (asked Side.Sent past)) ≡ true
        → SaysRelease (marks Side.Sent past ++ more)
    either true msg last said = record {
      piece = record { tag = tag_of Side.Sent past head; content = gathered Side.Sent past ++ payload };
      is_in = passing-piece past head payload (gathered Side.Sent past) (own-place past head keeps.2 keeps.0 msg (first-whole journal)) last cut_so_far.rest;
      msg = msg;
      says = said;
    }
    either false msg last said = says-more (marks Side.Sent past) more (before said)

    by : (b : Bool) → (is_msg head.kind && not head.more) ≡ b
        → is_close_of 0 (said_at p (if b then message_said (gathered Side.Sent past ++ payload) ∷ asked Side.Sent past else asked Side.Sent past)) ≡ true
        → SaysRelease (marks Side.Sent past ++ more)
    by true ends said =
        either (length (asked Side.Sent past) == p) (left_of (is_msg head.kind) (not head.more) ends) (right_of (is_msg head.kind) (not head.more) ends) said
    by false ends said = says-more (marks Side.Sent past) more (before said)

pub said-release : (journal : List Item) (p : ℕ) → KeepsExchangeRules (zero_history journal)
    → is_close_of 0 (said_at p (asked Side.Sent (zero_history journal))) ≡ true → SaysRelease (marks Side.Sent (zero_history journal))
said-release [] p keeps is = absurd (none-said p 0 is)
said-release (item ∷ journal) p keeps is =
    by (channel_of item == 0) refl keeps is (said-release journal p (keeps-where (channel_of item == 0) item (zero_history journal) keeps))
  where
    by : (b : Bool) → (channel_of item == 0) ≡ b → KeepsExchangeRules (if b then item ∷ zero_history journal else zero_history journal)
        → is_close_of 0 (said_at p (asked Side.Sent (if b then item ∷ zero_history journal else zero_history journal))) ≡ true
        → (is_close_of 0 (said_at p (asked Side.Sent (zero_history journal))) ≡ true → SaysRelease (marks Side.Sent (zero_history journal)))
        → SaysRelease (marks Side.Sent (if b then item ∷ zero_history journal else zero_history journal))
    by true zero keeps is before = said-item item journal p zero keeps before is
    by false zero keeps is before = before is

-- ---- the release is listed where the close of channel 1 was granted

abbrev pub is_release : ZeroMessage → Bool
is_release one = is_msg one.tag.kind && is_close_of 0 (Some one.form)

no-release : (answers : List Answer) → list_any is_release (map answer_message answers) ≡ false
no-release [] = refl
no-release (answer ∷ answers) = rw (reply-kind answer.form) (no-release answers)

third-ask : (uri : List ℕ) (first second third : Bool)
    → list_any is_release (asks_where first 1 (start 1 None (profile_of uri ∷ [])) ++ asks_where second 2 (close 1 200 []) ++ asks_where third 3 (close 0 200 [])) ≡ true
    → third ≡ true
third-ask uri first second true is = refl
third-ask uri true true false is = absurd cc
third-ask uri false true false is = absurd cc
third-ask uri true false false is = absurd cc
third-ask uri false false false is = absurd cc

granted-later : (position : ℕ) (item : Item) (journal : List Item) → WasGranted position journal → WasGranted position (item ∷ journal)
granted-later position item journal moment = record {
  later = item ∷ moment.later;
  item = moment.item;
  earlier = moment.earlier;
  is = ap (λ xs. item ∷ xs) moment.is;
  grants = moment.grants;
}

listed-so : (count : ℕ) (listed : List ZeroMessage) (queue : List Answer) (own : List ZeroMessage)
    → list_any is_release (listing count listed queue own).listed ≡ true → (list_any is_release listed ≡ true) ⊎ (list_any is_release own ≡ true)
listed-so count listed queue own is =
    ⊎_elim (λ front. ⊎_elim (λ before. inl before) (λ replied. absurd (false-apart (list_any is_release (map answer_message (take count queue))) replied (no-release (take count queue))))
    (any-either is_release listed (map answer_message (take count queue)) front))
    (λ asked. inr asked)
    (any-either is_release (listed ++ map answer_message (take count queue)) own is)

asked-then : (plan : PlainPlan) (item : Item) (journal : List Item) → plan.command ≡ Command.Send
    → list_any is_release (asks plan.command plan item journal) ≡ true → grants_own 2 item journal ≡ true
asked-then plan item journal send is =
    third-ask plan.raw_uri (grants_own 0 item journal) (ends_lines plan item journal) (grants_own 2 item journal)
    (sym (ap (λ c. list_any is_release (asks c plan item journal)) send) ∙ is)

release-listed : (plan : PlainPlan) (journal : List Item) → plan.command ≡ Command.Send → list_any is_release (desk plan journal).listed ≡ true → WasGranted 2 journal
release-listed plan [] send is = absurd cc
release-listed plan (item ∷ journal) send is =
    ⊎_elim (λ listed. granted-later 2 item journal (release-listed plan journal send listed))
    (λ asked. record { later = []; item = item; earlier = journal; is = refl; grants = asked-then plan item journal send asked })
    (listed-so (prefix_len (is_clear plan (desk plan journal).listed (item ∷ journal)) ((desk plan journal).owed ++ decided plan (desk plan journal) item journal))
    (desk plan journal).listed ((desk plan journal).owed ++ decided plan (desk plan journal) item journal) (asks plan.command plan item journal) is)

both : (a b : Bool) → a ≡ true → b ≡ true → (a && b) ≡ true
both true b first second = second
both false b first second = absurd cc

-- a listed message whose octets say a release is one
read-release : (listed : List ZeroMessage) (piece : Piece) → AreRead listed → IsIn piece (map piece_of listed) → is_msg piece.tag.kind ≡ true
    → is_close_of 0 (message_said piece.content) ≡ true → list_any is_release listed ≡ true
read-release [] piece read is msg says = absurd is
read-release (one ∷ others) piece read is msg says =
    ⊎_elim (λ here. or-left (is_release one) (list_any is_release others)
    (both (is_msg one.tag.kind) (is_close_of 0 (Some one.form)) (ap (λ (p : Piece). is_msg p.tag.kind) here ∙ msg)
    (ap (is_close_of 0) (sym read.0) ∙ ap (λ (p : Piece). is_close_of 0 (message_said p.content)) here ∙ says)))
    (λ rest. or-right (is_release one) (list_any is_release others) (read-release others piece read.1 rest msg says)) is

-- where this end asked a close of 0, its close of channel 1 was granted
pub close-granted : (plan : PlainPlan) (journal : List Item) → plan.command ≡ Command.Send → KeepsScript plan journal → AreRead (desk plan journal).listed
    → SaysRelease (marks Side.Sent (zero_history journal)) → WasGranted 2 journal
close-granted plan journal send script read said =
    let listed = (desk plan journal).listed in
    let all : IsIn said.piece (cut [] (flat_map message_marks (map whole_message listed))) =
    subst (λ (ms : List Mark). IsIn said.piece (cut [] ms)) (sym (script 0 0).whole_is)
    (in-front said.piece (marks Side.Sent (zero_history journal)) (script 0 0).rest said.is_in) in
    release-listed plan journal send
    (read-release listed said.piece read (subst (λ (ps : List Piece). IsIn said.piece ps) (script-pieces listed) all) said.msg said.says)
