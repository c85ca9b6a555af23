-- The listener's first request is answered once.
use Rattle.std.proofs.Common.{◌≡◌, ℕ, ◌+◌, ◌-◌, ◌<◌, ◌==◌, nat_lt, Bool, true, false, not, ◌&&◌, ◌||◌, if◌then◌else◌, List, [], ◌∷◌, ◌++◌, filter, length, Option, None, Some, ◌⊎◌, inl, inr, refl, sym, ap, ◌∙◌, subst, arith, ⊎_elim}
use Rattle.std.specs.Option.{option_map_or}
use Rattle.std.proofs.lemmas.Bool.{ltb-true}
use Rattle.std.proofs.lemmas.List.{append-nil}
use Rattle.std.proofs.lemmas.List.Elements.{filter-append}
use Rattle.beep_chars.proofs.BoolLemmas.{left_of}
use Rattle.beep_frame.specs.declared.head.Head.{Head}
use Rattle.beep_frame.specs.Frame.{is_msg}
use Rattle.beep_history.specs.declared.journal.Side.{Side}
use Rattle.beep_history.specs.Journal.{Item, began, passed, told}
use Rattle.beep_history.specs.Marks.{previous, requests, begins_request, goes_on, is_whole, position_of}
use Rattle.beep_history.specs.Broken.{under_way, KeepsExchangeRules}
use Rattle.beep_history.specs.Messages.{Message}
use Rattle.beep_history.proofs.PassedLemmas.{sound}
use Rattle.beep_history.proofs.SoundLemmas.{is_open, unfinished_request}
use Rattle.beep_journal.specs.Life.{life, is_of_life, life_under_way, life_now}
use Rattle.beep_journal.specs.Lives.{Event}
use Rattle.beep_journal.specs.Zero.{events}
use Rattle.beep_journal.proofs.MomentLemmas.{equal-number}
use Rattle.beep_talk.specs.declared.plan.Command.{Command}
use Rattle.beep_talk.specs.Plan.{PlainPlan}
use Rattle.beep_talk.specs.Talk.{has_profile, begins_with, reply_of, asked_first, ends_request, replied, called_for, talk}
use Rattle.beep_script.proofs.SentLemmas.{is_first, reply-kept, reply-dropped, or-right, or-left}

-- ---- a request under way has begun

abbrev pub is_some_msg : Option Head → Bool
is_some_msg o = option_map_or (λ head. is_msg head.kind) o false

msg-before : (o : Option Head) (head : Head) → option_map_or (λ before. is_msg before.kind && goes_on head before) o false ≡ true → is_some_msg o ≡ true
msg-before None head is = absurd cc
msg-before (Some before) head is = left_of (is_msg before.kind) (goes_on head before) is

goes-not : (a b : Bool) → a ≡ true → (a && not b) ≡ false → b ≡ true
goes-not true true first second = refl
goes-not true false first second = absurd cc
goes-not false b first second = absurd cc

some-added : {X : Type 0} (b : Bool) (x : X) (xs : List X) → (b ≡ false → 0 < length xs) → 0 < length (if b then x ∷ xs else xs)
some-added true x xs rest = omega arith
some-added false x xs rest = rest refl

either-of : (a b : Bool) → (a || b) ≡ true → (a ≡ true) ⊎ (b ≡ true)
either-of true b is = inl refl
either-of false b is = inr is

has-asked : (past : List Item) → KeepsExchangeRules past → (is_some_msg (under_way Side.Received past) || is_some_msg (previous Side.Received past)) ≡ true
    → 0 < length (requests Side.Received past)
has-asked [] keeps is = absurd cc
has-asked (began Side.Received head ∷ past) keeps is =
    some-added (begins_request Side.Received past head) (record { position = length (requests Side.Received past); number = head.msgno }) (requests Side.Received past)
    (λ goes. has-asked past (keeps.2) (or-right (is_some_msg (under_way Side.Received past)) (is_some_msg (previous Side.Received past))
    (⊎_elim (λ msg. msg-before (previous Side.Received past) head (goes-not (is_msg head.kind) _ msg goes)) (λ before. before)
    (either-of (is_msg head.kind) (is_some_msg (previous Side.Received past)) is))))
has-asked (began Side.Sent head ∷ past) keeps is = has-asked past (keeps.2) is
has-asked (passed Side.Received head payload ∷ past) keeps is =
    has-asked past (keeps.2) (or-left (is_some_msg (under_way Side.Received past)) (is_some_msg (previous Side.Received past)) (ap is_some_msg keeps.0 ∙ is))
has-asked (passed Side.Sent head payload ∷ past) keeps is = has-asked past (keeps.2) is
has-asked (told by seq ∷ past) keeps is = has-asked past keeps is

-- ---- a request that is wholly passed isn't passed again

-- while a request passes that is the first, no request at its place has wholly passed
not-again : (past : List Item) (head : Head) → KeepsExchangeRules past → under_way Side.Received past ≡ Some head → is_msg head.kind ≡ true
    → length (requests Side.Received past) ≡ 1 → is_whole Side.Received 0 past ≡ true → ⊥
not-again past head keeps under msg one whole =
    let s = sound Side.Received past keeps in
    let open_now : is_open (under_way Side.Received past) (previous Side.Received past) ≡ true =
    or-left (option_map_or (λ h. is_msg h.kind) (under_way Side.Received past) false) (unfinished_request (previous Side.Received past)) (ap is_some_msg under ∙ msg) in
    let at : nat_lt (0 + (if is_open (under_way Side.Received past) (previous Side.Received past) then 1 else 0)) (length (requests Side.Received past)) ≡ true = sym (s.whole 0) ∙ whole in
    let more : nat_lt 1 (length (requests Side.Received past)) ≡ true = sym (ap (λ b. nat_lt (0 + (if b then 1 else 0)) (length (requests Side.Received past))) open_now) ∙ at in
    omega (arith, ltb-true 1 (length (requests Side.Received past)) more, one)

whole-later : (item : Item) (past : List Item) → is_whole Side.Received 0 past ≡ true → is_whole Side.Received 0 (item ∷ past) ≡ true
whole-later (began by head) past is = is
whole-later (passed by head payload) past is = or-right _ (is_whole Side.Received 0 past) is
whole-later (told by seq) past is = is

whole-where : (b : Bool) (item : Item) (past : List Item) → is_whole Side.Received 0 past ≡ true → is_whole Side.Received 0 (if b then item ∷ past else past) ≡ true
whole-where true item past is = whole-later item past is
whole-where false item past is = is

keeps-before : (item : Item) (past : List Item) → KeepsExchangeRules (item ∷ past) → KeepsExchangeRules past
keeps-before (began by head) past keeps = keeps.2
keeps-before (passed by head payload) past keeps = keeps.2
keeps-before (told by seq) past keeps = keeps

pub keeps-where : (b : Bool) (item : Item) (past : List Item) → KeepsExchangeRules (if b then item ∷ past else past) → KeepsExchangeRules past
keeps-where true item past keeps = keeps-before item past keeps
keeps-where false item past keeps = keeps

-- ---- what is said to the first request

abbrev pub first_talk : PlainPlan → List Item → List Message
first_talk plan journal = filter is_first (talk plan 1 1 journal)

-- nothing yet, or the whole reply, and then that request has wholly passed
abbrev pub Once : PlainPlan → List Item → Type 0
Once plan journal =
    (first_talk plan journal ≡ [])
    ⊎ ((first_talk plan journal ≡ reply_of Command.Send plan.lines 0) × (is_whole Side.Received 0 (life 1 1 journal) ≡ true))

asked-none : (b : Bool) (command : Command) (es : List Event) → command ≡ Command.Send → (if b then asked_first command es else []) ≡ []
asked-none true command es send = rw (send) refl
asked-none false command es send = refl

-- what an item adds
talk-more : (plan : PlainPlan) (item : Item) (journal : List Item) → plan.command ≡ Command.Send
    → first_talk plan (item ∷ journal) ≡ first_talk plan journal ++ filter is_first (replied plan 1 1 item journal)
talk-more plan item journal send =
    filter-append is_first (talk plan 1 1 journal) (called_for plan 1 1 item journal)
    ∙ ap (λ front. first_talk plan journal ++ filter is_first (front ++ replied plan 1 1 item journal))
    (asked-none (begins_with plan.raw_uri 1 1 item journal) plan.command (events journal) send)

-- an item that adds nothing
stays : (plan : PlainPlan) (item : Item) (journal : List Item) → plan.command ≡ Command.Send → filter is_first (replied plan 1 1 item journal) ≡ []
    → Once plan journal → Once plan (item ∷ journal)
stays plan item journal send none before =
    let same = talk-more plan item journal send ∙ ap (λ xs. first_talk plan journal ++ xs) none ∙ append-nil (first_talk plan journal) in
    ⊎_elim (λ empty. inl (same ∙ empty)) (λ whole. inr (same ∙ whole.0, whole-where (is_of_life 1 1 item journal) item (life 1 1 journal) whole.1)) before

-- one that answers a further request
further : (plan : PlainPlan) (item : Item) (journal : List Item) (position : ℕ) → plan.command ≡ Command.Send
    → replied plan 1 1 item journal ≡ reply_of plan.command plan.lines position → (position == 0) ≡ false → Once plan journal → Once plan (item ∷ journal)
further plan item journal position send is other before =
    stays plan item journal send (ap (λ xs. filter is_first xs) (is ∙ ap (λ c. reply_of c plan.lines position) send) ∙ reply-dropped plan.lines position other) before

-- one that answers the first
begins-reply : (plan : PlainPlan) (item : Item) (journal : List Item) (position : ℕ) → plan.command ≡ Command.Send
    → replied plan 1 1 item journal ≡ reply_of plan.command plan.lines position → position ≡ 0 → first_talk plan journal ≡ []
    → first_talk plan (item ∷ journal) ≡ reply_of Command.Send plan.lines 0
begins-reply plan item journal position send is first empty =
    talk-more plan item journal send ∙ ap (λ xs. xs ++ filter is_first (replied plan 1 1 item journal)) empty
    ∙ ap (λ xs. filter is_first xs) (is ∙ ap (λ c. reply_of c plan.lines position) send ∙ ap (λ p. reply_of Command.Send plan.lines p) first)
    ∙ reply-kept plan.lines

all-true : (a b c d e : Bool) → (a && b && c && d && e) ≡ true → (a ≡ true) × (b ≡ true) × (c ≡ true) × (d ≡ true)
all-true true true true true e is = (refl, refl, refl, refl)
all-true false b c d e is = absurd cc
all-true true false c d e is = absurd cc
all-true true true false d e is = absurd cc
all-true true true true false e is = absurd cc

both : (a b : Bool) → a ≡ true → b ≡ true → (a && b) ≡ true
both true b first second = second
both false b first second = absurd cc

positive-one : (n : ℕ) → 0 < n → n - 1 ≡ 0 → n ≡ 1
positive-one n some e = omega (arith, some, e)

-- a whole request passes
whole-now : (past : List Item) (head : Head) (payload : List ℕ) → is_msg head.kind ≡ true → not head.more ≡ true → length (requests Side.Received past) ≡ 1
    → is_whole Side.Received 0 (passed Side.Received head payload ∷ past) ≡ true
whole-now past head payload msg last one = rw (msg, last, one) refl

placed-at : (past : List Item) (head : Head) → is_msg head.kind ≡ true → position_of Side.Received past head ≡ length (requests Side.Received past) - 1
placed-at past head msg = rw (msg) refl

once-passed : (plan : PlainPlan) (head : Head) (payload : List ℕ) (journal : List Item) → plan.command ≡ Command.Send
    → KeepsExchangeRules (life 1 1 (passed Side.Received head payload ∷ journal)) → Once plan journal → Once plan (passed Side.Received head payload ∷ journal)
once-passed plan head payload journal send keeps before = by (ends_request 1 1 head journal && has_profile plan.raw_uri 1 1 journal) refl
  where
    item : Item
    item = passed Side.Received head payload

    past : List Item
    past = life 1 1 journal

    position : ℕ
    position = position_of Side.Received past head

    answered : is_msg head.kind ≡ true → not head.more ≡ true → KeepsExchangeRules (item ∷ past) → life 1 1 (item ∷ journal) ≡ item ∷ past
        → replied plan 1 1 item journal ≡ reply_of plan.command plan.lines position → (b : Bool) → (position == 0) ≡ b → Once plan (item ∷ journal)
    answered msg last kept here is false other = further plan item journal position send is other before
    answered msg last kept here is true first =
        let some = has-asked past kept.2 (or-left (is_some_msg (under_way Side.Received past)) (is_some_msg (previous Side.Received past)) (ap is_some_msg kept.0 ∙ msg)) in
        let placed = placed-at past head msg in
        let one = positive-one (length (requests Side.Received past)) some (sym placed ∙ equal-number position 0 first) in
        ⊎_elim (λ empty. inr (
          begins-reply plan item journal position send is (equal-number position 0 first) empty,
          subst (λ (xs : List Item). is_whole Side.Received 0 xs ≡ true) (sym here) (whole-now past head payload msg last one),
        ))
        (λ whole. absurd (not-again past head kept.2 kept.0 msg one whole.1)) before

    by : (b : Bool) → (ends_request 1 1 head journal && has_profile plan.raw_uri 1 1 journal) ≡ b → Once plan (item ∷ journal)
    by false none = stays plan item journal send (ap (λ b. filter is_first (if b then reply_of plan.command plan.lines position else [])) none) before
    by true ends =
        let parts = all-true (is_msg head.kind) (not head.more) (head.channel == 1) (life_under_way 1 Side.Received journal == 1) (life_now 1 journal == 1)
        (left_of (ends_request 1 1 head journal) (has_profile plan.raw_uri 1 1 journal) ends) in
        let mine = both (head.channel == 1) (life_under_way 1 Side.Received journal == 1) parts.2 parts.3 in
        let here : life 1 1 (item ∷ journal) ≡ item ∷ past = ap (λ b. if b then item ∷ past else past) mine in
        answered parts.0 parts.1 (subst KeepsExchangeRules here keeps) here
        (ap (λ b. if b then reply_of plan.command plan.lines position else []) ends) (position == 0) refl

-- in each journal whose channel 1 keeps the rules
pub once : (plan : PlainPlan) (journal : List Item) → plan.command ≡ Command.Send → KeepsExchangeRules (life 1 1 journal) → Once plan journal
once plan [] send keeps = inl refl
once plan (began by head ∷ journal) send keeps =
    stays plan (began by head) journal send refl (once plan journal send (keeps-where (is_of_life 1 1 (began by head) journal) (began by head) (life 1 1 journal) keeps))
once plan (passed Side.Received head payload ∷ journal) send keeps =
    once-passed plan head payload journal send keeps
    (once plan journal send (keeps-where (is_of_life 1 1 (passed Side.Received head payload) journal) (passed Side.Received head payload) (life 1 1 journal) keeps))
once plan (passed Side.Sent head payload ∷ journal) send keeps =
    stays plan (passed Side.Sent head payload) journal send refl
    (once plan journal send (keeps-where (is_of_life 1 1 (passed Side.Sent head payload) journal) (passed Side.Sent head payload) (life 1 1 journal) keeps))
once plan (told by seq ∷ journal) send keeps =
    stays plan (told by seq) journal send refl (once plan journal send (keeps-where (is_of_life 1 1 (told by seq) journal) (told by seq) (life 1 1 journal) keeps))
