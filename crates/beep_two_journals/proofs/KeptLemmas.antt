-- What the items of a lawful end keep, test by test.
use Rattle.std.proofs.Common.{◌≡◌, ℕ, ◌==◌, Bool, true, false, not, ◌&&◌, if◌then◌else◌, List, [], ◌∷◌, length, Option, Some, None, refl, ap, ◌∙◌, arith}
use Rattle.std.specs.Prelude.{is_some}
use Rattle.std.specs.Option.{is_none}
use Rattle.std.specs.List.{list_any, filter}
use Rattle.std.proofs.lemmas.Bool.Decides.{nat_tests}
use Rattle.beep_frame.specs.declared.head.Head.{Head}
use Rattle.beep_frame.specs.declared.kind.Kind.{Kind}
use Rattle.beep_frame.specs.declared.rule.Rule.{Rule}
use Rattle.beep_frame.specs.Frame.{same_kind}
use Rattle.beep_history.specs.declared.journal.Side.{Side}
use Rattle.beep_history.specs.Journal.{Item, began, passed, told}
use Rattle.beep_history.specs.Marks.{Request, requests, is_answered, is_whole}
use Rattle.beep_history.specs.Broken.{under_way, broken_rule, first_of}
use Rattle.beep_journal.specs.Zero.{zero_history}
use Rattle.beep_journal.specs.Life.{history, is_there}
use Rattle.beep_journal.specs.Broken.{none_tunes, breaks_size, breaks_no_greeting, breaks_no_such_channel, breaks_not_alone, breaks_zero_reply, session_rules, or_else, broken_head, broken_content}
use Rattle.beep_lawful.specs.declared.breach.Breach.{Breach}
use Rattle.beep_lawful.specs.declared.terms.Terms.{Terms}
use Rattle.beep_lawful.specs.Lawful.{same_flag, same_head, is_apart, breaks_rule, breaks_apart, breaks_content, breaks_asked_closing, breaks_ok_too_soon, breaks_close_unanswered, breaks_after_end, breaks_start_number, breaks_grant_number, breaks_close_starting, breaks_asked_drained, request_said, granted_said, granted_position, unlawful_head, unlawful_frame, unlawful_item, is_lawful, IsLawful}
use Rattle.beep_lawful.proofs.LawfulLemmas.{both-one, both-two}

next-none : (holds : Bool) (breach : Breach) (others : Option Breach) → (if holds then Some breach else others) ≡ None → (holds ≡ false) × (others ≡ None)
next-none true breach others e = cc
next-none false breach others e = (refl, e)

none-is : (o : Option Breach) → is_none o ≡ true → o ≡ None
none-is None e = refl
none-is (Some breach) e = cc

none-of : (o : Option Rule) → is_some o ≡ false → o ≡ None
none-of None e = refl
none-of (Some rule) e = cc

no-head : (o : Option Head) → is_some o ≡ false → o ≡ None
no-head None e = refl
no-head (Some head) e = cc

-- ---- the parts of a lawful journal

pub lawful-tail : (terms : Terms) (item : Item) (past : List Item) → IsLawful terms none_tunes (item ∷ past) → IsLawful terms none_tunes past
lawful-tail terms item past l = both-two (is_none (unlawful_item terms none_tunes past item)) (is_lawful terms none_tunes past) l

pub lawful-first : (terms : Terms) (item : Item) (past : List Item) → IsLawful terms none_tunes (item ∷ past) → unlawful_item terms none_tunes past item ≡ None
lawful-first terms item past l = none-is _ (both-one (is_none (unlawful_item terms none_tunes past item)) (is_lawful terms none_tunes past) l)

-- ---- the rules of a session on a header

pub record KeepsRules (side : Side) (past : List Item) (head : Head) : Type 0 where
  pub size : breaks_size head ≡ false
  pub greeting : breaks_no_greeting side past head ≡ false
  pub there : is_there head.channel past ≡ true
  pub life : broken_rule side (history head.channel past) head ≡ None
  pub reply : breaks_zero_reply head ≡ false

next-rule : (holds : Bool) (rule : Rule) (others : Option Rule) → (if holds then Some rule else others) ≡ None → (holds ≡ false) × (others ≡ None)
next-rule true rule others e = cc
next-rule false rule others e = (refl, e)

both-none : (a b : Option Rule) → or_else a b ≡ None → (a ≡ None) × (b ≡ None)
both-none None b e = (refl, e)
both-none (Some rule) b e = cc

not-not : (b : Bool) → not b ≡ false → b ≡ true
not-not true e = refl
not-not false e = cc

pub rules_kept : (side : Side) (past : List Item) (head : Head) → broken_head none_tunes side past head ≡ None → KeepsRules side past head
unfolding broken_head
rules_kept side past head e =
    let one = both-none (first_of (session_rules none_tunes side past head)) _ e in
    let two = both-none (broken_rule side (history head.channel past) head) _ one.1 in
    let size = next-rule (breaks_size head) Rule.Size _ one.0 in
    let greeting = next-rule (breaks_no_greeting side past head) Rule.NoGreeting _ size.1 in
    let there = next-rule (breaks_no_such_channel past head) Rule.NoSuchChannel _ greeting.1 in
    let reply = next-rule (breaks_zero_reply head) Rule.ZeroReply None two.1 in
    record { size = size.0; greeting = greeting.0; there = not-not (is_there head.channel past) there.0; life = two.0; reply = reply.0 }

none-any : (f : Request → Bool) (rs : List Request) → list_any (λ (r : Request). false && f r) rs ≡ false
none-any f [] = refl
none-any f (r ∷ rs) = none-any f rs

-- where no start is tuning none waits so
pub none-alone : (side : Side) (past : List Item) → breaks_not_alone none_tunes side past ≡ false
none-alone side past =
    none-any (λ (r : Request). is_whole side r.position (zero_history past))
    (filter (λ (r : Request). not (is_answered side r.position (zero_history past))) (requests side (zero_history past)))

pub rules_keep : (side : Side) (past : List Item) (head : Head) → KeepsRules side past head → broken_head none_tunes side past head ≡ None
unfolding broken_head
rules_keep side past head k = or-none _ _ (four _ _ _ _ k.size k.greeting (ap not k.there) (none-alone side past)) (or-none _ _ k.life (rw k.reply refl))
  where
    or-none : (a b : Option Rule) → a ≡ None → b ≡ None → or_else a b ≡ None
    or-none a b e f = rw (e, f) refl

    four : (a b c d : Bool) → a ≡ false → b ≡ false → c ≡ false → d ≡ false
        → (if a then Some Rule.Size else (if b then Some Rule.NoGreeting else (if c then Some Rule.NoSuchChannel else (if d then Some Rule.NotAlone else None)))) ≡ None
    four a b c d e f g h = rw (e, f, g, h) refl

-- ---- a header that was sent

pub record KeepsHead (past : List Item) (head : Head) : Type 0 where
  pub apart : under_way Side.Sent past ≡ None
  pub rules : KeepsRules Side.Sent past head
  pub asked_closing : breaks_asked_closing past head ≡ false

head-tests : (terms : Terms) (past : List Item) (head : Head) → unlawful_head terms none_tunes past head ≡ None → KeepsHead past head
unfolding unlawful_head
head-tests terms past head e =
    let one = next-none (is_apart past) Breach.Apart _ e in
    let two = next-none (breaks_rule none_tunes past head) Breach.Rule _ one.1 in
    let three = next-none _ Breach.Room _ two.1 in
    let four = next-none _ Breach.OwnNumber _ three.1 in
    let five = next-none (breaks_asked_closing past head) Breach.AskedClosing _ four.1 in
    record {
      apart = no-head (under_way Side.Sent past) one.0;
      rules = rules_kept Side.Sent past head (none-of (broken_head none_tunes Side.Sent past head) two.0);
      asked_closing = five.0;
    }

pub head_keeps : (terms : Terms) (past : List Item) (head : Head) → IsLawful terms none_tunes (began Side.Sent head ∷ past) → KeepsHead past head
head_keeps terms past head l = head-tests terms past head (lawful-first terms (began Side.Sent head) past l)

-- ---- a frame that was sent

pub record KeepsFrame (terms : Terms) (past : List Item) (head : Head) (payload : List ℕ) : Type 0 where
  pub apart : breaks_apart past head payload ≡ false
  pub content : broken_content Side.Sent past head payload ≡ None
  pub ok_too_soon : breaks_ok_too_soon past (granted_position past head) (granted_said past head) ≡ false
  pub start_number : breaks_start_number terms.role past (request_said past head payload) ≡ false
  pub grant_number : breaks_grant_number terms.role past (granted_said past head) ≡ false
  pub close_starting : breaks_close_starting past (request_said past head payload) ≡ false
  pub asked_drained : breaks_asked_drained past (granted_position past head) (granted_said past head) ≡ false

frame-tests : (terms : Terms) (past : List Item) (head : Head) (payload : List ℕ) → unlawful_frame terms none_tunes past head payload ≡ None
    → KeepsFrame terms past head payload
unfolding unlawful_frame
frame-tests terms past head payload e =
    let one = next-none (breaks_apart past head payload) Breach.Apart _ e in
    let two = next-none (breaks_content past head payload) Breach.Rule _ one.1 in
    let three = next-none (breaks_ok_too_soon past (granted_position past head) (granted_said past head)) Breach.OkTooSoon _ two.1 in
    let four = next-none (breaks_close_unanswered past (request_said past head payload)) Breach.CloseUnanswered _ three.1 in
    let five = next-none (breaks_after_end none_tunes past) Breach.AfterEnd _ four.1 in
    let six = next-none (breaks_start_number terms.role past (request_said past head payload)) Breach.StartNumber _ five.1 in
    let seven = next-none (breaks_grant_number terms.role past (granted_said past head)) Breach.GrantNumber _ six.1 in
    let eight = next-none (breaks_close_starting past (request_said past head payload)) Breach.CloseStarting _ seven.1 in
    let nine = next-none (breaks_asked_drained past (granted_position past head) (granted_said past head)) Breach.AskedDrained None eight.1 in
    record {
      apart = one.0;
      content = none-of (broken_content Side.Sent past head payload) two.0;
      ok_too_soon = three.0;
      start_number = six.0;
      grant_number = seven.0;
      close_starting = eight.0;
      asked_drained = nine.0;
    }

pub frame_keeps : (terms : Terms) (past : List Item) (head : Head) (payload : List ℕ) → IsLawful terms none_tunes (passed Side.Sent head payload ∷ past)
    → KeepsFrame terms past head payload
frame_keeps terms past head payload l = frame-tests terms past head payload (lawful-first terms (passed Side.Sent head payload) past l)

-- ---- a frame stands right after its header

number : (a b : ℕ) → (a == b) ≡ true → a ≡ b
number a b e = grind (arith, nat_tests)

one-kind : (a b : Kind) → same_kind a b ≡ true → a ≡ b
one-kind Kind.Msg Kind.Msg e = refl
one-kind Kind.Rpy Kind.Rpy e = refl
one-kind Kind.Err Kind.Err e = refl
one-kind Kind.Ans Kind.Ans e = refl
one-kind Kind.Nul Kind.Nul e = refl
one-kind Kind.Msg Kind.Rpy e = cc
one-kind Kind.Msg Kind.Err e = cc
one-kind Kind.Msg Kind.Ans e = cc
one-kind Kind.Msg Kind.Nul e = cc
one-kind Kind.Rpy Kind.Msg e = cc
one-kind Kind.Rpy Kind.Err e = cc
one-kind Kind.Rpy Kind.Ans e = cc
one-kind Kind.Rpy Kind.Nul e = cc
one-kind Kind.Err Kind.Msg e = cc
one-kind Kind.Err Kind.Rpy e = cc
one-kind Kind.Err Kind.Ans e = cc
one-kind Kind.Err Kind.Nul e = cc
one-kind Kind.Ans Kind.Msg e = cc
one-kind Kind.Ans Kind.Rpy e = cc
one-kind Kind.Ans Kind.Err e = cc
one-kind Kind.Ans Kind.Nul e = cc
one-kind Kind.Nul Kind.Msg e = cc
one-kind Kind.Nul Kind.Rpy e = cc
one-kind Kind.Nul Kind.Err e = cc
one-kind Kind.Nul Kind.Ans e = cc

one-flag : (a b : Bool) → same_flag a b ≡ true → a ≡ b
one-flag true true e = refl
one-flag true false e = cc
one-flag false true e = cc
one-flag false false e = refl

abbrev as_head : Kind → ℕ → ℕ → Bool → ℕ → ℕ → ℕ → Head
as_head kind channel msgno more seqno size ansno =
    record { kind = kind; channel = channel; msgno = msgno; more = more; seqno = seqno; size = size; ansno = ansno }

pub one-head : (a b : Head) → same_head a b ≡ true → a ≡ b
one-head a b e =
    let six = both-one (same_kind a.kind b.kind && a.channel == b.channel && a.msgno == b.msgno && same_flag a.more b.more && a.seqno == b.seqno && a.size == b.size) (a.ansno == b.ansno) e in
    let five = both-one (same_kind a.kind b.kind && a.channel == b.channel && a.msgno == b.msgno && same_flag a.more b.more && a.seqno == b.seqno) (a.size == b.size) six in
    let four = both-one (same_kind a.kind b.kind && a.channel == b.channel && a.msgno == b.msgno && same_flag a.more b.more) (a.seqno == b.seqno) five in
    let three = both-one (same_kind a.kind b.kind && a.channel == b.channel && a.msgno == b.msgno) (same_flag a.more b.more) four in
    let two = both-one (same_kind a.kind b.kind && a.channel == b.channel) (a.msgno == b.msgno) three in
    fields a b
    (one-kind a.kind b.kind (both-one (same_kind a.kind b.kind) (a.channel == b.channel) two))
    (number a.channel b.channel (both-two (same_kind a.kind b.kind) (a.channel == b.channel) two))
    (number a.msgno b.msgno (both-two (same_kind a.kind b.kind && a.channel == b.channel) (a.msgno == b.msgno) three))
    (one-flag a.more b.more (both-two (same_kind a.kind b.kind && a.channel == b.channel && a.msgno == b.msgno) (same_flag a.more b.more) four))
    (number a.seqno b.seqno (both-two (same_kind a.kind b.kind && a.channel == b.channel && a.msgno == b.msgno && same_flag a.more b.more) (a.seqno == b.seqno) five))
    (number a.size b.size (both-two (same_kind a.kind b.kind && a.channel == b.channel && a.msgno == b.msgno && same_flag a.more b.more && a.seqno == b.seqno) (a.size == b.size) six))
    (number a.ansno b.ansno (both-two (same_kind a.kind b.kind && a.channel == b.channel && a.msgno == b.msgno && same_flag a.more b.more && a.seqno == b.seqno && a.size == b.size) (a.ansno == b.ansno) e))
  where
    seven : (k k' : Kind) (c c' m m' : ℕ) (o o' : Bool) (s s' z z' n n' : ℕ) → k ≡ k' → c ≡ c' → m ≡ m' → o ≡ o' → s ≡ s' → z ≡ z' → n ≡ n' → as_head k c m o s z n ≡ as_head k' c' m' o' s' z' n'
    seven k k' c c' m m' o o' s s' z z' n n' e1 e2 e3 e4 e5 e6 e7 = rw (e1, e2, e3, e4, e5, e6, e7) refl

    fields : (a b : Head) → a.kind ≡ b.kind → a.channel ≡ b.channel → a.msgno ≡ b.msgno → a.more ≡ b.more → a.seqno ≡ b.seqno → a.size ≡ b.size → a.ansno ≡ b.ansno → a ≡ b
    fields a b k c m o s z n = seven a.kind b.kind a.channel b.channel a.msgno b.msgno a.more b.more a.seqno b.seqno a.size b.size a.ansno b.ansno k c m o s z n

pub record Follows (past : List Item) (head : Head) (payload : List ℕ) : Type 0 where
  pub before : List Item
  pub is : past ≡ began Side.Sent head ∷ before
  pub size : length payload ≡ head.size

pub follows-header : (past : List Item) (head : Head) (payload : List ℕ) → breaks_apart past head payload ≡ false → Follows past head payload
follows-header [] head payload e = cc
follows-header (began Side.Received begun ∷ past) head payload e = cc
follows-header (passed by begun octets ∷ past) head payload e = cc
follows-header (told by seq ∷ past) head payload e = cc
follows-header (began Side.Sent begun ∷ past) head payload e =
    let both = not-not (same_head begun head && length payload == head.size) e in
    let same : begun ≡ head = one-head begun head (both-one (same_head begun head) (length payload == head.size) both) in
    record {
      before = past;
      is = ap (λ (h : Head). began Side.Sent h ∷ past) same;
      size = number (length payload) head.size (both-two (same_head begun head) (length payload == head.size) both);
    }

-- ---- a part of a journal that has a frame where it has its header

module _ (terms : Terms) (part : List Item → List Item) (test : Item → List Item → Bool)
    (step : (item : Item) (past : List Item) → part (item ∷ past) ≡ (if test item past then item ∷ part past else part past))
    (first : under_way Side.Sent (part []) ≡ None)
    (same : (head : Head) (payload : List ℕ) (past : List Item) → test (passed Side.Sent head payload) (began Side.Sent head ∷ past) ≡ test (began Side.Sent head) past) where
  beside : (b : Bool) (item : Item) (past : List Item) → under_way Side.Sent (item ∷ part past) ≡ under_way Side.Sent (part past) → under_way Side.Sent (part past) ≡ None
      → under_way Side.Sent (if b then item ∷ part past else part past) ≡ None
  beside true item past e u = e ∙ u
  beside false item past e u = u

  after-frame : (head : Head) (payload : List ℕ) (past : List Item) → under_way Side.Sent (part past) ≡ None → (b : Bool) → test (began Side.Sent head) past ≡ b
      → under_way Side.Sent (part (passed Side.Sent head payload ∷ began Side.Sent head ∷ past)) ≡ None
  after-frame head payload past u true e =
      ap (under_way Side.Sent) (step (passed Side.Sent head payload) (began Side.Sent head ∷ past)
      ∙ ap (λ (b : Bool). if b then passed Side.Sent head payload ∷ part (began Side.Sent head ∷ past) else part (began Side.Sent head ∷ past)) (same head payload past ∙ e))
  after-frame head payload past u false e =
      ap (under_way Side.Sent) (step (passed Side.Sent head payload) (began Side.Sent head ∷ past)
      ∙ ap (λ (b : Bool). if b then passed Side.Sent head payload ∷ part (began Side.Sent head ∷ past) else part (began Side.Sent head ∷ past)) (same head payload past ∙ e)
      ∙ step (began Side.Sent head) past ∙ ap (λ (b : Bool). if b then began Side.Sent head ∷ part past else part past) e)
      ∙ u

  pub free : (past : List Item) → IsLawful terms none_tunes past → under_way Side.Sent past ≡ None → under_way Side.Sent (part past) ≡ None
  free [] l u = first
  free (began Side.Received head ∷ past) l u =
      ap (under_way Side.Sent) (step (began Side.Received head) past)
      ∙ beside (test (began Side.Received head) past) (began Side.Received head) past refl (free past (lawful-tail terms (began Side.Received head) past l) u)
  free (began Side.Sent head ∷ past) l u = cc
  free (passed Side.Received head payload ∷ past) l u =
      ap (under_way Side.Sent) (step (passed Side.Received head payload) past)
      ∙ beside (test (passed Side.Received head payload) past) (passed Side.Received head payload) past refl (free past (lawful-tail terms (passed Side.Received head payload) past l) u)
  free (told by seq ∷ past) l u =
      ap (under_way Side.Sent) (step (told by seq) past)
      ∙ beside (test (told by seq) past) (told by seq) past refl (free past (lawful-tail terms (told by seq) past l) u)
  free (passed Side.Sent head payload ∷ []) l u = let k = follows-header [] head payload (frame_keeps terms [] head payload l).apart in let bad = k.is in cc
  free (passed Side.Sent head payload ∷ began Side.Received begun ∷ past) l u =
      let k = follows-header (began Side.Received begun ∷ past) head payload (frame_keeps terms (began Side.Received begun ∷ past) head payload l).apart in let bad = k.is in cc
  free (passed Side.Sent head payload ∷ passed by begun octets ∷ past) l u =
      let k = follows-header (passed by begun octets ∷ past) head payload (frame_keeps terms (passed by begun octets ∷ past) head payload l).apart in let bad = k.is in cc
  free (passed Side.Sent head payload ∷ told by seq ∷ past) l u =
      let k = follows-header (told by seq ∷ past) head payload (frame_keeps terms (told by seq ∷ past) head payload l).apart in let bad = k.is in cc
  free (passed Side.Sent head payload ∷ began Side.Sent begun ∷ past) l u =
      let k = follows-header (began Side.Sent begun ∷ past) head payload (frame_keeps terms (began Side.Sent begun ∷ past) head payload l).apart in
      let is : began Side.Sent begun ∷ past ≡ began Side.Sent head ∷ k.before = k.is in
      let same_past : began Side.Sent begun ∷ past ≡ began Side.Sent head ∷ past = by-head begun head past k.before is in
      let l' : IsLawful terms none_tunes (began Side.Sent begun ∷ past) = lawful-tail terms (passed Side.Sent head payload) (began Side.Sent begun ∷ past) l in
      let apart = (head_keeps terms past begun l').apart in
      ap (λ (xs : List Item). under_way Side.Sent (part (passed Side.Sent head payload ∷ xs))) same_past
      ∙ after-frame head payload past (free past (lawful-tail terms (began Side.Sent begun) past l') apart) (test (began Side.Sent head) past) refl
    where
      by-head : (begun head : Head) (past before : List Item) → began Side.Sent begun ∷ past ≡ began Side.Sent head ∷ before → began Side.Sent begun ∷ past ≡ began Side.Sent head ∷ past
      by-head begun head past before e = let same : begun ≡ head = cc in ap (λ (h : Head). began Side.Sent h ∷ past) same
