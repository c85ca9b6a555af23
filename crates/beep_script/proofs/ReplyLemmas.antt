-- The reply to the own request at position 2, and all that a released sender tells.
use Rattle.std.proofs.Common.{◌≡◌, ℕ, ◌==◌, Bool, true, false, not, ◌&&◌, if◌then◌else◌, List, [], ◌∷◌, ◌++◌, Option, None, Some, refl, sym, ap, ◌∙◌, subst, ⊎_elim}
use Rattle.std.specs.List.{list_any}
use Rattle.std.specs.Option.{option_map_or}
use Rattle.std.proofs.lemmas.List.{append_assoc}
use Rattle.beep_chars.proofs.BoolLemmas.{left_of, right_of}
use Rattle.beep_frame.specs.declared.head.Head.{Head}
use Rattle.beep_frame.specs.declared.kind.Kind.{Kind}
use Rattle.beep_frame.specs.declared.rule.Rule.{Rule}
use Rattle.beep_frame.specs.Frame.{is_msg, is_ans, is_reply, same_kind}
use Rattle.beep_history.specs.declared.journal.Side.{Side}
use Rattle.beep_history.specs.Journal.{Item, began, passed, told}
use Rattle.beep_history.specs.Marks.{Request, latest, reply, answers, ends_reply, is_answered, position_of, marks}
use Rattle.beep_history.specs.Broken.{KeepsExchangeRules}
use Rattle.beep_mgmt.specs.Form.{Form, greeting, start, chosen, close, okay, fault}
use Rattle.beep_mgmt.specs.Message.{message_said}
use Rattle.beep_journal.specs.Broken.{none_tunes, broken_content}
use Rattle.beep_journal.specs.Laws.{IsUnbroken}
use Rattle.beep_journal.specs.Life.{life, is_released}
use Rattle.beep_journal.specs.Zero.{channel_of, zero_history, gathered, asked, said_at, said_to, is_refusal, has_form, completes_form}
use Rattle.beep_decide.specs.Asks.{is_close_of}
use Rattle.beep_lawful.specs.Closing.{has_begun}
use Rattle.beep_lawful.specs.Lawful.{granted_position, is_lawful}
use Rattle.beep_talk.specs.declared.plan.Command.{Command}
use Rattle.beep_talk.specs.Plan.{PlainPlan}
use Rattle.beep_script.specs.Desk.{grants_own, desk}
use Rattle.beep_script.specs.Refused.{fault_code, refused_at, refusal}
use Rattle.beep_script.specs.Script.{KeepsScript}
use Rattle.beep_script.specs.EachEnd.{WasGranted, HasSentAll}
use Rattle.beep_script.specs.Laws.{AreRead}
use Rattle.beep_script.proofs.CloseLemmas.{SaysRelease, said-release, close-granted}
use Rattle.beep_script.proofs.ReleaseLemmas.{Passing, passing-later, either-of, ReleasedAt, released-moment}
use Rattle.beep_script.proofs.GrantLemmas.{refused-none, refused-here, unbroken-at, lawful-at, keeps-at, says-later, ReadyAt, ok-ready, begun-at, said-before, waits-as-release}
use Rattle.beep_script.proofs.SendLemmas.{lines-sent}

-- ---- the reply

record RepliedAt (journal : List Item) : Type 0 where
  moment : Passing Side.Received journal
  ends : ends_reply moment.head ≡ true
  answers_it : answers Side.Sent 2 (zero_history moment.earlier) Side.Received moment.head ≡ true

replied-later : (item : Item) (journal : List Item) → RepliedAt journal → RepliedAt (item ∷ journal)
replied-later item journal r = record { moment = passing-later Side.Received item journal r.moment; ends = r.ends; answers_it = r.answers_it }

replied-item : (item : Item) (journal : List Item) → (channel_of item == 0) ≡ true → (is_answered Side.Sent 2 (zero_history journal) ≡ true → RepliedAt journal)
    → is_answered Side.Sent 2 (item ∷ zero_history journal) ≡ true → RepliedAt (item ∷ journal)
replied-item (began by head) journal zero before is = replied-later (began by head) journal (before is)
replied-item (told by seq) journal zero before is = replied-later (told by seq) journal (before is)
replied-item (passed Side.Sent head payload) journal zero before is = replied-later (passed Side.Sent head payload) journal (before is)
replied-item (passed Side.Received head payload) journal zero before is = by (answers Side.Sent 2 past Side.Received head) refl is
  where
    past : List Item
    past = zero_history journal

    here : answers Side.Sent 2 past Side.Received head ≡ true → ends_reply head ≡ true → RepliedAt (passed Side.Received head payload ∷ journal)
    here names ends = record {
      moment = record { later = []; head = head; payload = payload; earlier = journal; is = refl; zero = zero; last = left_of (not head.more) (not (is_ans head.kind)) ends };
      ends = ends;
      answers_it = names;
    }

    by : (b : Bool) → answers Side.Sent 2 past Side.Received head ≡ b → list_any ends_reply (if b then head ∷ reply Side.Sent 2 past else reply Side.Sent 2 past) ≡ true
        → RepliedAt (passed Side.Received head payload ∷ journal)
    by true names is =
        ⊎_elim (λ ends. here names ends) (λ rest. replied-later (passed Side.Received head payload) journal (before rest))
        (either-of (ends_reply head) (list_any ends_reply (reply Side.Sent 2 past)) is)
    by false names is = replied-later (passed Side.Received head payload) journal (before is)

replied-at : (journal : List Item) → is_answered Side.Sent 2 (zero_history journal) ≡ true → RepliedAt journal
replied-at [] is = absurd cc
replied-at (item ∷ journal) is = by (channel_of item == 0) refl is (replied-at journal)
  where
    by : (b : Bool) → (channel_of item == 0) ≡ b → is_answered Side.Sent 2 (if b then item ∷ zero_history journal else zero_history journal) ≡ true
        → (is_answered Side.Sent 2 (zero_history journal) ≡ true → RepliedAt journal) → RepliedAt (item ∷ journal)
    by true zero is before = replied-item item journal zero before is
    by false zero is before = replied-later item journal (before is)

-- ---- which is the grant, where nothing was refused

not-broken : (a b c d : Bool) → (if a && b && c && not d then Some Rule.ZeroReply else None) ≡ None → a ≡ true → b ≡ true → c ≡ true → d ≡ true
not-broken true true true true none x y z = refl
not-broken true true true false none x y z = absurd cc
not-broken false b c d none x y z = absurd cc
not-broken true false c d none x y z = absurd cc
not-broken true true false d none x y z = absurd cc

has-form : (journal : List Item) (head : Head) (payload : List ℕ) → broken_content Side.Received journal head payload ≡ None → (head.channel == 0) ≡ true → is_reply head.kind ≡ true
    → not head.more ≡ true → completes_form Side.Received head payload (zero_history journal) ≡ true
unfolding broken_content
has-form journal head payload none zero replies last =
    not-broken (head.channel == 0) (is_reply head.kind) (not head.more) (completes_form Side.Received head payload (zero_history journal)) none zero replies last

fault-coded : (form : Option Form) → is_refusal form ≡ true → fault_code form ≡ None → ⊥
fault-coded None is none = absurd cc
fault-coded (Some (greeting features localize profiles)) is none = absurd cc
fault-coded (Some (start number server profiles)) is none = absurd cc
fault-coded (Some (chosen profile)) is none = absurd cc
fault-coded (Some (close number code note)) is none = absurd cc
fault-coded (Some okay) is none = absurd cc
fault-coded (Some (fault code note)) is none = absurd cc

all-four : (a b c d e : Bool) → a ≡ true → b ≡ true → c ≡ true → d ≡ true → e ≡ true → (a && b && c && d && e) ≡ true
all-four true true true true e x y z w v = v
all-four false b c d e x y z w v = absurd cc
all-four true false c d e x y z w v = absurd cc
all-four true true false d e x y z w v = absurd cc
all-four true true true false e x y z w v = absurd cc

-- by its kind
kind-grants : (kind : Kind) (journal : List Item) (head : Head) (payload : List ℕ) → head.kind ≡ kind → (head.channel == 0) ≡ true → not head.more ≡ true
    → is_reply kind ≡ true → (position_of Side.Received (zero_history journal) head == 2) ≡ true
    → has_form kind (position_of Side.Received (zero_history journal) head) (said_to Side.Received head (zero_history journal))
    (message_said (gathered Side.Received (zero_history journal) ++ payload)) ≡ true
    → completes_form Side.Received head payload (zero_history journal) ≡ true
    → refused_at Command.Send (passed Side.Received head payload) journal ≡ None
    → grants_own 2 (passed Side.Received head payload) journal ≡ true
kind-grants Kind.Msg journal head payload is zero last replies at form fits none = absurd cc
kind-grants Kind.Ans journal head payload is zero last replies at form fits none = absurd cc
kind-grants Kind.Nul journal head payload is zero last replies at form fits none = absurd cc
kind-grants Kind.Rpy journal head payload is zero last replies at form fits none =
    all-four (head.channel == 0) (same_kind Kind.Rpy head.kind) (not head.more) (position_of Side.Received (zero_history journal) head == 2)
    (completes_form Side.Received head payload (zero_history journal)) zero (ap (same_kind Kind.Rpy) is) last at fits
kind-grants Kind.Err journal head payload is zero last replies at form fits none =
    absurd (fault-coded (message_said (gathered Side.Received (zero_history journal) ++ payload)) form (sym (refused zero last is) ∙ none))
  where
    refused : (head.channel == 0) ≡ true → not head.more ≡ true → head.kind ≡ Kind.Err
        → refused_at Command.Send (passed Side.Received head payload) journal ≡ fault_code (message_said (gathered Side.Received (zero_history journal) ++ payload))
    refused zero last is = rw (zero, last, is) refl

named-two : (o : Option Request) → option_map_or (λ request. request.position == 2) o false ≡ true → (option_map_or (λ request. request.position) o 0 == 2) ≡ true
named-two None is = absurd cc
named-two (Some request) is = is

placed-two : (past : List Item) (head : Head) → is_reply head.kind ≡ true → option_map_or (λ request. request.position == 2) (latest Side.Sent head.msgno past) false ≡ true
    → (position_of Side.Received past head == 2) ≡ true
placed-two past head replies named = by (is_msg head.kind) refl replies
  where
    by : (b : Bool) → is_msg head.kind ≡ b → not b ≡ true → (position_of Side.Received past head == 2) ≡ true
    by true e none = absurd cc
    by false e none = rw (e) (named-two (latest Side.Sent head.msgno past) named)

reply-grants : (journal : List Item) → refusal Command.Send journal ≡ None → IsUnbroken none_tunes journal → RepliedAt journal → WasGranted 2 journal
reply-grants journal none unbroken r =
    let m = r.moment in
    let item : Item = passed Side.Received m.head m.payload in
    let past = zero_history m.earlier in
    let now = subst (λ (j : List Item). refusal Command.Send j ≡ None) m.is none in
    let refused = refused-here Command.Send item m.earlier (refused-none Command.Send m.later (item ∷ m.earlier) now) in
    let content = (unbroken-at m.later (item ∷ m.earlier) (subst (λ (j : List Item). IsUnbroken none_tunes j) m.is unbroken)).0 in
    let replies = left_of (is_reply m.head.kind) (option_map_or (λ request. request.position == 2) (latest Side.Sent m.head.msgno past) false) r.answers_it in
    let named = right_of (is_reply m.head.kind) (option_map_or (λ request. request.position == 2) (latest Side.Sent m.head.msgno past) false) r.answers_it in
    let at = placed-two past m.head replies named in
    let fits = has-form m.earlier m.head m.payload content m.zero replies m.last in
    record {
      later = m.later;
      item = item;
      earlier = m.earlier;
      is = m.is;
      grants = kind-grants m.head.kind m.earlier m.head m.payload refl m.zero m.last replies at fits fits refused;
    }

-- ---- all of it

granted-in : (later journal : List Item) → WasGranted 2 journal → WasGranted 2 (later ++ journal)
granted-in later journal g = record {
  later = later ++ g.later;
  item = g.item;
  earlier = g.earlier;
  is = ap (λ xs. later ++ xs) g.is ∙ sym (append_assoc later g.later (g.item ∷ g.earlier));
  grants = g.grants;
}

module _ (plan : PlainPlan) (journal : List Item) (send : plan.command ≡ Command.Send) (script : KeepsScript plan journal)
    (keeps : KeepsExchangeRules (zero_history journal)) (read : AreRead (desk plan journal).listed) (unbroken : IsUnbroken none_tunes journal)
    (lawful : is_lawful plan.terms none_tunes journal ≡ true) (none : refusal Command.Send journal ≡ None) where
  -- a close of 0 that this end asked
  by-own : (later : List Item) (item : Item) (earlier : List Item) → journal ≡ later ++ item ∷ earlier → SaysRelease (marks Side.Sent (zero_history earlier)) → WasGranted 2 journal
  by-own later item earlier is says =
      close-granted plan journal send script read
      (subst (λ (j : List Item). SaysRelease (marks Side.Sent (zero_history j))) (sym is)
      (says-later later (item ∷ earlier) (says-later (item ∷ []) earlier says)))

  keeps-before : (later : List Item) (item : Item) (earlier : List Item) → journal ≡ later ++ item ∷ earlier → KeepsExchangeRules (zero_history earlier)
  keeps-before later item earlier is =
      keeps-at (item ∷ []) earlier (keeps-at later (item ∷ earlier) (subst (λ (j : List Item). KeepsExchangeRules (zero_history j)) is keeps))

  by-ours : ReleasedAt Side.Received journal → WasGranted 2 journal
  by-ours r =
      let m = r.moment in
      by-own m.later (passed Side.Received m.head m.payload) m.earlier m.is
      (said-release m.earlier (position_of Side.Received (zero_history m.earlier) m.head)
      (keeps-before m.later (passed Side.Received m.head m.payload) m.earlier m.is) r.close)

  -- the peer's close of 0 was granted: the own request at 2 was answered, or says a close of 0
  by-answer : (later : List Item) (item : Item) (earlier : List Item) → journal ≡ later ++ item ∷ earlier
      → {p : ℕ} → (ready : ReadyAt p (asked Side.Sent (zero_history earlier)) earlier) → refusal Command.Send ready.now ≡ None → IsUnbroken none_tunes ready.now
      → has_begun 2 ready.now ≡ true → (b : Bool) → is_answered Side.Sent 2 (zero_history ready.now) ≡ b → WasGranted 2 journal
  by-answer later item earlier is ready none_now whole begun true answered =
      subst (WasGranted 2) (sym is)
      (granted-in later (item ∷ earlier) (granted-in (item ∷ []) earlier
      (subst (WasGranted 2) (sym ready.is) (granted-in ready.later ready.now (reply-grants ready.now none_now whole (replied-at ready.now answered))))))
  by-answer later item earlier is ready none_now whole begun false waits =
      by-own later item earlier is
      (said-release earlier 2 (keeps-before later item earlier is)
      (waits-as-release (asked Side.Sent (zero_history earlier)) (zero_history ready.now) ready.ready begun waits))

  by-theirs : ReleasedAt Side.Sent journal → WasGranted 2 journal
  by-theirs r =
      let m = r.moment in
      let item : Item = passed Side.Sent m.head m.payload in
      let p = granted_position m.earlier m.head in
      let ready = ok-ready plan.terms m.earlier m.head m.payload
      (lawful-at plan.terms m.later (item ∷ m.earlier) (subst (λ (j : List Item). is_lawful plan.terms none_tunes j ≡ true) m.is lawful))
      m.zero r.rpy m.last r.close in
      let close_now = said-before ready.later ready.now p ready.come
      (subst (λ (j : List Item). is_close_of 0 (said_at p (asked Side.Received (zero_history j))) ≡ true) ready.is r.close) in
      let none_before : refusal Command.Send m.earlier ≡ None =
      refused-none Command.Send (item ∷ []) m.earlier (refused-none Command.Send m.later (item ∷ m.earlier) (subst (λ (j : List Item). refusal Command.Send j ≡ None) m.is none)) in
      let none_now = refused-none Command.Send ready.later ready.now (subst (λ (j : List Item). refusal Command.Send j ≡ None) ready.is none_before) in
      let whole_before : IsUnbroken none_tunes m.earlier =
      unbroken-at (item ∷ []) m.earlier (unbroken-at m.later (item ∷ m.earlier) (subst (λ (j : List Item). IsUnbroken none_tunes j) m.is unbroken)) in
      let whole_now = unbroken-at ready.later ready.now (subst (λ (j : List Item). IsUnbroken none_tunes j) ready.is whole_before) in
      let begun = begun-at ready.now p none_now close_now in
      by-answer m.later item m.earlier m.is ready none_now whole_now begun (is_answered Side.Sent 2 (zero_history ready.now)) refl

  granted : is_released journal ≡ true → WasGranted 2 journal
  granted released = ⊎_elim by-ours by-theirs (released-moment journal released)

  pub sent-all : KeepsExchangeRules (life 1 1 journal) → is_released journal ≡ true → HasSentAll plan journal
  sent-all one released = record {
    released = released;
    lines = lines-sent plan journal send script keeps one (granted released);
    closed = granted released;
  }
