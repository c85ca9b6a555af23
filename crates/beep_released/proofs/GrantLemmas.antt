-- The reply to the own request at position 2, which grants it where nothing was refused.
use Rattle.std.proofs.Common.{◌≡◌, ℕ, ◌==◌, Bool, true, false, not, ◌&&◌, if◌then◌else◌, List, [], ◌∷◌, ◌++◌, Option, None, Some, refl, sym, ap, ◌∙◌, subst, ⊎_elim}
use Rattle.std.specs.List.{list_any}
use Rattle.std.specs.Option.{option_map_or}
use Rattle.std.proofs.lemmas.List.{append_assoc}
use Rattle.beep_script.specs.beep_chars.proofs.BoolLemmas.{left_of, right_of}
use Rattle.beep_script.specs.beep_frame.specs.declared.head.Head.{Head}
use Rattle.beep_script.specs.beep_frame.specs.declared.kind.Kind.{Kind}
use Rattle.beep_script.specs.beep_frame.specs.declared.rule.Rule.{Rule}
use Rattle.beep_script.specs.beep_frame.specs.Frame.{is_msg, is_ans, is_reply, same_kind}
use Rattle.beep_script.specs.beep_history.specs.declared.journal.Side.{Side}
use Rattle.beep_script.specs.beep_history.specs.Journal.{Item, began, passed, told}
use Rattle.beep_script.specs.beep_history.specs.Marks.{Request, latest, reply, answers, ends_reply, is_answered, position_of}
use Rattle.beep_script.specs.beep_mgmt.specs.Form.{Form, greeting, start, chosen, close, okay, fault}
use Rattle.beep_script.specs.beep_mgmt.specs.Message.{message_said}
use Rattle.beep_script.specs.beep_journal.specs.Broken.{none_tunes, broken_content}
use Rattle.beep_script.specs.beep_journal.specs.Laws.{IsUnbroken}
use Rattle.beep_script.specs.beep_journal.specs.Zero.{channel_of, zero_history, gathered, said_to, is_refusal, has_form, completes_form}
use Rattle.beep_script.specs.beep_talk.specs.declared.plan.Command.{Command}
use Rattle.beep_script.specs.Desk.{grants_own}
use Rattle.beep_script.specs.Refused.{fault_code, refused_at, refusal}
use Rattle.beep_script.specs.EachEnd.{WasGranted}
use Rattle.beep_released.proofs.ReleaseLemmas.{Passing, passing-later, either-of}
use Rattle.beep_released.proofs.MomentLemmas.{refused-none, refused-here, unbroken-at}

-- ---- the reply

pub record RepliedAt (journal : List Item) : Type 0 where
  pub moment : Passing Side.Received journal
  pub ends : ends_reply moment.head ≡ true
  pub answers_it : answers Side.Sent 2 (zero_history moment.earlier) Side.Received moment.head ≡ true

replied-later : (item : Item) (journal : List Item) → RepliedAt journal → RepliedAt (item ∷ journal)
replied-later item journal r = record { moment = passing-later Side.Received item journal r.moment; ends = r.ends; answers_it = r.answers_it }

replied-item : (item : Item) (journal : List Item) → (channel_of item == 0) ≡ true → (is_answered Side.Sent 2 (zero_history journal) ≡ true → RepliedAt journal)
    → is_answered Side.Sent 2 (item ∷ zero_history journal) ≡ true → RepliedAt (item ∷ journal)
replied-item (began by head) journal zero before is = replied-later (began by head) journal (before is)
replied-item (told by seq) journal zero before is = replied-later (told by seq) journal (before is)
replied-item (passed Side.Sent head payload) journal zero before is = replied-later (passed Side.Sent head payload) journal (before is)
replied-item (passed Side.Received head payload) journal zero before is = by (answers Side.Sent 2 past Side.Received head) refl is
  where
    past : List Item
    past = zero_history journal

    here : answers Side.Sent 2 past Side.Received head ≡ true → ends_reply head ≡ true → RepliedAt (passed Side.Received head payload ∷ journal)
    here names ends = record {
      moment = record { later = []; head = head; payload = payload; earlier = journal; is = refl; zero = zero; last = left_of (not head.more) (not (is_ans head.kind)) ends };
      ends = ends;
      answers_it = names;
    }

    by : (b : Bool) → answers Side.Sent 2 past Side.Received head ≡ b → list_any ends_reply (if b then head ∷ reply Side.Sent 2 past else reply Side.Sent 2 past) ≡ true
        → RepliedAt (passed Side.Received head payload ∷ journal)
    by true names is =
        ⊎_elim (λ ends. here names ends) (λ rest. replied-later (passed Side.Received head payload) journal (before rest))
        (either-of (ends_reply head) (list_any ends_reply (reply Side.Sent 2 past)) is)
    by false names is = replied-later (passed Side.Received head payload) journal (before is)

pub replied-at : (journal : List Item) → is_answered Side.Sent 2 (zero_history journal) ≡ true → RepliedAt journal
replied-at [] is = absurd cc
replied-at (item ∷ journal) is = by (channel_of item == 0) refl is (replied-at journal)
  where
    by : (b : Bool) → (channel_of item == 0) ≡ b → is_answered Side.Sent 2 (if b then item ∷ zero_history journal else zero_history journal) ≡ true
        → (is_answered Side.Sent 2 (zero_history journal) ≡ true → RepliedAt journal) → RepliedAt (item ∷ journal)
    by true zero is before = replied-item item journal zero before is
    by false zero is before = replied-later item journal (before is)

-- ---- which is the grant, where nothing was refused

not-broken : (a b c d : Bool) → (if a && b && c && not d then Some Rule.ZeroReply else None) ≡ None → a ≡ true → b ≡ true → c ≡ true → d ≡ true
not-broken true true true true none x y z = refl
not-broken true true true false none x y z = absurd cc
not-broken false b c d none x y z = absurd cc
not-broken true false c d none x y z = absurd cc
not-broken true true false d none x y z = absurd cc

has-form : (journal : List Item) (head : Head) (payload : List ℕ) → broken_content Side.Received journal head payload ≡ None → (head.channel == 0) ≡ true → is_reply head.kind ≡ true
    → not head.more ≡ true → completes_form Side.Received head payload (zero_history journal) ≡ true
unfolding broken_content
has-form journal head payload none zero replies last =
    not-broken (head.channel == 0) (is_reply head.kind) (not head.more) (completes_form Side.Received head payload (zero_history journal)) none zero replies last

fault-coded : (form : Option Form) → is_refusal form ≡ true → fault_code form ≡ None → ⊥
fault-coded None is none = absurd cc
fault-coded (Some (greeting features localize profiles)) is none = absurd cc
fault-coded (Some (start number server profiles)) is none = absurd cc
fault-coded (Some (chosen profile)) is none = absurd cc
fault-coded (Some (close number code note)) is none = absurd cc
fault-coded (Some okay) is none = absurd cc
fault-coded (Some (fault code note)) is none = absurd cc

all-four : (a b c d e : Bool) → a ≡ true → b ≡ true → c ≡ true → d ≡ true → e ≡ true → (a && b && c && d && e) ≡ true
all-four true true true true e x y z w v = v
all-four false b c d e x y z w v = absurd cc
all-four true false c d e x y z w v = absurd cc
all-four true true false d e x y z w v = absurd cc
all-four true true true false e x y z w v = absurd cc

-- by its kind
kind-grants : (kind : Kind) (journal : List Item) (head : Head) (payload : List ℕ) → head.kind ≡ kind → (head.channel == 0) ≡ true → not head.more ≡ true
    → is_reply kind ≡ true → (position_of Side.Received (zero_history journal) head == 2) ≡ true
    → has_form kind (position_of Side.Received (zero_history journal) head) (said_to Side.Received head (zero_history journal))
    (message_said (gathered Side.Received (zero_history journal) ++ payload)) ≡ true
    → completes_form Side.Received head payload (zero_history journal) ≡ true
    → refused_at Command.Send (passed Side.Received head payload) journal ≡ None
    → grants_own 2 (passed Side.Received head payload) journal ≡ true
kind-grants Kind.Msg journal head payload is zero last replies at form fits none = absurd cc
kind-grants Kind.Ans journal head payload is zero last replies at form fits none = absurd cc
kind-grants Kind.Nul journal head payload is zero last replies at form fits none = absurd cc
kind-grants Kind.Rpy journal head payload is zero last replies at form fits none =
    all-four (head.channel == 0) (same_kind Kind.Rpy head.kind) (not head.more) (position_of Side.Received (zero_history journal) head == 2)
    (completes_form Side.Received head payload (zero_history journal)) zero (ap (same_kind Kind.Rpy) is) last at fits
kind-grants Kind.Err journal head payload is zero last replies at form fits none =
    absurd (fault-coded (message_said (gathered Side.Received (zero_history journal) ++ payload)) form (sym (refused zero last is) ∙ none))
  where
    refused : (head.channel == 0) ≡ true → not head.more ≡ true → head.kind ≡ Kind.Err
        → refused_at Command.Send (passed Side.Received head payload) journal ≡ fault_code (message_said (gathered Side.Received (zero_history journal) ++ payload))
    refused zero last is = rw (zero, last, is) refl

named-two : (o : Option Request) → option_map_or (λ request. request.position == 2) o false ≡ true → (option_map_or (λ request. request.position) o 0 == 2) ≡ true
named-two None is = absurd cc
named-two (Some request) is = is

placed-two : (past : List Item) (head : Head) → is_reply head.kind ≡ true → option_map_or (λ request. request.position == 2) (latest Side.Sent head.msgno past) false ≡ true
    → (position_of Side.Received past head == 2) ≡ true
placed-two past head replies named = by (is_msg head.kind) refl replies
  where
    by : (b : Bool) → is_msg head.kind ≡ b → not b ≡ true → (position_of Side.Received past head == 2) ≡ true
    by true e none = absurd cc
    by false e none = rw (e) (named-two (latest Side.Sent head.msgno past) named)

pub reply-grants : (journal : List Item) → refusal Command.Send journal ≡ None → IsUnbroken none_tunes journal → RepliedAt journal → WasGranted 2 journal
reply-grants journal none unbroken r =
    let m = r.moment in
    let item : Item = passed Side.Received m.head m.payload in
    let past = zero_history m.earlier in
    let now = subst (λ (j : List Item). refusal Command.Send j ≡ None) m.is none in
    let refused = refused-here Command.Send item m.earlier (refused-none Command.Send m.later (item ∷ m.earlier) now) in
    let content = (unbroken-at m.later (item ∷ m.earlier) (subst (λ (j : List Item). IsUnbroken none_tunes j) m.is unbroken)).0 in
    let replies = left_of (is_reply m.head.kind) (option_map_or (λ request. request.position == 2) (latest Side.Sent m.head.msgno past) false) r.answers_it in
    let named = right_of (is_reply m.head.kind) (option_map_or (λ request. request.position == 2) (latest Side.Sent m.head.msgno past) false) r.answers_it in
    let at = placed-two past m.head replies named in
    let fits = has-form m.earlier m.head m.payload content m.zero replies m.last in
    record {
      later = m.later;
      item = item;
      earlier = m.earlier;
      is = m.is;
      grants = kind-grants m.head.kind m.earlier m.head m.payload refl m.zero m.last replies at fits fits refused;
    }

-- ---- later

pub granted-in : (later journal : List Item) → WasGranted 2 journal → WasGranted 2 (later ++ journal)
granted-in later journal g = record {
  later = later ++ g.later;
  item = g.item;
  earlier = g.earlier;
  is = ap (λ xs. later ++ xs) g.is ∙ sym (append_assoc later g.later (g.item ∷ g.earlier));
  grants = g.grants;
}
