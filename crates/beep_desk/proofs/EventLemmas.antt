-- What an answer waits for once an item has passed is what it waited for before, or the life has ended.
use Rattle.std.proofs.Common.{◌≡◌, ◌∙◌, refl, ap, ℕ, ◌+◌, ◌==◌, ◌<◌, Bool, true, false, not, ◌&&◌, ◌||◌, if◌then◌else◌, List, [], ◌∷◌, ◌++◌, length, Option, None, Some, arith, ◌⊎◌, inl, inr}
use Rattle.std.specs.Prelude.{nat_lt}
use Rattle.std.specs.List.{list_any}
use Rattle.beep_peer.specs.beep_frame.specs.declared.head.Head.{Head}
use Rattle.beep_peer.specs.beep_frame.specs.declared.kind.Kind.{Kind}
use Rattle.beep_peer.specs.beep_frame.specs.Frame.{is_msg, same_kind}
use Rattle.beep_peer.specs.beep_history.specs.declared.journal.Side.{Side}
use Rattle.beep_peer.specs.beep_history.specs.Journal.{Item, began, passed, told, other, same_side}
use Rattle.beep_peer.specs.beep_history.specs.Marks.{answers, ends_reply, is_answered, position_of, reply}
use Rattle.beep_peer.specs.beep_mgmt.specs.Form.{Form, greeting, start, chosen, close, okay, fault}
use Rattle.beep_peer.specs.beep_mgmt.specs.Message.{message_said}
use Rattle.beep_peer.specs.beep_journal.specs.Lives.{Event, close_came, start_granted, close_granted, has_ended, is_live, life_named, lives}
use Rattle.beep_peer.specs.beep_journal.specs.Zero.{asked, coming, completes_form, effect, events, gathered, granting, said_to, zero_events, zero_history}
use Rattle.beep_peer.specs.beep_journal.proofs.JournalLemmas.{above-events, began-events, told-events}
use Rattle.beep_peer.specs.beep_journal.proofs.MomentLemmas.{and-false, apart-less, apart-more, named-within}
use Rattle.beep_peer.specs.beep_asked.specs.Asked.{names_live}
use Rattle.beep_peer.specs.beep_management.specs.declared.wait.Wait.{Wait}
use Rattle.beep_peer.specs.beep_management.specs.Managed.{Prepared}
use Rattle.beep_script.specs.beep_talk.specs.AtZero.{Answer}
use Rattle.beep_desk.specs.Desks.{AllMayWait, MayWait}
use Rattle.beep_desk.specs.Waiting.{AllWait, WaitsFor}
use Rattle.beep_desk.proofs.ClearLemmas.{may-wait}
use Rattle.beep_desk.proofs.OwedLemmas.{AllOwed}

-- ---- the moments of one item

-- one at most, which is no close that comes at this position
abbrev pub AreLate : ℕ → List Event → Type 0
AreLate p [] = Unit {0}
AreLate p (close_came side q m ∷ []) = (same_side side Side.Received && q == p) ≡ false
AreLate p (start_granted m ∷ []) = Unit {0}
AreLate p (close_granted side q m ∷ []) = Unit {0}
AreLate p (one ∷ next ∷ others) = ⊥

coming-late : (by : Side) (q p : ℕ) (form : Option Form) → (same_side by Side.Received && q == p) ≡ false → AreLate p (coming by q form)
coming-late by q p None late = tt
coming-late by q p (Some (greeting features localize profiles)) late = tt
coming-late by q p (Some (start number server profiles)) late = tt
coming-late by q p (Some (chosen profile)) late = tt
coming-late by q p (Some (close number code note)) late = late
coming-late by q p (Some okay) late = tt
coming-late by q p (Some (fault code note)) late = tt

granting-late : (by : Side) (q p : ℕ) (form : Option Form) → AreLate p (granting by q form)
granting-late by q p None = tt
granting-late by q p (Some (greeting features localize profiles)) = tt
granting-late by q p (Some (start number server profiles)) = of (nat_lt 0 number)
  where
    of : (b : Bool) → AreLate p (if b then start_granted number ∷ [] else [])
    of true = tt
    of false = tt
granting-late by q p (Some (chosen profile)) = tt
granting-late by q p (Some (close number code note)) = tt
granting-late by q p (Some okay) = tt
granting-late by q p (Some (fault code note)) = tt

effect-late : (by : Side) (head : Head) (payload : List ℕ) (zero : List Item) (p : ℕ) → p < length (asked Side.Received zero) → AreLate p (effect by head payload zero)
effect-late by head payload zero p less = of head.more (is_msg head.kind) (same_kind Kind.Rpy head.kind && completes_form by head payload zero)
  where
    late : (side : Side) → (same_side side Side.Received && length (asked side zero) == p) ≡ false
    late Side.Received = apart-more (length (asked Side.Received zero)) p less
    late Side.Sent = refl

    of : (m k g : Bool) → AreLate p (if m then [] else if k then coming by (length (asked by zero)) (message_said (gathered by zero ++ payload))
        else if g then granting (other by) (position_of by zero head) (said_to by head zero) else [])
    of true k g = tt
    of false true g = coming-late by (length (asked by zero)) p (message_said (gathered by zero ++ payload)) (late by)
    of false false true = granting-late (other by) (position_of by zero head) p (said_to by head zero)
    of false false false = tt

-- the moments of an item, before those of the journal
pub record Fresh (item : Item) (journal : List Item) : Type 0 where
  pub moments : List Event
  pub are : events (item ∷ journal) ≡ moments ++ events journal
  pub late : (p : ℕ) → p < length (asked Side.Received (zero_history journal)) → AreLate p moments

pub fresh-of : (item : Item) (journal : List Item) → Fresh item journal
fresh-of (began by head) journal = record { moments = []; are = began-events by head journal; late = λ p less. tt }
fresh-of (told by seq) journal = record { moments = []; are = told-events by seq journal; late = λ p less. tt }
fresh-of (passed by head payload) journal = of (head.channel == 0) refl
  where
    of : (b : Bool) → (head.channel == 0) ≡ b → Fresh (passed by head payload) journal
    of true e = record {
      moments = effect by head payload (zero_history journal);
      are = ap (λ (b : Bool). zero_events (if b then passed by head payload ∷ zero_history journal else zero_history journal)) e;
      late = λ p less. effect-late by head payload (zero_history journal) p less;
    }
    of false e = record { moments = []; are = above-events by head payload journal e; late = λ p less. tt }

-- ---- one moment more

less-live : (a b h c : Bool) → ((a && not h) && c) ≡ false → ((a && not (b || h)) && c) ≡ false
less-live false b h c e = refl
less-live true true h c e = refl
less-live true false h c e = e

both-left : (a b : Bool) → (a && b) ≡ true → a ≡ true
both-left true b e = refl
both-left false b e = absurd cc

module _ (n p : ℕ) (es : List Event) where
  abbrev names_by : ℕ → Bool
  names_by l = (nat_lt 0 l && not (has_ended n l es)) && life_named n Side.Received p es == l

  -- a close that named no live life names none
  pub names-none : (e : Event) → AreLate p (e ∷ []) → names_live n Side.Received p es ≡ false → names_live n Side.Received p (e ∷ es) ≡ false
  names-none (close_came side q m) late none = ap (λ (b : Bool). is_live n es && (if b then lives n es else life_named n Side.Received p es) == lives n es) late ∙ none
  names-none (start_granted m) late none = of (m == n && not (is_live n es))
    where
      of : (b : Bool) → names_by (if b then lives n es + 1 else lives n es) ≡ false
      of true =
          let within = named-within n Side.Received p es in
          ap (λ (x : Bool). (nat_lt 0 (lives n es + 1) && not (has_ended n (lives n es + 1) es)) && x)
          (apart-less (life_named n Side.Received p es) (lives n es + 1) (omega (arith, within)))
          ∙ and-false (nat_lt 0 (lives n es + 1) && not (has_ended n (lives n es + 1) es))
      of false = none
  names-none (close_granted side q m) late none =
      less-live (nat_lt 0 (lives n es)) (m == n && life_named n side q es == lives n es) (has_ended n (lives n es) es) (life_named n Side.Received p es == lives n es) none

  -- one that named the live life names it, or it isn't live
  pub names-on : (e : Event) → AreLate p (e ∷ []) → names_live n Side.Received p es ≡ true → (names_live n Side.Received p (e ∷ es) ≡ true) ⊎ (is_live n (e ∷ es) ≡ false)
  names-on (close_came side q m) late named = inl (ap (λ (b : Bool). is_live n es && (if b then lives n es else life_named n Side.Received p es) == lives n es) late ∙ named)
  names-on (start_granted m) late named =
      let live : is_live n es ≡ true = both-left (is_live n es) (life_named n Side.Received p es == lives n es) named in
      let none : (m == n && not (is_live n es)) ≡ false = ap (λ (b : Bool). m == n && not b) live ∙ and-false (m == n) in
      inl (ap (λ (b : Bool). names_by (if b then lives n es + 1 else lives n es)) none ∙ named)
  names-on (close_granted side q m) late named = of (m == n && life_named n side q es == lives n es)
    where
      of : (b : Bool) → (((nat_lt 0 (lives n es) && not (b || has_ended n (lives n es) es)) && life_named n Side.Received p es == lives n es) ≡ true)
          ⊎ ((nat_lt 0 (lives n es) && not (b || has_ended n (lives n es) es)) ≡ false)
      of true = inr (and-false (nat_lt 0 (lives n es)))
      of false = inl named

-- ---- what an answer waits for

pub waits-on : (fresh es : List Event) (p : ℕ) (closes : Option ℕ) (waits : Wait) → AreLate p fresh → WaitsFor es p closes waits → MayWait (fresh ++ es) p closes waits
waits-on [] es p closes waits late w = may-wait es p closes waits w
waits-on (e ∷ []) es p None waits late w = w
waits-on (e ∷ []) es p (Some n) Wait.Nothing late w = (w.0, names-none n p es e late w.1)
waits-on (e ∷ []) es p (Some n) (Wait.Life m) late w = (w.0, w.1, names-on n p es e late w.2)
waits-on (e ∷ []) es p (Some n) Wait.All late w = w
waits-on (e ∷ next ∷ others) es p closes waits late w = absurd late

pub all-wait-on : (fresh es : List Event) (forms : List (Option Form)) (owed : List Answer) (answers : List Prepared) → ((p : ℕ) → p < length forms → AreLate p fresh)
    → AllOwed forms owed → AllWait es owed answers → AllMayWait (fresh ++ es) owed answers
all-wait-on fresh es forms [] [] late o w = tt
all-wait-on fresh es forms [] (prepared ∷ answers) late o w = absurd w
all-wait-on fresh es forms (answer ∷ owed) [] late o w = absurd w
all-wait-on fresh es forms (answer ∷ owed) (prepared ∷ answers) late o w = (
  waits-on fresh es answer.position answer.closes prepared.waits (late answer.position o.0.3) w.0,
  all-wait-on fresh es forms owed answers late o.1 w.1,
)

-- ---- an own request that was answered is so still

pub answered-more : (side : Side) (p : ℕ) (item : Item) (journal : List Item) → is_answered side p (zero_history journal) ≡ true → is_answered side p (zero_history (item ∷ journal)) ≡ true
answered-more side p (began by head) journal e = of (head.channel == 0)
  where
    of : (b : Bool) → is_answered side p (if b then began by head ∷ zero_history journal else zero_history journal) ≡ true
    of true = e
    of false = e
answered-more side p (told by seq) journal e = of (seq.channel == 0)
  where
    of : (b : Bool) → is_answered side p (if b then told by seq ∷ zero_history journal else zero_history journal) ≡ true
    of true = e
    of false = e
answered-more side p (passed by head payload) journal e = of (head.channel == 0)
  where
    past : List Item
    past = zero_history journal

    either : (a : Bool) → (a || list_any ends_reply (reply side p past)) ≡ true
    either true = refl
    either false = e

    more : (b : Bool) → list_any ends_reply (if b then head ∷ reply side p past else reply side p past) ≡ true
    more true = either (ends_reply head)
    more false = e

    of : (b : Bool) → is_answered side p (if b then passed by head payload ∷ past else past) ≡ true
    of true = more (answers side p past by head)
    of false = e
