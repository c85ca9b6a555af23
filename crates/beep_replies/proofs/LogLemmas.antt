-- What a log shows of a script that is kept above channel zero: what comes leaves it, and what isn't written yet adds to it.
use Rattle.std.proofs.Common.{◌≡◌, ℕ, ◌==◌, Bool, true, false, not, ◌&&◌, if◌then◌else◌, List, [], ◌∷◌, ◌++◌, map, flat_map, Option, None, Some, inl, inr, refl, sym, ap, ◌∙◌, subst}
use Rattle.std.proofs.lemmas.List.{append_assoc, append-nil}
use Rattle.beep_script.specs.beep_frame.specs.declared.head.Head.{Head}
use Rattle.beep_script.specs.beep_frame.specs.declared.rule.Rule.{Rule}
use Rattle.beep_script.specs.beep_frame.specs.declared.seq.Seq.{Seq}
use Rattle.beep_script.specs.beep_history.specs.declared.journal.Side.{Side}
use Rattle.beep_script.specs.beep_history.specs.Journal.{Item, began, passed, told}
use Rattle.beep_script.specs.beep_history.specs.Marks.{Mark, carries, frame_marks, tag_of, marks, mark_modulo_2_64}
use Rattle.beep_script.specs.beep_history.specs.Broken.{KeepsExchangeRules}
use Rattle.beep_script.specs.beep_history.specs.Messages.{Message}
use Rattle.beep_script.specs.beep_journal.specs.Broken.{Tuning, none_tunes, broken_head, broken_seq}
use Rattle.beep_script.specs.beep_journal.specs.Laws.{IsLiveLife}
use Rattle.beep_script.specs.beep_journal.specs.Lives.{Event}
use Rattle.beep_script.specs.beep_journal.specs.Zero.{events}
use Rattle.beep_script.specs.beep_journal.specs.Life.{is_released, is_of_life, life}
use Rattle.beep_script.specs.beep_journal.specs.Log.{Moment, got, put, got_all, put_all}
use Rattle.beep_script.specs.beep_journal.specs.Journal.{Past, begins, seq_ends, TakesOctet, TakesWhere, Takes, goes_on, Shows}
use Rattle.beep_script.specs.beep_journal.proofs.ShownLemmas.{one-shown}
use Rattle.beep_script.specs.beep_talk.specs.declared.plan.Command.{Command}
use Rattle.beep_script.specs.beep_talk.specs.Plan.{PlainPlan}
use Rattle.beep_script.specs.beep_talk.specs.Talk.{begins_with, has_profile, asked_first, replied, talk}
use Rattle.beep_script.specs.Script.{message_marks, script_marks, BeginsWith}
use Rattle.beep_replies.specs.Replies.{KeepsAt, KeepsAbove, sends_in, requests_passed, replies, first_said}
use Rattle.beep_replies.proofs.SaidLemmas.{said, life-above}
use Rattle.beep_replies.proofs.StayLemmas.{script-is, stays-at}
use Rattle.beep_replies.proofs.PlacedLemmas.{replies-all}
use Rattle.beep_replies.proofs.SentLemmas.{sent-front}

-- ---- one item

-- the item comes
abbrev pub IsReceived : Item → Type 0
IsReceived (began Side.Received head) = Unit {0}
IsReceived (began Side.Sent head) = ⊥
IsReceived (passed Side.Received head payload) = Unit {0}
IsReceived (passed Side.Sent head payload) = ⊥
IsReceived (told Side.Received seq) = Unit {0}
IsReceived (told Side.Sent seq) = ⊥

-- the item goes
abbrev pub IsSent : Item → Type 0
IsSent (began Side.Received head) = ⊥
IsSent (began Side.Sent head) = Unit {0}
IsSent (passed Side.Received head payload) = ⊥
IsSent (passed Side.Sent head payload) = Unit {0}
IsSent (told Side.Received seq) = ⊥
IsSent (told Side.Sent seq) = Unit {0}

received-sends : (number count : ℕ) (item : Item) (journal : List Item) → IsReceived item → sends_in number count item journal ≡ false
received-sends number count (began by head) journal is = refl
received-sends number count (passed Side.Received head payload) journal is = refl
received-sends number count (passed Side.Sent head payload) journal is = absurd is
received-sends number count (told by seq) journal is = refl

pub received-above : (plan : PlainPlan) (item : Item) (journal : List Item) → IsReceived item → KeepsAbove plan journal → KeepsAbove plan (item ∷ journal)
received-above plan item journal is keeps number count above =
    stays-at plan number count item journal above (received-sends number count item journal is) (keeps number count above)

-- what a sender is called for as an item goes is nothing
asks-none : (b : Bool) (command : Command) (es : List Event) → command ≡ Command.Send → (if b then asked_first command es else []) ≡ []
asks-none true command es send = ap (λ (c : Command). asked_first c es) send
asks-none false command es send = refl

sent-none : (plan : PlainPlan) (number count : ℕ) (item : Item) (journal : List Item) → IsSent item → replied plan number count item journal ≡ []
sent-none plan number count (began by head) journal is = refl
sent-none plan number count (passed Side.Received head payload) journal is = absurd is
sent-none plan number count (passed Side.Sent head payload) journal is = refl
sent-none plan number count (told by seq) journal is = refl

same-talk : (plan : PlainPlan) (number count : ℕ) (item : Item) (journal : List Item) → plan.command ≡ Command.Send → IsSent item
    → talk plan number count (item ∷ journal) ≡ talk plan number count journal
same-talk plan number count item journal send is =
    ap (λ (xs : List Message). talk plan number count journal ++ (xs ++ replied plan number count item journal)) (asks-none (begins_with plan.raw_uri number count item journal) plan.command (events journal) send)
    ∙ ap (λ (xs : List Message). talk plan number count journal ++ xs) (sent-none plan number count item journal is) ∙ append-nil (talk plan number count journal)

-- what was sent before an item is the beginning of what was sent after it
pub fewer-sent : (number count : ℕ) (item : Item) (journal : List Item) → BeginsWith (marks Side.Sent (life number count (item ∷ journal))) (marks Side.Sent (life number count journal))
fewer-sent number count item journal = of (is_of_life number count item journal)
  where
    one : (item : Item) (past : List Item) → BeginsWith (marks Side.Sent (item ∷ past)) (marks Side.Sent past)
    one (began by head) past = record { rest = []; whole_is = sym (append-nil (marks Side.Sent past)) }
    one (passed by head payload) past = record { rest = if carries Side.Sent past by head then frame_marks (tag_of Side.Sent past head) head payload else []; whole_is = refl }
    one (told by seq) past = record { rest = []; whole_is = sym (append-nil (marks Side.Sent past)) }

    of : (b : Bool) → BeginsWith (marks Side.Sent (if b then item ∷ life number count journal else life number count journal)) (marks Side.Sent (life number count journal))
    of true = one item (life number count journal)
    of false = record { rest = []; whole_is = sym (append-nil (marks Side.Sent (life number count journal))) }

-- the beginning of a beginning
pub front-of : {X : Type 0} (xs ys zs : List X) → BeginsWith xs ys → BeginsWith ys zs → BeginsWith xs zs
front-of xs ys zs first second = record {
  rest = second.rest ++ first.rest;
  whole_is = first.whole_is ∙ ap (λ front. front ++ first.rest) second.whole_is ∙ append_assoc zs second.rest first.rest;
}

pub sent-above : (plan : PlainPlan) (item : Item) (journal : List Item) → plan.command ≡ Command.Send → IsSent item → KeepsAbove plan (item ∷ journal) → KeepsAbove plan journal
sent-above plan item journal send is keeps number count above =
    subst (λ (ms : List Mark). BeginsWith ms (marks Side.Sent (life number count journal)))
    (script-is plan number count (item ∷ journal) above ∙ ap (flat_map message_marks) (same-talk plan number count item journal send is) ∙ sym (script-is plan number count journal above))
    (front-of (script_marks plan number count (item ∷ journal)) (marks Side.Sent (life number count (item ∷ journal))) (marks Side.Sent (life number count journal))
    (keeps number count above) (fewer-sent number count item journal))

-- ---- one octet

-- a journal has one item more of a side, or none
data AddsOne (P : Item → Type 0) (old new : List Item) : Type 0 where
  stays : new ≡ old → AddsOne P old new
  more : (item : Item) → P item → new ≡ item ∷ old → AddsOne P old new

-- items of a side are such
abbrev AreSo : (Item → Type 0) → Side → Type 0
AreSo P side = ((head : Head) → P (began side head)) × ((head : Head) (payload : List ℕ) → P (passed side head payload)) × ((seq : Seq) → P (told side seq))

module _ (P : Item → Type 0) (side : Side) (are : AreSo P side) where
  begins-adds : (rule : Option Rule) (octet : ℕ) (head : Head) (past : Past) → AddsOne P past.journal (begins rule side octet head past).journal
  begins-adds None octet head past = more (began side head) (are.0 head) refl
  begins-adds (Some rule) octet head past = stays refl

  ends-adds : (rule : Option Rule) (seq : Seq) (past : Past) → AddsOne P past.journal (seq_ends rule side seq past).journal
  ends-adds None seq past = more (told side seq) (are.2 seq) refl
  ends-adds (Some rule) seq past = stays refl

  octet-adds : (tunes : Tuning) (octet : ℕ) (old new : Past) → TakesOctet tunes side octet old new → AddsOne P old.journal new.journal
  octet-adds tunes octet old new (inl on) = stays (ap (λ (p : Past). p.journal) on.new_is)
  octet-adds tunes octet old new (inr (inl h)) =
      subst (λ (p : Past). AddsOne P old.journal p.journal) (sym h.new_is) (begins-adds (broken_head tunes side old.journal h.head) octet h.head old)
  octet-adds tunes octet old new (inr (inr (inl f))) = more (passed side f.head f.payload) (are.1 f.head f.payload) (ap (λ (p : Past). p.journal) f.new_is)
  octet-adds tunes octet old new (inr (inr (inr (inl s)))) =
      subst (λ (p : Past). AddsOne P old.journal p.journal) (sym s.new_is) (ends-adds (broken_seq side old.journal s.seq) s.seq old)
  octet-adds tunes octet old new (inr (inr (inr (inr d)))) = stays (ap (λ (p : Past). p.journal) d.new_is)

  where-adds : (b : Bool) (tunes : Tuning) (octet : ℕ) (old new : Past) → TakesWhere b tunes side octet old new → AddsOne P old.journal new.journal
  where-adds true tunes octet old new takes = octet-adds tunes octet old new takes
  where-adds false tunes octet old new takes = stays (ap (λ (p : Past). p.journal) takes)

got-adds : (octet : ℕ) (old new : Past) → Takes none_tunes (got octet) old new → AddsOne IsReceived old.journal new.journal
got-adds octet old new takes =
    where-adds IsReceived Side.Received ((λ head. tt), (λ head payload. tt), (λ seq. tt)) (goes_on old && not (is_released old.journal)) none_tunes octet old new takes

put-adds : (octet : ℕ) (old new : Past) → Takes none_tunes (put octet) old new → AddsOne IsSent old.journal new.journal
put-adds octet old new takes = where-adds IsSent Side.Sent ((λ head. tt), (λ head payload. tt), (λ seq. tt)) (goes_on old) none_tunes octet old new takes

-- ---- octets of a log

-- what holds of a journal and stays as items come
module _ (P : List Item → Type 0) (stays-so : (item : Item) (journal : List Item) → IsReceived item → P journal → P (item ∷ journal)) where
  more-so : (old new : List Item) → AddsOne IsReceived old new → P old → P new
  more-so old new (stays is) keeps = subst P (sym is) keeps
  more-so old new (more item of is) keeps = subst P (sym is) (stays-so item old of keeps)

  pub comes-so : (octets : List ℕ) (log : List Moment) (before after : Past) → Shows none_tunes log before → Shows none_tunes (got_all octets log) after → P before.journal → P after.journal
  comes-so [] log before after one other keeps = subst (λ (p : Past). P p.journal) (one-shown none_tunes log before after one other) keeps
  comes-so (octet ∷ octets) log before after one other keeps =
      let mid = middle octets (got octet ∷ log) after other in
      let first : before ≡ mid.1.0 = one-shown none_tunes log before mid.1.0 one mid.1.1 in
      comes-so octets (got octet ∷ log) mid.0 after mid.1 other
      (more-so mid.1.0.journal mid.0.journal (got-adds octet mid.1.0 mid.0 mid.1.2) (subst (λ (p : Past). P p.journal) first keeps))
    where
      middle : (octets : List ℕ) (log : List Moment) (after : Past) → Shows none_tunes (got_all octets log) after → (mid : Past) × Shows none_tunes log mid
      middle [] log after shows = (after, shows)
      middle (octet ∷ octets) log after shows = let next = middle octets (got octet ∷ log) after shows in (next.1.0, next.1.1)

-- what holds of a journal and held before items went
module _ (P : List Item → Type 0) (was-so : (item : Item) (journal : List Item) → IsSent item → P (item ∷ journal) → P journal) where
  less-so : (old new : List Item) → AddsOne IsSent old new → P new → P old
  less-so old new (stays is) keeps = subst P is keeps
  less-so old new (more item of is) keeps = was-so item old of (subst P is keeps)

  pub goes-so : (octets : List ℕ) (log : List Moment) (before after : Past) → Shows none_tunes log before → Shows none_tunes (put_all octets log) after → P after.journal → P before.journal
  goes-so octets log before after one other keeps =
      let mid = back octets log after other keeps in
      subst (λ (p : Past). P p.journal) (one-shown none_tunes log mid.0 before mid.1.0 one) mid.1.1
    where
      back : (octets : List ℕ) (log : List Moment) (after : Past) → Shows none_tunes (put_all octets log) after → P after.journal → (mid : Past) × (Shows none_tunes log mid × P mid.journal)
      back [] log after shows keeps = (after, (shows, keeps))
      back (octet ∷ octets) log after shows keeps =
          let next = back octets (put octet ∷ log) after shows keeps in
          (next.1.0.0, (next.1.0.1, less-so next.1.0.0.journal next.0.journal (put-adds octet next.1.0.0 next.0 next.1.0.2) next.1.1))

-- what comes leaves a script that is kept
pub kept-comes : (plan : PlainPlan) (octets : List ℕ) (log : List Moment) (before after : Past) → Shows none_tunes log before → Shows none_tunes (got_all octets log) after
    → KeepsAbove plan before.journal → KeepsAbove plan after.journal
kept-comes plan = comes-so (KeepsAbove plan) (received-above plan)

-- a sender's is kept before what isn't written yet
pub kept-goes : (plan : PlainPlan) (octets : List ℕ) (log : List Moment) (before after : Past) → plan.command ≡ Command.Send → Shows none_tunes log before
    → Shows none_tunes (put_all octets log) after → KeepsAbove plan after.journal → KeepsAbove plan before.journal
kept-goes plan octets log before after send = goes-so (KeepsAbove plan) (λ item journal. sent-above plan item journal send) octets log before after

-- ---- what is given is replies

-- a sender asks nothing first
pub first-empty : (plan : PlainPlan) (number count : ℕ) (journal : List Item) → plan.command ≡ Command.Send → first_said plan number count journal ≡ []
first-empty plan number count [] send = refl
first-empty plan number count (item ∷ journal) send =
    ap (λ (xs : List Message). first_said plan number count journal ++ xs) (asks-none (begins_with plan.raw_uri number count item journal) plan.command (events journal) send)
    ∙ append-nil (first_said plan number count journal) ∙ first-empty plan number count journal send

-- what was sent in a live life of what agrees with replies modulo 2^64 is of the script
pub kept-at : (plan : PlainPlan) (number count : ℕ) (journal : List Item) (many : ℕ) (rest : List Mark) → (number == 0) ≡ false → KeepsExchangeRules (life number count journal)
    → IsLiveLife number count (events journal) → has_profile plan.raw_uri number count journal ≡ true → first_said plan number count journal ≡ []
    → map mark_modulo_2_64 (marks Side.Sent (life number count journal)) ++ rest ≡ map mark_modulo_2_64 (flat_map message_marks (replies plan 0 many))
    → KeepsAt plan number count journal
kept-at plan number count journal many rest above keeps live profile first same =
    let talks : talk plan number count journal ≡ replies plan 0 (requests_passed number count journal) =
    said plan number count journal above keeps live profile ∙ ap (λ (xs : List Message). xs ++ replies plan 0 (requests_passed number count journal)) first in
    subst (λ (ms : List Mark). BeginsWith ms (marks Side.Sent (life number count journal)))
    (sym (script-is plan number count journal above ∙ ap (flat_map message_marks) talks))
    (sent-front plan (life number count journal) many rest keeps (life-above number count journal above) (replies-all plan 0 many) same)
