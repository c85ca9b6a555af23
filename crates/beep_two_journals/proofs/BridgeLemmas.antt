-- The lives of channels by the moments of a journal are those by its entries.
use Rattle.std.proofs.Common.{◌≡◌, ℕ, ◌+◌, ◌-◌, ◌<◌, ◌==◌, Bool, true, false, not, ◌&&◌, ◌||◌, if◌then◌else◌, List, [], ◌∷◌, ◌++◌, length, Option, Some, None, refl, sym, ap, ◌∙◌, arith, subst}
use Rattle.std.proofs.lemmas.Bool.Decides.{nat_tests}
use Rattle.beep_frame.specs.declared.head.Head.{Head}
use Rattle.beep_frame.specs.declared.kind.Kind.{Kind}
use Rattle.beep_frame.specs.declared.seq.Seq.{Seq}
use Rattle.beep_frame.specs.Frame.{is_msg, is_ans, is_reply, same_kind}
use Rattle.beep_history.specs.declared.journal.Side.{Side}
use Rattle.beep_history.specs.Journal.{Item, began, passed, told, same_side, other, opening}
use Rattle.beep_history.specs.Marks.{frames, position_of}
use Rattle.beep_history.specs.Moments.{is_last, replies_ended}
use Rattle.beep_history.specs.Broken.{under_way, KeepsExchangeRules}
use Rattle.beep_history.proofs.RepliesLemmas.{position-is}
use Rattle.beep_mgmt.specs.Form.{Form}
use Rattle.beep_mgmt.specs.Message.{message_said}
use Rattle.beep_journal.specs.Lives as landed
use Rattle.beep_journal.specs.Lives.{Event, close_came, start_granted, close_granted}
use Rattle.beep_journal.specs.Zero.{zero_history, zero_events, coming, granting, gathered, said_at, said_to, completes_form, asked as asked_of}
use Rattle.beep_journal.specs.Broken.{broken_content}
use Rattle.beep_two_journals.proofs.FormLemmas.{form_is}
use Rattle.beep_two_journals.proofs.Entries.{Entry, asks, replies, on, asked, replied, said, answers_to, read, says_of, speaks, entries}
use Rattle.beep_two_journals.proofs.SaysLemmas.{Tells, tells-opening, says-nothing}
use Rattle.beep_two_journals.proofs.PassingLemmas.{Bridged, bridged-on, bridged-began, bridged-told, asked-none, and-false, quiet, requested, grants, less-one, replied-more, replied-first}

-- ---- a passing frame of channel zero

-- where it is positive its form is what its request asks for
abbrev pub HasForm : Side → Head → List ℕ → List Item → Type 0
HasForm by head payload past = same_kind Kind.Rpy head.kind ≡ true → head.more ≡ false → completes_form by head payload past ≡ true

last-is : (more ans : Bool) → more ≡ false → ans ≡ false → (not more && not ans) ≡ true
last-is more ans e f = rw (e, f) refl

effect-granted : (more msg rpy form : Bool) (came granted es : List Event) → more ≡ false → msg ≡ false → rpy ≡ true → form ≡ true
    → (if more then [] else (if msg then came else (if rpy && form then granted else []))) ++ es ≡ granted ++ es
effect-granted more msg rpy form came granted es a b c d = rw (a, b, c, d) refl

effect-refused : (more msg rpy form : Bool) (came granted es : List Event) → more ≡ false → msg ≡ false → rpy ≡ false
    → (if more then [] else (if msg then came else (if rpy && form then granted else []))) ++ es ≡ es
effect-refused more msg rpy form came granted es a b c = rw (a, b, c) refl

module _ (by : Side) (head : Head) (payload : List ℕ) (past : List Item) (more : head.more ≡ false) (m : is_msg head.kind ≡ false) where
  events-granted : same_kind Kind.Rpy head.kind ≡ true → completes_form by head payload past ≡ true
      → zero_events (passed by head payload ∷ past) ≡ granting (other by) (position_of by past head) (said_to by head past) ++ zero_events past
  events-granted k f =
      effect-granted head.more (is_msg head.kind) (same_kind Kind.Rpy head.kind) (completes_form by head payload past)
      (coming by (length (asked_of by past)) (message_said (gathered by past ++ payload))) (granting (other by) (position_of by past head) (said_to by head past))
      (zero_events past) more m k f

  events-refused : same_kind Kind.Rpy head.kind ≡ false → zero_events (passed by head payload ∷ past) ≡ zero_events past
  events-refused k =
      effect-refused head.more (is_msg head.kind) (same_kind Kind.Rpy head.kind) (completes_form by head payload past)
      (coming by (length (asked_of by past)) (message_said (gathered by past ++ payload))) (granting (other by) (position_of by past head) (said_to by head past))
      (zero_events past) more m k

no-count : (n : ℕ) → (n == 0) ≡ true → n ≡ 0
no-count n e = grind (arith, nat_tests)

some-count : (n : ℕ) → (n == 0) ≡ false → n ≡ (n - 1) + 1
some-count n e = let h : 0 < n = grind (arith, nat_tests) in omega (arith, h)

tells-same : (by side : Side) (head : Head) (payload : List ℕ) (past : List Item) (es : List Entry) → (is_msg head.kind && not head.more) ≡ false → Bridged past es
    → Tells (asked_of side (passed by head payload ∷ past)) (asked side es)
tells-same by side head payload past es m b =
    subst (λ (fs : List (Option Form)). Tells fs (asked side es))
    (sym (asked-none (same_side by side) (message_said (gathered side past ++ payload)) (asked_of side past) (is_msg head.kind && not head.more) m)) (b.tells side)

-- a whole reply that is no answer of many
whole-reply : (by : Side) (head : Head) (payload : List ℕ) (past : List Item) (es : List Entry) → KeepsExchangeRules past → under_way by past ≡ Some head
    → is_reply head.kind ≡ true → is_msg head.kind ≡ false → is_last head ≡ true → head.more ≡ false → HasForm by head payload past → Bridged past es
    → (first : Bool) → (replies_ended (frames by past) == 0) ≡ first → (ok : Bool) → same_kind Kind.Rpy head.kind ≡ ok
    → Bridged (passed by head payload ∷ past) ((if first then [] else replies by ok ∷ []) ++ es)
whole-reply by head payload past es u under r m l more f b true none true k =
    let at : replies_ended (frames by past) ≡ 0 = no-count (replies_ended (frames by past)) none in
    let position : position_of by past head ≡ 0 = position-is by past head u under r ∙ at in
    let nothing : said_to by head past ≡ None = ap (λ (p : ℕ). said_at p (asked_of (other by) past)) position ∙ (b.tells (other by)).first in
    let e : zero_events (passed by head payload ∷ past) ≡ zero_events past =
    events-granted by head payload past more m k (f k more) ∙ ap (λ (form : Option Form). granting (other by) (position_of by past head) form ++ zero_events past) nothing in
    record {
      tells = λ side. tells-same by side head payload past es (rw m refl) b;
      replied_is = λ side. replied-first by side head payload past es l at b;
      lives_is = λ n. ap (landed.lives n) e ∙ b.lives_is n;
      ended_is = λ n k'. ap (landed.has_ended n k') e ∙ b.ended_is n k';
      named_is = λ n m' side p c. ap (landed.life_named n side (p + 1)) e ∙ b.named_is n m' side p c;
    }
whole-reply by head payload past es u under r m l more f b true none false k =
    let at : replies_ended (frames by past) ≡ 0 = no-count (replies_ended (frames by past)) none in
    let e : zero_events (passed by head payload ∷ past) ≡ zero_events past = events-refused by head payload past more m k in
    record {
      tells = λ side. tells-same by side head payload past es (rw m refl) b;
      replied_is = λ side. replied-first by side head payload past es l at b;
      lives_is = λ n. ap (landed.lives n) e ∙ b.lives_is n;
      ended_is = λ n k'. ap (landed.has_ended n k') e ∙ b.ended_is n k';
      named_is = λ n m' side p c. ap (landed.life_named n side (p + 1)) e ∙ b.named_is n m' side p c;
    }
whole-reply by head payload past es u under r m l more f b false none false k =
    let place : ℕ = replies_ended (frames by past) - 1 in
    let at : replies_ended (frames by past) ≡ place + 1 = some-count (replies_ended (frames by past)) none in
    let e : zero_events (passed by head payload ∷ past) ≡ zero_events past = events-refused by head payload past more m k in
    record {
      tells = λ side. tells-same by side head payload past es (rw m refl) b;
      replied_is = λ side. replied-more by side false head payload past es place l at b;
      lives_is = λ n. ap (landed.lives n) e ∙ b.lives_is n;
      ended_is = λ n k'. ap (landed.has_ended n k') e ∙ b.ended_is n k';
      named_is = λ n m' side p c. ap (landed.life_named n side (p + 1)) e ∙ b.named_is n m' side p c;
    }
whole-reply by head payload past es u under r m l more f b false none true k =
    let place : ℕ = replies_ended (frames by past) - 1 in
    let at : replies_ended (frames by past) ≡ place + 1 = some-count (replies_ended (frames by past)) none in
    let position : position_of by past head ≡ place + 1 = position-is by past head u under r ∙ at in
    let form : Option Form = said_at (place + 1) (asked_of (other by) past) in
    let said_is : said_to by head past ≡ form = ap (λ (p : ℕ). said_at p (asked_of (other by) past)) position in
    let count : length (replied by es) ≡ place = b.replied_is by ∙ less-one _ _ at in
    let answers : answers_to by es ≡ says_of form = ap (λ (p : ℕ). said p (asked (other by) es)) count ∙ sym ((b.tells (other by)).at place) in
    let g = grants by place form past es answers count b in
    let e : zero_events (passed by head payload ∷ past) ≡ granting (other by) (place + 1) form ++ zero_events past =
    events-granted by head payload past more m k (f k more)
    ∙ ap (λ (p : ℕ). granting (other by) p (said_to by head past) ++ zero_events past) position
    ∙ ap (λ (said : Option Form). granting (other by) (place + 1) said ++ zero_events past) said_is in
    record {
      tells = λ side. tells-same by side head payload past es (rw m refl) b;
      replied_is = λ side. replied-more by side true head payload past es place l at b;
      lives_is = λ n. ap (landed.lives n) e ∙ g.lives_is n;
      ended_is = λ n k'. ap (landed.has_ended n k') e ∙ g.ended_is n k';
      named_is = λ n m' side p c. ap (landed.life_named n side (p + 1)) e ∙ g.named_is n side (p + 1) ∙ b.named_is n m' side p c;
    }

-- what a kind is
record KindIs (kind : Kind) : Type 0 where
  msg : is_msg kind ≡ true
  plain : is_reply kind ≡ false

ans-rpy : (kind : Kind) → is_ans kind ≡ true → (is_msg kind ≡ false) × (same_kind Kind.Rpy kind ≡ false)
ans-rpy Kind.Msg e = cc
ans-rpy Kind.Rpy e = cc
ans-rpy Kind.Err e = cc
ans-rpy Kind.Ans e = (refl, refl)
ans-rpy Kind.Nul e = cc

msg-reply : (kind : Kind) (b : Bool) → is_msg kind ≡ b → is_reply kind ≡ not b
msg-reply kind b e = ap not e

pub bridged-passed : (by : Side) (head : Head) (payload : List ℕ) (past : List Item) (es : List Entry) → KeepsExchangeRules past → under_way by past ≡ Some head
    → HasForm by head payload past → Bridged past es
    → Bridged (passed by head payload ∷ past) (speaks by head payload (gathered by past) (frames by past) ++ es)
bridged-passed by head payload past es u under f b = by-more head.more refl
  where
    by-ans : (m : is_msg head.kind ≡ false) (more : head.more ≡ false) → (ans : Bool) → is_ans head.kind ≡ ans
        → Bridged (passed by head payload ∷ past) ((if ans || replies_ended (frames by past) == 0 then [] else replies by (same_kind Kind.Rpy head.kind) ∷ []) ++ es)
    by-ans m more true a =
        let k = ans-rpy head.kind a in
        quiet by head payload past es (rw m refl) (rw (a, more) (and-false (is_reply head.kind))) (events-refused by head payload past more m k.1) b
    by-ans m more false a =
        whole-reply by head payload past es u under (msg-reply head.kind false m) m (rw (msg-reply head.kind false m, more, a) refl) more f b
        (replies_ended (frames by past) == 0) refl (same_kind Kind.Rpy head.kind) refl

    by-msg : (more : head.more ≡ false) → (msg : Bool) → is_msg head.kind ≡ msg
        → Bridged (passed by head payload ∷ past)
        ((if msg then asks by (read (gathered by past ++ payload)) ∷ [] else (if is_ans head.kind || replies_ended (frames by past) == 0 then [] else replies by (same_kind Kind.Rpy head.kind) ∷ [])) ++ es)
    by-msg more true m = requested by head payload past es m more (rw (msg-reply head.kind true m) refl) b
    by-msg more false m = by-ans m more (is_ans head.kind) refl

    by-more : (more : Bool) → head.more ≡ more
        → Bridged (passed by head payload ∷ past)
        ((if more then [] else (if is_msg head.kind then asks by (read (gathered by past ++ payload)) ∷ [] else (if is_ans head.kind || replies_ended (frames by past) == 0 then [] else replies by (same_kind Kind.Rpy head.kind) ∷ []))) ++ es)
    by-more true more =
        quiet by head payload past es (rw more (and-false (is_msg head.kind))) (rw more (and-false (is_reply head.kind))) (rw more refl) b
    by-more false more = by-msg more (is_msg head.kind) refl

-- ---- a journal

-- each positive reply of channel zero had its form
abbrev pub HasForms : List Item → Type 0
HasForms [] = Unit {0}
HasForms (began by head ∷ past) = HasForms past
HasForms (passed by head payload ∷ past) = ((head.channel == 0) ≡ true → HasForm by head payload (zero_history past)) × HasForms past
HasForms (told by seq ∷ past) = HasForms past

pub keeps-if : (b : Bool) (item : Item) (past : List Item) → KeepsExchangeRules (if b then item ∷ past else past) → KeepsExchangeRules past
keeps-if true (began by head) past u = u.2
keeps-if true (passed by head payload) past u = u.2
keeps-if true (told by seq) past u = u
keeps-if false item past u = u

began-by : (by : Side) (head : Head) (past : List Item) (es : List Entry) → Bridged past es → (b : Bool)
    → Bridged (if b then began by head ∷ past else past) ((if b then [] else on head.channel (began by head) ∷ []) ++ es)
began-by by head past es before true = bridged-began by head past es before
began-by by head past es before false = bridged-on head.channel (began by head) past es before

told-by : (by : Side) (seq : Seq) (past : List Item) (es : List Entry) → Bridged past es → (b : Bool)
    → Bridged (if b then told by seq ∷ past else past) ((if b then [] else on seq.channel (told by seq) ∷ []) ++ es)
told-by by seq past es before true = bridged-told by seq past es before
told-by by seq past es before false = bridged-on seq.channel (told by seq) past es before

passed-by : (by : Side) (head : Head) (payload : List ℕ) (past : List Item) (es : List Entry) → Bridged past es → (b : Bool)
    → (b ≡ true → HasForm by head payload past) → KeepsExchangeRules (if b then passed by head payload ∷ past else past)
    → Bridged (if b then passed by head payload ∷ past else past)
    ((if b then speaks by head payload (gathered by past) (frames by past) else on head.channel (passed by head payload) ∷ []) ++ es)
passed-by by head payload past es before true f v = bridged-passed by head payload past es v.2 v.0 (f refl) before
passed-by by head payload past es before false f v = bridged-on head.channel (passed by head payload) past es before

pub bridged : (past : List Item) → KeepsExchangeRules (zero_history past) → HasForms past → Bridged (zero_history past) (entries past)
bridged [] u f = record {
  tells = λ side. tells-opening side;
  replied_is = λ side. none-yet side;
  lives_is = λ n. rw says-nothing refl;
  ended_is = λ n k. rw says-nothing refl;
  named_is = λ n m side p c. absurd (let e : false ≡ true = c in cc);
}
  where
    none-yet : (side : Side) → 0 ≡ replies_ended (frames side opening) - 1
    none-yet Side.Received = refl
    none-yet Side.Sent = refl
bridged (began by head ∷ past) u f =
    began-by by head (zero_history past) (entries past) (bridged past (keeps-if (head.channel == 0) (began by head) (zero_history past) u) f) (head.channel == 0)
bridged (told by seq ∷ past) u f =
    told-by by seq (zero_history past) (entries past) (bridged past (keeps-if (seq.channel == 0) (told by seq) (zero_history past) u) f) (seq.channel == 0)
bridged (passed by head payload ∷ past) u f =
    passed-by by head payload (zero_history past) (entries past)
    (bridged past (keeps-if (head.channel == 0) (passed by head payload) (zero_history past) u) f.1) (head.channel == 0) f.0 u

-- ---- forms of content

rpy-reply : (kind : Kind) → same_kind Kind.Rpy kind ≡ true → is_reply kind ≡ true
rpy-reply Kind.Msg e = cc
rpy-reply Kind.Rpy e = refl
rpy-reply Kind.Err e = cc
rpy-reply Kind.Ans e = cc
rpy-reply Kind.Nul e = cc

-- a positive reply of channel zero has its form where its content breaks no rule
pub has_form : (side : Side) (past : List Item) (head : Head) (payload : List ℕ) → broken_content side past head payload ≡ None → (head.channel == 0) ≡ true
    → HasForm side head payload (zero_history past)
has_form side past head payload e z k m = form_is side past head payload e z (rpy-reply head.kind k) m
