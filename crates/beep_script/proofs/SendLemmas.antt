-- Where the own close of channel 1 was granted, the lines were sent.
use Rattle.std.proofs.Common.{◌≡◌, ℕ, ◌==◌, Bool, true, false, not, ◌&&◌, ◌||◌, if◌then◌else◌, List, [], ◌∷◌, ◌++◌, map, filter, flat_map, Some, refl, sym, ap, ◌∙◌, subst, ⊎_elim}
use Rattle.std.specs.List.{list_any}
use Rattle.std.proofs.lemmas.List.Elements.{filter-append}
use Rattle.beep_frame.specs.declared.head.Head.{Head}
use Rattle.beep_frame.specs.declared.kind.Kind.{Kind}
use Rattle.beep_frame.specs.declared.tag.Tag.{Tag}
use Rattle.beep_frame.specs.Frame.{is_msg, is_reply, same_kind}
use Rattle.beep_history.specs.declared.journal.Side.{Side}
use Rattle.beep_history.specs.Journal.{Item, began, passed, told}
use Rattle.beep_history.specs.Marks.{Mark, octet, end, Request, latest, is_whole, position_of, marks}
use Rattle.beep_history.specs.Broken.{KeepsExchangeRules}
use Rattle.beep_history.proofs.PassedLemmas.{sound}
use Rattle.beep_journal.specs.Life.{life}
use Rattle.beep_journal.specs.Zero.{channel_of, zero_history, completes_form}
use Rattle.beep_journal.proofs.MomentLemmas.{equal-number}
use Rattle.beep_talk.specs.declared.plan.Command.{Command}
use Rattle.beep_talk.specs.Plan.{PlainPlan}
use Rattle.beep_talk.specs.Talk.{reply_of, talk}
use Rattle.beep_talk.specs.AtZero.{ZeroMessage}
use Rattle.beep_script.specs.Desk.{grants_own, desk}
use Rattle.beep_script.specs.Script.{whole_message, message_marks, KeepsScript}
use Rattle.beep_script.specs.EachEnd.{WasGranted, HasSentLines}
use Rattle.beep_script.proofs.SentLemmas.{is_first_mark, is_nul_mark, any-left, first-marks, reply-whole, any-kept}
use Rattle.beep_script.proofs.OnceLemmas.{first_talk, once, keeps-where}
use Rattle.beep_script.proofs.WholeLemmas.{is_ask_mark, is_ask, any-either, zero-later, life-later, whole-marks, nul-marks, LinesEnded, close-listed}

-- ---- a positive reply answers a whole request

keeps-zero : (later journal : List Item) → KeepsExchangeRules (zero_history (later ++ journal)) → KeepsExchangeRules (zero_history journal)
keeps-zero [] journal keeps = keeps
keeps-zero (item ∷ later) journal keeps = keeps-zero later journal (keeps-where (channel_of item == 0) item (zero_history (later ++ journal)) keeps)

five-true : (a b c d e : Bool) → (a && b && c && d && e) ≡ true → (a ≡ true) × (b ≡ true) × (c ≡ true) × (d ≡ true)
five-true true true true true e is = (refl, refl, refl, refl)
five-true false b c d e is = absurd cc
five-true true false c d e is = absurd cc
five-true true true false d e is = absurd cc
five-true true true true false e is = absurd cc

rpy-replies : (kind : Kind) → same_kind Kind.Rpy kind ≡ true → is_msg kind ≡ false
rpy-replies Kind.Msg is = absurd cc
rpy-replies Kind.Rpy is = refl
rpy-replies Kind.Err is = absurd cc
rpy-replies Kind.Ans is = absurd cc
rpy-replies Kind.Nul is = absurd cc

reply-of : (kind : Kind) → is_msg kind ≡ false → is_reply kind ≡ true
reply-of kind none = rw (none) refl

named-at : (past : List Item) (head : Head) (request : Request) → is_msg head.kind ≡ false → latest Side.Sent head.msgno past ≡ Some request
    → position_of Side.Received past head ≡ request.position
named-at past head request none found = rw (none, found) refl

granted-whole : (position : ℕ) (item : Item) (journal : List Item) → KeepsExchangeRules (zero_history (item ∷ journal)) → grants_own position item journal ≡ true
    → is_whole Side.Sent position (zero_history journal) ≡ true
granted-whole position (began by head) journal keeps is = absurd cc
granted-whole position (passed Side.Sent head payload) journal keeps is = absurd cc
granted-whole position (told by seq) journal keeps is = absurd cc
granted-whole position (passed Side.Received head payload) journal keeps is =
    let zero = zero_history journal in
    let parts = five-true (head.channel == 0) (same_kind Kind.Rpy head.kind) (not head.more) (position_of Side.Received zero head == position)
    (completes_form Side.Received head payload zero) is in
    let kept = subst (λ (b : Bool). KeepsExchangeRules (if b then passed Side.Received head payload ∷ zero else zero)) parts.0 keeps in
    let s = sound Side.Sent zero kept.2 in
    let none = rpy-replies head.kind parts.1 in
    let due = s.due head kept.0 (reply-of head.kind none) in
    let at = sym due.at ∙ sym (named-at zero head due.request none due.found) ∙ equal-number (position_of Side.Received zero head) position parts.3 in
    subst (λ (p : ℕ). is_whole Side.Sent p zero ≡ true) at due.whole

-- ---- marks of listed messages

ask-marks : (position : ℕ) (tag : Tag) (content : List ℕ) → list_any (is_ask_mark position) (map (octet tag) content ++ end tag ∷ []) ≡ true
    → (is_msg tag.kind && tag.request == position) ≡ true
ask-marks position tag [] is = alone (is_msg tag.kind && tag.request == position) is
  where
    alone : (b : Bool) → (b || false) ≡ true → b ≡ true
    alone true is = refl
    alone false is = absurd cc
ask-marks position tag (c ∷ cs) is = either (is_msg tag.kind && tag.request == position) (ask-marks position tag cs) is
  where
    either : (b : Bool) → (list_any (is_ask_mark position) (map (octet tag) cs ++ end tag ∷ []) ≡ true → b ≡ true)
        → (b || list_any (is_ask_mark position) (map (octet tag) cs ++ end tag ∷ [])) ≡ true → b ≡ true
    either true rest is = refl
    either false rest is = rest is

or-first : (a b : Bool) → a ≡ true → (a || b) ≡ true
or-first true b is = refl
or-first false b is = absurd cc

or-second : (a b : Bool) → b ≡ true → (a || b) ≡ true
or-second true b is = refl
or-second false b is = is

marks-listed : (position : ℕ) (listed : List ZeroMessage) → list_any (is_ask_mark position) (flat_map message_marks (map whole_message listed)) ≡ true
    → list_any (is_ask position) listed ≡ true
marks-listed position [] is = absurd cc
marks-listed position (one ∷ others) is =
    ⊎_elim (λ here. or-first (is_ask position one) (list_any (is_ask position) others) (ask-marks position one.tag (whole_message one).content here))
    (λ rest. or-second (is_ask position one) (list_any (is_ask position) others) (marks-listed position others rest))
    (any-either (is_ask_mark position) (message_marks (whole_message one)) (flat_map message_marks (map whole_message others)) is)

-- ---- the lines

-- where the own close was granted the lines had ended
lines-ended : (plan : PlainPlan) (journal : List Item) → plan.command ≡ Command.Send → KeepsScript plan journal → KeepsExchangeRules (zero_history journal)
    → WasGranted 2 journal → LinesEnded plan journal
lines-ended plan journal send script keeps granted =
    let here : KeepsExchangeRules (zero_history (granted.later ++ granted.item ∷ granted.earlier)) = subst (λ (j : List Item). KeepsExchangeRules (zero_history j)) granted.is keeps in
    let whole = granted-whole 2 granted.item granted.earlier (keeps-zero granted.later (granted.item ∷ granted.earlier) here) granted.grants in
    let sent = whole-marks 2 refl (zero_history granted.earlier) whole in
    let soon = zero-later (is_ask_mark 2) (granted.item ∷ []) granted.earlier sent in
    let now = zero-later (is_ask_mark 2) granted.later (granted.item ∷ granted.earlier) soon in
    close-listed plan journal send
    (marks-listed 2 (desk plan journal).listed
    (subst (λ (ms : List Mark). list_any (is_ask_mark 2) ms ≡ true) (sym (script 0 0).whole_is)
    (any-left (is_ask_mark 2) (marks Side.Sent (zero_history journal)) (script 0 0).rest
    (subst (λ (j : List Item). list_any (is_ask_mark 2) (marks Side.Sent (zero_history j)) ≡ true) (sym granted.is) now))))

empty-front : {X : Type 0} (p : X → Bool) (xs ys : List X) → xs ++ ys ≡ [] → list_any p xs ≡ true → ⊥
empty-front p [] ys none some = absurd cc
empty-front p (x ∷ xs) ys none some = absurd cc

-- and all that was said to the first request is the lines
pub lines-sent : (plan : PlainPlan) (journal : List Item) → plan.command ≡ Command.Send → KeepsScript plan journal → KeepsExchangeRules (zero_history journal)
    → KeepsExchangeRules (life 1 1 journal) → WasGranted 2 journal → HasSentLines plan journal
lines-sent plan journal send script zero one granted =
    let ended = lines-ended plan journal send script zero granted in
    let sent = marks Side.Sent (life 1 1 journal) in
    let once_sent = life-later (λ mark. is_nul_mark mark && is_first_mark mark) 1 1 ended.later (ended.item ∷ ended.earlier) (nul-marks plan ended.item ended.earlier ended.ends) in
    let now : list_any (λ mark. is_nul_mark mark && is_first_mark mark) sent ≡ true =
    subst (λ (j : List Item). list_any (λ mark. is_nul_mark mark && is_first_mark mark) (marks Side.Sent (life 1 1 j)) ≡ true) (sym ended.is) once_sent in
    let has = any-kept is_nul_mark is_first_mark sent now in
    let front = filter is_first_mark sent in
    let rest = filter is_first_mark (script 1 1).rest in
    let whole : front ++ rest ≡ flat_map message_marks (first_talk plan journal) =
    sym (filter-append is_first_mark sent (script 1 1).rest) ∙ ap (filter is_first_mark) (sym (script 1 1).whole_is) ∙ first-marks (talk plan 1 1 journal) in
    ⊎_elim (λ empty. absurd (empty-front is_nul_mark front rest (whole ∙ ap (flat_map message_marks) empty) has))
    (λ all. reply-whole plan.lines front rest (whole ∙ ap (flat_map message_marks) all.0) has ∙ ap (λ c. flat_map message_marks (reply_of c plan.lines 0)) (sym send))
    (once plan journal send one)
