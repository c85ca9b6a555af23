-- What is written: a whole frame, or a SEQ.
use Rattle.std.proofs.Common.{◌≡◌, ℕ, Bool, true, false, ◌&&◌, not, ◌==◌, if◌then◌else◌, length, eqb-true, List, [], ◌∷◌, ◌++◌, None, Some, Option, refl, sym, ap, ◌∙◌, subst, append_assoc, append-nil}
use Rattle.std.specs.Prelude.{is_some}
use Rattle.std.specs.Option.{is_none}
use Rattle.beep_peer.specs.beep_frame.specs.declared.head.Head.{Head}
use Rattle.beep_peer.specs.beep_frame.specs.declared.seq.Seq.{Seq}
use Rattle.beep_peer.specs.beep_frame.specs.declared.rule.Rule.{Rule}
use Rattle.beep_peer.specs.beep_frame.specs.Frame.{framed, seq_frame, IsHead, IsFrame, IsSeq}
use Rattle.beep_peer.specs.beep_frame.specs.Spelling.{spelling, header, header_line, seq_line, trailer}
use Rattle.beep_peer.specs.beep_history.specs.declared.journal.Side.{Side}
use Rattle.beep_peer.specs.beep_history.specs.Journal.{Item, began, passed, told}
use Rattle.beep_peer.specs.beep_journal.specs.Log.{Moment, put_all}
use Rattle.beep_peer.specs.beep_journal.specs.Broken.{none_tunes, broken_head, broken_seq, broken_content}
use Rattle.beep_peer.specs.beep_lawful.specs.declared.breach.Breach.{Breach}
use Rattle.beep_peer.specs.beep_lawful.specs.declared.terms.Terms.{Terms}
use Rattle.beep_peer.specs.beep_lawful.specs.Lawful.{is_apart, same_head, breaks_apart, breaks_rule, breaks_content, breaks_seq_rule, breaks_after_end, unlawful_head, unlawful_frame, unlawful_seq, unlawful_item, is_lawful, IsLawful}
use Rattle.beep_logged.specs.Logged.{IsLogged}
use Rattle.beep_logged.proofs.OctetLemmas.{At, many, many-append, many-put}
use Rattle.beep_logged.proofs.WholeLemmas.{header-ends, frame-ends, seq-ends}
use Rattle.beep_logged.proofs.ReadLemmas.{lawful-journal}

-- ---- the tests that an item passed

next-none : (holds : Bool) (breach : Breach) (others : Option Breach) → (if holds then Some breach else others) ≡ None → (holds ≡ false) × (others ≡ None)
next-none true breach others e = cc
next-none false breach others e = (refl, e)

none-is : (o : Option Breach) → is_none o ≡ true → o ≡ None
none-is None e = refl
none-is (Some breach) e = cc

none-of : (o : Option Rule) → is_some o ≡ false → o ≡ None
none-of None e = refl
none-of (Some rule) e = cc

both-one : (a b : Bool) → (a && b) ≡ true → a ≡ true
both-one true b e = refl
both-one false b e = e

both-two : (a b : Bool) → (a && b) ≡ true → b ≡ true
both-two true b e = e
both-two false b e = cc

-- it breaks no rule, and the session isn't over
head-tests : (terms : Terms) (past : List Item) (head : Head) → unlawful_head terms none_tunes past head ≡ None
    → (broken_head none_tunes Side.Sent past head ≡ None) × (breaks_after_end none_tunes past ≡ false)
unfolding unlawful_head
head-tests terms past head e =
    let one = next-none (is_apart past) Breach.Apart _ e in
    let two = next-none (breaks_rule none_tunes past head) Breach.Rule _ one.1 in
    let three = next-none _ Breach.Room _ two.1 in
    let four = next-none _ Breach.OwnNumber _ three.1 in
    let five = next-none _ Breach.AskedClosing _ four.1 in
    let six = next-none _ Breach.BesideTuning _ five.1 in
    let seven = next-none (breaks_after_end none_tunes past) Breach.AfterEnd _ six.1 in
    (none-of (broken_head none_tunes Side.Sent past head) two.0, seven.0)

frame-tests : (terms : Terms) (past : List Item) (head : Head) (payload : List ℕ) → unlawful_frame terms none_tunes past head payload ≡ None
    → (broken_content Side.Sent past head payload ≡ None) × (breaks_after_end none_tunes past ≡ false)
unfolding unlawful_frame
frame-tests terms past head payload e =
    let one = next-none _ Breach.Apart _ e in
    let two = next-none (breaks_content past head payload) Breach.Rule _ one.1 in
    let three = next-none _ Breach.OkTooSoon _ two.1 in
    let four = next-none _ Breach.CloseUnanswered _ three.1 in
    let five = next-none (breaks_after_end none_tunes past) Breach.AfterEnd _ four.1 in
    (none-of (broken_content Side.Sent past head payload) two.0, five.0)

seq-tests : (terms : Terms) (past : List Item) (seq : Seq) → unlawful_seq terms none_tunes past seq ≡ None
    → (broken_seq Side.Sent past seq ≡ None) × (breaks_after_end none_tunes past ≡ false)
unfolding unlawful_seq
seq-tests terms past seq e =
    let one = next-none (is_apart past) Breach.Apart _ e in
    let two = next-none (breaks_seq_rule past seq) Breach.Rule _ one.1 in
    let three = next-none _ Breach.SeqNotDue _ two.1 in
    let four = next-none _ Breach.BesideTuning _ three.1 in
    let five = next-none (breaks_after_end none_tunes past) Breach.AfterEnd _ four.1 in
    (none-of (broken_seq Side.Sent past seq) two.0, five.0)

first-lawful : (terms : Terms) (item : Item) (past : List Item) → IsLawful terms none_tunes (item ∷ past) → unlawful_item terms none_tunes past item ≡ None
first-lawful terms item past is = none-is (unlawful_item terms none_tunes past item) (both-one (is_none (unlawful_item terms none_tunes past item)) (is_lawful terms none_tunes past) is)

pub earlier-lawful : (terms : Terms) (item : Item) (past : List Item) → IsLawful terms none_tunes (item ∷ past) → IsLawful terms none_tunes past
earlier-lawful terms item past is = both-two (is_none (unlawful_item terms none_tunes past item)) (is_lawful terms none_tunes past) is

not-false : (b : Bool) → not b ≡ false → b ≡ true
not-false true e = refl
not-false false e = cc

-- a lawful frame has the size that its header says
pub lawful-frame : (terms : Terms) (journal : List Item) (head : Head) (payload : List ℕ) → IsHead head
    → IsLawful terms none_tunes (passed Side.Sent head payload ∷ began Side.Sent head ∷ journal) → IsFrame (framed head payload)
unfolding unlawful_frame
lawful-frame terms journal head payload is_head is =
    let one = next-none (breaks_apart (began Side.Sent head ∷ journal) head payload) Breach.Apart _
    (first-lawful terms (passed Side.Sent head payload) (began Side.Sent head ∷ journal) is) in
    (is_head, eqb-true (length payload) head.size (both-two (same_head head head) (length payload == head.size) (not-false _ one.0)))

-- ---- a log, seen from the sent side

to-sent : (terms : Terms) (rest : List ℕ) (journal : List Item) (log : List Moment) → IsLogged terms rest journal log → At terms Side.Sent journal [] rest log
to-sent terms rest journal log l = record {
  past = l.shown.past;
  shows = l.shown.shows;
  journal_is = l.shown.journal_is;
  rest_is = l.shown.whole;
  others_is = l.shown.rest_is;
  going = l.shown.going;
  lawful = l.lawful;
}

from-sent : (terms : Terms) (rest : List ℕ) (journal : List Item) (log : List Moment) → At terms Side.Sent journal [] rest log → IsLogged terms rest journal log
from-sent terms rest journal log at = record {
  shown = record { past = at.past; shows = at.shows; journal_is = at.journal_is; rest_is = at.others_is; whole = at.rest_is; going = at.going };
  lawful = at.lawful;
}

-- ---- octets and a last one

header-cut : (head : Head) → (header_line head ++ 13 ∷ []) ++ 10 ∷ [] ≡ header head
header-cut head = append_assoc (header_line head) (13 ∷ []) (10 ∷ [])

rest-cut : (payload : List ℕ) → (payload ++ 69 ∷ 78 ∷ 68 ∷ 13 ∷ []) ++ 10 ∷ [] ≡ payload ++ trailer
rest-cut payload = append_assoc payload (69 ∷ 78 ∷ 68 ∷ 13 ∷ []) (10 ∷ [])

seq-cut : (seq : Seq) → (seq_line seq ++ 13 ∷ []) ++ 10 ∷ [] ≡ spelling (seq_frame seq)
seq-cut seq = append_assoc (seq_line seq) (13 ∷ []) (10 ∷ [])

-- ---- what is written

pub frame-written : (terms : Terms) (rest : List ℕ) (journal : List Item) (log : List Moment) (head : Head) (payload : List ℕ) → IsLogged terms rest journal log
    → IsFrame (framed head payload) → IsLawful terms none_tunes (passed Side.Sent head payload ∷ began Side.Sent head ∷ journal)
    → IsLogged terms rest (passed Side.Sent head payload ∷ began Side.Sent head ∷ journal) (put_all (spelling (framed head payload)) log)
frame-written terms rest journal log head payload l is_frame is =
    let begun : IsLawful terms none_tunes (began Side.Sent head ∷ journal) = earlier-lawful terms (passed Side.Sent head payload) (began Side.Sent head ∷ journal) is in
    let h = head-tests terms journal head (first-lawful terms (began Side.Sent head) journal begun) in
    let f = frame-tests terms (began Side.Sent head ∷ journal) head payload (first-lawful terms (passed Side.Sent head payload) (began Side.Sent head ∷ journal) is) in
    let one : At terms Side.Sent (began Side.Sent head ∷ journal) (header head) rest (many Side.Sent ((header_line head ++ 13 ∷ []) ++ 10 ∷ []) log) =
    header-ends terms Side.Sent journal [] rest (header_line head ++ 13 ∷ []) 10 log (to-sent terms rest journal log l) h.1 (lawful-journal terms rest journal log l)
    head is_frame.0 (header-cut head) h.0 begun in
    let two = frame-ends terms Side.Sent (began Side.Sent head ∷ journal) (header head) rest (payload ++ 69 ∷ 78 ∷ 68 ∷ 13 ∷ []) 10
    (many Side.Sent ((header_line head ++ 13 ∷ []) ++ 10 ∷ []) log) one f.1 begun head payload [] is_frame (sym (append-nil (header head)))
    (ap (λ x. header head ++ x) (rest-cut payload) ∙ sym (append_assoc (header head) payload trailer)) f.0 is in
    let whole : ((header_line head ++ 13 ∷ []) ++ 10 ∷ []) ++ ((payload ++ 69 ∷ 78 ∷ 68 ∷ 13 ∷ []) ++ 10 ∷ []) ≡ spelling (framed head payload) =
    ap (λ x. x ++ ((payload ++ 69 ∷ 78 ∷ 68 ∷ 13 ∷ []) ++ 10 ∷ [])) (header-cut head) ∙ ap (λ x. header head ++ x) (rest-cut payload) ∙ sym (append_assoc (header head) payload trailer) in
    from-sent terms rest (passed Side.Sent head payload ∷ began Side.Sent head ∷ journal) (put_all (spelling (framed head payload)) log)
    (subst (At terms Side.Sent (passed Side.Sent head payload ∷ began Side.Sent head ∷ journal) [] rest)
    (sym (many-append Side.Sent ((header_line head ++ 13 ∷ []) ++ 10 ∷ []) ((payload ++ 69 ∷ 78 ∷ 68 ∷ 13 ∷ []) ++ 10 ∷ []) log)
    ∙ ap (λ x. many Side.Sent x log) whole ∙ many-put (spelling (framed head payload)) log) two)

pub seq-written : (terms : Terms) (rest : List ℕ) (journal : List Item) (log : List Moment) (seq : Seq) → IsLogged terms rest journal log → IsSeq seq
    → IsLawful terms none_tunes (told Side.Sent seq ∷ journal) → IsLogged terms rest (told Side.Sent seq ∷ journal) (put_all (spelling (seq_frame seq)) log)
seq-written terms rest journal log seq l is_seq is =
    let t = seq-tests terms journal seq (first-lawful terms (told Side.Sent seq) journal is) in
    let one : At terms Side.Sent (told Side.Sent seq ∷ journal) [] rest (many Side.Sent ((seq_line seq ++ 13 ∷ []) ++ 10 ∷ []) log) =
    seq-ends terms Side.Sent journal [] rest (seq_line seq ++ 13 ∷ []) 10 log (to-sent terms rest journal log l) t.1 (lawful-journal terms rest journal log l)
    seq is_seq (seq-cut seq) t.0 is in
    from-sent terms rest (told Side.Sent seq ∷ journal) (put_all (spelling (seq_frame seq)) log)
    (subst (At terms Side.Sent (told Side.Sent seq ∷ journal) [] rest)
    (ap (λ x. many Side.Sent x log) (seq-cut seq) ∙ many-put (spelling (seq_frame seq)) log) one)
