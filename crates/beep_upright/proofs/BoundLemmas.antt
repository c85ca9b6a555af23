-- What goes out is a frame or a SEQ: each of its numbers is in its range.
use Rattle.std.proofs.Common.{◌≡◌, ℕ, ◌≤◌, ◌==◌, Bool, true, false, ◌&&◌, if◌then◌else◌, List, [], ◌∷◌, ◌++◌, length, take, zero, suc, Option, None, Some, find, refl, sym, ap, ◌∙◌, subst, arith, append_assoc}
use Rattle.std.specs.Prelude.{is_some}
use Rattle.std.specs.Option.{is_none, option_map_or}
use Rattle.std.proofs.lemmas.Bool.Decides.{nat_tests}
use Rattle.beep_management.specs.beep_frame.specs.declared.head.Head.{Head}
use Rattle.beep_management.specs.beep_frame.specs.declared.head.TheConstants.{MAX_NUMBER}
use Rattle.beep_management.specs.beep_frame.specs.declared.seq.Seq.{Seq}
use Rattle.beep_management.specs.beep_frame.specs.declared.kind.Kind.{Kind}
use Rattle.beep_management.specs.beep_frame.specs.declared.rule.Rule.{Rule}
use Rattle.beep_management.specs.beep_frame.specs.declared.tag.Tag.{Tag}
use Rattle.beep_management.specs.beep_frame.specs.Frame.{IsHead, IsSeq, is_msg, is_ans, is_reply, max_ansno_of}
use Rattle.beep_management.specs.beep_history.specs.declared.journal.Side.{Side}
use Rattle.beep_management.specs.beep_history.specs.Journal.{Item, began, passed, told, same_side, other, opening}
use Rattle.beep_management.specs.beep_history.specs.Marks.{Mark, octet, end, Request, first, frames, previous, goes_on, begins_request, requests}
use Rattle.beep_management.specs.beep_history.specs.Broken.{breaks_never_asked, broken_within, broken_rule}
use Rattle.beep_management.specs.beep_exchange.specs.Given.{message_number}
use Rattle.beep_management.specs.beep_outbox.specs.Queue.{Message, marks_of}
use Rattle.beep_management.specs.beep_journal.specs.Zero.{channel_of, zero_history}
use Rattle.beep_management.specs.beep_journal.specs.Life.{is_of_life, life, life_now, history}
use Rattle.beep_management.specs.beep_journal.specs.Broken.{none_tunes}
use Rattle.beep_management.specs.beep_channel.specs.Held.{Held, Live, is_held_ready, next_head}
use Rattle.beep_management.specs.beep_channel.specs.Stands.{AreNumbered, answers_with, Stands, IsNext, IsTold}
use Rattle.beep_management.specs.beep_lives.specs.Edits.{Edits, Sends, Tells}
use Rattle.beep_lawful.specs.declared.terms.Terms.{Terms}
use Rattle.beep_lawful.specs.Lawful.{IsLawful}
use Rattle.beep_management.specs.beep_standing.specs.Standing.{Marks, AreLiveBy}
use Rattle.beep_management.specs.beep_standing.proofs.DueLemmas.{sent-there, sent-next}
use Rattle.beep_upright.specs.Frames.{AreFrames}
use Rattle.beep_upright.proofs.SeqLemmas.{stands-by}
use Rattle.beep_upright.proofs.NamedLemmas.{there-named}

-- ---- the history of a life

tail-frames : (item : Item) (journal : List Item) → AreFrames (item ∷ journal) → AreFrames journal
tail-frames (began side head) journal are = are.1
tail-frames (passed side head payload) journal are = are.1
tail-frames (told side seq) journal are = are.1

with-item : (item : Item) (journal others : List Item) → AreFrames (item ∷ journal) → AreFrames others → AreFrames (item ∷ others)
with-item (began side head) journal others are rest = (are.0, rest)
with-item (passed side head payload) journal others are rest = (are.0, rest)
with-item (told side seq) journal others are rest = (are.0, rest)

opening-frames : AreFrames opening
opening-frames = ((head, refl), (head, ((head, refl), (head, tt))))
  where
    head : IsHead (record { kind = Kind.Msg; channel = 0; msgno = 0; more = false; seqno = 0; size = 0; ansno = 0 })
    head = record { channel = omega arith; msgno = omega arith; seqno = omega arith; size = omega arith; ansno = omega arith }

zero-frames : (journal : List Item) → AreFrames journal → AreFrames (zero_history journal)
zero-frames [] are = opening-frames
zero-frames (item ∷ journal) are = of (channel_of item == 0) (zero-frames journal (tail-frames item journal are))
  where
    of : (zero : Bool) → AreFrames (zero_history journal) → AreFrames (if zero then item ∷ zero_history journal else zero_history journal)
    of true rest = with-item item journal (zero_history journal) are rest
    of false rest = rest

life-frames : (number count : ℕ) (journal : List Item) → AreFrames journal → AreFrames (life number count journal)
life-frames number count [] are = tt
life-frames number count (item ∷ journal) are = of (is_of_life number count item journal) (life-frames number count journal (tail-frames item journal are))
  where
    of : (own : Bool) → AreFrames (life number count journal) → AreFrames (if own then item ∷ life number count journal else life number count journal)
    of true rest = with-item item journal (life number count journal) are rest
    of false rest = rest

history-frames : (number : ℕ) (journal : List Item) → AreFrames journal → AreFrames (history number journal)
history-frames number journal are = of (number == 0)
  where
    of : (zero : Bool) → AreFrames (if zero then zero_history journal else life number (life_now number journal) journal)
    of true = zero-frames journal are
    of false = life-frames number (life_now number journal) journal are

-- ---- message numbers

abbrev HaveNumbers : List Head → Type 0
HaveNumbers [] = Unit {0}
HaveNumbers (head ∷ heads) = (head.msgno ≤ MAX_NUMBER) × HaveNumbers heads

abbrev AreNumbers : List Request → Type 0
AreNumbers [] = Unit {0}
AreNumbers (request ∷ others) = (request.number ≤ MAX_NUMBER) × AreNumbers others

frames-numbers : (side : Side) (past : List Item) → AreFrames past → HaveNumbers (frames side past)
frames-numbers side [] are = tt
frames-numbers side (began by head ∷ past) are = frames-numbers side past are.1
frames-numbers side (told by seq ∷ past) are = frames-numbers side past are.1
frames-numbers side (passed by head payload ∷ past) are = of (same_side by side) (frames-numbers side past are.1)
  where
    of : (own : Bool) → HaveNumbers (frames side past) → HaveNumbers (if own then head ∷ frames side past else frames side past)
    of true rest = (are.0.0.msgno, rest)
    of false rest = rest

requests-numbers : (side : Side) (past : List Item) → AreFrames past → AreNumbers (requests side past)
requests-numbers side [] are = tt
requests-numbers side (passed by head payload ∷ past) are = requests-numbers side past are.1
requests-numbers side (told by seq ∷ past) are = requests-numbers side past are.1
requests-numbers side (began by head ∷ past) are = of (same_side by side && begins_request side past head) (requests-numbers side past are.1)
  where
    of : (own : Bool) → AreNumbers (requests side past) → AreNumbers (if own then record { position = length (requests side past); number = head.msgno } ∷ requests side past else requests side past)
    of true rest = (are.0.msgno, rest)
    of false rest = rest

first-number : (heads : List Head) (before : Head) → HaveNumbers heads → first heads ≡ Some before → before.msgno ≤ MAX_NUMBER
first-number [] before have e = absurd (let h : None ≡ Some before = e in cc)
first-number (head ∷ heads) before have e =
    let same : head ≡ before = let h : Some head ≡ Some before = e in cc in
    subst (λ (h : Head). h.msgno ≤ MAX_NUMBER) same have.0

found-number : (number : ℕ) (count : ℕ) (rs : List Request) → AreNumbers rs → is_none (find (λ (request : Request). request.number == number) (take count rs)) ≡ false → number ≤ MAX_NUMBER
found-number number zero rs are e = absurd (let h : true ≡ false = e in cc)
found-number number (suc count) [] are e = absurd (let h : true ≡ false = e in cc)
found-number number (suc count) (request ∷ rs) are e = of (found-number number count rs are.1) (request.number == number) refl e
  where
    of : (is_none (find (λ (r : Request). r.number == number) (take count rs)) ≡ false → number ≤ MAX_NUMBER) → (same : Bool) → (request.number == number) ≡ same
        → is_none (if same then Some request else find (λ (r : Request). r.number == number) (take count rs)) ≡ false → number ≤ MAX_NUMBER
    of rest true is f = let equal : request.number ≡ number = grind (arith, nat_tests, is) in omega (arith, are.0, equal)
    of rest false is f = rest f

-- ---- the rules that a header keeps

next-rule : (holds : Bool) (rule : Rule) (others : Option Rule) → (if holds then Some rule else others) ≡ None → (holds ≡ false) × (others ≡ None)
next-rule true rule others e = cc
next-rule false rule others e = (refl, e)

was-asked : (past : List Item) (head : Head) → broken_rule Side.Sent past head ≡ None → breaks_never_asked Side.Sent past head ≡ false
unfolding broken_rule broken_within
was-asked past head e =
    let one = next-rule _ Rule.NulShape _ e in
    let two = next-rule _ Rule.NotContinued _ one.1 in
    let three = next-rule _ Rule.KindChanged _ two.1 in
    let four = next-rule _ Rule.NumberInUse _ three.1 in
    let five = next-rule (breaks_never_asked Side.Sent past head) Rule.NeverAsked _ four.1 in
    five.0

module _ (past : List Item) (are : AreFrames past) (head : Head) (unbroken : broken_rule Side.Sent past head ≡ None)
    (number : begins_request Side.Sent past head ≡ true → head.msgno ≡ message_number (length (requests Side.Sent past))) where
  new-number : begins_request Side.Sent past head ≡ true → head.msgno ≤ MAX_NUMBER
  new-number begins = omega (arith, number begins)

  asked-number : is_reply head.kind ≡ true → head.msgno ≤ MAX_NUMBER
  asked-number reply = by (was-asked past head unbroken)
    where
      by : (is_reply head.kind && is_none (find (λ (request : Request). request.number == head.msgno) (take 1024 (requests Side.Received past)))) ≡ false → head.msgno ≤ MAX_NUMBER
      by e = found-number head.msgno 1024 (requests Side.Received past) (requests-numbers Side.Received past are) (sym (rw reply refl) ∙ e)

  request-number : is_msg head.kind ≡ true → head.msgno ≤ MAX_NUMBER
  request-number msg = of (previous Side.Sent past) refl
    where
      begins-so : (o : Option Head) → previous Side.Sent past ≡ o → option_map_or (λ (before : Head). is_msg before.kind && goes_on head before) o false ≡ false
          → begins_request Side.Sent past head ≡ true
      begins-so o e none = rw (msg, e, none) refl

      of : (o : Option Head) → previous Side.Sent past ≡ o → head.msgno ≤ MAX_NUMBER
      of None e = new-number (begins-so None e refl)
      of (Some before) e = on (is_msg before.kind) before.more (before.msgno == head.msgno) refl refl refl
        where
          on : (m c s : Bool) → is_msg before.kind ≡ m → before.more ≡ c → (before.msgno == head.msgno) ≡ s → head.msgno ≤ MAX_NUMBER
          on true true true p q r =
              let same : before.msgno ≡ head.msgno = grind (arith, nat_tests, r) in
              omega (arith, first-number (frames Side.Sent past) before (frames-numbers Side.Sent past are) e, same)
          on true true false p q r = new-number (begins-so (Some before) e (rw (p, q, r) refl))
          on true false s p q r = new-number (begins-so (Some before) e (rw (p, q) refl))
          on false c s p q r = new-number (begins-so (Some before) e (rw p refl))

  pub msgno-bound : head.msgno ≤ MAX_NUMBER
  msgno-bound = of head.kind refl
    where
      of : (kind : Kind) → head.kind ≡ kind → head.msgno ≤ MAX_NUMBER
      of Kind.Msg e = request-number (ap is_msg e)
      of Kind.Rpy e = asked-number (ap is_reply e)
      of Kind.Err e = asked-number (ap is_reply e)
      of Kind.Ans e = asked-number (ap is_reply e)
      of Kind.Nul e = asked-number (ap is_reply e)

-- ---- answer numbers

fits-kind : (kind : Kind) (n answers : ℕ) → n ≡ (if is_ans kind then message_number answers else 0) → n ≤ max_ansno_of kind
fits-kind Kind.Msg n answers e = omega (arith, e)
fits-kind Kind.Rpy n answers e = omega (arith, e)
fits-kind Kind.Err n answers e = omega (arith, e)
fits-kind Kind.Ans n answers e = omega (arith, e)
fits-kind Kind.Nul n answers e = omega (arith, e)

numbered-at : (answers : ℕ) (before : List Mark) (tag : Tag) (after : List Mark) → AreNumbered answers (before ++ end tag ∷ after) → tag.ansno ≤ max_ansno_of tag.kind
numbered-at answers [] tag after are = fits-kind tag.kind tag.ansno answers are.0
numbered-at answers (octet other value ∷ before) tag after are = numbered-at answers before tag after are.1
numbered-at answers (end other ∷ before) tag after are = numbered-at (answers_with other.kind answers) before tag after are.1

first-numbered : (sent octets : List Mark) (tag : Tag) (after given : List Mark) → given ≡ sent ++ ((octets ++ end tag ∷ []) ++ after) → AreNumbered 0 given → tag.ansno ≤ max_ansno_of tag.kind
first-numbered sent octets tag after given e are =
    let whole : given ≡ (sent ++ octets) ++ end tag ∷ after =
    e ∙ ap (λ ms. sent ++ ms) (append_assoc octets (end tag ∷ []) after) ∙ sym (append_assoc sent octets (end tag ∷ after)) in
    numbered-at 0 (sent ++ octets) tag after (subst (AreNumbered 0) whole are)

ansno-of : (most : ℕ) (c : Held) (sent given : List Mark) → is_held_ready c ≡ true → given ≡ sent ++ marks_of c.queue → AreNumbered 0 given
    → (next_head most c).ansno ≤ max_ansno_of (next_head most c).kind
ansno-of most c sent given ready all are = of c.queue refl
  where
    of : (queue : List Message) → c.queue ≡ queue → (next_head most c).ansno ≤ max_ansno_of (next_head most c).kind
    of [] e = absurd (let h : false ≡ true = sym (rw e refl) ∙ ready in cc)
    of (m ∷ ms) e =
        let fits : m.tag.ansno ≤ max_ansno_of m.tag.kind = first-numbered sent _ m.tag (marks_of ms) given (all ∙ ap (λ q. sent ++ marks_of q) e) are in
        rw e fits

-- ---- what goes out

pub head-bound : (terms : Terms) (most : ℕ) (journal : List Item) (given taken : Marks) (old new : List Live) (head : Head) (payload : List ℕ)
    → AreLiveBy terms.window journal given taken old → Edits head.channel (Sends most head payload) old new → IsLawful terms none_tunes journal → AreFrames journal
    → most ≤ MAX_NUMBER → IsHead head
head-bound terms most journal given taken old new head payload s e lawful are fits =
    let next : IsNext terms.window most e.before.held e.after.held (history head.channel journal) (given head.channel) (taken head.channel) head payload =
    sent-next terms.window most journal given taken old new head payload s e in
    let t : Stands terms.window e.before.held (history head.channel journal) (given head.channel) (taken head.channel) =
    stands-by terms.window journal given taken old s head.channel e.before e.was in
    let within = next.within_most in
    let sequence = next.sequence in
    record {
      channel = there-named terms journal lawful head.channel (sent-there terms.window most journal given taken old new head payload s e);
      msgno = msgno-bound (history head.channel journal) (history-frames head.channel journal are) head next.unbroken next.number;
      seqno = omega (arith, sequence);
      size = omega (arith, within, fits);
      ansno = subst (λ (h : Head). h.ansno ≤ max_ansno_of h.kind) (sym e.step.is)
          (ansno-of most e.before.held _ (given head.channel) e.step.ready t.all_given t.counted.numbered);
    }

pub seq-bound : (terms : Terms) (journal : List Item) (given taken : Marks) (old new : List Live) (seq : Seq) → AreLiveBy terms.window journal given taken old
    → Edits seq.channel (Tells seq) old new → IsLawful terms none_tunes journal → terms.window ≤ MAX_NUMBER → IsSeq seq
seq-bound terms journal given taken old new seq s e lawful fits =
    let t : Stands terms.window e.before.held (history seq.channel journal) (given seq.channel) (taken seq.channel) =
    stands-by terms.window journal given taken old s seq.channel e.before e.was in
    let tells : IsTold terms.window e.before.held e.after.held (history seq.channel journal) (given seq.channel) (taken seq.channel) seq =
    e.step.told terms.window (history seq.channel journal) (given seq.channel) (taken seq.channel) t in
    let ackno = tells.ackno in
    let window = tells.window in
    record {
      channel = there-named terms journal lawful seq.channel (s.there seq.channel ∙ ap (λ (o : Option Live). is_some o) e.was);
      ackno = omega (arith, ackno);
      window = omega (arith, window, fits);
    }
