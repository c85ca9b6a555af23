-- When an own request has begun, by the numbers of frames: a lawful end numbers each by its place.
use Rattle.std.proofs.Common.{◌≡◌, ℕ, ◌+◌, ◌%◌, ◌==◌, nat_lt, Bool, true, false, not, ◌&&◌, ◌||◌, if◌then◌else◌, List, [], ◌∷◌, length, Option, None, Some, ◌≤◌, refl, sym, ap, ◌∙◌, subst, arith}
use Rattle.std.specs.Option.{is_none, option_map_or}
use Rattle.std.proofs.lemmas.Bool.{eqb-true}
use Rattle.std.proofs.lemmas.Bool.Decides.{nat_tests}
use Rattle.beep_session.specs.beep_frame.specs.declared.head.Head.{Head}
use Rattle.beep_session.specs.beep_frame.specs.declared.kind.Kind.{Kind}
use Rattle.beep_session.specs.beep_frame.specs.declared.seq.Seq.{Seq}
use Rattle.beep_session.specs.beep_frame.specs.Frame.{is_msg, same_kind}
use Rattle.beep_session.specs.beep_history.specs.declared.journal.Side.{Side}
use Rattle.beep_session.specs.beep_history.specs.Journal.{Item, began, passed, told, implied}
use Rattle.beep_session.specs.beep_history.specs.Marks.{begins_request, goes_on, requests, previous}
use Rattle.beep_session.specs.beep_journal.specs.Broken.{none_tunes}
use Rattle.beep_session.specs.beep_journal.specs.Zero.{zero_history}
use Rattle.beep_session.specs.beep_journal.specs.Life.{history}
use Rattle.beep_session.specs.beep_lawful.specs.declared.breach.Breach.{Breach}
use Rattle.beep_session.specs.beep_lawful.specs.declared.limits.TheConstants.{MESSAGE_NUMBERS}
use Rattle.beep_session.specs.beep_lawful.specs.declared.terms.Terms.{Terms}
use Rattle.beep_session.specs.beep_lawful.specs.Closing.{has_begun}
use Rattle.beep_session.specs.beep_lawful.specs.Lawful.{is_apart, breaks_rule, breaks_room, begins_own, breaks_own_number, breaks_asked_closing, breaks_beside_tuning, breaks_after_end, breaks_apart, breaks_content, content_tests, request_said, granted_position, granted_said, first_breach, same_flag, same_head, unlawful_head, unlawful_frame, unlawful_item, is_lawful, IsLawful}
use Rattle.beep_steps.proofs.RefusalLemmas.{zero-where, begun-same, begun-later, header-requests}

-- ---- what a lawful item is

left-is : (a b : Bool) → (a && b) ≡ true → a ≡ true
left-is true b is = refl
left-is false b is = absurd cc

right-is : (a b : Bool) → (a && b) ≡ true → b ≡ true
right-is true b is = is
right-is false b is = absurd cc

now-lawful : (terms : Terms) (item : Item) (journal : List Item) → IsLawful terms none_tunes (item ∷ journal) → is_none (unlawful_item terms none_tunes journal item) ≡ true
now-lawful terms item journal lawful = left-is (is_none (unlawful_item terms none_tunes journal item)) (is_lawful terms none_tunes journal) lawful

pub was-lawful : (terms : Terms) (item : Item) (journal : List Item) → IsLawful terms none_tunes (item ∷ journal) → IsLawful terms none_tunes journal
was-lawful terms item journal lawful = right-is (is_none (unlawful_item terms none_tunes journal item)) (is_lawful terms none_tunes journal) lawful

fourth : (a b c d : Bool) (p q r s : Breach) (others : List (Breach × Bool)) → is_none (first_breach ((p, a) ∷ (q, b) ∷ (r, c) ∷ (s, d) ∷ others)) ≡ true → d ≡ false
fourth true b c d p q r s others is = absurd (let h : false ≡ true = is in cc)
fourth false true c d p q r s others is = absurd (let h : false ≡ true = is in cc)
fourth false false true d p q r s others is = absurd (let h : false ≡ true = is in cc)
fourth false false false true p q r s others is = absurd (let h : false ≡ true = is in cc)
fourth false false false false p q r s others is = refl

own-number : (terms : Terms) (journal : List Item) (head : Head) → is_none (unlawful_head terms none_tunes journal head) ≡ true → breaks_own_number journal head ≡ false
unfolding unlawful_head
own-number terms journal head is =
    fourth (is_apart journal) (breaks_rule none_tunes journal head) (breaks_room terms journal head) (breaks_own_number journal head) Breach.Apart Breach.Rule Breach.Room Breach.OwnNumber
    ((Breach.AskedClosing, breaks_asked_closing journal head) ∷ (Breach.BesideTuning, breaks_beside_tuning terms none_tunes journal head) ∷ (Breach.AfterEnd, breaks_after_end none_tunes journal) ∷ []) is

first : (a : Bool) (p : Breach) (others : List (Breach × Bool)) → is_none (first_breach ((p, a) ∷ others)) ≡ true → a ≡ false
first true p others is = absurd (let h : false ≡ true = is in cc)
first false p others is = refl

joins : (terms : Terms) (journal : List Item) (head : Head) (payload : List ℕ) → is_none (unlawful_frame terms none_tunes journal head payload) ≡ true → breaks_apart journal head payload ≡ false
unfolding unlawful_frame
joins terms journal head payload is =
    first (breaks_apart journal head payload) Breach.Apart
    ((Breach.Rule, breaks_content journal head payload) ∷ content_tests terms none_tunes journal (request_said journal head payload) (granted_position journal head) (granted_said journal head)) is

-- ---- a header

abbrev count : List Item → ℕ
count journal = length (requests Side.Sent (zero_history journal))

-- the number of a header of channel zero that begins a request is the place of that
placed : (terms : Terms) (journal : List Item) (head : Head) → is_none (unlawful_head terms none_tunes journal head) ≡ true → (head.channel == 0) ≡ true
    → begins_request Side.Sent (zero_history journal) head ≡ true → head.msgno ≡ count journal % MESSAGE_NUMBERS
placed terms journal head lawful at_zero begins =
    eqb-true head.msgno (count journal % MESSAGE_NUMBERS)
    (ap (λ (n : ℕ). head.msgno == length (requests Side.Sent (history n journal)) % MESSAGE_NUMBERS) (sym zero-is)
    ∙ of (begins_own journal head) (head.msgno == length (requests Side.Sent (history head.channel journal)) % MESSAGE_NUMBERS) (own-number terms journal head lawful) own)
  where
    zero-is : head.channel ≡ 0
    zero-is = eqb-true head.channel 0 at_zero

    own : begins_own journal head ≡ true
    own = ap (λ (n : ℕ). begins_request Side.Sent (history n journal) head) zero-is ∙ begins

    of : (a b : Bool) → (a && not b) ≡ false → a ≡ true → b ≡ true
    of true true e is = refl
    of true false e is = absurd (let h : true ≡ false = e in cc)
    of false b e is = absurd (let h : false ≡ true = is in cc)

-- the frame before one that goes on with a request is of that request
record GoesOn (past : List Item) (head : Head) : Type 0 where
  pub before : Head
  pub is : previous Side.Sent past ≡ Some before
  pub asks : is_msg before.kind ≡ true
  pub number : (before.msgno == head.msgno) ≡ true

goes-on : (past : List Item) (head : Head) → is_msg head.kind ≡ true → begins_request Side.Sent past head ≡ false → GoesOn past head
goes-on past head msg none = of (previous Side.Sent past) refl (inner (is_msg head.kind) (option_map_or (λ before. is_msg before.kind && goes_on head before) (previous Side.Sent past) false) msg none)
  where
    inner : (a b : Bool) → a ≡ true → (a && not b) ≡ false → b ≡ true
    inner true true is e = refl
    inner true false is e = absurd (let h : true ≡ false = e in cc)
    inner false b is e = absurd (let h : false ≡ true = is in cc)

    of : (o : Option Head) → previous Side.Sent past ≡ o → option_map_or (λ before. is_msg before.kind && goes_on head before) o false ≡ true → GoesOn past head
    of None is on = absurd (let h : false ≡ true = on in cc)
    of (Some before) is on = record {
      before = before;
      is = is;
      asks = left-is (is_msg before.kind) (goes_on head before) on;
      number = right-is before.more (before.msgno == head.msgno) (right-is (is_msg before.kind) (goes_on head before) on);
    }

same-two : (m n : ℕ) → (m == n) ≡ true → (n == 2) ≡ true → (m == 2) ≡ true
same-two m n e two = grind (arith, nat_tests)

-- what a frame of that number before says
abbrev HadTwo : List Item → Type 0
HadTwo journal = (before : Head) → previous Side.Sent (zero_history journal) ≡ Some before → is_msg before.kind ≡ true → (before.msgno == 2) ≡ true → has_begun 2 journal ≡ true

header-two : (terms : Terms) (journal : List Item) (head : Head) → is_none (unlawful_head terms none_tunes journal head) ≡ true → (head.channel == 0) ≡ true → is_msg head.kind ≡ true
    → (head.msgno == 2) ≡ true → HadTwo journal → has_begun 2 (began Side.Sent head ∷ journal) ≡ true
header-two terms journal head lawful at_zero msg two had = of (begins_request Side.Sent (zero_history journal) head) refl
  where
    third : (m n : ℕ) → (m == 2) ≡ true → m ≡ n % MESSAGE_NUMBERS → nat_lt 2 (n + 1) ≡ true
    third m n is e =
        let two : m ≡ 2 = eqb-true m 2 is in
        let least : 2 ≤ n = omega (arith, two, e) in grind (arith, nat_tests, least)

    of : (b : Bool) → begins_request Side.Sent (zero_history journal) head ≡ b → has_begun 2 (began Side.Sent head ∷ journal) ≡ true
    of true begins =
        ap (nat_lt 2) (header-requests head journal true (ap (λ (b : Bool). b && begins_request Side.Sent (zero_history journal) head) at_zero ∙ begins))
        ∙ third head.msgno (count journal) two (placed terms journal head lawful at_zero begins)
    of false begins =
        let g = goes-on (zero_history journal) head msg begins in
        begun-later (began Side.Sent head) journal (had g.before g.is g.asks (same-two g.before.msgno head.msgno g.number two))

-- ---- the journal of a lawful end

skip-header : (by : Side) (head : Head) (journal : List Item) → previous Side.Sent (zero_history (began by head ∷ journal)) ≡ previous Side.Sent (zero_history journal)
skip-header by head journal = ap (previous Side.Sent) (zero-where (head.channel == 0) (began by head) journal refl) ∙ of (head.channel == 0)
  where
    of : (b : Bool) → previous Side.Sent (if b then began by head ∷ zero_history journal else zero_history journal) ≡ previous Side.Sent (zero_history journal)
    of true = refl
    of false = refl

skip-seq : (by : Side) (seq : Seq) (journal : List Item) → previous Side.Sent (zero_history (told by seq ∷ journal)) ≡ previous Side.Sent (zero_history journal)
skip-seq by seq journal = ap (previous Side.Sent) (zero-where (seq.channel == 0) (told by seq) journal refl) ∙ of (seq.channel == 0)
  where
    of : (b : Bool) → previous Side.Sent (if b then told by seq ∷ zero_history journal else zero_history journal) ≡ previous Side.Sent (zero_history journal)
    of true = refl
    of false = refl

skip-received : (head : Head) (payload : List ℕ) (journal : List Item)
    → previous Side.Sent (zero_history (passed Side.Received head payload ∷ journal)) ≡ previous Side.Sent (zero_history journal)
skip-received head payload journal = ap (previous Side.Sent) (zero-where (head.channel == 0) (passed Side.Received head payload) journal refl) ∙ of (head.channel == 0)
  where
    of : (b : Bool) → previous Side.Sent (if b then passed Side.Received head payload ∷ zero_history journal else zero_history journal) ≡ previous Side.Sent (zero_history journal)
    of true = refl
    of false = refl

same-some : (a b : Head) → Some a ≡ Some b → a ≡ b
same-some a b e = cc

-- what two headers that are one agree in
record AreOne (a b : Head) : Type 0 where
  pub kind : is_msg a.kind ≡ is_msg b.kind
  pub channel : (a.channel == b.channel) ≡ true
  pub number : (a.msgno == b.msgno) ≡ true

same-msg : (a b : Kind) → same_kind a b ≡ true → is_msg a ≡ is_msg b
same-msg Kind.Msg Kind.Msg is = refl
same-msg Kind.Rpy Kind.Rpy is = refl
same-msg Kind.Err Kind.Err is = refl
same-msg Kind.Ans Kind.Ans is = refl
same-msg Kind.Nul Kind.Nul is = refl
same-msg Kind.Msg Kind.Rpy is = absurd (let h : false ≡ true = is in cc)
same-msg Kind.Msg Kind.Err is = absurd (let h : false ≡ true = is in cc)
same-msg Kind.Msg Kind.Ans is = absurd (let h : false ≡ true = is in cc)
same-msg Kind.Msg Kind.Nul is = absurd (let h : false ≡ true = is in cc)
same-msg Kind.Rpy Kind.Msg is = absurd (let h : false ≡ true = is in cc)
same-msg Kind.Err Kind.Msg is = absurd (let h : false ≡ true = is in cc)
same-msg Kind.Ans Kind.Msg is = absurd (let h : false ≡ true = is in cc)
same-msg Kind.Nul Kind.Msg is = absurd (let h : false ≡ true = is in cc)
same-msg Kind.Rpy Kind.Err is = refl
same-msg Kind.Rpy Kind.Ans is = refl
same-msg Kind.Rpy Kind.Nul is = refl
same-msg Kind.Err Kind.Rpy is = refl
same-msg Kind.Err Kind.Ans is = refl
same-msg Kind.Err Kind.Nul is = refl
same-msg Kind.Ans Kind.Rpy is = refl
same-msg Kind.Ans Kind.Err is = refl
same-msg Kind.Ans Kind.Nul is = refl
same-msg Kind.Nul Kind.Rpy is = refl
same-msg Kind.Nul Kind.Err is = refl
same-msg Kind.Nul Kind.Ans is = refl

are-one : (begun head : Head) (payload : List ℕ) → not (same_head begun head && length payload == head.size) ≡ false → AreOne begun head
are-one begun head payload joined =
    let e = left-is (same_head begun head) (length payload == head.size) (shown (same_head begun head && length payload == head.size) joined) in
    let three : (same_kind begun.kind head.kind && begun.channel == head.channel && begun.msgno == head.msgno) ≡ true = of (same_kind begun.kind head.kind && begun.channel == head.channel && begun.msgno == head.msgno)
    (same_flag begun.more head.more) (begun.seqno == head.seqno) (begun.size == head.size) (begun.ansno == head.ansno) e in
    let two = left-is (same_kind begun.kind head.kind && begun.channel == head.channel) (begun.msgno == head.msgno) three in
    record {
      kind = same-msg begun.kind head.kind (left-is (same_kind begun.kind head.kind) (begun.channel == head.channel) two);
      channel = right-is (same_kind begun.kind head.kind) (begun.channel == head.channel) two;
      number = right-is (same_kind begun.kind head.kind && begun.channel == head.channel) (begun.msgno == head.msgno) three;
    }
  where
    shown : (b : Bool) → not b ≡ false → b ≡ true
    shown true e = refl
    shown false e = absurd (let h : true ≡ false = e in cc)

    of : (a b c d e : Bool) → (a && b && c && d && e) ≡ true → a ≡ true
    of true b c d e is = refl
    of false b c d e is = absurd (let h : false ≡ true = is in cc)

same-zero : (m n : ℕ) → (m == n) ≡ true → (n == 0) ≡ true → (m == 0) ≡ true
same-zero m n e zero = grind (arith, nat_tests)

-- a sent request of channel zero with the number 2 is the one at that place, or comes later
pub had-two : (terms : Terms) (journal : List Item) → IsLawful terms none_tunes journal → HadTwo journal
had-two terms [] lawful before is msg two =
    absurd (let zero : (implied.msgno == 2) ≡ true = subst (λ (h : Head). (h.msgno == 2) ≡ true) (sym (same-some implied before is)) two in
    let h : false ≡ true = zero in cc)
had-two terms (began by head ∷ journal) lawful before is msg two =
    begun-later (began by head) journal (had-two terms journal (was-lawful terms (began by head) journal lawful) before (sym (skip-header by head journal) ∙ is) msg two)
had-two terms (told by seq ∷ journal) lawful before is msg two =
    begun-later (told by seq) journal (had-two terms journal (was-lawful terms (told by seq) journal lawful) before (sym (skip-seq by seq journal) ∙ is) msg two)
had-two terms (passed Side.Received head payload ∷ journal) lawful before is msg two =
    begun-later (passed Side.Received head payload) journal
    (had-two terms journal (was-lawful terms (passed Side.Received head payload) journal lawful) before (sym (skip-received head payload journal) ∙ is) msg two)
had-two terms (passed Side.Sent head payload ∷ []) lawful before is msg two =
    absurd (let h : true ≡ false = joins terms [] head payload (now-lawful terms (passed Side.Sent head payload) [] lawful) in cc)
had-two terms (passed Side.Sent head payload ∷ began Side.Received begun ∷ journal) lawful before is msg two =
    absurd (let h : true ≡ false = joins terms (began Side.Received begun ∷ journal) head payload (now-lawful terms (passed Side.Sent head payload) (began Side.Received begun ∷ journal) lawful) in cc)
had-two terms (passed Side.Sent head payload ∷ passed by other octets ∷ journal) lawful before is msg two =
    absurd (let h : true ≡ false = joins terms (passed by other octets ∷ journal) head payload (now-lawful terms (passed Side.Sent head payload) (passed by other octets ∷ journal) lawful) in cc)
had-two terms (passed Side.Sent head payload ∷ told by seq ∷ journal) lawful before is msg two =
    absurd (let h : true ≡ false = joins terms (told by seq ∷ journal) head payload (now-lawful terms (passed Side.Sent head payload) (told by seq ∷ journal) lawful) in cc)
had-two terms (passed Side.Sent head payload ∷ began Side.Sent begun ∷ journal) lawful before is msg two =
    begun-later (passed Side.Sent head payload) (began Side.Sent begun ∷ journal)
    (of (had-two terms journal (was-lawful terms (began Side.Sent begun) journal sooner)) (head.channel == 0) refl)
  where
    sooner : IsLawful terms none_tunes (began Side.Sent begun ∷ journal)
    sooner = was-lawful terms (passed Side.Sent head payload) (began Side.Sent begun ∷ journal) lawful

    of : HadTwo journal → (b : Bool) → (head.channel == 0) ≡ b → has_begun 2 (began Side.Sent begun ∷ journal) ≡ true
    of earlier false apart =
        begun-later (began Side.Sent begun) journal
        (earlier before (sym (skip-header Side.Sent begun journal) ∙ sym (ap (previous Side.Sent) (zero-where false (passed Side.Sent head payload) (began Side.Sent begun ∷ journal) apart)) ∙ is) msg two)
    of earlier true at_zero =
        let one = are-one begun head payload (joins terms (began Side.Sent begun ∷ journal) head payload (now-lawful terms (passed Side.Sent head payload) (began Side.Sent begun ∷ journal) lawful)) in
        let named : head ≡ before = same-some head before (sym (ap (previous Side.Sent) (zero-where true (passed Side.Sent head payload) (began Side.Sent begun ∷ journal) at_zero)) ∙ is) in
        header-two terms journal begun (now-lawful terms (began Side.Sent begun) journal sooner) (same-zero begun.channel head.channel one.channel at_zero)
        (one.kind ∙ ap (λ (h : Head). is_msg h.kind) named ∙ msg)
        (same-two begun.msgno head.msgno one.number (ap (λ (h : Head). h.msgno == 2) named ∙ two)) earlier

-- ---- a frame that goes out

-- the own close has begun, or begins with this frame
pub frame-begins : (terms : Terms) (journal : List Item) (head : Head) (payload : List ℕ) (closing : Bool)
    → IsLawful terms none_tunes (passed Side.Sent head payload ∷ began Side.Sent head ∷ journal) → closing ≡ has_begun 2 journal
    → (closing || (head.channel == 0 && is_msg head.kind && head.msgno == 2)) ≡ has_begun 2 (passed Side.Sent head payload ∷ began Side.Sent head ∷ journal)
frame-begins terms journal head payload closing lawful is =
    of closing is ∙ sym (begun-same (passed Side.Sent head payload) (began Side.Sent head ∷ journal) tt)
  where
    sooner : IsLawful terms none_tunes (began Side.Sent head ∷ journal)
    sooner = was-lawful terms (passed Side.Sent head payload) (began Side.Sent head ∷ journal) lawful

    begins : Bool
    begins = begins_request Side.Sent (zero_history journal) head

    counted : (b : Bool) → (head.channel == 0 && begins_request Side.Sent (zero_history journal) head) ≡ b
        → has_begun 2 (began Side.Sent head ∷ journal) ≡ nat_lt 2 (if b then count journal + 1 else count journal)
    counted b e = ap (nat_lt 2) (header-requests head journal b e)

    place : (m n : ℕ) → m ≡ n % MESSAGE_NUMBERS → nat_lt 2 n ≡ false → (m == 2) ≡ nat_lt 2 (n + 1)
    place m n e few =
        let less : n ≤ 2 = grind (arith, nat_tests, few) in
        let same : m ≡ n = omega (arith, less, e) in grind (arith, nat_tests, less, same)

    of : (closing : Bool) → closing ≡ has_begun 2 journal → (closing || (head.channel == 0 && is_msg head.kind && head.msgno == 2)) ≡ has_begun 2 (began Side.Sent head ∷ journal)
    of true was = sym (begun-later (began Side.Sent head) journal (sym was))
    of false was = at (head.channel == 0) refl
      where
        at : (z : Bool) → (head.channel == 0) ≡ z → (z && is_msg head.kind && head.msgno == 2) ≡ has_begun 2 (began Side.Sent head ∷ journal)
        at false apart = was ∙ sym (counted false (ap (λ (b : Bool). b && begins_request Side.Sent (zero_history journal) head) apart))
        at true at_zero = asks (is_msg head.kind) refl
          where
            whole : (b : Bool) → begins_request Side.Sent (zero_history journal) head ≡ b → (head.channel == 0 && begins_request Side.Sent (zero_history journal) head) ≡ b
            whole b e = ap (λ (z : Bool). z && begins_request Side.Sent (zero_history journal) head) at_zero ∙ e

            asks : (k : Bool) → is_msg head.kind ≡ k → (k && head.msgno == 2) ≡ has_begun 2 (began Side.Sent head ∷ journal)
            asks false msg = was ∙ sym (counted false (whole false (ap (λ (k : Bool). k && not (option_map_or (λ before. is_msg before.kind && goes_on head before) (previous Side.Sent (zero_history journal)) false)) msg)))
            asks true msg = by (begins_request Side.Sent (zero_history journal) head) refl
              where
                other : (b : Bool) → (head.msgno == 2) ≡ b → b ≡ false → (head.msgno == 2) ≡ false
                other b e f = e ∙ f

                later : (b : Bool) → begins_request Side.Sent (zero_history journal) head ≡ false → (head.msgno == 2) ≡ b → b ≡ false
                later false none e = refl
                later true none e =
                    let g = goes-on (zero_history journal) head msg none in
                    absurd (let had = had-two terms journal (was-lawful terms (began Side.Sent head) journal sooner) g.before g.is g.asks (same-two g.before.msgno head.msgno g.number e) in cc (had, was))

                by : (b : Bool) → begins_request Side.Sent (zero_history journal) head ≡ b → (head.msgno == 2) ≡ has_begun 2 (began Side.Sent head ∷ journal)
                by true e =
                    place head.msgno (count journal) (placed terms journal head (now-lawful terms (began Side.Sent head) journal sooner) at_zero e) (sym was)
                    ∙ sym (counted true (whole true e))
                by false e = later (head.msgno == 2) e refl ∙ was ∙ sym (counted false (whole false e))
