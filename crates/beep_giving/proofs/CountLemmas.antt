-- What a life's channel counts, by what was given and taken in it.
use Rattle.std.proofs.Common.{◌≡◌, ℕ, zero, suc, ◌+◌, ◌-◌, ◌<◌, ◌==◌, Bool, true, false, not, if◌then◌else◌, List, ◌++◌, Option, Some, refl, sym, ap, ◌∙◌, arith, subst}
use Rattle.std.specs.Prelude.{nat_lt}
use Rattle.std.specs.Option.{option_map_or}
use Rattle.std.proofs.lemmas.Bool.Decides.{nat_tests}
use Rattle.beep_peer.specs.beep_frame.specs.declared.kind.Kind.{Kind}
use Rattle.beep_peer.specs.beep_frame.specs.declared.tag.Tag.{Tag}
use Rattle.beep_peer.specs.beep_frame.specs.Frame.{is_msg, is_ans, is_reply}
use Rattle.beep_peer.specs.beep_frame.specs.Modulo.{modulo_2_64}
use Rattle.beep_peer.specs.beep_history.specs.Journal.{Item}
use Rattle.beep_peer.specs.beep_history.specs.Marks.{Mark}
use Rattle.beep_peer.specs.beep_exchange.specs.declared.given.Given.{Given}
use Rattle.beep_peer.specs.beep_exchange.specs.Given.{ends_reply, message_number, after_given, after_taken, next_asked_now}
use Rattle.beep_peer.specs.beep_inbox.specs.Runs.{marks_with}
use Rattle.beep_peer.specs.beep_outbox.specs.Queue.{Message, message_marks}
use Rattle.beep_peer.specs.beep_channel.specs.Held.{Held, Live, next_ask, next_reply, ansno_of}
use Rattle.beep_peer.specs.beep_channel.specs.Stands.{IsCounted, ends_of, answers_after, answer_number}
use Rattle.beep_peer.specs.beep_channel.proofs.CountedLemmas.{ends-append, ends-part, counted-ask, counted-reply}
use Rattle.beep_peer.specs.beep_lives.specs.Lives.{live_at}
use Rattle.beep_peer.specs.beep_lives.proofs.ListLemmas.{live-number}
use Rattle.beep_peer.specs.beep_standing.specs.Standing.{Marks, AreLiveBy}
use Rattle.beep_giving.specs.Giving.{next_message}

-- ---- numbers above zero

pub above-zero : (number : ℕ) → 0 < number → (number == 0) ≡ false
above-zero number above = grind (arith, nat_tests)

pub turned : (number : ℕ) → (number == 0) ≡ false → (0 == number) ≡ false
turned number above = grind (arith, nat_tests)

-- ---- what is counted

pub counted-above : (size n : ℕ) (journal : List Item) (given taken : Marks) (channels : List Live) (c : Live) → (n == 0) ≡ false
    → AreLiveBy size journal given taken channels → live_at n channels ≡ Some c → IsCounted false c.held.life.given (given n) (taken n)
counted-above size n journal given taken channels c above live at =
    subst (λ (b : Bool). IsCounted b c.held.life.given (given n) (taken n)) (ap (λ (k : ℕ). k == 0) (live-number n channels c at) ∙ above)
    (live.above n c above at).counted

-- five numbers that are equal
same-given : (g h : Given) → h.asked ≡ g.asked → h.first_asked ≡ g.first_asked → h.owed ≡ g.owed → h.first_owed ≡ g.first_owed → h.answers ≡ g.answers → h ≡ g
same-given g h asked first_asked owed first_owed answers =
    ap (λ (n : ℕ). record h { asked = n }) asked
    ∙ ap (λ (n : ℕ). record h { asked = g.asked; first_asked = n }) first_asked
    ∙ ap (λ (n : ℕ). record g { owed = n; first_owed = h.first_owed; answers = h.answers }) owed
    ∙ ap (λ (n : ℕ). record g { first_owed = n; answers = h.answers }) first_owed
    ∙ ap (λ (o : Option ℕ). record g { answers = o }) answers

-- what was given and taken tells them
one-count : (g h : Given) (given taken : List Mark) → IsCounted false g given taken → IsCounted false h given taken → h ≡ g
one-count g h given taken k l =
    same-given g h (omega (arith, k.asked, l.asked)) (l.first_asked ∙ sym k.first_asked) (omega (arith, k.owed, l.owed)) (l.first_owed ∙ sym k.first_owed)
    (l.answers ∙ sym k.answers)

-- ---- the next message

abbrev message-of : Kind → List ℕ → ℕ → ℕ → Message
message-of kind octets request ansno = record { tag = record { kind = kind; request = request; ansno = ansno }; octets = octets }

told-number : (n : ℕ) → option_map_or (λ (a : ℕ). a) (answer_number n) 0 ≡ message_number n
told-number zero = refl
told-number (suc n) = let e : nat_lt 0 (suc n) ≡ true = grind (arith, nat_tests) in rw e refl

no-request : (b : Bool) → not b ≡ true → b ≡ false
no-request true reply = cc
no-request false reply = refl

-- the position of the next request
pub asked-next : (g : Given) (given taken : List Mark) → IsCounted false g given taken → next_asked_now g ≡ modulo_2_64 (ends_of is_msg given)
asked-next g given taken k = let e = k.asked in let f = k.first_asked in omega (arith, e, f)

module _ (c : Held) (given taken : List Mark) (k : IsCounted false c.life.given given taken) (octets : List ℕ) where
  pub ask-is : next_ask c octets ≡ next_message Kind.Msg octets given
  ask-is = ap (λ (n : ℕ). message-of Kind.Msg octets n 0) (asked-next c.life.given given taken k)

  pub reply-is : (kind : Kind) → is_reply kind ≡ true → next_reply c kind octets ≡ next_message kind octets given
  reply-is kind reply =
      ap (λ (n : ℕ). message-of kind octets n (ansno_of c kind)) request
      ∙ ap (λ (n : ℕ). message-of kind octets (modulo_2_64 (if is_msg kind then ends_of is_msg given else ends_of ends_reply given)) n) number
    where
      request : c.life.given.first_owed ≡ modulo_2_64 (if is_msg kind then ends_of is_msg given else ends_of ends_reply given)
      request = k.first_owed ∙ ap (λ (b : Bool). modulo_2_64 (if b then ends_of is_msg given else ends_of ends_reply given)) (sym (no-request (is_msg kind) reply))

      number : ansno_of c kind ≡ (if is_ans kind then message_number (answers_after 0 given) else 0)
      number =
          ap (λ (n : ℕ). if is_ans kind then n else 0)
          (ap (λ (o : Option ℕ). option_map_or (λ (a : ℕ). a) o 0) k.answers ∙ told-number (answers_after 0 given))

  -- ---- what is counted after it

  pub after-ask : (h : Given) → IsCounted false h (given ++ message_marks (next_ask c octets)) taken → h ≡ after_given c.life.given Kind.Msg
  after-ask h l =
      one-count (after_given c.life.given Kind.Msg) h (given ++ message_marks (next_ask c octets)) taken
      (counted-ask false c.life.given given taken k (next_asked_now c.life.given) 0 octets refl refl) l

  pub after-reply : (kind : Kind) → is_reply kind ≡ true → 0 < c.life.given.owed → (h : Given)
      → IsCounted false h (given ++ message_marks (next_reply c kind octets)) taken → h ≡ after_given c.life.given kind
  after-reply kind reply owed h l =
      one-count (after_given c.life.given kind) h (given ++ message_marks (next_reply c kind octets)) taken
      (counted-reply false c.life.given given taken k c.life.given.first_owed (ansno_of c kind) octets kind (no-request (is_msg kind) reply) refl owed refl) l

-- an answer leaves its request owed
pub answer-owed : (g : Given) (kind : Kind) → is_ans kind ≡ true → (after_given g kind).owed ≡ g.owed
answer-owed g Kind.Msg answer = refl
answer-owed g Kind.Rpy answer = cc
answer-owed g Kind.Err answer = cc
answer-owed g Kind.Ans answer = refl
answer-owed g Kind.Nul answer = cc

-- ---- what is counted after a part

module _ (g h : Given) (given taken : List Mark) (tag : Tag) (octets : List ℕ) (k : IsCounted false g given taken) where
  -- without an end nothing is
  part-after : IsCounted false h given (taken ++ marks_with tag octets false) → h ≡ g
  part-after l =
      let a = ends-append is_msg taken (marks_with tag octets false) in let m = ends-part is_msg tag octets false in
      let b = ends-append ends_reply taken (marks_with tag octets false) in let n = ends-part ends_reply tag octets false in
      same-given g h
      (let e = k.asked in let f = l.asked in omega (arith, e, f, b, n))
      (let e = k.first_asked in let f = l.first_asked in omega (arith, e, f, b, n))
      (let e = k.owed in let f = l.owed in omega (arith, e, f, a, m))
      (l.first_owed ∙ sym k.first_owed) (l.answers ∙ sym k.answers)

  module _ (l : IsCounted false h given (taken ++ marks_with tag octets true)) where
    whole-after : is_msg tag.kind ≡ false → ends_reply tag.kind ≡ true
        → h ≡ record g { asked = g.asked - 1; first_asked = modulo_2_64 (g.first_asked + 1) }
    whole-after request reply =
        let a = ends-append is_msg taken (marks_with tag octets true) in
        let m : ends_of is_msg (marks_with tag octets true) ≡ 0 = ends-part is_msg tag octets true ∙ rw request refl in
        let b = ends-append ends_reply taken (marks_with tag octets true) in
        let n : ends_of ends_reply (marks_with tag octets true) ≡ 1 = ends-part ends_reply tag octets true ∙ rw reply refl in
        same-given (record g { asked = g.asked - 1; first_asked = modulo_2_64 (g.first_asked + 1) }) h
        (let e = k.asked in let f = l.asked in omega (arith, e, f, b, n))
        (let e = k.first_asked in let f = l.first_asked in omega (arith, e, f, b, n))
        (let e = k.owed in let f = l.owed in omega (arith, e, f, a, m))
        (l.first_owed ∙ sym k.first_owed) (l.answers ∙ sym k.answers)

    end-after : (kind : Kind) → tag.kind ≡ kind → h ≡ after_taken g kind
    end-after Kind.Rpy is = whole-after (ap is_msg is) (ap ends_reply is)
    end-after Kind.Err is = whole-after (ap is_msg is) (ap ends_reply is)
    end-after Kind.Nul is = whole-after (ap is_msg is) (ap ends_reply is)
    end-after Kind.Ans is =
        let a = ends-append is_msg taken (marks_with tag octets true) in
        let m : ends_of is_msg (marks_with tag octets true) ≡ 0 = ends-part is_msg tag octets true ∙ rw is refl in
        let b = ends-append ends_reply taken (marks_with tag octets true) in
        let n : ends_of ends_reply (marks_with tag octets true) ≡ 0 = ends-part ends_reply tag octets true ∙ rw is refl in
        same-given g h
        (let e = k.asked in let f = l.asked in omega (arith, e, f, b, n))
        (let e = k.first_asked in let f = l.first_asked in omega (arith, e, f, b, n))
        (let e = k.owed in let f = l.owed in omega (arith, e, f, a, m))
        (l.first_owed ∙ sym k.first_owed) (l.answers ∙ sym k.answers)
    end-after Kind.Msg is =
        let a = ends-append is_msg taken (marks_with tag octets true) in
        let m : ends_of is_msg (marks_with tag octets true) ≡ 1 = ends-part is_msg tag octets true ∙ rw is refl in
        let b = ends-append ends_reply taken (marks_with tag octets true) in
        let n : ends_of ends_reply (marks_with tag octets true) ≡ 0 = ends-part ends_reply tag octets true ∙ rw is refl in
        same-given (record g { owed = g.owed + 1 }) h
        (let e = k.asked in let f = l.asked in omega (arith, e, f, b, n))
        (let e = k.first_asked in let f = l.first_asked in omega (arith, e, f, b, n))
        (let e = k.owed in let f = l.owed in omega (arith, e, f, a, m))
        (l.first_owed ∙ sym k.first_owed) (l.answers ∙ sym k.answers)

pub after-part : (g h : Given) (given taken : List Mark) (tag : Tag) (octets : List ℕ) (ended : Bool) → IsCounted false g given taken
    → IsCounted false h given (taken ++ marks_with tag octets ended) → h ≡ (if ended then after_taken g tag.kind else g)
after-part g h given taken tag octets true k l = end-after g h given taken tag octets k l tag.kind refl
after-part g h given taken tag octets false k l = part-after g h given taken tag octets k l
