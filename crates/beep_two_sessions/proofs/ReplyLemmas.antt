-- Each reply that was given answers a request that its giver had wholly taken, and each request has one.
use Rattle.std.proofs.Common.{◌≡◌, ◌⊎◌, inl, inr, ℕ, zero, suc, ◌+◌, ◌<◌, ◌≤◌, ◌==◌, nat_lt, Bool, true, false, ◌&&◌, if◌then◌else◌, List, [], ◌∷◌, ◌++◌, map, is_some, Option, Some, None, refl, sym, ap, ◌∙◌, subst, arith}
use Rattle.std.proofs.lemmas.Bool.Decides.{nat_tests}
use Rattle.beep_session.specs.beep_frame.specs.declared.kind.Kind.{Kind}
use Rattle.beep_session.specs.beep_frame.specs.Frame.{Frame, framed, seq_frame, is_msg, is_ans}
use Rattle.beep_session.specs.beep_frame.specs.Modulo.{modulo_2_64}
use Rattle.beep_session.specs.beep_history.specs.Marks.{Mark, octet, end}
use Rattle.beep_session.specs.beep_history.specs.Journal.{Item}
use Rattle.beep_session.specs.beep_journal.specs.Life.{life_now, is_there}
use Rattle.beep_session.specs.beep_journal.proofs.MomentLemmas.{equal-number, same-number}
use Rattle.beep_session.specs.beep_exchange.specs.declared.given.Given.{Given}
use Rattle.beep_session.specs.beep_exchange.specs.Given.{ends_reply}
use Rattle.beep_session.specs.beep_inbox.specs.Laws.{part_marks}
use Rattle.beep_session.specs.beep_outbox.specs.Queue.{Message, message_marks}
use Rattle.beep_session.specs.beep_channel.specs.Fits.{as_number}
use Rattle.beep_session.specs.beep_channel.specs.Stands.{ends_of, answers_with, answers_after, answer_number, IsCounted}
use Rattle.beep_session.specs.beep_channel.proofs.CountedLemmas.{ends-append}
use Rattle.beep_session.specs.beep_lives.proofs.ListLemmas.{live-number}
use Rattle.beep_session.specs.beep_standing.specs.Standing.{Marks, with_marks}
use Rattle.beep_session.specs.beep_giving.specs.Giving.{next_message}
use Rattle.beep_session.specs.declared.event.Event.{Event}
use Rattle.beep_two_sessions.specs.End.{End, Book, with_more, Begins as Starts}
use Rattle.beep_two_sessions.specs.Acts.{Act, gives, asks, takes, settles, stops, sends, pauses, gets, rests, given_marks, HasGiven, HasTaken, SendsAs, GetsAs, UsesNone, Does}
use Rattle.beep_two_sessions.specs.World.{World, Move, a_does, b_does, IsReached}
use Rattle.beep_two_sessions.specs.Kept.{IsPrefix, IsReplyTo, AreReplies}
use Rattle.beep_two_sessions.proofs.BookLemmas.{BookedEnd, more-beside, now-there, books}
use Rattle.beep_two_sessions.proofs.PrefixLemmas.{apart, taken-at-a, taken-at-b}
use Rattle.beep_two_sessions.proofs.StillLemmas.{at-end}

-- ---- lists of marks

first-part : (q r : ℕ) (xs ys : List Mark) → AreReplies q r (xs ++ ys) → AreReplies q r xs
first-part q r [] ys a = tt
first-part q r (octet tag value ∷ xs) ys a = (a.0, first-part q r xs ys a.1)
first-part q r (end tag ∷ xs) ys a = (a.0, first-part q (if ends_reply tag.kind then r + 1 else r) xs ys a.1)

asked-more : (p q r : ℕ) (xs : List Mark) → p ≤ q → AreReplies p r xs → AreReplies q r xs
asked-more p q r [] h a = tt
asked-more p q r (octet tag value ∷ xs) h a = ((λ e. ((a.0 e).0, (let b = (a.0 e).1 in omega (arith, h, b)))), asked-more p q r xs h a.1)
asked-more p q r (end tag ∷ xs) h a =
    ((λ e. ((a.0 e).0, (let b = (a.0 e).1 in omega (arith, h, b)))), asked-more p q (if ends_reply tag.kind then r + 1 else r) xs h a.1)

joined : (q r : ℕ) (xs ys : List Mark) → AreReplies q r xs → AreReplies q (r + ends_of ends_reply xs) ys → AreReplies q r (xs ++ ys)
joined q r [] ys a b = subst (λ (n : ℕ). AreReplies q n ys) (let e : r + 0 ≡ r = omega arith in e) b
joined q r (octet tag value ∷ xs) ys a b = (a.0, joined q r xs ys a.1 b)
joined q r (end tag ∷ xs) ys a b =
    (a.0, joined q (if ends_reply tag.kind then r + 1 else r) xs ys a.1 (subst (λ (n : ℕ). AreReplies q n ys) (sym (more (ends_reply tag.kind) (ends_of ends_reply xs))) b))
  where
    more : (c : Bool) (m : ℕ) → (if c then r + 1 else r) + m ≡ r + (if c then m + 1 else m)
    more true m = omega arith
    more false m = refl

of-message : (q r : ℕ) (m : Message) → IsReplyTo q r m.tag → AreReplies q r (message_marks m)
of-message q r m a = of m.octets
  where
    of : (os : List ℕ) → AreReplies q r (map (octet m.tag) os ++ end m.tag ∷ [])
    of [] = (a, tt)
    of (o ∷ os) = (a, of os)

abbrev one_if : Bool → ℕ
one_if b = if b then 1 else 0

ends-message : (test : Kind → Bool) (m : Message) → ends_of test (message_marks m) ≡ one_if (test m.tag.kind)
ends-message test m = of m.octets
  where
    last : (b : Bool) → (if b then 0 + 1 else 0) ≡ one_if b
    last true = refl
    last false = refl

    of : (os : List ℕ) → ends_of test (map (octet m.tag) os ++ end m.tag ∷ []) ≡ one_if (test m.tag.kind)
    of [] = last (test m.tag.kind)
    of (o ∷ os) = of os

answers-append : (n : ℕ) (xs ys : List Mark) → answers_after n (xs ++ ys) ≡ answers_after (answers_after n xs) ys
answers-append n [] ys = refl
answers-append n (octet tag v ∷ xs) ys = answers-append n xs ys
answers-append n (end tag ∷ xs) ys = answers-append (answers_with tag.kind n) xs ys

answers-message : (n : ℕ) (m : Message) → answers_after n (message_marks m) ≡ answers_with m.tag.kind n
answers-message n m = of m.octets
  where
    of : (os : List ℕ) → answers_after n (map (octet m.tag) os ++ end m.tag ∷ []) ≡ answers_with m.tag.kind n
    of [] = refl
    of (o ∷ os) = of os

-- ---- a message that is given

-- a message of a reply answers a request that was wholly taken
module _ (kept : Given) (given taken : List Mark) (m : Message) (c : IsCounted false kept (given ++ message_marks m) taken) where
  owes : ends_of ends_reply given + one_if (ends_reply m.tag.kind) + kept.owed ≡ ends_of is_msg taken
  owes = let e = c.owed in omega (arith, e, ends-append ends_reply given (message_marks m), ends-message ends_reply m)

  ends-one : ends_reply m.tag.kind ≡ true → ends_of ends_reply given < ends_of is_msg taken
  ends-one e = let n : one_if (ends_reply m.tag.kind) ≡ 1 = rw e refl in omega (arith, owes, n)

  more-answers : is_ans m.tag.kind ≡ true → is_some kept.answers ≡ true
  more-answers e =
      ap (λ (o : Option ℕ). is_some o) c.answers
      ∙ ap (λ (n : ℕ). is_some (answer_number n)) (answers-append 0 given (message_marks m) ∙ answers-message (answers_after 0 given) m ∙ rw e refl)
      ∙ some (answers_after 0 given)
    where
      some : (n : ℕ) → is_some (answer_number (n + 1)) ≡ true
      some n = let e : nat_lt 0 (n + 1) ≡ true = grind (arith, nat_tests) in rw e refl

  answers-one : is_ans m.tag.kind ≡ true → ends_of ends_reply given < ends_of is_msg taken
  answers-one e = let o = c.answering (more-answers e) in omega (arith, owes, o)

  pub within : (kind : Kind) → m.tag.kind ≡ kind → is_msg kind ≡ false → ends_of ends_reply given < ends_of is_msg taken
  within Kind.Msg e f = cc
  within Kind.Rpy e f = ends-one (ap ends_reply e)
  within Kind.Err e f = ends-one (ap ends_reply e)
  within Kind.Ans e f = answers-one (ap is_ans e)
  within Kind.Nul e f = ends-one (ap ends_reply e)

-- ---- the books of an end

abbrev pub AnswersAll : End → Type 0
AnswersAll one = (n k : ℕ) → (n == 0) ≡ false → 0 < k → AreReplies (ends_of is_msg (one.took n k)) 0 (one.gave n k)

and-one : (a b : Bool) → (a && b) ≡ true → a ≡ true
and-one true b e = refl
and-one false b e = cc

and-two : (a b : Bool) → (a && b) ≡ true → b ≡ true
and-two true b e = e
and-two false b e = cc

module _ (number : ℕ) (kind : Kind) (octets : List ℕ) (old new : End) (b : BookedEnd old) (s : HasGiven number kind octets old new) (all : AnswersAll old) where
  abbrev message : Message
  message = next_message kind octets (old.given number)

  -- in the live life of the number
  reply-to : (number == 0) ≡ false → is_there number old.journal ≡ true → IsReplyTo (ends_of is_msg (old.taken number)) (ends_of ends_reply (old.given number)) message.tag
  reply-to above there m =
      let marks_now = with_marks number (old.given number ++ message_marks message) old.given in
      let c = at-end s.session.limits.window old.journal marks_now old.taken s.session.peer.lives s.stands.stands.holds.live number above there in
      let here : marks_now number ≡ old.given number ++ message_marks message = rw (same-number number) refl in
      let plain : (c.channel.held.number == 0) ≡ false = ap (λ (n : ℕ). n == 0) (live-number number s.session.peer.lives c.channel c.at) ∙ above in
      let counted : IsCounted false c.channel.held.life.given (old.given number ++ message_marks message) (old.taken number) =
      subst (λ (z : Bool). IsCounted z c.channel.held.life.given (old.given number ++ message_marks message) (old.taken number)) plain
      (subst (λ (ms : List Mark). IsCounted (c.channel.held.number == 0) c.channel.held.life.given ms (old.taken number)) here c.stands.counted) in
      (rw m refl, within c.channel.held.life.given (old.given number) (old.taken number) message counted kind refl m)

  given-here : (k : ℕ) → (number == 0) ≡ false → 0 < k → life_now number old.journal ≡ k
      → AreReplies (ends_of is_msg (old.took number k)) 0 (old.gave number k ++ message_marks message)
  given-here k above pos now =
      let there : is_there number old.journal ≡ true = now-there number k old.journal pos (ap (λ (n : ℕ). n == k) now ∙ same-number k) in
      let g : old.gave number k ≡ old.given number = ap (old.gave number) (sym now) ∙ b.live_gave number above there in
      let t : old.took number k ≡ old.taken number = ap (old.took number) (sym now) ∙ b.live_took number above there in
      joined (ends_of is_msg (old.took number k)) 0 (old.gave number k) (message_marks message) (all number k above pos)
      (of-message (ends_of is_msg (old.took number k)) (0 + ends_of ends_reply (old.gave number k)) message
      (subst (λ (ms : List Mark). IsReplyTo (ends_of is_msg ms) (0 + ends_of ends_reply (old.gave number k)) message.tag) (sym t)
      (subst (λ (n : ℕ). IsReplyTo (ends_of is_msg (old.taken number)) n message.tag) (let e : ends_of ends_reply (old.given number) ≡ 0 + ends_of ends_reply (old.gave number k) = omega (arith, ap (ends_of ends_reply) g) in e)
      (reply-to above there))))

  gave-now : (n k : ℕ) → (n == 0) ≡ false → 0 < k → (w : Bool) → (number == n && life_now number old.journal == k) ≡ w
      → AreReplies (ends_of is_msg (old.took n k)) 0 (with_more number (life_now number old.journal) (message_marks message) old.gave n k)
  gave-now n k above pos false w =
      subst (λ (ms : List Mark). AreReplies (ends_of is_msg (old.took n k)) 0 ms) (sym (more-beside number (life_now number old.journal) (message_marks message) old.gave n k w)) (all n k above pos)
  gave-now n k above pos true w =
      let is : number ≡ n = equal-number number n (and-one (number == n) (life_now number old.journal == k) w) in
      let now : life_now number old.journal ≡ k = equal-number (life_now number old.journal) k (and-two (number == n) (life_now number old.journal == k) w) in
      let more : with_more number (life_now number old.journal) (message_marks message) old.gave n k ≡ old.gave n k ++ message_marks message = rw w refl in
      subst (λ (ms : List Mark). AreReplies (ends_of is_msg (old.took n k)) 0 ms) (sym more)
      (subst (λ (m : ℕ). AreReplies (ends_of is_msg (old.took m k)) 0 (old.gave m k ++ message_marks message)) is
      (given-here k (subst (λ (m : ℕ). (m == 0) ≡ false) (sym is) above) pos now))

  given-all : AnswersAll new
  given-all = subst AnswersAll (sym s.new_is) (λ n k above pos. gave-now n k above pos (number == n && life_now number old.journal == k) refl)

module _ (old new : End) (all : AnswersAll old) where
  -- more requests are taken
  taken-all : (number count : ℕ) (ones : List Mark) (n k : ℕ) → (n == 0) ≡ false → 0 < k → AreReplies (ends_of is_msg (with_more number count ones old.took n k)) 0 (old.gave n k)
  taken-all number count ones n k above pos = asked-more (ends_of is_msg (old.took n k)) _ 0 (old.gave n k) (by (number == n && count == k)) (all n k above pos)
    where
      by : (w : Bool) → ends_of is_msg (old.took n k) ≤ ends_of is_msg (if w then old.took n k ++ ones else old.took n k)
      by true = let e = ends-append is_msg (old.took n k) ones in omega (arith, e)
      by false = omega arith

  sends-all : (frame : Frame) → SendsAs frame old new → AnswersAll new
  sends-all (framed head payload) s = subst AnswersAll (sym s.new_is) all
  sends-all (seq_frame seq) s = subst AnswersAll (sym s.new_is) all

  gets-all : (event : Event) (octets : List ℕ) → GetsAs event octets old new → AnswersAll new
  gets-all Event.More octets s = subst AnswersAll (sym s.new_is) all
  gets-all (Event.Arrived number) octets s = subst AnswersAll (sym s.new_is) all
  gets-all Event.Zero octets s = subst AnswersAll (sym s.new_is) all
  gets-all Event.Released octets s = absurd s
  gets-all (Event.Broken rule place) octets s = subst AnswersAll (sym s.new_is) all
  gets-all Event.NoMemory octets s = subst AnswersAll (sym s.new_is) all

  pub does-all : (act : Act) → BookedEnd old → Does act old new → AnswersAll new
  does-all (gives number kind octets) b s = given-all number kind octets old new b s all
  does-all (asks octets) b s = subst AnswersAll (sym s.new_is) all
  does-all (takes number part octets) b s = subst AnswersAll (sym s.new_is) (taken-all number (life_now number old.journal) (part_marks part octets))
  does-all settles b s = subst AnswersAll (sym s.new_is) all
  does-all (stops rule place) b s = subst AnswersAll (sym s.new_is) all
  does-all (sends frame) b s = sends-all frame s
  does-all pauses b s = subst AnswersAll (sym s.still) all
  does-all (gets octets event) b s = used s
    where
      used : UsesNone octets old new ⊎ GetsAs event octets old new → AnswersAll new
      used (inl s) = subst AnswersAll (sym s.still) all
      used (inr s) = gets-all event octets s
  does-all rests b s = subst AnswersAll (sym s.new_is) all

begun-all : (one : End) → Starts one → AnswersAll one
begun-all one s = subst AnswersAll (sym s.new_is) (λ n k above pos. tt)

-- ---- any moves

pub answers-all : (moves : List Move) (world : World) → IsReached moves world → AnswersAll world.a × AnswersAll world.b
answers-all [] world r = (begun-all world.a r.a, begun-all world.b r.b)
answers-all (a_does act ∷ moves) world (before, s, same, used, put, r) =
    let all = answers-all moves before r in
    let b = books moves before r in
    (does-all before.a world.a all.0 act b.0 s, subst AnswersAll (sym same) all.1)
answers-all (b_does act ∷ moves) world (before, s, same, used, put, r) =
    let all = answers-all moves before r in
    let b = books moves before r in
    (subst AnswersAll (sym same) all.0, does-all before.b world.b all.1 act b.1 s)

-- what was taken is the first part of what was given
module _ (moves : List Move) (world : World) (r : IsReached moves world) (n k : ℕ) (above : 0 < n) (pos : 0 < k) where
  pub replies-at-b : AreReplies (ends_of is_msg (world.a.took n k)) 0 (world.b.took n k)
  replies-at-b =
      let p = taken-at-b moves world r n k above pos in
      first-part _ 0 (world.b.took n k) p.0 (subst (λ (ms : List Mark). AreReplies (ends_of is_msg (world.a.took n k)) 0 ms) p.1 ((answers-all moves world r).0 n k (apart n above) pos))

  pub replies-at-a : AreReplies (ends_of is_msg (world.b.took n k)) 0 (world.a.took n k)
  replies-at-a =
      let p = taken-at-a moves world r n k above pos in
      first-part _ 0 (world.a.took n k) p.0 (subst (λ (ms : List Mark). AreReplies (ends_of is_msg (world.b.took n k)) 0 ms) p.1 ((answers-all moves world r).1 n k (apart n above) pos))
