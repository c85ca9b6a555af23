-- What was given and taken in each life holds what was sent and what arrived.
use Rattle.std.proofs.Common.{◌≡◌, ◌⊎◌, inl, inr, ℕ, ◌<◌, ◌≤◌, ◌==◌, Bool, true, false, ◌&&◌, ◌||◌, List, [], ◌∷◌, ◌++◌, map, Option, Some, None, is_some, refl, sym, ap, ◌∙◌, subst, append_assoc, arith}
use Rattle.std.specs.List.{list_any}
use Rattle.std.proofs.lemmas.List.{map-append}
use Rattle.beep_session.specs.beep_frame.specs.declared.head.Head.{Head}
use Rattle.beep_session.specs.beep_frame.specs.declared.seq.Seq.{Seq}
use Rattle.beep_session.specs.beep_frame.specs.Frame.{Frame, framed, seq_frame}
use Rattle.beep_session.specs.beep_history.specs.declared.journal.Side.{Side}
use Rattle.beep_session.specs.beep_history.specs.Journal.{Item, began, passed, told}
use Rattle.beep_session.specs.beep_history.specs.Marks.{Mark, marks, mark_modulo_2_64}
use Rattle.beep_session.specs.beep_journal.specs.Lives.{Event as Moment, lives, is_live, live_life}
use Rattle.beep_session.specs.beep_journal.specs.Zero.{events}
use Rattle.beep_session.specs.beep_journal.specs.Life.{life, life_now, is_there, history}
use Rattle.beep_session.specs.beep_journal.proofs.JournalLemmas.{told-there}
use Rattle.beep_session.specs.beep_journal.proofs.MomentLemmas.{same-number, equal-number}
use Rattle.beep_session.specs.beep_inbox.specs.Laws.{part_marks}
use Rattle.beep_session.specs.beep_inbox.specs.Runs.{marks_of as untaken_marks}
use Rattle.beep_session.specs.beep_outbox.specs.Queue.{message_marks, marks_of as unsent_marks}
use Rattle.beep_session.specs.beep_channel.specs.Held.{Live}
use Rattle.beep_session.specs.beep_lives.specs.Lives.{live_at}
use Rattle.beep_session.specs.beep_standing.specs.Standing.{Marks, with_marks, AreLiveBy}
use Rattle.beep_session.specs.beep_hearing.specs.Hears.{SameAbove, Join, ends_zero}
use Rattle.beep_session.specs.beep_peer.specs.Peering.{Carries}
use Rattle.beep_session.specs.beep_peer.proofs.SpeakLemmas.{carries-same, carries-above}
use Rattle.beep_session.specs.beep_peer.proofs.GainLemmas.{gained-events}
use Rattle.beep_session.specs.declared.event.Event.{Event}
use Rattle.beep_two_sessions.specs.End.{End, Doing, Book, with_more, Awaits, StandsSo, StandsUnbroken, Begins as Starts}
use Rattle.beep_two_sessions.specs.Acts.{Act, gives, asks, takes, settles, stops, sends, pauses, gets, rests, given_marks, HasSent, HasTold, SendsAs, HasGained, GetsAs, UsesNone, Does}
use Rattle.beep_two_sessions.specs.World.{World, Move, a_does, b_does, IsReached}
use Rattle.beep_two_sessions.proofs.ReadLemmas.{all-come}
use Rattle.beep_two_sessions.proofs.MoveLemmas.{stands-a, stands-b}
use Rattle.beep_two_sessions.proofs.FollowLemmas.{Begins, begins-then, Follows, gained-follows, told-follows, settled-follows, sent-follows}

-- ---- marks, positions modulo 2^64

abbrev pub modulo_marks : List Mark → List Mark
modulo_marks ms = map mark_modulo_2_64 ms

pub told-begins : (xs ys : List Mark) → Begins xs ys → Begins (modulo_marks xs) (modulo_marks ys)
told-begins xs ys b = record { later = modulo_marks b.later; is = ap modulo_marks b.is ∙ map-append mark_modulo_2_64 xs b.later }

-- ---- the books of an end

pub record Booked (journal : List Item) (given taken : Marks) (gave took : Book) : Type 0 where
  -- in a live life they are what the calls speak of
  pub live_gave : (n : ℕ) → (n == 0) ≡ false → is_there n journal ≡ true → gave n (life_now n journal) ≡ given n
  pub live_took : (n : ℕ) → (n == 0) ≡ false → is_there n journal ≡ true → took n (life_now n journal) ≡ taken n
  -- in one that hasn't begun there is nothing
  pub fresh_gave : (n k : ℕ) → (n == 0) ≡ false → lives n (events journal) < k → gave n k ≡ []
  pub fresh_took : (n k : ℕ) → (n == 0) ≡ false → lives n (events journal) < k → took n k ≡ []
  -- what was sent was given, and what was taken arrived
  pub sent : (n k : ℕ) → (n == 0) ≡ false → 0 < k → Begins (modulo_marks (marks Side.Sent (life n k journal))) (gave n k)
  pub got : (n k : ℕ) → (n == 0) ≡ false → 0 < k → Begins (took n k) (modulo_marks (marks Side.Received (life n k journal)))

-- ---- a live life

record LiveMarks (n : ℕ) (journal : List Item) (given taken : Marks) : Type 0 where
  pub sent : Begins (modulo_marks (marks Side.Sent (life n (life_now n journal) journal))) (given n)
  pub got : Begins (taken n) (modulo_marks (marks Side.Received (life n (life_now n journal) journal)))

live-marks : (size : ℕ) (journal : List Item) (given taken : Marks) (channels : List Live) → AreLiveBy size journal given taken channels → (n : ℕ) → (n == 0) ≡ false
    → is_there n journal ≡ true → LiveMarks n journal given taken
live-marks size journal given taken channels s n above there = of (live_at n channels) refl
  where
    here : history n journal ≡ life n (life_now n journal) journal
    here = rw above refl

    of : (c : Option Live) → live_at n channels ≡ c → LiveMarks n journal given taken
    of None e = absurd (let bad : true ≡ false = sym there ∙ s.there n ∙ ap (λ (o : Option Live). is_some o) e in cc)
    of (Some c) e =
        let h = s.above n c above e in
        record {
          sent = record { later = unsent_marks c.held.queue; is = h.all_given ∙ ap (λ (past : List Item). modulo_marks (marks Side.Sent past) ++ unsent_marks c.held.queue) here };
          got = record { later = untaken_marks c.held.inbox; is = ap (λ (past : List Item). modulo_marks (marks Side.Received past)) (sym here) ∙ h.all_arrived };
        }

-- ---- a journal that goes on

and-one : (a b : Bool) → (a && b) ≡ true → a ≡ true
and-one true b e = refl
and-one false b e = cc

and-two : (a b : Bool) → (a && b) ≡ true → b ≡ true
and-two true b e = e
and-two false b e = cc

module _ (journal next : List Item) (given given_now taken taken_now : Marks) (gave took : Book) (f : Follows journal next)
    (g : Carries journal next given given_now) (t : Carries journal next taken taken_now) (b : Booked journal given taken gave took) where
  next-gave : (n : ℕ) → (n == 0) ≡ false → is_there n next ≡ true → gave n (life_now n next) ≡ given_now n
  next-gave n above there = of (is_there n journal) refl
    where
      of : (w : Bool) → is_there n journal ≡ w → gave n (life_now n next) ≡ given_now n
      of true was = ap (gave n) (f.stays n above was there) ∙ b.live_gave n above was ∙ sym (g.same n above was)
      of false was = b.fresh_gave n (life_now n next) above (f.begins n above was there) ∙ sym (g.fresh n was there)

  next-took : (n : ℕ) → (n == 0) ≡ false → is_there n next ≡ true → took n (life_now n next) ≡ taken_now n
  next-took n above there = of (is_there n journal) refl
    where
      of : (w : Bool) → is_there n journal ≡ w → took n (life_now n next) ≡ taken_now n
      of true was = ap (took n) (f.stays n above was there) ∙ b.live_took n above was ∙ sym (t.same n above was)
      of false was = b.fresh_took n (life_now n next) above (f.begins n above was there) ∙ sym (t.fresh n was there)

  pub book-on : (size : ℕ) (channels : List Live) → AreLiveBy size next given_now taken_now channels → Booked next given_now taken_now gave took
  book-on size channels s = record {
    live_gave = next-gave;
    live_took = next-took;
    fresh_gave = λ n k above less. b.fresh_gave n k above (omega (arith, f.grows n, less));
    fresh_took = λ n k above less. b.fresh_took n k above (omega (arith, f.grows n, less));
    sent = λ n k above pos. sent-by n k above pos (is_there n next && life_now n next == k) refl;
    got = λ n k above pos. got-by n k above pos (is_there n next && life_now n next == k) refl;
  }
    where
      sent-by : (n k : ℕ) → (n == 0) ≡ false → 0 < k → (w : Bool) → (is_there n next && life_now n next == k) ≡ w
          → Begins (modulo_marks (marks Side.Sent (life n k next))) (gave n k)
      sent-by n k above pos true e =
          let there : is_there n next ≡ true = and-one (is_there n next) (life_now n next == k) e in
          let now : life_now n next ≡ k = equal-number (life_now n next) k (and-two (is_there n next) (life_now n next == k) e) in
          subst (λ (m : ℕ). Begins (modulo_marks (marks Side.Sent (life n m next))) (gave n m)) now
          (subst (λ (ms : List Mark). Begins (modulo_marks (marks Side.Sent (life n (life_now n next) next))) ms) (sym (next-gave n above there))
          (live-marks size next given_now taken_now channels s n above there).sent)
      sent-by n k above pos false e =
          subst (λ (ms : List Mark). Begins (modulo_marks ms) (gave n k)) (sym (f.sent n k above pos e)) (b.sent n k above pos)

      got-by : (n k : ℕ) → (n == 0) ≡ false → 0 < k → (w : Bool) → (is_there n next && life_now n next == k) ≡ w
          → Begins (took n k) (modulo_marks (marks Side.Received (life n k next)))
      got-by n k above pos w e =
          begins-then (took n k) (modulo_marks (marks Side.Received (life n k journal))) (modulo_marks (marks Side.Received (life n k next))) (b.got n k above pos)
          (told-begins (marks Side.Received (life n k journal)) (marks Side.Received (life n k next)) (f.got n k))

-- ---- what a program gives and takes

now-within : (n : ℕ) (es : List Moment) → live_life n es ≤ lives n es
now-within n es = of (is_live n es) refl
  where
    of : (b : Bool) → is_live n es ≡ b → live_life n es ≤ lives n es
    of true e = let same : live_life n es ≡ lives n es = rw e refl in omega (arith, same)
    of false e = let same : live_life n es ≡ 0 = rw e refl in omega (arith, same)

-- a life that is now is there
pub now-there : (n k : ℕ) (journal : List Item) → 0 < k → (life_now n journal == k) ≡ true → is_there n journal ≡ true
now-there n k journal pos e = of (is_live n (events journal)) refl
  where
    or-two : (a b : Bool) → b ≡ true → (a || b) ≡ true
    or-two true b e = refl
    or-two false b e = e

    of : (b : Bool) → is_live n (events journal) ≡ b → is_there n journal ≡ true
    of true l = or-two (n == 0) (is_live n (events journal)) l
    of false l =
        let same : life_now n journal ≡ k = equal-number (life_now n journal) k e in
        let none : life_now n journal ≡ 0 = rw l refl in
        absurd (omega (arith, same, none, pos))

module _ (number count : ℕ) (ones : List Mark) (book : Book) where
  more-here : with_more number count ones book number count ≡ book number count ++ ones
  more-here = rw (same-number number, same-number count) refl

  pub more-beside : (n k : ℕ) → (number == n && count == k) ≡ false → with_more number count ones book n k ≡ book n k
  more-beside n k e = rw e refl

  more-begins : (xs : List Mark) (n k : ℕ) → Begins xs (book n k) → Begins xs (with_more number count ones book n k)
  more-begins xs n k b = of (number == n && count == k) refl
    where
      of : (w : Bool) → (number == n && count == k) ≡ w → Begins xs (with_more number count ones book n k)
      of true e = record { later = b.later ++ ones; is = rw e (ap (λ (ms : List Mark). ms ++ ones) b.is ∙ append_assoc xs b.later ones) }
      of false e = subst (λ (ms : List Mark). Begins xs ms) (sym (more-beside n k e)) b

with-here : (number : ℕ) (ones : List Mark) (m : Marks) → with_marks number ones m number ≡ ones
with-here number ones m = rw (same-number number) refl

with-beside : (number n : ℕ) (ones : List Mark) (m : Marks) → (number == n) ≡ false → with_marks number ones m n ≡ m n
with-beside number n ones m e = rw e refl

-- more comes in the live life of a number, as the calls speak of it and in its book
module _ (number : ℕ) (ones : List Mark) (journal : List Item) (m : Marks) (book : Book) where
  live-more : ((n : ℕ) → (n == 0) ≡ false → is_there n journal ≡ true → book n (life_now n journal) ≡ m n)
      → (n : ℕ) → (n == 0) ≡ false → is_there n journal ≡ true
      → with_more number (life_now number journal) ones book n (life_now n journal) ≡ with_marks number (m number ++ ones) m n
  live-more old n above there = of (number == n) refl
    where
      at : (j : ℕ) → number ≡ j → (j == 0) ≡ false → is_there j journal ≡ true
          → with_more number (life_now number journal) ones book j (life_now j journal) ≡ with_marks number (m number ++ ones) m j
      at j e above there =
          subst (λ (i : ℕ). with_more number (life_now number journal) ones book i (life_now i journal) ≡ with_marks number (m number ++ ones) m i) e
          (more-here number (life_now number journal) ones book
          ∙ ap (λ (ms : List Mark). ms ++ ones) (old number (subst (λ (i : ℕ). (i == 0) ≡ false) (sym e) above) (subst (λ (i : ℕ). is_there i journal ≡ true) (sym e) there))
          ∙ sym (with-here number (m number ++ ones) m))

      of : (w : Bool) → (number == n) ≡ w → with_more number (life_now number journal) ones book n (life_now n journal) ≡ with_marks number (m number ++ ones) m n
      of true e = at n (equal-number number n e) above there
      of false e =
          more-beside number (life_now number journal) ones book n (life_now n journal) (rw e refl) ∙ old n above there
          ∙ sym (with-beside number n (m number ++ ones) m e)

  fresh-more : ((n k : ℕ) → (n == 0) ≡ false → lives n (events journal) < k → book n k ≡ []) → (n k : ℕ) → (n == 0) ≡ false → lives n (events journal) < k
      → with_more number (life_now number journal) ones book n k ≡ []
  fresh-more old n k above less = of (number == n && life_now number journal == k) refl
    where
      of : (w : Bool) → (number == n && life_now number journal == k) ≡ w → with_more number (life_now number journal) ones book n k ≡ []
      of true e =
          let same : number ≡ n = equal-number number n (and-one (number == n) (life_now number journal == k) e) in
          let now : life_now number journal ≡ k = equal-number (life_now number journal) k (and-two (number == n) (life_now number journal == k) e) in
          let within : life_now n journal ≤ lives n (events journal) = now-within n (events journal) in
          let at : life_now n journal ≡ k = ap (λ (i : ℕ). life_now i journal) (sym same) ∙ now in
          absurd (omega (arith, within, at, less))
      of false e = more-beside number (life_now number journal) ones book n k e ∙ old n k above less

-- a message was given
pub book-given : (number : ℕ) (ones : List Mark) (journal : List Item) (given taken : Marks) (gave took : Book) → Booked journal given taken gave took
    → Booked journal (with_marks number (given number ++ ones) given) taken (with_more number (life_now number journal) ones gave) took
book-given number ones journal given taken gave took b = record {
  live_gave = live-more number ones journal given gave b.live_gave;
  live_took = b.live_took;
  fresh_gave = fresh-more number ones journal given gave b.fresh_gave;
  fresh_took = b.fresh_took;
  sent = λ n k above pos. more-begins number (life_now number journal) ones gave (modulo_marks (marks Side.Sent (life n k journal))) n k (b.sent n k above pos);
  got = b.got;
}

-- a part was taken
pub book-taken : (number : ℕ) (ones : List Mark) (size : ℕ) (journal : List Item) (given given_now taken : Marks) (gave took : Book) (channels : List Live)
    → ((n : ℕ) → (n == 0) ≡ false → given_now n ≡ given n)
    → AreLiveBy size journal given_now (with_marks number (taken number ++ ones) taken) channels → Booked journal given taken gave took
    → Booked journal given_now (with_marks number (taken number ++ ones) taken) gave (with_more number (life_now number journal) ones took)
book-taken number ones size journal given given_now taken gave took channels same s b = record {
  live_gave = λ n above there. b.live_gave n above there ∙ sym (same n above);
  live_took = live;
  fresh_gave = b.fresh_gave;
  fresh_took = fresh-more number ones journal taken took b.fresh_took;
  sent = b.sent;
  got = λ n k above pos. got-by n k above pos (life_now n journal == k) refl;
}
  where
    live : (n : ℕ) → (n == 0) ≡ false → is_there n journal ≡ true
        → with_more number (life_now number journal) ones took n (life_now n journal) ≡ with_marks number (taken number ++ ones) taken n
    live = live-more number ones journal taken took b.live_took

    other : (n k : ℕ) → (life_now n journal == k) ≡ false → (w : Bool) → (number == n) ≡ w → (number == n && life_now number journal == k) ≡ false
    other n k e true w = rw w (subst (λ (i : ℕ). (life_now i journal == k) ≡ false) (sym (equal-number number n w)) e)
    other n k e false w = rw w refl

    got-by : (n k : ℕ) → (n == 0) ≡ false → 0 < k → (w : Bool) → (life_now n journal == k) ≡ w
        → Begins (with_more number (life_now number journal) ones took n k) (modulo_marks (marks Side.Received (life n k journal)))
    got-by n k above pos true e =
        let there : is_there n journal ≡ true = now-there n k journal pos e in
        subst (λ (m : ℕ). Begins (with_more number (life_now number journal) ones took n m) (modulo_marks (marks Side.Received (life n m journal))))
        (equal-number (life_now n journal) k e)
        (subst (λ (ms : List Mark). Begins ms (modulo_marks (marks Side.Received (life n (life_now n journal) journal)))) (sym (live n above there))
        (live-marks size journal given_now (with_marks number (taken number ++ ones) taken) channels s n above there).got)
    got-by n k above pos false e =
        subst (λ (ms : List Mark). Begins ms (modulo_marks (marks Side.Received (life n k journal))))
        (sym (more-beside number (life_now number journal) ones took n k (other n k e (number == n) refl))) (b.got n k above pos)

-- channel zero alone was given more
pub book-above : (journal : List Item) (given given_now taken : Marks) (gave took : Book) → ((n : ℕ) → (n == 0) ≡ false → given_now n ≡ given n)
    → Booked journal given taken gave took → Booked journal given_now taken gave took
book-above journal given given_now taken gave took same b = record {
  live_gave = λ n above there. b.live_gave n above there ∙ sym (same n above);
  live_took = b.live_took;
  fresh_gave = b.fresh_gave;
  fresh_took = b.fresh_took;
  sent = b.sent;
  got = b.got;
}

-- ---- any act

abbrev pub BookedEnd : End → Type 0
BookedEnd one = Booked one.journal one.given one.taken one.gave one.took

apart : (n : ℕ) → (n == 0) ≡ false → (0 == n) ≡ false
apart n e = of (0 == n) refl
  where
    of : (b : Bool) → (0 == n) ≡ b → b ≡ false
    of true z = let same : 0 ≡ n = equal-number 0 n z in let bad : true ≡ false = ap (λ (m : ℕ). m == 0) same ∙ e in cc
    of false z = refl

-- items came, of which none ends a message of channel zero
module _ (a : End) (b : BookedEnd a) (gained : List Item) (j : Join gained a.journal) (quiet : list_any ends_zero gained ≡ false) (taken_now : Marks)
    (same : SameAbove a.taken taken_now) (size : ℕ) (channels : List Live) (s : AreLiveBy size (gained ++ a.journal) a.given taken_now channels) where
  pub came-books : Booked (gained ++ a.journal) a.given taken_now a.gave a.took
  came-books =
      let there : (n : ℕ) → is_there n (gained ++ a.journal) ≡ is_there n a.journal =
      λ n. ap (λ (es : List Moment). n == 0 || is_live n es) (gained-events gained a.journal quiet) in
      book-on a.journal (gained ++ a.journal) a.given a.given a.taken taken_now a.gave a.took (gained-follows gained a.journal (all-come gained a.journal j) quiet)
      (carries-same a.journal (gained ++ a.journal) a.given there)
      (carries-above a.journal (gained ++ a.journal) a.taken a.taken taken_now (carries-same a.journal (gained ++ a.journal) a.taken there) same) b size channels s

module _ (a new : End) (b : BookedEnd a) where
  frame-books : (head : Head) (payload : List ℕ) → HasSent head payload a new → BookedEnd new
  frame-books head payload s =
      subst BookedEnd (sym s.new_is)
      (book-on a.journal (passed Side.Sent head payload ∷ began Side.Sent head ∷ a.journal) a.given s.given_now a.taken s.taken_now a.gave a.took
      (sent-follows head payload a.journal) s.given_is s.taken_is b s.session.limits.window s.session.peer.lives s.stands.stands.holds.live)

  seq-books : (seq : Seq) → HasTold seq a new → BookedEnd new
  seq-books seq s =
      subst BookedEnd (sym s.new_is)
      (book-on a.journal (told Side.Sent seq ∷ a.journal) a.given a.given a.taken a.taken a.gave a.took (told-follows seq a.journal)
      (carries-same a.journal (told Side.Sent seq ∷ a.journal) a.given (told-there Side.Sent seq a.journal))
      (carries-same a.journal (told Side.Sent seq ∷ a.journal) a.taken (told-there Side.Sent seq a.journal)) b s.session.limits.window s.session.peer.lives
      s.stands.stands.holds.live)

  sends-books : (frame : Frame) → SendsAs frame a new → BookedEnd new
  sends-books (framed head payload) s = frame-books head payload s
  sends-books (seq_frame seq) s = seq-books seq s

  gained-books : (octets : List ℕ) → HasGained octets a new → BookedEnd new
  gained-books octets s =
      subst BookedEnd (sym s.new_is)
      (came-books a b s.gained s.gains.join s.gains.quiet s.gains.taken_now s.gains.same s.session.limits.window s.session.peer.lives s.stands.stands.holds.live)

  gets-books : (event : Event) (octets : List ℕ) → GetsAs event octets a new → BookedEnd new
  gets-books Event.More octets s = gained-books octets s
  gets-books (Event.Arrived number) octets s = gained-books octets s
  gets-books Event.Zero octets s =
      subst BookedEnd (sym s.new_is)
      (came-books a b s.zero.gained s.zero.join s.zero.quiet s.zero.taken_now s.zero.same a.session.limits.window s.session.peer.lives s.zero.waits.waits.live)
  gets-books Event.Released octets s = absurd s
  gets-books (Event.Broken rule place) octets s =
      subst BookedEnd (sym s.new_is)
      (came-books a b s.breaks.gained s.breaks.join s.breaks.quiet s.breaks.taken_now s.breaks.same a.session.limits.window s.session.peer.lives s.breaks.live)
  gets-books Event.NoMemory octets s = gained-books octets s

  pub does-books : (act : Act) → StandsUnbroken a → Does act a new → BookedEnd new
  does-books (gives number kind octets) u s =
      subst BookedEnd (sym s.new_is) (book-given number (given_marks number kind octets a) a.journal a.given a.taken a.gave a.took b)
  does-books (asks octets) u s =
      subst BookedEnd (sym s.new_is)
      (book-above a.journal a.given (with_marks 0 (a.given 0 ++ message_marks s.ask) a.given) a.taken a.gave a.took
      (λ n above. with-beside 0 n (a.given 0 ++ message_marks s.ask) a.given (apart n above)) b)
  does-books (takes number part octets) u s =
      subst BookedEnd (sym s.new_is)
      (book-taken number (part_marks part octets) s.session.limits.window a.journal a.given s.given_now a.taken a.gave a.took s.session.peer.lives
      (λ n above. s.above n (apart n above)) s.stands.stands.holds.live b)
  does-books settles u s =
      let t : Awaits s.head s.payload a = subst (λ (d : Doing). StandsSo d a) s.waiting u in
      subst BookedEnd (sym s.new_is)
      (book-on a.journal (passed Side.Received s.head s.payload ∷ a.journal) a.given s.given_now a.taken s.taken_now a.gave a.took
      (settled-follows s.head s.payload a.journal t.waits.waits.zero_is) s.given_is s.taken_is b s.session.limits.window s.session.peer.lives s.stands.stands.holds.live)
  does-books (stops rule place) u s = subst BookedEnd (sym s.new_is) b
  does-books (sends frame) u s = sends-books frame s
  does-books pauses u s = subst BookedEnd (sym s.still) b
  does-books (gets octets event) u s = used s
    where
      used : UsesNone octets a new ⊎ GetsAs event octets a new → BookedEnd new
      used (inl s) = subst BookedEnd (sym s.still) b
      used (inr s) = gets-books event octets s
  does-books rests u s = subst BookedEnd (sym s.new_is) b

begun-books : (one : End) → Starts one → BookedEnd one
begun-books one s = subst BookedEnd (sym s.new_is) (record {
  live_gave = λ n above there. sym (s.above n (apart n above));
  live_took = λ n above there. refl;
  fresh_gave = λ n k above less. refl;
  fresh_took = λ n k above less. refl;
  sent = λ n k above pos. record { later = []; is = refl };
  got = λ n k above pos. record { later = []; is = refl };
})

-- ---- any moves

pub books : (moves : List Move) (world : World) → IsReached moves world → BookedEnd world.a × BookedEnd world.b
books [] world r = (begun-books world.a r.a, begun-books world.b r.b)
books (a_does act ∷ moves) world (before, s, same, used, put, r) =
    let b = books moves before r in
    (does-books before.a world.a b.0 act (stands-a moves before r) s, subst BookedEnd (sym same) b.1)
books (b_does act ∷ moves) world (before, s, same, used, put, r) =
    let b = books moves before r in
    (subst BookedEnd (sym same) b.0, does-books before.b world.b b.1 act (stands-b moves before r) s)
