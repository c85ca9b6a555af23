-- What a message that is given to channel zero makes of what is kept.
use Rattle.std.proofs.Common.{◌≡◌, ℕ, ◌+◌, ◌≤◌, ◌==◌, Bool, true, false, not, if◌then◌else◌, List, [], ◌∷◌, ◌++◌, length, map, reverse, Some, None, refl, sym, ap, ◌∙◌, arith, subst, append_assoc, append-nil, length-append}
use Rattle.std.proofs.lemmas.List.{drop-append-le}
use Rattle.beep_asked.specs.beep_frame.specs.declared.kind.Kind.{Kind}
use Rattle.beep_asked.specs.beep_frame.specs.Frame.{is_msg, is_ans, is_reply}
use Rattle.beep_asked.specs.beep_mgmt.specs.Message.{message_said}
use Rattle.beep_asked.specs.beep_history.specs.declared.journal.Side.{Side}
use Rattle.beep_asked.specs.beep_history.specs.Journal.{Item}
use Rattle.beep_asked.specs.beep_history.specs.Marks.{Mark, octet, end, marks, mark_modulo_2_64}
use Rattle.beep_asked.specs.beep_exchange.specs.Given.{ends_reply}
use Rattle.beep_asked.specs.beep_outbox.specs.Queue.{Message, message_marks}
use Rattle.beep_asked.specs.beep_journal.specs.Zero.{zero_history}
use Rattle.beep_asked.specs.beep_journal.specs.Laws.{contents}
use Rattle.beep_asked.specs.beep_channel.specs.Held.{Live}
use Rattle.beep_asked.specs.beep_channel.specs.Stands.{Stands, IsCounted, ends_of, answers_after, answer_number}
use Rattle.beep_asked.specs.beep_channel.proofs.CountedLemmas.{ends-append, ends-part}
use Rattle.beep_asked.specs.beep_standing.specs.Standing.{Marks, with_marks}
use Rattle.beep_spoken.specs.Spoken.{Spoken, text_of, kinds_of}
use Rattle.beep_spoken.proofs.SpokenLemmas.{spoken-more}
use Rattle.beep_asked.specs.Kept.{Kept, Queue}
use Rattle.beep_asked.specs.Asked.{AreWaiting}
use Rattle.beep_management.specs.Managed.{Prepared, Managed, number_started, numbers_started, numbers_granted, requests_among, replies_among}
use Rattle.beep_management.specs.Manages.{unsent, AreActs, IsPrepared, ArePrepared, AllFit, AreFresh, NoneAnswers, IsManaged, Manages}
use Rattle.beep_management.proofs.ListLemmas.{reverse-first, fresh-append, started-append, acts-append, plain-append, requests-append, replies-append, no-request-more, no-reply-more}

-- the whole replies that were given, with one message more
ends-given : (marks : List Mark) (message : Message) (b : Bool) → ends_reply message.tag.kind ≡ b
    → ends_of ends_reply (marks ++ message_marks message) ≡ ends_of ends_reply marks + (if b then 1 else 0)
ends-given marks message b is =
    ends-append ends_reply marks (message_marks message)
    ∙ ap (λ (n : ℕ). ends_of ends_reply marks + n)
    (ends-part ends_reply message.tag message.octets true ∙ ap (λ (x : Bool). if x then 1 else 0) is)

module _ (size : ℕ) (journal : List Item) (given : Marks) (m : Managed) (spoken prepared : List Spoken) (d : IsManaged size journal given m spoken prepared)
    (one : Spoken) (message : Message) where
  abbrev now : Marks
  now = with_marks 0 (given 0 ++ message_marks message) given

  left : unsent (spoken ++ one ∷ []) journal ≡ unsent spoken journal ++ one ∷ []
  left = drop-append-le (length (contents Side.Sent journal)) spoken (one ∷ []) d.sent

  sent-within : length (contents Side.Sent journal) ≤ length (spoken ++ one ∷ [])
  sent-within = omega (arith, d.sent, length-append spoken (one ∷ []))

  -- ---- a request

  pub request-given : (kept : Kept) (fresh : List Live) (mine acts : Queue) → one.kind ≡ Kind.Msg → message.tag.kind ≡ one.kind → message.octets ≡ text_of one
      → message_said (text_of one) ≡ Some one.form → kept.said ≡ Some one.form → kept.implied ≡ false → AreFresh size (number_started kept.said) fresh
      → acts.requests ≡ kept ∷ m.acts.requests → mine.requests ≡ m.mine.requests → length acts.requests ≤ mine.room
      → IsManaged size journal (with_marks 0 (given 0 ++ message_marks message) given) (record m { mine = mine; acts = acts; starting = m.starting ++ fresh }) (spoken ++ one ∷ []) prepared
  request-given kept fresh mine acts kind tag octets says said implied starts acts-are mine-are room = record {
    spoken_is = spoken-more spoken (given 0) message one d.spoken_is octets says tag;
    sent = sent-within;
    plain = plain-append spoken one d.plain (ap is_ans kind);
    mine = subst (λ (ks : List Kept). AreWaiting Side.Sent (zero_history journal) ks) (sym mine-are) d.mine;
    theirs = d.theirs;
    acts = subst (λ (l : List Spoken). AreActs l (reverse acts.requests)) (sym requests-now)
        (subst (λ (ks : List Kept). AreActs (requests_among (unsent spoken journal) ++ one ∷ []) ks) (sym turned)
        (acts-append (requests_among (unsent spoken journal)) one (reverse m.acts.requests) kept d.acts said implied));
    answers = d.answers;
    fit = subst (λ (l : List Spoken). AllFit (l ++ prepared) (reverse m.theirs.requests)) (sym replies-same) d.fit;
    starting = subst (λ (ns : List ℕ). AreFresh size ns (m.starting ++ fresh)) (sym numbers-now)
        (fresh-append size (numbers_started (reverse m.mine.requests ++ reverse m.acts.requests)) (number_started kept.said) m.starting fresh d.starting starts);
    granted = subst (λ (l : List Spoken). AreFresh size (numbers_granted (l ++ prepared) (reverse m.theirs.requests)) m.granted) (sym replies-same) d.granted;
    owed = omega (arith, d.owed, ends-given (given 0) message false (ap ends_reply (tag ∙ kind)));
    room = room;
  }
    where
      asks : is_msg one.kind ≡ true
      asks = ap is_msg kind

      requests-now : requests_among (unsent (spoken ++ one ∷ []) journal) ≡ requests_among (unsent spoken journal) ++ one ∷ []
      requests-now = ap requests_among left ∙ requests-append (unsent spoken journal) one asks

      replies-same : replies_among (unsent (spoken ++ one ∷ []) journal) ≡ replies_among (unsent spoken journal)
      replies-same = ap replies_among left ∙ no-reply-more (unsent spoken journal) one asks ∙ append-nil (replies_among (unsent spoken journal))

      turned : reverse acts.requests ≡ reverse m.acts.requests ++ kept ∷ []
      turned = ap reverse acts-are ∙ reverse-first kept m.acts.requests

      numbers-now : numbers_started (reverse mine.requests ++ reverse acts.requests)
          ≡ numbers_started (reverse m.mine.requests ++ reverse m.acts.requests) ++ number_started kept.said
      numbers-now =
          ap (λ (ks : List Kept). numbers_started (reverse ks ++ reverse acts.requests)) mine-are
          ∙ ap (λ (ks : List Kept). numbers_started (reverse m.mine.requests ++ ks)) turned
          ∙ ap numbers_started (sym (append_assoc (reverse m.mine.requests) (reverse m.acts.requests) (kept ∷ [])))
          ∙ started-append (reverse m.mine.requests ++ reverse m.acts.requests) (kept ∷ [])
          ∙ ap (λ (ns : List ℕ). numbers_started (reverse m.mine.requests ++ reverse m.acts.requests) ++ ns) (append-nil (number_started kept.said))

-- ---- an answer

module _ (size : ℕ) (journal : List Item) (given : Marks) (m : Managed) (first : Prepared) (answers : List Prepared) (split : m.answers ≡ first ∷ answers) where
  first-prepared : (one : Spoken) (rest : List Spoken) → ArePrepared m.answers (one ∷ rest) → IsPrepared first one × ArePrepared answers rest
  first-prepared one rest a = subst (λ (l : List Prepared). ArePrepared l (one ∷ rest)) split a

  none-prepared : ArePrepared m.answers [] → ⊥
  none-prepared a = subst (λ (l : List Prepared). ArePrepared l []) split a

  -- it is whole, and no request
  pub answer-kind : (spoken prepared : List Spoken) → IsManaged size journal given m spoken prepared → (is_reply first.kind ≡ true) × (is_ans first.kind ≡ false)
  answer-kind spoken [] d = absurd (none-prepared d.answers)
  answer-kind spoken (one ∷ rest) d =
      let is = (first-prepared one rest d.answers).0 in
      (ap is_reply (sym is.kind) ∙ ap not is.reply, ap is_ans (sym is.kind) ∙ is.alone)

  pub answer-given : (message : Message) → message.tag.kind ≡ first.kind → message.octets ≡ first.octets
      → (spoken prepared : List Spoken) → IsManaged size journal given m spoken prepared
      → Manages size journal (with_marks 0 (given 0 ++ message_marks message) given) (record m { answers = answers })
  answer-given message tag octets spoken [] d = absurd (none-prepared d.answers)
  answer-given message tag octets spoken (one ∷ rest) d = record {
    spoken = spoken ++ one ∷ [];
    prepared = rest;
    is = record {
      spoken_is = spoken-more spoken (given 0) message one d.spoken_is (octets ∙ is.octets) is.says (tag ∙ sym is.kind);
      sent = sent-within size journal given m spoken (one ∷ rest) d one message;
      plain = plain-append spoken one d.plain is.alone;
      mine = d.mine;
      theirs = d.theirs;
      acts = subst (λ (l : List Spoken). AreActs l (reverse m.acts.requests)) (sym requests-same) d.acts;
      answers = (first-prepared one rest d.answers).1;
      fit = subst (λ (l : List Spoken). AllFit l (reverse m.theirs.requests)) (sym answers-now) d.fit;
      starting = d.starting;
      granted = subst (λ (l : List Spoken). AreFresh size (numbers_granted l (reverse m.theirs.requests)) m.granted) (sym answers-now) d.granted;
      owed = omega (arith, d.owed, ap length split, ends-given (given 0) message true ends);
      room = d.room;
    };
  }
    where
      is : IsPrepared first one
      is = (first-prepared one rest d.answers).0

      ends : ends_reply message.tag.kind ≡ true
      ends = ap ends_reply (tag ∙ sym is.kind) ∙ rw (is.reply, is.alone) refl

      now-left : unsent (spoken ++ one ∷ []) journal ≡ unsent spoken journal ++ one ∷ []
      now-left = left size journal given m spoken (one ∷ rest) d one message

      requests-same : requests_among (unsent (spoken ++ one ∷ []) journal) ≡ requests_among (unsent spoken journal)
      requests-same = ap requests_among now-left ∙ no-request-more (unsent spoken journal) one is.reply ∙ append-nil (requests_among (unsent spoken journal))

      answers-now : replies_among (unsent (spoken ++ one ∷ []) journal) ++ rest ≡ replies_among (unsent spoken journal) ++ one ∷ rest
      answers-now =
          ap (λ (l : List Spoken). l ++ rest) (ap replies_among now-left ∙ replies-append (unsent spoken journal) one is.reply)
          ∙ append_assoc (replies_among (unsent spoken journal)) (one ∷ []) rest

-- ---- what channel zero owes

ends-modulo : (test : Kind → Bool) (ms : List Mark) → ends_of test (map mark_modulo_2_64 ms) ≡ ends_of test ms
ends-modulo test [] = refl
ends-modulo test (octet tag value ∷ ms) = ends-modulo test ms
ends-modulo test (end tag ∷ ms) = ap (λ (n : ℕ). if test tag.kind then n + 1 else n) (ends-modulo test ms)

-- no reply goes on, where no message is one of many answers
none-after : (ms : List Mark) (spoken : List Spoken) → kinds_of ms ≡ map (λ (one : Spoken). one.kind) spoken → NoneAnswers spoken → answers_after 0 ms ≡ 0
none-after [] spoken kinds plain = refl
none-after (octet tag value ∷ ms) spoken kinds plain = none-after ms spoken kinds plain
none-after (end tag ∷ ms) [] kinds plain = cc
none-after (end tag ∷ ms) (one ∷ spoken) kinds plain =
    let kind : tag.kind ≡ one.kind = cc in
    let others : kinds_of ms ≡ map (λ (one : Spoken). one.kind) spoken = cc in
    ap (λ (n : ℕ). answers_after n ms) (of (is_ans tag.kind) (is_msg tag.kind) (ap is_ans kind ∙ plain.0)) ∙ none-after ms spoken others plain.1
  where
    of : (a b : Bool) → a ≡ false → (if a then 0 + 1 else (if b then 0 else 0)) ≡ 0
    of true b e = cc
    of false true e = refl
    of false false e = refl

pub owes-answers : (size : ℕ) (journal : List Item) (given taken : Marks) (m : Managed) (channel : Live) (spoken prepared : List Spoken)
    → IsManaged size journal given m spoken prepared → Stands size channel.held (zero_history journal) (given 0) (taken 0) → channel.held.number ≡ 0
    → taken 0 ≡ map mark_modulo_2_64 (marks Side.Received (zero_history journal))
    → (channel.held.life.given.owed ≡ length m.answers) × (channel.held.life.given.answers ≡ None)
owes-answers size journal given taken m channel spoken prepared d s number all =
    (omega (arith, d.owed, counted.owed, came), counted.answers ∙ ap answer_number (none-after (given 0) spoken d.spoken_is.kinds d.plain))
  where
    counted : IsCounted true channel.held.life.given (given 0) (taken 0)
    counted = subst (λ (n : ℕ). IsCounted (n == 0) channel.held.life.given (given 0) (taken 0)) number s.counted

    came : ends_of is_msg (taken 0) ≡ ends_of is_msg (marks Side.Received (zero_history journal))
    came = ap (ends_of is_msg) all ∙ ends-modulo is_msg (marks Side.Received (zero_history journal))
