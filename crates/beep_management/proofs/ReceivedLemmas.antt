-- What a whole message of the peer makes of what is kept.
use Rattle.std.proofs.Common.{◌≡◌, ℕ, ◌+◌, ◌-◌, ◌<◌, ◌≤◌, ◌==◌, nat_lt, Bool, true, false, not, if◌then◌else◌, List, [], ◌∷◌, ◌++◌, length, reverse, Option, Some, refl, sym, ap, ◌∙◌, arith, subst, append_assoc, append-nil, length-append}
use Rattle.std.proofs.lemmas.Bool.Decides.{nat_tests}
use Rattle.beep_asked.specs.beep_frame.specs.declared.head.Head.{Head}
use Rattle.beep_asked.specs.beep_frame.specs.Frame.{is_msg}
use Rattle.beep_asked.specs.beep_mgmt.specs.Form.{Form}
use Rattle.beep_asked.specs.beep_mgmt.specs.Message.{message_said}
use Rattle.beep_asked.specs.beep_history.specs.declared.journal.Side.{Side}
use Rattle.beep_asked.specs.beep_history.specs.Journal.{Item, passed}
use Rattle.beep_asked.specs.beep_history.specs.Marks.{marks, requests, previous, carries}
use Rattle.beep_asked.specs.beep_history.specs.Broken.{under_way}
use Rattle.beep_asked.specs.beep_history.proofs.PassedLemmas.{sound}
use Rattle.beep_asked.specs.beep_history.proofs.SoundLemmas.{is_open}
use Rattle.beep_asked.specs.beep_journal.specs.Zero.{zero_history, events, gathered, asked}
use Rattle.beep_asked.specs.beep_journal.specs.Laws.{contents}
use Rattle.beep_asked.specs.beep_channel.specs.Held.{Live}
use Rattle.beep_asked.specs.beep_channel.specs.Stands.{ends_of}
use Rattle.beep_asked.specs.beep_standing.specs.Standing.{Marks}
use Rattle.beep_spoken.specs.Spoken.{Spoken}
use Rattle.beep_asked.specs.Kept.{Kept, Queue, new_kept, fits, grants, after_grant}
use Rattle.beep_asked.specs.Asked.{AreWaiting, EndsRequest, EndsReply, SaysLive}
use Rattle.beep_asked.proofs.LawsLemmas.{request-mine, request-theirs, refusal-theirs, refusal-mine, grant-theirs, grant-mine}
use Rattle.beep_management.specs.Managed.{Prepared, Managed, number_started, numbers_started, numbers_granted, requests_among, replies_among}
use Rattle.beep_management.specs.Manages.{unsent, AreActs, IsPrepared, AllFit, AreFresh, IsManaged}
use Rattle.beep_management.proofs.ListLemmas.{reverse-first, reverse-last, fresh-append, fresh-split, fresh-count, started-append, granted-append, fit-append, fit-count, prepared-append}
use Rattle.beep_management.proofs.ClearLemmas.{SaysSame, granted-same}
use Rattle.beep_management.proofs.ItemLemmas.{came-frame, none-came, unsent-same}

-- ---- the oldest own request, and its channel

module _ (size : ℕ) (journal : List Item) (given : Marks) (m : Managed) (spoken prepared : List Spoken) (d : IsManaged size journal given m spoken prepared)
    (later : List Kept) (one : Kept) (split : m.mine.requests ≡ later ++ one ∷ []) where
  pub oldest-numbers : numbers_started (reverse m.mine.requests ++ reverse m.acts.requests)
      ≡ number_started one.said ++ numbers_started (reverse later ++ reverse m.acts.requests)
  oldest-numbers = ap (λ (ks : List Kept). numbers_started (ks ++ reverse m.acts.requests)) (ap reverse split ∙ reverse-last later one)

  pub oldest-starts : (first starting : List Live) → m.starting ≡ first ++ starting → length first ≡ length (number_started one.said)
      → AreFresh size (number_started one.said) first × AreFresh size (numbers_started (reverse later ++ reverse m.acts.requests)) starting
  oldest-starts first starting are count =
      fresh-split size (number_started one.said) (numbers_started (reverse later ++ reverse m.acts.requests)) first starting count
      (subst (λ (xs : List Live). AreFresh size (number_started one.said ++ numbers_started (reverse later ++ reverse m.acts.requests)) xs) are
      (subst (λ (ns : List ℕ). AreFresh size ns m.starting) oldest-numbers d.starting))

  -- a start has a channel
  pub start-has-one : length (number_started one.said) ≤ length m.starting
  start-has-one =
      let count = fresh-count size (number_started one.said ++ numbers_started (reverse later ++ reverse m.acts.requests)) m.starting
      (subst (λ (ns : List ℕ). AreFresh size ns m.starting) oldest-numbers d.starting) in
      omega (arith, count, length-append (number_started one.said) (numbers_started (reverse later ++ reverse m.acts.requests)))

-- ---- a request has begun that isn't the implied one

more-begun : (a b : ℕ) → nat_lt (0 + 1) b ≡ nat_lt 0 a → 0 < a → 1 < b
more-begun a b same some = grind (arith, nat_tests)

not-implied : (n : ℕ) → 1 < n → (n - 1 == 0) ≡ false
not-implied n some = grind (arith, nat_tests)

module _ (size : ℕ) (journal : List Item) (given : Marks) (m : Managed) (head : Head) (payload : List ℕ) (spoken prepared : List Spoken)
    (d : IsManaged size journal given m spoken prepared) (zero : (head.channel == 0) ≡ true) where
  abbrev past : List Item
  past = zero_history journal

  abbrev now : List Item
  now = passed Side.Received head payload ∷ journal

  zero-now : zero_history now ≡ passed Side.Received head payload ∷ past
  zero-now = rw zero refl

  sent-same : length (contents Side.Sent now) ≡ length (contents Side.Sent journal)
  sent-same = rw zero (ap length (append-nil (contents Side.Sent journal)))

  left : unsent spoken journal ≡ unsent spoken now
  left = sym (unsent-same spoken journal now sent-same)

  waits-now : (side : Side) (ks : List Kept) → AreWaiting side (passed Side.Received head payload ∷ past) ks → AreWaiting side (zero_history now) ks
  waits-now side ks w = subst (λ (z : List Item). AreWaiting side z ks) (sym zero-now) w

  abbrev form : Option Form
  form = message_said (gathered Side.Received past ++ payload)

  -- ---- a request

  abbrev before : List Spoken
  before = replies_among (unsent spoken journal) ++ prepared

  module _ (r : EndsRequest Side.Received head past) where
    begun-more : 1 < length (requests Side.Received past)
    begun-more =
        more-begun (length (asked Side.Received past)) (length (requests Side.Received past))
        (sym (ap (λ (b : Bool). nat_lt (0 + (if b then 1 else 0)) (length (requests Side.Received past))) opened)
        ∙ sym ((sound Side.Received past r.keeps).whole 0) ∙ d.theirs.whole 0) d.theirs.begun
      where
        opened : is_open (under_way Side.Received past) (previous Side.Received past) ≡ true
        opened = rw (r.under, r.request) refl

    carried : carries Side.Received past Side.Received head ≡ true
    carried = rw (zero, r.request, not-implied (length (requests Side.Received past)) begun-more) refl

    came-request : ends_of is_msg (marks Side.Received (zero_history now)) ≡ ends_of is_msg (marks Side.Received past) + 1
    came-request = ap (λ (z : List Item). ends_of is_msg (marks Side.Received z)) zero-now ∙ came-frame past head payload ∙ rw (carried, r.last, r.request) refl

    pub request-came : (live : ℕ → Bool) (kept : Kept) (answer : Prepared) (one : Spoken) (fresh : List Live) (theirs : Queue) → SaysLive live (events journal)
        → kept ≡ new_kept live form → IsPrepared answer one → fits one.kind (Some one.form) kept ≡ true
        → AreFresh size (numbers_granted (one ∷ []) (kept ∷ [])) fresh → theirs.requests ≡ kept ∷ m.theirs.requests
        → IsManaged size now given (record m { theirs = theirs; answers = m.answers ++ answer ∷ []; granted = m.granted ++ fresh }) spoken (prepared ++ one ∷ [])
    request-came live kept answer one fresh theirs says is prepares fit starts are = record {
      spoken_is = d.spoken_is;
      sent = omega (arith, sent-same, d.sent);
      plain = d.plain;
      mine = waits-now Side.Sent m.mine.requests (request-theirs Side.Received head payload past r m.mine.requests d.mine);
      theirs = subst (λ (ks : List Kept). AreWaiting Side.Received (zero_history now) ks) (sym (are ∙ ap (λ (k : Kept). k ∷ m.theirs.requests) is))
          (waits-now Side.Received (new_kept live form ∷ m.theirs.requests) (request-mine Side.Received head payload past r live m.theirs.requests says d.theirs));
      acts = subst (λ (l : List Spoken). AreActs (requests_among l) (reverse m.acts.requests)) left d.acts;
      answers = prepared-append m.answers answer prepared one d.answers prepares;
      fit = subst (λ (l : List Spoken). AllFit l (reverse theirs.requests)) (sym answers-now)
          (subst (λ (ks : List Kept). AllFit (before ++ one ∷ []) ks) (sym turned) (fit-append before one (reverse m.theirs.requests) kept d.fit fit));
      starting = d.starting;
      granted = subst (λ (ns : List ℕ). AreFresh size ns (m.granted ++ fresh)) (sym numbers-now)
          (fresh-append size (numbers_granted before (reverse m.theirs.requests)) (numbers_granted (one ∷ []) (kept ∷ [])) m.granted fresh d.granted starts);
      owed = omega (arith, d.owed, length-append m.answers (answer ∷ []), came-request);
      room = d.room;
    }
      where
        answers-now : replies_among (unsent spoken now) ++ (prepared ++ one ∷ []) ≡ (replies_among (unsent spoken journal) ++ prepared) ++ one ∷ []
        answers-now =
            ap (λ (l : List Spoken). replies_among l ++ (prepared ++ one ∷ [])) (sym left)
            ∙ sym (append_assoc (replies_among (unsent spoken journal)) prepared (one ∷ []))

        turned : reverse theirs.requests ≡ reverse m.theirs.requests ++ kept ∷ []
        turned = ap reverse are ∙ reverse-first kept m.theirs.requests

        numbers-now : numbers_granted (replies_among (unsent spoken now) ++ (prepared ++ one ∷ [])) (reverse theirs.requests)
            ≡ numbers_granted (replies_among (unsent spoken journal) ++ prepared) (reverse m.theirs.requests) ++ numbers_granted (one ∷ []) (kept ∷ [])
        numbers-now =
            ap (λ (l : List Spoken). numbers_granted l (reverse theirs.requests)) answers-now
            ∙ ap (numbers_granted ((replies_among (unsent spoken journal) ++ prepared) ++ one ∷ [])) turned
            ∙ granted-append (replies_among (unsent spoken journal) ++ prepared) one (reverse m.theirs.requests) kept
            (fit-count (replies_among (unsent spoken journal) ++ prepared) (reverse m.theirs.requests) d.fit)

  -- ---- a reply

  module _ (r : EndsReply Side.Received head past) (later : List Kept) (one : Kept) (split : m.mine.requests ≡ later ++ one ∷ []) where
    not-request : is_msg head.kind ≡ false
    not-request = of (is_msg head.kind) r.reply
      where
        of : (b : Bool) → not b ≡ true → b ≡ false
        of true e = cc
        of false e = refl

    came-reply : ends_of is_msg (marks Side.Received (zero_history now)) ≡ ends_of is_msg (marks Side.Received past)
    came-reply = ap (λ (z : List Item). ends_of is_msg (marks Side.Received z)) zero-now ∙ none-came past head payload (rw (r.last, not-request) refl)

    waited : AreWaiting Side.Sent past (later ++ one ∷ [])
    waited = subst (λ (ks : List Kept). AreWaiting Side.Sent past ks) split d.mine

    pub reply-refused : grants head.kind form one ≡ false → (first starting : List Live) (mine : Queue) → m.starting ≡ first ++ starting
        → length first ≡ length (number_started one.said) → mine.requests ≡ later → length m.acts.requests ≤ mine.room
        → IsManaged size now given (record m { mine = mine; starting = starting }) spoken prepared
    reply-refused refused first starting mine are count rest room = record {
      spoken_is = d.spoken_is;
      sent = omega (arith, sent-same, d.sent);
      plain = d.plain;
      mine = subst (λ (ks : List Kept). AreWaiting Side.Sent (zero_history now) ks) (sym rest)
          (waits-now Side.Sent later (refusal-theirs Side.Received head payload past r later one waited refused));
      theirs = waits-now Side.Received m.theirs.requests (refusal-mine Side.Received head payload past r later one waited refused m.theirs.requests d.theirs);
      acts = subst (λ (l : List Spoken). AreActs (requests_among l) (reverse m.acts.requests)) left d.acts;
      answers = d.answers;
      fit = subst (λ (l : List Spoken). AllFit (replies_among l ++ prepared) (reverse m.theirs.requests)) left d.fit;
      starting = subst (λ (ks : List Kept). AreFresh size (numbers_started (reverse ks ++ reverse m.acts.requests)) starting) (sym rest)
          (oldest-starts size journal given m spoken prepared d later one split first starting are count).1;
      granted = subst (λ (l : List Spoken). AreFresh size (numbers_granted (replies_among l ++ prepared) (reverse m.theirs.requests)) m.granted) left d.granted;
      owed = d.owed ∙ ap (λ n. n + 1) (sym came-reply);
      room = room;
    }

    pub reply-granted : grants head.kind form one ≡ true → (first starting : List Live) (mine acts theirs : Queue) → m.starting ≡ first ++ starting
        → length first ≡ length (number_started one.said) → mine.requests ≡ after_grant one later → length m.acts.requests ≤ mine.room
        → acts.requests ≡ after_grant one m.acts.requests → theirs.requests ≡ after_grant one m.theirs.requests
        → IsManaged size now given (record m { mine = mine; acts = acts; theirs = theirs; starting = starting }) spoken prepared
    reply-granted granted first starting mine acts theirs are count rest room acts-are theirs-are =
        let a = granted-same one m.acts.requests acts.requests acts-are in
        let t = granted-same one m.theirs.requests theirs.requests theirs-are in
        record {
          spoken_is = d.spoken_is;
          sent = omega (arith, sent-same, d.sent);
          plain = d.plain;
          mine = subst (λ (ks : List Kept). AreWaiting Side.Sent (zero_history now) ks) (sym rest)
              (waits-now Side.Sent (after_grant one later) (grant-theirs Side.Received head payload past r later one waited granted));
          theirs = subst (λ (ks : List Kept). AreWaiting Side.Received (zero_history now) ks) (sym theirs-are)
              (waits-now Side.Received (after_grant one m.theirs.requests) (grant-mine Side.Received head payload past r later one waited granted m.theirs.requests d.theirs));
          acts = a.acts (requests_among (unsent spoken now)) (subst (λ (l : List Spoken). AreActs (requests_among l) (reverse m.acts.requests)) left d.acts);
          answers = d.answers;
          fit = t.fit (replies_among (unsent spoken now) ++ prepared)
              (subst (λ (l : List Spoken). AllFit (replies_among l ++ prepared) (reverse m.theirs.requests)) left d.fit);
          starting = subst (λ (ns : List ℕ). AreFresh size ns starting) (sym (numbers-same a))
              (oldest-starts size journal given m spoken prepared d later one split first starting are count).1;
          granted = subst (λ (ns : List ℕ). AreFresh size ns m.granted) (sym (t.granted (replies_among (unsent spoken now) ++ prepared)))
              (subst (λ (l : List Spoken). AreFresh size (numbers_granted (replies_among l ++ prepared) (reverse m.theirs.requests)) m.granted) left d.granted);
          owed = d.owed ∙ ap (λ n. n + 1) (sym came-reply);
          room = omega (arith, room, a.count);
        }
      where
        numbers-same : SaysSame m.acts.requests acts.requests
            → numbers_started (reverse mine.requests ++ reverse acts.requests) ≡ numbers_started (reverse later ++ reverse m.acts.requests)
        numbers-same a =
            started-append (reverse mine.requests) (reverse acts.requests)
            ∙ ap (λ (ns : List ℕ). ns ++ numbers_started (reverse acts.requests)) (granted-same one later mine.requests rest).started
            ∙ ap (λ (ns : List ℕ). numbers_started (reverse later) ++ ns) a.started
            ∙ sym (started-append (reverse later) (reverse m.acts.requests))
