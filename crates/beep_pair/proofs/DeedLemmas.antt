-- What each deed of an end leaves of the accounts of all lives.
use Rattle.std.proofs.Common.{◌≡◌, ◌⊎◌, inl, inr, ℕ, ◌+◌, ◌<◌, ◌≤◌, ◌==◌, Bool, true, false, not, ◌&&◌, ◌||◌, if◌then◌else◌, List, [], ◌∷◌, ◌++◌, length, map, take, refl, sym, ap, ap₂, ◌∙◌, subst, arith, length-take}
use Rattle.std.specs.List.{range_with_len, list_any}
use Rattle.std.proofs.lemmas.List.{length-map}
use Rattle.std.proofs.lemmas.List.FromFn.{length-range_with_len}
use Rattle.std.proofs.lemmas.Bool.Decides.{nat_tests}
use Rattle.beep_two_sessions.specs.beep_frame.specs.declared.head.Head.{Head}
use Rattle.beep_two_sessions.specs.beep_frame.specs.declared.kind.Kind.{Kind}
use Rattle.beep_two_sessions.specs.beep_frame.specs.declared.seq.Seq.{Seq}
use Rattle.beep_two_sessions.specs.beep_frame.specs.declared.tag.Tag.{Tag}
use Rattle.beep_two_sessions.specs.beep_frame.specs.Frame.{Frame, framed, seq_frame}
use Rattle.beep_two_sessions.specs.beep_history.specs.declared.journal.Side.{Side}
use Rattle.beep_two_sessions.specs.beep_history.specs.Journal.{Item, passed, began, told}
use Rattle.beep_two_sessions.specs.beep_history.specs.Marks.{Mark, octet, end}
use Rattle.beep_two_sessions.specs.beep_journal.specs.Lives.{Event as Moment, lives, is_live}
use Rattle.beep_two_sessions.specs.beep_journal.specs.Zero.{events}
use Rattle.beep_two_sessions.specs.beep_journal.specs.Life.{life_now, is_there}
use Rattle.beep_two_sessions.specs.beep_channel.specs.Held.{Live}
use Rattle.beep_two_sessions.specs.beep_channel.specs.Stands.{ends_of}
use Rattle.beep_two_sessions.specs.beep_channel.proofs.CountedLemmas.{ends-part}
use Rattle.beep_two_sessions.specs.beep_inbox.specs.declared.part.Part.{Part}
use Rattle.beep_two_sessions.specs.beep_inbox.specs.Laws.{part_marks}
use Rattle.beep_two_sessions.specs.beep_outbox.specs.Queue.{Message, message_marks}
use Rattle.beep_two_sessions.specs.beep_lives.specs.Lives.{numbers, IsAscendingFrom}
use Rattle.beep_two_sessions.specs.beep_standing.specs.Standing.{Marks, AreLiveBy}
use Rattle.beep_two_sessions.specs.beep_standing.specs.Due.{octets_among}
use Rattle.beep_two_sessions.specs.beep_peer.specs.declared.peer.Peer.{Peer}
use Rattle.beep_two_sessions.specs.beep_peer.specs.Standing.{rest_of, live_above}
use Rattle.beep_two_sessions.specs.beep_peer.proofs.HeardLemmas.{live-rest}
use Rattle.beep_two_sessions.specs.beep_peer.proofs.GainLemmas.{gained-events}
use Rattle.beep_two_sessions.specs.beep_giving.specs.Giving.{next_message}
use Rattle.beep_two_sessions.specs.beep_hearing.specs.Hears.{ends_zero}
use Rattle.beep_two_sessions.specs.beep_session.specs.declared.event.Event.{Event}
use Rattle.beep_two_sessions.specs.beep_session.specs.Session.{Held}
use Rattle.beep_schedule.specs.declared.event.End.{End}
use Rattle.beep_schedule.specs.declared.event.Act.{Act}
use Rattle.beep_report.specs.beep_tally.specs.Accounts.{is_in, one_if, with_given, with_taken, lives_noted}
use Rattle.beep_report.specs.beep_tally.specs.declared.account.Account.{Account}
use Rattle.beep_two_sessions.specs.End.{End as OneEnd, Doing, goes, waits, StandsAs, Awaits}
use Rattle.beep_two_sessions.specs.Acts.{Act as Deed, gives, asks, settles, sends, pauses, rests, given_marks, HasGiven, HasAsked, HasTaken, HasSettled, HasSent, HasTold, SendsAs, GetsAs, UsesNone, HasRested, Does}
use Rattle.beep_two_sessions.specs.World.{World as Two, Move, IsReached}
use Rattle.beep_two_sessions.proofs.FollowLemmas.{one_begun, told-follows, settled-follows, sent-follows}
use Rattle.beep_two_sessions.proofs.BookLemmas.{BookedEnd, books}
use Rattle.beep_two_sessions.proofs.ZeroMarkLemmas.{among-append}
use Rattle.beep_report.specs.declared.answer.Answer.{Answer}
use Rattle.beep_pair.specs.Ends.{other_end}
use Rattle.beep_pair.specs.World.{end_of}
use Rattle.beep_pair.specs.Sessions.{message_from, octet_from, Acts, is_given, acted}
use Rattle.beep_pair.specs.Steps.{is_done, deed_of}
use Rattle.beep_pair.specs.Totals.{View, view_of, AreOfLives}
use Rattle.beep_pair.proofs.TotalLemmas.{given-lives, taken-lives}
use Rattle.beep_pair.proofs.NotedLemmas.{IsSameView, IsEmptyView, AreApart, AreAbove, same-lives, turned-lives, back-lives, noted-lives}

-- ---- the numbers that are live

in-none : (n least : ℕ) (channels : List Live) → n < least → IsAscendingFrom least channels → is_in n (numbers channels) ≡ false
in-none n least [] less up = refl
in-none n least (c ∷ channels) less up =
    both (c.held.number == n) (is_in n (numbers channels)) (off c.held.number (let h = up.0 in omega (arith, h, less))) (in-none n (c.held.number + 1) channels (let h = up.0 in omega (arith, h, less)) up.1)
  where
    off : (k : ℕ) → n < k → (k == n) ≡ false
    off k h = grind (arith, nat_tests)

    both : (a b : Bool) → a ≡ false → b ≡ false → (a || b) ≡ false
    both true b e f = absurd (let bad : true ≡ false = e in cc)
    both false b e f = f

all-apart : (least : ℕ) (channels : List Live) → IsAscendingFrom least channels → AreApart (numbers channels)
all-apart least [] up = tt
all-apart least (c ∷ channels) up = (in-none c.held.number (c.held.number + 1) channels (omega arith) up.1, all-apart (c.held.number + 1) channels up.1)

all-above : (least : ℕ) (channels : List Live) → 0 < least → IsAscendingFrom least channels → AreAbove (numbers channels)
all-above least [] some up = tt
all-above least (c ∷ channels) some up = (not-zero c.held.number (let h = up.0 in omega (arith, h, some)), all-above (c.held.number + 1) channels (omega arith) up.1)
  where
    not-zero : (k : ℕ) → 0 < k → (k == 0) ≡ false
    not-zero k h = grind (arith, nat_tests)

rest-apart : (channels : List Live) → IsAscendingFrom 0 channels → AreApart (rest_of (numbers channels))
rest-apart [] up = tt
rest-apart (c ∷ channels) up = all-apart (c.held.number + 1) channels up.1

rest-above : (channels : List Live) → IsAscendingFrom 0 channels → AreAbove (rest_of (numbers channels))
rest-above [] up = tt
rest-above (c ∷ channels) up = all-above (c.held.number + 1) channels (omega arith) up.1

live-in : (size : ℕ) (journal : List Item) (given taken : Marks) (peer : Peer) → AreLiveBy size journal given taken peer.lives → (n : ℕ) → (n == 0) ≡ false
    → is_live n (events journal) ≡ is_in n (live_above peer)
live-in size journal given taken peer s n above =
    sym (ap (λ (b : Bool). b || is_live n (events journal)) above) ∙ s.there n ∙ live-rest peer.lives s.ascending (sym (s.there 0)) n above

-- ---- lives that begin and end

pub empty-view : (one : OneEnd) → BookedEnd one → IsEmptyView (view_of one)
empty-view one b = λ n k above less. (b.fresh_gave n k above less, b.fresh_took n k above less)

module _ (at : End) (old new : OneEnd) (theirs : View) (accounts : List Account)
    (old_live : AreLiveBy old.session.limits.window old.journal old.given old.taken old.session.peer.lives)
    (new_live : AreLiveBy new.session.limits.window new.journal new.given new.taken new.session.peer.lives)
    (counts : (n : ℕ) → lives n (events new.journal) ≡ lives n (events old.journal) + one_begun (is_live n (events new.journal)) (is_live n (events old.journal)))
    (gave : (n k : ℕ) → new.gave n k ≡ old.gave n k) (took : (n k : ℕ) → new.took n k ≡ old.took n k) (b : BookedEnd old) (none : IsEmptyView theirs)
    (all : AreOfLives at (view_of old) theirs accounts) where
  pub noted-at : AreOfLives at (view_of new) theirs (lives_noted at (live_above old.session.peer) (live_above new.session.peer) accounts)
  noted-at =
      noted-lives at (view_of old) theirs (view_of new) (live_above old.session.peer) (live_above new.session.peer) accounts
      (live-in old.session.limits.window old.journal old.given old.taken old.session.peer old_live)
      (live-in new.session.limits.window new.journal new.given new.taken new.session.peer new_live)
      (λ n above. counts n) gave took (rest-apart new.session.peer.lives new_live.ascending) (rest-above new.session.peer.lives new_live.ascending)
      (empty-view old b) none all

-- ---- each deed

same-count : (n : ℕ) (es : List Moment) → lives n es ≡ lives n es + one_begun (is_live n es) (is_live n es)
same-count n es = of (is_live n es)
  where
    of : (l : Bool) → lives n es ≡ lives n es + one_begun l l
    of true = omega arith
    of false = omega arith

-- of a new end that is so
abbrev pub Noted : End → View → List Account → OneEnd → OneEnd → Type 0
Noted at theirs accounts old new = AreOfLives at (view_of new) theirs (lives_noted at (live_above old.session.peer) (live_above new.session.peer) accounts)

module _ (at : End) (one new : OneEnd) (theirs : View) (accounts : List Account) (none : IsEmptyView theirs) (all : AreOfLives at (view_of one) theirs accounts) where
  frame-noted : (head : Head) (payload : List ℕ) → StandsAs goes one → BookedEnd one → HasSent head payload one new → Noted at theirs accounts one new
  frame-noted head payload s b d =
      let now : OneEnd = record one {
        session = d.session;
        journal = passed Side.Sent head payload ∷ began Side.Sent head ∷ one.journal;
        given = d.given_now;
        taken = d.taken_now;
      } in
      subst (λ (x : OneEnd). Noted at theirs accounts one x) (sym d.new_is)
      (noted-at at one now theirs accounts s.stands.holds.live d.stands.stands.holds.live (sent-follows head payload one.journal).counts (λ n k. refl) (λ n k. refl) b none all)

  seq-noted : (seq : Seq) → StandsAs goes one → BookedEnd one → HasTold seq one new → Noted at theirs accounts one new
  seq-noted seq s b d =
      let now : OneEnd = record one { session = d.session; journal = told Side.Sent seq ∷ one.journal } in
      subst (λ (x : OneEnd). Noted at theirs accounts one x) (sym d.new_is)
      (noted-at at one now theirs accounts s.stands.holds.live d.stands.stands.holds.live (told-follows seq one.journal).counts (λ n k. refl) (λ n k. refl) b none all)

  pub sends-noted : (frame : Frame) → StandsAs goes one → BookedEnd one → SendsAs frame one new → Noted at theirs accounts one new
  sends-noted (framed head payload) s b d = frame-noted head payload s b d
  sends-noted (seq_frame seq) s b d = seq-noted seq s b d

  pub paused-noted : StandsAs goes one → BookedEnd one → new ≡ one → Noted at theirs accounts one new
  paused-noted s b e =
      subst (λ (x : OneEnd). Noted at theirs accounts one x) (sym e)
      (noted-at at one one theirs accounts s.stands.holds.live s.stands.holds.live (λ n. same-count n (events one.journal)) (λ n k. refl) (λ n k. refl) b none all)

  pub settled-noted : (head : Head) (payload : List ℕ) → Awaits head payload one → BookedEnd one → (d : HasSettled one new) → waits d.head d.payload ≡ waits head payload
      → Noted at theirs accounts one new
  settled-noted head payload s b d same =
      let now : OneEnd = record one {
        session = d.session;
        doing = goes;
        rest = [];
        journal = passed Side.Received d.head d.payload ∷ one.journal;
        given = d.given_now;
        taken = d.taken_now;
      } in
      let h : d.head ≡ head = let e : waits d.head d.payload ≡ waits head payload = same in cc in
      let zero : (d.head.channel == 0) ≡ true = subst (λ (x : Head). (x.channel == 0) ≡ true) (sym h) s.waits.waits.zero_is in
      subst (λ (x : OneEnd). Noted at theirs accounts one x) (sym d.new_is)
      (noted-at at one now theirs accounts s.waits.waits.live d.stands.stands.holds.live (settled-follows d.head d.payload one.journal zero).counts (λ n k. refl) (λ n k. refl) b none all)

  -- ---- what changes no life

  pub rested-lives : HasRested one new → AreOfLives at (view_of new) theirs accounts
  rested-lives d = subst (λ (x : OneEnd). AreOfLives at (view_of x) theirs accounts) (sym d.new_is) all

  pub asked-lives : (octets : List ℕ) → HasAsked octets one new → AreOfLives at (view_of new) theirs accounts
  asked-lives octets d = subst (λ (x : OneEnd). AreOfLives at (view_of x) theirs accounts) (sym d.new_is) all

  came : (gained : List Item) → list_any ends_zero gained ≡ false → (x : OneEnd) → x.journal ≡ gained ++ one.journal
      → ((n k : ℕ) → x.gave n k ≡ one.gave n k) → ((n k : ℕ) → x.took n k ≡ one.took n k) → IsSameView (view_of one) (view_of x)
  came gained quiet x journal gave took =
      let same : events x.journal ≡ events one.journal = ap events journal ∙ gained-events gained one.journal quiet in
      record {
        begun = λ n above. ap (lives n) same;
        live = λ n above. ap (is_live n) same;
        gave = gave;
        took = took;
      }

  gets-same : (event : Event) (octets : List ℕ) → GetsAs event octets one new → IsSameView (view_of one) (view_of new)
  gets-same Event.More octets d = came d.gained d.gains.quiet new (ap (λ (x : OneEnd). x.journal) d.new_is) (λ n k. ap (λ (x : OneEnd). x.gave n k) d.new_is) (λ n k. ap (λ (x : OneEnd). x.took n k) d.new_is)
  gets-same (Event.Arrived number) octets d = came d.gained d.gains.quiet new (ap (λ (x : OneEnd). x.journal) d.new_is) (λ n k. ap (λ (x : OneEnd). x.gave n k) d.new_is) (λ n k. ap (λ (x : OneEnd). x.took n k) d.new_is)
  gets-same Event.Zero octets d = came d.zero.gained d.zero.quiet new (ap (λ (x : OneEnd). x.journal) d.new_is) (λ n k. ap (λ (x : OneEnd). x.gave n k) d.new_is) (λ n k. ap (λ (x : OneEnd). x.took n k) d.new_is)
  gets-same Event.Released octets d = absurd d
  gets-same (Event.Broken rule place) octets d = came d.breaks.gained d.breaks.quiet new (ap (λ (x : OneEnd). x.journal) d.new_is) (λ n k. ap (λ (x : OneEnd). x.gave n k) d.new_is) (λ n k. ap (λ (x : OneEnd). x.took n k) d.new_is)
  gets-same Event.NoMemory octets d = came d.gained d.gains.quiet new (ap (λ (x : OneEnd). x.journal) d.new_is) (λ n k. ap (λ (x : OneEnd). x.gave n k) d.new_is) (λ n k. ap (λ (x : OneEnd). x.took n k) d.new_is)

  pub gets-lives : (event : Event) (octets : List ℕ) → UsesNone octets one new ⊎ GetsAs event octets one new → AreOfLives at (view_of new) theirs accounts
  gets-lives event octets (inl d) = subst (λ (x : OneEnd). AreOfLives at (view_of x) theirs accounts) (sym d.still) all
  gets-lives event octets (inr d) = same-lives at (view_of one) (view_of new) theirs accounts (gets-same event octets d) all

  -- ---- what is given and taken

  given-message : (n : ℕ) (kind : Kind) (octets : List ℕ) → HasGiven n kind octets one new → AreOfLives at (view_of new) theirs (with_given at n (length octets) accounts)
  given-message n kind octets d =
      subst (λ (x : OneEnd). AreOfLives at (view_of x) theirs (with_given at n (length octets) accounts)) (sym d.new_is)
      (given-lives at (view_of one) theirs n (length octets) (given_marks n kind octets one) accounts (octets-of (next_message kind octets (one.given n))) (ends-one (next_message kind octets (one.given n))) all)
    where
      octets-of : (m : Message) → octets_among (message_marks m) ≡ length m.octets
      octets-of m = of m.octets
        where
          of : (os : List ℕ) → octets_among (map (octet m.tag) os ++ end m.tag ∷ []) ≡ length os
          of [] = refl
          of (o ∷ os) = let h = of os in omega (arith, h)

      ends-one : (m : Message) → ends_of (λ (k : Kind). true) (message_marks m) ≡ 1
      ends-one m = of m.octets
        where
          of : (os : List ℕ) → ends_of (λ (k : Kind). true) (map (octet m.tag) os ++ end m.tag ∷ []) ≡ 1
          of [] = refl
          of (o ∷ os) = of os

  pub given-sized : (n size : ℕ) (kind : Kind) (octets : List ℕ) → length octets ≡ size → HasGiven n kind octets one new → AreOfLives at (view_of new) theirs (with_given at n size accounts)
  given-sized n size kind octets e d = subst (λ (k : ℕ). AreOfLives at (view_of new) theirs (with_given at n k accounts)) e (given-message n kind octets d)

  pub taken-part : (n : ℕ) (part : Part) (octets : List ℕ) → part.len ≤ length octets → HasTaken n part octets one new → AreOfLives at (view_of new) theirs (with_taken at n part.len part.ended accounts)
  taken-part n part octets within d =
      subst (λ (x : OneEnd). AreOfLives at (view_of x) theirs (with_taken at n part.len part.ended accounts)) (sym d.new_is)
      (taken-lives at (view_of one) theirs n part.len part.ended (part_marks part octets) accounts
      (omega (arith, among-append (map (octet part.tag) (take part.len octets)) (if part.ended then end part.tag ∷ [] else []), octets-of (take part.len octets), none-end part.ended, length-take part.len octets, within))
      (ends-part (λ (k : Kind). true) part.tag (take part.len octets) part.ended ∙ as_one part.ended) all)
    where
      octets-of : (os : List ℕ) → octets_among (map (octet part.tag) os) ≡ length os
      octets-of [] = refl
      octets-of (o ∷ os) = let h = octets-of os in omega (arith, h)

      none-end : (b : Bool) → octets_among (if b then end part.tag ∷ [] else []) ≡ 0
      none-end true = refl
      none-end false = refl

      as_one : (b : Bool) → (if b && true then 1 else 0) ≡ one_if b
      as_one true = refl
      as_one false = refl

-- ---- an act

sized : (fill len : ℕ) → length (message_from fill len) ≡ len
sized fill len = length-map (range_with_len 0 len) (octet_from fill) ∙ length-range_with_len 0 len

module _ (at : End) (n len fill : ℕ) (one new : OneEnd) (session : Held) (theirs : View) (accounts : List Account) (none : IsEmptyView theirs) (all : AreOfLives at (view_of one) theirs accounts) where
  -- what is refused gives nothing
  refused : (act : Act) (answer : Answer) → is_given act answer ≡ false → HasRested one new → AreOfLives at (view_of new) theirs (acted at act n len answer accounts)
  refused act answer e d = rw e (rested-lives at one new theirs accounts none all d)

  message : (kind : Kind) → HasGiven n kind (message_from fill len) one new → AreOfLives at (view_of new) theirs (with_given at n len accounts)
  message kind d = given-sized at one new theirs accounts none all n len kind (message_from fill len) (sized fill len) d

  done : (act : Act) → (act ≡ Act.Done → len ≡ 0) → Acts act n (message_from fill len) one.session session Answer.Done → Does (deed_of act n (message_from fill len)) one new
      → AreOfLives at (view_of new) theirs (acted at act n len Answer.Done accounts)
  done Act.Start bare a d = asked-lives at one new theirs accounts none all _ d
  done Act.Ask bare a d = absurd a
  done Act.Reply bare a d = message Kind.Rpy d
  done Act.Refuse bare a d = message Kind.Err d
  done Act.Answer bare a d = absurd a
  done Act.Done bare a d = given-sized at one new theirs accounts none all n len Kind.Nul [] (sym (bare refl)) d
  done Act.Close bare a d = asked-lives at one new theirs accounts none all _ d
  done Act.Release bare a d = asked-lives at one new theirs accounts none all _ d

  numbered-so : (act : Act) (number : ℕ) → Acts act n (message_from fill len) one.session session (Answer.Numbered number) → Does (deed_of act n (message_from fill len)) one new
      → AreOfLives at (view_of new) theirs (acted at act n len (Answer.Numbered number) accounts)
  numbered-so Act.Start number a d = absurd a
  numbered-so Act.Ask number a d = message Kind.Msg d
  numbered-so Act.Reply number a d = absurd a
  numbered-so Act.Refuse number a d = absurd a
  numbered-so Act.Answer number a d = message Kind.Ans d
  numbered-so Act.Done number a d = absurd a
  numbered-so Act.Close number a d = absurd a
  numbered-so Act.Release number a d = absurd a

pub acted-lives : (at : End) (act : Act) (n len fill : ℕ) (answer : Answer) (one new : OneEnd) (session : Held) (theirs : View) (accounts : List Account) → (act ≡ Act.Done → len ≡ 0)
    → Acts act n (message_from fill len) one.session session answer → Does (if is_done answer then deed_of act n (message_from fill len) else rests) one new
    → IsEmptyView theirs → AreOfLives at (view_of one) theirs accounts → AreOfLives at (view_of new) theirs (acted at act n len answer accounts)
acted-lives at act n len fill Answer.Done one new session theirs accounts bare a d none all = done at n len fill one new session theirs accounts none all act bare a d
acted-lives at act n len fill (Answer.Numbered number) one new session theirs accounts bare a d none all = numbered-so at n len fill one new session theirs accounts none all act number a d
acted-lives at act n len fill Answer.NoChannel one new session theirs accounts bare a d none all = refused at n len fill one new session theirs accounts none all act Answer.NoChannel refl d
acted-lives at act n len fill Answer.NotOwed one new session theirs accounts bare a d none all = refused at n len fill one new session theirs accounts none all act Answer.NotOwed refl d
acted-lives at act n len fill Answer.Answering one new session theirs accounts bare a d none all = refused at n len fill one new session theirs accounts none all act Answer.Answering refl d
acted-lives at act n len fill (Answer.Start cause) one new session theirs accounts bare a d none all = refused at n len fill one new session theirs accounts none all act (Answer.Start cause) refl d
acted-lives at act n len fill (Answer.Ask cause) one new session theirs accounts bare a d none all = refused at n len fill one new session theirs accounts none all act (Answer.Ask cause) refl d
acted-lives at act n len fill (Answer.Give cause) one new session theirs accounts bare a d none all = refused at n len fill one new session theirs accounts none all act (Answer.Give cause) refl d
acted-lives at act n len fill (Answer.Close cause) one new session theirs accounts bare a d none all = refused at n len fill one new session theirs accounts none all act (Answer.Close cause) refl d
acted-lives at act n len fill (Answer.Release cause) one new session theirs accounts bare a d none all = refused at n len fill one new session theirs accounts none all act (Answer.Release cause) refl d
