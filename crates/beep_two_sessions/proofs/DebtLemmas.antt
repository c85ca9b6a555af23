-- What each end owes in a life: replies to requests that were taken, and the taking of replies before a life ends.
use Rattle.std.proofs.Common.{◌≡◌, ◌⊎◌, inl, inr, ℕ, ◌+◌, ◌<◌, ◌≤◌, ◌==◌, nat_lt, Bool, true, false, not, ◌&&◌, ◌||◌, if◌then◌else◌, List, [], ◌∷◌, ◌++◌, map, reverse, is_some, refl, sym, ap, ◌∙◌, subst, append_assoc, arith}
use Rattle.std.specs.List.{list_any}
use Rattle.std.proofs.lemmas.List.{reverse-append, append_cancel_left}
use Rattle.beep_session.specs.beep_frame.specs.declared.head.Head.{Head}
use Rattle.beep_session.specs.beep_frame.specs.declared.kind.Kind.{Kind}
use Rattle.beep_session.specs.beep_frame.specs.Frame.{Frame, framed, seq_frame, is_msg, same_kind}
use Rattle.beep_session.specs.beep_history.specs.declared.journal.Side.{Side}
use Rattle.beep_session.specs.beep_history.specs.Journal.{Item, began, passed, told}
use Rattle.beep_session.specs.beep_history.specs.Marks.{Mark, octet, end, marks, tag_of}
use Rattle.beep_session.specs.beep_history.specs.Broken.{KeepsExchangeRules}
use Rattle.beep_session.specs.beep_journal.specs.Lives.{lives, has_ended, is_live, has_release}
use Rattle.beep_session.specs.beep_journal.specs.Zero.{zero_history, zero_events, events, asked}
use Rattle.beep_session.specs.beep_journal.specs.Life.{life_now, is_there, history}
use Rattle.beep_session.specs.beep_journal.proofs.MomentLemmas.{equal-number}
use Rattle.beep_session.specs.beep_journal.proofs.JournalLemmas.{told-events}
use Rattle.beep_session.specs.beep_exchange.specs.Given.{ends_reply}
use Rattle.beep_session.specs.beep_outbox.specs.Queue.{marks_of as unsent_marks}
use Rattle.beep_session.specs.beep_channel.specs.Held.{Live}
use Rattle.beep_session.specs.beep_channel.specs.Fits.{as_number}
use Rattle.beep_session.specs.beep_channel.specs.Stands.{ends_of, is_closed}
use Rattle.beep_session.specs.beep_lives.proofs.ListLemmas.{live-number}
use Rattle.beep_session.specs.beep_standing.specs.Standing.{Marks, with_marks, AreLiveBy}
use Rattle.beep_session.specs.beep_inbox.specs.Laws.{part_marks}
use Rattle.beep_session.specs.beep_hearing.specs.Hears.{ends_zero}
use Rattle.beep_session.specs.beep_spoken.specs.Spoken.{kinds_of}
use Rattle.beep_session.specs.beep_asked.specs.Kept.{Kept, closes_one, closes, is_leaving}
use Rattle.beep_session.specs.beep_decide.specs.Asks.{is_close_of}
use Rattle.beep_session.specs.beep_asked.proofs.LawsLemmas.{header-leaves}
use Rattle.beep_session.specs.beep_upright.specs.Turns.{kinds_at, reply_kinds}
use Rattle.beep_session.specs.beep_upright.specs.Upright.{asked_at, AreAnswered, all_asked, place_of, is_of_close}
use Rattle.beep_session.specs.beep_peer.specs.Calls.{IsLawfulNext}
use Rattle.beep_session.specs.beep_peer.proofs.KindsLemmas.{kinds-append, kinds-modulo, kinds-first, kinds-by, asked-by}
use Rattle.beep_session.specs.beep_peer.proofs.GainLemmas.{gained-events}
use Rattle.beep_session.specs.beep_peer.specs.Peering.{is_over}
use Rattle.beep_session.specs.declared.event.Event.{Event}
use Rattle.beep_session.specs.Lawfully.{IsLawfulSession}
use Rattle.beep_two_sessions.specs.End.{End, Doing, goes, Book, with_more, Awaits, StandsSo, StandsUnbroken, Begins as Starts}
use Rattle.beep_two_sessions.specs.Acts.{Act, gives, asks, takes, settles, stops, sends, pauses, gets, rests, given_marks, SendsAs, HasGained, GetsAs, UsesNone, Does}
use Rattle.beep_two_sessions.specs.World.{World, Move, a_does, b_does, IsReached}
use Rattle.beep_two_sessions.proofs.FollowLemmas.{stage, passed-ends, sent-ends}
use Rattle.beep_two_sessions.proofs.EndLemmas.{leave-waits, oldest-leaves, release-last, release-rpy, is-last, is-rpy, oldest-closes, one-closes, close-waits}
use Rattle.beep_two_sessions.proofs.BookLemmas.{modulo_marks, Booked, BookedEnd, more-beside, now-there, books}
use Rattle.beep_two_sessions.proofs.MoveLemmas.{Joined, reached, stands-a, stands-b}
use Rattle.beep_two_journals.specs.beep_two_ends.proofs.WindowLemmas.{unbroken}
use Rattle.beep_two_journals.proofs.NeverBreakLemmas.{run_all}
use Rattle.beep_two_sessions.proofs.StillLemmas.{at-end}

-- ---- what is owed

pub record Owes (journal : List Item) (gave took : Book) : Type 0 where
  pub owed : (n k : ℕ) → (n == 0) ≡ false → 0 < k → ends_of ends_reply (gave n k) ≤ ends_of is_msg (took n k)
  pub closed : (n k : ℕ) → (n == 0) ≡ false → 0 < k → ends_of ends_reply (gave n k) ≡ ends_of is_msg (took n k) → is_closed (gave n k) ≡ true
  pub quiet : (n k : ℕ) → (n == 0) ≡ false → 0 < k → has_ended n k (events journal) ≡ true → ends_of is_msg (gave n k) ≤ ends_of ends_reply (took n k)
  pub left : (n k : ℕ) → (n == 0) ≡ false → 0 < k → has_release (events journal) ≡ true → ends_of is_msg (gave n k) ≤ ends_of ends_reply (took n k)

-- in a live life, by what the session holds
record LiveDebts (given taken : List Mark) : Type 0 where
  pub owed : ends_of ends_reply given ≤ ends_of is_msg taken
  pub closed : ends_of ends_reply given ≡ ends_of is_msg taken → is_closed given ≡ true

live-debts : (size : ℕ) (journal : List Item) (given taken : Marks) (channels : List Live) → AreLiveBy size journal given taken channels → (n : ℕ) → (n == 0) ≡ false
    → is_there n journal ≡ true → LiveDebts (given n) (taken n)
live-debts size journal given taken channels s n above there =
    let c = at-end size journal given taken channels s n above there in
    let counted = c.stands.counted in
    let none : as_number (c.channel.held.number == 0) ≡ 0 =
    ap (λ (m : ℕ). as_number (m == 0)) (live-number n channels c.channel c.at) ∙ ap as_number above in
    record {
      owed = omega (arith, counted.owed, none);
      closed = λ same. by-answers (given n) c.channel.held.life.given.owed (is_some c.channel.held.life.given.answers) (is_some c.channel.held.life.given.answers) refl (omega (arith, counted.owed, none, same)) counted.answering counted.closed;
    }
  where
    by-answers : (given : List Mark) (owed : ℕ) (answers b : Bool) → answers ≡ b → owed ≡ 0 → (answers ≡ true → 0 < owed) → (answers ≡ false → is_closed given ≡ true)
        → is_closed given ≡ true
    by-answers given owed answers true e zero some closed = absurd (omega (arith, some e, zero))
    by-answers given owed answers false e zero some closed = closed e

-- ---- one step

and-one : (a b : Bool) → (a && b) ≡ true → a ≡ true
and-one true b e = refl
and-one false b e = cc

first-false : (a b : Bool) → (a || b) ≡ false → a ≡ false
first-false true b e = cc
first-false false b e = refl

and-two : (a b : Bool) → (a && b) ≡ true → b ≡ true
and-two true b e = e
and-two false b e = cc

or-live : (a b : Bool) → a ≡ false → (a || b) ≡ true → b ≡ true
or-live true b e f = cc
or-live false b e f = f

pub or-two : (a b : Bool) → b ≡ true → (a || b) ≡ true
or-two true b e = refl
or-two false b e = e

-- the life that is live now has not ended
now-going : (n k : ℕ) (journal : List Item) → (n == 0) ≡ false → (is_there n journal && life_now n journal == k) ≡ true → has_ended n k (events journal) ≡ false
now-going n k journal above e =
    let live : is_live n (events journal) ≡ true = or-live (n == 0) (is_live n (events journal)) above (and-one (is_there n journal) (life_now n journal == k) e) in
    let now : lives n (events journal) ≡ k =
    sym (ap (λ (b : Bool). if b then lives n (events journal) else 0) live) ∙ equal-number (life_now n journal) k (and-two (is_there n journal) (life_now n journal == k) e) in
    ap (λ (m : ℕ). has_ended n m (events journal)) (sym now) ∙ going (nat_lt 0 (lives n (events journal))) (has_ended n (lives n (events journal)) (events journal)) live
  where
    going : (a b : Bool) → (a && not b) ≡ true → b ≡ false
    going true true e = cc
    going true false e = refl
    going false b e = cc

module _ (journal next : List Item) (given taken : Marks) (gave took gave_now took_now : Book) (size : ℕ) (channels : List Live)
    (same : (n k : ℕ) → (n == 0) ≡ false → 0 < k → (is_there n next && life_now n next == k) ≡ false → (gave_now n k ≡ gave n k) × (took_now n k ≡ took n k))
    (quiet : (n k : ℕ) → (n == 0) ≡ false → 0 < k → has_ended n k (events next) ≡ true
    → (has_ended n k (events journal) ≡ true) ⊎ (ends_of is_msg (gave n k) ≤ ends_of ends_reply (took n k)))
    (left : (n k : ℕ) → (n == 0) ≡ false → 0 < k → has_release (events next) ≡ true → ends_of is_msg (gave_now n k) ≤ ends_of ends_reply (took_now n k))
    (s : AreLiveBy size next given taken channels) (b : Booked next given taken gave_now took_now) (o : Owes journal gave took) where
  live-at : (n k : ℕ) → (n == 0) ≡ false → (is_there n next && life_now n next == k) ≡ true → LiveDebts (gave_now n k) (took_now n k)
  live-at n k above e =
      let there : is_there n next ≡ true = and-one (is_there n next) (life_now n next == k) e in
      let now : life_now n next ≡ k = equal-number (life_now n next) k (and-two (is_there n next) (life_now n next == k) e) in
      subst (λ (m : ℕ). LiveDebts (gave_now n m) (took_now n m)) now
      (subst (λ (ms : List Mark). LiveDebts (gave_now n (life_now n next)) ms) (sym (b.live_took n above there))
      (subst (λ (ms : List Mark). LiveDebts ms (taken n)) (sym (b.live_gave n above there)) (live-debts size next given taken channels s n above there)))

  debts-at : (n k : ℕ) → (n == 0) ≡ false → 0 < k → (w : Bool) → (is_there n next && life_now n next == k) ≡ w → LiveDebts (gave_now n k) (took_now n k)
  debts-at n k above pos true e = live-at n k above e
  debts-at n k above pos false e =
      let p = same n k above pos e in
      subst (λ (ms : List Mark). LiveDebts (gave_now n k) ms) (sym p.1)
      (subst (λ (ms : List Mark). LiveDebts ms (took n k)) (sym p.0) (record { owed = o.owed n k above pos; closed = o.closed n k above pos }))

  quiet-at : (n k : ℕ) → (n == 0) ≡ false → 0 < k → has_ended n k (events next) ≡ true → (w : Bool) → (is_there n next && life_now n next == k) ≡ w
      → ends_of is_msg (gave_now n k) ≤ ends_of ends_reply (took_now n k)
  quiet-at n k above pos e true w = absurd (let bad : true ≡ false = sym e ∙ now-going n k next above w in cc)
  quiet-at n k above pos e false w =
      let p = same n k above pos w in
      let old = by-old (quiet n k above pos e) in
      omega (arith, old, ap (ends_of is_msg) p.0, ap (ends_of ends_reply) p.1)
    where
      by-old : (has_ended n k (events journal) ≡ true) ⊎ (ends_of is_msg (gave n k) ≤ ends_of ends_reply (took n k)) → ends_of is_msg (gave n k) ≤ ends_of ends_reply (took n k)
      by-old (inl f) = o.quiet n k above pos f
      by-old (inr q) = q

  pub owes-on : Owes next gave_now took_now
  owes-on = record {
    owed = λ n k above pos. (debts-at n k above pos (is_there n next && life_now n next == k) refl).owed;
    closed = λ n k above pos. (debts-at n k above pos (is_there n next && life_now n next == k) refl).closed;
    quiet = λ n k above pos e. quiet-at n k above pos e (is_there n next && life_now n next == k) refl;
    left = left;
  }

-- ---- a life that ends

-- where nothing is asked in a life, each own request has a wholly taken reply
pub quiet-life : (size : ℕ) (journal : List Item) (given taken : Marks) (channels : List Live) (gave took : Book) → AreLiveBy size journal given taken channels
    → Booked journal given taken gave took → (n k : ℕ) → (n == 0) ≡ false → is_live n (events journal) ≡ true → lives n (events journal) ≡ k
    → asked_at channels n ≡ 0 → ends_of is_msg (gave n k) ≤ ends_of ends_reply (took n k)
quiet-life size journal given taken channels gave took s b n k above live count none =
    let there : is_there n journal ≡ true = or-two (n == 0) (is_live n (events journal)) live in
    let now : life_now n journal ≡ k = ap (λ (t : Bool). if t then lives n (events journal) else 0) live ∙ count in
    let g : gave n k ≡ given n = ap (gave n) (sym now) ∙ b.live_gave n above there in
    let t : took n k ≡ taken n = ap (took n) (sym now) ∙ b.live_took n above there in
    omega (arith, asked-by size journal journal given taken channels s n above there, none, ap (ends_of is_msg) g, ap (ends_of ends_reply) t)

-- by a reply that was settled
settled-quiet : (a : End) (head : Head) (payload : List ℕ) → Awaits head payload a → KeepsExchangeRules (zero_history (passed Side.Received head payload ∷ a.journal)) → BookedEnd a
    → (n k : ℕ) → (n == 0) ≡ false → 0 < k → (f : Bool) → has_ended n k (events a.journal) ≡ f
    → has_ended n k (events (passed Side.Received head payload ∷ a.journal)) ≡ true
    → (has_ended n k (events a.journal) ≡ true) ⊎ (ends_of is_msg (a.gave n k) ≤ ends_of ends_reply (a.took n k))
settled-quiet a head payload t u b n k above pos true f e = inl f
settled-quiet a head payload t u b n k above pos false f e =
    let w = t.waits.waits in
    let m = a.session.peer.management in
    let x = passed-ends Side.Received head payload a.journal w.zero_is n k pos f e in
    let zero : zero_history (passed Side.Received head payload ∷ a.journal) ≡ passed Side.Received head payload ∷ zero_history a.journal = rw (w.zero_is) refl in
    let c = oldest-closes Side.Received head payload (zero_history a.journal) (subst KeepsExchangeRules zero u) n x.live
    (ap (λ (h : List Item). is_live n (zero_events h)) (sym zero) ∙ x.over) m.mine.requests t.waits.manages.is.mine in
    inr (quiet-life a.session.limits.window a.journal a.given a.taken a.session.peer.lives a.gave a.took w.live b n k above x.live x.count
    (t.upright.closing n above (or-one (closes n m.mine.requests) (closes n m.acts.requests) (close-waits n m.mine.requests c))))
  where
    or-one : (p q : Bool) → p ≡ true → (p || q) ≡ true
    or-one true q e = refl
    or-one false q e = cc

-- the first of the unsent messages of channel zero is the one that a whole reply of it ends
sent-kinds : (size most : ℕ) (journal : List Item) (given taken : Marks) (channels : List Live) (head : Head) (payload : List ℕ)
    → AreLiveBy size journal given taken channels → IsLawfulNext size most journal given taken head payload → (head.channel == 0) ≡ true → head.more ≡ false
    → is_msg head.kind ≡ false → (rest : List Kind) × (kinds_at 0 channels ≡ head.kind ∷ rest)
sent-kinds size most journal given taken channels head payload s x z last reply =
    let zero : head.channel ≡ 0 = equal-number head.channel 0 z in
    let past = zero_history journal in
    let tag = tag_of Side.Sent (began Side.Sent head ∷ past) head in
    let after = unsent_marks x.new.queue in
    let all : given 0 ≡ modulo_marks (marks Side.Sent (passed Side.Sent head payload ∷ began Side.Sent head ∷ past)) ++ after =
    subst (λ (c : ℕ). given c ≡ modulo_marks (marks Side.Sent (passed Side.Sent head payload ∷ began Side.Sent head ∷ history c journal)) ++ after) zero x.next.stands.all_given in
    let whole : marks Side.Sent (passed Side.Sent head payload ∷ began Side.Sent head ∷ past) ≡ marks Side.Sent past ++ (map (octet tag) payload ++ end tag ∷ []) =
    rw (z, reply, last) refl in
    let kinds : kinds_of (given 0) ≡ kinds_of (marks Side.Sent past) ++ (head.kind ∷ kinds_of after) =
    ap kinds_of all ∙ kinds-append (modulo_marks (marks Side.Sent (passed Side.Sent head payload ∷ began Side.Sent head ∷ past))) after
    ∙ ap (λ (ks : List Kind). ks ++ kinds_of after)
    (kinds-modulo (marks Side.Sent (passed Side.Sent head payload ∷ began Side.Sent head ∷ past)) ∙ ap kinds_of whole
    ∙ kinds-append (marks Side.Sent past) (map (octet tag) payload ++ end tag ∷ []))
    ∙ append_assoc (kinds_of (marks Side.Sent past)) (kinds_of (map (octet tag) payload ++ end tag ∷ [])) (kinds_of after)
    ∙ ap (λ (ks : List Kind). kinds_of (marks Side.Sent past) ++ ks)
    (sym (kinds-append (map (octet tag) payload ++ end tag ∷ []) after) ∙ kinds-first tag payload after) in (
      kinds_of after,
      append_cancel_left (kinds_of (marks Side.Sent past)) (kinds_at 0 channels) (head.kind ∷ kinds_of after)
          (sym (kinds-by size journal journal given taken channels s) ∙ kinds),
    )

first-reply : (kind : Kind) (rest : List Kind) → is_msg kind ≡ false → reply_kinds (kind ∷ rest) ≡ kind ∷ reply_kinds rest
first-reply kind rest e = rw e refl

-- where a reply of channel zero went out, what is said of the first answer is said of that of the oldest request
sent-answer : (a : End) (head : Head) (payload : List ℕ) (most : ℕ) → IsLawfulSession a.session a.fed a.rest a.journal a.given a.taken
    → IsLawfulNext a.session.limits.window most a.journal a.given a.taken head payload → (head.channel == 0) ≡ true → head.more ≡ false
    → same_kind Kind.Rpy head.kind ≡ true → (later : List Kept) (one : Kept) → a.session.peer.management.theirs.requests ≡ later ++ one ∷ []
    → (n : ℕ) → (n == 0) ≡ false → is_of_close n one ≡ true → asked_at a.session.peer.lives n ≡ 0
sent-answer a head payload most l x z last rpy later one is n above of_close =
    let m = a.session.peer.management in
    let lives = a.session.peer.lives in
    let reply : is_msg head.kind ≡ false = no-msg head.kind rpy in
    let q = sent-kinds a.session.limits.window most a.journal a.given a.taken lives head payload l.stands.holds.live x z last reply in
    let first : reply_kinds (kinds_at 0 lives) ≡ head.kind ∷ reply_kinds q.0 = ap reply_kinds q.1 ∙ first-reply head.kind q.0 reply in
    let requests : reverse m.theirs.requests ≡ one ∷ reverse later = ap reverse is ∙ reverse-append later (one ∷ []) in
    let theirs = subst (λ (ks : List Kind). AreAnswered (all_asked a.journal m) a.journal (asked_at lives)
    (place_of m.theirs.requests (asked Side.Received (zero_history a.journal))) ks m.answers (reverse m.theirs.requests)) first l.upright.theirs in
    let go = subst (λ (rs : List Kept). AreAnswered (all_asked a.journal m) a.journal (asked_at lives)
    (place_of m.theirs.requests (asked Side.Received (zero_history a.journal))) (head.kind ∷ reply_kinds q.0) m.answers rs) requests theirs in
    go.0.still rpy n above of_close
  where
    no-msg : (kind : Kind) → same_kind Kind.Rpy kind ≡ true → is_msg kind ≡ false
    no-msg Kind.Msg e = cc
    no-msg Kind.Rpy e = refl
    no-msg Kind.Err e = refl
    no-msg Kind.Ans e = refl
    no-msg Kind.Nul e = refl

-- by a reply that went out
sent-quiet : (a : End) (head : Head) (payload : List ℕ) (most : ℕ) → IsLawfulSession a.session a.fed a.rest a.journal a.given a.taken
    → IsLawfulNext a.session.limits.window most a.journal a.given a.taken head payload
    → KeepsExchangeRules (zero_history (passed Side.Sent head payload ∷ began Side.Sent head ∷ a.journal)) → BookedEnd a
    → (n k : ℕ) → (n == 0) ≡ false → 0 < k → (f : Bool) → has_ended n k (events a.journal) ≡ f
    → has_ended n k (events (passed Side.Sent head payload ∷ began Side.Sent head ∷ a.journal)) ≡ true
    → (has_ended n k (events a.journal) ≡ true) ⊎ (ends_of is_msg (a.gave n k) ≤ ends_of ends_reply (a.took n k))
sent-quiet a head payload most l x u b n k above pos true f e = inl f
sent-quiet a head payload most l x u b n k above pos false f e =
    let m = a.session.peer.management in
    let lives = a.session.peer.lives in
    let p = sent-ends head payload a.journal n k pos f e in
    let z = p.0 in
    let y = p.1 in
    let past = began Side.Sent head ∷ zero_history a.journal in
    let zero : zero_history (passed Side.Sent head payload ∷ began Side.Sent head ∷ a.journal) ≡ passed Side.Sent head payload ∷ past = rw z refl in
    let keeps = subst KeepsExchangeRules zero u in
    let over = ap (λ (h : List Item). is_live n (zero_events h)) (sym zero) ∙ y.over in
    let c = oldest-closes Side.Sent head payload past keeps n y.live over m.theirs.requests
    (header-leaves Side.Received Side.Sent head (zero_history a.journal) m.theirs.requests l.stands.holds.manages.is.theirs) in
    inr (quiet-life a.session.limits.window a.journal a.given a.taken lives a.gave a.took l.stands.holds.live b n k above y.live y.count
    (sent-answer a head payload most l x z (is-last Side.Sent head payload past keeps n y.live over) (is-rpy Side.Sent head payload past keeps n y.live over)
    c.later c.one c.is n above (or-two (is_close_of 0 c.one.said) (closes_one n c.one) (one-closes n m.theirs.requests c))))

-- ---- a release

abbrev pub AllQuiet : End → Type 0
AllQuiet a = (n k : ℕ) → (n == 0) ≡ false → 0 < k → ends_of is_msg (a.gave n k) ≤ ends_of ends_reply (a.took n k)

-- what is left to show of a life that goes on
pub all-quiet : (a : End) → BookedEnd a → Owes a.journal a.gave a.took
    → ((n k : ℕ) → (n == 0) ≡ false → is_live n (events a.journal) ≡ true → lives n (events a.journal) ≡ k → ends_of is_msg (a.gave n k) ≤ ends_of ends_reply (a.took n k))
    → AllQuiet a
all-quiet a b o live n k above pos = by-end (has_ended n k (events a.journal)) refl
  where
    by-stage : (lives n (events a.journal) < k) ⊎ ((is_live n (events a.journal) ≡ true) × (lives n (events a.journal) ≡ k))
        → ends_of is_msg (a.gave n k) ≤ ends_of ends_reply (a.took n k)
    by-stage (inl less) = let none = ap (ends_of is_msg) (b.fresh_gave n k above less) in omega (arith, none)
    by-stage (inr p) = live n k above p.0 p.1

    by-end : (f : Bool) → has_ended n k (events a.journal) ≡ f → ends_of is_msg (a.gave n k) ≤ ends_of ends_reply (a.took n k)
    by-end true f = o.quiet n k above pos f
    by-end false f = by-stage (stage n k (events a.journal) pos f)

settled-left : (a : End) (head : Head) (payload : List ℕ) → Awaits head payload a → KeepsExchangeRules (zero_history (passed Side.Received head payload ∷ a.journal)) → BookedEnd a
    → Owes a.journal a.gave a.took → (f : Bool) → has_release (events a.journal) ≡ f → has_release (events (passed Side.Received head payload ∷ a.journal)) ≡ true
    → (has_release (events a.journal) ≡ true) ⊎ AllQuiet a
settled-left a head payload t u b o true f e = inl f
settled-left a head payload t u b o false f e =
    let w = t.waits.waits in
    let m = a.session.peer.management in
    let zero : zero_history (passed Side.Received head payload ∷ a.journal) ≡ passed Side.Received head payload ∷ zero_history a.journal = rw (w.zero_is) refl in
    let c = oldest-leaves Side.Received head payload (zero_history a.journal) (subst KeepsExchangeRules zero u) f
    (ap (λ (h : List Item). has_release (zero_events h)) (sym zero) ∙ e) m.mine.requests t.waits.manages.is.mine in
    let alone = t.upright.leaving (or-one (is_leaving m.mine.requests) (is_leaving m.acts.requests) (leave-waits m.mine.requests c)) in
    inr (all-quiet a b o (λ n k above live count. absurd (let bad : true ≡ false = sym (or-two (n == 0) (is_live n (events a.journal)) live) ∙ alone.none n above in cc)))
  where
    or-one : (p q : Bool) → p ≡ true → (p || q) ≡ true
    or-one true q e = refl
    or-one false q e = cc

sent-left : (a : End) (head : Head) (payload : List ℕ) (most : ℕ) → IsLawfulSession a.session a.fed a.rest a.journal a.given a.taken
    → IsLawfulNext a.session.limits.window most a.journal a.given a.taken head payload
    → KeepsExchangeRules (zero_history (passed Side.Sent head payload ∷ began Side.Sent head ∷ a.journal)) → BookedEnd a → Owes a.journal a.gave a.took
    → (f : Bool) → has_release (events a.journal) ≡ f → has_release (events (passed Side.Sent head payload ∷ began Side.Sent head ∷ a.journal)) ≡ true
    → (z : Bool) → (head.channel == 0) ≡ z → (has_release (events a.journal) ≡ true) ⊎ AllQuiet a
sent-left a head payload most l x u b o true f e z zero_is = inl f
sent-left a head payload most l x u b o false f e false zero_is =
    let same : events (passed Side.Sent head payload ∷ began Side.Sent head ∷ a.journal) ≡ events a.journal = rw zero_is refl in
    absurd (let bad : true ≡ false = sym e ∙ ap has_release same ∙ f in cc)
sent-left a head payload most l x u b o false f e true zero_is =
    let m = a.session.peer.management in
    let lives = a.session.peer.lives in
    let past = began Side.Sent head ∷ zero_history a.journal in
    let zero : zero_history (passed Side.Sent head payload ∷ began Side.Sent head ∷ a.journal) ≡ passed Side.Sent head payload ∷ past = rw zero_is refl in
    let keeps = subst KeepsExchangeRules zero u in
    let after = ap (λ (h : List Item). has_release (zero_events h)) (sym zero) ∙ e in
    let c = oldest-leaves Side.Sent head payload past keeps f after m.theirs.requests
    (header-leaves Side.Received Side.Sent head (zero_history a.journal) m.theirs.requests l.stands.holds.manages.is.theirs) in
    inr (all-quiet a b o (λ n k above live count.
    quiet-life a.session.limits.window a.journal a.given a.taken lives a.gave a.took l.stands.holds.live b n k above live count
    (sent-answer a head payload most l x zero_is (release-last Side.Sent head payload past keeps f after) (release-rpy Side.Sent head payload past keeps f after)
    c.later c.one c.is n above (or-one (is_close_of 0 c.one.said) (closes_one n c.one) c.close))))
  where
    or-one : (p q : Bool) → p ≡ true → (p || q) ≡ true
    or-one true q e = refl
    or-one false q e = cc

-- ---- any act

abbrev pub OwesEnd : End → Type 0
OwesEnd one = Owes one.journal one.gave one.took

-- a life that is given or taken in is live
not-touched : (number n k : ℕ) (journal : List Item) → 0 < k → (is_there n journal && life_now n journal == k) ≡ false → (w : Bool)
    → (number == n && life_now number journal == k) ≡ w → w ≡ false
not-touched number n k journal pos e false w = refl
not-touched number n k journal pos e true w =
    let same : number ≡ n = equal-number number n (and-one (number == n) (life_now number journal == k) w) in
    let now : (life_now n journal == k) ≡ true =
    subst (λ (m : ℕ). (life_now m journal == k) ≡ true) same (and-two (number == n) (life_now number journal == k) w) in
    let there : is_there n journal ≡ true = now-there n k journal pos now in
    let bad : true ≡ false = sym (both (is_there n journal) (life_now n journal == k) there now) ∙ e in cc
  where
    both : (a b : Bool) → a ≡ true → b ≡ true → (a && b) ≡ true
    both true true e f = refl
    both true false e f = cc
    both false b e f = cc

untouched : (number : ℕ) (ones : List Mark) (journal : List Item) (book : Book) (n k : ℕ) → 0 < k → (is_there n journal && life_now n journal == k) ≡ false
    → with_more number (life_now number journal) ones book n k ≡ book n k
untouched number ones journal book n k pos e =
    more-beside number (life_now number journal) ones book n k (not-touched number n k journal pos e (number == n && life_now number journal == k) refl)

module _ (a new : End) (stands : StandsUnbroken a) (u : KeepsExchangeRules (zero_history new.journal)) (b : BookedEnd a) (c : BookedEnd new) (o : OwesEnd a) where
  going : a.doing ≡ goes → IsLawfulSession a.session a.fed a.rest a.journal a.given a.taken
  going e = subst (λ (d : Doing). StandsSo d a) e stands

  -- what is given and taken is so before the release
  not-over : {A : Type 0} → a.doing ≡ goes → is_over a.session.peer ≡ false → has_release (events a.journal) ≡ true → A
  not-over e on released =
      let l = going e in
      let bad : true ≡ false = sym released ∙ sym l.stands.released ∙ first-false a.session.peer.released (is_some a.session.peer.ear.broken) on in cc

  -- a journal that goes on, and the same books
  journal-owes : (next : List Item) (given taken : Marks) (size : ℕ) (channels : List Live) → AreLiveBy size next given taken channels → Booked next given taken a.gave a.took
      → ((n k : ℕ) → (n == 0) ≡ false → 0 < k → has_ended n k (events next) ≡ true
      → (has_ended n k (events a.journal) ≡ true) ⊎ (ends_of is_msg (a.gave n k) ≤ ends_of ends_reply (a.took n k)))
      → (has_release (events next) ≡ true → (has_release (events a.journal) ≡ true) ⊎ AllQuiet a) → Owes next a.gave a.took
  journal-owes next given taken size channels s booked quiet left =
      owes-on a.journal next given taken a.gave a.took a.gave a.took size channels (λ n k above pos e. (refl, refl)) quiet
      (λ n k above pos e. by-left n k above pos (left e)) s booked o
    where
      by-left : (n k : ℕ) → (n == 0) ≡ false → 0 < k → (has_release (events a.journal) ≡ true) ⊎ AllQuiet a → ends_of is_msg (a.gave n k) ≤ ends_of ends_reply (a.took n k)
      by-left n k above pos (inl f) = o.left n k above pos f
      by-left n k above pos (inr q) = q n k above pos

  came-owes : (gained : List Item) (taken : Marks) (size : ℕ) (channels : List Live) → list_any ends_zero gained ≡ false → AreLiveBy size (gained ++ a.journal) a.given taken channels
      → Booked (gained ++ a.journal) a.given taken a.gave a.took → Owes (gained ++ a.journal) a.gave a.took
  came-owes gained taken size channels quiet s booked =
      journal-owes (gained ++ a.journal) a.given taken size channels s booked
      (λ n k above pos e. inl (sym (ap (has_ended n k) (gained-events gained a.journal quiet)) ∙ e))
      (λ e. inl (sym (ap has_release (gained-events gained a.journal quiet)) ∙ e))

  sends-owes : (frame : Frame) → SendsAs frame a new → OwesEnd new
  sends-owes (framed head payload) s =
      subst OwesEnd (sym s.new_is)
      (journal-owes (passed Side.Sent head payload ∷ began Side.Sent head ∷ a.journal) s.given_now s.taken_now s.session.limits.window s.session.peer.lives
      s.stands.stands.holds.live (subst BookedEnd s.new_is c)
      (λ n k above pos. sent-quiet a head payload s.most (going s.going) s.next (subst (λ (e : End). KeepsExchangeRules (zero_history e.journal)) s.new_is u) b n k above pos
      (has_ended n k (events a.journal)) refl)
      (λ e. sent-left a head payload s.most (going s.going) s.next (subst (λ (x : End). KeepsExchangeRules (zero_history x.journal)) s.new_is u) b o
      (has_release (events a.journal)) refl e (head.channel == 0) refl))
  sends-owes (seq_frame seq) s =
      subst OwesEnd (sym s.new_is)
      (journal-owes (told Side.Sent seq ∷ a.journal) a.given a.taken s.session.limits.window s.session.peer.lives
      s.stands.stands.holds.live (subst BookedEnd s.new_is c) (λ n k above pos e. inl (sym (ap (has_ended n k) (told-events Side.Sent seq a.journal)) ∙ e))
      (λ e. inl (sym (ap has_release (told-events Side.Sent seq a.journal)) ∙ e)))

  gained-owes : (octets : List ℕ) → HasGained octets a new → OwesEnd new
  gained-owes octets s =
      subst OwesEnd (sym s.new_is)
      (came-owes s.gained s.gains.taken_now s.session.limits.window s.session.peer.lives s.gains.quiet s.stands.stands.holds.live (subst BookedEnd s.new_is c))

  gets-owes : (event : Event) (octets : List ℕ) → GetsAs event octets a new → OwesEnd new
  gets-owes Event.More octets s = gained-owes octets s
  gets-owes (Event.Arrived number) octets s = gained-owes octets s
  gets-owes Event.Zero octets s =
      subst OwesEnd (sym s.new_is)
      (came-owes s.zero.gained s.zero.taken_now a.session.limits.window s.session.peer.lives s.zero.quiet s.zero.waits.waits.live (subst BookedEnd s.new_is c))
  gets-owes Event.Released octets s = absurd s
  gets-owes (Event.Broken rule place) octets s =
      subst OwesEnd (sym s.new_is)
      (came-owes s.breaks.gained s.breaks.taken_now a.session.limits.window s.session.peer.lives s.breaks.quiet s.breaks.live (subst BookedEnd s.new_is c))
  gets-owes Event.NoMemory octets s = gained-owes octets s

  pub does-owes : (act : Act) → Does act a new → OwesEnd new
  does-owes (gives number kind octets) s =
      subst OwesEnd (sym s.new_is)
      (owes-on a.journal a.journal (with_marks number (a.given number ++ given_marks number kind octets a) a.given) a.taken a.gave a.took
      (with_more number (life_now number a.journal) (given_marks number kind octets a) a.gave) a.took s.session.limits.window s.session.peer.lives
      (λ n k above pos e. (untouched number (given_marks number kind octets a) a.journal a.gave n k pos e, refl)) (λ n k above pos e. inl e)
      (λ n k above pos e. not-over s.going s.on e) s.stands.stands.holds.live (subst BookedEnd s.new_is c) o)
  does-owes (asks octets) s = subst OwesEnd (sym s.new_is) o
  does-owes (takes number part octets) s =
      subst OwesEnd (sym s.new_is)
      (owes-on a.journal a.journal s.given_now (with_marks number (a.taken number ++ part_marks part octets) a.taken) a.gave a.took
      a.gave (with_more number (life_now number a.journal) (part_marks part octets) a.took) s.session.limits.window s.session.peer.lives
      (λ n k above pos e. (refl, untouched number (part_marks part octets) a.journal a.took n k pos e)) (λ n k above pos e. inl e)
      (λ n k above pos e. not-over s.going s.on e) s.stands.stands.holds.live (subst BookedEnd s.new_is c) o)
  does-owes settles s =
      subst OwesEnd (sym s.new_is)
      (journal-owes (passed Side.Received s.head s.payload ∷ a.journal) s.given_now s.taken_now s.session.limits.window s.session.peer.lives
      s.stands.stands.holds.live (subst BookedEnd s.new_is c)
      (λ n k above pos. settled-quiet a s.head s.payload (subst (λ (d : Doing). StandsSo d a) s.waiting stands)
      (subst (λ (e : End). KeepsExchangeRules (zero_history e.journal)) s.new_is u) b n k above pos (has_ended n k (events a.journal)) refl)
      (λ e. settled-left a s.head s.payload (subst (λ (d : Doing). StandsSo d a) s.waiting stands)
      (subst (λ (x : End). KeepsExchangeRules (zero_history x.journal)) s.new_is u) b o (has_release (events a.journal)) refl e))
  does-owes (stops rule place) s = subst OwesEnd (sym s.new_is) o
  does-owes (sends frame) s = sends-owes frame s
  does-owes pauses s = subst OwesEnd (sym s.still) o
  does-owes (gets octets event) s = used s
    where
      used : UsesNone octets a new ⊎ GetsAs event octets a new → OwesEnd new
      used (inl s) = subst OwesEnd (sym s.still) o
      used (inr s) = gets-owes event octets s
  does-owes rests s = subst OwesEnd (sym s.new_is) o

-- ---- any moves

begun-owes : (one : End) → Starts one → OwesEnd one
begun-owes one s = subst OwesEnd (sym s.new_is) (record {
  owed = λ n k above pos. omega arith;
  closed = λ n k above pos e. refl;
  quiet = λ n k above pos e. omega arith;
  left = λ n k above pos e. omega arith;
})

keeps-a : (world : World) → Joined world → KeepsExchangeRules (zero_history world.a.journal)
keeps-a world j =
    let w = j.linked.wired in
    let r = (run_all j.of_a j.of_b w.steps world.a.journal world.b.journal w.items_a w.items_b w.ends w.run).reached in
    unbroken (zero_history world.a.journal) r.a_law.on_zero r.a_whole.on_zero

keeps-b : (world : World) → Joined world → KeepsExchangeRules (zero_history world.b.journal)
keeps-b world j =
    let w = j.linked.wired in
    let r = (run_all j.of_a j.of_b w.steps world.a.journal world.b.journal w.items_a w.items_b w.ends w.run).reached in
    unbroken (zero_history world.b.journal) r.b_law.on_zero r.b_whole.on_zero

pub owes : (moves : List Move) (world : World) → IsReached moves world → OwesEnd world.a × OwesEnd world.b
owes [] world r = (begun-owes world.a r.a, begun-owes world.b r.b)
owes (a_does act ∷ moves) world (before, s, same, used, put, r) =
    let o = owes moves before r in
    let now : IsReached (a_does act ∷ moves) world = (before, s, same, used, put, r) in (
      does-owes before.a world.a (stands-a moves before r) (keeps-a world (reached (a_does act ∷ moves) world now)) (books moves before r).0 (books (a_does act ∷ moves) world now).0 o.0 act s,
      subst OwesEnd (sym same) o.1,
    )
owes (b_does act ∷ moves) world (before, s, same, used, put, r) =
    let o = owes moves before r in
    let now : IsReached (b_does act ∷ moves) world = (before, s, same, used, put, r) in (
      subst OwesEnd (sym same) o.0,
      does-owes before.b world.b (stands-b moves before r) (keeps-b world (reached (b_does act ∷ moves) world now)) (books moves before r).1 (books (b_does act ∷ moves) world now).1 o.1 act s,
    )
