-- A start, a close and a release that are given leave what is ready so.
use Rattle.std.proofs.Common.{◌≡◌, ℕ, ◌+◌, ◌≤◌, ◌==◌, nat_lt, Bool, true, false, not, ◌||◌, if◌then◌else◌, List, [], ◌∷◌, ◌++◌, length, length-append, append_assoc, map, filter, reverse, Option, None, Some, refl, sym, ap, ◌∙◌, arith, subst}
use Rattle.std.specs.List.{list_any, list_all}
use Rattle.std.proofs.lemmas.Bool.Decides.{nat_tests}
use Rattle.std.proofs.lemmas.List.{length-map, length-reverse, map-append}
use Rattle.beep_management.specs.beep_frame.specs.declared.kind.Kind.{Kind}
use Rattle.beep_management.specs.beep_frame.specs.Frame.{is_msg, same_kind}
use Rattle.beep_management.specs.beep_mgmt.specs.Form.{Form, PlainProfile, greeting, start, chosen, close, okay, fault}
use Rattle.beep_management.specs.beep_history.specs.declared.journal.Side.{Side}
use Rattle.beep_management.specs.beep_history.specs.Journal.{Item}
use Rattle.beep_management.specs.beep_history.specs.Marks.{Request, requests, waiting, is_answered}
use Rattle.beep_management.specs.beep_exchange.specs.Kept.{Kept as KeptOf}
use Rattle.beep_management.specs.beep_journal.specs.declared.role.Role.{Role}
use Rattle.beep_management.specs.beep_journal.specs.Lives.{is_live, lives}
use Rattle.beep_management.specs.beep_journal.specs.Zero.{zero_history, asked, events}
use Rattle.beep_management.specs.beep_journal.specs.Life.{life, is_there, history}
use Rattle.beep_management.specs.beep_channel.specs.Held.{Live}
use Rattle.beep_management.specs.beep_channel.specs.Stands.{Stands}
use Rattle.beep_management.specs.beep_lives.specs.Lives.{live_at}
use Rattle.beep_management.specs.beep_decide.specs.Asks.{is_start_of, is_close_of}
use Rattle.beep_management.specs.beep_decide.specs.Numbers.{other_role, may_start}
use Rattle.beep_lawful.specs.Closing.{is_idle, was_idle_since}
use Rattle.beep_lawful.specs.declared.terms.Terms.{Terms}
use Rattle.beep_management.specs.beep_standing.specs.Standing.{Marks, AreLiveBy}
use Rattle.beep_management.specs.beep_spoken.specs.Spoken.{Spoken}
use Rattle.beep_management.specs.beep_asked.specs.Kept.{Kept, names_one, starts, is_leaving}
use Rattle.beep_management.specs.beep_asked.specs.Asked.{AreWaiting}
use Rattle.beep_management.specs.Managed.{Managed, number_started, numbers_started, numbers_granted, numbers_of, replies_among}
use Rattle.beep_management.specs.Manages.{unsent, IsManaged}
use Rattle.beep_management.proofs.ListLemmas.{started-append}
use Rattle.beep_upright.specs.Turns.{Turn, asks as asks_turn, answers as answers_turn, reply_kinds, turns, is_start_for, may_precede}
use Rattle.beep_upright.specs.Upright.{is_free, AreApart, MayBegin, WasIdle, all_asked, AreReady}
use Rattle.beep_upright.proofs.TestLemmas.{and-false, both-one, both-two, or-one, or-two, same-number, equal-number, not-true, not-less}
use Rattle.beep_upright.proofs.FrameLemmas.{fresh-numbers, any-before, any-right, any-reverse, started-among}
use Rattle.beep_upright.proofs.SeqLemmas.{stands-by}
use Rattle.beep_upright.proofs.MoreLemmas.{request_kinds, turns-test}
use Rattle.beep_upright.proofs.JoinLemmas.{act-given}

-- ---- numbers of starts

reply-kinds-map : (messages : List Spoken) → reply_kinds (map (λ (one : Spoken). one.kind) messages) ≡ map (λ (one : Spoken). one.kind) (replies_among messages)
reply-kinds-map [] = refl
reply-kinds-map (one ∷ messages) = of (not (is_msg one.kind)) (reply-kinds-map messages)
  where
    of : (b : Bool) → reply_kinds (map (λ (one : Spoken). one.kind) messages) ≡ map (λ (one : Spoken). one.kind) (replies_among messages)
        → (if b then one.kind ∷ reply_kinds (map (λ (one : Spoken). one.kind) messages) else reply_kinds (map (λ (one : Spoken). one.kind) messages))
        ≡ map (λ (one : Spoken). one.kind) (if b then one ∷ replies_among messages else replies_among messages)
    of true e = ap (λ (l : List Kind). one.kind ∷ l) e
    of false e = e

-- a grant that was given is of a channel that is to begin
granted-has : (n : ℕ) (replies : List Spoken) (others : List Kept) (before : List Kind) (kind : Kind) (after : List Kind) → map (λ (one : Spoken). one.kind) replies ≡ before ++ kind ∷ after
    → (earlier : List Kept) (kept : Kept) (later : List Kept) → others ≡ earlier ++ kept ∷ later → length earlier ≡ length before → same_kind Kind.Rpy kind ≡ true
    → list_any (λ (k : ℕ). k == n) (number_started kept.said) ≡ true → list_any (λ (k : ℕ). k == n) (numbers_granted replies others) ≡ true
granted-has n [] others [] kind after split earlier kept later ksplit count rpy e = cc
granted-has n [] others (b ∷ before) kind after split earlier kept later ksplit count rpy e = cc
granted-has n (reply ∷ replies) [] before kind after split [] kept later ksplit count rpy e = cc
granted-has n (reply ∷ replies) [] before kind after split (one ∷ earlier) kept later ksplit count rpy e = cc
granted-has n (reply ∷ replies) (one ∷ others) [] kind after split [] kept later ksplit count rpy e =
    let same : reply.kind ≡ kind = cc in let first : one ≡ kept = cc in
    let rpy-reply : same_kind Kind.Rpy reply.kind ≡ true = ap (same_kind Kind.Rpy) same ∙ rpy in
    rw rpy-reply (any-before (λ (k : ℕ). k == n) (number_started one.said) (numbers_granted replies others) (ap (λ (x : Kept). list_any (λ (k : ℕ). k == n) (number_started x.said)) first ∙ e))
granted-has n (reply ∷ replies) (one ∷ others) [] kind after split (other ∷ earlier) kept later ksplit count rpy e = absurd (omega (arith, count))
granted-has n (reply ∷ replies) (one ∷ others) (b ∷ before) kind after split [] kept later ksplit count rpy e = absurd (omega (arith, count))
granted-has n (reply ∷ replies) (one ∷ others) (b ∷ before) kind after split (other ∷ earlier) kept later ksplit count rpy e =
    let tail : map (λ (one : Spoken). one.kind) replies ≡ before ++ kind ∷ after = cc in let rest : others ≡ earlier ++ kept ∷ later = cc in
    of (same_kind Kind.Rpy reply.kind) (granted-has n replies others before kind after tail earlier kept later rest (omega (arith, count)) rpy e)
  where
    of : (x : Bool) → list_any (λ (k : ℕ). k == n) (numbers_granted replies others) ≡ true
        → list_any (λ (k : ℕ). k == n) (if x then number_started one.said ++ numbers_granted replies others else numbers_granted replies others) ≡ true
    of true h = any-right (λ (k : ℕ). k == n) (number_started one.said) (numbers_granted replies others) h
    of false h = h

-- what may begin isn't live
none-live : (role : Role) (journal : List Item) (n : ℕ) (ns : List ℕ) → list_all (is_free role journal) ns ≡ true → is_live n (events journal) ≡ true
    → list_any (λ (k : ℕ). k == n) ns ≡ false
none-live role journal n [] all live = refl
none-live role journal n (k ∷ ns) all live = of (k == n) refl (none-live role journal n ns (both-two (is_free role journal k) _ all) live)
  where
    of : (b : Bool) → (k == n) ≡ b → list_any (λ (k : ℕ). k == n) ns ≡ false → (b || list_any (λ (k : ℕ). k == n) ns) ≡ false
    of false e rest = rest
    of true e rest =
        let dead : is_live k (events journal) ≡ false = not-true (is_live k (events journal)) (both-two (may_start role k) _ (both-one (is_free role journal k) _ all)) in
        absurd (let g : true ≡ false = sym live ∙ ap (λ (j : ℕ). is_live j (events journal)) (sym (equal-number k n e)) ∙ dead in cc)

closes-start : (n code : ℕ) (note : List ℕ) (form : Option Form) → list_any (λ (k : ℕ). is_close_of k (Some (close n code note))) (number_started form) ≡ true
    → list_any (λ (k : ℕ). k == n) (number_started form) ≡ true
closes-start n code note None e = e
closes-start n code note (Some (greeting features localize profiles)) e = e
closes-start n code note (Some (start number server profiles)) e = turned n number e
  where
    turned : (x y : ℕ) → ((x == y) || false) ≡ true → ((y == x) || false) ≡ true
    turned x y e = of (x == y) refl e
      where
        of : (b : Bool) → (x == y) ≡ b → (b || false) ≡ true → ((y == x) || false) ≡ true
        of true is e = rw (equal-number x y is, same-number y) refl
        of false is e = cc
closes-start n code note (Some (chosen profile)) e = e
closes-start n code note (Some (close number reason text)) e = e
closes-start n code note (Some okay) e = e
closes-start n code note (Some (fault reason text)) e = e

-- what hasn't begun was idle where it is now
idle-first : (p n c : ℕ) (journal : List Item) → length (requests Side.Sent (zero_history journal)) ≤ p → is_idle p n c journal ≡ true → was_idle_since p n c journal ≡ true
idle-first p n c [] within e = refl
idle-first p n c (item ∷ journal) within e = rw (e, not-less p (length (requests Side.Sent (zero_history (item ∷ journal)))) within) refl

-- where no own request waits, none waits before the next
idle-zero : (c : ℕ) (journal : List Item) (mine : List Kept) → AreWaiting Side.Sent (zero_history journal) mine → length mine ≡ 0
    → is_idle (length (asked Side.Sent (zero_history journal))) 0 c journal ≡ true
idle-zero c journal mine w none = ap not (of (requests Side.Sent (zero_history journal)))
  where
    of : (rs : List Request) → list_any (λ (request : Request). nat_lt request.position (length (asked Side.Sent (zero_history journal))))
        (filter (λ (request : Request). not (is_answered Side.Sent request.position (zero_history journal))) rs) ≡ false
    of [] = refl
    of (r ∷ rs) = by (is_answered Side.Sent r.position (zero_history journal)) refl (of rs)
      where
        by : (b : Bool) → is_answered Side.Sent r.position (zero_history journal) ≡ b
            → list_any (λ (request : Request). nat_lt request.position (length (asked Side.Sent (zero_history journal))))
            (filter (λ (request : Request). not (is_answered Side.Sent request.position (zero_history journal))) rs) ≡ false
            → list_any (λ (request : Request). nat_lt request.position (length (asked Side.Sent (zero_history journal))))
            (if not b then r ∷ filter (λ (request : Request). not (is_answered Side.Sent request.position (zero_history journal))) rs
            else filter (λ (request : Request). not (is_answered Side.Sent request.position (zero_history journal))) rs) ≡ false
        by true e rest = rest
        by false e rest =
            let above : nat_lt r.position (length (asked Side.Sent (zero_history journal))) ≡ false =
            shift r.position (length mine) (length (asked Side.Sent (zero_history journal))) none (sym (w.answered r.position) ∙ e) in
            rw above rest
          where
            shift : (p k a : ℕ) → k ≡ 0 → nat_lt (p + k) a ≡ false → nat_lt p a ≡ false
            shift p k a z e = grind (arith, nat_tests)

-- a life in which nothing is asked is idle
pub idle-life : (size : ℕ) (journal : List Item) (given taken : Marks) (channels : List Live) (n : ℕ) (c : Live) (p : ℕ) → AreLiveBy size journal given taken channels
    → (n == 0) ≡ false → live_at n channels ≡ Some c → c.held.life.given.asked ≡ 0 → is_live n (events journal) ≡ true → is_idle p n (lives n (events journal)) journal ≡ true
idle-life size journal given taken channels n c p s above at none live = rw above (is-zero (length (waiting Side.Sent (life n (lives n (events journal)) journal))) waits)
  where
    is-zero : (k : ℕ) → k ≡ 0 → (k == 0) ≡ true
    is-zero k e = rw e refl

    t : Stands size c.held (history n journal) (given n) (taken n)
    t = stands-by size journal given taken channels s n c at

    here : history n journal ≡ life n (lives n (events journal)) journal
    here = rw above (ap (λ (k : ℕ). life n k journal) (rw live refl))

    waits : length (waiting Side.Sent (life n (lives n (events journal)) journal)) ≡ 0
    waits =
        ap (λ (past : List Item). length (waiting Side.Sent past)) (sym here)
        ∙ (let is : c.held.life.sent.waiting ≡ length (waiting Side.Sent (history n journal)) = ap (λ (k : KeptOf). k.waiting) t.held.exchange.sent in
        let a = t.held.sums.asked in let b = t.held.sums.replied in omega (arith, none, is, a, b))

all-true : (test : Turn → Bool) (turns : List Turn) → ((t : Turn) → test t ≡ true) → list_all test turns ≡ true
all-true test [] every = refl
all-true test (t ∷ turns) every = rw (every t) (all-true test turns every)

none-started : (ns : List ℕ) (form : Option Form) → ((k : ℕ) → is_close_of k form ≡ false) → list_any (λ (k : ℕ). is_close_of k form) ns ≡ false
none-started [] form none = refl
none-started (k ∷ ns) form none = rw (none k) (none-started ns form none)

pub append-all : (test : ℕ → Bool) (ns : List ℕ) (n : ℕ) → list_all test ns ≡ true → test n ≡ true → list_all test (ns ++ n ∷ []) ≡ true
append-all test [] n all e = rw e refl
append-all test (k ∷ ns) n all e = rw (both-one (test k) _ all, append-all test ns n (both-two (test k) _ all) e) refl

pub append-apart : (ns : List ℕ) (n : ℕ) → AreApart ns → list_any (λ (k : ℕ). k == n) ns ≡ false → AreApart (ns ++ n ∷ [])
append-apart [] n apart e = (refl, tt)
append-apart (k ∷ ns) n apart e = (more, append-apart ns n apart.1 (or-two (k == n) _ e))
  where
    last : (xs : List ℕ) → list_any (λ (x : ℕ). x == k) xs ≡ false → (n == k) ≡ false → list_any (λ (x : ℕ). x == k) (xs ++ n ∷ []) ≡ false
    last [] none f = rw f refl
    last (x ∷ xs) none f = rw (or-one (x == k) _ none) (last xs (or-two (x == k) _ none) f)

    turned : (x y : ℕ) → (x == y) ≡ false → (y == x) ≡ false
    turned x y e = grind (arith, nat_tests)

    more : list_any (λ (x : ℕ). x == k) (ns ++ n ∷ []) ≡ false
    more = last ns apart.0 (turned k n (or-one (k == n) _ e))

module _ (terms : Terms) (journal : List Item) (kinds : List Kind) (asks : ℕ → ℕ) (m new : Managed) (r : AreReady terms journal kinds asks m) (kept : Kept)
    (acts : new.acts.requests ≡ kept ∷ m.acts.requests) (mine : new.mine.requests ≡ m.mine.requests) (theirs : new.theirs ≡ m.theirs) (answers : new.answers ≡ m.answers)
    (granted : new.granted ≡ m.granted) (count : length (request_kinds kinds) ≡ length m.acts.requests)
    (replies : length (reply_kinds kinds) + length m.answers ≡ length m.theirs.requests)
    (within : length (requests Side.Sent (zero_history journal)) ≤ length (all_asked journal m)) (kinds-new : List Kind) (kinds-are : kinds-new ≡ kinds ++ Kind.Msg ∷ []) where
  enough : length (reply_kinds kinds) ≤ length m.theirs.requests
  enough = omega (arith, replies)

  was-staying : (is_leaving m.mine.requests || is_leaving m.acts.requests) ≡ false → is_close_of 0 kept.said ≡ false → (is_leaving new.mine.requests || is_leaving new.acts.requests) ≡ false
  was-staying staying other =
      ap (λ (l : List Kept). is_leaving l || is_leaving new.acts.requests) mine ∙ ap (λ (l : List Kept). is_leaving m.mine.requests || is_leaving l) acts
      ∙ ap (λ (b : Bool). is_leaving m.mine.requests || (b || is_leaving m.acts.requests)) other ∙ staying

  -- ---- a start

  pub start-given : (n : ℕ) (server : Option (List ℕ)) (profiles : List PlainProfile) (channel : Live) → kept.said ≡ Some (start n server profiles) → kept.names ≡ false
      → channel.held.number ≡ n → new.starting ≡ m.starting ++ channel ∷ [] → may_start terms.role n ≡ true → is_live n (events journal) ≡ false
      → list_any (λ (k : ℕ). k == n) (numbers_of m.starting) ≡ false → (is_leaving m.mine.requests || is_leaving m.acts.requests) ≡ false → AreReady terms journal kinds-new asks new
  start-given n server profiles channel is names number starting may dead unused staying =
      act-given terms journal kinds asks m new r kept acts mine theirs answers granted count enough within begins
      (subst (λ (o : Option Form). WasIdle journal (length (asked Side.Sent (zero_history journal)) + length m.acts.requests) o) (sym is) tt)
      (names ∙ ap (names_one (λ (k : ℕ). is_live k (events journal))) (sym is))
      (all-true (λ (t : Turn). may_precede t (asks_turn kept.said)) (turns kinds (reverse m.acts.requests) (reverse m.theirs.requests)) (λ t. ap not (no-close t)))
      (λ k closes. absurd (let g : true ≡ false = sym closes ∙ never k in cc))
      (λ k above closes. absurd (let g : true ≡ false = sym (both-one (is_close_of k kept.said) _ closes) ∙ never k in cc))
      (λ leaves. absurd (let g : true ≡ false = sym leaves ∙ was-staying staying (never 0) in cc))
      kinds-new kinds-are
    where
      never : (k : ℕ) → is_close_of k kept.said ≡ false
      never k = ap (is_close_of k) is

      no-close : (t : Turn) → is_start_for t kept.said ≡ false
      no-close (asks_turn form) = none-started (number_started form) kept.said never
      no-close (answers_turn kind said) = rw (none-started (number_started said) kept.said never) (and-false (same_kind Kind.Rpy kind))

      begins : MayBegin terms.role journal new.starting
      begins =
          let ns : numbers_of new.starting ≡ numbers_of m.starting ++ n ∷ [] =
          ap numbers_of starting ∙ map-append (λ (c : Live). c.held.number) m.starting (channel ∷ []) ∙ ap (λ (k : ℕ). numbers_of m.starting ++ k ∷ []) number in
          record {
            free = subst (λ (l : List ℕ). list_all (is_free terms.role journal) l ≡ true) (sym ns)
                (append-all (is_free terms.role journal) (numbers_of m.starting) n r.starting.free (rw (may, dead) refl));
            apart = subst AreApart (sym ns) (append-apart (numbers_of m.starting) n r.starting.apart unused);
          }

  -- ---- a close

  module _ (size : ℕ) (given : Marks) (spoken prepared : List Spoken) (d : IsManaged size journal given m spoken prepared)
      (unsent-are : kinds ≡ map (λ (one : Spoken). one.kind) (unsent spoken journal)) (starting : new.starting ≡ m.starting) where
    starting-numbers : numbers_of m.starting ≡ numbers_started (reverse m.mine.requests) ++ numbers_started (reverse m.acts.requests)
    starting-numbers =
        fresh-numbers size (numbers_started (reverse m.mine.requests ++ reverse m.acts.requests)) m.starting d.starting
        ∙ started-append (reverse m.mine.requests) (reverse m.acts.requests)

    granted-numbers : numbers_of m.granted ≡ numbers_granted (replies_among (unsent spoken journal) ++ prepared) (reverse m.theirs.requests)
    granted-numbers = fresh-numbers size (numbers_granted (replies_among (unsent spoken journal) ++ prepared) (reverse m.theirs.requests)) m.granted d.granted

    reply-kinds-are : (before : List Kind) (kind : Kind) (after : List Kind) → reply_kinds kinds ≡ before ++ kind ∷ after
        → map (λ (one : Spoken). one.kind) (replies_among (unsent spoken journal) ++ prepared) ≡ before ++ kind ∷ (after ++ map (λ (one : Spoken). one.kind) prepared)
    reply-kinds-are before kind after split =
        map-append (λ (one : Spoken). one.kind) (replies_among (unsent spoken journal)) prepared
        ∙ ap (λ (l : List Kind). l ++ map (λ (one : Spoken). one.kind) prepared) (sym (reply-kinds-map (unsent spoken journal)) ∙ ap reply_kinds (sym unsent-are) ∙ split)
        ∙ append_assoc before (kind ∷ after) (map (λ (one : Spoken). one.kind) prepared)

    started-in : (one : Kept) (before after : List Kept) (n : ℕ) → reverse m.acts.requests ≡ before ++ one ∷ after → list_any (λ (k : ℕ). k == n) (number_started one.said) ≡ true
        → list_any (λ (k : ℕ). k == n) (numbers_of m.starting) ≡ true
    started-in one before after n split e =
        ap (list_any (λ (k : ℕ). k == n)) (starting-numbers ∙ ap (λ (l : List Kept). numbers_started (reverse m.mine.requests) ++ numbers_started l) split)
        ∙ any-right (λ (k : ℕ). k == n) (numbers_started (reverse m.mine.requests)) (numbers_started (before ++ one ∷ after))
        (ap (list_any (λ (k : ℕ). k == n)) (started-append before (one ∷ after))
        ∙ any-right (λ (k : ℕ). k == n) (numbers_started before) (number_started one.said ++ numbers_started after)
        (any-before (λ (k : ℕ). k == n) (number_started one.said) (numbers_started after) e))

    -- before it goes no start or grant of its number, where none of these is to begin
    order-close : (n code : ℕ) (note : List ℕ) → kept.said ≡ Some (close n code note) → list_any (λ (k : ℕ). k == n) (numbers_of m.starting) ≡ false
        → list_any (λ (k : ℕ). k == n) (numbers_of m.granted) ≡ false
        → list_all (λ (t : Turn). may_precede t (asks_turn kept.said)) (turns kinds (reverse m.acts.requests) (reverse m.theirs.requests)) ≡ true
    order-close n code note is no-start no-grant =
        turns-test (λ (t : Turn). may_precede t (asks_turn kept.said)) kinds (reverse m.acts.requests) (reverse m.theirs.requests)
        (omega (arith, count, length-reverse m.acts.requests)) (omega (arith, enough, length-reverse m.theirs.requests)) own theirs-turn
      where
        own : (one : Kept) (before after : List Kept) → reverse m.acts.requests ≡ before ++ one ∷ after → may_precede (asks_turn one.said) (asks_turn kept.said) ≡ true
        own one before after split = ap not (of (is_start_for (asks_turn one.said) kept.said) refl)
          where
            of : (b : Bool) → is_start_for (asks_turn one.said) kept.said ≡ b → b ≡ false
            of false e = refl
            of true e =
                let starts-it = closes-start n code note one.said (sym (ap (λ (o : Option Form). list_any (λ (k : ℕ). is_close_of k o) (number_started one.said)) is) ∙ e) in
                absurd (let g : true ≡ false = sym (started-in one before after n split starts-it) ∙ no-start in cc)

        theirs-turn : (before : List Kind) (kind : Kind) (after : List Kind) (earlier : List Kept) (one : Kept) (later : List Kept) → reply_kinds kinds ≡ before ++ kind ∷ after
            → reverse m.theirs.requests ≡ earlier ++ one ∷ later → length earlier ≡ length before → may_precede (answers_turn kind one.said) (asks_turn kept.said) ≡ true
        theirs-turn before kind after earlier one later split ksplit place = ap not (of (is_start_for (answers_turn kind one.said) kept.said) refl)
          where
            of : (b : Bool) → is_start_for (answers_turn kind one.said) kept.said ≡ b → b ≡ false
            of false e = refl
            of true e =
                let starts-it = closes-start n code note one.said
                (sym (ap (λ (o : Option Form). list_any (λ (k : ℕ). is_close_of k o) (number_started one.said)) is) ∙ both-two (same_kind Kind.Rpy kind) _ e) in
                let among = granted-has n (replies_among (unsent spoken journal) ++ prepared) (reverse m.theirs.requests) before kind (after ++ map (λ (one : Spoken). one.kind) prepared)
                (reply-kinds-are before kind after split) earlier one later ksplit place (both-one (same_kind Kind.Rpy kind) _ e) starts-it in
                absurd (let g : true ≡ false = sym (ap (list_any (λ (k : ℕ). k == n)) granted-numbers ∙ among) ∙ no-grant in cc)

    no-own-start : (n : ℕ) → list_any (λ (k : ℕ). k == n) (numbers_of m.starting) ≡ false → starts n m.mine.requests ≡ false
    no-own-start n none = of (starts n m.mine.requests) refl
      where
        of : (b : Bool) → starts n m.mine.requests ≡ b → b ≡ false
        of false e = refl
        of true e =
            let among = ap (list_any (λ (k : ℕ). k == n)) starting-numbers
            ∙ any-before (λ (k : ℕ). k == n) (numbers_started (reverse m.mine.requests)) (numbers_started (reverse m.acts.requests))
            (started-among n (reverse m.mine.requests) (any-reverse (λ (one : Kept). is_start_of n one.said) m.mine.requests e)) in
            absurd (let g : true ≡ false = sym among ∙ none in cc)

    may-start : MayBegin terms.role journal new.starting
    may-start = subst (λ (l : List Live). MayBegin terms.role journal l) (sym starting) r.starting

    pub close-given : (n code : ℕ) (note : List ℕ) → kept.said ≡ Some (close n code note) → kept.names ≡ true → (n == 0) ≡ false → is_live n (events journal) ≡ true → asks n ≡ 0
        → is_idle (length (asked Side.Sent (zero_history journal)) + length m.acts.requests) n (lives n (events journal)) journal ≡ true → AreReady terms journal kinds-new asks new
    close-given n code note is names above live none idle =
        act-given terms journal kinds asks m new r kept acts mine theirs answers granted count enough within may-start
        (subst (λ (o : Option Form). WasIdle journal place o) (sym is)
        (idle, idle-first place n (lives n (events journal)) journal (omega (arith, within, all)) idle))
        (names ∙ sym (ap (names_one (λ (k : ℕ). is_live k (events journal))) is ∙ rw (positive n above, live) refl))
        (order-close n code note is no-start no-grant)
        (λ k closes. no-own-start k (subst (λ (j : ℕ). list_any (λ (x : ℕ). x == j) (numbers_of m.starting) ≡ false) (equal-number n k (sym (ap (is_close_of k) is) ∙ closes)) no-start))
        (λ k apart closes. subst (λ (j : ℕ). asks j ≡ 0) (equal-number n k (sym (ap (is_close_of k) is) ∙ both-one (is_close_of k kept.said) _ closes)) none)
        (λ leaves. absurd (let g : true ≡ false = sym leaves ∙ was-staying staying (ap (is_close_of 0) is ∙ above) in cc))
        kinds-new kinds-are
      where
        place : ℕ
        place = length (asked Side.Sent (zero_history journal)) + length m.acts.requests

        all : length (all_asked journal m) ≡ length m.acts.requests + length (asked Side.Sent (zero_history journal))
        all =
            length-append (map (λ (one : Kept). one.said) m.acts.requests) (asked Side.Sent (zero_history journal))
            ∙ ap (λ (k : ℕ). k + length (asked Side.Sent (zero_history journal))) (length-map m.acts.requests (λ (one : Kept). one.said))

        positive : (n : ℕ) → (n == 0) ≡ false → nat_lt 0 n ≡ true
        positive n e = grind (arith, nat_tests)

        no-start : list_any (λ (k : ℕ). k == n) (numbers_of m.starting) ≡ false
        no-start = none-live terms.role journal n (numbers_of m.starting) r.starting.free live

        no-grant : list_any (λ (k : ℕ). k == n) (numbers_of m.granted) ≡ false
        no-grant = none-live (other_role terms.role) journal n (numbers_of m.granted) r.granted.free live

        staying : (is_leaving m.mine.requests || is_leaving m.acts.requests) ≡ false
        staying = of (is_leaving m.mine.requests || is_leaving m.acts.requests) refl
          where
            of : (b : Bool) → (is_leaving m.mine.requests || is_leaving m.acts.requests) ≡ b → b ≡ false
            of false e = refl
            of true e = absurd (let g : true ≡ false = sym (rw (above, live) refl) ∙ (r.leaving e).none n above in cc)

    -- ---- a release

    pub release-given : (code : ℕ) (note : List ℕ) → kept.said ≡ Some (close 0 code note) → kept.names ≡ false → length m.mine.requests ≡ 0 → length m.acts.requests ≡ 0
        → m.starting ≡ [] → m.granted ≡ [] → ((n : ℕ) → (n == 0) ≡ false → is_there n journal ≡ false) → AreReady terms journal kinds-new asks new
    release-given code note is names no-mine no-acts no-start no-grant none =
        act-given terms journal kinds asks m new r kept acts mine theirs answers granted count enough within may-start
        (subst (λ (o : Option Form). WasIdle journal (length (asked Side.Sent (zero_history journal)) + length m.acts.requests) o) (sym is)
        (subst (λ (p : ℕ). (is_idle p 0 (lives 0 (events journal)) journal ≡ true) × (was_idle_since p 0 (lives 0 (events journal)) journal ≡ true)) (omega (arith, no-acts))
        (idle, idle-first (length (asked Side.Sent (zero_history journal))) 0 (lives 0 (events journal)) journal (omega (arith, within, all, no-acts)) idle)))
        (names ∙ sym (ap (names_one (λ (k : ℕ). is_live k (events journal))) is))
        (order-close 0 code note is (ap (λ (l : List Live). list_any (λ (k : ℕ). k == 0) (numbers_of l)) no-start) (ap (λ (l : List Live). list_any (λ (k : ℕ). k == 0) (numbers_of l)) no-grant))
        (λ k closes. none-of k m.mine.requests no-mine)
        (λ k apart closes. absurd (let here : (0 == k) ≡ true = sym (ap (is_close_of k) is) ∙ both-one (is_close_of k kept.said) _ closes in
        let g : true ≡ false = sym (zero-is k here) ∙ apart in cc))
        (λ leaves. record {
          alone = omega (arith, ap length mine, ap length acts, no-mine, no-acts);
          starting = starting ∙ no-start;
          granted = granted ∙ no-grant;
          none = none;
        })
        kinds-new kinds-are
      where
        idle : is_idle (length (asked Side.Sent (zero_history journal))) 0 (lives 0 (events journal)) journal ≡ true
        idle = idle-zero (lives 0 (events journal)) journal m.mine.requests d.mine no-mine

        all : length (all_asked journal m) ≡ length m.acts.requests + length (asked Side.Sent (zero_history journal))
        all =
            length-append (map (λ (one : Kept). one.said) m.acts.requests) (asked Side.Sent (zero_history journal))
            ∙ ap (λ (k : ℕ). k + length (asked Side.Sent (zero_history journal))) (length-map m.acts.requests (λ (one : Kept). one.said))

        none-of : (k : ℕ) (others : List Kept) → length others ≡ 0 → starts k others ≡ false
        none-of k [] e = refl
        none-of k (one ∷ others) e = absurd (omega (arith, e))

        zero-is : (k : ℕ) → (0 == k) ≡ true → (k == 0) ≡ true
        zero-is k e = grind (arith, nat_tests)
