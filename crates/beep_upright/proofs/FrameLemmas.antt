-- A whole frame that goes out is lawful.
use Rattle.std.proofs.Common.{◌≡◌, ℕ, suc, ◌+◌, ◌-◌, ◌≤◌, ◌==◌, nat_lt, Bool, true, false, not, ◌&&◌, ◌||◌, if◌then◌else◌, List, [], ◌∷◌, ◌++◌, length, length-append, map, drop, reverse, Option, None, Some, is_some, refl, sym, ap, ◌∙◌, arith, subst}
use Rattle.std.specs.List.{list_any, list_all}
use Rattle.std.proofs.lemmas.Bool.Decides.{nat_tests}
use Rattle.beep_management.specs.beep_frame.specs.declared.head.Head.{Head}
use Rattle.beep_management.specs.beep_frame.specs.declared.kind.Kind.{Kind}
use Rattle.beep_management.specs.beep_frame.specs.declared.rule.Rule.{Rule}
use Rattle.beep_management.specs.beep_frame.specs.Frame.{is_msg, is_ans, is_reply, same_kind}
use Rattle.beep_management.specs.beep_mgmt.specs.Form.{Form, greeting, start, chosen, close, okay, fault}
use Rattle.beep_management.specs.beep_mgmt.specs.Message.{message_said}
use Rattle.beep_management.specs.beep_history.specs.declared.journal.Side.{Side}
use Rattle.beep_management.specs.beep_history.specs.Journal.{Item, began, passed}
use Rattle.beep_management.specs.beep_history.specs.Marks.{Request, requests, is_whole, position_of, previous}
use Rattle.beep_management.specs.beep_history.specs.Broken.{under_way, KeepsExchangeRules}
use Rattle.beep_management.specs.beep_history.proofs.SoundLemmas.{IsDue, Sound, is_open}
use Rattle.beep_management.specs.beep_history.proofs.PassedLemmas.{sound}
use Rattle.beep_management.specs.beep_outbox.specs.Queue.{Message, marks_of}
use Rattle.beep_management.specs.beep_journal.specs.Lives.{Event, is_live, lives, life_named, has_release}
use Rattle.beep_management.specs.beep_journal.specs.Zero.{zero_history, gathered, asked, said_to, completes_form, events}
use Rattle.beep_management.specs.beep_journal.specs.Life.{is_released}
use Rattle.beep_management.specs.beep_journal.specs.Laws.{contents}
use Rattle.beep_management.specs.beep_journal.specs.Broken.{none_tunes, broken_content}
use Rattle.beep_management.specs.beep_journal.proofs.JournalLemmas.{began-events}
use Rattle.beep_management.specs.beep_channel.specs.Held.{Live, queue_ready, next_size, head_from}
use Rattle.beep_management.specs.beep_lives.specs.Edits.{Edits, Sends}
use Rattle.beep_management.specs.beep_decide.specs.Asks.{is_start_of, is_close_of, has_own_start, has_own_release}
use Rattle.beep_management.specs.beep_decide.specs.Numbers.{other_role, may_start}
use Rattle.beep_lawful.specs.declared.breach.Breach.{Breach}
use Rattle.beep_lawful.specs.declared.terms.Terms.{Terms}
use Rattle.beep_lawful.specs.Closing.{was_quiet_since, was_idle_since}
use Rattle.beep_lawful.specs.Lawful.{breaks_content, request_said, granted_said, granted_position, breaks_ok_too_soon, breaks_close_unanswered, breaks_after_end, breaks_start_number, breaks_grant_number, breaks_close_starting, breaks_asked_drained, first_breach, unlawful_frame}
use Rattle.beep_management.specs.beep_standing.specs.Standing.{Marks, AreLiveBy}
use Rattle.beep_management.specs.beep_standing.proofs.SendLemmas.{sent-zero-joins}
use Rattle.beep_management.specs.beep_spoken.specs.Spoken.{Spoken, IsSaid}
use Rattle.beep_management.specs.beep_spoken.proofs.SpokenLemmas.{next-said}
use Rattle.beep_management.specs.beep_asked.specs.Kept.{Kept, fits, starts, is_leaving}
use Rattle.beep_management.specs.beep_asked.specs.Asked.{AreWaiting, EndsReply}
use Rattle.beep_management.specs.beep_asked.proofs.QueueLemmas.{due-of}
use Rattle.beep_management.specs.beep_asked.proofs.LawsLemmas.{header-leaves, reply-said, reply-form}
use Rattle.beep_management.specs.Managed.{Managed, number_started, numbers_started, numbers_granted, numbers_of, requests_among, replies_among}
use Rattle.beep_management.specs.Manages.{unsent, AreActs, AllFit, AreFresh, IsManaged}
use Rattle.beep_management.proofs.ListLemmas.{reverse-first, drop-at, started-append, plain-at, request-first, reply-first}
use Rattle.beep_management.proofs.SentLemmas.{HasZero, has-zero}
use Rattle.beep_upright.specs.Upright.{asked_at, is_free, AreApart, WasIdle, AreIdle, all_asked, WasQuiet, IsLetGo, AreAnswered, place_of, IsUpright}
use Rattle.beep_upright.proofs.TestLemmas.{both-one, both-two, and-false, or-true, not-true, same-number, equal-number, goes-on, at-once}
use Rattle.beep_upright.proofs.ClosingLemmas.{quiet-on, quiet-ready, quiet-same, none-begins, idle-on}
use Rattle.beep_upright.proofs.WaitingLemmas.{own-start, own-release}
use Rattle.beep_upright.proofs.NextLemmas.{oldest-first}
use Rattle.beep_upright.proofs.HeadLemmas.{next, zero-keeps, zero-kinds}
use Rattle.beep_upright.specs.Turns.{kinds_at, reply_kinds}

-- ---- numbers

pub fresh-numbers : (size : ℕ) (ns : List ℕ) (channels : List Live) → AreFresh size ns channels → numbers_of channels ≡ ns
fresh-numbers size [] [] fresh = refl
fresh-numbers size [] (c ∷ channels) fresh = absurd fresh
fresh-numbers size (n ∷ ns) [] fresh = absurd fresh
fresh-numbers size (n ∷ ns) (c ∷ channels) fresh =
    ap (λ (k : ℕ). k ∷ numbers_of channels) fresh.0.is ∙ ap (λ (ks : List ℕ). n ∷ ks) (fresh-numbers size ns channels fresh.1)

pub all-at : (test : ℕ → Bool) (before : List ℕ) (n : ℕ) (after : List ℕ) → list_all test (before ++ n ∷ after) ≡ true → test n ≡ true
all-at test [] n after all = both-one (test n) (list_all test after) all
all-at test (x ∷ before) n after all = all-at test before n after (both-two (test x) (list_all test (before ++ n ∷ after)) all)

pub any-append : (n : ℕ) (before : List ℕ) (after : List ℕ) → list_any (λ other. other == n) (before ++ n ∷ after) ≡ true
any-append n [] after = rw (same-number n) refl
any-append n (x ∷ before) after = rw (any-append n before after) (or-true (x == n))

-- a number that stands among the first doesn't stand after them
pub apart-at : (before : List ℕ) (n : ℕ) (after : List ℕ) → AreApart (before ++ n ∷ after) → list_any (λ other. other == n) before ≡ false
apart-at [] n after apart = refl
apart-at (x ∷ before) n after apart = of (x == n) refl (apart-at before n after apart.1)
  where
    of : (b : Bool) → (x == n) ≡ b → list_any (λ other. other == n) before ≡ false → (b || list_any (λ other. other == n) before) ≡ false
    of false e rest = rest
    of true e rest =
        let here : list_any (λ other. other == x) (before ++ n ∷ after) ≡ true =
        subst (λ (k : ℕ). list_any (λ other. other == k) (before ++ n ∷ after) ≡ true) (sym (equal-number x n e)) (any-append n before after) in
        absurd (let g : true ≡ false = sym here ∙ apart.0 in cc)

-- a start of a number among requests
pub started-of : (n : ℕ) (form : Option Form) → is_start_of n form ≡ true → list_any (λ other. other == n) (number_started form) ≡ true
started-of n None e = cc
started-of n (Some (greeting features localize profiles)) e = cc
started-of n (Some (start number server profiles)) e = rw e refl
started-of n (Some (chosen profile)) e = cc
started-of n (Some (close number code note)) e = cc
started-of n (Some okay) e = cc
started-of n (Some (fault code note)) e = cc

pub any-before : {X : Type 0} (test : X → Bool) (xs ys : List X) → list_any test xs ≡ true → list_any test (xs ++ ys) ≡ true
any-before test [] ys e = cc
any-before test (x ∷ xs) ys e = of (test x) e (any-before test xs ys)
  where
    of : (b : Bool) → (b || list_any test xs) ≡ true → (list_any test xs ≡ true → list_any test (xs ++ ys) ≡ true) → (b || list_any test (xs ++ ys)) ≡ true
    of true e later = refl
    of false e later = later e

pub any-right : (test : ℕ → Bool) (xs ys : List ℕ) → list_any test ys ≡ true → list_any test (xs ++ ys) ≡ true
any-right test [] ys e = e
any-right test (x ∷ xs) ys e = rw (any-right test xs ys e) (or-true (test x))

pub started-among : (n : ℕ) (requests : List Kept) → starts n requests ≡ true → list_any (λ other. other == n) (numbers_started requests) ≡ true
started-among n [] e = cc
started-among n (kept ∷ requests) e = of (is_start_of n kept.said) refl e (started-among n requests)
  where
    of : (b : Bool) → is_start_of n kept.said ≡ b → (b || starts n requests) ≡ true
        → (starts n requests ≡ true → list_any (λ other. other == n) (numbers_started requests) ≡ true)
        → list_any (λ other. other == n) (number_started kept.said ++ numbers_started requests) ≡ true
    of true is e later = any-before (λ other. other == n) (number_started kept.said) (numbers_started requests) (started-of n kept.said is)
    of false is e later = any-right (λ other. other == n) (number_started kept.said) (numbers_started requests) (later e)

pub any-last : {X : Type 0} (test : X → Bool) (xs : List X) (x : X) → test x ≡ true → list_any test (xs ++ x ∷ []) ≡ true
any-last test [] x e = rw e refl
any-last test (y ∷ xs) x e = rw (any-last test xs x e) (or-true (test y))

pub any-reverse : {X : Type 0} (test : X → Bool) (xs : List X) → list_any test xs ≡ true → list_any test (reverse xs) ≡ true
any-reverse {X = X} test [] e = cc
any-reverse {X = X} test (x ∷ xs) e = subst (λ (l : List X). list_any test l ≡ true) (sym (reverse-first x xs)) (of (test x) refl e (any-reverse test xs))
  where
    of : (b : Bool) → test x ≡ b → (b || list_any test xs) ≡ true → (list_any test xs ≡ true → list_any test (reverse xs) ≡ true)
        → list_any test (reverse xs ++ x ∷ []) ≡ true
    of true is e later = any-last test (reverse xs) x is
    of false is e later = any-before test (reverse xs) (x ∷ []) (later e)

-- ---- the tests on content

tests-none : (a b c d e f g : Bool) → a ≡ false → b ≡ false → c ≡ false → d ≡ false → e ≡ false → f ≡ false → g ≡ false → (x y : Bool) → x ≡ false → y ≡ false
    → first_breach ((Breach.Apart, x) ∷ (Breach.Rule, y) ∷ (Breach.OkTooSoon, a) ∷ (Breach.CloseUnanswered, b) ∷ (Breach.AfterEnd, c) ∷ (Breach.StartNumber, d)
    ∷ (Breach.GrantNumber, e) ∷ (Breach.CloseStarting, f) ∷ (Breach.AskedDrained, g) ∷ []) ≡ None
tests-none a b c d e f g p q r s t u v x y w z = rw (w, z, p, q, r, s, t, u, v) refl

-- ---- a frame

-- the kinds of the messages after the first
abbrev kinds-after : List Message → List Kind
kinds-after [] = []
kinds-after (m ∷ ms) = map (λ (m : Message). m.tag.kind) ms

module _ (terms : Terms) (most : ℕ) (journal : List Item) (given taken : Marks) (old new : List Live) (head : Head) (payload : List ℕ) (m : Managed)
    (s : AreLiveBy terms.window journal given taken old) (e : Edits head.channel (Sends most head payload) old new) (spoken prepared : List Spoken)
    (d : IsManaged terms.window journal given m spoken prepared) (u : IsUpright terms journal old m) where
  abbrev begun : List Item
  begun = began Side.Sent head ∷ journal

  abbrev whole : List Item
  whole = passed Side.Sent head payload ∷ began Side.Sent head ∷ journal

  begun-same : events (began Side.Sent head ∷ journal) ≡ events journal
  begun-same = began-events Side.Sent head journal

  sized : length payload ≡ head.size
  sized = (next terms most journal given taken old new head payload m s e spoken prepared d u).sized

  -- the tests that say nothing of its content
  module _ (going : is_released journal ≡ false) where
    goes : breaks_after_end none_tunes begun ≡ false
    goes = goes-on begun (ap has_release begun-same ∙ going)

    by-content : breaks_content begun head payload ≡ false → (asks grants : Option Form) (position : ℕ)
        → request_said begun head payload ≡ asks → granted_said begun head ≡ grants → granted_position begun head ≡ position
        → breaks_ok_too_soon begun position grants ≡ false → breaks_close_unanswered begun asks ≡ false
        → breaks_start_number terms.role begun asks ≡ false → breaks_grant_number terms.role begun grants ≡ false
        → breaks_close_starting begun asks ≡ false → breaks_asked_drained begun position grants ≡ false
        → unlawful_frame terms none_tunes begun head payload ≡ None
    unfolding unlawful_frame
    by-content content asks grants position is-asks is-grants is-position ok unanswered number grant starting drained =
        tests-none _ _ _ _ _ _ _
        (ap (λ (q : ℕ). breaks_ok_too_soon begun q (granted_said begun head)) is-position ∙ ap (breaks_ok_too_soon begun position) is-grants ∙ ok)
        (ap (breaks_close_unanswered begun) is-asks ∙ unanswered) goes
        (ap (breaks_start_number terms.role begun) is-asks ∙ number)
        (ap (breaks_grant_number terms.role begun) is-grants ∙ grant)
        (ap (breaks_close_starting begun) is-asks ∙ starting)
        (ap (λ (q : ℕ). breaks_asked_drained begun q (granted_said begun head)) is-position ∙ ap (breaks_asked_drained begun position) is-grants ∙ drained)
        _ _ (at-once journal head payload sized) content

    -- a frame that ends no message of channel zero asks and grants nothing
    nothing-said : breaks_content begun head payload ≡ false → request_said begun head payload ≡ None → granted_said begun head ≡ None
        → unlawful_frame terms none_tunes begun head payload ≡ None
    nothing-said content asks grants = by-content content None None (granted_position begun head) asks grants refl refl refl refl refl refl refl

    no-content : (head.channel == 0) ≡ false → breaks_content begun head payload ≡ false
    unfolding broken_content
    no-content above = rw above refl

    pub above-lawful : (head.channel == 0) ≡ false → unlawful_frame terms none_tunes begun head payload ≡ None
    above-lawful above = nothing-said (no-content above) (rw above refl) (rw above refl)

    part-content : head.more ≡ true → breaks_content begun head payload ≡ false
    unfolding broken_content
    part-content part = rw (part, and-false (head.channel == 0 && is_reply head.kind)) refl

    pub part-lawful : head.more ≡ true → unlawful_frame terms none_tunes begun head payload ≡ None
    part-lawful part =
        nothing-said (part-content part)
        (rw (part, and-false (head.channel == 0 && is_msg head.kind)) refl)
        (rw (part, and-false (head.channel == 0 && same_kind Kind.Rpy head.kind)) refl)

    -- ---- the last frame of a message of channel zero

    module _ (zero : (head.channel == 0) ≡ true) (last : head.more ≡ false) where
      zero-begun : zero_history (began Side.Sent head ∷ journal) ≡ began Side.Sent head ∷ zero_history journal
      zero-begun = rw zero refl

      stood : HasZero terms.window whole given taken
      stood =
          has-zero terms.window begun whole given taken new
          (sent-zero-joins terms.window most journal given taken old new head payload s e zero)

      keeps : KeepsExchangeRules (zero_history whole)
      keeps = stood.stands.held.exchange.unbroken

      zero-whole : zero_history whole ≡ passed Side.Sent head payload ∷ zero_history (began Side.Sent head ∷ journal)
      zero-whole = rw zero refl

      keeps-both : KeepsExchangeRules (passed Side.Sent head payload ∷ zero_history (began Side.Sent head ∷ journal))
      keeps-both = subst KeepsExchangeRules zero-whole keeps

      said : IsSaid spoken (length (contents Side.Sent (began Side.Sent head ∷ journal))) head.kind (gathered Side.Sent (zero_history (began Side.Sent head ∷ journal)) ++ payload)
      said = next-said spoken (given 0) (marks_of stood.channel.held.queue) begun head payload keeps d.spoken_is stood.stands.all_given zero last

      same-contents : length (contents Side.Sent (began Side.Sent head ∷ journal)) ≡ length (contents Side.Sent journal)
      same-contents = of (head.channel == 0)
        where
          of : (b : Bool) → length (if b then contents Side.Sent journal ++ [] else contents Side.Sent journal) ≡ length (contents Side.Sent journal)
          of true = length-append (contents Side.Sent journal) [] ∙ omega arith
          of false = refl

      abbrev others : List Spoken
      others = drop (suc (length (contents Side.Sent (began Side.Sent head ∷ journal)))) spoken

      unsent-is : unsent spoken journal ≡ said.one ∷ others
      unsent-is =
          ap (λ (n : ℕ). drop n spoken) (sym same-contents)
          ∙ drop-at spoken (length (contents Side.Sent (began Side.Sent head ∷ journal))) said.one said.at

      asked-begun : (side : Side) → asked side (zero_history (began Side.Sent head ∷ journal)) ≡ asked side (zero_history journal)
      asked-begun side = ap (asked side) zero-begun

      waits-begun : (side : Side) (requests : List Kept) → AreWaiting side (zero_history journal) requests → AreWaiting side (zero_history (began Side.Sent head ∷ journal)) requests
      waits-begun side requests w =
          subst (λ (z : List Item). AreWaiting side z requests) (sym zero-begun) (header-leaves side Side.Sent head (zero_history journal) requests w)

      -- ---- a request

      module _ (request : is_msg head.kind ≡ true) where
        one-asks : is_msg said.one.kind ≡ true
        one-asks = ap is_msg (sym said.kind_is) ∙ request

        acts-then : AreActs (said.one ∷ requests_among others) (reverse m.acts.requests)
        acts-then =
            subst (λ (l : List Spoken). AreActs l (reverse m.acts.requests)) (ap requests_among unsent-is ∙ request-first said.one others one-asks) d.acts

        -- what is kept of it
        record IsAct : Type 0 where
          kept : Kept
          rest : List Kept
          is : reverse m.acts.requests ≡ kept ∷ rest
          says : kept.said ≡ Some said.one.form

        act : IsAct
        act = of (reverse m.acts.requests) refl acts-then
          where
            of : (requests : List Kept) → reverse m.acts.requests ≡ requests → AreActs (said.one ∷ requests_among others) requests → IsAct
            of [] is a = absurd a
            of (kept ∷ rest) is a = record { kept = kept; rest = rest; is = is; says = a.0 }

        idle : WasIdle journal (length (asked Side.Sent (zero_history journal))) act.kept.said
        idle = (subst (λ (l : List Kept). AreIdle journal (length (asked Side.Sent (zero_history journal))) l) act.is u.acts).0

        begun-asked : length (asked Side.Sent (zero_history journal)) ≤ length (requests Side.Sent (zero_history journal))
        begun-asked = of (length (asked Side.Sent (zero_history journal))) (length (requests Side.Sent (zero_history journal))) _
            (λ p. sym (d.mine.whole p) ∙ (sound Side.Sent (zero_history journal) (zero-keeps terms most journal given taken old new head payload m s e spoken prepared d u zero)).whole p)
          where
            of : (a r o : ℕ) → ((p : ℕ) → nat_lt p a ≡ nat_lt (p + o) r) → a ≤ r
            of a r o same = let x : nat_lt (a - 1) a ≡ nat_lt (a - 1 + o) r = same (a - 1) in grind (arith, nat_tests)

        unanswered : (form : Form) → said.one.form ≡ form → breaks_close_unanswered begun (Some form) ≡ false
        unanswered (greeting features localize profiles) is = refl
        unanswered (start number server profiles) is = refl
        unanswered (chosen profile) is = refl
        unanswered okay is = refl
        unanswered (fault code note) is = refl
        unanswered (close number code note) is =
            let w = subst (λ (o : Option Form). WasIdle journal (length (asked Side.Sent (zero_history journal))) o) (act.says ∙ ap (λ (f : Form). Some f) is) idle in
            let on : was_idle_since (length (asked Side.Sent (zero_history journal))) number (lives number (events journal)) begun ≡ true =
            idle-on (length (asked Side.Sent (zero_history journal))) head journal zero begun-asked number (lives number (events journal)) w.0 w.1 in
            ap not
            (ap (λ (forms : List (Option Form)). was_idle_since (length forms) number (lives number (events begun)) begun) (asked-begun Side.Sent)
            ∙ ap (λ (es : List Event). was_idle_since (length (asked Side.Sent (zero_history journal))) number (lives number es) begun) begun-same ∙ on)

        numbers-split : numbers_of m.starting
            ≡ numbers_started (reverse m.mine.requests) ++ (number_started act.kept.said ++ numbers_started act.rest)
        numbers-split =
            fresh-numbers terms.window (numbers_started (reverse m.mine.requests ++ reverse m.acts.requests)) m.starting d.starting
            ∙ started-append (reverse m.mine.requests) (reverse m.acts.requests)
            ∙ ap (λ (l : List Kept). numbers_started (reverse m.mine.requests) ++ numbers_started l) act.is

        right-number : (form : Form) → said.one.form ≡ form → breaks_start_number terms.role begun (Some form) ≡ false
        right-number (greeting features localize profiles) is = refl
        right-number (close number code note) is = refl
        right-number (chosen profile) is = refl
        right-number okay is = refl
        right-number (fault code note) is = refl
        right-number (start number server profiles) is =
            let here : numbers_of m.starting ≡ numbers_started (reverse m.mine.requests) ++ number ∷ numbers_started act.rest =
            numbers-split ∙ ap (λ (o : Option Form). numbers_started (reverse m.mine.requests) ++ (number_started o ++ numbers_started act.rest))
            (act.says ∙ ap (λ (f : Form). Some f) is) in
            let free : is_free terms.role journal number ≡ true =
            all-at (is_free terms.role journal) (numbers_started (reverse m.mine.requests)) number (numbers_started act.rest)
            (subst (λ (ns : List ℕ). list_all (is_free terms.role journal) ns ≡ true) here u.starting.free) in
            let apart : list_any (λ other. other == number) (numbers_started (reverse m.mine.requests)) ≡ false =
            apart-at (numbers_started (reverse m.mine.requests)) number (numbers_started act.rest) (subst AreApart here u.starting.apart) in
            let may : may_start terms.role number ≡ true = both-one _ _ free in
            let dead : is_live number (events begun) ≡ false = ap (λ (es : List Event). is_live number es) begun-same ∙ not-true _ (both-two (may_start terms.role number) _ free) in
            rw (may, dead) (none (has_own_start number begun) refl apart)
          where
            none : (b : Bool) → has_own_start number begun ≡ b → list_any (λ other. other == number) (numbers_started (reverse m.mine.requests)) ≡ false → b ≡ false
            none false waits apart = refl
            none true waits apart =
                let mine : starts number m.mine.requests ≡ true = own-start begun m.mine.requests (waits-begun Side.Sent m.mine.requests d.mine) number waits in
                let among = started-among number (reverse m.mine.requests) (any-reverse (λ kept. is_start_of number kept.said) m.mine.requests mine) in
                absurd (let g : true ≡ false = sym among ∙ apart in cc)

        starting : (form : Form) → said.one.form ≡ form → breaks_close_starting begun (Some form) ≡ false
        starting (greeting features localize profiles) is = refl
        starting (start number server profiles) is = refl
        starting (chosen profile) is = refl
        starting okay is = refl
        starting (fault code note) is = refl
        starting (close number code note) is = ap (λ (b : Bool). nat_lt 0 number && b) (none (has_own_start number begun) refl) ∙ and-false (nat_lt 0 number)
          where
            closes-it : list_any (λ kept. is_close_of number kept.said) m.acts.requests ≡ true
            closes-it =
                ap (list_any (λ kept. is_close_of number kept.said)) (oldest-first m.acts.requests act.kept act.rest act.is)
                ∙ any-last (λ kept. is_close_of number kept.said) (reverse act.rest) act.kept
                (ap (is_close_of number) (act.says ∙ ap (λ (f : Form). Some f) is) ∙ same-number number)

            none : (b : Bool) → has_own_start number begun ≡ b → b ≡ false
            none false waits = refl
            none true waits =
                let mine : starts number m.mine.requests ≡ true = own-start begun m.mine.requests (waits-begun Side.Sent m.mine.requests d.mine) number waits in
                absurd (let g : true ≡ false = sym mine ∙ u.unstarted number closes-it in cc)

        request-content : breaks_content begun head payload ≡ false
        unfolding broken_content
        request-content = rw (zero, request) refl

        request-grants : granted_said begun head ≡ None
        request-grants = rw (zero, no-rpy head.kind request) refl
          where
            no-rpy : (kind : Kind) → is_msg kind ≡ true → same_kind Kind.Rpy kind ≡ false
            no-rpy Kind.Msg is = refl
            no-rpy Kind.Rpy is = cc
            no-rpy Kind.Err is = cc
            no-rpy Kind.Ans is = cc
            no-rpy Kind.Nul is = cc

        request-says : request_said begun head payload ≡ Some said.one.form
        request-says = ap (λ (b : Bool). if b then message_said (gathered Side.Sent (zero_history begun) ++ payload) else None) test ∙ said.says
          where
            test : (head.channel == 0 && is_msg head.kind && not head.more) ≡ true
            test = rw (zero, request, last) refl

        pub request-lawful : unlawful_frame terms none_tunes begun head payload ≡ None
        request-lawful =
            by-content request-content (Some said.one.form) None (granted_position begun head) request-says request-grants refl
            refl (unanswered said.one.form refl) (right-number said.one.form refl) refl (starting said.one.form refl) refl

      -- ---- a reply

      module _ (reply : is_msg head.kind ≡ false) where
        one-answers : is_msg said.one.kind ≡ false
        one-answers = ap is_msg (sym said.kind_is) ∙ reply

        replies-then : replies_among (unsent spoken journal) ≡ said.one ∷ replies_among others
        replies-then = ap replies_among unsent-is ∙ reply-first said.one others one-answers

        fit-then : AllFit (said.one ∷ (replies_among others ++ prepared)) (reverse m.theirs.requests)
        fit-then = subst (λ (l : List Spoken). AllFit (l ++ prepared) (reverse m.theirs.requests)) replies-then d.fit

        -- the request that it answers
        record IsAnswered : Type 0 where
          kept : Kept
          rest : List Kept
          is : reverse m.theirs.requests ≡ kept ∷ rest
          fit : fits said.one.kind (Some said.one.form) kept ≡ true

        answered : IsAnswered
        answered = of (reverse m.theirs.requests) refl fit-then
          where
            of : (requests : List Kept) → reverse m.theirs.requests ≡ requests → AllFit (said.one ∷ (replies_among others ++ prepared)) requests → IsAnswered
            of [] is a = absurd a
            of (kept ∷ rest) is a = record { kept = kept; rest = rest; is = is; fit = a.0 }

        later : List Kept
        later = reverse answered.rest

        split : m.theirs.requests ≡ reverse answered.rest ++ answered.kept ∷ []
        split = oldest-first m.theirs.requests answered.kept answered.rest answered.is

        ends : EndsReply Side.Sent head (zero_history (began Side.Sent head ∷ journal))
        ends = record {
          keeps = keeps-both.2;
          under = keeps-both.0;
          last = last;
          reply = ap not reply;
          alone = ap is_ans said.kind_is ∙ plain-at spoken (length (contents Side.Sent (began Side.Sent head ∷ journal))) said.one d.plain said.at;
        }

        waited : AreWaiting Side.Received (zero_history (began Side.Sent head ∷ journal)) (reverse answered.rest ++ answered.kept ∷ [])
        waited =
            subst (λ (l : List Kept). AreWaiting Side.Received (zero_history (began Side.Sent head ∷ journal)) l) split
            (waits-begun Side.Received m.theirs.requests d.theirs)

        completes : completes_form Side.Sent head payload (zero_history begun) ≡ true
        completes =
            reply-form Side.Sent head payload (zero_history (began Side.Sent head ∷ journal)) ends (reverse answered.rest) answered.kept waited
            ∙ ap (λ (k : Kind). fits k (message_said (gathered Side.Sent (zero_history (began Side.Sent head ∷ journal)) ++ payload)) answered.kept) said.kind_is
            ∙ ap (λ (o : Option Form). fits said.one.kind o answered.kept) said.says ∙ answered.fit

        reply-content : breaks_content begun head payload ≡ false
        unfolding broken_content
        reply-content =
            ap (λ (b : Bool). is_some {T = Rule} (if (head.channel == 0 && is_reply head.kind && not head.more) && not b then Some Rule.ZeroReply else None)) completes
            ∙ ap (λ (b : Bool). is_some {T = Rule} (if b then Some Rule.ZeroReply else None)) (and-false (head.channel == 0 && is_reply head.kind && not head.more))

        reply-asks : request_said begun head payload ≡ None
        reply-asks = ap (λ (b : Bool). if b then message_said (gathered Side.Sent (zero_history begun) ++ payload) else None) test
          where
            test : (head.channel == 0 && is_msg head.kind && not head.more) ≡ false
            test = rw (zero, reply) refl

        reply-grants : (b : Bool) → same_kind Kind.Rpy head.kind ≡ b → granted_said begun head ≡ (if b then answered.kept.said else None)
        reply-grants b is =
            ap (λ (c : Bool). if c then said_to Side.Sent head (zero_history begun) else None) (test b is)
            ∙ ap (λ (o : Option Form). if b then o else None)
            (reply-said Side.Sent head payload (zero_history (began Side.Sent head ∷ journal)) ends (reverse answered.rest) answered.kept waited)
          where
            and-true : (x : Bool) → (x && true) ≡ x
            and-true true = refl
            and-true false = refl

            test : (b : Bool) → same_kind Kind.Rpy head.kind ≡ b → (head.channel == 0 && same_kind Kind.Rpy head.kind && not head.more) ≡ b
            test b is = rw (zero, last, is) (and-true b)

        -- it names the oldest
        position : granted_position begun head ≡ place_of m.theirs.requests (asked Side.Received (zero_history journal))
        position =
            named-at ∙ place (due.0).oldest (length m.theirs.requests) (length (asked Side.Received (zero_history journal)))
            (λ p. sym ((due.0).answered p) ∙ w.answered p ∙ ap (λ (forms : List (Option Form)). nat_lt (p + length m.theirs.requests) (length forms)) (asked-begun Side.Received))
            (subst (λ (forms : List (Option Form)). length m.theirs.requests ≤ length forms) (asked-begun Side.Received) w.within)
          where
            w : AreWaiting Side.Received (zero_history (began Side.Sent head ∷ journal)) m.theirs.requests
            w = waits-begun Side.Received m.theirs.requests d.theirs

            due : (s : Sound Side.Received (zero_history (began Side.Sent head ∷ journal)))
                × IsDue Side.Received s.oldest (zero_history (began Side.Sent head ∷ journal)) head
            due = due-of Side.Sent (zero_history (began Side.Sent head ∷ journal)) head ends.keeps ends.under ends.reply

            named-at : position_of Side.Sent (zero_history (began Side.Sent head ∷ journal)) head ≡ (due.0).oldest
            named-at = rw (reply, (due.1).found) (due.1).at

            place : (o w a : ℕ) → ((p : ℕ) → nat_lt p o ≡ nat_lt (p + w) a) → w ≤ a → o ≡ a - w
            place o w a same within =
                let x : nat_lt o o ≡ nat_lt (o + w) a = same o in
                let y : nat_lt (o - 1) o ≡ nat_lt (o - 1 + w) a = same (o - 1) in
                grind (arith, nat_tests)

        -- each own request that has begun is whole
        none-partly : length (requests Side.Sent (zero_history journal)) ≤ length (asked Side.Sent (zero_history journal))
        none-partly = of (length (asked Side.Sent (zero_history journal))) (length (requests Side.Sent (zero_history journal)))
            (λ p. sym (d.mine.whole p) ∙ sym (ap (is_whole Side.Sent p) zero-begun) ∙ by-sound p)
          where
            sent : Sound Side.Sent (zero_history (began Side.Sent head ∷ journal))
            sent = sound Side.Sent (zero_history (began Side.Sent head ∷ journal)) ends.keeps

            requests-same : requests Side.Sent (zero_history (began Side.Sent head ∷ journal)) ≡ requests Side.Sent (zero_history journal)
            requests-same = ap (requests Side.Sent) zero-begun ∙ rw reply refl

            closed : is_open (under_way Side.Sent (zero_history (began Side.Sent head ∷ journal))) (previous Side.Sent (zero_history (began Side.Sent head ∷ journal))) ≡ false
            closed = rw (ends.under, reply) (sent.quiet head ends.under reply)

            by-sound : (p : ℕ) → is_whole Side.Sent p (zero_history (began Side.Sent head ∷ journal)) ≡ nat_lt (p + 0) (length (requests Side.Sent (zero_history journal)))
            by-sound p =
                sent.whole p ∙ ap (λ (b : Bool). nat_lt (p + (if b then 1 else 0)) (length (requests Side.Sent (zero_history (began Side.Sent head ∷ journal))))) closed
                ∙ ap (λ (rs : List Request). nat_lt (p + 0) (length rs)) requests-same

            of : (a r : ℕ) → ((p : ℕ) → nat_lt p a ≡ nat_lt (p + 0) r) → r ≤ a
            of a r same = let x : nat_lt (r - 1) a ≡ nat_lt (r - 1 + 0) r = same (r - 1) in grind (arith, nat_tests)

        module _ (rpy : same_kind Kind.Rpy head.kind ≡ true) where
          one-rpy : same_kind Kind.Rpy said.one.kind ≡ true
          one-rpy = ap (same_kind Kind.Rpy) (sym said.kind_is) ∙ rpy

          abbrev place : ℕ
          place = place_of m.theirs.requests (asked Side.Received (zero_history journal))

          -- the first of the replies that aren't sent is of its kind
          first-reply : reply_kinds (kinds_at 0 old) ≡ head.kind ∷ reply_kinds (kinds-after e.before.held.queue)
          first-reply = ap reply_kinds (zero-kinds terms most journal given taken old new head payload m s e spoken prepared d u zero) ∙ of e.before.held.queue refl
            where
              of : (queue : List Message) → e.before.held.queue ≡ queue
                  → reply_kinds (map (λ (m : Message). m.tag.kind) e.before.held.queue) ≡ head.kind ∷ reply_kinds (kinds-after e.before.held.queue)
              of [] is = absurd (let g : false ≡ true = sym (ap (queue_ready e.before.held.sends.room) is) ∙ e.step.ready in cc)
              of (m ∷ ms) is =
                  let kind : head.kind ≡ m.tag.kind =
                  ap (λ (h : Head). h.kind) e.step.is
                  ∙ ap (λ (q : List Message). (head_from (next_size most e.before.held.sends.room q) q e.before.held.number e.before.held.seqno e.before.held.life.sent e.before.held.life.received).kind) is in
                  ap (λ (q : List Message). reply_kinds (map (λ (m : Message). m.tag.kind) q)) is
                  ∙ ap (λ (b : Bool). if b then m.tag.kind ∷ reply_kinds (map (λ (m : Message). m.tag.kind) ms) else reply_kinds (map (λ (m : Message). m.tag.kind) ms))
                  (ap (λ (k : Kind). not (is_msg k)) (sym kind) ∙ ap not reply)
                  ∙ ap (λ (k : Kind). k ∷ reply_kinds (map (λ (m : Message). m.tag.kind) ms)) (sym kind)
                  ∙ ap (λ (q : List Message). head.kind ∷ reply_kinds (kinds-after q)) (sym is)

          let-go : IsLetGo (all_asked journal m) journal (asked_at old) place head.kind answered.kept
          let-go =
              (subst (λ (l : List Kept). AreAnswered (all_asked journal m) journal (asked_at old) place (head.kind ∷ reply_kinds (kinds-after e.before.held.queue)) m.answers l) answered.is
              (subst (λ (ks : List Kind). AreAnswered (all_asked journal m) journal (asked_at old) place ks m.answers (reverse m.theirs.requests)) first-reply u.theirs)).0

          quiet : (number code : ℕ) (note : List ℕ) → answered.kept.said ≡ Some (close number code note)
              → was_quiet_since place number (life_named number Side.Received place (events begun)) (asked Side.Sent (zero_history begun)) begun ≡ true
          quiet number code note is =
              let c : ℕ = life_named number Side.Received place (events journal) in
              let w : was_quiet_since place number c (all_asked journal m) journal ≡ true =
              subst (λ (o : Option Form). WasQuiet (all_asked journal m) journal place o) is (let-go.quiet rpy) in
              let now : was_quiet_since place number c (asked Side.Sent (zero_history journal)) journal ≡ true =
              sym (quiet-same (map (λ (kept : Kept). kept.said) m.acts.requests) (asked Side.Sent (zero_history journal)) place number c journal none-partly) ∙ w in
              let on : was_quiet_since place number c (asked Side.Sent (zero_history journal)) begun ≡ true =
              quiet-on place number c (asked Side.Sent (zero_history journal)) (began Side.Sent head) journal
              (none-begins number c (asked Side.Sent (zero_history journal)) head journal (rw reply refl)) now in
              ap (λ (forms : List (Option Form)). was_quiet_since place number (life_named number Side.Received place (events begun)) forms begun) (asked-begun Side.Sent)
              ∙ ap (λ (es : List Event). was_quiet_since place number (life_named number Side.Received place es) (asked Side.Sent (zero_history journal)) begun) begun-same
              ∙ on

          ok-ready : (form : Option Form) → answered.kept.said ≡ form → breaks_ok_too_soon begun place form ≡ false
          ok-ready None is = refl
          ok-ready (Some (greeting features localize profiles)) is = refl
          ok-ready (Some (start number server profiles)) is = refl
          ok-ready (Some (chosen profile)) is = refl
          ok-ready (Some okay) is = refl
          ok-ready (Some (fault code note)) is = refl
          ok-ready (Some (close number code note)) is =
              ap not
              (quiet-ready place number (life_named number Side.Received place (events begun)) (asked Side.Sent (zero_history begun)) begun (quiet number code note is))

          ok-quiet : (form : Option Form) → answered.kept.said ≡ form → breaks_asked_drained begun place form ≡ false
          ok-quiet None is = refl
          ok-quiet (Some (greeting features localize profiles)) is = refl
          ok-quiet (Some (start number server profiles)) is = refl
          ok-quiet (Some (chosen profile)) is = refl
          ok-quiet (Some okay) is = refl
          ok-quiet (Some (fault code note)) is = refl
          ok-quiet (Some (close number code note)) is = ap not (quiet number code note is)

          granted-numbers : numbers_of m.granted ≡ number_started answered.kept.said ++ numbers_granted (replies_among others ++ prepared) answered.rest
          granted-numbers =
              fresh-numbers terms.window (numbers_granted (replies_among (unsent spoken journal) ++ prepared) (reverse m.theirs.requests)) m.granted d.granted
              ∙ ap (λ (l : List Spoken). numbers_granted (l ++ prepared) (reverse m.theirs.requests)) replies-then
              ∙ ap (numbers_granted (said.one ∷ (replies_among others ++ prepared))) answered.is
              ∙ ap (λ (b : Bool). if b then number_started answered.kept.said ++ numbers_granted (replies_among others ++ prepared) answered.rest
              else numbers_granted (replies_among others ++ prepared) answered.rest) one-rpy

          right-grant : (form : Option Form) → answered.kept.said ≡ form → breaks_grant_number terms.role begun form ≡ false
          right-grant None is = refl
          right-grant (Some (greeting features localize profiles)) is = refl
          right-grant (Some (close number code note)) is = refl
          right-grant (Some (chosen profile)) is = refl
          right-grant (Some okay) is = refl
          right-grant (Some (fault code note)) is = refl
          right-grant (Some (start number server profiles)) is =
              let here : numbers_of m.granted ≡ number ∷ numbers_granted (replies_among others ++ prepared) answered.rest =
              granted-numbers ∙ ap (λ (o : Option Form). number_started o ++ numbers_granted (replies_among others ++ prepared) answered.rest) is in
              let free : is_free (other_role terms.role) journal number ≡ true =
              all-at (is_free (other_role terms.role) journal) [] number (numbers_granted (replies_among others ++ prepared) answered.rest)
              (subst (λ (ns : List ℕ). list_all (is_free (other_role terms.role) journal) ns ≡ true) here u.granted.free) in
              let may : may_start (other_role terms.role) number ≡ true = both-one _ _ free in
              let dead : is_live number (events begun) ≡ false =
              ap (λ (es : List Event). is_live number es) begun-same ∙ not-true _ (both-two (may_start (other_role terms.role) number) _ free) in
              rw (may, dead) (none (has_own_release begun) refl here)
            where
              none : (b : Bool) → has_own_release begun ≡ b → numbers_of m.granted ≡ number ∷ numbers_granted (replies_among others ++ prepared) answered.rest → b ≡ false
              none false waits here = refl
              none true waits here =
                  let leaving : is_leaving m.mine.requests ≡ true = own-release begun m.mine.requests (waits-begun Side.Sent m.mine.requests d.mine) waits in
                  let alone = u.leaving (rw leaving refl) in
                  absurd (let g : [] ≡ number ∷ numbers_granted (replies_among others ++ prepared) answered.rest = sym (ap numbers_of alone.granted) ∙ here in cc)

        pub reply-lawful : unlawful_frame terms none_tunes begun head payload ≡ None
        reply-lawful = of (same_kind Kind.Rpy head.kind) refl
          where
            of : (b : Bool) → same_kind Kind.Rpy head.kind ≡ b → unlawful_frame terms none_tunes begun head payload ≡ None
            of false err = nothing-said reply-content reply-asks (reply-grants false err)
            of true rpy =
                by-content reply-content None answered.kept.said (place rpy) reply-asks (reply-grants true rpy) position
                (ok-ready rpy answered.kept.said refl) refl refl (right-grant rpy answered.kept.said refl) refl (ok-quiet rpy answered.kept.said refl)

    -- ---- any frame

    pub frame-lawful : unlawful_frame terms none_tunes begun head payload ≡ None
    frame-lawful = of (head.channel == 0) refl head.more refl (is_msg head.kind) refl
      where
        of : (z : Bool) → (head.channel == 0) ≡ z → (p : Bool) → head.more ≡ p → (r : Bool) → is_msg head.kind ≡ r → unlawful_frame terms none_tunes begun head payload ≡ None
        of false above p more r kind = above-lawful above
        of true zero true more r kind = part-lawful more
        of true zero false more true kind = request-lawful zero more kind
        of true zero false more false kind = reply-lawful zero more kind
