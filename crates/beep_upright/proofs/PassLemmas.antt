-- The last frame of an own request, and that of a request of the peer, leave what is ready so.
use Rattle.std.proofs.Common.{◌≡◌, ℕ, suc, ◌+◌, ◌≤◌, ◌==◌, nat_lt, Bool, true, false, not, ◌&&◌, ◌||◌, if◌then◌else◌, List, [], ◌∷◌, ◌++◌, length, length-append, append_assoc, map, reverse, Option, None, Some, refl, sym, ap, ◌∙◌, arith, subst}
use Rattle.std.specs.List.{list_any, list_all}
use Rattle.std.proofs.lemmas.Bool.Decides.{nat_tests}
use Rattle.std.proofs.lemmas.List.{length-reverse, map-append}
use Rattle.beep_management.specs.beep_frame.specs.declared.head.Head.{Head}
use Rattle.beep_management.specs.beep_frame.specs.declared.kind.Kind.{Kind}
use Rattle.beep_management.specs.beep_frame.specs.Frame.{is_msg}
use Rattle.beep_management.specs.beep_mgmt.specs.Form.{Form, greeting, start, chosen, close, okay, fault}
use Rattle.beep_management.specs.beep_mgmt.specs.Message.{message_said}
use Rattle.beep_management.specs.beep_history.specs.declared.journal.Side.{Side}
use Rattle.beep_management.specs.beep_history.specs.Journal.{Item, began, passed}
use Rattle.beep_management.specs.beep_history.specs.Broken.{KeepsExchangeRules}
use Rattle.beep_management.specs.beep_journal.specs.Lives.{Event, is_live, life_named}
use Rattle.beep_management.specs.beep_journal.specs.Zero.{zero_history, zero_events, gathered, asked, coming, events}
use Rattle.beep_management.specs.beep_journal.specs.Life.{is_there}
use Rattle.beep_management.specs.beep_journal.proofs.JournalLemmas.{began-events}
use Rattle.beep_management.specs.beep_channel.specs.Held.{Live}
use Rattle.beep_management.specs.beep_decide.specs.Asks.{is_start_of, is_close_of}
use Rattle.beep_management.specs.beep_decide.specs.Numbers.{other_role}
use Rattle.beep_lawful.specs.declared.terms.Terms.{Terms}
use Rattle.beep_management.specs.beep_standing.specs.Moving.{MovesNone}
use Rattle.beep_management.specs.beep_asked.specs.Kept.{Kept, names_one, new_kept, closes, closes_one, starts, is_leaving}
use Rattle.beep_management.specs.beep_asked.specs.Asked.{AreWaiting, SaysLive}
use Rattle.beep_management.specs.Managed.{Prepared, Managed, number_started}
use Rattle.beep_management.specs.Steps.{PassesAct}
use Rattle.beep_management.proofs.ListLemmas.{reverse-last}
use Rattle.beep_upright.specs.Turns.{Turn, asks as asks_turn, answers as answers_turn, reply_kinds, first_said, after_first, turns, is_start_for, may_precede, AreInTurn}
use Rattle.beep_upright.specs.Upright.{MayBegin, AreIdle, all_asked, AreAnswered, place_of, AreReady}
use Rattle.beep_upright.proofs.TestLemmas.{both-one, both-two, or-true, equal-number, not-true}
use Rattle.beep_upright.proofs.FrameLemmas.{any-before, any-last, any-reverse}
use Rattle.beep_upright.proofs.HeardLemmas.{idle-close, quiet-close}
use Rattle.beep_upright.proofs.ReadyLemmas.{begin-same, each-idle, names-same, names-from, each-answered}
use Rattle.beep_upright.proofs.BegunLemmas.{zero-idle, zero-quiet}
use Rattle.beep_upright.proofs.StillLemmas.{asked-header}
use Rattle.beep_upright.proofs.MoreLemmas.{request_kinds}

-- ---- one among others

pub record HasOne (test : Kept → Bool) (requests : List Kept) : Type 0 where
  pub before : List Kept
  pub one : Kept
  pub after : List Kept
  pub split : requests ≡ before ++ one ∷ after
  pub passes : test one ≡ true

pub any-one : (test : Kept → Bool) (requests : List Kept) → list_any test requests ≡ true → HasOne test requests
any-one test [] e = cc
any-one test (kept ∷ requests) e = of (test kept) refl e (any-one test requests)
  where
    of : (b : Bool) → test kept ≡ b → (b || list_any test requests) ≡ true → (list_any test requests ≡ true → HasOne test requests) → HasOne test (kept ∷ requests)
    of true is e later = record { before = []; one = kept; after = requests; split = refl; passes = is }
    of false is e later = let h = later e in record { before = kept ∷ h.before; one = h.one; after = h.after; split = ap (λ (l : List Kept). kept ∷ l) h.split; passes = h.passes }

-- each own request has its turn
pub turns-has : (test : Turn → Bool) (kinds : List Kind) (acts requests : List Kept) → list_all test (turns kinds acts requests) ≡ true → length acts ≤ length (request_kinds kinds)
    → (before : List Kept) (kept : Kept) (after : List Kept) → acts ≡ before ++ kept ∷ after → test (asks_turn kept.said) ≡ true
turns-has test [] acts requests all few before kept after split =
    absurd (let count : length acts ≡ length before + suc (length after) = ap length split ∙ length-append before (kept ∷ after) in omega (arith, few, count))
turns-has test (k ∷ kinds) acts requests all few before kept after split =
    of (is_msg k) all few (λ acts all few before split. turns-has test kinds acts requests all few before kept after split)
    (λ all few. turns-has test kinds acts (after_first requests) all few before kept after split)
  where
    of : (b : Bool) → list_all test (if b then asks_turn (first_said acts) ∷ turns kinds (after_first acts) requests else answers_turn k (first_said requests) ∷ turns kinds acts (after_first requests)) ≡ true
        → length acts ≤ length (if b then k ∷ request_kinds kinds else request_kinds kinds)
        → ((acts : List Kept) → list_all test (turns kinds acts requests) ≡ true → length acts ≤ length (request_kinds kinds) → (before : List Kept) → acts ≡ before ++ kept ∷ after
        → test (asks_turn kept.said) ≡ true)
        → (list_all test (turns kinds acts (after_first requests)) ≡ true → length acts ≤ length (request_kinds kinds) → test (asks_turn kept.said) ≡ true)
        → test (asks_turn kept.said) ≡ true
    of false all few own replied = replied (both-two (test (answers_turn k (first_said requests))) _ all) few
    of true all few own replied = by acts before all few split
      where
        by : (acts : List Kept) (before : List Kept) → (test (asks_turn (first_said acts)) && list_all test (turns kinds (after_first acts) requests)) ≡ true
            → length acts ≤ suc (length (request_kinds kinds)) → acts ≡ before ++ kept ∷ after → test (asks_turn kept.said) ≡ true
        by [] before all few split = absurd (let count : 0 ≡ length before + suc (length after) = ap length split ∙ length-append before (kept ∷ after) in omega (arith, count))
        by (one ∷ acts) [] all few split =
            let same : one ≡ kept = cc in ap (λ (x : Kept). test (asks_turn x.said)) (sym same) ∙ both-one (test (asks_turn one.said)) _ all
        by (one ∷ acts) (other ∷ before) all few split =
            let rest : acts ≡ before ++ kept ∷ after = cc in own acts (both-two (test (asks_turn one.said)) _ all) (omega (arith, few)) before rest

-- a start and a close of one number
pub start-for : (n : ℕ) (form closing : Option Form) → is_start_of n form ≡ true → is_close_of n closing ≡ true → list_any (λ (k : ℕ). is_close_of k closing) (number_started form) ≡ true
start-for n None closing starts e = cc
start-for n (Some (greeting features localize profiles)) closing starts e = cc
start-for n (Some (start number server profiles)) closing starts e =
    ap (λ (b : Bool). b || false) (subst (λ (k : ℕ). is_close_of k closing ≡ true) (sym (equal-number number n starts)) e)
start-for n (Some (chosen profile)) closing starts e = cc
start-for n (Some (close number code note)) closing starts e = cc
start-for n (Some okay) closing starts e = cc
start-for n (Some (fault code note)) closing starts e = cc

-- the moments of the peer's closes stay, as an own request passes
named-coming : (q : ℕ) (form : Option Form) (es : List Event) (n p : ℕ) → life_named n Side.Received p (coming Side.Sent q form ++ es) ≡ life_named n Side.Received p es
named-coming q None es n p = refl
named-coming q (Some (greeting features localize profiles)) es n p = refl
named-coming q (Some (start number server profiles)) es n p = refl
named-coming q (Some (chosen profile)) es n p = refl
named-coming q (Some (close number code note)) es n p = refl
named-coming q (Some okay) es n p = refl
named-coming q (Some (fault code note)) es n p = refl

-- ---- an own request passes

module _ (terms : Terms) (journal : List Item) (kinds rest : List Kind) (asks : ℕ → ℕ) (m new : Managed) (r : AreReady terms journal kinds asks m) (head : Head) (payload : List ℕ)
    (zero : (head.channel == 0) ≡ true) (last : head.more ≡ false) (request : is_msg head.kind ≡ true) (keeps : KeepsExchangeRules (began Side.Sent head ∷ zero_history journal))
    (mine : AreWaiting Side.Sent (zero_history journal) m.mine.requests) (theirs : AreWaiting Side.Received (zero_history journal) m.theirs.requests)
    (unsent : kinds ≡ head.kind ∷ rest) (live : ℕ → Bool) (says-live : SaysLive live (events (began Side.Sent head ∷ journal))) (p : PassesAct live m new)
    (moves : MovesNone (events (began Side.Sent head ∷ journal)) (events (passed Side.Sent head payload ∷ began Side.Sent head ∷ journal)))
    (says : message_said (gathered Side.Sent (zero_history (began Side.Sent head ∷ journal)) ++ payload) ≡ p.one.said)
    (count : length (request_kinds kinds) ≡ length m.acts.requests) where
  abbrev begun : List Item
  begun = began Side.Sent head ∷ journal

  abbrev whole : List Item
  whole = passed Side.Sent head payload ∷ began Side.Sent head ∷ journal

  begun-events : events begun ≡ events journal
  begun-events = began-events Side.Sent head journal

  live-same : (k : ℕ) → is_live k (events whole) ≡ is_live k (events journal)
  live-same k = moves.live k ∙ ap (λ (es : List Event). is_live k es) begun-events

  turned : reverse m.acts.requests ≡ p.one ∷ reverse p.later
  turned = ap reverse p.split ∙ reverse-last p.later p.one

  asked-sent : asked Side.Sent (zero_history whole) ≡ p.one.said ∷ asked Side.Sent (zero_history journal)
  asked-sent =
      ap (λ (b : Bool). asked Side.Sent (if b then passed Side.Sent head payload ∷ zero_history begun else zero_history begun)) zero
      ∙ ap (λ (b : Bool). if b then message_said (gathered Side.Sent (zero_history begun) ++ payload) ∷ asked Side.Sent (zero_history begun) else asked Side.Sent (zero_history begun)) test
      ∙ ap (λ (o : Option Form). o ∷ asked Side.Sent (zero_history begun)) says
      ∙ ap (λ (l : List (Option Form)). p.one.said ∷ l) (asked-header Side.Sent Side.Sent head journal)
    where
      test : (is_msg head.kind && not head.more) ≡ true
      test = rw (request, last) refl

  asked-received : asked Side.Received (zero_history whole) ≡ asked Side.Received (zero_history journal)
  asked-received =
      ap (λ (b : Bool). asked Side.Received (if b then passed Side.Sent head payload ∷ zero_history begun else zero_history begun)) zero
      ∙ asked-header Side.Received Side.Sent head journal

  forms-same : all_asked whole new ≡ all_asked journal m
  forms-same =
      ap (λ (l : List (Option Form)). map (λ (kept : Kept). kept.said) new.acts.requests ++ l) asked-sent
      ∙ ap (λ (l : List Kept). map (λ (kept : Kept). kept.said) l ++ (p.one.said ∷ asked Side.Sent (zero_history journal))) p.acts.requests
      ∙ sym (append_assoc (map (λ (kept : Kept). kept.said) p.later) (p.one.said ∷ []) (asked Side.Sent (zero_history journal)))
      ∙ ap (λ (l : List (Option Form)). l ++ asked Side.Sent (zero_history journal)) (sym (map-append (λ (kept : Kept). kept.said) p.later (p.one ∷ [])))
      ∙ ap (λ (l : List Kept). map (λ (kept : Kept). kept.said) l ++ asked Side.Sent (zero_history journal)) (sym p.split)

  whole-named : (n q : ℕ) → life_named n Side.Received q (events whole) ≡ life_named n Side.Received q (events begun)
  whole-named n q =
      ap (λ (es : List Event). life_named n Side.Received q es) whole-events
      ∙ named-coming (length (asked Side.Sent (zero_history begun))) (message_said (gathered Side.Sent (zero_history begun) ++ payload)) (events begun) n q
    where
      whole-events : events whole ≡ coming Side.Sent (length (asked Side.Sent (zero_history begun))) (message_said (gathered Side.Sent (zero_history begun) ++ payload)) ++ events begun
      whole-events =
          ap (λ (b : Bool). zero_events (if b then passed Side.Sent head payload ∷ zero_history begun else zero_history begun)) zero
          ∙ ap (λ (l : List Event). l ++ events begun) (by head.more (is_msg head.kind) _ _ last request)
        where
          by : (a b : Bool) (x y : List Event) → a ≡ false → b ≡ true → (if a then [] else if b then x else y) ≡ x
          by false true x y e f = refl
          by false false x y e f = cc
          by true b x y e f = cc

  order-is : turns kinds (reverse m.acts.requests) (reverse m.theirs.requests) ≡ asks_turn p.one.said ∷ turns rest (reverse p.later) (reverse m.theirs.requests)
  order-is =
      ap (λ (ks : List Kind). turns ks (reverse m.acts.requests) (reverse m.theirs.requests)) unsent
      ∙ ap (λ (l : List Kept). turns (head.kind ∷ rest) l (reverse m.theirs.requests)) turned ∙ rw request refl

  order : AreInTurn (asks_turn p.one.said ∷ turns rest (reverse p.later) (reverse m.theirs.requests))
  order = subst AreInTurn order-is r.order

  rest-count : length (reverse p.later) ≤ length (request_kinds rest)
  rest-count =
      let here : length (request_kinds kinds) ≡ suc (length (request_kinds rest)) = ap (λ (ks : List Kind). length (request_kinds ks)) unsent ∙ rw request refl in
      let all : length m.acts.requests ≡ length p.later + 1 = ap length p.split ∙ length-append p.later (p.one ∷ []) in
      omega (arith, here, all, count, length-reverse p.later)

  replies-same : reply_kinds kinds ≡ reply_kinds rest
  replies-same = ap reply_kinds unsent ∙ rw request refl

  -- it names what it named as an act
  one-closes : (n : ℕ) → closes_one n (new_kept live p.one.said) ≡ true → closes n m.acts.requests ≡ true
  one-closes n e =
      ap (closes n) p.split
      ∙ any-last (closes_one n) p.later p.one (ap (λ (b : Bool). is_close_of n p.one.said && (n == 0 || b)) names ∙ e)
    where
      named : p.one.names ≡ names_one (λ (k : ℕ). is_live k (events journal)) p.one.said
      named = (subst (λ (l : List Kept). AreIdle journal (length (asked Side.Sent (zero_history journal))) l) turned r.acts).1

      live-said : (said : Option Form) → names_one live said ≡ names_one (λ (k : ℕ). is_live k (events journal)) said
      live-said None = refl
      live-said (Some (greeting features localize profiles)) = refl
      live-said (Some (start number server profiles)) = refl
      live-said (Some (chosen profile)) = refl
      live-said (Some okay) = refl
      live-said (Some (fault code note)) = refl
      live-said (Some (close number code note)) = by (nat_lt 0 number) refl
        where
          by : (b : Bool) → nat_lt 0 number ≡ b → (b && live number) ≡ (b && is_live number (events journal))
          by false e = refl
          by true e = says-live number (above number e) ∙ ap (λ (es : List Event). is_live number es) begun-events
            where
              above : (n : ℕ) → nat_lt 0 n ≡ true → (n == 0) ≡ false
              above n e = grind (arith, nat_tests)

      names : p.one.names ≡ names_one live p.one.said
      names = named ∙ sym (live-said p.one.said)

  acts-was : (test : Kept → Bool) → list_any test new.acts.requests ≡ true → list_any test m.acts.requests ≡ true
  acts-was test e = ap (list_any test) p.split ∙ any-before test p.later (p.one ∷ []) (sym (ap (list_any test) p.acts.requests) ∙ e)

  pub request-sent : AreReady terms whole rest asks new
  request-sent = record {
    idle = refl;
    greets = λ none. absurd (let g : Some head ≡ None = none in cc);
    starting = subst (λ (l : List Live). MayBegin terms.role whole l) (sym p.starting) (begin-same terms.role journal whole m.starting live-same r.starting);
    granted = subst (λ (l : List Live). MayBegin (other_role terms.role) whole l) (sym p.granted) (begin-same (other_role terms.role) journal whole m.granted live-same r.granted);
    order = subst (λ (l : List Kept). AreInTurn (turns rest (reverse l) (reverse new.theirs.requests))) (sym p.acts.requests)
        (subst (λ (l : List Kept). AreInTurn (turns rest (reverse p.later) (reverse l))) (sym (ap (λ q. q.requests) p.theirs)) order.1);
    acts = subst (λ (l : List Kept). AreIdle whole (length (asked Side.Sent (zero_history whole))) (reverse l)) (sym p.acts.requests)
        (subst (λ (forms : List (Option Form)). AreIdle whole (length forms) (reverse p.later)) (sym asked-sent)
        (subst (λ (k : ℕ). AreIdle whole k (reverse p.later)) (omega arith)
        (subst (λ (l : List Kept). AreIdle whole (length (asked Side.Sent (zero_history journal))) l) turned
        (each-idle journal whole (length (asked Side.Sent (zero_history journal))) (reverse m.acts.requests)
        (λ kept. names-same (λ (k : ℕ). is_live k (events whole)) (λ (k : ℕ). is_live k (events journal)) live-same kept.said)
        (λ before kept after split named w. idle-close (length (asked Side.Sent (zero_history journal)) + length before) (passed Side.Sent head payload) begun kept.said tt (λ n closes. moves.lives n)
        (zero-idle terms journal kinds rest asks m r head zero keeps mine unsent (length (asked Side.Sent (zero_history journal)) + length before) before kept after split refl w))
        r.acts)).2));
    unstarted = λ n waits. ap (starts n) p.mine ∙ no-start n waits (is_start_of n p.one.said) refl;
    closing = λ n above waits. r.closing n above (closes-was n (closes n m.mine.requests) (closes n m.acts.requests) refl refl
        (sym (ap (λ (l : List Kept). closes n l || closes n new.acts.requests) p.mine) ∙ waits));
    leaving = λ leaves. let a = r.leaving (leaves-was (is_leaving m.mine.requests) (is_leaving m.acts.requests) refl
        (sym (ap (λ (l : List Kept). is_leaving l || is_leaving new.acts.requests) p.mine) ∙ leaves)) in record {
          alone = let all : length m.acts.requests ≡ length p.later + 1 = ap length p.split ∙ length-append p.later (p.one ∷ []) in
              let b = a.alone in omega (arith, ap length p.mine, ap length p.acts.requests, all, b);
          starting = p.starting ∙ a.starting;
          granted = p.granted ∙ a.granted;
          none = λ n above. there n (a.none n above);
        };
    theirs = subst (λ (forms : List (Option Form)). AreAnswered forms whole asks (place_of new.theirs.requests (asked Side.Received (zero_history whole))) (reply_kinds rest) new.answers (reverse new.theirs.requests)) (sym forms-same)
        (subst (λ (forms : List (Option Form)). AreAnswered (all_asked journal m) whole asks (place_of new.theirs.requests forms) (reply_kinds rest) new.answers (reverse new.theirs.requests)) (sym asked-received)
        (subst (λ (l : List Kept). AreAnswered (all_asked journal m) whole asks (place_of l (asked Side.Received (zero_history journal))) (reply_kinds rest) new.answers (reverse l)) (sym (ap (λ q. q.requests) p.theirs))
        (subst (λ (l : List Prepared). AreAnswered (all_asked journal m) whole asks (place_of m.theirs.requests (asked Side.Received (zero_history journal))) (reply_kinds rest) l (reverse m.theirs.requests)) (sym p.answers)
        (subst (λ (ks : List Kind). AreAnswered (all_asked journal m) whole asks (place_of m.theirs.requests (asked Side.Received (zero_history journal))) ks m.answers (reverse m.theirs.requests)) replies-same
        (each-answered (all_asked journal m) (all_asked journal m) journal whole asks asks (place_of m.theirs.requests (asked Side.Received (zero_history journal))) (reply_kinds kinds) m.answers (reverse m.theirs.requests)
        (names-from journal m.theirs.requests theirs)
        (λ before kind after earlier kept later split ksplit count named l. record {
          quiet = λ rpy. quiet-close (all_asked journal m) (place_of m.theirs.requests (asked Side.Received (zero_history journal)) + length before) (passed Side.Sent head payload) begun kept.said tt
              (λ n. whole-named n (place_of m.theirs.requests (asked Side.Received (zero_history journal)) + length before))
              (zero-quiet terms journal kinds rest asks m r head zero keeps mine unsent (place_of m.theirs.requests (asked Side.Received (zero_history journal)) + length before)
              before kind after earlier kept later split ksplit count l rpy);
          still = l.still;
        }) r.theirs)))));
  }
    where
      no-start : (n : ℕ) → list_any (λ (kept : Kept). is_close_of n kept.said) new.acts.requests ≡ true → (b : Bool) → is_start_of n p.one.said ≡ b
          → (is_start_of n p.one.said || starts n m.mine.requests) ≡ false
      no-start n waits false is = rw is (r.unstarted n (acts-was (λ (kept : Kept). is_close_of n kept.said) waits))
      no-start n waits true is =
          let one = any-one (λ (kept : Kept). is_close_of n kept.said) (reverse p.later)
          (any-reverse (λ (kept : Kept). is_close_of n kept.said) p.later (sym (ap (list_any (λ (kept : Kept). is_close_of n kept.said)) p.acts.requests) ∙ waits)) in
          let may : may_precede (asks_turn p.one.said) (asks_turn one.one.said) ≡ true =
          turns-has (may_precede (asks_turn p.one.said)) rest (reverse p.later) (reverse m.theirs.requests) order.0 rest-count one.before one.one one.after one.split in
          let clash : is_start_for (asks_turn p.one.said) one.one.said ≡ true = start-for n p.one.said one.one.said is one.passes in
          absurd (let g : true ≡ false = sym clash ∙ not-true (is_start_for (asks_turn p.one.said) one.one.said) may in cc)

      closes-was : (n : ℕ) (x y : Bool) → closes n m.mine.requests ≡ x → closes n m.acts.requests ≡ y
          → ((closes_one n (new_kept live p.one.said) || closes n m.mine.requests) || closes n new.acts.requests) ≡ true → (closes n m.mine.requests || closes n m.acts.requests) ≡ true
      closes-was n true y is at e = rw is refl
      closes-was n false true is at e = rw at (or-true (closes n m.mine.requests))
      closes-was n false false is at e = by (closes_one n (new_kept live p.one.said)) refl (closes n new.acts.requests) refl e
        where
          by : (a : Bool) → closes_one n (new_kept live p.one.said) ≡ a → (b : Bool) → closes n new.acts.requests ≡ b → ((a || closes n m.mine.requests) || b) ≡ true
              → (closes n m.mine.requests || closes n m.acts.requests) ≡ true
          by true one b new e = absurd (let g : true ≡ false = sym (one-closes n one) ∙ at in cc)
          by false one true new e = absurd (let g : true ≡ false = sym (acts-was (closes_one n) new) ∙ at in cc)
          by false one false new e = absurd (let g : true ≡ false = sym e ∙ rw is refl in cc)

      leaves-was : (x y : Bool) → is_leaving m.acts.requests ≡ y → ((is_close_of 0 p.one.said || x) || is_leaving new.acts.requests) ≡ true → (x || is_leaving m.acts.requests) ≡ true
      leaves-was true y at e = refl
      leaves-was false true at e = at
      leaves-was false false at e = by (is_close_of 0 p.one.said) refl (is_leaving new.acts.requests) refl e
        where
          by : (a : Bool) → is_close_of 0 p.one.said ≡ a → (b : Bool) → is_leaving new.acts.requests ≡ b → ((a || false) || b) ≡ true → is_leaving m.acts.requests ≡ true
          by true one b new e = ap is_leaving p.split ∙ any-last (λ (kept : Kept). is_close_of 0 kept.said) p.later p.one one
          by false one true new e = acts-was (λ (kept : Kept). is_close_of 0 kept.said) new
          by false one false new e = cc

      there : (n : ℕ) → is_there n journal ≡ false → is_there n whole ≡ false
      there n e = ap (λ (b : Bool). n == 0 || b) (live-same n) ∙ e
