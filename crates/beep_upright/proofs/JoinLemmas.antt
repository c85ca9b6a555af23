-- An answer that is given, an own request that is given, and a request that comes leave what is
-- ready so.
use Rattle.std.proofs.Common.{◌≡◌, ℕ, suc, ◌+◌, ◌≤◌, ◌==◌, Bool, true, false, not, ◌&&◌, ◌||◌, if◌then◌else◌, List, [], ◌∷◌, ◌++◌, length, length-append, append-nil, reverse, Option, None, Some, refl, sym, ap, ◌∙◌, arith, subst}
use Rattle.std.specs.List.{list_any, list_all}
use Rattle.std.specs.Option.{option_map_or}
use Rattle.std.proofs.lemmas.List.{length-reverse}
use Rattle.std.proofs.lemmas.List.Elements.{filter-append}
use Rattle.beep_management.specs.beep_frame.specs.declared.kind.Kind.{Kind}
use Rattle.beep_management.specs.beep_frame.specs.Frame.{is_msg, same_kind}
use Rattle.beep_management.specs.beep_mgmt.specs.Form.{Form, greeting, start, chosen, close, okay, fault}
use Rattle.beep_management.specs.beep_history.specs.declared.journal.Side.{Side}
use Rattle.beep_management.specs.beep_history.specs.Journal.{Item}
use Rattle.beep_management.specs.beep_history.specs.Marks.{first, requests}
use Rattle.beep_management.specs.beep_journal.specs.Lives.{is_live, life_named}
use Rattle.beep_management.specs.beep_journal.specs.Zero.{zero_history, asked, events}
use Rattle.beep_management.specs.beep_channel.specs.Held.{Live}
use Rattle.beep_management.specs.beep_decide.specs.Asks.{is_close_of}
use Rattle.beep_management.specs.beep_decide.specs.Numbers.{other_role}
use Rattle.beep_lawful.specs.declared.terms.Terms.{Terms}
use Rattle.beep_management.specs.beep_asked.specs.Kept.{Kept, names_one, closes, closes_one, starts, is_leaving}
use Rattle.beep_management.specs.Managed.{Prepared, Managed}
use Rattle.beep_management.proofs.ListLemmas.{reverse-first}
use Rattle.beep_upright.specs.Turns.{Turn, asks as asks_turn, answers as answers_turn, reply_kinds, first_said, turns, may_precede, AreInTurn}
use Rattle.beep_upright.specs.Upright.{MayBegin, WasIdle, AreIdle, said_before, all_asked, WasQuiet, IsLetGo, IsHeldBack, AreAnswered, IsAlone, place_of, AreReady}
use Rattle.beep_upright.proofs.TestLemmas.{and-false, or-true}
use Rattle.beep_upright.proofs.ClosingLemmas.{quiet-same}
use Rattle.beep_upright.proofs.MoreLemmas.{request_kinds, acts-left, theirs-left, turns-more, in-turn-more, turns-acts, left-none, left-more, theirs-at, turns-test}

-- ---- replies

replies-more : (kinds : List Kind) (kind : Kind) → is_msg kind ≡ false → reply_kinds (kinds ++ kind ∷ []) ≡ reply_kinds kinds ++ kind ∷ []
replies-more kinds kind reply = filter-append (λ (k : Kind). not (is_msg k)) kinds (kind ∷ []) ∙ ap (λ (l : List Kind). reply_kinds kinds ++ l) (rw reply refl)

replies-same : (kinds : List Kind) (kind : Kind) → is_msg kind ≡ true → reply_kinds (kinds ++ kind ∷ []) ≡ reply_kinds kinds
replies-same kinds kind request =
    filter-append (λ (k : Kind). not (is_msg k)) kinds (kind ∷ []) ∙ ap (λ (l : List Kind). reply_kinds kinds ++ l) (rw request refl) ∙ append-nil (reply_kinds kinds)

-- the first of some kinds is the first of more
first-more : (kinds : List Kind) (kind : Kind) → option_map_or (same_kind Kind.Rpy) (first kinds) false ≡ true → option_map_or (same_kind Kind.Rpy) (first (kinds ++ kind ∷ [])) false ≡ true
first-more [] kind e = cc
first-more (k ∷ kinds) kind e = e

-- ---- an answer is given

give-one : (forms : List (Option Form)) (journal : List Item) (asks : ℕ → ℕ) (p : ℕ) (kinds : List Kind) (answer : Prepared) (answers : List Prepared) (earlier : List Kept) (kept : Kept)
    (later : List Kept) → length earlier ≡ length kinds → (IsHeldBack answer kept → IsLetGo forms journal asks (p + length kinds) answer.kind kept)
    → AreAnswered forms journal asks p kinds (answer ∷ answers) (earlier ++ kept ∷ later) → AreAnswered forms journal asks p (kinds ++ answer.kind ∷ []) answers (earlier ++ kept ∷ later)
give-one forms journal asks p [] answer answers [] kept later count goes a =
    (subst (λ (q : ℕ). IsLetGo forms journal asks q answer.kind kept) (omega arith) (goes a.0), a.1)
give-one forms journal asks p [] answer answers (one ∷ earlier) kept later count goes a = absurd (omega (arith, count))
give-one forms journal asks p (kind ∷ kinds) answer answers [] kept later count goes a = absurd (omega (arith, count))
give-one forms journal asks p (kind ∷ kinds) answer answers (one ∷ earlier) kept later count goes a = (
  a.0,
  give-one forms journal asks (p + 1) kinds answer answers earlier kept later (omega (arith, count))
      (λ held. subst (λ (q : ℕ). IsLetGo forms journal asks q answer.kind kept) (place p (length kinds)) (goes held)) a.1,
)
  where
    place : (p n : ℕ) → p + suc n ≡ p + 1 + n
    place p n = omega arith

pub answer-given : (terms : Terms) (journal : List Item) (kinds : List Kind) (asks : ℕ → ℕ) (m new : Managed) → AreReady terms journal kinds asks m
    → (answer : Prepared) → m.answers ≡ answer ∷ new.answers → new ≡ record m { answers = new.answers } → is_msg answer.kind ≡ false
    → length (request_kinds kinds) ≤ length m.acts.requests
    → (earlier : List Kept) (kept : Kept) (later : List Kept) → reverse m.theirs.requests ≡ earlier ++ kept ∷ later → length earlier ≡ length (reply_kinds kinds)
    → (IsHeldBack answer kept → IsLetGo (all_asked journal m) journal asks
    (place_of m.theirs.requests (asked Side.Received (zero_history journal)) + length (reply_kinds kinds)) answer.kind kept)
    → (same_kind Kind.Rpy answer.kind ≡ true → is_close_of 0 kept.said ≡ true → (one : Kept) (before after : List Kept) → reverse m.acts.requests ≡ before ++ one ∷ after
    → is_close_of 0 one.said ≡ true)
    → AreReady terms journal (kinds ++ answer.kind ∷ []) asks new
answer-given terms journal kinds asks m new r answer split same reply few earlier kept later theirs count goes release =
    subst (λ (x : Managed). AreReady terms journal (kinds ++ answer.kind ∷ []) asks x) (sym same) (record {
      idle = r.idle;
      greets = λ none. first-more kinds answer.kind (r.greets none);
      starting = r.starting;
      granted = r.granted;
      order = subst AreInTurn (sym turns-are)
          (in-turn-more (turns kinds (reverse m.acts.requests) (reverse m.theirs.requests)) (answers_turn answer.kind kept.said) r.order
          (turns-test (λ (t : Turn). may_precede t (answers_turn answer.kind kept.said)) kinds (reverse m.acts.requests) (reverse m.theirs.requests)
          (omega (arith, few, length-reverse m.acts.requests)) enough
          (λ one before after own. may (same_kind Kind.Rpy answer.kind) refl (is_close_of 0 kept.said) refl (is_close_of 0 one.said) (λ rpy closes. release rpy closes one before after own))
          (λ before kind after others one rest own ksplit k. or-true _)));
      acts = r.acts;
      unstarted = r.unstarted;
      closing = r.closing;
      leaving = λ leaves. let a = r.leaving leaves in record { alone = a.alone; starting = a.starting; granted = a.granted; none = a.none };
      theirs = subst (λ (ks : List Kind). AreAnswered (all_asked journal m) journal asks (place_of m.theirs.requests (asked Side.Received (zero_history journal))) ks new.answers (reverse m.theirs.requests))
          (sym (replies-more kinds answer.kind reply))
          (subst (λ (l : List Kept). AreAnswered (all_asked journal m) journal asks (place_of m.theirs.requests (asked Side.Received (zero_history journal))) (reply_kinds kinds ++ answer.kind ∷ []) new.answers l) (sym theirs)
          (give-one (all_asked journal m) journal asks (place_of m.theirs.requests (asked Side.Received (zero_history journal))) (reply_kinds kinds) answer new.answers earlier kept later count goes
          (subst (λ (l : List Kept). AreAnswered (all_asked journal m) journal asks (place_of m.theirs.requests (asked Side.Received (zero_history journal))) (reply_kinds kinds) (answer ∷ new.answers) l) theirs
          (subst (λ (l : List Prepared). AreAnswered (all_asked journal m) journal asks (place_of m.theirs.requests (asked Side.Received (zero_history journal))) (reply_kinds kinds) l (reverse m.theirs.requests)) split r.theirs))));
    })
  where
    enough : length (reply_kinds kinds) ≤ length (reverse m.theirs.requests)
    enough = omega (arith, count, ap length theirs, length-append earlier (kept ∷ later))

    may : (rpy : Bool) → same_kind Kind.Rpy answer.kind ≡ rpy → (c : Bool) → is_close_of 0 kept.said ≡ c → (q : Bool)
        → (same_kind Kind.Rpy answer.kind ≡ true → is_close_of 0 kept.said ≡ true → q ≡ true) → (not (same_kind Kind.Rpy answer.kind && is_close_of 0 kept.said) || q) ≡ true
    may true is true closes q all = rw (all is closes) (or-true _)
    may true is false closes q all = rw (closes, and-false (same_kind Kind.Rpy answer.kind)) refl
    may false is c closes q all = rw is refl

    turns-are : turns (kinds ++ answer.kind ∷ []) (reverse m.acts.requests) (reverse m.theirs.requests)
        ≡ turns kinds (reverse m.acts.requests) (reverse m.theirs.requests) ++ answers_turn answer.kind kept.said ∷ []
    turns-are =
        turns-more kinds answer.kind (reverse m.acts.requests) (reverse m.theirs.requests)
        ∙ ap (λ (l : List Kept). turns kinds (reverse m.acts.requests) (reverse m.theirs.requests) ++ turns (answer.kind ∷ []) (acts-left kinds (reverse m.acts.requests)) l)
        (ap (theirs-left kinds) theirs ∙ theirs-at kinds earlier kept later count)
        ∙ ap (λ (b : Bool). turns kinds (reverse m.acts.requests) (reverse m.theirs.requests)
        ++ (if b then asks_turn (first_said (acts-left kinds (reverse m.acts.requests))) ∷ [] else answers_turn answer.kind kept.said ∷ [])) reply

-- ---- an own request is given

idle-more : (journal : List Item) (p : ℕ) (requests : List Kept) (kept : Kept) → AreIdle journal p requests → WasIdle journal (p + length requests) kept.said
    → kept.names ≡ names_one (λ (n : ℕ). is_live n (events journal)) kept.said → AreIdle journal p (requests ++ kept ∷ [])
idle-more journal p [] kept a idle names = (subst (λ (q : ℕ). WasIdle journal q kept.said) (omega arith) idle, names, tt)
idle-more journal p (one ∷ requests) kept a idle names =
    (a.0, a.1, idle-more journal (p + 1) requests kept a.2 (subst (λ (q : ℕ). WasIdle journal q kept.said) (place p (length requests)) idle) names)
  where
    place : (p n : ℕ) → p + suc n ≡ p + 1 + n
    place p n = omega arith

quiet-more : (extra : Option Form) (forms : List (Option Form)) (journal : List Item) (p : ℕ) (said : Option Form) → length (requests Side.Sent (zero_history journal)) ≤ length forms
    → WasQuiet forms journal p said → WasQuiet (extra ∷ forms) journal p said
quiet-more extra forms journal p None within w = tt
quiet-more extra forms journal p (Some (greeting features localize profiles)) within w = tt
quiet-more extra forms journal p (Some (start number server profiles)) within w = tt
quiet-more extra forms journal p (Some (chosen profile)) within w = tt
quiet-more extra forms journal p (Some okay) within w = tt
quiet-more extra forms journal p (Some (fault code note)) within w = tt
quiet-more extra forms journal p (Some (close number code note)) within w =
    quiet-same (extra ∷ []) forms p number (life_named number Side.Received p (events journal)) journal within ∙ w

answered-more : (extra : Option Form) (forms : List (Option Form)) (journal : List Item) (asks : ℕ → ℕ) → length (requests Side.Sent (zero_history journal)) ≤ length forms → (p : ℕ) (kinds : List Kind)
    (answers : List Prepared) (others : List Kept) → AreAnswered forms journal asks p kinds answers others → AreAnswered (extra ∷ forms) journal asks p kinds answers others
answered-more extra forms journal asks within p [] [] others a = tt
answered-more extra forms journal asks within p [] (answer ∷ answers) [] a = tt
answered-more extra forms journal asks within p [] (answer ∷ answers) (kept ∷ others) a = (a.0, answered-more extra forms journal asks within (p + 1) [] answers others a.1)
answered-more extra forms journal asks within p (kind ∷ kinds) answers [] a = tt
answered-more extra forms journal asks within p (kind ∷ kinds) answers (kept ∷ others) a = (
  record { quiet = λ rpy. quiet-more extra forms journal p kept.said within (a.0.quiet rpy); still = a.0.still },
  answered-more extra forms journal asks within (p + 1) kinds answers others a.1,
)

pub act-given : (terms : Terms) (journal : List Item) (kinds : List Kind) (asks : ℕ → ℕ) (m new : Managed) → AreReady terms journal kinds asks m → (kept : Kept)
    → new.acts.requests ≡ kept ∷ m.acts.requests → new.mine.requests ≡ m.mine.requests → new.theirs ≡ m.theirs → new.answers ≡ m.answers → new.granted ≡ m.granted
    → length (request_kinds kinds) ≡ length m.acts.requests → length (reply_kinds kinds) ≤ length m.theirs.requests
    → length (requests Side.Sent (zero_history journal)) ≤ length (all_asked journal m)
    → MayBegin terms.role journal new.starting
    → WasIdle journal (length (asked Side.Sent (zero_history journal)) + length m.acts.requests) kept.said
    → kept.names ≡ names_one (λ (n : ℕ). is_live n (events journal)) kept.said
    → list_all (λ (t : Turn). may_precede t (asks_turn kept.said)) (turns kinds (reverse m.acts.requests) (reverse m.theirs.requests)) ≡ true
    → ((n : ℕ) → is_close_of n kept.said ≡ true → starts n m.mine.requests ≡ false)
    → ((n : ℕ) → (n == 0) ≡ false → closes_one n kept ≡ true → asks n ≡ 0)
    → ((is_leaving new.mine.requests || is_leaving new.acts.requests) ≡ true → IsAlone journal new)
    → (kinds-new : List Kind) → kinds-new ≡ kinds ++ Kind.Msg ∷ []
    → AreReady terms journal kinds-new asks new
act-given terms journal kinds asks m new r kept acts mine theirs answers granted count enough within starting idle names order unstarted closing leaving kinds-new kinds-are =
    subst (λ (ks : List Kind). AreReady terms journal ks asks new) (sym kinds-are) (record {
      idle = r.idle;
      greets = λ none. first-more kinds Kind.Msg (r.greets none);
      starting = starting;
      granted = subst (λ (l : List Live). MayBegin (other_role terms.role) journal l) (sym granted) r.granted;
      order = subst AreInTurn (sym turns-are)
          (in-turn-more (turns kinds (reverse m.acts.requests) (reverse m.theirs.requests)) (asks_turn kept.said) r.order order);
      acts = subst (λ (l : List Kept). AreIdle journal (length (asked Side.Sent (zero_history journal))) l) (sym turned)
          (idle-more journal (length (asked Side.Sent (zero_history journal))) (reverse m.acts.requests) kept r.acts
          (subst (λ (k : ℕ). WasIdle journal (length (asked Side.Sent (zero_history journal)) + k) kept.said) (sym (length-reverse m.acts.requests)) idle) names);
      unstarted = λ n waits. ap (starts n) mine ∙ no-start n (is_close_of n kept.said) refl (sym (ap (list_any (λ (one : Kept). is_close_of n one.said)) acts) ∙ waits);
      closing = λ n above waits. no-asks n above (closes n m.mine.requests) refl (closes_one n kept) refl
          (sym (ap (λ (l : List Kept). closes n l || closes n new.acts.requests) mine ∙ ap (λ (l : List Kept). closes n m.mine.requests || closes n l) acts) ∙ waits);
      leaving = leaving;
      theirs = subst (λ (l : List Kept). AreAnswered (said_before l (asked Side.Sent (zero_history journal))) journal asks (place_of new.theirs.requests (asked Side.Received (zero_history journal)))
          (reply_kinds (kinds ++ Kind.Msg ∷ [])) new.answers (reverse new.theirs.requests)) (sym acts)
          (subst (λ (ks : List Kind). AreAnswered (kept.said ∷ all_asked journal m) journal asks (place_of new.theirs.requests (asked Side.Received (zero_history journal))) ks new.answers (reverse new.theirs.requests))
          (sym (replies-same kinds Kind.Msg refl))
          (subst (λ (l : List Prepared). AreAnswered (kept.said ∷ all_asked journal m) journal asks (place_of new.theirs.requests (asked Side.Received (zero_history journal))) (reply_kinds kinds) l (reverse new.theirs.requests)) (sym answers)
          (subst (λ (l : List Kept). AreAnswered (kept.said ∷ all_asked journal m) journal asks (place_of l (asked Side.Received (zero_history journal))) (reply_kinds kinds) m.answers (reverse l)) (sym (ap (λ q. q.requests) theirs))
          (answered-more kept.said (all_asked journal m) journal asks within (place_of m.theirs.requests (asked Side.Received (zero_history journal))) (reply_kinds kinds) m.answers (reverse m.theirs.requests) r.theirs))));
    })
  where
    turned : reverse new.acts.requests ≡ reverse m.acts.requests ++ kept ∷ []
    turned = ap reverse acts ∙ reverse-first kept m.acts.requests

    same-count : length (request_kinds kinds) ≡ length (reverse m.acts.requests)
    same-count = count ∙ sym (length-reverse m.acts.requests)

    turns-are : turns (kinds ++ Kind.Msg ∷ []) (reverse new.acts.requests) (reverse new.theirs.requests)
        ≡ turns kinds (reverse m.acts.requests) (reverse m.theirs.requests) ++ asks_turn kept.said ∷ []
    turns-are =
        ap (λ (l : List Kept). turns (kinds ++ Kind.Msg ∷ []) l (reverse new.theirs.requests)) turned
        ∙ ap (λ (l : List Kept). turns (kinds ++ Kind.Msg ∷ []) (reverse m.acts.requests ++ kept ∷ []) (reverse l)) (ap (λ q. q.requests) theirs)
        ∙ turns-more kinds Kind.Msg (reverse m.acts.requests ++ kept ∷ []) (reverse m.theirs.requests)
        ∙ ap (λ (l : List Turn). l ++ turns (Kind.Msg ∷ []) (acts-left kinds (reverse m.acts.requests ++ kept ∷ [])) (theirs-left kinds (reverse m.theirs.requests)))
        (turns-acts kinds (reverse m.acts.requests) (reverse m.theirs.requests) kept (omega (arith, same-count)))
        ∙ ap (λ (l : List Kept). turns kinds (reverse m.acts.requests) (reverse m.theirs.requests) ++ turns (Kind.Msg ∷ []) l (theirs-left kinds (reverse m.theirs.requests)))
        (left-more kinds (reverse m.acts.requests) kept (omega (arith, same-count)) ∙ ap (λ (l : List Kept). l ++ kept ∷ []) (left-none kinds (reverse m.acts.requests) same-count))

    no-start : (n : ℕ) (b : Bool) → is_close_of n kept.said ≡ b → (is_close_of n kept.said || list_any (λ (one : Kept). is_close_of n one.said) m.acts.requests) ≡ true → starts n m.mine.requests ≡ false
    no-start n true is e = unstarted n is
    no-start n false is e = r.unstarted n (sym (ap (λ (b : Bool). b || list_any (λ (one : Kept). is_close_of n one.said) m.acts.requests) is) ∙ e)

    no-asks : (n : ℕ) → (n == 0) ≡ false → (a : Bool) → closes n m.mine.requests ≡ a → (b : Bool) → closes_one n kept ≡ b
        → (closes n m.mine.requests || (closes_one n kept || closes n m.acts.requests)) ≡ true → asks n ≡ 0
    no-asks n above a was true is e = closing n above is
    no-asks n above a was false is e =
        r.closing n above (sym (ap (λ (b : Bool). closes n m.mine.requests || (b || closes n m.acts.requests)) is) ∙ e)
