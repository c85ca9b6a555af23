-- A message of channel zero that ends the life of a number, or none, leaves what is ready so, once
-- nothing names that life any more.
use Rattle.std.proofs.Common.{◌≡◌, ℕ, ◌+◌, ◌-◌, ◌==◌, nat_lt, Bool, true, false, not, ◌&&◌, ◌||◌, if◌then◌else◌, List, [], ◌∷◌, ◌++◌, length, map, reverse, Option, None, Some, refl, sym, ap, ◌∙◌, arith, subst}
use Rattle.std.specs.List.{list_any, list_all}
use Rattle.std.proofs.lemmas.Bool.Decides.{nat_tests}
use Rattle.std.proofs.lemmas.List.{length-map}
use Rattle.beep_management.specs.beep_frame.specs.declared.kind.Kind.{Kind}
use Rattle.beep_management.specs.beep_frame.specs.Frame.{is_msg}
use Rattle.beep_management.specs.beep_mgmt.specs.Form.{Form, greeting, start, chosen, close, okay, fault}
use Rattle.beep_management.specs.beep_history.specs.declared.journal.Side.{Side}
use Rattle.beep_management.specs.beep_history.specs.Journal.{Item}
use Rattle.beep_management.specs.beep_history.specs.Marks.{previous}
use Rattle.beep_management.specs.beep_history.specs.Broken.{under_way}
use Rattle.beep_management.specs.beep_journal.specs.declared.role.Role.{Role}
use Rattle.beep_management.specs.beep_journal.specs.Lives.{is_live}
use Rattle.beep_management.specs.beep_journal.specs.Zero.{zero_history, asked, events}
use Rattle.beep_management.specs.beep_journal.specs.Life.{is_there}
use Rattle.beep_management.specs.beep_channel.specs.Held.{Live}
use Rattle.beep_management.specs.beep_decide.specs.Asks.{is_start_of, is_close_of}
use Rattle.beep_management.specs.beep_decide.specs.Numbers.{other_role, may_start}
use Rattle.beep_lawful.specs.declared.terms.Terms.{Terms}
use Rattle.beep_management.specs.beep_asked.specs.Kept.{Kept, names_one, clear_one, clear, closes, starts, is_leaving}
use Rattle.beep_management.specs.declared.wait.Wait.{Wait}
use Rattle.beep_management.specs.Managed.{Prepared, Managed, wait_without, one_without, without, numbers_of}
use Rattle.beep_management.proofs.ListLemmas.{reverse-map}
use Rattle.beep_upright.specs.Turns.{asks as asks_turn, answers as answers_turn, reply_kinds, first_said, after_first, turns, AreInTurn}
use Rattle.beep_upright.specs.Upright.{is_free, MayBegin, WasIdle, AreIdle, said_before, all_asked, WasQuiet, is_of_close, wait_of, AreAnswered, place_of, AreReady}
use Rattle.beep_upright.proofs.TestLemmas.{or-true}

-- ---- what is cleared

-- where the test holds nothing names the life of a number any more
abbrev pub cleared : Bool → ℕ → Kept → Kept
cleared b n kept = record kept { names = kept.names && not (b && is_close_of n kept.said) }

abbrev pub wait_by : Bool → ℕ → Wait → Wait
wait_by b n waits = if b then wait_without n waits else waits

abbrev pub held_by : Bool → ℕ → Prepared → Prepared
held_by b n answer = record answer { waits = wait_by b n answer.waits }

and-true : (b : Bool) → (b && true) ≡ b
and-true true = refl
and-true false = refl

pub clear-is : (n : ℕ) (requests : List Kept) → clear n requests ≡ map (cleared true n) requests
clear-is n [] = refl
clear-is n (kept ∷ requests) = ap (λ (l : List Kept). clear_one n kept ∷ l) (clear-is n requests)

pub stay-is : (n : ℕ) (requests : List Kept) → requests ≡ map (cleared false n) requests
stay-is n [] = refl
stay-is n (kept ∷ requests) =
    ap (λ (l : List Kept). kept ∷ l) (stay-is n requests)
    ∙ ap (λ (b : Bool). record kept { names = b } ∷ map (cleared false n) requests) (sym (and-true kept.names))

pub held-clear : (n : ℕ) (answers : List Prepared) → without n answers ≡ map (held_by true n) answers
held-clear n [] = refl
held-clear n (answer ∷ answers) = ap (λ (l : List Prepared). one_without n answer ∷ l) (held-clear n answers)

pub held-stay : (n : ℕ) (answers : List Prepared) → answers ≡ map (held_by false n) answers
held-stay n [] = refl
held-stay n (answer ∷ answers) = ap (λ (l : List Prepared). answer ∷ l) (held-stay n answers)

module _ (b : Bool) (n : ℕ) where
  abbrev f : Kept → Kept
  f = cleared b n

  said-map : (requests : List Kept) → map (λ (kept : Kept). kept.said) (map (cleared b n) requests) ≡ map (λ (kept : Kept). kept.said) requests
  said-map [] = refl
  said-map (kept ∷ requests) = ap (λ (l : List (Option Form)). kept.said ∷ l) (said-map requests)

  pub any-said : (test : Option Form → Bool) (requests : List Kept) → list_any (λ (kept : Kept). test kept.said) (map (cleared b n) requests) ≡ list_any (λ (kept : Kept). test kept.said) requests
  any-said test [] = refl
  any-said test (kept ∷ requests) = ap (λ (x : Bool). test kept.said || x) (any-said test requests)

  closes-less : (k : ℕ) (requests : List Kept) → closes k (map (cleared b n) requests) ≡ true → closes k requests ≡ true
  closes-less k [] e = cc
  closes-less k (kept ∷ requests) e =
      of (is_close_of k kept.said) (k == 0) kept.names (not (b && is_close_of n kept.said)) (closes k (map (cleared b n) requests)) e (closes-less k requests)
    where
      of : (c z names still later : Bool) → ((c && (z || names && still)) || later) ≡ true → (later ≡ true → closes k requests ≡ true) → ((c && (z || names)) || closes k requests) ≡ true
      of true true names still later e rest = refl
      of true false true still later e rest = refl
      of true false false still later e rest = rest e
      of false z names still later e rest = rest e

  first-map : (requests : List Kept) → first_said (map (cleared b n) requests) ≡ first_said requests
  first-map [] = refl
  first-map (kept ∷ requests) = refl

  after-map : (requests : List Kept) → after_first (map (cleared b n) requests) ≡ map (cleared b n) (after_first requests)
  after-map [] = refl
  after-map (kept ∷ requests) = refl

  turns-map : (kinds : List Kind) (acts requests : List Kept) → turns kinds (map (cleared b n) acts) (map (cleared b n) requests) ≡ turns kinds acts requests
  turns-map [] acts requests = refl
  turns-map (kind ∷ kinds) acts requests =
      of (is_msg kind) (turns-map kinds (after_first acts) requests) (turns-map kinds acts (after_first requests))
    where
      of : (x : Bool) → turns kinds (map (cleared b n) (after_first acts)) (map (cleared b n) requests) ≡ turns kinds (after_first acts) requests
          → turns kinds (map (cleared b n) acts) (map (cleared b n) (after_first requests)) ≡ turns kinds acts (after_first requests)
          → (if x then asks_turn (first_said (map (cleared b n) acts)) ∷ turns kinds (after_first (map (cleared b n) acts)) (map (cleared b n) requests)
          else answers_turn kind (first_said (map (cleared b n) requests)) ∷ turns kinds (map (cleared b n) acts) (after_first (map (cleared b n) requests)))
          ≡ (if x then asks_turn (first_said acts) ∷ turns kinds (after_first acts) requests else answers_turn kind (first_said requests) ∷ turns kinds acts (after_first requests))
      of true e d = rw (first-map acts, after-map acts, e) refl
      of false e d = rw (first-map requests, after-map requests, d) refl

  -- a close of the number names nothing more
  names-cleared : (was live : ℕ → Bool) → ((k : ℕ) → live k ≡ (was k && not (b && n == k))) → (said : Option Form)
      → (names_one was said && not (b && is_close_of n said)) ≡ names_one live said
  names-cleared was live same None = refl
  names-cleared was live same (Some (greeting features localize profiles)) = refl
  names-cleared was live same (Some (start number server profiles)) = refl
  names-cleared was live same (Some (chosen profile)) = refl
  names-cleared was live same (Some okay) = refl
  names-cleared was live same (Some (fault code note)) = refl
  names-cleared was live same (Some (close number code note)) =
      rw (same number, turned number n) (assoc (nat_lt 0 number) (was number) (not (b && n == number)))
    where
      turned : (x y : ℕ) → (x == y) ≡ (y == x)
      turned x y = grind (arith, nat_tests)

      assoc : (x y z : Bool) → ((x && y) && z) ≡ (x && (y && z))
      assoc true y z = refl
      assoc false y z = refl

  wait-cleared : (said : Option Form) (names : Bool) → wait_by b n (wait_of said names) ≡ wait_of said (names && not (b && is_close_of n said))
  wait-cleared None names = of b
    where
      of : (b : Bool) → (if b then Wait.Nothing else Wait.Nothing) ≡ Wait.Nothing
      of true = refl
      of false = refl
  wait-cleared (Some (greeting features localize profiles)) names = of b
    where
      of : (b : Bool) → (if b then Wait.Nothing else Wait.Nothing) ≡ Wait.Nothing
      of true = refl
      of false = refl
  wait-cleared (Some (start number server profiles)) names = of b
    where
      of : (b : Bool) → (if b then Wait.Nothing else Wait.Nothing) ≡ Wait.Nothing
      of true = refl
      of false = refl
  wait-cleared (Some (chosen profile)) names = of b
    where
      of : (b : Bool) → (if b then Wait.Nothing else Wait.Nothing) ≡ Wait.Nothing
      of true = refl
      of false = refl
  wait-cleared (Some okay) names = of b
    where
      of : (b : Bool) → (if b then Wait.Nothing else Wait.Nothing) ≡ Wait.Nothing
      of true = refl
      of false = refl
  wait-cleared (Some (fault code note)) names = of b
    where
      of : (b : Bool) → (if b then Wait.Nothing else Wait.Nothing) ≡ Wait.Nothing
      of true = refl
      of false = refl
  wait-cleared (Some (close number code note)) names = of b (number == 0) names (number == n) refl
    where
      of : (b z names here : Bool) → (number == n) ≡ here → (if b then wait_without n (if z then Wait.All else if names then Wait.Life number else Wait.Nothing)
          else (if z then Wait.All else if names then Wait.Life number else Wait.Nothing))
          ≡ (if z then Wait.All else if names && not (b && here) then Wait.Life number else Wait.Nothing)
      of false true names here e = refl
      of false false true here e = refl
      of false false false here e = refl
      of true true names here e = refl
      of true false false here e = refl
      of true false true true e = rw e refl
      of true false true false e = rw e refl

-- ---- a life ends, or none

module _ (terms : Terms) (journal now : List Item) (kinds : List Kind) (asks : ℕ → ℕ) (m new : Managed) (b : Bool) (n : ℕ) (r : AreReady terms journal kinds asks m)
    (live : (k : ℕ) → is_live k (events now) ≡ (is_live k (events journal) && not (b && n == k)))
    (said-same : (side : Side) → asked side (zero_history now) ≡ asked side (zero_history journal)) where
  live-less : (k : ℕ) → is_live k (events journal) ≡ false → is_live k (events now) ≡ false
  live-less k e = live k ∙ rw e refl

  free-still : (role : Role) (ns : List ℕ) → list_all (is_free role journal) ns ≡ true → list_all (is_free role now) ns ≡ true
  free-still role [] e = refl
  free-still role (k ∷ ns) e = of (may_start role k) (is_live k (events journal)) refl e (free-still role ns)
    where
      of : (may x : Bool) → is_live k (events journal) ≡ x → ((may && not x) && list_all (is_free role journal) ns) ≡ true
          → (list_all (is_free role journal) ns ≡ true → list_all (is_free role now) ns ≡ true)
          → ((may && not (is_live k (events now))) && list_all (is_free role now) ns) ≡ true
      of true false is e later = rw (live-less k is, later e) refl
      of true true is e later = cc
      of false x is e later = cc

  begin-still : (role : Role) (channels : List Live) → MayBegin role journal channels → MayBegin role now channels
  begin-still role channels may = record { free = free-still role (numbers_of channels) may.free; apart = may.apart }

  idle-map : (p : ℕ) (requests : List Kept) → ((p : ℕ) (said : Option Form) → WasIdle journal p said → WasIdle now p said) → AreIdle journal p requests
      → AreIdle now p (map (cleared b n) requests)
  idle-map p [] idles a = tt
  idle-map p (kept ∷ requests) idles a = (
    idles p kept.said a.0,
    ap (λ (x : Bool). x && not (b && is_close_of n kept.said)) a.1
        ∙ names-cleared b n (λ k. is_live k (events journal)) (λ k. is_live k (events now)) live kept.said,
    idle-map (p + 1) requests idles a.2,
  )

  of-close : (k : ℕ) (kept : Kept) → is_of_close k (cleared b n kept) ≡ true → is_of_close k kept ≡ true
  of-close k kept e = of (is_close_of 0 kept.said) (is_close_of k kept.said) (k == 0) kept.names (not (b && is_close_of n kept.said)) e
    where
      of : (r c z names still : Bool) → (r || (c && (z || names && still))) ≡ true → (r || (c && (z || names))) ≡ true
      of true c z names still e = refl
      of false true true names still e = refl
      of false true false true still e = refl
      of false true false false still e = e
      of false false z names still e = e

  answered-map : (forms : List (Option Form)) (p : ℕ) (kinds : List Kind) (answers : List Prepared) (requests : List Kept)
      → ((p : ℕ) (said : Option Form) → WasQuiet forms journal p said → WasQuiet forms now p said) → AreAnswered forms journal asks p kinds answers requests
      → AreAnswered forms now asks p kinds (map (held_by b n) answers) (map (cleared b n) requests)
  answered-map forms p [] [] requests quiets a = tt
  answered-map forms p [] (answer ∷ answers) [] quiets a = tt
  answered-map forms p [] (answer ∷ answers) (kept ∷ requests) quiets a = (
    λ rpy. ap (wait_by b n) (a.0 rpy) ∙ wait-cleared b n kept.said kept.names,
    answered-map forms (p + 1) [] answers requests quiets a.1,
  )
  answered-map forms p (kind ∷ kinds) answers [] quiets a = tt
  answered-map forms p (kind ∷ kinds) answers (kept ∷ requests) quiets a = (
    record {
      quiet = λ rpy. quiets p kept.said (a.0.quiet rpy);
      still = λ rpy k above closes. a.0.still rpy k above (of-close k kept closes);
    },
    answered-map forms (p + 1) kinds answers requests quiets a.1,
  )

  pub moved-ready : under_way Side.Sent now ≡ None → (previous Side.Sent now ≡ None → previous Side.Sent journal ≡ None)
      → ((p : ℕ) (said : Option Form) → WasIdle journal p said → WasIdle now p said)
      → ((forms : List (Option Form)) (p : ℕ) (said : Option Form) → WasQuiet forms journal p said → WasQuiet forms now p said)
      → new.mine.requests ≡ map (cleared b n) m.mine.requests → new.acts.requests ≡ map (cleared b n) m.acts.requests
      → new.theirs.requests ≡ map (cleared b n) m.theirs.requests → new.answers ≡ map (held_by b n) m.answers → new.starting ≡ m.starting → new.granted ≡ m.granted
      → AreReady terms now kinds asks new
  moved-ready idle before idles quiets mine acts theirs answers starting granted = record {
    idle = idle;
    greets = λ none. r.greets (before none);
    starting = subst (λ (l : List Live). MayBegin terms.role now l) (sym starting) (begin-still terms.role m.starting r.starting);
    granted = subst (λ (l : List Live). MayBegin (other_role terms.role) now l) (sym granted) (begin-still (other_role terms.role) m.granted r.granted);
    order = subst AreInTurn (sym same-turns) r.order;
    acts = subst (λ (forms : List (Option Form)). AreIdle now (length forms) (reverse new.acts.requests)) (sym (said-same Side.Sent))
        (subst (λ (l : List Kept). AreIdle now (length (asked Side.Sent (zero_history journal))) l) (sym turned-acts)
        (idle-map (length (asked Side.Sent (zero_history journal))) (reverse m.acts.requests) idles r.acts));
    unstarted = λ k closes. ap (starts k) mine ∙ any-said b n (is_start_of k) m.mine.requests ∙ r.unstarted k (sym (ap (list_any (λ (kept : Kept). is_close_of k kept.said)) acts ∙ any-said b n (is_close_of k) m.acts.requests) ∙ closes);
    closing = λ k above waits. r.closing k above (either (closes k m.mine.requests) (closes k m.acts.requests) (closes k new.mine.requests) (closes k new.acts.requests)
        (λ e. closes-less b n k m.mine.requests (sym (ap (closes k) mine) ∙ e)) (λ e. closes-less b n k m.acts.requests (sym (ap (closes k) acts) ∙ e)) waits);
    leaving = λ leaves. let a = r.leaving (sym (ap (λ (l : List Kept). is_leaving l || is_leaving new.acts.requests) mine ∙ ap (λ (l : List Kept). is_leaving (map (cleared b n) m.mine.requests) || is_leaving l) acts
        ∙ ap (λ (x : Bool). x || is_leaving (map (cleared b n) m.acts.requests)) (any-said b n (is_close_of 0) m.mine.requests)
        ∙ ap (λ (x : Bool). is_leaving m.mine.requests || x) (any-said b n (is_close_of 0) m.acts.requests)) ∙ leaves) in record {
          alone = ap (λ (l : List Kept). length l + length new.acts.requests) mine ∙ ap (λ (l : List Kept). length (map (cleared b n) m.mine.requests) + length l) acts
              ∙ ap (λ (k : ℕ). k + length (map (cleared b n) m.acts.requests)) (length-map m.mine.requests (cleared b n))
              ∙ ap (λ (k : ℕ). length m.mine.requests + k) (length-map m.acts.requests (cleared b n)) ∙ a.alone;
          starting = starting ∙ a.starting;
          granted = granted ∙ a.granted;
          none = λ k above. none-there k above (a.none k above);
        };
    theirs = subst (λ (forms : List (Option Form)). AreAnswered forms now asks (place_of new.theirs.requests (asked Side.Received (zero_history now))) (reply_kinds kinds) new.answers (reverse new.theirs.requests)) (sym same-forms)
        (subst (λ (p : ℕ). AreAnswered (all_asked journal m) now asks p (reply_kinds kinds) new.answers (reverse new.theirs.requests)) (sym same-place)
        (subst (λ (l : List Kept). AreAnswered (all_asked journal m) now asks (place_of m.theirs.requests (asked Side.Received (zero_history journal))) (reply_kinds kinds) new.answers l) (sym turned-theirs)
        (subst (λ (l : List Prepared). AreAnswered (all_asked journal m) now asks (place_of m.theirs.requests (asked Side.Received (zero_history journal))) (reply_kinds kinds) l (map (cleared b n) (reverse m.theirs.requests))) (sym answers)
        (answered-map (all_asked journal m) (place_of m.theirs.requests (asked Side.Received (zero_history journal))) (reply_kinds kinds) m.answers (reverse m.theirs.requests)
        (λ p said. quiets (all_asked journal m) p said) r.theirs))));
  }
    where
      turned-acts : reverse new.acts.requests ≡ map (cleared b n) (reverse m.acts.requests)
      turned-acts = ap reverse acts ∙ reverse-map (cleared b n) m.acts.requests

      turned-theirs : reverse new.theirs.requests ≡ map (cleared b n) (reverse m.theirs.requests)
      turned-theirs = ap reverse theirs ∙ reverse-map (cleared b n) m.theirs.requests

      same-turns : turns kinds (reverse new.acts.requests) (reverse new.theirs.requests) ≡ turns kinds (reverse m.acts.requests) (reverse m.theirs.requests)
      same-turns =
          ap (λ (l : List Kept). turns kinds l (reverse new.theirs.requests)) turned-acts
          ∙ ap (λ (l : List Kept). turns kinds (map (cleared b n) (reverse m.acts.requests)) l) turned-theirs
          ∙ turns-map b n kinds (reverse m.acts.requests) (reverse m.theirs.requests)

      same-forms : all_asked now new ≡ all_asked journal m
      same-forms =
          ap (λ (forms : List (Option Form)). said_before new.acts.requests forms) (said-same Side.Sent)
          ∙ ap (λ (l : List Kept). said_before l (asked Side.Sent (zero_history journal))) acts
          ∙ ap (λ (l : List (Option Form)). l ++ asked Side.Sent (zero_history journal)) (said-map b n m.acts.requests)

      same-place : place_of new.theirs.requests (asked Side.Received (zero_history now)) ≡ place_of m.theirs.requests (asked Side.Received (zero_history journal))
      same-place =
          ap (λ (forms : List (Option Form)). place_of new.theirs.requests forms) (said-same Side.Received)
          ∙ ap (λ (k : ℕ). length (asked Side.Received (zero_history journal)) - k) (ap length theirs ∙ length-map m.theirs.requests (cleared b n))

      either : (x y x2 y2 : Bool) → (x2 ≡ true → x ≡ true) → (y2 ≡ true → y ≡ true) → (x2 || y2) ≡ true → (x || y) ≡ true
      either x y true y2 e f g = rw (e refl) refl
      either x y false true e f g = rw (f refl) (or-true x)
      either x y false false e f g = cc

      none-there : (k : ℕ) → (k == 0) ≡ false → is_there k journal ≡ false → is_there k now ≡ false
      none-there k above e = rw (above, live-less k (sym (rw above refl) ∙ e)) refl
