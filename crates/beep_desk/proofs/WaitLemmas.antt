-- What the answers of a session wait for is what those that are owed wait for.
use Rattle.std.proofs.Common.{◌≡◌, ◌∙◌, refl, sym, ap, subst, ℕ, suc, ◌+◌, ◌-◌, ◌==◌, ◌<◌, ◌≤◌, Bool, true, false, ◌&&◌, if◌then◌else◌, List, [], ◌∷◌, ◌++◌, length, map, reverse, Option, None, Some, arith}
use Rattle.std.specs.Prelude.{nat_lt}
use Rattle.std.proofs.lemmas.Bool.Decides.{nat_tests}
use Rattle.std.proofs.lemmas.List.{length-reverse, reverse-append}
use Rattle.beep_peer.specs.beep_frame.specs.declared.kind.Kind.{Kind}
use Rattle.beep_peer.specs.beep_frame.specs.Frame.{same_kind}
use Rattle.beep_peer.specs.beep_history.specs.declared.journal.Side.{Side}
use Rattle.beep_peer.specs.beep_history.specs.Journal.{Item}
use Rattle.beep_peer.specs.beep_mgmt.specs.Form.{Form, greeting, start, chosen, close, okay, fault}
use Rattle.beep_peer.specs.beep_journal.specs.Lives.{Event}
use Rattle.beep_peer.specs.beep_journal.specs.Zero.{said_at}
use Rattle.beep_peer.specs.beep_journal.proofs.MomentLemmas.{same-number}
use Rattle.beep_peer.specs.beep_decide.specs.Decide.{PlainStanding, Decision, refuse, choose, tune, grant_close, answer_of, decide, decide_close, note_of}
use Rattle.beep_peer.specs.beep_asked.specs.Asked.{AreAsked, names_life, names_live}
use Rattle.beep_peer.specs.beep_asked.specs.Kept.{Kept}
use Rattle.beep_peer.specs.beep_management.specs.declared.wait.Wait.{Wait}
use Rattle.beep_peer.specs.beep_management.specs.Managed.{Prepared}
use Rattle.beep_peer.specs.beep_management.specs.Manages.{ArePrepared}
use Rattle.beep_peer.specs.beep_upright.specs.Upright.{AreAnswered, IsHeldBack, wait_of}
use Rattle.beep_script.specs.beep_talk.specs.AtZero.{Answer, kind_of}
use Rattle.beep_script.specs.Desk.{closes_by, number_closed}
use Rattle.beep_desk.specs.Listed.{ArePlacedFrom, spoken_as}
use Rattle.beep_desk.specs.Waiting.{AllWait, OnlyGrantsWait, WaitsFor}
use Rattle.beep_desk.proofs.OwedLemmas.{AllOwed, IsOwed}

-- ---- what a decision says of a close

-- what the answer to a request waits for that closes a life, by its kind
abbrev closes_in : Form → Option Form → Option ℕ
closes_in (greeting features localize profiles) said = None
closes_in (start number server profiles) said = None
closes_in (chosen profile) said = None
closes_in (close number code note) said = None
closes_in okay said = number_closed said
closes_in (fault code note) said = None

-- the answer to a close is `ok` or an error
abbrev IsNoChoice : Decision → Type 0
IsNoChoice (refuse code) = Unit {0}
IsNoChoice (choose place) = ⊥
IsNoChoice (tune place content) = ⊥
IsNoChoice grant_close = Unit {0}

close-chooses-none : (s : PlainStanding) (number : ℕ) → IsNoChoice (decide_close s number)
close-chooses-none s number = by _
  where
    by : (b : Bool) → IsNoChoice (if b then grant_close else refuse 550)
    by true = tt
    by false = tt

decided-chooses-none : (s : PlainStanding) (said : Option Form) (number : ℕ) → number_closed said ≡ Some number → IsNoChoice (decide s said)
decided-chooses-none s None number e = absurd (let h : None ≡ Some number = e in cc)
decided-chooses-none s (Some (greeting features localize profiles)) number e = tt
decided-chooses-none s (Some (start m server profiles)) number e = absurd (let h : None ≡ Some number = e in cc)
decided-chooses-none s (Some (chosen profile)) number e = tt
decided-chooses-none s (Some (close m code note)) number e = close-chooses-none s m
decided-chooses-none s (Some okay) number e = tt
decided-chooses-none s (Some (fault code note)) number e = tt

-- a RPY that isn't `ok` answers no close
no-close : (s : PlainStanding) (said : Option Form) (form : Form) → answer_of s (decide s said) ≡ Some form → same_kind Kind.Rpy (kind_of form) ≡ true
    → closes_by (decide s said) said ≡ number_closed said
no-close s said form answer rpy = by (decide s said) refl answer
  where
    none : (o : Option ℕ) → ((n : ℕ) → o ≡ Some n → ⊥) → None ≡ o
    none None f = refl
    none (Some n) f = absurd (f n refl)

    by : (d : Decision) → decide s said ≡ d → answer_of s d ≡ Some form → closes_by d said ≡ number_closed said
    by (refuse code) e a = absurd (wrong form (cc a) rpy)
      where
        wrong : (f : Form) → fault code (note_of code) ≡ f → same_kind Kind.Rpy (kind_of f) ≡ true → ⊥
        wrong (greeting features localize profiles) g r = cc
        wrong (start number server profiles) g r = cc
        wrong (chosen profile) g r = cc
        wrong (close number m note) g r = cc
        wrong okay g r = cc
        wrong (fault m note) g r = cc
    by (choose place) e a = none (number_closed said) (λ n f. subst IsNoChoice e (decided-chooses-none s said n f))
    by (tune place content) e a = absurd (let h : None ≡ Some form = a in cc)
    by grant_close e a = refl

-- what the grant of a close waits for
wait-of-close : (es : List Event) (position : ℕ) (said : Option Form) (waits : Wait) → waits ≡ wait_of said (names_life Side.Received position said es)
    → WaitsFor es position (number_closed said) waits
wait-of-close es position None waits e = e
wait-of-close es position (Some (greeting features localize profiles)) waits e = e
wait-of-close es position (Some (start number server profiles)) waits e = e
wait-of-close es position (Some (chosen profile)) waits e = e
wait-of-close es position (Some (close number code note)) waits e = by (number == 0) refl (names_live number Side.Received position es) refl e
  where
    above : (m : ℕ) → (m == 0) ≡ false → nat_lt 0 m ≡ true
    above m f = grind (arith, nat_tests, f)

    zero-of : (m : ℕ) → (m == 0) ≡ true → m ≡ 0
    zero-of m f = grind (arith, nat_tests, f)

    by : (b : Bool) → (number == 0) ≡ b → (c : Bool) → names_live number Side.Received position es ≡ c
        → waits ≡ (if b then Wait.All else if nat_lt 0 number && names_live number Side.Received position es then Wait.Life number else Wait.Nothing)
        → WaitsFor es position (Some number) waits
    by true nil c names w = subst (WaitsFor es position (Some number)) (sym w) (zero-of number nil)
    by false some true names w =
        let is : waits ≡ Wait.Life number =
        w ∙ ap (λ x. if x && names_live number Side.Received position es then Wait.Life number else Wait.Nothing) (above number some)
        ∙ ap (λ x. if x then Wait.Life number else Wait.Nothing) names in
        subst (WaitsFor es position (Some number)) (sym is) (some, refl, names)
    by false some false names w =
        let is : waits ≡ Wait.Nothing =
        w ∙ ap (λ x. if x && names_live number Side.Received position es then Wait.Life number else Wait.Nothing) (above number some)
        ∙ ap (λ x. if x then Wait.Life number else Wait.Nothing) names in
        subst (WaitsFor es position (Some number)) (sym is) (some, names)
wait-of-close es position (Some okay) waits e = e
wait-of-close es position (Some (fault code note)) waits e = e

-- ---- one answer

module _ (es : List Event) (forms : List (Option Form)) where
  -- this is kept of the request at a position
  abbrev pub IsKeptAt : ℕ → Kept → Type 0
  IsKeptAt position kept = (kept.said ≡ said_at position forms) × (kept.names ≡ names_life Side.Received position (said_at position forms) es)

  abbrev pub AreKeptFrom : ℕ → List Kept → Type 0
  AreKeptFrom position [] = Unit {0}
  AreKeptFrom position (kept ∷ requests) = IsKeptAt position kept × AreKeptFrom (position + 1) requests

  one-waits : (answer : Answer) (prepared : Prepared) (kept : Kept) → IsOwed forms answer → prepared.kind ≡ kind_of answer.form → IsKeptAt answer.position kept
      → IsHeldBack prepared kept → (same_kind Kind.Rpy prepared.kind ≡ false → prepared.waits ≡ Wait.Nothing)
      → WaitsFor es answer.position answer.closes prepared.waits
  one-waits answer prepared kept owed kind is held plain = by (same_kind Kind.Rpy (kind_of answer.form)) refl
    where
      said : Option Form
      said = said_at answer.position forms

      refused : (d : Decision) (s : PlainStanding) (o : Option Form) (form : Form) → answer_of s d ≡ Some form → same_kind Kind.Rpy (kind_of form) ≡ false → closes_by d o ≡ None
      refused (refuse code) s o form a other = refl
      refused (choose place) s o form a other = refl
      refused (tune place content) s o form a other = refl
      refused grant_close s o (greeting features localize profiles) a other = absurd (let h : Some okay ≡ Some (greeting features localize profiles) = a in cc)
      refused grant_close s o (start number server profiles) a other = absurd (let h : Some okay ≡ Some (start number server profiles) = a in cc)
      refused grant_close s o (chosen profile) a other = absurd (let h : Some okay ≡ Some (chosen profile) = a in cc)
      refused grant_close s o (close number code note) a other = absurd (let h : Some okay ≡ Some (close number code note) = a in cc)
      refused grant_close s o okay a other = absurd cc
      refused grant_close s o (fault code note) a other = absurd (let h : Some okay ≡ Some (fault code note) = a in cc)

      by : (b : Bool) → same_kind Kind.Rpy (kind_of answer.form) ≡ b → WaitsFor es answer.position answer.closes prepared.waits
      by true rpy =
          let waits : prepared.waits ≡ wait_of kept.said kept.names = held (ap (same_kind Kind.Rpy) kind ∙ rpy) in
          let now : prepared.waits ≡ wait_of (said_at answer.position forms) (names_life Side.Received answer.position (said_at answer.position forms) es) =
          waits ∙ ap (λ f. wait_of f kept.names) is.0 ∙ ap (wait_of (said_at answer.position forms)) is.1 in
          subst (λ c. WaitsFor es answer.position c prepared.waits)
          (sym (owed.2 ∙ no-close owed.0 (said_at answer.position forms) answer.form owed.1 rpy))
          (wait-of-close es answer.position (said_at answer.position forms) prepared.waits now)
      by false other =
          subst (λ c. WaitsFor es answer.position c prepared.waits)
          (sym (owed.2 ∙ refused (decide owed.0 (said_at answer.position forms)) owed.0 (said_at answer.position forms) answer.form owed.1 other))
          (plain (ap (same_kind Kind.Rpy) kind ∙ other))

  -- ---- all of them

  pub all-wait : (aforms : List (Option Form)) (journal : List Item) (asks : ℕ → ℕ) (k place : ℕ) (owed : List Answer) (answers : List Prepared) (requests : List Kept)
      → AllOwed forms owed → ArePlacedFrom k (map (λ (answer : Answer). answer.position) owed) → ArePrepared answers (map spoken_as owed)
      → AreAnswered aforms journal asks place [] answers requests → AreKeptFrom k requests → length requests ≡ length answers → OnlyGrantsWait answers
      → AllWait es owed answers
  all-wait aforms journal asks k place [] [] requests o p r u a n plain = tt
  all-wait aforms journal asks k place [] (prepared ∷ answers) requests o p r u a n plain = absurd r
  all-wait aforms journal asks k place (answer ∷ owed) [] requests o p r u a n plain = absurd r
  all-wait aforms journal asks k place (answer ∷ owed) (prepared ∷ answers) [] o p r u a n plain = absurd (omega (arith, n))
  all-wait aforms journal asks k place (answer ∷ owed) (prepared ∷ answers) (kept ∷ requests) o p r u a n plain = (
    one-waits answer prepared kept o.0 (sym r.0.kind) (subst (λ i. IsKeptAt i kept) (sym p.0) a.0) u.0 plain.0,
    all-wait aforms journal asks (k + 1) (place + 1) owed answers requests o.1 p.1 r.1 u.1 a.1 (omega (arith, n)) plain.1,
  )

-- ---- the requests that are kept, the oldest first

kept-append : (es : List Event) (forms : List (Option Form)) (k : ℕ) (xs ys : List Kept) → AreKeptFrom es forms k xs → AreKeptFrom es forms (k + length xs) ys
    → AreKeptFrom es forms k (xs ++ ys)
kept-append es forms k [] ys ax ay = subst (λ n. AreKeptFrom es forms n ys) (none k) ay
  where
    none : (n : ℕ) → n + 0 ≡ n
    none n = omega arith
kept-append es forms k (x ∷ xs) ys ax ay = (ax.0, kept-append es forms (k + 1) xs ys ax.1 (subst (λ n. AreKeptFrom es forms n ys) (more k (length xs)) ay))
  where
    more : (n m : ℕ) → n + suc m ≡ (n + 1) + m
    more n m = omega arith

-- a request more leaves those before
kept-more : (es : List Event) (form : Option Form) (forms : List (Option Form)) (k : ℕ) (xs : List Kept) → k + length xs ≤ length forms → AreKeptFrom es forms k xs
    → AreKeptFrom es (form ∷ forms) k xs
kept-more es form forms k [] less a = tt
kept-more es form forms k (x ∷ xs) less a =
    let before : said_at k (form ∷ forms) ≡ said_at k forms = ap (λ b. if b then form else said_at k forms) (apart (length forms) k (omega (arith, less))) in
    ((a.0.0 ∙ sym before, a.0.1 ∙ ap (λ f. names_life Side.Received k f es) (sym before)), kept-more es form forms (k + 1) xs (omega (arith, less)) a.1)
  where
    apart : (n m : ℕ) → m < n → (n == m) ≡ false
    apart n m e = grind (arith, nat_tests, e)

pub kept-from : (es : List Event) (requests : List Kept) (forms : List (Option Form)) → AreAsked Side.Received es requests forms → length requests ≤ length forms
    → AreKeptFrom es forms (length forms - length requests) (reverse requests)
kept-from es [] forms a less = tt
kept-from es (kept ∷ requests) [] a less = absurd (omega (arith, less))
kept-from es (kept ∷ requests) (form ∷ forms) a less =
    let others = kept-from es requests forms a.1 (omega (arith, less)) in
    let first : length (form ∷ forms) - length (kept ∷ requests) ≡ length forms - length requests = omega arith in
    let here : said_at (length forms) (form ∷ forms) ≡ form = ap (λ b. if b then form else said_at (length forms) forms) (same-number (length forms)) in
    let count = length-reverse requests in
    let last : (length forms - length requests) + length (reverse requests) ≡ length forms = omega (arith, less, count) in
    subst (λ l. AreKeptFrom es (form ∷ forms) (length (form ∷ forms) - length (kept ∷ requests)) l) (sym (reverse-append (kept ∷ []) requests))
    (subst (λ n. AreKeptFrom es (form ∷ forms) n (reverse requests ++ kept ∷ [])) (sym first)
    (kept-append es (form ∷ forms) (length forms - length requests) (reverse requests) (kept ∷ [])
    (kept-more es form forms (length forms - length requests) (reverse requests) (omega (arith, last)) others)
    (subst (λ n. AreKeptFrom es (form ∷ forms) n (kept ∷ [])) (sym last)
    ((a.0.said ∙ sym here, a.0.names ∙ ap (λ f. names_life Side.Received (length forms) f es) (sym here)), tt))))
