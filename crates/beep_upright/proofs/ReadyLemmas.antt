-- What each part of what is ready keeps, from one journal to a later one.
use Rattle.std.proofs.Common.{◌≡◌, ℕ, suc, ◌+◌, ◌-◌, ◌≤◌, ◌==◌, nat_lt, Bool, true, false, not, ◌&&◌, List, [], ◌∷◌, ◌++◌, length, reverse, Option, None, Some, refl, sym, ap, ◌∙◌, arith, subst}
use Rattle.std.specs.List.{list_all}
use Rattle.std.proofs.lemmas.List.{length-reverse}
use Rattle.beep_management.specs.beep_frame.specs.declared.kind.Kind.{Kind}
use Rattle.beep_management.specs.beep_mgmt.specs.Form.{Form, greeting, start, chosen, close, okay, fault}
use Rattle.beep_management.specs.beep_history.specs.declared.journal.Side.{Side}
use Rattle.beep_management.specs.beep_history.specs.Journal.{Item}
use Rattle.beep_management.specs.beep_journal.specs.declared.role.Role.{Role}
use Rattle.beep_management.specs.beep_journal.specs.Lives.{Event, is_live}
use Rattle.beep_management.specs.beep_journal.specs.Zero.{zero_history, asked, events}
use Rattle.beep_management.specs.beep_channel.specs.Held.{Live}
use Rattle.beep_management.specs.beep_decide.specs.Numbers.{may_start}
use Rattle.beep_lawful.specs.declared.terms.Terms.{Terms}
use Rattle.beep_management.specs.beep_asked.specs.Kept.{Kept, names_one}
use Rattle.beep_management.specs.beep_asked.specs.Asked.{names_life, AreAsked, AreWaiting}
use Rattle.beep_management.specs.Managed.{Prepared, Managed, numbers_of}
use Rattle.beep_management.proofs.ListLemmas.{reverse-first}
use Rattle.beep_upright.specs.Turns.{reply_kinds}
use Rattle.beep_upright.specs.Upright.{is_free, MayBegin, WasIdle, AreIdle, all_asked, IsLetGo, AreAnswered, place_of, AreReady}

-- ---- starts

all-same : (test other : ℕ → Bool) (ns : List ℕ) → ((n : ℕ) → other n ≡ test n) → list_all test ns ≡ true → list_all other ns ≡ true
all-same test other [] same all = refl
all-same test other (n ∷ ns) same all =
    rw (same n) (of (test n) all (all-same test other ns same))
  where
    of : (b : Bool) → (b && list_all test ns) ≡ true → (list_all test ns ≡ true → list_all other ns ≡ true) → (b && list_all other ns) ≡ true
    of true e later = later e
    of false e later = e

pub begin-same : (role : Role) (journal now : List Item) (channels : List Live) → ((n : ℕ) → is_live n (events now) ≡ is_live n (events journal))
    → MayBegin role journal channels → MayBegin role now channels
begin-same role journal now channels same may = record {
  free = all-same (is_free role journal) (is_free role now) (numbers_of channels) (λ n. ap (λ (b : Bool). may_start role n && not b) (same n)) may.free;
  apart = may.apart;
}

-- ---- own closes

-- each close at its place
pub each-idle : (journal now : List Item) (p : ℕ) (requests : List Kept)
    → ((kept : Kept) → names_one (λ n. is_live n (events now)) kept.said ≡ names_one (λ n. is_live n (events journal)) kept.said)
    → ((before : List Kept) (kept : Kept) (after : List Kept) → requests ≡ before ++ kept ∷ after → kept.names ≡ names_one (λ n. is_live n (events journal)) kept.said
    → WasIdle journal (p + length before) kept.said → WasIdle now (p + length before) kept.said)
    → AreIdle journal p requests → AreIdle now p requests
each-idle journal now p [] names each a = tt
each-idle journal now p (kept ∷ requests) names each a = (
  subst (λ (q : ℕ). WasIdle now q kept.said) (omega arith) (each [] kept requests refl a.1 (subst (λ (q : ℕ). WasIdle journal q kept.said) (omega arith) a.0)),
  a.1 ∙ sym (names kept),
  each-idle journal now (p + 1) requests names
      (λ before one after split named w.
      subst (λ (q : ℕ). WasIdle now q one.said) (place p (length before))
      (each (kept ∷ before) one after (ap (λ (l : List Kept). kept ∷ l) split) named (subst (λ (q : ℕ). WasIdle journal q one.said) (sym (place p (length before))) w)))
      a.2,
)
  where
    place : (p n : ℕ) → p + suc n ≡ p + 1 + n
    place p n = omega arith

pub names-same : (live was : ℕ → Bool) → ((n : ℕ) → live n ≡ was n) → (said : Option Form) → names_one live said ≡ names_one was said
names-same live was same None = refl
names-same live was same (Some (greeting features localize profiles)) = refl
names-same live was same (Some (start number server profiles)) = refl
names-same live was same (Some (chosen profile)) = refl
names-same live was same (Some (close number code note)) = ap (λ (b : Bool). nat_lt 0 number && b) (same number)
names-same live was same (Some okay) = refl
names-same live was same (Some (fault code note)) = refl

-- ---- the peer's requests, each at its place

-- from this position on each request names what the moments say
abbrev pub NameFrom : List Event → ℕ → List Kept → Type 0
NameFrom es p [] = Unit {0}
NameFrom es p (kept ∷ others) = (kept.names ≡ names_life Side.Received p kept.said es) × NameFrom es (p + 1) others

name-last : (es : List Event) (p q : ℕ) (requests : List Kept) (kept : Kept) → NameFrom es p requests → q ≡ p + length requests
    → kept.names ≡ names_life Side.Received q kept.said es → NameFrom es p (requests ++ kept ∷ [])
name-last es p q [] kept names at is = (subst (λ (k : ℕ). kept.names ≡ names_life Side.Received k kept.said es) (omega (arith, at)) is, tt)
name-last es p q (one ∷ requests) kept names at is = (names.0, name-last es (p + 1) q requests kept names.1 (omega (arith, at)) is)

asked-within : (es : List Event) (requests : List Kept) (forms : List (Option Form)) → AreAsked Side.Received es requests forms → length requests ≤ length forms
asked-within es [] forms a = omega arith
asked-within es (kept ∷ requests) [] a = absurd a
asked-within es (kept ∷ requests) (form ∷ forms) a = let h = asked-within es requests forms a.1 in omega (arith, h)

names-asked : (es : List Event) (requests : List Kept) (forms : List (Option Form)) → AreAsked Side.Received es requests forms
    → NameFrom es (place_of requests forms) (reverse requests)
names-asked es [] forms a = tt
names-asked es (kept ∷ requests) [] a = absurd a
names-asked es (kept ∷ requests) (form ∷ forms) a =
    subst (λ (l : List Kept). NameFrom es (place_of (kept ∷ requests) (form ∷ forms)) l) (sym (reverse-first kept requests))
    (name-last es (place_of (kept ∷ requests) (form ∷ forms)) (length forms) (reverse requests) kept
    (subst (λ (p : ℕ). NameFrom es p (reverse requests)) (less (length requests) (length forms)) (names-asked es requests forms a.1))
    (let h = asked-within es requests forms a.1 in omega (arith, h, length-reverse requests))
    (a.0.names ∙ ap (λ (o : Option Form). names_life Side.Received (length forms) o es) (sym a.0.said)))
  where
    less : (a b : ℕ) → b - a ≡ suc b - suc a
    less a b = omega arith

pub names-from : (journal : List Item) (requests : List Kept) → AreWaiting Side.Received (zero_history journal) requests
    → NameFrom (events journal) (place_of requests (asked Side.Received (zero_history journal))) (reverse requests)
names-from journal requests w = names-asked (events journal) requests (asked Side.Received (zero_history journal)) w.asked

-- each reply at its place
pub each-answered : (old new : List (Option Form)) (journal now : List Item) (asks more : ℕ → ℕ) (p : ℕ) (kinds : List Kind) (answers : List Prepared) (requests : List Kept)
    → NameFrom (events journal) p requests
    → ((before : List Kind) (kind : Kind) (after : List Kind) (earlier : List Kept) (kept : Kept) (later : List Kept) → kinds ≡ before ++ kind ∷ after
    → requests ≡ earlier ++ kept ∷ later → length earlier ≡ length before → kept.names ≡ names_life Side.Received (p + length before) kept.said (events journal)
    → IsLetGo old journal asks (p + length before) kind kept → IsLetGo new now more (p + length before) kind kept)
    → AreAnswered old journal asks p kinds answers requests → AreAnswered new now more p kinds answers requests
each-answered old new journal now asks more p [] [] requests names each a = tt
each-answered old new journal now asks more p [] (answer ∷ answers) [] names each a = tt
each-answered old new journal now asks more p [] (answer ∷ answers) (kept ∷ requests) names each a = (
  a.0,
  each-answered old new journal now asks more (p + 1) [] answers requests names.1 (λ before kind after earlier one later split. absurd (none before kind after split)) a.1,
)
  where
    none : (before : List Kind) (kind : Kind) (after : List Kind) → [] ≡ before ++ kind ∷ after → ⊥
    none [] kind after e = cc
    none (k ∷ before) kind after e = cc
each-answered old new journal now asks more p (kind ∷ kinds) answers [] names each a = tt
each-answered old new journal now asks more p (kind ∷ kinds) answers (kept ∷ requests) names each a = (
  subst (λ (q : ℕ). IsLetGo new now more q kind kept) (omega arith)
      (each [] kind kinds [] kept requests refl refl refl (subst (λ (q : ℕ). kept.names ≡ names_life Side.Received q kept.said (events journal)) (omega arith) names.0)
      (subst (λ (q : ℕ). IsLetGo old journal asks q kind kept) (omega arith) a.0)),
  each-answered old new journal now asks more (p + 1) kinds answers requests names.1
      (λ before one after earlier other later split ksplit count named l.
      subst (λ (q : ℕ). IsLetGo new now more q one other) (place p (length before))
      (each (kind ∷ before) one after (kept ∷ earlier) other later (ap (λ (l : List Kind). kind ∷ l) split) (ap (λ (l : List Kept). kept ∷ l) ksplit) (ap suc count)
      (subst (λ (q : ℕ). other.names ≡ names_life Side.Received q other.said (events journal)) (sym (place p (length before))) named)
      (subst (λ (q : ℕ). IsLetGo old journal asks q one other) (sym (place p (length before))) l)))
      a.1,
)
  where
    place : (p n : ℕ) → p + suc n ≡ p + 1 + n
    place p n = omega arith

-- ---- less is asked

let-less : (forms : List (Option Form)) (journal : List Item) (asks more : ℕ → ℕ) (p : ℕ) (kind : Kind) (kept : Kept) → ((n : ℕ) → (n == 0) ≡ false → more n ≤ asks n)
    → IsLetGo forms journal asks p kind kept → IsLetGo forms journal more p kind kept
let-less forms journal asks more p kind kept less l = record {
  quiet = l.quiet;
  still = λ rpy n above of. let a = l.still rpy n above of in let b = less n above in omega (arith, a, b);
}

answered-less : (forms : List (Option Form)) (journal : List Item) (asks more : ℕ → ℕ) → ((n : ℕ) → (n == 0) ≡ false → more n ≤ asks n) → (p : ℕ) (kinds : List Kind)
    (answers : List Prepared) (requests : List Kept) → AreAnswered forms journal asks p kinds answers requests → AreAnswered forms journal more p kinds answers requests
answered-less forms journal asks more less p [] [] requests a = tt
answered-less forms journal asks more less p [] (answer ∷ answers) [] a = tt
answered-less forms journal asks more less p [] (answer ∷ answers) (kept ∷ requests) a = (a.0, answered-less forms journal asks more less (p + 1) [] answers requests a.1)
answered-less forms journal asks more less p (kind ∷ kinds) answers [] a = tt
answered-less forms journal asks more less p (kind ∷ kinds) answers (kept ∷ requests) a =
    (let-less forms journal asks more p kind kept less a.0, answered-less forms journal asks more less (p + 1) kinds answers requests a.1)

pub less-asked : (terms : Terms) (journal : List Item) (kinds : List Kind) (asks more : ℕ → ℕ) (m : Managed) → ((n : ℕ) → (n == 0) ≡ false → more n ≤ asks n)
    → AreReady terms journal kinds asks m → AreReady terms journal kinds more m
less-asked terms journal kinds asks more m less r = record {
  idle = r.idle;
  greets = r.greets;
  starting = r.starting;
  granted = r.granted;
  order = r.order;
  acts = r.acts;
  unstarted = r.unstarted;
  closing = λ n above closing. let a = r.closing n above closing in let b = less n above in omega (arith, a, b);
  leaving = r.leaving;
  theirs = answered-less (all_asked journal m) journal asks more less (place_of m.theirs.requests (asked Side.Received (zero_history journal))) (reply_kinds kinds) m.answers
      (reverse m.theirs.requests) r.theirs;
}
