-- A whole reply on channel zero leaves what is ready so: one that goes out, and one that comes.
use Rattle.std.proofs.Common.{◌≡◌, ℕ, ◌%◌, ◌==◌, nat_lt, nat_le, Bool, true, false, not, ◌&&◌, ◌||◌, if◌then◌else◌, List, [], ◌∷◌, map, Option, None, Some, refl, sym, ap, ◌∙◌, arith, subst}
use Rattle.std.specs.List.{list_any, list_all}
use Rattle.std.specs.Option.{option_to_list}
use Rattle.std.proofs.lemmas.Bool.Decides.{nat_tests}
use Rattle.beep_management.specs.beep_frame.specs.declared.kind.Kind.{Kind}
use Rattle.beep_management.specs.beep_frame.specs.declared.head.TheConstants.{MAX_NUMBER}
use Rattle.beep_management.specs.beep_mgmt.specs.Form.{Form, PlainProfile, greeting, start, chosen, close, okay, fault}
use Rattle.beep_management.specs.beep_history.specs.declared.journal.Side.{Side}
use Rattle.beep_management.specs.beep_history.specs.Journal.{Item}
use Rattle.beep_management.specs.beep_history.specs.Marks.{previous}
use Rattle.beep_management.specs.beep_history.specs.Broken.{under_way}
use Rattle.beep_management.specs.beep_journal.specs.declared.role.Role.{Role}
use Rattle.beep_management.specs.beep_journal.specs.Lives.{Event, close_granted, is_live, lives}
use Rattle.beep_management.specs.beep_journal.specs.Zero.{zero_history, asked, events}
use Rattle.beep_management.specs.beep_journal.proofs.MomentLemmas.{other-start, other-start-lives, other-close, close-live}
use Rattle.beep_management.specs.beep_channel.specs.Held.{Live}
use Rattle.beep_management.specs.beep_decide.specs.Asks.{is_close_of}
use Rattle.beep_management.specs.beep_decide.specs.Numbers.{other_role, may_start}
use Rattle.beep_lawful.specs.declared.terms.Terms.{Terms}
use Rattle.beep_management.specs.beep_standing.specs.Moving.{MovesNone, BeginsLife, EndsLife, BeginsWhere, EndsWhere}
use Rattle.beep_management.specs.beep_asked.specs.Kept.{Kept, closes, is_leaving, clear, cleared_by, after_grant}
use Rattle.beep_management.specs.beep_asked.specs.Asked.{SaysLive}
use Rattle.beep_management.specs.beep_asked.specs.Granting.{IsGrantedAs, IsGranted}
use Rattle.beep_management.specs.Managed.{Managed, without, numbers_of}
use Rattle.beep_management.specs.Steps.{cleared_by as answers_cleared, answers_after}
use Rattle.beep_management.specs.Manages.{AreFresh}
use Rattle.beep_upright.specs.Upright.{MayBegin, WasIdle, WasQuiet, AreReady}
use Rattle.beep_upright.proofs.TestLemmas.{and-false, both-one, both-two, or-one, or-two, same-number, equal-number}
use Rattle.beep_upright.proofs.MovedLemmas.{cleared, held_by, clear-is, stay-is, held-clear, held-stay, moved-ready}
use Rattle.beep_upright.proofs.LessLemmas.{begun-ready, life-ready}

-- ---- what passes

-- a whole reply passed: what is asked stays, and closes that may go may go still
pub record Passes (journal now : List Item) : Type 0 where
  pub asks : (side : Side) → asked side (zero_history now) ≡ asked side (zero_history journal)
  pub idle : under_way Side.Sent now ≡ None
  pub before : previous Side.Sent now ≡ None → previous Side.Sent journal ≡ None
  pub idles : (p : ℕ) (said : Option Form) → ((k : ℕ) → is_close_of k said ≡ true → lives k (events now) ≡ lives k (events journal)) → WasIdle journal p said → WasIdle now p said
  pub quiets : (forms : List (Option Form)) (p : ℕ) (said : Option Form) → WasQuiet forms journal p said → WasQuiet forms now p said

-- ---- numbers of both ends

pub parity-apart : (role : Role) (n : ℕ) → may_start role n ≡ true → may_start (other_role role) n ≡ true → ⊥
parity-apart Role.Initiator n own theirs =
    let a : (n % 2 == 1) ≡ true = both-two (nat_lt 0 n && nat_le n MAX_NUMBER) (n % 2 == 1) own in
    let b : (n % 2 == 0) ≡ true = both-two (nat_lt 0 n && nat_le n MAX_NUMBER) (n % 2 == 0) theirs in
    let x = equal-number (n % 2) 1 a in let y = equal-number (n % 2) 0 b in omega (arith, x, y)
parity-apart Role.Listener n own theirs =
    let a : (n % 2 == 0) ≡ true = both-two (nat_lt 0 n && nat_le n MAX_NUMBER) (n % 2 == 0) own in
    let b : (n % 2 == 1) ≡ true = both-two (nat_lt 0 n && nat_le n MAX_NUMBER) (n % 2 == 1) theirs in
    let x = equal-number (n % 2) 0 a in let y = equal-number (n % 2) 1 b in omega (arith, x, y)

pub none-among : (test : ℕ → Bool) (n : ℕ) (ns : List ℕ) → list_all test ns ≡ true → (test n ≡ true → ⊥) → list_any (λ (k : ℕ). n == k) ns ≡ false
none-among test n [] all clash = refl
none-among test n (k ∷ ns) all clash = of (n == k) refl (none-among test n ns (both-two (test k) _ all) clash)
  where
    of : (b : Bool) → (n == k) ≡ b → list_any (λ (k : ℕ). n == k) ns ≡ false → (b || list_any (λ (k : ℕ). n == k) ns) ≡ false
    of false e rest = rest
    of true e rest = absurd (clash (subst (λ (x : ℕ). test x ≡ true) (sym (equal-number n k e)) (both-one (test k) _ all)))

pub any-turned : (n : ℕ) (ns : List ℕ) → list_any (λ (k : ℕ). k == n) ns ≡ false → list_any (λ (k : ℕ). n == k) ns ≡ false
any-turned n [] e = refl
any-turned n (k ∷ ns) e = rw (turned k n (or-one (k == n) _ e)) (any-turned n ns (or-two (k == n) _ e))
  where
    turned : (x y : ℕ) → (x == y) ≡ false → (y == x) ≡ false
    turned x y e = grind (arith, nat_tests)

pub fresh-one : (size n : ℕ) (channel : Option Live) → AreFresh size (n ∷ []) (option_to_list channel) → numbers_of (option_to_list channel) ≡ n ∷ []
fresh-one size n None fresh = absurd fresh
fresh-one size n (Some channel) fresh = ap (λ (k : ℕ). k ∷ []) fresh.0.is

-- ---- what a grant makes of lives

-- nothing names the life of a number that ends
pub record Ends (b : Bool) (n : ℕ) (before after : List Event) : Type 0 where
  pub lives : (k : ℕ) → lives k after ≡ lives k before
  pub live : (k : ℕ) → is_live k after ≡ (is_live k before && not (b && n == k))

and-true : (b : Bool) → (b && true) ≡ b
and-true true = refl
and-true false = refl

ends-none : (before after : List Event) → MovesNone before after → Ends false 0 before after
ends-none before after moves = record { lives = moves.lives; live = λ k. moves.live k ∙ sym (and-true (is_live k before)) }

ends-one : (n : ℕ) (before after : List Event) → EndsLife n before after → Ends true n before after
ends-one n before after ends = record {
  lives = λ k. ap (λ (es : List Event). lives k es) ends.granted;
  live = λ k. ap (λ (es : List Event). is_live k es) ends.granted ∙ of k (n == k) refl;
}
  where
    of : (k : ℕ) (b : Bool) → (n == k) ≡ b → is_live k (close_granted ends.side ends.position n ∷ before) ≡ (is_live k before && not b)
    of k false e = other-close n ends.side ends.position before k e ∙ sym (and-true (is_live k before))
    of k true e =
        subst (λ (j : ℕ). is_live j (close_granted ends.side ends.position n ∷ before) ≡ false) (equal-number n k e)
        (close-live n ends.side ends.position before (ap (λ (j : ℕ). j == lives n before) ends.named ∙ same-number (lives n before)))
        ∙ sym (and-false (is_live k before))

-- what is free as a life of a number begins
pub record IsFree (n : ℕ) (m : Managed) : Type 0 where
  pub starting : list_any (λ (k : ℕ). n == k) (numbers_of m.starting) ≡ false
  pub granted : list_any (λ (k : ℕ). n == k) (numbers_of m.granted) ≡ false
  pub unclosed : list_any (λ (kept : Kept). is_close_of n kept.said) m.acts.requests ≡ false
  pub staying : (is_leaving m.mine.requests || is_leaving m.acts.requests) ≡ false
  pub above : (n == 0) ≡ false

-- what is kept, once a request is granted
pub record IsAfter (one : Kept) (m new : Managed) : Type 0 where
  pub mine : new.mine.requests ≡ after_grant one m.mine.requests
  pub acts : new.acts.requests ≡ after_grant one m.acts.requests
  pub theirs : new.theirs.requests ≡ after_grant one m.theirs.requests
  pub answers : new.answers ≡ answers_after one m.answers
  pub starting : new.starting ≡ m.starting
  pub granted : new.granted ≡ m.granted

module _ (terms : Terms) (journal now : List Item) (kinds : List Kind) (asks : ℕ → ℕ) (m new : Managed) (r : AreReady terms journal kinds asks m) (t : Passes journal now) where
  -- nothing begins
  ends-ready : (b : Bool) (n : ℕ) → Ends b n (events journal) (events now) → new.mine.requests ≡ map (cleared b n) m.mine.requests → new.acts.requests ≡ map (cleared b n) m.acts.requests
      → new.theirs.requests ≡ map (cleared b n) m.theirs.requests → new.answers ≡ map (held_by b n) m.answers → new.starting ≡ m.starting → new.granted ≡ m.granted
      → AreReady terms now kinds asks new
  ends-ready b n ends mine acts theirs answers starting granted =
      moved-ready terms journal now kinds asks m new b n r ends.live t.asks t.idle t.before (λ p said. t.idles p said (λ k closes. ends.lives k)) t.quiets mine acts theirs answers starting granted

  pub none-ready : MovesNone (events journal) (events now) → new.mine.requests ≡ m.mine.requests → new.acts.requests ≡ m.acts.requests → new.theirs.requests ≡ m.theirs.requests
      → new.answers ≡ m.answers → new.starting ≡ m.starting → new.granted ≡ m.granted → AreReady terms now kinds asks new
  none-ready moves mine acts theirs answers starting granted =
      ends-ready false 0 (ends-none (events journal) (events now) moves) (mine ∙ stay-is 0 m.mine.requests) (acts ∙ stay-is 0 m.acts.requests) (theirs ∙ stay-is 0 m.theirs.requests)
      (answers ∙ held-stay 0 m.answers) starting granted

  module _ (one : Kept) (a : IsAfter one m new) (live : ℕ → Bool) (says : SaysLive live (events journal)) where
    begins : (n : ℕ) → IsFree n m → BeginsLife n (events journal) (events now) → new.mine.requests ≡ m.mine.requests → new.acts.requests ≡ m.acts.requests
        → new.theirs.requests ≡ m.theirs.requests → new.answers ≡ m.answers → AreReady terms now kinds asks new
    begins n free life mine acts theirs answers =
        begun-ready terms now kinds asks m new begun mine acts theirs answers
        (subst (λ (l : List Live). MayBegin terms.role now l) (sym a.starting) begun.starting)
        (subst (λ (l : List Live). MayBegin (other_role terms.role) now l) (sym a.granted) begun.granted)
        (λ none. a.starting ∙ none) (λ none. a.granted ∙ none)
      where
        apart : (k : ℕ) → (n == k) ≡ false → is_live k (events now) ≡ is_live k (events journal)
        apart k e = ap (λ (es : List Event). is_live k es) life.granted ∙ other-start n (events journal) k e

        lives-apart : (k : ℕ) → (n == k) ≡ false → lives k (events now) ≡ lives k (events journal)
        lives-apart k e = ap (λ (es : List Event). lives k es) life.granted ∙ other-start-lives n (events journal) k e

        begun : AreReady terms now kinds asks m
        begun =
            life-ready terms journal now kinds asks m n r apart t.asks t.idle t.before free.starting free.granted free.unclosed free.staying
            (λ p said none. t.idles p said (λ k closes. lives-apart k (other said none k closes))) t.quiets
          where
            other : (said : Option Form) → is_close_of n said ≡ false → (k : ℕ) → is_close_of k said ≡ true → (n == k) ≡ false
            other said none k closes = of (n == k) refl
              where
                of : (b : Bool) → (n == k) ≡ b → b ≡ false
                of false e = refl
                of true e = absurd (let g : true ≡ false = sym closes ∙ subst (λ (j : ℕ). is_close_of j said ≡ false) (equal-number n k e) none in cc)

    starts-where : (n : ℕ) (b : Bool) → (nat_lt 0 n && not (live n)) ≡ b → (free : IsFree n m) → is_live n (events journal) ≡ false → BeginsWhere b n (events journal) (events now)
        → new.mine.requests ≡ m.mine.requests → new.acts.requests ≡ m.acts.requests → new.theirs.requests ≡ m.theirs.requests → new.answers ≡ m.answers → AreReady terms now kinds asks new
    starts-where n true is free dead g mine acts theirs answers = begins n free g mine acts theirs answers
    starts-where n false is free dead g mine acts theirs answers =
        absurd (let h : true ≡ false = sym (rw (positive n free.above, says n free.above ∙ dead) refl) ∙ is in cc)
      where
        positive : (n : ℕ) → (n == 0) ≡ false → nat_lt 0 n ≡ true
        positive n e = grind (arith, nat_tests)

    closes-where : (n : ℕ) (b : Bool) → EndsWhere b n (events journal) (events now) → new.mine.requests ≡ (if b then clear n m.mine.requests else m.mine.requests)
        → new.acts.requests ≡ (if b then clear n m.acts.requests else m.acts.requests) → new.theirs.requests ≡ (if b then clear n m.theirs.requests else m.theirs.requests)
        → new.answers ≡ (if b then without n m.answers else m.answers) → AreReady terms now kinds asks new
    closes-where n true g mine acts theirs answers =
        ends-ready true n (ends-one n (events journal) (events now) g) (mine ∙ clear-is n m.mine.requests) (acts ∙ clear-is n m.acts.requests) (theirs ∙ clear-is n m.theirs.requests)
        (answers ∙ held-clear n m.answers) a.starting a.granted
    closes-where n false g mine acts theirs answers = none-ready g mine acts theirs answers a.starting a.granted

    pub grant-ready : ((n : ℕ) (server : Option (List ℕ)) (profiles : List PlainProfile) → one.said ≡ Some (start n server profiles) → IsFree n m × (is_live n (events journal) ≡ false))
        → IsGranted live one (events journal) (events now) → AreReady terms now kinds asks new
    grant-ready free g = of one.said refl g a.mine a.acts a.theirs a.answers
      where
        of : (said : Option Form) → one.said ≡ said → IsGrantedAs live said one.names (events journal) (events now) → new.mine.requests ≡ cleared_by said one.names m.mine.requests
            → new.acts.requests ≡ cleared_by said one.names m.acts.requests → new.theirs.requests ≡ cleared_by said one.names m.theirs.requests
            → new.answers ≡ answers_cleared said one.names m.answers → AreReady terms now kinds asks new
        of None is g mine acts theirs answers = none-ready g mine acts theirs answers a.starting a.granted
        of (Some (greeting features localize profiles)) is g mine acts theirs answers = none-ready g mine acts theirs answers a.starting a.granted
        of (Some (start number server profiles)) is g mine acts theirs answers =
            let f = free number server profiles is in starts-where number _ refl f.0 f.1 g mine acts theirs answers
        of (Some (chosen profile)) is g mine acts theirs answers = none-ready g mine acts theirs answers a.starting a.granted
        of (Some (close number code note)) is g mine acts theirs answers = closes-where number one.names g mine acts theirs answers
        of (Some okay) is g mine acts theirs answers = none-ready g mine acts theirs answers a.starting a.granted
        of (Some (fault code note)) is g mine acts theirs answers = none-ready g mine acts theirs answers a.starting a.granted
