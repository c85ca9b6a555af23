-- An answer whose wait is over may lawfully be given: what it grants to end is idle as it is given.
use Rattle.std.proofs.Common.{◌≡◌, ℕ, zero, suc, ◌+◌, ◌-◌, ◌<◌, ◌≤◌, ◌==◌, nat_lt, Bool, true, false, not, ◌&&◌, ◌||◌, if◌then◌else◌, List, [], ◌∷◌, ◌++◌, length, length-append, append_assoc, append-nil, map, filter, reverse, Option, None, Some, refl, sym, ap, ◌∙◌, arith, subst}
use Rattle.std.specs.Prelude.{is_some}
use Rattle.std.specs.List.{list_any}
use Rattle.std.proofs.lemmas.Bool.Decides.{nat_tests}
use Rattle.std.proofs.lemmas.List.{length-reverse, append_cancel_right, append_cancel_left}
use Rattle.std.proofs.lemmas.List.Elements.{filter-append}
use Rattle.beep_upright.specs.beep_frame.specs.declared.kind.Kind.{Kind}
use Rattle.beep_upright.specs.beep_frame.specs.Frame.{is_msg, same_kind}
use Rattle.beep_upright.specs.beep_mgmt.specs.Form.{Form, greeting, start, chosen, close, okay, fault}
use Rattle.beep_upright.specs.beep_mgmt.specs.Message.{message_said}
use Rattle.beep_upright.specs.beep_text.specs.Said.{element_said}
use Rattle.beep_upright.specs.beep_history.specs.declared.journal.Side.{Side}
use Rattle.beep_upright.specs.beep_history.specs.Journal.{Item}
use Rattle.beep_upright.specs.beep_history.specs.Marks.{Request, requests, is_answered, marks}
use Rattle.beep_upright.specs.beep_history.proofs.ListsLemmas.{IsNumbered}
use Rattle.beep_upright.specs.beep_history.proofs.SoundLemmas.{requests-numbered}
use Rattle.beep_upright.specs.beep_journal.specs.Lives.{Event, close_came, start_granted, close_granted, lives, has_ended, is_live, life_named}
use Rattle.beep_upright.specs.beep_journal.proofs.LivesLemmas.{ended-before}
use Rattle.beep_upright.specs.beep_journal.proofs.MomentLemmas.{named-within}
use Rattle.beep_upright.specs.beep_journal.specs.Zero.{zero_history, asked, said_at, events}
use Rattle.beep_upright.specs.beep_journal.specs.Life.{is_there, history, life, life_now}
use Rattle.beep_upright.specs.beep_channel.specs.Held.{Live}
use Rattle.beep_upright.specs.beep_lives.specs.Lives.{live_at}
use Rattle.beep_upright.specs.beep_decide.specs.Asks.{is_close_of}
use Rattle.beep_upright.specs.beep_lawful.specs.Closing.{is_drained, are_drained, has_other_asking, is_ready, has_come, was_quiet_since}
use Rattle.beep_upright.specs.beep_lawful.specs.declared.terms.Terms.{Terms}
use Rattle.beep_upright.specs.beep_standing.specs.Standing.{Marks, AreLiveBy}
use Rattle.beep_upright.specs.beep_standing.proofs.DueLemmas.{channel-drained}
use Rattle.beep_upright.specs.beep_standing.proofs.ZeroLemmas.{none-of-zero}
use Rattle.beep_upright.specs.beep_spoken.specs.Spoken.{Spoken, kinds_of}
use Rattle.beep_upright.specs.beep_outbox.specs.Queue.{Message, marks_of}
use Rattle.beep_upright.specs.beep_asked.specs.Kept.{Kept, asks_otherwise}
use Rattle.beep_upright.specs.beep_asked.specs.Asked.{names_life, AreAsked, AreWaiting}
use Rattle.beep_upright.specs.beep_management.specs.declared.wait.Wait.{Wait}
use Rattle.beep_upright.specs.beep_management.specs.Managed.{Prepared, Managed}
use Rattle.beep_upright.specs.beep_management.specs.Manages.{IsManaged, ArePrepared}
use Rattle.beep_upright.specs.Turns.{kinds_at, reply_kinds}
use Rattle.beep_upright.specs.Upright.{asked_at, asked_in, all_asked, said_before, WasQuiet, is_of_close, IsLetGo, wait_of, IsHeldBack, AreAnswered, place_of, AreReady, IsUpright}
use Rattle.beep_upright.proofs.TestLemmas.{both-one, both-two, or-true, equal-number, not-true}
use Rattle.beep_upright.proofs.MoreLemmas.{request_kinds}
use Rattle.beep_upright.proofs.ReadyLemmas.{NameFrom, names-from, less-asked}
use Rattle.beep_upright.proofs.JoinLemmas.{answer-given}
use Rattle.beep_upright.proofs.BegunLemmas.{any-in}
use Rattle.beep_upright.proofs.KindsLemmas.{count-requests, count-replies, requests-given}
use Rattle.beep_peer.specs.Peering.{Holds}
use Rattle.beep_peer.specs.Calls.{LetsGo}
use Rattle.beep_peer.specs.Waiting.{IsDrainedAt, HasCome, AllHaveCome, AreLetGo, KeepsAbove, AreGiven}
use Rattle.beep_peer.proofs.KindsLemmas.{kinds-append, queue-kinds, kinds-by}

-- ---- what own requests say

none-one : (a b : Bool) → (a || b) ≡ false → a ≡ false
none-one true b e = cc
none-one false b e = refl

none-two : (a b : Bool) → (a || b) ≡ false → b ≡ false
none-two true b e = cc
none-two false b e = e

not-so : (b : Bool) → not b ≡ false → b ≡ true
not-so true e = refl
not-so false e = cc

less-than : (f p : ℕ) → (f == p) ≡ false → p < suc f → p < f
less-than f p e h = grind (arith, nat_tests)

said-mine : (es : List Event) (mine : List Kept) (forms : List (Option Form)) → AreAsked Side.Sent es mine forms → asks_otherwise mine ≡ false
    → (p : ℕ) → length forms ≤ p + length mine → p < length forms → is_close_of 0 (said_at p forms) ≡ true
said-mine es [] forms a all p later within = absurd (omega (arith, later, within))
said-mine es (kept ∷ mine) [] a all p later within = absurd a
said-mine es (kept ∷ mine) (form ∷ forms) a all p later within =
    of (length forms == p) refl (λ h. said-mine es mine forms a.1 (none-two (not (is_close_of 0 kept.said)) _ all) p (omega (arith, later)) h)
  where
    of : (b : Bool) → (length forms == p) ≡ b → (p < length forms → is_close_of 0 (said_at p forms) ≡ true) → is_close_of 0 (if b then form else said_at p forms) ≡ true
    of true is rest = ap (is_close_of 0) (sym a.0.said) ∙ not-so (is_close_of 0 kept.said) (none-one (not (is_close_of 0 kept.said)) _ all)
    of false is rest = rest (less-than (length forms) p is within)

said-among : (es : List Event) (acts mine : List Kept) (forms : List (Option Form)) → AreAsked Side.Sent es mine forms → asks_otherwise mine ≡ false → asks_otherwise acts ≡ false
    → (p : ℕ) → length forms ≤ p + length mine → p < length (said_before acts forms) → is_close_of 0 (said_at p (said_before acts forms)) ≡ true
said-among es [] mine forms a all none p later within = said-mine es mine forms a all p later within
said-among es (kept ∷ acts) mine forms a all none p later within =
    of (length (said_before acts forms) == p) refl (λ h. said-among es acts mine forms a all (none-two (not (is_close_of 0 kept.said)) _ none) p later h)
  where
    of : (b : Bool) → (length (said_before acts forms) == p) ≡ b → (p < length (said_before acts forms) → is_close_of 0 (said_at p (said_before acts forms)) ≡ true)
        → is_close_of 0 (if b then kept.said else said_at p (said_before acts forms)) ≡ true
    of true is rest = not-so (is_close_of 0 kept.said) (none-one (not (is_close_of 0 kept.said)) _ none)
    of false is rest = rest (less-than (length (said_before acts forms)) p is within)

any-none : (rs : List Request) (keeps test : Request → Bool) → IsNumbered rs → ((r : Request) → r.position < length rs → keeps r ≡ true → test r ≡ false)
    → list_any test (filter keeps rs) ≡ false
any-none [] keeps test numbered none = refl
any-none (r ∷ rs) keeps test numbered none = of (keeps r) refl (any-none rs keeps test numbered.1 (λ one h. none one (omega (arith, h))))
  where
    of : (b : Bool) → keeps r ≡ b → list_any test (filter keeps rs) ≡ false → list_any test (if b then r ∷ filter keeps rs else filter keeps rs) ≡ false
    of true is rest = rw (none r (omega (arith, numbered.0)) is, rest) refl
    of false is rest = rest

-- ---- the peer's requests

name-at : (es : List Event) (p : ℕ) (earlier : List Kept) (kept : Kept) (later : List Kept) → NameFrom es p (earlier ++ kept ∷ later)
    → kept.names ≡ names_life Side.Received (p + length earlier) kept.said es
name-at es p [] kept later names = subst (λ (q : ℕ). kept.names ≡ names_life Side.Received q kept.said es) (omega arith) names.0
name-at es p (one ∷ earlier) kept later names =
    subst (λ (q : ℕ). kept.names ≡ names_life Side.Received q kept.said es) (place p (length earlier)) (name-at es (p + 1) earlier kept later names.1)
  where
    place : (p n : ℕ) → p + 1 + n ≡ p + suc n
    place p n = omega arith

says-nothing : message_said [] ≡ None
unfolding message_said element_said
says-nothing = refl

-- in the empty journal the implied one alone waits
empty-says : (es : List Event) (requests : List Kept) → AreAsked Side.Received es requests (asked Side.Received (zero_history []))
    → (earlier : List Kept) (kept : Kept) (later : List Kept) → reverse requests ≡ earlier ++ kept ∷ later → kept.said ≡ None
empty-says es [] a earlier kept later split = absurd (let e : 0 ≡ length (earlier ++ kept ∷ later) = ap length split in omega (arith, e, length-append earlier (kept ∷ later)))
empty-says es (one ∷ []) a [] kept later split = let same : one ≡ kept = cc in sym (ap (λ (k : Kept). k.said) same) ∙ a.0.said ∙ says-nothing
empty-says es (one ∷ []) a (e ∷ earlier) kept later split =
    absurd (let c : 1 ≡ length ((e ∷ earlier) ++ kept ∷ later) = ap length split in omega (arith, c, length-append earlier (kept ∷ later)))
empty-says es (one ∷ other ∷ requests) a earlier kept later split = absurd a.1

quiet-now : (journal : List Item) (p n k : ℕ) (forms : List (Option Form)) → (journal ≡ [] → ⊥) → has_come p journal ≡ true → is_ready n k forms journal ≡ true
    → was_quiet_since p n k forms journal ≡ true
quiet-now [] p n k forms some come ready = absurd (some refl)
quiet-now (item ∷ journal) p n k forms some come ready = rw (come, ready) refl

last-tests : (a b c d e f : Bool) → (a && b && (c && d && (e && f))) ≡ true → e ≡ true
last-tests true true true true true f h = refl
last-tests true true true true false f h = cc
last-tests true true true false e f h = cc
last-tests true true false d e f h = cc
last-tests true false c d e f h = cc
last-tests false b c d e f h = cc

is-positive : (n : ℕ) → (n == 0) ≡ false → nat_lt 0 n ≡ true
is-positive n e = grind (arith, nat_tests)

last-so : (a b c : Bool) → c ≡ true → (a || b || c) ≡ true
last-so true b c e = refl
last-so false true c e = refl
last-so false false c e = e

-- a life that has begun and isn't live has ended
ended-named : (n k : ℕ) (es : List Event) → k ≤ lives n es → (k == 0) ≡ false → (is_live n es && (k == lives n es)) ≡ false → has_ended n k es ≡ true
ended-named n k es below some none = of (k == lives n es) refl
  where
    pos : (k l : ℕ) → (k == 0) ≡ false → k ≤ l → (0 < k) × (nat_lt 0 l ≡ true)
    pos k l e h = (grind (arith, nat_tests), grind (arith, nat_tests))

    less : (k l : ℕ) → k ≤ l → (k == l) ≡ false → k < l
    less k l h e = grind (arith, nat_tests)

    ended-is : (a b : Bool) → a ≡ true → ((a && not b) && true) ≡ false → b ≡ true
    ended-is a true some e = refl
    ended-is a false some e = absurd (let g : true ≡ false = sym (rw some refl) ∙ e in cc)

    of : (b : Bool) → (k == lives n es) ≡ b → has_ended n k es ≡ true
    of false apart = ended-before n k es (pos k (lives n es) some below).0 (less k (lives n es) below apart)
    of true same =
        ap (λ (x : ℕ). has_ended n x es) (equal-number k (lives n es) same)
        ∙ ended-is (nat_lt 0 (lives n es)) (has_ended n (lives n es) es) (pos k (lives n es) some below).1
        (sym (ap (λ (b : Bool). is_live n es && b) same) ∙ none)

-- ---- what an answer waits for, by the journal

module _ (size : ℕ) (journal : List Item) (given taken : Marks) (channels : List Live) (m : Managed) (s : AreLiveBy size journal given taken channels)
    (spoken prepared : List Spoken) (d : IsManaged size journal given m spoken prepared) where
  drained : (n : ℕ) → (n == 0) ≡ false → is_live n (events journal) ≡ true → IsDrainedAt n channels → is_drained (history n journal) ≡ true
  drained n above live at = of (live_at n channels) refl
    where
      there : is_there n journal ≡ true
      there = rw (above, live) refl

      of : (o : Option Live) → live_at n channels ≡ o → is_drained (history n journal) ≡ true
      of None is = absurd (let e : true ≡ false = sym there ∙ s.there n ∙ ap (λ (o : Option Live). is_some o) is in cc)
      of (Some c) is = let x = (channel-drained size journal given taken channels s n c is).0 (at above c is) in rw (x.theirs, x.own) refl

  asks-none : (n : ℕ) → (n == 0) ≡ false → IsDrainedAt n channels → asked_at channels n ≡ 0
  asks-none n above at = of (live_at n channels) refl
    where
      of : (o : Option Live) → live_at n channels ≡ o → asked_in o ≡ 0
      of None is = refl
      of (Some c) is =
          equal-number c.held.life.given.asked 0
          (last-tests (length c.held.queue == 0) (length c.held.inbox == 0) (c.held.life.sent.waiting == 0) (c.held.life.received.waiting == 0) (c.held.life.given.asked == 0)
          (c.held.life.given.owed == 0) (at above c is))

  all-drained : ((n : ℕ) → IsDrainedAt n channels) → (es : List Event) → are_drained es journal ≡ true
  all-drained all [] = refl
  all-drained all (close_came side position number ∷ es) = all-drained all es
  all-drained all (close_granted side position number ∷ es) = all-drained all es
  all-drained all (start_granted number ∷ es) = rw (one (is_live number (events journal)) refl (number == 0) refl, all-drained all es) refl
    where
      one : (b : Bool) → is_live number (events journal) ≡ b → (z : Bool) → (number == 0) ≡ z → (not (is_live number (events journal)) || is_drained (history number journal)) ≡ true
      one false is z e = rw is refl
      one true is true e =
          absurd (let g : false ≡ true = sym (none-of-zero journal) ∙ ap (λ (k : ℕ). is_live k (events journal)) (sym (equal-number number 0 e)) ∙ is in cc)
      one true is false e = rw (drained number e is (all number)) (or-true _)

  none-other : asks_otherwise m.mine.requests ≡ false → asks_otherwise m.acts.requests ≡ false → has_other_asking (all_asked journal m) (zero_history journal) ≡ false
  none-other mine acts =
      any-none (requests Side.Sent (zero_history journal)) (λ r. not (is_answered Side.Sent r.position (zero_history journal))) (λ r. not (is_close_of 0 (said_at r.position (all_asked journal m))))
      (requests-numbered Side.Sent (zero_history journal))
      (λ r within waits.
      let g = requests-given size journal journal given taken channels m spoken prepared s d in
      ap not (said-among (events journal) m.acts.requests m.mine.requests (asked Side.Sent (zero_history journal)) (asked-by d.mine) mine acts r.position
      (later r.position (length m.mine.requests) (length (asked Side.Sent (zero_history journal)))
      (sym (d.mine.answered r.position) ∙ not-true (is_answered Side.Sent r.position (zero_history journal)) waits)) (omega (arith, within, g))))
    where
      asked-by : AreWaiting Side.Sent (zero_history journal) m.mine.requests → AreAsked Side.Sent (events journal) m.mine.requests (asked Side.Sent (zero_history journal))
      asked-by w = w.asked

      later : (p a b : ℕ) → nat_lt (p + a) b ≡ false → b ≤ p + a
      later p a b e = grind (arith, nat_tests)

  -- the grant of a close may go, once what it waits for has come
  ready : (p number : ℕ) (code : ℕ) (note : _) (names : Bool) → names ≡ names_life Side.Received p (Some (close number code note)) (events journal)
      → HasCome (wait_of (Some (close number code note)) names) channels m
      → is_ready number (life_named number Side.Received p (events journal)) (all_asked journal m) journal ≡ true
  ready p number code note names named come = of (number == 0) refl come
    where
      of : (z : Bool) → (number == 0) ≡ z → HasCome (if z then Wait.All else if names then Wait.Life number else Wait.Nothing) channels m
          → (if z then are_drained (events journal) journal && not (has_other_asking (all_asked journal m) (zero_history journal))
          else life_named number Side.Received p (events journal) == 0
          || has_ended number (life_named number Side.Received p (events journal)) (events journal)
          || is_drained (life number (life_named number Side.Received p (events journal)) journal)) ≡ true
      of true e c = rw (all-drained c.2 (events journal), none-other c.0 c.1) refl
      of false e c = by (life_named number Side.Received p (events journal) == 0) refl names refl c
        where
          within : life_named number Side.Received p (events journal) ≤ lives number (events journal)
          within = named-within number Side.Received p (events journal)

          above : nat_lt 0 number ≡ true
          above = is-positive number e

          names-are : (is_live number (events journal) && (life_named number Side.Received p (events journal) == lives number (events journal))) ≡ names
          names-are = sym (named ∙ rw above refl)

          by : (z : Bool) → (life_named number Side.Received p (events journal) == 0) ≡ z → (b : Bool) → names ≡ b → HasCome (if b then Wait.Life number else Wait.Nothing) channels m
              → (life_named number Side.Received p (events journal) == 0
              || has_ended number (life_named number Side.Received p (events journal)) (events journal)
              || is_drained (life number (life_named number Side.Received p (events journal)) journal)) ≡ true
          by true z b is c = rw z refl
          by false z false is c =
              rw (z, ended-named number (life_named number Side.Received p (events journal)) (events journal) within z (names-are ∙ is)) refl
          by false z true is c =
              let live : is_live number (events journal) ≡ true = both-one (is_live number (events journal)) _ (names-are ∙ is) in
              let last : life_named number Side.Received p (events journal) ≡ lives number (events journal) =
              equal-number _ _ (both-two (is_live number (events journal)) _ (names-are ∙ is)) in
              let past : history number journal ≡ life number (life_named number Side.Received p (events journal)) journal =
              ap (λ (b : Bool). if b then zero_history journal else life number (life_now number journal) journal) e
              ∙ ap (λ (b : Bool). life number (if b then lives number (events journal) else 0) journal) live
              ∙ ap (λ (k : ℕ). life number k journal) (sym last) in
              last-so (life_named number Side.Received p (events journal) == 0) (has_ended number (life_named number Side.Received p (events journal)) (events journal)) _
              (ap is_drained (sym past) ∙ drained number e live c)

  let-go : (waits : Wait) (kind : Kind) (earlier : List Kept) (kept : Kept) (later : List Kept) → reverse m.theirs.requests ≡ earlier ++ kept ∷ later
      → (same_kind Kind.Rpy kind ≡ true → waits ≡ wait_of kept.said kept.names) → HasCome waits channels m
      → IsLetGo (all_asked journal m) journal (asked_at channels) (place_of m.theirs.requests (asked Side.Received (zero_history journal)) + length earlier) kind kept
  let-go waits kind earlier kept later split held come = record {
    quiet = λ rpy. quiet kept.said refl (subst (λ (w : Wait). HasCome w channels m) (held rpy) come);
    still = λ rpy n above of. still kept.said refl (subst (λ (w : Wait). HasCome w channels m) (held rpy) come) n above of;
  }
    where
      named : kept.names ≡ names_life Side.Received (place_of m.theirs.requests (asked Side.Received (zero_history journal)) + length earlier) kept.said (events journal)
      named = name-at (events journal) (place_of m.theirs.requests (asked Side.Received (zero_history journal))) earlier kept later
          (subst (λ (l : List Kept). NameFrom (events journal) (place_of m.theirs.requests (asked Side.Received (zero_history journal))) l) split (names-from journal m.theirs.requests d.theirs))

      has : has_come (place_of m.theirs.requests (asked Side.Received (zero_history journal)) + length earlier) journal ≡ true
      has =
          let w = d.theirs.within in
          let c : length m.theirs.requests ≡ length (earlier ++ kept ∷ later) = sym (length-reverse m.theirs.requests) ∙ ap length split in
          come-by (length (asked Side.Received (zero_history journal))) (length m.theirs.requests) (length earlier) w (omega (arith, c, length-append earlier (kept ∷ later)))
        where
          come-by : (a t e : ℕ) → t ≤ a → e < t → nat_lt (a - t + e) a ≡ true
          come-by a t e w h = grind (arith, nat_tests)

      some : (number code : ℕ) (note : _) → kept.said ≡ Some (close number code note) → journal ≡ [] → ⊥
      some number code note is none =
          let e : None ≡ Some (close number code note) =
          sym (empty-says (events journal) m.theirs.requests
          (subst (λ (j : List Item). AreAsked Side.Received (events journal) m.theirs.requests (asked Side.Received (zero_history j))) none d.theirs.asked) earlier kept later split) ∙ is in
          cc

      quiet : (said : Option Form) → kept.said ≡ said → HasCome (wait_of said kept.names) channels m → WasQuiet (all_asked journal m) journal (place_of m.theirs.requests (asked Side.Received (zero_history journal)) + length earlier) said
      quiet None is c = tt
      quiet (Some (greeting features localize profiles)) is c = tt
      quiet (Some (start number server profiles)) is c = tt
      quiet (Some (chosen profile)) is c = tt
      quiet (Some okay) is c = tt
      quiet (Some (fault code note)) is c = tt
      quiet (Some (close number code note)) is c =
          quiet-now journal (place_of m.theirs.requests (asked Side.Received (zero_history journal)) + length earlier) number (life_named number Side.Received (place_of m.theirs.requests (asked Side.Received (zero_history journal)) + length earlier) (events journal)) (all_asked journal m) (some number code note is) has
          (ready (place_of m.theirs.requests (asked Side.Received (zero_history journal)) + length earlier) number code note kept.names (named ∙ ap (λ (o : Option Form). names_life Side.Received (place_of m.theirs.requests (asked Side.Received (zero_history journal)) + length earlier) o (events journal)) is) c)

      still : (said : Option Form) → kept.said ≡ said → HasCome (wait_of said kept.names) channels m → (n : ℕ) → (n == 0) ≡ false → is_of_close n kept ≡ true → asked_at channels n ≡ 0
      still None is c n above of = absurd (let e : false ≡ true = sym (ap (λ (o : Option Form). is_close_of 0 o || (is_close_of n o && (n == 0 || kept.names))) is) ∙ of in cc)
      still (Some (greeting features localize profiles)) is c n above of =
          absurd (let e : false ≡ true = sym (ap (λ (o : Option Form). is_close_of 0 o || (is_close_of n o && (n == 0 || kept.names))) is) ∙ of in cc)
      still (Some (start number server profiles)) is c n above of =
          absurd (let e : false ≡ true = sym (ap (λ (o : Option Form). is_close_of 0 o || (is_close_of n o && (n == 0 || kept.names))) is) ∙ of in cc)
      still (Some (chosen profile)) is c n above of =
          absurd (let e : false ≡ true = sym (ap (λ (o : Option Form). is_close_of 0 o || (is_close_of n o && (n == 0 || kept.names))) is) ∙ of in cc)
      still (Some okay) is c n above of = absurd (let e : false ≡ true = sym (ap (λ (o : Option Form). is_close_of 0 o || (is_close_of n o && (n == 0 || kept.names))) is) ∙ of in cc)
      still (Some (fault code note)) is c n above of =
          absurd (let e : false ≡ true = sym (ap (λ (o : Option Form). is_close_of 0 o || (is_close_of n o && (n == 0 || kept.names))) is) ∙ of in cc)
      still (Some (close number code note)) is c n above of =
          by (number == 0) kept.names c (number == n) refl (sym (ap (λ (o : Option Form). is_close_of 0 o || (is_close_of n o && (n == 0 || kept.names))) is) ∙ of)
        where
          by : (z names : Bool) → HasCome (if z then Wait.All else if names then Wait.Life number else Wait.Nothing) channels m → (same : Bool) → (number == n) ≡ same
              → (z || (same && (n == 0 || names))) ≡ true → asked_at channels n ≡ 0
          by true names c same e t = asks-none n above (c.2 n)
          by false true c true e t = asks-none n above (subst (λ (k : ℕ). IsDrainedAt k channels) (equal-number number n e) c)
          by false false c true e t = absurd (let g : false ≡ true = sym (rw above refl) ∙ t in cc)
          by false names c false e t = cc

  -- ---- one answer after another

  at-place : {X : Type 0} (n : ℕ) (xs : List X) → n < length xs → (earlier : List X) × (x : X) × (later : List X) × (xs ≡ earlier ++ x ∷ later) × (length earlier ≡ n)
  at-place n [] h = absurd (omega (arith, h))
  at-place zero (x ∷ xs) h = ([], x, xs, refl, refl)
  at-place (suc n) (x ∷ xs) h =
      let r = at-place n xs (omega (arith, h)) in (x ∷ r.0, r.1, r.2, ap (λ l. x ∷ l) r.3, ap suc r.4)

  held-at : (p : ℕ) (kinds : List Kind) (answer : Prepared) (answers : List Prepared) (earlier : List Kept) (kept : Kept) (later : List Kept) → length earlier ≡ length kinds
      → AreAnswered (all_asked journal m) journal (asked_at channels) p kinds (answer ∷ answers) (earlier ++ kept ∷ later) → IsHeldBack answer kept
  held-at p [] answer answers [] kept later count a = a.0
  held-at p [] answer answers (one ∷ earlier) kept later count a = absurd (omega (arith, count))
  held-at p (kind ∷ kinds) answer answers [] kept later count a = absurd (omega (arith, count))
  held-at p (kind ∷ kinds) answer answers (one ∷ earlier) kept later count a = held-at (p + 1) kinds answer answers earlier kept later (omega (arith, count)) a.1

  more-requests : (kinds : List Kind) (kind : Kind) → is_msg kind ≡ false → length (request_kinds (kinds ++ kind ∷ [])) ≡ length (request_kinds kinds)
  more-requests kinds kind reply =
      ap length (filter-append (λ (k : Kind). is_msg k) kinds (kind ∷ []) ∙ ap (λ (l : List Kind). request_kinds kinds ++ l) (rw reply refl) ∙ append-nil (request_kinds kinds))

  more-replies : (kinds : List Kind) (kind : Kind) → is_msg kind ≡ false → length (reply_kinds (kinds ++ kind ∷ [])) ≡ length (reply_kinds kinds) + 1
  more-replies kinds kind reply =
      ap length (filter-append (λ (k : Kind). not (is_msg k)) kinds (kind ∷ []) ∙ ap (λ (l : List Kind). reply_kinds kinds ++ l) (rw reply refl)) ∙ length-append (reply_kinds kinds) (kind ∷ [])

  module _ (terms : Terms) where
    one-given : (kinds : List Kind) (answer : Prepared) (answers : List Prepared) → HasCome answer.waits channels m → is_msg answer.kind ≡ false
        → length (request_kinds kinds) ≡ length m.acts.requests → length (reply_kinds kinds) + length (answer ∷ answers) ≡ length m.theirs.requests
        → AreReady terms journal kinds (asked_at channels) (record m { answers = answer ∷ answers })
        → AreReady terms journal (kinds ++ answer.kind ∷ []) (asked_at channels) (record m { answers = answers })
    one-given kinds answer answers come reply count enough r =
        let at = at-place (length (reply_kinds kinds)) (reverse m.theirs.requests) (omega (arith, enough, length-reverse m.theirs.requests)) in
        let held : IsHeldBack answer at.1 = held-at (place_of m.theirs.requests (asked Side.Received (zero_history journal))) (reply_kinds kinds) answer answers at.0 at.1 at.2 at.4
        (subst (λ (l : List Kept). AreAnswered (all_asked journal m) journal (asked_at channels) (place_of m.theirs.requests (asked Side.Received (zero_history journal))) (reply_kinds kinds)
        (answer ∷ answers) l) at.3 r.theirs) in
        answer-given terms journal kinds (asked_at channels) (record m { answers = answer ∷ answers }) (record m { answers = answers }) r answer refl refl reply (omega (arith, count))
        at.0 at.1 at.2 at.3 at.4
        (λ back. subst (λ (n : ℕ). IsLetGo (all_asked journal m) journal (asked_at channels) (place_of m.theirs.requests (asked Side.Received (zero_history journal)) + n) answer.kind at.1) at.4
        (let-go answer.waits answer.kind at.0 at.1 at.2 at.3 back come))
        (λ rpy closes one before after split. release at.1 closes (subst (λ (w : Wait). HasCome w channels m) (held rpy) come) one before after split)
      where
        quiet-acts : asks_otherwise m.acts.requests ≡ false → (one : Kept) (before after : List Kept) → reverse m.acts.requests ≡ before ++ one ∷ after → is_close_of 0 one.said ≡ true
        quiet-acts none one before after split = of (is_close_of 0 one.said) refl
          where
            of : (b : Bool) → is_close_of 0 one.said ≡ b → b ≡ true
            of true is = refl
            of false is = absurd (let g : false ≡ true = sym none ∙ any-in (λ (kept : Kept). not (is_close_of 0 kept.said)) m.acts.requests before one after split (rw is refl) in cc)

        release : (kept : Kept) → is_close_of 0 kept.said ≡ true → HasCome (wait_of kept.said kept.names) channels m → (one : Kept) (before after : List Kept)
            → reverse m.acts.requests ≡ before ++ one ∷ after → is_close_of 0 one.said ≡ true
        release kept closes c = by kept.said closes c
          where
            by : (said : Option Form) → is_close_of 0 said ≡ true → HasCome (wait_of said kept.names) channels m → (one : Kept) (before after : List Kept)
                → reverse m.acts.requests ≡ before ++ one ∷ after → is_close_of 0 one.said ≡ true
            by None closes c = cc
            by (Some (greeting features localize profiles)) closes c = cc
            by (Some (start number server profiles)) closes c = cc
            by (Some (chosen profile)) closes c = cc
            by (Some okay) closes c = cc
            by (Some (fault code note)) closes c = cc
            by (Some (close number code note)) closes c = quiet-acts (acts-of (number == 0) closes c)
              where
                acts-of : (z : Bool) → z ≡ true → HasCome (if z then Wait.All else if kept.names then Wait.Life number else Wait.Nothing) channels m → asks_otherwise m.acts.requests ≡ false
                acts-of true e c = c.1
                acts-of false e c = cc

    all-given : (gone rest : List Prepared) (kinds : List Kind) (messages : List Spoken) → AllHaveCome gone channels m → ArePrepared (gone ++ rest) messages
        → length (request_kinds kinds) ≡ length m.acts.requests → length (reply_kinds kinds) + length (gone ++ rest) ≡ length m.theirs.requests
        → AreReady terms journal kinds (asked_at channels) (record m { answers = gone ++ rest })
        → AreReady terms journal (kinds ++ map (λ (answer : Prepared). answer.kind) gone) (asked_at channels) (record m { answers = rest })
    all-given [] rest kinds messages come are count enough r =
        subst (λ (ks : List Kind). AreReady terms journal ks (asked_at channels) (record m { answers = rest })) (sym (append-nil kinds)) r
    all-given (answer ∷ gone) rest kinds [] come are count enough r = absurd are
    all-given (answer ∷ gone) rest kinds (one ∷ messages) come are count enough r =
        let reply : is_msg answer.kind ≡ false = ap is_msg (sym are.0.kind) ∙ are.0.reply in
        subst (λ (ks : List Kind). AreReady terms journal ks (asked_at channels) (record m { answers = rest }))
        (append_assoc kinds (answer.kind ∷ []) (map (λ (answer : Prepared). answer.kind) gone))
        (all-given gone rest (kinds ++ answer.kind ∷ []) messages come.1 are.1 (more-requests kinds answer.kind reply ∙ count)
        (omega (arith, enough, more-replies kinds answer.kind reply)) (one-given kinds answer (gone ++ rest) come.0 reply count enough r))

-- ---- what let_go leaves

given-kinds : (messages : List Message) (gone : List Prepared) → AreGiven messages gone → map (λ (message : Message). message.tag.kind) messages ≡ map (λ (answer : Prepared). answer.kind) gone
given-kinds [] [] a = refl
given-kinds [] (answer ∷ gone) a = absurd a
given-kinds (message ∷ messages) [] a = absurd a
given-kinds (message ∷ messages) (answer ∷ gone) a = rw (a.0, given-kinds messages gone a.2) refl

apart-from : (n : ℕ) → (n == 0) ≡ false → (0 == n) ≡ false
apart-from n e = grind (arith, nat_tests)

pub let-upright : (terms : Terms) (journal : List Item) (given taken : Marks) (old new : List Live) (m n : Managed) → Holds terms.window journal given taken old m
    → LetsGo terms.window journal given taken m.answers new n → AreLetGo old m n → KeepsAbove old new → IsUpright terms journal old m → IsUpright terms journal new n
let-upright terms journal given taken old new m n h l a k u =
    subst (λ (x : Managed). IsUpright terms journal new x) (sym a.same)
    (less-asked terms journal (kinds_at 0 new) (asked_at old) (asked_at new) (record m { answers = n.answers })
    (λ number above. let same : asked_at new number ≡ asked_at old number = ap asked_in (k.others number (apart-from number above)) in omega (arith, same))
    (subst (λ (ks : List Kind). AreReady terms journal ks (asked_at old) (record m { answers = n.answers })) (sym kinds)
    (all-given terms.window journal given taken old m h.live h.manages.spoken h.manages.prepared h.manages.is terms a.gone n.answers (kinds_at 0 old) h.manages.prepared a.come
    (subst (λ (x : List Prepared). ArePrepared x h.manages.prepared) a.split h.manages.is.answers)
    (count-requests terms.window journal journal given taken old m h.manages.spoken h.manages.prepared h.live h.manages.is)
    (ap (λ (x : List Prepared). length (reply_kinds (kinds_at 0 old)) + length x) (sym a.split)
    ∙ count-replies terms.window journal journal given taken old m h.manages.spoken h.manages.prepared h.live h.manages.is)
    (subst (λ (x : List Prepared). AreReady terms journal (kinds_at 0 old) (asked_at old) (record m { answers = x })) a.split u))))
  where
    same-gone : a.gone ≡ l.gone
    same-gone = append_cancel_right a.gone l.gone n.answers (sym a.split ∙ l.split)

    kinds : kinds_at 0 new ≡ kinds_at 0 old ++ map (λ (answer : Prepared). answer.kind) a.gone
    kinds =
        append_cancel_left (kinds_of (marks Side.Sent (zero_history journal))) (kinds_at 0 new) (kinds_at 0 old ++ map (λ (answer : Prepared). answer.kind) a.gone)
        (sym (kinds-by terms.window journal journal l.given_now taken new l.holds.live)
        ∙ ap kinds_of l.given_is ∙ kinds-append (given 0) (marks_of l.messages)
        ∙ ap (λ (ks : List Kind). ks ++ kinds_of (marks_of l.messages)) (kinds-by terms.window journal journal given taken old h.live)
        ∙ ap (λ (ks : List Kind). (kinds_of (marks Side.Sent (zero_history journal)) ++ kinds_at 0 old) ++ ks)
        (queue-kinds l.messages ∙ given-kinds l.messages l.gone l.are ∙ ap (map (λ (answer : Prepared). answer.kind)) (sym same-gone))
        ∙ append_assoc (kinds_of (marks Side.Sent (zero_history journal))) (kinds_at 0 old) (map (λ (answer : Prepared). answer.kind) a.gone))
