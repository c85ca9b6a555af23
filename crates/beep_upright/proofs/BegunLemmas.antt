-- A header that goes out leaves closes that may go so.
use Rattle.std.proofs.Common.{◌≡◌, ℕ, suc, ◌+◌, ◌-◌, ◌<◌, ◌≤◌, ◌==◌, nat_lt, Bool, true, false, not, ◌&&◌, ◌||◌, if◌then◌else◌, List, [], ◌∷◌, ◌++◌, length, length-append, append_assoc, map, reverse, Option, None, Some, refl, sym, ap, ◌∙◌, arith, subst}
use Rattle.std.specs.List.{list_any, list_all}
use Rattle.std.proofs.lemmas.Bool.Decides.{nat_tests}
use Rattle.std.proofs.lemmas.List.{reverse-reverse, length-reverse, map-append}
use Rattle.beep_management.specs.beep_frame.specs.declared.head.Head.{Head}
use Rattle.beep_management.specs.beep_frame.specs.declared.kind.Kind.{Kind}
use Rattle.beep_management.specs.beep_frame.specs.Frame.{is_msg, same_kind}
use Rattle.beep_management.specs.beep_mgmt.specs.Form.{Form, greeting, start, chosen, close, okay, fault}
use Rattle.beep_management.specs.beep_history.specs.declared.journal.Side.{Side}
use Rattle.beep_management.specs.beep_history.specs.Journal.{Item, began}
use Rattle.beep_management.specs.beep_history.specs.Marks.{begins_request, requests, is_whole, previous}
use Rattle.beep_management.specs.beep_history.specs.Broken.{under_way, KeepsExchangeRules}
use Rattle.beep_management.specs.beep_history.proofs.SoundLemmas.{Sound, is_open}
use Rattle.beep_management.specs.beep_history.proofs.PassedLemmas.{sound}
use Rattle.beep_management.specs.beep_journal.specs.Lives.{Event, is_live, lives, life_named}
use Rattle.beep_management.specs.beep_journal.specs.Zero.{zero_history, asked, said_at, events}
use Rattle.beep_management.specs.beep_journal.specs.Life.{life_now, is_of_life, life, is_there, history}
use Rattle.beep_management.specs.beep_journal.proofs.JournalLemmas.{began-events}
use Rattle.beep_management.specs.beep_journal.proofs.MomentLemmas.{apart-zero}
use Rattle.beep_management.specs.beep_decide.specs.Asks.{is_close_of}
use Rattle.beep_lawful.specs.Closing.{is_idle, was_idle_since, asks_again, was_quiet_since}
use Rattle.beep_lawful.specs.declared.terms.Terms.{Terms}
use Rattle.beep_management.specs.beep_asked.specs.Kept.{Kept, names_one, closes, closes_one, is_leaving}
use Rattle.beep_management.specs.beep_asked.specs.Asked.{names_life, AreWaiting}
use Rattle.beep_management.specs.Managed.{Managed}
use Rattle.beep_upright.specs.Turns.{asks as asks_turn, answers as answers_turn, reply_kinds, first_said, after_first, turns, may_precede, AreInTurn}
use Rattle.beep_upright.specs.Upright.{WasIdle, all_asked, WasQuiet, is_of_close, IsLetGo, AreReady}
use Rattle.beep_upright.proofs.TestLemmas.{both-one, both-two, or-true, same-number, equal-number}
use Rattle.beep_upright.proofs.ClosingLemmas.{quiet-on, said-before, idle-on}
use Rattle.beep_upright.proofs.HeardLemmas.{BeginsNone, idle-still, idle-since-still}
use Rattle.beep_upright.proofs.NextLemmas.{oldest-first}
use Rattle.beep_upright.proofs.FrameLemmas.{any-reverse}

-- ---- a request among others

pub any-at : {X : Type 0} (test : X → Bool) (before : List X) (x : X) (after : List X) → test x ≡ true → list_any test (before ++ x ∷ after) ≡ true
any-at test [] x after e = rw e refl
any-at test (y ∷ before) x after e = rw (any-at test before x after e) (or-true (test y))

pub any-in : (test : Kept → Bool) (requests : List Kept) (before : List Kept) (kept : Kept) (after : List Kept) → reverse requests ≡ before ++ kept ∷ after → test kept ≡ true
    → list_any test requests ≡ true
any-in test requests before kept after split e =
    subst (λ (l : List Kept). list_any test l ≡ true) (reverse-reverse requests)
    (any-reverse test (reverse requests) (subst (λ (l : List Kept). list_any test l ≡ true) (sym split) (any-at test before kept after e)))

live-there : (n : ℕ) (journal : List Item) → (n == 0) ≡ false → is_there n journal ≡ true → is_live n (events journal) ≡ true
live-there n journal above there = sym (rw above refl) ∙ there

positive : (n : ℕ) → (n == 0) ≡ false → nat_lt 0 n ≡ true
positive n e = grind (arith, nat_tests)

-- the history of a life that is live
history-life : (n c : ℕ) (head : Head) (journal : List Item) → (n == 0) ≡ false → is_of_life n c (began Side.Sent head) journal ≡ true → history head.channel journal ≡ life n c journal
history-life n c head journal above of =
    let channel : head.channel ≡ n = equal-number head.channel n (both-one (head.channel == n) (life_now n journal == c) of) in
    let now : life_now n journal ≡ c = equal-number (life_now n journal) c (both-two (head.channel == n) (life_now n journal == c) of) in
    ap (λ (k : ℕ). history k journal) channel ∙ rw above (ap (λ (k : ℕ). life n k journal) now)

-- ---- above zero

module _ (terms : Terms) (journal : List Item) (kinds : List Kind) (asks : ℕ → ℕ) (m : Managed) (r : AreReady terms journal kinds asks m) (head : Head)
    (above : (head.channel == 0) ≡ false) (there : is_there head.channel journal ≡ true)
    (some : begins_request Side.Sent (history head.channel journal) head ≡ true → 0 < asks head.channel) where
  abbrev begun : List Item
  begun = began Side.Sent head ∷ journal

  live : is_live head.channel (events journal) ≡ true
  live = live-there head.channel journal above there

  -- in a life whose close is to go no request begins
  none-asked : (n c : ℕ) → (n == 0) ≡ false → is_of_life n c (began Side.Sent head) journal ≡ true → asks head.channel ≡ 0 → BeginsNone (began Side.Sent head) (life n c journal)
  none-asked n c positive of none = by (begins_request Side.Sent (life n c journal) head) refl
    where
      by : (b : Bool) → begins_request Side.Sent (life n c journal) head ≡ b → BeginsNone (began Side.Sent head) (life n c journal)
      by false e = record { same = rw e refl }
      by true e =
          let some = some (ap (λ (p : List Item). begins_request Side.Sent p head) (history-life n c head journal positive of) ∙ e) in
          absurd (omega (arith, some, none))

  pub above-idle : (p : ℕ) (before : List Kept) (kept : Kept) (after : List Kept) → reverse m.acts.requests ≡ before ++ kept ∷ after
      → kept.names ≡ names_one (λ n. is_live n (events journal)) kept.said → WasIdle journal p kept.said → WasIdle begun p kept.said
  above-idle p before kept after split named = of kept.said refl
    where
      of : (said : Option Form) → kept.said ≡ said → WasIdle journal p said → WasIdle begun p said
      of None is w = tt
      of (Some (greeting features localize profiles)) is w = tt
      of (Some (start number server profiles)) is w = tt
      of (Some (chosen profile)) is w = tt
      of (Some okay) is w = tt
      of (Some (fault code note)) is w = tt
      of (Some (close number code note)) is w =
          let c : ℕ = lives number (events journal) in
          let now : is_idle p number c begun ≡ true =
          idle-still p number c (began Side.Sent head) journal (λ zero. absurd (let g : true ≡ false = sym zero ∙ above in cc)) (by (number == 0) refl) w.0 in
          subst (λ (k : ℕ). (is_idle p number k begun ≡ true) × (was_idle_since p number k begun ≡ true))
          (ap (λ (es : List Event). lives number es) (sym (began-events Side.Sent head journal)))
          (now, idle-since-still p number c (began Side.Sent head) journal now w.1)
        where
          by : (b : Bool) → (number == 0) ≡ b → is_of_life number (lives number (events journal)) (began Side.Sent head) journal ≡ true
              → BeginsNone (began Side.Sent head) (life number (lives number (events journal)) journal)
          by true zero of =
              let channel : (head.channel == number) ≡ true = both-one (head.channel == number) _ of in
              absurd (let g : (head.channel == 0) ≡ true = subst (λ (k : ℕ). (head.channel == k) ≡ true) (equal-number number 0 zero) channel in let h : true ≡ false = sym g ∙ above in cc)
          by false apart of =
              let channel : head.channel ≡ number = equal-number head.channel number (both-one (head.channel == number) _ of) in
              let alive : is_live number (events journal) ≡ true = subst (λ (k : ℕ). is_live k (events journal) ≡ true) channel live in
              let names : kept.names ≡ true = named ∙ ap (names_one (λ n. is_live n (events journal))) is ∙ rw (positive number apart, alive) refl in
              let closing : closes number m.acts.requests ≡ true =
              any-in (closes_one number) m.acts.requests before kept after split (rw (ap (is_close_of number) is ∙ same-number number, apart, names) refl) in
              let none : asks number ≡ 0 = r.closing number apart (rw closing (or-true (closes number m.mine.requests))) in
              none-asked number (lives number (events journal)) apart of (ap asks channel ∙ none)

  pub above-quiet : (forms : List (Option Form)) (p : ℕ) (kind : Kind) (kept : Kept) → kept.names ≡ names_life Side.Received p kept.said (events journal)
      → IsLetGo forms journal asks p kind kept → same_kind Kind.Rpy kind ≡ true → WasQuiet forms begun p kept.said
  above-quiet forms p kind kept named l rpy = of kept.said refl (l.quiet rpy)
    where
      of : (said : Option Form) → kept.said ≡ said → WasQuiet forms journal p said → WasQuiet forms begun p said
      of None is w = tt
      of (Some (greeting features localize profiles)) is w = tt
      of (Some (start number server profiles)) is w = tt
      of (Some (chosen profile)) is w = tt
      of (Some okay) is w = tt
      of (Some (fault code note)) is w = tt
      of (Some (close number code note)) is w =
          subst (λ (k : ℕ). was_quiet_since p number k forms begun ≡ true) (ap (λ (es : List Event). life_named number Side.Received p es) (sym (began-events Side.Sent head journal)))
          (quiet-on p number (life_named number Side.Received p (events journal)) forms (began Side.Sent head) journal
          (silent (begins_request Side.Sent (history head.channel journal) head) refl (number == 0) refl) w)
        where
          abbrev-life : ℕ
          abbrev-life = life_named number Side.Received p (events journal)

          clash : begins_request Side.Sent (history head.channel journal) head ≡ true → is_of_close head.channel kept ≡ true → ⊥
          clash begins of = let some = some begins in let none = l.still rpy head.channel above of in omega (arith, some, none)

          of-life : (number == 0) ≡ false → is_of_life number (life_named number Side.Received p (events journal)) (began Side.Sent head) journal ≡ true → is_of_close head.channel kept ≡ true
          of-life apart of =
              let channel : head.channel ≡ number = equal-number head.channel number (both-one (head.channel == number) _ of) in
              let alive : is_live number (events journal) ≡ true = subst (λ (k : ℕ). is_live k (events journal) ≡ true) channel live in
              let now : life_now number journal ≡ lives number (events journal) = rw alive refl in
              let counts : (life_now number journal == life_named number Side.Received p (events journal)) ≡ true = both-two (head.channel == number) _ of in
              let here : (life_named number Side.Received p (events journal) == lives number (events journal)) ≡ true =
              turned (life_now number journal) (life_named number Side.Received p (events journal)) (lives number (events journal)) counts now in
              let names : kept.names ≡ true =
              named ∙ ap (λ (o : Option Form). names_life Side.Received p o (events journal)) is ∙ rw (positive number apart, alive, here) refl in
              let closes : closes_one head.channel kept ≡ true =
              rw (ap (is_close_of head.channel) is ∙ ap (λ (k : ℕ). number == k) channel ∙ same-number number, names) (or-true (head.channel == 0)) in
              rw closes (or-true (is_close_of 0 kept.said))
            where
              turned : (a b c : ℕ) → (a == b) ≡ true → a ≡ c → (b == c) ≡ true
              turned a b c e f = grind (arith, nat_tests)

          silent : (b : Bool) → begins_request Side.Sent (history head.channel journal) head ≡ b → (z : Bool) → (number == 0) ≡ z
              → asks_again number (life_named number Side.Received p (events journal)) forms (began Side.Sent head) journal ≡ false
          silent false begins z zero = rw begins refl
          silent true begins true zero =
              absurd (clash begins (rw (ap (is_close_of 0) is ∙ zero) refl))
          silent true begins false apart = by (is_of_life number (life_named number Side.Received p (events journal)) (began Side.Sent head) journal) refl
            where
              by : (b : Bool) → is_of_life number (life_named number Side.Received p (events journal)) (began Side.Sent head) journal ≡ b
                  → asks_again number (life_named number Side.Received p (events journal)) forms (began Side.Sent head) journal ≡ false
              by false of = rw (begins, apart, of) refl
              by true of = absurd (clash begins (of-life apart of))

-- ---- the turn of an own request

-- before the grant of a close of 0 goes no request but a close of 0
quiet-first : (form : Option Form) (kinds : List Kind) (acts requests : List Kept) → list_all (may_precede (asks_turn form)) (turns kinds acts requests) ≡ true
    → (before : List Kind) (kind : Kind) (after : List Kind) → reply_kinds kinds ≡ before ++ kind ∷ after → (earlier : List Kept) (kept : Kept) (later : List Kept)
    → requests ≡ earlier ++ kept ∷ later → length earlier ≡ length before → same_kind Kind.Rpy kind ≡ true → is_close_of 0 kept.said ≡ true → is_close_of 0 form ≡ true
quiet-first form [] acts requests all [] kind after split earlier kept later ksplit count rpy closes = cc
quiet-first form [] acts requests all (b ∷ before) kind after split earlier kept later ksplit count rpy closes = cc
quiet-first form (k ∷ kinds) acts requests all before kind after split earlier kept later ksplit count rpy closes =
    of (is_msg k) all split (quiet-first form kinds (after_first acts) requests) (quiet-first form kinds acts (after_first requests))
  where
    of : (b : Bool) → list_all (may_precede (asks_turn form)) (if b then asks_turn (first_said acts) ∷ turns kinds (after_first acts) requests
        else answers_turn k (first_said requests) ∷ turns kinds acts (after_first requests)) ≡ true
        → (if not b then k ∷ reply_kinds kinds else reply_kinds kinds) ≡ before ++ kind ∷ after
        → (list_all (may_precede (asks_turn form)) (turns kinds (after_first acts) requests) ≡ true → (before : List Kind) (kind : Kind) (after : List Kind)
        → reply_kinds kinds ≡ before ++ kind ∷ after → (earlier : List Kept) (kept : Kept) (later : List Kept) → requests ≡ earlier ++ kept ∷ later
        → length earlier ≡ length before → same_kind Kind.Rpy kind ≡ true → is_close_of 0 kept.said ≡ true → is_close_of 0 form ≡ true)
        → (list_all (may_precede (asks_turn form)) (turns kinds acts (after_first requests)) ≡ true → (before : List Kind) (kind : Kind) (after : List Kind)
        → reply_kinds kinds ≡ before ++ kind ∷ after → (earlier : List Kept) (kept : Kept) (later : List Kept) → after_first requests ≡ earlier ++ kept ∷ later
        → length earlier ≡ length before → same_kind Kind.Rpy kind ≡ true → is_close_of 0 kept.said ≡ true → is_close_of 0 form ≡ true)
        → is_close_of 0 form ≡ true
    of true all split asked replied =
        asked (both-two (may_precede (asks_turn form) (asks_turn (first_said acts))) _ all) before kind after split earlier kept later ksplit count rpy closes
    of false all split asked replied = by before earlier split ksplit count
      where
        by : (before : List Kind) (earlier : List Kept) → k ∷ reply_kinds kinds ≡ before ++ kind ∷ after → requests ≡ earlier ++ kept ∷ later → length earlier ≡ length before
            → is_close_of 0 form ≡ true
        by [] [] split ksplit count =
            let same : k ≡ kind = cc in
            let here : (not (same_kind Kind.Rpy k && is_close_of 0 (first_said requests)) || is_close_of 0 form) ≡ true =
            both-one (may_precede (asks_turn form) (answers_turn k (first_said requests))) _ all in
            let grants : (same_kind Kind.Rpy k && is_close_of 0 (first_said requests)) ≡ true =
            rw (ap (same_kind Kind.Rpy) same ∙ rpy, ap (λ (l : List Kept). is_close_of 0 (first_said l)) ksplit ∙ closes) refl in
            sym (ap (λ (b : Bool). not b || is_close_of 0 form) grants) ∙ here
        by [] (e ∷ earlier) split ksplit count = absurd (omega (arith, count))
        by (b ∷ before) [] split ksplit count = absurd (omega (arith, count))
        by (b ∷ before) (e ∷ earlier) split ksplit count =
            let tail : reply_kinds kinds ≡ before ++ kind ∷ after = cc in
            replied (both-two (may_precede (asks_turn form) (answers_turn k (first_said requests))) _ all) before kind after tail earlier kept later
            (ap after_first ksplit) (omega (arith, count)) rpy closes

-- what the next own request says
said-next : (requests : List Kept) (forms : List (Option Form)) → is_close_of 0 (first_said (reverse requests)) ≡ true
    → is_close_of 0 (said_at (length forms) (map (λ (kept : Kept). kept.said) requests ++ forms)) ≡ true
said-next requests forms closes = of (reverse requests) refl closes
  where
    of : (turned : List Kept) → reverse requests ≡ turned → is_close_of 0 (first_said turned) ≡ true
        → is_close_of 0 (said_at (length forms) (map (λ (kept : Kept). kept.said) requests ++ forms)) ≡ true
    of [] is e = cc
    of (kept ∷ others) is e =
        let back : requests ≡ reverse others ++ kept ∷ [] = oldest-first requests kept others is in
        let all : map (λ (kept : Kept). kept.said) requests ++ forms ≡ map (λ (kept : Kept). kept.said) (reverse others) ++ (kept.said ∷ forms) =
        ap (λ (l : List Kept). map (λ (kept : Kept). kept.said) l ++ forms) back
        ∙ ap (λ (l : List (Option Form)). l ++ forms) (map-append (λ (kept : Kept). kept.said) (reverse others) (kept ∷ []))
        ∙ append_assoc (map (λ (kept : Kept). kept.said) (reverse others)) (kept.said ∷ []) forms in
        ap (λ (l : List (Option Form)). is_close_of 0 (said_at (length forms) l)) all
        ∙ ap (is_close_of 0) (said-before (map (λ (kept : Kept). kept.said) (reverse others)) (kept.said ∷ forms) (length forms) (omega arith))
        ∙ ap (λ (b : Bool). is_close_of 0 (if b then kept.said else said_at (length forms) forms)) (same-number (length forms)) ∙ e

-- ---- channel zero

module _ (terms : Terms) (journal : List Item) (kinds rest : List Kind) (asks : ℕ → ℕ) (m : Managed) (r : AreReady terms journal kinds asks m) (head : Head)
    (zero : (head.channel == 0) ≡ true) (keeps : KeepsExchangeRules (began Side.Sent head ∷ zero_history journal)) (mine : AreWaiting Side.Sent (zero_history journal) m.mine.requests)
    (unsent : kinds ≡ head.kind ∷ rest) where
  -- own requests of channel zero that have begun, and those that are whole
  begun-asked : length (asked Side.Sent (zero_history journal)) ≤ length (requests Side.Sent (zero_history journal))
  begun-asked = of (length (asked Side.Sent (zero_history journal))) (length (requests Side.Sent (zero_history journal))) _
      (λ p. sym (mine.whole p) ∙ (sound Side.Sent (zero_history journal) keeps.2).whole p)
    where
      of : (a r o : ℕ) → ((p : ℕ) → nat_lt p a ≡ nat_lt (p + o) r) → a ≤ r
      of a r o same = let x : nat_lt (a - 1) a ≡ nat_lt (a - 1 + o) r = same (a - 1) in grind (arith, nat_tests)

  none-open : begins_request Side.Sent (zero_history journal) head ≡ true → length (requests Side.Sent (zero_history journal)) ≡ length (asked Side.Sent (zero_history journal))
  none-open begins = of (length (asked Side.Sent (zero_history journal))) (length (requests Side.Sent (zero_history journal))) (λ p. sym (mine.whole p) ∙ by-sound p)
    where
      s : Sound Side.Sent (began Side.Sent head ∷ zero_history journal)
      s = sound Side.Sent (began Side.Sent head ∷ zero_history journal) keeps

      request : is_msg head.kind ≡ true
      request = both-one (is_msg head.kind) _ begins

      more : length (requests Side.Sent (began Side.Sent head ∷ zero_history journal)) ≡ suc (length (requests Side.Sent (zero_history journal)))
      more = rw begins refl

      opened : is_open (under_way Side.Sent (began Side.Sent head ∷ zero_history journal)) (previous Side.Sent (began Side.Sent head ∷ zero_history journal)) ≡ true
      opened = rw request refl

      by-sound : (p : ℕ) → is_whole Side.Sent p (zero_history journal) ≡ nat_lt (p + 1) (suc (length (requests Side.Sent (zero_history journal))))
      by-sound p =
          s.whole p ∙ ap (λ (b : Bool). nat_lt (p + (if b then 1 else 0)) (length (requests Side.Sent (began Side.Sent head ∷ zero_history journal)))) opened
          ∙ ap (λ (k : ℕ). nat_lt (p + 1) k) more

      of : (a r : ℕ) → ((p : ℕ) → nat_lt p a ≡ nat_lt (p + 1) (suc r)) → r ≡ a
      of a r same =
          let x : nat_lt (a - 1) a ≡ nat_lt (a - 1 + 1) (suc r) = same (a - 1) in
          let y : nat_lt (r - 1) a ≡ nat_lt (r - 1 + 1) (suc r) = same (r - 1) in
          let z : nat_lt a a ≡ nat_lt (a + 1) (suc r) = same a in
          grind (arith, nat_tests)

  idle-apart : (p n c : ℕ) → (n == 0) ≡ false → is_idle p n c (began Side.Sent head ∷ journal) ≡ is_idle p n c journal
  idle-apart p n c apart = rw (apart, apart-zero head.channel n zero apart) refl

  pub zero-idle : (p : ℕ) (before : List Kept) (kept : Kept) (after : List Kept) → reverse m.acts.requests ≡ before ++ kept ∷ after
      → p ≡ length (asked Side.Sent (zero_history journal)) + length before → WasIdle journal p kept.said → WasIdle (began Side.Sent head ∷ journal) p kept.said
  zero-idle p before kept after split place = of kept.said refl
    where
      first-close : is_close_of 0 kept.said ≡ true → p ≤ length (requests Side.Sent (zero_history journal))
      first-close closes =
          let leaves : is_leaving m.acts.requests ≡ true = any-in (λ (one : Kept). is_close_of 0 one.said) m.acts.requests before kept after split closes in
          let alone = r.leaving (rw leaves (or-true (is_leaving m.mine.requests))) in
          let one = alone.alone in
          let count : length m.acts.requests ≡ length before + suc (length after) = sym (length-reverse m.acts.requests) ∙ ap length split ∙ length-append before (kept ∷ after) in
          let b = begun-asked in
          omega (arith, one, count, place, b)

      of : (said : Option Form) → kept.said ≡ said → WasIdle journal p said → WasIdle (began Side.Sent head ∷ journal) p said
      of None is w = tt
      of (Some (greeting features localize profiles)) is w = tt
      of (Some (start number server profiles)) is w = tt
      of (Some (chosen profile)) is w = tt
      of (Some okay) is w = tt
      of (Some (fault code note)) is w = tt
      of (Some (close number code note)) is w =
          subst (λ (k : ℕ). (is_idle p number k (began Side.Sent head ∷ journal) ≡ true) × (was_idle_since p number k (began Side.Sent head ∷ journal) ≡ true))
          (ap (λ (es : List Event). lives number es) (sym (began-events Side.Sent head journal))) (by (number == 0) refl)
        where
          by : (b : Bool) → (number == 0) ≡ b → (is_idle p number (lives number (events journal)) (began Side.Sent head ∷ journal) ≡ true)
              × (was_idle_since p number (lives number (events journal)) (began Side.Sent head ∷ journal) ≡ true)
          by true e =
              let since = idle-on p head journal zero (first-close (ap (is_close_of 0) is ∙ e)) number (lives number (events journal)) w.0 w.1 in
              (both-one (is_idle p number (lives number (events journal)) (began Side.Sent head ∷ journal)) _ since, since)
          by false e =
              let now = idle-apart p number (lives number (events journal)) e ∙ w.0 in
              (now, idle-since-still p number (lives number (events journal)) (began Side.Sent head) journal now w.1)

  pub zero-quiet : (p : ℕ) (before : List Kind) (kind : Kind) (after : List Kind) (earlier : List Kept) (kept : Kept) (later : List Kept) → reply_kinds kinds ≡ before ++ kind ∷ after
      → reverse m.theirs.requests ≡ earlier ++ kept ∷ later → length earlier ≡ length before → IsLetGo (all_asked journal m) journal asks p kind kept
      → same_kind Kind.Rpy kind ≡ true → WasQuiet (all_asked journal m) (began Side.Sent head ∷ journal) p kept.said
  zero-quiet p before kind after earlier kept later split ksplit count l rpy = of kept.said refl (l.quiet rpy)
    where
      of : (said : Option Form) → kept.said ≡ said → WasQuiet (all_asked journal m) journal p said → WasQuiet (all_asked journal m) (began Side.Sent head ∷ journal) p said
      of None is w = tt
      of (Some (greeting features localize profiles)) is w = tt
      of (Some (start number server profiles)) is w = tt
      of (Some (chosen profile)) is w = tt
      of (Some okay) is w = tt
      of (Some (fault code note)) is w = tt
      of (Some (close number code note)) is w =
          subst (λ (k : ℕ). was_quiet_since p number k (all_asked journal m) (began Side.Sent head ∷ journal) ≡ true)
          (ap (λ (es : List Event). life_named number Side.Received p es) (sym (began-events Side.Sent head journal)))
          (quiet-on p number (life_named number Side.Received p (events journal)) (all_asked journal m) (began Side.Sent head) journal
          (silent (begins_request Side.Sent (history head.channel journal) head) refl (number == 0) refl) w)
        where
          release : is_close_of 0 kept.said ≡ true → begins_request Side.Sent (zero_history journal) head ≡ true
              → is_close_of 0 (said_at (length (requests Side.Sent (zero_history journal))) (all_asked journal m)) ≡ true
          release closes begins =
              let request : is_msg head.kind ≡ true = both-one (is_msg head.kind) _ begins in
              let here : turns kinds (reverse m.acts.requests) (reverse m.theirs.requests)
              ≡ asks_turn (first_said (reverse m.acts.requests)) ∷ turns rest (after_first (reverse m.acts.requests)) (reverse m.theirs.requests) =
              ap (λ (ks : List Kind). turns ks (reverse m.acts.requests) (reverse m.theirs.requests)) unsent ∙ rw request refl in
              let replies : reply_kinds kinds ≡ reply_kinds rest = ap reply_kinds unsent ∙ rw request refl in
              let order = subst AreInTurn here r.order in
              let quiet : is_close_of 0 (first_said (reverse m.acts.requests)) ≡ true =
              quiet-first (first_said (reverse m.acts.requests)) rest (after_first (reverse m.acts.requests)) (reverse m.theirs.requests) order.0 before kind after
              (sym replies ∙ split) earlier kept later ksplit count rpy closes in
              ap (λ (k : ℕ). is_close_of 0 (said_at k (all_asked journal m))) (none-open begins)
              ∙ said-next m.acts.requests (asked Side.Sent (zero_history journal)) quiet

          silent : (b : Bool) → begins_request Side.Sent (history head.channel journal) head ≡ b → (z : Bool) → (number == 0) ≡ z
              → asks_again number (life_named number Side.Received p (events journal)) (all_asked journal m) (began Side.Sent head) journal ≡ false
          silent false begins z e = rw begins refl
          silent true begins false e = rw (begins, e, apart-zero head.channel number zero e) refl
          silent true begins true e =
              let here : begins_request Side.Sent (zero_history journal) head ≡ true =
              sym (ap (λ (b : Bool). begins_request Side.Sent (if b then zero_history journal else life head.channel (life_now head.channel journal) journal) head) zero) ∙ begins in
              rw (begins, e, zero, release (ap (is_close_of 0) is ∙ e) here) refl
