-- The peer's requests of channel zero that wait: what an end keeps of them, and what its script
-- answers.
use Rattle.std.proofs.Common.{◌≡◌, ◌∙◌, refl, sym, ap, ℕ, zero, suc, ◌+◌, ◌-◌, ◌==◌, ◌≤◌, Bool, true, false, not, ◌&&◌, ◌||◌, if◌then◌else◌, List, [], ◌∷◌, ◌++◌, length, map, drop, filter, reverse, Option, None, Some, arith}
use Rattle.std.specs.Prelude.{nat_lt}
use Rattle.std.proofs.lemmas.Bool.Decides.{nat_tests}
use Rattle.beep_peer.specs.beep_frame.specs.declared.kind.Kind.{Kind}
use Rattle.beep_peer.specs.beep_frame.specs.Frame.{is_msg, same_kind}
use Rattle.beep_peer.specs.beep_history.specs.declared.journal.Side.{Side}
use Rattle.beep_peer.specs.beep_history.specs.Journal.{Item}
use Rattle.beep_peer.specs.beep_history.specs.Marks.{is_answered}
use Rattle.beep_peer.specs.beep_mgmt.specs.Form.{Form, greeting, start, chosen, close, okay, fault}
use Rattle.beep_peer.specs.beep_journal.specs.Lives.{Event, lives, is_live, live_life, life_named}
use Rattle.beep_peer.specs.beep_journal.specs.Zero.{said_at}
use Rattle.beep_peer.specs.beep_journal.proofs.MomentLemmas.{equal-number}
use Rattle.beep_peer.specs.beep_decide.specs.Asks.{is_close_of}
use Rattle.beep_peer.specs.beep_spoken.specs.Spoken.{Spoken}
use Rattle.beep_peer.specs.beep_asked.specs.Kept.{Kept, closes, closes_one, is_leaving}
use Rattle.beep_peer.specs.beep_asked.specs.Asked.{AreAsked, names_life}
use Rattle.beep_peer.specs.beep_management.specs.Managed.{replies_among, numbers_granted, number_started as number_of}
use Rattle.beep_script.specs.beep_talk.specs.AtZero.{ZeroMessage, kind_of}
use Rattle.beep_script.specs.Desk.{peer_starting, number_started, has_peer_close}
use Rattle.beep_script.specs.Laws.{replied_positions}
use Rattle.beep_script.proofs.RequestedLemmas.{nth}
use Rattle.beep_desk.specs.Listed.{ArePlacedFrom, spoken_of}
use Rattle.beep_desk.proofs.OwnLemmas.{number-same, said-nth}

-- ---- starts that are granted

-- the numbers of the starts among what requests say that these replies grant, one each
abbrev pub granted_by : List Spoken → List (Option Form) → List ℕ
granted_by [] forms = []
granted_by (reply ∷ replies) [] = []
granted_by (reply ∷ replies) (form ∷ forms) =
    if same_kind Kind.Rpy reply.kind then number_started form ++ granted_by replies forms else granted_by replies forms

pub granted-said : (replies : List Spoken) (requests : List Kept) → numbers_granted replies requests ≡ granted_by replies (map (λ (kept : Kept). kept.said) requests)
granted-said [] requests = refl
granted-said (reply ∷ replies) [] = refl
granted-said (reply ∷ replies) (kept ∷ requests) = by (same_kind Kind.Rpy reply.kind) (granted-said replies requests)
  where
    by : (b : Bool) → numbers_granted replies requests ≡ granted_by replies (map (λ (kept : Kept). kept.said) requests)
        → (if b then number_of kept.said ++ numbers_granted replies requests else numbers_granted replies requests)
        ≡ (if b then number_started kept.said ++ granted_by replies (map (λ (kept : Kept). kept.said) requests) else granted_by replies (map (λ (kept : Kept). kept.said) requests))
    by true rest = ap (λ l. l ++ numbers_granted replies requests) (number-same kept.said) ∙ ap (λ l. number_started kept.said ++ l) rest
    by false rest = rest

drop-nil : {X : Type 0} (n : ℕ) (xs : List X) → xs ≡ [] → drop n xs ≡ []
drop-nil zero xs e = e
drop-nil (suc n) [] e = refl
drop-nil (suc n) (x ∷ xs) e = absurd (let h : x ∷ xs ≡ [] = e in cc)

-- the first of these replies answers the request at a place
granted-step : (reply : Spoken) (replies : List Spoken) (k : ℕ) (forms : List (Option Form))
    → granted_by (reply ∷ replies) (drop k forms) ≡ (if same_kind Kind.Rpy reply.kind then number_started (nth k forms) else []) ++ granted_by replies (drop (k + 1) forms)
granted-step reply replies zero [] = none (same_kind Kind.Rpy reply.kind) replies
  where
    none : (b : Bool) (rs : List Spoken) → [] ≡ (if b then number_started None else []) ++ granted_by rs []
    none true [] = refl
    none true (r ∷ rs) = refl
    none false [] = refl
    none false (r ∷ rs) = refl
granted-step reply replies (suc k) [] =
    none (same_kind Kind.Rpy reply.kind) replies
    ∙ ap (λ l. (if same_kind Kind.Rpy reply.kind then number_started None else []) ++ granted_by replies l) (sym (drop-nil (suc k + 1) [] refl))
  where
    none : (b : Bool) (rs : List Spoken) → [] ≡ (if b then number_started None else []) ++ granted_by rs []
    none true [] = refl
    none true (r ∷ rs) = refl
    none false [] = refl
    none false (r ∷ rs) = refl
granted-step reply replies zero (form ∷ forms) = by (same_kind Kind.Rpy reply.kind)
  where
    by : (b : Bool) → (if b then number_started form ++ granted_by replies forms else granted_by replies forms) ≡ (if b then number_started form else []) ++ granted_by replies forms
    by true = refl
    by false = refl
granted-step reply replies (suc k) (form ∷ forms) =
    granted-step reply replies k forms
    ∙ ap (λ n. (if same_kind Kind.Rpy reply.kind then number_started (nth k forms) else []) ++ granted_by replies (drop n (form ∷ forms))) (more k)
  where
    more : (n : ℕ) → suc (n + 1) ≡ suc n + 1
    more n = omega arith

-- a request is no positive reply
not-reply : (kind : Kind) → is_msg kind ≡ true → same_kind Kind.Rpy kind ≡ false
not-reply Kind.Msg e = refl
not-reply Kind.Rpy e = absurd cc
not-reply Kind.Err e = refl
not-reply Kind.Ans e = refl
not-reply Kind.Nul e = refl

-- an answer is a reply
pub reply-kind : (form : Form) → is_msg (kind_of form) ≡ false
reply-kind (greeting features localize profiles) = refl
reply-kind (start number server profiles) = refl
reply-kind (chosen profile) = refl
reply-kind (close number code note) = refl
reply-kind okay = refl
reply-kind (fault code note) = refl

module _ (past : List Item) (forms : List (Option Form)) (waiting : ℕ) (answered : (p : ℕ) → is_answered Side.Received p past ≡ nat_lt (p + waiting) (length forms)) where
  -- the first that waits
  abbrev from : ℕ
  from = length forms - waiting

  abbrev both : ℕ → ℕ
  both k = from + (k - from)

  -- the replies from a position on, of which those that aren't whole grant these starts
  pub granted-listed : (k : ℕ) (ones : List ZeroMessage) → ArePlacedFrom k (replied_positions ones)
      → peer_starting past forms ones ≡ granted_by (drop (from - k) (replies_among (map spoken_of ones))) (drop (both k) (reverse forms))
  granted-listed k [] placed = sym (ap (λ l. granted_by l (drop (both k) (reverse forms))) (drop-nil (from - k) (replies_among (map spoken_of [])) refl))
  granted-listed k (one ∷ ones) placed = by (is_msg one.tag.kind) refl placed (λ j p. granted-listed j ones p)
    where
      abbrev-rest : ℕ → List ℕ
      abbrev-rest j = granted_by (drop (from - j) (replies_among (map spoken_of ones))) (drop (both j) (reverse forms))

      below : (m n : ℕ) → nat_lt m n ≡ true → m + 1 ≤ n
      below m n e = grind (arith, nat_tests, e)

      above : (m n : ℕ) → nat_lt m n ≡ false → n ≤ m
      above m n e = grind (arith, nat_tests, e)

      skip : (reply : Spoken) (replies : List Spoken) (n m : ℕ) → n ≡ suc m → drop m replies ≡ drop n (reply ∷ replies)
      skip reply replies zero m e = absurd (omega (arith, e))
      skip reply replies (suc n) m e = ap (λ i. drop i replies) (omega (arith, e))

      whole : (b : Bool) → (if b && not true then number_started (said_at k forms) else []) ≡ []
      whole true = refl
      whole false = refl

      opened : (b : Bool) (l : List ℕ) → (if b && not false then l else []) ≡ (if b then l else [])
      opened true l = refl
      opened false l = refl

      at : (b : Bool) → nat_lt (k + waiting) (length forms) ≡ b
          → peer_starting past forms ones ≡ granted_by (drop (from - (k + 1)) (replies_among (map spoken_of ones))) (drop (both (k + 1)) (reverse forms))
          → (if same_kind Kind.Rpy one.tag.kind && not b then number_started (said_at k forms) else []) ++ peer_starting past forms ones
          ≡ granted_by (drop (from - k) (spoken_of one ∷ replies_among (map spoken_of ones))) (drop (both k) (reverse forms))
      at true e rest =
          let less = below (k + waiting) (length forms) e in
          ap (λ l. l ++ peer_starting past forms ones) (whole (same_kind Kind.Rpy one.tag.kind)) ∙ rest
          ∙ ap (λ l. granted_by l (drop (both (k + 1)) (reverse forms))) (skip (spoken_of one) (replies_among (map spoken_of ones)) (from - k) (from - (k + 1)) (omega (arith, less)))
          ∙ ap (λ n. granted_by (drop (from - k) (spoken_of one ∷ replies_among (map spoken_of ones))) (drop n (reverse forms))) (omega (arith, less))
      at false e rest =
          let more = above (k + waiting) (length forms) e in
          let none : from - k ≡ 0 = omega (arith, more) in
          let none_then : from - (k + 1) ≡ 0 = omega (arith, more) in
          let here : both k ≡ k = omega (arith, more) in
          let there : both (k + 1) ≡ k + 1 = omega (arith, more) in
          ap (λ l. l ++ peer_starting past forms ones) (opened (same_kind Kind.Rpy one.tag.kind) (number_started (said_at k forms))
          ∙ ap (λ f. if same_kind Kind.Rpy one.tag.kind then number_started f else []) (said-nth k forms))
          ∙ ap (λ l. (if same_kind Kind.Rpy one.tag.kind then number_started (nth k (reverse forms)) else []) ++ l)
          (rest ∙ ap (λ n. granted_by (drop n (replies_among (map spoken_of ones))) (drop (both (k + 1)) (reverse forms))) none_then
          ∙ ap (λ n. granted_by (replies_among (map spoken_of ones)) (drop n (reverse forms))) there)
          ∙ sym (granted-step (spoken_of one) (replies_among (map spoken_of ones)) k (reverse forms))
          ∙ ap (λ n. granted_by (drop n (spoken_of one ∷ replies_among (map spoken_of ones))) (drop k (reverse forms))) (sym none)
          ∙ ap (λ n. granted_by (drop (from - k) (spoken_of one ∷ replies_among (map spoken_of ones))) (drop n (reverse forms))) (sym here)

      by : (b : Bool) → is_msg one.tag.kind ≡ b
          → ArePlacedFrom k (map (λ (one : ZeroMessage). one.tag.request) (if not b then one ∷ filter (λ (one : ZeroMessage). not (is_msg one.tag.kind)) ones else filter (λ (one : ZeroMessage). not (is_msg one.tag.kind)) ones))
          → ((j : ℕ) → ArePlacedFrom j (replied_positions ones) → peer_starting past forms ones ≡ granted_by (drop (from - j) (replies_among (map spoken_of ones))) (drop (both j) (reverse forms)))
          → (if same_kind Kind.Rpy one.tag.kind && not (is_answered Side.Received one.tag.request past) then number_started (said_at one.tag.request forms) else []) ++ peer_starting past forms ones
          ≡ granted_by (drop (from - k) (if not b then spoken_of one ∷ replies_among (map spoken_of ones) else replies_among (map spoken_of ones))) (drop (both k) (reverse forms))
      by true msg placed rest =
          ap (λ c. (if c && not (is_answered Side.Received one.tag.request past) then number_started (said_at one.tag.request forms) else []) ++ peer_starting past forms ones) (not-reply one.tag.kind msg) ∙ rest k placed
      by false msg placed rest =
          ap (λ p. (if same_kind Kind.Rpy one.tag.kind && not (is_answered Side.Received p past) then number_started (said_at p forms) else []) ++ peer_starting past forms ones) placed.0
          ∙ ap (λ c. (if same_kind Kind.Rpy one.tag.kind && not c then number_started (said_at k forms) else []) ++ peer_starting past forms ones) (answered k)
          ∙ at (nat_lt (k + waiting) (length forms)) refl (rest (k + 1) placed.1)

-- ---- closes that wait

module _ (number : ℕ) (es : List Event) (past : List Item) (count waiting : ℕ) (answered : (p : ℕ) → is_answered Side.Received p past ≡ nat_lt (p + waiting) count) where
  -- the close of a request at a position names the life that is live
  abbrev Named : Type 0
  Named = (p : ℕ) → (life_named number Side.Received p es == live_life number es) ≡ (number == 0 || (nat_lt 0 number && (is_live number es && life_named number Side.Received p es == lives number es)))

  none-close : (forms : List (Option Form)) → length forms + waiting ≤ count → has_peer_close number (live_life number es) es past forms ≡ false
  none-close [] less = refl
  none-close (form ∷ forms) less =
      ap (λ b. (is_close_of number form && not b && life_named number Side.Received (length forms) es == live_life number es) || has_peer_close number (live_life number es) es past forms)
      (answered (length forms) ∙ below (length forms + waiting) count (omega (arith, less)))
      ∙ ap (λ b. b || has_peer_close number (live_life number es) es past forms) (never (is_close_of number form) (life_named number Side.Received (length forms) es == live_life number es)) ∙ none-close forms (omega (arith, less))
    where
      below : (m n : ℕ) → m + 1 ≤ n → nat_lt m n ≡ true
      below m n e = grind (arith, nat_tests, e)

      never : (b c : Bool) → (b && false && c) ≡ false
      never true c = refl
      never false c = refl

  one-close : Named → (p : ℕ) (kept : Kept) (form : Option Form) → kept.said ≡ form → kept.names ≡ names_life Side.Received p form es
      → (is_close_of number form && true && life_named number Side.Received p es == live_life number es) ≡ closes_one number kept
  one-close named p kept form said names =
      plain (is_close_of number form) (life_named number Side.Received p es == live_life number es) ∙ says form ∙ ap (λ b. is_close_of number form && (number == 0 || b)) (sym names) ∙ ap (λ f. is_close_of number f && (number == 0 || kept.names)) (sym said)
    where
      plain : (b c : Bool) → (b && true && c) ≡ (b && c)
      plain true c = refl
      plain false c = refl

      at : (b : Bool) (m n : ℕ) → (m == n) ≡ b → n ≡ number
          → (b && (life_named number Side.Received p es == live_life number es))
          ≡ (b && (number == 0 || (nat_lt 0 m && (is_live m es && life_named m Side.Received p es == lives m es))))
      at true m n e same =
          let here : m ≡ number = equal-number m n e ∙ same in
          named p ∙ ap (λ i. number == 0 || (nat_lt 0 i && (is_live i es && life_named i Side.Received p es == lives i es))) (sym here)
      at false m n e same = refl

      says : (f : Option Form) → (is_close_of number f && (life_named number Side.Received p es == live_life number es)) ≡ (is_close_of number f && (number == 0 || names_life Side.Received p f es))
      says None = refl
      says (Some (greeting features localize profiles)) = refl
      says (Some (start m server profiles)) = refl
      says (Some (chosen profile)) = refl
      says (Some (close m code note)) = at (m == number) m number refl refl
      says (Some okay) = refl
      says (Some (fault code note)) = refl

  pub peer-closes : Named → (requests : List Kept) (forms : List (Option Form)) → AreAsked Side.Received es requests forms → length forms + waiting ≡ count + length requests
      → has_peer_close number (live_life number es) es past forms ≡ closes number requests
  peer-closes named [] forms a same = none-close forms (omega (arith, same))
  peer-closes named (kept ∷ requests) [] a same = absurd a
  peer-closes named (kept ∷ requests) (form ∷ forms) a same =
      ap (λ b. (is_close_of number form && not b && life_named number Side.Received (length forms) es == live_life number es) || has_peer_close number (live_life number es) es past forms)
      (answered (length forms) ∙ above (length forms + waiting) count (omega (arith, same)))
      ∙ ap (λ b. b || has_peer_close number (live_life number es) es past forms) (one-close named (length forms) kept form a.0.said a.0.names)
      ∙ ap (λ b. closes_one number kept || b) (peer-closes named requests forms a.1 (omega (arith, same)))
    where
      above : (m n : ℕ) → n ≤ m → nat_lt m n ≡ false
      above m n e = grind (arith, nat_tests, e)

-- a close of 0 waits
pub closes-zero : (requests : List Kept) → closes 0 requests ≡ is_leaving requests
closes-zero [] = refl
closes-zero (kept ∷ requests) = ap (λ b. b || closes 0 requests) (always (is_close_of 0 kept.said)) ∙ ap (λ b. is_close_of 0 kept.said || b) (closes-zero requests)
  where
    always : (b : Bool) → (b && true) ≡ b
    always true = refl
    always false = refl
