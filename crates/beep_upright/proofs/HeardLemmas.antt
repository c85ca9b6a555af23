-- What arrives leaves a life idle and a close quiet.
use Rattle.std.proofs.Common.{◌≡◌, ℕ, ◌==◌, nat_lt, Bool, true, false, not, ◌&&◌, ◌||◌, if◌then◌else◌, List, [], ◌∷◌, length, filter, Option, None, Some, refl, sym, ap, ◌∙◌, arith, subst}
use Rattle.std.specs.List.{list_any}
use Rattle.std.proofs.lemmas.Bool.Decides.{nat_tests}
use Rattle.beep_management.specs.beep_mgmt.specs.Form.{Form, greeting, start, chosen, close, okay, fault}
use Rattle.beep_management.specs.beep_history.specs.declared.journal.Side.{Side}
use Rattle.beep_management.specs.beep_history.specs.Journal.{Item, began, passed, told}
use Rattle.beep_management.specs.beep_history.specs.Marks.{Request, requests, waiting, reply, ends_reply, is_answered, answers}
use Rattle.beep_management.specs.beep_journal.specs.Lives.{lives, life_named}
use Rattle.beep_management.specs.beep_journal.specs.Zero.{channel_of, zero_history, events}
use Rattle.beep_management.specs.beep_journal.specs.Life.{is_of_life, life}
use Rattle.beep_management.specs.beep_decide.specs.Asks.{is_close_of}
use Rattle.beep_lawful.specs.Closing.{none_waits_before, is_idle, has_begun, was_idle_since, asks_again, was_quiet_since}
use Rattle.beep_upright.specs.Upright.{WasIdle, WasQuiet}
use Rattle.beep_upright.proofs.TestLemmas.{or-true, not-true, same-number}
use Rattle.beep_upright.proofs.ClosingLemmas.{quiet-on}

-- ---- fewer of some requests

fewer : (rs : List Request) (f g : Request → Bool) → ((r : Request) → g r ≡ true → f r ≡ true) → length (filter f rs) ≡ 0 → length (filter g rs) ≡ 0
fewer [] f g less none = refl
fewer (r ∷ rs) f g less none = of (g r) refl (f r) refl none (fewer rs f g less)
  where
    of : (b : Bool) → g r ≡ b → (a : Bool) → f r ≡ a → length (if a then r ∷ filter f rs else filter f rs) ≡ 0 → (length (filter f rs) ≡ 0 → length (filter g rs) ≡ 0)
        → length (if b then r ∷ filter g rs else filter g rs) ≡ 0
    of false e false d none later = later none
    of false e true d none later = absurd (omega (arith, none))
    of true e true d none later = absurd (omega (arith, none))
    of true e false d none later = absurd (let h : true ≡ false = sym (less r e) ∙ d in cc)

fewer-any : (rs : List Request) (test f g : Request → Bool) → ((r : Request) → g r ≡ true → f r ≡ true) → list_any test (filter f rs) ≡ false → list_any test (filter g rs) ≡ false
fewer-any [] test f g less none = refl
fewer-any (r ∷ rs) test f g less none = of (g r) refl (f r) refl (test r) none (fewer-any rs test f g less)
  where
    of : (b : Bool) → g r ≡ b → (a : Bool) → f r ≡ a → (t : Bool) → list_any test (if a then r ∷ filter f rs else filter f rs) ≡ false
        → (list_any test (filter f rs) ≡ false → list_any test (filter g rs) ≡ false) → list_any test (if b then r ∷ filter g rs else filter g rs) ≡ false
    of false e false d t none later = later none
    of false e true d t none later = later (right (test r) (list_any test (filter f rs)) none)
      where
        right : (x y : Bool) → (x || y) ≡ false → y ≡ false
        right true y e = cc
        right false y e = e
    of true e true d t none later = rw (left (test r) (list_any test (filter f rs)) none) (later (right (test r) (list_any test (filter f rs)) none))
      where
        left : (x y : Bool) → (x || y) ≡ false → x ≡ false
        left true y e = cc
        left false y e = refl

        right : (x y : Bool) → (x || y) ≡ false → y ≡ false
        right true y e = cc
        right false y e = e
    of true e false d t none later = absurd (let h : true ≡ false = sym (less r e) ∙ d in cc)

-- ---- one item more

-- a request that is answered stays so
pub answered-on : (side : Side) (q : ℕ) (item : Item) (past : List Item) → is_answered side q past ≡ true → is_answered side q (item ∷ past) ≡ true
answered-on side q (began by head) past e = e
answered-on side q (told by seq) past e = e
answered-on side q (passed by head payload) past e = of (answers side q past by head)
  where
    of : (b : Bool) → list_any ends_reply (if b then head ∷ reply side q past else reply side q past) ≡ true
    of true = rw e (or-true (ends_reply head))
    of false = e

-- an item that begins no own request
pub record BeginsNone (item : Item) (past : List Item) : Type 0 where
  pub same : requests Side.Sent (item ∷ past) ≡ requests Side.Sent past

less-waits : (item : Item) (past : List Item) (r : Request) → not (is_answered Side.Sent r.position (item ∷ past)) ≡ true → not (is_answered Side.Sent r.position past) ≡ true
less-waits item past r e = of (is_answered Side.Sent r.position past) refl
  where
    of : (b : Bool) → is_answered Side.Sent r.position past ≡ b → not b ≡ true
    of false is = refl
    of true is = absurd (let g : true ≡ false = sym (answered-on Side.Sent r.position item past is) ∙ not-true _ e in cc)

module _ (item : Item) (past : List Item) (none : BeginsNone item past) where
  waits-none : length (waiting Side.Sent past) ≡ 0 → length (waiting Side.Sent (item ∷ past)) ≡ 0
  waits-none e =
      ap (λ (rs : List Request). length (filter (λ (r : Request). not (is_answered Side.Sent r.position (item ∷ past))) rs)) none.same
      ∙ fewer (requests Side.Sent past) (λ (r : Request). not (is_answered Side.Sent r.position past)) (λ (r : Request). not (is_answered Side.Sent r.position (item ∷ past)))
      (λ r. less-waits item past r) e

  waits-sooner : (p : ℕ) → none_waits_before p past ≡ true → none_waits_before p (item ∷ past) ≡ true
  waits-sooner p e =
      ap not
      (ap (λ (rs : List Request). list_any (λ (request : Request). nat_lt request.position p) (filter (λ (r : Request). not (is_answered Side.Sent r.position (item ∷ past))) rs)) none.same
      ∙ fewer-any (requests Side.Sent past) (λ (request : Request). nat_lt request.position p) (λ (r : Request). not (is_answered Side.Sent r.position past))
      (λ (r : Request). not (is_answered Side.Sent r.position (item ∷ past))) (λ r. less-waits item past r) (not-true _ e))

zero-is : (n : ℕ) → (n == 0) ≡ true → n ≡ 0
zero-is n e = grind (arith, nat_tests)

is-zero : (n : ℕ) → n ≡ 0 → (n == 0) ≡ true
is-zero n e = rw e refl

-- the life stays idle, where the item begins no own request, in channel zero or in the life
pub idle-still : (p n c : ℕ) (item : Item) (journal : List Item) → ((channel_of item == 0) ≡ true → BeginsNone item (zero_history journal))
    → (is_of_life n c item journal ≡ true → BeginsNone item (life n c journal)) → is_idle p n c journal ≡ true → is_idle p n c (item ∷ journal) ≡ true
idle-still p n c item journal zero other e = of (n == 0) refl (channel_of item == 0) refl (is_of_life n c item journal) refl e
  where
    of : (b : Bool) → (n == 0) ≡ b → (z : Bool) → (channel_of item == 0) ≡ z → (l : Bool) → is_of_life n c item journal ≡ l
        → (if b then none_waits_before p (zero_history journal) else length (waiting Side.Sent (life n c journal)) == 0) ≡ true
        → (if b then none_waits_before p (if z then item ∷ zero_history journal else zero_history journal)
        else length (waiting Side.Sent (if l then item ∷ life n c journal else life n c journal)) == 0) ≡ true
    of true is true z l here e = waits-sooner item (zero_history journal) (zero z) p e
    of true is false z l here e = e
    of false is b z true here e = is-zero _ (waits-none item (life n c journal) (other here) (zero-is _ e))
    of false is b z false here e = e

pub idle-since-still : (p n c : ℕ) (item : Item) (journal : List Item) → is_idle p n c (item ∷ journal) ≡ true → was_idle_since p n c journal ≡ true
    → was_idle_since p n c (item ∷ journal) ≡ true
idle-since-still p n c item journal now since = rw (now, since) (of (has_begun p (item ∷ journal)))
  where
    of : (b : Bool) → (true && (if b then true else true)) ≡ true
    of true = refl
    of false = refl

-- ---- an item that arrives, and a SEQ

-- it isn't a header that goes out
abbrev pub IsNoHeader : Item → Type 0
IsNoHeader (began Side.Received head) = Unit {0}
IsNoHeader (began Side.Sent head) = ⊥
IsNoHeader (passed by head payload) = Unit {0}
IsNoHeader (told by seq) = Unit {0}

pub begins-none : (item : Item) (past : List Item) → IsNoHeader item → BeginsNone item past
begins-none (began Side.Received head) past silent = record { same = refl }
begins-none (began Side.Sent head) past silent = absurd silent
begins-none (passed by head payload) past silent = record { same = refl }
begins-none (told by seq) past silent = record { same = refl }

pub asks-none : (n c : ℕ) (forms : List (Option Form)) (item : Item) (journal : List Item) → IsNoHeader item → asks_again n c forms item journal ≡ false
asks-none n c forms (began Side.Received head) journal silent = refl
asks-none n c forms (began Side.Sent head) journal silent = absurd silent
asks-none n c forms (passed by head payload) journal silent = refl
asks-none n c forms (told by seq) journal silent = refl

-- closes that may go may go still, where the life that each names stays
pub idle-close : (p : ℕ) (item : Item) (journal : List Item) (said : Option Form) → IsNoHeader item
    → ((n : ℕ) → is_close_of n said ≡ true → lives n (events (item ∷ journal)) ≡ lives n (events journal)) → WasIdle journal p said → WasIdle (item ∷ journal) p said
idle-close p item journal None silent same w = tt
idle-close p item journal (Some (greeting features localize profiles)) silent same w = tt
idle-close p item journal (Some (start number server profiles)) silent same w = tt
idle-close p item journal (Some (chosen profile)) silent same w = tt
idle-close p item journal (Some okay) silent same w = tt
idle-close p item journal (Some (fault code note)) silent same w = tt
idle-close p item journal (Some (close number code note)) silent same w =
    let c : ℕ = lives number (events journal) in
    let now : is_idle p number c (item ∷ journal) ≡ true =
    idle-still p number c item journal (λ z. begins-none item (zero_history journal) silent) (λ l. begins-none item (life number c journal) silent) w.0 in
    subst (λ (k : ℕ). (is_idle p number k (item ∷ journal) ≡ true) × (was_idle_since p number k (item ∷ journal) ≡ true)) (sym (same number (same-number number)))
    (now, idle-since-still p number c item journal now w.1)

pub quiet-close : (forms : List (Option Form)) (p : ℕ) (item : Item) (journal : List Item) (said : Option Form) → IsNoHeader item
    → ((n : ℕ) → life_named n Side.Received p (events (item ∷ journal)) ≡ life_named n Side.Received p (events journal)) → WasQuiet forms journal p said
    → WasQuiet forms (item ∷ journal) p said
quiet-close forms p item journal None silent same w = tt
quiet-close forms p item journal (Some (greeting features localize profiles)) silent same w = tt
quiet-close forms p item journal (Some (start number server profiles)) silent same w = tt
quiet-close forms p item journal (Some (chosen profile)) silent same w = tt
quiet-close forms p item journal (Some okay) silent same w = tt
quiet-close forms p item journal (Some (fault code note)) silent same w = tt
quiet-close forms p item journal (Some (close number code note)) silent same w =
    let c : ℕ = life_named number Side.Received p (events journal) in
    subst (λ (k : ℕ). was_quiet_since p number k forms (item ∷ journal) ≡ true) (sym (same number))
    (quiet-on p number c forms item journal (asks-none number c forms item journal silent) w)
