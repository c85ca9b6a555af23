-- Each life of an end that serves one profile began with it.
use Rattle.std.proofs.Common.{◌≡◌, ℕ, ◌+◌, ◌<◌, ◌≤◌, ◌==◌, nat_lt, Bool, true, false, not, ◌&&◌, ◌||◌, if◌then◌else◌, List, [], ◌∷◌, ◌++◌, length, Option, None, Some, ◌⊎◌, inl, inr, refl, sym, ap, ◌∙◌, subst, arith, ⊎_elim}
use Rattle.std.specs.Prelude.{is_some, bytes_eq}
use Rattle.std.specs.List.{list_any}
use Rattle.std.proofs.lemmas.Bool.{lt-ltb}
use Rattle.std.proofs.lemmas.Bool.Decides.{nat_tests}
use Rattle.std.proofs.lemmas.List.Folds.{list_any-append}
use Rattle.beep_frame.specs.declared.head.Head.{Head}
use Rattle.beep_frame.specs.declared.kind.Kind.{Kind}
use Rattle.beep_frame.specs.Frame.{is_msg, same_kind}
use Rattle.beep_history.specs.declared.journal.Side.{Side}
use Rattle.beep_history.specs.Journal.{Item, began, passed, told, same_side, other}
use Rattle.beep_history.specs.Marks.{position_of}
use Rattle.beep_mgmt.specs.Form.{Form, greeting, start, chosen, close, okay, fault}
use Rattle.beep_mgmt.specs.Message.{message_said}
use Rattle.beep_journal.specs.Lives.{Event, start_granted, lives, has_ended}
use Rattle.beep_journal.specs.Zero.{channel_of, zero_history, zero_events, gathered, asked, said_at, said_to, is_grant, has_form, completes_form, coming, granting, effect, events}
use Rattle.beep_journal.specs.Laws.{completed, contents}
use Rattle.beep_journal.proofs.MomentLemmas.{same-number}
use Rattle.beep_talk.specs.Talk.{says_profile, chooses, begins_with, has_profile}
use Rattle.beep_served.specs.Served.{says_other, chooses_other, IsServing, HaveProfile}

-- ---- tests

left-false : (a b : Bool) → (a || b) ≡ false → a ≡ false
left-false true b e = absurd cc
left-false false b e = refl

right-false : (a b : Bool) → (a || b) ≡ false → b ≡ false
right-false true b e = absurd cc
right-false false b e = e

or-right : (a b : Bool) → b ≡ true → (a || b) ≡ true
or-right true b e = refl
or-right false b e = e

-- ---- an end serves before the latest item

asked-before : (item : Item) (zero : List Item) → list_any is_some (asked Side.Sent (item ∷ zero)) ≡ false → list_any is_some (asked Side.Sent zero) ≡ false
asked-before (began by head) zero none = none
asked-before (told by seq) zero none = none
asked-before (passed by head payload) zero none = of (same_side by Side.Sent && (is_msg head.kind && not head.more)) none
  where
    of : (b : Bool) → list_any is_some (if b then message_said (gathered Side.Sent zero ++ payload) ∷ asked Side.Sent zero else asked Side.Sent zero) ≡ false
        → list_any is_some (asked Side.Sent zero) ≡ false
    of true e = right-false (is_some (message_said (gathered Side.Sent zero ++ payload))) (list_any is_some (asked Side.Sent zero)) e
    of false e = e

asked-where : (b : Bool) (item : Item) (zero : List Item) → list_any is_some (asked Side.Sent (if b then item ∷ zero else zero)) ≡ false
    → list_any is_some (asked Side.Sent zero) ≡ false
asked-where true item zero none = asked-before item zero none
asked-where false item zero none = none

-- what is said before, and at the latest item
chosen-parts : (uri : List ℕ) (xs ys : List (List ℕ)) → list_any (chooses_other uri) (xs ++ ys) ≡ false
    → (list_any (chooses_other uri) xs ≡ false) × (list_any (chooses_other uri) ys ≡ false)
chosen-parts uri xs ys none =
    let both = sym (list_any-append (chooses_other uri) xs ys) ∙ none in
    (left-false (list_any (chooses_other uri) xs) (list_any (chooses_other uri) ys) both, right-false (list_any (chooses_other uri) xs) (list_any (chooses_other uri) ys) both)

chosen-where : (uri : List ℕ) (b : Bool) (xs ys : List (List ℕ)) → list_any (chooses_other uri) (if b then xs ++ ys else xs) ≡ false
    → (list_any (chooses_other uri) xs ≡ false) × (b ≡ true → list_any (chooses_other uri) ys ≡ false)
chosen-where uri true xs ys none = let both = chosen-parts uri xs ys none in (both.0, λ is. both.1)
chosen-where uri false xs ys none = (none, λ is. absurd (let g : false ≡ true = is in cc))

pub serving-before : (uri : List ℕ) (item : Item) (journal : List Item) → IsServing uri (item ∷ journal) → IsServing uri journal
serving-before uri item journal s = record {
  no_request = asked-where (channel_of item == 0) item (zero_history journal) s.no_request;
  no_other = (chosen-where uri (channel_of item == 0) (contents Side.Sent journal) (completed Side.Sent item (zero_history journal)) s.no_other).0;
}

pub serving-then : (uri : List ℕ) (later journal : List Item) → IsServing uri (later ++ journal) → IsServing uri journal
serving-then uri [] journal s = s
serving-then uri (item ∷ later) journal s = serving-then uri later journal (serving-before uri item (later ++ journal) s)

-- ---- moments that begin no life

said-none : (p : ℕ) (forms : List (Option Form)) → list_any is_some forms ≡ false → said_at p forms ≡ None
said-none p [] none = refl
said-none p (Some form ∷ forms) none = absurd (let g : true ≡ false = none in cc)
said-none p (None ∷ forms) none = of (length forms == p) (said-none p forms none)
  where
    of : (b : Bool) → said_at p forms ≡ None → (if b then None else said_at p forms) ≡ None
    of true rest = refl
    of false rest = rest

module _ (n : ℕ) where
  coming-lives : (by : Side) (p : ℕ) (form : Option Form) (es : List Event) → lives n (coming by p form ++ es) ≡ lives n es
  coming-lives by p None es = refl
  coming-lives by p (Some (greeting features localize profiles)) es = refl
  coming-lives by p (Some (start number server profiles)) es = refl
  coming-lives by p (Some (chosen profile)) es = refl
  coming-lives by p (Some (close number code note)) es = refl
  coming-lives by p (Some okay) es = refl
  coming-lives by p (Some (fault code note)) es = refl

  -- ---- a granted start

  -- a life more, and the profile is the one
  abbrev Grows : List ℕ → Option Form → List Event → List Event → Type 0
  Grows uri reply old new = (lives n new ≡ lives n old) ⊎ ((lives n new ≡ lives n old + 1) × (says_profile uri reply ≡ true))

  start-lives : (uri : List ℕ) (reply : Option Form) (number : ℕ) (es : List Event) → says_profile uri reply ≡ true
      → Grows uri reply es ((if nat_lt 0 number then start_granted number ∷ [] else []) ++ es)
  start-lives uri reply number es says = by (nat_lt 0 number)
    where
      begins : (b : Bool) → (number == n && not (nat_lt 0 (lives n es) && not (has_ended n (lives n es) es))) ≡ b → Grows uri reply es (start_granted number ∷ es)
      begins true is = inr (ap (λ (b : Bool). if b then lives n es + 1 else lives n es) is, says)
      begins false is = inl (ap (λ (b : Bool). if b then lives n es + 1 else lives n es) is)

      by : (b : Bool) → Grows uri reply es ((if b then start_granted number ∷ [] else []) ++ es)
      by true = begins (number == n && not (nat_lt 0 (lives n es) && not (has_ended n (lives n es) es))) refl
      by false = inl refl

  says-it : (a : Bool) → not a ≡ false → a ≡ true
  says-it true e = refl
  says-it false e = absurd (let g : true ≡ false = e in cc)

  grant-lives : (uri : List ℕ) (p : ℕ) (request reply : Option Form) (es : List Event) → is_grant p request reply ≡ true → says_other uri reply ≡ false
      → Grows uri reply es (granting Side.Received p request ++ es)
  grant-lives uri p None reply es is none = inl refl
  grant-lives uri p (Some (greeting features localize profiles)) reply es is none = inl refl
  grant-lives uri p (Some (start number server profiles)) None es is none = absurd (let g : false ≡ true = is in cc)
  grant-lives uri p (Some (start number server profiles)) (Some (greeting features localize others)) es is none = absurd (let g : false ≡ true = is in cc)
  grant-lives uri p (Some (start number server profiles)) (Some (start other from others)) es is none = absurd (let g : false ≡ true = is in cc)
  grant-lives uri p (Some (start number server profiles)) (Some (chosen profile)) es is none =
      start-lives uri (Some (chosen profile)) number es (says-it (bytes_eq profile.uri uri) none)
  grant-lives uri p (Some (start number server profiles)) (Some (close other code note)) es is none = absurd (let g : false ≡ true = is in cc)
  grant-lives uri p (Some (start number server profiles)) (Some okay) es is none = absurd (let g : false ≡ true = is in cc)
  grant-lives uri p (Some (start number server profiles)) (Some (fault code note)) es is none = absurd (let g : false ≡ true = is in cc)
  grant-lives uri p (Some (chosen profile)) reply es is none = inl refl
  grant-lives uri p (Some (close number code note)) reply es is none = inl refl
  grant-lives uri p (Some okay) reply es is none = inl refl
  grant-lives uri p (Some (fault code note)) reply es is none = inl refl

  rpy-form : (kind : Kind) (p : ℕ) (request reply : Option Form) → (same_kind Kind.Rpy kind && has_form kind p request reply) ≡ true → is_grant p request reply ≡ true
  rpy-form Kind.Msg p request reply is = absurd (let g : false ≡ true = is in cc)
  rpy-form Kind.Rpy p request reply is = is
  rpy-form Kind.Err p request reply is = absurd (let g : false ≡ true = is in cc)
  rpy-form Kind.Ans p request reply is = absurd (let g : false ≡ true = is in cc)
  rpy-form Kind.Nul p request reply is = absurd (let g : false ≡ true = is in cc)

  -- ---- a frame of channel zero

  module _ (uri : List ℕ) (head : Head) (payload : List ℕ) (zero : List Item) where
    abbrev es : List Event
    es = zero_events zero

    abbrev reply_in : Side → Option Form
    reply_in by = message_said (gathered by zero ++ payload)

    -- a life more begins as the last frame of a reply passes that says the profile
    abbrev Begins : Side → List Event → Type 0
    Begins by moments = (lives n (moments ++ es) ≡ lives n es)
        ⊎ ((lives n (moments ++ es) ≡ lives n es + 1) × ((not head.more && says_profile uri (reply_in by)) ≡ true))

    -- what an own request asks can't be read, so no reply of the peer grants a start
    came : list_any is_some (asked Side.Sent zero) ≡ false → (m k g : Bool) → Begins Side.Received
        (if m then [] else (if k then coming Side.Received (length (asked Side.Received zero)) (reply_in Side.Received)
        else (if g then granting Side.Sent (position_of Side.Received zero head) (said_to Side.Received head zero) else [])))
    came none true k g = inl refl
    came none false true g = inl (coming-lives Side.Received (length (asked Side.Received zero)) (reply_in Side.Received) es)
    came none false false true =
        inl (ap (λ (form : Option Form). lives n (granting Side.Sent (position_of Side.Received zero head) form ++ es))
        (said-none (position_of Side.Received zero head) (asked Side.Sent zero) none))
    came none false false false = inl refl

    went : (says_other uri (reply_in Side.Sent) ≡ true → head.more ≡ true) → (m k g : Bool) → head.more ≡ m
        → (same_kind Kind.Rpy head.kind && completes_form Side.Sent head payload zero) ≡ g → Begins Side.Sent
        (if m then [] else (if k then coming Side.Sent (length (asked Side.Sent zero)) (reply_in Side.Sent)
        else (if g then granting Side.Received (position_of Side.Sent zero head) (said_to Side.Sent head zero) else [])))
    went none true k g more is = inl refl
    went none false true g more is = inl (coming-lives Side.Sent (length (asked Side.Sent zero)) (reply_in Side.Sent) es)
    went none false false false more is = inl refl
    went none false false true more is =
        ⊎_elim (λ same. inl same) (λ one. inr (one.0, ap (λ (b : Bool). not b && says_profile uri (reply_in Side.Sent)) more ∙ one.1))
        (grant-lives uri (position_of Side.Sent zero head) (said_to Side.Sent head zero) (reply_in Side.Sent) es
        (rpy-form head.kind (position_of Side.Sent zero head) (said_to Side.Sent head zero) (reply_in Side.Sent) is)
        (not-other (says_other uri (reply_in Side.Sent)) none))
      where
        not-other : (b : Bool) → (b ≡ true → head.more ≡ true) → b ≡ false
        not-other true f = absurd (let g : head.more ≡ true = f refl in cc (g, more))
        not-other false f = refl

    frame-lives : (by : Side) → list_any is_some (asked Side.Sent zero) ≡ false → (says_other uri (reply_in Side.Sent) ≡ true → by ≡ Side.Sent → head.more ≡ true)
        → Begins by (effect by head payload zero)
    frame-lives Side.Received none said = came none head.more (is_msg head.kind) (same_kind Kind.Rpy head.kind && completes_form Side.Received head payload zero)
    frame-lives Side.Sent none said =
        went (λ is. said is refl) head.more (is_msg head.kind) (same_kind Kind.Rpy head.kind && completes_form Side.Sent head payload zero) refl refl

  -- ---- an item

  -- lives stay, or one more begins with the profile
  abbrev StepsSo : List ℕ → Item → List Item → Type 0
  StepsSo uri item journal = (lives n (events (item ∷ journal)) ≡ lives n (events journal))
      ⊎ ((lives n (events (item ∷ journal)) ≡ lives n (events journal) + 1) × (chooses uri item journal ≡ true))

  -- the last frame of an own message says no other profile
  sent-so : (uri : List ℕ) (head : Head) (payload : List ℕ) (zero : List Item) (more : Bool)
      → list_any (chooses_other uri) (if true && not more then (gathered Side.Sent zero ++ payload) ∷ [] else []) ≡ false
      → says_other uri (message_said (gathered Side.Sent zero ++ payload)) ≡ true → more ≡ true
  sent-so uri head payload zero true none is = refl
  sent-so uri head payload zero false none is =
      absurd (let g : says_other uri (message_said (gathered Side.Sent zero ++ payload)) ≡ false =
      left-false (says_other uri (message_said (gathered Side.Sent zero ++ payload))) false none in cc (g, is))

  passed-so : (uri : List ℕ) (by : Side) (head : Head) (payload : List ℕ) (journal : List Item) → (head.channel == 0) ≡ true → list_any is_some (asked Side.Sent (zero_history journal)) ≡ false
      → list_any (chooses_other uri) (completed Side.Sent (passed by head payload) (zero_history journal)) ≡ false
      → (lives n (effect by head payload (zero_history journal) ++ events journal) ≡ lives n (events journal))
      ⊎ ((lives n (effect by head payload (zero_history journal) ++ events journal) ≡ lives n (events journal) + 1) × (chooses uri (passed by head payload) journal ≡ true))
  passed-so uri by head payload journal at asks says =
      ⊎_elim (λ same. inl same) (λ one. inr (one.0, ap (λ (b : Bool). b && not head.more && says_profile uri (message_said (gathered by (zero_history journal) ++ payload))) at ∙ one.1))
      (frame-lives uri head payload (zero_history journal) by asks (λ is own. sent-so uri head payload (zero_history journal) head.more
      (subst (λ (side : Side). list_any (chooses_other uri) (completed Side.Sent (passed side head payload) (zero_history journal)) ≡ false) own says) is))

  step-so : (uri : List ℕ) (item : Item) (journal : List Item) → IsServing uri (item ∷ journal) → StepsSo uri item journal
  step-so uri (began by head) journal s = inl (quiet (head.channel == 0))
    where
      quiet : (b : Bool) → lives n (zero_events (if b then began by head ∷ zero_history journal else zero_history journal)) ≡ lives n (events journal)
      quiet true = refl
      quiet false = refl
  step-so uri (told by seq) journal s = inl (quiet (seq.channel == 0))
    where
      quiet : (b : Bool) → lives n (zero_events (if b then told by seq ∷ zero_history journal else zero_history journal)) ≡ lives n (events journal)
      quiet true = refl
      quiet false = refl
  step-so uri (passed by head payload) journal s = of (head.channel == 0) refl
    where
      before : IsServing uri journal
      before = serving-before uri (passed by head payload) journal s

      of : (b : Bool) → (head.channel == 0) ≡ b
          → (lives n (zero_events (if b then passed by head payload ∷ zero_history journal else zero_history journal)) ≡ lives n (events journal))
          ⊎ ((lives n (zero_events (if b then passed by head payload ∷ zero_history journal else zero_history journal)) ≡ lives n (events journal) + 1)
          × (chooses uri (passed by head payload) journal ≡ true))
      of true at =
          passed-so uri by head payload journal at before.no_request
          ((chosen-where uri (head.channel == 0) (contents Side.Sent journal) (completed Side.Sent (passed by head payload) (zero_history journal)) s.no_other).1 at)
      of false at = inl refl

-- ---- all lives

first-lives : (n : ℕ) → lives n (events []) ≡ 0
first-lives n = coming-lives n Side.Sent 0 (message_said []) (coming Side.Received 0 (message_said []) ++ []) ∙ coming-lives n Side.Received 0 (message_said []) []

more-than : (m n : ℕ) → m < n → n ≤ m + 1 → (m + 1 == n) ≡ true
more-than m n less within = subst (λ (k : ℕ). (m + 1 == k) ≡ true) (let e : m + 1 ≡ n = omega (arith, less, within) in e) (same-number (m + 1))

-- such a life before
abbrev Had : List ℕ → ℕ → ℕ → List Item → Type 0
Had uri n count journal = count ≤ lives n (events journal) → has_profile uri n count journal ≡ true

pub have-profile : (uri : List ℕ) (journal : List Item) → IsServing uri journal → HaveProfile uri journal
have-profile uri [] s n count some within = absurd (let g = first-lives n in omega (arith, some, within, g))
have-profile uri (item ∷ journal) s n count some within =
    of (nat_lt (lives n (events journal)) count) refl (step-so n uri item journal s)
    (λ less. have-profile uri journal (serving-before uri item journal s) n count some less)
  where
    rest : Had uri n count journal → count ≤ lives n (events journal) → has_profile uri n count (item ∷ journal) ≡ true
    rest had less = or-right (begins_with uri n count item journal) (has_profile uri n count journal) (had less)

    first : lives n (events journal) < count → lives n (events (item ∷ journal)) ≡ lives n (events journal) + 1 → chooses uri item journal ≡ true → has_profile uri n count (item ∷ journal) ≡ true
    first less one says =
        let at : (lives n (events journal) + 1 == count) ≡ true = more-than (lives n (events journal)) count less (omega (arith, within, one)) in
        let more : nat_lt (lives n (events journal)) (lives n (events (item ∷ journal))) ≡ true = lt-ltb (lives n (events journal)) (lives n (events (item ∷ journal))) (omega (arith, one)) in
        ap (λ (b : Bool). (b && (lives n (events journal) + 1 == count && nat_lt (lives n (events journal)) (lives n (events (item ∷ journal))))) || has_profile uri n count journal) says
        ∙ ap (λ (b : Bool). (b && nat_lt (lives n (events journal)) (lives n (events (item ∷ journal)))) || has_profile uri n count journal) at
        ∙ ap (λ (b : Bool). b || has_profile uri n count journal) more

    below : (m k : ℕ) → nat_lt m k ≡ true → m < k
    below m k e = grind (arith, nat_tests)

    at-most : (m k : ℕ) → nat_lt m k ≡ false → k ≤ m
    at-most m k e = grind (arith, nat_tests)

    of : (b : Bool) → nat_lt (lives n (events journal)) count ≡ b → StepsSo n uri item journal → Had uri n count journal → has_profile uri n count (item ∷ journal) ≡ true
    of b is (inl same) had = rest had (omega (arith, within, same))
    of true is (inr one) had = first (below (lives n (events journal)) count is) one.0 one.1
    of false is (inr one) had = rest had (at-most (lives n (events journal)) count is)
