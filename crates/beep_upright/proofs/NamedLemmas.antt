-- The number of a live channel is in its range: its start was granted.
use Rattle.std.proofs.Common.{◌≡◌, ℕ, ◌+◌, ◌<◌, ◌≤◌, ◌==◌, nat_lt, nat_le, Bool, true, false, not, ◌&&◌, ◌||◌, if◌then◌else◌, List, [], ◌∷◌, ◌++◌, length, Option, None, Some, refl, sym, ap, subst, arith}
use Rattle.std.specs.Option.{is_none}
use Rattle.std.proofs.lemmas.Bool.Decides.{nat_tests}
use Rattle.beep_management.specs.beep_frame.specs.declared.head.Head.{Head}
use Rattle.beep_management.specs.beep_frame.specs.declared.head.TheConstants.{MAX_NUMBER}
use Rattle.beep_management.specs.beep_frame.specs.declared.kind.Kind.{Kind}
use Rattle.beep_management.specs.beep_frame.specs.Frame.{is_msg, same_kind}
use Rattle.beep_management.specs.beep_mgmt.specs.Form.{Form, greeting, start, chosen, close, okay, fault}
use Rattle.beep_management.specs.beep_mgmt.specs.Message.{message_said}
use Rattle.beep_management.specs.beep_text.specs.Said.{element_said}
use Rattle.beep_management.specs.beep_history.specs.declared.journal.Side.{Side}
use Rattle.beep_management.specs.beep_history.specs.Journal.{Item, began, passed, told, other}
use Rattle.beep_management.specs.beep_history.specs.Marks.{position_of}
use Rattle.beep_management.specs.beep_journal.specs.declared.role.Role.{Role}
use Rattle.beep_management.specs.beep_journal.specs.Lives.{Event, close_came, start_granted, close_granted, lives, has_ended, is_live}
use Rattle.beep_management.specs.beep_journal.specs.Zero.{zero_history, gathered, asked, said_at, said_to, completes_form, coming, granting, effect, zero_events, events}
use Rattle.beep_management.specs.beep_journal.specs.Life.{is_there}
use Rattle.beep_management.specs.beep_journal.specs.Broken.{none_tunes}
use Rattle.beep_management.specs.beep_decide.specs.Numbers.{has_parity, other_role, may_start}
use Rattle.beep_lawful.specs.declared.breach.Breach.{Breach}
use Rattle.beep_lawful.specs.declared.terms.Terms.{Terms}
use Rattle.beep_lawful.specs.Lawful.{breaks_start_number, breaks_grant_number, request_said, granted_said, unlawful_frame, unlawful_item, is_lawful, IsLawful}
use Rattle.beep_upright.proofs.TestLemmas.{both-one, both-two}

-- ---- numbers in their range

-- a form that starts a channel starts one of a number in its range
abbrev IsNamed : Option Form → Type 0
IsNamed None = Unit {0}
IsNamed (Some (greeting features localize profiles)) = Unit {0}
IsNamed (Some (start number server profiles)) = number ≤ MAX_NUMBER
IsNamed (Some (chosen profile)) = Unit {0}
IsNamed (Some (close number code note)) = Unit {0}
IsNamed (Some okay) = Unit {0}
IsNamed (Some (fault code note)) = Unit {0}

abbrev AllNamed : List (Option Form) → Type 0
AllNamed [] = Unit {0}
AllNamed (form ∷ forms) = IsNamed form × AllNamed forms

-- each start that was granted is of a number in its range
abbrev AreNamed : List Event → Type 0
AreNamed [] = Unit {0}
AreNamed (close_came side position of ∷ es) = AreNamed es
AreNamed (start_granted of ∷ es) = (of ≤ MAX_NUMBER) × AreNamed es
AreNamed (close_granted side position of ∷ es) = AreNamed es

may-named : (role : Role) (number : ℕ) → may_start role number ≡ true → number ≤ MAX_NUMBER
may-named role number e = grind (arith, nat_tests, both-two (nat_lt 0 number) (nat_le number MAX_NUMBER) (both-one (nat_lt 0 number && nat_le number MAX_NUMBER) (has_parity role number) e))

first-false : (a b c : Bool) → (not a || b || c) ≡ false → a ≡ true
first-false true b c e = refl
first-false false b c e = cc

start-named : (role : Role) (journal : List Item) (form : Option Form) → breaks_start_number role journal form ≡ false → IsNamed form
start-named role journal None e = tt
start-named role journal (Some (greeting features localize profiles)) e = tt
start-named role journal (Some (start number server profiles)) e = may-named role number (first-false (may_start role number) _ _ e)
start-named role journal (Some (chosen profile)) e = tt
start-named role journal (Some (close number code note)) e = tt
start-named role journal (Some okay) e = tt
start-named role journal (Some (fault code note)) e = tt

grant-named : (role : Role) (journal : List Item) (form : Option Form) → breaks_grant_number role journal form ≡ false → IsNamed form
grant-named role journal None e = tt
grant-named role journal (Some (greeting features localize profiles)) e = tt
grant-named role journal (Some (start number server profiles)) e = may-named (other_role role) number (first-false (may_start (other_role role) number) _ _ e)
grant-named role journal (Some (chosen profile)) e = tt
grant-named role journal (Some (close number code note)) e = tt
grant-named role journal (Some okay) e = tt
grant-named role journal (Some (fault code note)) e = tt

at-named : (position : ℕ) (forms : List (Option Form)) → AllNamed forms → IsNamed (said_at position forms)
at-named position [] all = tt
at-named position (form ∷ forms) all = of (length forms == position) (at-named position forms all.1)
  where
    of : (b : Bool) → IsNamed (said_at position forms) → IsNamed (if b then form else said_at position forms)
    of true rest = all.0
    of false rest = rest

events-append : (one two : List Event) → AreNamed one → AreNamed two → AreNamed (one ++ two)
events-append [] two first second = second
events-append (close_came side position of ∷ es) two first second = events-append es two first second
events-append (start_granted of ∷ es) two first second = (first.0, events-append es two first.1 second)
events-append (close_granted side position of ∷ es) two first second = events-append es two first second

granting-named : (side : Side) (position : ℕ) (form : Option Form) → IsNamed form → AreNamed (granting side position form)
granting-named side position None is = tt
granting-named side position (Some (greeting features localize profiles)) is = tt
granting-named side position (Some (start number server profiles)) is = of (nat_lt 0 number)
  where
    of : (b : Bool) → AreNamed (if b then start_granted number ∷ [] else [])
    of true = (is, tt)
    of false = tt
granting-named side position (Some (chosen profile)) is = tt
granting-named side position (Some (close number code note)) is = tt
granting-named side position (Some okay) is = tt
granting-named side position (Some (fault code note)) is = tt

coming-named : (side : Side) (position : ℕ) (form : Option Form) → AreNamed (coming side position form)
coming-named side position None = tt
coming-named side position (Some (greeting features localize profiles)) = tt
coming-named side position (Some (start number server profiles)) = tt
coming-named side position (Some (chosen profile)) = tt
coming-named side position (Some (close number code note)) = tt
coming-named side position (Some okay) = tt
coming-named side position (Some (fault code note)) = tt

-- ---- a lawful journal

says-nothing : message_said [] ≡ None
unfolding message_said element_said
says-nothing = refl

next-none : (holds : Bool) (breach : Breach) (others : Option Breach) → (if holds then Some breach else others) ≡ None → (holds ≡ false) × (others ≡ None)
next-none true breach others e = cc
next-none false breach others e = (refl, e)

none-is : (o : Option Breach) → is_none o ≡ true → o ≡ None
none-is None e = refl
none-is (Some breach) e = cc

-- what the tests say of the numbers in a frame that went out
frame-tests : (terms : Terms) (past : List Item) (head : Head) (payload : List ℕ) → unlawful_frame terms none_tunes past head payload ≡ None
    → (breaks_start_number terms.role past (request_said past head payload) ≡ false) × (breaks_grant_number terms.role past (granted_said past head) ≡ false)
unfolding unlawful_frame
frame-tests terms past head payload e =
    let one = next-none _ Breach.Apart _ e in
    let two = next-none _ Breach.Rule _ one.1 in
    let three = next-none _ Breach.OkTooSoon _ two.1 in
    let four = next-none _ Breach.CloseUnanswered _ three.1 in
    let five = next-none _ Breach.AfterEnd _ four.1 in
    let six = next-none (breaks_start_number terms.role past (request_said past head payload)) Breach.StartNumber _ five.1 in
    let seven = next-none (breaks_grant_number terms.role past (granted_said past head)) Breach.GrantNumber _ six.1 in
    (six.0, seven.0)

module _ (terms : Terms) where
  earlier : (item : Item) (journal : List Item) → IsLawful terms none_tunes (item ∷ journal) → IsLawful terms none_tunes journal
  earlier item journal is = both-two (is_none (unlawful_item terms none_tunes journal item)) (is_lawful terms none_tunes journal) is

  tests : (head : Head) (payload : List ℕ) (journal : List Item) → IsLawful terms none_tunes (passed Side.Sent head payload ∷ journal)
      → (breaks_start_number terms.role journal (request_said journal head payload) ≡ false) × (breaks_grant_number terms.role journal (granted_said journal head) ≡ false)
  tests head payload journal is =
      frame-tests terms journal head payload (none-is (unlawful_frame terms none_tunes journal head payload)
      (both-one (is_none (unlawful_item terms none_tunes journal (passed Side.Sent head payload))) (is_lawful terms none_tunes journal) is))

  -- what own requests say
  asked-named : (journal : List Item) → IsLawful terms none_tunes journal → AllNamed (asked Side.Sent (zero_history journal))
  asked-named [] is = (subst IsNamed (sym says-nothing) tt, (tt))
  asked-named (began side head ∷ journal) is = of (head.channel == 0) (asked-named journal (earlier (began side head) journal is))
    where
      of : (zero : Bool) → AllNamed (asked Side.Sent (zero_history journal))
          → AllNamed (asked Side.Sent (if zero then began side head ∷ zero_history journal else zero_history journal))
      of true before = before
      of false before = before
  asked-named (told side seq ∷ journal) is = of (seq.channel == 0) (asked-named journal (earlier (told side seq) journal is))
    where
      of : (zero : Bool) → AllNamed (asked Side.Sent (zero_history journal))
          → AllNamed (asked Side.Sent (if zero then told side seq ∷ zero_history journal else zero_history journal))
      of true before = before
      of false before = before
  asked-named (passed Side.Received head payload ∷ journal) is = of (head.channel == 0) (asked-named journal (earlier (passed Side.Received head payload) journal is))
    where
      of : (zero : Bool) → AllNamed (asked Side.Sent (zero_history journal))
          → AllNamed (asked Side.Sent (if zero then passed Side.Received head payload ∷ zero_history journal else zero_history journal))
      of true before = before
      of false before = before
  asked-named (passed Side.Sent head payload ∷ journal) is =
      of (asked-named journal (earlier (passed Side.Sent head payload) journal is)) (head.channel == 0)
      (start-named terms.role journal (request_said journal head payload) (tests head payload journal is).0)
    where
      two : AllNamed (asked Side.Sent (zero_history journal)) → (msg last : Bool) → IsNamed (if msg && last then message_said (gathered Side.Sent (zero_history journal) ++ payload) else None)
          → AllNamed (if msg && last then message_said (gathered Side.Sent (zero_history journal) ++ payload) ∷ asked Side.Sent (zero_history journal) else asked Side.Sent (zero_history journal))
      two before true true named = (named, before)
      two before true false named = before
      two before false last named = before

      of : AllNamed (asked Side.Sent (zero_history journal)) → (zero : Bool)
          → IsNamed (if zero && is_msg head.kind && not head.more then message_said (gathered Side.Sent (zero_history journal) ++ payload) else None)
          → AllNamed (asked Side.Sent (if zero then passed Side.Sent head payload ∷ zero_history journal else zero_history journal))
      of before false named = before
      of before true named = two before (is_msg head.kind) (not head.more) named

  -- ---- the starts that were granted

  effect-named : (side : Side) (head : Head) (payload : List ℕ) (zero : List Item) → (head.more ≡ false → same_kind Kind.Rpy head.kind ≡ true → IsNamed (said_to side head zero))
      → AreNamed (effect side head payload zero)
  effect-named side head payload zero named = of head.more refl (is_msg head.kind) (same_kind Kind.Rpy head.kind) refl (completes_form side head payload zero)
    where
      of : (more : Bool) → head.more ≡ more → (msg rpy : Bool) → same_kind Kind.Rpy head.kind ≡ rpy → (form : Bool)
          → AreNamed (if more then [] else (if msg then coming side (length (asked side zero)) (message_said (gathered side zero ++ payload)) else (if rpy && form then granting (other side) (position_of side zero head) (said_to side head zero) else [])))
      of true m msg rpy r form = tt
      of false m true rpy r form = coming-named side (length (asked side zero)) (message_said (gathered side zero ++ payload))
      of false m false true r true = granting-named (other side) (position_of side zero head) (said_to side head zero) (named m r)
      of false m false true r false = tt
      of false m false false r form = tt

  granted-if : (zero rpy last : Bool) (form : Option Form) → IsNamed (if zero && rpy && last then form else None) → zero ≡ true → rpy ≡ true → last ≡ true → IsNamed form
  granted-if true true true form named z r l = named
  granted-if true true false form named z r l = cc
  granted-if true false last form named z r l = cc
  granted-if false rpy last form named z r l = cc

  pub events-named : (journal : List Item) → IsLawful terms none_tunes journal → AreNamed (events journal)
  events-named [] is =
      events-append (coming Side.Sent 0 (message_said [])) (coming Side.Received 0 (message_said []) ++ []) (coming-named Side.Sent 0 (message_said []))
      (events-append (coming Side.Received 0 (message_said [])) [] (coming-named Side.Received 0 (message_said [])) tt)
  events-named (began side head ∷ journal) is = of (head.channel == 0) (events-named journal (earlier (began side head) journal is))
    where
      of : (zero : Bool) → AreNamed (events journal) → AreNamed (zero_events (if zero then began side head ∷ zero_history journal else zero_history journal))
      of true before = before
      of false before = before
  events-named (told side seq ∷ journal) is = of (seq.channel == 0) (events-named journal (earlier (told side seq) journal is))
    where
      of : (zero : Bool) → AreNamed (events journal) → AreNamed (zero_events (if zero then told side seq ∷ zero_history journal else zero_history journal))
      of true before = before
      of false before = before
  events-named (passed Side.Received head payload ∷ journal) is = of (events-named journal (earlier (passed Side.Received head payload) journal is)) (head.channel == 0)
    where
      of : AreNamed (events journal) → (zero : Bool) → AreNamed (zero_events (if zero then passed Side.Received head payload ∷ zero_history journal else zero_history journal))
      of before true =
          events-append (effect Side.Received head payload (zero_history journal)) (events journal)
          (effect-named Side.Received head payload (zero_history journal)
          (λ last rpy. at-named (position_of Side.Received (zero_history journal) head) (asked Side.Sent (zero_history journal)) (asked-named journal (earlier (passed Side.Received head payload) journal is)))) before
      of before false = before
  events-named (passed Side.Sent head payload ∷ journal) is = of (events-named journal (earlier (passed Side.Sent head payload) journal is)) (head.channel == 0) refl
    where
      of : AreNamed (events journal) → (zero : Bool) → (head.channel == 0) ≡ zero → AreNamed (zero_events (if zero then passed Side.Sent head payload ∷ zero_history journal else zero_history journal))
      of before true z =
          events-append (effect Side.Sent head payload (zero_history journal)) (events journal)
          (effect-named Side.Sent head payload (zero_history journal)
          (λ last rpy. granted-if (head.channel == 0) (same_kind Kind.Rpy head.kind) (not head.more) (said_to Side.Sent head (zero_history journal))
          (grant-named terms.role journal (granted_said journal head) (tests head payload journal is).1) z rpy (ap not last))) before
      of before false z = before

-- ---- live numbers

lives-named : (number : ℕ) (es : List Event) → AreNamed es → 0 < lives number es → number ≤ MAX_NUMBER
lives-named number [] named some = absurd (omega arith)
lives-named number (close_came side position of ∷ es) named some = lives-named number es named some
lives-named number (close_granted side position of ∷ es) named some = lives-named number es named some
lives-named number (start_granted of ∷ es) named some =
    by (lives-named number es named.1) (of == number) refl (not (nat_lt 0 (lives number es) && not (has_ended number (lives number es) es))) some
  where
    by : (0 < lives number es → number ≤ MAX_NUMBER) → (same : Bool) → (of == number) ≡ same → (fresh : Bool) → 0 < (if same && fresh then lives number es + 1 else lives number es) → number ≤ MAX_NUMBER
    by before true e fresh s = let is : of ≡ number = grind (arith, nat_tests, e) in omega (arith, named.0, is)
    by before false e fresh s = before s

pub there-named : (terms : Terms) (journal : List Item) → IsLawful terms none_tunes journal → (number : ℕ) → is_there number journal ≡ true → number ≤ MAX_NUMBER
there-named terms journal is number there = of (number == 0) refl there
  where
    of : (zero : Bool) → (number == 0) ≡ zero → (zero || is_live number (events journal)) ≡ true → number ≤ MAX_NUMBER
    of true e live = let is_zero : number ≡ 0 = grind (arith, nat_tests, e) in omega (arith, is_zero)
    of false e live =
        let some : nat_lt 0 (lives number (events journal)) ≡ true = both-one (nat_lt 0 (lives number (events journal))) _ live in
        lives-named number (events journal) (events-named terms journal is) (grind (arith, nat_tests, some))
