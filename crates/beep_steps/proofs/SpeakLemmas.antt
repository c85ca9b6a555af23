-- What an item makes of what is asked first in a life, and of whether a close of 0 by the peer has come.
use Rattle.std.proofs.Common.{◌≡◌, ℕ, ◌+◌, ◌<◌, ◌==◌, Bool, true, false, not, ◌&&◌, ◌||◌, if◌then◌else◌, List, [], ◌∷◌, ◌++◌, length, Option, None, Some, refl, sym, ap, ◌∙◌, arith, append-nil}
use Rattle.std.specs.Prelude.{nat_lt}
use Rattle.std.specs.List.{list_any}
use Rattle.std.proofs.lemmas.Bool.Decides.{nat_tests}
use Rattle.beep_session.specs.beep_frame.specs.declared.head.Head.{Head}
use Rattle.beep_session.specs.beep_frame.specs.declared.kind.Kind.{Kind}
use Rattle.beep_session.specs.beep_frame.specs.Frame.{is_msg, same_kind}
use Rattle.beep_session.specs.beep_history.specs.declared.journal.Side.{Side}
use Rattle.beep_session.specs.beep_history.specs.Journal.{Item, began, passed, told}
use Rattle.beep_session.specs.beep_history.specs.Marks.{position_of}
use Rattle.beep_session.specs.beep_history.specs.Messages.{Message}
use Rattle.beep_session.specs.beep_text.specs.Said.{element_said}
use Rattle.beep_session.specs.beep_mgmt.specs.Form.{Form, greeting, start, chosen, close, okay, fault}
use Rattle.beep_session.specs.beep_mgmt.specs.Message.{message_said}
use Rattle.beep_session.specs.beep_journal.specs.Lives.{Event, start_granted, lives}
use Rattle.beep_session.specs.beep_journal.specs.Zero.{zero_history, zero_events, events, gathered, asked, coming, granting, effect, said_to, completes_form}
use Rattle.beep_session.specs.beep_decide.specs.Asks.{is_close_of}
use Rattle.beep_session.specs.beep_asked.specs.Kept.{Kept, is_leaving}
use Rattle.beep_session.specs.beep_asked.specs.Asked.{AreAsked}
use Rattle.beep_desk.specs.beep_talk.specs.declared.plan.Command.{Command}
use Rattle.beep_desk.specs.beep_talk.specs.Plan.{PlainPlan}
use Rattle.beep_desk.specs.beep_talk.specs.Talk.{begins_with, has_profile, asked_first, has_peer_release, chooses, ready}
use Rattle.beep_served.specs.Served.{HaveProfile}
use Rattle.beep_replies.specs.Replies.{first_said}
use Rattle.beep_replies.proofs.SaidLemmas.{lives-grow, profile-begun}
use Rattle.beep_steps.specs.Speaking.{asked_now}

-- ---- tests

and-if : (p q r : Bool) → (q ≡ true → r ≡ false) → (p && (q && r)) ≡ false
and-if true true r f = f refl
and-if true false r f = refl
and-if false q r f = refl

not-less : (x y : ℕ) → y ≡ x → nat_lt x y ≡ false
not-less x y e = grind (arith, nat_tests)

not-later : (x y c : ℕ) → y < c → (x + 1 == c) ≡ true → nat_lt x y ≡ false
not-later x y c less e = grind (arith, nat_tests)

left-true : (a b : Bool) → b ≡ false → (a || b) ≡ true → a ≡ true
left-true true b e f = refl
left-true false b e f = absurd (let g : true ≡ false = sym f ∙ e in cc)

-- ---- what is asked first

module _ (plan : PlainPlan) (n : ℕ) where
  abbrev asks_if : ℕ → Item → List Item → Bool → List Message
  asks_if c item journal b = first_said plan n c journal ++ (if b then asked_first plan.command (events journal) else [])

  none-asked : (c : ℕ) (item : Item) (journal : List Item) → begins_with plan.raw_uri n c item journal ≡ false → first_said plan n c (item ∷ journal) ≡ first_said plan n c journal
  none-asked c item journal none = ap (asks_if c item journal) none ∙ append-nil (first_said plan n c journal)

  -- nothing where no life begins
  pub first-same : (c : ℕ) (item : Item) (journal : List Item) → lives n (events (item ∷ journal)) ≡ lives n (events journal)
      → first_said plan n c (item ∷ journal) ≡ first_said plan n c journal
  first-same c item journal same =
      none-asked c item journal
      (and-if (chooses plan.raw_uri item journal) (lives n (events journal) + 1 == c) (nat_lt (lives n (events journal)) (lives n (events (item ∷ journal))))
      (λ e. not-less (lives n (events journal)) (lives n (events (item ∷ journal))) same))

  not-yet : (c : ℕ) (item : Item) (journal : List Item) → lives n (events (item ∷ journal)) < c → begins_with plan.raw_uri n c item journal ≡ false
  not-yet c item journal less =
      and-if (chooses plan.raw_uri item journal) (lives n (events journal) + 1 == c) (nat_lt (lives n (events journal)) (lives n (events (item ∷ journal))))
      (λ e. not-later (lives n (events journal)) (lives n (events (item ∷ journal))) c less e)

  -- nothing in a life that hasn't begun
  pub first-before : (c : ℕ) (journal : List Item) → lives n (events journal) < c → first_said plan n c journal ≡ []
  first-before c [] less = refl
  first-before c (item ∷ journal) less =
      none-asked c item journal (not-yet c item journal less)
      ∙ first-before c journal (let more = lives-grow n item journal in omega (arith, less, more))

  no-profile-yet : (c : ℕ) (journal : List Item) → lives n (events journal) < c → has_profile plan.raw_uri n c journal ≡ false
  no-profile-yet c journal less = of (has_profile plan.raw_uri n c journal) refl
    where
      of : (b : Bool) → has_profile plan.raw_uri n c journal ≡ b → b ≡ false
      of true is = absurd (let within = profile-begun plan.raw_uri n c journal is in omega (arith, less, within))
      of false is = refl

  -- in a life that begins with the profile it is asked by what has come
  pub first-begun : (item : Item) (journal : List Item) → HaveProfile plan.raw_uri (item ∷ journal) → lives n (events journal) < lives n (events (item ∷ journal))
      → first_said plan n (lives n (events (item ∷ journal))) (item ∷ journal) ≡ asked_first plan.command (events journal)
  first-begun item journal have more =
      let c = lives n (events (item ∷ journal)) in
      let has : has_profile plan.raw_uri n c (item ∷ journal) ≡ true = have n c (omega (arith, more)) (omega arith) in
      let begins : begins_with plan.raw_uri n c item journal ≡ true = left-true (begins_with plan.raw_uri n c item journal) (has_profile plan.raw_uri n c journal) (no-profile-yet c journal more) has in
      ap (asks_if c item journal) begins ∙ ap (λ (ms : List Message). ms ++ asked_first plan.command (events journal)) (first-before c journal more)

-- what a listener asks then
pub asks-now : (command : Command) (es : List Event) (leaving : Bool) → command ≡ Command.Listen → has_peer_release es ≡ leaving → asked_first command es ≡ asked_now leaving
asks-now command es leaving listens left = ap (λ (c : Command). asked_first c es) listens ∙ ap (λ (b : Bool). if b then [] else ready ∷ []) left ∙ of leaving
  where
    of : (b : Bool) → (if b then [] else ready ∷ []) ≡ asked_now b
    of true = refl
    of false = refl

-- ---- a close of 0 by the peer

sent-coming : (p : ℕ) (form : Option Form) (es : List Event) → has_peer_release (coming Side.Sent p form ++ es) ≡ has_peer_release es
sent-coming p None es = refl
sent-coming p (Some (greeting features localize profiles)) es = refl
sent-coming p (Some (start number server profiles)) es = refl
sent-coming p (Some (chosen profile)) es = refl
sent-coming p (Some (close number code note)) es = refl
sent-coming p (Some okay) es = refl
sent-coming p (Some (fault code note)) es = refl

came-coming : (p : ℕ) (form : Option Form) (es : List Event) → has_peer_release (coming Side.Received p form ++ es) ≡ (is_close_of 0 form || has_peer_release es)
came-coming p None es = refl
came-coming p (Some (greeting features localize profiles)) es = refl
came-coming p (Some (start number server profiles)) es = refl
came-coming p (Some (chosen profile)) es = refl
came-coming p (Some (close number code note)) es = refl
came-coming p (Some okay) es = refl
came-coming p (Some (fault code note)) es = refl

granted-none : (by : Side) (p : ℕ) (form : Option Form) (es : List Event) → has_peer_release (granting by p form ++ es) ≡ has_peer_release es
granted-none by p None es = refl
granted-none by p (Some (greeting features localize profiles)) es = refl
granted-none by p (Some (start number server profiles)) es = of (nat_lt 0 number)
  where
    of : (b : Bool) → has_peer_release ((if b then start_granted number ∷ [] else []) ++ es) ≡ has_peer_release es
    of true = refl
    of false = refl
granted-none by p (Some (chosen profile)) es = refl
granted-none by p (Some (close number code note)) es = refl
granted-none by p (Some okay) es = refl
granted-none by p (Some (fault code note)) es = refl

-- what this end sends is none
sent-effect : (head : Head) (payload : List ℕ) (zero : List Item) (es : List Event) → has_peer_release (effect Side.Sent head payload zero ++ es) ≡ has_peer_release es
sent-effect head payload zero es = of head.more (is_msg head.kind) (same_kind Kind.Rpy head.kind && completes_form Side.Sent head payload zero)
  where
    of : (m k g : Bool) → has_peer_release ((if m then [] else (if k then coming Side.Sent (length (asked Side.Sent zero)) (message_said (gathered Side.Sent zero ++ payload))
        else (if g then granting Side.Received (position_of Side.Sent zero head) (said_to Side.Sent head zero) else []))) ++ es) ≡ has_peer_release es
    of true k g = refl
    of false true g = sent-coming (length (asked Side.Sent zero)) (message_said (gathered Side.Sent zero ++ payload)) es
    of false false true = granted-none Side.Received (position_of Side.Sent zero head) (said_to Side.Sent head zero) es
    of false false false = refl

-- what the peer asks may be one
abbrev pub comes_zero : Head → List ℕ → List Item → Bool
comes_zero head payload zero = (not head.more && is_msg head.kind) && is_close_of 0 (message_said (gathered Side.Received zero ++ payload))

came-effect : (head : Head) (payload : List ℕ) (zero : List Item) (es : List Event) → has_peer_release (effect Side.Received head payload zero ++ es) ≡ (comes_zero head payload zero || has_peer_release es)
came-effect head payload zero es = of head.more (is_msg head.kind) (same_kind Kind.Rpy head.kind && completes_form Side.Received head payload zero)
  where
    of : (m k g : Bool) → has_peer_release ((if m then [] else (if k then coming Side.Received (length (asked Side.Received zero)) (message_said (gathered Side.Received zero ++ payload))
        else (if g then granting Side.Sent (position_of Side.Received zero head) (said_to Side.Received head zero) else []))) ++ es)
        ≡ (((not m && k) && is_close_of 0 (message_said (gathered Side.Received zero ++ payload))) || has_peer_release es)
    of true k g = refl
    of false true g = came-coming (length (asked Side.Received zero)) (message_said (gathered Side.Received zero ++ payload)) es
    of false false true = granted-none Side.Sent (position_of Side.Received zero head) (said_to Side.Received head zero) es
    of false false false = refl

pub sent-release : (head : Head) (payload : List ℕ) (journal : List Item) → has_peer_release (events (passed Side.Sent head payload ∷ journal)) ≡ has_peer_release (events journal)
sent-release head payload journal = of (head.channel == 0)
  where
    of : (b : Bool) → has_peer_release (zero_events (if b then passed Side.Sent head payload ∷ zero_history journal else zero_history journal)) ≡ has_peer_release (events journal)
    of true = sent-effect head payload (zero_history journal) (events journal)
    of false = refl

pub came-release : (head : Head) (payload : List ℕ) (journal : List Item) → (head.channel == 0) ≡ true
    → has_peer_release (events (passed Side.Received head payload ∷ journal)) ≡ (comes_zero head payload (zero_history journal) || has_peer_release (events journal))
came-release head payload journal zero-is =
    ap (λ (b : Bool). has_peer_release (zero_events (if b then passed Side.Received head payload ∷ zero_history journal else zero_history journal))) zero-is
    ∙ came-effect head payload (zero_history journal) (events journal)

-- the implied request says nothing
says-nothing : message_said [] ≡ None
unfolding message_said element_said
says-nothing = refl

-- before the first item none has come
pub no-release : has_peer_release (events []) ≡ false
no-release =
    sent-coming 0 (message_said []) (coming Side.Received 0 (message_said []) ++ []) ∙ came-coming 0 (message_said []) []
    ∙ ap (λ (form : Option Form). is_close_of 0 form || false) says-nothing

-- ---- one that waits has come

pub asked-release : (zero : List Item) → list_any (is_close_of 0) (asked Side.Received zero) ≡ true → has_peer_release (zero_events zero) ≡ true
asked-release [] is = absurd (let g : false ≡ true = is in cc)
asked-release (began by head ∷ zero) is = asked-release zero is
asked-release (told by seq ∷ zero) is = asked-release zero is
asked-release (passed Side.Sent head payload ∷ zero) is = sent-effect head payload zero (zero_events zero) ∙ asked-release zero is
asked-release (passed Side.Received head payload ∷ zero) is = came-effect head payload zero (zero_events zero) ∙ of head.more (is_msg head.kind) is (λ e. asked-release zero e)
  where
    said : Option Form
    said = message_said (gathered Side.Received zero ++ payload)

    or-true : (a : Bool) → (a || true) ≡ true
    or-true true = refl
    or-true false = refl

    either : (a b c : Bool) → (a || b) ≡ true → (b ≡ true → c ≡ true) → (a || c) ≡ true
    either true b c e f = refl
    either false b c e f = f e

    of : (m k : Bool) → list_any (is_close_of 0) (if true && (k && not m) then said ∷ asked Side.Received zero else asked Side.Received zero) ≡ true
        → (list_any (is_close_of 0) (asked Side.Received zero) ≡ true → has_peer_release (zero_events zero) ≡ true)
        → (((not m && k) && is_close_of 0 said) || has_peer_release (zero_events zero)) ≡ true
    of true true e f = f e
    of true false e f = f e
    of false false e f = f e
    of false true e f = either (is_close_of 0 said) (list_any (is_close_of 0) (asked Side.Received zero)) (has_peer_release (zero_events zero)) e f

pub waiting-asked : (es : List Event) (requests : List Kept) (forms : List (Option Form)) → AreAsked Side.Received es requests forms → is_leaving requests ≡ true → list_any (is_close_of 0) forms ≡ true
waiting-asked es [] forms are is = absurd (let g : false ≡ true = is in cc)
waiting-asked es (kept ∷ requests) [] are is = absurd are
waiting-asked es (kept ∷ requests) (form ∷ forms) are is =
    either (is_close_of 0 kept.said) (is_leaving requests) (is_close_of 0 form) (list_any (is_close_of 0) forms) is (ap (is_close_of 0) are.0.said)
    (λ e. waiting-asked es requests forms are.1 e)
  where
    either : (a b c d : Bool) → (a || b) ≡ true → a ≡ c → (b ≡ true → d ≡ true) → (c || d) ≡ true
    either true b c d e same f = ap (λ (x : Bool). x || d) (sym same)
    either false b true d e same f = refl
    either false b false d e same f = f e
