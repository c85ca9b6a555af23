-- Where nothing was refused before the own close began, no close of the peer's is of 0, or names the
-- live life of channel 1.
use Rattle.std.proofs.Common.{◌≡◌, ℕ, ◌+◌, ◌<◌, ◌≤◌, ◌==◌, nat_lt, Bool, true, false, not, ◌&&◌, ◌||◌, if◌then◌else◌, List, [], ◌∷◌, ◌++◌, length, Option, None, Some, ◌⊎◌, inl, inr, refl, sym, ap, ◌∙◌, subst, arith}
use Rattle.std.proofs.lemmas.Bool.{eqb-true}
use Rattle.std.proofs.lemmas.Bool.Decides.{nat_tests}
use Rattle.beep_session.specs.beep_frame.specs.declared.kind.Kind.{Kind}
use Rattle.beep_session.specs.beep_frame.specs.Frame.{is_msg, same_kind}
use Rattle.beep_session.specs.beep_history.specs.declared.journal.Side.{Side}
use Rattle.beep_session.specs.beep_history.specs.Journal.{Item, began, passed, told, same_side}
use Rattle.beep_session.specs.beep_history.specs.Marks.{position_of}
use Rattle.beep_session.specs.beep_text.specs.Said.{element_said}
use Rattle.beep_session.specs.beep_mgmt.specs.Form.{Form, greeting, start, chosen, close, okay, fault}
use Rattle.beep_session.specs.beep_mgmt.specs.Message.{message_said}
use Rattle.beep_session.specs.beep_journal.specs.Lives.{Event, close_came, start_granted, close_granted, lives, has_ended, life_named, is_live}
use Rattle.beep_session.specs.beep_journal.specs.Zero.{channel_of, zero_history, zero_events, gathered, asked, said_to, completes_form, coming, granting, events}
use Rattle.beep_session.specs.beep_journal.proofs.MomentLemmas.{named-within}
use Rattle.beep_session.specs.beep_decide.specs.Asks.{is_close_of}
use Rattle.beep_session.specs.beep_asked.specs.Kept.{Kept, closes_one, closes}
use Rattle.beep_session.specs.beep_asked.specs.Asked.{names_live, names_life, AreAsked}
use Rattle.beep_session.specs.beep_lawful.specs.Closing.{has_begun}
use Rattle.beep_desk.specs.beep_talk.specs.declared.plan.Command.{Command}
use Rattle.beep_desk.specs.beep_script.specs.Refused.{close_code, fault_code, refused_by, refused_at, refusal}
use Rattle.beep_steps.proofs.RefusalLemmas.{zero-where, unbegun-before, none-before, none-now}

-- ---- what a request names

-- the request at this position is no close of 0, nor one of the life of channel 1 that is live
abbrev pub NamesNone : ℕ → Option Form → List Event → Type 0
NamesNone p None es = Unit {0}
NamesNone p (Some (greeting features localize profiles)) es = Unit {0}
NamesNone p (Some (start number server profiles)) es = Unit {0}
NamesNone p (Some (chosen profile)) es = Unit {0}
NamesNone p (Some (close number code note)) es = ((number == 0) ≡ false) × ((number == 1) ≡ true → names_live 1 Side.Received p es ≡ false)
NamesNone p (Some okay) es = Unit {0}
NamesNone p (Some (fault code note)) es = Unit {0}

-- none of these requests is, the latest first
abbrev pub AllNameNone : List (Option Form) → List Event → Type 0
AllNameNone [] es = Unit {0}
AllNameNone (form ∷ forms) es = NamesNone (length forms) form es × AllNameNone forms es

-- ---- a moment

-- it isn't that at which the peer's request at this position comes
abbrev IsApart : ℕ → Event → Type 0
IsApart p (close_came by at of) = (same_side by Side.Received && at == p) ≡ false
IsApart p (start_granted of) = Unit {0}
IsApart p (close_granted by at of) = Unit {0}

named-later : (p : ℕ) (e : Event) (es : List Event) → IsApart p e → names_live 1 Side.Received p es ≡ false → names_live 1 Side.Received p (e ∷ es) ≡ false
named-later p (close_came by at of) es apart none =
    ap (λ (b : Bool). is_live 1 es && (if b then lives 1 es else life_named 1 Side.Received p es) == lives 1 es) apart ∙ none
named-later p (start_granted of) es apart none =
    by (of == 1 && not (nat_lt 0 (lives 1 es) && not (has_ended 1 (lives 1 es) es))) refl
  where
    beyond : (n m : ℕ) → n ≤ m → (n == m + 1) ≡ false
    beyond n m within = grind (arith, nat_tests)

    never : (b : Bool) → (b && false) ≡ false
    never true = refl
    never false = refl

    by : (b : Bool) → (of == 1 && not (nat_lt 0 (lives 1 es) && not (has_ended 1 (lives 1 es) es))) ≡ b → names_live 1 Side.Received p (start_granted of ∷ es) ≡ false
    by true begins =
        ap (λ (n : ℕ). (nat_lt 0 n && not (has_ended 1 n es)) && life_named 1 Side.Received p es == n) (ap (λ (b : Bool). if b then lives 1 es + 1 else lives 1 es) begins)
        ∙ ap (λ (b : Bool). (nat_lt 0 (lives 1 es + 1) && not (has_ended 1 (lives 1 es + 1) es)) && b) (beyond (life_named 1 Side.Received p es) (lives 1 es) (named-within 1 Side.Received p es))
        ∙ never (nat_lt 0 (lives 1 es + 1) && not (has_ended 1 (lives 1 es + 1) es))
    by false begins =
        ap (λ (n : ℕ). (nat_lt 0 n && not (has_ended 1 n es)) && life_named 1 Side.Received p es == n) (ap (λ (b : Bool). if b then lives 1 es + 1 else lives 1 es) begins) ∙ none
named-later p (close_granted by at of) es apart none =
    ended (nat_lt 0 (lives 1 es)) (of == 1 && life_named 1 by at es == lives 1 es) (has_ended 1 (lives 1 es) es) (life_named 1 Side.Received p es == lives 1 es) none
  where
    ended : (a x b c : Bool) → ((a && not b) && c) ≡ false → ((a && not (x || b)) && c) ≡ false
    ended a false b c e = e
    ended true true b c e = refl
    ended false true b c e = refl

one-later : (p : ℕ) (form : Option Form) (e : Event) (es : List Event) → IsApart p e → NamesNone p form es → NamesNone p form (e ∷ es)
one-later p None e es apart none = tt
one-later p (Some (greeting features localize profiles)) e es apart none = tt
one-later p (Some (start number server profiles)) e es apart none = tt
one-later p (Some (chosen profile)) e es apart none = tt
one-later p (Some (close number code note)) e es apart none = (none.0, λ one. named-later p e es apart (none.1 one))
one-later p (Some okay) e es apart none = tt
one-later p (Some (fault code note)) e es apart none = tt

all-later : (forms : List (Option Form)) (e : Event) (es : List Event) → ((p : ℕ) → p < length forms → IsApart p e) → AllNameNone forms es → AllNameNone forms (e ∷ es)
all-later [] e es apart none = tt
all-later (form ∷ forms) e es apart none =
    (one-later (length forms) form e es (apart (length forms) (omega arith)) none.0, all-later forms e es (λ p less. apart p (omega (arith, less))) none.1)

-- ---- the moments of a frame

-- a grant is none at which a request comes
granting-later : (forms : List (Option Form)) (by : Side) (p : ℕ) (form : Option Form) (es : List Event) → AllNameNone forms es → AllNameNone forms (granting by p form ++ es)
granting-later forms by p None es none = none
granting-later forms by p (Some (greeting features localize profiles)) es none = none
granting-later forms by p (Some (start number server profiles)) es none = of (nat_lt 0 number)
  where
    of : (b : Bool) → AllNameNone forms ((if b then start_granted number ∷ [] else []) ++ es)
    of true = all-later forms (start_granted number) es (λ q less. tt) none
    of false = none
granting-later forms by p (Some (chosen profile)) es none = none
granting-later forms by p (Some (close number code note)) es none = all-later forms (close_granted by p number) es (λ q less. tt) none
granting-later forms by p (Some okay) es none = none
granting-later forms by p (Some (fault code note)) es none = none

-- an own request that comes
own-later : (forms : List (Option Form)) (p : ℕ) (form : Option Form) (es : List Event) → AllNameNone forms es → AllNameNone forms (coming Side.Sent p form ++ es)
own-later forms p None es none = none
own-later forms p (Some (greeting features localize profiles)) es none = none
own-later forms p (Some (start number server profiles)) es none = none
own-later forms p (Some (chosen profile)) es none = none
own-later forms p (Some (close number code note)) es none = all-later forms (close_came Side.Sent p number) es (λ q less. refl) none
own-later forms p (Some okay) es none = none
own-later forms p (Some (fault code note)) es none = none

-- a request of the peer's, which refuses nothing
their-later : (forms : List (Option Form)) (form : Option Form) (es : List Event) → close_code es form ≡ None → AllNameNone forms es
    → AllNameNone (form ∷ forms) (coming Side.Received (length forms) form ++ es)
their-later forms None es fine none = (tt, none)
their-later forms (Some (greeting features localize profiles)) es fine none = (tt, none)
their-later forms (Some (start number server profiles)) es fine none = (tt, none)
their-later forms (Some (chosen profile)) es fine none = (tt, none)
their-later forms (Some (close number code note)) es fine none = (names, all-later forms (close_came Side.Received (length forms) number) es (λ p less. apart p (length forms) less) none)
  where
    apart : (p n : ℕ) → p < n → (n == p) ≡ false
    apart p n less = grind (arith, nat_tests)

    unbegun : (number == 0 || number == 1 && is_live 1 es) ≡ false
    unbegun = of (number == 0 || number == 1 && is_live 1 es) fine
      where
        of : (b : Bool) → (if b then Some code else None) ≡ None → b ≡ false
        of false e = refl
        of true e = absurd (let h : Some code ≡ None = e in cc)

    left : (a b : Bool) → (a || b) ≡ false → a ≡ false
    left false b e = refl
    left true b e = absurd (let h : true ≡ false = e in cc)

    dead : (a b c : Bool) → (a || b && c) ≡ false → b ≡ true → (c && (if true && length forms == length forms then lives 1 es else life_named 1 Side.Received (length forms) es) == lives 1 es) ≡ false
    dead false true false e one = refl
    dead false true true e one = absurd (let h : true ≡ false = e in cc)
    dead true b c e one = absurd (let h : true ≡ false = e in cc)
    dead a false c e one = absurd (let h : false ≡ true = one in cc)

    names : NamesNone (length forms) (Some (close number code note)) (close_came Side.Received (length forms) number ∷ es)
    names = (left (number == 0) (number == 1 && is_live 1 es) unbegun, λ one. dead (number == 0) (number == 1) (is_live 1 es) unbegun one)
their-later forms (Some okay) es fine none = (tt, none)
their-later forms (Some (fault code note)) es fine none = (tt, none)

-- ---- an item of channel zero

abbrev AllNone : List Item → Type 0
AllNone past = AllNameNone (asked Side.Received past) (zero_events past)

-- what a whole request of the peer's says refuses nothing
abbrev RefusesNone : Item → List Item → List Event → Type 0
RefusesNone (began by head) past es = Unit {0}
RefusesNone (passed Side.Received head payload) past es =
    is_msg head.kind ≡ true → head.more ≡ false → close_code es (message_said (gathered Side.Received past ++ payload)) ≡ None
RefusesNone (passed Side.Sent head payload) past es = Unit {0}
RefusesNone (told by seq) past es = Unit {0}

if-granting : (g : Bool) (forms : List (Option Form)) (by : Side) (p : ℕ) (form : Option Form) (es : List Event) → AllNameNone forms es
    → AllNameNone forms ((if g then granting by p form else []) ++ es)
if-granting true forms by p form es none = granting-later forms by p form es none
if-granting false forms by p form es none = none

zero-later : (item : Item) (past : List Item) → RefusesNone item past (zero_events past) → AllNone past → AllNone (item ∷ past)
zero-later (began by head) past fine none = none
zero-later (told by seq) past fine none = none
zero-later (passed Side.Sent head payload) past fine none = of head.more (is_msg head.kind)
  where
    of : (m k : Bool) → AllNameNone (asked Side.Received past)
        ((if m then [] else (if k then coming Side.Sent (length (asked Side.Sent past)) (message_said (gathered Side.Sent past ++ payload))
        else (if same_kind Kind.Rpy head.kind && completes_form Side.Sent head payload past then granting Side.Received (position_of Side.Sent past head) (said_to Side.Sent head past) else [])))
        ++ zero_events past)
    of true k = none
    of false true = own-later (asked Side.Received past) (length (asked Side.Sent past)) (message_said (gathered Side.Sent past ++ payload)) (zero_events past) none
    of false false =
        if-granting (same_kind Kind.Rpy head.kind && completes_form Side.Sent head payload past) (asked Side.Received past) Side.Received (position_of Side.Sent past head) (said_to Side.Sent head past)
        (zero_events past) none
zero-later (passed Side.Received head payload) past fine none = of head.more (is_msg head.kind) refl refl
  where
    said : Option Form
    said = message_said (gathered Side.Received past ++ payload)

    of : (m k : Bool) → head.more ≡ m → is_msg head.kind ≡ k
        → AllNameNone (if k && not m then message_said (gathered Side.Received past ++ payload) ∷ asked Side.Received past else asked Side.Received past)
        ((if m then [] else (if k then coming Side.Received (length (asked Side.Received past)) (message_said (gathered Side.Received past ++ payload))
        else (if same_kind Kind.Rpy head.kind && completes_form Side.Received head payload past then granting Side.Sent (position_of Side.Received past head) (said_to Side.Received head past) else [])))
        ++ zero_events past)
    of true true more msg = none
    of true false more msg = none
    of false true more msg =
        their-later (asked Side.Received past) (message_said (gathered Side.Received past ++ payload)) (zero_events past) (fine msg more) none
    of false false more msg =
        if-granting (same_kind Kind.Rpy head.kind && completes_form Side.Received head payload past) (asked Side.Received past) Side.Sent (position_of Side.Received past head)
        (said_to Side.Received head past) (zero_events past) none

-- ---- the journal

-- an item that refused nothing, before the own close began
item-fine : (item : Item) (journal : List Item) → (channel_of item == 0) ≡ true → refused_at Command.Send item journal ≡ None → has_begun 2 journal ≡ false
    → RefusesNone item (zero_history journal) (events journal)
item-fine (began by head) journal at_zero none unbegun = tt
item-fine (told by seq) journal at_zero none unbegun = tt
item-fine (passed Side.Sent head payload) journal at_zero none unbegun = tt
item-fine (passed Side.Received head payload) journal at_zero none unbegun = λ msg more.
    sym (ap (λ (b : Bool). if b then refused_by Command.Send head said journal else None) (ap (λ (b : Bool). b && not head.more) at_zero ∙ ap not more)
    ∙ ap (λ (b : Bool). if b then fault_code said else (if is_msg head.kind && not (has_begun 2 journal) then close_code (events journal) said else None)) (no-err head.kind msg)
    ∙ ap (λ (b : Bool). if b && not (has_begun 2 journal) then close_code (events journal) said else None) msg
    ∙ ap (λ (b : Bool). if not b then close_code (events journal) said else None) unbegun) ∙ none
  where
    said : Option Form
    said = message_said (gathered Side.Received (zero_history journal) ++ payload)

    no-err : (kind : Kind) → is_msg kind ≡ true → same_kind Kind.Err kind ≡ false
    no-err Kind.Msg is = refl
    no-err Kind.Rpy is = refl
    no-err Kind.Err is = absurd (let h : false ≡ true = is in cc)
    no-err Kind.Ans is = refl
    no-err Kind.Nul is = refl

-- the implied request says nothing
says-nothing : message_said [] ≡ None
unfolding message_said element_said
says-nothing = refl

pub none-named : (journal : List Item) → refusal Command.Send journal ≡ None → has_begun 2 journal ≡ false
    → AllNameNone (asked Side.Received (zero_history journal)) (events journal)
none-named [] none unbegun =
    subst (λ (form : Option Form). AllNameNone (form ∷ []) (coming Side.Sent 0 form ++ (coming Side.Received 0 form ++ []))) (sym says-nothing) (tt, tt)
none-named (item ∷ journal) none unbegun =
    let before = none-named journal (none-before Command.Send item journal none) (unbegun-before item journal unbegun) in
    of (channel_of item == 0) refl before
  where
    of : (b : Bool) → (channel_of item == 0) ≡ b → AllNone (zero_history journal) → AllNone (zero_history (item ∷ journal))
    of false apart before = subst AllNone (sym (zero-where false item journal apart)) before
    of true at_zero before =
        subst AllNone (sym (zero-where true item journal at_zero))
        (zero-later item (zero_history journal) (item-fine item journal at_zero (none-now Command.Send item journal none) (unbegun-before item journal unbegun)) before)

-- ---- what is kept

-- no kept request of the peer's is a close of this number that is 0 or 1
module _ (es : List Event) where
  kept-apart : (n : ℕ) → (n ≡ 0) ⊎ (n ≡ 1) → (kept : Kept) (form : Option Form) (p : ℕ) → kept.said ≡ form → kept.names ≡ names_life Side.Received p form es → NamesNone p form es → closes_one n kept ≡ false
  kept-apart n which kept form p said names none =
      ap (λ (f : Option Form). is_close_of n f && (n == 0 || kept.names)) said
      ∙ ap (λ (b : Bool). is_close_of n form && (n == 0 || b)) names ∙ of which form none
    where
      of : (n ≡ 0) ⊎ (n ≡ 1) → (form : Option Form) → NamesNone p form es → (is_close_of n form && (n == 0 || names_life Side.Received p form es)) ≡ false
      of which None none = refl
      of which (Some (greeting features localize profiles)) none = refl
      of which (Some (start number server profiles)) none = refl
      of which (Some (chosen profile)) none = refl
      of which (Some okay) none = refl
      of which (Some (fault code note)) none = refl
      of (inl zeroth) (Some (close number code note)) none = ap (λ (b : Bool). b && (n == 0 || nat_lt 0 number && names_live number Side.Received p es)) (ap (λ (k : ℕ). number == k) zeroth ∙ none.0)
      of (inr first) (Some (close number code note)) none =
          ap (λ (k : ℕ). number == k && (k == 0 || nat_lt 0 number && names_live number Side.Received p es)) first ∙ by (number == 1) refl
        where
          by : (b : Bool) → (number == 1) ≡ b → (b && (false || nat_lt 0 number && names_live number Side.Received p es)) ≡ false
          by false e = refl
          by true e =
              ap (λ (k : ℕ). nat_lt 0 k && names_live k Side.Received p es) (eqb-true number 1 e) ∙ none.1 e

  pub none-closes : (n : ℕ) → (n ≡ 0) ⊎ (n ≡ 1) → (kepts : List Kept) (forms : List (Option Form)) → AreAsked Side.Received es kepts forms → AllNameNone forms es → closes n kepts ≡ false
  none-closes n which [] forms asked none = refl
  none-closes n which (kept ∷ kepts) [] asked none = absurd asked
  none-closes n which (kept ∷ kepts) (form ∷ forms) asked none =
      ap (λ (b : Bool). b || closes n kepts) (kept-apart n which kept form (length forms) asked.0.said asked.0.names none.0)
      ∙ none-closes n which kepts forms asked.1 none.1
