-- The lives of an end that grants no start and asks its three requests in turn: one of channel 1 at most, which its close names.
use Rattle.std.proofs.Common.{◌≡◌, ◌∙◌, refl, sym, ap, subst, ℕ, zero, suc, ◌+◌, ◌<◌, ◌≤◌, ◌==◌, Bool, true, false, not, ◌&&◌, ◌||◌, if◌then◌else◌, List, [], ◌∷◌, ◌++◌, length, Option, None, Some, arith}
use Rattle.std.specs.Prelude.{nat_lt}
use Rattle.std.specs.List.{list_any}
use Rattle.std.proofs.lemmas.Bool.Decides.{nat_tests}
use Rattle.beep_peer.specs.beep_frame.specs.declared.head.Head.{Head}
use Rattle.beep_peer.specs.beep_frame.specs.declared.kind.Kind.{Kind}
use Rattle.beep_peer.specs.beep_frame.specs.Frame.{is_msg, same_kind}
use Rattle.beep_peer.specs.beep_history.specs.declared.journal.Side.{Side}
use Rattle.beep_peer.specs.beep_history.specs.Journal.{Item, began, passed, told, same_side}
use Rattle.beep_peer.specs.beep_history.specs.Marks.{answers, ends_reply, is_answered, position_of, reply}
use Rattle.beep_peer.specs.beep_history.specs.Broken.{KeepsExchangeRules}
use Rattle.beep_peer.specs.beep_mgmt.specs.Form.{Form, greeting, start, chosen, close, okay, fault}
use Rattle.beep_peer.specs.beep_mgmt.specs.Message.{message_said}
use Rattle.beep_peer.specs.beep_journal.specs.Lives.{Event, close_came, start_granted, close_granted, has_ended, is_live, life_named, lives}
use Rattle.beep_peer.specs.beep_journal.specs.Zero.{asked, coming, completes_form, gathered, granting, has_form, is_grant, said_at, said_to, zero_events}
use Rattle.beep_peer.specs.beep_journal.proofs.MomentLemmas.{apart-more, close-live, equal-number, same-number}
use Rattle.beep_peer.specs.beep_decide.specs.Asks.{is_start}
use Rattle.beep_script.specs.beep_talk.specs.AtZero.{profile_of}
use Rattle.beep_script.proofs.RequestedLemmas.{nth}
use Rattle.beep_desk.proofs.OnceLemmas.{answered, unanswered}

-- ---- what is said

-- a message says that a profile is chosen
abbrev pub says_chosen : Option Form → Bool
says_chosen None = false
says_chosen (Some (greeting features localize profiles)) = false
says_chosen (Some (start number server profiles)) = false
says_chosen (Some (chosen profile)) = true
says_chosen (Some (close number code note)) = false
says_chosen (Some okay) = false
says_chosen (Some (fault code note)) = false

-- the own request at a position: the implied one, the start of channel 1, its close and the release
abbrev pub own_at : List ℕ → ℕ → Option Form
own_at uri p = nth p (None ∷ Some (start 1 None (profile_of uri ∷ [])) ∷ Some (close 1 200 []) ∷ Some (close 0 200 []) ∷ [])

-- the requests of a list are the first of these
abbrev pub OwnSaid : List ℕ → List (Option Form) → Type 0
OwnSaid uri forms = (p : ℕ) → p < length forms → said_at p forms ≡ own_at uri p

-- an own message says no choice of a profile, and the request at 2 is whole once the one at 1 is answered
abbrev pub SaysSo : Item → List Item → Type 0
SaysSo (began by head) past = Unit {0}
SaysSo (passed Side.Received head payload) past = Unit {0}
SaysSo (passed Side.Sent head payload) past =
    (head.more ≡ false → says_chosen (message_said (gathered Side.Sent past ++ payload)) ≡ false)
    × (head.more ≡ false → is_msg head.kind ≡ true → length (asked Side.Sent past) ≡ 2 → is_answered Side.Sent 1 past ≡ true)
SaysSo (told by seq) past = Unit {0}

abbrev pub AllSaySo : List Item → Type 0
AllSaySo [] = Unit {0}
AllSaySo (item ∷ past) = SaysSo item past × AllSaySo past

-- ---- the lives that have begun

-- none of another channel than 1, none of it before its start is answered, and none more once its close has come
pub record OneLife (start_answered : Bool) (forms : List (Option Form)) (es : List Event) : Type 0 where
  pub none : (n : ℕ) → (n == 1) ≡ false → lives n es ≡ 0
  pub unstarted : start_answered ≡ false → lives 1 es ≡ 0
  pub named : 2 < length forms → (start_answered ≡ true) × (life_named 1 Side.Sent 2 es ≡ lives 1 es)

abbrev pub HasOneLife : List Item → Type 0
HasOneLife past = OneLife (is_answered Side.Sent 1 past) (asked Side.Sent past) (zero_events past)

-- some moments begin no life, and are no close that comes as the own request at 2
pub record Still (new old : List Event) : Type 0 where
  pub lives_are : (n : ℕ) → lives n new ≡ lives n old
  pub named_is : life_named 1 Side.Sent 2 new ≡ life_named 1 Side.Sent 2 old

no-moment : (es : List Event) → Still es es
no-moment es = record { lives_are = λ n. refl; named_is = refl }

coming-still : (by : Side) (p : ℕ) (form : Option Form) (es : List Event) → (same_side by Side.Sent && p == 2) ≡ false → Still (coming by p form ++ es) es
coming-still by p None es apart = no-moment es
coming-still by p (Some (greeting features localize profiles)) es apart = no-moment es
coming-still by p (Some (start number server profiles)) es apart = no-moment es
coming-still by p (Some (chosen profile)) es apart = no-moment es
coming-still by p (Some (close number code note)) es apart = record {
  lives_are = λ n. refl;
  named_is = ap (λ (b : Bool). if b then lives 1 es else life_named 1 Side.Sent 2 es) apart;
}
coming-still by p (Some okay) es apart = no-moment es
coming-still by p (Some (fault code note)) es apart = no-moment es

granting-still : (by : Side) (p : ℕ) (form : Option Form) (es : List Event) → is_start form ≡ false → Still (granting by p form ++ es) es
granting-still by p None es none = no-moment es
granting-still by p (Some (greeting features localize profiles)) es none = no-moment es
granting-still by p (Some (start number server profiles)) es none = absurd cc
granting-still by p (Some (chosen profile)) es none = no-moment es
granting-still by p (Some (close number code note)) es none = record { lives_are = λ n. refl; named_is = refl }
granting-still by p (Some okay) es none = no-moment es
granting-still by p (Some (fault code note)) es none = no-moment es

stay : (a : Bool) (forms : List (Option Form)) (new old : List Event) → Still new old → OneLife a forms old → OneLife a forms new
stay a forms new old s o = record {
  none = λ n apart. s.lives_are n ∙ o.none n apart;
  unstarted = λ e. s.lives_are 1 ∙ o.unstarted e;
  named = λ some. ((o.named some).0, s.named_is ∙ (o.named some).1 ∙ sym (s.lives_are 1));
}

unless : (a b : Bool) → (a ≡ true → b ≡ true) → b ≡ false → a ≡ false
unless true b f e = absurd (let h : true ≡ false = sym (f refl) ∙ e in cc)
unless false b f e = refl

-- the start may be answered meanwhile
answered-now : (a b : Bool) (forms : List (Option Form)) (es : List Event) → (a ≡ true → b ≡ true) → OneLife a forms es → OneLife b forms es
answered-now a b forms es f o = record {
  none = o.none;
  unstarted = λ e. o.unstarted (unless a b f e);
  named = λ some. (f (o.named some).0, (o.named some).1);
}

-- ---- an own frame

-- a reply that grants without a choice grants no start
pub unchosen-grant : (p : ℕ) (request said : Option Form) → is_grant p request said ≡ true → says_chosen said ≡ false → is_start request ≡ false
unchosen-grant p None said e none = refl
unchosen-grant p (Some (greeting features localize profiles)) said e none = refl
unchosen-grant p (Some (start number server profiles)) None e none = absurd cc
unchosen-grant p (Some (start number server profiles)) (Some (greeting features2 localize2 profiles2)) e none = absurd cc
unchosen-grant p (Some (start number server profiles)) (Some (start number2 server2 profiles2)) e none = absurd cc
unchosen-grant p (Some (start number server profiles)) (Some (chosen profile2)) e none = absurd cc
unchosen-grant p (Some (start number server profiles)) (Some (close number2 code2 note2)) e none = absurd cc
unchosen-grant p (Some (start number server profiles)) (Some okay) e none = absurd cc
unchosen-grant p (Some (start number server profiles)) (Some (fault code2 note2)) e none = absurd cc
unchosen-grant p (Some (chosen profile)) said e none = refl
unchosen-grant p (Some (close number code note)) said e none = refl
unchosen-grant p (Some okay) said e none = refl
unchosen-grant p (Some (fault code note)) said e none = refl

pub rpy-grant : (kind : Kind) (p : ℕ) (request said : Option Form) → (same_kind Kind.Rpy kind && has_form kind p request said) ≡ true → (same_kind Kind.Rpy kind ≡ true) × (is_grant p request said ≡ true)
rpy-grant Kind.Msg p request said e = absurd cc
rpy-grant Kind.Rpy p request said e = (refl, e)
rpy-grant Kind.Err p request said e = absurd cc
rpy-grant Kind.Ans p request said e = absurd cc
rpy-grant Kind.Nul p request said e = absurd cc

-- the latest of some requests
said-latest : (form : Option Form) (forms : List (Option Form)) → said_at (length forms) (form ∷ forms) ≡ form
said-latest form forms = ap (λ (b : Bool). if b then form else said_at (length forms) forms) (same-number (length forms))

-- those before it
said-before : (form : Option Form) (forms : List (Option Form)) (p : ℕ) → p < length forms → said_at p (form ∷ forms) ≡ said_at p forms
said-before form forms p less = ap (λ (b : Bool). if b then form else said_at p forms) (apart-more (length forms) p less)

own-before : (uri : List ℕ) (form : Option Form) (forms : List (Option Form)) → OwnSaid uri (form ∷ forms) → OwnSaid uri forms
own-before uri form forms own p less = sym (said-before form forms p less) ∙ own p (omega (arith, less))

pub own-where : (uri : List ℕ) (b : Bool) (form : Option Form) (forms : List (Option Form)) → OwnSaid uri (if b then form ∷ forms else forms) → OwnSaid uri forms
own-where uri true form forms own = own-before uri form forms own
own-where uri false form forms own = own

-- one more own request is whole
asks-one : (uri : List ℕ) (a : Bool) (form : Option Form) (forms : List (Option Form)) (es : List Event) → OwnSaid uri (form ∷ forms) → (length forms ≡ 2 → a ≡ true)
    → OneLife a forms es → OneLife a (form ∷ forms) (coming Side.Sent (length forms) form ++ es)
asks-one uri a form forms es own second o = by (length forms == 2) refl
  where
    form-is : form ≡ own_at uri (length forms)
    form-is = sym (said-latest form forms) ∙ own (length forms) (omega arith)

    apart-two : (n : ℕ) → (n == 2) ≡ false → 2 < n + 1 → 2 < n
    apart-two n e more = grind (arith, nat_tests, e, more)

    closes : a ≡ true → OneLife a (form ∷ forms) (close_came Side.Sent 2 1 ∷ es)
    closes e = record { none = o.none; unstarted = o.unstarted; named = λ some. (e, refl) }

    by : (b : Bool) → (length forms == 2) ≡ b → OneLife a (form ∷ forms) (coming Side.Sent (length forms) form ++ es)
    by true e =
        let two : length forms ≡ 2 = equal-number (length forms) 2 e in
        subst (λ (n : ℕ). OneLife a (form ∷ forms) (coming Side.Sent n form ++ es)) (sym two)
        (subst (λ (f : Option Form). OneLife a (form ∷ forms) (coming Side.Sent 2 f ++ es)) (sym (form-is ∙ ap (own_at uri) two)) (closes (second two)))
    by false e =
        let s = stay a forms (coming Side.Sent (length forms) form ++ es) es (coming-still Side.Sent (length forms) form es e) o in
        record { none = s.none; unstarted = s.unstarted; named = λ some. s.named (apart-two (length forms) e (omega (arith, some))) }

module _ (uri : List ℕ) (head : Head) (payload : List ℕ) (past : List Item) where
  abbrev es : List Event
  es = zero_events past

  abbrev forms : List (Option Form)
  forms = asked Side.Sent past

  abbrev text_in : Side → Option Form
  text_in by = message_said (gathered by past ++ payload)

  went : SaysSo (passed Side.Sent head payload) past → (a : Bool) → (is_answered Side.Sent 1 past ≡ true → a ≡ true) → OneLife a forms es → (m k g : Bool) → head.more ≡ m → is_msg head.kind ≡ k
      → (same_kind Kind.Rpy head.kind && completes_form Side.Sent head payload past) ≡ g
      → OwnSaid uri (if k && not m then text_in Side.Sent ∷ forms else forms)
      → OneLife a (if k && not m then text_in Side.Sent ∷ forms else forms)
      ((if m then [] else if k then coming Side.Sent (length forms) (text_in Side.Sent)
      else if g then granting Side.Received (position_of Side.Sent past head) (said_to Side.Sent head past) else []) ++ es)
  went says a same o true true g more kind is own = o
  went says a same o true false g more kind is own = o
  went says a same o false true g more kind is own = asks-one uri a (text_in Side.Sent) forms es own (λ two. same (says.1 more kind two)) o
  went says a same o false false true more kind is own =
      let p = position_of Side.Sent past head in
      let r = rpy-grant head.kind p (said_to Side.Sent head past) (text_in Side.Sent) is in
      stay a forms (granting Side.Received p (said_to Side.Sent head past) ++ es) es
      (granting-still Side.Received p (said_to Side.Sent head past) es (unchosen-grant p (said_to Side.Sent head past) (text_in Side.Sent) r.1 (says.0 more))) o
  went says a same o false false false more kind is own = o

  sent-step : SaysSo (passed Side.Sent head payload) past → OwnSaid uri (asked Side.Sent (passed Side.Sent head payload ∷ past)) → HasOneLife past → HasOneLife (passed Side.Sent head payload ∷ past)
  sent-step says own o =
      went says (is_answered Side.Sent 1 past) (λ e. e) o head.more (is_msg head.kind) (same_kind Kind.Rpy head.kind && completes_form Side.Sent head payload past) refl refl refl own

  -- ---- a frame of the peer

  beyond : (p : ℕ) (fs : List (Option Form)) → length fs ≤ p → said_at p fs ≡ None
  beyond p [] few = refl
  beyond p (f ∷ fs) few =
      ap (λ (b : Bool). if b then f else said_at p fs) (less (length fs) (omega (arith, few))) ∙ beyond p fs (omega (arith, few))
    where
      less : (n : ℕ) → n < p → (n == p) ≡ false
      less n e = grind (arith, nat_tests, e)

  nth-nil : (p : ℕ) → ◌≡◌ {A = Option Form} (nth p []) None
  nth-nil zero = refl
  nth-nil (suc p) = refl

  own-start : (p : ℕ) → (p == 1) ≡ false → is_start (own_at uri p) ≡ false
  own-start zero e = refl
  own-start (suc zero) e = absurd cc
  own-start (suc (suc zero)) e = refl
  own-start (suc (suc (suc zero))) e = refl
  own-start (suc (suc (suc (suc p)))) e = ap is_start (nth-nil p)

  other-start : (n : ℕ) → (n == 1) ≡ false → (1 == n) ≡ false
  other-start n e = grind (arith, nat_tests, e)

  -- the start is granted, which wasn't answered
  starts : (a b : Bool) → a ≡ false → b ≡ true → OneLife a forms es → OneLife b forms (start_granted 1 ∷ es)
  starts a b e f o = record {
    none = λ n apart. ap (λ (c : Bool). if c && not (nat_lt 0 (lives n es) && not (has_ended n (lives n es) es)) then lives n es + 1 else lives n es) (other-start n apart) ∙ o.none n apart;
    unstarted = λ g. absurd (let h : true ≡ false = sym f ∙ g in cc);
    named = λ some. absurd (let h : true ≡ false = sym (o.named some).0 ∙ e in cc);
  }

  module _ (keeps : KeepsExchangeRules (passed Side.Received head payload ∷ past)) (own : OwnSaid uri forms) where
    abbrev place : ℕ
    place = position_of Side.Received past head

    abbrev before : Bool
    before = is_answered Side.Sent 1 past

    abbrev now : Bool
    now = is_answered Side.Sent 1 (passed Side.Received head payload ∷ past)

    more-answered : before ≡ true → now ≡ true
    more-answered e = of (answers Side.Sent 1 past Side.Received head)
      where
        either : (a : Bool) → (a || list_any ends_reply (reply Side.Sent 1 past)) ≡ true
        either true = refl
        either false = e

        of : (b : Bool) → list_any ends_reply (if b then head ∷ reply Side.Sent 1 past else reply Side.Sent 1 past) ≡ true
        of true = either (ends_reply head)
        of false = e

    quiet : (moments : List Event) → Still (moments ++ es) es → OneLife before forms es → OneLife now forms (moments ++ es)
    quiet moments s o = answered-now before now forms (moments ++ es) more-answered (stay before forms (moments ++ es) es s o)

    granted : same_kind Kind.Rpy head.kind ≡ true → head.more ≡ false → (form : Option Form) → said_at place forms ≡ form → OneLife before forms es → OneLife now forms (granting Side.Sent place form ++ es)
    granted rpy last form is o = by (nat_lt place (length forms)) refl
      where
        least : (p n : ℕ) → nat_lt p n ≡ false → n ≤ p
        least p n e = grind (arith, nat_tests, e)

        below : (p n : ℕ) → nat_lt p n ≡ true → p < n
        below p n e = grind (arith, nat_tests, e)

        of : (b : Bool) → (place == 1) ≡ b → form ≡ own_at uri place → OneLife now forms (granting Side.Sent place form ++ es)
        of true e own_is =
            let one : place ≡ 1 = equal-number place 1 e in
            subst (λ (n : ℕ). OneLife now forms (granting Side.Sent n form ++ es)) (sym one)
            (subst (λ (f : Option Form). OneLife now forms (granting Side.Sent 1 f ++ es)) (sym (own_is ∙ ap (own_at uri) one))
            (starts before now (unanswered 1 head payload past keeps rpy last one) (answered 1 head payload past keeps rpy last one) o))
        of false e own_is =
            quiet (granting Side.Sent place form) (granting-still Side.Sent place form es (ap is_start own_is ∙ own-start place e)) o

        by : (b : Bool) → nat_lt place (length forms) ≡ b → OneLife now forms (granting Side.Sent place form ++ es)
        by true e = of (place == 1) refl (sym is ∙ own place (below place (length forms) e))
        by false e =
            let none : form ≡ None = sym is ∙ beyond place forms (least place (length forms) e) in
            quiet (granting Side.Sent place form) (granting-still Side.Sent place form es (ap is_start none)) o

    came : OneLife before forms es → (m k g : Bool) → head.more ≡ m → is_msg head.kind ≡ k → (same_kind Kind.Rpy head.kind && completes_form Side.Received head payload past) ≡ g
        → OneLife now forms ((if m then [] else if k then coming Side.Received (length (asked Side.Received past)) (text_in Side.Received)
        else if g then granting Side.Sent place (said_to Side.Received head past) else []) ++ es)
    came o true k g more kind is = quiet [] (no-moment es) o
    came o false true g more kind is =
        quiet (coming Side.Received (length (asked Side.Received past)) (text_in Side.Received))
        (coming-still Side.Received (length (asked Side.Received past)) (text_in Side.Received) es refl) o
    came o false false true more kind is =
        granted (rpy-grant head.kind place (said_to Side.Received head past) (text_in Side.Received) is).0 more (said_to Side.Received head past) refl o
    came o false false false more kind is = quiet [] (no-moment es) o

    received-step : HasOneLife past → HasOneLife (passed Side.Received head payload ∷ past)
    received-step o = came o head.more (is_msg head.kind) (same_kind Kind.Rpy head.kind && completes_form Side.Received head payload past) refl refl refl

-- ---- the whole

pub one-life : (uri : List ℕ) (past : List Item) → KeepsExchangeRules past → OwnSaid uri (asked Side.Sent past) → AllSaySo past → HasOneLife past
one-life uri [] keeps own says = record { none = λ n apart. refl; unstarted = λ e. refl; named = λ some. absurd (omega (arith, some)) }
one-life uri (began by head ∷ past) keeps own says =
    let o = one-life uri past keeps.2 own says.1 in record { none = o.none; unstarted = o.unstarted; named = o.named }
one-life uri (told by seq ∷ past) keeps own says =
    let o = one-life uri past keeps own says.1 in record { none = o.none; unstarted = o.unstarted; named = o.named }
one-life uri (passed Side.Sent head payload ∷ past) keeps own says =
    sent-step uri head payload past says.0 own
    (one-life uri past keeps.2 (own-where uri (is_msg head.kind && not head.more) (message_said (gathered Side.Sent past ++ payload)) (asked Side.Sent past) own) says.1)
one-life uri (passed Side.Received head payload ∷ past) keeps own says =
    received-step uri head payload past keeps own (one-life uri past keeps.2 own says.1)

-- as the close is granted no life of channel 1 is left
pub close-ends : (a : Bool) (fs : List (Option Form)) (es : List Event) → OneLife a fs (close_granted Side.Sent 2 1 ∷ es) → 2 < length fs → is_live 1 (close_granted Side.Sent 2 1 ∷ es) ≡ false
close-ends a fs es o some =
    close-live 1 Side.Sent 2 es (ap (λ (n : ℕ). n == lives 1 es) (o.named some).1 ∙ same-number (lives 1 es))
