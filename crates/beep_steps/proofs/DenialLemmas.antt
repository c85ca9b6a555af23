-- Whether what is settled refuses an end: it does where the message that was settled does.
use Rattle.std.proofs.Common.{◌≡◌, ℕ, ◌==◌, nat_le, Bool, true, false, not, ◌&&◌, ◌||◌, if◌then◌else◌, List, Option, None, Some, refl, sym, ap, ◌∙◌, arith}
use Rattle.std.proofs.lemmas.Bool.{eqb-true}
use Rattle.std.proofs.lemmas.Bool.Decides.{nat_tests}
use Rattle.beep_session.specs.beep_frame.specs.declared.kind.Kind.{Kind}
use Rattle.beep_session.specs.beep_frame.specs.Frame.{is_msg, same_kind}
use Rattle.beep_session.specs.beep_mgmt.specs.Form.{Form, PlainProfile, greeting, start, chosen, close, okay, fault}
use Rattle.beep_session.specs.beep_journal.specs.Lives.{Event, is_live}
use Rattle.beep_session.specs.beep_journal.specs.Zero.{has_form, is_grant}
use Rattle.beep_session.specs.beep_decide.specs.Decide.{PlainStanding, Decision, refuse, choose, tune, grant_close, is_among, decide}
use Rattle.beep_session.specs.beep_asked.specs.Kept.{Kept}
use Rattle.beep_session.specs.beep_management.specs.declared.wait.Wait.{Wait}
use Rattle.beep_session.specs.beep_answering.specs.declared.settled.Settled.{Settled}
use Rattle.beep_session.specs.beep_answering.specs.Decided.{SettledBy, IsSettledAs, IsBegunBy, IsClosedBy, refused_as}
use Rattle.beep_desk.specs.beep_talk.specs.declared.plan.Command.{Command}
use Rattle.beep_desk.specs.beep_script.specs.Refused.{fault_code, close_code}
use Rattle.beep_steps.specs.Refusing.{denial_of, closed_so, one_of, refused_so}

-- ---- a reply

no-code : (o : Option ℕ) → one_of None o ≡ o
no-code o = refl

-- what grants an own request refuses nothing
begun-as : (command : Command) (closing : Bool) (asked : Option Form) (profile : PlainProfile) (settled : Settled) → IsBegunBy asked profile settled → refused_so command closing settled ≡ None
begun-as command closing None profile settled b = absurd b
begun-as command closing (Some (greeting features localize profiles)) profile settled b = absurd b
begun-as Command.Send closing (Some (start number server listed)) profile settled b = ap (refused_so Command.Send closing) b.is
begun-as Command.Listen closing (Some (start number server listed)) profile settled b = ap (refused_so Command.Listen closing) b.is
begun-as command closing (Some (chosen other)) profile settled b = absurd b
begun-as command closing (Some (close number code note)) profile settled b = absurd b
begun-as command closing (Some okay) profile settled b = absurd b
begun-as command closing (Some (fault code note)) profile settled b = absurd b

granted-as : (command : Command) (closing : Bool) (asked : Option Form) (names : Bool) (settled : Settled) → IsClosedBy asked names settled → refused_so command closing settled ≡ None
granted-as command closing None names settled b = absurd b
granted-as command closing (Some (greeting features localize profiles)) names settled b = absurd b
granted-as command closing (Some (start number server listed)) names settled b = absurd b
granted-as command closing (Some (chosen profile)) names settled b = absurd b
granted-as command closing (Some (close number code note)) names settled b = ap (refused_so command closing) b ∙ of command (number == 0) names
  where
    of : (command : Command) (z n : Bool) → refused_so command closing (if z then Settled.Released else if n then Settled.Closed number else Settled.Stale None) ≡ None
    of Command.Send true n = refl
    of Command.Send false true = refl
    of Command.Send false false = refl
    of Command.Listen true n = refl
    of Command.Listen false true = refl
    of Command.Listen false false = refl
granted-as command closing (Some okay) names settled b = absurd b
granted-as command closing (Some (fault code note)) names settled b = absurd b

-- and an error refuses the end, whatever was asked
denial-as : (code : ℕ) (asked : Option Form) (names : Bool) → denial_of (refused_as code asked names) ≡ Some code
denial-as code None names = refl
denial-as code (Some (greeting features localize profiles)) names = refl
denial-as code (Some (start number server listed)) names = refl
denial-as code (Some (chosen profile)) names = refl
denial-as code (Some (close number reason note)) names = of (number == 0 || names)
  where
    of : (b : Bool) → denial_of (if b then Settled.NotClosed number code else Settled.Stale (Some code)) ≡ Some code
    of true = refl
    of false = refl
denial-as code (Some okay) names = refl
denial-as code (Some (fault reason note)) names = refl

denied-as : (command : Command) (closing : Bool) (code : ℕ) (asked : Option Form) (names : Bool) → refused_so command closing (refused_as code asked names) ≡ Some code
denied-as Command.Send closing code asked names = ap (λ (o : Option ℕ). one_of o (closed_so closing (refused_as code asked names))) (denial-as code asked names)
denied-as Command.Listen closing code asked names = denial-as code asked names

greeted-as : (command : Command) (closing : Bool) → refused_so command closing Settled.Greeted ≡ None
greeted-as Command.Send closing = refl
greeted-as Command.Listen closing = refl

no-error : (p : ℕ) (request : Option Form) (code : ℕ) (note : List ℕ) → is_grant p request (Some (fault code note)) ≡ false
no-error p None code note = refl
no-error p (Some (greeting features localize profiles)) code note = refl
no-error p (Some (start number server profiles)) code note = refl
no-error p (Some (chosen profile)) code note = refl
no-error p (Some (close number reason text)) code note = refl
no-error p (Some okay) code note = refl
no-error p (Some (fault reason text)) code note = refl

module _ (command : Command) (closing : Bool) (p : ℕ) (request : Option Form) (kept : Kept) (settled : Settled) where
  grant-refuses : (said : Option Form) → is_grant p request said ≡ true → IsSettledAs kept said settled → None ≡ refused_so command closing settled
  grant-refuses None form is = absurd is
  grant-refuses (Some (greeting features localize profiles)) form is = sym (ap (refused_so command closing) is ∙ greeted-as command closing)
  grant-refuses (Some (start number server profiles)) form is = absurd is
  grant-refuses (Some (chosen profile)) form is = sym (begun-as command closing kept.said profile settled is)
  grant-refuses (Some (close number code note)) form is = absurd is
  grant-refuses (Some okay) form is = sym (granted-as command closing kept.said kept.names settled is)
  grant-refuses (Some (fault code note)) form is = absurd (let g : false ≡ true = sym (no-error p request code note) ∙ form in cc)

  error-refuses : (said : Option Form) → has_form Kind.Err p request said ≡ true → IsSettledAs kept said settled → fault_code said ≡ refused_so command closing settled
  error-refuses None form is = absurd is
  error-refuses (Some (greeting features localize profiles)) form is = absurd (let g : false ≡ true = form in cc)
  error-refuses (Some (start number server profiles)) form is = absurd is
  error-refuses (Some (chosen profile)) form is = absurd (let g : false ≡ true = form in cc)
  error-refuses (Some (close number code note)) form is = absurd is
  error-refuses (Some okay) form is = absurd (let g : false ≡ true = form in cc)
  error-refuses (Some (fault code note)) form is = sym (ap (refused_so command closing) is ∙ denied-as command closing code kept.said kept.names)

  -- a whole reply with the form that its request asks for
  pub reply-refuses : (kind : Kind) (said : Option Form) → is_msg kind ≡ false → has_form kind p request said ≡ true → IsSettledAs kept said settled
      → (if same_kind Kind.Err kind then fault_code said else None) ≡ refused_so command closing settled
  reply-refuses Kind.Msg said reply form is = absurd (let g : true ≡ false = reply in cc)
  reply-refuses Kind.Rpy said reply form is = grant-refuses said form is
  reply-refuses Kind.Err said reply form is = error-refuses said form is
  reply-refuses Kind.Ans said reply form is = absurd (let g : false ≡ true = form in cc)
  reply-refuses Kind.Nul said reply form is = absurd (let g : false ≡ true = form in cc)

-- ---- a request of the peer's

-- a listener goes on
pub listener-goes-on : (decision : Decision) (said : Option Form) (settled : Settled) (waits : Wait) → SettledBy decision said settled waits → denial_of settled ≡ None
listener-goes-on (refuse code) said settled waits b = ap denial_of b.0
listener-goes-on (choose place) None settled waits b = absurd b
listener-goes-on (choose place) (Some (greeting features localize profiles)) settled waits b = absurd b
listener-goes-on (choose place) (Some (start number server profiles)) settled waits b = ap denial_of b.0
listener-goes-on (choose place) (Some (chosen profile)) settled waits b = absurd b
listener-goes-on (choose place) (Some (close number code note)) settled waits b = absurd b
listener-goes-on (choose place) (Some okay) settled waits b = absurd b
listener-goes-on (choose place) (Some (fault code note)) settled waits b = absurd b
listener-goes-on (tune place content) said settled waits b = absurd b
listener-goes-on grant_close None settled waits b = absurd b
listener-goes-on grant_close (Some (greeting features localize profiles)) settled waits b = absurd b
listener-goes-on grant_close (Some (start number server profiles)) settled waits b = absurd b
listener-goes-on grant_close (Some (chosen profile)) settled waits b = absurd b
listener-goes-on grant_close (Some (close number code note)) settled waits b = ap denial_of b.0
listener-goes-on grant_close (Some okay) settled waits b = absurd b
listener-goes-on grant_close (Some (fault code note)) settled waits b = absurd b

-- what an end knows of 0 and of channel 1 as the request comes
pub record Knows (closing : Bool) (es : List Event) (standing : PlainStanding) : Type 0 where
  pub live : is_among 1 standing.live ≡ is_live 1 es
  pub zero_free : closing ≡ false → is_among 0 standing.closing ≡ false
  pub one_free : closing ≡ false → is_among 1 standing.closing ≡ false

-- no start, and nothing else than a close, closes
other-sends : (closing : Bool) (decision : Decision) (said : Option Form) (settled : Settled) (waits : Wait) → SettledBy decision said settled waits
    → closed_so closing settled ≡ None → None ≡ refused_so Command.Send closing settled
other-sends closing decision said settled waits b none =
    sym (ap (λ (o : Option ℕ). one_of o (closed_so closing settled)) (listener-goes-on decision said settled waits b) ∙ none)

abbrev no_code : Option ℕ
no_code = None

module _ (es : List Event) (standing : PlainStanding) (settled : Settled) (waits : Wait) where
  if-none : (closing : Bool) → (if not closing then no_code else no_code) ≡ None
  if-none true = refl
  if-none false = refl

  -- one that is refused, or a start that is granted
  quiet : (closing : Bool) (said : Option Form) (decision : Decision) → SettledBy decision said settled waits → close_code es said ≡ None → closed_so closing settled ≡ None
      → (if not closing then close_code es said else None) ≡ refused_so Command.Send closing settled
  quiet closing said decision b none free =
      ap (λ (o : Option ℕ). if not closing then o else None) none ∙ if-none closing ∙ other-sends closing decision said settled waits b free

  -- a close
  module _ (number code : ℕ) (note : List ℕ) where
    abbrev granted : Bool
    granted = (number == 0 || is_among number standing.live) && not (is_among number standing.closing)

    names-it : (z o : Bool) → (number == 0) ≡ z → (number == 1) ≡ o → is_among 1 standing.live ≡ is_live 1 es → granted ≡ true
        → (z || o && is_live 1 es) ≡ nat_le number 1
    names-it true o zeroth first live is = below number zeroth
      where
        below : (n : ℕ) → (n == 0) ≡ true → true ≡ nat_le n 1
        below n e = grind (arith, nat_tests)
    names-it false true zeroth first live is =
        sym live
        ∙ ap (λ (n : ℕ). is_among n standing.live) (sym (eqb-true number 1 first))
        ∙ there (is_among number standing.live) (is_among number standing.closing) (sym (ap (λ (b : Bool). (b || is_among number standing.live) && not (is_among number standing.closing)) zeroth) ∙ is)
        ∙ below number first
      where
        there : (a b : Bool) → (a && not b) ≡ true → a ≡ true
        there true b e = refl
        there false b e = absurd (let g : false ≡ true = e in cc)

        below : (n : ℕ) → (n == 1) ≡ true → true ≡ nat_le n 1
        below n e = grind (arith, nat_tests)
    names-it false false zeroth first live is = above number zeroth first
      where
        above : (n : ℕ) → (n == 0) ≡ false → (n == 1) ≡ false → false ≡ nat_le n 1
        above n e f = grind (arith, nat_tests)

    names-none : (z o : Bool) → (number == 0) ≡ z → (number == 1) ≡ o → Knows false es standing → granted ≡ false → (z || o && is_live 1 es) ≡ false
    names-none true o zeroth first k is =
        absurd (let free : is_among number standing.closing ≡ false = ap (λ (n : ℕ). is_among n standing.closing) (eqb-true number 0 zeroth) ∙ k.zero_free refl in
        let all : true ≡ false = sym (ap (λ (b : Bool). (b || is_among number standing.live) && not (is_among number standing.closing)) zeroth ∙ ap not free) ∙ is in
        cc)
    names-none false true zeroth first k is =
        let free : is_among number standing.closing ≡ false = ap (λ (n : ℕ). is_among n standing.closing) (eqb-true number 1 first) ∙ k.one_free refl in
        sym k.live ∙ ap (λ (n : ℕ). is_among n standing.live) (sym (eqb-true number 1 first))
        ∙ dead (is_among number standing.live) (sym (ap (λ (b : Bool). (b || is_among number standing.live) && not (is_among number standing.closing)) zeroth ∙ ap (λ (b : Bool). is_among number standing.live && not b) free) ∙ is)
      where
        dead : (a : Bool) → (a && true) ≡ false → a ≡ false
        dead false e = refl
        dead true e = e
    names-none false false zeroth first k is = refl

    by-close : (closing : Bool) → Knows closing es standing → (g : Bool) → granted ≡ g → SettledBy (if g then grant_close else refuse 550) (Some (close number code note)) settled waits
        → (if not closing then close_code es (Some (close number code note)) else None) ≡ refused_so Command.Send closing settled
    by-close true k true is b = sym (ap (refused_so Command.Send true) b.0)
    by-close true k false is b = sym (ap (refused_so Command.Send true) b.0)
    by-close false k true is b =
        ap (λ (c : Bool). if c then Some code else None) (names-it (number == 0) (number == 1) refl refl k.live is) ∙ sym (ap (refused_so Command.Send false) b.0)
    by-close false k false is b =
        ap (λ (c : Bool). if c then Some code else None) (names-none (number == 0) (number == 1) refl refl k is) ∙ sym (ap (refused_so Command.Send false) b.0)

  pub asked-refuses : (closing : Bool) → Knows closing es standing → (said : Option Form) → SettledBy (decide standing said) said settled waits
      → (if not closing then close_code es said else None) ≡ refused_so Command.Send closing settled
  asked-refuses closing k None b = quiet closing None (refuse 500) b refl (ap (closed_so closing) b.0)
  asked-refuses closing k (Some (greeting features localize profiles)) b = quiet closing (Some (greeting features localize profiles)) (refuse 500) b refl (ap (closed_so closing) b.0)
  asked-refuses closing k (Some (start number server profiles)) b =
      quiet closing (Some (start number server profiles)) (decide standing (Some (start number server profiles))) b refl (of (decide standing (Some (start number server profiles))) b)
    where
      of : (decision : Decision) → SettledBy decision (Some (start number server profiles)) settled waits → closed_so closing settled ≡ None
      of (refuse code) b = ap (closed_so closing) b.0
      of (choose place) b = ap (closed_so closing) b.0
      of (tune place content) b = absurd b
      of grant_close b = absurd b
  asked-refuses closing k (Some (chosen profile)) b = quiet closing (Some (chosen profile)) (refuse 500) b refl (ap (closed_so closing) b.0)
  asked-refuses closing k (Some (close number code note)) b = by-close number code note closing k (granted number code note) refl b
  asked-refuses closing k (Some okay) b = quiet closing (Some okay) (refuse 500) b refl (ap (closed_so closing) b.0)
  asked-refuses closing k (Some (fault code note)) b = quiet closing (Some (fault code note)) (refuse 500) b refl (ap (closed_so closing) b.0)
