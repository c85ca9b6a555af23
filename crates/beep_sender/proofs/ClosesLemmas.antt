-- The close of channel 1 that a sender gives joins its desk, and it is never refused.
use Rattle.std.proofs.Common.{◌≡◌, ◌∙◌, refl, sym, ap, subst, ℕ, Bool, true, false, not, ◌&&◌, List, [], Option, None, Some, arith}
use Rattle.std.specs.Prelude.{is_some, nat_lt}
use Rattle.beep_steps.specs.beep_journal.specs.Life.{is_there}
use Rattle.beep_steps.specs.beep_journal.specs.Log.{Moment}
use Rattle.beep_steps.specs.beep_lives.specs.Lives.{live_at}
use Rattle.beep_steps.specs.beep_peer.specs.Peering.{is_over}
use Rattle.beep_steps.specs.beep_peer.specs.Acts.{close_refusal}
use Rattle.beep_steps.specs.beep_peer.specs.declared.refusals.CloseError.{CloseError}
use Rattle.beep_steps.specs.beep_session.specs.Channels.{Closes, is_closing}
use Rattle.beep_steps.specs.beep_session.specs.Lawfully.{KeepsUpright}
use Rattle.beep_steps.specs.beep_session.specs.Session.{Held}
use Rattle.beep_steps.specs.beep_mgmt.specs.Form.{close}
use Rattle.beep_steps.specs.beep_mgmt.specs.Message.{message_text}
use Rattle.beep_steps.specs.beep_talk.specs.Plan.{PlainPlan}
use Rattle.beep_steps.specs.Desking.{AsksClose, DesksWithin}
use Rattle.beep_steps.specs.Logs.{AreTaken}
use Rattle.beep_steps.specs.Scripting.{ScriptedOn}
use Rattle.beep_steps.specs.Sending.{Progress}
use Rattle.beep_steps.proofs.CallLemmas.{closes-stays}
use Rattle.beep_steps.proofs.CallScripts.{closes-scripts}
use Rattle.beep_steps.proofs.DeskAsking.{asks-asking}
use Rattle.beep_steps.proofs.SendCloses.{closes-freely}
use Rattle.beep_steps.proofs.SendOpens.{opens-freely}
use Rattle.beep_sender.specs.Asking.{AsksOn}

all-open : (over live closing : Bool) → over ≡ false → live ≡ true → closing ≡ false → (not over && (true && (live && not closing))) ≡ true
all-open false true false e f g = refl
all-open true live closing e f g = absurd cc
all-open false false closing e f g = absurd cc
all-open false true true e f g = absurd cc

-- the channel is open, whose close wasn't asked
pub opens : (plan : PlainPlan) (p : Progress) (session : Held) (log : List Moment) (s : ScriptedOn plan p session log) → p.asked ≡ 1 → is_over session.peer ≡ false
    → is_there 1 s.sends.on.journal ≡ true
    → (not (is_over session.peer) && (nat_lt 0 1 && (is_some (live_at 1 session.peer.lives) && not (is_closing 1 session)))) ≡ true
opens plan p session log s at going there =
    all-open (is_over session.peer) (is_some (live_at 1 session.peer.lives)) (is_closing 1 session) going (sym (s.sends.on.stands.stands.holds.live.there 1) ∙ there)
    (opens-freely plan p session log s.sends (omega (arith, at)))

-- its close isn't refused
pub unrefused-close : (plan : PlainPlan) (p : Progress) (old mid : Held) (number : ℕ) (log : List Moment) → mid ≡ old → number ≡ 1 → ScriptedOn plan p old log → close_refusal mid.peer number ≡ None
unrefused-close plan p old mid number log first is s =
    ap (λ (h : Held). close_refusal h.peer number) first ∙ ap (close_refusal old.peer) is ∙ closes-freely plan p old log s

-- and joins the desk
pub closes-asking : (plan : PlainPlan) (p : Progress) (old mid new last : Held) → mid ≡ old → last ≡ new → (number : ℕ) → number ≡ 1 → Closes number mid new → KeepsUpright mid new
    → (log : List Moment) (d : DesksWithin plan old log) → ScriptedOn plan p old log → p.asked ≡ 1 → p.is_sent ≡ true → AreTaken old → AsksClose plan d.item d.before → AsksOn plan last log
closes-asking plan p old mid new last first same number is g upright log d s at sent taken asked =
    subst (λ (h : Held). AsksOn plan h log) (sym same) (of old first d s taken asked)
  where
    -- where the session that is looked at is the one that was handed over
    here : (d : DesksWithin plan mid log) → ScriptedOn plan p mid log → AreTaken mid → AsksClose plan d.item d.before → AsksOn plan new log
    here d s taken asked = (
      asks-asking plan p mid log d s taken (record p { asked = 2 }) new (closes-scripts plan p mid new number is at sent g upright log s) g.same upright g.kept
          (message_text (close number 200 [])) g.closes 2 (close 1 200 []) (ap (λ (n : ℕ). message_text (close n 200 [])) is) s.sends.sender.texts.close_said
          (omega (arith, at)) (omega (arith, at)) asked,
      (closes-stays number mid new g upright).taken log d.on taken,
    )

    of : (h : Held) → mid ≡ h → (d : DesksWithin plan h log) → ScriptedOn plan p h log → AreTaken h → AsksClose plan d.item d.before → AsksOn plan new log
    of h e = subst (λ (x : Held). (d : DesksWithin plan x log) → ScriptedOn plan p x log → AreTaken x → AsksClose plan d.item d.before → AsksOn plan new log) e here

-- ---- refusals

pub some-none : {X : Type 0} {x : X} {o : Option X} → o ≡ None → o ≡ Some x → ⊥
some-none {X} {x} e f = absurd (let h : None ≡ Some x = sym e ∙ f in cc)

pub busy-apart : (number : ℕ) → CloseError.Busy number ≡ CloseError.NoMemory → ⊥
busy-apart number e = absurd (let h : CloseError.Busy number ≡ CloseError.NoMemory = e in cc)

pub many-apart : CloseError.TooManyAsked ≡ CloseError.NoMemory → ⊥
many-apart e = absurd (let h : CloseError.TooManyAsked ≡ CloseError.NoMemory = e in cc)
