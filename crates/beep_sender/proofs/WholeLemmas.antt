-- What a sender said in a whole session, as it begins and once it has ended.
use Rattle.std.proofs.Common.{◌≡◌, ◌∙◌, refl, sym, ap, subst, ℕ, ◌==◌, ◌<◌, ◌^◌, ◌||◌, Bool, true, false, if◌then◌else◌, List, [], Option, None, Some, arith}
use Rattle.beep_steps.specs.beep_history.specs.declared.journal.Side.{Side}
use Rattle.beep_steps.specs.beep_history.specs.Journal.{opening}
use Rattle.beep_steps.specs.beep_history.specs.Marks.{marks}
use Rattle.beep_steps.specs.beep_mgmt.specs.Message.{message_said}
use Rattle.beep_steps.specs.beep_text.specs.Said.{element_said}
use Rattle.beep_steps.specs.beep_journal.specs.Journal.{Past}
use Rattle.beep_steps.specs.beep_journal.specs.Life.{is_there, life}
use Rattle.beep_steps.specs.beep_journal.specs.Lives.{Event, is_live}
use Rattle.beep_steps.specs.beep_journal.specs.Zero.{zero_events, zero_history}
use Rattle.beep_steps.specs.beep_lawful.specs.declared.terms.Terms.{Terms}
use Rattle.beep_steps.specs.beep_standing.specs.Standing.{Marks, no_marks}
use Rattle.beep_steps.specs.beep_answering.specs.Decided.{NoneTunes}
use Rattle.beep_steps.specs.beep_session.specs.Lawfully.{IsLawfulSession}
use Rattle.beep_steps.specs.beep_session.specs.Session.{Held}
use Rattle.beep_steps.specs.beep_wires.specs.Log.{Entry}
use Rattle.beep_steps.specs.beep_link.specs.declared.left.Reads.{Reads}
use Rattle.beep_steps.specs.beep_link.specs.Causes.{IsBounded, WhereKnown}
use Rattle.beep_steps.specs.beep_talk.specs.declared.plan.Command.{Command}
use Rattle.beep_steps.specs.beep_talk.specs.Plan.{PlainPlan}
use Rattle.beep_steps.specs.beep_script.specs.Script.{BeginsWith, KeepsScript, script_marks}
use Rattle.beep_steps.specs.Desking.{ShowsSaidZero}
use Rattle.beep_steps.specs.Logs.{moments, AreTaken, IsLawfulOn}
use Rattle.beep_steps.specs.Scripting.{KeepsScriptOn, KeepsWholeOn, ShowsWhole}
use Rattle.beep_steps.proofs.SendSmall.{sender-whole}
use Rattle.beep_steps.proofs.ServedLemmas.{moments-octets}
use Rattle.beep_steps.proofs.TakenLemmas.{from-all}

-- ---- as it begins

-- the implied request says nothing
says-nothing : message_said [] ≡ None
unfolding message_said element_said
says-nothing = refl

no-events : zero_events opening ≡ []
no-events = rw says-nothing refl

-- nothing has come
pub begins-taken : (session : Held) (given : Marks) → IsLawfulSession session [] [] [] given no_marks → AreTaken session
begins-taken session given s = from-all session.limits.window [] given no_marks session.peer.lives s.stands.holds.live (λ n above there. absurd (none-there n above there))
  where
    or-none : (z : Bool) → z ≡ false → (z || false) ≡ false
    or-none true e = absurd (let h : true ≡ false = e in cc)
    or-none false e = refl

    none-there : (n : ℕ) → (n == 0) ≡ false → is_there n [] ≡ true → ⊥
    none-there n above there = let h : false ≡ true = sym (ap (λ (es : List Event). n == 0 || is_live n es) no-events ∙ or-none (n == 0) above) ∙ there in cc

-- before the first octet nothing was sent
pub none-whole : (plan : PlainPlan) → ShowsWhole plan []
none-whole plan past shows = subst (λ (p : Past). KeepsScript plan p.journal) (sym shows) (λ n c. of n c (n == 0))
  where
    of : (n c : ℕ) (b : Bool) → BeginsWith (script_marks plan n c []) (marks Side.Sent (if b then zero_history [] else life n c []))
    of n c true = record { rest = script_marks plan n c []; whole_is = refl }
    of n c false = record { rest = script_marks plan n c []; whole_is = refl }

-- ---- once it has ended

-- what was sent is the beginning of the script, where the log is a lawful one of which fewer than 2^32 octets were read
pub known-whole : (plan : PlainPlan) (terms : Terms) (reads : Reads) (log : Option (List Entry)) → plan.command ≡ Command.Send → NoneTunes plan.offers → reads.octets < 2 ^ 32
    → WhereKnown (λ known. KeepsScriptOn plan known × ShowsSaidZero plan (moments known)) log → WhereKnown (IsLawfulOn terms) log → IsBounded reads log → WhereKnown (KeepsWholeOn plan) log
known-whole plan terms reads None sends none few shown lawful bounded = tt
known-whole plan terms reads (Some log) sends none few shown lawful bounded =
    sender-whole plan terms (moments log) sends none lawful (let same = moments-octets log in omega (arith, few, bounded.octets, same)) shown.0.above shown.1
