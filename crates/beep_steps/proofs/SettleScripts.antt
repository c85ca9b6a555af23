-- A message of channel zero that is settled leaves a sender's script above channel zero.
use Rattle.std.proofs.Common.{◌≡◌, ◌≤◌, Bool, true, false, List, [], ◌∷◌, ◌++◌, Option, refl, ◌∙◌}
use Rattle.beep_session.specs.beep_frame.specs.Frame.{is_msg}
use Rattle.beep_session.specs.beep_history.specs.declared.journal.Side.{Side}
use Rattle.beep_session.specs.beep_history.specs.Journal.{Item, passed}
use Rattle.beep_session.specs.beep_mgmt.specs.Form.{Form}
use Rattle.beep_session.specs.beep_mgmt.specs.Message.{message_said}
use Rattle.beep_session.specs.beep_journal.specs.Lives.{lives}
use Rattle.beep_session.specs.beep_journal.specs.Zero.{zero_history, gathered, completes_form, events}
use Rattle.beep_session.specs.beep_journal.specs.Log.{Moment}
use Rattle.beep_session.specs.beep_decide.specs.Decide.{PlainStanding}
use Rattle.beep_session.specs.beep_answering.specs.declared.settled.Settled.{Settled}
use Rattle.beep_session.specs.beep_peer.specs.Calls.{SettlesReply, SettlesRequest}
use Rattle.beep_session.specs.beep_upright.specs.Upright.{IsUpright}
use Rattle.beep_session.specs.Channels.{IsOfPeer}
use Rattle.beep_session.specs.Lawfully.{terms_of}
use Rattle.beep_session.specs.Session.{Held}
use Rattle.beep_desk.specs.beep_talk.specs.Plan.{PlainPlan}
use Rattle.beep_desk.specs.beep_script.specs.Requested.{requests_from}
use Rattle.beep_steps.specs.Sending.{Progress}
use Rattle.beep_steps.specs.Scripting.{Scripts, ScriptedOn, ScriptedWaiting}
use Rattle.beep_steps.proofs.CallSends.{first-none}
use Rattle.beep_steps.proofs.SendsLemmas.{few-lives}
use Rattle.beep_steps.proofs.ScriptLemmas.{item-scripts}
use Rattle.beep_steps.proofs.SettleSends.{Quietly, by-reply, by-request, settled-sends}

module _ (plan : PlainPlan) (p : Progress) (old new : Held) (same : IsOfPeer old new) (log : List Moment) (w : ScriptedWaiting plan p old log) (settled : Settled) where
  abbrev now : List Item
  now = passed Side.Received w.sends.on.head w.sends.on.payload ∷ w.sends.on.journal

  abbrev past : List Item
  past = zero_history w.sends.on.journal

  abbrev said : Option Form
  said = message_said (gathered Side.Received past ++ w.sends.on.payload)

  settled-scripts : (q : Quietly plan p old new same log w.sends settled) → IsUpright (terms_of old) now new.peer.lives new.peer.management
      → (is_msg w.sends.on.head.kind ≡ false → completes_form Side.Received w.sends.on.head w.sends.on.payload past ≡ true) → ScriptedOn plan p new log
  settled-scripts q upright fits = record {
    sends = settled-sends plan p old new same log w.sends settled q upright fits;
    scripts = record { kept = scripts.kept; lines = scripts.lines; none = scripts.none };
  }
    where
      asked : requests_from [] (q.settles.given_now 0) ≡ requests_from [] (w.sends.on.given 0)
      asked = first-none w.sends.on.given q.settles.given_now q.settles.answers new.peer q.none w.sends.on.waits.manages.is.spoken_is.whole q.settles.gives

      few : lives 1 (events now) ≤ 1
      few =
          few-lives plan.raw_uri w.sends.sender.texts (terms_of old) w.sends.sender.role now q.settles.given_now q.settles.taken_now new.peer.lives q.settles.stands.holds.live p.asked
          (asked ∙ w.sends.sends.asked) w.sends.on.lawful

      scripts : Scripts plan p now q.settles.given_now
      scripts =
          item-scripts plan p (passed Side.Received w.sends.on.head w.sends.on.payload) w.sends.on.journal w.sends.on.given q.settles.given_now w.sends.sends w.scripts tt q.settles.given_is few

  pub settles-scripting : (standing : PlainStanding)
      → (is_msg w.sends.on.head.kind ≡ true → SettlesRequest old.limits.window w.sends.on.fed w.sends.on.journal w.sends.on.given w.sends.on.taken w.sends.on.head w.sends.on.payload standing said settled
      old.peer.management.answers new.peer)
      → (is_msg w.sends.on.head.kind ≡ false → SettlesReply old.limits.window w.sends.on.fed w.sends.on.journal w.sends.on.given w.sends.on.taken w.sends.on.head w.sends.on.payload
      old.peer.management.answers new.peer)
      → IsUpright (terms_of old) now new.peer.lives new.peer.management
      → (is_msg w.sends.on.head.kind ≡ false → completes_form Side.Received w.sends.on.head w.sends.on.payload past ≡ true) → ScriptedOn plan p new log
  settles-scripting standing request reply upright fits = of (is_msg w.sends.on.head.kind) refl
    where
      of : (b : Bool) → is_msg w.sends.on.head.kind ≡ b → ScriptedOn plan p new log
      of true is = settled-scripts (by-request plan p old new same log w.sends settled standing (request is)) upright fits
      of false is = settled-scripts (by-reply plan p old new same log w.sends settled (reply is)) upright fits
