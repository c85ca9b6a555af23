-- What a listener hears, says and settles leaves it one that nothing refused.
use Rattle.std.proofs.Common.{◌≡◌, Bool, false, List, [], ap, ◌∙◌}
use Rattle.beep_steps.specs.beep_journal.specs.declared.role.Role.{Role}
use Rattle.beep_steps.specs.beep_journal.specs.Log.{Moment}
use Rattle.beep_steps.specs.beep_lawful.specs.declared.terms.Terms.{Terms}
use Rattle.beep_steps.specs.beep_session.specs.Lawfully.{terms_of}
use Rattle.beep_steps.specs.beep_session.specs.Session.{Held}
use Rattle.beep_steps.specs.beep_talk.specs.declared.plan.Command.{Command}
use Rattle.beep_steps.specs.Logs.{StandsOn, StaysOn, WaitsOn}
use Rattle.beep_steps.specs.Refusing.{IsUnrefused, Unrefused}
use Rattle.beep_steps.proofs.SettledLemmas.{first-unrefused}
use Rattle.beep_listener.specs.Listening.{UnrefusedOn, UnrefusedWaiting}

-- ---- a listener

-- what it has begun to close says nothing of it
pub listens-as : (a b : Bool) (log : List Moment) → IsUnrefused Command.Listen a log → IsUnrefused Command.Listen b log
listens-as a b log u past shows = record { none = (u past shows).none; closing_is = λ is. absurd (cc is) }

module _ (old new : Held) (log : List Moment) where
  -- a call that brings nothing and sends nothing
  pub stays-unrefused : StaysOn old new → UnrefusedOn old log → UnrefusedOn new log
  stays-unrefused stays u = record {
    on = stays.stands log u.on;
    role = ap (λ (t : Terms). t.role) stays.terms ∙ u.role;
    unrefused = u.unrefused;
  }

  pub role-stays : terms_of new ≡ terms_of old → old.role ≡ Role.Listener → new.role ≡ Role.Listener
  role-stays same role = ap (λ (t : Terms). t.role) same ∙ role

  -- one after which nothing was refused
  pub goes-unrefused : (closing : Bool) → StandsOn new log → terms_of new ≡ terms_of old → old.role ≡ Role.Listener → IsUnrefused Command.Listen closing log → UnrefusedOn new log
  goes-unrefused closing s same role u = record { on = s; role = role-stays same role; unrefused = listens-as closing false log u }

  -- one while a message of channel zero waits
  pub waits-unrefused : (w : WaitsOn new log) → terms_of new ≡ terms_of old → old.role ≡ Role.Listener → Unrefused Command.Listen false w.journal → UnrefusedWaiting new log
  waits-unrefused w same role u = record { on = w; role = role-stays same role; unrefused = u }

-- ---- before the first octet

pub begins-unrefused : (session : Held) → StandsOn session [] → session.role ≡ Role.Listener → UnrefusedOn session []
begins-unrefused session s role = record { on = s; role = role; unrefused = first-unrefused Command.Listen }
