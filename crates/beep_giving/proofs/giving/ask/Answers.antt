-- What the channel gives is the next request of the life.
use Rattle.std.proofs.lemmas.Result.{on_err_weaker}
use Rattle.std.proofs.Common.{◌≡◌, refl, sym, ap, ◌∙◌}
use Rattle.beep_peer.specs.beep_asked.specs.Kept.{Queue, closes, is_leaving}
use Rattle.std.specs.Prelude.{option_map}
use Rattle.beep_peer.specs.beep_frame.specs.declared.kind.Kind.{Kind}
use Rattle.beep_peer.specs.beep_exchange.specs.Given.{after_given}
use Rattle.beep_peer.specs.beep_outbox.specs.Queue.{message_marks}
use Rattle.beep_peer.specs.beep_channel.specs.Held.{next_ask}
use Rattle.beep_peer.specs.beep_lives.specs.Lives.{live_at}
use Rattle.beep_peer.specs.beep_lives.specs.Edits.{Edits, Gives}
use Rattle.beep_giving.specs.Looks.{given_of}
use Rattle.beep_giving.specs.Giving.{GivesMessage}
use Rattle.beep_giving.proofs.GivenLemmas.{at-live, position-is, gives-ask, ask-counts, room-unchanged}
use Rattle.beep_peer.specs.beep_upright.specs.Upright.{IsUpright}
use Rattle.beep_peer.proofs.UnchangedLemmas.{unchanged-upright}
use Rattle.beep_giving.proofs.UprightLemmas.{by-result, ask-upright}
use Rattle.beep_giving.proofs.giving.ask.Goals as goal

pub returns-clause-ok : goal.returns-clause-ok
returns-clause-ok c size fed rest journal given taken s =
    let number = c.args.number in
    let peer = c.args.peer.now in
    let lives = c.give_ask.new.self in
    let octets = c.args.octets.now in
    at-live c.give_ask.result (live_at number peer.lives) c.requires.live (λ channel. Edits number (Gives (message_marks (next_ask channel.held octets))) peer.lives lives)
    (GivesMessage number size fed rest journal given taken Kind.Msg octets (record peer { lives = lives }))
    (gives-ask size number fed rest journal given taken peer c.requires.above s lives octets) c.give_ask.ensures.ok

pub returns-clause-value : goal.returns-clause-value
returns-clause-value c size fed rest journal given taken s =
    position-is size c.args.number fed rest journal given taken c.args.peer.now c.requires.above s c.give_ask.result (live_at c.args.number c.args.peer.now.lives) refl c.requires.live
    c.give_ask.ensures.value

pub returns-clause-counts : goal.returns-clause-counts
returns-clause-counts c held =
    let number = c.args.number in
    let old = c.args.peer.now.lives in
    let new = c.give_ask.new.self in
    let octets = c.args.octets.now in
    at-live c.give_ask.result (live_at number old) c.requires.live (λ channel. Edits number (Gives (message_marks (next_ask channel.held octets))) old new)
    (given_of (live_at number new) ≡ option_map (λ given. after_given given Kind.Msg) (given_of (live_at number old)))
    (λ channel at e. ask-counts number old new c.args.peer.now.management c.requires.above held channel at octets e) c.give_ask.ensures.ok

pub returns-clause-err : goal.returns-clause-err
returns-clause-err c = on_err_weaker c.give_ask.result (room-unchanged c.args.number c.args.peer.now c.give_ask.new.self c.requires.above) c.give_ask.ensures.err

pub returns-clause-upright : goal.returns-clause-upright
returns-clause-upright c = λ terms fed rest journal given taken s unclosed u.
    let new = record c.args.peer.now { lives = c.give_ask.new.self } in
    by-result c.give_ask.result (IsUpright terms journal new.lives new.management) (returns-clause-ok c terms.window fed rest journal given taken s) (returns-clause-err c)
    (λ g. ask-upright terms fed rest journal given taken c.args.peer.now new s refl u c.args.number c.requires.above Kind.Msg c.args.octets.now g unclosed
    (sym (ap (λ (q : Queue). is_leaving q.requests) c.theirs.ensures) ∙ sym c.is_leaving.ensures ∙ c.if-is_leaving.false)
    (sym (ap (λ (q : Queue). closes c.args.number q.requests) c.theirs-else-is_leaving.ensures) ∙ sym c.closes.ensures ∙ c.if-closes.false))
    (λ k. unchanged-upright terms journal c.args.peer.now new k u)
