-- What the channel gives is the next message of the reply to the oldest request that is owed.
use Rattle.std.proofs.lemmas.Result.{on_err_weaker}
use Rattle.std.proofs.Common.{◌≡◌, true, refl}
use Rattle.std.specs.Prelude.{option_map}
use Rattle.beep_peer.specs.beep_exchange.specs.Given.{after_given}
use Rattle.beep_peer.specs.beep_outbox.specs.Queue.{message_marks}
use Rattle.beep_peer.specs.beep_channel.specs.Held.{IsReply, next_reply}
use Rattle.beep_peer.specs.beep_lives.specs.Lives.{live_at}
use Rattle.beep_peer.specs.beep_lives.specs.Edits.{Edits, Gives}
use Rattle.beep_giving.specs.Looks.{given_of, owes_of}
use Rattle.beep_giving.specs.Giving.{GivesMessage}
use Rattle.beep_giving.proofs.GivenLemmas.{at-live, may-there, gives-reply, reply-counts, answer-owes, room-unchanged}
use Rattle.beep_peer.specs.beep_upright.specs.Upright.{IsUpright}
use Rattle.beep_peer.proofs.UnchangedLemmas.{unchanged-upright}
use Rattle.beep_giving.proofs.UprightLemmas.{by-result, reply-is-one, reply-upright}
use Rattle.beep_giving.proofs.giving.give_reply.Goals as goal

pub returns-clause-ok : goal.returns-clause-ok
returns-clause-ok c size fed rest journal given taken s =
    let number = c.args.number in
    let peer = c.args.peer.now in
    let lives = c.give_reply.new.self in
    let kind = c.args.kind in
    let octets = c.args.octets.now in
    at-live c.give_reply.result (live_at number peer.lives) c.requires.live (λ channel. Edits number (Gives (message_marks (next_reply channel.held kind octets))) peer.lives lives)
    (GivesMessage number size fed rest journal given taken kind octets (record peer { lives = lives }))
    (λ channel at e. gives-reply size number fed rest journal given taken peer c.requires.above s lives octets kind channel at
    (may-there (live_at number peer.lives) channel (λ channel. IsReply channel.held kind octets) at c.requires.may) e)
    c.give_reply.ensures.ok

pub returns-clause-counts : goal.returns-clause-counts
returns-clause-counts c held =
    let number = c.args.number in
    let old = c.args.peer.now.lives in
    let new = c.give_reply.new.self in
    let kind = c.args.kind in
    let octets = c.args.octets.now in
    at-live c.give_reply.result (live_at number old) c.requires.live (λ channel. Edits number (Gives (message_marks (next_reply channel.held kind octets))) old new)
    (given_of (live_at number new) ≡ option_map (λ given. after_given given kind) (given_of (live_at number old)))
    (λ channel at e. reply-counts number old new c.args.peer.now.management c.requires.above held channel at octets kind
    (may-there (live_at number old) channel (λ channel. IsReply channel.held kind octets) at c.requires.may) e)
    c.give_reply.ensures.ok

pub returns-clause-owes : goal.returns-clause-owes
returns-clause-owes c held answer =
    let number = c.args.number in
    let old = c.args.peer.now.lives in
    let new = c.give_reply.new.self in
    let kind = c.args.kind in
    let octets = c.args.octets.now in
    at-live c.give_reply.result (live_at number old) c.requires.live (λ channel. Edits number (Gives (message_marks (next_reply channel.held kind octets))) old new)
    (owes_of (live_at number new) ≡ true)
    (λ channel at e. answer-owes number old new c.args.peer.now.management c.requires.above held channel at octets kind
    (may-there (live_at number old) channel (λ channel. IsReply channel.held kind octets) at c.requires.may) e answer)
    c.give_reply.ensures.ok

pub returns-clause-err : goal.returns-clause-err
returns-clause-err c = on_err_weaker c.give_reply.result (room-unchanged c.args.number c.args.peer.now c.give_reply.new.self c.requires.above) c.give_reply.ensures.err

pub returns-clause-upright : goal.returns-clause-upright
returns-clause-upright c = λ terms fed rest journal given taken s u.
    let new = record c.args.peer.now { lives = c.give_reply.new.self } in
    by-result c.give_reply.result (IsUpright terms journal new.lives new.management) (returns-clause-ok c terms.window fed rest journal given taken s) (returns-clause-err c)
    (λ g. reply-upright terms fed rest journal given taken c.args.peer.now new s refl u c.args.number c.requires.above c.args.kind c.args.octets.now g
    (reply-is-one (live_at c.args.number c.args.peer.now.lives) c.args.kind c.args.octets.now c.requires.live c.requires.may))
    (λ k. unchanged-upright terms journal c.args.peer.now new k u)
