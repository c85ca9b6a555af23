-- A session in which nothing has happened.
use Rattle.beep_judge.proofs.NewLemmas.{new-kept}
use Rattle.beep_judge.proofs.session.Session.new.Goals as goal

pub returns-clause-stands : goal.returns-clause-stands
returns-clause-stands c =
    new-kept c.in_ok-channels.channels c.in_ok-channels.ensures.zero c.in_ok-channels.ensures.idle c.in_ok-channels.ensures.stamp c.in_ok-channels.ensures.alone
    c.in_ok-channels.ensures.stamps c.in_ok-channels.ensures.released c.in_ok-received.received c.in_ok-sent.sent
    c.in_ok-received.ensures.under_way c.in_ok-received.ensures.heard c.in_ok-received.ensures.text c.in_ok-received.ensures.asked
    c.in_ok-sent.ensures.under_way c.in_ok-sent.ensures.heard c.in_ok-sent.ensures.text c.in_ok-sent.ensures.asked
