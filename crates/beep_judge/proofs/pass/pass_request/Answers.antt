-- A request joins channel zero's history, and waits.
use Rattle.std.proofs.Common.{refl, ap, ◌∙◌, false}
use Rattle.beep_judge.proofs.AboveLemmas.{begun-zero}
use Rattle.beep_judge.proofs.RequestLemmas.{request-passes}
use Rattle.beep_judge.proofs.pass.pass_request.Goals as goal

pub pass-requires-clause-begun : goal.pass-requires-clause-begun
pass-requires-clause-begun c = begun-zero c.args.side c.args.channels.now c.args.mine.now c.args.frame.now c.requires.reached c.requires.begun c.requires.zero

pub returns-clause-ok : goal.returns-clause-ok
returns-clause-ok c theirs journal payload s size said =
    request-passes c.args.side journal c.args.frame.now payload c.args.channels.now c.pass.new.self c.args.mine.now theirs s
    c.requires.zero c.requires.begun c.requires.last c.requires.request c.pass.ensures size
    (record { said = c.args.said; implied = false; stamp = c.close_stamp-stamp.result }) said refl c.close_stamp-stamp.ensures
    c.finish.new.mine c.finish.ensures.under_way c.finish.ensures.heard c.finish.ensures.text (ap (λ q. q.items) c.finish.ensures.asked ∙ c.in_ok-push_request.ensures.ok)
