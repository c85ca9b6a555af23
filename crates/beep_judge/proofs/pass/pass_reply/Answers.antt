-- A reply joins channel zero's history, and ends the oldest request.
use Rattle.std.proofs.Common.{refl, ap}
use Rattle.std.specs.Prelude.{option_map}
use Rattle.beep_mgmt.specs.Form.{form_of}
use Rattle.beep_judge.proofs.ReplyLemmas.{fits-is, reply-passes}
use Rattle.beep_judge.proofs.SameLemmas.{kept-same, begun-mid}
use Rattle.beep_judge.proofs.pass.pass_reply.Goals as goal

pub returns-in-Err-clause-err : goal.returns-in-Err-clause-err
returns-in-Err-clause-err c journal s =
    kept-same c.args.side journal c.args.channels.now c.grant_where.new.channels c.args.mine.now c.args.theirs.now s c.in-Err.ensures.err

pub pass-requires-clause-begun : goal.pass-requires-clause-begun
pass-requires-clause-begun c =
    begun-mid c.args.side c.args.channels.now c.grant_where.new.channels c.args.mine.now c.args.theirs.now c.args.frame.now c.requires.reached c.requires.begun c.requires.zero c.grant_where.ensures.zero

pub returns-clause-value : goal.returns-clause-value
returns-clause-value c journal payload s said =
    fits-is c.args.side journal c.args.frame.now payload c.args.channels.now c.args.mine.now c.args.theirs.now s
    c.requires.zero c.requires.begun c.requires.last c.requires.reply c.has_its_form-fits.result (option_map form_of c.args.said.now) c.has_its_form-fits.ensures said

pub returns-clause-ok : goal.returns-clause-ok
returns-clause-ok c journal payload s size said =
    reply-passes c.args.side journal c.args.frame.now payload c.args.channels.now c.args.mine.now c.args.theirs.now s
    c.requires.zero c.requires.begun c.requires.last c.requires.reply c.grant_where.new.channels c.pass.new.self c.has_its_form-fits.result c.grants.result
    (fits-is c.args.side journal c.args.frame.now payload c.args.channels.now c.args.mine.now c.args.theirs.now s
    c.requires.zero c.requires.begun c.requires.last c.requires.reply c.has_its_form-fits.result (option_map form_of c.args.said.now) c.has_its_form-fits.ensures said)
    c.grants.ensures c.in-Ok.ensures.ok c.pass.ensures size
    c.finish.new.mine (record { under_way = c.args.theirs.now.under_way; heard = c.args.theirs.now.heard; text = c.args.theirs.now.text; asked = c.drop_oldest.new.asked })
    c.finish.ensures.under_way c.finish.ensures.heard c.finish.ensures.text (ap (λ q. q.items) c.finish.ensures.asked)
    refl refl refl c.drop_oldest.ensures
