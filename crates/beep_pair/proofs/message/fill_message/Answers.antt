use Rattle.std.proofs.Common.{◌∙◌, ◌++◌, ◌∷◌, [], ap}
use Rattle.beep_pair.specs.Sessions.{message_from, octet_from}
use Rattle.beep_pair.proofs.ListLemmas.{mapped_more}
use Rattle.beep_pair.proofs.message.fill_message.Goals as goal

pub loop-i-preserved : goal.loop-i-preserved
loop-i-preserved c =
    c.in_ok-extend.ensures.appended ∙ ap (λ xs. xs ++ c.octet_at.result ∷ []) c.loop-i.invariant ∙ ap (λ x. message_from c.args.fill c.loop-i.i ++ x ∷ []) c.octet_at.ensures ∙ mapped_more (octet_from c.args.fill) c.loop-i.i
