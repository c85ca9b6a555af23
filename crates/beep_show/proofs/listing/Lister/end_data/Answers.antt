use Rattle.std.proofs.Common.{◌++◌, length, arith, ap, ◌∙◌}
use Rattle.beep_show.proofs.EntryLemmas.{ends_data}
use Rattle.beep_show.proofs.listing.Lister.end_data.Goals as goal

pub returns-clause-ok : goal.returns-clause-ok
returns-clause-ok c =
    ends_data c.args.self.now c.list_message.new.self c.end_frame.new.self c.extend_within.new.self c.in_ok-list_message.ensures.ok c.end_frame.ensures (λ fits. c.extend_within.ensures.appended (omega (arith, ap length c.as_slice.ensures)) ∙ ap (λ x. c.end_frame.new.self.out.octets ++ x) c.as_slice.ensures) (omega (arith, c.extend_within.ensures.used, ap length c.as_slice.ensures))
