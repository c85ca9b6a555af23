use Rattle.std.proofs.Common.{◌≡◌, ◌∙◌, ◌++◌, ◌∷◌, List, ap, sym, subst, take, arith}
use Rattle.std.proofs.lemmas.List.{take_all}
use Rattle.beep_journal.specs.Log.{Entry}
use Rattle.beep_record.specs.Logged.{entry_of, log_of}
use Rattle.beep_record.proofs.LogLemmas.{log_of-more}
use Rattle.beep_record.proofs.WrittenLemmas.{Lined, lined_first, lined_more, lined_whole, map_ok}
use Rattle.beep_record.proofs.write.write_record.Goals as goal

pub loop-entry-init : goal.loop-entry-init
loop-entry-init c =
    lined_first c.args.log.now.role c.extend.new.self.octets
    (c.in_ok-extend.ensures.appended ∙ ap (λ x. x ++ c.first_line.result.now) c.new-text.ensures ∙ c.first_line.ensures)

pub loop-entry-preserved : goal.loop-entry-preserved
loop-entry-preserved c =
    let items = c.as_slice-entry-items.result.now in
    let i = c.loop-entry.entry-index in
    let longer = log_of-more items i c.entry-item.result c.loop-entry-test.true ∙ ap (λ e. entry_of e ∷ log_of (take i items)) (sym c.entry-item.is) in
    subst (λ (log : List Entry). Lined c.args.log.now.role log c.put_entry.new.out.octets) (sym longer)
    (lined_more c.args.log.now.role (entry_of c.entry-item.result) (log_of (take i items)) c.loop-entry.text.octets c.put_entry.new.out.octets c.loop-entry.invariant c.in_ok-put_entry.ensures)

pub returns-clause-appended : goal.returns-clause-appended
returns-clause-appended c =
    let items = c.as_slice-entry-items.result.now in
    let whole = ap log_of (take_all c.loop-entry.entry-index items (omega arith)) ∙ c.as_slice-entry-items.ensures in
    let lined = subst (λ (log : List Entry). Lined c.args.log.now.role log c.loop-entry.text.octets) whole c.loop-entry.invariant in
    map_ok c.extend-2.result
    (λ (more : c.extend-2.new.self.octets ≡ c.args.out.now.octets ++ c.as_slice.result.now).
    lined_whole c.args.log.now.role c.args.log.now.entries c.loop-entry.text.octets c.args.out.now.octets c.extend-2.new.self.octets c.requires.ordered lined
    (more ∙ ap (λ x. c.args.out.now.octets ++ x) c.as_slice.ensures))
    c.extend-2.ensures.appended
