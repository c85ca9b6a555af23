use Rattle.std.proofs.Common.{◌≡◌, ◌+◌, List, sym, ap, ◌∙◌, refl, arith, length}
use Rattle.beep_inbox.proofs.inbox.Inbox.take.Goals as goal
use Rattle.beep_inbox.proofs.PartsLemmas.{takes}
use Rattle.beep_inbox.specs.declared.part.Part.{Part}
use Rattle.beep_inbox.specs.Untaken.{Untaken, lengths, runs_of}

pub returns-clause-some : goal.returns-clause-some
returns-clause-some c =
    let t = c.in-Some.ensures.some in
    let sum : lengths c.self.inside.parts.items ≡ t.first.len + lengths t.others =
    ap lengths t.is in
    takes c.in-Some.part t.first t.others c.take_part.new.parts.items
    c.self.inside.octets.items c.read_into.new.self.items c.args.buf.now c.read_into.new.buf
    c.args.self.now.runs (length c.args.buf.now) c.read_into.result
    (omega (arith, sum, c.self.invariant.0)) t.part_is t.left refl
    (sym (ap (λ (untaken : Untaken). untaken.runs) c.self.view_is)
    ∙ ap (λ (parts : List Part). runs_of parts c.self.inside.octets.items) t.is)
    c.read_into.ensures.count
    (ap (λ b. b.items) c.read_into.ensures.items) c.read_into.ensures.read
