use Rattle.std.proofs.Common.{◌∙◌, ap, sym, subst, take, get_or, Some, None, if◌then◌else◌, refl, arith}
use Rattle.std.proofs.lemmas.List.{take_all, length-take-le}
use Rattle.beep_text.specs.declared.read.TextError.{TextError}
use Rattle.beep_text.specs.Refused.{Refuses}
use Rattle.beep_text.specs.Machine.{start, run}
use Rattle.beep_text.specs.Reading.{state_of, refusal_of, last_amp}
use Rattle.beep_text.proofs.ReadLemmas.{may_end, read_more, refused_at, read_value, read_short}
use Rattle.beep_text.proofs.read.read_element.Goals as goal

pub take-requires : goal.take-requires
take-requires c = record { ends = may_end (take c.loop-i.i c.args.body.now) (state_of c.loop-i.reader) c.loop-i.invariant }

pub returns-in-Ok-false-clause-refused : goal.returns-in-Ok-false-clause-refused
returns-in-Ok-false-clause-refused c =
    let none = c.in-Ok-false.ensures ∙ ap (λ went. if went then Some (state_of c.take.new.self) else None) c.in-Ok-false.field-0-test in
    let same = refused_at c.args.body.now c.loop-i.i (get_or c.args.body.now c.loop-i.i 0) (state_of c.loop-i.reader) (omega arith) (omega arith) c.loop-i.invariant refl none in
    let len = length-take-le c.loop-i.i c.args.body.now (omega arith) in
    let P : TextError → Type 0 = λ error. Refuses c.args.body.now error in
    subst P (sym (c.refusal.ensures ∙ ap (λ n. refusal_of c.loop-i.reader.mode n (last_amp (take c.loop-i.i c.args.body.now))) len)) same

pub loop-i-preserved : goal.loop-i-preserved
loop-i-preserved c =
    let some = c.in-Ok-true.ensures ∙ ap (λ went. if went then Some (state_of c.take.new.self) else None) c.in-Ok-true.field-0-test in
    read_more c.args.body.now c.loop-i.i (get_or c.args.body.now c.loop-i.i 0) (state_of c.loop-i.reader) (Some (state_of c.take.new.self)) (omega arith) c.loop-i.invariant refl some

pub returns-in-Some-clause-value : goal.returns-in-Some-clause-value
returns-in-Some-clause-value c =
    read_value c.args.body.now (state_of c.loop-i.reader) c.in-Some.element (ap (run (Some start)) (sym (take_all c.loop-i.i c.args.body.now (omega arith))) ∙ c.loop-i.invariant) c.in-Some.ensures

pub returns-in-None-clause-refused : goal.returns-in-None-clause-refused
returns-in-None-clause-refused c =
    read_short c.args.body.now (state_of c.loop-i.reader) (omega arith) (ap (run (Some start)) (sym (take_all c.loop-i.i c.args.body.now (omega arith))) ∙ c.loop-i.invariant) c.in-None.ensures
