use Rattle.std.proofs.Common.{◌≡◌, ◌∙◌, ◌<◌, ap, sym, subst, length, take, Some, arith, false, true, length-take, length-drop}
use Rattle.std.proofs.lemmas.List.{take_rest}
use Rattle.beep_record.specs.Record.{are_octets}
use Rattle.beep_record.specs.Machine.{run, may_end}
use Rattle.beep_record.specs.Reading.{state_of}
use Rattle.beep_record.proofs.OctetLemmas.{are_octets_of}
use Rattle.beep_record.proofs.ReadLemmas.{Read, read_more, stops_at, stops_short, says_whole}
use Rattle.beep_record.proofs.read.read_record.Goals as goal

pub returns-in-Ok-eq0-clause-refused : goal.returns-in-Ok-eq0-clause-refused
returns-in-Ok-eq0-clause-refused c =
    let text = c.args.text.now in
    let i = c.loop-i.i in
    let s = state_of c.loop-i.reader in
    stops_at text i s c.loop-i-test.true c.loop-i.invariant.ran (ap (λ x. run (Some s) (take 1 x)) (sym (take_rest text i)) ∙ c.in-Ok-eq0.ensures.stuck c.in-Ok-eq0.field-0-test)

pub loop-i-preserved : goal.loop-i-preserved
loop-i-preserved c =
    let text = c.args.text.now in
    let are : are_octets text ≡ true = are_octets_of text (λ i. omega (arith, c.type_inv.text i)) in
    let i = c.loop-i.i in
    let s = state_of c.loop-i.reader in
    let some : 0 < c.in-Ok.count = omega (arith, c.in-Ok.count-test.1) in
    record {
      within = grind (arith, length-take, length-drop, c.in-Ok.ensures.within);
      ran = read_more text i c.in-Ok.count s (state_of c.take.new.self) are (omega arith) c.loop-i.invariant.ran (ap (λ x. run (Some s) (take c.in-Ok.count x)) (sym (take_rest text i)) ∙ c.in-Ok.ensures.went some);
    }

pub returns-then-not-may_end-clause-refused : goal.returns-then-not-may_end-clause-refused
returns-then-not-may_end-clause-refused c =
    let all : c.loop-i.i ≡ length c.args.text.now = omega arith in
    let ends : may_end c.loop-i.reader.mode ≡ false = sym c.may_end.ensures ∙ c.if-not-may_end.true in
    stops_short c.args.text.now (state_of c.loop-i.reader) (subst (λ n. Read c.args.text.now n (state_of c.loop-i.reader)) all c.loop-i.invariant.ran) ends

pub returns-clause-value : goal.returns-clause-value
returns-clause-value c =
    let all : c.loop-i.i ≡ length c.args.text.now = omega arith in
    let ends : may_end c.loop-i.reader.mode ≡ true = sym c.may_end.ensures ∙ c.if-not-may_end.false in
    says_whole c.args.text.now (state_of c.loop-i.reader) (subst (λ n. Read c.args.text.now n (state_of c.loop-i.reader)) all c.loop-i.invariant.ran) ends
