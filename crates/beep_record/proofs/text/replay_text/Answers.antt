use Rattle.std.proofs.Common.{◌≡◌, ◌∙◌, ◌<◌, ◌++◌, ap, sym, subst, List, ℕ, length, take, drop, Some, arith, false, true, length-take, length-drop}
use Rattle.std.proofs.lemmas.List.{take_rest}
use Rattle.beep_record.specs.Record.{Says, are_octets}
use Rattle.beep_record.specs.Machine.{run, may_end}
use Rattle.beep_record.specs.Reading.{state_of}
use Rattle.beep_record.specs.TextReplaying.{rebased, ReplaysOn}
use Rattle.beep_record.proofs.OctetLemmas.{are_octets_of}
use Rattle.beep_record.proofs.ReadLemmas.{stops_at, stops_short, says_whole}
use Rattle.beep_journal.specs.Log.{Entry}
use Rattle.beep_record.proofs.SizeLemmas.{said_le}
use Rattle.beep_record.proofs.TextReplayLemmas.{HasReplayed, replayed_more, replayed_stuck, if_more}
use Rattle.beep_record.proofs.text.replay_text.Goals as goal

pub returns-in-Ok-eq0-clause-refused : goal.returns-in-Ok-eq0-clause-refused
returns-in-Ok-eq0-clause-refused c =
    let text = c.args.text.now in
    let i = c.loop-i.i in
    let replayed = c.loop-i.invariant.replayed in
    let s = state_of c.loop-i.text_replayer.reader in
    stops_at text i (rebased replayed.log s) c.loop-i-test.true replayed.read
    (replayed_stuck replayed.log s (take 1 (drop i text)) (ap (λ x. run (Some s) (take 1 x)) (sym (take_rest text i)) ∙ c.in-Ok-eq0.ensures.stuck c.in-Ok-eq0.field-0-test))

pub loop-i-preserved : goal.loop-i-preserved
loop-i-preserved c =
    let text = c.args.text.now in
    let are : are_octets text ≡ true = are_octets_of text (λ i. omega (arith, c.type_inv.text i)) in
    let i = c.loop-i.i in
    let count = c.in-Ok-take.count in
    let some : 0 < count = omega (arith, c.in-Ok-take.count-test.1) in
    record {
      within = grind (arith, length-take, length-drop, c.in-Ok-take.ensures.within);
      replayed = replayed_more text i count c.loop-i.text_replayer c.take.new.self are (omega arith) c.loop-i.invariant.replayed
          (subst (λ (x : List ℕ). ReplaysOn c.loop-i.text_replayer c.take.new.self (take count x)) (take_rest text i) (c.in-Ok-take.ensures.went some));
    }

pub returns-then-not-may_end-clause-refused : goal.returns-then-not-may_end-clause-refused
returns-then-not-may_end-clause-refused c =
    let text = c.args.text.now in
    let all : c.loop-i.i ≡ length text = omega arith in
    let ends : may_end c.loop-i.text_replayer.reader.mode ≡ false = sym c.may_end.ensures ∙ c.if-not-may_end.true in
    let replayed = subst (λ n. HasReplayed text n c.loop-i.text_replayer) all c.loop-i.invariant.replayed in
    stops_short text (rebased replayed.log (state_of c.loop-i.text_replayer.reader)) replayed.read ends

pub returns-clause-value : goal.returns-clause-value
returns-clause-value c =
    let text = c.args.text.now in
    let s = state_of c.loop-i.text_replayer.reader in
    let all : c.loop-i.i ≡ length text = omega arith in
    let ends : may_end s.mode ≡ true = sym c.may_end.ensures ∙ c.if-not-may_end.false in
    let replayed = subst (λ n. HasReplayed text n c.loop-i.text_replayer) all c.loop-i.invariant.replayed in
    let says = subst (λ (entries : List Entry). Says text s.role (entries ++ replayed.log)) replayed.none (says_whole text (rebased replayed.log s) replayed.read ends) in
    if_more c.end.result (λ x replays. record { role = s.role; log = replayed.log; says = says; replays = replays })
    (c.end.ensures.value replayed.log replayed.follows (omega (arith, said_le text s.role replayed.log says)))
