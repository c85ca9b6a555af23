-- A SEQ joins the journal unless it is a bad one.
use Rattle.std.proofs.Common.{Bool, Option, Some, None, false, if◌then◌else◌, sym, ap, ◌∙◌}
use Rattle.std.specs.Option.{option_map_or}
use Rattle.beep_frame.specs.declared.rule.Rule.{Rule}
use Rattle.beep_judge.specs.declared.life.Life.{Life}
use Rattle.beep_judge.specs.Kept.{is_bad_seq}
use Rattle.beep_judge.proofs.SeqLemmas.{obeyed, bad-ack}
use Rattle.beep_judge.proofs.seq.note_seq.Goals as goal

pub returns-then-is_bad_ack-clause-value : goal.returns-then-is_bad_ack-clause-value
returns-then-is_bad_ack-clause-value c mine theirs journal s =
    ap (λ (b : Bool). if b then Some Rule.BadAck else None) (sym c.if-is_bad_ack.true)
    ∙ bad-ack c.args.side c.args.seq.now journal c.args.channels.now c.is_bad_ack.result s.channels
    (λ absent. c.is_bad_ack.ensures.value ∙ ap (λ (o : Option Life). option_map_or (λ (life : Life). is_bad_seq c.args.side life c.args.seq.now) o false) absent)
    c.is_bad_ack.ensures.some

pub returns-clause-value : goal.returns-clause-value
returns-clause-value c mine theirs journal s =
    ap (λ (b : Bool). if b then Some Rule.BadAck else None) (sym c.if-is_bad_ack.false)
    ∙ bad-ack c.args.side c.args.seq.now journal c.args.channels.now c.is_bad_ack.result s.channels
    (λ absent. c.is_bad_ack.ensures.value ∙ ap (λ (o : Option Life). option_map_or (λ (life : Life). is_bad_seq c.args.side life c.args.seq.now) o false) absent)
    c.is_bad_ack.ensures.some

pub returns-clause-none : goal.returns-clause-none
returns-clause-none c none mine theirs journal s =
    obeyed c.args.side c.args.seq.now journal c.args.channels.now c.obey.new.self mine theirs s c.obey.ensures.some c.obey.ensures.none
