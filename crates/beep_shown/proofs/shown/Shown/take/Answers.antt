-- An octet that counts makes its step, by what the decoder answers.
use Rattle.std.proofs.Common.{refl}
use Rattle.beep_record.proofs.WrittenLemmas.{map_ok}
use Rattle.beep_shown.proofs.ShownLemmas.{took-more, took-head, took-frame, took-seq, took-broken}
use Rattle.beep_shown.proofs.shown.Shown.take.Goals as goal

pub returns-in-More : goal.returns-in-More
returns-in-More c log shows =
    took-more c.args.side c.args.octet log c.args.self.now c.feed.new.self shows c.in_ok-counts.field-0 c.in_ok-counts.ensures c.if-not-branch.false c.feed.ensures.max c.feed.ensures.others c.feed.ensures.journal c.feed.ensures.broken c.feed.result c.feed.ensures.decodes
    c.in-More.is

pub returns-in-Head : goal.returns-in-Head
returns-in-Head c log shows =
    map_ok c.begin.result
    (took-head c.args.side c.args.octet log c.args.self.now c.feed.new.self shows c.in_ok-counts.field-0 c.in_ok-counts.ensures c.if-not-branch.false c.feed.ensures.max c.feed.ensures.others c.feed.ensures.journal c.feed.ensures.broken c.feed.result c.feed.ensures.decodes
    c.in-Head.head c.begin.new.self c.in-Head.is c.begin.ensures.sides) c.begin.ensures.joins

pub returns-in-Frame : goal.returns-in-Frame
returns-in-Frame c log shows =
    took-frame c.args.side c.args.octet log c.args.self.now c.feed.new.self shows c.in_ok-counts.field-0 c.in_ok-counts.ensures c.if-not-branch.false c.feed.ensures.max c.feed.ensures.others c.feed.ensures.journal c.feed.ensures.broken c.feed.result c.feed.ensures.decodes
    c.pass.result c.pass.new.self c.in-Frame.is c.pass.ensures.sides c.pass.ensures.passes

pub returns-in-Seq : goal.returns-in-Seq
returns-in-Seq c log shows =
    map_ok c.tell.result
    (took-seq c.args.side c.args.octet log c.args.self.now c.feed.new.self shows c.in_ok-counts.field-0 c.in_ok-counts.ensures c.if-not-branch.false c.feed.ensures.max c.feed.ensures.others c.feed.ensures.journal c.feed.ensures.broken c.feed.result c.feed.ensures.decodes
    c.in-Seq.seq c.tell.new.self c.in-Seq.is c.tell.ensures.sides) c.tell.ensures.joins

pub returns-in-Broken : goal.returns-in-Broken
returns-in-Broken c log shows =
    took-broken c.args.side c.args.octet log c.args.self.now c.feed.new.self shows c.in_ok-counts.field-0 c.in_ok-counts.ensures c.if-not-branch.false c.feed.ensures.max c.feed.ensures.others c.feed.ensures.journal c.feed.ensures.broken c.feed.result c.feed.ensures.decodes
    c.in-Broken.field-0 c.in-Broken.field-1 _ c.in-Broken.is (refl, refl) refl refl
