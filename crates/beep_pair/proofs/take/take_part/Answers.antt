use Rattle.std.proofs.Common.{rules, ◌≡◌, true, sym, subst}
use Rattle.beep_pair.specs.Acts.{has_channel}
use Rattle.beep_pair.proofs.TakeLemmas.{part-taken, part-over}
use Rattle.beep_pair.proofs.take.take_part.Goals as goal

pub returns-in-Some : goal.returns-in-Some
returns-in-Some c =
    let held = c.in-Some.channel in
    let now = c.take.new.self.session.now in
    let first : held.session.now ≡ c.args.session.now = search rules in
    let same : held.at ≡ c.args.n = search rules in
    let has : has_channel c.args.n c.args.session.now ≡ true = search rules in
    let here : has_channel held.at held.session.now ≡ true = subst (λ s. has_channel held.at s ≡ true) (sym first) (subst (λ m. has_channel m c.args.session.now ≡ true) (sym same) has) in
    part-over c.args.n held.at c.take.result c.take.new.buf held.session.now now c.args.session.now _ same first (search rules)
    (part-taken held.at c.take.result c.args.buf.now c.take.new.buf held.session.now now here c.requires.some c.take.ensures.some c.take.ensures.upright
    c.take.ensures.part c.take.ensures.none c.take.ensures.kept)

pub returns-in-Some-closing_channel : goal.returns-in-Some-closing_channel
returns-in-Some-closing_channel c =
    let held = c.in-Some-closing_channel.channel in
    let now = c.take-in-Some-closing_channel.new.self.session.now in
    let first : held.session.now ≡ c.args.session.now = search rules in
    let same : held.at ≡ c.args.n = search rules in
    let has : has_channel c.args.n c.args.session.now ≡ true = search rules in
    let here : has_channel held.at held.session.now ≡ true = subst (λ s. has_channel held.at s ≡ true) (sym first) (subst (λ m. has_channel m c.args.session.now ≡ true) (sym same) has) in
    part-over c.args.n held.at c.take-in-Some-closing_channel.result c.take-in-Some-closing_channel.new.buf held.session.now now c.args.session.now _ same first (search rules)
    (part-taken held.at c.take-in-Some-closing_channel.result c.args.buf.now c.take-in-Some-closing_channel.new.buf held.session.now now here c.requires.some c.take-in-Some-closing_channel.ensures.some c.take-in-Some-closing_channel.ensures.upright
    c.take-in-Some-closing_channel.ensures.part c.take-in-Some-closing_channel.ensures.none c.take-in-Some-closing_channel.ensures.kept)
