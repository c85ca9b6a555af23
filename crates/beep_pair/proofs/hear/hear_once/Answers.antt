use Rattle.std.proofs.Common.{◌≡◌, ◌∙◌, true, false, sym, subst}
use Rattle.beep_pair.specs.Sessions.{Feeding, HearsOnce, quiet, message}
use Rattle.beep_pair.proofs.FeedLemmas.{fed_progress, over_quiet}
use Rattle.beep_pair.proofs.hear.hear_once.Goals as goal

pub returns-then-zero_waits-clause-heard : goal.returns-then-zero_waits-clause-heard
returns-then-zero_waits-clause-heard c =
    let f : Feeding c.args.octets.now c.feed-used.result.0 c.feed-used.result.1 c.args.session.now c.feed-used.new.self = record { within = c.feed-used.ensures.within; all = c.feed-used.ensures.all; answers = c.feed-used.ensures.answers; lawful = c.feed-used.ensures.lawful; progress = c.feed-used.ensures.progress; kept = c.feed-used.ensures.kept.0; released = c.feed-used.ensures.released; broken = c.feed-used.ensures.broken; same = c.feed-used.ensures.same } in
    subst (λ g. HearsOnce c.args.at c.args.octets.now c.feed-used.result.0 g c.args.session.now c.settle.new.session c.args.accounts.now c.settle.new.accounts) (sym c.goes_on-goes.ensures.goes)
    (message c.feed-used.result.0 c.feed-used.result.1 c.args.session.now c.feed-used.new.self c.settle.new.session c.args.accounts.now c.settle.new.accounts f (sym c.zero_waits.ensures ∙ c.if-zero_waits.true) c.in_ok-settle.ensures)

pub returns-clause-heard : goal.returns-clause-heard
returns-clause-heard c =
    let f : Feeding c.args.octets.now c.feed-used.result.0 c.feed-used.result.1 c.args.session.now c.feed-used.new.self = record { within = c.feed-used.ensures.within; all = c.feed-used.ensures.all; answers = c.feed-used.ensures.answers; lawful = c.feed-used.ensures.lawful; progress = c.feed-used.ensures.progress; kept = c.feed-used.ensures.kept.0; released = c.feed-used.ensures.released; broken = c.feed-used.ensures.broken; same = c.feed-used.ensures.same } in
    subst (λ g. HearsOnce c.args.at c.args.octets.now c.feed-used.result.0 g c.args.session.now c.feed-used.new.self c.args.accounts.now c.args.accounts.now) (sym c.goes_on-goes.ensures.goes)
    (quiet c.feed-used.result.0 c.feed-used.result.1 c.args.session.now c.feed-used.new.self c.args.accounts.now f (sym c.zero_waits.ensures ∙ c.if-zero_waits.false))

pub returns-then-zero_waits-clause-progress : goal.returns-then-zero_waits-clause-progress
returns-then-zero_waits-clause-progress c = λ none some.
    let f : Feeding c.args.octets.now c.feed-used.result.0 c.feed-used.result.1 c.args.session.now c.feed-used.new.self = record { within = c.feed-used.ensures.within; all = c.feed-used.ensures.all; answers = c.feed-used.ensures.answers; lawful = c.feed-used.ensures.lawful; progress = c.feed-used.ensures.progress; kept = c.feed-used.ensures.kept.0; released = c.feed-used.ensures.released; broken = c.feed-used.ensures.broken; same = c.feed-used.ensures.same } in
    let over = fed_progress c.args.octets.now c.feed-used.result.0 c.feed-used.result.1 c.args.session.now c.feed-used.new.self c.requires.ready f (sym c.is_short.ensures ∙ c.if-is_short.false) none some in
    let bad : true ≡ false = sym (sym c.zero_waits.ensures ∙ c.if-zero_waits.true) ∙ over_quiet c.feed-used.new.self.peer over in
    absurd (let no : true ≡ false = bad in cc)

pub returns-clause-progress : goal.returns-clause-progress
returns-clause-progress c = λ none some.
    let f : Feeding c.args.octets.now c.feed-used.result.0 c.feed-used.result.1 c.args.session.now c.feed-used.new.self = record { within = c.feed-used.ensures.within; all = c.feed-used.ensures.all; answers = c.feed-used.ensures.answers; lawful = c.feed-used.ensures.lawful; progress = c.feed-used.ensures.progress; kept = c.feed-used.ensures.kept.0; released = c.feed-used.ensures.released; broken = c.feed-used.ensures.broken; same = c.feed-used.ensures.same } in
    fed_progress c.args.octets.now c.feed-used.result.0 c.feed-used.result.1 c.args.session.now c.feed-used.new.self c.requires.ready f (sym c.is_short.ensures ∙ c.if-is_short.false) none some
