use Rattle.std.proofs.Common.{arith, ◌<◌, ◌^◌, length, take}
use Rattle.beep_frame.specs.declared.step.Step.{Step}
use Rattle.beep_frame.specs.Outline.{frames_of}
use Rattle.beep_frame.proofs.OutlineLemmas.{alive, dead, left_is, followed, room, read_with, slice_left, not_broken, decodes_by}
use Rattle.beep_frame.proofs.outline.Outline.of.Goals as goal

pub returns : goal.returns
returns c =
    let small : length c.args.octets.now < 2 ^ 64 = omega arith in
    let holds = c.loop-at.invariant.1 in
    alive c.loop-at.reading c.args.octets.now c.loop-at.at c.left-2.result holds (omega arith) small (c.left-2.ensures.stands _ holds.stands)

pub follow-requires : goal.follow-requires
follow-requires c =
    let holds = c.loop-at.invariant.1 in
    room c.loop-at.reading (take c.loop-at.at c.args.octets.now) holds _ c.feed-count.result.0 c.feed-count.new.self c.feed-count.ensures.kept _ (read_with c.args.octets.now c.loop-at.at c.feed-count.result.0) c.feed-count.result.1 (c.feed-count.ensures.decodes _ holds.stands)

pub loop-at-preserved : goal.loop-at-preserved
loop-at-preserved c =
    let holds = c.loop-at.invariant.1 in
    (omega (arith, c.feed-count.ensures.within), followed c.loop-at.reading (take c.loop-at.at c.args.octets.now) holds _ c.feed-count.result.0 c.feed-count.new.self c.feed-count.ensures.kept _ (read_with c.args.octets.now c.loop-at.at c.feed-count.result.0) c.feed-count.result.1 c.follow.new.self (not_broken c.feed-count.result.1 c.in_default.not-Broken) c.in_ok-follow.ensures (c.feed-count.ensures.decodes _ holds.stands))

pub overflow_sub-result : goal.overflow_sub-result
overflow_sub-result c =
    let small : length c.args.octets.now < 2 ^ 64 = omega arith in
    let holds = c.loop-at.invariant.1 in
    let broken = decodes_by c.feed-count.result.1 (Step.Broken c.in-Broken.rule c.in-Broken.place) c.feed-count.new.self (take c.loop-at.at c.args.octets.now) (frames_of c.loop-at.reading.frames.items) holds.rest holds.known _ c.feed-count.result.0 c.in-Broken.is (c.feed-count.ensures.decodes _ holds.stands) in
    omega (arith, left_is c.loop-at.reading c.args.octets.now c.loop-at.at holds (omega arith) small _ (slice_left c.args.octets.now c.loop-at.at) c.feed-count.result.0 c.feed-count.ensures.within c.feed-count.new.self c.feed-count.ensures.kept c.in-Broken.rule c.in-Broken.place broken c.left.result (c.left.ensures.broken c.in-Broken.rule c.in-Broken.place _ broken.1))

pub returns-in-Broken : goal.returns-in-Broken
returns-in-Broken c =
    let small : length c.args.octets.now < 2 ^ 64 = omega arith in
    let holds = c.loop-at.invariant.1 in
    let broken = decodes_by c.feed-count.result.1 (Step.Broken c.in-Broken.rule c.in-Broken.place) c.feed-count.new.self (take c.loop-at.at c.args.octets.now) (frames_of c.loop-at.reading.frames.items) holds.rest holds.known _ c.feed-count.result.0 c.in-Broken.is (c.feed-count.ensures.decodes _ holds.stands) in
    dead c.loop-at.reading c.args.octets.now c.loop-at.at holds (omega arith) small _ (slice_left c.args.octets.now c.loop-at.at) c.feed-count.result.0 c.feed-count.ensures.within c.feed-count.new.self c.feed-count.ensures.kept c.in-Broken.rule c.in-Broken.place broken c.left.result (c.left.ensures.broken c.in-Broken.rule c.in-Broken.place _ broken.1)
