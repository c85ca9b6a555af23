use Rattle.std.proofs.Common.{arith, refl}
use Rattle.beep_show.proofs.PieceLemmas.{listed_none, listed_all, listed_first, step_with, broken_with, slice_taken, not_broken}
use Rattle.beep_show.proofs.listing.Lister.list.Goals as goal

pub loop-at-init : goal.loop-at-init
loop-at-init c =
    (omega arith, omega arith, λ elements fed h small fits. listed_none elements c.args.self.now fed.octets fed.frames fed.rest fed.head c.args.piece.now h fits)

pub returns-in-Broken-clause-lists : goal.returns-in-Broken-clause-lists
returns-in-Broken-clause-lists c = λ elements fed h small fits.
    broken_with elements c.args.self.now c.loop-at.self fed.octets fed.frames c.args.piece.now c.loop-at.at (c.loop-at.invariant.2 elements fed h small fits) (omega arith) c.feed-count.result.0 c.feed-count.ensures.within c.feed-count.new.self _ c.feed-count.result.1 c.in-Broken.rule c.in-Broken.place c.in-Broken.is c.feed-count.ensures.kept refl c.feed-count.ensures.decodes

pub loop-at-preserved : goal.loop-at-preserved
loop-at-preserved c = (
  omega (arith, c.feed-count.ensures.within),
  omega (arith, c.loop-at.invariant.1, c.follow.ensures.room),
  λ elements fed h small fits. step_with elements c.args.self.now c.loop-at.self fed.octets fed.frames c.args.piece.now c.loop-at.at (c.loop-at.invariant.2 elements fed h small fits) (omega arith) small c.feed-count.result.0 c.feed-count.ensures.within c.feed-count.new.self c.follow.new.self c.feed-count.result.1 _ (slice_taken c.args.piece.now c.loop-at.at c.feed-count.result.0 c.feed-count.ensures.within) c.feed-count.ensures.kept (not_broken c.feed-count.result.1 c.in_default.not-Broken) c.in-Ok.ensures.ok c.feed-count.ensures.decodes,
)

pub returns-in-Err : goal.returns-in-Err
returns-in-Err c = record {
  lists = λ elements fed h small fits.
      listed_first elements c.args.self.now c.loop-at.self fed.octets fed.frames c.args.piece.now c.loop-at.at (c.loop-at.invariant.2 elements fed h small fits) (omega arith) c.follow.new.self c.in-Err.ensures.err.0 c.in-Err.ensures.err.1;
  room = omega (arith, c.loop-at.invariant.1, c.follow.ensures.room);
}

pub returns-clause-lists : goal.returns-clause-lists
returns-clause-lists c = λ elements fed h small fits.
    listed_all elements c.args.self.now c.loop-at.self fed.octets fed.frames c.args.piece.now c.loop-at.at (omega arith) (c.loop-at.invariant.2 elements fed h small fits)
