-- The life of the number moves one step.
use Rattle.std.proofs.Common.{◌≡◌, ◌==◌, ℕ, Some, cond, sym, refl, arith}
use Rattle.std.proofs.lemmas.Grind.{common_steps}
use Rattle.std.specs.Ordering.{nat_cmp}
use Rattle.std.specs.BTreeMap.{get}
use Rattle.beep_judge.proofs.ChannelsLemmas.{at-one, above-one, not-zero}
use Rattle.beep_judge.proofs.channels.Channels.pass.Goals as goal

pub returns : goal.returns
returns c =
    let at : (q : ℕ) → get nat_cmp (c.get_mut.follows.lender c.pass-in-Some.new.self) q
    ≡ cond (c.args.head.now.channel == q) (Some c.pass-in-Some.new.self) (get nat_cmp c.args.self.now.lives q) = λ q. grind (arith, common_steps) in
    record {
      before = c.in-Some.life.now;
      was = above-one c.args.self.now c.args.head.now.channel c.in-Some.life.now (not-zero _ c.if-head-eq0.false) (sym c.in-Some.ensures.value);
      after = c.pass-in-Some.new.self;
      step = record { stands = c.pass-in-Some.ensures.stands; whole = c.pass-in-Some.ensures.whole; others = c.pass-in-Some.ensures.others; stamp = c.pass-in-Some.ensures.stamp };
      at = at-one c.args.self.now (record { alloc = c.args.self.now.alloc; zero = c.args.self.now.zero; lives = c.get_mut.follows.lender c.pass-in-Some.new.self; stamps = c.args.self.now.stamps; released = c.args.self.now.released }) c.args.head.now.channel c.pass-in-Some.new.self (not-zero _ c.if-head-eq0.false) refl at;
      stamps = refl;
      released = refl;
    }
