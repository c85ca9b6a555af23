use Rattle.std.proofs.Common.{◌≡◌, ◌∙◌, ℕ, ap, subst}
use Rattle.beep_two_sessions.specs.beep_peer.specs.Standing.{live_above}
use Rattle.beep_two_sessions.specs.beep_session.specs.Session.{Held}
use Rattle.beep_two_sessions.specs.beep_session.specs.Looks.{IsTakenAt}
use Rattle.beep_pair.specs.Drains.{TookAll}
use Rattle.beep_pair.specs.Draining.{TookEach}
use Rattle.beep_pair.proofs.LeadLemmas.{none-leads, leads-as, of-held}
use Rattle.beep_pair.proofs.DrainLemmas.{took-all-of, took-all-none}
use Rattle.beep_pair.proofs.pair.Pair.take_all.Goals as goal

pub returns-then-not-has_untaken-clause-took : goal.returns-then-not-has_untaken-clause-took
returns-then-not-has_untaken-clause-took c =
    none-leads (TookAll c.args.at) c.args.self.now (λ world w k. took-all-none c.args.at world w
    (of-held c.args.at world c.args.self.now (λ (s : Held). (n : ℕ) → IsTakenAt n s.peer.lives) k
    (subst (λ (s : Held). (n : ℕ) → IsTakenAt n s.peer.lives) c.end.ensures (c.has_untaken.ensures.0 c.if-not-has_untaken.true))))

pub returns-clause-took : goal.returns-clause-took
returns-clause-took c =
    leads-as (TookEach c.args.at c.as_slice.result.now) (TookAll c.args.at) c.args.self.now c.take_each.new.self c.take_each.ensures.took
    (λ first last wa ka wb kb t. took-all-of c.args.at first last wa (subst (λ ns. TookEach c.args.at ns first last)
    (of-held c.args.at first c.args.self.now (λ (s : Held). c.as_slice.result.now ≡ live_above s.peer) ka
    (c.as_slice.ensures.value ∙ c.in_ok-numbers.ensures ∙ ap (λ (s : Held). live_above s.peer) c.end-2.ensures)) t))
