-- A feed is one of the ear, and the peer stands for what that leaves.
use Rattle.std.proofs.Common.{take, sym, ap, subst}
use Rattle.beep_session.specs.declared.event.Event.{Event}
use Rattle.beep_giving.specs.beep_peer.specs.Peering.{IsPeer}
use Rattle.beep_session.specs.Feeds.{Feeds}
use Rattle.beep_session.specs.Session.{Held}
use Rattle.beep_session.proofs.FeedLemmas.{feeds, held-ear, reached-after, to-ear}
use Rattle.beep_session.specs.Lawfully.{terms_of}
use Rattle.beep_session.proofs.LawfulLemmas.{feeds-lawfully}
use Rattle.beep_giving.specs.beep_peer.specs.Waiting.{IsStuck}
use Rattle.beep_session.proofs.StuckLemmas.{stuck-after}
use Rattle.beep_session.proofs.session.Session.feed.Goals as goal

pub feed-count-requires : goal.feed-count-requires
feed-count-requires c = record {
  reached = λ b w. held-ear c.self.inside.limits.window c.self.inside.peer (c.self.invariant.0.reached.going b w);
}

pub invariant_of-self : goal.invariant_of-self
invariant_of-self c = (
  record {
    limits = c.self.invariant.0.limits;
    offers = c.self.invariant.0.offers;
    reached = reached-after c.self.inside.limits.window (take c.feed-count.result.0 c.args.bytes.now) c.self.inside.peer c.feed-count.new.self c.feed-count.new.lives
        c.feed-count.result.1 c.feed-count.ensures.answers
        (λ head b w. let same = c.feed-count.ensures.waiting head b w in (same.2, same.3))
        (λ stopped b. let same = c.feed-count.ensures.broken stopped b in (same.2, same.3))
        c.feed-count.ensures.room c.self.invariant.0.reached;
  },
  c.self.invariant.1,
)

pub returns-clause-answers : goal.returns-clause-answers
returns-clause-answers c = λ fed rest journal given taken going s.
    let size = c.self.inside.limits.window in
    let peer = c.self.inside.peer in
    let octets = take c.feed-count.result.0 c.args.bytes.now in
    let stands : IsPeer size fed rest journal given taken peer =
    subst (λ (h : Held). IsPeer h.limits.window fed rest journal given taken h.peer) (sym c.self.view_is) s in
    subst (λ (h : Held). Feeds c.of.result h.limits.window octets fed journal given taken
    (record peer { ear = c.feed-count.new.self; lives = c.feed-count.new.lives })) c.self.view_is
    (subst (λ (e : Event). Feeds e size octets fed journal given taken (record peer { ear = c.feed-count.new.self; lives = c.feed-count.new.lives })) (sym c.of.ensures)
    (feeds size octets fed rest journal given taken peer c.feed-count.new.self c.feed-count.new.lives stands c.feed-count.ensures.room c.feed-count.result.1
    (c.feed-count.ensures.answers size fed rest journal given taken (to-ear size fed rest journal given taken peer stands))))

pub returns-clause-lawful : goal.returns-clause-lawful
returns-clause-lawful c = λ fed rest journal given taken going s.
    let peer = c.self.inside.peer in
    feeds-lawfully (terms_of c.args.self.now) (take c.feed-count.result.0 c.args.bytes.now) fed rest journal given taken c.args.self.now.peer
    (record peer { ear = c.feed-count.new.self; lives = c.feed-count.new.lives }) s (ap (λ (h : Held). h.peer.management) c.self.view_is) c.of.result
    (returns-clause-answers c fed rest journal given taken going s.stands)

pub returns-clause-stuck : goal.returns-clause-stuck
returns-clause-stuck c =
    subst (λ (h : Held). IsStuck h.peer.lives h.peer.management → IsStuck c.feed-count.new.lives c.self.inside.peer.management) c.self.view_is
    (stuck-after c.self.inside.limits.window (take c.feed-count.result.0 c.args.bytes.now) c.self.inside.peer c.feed-count.new.self c.feed-count.new.lives
    c.feed-count.result.1 c.feed-count.ensures.answers
    (λ head b w. let same = c.feed-count.ensures.waiting head b w in same.3)
    (λ stopped b. let same = c.feed-count.ensures.broken stopped b in same.3) c.self.invariant.0.reached)
