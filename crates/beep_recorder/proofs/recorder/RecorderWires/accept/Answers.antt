-- A link that was given is recorded where it is the first.
use Rattle.std.proofs.Common.{◌≡◌, ℕ, Option, sym, subst}
use Rattle.beep_recorder.specs.Kept.{IsUnread, IsGiven, EndsWith, IsLogOf, IsKnown}
use Rattle.beep_recorder.proofs.KeptLemmas.{given-ended, given-known, given-logged, given-unread, given-within}
use Rattle.beep_recorder.proofs.recorder.RecorderWires.accept.Goals as goal

pub invariant_of-self : goal.invariant_of-self
invariant_of-self g c =
    let W = g.W.Wires in
    let old = c.args.self.now in
    let log = old.log.entries in
    let r = c.accept-answer.result in
    let e = c.accept-answer.ensures in
    let state = W.state old.wires.now in
    let state2 = W.state c.accept-answer.new.self in
    let given = (W.counts old.wires.now).given in
    let given2 = (W.counts c.accept-answer.new.self).given in
    let same = sym c.first_given-self.ensures in
    record {
      ordered = old.ordered;
      unread = subst (λ (l : Option ℕ). IsUnread old.short l log) same (given-unread old.short old.link log state state2 given given2 old.unread old.given r);
      given = subst (λ (l : Option ℕ). IsGiven old.short given2 l) same (given-within old.short old.link log state state2 given given2 old.unread old.given r e.number e.given);
      ended = subst (λ (l : Option ℕ). EndsWith old.short state2 l log) same (given-ended old.short old.link log state state2 given r old.unread old.given e.number e.fresh e.others old.ended);
      logged = subst (λ (l : Option ℕ). IsLogOf old.short state2 l log) same (given-logged old.short old.link log state state2 given r old.unread old.given e.number e.fresh e.others old.logged);
      known = subst (λ (l : Option ℕ). IsKnown g.K.Known.known old.short l given2 old.log.role) same (given-known g.K.Known.known old.short old.link given given2 old.log.role r e.number e.given old.known);
    }
