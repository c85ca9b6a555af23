-- A link that is shut keeps its log.
use Rattle.std.proofs.Common.{◌≡◌, ℕ, ap, sym, subst}
use Rattle.beep_recorder.specs.Kept.{IsGiven}
use Rattle.beep_recorder.proofs.KeptLemmas.{kept-known, shut-ended, shut-logged}
use Rattle.beep_recorder.proofs.recorder.RecorderWires.shut.Goals as goal

pub invariant_of-self : goal.invariant_of-self
invariant_of-self g c =
    let W = g.W.Wires in
    let old = c.args.self.now in
    let log = old.log.entries in
    let e = c.shut.ensures in
    let state = W.state old.wires.now in
    let state2 = W.state c.shut.new.self in
    record {
      ordered = old.ordered;
      unread = old.unread;
      given = subst (λ (n : ℕ). IsGiven old.short n old.link) (ap (λ k. k.given) (sym e.same_counts)) old.given;
      ended = shut-ended old.short old.link c.args.link log state state2 e.shut e.others old.ended;
      logged = shut-logged old.short old.link c.args.link log state state2 e.shut e.others old.logged;
      known = kept-known g.K.Known.known old.short old.link (W.counts old.wires.now) (W.counts c.shut.new.self) old.log.role old.known e.same_counts;
    }
