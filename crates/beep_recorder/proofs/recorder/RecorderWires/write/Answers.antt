-- What a write adds is kept where the link is the one that is recorded.
use Rattle.std.proofs.Common.{◌≡◌, ℕ, not, true, false, ap, sym, ◌∙◌, subst, rules}
use Rattle.beep_wires.specs.Got.{write_entries}
use Rattle.beep_recorder.specs.Kept.{IsGiven, is_recorded}
use Rattle.beep_recorder.proofs.KeptLemmas.{beside-ended, beside-logged, going-of, it-ends, it-given, it-kept-known, it-ordered, it-logged, it-unread, kept-known, write-grown, write-in-order}
use Rattle.beep_recorder.proofs.recorder.RecorderWires.write.Goals as goal

pub invariant_of-self : goal.invariant_of-self
invariant_of-self g c =
    let W = g.W.Wires in
    let old = c.args.self.now in
    let log = old.log.entries in
    let e = c.write.ensures in
    let state = W.state old.wires.now in
    let state2 = W.state c.write.new.self in
    let not_it : is_recorded old.short old.link c.args.link ≡ false = search rules in
    record {
      ordered = old.ordered;
      unread = old.unread;
      given = subst (λ (n : ℕ). IsGiven old.short n old.link) (ap (λ k. k.given) (sym e.same_counts)) old.given;
      ended = beside-ended old.short old.link c.args.link log state state2 not_it e.others old.ended;
      logged = beside-logged old.short old.link c.args.link log state state2 not_it e.others old.logged;
      known = kept-known g.K.Known.known old.short old.link (W.counts old.wires.now) (W.counts c.write.new.self) old.log.role old.known e.same_counts;
    }

pub invariant_of-self-2 : goal.invariant_of-self-2
invariant_of-self-2 g c =
    let W = g.W.Wires in
    let old = c.args.self.now in
    let log = old.log.entries in
    let e = c.write-answer.ensures in
    let k = c.keep_write in
    let r = c.write-answer.result in
    let bytes = c.args.bytes.now in
    let state = W.state old.wires.now in
    let state2 = W.state c.write-answer.new.self in
    let more = write_entries r bytes in
    let it : is_recorded old.short old.link c.args.link ≡ true = search rules in
    let was = going-of old.short old.link c.args.link log state it old.ended in
    record {
      ordered = it-ordered old.short old.link c.args.link log state state2 it more k.new.log k.result k.ensures.kept k.ensures.lost old.ordered (write-in-order r bytes log old.ordered);
      unread = it-unread old.short old.link c.args.link log state state2 it more k.new.log k.result k.ensures.kept;
      given = it-given old.short old.link c.args.link (not k.result) (W.counts old.wires.now).given (W.counts c.write-answer.new.self).given it (ap (λ n. n.given) e.same_counts) old.given;
      ended = it-ends old.short old.link c.args.link log state state2 it more k.new.log k.result k.ensures.kept (write-grown r bytes log (state c.args.link).has_ended (state2 c.args.link).has_ended was e.end);
      logged = it-logged old.short old.link c.args.link log state state2 it more k.new.log k.result k.ensures.kept e.logged old.logged;
      known = it-kept-known g.K.Known.known old.short old.link (W.counts old.wires.now) (W.counts c.write-answer.new.self) old.log.role old.known c.args.link (not k.result) it e.same_counts;
    }
