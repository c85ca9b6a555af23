-- A turn of one end says what it says of it, and leaves the other.
use Rattle.std.proofs.Common.{List, ℕ, ◌++◌, ◌∙◌, ap, sym, subst, []}
use Rattle.beep_wires.specs.Links.{Link}
use Rattle.beep_link.specs.Causes.{IsBounded, IsCaused, WhereKnown}
use Rattle.beep_link.specs.declared.left.Reads.{Reads}
use Rattle.turn_tests.specs.Shared.{IsShared}
use Rattle.turn_tests.specs.Since.{IsSince, look_at}
use Rattle.turn_tests.specs.Waits.{IsToldIdle, Waits}
use Rattle.turn_tests.proofs.SharedLemmas.{beside, going-beside, going-on, shared-none, shared-one, shared-other}
use Rattle.turn_tests.proofs.SinceLemmas.{bounded-beside, bounded-on, since-beside, since-caused, since-on}
use Rattle.turn_tests.proofs.WaitLemmas.{stood-beside, stood-on, waits-beside, waits-on}
use Rattle.turn_tests.proofs.two.take_turns.Goals as goal

pub loop-ended-init : goal.loop-ended-init
loop-ended-init g c =
    let W = g.W.Wires in
    let E = g.E.End in
    let F = g.F.End in
    record {
      between = c.requires.between;
      one_link = λ i. c.args.one.now.link;
      other_link = λ i. c.args.other.now.link;
      one_reads = λ i. c.args.one.now.reads;
      other_reads = λ i. c.args.other.now.reads;
      one_since = λ before s. s;
      other_since = λ before s. s;
      one_stood = λ text s. (text, s);
      other_stood = λ text s. (text, s);
      one_waits = λ text s w. w;
      other_waits = λ text s w. w;
      one_bounded = λ b. b;
      other_bounded = λ b. b;
      one_going = c.requires.one;
      other_going = c.requires.other;
      terms = λ i. E.terms c.args.one.now.end;
      other_terms = λ i. F.terms c.args.other.now.end;
      shared = λ text late s t. shared-none (g.O.Sink.state c.args.output.now).written text late
          (λ own. WhereKnown (λ log. E.stands c.args.one.now.end log [] own) (W.state c.args.wires.now c.args.one.now.link).log)
          (λ own. WhereKnown (λ log. F.stands c.args.other.now.end log [] own) (W.state c.args.wires.now c.args.other.now.link).log) s t;
    }

pub returns-in-Err-clause-shared : goal.returns-in-Err-clause-shared
returns-in-Err-clause-shared g c text late s t =
    let W = g.W.Wires in
    let E = g.E.End in
    let F = g.F.End in
    let i = c.loop-ended.invariant in
    subst (λ terms. IsShared (g.O.Sink.state c.args.output.now).written (g.O.Sink.state c.turn.new.output).written
    (λ more. WhereKnown (λ log. E.tells terms c.in-Err.ended log (text ++ more)) (W.state c.turn.new.wires c.args.one.now.link).log)
    (λ more. WhereKnown (λ log. F.stands c.loop-ended.other.end log [] (late ++ more)) (W.state c.turn.new.wires c.args.other.now.link).log)) i.terms
    (shared-one (g.O.Sink.state c.args.output.now).written (g.O.Sink.state c.loop-ended.output).written (g.O.Sink.state c.turn.new.output).written text
    (W.state c.loop-ended.wires) (W.state c.turn.new.wires) c.loop-ended.one.link c.args.one.now.link c.args.other.now.link i.one_link c.requires.apart c.turn.ensures.keeps.others
    (λ own log. E.stands c.loop-ended.one.end log [] own) (λ own log. E.tells (E.terms c.loop-ended.one.end) c.in-Err.ended log own) (λ more log. F.stands c.loop-ended.other.end log [] (late ++ more))
    c.in-Err.ensures.stopped (i.shared text late s t))

pub returns-in-Err-turn-clause-shared : goal.returns-in-Err-turn-clause-shared
returns-in-Err-turn-clause-shared g c text late s t =
    let W = g.W.Wires in
    let E = g.E.End in
    let F = g.F.End in
    let i = c.loop-ended.invariant in
    subst (λ terms. IsShared (g.O.Sink.state c.args.output.now).written (g.O.Sink.state c.turn-in-loop-ended.new.output).written
    (λ more. WhereKnown (λ log. E.stands c.turn.new.end log [] (text ++ more)) (W.state c.turn-in-loop-ended.new.wires c.args.one.now.link).log)
    (λ more. WhereKnown (λ log. F.tells terms c.in-Err-turn.ended log (late ++ more)) (W.state c.turn-in-loop-ended.new.wires c.args.other.now.link).log)) i.other_terms
    (shared-other (g.O.Sink.state c.args.output.now).written (g.O.Sink.state c.turn.new.output).written (g.O.Sink.state c.turn-in-loop-ended.new.output).written late
    (W.state c.turn.new.wires) (W.state c.turn-in-loop-ended.new.wires) c.loop-ended.other.link c.args.other.now.link c.args.one.now.link i.other_link (λ e. c.requires.apart (sym e)) c.turn-in-loop-ended.ensures.keeps.others
    (λ own log. F.stands c.loop-ended.other.end log [] own) (λ own log. F.tells (F.terms c.loop-ended.other.end) c.in-Err-turn.ended log own) (λ more log. E.stands c.turn.new.end log [] (text ++ more))
    c.in-Err-turn.ensures.stopped
    (shared-one (g.O.Sink.state c.args.output.now).written (g.O.Sink.state c.loop-ended.output).written (g.O.Sink.state c.turn.new.output).written text
    (W.state c.loop-ended.wires) (W.state c.turn.new.wires) c.loop-ended.one.link c.args.one.now.link c.args.other.now.link i.one_link c.requires.apart c.turn.ensures.keeps.others
    (λ own log. E.stands c.loop-ended.one.end log [] own) (λ own log. E.stands c.turn.new.end log [] own) (λ more log. F.stands c.loop-ended.other.end log [] (late ++ more))
    c.in_default.ensures.stands (i.shared text late s t)))

pub returns-in-Err-clause-one_caused : goal.returns-in-Err-clause-one_caused
returns-in-Err-clause-one_caused g c before s =
    let W = g.W.Wires in
    let i = c.loop-ended.invariant in
    subst (λ (reads : Reads). IsCaused c.in-Err.ended reads before (look_at (W.state c.turn.new.wires) (W.counts c.turn.new.wires) c.args.one.now.link)) i.one_reads
    (since-caused (W.state c.loop-ended.wires) (W.state c.turn.new.wires) (W.counts c.loop-ended.wires) (W.counts c.turn.new.wires) c.loop-ended.one.link c.args.one.now.link i.one_link before c.loop-ended.one.reads c.loop-ended.one.left c.in-Err.ended (c.in-Err.ensures.caused before.link before.quiets) (i.one_since before s))

pub returns-in-Err-clause-other_caused : goal.returns-in-Err-clause-other_caused
returns-in-Err-clause-other_caused g c before s =
    let W = g.W.Wires in
    let i = c.loop-ended.invariant in
    subst (λ (reads : Reads). IsSince before reads c.loop-ended.other.left (look_at (W.state c.turn.new.wires) (W.counts c.turn.new.wires) c.args.other.now.link)) i.other_reads
    (since-beside (W.state c.loop-ended.wires) (W.state c.turn.new.wires) (W.counts c.loop-ended.wires) (W.counts c.turn.new.wires) c.loop-ended.one.link c.args.one.now.link i.one_link before c.loop-ended.other.reads c.loop-ended.other.left c.args.other.now.link c.requires.apart c.turn.ensures.keeps.others c.turn.ensures.keeps.quiets (i.other_since before s))

pub returns-in-Err-clause-one_bounded : goal.returns-in-Err-clause-one_bounded
returns-in-Err-clause-one_bounded g c b =
    let W = g.W.Wires in
    let i = c.loop-ended.invariant in
    subst (λ (reads : Reads). IsBounded reads (W.state c.turn.new.wires c.args.one.now.link).log) i.one_reads
    (bounded-on (W.state c.loop-ended.wires) (W.state c.turn.new.wires) c.loop-ended.one.link c.args.one.now.link c.loop-ended.one.reads i.one_link c.turn.ensures.bounded (i.one_bounded b))

pub returns-in-Err-clause-other_bounded : goal.returns-in-Err-clause-other_bounded
returns-in-Err-clause-other_bounded g c b =
    let W = g.W.Wires in
    let i = c.loop-ended.invariant in
    subst (λ (reads : Reads). IsBounded reads (W.state c.turn.new.wires c.args.other.now.link).log) i.other_reads
    (bounded-beside (W.state c.loop-ended.wires) (W.state c.turn.new.wires) c.loop-ended.one.link c.args.one.now.link c.args.other.now.link c.loop-ended.other.reads i.one_link c.requires.apart c.turn.ensures.keeps.others (i.other_bounded b))

pub returns-in-Err-turn-clause-one_caused : goal.returns-in-Err-turn-clause-one_caused
returns-in-Err-turn-clause-one_caused g c before s =
    let W = g.W.Wires in
    let i = c.loop-ended.invariant in
    subst (λ (reads : Reads). IsSince before reads c.turn.new.left (look_at (W.state c.turn-in-loop-ended.new.wires) (W.counts c.turn-in-loop-ended.new.wires) c.args.one.now.link)) i.one_reads
    (since-beside (W.state c.turn.new.wires) (W.state c.turn-in-loop-ended.new.wires) (W.counts c.turn.new.wires) (W.counts c.turn-in-loop-ended.new.wires) c.loop-ended.other.link c.args.other.now.link i.other_link before c.loop-ended.one.reads c.turn.new.left c.args.one.now.link (λ e. c.requires.apart (sym e)) c.turn-in-loop-ended.ensures.keeps.others c.turn-in-loop-ended.ensures.keeps.quiets
    (since-on (W.state c.loop-ended.wires) (W.state c.turn.new.wires) (W.counts c.loop-ended.wires) (W.counts c.turn.new.wires) c.loop-ended.one.link c.args.one.now.link i.one_link before c.loop-ended.one.reads c.loop-ended.one.left c.turn.new.left c.in_default.ensures.unfailed (c.in_default.ensures.counted before.quiets) (c.in_default.ensures.came before.link.reads) (i.one_since before s)))

pub returns-in-Err-turn-clause-other_caused : goal.returns-in-Err-turn-clause-other_caused
returns-in-Err-turn-clause-other_caused g c before s =
    let W = g.W.Wires in
    let i = c.loop-ended.invariant in
    subst (λ (reads : Reads). IsCaused c.in-Err-turn.ended reads before (look_at (W.state c.turn-in-loop-ended.new.wires) (W.counts c.turn-in-loop-ended.new.wires) c.args.other.now.link)) i.other_reads
    (since-caused (W.state c.turn.new.wires) (W.state c.turn-in-loop-ended.new.wires) (W.counts c.turn.new.wires) (W.counts c.turn-in-loop-ended.new.wires) c.loop-ended.other.link c.args.other.now.link i.other_link before c.loop-ended.other.reads c.loop-ended.other.left c.in-Err-turn.ended (c.in-Err-turn.ensures.caused before.link before.quiets)
    (since-beside (W.state c.loop-ended.wires) (W.state c.turn.new.wires) (W.counts c.loop-ended.wires) (W.counts c.turn.new.wires) c.loop-ended.one.link c.args.one.now.link i.one_link before c.loop-ended.other.reads c.loop-ended.other.left c.args.other.now.link c.requires.apart c.turn.ensures.keeps.others c.turn.ensures.keeps.quiets (i.other_since before s)))

pub returns-in-Err-turn-clause-one_bounded : goal.returns-in-Err-turn-clause-one_bounded
returns-in-Err-turn-clause-one_bounded g c b =
    let W = g.W.Wires in
    let i = c.loop-ended.invariant in
    subst (λ (reads : Reads). IsBounded reads (W.state c.turn-in-loop-ended.new.wires c.args.one.now.link).log) i.one_reads
    (bounded-beside (W.state c.turn.new.wires) (W.state c.turn-in-loop-ended.new.wires) c.loop-ended.other.link c.args.other.now.link c.args.one.now.link c.loop-ended.one.reads i.other_link (λ e. c.requires.apart (sym e)) c.turn-in-loop-ended.ensures.keeps.others
    (bounded-on (W.state c.loop-ended.wires) (W.state c.turn.new.wires) c.loop-ended.one.link c.args.one.now.link c.loop-ended.one.reads i.one_link c.turn.ensures.bounded (i.one_bounded b)))

pub returns-in-Err-turn-clause-other_bounded : goal.returns-in-Err-turn-clause-other_bounded
returns-in-Err-turn-clause-other_bounded g c b =
    let W = g.W.Wires in
    let i = c.loop-ended.invariant in
    subst (λ (reads : Reads). IsBounded reads (W.state c.turn-in-loop-ended.new.wires c.args.other.now.link).log) i.other_reads
    (bounded-on (W.state c.turn.new.wires) (W.state c.turn-in-loop-ended.new.wires) c.loop-ended.other.link c.args.other.now.link c.loop-ended.other.reads i.other_link c.turn-in-loop-ended.ensures.bounded
    (bounded-beside (W.state c.loop-ended.wires) (W.state c.turn.new.wires) c.loop-ended.one.link c.args.one.now.link c.args.other.now.link c.loop-ended.other.reads i.one_link c.requires.apart c.turn.ensures.keeps.others (i.other_bounded b)))

pub returns-in-Err-clause-one_waits : goal.returns-in-Err-clause-one_waits
returns-in-Err-clause-one_waits g c text s w =
    let W = g.W.Wires in
    let E = g.E.End in
    let F = g.F.End in
    let i = c.loop-ended.invariant in
    waits-on (W.state c.loop-ended.wires) (W.state c.turn.new.wires) c.loop-ended.one.link c.args.one.now.link i.one_link (λ own log. E.stands c.loop-ended.one.end log [] own) (IsToldIdle (E.tells (E.terms c.args.one.now.end)))
    (subst (λ (terms : E.Terms). (own : List ℕ) → WhereKnown (λ log. E.stands c.loop-ended.one.end log [] own) (W.state c.loop-ended.wires c.loop-ended.one.link).log → Waits (E.tells terms) (W.state c.loop-ended.wires c.loop-ended.one.link).log → Waits (E.tells terms) (W.state c.turn.new.wires c.loop-ended.one.link).log) i.terms c.turn.ensures.waits)
    (i.one_stood text s) (i.one_waits text s w)

pub returns-in-Err-clause-other_waits : goal.returns-in-Err-clause-other_waits
returns-in-Err-clause-other_waits g c text s w =
    let W = g.W.Wires in
    let E = g.E.End in
    let F = g.F.End in
    let i = c.loop-ended.invariant in
    waits-beside (W.state c.loop-ended.wires) (W.state c.turn.new.wires) c.loop-ended.one.link c.args.one.now.link i.one_link (λ own log. F.stands c.loop-ended.other.end log [] own) (IsToldIdle (F.tells (F.terms c.args.other.now.end))) c.args.other.now.link c.requires.apart c.turn.ensures.keeps.others (i.other_waits text s w)

pub returns-in-Err-turn-clause-one_waits : goal.returns-in-Err-turn-clause-one_waits
returns-in-Err-turn-clause-one_waits g c text s w =
    let W = g.W.Wires in
    let E = g.E.End in
    let F = g.F.End in
    let i = c.loop-ended.invariant in
    waits-beside (W.state c.turn.new.wires) (W.state c.turn-in-loop-ended.new.wires) c.loop-ended.other.link c.args.other.now.link i.other_link (λ own log. E.stands c.turn.new.end log [] own) (IsToldIdle (E.tells (E.terms c.args.one.now.end))) c.args.one.now.link (λ e. c.requires.apart (sym e)) c.turn-in-loop-ended.ensures.keeps.others
    (waits-on (W.state c.loop-ended.wires) (W.state c.turn.new.wires) c.loop-ended.one.link c.args.one.now.link i.one_link (λ own log. E.stands c.loop-ended.one.end log [] own) (IsToldIdle (E.tells (E.terms c.args.one.now.end)))
    (subst (λ (terms : E.Terms). (own : List ℕ) → WhereKnown (λ log. E.stands c.loop-ended.one.end log [] own) (W.state c.loop-ended.wires c.loop-ended.one.link).log → Waits (E.tells terms) (W.state c.loop-ended.wires c.loop-ended.one.link).log → Waits (E.tells terms) (W.state c.turn.new.wires c.loop-ended.one.link).log) i.terms c.turn.ensures.waits)
    (i.one_stood text s) (i.one_waits text s w))

pub returns-in-Err-turn-clause-other_waits : goal.returns-in-Err-turn-clause-other_waits
returns-in-Err-turn-clause-other_waits g c text s w =
    let W = g.W.Wires in
    let E = g.E.End in
    let F = g.F.End in
    let i = c.loop-ended.invariant in
    waits-on (W.state c.turn.new.wires) (W.state c.turn-in-loop-ended.new.wires) c.loop-ended.other.link c.args.other.now.link i.other_link (λ own log. F.stands c.loop-ended.other.end log [] own) (IsToldIdle (F.tells (F.terms c.args.other.now.end)))
    (subst (λ (terms : F.Terms). (own : List ℕ) → WhereKnown (λ log. F.stands c.loop-ended.other.end log [] own) (W.state c.turn.new.wires c.loop-ended.other.link).log → Waits (F.tells terms) (W.state c.turn.new.wires c.loop-ended.other.link).log → Waits (F.tells terms) (W.state c.turn-in-loop-ended.new.wires c.loop-ended.other.link).log) i.other_terms c.turn-in-loop-ended.ensures.waits)
    (stood-beside (W.state c.loop-ended.wires) (W.state c.turn.new.wires) c.loop-ended.one.link c.args.one.now.link i.one_link (λ own log. F.stands c.loop-ended.other.end log [] own) c.args.other.now.link c.requires.apart c.turn.ensures.keeps.others (i.other_stood text s))
    (waits-beside (W.state c.loop-ended.wires) (W.state c.turn.new.wires) c.loop-ended.one.link c.args.one.now.link i.one_link (λ own log. F.stands c.loop-ended.other.end log [] own) (IsToldIdle (F.tells (F.terms c.args.other.now.end))) c.args.other.now.link c.requires.apart c.turn.ensures.keeps.others (i.other_waits text s w))

pub loop-ended-preserved : goal.loop-ended-preserved
loop-ended-preserved g c =
    let W = g.W.Wires in
    let E = g.E.End in
    let F = g.F.End in
    let i = c.loop-ended.invariant in
    let first = c.turn.ensures.keeps in
    let second = c.turn-in-loop-ended.ensures.keeps in
    record {
      between = c.turn-in-loop-ended.ensures.between;
      one_link = i.one_link;
      other_link = i.other_link;
      one_going = going-beside (W.state c.turn.new.wires) (W.state c.turn-in-loop-ended.new.wires) c.loop-ended.other.link c.args.other.now.link c.args.one.now.link c.loop-ended.one.reads c.turn.new.left i.other_link (λ e. c.requires.apart (sym e)) second.others
          (going-on (W.state c.turn.new.wires) c.loop-ended.one.link c.args.one.now.link c.loop-ended.one.reads c.turn.new.left i.one_link first.still_open c.in_default.ensures.going
          (c.in_default.ensures.unfailed ∙ ap (λ (n : ℕ). (W.state c.loop-ended.wires n).faults) i.one_link ∙ i.one_going.unfailed) c.in_default.ensures.shown);
      other_going = going-on (W.state c.turn-in-loop-ended.new.wires) c.loop-ended.other.link c.args.other.now.link c.loop-ended.other.reads c.turn-in-loop-ended.new.left i.other_link second.still_open c.in_default-turn.ensures.going
          (c.in_default-turn.ensures.unfailed ∙ ap (λ (n : ℕ). (W.state c.turn.new.wires n).faults) i.other_link
          ∙ ap (λ (l : Link). l.faults) (beside (W.state c.loop-ended.wires) (W.state c.turn.new.wires) c.loop-ended.one.link c.args.one.now.link c.args.other.now.link i.one_link c.requires.apart first.others) ∙ i.other_going.unfailed) c.in_default-turn.ensures.shown;
      one_reads = i.one_reads;
      other_reads = i.other_reads;
      one_since = λ before s.
          since-beside (W.state c.turn.new.wires) (W.state c.turn-in-loop-ended.new.wires) (W.counts c.turn.new.wires) (W.counts c.turn-in-loop-ended.new.wires) c.loop-ended.other.link c.args.other.now.link i.other_link before c.loop-ended.one.reads c.turn.new.left c.args.one.now.link (λ e. c.requires.apart (sym e)) c.turn-in-loop-ended.ensures.keeps.others c.turn-in-loop-ended.ensures.keeps.quiets
          (since-on (W.state c.loop-ended.wires) (W.state c.turn.new.wires) (W.counts c.loop-ended.wires) (W.counts c.turn.new.wires) c.loop-ended.one.link c.args.one.now.link i.one_link before c.loop-ended.one.reads c.loop-ended.one.left c.turn.new.left c.in_default.ensures.unfailed (c.in_default.ensures.counted before.quiets) (c.in_default.ensures.came before.link.reads) (i.one_since before s));
      other_since = λ before s.
          since-on (W.state c.turn.new.wires) (W.state c.turn-in-loop-ended.new.wires) (W.counts c.turn.new.wires) (W.counts c.turn-in-loop-ended.new.wires) c.loop-ended.other.link c.args.other.now.link i.other_link before c.loop-ended.other.reads c.loop-ended.other.left c.turn-in-loop-ended.new.left c.in_default-turn.ensures.unfailed (c.in_default-turn.ensures.counted before.quiets) (c.in_default-turn.ensures.came before.link.reads)
          (since-beside (W.state c.loop-ended.wires) (W.state c.turn.new.wires) (W.counts c.loop-ended.wires) (W.counts c.turn.new.wires) c.loop-ended.one.link c.args.one.now.link i.one_link before c.loop-ended.other.reads c.loop-ended.other.left c.args.other.now.link c.requires.apart c.turn.ensures.keeps.others c.turn.ensures.keeps.quiets (i.other_since before s));
      one_stood = λ text s.
          stood-beside (W.state c.turn.new.wires) (W.state c.turn-in-loop-ended.new.wires) c.loop-ended.other.link c.args.other.now.link i.other_link (λ own log. E.stands c.turn.new.end log [] own) c.args.one.now.link (λ e. c.requires.apart (sym e)) c.turn-in-loop-ended.ensures.keeps.others
          (stood-on (W.state c.loop-ended.wires) (W.state c.turn.new.wires) c.loop-ended.one.link c.args.one.now.link i.one_link (λ own log. E.stands c.loop-ended.one.end log [] own) (λ own log. E.stands c.turn.new.end log [] own) (g.O.Sink.state c.loop-ended.output).written (g.O.Sink.state c.turn.new.output).written c.in_default.ensures.stands (i.one_stood text s));
      other_stood = λ text s.
          stood-on (W.state c.turn.new.wires) (W.state c.turn-in-loop-ended.new.wires) c.loop-ended.other.link c.args.other.now.link i.other_link (λ own log. F.stands c.loop-ended.other.end log [] own) (λ own log. F.stands c.turn-in-loop-ended.new.end log [] own) (g.O.Sink.state c.turn.new.output).written (g.O.Sink.state c.turn-in-loop-ended.new.output).written c.in_default-turn.ensures.stands
          (stood-beside (W.state c.loop-ended.wires) (W.state c.turn.new.wires) c.loop-ended.one.link c.args.one.now.link i.one_link (λ own log. F.stands c.loop-ended.other.end log [] own) c.args.other.now.link c.requires.apart c.turn.ensures.keeps.others (i.other_stood text s));
      one_waits = λ text s w.
          waits-beside (W.state c.turn.new.wires) (W.state c.turn-in-loop-ended.new.wires) c.loop-ended.other.link c.args.other.now.link i.other_link (λ own log. E.stands c.turn.new.end log [] own) (IsToldIdle (E.tells (E.terms c.args.one.now.end))) c.args.one.now.link (λ e. c.requires.apart (sym e)) c.turn-in-loop-ended.ensures.keeps.others
          (waits-on (W.state c.loop-ended.wires) (W.state c.turn.new.wires) c.loop-ended.one.link c.args.one.now.link i.one_link (λ own log. E.stands c.loop-ended.one.end log [] own) (IsToldIdle (E.tells (E.terms c.args.one.now.end)))
          (subst (λ (terms : E.Terms). (own : List ℕ) → WhereKnown (λ log. E.stands c.loop-ended.one.end log [] own) (W.state c.loop-ended.wires c.loop-ended.one.link).log → Waits (E.tells terms) (W.state c.loop-ended.wires c.loop-ended.one.link).log → Waits (E.tells terms) (W.state c.turn.new.wires c.loop-ended.one.link).log) i.terms c.turn.ensures.waits)
          (i.one_stood text s) (i.one_waits text s w));
      other_waits = λ text s w.
          waits-on (W.state c.turn.new.wires) (W.state c.turn-in-loop-ended.new.wires) c.loop-ended.other.link c.args.other.now.link i.other_link (λ own log. F.stands c.loop-ended.other.end log [] own) (IsToldIdle (F.tells (F.terms c.args.other.now.end)))
          (subst (λ (terms : F.Terms). (own : List ℕ) → WhereKnown (λ log. F.stands c.loop-ended.other.end log [] own) (W.state c.turn.new.wires c.loop-ended.other.link).log → Waits (F.tells terms) (W.state c.turn.new.wires c.loop-ended.other.link).log → Waits (F.tells terms) (W.state c.turn-in-loop-ended.new.wires c.loop-ended.other.link).log) i.other_terms c.turn-in-loop-ended.ensures.waits)
          (stood-beside (W.state c.loop-ended.wires) (W.state c.turn.new.wires) c.loop-ended.one.link c.args.one.now.link i.one_link (λ own log. F.stands c.loop-ended.other.end log [] own) c.args.other.now.link c.requires.apart c.turn.ensures.keeps.others (i.other_stood text s))
          (waits-beside (W.state c.loop-ended.wires) (W.state c.turn.new.wires) c.loop-ended.one.link c.args.one.now.link i.one_link (λ own log. F.stands c.loop-ended.other.end log [] own) (IsToldIdle (F.tells (F.terms c.args.other.now.end))) c.args.other.now.link c.requires.apart c.turn.ensures.keeps.others (i.other_waits text s w));
      one_bounded = λ b.
          bounded-beside (W.state c.turn.new.wires) (W.state c.turn-in-loop-ended.new.wires) c.loop-ended.other.link c.args.other.now.link c.args.one.now.link c.loop-ended.one.reads i.other_link (λ e. c.requires.apart (sym e)) c.turn-in-loop-ended.ensures.keeps.others
          (bounded-on (W.state c.loop-ended.wires) (W.state c.turn.new.wires) c.loop-ended.one.link c.args.one.now.link c.loop-ended.one.reads i.one_link c.turn.ensures.bounded (i.one_bounded b));
      other_bounded = λ b.
          bounded-on (W.state c.turn.new.wires) (W.state c.turn-in-loop-ended.new.wires) c.loop-ended.other.link c.args.other.now.link c.loop-ended.other.reads i.other_link c.turn-in-loop-ended.ensures.bounded
          (bounded-beside (W.state c.loop-ended.wires) (W.state c.turn.new.wires) c.loop-ended.one.link c.args.one.now.link c.args.other.now.link c.loop-ended.other.reads i.one_link c.requires.apart c.turn.ensures.keeps.others (i.other_bounded b));
      terms = c.turn.ensures.terms ∙ i.terms;
      other_terms = c.turn-in-loop-ended.ensures.terms ∙ i.other_terms;
      shared = λ text late s t.
          shared-other (g.O.Sink.state c.args.output.now).written (g.O.Sink.state c.turn.new.output).written (g.O.Sink.state c.turn-in-loop-ended.new.output).written late
          (W.state c.turn.new.wires) (W.state c.turn-in-loop-ended.new.wires) c.loop-ended.other.link c.args.other.now.link c.args.one.now.link i.other_link (λ e. c.requires.apart (sym e)) second.others
          (λ own log. F.stands c.loop-ended.other.end log [] own) (λ own log. F.stands c.turn-in-loop-ended.new.end log [] own) (λ more log. E.stands c.turn.new.end log [] (text ++ more))
          c.in_default-turn.ensures.stands
          (shared-one (g.O.Sink.state c.args.output.now).written (g.O.Sink.state c.loop-ended.output).written (g.O.Sink.state c.turn.new.output).written text
          (W.state c.loop-ended.wires) (W.state c.turn.new.wires) c.loop-ended.one.link c.args.one.now.link c.args.other.now.link i.one_link c.requires.apart first.others
          (λ own log. E.stands c.loop-ended.one.end log [] own) (λ own log. E.stands c.turn.new.end log [] own) (λ more log. F.stands c.loop-ended.other.end log [] (late ++ more))
          c.in_default.ensures.stands (i.shared text late s t));
    }
