-- Each write changes nothing of the reads that the log shows, and what is written is what was gathered.
use Rattle.std.proofs.Common.{◌∙◌, [], rules, sym, subst}
use Rattle.beep_link.specs.declared.ended.Ended.{Ended}
use Rattle.beep_link.proofs.KeepLemmas.{SameReads-wrote, SameReads-trans, Keeps-wrote}
use Rattle.beep_link.proofs.StandLemmas.{wrote-stands, front-tells, grew-more, known-then, known-map}
use Rattle.beep_link.proofs.say.say.Goals as goal

pub returns-in_default-clause-stopped : goal.returns-in_default-clause-stopped
returns-in_default-clause-stopped g c text s =
    let E = g.E.End in
    known-map _ (λ log. E.tells (E.terms c.args.end.now) Ended.NoMemory log text)
    (λ log k. subst (λ t. E.tells t Ended.NoMemory log text) c.loop.invariant.terms
    (g.met.E.End.stops c.loop.end log [] text Ended.NoMemory tt k)) _ (c.loop.invariant.stands text s)

pub returns-in_default-clause-terms : goal.returns-in_default-clause-terms
returns-in_default-clause-terms g c = c.gather_some.ensures.terms ∙ c.loop.invariant.terms

pub returns-in-Err-clause-terms : goal.returns-in-Err-clause-terms
returns-in-Err-clause-terms g c = c.gather_some.ensures.terms ∙ c.loop.invariant.terms

pub returns-then-not-is_more-clause-terms : goal.returns-then-not-is_more-clause-terms
returns-then-not-is_more-clause-terms g c = c.gather_some.ensures.terms ∙ c.loop.invariant.terms

pub returns-clause-terms : goal.returns-clause-terms
returns-clause-terms g c = c.loop.invariant.terms

pub returns-clause-stopped : goal.returns-clause-stopped
returns-clause-stopped g c text s =
    let E = g.E.End in
    known-map _ (λ log. E.tells (E.terms c.args.end.now) Ended.NoMemory log text)
    (λ log k. subst (λ t. E.tells t Ended.NoMemory log text) c.loop.invariant.terms
    (g.met.E.End.stops c.loop.end log [] text Ended.NoMemory tt k)) _ (c.loop.invariant.stands text s)

pub returns-then-not-is_more-clause-rested : goal.returns-then-not-is_more-clause-rested
returns-then-not-is_more-clause-rested g c text s =
    let E = g.E.End in
    let w = c.in-Ok-written.ensures in
    known-then (λ log. E.stands c.loop.end log [] text) (E.rests c.gather_some.new.end) (λ log k. c.in-Ok.ensures.rested log text (subst (λ octets. E.stands c.loop.end log octets text) (sym c.loop.invariant.empty) k) (search rules))
    (g.W.Wires.state c.loop.wires c.args.link).log (g.W.Wires.state c.write_link-written.new.wires c.args.link).log w.wrote.more w.wrote.logs (c.loop.invariant.stands text s)

pub returns-in-Err-clause-stopped : goal.returns-in-Err-clause-stopped
returns-in-Err-clause-stopped g c text s =
    let E = g.E.End in
    let w = c.in-Err.ensures in
    front-tells (λ log octets. E.stands c.loop.end log octets text) (λ log octets. E.stands c.gather_some.new.end log octets text) c.as_slice.result.now
    (λ log k. subst (λ octets. E.stands c.gather_some.new.end log octets text) (sym c.as_slice.ensures)
    (c.in-Ok.ensures.said log text (subst (λ octets. E.stands c.loop.end log octets text) (sym c.loop.invariant.empty) k)))
    (λ log front rest k. g.met.E.End.writes c.gather_some.new.end log front rest text k)
    (λ log. E.tells (E.terms c.args.end.now) Ended.WireFault log text)
    (λ log rest k. subst (λ t. E.tells t Ended.WireFault log text) (c.gather_some.ensures.terms ∙ c.loop.invariant.terms)
    (g.met.E.End.stops c.gather_some.new.end log rest text Ended.WireFault tt k))
    (g.W.Wires.state c.loop.wires c.args.link).log (g.W.Wires.state c.write_link-written.new.wires c.args.link).log w.front.wrote.more w.front.front w.front.rest w.front.octets_are w.front.wrote.logs w.front.wrote.writes (c.loop.invariant.stands text s)

pub returns-then-not-is_more-clause-said : goal.returns-then-not-is_more-clause-said
returns-then-not-is_more-clause-said g c text s =
    let E = g.E.End in
    let w = c.in-Ok-written.ensures in
    wrote-stands (λ log octets. E.stands c.loop.end log octets text) (λ log octets. E.stands c.gather_some.new.end log octets text) c.as_slice.result.now
    (λ log k. subst (λ octets. E.stands c.gather_some.new.end log octets text) (sym c.as_slice.ensures)
    (c.in-Ok.ensures.said log text (subst (λ octets. E.stands c.loop.end log octets text) (sym c.loop.invariant.empty) k)))
    (λ log front rest k. g.met.E.End.writes c.gather_some.new.end log front rest text k)
    (g.W.Wires.state c.loop.wires c.args.link).log (g.W.Wires.state c.write_link-written.new.wires c.args.link).log w.wrote.more w.wrote.logs w.wrote.writes (c.loop.invariant.stands text s)

pub returns-in-Err-clause-same_reads : goal.returns-in-Err-clause-same_reads
returns-in-Err-clause-same_reads g c =
    let w = c.in-Err.ensures in
    let W = g.W.Wires in
    let now = W.state c.loop.wires c.args.link in
    let next = W.state c.write_link-written.new.wires c.args.link in
    SameReads-trans _ now next c.loop.invariant.same_reads
    (SameReads-wrote c.args.link now next (W.story c.loop.wires) (W.story c.write_link-written.new.wires) w.front.front w.front.wrote w.end w.counted)

pub returns-then-not-is_more-clause-same_reads : goal.returns-then-not-is_more-clause-same_reads
returns-then-not-is_more-clause-same_reads g c =
    let w = c.in-Ok-written.ensures in
    let W = g.W.Wires in
    let now = W.state c.loop.wires c.args.link in
    let next = W.state c.write_link-written.new.wires c.args.link in
    SameReads-trans _ now next c.loop.invariant.same_reads
    (SameReads-wrote c.args.link now next (W.story c.loop.wires) (W.story c.write_link-written.new.wires) c.as_slice.result.now w.wrote w.end w.counted)

pub returns-in-Err-clause-writes : goal.returns-in-Err-clause-writes
returns-in-Err-clause-writes g c =
    let w = c.in-Err.ensures.front.wrote in
    grew-more (g.W.Wires.state c.args.wires.now c.args.link).log (g.W.Wires.state c.loop.wires c.args.link).log (g.W.Wires.state c.write_link-written.new.wires c.args.link).log w.more c.in-Err.ensures.front.front c.loop.invariant.writes w.logs w.writes

pub returns-then-not-is_more-clause-writes : goal.returns-then-not-is_more-clause-writes
returns-then-not-is_more-clause-writes g c =
    let w = c.in-Ok-written.ensures.wrote in
    grew-more (g.W.Wires.state c.args.wires.now c.args.link).log (g.W.Wires.state c.loop.wires c.args.link).log (g.W.Wires.state c.write_link-written.new.wires c.args.link).log w.more c.as_slice.result.now c.loop.invariant.writes w.logs w.writes

pub loop-preserved : goal.loop-preserved
loop-preserved g c =
    let w = c.in-Ok-written.ensures in
    let W = g.W.Wires in
    let E = g.E.End in
    let now = W.state c.loop.wires c.args.link in
    let next = W.state c.write_link-written.new.wires c.args.link in
    record {
      empty = c.clear-in-loop.ensures.emptied;
      terms = c.gather_some.ensures.terms ∙ c.loop.invariant.terms;
      stands = λ text s. wrote-stands (λ log octets. E.stands c.loop.end log octets text) (λ log octets. E.stands c.gather_some.new.end log octets text) c.as_slice.result.now
          (λ log k. subst (λ octets. E.stands c.gather_some.new.end log octets text) (sym c.as_slice.ensures)
          (c.in-Ok.ensures.said log text (subst (λ octets. E.stands c.loop.end log octets text) (sym c.loop.invariant.empty) k)))
          (λ log front rest k. g.met.E.End.writes c.gather_some.new.end log front rest text k)
          (g.W.Wires.state c.loop.wires c.args.link).log (g.W.Wires.state c.write_link-written.new.wires c.args.link).log w.wrote.more w.wrote.logs w.wrote.writes (c.loop.invariant.stands text s);
      unfailed = w.unfailed ∙ c.loop.invariant.unfailed;
      keeps = Keeps-wrote c.args.link _ _ _ c.loop.invariant.keeps w.still_open w.kept w.others w.same_counts w.same_asked w.same_lent;
      writes = grew-more _ now.log next.log w.wrote.more c.as_slice.result.now c.loop.invariant.writes w.wrote.logs w.wrote.writes;
      same_counts = w.same_counts ∙ c.loop.invariant.same_counts;
      same_reads = SameReads-trans _ now next c.loop.invariant.same_reads
          (SameReads-wrote c.args.link now next (W.story c.loop.wires) (W.story c.write_link-written.new.wires) c.as_slice.result.now w.wrote w.end w.counted);
    }
