use Rattle.std.proofs.Common.{ap, sym, ◌∙◌, subst}
use Rattle.beep_frame.specs.Tracks.{TrackerState, Tracks}
use Rattle.beep_frame.proofs.DecodeLemmas.{decodes_as, max-after_found}
use Rattle.beep_frame.proofs.tracker.Tracker.feed.Goals as goal

pub returns-clause-decodes : goal.returns-clause-decodes
returns-clause-decodes c = λ fed s.
    let old = subst (λ d. Tracks d fed) (sym c.self.view_is) s in
    decodes_as _ c.find-count.new.place c.find-count.new.line c.find-count.result.0 c.args.bytes.now fed.octets fed.frames fed.rest fed.head old c.find-count.ensures.within c.find-count.result.1 c.answer.result c.answer.new.self c.answer.ensures.step c.answer.ensures.after (c.find-count.ensures.found fed.rest fed.head old.at)

pub returns-clause-kept : goal.returns-clause-kept
returns-clause-kept c =
    ap (λ (d : TrackerState). d.max) c.answer.ensures.after ∙ max-after_found _ c.find-count.result.1 ∙ ap (λ (d : TrackerState). d.max) c.self.view_is
