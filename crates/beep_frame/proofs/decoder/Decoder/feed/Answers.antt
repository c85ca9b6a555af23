use Rattle.std.proofs.Common.{arith, sym, subst}
use Rattle.beep_frame.specs.Decoding.{WasFed}
use Rattle.beep_frame.proofs.PayloadLemmas.{decodes}
use Rattle.beep_frame.proofs.decoder.Decoder.feed.Goals as goal

pub returns-clause-decodes : goal.returns-clause-decodes
returns-clause-decodes c = λ fed s.
    let old = subst (λ d. WasFed d fed) (sym c.self.view_is) s in
    decodes _ c.keep.new.self c.feed-count.new.self fed.octets fed.frames fed.rest fed.head old c.args.bytes.now c.feed-count.result.0 c.min.result c.feed-count.ensures.within (omega (arith, c.min.ensures, c.wanted-wanted.ensures)) c.feed-count.ensures.kept c.feed-count.result.1 c.keep.ensures (c.feed-count.ensures.decodes fed old.tracks)
