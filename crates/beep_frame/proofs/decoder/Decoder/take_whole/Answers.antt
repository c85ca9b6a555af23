use Rattle.std.proofs.Common.{sym, subst}
use Rattle.beep_frame.specs.Decoding.{WasFed}
use Rattle.beep_frame.proofs.TakeLemmas.{takes}
use Rattle.beep_frame.proofs.decoder.Decoder.take_whole.Goals as goal

pub returns-clause-frame : goal.returns-clause-frame
returns-clause-frame c = λ fed s.
    let old = subst (λ d. WasFed d fed) (sym c.self.view_is) s in
    takes _ c.take_whole.new.self fed c.args.bytes.now c.in_ok-count.count c.in_ok-count.payload.now old c.in_ok-count.ensures.some
