use Rattle.beep_frame.proofs.LawLemmas.{means}
use Rattle.beep_frame.proofs.laws.what_a_decoder_read_is_the_stream.Goals as goal

pub returns : goal.returns
returns c = λ fed. means c.args.decoder.now fed.octets fed.frames fed.rest fed.head
