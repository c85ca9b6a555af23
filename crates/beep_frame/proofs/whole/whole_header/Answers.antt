-- The parts are those of a header.
use Rattle.std.proofs.Common.{arith}
use Rattle.beep_frame.specs.Frame.{head_of}
use Rattle.beep_frame.proofs.HeaderLemmas.{header_read}
use Rattle.beep_frame.proofs.whole.whole_header.Goals as goal

pub returns : goal.returns
returns c =
    let channel = c.in_ok-channel.ensures in
    let msgno = c.in_ok-msgno.ensures in
    let seqno = c.in_ok-seqno.ensures in
    let size = c.in_ok-size.ensures in
    let seqno_fits = seqno.0 in (
      record { channel = channel.0; msgno = msgno.0; seqno = omega (arith, seqno_fits); size = size.0; ansno = size.1 },
      header_read (head_of c.in_ok-kind.kind c.in_ok-channel.channel c.in_ok-msgno.msgno c.in_ok-more.more c.in_ok-seqno.seqno c.in_ok-size.size c.in_ok-size.ansno) c.args.bytes.now
          c.in_ok-kind.rest.now c.in_ok-channel.rest.now c.in_ok-msgno.rest.now c.in_ok-more.rest.now c.in_ok-seqno.rest.now c.in_ok-size.rest.now
          c.in_ok-kind.ensures channel.1 msgno.1 c.in_ok-more.ensures seqno.1 size.2,
    )
