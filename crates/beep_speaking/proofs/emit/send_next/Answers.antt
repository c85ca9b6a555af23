use Rattle.std.proofs.Common.{◌++◌, List, ℕ, length, ap, ◌∙◌, arith}
use Rattle.beep_standing.specs.beep_frame.specs.Frame.{framed}
use Rattle.beep_standing.specs.beep_frame.specs.Spelling.{spelling}
use Rattle.beep_speaking.proofs.SendLemmas.{sized}
use Rattle.beep_speaking.proofs.emit.send_next.Goals as goal

-- the octets that were cut
cut-size : goal.spell-requires-clause-size
cut-size c =
    let s = c.in-Some.ensures.some in
    ap length (c.as_slice.ensures ∙ s.1 ∙ ap (λ (l : List ℕ). l ++ s.0) c.clear.ensures.emptied)
    ∙ sized c.args.most c.in-Some.head s.0 c.args.lives.now c.cut.new.self c.requires.reached s.2

pub spell-requires-clause-size : goal.spell-requires-clause-size
spell-requires-clause-size c = cut-size c

pub spell-requires-clause-room : goal.spell-requires-clause-room
spell-requires-clause-room c =
    let size = cut-size c in
    let within = c.in-Some.ensures.within in
    omega (arith, size, within, c.requires.room)

pub returns-clause-some : goal.returns-clause-some
returns-clause-some c =
    let s = c.in-Some.ensures.some in
    let octets = c.as_slice.ensures ∙ s.1 ∙ ap (λ (l : List ℕ). l ++ s.0) c.clear.ensures.emptied in
    record {
      payload = s.0;
      sized = sized c.args.most c.in-Some.head s.0 c.args.lives.now c.cut.new.self c.requires.reached s.2;
      first = c.in-Some.ensures.first;
      sends = s.2;
      spelled = c.spell.ensures.appended ∙ ap (λ (l : List ℕ). c.args.out.now.octets ++ spelling (framed c.in-Some.head l)) octets;
    }
