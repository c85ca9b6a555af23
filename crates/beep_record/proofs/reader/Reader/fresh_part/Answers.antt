use Rattle.std.proofs.Common.{◌+◌, ◌<◌, ◌≤◌, [], ◌∷◌, refl, ap, arith, length, take}
use Rattle.beep_record.specs.declared.limits.TheConstants.{MAX_ENTRY}
use Rattle.beep_record.specs.Reading.{state_of, with_piece}
use Rattle.beep_record.proofs.RunLemmas.{plain-goes, octet-went, piece-went}
use Rattle.beep_record.proofs.reader.Reader.fresh_part.Goals as goal

pub returns-clause-went : goal.returns-clause-went
returns-clause-went c =
    plain-goes c.plain.result (state_of c.args.self.now) (state_of c.plain.new.self) c.args.side c.args.octets.now c.requires
    c.plain.ensures.within c.plain.ensures.plain c.plain.ensures.room c.plain.ensures.kept

pub returns-in-Some-clause-went : goal.returns-in-Some-clause-went
returns-in-Some-clause-went c =
    let piece = c.args.self.now.piece.octets in
    let octet = c.in-Some.octet in
    let room : length piece < MAX_ENTRY = omega (arith, c.len-2.ensures) in
    let small : octet < 256 = omega arith in
    let new = state_of (record c.args.self.now { piece = c.extend-in-Some.new.self }) in
    octet-went (state_of c.args.self.now) new c.args.side octet (take 2 c.args.octets.now) c.requires room small c.in-Some.ensures.text
    (ap (with_piece (state_of c.args.self.now)) c.in_ok-extend-2.ensures.appended)

pub returns-then-is_line_end-clause-went : goal.returns-then-is_line_end-clause-went
returns-then-is_line_end-clause-went c =
    let piece = c.args.self.now.piece.octets in
    let room : length piece + 2 ≤ MAX_ENTRY = omega (arith, c.len.ensures) in
    let new = state_of (record c.args.self.now { piece = c.extend.new.self }) in
    piece-went (state_of c.args.self.now) new c.args.side (13 ∷ 10 ∷ []) (take 4 c.args.octets.now) c.requires refl room (c.is_line_end.ensures.text c.if-is_line_end.true)
    (ap (with_piece (state_of c.args.self.now)) c.in_ok-extend.ensures.appended)
