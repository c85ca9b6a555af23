-- What the channels let go out joins the journal, and is done.
use Rattle.std.proofs.Common.{List, sym, ◌∙◌, subst, arith}
use Rattle.beep_upright.specs.beep_channel.specs.Held.{Live}
use Rattle.beep_upright.specs.beep_speaking.specs.declared.emit.Emit.{Emit}
use Rattle.beep_upright.specs.beep_speaking.specs.Emits.{Emits}
use Rattle.beep_peer.specs.Calls.{Speaks}
use Rattle.beep_peer.specs.Waiting.{IsStuck}
use Rattle.beep_peer.proofs.StuckLemmas.{stuck-told}
use Rattle.beep_peer.proofs.FallLemmas.{sent-left, told-left}
use Rattle.beep_peer.proofs.SpeakLemmas.{data-speaks, seq-speaks, nothing-speaks, has-sent, sent-reached, lives-reached}
use Rattle.beep_peer.specs.Lawfully.{SpeaksLawfully}
use Rattle.beep_peer.proofs.LawfulLemmas.{seq-lawfully, data-lawfully, nothing-lawfully}
use Rattle.beep_peer.proofs.GoesLemmas.{goes-uprightly}
use Rattle.beep_upright.specs.Frames.{IsFramed}
use Rattle.beep_upright.proofs.BoundLemmas.{head-bound, seq-bound}
use Rattle.beep_peer.proofs.speech.speak.Goals as goal

pub emit_next-emitted-requires-clause-reached : goal.emit_next-emitted-requires-clause-reached
emit_next-emitted-requires-clause-reached c = lives-reached c.args.peer.now c.requires.going

pub gone-requires : goal.gone-requires
gone-requires c = record {
  sent = sent-reached c.args.most c.in-Data.head c.args.peer.now c.emit_next-emitted.new.lives c.args.out.now.octets c.emit_next-emitted.new.out.octets
      c.in-Data.ensures.emits.1 c.requires.going;
}

pub returns-in-Data-clause-speaks : goal.returns-in-Data-clause-speaks
returns-in-Data-clause-speaks c = λ size fed rest journal given taken s.
    let w = c.in-Data.ensures.emits.1 in
    data-speaks size c.args.most fed rest journal given taken c.args.peer.now c.emit_next-emitted.new.lives c.args.out.now.octets c.emit_next-emitted.new.out.octets s
    c.in-Data.head c.gone.new.peer w
    (c.gone.ensures.sent size fed rest journal given taken w.payload
    (has-sent size c.args.most fed rest journal given taken c.args.peer.now c.emit_next-emitted.new.lives c.args.out.now.octets c.emit_next-emitted.new.out.octets s c.in-Data.head w)
    s.hears s.released)

pub returns-in-Seq-clause-speaks : goal.returns-in-Seq-clause-speaks
returns-in-Seq-clause-speaks c = λ size fed rest journal given taken s.
    let before = c.args.out.now.octets in
    let after = c.emit_next-emitted.new.out.octets in
    let new = c.emit_next-emitted.new.lives in
    let greeted = c.is_greeted-greeted.result in
    subst (λ (e : Emit). Speaks e size c.args.most fed rest journal given taken c.args.peer.now (record c.args.peer.now { lives = new }) before after) (sym c.in-Seq.is)
    (seq-speaks size c.args.most fed rest journal given taken c.args.peer.now new before after s c.in-Seq.field-0 greeted
    (subst (λ (e : Emit). Emits c.args.most greeted e c.args.peer.now.lives new before after) c.in-Seq.is c.emit_next-emitted.ensures.emits))

pub returns-in-Nothing-clause-speaks : goal.returns-in-Nothing-clause-speaks
returns-in-Nothing-clause-speaks c = λ size fed rest journal given taken s.
    let before = c.args.out.now.octets in
    let after = c.emit_next-emitted.new.out.octets in
    let new = c.emit_next-emitted.new.lives in
    let greeted = c.is_greeted-greeted.result in
    subst (λ (e : Emit). Speaks e size c.args.most fed rest journal given taken c.args.peer.now (record c.args.peer.now { lives = new }) before after) (sym c.in-Nothing.is)
    (nothing-speaks size c.args.most fed rest journal given taken c.args.peer.now new before after s greeted
    (subst (λ (e : Emit). Emits c.args.most greeted e c.args.peer.now.lives new before after) c.in-Nothing.is c.emit_next-emitted.ensures.emits) c.is_greeted-greeted.ensures)

pub returns-in-Seq-clause-stuck : goal.returns-in-Seq-clause-stuck
returns-in-Seq-clause-stuck c head is = absurd (cc (sym c.in-Seq.is ∙ is))

pub returns-in-Seq-clause-still : goal.returns-in-Seq-clause-still
returns-in-Seq-clause-still c =
    let tells : Emits c.args.most c.is_greeted-greeted.result (Emit.Seq c.in-Seq.field-0) c.args.peer.now.lives c.emit_next-emitted.new.lives c.args.out.now.octets
    c.emit_next-emitted.new.out.octets = subst (λ (e : Emit). Emits c.args.most c.is_greeted-greeted.result e c.args.peer.now.lives c.emit_next-emitted.new.lives
    c.args.out.now.octets c.emit_next-emitted.new.out.octets) c.in-Seq.is c.emit_next-emitted.ensures.emits in
    stuck-told c.in-Seq.field-0 c.args.peer.now.lives c.emit_next-emitted.new.lives tells.1.tells c.args.peer.now.management

pub returns-in-Nothing-clause-stuck : goal.returns-in-Nothing-clause-stuck
returns-in-Nothing-clause-stuck c head is = absurd (cc (sym c.in-Nothing.is ∙ is))

pub returns-in-Nothing-clause-still : goal.returns-in-Nothing-clause-still
returns-in-Nothing-clause-still c stuck =
    let none : Emits c.args.most c.is_greeted-greeted.result Emit.Nothing c.args.peer.now.lives c.emit_next-emitted.new.lives c.args.out.now.octets
    c.emit_next-emitted.new.out.octets = subst (λ (e : Emit). Emits c.args.most c.is_greeted-greeted.result e c.args.peer.now.lives c.emit_next-emitted.new.lives
    c.args.out.now.octets c.emit_next-emitted.new.out.octets) c.in-Nothing.is c.emit_next-emitted.ensures.emits in
    subst (λ (cs : List Live). IsStuck cs c.args.peer.now.management) (sym none.2) stuck

pub returns-in-Data-clause-falls : goal.returns-in-Data-clause-falls
returns-in-Data-clause-falls c some =
    let w = c.in-Data.ensures.emits.1 in
    let less = sent-left c.args.peer.now.lives c.emit_next-emitted.new.lives (lives-reached c.args.peer.now c.requires.going) c.args.most c.in-Data.head w.payload c.requires.least w.sends in
    omega (arith, c.gone.ensures.falls, less)

pub returns-in-Seq-clause-falls : goal.returns-in-Seq-clause-falls
returns-in-Seq-clause-falls c some =
    let tells : Emits c.args.most c.is_greeted-greeted.result (Emit.Seq c.in-Seq.field-0) c.args.peer.now.lives c.emit_next-emitted.new.lives c.args.out.now.octets
    c.emit_next-emitted.new.out.octets = subst (λ (e : Emit). Emits c.args.most c.is_greeted-greeted.result e c.args.peer.now.lives c.emit_next-emitted.new.lives
    c.args.out.now.octets c.emit_next-emitted.new.out.octets) c.in-Seq.is c.emit_next-emitted.ensures.emits in
    let less = told-left c.args.peer.now.lives c.emit_next-emitted.new.lives (lives-reached c.args.peer.now c.requires.going) c.in-Seq.field-0 tells.1.tells in
    omega (arith, less)

pub returns-in-Nothing-clause-falls : goal.returns-in-Nothing-clause-falls
returns-in-Nothing-clause-falls c some = absurd (some c.in-Nothing.is)

pub returns-in-Data-clause-lawful : goal.returns-in-Data-clause-lawful
returns-in-Data-clause-lawful c = λ terms fed rest journal given taken piece fits going s.
    let w = c.in-Data.ensures.emits.1 in
    data-lawfully terms fed rest journal given taken c.args.peer.now s c.args.most c.emit_next-emitted.new.lives c.args.out.now.octets c.emit_next-emitted.new.out.octets going
    c.in-Data.head c.gone.new.peer w piece fits
    (c.gone.ensures.sent terms.window fed rest journal given taken w.payload
    (has-sent terms.window c.args.most fed rest journal given taken c.args.peer.now c.emit_next-emitted.new.lives c.args.out.now.octets c.emit_next-emitted.new.out.octets s.stands c.in-Data.head w)
    s.stands.hears s.stands.released)
    (c.gone.ensures.upright terms journal given taken w.payload
    (has-sent terms.window c.args.most fed rest journal given taken c.args.peer.now c.emit_next-emitted.new.lives c.args.out.now.octets c.emit_next-emitted.new.out.octets s.stands c.in-Data.head w)
    (goes-uprightly terms c.args.most journal given taken c.args.peer.now.lives c.emit_next-emitted.new.lives c.in-Data.head w.payload c.args.peer.now.management s.stands.holds.live w.sends
    s.stands.holds.manages s.upright))

pub returns-in-Seq-clause-lawful : goal.returns-in-Seq-clause-lawful
returns-in-Seq-clause-lawful c = λ terms fed rest journal given taken piece fits going s.
    let before = c.args.out.now.octets in
    let after = c.emit_next-emitted.new.out.octets in
    let new = c.emit_next-emitted.new.lives in
    let greeted = c.is_greeted-greeted.result in
    subst (λ (e : Emit). SpeaksLawfully e terms fed rest journal given taken c.args.peer.now (record c.args.peer.now { lives = new }) before after) (sym c.in-Seq.is)
    (seq-lawfully terms fed rest journal given taken c.args.peer.now s c.args.most new before after going c.in-Seq.field-0 greeted c.is_greeted-greeted.ensures
    (subst (λ (e : Emit). Emits c.args.most greeted e c.args.peer.now.lives new before after) c.in-Seq.is c.emit_next-emitted.ensures.emits))

pub returns-in-Nothing-clause-lawful : goal.returns-in-Nothing-clause-lawful
returns-in-Nothing-clause-lawful c = λ terms fed rest journal given taken piece fits going s.
    let before = c.args.out.now.octets in
    let after = c.emit_next-emitted.new.out.octets in
    let new = c.emit_next-emitted.new.lives in
    let greeted = c.is_greeted-greeted.result in
    subst (λ (e : Emit). SpeaksLawfully e terms fed rest journal given taken c.args.peer.now (record c.args.peer.now { lives = new }) before after) (sym c.in-Nothing.is)
    (nothing-lawfully terms fed rest journal given taken c.args.peer.now s c.args.most new before after greeted
    (subst (λ (e : Emit). Emits c.args.most greeted e c.args.peer.now.lives new before after) c.in-Nothing.is c.emit_next-emitted.ensures.emits))

pub returns-in-Data-clause-framed : goal.returns-in-Data-clause-framed
returns-in-Data-clause-framed c = λ terms fed rest journal given taken fits wide s are.
    let w = c.in-Data.ensures.emits.1 in
    head-bound terms c.args.most journal given taken c.args.peer.now.lives c.emit_next-emitted.new.lives c.in-Data.head w.payload s.stands.holds.live w.sends s.lawful are fits

pub returns-in-Seq-clause-framed : goal.returns-in-Seq-clause-framed
returns-in-Seq-clause-framed c = λ terms fed rest journal given taken fits wide s are.
    let before = c.args.out.now.octets in
    let after = c.emit_next-emitted.new.out.octets in
    let new = c.emit_next-emitted.new.lives in
    let tells : Emits c.args.most c.is_greeted-greeted.result (Emit.Seq c.in-Seq.field-0) c.args.peer.now.lives new before after =
    subst (λ (e : Emit). Emits c.args.most c.is_greeted-greeted.result e c.args.peer.now.lives new before after) c.in-Seq.is c.emit_next-emitted.ensures.emits in
    subst IsFramed (sym c.in-Seq.is) (seq-bound terms journal given taken c.args.peer.now.lives new c.in-Seq.field-0 s.stands.holds.live tells.1.tells s.lawful wide)

pub returns-in-Nothing-clause-framed : goal.returns-in-Nothing-clause-framed
returns-in-Nothing-clause-framed c = λ terms fed rest journal given taken fits wide s are. subst IsFramed (sym c.in-Nothing.is) tt
