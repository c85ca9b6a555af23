-- A message that is settled has passed, or its last octet broke a rule.
use Rattle.std.proofs.Common.{◌≡◌, false, true, [], refl, ap, Err}
use Rattle.beep_session.specs.beep_frame.specs.Frame.{is_msg}
use Rattle.beep_session.specs.beep_history.specs.declared.journal.Side.{Side}
use Rattle.beep_session.specs.beep_journal.specs.Zero.{zero_history, completes_form}
use Rattle.beep_steps.proofs.CallLemmas.{settles-logged, settles-on, fault-on, unreleased-waiting}
use Rattle.beep_steps.proofs.EndsLemmas.{waiting-ends}
use Rattle.beep_steps.proofs.GoLemmas.{settled-so}
use Rattle.beep_steps.proofs.OnLemmas.{fault-goes-on}
use Rattle.beep_steps.proofs.RefusesLemmas.{formless-unrefused, settles-so}
use Rattle.beep_steps.proofs.SettleScripts.{settles-scripting}
use Rattle.beep_steps.proofs.SettleSends.{oldest-waits, settles-sending}
use Rattle.beep_steps.proofs.ServeCalls.{settles-serving}
use Rattle.beep_session.specs.Lawfully.{terms_of}
use Rattle.beep_steps.proofs.ServeLemmas.{shows-served}
use Rattle.beep_steps.proofs.SpeakSettles.{settles-speaking}
use Rattle.beep_steps.proofs.DeskAnswers.{settles-desk}
use Rattle.beep_steps.proofs.AskedSettles.{settled-asks}
use Rattle.beep_steps.proofs.DeskSends.{settles-asking}
use Rattle.beep_steps.proofs.hearing.settle_message.Goals as goal

pub returns-in-Ok-clause-settled : goal.returns-in-Ok-clause-settled
returns-in-Ok-clause-settled c log w =
    let e = c.in-Ok.ensures in
    settles-on c.args.session.now c.settle.new.self e.same log w (e.ok w.fed w.journal w.given w.taken w.head w.payload w.waits)
    (e.upright w.fed w.journal w.given w.taken w.head w.payload w.waits w.upright)
    (λ reply. e.fits w.fed w.journal w.given w.taken w.head w.payload w.waits reply refl)

pub returns-in-Ok-clause-serving : goal.returns-in-Ok-clause-serving
returns-in-Ok-clause-serving c plan log w =
    let e = c.in-Ok.ensures in
    let o = w.on in
    settles-serving plan c.args.session.now c.settle.new.self e.same log w c.in-Ok.settled _ refl
    (λ is. e.asked o.fed o.journal o.given o.taken o.head o.payload o.waits is)
    (λ is. e.answered o.fed o.journal o.given o.taken o.head o.payload o.waits is)
    (e.upright o.fed o.journal o.given o.taken o.head o.payload o.waits o.upright)
    (λ reply. e.fits o.fed o.journal o.given o.taken o.head o.payload o.waits reply refl)

pub returns-in-Err-Broken-clause-stopped : goal.returns-in-Err-Broken-clause-stopped
returns-in-Err-Broken-clause-stopped c log octets w =
    let k = c.in-Err-Broken in
    fault-goes-on (terms_of c.args.session.now) k.rule k.place octets log
    (fault-on c.args.session.now c.settle.new.self k.ensures.same log w k.rule k.place (k.ensures.broken w.fed w.journal w.given w.taken w.head w.payload k.rule k.place w.waits (ap Err k.field-0-is)))

pub returns-in-Ok-clause-sending : goal.returns-in-Ok-clause-sending
returns-in-Ok-clause-sending c plan p log w =
    let e = c.in-Ok.ensures in
    let o = w.on in
    settles-sending plan p c.args.session.now c.settle.new.self e.same log w c.in-Ok.settled _
    (λ is. e.asked o.fed o.journal o.given o.taken o.head o.payload o.waits is)
    (λ is. e.answered o.fed o.journal o.given o.taken o.head o.payload o.waits is)
    (e.upright o.fed o.journal o.given o.taken o.head o.payload o.waits o.upright)
    (λ reply. e.fits o.fed o.journal o.given o.taken o.head o.payload o.waits reply refl)

pub returns-in-Ok-clause-scripted : goal.returns-in-Ok-clause-scripted
returns-in-Ok-clause-scripted c plan p log w =
    let e = c.in-Ok.ensures in
    let o = w.sends.on in
    settles-scripting plan p c.args.session.now c.settle.new.self e.same log w c.in-Ok.settled _
    (λ is. e.asked o.fed o.journal o.given o.taken o.head o.payload o.waits is)
    (λ is. e.answered o.fed o.journal o.given o.taken o.head o.payload o.waits is)
    (e.upright o.fed o.journal o.given o.taken o.head o.payload o.waits o.upright)
    (λ reply. e.fits o.fed o.journal o.given o.taken o.head o.payload o.waits reply refl)

pub returns-in-Ok-clause-done : goal.returns-in-Ok-clause-done
returns-in-Ok-clause-done c log w =
    let e = c.in-Ok.ensures in
    let old = c.args.session.now in
    let m = e.ok w.fed w.journal w.given w.taken w.head w.payload w.waits in
    let fits : is_msg w.head.kind ≡ false → completes_form Side.Received w.head w.payload (zero_history w.journal) ≡ true = λ reply. e.fits w.fed w.journal w.given w.taken w.head w.payload w.waits reply refl in
    settled-so old c.settle.new.self log w
    (settles-on old c.settle.new.self e.same log w m (e.upright w.fed w.journal w.given w.taken w.head w.payload w.waits w.upright) fits)
    (settles-logged old log w fits) m

pub returns-in-Err-Broken-clause-ends : goal.returns-in-Err-Broken-clause-ends
returns-in-Err-Broken-clause-ends c log octets w =
    let k = c.in-Err-Broken in
    let old = c.args.session.now in
    let h = k.ensures.broken w.fed w.journal w.given w.taken w.head w.payload k.rule k.place w.waits (ap Err k.field-0-is) in
    waiting-ends old log w h.2 h.3 (unreleased-waiting old c.settle.new.self k.ensures.same log w) octets

pub returns-in-Err-Broken-clause-unrefusing : goal.returns-in-Err-Broken-clause-unrefusing
returns-in-Err-Broken-clause-unrefusing c closing log octets w u =
    let k = c.in-Err-Broken in
    let old = c.args.session.now in
    let h = k.ensures.broken w.fed w.journal w.given w.taken w.head w.payload k.rule k.place w.waits (ap Err k.field-0-is) in
    formless-unrefused old log w h.2 h.3 (unreleased-waiting old c.settle.new.self k.ensures.same log w) closing u octets

pub returns-in-Ok-clause-speaking : goal.returns-in-Ok-clause-speaking
returns-in-Ok-clause-speaking c plan notes log serving w =
    let e = c.in-Ok.ensures in
    let o = w.on in
    let new = c.settle.new.self in
    settles-speaking plan notes c.args.session.now new e.same log w c.in-Ok.settled _ refl
    (λ is. e.asked o.fed o.journal o.given o.taken o.head o.payload o.waits is)
    (λ is. e.answered o.fed o.journal o.given o.taken o.head o.payload o.waits is)
    (λ is one at. e.replied o.fed o.journal o.given o.taken o.head o.payload one o.waits is at)
    (λ reply. e.fits o.fed o.journal o.given o.taken o.head o.payload o.waits reply refl)
    (e.upright o.fed o.journal o.given o.taken o.head o.payload o.waits o.upright)
    (shows-served plan new [] log (returns-in-Ok-clause-serving c plan log serving))

pub returns-in-Ok-clause-refuses : goal.returns-in-Ok-clause-refuses
returns-in-Ok-clause-refuses c command closing log w u =
    let e = c.in-Ok.ensures in
    let old = c.args.session.now in
    settles-so old log w command closing c.in-Ok.settled u c.settle.new.self old.offers (returns-in-Ok-clause-done c log w)
    (λ is. e.decided w.fed w.journal w.given w.taken w.head w.payload w.waits is)
    (λ reply. e.fits w.fed w.journal w.given w.taken w.head w.payload w.waits reply refl)
    (λ is one at. e.replied w.fed w.journal w.given w.taken w.head w.payload one w.waits is at)
    (λ is. oldest-waits old log w is (e.fits w.fed w.journal w.given w.taken w.head w.payload w.waits is refl))

pub returns-in-Ok-clause-desk : goal.returns-in-Ok-clause-desk
returns-in-Ok-clause-desk c plan notes log serving w d taken =
    let e = c.in-Ok.ensures in
    let o = d.on in
    let new = c.settle.new.self in
    settles-desk plan notes c.args.session.now new e.same log d c.in-Ok.settled (returns-in-Ok-clause-speaking c plan notes log serving w)
    ((returns-in-Ok-clause-done c log d.on).taken taken) (shows-served plan new [] log (returns-in-Ok-clause-serving c plan log serving))
    (λ is. e.asked o.fed o.journal o.given o.taken o.head o.payload o.waits is)
    (λ is. e.answered o.fed o.journal o.given o.taken o.head o.payload o.waits is)
    (λ reply. e.fits o.fed o.journal o.given o.taken o.head o.payload o.waits reply refl)
    (e.upright o.fed o.journal o.given o.taken o.head o.payload o.waits o.upright) e.stuck

pub returns-in-Ok-clause-asking : goal.returns-in-Ok-clause-asking
returns-in-Ok-clause-asking c plan p log x d =
    let e = c.in-Ok.ensures in
    let o = d.on in
    settles-asking plan p c.args.session.now c.settle.new.self e.same log d c.in-Ok.settled (returns-in-Ok-clause-scripted c plan p log x)
    (λ is. e.asked o.fed o.journal o.given o.taken o.head o.payload o.waits is)
    (λ is. e.answered o.fed o.journal o.given o.taken o.head o.payload o.waits is)
    (λ reply. e.fits o.fed o.journal o.given o.taken o.head o.payload o.waits reply refl)
    (e.upright o.fed o.journal o.given o.taken o.head o.payload o.waits o.upright) e.stuck

pub returns-in-Ok-clause-asks : goal.returns-in-Ok-clause-asks
returns-in-Ok-clause-asks c plan p log w =
    let e = c.in-Ok.ensures in
    let o = w.on in
    settled-asks plan p c.args.session.now log w _ c.in-Ok.settled
    (λ is. e.decided o.fed o.journal o.given o.taken o.head o.payload o.waits is)
    (λ reply. e.fits o.fed o.journal o.given o.taken o.head o.payload o.waits reply refl)
    (λ is one at. e.replied o.fed o.journal o.given o.taken o.head o.payload one o.waits is at)
    (λ is. oldest-waits c.args.session.now log o is (e.fits o.fed o.journal o.given o.taken o.head o.payload o.waits is refl))

pub returns-in-Ok-clause-settles : goal.returns-in-Ok-clause-settles
returns-in-Ok-clause-settles c log w =
    let e = c.in-Ok.ensures in
    record {
      asked = λ is. e.decided w.fed w.journal w.given w.taken w.head w.payload w.waits is;
      answered = λ is one at. e.replied w.fed w.journal w.given w.taken w.head w.payload one w.waits is at;
    }
