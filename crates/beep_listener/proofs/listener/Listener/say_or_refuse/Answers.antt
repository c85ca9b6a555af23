-- What was said joins what is to be written, and what is refused then leaves that.
use Rattle.std.proofs.Common.{◌≡◌, ◌∙◌, ap, false, rules}
use Rattle.beep_steps.specs.beep_journal.specs.Log.{put_all}
use Rattle.beep_steps.specs.Resting.{HoldsStill}
use Rattle.beep_steps.proofs.OnLemmas.{ok-map}
use Rattle.beep_listener.proofs.HearLemmas.{listens-as}
use Rattle.beep_listener.proofs.ListenLemmas.{same-plan}
use Rattle.beep_listener.proofs.RefusingLemmas.{stays-unrefused}
use Rattle.beep_listener.proofs.RestingLemmas.{on-ok, rests-then}
use Rattle.beep_listener.specs.Speaking.{RepliesOn, SaysOn, notes_of}
use Rattle.beep_listener.proofs.listener.Listener.say_or_refuse.Goals as goal

pub returns-clause-listens : goal.returns-clause-listens
returns-clause-listens c log text l =
    let m = c.say.new.self in
    let n = c.refill.new.self in
    let f = c.refill.ensures in
    listens-as m.session m.bodies m.lines.octets.octets text (put_all c.say.new.out.octets log) (c.say.ensures.listens log text l) n.session n.bodies n.lines.octets.octets f.stays f.bodies
    (ap (λ x. x.octets.octets) f.lines)

pub returns-clause-serving : goal.returns-clause-serving
returns-clause-serving c plan log s = c.refill.ensures.serving plan (put_all c.say.new.out.octets log) (c.say.ensures.serving plan log s)

pub returns-clause-speaking : goal.returns-clause-speaking
returns-clause-speaking c plan log v t s =
    on-ok c.refill.result _ (c.refill.ensures.speaking plan (put_all c.say.new.out.octets log) (c.in_ok-say.ensures.speaking plan log v t s))

pub returns-clause-unrefused : goal.returns-clause-unrefused
returns-clause-unrefused c log u =
    stays-unrefused c.say.new.self.session c.refill.new.self.session (put_all c.say.new.out.octets log) c.refill.ensures.stays (c.say.ensures.unrefused log u)

pub returns-clause-plan : goal.returns-clause-plan
returns-clause-plan c =
    let k = c.refill.ensures.stays in
    same-plan c.say.new.self.session c.refill.new.self.session k.terms k.offers ∙ c.say.ensures.plan

pub returns-clause-lines : goal.returns-clause-lines
returns-clause-lines c = c.refill.ensures.lines ∙ c.say.ensures.lines

-- where nothing went out, and then nothing was refused, it rests
pub returns-clause-rests : goal.returns-clause-rests
returns-clause-rests c log s =
    let m = c.say.new.self in
    let n = c.refill.new.self in
    let said : SaysOn m.session = c.in_ok-say.ensures.rests log s (search rules) in
    ok-map c.refill.result (λ given. given ≡ false → HoldsStill m.session n.session × RepliesOn (notes_of n) n.session) _
    (λ given r none. let h = r none in rests-then (notes_of n) m.session n.session said h.0 h.1) c.refill.ensures.rests
