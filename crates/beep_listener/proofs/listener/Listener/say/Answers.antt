-- What goes out leaves what is kept, and a frame of channel zero may end lives.
use Rattle.std.proofs.Common.{◌≡◌, ◌∙◌, ◌==◌, false, true, sym, ap, subst, rules, ℕ, List}
use Rattle.beep_steps.specs.beep_journal.specs.Log.{put_all}
use Rattle.beep_lines.specs.declared.bodies.Body.{Body}
use Rattle.beep_steps.specs.beep_talk.specs.declared.plan.Command.{Command}
use Rattle.beep_steps.specs.beep_speaking.specs.declared.emit.Emit.{Emit}
use Rattle.beep_steps.specs.Desking.{DesksWithin, SaidDesk}
use Rattle.beep_steps.specs.Refusing.{closing_by}
use Rattle.beep_steps.specs.Resting.{RestsAfter}
use Rattle.beep_steps.specs.Steps.{is_zero_frame}
use Rattle.beep_listener.specs.Listening.{Listens}
use Rattle.beep_listener.proofs.ListenLemmas.{same-plan, says-listens, stays-listens, zero-listens}
use Rattle.beep_listener.specs.Speaking.{notes_of}
use Rattle.beep_listener.proofs.SpeakingLemmas.{taken-speaking, unmoved-speaking}
use Rattle.beep_listener.proofs.RefusingLemmas.{goes-unrefused, stays-unrefused}
use Rattle.beep_listener.proofs.listener.Listener.say.Goals as goal

pub returns-in-Seq-clause-listens : goal.returns-in-Seq-clause-listens
returns-in-Seq-clause-listens c log text l =
    let a = c.args.self.now in
    let s = c.say_next in
    says-listens a.session s.new.session a.bodies a.lines.octets.octets text (put_all c.args.out.now.octets log) (put_all s.new.out.octets log) l s.result
    (s.ensures.spoke log l.on) (same-plan a.session s.new.session s.ensures.terms s.ensures.offers) (ap is_zero_frame c.in-Seq.is)

pub returns-in-Nothing-clause-listens : goal.returns-in-Nothing-clause-listens
returns-in-Nothing-clause-listens c log text l =
    let a = c.args.self.now in
    let s = c.say_next in
    says-listens a.session s.new.session a.bodies a.lines.octets.octets text (put_all c.args.out.now.octets log) (put_all s.new.out.octets log) l s.result
    (s.ensures.spoke log l.on) (same-plan a.session s.new.session s.ensures.terms s.ensures.offers) (ap is_zero_frame c.in-Nothing.is)

pub returns-then-head-ne0-clause-listens : goal.returns-then-head-ne0-clause-listens
returns-then-head-ne0-clause-listens c log text l =
    let a = c.args.self.now in
    let s = c.say_next in
    let above : (c.in-Data.head.channel == 0) ≡ false = search rules in
    says-listens a.session s.new.session a.bodies a.lines.octets.octets text (put_all c.args.out.now.octets log) (put_all s.new.out.octets log) l s.result
    (s.ensures.spoke log l.on) (same-plan a.session s.new.session s.ensures.terms s.ensures.offers) (ap is_zero_frame c.in-Data.is ∙ above)

pub returns-in_err-begun-in-Data-clause-listens : goal.returns-in_err-begun-in-Data-clause-listens
returns-in_err-begun-in-Data-clause-listens c log text l =
    let a = c.args.self.now in
    let s = c.say_next in
    let octets = a.lines.octets.octets in
    let after = put_all s.new.out.octets log in
    let now = c.prune.new.bodies in
    let z = zero-listens a.session s.new.session a.bodies now octets text (put_all c.args.out.now.octets log) after l s.result
    (s.ensures.spoke log l.on) (same-plan a.session s.new.session s.ensures.terms s.ensures.offers) c.prune.ensures in
    let b = stays-listens s.new.session c.begun.new.self.session now octets text after c.begun.ensures.stays z in
    let bodies : (x : List Body) → x ≡ now → Listens c.begun.new.self.session x octets after text = λ x e. subst (λ (y : List Body). Listens c.begun.new.self.session y octets after text) (sym e) b in
    let lines : (x : List ℕ) → x ≡ octets → Listens c.begun.new.self.session c.begun.new.self.bodies x after text =
    λ x e. subst (λ (y : List ℕ). Listens c.begun.new.self.session c.begun.new.self.bodies y after text) (sym e) (bodies c.begun.new.self.bodies c.begun.ensures.bodies) in
    lines c.begun.new.self.lines.octets.octets (ap (λ o. o.octets.octets) c.begun.ensures.lines)

pub returns-in_ok-begun-in-Data-clause-listens : goal.returns-in_ok-begun-in-Data-clause-listens
returns-in_ok-begun-in-Data-clause-listens c log text l =
    let a = c.args.self.now in
    let s = c.say_next in
    let octets = a.lines.octets.octets in
    let after = put_all s.new.out.octets log in
    let now = c.prune.new.bodies in
    let z = zero-listens a.session s.new.session a.bodies now octets text (put_all c.args.out.now.octets log) after l s.result
    (s.ensures.spoke log l.on) (same-plan a.session s.new.session s.ensures.terms s.ensures.offers) c.prune.ensures in
    let b = stays-listens s.new.session c.begun.new.self.session now octets text after c.begun.ensures.stays z in
    let bodies : (x : List Body) → x ≡ now → Listens c.begun.new.self.session x octets after text = λ x e. subst (λ (y : List Body). Listens c.begun.new.self.session y octets after text) (sym e) b in
    let lines : (x : List ℕ) → x ≡ octets → Listens c.begun.new.self.session c.begun.new.self.bodies x after text =
    λ x e. subst (λ (y : List ℕ). Listens c.begun.new.self.session c.begun.new.self.bodies y after text) (sym e) (bodies c.begun.new.self.bodies c.begun.ensures.bodies) in
    lines c.begun.new.self.lines.octets.octets (ap (λ o. o.octets.octets) c.begun.ensures.lines)

pub returns-in_err-begun-in-Data-clause-serving : goal.returns-in_err-begun-in-Data-clause-serving
returns-in_err-begun-in-Data-clause-serving c plan log s =
    c.begun.ensures.serving plan (put_all c.say_next.new.out.octets log) (c.say_next.ensures.serving plan log s)

pub returns-in_ok-begun-in-Data-clause-serving : goal.returns-in_ok-begun-in-Data-clause-serving
returns-in_ok-begun-in-Data-clause-serving c plan log s =
    c.begun.ensures.serving plan (put_all c.say_next.new.out.octets log) (c.say_next.ensures.serving plan log s)

pub returns-in-Seq-clause-speaking : goal.returns-in-Seq-clause-speaking
returns-in-Seq-clause-speaking c plan log served taken l =
    let a = c.args.self.now in
    let s = c.say_next in
    let after = put_all s.new.out.octets log in
    let above : is_zero_frame s.result ≡ false = ap is_zero_frame c.in-Seq.is in
    let speaks = unmoved-speaking plan (notes_of a) a.session s.new.session (put_all c.args.out.now.octets log) after s.result l.0
    (s.ensures.speaking plan (notes_of a) log served l.0) (s.ensures.spoke log l.0.on) above in
    (speaks, subst (λ (e : Emit). SaidDesk plan e s.new.session after) c.in-Seq.is (s.ensures.desk plan (notes_of a) log served l.0 l.1))

pub returns-in-Nothing-clause-speaking : goal.returns-in-Nothing-clause-speaking
returns-in-Nothing-clause-speaking c plan log served taken l =
    let a = c.args.self.now in
    let s = c.say_next in
    let after = put_all s.new.out.octets log in
    let above : is_zero_frame s.result ≡ false = ap is_zero_frame c.in-Nothing.is in
    let speaks = unmoved-speaking plan (notes_of a) a.session s.new.session (put_all c.args.out.now.octets log) after s.result l.0
    (s.ensures.speaking plan (notes_of a) log served l.0) (s.ensures.spoke log l.0.on) above in
    (speaks, subst (λ (e : Emit). SaidDesk plan e s.new.session after) c.in-Nothing.is (s.ensures.desk plan (notes_of a) log served l.0 l.1))

pub returns-then-head-ne0-clause-speaking : goal.returns-then-head-ne0-clause-speaking
returns-then-head-ne0-clause-speaking c plan log served taken l =
    let a = c.args.self.now in
    let s = c.say_next in
    let after = put_all s.new.out.octets log in
    let above : is_zero_frame s.result ≡ false = (let above : (c.in-Data.head.channel == 0) ≡ false = search rules in ap is_zero_frame c.in-Data.is ∙ above) in
    let speaks = unmoved-speaking plan (notes_of a) a.session s.new.session (put_all c.args.out.now.octets log) after s.result l.0
    (s.ensures.speaking plan (notes_of a) log served l.0) (s.ensures.spoke log l.0.on) above in
    let desk : DesksWithin plan s.new.session after = subst (λ (e : Emit). SaidDesk plan e s.new.session after) c.in-Data.is (s.ensures.desk plan (notes_of a) log served l.0 l.1) in
    taken-speaking plan (notes_of a) s.new.session after (s.ensures.serving plan log served) ((s.ensures.spoke log l.0.on).taken taken) (speaks, desk)

pub returns-in_ok-begun-in-Data-clause-speaking : goal.returns-in_ok-begun-in-Data-clause-speaking
returns-in_ok-begun-in-Data-clause-speaking c plan log served taken l =
    let a = c.args.self.now in
    let s = c.say_next in
    let after = put_all s.new.out.octets log in
    let desk : DesksWithin plan s.new.session after = subst (λ (e : Emit). SaidDesk plan e s.new.session after) c.in-Data.is (s.ensures.desk plan (notes_of a) log served l.0 l.1) in
    c.in_ok-begun-in-Data.ensures.speaking plan after (s.ensures.serving plan log served) ((s.ensures.spoke log l.0.on).taken taken) (s.ensures.speaking plan (notes_of a) log served l.0, desk)

pub returns-in-Seq-clause-unrefused : goal.returns-in-Seq-clause-unrefused
returns-in-Seq-clause-unrefused c log u =
    let a = c.args.self.now in
    let s = c.say_next in
    goes-unrefused a.session s.new.session (put_all s.new.out.octets log) (closing_by s.result false) (s.ensures.said log u.on) s.ensures.terms u.role
    (s.ensures.unrefused Command.Listen false log u.on u.unrefused)

pub returns-in-Nothing-clause-unrefused : goal.returns-in-Nothing-clause-unrefused
returns-in-Nothing-clause-unrefused c log u =
    let a = c.args.self.now in
    let s = c.say_next in
    goes-unrefused a.session s.new.session (put_all s.new.out.octets log) (closing_by s.result false) (s.ensures.said log u.on) s.ensures.terms u.role
    (s.ensures.unrefused Command.Listen false log u.on u.unrefused)

pub returns-then-head-ne0-clause-unrefused : goal.returns-then-head-ne0-clause-unrefused
returns-then-head-ne0-clause-unrefused c log u =
    let a = c.args.self.now in
    let s = c.say_next in
    goes-unrefused a.session s.new.session (put_all s.new.out.octets log) (closing_by s.result false) (s.ensures.said log u.on) s.ensures.terms u.role
    (s.ensures.unrefused Command.Listen false log u.on u.unrefused)

pub returns-in_err-begun-in-Data-clause-unrefused : goal.returns-in_err-begun-in-Data-clause-unrefused
returns-in_err-begun-in-Data-clause-unrefused c log u =
    let a = c.args.self.now in
    let s = c.say_next in
    stays-unrefused s.new.session c.begun.new.self.session (put_all s.new.out.octets log) c.begun.ensures.stays
    (goes-unrefused a.session s.new.session (put_all s.new.out.octets log) (closing_by s.result false) (s.ensures.said log u.on) s.ensures.terms u.role
    (s.ensures.unrefused Command.Listen false log u.on u.unrefused))

pub returns-in_ok-begun-in-Data-clause-unrefused : goal.returns-in_ok-begun-in-Data-clause-unrefused
returns-in_ok-begun-in-Data-clause-unrefused c log u =
    let a = c.args.self.now in
    let s = c.say_next in
    stays-unrefused s.new.session c.begun.new.self.session (put_all s.new.out.octets log) c.begun.ensures.stays
    (goes-unrefused a.session s.new.session (put_all s.new.out.octets log) (closing_by s.result false) (s.ensures.said log u.on) s.ensures.terms u.role
    (s.ensures.unrefused Command.Listen false log u.on u.unrefused))

pub returns-in-Nothing-clause-rests : goal.returns-in-Nothing-clause-rests
returns-in-Nothing-clause-rests c log s none =
    subst (λ (e : Emit). RestsAfter e c.say_next.new.session) c.in-Nothing.is (c.say_next.ensures.rests log s)

pub returns-in-Seq-clause-rests : goal.returns-in-Seq-clause-rests
returns-in-Seq-clause-rests c log s none = absurd (let h : true ≡ false = none in cc)

pub returns-then-head-ne0-clause-rests : goal.returns-then-head-ne0-clause-rests
returns-then-head-ne0-clause-rests c log s none = absurd (let h : true ≡ false = none in cc)

pub returns-in_ok-begun-in-Data-clause-rests : goal.returns-in_ok-begun-in-Data-clause-rests
returns-in_ok-begun-in-Data-clause-rests c log s none = absurd (let h : true ≡ false = none in cc)
