-- What comes is used, and what stops the session shows on the log of all octets.
use Rattle.std.proofs.Common.{◌++◌, false, rules, sym, ap, subst, take, drop}
use Rattle.beep_steps.specs.beep_journal.specs.Log.{got_all}
use Rattle.beep_steps.specs.beep_lawful.specs.declared.terms.Terms.{Terms}
use Rattle.beep_steps.specs.beep_link.specs.Causes.{WithText}
use Rattle.beep_steps.specs.beep_link.proofs.StandLemmas.{text-map}
use Rattle.beep_steps.specs.beep_talk.specs.declared.plan.Command.{Command}
use Rattle.beep_steps.specs.beep_session.specs.Lawfully.{terms_of}
use Rattle.beep_steps.specs.declared.hearing.Came.{Came}
use Rattle.beep_steps.specs.Logs.{ComesOn, StandsOn, StopsOn, WaitsOn, command_of}
use Rattle.beep_steps.specs.Refusing.{ComesUnrefused, IsUnrefused, RefusesOn}
use Rattle.beep_steps.specs.Desking.{ComesDesk, DesksWaiting, DesksWithin}
use Rattle.beep_steps.specs.Serving.{ComesServing, ServesOn, ServesWaiting}
use Rattle.beep_steps.specs.Steps.{CameFrame, CameMore, CameZero, ComesSo, EndsSo}
use Rattle.beep_steps.proofs.OnLemmas.{err-map, got-rest}
use Rattle.beep_listener.specs.Listening.{Listens, ListensTaking, ListensWaiting, UnrefusedWaiting, WritesLines, is_gathered, plan_of}
use Rattle.beep_listener.proofs.HearLemmas.{err-at, hear-stops, take-stops, text-here}
use Rattle.beep_listener.proofs.ListenLemmas.{same-plan}
use Rattle.beep_listener.proofs.PartLemmas.{frame-taking, more-listens, zero-waits}
use Rattle.beep_steps.specs.Speaking.{ComesSpeaking, SpeaksOn, SpeaksWaiting}
use Rattle.beep_listener.specs.Speaking.{notes_of}
use Rattle.beep_listener.proofs.RefusingLemmas.{goes-unrefused, stays-unrefused, waits-unrefused}
use Rattle.beep_listener.proofs.SpeakingLemmas.{taken-speaking}
use Rattle.beep_listener.proofs.listener.Listener.hear_some.Goals as goal

pub returns-in-Err-settle-clause-stopped : goal.returns-in-Err-settle-clause-stopped
returns-in-Err-settle-clause-stopped g c log s =
    let bytes = c.args.bytes.now in
    let count = c.in_ok-count.count in
    let front = got_all (take count bytes) log in
    let waits : WaitsOn c.hear_next.new.session front =
    subst (λ (x : Came). ComesOn x c.hear_next.new.session front) c.in-Zero.is (c.in_ok-count.ensures.heard log s) in
    subst (λ (t : Terms). StopsOn t c.in-Err-settle.stop (got_all bytes log)) c.hear_next.ensures.terms
    (subst (StopsOn (terms_of c.hear_next.new.session) c.in-Err-settle.stop) (got-rest count bytes log) (c.in-Err-settle.ensures.stopped front (drop count bytes) waits))

pub returns-in_err-count-clause-wrote : goal.returns-in_err-count-clause-wrote
returns-in_err-count-clause-wrote g c log text l =
    let a = c.args.self.now in
    let bytes = c.args.bytes.now in
    let now = (g.O.Sink.state c.args.output.now).written in
    let all = got_all bytes log in
    search (
      rules,
      err-at c.hear_next.result _ c.in_err-count.was (λ stop. WithText now now (λ more. WritesLines (plan_of a.session) (is_gathered stop) all ((text ++ more) ++ a.lines.octets.octets)))
          (err-map c.hear_next.result (λ stop. EndsSo stop l.on.journal all) _
          (λ stop e. text-here text now (λ t. WritesLines (plan_of a.session) (is_gathered stop) all (t ++ a.lines.octets.octets))
          (hear-stops a.session a.bodies a.lines.octets.octets text log l stop bytes e)) (c.hear_next.ensures.ends log l.on)),
    )

pub returns-in-More-clause-heard : goal.returns-in-More-clause-heard
returns-in-More-clause-heard g c log text l =
    let a = c.args.self.now in
    let n = c.hear_next.new.session in
    let front = got_all (take c.in_ok-count.count c.args.bytes.now) log in
    let came : CameMore a.session n l.on.journal front = subst (λ (x : Came). ComesSo x a.session n l.on.journal front) c.in-More.is (c.in_ok-count.ensures.came log l.on) in
    text-here text (g.O.Sink.state c.args.output.now).written (λ t. Listens n a.bodies a.lines.octets.octets front t)
    (more-listens a.session n a.bodies a.lines.octets.octets text log front l (same-plan a.session n c.hear_next.ensures.terms c.hear_next.ensures.offers) came)

pub returns-in-Ok-clause-heard : goal.returns-in-Ok-clause-heard
returns-in-Ok-clause-heard g c log text l =
    let a = c.args.self.now in
    let n = c.hear_next.new.session in
    let number = c.in-Arrived.number in
    let front = got_all (take c.in_ok-count.count c.args.bytes.now) log in
    let came : CameFrame number a.session n l.on.journal front = subst (λ (x : Came). ComesSo x a.session n l.on.journal front) c.in-Arrived.is (c.in_ok-count.ensures.came log l.on) in
    let taking : ListensTaking number 0 n a.bodies a.lines.octets.octets front text =
    frame-taking a.session n a.bodies a.lines.octets.octets text log front l (same-plan a.session n c.hear_next.ensures.terms c.hear_next.ensures.offers) number came c.in_ok-count.ensures.going in
    c.in-Ok.ensures.taken front text taking

pub returns-in-Err-clause-wrote : goal.returns-in-Err-clause-wrote
returns-in-Err-clause-wrote g c log text l =
    let a = c.args.self.now in
    let n = c.hear_next.new.session in
    let number = c.in-Arrived.number in
    let bytes = c.args.bytes.now in
    let count = c.in_ok-count.count in
    let front = got_all (take count bytes) log in
    let same = same-plan a.session n c.hear_next.ensures.terms c.hear_next.ensures.offers in
    let came : CameFrame number a.session n l.on.journal front = subst (λ (x : Came). ComesSo x a.session n l.on.journal front) c.in-Arrived.is (c.in_ok-count.ensures.came log l.on) in
    let taking : ListensTaking number 0 n a.bodies a.lines.octets.octets front text =
    frame-taking a.session n a.bodies a.lines.octets.octets text log front l same number came c.in_ok-count.ensures.going in
    text-map (g.O.Sink.state c.args.output.now).written (g.O.Sink.state c.take_all.new.output).written _ _
    (λ more w. take-stops (plan_of a.session) (plan_of n) same c.in-Err.stop count bytes log ((text ++ more) ++ c.take_all.new.self.lines.octets.octets) c.in-Err.ensures.stopped w)
    (c.in-Err.ensures.wrote front text taking)

pub returns-in-Ok-settle-clause-heard : goal.returns-in-Ok-settle-clause-heard
returns-in-Ok-settle-clause-heard g c log text l =
    let a = c.args.self.now in
    let n = c.hear_next.new.session in
    let s = c.settle.new.self in
    let front = got_all (take c.in_ok-count.count c.args.bytes.now) log in
    let came : CameZero a.session n l.on.journal front = subst (λ (x : Came). ComesSo x a.session n l.on.journal front) c.in-Zero.is (c.in_ok-count.ensures.came log l.on) in
    let waits : ListensWaiting n a.bodies a.lines.octets.octets front text =
    zero-waits a.session n a.bodies a.lines.octets.octets text log front l (same-plan a.session n c.hear_next.ensures.terms c.hear_next.ensures.offers) came in
    text-here text (g.O.Sink.state c.args.output.now).written (λ t. Listens s.session s.bodies s.lines.octets.octets front t) (c.in-Ok-settle.ensures.settled front text waits)

pub returns-in-Err-settle-clause-wrote : goal.returns-in-Err-settle-clause-wrote
returns-in-Err-settle-clause-wrote g c log text l =
    let a = c.args.self.now in
    let n = c.hear_next.new.session in
    let bytes = c.args.bytes.now in
    let count = c.in_ok-count.count in
    let front = got_all (take count bytes) log in
    let whole = is_gathered c.in-Err-settle.stop in
    let buffer = c.settle.new.self.lines.octets.octets in
    let same = same-plan a.session n c.hear_next.ensures.terms c.hear_next.ensures.offers in
    let came : CameZero a.session n l.on.journal front = subst (λ (x : Came). ComesSo x a.session n l.on.journal front) c.in-Zero.is (c.in_ok-count.ensures.came log l.on) in
    let waits : ListensWaiting n a.bodies a.lines.octets.octets front text =
    zero-waits a.session n a.bodies a.lines.octets.octets text log front l same came in
    text-here text (g.O.Sink.state c.args.output.now).written (λ t. WritesLines (plan_of a.session) whole (got_all bytes log) (t ++ buffer))
    (subst (λ p. WritesLines p whole (got_all bytes log) (text ++ buffer)) same
    (subst (λ x. WritesLines (plan_of n) whole x (text ++ buffer)) (got-rest count bytes log) (c.in-Err-settle.ensures.wrote front (drop count bytes) text waits)))

pub returns-in-More-clause-serving : goal.returns-in-More-clause-serving
returns-in-More-clause-serving g c plan log s =
    let front = got_all (take c.in_ok-count.count c.args.bytes.now) log in
    subst (λ (x : Came). ComesServing plan x c.hear_next.new.session front) c.in-More.is (c.in_ok-count.ensures.serving plan log s)

pub returns-in-Ok-clause-serving : goal.returns-in-Ok-clause-serving
returns-in-Ok-clause-serving g c plan log s =
    let front = got_all (take c.in_ok-count.count c.args.bytes.now) log in
    let came = subst (λ (x : Came). ComesServing plan x c.hear_next.new.session front) c.in-Arrived.is (c.in_ok-count.ensures.serving plan log s) in
    c.take_all.ensures.serving plan front came

pub returns-in-Ok-settle-clause-serving : goal.returns-in-Ok-settle-clause-serving
returns-in-Ok-settle-clause-serving g c plan log s =
    let front = got_all (take c.in_ok-count.count c.args.bytes.now) log in
    let waits : ServesWaiting plan c.hear_next.new.session front =
    subst (λ (x : Came). ComesServing plan x c.hear_next.new.session front) c.in-Zero.is (c.in_ok-count.ensures.serving plan log s) in
    c.in-Ok-settle.ensures.serving plan front waits

pub returns-in-More-clause-speaking : goal.returns-in-More-clause-speaking
returns-in-More-clause-speaking g c plan log text l served s =
    let a = c.args.self.now in
    let n = c.hear_next.new.session in
    let front = got_all (take c.in_ok-count.count c.args.bytes.now) log in (
      subst (λ (x : Came). ComesSpeaking plan (notes_of a) x n front) c.in-More.is (c.in_ok-count.ensures.speaking plan (notes_of a) log s.0),
      subst (λ (x : Came). ComesDesk plan x n front) c.in-More.is (c.in_ok-count.ensures.desk plan log s.1),
    )

pub returns-in-Ok-clause-speaking : goal.returns-in-Ok-clause-speaking
returns-in-Ok-clause-speaking g c plan log text l served s =
    let a = c.args.self.now in
    let n = c.hear_next.new.session in
    let number = c.in-Arrived.number in
    let front = got_all (take c.in_ok-count.count c.args.bytes.now) log in
    let came : CameFrame number a.session n l.on.journal front = subst (λ (x : Came). ComesSo x a.session n l.on.journal front) c.in-Arrived.is (c.in_ok-count.ensures.came log l.on) in
    let taking : ListensTaking number 0 n a.bodies a.lines.octets.octets front text =
    frame-taking a.session n a.bodies a.lines.octets.octets text log front l (same-plan a.session n c.hear_next.ensures.terms c.hear_next.ensures.offers) number came c.in_ok-count.ensures.going in
    let serves : ServesOn plan n front = subst (λ (x : Came). ComesServing plan x n front) c.in-Arrived.is (c.in_ok-count.ensures.serving plan log served) in
    let speaks : SpeaksOn plan (notes_of a) n front = subst (λ (x : Came). ComesSpeaking plan (notes_of a) x n front) c.in-Arrived.is (c.in_ok-count.ensures.speaking plan (notes_of a) log s.0) in
    let desk : DesksWithin plan n front = subst (λ (x : Came). ComesDesk plan x n front) c.in-Arrived.is (c.in_ok-count.ensures.desk plan log s.1) in
    let m = c.take_all.new.self in
    let taken = c.in-Ok.ensures.taken front text taking in
    taken-speaking plan (notes_of m) m.session front (c.take_all.ensures.serving plan front serves) taken.2.taken (c.take_all.ensures.speaking plan front serves (speaks, desk))

pub returns-in-Ok-settle-clause-speaking : goal.returns-in-Ok-settle-clause-speaking
returns-in-Ok-settle-clause-speaking g c plan log text l served s =
    let a = c.args.self.now in
    let n = c.hear_next.new.session in
    let front = got_all (take c.in_ok-count.count c.args.bytes.now) log in
    let came : CameZero a.session n l.on.journal front = subst (λ (x : Came). ComesSo x a.session n l.on.journal front) c.in-Zero.is (c.in_ok-count.ensures.came log l.on) in
    let listens : ListensWaiting n a.bodies a.lines.octets.octets front text =
    zero-waits a.session n a.bodies a.lines.octets.octets text log front l (same-plan a.session n c.hear_next.ensures.terms c.hear_next.ensures.offers) came in
    let serving : ServesWaiting plan n front = subst (λ (x : Came). ComesServing plan x n front) c.in-Zero.is (c.in_ok-count.ensures.serving plan log served) in
    let speaks : SpeaksWaiting plan (notes_of a) n front = subst (λ (x : Came). ComesSpeaking plan (notes_of a) x n front) c.in-Zero.is (c.in_ok-count.ensures.speaking plan (notes_of a) log s.0) in
    let desk : DesksWaiting plan n front = subst (λ (x : Came). ComesDesk plan x n front) c.in-Zero.is (c.in_ok-count.ensures.desk plan log s.1) in
    c.in-Ok-settle.ensures.speaking plan front serving listens.taken (speaks, desk)

pub returns-in-More-clause-unrefused : goal.returns-in-More-clause-unrefused
returns-in-More-clause-unrefused g c log u =
    let a = c.args.self.now in
    let n = c.hear_next.new.session in
    let front = got_all (take c.in_ok-count.count c.args.bytes.now) log in
    let on : StandsOn n front = subst (λ (x : Came). ComesOn x n front) c.in-More.is (c.in_ok-count.ensures.heard log u.on) in
    goes-unrefused a.session n front false on c.hear_next.ensures.terms u.role
    (subst (λ (x : Came). ComesUnrefused Command.Listen false x n front) c.in-More.is (c.in_ok-count.ensures.unrefused Command.Listen false log u.on u.unrefused))

pub returns-in-Ok-clause-unrefused : goal.returns-in-Ok-clause-unrefused
returns-in-Ok-clause-unrefused g c log u =
    let a = c.args.self.now in
    let n = c.hear_next.new.session in
    let front = got_all (take c.in_ok-count.count c.args.bytes.now) log in
    let on : StandsOn n front = subst (λ (x : Came). ComesOn x n front) c.in-Arrived.is (c.in_ok-count.ensures.heard log u.on) in
    stays-unrefused n c.take_all.new.self.session front c.take_all.ensures.stays
    (goes-unrefused a.session n front false on c.hear_next.ensures.terms u.role
    (subst (λ (x : Came). ComesUnrefused Command.Listen false x n front) c.in-Arrived.is (c.in_ok-count.ensures.unrefused Command.Listen false log u.on u.unrefused)))

pub returns-in-Ok-settle-clause-unrefused : goal.returns-in-Ok-settle-clause-unrefused
returns-in-Ok-settle-clause-unrefused g c log u =
    let a = c.args.self.now in
    let n = c.hear_next.new.session in
    let front = got_all (take c.in_ok-count.count c.args.bytes.now) log in
    let waits : WaitsOn n front = subst (λ (x : Came). ComesOn x n front) c.in-Zero.is (c.in_ok-count.ensures.heard log u.on) in
    let w : UnrefusedWaiting n front = waits-unrefused a.session n front waits c.hear_next.ensures.terms u.role
    ((subst (λ (x : Came). ComesUnrefused Command.Listen false x n front) c.in-Zero.is (c.in_ok-count.ensures.unrefused Command.Listen false log u.on u.unrefused)) waits) in
    c.in-Ok-settle.ensures.unrefused front w

pub returns-in-Err-settle-clause-refuses : goal.returns-in-Err-settle-clause-refuses
returns-in-Err-settle-clause-refuses g c log u =
    let a = c.args.self.now in
    let n = c.hear_next.new.session in
    let bytes = c.args.bytes.now in
    let count = c.in_ok-count.count in
    let front = got_all (take count bytes) log in
    let waits : WaitsOn n front = subst (λ (x : Came). ComesOn x n front) c.in-Zero.is (c.in_ok-count.ensures.heard log u.on) in
    let w : UnrefusedWaiting n front = waits-unrefused a.session n front waits c.hear_next.ensures.terms u.role
    ((subst (λ (x : Came). ComesUnrefused Command.Listen false x n front) c.in-Zero.is (c.in_ok-count.ensures.unrefused Command.Listen false log u.on u.unrefused)) waits) in
    subst (λ (t : Terms). RefusesOn t c.in-Err-settle.stop (got_all bytes log)) c.hear_next.ensures.terms
    (subst (RefusesOn (terms_of n) c.in-Err-settle.stop) (got-rest count bytes log) (c.in-Err-settle.ensures.refuses front (drop count bytes) w))

pub returns-in_err-count-clause-refuses : goal.returns-in_err-count-clause-refuses
returns-in_err-count-clause-refuses g c log u =
    let a = c.args.self.now in
    let all = got_all c.args.bytes.now log in
    search (
      rules,
      err-at c.hear_next.result _ c.in_err-count.was (λ stop. RefusesOn (terms_of a.session) stop all)
          (c.hear_next.ensures.refuses false log u.on (subst (λ (x : Command). IsUnrefused x false log) (sym (ap command_of u.role)) u.unrefused)),
    )
