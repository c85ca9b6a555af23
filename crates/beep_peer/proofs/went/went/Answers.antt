-- A request waits, and a reply grants or refuses.
use Rattle.std.proofs.Common.{Bool, true, false, ◌∷◌, sym, ap, ◌∙◌, subst}
use Rattle.beep_upright.specs.beep_frame.specs.declared.kind.Kind.{Kind}
use Rattle.beep_upright.specs.beep_frame.specs.Frame.{is_msg, same_kind}
use Rattle.beep_upright.specs.beep_history.specs.declared.journal.Side.{Side}
use Rattle.beep_upright.specs.beep_history.specs.Journal.{began, passed}
use Rattle.beep_upright.specs.beep_asked.specs.Request.{kept_of}
use Rattle.beep_peer.specs.Calls.{AreLeft, IsDone}
use Rattle.beep_peer.proofs.LetLemmas.{left-answered}
use Rattle.beep_peer.proofs.GoneLemmas.{taken-by, request-gone, refusal-gone, grant-gone, out-act, out-room, out-answer, out-starts, out-joins, out-number, out-above, out-left}
use Rattle.beep_peer.proofs.WentLemmas.{request-upright, refusal-upright, grant-upright}
use Rattle.beep_upright.specs.beep_management.specs.Moved.{is_live_in}
use Rattle.beep_peer.proofs.FallLemmas.{request-falls, refusal-falls, grant-falls}
use Rattle.beep_peer.proofs.went.went.Goals as goal

pub pass_act-requires-clause-some : goal.pass_act-requires-clause-some
pass_act-requires-clause-some c = out-act c.args.kind c.args.lives.now c.args.management.now c.requires.gone (sym c.is_msg.ensures ∙ c.if-is_msg.true)

pub pass_act-requires-clause-room : goal.pass_act-requires-clause-room
pass_act-requires-clause-room c = out-room c.args.kind c.args.lives.now c.args.management.now c.requires.gone

pub returns-then-is_msg-clause-done : goal.returns-then-is_msg-clause-done
returns-then-is_msg-clause-done c size journal given taken head payload kind g =
    request-gone size journal given taken head payload c.args.lives.now c.args.management.now g (ap is_msg kind ∙ sym c.is_msg.ensures ∙ c.if-is_msg.true)
    c.pass_act.new.self c.pass_act.ensures

pub take_theirs-answered-requires-clause-some : goal.take_theirs-answered-requires-clause-some
take_theirs-answered-requires-clause-some c = out-answer c.args.kind c.args.lives.now c.args.management.now c.requires.gone (sym c.is_msg.ensures ∙ c.if-is_msg.false)

pub take_theirs-answered-requires-clause-channel : goal.take_theirs-answered-requires-clause-channel
take_theirs-answered-requires-clause-channel c grants =
    out-starts c.args.kind c.args.lives.now c.args.management.now c.requires.gone (sym c.is_same-grants.ensures ∙ grants)

pub grant-requires-clause-room : goal.grant-requires-clause-room
grant-requires-clause-room c =
    let one = kept_of c.take_theirs-answered.result.request in
    let channel = c.take_theirs-answered.result.channel in
    out-joins c.args.kind c.args.lives.now c.args.management.now c.requires.gone (sym c.is_same-grants.ensures ∙ c.if-grants.true) one channel c.take_theirs-answered.new.self
    (taken-by c.is_same-grants.result true c.if-grants.true one channel c.args.management.now c.take_theirs-answered.new.self c.take_theirs-answered.ensures)

pub grant-requires-clause-number : goal.grant-requires-clause-number
grant-requires-clause-number c =
    let one = kept_of c.take_theirs-answered.result.request in
    let channel = c.take_theirs-answered.result.channel in
    out-number c.args.kind c.args.lives.now c.args.management.now c.requires.gone (sym c.is_same-grants.ensures ∙ c.if-grants.true) one channel c.take_theirs-answered.new.self
    (taken-by c.is_same-grants.result true c.if-grants.true one channel c.args.management.now c.take_theirs-answered.new.self c.take_theirs-answered.ensures)

pub grant-requires-clause-above : goal.grant-requires-clause-above
grant-requires-clause-above c =
    let one = kept_of c.take_theirs-answered.result.request in
    let channel = c.take_theirs-answered.result.channel in
    out-above c.args.kind c.args.lives.now c.args.management.now c.requires.gone (sym c.is_same-grants.ensures ∙ c.if-grants.true) one channel c.take_theirs-answered.new.self
    (taken-by c.is_same-grants.result true c.if-grants.true one channel c.args.management.now c.take_theirs-answered.new.self c.take_theirs-answered.ensures)

pub returns-then-grants-clause-done : goal.returns-then-grants-clause-done
returns-then-grants-clause-done c size journal given taken head payload kind g =
    let one = kept_of c.take_theirs-answered.result.request in
    let channel = c.take_theirs-answered.result.channel in
    grant-gone size journal given taken head payload c.args.lives.now c.args.management.now g one channel c.take_theirs-answered.new.self
    (ap (same_kind Kind.Rpy) kind ∙ sym c.is_same-grants.ensures ∙ c.if-grants.true)
    (taken-by c.is_same-grants.result true c.if-grants.true one channel c.args.management.now c.take_theirs-answered.new.self c.take_theirs-answered.ensures)
    c.grant.new.lives c.grant.result c.grant.ensures.done c.grant.ensures.released

pub returns-else-grants-clause-done : goal.returns-else-grants-clause-done
returns-else-grants-clause-done c size journal given taken head payload kind g =
    let one = kept_of c.take_theirs-answered.result.request in
    let channel = c.take_theirs-answered.result.channel in
    subst (λ (b : Bool). IsDone size (began Side.Sent head ∷ journal) (passed Side.Sent head payload ∷ began Side.Sent head ∷ journal) given taken b c.args.lives.now
    c.take_theirs-answered.new.self)
    (sym c.if-grants.false)
    (refusal-gone size journal given taken head payload c.args.lives.now c.args.management.now g one channel c.take_theirs-answered.new.self
    (ap is_msg kind ∙ sym c.is_msg.ensures ∙ c.if-is_msg.false) (ap (same_kind Kind.Rpy) kind ∙ sym c.is_same-grants.ensures ∙ c.if-grants.false)
    (taken-by c.is_same-grants.result false c.if-grants.false one channel c.args.management.now c.take_theirs-answered.new.self c.take_theirs-answered.ensures))

pub returns-then-is_msg-clause-falls : goal.returns-then-is_msg-clause-falls
returns-then-is_msg-clause-falls c = request-falls (is_live_in c.args.lives.now) c.args.management.now c.pass_act.new.self c.args.lives.now c.pass_act.ensures

pub returns-then-grants-clause-left : goal.returns-then-grants-clause-left
returns-then-grants-clause-left c =
    subst (AreLeft c.grant.new.lives c.args.management.now.answers) (sym c.take_theirs-answered.ensures.answers)
    (left-answered c.grant.new.lives c.is_same-grants.result (kept_of c.take_theirs-answered.result.request) c.args.management.now.answers
    (λ grants. c.grant.ensures.leaves))

pub returns-then-grants-clause-falls : goal.returns-then-grants-clause-falls
returns-then-grants-clause-falls c =
    let one = kept_of c.take_theirs-answered.result.request in
    let channel = c.take_theirs-answered.result.channel in
    let taken = taken-by c.is_same-grants.result true c.if-grants.true one channel c.args.management.now c.take_theirs-answered.new.self c.take_theirs-answered.ensures in
    grant-falls one channel c.args.management.now c.take_theirs-answered.new.self c.args.lives.now c.grant.new.lives taken
    (out-left c.args.kind c.args.lives.now c.args.management.now c.requires.gone (sym c.is_same-grants.ensures ∙ c.if-grants.true) one channel c.take_theirs-answered.new.self
    taken c.grant.new.lives c.grant.ensures.done)

pub returns-else-grants-clause-falls : goal.returns-else-grants-clause-falls
returns-else-grants-clause-falls c =
    let one = kept_of c.take_theirs-answered.result.request in
    let channel = c.take_theirs-answered.result.channel in
    refusal-falls one channel c.args.management.now c.take_theirs-answered.new.self c.args.lives.now
    (taken-by c.is_same-grants.result false c.if-grants.false one channel c.args.management.now c.take_theirs-answered.new.self c.take_theirs-answered.ensures)

pub returns-then-is_msg-clause-upright : goal.returns-then-is_msg-clause-upright
returns-then-is_msg-clause-upright c terms journal given taken head payload kind g u =
    request-upright terms journal given taken head payload c.args.lives.now c.args.management.now g u (ap is_msg kind ∙ sym c.is_msg.ensures ∙ c.if-is_msg.true)
    c.pass_act.new.self c.pass_act.ensures

pub returns-then-grants-clause-upright : goal.returns-then-grants-clause-upright
returns-then-grants-clause-upright c terms journal given taken head payload kind g u =
    let one = kept_of c.take_theirs-answered.result.request in
    let channel = c.take_theirs-answered.result.channel in
    grant-upright terms journal given taken head payload c.args.lives.now c.args.management.now g u (ap (same_kind Kind.Rpy) kind ∙ sym c.is_same-grants.ensures ∙ c.if-grants.true)
    one channel c.take_theirs-answered.new.self
    (taken-by c.is_same-grants.result true c.if-grants.true one channel c.args.management.now c.take_theirs-answered.new.self c.take_theirs-answered.ensures)
    c.grant.new.lives c.grant.result c.grant.ensures.done c.grant.ensures.released

pub returns-else-grants-clause-upright : goal.returns-else-grants-clause-upright
returns-else-grants-clause-upright c terms journal given taken head payload kind g u =
    let one = kept_of c.take_theirs-answered.result.request in
    let channel = c.take_theirs-answered.result.channel in
    refusal-upright terms journal given taken head payload c.args.lives.now c.args.management.now g u
    (ap is_msg kind ∙ sym c.is_msg.ensures ∙ c.if-is_msg.false) (ap (same_kind Kind.Rpy) kind ∙ sym c.is_same-grants.ensures ∙ c.if-grants.false)
    one channel c.take_theirs-answered.new.self
    (taken-by c.is_same-grants.result false c.if-grants.false one channel c.args.management.now c.take_theirs-answered.new.self c.take_theirs-answered.ensures)
