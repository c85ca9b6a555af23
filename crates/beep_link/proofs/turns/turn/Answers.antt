-- What a turn says and hears joins the log, and what it writes joins the output.
use Rattle.std.proofs.Common.{rules, ◌≡◌, ◌≤◌, ◌∷◌, [], ◌++◌, ℕ, List, take, subst, sym, ◌∙◌}
use Rattle.beep_wires.specs.Log.{Logs, read, quiet, ended}
use Rattle.beep_wires.specs.Links.{Counts}
use Rattle.beep_link.specs.Causes.{octets_read, CountsQuiet, CountsReads, IsOfReads, IsWithin, ReadsWhere, TellsLeft, WhereKnown, WithText, ended_by}
use Rattle.beep_link.specs.declared.ended.Ended.{Ended}
use Rattle.beep_link.proofs.StandLemmas.{bounded-grown, bounded-read, entered, kept, most-read, reads-grown, spent-is, take-front, tells-same, text-entered, text-map, text-still, known-map, known-pair}
use Rattle.beep_link.proofs.turns.turn.Goals as goal

pub returns-in_err-say-clause-stopped : goal.returns-in_err-say-clause-stopped
returns-in_err-say-clause-stopped g c text s =
    let E = g.E.End in
    let now = (g.O.Sink.state c.args.output.now).written in
    let new = (g.W.Wires.state c.say.new.wires c.args.link).log in
    let told : WithText now now (λ more. WhereKnown (λ log. E.tells (E.terms c.args.end.now) c.in_err-say.field-0.0 log (text ++ more)) new) =
    text-still now text (λ t. WhereKnown (λ log. E.tells (E.terms c.args.end.now) c.in_err-say.field-0.0 log t) new) (c.in_err-say.ensures.stopped text s) in
    search (rules, told)

pub returns-in-Some-clause-stopped : goal.returns-in-Some-clause-stopped
returns-in-Some-clause-stopped g c text s =
    let E = g.E.End in
    let old = E.terms c.args.end.now in
    let log = (g.W.Wires.state c.say.new.wires c.args.link).log in
    text-still (g.O.Sink.state c.args.output.now).written text (λ t. WhereKnown (λ log. E.tells old c.of.result log t) log)
    (subst (λ e. WhereKnown (λ log. E.tells old e log text) log) (sym c.of.ensures)
    (known-map (λ log. E.stands c.say.new.end log [] text) (λ log. E.tells old (ended_by c.in-Some.stop) log text)
    (λ log k. subst (λ t. E.tells t (ended_by c.in-Some.stop) log text) c.say.ensures.terms (search (rules, k))) log (c.in_ok-say.ensures.said text s)))

pub returns-in-Ok-clause-counted : goal.returns-in-Ok-clause-counted
returns-in-Ok-clause-counted g c before h =
    c.in-Ok-Bytes.ensures.counted before (subst (λ (n : Counts). CountsQuiet before c.args.left.now n.quiets) (sym c.say.ensures.same_counts) h)

pub returns-in-Ok-Quiet-clause-counted : goal.returns-in-Ok-Quiet-clause-counted
returns-in-Ok-Quiet-clause-counted g c before h =
    c.in-Ok-Quiet.ensures.counted before (subst (λ (n : Counts). CountsQuiet before c.args.left.now n.quiets) (sym c.say.ensures.same_counts) h)

pub returns-in-Ok-clause-came : goal.returns-in-Ok-clause-came
returns-in-Ok-clause-came g c before h =
    c.in-Ok-Bytes.ensures.came before (subst (λ (n : ℕ). CountsReads c.args.reads before c.args.left.now n) (sym c.say.ensures.same_reads.counted) h)

pub returns-in-Ok-Quiet-clause-came : goal.returns-in-Ok-Quiet-clause-came
returns-in-Ok-Quiet-clause-came g c before h =
    c.in-Ok-Quiet.ensures.came before (subst (λ (n : ℕ). CountsReads c.args.reads before c.args.left.now n) (sym c.say.ensures.same_reads.counted) h)

pub returns-in-Some-is_spent-clause-stopped : goal.returns-in-Some-is_spent-clause-stopped
returns-in-Some-is_spent-clause-stopped g c text s =
    let E = g.E.End in
    let old = E.terms c.args.end.now in
    let log = (g.W.Wires.state c.say.new.wires c.args.link).log in
    let ended = c.in-Some-is_spent.ended in
    let is : IsOfReads ended = spent-is ended c.args.reads c.args.left.now c.in-Some-is_spent.ensures.some in
    text-still (g.O.Sink.state c.args.output.now).written text (λ t. WhereKnown (λ log. E.tells old ended log t) log)
    (known-map (λ log. E.stands c.say.new.end log [] text × E.rests c.say.new.end) (λ log. E.tells old ended log text)
    (λ log k. subst (λ e. E.tells e ended log text) c.say.ensures.terms (g.met.E.End.spends c.say.new.end log text ended is (search rules) k.1 k.0)) log
    (known-pair _ _ log (c.in_ok-say.ensures.said text s) (c.in_ok-say.ensures.rested text s)))

pub returns-in-Ok-clause-stands : goal.returns-in-Ok-clause-stands
returns-in-Ok-clause-stands g c text s =
    let E = g.E.End in
    let now = (g.O.Sink.state c.args.output.now).written in
    let after = (g.O.Sink.state c.hear.new.output).written in
    let mid = (g.W.Wires.state c.say.new.wires c.args.link).log in
    let new = (g.W.Wires.state c.read_once.new.wires c.args.link).log in
    let heard = read (take c.in-Ok-Bytes.count c.deref.result.now) in
    let logged : Logs mid new (read (take c.in-Ok-Bytes.count c.read_once.new.coming) ∷ []) = search rules in
    let same : c.deref.result.now ≡ c.read_once.new.coming = c.deref.ensures.value ∙ take-front c.read_once.new.coming _ _ (c.read_once.ensures.buffer ∙ sym c.requires.between.coming) in
    text-entered (λ log. E.stands c.say.new.end log [] text) (λ more log. E.stands c.hear.new.self log [] (text ++ more)) heard now after c.hear.ensures.grew
    (λ log k. c.in-Ok.ensures.heard log text k) mid new
    (subst (λ (octets : List ℕ). Logs mid new (read (take c.in-Ok-Bytes.count octets) ∷ [])) (sym same) logged) (c.in_ok-say.ensures.said text s)

pub returns-in-Err-hear-clause-stopped : goal.returns-in-Err-hear-clause-stopped
returns-in-Err-hear-clause-stopped g c text s =
    let E = g.E.End in
    let now = (g.O.Sink.state c.args.output.now).written in
    let after = (g.O.Sink.state c.hear.new.output).written in
    let mid = (g.W.Wires.state c.say.new.wires c.args.link).log in
    let new = (g.W.Wires.state c.read_once.new.wires c.args.link).log in
    let heard = read (take c.in-Ok-Bytes.count c.deref.result.now) in
    let logged : Logs mid new (read (take c.in-Ok-Bytes.count c.read_once.new.coming) ∷ []) = search rules in
    let same : c.deref.result.now ≡ c.read_once.new.coming = c.deref.ensures.value ∙ take-front c.read_once.new.coming _ _ (c.read_once.ensures.buffer ∙ sym c.requires.between.coming) in
    let old = E.terms c.args.end.now in
    let ended = ended_by c.in-Err-hear.stop in
    subst (λ e. WithText now after (λ more. WhereKnown (λ log. E.tells old e log (text ++ more)) new)) (sym c.of-in-Err-hear.ensures)
    (text-entered (λ log. E.stands c.say.new.end log [] text) (λ more log. E.tells old ended log (text ++ more)) heard now after c.hear.ensures.grew
    (λ log k. text-map now after (λ more. E.tells (E.terms c.say.new.end) ended (heard ∷ log) (text ++ more)) (λ more. E.tells old ended (heard ∷ log) (text ++ more))
    (λ more t. subst (λ e. E.tells e ended (heard ∷ log) (text ++ more)) c.say.ensures.terms t) (c.in-Err-hear.ensures.stopped log text k)) mid new
    (subst (λ (octets : List ℕ). Logs mid new (read (take c.in-Ok-Bytes.count octets) ∷ [])) (sym same) logged) (c.in_ok-say.ensures.said text s))

pub returns-in-Ok-Quiet-clause-stands : goal.returns-in-Ok-Quiet-clause-stands
returns-in-Ok-Quiet-clause-stands g c text s =
    let E = g.E.End in
    let new = (g.W.Wires.state c.read_once.new.wires c.args.link).log in
    text-still (g.O.Sink.state c.args.output.now).written text (λ t. WhereKnown (λ log. E.stands c.say.new.end log [] t) new)
    (entered (λ log. E.stands c.say.new.end log [] text) (λ log. E.stands c.say.new.end log [] text) quiet
    (λ log k. g.met.E.End.quiets c.say.new.end log text k)
    (g.W.Wires.state c.say.new.wires c.args.link).log new (search rules) (c.in_ok-say.ensures.said text s))

pub returns-in-Ok-End-clause-stopped : goal.returns-in-Ok-End-clause-stopped
returns-in-Ok-End-clause-stopped g c text s =
    let E = g.E.End in
    let cut = Ended.Cut c.left.result in
    let new = (g.W.Wires.state c.read_once.new.wires c.args.link).log in
    text-still (g.O.Sink.state c.args.output.now).written text (λ t. WhereKnown (λ log. E.tells (E.terms c.args.end.now) cut log t) new)
    (entered (λ log. E.stands c.say.new.end log [] text) (λ log. E.tells (E.terms c.args.end.now) cut log text) ended
    (λ log k. subst (λ e. E.tells e cut (ended ∷ log) text) c.say.ensures.terms (c.left.ensures.cut (ended ∷ log) text (search rules) (g.met.E.End.closes c.say.new.end log text k)))
    (g.W.Wires.state c.say.new.wires c.args.link).log new (search rules) (c.in_ok-say.ensures.said text s))

pub returns-in-Err-clause-stopped : goal.returns-in-Err-clause-stopped
returns-in-Err-clause-stopped g c text s =
    let E = g.E.End in
    let mid = (g.W.Wires.state c.say.new.wires c.args.link).log in
    let new = (g.W.Wires.state c.read_once.new.wires c.args.link).log in
    text-still (g.O.Sink.state c.args.output.now).written text (λ t. WhereKnown (λ log. E.tells (E.terms c.args.end.now) Ended.WireFault log t) new)
    (kept (λ log. E.tells (E.terms c.args.end.now) Ended.WireFault log text) mid new (search rules)
    (known-map (λ log. E.stands c.say.new.end log [] text) (λ log. E.tells (E.terms c.args.end.now) Ended.WireFault log text)
    (λ log k. subst (λ e. E.tells e Ended.WireFault log text) c.say.ensures.terms (g.met.E.End.stops c.say.new.end log [] text Ended.WireFault tt k)) mid (c.in_ok-say.ensures.said text s)))

pub returns-in_err-say-clause-waits : goal.returns-in_err-say-clause-waits
returns-in_err-say-clause-waits g c text s r = reads-grown _ _ _ c.say.ensures.writes r

pub returns-in-Some-clause-waits : goal.returns-in-Some-clause-waits
returns-in-Some-clause-waits g c text s r = reads-grown _ _ _ c.say.ensures.writes r

pub returns-in-Some-is_spent-clause-waits : goal.returns-in-Some-is_spent-clause-waits
returns-in-Some-is_spent-clause-waits g c text s r = reads-grown _ _ _ c.say.ensures.writes r

pub returns-in-Ok-clause-waits : goal.returns-in-Ok-clause-waits
returns-in-Ok-clause-waits g c text s r =
    let E = g.E.End in
    let logged : Logs (g.W.Wires.state c.say.new.wires c.args.link).log (g.W.Wires.state c.read_once.new.wires c.args.link).log (read (take c.in-Ok-Bytes.count c.read_once.new.coming) ∷ []) = search rules in
    entered (λ log. ((text : List ℕ) × E.tells (E.terms c.args.end.now) (Ended.Idle 0) log text) × ReadsWhere (λ log. (text : List ℕ) × E.tells (E.terms c.args.end.now) (Ended.Idle 0) log text) log) (ReadsWhere (λ log. (text : List ℕ) × E.tells (E.terms c.args.end.now) (Ended.Idle 0) log text)) (read (take c.in-Ok-Bytes.count c.read_once.new.coming))
    (λ log h. h) _ _ logged (known-pair _ _ _
    (known-map (λ log. E.stands c.say.new.end log [] text × E.rests c.say.new.end) (λ log. (text : List ℕ) × E.tells (E.terms c.args.end.now) (Ended.Idle 0) log text)
    (λ log h. (text, subst (λ e. E.tells e (Ended.Idle 0) log text) c.say.ensures.terms (g.met.E.End.spends c.say.new.end log text (Ended.Idle 0) tt (search rules) h.1 h.0)))
    (g.W.Wires.state c.say.new.wires c.args.link).log
    (known-pair _ _ (g.W.Wires.state c.say.new.wires c.args.link).log (c.in_ok-say.ensures.said text s) (c.in_ok-say.ensures.rested text s))) (reads-grown _ _ _ c.say.ensures.writes r))

pub returns-in-Err-hear-clause-waits : goal.returns-in-Err-hear-clause-waits
returns-in-Err-hear-clause-waits g c text s r =
    let E = g.E.End in
    let logged : Logs (g.W.Wires.state c.say.new.wires c.args.link).log (g.W.Wires.state c.read_once.new.wires c.args.link).log (read (take c.in-Ok-Bytes.count c.read_once.new.coming) ∷ []) = search rules in
    entered (λ log. ((text : List ℕ) × E.tells (E.terms c.args.end.now) (Ended.Idle 0) log text) × ReadsWhere (λ log. (text : List ℕ) × E.tells (E.terms c.args.end.now) (Ended.Idle 0) log text) log) (ReadsWhere (λ log. (text : List ℕ) × E.tells (E.terms c.args.end.now) (Ended.Idle 0) log text)) (read (take c.in-Ok-Bytes.count c.read_once.new.coming))
    (λ log h. h) _ _ logged (known-pair _ _ _
    (known-map (λ log. E.stands c.say.new.end log [] text × E.rests c.say.new.end) (λ log. (text : List ℕ) × E.tells (E.terms c.args.end.now) (Ended.Idle 0) log text)
    (λ log h. (text, subst (λ e. E.tells e (Ended.Idle 0) log text) c.say.ensures.terms (g.met.E.End.spends c.say.new.end log text (Ended.Idle 0) tt (search rules) h.1 h.0)))
    (g.W.Wires.state c.say.new.wires c.args.link).log
    (known-pair _ _ (g.W.Wires.state c.say.new.wires c.args.link).log (c.in_ok-say.ensures.said text s) (c.in_ok-say.ensures.rested text s))) (reads-grown _ _ _ c.say.ensures.writes r))

pub returns-in-Ok-Quiet-clause-waits : goal.returns-in-Ok-Quiet-clause-waits
returns-in-Ok-Quiet-clause-waits g c text s r =
    let E = g.E.End in
    let logged : Logs (g.W.Wires.state c.say.new.wires c.args.link).log (g.W.Wires.state c.read_once.new.wires c.args.link).log (quiet ∷ []) = search rules in
    entered (λ log. ((text : List ℕ) × E.tells (E.terms c.args.end.now) (Ended.Idle 0) log text) × ReadsWhere (λ log. (text : List ℕ) × E.tells (E.terms c.args.end.now) (Ended.Idle 0) log text) log) (ReadsWhere (λ log. (text : List ℕ) × E.tells (E.terms c.args.end.now) (Ended.Idle 0) log text)) quiet
    (λ log h. h) _ _ logged (known-pair _ _ _
    (known-map (λ log. E.stands c.say.new.end log [] text × E.rests c.say.new.end) (λ log. (text : List ℕ) × E.tells (E.terms c.args.end.now) (Ended.Idle 0) log text)
    (λ log h. (text, subst (λ e. E.tells e (Ended.Idle 0) log text) c.say.ensures.terms (g.met.E.End.spends c.say.new.end log text (Ended.Idle 0) tt (search rules) h.1 h.0)))
    (g.W.Wires.state c.say.new.wires c.args.link).log
    (known-pair _ _ (g.W.Wires.state c.say.new.wires c.args.link).log (c.in_ok-say.ensures.said text s) (c.in_ok-say.ensures.rested text s))) (reads-grown _ _ _ c.say.ensures.writes r))

pub returns-in-Ok-End-clause-waits : goal.returns-in-Ok-End-clause-waits
returns-in-Ok-End-clause-waits g c text s r =
    let E = g.E.End in
    let logged : Logs (g.W.Wires.state c.say.new.wires c.args.link).log (g.W.Wires.state c.read_once.new.wires c.args.link).log (ended ∷ []) = search rules in
    entered (λ log. ((text : List ℕ) × E.tells (E.terms c.args.end.now) (Ended.Idle 0) log text) × ReadsWhere (λ log. (text : List ℕ) × E.tells (E.terms c.args.end.now) (Ended.Idle 0) log text) log) (ReadsWhere (λ log. (text : List ℕ) × E.tells (E.terms c.args.end.now) (Ended.Idle 0) log text)) ended
    (λ log h. h) _ _ logged (known-pair _ _ _
    (known-map (λ log. E.stands c.say.new.end log [] text × E.rests c.say.new.end) (λ log. (text : List ℕ) × E.tells (E.terms c.args.end.now) (Ended.Idle 0) log text)
    (λ log h. (text, subst (λ e. E.tells e (Ended.Idle 0) log text) c.say.ensures.terms (g.met.E.End.spends c.say.new.end log text (Ended.Idle 0) tt (search rules) h.1 h.0)))
    (g.W.Wires.state c.say.new.wires c.args.link).log
    (known-pair _ _ (g.W.Wires.state c.say.new.wires c.args.link).log (c.in_ok-say.ensures.said text s) (c.in_ok-say.ensures.rested text s))) (reads-grown _ _ _ c.say.ensures.writes r))

pub returns-in-Err-clause-waits : goal.returns-in-Err-clause-waits
returns-in-Err-clause-waits g c text s r =
    kept _ (g.W.Wires.state c.say.new.wires c.args.link).log (g.W.Wires.state c.read_once.new.wires c.args.link).log (search rules) (reads-grown _ _ _ c.say.ensures.writes r)

pub returns-in_err-say-clause-bounded : goal.returns-in_err-say-clause-bounded
returns-in_err-say-clause-bounded g c w = bounded-grown c.args.reads _ _ c.say.ensures.writes w

pub returns-in-Some-clause-bounded : goal.returns-in-Some-clause-bounded
returns-in-Some-clause-bounded g c w = bounded-grown c.args.reads _ _ c.say.ensures.writes w

pub returns-in-Some-is_spent-clause-bounded : goal.returns-in-Some-is_spent-clause-bounded
returns-in-Some-is_spent-clause-bounded g c w = bounded-grown c.args.reads _ _ c.say.ensures.writes w

pub returns-in-Err-clause-bounded : goal.returns-in-Err-clause-bounded
returns-in-Err-clause-bounded g c w =
    kept (IsWithin c.args.reads) (g.W.Wires.state c.say.new.wires c.args.link).log (g.W.Wires.state c.read_once.new.wires c.args.link).log (search rules) (bounded-grown c.args.reads _ _ c.say.ensures.writes w)

pub returns-in-Ok-clause-bounded : goal.returns-in-Ok-clause-bounded
returns-in-Ok-clause-bounded g c w =
    let old = (g.W.Wires.state c.args.wires.now c.args.link).log in
    let mid = (g.W.Wires.state c.say.new.wires c.args.link).log in
    let new = (g.W.Wires.state c.read_once.new.wires c.args.link).log in
    let logged : Logs mid new (read (take c.in-Ok-Bytes.count c.read_once.new.coming) ∷ []) = search rules in
    let tells : TellsLeft c.args.reads c.args.left.now mid = tells-same c.args.reads c.args.left.now old mid c.say.ensures.same_reads.logs c.requires.shown in
    let after : TellsLeft c.args.reads c.read_once.new.left new = search (rules, tells) in
    bounded-read c.args.reads c.args.left.now (read (take c.in-Ok-Bytes.count c.read_once.new.coming)) mid new (λ log h. h) logged tells (search rules) (search rules) (bounded-grown c.args.reads old mid c.say.ensures.writes w)
    (most-read c.args.reads c.read_once.new.left new after)

pub returns-in-Err-hear-clause-bounded : goal.returns-in-Err-hear-clause-bounded
returns-in-Err-hear-clause-bounded g c w =
    let old = (g.W.Wires.state c.args.wires.now c.args.link).log in
    let mid = (g.W.Wires.state c.say.new.wires c.args.link).log in
    let new = (g.W.Wires.state c.read_once.new.wires c.args.link).log in
    let logged : Logs mid new (read (take c.in-Ok-Bytes.count c.read_once.new.coming) ∷ []) = search rules in
    let tells : TellsLeft c.args.reads c.args.left.now mid = tells-same c.args.reads c.args.left.now old mid c.say.ensures.same_reads.logs c.requires.shown in
    let after : TellsLeft c.args.reads c.read_once.new.left new = search (rules, tells) in
    bounded-read c.args.reads c.args.left.now (read (take c.in-Ok-Bytes.count c.read_once.new.coming)) mid new (λ log h. h) logged tells (search rules) (search rules) (bounded-grown c.args.reads old mid c.say.ensures.writes w)
    (most-read c.args.reads c.read_once.new.left new after)

pub returns-in-Ok-Quiet-clause-bounded : goal.returns-in-Ok-Quiet-clause-bounded
returns-in-Ok-Quiet-clause-bounded g c w =
    let old = (g.W.Wires.state c.args.wires.now c.args.link).log in
    let mid = (g.W.Wires.state c.say.new.wires c.args.link).log in
    let new = (g.W.Wires.state c.read_once.new.wires c.args.link).log in
    let logged : Logs mid new (quiet ∷ []) = search rules in
    let tells : TellsLeft c.args.reads c.args.left.now mid = tells-same c.args.reads c.args.left.now old mid c.say.ensures.same_reads.logs c.requires.shown in
    let after : TellsLeft c.args.reads c.read_once.new.left new = search (rules, tells) in
    bounded-read c.args.reads c.args.left.now quiet mid new (λ log h. h) logged tells (search rules) (search rules) (bounded-grown c.args.reads old mid c.say.ensures.writes w)
    (most-read c.args.reads c.read_once.new.left new after)

pub returns-in-Ok-End-clause-bounded : goal.returns-in-Ok-End-clause-bounded
returns-in-Ok-End-clause-bounded g c w =
    let old = (g.W.Wires.state c.args.wires.now c.args.link).log in
    let mid = (g.W.Wires.state c.say.new.wires c.args.link).log in
    let new = (g.W.Wires.state c.read_once.new.wires c.args.link).log in
    let logged : Logs mid new (ended ∷ []) = search rules in
    let tells : TellsLeft c.args.reads c.args.left.now mid = tells-same c.args.reads c.args.left.now old mid c.say.ensures.same_reads.logs c.requires.shown in
    let grown = bounded-grown c.args.reads old mid c.say.ensures.writes w in
    bounded-read c.args.reads c.args.left.now ended mid new (λ log h. h) logged tells (search rules) (search rules) grown
    (entered (IsWithin c.args.reads) (λ log. octets_read log ≤ c.args.reads.octets) ended (λ log h. h.octets) mid new logged grown)
