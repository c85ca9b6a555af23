-- Room is made first, so that the request is surely given once it is kept.
use Rattle.std.proofs.Common.{◌≡◌, ℕ, ◌+◌, true, false, List, length, Some, Result, Ok, Err, OnErr, sym, ap, ◌∙◌, ◌≤◌, subst}
use Rattle.std.specs.Prelude.{IfSome}
use Rattle.std.specs.Option.{option_to_list}
use Rattle.beep_upright.specs.beep_mgmt.specs.Form.{form_of}
use Rattle.beep_upright.specs.beep_outbox.specs.declared.outbox.TheConstants.{MAX_UNLIMITED}
use Rattle.beep_upright.specs.beep_outbox.specs.Queue.{message_marks}
use Rattle.beep_upright.specs.beep_channel.specs.Held.{next_ask}
use Rattle.beep_upright.specs.beep_lives.specs.Lives.{live_at}
use Rattle.beep_upright.specs.beep_lives.specs.Edits.{Edits, Gives, UsesRoom}
use Rattle.beep_hearing.specs.Hears.{HasZeroRoom}
use Rattle.beep_upright.specs.beep_management.specs.Managed.{Managed, octets_prepared}
use Rattle.beep_peer.proofs.OwedLemmas.{zero-there}
use Rattle.beep_peer.proofs.AskLemmas.{ask-upright}
use Rattle.beep_peer.proofs.AskedLemmas.{message-short, surely-given, given-zero}
use Rattle.beep_peer.proofs.UnchangedLemmas.{acts-kept, unchanged-roomed, unchanged-kept, unchanged-upright}
use Rattle.beep_peer.proofs.peer.Peer.give_request.Goals as goal

after-error : {A E P : Type 0} (result : Result A E) → P → OnErr result P
after-error (Ok value) p = tt
after-error (Err error) p = p

pub reserve_with-requires : goal.reserve_with-requires
reserve_with-requires c = record { live = zero-there c.args.self.now.lives c.args.self.now.management c.requires.held }

pub returns-in_err-reserve_with-clause-err : goal.returns-in_err-reserve_with-clause-err
returns-in_err-reserve_with-clause-err c =
    let peer = c.args.self.now in
    after-error c.from_residual.result (unchanged-roomed peer c.reserve_with.new.lives c.reserve_with.ensures.kept)

pub returns-in_err-reserve_with-clause-upright : goal.returns-in_err-reserve_with-clause-upright
returns-in_err-reserve_with-clause-upright c terms journal given taken h starts few u may =
    let peer = c.args.self.now in
    unchanged-upright terms journal peer (record peer { lives = c.reserve_with.new.lives }) (unchanged-roomed peer c.reserve_with.new.lives c.reserve_with.ensures.kept) u

pub returns-in_err-act-clause-err : goal.returns-in_err-act-clause-err
returns-in_err-act-clause-err c =
    let peer = c.args.self.now in
    after-error c.from_residual-in_err-act.result (unchanged-kept peer c.reserve_with.new.lives c.reserve_with.ensures.kept c.act.new.self
    (acts-kept peer.management c.act.new.self c.in_err-act.ensures.err c.act.ensures.mine c.in_err-act.ensures.kept))

pub returns-in_err-act-clause-upright : goal.returns-in_err-act-clause-upright
returns-in_err-act-clause-upright c terms journal given taken h starts few u may =
    let peer = c.args.self.now in
    unchanged-upright terms journal peer (record peer { lives = c.reserve_with.new.lives; management = c.act.new.self })
    (unchanged-kept peer c.reserve_with.new.lives c.reserve_with.ensures.kept c.act.new.self
    (acts-kept peer.management c.act.new.self c.in_err-act.ensures.err c.act.ensures.mine c.in_err-act.ensures.kept)) u

pub give_ask-requires-clause-fits : goal.give_ask-requires-clause-fits
give_ask-requires-clause-fits c zero =
    subst (λ (o : List ℕ). length o ≤ MAX_UNLIMITED) (sym c.as_slice.ensures) (message-short c.args.text.now.octets (form_of c.args.value) c.requires.message)

pub unreachable-requires : goal.unreachable-requires
unreachable-requires c =
    let peer = c.args.self.now in
    let text : c.len.result ≡ length c.as_slice.result.now = c.len.ensures ∙ sym (ap length c.as_slice.ensures) in
    let none : false ≡ true = surely-given peer.lives c.reserve_with.new.lives (length c.as_slice.result.now) (octets_prepared peer.management.answers)
    (length peer.management.answers) (false ≡ true) c.reserve_with.ensures.kept c.requires.asked
    (subst (λ (n : ℕ). HasZeroRoom (octets_prepared peer.management.answers + n) (length peer.management.answers + 1) c.reserve_with.new.lives) text
    c.in_ok-reserve_with.ensures.ok) c.in-Err.ensures.succeeds in
    cc

pub returns-clause-ok : goal.returns-clause-ok
returns-clause-ok c size journal given taken h starts few =
    let peer = c.args.self.now in
    given-zero size journal given taken peer.lives peer.management h c.reserve_with.new.lives _ c.args.text.now.octets (form_of c.args.value) c.args.names
    (option_to_list c.args.channel) c.reserve_with.ensures.kept
    (subst (λ (o : List ℕ). IfSome (live_at 0 c.reserve_with.new.lives) (λ channel. Edits 0 (Gives (message_marks (next_ask channel.held o))) c.reserve_with.new.lives c.give_ask.new.self))
    c.as_slice.ensures c.in-Ok.ensures.ok)
    (subst (λ (o : List ℕ). Edits 0 (UsesRoom (length o)) c.reserve_with.new.lives c.give_ask.new.self) c.as_slice.ensures c.in-Ok.ensures.used)
    (subst (λ (n : ℕ). HasZeroRoom (octets_prepared peer.management.answers + n) (length peer.management.answers + 1) c.reserve_with.new.lives) c.len.ensures
    c.in_ok-reserve_with.ensures.ok)
    c.requires.message c.in_ok-act.ensures.ok c.in_ok-act.ensures.acts c.act.ensures.mine c.in_ok-act.ensures.room starts few

pub returns-clause-upright : goal.returns-clause-upright
returns-clause-upright c terms journal given taken h starts few u may =
    let peer = c.args.self.now in
    let new = record peer { lives = c.give_ask.new.self; management = c.act.new.self } in
    ask-upright terms journal given taken c.args.text.now.octets peer new h
    (given-zero terms.window journal given taken peer.lives peer.management h c.reserve_with.new.lives new c.args.text.now.octets (form_of c.args.value) c.args.names
    (option_to_list c.args.channel) c.reserve_with.ensures.kept
    (subst (λ (o : List ℕ). IfSome (live_at 0 c.reserve_with.new.lives) (λ channel. Edits 0 (Gives (message_marks (next_ask channel.held o))) c.reserve_with.new.lives c.give_ask.new.self))
    c.as_slice.ensures c.in-Ok.ensures.ok)
    (subst (λ (o : List ℕ). Edits 0 (UsesRoom (length o)) c.reserve_with.new.lives c.give_ask.new.self) c.as_slice.ensures c.in-Ok.ensures.used)
    (subst (λ (n : ℕ). HasZeroRoom (octets_prepared peer.management.answers + n) (length peer.management.answers + 1) c.reserve_with.new.lives) c.len.ensures
    c.in_ok-reserve_with.ensures.ok)
    c.requires.message c.in_ok-act.ensures.ok c.in_ok-act.ensures.acts c.act.ensures.mine c.in_ok-act.ensures.room starts few)
    u (record { said = Some (form_of c.args.value); implied = false; names = c.args.names }) c.args.channel c.in_ok-act.ensures.acts c.act.ensures.mine.requests
    c.in_ok-act.ensures.ok starts may

pub returns-clause-kept : goal.returns-clause-kept
returns-clause-kept c = record { acts = c.in_ok-act.ensures.acts; starting = ap (λ (m : Managed). m.starting) c.in_ok-act.ensures.ok; answers = ap (λ (m : Managed). m.answers) c.in_ok-act.ensures.ok }
