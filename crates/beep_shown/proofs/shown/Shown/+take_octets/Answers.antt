-- The first octet is taken, and then the others.
use Rattle.std.proofs.Common.{List, OnOk, subst}
use Rattle.beep_journal.specs.Log.{Moment}
use Rattle.beep_shown.specs.Shown.{ShowsBy}
use Rattle.beep_shown.proofs.ShownLemmas.{many-first}
use Rattle.beep_shown.proofs.shown.Shown.+take_octets.Goals as goal

pub returns-in_ok-take-in-len1-up : goal.returns-in_ok-take-in-len1-up
returns-in_ok-take-in-len1-up n c log shows =
    subst (λ (l : List Moment). OnOk c.take_octets.result (ShowsBy c.take_octets.new.self l)) (many-first c.args.side c.args.octets.now log c.in-len1-up.len_at_least)
    (c.take_octets.ensures _ (c.in_ok-take-in-len1-up.ensures log shows))
