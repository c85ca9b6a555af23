-- A new channel stands for the history with which its life begins.
use Rattle.std.proofs.Common.{sym, ◌∙◌, [], if◌then◌else◌, ◌==◌}
use Rattle.std.proofs.lemmas.Grind.{merely}
use Rattle.beep_history.specs.Journal.{opening}
use Rattle.beep_channel.proofs.FreshLemmas.{new-stands}
use Rattle.beep_channel.proofs.channel.Channel.new.Goals as goal

pub invariant_of-result : goal.invariant_of-result
invariant_of-result c = (
  c.in_ok-outbox.ensures.limit ∙ c.limit_of.ensures,
  c.in_ok-inbox.ensures.window ∙ sym c.new-6.ensures.sized,
  merely (
    c.args.window,
    (if c.args.number == 0 then opening else []),
    [],
    [],
    rw (c.in_ok-outbox.ensures.messages, c.in_ok-inbox.ensures.runs, c.new-4.ensures)
        (new-stands c.args.number c.args.window c.in_ok-exchange.exchange c.new-5.result c.new-6.result
        c.in_ok-exchange.ensures.stands c.in_ok-exchange.ensures.given c.new-5.ensures c.new-6.ensures),
  ),
)

pub returns-clause-stands : goal.returns-clause-stands
returns-clause-stands c =
    rw (c.in_ok-outbox.ensures.messages, c.in_ok-inbox.ensures.runs, c.new-4.ensures)
    (new-stands c.args.number c.args.window c.in_ok-exchange.exchange c.new-5.result c.new-6.result
    c.in_ok-exchange.ensures.stands c.in_ok-exchange.ensures.given c.new-5.ensures c.new-6.ensures)
