use Rattle.std.proofs.Common.{refl, sym, append-nil, subst, Option}
use Rattle.beep_frame.specs.declared.head.Head.{Head}
use Rattle.beep_history.specs.declared.journal.Side.{Side}
use Rattle.beep_journal.specs.Journal.{no_past}
use Rattle.beep_record.specs.Following.{IsSide}
use Rattle.beep_record.proofs.replayer.Replayer.new.Goals as goal

pub returns : goal.returns
returns c octets = record {
  past = no_past;
  shows = refl;
  verdict_is = refl;
  both = λ _. record {
    received = subst (λ (u : Option Head). IsSide Side.Received c.in_ok-new.field-0 u no_past) (sym (c.in_ok-new-3.ensures.idle Side.Received)) (c.in_ok-new.ensures Side.Received);
    sent = subst (λ (u : Option Head). IsSide Side.Sent c.in_ok-new-2.field-0 u no_past) (sym (c.in_ok-new-3.ensures.idle Side.Sent)) (c.in_ok-new-2.ensures Side.Sent);
    judged = c.in_ok-new-3.ensures.stands;
  };
  text_is = sym (append-nil octets);
}
