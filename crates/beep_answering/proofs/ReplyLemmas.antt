-- A reply that has the form that its request asks for, of whichever kind.
use Rattle.std.proofs.Common.{◌≡◌, true, Option, refl}
use Rattle.std.proofs.Math.Bool.{or-true}
use Rattle.beep_management.specs.beep_frame.specs.declared.kind.Kind.{Kind}
use Rattle.beep_management.specs.beep_mgmt.specs.Form.{Form}
use Rattle.beep_management.specs.beep_asked.specs.Kept.{Kept, fits}
use Rattle.beep_answering.specs.Decided.{is_reply_to}

pub replies : (kind : Kind) (reply : Option Form) (kept : Kept) → fits kind reply kept ≡ true → is_reply_to kept reply ≡ true
replies Kind.Msg reply kept is = absurd (cc is)
replies Kind.Rpy reply kept is = rw is refl
replies Kind.Err reply kept is = rw is (or-true (fits Kind.Rpy reply kept))
replies Kind.Ans reply kept is = absurd (cc is)
replies Kind.Nul reply kept is = absurd (cc is)
