use Rattle.std.proofs.Common.{◌≡◌, ◌==◌, ◌&&◌, not, Bool, true, false, None, Option, List, IfOk, refl, sym, ◌∙◌, subst}
use Rattle.beep_frame.specs.declared.kind.Kind.{Kind}
use Rattle.beep_frame.specs.Frame.{same_kind}
use Rattle.std.specs.Option.{option_copied}
use Rattle.beep_history.specs.Journal.{Item, history_of}
use Rattle.beep_mgmt.specs.Form.{Form}
use Rattle.beep_journal.specs.Plain.{tunes_of, form_in}
use Rattle.beep_lawful.specs.declared.breach.Breach.{Breach}
use Rattle.beep_lawful.specs.Lawful.{first_breach, content_tests, granted_position, granted_said}
use Rattle.beep_lawful.proofs.frames.first_of_content.Goals as goal

pub returns : goal.returns
returns c =
    let journal : List Item = history_of c.args.journal.now in
    let test : (c.args.head.now.channel == 0 && same_kind Kind.Rpy c.args.head.now.kind && not c.args.head.now.more) ≡ false =
    sym c.is_grant.ensures ∙ c.if-is_grant.false in
    let nothing : granted_said journal c.args.head.now ≡ None = rw test refl in
    subst (λ (said : Option Form). IfOk c.first_of_other.result (λ (breach : Option Breach). breach ≡ first_breach (content_tests c.args.terms.now (tunes_of c.args.tuning.now) journal (form_in (option_copied c.args.asks)) (granted_position journal c.args.head.now) said)))
    (sym nothing) (c.first_of_other.ensures (granted_position journal c.args.head.now))
