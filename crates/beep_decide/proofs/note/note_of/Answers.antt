-- The text of a code, whose octets are its characters.
use Rattle.std.proofs.Common.{refl, arith, codes}
use Rattle.beep_decide.proofs.NoteLemmas.{note-text, note-either, no-note}
use Rattle.beep_decide.proofs.note.note_of.Goals as goal

pub returns-in-450-clause-value : goal.returns-in-450-clause-value
returns-in-450-clause-value c = note-either c.args.code c.in-450.is

pub returns-in-451-clause-value : goal.returns-in-451-clause-value
returns-in-451-clause-value c = note-text c.args.code 451 (codes "requested action aborted") c.in-451.is refl refl

pub returns-in-500-clause-value : goal.returns-in-500-clause-value
returns-in-500-clause-value c = note-text c.args.code 500 (codes "general syntax error") c.in-500.is refl refl

pub returns-in-501-clause-value : goal.returns-in-501-clause-value
returns-in-501-clause-value c = note-text c.args.code 501 (codes "syntax error in parameters") c.in-501.is refl refl

pub returns-in-504-clause-value : goal.returns-in-504-clause-value
returns-in-504-clause-value c = note-text c.args.code 504 (codes "parameter not implemented") c.in-504.is refl refl

pub returns-in-537-clause-value : goal.returns-in-537-clause-value
returns-in-537-clause-value c = note-text c.args.code 537 (codes "action not authorized for user") c.in-537.is refl refl

pub returns-in-553-clause-value : goal.returns-in-553-clause-value
returns-in-553-clause-value c = note-text c.args.code 553 (codes "parameter invalid") c.in-553.is refl refl

pub returns-in_default-clause-value : goal.returns-in_default-clause-value
returns-in_default-clause-value c =
    no-note c.args.code (λ e. grind (arith, e)) (λ e. grind (arith, e)) (λ e. omega (arith, e)) (λ e. omega (arith, e)) (λ e. omega (arith, e)) (λ e. omega (arith, e)) (λ e. omega (arith, e)) (λ e. omega (arith, e))
