use Rattle.std.proofs.Common.{◌≡◌, ℕ, ◌≤◌, List, [], ◌∷◌, ◌++◌, length, Some, refl, sym, ap, subst, ◌∙◌, append_assoc, arith}
use Rattle.std.proofs.lemmas.List.Folds.{list_all-append}
use Rattle.beep_text.specs.declared.limits.TheConstants.{MAX_TEXT}
use Rattle.beep_text.specs.Tree.{Tree}
use Rattle.beep_text.specs.Elements.{IsBody, Stops}
use Rattle.beep_text.specs.Canonical.{element_text}
use Rattle.beep_chars.specs.Characters.{is_space}
use Rattle.beep_mime.specs.Split.{body_of, mime_header}
use Rattle.beep_mime.proofs.SplitLemmas.{body_of-header}
use Rattle.beep_mgmt.specs.declared.read.MgmtError.{MgmtError}
use Rattle.beep_mgmt.specs.Form.{Form}
use Rattle.beep_mgmt.specs.Said.{form_said}
use Rattle.beep_mgmt.specs.Written.{element_as}
use Rattle.beep_chars.proofs.BoolLemmas.{both}
use Rattle.beep_mgmt.specs.Message.{Says, SaysNothing, RefusesMessage, message_text}

abbrev pub OneElement : Type 0
OneElement = (body : List ℕ) (e f : Tree) → IsBody body e → IsBody body f → e ≡ f

abbrev pub NoStop : Type 0
NoStop = (body : List ℕ) (e : Tree) (q : ℕ) → IsBody body e → ¬ (Stops body q)

some_is : (f g : Form) → Some f ≡ Some g → f ≡ g
some_is f g same = cc same

pub one_value : OneElement → (payload : List ℕ) (f g : Form) → Says payload f → Says payload g → f ≡ g
one_value one payload f g first second =
    some_is f g (sym first.form_is ∙ ap form_said (one (body_of payload) first.element second.element first.body second.body) ∙ second.form_is)

says_some : OneElement → (payload : List ℕ) (form : Form) → Says payload form → SaysNothing payload → ⊥
says_some one payload form says nothing_said =
    absurd (cc (sym says.form_is ∙ ap form_said (one (body_of payload) says.element nothing_said.element says.body nothing_said.body) ∙ nothing_said.none))

pub read_unless : OneElement → NoStop → (payload : List ℕ) (form : Form) (error : MgmtError) → Says payload form → length payload ≤ MAX_TEXT
    → RefusesMessage payload error → error ≡ MgmtError.NoMemory
read_unless one no_stop payload form (MgmtError.Malformed q) says within refused = absurd (no_stop (body_of payload) says.element q says.body refused.1)
read_unless one no_stop payload form (MgmtError.Entity p) says within refused = absurd (no_stop (body_of payload) says.element refused.1.0 says.body refused.1.1)
read_unless one no_stop payload form MgmtError.TooLong says within refused = absurd (omega (arith, within, refused))
read_unless one no_stop payload form MgmtError.Shape says within refused = absurd (says_some one payload form says refused)
read_unless one no_stop payload form MgmtError.NoMemory says within refused = refl

-- ---- the message that is written

-- a body goes on with CR LF
ended : (body : List ℕ) (e : Tree) → IsBody body e → IsBody (body ++ 13 ∷ 10 ∷ []) e
ended body e is = record {
  before = is.before;
  root = is.root;
  after = is.after ++ 13 ∷ 10 ∷ [];
  text = ap (λ bs. bs ++ 13 ∷ 10 ∷ []) is.text ∙ append_assoc _ is.after (13 ∷ 10 ∷ []);
  spaces_before = is.spaces_before;
  spaces_after = list_all-append is_space is.after (13 ∷ 10 ∷ []) ∙ both _ _ is.spaces_after refl;
  one = is.one;
  pieces = is.pieces;
  value = is.value;
}

pub message_says : (form : Form) → IsBody (element_text (element_as form)) (element_as form) → form_said (element_as form) ≡ Some form → Says (message_text form) form
message_says form is said =
    let text = element_text (element_as form) in
    let body = ap body_of (append_assoc mime_header text (13 ∷ 10 ∷ [])) ∙ body_of-header (text ++ 13 ∷ 10 ∷ []) in
    record {
      element = element_as form;
      body = subst (λ (x : List ℕ). IsBody x (element_as form)) (sym body) (ended text (element_as form) is);
      form_is = said;
    }
