-- Words have a fault exactly where they are no command.
use Rattle.std.proofs.Common.{◌≡◌, ◌↔◌, ℕ, ◌-◌, Bool, true, false, not, ◌&&◌, cond, List, [], ◌∷◌, length, codes, Option, Some, None, is_some, refl, ap, sym, ◌∙◌, subst}
use Rattle.std.specs.Str.{bytes_eq}
use Rattle.std.proofs.lemmas.Slice.Eq.{bytes_eq-Decides}
use Rattle.beep_words.specs.declared.form.Form.{Form}
use Rattle.beep_words.specs.declared.command.Command.{Command}
use Rattle.beep_words.specs.declared.faults.Fault.{Fault}
use Rattle.beep_words.specs.CommandSet.{OptionRow, form_in, show_options, send_options, listen_options, pair_options, IsCommand, IsNoCommand}
use Rattle.beep_words.specs.Choosing.{value_of_word, is_of_some, is_among, are_options, is_lone, are_listen_options, IsBound, asked, command_in, first_some, command_at}
use Rattle.beep_words.specs.Faults.{last_fault, set_fault, option_fault, listen_fault, command_fault, fault_in}
use Rattle.beep_words.proofs.CommandLemmas.{tests, command_is}

-- ---- options

-- a fault of one option, or else one of those after it
one_or_rest : (v m b : Bool) (x y : Fault) (rest : Option Fault) → is_some rest ≡ not b → is_some (first_some (cond (not v) (Some x) (cond m (Some y) None)) rest) ≡ not (v && not m && b)
one_or_rest false m b x y rest e = refl
one_or_rest true true b x y rest e = refl
one_or_rest true false b x y rest e = e

set_or_rest : (o : Option Form) (place : ℕ) (name word : List ℕ) (words : List (List ℕ)) (b : Bool) (rest : Option Fault) → is_some rest ≡ not b
    → is_some (first_some (set_fault o place name word words) rest) ≡ not (is_of_some o word && not (is_among name words) && b)
set_or_rest None place name word words b rest e = refl
set_or_rest (Some form) place name word words b rest e = one_or_rest (is_some (value_of_word form word)) (is_among name words) b _ _ rest e

option_faults : (rows : List OptionRow) (count : ℕ) (words : List (List ℕ)) → is_some (option_fault rows count words) ≡ not (are_options rows words)
option_faults rows count [] = refl
option_faults rows count (name ∷ []) = refl
option_faults rows count (name ∷ word ∷ words) =
    set_or_rest (form_in rows name) (count - length words - 2) name word words (are_options rows words) (option_fault rows count words) (option_faults rows count words)

listen_or : (o : Option Fault) (a bound lone : Bool) (x y : Fault) → is_some o ≡ not a → is_some (first_some o (cond (not bound) (Some x) (cond (not lone) (Some y) None))) ≡ not (a && bound && lone)
listen_or (Some fault) true bound lone x y e = cc
listen_or (Some fault) false bound lone x y e = refl
listen_or None true false lone x y e = refl
listen_or None true true false x y e = refl
listen_or None true true true x y e = refl
listen_or None false bound lone x y e = cc

listen_faults : (bound : Bool) (count : ℕ) (words : List (List ℕ)) → is_some (first_some (option_fault listen_options count words) (listen_fault bound count words)) ≡ not (are_listen_options bound words)
listen_faults bound count words =
    listen_or (option_fault listen_options count words) (are_options listen_options words) bound (is_lone words) _ _ (option_faults listen_options count words)

-- ---- commands

some_if : {A : Type 0} (b : Bool) (x : A) → is_some (cond b (Some x) None) ≡ b
some_if true x = refl
some_if false x = refl

-- an option is set where a test holds
not_some_if : {A : Type 0} (b : Bool) (x : A) (f : Bool) → f ≡ not b → f ≡ not (is_some (cond b (Some x) None))
not_some_if b x f e = e ∙ ap not (sym (some_if b x))

module _ (bound : Bool) (count : ℕ) (words : List (List ℕ)) where
  -- a command of this name has a fault exactly where it isn't made
  abbrev Agrees : List ℕ → Type 0
  Agrees name = is_some (command_fault bound count name words) ≡ not (is_some (command_in bound name words))

  named_agrees : (name command : List ℕ) → bytes_eq name command ≡ true → Agrees command → Agrees name
  named_agrees name command e a = subst Agrees (sym ((bytes_eq-Decides name command).0 e)) a

  show_agrees : Agrees (codes "show")
  show_agrees = not_some_if (are_options show_options words) _ _ (option_faults show_options count words)

  replay_agrees : Agrees (codes "replay")
  replay_agrees = not_some_if (are_options [] words) _ _ (option_faults [] count words)

  send_agrees : Agrees (codes "send")
  send_agrees = not_some_if (are_options send_options words) _ _ (option_faults send_options count words)

  listen_agrees : Agrees (codes "listen")
  listen_agrees = not_some_if (are_listen_options bound words) _ _ (listen_faults bound count words)

  pair_agrees : Agrees (codes "pair")
  pair_agrees = not_some_if (are_options pair_options words) _ _ (option_faults pair_options count words)

  -- by the tests of the name
  agrees : (name : List ℕ) (a b c d f : Bool) → bytes_eq name (codes "show") ≡ a → bytes_eq name (codes "replay") ≡ b → bytes_eq name (codes "send") ≡ c → bytes_eq name (codes "listen") ≡ d → bytes_eq name (codes "pair") ≡ f → Agrees name
  agrees name true b c d f fa fb fc fd ff = named_agrees name (codes "show") fa show_agrees
  agrees name false true c d f fa fb fc fd ff = named_agrees name (codes "replay") fb replay_agrees
  agrees name false false true d f fa fb fc fd ff = named_agrees name (codes "send") fc send_agrees
  agrees name false false false true f fa fb fc fd ff = named_agrees name (codes "listen") fd listen_agrees
  agrees name false false false false true fa fb fc fd ff = named_agrees name (codes "pair") ff pair_agrees
  agrees name false false false false false fa fb fc fd ff =
      let none : command_in bound name words ≡ None = tests bound name words false false false false false
      (ap (λ (x : Bool). x && are_options show_options words) fa) (ap (λ (x : Bool). x && are_options [] words) fb) (ap (λ (x : Bool). x && are_options send_options words) fc)
      (ap (λ (x : Bool). x && are_listen_options bound words) fd) (ap (λ (x : Bool). x && are_options pair_options words) ff) in
      let unknown : command_fault bound count name words ≡ Some Fault.UnknownCommand = rw (fa, fb, fc, fd, ff) refl in
      ap is_some unknown ∙ ap (λ (o : Option Command). not (is_some o)) (sym none)

asked_or : (bound : Bool) (name : List ℕ) (words : List (List ℕ)) (o : Option Command)
    → is_some (cond (is_some o) None (command_fault bound (length (name ∷ words)) name words)) ≡ not (is_some (first_some o (command_in bound name words)))
asked_or bound name words (Some question) = refl
asked_or bound name words None =
    agrees bound (length (name ∷ words)) words name (bytes_eq name (codes "show")) (bytes_eq name (codes "replay")) (bytes_eq name (codes "send")) (bytes_eq name (codes "listen")) (bytes_eq name (codes "pair")) refl refl refl refl refl

faults : (bound : Bool) (words : List (List ℕ)) → is_some (fault_in bound words) ≡ not (is_some (command_at bound words))
faults bound [] = refl
faults bound (name ∷ words) = asked_or bound name words (asked (name ∷ words))

-- ---- faults and commands

none_of : {A : Type 0} (o : Option A) → is_some o ≡ false → o ≡ None
none_of None e = refl
none_of (Some x) e = cc

-- where the words have no fault they are a command
pub no_fault : (bound : Bool) (words : List (List ℕ)) → ((bound ≡ true) ↔ IsBound words) → fault_in bound words ≡ None → IsNoCommand words → ⊥
no_fault bound words known e none = by_command (command_at bound words) refl
  where
    by_command : (o : Option Command) → command_at bound words ≡ o → ⊥
    by_command None f =
        let two : false ≡ true = ap is_some (sym e) ∙ faults bound words ∙ ap (λ (o : Option Command). not (is_some o)) f in
        cc
    by_command (Some command) f = none command ((command_is bound words known command).0 f)

-- a command has no fault
pub command_has_none : (bound : Bool) (words : List (List ℕ)) → ((bound ≡ true) ↔ IsBound words) → (command : Command) → IsCommand command words → fault_in bound words ≡ None
command_has_none bound words known command i =
    none_of (fault_in bound words) (faults bound words ∙ ap (λ (o : Option Command). not (is_some o)) ((command_is bound words known command).1 i))

-- two tests of one fact agree
pub same_test : (A : Type 0) (a b : Bool) → ((a ≡ true) ↔ A) → ((b ≡ true) ↔ A) → a ≡ b
same_test A true b known other = sym (other.1 (known.0 refl))
same_test A false true known other = known.1 (other.0 refl)
same_test A false false known other = refl
