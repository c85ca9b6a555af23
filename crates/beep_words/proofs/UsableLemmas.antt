-- What words say is in its range.
use Rattle.std.proofs.Common.{◌≡◌, ℕ, ◌≤◌, Bool, true, false, ◌&&◌, nat_le, cond, List, [], ◌∷◌, length, codes, chars, IsAscii, suc, zero, refl, ap, ap₂, sym, ◌∙◌, subst, arith}
use Rattle.std.specs.List.{list_all, AllByRecursion}
use Rattle.std.specs.Str.{bytes_eq}
use Rattle.std.proofs.lemmas.Slice.Eq.{bytes_eq-Decides}
use Rattle.std.proofs.lemmas.Bool.Decides.{nat_tests}
use Rattle.std.proofs.lemmas.Str.{chars-IsAscii}
use Rattle.beep_chars.specs.Characters.{is_allowed}
use Rattle.beep_settings.specs.declared.settings.Settings.{Settings}
use Rattle.beep_settings.specs.declared.settings.TheConstants.{RAW_URI, PORT, PIECE, IDLE, OCTETS, SESSIONS}
use Rattle.beep_words.specs.declared.form.Form.{Form}
use Rattle.beep_settings.specs.declared.limits.TheConstants.{MAX_PIECE}
use Rattle.beep_seq.specs.declared.limits.TheConstants.{INITIAL_WINDOW, MIN_WINDOW, MAX_WINDOW}
use Rattle.beep_chars.specs.declared.limits.TheConstants.{MAX_URI}
use Rattle.beep_words.specs.declared.options.TheConstants.{MAX_PORT, MAX_IDLE, MAX_SETTING, MAX_SESSIONS}
use Rattle.beep_words.specs.CommandSet.{Value, choice, number, text, is_printable, OptionRow, Chosen, form_in, IsText, IsOf, IsOfSome, IsTaken, value_in, IsTextOf, IsEnd, IsSend, IsListen, IsPair, send_options, listen_options, pair_options}
use Rattle.beep_words.specs.declared.command.PairSettings.{PairSettings}
use Rattle.beep_words.specs.Usable.{IsUsable, IsPairUsable}
use Rattle.beep_words.proofs.ValueLemmas.{and_left, and_right}
use Rattle.beep_words.proofs.OptionLemmas.{Takes}

-- ---- what an option is set to is of its form

module _ (rows : List OptionRow) (name : List ℕ) (form : Form) (takes : Takes rows name (IsOf form)) (default : Value) (own : IsOf form default) where
  of_form : (chosen : List Chosen) → AllByRecursion (IsTaken rows) chosen → IsOf form (value_in name default chosen)
  of_form [] each = own
  of_form (c ∷ chosen) each = by_test (bytes_eq c.name name) refl (of_form chosen each.1)
    where
      by_test : (b : Bool) → bytes_eq c.name name ≡ b → IsOf form (value_in name default chosen) → IsOf form (cond (bytes_eq c.name name) c.value (value_in name default chosen))
      by_test true f rest =
          let is : IsOf form c.value = takes c.value (subst (λ (n : List ℕ). IsOfSome (form_in rows n) c.value) ((bytes_eq-Decides c.name name).0 f) each.0) in
          subst (λ (b : Bool). IsOf form (cond b c.value (value_in name default chosen))) (sym f) is
      by_test false f rest = subst (λ (b : Bool). IsOf form (cond b c.value (value_in name default chosen))) (sym f) rest

-- ---- printable characters are allowed

printable_allowed : (c : ℕ) → is_printable c ≡ true → is_allowed c ≡ true
printable_allowed c e =
    let least : 32 ≤ c = grind (arith, nat_tests, and_left (nat_le 32 c) (nat_le c 126) e) in
    let most : c ≤ 126 = grind (arith, nat_tests, and_right (nat_le 32 c) (nat_le c 126) e) in
    grind (arith, nat_tests, least, most)

printable_ascii : (c : ℕ) → is_printable c ≡ true → c ≤ 127
printable_ascii c e = let most : c ≤ 126 = grind (arith, nat_tests, and_right (nat_le 32 c) (nat_le c 126) e) in omega (arith, most)

all_allowed : (cs : List ℕ) → list_all is_printable cs ≡ true → list_all is_allowed cs ≡ true
all_allowed [] e = refl
all_allowed (c ∷ cs) e =
    ap₂ (λ a b. a && b) (printable_allowed c (and_left (is_printable c) (list_all is_printable cs) e)) (all_allowed cs (and_right (is_printable c) (list_all is_printable cs) e))

are_ascii : (cs : List ℕ) → list_all is_printable cs ≡ true → IsAscii cs
are_ascii [] e i = omega arith
are_ascii (c ∷ cs) e zero = let most = printable_ascii c (and_left (is_printable c) (list_all is_printable cs) e) in omega (arith, most)
are_ascii (c ∷ cs) e (suc i) = are_ascii cs (and_right (is_printable c) (list_all is_printable cs) e) i

-- the characters of a text that is printable
pub record IsUri (uri : List ℕ) : Type 0 where
  pub some : 1 ≤ length uri
  pub few : length uri ≤ MAX_URI
  pub allowed : list_all is_allowed uri ≡ true

uri_of : (uri octets : List ℕ) → uri ≡ chars octets → IsText MAX_URI octets → list_all is_printable octets ≡ true → IsUri uri
uri_of uri octets e t p =
    let same : uri ≡ octets = e ∙ chars-IsAscii octets (are_ascii octets p) in
    record {
      some = subst (λ (x : List ℕ). 1 ≤ length x) (sym same) t.some;
      few = subst (λ (x : List ℕ). length x ≤ MAX_URI) (sym same) t.few;
      allowed = ap (list_all is_allowed) same ∙ all_allowed octets p;
    }

uri_in : (uri : List ℕ) (value : Value) → IsTextOf uri value → IsOf (Form.Printable MAX_URI) value → IsUri uri
uri_in uri (choice b) t i = absurd t
uri_in uri (number n) t i = absurd t
uri_in uri (text octets) t i = uri_of uri octets t i.0 i.1

-- ---- settings

-- the options that both commands have, and what `send` takes of those of `listen`
pub record TakesEnd (rows : List OptionRow) : Type 0 where
  pub port : Takes rows (codes "--port") (IsOf (Form.Number 1 MAX_PORT))
  pub uri : Takes rows (codes "--raw-uri") (IsOf (Form.Printable MAX_URI))
  pub window : Takes rows (codes "--window") (IsOf (Form.Number MIN_WINDOW MAX_WINDOW))
  pub piece : Takes rows (codes "--piece") (IsOf (Form.Number 1 MAX_PIECE))
  pub idle : Takes rows (codes "--idle") (IsOf (Form.Number 1 MAX_IDLE))
  pub octets : Takes rows (codes "--octets") (IsOf (Form.Number 1 MAX_SETTING))
  pub sessions : Takes rows (codes "--sessions") (IsOf (Form.Number 1 MAX_SESSIONS))

send_takes : TakesEnd send_options
send_takes = record {
  port = λ v i. i;
  uri = λ v i. i;
  window = λ v i. i;
  piece = λ v i. i;
  idle = λ v i. i;
  octets = λ v i. i;
  sessions = λ v i. absurd i;
}

listen_takes : TakesEnd listen_options
listen_takes = record {
  port = λ v i. i;
  uri = λ v i. i;
  window = λ v i. i;
  piece = λ v i. i;
  idle = λ v i. i;
  octets = λ v i. i;
  sessions = λ v i. i;
}

number_of : (least most n : ℕ) (value : Value) → number n ≡ value → IsOf (Form.Number least most) value → (least ≤ n) × (n ≤ most)
number_of least most n value e i = subst (λ (v : Value). IsOf (Form.Number least most) v) (sym e) i

own_uri : IsOf (Form.Printable MAX_URI) (text RAW_URI.now)
own_uri = (record { some = omega arith; few = omega arith; plain = refl }, refl)

usable : (command : List ℕ) (rows : List OptionRow) → TakesEnd rows → (settings : Settings) (words : List (List ℕ)) → IsEnd command rows settings words → IsUsable settings
usable command rows t settings words s =
    let each = s.are_words.each in
    let uri = uri_in settings.raw_uri _ s.raw_uri (of_form rows (codes "--raw-uri") (Form.Printable MAX_URI) t.uri (text RAW_URI.now) own_uri s.chosen each) in
    record {
      ranged = record {
        port = number_of 1 MAX_PORT settings.port _ s.port (of_form rows (codes "--port") (Form.Number 1 MAX_PORT) t.port (number PORT) (omega arith, omega arith) s.chosen each);
        window = number_of MIN_WINDOW MAX_WINDOW settings.window _ s.window (of_form rows (codes "--window") (Form.Number MIN_WINDOW MAX_WINDOW) t.window (number INITIAL_WINDOW) (omega arith, omega arith) s.chosen each);
        piece = number_of 1 MAX_PIECE settings.piece _ s.piece (of_form rows (codes "--piece") (Form.Number 1 MAX_PIECE) t.piece (number PIECE) (omega arith, omega arith) s.chosen each);
        idle = number_of 1 MAX_IDLE settings.idle _ s.idle (of_form rows (codes "--idle") (Form.Number 1 MAX_IDLE) t.idle (number IDLE) (omega arith, omega arith) s.chosen each);
        octets = number_of 1 MAX_SETTING settings.octets _ s.octets (of_form rows (codes "--octets") (Form.Number 1 MAX_SETTING) t.octets (number OCTETS) (omega arith, omega arith) s.chosen each);
        sessions = number_of 1 MAX_SESSIONS settings.sessions _ s.sessions (of_form rows (codes "--sessions") (Form.Number 1 MAX_SESSIONS) t.sessions (number SESSIONS) (omega arith, omega arith) s.chosen each);
      };
      some = uri.some;
      few = uri.few;
      allowed = uri.allowed;
    }

pub send_is_usable : (settings : Settings) (words : List (List ℕ)) → IsSend settings words → IsUsable settings
send_is_usable = usable (codes "send") send_options send_takes

pub listen_is_usable : (settings : Settings) (words : List (List ℕ)) → IsListen settings words → IsUsable settings
listen_is_usable settings words s = usable (codes "listen") listen_options listen_takes settings words s.is_end

pub pair_is_usable : (settings : PairSettings) (words : List (List ℕ)) → IsPair settings words → IsPairUsable settings
pair_is_usable settings words s =
    let each = s.are_words.each in
    let window : Takes pair_options (codes "--window") (IsOf (Form.Number MIN_WINDOW MAX_WINDOW)) = λ v i. i in
    let piece : Takes pair_options (codes "--piece") (IsOf (Form.Number 1 MAX_PIECE)) = λ v i. i in
    record {
      window = number_of MIN_WINDOW MAX_WINDOW settings.window _ s.window (of_form pair_options (codes "--window") (Form.Number MIN_WINDOW MAX_WINDOW) window (number INITIAL_WINDOW) (omega arith, omega arith) s.chosen each);
      piece = number_of 1 MAX_PIECE settings.piece _ s.piece (of_form pair_options (codes "--piece") (Form.Number 1 MAX_PIECE) piece (number PIECE) (omega arith, omega arith) s.chosen each);
    }
