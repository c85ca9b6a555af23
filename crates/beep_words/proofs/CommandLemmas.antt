-- Which words are a command, by going over them.
use Rattle.std.proofs.Common.{◌≡◌, ◌↔◌, ℕ, ◌≤◌, Bool, true, false, not, ◌&&◌, ◌||◌, ◌==◌, cond, min, List, [], ◌∷◌, ◌++◌, codes, chars, Option, Some, None, refl, ap, ap₂, sym, ◌∙◌, subst, arith}
use Rattle.std.specs.Result.{IfOk, OnErr}
use Rattle.std.specs.declared.result.Result.{Result}
use Rattle.std.specs.declared.result.Result.TheVariants.{Ok, Err}
use Rattle.std.specs.List.{flat_map, AllByRecursion}
use Rattle.std.specs.Str.{bytes_eq}
use Rattle.std.proofs.lemmas.Slice.Eq.{bytes_eq-Decides}
use Rattle.std.proofs.lemmas.Bool.Decides.{nat_tests}
use Rattle.beep_settings.specs.declared.settings.Settings.{Settings}
use Rattle.beep_settings.specs.declared.settings.TheConstants.{HOST, BIND, RAW_URI, PORT, PIECE, IDLE, OCTETS, SESSIONS}
use Rattle.beep_words.specs.declared.form.Form.{Form}
use Rattle.beep_words.specs.declared.command.ShowSettings.{ShowSettings}
use Rattle.beep_words.specs.declared.command.PairSettings.{PairSettings}
use Rattle.beep_words.specs.declared.command.Command.{Command}
use Rattle.beep_words.specs.declared.command.Topic.{Topic}
use Rattle.beep_settings.specs.declared.limits.TheConstants.{MAX_PIECE}
use Rattle.beep_seq.specs.declared.limits.TheConstants.{INITIAL_WINDOW, MIN_WINDOW, MAX_WINDOW}
use Rattle.beep_chars.specs.declared.limits.TheConstants.{MAX_URI}
use Rattle.beep_words.specs.declared.options.TheConstants.{MAX_HOST, MAX_ADDRESS, MAX_PORT, MAX_IDLE, MAX_SETTING, MAX_SESSIONS}
use Rattle.beep_words.specs.CommandSet.{Value, choice, number, text, OptionRow, Chosen, words_of, number_set, form_in, IsOf, IsOfSome, IsTaken, value_in, AreWords, show_options, send_options, listen_options, pair_options, IsShow, IsReplay, IsTextOf, IsEnd, IsListen, IsPair, IsAddress, IsAddressValue, topic_words, IsHelp, IsVersion, IsCommand, IsOfEnd}
use Rattle.beep_words.specs.Choosing.{are_options, is_lone, are_listen_options, show_of, settings_of, pair_of, number_at, number_set_at, choice_at, text_at, bound_text, IsBound, help_in, asked_alone, asked, command_in, run_at, first_some, command_at, makes_end}
use Rattle.beep_words.proofs.ValueLemmas.{and_left, and_right, and_both, IsReadable, IsReadableSome}
use Rattle.beep_words.proofs.OptionLemmas.{chosen_in, AreReadable, words_are_options, IsNumberTo, IsChoice, IsTextual, Takes, number_is, number_set_is, choice_is, text_is}

-- ---- what the options of each command take

-- each number that these options take has 32 bits
abbrev EachReadable : List OptionRow → Type 0
EachReadable [] = Unit {0}
EachReadable (row ∷ rows) = IsReadable row.form × EachReadable rows

readable : (rows : List OptionRow) → EachReadable rows → AreReadable rows
readable [] each name = tt
readable (row ∷ rows) each name = by_test (bytes_eq name row.name) (readable rows each.1 name)
  where
    by_test : (b : Bool) → IsReadableSome (form_in rows name) → IsReadableSome (cond b (Some row.form) (form_in rows name))
    by_test true rest = each.0
    by_test false rest = rest

choice_taken : (value : Value) → IsOf Form.Choice value → IsChoice value
choice_taken (choice b) i = tt
choice_taken (number n) i = absurd i
choice_taken (text octets) i = absurd i

number_taken : (least most : ℕ) (value : Value) → IsOf (Form.Number least most) value → IsNumberTo most value
number_taken least most (choice b) i = absurd i
number_taken least most (number n) i = i.1
number_taken least most (text octets) i = absurd i

octets_taken : (most : ℕ) (value : Value) → IsOf (Form.Octets most) value → IsTextual value
octets_taken most (choice b) i = absurd i
octets_taken most (number n) i = absurd i
octets_taken most (text octets) i = tt

address_taken : (value : Value) → IsOf Form.Address value → IsTextual value
address_taken (choice b) i = absurd i
address_taken (number n) i = absurd i
address_taken (text octets) i = tt

printable_taken : (most : ℕ) (value : Value) → IsOf (Form.Printable most) value → IsTextual value
printable_taken most (choice b) i = absurd i
printable_taken most (number n) i = absurd i
printable_taken most (text octets) i = tt

-- ---- show

readable_show : AreReadable show_options
readable_show = readable show_options (tt, (omega arith, tt))

elements_taken : Takes show_options (codes "--elements") IsChoice
elements_taken value i = choice_taken value i

show_octets_taken : Takes show_options (codes "--octets") (IsNumberTo MAX_SETTING)
show_octets_taken value i = number_taken 1 MAX_SETTING value i

pub show_is : (words : List (List ℕ)) → are_options show_options words ≡ true → IsShow (show_of words) (codes "show" ∷ words)
show_is words e =
    let c = chosen_in show_options words e in
    record {
      chosen = c.chosen;
      are_words = record { each = c.each; distinct = c.distinct; words_are = ap (λ ws. codes "show" ∷ ws) c.words_are };
      elements = subst (λ (ws : List (List ℕ)). choice (choice_at (codes "--elements") false ws) ≡ value_in (codes "--elements") (choice false) c.chosen) (sym c.words_are)
          (choice_is show_options (codes "--elements") false elements_taken c.chosen c.each);
      octets = subst (λ (ws : List (List ℕ)). number (number_at (codes "--octets") OCTETS ws) ≡ value_in (codes "--octets") (number OCTETS) c.chosen) (sym c.words_are)
          (number_is show_options (codes "--octets") OCTETS MAX_SETTING (omega arith) show_octets_taken c.chosen c.each);
    }

number_same : (a b : ℕ) (v : Value) → number a ≡ v → number b ≡ v → a ≡ b
number_same a b v e f = let same : number a ≡ number b = e ∙ sym f in cc

choice_same : (a b : Bool) (v : Value) → choice a ≡ v → choice b ≡ v → a ≡ b
choice_same a b v e f = let same : choice a ≡ choice b = e ∙ sym f in cc

head_of : (a b : List ℕ) (xs ys : List (List ℕ)) → (a ∷ xs) ≡ (b ∷ ys) → a ≡ b
head_of a b xs ys e = cc

tail_of : (a b : List ℕ) (xs ys : List (List ℕ)) → (a ∷ xs) ≡ (b ∷ ys) → xs ≡ ys
tail_of a b xs ys e = cc

-- words of a command begin with its name, and are its options
options_are : (command : List ℕ) (rows : List OptionRow) → AreReadable rows → (chosen : List Chosen) (name : List ℕ) (words : List (List ℕ)) → AreWords command rows chosen (name ∷ words) → (bytes_eq name command && are_options rows words) ≡ true
options_are command rows r chosen name words w =
    and_both (bytes_eq name command) (are_options rows words) ((bytes_eq-Decides name command).1 (head_of name command words (flat_map words_of chosen) w.words_are))
    (ap (are_options rows) (tail_of name command words (flat_map words_of chosen) w.words_are) ∙ words_are_options rows r chosen w.each w.distinct)

is_show : (settings : ShowSettings) (name : List ℕ) (words : List (List ℕ)) → IsShow settings (name ∷ words) → (settings ≡ show_of words) × ((bytes_eq name (codes "show") && are_options show_options words) ≡ true)
is_show settings name words s =
    let w = tail_of name (codes "show") words (flat_map words_of s.chosen) s.are_words.words_are in
    let elements = choice_same settings.elements (choice_at (codes "--elements") false (flat_map words_of s.chosen)) _ s.elements
    (choice_is show_options (codes "--elements") false elements_taken s.chosen s.are_words.each) in
    let octets = number_same settings.octets (number_at (codes "--octets") OCTETS (flat_map words_of s.chosen)) _ s.octets
    (number_is show_options (codes "--octets") OCTETS MAX_SETTING (omega arith) show_octets_taken s.chosen s.are_words.each) in
    (ap₂ (λ (a : Bool) (b : ℕ). record { elements = a; octets = b }) elements octets ∙ ap show_of (sym w), options_are (codes "show") show_options readable_show s.chosen name words s.are_words)

-- ---- pair

readable_pair : AreReadable pair_options
readable_pair = readable pair_options (omega arith, (omega arith, (omega arith, tt)))

pair_window_taken : Takes pair_options (codes "--window") (IsNumberTo MAX_WINDOW)
pair_window_taken value i = number_taken MIN_WINDOW MAX_WINDOW value i

pair_piece_taken : Takes pair_options (codes "--piece") (IsNumberTo MAX_PIECE)
pair_piece_taken value i = number_taken 1 MAX_PIECE value i

pair_seed_taken : Takes pair_options (codes "--seed") (IsNumberTo MAX_SETTING)
pair_seed_taken value i = number_taken 0 MAX_SETTING value i

pair_is : (words : List (List ℕ)) → are_options pair_options words ≡ true → IsPair (pair_of words) (codes "pair" ∷ words)
pair_is words e =
    let c = chosen_in pair_options words e in
    record {
      chosen = c.chosen;
      are_words = record { each = c.each; distinct = c.distinct; words_are = ap (λ ws. codes "pair" ∷ ws) c.words_are };
      window = subst (λ (ws : List (List ℕ)). number (number_at (codes "--window") INITIAL_WINDOW ws) ≡ value_in (codes "--window") (number INITIAL_WINDOW) c.chosen) (sym c.words_are)
          (number_is pair_options (codes "--window") INITIAL_WINDOW MAX_WINDOW (omega arith) pair_window_taken c.chosen c.each);
      piece = subst (λ (ws : List (List ℕ)). number (number_at (codes "--piece") PIECE ws) ≡ value_in (codes "--piece") (number PIECE) c.chosen) (sym c.words_are)
          (number_is pair_options (codes "--piece") PIECE MAX_PIECE (omega arith) pair_piece_taken c.chosen c.each);
      seed = subst (λ (ws : List (List ℕ)). number_set_at (codes "--seed") ws ≡ number_set (codes "--seed") c.chosen) (sym c.words_are)
          (number_set_is pair_options (codes "--seed") MAX_SETTING (omega arith) pair_seed_taken c.chosen c.each);
    }

is_pair : (settings : PairSettings) (name : List ℕ) (words : List (List ℕ)) → IsPair settings (name ∷ words) → (settings ≡ pair_of words) × ((bytes_eq name (codes "pair") && are_options pair_options words) ≡ true)
is_pair settings name words s =
    let w = tail_of name (codes "pair") words (flat_map words_of s.chosen) s.are_words.words_are in
    let window = number_same settings.window (number_at (codes "--window") INITIAL_WINDOW (flat_map words_of s.chosen)) _ s.window
    (number_is pair_options (codes "--window") INITIAL_WINDOW MAX_WINDOW (omega arith) pair_window_taken s.chosen s.are_words.each) in
    let piece = number_same settings.piece (number_at (codes "--piece") PIECE (flat_map words_of s.chosen)) _ s.piece
    (number_is pair_options (codes "--piece") PIECE MAX_PIECE (omega arith) pair_piece_taken s.chosen s.are_words.each) in
    let seed : settings.seed ≡ number_set_at (codes "--seed") (flat_map words_of s.chosen) = s.seed
    ∙ sym (number_set_is pair_options (codes "--seed") MAX_SETTING (omega arith) pair_seed_taken s.chosen s.are_words.each) in
    let same : settings ≡ pair_of (flat_map words_of s.chosen) =
    ap₂ (λ (a : ℕ) (b : ℕ). record { window = a; piece = b; seed = settings.seed }) window piece
    ∙ ap (λ (n : Option ℕ). record { window = number_at (codes "--window") INITIAL_WINDOW (flat_map words_of s.chosen); piece = number_at (codes "--piece") PIECE (flat_map words_of s.chosen); seed = n }) seed in
    (same ∙ ap pair_of (sym w), options_are (codes "pair") pair_options readable_pair s.chosen name words s.are_words)

-- ---- send and listen

min_under : (n most : ℕ) → n ≤ most → min n most ≡ n
min_under n most le = omega (arith, le)

to_most : (most n : ℕ) (v : Value) → number n ≡ v → IsNumberTo most v → n ≤ most
to_most most n v e i = subst (λ (v : Value). IsNumberTo most v) (sym e) i

text_is_of : (default : List ℕ) (o : List ℕ) (v : Value) → text o ≡ v → IsTextOf (chars o) v
text_is_of default o v e = subst (λ (v : Value). IsTextOf (chars o) v) e refl

text_same : (characters o : List ℕ) (v : Value) → IsTextOf characters v → text o ≡ v → characters ≡ chars o
text_same characters o v i e = subst (λ (v : Value). IsTextOf characters v) (sym e) i

-- the number that an option is set to is within its range where its own is
module _ (rows : List OptionRow) (name : List ℕ) (default most : ℕ) where
  value_to : (takes : Takes rows name (IsNumberTo most)) → default ≤ most → (chosen : List Chosen) → AllByRecursion (IsTaken rows) chosen → IsNumberTo most (value_in name (number default) chosen)
  value_to takes d [] each = d
  value_to takes d (c ∷ chosen) each = by_test (bytes_eq c.name name) refl (value_to takes d chosen each.1)
    where
      by_test : (b : Bool) → bytes_eq c.name name ≡ b → IsNumberTo most (value_in name (number default) chosen) → IsNumberTo most (cond b c.value (value_in name (number default) chosen))
      by_test true f rest = takes c.value (subst (λ (n : List ℕ). IsOfSome (form_in rows n) c.value) ((bytes_eq-Decides c.name name).0 f) each.0)
      by_test false f rest = rest

same_settings : (a b : Settings) → a.host ≡ b.host → a.bind ≡ b.bind → a.port ≡ b.port → a.raw_uri ≡ b.raw_uri → a.window ≡ b.window → a.piece ≡ b.piece → a.idle ≡ b.idle → a.octets ≡ b.octets → a.sessions ≡ b.sessions → a.recording ≡ b.recording → a.quiet ≡ b.quiet → a ≡ b
same_settings a b host bind port raw_uri window piece idle octets sessions recording quiet =
    ap₂ (λ (x : List ℕ) (y : List ℕ). record { host = x; bind = y; port = a.port; raw_uri = a.raw_uri; window = a.window; piece = a.piece; idle = a.idle; octets = a.octets; sessions = a.sessions; recording = a.recording; quiet = a.quiet }) host bind
    ∙ ap₂ (λ (x : ℕ) (y : List ℕ). record { host = b.host; bind = b.bind; port = x; raw_uri = y; window = a.window; piece = a.piece; idle = a.idle; octets = a.octets; sessions = a.sessions; recording = a.recording; quiet = a.quiet }) port raw_uri
    ∙ ap₂ (λ (x : ℕ) (y : ℕ). record { host = b.host; bind = b.bind; port = b.port; raw_uri = b.raw_uri; window = x; piece = y; idle = a.idle; octets = a.octets; sessions = a.sessions; recording = a.recording; quiet = a.quiet }) window piece
    ∙ ap₂ (λ (x : ℕ) (y : ℕ). record { host = b.host; bind = b.bind; port = b.port; raw_uri = b.raw_uri; window = b.window; piece = b.piece; idle = x; octets = y; sessions = a.sessions; recording = a.recording; quiet = a.quiet }) idle octets
    ∙ ap₂ (λ (x : ℕ) (y : Bool). record { host = b.host; bind = b.bind; port = b.port; raw_uri = b.raw_uri; window = b.window; piece = b.piece; idle = b.idle; octets = b.octets; sessions = x; recording = y; quiet = a.quiet }) sessions recording
    ∙ ap (λ (x : Bool). record { host = b.host; bind = b.bind; port = b.port; raw_uri = b.raw_uri; window = b.window; piece = b.piece; idle = b.idle; octets = b.octets; sessions = b.sessions; recording = b.recording; quiet = x }) quiet

-- what these options take by the names of the settings
record TakesSettings (rows : List OptionRow) : Type 0 where
  pub readable : AreReadable rows
  pub host : Takes rows (codes "--host") IsTextual
  pub bind : Takes rows (codes "--bind") IsTextual
  pub port : Takes rows (codes "--port") (IsNumberTo MAX_PORT)
  pub raw_uri : Takes rows (codes "--raw-uri") IsTextual
  pub window : Takes rows (codes "--window") (IsNumberTo MAX_WINDOW)
  pub piece : Takes rows (codes "--piece") (IsNumberTo MAX_PIECE)
  pub idle : Takes rows (codes "--idle") (IsNumberTo MAX_IDLE)
  pub octets : Takes rows (codes "--octets") (IsNumberTo MAX_SETTING)
  pub sessions : Takes rows (codes "--sessions") (IsNumberTo MAX_SESSIONS)
  pub recording : Takes rows (codes "--record") IsChoice
  pub quiet : Takes rows (codes "--quiet") IsChoice

module _ (command : List ℕ) (rows : List OptionRow) (takes : TakesSettings rows) where
  -- what the words of options say, where the options are these
  end_of : (chosen : List Chosen) → AllByRecursion (IsTaken rows) chosen → (words : List (List ℕ)) → AreWords command rows chosen words → (settings : Settings) → settings ≡ settings_of (flat_map words_of chosen) → IsEnd command rows settings words
  end_of chosen each words w settings e =
      let ws = flat_map words_of chosen in
      let port : number (number_at (codes "--port") PORT ws) ≡ value_in (codes "--port") (number PORT) chosen =
      number_is rows (codes "--port") PORT MAX_PORT (omega arith) takes.port chosen each in
      let few = to_most MAX_PORT (number_at (codes "--port") PORT ws) _ port (value_to rows (codes "--port") PORT MAX_PORT takes.port (omega arith) chosen each) in
      subst (λ (s : Settings). IsEnd command rows s words) (sym e) (record {
        chosen = chosen;
        are_words = w;
        host = text_is_of HOST.now _ _ (text_is rows (codes "--host") HOST.now takes.host chosen each);
        bind = text_is_of BIND.now _ _ (text_is rows (codes "--bind") BIND.now takes.bind chosen each);
        port = ap (λ (n : ℕ). number n) (min_under (number_at (codes "--port") PORT ws) MAX_PORT few) ∙ port;
        raw_uri = text_is_of RAW_URI.now _ _ (text_is rows (codes "--raw-uri") RAW_URI.now takes.raw_uri chosen each);
        window = number_is rows (codes "--window") INITIAL_WINDOW MAX_WINDOW (omega arith) takes.window chosen each;
        piece = number_is rows (codes "--piece") PIECE MAX_PIECE (omega arith) takes.piece chosen each;
        idle = number_is rows (codes "--idle") IDLE MAX_IDLE (omega arith) takes.idle chosen each;
        octets = number_is rows (codes "--octets") OCTETS MAX_SETTING (omega arith) takes.octets chosen each;
        sessions = number_is rows (codes "--sessions") SESSIONS MAX_SESSIONS (omega arith) takes.sessions chosen each;
        recording = choice_is rows (codes "--record") false takes.recording chosen each;
        quiet = choice_is rows (codes "--quiet") false takes.quiet chosen each;
      })

  end_is : (words : List (List ℕ)) → are_options rows words ≡ true → IsEnd command rows (settings_of words) (command ∷ words)
  end_is words e =
      let c = chosen_in rows words e in
      end_of c.chosen c.each (command ∷ words) (record { each = c.each; distinct = c.distinct; words_are = ap (λ ws. command ∷ ws) c.words_are }) (settings_of words) (ap settings_of c.words_are)

  is_end : (settings : Settings) (name : List ℕ) (words : List (List ℕ)) → IsEnd command rows settings (name ∷ words) → (settings ≡ settings_of words) × ((bytes_eq name command && are_options rows words) ≡ true)
  is_end settings name words s =
      let ws = flat_map words_of s.chosen in
      let each = s.are_words.each in
      let own = end_of s.chosen each (name ∷ words) s.are_words (settings_of ws) refl in
      let w = tail_of name command words ws s.are_words.words_are in
      let host : settings.host ≡ (settings_of ws).host = text_same settings.host _ _ s.host (text_is rows (codes "--host") HOST.now takes.host s.chosen each) in
      let bind : settings.bind ≡ (settings_of ws).bind = text_same settings.bind _ _ s.bind (text_is rows (codes "--bind") BIND.now takes.bind s.chosen each) in
      let raw_uri : settings.raw_uri ≡ (settings_of ws).raw_uri = text_same settings.raw_uri _ _ s.raw_uri (text_is rows (codes "--raw-uri") RAW_URI.now takes.raw_uri s.chosen each) in
      let port : settings.port ≡ (settings_of ws).port = number_same settings.port (settings_of ws).port (value_in (codes "--port") (number PORT) s.chosen) s.port
      (ap (λ (n : ℕ). number n) (min_under (number_at (codes "--port") PORT ws) MAX_PORT
      (to_most MAX_PORT (number_at (codes "--port") PORT ws) (value_in (codes "--port") (number PORT) s.chosen) (number_is rows (codes "--port") PORT MAX_PORT (omega arith) takes.port s.chosen each) (value_to rows (codes "--port") PORT MAX_PORT takes.port (omega arith) s.chosen each)))
      ∙ number_is rows (codes "--port") PORT MAX_PORT (omega arith) takes.port s.chosen each) in
      let window : settings.window ≡ (settings_of ws).window = number_same settings.window (settings_of ws).window (value_in (codes "--window") (number INITIAL_WINDOW) s.chosen) s.window (number_is rows (codes "--window") INITIAL_WINDOW MAX_WINDOW (omega arith) takes.window s.chosen each) in
      let piece : settings.piece ≡ (settings_of ws).piece = number_same settings.piece (settings_of ws).piece (value_in (codes "--piece") (number PIECE) s.chosen) s.piece (number_is rows (codes "--piece") PIECE MAX_PIECE (omega arith) takes.piece s.chosen each) in
      let idle : settings.idle ≡ (settings_of ws).idle = number_same settings.idle (settings_of ws).idle (value_in (codes "--idle") (number IDLE) s.chosen) s.idle (number_is rows (codes "--idle") IDLE MAX_IDLE (omega arith) takes.idle s.chosen each) in
      let octets : settings.octets ≡ (settings_of ws).octets = number_same settings.octets (settings_of ws).octets (value_in (codes "--octets") (number OCTETS) s.chosen) s.octets (number_is rows (codes "--octets") OCTETS MAX_SETTING (omega arith) takes.octets s.chosen each) in
      let sessions : settings.sessions ≡ (settings_of ws).sessions = number_same settings.sessions (settings_of ws).sessions (value_in (codes "--sessions") (number SESSIONS) s.chosen) s.sessions (number_is rows (codes "--sessions") SESSIONS MAX_SESSIONS (omega arith) takes.sessions s.chosen each) in
      let recording : settings.recording ≡ (settings_of ws).recording = choice_same settings.recording (settings_of ws).recording (value_in (codes "--record") (choice false) s.chosen) s.recording (choice_is rows (codes "--record") false takes.recording s.chosen each) in
      let quiet : settings.quiet ≡ (settings_of ws).quiet = choice_same settings.quiet (settings_of ws).quiet (value_in (codes "--quiet") (choice false) s.chosen) s.quiet (choice_is rows (codes "--quiet") false takes.quiet s.chosen each) in
      let same = same_settings settings (settings_of ws) host bind port raw_uri window piece idle octets sessions recording quiet in
      (same ∙ ap settings_of (sym w), options_are command rows takes.readable s.chosen name words s.are_words)

takes_send : TakesSettings send_options
takes_send = record {
  readable = readable send_options (tt, (tt, (omega arith, (tt, (omega arith, (omega arith, (omega arith, (omega arith, (tt, (tt, tt))))))))));
  host = λ value i. octets_taken MAX_HOST value i;
  bind = λ value i. absurd i;
  port = λ value i. number_taken 1 MAX_PORT value i;
  raw_uri = λ value i. printable_taken MAX_URI value i;
  window = λ value i. number_taken MIN_WINDOW MAX_WINDOW value i;
  piece = λ value i. number_taken 1 MAX_PIECE value i;
  idle = λ value i. number_taken 1 MAX_IDLE value i;
  octets = λ value i. number_taken 1 MAX_SETTING value i;
  sessions = λ value i. absurd i;
  recording = λ value i. choice_taken value i;
  quiet = λ value i. choice_taken value i;
}

takes_listen : TakesSettings listen_options
takes_listen = record {
  readable = readable listen_options (tt, (tt, (omega arith, (omega arith, (tt, (omega arith, (omega arith, (omega arith, (omega arith, (tt, (tt, tt)))))))))));
  host = λ value i. absurd i;
  bind = λ value i. address_taken value i;
  port = λ value i. number_taken 1 MAX_PORT value i;
  raw_uri = λ value i. printable_taken MAX_URI value i;
  window = λ value i. number_taken MIN_WINDOW MAX_WINDOW value i;
  piece = λ value i. number_taken 1 MAX_PIECE value i;
  idle = λ value i. number_taken 1 MAX_IDLE value i;
  octets = λ value i. number_taken 1 MAX_SETTING value i;
  sessions = λ value i. number_taken 1 MAX_SESSIONS value i;
  recording = λ value i. choice_taken value i;
  quiet = λ value i. choice_taken value i;
}

-- a run that is recorded accepts one link
lone_of : (r : Bool) (n : ℕ) → (not r || (n == 1)) ≡ true → r ≡ true → n ≡ 1
lone_of true n e r = grind (arith, nat_tests, e)
lone_of false n e r = cc

of_lone : (r : Bool) (n : ℕ) → (r ≡ true → n ≡ 1) → (not r || (n == 1)) ≡ true
of_lone true n one = grind (arith, nat_tests, one refl)
of_lone false n one = refl

-- the value of `--bind` and its text
address_in : (octets : List ℕ) (value : Value) → text octets ≡ value → IsAddressValue value → IsAddress octets
address_in octets value e a = subst (λ (v : Value). IsAddressValue v) (sym e) a

address_of : (octets : List ℕ) (value : Value) → text octets ≡ value → IsAddress octets → IsAddressValue value
address_of octets value e a = subst (λ (v : Value). IsAddressValue v) e a

-- what the text of the address is
bound_is : (chosen : List Chosen) → AllByRecursion (IsTaken listen_options) chosen → text (bound_text (flat_map words_of chosen)) ≡ value_in (codes "--bind") (text BIND.now) chosen
bound_is chosen each = text_is listen_options (codes "--bind") BIND.now takes_listen.bind chosen each

listen_tests : (bound : Bool) (words : List (List ℕ)) → are_listen_options bound words ≡ true → (are_options listen_options words ≡ true) × (bound ≡ true) × (is_lone words ≡ true)
listen_tests bound words e =
    let front = and_left (are_options listen_options words && bound) (is_lone words) e in
    (and_left (are_options listen_options words) bound front, and_right (are_options listen_options words) bound front, and_right (are_options listen_options words && bound) (is_lone words) e)

listen_is : (bound : Bool) (words : List (List ℕ)) → ((bound ≡ true) ↔ IsAddress (bound_text words)) → are_listen_options bound words ≡ true → IsListen (settings_of words) (codes "listen" ∷ words)
listen_is bound words known e =
    let t = listen_tests bound words e in
    let s = end_is (codes "listen") listen_options takes_listen words t.0 in
    let w = tail_of (codes "listen") (codes "listen") words (flat_map words_of s.chosen) s.are_words.words_are in
    record {
      is_end = s;
      address = address_of (bound_text words) _ (ap (λ ws. text (bound_text ws)) w ∙ bound_is s.chosen s.are_words.each) (known.0 t.1);
      lone = lone_of (settings_of words).recording (settings_of words).sessions t.2;
    }

is_listen : (bound : Bool) (settings : Settings) (name : List ℕ) (words : List (List ℕ)) → ((bound ≡ true) ↔ IsAddress (bound_text words)) → IsListen settings (name ∷ words) → (settings ≡ settings_of words) × ((bytes_eq name (codes "listen") && are_listen_options bound words) ≡ true)
is_listen bound settings name words known s =
    let i = is_end (codes "listen") listen_options takes_listen settings name words s.is_end in
    let one : is_lone words ≡ true = of_lone (settings_of words).recording (settings_of words).sessions (subst (λ (x : Settings). x.recording ≡ true → x.sessions ≡ 1) i.0 s.lone) in
    let options = and_right (bytes_eq name (codes "listen")) (are_options listen_options words) i.1 in
    let w = tail_of name (codes "listen") words (flat_map words_of s.is_end.chosen) s.is_end.are_words.words_are in
    let address = known.1 (address_in (bound_text words) _ (ap (λ ws. text (bound_text ws)) w ∙ bound_is s.is_end.chosen s.is_end.are_words.each) s.address) in (
      i.0,
      and_both (bytes_eq name (codes "listen")) (are_listen_options bound words) (and_left (bytes_eq name (codes "listen")) (are_options listen_options words) i.1)
          (and_both (are_options listen_options words && bound) (is_lone words) (and_both (are_options listen_options words) bound options address) one),
    )

-- ---- the command

-- two words aren't one
other_name : (name one two : List ℕ) → name ≡ one → bytes_eq one two ≡ false → (b : Bool) → (bytes_eq name two && b) ≡ false
other_name name one two e f b = ap (λ (n : List ℕ). bytes_eq n two && b) e ∙ ap (λ (x : Bool). x && b) f

-- the name that a test of a command has
named : (name command : List ℕ) (b : Bool) → (bytes_eq name command && b) ≡ true → name ≡ command
named name command b e = (bytes_eq-Decides name command).0 (and_left (bytes_eq name command) b e)

-- what is made where these tests hold
abbrev made : Bool → Bool → Bool → Bool → Bool → List (List ℕ) → Option Command
made a b c d f words = cond a (Some (Command.Show (show_of words))) (cond b (Some Command.Replay)
    (cond c (Some (Command.Send (settings_of words))) (cond d (Some (Command.Listen (settings_of words)))
    (cond f (Some (Command.Pair (pair_of words))) None))))

-- the command is the one that is made
one_made : (a : Bool) (it command : Command) (rest : Option Command) → a ≡ true → cond a (Some it) rest ≡ Some command → it ≡ command
one_made true it command rest t e = cc
one_made false it command rest t e = cc

-- the command isn't a question
abbrev IsRunning : Command → Type 0
IsRunning (Command.Show settings) = Unit {0}
IsRunning Command.Replay = Unit {0}
IsRunning (Command.Send settings) = Unit {0}
IsRunning (Command.Listen settings) = Unit {0}
IsRunning (Command.Pair settings) = Unit {0}
IsRunning (Command.Help topic) = ⊥
IsRunning Command.Version = ⊥

-- help on a command by its name
helped : (name : List ℕ) (topic : Topic) (command : List ℕ) → topic_words topic ≡ command ∷ [] → name ≡ command → (it : Command) → Command.Help topic ≡ it → IsCommand it (name ∷ codes "--help" ∷ [])
helped name topic command t n it e =
    subst (λ (x : Command). IsCommand x (name ∷ codes "--help" ∷ [])) e
    (ap (λ (w : List ℕ). w ∷ codes "--help" ∷ []) n ∙ ap (λ (ws : List (List ℕ)). ws ++ codes "--help" ∷ []) (sym t))

no_words : (command : Command) → IsCommand command [] → ⊥
no_words (Command.Show settings) i = let e = i.are_words.words_are in cc
no_words Command.Replay i = let e = i.are_words.words_are in cc
no_words (Command.Send settings) i = let e = i.are_words.words_are in cc
no_words (Command.Listen settings) i = let e = i.is_end.are_words.words_are in cc
no_words (Command.Pair settings) i = let e = i.are_words.words_are in cc
no_words (Command.Help Topic.Program) i = cc
no_words (Command.Help Topic.Show) i = cc
no_words (Command.Help Topic.Replay) i = cc
no_words (Command.Help Topic.Send) i = cc
no_words (Command.Help Topic.Listen) i = cc
no_words (Command.Help Topic.Pair) i = cc
no_words Command.Version i = cc

module _ (bound : Bool) (name : List ℕ) (words : List (List ℕ)) where
  abbrev shows : Bool
  shows = bytes_eq name (codes "show") && are_options show_options words

  abbrev replays : Bool
  replays = bytes_eq name (codes "replay") && are_options [] words

  abbrev sends : Bool
  sends = bytes_eq name (codes "send") && are_options send_options words

  abbrev listens : Bool
  listens = bytes_eq name (codes "listen") && are_listen_options bound words

  abbrev pairs : Bool
  pairs = bytes_eq name (codes "pair") && are_options pair_options words

  replay_is : are_options [] words ≡ true → IsReplay (codes "replay" ∷ words)
  replay_is e =
      let c = chosen_in [] words e in
      record { chosen = c.chosen; are_words = record { each = c.each; distinct = c.distinct; words_are = ap (λ ws. codes "replay" ∷ ws) c.words_are } }

  -- a command that is made is that of the words
  is_made : (a b c d f : Bool) → shows ≡ a → replays ≡ b → sends ≡ c → listens ≡ d → pairs ≡ f → ((bound ≡ true) ↔ IsAddress (bound_text words)) → (command : Command) → made a b c d f words ≡ Some command → IsCommand command (name ∷ words)
  is_made true b c d f fa fb fc fd ff known command e =
      let it : Command.Show (show_of words) ≡ command = cc in
      subst (λ (n : List ℕ). IsCommand command (n ∷ words)) (sym (named name (codes "show") (are_options show_options words) fa))
      (subst (λ (x : Command). IsCommand x (codes "show" ∷ words)) it (show_is words (and_right (bytes_eq name (codes "show")) (are_options show_options words) fa)))
  is_made false true c d f fa fb fc fd ff known command e =
      let it : Command.Replay ≡ command = cc in
      subst (λ (n : List ℕ). IsCommand command (n ∷ words)) (sym (named name (codes "replay") (are_options [] words) fb))
      (subst (λ (x : Command). IsCommand x (codes "replay" ∷ words)) it (replay_is (and_right (bytes_eq name (codes "replay")) (are_options [] words) fb)))
  is_made false false true d f fa fb fc fd ff known command e =
      let it : Command.Send (settings_of words) ≡ command = cc in
      subst (λ (n : List ℕ). IsCommand command (n ∷ words)) (sym (named name (codes "send") (are_options send_options words) fc))
      (subst (λ (x : Command). IsCommand x (codes "send" ∷ words)) it (end_is (codes "send") send_options takes_send words (and_right (bytes_eq name (codes "send")) (are_options send_options words) fc)))
  is_made false false false true f fa fb fc fd ff known command e =
      let it : Command.Listen (settings_of words) ≡ command = cc in
      subst (λ (n : List ℕ). IsCommand command (n ∷ words)) (sym (named name (codes "listen") (are_listen_options bound words) fd))
      (subst (λ (x : Command). IsCommand x (codes "listen" ∷ words)) it (listen_is bound words known (and_right (bytes_eq name (codes "listen")) (are_listen_options bound words) fd)))
  is_made false false false false true fa fb fc fd ff known command e =
      let it : Command.Pair (pair_of words) ≡ command = cc in
      subst (λ (n : List ℕ). IsCommand command (n ∷ words)) (sym (named name (codes "pair") (are_options pair_options words) ff))
      (subst (λ (x : Command). IsCommand x (codes "pair" ∷ words)) it (pair_is words (and_right (bytes_eq name (codes "pair")) (are_options pair_options words) ff)))
  is_made false false false false false fa fb fc fd ff known command e = cc

  -- which tests hold, by the name
  pub tests : (a b c d f : Bool) → shows ≡ a → replays ≡ b → sends ≡ c → listens ≡ d → pairs ≡ f → command_in bound name words ≡ made a b c d f words
  tests a b c d f fa fb fc fd ff =
      ap (λ (x : Bool). made x replays sends listens pairs words) fa ∙ ap (λ (x : Bool). made a x sends listens pairs words) fb
      ∙ ap (λ (x : Bool). made a b x listens pairs words) fc ∙ ap (λ (x : Bool). made a b c x pairs words) fd
      ∙ ap (λ (x : Bool). made a b c d x words) ff

  -- the command of the words is made
  made_is : ((bound ≡ true) ↔ IsAddress (bound_text words)) → (command : Command) → IsRunning command → IsCommand command (name ∷ words) → command_in bound name words ≡ Some command
  made_is known (Command.Show settings) r i =
      let s = is_show settings name words i in
      tests true replays sends listens pairs s.1 refl refl refl refl ∙ ap (λ (x : ShowSettings). Some (Command.Show x)) (sym s.0)
  made_is known Command.Replay r i =
      let t = options_are (codes "replay") [] (readable [] tt) i.chosen name words i.are_words in
      let n = named name (codes "replay") (are_options [] words) t in
      tests false true sends listens pairs (other_name name (codes "replay") (codes "show") n refl (are_options show_options words)) t refl refl refl
  made_is known (Command.Send settings) r i =
      let s = is_end (codes "send") send_options takes_send settings name words i in
      let n = named name (codes "send") (are_options send_options words) s.1 in
      tests false false true listens pairs (other_name name (codes "send") (codes "show") n refl (are_options show_options words))
      (other_name name (codes "send") (codes "replay") n refl (are_options [] words)) s.1 refl refl ∙ ap (λ (x : Settings). Some (Command.Send x)) (sym s.0)
  made_is known (Command.Listen settings) r i =
      let s = is_listen bound settings name words known i in
      let n = named name (codes "listen") (are_listen_options bound words) s.1 in
      tests false false false true pairs (other_name name (codes "listen") (codes "show") n refl (are_options show_options words))
      (other_name name (codes "listen") (codes "replay") n refl (are_options [] words))
      (other_name name (codes "listen") (codes "send") n refl (are_options send_options words)) s.1 refl ∙ ap (λ (x : Settings). Some (Command.Listen x)) (sym s.0)
  made_is known (Command.Pair settings) r i =
      let s = is_pair settings name words i in
      let n = named name (codes "pair") (are_options pair_options words) s.1 in
      tests false false false false true (other_name name (codes "pair") (codes "show") n refl (are_options show_options words))
      (other_name name (codes "pair") (codes "replay") n refl (are_options [] words))
      (other_name name (codes "pair") (codes "send") n refl (are_options send_options words))
      (other_name name (codes "pair") (codes "listen") n refl (are_listen_options bound words)) s.1 ∙ ap (λ (x : PairSettings). Some (Command.Pair x)) (sym s.0)
  made_is known (Command.Help topic) r i = absurd r
  made_is known Command.Version r i = absurd r

-- ---- questions

-- words of a command that runs ask nothing
unasked : (name command : List ℕ) (rows : List OptionRow) (words : List (List ℕ)) → asked_alone command ≡ None → (bytes_eq name command && are_options rows words) ≡ true → asked (name ∷ words) ≡ None
unasked name command rows [] f e = ap asked_alone ((bytes_eq-Decides name command).0 (and_left (bytes_eq name command) true e)) ∙ f
unasked name command rows (word ∷ []) f e = let t = and_right (bytes_eq name command) false e in cc
unasked name command rows (word ∷ other ∷ words) f e = refl

running_unasked : (command : Command) (name : List ℕ) (words : List (List ℕ)) → IsRunning command → IsCommand command (name ∷ words) → asked (name ∷ words) ≡ None
running_unasked (Command.Show settings) name words r i = unasked name (codes "show") show_options words refl (is_show settings name words i).1
running_unasked Command.Replay name words r i =
    unasked name (codes "replay") [] words refl (options_are (codes "replay") [] (readable [] tt) i.chosen name words i.are_words)
running_unasked (Command.Send settings) name words r i =
    unasked name (codes "send") send_options words refl (is_end (codes "send") send_options takes_send settings name words i).1
running_unasked (Command.Listen settings) name words r i =
    unasked name (codes "listen") listen_options words refl (is_end (codes "listen") listen_options takes_listen settings name words i.is_end).1
running_unasked (Command.Pair settings) name words r i = unasked name (codes "pair") pair_options words refl (is_pair settings name words i).1
running_unasked (Command.Help topic) name words r i = absurd r
running_unasked Command.Version name words r i = absurd r

-- what one word asks
alone_said : (word : List ℕ) (a b : Bool) → bytes_eq word (codes "--help") ≡ a → bytes_eq word (codes "--version") ≡ b → (command : Command)
    → cond a (Some (Command.Help Topic.Program)) (cond b (Some Command.Version) None) ≡ Some command → IsCommand command (word ∷ [])
alone_said word true b fa fb command e =
    let it : Command.Help Topic.Program ≡ command = cc in
    subst (λ (x : Command). IsCommand x (word ∷ [])) it (ap (λ (w : List ℕ). w ∷ []) ((bytes_eq-Decides word (codes "--help")).0 fa))
alone_said word false true fa fb command e =
    let it : Command.Version ≡ command = cc in
    subst (λ (x : Command). IsCommand x (word ∷ [])) it (ap (λ (w : List ℕ). w ∷ []) ((bytes_eq-Decides word (codes "--version")).0 fb))
alone_said word false false fa fb command e = cc

-- on which command help is asked for
help_said : (name : List ℕ) (a b c d f : Bool) → bytes_eq name (codes "show") ≡ a → bytes_eq name (codes "replay") ≡ b → bytes_eq name (codes "send") ≡ c → bytes_eq name (codes "listen") ≡ d → bytes_eq name (codes "pair") ≡ f → (command : Command)
    → cond a (Some (Command.Help Topic.Show)) (cond b (Some (Command.Help Topic.Replay)) (cond c (Some (Command.Help Topic.Send)) (cond d (Some (Command.Help Topic.Listen)) (cond f (Some (Command.Help Topic.Pair)) None)))) ≡ Some command
    → IsCommand command (name ∷ codes "--help" ∷ [])
help_said name true b c d f fa fb fc fd ff command e = helped name Topic.Show (codes "show") refl ((bytes_eq-Decides name (codes "show")).0 fa) command cc
help_said name false true c d f fa fb fc fd ff command e = helped name Topic.Replay (codes "replay") refl ((bytes_eq-Decides name (codes "replay")).0 fb) command cc
help_said name false false true d f fa fb fc fd ff command e = helped name Topic.Send (codes "send") refl ((bytes_eq-Decides name (codes "send")).0 fc) command cc
help_said name false false false true f fa fb fc fd ff command e = helped name Topic.Listen (codes "listen") refl ((bytes_eq-Decides name (codes "listen")).0 fd) command cc
help_said name false false false false true fa fb fc fd ff command e = helped name Topic.Pair (codes "pair") refl ((bytes_eq-Decides name (codes "pair")).0 ff) command cc
help_said name false false false false false fa fb fc fd ff command e = cc

two_said : (name word : List ℕ) (b : Bool) → bytes_eq word (codes "--help") ≡ b → (command : Command) → cond b (help_in name) None ≡ Some command → IsCommand command (name ∷ word ∷ [])
two_said name word true f command e =
    subst (λ (w : List ℕ). IsCommand command (name ∷ w ∷ [])) (sym ((bytes_eq-Decides word (codes "--help")).0 f))
    (help_said name (bytes_eq name (codes "show")) (bytes_eq name (codes "replay")) (bytes_eq name (codes "send")) (bytes_eq name (codes "listen")) (bytes_eq name (codes "pair")) refl refl refl refl refl command e)
two_said name word false f command e = cc

-- what the words ask is that of the words
asked_said : (words : List (List ℕ)) (command : Command) → asked words ≡ Some command → IsCommand command words
asked_said [] command e = cc
asked_said (word ∷ []) command e = alone_said word (bytes_eq word (codes "--help")) (bytes_eq word (codes "--version")) refl refl command e
asked_said (name ∷ word ∷ []) command e = two_said name word (bytes_eq word (codes "--help")) refl command e
asked_said (name ∷ word ∷ other ∷ words) command e = cc

help_asked : (topic : Topic) → asked (topic_words topic ++ codes "--help" ∷ []) ≡ Some (Command.Help topic)
help_asked Topic.Program = refl
help_asked Topic.Show = refl
help_asked Topic.Replay = refl
help_asked Topic.Send = refl
help_asked Topic.Listen = refl
help_asked Topic.Pair = refl

-- ---- all commands

first_is : (a b : Option Command) (command : Command) → a ≡ Some command → first_some a b ≡ Some command
first_is a b command e = ap (λ (o : Option Command). first_some o b) e

found : (bound : Bool) (words : List (List ℕ)) → ((bound ≡ true) ↔ IsBound words) → (o : Option Command) → asked words ≡ o → (command : Command) → first_some o (run_at bound words) ≡ Some command → IsCommand command words
found bound words known (Some one) f command e = asked_said words command (f ∙ e)
found bound [] known None f command e = cc
found bound (name ∷ words) known None f command e =
    is_made bound name words (shows bound name words) (replays bound name words) (sends bound name words) (listens bound name words) (pairs bound name words) refl refl refl refl refl known command e

runs : (bound : Bool) (words : List (List ℕ)) → ((bound ≡ true) ↔ IsBound words) → (command : Command) → IsRunning command → IsCommand command words → command_at bound words ≡ Some command
runs bound [] known command r i = absurd (no_words command i)
runs bound (name ∷ words) known command r i =
    ap (λ (o : Option Command). first_some o (command_in bound name words)) (running_unasked command name words r i) ∙ made_is bound name words known command r i

finds : (bound : Bool) (words : List (List ℕ)) → ((bound ≡ true) ↔ IsBound words) → (command : Command) → IsCommand command words → command_at bound words ≡ Some command
finds bound words known (Command.Show settings) i = runs bound words known (Command.Show settings) tt i
finds bound words known Command.Replay i = runs bound words known Command.Replay tt i
finds bound words known (Command.Send settings) i = runs bound words known (Command.Send settings) tt i
finds bound words known (Command.Listen settings) i = runs bound words known (Command.Listen settings) tt i
finds bound words known (Command.Pair settings) i = runs bound words known (Command.Pair settings) tt i
finds bound words known (Command.Help topic) i = first_is (asked words) (run_at bound words) (Command.Help topic) (ap asked i ∙ help_asked topic)
finds bound words known Command.Version i = first_is (asked words) (run_at bound words) Command.Version (ap asked i)

pub command_is : (bound : Bool) (words : List (List ℕ)) → ((bound ≡ true) ↔ IsBound words) → (command : Command) → (command_at bound words ≡ Some command) ↔ IsCommand command words
command_is bound words known command = (λ e. found bound words known (asked words) refl command e, λ i. finds bound words known command i)

-- the same of what was found by going over the words
pub is_command : {E : Type 0} (bound : Bool) (words : List (List ℕ)) → ((bound ≡ true) ↔ IsBound words) → (r : Result (Option Command) E) → IfOk r (λ one. one ≡ command_at bound words)
    → IfOk r (λ one. (command : Command) → (one ≡ Some command) ↔ IsCommand command words)
is_command bound words known (Ok one) e = λ command. ((λ f. (command_is bound words known command).0 (sym e ∙ f)), (λ i. e ∙ (command_is bound words known command).1 i))
is_command bound words known (Err error) e = tt

-- words that are one command are no other
only : (bound : Bool) (words : List (List ℕ)) → ((bound ≡ true) ↔ IsBound words) → (it : Command) → command_at bound words ≡ Some it → (command : Command) → IsCommand command words → Some it ≡ Some command
only bound words known it e command w = sym e ∙ (command_is bound words known command).1 w

end_words : (bound : Bool) (words : List (List ℕ)) → ((bound ≡ true) ↔ IsBound words) → (o : Option Command) → command_at bound words ≡ o → makes_end o → IsOfEnd words
end_words bound words known None e m = absurd m
end_words bound words known (Some (Command.Show settings)) e m = absurd m
end_words bound words known (Some Command.Replay) e m = absurd m
end_words bound words known (Some (Command.Send settings)) e m =
    let two = only bound words known (Command.Send settings) e in
    record {
      some = λ none. none (Command.Send settings) ((command_is bound words known (Command.Send settings)).0 e);
      not_show = λ other w. let same = two (Command.Show other) w in cc;
      not_replay = λ w. let same = two Command.Replay w in cc;
      not_pair = λ other w. let same = two (Command.Pair other) w in cc;
      not_help = λ topic w. let same = two (Command.Help topic) w in cc;
      not_version = λ w. let same = two Command.Version w in cc;
    }
end_words bound words known (Some (Command.Listen settings)) e m =
    let two = only bound words known (Command.Listen settings) e in
    record {
      some = λ none. none (Command.Listen settings) ((command_is bound words known (Command.Listen settings)).0 e);
      not_show = λ other w. let same = two (Command.Show other) w in cc;
      not_replay = λ w. let same = two Command.Replay w in cc;
      not_pair = λ other w. let same = two (Command.Pair other) w in cc;
      not_help = λ topic w. let same = two (Command.Help topic) w in cc;
      not_version = λ w. let same = two Command.Version w in cc;
    }
end_words bound words known (Some (Command.Pair settings)) e m = absurd m
end_words bound words known (Some (Command.Help topic)) e m = absurd m
end_words bound words known (Some Command.Version) e m = absurd m

pub is_of_end : {A E : Type 0} (bound : Bool) (words : List (List ℕ)) → ((bound ≡ true) ↔ IsBound words) → (r : Result A E) → OnErr r (makes_end (command_at bound words)) → OnErr r (IsOfEnd words)
is_of_end bound words known (Ok one) m = tt
is_of_end bound words known (Err error) m = end_words bound words known (command_at bound words) refl m
