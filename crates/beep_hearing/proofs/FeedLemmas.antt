-- What octets make of an ear, one piece after another.
use Rattle.std.proofs.Common.{◌≡◌, ℕ, ◌+◌, Bool, true, false, ◌||◌, List, [], ◌∷◌, ◌++◌, length, take, drop, ◌-◌, refl, sym, ap, subst, subst₂, ◌∙◌, append_assoc, append-nil}
use Rattle.std.proofs.lemmas.Grind.{merely}
use Rattle.std.specs.List.{list_any}
use Rattle.std.proofs.Math.Logic.{∥∥₁_map}
use Rattle.std.proofs.lemmas.List.{take_rest}
use Rattle.std.proofs.Math.Seq.{take-add}
use Rattle.beep_standing.specs.beep_frame.specs.declared.head.Head.{Head}
use Rattle.beep_standing.specs.beep_frame.specs.Stream.{IsHeadOf}
use Rattle.beep_standing.specs.beep_frame.specs.Modulo.{modulo_2_64}
use Rattle.beep_standing.specs.beep_history.specs.declared.journal.Side.{Side}
use Rattle.beep_standing.specs.beep_history.specs.Journal.{Item, passed}
use Rattle.beep_standing.specs.beep_history.specs.Broken.{under_way}
use Rattle.beep_standing.specs.beep_journal.specs.Journal.{spelled}
use Rattle.beep_standing.specs.beep_channel.specs.Held.{Live}
use Rattle.beep_standing.specs.Standing.{Marks, AreLiveBy}
use Rattle.beep_hearing.specs.declared.heard.Heard.{Heard}
use Rattle.beep_hearing.specs.declared.ear.Ear.{Ear}
use Rattle.beep_hearing.specs.Hears.{IsEar, Waits, BreaksAt, MayJoin, Join, Brings, Goes, Arrives, ends_zero, is_above}
use Rattle.beep_hearing.specs.Answers.{Answers, IsHeld, IsReached, IsWaiting}

-- nothing was used
pub goes_none : (size : ℕ) (fed rest : List ℕ) (journal : List Item) (given taken : Marks) (ear : Ear) (channels : List Live)
    → IsEar size fed rest journal given taken ear channels → Goes size [] fed journal given taken ear channels
goes_none size fed rest journal given taken ear channels s = record {
  gained = [];
  none_above = refl;
  brings = record {
    join = tt;
    quiet = refl;
    rest = rest;
    taken_now = taken;
    same = λ n above. refl;
    stands = subst (λ (f : List ℕ). IsEar size f rest journal given taken ear channels) (sym (append-nil fed)) s;
  };
}

-- room was made
pub stands_roomed : (size : ℕ) (fed rest : List ℕ) (journal : List Item) (given taken : Marks) (ear : Ear) (channels later : List Live)
    → IsEar size fed rest journal given taken ear channels → (AreLiveBy size journal given taken channels → AreLiveBy size journal given taken later)
    → IsEar size fed rest journal given taken ear later
stands_roomed size fed rest journal given taken ear channels later s room = record { hears = s.hears; live = room s.live; zero = s.zero }

pub goes_roomed : (size : ℕ) (octets fed : List ℕ) (journal : List Item) (given taken : Marks) (ear : Ear) (channels later : List Live)
    → Goes size octets fed journal given taken ear channels → ((size : ℕ) (journal : List Item) (given taken : Marks) → AreLiveBy size journal given taken channels → AreLiveBy size journal given taken later)
    → Goes size octets fed journal given taken ear later
goes_roomed size octets fed journal given taken ear channels later g room = record {
  gained = g.gained;
  none_above = g.none_above;
  brings = record {
    join = g.brings.join;
    quiet = g.brings.quiet;
    rest = g.brings.rest;
    taken_now = g.brings.taken_now;
    same = g.brings.same;
    stands = stands_roomed size (fed ++ octets) g.brings.rest (g.gained ++ journal) given g.brings.taken_now ear channels later g.brings.stands (room size (g.gained ++ journal) given g.brings.taken_now);
  };
}

-- ---- one after another

join_all : (later gained journal : List Item) → Join later (gained ++ journal) → Join gained journal → Join (later ++ gained) journal
join_all [] gained journal both first = first
join_all (item ∷ later) gained journal both first =
    (subst (MayJoin item) (sym (append_assoc later gained journal)) both.0, join_all later gained journal both.1 first)

-- what no item of two lists does, none of both does
none_all : (does : Item → Bool) (later gained : List Item) → list_any does later ≡ false → list_any does gained ≡ false → list_any does (later ++ gained) ≡ false
none_all does [] gained both first = first
none_all does (item ∷ later) gained both first = of (does item) refl both (λ rest. none_all does later gained rest first)
  where
    of : (b : Bool) → does item ≡ b → (b || list_any does later) ≡ false → (list_any does later ≡ false → list_any does (later ++ gained) ≡ false)
        → (does item || list_any does (later ++ gained)) ≡ false
    of true e both others = absurd (let g : true ≡ false = both in cc)
    of false e both others = rw e (others both)

module _ (size : ℕ) (one two fed : List ℕ) (journal : List Item) (given taken : Marks) (ear : Ear) (channels : List Live) (g : Goes size one fed journal given taken ear channels)
    (new : Ear) (later : List Live) where
  abbrev mid : Marks
  mid = g.brings.taken_now

  brings_both : (gained : List Item) → Brings size two (fed ++ one) (g.gained ++ journal) gained given mid new later → Brings size (one ++ two) fed journal (gained ++ g.gained) given taken new later
  brings_both gained b = record {
    join = join_all gained g.gained journal b.join g.brings.join;
    quiet = none_all ends_zero gained g.gained b.quiet g.brings.quiet;
    rest = b.rest;
    taken_now = b.taken_now;
    same = λ n above. b.same n above ∙ g.brings.same n above;
    stands = subst₂ (λ (f : List ℕ) (j : List Item). IsEar size f b.rest j given b.taken_now new later) (append_assoc fed one two) (sym (append_assoc gained g.gained journal)) b.stands;
  }

  pub goes_both : Goes size two (fed ++ one) (g.gained ++ journal) given mid new later → Goes size (one ++ two) fed journal given taken new later
  goes_both h = record { gained = h.gained ++ g.gained; none_above = none_all is_above h.gained g.gained h.none_above g.none_above; brings = brings_both h.gained h.brings }

  arrives_both : (number : ℕ) → Arrives number size two (fed ++ one) (g.gained ++ journal) given mid new later → Arrives number size (one ++ two) fed journal given taken new later
  arrives_both number h = record {
    gained = h.gained ++ g.gained;
    head = h.head;
    payload = h.payload;
    channel = h.channel;
    above = h.above;
    none_above = none_all is_above h.gained g.gained h.none_above g.none_above;
    brings = brings_both (passed Side.Received h.head h.payload ∷ h.gained) h.brings;
  }

  pub answers_both : (heard : Heard) → Answers heard size two (fed ++ one) (g.gained ++ journal) given mid new later → Answers heard size (one ++ two) fed journal given taken new later
  answers_both Heard.More h = goes_both h
  answers_both (Heard.Arrived number) h = arrives_both number h
  answers_both (Heard.Zero head) h = record {
    gained = h.gained ++ g.gained;
    join = join_all h.gained g.gained journal h.join g.brings.join;
    quiet = none_all ends_zero h.gained g.gained h.quiet g.brings.quiet;
    none_above = none_all is_above h.gained g.gained h.none_above g.none_above;
    payload = h.payload;
    taken_now = h.taken_now;
    same = λ n above. h.same n above ∙ g.brings.same n above;
    waits = subst₂ (λ (f : List ℕ) (j : List Item). Waits size f j given h.taken_now head h.payload new later) (append_assoc fed one two) (sym (append_assoc h.gained g.gained journal)) h.waits;
  }
  answers_both (Heard.Broken rule place) h =
      let same : (h.gained ++ (g.gained ++ journal)) ≡ (h.gained ++ g.gained) ++ journal = sym (append_assoc h.gained g.gained journal) in
      record {
        gained = h.gained ++ g.gained;
        join = join_all h.gained g.gained journal h.join g.brings.join;
        quiet = none_all ends_zero h.gained g.gained h.quiet g.brings.quiet;
        none_above = none_all is_above h.gained g.gained h.none_above g.none_above;
        before = one ++ h.before;
        octet = h.octet;
        rest = h.rest;
        octets_are = ap (λ x. one ++ x) h.octets_are ∙ sym (append_assoc one h.before (h.octet ∷ []));
        fed_is = sym (append_assoc fed one h.before) ∙ h.fed_is ∙ ap (λ j. spelled Side.Received j ++ h.rest) same;
        less = h.less;
        is_head = subst (λ j. IsHeadOf h.rest (under_way Side.Received j)) same h.is_head;
        breaks = subst (λ j. BreaksAt j h.rest h.octet rule) same h.breaks;
        place_is = h.place_is ∙ ap (λ f. modulo_2_64 (length f)) (append_assoc fed one h.before);
        taken_now = h.taken_now;
        same = λ n above. h.same n above ∙ g.brings.same n above;
        live = subst (λ j. AreLiveBy size j given h.taken_now later) same h.live;
        stopped = h.stopped;
      }
  answers_both Heard.NoMemory h = goes_both h

-- ---- something is stood for

pub held_after : (old new : Ear) (channels later : List Live) (octets : List ℕ)
    → ((size : ℕ) (fed rest : List ℕ) (journal : List Item) (given taken : Marks) → IsEar size fed rest journal given taken old channels → Goes size octets fed journal given taken new later)
    → IsHeld old channels → IsHeld new later
held_after old new channels later octets goes held =
    ∥∥₁_map {A = (size : ℕ) × (fed : List ℕ) × (rest : List ℕ) × (journal : List Item) × (given : Marks) × (taken : Marks) × IsEar size fed rest journal given taken old channels}
    {B = (size : ℕ) × (fed : List ℕ) × (rest : List ℕ) × (journal : List Item) × (given : Marks) × (taken : Marks) × IsEar size fed rest journal given taken new later} held
    (λ s. let g = goes s.0 s.1 s.2 s.3 s.4 s.5 s.6 in (s.0, s.1 ++ octets, g.brings.rest, g.gained ++ s.3, s.4, g.brings.taken_now, g.brings.stands))

pub held_roomed : (ear : Ear) (channels later : List Live)
    → ((size : ℕ) (journal : List Item) (given taken : Marks) → AreLiveBy size journal given taken channels → AreLiveBy size journal given taken later)
    → IsHeld ear channels → IsHeld ear later
held_roomed ear channels later room held =
    ∥∥₁_map {A = (size : ℕ) × (fed : List ℕ) × (rest : List ℕ) × (journal : List Item) × (given : Marks) × (taken : Marks) × IsEar size fed rest journal given taken ear channels}
    {B = (size : ℕ) × (fed : List ℕ) × (rest : List ℕ) × (journal : List Item) × (given : Marks) × (taken : Marks) × IsEar size fed rest journal given taken ear later} held
    (λ s. (s.0, s.1, s.2, s.3, s.4, s.5, stands_roomed s.0 s.1 s.2 s.3 s.4 s.5 ear channels later s.6 (room s.0 s.3 s.4 s.5)))

-- a step after what went before, once room was made
pub step_answers : (bytes : List ℕ) (at count : ℕ) (heard : Heard) (ear new : Ear) (channels roomed later : List Live) (size : ℕ) (fed : List ℕ) (journal : List Item) (given taken : Marks)
    → Goes size (take at bytes) fed journal given taken ear channels
    → ((size : ℕ) (journal : List Item) (given taken : Marks) → AreLiveBy size journal given taken channels → AreLiveBy size journal given taken roomed)
    → ((size : ℕ) (fed rest : List ℕ) (journal : List Item) (given taken : Marks) → IsEar size fed rest journal given taken ear roomed
    → Answers heard size (take count (take (length bytes - at) (drop at bytes))) fed journal given taken new later)
    → Answers heard size (take (at + count) bytes) fed journal given taken new later
step_answers bytes at count heard ear new channels roomed later size fed journal given taken g room answers =
    let h = goes_roomed size (take at bytes) fed journal given taken ear channels roomed g room in
    subst (λ (t : List ℕ). Answers heard size t fed journal given taken new later)
    (ap (λ (t : List ℕ). take at bytes ++ take count t) (take_rest bytes at) ∙ sym (take-add at count bytes))
    (answers_both size (take at bytes) (take count (take (length bytes - at) (drop at bytes))) fed journal given taken ear roomed h new later heard
    (answers size (fed ++ take at bytes) h.brings.rest (h.gained ++ journal) given h.brings.taken_now h.brings.stands))

-- something is still stood for
pub step_held : (octets : List ℕ) (heard : Heard) (ear new : Ear) (channels roomed later : List Live) → heard ≡ Heard.More
    → ((size : ℕ) (journal : List Item) (given taken : Marks) → AreLiveBy size journal given taken channels → AreLiveBy size journal given taken roomed)
    → ((size : ℕ) (fed rest : List ℕ) (journal : List Item) (given taken : Marks) → IsEar size fed rest journal given taken ear roomed → Answers heard size octets fed journal given taken new later)
    → IsHeld ear channels → IsHeld new later
step_held octets heard ear new channels roomed later more room answers held =
    held_after ear new roomed later octets
    (λ size fed rest journal given taken s. subst (λ (h : Heard). Answers h size octets fed journal given taken new later) more (answers size fed rest journal given taken s))
    (held_roomed ear channels roomed room held)

-- ---- what a caller knows after a feed

module _ (size : ℕ) (octets fed : List ℕ) (journal : List Item) (given taken : Marks) (new : Ear) (later : List Live) where
  held_goes : Goes size octets fed journal given taken new later → IsHeld new later
  held_goes g = merely (size, fed ++ octets, g.brings.rest, g.gained ++ journal, given, g.brings.taken_now, g.brings.stands)

  -- something is stood for, where no rule was broken and nothing waits
  pub answers_reached : (heard : Heard) → Answers heard size octets fed journal given taken new later → IsReached new later
  answers_reached Heard.More h going none = held_goes h
  answers_reached (Heard.Arrived number) h going none =
      merely (size, fed ++ octets, h.brings.rest, passed Side.Received h.head h.payload ∷ h.gained ++ journal, given, h.brings.taken_now, h.brings.stands)
  answers_reached (Heard.Zero head) h going none = absurd (cc (sym h.waits.waiting ∙ none))
  answers_reached (Heard.Broken rule place) h going none = absurd (cc (sym h.stopped ∙ going))
  answers_reached Heard.NoMemory h going none = held_goes h

  -- a message waits where that is the answer
  pub answers_waiting : (heard : Heard) (head : Head) → heard ≡ Heard.Zero head → Answers heard size octets fed journal given taken new later → IsWaiting new later
  answers_waiting Heard.More head is h = absurd (cc is)
  answers_waiting (Heard.Arrived number) head is h = absurd (cc is)
  answers_waiting (Heard.Zero other) head is h = merely (size, fed ++ octets, h.gained ++ journal, given, h.taken_now, other, h.payload, h.waits)
  answers_waiting (Heard.Broken rule place) head is h = absurd (cc is)
  answers_waiting Heard.NoMemory head is h = absurd (cc is)
