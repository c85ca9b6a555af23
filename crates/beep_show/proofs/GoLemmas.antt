-- What the reading did, read by read.
use Rattle.std.proofs.Common.{◌≡◌, ℕ, ◌+◌, ◌-◌, ◌<◌, ◌≤◌, Bool, List, [], ◌++◌, length, take, Option, Some, None, inl, inr, refl, ap, sym, ◌∙◌, arith, subst, append_assoc, append-nil, length-append, length-take}
use Rattle.std.proofs.lemmas.List.{take-append-le, length-take-le}
use Rattle.std.specs.Io.KnownBytes.{Appends, Consumes}
use Rattle.std.proofs.KnownBytes.{Appends-nil, Appends-trans, Consumes-nil, Consumes-trans}
use Rattle.beep_frame.specs.declared.rule.Rule.{Rule}
use Rattle.beep_frame.specs.Frame.{Frame}
use Rattle.beep_wires.specs.Counts.{Rose}
use Rattle.beep_wires.specs.States.{SourceState, SinkState}
use Rattle.beep_wires.specs.Transfer.{AppendsPrefix}
use Rattle.beep_words.specs.declared.command.ShowSettings.{ShowSettings as Settings}
use Rattle.beep_show.specs.declared.listing.Lister.{Lister}
use Rattle.beep_show.specs.declared.listing.TheConstants.{PIECE}
use Rattle.beep_show.specs.declared.ending.Ending.{Ending}
use Rattle.beep_show.specs.Texts.{AreLines}
use Rattle.beep_show.specs.Listing.{Reads, gathered}
use Rattle.beep_show.specs.Passing.{Passes, Writes, BeginsToWrite, PassedOn, PassedTo, PassedShort, PassedFirst, Went, WentTo, WentShort, WentFirst, Goes, GoesOn}
use Rattle.beep_show.proofs.ListingLemmas.{lines_append}
use Rattle.beep_frame.specs.Fed.{nothing_fed}

-- nothing was read
pub went_none : (settings : Settings) (l : Lister) (a s : Option (List ℕ)) → Reads settings.elements l nothing_fed → GoesOn settings l a a s s settings.octets
went_none settings l a s r =
    record { went = record { octets = []; frames = []; rest = []; known = None; reads = r; consumed = Consumes-nil a; writes = record { text = []; lines = refl; appended = Appends-nil s } }; counts = omega arith }

-- a count that rose in a part of a call rose in it
pub rose_later : (a b c : ℕ) → a ≤ b → Rose b c → Rose a c
rose_later a b c h (inl w) = inl (omega arith)
rose_later a b c h (inr w) = inr w

pub prefix_after : (s t u : Option (List ℕ)) (first second : List ℕ) → Appends s t first → AppendsPrefix t u second → AppendsPrefix s u (first ++ second)
prefix_after s t u first second a p =
    (first ++ p.0, p.1, ap (λ x. first ++ x) p.2 ∙ sym (append_assoc first p.0 p.1), Appends-trans s t u first p.0 a p.3)

-- lines after those of other frames
lines_on : (elements : Bool) (frames more : List Frame) (t u : List ℕ) → AreLines elements (gathered []) frames t → AreLines elements (gathered frames) more u → AreLines elements (gathered []) (frames ++ more) (t ++ u)
lines_on elements frames more t u a b = lines_append elements [] frames more t u a b

module _ (settings : Settings) (l new : Lister) (from mid to : SourceState) (before between after : SinkState) (may : ℕ) (g : GoesOn settings l from.left mid.left before.written between.written may) (buf tail : List ℕ) (n : ℕ) (some : n ≤ length buf) (few : n ≤ may) (consumed : Consumes mid.left to.left (take n buf)) where
  abbrev a : Option (List ℕ)
  a = from.left

  abbrev b : Option (List ℕ)
  b = mid.left

  abbrev c : Option (List ℕ)
  c = to.left

  abbrev s : Option (List ℕ)
  s = before.written

  abbrev t : Option (List ℕ)
  t = between.written

  abbrev u : Option (List ℕ)
  u = after.written

  abbrev elements : Bool
  elements = settings.elements

  all_consumed : Consumes a c (g.went.octets ++ take n buf)
  all_consumed = Consumes-trans a b c g.went.octets (take n buf) g.went.consumed consumed

  counted : length (g.went.octets ++ take n buf) + (may - n) ≡ settings.octets
  counted = omega (arith, g.counts, length-append g.went.octets (take n buf), length-take-le n buf some)

  all_written : (more : List Frame) → Writes elements g.went.frames more t u → Writes elements [] (g.went.frames ++ more) s u
  all_written more w =
      let first = g.went.writes in
      record { text = first.text ++ w.text; lines = lines_on elements g.went.frames more first.text w.text first.lines w.lines; appended = Appends-trans s t u first.text w.text first.appended w.appended }

  all_begun : (more : List Frame) → BeginsToWrite elements g.went.frames more t u → BeginsToWrite elements [] (g.went.frames ++ more) s u
  all_begun more w =
      let first = g.went.writes in
      record { text = first.text ++ w.text; lines = lines_on elements g.went.frames more first.text w.text first.lines w.lines; prefix = prefix_after s t u first.text w.text first.appended w.prefix }

  goes_on : PassedOn elements new g.went.octets g.went.frames (take n buf) t u → GoesOn settings new a c s u (may - n)
  goes_on p =
      record { went = record { octets = g.went.octets ++ take n buf; frames = g.went.frames ++ p.more; rest = p.rest; known = p.known; reads = p.reads; consumed = all_consumed; writes = all_written p.more p.writes }; counts = counted }

  goes_to : (rule : Rule) (place : ℕ) → PassedTo rule place elements new g.went.octets g.went.frames (take n buf) t u → WentTo rule place settings new a c s u
  goes_to rule place p =
      record { octets = g.went.octets ++ take n buf; frames = g.went.frames ++ p.more; breaks = p.breaks; clear = p.clear; few = omega (arith, counted); consumed = all_consumed; writes = all_written p.more p.writes }

  goes_short : PassedShort elements g.went.octets g.went.frames (take n buf) t u → WentShort settings a c s u
  goes_short p =
      record { octets = g.went.octets ++ take n buf; frames = g.went.frames ++ p.more; frames_of = p.frames_of; few = omega (arith, counted); consumed = all_consumed; begins = all_begun p.more p.begins }

  goes_first : PassedFirst elements g.went.octets g.went.frames (take n buf) t u → WentFirst settings a c s u
  goes_first p =
      record { octets = g.went.octets ++ take n buf; frames = g.went.frames ++ p.more; first_of = p.first_of; few = omega (arith, counted); consumed = all_consumed; begins = all_begun p.more p.begins }

  -- the piece, as a buffer has it
  piece_is : take n (buf ++ tail) ≡ take n buf
  piece_is = take-append-le n buf tail some

  pub passed_none : Passes None elements new g.went.octets g.went.frames (take n (buf ++ tail)) between after → GoesOn settings new a c s u (may - n)
  passed_none p = goes_on (subst (λ x. PassedOn elements new g.went.octets g.went.frames x t u) piece_is p)

  pub passed_some : (ending : Ending) → before.faults ≤ between.faults → Passes (Some ending) elements new g.went.octets g.went.frames (take n (buf ++ tail)) between after → Goes ending settings new from to before after
  passed_some (Ending.Ended k) h p = absurd p
  passed_some (Ending.Spent k) h p = absurd p
  passed_some Ending.ReadFault h p = absurd p
  passed_some Ending.WriteFault h p = (rose_later before.faults between.faults after.faults h p.0, goes_short (subst (λ x. PassedShort elements g.went.octets g.went.frames x t u) piece_is p.1))
  passed_some Ending.NoMemory h p = (p.0, goes_first (subst (λ x. PassedFirst elements g.went.octets g.went.frames x t u) piece_is p.1))
  passed_some (Ending.Broken rule place) h p = goes_to rule place (subst (λ x. PassedTo rule place elements new g.went.octets g.went.frames x t u) piece_is p)

-- nothing more was read
on : (settings : Settings) (l : Lister) (a b c s t : Option (List ℕ)) (may : ℕ) → GoesOn settings l a b s t may → Consumes b c [] → (w : Went settings.elements l a c s t) × (length w.octets + may ≡ settings.octets)
on settings l a b c s t may g e =
    let w = g.went in
    let all : Consumes a c w.octets = subst (λ x. Consumes a c x) (append-nil w.octets) (Consumes-trans a b c w.octets [] w.consumed e) in
    (record { octets = w.octets; frames = w.frames; rest = w.rest; known = w.known; reads = w.reads; consumed = all; writes = w.writes }, g.counts)

-- the input ended
pub went_ended : (settings : Settings) (l : Lister) (a b c s t : Option (List ℕ)) (may : ℕ) (buf : List ℕ) → may ≤ settings.octets → 0 < may → GoesOn settings l a b s t may → Consumes b c (take 0 buf) → (w : Went settings.elements l a c s t) × (settings.octets - may ≡ length w.octets) × (settings.octets - may < settings.octets)
went_ended settings l a b c s t may buf within more g e =
    let w = on settings l a b c s t may g e in
    (w.0, omega (arith, w.1), omega arith)

-- a read failed
pub went_fault : (settings : Settings) (l : Lister) (a b c s t : Option (List ℕ)) (may : ℕ) → 0 < may → GoesOn settings l a b s t may → Consumes b c [] → (w : Went settings.elements l a c s t) × (length w.octets < settings.octets)
went_fault settings l a b c s t may more g e =
    let w = on settings l a b c s t may g e in
    (w.0, omega (arith, w.1))

pub short_piece : (buf tail : List ℕ) (n : ℕ) → n ≤ PIECE → length (take n (buf ++ tail)) ≤ PIECE
short_piece buf tail n h = omega (arith, length-take n (buf ++ tail))
