-- What one piece made of the lister, the lines and the output.
use Rattle.std.proofs.Common.{◌≡◌, ℕ, ◌+◌, ◌≤◌, Bool, List, [], ◌∷◌, ◌++◌, length, Option, Some, None, ap, sym, ◌∙◌, arith, subst, refl, append_assoc, append-nil, length-append}
use Rattle.std.specs.Io.KnownBytes.{Appends}
use Rattle.std.specs.declared.result.Result.{Result}
use Rattle.std.specs.declared.result.Result.TheVariants.{Ok, Err}
use Rattle.std.specs.Result.{OnOk, OnErr}
use Rattle.beep_frame.specs.declared.head.Head.{Head}
use Rattle.beep_frame.specs.declared.rule.Rule.{Rule}
use Rattle.beep_octets.specs.Held.{Held, KeepsRoom}
use Rattle.beep_frame.specs.Frame.{Frame}
use Rattle.beep_frame.specs.Spelling.{header_line, line_end}
use Rattle.beep_frame.specs.Stream.{IsHeadOf}
use Rattle.beep_frame.proofs.LawLemmas.{means, length-header_line}
use Rattle.beep_wires.specs.Transfer.{AppendsPrefix}
use Rattle.beep_show.specs.declared.listing.Lister.{Lister}
use Rattle.beep_show.specs.declared.listing.Listed.{Listed}
use Rattle.beep_show.specs.declared.listing.TheConstants.{PIECE}
use Rattle.beep_show.specs.Listing.{Gathers, Adds, Holds, Lists, ListsTo, ListsFirst, ListsAs, Reads, IsClear}
use Rattle.beep_show.specs.Passing.{BreaksIn, all_of, up_to, Writes, BeginsToWrite, PassedOn, PassedTo, PassedShort, PassedFirst}
use Rattle.beep_show.proofs.ListingLemmas.{read_of}
use Rattle.beep_frame.specs.Fed.{fed_of}

line_by : (octets : List ℕ) (whole : Bool) (rest : List ℕ) (known : Option Head) → Gathers octets whole rest known → IsHeadOf rest known → length octets ≤ 62
line_by octets whole rest None g w = omega (arith, w.short, ap length g.1)
line_by octets whole rest (Some head) g w =
    omega (arith, ap length g.1, length-append (header_line head) line_end, length-header_line head w.is_head)

-- the line that is gathered finds room beside a piece
line_le : (elements : Bool) (l : Lister) (fed : List ℕ) (frames : List Frame) (rest : List ℕ) (known : Option Head) → Holds elements l (fed_of fed frames rest known) → length l.line.octets ≤ 62
line_le elements l fed frames rest known h = line_by l.line.octets l.has_head rest known h.gathers (means l.decoder fed frames rest known h.stands).is_head

pub piece_fits : (elements : Bool) (l : Lister) (fed : List ℕ) (frames : List Frame) (rest : List ℕ) (known : Option Head) (piece : List ℕ) → Reads elements l (fed_of fed frames rest known) → length piece ≤ PIECE → length l.line.octets + length piece ≤ l.out.spare
piece_fits elements l fed frames rest known piece r small = omega (arith, line_le elements l fed frames rest known r.holds, r.clear.room)

-- what was written begins the piece, whether the write failed or not
pub prefix_by : {E : Type 0} (r : Result (Unit {0}) E) (old new : Option (List ℕ)) (text : List ℕ) → OnOk r (Appends old new text) → OnErr r (AppendsPrefix old new text) → AppendsPrefix old new text
prefix_by (Ok x) old new text a b = (text, [], sym (append-nil text), a)
prefix_by (Err e) old new text a b = b

module _ (elements : Bool) (l mid : Lister) (out : Held) (fed : List ℕ) (frames : List Frame) (rest : List ℕ) (known : Option Head) (piece : List ℕ) (r : Reads elements l (fed_of fed frames rest known)) (room : KeepsRoom l.out mid.out) (cleared : out.octets ≡ []) (spare : mid.out.spare + length mid.out.octets ≤ out.spare) (old_text new_text : Option (List ℕ)) where
  -- the lines are those of the frames that came
  lines : (more : List Frame) (a : Adds elements frames more l.out.octets mid.out.octets) → mid.out.octets ≡ a.text
  lines more a = a.written ∙ ap (λ x. x ++ a.text) r.clear.none

  writes : (more : List Frame) → Adds elements frames more l.out.octets mid.out.octets → Appends old_text new_text mid.out.octets → Writes elements frames more old_text new_text
  writes more a w = record { text = a.text; lines = a.lines; appended = subst (λ x. Appends old_text new_text x) (lines more a) w }

  begins : (more : List Frame) → Adds elements frames more l.out.octets mid.out.octets → AppendsPrefix old_text new_text mid.out.octets → BeginsToWrite elements frames more old_text new_text
  begins more a w = record { text = a.text; lines = a.lines; prefix = subst (λ x. AppendsPrefix old_text new_text x) (lines more a) w }

  is_clear : IsClear (record mid { out = out })
  is_clear = record { none = cleared; room = omega (arith, r.clear.room, room, spare) }

  pub passed_on : Lists elements l mid fed frames piece → Appends old_text new_text mid.out.octets → PassedOn elements (record mid { out = out }) fed frames piece old_text new_text
  passed_on w a =
      let h = w.holds in
      let holds : Holds elements (record mid { out = out }) (fed_of (fed ++ piece) (frames ++ w.more) w.rest w.known) = record { stands = h.stands; max = h.max; gathers = h.gathers; room = h.room; frames_are = h.frames_are; elements_are = h.elements_are; message = h.message } in
      record { more = w.more; rest = w.rest; known = w.known; reads = record { holds = holds; clear = is_clear }; writes = writes w.more w.adds a }

  breaks_in : (rule : Rule) (place : ℕ) (w : ListsTo rule place elements l mid fed frames piece) → BreaksIn (fed ++ piece) (frames ++ w.more) rule place
  breaks_in rule place w =
      record { before = fed ++ w.before; rest = w.rest; octet = w.octet; others = w.others; octets_are = ap (λ x. fed ++ x) w.piece_is ∙ sym (append_assoc fed w.before (w.octet ∷ w.others)); place_is = w.place_is; read = w.read; breaks = w.breaks }

  pub passed_to : (rule : Rule) (place : ℕ) → ListsTo rule place elements l mid fed frames piece → Appends old_text new_text mid.out.octets → PassedTo rule place elements (record mid { out = out }) fed frames piece old_text new_text
  passed_to rule place w a = record { more = w.more; breaks = breaks_in rule place w; clear = is_clear; writes = writes w.more w.adds a }

  pub passed_first : ListsFirst elements l mid fed frames piece → AppendsPrefix old_text new_text mid.out.octets → PassedFirst elements fed frames piece old_text new_text
  passed_first w a =
      record { more = w.more; first_of = record { first = fed ++ w.first; others = w.others; rest = w.rest; octets_are = ap (λ x. fed ++ x) w.piece_is ∙ sym (append_assoc fed w.first w.others); read = w.read }; begins = begins w.more w.adds a }

  -- a write failed, and there was memory enough
  pub passed_short : (listed : Listed) → (listed ≡ Listed.NoMemory → ⊥) → ListsAs listed elements l mid fed frames piece → AppendsPrefix old_text new_text mid.out.octets → PassedShort elements fed frames piece old_text new_text
  passed_short Listed.Whole other w a =
      record { more = w.more; frames_of = all_of w.rest (read_of elements mid (fed ++ piece) (frames ++ w.more) w.rest w.known w.holds); begins = begins w.more w.adds a }
  passed_short (Listed.Broken rule place) other w a =
      record { more = w.more; frames_of = up_to rule place (breaks_in rule place w); begins = begins w.more w.adds a }
  passed_short Listed.NoMemory other w a = absurd (other refl)
