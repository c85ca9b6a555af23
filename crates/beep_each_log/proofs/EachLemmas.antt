-- Each flat log shows a session, in which the octets of each side lead to some place in a frame.
use Rattle.std.proofs.Common.{◌≡◌, ℕ, ◌⊎◌, inl, inr, Bool, true, false, not, ◌&&◌, if◌then◌else◌, List, [], ◌∷◌, ◌++◌, Option, None, Some, refl, sym, ap, subst}
use Rattle.std.specs.List.{flat_map}
use Rattle.beep_frame.specs.declared.head.Head.{Head}
use Rattle.beep_frame.specs.declared.seq.Seq.{Seq}
use Rattle.beep_frame.specs.declared.rule.Rule.{Rule}
use Rattle.beep_frame.specs.Frame.{Frame}
use Rattle.beep_frame.specs.Spelling.{spelling}
use Rattle.beep_frame.specs.Stream.{DiesAt, InTrailer}
use Rattle.beep_frame.specs.Finding.{DiesInLine, DiesInTrailer}
use Rattle.beep_frame.proofs.AliveLemmas.{dies_in_line, dies_in_trailer, not_in_trailer}
use Rattle.beep_history.specs.declared.journal.Side.{Side}
use Rattle.beep_history.specs.Journal.{same_side}
use Rattle.beep_journal.specs.Log.{Moment, got, put, none, over}
use Rattle.beep_journal.specs.Life.{is_released}
use Rattle.beep_journal.specs.Broken.{Tuning, broken_head, broken_seq, broken_content}
use Rattle.beep_journal.specs.Journal.{Past, spelled, with_rest, fault_at, begins, passes, seq_ends, TakesOctet, TakesWhere, Takes, goes_on, Shows}
use Rattle.beep_journal.proofs.ShownLemmas.{frames_of, spelled-frames, AreFrames, shown-frames}
use Rattle.beep_each_log.proofs.NextLemmas.{IsAt, at_start, Next, next}

-- ---- what stays

-- the octets of each side lead to some place in a frame
abbrev pub Leads : Past → Type 0
Leads past = (side : Side) → IsAt (past.rest side)

at_either : (b : Bool) (one other : List ℕ) → IsAt one → IsAt other → IsAt (if b then one else other)
at_either true one other here there = here
at_either false one other here there = there

leads_with : (side : Side) (octets : List ℕ) (past : Past) → IsAt octets → Leads past → (of : Side) → IsAt (with_rest side octets past.rest of)
leads_with side octets past at leads of = at_either (same_side of side) octets (past.rest of) at (leads of)

begins_leads : (rule : Option Rule) (side : Side) (octet : ℕ) (head : Head) (past : Past) → IsAt (past.rest side ++ octet ∷ []) → Leads past → Leads (begins rule side octet head past)
begins_leads None side octet head past at leads = leads_with side (past.rest side ++ octet ∷ []) past at leads
begins_leads (Some rule) side octet head past at leads = leads

seq_leads : (rule : Option Rule) (side : Side) (seq : Seq) (past : Past) → Leads past → Leads (seq_ends rule side seq past)
seq_leads None side seq past leads = leads_with side [] past at_start leads
seq_leads (Some rule) side seq past leads = leads

-- ---- one octet

module _ (tunes : Tuning) (side : Side) (octet : ℕ) (old : Past) (each : AreFrames old) (leads : Leads old) where
  -- the octets of the side, frame by frame
  by_frames : flat_map spelling (frames_of side old.journal) ≡ spelled side old.journal
  by_frames = sym (spelled-frames side old.journal)

  -- what the octet makes of the session, wherever its sides lead then
  abbrev Makes : Type 0
  Makes = (new : Past) × TakesOctet tunes side octet old new × Leads new

  -- the stream of the side is dead there
  dies : (rule : Rule) → DiesAt (spelled side old.journal ++ old.rest side) octet
      → ((rule ≡ Rule.Header) × (InTrailer (spelled side old.journal ++ old.rest side) → ⊥)) ⊎ ((rule ≡ Rule.Trailer) × InTrailer (spelled side old.journal ++ old.rest side)) → Makes
  dies rule dead place =
      (record old { fault = Some (fault_at side old rule) }, inr (inr (inr (inr (record { rule = rule; dies = dead; place = place; new_is = refl })))), leads)

  in_line : DiesInLine (old.rest side) octet → Makes
  in_line d =
      let frames : List Frame = frames_of side old.journal in
      let outside : InTrailer (spelled side old.journal ++ old.rest side) → ⊥ =
      subst (λ (x : List ℕ). InTrailer (x ++ old.rest side) → ⊥) by_frames (not_in_trailer frames (old.rest side) d.line (each side) d.inside) in
      dies Rule.Header (subst (λ (x : List ℕ). DiesAt (x ++ old.rest side) octet) by_frames (dies_in_line frames (old.rest side) octet (each side) d)) (inl (refl, outside))

  in_trailer : DiesInTrailer (old.rest side) octet → Makes
  in_trailer d =
      let frames : List Frame = frames_of side old.journal in
      let inside : InTrailer (flat_map spelling frames ++ old.rest side) =
      record { frames = frames; head = d.head; payload = d.payload; count = d.count; each = each side; is_frame = d.is_frame; fewer = d.fewer; whole = ap (λ x. flat_map spelling frames ++ x) d.whole } in
      dies Rule.Trailer (subst (λ (x : List ℕ). DiesAt (x ++ old.rest side) octet) by_frames (dies_in_trailer frames (old.rest side) octet (each side) d))
      (inr (refl, subst (λ (x : List ℕ). InTrailer (x ++ old.rest side)) by_frames inside))

  -- by what the octet is
  made : Next (old.rest side) octet → Makes
  made (inl on) = (
    record old { rest = with_rest side (old.rest side ++ octet ∷ []) old.rest },
    inl (record { unfinished = on.unfinished; no_header = on.no_header; new_is = refl }),
    leads_with side (old.rest side ++ octet ∷ []) old on.at leads,
  )
  made (inr (inl h)) =
      let rule : Option Rule = broken_head tunes side old.journal h.head in
      (begins rule side octet h.head old, inr (inl (record { head = h.head; is_head = h.is_head; whole = h.whole; new_is = refl })), begins_leads rule side octet h.head old h.at leads)
  made (inr (inr (inl f))) = (
    passes (broken_content side old.journal f.head f.payload) side f.head f.payload old,
    inr (inr (inl (record { head = f.head; payload = f.payload; is_frame = f.is_frame; whole = f.whole; new_is = refl }))),
    leads_with side [] old at_start leads,
  )
  made (inr (inr (inr (inl s)))) =
      let rule : Option Rule = broken_seq side old.journal s.seq in
      (seq_ends rule side s.seq old, inr (inr (inr (inl (record { seq = s.seq; is_seq = s.is_seq; whole = s.whole; new_is = refl })))), seq_leads rule side s.seq old leads)
  made (inr (inr (inr (inr (inl d))))) = in_line d
  made (inr (inr (inr (inr (inr d))))) = in_trailer d

  -- the same where octets of the side may not count
  made_where : (b : Bool) → (new : Past) × TakesWhere b tunes side octet old new × Leads new
  made_where true = made (next (old.rest side) octet (leads side))
  made_where false = (old, refl, leads)

-- ---- the whole log

made_of : (tunes : Tuning) (moment : Moment) (old : Past) → AreFrames old → Leads old → (new : Past) × Takes tunes moment old new × Leads new
made_of tunes (got octet) old each leads = made_where tunes Side.Received octet old each leads (goes_on old && not (is_released old.journal))
made_of tunes (put octet) old each leads = made_where tunes Side.Sent octet old each leads (goes_on old)
made_of tunes none old each leads = (old, refl, leads)
made_of tunes over old each leads = (old, refl, leads)

shown : (tunes : Tuning) (log : List Moment) → (past : Past) × Shows tunes log past × Leads past
shown tunes [] = (_, refl, λ side. at_start)
shown tunes (moment ∷ log) =
    let before = shown tunes log in
    let now = made_of tunes moment before.0 (shown-frames tunes log before.0 before.1) before.2 in
    (now.0, (before.0, before.1, now.1), now.2)

pub some-shown : (tunes : Tuning) (log : List Moment) → (past : Past) × Shows tunes log past
some-shown tunes log = let whole = shown tunes log in (whole.0, whole.1)
