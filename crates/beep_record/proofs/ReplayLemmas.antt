-- What the octets of a log make of a replayer.
use Rattle.std.proofs.Common.{◌≡◌, ℕ, ◌+◌, ◌*◌, ◌^◌, ◌<◌, ◌≤◌, inl, inr, Bool, true, false, List, [], ◌∷◌, ◌++◌, length, take, drop, take-append-drop, Option, None, Some, Result, Ok, Err, OnOk, OnErr, IfOk, if◌then◌else◌, codes, fold, refl, sym, ap, subst, ◌∙◌, append_assoc, append-nil, arith, length-append}
use Rattle.std.proofs.lemmas.List.{take_all}
use Rattle.std.proofs.lemmas.List.Sums.{fold-append}
use Rattle.std.specs.Fmt.{decimal}
use Rattle.beep_frame.specs.Frame.{Frame, framed, seq_frame, IsFrame}
use Rattle.beep_frame.specs.Spelling.{header, header_line, seq_line, line_end, trailer, spelling}
use Rattle.beep_frame.specs.Stream.{IsUnfinished}
use Rattle.beep_frame.specs.Modulo.{modulo_2_64}
use Rattle.beep_frame.proofs.LawLemmas.{means, length-header_line, length-seq_line}
use Rattle.beep_journal.proofs.ShownLemmas.{one-shown}
use Rattle.beep_record.specs.declared.log.Entry.{Entry as Kept}
use Rattle.beep_record.specs.Logged.{entry_of, log_of}
use Rattle.beep_frame.specs.declared.head.Head.{Head}
use Rattle.beep_frame.specs.declared.rule.Rule.{Rule}
use Rattle.beep_frame.specs.declared.seq.Seq.{Seq}
use Rattle.beep_history.specs.declared.journal.Side.{Side}
use Rattle.beep_history.specs.Journal.{passed, told, same_side, other}
use Rattle.beep_journal.specs.Log.{Moment, got, put, none, over, got_all, put_all, Entry, read, wrote, quiet, ended, flat}
use Rattle.beep_journal.specs.Broken.{none_tunes, broken_head, broken_seq, broken_content}
use Rattle.beep_journal.specs.Journal.{Past, Fault, spelled, with_rest, begins, passes, seq_ends, TakesOctet, TakesWhere, Takes, Shows}
use Rattle.beep_journal.specs.Texts.{frame_count, lines, line_of, ending, report}
use Rattle.beep_judge.specs.Judges.{Judges}
use Rattle.beep_judge.specs.Kept.{under_way_of}
use Rattle.beep_record.specs.declared.verdict.Verdict.{Verdict}
use Rattle.beep_record.specs.declared.wire.Wire.{Wire}
use Rattle.beep_record.specs.declared.replayer.Replayer.{Replayer}
use Rattle.beep_record.specs.Verdicts.{verdict_of, Begins, Replays}
use Rattle.beep_record.proofs.OctetLemmas.{more_text}
use Rattle.beep_record.proofs.PieceLemmas.{going_of}
use Rattle.beep_record.proofs.FollowLemmas.{side_of, not_fine}
use Rattle.beep_record.specs.Following.{counts, counted, IsSide, IsHeld, TakesEach, Moved, octets_of}
use Rattle.beep_record.specs.Replaying.{Follows, Stopped, many}

-- ---- the other side stays

rest_other : (side : Side) (octets : List ℕ) (rest : Side → List ℕ) → with_rest side octets rest (other side) ≡ rest (other side)
rest_other Side.Received octets rest = refl
rest_other Side.Sent octets rest = refl

-- what a side has of a session is the same
pub record Same (side : Side) (past after : Past) : Type 0 where
  pub spelled_is : spelled side after.journal ≡ spelled side past.journal
  pub rest_is : after.rest side ≡ past.rest side
  pub count_is : frame_count side after.journal ≡ frame_count side past.journal

stays : (side : Side) (wire : Wire) (under : Option Head) (past after : Past) → Same side past after → IsSide side wire under past → IsSide side wire under after
stays side wire under past after same is =
    let octets : octets_of side after ≡ octets_of side past = ap (λ x. x ++ after.rest side) same.spelled_is ∙ ap (λ x. spelled side past.journal ++ x) same.rest_is in
    side_of side wire under after is.frames (octets_of side past) (past.rest side) is.was_fed octets same.rest_is is.max is.used (is.count ∙ ap counted (sym same.count_is))

same_begins : (side : Side) (rule : Option Rule) (octet : ℕ) (head : Head) (past : Past) → Same (other side) past (begins rule side octet head past)
same_begins side None octet head past = record { spelled_is = refl; rest_is = rest_other side _ past.rest; count_is = refl }
same_begins side (Some rule) octet head past = record { spelled_is = refl; rest_is = refl; count_is = refl }

same_passes : (side : Side) (rule : Option Rule) (head : Head) (payload : List ℕ) (past : Past) → Same (other side) past (passes rule side head payload past)
same_passes Side.Received rule head payload past = record { spelled_is = refl; rest_is = refl; count_is = refl }
same_passes Side.Sent rule head payload past = record { spelled_is = refl; rest_is = refl; count_is = refl }

same_seq : (side : Side) (rule : Option Rule) (seq : Seq) (past : Past) → Same (other side) past (seq_ends rule side seq past)
same_seq Side.Received None seq past = record { spelled_is = refl; rest_is = refl; count_is = refl }
same_seq Side.Sent None seq past = record { spelled_is = refl; rest_is = refl; count_is = refl }
same_seq side (Some rule) seq past = record { spelled_is = refl; rest_is = refl; count_is = refl }

pub same_other : (side : Side) (octet : ℕ) (past after : Past) → TakesOctet none_tunes side octet past after → Same (other side) past after
same_other side octet past after (inl on) =
    subst (Same (other side) past) (sym on.new_is) (record { spelled_is = refl; rest_is = rest_other side _ past.rest; count_is = refl })
same_other side octet past after (inr (inl h)) = subst (Same (other side) past) (sym h.new_is) (same_begins side (broken_head none_tunes side past.journal h.head) octet h.head past)
same_other side octet past after (inr (inr (inl f))) = subst (Same (other side) past) (sym f.new_is) (same_passes side (broken_content side past.journal f.head f.payload) f.head f.payload past)
same_other side octet past after (inr (inr (inr (inl q)))) = subst (Same (other side) past) (sym q.new_is) (same_seq side (broken_seq side past.journal q.seq) q.seq past)
same_other side octet past after (inr (inr (inr (inr d)))) = subst (Same (other side) past) (sym d.new_is) (record { spelled_is = refl; rest_is = refl; count_is = refl })

same_past : (side : Side) (past : Past) → Same side past past
same_past side past = record { spelled_is = refl; rest_is = refl; count_is = refl }

same_then : (side : Side) (past next after : Past) → Same side past next → Same side next after → Same side past after
same_then side past next after one two =
    record { spelled_is = two.spelled_is ∙ one.spelled_is; rest_is = two.rest_is ∙ one.rest_is; count_is = two.count_is ∙ one.count_is }

same_where : (b : Bool) (side : Side) (octet : ℕ) (past after : Past) → TakesWhere b none_tunes side octet past after → Same (other side) past after
same_where true side octet past after takes = same_other side octet past after takes
same_where false side octet past after same = subst (Same (other side) past) (sym same) (same_past (other side) past)

same_each : (side : Side) (octets : List ℕ) (past after : Past) → TakesEach side octets past after → Same (other side) past after
same_each side [] past after same = subst (Same (other side) past) (sym same) (same_past (other side) past)
same_each side (octet ∷ octets) past after takes =
    same_then (other side) past takes.0 after (same_where (counts side past) side octet past takes.0 takes.1) (same_each side octets takes.0 after takes.2)

other_stays : (side : Side) (octets : List ℕ) (wire : Wire) (under now : Option Head) (past after : Past) → TakesEach side octets past after → now ≡ under
    → IsSide (other side) wire under past → IsSide (other side) wire now after
other_stays side octets wire under now past after takes same is =
    subst (λ (u : Option Head). IsSide (other side) wire u after) (sym same) (stays (other side) wire under past after (same_each side octets past after takes) is)

-- ---- octets that count and octets that don't

passed_by : (b : Bool) (side : Side) (octet : ℕ) (past : Past) → b ≡ false → TakesWhere b none_tunes side octet past past
passed_by true side octet past is = absurd (cc is)
passed_by false side octet past is = refl

passes_each : (side : Side) (octets : List ℕ) (past : Past) → counts side past ≡ false → TakesEach side octets past past
passes_each side [] past is = refl
passes_each side (octet ∷ octets) past is = (past, passed_by (counts side past) side octet past is, passes_each side octets past is)

shows_got : (octets : List ℕ) (log : List Moment) (past after : Past) → Shows none_tunes log past → TakesEach Side.Received octets past after → Shows none_tunes (got_all octets log) after
shows_got [] log past after shows same = subst (Shows none_tunes log) (sym same) shows
shows_got (octet ∷ octets) log past after shows takes = shows_got octets (got octet ∷ log) takes.0 after (past, shows, takes.1) takes.2

shows_put : (octets : List ℕ) (log : List Moment) (past after : Past) → Shows none_tunes log past → TakesEach Side.Sent octets past after → Shows none_tunes (put_all octets log) after
shows_put [] log past after shows same = subst (Shows none_tunes log) (sym same) shows
shows_put (octet ∷ octets) log past after shows takes = shows_put octets (put octet ∷ log) takes.0 after (past, shows, takes.1) takes.2

pub shows_each : (side : Side) (octets : List ℕ) (log : List Moment) (past after : Past) → Shows none_tunes log past → TakesEach side octets past after → Shows none_tunes (many side octets log) after
shows_each Side.Received octets log past after shows takes = shows_got octets log past after shows takes
shows_each Side.Sent octets log past after shows takes = shows_put octets log past after shows takes

pub follows_passed : (r : Replayer) (side : Side) (octets : List ℕ) (log : List Moment) (old out : List ℕ) (follows : Follows r log old out) → counts side follows.past ≡ false → Follows r (many side octets log) old out
follows_passed r side octets log old out follows is = record {
  past = follows.past;
  shows = shows_each side octets log follows.past follows.past follows.shows (passes_each side octets follows.past is);
  verdict_is = follows.verdict_is;
  both = follows.both;
  text_is = follows.text_is;
}

longer_text : (old out now gained one two : List ℕ) → out ≡ old ++ one → now ≡ out ++ gained → two ≡ one ++ gained → now ≡ old ++ two
longer_text old out now gained one two before more whole = more ∙ ap (λ x. x ++ gained) before ∙ append_assoc old one gained ∙ ap (λ x. old ++ x) (sym whole)

pub follows_received : (r : Replayer) (octets : List ℕ) (log : List Moment) (old out now : List ℕ) (follows : Follows r log old out) → counts Side.Received follows.past ≡ true
    → (new : Replayer) → new.sent ≡ r.sent → under_way_of Side.Sent new.judge ≡ under_way_of Side.Sent r.judge
    → Moved Side.Received octets follows.past new.verdict new.received (under_way_of Side.Received new.judge) (Judges new.judge) out now
    → Follows new (got_all octets log) old now
follows_received r octets log old out now follows is new sent others moved = record {
  past = moved.after;
  shows = shows_each Side.Received octets log follows.past moved.after follows.shows moved.takes;
  verdict_is = moved.verdict_is;
  both = λ going. record {
    received = moved.side_is going;
    sent = subst (λ (w : Wire). IsSide Side.Sent w (under_way_of Side.Sent new.judge) moved.after) (sym sent)
        (other_stays Side.Received octets r.sent (under_way_of Side.Sent r.judge) (under_way_of Side.Sent new.judge) follows.past moved.after moved.takes others
        (follows.both (going_of Side.Received follows.past is)).sent);
    judged = moved.judged_is going;
  };
  text_is = longer_text old out now moved.gained (lines follows.past.journal) (lines moved.after.journal) follows.text_is moved.text_is moved.lines_are;
}

pub follows_sent : (r : Replayer) (octets : List ℕ) (log : List Moment) (old out now : List ℕ) (follows : Follows r log old out) → counts Side.Sent follows.past ≡ true
    → (new : Replayer) → new.received ≡ r.received → under_way_of Side.Received new.judge ≡ under_way_of Side.Received r.judge
    → Moved Side.Sent octets follows.past new.verdict new.sent (under_way_of Side.Sent new.judge) (Judges new.judge) out now
    → Follows new (put_all octets log) old now
follows_sent r octets log old out now follows is new received others moved = record {
  past = moved.after;
  shows = shows_each Side.Sent octets log follows.past moved.after follows.shows moved.takes;
  verdict_is = moved.verdict_is;
  both = λ going. record {
    received = subst (λ (w : Wire). IsSide Side.Received w (under_way_of Side.Received new.judge) moved.after) (sym received)
        (other_stays Side.Sent octets r.received (under_way_of Side.Received r.judge) (under_way_of Side.Received new.judge) follows.past moved.after moved.takes others
        (follows.both (going_of Side.Sent follows.past is)).received);
    sent = moved.side_is going;
    judged = moved.judged_is going;
  };
  text_is = longer_text old out now moved.gained (lines follows.past.journal) (lines moved.after.journal) follows.text_is moved.text_is moved.lines_are;
}

-- ---- what a step needs

pub held_received : (r : Replayer) (log : List Moment) (old out : List ℕ) (follows : Follows r log old out) → counts Side.Received follows.past ≡ true
    → IsHeld Side.Received r.received (under_way_of Side.Received r.judge) (Judges r.judge)
held_received r log old out follows is =
    let both = follows.both (going_of Side.Received follows.past is) in record { past = follows.past; side_is = both.received; judged_is = both.judged }

pub held_sent : (r : Replayer) (log : List Moment) (old out : List ℕ) (follows : Follows r log old out) → counts Side.Sent follows.past ≡ true
    → IsHeld Side.Sent r.sent (under_way_of Side.Sent r.judge) (Judges r.judge)
held_sent r log old out follows is =
    let both = follows.both (going_of Side.Sent follows.past is) in record { past = follows.past; side_is = both.sent; judged_is = both.judged }

-- ---- octets of a side

got_all-append : (xs ys : List ℕ) (log : List Moment) → got_all (xs ++ ys) log ≡ got_all ys (got_all xs log)
got_all-append [] ys log = refl
got_all-append (x ∷ xs) ys log = got_all-append xs ys (got x ∷ log)

put_all-append : (xs ys : List ℕ) (log : List Moment) → put_all (xs ++ ys) log ≡ put_all ys (put_all xs log)
put_all-append [] ys log = refl
put_all-append (x ∷ xs) ys log = put_all-append xs ys (put x ∷ log)

many-append : (side : Side) (xs ys : List ℕ) (log : List Moment) → many side (xs ++ ys) log ≡ many side ys (many side xs log)
many-append Side.Received xs ys log = got_all-append xs ys log
many-append Side.Sent xs ys log = put_all-append xs ys log

pub many_none : (side : Side) (log : List Moment) → many side [] log ≡ log
many_none Side.Received log = refl
many_none Side.Sent log = refl

pub many_more : (side : Side) (octets : List ℕ) (i count : ℕ) (log : List Moment) → i ≤ length octets → many side (take (i + count) octets) log ≡ many side (take count (drop i octets)) (many side (take i octets) log)
many_more side octets i count log within =
    ap (λ x. many side x log) (sym (more_text octets i count within)) ∙ many-append side (take i octets) (take count (drop i octets)) log

-- more octets come later
got_later : (xs : List ℕ) (log : List Moment) → (later : List Moment) × (got_all xs log ≡ later ++ log)
got_later [] log = ([], refl)
got_later (x ∷ xs) log = let rest = got_later xs (got x ∷ log) in (rest.0 ++ got x ∷ [], rest.1 ∙ sym (append_assoc rest.0 (got x ∷ []) log))

put_later : (xs : List ℕ) (log : List Moment) → (later : List Moment) × (put_all xs log ≡ later ++ log)
put_later [] log = ([], refl)
put_later (x ∷ xs) log = let rest = put_later xs (put x ∷ log) in (rest.0 ++ put x ∷ [], rest.1 ∙ sym (append_assoc rest.0 (put x ∷ []) log))

many_later : (side : Side) (xs : List ℕ) (log : List Moment) → (later : List Moment) × (many side xs log ≡ later ++ log)
many_later Side.Received xs log = got_later xs log
many_later Side.Sent xs log = put_later xs log

-- before an octet the lines of the octets before it were written
pub stopped_at : (r : Replayer) (side : Side) (octets : List ℕ) (i : ℕ) (log : List Moment) (old out now : List ℕ) → now ≡ out → Follows r (many side (take i octets) log) old out → Stopped (many side octets log) old now
stopped_at r side octets i log old out now same follows =
    let rest = many_later side (drop i octets) (many side (take i octets) log) in
    record {
      later = rest.0;
      before = many side (take i octets) log;
      whole = ap (λ x. many side x log) (sym (take-append-drop i octets)) ∙ many-append side (take i octets) (drop i octets) log ∙ rest.1;
      past = follows.past;
      shows = follows.shows;
      text_is = same ∙ follows.text_is;
    }

pub many_all : (r : Replayer) (side : Side) (octets : List ℕ) (i : ℕ) (log : List Moment) (old out : List ℕ) → length octets ≤ i → Follows r (many side (take i octets) log) old out → Follows r (many side octets log) old out
many_all r side octets i log old out all follows = subst (λ (x : List ℕ). Follows r (many side x log) old out) (take_all i octets all) follows

pub many_start : (r : Replayer) (side : Side) (octets : List ℕ) (log : List Moment) (old out : List ℕ) → Follows r log old out → Follows r (many side (take 0 octets) log) old out
many_start r side octets log old out follows = subst (λ (x : List Moment). Follows r x old out) (sym (many_none side log)) follows

pub on_err : {A E : Type 0} {P : Type 0} (r : Result A E) → P → OnErr r P
on_err (Ok x) is = tt
on_err (Err e) is = is

-- ---- how long a log is

length-got_all : (xs : List ℕ) (log : List Moment) → length (got_all xs log) ≡ length log + length xs
length-got_all [] log = omega arith
length-got_all (x ∷ xs) log = omega (arith, length-got_all xs (got x ∷ log))

length-put_all : (xs : List ℕ) (log : List Moment) → length (put_all xs log) ≡ length log + length xs
length-put_all [] log = omega arith
length-put_all (x ∷ xs) log = omega (arith, length-put_all xs (put x ∷ log))

pub read_small : (octets : List ℕ) (log : List Entry) → length octets < 2 ^ 64 → length (flat (read octets ∷ log)) ≤ length (flat log) + 2 ^ 64
read_small octets log small = omega (arith, length-got_all octets (flat log))

pub wrote_small : (octets : List ℕ) (log : List Entry) → length octets < 2 ^ 64 → length (flat (wrote octets ∷ log)) ≤ length (flat log) + 2 ^ 64
wrote_small octets log small = omega (arith, length-put_all octets (flat log))

-- ---- what a moment adds

-- a frame at most, and lines after those that were there
pub record Adds (past after : Past) : Type 0 where
  pub count : (side : Side) → frame_count side after.journal ≤ frame_count side past.journal + 1
  pub more : List ℕ
  pub lines_are : lines after.journal ≡ lines past.journal ++ more

count_if : (b : Bool) (n : ℕ) → (if b then n + 1 else n) ≤ n + 1
count_if true n = omega arith
count_if false n = omega arith

adds_nothing : (past : Past) → Adds past past
adds_nothing past = record { count = λ side. omega arith; more = []; lines_are = sym (append-nil _) }

adds_begins : (side : Side) (rule : Option Rule) (octet : ℕ) (head : Head) (past : Past) → Adds past (begins rule side octet head past)
adds_begins side None octet head past = record { count = λ by. omega arith; more = []; lines_are = refl }
adds_begins side (Some rule) octet head past = record { count = λ by. omega arith; more = []; lines_are = sym (append-nil _) }

adds_passes : (side : Side) (rule : Option Rule) (head : Head) (payload : List ℕ) (past : Past) → Adds past (passes rule side head payload past)
adds_passes side rule head payload past = record { count = λ by. count_if (same_side by side) (frame_count by past.journal); more = line_of (passed side head payload); lines_are = refl }

adds_seq : (side : Side) (rule : Option Rule) (seq : Seq) (past : Past) → Adds past (seq_ends rule side seq past)
adds_seq side None seq past = record { count = λ by. count_if (same_side by side) (frame_count by past.journal); more = line_of (told side seq); lines_are = refl }
adds_seq side (Some rule) seq past = record { count = λ by. omega arith; more = []; lines_are = sym (append-nil _) }

adds_octet : (side : Side) (octet : ℕ) (past after : Past) → TakesOctet none_tunes side octet past after → Adds past after
adds_octet side octet past after (inl on) = subst (Adds past) (sym on.new_is) (record { count = λ by. omega arith; more = []; lines_are = sym (append-nil _) })
adds_octet side octet past after (inr (inl h)) = subst (Adds past) (sym h.new_is) (adds_begins side (broken_head none_tunes side past.journal h.head) octet h.head past)
adds_octet side octet past after (inr (inr (inl f))) = subst (Adds past) (sym f.new_is) (adds_passes side (broken_content side past.journal f.head f.payload) f.head f.payload past)
adds_octet side octet past after (inr (inr (inr (inl q)))) = subst (Adds past) (sym q.new_is) (adds_seq side (broken_seq side past.journal q.seq) q.seq past)
adds_octet side octet past after (inr (inr (inr (inr d)))) = subst (Adds past) (sym d.new_is) (record { count = λ by. omega arith; more = []; lines_are = sym (append-nil _) })

adds_where : (b : Bool) (side : Side) (octet : ℕ) (past after : Past) → TakesWhere b none_tunes side octet past after → Adds past after
adds_where true side octet past after takes = adds_octet side octet past after takes
adds_where false side octet past after same = subst (Adds past) (sym same) (adds_nothing past)

adds : (moment : Moment) (past after : Past) → Takes none_tunes moment past after → Adds past after
adds (got octet) past after takes = adds_where (counts Side.Received past) Side.Received octet past after takes
adds (put octet) past after takes = adds_where (counts Side.Sent past) Side.Sent octet past after takes
adds none past after same = subst (Adds past) (sym same) (adds_nothing past)
adds over past after same = subst (Adds past) (sym same) (adds_nothing past)

count_within : (log : List Moment) (past : Past) (side : Side) → Shows none_tunes log past → frame_count side past.journal ≤ length log
count_within [] past side same = omega (arith, ap (λ (p : Past). frame_count side p.journal) same)
count_within (moment ∷ log) past side shows = omega (arith, (adds moment shows.0 past shows.2).count side, count_within log shows.0 side shows.1)

-- ---- the report

small_counted : (n m : ℕ) → n ≤ m → m < 2 ^ 128 → counted n ≡ n
small_counted n m within small = omega arith

fine_none : (fault : Option Fault) → verdict_of fault ≡ Verdict.Fine → fault ≡ None
fine_none None is = refl
fine_none (Some fault) is = absurd (not_fine fault.side fault.rule (verdict_of (Some fault)) (modulo_2_64 fault.place) refl is)

length-spelling : (f : Frame) → IsFrame f → length (spelling f) < 2 ^ 64
length-spelling (framed h payload) is =
    omega (arith, length-append (header h ++ payload) trailer, length-append (header h) payload, length-append (header_line h) line_end, length-header_line h is.0, is.1, is.0.size)
length-spelling (seq_frame s) is = omega (arith, length-append (seq_line s) line_end, length-seq_line s is)

left_small : (rest : List ℕ) → IsUnfinished rest → modulo_2_64 (length rest) ≡ length rest
left_small rest is =
    let spelled = length-spelling is.frame is.is_frame in
    let long = ap length is.spelled ∙ length-append rest (is.next ∷ is.others) in
    omega arith

pub reports_fine : (r : Replayer) (log : List Moment) (old out now : List ℕ) (left : ℕ) (follows : Follows r log old out) → length log < 2 ^ 128 → r.verdict ≡ Verdict.Fine
    → ((under : Option Head) (past : Past) (side : IsSide Side.Received r.received under past) → left ≡ modulo_2_64 (length (past.rest Side.Received)))
    → now ≡ out ++ (codes "frames " ++ decimal r.received.frames ++ codes " " ++ decimal r.sent.frames ++ codes " left " ++ decimal left ++ 10 ∷ [])
    → now ≡ old ++ report follows.past
reports_fine r log old out now left follows small fine lefts text =
    let none : follows.past.fault ≡ None = fine_none follows.past.fault (sym follows.verdict_is ∙ fine) in
    let both = follows.both none in
    let arrived : r.received.frames ≡ frame_count Side.Received follows.past.journal = both.received.count ∙ small_counted _ (length log) (count_within log follows.past Side.Received follows.shows) small in
    let written : r.sent.frames ≡ frame_count Side.Sent follows.past.journal = both.sent.count ∙ small_counted _ (length log) (count_within log follows.past Side.Sent follows.shows) small in
    let read = means r.received.decoder (octets_of Side.Received follows.past) both.received.frames (follows.past.rest Side.Received) (under_way_of Side.Received r.judge) both.received.was_fed in
    let rest : left ≡ length (follows.past.rest Side.Received) = lefts (under_way_of Side.Received r.judge) follows.past both.received ∙ left_small (follows.past.rest Side.Received) read.stream.unfinished in
    text ∙ ap (λ x. x ++ (codes "frames " ++ decimal r.received.frames ++ codes " " ++ decimal r.sent.frames ++ codes " left " ++ decimal left ++ 10 ∷ [])) follows.text_is
    ∙ append_assoc old (lines follows.past.journal) (codes "frames " ++ decimal r.received.frames ++ codes " " ++ decimal r.sent.frames ++ codes " left " ++ decimal left ++ 10 ∷ [])
    ∙ ap (λ x. old ++ (lines follows.past.journal ++ x))
    (ap (λ n. codes "frames " ++ decimal n ++ codes " " ++ decimal r.sent.frames ++ codes " left " ++ decimal left ++ 10 ∷ []) arrived
    ∙ ap (λ n. codes "frames " ++ decimal (frame_count Side.Received follows.past.journal) ++ codes " " ++ decimal n ++ codes " left " ++ decimal left ++ 10 ∷ []) written
    ∙ ap (λ n. codes "frames " ++ decimal (frame_count Side.Received follows.past.journal) ++ codes " " ++ decimal (frame_count Side.Sent follows.past.journal) ++ codes " left " ++ decimal n ++ 10 ∷ []) rest
    ∙ ap (λ f. ending f follows.past) (sym none))

no_ending : (fault : Option Fault) (past : Past) → (verdict_of fault ≡ Verdict.Fine → ⊥) → ending fault past ≡ []
no_ending None past not_none = absurd (not_none refl)
no_ending (Some fault) past not_none = refl

pub reports_fault : (r : Replayer) (log : List Moment) (old out : List ℕ) (follows : Follows r log old out) → (r.verdict ≡ Verdict.Fine → ⊥) → out ≡ old ++ report follows.past
reports_fault r log old out follows broke =
    follows.text_is ∙ ap (λ x. old ++ x) (sym (append-nil (lines follows.past.journal)) ∙ ap (λ x. lines follows.past.journal ++ x)
    (sym (no_ending follows.past.fault follows.past (λ fine. broke (follows.verdict_is ∙ fine)))))

-- ---- a report that begins

lines_later : (later before : List Moment) (early past : Past) → Shows none_tunes before early → Shows none_tunes (later ++ before) past → (more : List ℕ) × (lines past.journal ≡ lines early.journal ++ more)
lines_later [] before early past first all = ([], ap (λ (p : Past). lines p.journal) (one-shown none_tunes before past early all first) ∙ sym (append-nil _))
lines_later (moment ∷ later) before early past first all =
    let inner = lines_later later before early all.0 first all.1 in
    let add = adds moment all.0 past all.2 in
    (inner.0 ++ add.more, add.lines_are ∙ ap (λ x. x ++ add.more) inner.1 ∙ append_assoc (lines early.journal) inner.0 add.more)

pub begins_report : (later log all : List Moment) (old now : List ℕ) (past : Past) → all ≡ later ++ log → Stopped log old now → Shows none_tunes all past → Begins (report past) old now
begins_report later log all old now past whole stopped shows =
    let all_is : all ≡ (later ++ stopped.later) ++ stopped.before = whole ∙ ap (λ x. later ++ x) stopped.whole ∙ sym (append_assoc later stopped.later stopped.before) in
    let more = lines_later (later ++ stopped.later) stopped.before stopped.past past stopped.shows (subst (λ (x : List Moment). Shows none_tunes x past) all_is shows) in
    record {
      gained = lines stopped.past.journal;
      others = more.0 ++ ending past.fault past;
      text_is = ap (λ x. x ++ ending past.fault past) more.1 ∙ append_assoc (lines stopped.past.journal) more.0 (ending past.fault past);
      new_is = stopped.text_is;
    }

-- ---- the entries of a log

flat_later : (rest log : List Entry) → (later : List Moment) × (flat (rest ++ log) ≡ later ++ flat log)
flat_later [] log = ([], refl)
flat_later (read octets ∷ rest) log =
    let inner = flat_later rest log in let more = got_later octets (flat (rest ++ log)) in
    (more.0 ++ inner.0, more.1 ∙ ap (λ x. more.0 ++ x) inner.1 ∙ sym (append_assoc more.0 inner.0 (flat log)))
flat_later (wrote octets ∷ rest) log =
    let inner = flat_later rest log in let more = put_later octets (flat (rest ++ log)) in
    (more.0 ++ inner.0, more.1 ∙ ap (λ x. more.0 ++ x) inner.1 ∙ sym (append_assoc more.0 inner.0 (flat log)))
flat_later (quiet ∷ rest) log = let inner = flat_later rest log in (none ∷ inner.0, ap (λ (x : List Moment). none ∷ x) inner.1)
flat_later (ended ∷ rest) log = let inner = flat_later rest log in (over ∷ inner.0, ap (λ (x : List Moment). over ∷ x) inner.1)

entries_later : (entries : List Kept) (log : List Entry) → (rest : List Entry) × (fold (λ log entry. entry_of entry ∷ log) log entries ≡ rest ++ log)
entries_later [] log = ([], refl)
entries_later (entry ∷ entries) log =
    let inner = entries_later entries (entry_of entry ∷ log) in
    (inner.0 ++ entry_of entry ∷ [], inner.1 ∙ sym (append_assoc inner.0 (entry_of entry ∷ []) log))

pub log_later : (entries : List Kept) (i : ℕ) → (later : List Moment) × (flat (log_of entries) ≡ later ++ flat (log_of (take i entries)))
log_later entries i =
    let rest = entries_later (drop i entries) (log_of (take i entries)) in
    let later = flat_later rest.0 (log_of (take i entries)) in
    (later.0, ap (λ x. flat (log_of x)) (sym (take-append-drop i entries)) ∙ ap flat (fold-append (λ log entry. entry_of entry ∷ log) [] (take i entries) (drop i entries) ∙ rest.1) ∙ later.1)

pub stopped_now : (r : Replayer) (log : List Moment) (old out now : List ℕ) → now ≡ out → Follows r log old out → Stopped log old now
stopped_now r log old out now same follows = record { later = []; before = log; whole = refl; past = follows.past; shows = follows.shows; text_is = same ∙ follows.text_is }

-- ---- the whole log

pub replays_of : {E : Type 0} (r : Result Verdict E) (log : List Entry) (old new : List ℕ) (past : Past) → Shows none_tunes (flat log) past
    → IfOk r (λ verdict. verdict ≡ verdict_of past.fault) → OnOk r (new ≡ old ++ report past) → IfOk r (λ verdict. Replays log verdict old new)
replays_of (Err e) log old new past shows verdict text = tt
replays_of (Ok v) log old new past shows verdict text = record { past = past; shows = shows; verdict_is = verdict; text_is = text }

pub few_moments : (n i : ℕ) → n ≤ i * 2 ^ 64 → i < 2 ^ 64 → n < 2 ^ 128
few_moments n i within few = omega arith

pub if_err : {A E : Type 0} {P Q : Type 0} (r : Result A E) → (P → Q) → OnErr r P → OnErr r Q
if_err (Ok x) f is = tt
if_err (Err e) f is = f is
