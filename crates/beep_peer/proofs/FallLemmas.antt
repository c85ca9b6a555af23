-- Each frame and each SEQ that goes out leaves less to say, and what it says and lets go no more.
use Rattle.std.proofs.Common.{◌≡◌, ℕ, ◌+◌, ◌-◌, ◌*◌, ◌<◌, ◌≤◌, ◌==◌, nat_lt, nat_le, min, Bool, true, false, not, ◌&&◌, ◌||◌, if◌then◌else◌, List, [], ◌∷◌, ◌++◌, length, map, Option, None, Some, is_some, refl, sym, ap, ◌∙◌, arith, subst, eqb-true, length-append}
use Rattle.std.specs.Prelude.{IfSome}
use Rattle.std.proofs.lemmas.Bool.Decides.{nat_tests}
use Rattle.std.proofs.lemmas.List.{length-map}
use Rattle.std.proofs.Math.Logic.{∥∥₁_elim}
use denote.Struct.Props.{props}
use Rattle.std.specs.Option.{option_to_list}
use Rattle.beep_upright.specs.beep_frame.specs.declared.head.Head.{Head}
use Rattle.beep_upright.specs.beep_frame.specs.declared.seq.Seq.{Seq}
use Rattle.beep_upright.specs.beep_frame.specs.declared.tag.Tag.{Tag}
use Rattle.beep_upright.specs.beep_mgmt.specs.Form.{Form, greeting, start, chosen, close, okay, fault}
use Rattle.beep_upright.specs.beep_history.specs.declared.journal.Side.{Side}
use Rattle.beep_upright.specs.beep_history.specs.Journal.{Item, began}
use Rattle.beep_upright.specs.beep_history.specs.Marks.{Mark, octet, end, marks, tag_of, frame_marks, mark_modulo_2_64}
use Rattle.beep_upright.specs.beep_seq.specs.Receiving.{Receiver, full_of}
use Rattle.beep_upright.specs.beep_journal.specs.Zero.{zero_history}
use Rattle.beep_upright.specs.beep_journal.specs.Life.{history}
use Rattle.beep_upright.specs.beep_outbox.specs.Queue.{Message, message_marks, marks_of}
use Rattle.beep_upright.specs.beep_channel.specs.Held.{Held, Live, is_held_ready, queue_ready, next_reply, next_head, next_size, head_from, is_seq_due_of, told_held}
use Rattle.beep_upright.specs.beep_channel.specs.Fits.{as_number}
use Rattle.beep_upright.specs.beep_channel.specs.Stands.{Stands, SameIn}
use Rattle.beep_upright.specs.beep_lives.specs.Lives.{live_at, owes_seq, IsAscendingFrom}
use Rattle.beep_upright.specs.beep_lives.specs.Edits.{Edits, Sends, Tells, Gives}
use Rattle.beep_upright.specs.beep_standing.specs.Standing.{Marks, AreLiveBy}
use Rattle.beep_upright.specs.beep_asked.specs.Kept.{Kept}
use Rattle.beep_upright.specs.beep_management.specs.Managed.{Prepared, Managed, number_started, without}
use Rattle.beep_upright.specs.beep_management.specs.Manages.{IsFresh}
use Rattle.beep_upright.specs.beep_management.specs.Moved.{is_live_in, JoinsWhere, Does}
use Rattle.beep_upright.specs.beep_management.specs.Steps.{cleared_by, TakesTheirs, PassesAct}
use Rattle.beep_upright.specs.beep_speaking.specs.Emits.{IsReached}
use Rattle.beep_peer.specs.Peering.{Holds, AreHeld}
use Rattle.beep_peer.specs.Left.{channel_left, channels_left, answers_left, left_to_say}
use Rattle.beep_peer.proofs.LeftLemmas.{left-edit, left-joins, left-leaves}

-- ---- a SEQ

-- once the SEQ with the full window was sent none is due
told-due : (size : ℕ) (c : Held) (past : List Item) (given taken : List Mark) → Stands size c past given taken → is_seq_due_of (told_held c) ≡ false
told-due size c past given taken s =
    ap (λ (b : Bool). is_some (if b then Some (full_of (told_held c).receives) else None)) none
  where
    none : nat_le c.receives.size (2 * (c.receives.size - (c.receives.size - c.receives.untaken) - c.receives.untaken)) ≡ false
    none = let some : 4096 ≤ c.receives.size = omega (arith, s.held.receives.sized, s.held.receives.is_window.least) in grind (arith, nat_tests)

pub tells-less : (seq : Seq) (size : ℕ) (old new : Live) (past : List Item) (given taken : List Mark) → Stands size old.held past given taken → Tells seq old new
    → channel_left new + 1 ≡ channel_left old
tells-less seq size old new past given taken s t =
    let none : owes_seq new ≡ false = ap is_seq_due_of t.held ∙ told-due size old.held past given taken s in
    let queue : length (marks_of new.held.queue) ≡ length (marks_of old.held.queue) = ap (λ (h : Held). length (marks_of h.queue)) t.held in
    let less : as_number (owes_seq new) ≡ 0 = ap as_number none in
    let was : as_number (owes_seq old) ≡ 1 = ap as_number t.due in
    omega (arith, queue, less, was)

-- ---- a frame

-- a frame that doesn't end its message has octets
some-size : (most : ℕ) (c : Held) → 0 < most → is_held_ready c ≡ true → (next_head most c).more ≡ true → 0 < (next_head most c).size
some-size most c positive ready more = of c.queue ready more
  where
    of : (queue : List Message) → queue_ready c.sends.room queue ≡ true
        → (head_from (next_size most c.sends.room queue) queue c.number c.seqno c.life.sent c.life.received).more ≡ true
        → 0 < (head_from (next_size most c.sends.room queue) queue c.number c.seqno c.life.sent c.life.received).size
    of [] ready more = absurd (cc ready)
    of (m ∷ ms) ready more = by (length m.octets == 0) refl (nat_lt 0 c.sends.room) refl ready
      where
        by : (a : Bool) → (length m.octets == 0) ≡ a → (b : Bool) → nat_lt 0 c.sends.room ≡ b → (a || b) ≡ true → 0 < min (length m.octets) (min most c.sends.room)
        by true none b wide is = grind (arith, nat_tests)
        by false some true wide is = grind (arith, nat_tests)
        by false some false wide is = absurd (cc is)

-- the marks of a frame are one at least
some-marks : (tag : Tag) (head : Head) (payload : List ℕ) → length payload ≡ head.size → (head.more ≡ true → 0 < head.size) → 0 < length (frame_marks tag head payload)
some-marks tag head payload sized some = of head.more refl
  where
    of : (b : Bool) → head.more ≡ b → 0 < length (map (octet tag) payload ++ (if b then [] else end tag ∷ []))
    of true more = omega (arith, length-append (map (octet tag) payload) [], length-map payload (octet tag), sized, some more)
    of false last = omega (arith, length-append (map (octet tag) payload) (end tag ∷ []))

same-owes : (old new : Held) → SameIn old new → as_number (is_seq_due_of new) ≡ as_number (is_seq_due_of old)
same-owes old new same = ap (λ (r : Receiver). as_number (is_seq_due_of (record old { receives = r }))) same.receives

pub sends-less : (most : ℕ) (head : Head) (payload : List ℕ) (size : ℕ) (old new : Live) (past : List Item) (given taken : List Mark) → 0 < most
    → Stands size old.held past given taken → Sends most head payload old new → channel_left new < channel_left old
sends-less most head payload size old new past given taken positive s t =
    let n = t.next size past given taken s in
    let tag = tag_of Side.Sent (began Side.Sent head ∷ past) head in
    let some : 0 < length (frame_marks tag head payload) = some-marks tag head payload n.sized (λ more.
    subst (λ (h : Head). 0 < h.size) (sym t.is) (some-size most old.held positive t.ready (sym (ap (λ (h : Head). h.more) t.is) ∙ more))) in
    omega (
      arith,
      some,
      ap (λ (l : List Mark). length l) n.marks,
      length-append (map mark_modulo_2_64 (frame_marks tag head payload)) (marks_of new.held.queue),
      length-map (frame_marks tag head payload) mark_modulo_2_64,
      same-owes old.held new.held t.same,
    )

-- ---- an answer that is let go

pub gives-more : (marks-given : List Mark) (size : ℕ) (old new : Live) (past : List Item) (given taken : List Mark) → Stands size old.held past given taken → Gives marks-given old new
    → channel_left new ≡ channel_left old + length marks-given + length marks-given
gives-more marks-given size old new past given taken s t =
    let n = t.stands size past given taken s in
    let sent = map mark_modulo_2_64 (marks Side.Sent past) in
    omega (
      arith,
      ap (λ (l : List Mark). length l) n.all_given,
      ap (λ (l : List Mark). length l) s.all_given,
      length-append given marks-given,
      length-append sent (marks_of new.held.queue),
      length-append sent (marks_of old.held.queue),
      same-owes old.held new.held t.same,
    )

pub message-marks : (m : Message) → length (message_marks m) ≡ length m.octets + 1
message-marks m = omega (arith, length-append (map (octet m.tag) m.octets) (end m.tag ∷ []), length-map m.octets (octet m.tag))

-- ---- a grant

left-without : (number : ℕ) (answers : List Prepared) → answers_left (without number answers) ≡ answers_left answers
left-without number [] = refl
left-without number (first ∷ answers) = ap (λ (n : ℕ). length first.octets + length first.octets + 3 + n) (left-without number answers)

left-cleared : (said : Option Form) (names : Bool) (answers : List Prepared) → answers_left (cleared_by said names answers) ≡ answers_left answers
left-cleared None names answers = refl
left-cleared (Some (greeting features localize profiles)) names answers = refl
left-cleared (Some (start number server profiles)) names answers = refl
left-cleared (Some (chosen profile)) names answers = refl
left-cleared (Some (close number code note)) true answers = left-without number answers
left-cleared (Some (close number code note)) false answers = refl
left-cleared (Some okay) names answers = refl
left-cleared (Some (fault code note)) names answers = refl

-- a channel in which nothing has happened owes a SEQ at most
fresh-left : (size number : ℕ) (c : Live) → IsFresh size number c → channel_left c ≤ 1
fresh-left size number c f =
    let none : length (marks_of c.held.queue) ≡ 0 = sym (ap (λ (l : List Mark). length l) f.stands.all_given) in
    of (owes_seq c) none
  where
    of : (b : Bool) → length (marks_of c.held.queue) ≡ 0 → length (marks_of c.held.queue) + length (marks_of c.held.queue) + as_number b ≤ 1
    of true none = omega (arith, none)
    of false none = omega (arith, none)

-- what was granted of a start takes the place of the channel that waited for it
pub does-left : (size : ℕ) (said : Option Form) (names : Bool) (c : Live) (old new : List Live) → IsAscendingFrom 0 old → Does size said names c old new
    → channels_left new ≤ channels_left old + length (number_started said)
does-left size None names c old new up same = omega (arith, ap channels_left same)
does-left size (Some (greeting features localize profiles)) names c old new up same = omega (arith, ap channels_left same)
does-left size (Some (start number server profiles)) names c old new up does = of (nat_lt 0 number) (is_live_in old number) refl does
  where
    of : (a b : Bool) → is_live_in old number ≡ b → JoinsWhere (a && not b) size number c old new → channels_left new ≤ channels_left old + 1
    of true false none j =
        let apart : live_at c.held.number old ≡ None = ap (λ (n : ℕ). live_at n old) j.0.is ∙ is-none (live_at number old) none in
        omega (arith, left-joins c old new up apart j.1, fresh-left size number c j.0)
      where
        is-none : (o : Option Live) → is_some o ≡ false → o ≡ None
        is-none None e = refl
        is-none (Some l) e = absurd (cc e)
    of true true there same = omega (arith, ap channels_left same)
    of false b there same = omega (arith, ap channels_left same)
does-left size (Some (chosen profile)) names c old new up same = omega (arith, ap channels_left same)
does-left size (Some (close number code note)) true c old new up leaves = omega (arith, left-leaves number old new up leaves)
does-left size (Some (close number code note)) false c old new up same = omega (arith, ap channels_left same)
does-left size (Some okay) names c old new up same = omega (arith, ap channels_left same)
does-left size (Some (fault code note)) names c old new up same = omega (arith, ap channels_left same)

module _ (one : Kept) (channel : Option Live) (m new : Managed) (old : List Live) where
  pub grant-falls : (after : List Live) → TakesTheirs true one channel m new → channels_left after ≤ channels_left old + length (number_started one.said)
      → left_to_say after new ≤ left_to_say old m
  grant-falls after p more =
      omega (
        arith,
        more,
        ap answers_left p.answers,
        left-cleared one.said one.names m.answers,
        ap (λ (l : List Live). length l) p.granted,
        length-append (option_to_list channel) new.granted,
        p.sized,
      )

  pub refusal-falls : TakesTheirs false one channel m new → left_to_say old new ≤ left_to_say old m
  refusal-falls p =
      omega (arith, ap answers_left p.answers, ap (λ (l : List Live). length l) p.granted, length-append (option_to_list channel) new.granted, p.sized)

pub request-falls : (live : ℕ → Bool) (m new : Managed) (old : List Live) → PassesAct live m new → left_to_say old new ≤ left_to_say old m
request-falls live m new old p = omega (arith, ap answers_left p.answers, ap (λ (l : List Live). length l) p.granted)

-- ---- of some journal

record IsThere (size : ℕ) (c : Live) : Type 0 where
  past : List Item
  given : List Mark
  taken : List Mark
  stands : Stands size c.held past given taken

is-there-at : (size : ℕ) (journal : List Item) (given taken : Marks) (channels : List Live) → AreLiveBy size journal given taken channels → (n : ℕ) (c : Live)
    → live_at n channels ≡ Some c → IsThere size c
is-there-at size journal given taken channels s n c at = of (n == 0) refl
  where
    of : (b : Bool) → (n == 0) ≡ b → IsThere size c
    of true zero = record {
      past = zero_history journal;
      given = given 0;
      taken = taken 0;
      stands = s.zero c (ap (λ (k : ℕ). live_at k channels) (sym (eqb-true n 0 zero)) ∙ at);
    }
    of false above = record { past = history n journal; given = given n; taken = taken n; stands = s.above n c above at }

-- one more answer was let go
pub lets-left : (old new : List Live) (m now : Managed) (first : Prepared) → AreHeld old m → m.answers ≡ first ∷ now.answers → now ≡ record m { answers = now.answers }
    → IfSome (live_at 0 old) (λ c. Edits 0 (Gives (message_marks (next_reply c.held first.kind first.octets))) old new) → left_to_say new now ≤ left_to_say old m
lets-left old new m now first held split same edits = ∥∥₁_elim held (hlevel props) (λ s. by s.0 s.1 s.2 s.3 s.4)
  where
    by : (size : ℕ) (journal : List Item) (given taken : Marks) → Holds size journal given taken old m → left_to_say new now ≤ left_to_say old m
    by size journal given taken h = of (live_at 0 old) refl edits
      where
        of : (o : Option Live) → live_at 0 old ≡ o → IfSome o (λ c. Edits 0 (Gives (message_marks (next_reply c.held first.kind first.octets))) old new)
            → left_to_say new now ≤ left_to_say old m
        of None at e = absurd (let none : true ≡ false = h.live.there 0 ∙ ap (λ (o : Option Live). is_some o) at in cc)
        of (Some c) at e =
            let message = next_reply c.held first.kind first.octets in
            omega (
              arith,
              left-edit 0 (Gives (message_marks message)) old new h.live.ascending e,
              gives-more (message_marks message) size e.before e.after (zero_history journal) (given 0) (taken 0) (h.live.zero e.before e.was) e.step,
              message-marks message,
              ap answers_left split,
              ap (λ (x : Managed). length x.granted) same,
            )

module _ (old new : List Live) (reached : IsReached old) where
  pub sent-left : (most : ℕ) (head : Head) (payload : List ℕ) → 0 < most → Edits head.channel (Sends most head payload) old new → channels_left new < channels_left old
  sent-left most head payload positive e = ∥∥₁_elim reached (hlevel props) (λ s. by s.0 s.1 s.2 s.3 s.4)
    where
      by : (size : ℕ) (journal : List Item) (given taken : Marks) → AreLiveBy size journal given taken old → channels_left new < channels_left old
      by size journal given taken s =
          let t = is-there-at size journal given taken old s head.channel e.before e.was in
          omega (
            arith,
            left-edit head.channel (Sends most head payload) old new s.ascending e,
            sends-less most head payload size e.before e.after t.past t.given t.taken positive t.stands e.step,
          )

  pub told-left : (seq : Seq) → Edits seq.channel (Tells seq) old new → channels_left new < channels_left old
  told-left seq e = ∥∥₁_elim reached (hlevel props) (λ s. by s.0 s.1 s.2 s.3 s.4)
    where
      by : (size : ℕ) (journal : List Item) (given taken : Marks) → AreLiveBy size journal given taken old → channels_left new < channels_left old
      by size journal given taken s =
          let t = is-there-at size journal given taken old s seq.channel e.before e.was in
          omega (
            arith,
            left-edit seq.channel (Tells seq) old new s.ascending e,
            tells-less seq size e.before e.after t.past t.given t.taken t.stands e.step,
          )
