-- What a session keeps of channel zero stands alike with what was given and prepared there, each message at its place.
use Rattle.std.proofs.Common.{◌≡◌, ◌∙◌, refl, sym, ap, subst, ℕ, ◌+◌, ◌==◌, Bool, true, false, not, ◌&&◌, if◌then◌else◌, List, [], ◌∷◌, ◌++◌, length, map, Option, None, Some, arith, length-append, append-nil}
use Rattle.beep_peer.specs.beep_frame.specs.declared.head.Head.{Head}
use Rattle.beep_peer.specs.beep_frame.specs.declared.kind.Kind.{Kind}
use Rattle.beep_peer.specs.beep_frame.specs.Frame.{is_ans, is_msg}
use Rattle.beep_peer.specs.beep_history.specs.declared.journal.Side.{Side}
use Rattle.beep_peer.specs.beep_history.specs.Journal.{Item, began, passed, told}
use Rattle.beep_peer.specs.beep_history.specs.Marks.{Mark, octet, end, carries, frame_marks, marks, tag_of}
use Rattle.beep_peer.specs.beep_history.specs.Broken.{KeepsExchangeRules}
use Rattle.beep_peer.specs.beep_mgmt.specs.Form.{Form, greeting, start, chosen, close, okay, fault}
use Rattle.beep_peer.specs.beep_mgmt.specs.Message.{message_said}
use Rattle.beep_peer.specs.beep_journal.specs.Zero.{asked, channel_of, gathered, has_form, zero_history}
use Rattle.beep_peer.specs.beep_journal.specs.Laws.{contents, pieces_from}
use Rattle.beep_peer.specs.beep_journal.proofs.PiecesLemmas.{are-cut}
use Rattle.beep_peer.specs.beep_exchange.specs.Given.{ends_reply}
use Rattle.beep_peer.specs.beep_channel.specs.Stands.{ends_of}
use Rattle.beep_peer.specs.beep_standing.specs.Standing.{Marks, AreLiveBy}
use Rattle.beep_peer.specs.beep_spoken.specs.Spoken.{Spoken, kinds_of}
use Rattle.beep_peer.specs.beep_asked.specs.Kept.{Kept, place_of}
use Rattle.beep_peer.specs.beep_management.specs.Managed.{replies_among}
use Rattle.beep_peer.specs.beep_management.specs.Manages.{AllFit, IsManaged, NoneAnswers, unsent}
use Rattle.beep_peer.specs.beep_management.proofs.ItemLemmas.{came-frame, none-sent}
use Rattle.beep_peer.specs.declared.peer.Peer.{Peer}
use Rattle.beep_peer.specs.Standing.{standing_of}
use Rattle.beep_script.specs.beep_talk.specs.AtZero.{Answer, kind_of, zero_message}
use Rattle.beep_script.specs.beep_talk.specs.Plan.{PlainPlan}
use Rattle.beep_script.specs.Desk.{standing}
use Rattle.beep_script.specs.Laws.{answered_positions, replied_positions}
use Rattle.beep_desk.specs.Alike.{StandsAlike}
use Rattle.beep_desk.specs.Listed.{ArePlacedFrom, asked_positions, spoken_as, spoken_of}
use Rattle.beep_desk.specs.Placed.{desk_of, owed_from, placed}
use Rattle.beep_desk.proofs.DeskLemmas.{prepared-count}
use Rattle.beep_desk.proofs.OnceLemmas.{keeps-where}
use Rattle.beep_desk.proofs.StandLemmas.{desk-alike, replies-of}
use Rattle.beep_desk.proofs.TurnLemmas.{placed-append}

-- ---- the places of what was given

placed-same : (asks replies : ℕ) (spoken : List Spoken) → map spoken_of (placed asks replies spoken) ≡ spoken
placed-same asks replies [] = refl
placed-same asks replies (one ∷ others) = by (is_msg one.kind) (placed-same (asks + 1) replies others) (placed-same asks (replies + 1) others)
  where
    by : (b : Bool) → map spoken_of (placed (asks + 1) replies others) ≡ others → map spoken_of (placed asks (replies + 1) others) ≡ others
        → map spoken_of (if b then zero_message one.kind asks one.form ∷ placed (asks + 1) replies others else zero_message one.kind replies one.form ∷ placed asks (replies + 1) others)
        ≡ one ∷ others
    by true asked replied = ap (λ l. one ∷ l) asked
    by false asked replied = ap (λ l. one ∷ l) replied

asked-placed : (asks replies : ℕ) (spoken : List Spoken) → ArePlacedFrom asks (asked_positions (placed asks replies spoken))
asked-placed asks replies [] = tt
asked-placed asks replies (one ∷ others) = by (is_msg one.kind) refl (asked-placed (asks + 1) replies others) (asked-placed asks (replies + 1) others)
  where
    by : (b : Bool) → is_msg one.kind ≡ b → ArePlacedFrom (asks + 1) (asked_positions (placed (asks + 1) replies others)) → ArePlacedFrom asks (asked_positions (placed asks (replies + 1) others))
        → ArePlacedFrom asks (asked_positions (if b then zero_message one.kind asks one.form ∷ placed (asks + 1) replies others else zero_message one.kind replies one.form ∷ placed asks (replies + 1) others))
    by true e asked replied = rw e (refl, asked)
    by false e asked replied = rw e replied

replied-placed : (asks replies : ℕ) (spoken : List Spoken) → ArePlacedFrom replies (replied_positions (placed asks replies spoken))
replied-placed asks replies [] = tt
replied-placed asks replies (one ∷ others) = by (is_msg one.kind) refl (replied-placed (asks + 1) replies others) (replied-placed asks (replies + 1) others)
  where
    by : (b : Bool) → is_msg one.kind ≡ b → ArePlacedFrom replies (replied_positions (placed (asks + 1) replies others)) → ArePlacedFrom (replies + 1) (replied_positions (placed asks (replies + 1) others))
        → ArePlacedFrom replies (replied_positions (if b then zero_message one.kind asks one.form ∷ placed (asks + 1) replies others else zero_message one.kind replies one.form ∷ placed asks (replies + 1) others))
    by true e asked replied = rw e asked
    by false e asked replied = rw e (refl, replied)

replied-count : (asks replies : ℕ) (spoken : List Spoken) → length (replied_positions (placed asks replies spoken)) ≡ length (replies_among spoken)
replied-count asks replies spoken =
    sym (replies-of (placed asks replies spoken)) ∙ ap (λ l. length (replies_among l)) (placed-same asks replies spoken)

-- ---- the places of what is prepared

abbrev positions_of : List Answer → List ℕ
positions_of answers = map (λ answer. answer.position) answers

owed-placed : (position : ℕ) (prepared : List Spoken) → ArePlacedFrom position (positions_of (owed_from position prepared))
owed-placed position [] = tt
owed-placed position (one ∷ others) = (refl, owed-placed (position + 1) others)

owed-count : (position : ℕ) (prepared : List Spoken) → length (positions_of (owed_from position prepared)) ≡ length prepared
owed-count position [] = refl
owed-count position (one ∷ others) = let rest = owed-count (position + 1) others in omega (arith, rest)

-- a reply that fits its request has the kind of what it says
grant-kind : (position : ℕ) (request : Option Form) (form : Form) → has_form Kind.Rpy position request (Some form) ≡ true → kind_of form ≡ Kind.Rpy
grant-kind position request (greeting features localize profiles) f = refl
grant-kind position request (start number server profiles) f = refl
grant-kind position request (chosen profile) f = refl
grant-kind position request (close number code note) f = refl
grant-kind position request okay f = refl
grant-kind position None (fault code note) f = absurd cc
grant-kind position (Some (greeting features localize profiles)) (fault code note) f = absurd cc
grant-kind position (Some (start number server profiles)) (fault code note) f = absurd cc
grant-kind position (Some (chosen profile)) (fault code note) f = absurd cc
grant-kind position (Some (close number old before)) (fault code note) f = absurd cc
grant-kind position (Some okay) (fault code note) f = absurd cc
grant-kind position (Some (fault old before)) (fault code note) f = absurd cc

refusal-kind : (position : ℕ) (request : Option Form) (form : Form) → has_form Kind.Err position request (Some form) ≡ true → kind_of form ≡ Kind.Err
refusal-kind position request (greeting features localize profiles) f = absurd cc
refusal-kind position request (start number server profiles) f = absurd cc
refusal-kind position request (chosen profile) f = absurd cc
refusal-kind position request (close number code note) f = absurd cc
refusal-kind position request okay f = absurd cc
refusal-kind position request (fault code note) f = refl

fit-kind : (kind : Kind) (position : ℕ) (request : Option Form) (form : Form) → has_form kind position request (Some form) ≡ true → kind_of form ≡ kind
fit-kind Kind.Rpy position request form f = grant-kind position request form f
fit-kind Kind.Err position request form f = refusal-kind position request form f
fit-kind Kind.Msg position request form f = absurd cc
fit-kind Kind.Ans position request form f = absurd cc
fit-kind Kind.Nul position request form f = absurd cc

abbrev said_as : Kind → Form → Spoken
said_as kind form = record { kind = kind; form = form }

owed-same : (position : ℕ) (earlier prepared : List Spoken) (requests : List Kept) → AllFit (earlier ++ prepared) requests → map spoken_as (owed_from position prepared) ≡ prepared
owed-same position [] [] requests f = refl
owed-same position [] (one ∷ others) [] f = absurd f
owed-same position [] (one ∷ others) (kept ∷ requests) f =
    ap (λ (k : Kind). said_as k one.form ∷ map spoken_as (owed_from (position + 1) others)) (fit-kind one.kind (place_of kept) kept.said one.form f.0)
    ∙ ap (λ l. one ∷ l) (owed-same (position + 1) [] others requests f.1)
owed-same position (reply ∷ earlier) prepared [] f = absurd f
owed-same position (reply ∷ earlier) prepared (kept ∷ requests) f = owed-same position earlier prepared requests f.1

-- ---- how many replies were given

reply-ends : (ms : List Mark) (spoken : List Spoken) → kinds_of ms ≡ map (λ (one : Spoken). one.kind) spoken → NoneAnswers spoken → ends_of ends_reply ms ≡ length (replies_among spoken)
reply-ends [] [] same plain = refl
reply-ends [] (one ∷ spoken) same plain = absurd (cc same)
reply-ends (octet tag value ∷ ms) spoken same plain = reply-ends ms spoken same plain
reply-ends (end tag ∷ ms) [] same plain = absurd (cc same)
reply-ends (end tag ∷ ms) (one ∷ spoken) same plain =
    let kind : tag.kind ≡ one.kind = cc (same) in
    let others : kinds_of ms ≡ map (λ (one : Spoken). one.kind) spoken = cc (same) in
    ap (λ (k : Kind). if ends_reply k then ends_of ends_reply ms + 1 else ends_of ends_reply ms) kind
    ∙ by (is_msg one.kind) (is_ans one.kind) plain.0 (reply-ends ms spoken others plain.1)
  where
    by : (b c : Bool) → c ≡ false → ends_of ends_reply ms ≡ length (replies_among spoken)
        → (if not b && not c then ends_of ends_reply ms + 1 else ends_of ends_reply ms) ≡ length (if not b then one ∷ replies_among spoken else replies_among spoken)
    by b true e rest = absurd cc
    by true false e rest = rest
    by false false e rest = omega (arith, rest)

-- ---- how many requests came

-- the last frame of a message of the peer carries its end: the implied request has passed
carries-last : (journal : List Item) (head : Head) (payload : List ℕ) → KeepsExchangeRules (passed Side.Received head payload ∷ zero_history journal) → (head.channel == 0) ≡ true
    → head.more ≡ false → carries Side.Received (zero_history journal) Side.Received head ≡ true
carries-last journal head payload keeps zero last = by (carries Side.Received past Side.Received head) refl
  where
    past : List Item
    past = zero_history journal

    now : List Item
    now = passed Side.Received head payload ∷ journal

    zero-now : zero_history now ≡ passed Side.Received head payload ∷ past
    zero-now = rw zero refl

    before : length (pieces_from [] (marks Side.Received past)) ≡ length (contents Side.Received journal)
    before = ap length (are-cut Side.Received journal keeps.2).pieces

    after : length (pieces_from [] (marks Side.Received (zero_history now))) ≡ length (contents Side.Received now)
    after = ap length (are-cut Side.Received now (subst KeepsExchangeRules (sym zero-now) keeps)).pieces

    more : length (contents Side.Received now) ≡ length (contents Side.Received journal) + 1
    more =
        ap (λ (b : Bool). length (if b then contents Side.Received journal ++ (if not head.more then (gathered Side.Received past ++ payload) ∷ [] else []) else contents Side.Received journal)) zero
        ∙ ap (λ (b : Bool). length (contents Side.Received journal ++ (if not b then (gathered Side.Received past ++ payload) ∷ [] else []))) last
        ∙ length-append (contents Side.Received journal) ((gathered Side.Received past ++ payload) ∷ [])

    none : carries Side.Received past Side.Received head ≡ false → length (pieces_from [] (marks Side.Received (zero_history now))) ≡ length (pieces_from [] (marks Side.Received past))
    none e =
        ap (λ (z : List Item). length (pieces_from [] (marks Side.Received z))) zero-now
        ∙ ap (λ (b : Bool). length (pieces_from [] (marks Side.Received past ++ (if b then frame_marks (tag_of Side.Received past head) head payload else [])))) e
        ∙ ap (λ (ms : List Mark). length (pieces_from [] ms)) (append-nil (marks Side.Received past))

    by : (b : Bool) → carries Side.Received past Side.Received head ≡ b → carries Side.Received past Side.Received head ≡ true
    by true e = e
    by false e = let same = none e in absurd (omega (arith, before, after, more, same))

-- a frame of the peer
count-frame : (k m c : Bool) (form : Option Form) (forms : List (Option Form)) (n : ℕ) → (m ≡ false → c ≡ true) → length forms ≡ n + 1
    → length (if k && not m then form ∷ forms else forms) ≡ n + (if c && (not m && k) then 1 else 0) + 1
count-frame true false true form forms n carried e = omega (arith, e)
count-frame true false false form forms n carried e = absurd (let h = carried refl in cc)
count-frame false false true form forms n carried e = omega (arith, e)
count-frame false false false form forms n carried e = omega (arith, e)
count-frame true true true form forms n carried e = omega (arith, e)
count-frame true true false form forms n carried e = omega (arith, e)
count-frame false true true form forms n carried e = omega (arith, e)
count-frame false true false form forms n carried e = omega (arith, e)

came-item : (item : Item) (journal : List Item) → (channel_of item == 0) ≡ true → KeepsExchangeRules (item ∷ zero_history journal)
    → length (asked Side.Received (zero_history journal)) ≡ ends_of is_msg (marks Side.Received (zero_history journal)) + 1
    → length (asked Side.Received (item ∷ zero_history journal)) ≡ ends_of is_msg (marks Side.Received (item ∷ zero_history journal)) + 1
came-item (began by head) journal zero keeps e = e
came-item (told by seq) journal zero keeps e = e
came-item (passed Side.Sent head payload) journal zero keeps e = e ∙ ap (λ n. n + 1) (sym (none-sent (zero_history journal) head payload))
came-item (passed Side.Received head payload) journal zero keeps e =
    count-frame (is_msg head.kind) head.more (carries Side.Received past Side.Received head) (message_said (gathered Side.Received past ++ payload)) (asked Side.Received past)
    (ends_of is_msg (marks Side.Received past)) (carries-last journal head payload keeps zero) e
    ∙ ap (λ n. n + 1) (sym (came-frame past head payload))
  where
    past : List Item
    past = zero_history journal

-- as many as ended among the marks, and the implied one
came-count : (journal : List Item) → KeepsExchangeRules (zero_history journal)
    → length (asked Side.Received (zero_history journal)) ≡ ends_of is_msg (marks Side.Received (zero_history journal)) + 1
came-count [] keeps = refl
came-count (item ∷ journal) keeps =
    by (channel_of item == 0) refl keeps (came-count journal (keeps-where (channel_of item == 0) item (zero_history journal) keeps))
  where
    by : (b : Bool) → (channel_of item == 0) ≡ b → KeepsExchangeRules (if b then item ∷ zero_history journal else zero_history journal)
        → length (asked Side.Received (zero_history journal)) ≡ ends_of is_msg (marks Side.Received (zero_history journal)) + 1
        → length (asked Side.Received (if b then item ∷ zero_history journal else zero_history journal)) ≡ ends_of is_msg (marks Side.Received (if b then item ∷ zero_history journal else zero_history journal)) + 1
    by true zero keeps e = came-item item journal zero keeps e
    by false above keeps e = e

-- ---- all of it

pub placed-alike : (plan : PlainPlan) (size : ℕ) (journal : List Item) (given taken : Marks) (peer : Peer) (spoken prepared : List Spoken) → KeepsExchangeRules (zero_history journal)
    → AreLiveBy size journal given taken peer.lives → IsManaged size journal given peer.management spoken prepared
    → StandsAlike (standing plan (desk_of spoken prepared) journal) (standing_of plan.terms.role plan.offers peer)
placed-alike plan size journal given taken peer spoken prepared keeps live managed =
    desk-alike plan size journal given taken peer spoken prepared keeps live managed (desk_of spoken prepared)
    (record {
      listed = placed-same 1 0 spoken;
      owed = owed-same replied (replies_among (unsent spoken journal)) prepared _ managed.fit;
    })
    (record { requests = asked-placed 1 0 spoken; replies = in-turn; each = each })
  where
    replied : ℕ
    replied = length (replies_among spoken)

    first : List ℕ
    first = replied_positions (placed 1 0 spoken)

    first-count : length first ≡ replied
    first-count = replied-count 1 0 spoken

    after-first : replied ≡ 0 + length first
    after-first = omega (arith, first-count)

    in-turn : ArePlacedFrom 0 (answered_positions (desk_of spoken prepared))
    in-turn =
        placed-append 0 first (positions_of (owed_from replied prepared)) (replied-placed 1 0 spoken)
        (subst (λ n. ArePlacedFrom n (positions_of (owed_from replied prepared))) after-first (owed-placed replied prepared))

    each : length (answered_positions (desk_of spoken prepared)) ≡ length (asked Side.Received (zero_history journal))
    each =
        let split = length-append first (positions_of (owed_from replied prepared)) in
        let owed = owed-count replied prepared in
        let answers = prepared-count peer.management.answers prepared managed.answers in
        let given_so = reply-ends (given 0) spoken managed.spoken_is.kinds managed.plain in
        let came = came-count journal keeps in
        let all = managed.owed in
        omega (arith, first-count, split, owed, answers, given_so, came, all)
