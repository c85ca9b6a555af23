-- What items that end no message of channel zero leave of what is kept.
use Rattle.std.proofs.Common.{◌≡◌, ℕ, ◌+◌, ◌==◌, Bool, true, false, not, ◌&&◌, if◌then◌else◌, List, [], ◌∷◌, ◌++◌, length, map, drop, reverse, Some, refl, sym, ap, ◌∙◌, arith, subst, append-nil}
use Rattle.beep_asked.specs.beep_frame.specs.declared.head.Head.{Head}
use Rattle.beep_asked.specs.beep_frame.specs.declared.kind.Kind.{Kind}
use Rattle.beep_asked.specs.beep_frame.specs.declared.seq.Seq.{Seq}
use Rattle.beep_asked.specs.beep_frame.specs.declared.tag.Tag.{Tag}
use Rattle.beep_asked.specs.beep_frame.specs.Frame.{is_msg, same_kind}
use Rattle.beep_asked.specs.beep_history.specs.declared.journal.Side.{Side}
use Rattle.beep_asked.specs.beep_history.specs.Journal.{Item, began, passed, told}
use Rattle.beep_asked.specs.beep_history.specs.Marks.{Mark, marks, frame_marks, tag_of, carries}
use Rattle.beep_asked.specs.beep_exchange.specs.Given.{ends_reply}
use Rattle.beep_asked.specs.beep_journal.specs.Zero.{channel_of, zero_history}
use Rattle.beep_asked.specs.beep_journal.specs.Laws.{contents, completed}
use Rattle.beep_asked.specs.beep_channel.specs.Stands.{ends_of}
use Rattle.beep_asked.specs.beep_channel.proofs.CountedLemmas.{ends-append, ends-part}
use Rattle.beep_asked.specs.beep_standing.specs.Standing.{Marks, no_marks}
use Rattle.beep_spoken.specs.Spoken.{Spoken, AreSpoken}
use Rattle.beep_asked.specs.Kept.{Kept, implied_request, fits}
use Rattle.beep_asked.specs.Asked.{AreWaiting}
use Rattle.beep_asked.proofs.LawsLemmas.{new-session, header-leaves, seq-leaves, part-leaves}
use Rattle.beep_management.specs.Managed.{Prepared, Managed, numbers_granted, requests_among, replies_among}
use Rattle.beep_management.specs.Manages.{unsent, AreActs, IsPrepared, AllFit, AreFresh, IsManaged, Manages}

-- ---- the messages that came

-- a frame ends a request where it is the last of one
ends-frame : (tag : Tag) (head : Head) (payload : List ℕ) → ends_of is_msg (frame_marks tag head payload) ≡ (if not head.more && is_msg tag.kind then 1 else 0)
ends-frame tag head payload = of head.more
  where
    of : (b : Bool) → ends_of is_msg (map (λ (v : ℕ). Mark.octet tag v) payload ++ (if b then [] else Mark.end tag ∷ [])) ≡ (if not b && is_msg tag.kind then 1 else 0)
    of true = ends-part is_msg tag payload false
    of false = ends-part is_msg tag payload true

-- the requests that came after a frame of the peer
pub came-frame : (zero : List Item) (head : Head) (payload : List ℕ) → ends_of is_msg (marks Side.Received (passed Side.Received head payload ∷ zero))
    ≡ ends_of is_msg (marks Side.Received zero) + (if carries Side.Received zero Side.Received head && (not head.more && is_msg head.kind) then 1 else 0)
came-frame zero head payload =
    ends-append is_msg (marks Side.Received zero) _
    ∙ ap (λ (n : ℕ). ends_of is_msg (marks Side.Received zero) + n) (of (carries Side.Received zero Side.Received head))
  where
    of : (b : Bool) → ends_of is_msg (if b then frame_marks (tag_of Side.Received zero head) head payload else []) ≡ (if b && (not head.more && is_msg head.kind) then 1 else 0)
    of true = ends-frame (tag_of Side.Received zero head) head payload
    of false = refl

pub none-came : (zero : List Item) (head : Head) (payload : List ℕ) → (not head.more && is_msg head.kind) ≡ false
    → ends_of is_msg (marks Side.Received (passed Side.Received head payload ∷ zero)) ≡ ends_of is_msg (marks Side.Received zero)
none-came zero head payload none = came-frame zero head payload ∙ of (carries Side.Received zero Side.Received head) _ none
  where
    of : (a b : Bool) → b ≡ false → ends_of is_msg (marks Side.Received zero) + (if a && b then 1 else 0) ≡ ends_of is_msg (marks Side.Received zero)
    of true true e = cc
    of true false e = omega arith
    of false b e = omega arith

-- none comes with a frame that is sent
pub none-sent : (zero : List Item) (head : Head) (payload : List ℕ)
    → ends_of is_msg (marks Side.Received (passed Side.Sent head payload ∷ zero)) ≡ ends_of is_msg (marks Side.Received zero)
none-sent zero head payload = ap (ends_of is_msg) (append-nil (marks Side.Received zero))

-- ---- what an item leaves

-- the messages that were sent are as many, as many requests came, and the same wait
pub record IsSame (zero now : List Item) (old new : List (List ℕ)) : Type 0 where
  pub sent : length new ≡ length old
  pub came : ends_of is_msg (marks Side.Received now) ≡ ends_of is_msg (marks Side.Received zero)
  pub waiting : (side : Side) (requests : List Kept) → AreWaiting side zero requests → AreWaiting side now requests

abbrev pub LeavesAll : List Item → Item → Type 0
LeavesAll journal item = IsSame (zero_history journal) (zero_history (item ∷ journal)) (contents Side.Sent journal) (contents Side.Sent (item ∷ journal))

-- an item of another channel leaves all
in-zero : (journal : List Item) (item : Item)
    → ((channel_of item == 0) ≡ true → IsSame (zero_history journal) (item ∷ zero_history journal) (contents Side.Sent journal) (contents Side.Sent journal ++ completed Side.Sent item (zero_history journal)))
    → LeavesAll journal item
in-zero journal item at = of (channel_of item == 0) at
  where
    of : (b : Bool)
        → (b ≡ true → IsSame (zero_history journal) (item ∷ zero_history journal) (contents Side.Sent journal) (contents Side.Sent journal ++ completed Side.Sent item (zero_history journal)))
        → IsSame (zero_history journal) (if b then item ∷ zero_history journal else zero_history journal) (contents Side.Sent journal)
        (if b then contents Side.Sent journal ++ completed Side.Sent item (zero_history journal) else contents Side.Sent journal)
    of true e = e refl
    of false e = record { sent = refl; came = refl; waiting = λ side requests w. w }

header-all : (journal : List Item) (by : Side) (head : Head) → LeavesAll journal (began by head)
header-all journal by head =
    in-zero journal (began by head)
    (λ zero. record { sent = ap length (append-nil (contents Side.Sent journal)); came = refl; waiting = λ side requests w. header-leaves side by head (zero_history journal) requests w })

seq-all : (journal : List Item) (by : Side) (seq : Seq) → LeavesAll journal (told by seq)
seq-all journal by seq =
    in-zero journal (told by seq)
    (λ zero. record { sent = ap length (append-nil (contents Side.Sent journal)); came = refl; waiting = λ side requests w. seq-leaves side by seq (zero_history journal) requests w })

above-all : (journal : List Item) (by : Side) (head : Head) (payload : List ℕ) → (head.channel == 0) ≡ false → LeavesAll journal (passed by head payload)
above-all journal by head payload above = in-zero journal (passed by head payload) (λ zero. absurd (let none : true ≡ false = sym zero ∙ above in cc))

part-all : (journal : List Item) (by : Side) (head : Head) (payload : List ℕ) → head.more ≡ true → LeavesAll journal (passed by head payload)
part-all journal by head payload part =
    in-zero journal (passed by head payload)
    (λ zero. record { sent = none by; came = came by; waiting = λ side requests w. part-leaves head payload (zero_history journal) part side by requests w })
  where
    none : (by : Side) → length (contents Side.Sent journal ++ completed Side.Sent (passed by head payload) (zero_history journal)) ≡ length (contents Side.Sent journal)
    none Side.Received = ap length (append-nil (contents Side.Sent journal))
    none Side.Sent = rw part (ap length (append-nil (contents Side.Sent journal)))

    came : (by : Side) → ends_of is_msg (marks Side.Received (passed by head payload ∷ zero_history journal)) ≡ ends_of is_msg (marks Side.Received (zero_history journal))
    came Side.Received = none-came (zero_history journal) head payload (rw part refl)
    came Side.Sent = none-sent (zero_history journal) head payload

-- ---- so what is kept stays

pub unsent-same : (spoken : List Spoken) (old new : List Item) → length (contents Side.Sent new) ≡ length (contents Side.Sent old) → unsent spoken new ≡ unsent spoken old
unsent-same spoken old new same = ap (λ n. drop n spoken) same

stays : (size : ℕ) (journal : List Item) (given : Marks) (m : Managed) (item : Item) → LeavesAll journal item → Manages size journal given m → Manages size (item ∷ journal) given m
stays size journal given m item same managed = record { spoken = managed.spoken; prepared = managed.prepared; is = of managed.spoken managed.prepared managed.is }
  where
    of : (spoken prepared : List Spoken) → IsManaged size journal given m spoken prepared → IsManaged size (item ∷ journal) given m spoken prepared
    of spoken prepared d =
        let left : unsent spoken journal ≡ unsent spoken (item ∷ journal) = sym (unsent-same spoken journal (item ∷ journal) same.sent) in
        record {
          spoken_is = d.spoken_is;
          sent = omega (arith, same.sent, d.sent);
          plain = d.plain;
          mine = same.waiting Side.Sent m.mine.requests d.mine;
          theirs = same.waiting Side.Received m.theirs.requests d.theirs;
          acts = subst (λ (l : List Spoken). AreActs (requests_among l) (reverse m.acts.requests)) left d.acts;
          answers = d.answers;
          fit = subst (λ (l : List Spoken). AllFit (replies_among l ++ prepared) (reverse m.theirs.requests)) left d.fit;
          starting = d.starting;
          granted = subst (λ (l : List Spoken). AreFresh size (numbers_granted (replies_among l ++ prepared) (reverse m.theirs.requests)) m.granted) left d.granted;
          owed = d.owed ∙ ap (λ n. n + 1) (sym same.came);
          room = d.room;
        }

pub header-stays : (size : ℕ) (journal : List Item) (given : Marks) (m : Managed) (by : Side) (head : Head) → Manages size journal given m → Manages size (began by head ∷ journal) given m
header-stays size journal given m by head = stays size journal given m (began by head) (header-all journal by head)

pub seq-stays : (size : ℕ) (journal : List Item) (given : Marks) (m : Managed) (by : Side) (seq : Seq) → Manages size journal given m → Manages size (told by seq ∷ journal) given m
seq-stays size journal given m by seq = stays size journal given m (told by seq) (seq-all journal by seq)

pub above-stays : (size : ℕ) (journal : List Item) (given : Marks) (m : Managed) (by : Side) (head : Head) (payload : List ℕ) → (head.channel == 0) ≡ false
    → Manages size journal given m → Manages size (passed by head payload ∷ journal) given m
above-stays size journal given m by head payload above = stays size journal given m (passed by head payload) (above-all journal by head payload above)

pub part-stays : (size : ℕ) (journal : List Item) (given : Marks) (m : Managed) (by : Side) (head : Head) (payload : List ℕ) → head.more ≡ true
    → Manages size journal given m → Manages size (passed by head payload ∷ journal) given m
part-stays size journal given m by head payload part = stays size journal given m (passed by head payload) (part-all journal by head payload part)

-- ---- what is given above zero

pub given-above : (size : ℕ) (journal : List Item) (old new : Marks) (m : Managed) → new 0 ≡ old 0 → Manages size journal old m → Manages size journal new m
given-above size journal old new m same managed = record { spoken = managed.spoken; prepared = managed.prepared; is = of managed.spoken managed.prepared managed.is }
  where
    of : (spoken prepared : List Spoken) → IsManaged size journal old m spoken prepared → IsManaged size journal new m spoken prepared
    of spoken prepared d = record {
      spoken_is = subst (λ (ms : List Mark). AreSpoken spoken ms) (sym same) d.spoken_is;
      sent = d.sent;
      plain = d.plain;
      mine = d.mine;
      theirs = d.theirs;
      acts = d.acts;
      answers = d.answers;
      fit = d.fit;
      starting = d.starting;
      granted = d.granted;
      owed = ap (λ (ms : List Mark). ends_of ends_reply ms + length m.answers) same ∙ d.owed;
      room = d.room;
    }

-- ---- a new session

pub new-managed : (size : ℕ) (m : Managed) (answer : Prepared) (one : Spoken) → IsPrepared answer one → fits one.kind (Some one.form) implied_request ≡ true
    → m.mine.requests ≡ implied_request ∷ [] → m.acts.requests ≡ [] → m.theirs.requests ≡ implied_request ∷ [] → m.answers ≡ answer ∷ [] → m.starting ≡ [] → m.granted ≡ []
    → Manages size [] no_marks m
new-managed size m answer one is fit mine acts theirs answers starting granted = record {
  spoken = [];
  prepared = one ∷ [];
  is = record {
    spoken_is = record { octets = refl; kinds = refl; whole = refl; said = tt };
    sent = omega arith;
    plain = tt;
    mine = rw mine (new-session Side.Sent);
    theirs = rw theirs (new-session Side.Received);
    acts = rw acts tt;
    answers = rw answers (is, tt);
    fit = rw theirs (fit, tt);
    starting = rw (mine, acts, starting) tt;
    granted = rw (theirs, granted) (none (same_kind Kind.Rpy one.kind));
    owed = rw answers refl;
    room = rw acts (omega arith);
  };
}
  where
    none : (b : Bool) → AreFresh size (if b then [] else []) []
    none true = tt
    none false = tt
