-- What a frame is: a header and its payload, or a SEQ (RFC 3080, section 2.2.1; RFC 3081, section
-- 3.1).
-- The decoder never holds a frame: it answers a header when that has ended, and counts the payload.
use Rattle.std.specs.Prelude.{◌≡◌, ℕ, ◌<◌, ◌≤◌, ◌==◌, Bool, true, false, not, List, length}
use Rattle.beep_octets.specs.Numbers.{numbers_32}
use Rattle.beep_frame.specs.declared.kind.Kind.{Kind}
use Rattle.beep_frame.specs.declared.head.Head.{Head}
use Rattle.beep_frame.specs.declared.seq.Seq.{Seq}
use Rattle.beep_frame.specs.declared.head.TheConstants.{MAX_NUMBER}

-- the header with these parts
abbrev pub head_of : Kind → ℕ → ℕ → Bool → ℕ → ℕ → ℕ → Head
head_of kind channel msgno more seqno size ansno =
    record {
      kind = kind;
      channel = channel;
      msgno = msgno;
      more = more;
      seqno = seqno;
      size = size;
      ansno = ansno;
    }

-- the greatest answer number that a frame of this kind may have: only an ANS has one
abbrev pub max_ansno_of : Kind → ℕ
max_ansno_of Kind.Msg = 0
max_ansno_of Kind.Rpy = 0
max_ansno_of Kind.Err = 0
max_ansno_of Kind.Ans = MAX_NUMBER
max_ansno_of Kind.Nul = 0

-- each number of a header is in its range
pub record IsHead (head : Head) : Type 0 where
  pub channel : head.channel ≤ MAX_NUMBER
  pub msgno : head.msgno ≤ MAX_NUMBER
  pub seqno : head.seqno < numbers_32
  pub size : head.size ≤ MAX_NUMBER
  pub ansno : head.ansno ≤ max_ansno_of head.kind

-- each number of a SEQ is in its range
pub record IsSeq (seq : Seq) : Type 0 where
  pub channel : seq.channel ≤ MAX_NUMBER
  pub ackno : seq.ackno < numbers_32
  pub window : seq.window ≤ MAX_NUMBER

-- a frame: a header with its payload, or a SEQ
pub data Frame : Type 0 where
  framed : Head → List ℕ → Frame
  seq_frame : Seq → Frame

-- its numbers are in their ranges, and its payload has the size that its header says
abbrev pub IsFrame : Frame → Type 0
IsFrame (framed head payload) = IsHead head × (length payload ≡ head.size)
IsFrame (seq_frame seq) = IsSeq seq

-- ---- kinds

-- it belongs to a request
abbrev pub is_msg : Kind → Bool
is_msg Kind.Msg = true
is_msg Kind.Rpy = false
is_msg Kind.Err = false
is_msg Kind.Ans = false
is_msg Kind.Nul = false

-- it is one answer of a reply in many messages
abbrev pub is_ans : Kind → Bool
is_ans Kind.Msg = false
is_ans Kind.Rpy = false
is_ans Kind.Err = false
is_ans Kind.Ans = true
is_ans Kind.Nul = false

-- it ends a reply in many messages
abbrev pub is_nul : Kind → Bool
is_nul Kind.Msg = false
is_nul Kind.Rpy = false
is_nul Kind.Err = false
is_nul Kind.Ans = false
is_nul Kind.Nul = true

-- it belongs to a reply
abbrev pub is_reply : Kind → Bool
is_reply kind = not (is_msg kind)

-- the place of a kind among the kinds
abbrev pub kind_index : Kind → ℕ
kind_index Kind.Msg = 0
kind_index Kind.Rpy = 1
kind_index Kind.Err = 2
kind_index Kind.Ans = 3
kind_index Kind.Nul = 4

-- two kinds are one
abbrev pub same_kind : Kind → Kind → Bool
same_kind a b = kind_index a == kind_index b
