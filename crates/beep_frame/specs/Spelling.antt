-- The one spelling of a frame (RFC 3080, section 2.2.1; RFC 3081, section 3.1).
-- Choice: numbers have no leading zero (docs/DECISIONS.md, "Leading zeros"). The decoder knows no
-- text of a whole frame.
use Rattle.std.specs.Prelude.{ℕ, Bool, true, false, List, [], ◌∷◌, ◌++◌, codes}
use Rattle.std.specs.Fmt.{decimal}
use Rattle.beep_frame.specs.declared.kind.Kind.{Kind}
use Rattle.beep_frame.specs.declared.head.Head.{Head}
use Rattle.beep_frame.specs.declared.seq.Seq.{Seq}
use Rattle.beep_frame.specs.Frame.{Frame, framed, seq_frame}

-- the three letters that a data frame of this kind begins with
abbrev pub keyword : Kind → List ℕ
keyword Kind.Msg = codes "MSG"
keyword Kind.Rpy = codes "RPY"
keyword Kind.Err = codes "ERR"
keyword Kind.Ans = codes "ANS"
keyword Kind.Nul = codes "NUL"

-- a space and the number in decimal
abbrev pub field : ℕ → List ℕ
field n = 32 ∷ decimal n

-- `*` where the message goes on, `.` where it is complete
abbrev pub continuation : Bool → ℕ
continuation true = 42
continuation false = 46

-- the answer number, which only an ANS has
abbrev pub answer_field : Kind → ℕ → List ℕ
answer_field Kind.Msg ansno = []
answer_field Kind.Rpy ansno = []
answer_field Kind.Err ansno = []
answer_field Kind.Ans ansno = field ansno
answer_field Kind.Nul ansno = []

-- CR and LF
abbrev pub line_end : List ℕ
line_end = 13 ∷ 10 ∷ []

-- a header's text without its CRLF
unfoldable pub header_line : Head → List ℕ
header_line h =
    keyword h.kind ++ field h.channel ++ field h.msgno ++ (32 ∷ continuation h.more ∷ [])
    ++ field h.seqno ++ field h.size ++ answer_field h.kind h.ansno

-- a header's text
abbrev pub header : Head → List ℕ
header h = header_line h ++ line_end

-- what ends each data frame
abbrev pub trailer : List ℕ
trailer = 69 ∷ 78 ∷ 68 ∷ 13 ∷ 10 ∷ []

-- a SEQ's text without its CRLF
unfoldable pub seq_line : Seq → List ℕ
seq_line s = codes "SEQ" ++ field s.channel ++ field s.ackno ++ field s.window

-- a frame's text
abbrev pub spelling : Frame → List ℕ
spelling (framed h payload) = header h ++ payload ++ trailer
spelling (seq_frame s) = seq_line s ++ line_end
