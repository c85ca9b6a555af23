-- Which mark comes next after so many, message by message.
use Rattle.std.proofs.Common.{◌≡◌, ℕ, zero, suc, ◌-◌, ◌<◌, ◌≤◌, nat_lt, List, [], ◌∷◌, ◌++◌, map, drop, length, get_or, flat_map, refl, sym, ap, ◌∙◌, arith}
use Rattle.std.proofs.lemmas.List.{drop_more}
use Rattle.beep_frame.specs.declared.tag.Tag.{Tag}
use Rattle.beep_history.specs.Marks.{Mark, octet, end}
use Rattle.beep_lawful.specs.Due.{may_go}
use Rattle.beep_talk.specs.declared.message.Message.{Message}
use Rattle.beep_talk.specs.Plain.{plain_messages}
use Rattle.beep_script.specs.Script.{message_marks}

-- within a message an octet comes next
pub go-octet : (open_octets sent : ℕ) (tag : Tag) (content : List ℕ) (others : List Mark) → sent < length content
    → may_go open_octets (drop sent (map (octet tag) content ++ end tag ∷ [] ++ others)) ≡ nat_lt 0 open_octets
go-octet open_octets zero tag [] others within = absurd (omega arith)
go-octet open_octets zero tag (c ∷ cs) others within = refl
go-octet open_octets (suc n) tag [] others within = absurd (omega arith)
go-octet open_octets (suc n) tag (c ∷ cs) others within = go-octet open_octets n tag cs others (omega arith)

-- past a message the others come
pub go-past : (sent : ℕ) (tag : Tag) (content : List ℕ) (others : List Mark) → length content < sent
    → drop sent (map (octet tag) content ++ end tag ∷ [] ++ others) ≡ drop (sent - length content - 1) others
go-past zero tag content others past = absurd (omega arith)
go-past (suc n) tag [] others past = let e : suc n - 0 - 1 ≡ n = omega arith in rw e refl
go-past (suc n) tag (c ∷ cs) others past =
    let e : suc n - suc (length cs) - 1 ≡ n - length cs - 1 = omega arith in
    rw e (go-past n tag cs others (omega arith))

-- ---- messages

split-first : (messages : List Message) (message : Message) → 1 ≤ length messages → message ≡ get_or messages 0 message → messages ≡ message ∷ drop 1 messages
split-first messages message some is = drop_more messages 0 message some ∙ ap (λ m. m ∷ drop 1 messages) (sym is)

-- within the first message one of its octets comes next
pub goes-within : (messages : List Message) (message : Message) (size sent open_octets : ℕ) → 1 ≤ length messages → message ≡ get_or messages 0 message
    → size ≡ length message.content.octets → sent < size
    → nat_lt 0 open_octets ≡ may_go open_octets (drop sent (flat_map message_marks (plain_messages messages)))
goes-within messages message size sent open_octets some is are within =
    sym (ap (λ ms. may_go open_octets (drop sent (flat_map message_marks (plain_messages ms)))) (split-first messages message some is)
    ∙ go-octet open_octets sent message.tag message.content.octets (flat_map message_marks (plain_messages (drop 1 messages))) (omega (arith, are, within)))

-- past it the others come
pub goes-past : (messages : List Message) (message : Message) (size sent open_octets : ℕ) → 1 ≤ length messages → message ≡ get_or messages 0 message
    → size ≡ length message.content.octets → size < sent
    → may_go open_octets (drop (sent - size - 1) (flat_map message_marks (plain_messages (drop 1 messages))))
    ≡ may_go open_octets (drop sent (flat_map message_marks (plain_messages messages)))
goes-past messages message size sent open_octets some is are past =
    let e : sent - size - 1 ≡ sent - length message.content.octets - 1 = ap (λ n. sent - n - 1) are in
    ap (λ n. may_go open_octets (drop n (flat_map message_marks (plain_messages (drop 1 messages))))) e
    ∙ sym (ap (λ ms. may_go open_octets (drop sent (flat_map message_marks (plain_messages ms)))) (split-first messages message some is)
    ∙ ap (may_go open_octets) (go-past sent message.tag message.content.octets (flat_map message_marks (plain_messages (drop 1 messages))) (omega (arith, are, past))))
