-- Each reply stands at its place: the marks of replies name as many requests as replies ended before them. So what agrees modulo 2^64 agrees.
use Rattle.std.proofs.Common.{◌≡◌, ℕ, zero, suc, ◌+◌, ◌-◌, ◌<◌, ◌≤◌, ◌%◌, ◌==◌, Bool, true, false, not, ◌&&◌, if◌then◌else◌, List, [], ◌∷◌, ◌++◌, map, flat_map, refl, sym, ap, ◌∙◌, subst, arith, ⊎_elim}
use Rattle.std.specs.List.{list_all}
use Rattle.std.proofs.lemmas.Bool.{cases_lt}
use Rattle.std.proofs.lemmas.List.{append_assoc, append-nil}
use Rattle.std.proofs.lemmas.List.Concat.{flat_map-append}
use Rattle.beep_script.specs.beep_frame.specs.declared.kind.Kind.{Kind}
use Rattle.beep_script.specs.beep_frame.specs.declared.tag.Tag.{Tag}
use Rattle.beep_script.specs.beep_frame.specs.Frame.{is_msg}
use Rattle.beep_script.specs.beep_history.specs.Marks.{Mark, octet, end, marks, modulo_2_64, mark_modulo_2_64}
use Rattle.beep_script.specs.beep_history.specs.Moments.{mark_tag}
use Rattle.beep_script.specs.beep_history.specs.Messages.{Message}
use Rattle.beep_script.specs.beep_lawful.specs.declared.limits.TheConstants.{MESSAGE_NUMBERS}
use Rattle.beep_script.specs.prof_raw.specs.Entries.{body_of}
use Rattle.beep_script.specs.beep_talk.specs.declared.plan.Command.{Command}
use Rattle.beep_script.specs.beep_talk.specs.Plan.{PlainPlan}
use Rattle.beep_script.specs.beep_talk.specs.Talk.{message_of, answers_from, nul, refusal, reply_of}
use Rattle.beep_script.specs.Script.{message_marks, BeginsWith}
use Rattle.beep_script.specs.Sending.{ends_whole, is_of_reply}
use Rattle.beep_replies.specs.Replies.{replies}
use Rattle.beep_replies.proofs.StayLemmas.{more-front}

-- ---- marks at their places

-- how many replies have ended after a mark, and after some marks
abbrev pub step : ℕ → Mark → ℕ
step n mark = if ends_whole mark then n + 1 else n

abbrev pub after : ℕ → List Mark → ℕ
after n [] = n
after n (mark ∷ marks) = after (step n mark) marks

-- each mark names the request whose reply is next
abbrev pub Placed : ℕ → List Mark → Type 0
Placed n [] = Unit {0}
Placed n (mark ∷ marks) = ((mark_tag mark).request ≡ n) × Placed (step n mark) marks

pub after-append : (n : ℕ) (xs ys : List Mark) → after n (xs ++ ys) ≡ after (after n xs) ys
after-append n [] ys = refl
after-append n (x ∷ xs) ys = after-append (step n x) xs ys

pub placed-append : (n : ℕ) (xs ys : List Mark) → Placed n xs → Placed (after n xs) ys → Placed n (xs ++ ys)
placed-append n [] ys a b = b
placed-append n (x ∷ xs) ys a b = (a.0, placed-append (step n x) xs ys a.1 b)

-- each mark names a request below a count
abbrev pub AllBelow : ℕ → List Mark → Type 0
AllBelow count [] = Unit {0}
AllBelow count (mark ∷ marks) = ((mark_tag mark).request < count) × AllBelow count marks

pub below-append : (count : ℕ) (xs ys : List Mark) → AllBelow count xs → AllBelow count ys → AllBelow count (xs ++ ys)
below-append count [] ys a b = b
below-append count (x ∷ xs) ys a b = (a.0, below-append count xs ys a.1 b)

pub below-more : (few many : ℕ) (xs : List Mark) → few ≤ many → AllBelow few xs → AllBelow many xs
below-more few many [] more all = tt
below-more few many (x ∷ xs) more all = (let first = all.0 in omega (arith, first, more), below-more few many xs more all.1)

-- ---- the marks of some octets and their end

pub octets-placed : (tag : Tag) (octets : List ℕ) (n : ℕ) (last : List Mark) → tag.request ≡ n → Placed n last → Placed n (map (octet tag) octets ++ last)
octets-placed tag [] n last is rest = rest
octets-placed tag (o ∷ octets) n last is rest = (is, octets-placed tag octets n last is rest)

pub octets-after : (tag : Tag) (octets : List ℕ) (n : ℕ) (last : List Mark) → after n (map (octet tag) octets ++ last) ≡ after n last
octets-after tag [] n last = refl
octets-after tag (o ∷ octets) n last = octets-after tag octets n last

pub octets-below : (tag : Tag) (octets : List ℕ) (count : ℕ) (last : List Mark) → tag.request < count → AllBelow count last → AllBelow count (map (octet tag) octets ++ last)
octets-below tag [] count last is rest = rest
octets-below tag (o ∷ octets) count last is rest = (is, octets-below tag octets count last is rest)

-- ---- what is replied

message-placed : (message : Message) (n : ℕ) → message.tag.request ≡ n → Placed n (message_marks message)
message-placed message n is = octets-placed message.tag message.content n (end message.tag ∷ []) is (is, tt)

message-after : (message : Message) (n : ℕ) → after n (message_marks message) ≡ step n (end message.tag)
message-after message n = octets-after message.tag message.content n (end message.tag ∷ [])

-- the answer of a line
abbrev line_message : ℕ → ℕ → List ℕ → Message
line_message position place line = message_of Kind.Ans position (place % MESSAGE_NUMBERS) (body_of (line ∷ []))

answers-placed : (position place : ℕ) (lines : List (List ℕ)) → Placed position (flat_map message_marks (answers_from position place lines))
answers-placed position place [] = tt
answers-placed position place (line ∷ lines) =
    placed-append position (message_marks (line_message position place line)) (flat_map message_marks (answers_from position (place + 1) lines)) (message-placed (line_message position place line) position refl)
    (subst (λ (n : ℕ). Placed n (flat_map message_marks (answers_from position (place + 1) lines))) (sym (message-after (line_message position place line) position)) (answers-placed position (place + 1) lines))

answers-after : (position place : ℕ) (lines : List (List ℕ)) → after position (flat_map message_marks (answers_from position place lines)) ≡ position
answers-after position place [] = refl
answers-after position place (line ∷ lines) =
    after-append position (message_marks (line_message position place line)) (flat_map message_marks (answers_from position (place + 1) lines))
    ∙ ap (λ (n : ℕ). after n (flat_map message_marks (answers_from position (place + 1) lines))) (message-after (line_message position place line) position)
    ∙ answers-after position (place + 1) lines

last-placed : (front : List Message) (last : Message) (position : ℕ) → Placed position (flat_map message_marks front) → after position (flat_map message_marks front) ≡ position
    → last.tag.request ≡ position → Placed position (flat_map message_marks (front ++ last ∷ []))
last-placed front last position first same is =
    subst (λ (ms : List Mark). Placed position ms) (sym (flat_map-append message_marks front (last ∷ []) ∙ ap (λ (ms : List Mark). flat_map message_marks front ++ ms) (append-nil (message_marks last))))
    (placed-append position (flat_map message_marks front) (message_marks last) first (subst (λ (n : ℕ). Placed n (message_marks last)) (sym same) (message-placed last position is)))

last-after : (front : List Message) (last : Message) (position : ℕ) → after position (flat_map message_marks front) ≡ position
    → after position (flat_map message_marks (front ++ last ∷ [])) ≡ step position (end last.tag)
last-after front last position same =
    ap (after position) (flat_map-append message_marks front (last ∷ []) ∙ ap (λ (ms : List Mark). flat_map message_marks front ++ ms) (append-nil (message_marks last)))
    ∙ after-append position (flat_map message_marks front) (message_marks last)
    ∙ ap (λ (n : ℕ). after n (message_marks last)) same ∙ message-after last position

reply-placed : (command : Command) (lines : List (List ℕ)) (position : ℕ) → Placed position (flat_map message_marks (reply_of command lines position))
reply-placed Command.Send lines position = of (position == 0)
  where
    of : (b : Bool) → Placed position (flat_map message_marks ((if b then answers_from position 0 lines else []) ++ nul position ∷ []))
    of true = last-placed (answers_from position 0 lines) (nul position) position (answers-placed position 0 lines) (answers-after position 0 lines) refl
    of false = last-placed [] (nul position) position tt refl refl
reply-placed Command.Listen lines position = last-placed [] (refusal position) position tt refl refl

reply-after : (command : Command) (lines : List (List ℕ)) (position : ℕ) → after position (flat_map message_marks (reply_of command lines position)) ≡ position + 1
reply-after Command.Send lines position = of (position == 0)
  where
    of : (b : Bool) → after position (flat_map message_marks ((if b then answers_from position 0 lines else []) ++ nul position ∷ [])) ≡ position + 1
    of true = last-after (answers_from position 0 lines) (nul position) position (answers-after position 0 lines)
    of false = last-after [] (nul position) position refl
reply-after Command.Listen lines position = last-after [] (refusal position) position refl

-- the marks of the replies to so many requests
abbrev pub replies_marks : PlainPlan → ℕ → ℕ → List Mark
replies_marks plan position count = flat_map message_marks (replies plan position count)

pub replies-placed : (plan : PlainPlan) (position count : ℕ) → Placed position (replies_marks plan position count)
replies-placed plan position zero = tt
replies-placed plan position (suc count) =
    subst (λ (ms : List Mark). Placed position ms) (sym (flat_map-append message_marks (reply_of plan.command plan.lines position) (replies plan (position + 1) count)))
    (placed-append position (flat_map message_marks (reply_of plan.command plan.lines position)) (replies_marks plan (position + 1) count)
    (reply-placed plan.command plan.lines position)
    (subst (λ (n : ℕ). Placed n (replies_marks plan (position + 1) count)) (sym (reply-after plan.command plan.lines position)) (replies-placed plan (position + 1) count)))

-- the replies to some requests, and then to others
pub replies-split : (plan : PlainPlan) (position few more : ℕ) → replies_marks plan position (few + more) ≡ replies_marks plan position few ++ replies_marks plan (position + few) more
replies-split plan position zero more =
    ap (replies_marks plan position) (let e : zero + more ≡ more = omega arith in e)
    ∙ ap (λ (p : ℕ). replies_marks plan p more) (let e : position ≡ position + zero = omega arith in e)
replies-split plan position (suc few) more =
    ap (replies_marks plan position) (let e : suc few + more ≡ suc (few + more) = omega arith in e)
    ∙ flat_map-append message_marks (reply_of plan.command plan.lines position) (replies plan (position + 1) (few + more))
    ∙ ap (λ (ms : List Mark). flat_map message_marks (reply_of plan.command plan.lines position) ++ ms) (replies-split plan (position + 1) few more)
    ∙ sym (append_assoc (flat_map message_marks (reply_of plan.command plan.lines position)) (replies_marks plan (position + 1) few) (replies_marks plan ((position + 1) + few) more))
    ∙ ap (λ (ms : List Mark). ms ++ replies_marks plan ((position + 1) + few) more) (sym (flat_map-append message_marks (reply_of plan.command plan.lines position) (replies plan (position + 1) few)))
    ∙ ap (λ (p : ℕ). replies_marks plan position (suc few) ++ replies_marks plan p more) (let e : (position + 1) + few ≡ position + suc few = omega arith in e)

-- they are replies all
pub all-append : {X : Type 0} (p : X → Bool) (xs ys : List X) → list_all p xs ≡ true → list_all p ys ≡ true → list_all p (xs ++ ys) ≡ true
all-append p [] ys a b = b
all-append p (x ∷ xs) ys a b = of (p x) a (λ rest. all-append p xs ys rest b)
  where
    of : (c : Bool) → (c && list_all p xs) ≡ true → (list_all p xs ≡ true → list_all p (xs ++ ys) ≡ true) → (c && list_all p (xs ++ ys)) ≡ true
    of true e rest = rest e
    of false e rest = absurd cc

message-all : (tag : Tag) (octets : List ℕ) → is_msg tag.kind ≡ false → list_all is_of_reply (map (octet tag) octets ++ end tag ∷ []) ≡ true
message-all tag [] kind = ap (λ (b : Bool). not b && true) kind
message-all tag (o ∷ octets) kind = ap (λ (b : Bool). not b && list_all is_of_reply (map (octet tag) octets ++ end tag ∷ [])) kind ∙ message-all tag octets kind

one-all : (message : Message) → is_msg message.tag.kind ≡ false → list_all is_of_reply (flat_map message_marks (message ∷ [])) ≡ true
one-all message kind = all-append is_of_reply (message_marks message) [] (message-all message.tag message.content kind) refl

answers-all : (position place : ℕ) (lines : List (List ℕ)) → list_all is_of_reply (flat_map message_marks (answers_from position place lines)) ≡ true
answers-all position place [] = refl
answers-all position place (line ∷ lines) =
    all-append is_of_reply (message_marks (line_message position place line)) (flat_map message_marks (answers_from position (place + 1) lines))
    (message-all (record { kind = Kind.Ans; request = position; ansno = place % MESSAGE_NUMBERS }) (body_of (line ∷ [])) refl) (answers-all position (place + 1) lines)

reply-all : (command : Command) (lines : List (List ℕ)) (position : ℕ) → list_all is_of_reply (flat_map message_marks (reply_of command lines position)) ≡ true
reply-all Command.Send lines position = of (position == 0)
  where
    both : (front : List Message) → list_all is_of_reply (flat_map message_marks front) ≡ true → list_all is_of_reply (flat_map message_marks (front ++ nul position ∷ [])) ≡ true
    both front all =
        ap (list_all is_of_reply) (flat_map-append message_marks front (nul position ∷ []))
        ∙ all-append is_of_reply (flat_map message_marks front) (flat_map message_marks (nul position ∷ [])) all (one-all (nul position) refl)

    of : (b : Bool) → list_all is_of_reply (flat_map message_marks ((if b then answers_from position 0 lines else []) ++ nul position ∷ [])) ≡ true
    of true = both (answers_from position 0 lines) (answers-all position 0 lines)
    of false = both [] refl
reply-all Command.Listen lines position = one-all (refusal position) refl

pub replies-all : (plan : PlainPlan) (position count : ℕ) → list_all is_of_reply (replies_marks plan position count) ≡ true
replies-all plan position zero = refl
replies-all plan position (suc count) =
    ap (list_all is_of_reply) (flat_map-append message_marks (reply_of plan.command plan.lines position) (replies plan (position + 1) count))
    ∙ all-append is_of_reply (flat_map message_marks (reply_of plan.command plan.lines position)) (replies_marks plan (position + 1) count)
    (reply-all plan.command plan.lines position) (replies-all plan (position + 1) count)

-- ---- what agrees modulo 2^64

octet-tag : (t u : Tag) (v w : ℕ) → octet t v ≡ octet u w → (t ≡ u) × (v ≡ w)
octet-tag t u v w e = (cc e, cc e)

end-tag : (t u : Tag) → end t ≡ end u → t ≡ u
end-tag t u e = cc e

tag-same : (t u : Tag) → t.kind ≡ u.kind → t.request ≡ u.request → t.ansno ≡ u.ansno → t ≡ u
tag-same t u kind request ansno =
    ap (λ (k : Kind). record { kind = k; request = t.request; ansno = t.ansno }) kind
    ∙ ap (λ (r : ℕ). record { kind = u.kind; request = r; ansno = t.ansno }) request
    ∙ ap (λ (a : ℕ). record { kind = u.kind; request = u.request; ansno = a }) ansno

kind-of : (t u : Tag) → modulo_2_64 t ≡ modulo_2_64 u → (t.kind ≡ u.kind) × (t.ansno ≡ u.ansno)
kind-of t u e = (ap (λ (x : Tag). x.kind) e, ap (λ (x : Tag). x.ansno) e)

mark-same : (x y : Mark) (n : ℕ) → (mark_tag x).request ≡ n → (mark_tag y).request ≡ n → mark_modulo_2_64 x ≡ mark_modulo_2_64 y → x ≡ y
mark-same (octet t v) (octet u w) n a b e =
    let parts = octet-tag (modulo_2_64 t) (modulo_2_64 u) v w e in
    let k = kind-of t u parts.0 in
    ap (λ (x : Tag). octet x v) (tag-same t u k.0 (a ∙ sym b) k.1) ∙ ap (octet u) parts.1
mark-same (end t) (end u) n a b e =
    let k = kind-of t u (end-tag (modulo_2_64 t) (modulo_2_64 u) e) in
    ap (λ (x : Tag). end x) (tag-same t u k.0 (a ∙ sym b) k.1)
mark-same (octet t v) (end u) n a b e = absurd cc
mark-same (end t) (octet u w) n a b e = absurd cc

same-first : (x y : Mark) (xs ys : List Mark) → x ∷ xs ≡ y ∷ ys → (x ≡ y) × (xs ≡ ys)
same-first x y xs ys e = (cc e, cc e)

-- marks at their places are the beginning of others where they are so modulo 2^64
pub placed-front : (n : ℕ) (xs ys : List Mark) (rest : List Mark) → Placed n xs → Placed n ys → map mark_modulo_2_64 xs ++ rest ≡ map mark_modulo_2_64 ys → BeginsWith ys xs
placed-front n [] ys rest a b e = record { rest = ys; whole_is = refl }
placed-front n (x ∷ xs) [] rest a b e = absurd (let g : mark_modulo_2_64 x ∷ (map mark_modulo_2_64 xs ++ rest) ≡ [] = e in cc)
placed-front n (x ∷ xs) (y ∷ ys) rest a b e =
    let parts = same-first (mark_modulo_2_64 x) (mark_modulo_2_64 y) (map mark_modulo_2_64 xs ++ rest) (map mark_modulo_2_64 ys) e in
    let same : x ≡ y = mark-same x y n a.0 b.0 parts.0 in
    let others = placed-front (step n x) xs ys rest a.1 (subst (λ (m : Mark). Placed (step n m) ys) (sym same) b.1) parts.1 in
    record { rest = others.rest; whole_is = ap (λ (m : Mark). m ∷ ys) (sym same) ∙ ap (λ (ms : List Mark). x ∷ ms) others.whole_is }

-- what names requests below a count alone ends before those from it on
front-below : (count : ℕ) (ones twos xs : List Mark) → BeginsWith (ones ++ twos) xs → AllBelow count xs → Placed count twos → BeginsWith ones xs
front-below count ones twos [] front below placed = record { rest = ones; whole_is = refl }
front-below count [] [] (x ∷ xs) front below placed = absurd (let g : [] ≡ x ∷ (xs ++ front.rest) = front.whole_is in cc)
front-below count [] (b ∷ twos) (x ∷ xs) front below placed =
    absurd (let same : b ≡ x = (same-first b x twos (xs ++ front.rest) front.whole_is).0 in
    let at : (mark_tag x).request ≡ count = subst (λ (m : Mark). (mark_tag m).request ≡ count) same placed.0 in
    let less = below.0 in omega (arith, less, at))
front-below count (a ∷ ones) twos (x ∷ xs) front below placed =
    let parts = same-first a x (ones ++ twos) (xs ++ front.rest) front.whole_is in
    let others = front-below count ones twos xs (record { rest = front.rest; whole_is = parts.1 }) below.1 placed in
    record { rest = others.rest; whole_is = ap (λ (m : Mark). m ∷ ones) parts.0 ∙ ap (λ (ms : List Mark). x ∷ ms) others.whole_is }

-- of the replies to some requests what names those below a count is of the replies to these
pub front-of-replies : (plan : PlainPlan) (many count : ℕ) (xs : List Mark) → BeginsWith (replies_marks plan 0 many) xs → AllBelow count xs → BeginsWith (replies_marks plan 0 count) xs
front-of-replies plan many count xs front below = ⊎_elim (λ more. cut more) (λ few. fewer few) (cases_lt count many)
  where
    fewer : many ≤ count → BeginsWith (replies_marks plan 0 count) xs
    fewer few =
        more-front (replies_marks plan 0 count) (replies_marks plan 0 many) xs
        (record {
          rest = replies_marks plan (0 + many) (count - many);
          whole_is = ap (replies_marks plan 0) (let e : count ≡ many + (count - many) = omega (arith, few) in e) ∙ replies-split plan 0 many (count - many);
        }) front

    cut : count < many → BeginsWith (replies_marks plan 0 count) xs
    cut more =
        let split : replies_marks plan 0 many ≡ replies_marks plan 0 count ++ replies_marks plan count (many - count) =
        ap (replies_marks plan 0) (let e : many ≡ count + (many - count) = omega (arith, more) in e) ∙ replies-split plan 0 count (many - count)
        ∙ ap (λ (p : ℕ). replies_marks plan 0 count ++ replies_marks plan p (many - count)) (let e : 0 + count ≡ count = omega arith in e) in
        front-below count (replies_marks plan 0 count) (replies_marks plan count (many - count)) xs
        (subst (λ (ms : List Mark). BeginsWith ms xs) split front) below (replies-placed plan count (many - count))
