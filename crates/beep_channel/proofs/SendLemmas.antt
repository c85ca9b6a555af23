-- The frame that is cut from the queue: lawful over the life's history, the next unsent marks, and what is left stands.
use Rattle.std.proofs.Common.{◌≡◌, ℕ, zero, suc, ◌+◌, ◌-◌, ◌%◌, ◌^◌, ◌<◌, ◌≤◌, nat_lt, Bool, true, false, not, ◌&&◌, if◌then◌else◌, List, [], ◌∷◌, ◌++◌, length, take, drop, map, Option, Some, None, refl, sym, ap, ◌∙◌, arith, ◌⊎◌, inl, inr, ⊎_elim, take-append-drop}
use Rattle.std.specs.Option.{option_map_or}
use Rattle.std.proofs.lemmas.Bool.Decides.{nat_tests}
use Rattle.beep_frame.specs.declared.head.Head.{Head}
use Rattle.beep_frame.specs.declared.kind.Kind.{Kind}
use Rattle.beep_frame.specs.declared.tag.Tag.{Tag}
use Rattle.beep_history.specs.declared.journal.Side.{Side}
use Rattle.beep_frame.specs.Frame.{head_of, is_msg, is_reply}
use Rattle.beep_history.specs.Journal.{Item, began, passed}
use Rattle.beep_history.specs.Marks.{Request, begins_request, requests, waiting, position_of, tag_of, frame_marks, Mark, octet, end, modulo_2_64, mark_modulo_2_64}
use Rattle.beep_history.specs.Broken.{exchange_rule}
use Rattle.beep_history.proofs.SoundLemmas.{Sound, IsDue}
use Rattle.beep_history.proofs.PassedLemmas.{sound}
use Rattle.beep_exchange.specs.Kept.{Kept, begins, began_kept, replied_kept}
use Rattle.beep_exchange.specs.Exchange.{Life, IsExchange}
use Rattle.beep_exchange.proofs.ExchangeLemmas.{judged-sent, began-sent, passed-sent}
use Rattle.beep_exchange.proofs.AskerLemmas.{count-waiting}
use Rattle.beep_outbox.specs.Queue.{Message}
use Rattle.beep_channel.specs.Fits.{Fits, next_number, IsCut, mine_after, theirs_after, left_of, count_after, was_more, IsBegun}
use Rattle.beep_exchange.specs.Given.{ends_reply}
use Rattle.beep_outbox.specs.Queue.{marks_of}
use Rattle.beep_channel.specs.Sums.{tag_at, IsTagged}
use Rattle.beep_channel.proofs.FitsLemmas.{the-next, next-judged, next-fits, Begun, begun, whole-begins, begun-begins, numbered, reply-waits}

-- ---- a frame

module _ (life : Life) (past : List Item) (channel seqno size ansno place : ℕ) (octets : List ℕ) (ms : List Message) (count : ℕ) (k : Kind)
    (stands : IsExchange life past) (counted : count ≡ length (requests Side.Sent past))
    (owed : ℕ) (fits : Fits count owed (record { tag = record { kind = k; request = place; ansno = ansno }; octets = octets } ∷ ms) life.sent life.received)
    (is_cut : IsCut size (record { tag = record { kind = k; request = place; ansno = ansno }; octets = octets })) where
  abbrev pub head : Head
  head = the-next life.sent life.received channel seqno size ansno place octets ms count owed k fits is_cut

  abbrev pub payload : List ℕ
  payload = take size octets

  abbrev pub begun-life : Life
  begun-life = record life { sent = began_kept life.sent head }

  abbrev pub new-life : Life
  new-life = record life { sent = mine_after life.sent head; received = theirs_after life.received head }

  -- it breaks no rule of the exchange
  pub head-unbroken : exchange_rule Side.Sent past head ≡ None
  head-unbroken = sym (judged-sent life past stands head) ∙ next-judged life.sent life.received channel seqno size ansno place octets ms count owed k fits is_cut

  pub begun-stands : IsExchange begun-life (began Side.Sent head ∷ past)
  begun-stands = began-sent life past stands head fits.idle (next-judged life.sent life.received channel seqno size ansno place octets ms count owed k fits is_cut)

  cut-length : (n : ℕ) (xs : List ℕ) → n ≤ length xs → length (take n xs) ≡ n
  cut-length zero xs p = refl
  cut-length (suc n) [] p = absurd (omega (arith, p))
  cut-length (suc n) (x ∷ xs) p = ap suc (cut-length n xs (omega (arith, p)))

  pub sized : length payload ≡ head.size
  sized = cut-length size octets is_cut.within

  -- what the exchange keeps stands for the history with the frame
  pub frame-stands : IsExchange new-life (passed Side.Sent head payload ∷ began Side.Sent head ∷ past)
  frame-stands = passed-sent begun-life (began Side.Sent head ∷ past) begun-stands head payload refl sized

  -- and the queue fits
  pub queue-fits : Fits (count_after count life.sent head) owed (left_of size (record { tag = record { kind = k; request = place; ansno = ansno }; octets = octets }) ms) new-life.sent new-life.received
  queue-fits = next-fits life.sent life.received channel seqno size ansno place octets ms count owed k fits is_cut

  -- own requests are counted
  begins-is : begins life.sent head ≡ begins_request Side.Sent past head
  begins-is = rw stands.sent refl

  pub counted-on : count_after count life.sent head ≡ length (requests Side.Sent (passed Side.Sent head payload ∷ began Side.Sent head ∷ past))
  counted-on = ap (λ (b : Bool). if b then count + 1 else count) begins-is ∙ of (begins_request Side.Sent past head) (record { position = length (requests Side.Sent past); number = head.msgno }) (requests Side.Sent past) counted
    where
      of : (b : Bool) (r : Request) (rs : List Request) → count ≡ length rs → (if b then count + 1 else count) ≡ length (if b then r ∷ rs else rs)
      of true r rs e = omega (arith, e)
      of false r rs e = e

  -- ---- its tag

  oldest-is : (s : Sound Side.Received (began Side.Sent head ∷ past)) → s.oldest ≡ length (requests Side.Received past) - length (waiting Side.Received past)
  oldest-is s =
      let c : length (waiting Side.Received past) ≡ length (requests Side.Received past) - s.oldest = count-waiting Side.Received (began Side.Sent head ∷ past) s in
      let w : s.oldest ≤ length (requests Side.Received past) = s.within in
      omega (arith, c, w)

  -- a reply names the oldest request that waits
  pub reply-position : is_reply k ≡ true → position_of Side.Sent (began Side.Sent head ∷ past) head ≡ length (requests Side.Received past) - length (waiting Side.Received past)
  reply-position r =
      let s : Sound Side.Received (began Side.Sent head ∷ past) = sound Side.Received (began Side.Sent head ∷ past) begun-stands.unbroken in
      let d : IsDue Side.Received s.oldest (began Side.Sent head ∷ past) head = s.due head refl r in
      of (is_msg k) _ _ _ r (rw d.found d.at ∙ oldest-is s)
    where
      of : (b : Bool) (x y z : ℕ) → not b ≡ true → y ≡ z → (if b then x else y) ≡ z
      of true x y z r e = absurd (let g : false ≡ true = r in cc)
      of false x y z r e = e

  -- the frame before belongs to a request that was not complete
  abbrev pub open-before : Bool
  open-before = option_map_or (λ (h : Head). is_msg h.kind && h.more) life.sent.before false

  abbrev pub own-first : ℕ
  own-first = if open-before then count - 1 else count

  whole-before : (before : Option Head) → option_map_or (λ (h : Head). h.more) before false ≡ false → option_map_or (λ (h : Head). is_msg h.kind && h.more) before false ≡ false
  whole-before None e = refl
  whole-before (Some h) e = rw e (and-false (is_msg h.kind))
    where
      and-false : (b : Bool) → (b && false) ≡ false
      and-false true = refl
      and-false false = refl

  pub parts : IsBegun owed (record { tag = record { kind = k; request = place; ansno = ansno }; octets = octets } ∷ ms) life.sent life.received → Begun life.sent life.received channel seqno size ansno place octets ms count owed k fits is_cut
  parts = begun life.sent life.received channel seqno size ansno place octets ms count owed k fits is_cut

  -- whether a request begins and whether the one before goes on, together
  pub begins-or-on : (begins life.sent head ≡ is_msg k) × (open-before ≡ false) ⊎ (begins life.sent head ≡ false) × (open-before ≡ is_msg k)
  begins-or-on = ⊎_elim
      (λ w. inl (whole-begins life.sent life.received channel seqno size ansno place octets ms count owed k fits is_cut w.complete, whole-before life.sent.before w.complete))
      (λ b. let g = parts b in inr (begun-begins life.sent life.received channel seqno size ansno place octets ms count owed k fits is_cut g, rw (g.last, g.more, g.kind) (and-true (is_msg k))))
      fits.first
    where
      and-true : (b : Bool) → (b && true) ≡ b
      and-true true = refl
      and-true false = refl

  -- a request has the position of the first of the queue
  pub msg-position : is_msg k ≡ true → position_of Side.Sent (began Side.Sent head ∷ past) head ≡ own-first
  msg-position m = of (is_msg k) (begins_request Side.Sent past head) open-before _ (record { position = length (requests Side.Sent past); number = head.msgno }) (requests Side.Sent past) m counted
      (⊎_elim (λ w. inl (sym begins-is ∙ w.0 ∙ m, w.1)) (λ b. inr (sym begins-is ∙ b.0, b.1 ∙ m)) begins-or-on)
    where
      of : (m b o : Bool) (x : ℕ) (r : Request) (rs : List Request) → m ≡ true → count ≡ length rs → ((b ≡ true) × (o ≡ false)) ⊎ ((b ≡ false) × (o ≡ true))
          → (if m then length (if b then r ∷ rs else rs) - 1 else x) ≡ (if o then count - 1 else count)
      of false b o x r rs e c w = absurd (let g : false ≡ true = e in cc)
      of true b o x r rs e c (inl w) = rw (w.0, w.1) (omega (arith, c))
      of true b o x r rs e c (inr w) = rw (w.0, w.1) (omega (arith, c))

  -- ---- marks

  abbrev pub message : Message
  message = record { tag = record { kind = k; request = place; ansno = ansno }; octets = octets }

  -- the tag of the frame is that of the first message
  pub tag-is : (reply : ℕ) → reply ≡ length (requests Side.Received past) - length (waiting Side.Received past) → tag_of Side.Sent (began Side.Sent head ∷ past) head ≡ tag_at own-first reply message
  tag-is reply e = ap (λ (p : ℕ). record { kind = k; request = p; ansno = ansno }) (of (is_msg k) refl)
    where
      of : (b : Bool) → is_msg k ≡ b → position_of Side.Sent (began Side.Sent head ∷ past) head ≡ (if b then own-first else reply)
      of true m = msg-position m
      of false m = reply-position (rw m refl) ∙ sym e

  -- the place of the first request after the frame
  abbrev pub own-next : ℕ
  own-next = if is_msg k && nat_lt size (length octets) then count_after count life.sent head - 1 else count_after count life.sent head

  -- it stays while the message goes on, and a request that is wholly sent is the next one's step
  pub own-step : own-next ≡ (if nat_lt size (length octets) then own-first else (if is_msg k then own-first + 1 else own-first))
  own-step = of (is_msg k) (nat_lt size (length octets)) (begins life.sent head) open-before begins-or-on fits.own
    where
      of : (m l b o : Bool) → ((b ≡ m) × (o ≡ false)) ⊎ ((b ≡ false) × (o ≡ m)) → (o ≡ true → 0 < count)
          → (if m && l then (if b then count + 1 else count) - 1 else (if b then count + 1 else count))
          ≡ (if l then (if o then count - 1 else count) else (if m then (if o then count - 1 else count) + 1 else (if o then count - 1 else count)))
      of m true b o (inl w) p = rw (w.0, w.1) (more m)
        where
          more : (m : Bool) → (if m && true then (if m then count + 1 else count) - 1 else (if m then count + 1 else count)) ≡ count
          more true = omega arith
          more false = refl
      of m false b o (inl w) p = rw (w.0, w.1) (done m)
        where
          done : (m : Bool) → (if m && false then (if m then count + 1 else count) - 1 else (if m then count + 1 else count)) ≡ (if m then count + 1 else count)
          done true = refl
          done false = refl
      of m l b o (inr w) p = rw (w.0, w.1) (on m l (λ e. p (w.1 ∙ e)))
        where
          on : (m l : Bool) → (m ≡ true → 0 < count) → (if m && l then count - 1 else count)
              ≡ (if l then (if m then count - 1 else count) else (if m then (if m then count - 1 else count) + 1 else (if m then count - 1 else count)))
          on true true q = refl
          on true false q = let h = q refl in omega (arith, h)
          on false true q = refl
          on false false q = refl

  -- the first message has the tag that the history gives, modulo 2^64
  pub tag-told : (reply : ℕ) → reply ≡ length (requests Side.Received past) - life.received.waiting
      → IsTagged own-first reply (message ∷ ms) → modulo_2_64 (tag_of Side.Sent (began Side.Sent head ∷ past) head) ≡ message.tag
  tag-told reply e t = ap (λ (x : Tag). modulo_2_64 x) (tag-is reply (e ∙ ap (λ (n : ℕ). length (requests Side.Received past) - n) (ap (λ (kept : Kept). kept.waiting) stands.received))) ∙ sym t.0

  -- the marks of the frame, and then those that are left, are those that were unsent
  pub marks-next : (tag : Tag) → modulo_2_64 tag ≡ message.tag
      → map mark_modulo_2_64 (frame_marks tag head payload) ++ marks_of (left_of size message ms) ≡ marks_of (message ∷ ms)
  marks-next tag e =
      ap (λ (xs : List Mark). xs ++ marks_of (left_of size message ms)) (modulo-frame (nat_lt size (length octets)))
      ∙ ap (λ (t : Tag). (map (octet t) payload ++ (if nat_lt size (length octets) then [] else end t ∷ [])) ++ marks_of (left_of size message ms)) e
      ∙ of (nat_lt size (length octets)) refl
    where
      modulo-octets : (os : List ℕ) (more : List Mark) → map mark_modulo_2_64 (map (octet tag) os ++ more) ≡ map (octet (modulo_2_64 tag)) os ++ map mark_modulo_2_64 more
      modulo-octets [] more = refl
      modulo-octets (o ∷ os) more = ap (λ (l : List Mark). octet (modulo_2_64 tag) o ∷ l) (modulo-octets os more)

      modulo-frame : (l : Bool) → map mark_modulo_2_64 (map (octet tag) payload ++ (if l then [] else end tag ∷ []))
          ≡ map (octet (modulo_2_64 tag)) payload ++ (if l then [] else end (modulo_2_64 tag) ∷ [])
      modulo-frame true = modulo-octets payload []
      modulo-frame false = modulo-octets payload (end tag ∷ [])

      rest : (tag : Tag) (xs ys : List ℕ) (e more : List Mark) → (map (octet tag) xs ++ []) ++ ((map (octet tag) ys ++ e) ++ more) ≡ (map (octet tag) (xs ++ ys) ++ e) ++ more
      rest tag [] ys e more = refl
      rest tag (x ∷ xs) ys e more = ap (λ (l : List Mark). octet tag x ∷ l) (rest tag xs ys e more)

      all-taken : (n : ℕ) (xs : List ℕ) → length xs ≤ n → take n xs ≡ xs
      all-taken zero [] p = refl
      all-taken zero (x ∷ xs) p = absurd (omega (arith, p))
      all-taken (suc n) [] p = refl
      all-taken (suc n) (x ∷ xs) p = ap (λ (l : List ℕ). x ∷ l) (all-taken n xs (omega (arith, p)))

      of : (l : Bool) → nat_lt size (length octets) ≡ l
          → (map (octet message.tag) (take size octets) ++ (if l then [] else end message.tag ∷ []))
          ++ marks_of (if l then record { tag = message.tag; octets = drop size octets } ∷ ms else ms)
          ≡ marks_of (message ∷ ms)
      of true e = rest message.tag (take size octets) (drop size octets) (end message.tag ∷ []) (marks_of ms)
          ∙ ap (λ (os : List ℕ). (map (octet message.tag) os ++ end message.tag ∷ []) ++ marks_of ms) (take-append-drop size octets)
      of false e = ap (λ (os : List ℕ). (map (octet message.tag) os ++ end message.tag ∷ []) ++ marks_of ms)
          (all-taken size octets (let n : (size < length octets → ⊥) = (λ p. absurd (let f : true ≡ false = sym (lt-yes p) ∙ e in cc)) in at-most n))
        where
          lt-yes : size < length octets → nat_lt size (length octets) ≡ true
          lt-yes p = grind (arith, nat_tests, p)

          at-most : (size < length octets → ⊥) → length octets ≤ size
          at-most n = grind (arith, n)

  -- those that are left have their tags
  pub tagged-next : (reply : ℕ) → IsTagged own-first reply (message ∷ ms)
      → IsTagged own-next (if nat_lt size (length octets) then reply else (if ends_reply k then reply + 1 else reply)) (left_of size message ms)
  tagged-next reply t = rw own-step (of (nat_lt size (length octets)))
    where
      of : (l : Bool) → IsTagged (if l then own-first else (if is_msg k then own-first + 1 else own-first)) (if l then reply else (if ends_reply k then reply + 1 else reply))
          (if l then record { tag = message.tag; octets = drop size octets } ∷ ms else ms)
      of true = t
      of false = t.1

  -- ---- the place of the oldest received request that waits, after the frame

  waits-kept : life.received.waiting ≡ length (waiting Side.Received past)
  waits-kept = ap (λ (kept : Kept). kept.waiting) stands.received

  pub reply-step : length (requests Side.Received past) - new-life.received.waiting
      ≡ (if nat_lt size (length octets) then length (requests Side.Received past) - life.received.waiting
      else (if ends_reply k then length (requests Side.Received past) - life.received.waiting + 1 else length (requests Side.Received past) - life.received.waiting))
  reply-step =
      let s : Sound Side.Received past = sound Side.Received past stands.unbroken in
      let counted : length (waiting Side.Received past) ≡ length (requests Side.Received past) - s.oldest = count-waiting Side.Received past s in
      let few : life.received.waiting ≤ length (requests Side.Received past) = (let w = waits-kept in omega (arith, w, counted)) in
      of k (nat_lt size (length octets)) (length (requests Side.Received past) - life.received.waiting) few refl
      (λ r. reply-waits life.sent life.received ansno place octets ms count owed k fits r)
    where
      of : (k : Kind) (l : Bool) (reply : ℕ) → life.received.waiting ≤ length (requests Side.Received past) → reply ≡ length (requests Side.Received past) - life.received.waiting
          → (is_reply k ≡ true → 0 < life.received.waiting)
          → length (requests Side.Received past) - (if is_reply k then replied_kept life.received (head_of k channel (next_number count k life.sent life.received) l seqno size ansno) else life.received).waiting
          ≡ (if l then reply else (if ends_reply k then reply + 1 else reply))
      of Kind.Msg true reply few e p = sym e
      of Kind.Msg false reply few e p = sym e
      of Kind.Rpy true reply few e p = sym e
      of Kind.Rpy false reply few e p = let q : 0 < life.received.waiting = p refl in omega (arith, few, e, q)
      of Kind.Err true reply few e p = sym e
      of Kind.Err false reply few e p = let q : 0 < life.received.waiting = p refl in omega (arith, few, e, q)
      of Kind.Ans true reply few e p = sym e
      of Kind.Ans false reply few e p = sym e
      of Kind.Nul true reply few e p = sym e
      of Kind.Nul false reply few e p = let q : 0 < life.received.waiting = p refl in omega (arith, few, e, q)

  pub number-of-new : begins_request Side.Sent past head ≡ true → head.msgno ≡ count % 2 ^ 31
  number-of-new e = numbered life.sent life.received channel seqno size ansno place octets ms count owed k fits is_cut (begins-is ∙ e)

  -- whether a request begins, as the code tells it
  pub count-as-told : count_after count life.sent head ≡ (if is_msg k && not (was_more life.sent) then count + 1 else count)
  count-as-told = ⊎_elim
      (λ w. ap (λ (b : Bool). if b then count + 1 else count) (whole-begins life.sent life.received channel seqno size ansno place octets ms count owed k fits is_cut w.complete ∙ sym (rw w.complete (and-true (is_msg k)))))
      (λ b. let g = parts b in ap (λ (b : Bool). if b then count + 1 else count) (begun-begins life.sent life.received channel seqno size ansno place octets ms count owed k fits is_cut g ∙ sym (rw (g.last, g.more) (and-false (is_msg k)))))
      fits.first
    where
      and-true : (b : Bool) → (b && true) ≡ b
      and-true true = refl
      and-true false = refl

      and-false : (b : Bool) → (b && false) ≡ false
      and-false true = refl
      and-false false = refl
