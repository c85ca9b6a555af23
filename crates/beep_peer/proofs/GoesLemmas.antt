-- A frame that goes out leaves what is left to say ready to go.
use Rattle.std.proofs.Common.{◌≡◌, ℕ, ◌≤◌, ◌==◌, Bool, true, false, not, ◌&&◌, if◌then◌else◌, List, [], ◌∷◌, ◌++◌, map, Some, refl, sym, ap, ◌∙◌, subst, arith}
use Rattle.beep_upright.specs.beep_frame.specs.declared.head.Head.{Head}
use Rattle.beep_upright.specs.beep_frame.specs.declared.kind.Kind.{Kind}
use Rattle.beep_upright.specs.beep_frame.specs.declared.tag.Tag.{Tag}
use Rattle.beep_upright.specs.beep_history.specs.declared.journal.Side.{Side}
use Rattle.beep_upright.specs.beep_history.specs.Journal.{Item, began, passed}
use Rattle.beep_upright.specs.beep_history.specs.Marks.{Mark, octet, end, frame_marks, tag_of, mark_modulo_2_64}
use Rattle.beep_upright.specs.beep_history.specs.Broken.{KeepsExchangeRules}
use Rattle.beep_upright.specs.beep_journal.specs.Zero.{zero_history}
use Rattle.beep_upright.specs.beep_journal.specs.Life.{history, life, life_now}
use Rattle.beep_upright.specs.beep_outbox.specs.Queue.{Message, marks_of}
use Rattle.beep_upright.specs.beep_channel.specs.Held.{Held, Live, is_held_ready, queue_ready, next_head, next_size, head_from}
use Rattle.beep_upright.specs.beep_channel.specs.Fits.{as_number}
use Rattle.beep_upright.specs.beep_channel.specs.Stands.{Stands, IsNext}
use Rattle.beep_upright.specs.beep_lives.specs.Lives.{live_at}
use Rattle.beep_upright.specs.beep_lives.specs.Edits.{Edits, Sends}
use Rattle.beep_upright.specs.beep_standing.specs.Standing.{Marks, AreLiveBy}
use Rattle.beep_upright.specs.beep_standing.proofs.DueLemmas.{sent-there, sent-next}
use Rattle.beep_upright.specs.beep_spoken.specs.Spoken.{kinds_of}
use Rattle.beep_upright.specs.beep_lawful.specs.declared.terms.Terms.{Terms}
use Rattle.beep_upright.specs.beep_management.specs.Managed.{Managed}
use Rattle.beep_upright.specs.beep_management.specs.Manages.{Manages}
use Rattle.beep_upright.specs.Turns.{kinds_in, kinds_at}
use Rattle.beep_upright.specs.Upright.{asked_in, asked_at, AreReady, IsUpright}
use Rattle.beep_upright.proofs.TestLemmas.{equal-number}
use Rattle.beep_upright.proofs.SeqLemmas.{stands-by}
use Rattle.beep_upright.proofs.HeadLemmas.{some-asked}
use Rattle.beep_upright.proofs.ReadyLemmas.{less-asked}
use Rattle.beep_upright.proofs.SentLemmas.{frame-sent, part-sent}
use Rattle.beep_peer.specs.Lawfully.{GoesUprightly}
use Rattle.beep_peer.proofs.KindsLemmas.{kinds-append, kinds-modulo, queue-kinds, at-edit, upright-same}

-- the message that ends with the marks of a frame
octets-none : (tag : Tag) (payload : List ℕ) (rest : List Mark) → kinds_of (map (octet tag) payload ++ rest) ≡ kinds_of rest
octets-none tag [] rest = refl
octets-none tag (value ∷ payload) rest = octets-none tag payload rest

end-kinds : (tag : Tag) (more : Bool) → kinds_of (if more then [] else end tag ∷ []) ≡ (if more then [] else tag.kind ∷ [])
end-kinds tag true = refl
end-kinds tag false = refl

frame-kinds : (tag : Tag) (head : Head) (payload : List ℕ) → kinds_of (frame_marks tag head payload) ≡ (if head.more then [] else tag.kind ∷ [])
frame-kinds tag head payload = octets-none tag payload (if head.more then [] else end tag ∷ []) ∙ end-kinds tag head.more

-- the next frame is of the first message
first-kind : (most : ℕ) (c : Held) → is_held_ready c ≡ true → (others : List Kind) × (map (λ (m : Message). m.tag.kind) c.queue ≡ (next_head most c).kind ∷ others)
first-kind most c ready = of c.queue ready
  where
    of : (queue : List Message) → queue_ready c.sends.room queue ≡ true
        → (others : List Kind)
        × (map (λ (m : Message). m.tag.kind) queue ≡ (head_from (next_size most c.sends.room queue) queue c.number c.seqno c.life.sent c.life.received).kind ∷ others)
    of [] e = cc
    of (m ∷ ms) e = (map (λ (m : Message). m.tag.kind) ms, refl)

module _ (terms : Terms) (most : ℕ) (journal : List Item) (given taken : Marks) (old new : List Live) (head : Head) (payload : List ℕ) (m : Managed)
    (s : AreLiveBy terms.window journal given taken old) (e : Edits head.channel (Sends most head payload) old new) (x : Manages terms.window journal given m)
    (u : IsUpright terms journal old m) where
  next : IsNext terms.window most e.before.held e.after.held (history head.channel journal) (given head.channel) (taken head.channel) head payload
  next = sent-next terms.window most journal given taken old new head payload s e

  t : Stands terms.window e.before.held (history head.channel journal) (given head.channel) (taken head.channel)
  t = stands-by terms.window journal given taken old s head.channel e.before e.was

  asks-kept : e.after.held.life.given.asked ≡ e.before.held.life.given.asked
  asks-kept =
      let a = next.stands.counted.asked in let b = t.counted.asked in
      let n : as_number (e.after.held.number == 0) ≡ as_number (e.before.held.number == 0) = ap (λ (k : ℕ). as_number (k == 0)) e.step.same.number in
      omega (arith, a, b, n)

  asks-same : (n : ℕ) → asked_at new n ≡ asked_at old n
  asks-same n = at-edit asked_in head.channel (Sends most head payload) old new e asks-kept n

  queues : (if head.more then [] else head.kind ∷ []) ++ map (λ (m : Message). m.tag.kind) e.after.held.queue ≡ map (λ (m : Message). m.tag.kind) e.before.held.queue
  queues =
      ap (λ (ks : List Kind). ks ++ map (λ (m : Message). m.tag.kind) e.after.held.queue)
      (sym (kinds-modulo (frame_marks (tag_of Side.Sent (began Side.Sent head ∷ history head.channel journal) head) head payload)
      ∙ frame-kinds (tag_of Side.Sent (began Side.Sent head ∷ history head.channel journal) head) head payload))
      ∙ ap (λ (ks : List Kind). kinds_of (map mark_modulo_2_64 (frame_marks (tag_of Side.Sent (began Side.Sent head ∷ history head.channel journal) head) head payload)) ++ ks)
      (sym (queue-kinds e.after.held.queue))
      ∙ sym (kinds-append (map mark_modulo_2_64 (frame_marks (tag_of Side.Sent (began Side.Sent head ∷ history head.channel journal) head) head payload)) (marks_of e.after.held.queue))
      ∙ ap kinds_of next.marks ∙ queue-kinds e.before.held.queue

  module _ (zero : (head.channel == 0) ≡ true) where
    old-kinds : kinds_at 0 old ≡ map (λ (m : Message). m.tag.kind) e.before.held.queue
    old-kinds = ap kinds_in (subst (λ (k : ℕ). live_at k old ≡ Some e.before) (equal-number head.channel 0 zero) e.was)

    new-kinds : kinds_at 0 new ≡ map (λ (m : Message). m.tag.kind) e.after.held.queue
    new-kinds = ap kinds_in (e.at 0 ∙ ap (λ (b : Bool). if b then Some e.after else live_at 0 old) zero)

    kinds-now : kinds_at 0 old ≡ (if head.more then [] else head.kind ∷ []) ++ kinds_at 0 new
    kinds-now = old-kinds ∙ sym queues ∙ ap (λ (ks : List Kind). (if head.more then [] else head.kind ∷ []) ++ ks) (sym new-kinds)

    keeps : KeepsExchangeRules (began Side.Sent head ∷ zero_history journal)
    keeps =
        (subst (λ (p : List Item). KeepsExchangeRules (passed Side.Sent head payload ∷ began Side.Sent head ∷ p))
        (ap (λ (b : Bool). if b then zero_history journal else life head.channel (life_now head.channel journal) journal) zero) next.stands.held.exchange.unbroken).2

    unsent : (others : List Kind) × (kinds_at 0 old ≡ head.kind ∷ others)
    unsent =
        let f = first-kind most e.before.held e.step.ready in
        (f.0, old-kinds ∙ f.1 ∙ ap (λ (h : Head). h.kind ∷ f.0) (sym e.step.is))

  abbrev whole : List Item
  whole = passed Side.Sent head payload ∷ began Side.Sent head ∷ journal

  less : (n : ℕ) → (n == 0) ≡ false → asked_at new n ≤ asked_at old n
  less n above = let same = asks-same n in omega (arith, same)

  quiet-goes : (head.channel == 0 && not head.more) ≡ false → IsUpright terms whole new m
  quiet-goes quiet = of (head.channel == 0) refl head.more refl
    where
      of : (z : Bool) → (head.channel == 0) ≡ z → (more : Bool) → head.more ≡ more → IsUpright terms whole new m
      of false above more is =
          upright-same terms whole old new m (ap kinds_in (e.at 0 ∙ ap (λ (b : Bool). if b then Some e.after else live_at 0 old) above)) less
          (frame-sent terms journal (kinds_at 0 old) (asked_at old) m x.is.theirs u head payload quiet above
          (sent-there terms.window most journal given taken old new head payload s e)
          (λ begins.
          let some = some-asked terms.window most e.before.held e.after.held (history head.channel journal) (given head.channel) (taken head.channel) head payload next
          next.stands.held.exchange.unbroken.2.2 begins in
          let here : asked_at old head.channel ≡ e.before.held.life.given.asked = ap asked_in e.was in
          omega (arith, some, here, asks-kept)))
      of true zero true is =
          upright-same terms whole old new m (sym (kinds-now zero ∙ ap (λ (b : Bool). (if b then [] else head.kind ∷ []) ++ kinds_at 0 new) is)) less
          (part-sent terms journal (kinds_at 0 old) (asked_at old) m x.is.theirs u head payload quiet zero (keeps zero) x.is.mine (unsent zero).0 (unsent zero).1)
      of true zero false is = absurd (let g : true ≡ false = sym (rw (zero, is) refl) ∙ quiet in cc)

  pub goes-uprightly : GoesUprightly terms journal head payload new m
  goes-uprightly = record {
    quiet = quiet-goes;
    ends = λ ends. less-asked terms journal (head.kind ∷ kinds_at 0 new) (asked_at old) (asked_at new) m less
        (subst (λ (ks : List Kind). AreReady terms journal ks (asked_at old) m)
        (kinds-now (one (head.channel == 0) (not head.more) ends) ∙ ap (λ (b : Bool). (if b then [] else head.kind ∷ []) ++ kinds_at 0 new) (last (head.channel == 0) head.more ends)) u);
  }
    where
      one : (a b : Bool) → (a && b) ≡ true → a ≡ true
      one true b e = refl
      one false b e = e

      last : (a b : Bool) → (a && not b) ≡ true → b ≡ false
      last true true e = cc
      last true false e = refl
      last false b e = cc
