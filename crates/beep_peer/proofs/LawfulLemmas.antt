-- What goes out of a peer that stands for a lawful journal leaves it lawful.
use Rattle.std.proofs.Common.{◌≡◌, ℕ, suc, ◌+◌, ◌-◌, not, ◌<◌, ◌≤◌, ◌==◌, Bool, true, false, List, [], ◌∷◌, length, map, Option, refl, sym, ap, ◌∙◌, subst, arith}
use Rattle.std.proofs.lemmas.Bool.Decides.{nat_tests}
use Rattle.std.specs.Prelude.{slice_get}
use Rattle.beep_upright.specs.beep_frame.specs.declared.head.Head.{Head}
use Rattle.beep_upright.specs.beep_frame.specs.declared.seq.Seq.{Seq}
use Rattle.beep_upright.specs.beep_frame.specs.declared.limits.TheConstants.{MAX_PAYLOAD}
use Rattle.beep_upright.specs.beep_history.specs.declared.journal.Side.{Side}
use Rattle.beep_upright.specs.beep_history.specs.Journal.{Item, began, passed, told}
use Rattle.beep_upright.specs.beep_journal.specs.Zero.{zero_history, zero_events, asked}
use Rattle.beep_upright.specs.beep_journal.specs.Lives.{Event}
use Rattle.beep_upright.specs.beep_mgmt.specs.Form.{Form}
use Rattle.beep_upright.specs.beep_journal.specs.Broken.{none_tunes}
use Rattle.beep_upright.specs.beep_journal.specs.Life.{is_released}
use Rattle.beep_upright.specs.beep_channel.specs.Held.{Live}
use Rattle.beep_upright.specs.beep_lives.specs.Edits.{Tells}
use Rattle.beep_upright.specs.beep_standing.specs.Standing.{Marks}
use Rattle.beep_upright.specs.beep_decide.specs.Asks.{is_greeted as is_greeted_by}
use Rattle.beep_upright.specs.beep_lawful.specs.declared.terms.Terms.{Terms}
use Rattle.beep_upright.specs.beep_lawful.specs.Lawful.{IsLawful}
use Rattle.beep_upright.specs.beep_asked.specs.Kept.{Kept, oldest}
use Rattle.beep_upright.specs.beep_asked.specs.Asked.{AreAsked, AreWaiting}
use Rattle.beep_upright.specs.beep_speaking.specs.declared.emit.Emit.{Emit}
use Rattle.beep_upright.specs.beep_speaking.specs.Emits.{Emits, SendsNext}
use Rattle.beep_upright.specs.Turns.{kinds_in}
use Rattle.beep_upright.specs.Upright.{asked_in, IsUpright}
use Rattle.beep_upright.proofs.TestLemmas.{is-less}
use Rattle.beep_upright.proofs.SeqLemmas.{seq-lawful}
use Rattle.beep_upright.proofs.HeadLemmas.{head-lawful}
use Rattle.beep_upright.proofs.FrameLemmas.{frame-lawful}
use Rattle.beep_upright.proofs.LawLemmas.{with-seq, with-frame}
use Rattle.beep_upright.proofs.StillLemmas.{seq-passes}
use Rattle.beep_peer.specs.declared.peer.Peer.{Peer}
use Rattle.beep_peer.specs.Peering.{is_greeted, is_met}
use Rattle.beep_peer.specs.Calls.{IsSent}
use Rattle.beep_peer.specs.Lawfully.{IsLawfulPeer, SpeaksLawfully}
use Rattle.beep_peer.proofs.SpeakLemmas.{seq-speaks}
use Rattle.beep_peer.proofs.KindsLemmas.{at-edit, upright-same}

-- ---- the own greeting

asked-within : (es : List Event) (requests : List Kept) (forms : List (Option Form)) → AreAsked Side.Received es requests forms → length requests ≤ length forms
asked-within es [] forms a = omega arith
asked-within es (kept ∷ requests) [] a = absurd a
asked-within es (kept ∷ requests) (form ∷ forms) a = let h = asked-within es requests forms a.1 in omega (arith, h)

oldest-more : (kept one : Kept) (others : List Kept) → oldest (kept ∷ one ∷ others) ≡ oldest (one ∷ others)
oldest-more kept one others =
    ap (slice_get (kept ∷ one ∷ others)) (let e : length (kept ∷ one ∷ others) - 1 ≡ suc (length others) = omega arith in e)
    ∙ ap (slice_get (one ∷ others)) (let e : length others ≡ length (one ∷ others) - 1 = omega arith in e)

-- where the oldest of these requests isn't the implied one, fewer wait than were asked
oldest-place : (es : List Event) (requests : List Kept) (forms : List (Option Form)) → AreAsked Side.Received es requests forms → is_met (oldest requests) ≡ true
    → 0 < length forms → length requests < length forms
oldest-place es [] forms a met some = some
oldest-place es (kept ∷ []) [] a met some = absurd a
oldest-place es (kept ∷ []) (form ∷ forms) a met some = of (length forms == 0) refl
  where
    of : (b : Bool) → (length forms == 0) ≡ b → length (kept ∷ []) < length (form ∷ forms)
    of true is = absurd (let e : false ≡ true = sym (ap not (a.0.implied ∙ is)) ∙ met in cc)
    of false is = above (length forms) is
      where
        above : (n : ℕ) → (n == 0) ≡ false → 1 < suc n
        above n e = grind (arith, nat_tests)
oldest-place es (kept ∷ one ∷ others) [] a met some = absurd a
oldest-place es (kept ∷ one ∷ others) (form ∷ forms) a met some =
    let w = asked-within es (one ∷ others) forms a.1 in
    let h = oldest-place es (one ∷ others) forms a.1 (ap is_met (sym (oldest-more kept one others)) ∙ met) (omega (arith, w)) in omega (arith, h)

pub greeted-by : (journal : List Item) (requests : List Kept) → AreWaiting Side.Received (zero_history journal) requests → is_met (oldest requests) ≡ true
    → is_greeted_by journal ≡ true
greeted-by journal requests w met =
    let less = oldest-place (zero_events (zero_history journal)) requests (asked Side.Received (zero_history journal)) w.asked met w.begun in
    w.answered 0 ∙ is-less (0 + length requests) (length (asked Side.Received (zero_history journal))) (omega (arith, less))

-- ---- what goes out

module _ (terms : Terms) (fed rest : List ℕ) (journal : List Item) (given taken : Marks) (peer : Peer) (s : IsLawfulPeer terms fed rest journal given taken peer)
    (most : ℕ) (new : List Live) (before after : List ℕ) (going : peer.released ≡ false) where
  goes-on : is_released journal ≡ false
  goes-on = sym s.stands.released ∙ going

  pub seq-lawfully : (seq : Seq) (greeted : Bool) → greeted ≡ is_greeted peer.management → Emits most greeted (Emit.Seq seq) peer.lives new before after
      → SpeaksLawfully (Emit.Seq seq) terms fed rest journal given taken peer (record peer { lives = new }) before after
  seq-lawfully seq greeted is w = (
    w.1.spelled,
    record {
      stands = (seq-speaks terms.window most fed rest journal given taken peer new before after s.stands seq greeted w).2;
      upright =
          upright-same terms (told Side.Sent seq ∷ journal) peer.lives new peer.management
          (at-edit kinds_in seq.channel (Tells seq) peer.lives new w.1.tells (ap (λ h. map (λ m. m.tag.kind) h.queue) w.1.tells.step.held) 0)
          (λ n above. let same = at-edit asked_in seq.channel (Tells seq) peer.lives new w.1.tells (ap (λ h. h.life.given.asked) w.1.tells.step.held) n in omega (arith, same))
          (seq-passes terms journal _ _ peer.management s.stands.holds.manages.is.theirs s.upright Side.Sent seq);
      lawful =
          with-seq terms none_tunes journal s.lawful seq
          (seq-lawful terms journal given taken peer.lives new seq s.stands.holds.live w.1.tells
          (greeted-by journal peer.management.theirs.requests s.stands.holds.manages.is.theirs (sym is ∙ w.0)) s.lawful s.upright.idle goes-on);
    },
  )

  pub frame-lawfully : (head : Head) (w : SendsNext most head peer.lives new before after) → most ≤ terms.piece → terms.piece ≤ MAX_PAYLOAD
      → IsLawful terms none_tunes (passed Side.Sent head w.payload ∷ began Side.Sent head ∷ journal)
  frame-lawfully head w piece fits =
      let x = s.stands.holds.manages in
      with-frame terms none_tunes journal s.lawful head w.payload
      (head-lawful terms most journal given taken peer.lives new head w.payload peer.management s.stands.holds.live w.sends x.spoken x.prepared x.is s.upright goes-on piece fits)
      (frame-lawful terms most journal given taken peer.lives new head w.payload peer.management s.stands.holds.live w.sends x.spoken x.prepared x.is s.upright goes-on)

  pub data-lawfully : (head : Head) (later : Peer) (w : SendsNext most head peer.lives new before after) → most ≤ terms.piece → terms.piece ≤ MAX_PAYLOAD
      → IsSent terms.window fed rest journal (passed Side.Sent head w.payload ∷ began Side.Sent head ∷ journal) given taken peer.management.answers later
      → IsUpright terms (passed Side.Sent head w.payload ∷ began Side.Sent head ∷ journal) later.lives later.management
      → SpeaksLawfully (Emit.Data head) terms fed rest journal given taken peer later before after
  data-lawfully head later w piece fits sent upright = record {
    payload = w.payload;
    spelled = w.spelled;
    sent = sent;
    upright = upright;
    lawful = frame-lawfully head w piece fits;
  }

pub nothing-lawfully : (terms : Terms) (fed rest : List ℕ) (journal : List Item) (given taken : Marks) (peer : Peer) → IsLawfulPeer terms fed rest journal given taken peer
    → (most : ℕ) (new : List Live) (before after : List ℕ) (greeted : Bool) → Emits most greeted Emit.Nothing peer.lives new before after
    → SpeaksLawfully Emit.Nothing terms fed rest journal given taken peer (record peer { lives = new }) before after
nothing-lawfully terms fed rest journal given taken peer s most new before after greeted w =
    (w.3, subst (λ (ch : List Live). IsLawfulPeer terms fed rest journal given taken (record peer { lives = ch })) (sym w.2) s)
