-- What goes out of a peer, for every journal for which it stood.
use Rattle.std.proofs.Common.{◌≡◌, ℕ, ◌+◌, ◌≤◌, ◌==◌, Bool, true, false, not, ◌&&◌, ◌||◌, List, ◌∷◌, length, inl, refl, sym, ap, ◌∙◌, subst}
use Rattle.std.proofs.Math.Logic.{∥∥₁_elim, ∥∥₁_map}
use denote.Struct.Props.{props}
use Rattle.std.proofs.lemmas.List.{length-map}
use Rattle.std.proofs.lemmas.Bool.{eqb-false, ne_eqb}
use Rattle.beep_upright.specs.beep_frame.specs.declared.head.Head.{Head}
use Rattle.beep_upright.specs.beep_frame.specs.declared.seq.Seq.{Seq}
use Rattle.beep_upright.specs.beep_history.specs.declared.journal.Side.{Side}
use Rattle.beep_upright.specs.beep_history.specs.Journal.{Item, began, passed, told}
use Rattle.beep_upright.specs.beep_journal.specs.Zero.{events}
use Rattle.beep_upright.specs.beep_journal.specs.Lives.{Event, is_live, has_release}
use Rattle.beep_upright.specs.beep_journal.specs.Life.{history, is_there, is_released}
use Rattle.beep_upright.specs.beep_channel.specs.Held.{Live}
use Rattle.beep_upright.specs.beep_turns.specs.declared.turns.TheConstants.{MAX_CHANNELS}
use Rattle.beep_upright.specs.beep_lives.specs.Lives.{numbers, can_send, owes_seq}
use Rattle.beep_upright.specs.beep_lives.specs.Edits.{Sends, Tells}
use Rattle.beep_upright.specs.beep_standing.specs.Standing.{Marks, AreLiveBy}
use Rattle.beep_upright.specs.beep_standing.specs.Due.{has_due, has_ready}
use Rattle.beep_upright.specs.beep_standing.proofs.LivesLemmas.{lives-stay}
use Rattle.beep_upright.specs.beep_standing.proofs.ZeroLemmas.{part-none}
use Rattle.beep_upright.specs.beep_standing.proofs.SendLemmas.{sent-joins, sent-zero-joins, sent-seq-joins}
use Rattle.beep_upright.specs.beep_standing.proofs.DueLemmas.{sent-next, told-due, none-by, channel-due, channel-ready}
use Rattle.beep_hearing.specs.declared.ear.Ear.{Ear}
use Rattle.beep_hearing.specs.Hears.{Hears, IsZeroTaken, SameAbove, ends_zero}
use Rattle.beep_hearing.proofs.RoomLemmas.{room-edit}
use Rattle.beep_upright.specs.beep_management.specs.Managed.{Managed}
use Rattle.beep_upright.specs.beep_management.proofs.ItemLemmas.{header-stays, seq-stays}
use Rattle.beep_upright.specs.beep_speaking.specs.declared.emit.Emit.{Emit}
use Rattle.beep_upright.specs.beep_speaking.specs.Emits.{Emits, SendsNext, IsReached}
use Rattle.beep_peer.specs.declared.peer.Peer.{Peer}
use Rattle.beep_peer.specs.Peering.{AreFew, Holds, IsPeer, Carries, AreHeld, IsGoing, is_greeted}
use Rattle.beep_peer.specs.Calls.{AreLeft, LetsGo, HasGone, IsDone, HasSent, IsSent, Speaks}
use Rattle.beep_peer.specs.Waiting.{AreLetGo, KeepsAbove}
use Rattle.beep_peer.proofs.LetLemmas.{gives-first}
use Rattle.beep_peer.proofs.GainLemmas.{quiet-events, quiet-managed}
use Rattle.beep_peer.proofs.SentItemLemmas.{deaf-header, deaf-frame, deaf-seq, deaf-hears, deaf-zero}

zero-apart : (n : ℕ) → (n == 0) ≡ false → (0 == n) ≡ false
zero-apart n e = ne_eqb 0 n (λ same. eqb-false n 0 e (sym same))

not-zero : (n : ℕ) (b : Bool) → ((n == 0) || b) ≡ false → (n == 0) ≡ false
not-zero n b e = of (n == 0) e
  where
    of : (x : Bool) → (x || b) ≡ false → x ≡ false
    of true e = cc
    of false e = refl

-- ---- what is carried on

-- nothing begins or ends, and all stays
pub carries-same : (before after : List Item) (marks : Marks) → ((n : ℕ) → is_there n after ≡ is_there n before) → Carries before after marks marks
carries-same before after marks same = record {
  same = λ n above there. refl;
  fresh = λ n none some. absurd (let e : true ≡ false = sym some ∙ same n ∙ none in cc);
}

-- more is given to channel zero alone
pub carries-above : (before after : List Item) (old now later : Marks) → Carries before after old now → SameAbove now later → Carries before after old later
carries-above before after old now later c above = record {
  same = λ n not_zero there. above n (zero-apart n not_zero) ∙ c.same n not_zero there;
  fresh = λ n none some. above n (zero-apart n (not-zero n (is_live n (events before)) none)) ∙ c.fresh n none some;
}

-- as many channels are there, where their numbers stay in their order
pub few-ordered : (old new : List Live) (m : Managed) → numbers new ≡ numbers old → AreFew old m → AreFew new m
few-ordered old new m order few =
    let same : length new ≡ length old = sym (length-map new (λ (c : Live). c.held.number)) ∙ ap (λ (ns : List ℕ). length ns) order ∙ length-map old (λ (c : Live). c.held.number) in
    subst (λ (k : ℕ). k + (length m.starting + length m.granted) ≤ MAX_CHANNELS + 1) (sym same) few

left_of : (a b : Bool) → (a && b) ≡ true → a ≡ true
left_of true b e = refl
left_of false b e = cc

right_of : (a b : Bool) → (a && b) ≡ true → b ≡ true
right_of true b e = e
right_of false b e = cc

not-true : (a : Bool) → not a ≡ true → a ≡ false
not-true true e = cc
not-true false e = refl

-- ---- a SEQ

module _ (size most : ℕ) (fed rest : List ℕ) (journal : List Item) (given taken : Marks) (peer : Peer) (new : List Live) (before after : List ℕ)
    (s : IsPeer size fed rest journal given taken peer) where
  pub seq-speaks : (seq : Seq) (greeted : Bool) → Emits most greeted (Emit.Seq seq) peer.lives new before after
      → Speaks (Emit.Seq seq) size most fed rest journal given taken peer (record peer { lives = new }) before after
  seq-speaks seq greeted w = (
    w.1.spelled,
    told-due size journal given taken peer.lives new seq s.holds.live w.1.tells,
    record {
      hears = deaf-hears (told Side.Sent seq) journal fed rest peer.ear (deaf-seq seq journal) s.hears;
      holds = record {
        live = sent-seq-joins size journal given taken peer.lives new seq s.holds.live w.1.tells;
        zero = deaf-zero (told Side.Sent seq) journal taken (deaf-seq seq journal) s.holds.zero;
        manages = seq-stays size journal given peer.management Side.Sent seq s.holds.manages;
        few = few-ordered peer.lives new peer.management w.1.tells.order s.holds.few;
        room = room-edit seq.channel (Tells seq) peer.lives new (λ b a t. t.keeps) w.1.tells _ _ s.holds.room;
      };
      released = s.released ∙ ap has_release (sym (quiet-events journal (told Side.Sent seq) refl));
    },
  )

  pub nothing-speaks : (greeted : Bool) → Emits most greeted Emit.Nothing peer.lives new before after → greeted ≡ is_greeted peer.management
      → Speaks Emit.Nothing size most fed rest journal given taken peer (record peer { lives = new }) before after
  nothing-speaks greeted w is = (
    rw w.2 refl,
    w.3,
    λ greets. (none-by size journal given taken peer.lives s.holds.live owes_seq (λ (n : ℕ). has_due size (taken n) (history n journal))
        (channel-due size journal given taken peer.lives s.holds.live)).0 (w.0 (is ∙ greets)),
    (none-by size journal given taken peer.lives s.holds.live can_send (λ (n : ℕ). has_ready (given n) (history n journal))
        (channel-ready size journal given taken peer.lives s.holds.live)).0 w.1,
  )

  -- ---- a frame

  pub has-sent : (head : Head) (w : SendsNext most head peer.lives new before after) → HasSent size journal given taken head w.payload new peer.management
  has-sent head w = record {
    above = λ above. sent-joins size most journal given taken peer.lives new head w.payload s.holds.live w.sends above;
    at_zero = λ zero. sent-zero-joins size most journal given taken peer.lives new head w.payload s.holds.live w.sends zero;
    zero = s.holds.zero;
    manages = s.holds.manages;
    few = few-ordered peer.lives new peer.management w.sends.order s.holds.few;
    room = room-edit head.channel (Sends most head w.payload) peer.lives new (λ b a t. t.keeps) w.sends _ _ s.holds.room;
  }

  pub data-speaks : (head : Head) (later : Peer) (w : SendsNext most head peer.lives new before after)
      → IsSent size fed rest journal (passed Side.Sent head w.payload ∷ began Side.Sent head ∷ journal) given taken peer.management.answers later
      → Speaks (Emit.Data head) size most fed rest journal given taken peer later before after
  data-speaks head later w sent = (
    w.payload,
    w.spelled,
    record {
      old = w.sends.before.held;
      new = w.sends.after.held;
      next = sent-next size most journal given taken peer.lives new head w.payload s.holds.live w.sends;
    },
    sent,
  )

-- ---- a frame that went out

module _ (size : ℕ) (journal : List Item) (given taken : Marks) (head : Head) (payload : List ℕ) (peer : Peer)
    (s : HasSent size journal given taken head payload peer.lives peer.management) where
  abbrev begun : List Item
  begun = began Side.Sent head ∷ journal

  abbrev whole : List Item
  whole = passed Side.Sent head payload ∷ began Side.Sent head ∷ journal

  zero-whole : IsZeroTaken whole taken
  zero-whole = deaf-zero (passed Side.Sent head payload) begun taken (deaf-frame head payload begun)
      (deaf-zero (began Side.Sent head) journal taken (deaf-header head journal) s.zero)

  begun-events : events begun ≡ events journal
  begun-events = quiet-events journal (began Side.Sent head) refl

  pub gone-zero : ends_zero (passed Side.Sent head payload) ≡ true → HasGone size journal given taken head payload peer.lives peer.management
  gone-zero ends = record {
    zero_is = left_of (head.channel == 0) (not head.more) ends;
    last = not-true head.more (right_of (head.channel == 0) (not head.more) ends);
    live = s.at_zero (left_of (head.channel == 0) (not head.more) ends);
    zero = s.zero;
    manages = header-stays size journal given peer.management Side.Sent head s.manages;
    few = s.few;
    room = s.room;
  }

  -- one that ends no message of channel zero leaves all
  quiet-whole : ends_zero (passed Side.Sent head payload) ≡ false → events whole ≡ events journal
  quiet-whole quiet = quiet-events begun (passed Side.Sent head payload) quiet ∙ begun-events

  quiet-live : ends_zero (passed Side.Sent head payload) ≡ false → AreLiveBy size whole given taken peer.lives
  quiet-live quiet = of (head.channel == 0) refl head.more refl
    where
      of : (b : Bool) → (head.channel == 0) ≡ b → (m : Bool) → head.more ≡ m → AreLiveBy size whole given taken peer.lives
      of false e m part = s.above e
      of true e true part = lives-stay size begun given taken peer.lives (passed Side.Sent head payload) (s.at_zero e) (part-none Side.Sent head payload begun part) e
      of true e false last = absurd (let x : true ≡ false = sym (rw (e, last) refl) ∙ quiet in cc)

  pub quiet-holds : ends_zero (passed Side.Sent head payload) ≡ false → Holds size whole given taken peer.lives peer.management
  quiet-holds quiet = record {
    live = quiet-live quiet;
    zero = zero-whole;
    manages = quiet-managed begun size given peer.management (passed Side.Sent head payload) quiet
        (header-stays size journal given peer.management Side.Sent head s.manages);
    few = s.few;
    room = s.room;
  }

  module _ (fed rest : List ℕ) (h : Hears fed rest journal peer.ear) (r : peer.released ≡ is_released journal) where
    hears-whole : Hears fed rest whole peer.ear
    hears-whole = deaf-hears (passed Side.Sent head payload) begun fed rest peer.ear (deaf-frame head payload begun)
        (deaf-hears (began Side.Sent head) journal fed rest peer.ear (deaf-header head journal) h)

    -- answers were let go after it
    pub quiet-sent : (now : Peer) → ends_zero (passed Side.Sent head payload) ≡ false → now.ear ≡ peer.ear → now.released ≡ peer.released
        → LetsGo size whole given taken peer.management.answers now.lives now.management → AreLetGo peer.lives peer.management now.management
        → KeepsAbove peer.lives now.lives → IsSent size fed rest journal whole given taken peer.management.answers now
    quiet-sent now quiet ear released l a k = record {
      given_now = l.given_now;
      gives = gives-first size whole given taken given peer.lives peer.management peer.management.answers now refl (inl refl) l a k;
      taken_now = taken;
      given_is = carries-above journal whole given given l.given_now (carries-same journal whole given same) l.same;
      taken_is = carries-same journal whole taken same;
      stands = record {
        hears = subst (λ (e : Ear). Hears fed rest whole e) (sym ear) hears-whole;
        holds = l.holds;
        released = released ∙ r ∙ ap has_release (sym (quiet-whole quiet));
      };
    }
      where
        same : (n : ℕ) → is_there n whole ≡ is_there n journal
        same n = ap (λ (e : List Event). (n == 0) || is_live n e) (quiet-whole quiet)

    -- what it says is done, and then answers were let go
    pub gone-sent : (releases : Bool) (lives : List Live) (m : Managed) (now : Peer) → IsDone size begun whole given taken releases lives m
        → now.ear ≡ peer.ear → now.released ≡ (releases || peer.released)
        → ((given_now taken_now : Marks) → Holds size whole given_now taken_now lives m → LetsGo size whole given_now taken_now m.answers now.lives now.management)
        → AreLeft lives peer.management.answers m.answers → AreLetGo lives m now.management → KeepsAbove lives now.lives
        → IsSent size fed rest journal whole given taken peer.management.answers now
    gone-sent releases lives m now d ear released lets same a k =
        let l = lets d.given_now d.taken_now d.holds in
        record {
          given_now = l.given_now;
          gives = gives-first size whole d.given_now d.taken_now given lives m peer.management.answers now d.zero_is same l a k;
          taken_now = d.taken_now;
          given_is = carries-above journal whole given d.given_now l.given_now (from-begun given d.given_now d.given_is) l.same;
          taken_is = from-begun taken d.taken_now d.taken_is;
          stands = record {
            hears = subst (λ (e : Ear). Hears fed rest whole e) (sym ear) hears-whole;
            holds = l.holds;
            released = released ∙ ap (λ (b : Bool). releases || b) (r ∙ ap has_release (sym begun-events)) ∙ sym d.releases;
          };
        }
      where
        there : (n : ℕ) → is_there n begun ≡ is_there n journal
        there n = ap (λ (e : List Event). (n == 0) || is_live n e) begun-events

        from-begun : (old new : Marks) → Carries begun whole old new → Carries journal whole old new
        from-begun old new c = record {
          same = λ n not_zero is. c.same n not_zero (there n ∙ is);
          fresh = λ n none some. c.fresh n (there n ∙ none) some;
        }

-- ---- that there is a journal

pub held-lives : (size : ℕ) (peer : Peer) → IsGoing size peer → IsReached peer.lives
held-lives size peer held =
    ∥∥₁_map {A = (fed : List ℕ) × (rest : List ℕ) × (journal : List Item) × (given : Marks) × (taken : Marks) × IsPeer size fed rest journal given taken peer}
    {B = (size : ℕ) × (journal : List Item) × (given : Marks) × (taken : Marks) × AreLiveBy size journal given taken peer.lives}
    held (λ s. (size, s.2, s.3, s.4, s.5.holds.live))

pub sent-reached : (most : ℕ) (head : Head) (peer : Peer) (new : List Live) (before after : List ℕ) → SendsNext most head peer.lives new before after
    → ∥ ((size : ℕ) × IsGoing size peer) ∥₁
    → ∥ ((size : ℕ) × (journal : List Item) × (given : Marks) × (taken : Marks) × (payload : List ℕ) × HasSent size journal given taken head payload new peer.management) ∥₁
sent-reached most head peer new before after w held = ∥∥₁_elim held (hlevel props) (λ g.
    ∥∥₁_map {A = (fed : List ℕ) × (rest : List ℕ) × (journal : List Item) × (given : Marks) × (taken : Marks) × IsPeer g.0 fed rest journal given taken peer}
    {B = (size : ℕ) × (journal : List Item) × (given : Marks) × (taken : Marks) × (payload : List ℕ) × HasSent size journal given taken head payload new peer.management}
    g.1 (λ s. (g.0, s.2, s.3, s.4, w.payload, has-sent g.0 most s.0 s.1 s.2 s.3 s.4 peer new before after s.5 head w)))

pub lives-reached : (peer : Peer) → ∥ ((size : ℕ) × IsGoing size peer) ∥₁ → IsReached peer.lives
lives-reached peer held = ∥∥₁_elim held (hlevel props) (λ g. held-lives g.0 peer g.1)

pub quiet-held : (head : Head) (peer : Peer) → ((payload : List ℕ) → ends_zero (passed Side.Sent head payload) ≡ false)
    → ∥ ((size : ℕ) × (journal : List Item) × (given : Marks) × (taken : Marks) × (payload : List ℕ) × HasSent size journal given taken head payload peer.lives peer.management) ∥₁
    → AreHeld peer.lives peer.management
quiet-held head peer quiet held =
    ∥∥₁_map {A = (size : ℕ) × (journal : List Item) × (given : Marks) × (taken : Marks) × (payload : List ℕ) × HasSent size journal given taken head payload peer.lives peer.management}
    {B = (size : ℕ) × (journal : List Item) × (given : Marks) × (taken : Marks) × Holds size journal given taken peer.lives peer.management}
    held (λ s. (s.0, passed Side.Sent head s.4 ∷ began Side.Sent head ∷ s.1, s.2, s.3, quiet-holds s.0 s.1 s.2 s.3 head s.4 peer s.5 (quiet s.4)))

pub gone-held : (head : Head) (peer : Peer) → ((payload : List ℕ) → ends_zero (passed Side.Sent head payload) ≡ true)
    → ∥ ((size : ℕ) × (journal : List Item) × (given : Marks) × (taken : Marks) × (payload : List ℕ) × HasSent size journal given taken head payload peer.lives peer.management) ∥₁
    → ∥ ((size : ℕ) × (journal : List Item) × (given : Marks) × (taken : Marks) × (other : Head) × (payload : List ℕ) × (other.kind ≡ head.kind)
    × HasGone size journal given taken other payload peer.lives peer.management) ∥₁
gone-held head peer ends held =
    ∥∥₁_map {A = (size : ℕ) × (journal : List Item) × (given : Marks) × (taken : Marks) × (payload : List ℕ) × HasSent size journal given taken head payload peer.lives peer.management}
    {B = (size : ℕ) × (journal : List Item) × (given : Marks) × (taken : Marks) × (other : Head) × (payload : List ℕ) × (other.kind ≡ head.kind)
    × HasGone size journal given taken other payload peer.lives peer.management}
    held (λ s. (s.0, s.1, s.2, s.3, head, s.4, refl, gone-zero s.0 s.1 s.2 s.3 head s.4 peer s.5 (ends s.4)))

pub done-held : (head : Head) (peer : Peer) (releases : Bool) (lives : List Live) (m : Managed) → ((payload : List ℕ) → ends_zero (passed Side.Sent head payload) ≡ true)
    → ∥ ((size : ℕ) × (journal : List Item) × (given : Marks) × (taken : Marks) × (payload : List ℕ) × HasSent size journal given taken head payload peer.lives peer.management) ∥₁
    → ((size : ℕ) (journal : List Item) (given taken : Marks) (other : Head) (payload : List ℕ) → other.kind ≡ head.kind
    → HasGone size journal given taken other payload peer.lives peer.management
    → IsDone size (began Side.Sent other ∷ journal) (passed Side.Sent other payload ∷ began Side.Sent other ∷ journal) given taken releases lives m)
    → AreHeld lives m
done-held head peer releases lives m ends held done =
    ∥∥₁_map {A = (size : ℕ) × (journal : List Item) × (given : Marks) × (taken : Marks) × (payload : List ℕ) × HasSent size journal given taken head payload peer.lives peer.management}
    {B = (size : ℕ) × (journal : List Item) × (given : Marks) × (taken : Marks) × Holds size journal given taken lives m}
    held (λ s. let d = done s.0 s.1 s.2 s.3 head s.4 refl (gone-zero s.0 s.1 s.2 s.3 head s.4 peer s.5 (ends s.4)) in
    (s.0, passed Side.Sent head s.4 ∷ began Side.Sent head ∷ s.1, d.given_now, d.taken_now, d.holds))
