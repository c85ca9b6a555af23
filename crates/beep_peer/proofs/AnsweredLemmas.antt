-- What a whole reply of the peer makes of a session.
use Rattle.std.proofs.Common.{◌≡◌, ℕ, ◌-◌, ◌<◌, ◌≤◌, Bool, true, false, ◌&&◌, ◌||◌, List, [], ◌∷◌, ◌++◌, length, get_or, slice_get, Option, Some, None, refl, sym, ap, ◌∙◌, arith, subst, length-append}
use Rattle.std.specs.Prelude.{IfSome}
use Rattle.std.proofs.Math.Logic.{∥∥₁_elim}
use denote.Struct.Props.{props}
use Rattle.std.specs.Option.{option_map_or, option_to_list}
use Rattle.std.proofs.lemmas.Option.{slice_get-get_or}
use Rattle.beep_upright.specs.beep_frame.specs.declared.head.Head.{Head}
use Rattle.beep_upright.specs.beep_frame.specs.declared.kind.Kind.{Kind}
use Rattle.beep_upright.specs.beep_frame.specs.Frame.{is_msg, is_ans, same_kind}
use Rattle.beep_upright.specs.beep_mgmt.specs.Form.{Form}
use Rattle.beep_upright.specs.beep_mgmt.specs.Message.{message_said}
use Rattle.beep_upright.specs.beep_history.specs.declared.journal.Side.{Side}
use Rattle.beep_upright.specs.beep_history.specs.Journal.{Item, passed}
use Rattle.beep_upright.specs.beep_journal.specs.Zero.{zero_history, zero_events, events, gathered, has_form, completes_form}
use Rattle.beep_upright.specs.beep_journal.specs.Life.{is_released}
use Rattle.beep_upright.specs.beep_channel.specs.Held.{Live}
use Rattle.beep_upright.specs.beep_turns.specs.declared.turns.TheConstants.{MAX_CHANNELS}
use Rattle.beep_upright.specs.beep_lives.specs.Lives.{numbers}
use Rattle.beep_upright.specs.beep_standing.specs.Standing.{Marks, AreLiveBy}
use Rattle.beep_upright.specs.beep_standing.specs.Moving.{MovesNone}
use Rattle.beep_upright.specs.beep_standing.proofs.LivesLemmas.{lives-stay}
use Rattle.beep_upright.specs.beep_decide.specs.Asks.{is_close_of}
use Rattle.beep_hearing.specs.Hears.{Passes, KeepsZeroRoom}
use Rattle.beep_upright.specs.beep_asked.specs.Kept.{Kept, oldest, others, fits, grants}
use Rattle.beep_upright.specs.beep_asked.specs.Asked.{AreWaiting, EndsReply}
use Rattle.beep_upright.specs.beep_asked.specs.Granting.{IsGranted}
use Rattle.beep_upright.specs.beep_asked.proofs.LawsLemmas.{reply-waits, reply-form, refusal-moves, refusal-releases, grant-moves, grant-releases}
use Rattle.beep_upright.specs.beep_management.specs.Managed.{Managed, number_started}
use Rattle.beep_upright.specs.beep_management.specs.Manages.{IsManaged, AreFresh}
use Rattle.beep_upright.specs.beep_management.specs.Moved.{Does, is_live_in, marks_after}
use Rattle.beep_upright.specs.beep_management.specs.Steps.{answers_after, TakesMine}
use Rattle.beep_upright.specs.beep_management.proofs.ClearLemmas.{granted-same}
use Rattle.beep_upright.specs.beep_management.proofs.ItemLemmas.{given-above}
use Rattle.beep_upright.specs.beep_management.proofs.LivesLemmas.{says-live, grant-done}
use Rattle.beep_upright.specs.beep_management.proofs.ReceivedLemmas.{oldest-starts, start-has-one, reply-refused, reply-granted}
use Rattle.beep_upright.specs.beep_management.proofs.SameLemmas.{room-same, waits-same}
use Rattle.beep_upright.specs.beep_management.proofs.SentLemmas.{has-zero}
use Rattle.beep_peer.specs.declared.peer.Peer.{Peer}
use Rattle.beep_peer.specs.Peering.{AreFew, WaitsIn}
use Rattle.beep_peer.specs.Calls.{IsDone}
use Rattle.beep_peer.specs.Grants.{NamesAbove}
use Rattle.beep_peer.proofs.FewLemmas.{does-few}
use Rattle.beep_peer.proofs.CarriesLemmas.{carries-same, carries-done, zero-after}
use Rattle.beep_peer.proofs.GoneLemmas.{above-named, one-number, last-split, some-prop, names-prop}
use Rattle.beep_peer.proofs.DoneLemmas.{carries-on, carries-from, same-count}
use Rattle.beep_peer.proofs.RoomLemmas.{room-equal, room-cleared, room-done}
use Rattle.beep_peer.proofs.WaitingLemmas.{zero-now, ends-reply, says-whole, released-now, AnyWaits}

-- ---- forms

ans-fits-not : (kind : Kind) (said : Option Form) (o : Option Kept) → is_ans kind ≡ true → false ≡ option_map_or (fits kind said) o false
ans-fits-not Kind.Ans said None ans = refl
ans-fits-not Kind.Ans said (Some one) ans = refl
ans-fits-not Kind.Msg said o ans = absurd (let none : false ≡ true = ans in cc)
ans-fits-not Kind.Rpy said o ans = absurd (let none : false ≡ true = ans in cc)
ans-fits-not Kind.Err said o ans = absurd (let none : false ≡ true = ans in cc)
ans-fits-not Kind.Nul said o ans = absurd (let none : false ≡ true = ans in cc)

ans-has-none : (kind : Kind) (position : ℕ) (request reply : Option Form) → is_ans kind ≡ true → has_form kind position request reply ≡ false
ans-has-none Kind.Ans position request reply ans = refl
ans-has-none Kind.Msg position request reply ans = refl
ans-has-none Kind.Rpy position request reply ans = absurd (let none : false ≡ true = ans in cc)
ans-has-none Kind.Err position request reply ans = absurd (let none : false ≡ true = ans in cc)
ans-has-none Kind.Nul position request reply ans = refl

fits-alone : (kind : Kind) (said : Option Form) (one : Kept) → fits kind said one ≡ true → is_ans kind ≡ false
fits-alone Kind.Ans said one fit = absurd (let none : false ≡ true = fit in cc)
fits-alone Kind.Msg said one fit = refl
fits-alone Kind.Rpy said one fit = refl
fits-alone Kind.Err said one fit = refl
fits-alone Kind.Nul said one fit = refl

-- ---- the oldest

last-at : (later : List Kept) (one : Kept) → slice_get (later ++ one ∷ []) (length later) ≡ Some one
last-at [] one = refl
last-at (kept ∷ later) one = last-at later one

oldest-last : (requests later : List Kept) (one : Kept) → requests ≡ later ++ one ∷ [] → oldest requests ≡ Some one
oldest-last requests later one split =
    ap oldest split
    ∙ ap (slice_get (later ++ one ∷ [])) (let count : length (later ++ one ∷ []) - 1 ≡ length later = omega (arith, length-append later (one ∷ [])) in count)
    ∙ last-at later one

no-oldest : {A : Type 0} (requests : List Kept) (one : Kept) → 0 < length requests → oldest requests ≡ None → A
no-oldest requests one some none =
    absurd (let both : Some (get_or requests (length requests - 1) one) ≡ None = sym (slice_get-get_or requests (length requests - 1) one (omega (arith, some))) ∙ none in cc)

-- what was taken, as the test of the kind came out
mine-by : (b known : Bool) → b ≡ known → (one : Kept) (channel : Option Live) (old new : Managed) → TakesMine b one channel old new → TakesMine known one channel old new
mine-by b known is one channel old new p = subst (λ (x : Bool). TakesMine x one channel old new) is p

-- the request that was answered is the oldest
pub taken-oldest : (grants : Bool) (one : Kept) (channel : Option Live) (old new : Managed) → TakesMine grants one channel old new → oldest old.mine.requests ≡ Some one
taken-oldest grants one channel old new p = oldest-last old.mine.requests p.later one p.split

module _ (size : ℕ) (fed : List ℕ) (journal : List Item) (given taken : Marks) (head : Head) (payload : List ℕ) (peer : Peer)
    (w : WaitsIn size fed journal given taken head payload peer) (reply : is_msg head.kind ≡ false) (said : Option Form)
    (is : said ≡ message_said peer.ear.text.octets) where
  abbrev past : List Item
  past = zero_history journal

  abbrev now : List Item
  now = passed Side.Received head payload ∷ journal

  abbrev m : Managed
  m = peer.management

  abbrev form : Option Form
  form = message_said (gathered Side.Received (zero_history journal) ++ payload)

  abbrev d : IsManaged size journal given peer.management w.manages.spoken w.manages.prepared
  d = w.manages.is

  says : said ≡ form
  says = says-whole size fed journal given taken head payload peer w said is

  ends : is_ans head.kind ≡ false → EndsReply Side.Received head past
  ends alone = ends-reply size fed journal given taken head payload peer w reply alone

  waited : (later : List Kept) (one : Kept) → m.mine.requests ≡ later ++ one ∷ [] → AreWaiting Side.Sent past (later ++ one ∷ [])
  waited later one split = subst (λ (ks : List Kept). AreWaiting Side.Sent past ks) split d.mine

  -- the form that it has is the one that the oldest own request asks for
  pub form-fits : completes_form Side.Received head payload past ≡ option_map_or (fits head.kind said) (oldest m.mine.requests) false
  form-fits = of (is_ans head.kind) refl
    where
      by : (o : Option Kept) → is_ans head.kind ≡ false → oldest m.mine.requests ≡ o
          → completes_form Side.Received head payload past ≡ option_map_or (fits head.kind said) o false
      by None alone at =
          no-oldest m.mine.requests (record { said = None; implied = false; names = false })
          (reply-waits Side.Received head payload past (ends alone) m.mine.requests d.mine) at
      by (Some one) alone at =
          let split = last-split m.mine.requests one at in
          reply-form Side.Received head payload past (ends alone) (others m.mine.requests) one (waited (others m.mine.requests) one split)
          ∙ ap (λ (o : Option Form). fits head.kind o one) (sym says)

      of : (b : Bool) → is_ans head.kind ≡ b
          → completes_form Side.Received head payload past ≡ option_map_or (fits head.kind said) (oldest m.mine.requests) false
      of true ans = ans-has-none head.kind _ _ _ ans ∙ ans-fits-not head.kind said (oldest m.mine.requests) ans
      of false alone = by (oldest m.mine.requests) alone refl

  -- the oldest own request has its channel, where it is a start
  pub starts-one : IfSome (oldest m.mine.requests) (λ one. length (number_started one.said) ≤ length m.starting)
  starts-one = of (oldest m.mine.requests) refl
    where
      of : (o : Option Kept) → oldest m.mine.requests ≡ o → IfSome o (λ one. length (number_started one.said) ≤ length m.starting)
      of None at = tt
      of (Some one) at =
          start-has-one size journal given m w.manages.spoken w.manages.prepared d (others m.mine.requests) one (last-split m.mine.requests one at)

  module _ (fit : option_map_or (fits head.kind said) (oldest m.mine.requests) false ≡ true) (one : Kept) (channel : Option Live) (new : Managed)
      (channels : List Live) (order : numbers channels ≡ numbers peer.lives) (kept : KeepsZeroRoom peer.lives channels)
      (pass : Passes size journal (passed Side.Received head payload ∷ journal) given taken channels) where
    module _ (later : List Kept) (split : m.mine.requests ≡ later ++ one ∷ []) where
      fit-one : fits head.kind said one ≡ true
      fit-one = sym (ap (λ (o : Option Kept). option_map_or (fits head.kind said) o false) (oldest-last m.mine.requests later one split)) ∙ fit

      answers : EndsReply Side.Received head past
      answers = ends (fits-alone head.kind said one fit-one)

      grants-one : (b : Bool) → same_kind Kind.Rpy head.kind ≡ b → grants head.kind form one ≡ b
      grants-one b same =
          ap (λ (x : Bool). x && fits head.kind form one) same
          ∙ ap (λ (x : Bool). b && x) (ap (λ (o : Option Form). fits head.kind o one) (sym says) ∙ fit-one) ∙ and-true b
        where
          and-true : (b : Bool) → (b && true) ≡ b
          and-true true = refl
          and-true false = refl

    -- ---- ERR

    module _ (refuses : same_kind Kind.Rpy head.kind ≡ false) (p : TakesMine false one channel m new) where
      refused : grants head.kind form one ≡ false
      refused = grants-one p.later p.split false refuses

      pub refused-moves : MovesNone (events journal) (events now)
      refused-moves =
          subst (λ (z : List Item). MovesNone (events journal) (zero_events z)) (sym (zero-now size fed journal given taken head payload peer w))
          (refusal-moves Side.Received head payload past (answers p.later p.split) p.later one (waited p.later one p.split) refused)

      refused-live : AreLiveBy size now given pass.taken_now channels
      refused-live =
          lives-stay size journal given pass.taken_now channels (passed Side.Received head payload) pass.live
          refused-moves w.waits.zero_is

      refused-managed : IsManaged size now given new w.manages.spoken w.manages.prepared
      refused-managed =
          room-same size now given (record m { mine = new.mine; starting = new.starting }) new w.manages.spoken w.manages.prepared
          (reply-refused size journal given m head payload w.manages.spoken w.manages.prepared d w.waits.zero_is (answers p.later p.split) p.later one p.split
          refused (option_to_list channel) new.starting new.mine p.starting p.sized p.mine.requests (omega (arith, d.room, p.mine.room)))
          refl p.acts.requests p.theirs.requests p.answers refl p.granted (omega (arith, d.room, p.mine.room, ap length p.acts.requests))

      refusal-done : IsDone size journal now given taken false channels new
      refusal-done = record {
        given_now = given;
        taken_now = pass.taken_now;
        given_is = carries-same journal now channels channels given pass.live.there refused-live.there refl;
        zero_is = refl;
        taken_is = carries-on journal now taken taken pass.taken_now (carries-same journal now channels channels taken pass.live.there refused-live.there refl) pass.same;
        holds = record {
          live = refused-live;
          zero = pass.zero;
          manages = record { spoken = w.manages.spoken; prepared = w.manages.prepared; is = refused-managed };
          few = omega (arith, w.few, same-count peer.lives channels order, ap length p.starting, length-append (option_to_list channel) new.starting, ap length p.granted);
          room = room-equal m.answers new.answers channels p.answers (kept _ _ w.room);
        };
        releases = released-now size fed journal given taken head payload peer w (is_released journal)
            (refusal-releases Side.Received head payload past (answers p.later p.split) p.later one (waited p.later one p.split) refused);
      }

    -- ---- RPY

    module _ (allows : same_kind Kind.Rpy head.kind ≡ true) (p : TakesMine true one channel m new) where
      granted : grants head.kind form one ≡ true
      granted = grants-one p.later p.split true allows

      pub moved : IsGranted (is_live_in channels) one (events journal) (events now)
      moved =
          subst (λ (z : List Item). IsGranted (is_live_in channels) one (events journal) (zero_events z)) (sym (zero-now size fed journal given taken head payload peer w))
          (grant-moves Side.Received head payload past (answers p.later p.split) p.later one (waited p.later one p.split) granted (is_live_in channels)
          (says-live size journal now given pass.taken_now channels pass.live))

      pub fresh : AreFresh size (number_started one.said) (option_to_list channel)
      fresh =
          (oldest-starts size journal given m w.manages.spoken w.manages.prepared d p.later one p.split (option_to_list channel) new.starting p.starting p.sized).0

      pub grant-above : NamesAbove one.said one.names
      grant-above = above-named (is_live_in channels) one.said one.names (events journal) (events now) moved

      pub grant-number : IfSome channel (λ c. number_started one.said ≡ c.held.number ∷ [])
      grant-number = one-number size (number_started one.said) channel fresh

      pub grant-room : IfSome channel (λ c. length channels ≤ MAX_CHANNELS)
      grant-room = of channel p.starting
        where
          of : (o : Option Live) → m.starting ≡ option_to_list o ++ new.starting → IfSome o (λ c. length channels ≤ MAX_CHANNELS)
          of None are = tt
          of (Some c) are = omega (arith, w.few, ap length are, same-count peer.lives channels order)

      abbrev taken-one : Managed
      taken-one = record m { mine = new.mine; acts = new.acts; theirs = new.theirs; starting = new.starting }

      granted-managed : IsManaged size now given new w.manages.spoken w.manages.prepared
      granted-managed =
          room-same size now given (record taken-one { answers = answers_after one m.answers }) new w.manages.spoken w.manages.prepared
          (waits-same size now given taken-one one w.manages.spoken w.manages.prepared
          (reply-granted size journal given m head payload w.manages.spoken w.manages.prepared d w.waits.zero_is (answers p.later p.split) p.later one p.split
          granted (option_to_list channel) new.starting new.mine new.acts new.theirs p.starting p.sized p.mine.requests (omega (arith, d.room, p.mine.room))
          p.acts.requests p.theirs.requests))
          refl refl refl p.answers refl p.granted
          (omega (arith, d.room, p.mine.room, (granted-same one m.acts.requests new.acts.requests p.acts.requests).count))

      -- the channel that was granted, or any
      abbrev some-channel : Option Live → Live
      some-channel None = (has-zero size journal now given pass.taken_now channels pass.live).channel
      some-channel (Some c) = c

      some-is : (o : Option Live) → IfSome o (λ c. c ≡ some-channel o)
      some-is None = tt
      some-is (Some c) = refl

      module _ (after : List Live)
          (does : (size : ℕ) (c : Live) → AreFresh size (number_started one.said) (option_to_list channel) → IfSome channel (λ one. one ≡ c)
          → Does size one.said one.names c channels after) where
        done : Does size one.said one.names (some-channel channel) channels after
        done = does size (some-channel channel) fresh (some-is channel)

        granted-live : AreLiveBy size now (marks_after one.said channels given) (marks_after one.said channels pass.taken_now) after
        granted-live =
            grant-done size journal given pass.taken_now channels after (passed Side.Received head payload) one (some-channel channel) pass.live w.waits.zero_is moved done

        granted-few : AreFew after new
        granted-few =
            let more = does-few size one.said one.names (some-channel channel) channels after pass.live.ascending done in
            omega (
              arith,
              w.few,
              more,
              same-count peer.lives channels order,
              ap length p.starting,
              ap length p.granted,
              p.sized,
              length-append (option_to_list channel) new.starting,
            )

        grant-is-done : (released : Bool) → released ≡ is_close_of 0 one.said → IsDone size journal now given taken released after new
        grant-is-done released releases = record {
          given_now = marks_after one.said channels given;
          taken_now = marks_after one.said channels pass.taken_now;
          given_is = carries-done journal now channels after given pass.live.there granted-live.there size one.said one.names (some-channel channel) done;
          zero_is = zero-after one.said channels given;
          taken_is = carries-from journal now taken pass.taken_now (marks_after one.said channels pass.taken_now) pass.same
              (carries-done journal now channels after pass.taken_now pass.live.there granted-live.there size one.said one.names (some-channel channel) done);
          holds = record {
            live = granted-live;
            zero = zero-after one.said channels pass.taken_now ∙ pass.zero;
            manages = given-above size now given (marks_after one.said channels given) new (zero-after one.said channels given)
                (record { spoken = w.manages.spoken; prepared = w.manages.prepared; is = granted-managed });
            few = granted-few;
            room = room-equal (answers_after one m.answers) new.answers after p.answers
                (room-done size one.said one.names (some-channel channel) channels after grant-above done _ _
                (room-cleared one m.answers channels (kept _ _ w.room)));
          };
          releases = released-now size fed journal given taken head payload peer w (is_close_of 0 one.said || is_released journal)
              (grant-releases Side.Received head payload past (answers p.later p.split) p.later one (waited p.later one p.split) granted)
              ∙ ap (λ (b : Bool). b || is_released journal) (sym releases);
        }

    -- ---- either

    pub answered-done : (b : Bool) → b ≡ same_kind Kind.Rpy head.kind → TakesMine b one channel m new → (after : List Live) (released : Bool)
        → (b ≡ true → (size : ℕ) (c : Live) → AreFresh size (number_started one.said) (option_to_list channel) → IfSome channel (λ one. one ≡ c)
        → Does size one.said one.names c channels after)
        → (b ≡ false → after ≡ channels) → released ≡ (b && is_close_of 0 one.said) → IsDone size journal now given taken released after new
    answered-done true same p after released does stays is = grant-is-done (sym same) p after (does refl) released is
    answered-done false same p after released does stays is =
        subst (λ (cs : List Live). IsDone size journal now given taken released cs new) (sym (stays refl))
        (subst (λ (b : Bool). IsDone size journal now given taken b channels new) (sym is) (refusal-done (sym same) p))

-- ---- that there is a journal

module _ (head : Head) (peer : Peer) (any : ∥ AnyWaits head peer ∥₁) (reply : is_msg head.kind ≡ false) (said : Option Form)
    (is : said ≡ message_said peer.ear.text.octets) where
  pub any-starts : IfSome (oldest peer.management.mine.requests) (λ one. length (number_started one.said) ≤ length peer.management.starting)
  any-starts =
      ∥∥₁_elim any (some-prop (λ (one : Kept). length (number_started one.said) ≤ length peer.management.starting) (λ one. hlevel props)
      (oldest peer.management.mine.requests)) (λ s. starts-one s.0 s.1 s.2 s.3 s.4 head s.5 peer s.6 reply said is)

  module _ (fit : option_map_or (fits head.kind said) (oldest peer.management.mine.requests) false ≡ true) (one : Kept) (channel : Option Live) (new : Managed)
      (channels : List Live) (order : numbers channels ≡ numbers peer.lives) (kept : KeepsZeroRoom peer.lives channels)
      (passes : (size : ℕ) (fed : List ℕ) (journal : List Item) (given taken : Marks) (payload : List ℕ) → WaitsIn size fed journal given taken head payload peer
      → Passes size journal (passed Side.Received head payload ∷ journal) given taken channels)
      (b : Bool) (is_grant : b ≡ same_kind Kind.Rpy head.kind) (p : TakesMine b one channel peer.management new) where
    taken-so : b ≡ true → TakesMine true one channel peer.management new
    taken-so allows = mine-by b true allows one channel peer.management new p

    pub any-room : b ≡ true → IfSome channel (λ c. length channels ≤ MAX_CHANNELS)
    any-room allows =
        ∥∥₁_elim any (some-prop (λ (c : Live). length channels ≤ MAX_CHANNELS) (λ c. hlevel props) channel) (λ s.
        grant-room s.0 s.1 s.2 s.3 s.4 head s.5 peer s.6 reply said is fit one channel new channels order kept (passes s.0 s.1 s.2 s.3 s.4 s.5 s.6)
        (sym is_grant ∙ allows) (taken-so allows))

    pub any-number : b ≡ true → IfSome channel (λ c. number_started one.said ≡ c.held.number ∷ [])
    any-number allows =
        ∥∥₁_elim any (some-prop (λ (c : Live). number_started one.said ≡ c.held.number ∷ []) (λ c. hlevel props) channel) (λ s.
        grant-number s.0 s.1 s.2 s.3 s.4 head s.5 peer s.6 reply said is fit one channel new channels order kept (passes s.0 s.1 s.2 s.3 s.4 s.5 s.6)
        (sym is_grant ∙ allows) (taken-so allows))

    pub any-above : b ≡ true → NamesAbove one.said one.names
    any-above allows =
        ∥∥₁_elim any (names-prop one.said one.names) (λ s.
        grant-above s.0 s.1 s.2 s.3 s.4 head s.5 peer s.6 reply said is fit one channel new channels order kept (passes s.0 s.1 s.2 s.3 s.4 s.5 s.6)
        (sym is_grant ∙ allows) (taken-so allows))
