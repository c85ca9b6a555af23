-- What the last frame of an own message of channel zero makes of a session, as it goes out.
use Rattle.std.proofs.Common.{◌≡◌, ℕ, suc, ◌+◌, ◌-◌, ◌<◌, ◌≤◌, ◌==◌, Bool, true, false, ◌||◌, List, [], ◌∷◌, ◌++◌, length, Option, Some, None, refl, sym, ap, ◌∙◌, arith, subst, length-append}
use Rattle.std.specs.Prelude.{IfSome}
use Rattle.std.proofs.Math.Logic.{∥∥₁_elim}
use denote.Struct.Props.{props}
use Rattle.std.proofs.lemmas.Bool.Decides.{nat_tests}
use Rattle.std.proofs.lemmas.List.{take-append-drop, drop_all}
use Rattle.std.specs.Option.{option_to_list}
use Rattle.beep_upright.specs.beep_frame.specs.declared.head.Head.{Head}
use Rattle.beep_upright.specs.beep_frame.specs.declared.kind.Kind.{Kind}
use Rattle.beep_upright.specs.beep_frame.specs.Frame.{is_msg, same_kind}
use Rattle.beep_upright.specs.beep_mgmt.specs.Form.{Form, greeting, start, chosen, close, okay, fault}
use Rattle.beep_upright.specs.beep_history.specs.declared.journal.Side.{Side}
use Rattle.beep_upright.specs.beep_history.specs.Journal.{Item, began, passed}
use Rattle.beep_upright.specs.beep_journal.specs.Lives.{Event}
use Rattle.beep_upright.specs.beep_journal.specs.Zero.{events}
use Rattle.beep_upright.specs.beep_journal.specs.Life.{is_released}
use Rattle.beep_upright.specs.beep_channel.specs.Held.{Live}
use Rattle.beep_upright.specs.beep_decide.specs.Asks.{is_close_of}
use Rattle.beep_upright.specs.beep_turns.specs.declared.turns.TheConstants.{MAX_CHANNELS}
use Rattle.beep_upright.specs.beep_standing.specs.Standing.{Marks, AreLiveBy}
use Rattle.beep_upright.specs.beep_standing.specs.Moving.{EndsWhere}
use Rattle.beep_upright.specs.beep_standing.proofs.LivesLemmas.{lives-stay}
use Rattle.beep_upright.specs.beep_asked.specs.Kept.{Kept, oldest, others}
use Rattle.beep_upright.specs.beep_asked.specs.Asked.{SaysLive}
use Rattle.beep_upright.specs.beep_asked.specs.Granting.{IsGrantedAs, IsGranted}
use Rattle.beep_upright.specs.beep_management.specs.Managed.{Managed, number_started}
use Rattle.beep_upright.specs.beep_management.specs.Manages.{IsManaged, AreFresh}
use Rattle.beep_upright.specs.beep_management.specs.Moved.{Does, is_live_in, marks_after}
use Rattle.beep_upright.specs.beep_management.specs.Steps.{answers_after, PassesAct, TakesTheirs}
use Rattle.beep_upright.specs.beep_management.proofs.ClearLemmas.{granted-same}
use Rattle.beep_upright.specs.beep_management.proofs.ItemLemmas.{given-above}
use Rattle.beep_upright.specs.beep_management.proofs.ListLemmas.{drop-at}
use Rattle.beep_upright.specs.beep_management.proofs.LivesLemmas.{says-live, grant-done}
use Rattle.beep_upright.specs.beep_management.proofs.SameLemmas.{room-same, waits-same}
use Rattle.beep_upright.specs.beep_management.proofs.SentLemmas.{has-zero, rpy-replies, some-acts, request-waits, request-still, reply-some, grant-has-one, answer-refuses, refused-still, answer-grants, first-fresh, grant-still}
use Rattle.beep_peer.specs.Peering.{AreFew}
use Rattle.beep_peer.specs.Calls.{HasGone, IsDone}
use Rattle.beep_peer.specs.Grants.{NamesAbove}
use Rattle.beep_peer.specs.Left.{channels_left}
use Rattle.beep_peer.proofs.FallLemmas.{does-left}
use Rattle.beep_peer.proofs.FewLemmas.{does-few}
use Rattle.beep_peer.proofs.CarriesLemmas.{carries-same, carries-done, zero-after, sent-zero}
use Rattle.beep_peer.proofs.RoomLemmas.{room-equal, room-cleared, room-done}
use Rattle.beep_peer.proofs.ReleaseLemmas.{request-keeps, refusal-keeps, grant-keeps}

-- ---- what a grant may find

-- a close that names a live life is of a number above 0
pub above-named : (live : ℕ → Bool) (said : Option Form) (names : Bool) (old new : List Event) → IsGrantedAs live said names old new → NamesAbove said names
above-named live None names old new g = tt
above-named live (Some (greeting features localize profiles)) names old new g = tt
above-named live (Some (start number server profiles)) names old new g = tt
above-named live (Some (chosen profile)) names old new g = tt
above-named live (Some (close number code note)) names old new g = of names g
  where
    positive : (n : ℕ) → (n == 0) ≡ false → 0 < n
    positive n above = grind (arith, nat_tests)

    of : (b : Bool) → EndsWhere b number old new → b ≡ true → 0 < number
    of true ends is = positive number ends.above
    of false ends is = absurd (let none : false ≡ true = is in cc)
above-named live (Some okay) names old new g = tt
above-named live (Some (fault code note)) names old new g = tt

-- the one fresh channel is that of the one number
pub one-number : (size : ℕ) (numbers : List ℕ) (channel : Option Live) → AreFresh size numbers (option_to_list channel) → IfSome channel (λ one. numbers ≡ one.held.number ∷ [])
one-number size numbers None fresh = tt
one-number size [] (Some channel) fresh = absurd fresh
one-number size (number ∷ []) (Some channel) fresh = ap (λ (n : ℕ). n ∷ []) (sym fresh.0.is)
one-number size (number ∷ next ∷ numbers) (Some channel) fresh = absurd fresh.1

-- no channel was taken
pub none-taken : (channel : Option Live) (old new : List Live) → length (option_to_list channel) ≡ 0 → old ≡ option_to_list channel ++ new → new ≡ old
none-taken None old new none are = sym are
none-taken (Some channel) old new none are = absurd (omega (arith, none))

-- the oldest stands after the others
pub last-split : (requests : List Kept) (one : Kept) → oldest requests ≡ Some one → requests ≡ others requests ++ one ∷ []
last-split requests one is =
    sym (take-append-drop (length requests - 1) requests)
    ∙ ap (λ (l : List Kept). others requests ++ l)
    (drop-at requests (length requests - 1) one is ∙ ap (λ (l : List Kept). one ∷ l) (drop_all (suc (length requests - 1)) requests (omega arith)))

-- the test of the kind, as it came out
pub taken-by : (b known : Bool) → b ≡ known → (one : Kept) (channel : Option Live) (old new : Managed) → TakesTheirs b one channel old new → TakesTheirs known one channel old new
taken-by b known is one channel old new p = subst (λ (x : Bool). TakesTheirs x one channel old new) is p

module _ (size : ℕ) (journal : List Item) (given taken : Marks) (head : Head) (payload : List ℕ) (channels : List Live) (m : Managed)
    (g : HasGone size journal given taken head payload channels m) where
  abbrev before : List Item
  before = began Side.Sent head ∷ journal

  abbrev now : List Item
  now = passed Side.Sent head payload ∷ began Side.Sent head ∷ journal

  abbrev d : IsManaged size (began Side.Sent head ∷ journal) given m g.manages.spoken g.manages.prepared
  d = g.manages.is

  says : SaysLive (is_live_in channels) (events before)
  says = says-live size before now given taken channels g.live

  -- ---- a request

  pub act-some : is_msg head.kind ≡ true → 0 < length m.acts.requests
  act-some request = some-acts size before journal given taken channels head payload g.live g.zero_is g.last m g.manages.spoken g.manages.prepared d request

  pub act-room : length m.acts.requests ≤ m.mine.room
  act-room = d.room

  pub request-gone : is_msg head.kind ≡ true → (new : Managed) → PassesAct (is_live_in channels) m new → IsDone size before now given taken false channels new
  request-gone request new p = record {
    given_now = given;
    taken_now = taken;
    given_is = carries-same before now channels channels given g.live.there live.there refl;
    zero_is = refl;
    taken_is = carries-same before now channels channels taken g.live.there live.there refl;
    holds = record {
      live = live;
      zero = sent-zero journal head payload taken taken g.zero_is refl g.zero;
      manages = record { spoken = g.manages.spoken; prepared = g.manages.prepared; is = managed };
      few = few;
      room = room-equal m.answers new.answers channels p.answers g.room;
    };
    releases = request-keeps size before journal given taken channels head payload g.live g.zero_is g.last request;
  }
    where
      live : AreLiveBy size now given taken channels
      live =
          lives-stay size before given taken channels (passed Side.Sent head payload) g.live
          (request-still size before journal given taken channels head payload g.live g.zero_is g.last request) g.zero_is

      managed : IsManaged size now given new g.manages.spoken g.manages.prepared
      managed =
          room-same size now given (record m { mine = new.mine; acts = new.acts }) new g.manages.spoken g.manages.prepared
          (request-waits size before journal given taken channels head payload g.live g.zero_is g.last m g.manages.spoken g.manages.prepared d request
          (is_live_in channels) p.later p.one new.mine new.acts says p.split p.acts.requests p.mine p.room)
          refl refl (ap (λ q. q.requests) p.theirs) p.answers p.starting p.granted (omega (arith, p.room, ap length p.acts.requests))

      few : AreFew channels new
      few = omega (arith, g.few, ap length p.starting, ap length p.granted)

  -- ---- a reply

  pub answer-some : is_msg head.kind ≡ false → 0 < length m.theirs.requests
  answer-some reply = reply-some size before journal given taken channels head payload g.live g.zero_is g.last m g.manages.spoken g.manages.prepared d reply

  -- the oldest has its channel, where it is a start
  pub oldest-starts : same_kind Kind.Rpy head.kind ≡ true → IfSome (oldest m.theirs.requests) (λ one. length (number_started one.said) ≤ length m.granted)
  oldest-starts allows = of (oldest m.theirs.requests) refl
    where
      of : (o : Option Kept) → oldest m.theirs.requests ≡ o → IfSome o (λ one. length (number_started one.said) ≤ length m.granted)
      of None is = tt
      of (Some one) is =
          grant-has-one size before journal given taken channels head payload g.live g.zero_is g.last m g.manages.spoken g.manages.prepared d
          (rpy-replies head.kind allows) (others m.theirs.requests) one (last-split m.theirs.requests one is) allows

  module _ (one : Kept) (channel : Option Live) (new : Managed) where
    -- ERR
    pub refusal-gone : is_msg head.kind ≡ false → same_kind Kind.Rpy head.kind ≡ false → TakesTheirs false one channel m new
        → IsDone size before now given taken false channels new
    refusal-gone reply refuses p = record {
      given_now = given;
      taken_now = taken;
      given_is = carries-same before now channels channels given g.live.there live.there refl;
      zero_is = refl;
      taken_is = carries-same before now channels channels taken g.live.there live.there refl;
      holds = record {
        live = live;
        zero = sent-zero journal head payload taken taken g.zero_is refl g.zero;
        manages = record { spoken = g.manages.spoken; prepared = g.manages.prepared; is = managed };
        few = few;
        room = room-equal m.answers new.answers channels p.answers g.room;
      };
      releases = refusal-keeps size before journal given taken channels head payload g.live g.zero_is g.last reply refuses;
    }
      where
        live : AreLiveBy size now given taken channels
        live =
            lives-stay size before given taken channels (passed Side.Sent head payload) g.live
            (refused-still size before journal given taken channels head payload g.live g.zero_is g.last m g.manages.spoken g.manages.prepared d
            reply p.later one p.split refuses) g.zero_is

        kept : new.granted ≡ m.granted
        kept = none-taken channel m.granted new.granted p.sized p.granted

        managed : IsManaged size now given new g.manages.spoken g.manages.prepared
        managed =
            room-same size now given (record m { theirs = new.theirs }) new g.manages.spoken g.manages.prepared
            (answer-refuses size before journal given taken channels head payload g.live g.zero_is g.last m g.manages.spoken g.manages.prepared d
            reply p.later one p.split refuses new.theirs p.theirs.requests)
            p.mine.requests p.acts.requests refl p.answers p.starting kept (omega (arith, d.room, p.mine.room, ap length p.acts.requests))

        few : AreFew channels new
        few = omega (arith, g.few, ap length p.starting, ap length kept)

    -- RPY
    module _ (allows : same_kind Kind.Rpy head.kind ≡ true) (p : TakesTheirs true one channel m new) where
      granted : IsGranted (is_live_in channels) one (events before) (events now)
      granted =
          grant-still size before journal given taken channels head payload g.live g.zero_is g.last m g.manages.spoken g.manages.prepared d
          (rpy-replies head.kind allows) p.later one p.split allows (is_live_in channels) says

      fresh : AreFresh size (number_started one.said) (option_to_list channel)
      fresh =
          first-fresh size before journal given taken channels head payload g.live g.zero_is g.last m g.manages.spoken g.manages.prepared d
          (rpy-replies head.kind allows) p.later one p.split allows (option_to_list channel) new.granted p.granted p.sized

      pub grant-above : NamesAbove one.said one.names
      grant-above = above-named (is_live_in channels) one.said one.names (events before) (events now) granted

      pub grant-number : IfSome channel (λ c. number_started one.said ≡ c.held.number ∷ [])
      grant-number = one-number size (number_started one.said) channel fresh

      pub grant-room : IfSome channel (λ c. length channels ≤ MAX_CHANNELS)
      grant-room = of channel p.granted
        where
          of : (o : Option Live) → m.granted ≡ option_to_list o ++ new.granted → IfSome o (λ c. length channels ≤ MAX_CHANNELS)
          of None are = tt
          of (Some c) are = omega (arith, g.few, ap length are)

      abbrev taken-one : Managed
      taken-one = record m { mine = new.mine; acts = new.acts; theirs = new.theirs; granted = new.granted }

      -- the channel that was granted, or any
      abbrev some-channel : Option Live → Live
      some-channel None = (has-zero size before now given taken channels g.live).channel
      some-channel (Some c) = c

      some-is : (o : Option Live) → IfSome o (λ c. c ≡ some-channel o)
      some-is None = tt
      some-is (Some c) = refl

      pub grant-left : (after : List Live)
          → ((size : ℕ) (c : Live) → AreFresh size (number_started one.said) (option_to_list channel) → IfSome channel (λ one. one ≡ c) → Does size one.said one.names c channels after)
          → channels_left after ≤ channels_left channels + length (number_started one.said)
      grant-left after does =
          does-left size one.said one.names (some-channel channel) channels after g.live.ascending (does size (some-channel channel) fresh (some-is channel))

      pub grant-gone : (after : List Live) (released : Bool)
          → ((size : ℕ) (c : Live) → AreFresh size (number_started one.said) (option_to_list channel) → IfSome channel (λ one. one ≡ c) → Does size one.said one.names c channels after)
          → released ≡ is_close_of 0 one.said → IsDone size before now given taken released after new
      grant-gone after released does is = record {
        given_now = marks_after one.said channels given;
        taken_now = marks_after one.said channels taken;
        given_is = carries-done before now channels after given g.live.there live.there size one.said one.names (some-channel channel) done;
        zero_is = zero-after one.said channels given;
        taken_is = carries-done before now channels after taken g.live.there live.there size one.said one.names (some-channel channel) done;
        holds = record {
          live = live;
          zero = sent-zero journal head payload taken (marks_after one.said channels taken) g.zero_is (zero-after one.said channels taken) g.zero;
          manages = given-above size now given (marks_after one.said channels given) new (zero-after one.said channels given)
              (record { spoken = g.manages.spoken; prepared = g.manages.prepared; is = managed });
          few = few;
          room = room-equal (answers_after one m.answers) new.answers after p.answers
              (room-done size one.said one.names (some-channel channel) channels after grant-above done _ _ (room-cleared one m.answers channels g.room));
        };
        releases =
            grant-keeps size before journal given taken channels head payload g.live g.zero_is g.last m g.manages.spoken g.manages.prepared d p.later one p.split allows
            ∙ ap (λ (b : Bool). b || is_released before) (sym is);
      }
        where
          done : Does size one.said one.names (some-channel channel) channels after
          done = does size (some-channel channel) fresh (some-is channel)

          live : AreLiveBy size now (marks_after one.said channels given) (marks_after one.said channels taken) after
          live = grant-done size before given taken channels after (passed Side.Sent head payload) one (some-channel channel) g.live g.zero_is granted done

          managed : IsManaged size now given new g.manages.spoken g.manages.prepared
          managed =
              room-same size now given (record taken-one { answers = answers_after one m.answers }) new g.manages.spoken g.manages.prepared
              (waits-same size now given taken-one one g.manages.spoken g.manages.prepared
              (answer-grants size before journal given taken channels head payload g.live g.zero_is g.last m g.manages.spoken g.manages.prepared d
              (rpy-replies head.kind allows) p.later one p.split allows (option_to_list channel) new.granted p.granted p.sized new.mine new.acts new.theirs
              p.mine.requests (omega (arith, d.room, p.mine.room)) p.acts.requests p.theirs.requests))
              refl refl refl p.answers p.starting refl
              (omega (arith, d.room, p.mine.room, (granted-same one m.acts.requests new.acts.requests p.acts.requests).count))

          few : AreFew after new
          few =
              let more = does-few size one.said one.names (some-channel channel) channels after g.live.ascending done in
              omega (arith, g.few, more, ap length p.starting, ap length p.granted, p.sized, length-append (option_to_list channel) new.granted)

-- ---- out of what is known of some journal

pub some-prop : {A : Type 0} (P : A → Type 0) → ((x : A) → IsProp (P x)) → (o : Option A) → IsProp (IfSome o P)
some-prop P each None = hlevel props
some-prop P each (Some x) = each x

pub names-prop : (said : Option Form) (names : Bool) → IsProp (NamesAbove said names)
names-prop None names = hlevel props
names-prop (Some (greeting features localize profiles)) names = hlevel props
names-prop (Some (start number server profiles)) names = hlevel props
names-prop (Some (chosen profile)) names = hlevel props
names-prop (Some (close number code note)) names = hlevel props
names-prop (Some okay) names = hlevel props
names-prop (Some (fault code note)) names = hlevel props

-- a message of this kind goes out of a session with these channels that keeps this
abbrev pub GoesOut : Kind → List Live → Managed → Type 0
GoesOut kind channels m =
    ∥ ((size : ℕ) × (journal : List Item) × (given : Marks) × (taken : Marks) × (head : Head) × (payload : List ℕ) × (head.kind ≡ kind)
    × HasGone size journal given taken head payload channels m) ∥₁

module _ (kind : Kind) (channels : List Live) (m : Managed) (out : GoesOut kind channels m) where
  pub out-act : is_msg kind ≡ true → 0 < length m.acts.requests
  out-act request = ∥∥₁_elim out (hlevel props) (λ s. act-some s.0 s.1 s.2 s.3 s.4 s.5 channels m s.7 (ap is_msg s.6 ∙ request))

  pub out-room : length m.acts.requests ≤ m.mine.room
  out-room = ∥∥₁_elim out (hlevel props) (λ s. act-room s.0 s.1 s.2 s.3 s.4 s.5 channels m s.7)

  pub out-answer : is_msg kind ≡ false → 0 < length m.theirs.requests
  out-answer reply = ∥∥₁_elim out (hlevel props) (λ s. answer-some s.0 s.1 s.2 s.3 s.4 s.5 channels m s.7 (ap is_msg s.6 ∙ reply))

  pub out-starts : same_kind Kind.Rpy kind ≡ true → IfSome (oldest m.theirs.requests) (λ one. length (number_started one.said) ≤ length m.granted)
  out-starts allows =
      ∥∥₁_elim out (some-prop (λ (one : Kept). length (number_started one.said) ≤ length m.granted) (λ one. hlevel props) (oldest m.theirs.requests))
      (λ s. oldest-starts s.0 s.1 s.2 s.3 s.4 s.5 channels m s.7 (ap (same_kind Kind.Rpy) s.6 ∙ allows))

  module _ (allows : same_kind Kind.Rpy kind ≡ true) (one : Kept) (channel : Option Live) (new : Managed) (p : TakesTheirs true one channel m new) where
    pub out-joins : IfSome channel (λ c. length channels ≤ MAX_CHANNELS)
    out-joins =
        ∥∥₁_elim out (some-prop (λ (c : Live). length channels ≤ MAX_CHANNELS) (λ c. hlevel props) channel)
        (λ s. grant-room s.0 s.1 s.2 s.3 s.4 s.5 channels m s.7 one channel new (ap (same_kind Kind.Rpy) s.6 ∙ allows) p)

    pub out-number : IfSome channel (λ c. number_started one.said ≡ c.held.number ∷ [])
    out-number =
        ∥∥₁_elim out (some-prop (λ (c : Live). number_started one.said ≡ c.held.number ∷ []) (λ c. hlevel props) channel)
        (λ s. grant-number s.0 s.1 s.2 s.3 s.4 s.5 channels m s.7 one channel new (ap (same_kind Kind.Rpy) s.6 ∙ allows) p)

    pub out-above : NamesAbove one.said one.names
    out-above =
        ∥∥₁_elim out (names-prop one.said one.names)
        (λ s. grant-above s.0 s.1 s.2 s.3 s.4 s.5 channels m s.7 one channel new (ap (same_kind Kind.Rpy) s.6 ∙ allows) p)

    pub out-left : (after : List Live)
        → ((size : ℕ) (c : Live) → AreFresh size (number_started one.said) (option_to_list channel) → IfSome channel (λ one. one ≡ c) → Does size one.said one.names c channels after)
        → channels_left after ≤ channels_left channels + length (number_started one.said)
    out-left after does =
        ∥∥₁_elim out (hlevel props)
        (λ s. grant-left s.0 s.1 s.2 s.3 s.4 s.5 channels m s.7 one channel new (ap (same_kind Kind.Rpy) s.6 ∙ allows) p after does)
