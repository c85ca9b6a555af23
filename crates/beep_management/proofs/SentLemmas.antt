-- What the last frame of an own message of channel zero makes of what is kept.
use Rattle.std.proofs.Common.{◌≡◌, ℕ, suc, ◌+◌, ◌<◌, ◌≤◌, ◌==◌, Bool, true, false, ◌&&◌, if◌then◌else◌, List, [], ◌∷◌, ◌++◌, length, drop, reverse, Option, Some, None, is_some, refl, sym, ap, ◌∙◌, arith, subst, append_assoc, length-append}
use Rattle.std.proofs.lemmas.Option.{slice_get_within}
use Rattle.beep_asked.specs.beep_frame.specs.declared.head.Head.{Head}
use Rattle.beep_asked.specs.beep_frame.specs.declared.kind.Kind.{Kind}
use Rattle.beep_asked.specs.beep_frame.specs.Frame.{is_msg, is_ans, same_kind}
use Rattle.beep_asked.specs.beep_mgmt.specs.Form.{Form}
use Rattle.beep_asked.specs.beep_mgmt.specs.Message.{message_said}
use Rattle.beep_asked.specs.beep_history.specs.declared.journal.Side.{Side}
use Rattle.beep_asked.specs.beep_history.specs.Journal.{Item, began, passed}
use Rattle.beep_asked.specs.beep_history.specs.Marks.{marks}
use Rattle.beep_asked.specs.beep_history.specs.Broken.{KeepsExchangeRules}
use Rattle.beep_asked.specs.beep_outbox.specs.Queue.{marks_of}
use Rattle.beep_asked.specs.beep_journal.specs.Zero.{zero_history, zero_events, events, gathered}
use Rattle.beep_asked.specs.beep_journal.specs.Laws.{contents}
use Rattle.beep_asked.specs.beep_channel.specs.Held.{Live}
use Rattle.beep_asked.specs.beep_channel.specs.Stands.{Stands, ends_of}
use Rattle.beep_asked.specs.beep_lives.specs.Lives.{live_at}
use Rattle.beep_asked.specs.beep_standing.specs.Standing.{Marks, AreLive}
use Rattle.beep_asked.specs.beep_standing.specs.Moving.{MovesNone}
use Rattle.beep_spoken.specs.Spoken.{Spoken, IsSaid}
use Rattle.beep_spoken.proofs.SpokenLemmas.{next-said}
use Rattle.beep_asked.specs.Kept.{Kept, Queue, new_kept, fits, grants, after_grant}
use Rattle.beep_asked.specs.Asked.{AreWaiting, EndsRequest, EndsReply, SaysLive}
use Rattle.beep_asked.specs.Granting.{IsGranted}
use Rattle.beep_asked.proofs.LawsLemmas.{request-mine, request-theirs, request-moves, reply-waits, refusal-theirs, refusal-mine, refusal-moves, grant-theirs, grant-mine, grant-moves}
use Rattle.beep_management.specs.Managed.{Managed, number_started, numbers_started, numbers_granted, requests_among, replies_among}
use Rattle.beep_management.specs.Manages.{unsent, AreActs, AllFit, AreFresh, IsManaged}
use Rattle.beep_management.proofs.ListLemmas.{reverse-first, reverse-last, drop-at, fresh-split, fresh-count, started-append, some-act, plain-at, request-first, request-after, reply-first, reply-after}
use Rattle.beep_management.proofs.ClearLemmas.{SaysSame, granted-same}
use Rattle.beep_management.proofs.ItemLemmas.{none-sent}

-- ---- channel zero is there

-- a channel that stands for the history of channel zero
pub record HasZero (size : ℕ) (journal : List Item) (given taken : Marks) : Type 0 where
  pub channel : Live
  pub stands : Stands size channel.held (zero_history journal) (given 0) (taken 0)

pub has-zero : (size : ℕ) (lives journal : List Item) (given taken : Marks) (channels : List Live) → AreLive size lives journal given taken channels → HasZero size journal given taken
has-zero size lives journal given taken channels s = of (live_at 0 channels) refl
  where
    of : (o : Option Live) → live_at 0 channels ≡ o → HasZero size journal given taken
    of None at = absurd (let none : true ≡ false = s.there 0 ∙ ap (λ (o : Option Live). is_some o) at in cc)
    of (Some c) at = record { channel = c; stands = s.zero c at }

-- ---- kinds

pub rpy-replies : (kind : Kind) → same_kind Kind.Rpy kind ≡ true → is_msg kind ≡ false
rpy-replies Kind.Msg same = absurd (let none : false ≡ true = same in cc)
rpy-replies Kind.Rpy same = refl
rpy-replies Kind.Err same = refl
rpy-replies Kind.Ans same = refl
rpy-replies Kind.Nul same = refl

-- a reply that fits grants where it is an RPY
grants-where : (b : Bool) (kind other : Kind) (o says : Option Form) (one : Kept) → same_kind Kind.Rpy kind ≡ b → kind ≡ other → o ≡ says
    → fits other says one ≡ true → grants kind o one ≡ b
grants-where b kind other o says one same is said fit =
    ap (λ (x : Bool). same_kind Kind.Rpy kind && x) (ap (λ (k : Kind). fits k o one) is ∙ ap (λ (form : Option Form). fits other form one) said ∙ fit)
    ∙ and-true (same_kind Kind.Rpy kind) ∙ same
  where
    and-true : (b : Bool) → (b && true) ≡ b
    and-true true = refl
    and-true false = refl

-- ---- the message that goes out

module _ (size : ℕ) (lives journal : List Item) (given taken : Marks) (channels : List Live) (head : Head) (payload : List ℕ)
    (s : AreLive size lives (passed Side.Sent head payload ∷ began Side.Sent head ∷ journal) given taken channels)
    (zero : (head.channel == 0) ≡ true) (last : head.more ≡ false) where
  abbrev before : List Item
  before = began Side.Sent head ∷ journal

  abbrev now : List Item
  now = passed Side.Sent head payload ∷ began Side.Sent head ∷ journal

  abbrev past : List Item
  past = zero_history (began Side.Sent head ∷ journal)

  abbrev form : Option Form
  form = message_said (gathered Side.Sent (zero_history (began Side.Sent head ∷ journal)) ++ payload)

  zero-now : zero_history now ≡ passed Side.Sent head payload ∷ past
  zero-now = rw zero refl

  stood : HasZero size now given taken
  stood = has-zero size lives now given taken channels s

  keeps : KeepsExchangeRules (zero_history now)
  keeps = stood.stands.held.exchange.unbroken

  keeps-both : KeepsExchangeRules (passed Side.Sent head payload ∷ past)
  keeps-both = subst KeepsExchangeRules zero-now keeps

  ends-request : is_msg head.kind ≡ true → EndsRequest Side.Sent head past
  ends-request request = record { keeps = keeps-both.2; under = keeps-both.0; last = last; request = request }

  -- a request begins and ends no life
  pub request-still : is_msg head.kind ≡ true → MovesNone (events before) (events now)
  request-still request =
      subst (λ (z : List Item). MovesNone (zero_events past) (zero_events z)) (sym zero-now) (request-moves Side.Sent head payload past (ends-request request))

  waits-now : (side : Side) (ks : List Kept) → AreWaiting side (passed Side.Sent head payload ∷ past) ks → AreWaiting side (zero_history now) ks
  waits-now side ks w = subst (λ (z : List Item). AreWaiting side z ks) (sym zero-now) w

  sent-more : length (contents Side.Sent now) ≡ suc (length (contents Side.Sent before))
  sent-more = ap length contents-now ∙ length-append (contents Side.Sent before) _ ∙ omega arith
    where
      contents-now : contents Side.Sent now ≡ contents Side.Sent before ++ (gathered Side.Sent past ++ payload) ∷ []
      contents-now = rw (zero, last) refl

  came-same : ends_of is_msg (marks Side.Received (zero_history now)) ≡ ends_of is_msg (marks Side.Received past)
  came-same = ap (λ (z : List Item). ends_of is_msg (marks Side.Received z)) zero-now ∙ none-sent past head payload

  module _ (m : Managed) (spoken prepared : List Spoken) (d : IsManaged size (began Side.Sent head ∷ journal) given m spoken prepared) where
    said : IsSaid spoken (length (contents Side.Sent before)) head.kind (gathered Side.Sent past ++ payload)
    said = next-said spoken (given 0) (marks_of stood.channel.held.queue) before head payload keeps d.spoken_is stood.stands.all_given zero last

    next : unsent spoken before ≡ said.one ∷ unsent spoken now
    next = drop-at spoken (length (contents Side.Sent before)) said.one said.at ∙ ap (λ n. said.one ∷ drop n spoken) (sym sent-more)

    within : length (contents Side.Sent now) ≤ length spoken
    within = let here = slice_get_within spoken (length (contents Side.Sent before)) said.one said.at in omega (arith, here, sent-more)

    says : form ≡ Some said.one.form
    says = said.says

    -- ---- a request

    module _ (request : is_msg head.kind ≡ true) where
      one-asks : is_msg said.one.kind ≡ true
      one-asks = ap is_msg (sym said.kind_is) ∙ request

      acts-then : AreActs (said.one ∷ requests_among (unsent spoken now)) (reverse m.acts.requests)
      acts-then = subst (λ (l : List Spoken). AreActs l (reverse m.acts.requests)) (ap requests_among next ∙ request-first said.one (unsent spoken now) one-asks) d.acts

      pub some-acts : 0 < length m.acts.requests
      some-acts = some-act said.one (requests_among (unsent spoken now)) m.acts.requests acts-then

      replies-same : replies_among (unsent spoken before) ≡ replies_among (unsent spoken now)
      replies-same = ap replies_among next ∙ reply-after said.one (unsent spoken now) one-asks

      pub request-waits : (live : ℕ → Bool) (later : List Kept) (one : Kept) (mine acts : Queue) → SaysLive live (events before)
          → m.acts.requests ≡ later ++ one ∷ [] → acts.requests ≡ later → mine.requests ≡ new_kept live one.said ∷ m.mine.requests → length later ≤ mine.room
          → IsManaged size now given (record m { mine = mine; acts = acts }) spoken prepared
      request-waits live later one mine acts live-says split rest more room = record {
        spoken_is = d.spoken_is;
        sent = within;
        plain = d.plain;
        mine = subst (λ (ks : List Kept). AreWaiting Side.Sent (zero_history now) ks)
            (ap (λ (o : Option Form). new_kept live o ∷ m.mine.requests) (says ∙ sym acts-one.0) ∙ sym more)
            (waits-now Side.Sent (new_kept live form ∷ m.mine.requests) (request-mine Side.Sent head payload past (ends-request request) live m.mine.requests live-says d.mine));
        theirs = waits-now Side.Received m.theirs.requests (request-theirs Side.Sent head payload past (ends-request request) m.theirs.requests d.theirs);
        acts = subst (λ (ks : List Kept). AreActs (requests_among (unsent spoken now)) (reverse ks)) (sym rest) acts-one.2;
        answers = d.answers;
        fit = subst (λ (l : List Spoken). AllFit (l ++ prepared) (reverse m.theirs.requests)) replies-same d.fit;
        starting = subst (λ (ns : List ℕ). AreFresh size ns m.starting) numbers-same d.starting;
        granted = subst (λ (l : List Spoken). AreFresh size (numbers_granted (l ++ prepared) (reverse m.theirs.requests)) m.granted) replies-same d.granted;
        owed = d.owed ∙ ap (λ n. n + 1) (sym came-same);
        room = omega (arith, room, ap length rest);
      }
        where
          turned : reverse m.acts.requests ≡ one ∷ reverse later
          turned = ap reverse split ∙ reverse-last later one

          acts-one : AreActs (said.one ∷ requests_among (unsent spoken now)) (one ∷ reverse later)
          acts-one = subst (λ (ks : List Kept). AreActs (said.one ∷ requests_among (unsent spoken now)) ks) turned acts-then

          mine-turned : reverse mine.requests ≡ reverse m.mine.requests ++ new_kept live one.said ∷ []
          mine-turned = ap reverse more ∙ reverse-first (new_kept live one.said) m.mine.requests

          numbers-same : numbers_started (reverse m.mine.requests ++ reverse m.acts.requests) ≡ numbers_started (reverse mine.requests ++ reverse acts.requests)
          numbers-same =
              ap (λ (ks : List Kept). numbers_started (reverse m.mine.requests ++ ks)) turned
              ∙ started-append (reverse m.mine.requests) (one ∷ reverse later)
              ∙ sym (started-append (reverse m.mine.requests) (new_kept live one.said ∷ reverse later))
              ∙ ap numbers_started (sym (append_assoc (reverse m.mine.requests) (new_kept live one.said ∷ []) (reverse later)))
              ∙ ap (λ (ks : List Kept). numbers_started (ks ++ reverse later)) (sym mine-turned)
              ∙ ap (λ (ks : List Kept). numbers_started (reverse mine.requests ++ reverse ks)) (sym rest)

    -- ---- a reply

    module _ (reply : is_msg head.kind ≡ false) where
      one-answers : is_msg said.one.kind ≡ false
      one-answers = ap is_msg (sym said.kind_is) ∙ reply

      ends-reply : EndsReply Side.Sent head past
      ends-reply = record {
        keeps = keeps-both.2;
        under = keeps-both.0;
        last = last;
        reply = rw reply refl;
        alone = ap is_ans said.kind_is ∙ plain-at spoken (length (contents Side.Sent before)) said.one d.plain said.at;
      }

      pub reply-some : 0 < length m.theirs.requests
      reply-some = reply-waits Side.Sent head payload past ends-reply m.theirs.requests d.theirs

      requests-same : requests_among (unsent spoken before) ≡ requests_among (unsent spoken now)
      requests-same = ap requests_among next ∙ request-after said.one (unsent spoken now) one-answers

      abbrev replies : List Spoken
      replies = replies_among (unsent spoken now) ++ prepared

      replies-then : replies_among (unsent spoken before) ++ prepared ≡ said.one ∷ (replies_among (unsent spoken now) ++ prepared)
      replies-then = ap (λ (l : List Spoken). l ++ prepared) (ap replies_among next ∙ reply-first said.one (unsent spoken now) one-answers)

      module _ (later : List Kept) (one : Kept) (split : m.theirs.requests ≡ later ++ one ∷ []) where
        turned : reverse m.theirs.requests ≡ one ∷ reverse later
        turned = ap reverse split ∙ reverse-last later one

        waited : AreWaiting Side.Received past (later ++ one ∷ [])
        waited = subst (λ (ks : List Kept). AreWaiting Side.Received past ks) split d.theirs

        fit-then : AllFit (said.one ∷ replies) (one ∷ reverse later)
        fit-then =
            subst (λ (ks : List Kept). AllFit (said.one ∷ replies) ks) turned
            (subst (λ (l : List Spoken). AllFit l (reverse m.theirs.requests)) replies-then d.fit)

        granted-then : AreFresh size (numbers_granted (said.one ∷ replies) (one ∷ reverse later)) m.granted
        granted-then =
            subst (λ (ks : List Kept). AreFresh size (numbers_granted (said.one ∷ replies) ks) m.granted) turned
            (subst (λ (l : List Spoken). AreFresh size (numbers_granted l (reverse m.theirs.requests)) m.granted) replies-then d.granted)

        -- it grants the oldest where it is an RPY
        grants-oldest : (b : Bool) → same_kind Kind.Rpy head.kind ≡ b → grants head.kind form one ≡ b
        grants-oldest b same = grants-where b head.kind said.one.kind form (Some said.one.form) one same said.kind_is says fit-then.0

        one-kind : (b : Bool) → same_kind Kind.Rpy head.kind ≡ b → same_kind Kind.Rpy said.one.kind ≡ b
        one-kind b same = ap (same_kind Kind.Rpy) (sym said.kind_is) ∙ same

        -- ---- ERR

        module _ (refuses : same_kind Kind.Rpy head.kind ≡ false) where
          pub refused-still : MovesNone (events before) (events now)
          refused-still =
              subst (λ (z : List Item). MovesNone (zero_events past) (zero_events z)) (sym zero-now)
              (refusal-moves Side.Sent head payload past ends-reply later one waited (grants-oldest false refuses))

          granted-still : AreFresh size (numbers_granted replies (reverse later)) m.granted
          granted-still =
              subst (λ (b : Bool). AreFresh size (if b then number_started one.said ++ numbers_granted replies (reverse later) else numbers_granted replies (reverse later)) m.granted)
              (one-kind false refuses) granted-then

          pub answer-refuses : (theirs : Queue) → theirs.requests ≡ later → IsManaged size now given (record m { theirs = theirs }) spoken prepared
          answer-refuses theirs rest = record {
            spoken_is = d.spoken_is;
            sent = within;
            plain = d.plain;
            mine = waits-now Side.Sent m.mine.requests
                (refusal-mine Side.Sent head payload past ends-reply later one waited (grants-oldest false refuses) m.mine.requests d.mine);
            theirs = subst (λ (ks : List Kept). AreWaiting Side.Received (zero_history now) ks) (sym rest)
                (waits-now Side.Received later (refusal-theirs Side.Sent head payload past ends-reply later one waited (grants-oldest false refuses)));
            acts = subst (λ (l : List Spoken). AreActs l (reverse m.acts.requests)) requests-same d.acts;
            answers = d.answers;
            fit = subst (λ (ks : List Kept). AllFit replies (reverse ks)) (sym rest) fit-then.1;
            starting = d.starting;
            granted = subst (λ (ks : List Kept). AreFresh size (numbers_granted replies (reverse ks)) m.granted) (sym rest) granted-still;
            owed = d.owed ∙ ap (λ n. n + 1) (sym came-same);
            room = d.room;
          }

        -- ---- RPY

        module _ (allows : same_kind Kind.Rpy head.kind ≡ true) where
          granted-all : AreFresh size (number_started one.said ++ numbers_granted replies (reverse later)) m.granted
          granted-all =
              subst (λ (b : Bool). AreFresh size (if b then number_started one.said ++ numbers_granted replies (reverse later) else numbers_granted replies (reverse later)) m.granted)
              (one-kind true allows) granted-then

          pub grant-has-one : length (number_started one.said) ≤ length m.granted
          grant-has-one =
              let count = fresh-count size (number_started one.said ++ numbers_granted replies (reverse later)) m.granted granted-all in
              omega (arith, count, length-append (number_started one.said) (numbers_granted replies (reverse later)))

          pub grant-still : (live : ℕ → Bool) → SaysLive live (events before) → IsGranted live one (events before) (events now)
          grant-still live live-says =
              subst (λ (z : List Item). IsGranted live one (zero_events past) (zero_events z)) (sym zero-now)
              (grant-moves Side.Sent head payload past ends-reply later one waited (grants-oldest true allows) live live-says)

          module _ (first granted : List Live) (are : m.granted ≡ first ++ granted) (count : length first ≡ length (number_started one.said)) where
            parts : AreFresh size (number_started one.said) first × AreFresh size (numbers_granted replies (reverse later)) granted
            parts =
                fresh-split size (number_started one.said) (numbers_granted replies (reverse later)) first granted count
                (subst (λ (xs : List Live). AreFresh size (number_started one.said ++ numbers_granted replies (reverse later)) xs) are granted-all)

            pub first-fresh : AreFresh size (number_started one.said) first
            first-fresh = parts.0

            pub answer-grants : (mine acts theirs : Queue) → mine.requests ≡ after_grant one m.mine.requests → length m.acts.requests ≤ mine.room
                → acts.requests ≡ after_grant one m.acts.requests → theirs.requests ≡ after_grant one later
                → IsManaged size now given (record m { mine = mine; acts = acts; theirs = theirs; granted = granted }) spoken prepared
            answer-grants mine acts theirs mine-are room acts-are theirs-are =
                let n = granted-same one m.mine.requests mine.requests mine-are in
                let a = granted-same one m.acts.requests acts.requests acts-are in
                let t = granted-same one later theirs.requests theirs-are in
                record {
                  spoken_is = d.spoken_is;
                  sent = within;
                  plain = d.plain;
                  mine = subst (λ (ks : List Kept). AreWaiting Side.Sent (zero_history now) ks) (sym mine-are)
                      (waits-now Side.Sent (after_grant one m.mine.requests)
                      (grant-mine Side.Sent head payload past ends-reply later one waited (grants-oldest true allows) m.mine.requests d.mine));
                  theirs = subst (λ (ks : List Kept). AreWaiting Side.Received (zero_history now) ks) (sym theirs-are)
                      (waits-now Side.Received (after_grant one later) (grant-theirs Side.Sent head payload past ends-reply later one waited (grants-oldest true allows)));
                  acts = a.acts (requests_among (unsent spoken now)) (subst (λ (l : List Spoken). AreActs l (reverse m.acts.requests)) requests-same d.acts);
                  answers = d.answers;
                  fit = t.fit replies fit-then.1;
                  starting = subst (λ (ns : List ℕ). AreFresh size ns m.starting) (sym (numbers-same n a)) d.starting;
                  granted = subst (λ (ns : List ℕ). AreFresh size ns granted) (sym (t.granted replies)) parts.1;
                  owed = d.owed ∙ ap (λ n. n + 1) (sym came-same);
                  room = omega (arith, room, a.count);
                }
              where
                numbers-same : SaysSame m.mine.requests mine.requests → SaysSame m.acts.requests acts.requests
                    → numbers_started (reverse mine.requests ++ reverse acts.requests) ≡ numbers_started (reverse m.mine.requests ++ reverse m.acts.requests)
                numbers-same n a =
                    started-append (reverse mine.requests) (reverse acts.requests)
                    ∙ ap (λ (ns : List ℕ). ns ++ numbers_started (reverse acts.requests)) n.started
                    ∙ ap (λ (ns : List ℕ). numbers_started (reverse m.mine.requests) ++ ns) a.started
                    ∙ sym (started-append (reverse m.mine.requests) (reverse m.acts.requests))
