-- Whether the last frame of an own message of channel zero releases the session, as it goes out.
use Rattle.std.proofs.Common.{◌≡◌, ℕ, suc, ◌==◌, Bool, true, false, not, ◌&&◌, ◌||◌, List, [], ◌∷◌, ◌++◌, length, drop, reverse, Option, refl, sym, ap, ◌∙◌, subst}
use Rattle.beep_upright.specs.beep_frame.specs.declared.head.Head.{Head}
use Rattle.beep_upright.specs.beep_frame.specs.declared.kind.Kind.{Kind}
use Rattle.beep_upright.specs.beep_frame.specs.Frame.{is_msg, is_ans, same_kind}
use Rattle.beep_upright.specs.beep_mgmt.specs.Form.{Form}
use Rattle.beep_upright.specs.beep_mgmt.specs.Message.{message_said}
use Rattle.beep_upright.specs.beep_history.specs.declared.journal.Side.{Side}
use Rattle.beep_upright.specs.beep_history.specs.Journal.{Item, began, passed}
use Rattle.beep_upright.specs.beep_history.specs.Broken.{KeepsExchangeRules}
use Rattle.beep_upright.specs.beep_outbox.specs.Queue.{marks_of}
use Rattle.beep_upright.specs.beep_journal.specs.Lives.{has_release}
use Rattle.beep_upright.specs.beep_journal.specs.Zero.{zero_history, zero_events, gathered}
use Rattle.beep_upright.specs.beep_journal.specs.Laws.{contents}
use Rattle.beep_upright.specs.beep_journal.specs.Life.{is_released}
use Rattle.beep_upright.specs.beep_channel.specs.Held.{Live}
use Rattle.beep_upright.specs.beep_standing.specs.Standing.{Marks, AreLive}
use Rattle.beep_upright.specs.beep_spoken.specs.Spoken.{Spoken, IsSaid}
use Rattle.beep_upright.specs.beep_spoken.proofs.SpokenLemmas.{next-said}
use Rattle.beep_upright.specs.beep_decide.specs.Asks.{is_close_of}
use Rattle.beep_upright.specs.beep_asked.specs.Kept.{Kept, fits, grants}
use Rattle.beep_upright.specs.beep_asked.specs.Asked.{AreWaiting, EndsReply}
use Rattle.beep_upright.specs.beep_asked.proofs.LawsLemmas.{request-releases, grant-releases}
use Rattle.beep_upright.specs.beep_management.specs.Managed.{Managed, replies_among}
use Rattle.beep_upright.specs.beep_management.specs.Manages.{unsent, AllFit, IsManaged}
use Rattle.beep_upright.specs.beep_management.proofs.ListLemmas.{reverse-last, drop-at, reply-first}
use Rattle.beep_upright.specs.beep_management.proofs.SentLemmas.{HasZero, has-zero, rpy-replies}

rpy-alone : (kind : Kind) → same_kind Kind.Rpy kind ≡ true → is_ans kind ≡ false
rpy-alone Kind.Msg same = refl
rpy-alone Kind.Rpy same = refl
rpy-alone Kind.Err same = refl
rpy-alone Kind.Ans same = absurd (let none : false ≡ true = same in cc)
rpy-alone Kind.Nul same = refl

module _ (size : ℕ) (lives journal : List Item) (given taken : Marks) (channels : List Live) (head : Head) (payload : List ℕ)
    (s : AreLive size lives (passed Side.Sent head payload ∷ began Side.Sent head ∷ journal) given taken channels)
    (zero : (head.channel == 0) ≡ true) (last : head.more ≡ false) where
  abbrev before : List Item
  before = began Side.Sent head ∷ journal

  abbrev now : List Item
  now = passed Side.Sent head payload ∷ began Side.Sent head ∷ journal

  abbrev past : List Item
  past = zero_history (began Side.Sent head ∷ journal)

  abbrev form : Option Form
  form = message_said (gathered Side.Sent (zero_history (began Side.Sent head ∷ journal)) ++ payload)

  zero-now : zero_history now ≡ passed Side.Sent head payload ∷ past
  zero-now = rw zero refl

  stood : HasZero size now given taken
  stood = has-zero size lives now given taken channels s

  keeps : KeepsExchangeRules (passed Side.Sent head payload ∷ past)
  keeps = subst KeepsExchangeRules zero-now stood.stands.held.exchange.unbroken

  released-now : (b : Bool) → has_release (zero_events (passed Side.Sent head payload ∷ past)) ≡ b → is_released now ≡ b
  released-now b is = ap (λ (z : List Item). has_release (zero_events z)) zero-now ∙ is

  -- no request does
  pub request-keeps : is_msg head.kind ≡ true → is_released now ≡ is_released before
  request-keeps request =
      released-now (is_released before) (request-releases Side.Sent head payload past (record { keeps = keeps.2; under = keeps.0; last = last; request = request }))

  -- no refusal does
  pub refusal-keeps : is_msg head.kind ≡ false → same_kind Kind.Rpy head.kind ≡ false → is_released now ≡ is_released before
  refusal-keeps reply refuses = released-now (is_released before) (rw (last, reply, refuses) refl)

  -- a grant of a close of 0 does
  module _ (m : Managed) (spoken prepared : List Spoken) (d : IsManaged size (began Side.Sent head ∷ journal) given m spoken prepared)
      (later : List Kept) (one : Kept) (split : m.theirs.requests ≡ later ++ one ∷ []) (allows : same_kind Kind.Rpy head.kind ≡ true) where
    said : IsSaid spoken (length (contents Side.Sent before)) head.kind (gathered Side.Sent past ++ payload)
    said =
        next-said spoken (given 0) (marks_of stood.channel.held.queue) before head payload stood.stands.held.exchange.unbroken d.spoken_is stood.stands.all_given zero last

    abbrev left : List Spoken
    left = drop (suc (length (contents Side.Sent before))) spoken

    answers : is_msg said.one.kind ≡ false
    answers = ap is_msg (sym said.kind_is) ∙ rpy-replies head.kind allows

    replies : replies_among (unsent spoken before) ++ prepared ≡ said.one ∷ (replies_among left ++ prepared)
    replies =
        ap (λ (l : List Spoken). l ++ prepared)
        (ap replies_among (drop-at spoken (length (contents Side.Sent before)) said.one said.at) ∙ reply-first said.one left answers)

    fit : AllFit (said.one ∷ (replies_among left ++ prepared)) (one ∷ reverse later)
    fit =
        subst (λ (ks : List Kept). AllFit (said.one ∷ (replies_among left ++ prepared)) ks) (ap reverse split ∙ reverse-last later one)
        (subst (λ (l : List Spoken). AllFit l (reverse m.theirs.requests)) replies d.fit)

    grants-one : grants head.kind form one ≡ true
    grants-one =
        ap (λ (b : Bool). b && fits head.kind form one) allows
        ∙ ap (λ (k : Kind). fits k form one) said.kind_is ∙ ap (λ (o : Option Form). fits said.one.kind o one) said.says ∙ fit.0

    waited : AreWaiting Side.Received past (later ++ one ∷ [])
    waited = subst (λ (ks : List Kept). AreWaiting Side.Received past ks) split d.theirs

    ends : EndsReply Side.Sent head past
    ends = record {
      keeps = keeps.2;
      under = keeps.0;
      last = last;
      reply = ap not (rpy-replies head.kind allows);
      alone = rpy-alone head.kind allows;
    }

    pub grant-keeps : is_released now ≡ (is_close_of 0 one.said || is_released before)
    grant-keeps = released-now (is_close_of 0 one.said || is_released before) (grant-releases Side.Sent head payload past ends later one waited grants-one)
