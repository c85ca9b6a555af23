-- What is left of an upright end stays upright, as an own message of channel zero goes out.
use Rattle.std.proofs.Common.{◌≡◌, ℕ, suc, ◌+◌, ◌≤◌, ◌==◌, Bool, true, false, not, ◌&&◌, if◌then◌else◌, List, [], ◌∷◌, ◌++◌, length, length-append, Option, refl, sym, ap, ◌∙◌, arith, subst}
use Rattle.std.specs.Prelude.{IfSome}
use Rattle.std.proofs.lemmas.List.{append_cancel_left}
use Rattle.std.specs.Option.{option_to_list}
use Rattle.beep_upright.specs.beep_frame.specs.declared.head.Head.{Head}
use Rattle.beep_upright.specs.beep_frame.specs.declared.kind.Kind.{Kind}
use Rattle.beep_upright.specs.beep_frame.specs.Frame.{is_msg, same_kind}
use Rattle.beep_upright.specs.beep_mgmt.specs.Form.{Form}
use Rattle.beep_upright.specs.beep_mgmt.specs.Message.{message_said}
use Rattle.beep_upright.specs.beep_history.specs.declared.journal.Side.{Side}
use Rattle.beep_upright.specs.beep_history.specs.Journal.{Item, began, passed}
use Rattle.beep_upright.specs.beep_history.specs.Marks.{Mark, marks}
use Rattle.beep_upright.specs.beep_history.specs.Broken.{KeepsExchangeRules}
use Rattle.beep_upright.specs.beep_exchange.specs.Given.{ends_reply}
use Rattle.beep_upright.specs.beep_journal.specs.Lives.{Event}
use Rattle.beep_upright.specs.beep_journal.specs.Zero.{zero_history, zero_events, asked, events, gathered}
use Rattle.beep_upright.specs.beep_journal.specs.Life.{is_there}
use Rattle.beep_upright.specs.beep_channel.specs.Held.{Live}
use Rattle.beep_upright.specs.beep_channel.specs.Stands.{ends_of}
use Rattle.beep_upright.specs.beep_decide.specs.Asks.{is_close_of}
use Rattle.beep_upright.specs.beep_lawful.specs.declared.terms.Terms.{Terms}
use Rattle.beep_upright.specs.beep_standing.specs.Standing.{Marks, AreLive, AreLiveBy}
use Rattle.beep_upright.specs.beep_spoken.specs.Spoken.{kinds_of}
use Rattle.beep_upright.specs.beep_asked.specs.Kept.{Kept, new_kept}
use Rattle.beep_upright.specs.beep_asked.specs.Asked.{AreAsked, AreWaiting, SaysLive}
use Rattle.beep_upright.specs.beep_management.specs.Managed.{Managed, number_started}
use Rattle.beep_upright.specs.beep_management.specs.Manages.{AreFresh}
use Rattle.beep_upright.specs.beep_management.specs.Moved.{Does, is_live_in}
use Rattle.beep_upright.specs.beep_management.specs.Steps.{PassesAct, TakesTheirs}
use Rattle.beep_upright.specs.beep_management.proofs.ClearLemmas.{granted-same}
use Rattle.beep_upright.specs.beep_management.proofs.SentLemmas.{HasZero, has-zero, rpy-replies, request-still, refused-still, grant-still, first-fresh}
use Rattle.beep_upright.specs.beep_management.proofs.LivesLemmas.{says-live}
use Rattle.beep_upright.specs.Turns.{kinds_at}
use Rattle.beep_upright.specs.Upright.{asked_at, AreReady, IsUpright}
use Rattle.beep_upright.proofs.MoreLemmas.{request_kinds}
use Rattle.beep_upright.proofs.KindsLemmas.{count-requests}
use Rattle.beep_upright.proofs.PassLemmas.{request-sent}
use Rattle.beep_upright.proofs.ReplyLemmas.{refusal-sent, grant-sent}
use Rattle.beep_peer.specs.Peering.{Carries}
use Rattle.beep_peer.specs.Calls.{HasGone, IsDone}
use Rattle.beep_peer.proofs.KindsLemmas.{kinds-by, asked-by, asked-none, upright-same}
use Rattle.beep_peer.proofs.GoneLemmas.{request-gone, grant-gone}

-- ---- the channels, before and after

module _ (size : ℕ) (lives past journal : List Item) (given taken given-now taken-now : Marks) (old new : List Live) (was : AreLive size lives past given taken old)
    (is : AreLiveBy size journal given-now taken-now new) where
  -- the same is unsent in channel zero
  pub kinds-stay : given-now 0 ≡ given 0 → marks Side.Sent (zero_history journal) ≡ marks Side.Sent (zero_history past) → kinds_at 0 new ≡ kinds_at 0 old
  kinds-stay zero sent =
      append_cancel_left (kinds_of (marks Side.Sent (zero_history past))) (kinds_at 0 new) (kinds_at 0 old)
      (ap (λ (xs : List Mark). kinds_of xs ++ kinds_at 0 new) (sym sent)
      ∙ sym (kinds-by size journal journal given-now taken-now new is) ∙ ap kinds_of zero ∙ kinds-by size lives past given taken old was)

  -- no more is asked above it
  pub asked-stay : Carries lives journal given given-now → Carries lives journal taken taken-now → (n : ℕ) → (n == 0) ≡ false → asked_at new n ≤ asked_at old n
  asked-stay gives takes n above = of (is_there n lives) (is_there n journal) refl refl
    where
      of : (b c : Bool) → is_there n lives ≡ b → is_there n journal ≡ c → asked_at new n ≤ asked_at old n
      of b false before after = omega (arith, asked-none size journal journal given-now taken-now new is n after)
      of false true before after =
          let now = asked-by size journal journal given-now taken-now new is n above after in
          omega (arith, now, ap (ends_of is_msg) (gives.fresh n before after))
      of true true before after =
          let now = asked-by size journal journal given-now taken-now new is n above after in
          let was-asked = asked-by size lives past given taken old was n above before in
          omega (arith, now, was-asked, ap (ends_of is_msg) (gives.same n above before), ap (ends_of ends_reply) (takes.same n above before))

-- what is said of the latest of the requests that were asked
first-asked : (es : List Event) (kept : Kept) (others : List Kept) (form : Option Form) (forms : List (Option Form)) → AreAsked Side.Sent es (kept ∷ others) (form ∷ forms) → form ≡ kept.said
first-asked es kept others form forms a = sym a.0.said

module _ (terms : Terms) (journal : List Item) (given taken : Marks) (head : Head) (payload : List ℕ) (channels : List Live) (m : Managed)
    (g : HasGone terms.window journal given taken head payload channels m) (r : AreReady terms journal (head.kind ∷ kinds_at 0 channels) (asked_at channels) m) where
  abbrev before : List Item
  before = began Side.Sent head ∷ journal

  abbrev now : List Item
  now = passed Side.Sent head payload ∷ began Side.Sent head ∷ journal

  stood : HasZero terms.window now given taken
  stood = has-zero terms.window before now given taken channels g.live

  zero-now : zero_history now ≡ passed Side.Sent head payload ∷ began Side.Sent head ∷ zero_history journal
  zero-now = rw g.zero_is refl

  keeps : KeepsExchangeRules (began Side.Sent head ∷ zero_history journal)
  keeps = (subst KeepsExchangeRules zero-now stood.stands.held.exchange.unbroken).2

  -- a header asks nothing
  header-back : (side : Side) (requests : List Kept) → AreWaiting side (zero_history before) requests → AreWaiting side (zero_history journal) requests
  header-back side requests w =
      let z : AreWaiting side (began Side.Sent head ∷ zero_history journal) requests =
      subst (λ (z : List Item). AreWaiting side z requests) (let is : zero_history before ≡ began Side.Sent head ∷ zero_history journal = rw g.zero_is refl in is) w in
      record { begun = z.begun; whole = z.whole; answered = z.answered; within = z.within; asked = z.asked }

  mine : AreWaiting Side.Sent (zero_history journal) m.mine.requests
  mine = header-back Side.Sent m.mine.requests g.manages.is.mine

  theirs : AreWaiting Side.Received (zero_history journal) m.theirs.requests
  theirs = header-back Side.Received m.theirs.requests g.manages.is.theirs

  says : SaysLive (is_live_in channels) (events before)
  says = says-live terms.window before now given taken channels g.live

  -- MSG
  pub request-upright : is_msg head.kind ≡ true → (new : Managed) → PassesAct (is_live_in channels) m new → IsUpright terms now channels new
  request-upright request new p =
      request-sent terms journal (head.kind ∷ kinds_at 0 channels) (kinds_at 0 channels) (asked_at channels) m new r head payload g.zero_is g.last request keeps mine theirs refl
      (is_live_in channels) says p (request-still terms.window before journal given taken channels head payload g.live g.zero_is g.last request) said count
    where
      done : IsDone terms.window before now given taken false channels new
      done = request-gone terms.window journal given taken head payload channels m g request new p

      asked-now : asked Side.Sent (zero_history now) ≡ message_said (gathered Side.Sent (zero_history before) ++ payload) ∷ asked Side.Sent (zero_history before)
      asked-now =
          ap (λ (b : Bool). asked Side.Sent (if b then passed Side.Sent head payload ∷ zero_history before else zero_history before)) g.zero_is
          ∙ ap (λ (b : Bool). if b then message_said (gathered Side.Sent (zero_history before) ++ payload) ∷ asked Side.Sent (zero_history before) else asked Side.Sent (zero_history before))
          (let test : (is_msg head.kind && not head.more) ≡ true = rw (request, g.last) refl in test)

      said : message_said (gathered Side.Sent (zero_history before) ++ payload) ≡ p.one.said
      said =
          first-asked (zero_events (zero_history now)) (new_kept (is_live_in channels) p.one.said) m.mine.requests _ (asked Side.Sent (zero_history before))
          (subst (λ (l : List (Option Form)). AreAsked Side.Sent (zero_events (zero_history now)) (new_kept (is_live_in channels) p.one.said ∷ m.mine.requests) l) asked-now
          (subst (λ (l : List Kept). AreAsked Side.Sent (zero_events (zero_history now)) l (asked Side.Sent (zero_history now))) p.mine done.holds.manages.is.mine.asked))

      count : length (request_kinds (head.kind ∷ kinds_at 0 channels)) ≡ length m.acts.requests
      count =
          let x = done.holds.manages in
          let later : length (request_kinds (kinds_at 0 channels)) ≡ length new.acts.requests =
          count-requests terms.window now now done.given_now done.taken_now channels new x.spoken x.prepared done.holds.live x.is in
          let here : length (request_kinds (head.kind ∷ kinds_at 0 channels)) ≡ suc (length (request_kinds (kinds_at 0 channels))) = rw request refl in
          let split : length m.acts.requests ≡ length p.later + 1 = ap length p.split ∙ length-append p.later (p.one ∷ []) in
          omega (arith, later, here, split, ap length p.acts.requests)

  -- ERR
  pub refusal-upright : is_msg head.kind ≡ false → same_kind Kind.Rpy head.kind ≡ false → (one : Kept) (channel : Option Live) (new : Managed) → TakesTheirs false one channel m new
      → IsUpright terms now channels new
  refusal-upright reply refuses one channel new p =
      refusal-sent terms journal (head.kind ∷ kinds_at 0 channels) (kinds_at 0 channels) (asked_at channels) m new r head payload g.zero_is reply refl theirs.within one channel p
      (refused-still terms.window before journal given taken channels head payload g.live g.zero_is g.last m g.manages.spoken g.manages.prepared g.manages.is reply p.later one p.split refuses)

  -- RPY
  pub grant-upright : same_kind Kind.Rpy head.kind ≡ true → (one : Kept) (channel : Option Live) (new : Managed) → TakesTheirs true one channel m new
      → (after : List Live) (released : Bool)
      → ((size : ℕ) (c : Live) → AreFresh size (number_started one.said) (option_to_list channel) → IfSome channel (λ one. one ≡ c) → Does size one.said one.names c channels after)
      → released ≡ is_close_of 0 one.said → IsUpright terms now after new
  grant-upright allows one channel new p after released does is =
      upright-same terms now channels after new kinds
      (asked-stay terms.window before now now given taken done.given_now done.taken_now channels after g.live done.holds.live done.given_is done.taken_is)
      (grant-sent terms journal (head.kind ∷ kinds_at 0 channels) (kinds_at 0 channels) (asked_at channels) m new r head payload g.zero_is reply refl theirs.within one channel p
      (is_live_in channels) says
      (grant-still terms.window before journal given taken channels head payload g.live g.zero_is g.last m g.manages.spoken g.manages.prepared g.manages.is reply p.later one p.split allows
      (is_live_in channels) says)
      terms.window
      (first-fresh terms.window before journal given taken channels head payload g.live g.zero_is g.last m g.manages.spoken g.manages.prepared g.manages.is reply p.later one p.split allows
      (option_to_list channel) new.granted p.granted p.sized)
      allows count)
    where
      reply : is_msg head.kind ≡ false
      reply = rpy-replies head.kind allows

      done : IsDone terms.window before now given taken released after new
      done = grant-gone terms.window journal given taken head payload channels m g one channel new allows p after released does is

      kinds : kinds_at 0 after ≡ kinds_at 0 channels
      kinds = kinds-stay terms.window before now now given taken done.given_now done.taken_now channels after g.live done.holds.live done.zero_is refl

      count : length m.acts.requests ≤ length (request_kinds (head.kind ∷ kinds_at 0 channels))
      count =
          let x = done.holds.manages in
          let later : length (request_kinds (kinds_at 0 after)) ≡ length new.acts.requests =
          count-requests terms.window now now done.given_now done.taken_now after new x.spoken x.prepared done.holds.live x.is in
          let here : length (request_kinds (head.kind ∷ kinds_at 0 channels)) ≡ length (request_kinds (kinds_at 0 channels)) = rw reply refl in
          omega (arith, later, here, ap (λ (ks : List Kind). length (request_kinds ks)) kinds, (granted-same one m.acts.requests new.acts.requests p.acts.requests).count)
