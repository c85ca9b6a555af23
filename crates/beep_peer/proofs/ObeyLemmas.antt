-- An upright end stays upright, as a reply of the peer passes and what it grants is done.
use Rattle.std.proofs.Common.{◌≡◌, ℕ, ◌==◌, Bool, true, false, ◌&&◌, List, ◌∷◌, Option, sym, append-nil}
use Rattle.std.specs.Prelude.{IfSome}
use Rattle.std.specs.Option.{option_map_or, option_to_list}
use Rattle.beep_upright.specs.beep_frame.specs.declared.head.Head.{Head}
use Rattle.beep_upright.specs.beep_frame.specs.declared.kind.Kind.{Kind}
use Rattle.beep_upright.specs.beep_frame.specs.Frame.{is_msg, same_kind}
use Rattle.beep_upright.specs.beep_mgmt.specs.Form.{Form}
use Rattle.beep_upright.specs.beep_mgmt.specs.Message.{message_said}
use Rattle.beep_upright.specs.beep_history.specs.declared.journal.Side.{Side}
use Rattle.beep_upright.specs.beep_history.specs.Journal.{Item, passed}
use Rattle.beep_upright.specs.beep_history.specs.Marks.{marks}
use Rattle.beep_upright.specs.beep_journal.specs.Zero.{zero_history}
use Rattle.beep_upright.specs.beep_channel.specs.Held.{Live}
use Rattle.beep_upright.specs.beep_lives.specs.Lives.{numbers}
use Rattle.beep_upright.specs.beep_decide.specs.Asks.{is_close_of}
use Rattle.beep_upright.specs.beep_lawful.specs.declared.terms.Terms.{Terms}
use Rattle.beep_upright.specs.beep_standing.specs.Standing.{Marks}
use Rattle.beep_hearing.specs.Hears.{Passes, KeepsZeroRoom}
use Rattle.beep_upright.specs.beep_asked.specs.Kept.{Kept, oldest, fits}
use Rattle.beep_upright.specs.beep_management.specs.Managed.{Managed, number_started}
use Rattle.beep_upright.specs.beep_management.specs.Manages.{AreFresh}
use Rattle.beep_upright.specs.beep_management.specs.Moved.{Does, is_live_in}
use Rattle.beep_upright.specs.beep_management.specs.Steps.{TakesMine}
use Rattle.beep_upright.specs.beep_management.proofs.LivesLemmas.{says-live}
use Rattle.beep_upright.specs.Turns.{kinds_at}
use Rattle.beep_upright.specs.Upright.{asked_at, AreReady, IsUpright}
use Rattle.beep_upright.proofs.ReplyLemmas.{refusal-came, grant-came}
use Rattle.beep_peer.specs.declared.peer.Peer.{Peer}
use Rattle.beep_peer.specs.Peering.{WaitsIn}
use Rattle.beep_peer.specs.Calls.{IsDone}
use Rattle.beep_peer.proofs.KindsLemmas.{upright-same}
use Rattle.beep_peer.proofs.AnsweredLemmas.{refused-moves, moved, fresh, answered-done}
use Rattle.beep_peer.proofs.WentLemmas.{kinds-stay, asked-stay}

-- what the peer sends in channel zero sends nothing of this end
pub sent-same : (head : Head) (payload : List ℕ) (journal : List Item) → (head.channel == 0) ≡ true
    → marks Side.Sent (zero_history (passed Side.Received head payload ∷ journal)) ≡ marks Side.Sent (zero_history journal)
sent-same head payload journal zero = rw zero (append-nil (marks Side.Sent (zero_history journal)))

module _ (terms : Terms) (fed : List ℕ) (journal : List Item) (given taken : Marks) (head : Head) (payload : List ℕ) (peer : Peer)
    (w : WaitsIn terms.window fed journal given taken head payload peer) (reply : is_msg head.kind ≡ false) (said : Option Form)
    (is : said ≡ message_said peer.ear.text.octets) (fit : option_map_or (fits head.kind said) (oldest peer.management.mine.requests) false ≡ true)
    (one : Kept) (channel : Option Live) (new : Managed) (channels : List Live) (order : numbers channels ≡ numbers peer.lives) (kept : KeepsZeroRoom peer.lives channels)
    (pass : Passes terms.window journal (passed Side.Received head payload ∷ journal) given taken channels) (u : IsUpright terms journal peer.lives peer.management) where
  abbrev now : List Item
  now = passed Side.Received head payload ∷ journal

  ready : (b : Bool) → b ≡ same_kind Kind.Rpy head.kind → TakesMine b one channel peer.management new → AreReady terms now (kinds_at 0 peer.lives) (asked_at peer.lives) new
  ready true same p =
      grant-came terms journal (kinds_at 0 peer.lives) (asked_at peer.lives) peer.management new u head payload w.waits.zero_is reply one channel p (is_live_in channels)
      (says-live terms.window journal now given pass.taken_now channels pass.live)
      (moved terms.window fed journal given taken head payload peer w reply said is fit one channel new channels order kept pass (sym same) p)
      terms.window
      (fresh terms.window fed journal given taken head payload peer w reply said is fit one channel new channels order kept pass (sym same) p)
  ready false same p =
      refusal-came terms journal (kinds_at 0 peer.lives) (asked_at peer.lives) peer.management new u head payload w.waits.zero_is reply one channel p
      (refused-moves terms.window fed journal given taken head payload peer w reply said is fit one channel new channels order kept pass (sym same) p)

  pub answered-upright : (b : Bool) → b ≡ same_kind Kind.Rpy head.kind → TakesMine b one channel peer.management new → (after : List Live) (released : Bool)
      → (b ≡ true → (size : ℕ) (c : Live) → AreFresh size (number_started one.said) (option_to_list channel) → IfSome channel (λ one. one ≡ c)
      → Does size one.said one.names c channels after)
      → (b ≡ false → after ≡ channels) → released ≡ (b && is_close_of 0 one.said) → IsUpright terms now after new
  answered-upright b same p after released does stays releases =
      upright-same terms now peer.lives after new
      (kinds-stay terms.window journal journal now given taken done.given_now done.taken_now peer.lives after w.waits.live done.holds.live done.zero_is
      (sent-same head payload journal w.waits.zero_is))
      (asked-stay terms.window journal journal now given taken done.given_now done.taken_now peer.lives after w.waits.live done.holds.live done.given_is done.taken_is)
      (ready b same p)
    where
      done : IsDone terms.window journal now given taken released after new
      done =
          answered-done terms.window fed journal given taken head payload peer w reply said is fit one channel new channels order kept pass b same p after released does stays releases
