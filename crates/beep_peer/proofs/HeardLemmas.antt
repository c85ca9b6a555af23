-- An upright end stays upright, as a request of the peer passes and its answer waits.
use Rattle.std.proofs.Common.{◌≡◌, ℕ, ◌+◌, ◌<◌, ◌==◌, nat_lt, Bool, true, false, ◌&&◌, if◌then◌else◌, List, [], ◌∷◌, ◌++◌, append-nil, Option, Some, None, is_some, refl, sym, ap, ◌∙◌, arith, subst}
use Rattle.std.specs.List.{list_any}
use Rattle.std.specs.Option.{option_to_list}
use Rattle.std.proofs.lemmas.Bool.Decides.{nat_tests}
use Rattle.beep_upright.specs.beep_frame.specs.declared.head.Head.{Head}
use Rattle.beep_upright.specs.beep_frame.specs.declared.kind.Kind.{Kind}
use Rattle.beep_upright.specs.beep_frame.specs.Frame.{same_kind}
use Rattle.beep_upright.specs.beep_mgmt.specs.Form.{Form, PlainProfile, greeting, start, chosen, close, okay, fault}
use Rattle.beep_upright.specs.beep_history.specs.declared.journal.Side.{Side}
use Rattle.beep_upright.specs.beep_history.specs.Journal.{Item, passed}
use Rattle.beep_upright.specs.beep_journal.specs.Lives.{is_live}
use Rattle.beep_upright.specs.beep_journal.specs.Zero.{events}
use Rattle.beep_upright.specs.beep_channel.specs.Held.{Live}
use Rattle.beep_upright.specs.beep_lives.specs.Lives.{live_at, numbers, IsAscendingFrom}
use Rattle.beep_upright.specs.beep_lives.proofs.ListLemmas.{live-any}
use Rattle.beep_upright.specs.beep_decide.specs.Decide.{PlainStanding, Decision, refuse, choose, tune, grant_close, is_among, decide}
use Rattle.beep_upright.specs.beep_decide.specs.Numbers.{other_role, may_start}
use Rattle.beep_upright.specs.beep_lawful.specs.declared.terms.Terms.{Terms}
use Rattle.beep_upright.specs.beep_standing.specs.Standing.{Marks, AreLiveBy}
use Rattle.beep_hearing.specs.Hears.{Passes, KeepsZeroRoom}
use Rattle.beep_upright.specs.beep_asked.specs.Kept.{Kept, new_kept, names_one}
use Rattle.beep_answering.specs.declared.settled.Settled.{Settled}
use Rattle.beep_answering.specs.Decided.{SettledBy, kind_of}
use Rattle.beep_upright.specs.beep_management.specs.declared.wait.Wait.{Wait}
use Rattle.beep_upright.specs.beep_management.specs.Managed.{Managed, numbers_of, number_started, numbers_granted}
use Rattle.beep_upright.specs.beep_management.specs.Manages.{AreFresh, IsFresh}
use Rattle.beep_upright.specs.beep_management.specs.Moved.{is_live_in}
use Rattle.beep_upright.specs.beep_management.proofs.LivesLemmas.{says-live}
use Rattle.beep_upright.specs.Turns.{kinds_at}
use Rattle.beep_upright.specs.Upright.{asked_at, MayBegin, wait_of, IsHeldBack, IsUpright}
use Rattle.beep_upright.proofs.TestLemmas.{or-one, or-two}
use Rattle.beep_upright.proofs.DecideLemmas.{IsChosen, start-chosen, close-granted, may-join}
use Rattle.beep_upright.proofs.KindsLemmas.{count-replies}
use Rattle.beep_upright.proofs.CameFrameLemmas.{request-heard}
use Rattle.beep_peer.specs.declared.peer.Peer.{Peer}
use Rattle.beep_peer.specs.Peering.{WaitsIn}
use Rattle.beep_peer.specs.Calls.{IsDone}
use Rattle.beep_peer.specs.Standing.{leaves, rest_of}
use Rattle.beep_peer.proofs.CameLemmas.{HasCame, came-done}
use Rattle.beep_peer.proofs.KindsLemmas.{upright-same}
use Rattle.beep_peer.proofs.ObeyLemmas.{sent-same}
use Rattle.beep_peer.proofs.WentLemmas.{kinds-stay, asked-stay}

-- ---- the numbers above zero

none-below : (least : ℕ) (channels : List Live) → IsAscendingFrom least channels → 0 < least → is_some (live_at 0 channels) ≡ false
none-below least [] up above = refl
none-below least (c ∷ channels) up above =
    ap (λ (b : Bool). is_some (if b then Some c else live_at 0 channels)) (apart c.held.number (omega (arith, up.0, above)))
    ∙ none-below (c.held.number + 1) channels up.1 (omega arith)
  where
    apart : (n : ℕ) → 0 < n → (n == 0) ≡ false
    apart n above = grind (arith, nat_tests)

-- a number above zero is live exactly where it stands after that of channel zero
pub live-rest : (channels : List Live) → IsAscendingFrom 0 channels → is_some (live_at 0 channels) ≡ true → (n : ℕ) → (n == 0) ≡ false
    → is_live_in channels n ≡ is_among n (rest_of (numbers channels))
live-rest [] up there n above = cc
live-rest (c ∷ channels) up there n above = of (c.held.number == 0) refl there
  where
    other : (k n : ℕ) → (k == 0) ≡ true → (n == 0) ≡ false → (k == n) ≡ false
    other k n zero above = grind (arith, nat_tests)

    of : (b : Bool) → (c.held.number == 0) ≡ b → is_some (if b then Some c else live_at 0 channels) ≡ true
        → is_live_in (c ∷ channels) n ≡ is_among n (numbers channels)
    of true zero there =
        ap (λ (b : Bool). is_some (if b then Some c else live_at n channels)) (other c.held.number n zero above) ∙ live-any n channels
    of false zero there = absurd (let e : true ≡ false = sym there ∙ none-below (c.held.number + 1) channels up.1 (omega arith) in cc)

none-after : (test : ℕ → Bool) (xs ys : List ℕ) → list_any test (xs ++ ys) ≡ false → list_any test ys ≡ false
none-after test [] ys e = e
none-after test (x ∷ xs) ys e = none-after test xs ys (or-two (test x) _ e)

-- ---- by the decision

module _ (terms : Terms) (size : ℕ) (fed : List ℕ) (journal : List Item) (given taken : Marks) (head : Head) (payload : List ℕ) (peer : Peer)
    (w : WaitsIn size fed journal given taken head payload peer) (new : Managed) (h : HasCame size head peer new)
    (channels : List Live) (order : numbers channels ≡ numbers peer.lives) (keeps : KeepsZeroRoom peer.lives channels)
    (p : Passes size journal (passed Side.Received head payload ∷ journal) given taken channels)
    (first : List Live) (stood : AreLiveBy size journal given taken first) (u : IsUpright terms journal first peer.management)
    (standing : PlainStanding) (role : standing.role ≡ terms.role) (live : standing.live ≡ rest_of (numbers peer.lives))
    (starting : standing.starting ≡ numbers_of peer.management.starting ++ numbers_of peer.management.granted)
    (leaving : leaves peer.management ≡ true → standing.leaving ≡ true)
    (settled : Settled) (kind : h.answer.kind ≡ kind_of (decide standing h.said)) (by : SettledBy (decide standing h.said) h.said settled h.answer.waits) where
  abbrev now : List Item
  now = passed Side.Received head payload ∷ journal

  abbrev m : Managed
  m = peer.management

  abbrev kept : Kept
  kept = new_kept (is_live_in peer.lives) h.said

  refuses : (code : ℕ) → h.answer.kind ≡ kind_of (refuse code) → same_kind Kind.Rpy h.answer.kind ≡ true → ⊥
  refuses code k rpy = let e : false ≡ true = sym (ap (same_kind Kind.Rpy) k) ∙ rpy in cc

  -- the answer waits for what it has to
  held : IsHeldBack h.answer kept
  held rpy = of (decide standing h.said) h.said refl kind by
    where
      closes : (n : ℕ) (z : Bool) → (n == 0) ≡ z → (z ≡ false → (nat_lt 0 n && is_live_in peer.lives n) ≡ true)
          → (if z then Wait.All else Wait.Life n) ≡ (if z then Wait.All else if nat_lt 0 n && is_live_in peer.lives n then Wait.Life n else Wait.Nothing)
      closes n true zero names = refl
      closes n false zero names = rw (names refl) refl

      above : (n : ℕ) → (n == 0) ≡ false → nat_lt 0 n ≡ true
      above n e = grind (arith, nat_tests)

      of : (d : Decision) (said : Option Form) → decide standing said ≡ d → h.answer.kind ≡ kind_of d → SettledBy d said settled h.answer.waits
          → h.answer.waits ≡ wait_of said (names_one (is_live_in peer.lives) said)
      of (refuse code) said is k s = absurd (refuses code k rpy)
      of (tune place content) said is k s = absurd s
      of (choose place) None is k s = absurd s
      of (choose place) (Some (greeting features localize profiles)) is k s = absurd s
      of (choose place) (Some (start number server profiles)) is k s = s.1
      of (choose place) (Some (chosen profile)) is k s = absurd s
      of (choose place) (Some (close number code note)) is k s = absurd s
      of (choose place) (Some okay) is k s = absurd s
      of (choose place) (Some (fault code note)) is k s = absurd s
      of grant_close None is k s = absurd s
      of grant_close (Some (greeting features localize profiles)) is k s = absurd s
      of grant_close (Some (start number server profiles)) is k s = absurd s
      of grant_close (Some (chosen profile)) is k s = absurd s
      of grant_close (Some (close number code note)) is k s =
          s.1 ∙ closes number (number == 0) refl (λ e.
          rw (above number e) (live-rest peer.lives w.waits.live.ascending (sym (w.waits.live.there 0)) number e
          ∙ ap (is_among number) (sym live) ∙ close-granted standing number is e))
      of grant_close (Some okay) is k s = absurd s
      of grant_close (Some (fault code note)) is k s = absurd s

  -- what it grants may begin
  record Grants (channel : Option Live) : Type 0 where
    may : MayBegin (other_role terms.role) journal (m.granted ++ option_to_list channel)
    none : leaves m ≡ true → option_to_list channel ≡ []

  chosen-start : (n : ℕ) (server : Option (List ℕ)) (profiles : List PlainProfile) (d : Decision) → same_kind Kind.Rpy h.answer.kind ≡ true
      → decide standing (Some (start n server profiles)) ≡ d → h.answer.kind ≡ kind_of d → SettledBy d (Some (start n server profiles)) settled h.answer.waits → IsChosen standing n
  chosen-start n server profiles (refuse code) rpy is k s = absurd (refuses code k rpy)
  chosen-start n server profiles (choose place) rpy is k s = start-chosen standing n profiles place is
  chosen-start n server profiles (tune place content) rpy is k s = absurd s
  chosen-start n server profiles grant_close rpy is k s = absurd s

  begins : (c : Live) (n : ℕ) → IsFresh size n c → IsChosen standing n → Grants (Some c)
  begins c n fresh pick = record {
    may = may-join (other_role terms.role) journal m.granted c u.granted
        (ap (may_start (other_role terms.role)) fresh.is ∙ ap (λ r. may_start (other_role r) n) (sym role) ∙ pick.may)
        (ap (λ (k : ℕ). is_live k (events journal)) fresh.is ∙ sym (says-live size journal journal given taken peer.lives w.waits.live n fresh.above)
        ∙ live-rest peer.lives w.waits.live.ascending (sym (w.waits.live.there 0)) n fresh.above ∙ ap (is_among n) (sym live)
        ∙ or-one (is_among n standing.live) _ pick.unused)
        (ap (λ (k : ℕ). is_among k (numbers_of m.granted)) fresh.is
        ∙ none-after (λ (k : ℕ). k == n) (numbers_of m.starting) (numbers_of m.granted)
        (ap (is_among n) (sym starting) ∙ or-two (is_among n standing.live) (is_among n standing.starting) pick.unused));
    none = λ leaves. absurd (let e : true ≡ false = sym (leaving leaves) ∙ pick.staying in cc);
  }

  grants : (channel : Option Live) → AreFresh size (numbers_granted (h.answers.one ∷ []) (kept ∷ [])) (option_to_list channel) → Grants channel
  grants None fresh = record {
    may = subst (λ (l : List Live). MayBegin (other_role terms.role) journal l) (sym (append-nil m.granted)) u.granted;
    none = λ leaves. refl;
  }
  grants (Some c) fresh = of (same_kind Kind.Rpy h.answers.one.kind) refl h.said refl kind by fresh
    where
      of : (b : Bool) → same_kind Kind.Rpy h.answers.one.kind ≡ b → (said : Option Form) → h.said ≡ said → h.answer.kind ≡ kind_of (decide standing said)
          → SettledBy (decide standing said) said settled h.answer.waits
          → AreFresh size (if b then number_started said ++ [] else []) (c ∷ []) → Grants (Some c)
      of false same said is k s f = absurd f
      of true same None is k s f = absurd f
      of true same (Some (greeting features localize profiles)) is k s f = absurd f
      of true same (Some (start number server profiles)) is k s f =
          begins c number f.0 (chosen-start number server profiles (decide standing (Some (start number server profiles)))
          (ap (same_kind Kind.Rpy) (sym h.answers.is.kind) ∙ same) refl k s)
      of true same (Some (chosen profile)) is k s f = absurd f
      of true same (Some (close number code note)) is k s f = absurd f
      of true same (Some okay) is k s f = absurd f
      of true same (Some (fault code note)) is k s f = absurd f

  granted : Grants h.channel
  granted = grants h.channel (h.answers.granted kept refl)

  granted-is : new.granted ≡ m.granted ++ option_to_list h.channel
  granted-is = ap (λ (x : Managed). x.granted) h.are

  pub came-upright : IsUpright terms now channels new
  came-upright =
      upright-same terms now first channels new
      (kinds-stay size journal journal now given taken done.given_now done.taken_now first channels stood done.holds.live done.zero_is (sent-same head payload journal w.waits.zero_is))
      (asked-stay size journal journal now given taken done.given_now done.taken_now first channels stood done.holds.live done.given_is done.taken_is)
      (request-heard terms journal (kinds_at 0 first) (asked_at first) m new u head payload w.waits.zero_is w.waits.last h.request w.manages.is.theirs
      (count-replies size journal journal given taken first m w.manages.spoken w.manages.prepared stood w.manages.is)
      h.answer kept held h.theirs (ap (λ (x : Managed). x.answers) h.are) (ap (λ (x : Managed). x.mine) h.are) (ap (λ (x : Managed). x.acts) h.are)
      (ap (λ (x : Managed). x.starting) h.are)
      (subst (λ (l : List Live). MayBegin (other_role terms.role) journal l) (sym granted-is) granted.may)
      (λ leaves none. granted-is ∙ ap (λ (l : List Live). l ++ option_to_list h.channel) none ∙ granted.none leaves))
    where
      done : IsDone size journal now given taken false channels new
      done = came-done size fed journal given taken head payload peer w new h channels order keeps p
