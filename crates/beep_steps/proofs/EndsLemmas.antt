-- What a log shows of a session that is released or whose peer broke a rule.
use Rattle.std.proofs.Common.{◌≡◌, ◌∙◌, refl, sym, ap, subst, ℕ, ◌==◌, Bool, true, false, not, ◌&&◌, ◌||◌, inl, inr, List, [], ◌∷◌, ◌++◌, take, drop, Option, Some, None, append_assoc}
use Rattle.std.specs.Option.{is_none}
use Rattle.std.proofs.lemmas.List.{append_cancel_left}
use Rattle.beep_session.specs.beep_frame.specs.declared.rule.Rule.{Rule}
use Rattle.beep_session.specs.beep_frame.specs.Frame.{is_msg}
use Rattle.beep_session.specs.beep_history.specs.declared.journal.Side.{Side}
use Rattle.beep_session.specs.beep_history.specs.Journal.{Item, passed}
use Rattle.beep_session.specs.beep_history.specs.Broken.{under_way}
use Rattle.beep_session.specs.beep_journal.specs.Zero.{zero_history, completes_form}
use Rattle.beep_session.specs.beep_journal.specs.Broken.{none_tunes, broken_content}
use Rattle.beep_session.specs.beep_journal.specs.Journal.{Past, Fault, Shows, Takes, TakesWhere, EndsFrame, fault_at, passes, goes_on, spelled}
use Rattle.beep_session.specs.beep_journal.specs.Life.{is_released}
use Rattle.beep_session.specs.beep_journal.specs.Log.{Moment, got, got_all}
use Rattle.beep_session.specs.beep_journal.proofs.ShownLemmas.{one-shown}
use Rattle.beep_session.specs.beep_frame.specs.Laws.{Means}
use Rattle.beep_session.specs.beep_frame.specs.Fed.{fed_of}
use Rattle.beep_session.specs.beep_frame.proofs.LawLemmas.{means}
use Rattle.beep_session.specs.beep_hearing.specs.Hears.{Breaks, Join}
use Rattle.beep_session.specs.beep_peer.proofs.GainLemmas.{gained-released}
use Rattle.beep_session.specs.beep_peer.specs.Peering.{IsPeer}
use Rattle.beep_session.specs.beep_standing.specs.Standing.{Marks}
use Rattle.beep_session.specs.declared.event.Event.{Event}
use Rattle.beep_session.specs.Feeds.{Feeds}
use Rattle.beep_session.specs.Lawfully.{terms_of}
use Rattle.beep_session.specs.Session.{Held}
use Rattle.beep_logged.proofs.EndLemmas.{released-gots}
use Rattle.beep_logged.proofs.JoinLemmas.{all-reached, spelled-items, text_of}
use Rattle.beep_logged.proofs.OctetLemmas.{At, May, many, many-append, many-got, takes-of}
use Rattle.beep_logged.proofs.ReadLemmas.{lawful-journal, to-received}
use Rattle.beep_steps.specs.Logs.{StandsOn, WaitsOn}
use Rattle.beep_steps.specs.Steps.{CameBelow}
use Rattle.beep_steps.proofs.CallLemmas.{content-breaks}
use Rattle.beep_steps.proofs.OnLemmas.{got-rest}

-- ---- after a fault

stopped-where : (fault : Option Fault) (f : Fault) (b : Bool) → fault ≡ Some f → (is_none fault && b) ≡ false
stopped-where None f b e = absurd (let h : None ≡ Some f = e in cc)
stopped-where (Some g) f b e = refl

stays-where : (b : Bool) (octet : ℕ) (past : Past) → b ≡ false → TakesWhere b none_tunes Side.Received octet past past
stays-where true octet past e = absurd (let h : true ≡ false = e in cc)
stays-where false octet past e = refl

-- octets that are read after it change nothing
stuck-gots : (past : Past) (f : Fault) → past.fault ≡ Some f → (octets : List ℕ) (log : List Moment) → Shows none_tunes log past → Shows none_tunes (got_all octets log) past
stuck-gots past f e [] log s = s
stuck-gots past f e (octet ∷ octets) log s =
    stuck-gots past f e octets (got octet ∷ log) (past, s, stays-where (goes_on past && not (is_released past.journal)) octet past (stopped-where past.fault f (not (is_released past.journal)) e))

-- what one past has gained all have
below-of : (journal : List Item) (log : List Moment) (past : Past) → Shows none_tunes log past → CameBelow journal past.journal → (other : Past) → Shows none_tunes log other → CameBelow journal other.journal
below-of journal log past s b other t = subst (λ (p : Past). CameBelow journal p.journal) (one-shown none_tunes log past other s t) b

-- ---- a feed

-- the octets after those that were fed
octets-after : (fed rest octets after : List ℕ) (journal gained : List Item) → Join gained journal → fed ≡ spelled Side.Received journal ++ rest
    → fed ++ octets ≡ spelled Side.Received (gained ++ journal) ++ after → rest ++ octets ≡ text_of gained ++ after
octets-after fed rest octets after journal gained j was now =
    append_cancel_left (spelled Side.Received journal) (rest ++ octets) (text_of gained ++ after)
    (sym (append_assoc (spelled Side.Received journal) rest octets) ∙ ap (λ x. x ++ octets) (sym was) ∙ now
    ∙ ap (λ x. x ++ after) (spelled-items gained journal j) ∙ append_assoc (spelled Side.Received journal) (text_of gained) after)

module _ (bytes : List ℕ) (old : Held) (log : List Moment) (s : StandsOn old log) where
  pub released-ends : is_released s.journal ≡ true → (past : Past) → Shows none_tunes (got_all bytes log) past → CameBelow s.journal past.journal
  released-ends e past shows =
      let l = released-gots (terms_of old) s.rest bytes s.journal log e s.logged in
      below-of s.journal (got_all bytes log) l.shown.past l.shown.shows (record { gained = []; journal_is = l.shown.journal_is; none_above = refl }) past shows

  pub breaks-journal : (count : ℕ) (new : Held) (rule : Rule) (place : ℕ) → is_released s.journal ≡ false
      → (b : Breaks rule place old.limits.window (take count bytes) s.fed s.journal s.given s.taken new.peer.ear new.peer.lives)
      → (past : Past) → Shows none_tunes (got_all bytes log) past → past.journal ≡ b.gained ++ s.journal
  breaks-journal count new rule place unreleased b past other =
      let terms = terms_of old in
      let was = s.stands.stands.hears.is_fed in
      let known : Means old.peer.ear.decoder (fed_of s.fed was.frames s.rest (under_way Side.Received s.journal)) =
      means old.peer.ear.decoder s.fed was.frames s.rest (under_way Side.Received s.journal) was.was_fed in
      let front = many Side.Received b.before log in
      let at : At terms Side.Received (b.gained ++ s.journal) b.rest [] front =
      all-reached terms s.journal s.rest b.before log (to-received terms s.rest s.journal log s.logged) unreleased (lawful-journal terms s.rest s.journal log s.logged) known.stream.unfinished known.is_head
      b.gained b.join b.quiet b.rest b.less b.is_head (octets-after s.fed s.rest b.before b.rest s.journal b.gained b.join was.fed_is b.fed_is) in
      let after : Past = record at.past { fault = Some (fault_at Side.Received at.past rule) } in
      let may : May Side.Received (b.gained ++ s.journal) [] = (gained-released b.gained s.journal b.quiet ∙ unreleased, refl) in
      let takes : Takes none_tunes (got b.octet) at.past after = takes-of terms (b.gained ++ s.journal) b.rest [] front b.octet Side.Received at may after (b.breaks at.past at.journal_is at.rest_is) in
      let used : got_all (take count bytes) log ≡ got b.octet ∷ front =
      sym (many-got (take count bytes) log) ∙ ap (λ x. many Side.Received x log) b.octets_are ∙ many-append Side.Received b.before (b.octet ∷ []) log in
      let shows : Shows none_tunes (got_all (take count bytes) log) after = subst (λ (l : List Moment). Shows none_tunes l after) (sym used) (at.past, at.shows, takes) in
      let whole : Shows none_tunes (got_all bytes log) after =
      subst (λ (l : List Moment). Shows none_tunes l after) (got-rest count bytes log) (stuck-gots after (fault_at Side.Received at.past rule) refl (drop count bytes) (got_all (take count bytes) log) shows) in
      ap (λ (p : Past). p.journal) (one-shown none_tunes (got_all bytes log) past after other whole) ∙ at.journal_is

  breaks-ends : (count : ℕ) (new : Held) (rule : Rule) (place : ℕ) → is_released s.journal ≡ false
      → Breaks rule place old.limits.window (take count bytes) s.fed s.journal s.given s.taken new.peer.ear new.peer.lives
      → (past : Past) → Shows none_tunes (got_all bytes log) past → CameBelow s.journal past.journal
  breaks-ends count new rule place unreleased b past shows = record {
    gained = b.gained;
    journal_is = breaks-journal count new rule place unreleased b past shows;
    none_above = b.none_above;
  }

  pub feed-released : (event : Event) (released : Bool) → old.peer.released ≡ released → event ≡ Event.Released → (count : ℕ) (new : Held)
      → ((fed rest : List ℕ) (journal : List Item) (given taken : Marks) → old.peer.released ≡ false → IsPeer old.limits.window fed rest journal given taken old.peer
      → Feeds event old.limits.window (take count bytes) fed journal given taken new.peer)
      → (past : Past) → Shows none_tunes (got_all bytes log) past → CameBelow s.journal past.journal
  feed-released event true e is count new answers = released-ends (sym s.stands.stands.released ∙ e)
  feed-released event false e is count new answers =
      absurd (subst (λ (x : Event). Feeds x old.limits.window (take count bytes) s.fed s.journal s.given s.taken new.peer) is (answers s.fed s.rest s.journal s.given s.taken e s.stands.stands))

  pub feed-broken : (event : Event) (released : Bool) → old.peer.released ≡ released → (rule : Rule) (place : ℕ) → event ≡ Event.Broken rule place → (count : ℕ) (new : Held)
      → ((fed rest : List ℕ) (journal : List Item) (given taken : Marks) → old.peer.released ≡ false → IsPeer old.limits.window fed rest journal given taken old.peer
      → Feeds event old.limits.window (take count bytes) fed journal given taken new.peer)
      → (old.peer.released ≡ true → event ≡ Event.Released)
      → (past : Past) → Shows none_tunes (got_all bytes log) past → CameBelow s.journal past.journal
  feed-broken event true e rule place is count new answers rests = absurd (let h : Event.Broken rule place ≡ Event.Released = sym is ∙ rests e in cc)
  feed-broken event false e rule place is count new answers rests =
      breaks-ends count new rule place (sym s.stands.stands.released ∙ e)
      (subst (λ (x : Event). Feeds x old.limits.window (take count bytes) s.fed s.journal s.given s.taken new.peer) is (answers s.fed s.rest s.journal s.given s.taken e s.stands.stands))

-- ---- a message that waits

takes-true : (b : Bool) (octet : ℕ) (old new : Past) → b ≡ true → TakesWhere true none_tunes Side.Received octet old new → TakesWhere b none_tunes Side.Received octet old new
takes-true true octet old new e t = t
takes-true false octet old new e t = absurd (let h : false ≡ true = e in cc)

goes-true : (fault : Option Fault) (released : Bool) → fault ≡ None → released ≡ false → (is_none fault && not released) ≡ true
goes-true None released e f = ap not f
goes-true (Some fault) released e f = absurd (let h : Some fault ≡ None = e in cc)

zero-below : (z : Bool) → z ≡ true → (not z || false) ≡ false
zero-below true e = refl
zero-below false e = absurd (let h : false ≡ true = e in cc)

pub waiting-journal : (old : Held) (log : List Moment) (w : WaitsOn old log) → is_msg w.head.kind ≡ false → completes_form Side.Received w.head w.payload (zero_history w.journal) ≡ false
    → is_released w.journal ≡ false → (octets : List ℕ) (past : Past) → Shows none_tunes (got_all octets log) past → past.journal ≡ passed Side.Received w.head w.payload ∷ w.journal
waiting-journal old log w reply none unreleased octets past other =
    let k = w.waits.waits in
    let l = w.logged in
    let before = l.logged.shown in
    let breaks : broken_content Side.Received before.past.journal w.head w.payload ≡ Some Rule.ZeroReply =
    ap (λ j. broken_content Side.Received j w.head w.payload) before.journal_is ∙ content-breaks w.journal w.head w.payload k.zero_is k.last reply none in
    let after : Past = passes (Some Rule.ZeroReply) Side.Received w.head w.payload before.past in
    let ends : EndsFrame Side.Received l.octet before.past after = record {
      head = w.head;
      payload = w.payload;
      is_frame = k.is_frame;
      whole = ap (λ r. r ++ l.octet ∷ []) before.rest_is ∙ l.spelled;
      new_is = ap (λ (b : Option Rule). passes b Side.Received w.head w.payload before.past) (sym breaks);
    } in
    let takes : Takes none_tunes (got l.octet) before.past after =
    takes-true (goes_on before.past && not (is_released before.past.journal)) l.octet before.past after
    (goes-true before.past.fault (is_released before.past.journal) before.going (ap is_released before.journal_is ∙ unreleased)) (inr (inr (inl ends))) in
    let shows : Shows none_tunes log after = subst (λ (x : List Moment). Shows none_tunes x after) (sym l.log_is) (before.past, before.shows, takes) in
    ap (λ (p : Past). p.journal) (one-shown none_tunes (got_all octets log) past after other (stuck-gots after (fault_at Side.Received before.past Rule.ZeroReply) refl octets log shows))
    ∙ ap (λ j. passed Side.Received w.head w.payload ∷ j) before.journal_is

pub waiting-ends : (old : Held) (log : List Moment) (w : WaitsOn old log) → is_msg w.head.kind ≡ false → completes_form Side.Received w.head w.payload (zero_history w.journal) ≡ false
    → is_released w.journal ≡ false → (octets : List ℕ) (past : Past) → Shows none_tunes (got_all octets log) past → CameBelow w.journal past.journal
waiting-ends old log w reply none unreleased octets past shows = record {
  gained = passed Side.Received w.head w.payload ∷ [];
  journal_is = waiting-journal old log w reply none unreleased octets past shows;
  none_above = zero-below (w.head.channel == 0) w.waits.waits.zero_is;
}

-- ---- one that goes on

pub still-going : (old new : Held) (event other : Event) → event ≡ other → (other ≡ Event.Released → ⊥) → (released : Bool) → old.peer.released ≡ released → new.peer.released ≡ old.peer.released
    → (old.peer.released ≡ true → event ≡ Event.Released) → new.peer.released ≡ false
still-going old new event other is apart true e kept rests = absurd (apart (sym is ∙ rests e))
still-going old new event other is apart false e kept rests = kept ∙ e
