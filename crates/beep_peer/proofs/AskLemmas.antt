-- A request that a program may give leaves an upright end so.
use Rattle.std.proofs.Common.{◌≡◌, ℕ, ◌+◌, ◌≤◌, ◌==◌, Bool, true, false, List, [], ◌∷◌, ◌++◌, length, append-nil, append_assoc, Option, Some, None, is_some, refl, sym, ap, ◌∙◌, arith, subst}
use Rattle.std.specs.Option.{option_to_list}
use Rattle.std.proofs.lemmas.Bool.Decides.{nat_tests}
use Rattle.std.proofs.lemmas.List.{append_cancel_left}
use Rattle.beep_upright.specs.beep_frame.specs.declared.kind.Kind.{Kind}
use Rattle.beep_upright.specs.beep_frame.specs.Frame.{is_msg}
use Rattle.beep_upright.specs.beep_mgmt.specs.Form.{Form, greeting, start, chosen, close, okay, fault}
use Rattle.beep_upright.specs.beep_history.specs.declared.journal.Side.{Side}
use Rattle.beep_upright.specs.beep_history.specs.Journal.{Item}
use Rattle.beep_upright.specs.beep_history.specs.Marks.{marks, requests}
use Rattle.beep_upright.specs.beep_journal.specs.Lives.{is_live}
use Rattle.beep_upright.specs.beep_journal.specs.Zero.{zero_history, events}
use Rattle.beep_upright.specs.beep_journal.specs.Life.{is_there}
use Rattle.beep_upright.specs.beep_outbox.specs.Queue.{message_marks}
use Rattle.beep_upright.specs.beep_channel.specs.Held.{Live}
use Rattle.beep_upright.specs.beep_channel.specs.Stands.{ends_of}
use Rattle.beep_upright.specs.beep_lives.specs.Lives.{live_at}
use Rattle.beep_upright.specs.beep_lawful.specs.declared.terms.Terms.{Terms}
use Rattle.beep_upright.specs.beep_standing.specs.Standing.{Marks, with_marks}
use Rattle.beep_upright.specs.beep_spoken.specs.Spoken.{kinds_of}
use Rattle.beep_upright.specs.beep_asked.specs.Kept.{Kept}
use Rattle.beep_upright.specs.beep_management.specs.Managed.{Managed, number_started}
use Rattle.beep_upright.specs.beep_management.specs.Manages.{AreFresh}
use Rattle.beep_upright.specs.beep_management.proofs.LivesLemmas.{says-live}
use Rattle.beep_upright.specs.Turns.{kinds_at, reply_kinds}
use Rattle.beep_upright.specs.Upright.{asked_at, asked_in, all_asked, AreReady, IsUpright}
use Rattle.beep_upright.proofs.MoreLemmas.{request_kinds}
use Rattle.beep_upright.proofs.ReadyLemmas.{less-asked}
use Rattle.beep_upright.proofs.KindsLemmas.{zero-kinds, count-requests, count-replies, requests-given}
use Rattle.beep_upright.proofs.GivenLemmas.{start-given, close-given, release-given, idle-life}
use Rattle.beep_peer.specs.declared.peer.Peer.{Peer}
use Rattle.beep_peer.specs.Peering.{Holds}
use Rattle.beep_peer.specs.Acts.{asked_of, GivesZero}
use Rattle.beep_peer.specs.Asking.{MayCloseWhere, MayAsk}
use Rattle.beep_peer.proofs.KindsLemmas.{kinds-append, queue-kinds, kinds-by, asked-by, asked-none}

module _ (terms : Terms) (journal : List Item) (given taken : Marks) (octets : List ℕ) (peer new : Peer) (h : Holds terms.window journal given taken peer.lives peer.management)
    (g : GivesZero terms.window journal given taken octets new) (u : IsUpright terms journal peer.lives peer.management) (kept : Kept) (channel : Option Live)
    (acts : new.management.acts.requests ≡ kept ∷ peer.management.acts.requests) (mine : new.management.mine.requests ≡ peer.management.mine.requests)
    (are : new.management ≡ record peer.management {
      mine = new.management.mine;
      acts = new.management.acts;
      starting = peer.management.starting ++ option_to_list channel;
    })
    (fresh : AreFresh terms.window (number_started kept.said) (option_to_list channel)) where
  abbrev m : Managed
  m = peer.management

  -- one more request is unsent in channel zero
  kinds-more : kinds_at 0 new.lives ≡ kinds_at 0 peer.lives ++ Kind.Msg ∷ []
  kinds-more =
      append_cancel_left (kinds_of (marks Side.Sent (zero_history journal))) (kinds_at 0 new.lives) (kinds_at 0 peer.lives ++ Kind.Msg ∷ [])
      (sym (kinds-by terms.window journal journal (with_marks 0 (given 0 ++ message_marks g.ask) given) taken new.lives g.holds.live)
      ∙ kinds-append (given 0) (message_marks g.ask)
      ∙ ap (λ (ks : List Kind). kinds_of (given 0) ++ ks) (ap kinds_of (sym (append-nil (message_marks g.ask))) ∙ queue-kinds (g.ask ∷ []) ∙ ap (λ (k : Kind). k ∷ []) g.is_msg)
      ∙ ap (λ (ks : List Kind). ks ++ Kind.Msg ∷ []) (kinds-by terms.window journal journal given taken peer.lives h.live)
      ∙ append_assoc (kinds_of (marks Side.Sent (zero_history journal))) (kinds_at 0 peer.lives) (Kind.Msg ∷ []))

  -- as much is asked above it
  asked-same : (n : ℕ) → (n == 0) ≡ false → asked_at new.lives n ≤ asked_at peer.lives n
  asked-same n above = of (is_there n journal) refl
    where
      turned : (n : ℕ) → (n == 0) ≡ false → (0 == n) ≡ false
      turned n e = grind (arith, nat_tests)

      same : with_marks 0 (given 0 ++ message_marks g.ask) given n ≡ given n
      same = rw (turned n above) refl

      of : (b : Bool) → is_there n journal ≡ b → asked_at new.lives n ≤ asked_at peer.lives n
      of false there =
          omega (arith, asked-none terms.window journal journal (with_marks 0 (given 0 ++ message_marks g.ask) given) taken new.lives g.holds.live n there)
      of true there =
          let now = asked-by terms.window journal journal (with_marks 0 (given 0 ++ message_marks g.ask) given) taken new.lives g.holds.live n above there in
          let was = asked-by terms.window journal journal given taken peer.lives h.live n above there in
          omega (arith, now, was, ap (ends_of is_msg) same)

  count : length (request_kinds (kinds_at 0 peer.lives)) ≡ length m.acts.requests
  count = count-requests terms.window journal journal given taken peer.lives m h.manages.spoken h.manages.prepared h.live h.manages.is

  replies : length (reply_kinds (kinds_at 0 peer.lives)) + length m.answers ≡ length m.theirs.requests
  replies = count-replies terms.window journal journal given taken peer.lives m h.manages.spoken h.manages.prepared h.live h.manages.is

  within : length (requests Side.Sent (zero_history journal)) ≤ length (all_asked journal m)
  within = requests-given terms.window journal journal given taken peer.lives m h.manages.spoken h.manages.prepared h.live h.manages.is

  starting : option_to_list channel ≡ [] → new.management.starting ≡ m.starting
  starting none = ap (λ (x : Managed). x.starting) are ∙ ap (λ (l : List Live). m.starting ++ l) none ∙ append-nil m.starting

  none-fresh : (o : Option Live) → AreFresh terms.window [] (option_to_list o) → option_to_list o ≡ []
  none-fresh None f = refl
  none-fresh (Some c) f = absurd f

  live-same : (n : ℕ) → (n == 0) ≡ false → is_live n (events journal) ≡ is_some (live_at n peer.lives)
  live-same n above = sym (says-live terms.window journal journal given taken peer.lives h.live n above)

  ready : (role-said : Option Form) → kept.said ≡ role-said → MayAsk terms.role peer kept.names role-said → AreReady terms journal (kinds_at 0 new.lives) (asked_at peer.lives) new.management
  ready None said may = absurd may
  ready (Some (greeting features localize profiles)) said may = absurd may
  ready (Some (chosen profile)) said may = absurd may
  ready (Some okay) said may = absurd may
  ready (Some (fault code note)) said may = absurd may
  ready (Some (start number server profiles)) said may = of channel refl (subst (λ (o : Option Form). AreFresh terms.window (number_started o) (option_to_list channel)) said fresh)
    where
      of : (o : Option Live) → channel ≡ o → AreFresh terms.window (number ∷ []) (option_to_list o) → AreReady terms journal (kinds_at 0 new.lives) (asked_at peer.lives) new.management
      of None is f = absurd f
      of (Some c) is f =
          start-given terms journal (kinds_at 0 peer.lives) (asked_at peer.lives) m new.management u kept acts mine (ap (λ (x : Managed). x.theirs) are)
          (ap (λ (x : Managed). x.answers) are) (ap (λ (x : Managed). x.granted) are) count replies within (kinds_at 0 new.lives) kinds-more
          number server profiles c said may.unnamed f.0.is (ap (λ (x : Managed). x.starting) are ∙ ap (λ (o : Option Live). m.starting ++ option_to_list o) is)
          may.may (live-same number f.0.above ∙ may.dead) may.unused may.staying
  ready (Some (close number code note)) said may = of (number == 0) refl may
    where
      none : option_to_list channel ≡ []
      none = none-fresh channel (subst (λ (o : Option Form). AreFresh terms.window (number_started o) (option_to_list channel)) said fresh)

      zero-is : (n : ℕ) → (n == 0) ≡ true → n ≡ 0
      zero-is n e = grind (arith, nat_tests)

      of : (b : Bool) → (number == 0) ≡ b → MayCloseWhere b peer number kept.names → AreReady terms journal (kinds_at 0 new.lives) (asked_at peer.lives) new.management
      of true zero may =
          release-given terms journal (kinds_at 0 peer.lives) (asked_at peer.lives) m new.management u kept acts mine (ap (λ (x : Managed). x.theirs) are)
          (ap (λ (x : Managed). x.answers) are) (ap (λ (x : Managed). x.granted) are) count replies within (kinds_at 0 new.lives) kinds-more
          terms.window given h.manages.spoken h.manages.prepared h.manages.is
          (zero-kinds terms.window journal journal given taken peer.lives m h.manages.spoken h.manages.prepared h.live h.manages.is) (starting none)
          code note (said ∙ ap (λ (n : ℕ). Some (close n code note)) (zero-is number zero)) may.unnamed may.mine may.acts may.starting may.granted
          (λ n above. h.live.there n ∙ may.none n above)
      of false above may = at (live_at number peer.lives) refl
        where
          live : is_live number (events journal) ≡ true
          live = live-same number above ∙ may.live

          at : (o : Option Live) → live_at number peer.lives ≡ o → AreReady terms journal (kinds_at 0 new.lives) (asked_at peer.lives) new.management
          at None is = absurd (let e : true ≡ false = sym may.live ∙ ap (λ (o : Option Live). is_some o) is in cc)
          at (Some c) is =
              close-given terms journal (kinds_at 0 peer.lives) (asked_at peer.lives) m new.management u kept acts mine (ap (λ (x : Managed). x.theirs) are)
              (ap (λ (x : Managed). x.answers) are) (ap (λ (x : Managed). x.granted) are) count replies within (kinds_at 0 new.lives) kinds-more
              terms.window given h.manages.spoken h.manages.prepared h.manages.is
              (zero-kinds terms.window journal journal given taken peer.lives m h.manages.spoken h.manages.prepared h.live h.manages.is) (starting none)
              number code note said may.named above live (ap asked_in is ∙ sym (ap asked_of is) ∙ may.none)
              (idle-life terms.window journal given taken peer.lives number c _ h.live above is (sym (ap asked_of is) ∙ may.none) live)

  pub ask-upright : MayAsk terms.role peer kept.names kept.said → IsUpright terms journal new.lives new.management
  ask-upright may = less-asked terms journal (kinds_at 0 new.lives) (asked_at peer.lives) (asked_at new.lives) new.management asked-same (ready kept.said refl may)
