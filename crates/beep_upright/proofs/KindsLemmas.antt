-- The kinds of channel zero's unsent messages, by what is kept of it.
use Rattle.std.proofs.Common.{◌≡◌, ℕ, suc, ◌+◌, ◌≤◌, nat_lt, Bool, true, false, not, ◌&&◌, if◌then◌else◌, List, [], ◌∷◌, ◌++◌, length, length-append, map, drop, reverse, Option, None, Some, is_some, refl, sym, ap, ◌∙◌, arith, subst}
use Rattle.std.specs.Option.{option_map_or}
use Rattle.std.proofs.lemmas.Bool.Decides.{nat_tests}
use Rattle.std.proofs.lemmas.List.{length-map, length-reverse}
use Rattle.beep_management.specs.beep_frame.specs.declared.head.Head.{Head}
use Rattle.beep_management.specs.beep_frame.specs.declared.kind.Kind.{Kind}
use Rattle.beep_management.specs.beep_frame.specs.Frame.{is_msg}
use Rattle.beep_management.specs.beep_history.specs.declared.journal.Side.{Side}
use Rattle.beep_management.specs.beep_history.specs.Journal.{Item}
use Rattle.beep_management.specs.beep_history.specs.Marks.{marks, mark_modulo_2_64, requests, previous}
use Rattle.beep_management.specs.beep_history.specs.Broken.{under_way}
use Rattle.beep_management.specs.beep_history.proofs.SoundLemmas.{Sound, is_open}
use Rattle.beep_management.specs.beep_history.proofs.PassedLemmas.{sound}
use Rattle.beep_management.specs.beep_exchange.specs.Kept.{Kept as KeptOf}
use Rattle.beep_management.specs.beep_outbox.specs.Queue.{Message, marks_of}
use Rattle.beep_management.specs.beep_journal.specs.Zero.{zero_history, asked}
use Rattle.beep_management.specs.beep_journal.specs.Laws.{contents}
use Rattle.beep_management.specs.beep_journal.proofs.PiecesLemmas.{are-cut}
use Rattle.beep_management.specs.beep_channel.specs.Held.{Live}
use Rattle.beep_management.specs.beep_channel.specs.Stands.{Stands}
use Rattle.beep_management.specs.beep_channel.specs.Fits.{as_number, asks as asks_in}
use Rattle.beep_management.specs.beep_channel.specs.Sums.{is_partly}
use Rattle.beep_management.specs.beep_lives.specs.Lives.{live_at}
use Rattle.beep_management.specs.beep_spoken.specs.Spoken.{Spoken, kinds_of}
use Rattle.beep_management.specs.beep_standing.specs.Standing.{Marks, AreLive}
use Rattle.beep_management.specs.beep_asked.specs.Kept.{Kept}
use Rattle.beep_management.specs.Managed.{Prepared, Managed, requests_among, replies_among}
use Rattle.beep_management.specs.Manages.{unsent, AreActs, ArePrepared, IsManaged}
use Rattle.beep_management.proofs.ListLemmas.{fit-count}
use Rattle.beep_management.proofs.SentLemmas.{HasZero, has-zero}
use Rattle.beep_upright.specs.Turns.{kinds_in, kinds_at, reply_kinds}
use Rattle.beep_upright.specs.Upright.{all_asked}
use Rattle.beep_upright.proofs.NextLemmas.{kinds-append, kinds-modulo, kinds-count, queue-kinds}
use Rattle.beep_upright.proofs.MoreLemmas.{request_kinds}

-- ---- kinds of messages

requests-count : (messages : List Spoken) → length (request_kinds (map (λ (one : Spoken). one.kind) messages)) ≡ length (requests_among messages)
requests-count [] = refl
requests-count (one ∷ messages) = of (is_msg one.kind) (requests-count messages)
  where
    of : (b : Bool) → length (request_kinds (map (λ (one : Spoken). one.kind) messages)) ≡ length (requests_among messages)
        → length (if b then one.kind ∷ request_kinds (map (λ (one : Spoken). one.kind) messages) else request_kinds (map (λ (one : Spoken). one.kind) messages))
        ≡ length (if b then one ∷ requests_among messages else requests_among messages)
    of true e = ap (λ n. suc n) e
    of false e = e

replies-count : (messages : List Spoken) → length (reply_kinds (map (λ (one : Spoken). one.kind) messages)) ≡ length (replies_among messages)
replies-count [] = refl
replies-count (one ∷ messages) = of (not (is_msg one.kind)) (replies-count messages)
  where
    of : (b : Bool) → length (reply_kinds (map (λ (one : Spoken). one.kind) messages)) ≡ length (replies_among messages)
        → length (if b then one.kind ∷ reply_kinds (map (λ (one : Spoken). one.kind) messages) else reply_kinds (map (λ (one : Spoken). one.kind) messages))
        ≡ length (if b then one ∷ replies_among messages else replies_among messages)
    of true e = ap (λ n. suc n) e
    of false e = e

acts-count : (messages : List Spoken) (acts : List Kept) → AreActs messages acts → length messages ≡ length acts
acts-count [] [] a = refl
acts-count [] (kept ∷ acts) a = absurd a
acts-count (one ∷ messages) [] a = absurd a
acts-count (one ∷ messages) (kept ∷ acts) a = ap (λ n. suc n) (acts-count messages acts a.2)

prepared-count : (answers : List Prepared) (messages : List Spoken) → ArePrepared answers messages → length answers ≡ length messages
prepared-count [] [] a = refl
prepared-count [] (one ∷ messages) a = absurd a
prepared-count (answer ∷ answers) [] a = absurd a
prepared-count (answer ∷ answers) (one ∷ messages) a = ap (λ n. suc n) (prepared-count answers messages a.1)

queue-asks : (queue : List Message) → asks_in queue ≡ length (request_kinds (map (λ (m : Message). m.tag.kind) queue))
queue-asks [] = refl
queue-asks (m ∷ queue) = of (is_msg m.tag.kind) (queue-asks queue)
  where
    of : (b : Bool) → asks_in queue ≡ length (request_kinds (map (λ (m : Message). m.tag.kind) queue))
        → (if b then asks_in queue + 1 else asks_in queue)
        ≡ length (if b then m.tag.kind ∷ request_kinds (map (λ (m : Message). m.tag.kind) queue) else request_kinds (map (λ (m : Message). m.tag.kind) queue))
    of true e = omega (arith, e)
    of false e = e

-- the kinds after as many as these
drop-kinds : (kinds rest : List Kind) (spoken : List Spoken) → map (λ (one : Spoken). one.kind) spoken ≡ kinds ++ rest
    → map (λ (one : Spoken). one.kind) (drop (length kinds) spoken) ≡ rest
drop-kinds [] rest spoken e = e
drop-kinds (kind ∷ kinds) rest [] e = cc
drop-kinds (kind ∷ kinds) rest (one ∷ spoken) e = let later : map (λ (one : Spoken). one.kind) spoken ≡ kinds ++ rest = cc in drop-kinds kinds rest spoken later

module _ (size : ℕ) (lives journal : List Item) (given taken : Marks) (channels : List Live) (m : Managed) (spoken prepared : List Spoken)
    (s : AreLive size lives journal given taken channels) (d : IsManaged size journal given m spoken prepared) where
  zero : HasZero size journal given taken
  zero = has-zero size lives journal given taken channels s

  pub zero-kinds : kinds_at 0 channels ≡ map (λ (one : Spoken). one.kind) (unsent spoken journal)
  zero-kinds = of (live_at 0 channels) refl
    where
      of : (o : Option Live) → live_at 0 channels ≡ o → kinds_in o ≡ map (λ (one : Spoken). one.kind) (unsent spoken journal)
      of None at = absurd (let none : true ≡ false = s.there 0 ∙ ap (λ (o : Option Live). is_some o) at in cc)
      of (Some c) at =
          let t : Stands size c.held (zero_history journal) (given 0) (taken 0) = s.zero c at in
          let kinds : map (λ (one : Spoken). one.kind) spoken ≡ kinds_of (marks Side.Sent (zero_history journal)) ++ map (λ (m : Message). m.tag.kind) c.held.queue =
          sym d.spoken_is.kinds ∙ ap kinds_of t.all_given ∙ kinds-append (map mark_modulo_2_64 (marks Side.Sent (zero_history journal))) (marks_of c.held.queue)
          ∙ ap (λ (ks : List Kind). ks ++ kinds_of (marks_of c.held.queue)) (kinds-modulo (marks Side.Sent (zero_history journal)))
          ∙ ap (λ (ks : List Kind). kinds_of (marks Side.Sent (zero_history journal)) ++ ks) (queue-kinds c.held.queue) in
          let count : length (kinds_of (marks Side.Sent (zero_history journal))) ≡ length (contents Side.Sent journal) =
          kinds-count [] (marks Side.Sent (zero_history journal)) ∙ ap length (are-cut Side.Sent journal t.held.exchange.unbroken).pieces in
          sym (drop-kinds (kinds_of (marks Side.Sent (zero_history journal))) (map (λ (m : Message). m.tag.kind) c.held.queue) spoken kinds)
          ∙ ap (λ (n : ℕ). map (λ (one : Spoken). one.kind) (drop n spoken)) count

  -- as many own requests are kept as are unsent
  pub count-requests : length (request_kinds (kinds_at 0 channels)) ≡ length m.acts.requests
  count-requests =
      ap (λ (ks : List Kind). length (request_kinds ks)) zero-kinds ∙ requests-count (unsent spoken journal)
      ∙ acts-count (requests_among (unsent spoken journal)) (reverse m.acts.requests) d.acts ∙ length-reverse m.acts.requests

  -- and as many replies are given or prepared as requests of the peer wait
  pub count-replies : length (reply_kinds (kinds_at 0 channels)) + length m.answers ≡ length m.theirs.requests
  count-replies =
      let replies : length (reply_kinds (kinds_at 0 channels)) ≡ length (replies_among (unsent spoken journal)) =
      ap (λ (ks : List Kind). length (reply_kinds ks)) zero-kinds ∙ replies-count (unsent spoken journal) in
      let fit = fit-count (replies_among (unsent spoken journal) ++ prepared) (reverse m.theirs.requests) d.fit in
      let all = length-append (replies_among (unsent spoken journal)) prepared in
      let answers = prepared-count m.answers prepared d.answers in
      omega (arith, replies, fit, all, answers, length-reverse m.theirs.requests)

  -- no own request has begun that wasn't given
  pub requests-given : length (requests Side.Sent (zero_history journal)) ≤ length (all_asked journal m)
  requests-given = of (live_at 0 channels) refl
    where
      of : (o : Option Live) → live_at 0 channels ≡ o → length (requests Side.Sent (zero_history journal)) ≤ length (all_asked journal m)
      of None at = absurd (let none : true ≡ false = s.there 0 ∙ ap (λ (o : Option Live). is_some o) at in cc)
      of (Some c) at = by (is_partly c.held.life.sent) refl
        where
          t : Stands size c.held (zero_history journal) (given 0) (taken 0)
          t = s.zero c at

          h : Sound Side.Sent (zero_history journal)
          h = sound Side.Sent (zero_history journal) t.held.exchange.unbroken

          idle : under_way Side.Sent (zero_history journal) ≡ None
          idle = sym (ap (λ (k : KeptOf). k.under_way) t.held.exchange.sent) ∙ t.held.fits.idle

          open-is : is_open (under_way Side.Sent (zero_history journal)) (previous Side.Sent (zero_history journal)) ≡ is_partly c.held.life.sent
          open-is =
              ap (λ (o : Option Head). is_open o (previous Side.Sent (zero_history journal))) idle
              ∙ ap (λ (o : Option Head). option_map_or (λ (head : Head). is_msg head.kind && head.more) o false) (sym (ap (λ (k : KeptOf). k.before) t.held.exchange.sent))

          all : length (all_asked journal m) ≡ length m.acts.requests + length (asked Side.Sent (zero_history journal))
          all = length-append (map (λ (kept : Kept). kept.said) m.acts.requests) (asked Side.Sent (zero_history journal)) ∙ ap (λ (n : ℕ). n + length (asked Side.Sent (zero_history journal))) (length-map m.acts.requests (λ (kept : Kept). kept.said))

          counts : (b : Bool) → is_partly c.held.life.sent ≡ b → (p : ℕ) → nat_lt p (length (asked Side.Sent (zero_history journal)))
              ≡ nat_lt (p + (if b then 1 else 0)) (length (requests Side.Sent (zero_history journal)))
          counts b is p =
              sym (d.mine.whole p) ∙ h.whole p
              ∙ ap (λ (x : Bool). nat_lt (p + (if x then 1 else 0)) (length (requests Side.Sent (zero_history journal)))) (open-is ∙ is)

          bound : (a r o : ℕ) → ((p : ℕ) → nat_lt p a ≡ nat_lt (p + o) r) → r ≤ a + o
          bound a r o same = let x : nat_lt a a ≡ nat_lt (a + o) r = same a in grind (arith, nat_tests)

          by : (b : Bool) → is_partly c.held.life.sent ≡ b → length (requests Side.Sent (zero_history journal)) ≤ length (all_asked journal m)
          by false is =
              let b = bound (length (asked Side.Sent (zero_history journal))) (length (requests Side.Sent (zero_history journal))) 0 (counts false is) in omega (arith, b, all)
          by true is =
              let b = bound (length (asked Side.Sent (zero_history journal))) (length (requests Side.Sent (zero_history journal))) 1 (counts true is) in
              let some : 1 ≤ asks_in c.held.queue = subst (λ (x : Bool). as_number x ≤ asks_in c.held.queue) is t.held.sums.partly in
              let kinds : asks_in c.held.queue ≡ length m.acts.requests = queue-asks c.held.queue ∙ ap (λ (ks : List Kind). length (request_kinds ks)) (sym (ap kinds_in at)) ∙ count-requests in
              omega (arith, b, all, some, kinds)
