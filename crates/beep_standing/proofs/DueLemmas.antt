-- What a channel tells of the history of its life: what is due, what can go, what is drained.
use Rattle.std.proofs.Common.{◌≡◌, ℕ, zero, suc, ◌+◌, ◌-◌, ◌≤◌, ◌==◌, nat_lt, Bool, true, false, ◌||◌, if◌then◌else◌, List, [], ◌∷◌, ◌++◌, length, map, drop, Option, Some, None, refl, sym, ap, ◌∙◌, arith, subst}
use Rattle.std.specs.Prelude.{is_some, ◌↔◌}
use Rattle.std.specs.List.{list_any}
use Rattle.std.proofs.lemmas.Bool.Decides.{nat_tests}
use Rattle.std.proofs.lemmas.List.{length-append}
use Rattle.std.proofs.Math.Seq.{drop-append_seam}
use Rattle.beep_frame.specs.declared.head.Head.{Head}
use Rattle.beep_frame.specs.declared.seq.Seq.{Seq}
use Rattle.beep_frame.specs.declared.tag.Tag.{Tag}
use Rattle.beep_history.specs.declared.journal.Side.{Side}
use Rattle.beep_history.specs.Journal.{Item}
use Rattle.beep_history.specs.Marks.{Mark, octet, end, marks, mark_modulo_2_64, passed_octets}
use Rattle.beep_history.specs.Windows.{greatest_edge, open_now}
use Rattle.beep_seq.specs.Due.{is_seq_due}
use Rattle.beep_inbox.specs.Runs.{Run, AllMarked, octets_of, run_marks, marks_of as untaken_marks}
use Rattle.beep_outbox.specs.Queue.{Message, marks_of as unsent_marks}
use Rattle.beep_journal.specs.Life.{is_there, history}
use Rattle.beep_journal.proofs.MomentLemmas.{same-number}
use Rattle.beep_channel.specs.Held.{Held, Live, queue_ready, is_held_ready, is_seq_due_of, is_held_drained}
use Rattle.beep_channel.specs.Stands.{Stands, IsNext, IsTold}
use Rattle.beep_channel.specs.Drained.{IsDrained}
use Rattle.beep_channel.proofs.PassedLemmas.{no-more}
use Rattle.beep_channel.proofs.CallLemmas.{due-is}
use Rattle.beep_channel.proofs.DrainedLemmas.{is-drained, held-drained}
use Rattle.beep_lives.specs.Lives.{live_at, IsAscendingFrom}
use Rattle.beep_lives.specs.Edits.{Edits, Sends, Tells}
use Rattle.beep_standing.specs.Standing.{Marks, AreLiveBy}
use Rattle.beep_standing.specs.Due.{octets_among, has_due, may_go, has_ready}
use Rattle.beep_standing.proofs.EachLemmas.{past-by, to-each}

-- ---- octets among marks

among-append : (xs ys : List Mark) → octets_among (xs ++ ys) ≡ octets_among xs + octets_among ys
among-append [] ys = omega arith
among-append (octet tag value ∷ xs) ys = let h = among-append xs ys in omega (arith, h)
among-append (end tag ∷ xs) ys = among-append xs ys

among-octets : (tag : Tag) (values : List ℕ) → octets_among (map (octet tag) values) ≡ length values
among-octets tag [] = refl
among-octets tag (value ∷ values) = let h = among-octets tag values in omega (arith, h)

among-end : (b : Bool) (tag : Tag) → octets_among (if b then end tag ∷ [] else []) ≡ 0
among-end true tag = refl
among-end false tag = refl

among-runs : (rs : List Run) → octets_among (untaken_marks rs) ≡ octets_of rs
among-runs [] = refl
among-runs (r ∷ rs) =
    let rest = among-runs rs in
    let mine = among-append (map (octet r.tag) r.octets) (if r.ended then end r.tag ∷ [] else []) in
    let all = among-append (run_marks r) (untaken_marks rs) in
    let octets = among-octets r.tag r.octets in
    let ends = among-end r.ended r.tag in
    omega (arith, rest, mine, all, octets, ends)

-- the marks modulo 2^64 have as many octets
among-drop : (n : ℕ) (ms : List Mark) → octets_among (drop n (map mark_modulo_2_64 ms)) ≡ octets_among (drop n ms)
among-drop n [] = same n
  where
    same : (n : ℕ) → octets_among (drop n (map mark_modulo_2_64 [])) ≡ octets_among (drop n [])
    same zero = refl
    same (suc n) = refl
among-drop zero (octet tag value ∷ ms) = let h = among-drop zero ms in omega (arith, h)
among-drop zero (end tag ∷ ms) = among-drop zero ms
among-drop (suc n) (m ∷ ms) = among-drop n ms

after-mapped : (xs ys : List Mark) → drop (length xs) (map mark_modulo_2_64 xs ++ ys) ≡ ys
after-mapped [] ys = refl
after-mapped (x ∷ xs) ys = after-mapped xs ys

-- ---- a first message

may-go-first : (room : ℕ) (ms : List Message) → queue_ready room ms ≡ may_go room (unsent_marks ms)
may-go-first room [] = refl
may-go-first room (m ∷ ms) = by m.octets
  where
    some : (value : ℕ) (values : List ℕ) → (length (value ∷ values) == 0) ≡ false
    some value values = grind (arith, nat_tests)

    by : (octets : List ℕ) → (length octets == 0 || nat_lt 0 room) ≡ may_go room ((map (octet m.tag) octets ++ end m.tag ∷ []) ++ unsent_marks ms)
    by [] = refl
    by (value ∷ values) = rw (some value values) refl

-- ---- lists without a mark

nil-of : (ms : List Mark) → length ms ≡ 0 → ms ≡ []
nil-of [] e = refl
nil-of (m ∷ ms) e = absurd (omega (arith, e))

-- what is appended to a list and leaves it as it was is nothing
nothing-more : (xs ys : List Mark) → xs ≡ xs ++ ys → ys ≡ []
nothing-more xs ys e = nil-of ys (let lengths = ap length e in let both = length-append xs ys in omega (arith, lengths, both))

run-some : (tag : Tag) (octets : List ℕ) (ended : Bool) (others : List Mark) → (nat_lt 0 (length octets) || ended) ≡ true
    → (map (octet tag) octets ++ (if ended then end tag ∷ [] else [])) ++ others ≡ [] → ⊥
run-some tag [] true others some e = cc
run-some tag [] false others some e = cc
run-some tag (value ∷ octets) ended others some e = cc

runs-nil : (rs : List Run) → AllMarked rs → untaken_marks rs ≡ [] → rs ≡ []
runs-nil [] all e = refl
runs-nil (r ∷ rs) all e = absurd (run-some r.tag r.octets r.ended (untaken_marks rs) all.0 e)

message-some : (tag : Tag) (octets : List ℕ) (others : List Mark) → (map (octet tag) octets ++ end tag ∷ []) ++ others ≡ [] → ⊥
message-some tag [] others e = cc
message-some tag (value ∷ octets) others e = cc

queue-nil : (ms : List Message) → unsent_marks ms ≡ [] → ms ≡ []
queue-nil [] e = refl
queue-nil (m ∷ ms) e = absurd (message-some m.tag m.octets (unsent_marks ms) e)

-- ---- one channel

module _ (size : ℕ) (c : Held) (past : List Item) (given taken : List Mark) (t : Stands size c past given taken) where
  pub due-of : is_seq_due_of c ≡ has_due size taken past
  due-of =
      due-is size c past given taken t
      ∙ ap (λ (n : ℕ). is_seq_due size (passed_octets Side.Received past - n) (greatest_edge Side.Received past)) (sym untaken)
    where
      untaken : octets_among (drop (length taken) (marks Side.Received past)) ≡ octets_of c.inbox
      untaken =
          sym (among-drop (length taken) (marks Side.Received past))
          ∙ ap (λ (ms : List Mark). octets_among (drop (length taken) ms)) t.all_arrived
          ∙ ap octets_among (drop-append_seam taken (untaken_marks c.inbox)) ∙ among-runs c.inbox

  pub ready-of : is_held_ready c ≡ has_ready given past
  ready-of =
      may-go-first c.sends.room c.queue ∙ ap (λ (n : ℕ). may_go n (unsent_marks c.queue)) t.held.sends.room
      ∙ ap (λ (ms : List Mark). may_go (open_now Side.Sent past) ms) (sym unsent)
    where
      unsent : drop (length (marks Side.Sent past)) given ≡ unsent_marks c.queue
      unsent =
          ap (λ (ms : List Mark). drop (length (marks Side.Sent past)) ms) t.all_given
          ∙ after-mapped (marks Side.Sent past) (unsent_marks c.queue)

  pub untaken-of : (c.inbox ≡ []) ↔ (map mark_modulo_2_64 (marks Side.Received past) ≡ taken)
  untaken-of = (
    (λ none. t.all_arrived ∙ ap (λ (rs : List Run). taken ++ untaken_marks rs) none ∙ no-more taken),
    (λ all. runs-nil c.inbox t.held.sums.marked (nothing-more taken (untaken_marks c.inbox) (sym all ∙ t.all_arrived))),
  )

  pub unsent-of : (c.queue ≡ []) ↔ (map mark_modulo_2_64 (marks Side.Sent past) ≡ given)
  unsent-of = (
    (λ none. sym (t.all_given ∙ ap (λ (ms : List Message). map mark_modulo_2_64 (marks Side.Sent past) ++ unsent_marks ms) none
        ∙ no-more (map mark_modulo_2_64 (marks Side.Sent past)))),
    (λ all. queue-nil c.queue (nothing-more (map mark_modulo_2_64 (marks Side.Sent past)) (unsent_marks c.queue) (all ∙ t.all_given))),
  )

module _ (size : ℕ) (journal : List Item) (given taken : Marks) (channels : List Live) (s : AreLiveBy size journal given taken channels) where
  stands-by : (n : ℕ) (c : Live) → live_at n channels ≡ Some c → Stands size c.held (history n journal) (given n) (taken n)
  stands-by n c at =
      subst (λ (p : List Item). Stands size c.held p (given n) (taken n)) (past-by n journal)
      (to-each size journal journal given taken channels s n c at).stands

  pub channel-due : (n : ℕ) (c : Live) → live_at n channels ≡ Some c → is_seq_due_of c.held ≡ has_due size (taken n) (history n journal)
  channel-due n c at = due-of size c.held (history n journal) (given n) (taken n) (stands-by n c at)

  pub channel-ready : (n : ℕ) (c : Live) → live_at n channels ≡ Some c → is_held_ready c.held ≡ has_ready (given n) (history n journal)
  channel-ready n c at = ready-of size c.held (history n journal) (given n) (taken n) (stands-by n c at)

  pub channel-untaken : (n : ℕ) (c : Live) → live_at n channels ≡ Some c
      → (c.held.inbox ≡ []) ↔ (map mark_modulo_2_64 (marks Side.Received (history n journal)) ≡ taken n)
  channel-untaken n c at = untaken-of size c.held (history n journal) (given n) (taken n) (stands-by n c at)

  pub channel-unsent : (n : ℕ) (c : Live) → live_at n channels ≡ Some c
      → (c.held.queue ≡ []) ↔ (map mark_modulo_2_64 (marks Side.Sent (history n journal)) ≡ given n)
  channel-unsent n c at = unsent-of size c.held (history n journal) (given n) (taken n) (stands-by n c at)

  pub channel-drained : (n : ℕ) (c : Live) → live_at n channels ≡ Some c
      → (is_held_drained c.held ≡ true) ↔ IsDrained (history n journal) (given n) (taken n)
  channel-drained n c at = (
    is-drained size c.held (history n journal) (given n) (taken n) (stands-by n c at),
    held-drained size c.held (history n journal) (given n) (taken n) (stands-by n c at),
  )

-- ---- all channels

-- where a test holds of none, it holds of that of no number
any-none : (test : Live → Bool) (cs : List Live) → list_any test cs ≡ false → (n : ℕ) (c : Live) → live_at n cs ≡ Some c → test c ≡ false
any-none test [] none n c at = absurd (let g : None ≡ Some c = at in cc)
any-none test (d ∷ cs) none n c at = of (d.held.number == n) at (test d) refl none (λ rest at. any-none test cs rest n c at)
  where
    of : (b : Bool) → (if b then Some d else live_at n cs) ≡ Some c → (t : Bool) → test d ≡ t → (t || list_any test cs) ≡ false
        → (list_any test cs ≡ false → live_at n cs ≡ Some c → test c ≡ false) → test c ≡ false
    of b at true e none others = absurd (let g : true ≡ false = none in cc)
    of true at false e none others = let g : d ≡ c = cc in subst (λ (l : Live). test l ≡ false) g e
    of false at false e none others = others none at

at-least : (least : ℕ) (cs : List Live) → IsAscendingFrom least cs → (n : ℕ) (c : Live) → live_at n cs ≡ Some c → least ≤ n
at-least least [] up n c at = absurd (let g : None ≡ Some c = at in cc)
at-least least (d ∷ cs) up n c at = of (d.held.number == n) refl at (λ at. at-least (d.held.number + 1) cs up.1 n c at)
  where
    of : (b : Bool) → (d.held.number == n) ≡ b → (if b then Some d else live_at n cs) ≡ Some c
        → (live_at n cs ≡ Some c → d.held.number + 1 ≤ n) → least ≤ n
    of true e at others = let u = up.0 in let same : d.held.number ≡ n = grind (arith, nat_tests, e) in omega (arith, u, same)
    of false e at others = let u = up.0 in let h = others at in omega (arith, u, h)

below : (m n : ℕ) → m + 1 ≤ n → (m == n) ≡ false
below m n h = grind (arith, nat_tests)

-- where it holds of that of no number, it holds of none
none-any : (test : Live → Bool) (least : ℕ) (cs : List Live) → IsAscendingFrom least cs → ((n : ℕ) (c : Live) → live_at n cs ≡ Some c → test c ≡ false)
    → list_any test cs ≡ false
none-any test least [] up none = refl
none-any test least (d ∷ cs) up none =
    rw (none d.held.number d (rw (same-number d.held.number) refl)) (none-any test (d.held.number + 1) cs up.1 others)
  where
    others : (n : ℕ) (c : Live) → live_at n cs ≡ Some c → test c ≡ false
    others n c at = none n c (rw (below d.held.number n (at-least (d.held.number + 1) cs up.1 n c at)) at)

module _ (size : ℕ) (journal : List Item) (given taken : Marks) (channels : List Live) (s : AreLiveBy size journal given taken channels)
    (test : Live → Bool) (by : ℕ → Bool) (is : (n : ℕ) (c : Live) → live_at n channels ≡ Some c → test c ≡ by n) where
  pub none-by : (list_any test channels ≡ false) ↔ ((n : ℕ) → is_there n journal ≡ true → by n ≡ false)
  none-by = (to, from)
    where
      to : list_any test channels ≡ false → (n : ℕ) → is_there n journal ≡ true → by n ≡ false
      to none n there = of (live_at n channels) refl
        where
          of : (o : Option Live) → live_at n channels ≡ o → by n ≡ false
          of None at = absurd (let g : true ≡ false = sym there ∙ s.there n ∙ ap (λ (o : Option Live). is_some o) at in cc)
          of (Some c) at = sym (is n c at) ∙ any-none test channels none n c at

      from : ((n : ℕ) → is_there n journal ≡ true → by n ≡ false) → list_any test channels ≡ false
      from none =
          none-any test 0 channels s.ascending
          (λ n c at. is n c at ∙ none n (s.there n ∙ ap (λ (o : Option Live). is_some o) at))

-- ---- what is sent

module _ (size most : ℕ) (journal : List Item) (given taken : Marks) (old new : List Live) (head : Head) (payload : List ℕ)
    (s : AreLiveBy size journal given taken old) (e : Edits head.channel (Sends most head payload) old new) where
  pub sent-there : is_there head.channel journal ≡ true
  sent-there = s.there head.channel ∙ ap (λ (o : Option Live). is_some o) e.was

  pub sent-next : IsNext size most e.before.held e.after.held (history head.channel journal) (given head.channel) (taken head.channel) head payload
  sent-next =
      e.step.next size (history head.channel journal) (given head.channel) (taken head.channel)
      (stands-by size journal given taken old s head.channel e.before e.was)

module _ (size : ℕ) (journal : List Item) (given taken : Marks) (old new : List Live) (seq : Seq)
    (s : AreLiveBy size journal given taken old) (e : Edits seq.channel (Tells seq) old new) where
  pub told-next : IsTold size e.before.held e.after.held (history seq.channel journal) (given seq.channel) (taken seq.channel) seq
  told-next =
      e.step.told size (history seq.channel journal) (given seq.channel) (taken seq.channel)
      (stands-by size journal given taken old s seq.channel e.before e.was)

  pub told-due : has_due size (taken seq.channel) (history seq.channel journal) ≡ true
  told-due = sym (channel-due size journal given taken old s seq.channel e.before e.was) ∙ e.step.due
