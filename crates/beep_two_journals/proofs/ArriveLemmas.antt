-- What arrives at an end of a session breaks none of its rules.
use Rattle.std.proofs.Common.{◌≡◌, ℕ, ◌==◌, Bool, true, false, not, ◌&&◌, if◌then◌else◌, List, [], ◌∷◌, ◌++◌, Option, Some, None, refl, sym, ap, ◌∙◌, subst, append_assoc}
use Rattle.std.specs.Prelude.{is_some}
use Rattle.beep_frame.specs.declared.head.Head.{Head}
use Rattle.beep_frame.specs.declared.rule.Rule.{Rule}
use Rattle.beep_frame.specs.declared.seq.Seq.{Seq}
use Rattle.beep_history.specs.declared.journal.Side.{Side}
use Rattle.beep_history.specs.Journal.{Item, began, passed, told, turned}
use Rattle.beep_history.specs.Marks.{first, frames, previous}
use Rattle.beep_history.specs.Broken.{under_way, broken_rule, KeepsExchangeRules}
use Rattle.beep_history.specs.Windows.{is_bad_ack}
use Rattle.beep_journal.specs.Zero.{zero_history}
use Rattle.beep_journal.specs.Life as of_journal
use Rattle.beep_journal.specs.Life.{history, is_there, life_under_way}
use Rattle.beep_journal.specs.Broken.{none_tunes, is_greeting, broken_seq, broken_content}
use Rattle.beep_lawful.specs.declared.terms.Terms.{Terms}
use Rattle.beep_lawful.specs.Lawful as lawful
use Rattle.beep_two_ends.specs.Seen.{is_received, arrived, sent, Sees}
use Rattle.beep_two_ends.specs.OneLife as one
use Rattle.beep_two_ends.proofs.SplitLemmas.{lawful-earlier, whole-earlier}
use Rattle.beep_two_ends.proofs.WaysLemmas.{frames-arrived, frames-sent, under_way-arrived, under_way-sent}
use Rattle.beep_two_ends.proofs.WindowLemmas.{unbroken}
use Rattle.beep_two_journals.specs.Session.{BreaksNothing}
use Rattle.beep_two_journals.proofs.Entries.{Entry, on, came, went, lives, is_live, life_now, IsLawfulEnd, SeesAll, Causal, NeverBrokeAll, IsWholeOn, entries, IsLawfulSession, WasNeverBroken}
use Rattle.beep_two_journals.proofs.CountLemmas.{same_count}
use Rattle.beep_two_journals.proofs.WalkLemmas.{end-earlier}
use Rattle.beep_two_journals.proofs.TailLemmas.{whole-all-earlier}
use Rattle.beep_two_journals.proofs.EntriesLemmas.{way_entries, entries-came, entries-went, entries-before}
use Rattle.beep_two_journals.proofs.SessionLemmas.{entries_see, zero-before}
use Rattle.beep_two_journals.proofs.ZeroLemmas.{zero_sees}
use Rattle.beep_two_journals.proofs.ClosesLemmas.{keeps-earlier, forms-earlier}
use Rattle.beep_two_journals.proofs.FormLemmas.{form-arrives, form_is, content_is}
use Rattle.beep_two_journals.proofs.PassingLemmas.{Bridged}
use Rattle.beep_two_journals.proofs.BridgeLemmas.{bridged, HasForms, has_form}
use Rattle.beep_two_journals.proofs.LifeLemmas.{IsSteady, now-same, history-same, history-zero, there-live, live-there, zero-there, itself}
use Rattle.beep_two_journals.proofs.KeptLemmas.{rules_keep, head_keeps, frame_keeps, Follows, follows-header}

clash : (b : Bool) → b ≡ true → b ≡ false → ⊥
clash b t f = let e : true ≡ false = sym t ∙ f in cc

-- ---- the moment at which a header arrived

record HeadCame (past : List Item) (head : Head) (rest : List Item) : Type 0 where
  later : List Item
  earlier : List Item
  is : past ≡ later ++ began Side.Received head ∷ earlier
  at : arrived earlier ≡ rest
  under : (n : ℕ) → life_under_way n Side.Received past ≡ (if head.channel == n then of_journal.life_now n earlier else 0)

came-cons : (item : Item) (past : List Item) (head : Head) (rest : List Item) → ((n : ℕ) → life_under_way n Side.Received (item ∷ past) ≡ life_under_way n Side.Received past)
    → HeadCame past head rest → HeadCame (item ∷ past) head rest
came-cons item past head rest u h =
    record { later = item ∷ h.later; earlier = h.earlier; is = ap (λ (xs : List Item). item ∷ xs) h.is; at = h.at; under = λ n. u n ∙ h.under n }

came-here : (begun head : Head) (past rest : List Item) → began Side.Received begun ∷ arrived past ≡ began Side.Received head ∷ rest → HeadCame (began Side.Received begun ∷ past) head rest
came-here begun head past rest e =
    let same : begun ≡ head = cc in
    let others : arrived past ≡ rest = cc in
    subst (λ (h : Head). HeadCame (began Side.Received h ∷ past) head rest) (sym same)
    (record { later = []; earlier = past; is = refl; at = others; under = λ n. refl })

head_came : (past : List Item) (head : Head) (rest : List Item) → arrived past ≡ began Side.Received head ∷ rest → HeadCame past head rest
head_came [] head rest e = cc
head_came (began Side.Received begun ∷ past) head rest e = came-here begun head past rest e
head_came (passed Side.Received begun payload ∷ past) head rest e = cc
head_came (told Side.Received seq ∷ past) head rest e = cc
head_came (began Side.Sent begun ∷ past) head rest e = came-cons (began Side.Sent begun) past head rest (λ n. refl) (head_came past head rest e)
head_came (passed Side.Sent begun payload ∷ past) head rest e = came-cons (passed Side.Sent begun payload) past head rest (λ n. refl) (head_came past head rest e)
head_came (told Side.Sent seq ∷ past) head rest e = came-cons (told Side.Sent seq) past head rest (λ n. refl) (head_came past head rest e)

-- ---- what is known where an item arrives

-- mine: the sender as it sent the item. theirs: the receiver as it arrives. later: what the sender did since
pub record Meets (of_mine : Terms) (own : ℕ → Bool) (later mine theirs : List Item) (item : Item) : Type 0 where
  pub sees : Sees mine theirs
  pub comes_in : is_received item ≡ true
  pub mine_lawful : lawful.IsLawful of_mine none_tunes (turned item ∷ mine)
  pub mine_law : IsLawfulSession own (later ++ turned item ∷ mine)
  pub mine_whole : WasNeverBroken (later ++ turned item ∷ mine)
  pub theirs_law : IsLawfulSession (λ n. not (own n)) theirs
  pub theirs_whole : WasNeverBroken theirs
  pub after : WasNeverBroken (item ∷ theirs)
  pub theirs_forms : HasForms theirs
  pub theirs_steady : IsSteady theirs
  pub there : Causal (entries (later ++ turned item ∷ mine)) (entries theirs)

module _ (of_mine : Terms) (own : ℕ → Bool) (later mine theirs : List Item) where
  keeps : (item : Item) → Meets of_mine own later mine theirs item → KeepsExchangeRules (zero_history theirs)
  keeps item m = unbroken (zero_history theirs) m.theirs_law.on_zero m.theirs_whole.on_zero

  same : (item : Item) → Meets of_mine own later mine theirs item → Bridged (zero_history theirs) (entries theirs)
  same item m = bridged theirs (keeps item m) m.theirs_forms

  under-same : (item : Item) → Meets of_mine own later mine theirs item → under_way Side.Received theirs ≡ under_way Side.Sent mine
  under-same item m = sym (under_way-arrived theirs) ∙ ap (under_way Side.Received) m.sees.all ∙ under_way-sent mine

  -- the history of its channel, with the item
  entry-above : (item : Item) (n : ℕ) → entries (item ∷ theirs) ≡ on n item ∷ entries theirs → Meets of_mine own later mine theirs item → IsWholeOn n item (entries theirs)
  entry-above item n e m = (subst (λ (xs : List Entry). NeverBrokeAll xs) e m.after.above).0 m.comes_in

  -- ---- a header

  head-life : (head : Head) → (m : Meets of_mine own later mine theirs (began Side.Received head)) → (b : Bool) → (head.channel == 0) ≡ b
      → (is_there head.channel theirs ≡ true) × (broken_rule Side.Received (history head.channel theirs) head ≡ None)
  head-life head m true z = (
    zero-there head.channel z theirs,
    ap (λ (xs : List Item). broken_rule Side.Received xs head) (history-zero head.channel z theirs)
        ∙ (subst (λ (xs : List Item). one.NeverBroke xs) (in-zero z) m.after.on_zero).0.1,
  )
    where
      in-zero : (head.channel == 0) ≡ true → zero_history (began Side.Received head ∷ theirs) ≡ began Side.Received head ∷ zero_history theirs
      in-zero z = rw z refl
  head-life head m false z =
      let w = entry-above (began Side.Received head) head.channel (rw z refl) m in
      let live : is_live head.channel (entries theirs) ≡ true = w.0 refl in (
        live-there head.channel z theirs (same (began Side.Received head) m) live,
        ap (λ (xs : List Item). broken_rule Side.Received xs head)
            (history-same head.channel z theirs (keeps (began Side.Received head) m) m.theirs_forms m.theirs_steady live) ∙ (w.1 live).0.1,
      )

  head-breaks : (head : Head) → Meets of_mine own later mine theirs (began Side.Received head) → BreaksNothing theirs (began Side.Received head)
  head-breaks head m =
      let k = head_keeps of_mine mine head m.mine_lawful in
      let l = head-life head m (head.channel == 0) refl in
      let previous_is : previous Side.Received theirs ≡ previous Side.Sent mine =
      ap first (sym (frames-arrived theirs) ∙ ap (frames Side.Received) m.sees.all ∙ frames-sent mine) in (
        under-same (began Side.Received head) m ∙ k.apart,
        rules_keep Side.Received theirs head (record {
          size = k.rules.size;
          greeting = ap (λ (o : Option Head). not (is_some o) && not (is_greeting head)) previous_is ∙ k.rules.greeting;
          there = l.0;
          life = l.1;
          reply = k.rules.reply;
        }),
      )

  -- ---- a SEQ

  seq-breaks : (seq : Seq) → (m : Meets of_mine own later mine theirs (told Side.Received seq)) → (b : Bool) → (seq.channel == 0) ≡ b → broken_seq Side.Received theirs seq ≡ None
  unfolding broken_seq
  seq-breaks seq m true z =
      let bad : is_bad_ack Side.Received (history seq.channel theirs) seq ≡ false =
      ap (λ (xs : List Item). is_bad_ack Side.Received xs seq) (history-zero seq.channel z theirs)
      ∙ (subst (λ (xs : List Item). one.NeverBroke xs) (in-zero z) m.after.on_zero).0 in
      none-bad (is_there seq.channel theirs) (is_bad_ack Side.Received (history seq.channel theirs) seq) (λ t. bad)
    where
      in-zero : (seq.channel == 0) ≡ true → zero_history (told Side.Received seq ∷ theirs) ≡ told Side.Received seq ∷ zero_history theirs
      in-zero z = rw z refl

      none-bad : (t b : Bool) → (t ≡ true → b ≡ false) → (if t && b then Some Rule.BadAck else None) ≡ None
      none-bad true b h = rw (h refl) refl
      none-bad false b h = refl
  seq-breaks seq m false z =
      let w = entry-above (told Side.Received seq) seq.channel (rw z refl) m in
      none-bad (is_there seq.channel theirs) (is_bad_ack Side.Received (history seq.channel theirs) seq)
      (λ t.
      let live = there-live seq.channel z theirs (same (told Side.Received seq) m) t in
      ap (λ (xs : List Item). is_bad_ack Side.Received xs seq)
      (history-same seq.channel z theirs (keeps (told Side.Received seq) m) m.theirs_forms m.theirs_steady live) ∙ (w.1 live).0)
    where
      none-bad : (t b : Bool) → (t ≡ true → b ≡ false) → (if t && b then Some Rule.BadAck else None) ≡ None
      none-bad true b h = rw (h refl) refl
      none-bad false b h = refl

  -- ---- a frame

  frame-follows : (head : Head) (payload : List ℕ) → Meets of_mine own later mine theirs (passed Side.Received head payload) → Follows mine head payload
  frame-follows head payload m = follows-header mine head payload (frame_keeps of_mine mine head payload m.mine_lawful).apart

  frame-content : (head : Head) (payload : List ℕ) → Meets of_mine own later mine theirs (passed Side.Received head payload) → broken_content Side.Received theirs head payload ≡ None
  frame-content head payload m =
      let k = frame-follows head payload m in
      content_is Side.Received theirs head payload (λ z r more.
      let before = zero-before later (passed Side.Sent head payload ∷ mine) in
      let inside : zero_history (passed Side.Sent head payload ∷ mine) ≡ passed Side.Sent head payload ∷ zero_history mine = in-zero z in
      let whole_is : zero_history (later ++ passed Side.Sent head payload ∷ mine) ≡ before.newer ++ passed Side.Sent head payload ∷ zero_history mine =
      before.is ∙ ap (λ (xs : List Item). before.newer ++ xs) inside in
      let l = lawful-earlier before.newer (passed Side.Sent head payload ∷ zero_history mine) (subst (λ (xs : List Item). one.IsLawful xs) whole_is m.mine_law.on_zero) in
      let w = whole-earlier before.newer (passed Side.Sent head payload ∷ zero_history mine) (subst (λ (xs : List Item). one.NeverBroke xs) whole_is m.mine_whole.on_zero) in
      form-arrives (zero_history mine) (zero_history theirs) head payload l.1 w.1 m.theirs_law.on_zero m.theirs_whole.on_zero (zeros mine theirs m.sees) l.0.begun r
      (form_is Side.Sent mine head payload (frame_keeps of_mine mine head payload m.mine_lawful).content z r more))
    where
      in-zero : (head.channel == 0) ≡ true → zero_history (passed Side.Sent head payload ∷ mine) ≡ passed Side.Sent head payload ∷ zero_history mine
      in-zero z = rw z refl

      zeros : (mine theirs : List Item) → Sees mine theirs → Sees (zero_history mine) (zero_history theirs)
      zeros mine theirs s = zero_sees mine theirs s

  frame-breaks : (head : Head) (payload : List ℕ) → Meets of_mine own later mine theirs (passed Side.Received head payload) → BreaksNothing theirs (passed Side.Received head payload)
  frame-breaks head payload m =
      let k = frame-follows head payload m in
      (under-same (passed Side.Received head payload) m ∙ ap (under_way Side.Sent) k.is, k.size, frame-content head payload m)

  -- the frame passes in the life in which its header came
  frame-steady : (head : Head) (payload : List ℕ) → Meets of_mine own later mine theirs (passed Side.Received head payload) → (head.channel == 0) ≡ false
      → life_under_way head.channel Side.Received theirs ≡ of_journal.life_now head.channel theirs
  frame-steady head payload m z =
      let n : ℕ = head.channel in
      let k = frame-follows head payload m in
      let c = head_came theirs head (sent k.before) (m.sees.all ∙ ap sent k.is) in
      let mine_is : entries mine ≡ on n (began Side.Sent head) ∷ entries k.before = ap entries k.is ∙ rw z refl in
      let then_is : entries (passed Side.Sent head payload ∷ mine) ≡ on n (passed Side.Sent head payload) ∷ on n (began Side.Sent head) ∷ entries k.before =
      above-frame z ∙ ap (λ (es : List Entry). on n (passed Side.Sent head payload) ∷ es) mine_is in
      let a = entries-before later (passed Side.Sent head payload ∷ mine) in
      let all_mine : entries (later ++ passed Side.Sent head payload ∷ mine) ≡ (a.newer ++ on n (passed Side.Sent head payload) ∷ []) ++ on n (began Side.Sent head) ∷ entries k.before =
      a.is ∙ ap (λ (es : List Entry). a.newer ++ es) then_is ∙ sym (append_assoc a.newer (on n (passed Side.Sent head payload) ∷ []) (on n (began Side.Sent head) ∷ entries k.before)) in
      let b = entries-before c.later (began Side.Received head ∷ c.earlier) in
      let all_theirs : entries theirs ≡ b.newer ++ on n (began Side.Received head) ∷ entries c.earlier =
      ap entries c.is ∙ b.is ∙ ap (λ (es : List Entry). b.newer ++ es) (above-head c.earlier z) in
      let came_is : came (entries c.earlier) ≡ went (entries k.before) = entries-came c.earlier ∙ ap way_entries c.at ∙ sym (entries-went k.before) in
      let saw : SeesAll (entries k.before) (entries c.earlier) =
      m.there (a.newer ++ on n (passed Side.Sent head payload) ∷ []) (entries k.before) b.newer (entries c.earlier) (on n (began Side.Received head)) all_mine all_theirs refl came_is in
      let own_end = end-earlier own (a.newer ++ on n (passed Side.Sent head payload) ∷ []) (on n (began Side.Sent head) ∷ entries k.before)
      (subst (λ (es : List Entry). IsLawfulEnd own es) all_mine m.mine_law.of_ends) in
      let their_end = end-earlier (λ j. not (own j)) b.newer (on n (began Side.Received head) ∷ entries c.earlier)
      (subst (λ (es : List Entry). IsLawfulEnd (λ j. not (own j)) es) all_theirs m.theirs_law.of_ends) in
      let live_before : is_live n (entries k.before) ≡ true = own_end.0 refl in
      let count_then : lives n (entries c.earlier) ≡ lives n (entries k.before) =
      same_count own (entries k.before) (entries c.earlier) n own_end.1 their_end.1 saw live_before in
      let own_mine : IsLawfulEnd own (entries mine) = subst (λ (es : List Entry). IsLawfulEnd own es) (sym mine_is) own_end in
      let live_mine : is_live n (entries mine) ≡ true = ap (is_live n) mine_is ∙ live_before in
      let count_now : lives n (entries theirs) ≡ lives n (entries k.before) =
      same_count own (entries mine) (entries theirs) n own_mine m.theirs_law.of_ends (entries_see mine theirs m.sees) live_mine ∙ ap (lives n) mine_is in
      let there_then = (whole-all-earlier b.newer (on n (began Side.Received head) ∷ entries c.earlier) (subst (λ (es : List Entry). NeverBrokeAll es) all_theirs m.theirs_whole.above)).0 refl in
      let live_then : is_live n (entries c.earlier) ≡ true = there_then.0 refl in
      let live_now : is_live n (entries theirs) ≡ true = (entry-above (passed Side.Received head payload) n (rw z refl) m).0 refl in
      c.under n ∙ now-then c n (itself n)
      ∙ earlier-now c m n live_then
      ∙ count_then ∙ sym count_now
      ∙ sym (now-same n theirs (same (passed Side.Received head payload) m) ∙ life-is n (entries theirs) live_now)
    where
      above-frame : (head.channel == 0) ≡ false → entries (passed Side.Sent head payload ∷ mine) ≡ on head.channel (passed Side.Sent head payload) ∷ entries mine
      above-frame z = rw z refl

      above-head : (earlier : List Item) → (head.channel == 0) ≡ false → entries (began Side.Received head ∷ earlier) ≡ on head.channel (began Side.Received head) ∷ entries earlier
      above-head earlier z = rw z refl

      life-is : (n : ℕ) (es : List Entry) → is_live n es ≡ true → life_now n es ≡ lives n es
      life-is n es l = rw l refl

      now-then : {past : List Item} {rest : List Item} → (c : HeadCame past head rest) → (n : ℕ) → (head.channel == n) ≡ true
          → (if head.channel == n then of_journal.life_now n c.earlier else 0) ≡ of_journal.life_now n c.earlier
      now-then c n e = rw e refl

      earlier-now : {rest : List Item} → (c : HeadCame theirs head rest) → (m : Meets of_mine own later mine theirs (passed Side.Received head payload)) → (n : ℕ)
          → is_live n (entries c.earlier) ≡ true → of_journal.life_now n c.earlier ≡ lives n (entries c.earlier)
      earlier-now c m n l =
          let is : theirs ≡ (c.later ++ began Side.Received head ∷ []) ++ c.earlier = c.is ∙ sym (append_assoc c.later (began Side.Received head ∷ []) c.earlier) in
          let u = keeps-earlier (c.later ++ began Side.Received head ∷ []) c.earlier
          (subst (λ (xs : List Item). KeepsExchangeRules (zero_history xs)) is (keeps (passed Side.Received head payload) m)) in
          let f = forms-earlier (c.later ++ began Side.Received head ∷ []) c.earlier
          (subst (λ (xs : List Item). HasForms xs) is m.theirs_forms) in
          now-same n c.earlier (bridged c.earlier u f) ∙ life-is n (entries c.earlier) l

  -- ---- any item

  pub breaks : (item : Item) → Meets of_mine own later mine theirs item → BreaksNothing theirs item
  breaks (began Side.Received head) m = head-breaks head m
  breaks (passed Side.Received head payload) m = frame-breaks head payload m
  breaks (told Side.Received seq) m = seq-breaks seq m (seq.channel == 0) refl
  breaks (began Side.Sent head) m = tt
  breaks (passed Side.Sent head payload) m = tt
  breaks (told Side.Sent seq) m = tt

  pub forms_after : (item : Item) → Meets of_mine own later mine theirs item → HasForms (item ∷ theirs)
  forms_after (began Side.Received head) m = m.theirs_forms
  forms_after (passed Side.Received head payload) m = ((λ z. has_form Side.Received theirs head payload (frame-content head payload m) z), m.theirs_forms)
  forms_after (told Side.Received seq) m = m.theirs_forms
  forms_after (began Side.Sent head) m = let r : false ≡ true = m.comes_in in cc
  forms_after (passed Side.Sent head payload) m = let r : false ≡ true = m.comes_in in cc
  forms_after (told Side.Sent seq) m = let r : false ≡ true = m.comes_in in cc

  pub steady_after : (item : Item) → Meets of_mine own later mine theirs item → IsSteady (item ∷ theirs)
  steady_after (began Side.Received head) m = m.theirs_steady
  steady_after (passed Side.Received head payload) m = ((λ z. frame-steady head payload m z), m.theirs_steady)
  steady_after (told Side.Received seq) m = m.theirs_steady
  steady_after (began Side.Sent head) m = let r : false ≡ true = m.comes_in in cc
  steady_after (passed Side.Sent head payload) m = let r : false ≡ true = m.comes_in in cc
  steady_after (told Side.Sent seq) m = let r : false ≡ true = m.comes_in in cc
