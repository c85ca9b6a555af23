-- As the end of its lines goes out a sender has asked its start, and its channel is open.
use Rattle.std.proofs.Common.{◌≡◌, ◌∙◌, refl, sym, ap, subst, ℕ, ◌+◌, ◌<◌, ◌≤◌, ◌==◌, Bool, true, false, not, ◌&&◌, ◌||◌, if◌then◌else◌, List, [], ◌∷◌, ◌++◌, length, None, arith}
use Rattle.std.specs.Prelude.{nat_lt}
use Rattle.std.proofs.lemmas.Bool.Decides.{nat_tests}
use Rattle.beep_session.specs.beep_frame.specs.declared.head.Head.{Head}
use Rattle.beep_session.specs.beep_frame.specs.Frame.{is_nul}
use Rattle.beep_session.specs.beep_history.specs.declared.journal.Side.{Side}
use Rattle.beep_session.specs.beep_history.specs.Journal.{Item, began, passed, told}
use Rattle.beep_session.specs.beep_history.specs.Marks.{is_answered, position_of}
use Rattle.beep_session.specs.beep_mgmt.specs.Form.{close, start}
use Rattle.beep_session.specs.beep_journal.specs.Broken.{none_tunes}
use Rattle.beep_session.specs.beep_journal.specs.Life.{is_released, is_there, life, life_now, life_under_way}
use Rattle.beep_session.specs.beep_journal.specs.Lives.{has_release, is_live, lives}
use Rattle.beep_session.specs.beep_journal.specs.Log.{Moment}
use Rattle.beep_session.specs.beep_journal.specs.Zero.{events, zero_history}
use Rattle.beep_session.specs.beep_journal.proofs.JournalLemmas.{above-events, began-events}
use Rattle.beep_session.specs.beep_lawful.specs.Lawful.{IsLawful, breaks_after_end, breaks_apart}
use Rattle.beep_session.specs.beep_lawful.specs.Tuned.{has_tuned}
use Rattle.beep_session.specs.beep_lawful.proofs.LawfulLemmas.{item-lawful}
use Rattle.beep_session.specs.beep_peer.specs.Peering.{is_over}
use Rattle.beep_session.specs.Lawfully.{terms_of}
use Rattle.beep_session.specs.Session.{Held}
use Rattle.beep_desk.specs.beep_talk.specs.declared.plan.Command.{Command}
use Rattle.beep_desk.specs.beep_talk.specs.AtZero.{ZeroMessage, profile_of}
use Rattle.beep_desk.specs.beep_talk.specs.Plan.{PlainPlan}
use Rattle.beep_desk.specs.beep_talk.specs.Talk.{has_profile}
use Rattle.beep_desk.specs.beep_script.specs.Desk.{asks, asks_where, ends_lines, grants_own}
use Rattle.beep_desk.proofs.AskLemmas.{sender-sent}
use Rattle.beep_desk.proofs.SaysLemmas.{frame-goes}
use Rattle.beep_desk.proofs.QuietLemmas.{part-asks}
use Rattle.beep_steps.specs.Desking.{AsksClose, DesksWithin}
use Rattle.beep_steps.specs.Scripting.{ScriptedOn}
use Rattle.beep_steps.specs.Sending.{Progress}
use Rattle.beep_steps.proofs.SendLives.{few-forms, journal-is, life as lives-of, no-live, not-over, waiting}

-- ---- the item that ends the lines

pub record Ending (plan : PlainPlan) (item : Item) (journal : List Item) : Type 0 where
  pub head : Head
  pub payload : List ℕ
  pub item_is : item ≡ passed Side.Sent head payload
  pub ends : ends_lines plan (passed Side.Sent head payload) journal ≡ true

abbrev first_place : List ZeroMessage → ℕ
first_place [] = 0
first_place (one ∷ others) = one.tag.request

-- the close has the place 2
no-close : (plan : PlainPlan) (a c : Bool) → first_place (asks_where a 1 (start 1 None (profile_of plan.raw_uri ∷ [])) ++ asks_where false 2 (close 1 200 []) ++ asks_where c 3 (close 0 200 [])) ≡ 2 → ⊥
no-close plan true true e = absurd (omega (arith, e))
no-close plan true false e = absurd (omega (arith, e))
no-close plan false true e = absurd (omega (arith, e))
no-close plan false false e = absurd (omega (arith, e))

ending : (plan : PlainPlan) (item : Item) (journal : List Item) → plan.command ≡ Command.Send → AsksClose plan item journal → Ending plan item journal
ending plan (began by head) journal sends e = absurd (let h = ap first_place (sym (part-asks plan (began by head) journal refl) ∙ e) in omega (arith, h))
ending plan (told by seq) journal sends e = absurd (let h = ap first_place (sym (part-asks plan (told by seq) journal refl) ∙ e) in omega (arith, h))
ending plan (passed Side.Received head payload) journal sends e =
    let item = passed Side.Received head payload in
    absurd (no-close plan (grants_own 0 item journal) (grants_own 2 item journal) (ap first_place (sym (ap (λ (c : Command). asks c plan item journal) sends) ∙ e)))
ending plan (passed Side.Sent head payload) journal sends e =
    of (ends_lines plan (passed Side.Sent head payload) journal) refl (ap first_place (sym (sender-sent plan sends head payload journal) ∙ e))
  where
    of : (b : Bool) → ends_lines plan (passed Side.Sent head payload) journal ≡ b → first_place (asks_where b 2 (close 1 200 [])) ≡ 2 → Ending plan (passed Side.Sent head payload) journal
    of true is h = record { head = head; payload = payload; item_is = refl; ends = is }
    of false is h = absurd (omega (arith, h))

both-left : (a b : Bool) → (a && b) ≡ true → a ≡ true
both-left true b e = refl
both-left false b e = absurd cc

both-right : (a b : Bool) → (a && b) ≡ true → b ≡ true
both-right true b e = e
both-right false b e = absurd cc

or-left : (a b : Bool) → (a || b) ≡ false → a ≡ false
or-left true b e = absurd cc
or-left false b e = refl

-- it is a frame of channel 1, in the first life of it
ends-first : (plan : PlainPlan) (head : Head) (payload : List ℕ) (journal : List Item) → ends_lines plan (passed Side.Sent head payload) journal ≡ true
    → ((head.channel == 1) ≡ true) × ((life_under_way 1 Side.Sent journal == 1) ≡ true)
ends-first plan head payload journal e =
    let n = is_nul head.kind in
    let m = not head.more in
    let c = head.channel == 1 in
    let u = life_under_way 1 Side.Sent journal == 1 in
    let o = position_of Side.Sent (life 1 1 journal) head == 0 in
    let h = has_profile plan.raw_uri 1 1 journal in
    let five = both-left (n && m && c && u && o) h e in
    let four = both-left (n && m && c && u) o five in
    let three = both-left (n && m && c) u four in
    (both-right (n && m) c three, both-right (n && m && c) u four)

-- its header came last, and so that life is live
live-now : (head : Head) (payload : List ℕ) (journal : List Item) → breaks_apart journal head payload ≡ false → (life_under_way 1 Side.Sent journal == 1) ≡ true → is_live 1 (events journal) ≡ true
live-now head payload [] apart e = absurd cc
live-now head payload (began Side.Received h ∷ journal) apart e = absurd cc
live-now head payload (passed by h octets ∷ journal) apart e = absurd cc
live-now head payload (told by seq ∷ journal) apart e = absurd cc
live-now head payload (began Side.Sent h ∷ journal) apart e = ap (is_live 1) (began-events Side.Sent h journal) ∙ of (h.channel == 1) e
  where
    now : (b : Bool) → is_live 1 (events journal) ≡ b → ((if b then lives 1 (events journal) else 0) == 1) ≡ true → b ≡ true
    now true is f = refl
    now false is f = absurd cc

    of : (b : Bool) → ((if b then life_now 1 journal else 0) == 1) ≡ true → is_live 1 (events journal) ≡ true
    of true f = now (is_live 1 (events journal)) refl f
    of false f = absurd cc

above : (n : ℕ) → (n == 1) ≡ true → (n == 0) ≡ false
above n e = grind (arith, nat_tests, e)

-- ---- a sender's session

module _ (plan : PlainPlan) (p : Progress) (session : Held) (log : List Moment) (d : DesksWithin plan session log) (x : ScriptedOn plan p session log) (offers : plan.offers ≡ [])
    (asked : AsksClose plan d.item d.before) where
  g : Ending plan d.item d.before
  g = ending plan d.item d.before x.sends.sender.command asked

  at : (g.head.channel == 1) ≡ true
  at = (ends-first plan g.head g.payload d.before g.ends).0

  here : x.sends.on.journal ≡ passed Side.Sent g.head g.payload ∷ d.before
  here = journal-is plan p session log d x offers ∙ ap (λ (i : Item). i ∷ d.before) g.item_is

  goes : (breaks_apart d.before g.head g.payload ≡ false) × (breaks_after_end none_tunes d.before ≡ false)
  goes =
      let tests = frame-goes (terms_of session) d.before g.head g.payload
      (item-lawful (terms_of session) none_tunes [] d.before (passed Side.Sent g.head g.payload)
      (subst (IsLawful (terms_of session) none_tunes) here x.sends.on.stands.lawful)) in
      (tests.0, tests.1)

  same : events x.sends.on.journal ≡ events d.before
  same = ap events here ∙ above-events Side.Sent g.head g.payload d.before (above g.head.channel at)

  alive : is_live 1 (events x.sends.on.journal) ≡ true
  alive = ap (is_live 1) same ∙ live-now g.head g.payload d.before goes.0 (ends-first plan g.head g.payload d.before g.ends).1

  pub close-there : is_there 1 x.sends.on.journal ≡ true
  close-there = alive

  pub close-going : is_over session.peer ≡ false
  close-going =
      not-over session log x.sends.on (ap has_release same ∙ or-left (is_released d.before) (has_tuned none_tunes (zero_history d.before)) goes.1)

  -- its start was answered, and so asked
  pub close-second : p.asked ≤ 1 → p.asked ≡ 1
  close-second few = of (is_answered Side.Sent 1 (zero_history x.sends.on.journal)) refl
    where
      below : (m n : ℕ) → nat_lt (1 + m) n ≡ true → 1 < n
      below m n e = grind (arith, nat_tests, e)

      of : (b : Bool) → is_answered Side.Sent 1 (zero_history x.sends.on.journal) ≡ b → p.asked ≡ 1
      of true e =
          let some = below (length session.peer.management.mine.requests) _ (sym ((waiting plan p session log d x offers).answered 1) ∙ e) in
          let most = few-forms plan p session log d x offers in
          omega (arith, some, most, few)
      of false e =
          absurd (let h : true ≡ false = sym alive ∙ no-live 1 (events x.sends.on.journal) ((lives-of plan p session log d x offers).unstarted e) in cc)
