-- What each item leaves of a sender's script above channel zero.
use Rattle.std.proofs.Common.{◌≡◌, ℕ, suc, ◌+◌, ◌<◌, ◌≤◌, ◌%◌, ◌==◌, Bool, true, false, ◌||◌, List, [], ◌∷◌, ◌++◌, map, take, drop, length, flat_map, Option, None, Some, refl, sym, ap, ◌∙◌, subst, arith}
use Rattle.std.specs.Prelude.{is_some}
use Rattle.std.proofs.lemmas.List.{append_assoc, append-nil, take-append-drop}
use Rattle.std.proofs.lemmas.List.Concat.{flat_map-append}
use Rattle.beep_session.specs.beep_frame.specs.declared.kind.Kind.{Kind}
use Rattle.beep_session.specs.beep_frame.specs.declared.tag.Tag.{Tag}
use Rattle.beep_session.specs.beep_history.specs.declared.journal.Side.{Side}
use Rattle.beep_session.specs.beep_history.specs.Journal.{Item, began, passed, told}
use Rattle.beep_session.specs.beep_history.specs.Marks.{Mark, octet, end, marks, mark_modulo_2_64, modulo_2_64}
use Rattle.beep_session.specs.beep_journal.specs.declared.role.Role.{Role}
use Rattle.beep_session.specs.beep_journal.specs.Laws.{rest_from}
use Rattle.beep_session.specs.beep_journal.specs.Lives.{Event, lives, is_live}
use Rattle.beep_session.specs.beep_journal.specs.Zero.{zero_history, events}
use Rattle.beep_session.specs.beep_journal.specs.Life.{is_there}
use Rattle.beep_session.specs.beep_lawful.specs.declared.limits.TheConstants.{MESSAGE_NUMBERS}
use Rattle.beep_desk.specs.prof_raw.specs.Entries.{body_of}
use Rattle.beep_session.specs.beep_lawful.specs.declared.terms.Terms.{Terms}
use Rattle.beep_session.specs.beep_lawful.specs.Lawful.{IsLawful}
use Rattle.beep_session.specs.beep_journal.specs.Broken.{none_tunes}
use Rattle.beep_session.specs.beep_channel.specs.Held.{Live}
use Rattle.beep_session.specs.beep_channel.specs.Stands.{Stands}
use Rattle.beep_session.specs.beep_lives.specs.Lives.{live_at}
use Rattle.beep_session.specs.beep_outbox.specs.Queue.{marks_of as unsent_marks}
use Rattle.beep_session.specs.beep_standing.specs.Standing.{Marks, AreLiveBy}
use Rattle.beep_session.specs.beep_peer.specs.Peering.{Carries}
use Rattle.beep_desk.specs.beep_talk.specs.declared.plan.Command.{Command}
use Rattle.beep_desk.specs.beep_talk.specs.Plan.{PlainPlan}
use Rattle.beep_desk.specs.beep_talk.specs.Talk.{has_profile, answers_from, nul, reply_of}
use Rattle.beep_desk.specs.beep_script.specs.Script.{message_marks}
use Rattle.beep_desk.specs.beep_script.specs.Requested.{requests_from, sender_texts, SenderTexts}
use Rattle.beep_desk.specs.beep_script.specs.Sending.{answers_of}
use Rattle.beep_desk.specs.beep_script.proofs.RequestedLemmas.{requests-append, requests-modulo}
use Rattle.beep_desk.specs.beep_script.proofs.LineLemmas.{IsNoSent}
use Rattle.beep_replies.specs.Replies.{sends_in}
use Rattle.beep_replies.proofs.StayLemmas.{stays-at}
use Rattle.beep_replies.proofs.PlacedLemmas.{replies_marks}
use Rattle.beep_replies.proofs.BeganLemmas.{sender-began}
use Rattle.beep_steps.specs.Sending.{Progress, Sends}
use Rattle.beep_steps.specs.Scripting.{RepliesGiven, part_given, whole_given, Scripts}
use Rattle.beep_steps.proofs.SendsLemmas.{LivesStep, item-step, keeps-zero}

-- ---- what was given agrees with replies

tag-zero : (t : Tag) → t.request ≡ 0 → modulo_2_64 t ≡ t
tag-zero t is = ap (λ (n : ℕ). record t { request = n }) (ap (λ (n : ℕ). (modulo_2_64 (record t { request = n })).request) is ∙ sym is)

message-modulo : (t : Tag) (octets : List ℕ) → t.request ≡ 0 → map mark_modulo_2_64 (map (octet t) octets ++ end t ∷ []) ≡ map (octet t) octets ++ end t ∷ []
message-modulo t [] is = ap (λ (x : Tag). end x ∷ []) (tag-zero t is)
message-modulo t (o ∷ octets) is =
    ap (λ (x : Tag). octet x o ∷ map mark_modulo_2_64 (map (octet t) octets ++ end t ∷ [])) (tag-zero t is) ∙ ap (λ rest. octet t o ∷ rest) (message-modulo t octets is)

map-append : (xs ys : List Mark) → map mark_modulo_2_64 (xs ++ ys) ≡ map mark_modulo_2_64 xs ++ map mark_modulo_2_64 ys
map-append [] ys = refl
map-append (x ∷ xs) ys = ap (λ rest. mark_modulo_2_64 x ∷ rest) (map-append xs ys)

-- the marks of the answer of one line
abbrev one_tag : ℕ → Tag
one_tag place = record { kind = Kind.Ans; request = 0; ansno = place % MESSAGE_NUMBERS }

abbrev one_answer : ℕ → List ℕ → List Mark
one_answer place line = map (octet (one_tag place)) (body_of (line ∷ [])) ++ end (one_tag place) ∷ []

abbrev answers_marks : ℕ → List (List ℕ) → List Mark
answers_marks place lines = flat_map message_marks (answers_from 0 place lines)

-- the answers to the first request are the same modulo 2^64
answers-modulo : (place : ℕ) (lines : List (List ℕ)) → map mark_modulo_2_64 (answers_marks place lines) ≡ answers_marks place lines
answers-modulo place [] = refl
answers-modulo place (line ∷ lines) =
    map-append (one_answer place line) (answers_marks (place + 1) lines)
    ∙ ap (λ (ms : List Mark). ms ++ map mark_modulo_2_64 (answers_marks (place + 1) lines)) (message-modulo (one_tag place) (body_of (line ∷ [])) refl)
    ∙ ap (λ (ms : List Mark). one_answer place line ++ ms) (answers-modulo (place + 1) lines)

-- those of some lines, and then of others
answers-split : (place : ℕ) (few more : List (List ℕ)) → answers_marks place (few ++ more) ≡ answers_marks place few ++ answers_marks (place + length few) more
answers-split place [] more = ap (λ (n : ℕ). answers_marks n more) (let e : place ≡ place + 0 = omega arith in e)
answers-split place (line ∷ few) more =
    ap (λ (ms : List Mark). one_answer place line ++ ms) (answers-split (place + 1) few more)
    ∙ sym (append_assoc (one_answer place line) (answers_marks (place + 1) few) (answers_marks ((place + 1) + length few) more))
    ∙ ap (λ (n : ℕ). answers_marks place (line ∷ few) ++ answers_marks n more) (let e : (place + 1) + length few ≡ place + suc (length few) = omega arith in e)

-- the replies to one request are the answers of all lines and their end
pub one-reply : (plan : PlainPlan) → plan.command ≡ Command.Send → replies_marks plan 0 1 ≡ answers_of plan.lines ++ flat_map message_marks (nul 0 ∷ [])
one-reply plan send =
    ap (flat_map message_marks) (append-nil (reply_of plan.command plan.lines 0) ∙ ap (λ (c : Command). reply_of c plan.lines 0) send)
    ∙ flat_map-append message_marks (answers_from 0 0 plan.lines) (nul 0 ∷ [])

pub answers-given : (plan : PlainPlan) → plan.command ≡ Command.Send → map mark_modulo_2_64 (replies_marks plan 0 1) ≡ answers_of plan.lines ++ flat_map message_marks (nul 0 ∷ [])
answers-given plan send =
    ap (map mark_modulo_2_64) (one-reply plan send) ∙ map-append (answers_of plan.lines) (flat_map message_marks (nul 0 ∷ []))
    ∙ ap (λ (ms : List Mark). ms ++ map mark_modulo_2_64 (flat_map message_marks (nul 0 ∷ []))) (answers-modulo 0 plan.lines)

-- what was given is the beginning of replies, positions modulo 2^64
pub record Agrees (plan : PlainPlan) (given : List Mark) : Type 0 where
  pub many : ℕ
  pub rest : List Mark
  pub same : given ++ rest ≡ map mark_modulo_2_64 (replies_marks plan 0 many)

-- the answers of the lines from a place on, and their end
abbrev pub lines_left : PlainPlan → ℕ → List Mark
lines_left plan next =
    flat_map message_marks (answers_from 0 (0 + length (take next plan.lines)) (drop next plan.lines)) ++ flat_map message_marks (nul 0 ∷ [])

-- with those of the lines before they are the reply to the first request
pub lines-go : (plan : PlainPlan) (next : ℕ) → plan.command ≡ Command.Send → answers_of (take next plan.lines) ++ lines_left plan next ≡ map mark_modulo_2_64 (replies_marks plan 0 1)
lines-go plan next send =
    sym (append_assoc (answers_of (take next plan.lines)) (flat_map message_marks (answers_from 0 (0 + length (take next plan.lines)) (drop next plan.lines))) (flat_map message_marks (nul 0 ∷ [])))
    ∙ ap (λ (ms : List Mark). ms ++ flat_map message_marks (nul 0 ∷ []))
    (sym (answers-split 0 (take next plan.lines) (drop next plan.lines)) ∙ ap answers_of (take-append-drop next plan.lines))
    ∙ sym (answers-given plan send)

pub agrees : (plan : PlainPlan) (next : ℕ) (given : List Mark) → plan.command ≡ Command.Send → RepliesGiven plan next given → Agrees plan given
agrees plan next given send (whole_given count enough is) = record { many = count + 1; rest = []; same = append-nil given ∙ is }
agrees plan next given send (part_given is) = record {
  many = 1;
  rest = lines_left plan next;
  same = ap (λ (ms : List Mark). ms ++ lines_left plan next) is ∙ lines-go plan next send;
}

-- ---- an item that is no sent frame

no-sent-in : (n k : ℕ) (item : Item) (journal : List Item) → IsNoSent item → sends_in n k item journal ≡ false
no-sent-in n k (began by head) journal is = refl
no-sent-in n k (passed Side.Received head payload) journal is = refl
no-sent-in n k (passed Side.Sent head payload) journal is = absurd is
no-sent-in n k (told by seq) journal is = refl

-- what was given in a life that goes on stays, and in one that begins nothing was
module _ (plan : PlainPlan) (p : Progress) (old new : List Item) (given now : Marks) (s : Sends plan p old given) (x : Scripts plan p old given) (step : LivesStep (events old) (events new))
    (carries : Carries old new given now) (few : lives 1 (events new) ≤ 1) where
  none-before : is_there 1 old ≡ false → is_there 1 new ≡ true → p.next ≡ 0
  none-before dead alive =
      let one : lives 1 (events new) ≡ lives 1 (events old) + 1 = step.begins dead alive in
      s.fresh (omega (arith, one, few))

  pub given-on : is_there 1 new ≡ true → RepliesGiven plan p.next (now 1)
  given-on alive = of (is_there 1 old) refl
    where
      of : (b : Bool) → is_there 1 old ≡ b → RepliesGiven plan p.next (now 1)
      of true was = subst (λ (ms : List Mark). RepliesGiven plan p.next ms) (sym (carries.same 1 refl was)) (x.lines was)
      of false was =
          part_given (carries.fresh 1 was alive ∙ sym (ap (λ (n : ℕ). answers_of (take n plan.lines)) (none-before was alive)))

  pub none-on : (n : ℕ) → (n == 0) ≡ false → (n == 1) ≡ false → is_there n new ≡ true → now n ≡ []
  none-on n above apart alive = of (is_there n old) refl
    where
      of : (b : Bool) → is_there n old ≡ b → now n ≡ []
      of true was = carries.same n above was ∙ x.none n above apart was
      of false was = carries.fresh n was alive

pub item-scripts : (plan : PlainPlan) (p : Progress) (item : Item) (journal : List Item) (given now : Marks) → Sends plan p journal given → Scripts plan p journal given → IsNoSent item
    → Carries journal (item ∷ journal) given now → lives 1 (events (item ∷ journal)) ≤ 1 → Scripts plan p (item ∷ journal) now
item-scripts plan p item journal given now s x other carries few = record {
  kept = λ n k above. stays-at plan n k item journal above (no-sent-in n k item journal other) (x.kept n k above);
  lines = given-on plan p journal (item ∷ journal) given now s x (item-step item journal) carries few;
  none = none-on plan p journal (item ∷ journal) given now s x (item-step item journal) carries few;
}

-- an item that begins and ends no life, where nothing is given
pub quiet-carries : (item : Item) (journal : List Item) (given : Marks) → events (item ∷ journal) ≡ events journal → Carries journal (item ∷ journal) given given
quiet-carries item journal given same = record {
  same = λ n above was. refl;
  fresh = λ n dead alive. absurd (let g : is_there n journal ≡ true = ap (λ (es : List Event). n == 0 || is_live n es) (sym same) ∙ alive in cc (dead, g));
}

-- ---- a life of channel 1 began with the profile

module _ (plan : PlainPlan) (texts : SenderTexts plan.raw_uri) (terms : Terms) (role : terms.role ≡ Role.Initiator) (journal : List Item) (given taken : Marks) (channels : List Live)
    (live : AreLiveBy terms.window journal given taken channels) (count : ℕ) (asked : requests_from [] (given 0) ≡ take count (sender_texts plan.raw_uri)) where
  some-there : (o : Option Live) → is_some o ≡ true → (c : Live) × (o ≡ Some c)
  some-there None is = absurd (let g : false ≡ true = is in cc)
  some-there (Some c) is = (c, refl)

  zero-there : (c : Live) × (live_at 0 channels ≡ Some c)
  zero-there = some-there (live_at 0 channels) (sym (live.there 0))

  zero-stands : Stands terms.window zero-there.0.held (zero_history journal) (given 0) (taken 0)
  zero-stands = live.zero zero-there.0 zero-there.1

  later : List (List ℕ)
  later = requests_from (rest_from [] (map mark_modulo_2_64 (marks Side.Sent (zero_history journal)))) (unsent_marks zero-there.0.held.queue)

  texts-are : requests_from [] (marks Side.Sent (zero_history journal)) ++ later ≡ take count (sender_texts plan.raw_uri)
  unfolding later
  texts-are =
      ap (λ (ts : List (List ℕ)). ts ++ requests_from (rest_from [] (map mark_modulo_2_64 (marks Side.Sent (zero_history journal)))) (unsent_marks zero-there.0.held.queue))
      (sym (requests-modulo [] (marks Side.Sent (zero_history journal))))
      ∙ sym (requests-append [] (map mark_modulo_2_64 (marks Side.Sent (zero_history journal))) (unsent_marks zero-there.0.held.queue))
      ∙ sym (ap (requests_from []) zero-stands.all_given) ∙ asked

  pub began-with : IsLawful terms none_tunes journal → 0 < lives 1 (events journal) → has_profile plan.raw_uri 1 1 journal ≡ true
  began-with lawful some =
      sender-began plan.raw_uri terms journal later count texts role (keeps-zero plan.raw_uri texts terms role journal given taken channels live count asked) texts-are lawful some
