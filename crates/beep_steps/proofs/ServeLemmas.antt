-- What each call leaves of a listener that serves one profile.
use Rattle.std.proofs.Common.{◌≡◌, ℕ, drop, codes, ◌+◌, Bool, true, false, not, ◌||◌, if◌then◌else◌, List, [], ◌∷◌, ◌++◌, map, length, Option, None, Some, refl, sym, ap, ◌∙◌, subst, arith}
use Rattle.std.specs.Prelude.{is_some, bytes_eq}
use Rattle.std.specs.List.{list_any}
use Rattle.std.proofs.lemmas.List.{append_assoc, append-nil}
use Rattle.std.proofs.lemmas.List.Folds.{list_any-append}
use Rattle.std.proofs.lemmas.Slice.Eq.{bytes_eq-Decides}
use Rattle.beep_session.specs.beep_frame.specs.declared.kind.Kind.{Kind}
use Rattle.beep_session.specs.beep_frame.specs.declared.tag.Tag.{Tag}
use Rattle.beep_session.specs.beep_frame.specs.Frame.{is_msg}
use Rattle.beep_session.specs.beep_history.specs.declared.journal.Side.{Side}
use Rattle.beep_session.specs.beep_history.specs.Journal.{Item}
use Rattle.beep_session.specs.beep_history.specs.Marks.{Mark, octet, end, marks, mark_modulo_2_64}
use Rattle.beep_session.specs.beep_history.specs.Broken.{KeepsExchangeRules}
use Rattle.beep_session.specs.beep_mime.specs.Split.{mime_header}
use Rattle.beep_session.specs.beep_text.specs.Tree.{Items}
use Rattle.beep_session.specs.beep_text.specs.declared.attr.Attr.{Attr}
use Rattle.beep_session.specs.beep_text.specs.Elements.{no_pieces, alone, around, pieces_text}
use Rattle.beep_session.specs.beep_text.specs.Canonical.{is_nothing, tag_as, pieces_as, element_text}
use Rattle.beep_session.specs.beep_mgmt.specs.declared.profile.Encoding.{Encoding}
use Rattle.beep_session.specs.beep_mgmt.specs.Form.{Form, PlainProfile, greeting, start, chosen, close, okay, fault}
use Rattle.beep_session.specs.beep_mgmt.specs.Written.{element, is_text, profile_as, profiles_as, element_as}
use Rattle.beep_session.specs.beep_mgmt.specs.Message.{message_said, message_text}
use Rattle.beep_session.specs.beep_journal.specs.Laws.{contents, pieces_from, rest_from}
use Rattle.beep_session.specs.beep_journal.specs.Log.{Moment, got_all, put_all}
use Rattle.beep_session.specs.beep_journal.specs.Zero.{zero_history, asked, said_at}
use Rattle.beep_session.specs.beep_journal.proofs.PiecesLemmas.{are-cut}
use Rattle.beep_session.specs.beep_channel.specs.Held.{Live}
use Rattle.beep_session.specs.beep_channel.specs.Stands.{Stands, ends_of}
use Rattle.beep_session.specs.beep_lives.specs.Lives.{live_at}
use Rattle.beep_session.specs.beep_outbox.specs.Queue.{Message, message_marks, marks_of, marks_of as unsent_marks}
use Rattle.beep_session.specs.beep_standing.specs.Standing.{Marks, AreLiveBy}
use Rattle.beep_session.specs.beep_decide.specs.Decide.{PlainOffer, PlainStanding, Decision, refuse, choose, tune, grant_close, decide, uri_at, note_of}
use Rattle.beep_session.specs.beep_decide.specs.Laws.{IsOfferAt, IsFirstOffered}
use Rattle.beep_session.specs.beep_decide.proofs.AnswerLemmas.{offered-uri, start-chosen}
use Rattle.beep_session.specs.beep_answering.specs.declared.settled.Settled.{Settled}
use Rattle.beep_session.specs.beep_answering.specs.Decided.{SaysAnswer, SettledBy}
use Rattle.beep_session.specs.beep_answering.specs.Sent.{IsMessage, greeting_of, plain_listed}
use Rattle.beep_session.specs.beep_spoken.specs.Spoken.{Spoken, text_of, AllSaid}
use Rattle.beep_session.specs.beep_exchange.specs.Given.{ends_reply}
use Rattle.beep_session.specs.beep_management.specs.Manages.{Manages}
use Rattle.beep_session.specs.beep_management.specs.declared.wait.Wait.{Wait}
use Rattle.beep_session.specs.beep_management.specs.Managed.{Prepared}
use Rattle.beep_session.specs.beep_peer.specs.declared.peer.Peer.{Peer}
use Rattle.beep_session.specs.beep_peer.proofs.LetLemmas.{left-words}
use Rattle.beep_session.specs.beep_peer.specs.Calls.{Begins, GivesFirst, words_of}
use Rattle.beep_session.specs.beep_peer.specs.Waiting.{AreGiven}
use Rattle.beep_session.specs.Session.{Held}
use Rattle.beep_desk.specs.beep_talk.specs.Plan.{PlainPlan}
use Rattle.beep_desk.specs.beep_script.specs.Requested.{requests_from}
use Rattle.beep_desk.specs.beep_script.proofs.RequestedLemmas.{requests-append, requests-modulo, one-request, one-rest, asked-so, AreAskedSo, own_forms}
use Rattle.beep_served.specs.Served.{says_other, chooses_other, IsServing}
use Rattle.beep_served.proofs.ShownLemmas.{serves-on, served-before}
use Rattle.beep_steps.specs.Serving.{Serves, ServesOn, ShowsServing}
use Rattle.beep_steps.proofs.CallSends.{first-none}

-- ---- tests

left-false : (a b : Bool) → (a || b) ≡ false → a ≡ false
left-false true b e = absurd cc
left-false false b e = refl

right-false : (a b : Bool) → (a || b) ≡ false → b ≡ false
right-false true b e = absurd cc
right-false false b e = e

both-false : (a b : Bool) → a ≡ false → b ≡ false → (a || b) ≡ false
both-false true b e f = absurd (let g : true ≡ false = e in cc)
both-false false b e f = f

-- ---- marks cut at their ends

pub pieces-append : (begun : List ℕ) (xs ys : List Mark) → pieces_from begun (xs ++ ys) ≡ pieces_from begun xs ++ pieces_from (rest_from begun xs) ys
pieces-append begun [] ys = refl
pieces-append begun (octet tag value ∷ xs) ys = pieces-append (begun ++ value ∷ []) xs ys
pieces-append begun (end tag ∷ xs) ys = ap (λ rest. begun ∷ rest) (pieces-append [] xs ys)

pieces-modulo : (begun : List ℕ) (ms : List Mark) → pieces_from begun (map mark_modulo_2_64 ms) ≡ pieces_from begun ms
pieces-modulo begun [] = refl
pieces-modulo begun (octet tag value ∷ ms) = pieces-modulo (begun ++ value ∷ []) ms
pieces-modulo begun (end tag ∷ ms) = ap (λ rest. begun ∷ rest) (pieces-modulo [] ms)

one-piece : (begun : List ℕ) (tag : Tag) (content : List ℕ) → pieces_from begun (map (octet tag) content ++ end tag ∷ []) ≡ (begun ++ content) ∷ []
one-piece begun tag [] = ap (λ (c : List ℕ). c ∷ []) (sym (append-nil begun))
one-piece begun tag (c ∷ cs) = one-piece (begun ++ c ∷ []) tag cs ∙ ap (λ (content : List ℕ). content ∷ []) (append_assoc begun (c ∷ []) cs)

messages-pieces : (messages : List Message) → pieces_from [] (marks_of messages) ≡ map (λ m. m.octets) messages
messages-pieces [] = refl
messages-pieces (m ∷ messages) =
    pieces-append [] (message_marks m) (marks_of messages)
    ∙ ap (λ (ps : List (List ℕ)). ps ++ pieces_from (rest_from [] (message_marks m)) (marks_of messages)) (one-piece [] m.tag m.octets)
    ∙ ap (λ (begun : List ℕ). m.octets ∷ pieces_from begun (marks_of messages)) (one-rest [] m.tag m.octets)
    ∙ ap (λ (ps : List (List ℕ)). m.octets ∷ ps) (messages-pieces messages)

-- ---- answers that are let go

module _ (uri : List ℕ) where
  abbrev later_other : List Prepared → Bool
  later_other answers = list_any (λ answer. chooses_other uri answer.octets) answers

  messages-other : (messages : List Message) (answers : List Prepared) → AreGiven messages answers → list_any (chooses_other uri) (map (λ m. m.octets) messages) ≡ later_other answers
  messages-other [] [] are = refl
  messages-other [] (a ∷ answers) are = absurd are
  messages-other (m ∷ messages) [] are = absurd are
  messages-other (m ∷ messages) (a ∷ answers) are =
      ap (λ (text : List ℕ). chooses_other uri text || list_any (chooses_other uri) (map (λ n. n.octets) messages)) are.1
      ∙ ap (λ (b : Bool). chooses_other uri a.octets || b) (messages-other messages answers are.2)

  words-other : (one other : List Prepared) → words_of one ≡ words_of other → later_other one ≡ later_other other
  words-other one other same = word-any one ∙ ap (list_any (λ (w : Kind × List ℕ). chooses_other uri w.1)) same ∙ sym (word-any other)
    where
      word-any : (answers : List Prepared) → list_any (λ answer. chooses_other uri answer.octets) answers ≡ list_any (λ (w : Kind × List ℕ). chooses_other uri w.1) (words_of answers)
      word-any [] = refl
      word-any (a ∷ answers) = ap (λ (b : Bool). chooses_other uri a.octets || b) (word-any answers)

  pub first-serves : (given now : Marks) (answers : List Prepared) (peer : Peer) → list_any (λ a. is_msg a.kind) answers ≡ false → rest_from [] (given 0) ≡ []
      → GivesFirst given now answers peer → Serves uri (given 0) answers → Serves uri (now 0) peer.management.answers
  first-serves given now answers peer none whole g s = record {
    no_request = first-none given now answers peer none whole g ∙ s.no_request;
    no_other =
        ap (λ (ms : List Mark). list_any (chooses_other uri) (pieces_from [] ms)) g.given_is
        ∙ ap (list_any (chooses_other uri)) (pieces-append [] (given 0) (marks_of g.messages))
        ∙ list_any-append (chooses_other uri) (pieces_from [] (given 0)) (pieces_from (rest_from [] (given 0)) (marks_of g.messages))
        ∙ both-false (list_any (chooses_other uri) (pieces_from [] (given 0))) (list_any (chooses_other uri) (pieces_from (rest_from [] (given 0)) (marks_of g.messages))) s.no_other
        (ap (λ (begun : List ℕ). list_any (chooses_other uri) (pieces_from begun (marks_of g.messages))) whole
        ∙ ap (list_any (chooses_other uri)) (messages-pieces g.messages)
        ∙ messages-other g.messages g.gone g.are ∙ left-false (later_other g.gone) (later_other peer.management.answers) all);
    none_later = right-false (later_other g.gone) (later_other peer.management.answers) all;
  }
    where
      all : (list_any (λ answer. chooses_other uri answer.octets) g.gone || list_any (λ answer. chooses_other uri answer.octets) peer.management.answers) ≡ false
      all =
          sym (list_any-append (λ answer. chooses_other uri answer.octets) g.gone peer.management.answers)
          ∙ ap (list_any (λ answer. chooses_other uri answer.octets)) (sym g.split) ∙ words-other g.now answers (left-words peer.lives answers g.now g.left) ∙ s.none_later

  -- one more answer, which says no other profile
  pub more-serves : (given : List Mark) (answers : List Prepared) (answer : Prepared) → chooses_other uri answer.octets ≡ false → Serves uri given answers
      → Serves uri given (answers ++ answer ∷ [])
  more-serves given answers answer none s = record {
    no_request = s.no_request;
    no_other = s.no_other;
    none_later = list_any-append (λ one. chooses_other uri one.octets) answers (answer ∷ [])
        ∙ both-false (later_other answers) (chooses_other uri answer.octets || false) s.none_later (both-false (chooses_other uri answer.octets) false none refl);
  }

  -- ---- what a listener answers

  message-says : (octets : List ℕ) (form : Form) → IsMessage octets form → says_other uri (Some form) ≡ false → chooses_other uri octets ≡ false
  message-says octets form m none = ap (chooses_other uri) m.text ∙ ap (says_other uri) m.says ∙ none

  -- the offer that is chosen is the one
  one-uri : (before after : List PlainOffer) (offer found : PlainOffer) → offer ∷ [] ≡ before ++ found ∷ after → offer ≡ found
  one-uri [] after offer found e = cc
  one-uri (o ∷ before) after offer found e = absurd (rest before after found (let g : [] ≡ before ++ found ∷ after = cc in g))
    where
      rest : (before after : List PlainOffer) (found : PlainOffer) → [] ≡ before ++ found ∷ after → ⊥
      rest [] after found e = cc
      rest (o ∷ before) after found e = cc

  offered : (standing : PlainStanding) (offer : PlainOffer) (place : ℕ) (listed : List ℕ) → standing.offers ≡ offer ∷ [] → offer.uri ≡ uri
      → IsOfferAt standing.offers listed place false → uri_at place standing.offers ≡ uri
  offered standing offer place listed one is at =
      offered-uri standing.offers listed place false at
      ∙ sym (ap (λ (o : PlainOffer). o.uri) (one-uri at.before at.after offer (record { uri = listed; tuning = false }) (sym one ∙ at.whole))) ∙ is

  same-bytes : (one other : List ℕ) → one ≡ other → not (bytes_eq one other) ≡ false
  same-bytes one other e = ap not ((bytes_eq-Decides one other).1 e)

  start-says : (standing : PlainStanding) (offer : PlainOffer) (number : ℕ) (server : Option (List ℕ)) (listed : List PlainProfile) (place : ℕ) (octets : List ℕ) → standing.offers ≡ offer ∷ []
      → offer.uri ≡ uri → decide standing (Some (start number server listed)) ≡ choose place → SaysAnswer standing (choose place) octets → chooses_other uri octets ≡ false
  start-says standing offer number server listed place octets one is at says =
      let first : IsFirstOffered standing.offers listed place = start-chosen standing number place listed at in
      message-says octets (chosen (chosen_as (uri_at place standing.offers))) (says (chosen (chosen_as (uri_at place standing.offers))) refl)
      (same-bytes (uri_at place standing.offers) uri (offered standing offer place first.profile.uri one is first.offered))
    where
      chosen_as : List ℕ → PlainProfile
      chosen_as listed = record { uri = listed; encoding = Encoding.Plain; content = []; readable = true }

  -- the answer to a request says no other profile
  pub answer-says : (standing : PlainStanding) (offer : PlainOffer) (said : Option Form) (settled : Settled) (waits : Wait) (octets : List ℕ) → standing.offers ≡ offer ∷ [] → offer.uri ≡ uri
      → SaysAnswer standing (decide standing said) octets → SettledBy (decide standing said) said settled waits → chooses_other uri octets ≡ false
  answer-says standing offer said settled waits octets one is says by = of (decide standing said) refl says by
    where
      chooses : (place : ℕ) (said : Option Form) → decide standing said ≡ choose place → SaysAnswer standing (choose place) octets → SettledBy (choose place) said settled waits
          → chooses_other uri octets ≡ false
      chooses place None at says by = absurd by
      chooses place (Some (greeting features localize profiles)) at says by = absurd by
      chooses place (Some (start number server listed)) at says by = start-says standing offer number server listed place octets one is at says
      chooses place (Some (chosen profile)) at says by = absurd by
      chooses place (Some (close number code note)) at says by = absurd by
      chooses place (Some okay) at says by = absurd by
      chooses place (Some (fault code note)) at says by = absurd by

      of : (d : Decision) → decide standing said ≡ d → SaysAnswer standing d octets → SettledBy d said settled waits → chooses_other uri octets ≡ false
      of (refuse code) at says by = message-says octets (fault code (note_of code)) (says (fault code (note_of code)) refl) refl
      of (choose place) at says by = chooses place said at says by
      of (tune place content) at says by = absurd by
      of grant_close at says by = message-says octets okay (says okay refl) refl

-- ---- the greeting

-- the second octet of a text
abbrev letter : List ℕ → ℕ
letter [] = 0
letter (one ∷ []) = 0
letter (one ∷ two ∷ rest) = two

-- the name of an element follows its first octet
element-letter : (c : ℕ) (name : List ℕ) (attrs : List Attr) (items : Items) (rest : List ℕ) → letter (element_text (element (c ∷ name) attrs items) ++ rest) ≡ c
element-letter c name attrs items rest = of (is_nothing items)
  where
    of : (b : Bool) → letter (pieces_text (if b then alone no_pieces (tag_as (c ∷ name) attrs (32 ∷ [])) else around no_pieces (tag_as (c ∷ name) attrs []) (pieces_as items) []) ++ rest) ≡ c
    of true = refl
    of false = refl

either-letter : (b : Bool) (one other : List Attr) (these those : Items) (rest : List ℕ)
    → letter (element_text (if b then element (codes "profile") one these else element (codes "profile") other those) ++ rest) ≡ 112
either-letter true one other these those rest = element-letter 112 (codes "rofile") one these rest
either-letter false one other these those rest = element-letter 112 (codes "rofile") other those rest

profile-letter : (uri content rest : List ℕ) → letter (element_text (profile_as uri content) ++ rest) ≡ 112
profile-letter uri content rest = either-letter (is_text content) _ _ _ _ rest

-- a greeting is no profile that is chosen
no-choice : (offers : List PlainOffer) (profile : PlainProfile) → message_text (greeting_of offers) ≡ message_text (chosen profile) → ⊥
no-choice offers profile same =
    absurd (let one = element-letter 103 (codes "reeting") [] (profiles_as (map plain_listed offers)) (13 ∷ 10 ∷ []) in
    let other = profile-letter profile.uri profile.content (13 ∷ 10 ∷ []) in
    let bodies : letter (element_text (element_as (greeting_of offers)) ++ 13 ∷ 10 ∷ []) ≡ letter (element_text (element_as (chosen profile)) ++ 13 ∷ 10 ∷ []) = ap (λ (text : List ℕ). letter (drop 38 text)) (text-of (greeting_of offers) ∙ same ∙ sym (text-of (chosen profile))) in
    let apart : 103 ≡ 112 = sym one ∙ bodies ∙ other in omega (arith, apart))
  where
    text-of : (form : Form) → mime_header ++ (element_text (element_as form) ++ 13 ∷ 10 ∷ []) ≡ message_text form
    text-of form = sym (append_assoc mime_header (element_text (element_as form)) (13 ∷ 10 ∷ []))

greeting-says : (uri : List ℕ) (offers : List PlainOffer) (form : Form) → message_text (greeting_of offers) ≡ message_text form → says_other uri (Some form) ≡ false
greeting-says uri offers (greeting features localize profiles) same = refl
greeting-says uri offers (start number server profiles) same = refl
greeting-says uri offers (chosen profile) same = absurd (no-choice offers profile same)
greeting-says uri offers (close number code note) same = refl
greeting-says uri offers okay same = refl
greeting-says uri offers (fault code note) same = refl

-- a message that was spoken alone is what it says
spoken-says : (uri text : List ℕ) (offers : List PlainOffer) (spoken : List Spoken) → text ≡ message_text (greeting_of offers) → text ∷ [] ≡ map text_of spoken → AllSaid spoken
    → chooses_other uri text ≡ false
spoken-says uri text offers [] is are said = absurd cc
spoken-says uri text offers (one ∷ others) is are said =
    let same : text ≡ text_of one = cc in
    ap (chooses_other uri) same ∙ ap (says_other uri) said.0 ∙ greeting-says uri offers one.form (sym is ∙ same)

-- ---- a session that has begun

reply-none : (kind : Kind) → kind ≡ Kind.Rpy → is_msg kind ≡ false
reply-none kind is = ap is_msg is

-- one reply was given, and no answer waits
nothing-waits : (answers : List Prepared) → 1 + length answers ≡ 1 → answers ≡ []
nothing-waits [] e = refl
nothing-waits (a ∷ answers) e = absurd (omega (arith, e))

pub begins-serving : (uri : List ℕ) (size : ℕ) (offers : List PlainOffer) (peer : Peer) (b : Begins size (message_text (greeting_of offers)) peer) → Serves uri (b.given 0) peer.management.answers
begins-serving uri size offers peer b = record {
  no_request = ap (requests_from []) b.given_is ∙ one-request [] b.message.tag b.message.octets ∙ ap (λ (k : Bool). if k then b.message.octets ∷ [] else []) (reply-none b.message.tag.kind b.is_rpy);
  no_other = ap (list_any (chooses_other uri)) piece ∙ both-false (chooses_other uri b.message.octets) false
      (spoken-says uri b.message.octets offers m.spoken b.is_text (sym piece ∙ m.is.spoken_is.octets) m.is.spoken_is.said) refl;
  none_later = ap (list_any (λ answer. chooses_other uri answer.octets)) (nothing-waits peer.management.answers one);
}
  where
    m : Manages size [] b.given peer.management
    m = b.stands.holds.manages

    piece : pieces_from [] (b.given 0) ≡ b.message.octets ∷ []
    piece = ap (pieces_from []) b.given_is ∙ one-piece [] b.message.tag b.message.octets

    ends : (begun : List ℕ) → ends_of ends_reply (map (octet b.message.tag) begun ++ end b.message.tag ∷ []) ≡ (if ends_reply b.message.tag.kind then 1 else 0)
    ends [] = refl
    ends (c ∷ begun) = ends begun

    one : 1 + length peer.management.answers ≡ 1
    one = ap (λ (n : ℕ). n + length peer.management.answers)
        (sym (ap (ends_of ends_reply) b.given_is ∙ ends b.message.octets ∙ ap (λ (k : Kind). if ends_reply k then 1 else 0) b.is_rpy)) ∙ m.is.owed

-- ---- what a log shows of it

some-there : (o : Option Live) → is_some o ≡ true → (c : Live) × (o ≡ Some c)
some-there None is = absurd (let g : false ≡ true = is in cc)
some-there (Some c) is = (c, refl)

none-asked : (forms : List (Option Form)) → length forms ≡ 1 → said_at 0 forms ≡ None → list_any is_some forms ≡ false
none-asked [] count said = refl
none-asked (form ∷ []) count said = ap (λ (f : Option Form). is_some f || false) said
none-asked (form ∷ other ∷ forms) count said = absurd (omega (arith, count))

nothing-left : (xs ys : List (List ℕ)) → xs ++ ys ≡ [] → xs ≡ []
nothing-left [] ys e = refl
nothing-left (x ∷ xs) ys e = absurd (let g : (x ∷ xs) ++ ys ≡ [] = e in cc)

module _ (uri : List ℕ) (window : ℕ) (journal : List Item) (given taken : Marks) (channels : List Live) (live : AreLiveBy window journal given taken channels) (answers : List Prepared)
    (s : Serves uri (given 0) answers) where
  zero-there : (c : Live) × (live_at 0 channels ≡ Some c)
  zero-there = some-there (live_at 0 channels) (sym (live.there 0))

  zero-stands : Stands window zero-there.0.held (zero_history journal) (given 0) (taken 0)
  zero-stands = live.zero zero-there.0 zero-there.1

  keeps-zero : KeepsExchangeRules (zero_history journal)
  keeps-zero = zero-stands.held.exchange.unbroken

  abbrev sent : List Mark
  sent = marks Side.Sent (zero_history journal)

  abbrev unsent : List Mark
  unsent = unsent_marks zero-there.0.held.queue

  given-is : given 0 ≡ map mark_modulo_2_64 sent ++ unsent
  given-is = zero-stands.all_given

  no-texts : requests_from [] sent ≡ []
  no-texts =
      sym (requests-modulo [] sent)
      ∙ nothing-left (requests_from [] (map mark_modulo_2_64 sent)) (requests_from (rest_from [] (map mark_modulo_2_64 sent)) unsent)
      (sym (requests-append [] (map mark_modulo_2_64 sent) unsent) ∙ sym (ap (requests_from []) given-is) ∙ s.no_request)

  sent-none : list_any (chooses_other uri) (contents Side.Sent journal) ≡ false
  sent-none =
      ap (list_any (chooses_other uri)) (sym (are-cut Side.Sent journal keeps-zero).pieces ∙ sym (pieces-modulo [] sent))
      ∙ left-false (list_any (chooses_other uri) (pieces_from [] (map mark_modulo_2_64 sent))) (list_any (chooses_other uri) (pieces_from (rest_from [] (map mark_modulo_2_64 sent)) unsent))
      (sym (list_any-append (chooses_other uri) (pieces_from [] (map mark_modulo_2_64 sent)) (pieces_from (rest_from [] (map mark_modulo_2_64 sent)) unsent))
      ∙ sym (ap (list_any (chooses_other uri)) (pieces-append [] (map mark_modulo_2_64 sent) unsent))
      ∙ sym (ap (λ (ms : List Mark). list_any (chooses_other uri) (pieces_from [] ms)) given-is) ∙ s.no_other)

  pub is-serving : IsServing uri journal
  is-serving =
      let a : AreAskedSo (zero_history journal) = asked-so journal keeps-zero in
      let forms : own_forms (zero_history journal) ≡ None ∷ [] = ap (λ (ts : List (List ℕ)). None ∷ map message_said ts) no-texts in
      record {
        no_request = none-asked (asked Side.Sent (zero_history journal)) (a.count ∙ ap (λ (fs : List (Option Form)). length fs) forms) (a.said 0);
        no_other = sent-none;
      }

module _ (plan : PlainPlan) (session : Held) where
  serving-on : (log : List Moment) (s : ServesOn plan session log) → IsServing plan.raw_uri s.on.logged.shown.past.journal
  serving-on log s =
      subst (IsServing plan.raw_uri) (sym s.on.logged.shown.journal_is)
      (is-serving plan.raw_uri session.limits.window s.on.journal s.on.given s.on.taken session.peer.lives s.on.stands.stands.holds.live session.peer.management.answers s.serves)

  -- whatever comes, and wherever it stops
  pub shows-serving : (octets : List ℕ) (log : List Moment) → ServesOn plan session log → ShowsServing plan (got_all octets log)
  shows-serving octets log s past shows =
      serves-on plan.raw_uri octets log s.on.logged.shown.past past s.on.logged.shown.shows shows (serving-on log s)

  -- whatever of what is to be written was written
  pub shows-served : (octets : List ℕ) (log : List Moment) → ServesOn plan session (put_all octets log) → ShowsServing plan log
  shows-served octets log s past shows =
      served-before plan.raw_uri octets log past s.on.logged.shown.past shows s.on.logged.shown.shows (serving-on (put_all octets log) s)
