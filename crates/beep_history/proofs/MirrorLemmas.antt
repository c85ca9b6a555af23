-- With the sides exchanged each rule is the same.
use Rattle.std.proofs.Common.{◌≡◌, ℕ, ◌==◌, nat_lt, nat_le, Bool, false, not, ◌&&◌, ◌||◌, if◌then◌else◌, List, [], ◌∷◌, ◌++◌, length, Option, Some, None, refl, ap, ◌∙◌}
use Rattle.std.specs.List.{list_any, filter}
use Rattle.std.specs.Option.{option_map_or}
use Rattle.beep_frame.specs.declared.head.Head.{Head}
use Rattle.beep_frame.specs.declared.rule.Rule.{Rule}
use Rattle.beep_frame.specs.Frame.{is_ans, is_nul, is_reply, same_kind}
use Rattle.beep_history.specs.declared.journal.Side.{Side}
use Rattle.beep_history.specs.declared.limits.TheConstants.{MAX_REQUESTS, MAX_ANSWERS}
use Rattle.beep_history.specs.Journal.{Item, began, passed, told, same_side, other, mirrored}
use Rattle.beep_history.specs.Marks.{first, frames, begins_request, Request, requests, is_whole, reply, ends_reply, is_answered, waiting, named, reply_so_far, unfinished, begins_answer, message_octets}
use Rattle.beep_history.specs.Windows.{acked_octets, last_window, departures, greatest_edge}
use Rattle.beep_history.specs.Broken as broken
use Rattle.beep_history.specs.Broken.{first_of, shape_rules, octet_rules, limit_rules, broken_within, exchange_rule}
use Rattle.beep_history.proofs.ListsLemmas.{filter-agree}

same-other : (a b : Side) → same_side (other a) (other b) ≡ same_side a b
same-other Side.Received Side.Received = refl
same-other Side.Received Side.Sent = refl
same-other Side.Sent Side.Received = refl
same-other Side.Sent Side.Sent = refl

map-or-agree : {X Y : Type 0} (f g : X → Y) (o : Option X) (d : Y) → ((x : X) → f x ≡ g x) → option_map_or f o d ≡ option_map_or g o d
map-or-agree f g None d agree = refl
map-or-agree f g (Some x) d agree = agree x

any-agree : {X : Type 0} (f g : X → Bool) (xs : List X) → ((x : X) → f x ≡ g x) → list_any f xs ≡ list_any g xs
any-agree f g [] agree = refl
any-agree f g (x ∷ xs) agree = rw (agree x, any-agree f g xs agree)

-- ---- what a history tells

frames-mirror : (side : Side) (past : List Item) → frames (other side) (mirrored past) ≡ frames side past
frames-mirror side [] = refl
frames-mirror side (began by head ∷ past) = frames-mirror side past
frames-mirror side (passed by head payload ∷ past) = rw (same-other by side, frames-mirror side past) refl
frames-mirror side (told by seq ∷ past) = frames-mirror side past

requests-mirror : (side : Side) (past : List Item) → requests (other side) (mirrored past) ≡ requests side past
requests-mirror side [] = refl
requests-mirror side (began by head ∷ past) = rw (same-other by side, frames-mirror side past, requests-mirror side past) refl
requests-mirror side (passed by head payload ∷ past) = requests-mirror side past
requests-mirror side (told by seq ∷ past) = requests-mirror side past

whole-mirror : (side : Side) (p : ℕ) (past : List Item) → is_whole (other side) p (mirrored past) ≡ is_whole side p past
whole-mirror side p [] = refl
whole-mirror side p (began by head ∷ past) = whole-mirror side p past
whole-mirror side p (passed by head payload ∷ past) = rw (same-other by side, requests-mirror side past, whole-mirror side p past) refl
whole-mirror side p (told by seq ∷ past) = whole-mirror side p past

reply-mirror : (side : Side) (p : ℕ) (past : List Item) → reply (other side) p (mirrored past) ≡ reply side p past
reply-mirror side p [] = refl
reply-mirror side p (began by head ∷ past) = reply-mirror side p past
reply-mirror side p (passed by head payload ∷ past) =
    rw (same-other by (other side), requests-mirror side past, reply-mirror side p past) refl
reply-mirror side p (told by seq ∷ past) = reply-mirror side p past

answered-mirror : (side : Side) (p : ℕ) (past : List Item) → is_answered (other side) p (mirrored past) ≡ is_answered side p past
answered-mirror side p past = ap (list_any ends_reply) (reply-mirror side p past)

waiting-mirror : (side : Side) (past : List Item) → waiting (other side) (mirrored past) ≡ waiting side past
waiting-mirror side past =
    filter-agree (λ (r : Request). not (is_answered (other side) r.position (mirrored past))) (λ (r : Request). not (is_answered side r.position past))
    (requests (other side) (mirrored past)) (λ r. ap not (answered-mirror side r.position past))
    ∙ ap (filter (λ (r : Request). not (is_answered side r.position past))) (requests-mirror side past)

pub edge-mirror : (side : Side) (past : List Item) → greatest_edge (other side) (mirrored past) ≡ greatest_edge side past
edge-mirror side [] = refl
edge-mirror side (began by head ∷ past) = edge-mirror side past
edge-mirror side (passed by head payload ∷ past) = edge-mirror side past
edge-mirror side (told by seq ∷ past) = rw (same-other by (other side), frames-mirror side past, edge-mirror side past) refl

acked-mirror : (side : Side) (past : List Item) → acked_octets (other side) (mirrored past) ≡ acked_octets side past
acked-mirror side [] = refl
acked-mirror side (began by head ∷ past) = acked-mirror side past
acked-mirror side (passed by head payload ∷ past) = acked-mirror side past
acked-mirror side (told by seq ∷ past) = rw (same-other by (other side), acked-mirror side past) refl

window-mirror : (side : Side) (past : List Item) → last_window (other side) (mirrored past) ≡ last_window side past
window-mirror side [] = refl
window-mirror side (began by head ∷ past) = window-mirror side past
window-mirror side (passed by head payload ∷ past) = window-mirror side past
window-mirror side (told by seq ∷ past) = rw (same-other by (other side), window-mirror side past) refl

pub departures-mirror : (side : Side) (past : List Item) → departures (other side) (mirrored past) ≡ departures side past
departures-mirror side past = rw (frames-mirror side past, acked-mirror side past, window-mirror side past) refl

-- ---- the rules

module _ (side : Side) (past : List Item) (head : Head) where
  named-mirror : named (other side) (mirrored past) head ≡ named side past head
  named-mirror = rw (requests-mirror (other side) past) refl

  so_far-mirror : reply_so_far (other side) (mirrored past) head ≡ reply_so_far side past head
  so_far-mirror =
      map-or-agree (λ (r : Request). reply (other (other side)) r.position (mirrored past)) (λ (r : Request). reply (other side) r.position past)
      (named (other side) (mirrored past) head) [] (λ r. reply-mirror (other side) r.position past)
      ∙ ap (λ (o : Option Request). option_map_or (λ (r : Request). reply (other side) r.position past) o []) named-mirror

  octets-mirror : message_octets (other side) (mirrored past) head ≡ message_octets side past head
  octets-mirror = rw (so_far-mirror, frames-mirror side past) refl

  begins-mirror : begins_request (other side) (mirrored past) head ≡ begins_request side past head
  begins-mirror = rw (frames-mirror side past) refl

  not_continued-mirror : broken.breaks_not_continued (other side) (mirrored past) head ≡ broken.breaks_not_continued side past head
  not_continued-mirror = rw (frames-mirror side past) refl

  message-mirror : broken.changes_message (other side) (mirrored past) head ≡ broken.changes_message side past head
  message-mirror = rw (frames-mirror side past) refl

  request-mirror : broken.goes_on_request (other side) (mirrored past) head ≡ broken.goes_on_request side past head
  request-mirror = rw (frames-mirror side past) refl

  changes-mirror : broken.changes_reply (other side) (mirrored past) head ≡ broken.changes_reply side past head
  changes-mirror =
      map-or-agree
      (λ (r : Request). not (is_answered (other (other side)) r.position (mirrored past))
      && list_any (λ (frame : Head). not (same_kind frame.kind head.kind)) (reply (other (other side)) r.position (mirrored past)))
      (λ (r : Request). not (is_answered (other side) r.position past)
      && list_any (λ (frame : Head). not (same_kind frame.kind head.kind)) (reply (other side) r.position past))
      (named (other side) (mirrored past) head) false
      (λ r. ap (λ (fs : List Head). not (list_any ends_reply fs) && list_any (λ (frame : Head). not (same_kind frame.kind head.kind)) fs)
      (reply-mirror (other side) r.position past))
      ∙ ap (λ (o : Option Request). option_map_or
      (λ (r : Request). not (is_answered (other side) r.position past)
      && list_any (λ (frame : Head). not (same_kind frame.kind head.kind)) (reply (other side) r.position past)) o false) named-mirror

  kind_changed-mirror : broken.breaks_kind_changed (other side) (mirrored past) head ≡ broken.breaks_kind_changed side past head
  kind_changed-mirror = kind-same (is_nul head.kind) (is_reply head.kind) _ _ _ _ _ _ request-mirror message-mirror changes-mirror
    where
      kind-same : (nul reply a b c d e f : Bool) → a ≡ b → c ≡ d → e ≡ f
          → (if nul then a else c || (reply && e)) ≡ (if nul then b else d || (reply && f))
      kind-same nul reply a b c d e f p q r = rw (p, q, r) refl

  number_in_use-mirror : broken.breaks_number_in_use (other side) (mirrored past) head ≡ broken.breaks_number_in_use side past head
  number_in_use-mirror = both _ _ _ _ begins-mirror
      (any-agree (λ (r : Request). r.number == head.msgno && is_whole (other side) r.position (mirrored past))
      (λ (r : Request). r.number == head.msgno && is_whole side r.position past) (waiting (other side) (mirrored past))
      (λ r. ap (λ (b : Bool). r.number == head.msgno && b) (whole-mirror side r.position past))
      ∙ ap (list_any (λ (r : Request). r.number == head.msgno && is_whole side r.position past)) (waiting-mirror side past))
    where
      both : (a b c d : Bool) → a ≡ b → c ≡ d → (a && c) ≡ (b && d)
      both a b c d p q = rw (p, q) refl

  never_asked-mirror : broken.breaks_never_asked (other side) (mirrored past) head ≡ broken.breaks_never_asked side past head
  never_asked-mirror = rw (requests-mirror (other side) past) refl

  early_reply-mirror : broken.breaks_early_reply (other side) (mirrored past) head ≡ broken.breaks_early_reply side past head
  early_reply-mirror = ap (λ (b : Bool). is_reply head.kind && b)
      (map-or-agree (λ (r : Request). not (is_whole (other (other side)) r.position (mirrored past)))
      (λ (r : Request). not (is_whole (other side) r.position past)) (named (other side) (mirrored past) head) false
      (λ r. ap not (whole-mirror (other side) r.position past))
      ∙ ap (λ (o : Option Request). option_map_or (λ (r : Request). not (is_whole (other side) r.position past)) o false) named-mirror)

  already_answered-mirror : broken.breaks_already_answered (other side) (mirrored past) head ≡ broken.breaks_already_answered side past head
  already_answered-mirror = ap (λ (b : Bool). is_reply head.kind && b)
      (map-or-agree (λ (r : Request). is_answered (other (other side)) r.position (mirrored past))
      (λ (r : Request). is_answered (other side) r.position past) (named (other side) (mirrored past) head) false
      (λ r. answered-mirror (other side) r.position past)
      ∙ ap (λ (o : Option Request). option_map_or (λ (r : Request). is_answered (other side) r.position past) o false) named-mirror)

  out_of_turn-mirror : broken.breaks_out_of_turn (other side) (mirrored past) head ≡ broken.breaks_out_of_turn side past head
  out_of_turn-mirror = ap (λ (b : Bool). is_reply head.kind && b)
      (map-or-agree (λ (r : Request). list_any (λ (e : Request). nat_lt e.position r.position) (waiting (other (other side)) (mirrored past)))
      (λ (r : Request). list_any (λ (e : Request). nat_lt e.position r.position) (waiting (other side) past))
      (named (other side) (mirrored past) head) false
      (λ r. ap (list_any (λ (e : Request). nat_lt e.position r.position)) (waiting-mirror (other side) past))
      ∙ ap (λ (o : Option Request). option_map_or (λ (r : Request). list_any (λ (e : Request). nat_lt e.position r.position) (waiting (other side) past)) o false)
      named-mirror)

  nul_not_after_ans-mirror : broken.breaks_nul_not_after_ans (other side) (mirrored past) head ≡ broken.breaks_nul_not_after_ans side past head
  nul_not_after_ans-mirror =
      ap (λ (fs : List Head). is_nul head.kind && option_map_or (λ (before : Head). not (is_ans before.kind)) (first fs) false) so_far-mirror

  nul_too_soon-mirror : broken.breaks_nul_too_soon (other side) (mirrored past) head ≡ broken.breaks_nul_too_soon side past head
  nul_too_soon-mirror = ap (λ (fs : List Head). is_nul head.kind && nat_lt 0 (length (unfinished fs))) so_far-mirror

  too_many_requests-mirror : broken.breaks_too_many_requests (other side) (mirrored past) head ≡ broken.breaks_too_many_requests side past head
  too_many_requests-mirror =
      rw (begins-mirror) (ap (λ (rs : List Request). begins_request side past head && nat_le MAX_REQUESTS (length rs)) (waiting-mirror side past))

  too_many_answers-mirror : broken.breaks_too_many_answers (other side) (mirrored past) head ≡ broken.breaks_too_many_answers side past head
  too_many_answers-mirror =
      ap (λ (fs : List Head). begins_answer fs head && nat_le MAX_ANSWERS (length (unfinished fs))) so_far-mirror

  shape-mirror : shape_rules (other side) (mirrored past) head ≡ shape_rules side past head
  shape-mirror = rw (
    not_continued-mirror,
    kind_changed-mirror,
    number_in_use-mirror,
    never_asked-mirror,
    early_reply-mirror,
    already_answered-mirror,
    out_of_turn-mirror,
    nul_not_after_ans-mirror,
    nul_too_soon-mirror,
  ) refl

  limit-mirror : limit_rules (other side) (mirrored past) head ≡ limit_rules side past head
  limit-mirror = rw (octets-mirror, too_many_requests-mirror, too_many_answers-mirror) refl

  rules-mirror : (edge : ℕ) → octet_rules edge (other side) (mirrored past) head ≡ octet_rules edge side past head
  rules-mirror edge = rw (octets-mirror, frames-mirror side past) refl

pub exchange-mirror : (side : Side) (past : List Item) (head : Head) → exchange_rule (other side) (mirrored past) head ≡ exchange_rule side past head
unfolding exchange_rule
exchange-mirror side past head =
    ap (λ (rows : List (Rule × Bool)). first_of (rows ++ limit_rules (other side) (mirrored past) head)) (shape-mirror side past head)
    ∙ ap (λ (rows : List (Rule × Bool)). first_of (shape_rules side past head ++ rows)) (limit-mirror side past head)

pub within-mirror : (edge : ℕ) (side : Side) (past : List Item) (head : Head) → broken_within edge (other side) (mirrored past) head ≡ broken_within edge side past head
unfolding broken_within
within-mirror edge side past head =
    ap (λ (rows : List (Rule × Bool)). first_of (rows ++ octet_rules edge (other side) (mirrored past) head ++ limit_rules (other side) (mirrored past) head)) (shape-mirror side past head)
    ∙ ap (λ (rows : List (Rule × Bool)). first_of (shape_rules side past head ++ rows ++ limit_rules (other side) (mirrored past) head)) (rules-mirror side past head edge)
    ∙ ap (λ (rows : List (Rule × Bool)). first_of (shape_rules side past head ++ octet_rules edge side past head ++ rows)) (limit-mirror side past head)
