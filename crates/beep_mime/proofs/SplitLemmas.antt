use Rattle.std.proofs.Common.{◌≡◌, ℕ, ◌+◌, ◌-◌, ◌<◌, ◌≤◌, Bool, true, false, ◌&&◌, ◌||◌, ◌==◌, if◌then◌else◌, List, [], ◌∷◌, ◌++◌, length, get_or, take, drop, refl, sym, ap, ◌∙◌, arith, length-take-le, get_or-take, drop-drop}
use Rattle.std.proofs.lemmas.List.{drop_more, take_more, drop_all, take_rest}
use Rattle.beep_mime.specs.Split.{lines_after, ends_in_cr, header_len, is_header_line, is_continuation, body_start, body_of, mime_header}

-- the line so far ends in a CR where the octet before is one
pub ends_in_cr-take : (bytes : List ℕ) (i : ℕ) → 0 < i → i ≤ length bytes → ends_in_cr (take i bytes) ≡ (get_or bytes (i - 1) 0 == 13)
ends_in_cr-take bytes i some within = rw (length-take-le i bytes within, get_or-take i bytes (i - 1) 0 (omega arith)) refl

-- one octet further
pub lines_after-more : (bytes : List ℕ) (i : ℕ) → i < length bytes → lines_after (take i bytes) (drop i bytes)
    ≡ (if get_or bytes i 0 == 10 && ends_in_cr (take i bytes) then take (i + 1) bytes ∷ lines_after [] (drop (i + 1) bytes) else lines_after (take (i + 1) bytes) (drop (i + 1) bytes))
lines_after-more bytes i within = ap (lines_after (take i bytes)) (drop_more bytes i 0 within)
    ∙ ap (λ line. if get_or bytes i 0 == 10 && ends_in_cr (take i bytes) then line ∷ lines_after [] (drop (i + 1) bytes) else lines_after line (drop (i + 1) bytes)) (sym (take_more bytes i 0 within))

pub at_line : (bytes : List ℕ) (i : ℕ) (b : Bool) → i < length bytes → b ≡ (get_or bytes i 0 == 10 && ends_in_cr (take i bytes))
    → lines_after (take i bytes) (drop i bytes) ≡ (if b then take (i + 1) bytes ∷ lines_after [] (drop (i + 1) bytes) else lines_after (take (i + 1) bytes) (drop (i + 1) bytes))
at_line bytes i b within is = rw is (lines_after-more bytes i within)

pub at_end : (bytes : List ℕ) (i : ℕ) → length bytes ≤ i → lines_after (take i bytes) (drop i bytes) ≡ []
at_end bytes i past = ap (lines_after (take i bytes)) (drop_all i bytes past)

-- the octets of the header, by its first line
pub header_len-line : (payload rest line : List ℕ) (at len : ℕ) (within before : Bool) → rest ≡ take (length payload - at) (drop at payload) → len ≤ length rest
    → line ≡ take len rest → lines_after [] rest ≡ take len rest ∷ lines_after [] (drop len rest) → before ≡ (is_header_line false line || (within && is_continuation line))
    → header_len within (lines_after [] (drop at payload)) ≡ (if before then len + header_len true (lines_after [] (drop (at + len) payload)) else (if len == 2 then 2 else 0))
header_len-line payload rest line at len within before here fits first next is =
    let whole : drop at payload ≡ rest = sym (here ∙ take_rest payload at) in
    let later : drop len rest ≡ drop (at + len) payload = ap (drop len) (sym whole) ∙ drop-drop len at payload in
    ap (header_len within) (ap (lines_after []) whole ∙ next)
    ∙ (rw (← first, ← is, later, ap length first ∙ length-take-le len rest fits) refl)

-- ---- the header that is written

header_skipped : (body : List ℕ) → body_start (mime_header ++ body) ≡ 38
header_skipped body = refl

pub body_of-header : (body : List ℕ) → body_of (mime_header ++ body) ≡ body
body_of-header body = ap (λ n. drop n (mime_header ++ body)) (header_skipped body)
