-- A payload that stands whole after its header ends the frame of that header.
use Rattle.std.proofs.Common.{◌≡◌, ℕ, ◌+◌, ◌≤◌, false, Some, List, [], ◌∷◌, ◌++◌, length, take, refl, ap, sym, ◌∙◌, arith, subst, append_assoc, append-nil, length-append}
use Rattle.std.proofs.Math.Seq.{take-append_seam}
use Rattle.beep_frame.specs.declared.finder.Place.{Place}
use Rattle.beep_frame.specs.Frame.{framed}
use Rattle.beep_frame.specs.Spelling.{header, trailer, spelling}
use Rattle.beep_frame.specs.Reading.{At}
use Rattle.beep_frame.specs.Tracks.{TrackerState, Tracks}
use Rattle.beep_frame.specs.Line.{line_start}
use Rattle.beep_frame.specs.Answering.{TakesWhole}
use Rattle.beep_frame.specs.Decoding.{DecoderState, Keeps, WasFed}
use Rattle.beep_frame.specs.Decodes.{PassesFrame}
use Rattle.beep_frame.specs.Fed.{Fed}
use Rattle.beep_frame.proofs.DecodeLemmas.{passes_frame}

nothing : (xs : List ℕ) → length xs ≡ 0 → xs ≡ []
nothing [] e = refl
nothing (x ∷ xs) e = absurd (omega arith)

module _ (octets payload rest : List ℕ) (size n : ℕ) (sized : length payload ≡ size) (n_is : n ≡ size + 5) (octets_are : octets ≡ payload ++ trailer ++ rest) where
  long : length (payload ++ trailer) ≡ n
  long = omega (arith, length-append payload trailer)

  first : take n octets ≡ payload ++ trailer
  first = ap (take n) octets_are ∙ ap (λ k. take k (payload ++ trailer ++ rest)) (sym long) ∙ take-append_seam (payload ++ trailer) rest

  within : n ≤ length octets
  within = omega (arith, long, ap length octets_are, length-append (payload ++ trailer) rest)

-- a decoder that keeps the header, and none of the payload
module _ (old : DecoderState) (t : TrackerState) (fed : Fed) (octets : List ℕ) (n : ℕ) (payload : List ℕ) (s : WasFed old fed) (k : TakesWhole old.tracker t old.head.size octets n payload) where
  abbrev size : ℕ
  size = old.head.size

  at : At (Place.Payload size) old.tracker.line fed.rest fed.head
  at = subst (λ place. At place old.tracker.line fed.rest fed.head) k.at s.tracks.at

  keeps : Keeps old fed.frames fed.rest (Some at.0)
  keeps = subst (Keeps old fed.frames fed.rest) at.2.known_is s.keeps

  sizes : at.0.size ≡ size
  sizes = ap (λ h. h.size) (sym keeps.0)

  none : at.1 ≡ []
  none = nothing at.1 (omega (arith, at.3, sizes))

  whole : fed.rest ++ take n octets ≡ spelling (framed at.0 payload)
  whole =
      ap (λ x. fed.rest ++ x) (first octets payload k.rest size n k.sized k.count_is k.octets_are)
      ∙ ap (λ x. x ++ (payload ++ trailer)) (at.2.rest_is ∙ ap (λ x. header at.0 ++ x) none ∙ append-nil (header at.0))
      ∙ sym (append_assoc (header at.0) payload trailer)

  tracks : PassesFrame payload (Tracks t) fed (take n octets)
  tracks =
      subst (λ x. PassesFrame payload (Tracks x) fed (take n octets)) (sym k.new_is)
      (passes_frame old.tracker Place.Line line_start n octets fed.octets fed.frames fed.rest fed.head s.tracks (within octets payload k.rest size n k.sized k.count_is k.octets_are)
      at.0 payload at.2.known_is (at.2.is_head, k.sized ∙ sym sizes) whole)

  -- the frame passes, and its payload isn't kept
  pub takes : PassesFrame payload (WasFed (record old { tracker = t; whole = false })) fed (take n octets)
  takes = record {
    head = tracks.head;
    known_is = tracks.known_is;
    is_frame = tracks.is_frame;
    whole = tracks.whole;
    stands = record {
      tracks = tracks.stands;
      keeps = λ ends before head payload e. absurd (cc ends);
      room = omega (arith, s.room, ap (λ (x : TrackerState). x.max) k.new_is);
    };
  }
