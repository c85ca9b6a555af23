-- What a channel that stands for its history sends.
use Rattle.std.proofs.Common.{◌≡◌, ℕ, List, length}
use Rattle.std.proofs.Math.Logic.{∥∥₁_elim}
use denote.Struct.Props.{props}
use Rattle.beep_standing.specs.beep_frame.specs.declared.head.Head.{Head}
use Rattle.beep_standing.specs.beep_channel.specs.Held.{Live}
use Rattle.beep_standing.specs.beep_lives.specs.Edits.{Sends, Edits}
use Rattle.beep_standing.proofs.DueLemmas.{sent-next}
use Rattle.beep_speaking.specs.Emits.{IsReached}

pub sized : (most : ℕ) (head : Head) (payload : List ℕ) (old new : List Live) → IsReached old
    → Edits head.channel (Sends most head payload) old new → length payload ≡ head.size
sized most head payload old new reached e =
    ∥∥₁_elim reached (hlevel props) (λ s. (sent-next s.0 most s.1 s.2 s.3 old new head payload s.4 e).sized)
