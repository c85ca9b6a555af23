-- Each item of the journals of a world came or went in a frame or a SEQ.
use Rattle.std.proofs.Common.{◌≡◌, ℕ, inl, inr, true, false, List, [], ◌∷◌, ◌++◌, refl, sym, ap, ◌∙◌, subst}
use Rattle.beep_session.specs.beep_frame.specs.declared.head.Head.{Head}
use Rattle.beep_session.specs.beep_frame.specs.declared.rule.Rule.{Rule}
use Rattle.beep_session.specs.beep_frame.specs.Frame.{framed, seq_frame, IsFrame}
use Rattle.beep_session.specs.beep_history.specs.declared.journal.Side.{Side}
use Rattle.beep_session.specs.beep_history.specs.Journal.{Item, began, passed, told}
use Rattle.beep_session.specs.beep_hearing.specs.Hears.{Join}
use Rattle.beep_session.specs.declared.event.Event.{Event}
use Rattle.beep_session.specs.beep_upright.specs.Frames.{AreFrames}
use Rattle.beep_two_sessions.specs.End.{End, Doing, goes, waits, stopped, Begins}
use Rattle.beep_two_sessions.specs.Acts.{Act, gives, asks, takes, settles, stops, sends, pauses, gets, rests, Does, HasGained}
use Rattle.beep_two_sessions.specs.World.{World, Move, a_does, b_does, IsReached}

-- the journal of an end is of frames and SEQs, and so is the message that waits
record Framed (doing : Doing) (journal : List Item) : Type 0 where
  pub frames : AreFrames journal
  pub waiting : (head : Head) (payload : List ℕ) → doing ≡ waits head payload → IsFrame (framed head payload)

abbrev IsFramed : End → Type 0
IsFramed one = Framed one.doing one.journal

joined : (gained journal : List Item) → Join gained journal → AreFrames journal → AreFrames (gained ++ journal)
joined [] journal j are = are
joined (began side head ∷ gained) journal j are = (j.0.1, joined gained journal j.1 are)
joined (passed side head payload ∷ gained) journal j are = (j.0.1, joined gained journal j.1 are)
joined (told side seq ∷ gained) journal j are = (j.0.1, joined gained journal j.1 are)

-- an end that goes on waits for nothing
on : (doing : Doing) (journal : List Item) → doing ≡ goes → AreFrames journal → Framed doing journal
on doing journal e are = record { frames = are; waiting = λ head payload w. absurd (let h : goes ≡ waits head payload = sym e ∙ w in cc) }

gained-framed : (octets : List ℕ) (old new : End) → HasGained octets old new → IsFramed old → IsFramed new
gained-framed octets old new h f =
    subst (λ (one : End). Framed one.doing one.journal) (sym h.new_is) (on old.doing (h.gained ++ old.journal) h.going (joined h.gained old.journal h.gains.join f.frames))

act-framed : (act : Act) (old new : End) → Does act old new → IsFramed old → IsFramed new
act-framed (gives number kind octets) old new h f = subst (λ (one : End). Framed one.doing one.journal) (sym h.new_is) f
act-framed (asks octets) old new h f = subst (λ (one : End). Framed one.doing one.journal) (sym h.new_is) f
act-framed (takes number part octets) old new h f = subst (λ (one : End). Framed one.doing one.journal) (sym h.new_is) f
act-framed settles old new h f =
    subst (λ (one : End). Framed one.doing one.journal) (sym h.new_is) (on goes (passed Side.Received h.head h.payload ∷ old.journal) refl (f.waiting h.head h.payload h.waiting, f.frames))
act-framed (stops rule place) old new h f =
    subst (λ (one : End). Framed one.doing one.journal) (sym h.new_is)
    (record { frames = f.frames; waiting = λ head payload w. absurd (let e : stopped rule place ≡ waits head payload = w in cc) })
act-framed (sends (framed head payload)) old new h f =
    subst (λ (one : End). Framed one.doing one.journal) (sym h.new_is)
    (on old.doing (passed Side.Sent head payload ∷ began Side.Sent head ∷ old.journal) h.going (h.is_frame, (h.is_frame.0, f.frames)))
act-framed (sends (seq_frame seq)) old new h f =
    subst (λ (one : End). Framed one.doing one.journal) (sym h.new_is) (on old.doing (told Side.Sent seq ∷ old.journal) h.going (h.is_seq, f.frames))
act-framed pauses old new h f = subst (λ (one : End). Framed one.doing one.journal) (sym h.still) f
act-framed rests old new h f = subst (λ (one : End). Framed one.doing one.journal) (sym h.new_is) f
act-framed (gets octets event) old new (inl none) f = subst (λ (one : End). Framed one.doing one.journal) (sym none.still) f
act-framed (gets octets Event.More) old new (inr h) f = gained-framed octets old new h f
act-framed (gets octets (Event.Arrived number)) old new (inr h) f = gained-framed octets old new h f
act-framed (gets octets Event.NoMemory) old new (inr h) f = gained-framed octets old new h f
act-framed (gets octets Event.Released) old new (inr h) f = absurd h
act-framed (gets octets Event.Zero) old new (inr h) f =
    subst (λ (one : End). Framed one.doing one.journal) (sym h.new_is) (record {
      frames = joined h.zero.gained old.journal h.zero.join f.frames;
      waiting = λ head payload w.
          let one : head ≡ h.zero.head = let e : waits h.zero.head h.zero.payload ≡ waits head payload = w in cc in
          let two : payload ≡ h.zero.payload = let e : waits h.zero.head h.zero.payload ≡ waits head payload = w in cc in
          subst (λ (x : Head). IsFrame (framed x payload)) (sym one) (subst (λ (p : List ℕ). IsFrame (framed h.zero.head p)) (sym two) h.zero.waits.waits.is_frame);
    })
act-framed (gets octets (Event.Broken rule place)) old new (inr h) f =
    subst (λ (one : End). Framed one.doing one.journal) (sym h.new_is)
    (record { frames = joined h.breaks.gained old.journal h.breaks.join f.frames; waiting = λ head payload w. absurd (let e : stopped rule place ≡ waits head payload = w in cc) })

begun-framed : (one : End) → Begins one → IsFramed one
begun-framed one b = subst (λ (e : End). Framed e.doing e.journal) (sym b.new_is) (on goes [] refl tt)

both-framed : (moves : List Move) (world : World) → IsReached moves world → IsFramed world.a × IsFramed world.b
both-framed [] world r = (begun-framed world.a r.a, begun-framed world.b r.b)
both-framed (a_does act ∷ moves) world r =
    let before = both-framed moves r.0 r.5 in
    (act-framed act r.0.a world.a r.1 before.0, subst IsFramed (sym r.2) before.1)
both-framed (b_does act ∷ moves) world r =
    let before = both-framed moves r.0 r.5 in
    (subst IsFramed (sym r.2) before.0, act-framed act r.0.b world.b r.1 before.1)

pub frames-at-a : (moves : List Move) (world : World) → IsReached moves world → AreFrames world.a.journal
frames-at-a moves world r = (both-framed moves world r).0.frames

pub frames-at-b : (moves : List Move) (world : World) → IsReached moves world → AreFrames world.b.journal
frames-at-b moves world r = (both-framed moves world r).1.frames
