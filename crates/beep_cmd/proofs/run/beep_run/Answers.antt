use Rattle.std.proofs.Common.{◌≡◌, ◌⊎◌, ℕ, List, inr, true, false, Some, None, map, refl, ap, sym, ◌∙◌, subst, arith}
use Rattle.std.specs.String.{string_bytes}
use Rattle.std.proofs.KnownBytes.{Appends-nil}
use Rattle.beep_show.specs.beep_words.specs.declared.command.ShowSettings.{ShowSettings as Settings}
use Rattle.beep_show.specs.beep_words.specs.declared.command.PairSettings.{PairSettings}
use Rattle.beep_runs.specs.beep_settings.specs.declared.settings.Settings.{Settings as EndSettings}
use Rattle.beep_show.specs.beep_words.specs.declared.command.Command.{Command}
use Rattle.beep_show.specs.beep_words.specs.declared.command.Topic.{Topic}
use Rattle.beep_show.specs.beep_words.specs.declared.texts.TheConstants.{VERSION_TEXT}
use Rattle.beep_show.specs.beep_words.specs.Helps.{help_of}
use Rattle.beep_show.specs.beep_words.specs.CommandSet.{IsShow, IsReplay, IsSend, IsListen, IsPair, IsHelp, IsVersion, IsOfEnd}
use Rattle.beep_show.specs.beep_words.specs.Usable.{IsUsable}
use Rattle.beep_show.specs.beep_words.proofs.UsableLemmas.{send_is_usable, listen_is_usable, pair_is_usable}
use Rattle.beep_runs.specs.beep_link.specs.declared.ended.Ended.{Ended}
use Rattle.beep_runs.specs.beep_steps.specs.Ends.{AreFit}
use Rattle.beep_runs.specs.beep_steps.proofs.FitLemmas.{fit}
use Rattle.beep_cmd.specs.Ends.{AcceptsAtMost, DialsOnce, GivesAtMost, IsAcceptOf, IsDialOf, Listened, listen_starved, ReadsWithin, seen_of, Sent, session, WritesLawfully}
use Rattle.beep_cmd.specs.Pair.{Paired}
use Rattle.beep_runs.specs.beep_link.specs.Causes.{Seen, WhereKnown}
use Rattle.beep_runs.specs.beep_journal.specs.declared.role.Role.{Role}
use Rattle.beep_runs.specs.beep_steps.specs.Logs.{IsLawfulOn, terms_by}
use Rattle.beep_cmd.specs.Listening.{WritesLines}
use Rattle.beep_cmd.specs.Recording.{ListenRecorded, record_starved}
use Rattle.beep_cmd.specs.Told.{Told}
use Rattle.beep_show.specs.Show.{Run, run_of}
use Rattle.beep_cmd.proofs.CommandLemmas.{another, listens, no_command, none_listen, none_pair, none_replay, none_send, none_show, not_asked, not_listen, not_pair, not_replay, not_send, not_show, not_unlinked, other_replay, other_show, same_listen, same_pair, same_send, same_show, sends, some_command, same_topic}
use Rattle.beep_cmd.proofs.CompleteLemmas.{complete, shown_as}
use Rattle.beep_cmd.proofs.EndsLemmas.{starved_at_once}
use Rattle.beep_cmd.proofs.GoesWellLemmas.{listen_well, send_well}
use Rattle.beep_cmd.proofs.JudgeLemmas.{lawful}
use Rattle.beep_cmd.proofs.ListenLemmas.{none_written}
use Rattle.beep_cmd.proofs.PairLemmas.{runnable_complete, usable_limits}
use Rattle.beep_cmd.proofs.RecordedLemmas.{unlinked_keeps}
use Rattle.beep_cmd.proofs.ServingLemmas.{asks_none, each_none, none_read, none_shut}
use Rattle.beep_cmd.proofs.StatusLemmas.{listened_not, paired_not, replayed_not, sent_not, shown_not, told_not}
use Rattle.beep_cmd.proofs.run.beep_run.Goals as goal

-- settings that words say are fit for a session
usable_fit : (settings : EndSettings) → IsUsable settings → AreFit settings
usable_fit settings u = fit settings u.ranged.window.0 u.ranged.window.1 u.ranged.piece.0 u.ranged.piece.1 u.some u.few u.allowed

pub send-requires-clause-fit : goal.send-requires-clause-fit
send-requires-clause-fit g c =
    let a = c.in-Ok-Some-Send in
    let w : IsSend a.settings (map string_bytes c.args.words.now) = (a.ensures.ok (Command.Send a.settings)).0 (a.field-0-is ∙ ap Some a.field-0-0-is) in
    usable_fit a.settings (send_is_usable a.settings _ w)

pub listen-requires : goal.listen-requires
listen-requires g c =
    let a = c.in-Ok-Some-Listen in
    let w : IsListen a.settings (map string_bytes c.args.words.now) = (a.ensures.ok (Command.Listen a.settings)).0 (a.field-0-is ∙ ap Some a.field-0-0-is) in
    record {
      fit = usable_fit a.settings (listen_is_usable a.settings _ w);
      lone = w.lone;
    }

pub pair-requires-clause-fit : goal.pair-requires-clause-fit
pair-requires-clause-fit g c =
    let a = c.in-Ok-Some-Pair in
    let w : IsPair a.settings (map string_bytes c.args.words.now) = (a.ensures.ok (Command.Pair a.settings)).0 (a.field-0-is ∙ ap Some a.field-0-0-is) in
    usable_limits a.settings (pair_is_usable a.settings _ w)

pub returns-in-Ok-Some-Show : goal.returns-in-Ok-Some-Show
returns-in-Ok-Some-Show g c =
    let words = map string_bytes c.args.words.now in
    let a = c.in-Ok-Some-Show in
    let is : a.field-0 ≡ Some (Command.Show a.settings) = a.field-0-is ∙ ap Some a.field-0-0-is in
    let same = same_show words a.field-0 a.ensures.ok a.settings in
    let other : IsReplay words → ⊥ = not_replay words a.field-0 a.ensures.ok _ is in
    let other_send : (settings : EndSettings) → IsSend settings words → ⊥ = not_send words a.field-0 a.ensures.ok _ is (λ settings e. cc) in
    let other_listen : (settings : EndSettings) → IsListen settings words → ⊥ = not_listen words a.field-0 a.ensures.ok _ is (λ settings e. cc) in
    let other_pair : (settings : PairSettings) → IsPair settings words → ⊥ = not_pair words a.field-0 a.ensures.ok _ is (λ settings e. cc) in
    let some = some_command words a.field-0 a.ensures.ok _ is in
    let help : (topic : Topic) → IsHelp topic words → ⊥ = λ topic. another words a.field-0 a.ensures.ok _ is (Command.Help topic) (λ e. cc) in
    let version : IsVersion words → ⊥ = another words a.field-0 a.ensures.ok _ is Command.Version (λ e. cc) in
    record {
      shown = λ settings w. shown_as _ settings _ _ (same settings is w) c.show.ensures.shown;
      replayed = λ w. absurd (other w);
      refused = λ none. absurd (some none);
      complete = λ settings octets w left plain no_fault. complete settings octets _ c.show.result left plain no_fault (shown_as _ settings _ _ (same settings is w) c.show.ensures.shown);
      replay_complete = λ octets w left is_lawful no_fault. absurd (other w);
      sent = λ settings w. absurd (other_send settings w);
      listened = λ settings w. absurd (other_listen settings w);
      listen_recorded = λ settings w recording. absurd (other_listen settings w);
      listen_lines = λ settings w recording. absurd (other_listen settings w);
      send_complete = λ settings w goes_well. absurd (other_send settings w);
      listen_complete = λ settings w goes_well. absurd (other_listen settings w);
      paired = λ settings w. absurd (other_pair settings w);
      pair_complete = λ settings w is_runnable no_fault. absurd (other_pair settings w);
      helped = λ topic w. absurd (help topic w);
      versioned = λ w. absurd (version w);
      usage = λ one. absurd (shown_not a.settings c.show.result _ c.show.ensures.shown one);
      send_lawful = λ settings w. absurd (other_send settings w);
      listen_lawful = λ settings w. absurd (other_listen settings w);
      dials = λ settings w. absurd (other_send settings w);
      accepts = λ settings w. absurd (other_listen settings w);
      send_given = λ settings w. absurd (other_send settings w);
      listen_given = λ settings w. absurd (other_listen settings w);
      shut = none_shut (seen_of (g.W.Wires.state c.args.wires.now) (g.W.Wires.counts c.args.wires.now) (g.W.Wires.asked c.args.wires.now) (g.W.Wires.lent c.args.wires.now));
      send_link_reads = λ settings w. absurd (other_send settings w);
      listen_link_reads = λ settings w. absurd (other_listen settings w);
      unread = λ none. absurd (some none);
      unlinked = λ settings w. refl;
      listen_unread = λ settings w. absurd (other_listen settings w);
      asked_unread = λ topic w. absurd (not_asked words help version topic w);
      asked_unlinked = λ topic w. absurd (not_asked words help version topic w);
      no_memory = λ settings w e no_elements. c.show.ensures.no_memory e (ap (λ (s : Settings). s.elements) (same settings is w) ∙ no_elements);
      reads = λ settings w. rw (← same settings is w) c.show.ensures.reads;
      replay_no_memory = λ w. absurd (other w);
      send_reads = λ settings w. absurd (other_send settings w);
      replay_reads = λ w. absurd (other w);
      pair_unlinked = λ settings w. absurd (other_pair settings w);
      pair_no_memory = λ settings w. absurd (other_pair settings w);
      pair_unread = λ settings w. absurd (other_pair settings w);
      pair_reads = λ settings w. absurd (other_pair settings w);
    }

pub returns-in-Ok-Some-Replay : goal.returns-in-Ok-Some-Replay
returns-in-Ok-Some-Replay g c =
    let words = map string_bytes c.args.words.now in
    let a = c.in-Ok-Some-Replay in
    let is : a.field-0 ≡ Some Command.Replay = a.field-0-is ∙ ap Some a.field-0-0-is in
    let other : (settings : Settings) → IsShow settings words → ⊥ = λ settings. not_show words a.field-0 a.ensures.ok settings is in
    let other_send : (settings : EndSettings) → IsSend settings words → ⊥ = not_send words a.field-0 a.ensures.ok _ is (λ settings e. cc) in
    let other_listen : (settings : EndSettings) → IsListen settings words → ⊥ = not_listen words a.field-0 a.ensures.ok _ is (λ settings e. cc) in
    let other_pair : (settings : PairSettings) → IsPair settings words → ⊥ = not_pair words a.field-0 a.ensures.ok _ is (λ settings e. cc) in
    let some = some_command words a.field-0 a.ensures.ok _ is in
    let help : (topic : Topic) → IsHelp topic words → ⊥ = λ topic. another words a.field-0 a.ensures.ok _ is (Command.Help topic) (λ e. cc) in
    let version : IsVersion words → ⊥ = another words a.field-0 a.ensures.ok _ is Command.Version (λ e. cc) in
    record {
      shown = λ settings w. absurd (other settings w);
      replayed = λ w. c.replay.ensures.replayed;
      refused = λ none. absurd (some none);
      complete = λ settings octets w left plain no_fault. absurd (other settings w);
      replay_complete = λ octets w left is_lawful no_fault. lawful octets _ c.replay.result left is_lawful no_fault c.replay.ensures.replayed;
      sent = λ settings w. absurd (other_send settings w);
      listened = λ settings w. absurd (other_listen settings w);
      listen_recorded = λ settings w recording. absurd (other_listen settings w);
      listen_lines = λ settings w recording. absurd (other_listen settings w);
      send_complete = λ settings w goes_well. absurd (other_send settings w);
      listen_complete = λ settings w goes_well. absurd (other_listen settings w);
      paired = λ settings w. absurd (other_pair settings w);
      pair_complete = λ settings w is_runnable no_fault. absurd (other_pair settings w);
      helped = λ topic w. absurd (help topic w);
      versioned = λ w. absurd (version w);
      usage = λ one. absurd (replayed_not c.replay.result _ c.replay.ensures.replayed one);
      send_lawful = λ settings w. absurd (other_send settings w);
      listen_lawful = λ settings w. absurd (other_listen settings w);
      dials = λ settings w. absurd (other_send settings w);
      accepts = λ settings w. absurd (other_listen settings w);
      send_given = λ settings w. absurd (other_send settings w);
      listen_given = λ settings w. absurd (other_listen settings w);
      shut = none_shut (seen_of (g.W.Wires.state c.args.wires.now) (g.W.Wires.counts c.args.wires.now) (g.W.Wires.asked c.args.wires.now) (g.W.Wires.lent c.args.wires.now));
      send_link_reads = λ settings w. absurd (other_send settings w);
      listen_link_reads = λ settings w. absurd (other_listen settings w);
      unread = λ none. absurd (some none);
      unlinked = λ settings w. refl;
      listen_unread = λ settings w. absurd (other_listen settings w);
      asked_unread = λ topic w. absurd (not_asked words help version topic w);
      asked_unlinked = λ topic w. absurd (not_asked words help version topic w);
      no_memory = λ settings w e no_elements. absurd (other settings w);
      reads = λ settings w. absurd (other settings w);
      replay_no_memory = λ w. c.replay.ensures.unwritten;
      send_reads = λ settings w. absurd (other_send settings w);
      replay_reads = λ w. c.replay.ensures.reads;
      pair_unlinked = λ settings w. absurd (other_pair settings w);
      pair_no_memory = λ settings w. absurd (other_pair settings w);
      pair_unread = λ settings w. absurd (other_pair settings w);
      pair_reads = λ settings w. absurd (other_pair settings w);
    }

pub returns-in-Ok-Some-Send : goal.returns-in-Ok-Some-Send
returns-in-Ok-Some-Send g c =
    let words = map string_bytes c.args.words.now in
    let a = c.in-Ok-Some-Send in
    let is : a.field-0 ≡ Some (Command.Send a.settings) = a.field-0-is ∙ ap Some a.field-0-0-is in
    let same = same_send words a.field-0 a.ensures.ok a.settings in
    let of : IsOfEnd words = sends words a.field-0 a.ensures.ok a.settings is in
    let other : (settings : EndSettings) → IsListen settings words → ⊥ = not_listen words a.field-0 a.ensures.ok _ is (λ settings e. cc) in
    let before : Seen = seen_of (g.W.Wires.state c.args.wires.now) (g.W.Wires.counts c.args.wires.now) (g.W.Wires.asked c.args.wires.now) (g.W.Wires.lent c.args.wires.now) in
    let after : Seen = seen_of (g.W.Wires.state c.send.new.wires) (g.W.Wires.counts c.send.new.wires) (g.W.Wires.asked c.send.new.wires) (g.W.Wires.lent c.send.new.wires) in
    let run : Run = run_of (g.I.Source.state c.args.input.now) (g.I.Source.state c.send.new.input) (g.O.Sink.state c.args.output.now) (g.O.Sink.state c.send.new.output) in
    record {
      shown = λ settings w. absurd (of.not_show settings w);
      replayed = λ w. absurd (of.not_replay w);
      refused = λ none. absurd (of.some none);
      complete = λ settings octets w left plain no_fault. absurd (of.not_show settings w);
      replay_complete = λ octets w left is_lawful no_fault. absurd (of.not_replay w);
      sent = λ settings w. subst (λ (s : EndSettings). Sent s before after c.send.result run) (same settings is w) c.send.ensures.sent;
      listened = λ settings w. absurd (other settings w);
      listen_recorded = λ settings w recording. absurd (other settings w);
      listen_lines = λ settings w recording. absurd (other settings w);
      send_complete = λ settings w goes_well. send_well settings before after run goes_well c.send.result (subst (λ (s : EndSettings). Sent s before after c.send.result run) (same settings is w) c.send.ensures.sent);
      listen_complete = λ settings w goes_well. absurd (other settings w);
      paired = λ settings w. absurd (of.not_pair settings w);
      pair_complete = λ settings w is_runnable no_fault. absurd (of.not_pair settings w);
      helped = λ topic w. absurd (of.not_help topic w);
      versioned = λ w. absurd (of.not_version w);
      usage = λ one. absurd (sent_not a.settings before after c.send.result run c.send.ensures.sent one);
      send_lawful = λ settings w. subst (λ (s : EndSettings). WritesLawfully Role.Initiator s before after) (same settings is w) c.send.ensures.lawful;
      listen_lawful = λ settings w. absurd (other settings w);
      dials = λ settings w. subst (λ (s : EndSettings). DialsOnce s before after) (same settings is w) c.send.ensures.asks;
      accepts = λ settings w. absurd (other settings w);
      send_given = λ settings w. c.send.ensures.given;
      listen_given = λ settings w. absurd (other settings w);
      shut = c.send.ensures.shut;
      send_link_reads = λ settings w. subst (λ (s : EndSettings). ReadsWithin s before after) (same settings is w) c.send.ensures.link_reads;
      listen_link_reads = λ settings w. absurd (other settings w);
      unread = λ none. absurd (of.some none);
      unlinked = λ settings w. absurd (not_unlinked words of settings w);
      listen_unread = λ settings w. absurd (other settings w);
      asked_unread = λ topic w. absurd (not_asked words of.not_help of.not_version topic w);
      asked_unlinked = λ topic w. absurd (not_asked words of.not_help of.not_version topic w);
      no_memory = λ settings w e no_elements. absurd (of.not_show settings w);
      reads = λ settings w. absurd (of.not_show settings w);
      replay_no_memory = λ w. absurd (of.not_replay w);
      send_reads = λ settings w. c.send.ensures.reads;
      replay_reads = λ w. absurd (of.not_replay w);
      pair_unlinked = λ settings w. absurd (of.not_pair settings w);
      pair_no_memory = λ settings w. absurd (of.not_pair settings w);
      pair_unread = λ settings w. absurd (of.not_pair settings w);
      pair_reads = λ settings w. absurd (of.not_pair settings w);
    }

pub returns-in-Ok-Some-Listen : goal.returns-in-Ok-Some-Listen
returns-in-Ok-Some-Listen g c =
    let words = map string_bytes c.args.words.now in
    let a = c.in-Ok-Some-Listen in
    let is : a.field-0 ≡ Some (Command.Listen a.settings) = a.field-0-is ∙ ap Some a.field-0-0-is in
    let same = same_listen words a.field-0 a.ensures.ok a.settings in
    let of : IsOfEnd words = listens words a.field-0 a.ensures.ok a.settings is in
    let other : (settings : EndSettings) → IsSend settings words → ⊥ = not_send words a.field-0 a.ensures.ok _ is (λ settings e. cc) in
    let before : Seen = seen_of (g.W.Wires.state c.args.wires.now) (g.W.Wires.counts c.args.wires.now) (g.W.Wires.asked c.args.wires.now) (g.W.Wires.lent c.args.wires.now) in
    let after : Seen = seen_of (g.W.Wires.state c.listen.new.wires) (g.W.Wires.counts c.listen.new.wires) (g.W.Wires.asked c.listen.new.wires) (g.W.Wires.lent c.listen.new.wires) in
    let run : Run = run_of (g.I.Source.state c.args.input.now) (g.I.Source.state c.args.input.now) (g.O.Sink.state c.args.output.now) (g.O.Sink.state c.listen.new.output) in
    record {
      shown = λ settings w. absurd (of.not_show settings w);
      replayed = λ w. absurd (of.not_replay w);
      refused = λ none. absurd (of.some none);
      complete = λ settings octets w left plain no_fault. absurd (of.not_show settings w);
      replay_complete = λ octets w left is_lawful no_fault. absurd (of.not_replay w);
      sent = λ settings w. absurd (other settings w);
      listened = λ settings w. subst (λ (s : EndSettings). Listened s before after c.listen.result run) (same settings is w) (c.listen.ensures.listened (g.I.Source.state c.args.input.now));
      listen_recorded = λ settings w recording. subst (λ (s : EndSettings). ListenRecorded s before after c.listen.result run.sink run.sink_after) (same settings is w)
          (c.listen.ensures.recorded (subst (λ (s : EndSettings). s.recording ≡ true) (sym (same settings is w)) recording));
      listen_lines = λ settings w recording. subst (λ (s : EndSettings). WritesLines s before after c.listen.result run.sink run.sink_after) (same settings is w)
          (c.listen.ensures.lines (subst (λ (s : EndSettings). s.recording ≡ false) (sym (same settings is w)) recording));
      send_complete = λ settings w goes_well. absurd (other settings w);
      listen_complete = λ settings w goes_well. listen_well settings before after run c.listen.result goes_well (subst (λ (s : EndSettings). Listened s before after c.listen.result run) (same settings is w) (c.listen.ensures.listened (g.I.Source.state c.args.input.now)));
      paired = λ settings w. absurd (of.not_pair settings w);
      pair_complete = λ settings w is_runnable no_fault. absurd (of.not_pair settings w);
      helped = λ topic w. absurd (of.not_help topic w);
      versioned = λ w. absurd (of.not_version w);
      usage = λ one. absurd (listened_not a.settings before after c.listen.result run (c.listen.ensures.listened (g.I.Source.state c.args.input.now)) one);
      send_lawful = λ settings w. absurd (other settings w);
      listen_lawful = λ settings w. subst (λ (s : EndSettings). WritesLawfully Role.Listener s before after) (same settings is w) c.listen.ensures.lawful;
      dials = λ settings w. absurd (other settings w);
      accepts = λ settings w. subst (λ (s : EndSettings). AcceptsAtMost s before after) (same settings is w) c.listen.ensures.asks;
      send_given = λ settings w. absurd (other settings w);
      listen_given = λ settings w. subst (λ (s : EndSettings). GivesAtMost s.sessions before after) (same settings is w) c.listen.ensures.given;
      shut = c.listen.ensures.shut;
      send_link_reads = λ settings w. absurd (other settings w);
      listen_link_reads = λ settings w. subst (λ (s : EndSettings). ReadsWithin s before after) (same settings is w) c.listen.ensures.link_reads;
      unread = λ none. absurd (of.some none);
      unlinked = λ settings w. absurd (not_unlinked words of settings w);
      listen_unread = λ settings w. refl;
      asked_unread = λ topic w. absurd (not_asked words of.not_help of.not_version topic w);
      asked_unlinked = λ topic w. absurd (not_asked words of.not_help of.not_version topic w);
      no_memory = λ settings w e no_elements. absurd (of.not_show settings w);
      reads = λ settings w. absurd (of.not_show settings w);
      replay_no_memory = λ w. absurd (of.not_replay w);
      send_reads = λ settings w. absurd (other settings w);
      replay_reads = λ w. absurd (of.not_replay w);
      pair_unlinked = λ settings w. absurd (of.not_pair settings w);
      pair_no_memory = λ settings w. absurd (of.not_pair settings w);
      pair_unread = λ settings w. absurd (of.not_pair settings w);
      pair_reads = λ settings w. absurd (of.not_pair settings w);
    }

pub returns-in-Ok-Some-Pair : goal.returns-in-Ok-Some-Pair
returns-in-Ok-Some-Pair g c =
    let words = map string_bytes c.args.words.now in
    let a = c.in-Ok-Some-Pair in
    let is : a.field-0 ≡ Some (Command.Pair a.settings) = a.field-0-is ∙ ap Some a.field-0-0-is in
    let same = same_pair words a.field-0 a.ensures.ok a.settings in
    let show : (settings : Settings) → IsShow settings words → ⊥ = other_show words a.field-0 a.ensures.ok _ is (λ settings e. cc) in
    let replay : IsReplay words → ⊥ = other_replay words a.field-0 a.ensures.ok _ is (λ e. cc) in
    let send : (settings : EndSettings) → IsSend settings words → ⊥ = not_send words a.field-0 a.ensures.ok _ is (λ settings e. cc) in
    let listen : (settings : EndSettings) → IsListen settings words → ⊥ = not_listen words a.field-0 a.ensures.ok _ is (λ settings e. cc) in
    let some = some_command words a.field-0 a.ensures.ok _ is in
    let run : Run = run_of (g.I.Source.state c.args.input.now) (g.I.Source.state c.pair.new.input) (g.O.Sink.state c.args.output.now) (g.O.Sink.state c.pair.new.output) in
    let by : (settings : PairSettings) → IsPair settings words → Paired settings c.pair.result run = λ settings w. subst (λ (s : PairSettings). Paired s c.pair.result run) (same settings is w) c.pair.ensures.paired in
    let help : (topic : Topic) → IsHelp topic words → ⊥ = λ topic. another words a.field-0 a.ensures.ok _ is (Command.Help topic) (λ e. cc) in
    let version : IsVersion words → ⊥ = another words a.field-0 a.ensures.ok _ is Command.Version (λ e. cc) in
    record {
      shown = λ settings w. absurd (show settings w);
      replayed = λ w. absurd (replay w);
      refused = λ none. absurd (some none);
      complete = λ settings octets w left plain no_fault. absurd (show settings w);
      replay_complete = λ octets w left is_lawful no_fault. absurd (replay w);
      sent = λ settings w. absurd (send settings w);
      listened = λ settings w. absurd (listen settings w);
      listen_recorded = λ settings w recording. absurd (listen settings w);
      listen_lines = λ settings w recording. absurd (listen settings w);
      send_complete = λ settings w goes_well. absurd (send settings w);
      listen_complete = λ settings w goes_well. absurd (listen settings w);
      paired = by;
      pair_complete = λ settings w is_runnable no_fault. runnable_complete settings run c.pair.result is_runnable no_fault (by settings w);
      helped = λ topic w. absurd (help topic w);
      versioned = λ w. absurd (version w);
      usage = λ one. absurd (paired_not a.settings c.pair.result run c.pair.ensures.paired one);
      send_lawful = λ settings w. absurd (send settings w);
      listen_lawful = λ settings w. absurd (listen settings w);
      dials = λ settings w. absurd (send settings w);
      accepts = λ settings w. absurd (listen settings w);
      send_given = λ settings w. absurd (send settings w);
      listen_given = λ settings w. absurd (listen settings w);
      shut = none_shut (seen_of (g.W.Wires.state c.args.wires.now) (g.W.Wires.counts c.args.wires.now) (g.W.Wires.asked c.args.wires.now) (g.W.Wires.lent c.args.wires.now));
      send_link_reads = λ settings w. absurd (send settings w);
      listen_link_reads = λ settings w. absurd (listen settings w);
      unread = λ none. absurd (some none);
      unlinked = λ settings w. refl;
      listen_unread = λ settings w. absurd (listen settings w);
      asked_unread = λ topic w. absurd (not_asked words help version topic w);
      asked_unlinked = λ topic w. absurd (not_asked words help version topic w);
      no_memory = λ settings w e no_elements. absurd (show settings w);
      reads = λ settings w. absurd (show settings w);
      replay_no_memory = λ w. absurd (replay w);
      send_reads = λ settings w. absurd (send settings w);
      replay_reads = λ w. absurd (replay w);
      pair_unlinked = λ settings w. refl;
      pair_no_memory = λ settings w. c.pair.ensures.unwritten;
      pair_unread = λ settings w. subst (λ (s : PairSettings). (s.seed ≡ None) ⊎ (c.pair.new.input ≡ c.args.input.now)) (same settings is w) c.pair.ensures.unread;
      pair_reads = λ settings w. c.pair.ensures.reads;
    }

pub returns-in-Ok-Some-Help : goal.returns-in-Ok-Some-Help
returns-in-Ok-Some-Help g c =
    let words = map string_bytes c.args.words.now in
    let a = c.in-Ok-Some-Help in
    let is : a.field-0 ≡ Some (Command.Help a.topic) = a.field-0-is ∙ ap Some a.field-0-0-is in
    let show : (settings : Settings) → IsShow settings words → ⊥ = λ settings. another words a.field-0 a.ensures.ok _ is (Command.Show settings) (λ e. cc) in
    let replay : IsReplay words → ⊥ = another words a.field-0 a.ensures.ok _ is Command.Replay (λ e. cc) in
    let send : (settings : EndSettings) → IsSend settings words → ⊥ = λ settings. another words a.field-0 a.ensures.ok _ is (Command.Send settings) (λ e. cc) in
    let listen : (settings : EndSettings) → IsListen settings words → ⊥ = λ settings. another words a.field-0 a.ensures.ok _ is (Command.Listen settings) (λ e. cc) in
    let pair : (settings : PairSettings) → IsPair settings words → ⊥ = λ settings. another words a.field-0 a.ensures.ok _ is (Command.Pair settings) (λ e. cc) in
    let some = some_command words a.field-0 a.ensures.ok _ is in
    let version : IsVersion words → ⊥ = another words a.field-0 a.ensures.ok _ is Command.Version (λ e. cc) in
    let run : Run = run_of (g.I.Source.state c.args.input.now) (g.I.Source.state c.args.input.now) (g.O.Sink.state c.args.output.now) (g.O.Sink.state c.tell.new.output) in
    let by : Told (help_of a.topic) c.tell.result run = subst (λ (t : List ℕ). Told t c.tell.result run) c.help_text.ensures (c.tell.ensures (g.I.Source.state c.args.input.now)) in
    record {
      shown = λ settings w. absurd (show settings w);
      replayed = λ w. absurd (replay w);
      refused = λ none. absurd (some none);
      complete = λ settings octets w left plain no_fault. absurd (show settings w);
      replay_complete = λ octets w left is_lawful no_fault. absurd (replay w);
      sent = λ settings w. absurd (send settings w);
      listened = λ settings w. absurd (listen settings w);
      listen_recorded = λ settings w recording. absurd (listen settings w);
      listen_lines = λ settings w recording. absurd (listen settings w);
      send_complete = λ settings w goes_well. absurd (send settings w);
      listen_complete = λ settings w goes_well. absurd (listen settings w);
      paired = λ settings w. absurd (pair settings w);
      pair_complete = λ settings w is_runnable no_fault. absurd (pair settings w);
      helped = λ topic w. subst (λ (t : Topic). Told (help_of t) c.tell.result run) (same_topic words a.field-0 a.ensures.ok a.topic topic is w) by;
      versioned = λ w. absurd (version w);
      usage = λ one. absurd (told_not _ c.tell.result _ (c.tell.ensures (g.I.Source.state c.args.input.now)) one);
      send_lawful = λ settings w. absurd (send settings w);
      listen_lawful = λ settings w. absurd (listen settings w);
      dials = λ settings w. absurd (send settings w);
      accepts = λ settings w. absurd (listen settings w);
      send_given = λ settings w. absurd (send settings w);
      listen_given = λ settings w. absurd (listen settings w);
      shut = none_shut (seen_of (g.W.Wires.state c.args.wires.now) (g.W.Wires.counts c.args.wires.now) (g.W.Wires.asked c.args.wires.now) (g.W.Wires.lent c.args.wires.now));
      send_link_reads = λ settings w. absurd (send settings w);
      listen_link_reads = λ settings w. absurd (listen settings w);
      unread = λ none. absurd (some none);
      unlinked = λ settings w. refl;
      listen_unread = λ settings w. absurd (listen settings w);
      asked_unread = λ topic w. refl;
      asked_unlinked = λ topic w. refl;
      no_memory = λ settings w e no_elements. absurd (show settings w);
      reads = λ settings w. absurd (show settings w);
      replay_no_memory = λ w. absurd (replay w);
      send_reads = λ settings w. absurd (send settings w);
      replay_reads = λ w. absurd (replay w);
      pair_unlinked = λ settings w. absurd (pair settings w);
      pair_no_memory = λ settings w. absurd (pair settings w);
      pair_unread = λ settings w. absurd (pair settings w);
      pair_reads = λ settings w. absurd (pair settings w);
    }

pub returns-in-Ok-Some-Version : goal.returns-in-Ok-Some-Version
returns-in-Ok-Some-Version g c =
    let words = map string_bytes c.args.words.now in
    let a = c.in-Ok-Some-Version in
    let is : a.field-0 ≡ Some Command.Version = a.field-0-is ∙ ap Some a.field-0-0-is in
    let show : (settings : Settings) → IsShow settings words → ⊥ = λ settings. another words a.field-0 a.ensures.ok _ is (Command.Show settings) (λ e. cc) in
    let replay : IsReplay words → ⊥ = another words a.field-0 a.ensures.ok _ is Command.Replay (λ e. cc) in
    let send : (settings : EndSettings) → IsSend settings words → ⊥ = λ settings. another words a.field-0 a.ensures.ok _ is (Command.Send settings) (λ e. cc) in
    let listen : (settings : EndSettings) → IsListen settings words → ⊥ = λ settings. another words a.field-0 a.ensures.ok _ is (Command.Listen settings) (λ e. cc) in
    let pair : (settings : PairSettings) → IsPair settings words → ⊥ = λ settings. another words a.field-0 a.ensures.ok _ is (Command.Pair settings) (λ e. cc) in
    let some = some_command words a.field-0 a.ensures.ok _ is in
    let help : (topic : Topic) → IsHelp topic words → ⊥ = λ topic. another words a.field-0 a.ensures.ok _ is (Command.Help topic) (λ e. cc) in
    record {
      shown = λ settings w. absurd (show settings w);
      replayed = λ w. absurd (replay w);
      refused = λ none. absurd (some none);
      complete = λ settings octets w left plain no_fault. absurd (show settings w);
      replay_complete = λ octets w left is_lawful no_fault. absurd (replay w);
      sent = λ settings w. absurd (send settings w);
      listened = λ settings w. absurd (listen settings w);
      listen_recorded = λ settings w recording. absurd (listen settings w);
      listen_lines = λ settings w recording. absurd (listen settings w);
      send_complete = λ settings w goes_well. absurd (send settings w);
      listen_complete = λ settings w goes_well. absurd (listen settings w);
      paired = λ settings w. absurd (pair settings w);
      pair_complete = λ settings w is_runnable no_fault. absurd (pair settings w);
      helped = λ topic w. absurd (help topic w);
      versioned = λ w. c.tell-in-Ok-Some-Version.ensures (g.I.Source.state c.args.input.now);
      usage = λ one. absurd (told_not _ c.tell-in-Ok-Some-Version.result _ (c.tell-in-Ok-Some-Version.ensures (g.I.Source.state c.args.input.now)) one);
      send_lawful = λ settings w. absurd (send settings w);
      listen_lawful = λ settings w. absurd (listen settings w);
      dials = λ settings w. absurd (send settings w);
      accepts = λ settings w. absurd (listen settings w);
      send_given = λ settings w. absurd (send settings w);
      listen_given = λ settings w. absurd (listen settings w);
      shut = none_shut (seen_of (g.W.Wires.state c.args.wires.now) (g.W.Wires.counts c.args.wires.now) (g.W.Wires.asked c.args.wires.now) (g.W.Wires.lent c.args.wires.now));
      send_link_reads = λ settings w. absurd (send settings w);
      listen_link_reads = λ settings w. absurd (listen settings w);
      unread = λ none. absurd (some none);
      unlinked = λ settings w. refl;
      listen_unread = λ settings w. absurd (listen settings w);
      asked_unread = λ topic w. refl;
      asked_unlinked = λ topic w. refl;
      no_memory = λ settings w e no_elements. absurd (show settings w);
      reads = λ settings w. absurd (show settings w);
      replay_no_memory = λ w. absurd (replay w);
      send_reads = λ settings w. absurd (send settings w);
      replay_reads = λ w. absurd (replay w);
      pair_unlinked = λ settings w. absurd (pair settings w);
      pair_no_memory = λ settings w. absurd (pair settings w);
      pair_unread = λ settings w. absurd (pair settings w);
      pair_reads = λ settings w. absurd (pair settings w);
    }

pub returns-in-Ok-None : goal.returns-in-Ok-None
returns-in-Ok-None g c =
    let words = map string_bytes c.args.words.now in
    let a = c.in-Ok-None in
    let is : a.field-0 ≡ None = a.field-0-is in
    let show : (settings : Settings) → IsShow settings words → ⊥ = λ settings. none_show words a.field-0 a.ensures.ok settings is in
    let replay : IsReplay words → ⊥ = none_replay words a.field-0 a.ensures.ok is in
    let send : (settings : EndSettings) → IsSend settings words → ⊥ = none_send words a.field-0 a.ensures.ok is in
    let listen : (settings : EndSettings) → IsListen settings words → ⊥ = none_listen words a.field-0 a.ensures.ok is in
    let pair : (settings : PairSettings) → IsPair settings words → ⊥ = none_pair words a.field-0 a.ensures.ok is in
    let none = no_command words a.field-0 a.ensures.ok is in
    let help : (topic : Topic) → IsHelp topic words → ⊥ = λ topic w. none (Command.Help topic) w in
    let version : IsVersion words → ⊥ = λ w. none Command.Version w in
    record {
      shown = λ settings w. absurd (show settings w);
      replayed = λ w. absurd (replay w);
      refused = λ no_command. c.refuse.ensures _;
      complete = λ settings octets w left plain no_fault. absurd (show settings w);
      replay_complete = λ octets w left is_lawful no_fault. absurd (replay w);
      sent = λ settings w. absurd (send settings w);
      listened = λ settings w. absurd (listen settings w);
      listen_recorded = λ settings w recording. absurd (listen settings w);
      listen_lines = λ settings w recording. absurd (listen settings w);
      send_complete = λ settings w goes_well. absurd (send settings w);
      listen_complete = λ settings w goes_well. absurd (listen settings w);
      paired = λ settings w. absurd (pair settings w);
      pair_complete = λ settings w is_runnable no_fault. absurd (pair settings w);
      helped = λ topic w. absurd (help topic w);
      versioned = λ w. absurd (version w);
      usage = λ one command w. none command w;
      send_lawful = λ settings w. absurd (send settings w);
      listen_lawful = λ settings w. absurd (listen settings w);
      dials = λ settings w. absurd (send settings w);
      accepts = λ settings w. absurd (listen settings w);
      send_given = λ settings w. absurd (send settings w);
      listen_given = λ settings w. absurd (listen settings w);
      shut = none_shut (seen_of (g.W.Wires.state c.args.wires.now) (g.W.Wires.counts c.args.wires.now) (g.W.Wires.asked c.args.wires.now) (g.W.Wires.lent c.args.wires.now));
      send_link_reads = λ settings w. absurd (send settings w);
      listen_link_reads = λ settings w. absurd (listen settings w);
      unread = λ no_command. refl;
      unlinked = λ settings w. refl;
      listen_unread = λ settings w. absurd (listen settings w);
      asked_unread = λ topic w. absurd (not_asked words help version topic w);
      asked_unlinked = λ topic w. absurd (not_asked words help version topic w);
      no_memory = λ settings w e no_elements. absurd (show settings w);
      reads = λ settings w. absurd (show settings w);
      replay_no_memory = λ w. absurd (replay w);
      send_reads = λ settings w. absurd (send settings w);
      replay_reads = λ w. absurd (replay w);
      pair_unlinked = λ settings w. absurd (pair settings w);
      pair_no_memory = λ settings w. absurd (pair settings w);
      pair_unread = λ settings w. absurd (pair settings w);
      pair_reads = λ settings w. absurd (pair settings w);
    }

pub returns-in-Err : goal.returns-in-Err
returns-in-Err g c =
    let words = map string_bytes c.args.words.now in
    let of : IsOfEnd words = c.in-Err.ensures.err in
    let seen : Seen = seen_of (g.W.Wires.state c.args.wires.now) (g.W.Wires.counts c.args.wires.now) (g.W.Wires.asked c.args.wires.now) (g.W.Wires.lent c.args.wires.now) in
    record {
      shown = λ settings w. absurd (of.not_show settings w);
      replayed = λ w. absurd (of.not_replay w);
      refused = λ none. absurd (of.some none);
      complete = λ settings octets w left plain no_fault. absurd (of.not_show settings w);
      replay_complete = λ octets w left is_lawful no_fault. absurd (of.not_replay w);
      sent = λ settings w. starved_at_once settings _ _ _;
      listened = λ settings w. listen_starved refl;
      listen_recorded = λ settings w recording. record_starved Ended.NoMemory (session tt (λ e. absurd cc), unlinked_keeps settings Ended.NoMemory seen seen refl) refl (Appends-nil (g.O.Sink.state c.args.output.now).written);
      listen_lines = λ settings w recording. none_written settings seen (g.O.Sink.state c.args.output.now);
      send_complete = λ settings w goes_well. inr refl;
      listen_complete = λ settings w goes_well. inr refl;
      paired = λ settings w. absurd (of.not_pair settings w);
      pair_complete = λ settings w is_runnable no_fault. absurd (of.not_pair settings w);
      helped = λ topic w. absurd (of.not_help topic w);
      versioned = λ w. absurd (of.not_version w);
      usage = λ one. absurd (omega (arith, one));
      send_lawful = λ settings w. each_none (λ link. WhereKnown (IsLawfulOn (terms_by Role.Initiator settings)) link.log) seen seen refl;
      listen_lawful = λ settings w. each_none (λ link. WhereKnown (IsLawfulOn (terms_by Role.Listener settings)) link.log) seen seen refl;
      dials = λ settings w. asks_none (IsDialOf settings _) 1 (g.W.Wires.asked c.args.wires.now);
      accepts = λ settings w. asks_none (IsAcceptOf settings _) settings.sessions (g.W.Wires.asked c.args.wires.now);
      send_given = λ settings w. omega arith;
      listen_given = λ settings w. omega arith;
      shut = none_shut (seen_of (g.W.Wires.state c.args.wires.now) (g.W.Wires.counts c.args.wires.now) (g.W.Wires.asked c.args.wires.now) (g.W.Wires.lent c.args.wires.now));
      send_link_reads = λ settings w. none_read settings seen seen refl;
      listen_link_reads = λ settings w. none_read settings seen seen refl;
      unread = λ none. absurd (of.some none);
      unlinked = λ settings w. absurd (not_unlinked words of settings w);
      listen_unread = λ settings w. refl;
      asked_unread = λ topic w. absurd (not_asked words of.not_help of.not_version topic w);
      asked_unlinked = λ topic w. absurd (not_asked words of.not_help of.not_version topic w);
      no_memory = λ settings w e no_elements. absurd (of.not_show settings w);
      reads = λ settings w. absurd (of.not_show settings w);
      replay_no_memory = λ w. absurd (of.not_replay w);
      send_reads = λ settings w. omega arith;
      replay_reads = λ w. absurd (of.not_replay w);
      pair_unlinked = λ settings w. absurd (of.not_pair settings w);
      pair_no_memory = λ settings w. absurd (of.not_pair settings w);
      pair_unread = λ settings w. absurd (of.not_pair settings w);
      pair_reads = λ settings w. absurd (of.not_pair settings w);
    }
