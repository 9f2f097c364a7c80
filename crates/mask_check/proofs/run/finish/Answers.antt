use Rattle.std.proofs.Common.{◌≡◌, ◌≤◌, ℕ, List, length, Ok, rules, refl, sym, subst, map, string_bytes}
use Rattle.std.specs.Prelude.{Result, IfOk}
use Rattle.std.proofs.lemmas.Result.{err_from_is_err_and}
use Rattle.mask_bytes.specs.Flow.{AppendsProperPrefix}
use Rattle.gadget_text.specs.Limits.{most_file_bytes}
use Rattle.mask_words.specs.declared.answer.Settings.{Settings}
use Rattle.mask_words.specs.declared.answer.WordsError.{WordsError}
use Rattle.mask_words.specs.Answers.{IsWellFormed}
use Rattle.mask_check.specs.Tallying.{state_of, tallying_of}
use Rattle.mask_check.specs.Ends.{words_ask, run_of}
use Rattle.mask_check.specs.Decisions.{IsReady, Decides, Declines}
use Rattle.mask_check.proofs.Demos.{IsDemoFile-made, IsReady-from}
use Rattle.mask_check.proofs.AfterReading.{few_bytes, Ends-lacking, Ends-declined, Ends-file, Ends-table}
use Rattle.mask_check.proofs.run.finish.Goals as goal

-- what holds of all settings that are given holds of these
formed_by : (given : Result Settings WordsError) (s : Settings) → given ≡ Ok s → IfOk given IsWellFormed → IsWellFormed s
formed_by given s is formed = subst (λ (r : Result Settings WordsError). IfOk r IsWellFormed) is formed

pub read_gadget-requires : goal.read_gadget-requires
read_gadget-requires g c =
    let s = c.in_ok-settings.settings in
    let formed = formed_by c.settings.result s (search rules) c.settings.ensures.well_formed in
    subst (λ (bytes : List ℕ). length bytes ≤ most_file_bytes) (sym c.deref.ensures.value)
    (few_bytes s _ c.in_ok-bytes.bytes.items c.in_ok-bytes.ensures.file.0 (IsDemoFile-made s formed.demo_shares))

pub decide-requires-clause-settings : goal.decide-requires-clause-settings
decide-requires-clause-settings g c =
    let s = c.in_ok-settings.settings in
    let formed = formed_by c.settings.result s (search rules) c.settings.ensures.well_formed in
    λ κs alive. subst IsReady (sym c.check_of-check.ensures) (IsReady-from s formed)

pub returns-in_err-bytes-clause-ends : goal.returns-in_err-bytes-clause-ends
returns-in_err-bytes-clause-ends g c =
    let p = err_from_is_err_and c.from_residual-in_err-bytes.result c.from_residual-in_err-bytes.ensures.1 in
    let s = c.in_ok-settings.settings in
    let asked : words_ask (map string_bytes c.args.words.now) ≡ Ok s = search rules in
    rw (p.1) (Ends-lacking (map string_bytes c.args.words.now)
    (run_of g.S.Source.left g.S.Source.faults g.K.Sink.written g.K.Sink.faults
    (λ b. state_of ((goal.Tally-dyn g (b.vtable, b.value)).kind b.value) ((goal.Tally-dyn g (b.vtable, b.value)).counts b.value))
    c.args.source.now c.file_of.new.source c.args.sink.now c.args.sink.now c.args.tallies.now.items c.args.tallies.now.items)
    s asked refl refl p.0 (search rules))

pub returns-in_err-gadget-clause-ends : goal.returns-in_err-gadget-clause-ends
returns-in_err-gadget-clause-ends g c =
    let p = err_from_is_err_and c.from_residual-in_err-gadget.result c.from_residual-in_err-gadget.ensures.1 in
    let s = c.in_ok-settings.settings in
    let asked : words_ask (map string_bytes c.args.words.now) ≡ Ok s = search rules in
    let formed = formed_by c.settings.result s (search rules) c.settings.ensures.well_formed in
    rw (p.1) (Ends-file (map string_bytes c.args.words.now)
    (run_of g.S.Source.left g.S.Source.faults g.K.Sink.written g.K.Sink.faults
    (λ b. state_of ((goal.Tally-dyn g (b.vtable, b.value)).kind b.value) ((goal.Tally-dyn g (b.vtable, b.value)).counts b.value))
    c.args.source.now c.file_of.new.source c.args.sink.now c.args.sink.now c.args.tallies.now.items c.args.tallies.now.items)
    s c.in_ok-bytes.bytes.items asked
    c.in_ok-bytes.ensures.file.0 c.in_ok-bytes.ensures.file.1 (IsDemoFile-made s formed.demo_shares) refl refl
    c.in_err-gadget.field-0.0 p.0 p.2 (search rules))

pub returns-in_err-table-clause-ends : goal.returns-in_err-table-clause-ends
returns-in_err-table-clause-ends g c =
    let p = err_from_is_err_and c.from_residual-in_err-table.result c.from_residual-in_err-table.ensures.1 in
    let s = c.in_ok-settings.settings in
    let asked : words_ask (map string_bytes c.args.words.now) ≡ Ok s = search rules in
    let formed = formed_by c.settings.result s (search rules) c.settings.ensures.well_formed in
    rw (p.1) (Ends-table (map string_bytes c.args.words.now)
    (run_of g.S.Source.left g.S.Source.faults g.K.Sink.written g.K.Sink.faults
    (λ b. state_of ((goal.Tally-dyn g (b.vtable, b.value)).kind b.value) ((goal.Tally-dyn g (b.vtable, b.value)).counts b.value))
    c.args.source.now c.file_of.new.source c.args.sink.now c.args.sink.now c.args.tallies.now.items c.args.tallies.now.items)
    s c.in_ok-bytes.bytes.items asked
    c.in_ok-bytes.ensures.file.0 c.in_ok-bytes.ensures.file.1 (IsDemoFile-made s formed.demo_shares) refl refl
    c.in_ok-gadget.gadget c.in_err-table.field-0.0 p.0 p.2 (search rules) (search rules))

pub returns-in_err-answer-clause-ends : goal.returns-in_err-answer-clause-ends
returns-in_err-answer-clause-ends g c =
    let p = err_from_is_err_and c.from_residual-in_err-answer.result c.from_residual-in_err-answer.ensures.1 in
    let s = c.in_ok-settings.settings in
    let asked : words_ask (map string_bytes c.args.words.now) ≡ Ok s = search rules in
    let formed = formed_by c.settings.result s (search rules) c.settings.ensures.well_formed in
    rw (p.1) (Ends-declined (map string_bytes c.args.words.now)
    (run_of g.S.Source.left g.S.Source.faults g.K.Sink.written g.K.Sink.faults
    (λ b. state_of ((goal.Tally-dyn g (b.vtable, b.value)).kind b.value) ((goal.Tally-dyn g (b.vtable, b.value)).counts b.value))
    c.args.source.now c.file_of.new.source c.args.sink.now c.args.sink.now c.args.tallies.now.items c.decide.new.tallies.items)
    s c.in_ok-bytes.bytes.items asked
    c.in_ok-bytes.ensures.file.0 c.in_ok-bytes.ensures.file.1 (IsDemoFile-made s formed.demo_shares) refl
    c.in_ok-gadget.gadget p.0 (search rules)
    (subst (λ (check : Settings). Declines check c.in_ok-gadget.gadget
    (tallying_of (λ b. state_of ((goal.Tally-dyn g (b.vtable, b.value)).kind b.value) ((goal.Tally-dyn g (b.vtable, b.value)).counts b.value)) c.args.tallies.now.items c.decide.new.tallies.items) p.0)
    c.check_of-check.ensures (search rules)))

pub returns-in_err-write_whole-clause-ends : goal.returns-in_err-write_whole-clause-ends
returns-in_err-write_whole-clause-ends g c =
    let p = err_from_is_err_and c.from_residual-in_err-write_whole.result c.from_residual-in_err-write_whole.ensures.1 in
    rw (p.1, p.2) (
      c.in_err-write_whole.ensures.fault,
      (
        c.in_ok-answer.answer.status,
        c.in_ok-answer.answer.report,
        record {
          bytes = c.in_ok-bytes.bytes.items;
          settings = c.in_ok-settings.settings;
          gadget = c.in_ok-gadget.gadget;
          file = c.in_ok-bytes.ensures.file.0;
          accepted = search rules;
          holds = subst (λ (check : Settings). Decides check c.in_ok-gadget.gadget
              (tallying_of (λ b. state_of ((goal.Tally-dyn g (b.vtable, b.value)).kind b.value) ((goal.Tally-dyn g (b.vtable, b.value)).counts b.value)) c.args.tallies.now.items c.decide.new.tallies.items) c.in_ok-answer.answer)
              c.check_of-check.ensures c.in_ok-answer.ensures;
        },
        subst (λ (text : List ℕ). AppendsProperPrefix (g.K.Sink.written c.args.sink.now) (g.K.Sink.written c.write_whole.new.sink) text)
            c.bytes.ensures c.in_err-write_whole.ensures.prefix,
      ),
    )

pub returns-clause-ends : goal.returns-clause-ends
returns-clause-ends g c = (
  c.in_ok-answer.answer.report,
  record {
    bytes = c.in_ok-bytes.bytes.items;
    settings = c.in_ok-settings.settings;
    gadget = c.in_ok-gadget.gadget;
    file = c.in_ok-bytes.ensures.file.0;
    accepted = search rules;
    holds = subst (λ (check : Settings). Decides check c.in_ok-gadget.gadget
        (tallying_of (λ b. state_of ((goal.Tally-dyn g (b.vtable, b.value)).kind b.value) ((goal.Tally-dyn g (b.vtable, b.value)).counts b.value)) c.args.tallies.now.items c.decide.new.tallies.items) c.in_ok-answer.answer)
        c.check_of-check.ensures c.in_ok-answer.ensures;
  },
  search rules,
)
