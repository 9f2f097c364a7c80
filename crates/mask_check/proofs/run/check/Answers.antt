use Rattle.std.proofs.Common.{◌≡◌, Err, map, string_bytes, rules}
use Rattle.std.specs.Prelude.{◌≢◌}
use Rattle.report.specs.declared.status.Status.TheVariants as statuses
use Rattle.mask_check.specs.Tallying.{state_of}
use Rattle.mask_check.specs.Ends.{run_of}
use Rattle.mask_check.proofs.Completions.{Ends-completed, IsDoneIfMemoryLasts-from_ends, IsDoneIfMemoryLasts-from_demo, words-from_ends}
use Rattle.mask_check.proofs.Demos.{IsDemoFile-valid}
use Rattle.mask_check.proofs.run.check.Goals as goal

pub returns-in-Ok-clause-ends : goal.returns-in-Ok-clause-ends
returns-in-Ok-clause-ends g c = Ends-completed (map string_bytes c.args.words.now) (run_of g.S.Source.left g.S.Source.faults g.K.Sink.written g.K.Sink.faults
    (λ b. state_of ((goal.Tally-dyn g (b.vtable, b.value)).kind b.value) ((goal.Tally-dyn g (b.vtable, b.value)).counts b.value))
    c.args.source.now c.finish.new.source c.args.sink.now c.finish.new.sink c.args.tallies.now.items c.finish.new.tallies.items) c.in-Ok.status c.in-Ok.ensures.ends

pub returns-in-Ok-clause-complete : goal.returns-in-Ok-clause-complete
returns-in-Ok-clause-complete g c = λ valid.
    let words = map string_bytes c.args.words.now in
    IsDoneIfMemoryLasts-from_ends words (run_of g.S.Source.left g.S.Source.faults g.K.Sink.written g.K.Sink.faults
    (λ b. state_of ((goal.Tally-dyn g (b.vtable, b.value)).kind b.value) ((goal.Tally-dyn g (b.vtable, b.value)).counts b.value))
    c.args.source.now c.finish.new.source c.args.sink.now c.finish.new.sink c.args.tallies.now.items c.finish.new.tallies.items) valid c.in-Ok.status (Ends-completed words (run_of g.S.Source.left g.S.Source.faults g.K.Sink.written g.K.Sink.faults
    (λ b. state_of ((goal.Tally-dyn g (b.vtable, b.value)).kind b.value) ((goal.Tally-dyn g (b.vtable, b.value)).counts b.value))
    c.args.source.now c.finish.new.source c.args.sink.now c.finish.new.sink c.args.tallies.now.items c.finish.new.tallies.items) c.in-Ok.status c.in-Ok.ensures.ends)

pub returns-in-Ok-clause-complete_demo : goal.returns-in-Ok-clause-complete_demo
returns-in-Ok-clause-complete_demo g c = λ valid.
    let words = map string_bytes c.args.words.now in
    IsDoneIfMemoryLasts-from_demo words (run_of g.S.Source.left g.S.Source.faults g.K.Sink.written g.K.Sink.faults
    (λ b. state_of ((goal.Tally-dyn g (b.vtable, b.value)).kind b.value) ((goal.Tally-dyn g (b.vtable, b.value)).counts b.value))
    c.args.source.now c.finish.new.source c.args.sink.now c.finish.new.sink c.args.tallies.now.items c.finish.new.tallies.items) valid (IsDemoFile-valid words valid.settings valid.asked valid.made valid.makes)
    c.in-Ok.status (Ends-completed words (run_of g.S.Source.left g.S.Source.faults g.K.Sink.written g.K.Sink.faults
    (λ b. state_of ((goal.Tally-dyn g (b.vtable, b.value)).kind b.value) ((goal.Tally-dyn g (b.vtable, b.value)).counts b.value))
    c.args.source.now c.finish.new.source c.args.sink.now c.finish.new.sink c.args.tallies.now.items c.finish.new.tallies.items) c.in-Ok.status c.in-Ok.ensures.ends)

pub returns-in-Err-clause-complete : goal.returns-in-Err-clause-complete
returns-in-Err-clause-complete g c = λ valid.
    IsDoneIfMemoryLasts-from_ends (map string_bytes c.args.words.now) (run_of g.S.Source.left g.S.Source.faults g.K.Sink.written g.K.Sink.faults
    (λ b. state_of ((goal.Tally-dyn g (b.vtable, b.value)).kind b.value) ((goal.Tally-dyn g (b.vtable, b.value)).counts b.value))
    c.args.source.now c.finish.new.source c.args.sink.now c.finish.new.sink c.args.tallies.now.items c.finish.new.tallies.items) valid c.in-Err.refusal c.in-Err.ensures.ends

pub returns-in-Err-clause-complete_demo : goal.returns-in-Err-clause-complete_demo
returns-in-Err-clause-complete_demo g c = λ valid.
    let words = map string_bytes c.args.words.now in
    IsDoneIfMemoryLasts-from_demo words (run_of g.S.Source.left g.S.Source.faults g.K.Sink.written g.K.Sink.faults
    (λ b. state_of ((goal.Tally-dyn g (b.vtable, b.value)).kind b.value) ((goal.Tally-dyn g (b.vtable, b.value)).counts b.value))
    c.args.source.now c.finish.new.source c.args.sink.now c.finish.new.sink c.args.tallies.now.items c.finish.new.tallies.items) valid (IsDemoFile-valid words valid.settings valid.asked valid.made valid.makes)
    c.in-Err.refusal c.in-Err.ensures.ends

pub returns-in-Err-clause-words : goal.returns-in-Err-clause-words
returns-in-Err-clause-words g c = λ error wrong.
    words-from_ends (map string_bytes c.args.words.now) (run_of g.S.Source.left g.S.Source.faults g.K.Sink.written g.K.Sink.faults
    (λ b. state_of ((goal.Tally-dyn g (b.vtable, b.value)).kind b.value) ((goal.Tally-dyn g (b.vtable, b.value)).counts b.value))
    c.args.source.now c.finish.new.source c.args.sink.now c.finish.new.sink c.args.tallies.now.items c.finish.new.tallies.items) error wrong c.in-Err.refusal c.in-Err.ensures.ends

pub returns-in-Err-clause-write_faultless : goal.returns-in-Err-clause-write_faultless
returns-in-Err-clause-write_faultless g c = λ other. c.in-Err.ensures.write_faultless (λ e. other (cc))
