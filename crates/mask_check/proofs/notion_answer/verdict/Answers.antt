use Rattle.std.proofs.Common.{◌≡◌, ◌∙◌, ℕ, Bool, List, length, map, ap, sym, subst, if◌then◌else◌}
use Rattle.std.proofs.lemmas.List.{length-map}
use Rattle.tuple_model.specs.Minimal.{IsAnswer}
use Rattle.wire_table.specs.Items.{Item}
use Rattle.wire_table.specs.CodeItems.{item_of}
use Rattle.report.specs.Report.{head, fail_lines, verdict}
use Rattle.report.specs.declared.status.Status.{Status}
use Rattle.report.specs.declared.status.Status.TheVariants.{Yes, No}
use Rattle.mask_check.specs.Questions.{breaks, items, tuple_count, FailsIn}
use Rattle.mask_check.proofs.Answering.{AreAmong-from_answer, AnswersUntallied-verdict, added_lines}
use Rattle.mask_check.proofs.notion_answer.verdict.Goals as goal
use Rattle.mask_check.proofs.notion_answer.verdict.Goals.{then-secure, else-secure}

pub fails-requires : goal.fails-requires
fails-requires c =
    let s = c.args.settings.now in
    let g = c.args.gadget.now in
    let one = c.requires.answer in
    let Fails = FailsIn g (breaks one.notion s.t) in
    let P : List Item → Type 0 = λ of. IsAnswer Fails (length of) s.size c.args.failing.now in
    record { there = AreAmong-from_answer Fails (map item_of c.args.items.now) s.size c.args.failing.now (subst P (sym one.items_are) one.right.minimal) }

pub returns : goal.returns
returns c =
    let s = c.args.settings.now in
    let g = c.args.gadget.now in
    let one = c.requires.answer in
    let count : length c.args.items.now ≡ length (items s g) = sym (length-map c.args.items.now item_of) ∙ ap length one.items_are in
    let secure = c.is_empty-secure.result in
    let status_by : Bool → Status = λ yes_. if yes_ then Yes else No in
    AnswersUntallied-verdict s g one.notion one.asks c.args.failing.now one.right secure c.if-secure.status c.verdict.new.self c.is_empty-secure.ensures
    (elim c.if-secure.branch [
      | then-secure w ↦ w.status-is ∙ ap status_by (sym w.if-secure.true)
      | else-secure w ↦ w.status-is ∙ ap status_by (sym w.if-secure.false)
    ])
    (added_lines c.new-report.result c.head.new.self c.fails.new.self c.verdict.new.self
    (head s.task s.t g (length c.args.items.now) s.size c.args.tuples) (fail_lines (map item_of c.args.items.now) c.args.failing.now)
    (verdict secure)
    (head s.task s.t g (length (items s g)) s.size (tuple_count s g)) (fail_lines (items s g) c.args.failing.now)
    c.new-report.ensures c.in_ok-head.ensures.added c.in_ok-fails.ensures.added c.in_ok-verdict.ensures.added
    (ap (λ (n : ℕ). head s.task s.t g n s.size c.args.tuples) count
    ∙ ap (head s.task s.t g (length (items s g)) s.size) one.counted)
    (ap (λ (of : List Item). fail_lines of c.args.failing.now) one.items_are))
