use Rattle.std.proofs.Common.{◌≡◌, ◌∙◌, ◌≤◌, ◌*◌, ◌^◌, ◌++◌, List, length, map, ap, sym, subst, arith, inr, Ok, rules, All, mul-le-mul}
use Rattle.std.proofs.lemmas.List.{length-map}
use Rattle.std.proofs.lemmas.Result.{err_from_is_err_and}
use Rattle.wire_table.specs.Items.{Item}
use Rattle.wire_table.specs.CodeItems.{item_of}
use Rattle.rp_events.specs.declared.event.Event as code
use Rattle.rp_events.specs.Questions.{IsEventOf, GivesEvents, event_of}
use Rattle.report.specs.declared.status.Status.TheVariants.{Listed}
use Rattle.mask_check.specs.declared.answer.QuestionAnswer as code_answer
use Rattle.mask_check.specs.Questions.{items as items_of_check}
use Rattle.mask_check.specs.Tallying.{state_of, tallying_of, tally_part, AreFed}
use Rattle.mask_check.specs.Decisions.{answer_of, event_questions, AreAnswersTo, IsOfItems}
use Rattle.mask_check.proofs.FewTuples.{few_tuples}
use Rattle.mask_check.proofs.Suited.{few_events}
use Rattle.mask_check.proofs.Asking.{items-leaking}
use Rattle.mask_check.proofs.Answering.{Answers-from_untallied}
use Rattle.mask_check.proofs.Listing.{leaking-answered, IsOfItems-answers}
use Rattle.mask_check.proofs.leaking_answer.leaking_answer.Goals as goal

pub overflow_mul-work : goal.overflow_mul-work
overflow_mul-work g c =
    let s = c.args.settings.now in
    let circuit = c.args.gadget.now in
    let events = map event_of c.in_ok-events.events.items in
    let given : GivesEvents c.args.rp circuit s.t (Ok events) = search rules in
    let number : c.len-2.result ≡ length c.in_ok-events.events.items = search rules in
    let items : c.len.result ≡ length c.in_ok-items.items.items = search rules in
    let few = few_events c.args.rp circuit s.t given.0 in
    let same = ap length given.1 in
    let mapped = length-map c.in_ok-events.events.items event_of in
    let few_items = c.in_ok-items.ensures.few in
    let tuples : c.count-tuples.result ≤ 2 ^ 45 = let l = few_tuples c.len.result (omega arith) s.size c.requires.settings.small in let e = c.count-tuples.ensures in omega arith in
    let l : c.len-2.result ≤ 65536 = omega arith in
    let m : c.count-tuples.result * c.len-2.result ≤ 2 ^ 45 * 65536 = mul-le-mul tuples l in
    omega arith

pub event_answers-requires-clause-events : goal.event_answers-requires-clause-events
event_answers-requires-clause-events g c =
    let of_gadget : All (IsEventOf c.args.gadget.now) (map event_of c.in_ok-events.events.items) = search rules in
    let P : List code.Event → Type 0 = λ es. All (IsEventOf c.args.gadget.now) (map event_of es) in
    λ κs alive. subst P (sym c.deref.ensures.value) of_gadget

pub add_events-requires : goal.add_events-requires
add_events-requires g c =
    let s = c.args.settings.now in
    let circuit = c.args.gadget.now in
    let events = c.deref.result.now in
    let of_are : map item_of c.deref-4.result.now ≡ items_of_check s circuit =
    ap (map item_of) c.deref-4.ensures.value ∙ c.in_ok-items.ensures.items ∙ sym (items-leaking s circuit c.args.rp c.requires.asked) in
    let P : List code_answer.QuestionAnswer → Type 0 = λ xs. All (IsOfItems (map item_of c.deref-4.result.now)) (map answer_of xs) in
    record {
      there = subst P (sym c.deref-5.ensures.value)
          (IsOfItems-answers s circuit (map item_of c.deref-4.result.now) of_are (event_questions s (map event_of events))
          (map answer_of c.in_ok-answers.answers.items) c.in_ok-answers.ensures);
    }

pub returns-in_err-tally : goal.returns-in_err-tally
returns-in_err-tally g c =
    let p = err_from_is_err_and c.from_residual-in_err-tally.result c.from_residual-in_err-tally.ensures.1 in
    let s = c.args.settings.now in
    let circuit = c.args.gadget.now in
    let events = c.in_ok-events.events.items in
    let of_items = c.in_ok-items.items.items in
    let answers = c.in_ok-answers.answers.items in
    let given : GivesEvents c.args.rp circuit s.t (Ok (map event_of events)) = search rules in
    let number : c.len-2.result ≡ length events = search rules in
    let items : c.len.result ≡ length of_items = search rules in
    let within : c.count-tuples.result * c.len-2.result ≤ s.budget = search rules in
    let tallying = tallying_of (λ b. state_of ((goal.Tally-dyn g (b.vtable, b.value)).kind b.value) ((goal.Tally-dyn g (b.vtable, b.value)).counts b.value)) c.args.tallies.now.items c.tally.new.tallies.items in
    let right : AreAnswersTo s circuit (map event_of events) (map answer_of answers) =
    subst (λ (xs : List code.Event). AreAnswersTo s circuit (map event_of xs) (map answer_of answers)) c.deref.ensures.value c.in_ok-answers.ensures in
    let fed : AreFed s (map answer_of answers) tallying =
    subst (λ (xs : List code_answer.QuestionAnswer). AreFed s (map answer_of xs) tallying) c.deref-9.ensures.value c.tally.ensures.fed in
    let done = leaking-answered s circuit c.args.rp c.requires.asked events c.deref-3.result.now c.deref-6.result.now of_items c.deref-2.result.now c.deref-4.result.now
    answers c.deref-5.result.now c.deref-7.result.now c.len.result c.len-2.result c.count-tuples.result
    c.in_ok-report.report c.add_events.new.report c.add_greatest.new.report
    c.deref-3.ensures.value c.deref-6.ensures.value c.deref-2.ensures.value c.deref-4.ensures.value c.deref-5.ensures.value c.deref-7.ensures.value
    given.0 given.1 c.in_ok-items.ensures.items items number c.count-tuples.ensures within right
    c.in_ok-report.ensures c.in_ok-add_events.ensures c.in_ok-add_greatest.ensures in
    rw (p.1, p.2) (inr (done.0, record { answers = map answer_of answers; right = (done.1).right; fed = fed }))

pub returns : goal.returns
returns g c =
    let s = c.args.settings.now in
    let circuit = c.args.gadget.now in
    let events = c.in_ok-events.events.items in
    let of_items = c.in_ok-items.items.items in
    let answers = c.in_ok-answers.answers.items in
    let given : GivesEvents c.args.rp circuit s.t (Ok (map event_of events)) = search rules in
    let number : c.len-2.result ≡ length events = search rules in
    let items : c.len.result ≡ length of_items = search rules in
    let within : c.count-tuples.result * c.len-2.result ≤ s.budget = search rules in
    let tallying = tallying_of (λ b. state_of ((goal.Tally-dyn g (b.vtable, b.value)).kind b.value) ((goal.Tally-dyn g (b.vtable, b.value)).counts b.value)) c.args.tallies.now.items c.tally.new.tallies.items in
    let right : AreAnswersTo s circuit (map event_of events) (map answer_of answers) =
    subst (λ (xs : List code.Event). AreAnswersTo s circuit (map event_of xs) (map answer_of answers)) c.deref.ensures.value c.in_ok-answers.ensures in
    let fed : AreFed s (map answer_of answers) tallying =
    subst (λ (xs : List code_answer.QuestionAnswer). AreFed s (map answer_of xs) tallying) c.deref-9.ensures.value c.tally.ensures.fed in
    let done = leaking-answered s circuit c.args.rp c.requires.asked events c.deref-3.result.now c.deref-6.result.now of_items c.deref-2.result.now c.deref-4.result.now
    answers c.deref-5.result.now c.deref-7.result.now c.len.result c.len-2.result c.count-tuples.result
    c.in_ok-report.report c.add_events.new.report c.add_greatest.new.report
    c.deref-3.ensures.value c.deref-6.ensures.value c.deref-2.ensures.value c.deref-4.ensures.value c.deref-5.ensures.value c.deref-7.ensures.value
    given.0 given.1 c.in_ok-items.ensures.items items number c.count-tuples.ensures within right
    c.in_ok-report.ensures c.in_ok-add_events.ensures c.in_ok-add_greatest.ensures in
    let of_are : map item_of c.deref-8.result.now ≡ items_of_check s circuit =
    ap (map item_of) c.deref-8.ensures.value ∙ c.in_ok-items.ensures.items ∙ sym (items-leaking s circuit c.args.rp c.requires.asked) in (
      done.0,
      Answers-from_untallied s circuit tallying (map answer_of answers) Listed c.add_greatest.new.report c.tally.new.report done.1 fed
          (c.in_ok-tally.ensures.added ∙ ap (λ (of : List Item). c.add_greatest.new.report ++ tally_part s of tallying.after) of_are),
    )
