-- From queries and their items to the questions of a check.
use Rattle.std.proofs.Common.{◌≡◌, ◌∙◌, ℕ, List, length, ap, sym, subst, refl}
use Rattle.gadget_model.specs.Circuit.{Circuit}
use Rattle.std.proofs.lemmas.List.{length-map}
use Rattle.tuple_model.specs.Antichains.{Covers}
use Rattle.tuple_model.specs.Minimal.{IsAnswer}
use Rattle.tuple_model.specs.Tuples.{tuples}
use Rattle.wire_table.specs.Tables.{Table}
use Rattle.wire_table.specs.Items.{Item}
use Rattle.wire_table.specs.Uses.{wire_items}
use Rattle.notions.specs.declared.notion.Notion.{Notion as NotionKind}
use Rattle.notions.specs.Questions.{NotionQuestion, FailsFor, items_asked}
use Rattle.rp_events.specs.declared.rp.Rp.{Rp}
use Rattle.rp_events.specs.Events.{Event}
use Rattle.rp_events.specs.Questions.{EventQuestion, FailsAsked, leaking_items}
use Rattle.rp_events.proofs.Inherited.{FailsEvent-inherited}
use Rattle.wire_counts.specs.Coefficients.{AreCoefficients, weights_of}
use Rattle.wire_counts.proofs.Agreeing.{coefficients-same}
use Rattle.mask_words.specs.declared.answer.Settings.{Settings}
use Rattle.mask_check.specs.declared.asked.Asked.{Asked}
use Rattle.mask_check.specs.declared.asked.Asked.TheVariants.{Notion, Leaking}
use Rattle.mask_check.specs.Questions.{asked_by, breaks, FailsIn, items, items_by, QuestionAnswer, IsAnswerTo}
use Rattle.mask_check.specs.Decisions.{event_question, IsNotionAnswer}

-- the query of a notion
module _ (s : Settings) (g : Circuit) (table : Table) (n : NotionKind) (asks : asked_by s.task ≡ Notion n) (sized : s.size ≡ s.t) (q : NotionQuestion)
    (made : q ≡ record { notion = n; gadget = g; table = table; t = s.t }) where
  items-notion : items_asked q ≡ items s g
  items-notion = ap items_asked made ∙ ap (λ (a : Asked). items_by a s g) (sym asks)

  pub IsNotionAnswer-from : (of_items : List Item) (item_count size count : ℕ) (failing : List (List ℕ)) → of_items ≡ items_asked q →
      item_count ≡ length (items_asked q) → size ≡ q.t → count ≡ length (tuples item_count size) →
      IsAnswer (FailsFor q) (length (items_asked q)) q.t failing → IsNotionAnswer s g of_items count failing
  IsNotionAnswer-from of_items item_count size count failing are counted sizes is minimal =
      let size_is : size ≡ s.size = sizes ∙ ap (λ (p : NotionQuestion). p.t) made ∙ sym sized in
      let P : NotionQuestion → Type 0 = λ p. IsAnswer (FailsFor p) (length (items_asked q)) p.t failing in
      let R : List Item → ℕ → Type 0 = λ of size. IsAnswer (FailsIn g (breaks n s.t)) (length of) size failing in
      record {
        notion = n;
        asks = asks;
        items_are = are ∙ items-notion;
        counted = is ∙ ap (λ (k : ℕ). length (tuples k size)) (counted ∙ ap length items-notion) ∙ ap (λ (k : ℕ). length (tuples (length (items s g)) k)) size_is;
        right = record {
          minimal = subst (R (items s g)) (sym sized) (subst (λ (of : List Item). R of s.t) items-notion (subst P made minimal));
          counted = refl;
        };
      }

-- the items of a check of random probing
pub items-leaking : (s : Settings) (g : Circuit) (kind : Rp) → asked_by s.task ≡ Leaking kind → items s g ≡ wire_items s.wires g
items-leaking s g kind asks = ap (λ (a : Asked). items_by a s g) asks

-- the query of an event, and the coefficients that its answer gives
pub IsAnswerTo-event : (s : Settings) (g : Circuit) (table : Table) (event : Event) (kind : Rp) → asked_by s.task ≡ Leaking kind → (q : EventQuestion) →
    q ≡ record { event = event; gadget = g; table = table; t = s.t; size = s.size; wires = s.wires } → (answer : QuestionAnswer) →
    IsAnswer (FailsAsked q) (length (leaking_items q)) q.size answer.failing →
    AreCoefficients (Covers answer.failing) (weights_of (leaking_items q)) q.size answer.coefficients → IsAnswerTo s g (event_question s event) answer
IsAnswerTo-event s g table event kind asks q made answer minimal covered =
    let of_weights : length (leaking_items q) ≡ length (weights_of (leaking_items q)) = sym (length-map (leaking_items q) (λ (item : Item). item.weight)) in
    let counted : AreCoefficients (FailsAsked q) (weights_of (leaking_items q)) q.size answer.coefficients =
    (coefficients-same (FailsAsked q) (weights_of (leaking_items q)) q.size answer.failing answer.coefficients
    (FailsEvent-inherited q.gadget q.t q.event (leaking_items q))
    (subst (λ (n : ℕ). IsAnswer (FailsAsked q) n q.size answer.failing) of_weights minimal)).1 covered in
    let P : EventQuestion → Type 0 = λ p. IsAnswer (FailsAsked p) (length (leaking_items p)) p.size answer.failing in
    let Q : EventQuestion → Type 0 = λ p. AreCoefficients (FailsAsked p) (weights_of (leaking_items p)) p.size answer.coefficients in
    let R : List Item → Type 0 = λ of. IsAnswer (FailsIn g (event_question s event)) (length of) s.size answer.failing in
    let T : List Item → Type 0 = λ of. AreCoefficients (FailsIn g (event_question s event)) (weights_of of) s.size answer.coefficients in
    record {
      minimal = subst R (sym (items-leaking s g kind asks)) (subst P made minimal);
      counted = subst T (sym (items-leaking s g kind asks)) (subst Q made counted);
    }
