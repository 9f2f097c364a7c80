-- Whether a gadget suits a check, and how much work it is.
use Rattle.std.specs.Prelude.{◌≢◌}
use Rattle.std.proofs.Common.{◌≡◌, ℕ, ◌*◌, ◌≤◌, Bool, true, false, if◌then◌else◌, nat_lt, length, Option, Some, None, ap, ◌∙◌, sym, refl, subst, inl, inr, arith}
use Rattle.std.proofs.lemmas.Bool.{cases_lt, lt-ltb, false≢true}
use Rattle.std.proofs.lemmas.List.{length-map}
use Rattle.gadget_model.specs.Circuit.{Circuit}
use Rattle.notions.specs.Notions.{HasTooManyOutputs}
use Rattle.notions.specs.declared.notion.Notion.{Notion as NotionKind}
use Rattle.rp_events.specs.Events.{events_of, event_count, has_large_order, has_many_inputs, most_events, refusal}
use Rattle.rp_events.specs.declared.rp.Rp.{Rp}
use Rattle.rp_events.specs.declared.rp.RpError.{RpError}
use Rattle.rp_events.specs.declared.rp.RpError.TheVariants as errors
use Rattle.mask_words.specs.declared.answer.Settings.{Settings}
use Rattle.report.specs.declared.status.NotFor.{NotFor}
use Rattle.report.specs.declared.status.NotFor.TheVariants.{SeveralOutputs, ManyInputs, OrderTooLarge, ManyEvents}
use Rattle.mask_check.specs.declared.asked.Asked.{Asked}
use Rattle.mask_check.specs.declared.asked.Asked.TheVariants.{Notion, Leaking}
use Rattle.mask_check.specs.Questions.{asked_by, questions_by, IsUnsuited, IsUnsuitedBy, IsSuited, tuple_count, work}
use Rattle.mask_check.specs.Tallying.{Tallying, AreKept}
use Rattle.mask_check.specs.Decisions.{Declines, event_question, status_of_events}

module _ (s : Settings) (g : Circuit) (asks : Asked) (are : asked_by s.task ≡ asks) where
  pub IsUnsuited-from : (why : NotFor) → IsUnsuitedBy asks s g why → IsUnsuited s g why
  IsUnsuited-from why h = subst (λ (a : Asked). IsUnsuitedBy a s g why) (sym are) h

  pub IsSuited-from : ((why : NotFor) → IsUnsuitedBy asks s g why → ⊥) → IsSuited s g
  IsSuited-from h why un = h why (subst (λ (a : Asked). IsUnsuitedBy a s g why) are un)

  pub work-is : work s g ≡ length (questions_by asks s g) * tuple_count s g
  work-is = ap (λ (a : Asked). length (questions_by a s g) * tuple_count s g) are

-- a notion
no_reason : (s : Settings) (g : Circuit) (n : NotionKind) → (HasTooManyOutputs n g → ⊥) → (why : NotFor) → IsUnsuitedBy (Notion n) s g why → ⊥
no_reason s g n few SeveralOutputs h = few h
no_reason s g n few ManyInputs h = h
no_reason s g n few OrderTooLarge h = h
no_reason s g n few (ManyEvents count) h = h

pub IsSuited-notion : (s : Settings) (g : Circuit) (n : NotionKind) → asked_by s.task ≡ Notion n → (HasTooManyOutputs n g → ⊥) → IsSuited s g
IsSuited-notion s g n are few = IsSuited-from s g (Notion n) are (no_reason s g n few)

pub work-notion : (s : Settings) (g : Circuit) (n : NotionKind) → asked_by s.task ≡ Notion n → work s g ≡ tuple_count s g
work-notion s g n are = let e = work-is s g (Notion n) are in omega arith

-- random probing
none_some : (error : RpError) (r : Option RpError) → r ≡ None → r ≡ Some error → ⊥
none_some error r e f = cc

no_cause : (s : Settings) (g : Circuit) (kind : Rp) → refusal kind g s.t ≡ None → (why : NotFor) → IsUnsuitedBy (Leaking kind) s g why → ⊥
no_cause s g kind none SeveralOutputs h = h
no_cause s g kind none ManyInputs h = none_some errors.ManyInputs (refusal kind g s.t) none h
no_cause s g kind none OrderTooLarge h = none_some errors.OrderTooLarge (refusal kind g s.t) none h
no_cause s g kind none (ManyEvents count) h = none_some (errors.ManyEvents count) (refusal kind g s.t) none h

pub IsSuited-leaking : (s : Settings) (g : Circuit) (kind : Rp) → asked_by s.task ≡ Leaking kind → refusal kind g s.t ≡ None → IsSuited s g
IsSuited-leaking s g kind are none = IsSuited-from s g (Leaking kind) are (no_cause s g kind none)

pub work-leaking : (s : Settings) (g : Circuit) (kind : Rp) → asked_by s.task ≡ Leaking kind → work s g ≡ event_count kind g s.t * tuple_count s g
work-leaking s g kind are =
    work-is s g (Leaking kind) are
    ∙ ap (λ (n : ℕ). n * tuple_count s g) (length-map (events_of kind g s.t) (event_question s))

-- why there are no events is why the check is refused
pub Declines-events : (s : Settings) (g : Circuit) (kind : Rp) → asked_by s.task ≡ Leaking kind → (tallies : Tallying) → AreKept tallies → (error : RpError) →
    (error ≢ errors.OutOfMemory → refusal kind g s.t ≡ Some error) → Declines s g tallies (status_of_events error)
Declines-events s g kind are tallies kept errors.ManyInputs h = (IsUnsuited-from s g (Leaking kind) are ManyInputs (h (λ e. absurd (cc))), kept)
Declines-events s g kind are tallies kept errors.OrderTooLarge h = (IsUnsuited-from s g (Leaking kind) are OrderTooLarge (h (λ e. absurd (cc))), kept)
Declines-events s g kind are tallies kept (errors.ManyEvents count) h = (IsUnsuited-from s g (Leaking kind) are (ManyEvents count) (h (λ e. absurd (cc))), kept)
Declines-events s g kind are tallies kept errors.OutOfMemory h = inl kept

-- where nothing speaks against them, the events are few
many_or_few : (rp : Rp) (g : Circuit) (t : ℕ) (inputs large : Bool) → (many : Bool) →
    (if inputs then Some errors.ManyInputs else if large then Some errors.OrderTooLarge
    else if many then Some (errors.ManyEvents (event_count rp g t)) else None) ≡ None → many ≡ false
many_or_few rp g t true large many e = absurd (cc)
many_or_few rp g t false true many e = absurd (cc)
many_or_few rp g t false false true e = absurd (cc)
many_or_few rp g t false false false e = refl

pub few_events : (rp : Rp) (g : Circuit) (t : ℕ) → refusal rp g t ≡ None → event_count rp g t ≤ most_events
few_events rp g t none =
    let few = many_or_few rp g t (has_many_inputs rp g) (has_large_order rp g t) (nat_lt most_events (event_count rp g t)) none in
    elim (cases_lt most_events (event_count rp g t)) [
      | inl more ↦ absurd (false≢true (sym few ∙ lt-ltb most_events (event_count rp g t) more))
      | inr l ↦ l
    ]
