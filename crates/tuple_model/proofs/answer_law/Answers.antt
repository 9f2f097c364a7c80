use Rattle.tuple_model.proofs.Answers.{answered, answer-from_minimal, minimal-from_answer, IsBefore-from_answer}
use Rattle.tuple_model.proofs.answer_law.Goals as goal

pub returns-clause-members : goal.returns-clause-members
returns-clause-members g c = λ items size answer h t. (
  minimal-from_answer g.F.Failing.Fails items size answer t h,
  λ k. answer-from_minimal g.F.Failing.Fails items size answer t h k.0 k.1,
)

pub returns-clause-ordered : goal.returns-clause-ordered
returns-clause-ordered g c = IsBefore-from_answer g.F.Failing.Fails

pub returns-clause-answered : goal.returns-clause-answered
returns-clause-answered g c = λ items size answer is. answered g.F.Failing.Fails items size answer is
