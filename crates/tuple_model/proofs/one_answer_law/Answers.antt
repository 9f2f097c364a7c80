use Rattle.tuple_model.proofs.Answers.{IsAnswer-unique}
use Rattle.tuple_model.proofs.one_answer_law.Goals as goal

pub returns : goal.returns
returns g c = IsAnswer-unique g.F.Failing.Fails
