use Rattle.cover_core.specs.Core.{question_of}
use Rattle.cover_core.specs.declared.kind.At.TheVariants.{Cursor, Place}
use Rattle.cover_core.specs.declared.kind.Kind.TheVariants.{Split, Join, Claim, Look, Publish, Settle}
use Rattle.cover_core.proofs.Runs.{step-keeps}
use Rattle.cover_core.proofs.laws.step_law.Goals as goal

pub returns-clause-split : goal.returns-clause-split
returns-clause-split g c = λ items size parts s seat. step-keeps (question_of items size g.F.Failing.Fails) s seat (Split parts)

pub returns-clause-join : goal.returns-clause-join
returns-clause-join g c = λ items size other s seat. step-keeps (question_of items size g.F.Failing.Fails) s seat (Join other)

pub returns-clause-claim : goal.returns-clause-claim
returns-clause-claim g c = λ items size to s seat. step-keeps (question_of items size g.F.Failing.Fails) s seat (Claim to)

pub returns-clause-look_at_cursor : goal.returns-clause-look_at_cursor
returns-clause-look_at_cursor g c = λ items size s seat. step-keeps (question_of items size g.F.Failing.Fails) s seat (Look Cursor)

pub returns-clause-look_at_place : goal.returns-clause-look_at_place
returns-clause-look_at_place g c = λ items size place s seat. step-keeps (question_of items size g.F.Failing.Fails) s seat (Look (Place place))

pub returns-clause-publish : goal.returns-clause-publish
returns-clause-publish g c = λ items size place t s seat. step-keeps (question_of items size g.F.Failing.Fails) s seat (Publish place t)

pub returns-clause-settle : goal.returns-clause-settle
returns-clause-settle g c = λ items size range s seat. step-keeps (question_of items size g.F.Failing.Fails) s seat (Settle range)

pub returns-clause-any : goal.returns-clause-any
returns-clause-any g c = λ items size kind s seat. step-keeps (question_of items size g.F.Failing.Fails) s seat kind
