use Rattle.cover_core.proofs.Rises.{take_out-gone}
use Rattle.cover_core.proofs.laws.lists_law.Goals as goal

pub returns-clause-rise : goal.returns-clause-rise
returns-clause-rise g c = λ items size seat s v ok at. (ok.each_view seat v at).lists

pub returns-clause-settled : goal.returns-clause-settled
returns-clause-settled g c = λ items size seat cursor range s v ok at. take_out-gone range v.held (ok.each_view seat v at).lists.held
