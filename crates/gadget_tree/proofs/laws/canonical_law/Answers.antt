use Rattle.gadget_tree.proofs.Canonical.{canonical_reads}
use Rattle.gadget_tree.proofs.laws.canonical_law.Goals as goal

pub returns : goal.returns
returns c = canonical_reads
