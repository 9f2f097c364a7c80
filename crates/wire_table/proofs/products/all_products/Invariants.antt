use Rattle.std.proofs.Common.{◌≡◌, take}
use Rattle.wire_table.specs.Terms.{products_of}
use Rattle.wire_table.proofs.products.all_products.Given as goal

abbrev pub invariant-loop-t : goal.invariant-loop-t
invariant-loop-t l = l.products.items ≡ products_of (take l.t-index l.terms)
