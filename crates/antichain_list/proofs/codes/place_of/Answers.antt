use Rattle.std.proofs.Common.{◌≡◌, ltb, arith, rules, true, false}
use Rattle.std.specs.List.Sorted.{IsPartitionPoint}
use Rattle.std.proofs.lemmas.Bool.{ltb-true, ltb-false}
use Rattle.std.proofs.lemmas.List.Sorted.{IsPartitionPoint-from_clause, IsPartitionedBy-ltb}
use Rattle.antichain_list.proofs.codes.place_of.Goals as goal

pub returns : goal.returns
returns c =
    let list = c.args.list.now in
    let code = c.args.code in
    let point : IsPartitionPoint (λ y. ltb y code ≡ true) (λ y. ltb y code ≡ false) list c.partition_point.result =
    IsPartitionPoint-from_clause (λ y. ltb y code) list c.partition_point.result c.partition_point.ensures.partitioned
    (IsPartitionedBy-ltb (λ y. y) list code c.requires) (λ a r f' k. search rules) in
    record {
      within = c.partition_point.ensures.bound;
      lower = λ k l. ltb-true _ code (point.0 k 0 (omega arith) l);
      others = λ k l m. ltb-false _ code (point.1 k 0 l m);
    }
