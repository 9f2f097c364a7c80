-- How often variables are used, and the wires that leak.
use Rattle.std.specs.Prelude.{ℕ, ◌-◌, ◌*◌, ◌==◌, List, [], ◌∷◌, map, flat_map, count_by, if◌then◌else◌, nat_lt, Option, Some, None}
use Rattle.std.specs.List.{filter}
use Rattle.gadget_model.specs.Circuit.{Circuit, Node, share, random, copy, sum_of, product_of, nodes}
use Rattle.mask_terms.specs.declared.wires.Wires.{Wires}
use Rattle.mask_terms.specs.declared.wires.Wires.TheVariants.{Plain, Copies}
use Rattle.wire_table.specs.Items.{Item, output_index, weighted_item, numbers}

-- the variables that a node names, by operand place
abbrev pub operands : Node → List ℕ
operands (share k) = []
operands (random k) = []
operands (copy a) = a ∷ []
operands (sum_of a b) = a ∷ b ∷ []
operands (product_of a b) = a ∷ b ∷ []

-- how many operand places of the gadget name variable v
unfoldable pub uses_of : Circuit → ℕ → ℕ
uses_of g v = count_by (λ a. a == v) (flat_map operands (nodes g))

-- For how many wires a variable stands that is used so often. Plain: one, but an output share that nothing uses is
-- none. Copies: a value that is used k times is copied k - 1 times, which makes 2 k - 1 wires; the output itself is one
-- more use of an output share, whose last wire is not counted. (This is the project's own: no wire of another tool is
-- meant.)
abbrev pub wire_count : Wires → Option ℕ → ℕ → ℕ
wire_count Plain None uses = 1
wire_count Plain (Some index) uses = if uses == 0 then 0 else 1
wire_count Copies None uses = if uses == 0 then 1 else 2 * uses - 1
wire_count Copies (Some index) uses = 2 * uses

-- for how many wires a variable of the gadget stands
abbrev pub weight_of : Wires → Circuit → ℕ → ℕ
weight_of wires g v = wire_count wires (output_index g v) (uses_of g v)

-- the variables that stand for some wire, in order, as items
unfoldable pub wire_items : Wires → Circuit → List Item
wire_items wires g =
    map (λ v. weighted_item g (weight_of wires g v) v) (filter (λ v. nat_lt 0 (weight_of wires g v)) (numbers g))
