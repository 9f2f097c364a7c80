-- What a query knows of its items, and of the tuple that it is asked about.
use Rattle.std.proofs.Common.{◌≡◌, ℕ, ◌<◌, ◌≤◌, Bool, false, not, List, [], ◌++◌, length, map, ap, sym, ◌∙◌, arith, subst, ◌↔◌, append-nil}
use Rattle.std.specs.Prelude.{IsTrue, All}
use Rattle.std.proofs.Math.ListN.{length-map}
use Rattle.std.proofs.lemmas.Bool.{not-true, not-false, false≢true}
use Rattle.gadget_model.specs.Circuit.{Circuit}
use Rattle.gadget_model.specs.Simulation.{IsSimulatable, IsWithin}
use Rattle.tuple_model.specs.Limits.{most_size}
use Rattle.tuple_model.specs.Tuples.{IsTuple}
use Rattle.wire_table.specs.Tables.{StandsFor}
use Rattle.wire_table.specs.Items.{Item, variables_in}
use Rattle.wire_table.specs.CodeItems.{item_of}
use Rattle.wire_table.specs.declared.item.Item as code
use Rattle.needed.specs.TestedItems.{TestedItems, tested_items, variables_at}
use Rattle.notions.specs.declared.notion.Notion.{Notion}
use Rattle.notions.specs.declared.query.NotionQuery.TheInside.{Inside}
use Rattle.notions.specs.Inside.{notion_asked, IsPreparedNotion, HasSmallIndex}
use Rattle.notions.specs.Items.{items_of}
use Rattle.notions.specs.Questions.{NotionQuestion, FailsFor, items_asked, Passes}
use Rattle.notions.specs.Notions.{Grants}
use Rattle.needed.proofs.TestedItems.{IsTuple-below, IsTuple-observed}
use Rattle.notions.proofs.Granted.{Passes-least, Fails-least, not_Fails-from_Passes}

-- the set is the least from which the variables of a tuple's items, and no others, can be simulated, whatever gadget the table
-- stands for
abbrev pub IsLeastFor : TestedItems → List ℕ → ℕ → Type 0
IsLeastFor tested t least = (g : Circuit) (set : ℕ) → StandsFor tested.table g → IsSimulatable g (variables_at tested.observed t ++ []) set ↔ IsWithin least set

-- the answer of the test of what a notion grants
abbrev pub IsGrantedTest : Notion → ℕ → ℕ → List Item → List ℕ → ℕ → Bool → Type 0
IsGrantedTest notion inputs t items tuple set granted =
    (g : Circuit) → length g.inputs ≡ inputs → IsTrue granted ↔ Grants notion g t items tuple set

-- a query with its fields
module _ (q : NotionQuestion) (i : Inside) (seen : notion_asked i ≡ q) (ready : IsPreparedNotion i) where
  stands : StandsFor q.table q.gadget
  stands = let P : NotionQuestion → Type 0 = λ c. StandsFor c.table c.gadget in subst P seen ready.table

  -- what the calls ask of the list
  module _ (list : List code.Item) (same : list ≡ i.list.items) where
    of_items : map item_of list ≡ items_of i.notion i.gadget.now
    of_items = ap (map item_of) same ∙ ready.items

    items_are : map item_of list ≡ items_asked q
    items_are = of_items ∙ ap items_asked seen

    pub small_indices_asked : All HasSmallIndex (map item_of list)
    small_indices_asked = subst (All HasSmallIndex) (sym of_items) ready.indices

  -- it is asked about a tuple of its items
  module _ (t : List ℕ) (tuple : IsTuple (length (items_asked q)) q.t t) where
    pub tuple_there : (list : List code.Item) → list ≡ i.list.items → (ts : List ℕ) → ts ≡ t → All (λ k. k < length list) ts
    tuple_there list same ts e =
        subst (λ (n : ℕ). All (λ k. k < n) ts) (sym (ap length (items_are list same)) ∙ length-map list item_of)
        (IsTuple-below q.t t ts e (length (items_asked q)) tuple)

    pub tuple_short : (ts : List ℕ) → ts ≡ t → length ts ≤ most_size
    tuple_short ts e =
        let a = tuple.short in
        let b = ready.order in
        let c = ap (λ (c : NotionQuestion). c.t) seen in
        let d = ap length e in
        omega arith

    module _ (scratch : TestedItems) (fits : scratch ≡ tested_items q.table (items_asked q)) where
      pub tuple_observed : (ts : List ℕ) → ts ≡ t → All (λ k. k < length scratch.observed) ts
      tuple_observed ts e = IsTuple-observed q.t t ts e scratch q.table (items_asked q) fits tuple

      -- the test of the least set
      module _ (list : List code.Item) (same : list ≡ i.list.items) (ts ts' : List ℕ) (are : ts ≡ t) (are' : ts' ≡ t)
          (names : List (List ℕ)) (inputs : names ≡ i.gadget.now.inputs) (granted : Bool) (least : ℕ) (is : IsLeastFor scratch ts least)
          (test : IsGrantedTest i.notion (length names) i.t (map item_of list) ts' least granted) where
        least_asked : (set : ℕ) → IsSimulatable q.gadget (variables_in (items_asked q) t) set ↔ IsWithin least set
        least_asked set =
            let P : TestedItems → Type 0 = λ s. IsLeastFor s t least in
            let Q : List ℕ → Type 0 = λ u. IsLeastFor scratch u least in
            subst (λ (vs : List ℕ). IsSimulatable q.gadget vs set ↔ IsWithin least set) (append-nil (variables_in (items_asked q) t))
            (subst P fits (subst Q are is) q.gadget set stands)

        granted_asked : IsTrue granted ↔ Grants q.notion q.gadget q.t (items_asked q) t least
        granted_asked =
            let P : NotionQuestion → Type 0 = λ c. IsTrue granted ↔ Grants c.notion c.gadget c.t (items_asked q) t least in
            let Q : List Item → Type 0 = λ items. IsGrantedTest i.notion (length names) i.t items t least granted in
            let R : List ℕ → Type 0 = λ u. IsGrantedTest i.notion (length names) i.t (map item_of list) u least granted in
            subst P seen (subst Q (items_are list same) (subst R are' test) i.gadget.now (sym (ap (λ (xs : List (List ℕ)). length xs) inputs)))

        pub Passes-granted : not granted ≡ false → Passes q.notion q.gadget q.t (items_asked q) t
        Passes-granted refused =
            Passes-least q.notion q.gadget q.t (items_asked q) t least least_asked (granted_asked.0 (not-false granted refused))

        pub not_FailsFor-granted : not granted ≡ false → FailsFor q t → ⊥
        not_FailsFor-granted refused = not_Fails-from_Passes q.notion q.gadget q.t (items_asked q) t (Passes-granted refused)

        pub FailsFor-not_granted : IsTrue (not granted) → FailsFor q t
        FailsFor-not_granted refused =
            Fails-least q.notion q.gadget q.t (items_asked q) t least least_asked tuple.short
            (λ all. false≢true (sym (not-true granted refused) ∙ granted_asked.1 all))
