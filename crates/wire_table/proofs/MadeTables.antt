-- The table that is made of polynomials stands for their gadget.
use Rattle.std.proofs.Common.{◌≡◌, ℕ, ◌^◌, ◌<◌, ◌≤◌, ◌==◌, Bool, false, List, [], ◌∷◌, map, length, get_or, Vec, Global, ap, sym, ◌∙◌, subst, arith, Contains}
use Rattle.std.specs.Prelude.{count_by, flat_map}
use Rattle.std.specs.List.{All, AllZip, range_with_len}
use Rattle.std.specs.List.Sorted.{IsStrictlyIncreasing}
use Rattle.std.proofs.lemmas.List.{length-map, get_or-map}
use Rattle.std.proofs.lemmas.List.Elements.{All-map, All-contains, Contains-get_or}
use Rattle.std.proofs.lemmas.List.Folds.{flat_map-map}
use Rattle.std.proofs.lemmas.List.FromFn.{get_or-map-range_with_len, length-map-range_with_len}
use Rattle.gadget_model.specs.Bits.{add}
use Rattle.gadget_model.specs.Circuit.{Circuit, value}
use Rattle.gadget_model.specs.Polynomials.{polynomial}
use Rattle.gadget_model.proofs.PolynomialValues.{polynomial_value-same, value-polynomial}
use Rattle.gadget_model.proofs.WirePolynomials.{once-polynomial}
use Rattle.gadget_tree.specs.declared.var.Var.{Var}
use Rattle.gadget_tree.specs.Gadgets.{IsGadget}
use Rattle.gadget_tree.specs.Seen.{node_of, variables_of}
use Rattle.bit_lists.specs.SetSums.{set_sum}
use Rattle.wire_table.specs.declared.terms.Terms.{Terms}
use Rattle.wire_table.specs.Tables.{Table, IsTable, StandsFor, has_bit, words_for, random_at, shares_value, randoms_value, row_bits, product_values, most_products}
use Rattle.wire_table.specs.Uses.{operands, uses_of}
use Rattle.bit_lists.specs.BitLists.{chosen_sum}
use Rattle.wire_table.specs.Terms.{IsShareProduct, AreTermsOf, products_of}
use Rattle.wire_table.specs.UseCounts.{uses_among}
use Rattle.wire_table.specs.ShareRows.{IsShareRow}
use Rattle.wire_table.specs.WirePolynomials.{polynomial_at, ArePolynomials}
use Rattle.wire_table.proofs.Monomials.{nodes-variables_of, length-variables_of}
use Rattle.wire_table.proofs.ShareProducts.{few_products, product_below, share_of_product, once_from_rising, Contains-flat_map, Contains-from_flat_map}
use Rattle.wire_table.proofs.Zips.{length-all_zip, AllZip-at}

-- what is known of the parts of a table when it is made
pub record Parts (g : Circuit) (vars : List Var) (ps : List (List ℕ)) (terms : List Terms) (products : List ℕ) (rows : List (Vec ℕ Global)) (uses : List ℕ) : Type 0 where
  pub gadget : IsGadget g
  pub variables : variables_of vars ≡ g.variables
  pub every : length ps ≡ length g.variables
  pub polynomials : ArePolynomials g ps
  pub terms_of : AllZip (AreTermsOf g) ps terms
  pub rising : IsStrictlyIncreasing products
  pub no_others : (set : ℕ) → Contains products set → Contains (products_of terms) set
  pub rows_of : AllZip (λ t row. IsShareRow products t.products.items row.items) terms rows
  pub uses_of : uses ≡ map (uses_among vars) (range_with_len 0 (length vars))

-- some element of a list that has one
some_of : {X : Type 0} (xs : List X) (i : ℕ) → i < length xs → X
some_of [] i l = absurd (omega arith)
some_of (x ∷ xs) i l = x

-- the products of the terms of polynomials are products of input shares
pub all_share_products : (g : Circuit) (ps : List (List ℕ)) (terms : List Terms) → AllZip (AreTermsOf g) ps terms → (set : ℕ) → Contains (products_of terms) set →
    IsShareProduct g set
all_share_products g ps terms zip set among =
    let f : Terms → List ℕ = λ t. t.products.items in
    let r = Contains-from_flat_map f terms set among in
    let n = length-all_zip (AreTermsOf g) ps terms zip in
    let P : Terms → Type 0 = λ t. AreTermsOf g (get_or ps r.1.0 []) t in
    let sum = subst P r.1.2 (AllZip-at (AreTermsOf g) ps terms r.1.0 [] r.0 zip (omega (arith, r.1.1))) in
    All-contains (IsShareProduct g) (f r.0) set sum.products_exist r.2

-- the products that are kept have those of each variable
pub all_among : (terms : List Terms) (products : List ℕ) → ((set : ℕ) → Contains (products_of terms) set → Contains products set) →
    All (λ t. All (Contains products) t.products.items) terms
all_among terms products all i d l j e m =
    let f : Terms → List ℕ = λ t. t.products.items in
    let t = get_or terms i d in
    all (get_or (f t) j e) (Contains-flat_map f terms t (get_or (f t) j e) (Contains-get_or terms i d l) (Contains-get_or (f t) j e m))

pub few_from_terms : (g : Circuit) → IsGadget g → (ps : List (List ℕ)) (terms : List Terms) (products : List ℕ) → AllZip (AreTermsOf g) ps terms →
    IsStrictlyIncreasing products → ((set : ℕ) → Contains products set → Contains (products_of terms) set) → length products ≤ most_products
few_from_terms g good ps terms products zip up within =
    few_products g good products up (λ i d l. all_share_products g ps terms zip (get_or products i d) (within (get_or products i d) (Contains-get_or products i d l)))

-- the table of some parts
abbrev pub made : List Terms → List ℕ → List (Vec ℕ Global) → List ℕ → Table
made terms products rows uses = record {
  random_rows = map (λ t. t.randoms) terms;
  share_rows = map (λ row. row.items) rows;
  products = products;
  uses = uses;
}

-- what is known of the rows, for each of them
share_row_at : (products : List ℕ) (terms : List Terms) (rows : List (Vec ℕ Global)) → AllZip (λ t row. IsShareRow products t.products.items row.items) terms rows →
    (v : ℕ) (t : Terms) (row : Vec ℕ Global) → v < length terms → IsShareRow products (get_or terms v t).products.items (get_or rows v row).items
share_row_at products terms rows zip v t row l =
    let R : Terms → Vec ℕ Global → Type 0 = λ t row. IsShareRow products t.products.items row.items in
    AllZip-at R terms rows v t row zip l

all_rows : (products : List ℕ) (terms : List Terms) (rows : List (Vec ℕ Global)) → AllZip (λ t row. IsShareRow products t.products.items row.items) terms rows →
    (P : List ℕ → Type 0) → ((sets row : List ℕ) → IsShareRow products sets row → P row) → All P (map (λ row. row.items) rows)
all_rows products terms rows zip P holds =
    let R : Terms → Vec ℕ Global → Type 0 = λ t row. IsShareRow products t.products.items row.items in
    let n = length-all_zip R terms rows zip in
    let f : Vec ℕ Global → List ℕ = λ row. row.items in
    All-map P f rows (λ v row l.
    let t = some_of terms v (omega arith) in
    holds (get_or terms v t).products.items (f (get_or rows v row)) (share_row_at products terms rows zip v t row (omega arith)))

all_randoms : (g : Circuit) (ps : List (List ℕ)) (terms : List Terms) → AllZip (AreTermsOf g) ps terms → All (λ row. row < 2 ^ g.randoms) (map (λ t. t.randoms) terms)
all_randoms g ps terms zip =
    let P : ℕ → Type 0 = λ row. row < 2 ^ g.randoms in
    let f : Terms → ℕ = λ t. t.randoms in
    let n = length-all_zip (AreTermsOf g) ps terms zip in
    All-map P f terms (λ v t l. (AllZip-at (AreTermsOf g) ps terms v [] t zip (omega arith)).randoms_exist)

share_products : (g : Circuit) (vars : List Var) (ps : List (List ℕ)) (terms : List Terms) (products : List ℕ) (rows : List (Vec ℕ Global)) (uses : List ℕ) →
    Parts g vars ps terms products rows uses → All (IsShareProduct g) products
share_products g vars ps terms products rows uses parts i d l =
    all_share_products g ps terms parts.terms_of (get_or products i d) (parts.no_others (get_or products i d) (Contains-get_or products i d l))

-- how many rows there are
row_counts : (g : Circuit) (vars : List Var) (ps : List (List ℕ)) (terms : List Terms) (products : List ℕ) (rows : List (Vec ℕ Global)) (uses : List ℕ) →
    Parts g vars ps terms products rows uses → (length (map (λ t. t.randoms) terms) ≡ length g.variables) × (length (map (λ row. row.items) rows) ≡ length g.variables) × (length uses ≡ length g.variables)
row_counts g vars ps terms products rows uses parts =
    let R : Terms → Vec ℕ Global → Type 0 = λ t row. IsShareRow products t.products.items row.items in
    let f : Terms → ℕ = λ t. t.randoms in
    let h : Vec ℕ Global → List ℕ = λ row. row.items in
    let zip = length-all_zip (AreTermsOf g) ps terms parts.terms_of in
    let every = parts.every in (
      length-map terms f ∙ sym zip ∙ every,
      length-map rows h ∙ sym (length-all_zip R terms rows parts.rows_of) ∙ sym zip ∙ every,
      ap (λ (us : List ℕ). length us) parts.uses_of ∙ length-map-range_with_len (uses_among vars) 0 (length vars) ∙ length-variables_of g vars parts.variables,
    )

-- the parts make a table
pub IsTable-made : (g : Circuit) (vars : List Var) (ps : List (List ℕ)) (terms : List Terms) (products : List ℕ) (rows : List (Vec ℕ Global)) (uses : List ℕ) →
    Parts g vars ps terms products rows uses → IsTable (made terms products rows uses)
IsTable-made g vars ps terms products rows uses parts =
    let n = row_counts g vars ps terms products rows uses parts in
    let few = parts.gadget.few_variables in
    let a = n.0 in
    let b = n.1 in
    let c = n.2 in
    record {
      few_variables = omega arith;
      every_share_row = b ∙ sym a;
      every_use = c ∙ sym a;
      few_products = few_from_terms g parts.gadget ps terms products parts.terms_of parts.rising parts.no_others;
      words = all_rows products terms rows parts.rows_of (λ row. length row ≡ words_for (length products)) (λ sets row good. good.words);
      small_products = λ i d l. product_below g parts.gadget (get_or products i d) (share_products g vars ps terms products rows uses parts i d l);
    }

-- the rows of a variable sum to its value
value-made : (g : Circuit) (vars : List Var) (ps : List (List ℕ)) (terms : List Terms) (products : List ℕ) (rows : List (Vec ℕ Global)) (uses : List ℕ) →
    Parts g vars ps terms products rows uses → (v : ℕ) → v < length g.variables → (x : ℕ → Bool) (r : List Bool) →
    value g x r v ≡ add (shares_value (made terms products rows uses) v x) (randoms_value (made terms products rows uses) g.randoms v r)
value-made g vars ps terms products rows uses parts v l x r =
    let R : Terms → Vec ℕ Global → Type 0 = λ t row. IsShareRow products t.products.items row.items in
    let f : Terms → ℕ = λ t. t.randoms in
    let h : Vec ℕ Global → List ℕ = λ row. row.items in
    let n = length g.variables in
    let zip = length-all_zip (AreTermsOf g) ps terms parts.terms_of in
    let zip' = length-all_zip R terms rows parts.rows_of in
    let every = parts.every in
    let t = some_of terms v (omega arith) in
    let w = some_of rows v (omega arith) in
    let p = polynomial_at ps v in
    let same = (parts.polynomials v (omega arith)).same in
    let sum = AllZip-at (AreTermsOf g) ps terms v [] t parts.terms_of (omega arith) in
    let row = share_row_at products terms rows parts.rows_of v t w (omega arith) in
    let table = made terms products rows uses in
    value-polynomial g parts.gadget.in_order x r v l
    ∙ sym (polynomial_value-same n p (polynomial g v) (value g x r) same.once (once-polynomial g v) same.same)
    ∙ sum.values x r
    ∙ ap (λ (b : Bool). add b (set_sum g.randoms (get_or terms v t).randoms (random_at r)))
    (sym (row.values x) ∙ ap (λ (bits : List ℕ). chosen_sum (row_bits (length products) bits) (product_values products x)) (sym (get_or-map h rows v w [] (omega arith))))
    ∙ ap (λ (set : ℕ). add (shares_value table v x) (set_sum g.randoms set (random_at r))) (sym (get_or-map f terms v t 0 (omega arith)))

-- the uses that are counted are those of the gadget
uses-made : (g : Circuit) (vars : List Var) (uses : List ℕ) → variables_of vars ≡ g.variables →
    uses ≡ map (uses_among vars) (range_with_len 0 (length vars)) →
    (v : ℕ) → v < length g.variables → get_or uses v 0 ≡ uses_of g v
unfolding uses_of
uses-made g vars uses e is v l =
    let n = length-variables_of g vars e in
    ap (λ (us : List ℕ). get_or us v 0) is
    ∙ get_or-map-range_with_len (uses_among vars) 0 (length vars) v v 0 (omega arith) (omega arith)
    ∙ ap (count_by (λ a. a == v))
    (sym (flat_map-map operands (λ (var : Var). node_of var.kind) vars) ∙ ap (flat_map operands) (nodes-variables_of g vars e))

-- the parts make a table of the gadget
pub StandsFor-made : (g : Circuit) (vars : List Var) (ps : List (List ℕ)) (terms : List Terms) (products : List ℕ) (rows : List (Vec ℕ Global)) (uses : List ℕ) →
    Parts g vars ps terms products rows uses → StandsFor (made terms products rows uses) g
StandsFor-made g vars ps terms products rows uses parts =
    let n = row_counts g vars ps terms products rows uses parts in
    record {
      every_random_row = n.0;
      every_share_row = n.1;
      every_use = n.2;
      values = λ v l x r long. value-made g vars ps terms products rows uses parts v l x r;
      randoms = all_randoms g ps terms parts.terms_of;
      places = all_rows products terms rows parts.rows_of (λ row. (j : ℕ) → length products ≤ j → has_bit row j ≡ false) (λ sets row good. good.places);
      distinct = once_from_rising products parts.rising;
      inputs = λ i d l. share_of_product g (get_or products i d) (share_products g vars ps terms products rows uses parts i d l);
      uses = uses-made g vars uses parts.variables parts.uses_of;
    }

-- the parts, where the calls took slices of the vectors
pub Parts-from_slices : (g : Circuit) (vars : List Var) (ps ps_slice : List (List ℕ)) (terms terms_slice terms_slice' : List Terms) (products products_slice : List ℕ)
    (rows : List (Vec ℕ Global)) (uses : List ℕ) → ps_slice ≡ ps → terms_slice ≡ terms → products_slice ≡ products → terms_slice' ≡ terms →
    IsGadget g → variables_of vars ≡ g.variables → length ps ≡ length g.variables → ArePolynomials g ps → AllZip (AreTermsOf g) ps_slice terms →
    IsStrictlyIncreasing products → ((set : ℕ) → Contains products set → Contains (products_of terms_slice) set) →
    AllZip (λ t row. IsShareRow products_slice t.products.items row.items) terms_slice' rows →
    uses ≡ map (uses_among vars) (range_with_len 0 (length vars)) →
    Parts g vars ps terms products rows uses
Parts-from_slices g vars ps ps_slice terms terms_slice terms_slice' products products_slice rows uses p t q t' gadget variables every polynomials zip rising no_others zip' counted =
    let P : List (List ℕ) → Type 0 = λ qs. AllZip (AreTermsOf g) qs terms in
    let T : List Terms → Type 0 = λ ts. (set : ℕ) → Contains products set → Contains (products_of ts) set in
    let Q : List ℕ → Type 0 = λ qs. AllZip (λ t row. IsShareRow qs t.products.items row.items) terms_slice' rows in
    let U : List Terms → Type 0 = λ ts. AllZip (λ t row. IsShareRow products t.products.items row.items) ts rows in
    record {
      gadget = gadget;
      variables = variables;
      every = every;
      polynomials = polynomials;
      terms_of = subst P p zip;
      rising = rising;
      no_others = subst T t no_others;
      rows_of = subst U t' (subst Q q zip');
      uses_of = counted;
    }
