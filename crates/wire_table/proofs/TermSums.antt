-- The sum of terms, one monomial more.
use Rattle.gadget_limits.specs.Limits.{most_randoms}
use Rattle.std.proofs.Common.{◌≡◌, ℕ, ◌+◌, ◌*◌, ◌%◌, ◌^◌, ◌<◌, ◌≤◌, Bool, List, [], ◌∷◌, ◌++◌, length, take, get_or, ap, sym, ◌∙◌, subst, arith, Contains}
use Rattle.std.specs.Prelude.{bit_xor}
use Rattle.std.specs.List.Sorted.{IsStrictlyIncreasing}
use Rattle.std.proofs.lemmas.List.{map_more}
use Rattle.std.proofs.lemmas.Nat.{xor_lt, pow_pos, one_shl}
use Rattle.std.proofs.Math.Pow.{pow-lt}
use Rattle.std.proofs.lemmas.List.Elements.{All-nil, All-push}
use Rattle.smallvec.specs.SmallVec.{SmallVec}
use Rattle.list_laws.proofs.Members.{Contains-map}
use Rattle.gadget_model.specs.Bits.{add}
use Rattle.gadget_model.specs.Circuit.{Circuit, value}
use Rattle.gadget_model.specs.Polynomials.{set_product, polynomial_value}
use Rattle.gadget_model.proofs.Sums.{add-false, add-comm, add-assoc}
use Rattle.bit_lists.specs.SetSums.{set_sum}
use Rattle.bit_lists.proofs.SetSums.{set_sum-zero, set_sum-xor, set_sum-pow}
use Rattle.anf.specs.Polynomials.{set_of}
use Rattle.anf.specs.Monomials.{sets_of, AreRising}
use Rattle.wire_table.specs.declared.terms.Term.TheVariants.{Random, Product}
use Rattle.wire_table.specs.Tables.{random_at}
use Rattle.wire_table.specs.Terms.{IsShareProduct, IsFitMonomial, IsFitPolynomial, IsTermOf, SumTo}
use Rattle.wire_table.proofs.FitPolynomials.{IsFitMonomial-from_polynomial}

-- one monomial more
pub polynomial_value-push : (n : ℕ) (p : List ℕ) (m : ℕ) (bits : ℕ → Bool) → polynomial_value n (p ++ m ∷ []) bits ≡ add (polynomial_value n p bits) (set_product n m bits)
polynomial_value-push n [] m bits = add-false (set_product n m bits)
polynomial_value-push n (w ∷ p) m bits =
    ap (add (set_product n w bits)) (polynomial_value-push n p m bits) ∙ sym (add-assoc (set_product n w bits) (polynomial_value n p bits) (set_product n m bits))

pub SumTo-nil : (g : Circuit) → SumTo g [] 0 []
SumTo-nil g = record {
  randoms_exist = pow_pos g.randoms;
  products_exist = All-nil (IsShareProduct g);
  values = λ x r. sym (set_sum-zero g.randoms (random_at r));
}

-- a monomial that is a random flips that random
pub SumTo-random : (g : Circuit) (p : List ℕ) (randoms : ℕ) (products : List ℕ) (m k : ℕ) → SumTo g p randoms products → IsTermOf g m (Random k) →
    SumTo g (p ++ m ∷ []) (bit_xor randoms (2 ^ k)) products
SumTo-random g p randoms products m k sum term = record {
  randoms_exist = xor_lt g.randoms randoms (2 ^ k) sum.randoms_exist (pow-lt term.term);
  products_exist = sum.products_exist;
  values = λ x r.
      let n = length g.variables in
      let a = polynomial_value 64 products x in
      let b = set_sum g.randoms randoms (random_at r) in
      polynomial_value-push n p m (value g x r)
      ∙ ap (λ (z : Bool). add z (set_product n m (value g x r))) (sum.values x r)
      ∙ ap (add (add a b)) (term.value x r ∙ sym (set_sum-pow g.randoms k (random_at r) term.term))
      ∙ add-assoc a b (set_sum g.randoms (2 ^ k) (random_at r))
      ∙ ap (add a) (sym (set_sum-xor g.randoms randoms (2 ^ k) (random_at r)));
}

-- (a + b) + c = (a + c) + b
add-swap_last : (a b c : Bool) → add (add a b) c ≡ add (add a c) b
add-swap_last a b c = add-assoc a b c ∙ ap (add a) (add-comm b c) ∙ sym (add-assoc a c b)

-- a monomial of input shares is one product more
pub SumTo-product : (g : Circuit) (p : List ℕ) (randoms : ℕ) (products : List ℕ) (m set : ℕ) → SumTo g p randoms products → IsTermOf g m (Product set) →
    SumTo g (p ++ m ∷ []) randoms (products ++ set ∷ [])
SumTo-product g p randoms products m set sum term = record {
  randoms_exist = sum.randoms_exist;
  products_exist = All-push (IsShareProduct g) products set sum.products_exist term.term;
  values = λ x r.
      let n = length g.variables in
      let a = polynomial_value 64 products x in
      let b = set_sum g.randoms randoms (random_at r) in
      polynomial_value-push n p m (value g x r)
      ∙ ap (λ (z : Bool). add z (set_product n m (value g x r))) (sum.values x r)
      ∙ ap (add (add a b)) (term.value x r)
      ∙ add-swap_last a b (set_product 64 set x)
      ∙ ap (λ (z : Bool). add z b) (sym (polynomial_value-push 64 products set x));
}

-- the set of one monomial more
sets_of-more : (ms : List (SmallVec ℕ)) (i : ℕ) (item : SmallVec ℕ) (vs : List ℕ) → i < length ms → item ≡ get_or ms i item → vs ≡ item.items →
    sets_of (take i ms) ++ set_of vs ∷ [] ≡ sets_of (take (i + 1) ms)
sets_of-more ms i item vs l is e =
    let f : SmallVec ℕ → ℕ = λ m. set_of m.items in
    ap (λ (ws : List ℕ). sets_of (take i ms) ++ set_of ws ∷ []) e
    ∙ ap (λ (m : SmallVec ℕ). sets_of (take i ms) ++ f m ∷ []) is
    ∙ sym (map_more f ms i item l)

-- a step of the loop at a random
pub SumTo-more_random : (g : Circuit) (ms : List (SmallVec ℕ)) (i : ℕ) (item : SmallVec ℕ) (vs : List ℕ) (k randoms next : ℕ) (products same : List ℕ) →
    i < length ms → item ≡ get_or ms i item → vs ≡ item.items → SumTo g (sets_of (take i ms)) randoms products → IsTermOf g (set_of vs) (Random k) →
    g.randoms ≤ most_randoms → next ≡ bit_xor randoms ((1 * 2 ^ k) % 2 ^ 128) → same ≡ products → SumTo g (sets_of (take (i + 1) ms)) next same
SumTo-more_random g ms i item vs k randoms next products same l is e sum term few flipped kept =
    let P : List ℕ → Type 0 = λ p. SumTo g p next same in
    let Q : ℕ → Type 0 = λ n. SumTo g (sets_of (take i ms) ++ set_of vs ∷ []) n same in
    let R : List ℕ → Type 0 = λ ps. SumTo g (sets_of (take i ms) ++ set_of vs ∷ []) (bit_xor randoms (2 ^ k)) ps in
    subst P (sets_of-more ms i item vs l is e)
    (subst Q (ap (bit_xor randoms) (sym (one_shl k 128 (let t = term.term in omega arith))) ∙ sym flipped)
    (subst R (sym kept) (SumTo-random g (sets_of (take i ms)) randoms products (set_of vs) k sum term)))

-- a step of the loop at a product
pub SumTo-more_product : (g : Circuit) (ms : List (SmallVec ℕ)) (i : ℕ) (item : SmallVec ℕ) (vs : List ℕ) (set randoms same : ℕ) (products next : List ℕ) →
    i < length ms → item ≡ get_or ms i item → vs ≡ item.items → SumTo g (sets_of (take i ms)) randoms products → IsTermOf g (set_of vs) (Product set) →
    same ≡ randoms → next ≡ products ++ set ∷ [] → SumTo g (sets_of (take (i + 1) ms)) same next
SumTo-more_product g ms i item vs set randoms same products next l is e sum term kept pushed =
    let P : List ℕ → Type 0 = λ p. SumTo g p same next in
    let Q : ℕ → Type 0 = λ n. SumTo g (sets_of (take i ms) ++ set_of vs ∷ []) n next in
    let R : List ℕ → Type 0 = λ ps. SumTo g (sets_of (take i ms) ++ set_of vs ∷ []) randoms ps in
    subst P (sets_of-more ms i item vs l is e)
    (subst Q (sym kept) (subst R (sym pushed) (SumTo-product g (sets_of (take i ms)) randoms products (set_of vs) set sum term)))

-- the monomials of a polynomial that are stored are fit
pub IsFitMonomial-at : (g : Circuit) (p : List ℕ) (ms : List (SmallVec ℕ)) (i : ℕ) (item : SmallVec ℕ) (vs : List ℕ) → IsFitPolynomial g p → sets_of ms ≡ p →
    AreRising ms → i < length ms → item ≡ get_or ms i item → vs ≡ item.items → IsFitMonomial g vs
IsFitMonomial-at g p ms i item vs fit sets rising l is e =
    let f : SmallVec ℕ → ℕ = λ m. set_of m.items in
    let P : SmallVec ℕ → Type 0 = λ m. IsStrictlyIncreasing m.items in
    let Q : List ℕ → Type 0 = λ ws. IsFitMonomial g ws in
    let C : List ℕ → Type 0 = λ q. Contains q (f item) in
    let among : Contains p (f item) = subst C sets (Contains-map f ms item (i, l, sym is)) in
    subst Q (sym e) (IsFitMonomial-from_polynomial g p item.items fit among (subst P (sym is) (rising i item l)))
