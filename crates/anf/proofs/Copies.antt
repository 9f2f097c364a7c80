-- Copies of monomials: they have the same variables.
use Rattle.std.proofs.Common.{◌≡◌, ℕ, ◌<◌, ◌≤◌, List, [], ◌∷◌, length, get_or, refl, ap, sym, ◌∙◌, subst, arith}
use Rattle.std.specs.List.{All, AllPairs, AllZip}
use Rattle.std.specs.List.Sorted.{IsStrictlyIncreasing}
use Rattle.std.specs.Cmp.Lexicographic.{slice_cmp}
use Rattle.std.specs.Ordering.{nat_cmp}
use Rattle.std.specs.declared.cmp.Ordering.TheVariants.{Less}
use Rattle.std.proofs.lemmas.List.Elements.{length_all_zip, AllZip-get_or, same_from_all_zip}
use Rattle.smallvec.specs.SmallVec.{SmallVec}
use Rattle.anf.specs.Polynomials.{set_of}
use Rattle.anf.specs.Monomials.{sets_of, most_in_monomial, IsPoly, AreCopies}

-- copies are the same sets
pub sets_of-copies : (ms ws : List (SmallVec ℕ)) → AreCopies ms ws → sets_of ws ≡ sets_of ms
sets_of-copies [] [] h = refl
sets_of-copies [] (w ∷ ws) h = absurd h
sets_of-copies (m ∷ ms) [] h = absurd h
sets_of-copies (m ∷ ms) (w ∷ ws) h =
    ap (λ (vs : List ℕ). set_of vs ∷ sets_of ws) h.0 ∙ ap (λ (s : List ℕ). set_of m.items ∷ s) (sets_of-copies ms ws h.1)

-- what each monomial keeps to by its variables, its copy does
pub All-copies : (P : List ℕ → Type 0) (ms ws : List (SmallVec ℕ)) → AreCopies ms ws → All (λ (m : SmallVec ℕ). P m.items) ms → All (λ (m : SmallVec ℕ). P m.items) ws
All-copies P ms ws h all k d l =
    let m = length_all_zip (λ (m w : SmallVec ℕ). w.items ≡ m.items) ms ws h in
    subst P (sym (AllZip-get_or (λ (m w : SmallVec ℕ). w.items ≡ m.items) ms ws k d d h (omega arith))) (all k d (omega arith))

-- what each pair of monomials keeps to by their variables, their copies do
pub AllPairs-copies : (R : List ℕ → List ℕ → Type 0) (ms ws : List (SmallVec ℕ)) → AreCopies ms ws →
    AllPairs (λ (a b : SmallVec ℕ). R a.items b.items) ms → AllPairs (λ (a b : SmallVec ℕ). R a.items b.items) ws
AllPairs-copies R ms ws h all i j d l m =
    let same : (k : ℕ) → k < length ms → (get_or ws k d).items ≡ (get_or ms k d).items = λ k n. AllZip-get_or (λ (m w : SmallVec ℕ). w.items ≡ m.items) ms ws k d d h n in
    let e = length_all_zip (λ (m w : SmallVec ℕ). w.items ≡ m.items) ms ws h in
    subst (λ (v : List ℕ). R v (get_or ws j d).items) (sym (same i (omega arith)))
    (subst (R (get_or ms i d).items) (sym (same j (omega arith))) (all i j d l (omega arith)))

-- copies of the monomials of a polynomial are those of a polynomial
pub IsPoly-copies : (ms ws : List (SmallVec ℕ)) → AreCopies ms ws → IsPoly ms → IsPoly ws
IsPoly-copies ms ws h p =
    let e = length_all_zip (λ (m w : SmallVec ℕ). w.items ≡ m.items) ms ws h in
    record {
      rising = All-copies IsStrictlyIncreasing ms ws h p.rising;
      filled = All-copies (λ vs. 0 < length vs) ms ws h p.filled;
      small = All-copies (λ vs. length vs ≤ most_in_monomial) ms ws h p.small;
      sorted = AllPairs-copies (λ us vs. slice_cmp nat_cmp us vs ≡ Less) ms ws h p.sorted;
      few = let f = p.few in omega arith;
    }

-- what `clone` says of the monomials
pub AreCopies-from_clones : (C : ℕ → ℕ → Type 0) → ((x y : ℕ) → C x y → y ≡ x) → (ms ws : List (SmallVec ℕ)) →
    AllZip (λ (v w : SmallVec ℕ). AllZip C v.items w.items) ms ws → AreCopies ms ws
AreCopies-from_clones C same [] [] h = h
AreCopies-from_clones C same [] (w ∷ ws) h = h
AreCopies-from_clones C same (m ∷ ms) [] h = h
AreCopies-from_clones C same (m ∷ ms) (w ∷ ws) h = (same_from_all_zip C m.items w.items h.0 same, AreCopies-from_clones C same ms ws h.1)
