-- Lists of monomials in order.
use Rattle.std.proofs.Common.{◌≡◌, ℕ, ◌<◌, ◌≢◌, ◌≤◌, List, map, length, get_or, refl, ap, sym, ◌∙◌, subst, arith}
use Rattle.std.specs.List.{All, AllPairs}
use Rattle.std.specs.List.Sorted.{IsStrictlyIncreasing}
use Rattle.std.specs.Cmp.Lexicographic.{slice_cmp, nat_list_cmp_total}
use Rattle.std.specs.Ordering.{nat_cmp}
use Rattle.std.specs.declared.cmp.Ordering.TheVariants.{Less, Equal}
use Rattle.std.proofs.lemmas.Cmp.{tied_itself}
use Rattle.std.proofs.lemmas.List.{length-map}
use Rattle.std.proofs.lemmas.List.Elements.{All-contains, All-map}
use Rattle.std.proofs.Math.ListN.{get_or-map}
use Rattle.smallvec.specs.SmallVec.{SmallVec}
use Rattle.list_laws.proofs.Counts.{map-map}
use Rattle.list_laws.proofs.Members.{AllPairs-map, AllPairs-weaker}
use Rattle.gadget_limits.specs.Limits.{most_monomials}
use Rattle.anf.specs.Polynomials.{set_of}
use Rattle.anf.specs.Monomials.{sets_of, lists_of, AreRising, AreInOrder, IsPoly}
use Rattle.anf.specs.Keys.{key_of, HaveKey}
use Rattle.anf.specs.Reduction.{HaveRisingKeys}
use Rattle.anf.proofs.Keys.{less_from_keys}
use Rattle.anf.proofs.Sets.{same_from_sets}

-- each monomial comes before the later ones in lexicographic order
abbrev Rise : List (List ℕ) → Type 0
Rise ms = AllPairs (λ a b. slice_cmp nat_cmp a b ≡ Less) ms

-- monomials of which one is below the other are different
differ : (us vs : List ℕ) → slice_cmp nat_cmp us vs ≡ Less → us ≢ vs
differ us vs h e =
    let t = tied_itself nat_list_cmp_total vs in
    let s : slice_cmp nat_cmp us vs ≡ Equal = ap (λ (ws : List ℕ). slice_cmp nat_cmp ws vs) e ∙ t in
    cc

-- the sets of monomials in order are all different
pub once-sets : (ms : List (List ℕ)) → All IsStrictlyIncreasing ms → Rise ms → AllPairs (λ a b. a ≢ b) (map set_of ms)
once-sets ms rising sorted =
    AllPairs-map (λ a b. set_of a ≢ set_of b) (λ a b. a ≢ b) set_of (λ a b h. h) ms
    (AllPairs-weaker (λ a b. slice_cmp nat_cmp a b ≡ Less) (λ a b. set_of a ≢ set_of b) ms
    (λ a b m n less e. differ a b less (same_from_sets a b (All-contains IsStrictlyIncreasing ms a rising m) (All-contains IsStrictlyIncreasing ms b rising n) e))
    sorted)

-- monomials whose keys rise are in order
pub Rise-from_keys : (ms : List (List ℕ)) → All HaveKey ms → HaveRisingKeys ms → Rise ms
Rise-from_keys ms keys rising =
    AllPairs-weaker (λ a b. key_of a < key_of b) (λ a b. slice_cmp nat_cmp a b ≡ Less) ms
    (λ a b m n less. less_from_keys a b (All-contains HaveKey ms a keys m) (All-contains HaveKey ms b keys n) less) rising

-- so their sets are all different
pub once-from_keys : (ms : List (List ℕ)) → All HaveKey ms → HaveRisingKeys ms → AllPairs (λ a b. a ≢ b) (map set_of ms)
once-from_keys ms keys rising = once-sets ms (λ k d l. (keys k d l).rising) (Rise-from_keys ms keys rising)

-- the sets of monomials are those of their lists
pub sets-of_lists : (ms : List (SmallVec ℕ)) → map set_of (lists_of ms) ≡ sets_of ms
sets-of_lists ms = map-map set_of (λ (m : SmallVec ℕ). m.items) (λ (m : SmallVec ℕ). set_of m.items) (λ m. refl) ms

-- so those of a polynomial are all different
pub AllPairs-sets_of : (ms : List (SmallVec ℕ)) → AreRising ms → AreInOrder ms → AllPairs (λ a b. a ≢ b) (sets_of ms)
AllPairs-sets_of ms rising sorted =
    let f : SmallVec ℕ → List ℕ = λ m. m.items in
    let P : List ℕ → Type 0 = λ p. AllPairs (λ a b. a ≢ b) p in
    subst P (sets-of_lists ms)
    (once-sets (lists_of ms) (All-map IsStrictlyIncreasing f ms rising)
    (AllPairs-map (λ (a b : SmallVec ℕ). slice_cmp nat_cmp a.items b.items ≡ Less) (λ a b. slice_cmp nat_cmp a b ≡ Less) f (λ a b h. h) ms sorted))

-- the same of what a polynomial is seen as
pub once-IsPoly : (ms : List (SmallVec ℕ)) (p : List ℕ) → sets_of ms ≡ p → IsPoly ms → AllPairs (λ a b. a ≢ b) p
once-IsPoly ms p e is =
    let P : List ℕ → Type 0 = λ p. AllPairs (λ a b. a ≢ b) p in
    subst P e (AllPairs-sets_of ms is.rising is.sorted)

-- what holds of the lists of monomials holds of the monomials
All-from_lists : (P : List ℕ → Type 0) (ms : List (SmallVec ℕ)) → All P (lists_of ms) → All (λ (m : SmallVec ℕ). P m.items) ms
All-from_lists P ms all k d l =
    let f : SmallVec ℕ → List ℕ = λ m. m.items in
    subst P (get_or-map f ms k d) (all k (f d) (omega (arith, length-map ms f)))

-- and of each pair of the lists, of each pair of the monomials
AllPairs-from_lists : (R : List ℕ → List ℕ → Type 0) (ms : List (SmallVec ℕ)) → AllPairs R (lists_of ms) → AllPairs (λ (a b : SmallVec ℕ). R a.items b.items) ms
AllPairs-from_lists R ms all i j d l m =
    let f : SmallVec ℕ → List ℕ = λ m. m.items in
    subst (λ (v : List ℕ). R v (get_or ms j d).items) (get_or-map f ms i d)
    (subst (R (get_or (lists_of ms) i (f d))) (get_or-map f ms j d) (all i j (f d) l (omega (arith, length-map ms f))))

-- the monomials with keys that rise are those of a polynomial, where they are few
pub IsPoly-from_keys : (ms : List (SmallVec ℕ)) (keys : List (List ℕ)) → lists_of ms ≡ keys → All HaveKey keys → HaveRisingKeys keys → length keys ≤ most_monomials → IsPoly ms
IsPoly-from_keys ms keys e have rising few =
    let P : List (List ℕ) → Type 0 = λ ls. All HaveKey ls in
    let on_lists : All HaveKey (lists_of ms) = subst P (sym e) have in
    let in_order = subst HaveRisingKeys (sym e) rising in
    record {
      rising = λ k d l. (All-from_lists HaveKey ms on_lists k d l).rising;
      filled = λ k d l. (All-from_lists HaveKey ms on_lists k d l).some;
      small = λ k d l. (All-from_lists HaveKey ms on_lists k d l).few;
      sorted = AllPairs-from_lists (λ a b. slice_cmp nat_cmp a b ≡ Less) ms (Rise-from_keys (lists_of ms) on_lists in_order);
      few = omega (arith, ap (λ (ls : List (List ℕ)). length ls) e, length-map ms (λ (m : SmallVec ℕ). m.items), few);
    }
