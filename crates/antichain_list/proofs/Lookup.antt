-- The first subset of a tuple in a list is that with the least of the codes of all subsets that the list has.
use Rattle.std.proofs.Common.{◌≡◌, ◌↔◌, ℕ, ◌^◌, ◌<◌, ◌≤◌, Bool, true, false, IsTrue, List, map, length, length-take-le, take, get_or, Some, None, IfSome, IfNone, refl, ap, sym, ◌∙◌, inl, inr, arith, subst, Contains}
use Rattle.std.specs.Bool.{then_some}
use Rattle.std.proofs.lemmas.Bool.{cases_lt}
use Rattle.std.proofs.lemmas.List.{get_or_default, get_or-take}
use Rattle.std.proofs.lemmas.List.Elements.{All-contains}
use Rattle.list_laws.proofs.Members.{Contains-map}
use Rattle.tuple_model.specs.Limits.{most_items, most_size}
use Rattle.tuple_model.specs.Tuples.{IsTuple, IsSubset, subset}
use Rattle.tuple_model.specs.Antichains.{Covers}
use Rattle.tuple_model.proofs.Subsets.{IsTuple-subset, member-from_subset, subset-from_members, subset-proper}
use Rattle.tuple_model.proofs.Antichains.{proper_or_equal}
use Rattle.tuple_order.specs.Codes.{code_of, tuple_of_code, size_of_code}
use Rattle.tuple_order.proofs.Codes.{tuple_of_code-code_of, IsBefore-from_code_of, code_of-size, code_of-small, code_of-large}
use Rattle.antichain_list.specs.Held.{IsCode, AreCodes, IsLeastOfBoth}
use Rattle.antichain_list.specs.Lists.{IsFirstSubset}
use Rattle.antichain_list.proofs.Coded.{code-from_member, member-from_code, IsNonDecreasing-from_codes}

-- the codes of all subsets, each at its number
pub record AreSubsetCodes (t codes : List ℕ) : Type 0 where
  pub long : length codes ≡ 2 ^ length t
  pub each : (k : ℕ) → k < 2 ^ length t → get_or codes k 0 ≡ code_of (subset k t)

pub AreSubsetCodes-take : (t all : List ℕ) (count : ℕ) → count ≡ 2 ^ length t → count ≤ length all → ((k : ℕ) → k < 2 ^ length t → get_or all k 0 ≡ code_of (subset k t)) →
    AreSubsetCodes t (take count all)
AreSubsetCodes-take t all count e l h = record {
  long = length-take-le count all l ∙ e;
  each = λ k less. get_or-take count all k 0 (omega arith) ∙ h k less;
}

module _ (codes t all : List ℕ) (held : AreCodes codes) (fits : IsTuple most_items most_size t) (subsets : AreSubsetCodes t all) where
  -- the code of each subset is there
  subset_there : (s : List ℕ) → IsTuple most_items most_size s → IsSubset s t → Contains all (code_of s)
  subset_there s h has =
      let r = subset-from_members 0 most_items t s fits.rising h.rising has in
      let l : r.0 < length all = let n = subsets.long in let m = r.1 in omega arith in
      let e : get_or all r.0 0 ≡ code_of s = subsets.each r.0 r.1 ∙ ap code_of r.2 in
      (r.0, l, get_or_default all r.0 (code_of s) 0 l ∙ e)

  -- and no other is
  subset_from_code : (code : ℕ) → Contains all code → IsSubset (tuple_of_code code) t
  subset_from_code code k =
      let l : k.0 < 2 ^ length t = let n = subsets.long in let m = k.1 in omega arith in
      let e : code ≡ code_of (subset k.0 t) = sym k.2 ∙ get_or_default all k.0 code 0 k.1 ∙ subsets.each k.0 l in
      let f : tuple_of_code code ≡ subset k.0 t = ap tuple_of_code e ∙ tuple_of_code-code_of (subset k.0 t) (IsTuple-subset most_items most_size k.0 t fits) in
      let P : List ℕ → Type 0 = λ s. IsSubset s t in
      subst P (sym f) (member-from_subset k.0 t)

  member_tuple : (s : List ℕ) → Contains (map tuple_of_code codes) s → IsTuple most_items most_size s
  member_tuple s k = All-contains (IsTuple most_items most_size) (map tuple_of_code codes) s held.antichain.tuples k

  pub IsFirstSubset-from_least : (least : ℕ) → IsLeastOfBoth codes all (Some least) → IsFirstSubset (map tuple_of_code codes) t (tuple_of_code least)
  IsFirstSubset-from_least least h = record {
    member = Contains-map tuple_of_code codes least h.0;
    subset = subset_from_code least h.1;
    first = λ other k has.
        let g = member_tuple other k in
        let c = All-contains IsCode codes least held.coded h.0 in
        let l : least ≤ code_of other = h.2 (code_of other) (code-from_member codes other held.coded k) (subset_there other g has) in
        elim (cases_lt least (code_of other)) [
          | inl less ↦ inr (IsBefore-from_code_of (tuple_of_code least) other c.tuple g (let e = c.same in omega arith))
          | inr most ↦ let e : code_of other ≡ least = omega arith in inl (sym (tuple_of_code-code_of other g) ∙ ap tuple_of_code e)
        ];
  }

  pub uncovered-from_none : IsLeastOfBoth codes all None → Covers (map tuple_of_code codes) t → ⊥
  uncovered-from_none h c =
      let g = member_tuple c.0 c.1 in
      h (code_of c.0) (code-from_member codes c.0 held.coded c.1) (subset_there c.0 g c.2)

-- Of a tuple that isn't larger than the first of the list, no proper subset is there.
module _ (codes t : List ℕ) (held : AreCodes codes) (fits : IsTuple most_items most_size t) where
  first_least : (d : ℕ) (s : List ℕ) → Contains (map tuple_of_code codes) s → size_of_code (get_or codes 0 d) ≤ length s
  first_least d s k =
      let g = All-contains (IsTuple most_items most_size) (map tuple_of_code codes) s held.antichain.tuples k in
      let r = code-from_member codes s held.coded k in
      let l = IsNonDecreasing-from_codes codes held 0 r.0 d (omega arith) r.1 in
      let e : get_or codes r.0 d ≡ code_of s = get_or_default codes r.0 d (code_of s) r.1 ∙ r.2 in
      let c = held.coded 0 d (let m = r.1 in omega arith) in
      let low = code_of-large (tuple_of_code (get_or codes 0 d)) in
      let same = c.same in
      let high = code_of-small s g in
      let size = code_of-size s g in
      omega arith

  pub only_itself : (d : ℕ) → length t ≤ size_of_code (get_or codes 0 d) → (s : List ℕ) → Contains (map tuple_of_code codes) s → IsSubset s t → s ≡ t
  only_itself d l s k has =
      let g = All-contains (IsTuple most_items most_size) (map tuple_of_code codes) s held.antichain.tuples k in
      elim (proper_or_equal most_items s t g.rising fits.rising has) [
        | inl e ↦ e
        | inr r ↦
            let smaller = subset-proper r.0 t r.1 in
            let e = ap (λ (u : List ℕ). length u) r.2 in
            let m = first_least d s k in
            absurd (omega arith)
      ]

  pub first-itself : (there : Bool) → IsTrue there ↔ Contains codes (code_of t) → IfSome (then_some there t) (λ s. IsFirstSubset (map tuple_of_code codes) t s)
  first-itself true h =
      let k = member-from_code codes t fits (h.0 refl) in
      record { member = k; subset = λ item m. m; first = λ other l has. inl (held.antichain.apart other t l k has) }
  first-itself false h = tt

  pub none-itself : (d : ℕ) → length t ≤ size_of_code (get_or codes 0 d) → (there : Bool) → IsTrue there ↔ Contains codes (code_of t) →
      IfNone (then_some there t) (Covers (map tuple_of_code codes) t → ⊥)
  none-itself d l true h = tt
  none-itself d l false h = λ c.
      let P : List ℕ → Type 0 = λ s. Contains (map tuple_of_code codes) s in
      let e = h.1 (code-from_member codes t held.coded (subst P (only_itself d l c.0 c.1 c.2) c.1)) in
      cc
