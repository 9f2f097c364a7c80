-- What the code selects, as what that stands for.
use Rattle.std.proofs.Common.{◌≡◌, ℕ, zero, suc, ◌<◌, ◌≤◌, List, [], ◌∷◌, ◌++◌, map, length, take, get_or, refl, ap, sym, subst, ◌∙◌, arith}
use Rattle.std.specs.Prelude.{flat_map, replicate}
use Rattle.std.specs.List.{All}
use Rattle.std.specs.declared.vec.Vec.{Vec}
use Rattle.std.proofs.Math.ListN.{length-map}
use Rattle.std.proofs.lemmas.List.{map-append, take_all}
use Rattle.std.proofs.lemmas.List.Folds.{flat_map-map}
use Rattle.std.proofs.lemmas.List.Elements.{All-nil, All-cons, All-head, All-tail, All-append, All-map, All-weaker, All-get_or, All-take}
use Rattle.gadget_tree.proofs.StepsMake.{All-from_map}
use Rattle.list_laws.proofs.Counts.{map-map}
use Rattle.rp_events.specs.Events.{selections}

map_heads : {X Y : Type 0} (f : X → Y) (rests : List (List X)) (others : List (List Y)) → map (map f) rests ≡ others → (xs : List X) →
    map (map f) (flat_map (λ x. map (λ rest. x ∷ rest) rests) xs) ≡ flat_map (λ y. map (λ rest. y ∷ rest) others) (map f xs)
map_heads f rests others h [] = refl
map_heads {X} {Y} f rests others h (x ∷ xs) =
    let both = λ (rest : List X). f x ∷ map f rest in
    let front = map (λ (rest : List X). x ∷ rest) rests in
    let back = flat_map (λ (x : X). map (λ (rest : List X). x ∷ rest) rests) xs in
    map-append (map f) front back
    ∙ ap (λ (ys : List (List Y)). ys ++ map (map f) back)
    (map-map (map f) (λ (rest : List X). x ∷ rest) both (λ rest. refl) rests
    ∙ sym (map-map (λ (rest : List Y). f x ∷ rest) (map f) both (λ rest. refl) rests)
    ∙ ap (map (λ (rest : List Y). f x ∷ rest)) h)
    ∙ ap (λ (ys : List (List Y)). map (λ (rest : List Y). f x ∷ rest) others ++ ys) (map_heads f rests others h xs)

map-selections : {X Y : Type 0} (f : X → Y) (lists : List (List X)) → map (map f) (selections lists) ≡ selections (map (map f) lists)
map-selections f [] = refl
map-selections f (xs ∷ lists) = map_heads f (selections lists) (selections (map (map f) lists)) (map-selections f lists) xs

-- what holds of each selection, where it passes from the rest of one to all of it
all_heads : {X : Type 0} (R : X → Type 0) (P Q : List X → Type 0) → ((x : X) (rest : List X) → R x → P rest → Q (x ∷ rest)) →
    (rests : List (List X)) → All P rests → (xs : List X) → All R xs → All Q (flat_map (λ x. map (λ rest. x ∷ rest) rests) xs)
all_heads R P Q step rests h [] k = All-nil Q
all_heads {X} R P Q step rests h (x ∷ xs) k =
    All-append Q (map (λ rest. x ∷ rest) rests) (flat_map (λ x. map (λ rest. x ∷ rest) rests) xs)
    (All-map Q (λ (rest : List X). x ∷ rest) rests (All-weaker P (λ rest. Q (x ∷ rest)) (λ rest p. step x rest (All-head R x xs k) p) rests h))
    (all_heads R P Q step rests h xs (All-tail R x xs k))

pub All-selections : {X : Type 0} (R : X → Type 0) (lists : List (List X)) → All (All R) lists → All (All R) (selections lists)
All-selections R [] h = All-cons (All R) [] [] (All-nil R) (All-nil (All R))
All-selections R (xs ∷ lists) h =
    all_heads R (All R) (All R) (λ x rest r p. All-cons R x rest r p) (selections lists)
    (All-selections R lists (All-tail (All R) xs lists h)) xs (All-head (All R) xs lists h)

pub lengths-selections : {X : Type 0} (lists : List (List X)) → All (λ one. length one ≡ length lists) (selections lists)
lengths-selections {X} [] = All-cons (λ (one : List X). length one ≡ 0) [] [] refl (All-nil (λ (one : List X). length one ≡ 0))
lengths-selections {X} (xs ∷ lists) =
    all_heads (λ (x : X). Unit {0}) (λ (one : List X). length one ≡ length lists) (λ (one : List X). length one ≡ suc (length lists))
    (λ x rest r p. ap suc p) (selections lists) (lengths-selections lists) xs (λ k d l. tt)

module _ {T Z : Type 0} (found : List (Vec T Z)) (lists : List (List T)) (are : map (λ v. v.items) found ≡ selections lists) where
  pub selected_has : (P : List T → Type 0) → All P (selections lists) → (i : ℕ) (one : Vec T Z) → i < length found → one ≡ get_or found i one → P one.items
  selected_has P h i one l e =
      let each = All-from_map P (λ (v : Vec T Z). v.items) found (subst (All P) (sym are) h) in
      subst (λ (v : Vec T Z). P v.items) (sym e) (All-get_or (λ (v : Vec T Z). P v.items) found i one l each)

  pub selected_makes : {Y W : Type 0} (f : T → Y) (E : List Y → List W) →
      flat_map (λ v. E (map f v.items)) found ≡ flat_map E (selections (map (map f) lists))
  selected_makes f E =
      sym (flat_map-map (λ (one : List T). E (map f one)) (λ (v : Vec T Z). v.items) found)
      ∙ ap (flat_map (λ (one : List T). E (map f one))) are
      ∙ sym (flat_map-map E (map f) (selections lists))
      ∙ ap (flat_map E) (map-selections f lists)

pub map-two : {X Y : Type 0} (f : X → Y) (x : X) (k : ℕ) → k ≤ 2 → map f (take k (x ∷ x ∷ [])) ≡ replicate k (f x)
map-two f x zero l = refl
map-two f x (suc zero) l = refl
map-two f x (suc (suc zero)) l = refl
map-two f x (suc (suc (suc k))) l = absurd (omega arith)

module _ {L T Z : Type 0} (now : L → List T) (lists : List L) (found held : List (Vec T Z)) (same : found ≡ held)
    (are : map (λ v. v.items) held ≡ selections (map now lists)) where
  found_are : map (λ v. v.items) found ≡ selections (map now lists)
  found_are = ap (map (λ (v : Vec T Z). v.items)) same ∙ are

  pub one_long : (i : ℕ) (one : Vec T Z) (items : List T) → i < length found → one ≡ get_or found i one → items ≡ one.items → length items ≡ length lists
  one_long i one items l e v =
      ap length v
      ∙ selected_has found (map now lists) found_are (λ (one : List T). length one ≡ length (map now lists)) (lengths-selections (map now lists)) i one l e
      ∙ length-map lists now

  pub one_all : (R : T → Type 0) → All (λ list. All R (now list)) lists → (i : ℕ) (one : Vec T Z) (items : List T) → i < length found → one ≡ get_or found i one → items ≡ one.items → All R items
  one_all R h i one items l e v =
      subst (All R) (sym v)
      (selected_has found (map now lists) found_are (All R) (All-selections R (map now lists) (All-map (All R) now lists h)) i one l e)

  pub all_made : {Y W : Type 0} (f : T → Y) (E : List Y → List W) (n : ℕ) → length found ≤ n →
      flat_map (λ v. E (map f v.items)) (take n found) ≡ flat_map E (selections (map (λ list. map f (now list)) lists))
  all_made f E n l =
      ap (flat_map (λ (v : Vec T Z). E (map f v.items))) (take_all n found l)
      ∙ selected_makes found (map now lists) found_are f E
      ∙ ap (λ lists. flat_map E (selections lists)) (map-map (map f) now (λ (list : L). map f (now list)) (λ list. refl) lists)

pub All-two : {X : Type 0} (P : X → Type 0) (x : X) (k : ℕ) → P x → All P (take k (x ∷ x ∷ []))
All-two P x k h = All-take P k (x ∷ x ∷ []) (All-cons P x (x ∷ []) h (All-cons P x [] h (All-nil P)))

pub length-two : {X : Type 0} (x : X) (k : ℕ) → k ≤ 2 → length (take k (x ∷ x ∷ [])) ≡ k
length-two x zero l = refl
length-two x (suc zero) l = refl
length-two x (suc (suc zero)) l = refl
length-two x (suc (suc (suc k))) l = absurd (omega arith)
