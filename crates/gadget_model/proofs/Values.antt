-- The values on the wires of a gadget.
use Rattle.std.proofs.Common.{◌≡◌, ℕ, zero, suc, ◌+◌, ◌<◌, Bool, false, List, [], ◌∷◌, ◌++◌, length, ap, sym, ◌∙◌, refl, arith, subst, get_or, Some}
use Rattle.std.specs.Prelude.{slice_get}
use Rattle.std.proofs.lemmas.List.{get_or_append_left, get_or_push, length_push}
use Rattle.gadget_model.specs.Circuit.{Node, share, random, copy, sum_of, product_of, Circuit, nodes, value_of, wires_from, value, NamesEarlier, IsInOrder}

-- a node's value depends on those of its operands alone
pub value_of-agree : (x : ℕ → Bool) (r : List Bool) (randoms n : ℕ) (e e' : ℕ → Bool) (v : Node) → NamesEarlier randoms n v →
    ((k : ℕ) → k < n → e k ≡ e' k) → value_of x r e v ≡ value_of x r e' v
value_of-agree x r randoms n e e' (share k) h same = refl
value_of-agree x r randoms n e e' (random k) h same = refl
value_of-agree x r randoms n e e' (copy a) h same = same a h
value_of-agree x r randoms n e e' (sum_of a b) h same = let p = same a h.0 in let q = same b h.1 in cc
value_of-agree x r randoms n e e' (product_of a b) h same = let p = same a h.0 in let q = same b h.1 in cc

-- what a node gives depends on what its operands have, and on its number
abbrev pub DependsOnOperands : {A : Type 0} → ℕ → ((ℕ → A) → ℕ → Node → A) → Type 0
DependsOnOperands {A} randoms give = (n : ℕ) (e e' : ℕ → A) (v : Node) → NamesEarlier randoms n v → ((k : ℕ) → k < n → e k ≡ e' k) → give e n v ≡ give e' n v

-- later wires leave what earlier ones have
wires_from-front : {A : Type 0} (none : A) (give : (ℕ → A) → ℕ → Node → A) (done : List A) (vs : List Node) (k : ℕ) → k < length done →
    get_or (wires_from none give done vs) k none ≡ get_or done k none
wires_from-front none give done [] k h = refl
wires_from-front none give done (v ∷ vs) k h =
    let b = give (λ k. get_or done k none) (length done) v in
    let l = length_push done b in
    wires_from-front none give (done ++ b ∷ []) vs k (omega arith) ∙ get_or_append_left done (b ∷ []) none k h

wires_from-at : {A : Type 0} (none : A) (give : (ℕ → A) → ℕ → Node → A) (randoms : ℕ) → DependsOnOperands randoms give →
    (done : List A) (vs : List Node) (j : ℕ) (v : Node) → slice_get vs j ≡ Some v → NamesEarlier randoms (length done + j) v →
    get_or (wires_from none give done vs) (length done + j) none ≡ give (λ k. get_or (wires_from none give done vs) k none) (length done + j) v
wires_from-at none give randoms depends done [] j v e h = cc
wires_from-at {A} none give randoms depends done (w ∷ vs) zero v e h =
    let b = give (λ k. get_or done k none) (length done) w in
    let l = length_push done b in
    let z : length done + 0 ≡ length done = omega arith in
    let at : get_or (wires_from none give (done ++ b ∷ []) vs) (length done + 0) none ≡ b =
    ap (λ (k : ℕ). get_or (wires_from none give (done ++ b ∷ []) vs) k none) z
    ∙ wires_from-front none give (done ++ b ∷ []) vs (length done) (omega arith)
    ∙ get_or_push done b none (length done) refl in
    let same : w ≡ v = cc in
    at ∙ ap (λ (n : ℕ). give (λ k. get_or done k none) n w) (sym z)
    ∙ ap (give (λ k. get_or done k none) (length done + 0)) same
    ∙ depends (length done + 0) (λ k. get_or done k none) (λ k. get_or (wires_from none give (done ++ b ∷ []) vs) k none) v h
    (λ k less. sym (wires_from-front none give (done ++ b ∷ []) vs k (omega arith) ∙ get_or_append_left done (b ∷ []) none k (omega arith)))
wires_from-at none give randoms depends done (w ∷ vs) (suc j) v e h =
    let b = give (λ k. get_or done k none) (length done) w in
    let l = length_push done b in
    let z : length (done ++ b ∷ []) + j ≡ length done + suc j = omega arith in
    let P : ℕ → Type 0 = λ n. NamesEarlier randoms n v in
    let all = wires_from none give (done ++ b ∷ []) vs in
    let Q : ℕ → Type 0 = λ n. get_or all n none ≡ give (λ k. get_or all k none) n v in
    subst Q z (wires_from-at none give randoms depends (done ++ b ∷ []) vs j v e (subst P (sym z) h))

-- what a wire has is what its node gives from what the wires have
pub wires_from-node : {A : Type 0} (none : A) (give : (ℕ → A) → ℕ → Node → A) (g : Circuit) → IsInOrder g → DependsOnOperands g.randoms give →
    (k : ℕ) (v : Node) → slice_get (nodes g) k ≡ Some v →
    get_or (wires_from none give [] (nodes g)) k none ≡ give (λ j. get_or (wires_from none give [] (nodes g)) j none) k v
wires_from-node none give g ordered depends k v e =
    let z : 0 + k ≡ k = omega arith in
    let all = wires_from none give [] (nodes g) in
    let P : ℕ → Type 0 = λ n. NamesEarlier g.randoms n v in
    let Q : ℕ → Type 0 = λ n. get_or all n none ≡ give (λ j. get_or all j none) n v in
    subst Q z (wires_from-at none give g.randoms depends [] (nodes g) k v e (subst P (sym z) (ordered k v e)))

-- the value of a wire is what its node gives from the values of the wires
pub value-node : (g : Circuit) → IsInOrder g → (x : ℕ → Bool) (r : List Bool) (k : ℕ) (v : Node) → slice_get (nodes g) k ≡ Some v →
    value g x r k ≡ value_of x r (value g x r) v
unfolding value
value-node g ordered x r k v e =
    wires_from-node false (λ earlier number node. value_of x r earlier node) g ordered (λ n e e' v h same. value_of-agree x r g.randoms n e e' v h same) k v e

-- a node gives the same value at two inputs that agree on its share, if it is one
value_of-same : (x x' : ℕ → Bool) (r : List Bool) (e : ℕ → Bool) (v : Node) → ((k : ℕ) → v ≡ share k → x k ≡ x' k) → value_of x r e v ≡ value_of x' r e v
value_of-same x x' r e (share k) same = same k refl
value_of-same x x' r e (random k) same = refl
value_of-same x x' r e (copy a) same = refl
value_of-same x x' r e (sum_of a b) same = refl
value_of-same x x' r e (product_of a b) same = refl

-- two inputs that agree on each share that stands among the nodes
values-same : (x x' : ℕ → Bool) (r : List Bool) (done : List Bool) (vs : List Node) →
    ((j k : ℕ) → slice_get vs j ≡ Some (share k) → x k ≡ x' k) →
    wires_from false (λ earlier number node. value_of x r earlier node) done vs ≡ wires_from false (λ earlier number node. value_of x' r earlier node) done vs
values-same x x' r done [] same = refl
values-same x x' r done (v ∷ vs) same =
    let e = λ (k : ℕ). get_or done k false in
    ap (λ (b : Bool). wires_from false (λ earlier number node. value_of x r earlier node) (done ++ b ∷ []) vs)
    (value_of-same x x' r e v (λ k h. same 0 k (ap (λ (z : Node). Some z) h)))
    ∙ values-same x x' r (done ++ value_of x' r e v ∷ []) vs (λ j k h. same (suc j) k h)

pub value-same : (g : Circuit) (x x' : ℕ → Bool) (r : List Bool) (v : ℕ) →
    ((j k : ℕ) → slice_get (nodes g) j ≡ Some (share k) → x k ≡ x' k) → value g x r v ≡ value g x' r v
unfolding value
value-same g x x' r v same = ap (λ (bs : List Bool). get_or bs v false) (values-same x x' r [] (nodes g) same)

-- one more element keeps a fact of each element and of the default
each-push : {A : Type 0} (P : A → Type 0) (none b : A) (done : List A) → P none → P b → ((k : ℕ) → P (get_or done k none)) →
    (k : ℕ) → P (get_or (done ++ b ∷ []) k none)
each-push P none b [] default new each zero = new
each-push P none b [] default new each (suc k) = default
each-push P none b (d ∷ done) default new each zero = each 0
each-push P none b (d ∷ done) default new each (suc k) = each-push P none b done default new (λ j. each (suc j)) k

-- a fact that each node keeps holds of each wire
pub wires_from-each : {A : Type 0} (P : A → Type 0) (none : A) (give : (ℕ → A) → ℕ → Node → A) → P none →
    ((earlier : ℕ → A) (n : ℕ) (v : Node) → ((k : ℕ) → P (earlier k)) → P (give earlier n v)) →
    (done : List A) (vs : List Node) → ((k : ℕ) → P (get_or done k none)) → (k : ℕ) → P (get_or (wires_from none give done vs) k none)
wires_from-each P none give default keeps done [] each k = each k
wires_from-each P none give default keeps done (v ∷ vs) each k =
    let b = give (λ k. get_or done k none) (length done) v in
    wires_from-each P none give default keeps (done ++ b ∷ []) vs
    (each-push P none b done default (keeps (λ k. get_or done k none) (length done) v each) each) k

-- there are as many wires as nodes
pub length-wires_from : {A : Type 0} (none : A) (give : (ℕ → A) → ℕ → Node → A) (done : List A) (vs : List Node) →
    length (wires_from none give done vs) ≡ length done + length vs
length-wires_from none give done [] = omega arith
length-wires_from none give done (v ∷ vs) =
    let b = give (λ k. get_or done k none) (length done) v in
    let l = length_push done b in
    let i = length-wires_from none give (done ++ b ∷ []) vs in
    omega arith
