-- One more variable of a line.
use Rattle.std.proofs.Common.{◌≡◌, ◌<◌, ◌≤◌, ◌+◌, ℕ, suc, List, [], ◌∷◌, ◌++◌, length, get_or, drop, drop-cons, map, refl, sym, ap, subst, ◌∙◌, append_assoc, append-nil, arith}
use Rattle.std.proofs.lemmas.List.{map-append, drop_all}
use Rattle.gadget_model.specs.Circuit.{Node, Variable}
use Rattle.gadget_tree.specs.declared.var.VarKind.{VarKind}
use Rattle.gadget_tree.specs.Operations.{made_variables}
use Rattle.gadget_tree.specs.Made.{names_made, name_made}
use Rattle.gadget_tree.specs.Seen.{node_of}
use Rattle.gadget_tree.specs.Variables.{names_of}
use Rattle.gadget_tree.proofs.NewNames.{AreNew, names-drop}

-- the variable that comes next
made-next : (line : ℕ) (vars now : List Variable) (name : List ℕ) (n : Node) (names : List (List ℕ)) (nodes : List Node) → now ≡ vars ++ record { name = name; node = n; line = line } ∷ [] →
    now ++ made_variables line names nodes ≡ vars ++ made_variables line (name ∷ names) (n ∷ nodes)
made-next line vars now name n names nodes e =
    ap (λ (vs : List Variable). vs ++ made_variables line names nodes) e
    ∙ append_assoc vars (record { name = name; node = n; line = line } ∷ []) (made_variables line names nodes)

-- One more variable is made, and the rest stands before it.
pub made-step : (line k : ℕ) (x : List ℕ) (kinds : List VarKind) (vars now : List Variable) (name : List ℕ) (d : VarKind) (whole : List Variable) → k < length kinds →
    now ≡ vars ++ record { name = name; node = node_of (get_or kinds k d); line = line } ∷ [] → name ≡ name_made x (length kinds) (k + 1) →
    vars ++ made_variables line (drop k (names_made x (length kinds))) (map node_of (drop k kinds)) ≡ whole →
    now ++ made_variables line (drop (k + 1) (names_made x (length kinds))) (map node_of (drop (k + 1) kinds)) ≡ whole
made-step line k x kinds vars now name d whole l e named h =
    let count = length kinds in
    let more : suc k ≡ k + 1 = omega arith in
    let left = names_made x count in
    let first : drop k kinds ≡ get_or kinds k d ∷ drop (k + 1) kinds = drop-cons kinds k d l ∙ ap (λ (i : ℕ). get_or kinds k d ∷ drop i kinds) more in
    made-next line vars now name (node_of (get_or kinds k d)) (drop (k + 1) left) (map node_of (drop (k + 1) kinds)) e
    ∙ ap (λ (n : List ℕ). vars ++ made_variables line (n ∷ drop (k + 1) left) (map node_of (get_or kinds k d ∷ drop (k + 1) kinds))) named
    ∙ ap (λ (ns : List (List ℕ)). vars ++ made_variables line ns (map node_of (get_or kinds k d ∷ drop (k + 1) kinds))) (sym (names-drop x count k l))
    ∙ ap (λ (ks : List VarKind). vars ++ made_variables line (drop k left) (map node_of ks)) (sym first) ∙ h

-- The names that are left are still new.
pub new-step : (x : List ℕ) (count k : ℕ) (vars now : List Variable) (var : Variable) → k < count → now ≡ vars ++ var ∷ [] → var.name ≡ name_made x count (k + 1) →
    AreNew (names_of vars) (drop k (names_made x count)) → AreNew (names_of now) (drop (k + 1) (names_made x count))
new-step x count k vars now var l e named h =
    let left = drop (k + 1) (names_made x count) in
    let next = subst (λ (ns : List (List ℕ)). AreNew (names_of vars) ns) (names-drop x count k l) h in
    subst (λ (ns : List (List ℕ)). AreNew ns left)
    (ap (λ (n : List ℕ). names_of vars ++ n ∷ []) (sym named) ∙ sym (ap names_of e ∙ map-append (λ (v : Variable). v.name) vars (var ∷ []))) next.1

-- At the end nothing is left to make.
made-none : (line : ℕ) (names : List (List ℕ)) → made_variables line names [] ≡ []
made-none line [] = refl
made-none line (name ∷ names) = refl

pub made-end : (line k : ℕ) (left : List (List ℕ)) (kinds : List VarKind) (vars : List Variable) (whole : List Variable) → length kinds ≤ k →
    vars ++ made_variables line left (map node_of (drop k kinds)) ≡ whole → vars ≡ whole
made-end line k left kinds vars whole l h =
    sym (append-nil vars) ∙ ap (λ (vs : List Variable). vars ++ vs) (sym (ap (λ (ks : List VarKind). made_variables line left (map node_of ks)) (drop_all k kinds l) ∙ made-none line left)) ∙ h
