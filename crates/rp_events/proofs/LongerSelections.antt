-- Selections that are made longer from the left.
use Rattle.std.proofs.Common.{◌≡◌, ℕ, List, [], ◌∷◌, ◌++◌, map, refl, ap, sym, ◌∙◌, append_assoc, append-nil, ◌+◌, ◌<◌, ◌≤◌, length, take, drop, get_or, arith, drop_of_length-le}
use Rattle.std.specs.Prelude.{flat_map}
use Rattle.std.proofs.lemmas.List.{map-append, map-id}
use Rattle.std.proofs.lemmas.Grind.{flat_map-append}
use Rattle.std.specs.declared.vec.Vec.{Vec}
use Rattle.std.proofs.Math.ListN.{length-map}
use Rattle.std.proofs.lemmas.List.Folds.{flat_map-map}
use Rattle.list_laws.proofs.Counts.{map-map}
use Rattle.rp_events.specs.Events.{selections}
use Rattle.rp_events.proofs.ListSteps.{flat_map-next, drop-map-next}

-- what is selected, where these are the starts and one of each further list follows
abbrev pub from_here : {X : Type 0} → List (List X) → List (List X) → List (List X)
from_here starts lists = flat_map (λ start. map (λ rest. start ++ rest) (selections lists)) starts

start_longer : {X : Type 0} (start xs : List X) (rests : List (List X)) →
    map (λ rest. start ++ rest) (flat_map (λ x. map (λ others. x ∷ others) rests) xs)
    ≡ flat_map (λ longer. map (λ rest. longer ++ rest) rests) (map (λ x. start ++ x ∷ []) xs)
start_longer start [] rests = refl
start_longer {X} start (x ∷ xs) rests =
    let front = map (λ (others : List X). x ∷ others) rests in
    let back = flat_map (λ (x : X). map (λ (others : List X). x ∷ others) rests) xs in
    map-append (λ (rest : List X). start ++ rest) front back
    ∙ ap (λ (ys : List (List X)). ys ++ map (λ (rest : List X). start ++ rest) back)
    (map-map (λ (rest : List X). start ++ rest) (λ (others : List X). x ∷ others) (λ (rest : List X). (start ++ x ∷ []) ++ rest)
    (λ rest. sym (append_assoc start (x ∷ []) rest)) rests)
    ∙ ap (λ (ys : List (List X)). map (λ (rest : List X). (start ++ x ∷ []) ++ rest) rests ++ ys) (start_longer start xs rests)

-- the next list is taken into the starts
pub from_here-next : {X : Type 0} (starts : List (List X)) (xs : List X) (lists : List (List X)) →
    from_here starts (xs ∷ lists) ≡ from_here (flat_map (λ start. map (λ x. start ++ x ∷ []) xs) starts) lists
from_here-next [] xs lists = refl
from_here-next {X} (start ∷ starts) xs lists =
    let longer = λ (start : List X). map (λ (x : X). start ++ x ∷ []) xs in
    let go = λ (start : List X). map (λ (rest : List X). start ++ rest) (selections lists) in
    ap (λ (ys : List (List X)). ys ++ from_here starts (xs ∷ lists)) (start_longer start xs (selections lists))
    ∙ ap (λ (ys : List (List X)). flat_map go (longer start) ++ ys) (from_here-next starts xs lists)
    ∙ sym (flat_map-append go (longer start) (flat_map longer starts))

pub from_here-end : {X : Type 0} (starts : List (List X)) → from_here starts [] ≡ starts
from_here-end [] = refl
from_here-end {X} (start ∷ starts) =
    let e = append-nil start in
    let i = from_here-end starts in
    ap (λ (xs : List X). xs ∷ from_here starts []) e ∙ ap (λ (ys : List (List X)). start ∷ ys) i

pub from_here-start : {X : Type 0} (lists : List (List X)) → from_here ([] ∷ []) lists ≡ selections lists
from_here-start {X} lists = append-nil (map (λ (rest : List X). rest) (selections lists)) ∙ map-id (selections lists)

-- a list with one element more, in all ways
abbrev pub each_longer : {T : Type 0} → List T → List T → List (List T)
each_longer more list = map (λ x. list ++ x ∷ []) more

module _ {T Z : Type 0} (more : List T) where
  pub longer_next : (lists : List (Vec T Z)) (i : ℕ) (one : Vec T Z) (list : List T) (before after : List (List T)) → i < length lists → one ≡ get_or lists i one →
      list ≡ one.items → before ≡ flat_map (λ v. each_longer more v.items) (take i lists) → after ≡ before ++ each_longer more list →
      after ≡ flat_map (λ v. each_longer more v.items) (take (i + 1) lists)
  longer_next lists i one list before after l e v b a =
      a ∙ ap (λ (ys : List (List T)). ys ++ each_longer more list) b
      ∙ ap (λ (ys : List T). flat_map (λ v. each_longer more v.items) (take i lists) ++ each_longer more ys) v
      ∙ sym (flat_map-next (λ (v : Vec T Z). each_longer more v.items) lists i one l e)

pub one_start : {T Z : Type 0} (none all : List (Vec T Z)) (first : Vec T Z) → none ≡ [] → first.items ≡ [] → all ≡ none ++ first ∷ [] → map (λ v. v.items) all ≡ [] ∷ []
one_start {T} {Z} none all first n f a =
    ap (map (λ (v : Vec T Z). v.items)) (a ∙ ap (λ (vs : List (Vec T Z)). vs ++ first ∷ []) n) ∙ ap (λ (xs : List T). xs ∷ []) f

module _ {T L : Type 0} (now : L → List T) (lists : List L) where
  pub select_start : (starts : List (List T)) → starts ≡ [] ∷ [] → from_here starts (map now lists) ≡ selections (map now lists)
  select_start starts e = ap (λ (s : List (List T)). from_here s (map now lists)) e ∙ from_here-start (map now lists)

  pub select_next : {Z : Type 0} (i : ℕ) (one : L) (vecs held : List (Vec T Z)) (more : List T) (after whole : List (List T)) → i < length lists → one ≡ get_or lists i one →
      held ≡ vecs → more ≡ now one → after ≡ flat_map (λ v. each_longer more v.items) held →
      from_here (map (λ v. v.items) vecs) (drop i (map now lists)) ≡ whole → from_here after (drop (i + 1) (map now lists)) ≡ whole
  select_next {Z} i one vecs held more after whole l e h m a known =
      let rest = drop (i + 1) (map now lists) in
      let starts = map (λ (v : Vec T Z). v.items) vecs in
      let made : after ≡ flat_map (each_longer (now one)) starts =
      a ∙ ap (λ (vs : List (Vec T Z)). flat_map (λ v. each_longer more v.items) vs) h
      ∙ ap (λ (xs : List T). flat_map (λ v. each_longer xs v.items) vecs) m
      ∙ sym (flat_map-map (each_longer (now one)) (λ (v : Vec T Z). v.items) vecs) in
      ap (λ (s : List (List T)). from_here s rest) made
      ∙ sym (from_here-next starts (now one) rest)
      ∙ ap (from_here starts) (sym (drop-map-next now lists i one l e)) ∙ known

  pub select_end : (i : ℕ) (starts whole : List (List T)) → length lists ≤ i → from_here starts (drop i (map now lists)) ≡ whole → starts ≡ whole
  select_end i starts whole l known =
      sym (from_here-end starts)
      ∙ ap (from_here starts) (sym (drop_of_length-le (map now lists) {i = i} (omega (arith, length-map lists now)))) ∙ known
