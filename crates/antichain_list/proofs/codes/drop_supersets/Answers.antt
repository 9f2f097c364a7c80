use Rattle.std.proofs.Common.{◌≡◌, ℕ, List, ◌+◌, ◌-◌, ◌++◌, ◌≤◌, length, take, drop, arith, rules, subst, ap, ◌∙◌, sym, length-append, length-take-le, append_assoc}
use Rattle.std.proofs.lemmas.Slice.{overwrites}
use Rattle.std.proofs.lemmas.List.{take_at, take-append-drop, take_rest, length-drop}
use borrow.Rule.Slice.PartMut.{put_mid, post_of}
use Rattle.tuple_model.specs.Minimal.{Picks}
use Rattle.antichain_list.specs.Held.{IsNoSuperset}
use Rattle.antichain_list.proofs.codes.drop_supersets.Goals as goal

-- a list of which a part, from a place on, was written, cut after so many of the part's elements
cut : (xs ys : List ℕ) (from kept n : ℕ) → n ≡ length xs → from ≤ length xs → length ys ≡ length xs - from → kept ≤ length ys →
    take (from + kept) (take n (put_mid from (length xs - from) xs ys ++ drop (length (put_mid from (length xs - from) xs ys)) xs)) ≡ take from xs ++ take kept ys
cut xs ys from kept n e l m k =
    let w = put_mid from (length xs - from) xs ys in
    let past = post_of from (length xs - from) xs in
    let size : length w ≡ length xs = search (rules, overwrites) in
    let front = length-take-le from xs l in
    let part = length-take-le kept ys k in
    let split : w ≡ (take from xs ++ take kept ys) ++ (drop kept ys ++ past) =
    ap (λ (zs : List ℕ). take from xs ++ (zs ++ past)) (sym (take-append-drop kept ys)) ∙ simp append_assoc in
    ap (take (from + kept)) (take_at w (drop (length w) xs) n (size ∙ sym e) ∙ split)
    ∙ take_at (take from xs ++ take kept ys) (drop kept ys ++ past) (from + kept) (omega (arith, length-append (take from xs) (take kept ys)))

pub returns : goal.returns
returns c =
    let xs = c.args.codes.now.items in
    let ys = c.keep_others-kept.new.codes in
    let from = c.args.from in
    let kept = c.keep_others-kept.result in
    let d = c.deref_mut.ensures.value in
    let size = ap (λ (zs : List ℕ). length zs) d in
    let part = take_rest xs from in
    let l : from ≤ length xs = omega (arith, c.deref_mut.ensures.len) in
    let long : length ys ≡ length xs - from = rw d at c.keep_others-kept.auto.codes ∙ ap (λ (zs : List ℕ). length zs) part ∙ length-drop from xs in
    let e = rw d at c.truncate.ensures.items in
    let p = rw d at c.keep_others-kept.ensures.kept in
    let P : List ℕ → Type 0 = λ zs. Picks (IsNoSuperset c.args.t.now) zs (take kept ys) in
    (take kept ys, e ∙ cut xs ys from kept c.args.codes.now.len (sym c.deref_mut.ensures.len ∙ size) l long c.keep_others-kept.ensures.within, subst P part p)
