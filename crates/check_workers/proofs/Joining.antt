-- What two passes say together.
use Rattle.std.proofs.Common.{◌≡◌, ℕ, ◌≤◌, ◌<◌, Bool, true, false, cond, ltb, List, [], refl, ap, sym, ◌∙◌, arith, subst}
use Rattle.cover_core.specs.declared.state.View.{View}
use Rattle.cover_core.specs.Core.{Asked, total_of}
use Rattle.cover_core.specs.Effects.{joins, knows, put_pairs}
use Rattle.check_workers.specs.Works.{Idle, Served}

-- two passes that are idle are one that is
idle_joined : (ranks cursor : ℕ) (v u w : View) → Idle ranks v → Idle ranks u → (joins v u).cursor ≤ cursor → cursor ≤ ranks → w ≡ knows cursor (joins v u) → Idle ranks w
idle_joined ranks cursor v u w i j low high e = subst (Idle ranks) (sym e) record {
  held = ap (λ (l : List (ℕ × ℕ)). put_pairs l v.held) j.held ∙ i.held;
  cursor = let a = i.cursor in let b = j.cursor in let l = at_least (ltb v.cursor u.cursor) ranks cursor v.cursor u.cursor a b low in omega arith;
}
  where
    at_least : (b : Bool) (ranks cursor m n : ℕ) → m ≡ ranks → n ≡ ranks → cond b n m ≤ cursor → ranks ≤ cursor
    at_least true ranks cursor m n e f l = omega arith
    at_least false ranks cursor m n e f l = omega arith

-- where neither met a full table, both are idle together
pub served_joined : (a : Asked) (width cursor : ℕ) (c : Bool) (v u w : View) → Served a width false v → Served a width c u → (joins v u).cursor ≤ cursor → cursor ≤ total_of a → w ≡ knows cursor (joins v u) → Served a width c w
served_joined a width cursor c v u w one other low high e = record {
  idle = λ z. idle_joined (total_of a) cursor v u w (one.idle refl) (other.idle z) low high e;
  full = λ z. other.full z;
}

-- where one did, that tells that the table is full
pub served_full : (a : Asked) (width : ℕ) (c : Bool) (v w : View) → c ≡ true → Served a width c v → Served a width c w
served_full a width c v w e one = record { idle = λ z. absurd (let x = sym e ∙ z in cc); full = one.full }
