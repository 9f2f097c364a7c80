-- How many sets of indices there are: one step of the product formula, and a bound.
use Rattle.std.proofs.Common.{◌≡◌, ℕ, zero, suc, ◌+◌, ◌-◌, ◌*◌, ◌/◌, ◌^◌, ◌<◌, ◌≤◌, arith, mul-le-mul, pow_mono}
use Rattle.std.proofs.Math.Nat.{pow-suc}
use Rattle.std.proofs.Math.Pow.{pow_pos}
use Rattle.tuple_order.proofs.Counting.{ways, ways-next}

-- each number is in a set or not
ways-le-pow : (size room : ℕ) → ways size room ≤ 2 ^ room
ways-le-pow zero room = let p : 0 < 2 ^ room = pow_pos room in omega arith
ways-le-pow (suc size) zero = omega arith
ways-le-pow (suc size) (suc room) =
    let a = ways-le-pow size room in
    let b = ways-le-pow (suc size) room in
    let p : 2 ^ suc room ≡ 2 ^ room * 2 = pow-suc 2 room in
    omega arith

pub ways-few : (size n : ℕ) → n ≤ 16 → ways size n ≤ 65536
ways-few size n l =
    let a = ways-le-pow size n in
    let b : 2 ^ n ≤ 2 ^ 16 = pow_mono l in
    omega arith

pub product-few : (size n lacking : ℕ) → n ≤ 16 → lacking ≤ n → ways size n * lacking ≤ 1048576
product-few size n lacking l m =
    let b : ways size n * lacking ≤ 65536 * 16 = mul-le-mul (ways-few size n l) (let k : lacking ≤ 16 = omega arith in k) in
    omega arith

pub ways-step : (size n lacking : ℕ) → lacking ≡ n - size → ways size n * lacking / (size + 1) ≡ ways (size + 1) n
ways-step size n lacking e = rw e (ways-next size n)
