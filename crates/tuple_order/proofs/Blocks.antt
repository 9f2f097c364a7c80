-- How ranks are cut into blocks.
use Rattle.std.proofs.Common.{ℕ, suc, ◌+◌, ◌*◌, ◌<◌, ◌≤◌, ◌≡◌, arith, mul-le-mul}
use Rattle.std.specs.Int.{div_ceil}
use Rattle.std.proofs.lemmas.Grind.{div_ceil_times}

-- each block begins at one of the ranks
pub block-begins : (ranks block number : ℕ) → 0 < block → number < div_ceil ranks block → number * block < ranks
block-begins ranks block number some l =
    let a = (div_ceil_times ranks block some).1 in
    let b : suc number * block ≤ div_ceil ranks block * block = mul-le-mul (let e : suc number ≤ div_ceil ranks block = omega arith in e) (let e : block ≤ block = omega arith in e) in
    let c : suc number * block ≡ number * block + block = grind arith in
    omega arith
