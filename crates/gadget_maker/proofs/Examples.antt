-- The texts for two shares.
use Rattle.std.proofs.Common.{◌≡◌, refl, ◌++◌, codes}
use Rattle.gadget_maker.specs.Texts.{isw_text, refresh_text}

the_multiplication_of_two_shares : isw_text 2
    ≡ codes "#SHARES 2\n"
    ++ codes "#IN a b\n"
    ++ codes "#RANDOMS r01\n"
    ++ codes "#OUT c\n"
    ++ codes "p00 = a0 * b0\n"
    ++ codes "p01 = a0 * b1\n"
    ++ codes "p10 = a1 * b0\n"
    ++ codes "p11 = a1 * b1\n"
    ++ codes "u01 = r01 + p01\n"
    ++ codes "r10 = u01 + p10\n"
    ++ codes "c0 = p00 + r01\n"
    ++ codes "c1 = p11 + r10\n"
unfolding isw_text
the_multiplication_of_two_shares = refl

the_refreshing_of_two_shares : refresh_text 2
    ≡ codes "#SHARES 2\n"
    ++ codes "#IN a\n"
    ++ codes "#RANDOMS r01\n"
    ++ codes "#OUT d\n"
    ++ codes "d0 = a0 + r01\n"
    ++ codes "d1 = a1 + r01\n"
unfolding refresh_text
the_refreshing_of_two_shares = refl
