-- Bytes that extend others.
use Rattle.std.proofs.Common.{◌≡◌, ℕ, List, ◌++◌, ap, ◌∙◌, append_assoc}
use Rattle.report.specs.Additions.{Extends}

-- bytes that extend those that already do
pub Extends-after : (old added before new : List ℕ) → before ≡ old ++ added → Extends before new → Extends old new
Extends-after old added before new e h =
    (added ++ h.0, h.1 ∙ ap (λ (bytes : List ℕ). bytes ++ h.0) e ∙ append_assoc old added h.0)
