-- What an insertion's answer means.
use Rattle.std.specs.Prelude.{◌≡◌, ℕ}
use Rattle.cover_core.specs.declared.state.View.{View}
use Rattle.cover_core.specs.Core.{Asked, times}
use Rattle.cover_core.specs.Effects.{Further, PassedBy, Seen}
use Rattle.claim_store.specs.Rule.{IsTight}
use Rattle.claim_store.specs.Seen.{Published}
use Rattle.claim_store.specs.declared.insert.Insert.{Insert}
use Rattle.claim_store.specs.declared.insert.Insert.TheVariants.{Kept, Already, Full}

-- Kept: the code is new among the made ones, and was seen. Already: it was seen, and none was made. Full: another code
-- was seen at each place of its path, and none was made.
abbrev pub Answers : Asked → ℕ → ℕ → View → View → Insert → Type 0
Answers a width code v w Kept = Published width v w code × (times code v.made ≡ 0) × Seen code w
Answers a width code v w Already = Further width v w × Seen code w
Answers a width code v w Full = Further width v w × PassedBy width code width w × IsTight a width
