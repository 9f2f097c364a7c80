-- What follows a result.
use Rattle.std.proofs.Common.{◌≡◌, Result, Ok, Err, sym, ◌∙◌, refl, subst}
use Rattle.gadget_text.specs.declared.file_error.FileError.{FileError}
use Rattle.gadget_tree.specs.File.{Follows}

-- where at most one thing is said of each value, at most one follows a result
pub follows_once : {A B : Type 0} (x : Result A FileError) (Says Also : A → Type 0) (r s : Result B FileError) → ((a : A) → Says a → Also a → r ≡ s) → Follows x Says r → Follows x Also s → r ≡ s
follows_once (Ok a) Says Also r s once g h = once a g h
follows_once (Err error) Says Also r s once g h = g ∙ sym h

-- where something is said of each value, something follows a result
pub follows_some : {A B : Type 0} (x : Result A FileError) (Says : A → Result B FileError → Type 0) → ((a : A) → (r : Result B FileError) × Says a r) → (r : Result B FileError) × Follows x (λ a. Says a r) r
follows_some (Ok a) Says some = some a
follows_some (Err error) Says some = (Err error, refl)

-- where a value follows a result, the result is a value, of which it is said
pub follows_ok : {A B : Type 0} (x : Result A FileError) (Says : A → Type 0) (b : B) → Follows x Says (Ok b) → (a : A) × (x ≡ Ok a) × Says a
follows_ok (Ok a) Says b h = (a, refl, h)
follows_ok (Err error) Says b h = absurd cc

-- what is said of a value follows a result that is this value
pub follows_value : {A B : Type 0} (x : Result A FileError) (Says : A → Type 0) (r : Result B FileError) (a : A) → x ≡ Ok a → Says a → Follows x Says r
follows_value x Says r a e says = subst (λ y. Follows y Says r) (sym e) says

-- an offence follows itself
pub follows_offence : {A : Type 0} (B : Type 0) (x : Result A FileError) (Says : A → Type 0) (error : FileError) → x ≡ Err error → Follows {B = B} x Says (Err error)
follows_offence B x Says error e = let r : Result B FileError = Err error in subst (λ y. Follows y Says r) (sym e) refl
