-- Where a chain of steps that may offend gives a value, and where it doesn't say that memory ran out.
use Rattle.std.proofs.Common.{◌≡◌, ◌≢◌, Bool, true, false, Result, Ok, Err, refl, subst}
use Rattle.gadget_text.specs.declared.file_error.FileError.{FileError}
use Rattle.gadget_text.specs.declared.file_error.FileError.TheVariants.{OutOfMemory}
use Rattle.gadget_text.specs.Errors.{refuse, ◌>>=◌, ◌>>◌}

-- where a step that may offend gives a value, it doesn't offend, and what follows gives it
pub refuse_gives : {A : Type 0} (stands : Bool) (error : FileError) (next : Result A FileError) (a : A) → (refuse stands error >> next) ≡ Ok a → (stands ≡ false) × (next ≡ Ok a)
refuse_gives true error next a e = absurd cc
refuse_gives false error next a e = (refl, e)

-- where two steps give a value, so does the first
pub then_gives : {A B : Type 0} (r : Result A FileError) (go : A → Result B FileError) (b : B) → (r >>= go) ≡ Ok b → (a : A) × (r ≡ Ok a) × (go a ≡ Ok b)
then_gives (Ok a) go b e = (a, refl, e)
then_gives (Err error) go b e = absurd cc

-- what holds of a value holds of the value of the same result
pub at_ok : {A : Type 0} (P : A → Type 0) (a b : A) → (let r : Result A FileError = Ok a in r) ≡ Ok b → P a → P b
at_ok P a b e h = subst P (cc) h

-- a result doesn't say that memory ran out
abbrev pub IsNotOutOfMemory : {A : Type 0} → Result A FileError → Type 0
IsNotOutOfMemory {A} r = r ≡ Err OutOfMemory → ⊥

-- where neither an offence nor what follows says so
pub refuse_in_memory : {A : Type 0} (stands : Bool) (error : FileError) (next : Result A FileError) → error ≢ OutOfMemory → IsNotOutOfMemory next → IsNotOutOfMemory (refuse stands error >> next)
refuse_in_memory true error next h k = λ e. h cc
refuse_in_memory false error next h k = k

-- where neither of two steps says so
pub then_in_memory : {A B : Type 0} (r : Result A FileError) (go : A → Result B FileError) → IsNotOutOfMemory r → ((a : A) → IsNotOutOfMemory (go a)) → IsNotOutOfMemory (r >>= go)
then_in_memory (Ok a) go h k = k a
then_in_memory (Err error) go h k = λ e. h (cc)
