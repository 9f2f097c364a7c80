-- What an answer gives.
use Rattle.std.proofs.Common.{◌≡◌, ◌∙◌, Result, Ok, Err}
use Rattle.gadget_text.specs.declared.file_error.FileError.{FileError}
use Rattle.gadget_text.specs.Errors.{Gives, Is, MemoryAside}

-- where all that is said is said otherwise too, the same answer gives it
pub gives_weaker : {A B : Type 0} (view : A → B) (answer : Result A FileError) (Says Other : Result B FileError → Type 0) → ((r : Result B FileError) → Says r → Other r) → Gives view answer Says → Gives view answer Other
gives_weaker view (Ok a) Says Other h g = h (Ok (view a)) g
gives_weaker view (Err e) Says Other h g = h (Err e) g

-- the same with memory aside
pub aside_weaker : {B : Type 0} (Says Other : Result B FileError → Type 0) → ((r : Result B FileError) → Says r → Other r) → (r : Result B FileError) → MemoryAside Says r → MemoryAside Other r
aside_weaker Says Other h (Ok b) says = h (Ok b) says
aside_weaker Says Other h (Err e) says = λ other. h (Err e) (says other)

-- an answer gives what is equal to what it gives
pub gives_equal : {A B : Type 0} (view : A → B) (answer : Result A FileError) (said equal : Result B FileError) → equal ≡ said → Gives view answer (Is said) → Gives view answer (Is equal)
gives_equal view answer said equal e g = gives_weaker view answer (Is said) (Is equal) (λ r h. e ∙ h) g
