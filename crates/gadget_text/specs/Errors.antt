-- The offences of a file in order, and what a call answers of them.
use Rattle.std.specs.Prelude.{◌≡◌, ◌≢◌, Bool, if◌then◌else◌, Option, Some, None, Result, Ok, Err, MatchResult}
use Rattle.gadget_text.specs.declared.token.TextError.{TextError}
use Rattle.gadget_text.specs.declared.token.TextError.TheVariants as text
use Rattle.gadget_text.specs.declared.file_error.FileError.{FileError}
use Rattle.gadget_text.specs.declared.file_error.FileError.TheVariants.{NotText, OutOfMemory}

-- the error of a file whose tokens can't be read
abbrev pub error_of_text : TextError → FileError
error_of_text (text.NotText line) = NotText line
error_of_text text.OutOfMemory = OutOfMemory

-- an offence, where it stands
abbrev pub refuse : Bool → FileError → Result (Unit {0}) FileError
refuse stands error = if stands then Err error else Ok tt

-- an offence, where there is one
abbrev pub refuse_found : Option FileError → Result (Unit {0}) FileError
refuse_found None = Ok tt
refuse_found (Some error) = Err error

-- what follows a result, or its offence
infixl 10 ◌>>=◌
abbrev pub ◌>>=◌ : {A B : Type 0} → Result A FileError → (A → Result B FileError) → Result B FileError
(Ok a) >>= go = go a
(Err error) >>= go = Err error

-- what follows where there is no offence, or the offence
infixl 10 ◌>>◌
abbrev pub ◌>>◌ : {B : Type 0} → Result (Unit {0}) FileError → Result B FileError → Result B FileError
(Ok u) >> next = next
(Err error) >> next = Err error

-- The answer, seen by `view`, is a result of which this is said.
abbrev pub Gives : {A B : Type 0} → (A → B) → Result A FileError → (Result B FileError → Type 0) → Type 0
Gives view answer Says = MatchResult answer (λ a. Says (Ok (view a))) (λ e. Says (Err e))

-- the result is this one
abbrev pub Is : {B : Type 0} → Result B FileError → Result B FileError → Type 0
Is said result = said ≡ result

-- This is said of the result, but that memory ran out may be answered whatever is said.
abbrev pub MemoryAside : {B : Type 0} → (Result B FileError → Type 0) → Result B FileError → Type 0
MemoryAside Says (Ok b) = Says (Ok b)
MemoryAside Says (Err e) = e ≢ OutOfMemory → Says (Err e)
