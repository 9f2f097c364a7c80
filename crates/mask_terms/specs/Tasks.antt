-- The tasks and their words.
use Rattle.std.specs.Prelude.{ℕ, Bool, true, false, List, [], ◌∷◌, Option, codes, find}
use Rattle.std.specs.Str.{bytes_eq}
use Rattle.mask_terms.specs.declared.task.Task.{Task}
use Rattle.mask_terms.specs.declared.task.Task.TheVariants.{Ni, Tni, Sni, Pini, Rpc, Rpe, Demo, DemoRefresh}

-- the word that names a task
abbrev pub task_word : Task → List ℕ
task_word Ni = codes "ni"
task_word Tni = codes "tni"
task_word Sni = codes "sni"
task_word Pini = codes "pini"
task_word Rpc = codes "rpc"
task_word Rpe = codes "rpe"
task_word Demo = codes "demo"
task_word DemoRefresh = codes "demo-refresh"

-- all tasks
abbrev pub tasks : List Task
tasks = Ni ∷ Tni ∷ Sni ∷ Pini ∷ Rpc ∷ Rpe ∷ Demo ∷ DemoRefresh ∷ []

-- the task that a word names
abbrev pub task_named : List ℕ → Option Task
task_named word = find (λ task. bytes_eq word (task_word task)) tasks

-- whether a task is one of random probing, where wires leak by chance
abbrev pub leaks : Task → Bool
leaks Rpc = true
leaks Rpe = true
leaks _ = false

-- whether a task is a demonstration, which reads no file and checks a gadget that the program makes
abbrev pub is_demo : Task → Bool
is_demo Demo = true
is_demo DemoRefresh = true
is_demo _ = false
