-- What a demonstration checks: a file that it makes itself, for strong non-interference.
use Rattle.std.specs.Prelude.{ℕ, Bool, true, false, List, Option, Some, None}
use Rattle.gadget_maker.specs.Texts.{isw_text, refresh_text}
use Rattle.mask_terms.specs.Tasks.{is_demo}
use Rattle.mask_terms.specs.declared.task.Task.{Task}
use Rattle.mask_terms.specs.declared.task.Task.TheVariants.{Sni, Demo, DemoRefresh}
use Rattle.mask_words.specs.declared.answer.Settings.{Settings}

-- the check of a demonstration, or another one
abbrev pub check_by : Bool → Settings → Settings
check_by true s = record s { task = Sni; t = s.size }
check_by false s = s

-- The check that settings ask for: a demonstration checks its file for strong non-interference, of the order of its
-- size.
abbrev pub check_of : Settings → Settings
check_of s = check_by (is_demo s.task) s

-- the file that a task makes of so many shares
abbrev pub made_by : Task → ℕ → Option (List ℕ)
made_by Demo shares = Some (isw_text shares)
made_by DemoRefresh shares = Some (refresh_text shares)
made_by _ shares = None

-- the file that a check makes, where it reads none
abbrev pub made_file : Settings → Option (List ℕ)
made_file s = made_by s.task s.t
