-- The command is one whose matches and faults clap gives for all words.
use Rattle.std.proofs.Common.{refl, true, ◌≡◌}
use Rattle.clap.specs.Words.{is_simple_and_free, is_simple}
use Rattle.clap.proofs.OnLiterals.{clap_on_literals}
use Rattle.mask_words.specs.Command.{mask_command}

pub simple_too : is_simple mask_command ≡ true
unfolding clap_on_literals mask_command
simple_too = refl

pub simple : is_simple_and_free mask_command ≡ true
unfolding clap_on_literals mask_command
simple = refl
