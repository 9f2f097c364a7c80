-- What a `Given` holds, as the reading has it.
use Rattle.std.specs.Prelude.{option_map}
use Rattle.mask_words.specs.Reading.{CommandLine}
use Rattle.mask_words.specs.declared.given.Given.{Given}

abbrev pub shown : Given → CommandLine
shown given = record {
  task = given.task.now;
  argument = given.argument.now;
  size = option_map (λ s. s.now) given.size;
  workers = option_map (λ s. s.now) given.workers;
  block = option_map (λ s. s.now) given.block;
  budget = option_map (λ s. s.now) given.budget;
  words = option_map (λ s. s.now) given.words;
  wires = option_map (λ s. s.now) given.wires;
  tallies = given.tallies;
}
