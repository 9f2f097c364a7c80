use Rattle.gadget_text.proofs.Runs.{word_whole}
use Rattle.gadget_text.proofs.laws.words_law.Goals as goal

pub returns : goal.returns
returns c = word_whole
