use Rattle.std.proofs.Common.{◌≡◌, drop}
use Rattle.std.specs.List.{list_all}
use Rattle.gadget_text.specs.Names.{is_stem}
use Rattle.gadget_headers.specs.Seen.{texts_in}
use Rattle.gadget_headers.proofs.stems.are_stems.Given as goal

abbrev pub invariant-loop-word : goal.invariant-loop-word
invariant-loop-word l = list_all is_stem (texts_in l.bytes (drop l.word-index l.words)) ≡ list_all is_stem (texts_in l.bytes l.words)
