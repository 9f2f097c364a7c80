use Rattle.gadget_grammar.proofs.reader.Reader.advance.Goals as goal

pub returns-then-self-clause-state : goal.returns-then-self-clause-state
returns-then-self-clause-state c = c.go_on.ensures.state c.args.bytes.now
