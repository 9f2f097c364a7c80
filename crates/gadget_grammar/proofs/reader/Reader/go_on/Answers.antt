use Rattle.std.proofs.Common.{[], ◌∷◌, reverse, Option, ap, ◌∙◌}
use Rattle.std.specs.Prelude.{ok_or}
use Rattle.std.proofs.lemmas.List.{reverse-append}
use Rattle.gadget_text.specs.declared.file_error.FileError.TheVariants.{Syntax}
use Rattle.gadget_text.specs.Places.{text_in}
use Rattle.gadget_text.specs.declared.token.TokenKind.{TokenKind}
use Rattle.gadget_grammar.specs.Symbols.{symbol_of_kind}
use Rattle.gadget_grammar.specs.Machine.{State}
use Rattle.gadget_grammar.specs.Seen.{steps_in}
use Rattle.gadget_grammar.proofs.Advances.{plus_advances, times_advances, closing_advances}
use Rattle.gadget_grammar.proofs.reader.Reader.go_on.Goals as goal

pub returns-in_ok-end_level-in-Plus-clause-state : goal.returns-in_ok-end_level-in-Plus-clause-state
returns-in_ok-end_level-in-Plus-clause-state c = λ bytes.
    let next = plus_advances (steps_in bytes c.args.self.now.steps.items) (reverse c.args.self.now.outer.items) c.args.self.now.here c.args.self.now.has_unit _ c.requires.unit
    (steps_in bytes c.end_level.new.steps.items) (ap (λ (k : TokenKind). symbol_of_kind k (text_in bytes c.args.token)) c.in-Plus.is) (c.in_ok-end_level-in-Plus.ensures.steps bytes) in
    ap (λ (o : Option State). ok_or o (Syntax c.args.line)) next

pub returns-in_ok-end_product-in-Times-clause-state : goal.returns-in_ok-end_product-in-Times-clause-state
returns-in_ok-end_product-in-Times-clause-state c = λ bytes.
    let next = times_advances (steps_in bytes c.args.self.now.steps.items) (reverse c.args.self.now.outer.items) c.args.self.now.here c.args.self.now.has_unit _ c.requires.unit
    (steps_in bytes c.end_product.new.steps.items) (ap (λ (k : TokenKind). symbol_of_kind k (text_in bytes c.args.token)) c.in-Times.is) (c.in_ok-end_product-in-Times.ensures.steps bytes) in
    ap (λ (o : Option State). ok_or o (Syntax c.args.line)) next

pub returns-in-Some-clause-state : goal.returns-in-Some-clause-state
returns-in-Some-clause-state c = λ bytes.
    let next = closing_advances (steps_in bytes c.args.self.now.steps.items) (reverse c.args.self.now.outer.items) c.args.self.now.here c.args.self.now.has_unit _ c.requires.unit
    (steps_in bytes c.end_level-in-Close.new.steps.items) c.in-Some.level (reverse c.pop.new.self.items)
    (ap (λ (k : TokenKind). symbol_of_kind k (text_in bytes c.args.token)) c.in-Close.is) (c.in_ok-end_level-in-Close.ensures.steps bytes)
    (ap reverse c.in-Some.ensures.items ∙ reverse-append c.pop.new.self.items (c.in-Some.level ∷ [])) in
    ap (λ (o : Option State). ok_or o (Syntax c.args.line)) next
