use Rattle.std.proofs.Common.{Ok, Err, sym, subst}
use Rattle.std.proofs.lemmas.Result.{err_from_is_err_and}
use Rattle.gadget_text.specs.Places.{lines_in}
use Rattle.gadget_headers.specs.Seen.{preamble_in}
use Rattle.gadget_tree.specs.File.{FileSays, flat_gadget}
use Rattle.gadget_tree.proofs.MadeGadgets.{said_gadget}
use Rattle.gadget_tree.proofs.Saying.{text_given, text_refused, headers_refused, names_refused, lines_refused, file_said}
use Rattle.gadget_tree.proofs.file.read_gadget.Goals as goal

pub returns-in_err-tokens : goal.returns-in_err-tokens
returns-in_err-tokens c =
    let p = err_from_is_err_and c.from_residual.result c.from_residual.ensures.1 in
    rw (p.1, p.2) (λ other. text_refused c.args.bytes.now c.in_err-tokens.field-0.0 (c.in_err-tokens.ensures.says other))

pub returns-in_err-headers : goal.returns-in_err-headers
returns-in_err-headers c =
    let p = err_from_is_err_and c.from_residual-in_err-headers.result c.from_residual-in_err-headers.ensures.1 in
    let bytes = c.args.bytes.now in
    let text = text_given bytes c.in_ok-tokens.tokens.items c.deref.result.now c.deref.ensures.value c.in_ok-tokens.ensures.says in
    rw (p.1, p.2) (λ other. headers_refused bytes (lines_in bytes c.deref.result.now) text c.in_err-headers.field-0.0 c.in_err-headers.ensures.says)

pub returns-in_err-start : goal.returns-in_err-start
returns-in_err-start c =
    let p = err_from_is_err_and c.from_residual-in_err-start.result c.from_residual-in_err-start.ensures.1 in
    let bytes = c.args.bytes.now in
    let text = text_given bytes c.in_ok-tokens.tokens.items c.deref.result.now c.deref.ensures.value c.in_ok-tokens.ensures.says in
    rw (p.1, p.2) (λ other. names_refused bytes (lines_in bytes c.deref.result.now) text (preamble_in bytes c.in_ok-headers.headers) c.in_ok-headers.ensures.says c.in_err-start.field-0.0
    (c.in_err-start.ensures other))

pub returns-in_err-variables : goal.returns-in_err-variables
returns-in_err-variables c =
    let p = err_from_is_err_and c.from_residual-in_err-variables.result c.from_residual-in_err-variables.ensures.1 in
    let bytes = c.args.bytes.now in
    let text = text_given bytes c.in_ok-tokens.tokens.items c.deref.result.now c.deref.ensures.value c.in_ok-tokens.ensures.says in
    rw (p.1, p.2) (λ other. lines_refused bytes (lines_in bytes c.deref.result.now) text (preamble_in bytes c.in_ok-headers.headers) c.in_ok-headers.ensures.says
    c.in_ok-start.start c.in_ok-start.ensures c.in_err-variables.field-0.0 (c.in_err-variables.ensures other))

pub returns-in_err-shares : goal.returns-in_err-shares
returns-in_err-shares c =
    let p = err_from_is_err_and c.from_residual-in_err-shares.result c.from_residual-in_err-shares.ensures.1 in
    let bytes = c.args.bytes.now in
    let text = text_given bytes c.in_ok-tokens.tokens.items c.deref.result.now c.deref.ensures.value c.in_ok-tokens.ensures.says in
    rw (p.1, p.2) (λ other. file_said bytes (lines_in bytes c.deref.result.now) text (preamble_in bytes c.in_ok-headers.headers) c.in_ok-headers.ensures.says
    c.in_ok-start.start c.in_ok-start.ensures c.in_ok-variables.variables (Err c.in_err-shares.field-0.0) c.in_ok-variables.ensures (c.in_err-shares.ensures.says other))

pub flat_gadget-requires-clause-gadget : goal.flat_gadget-requires-clause-gadget
flat_gadget-requires-clause-gadget c =
    let bytes = c.args.bytes.now in
    let h = preamble_in bytes c.in_ok-headers.headers in
    let variables = c.in_ok-variables.variables in
    let text = text_given bytes c.in_ok-tokens.tokens.items c.deref.result.now c.deref.ensures.value c.in_ok-tokens.ensures.says in
    said_gadget bytes (flat_gadget h variables)
    (file_said bytes (lines_in bytes c.deref.result.now) text h c.in_ok-headers.ensures.says c.in_ok-start.start c.in_ok-start.ensures variables (Ok (flat_gadget h variables)) c.in_ok-variables.ensures c.in_ok-shares.ensures.says)

pub returns : goal.returns
returns c =
    let bytes = c.args.bytes.now in
    let h = preamble_in bytes c.in_ok-headers.headers in
    let variables = c.in_ok-variables.variables in
    let text = text_given bytes c.in_ok-tokens.tokens.items c.deref.result.now c.deref.ensures.value c.in_ok-tokens.ensures.says in
    subst (λ g. FileSays bytes (Ok g)) (sym c.in_ok-flat_gadget.ensures)
    (file_said bytes (lines_in bytes c.deref.result.now) text h c.in_ok-headers.ensures.says c.in_ok-start.start c.in_ok-start.ensures variables (Ok (flat_gadget h variables)) c.in_ok-variables.ensures c.in_ok-shares.ensures.says)
