use Rattle.std.proofs.Common.{◌≡◌, ◌∙◌, true, false, ap, map, string_bytes}
use Rattle.clap.specs.Words.{app_of, is_simple_and_free}
use Rattle.clap.specs.declared.error.kind.ErrorKind.TheVariants.{OutOfMemory}
use Rattle.words.specs.Request.{given}
use Rattle.words.proofs.Asked.{asked_so, refused_so}
use Rattle.words.proofs.request.read_words.Goals as goal

pub returns-in-Ok : goal.returns-in-Ok
returns-in-Ok c =
    c.requested.ensures
    ∙ (λ i. given (c.get_str.ensures i) (c.get_str-in-Ok.ensures i) (c.get_str-in-Ok-2.ensures i))
    ∙ asked_so (app_of c.in_ok-command.field-0) (map string_bytes c.args.words.now) c.in_ok-command.ensures c.in-Ok.matches
    c.in-Ok.ensures.matches (c.in-Ok.ensures.kinds (ap is_simple_and_free c.in_ok-command.ensures))

pub returns : goal.returns
returns c =
    refused_so (app_of c.in_ok-command.field-0) (map string_bytes c.args.words.now) c.in_ok-command.ensures
    (λ taken.
    let memory : c.kind.result ≡ OutOfMemory = c.kind.ensures ∙ c.in-Err.ensures.passes taken in
    let clash : false ≡ true = rw (memory) at c.if-eq.ensures in
    cc)
