use Rattle.std.proofs.Common.{◌≡◌, length, refl, sym, ap, ◌∙◌, slice_get, Some, List}
use Rattle.std.proofs.Math.Path.{fun_ext}
use Rattle.std.proofs.lemmas.List.{take_all}
use Rattle.std.proofs.lemmas.Option.{slice_get_read}
use Rattle.bits_core.specs.declared.word.Width.{Width}
use Rattle.cmeaning.specs.declared.tree.Param.{Param}
use Rattle.cmeaning.specs.declared.tree.CFunction.{CFunction}
use Rattle.cmeaning.specs.Do.{widths_in}
use Rattle.cmeaning.specs.Step.{first_word}
use Rattle.cvalue.specs.Held.{env_of}
use Rattle.c_run.specs.States.{entry_at}
use Rattle.cmeaning.specs.Fits.{param_fits}
use Rattle.c_run.proofs.Starts.{all_true_at, param_width, params_turn}
use Rattle.c_run.proofs.start.assign_params.Goals as goal

pub param_word-requires-clause-fits : goal.param_word-requires-clause-fits
param_word-requires-clause-fits c =
    let found : slice_get c.args.params.now c.loop-i.i ≡ Some c.index-params-i.result =
    slice_get_read c.args.params.now (length c.args.params.now) c.loop-i.i c.index-params-i.result refl
    c.loop-i-test.true c.index-params-i.is in
    all_true_at (param_fits c.args.context.now.listing.now) c.args.params.now c.loop-i.i c.index-params-i.result
    found c.requires.fits

pub assign-requires : goal.assign-requires
assign-requires c =
    let found : slice_get c.args.params.now c.loop-i.i ≡ Some c.index-params-i.result =
    slice_get_read c.args.params.now (length c.args.params.now) c.loop-i.i c.index-params-i.result refl
    c.loop-i-test.true c.index-params-i.is in
    let own : slice_get c.args.variables.now.f.now.params c.loop-i.i ≡ Some c.index-params-i.result =
    ap (λ (ps : List Param). slice_get ps c.loop-i.i) (sym c.requires.own) ∙ found in
    let width : widths_in c.loop-i.variables.f.now c.loop-i.i ≡ c.index-params-i.result.width.bytes =
    ap (λ (f : CFunction). widths_in f c.loop-i.i) c.loop-i.invariant.function
    ∙ param_width c.args.variables.now.f.now c.loop-i.i c.index-params-i.result own in
    ap (λ (w : Width). w.bytes) c.in_ok-word.ensures.width ∙ sym width

pub loop-i-preserved : goal.loop-i-preserved
loop-i-preserved c =
    let found : slice_get c.args.params.now c.loop-i.i ≡ Some c.index-params-i.result =
    slice_get_read c.args.params.now (length c.args.params.now) c.loop-i.i c.index-params-i.result refl
    c.loop-i-test.true c.index-params-i.is in
    record {
      words =
          params_turn c.args.context.now.listing.now (entry_at c.args.origin.now) c.args.params.now c.loop-i.i
          c.index-params-i.result c.in_ok-word.word.value (env_of c.loop-i.variables.words.items)
          (env_of c.assign.new.self.words.items)
          found c.in_ok-word.ensures.value c.loop-i.invariant.words c.assign.ensures.value;
      function = c.assign.ensures.function ∙ c.loop-i.invariant.function;
    }

pub returns-clause-words : goal.returns-clause-words
returns-clause-words c =
    c.loop-i.invariant.words
    ∙ fun_ext (λ v.
    ap
    (λ (ps : List Param). first_word c.args.context.now.listing.now (entry_at c.args.origin.now) (slice_get ps v))
    (take_all c.loop-i.i c.args.params.now c.loop-i-test.false))
