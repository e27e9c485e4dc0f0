use Rattle.cmeaning.specs.Do.{widths_in}
use Rattle.cmeaning.specs.Value.{meaning_of}
use Rattle.cvalue.specs.Held.{env_of}
use Rattle.cvalue.proofs.Nodes as nodes
use Rattle.cvalue.proofs.value.+expr_word.Goals as goal

pub arithmetic-requires : goal.arithmetic-requires
arithmetic-requires t c =
    nodes.words_alike (widths_in c.args.x.now.f.now) (env_of c.args.x.now.words.items)
    c.get-in-Arithmetic.result.now c.get-in-Arithmetic-2.result.now c.expr_word-in-Arithmetic.result
    c.expr_word-in-Arithmetic-2.result c.expr_word-in-Arithmetic.ensures c.expr_word-in-Arithmetic-2.ensures
    (nodes.arithmetic_alike (widths_in c.args.x.now.f.now) c.args.e.now c.in-Arithmetic.op c.in-Arithmetic.a
    c.in-Arithmetic.b c.get-in-Arithmetic.result.now c.get-in-Arithmetic-2.result.now c.in-Arithmetic.is
    c.get-in-Arithmetic.ensures c.get-in-Arithmetic-2.ensures c.requires)

pub returns-in-Arithmetic : goal.returns-in-Arithmetic
returns-in-Arithmetic t c =
    nodes.told c.arithmetic.result _ _ (env_of c.args.x.now.words.items)
    (nodes.arithmetic_means (widths_in c.args.x.now.f.now) c.args.e.now c.in-Arithmetic.op c.in-Arithmetic.a
    c.in-Arithmetic.b c.get-in-Arithmetic.result.now c.get-in-Arithmetic-2.result.now c.in-Arithmetic.is
    c.get-in-Arithmetic.ensures c.get-in-Arithmetic-2.ensures)
    (c.arithmetic.ensures (meaning_of (widths_in c.args.x.now.f.now) c.get-in-Arithmetic.result.now)
    (meaning_of (widths_in c.args.x.now.f.now) c.get-in-Arithmetic-2.result.now) (env_of c.args.x.now.words.items)
    c.expr_word-in-Arithmetic.ensures c.expr_word-in-Arithmetic-2.ensures)

pub divided-requires : goal.divided-requires
divided-requires t c =
    nodes.words_alike (widths_in c.args.x.now.f.now) (env_of c.args.x.now.words.items) c.get-in-Division.result.now
    c.get-in-Division-2.result.now c.expr_word-in-Division.result c.expr_word-in-Division-2.result
    c.expr_word-in-Division.ensures c.expr_word-in-Division-2.ensures
    (nodes.division_alike (widths_in c.args.x.now.f.now) c.args.e.now c.in-Division.op c.in-Division.a
    c.in-Division.b c.get-in-Division.result.now c.get-in-Division-2.result.now c.in-Division.is
    c.get-in-Division.ensures c.get-in-Division-2.ensures c.requires)

pub returns-in-Division : goal.returns-in-Division
returns-in-Division t c =
    nodes.told c.divided.result _ _ (env_of c.args.x.now.words.items)
    (nodes.division_means (widths_in c.args.x.now.f.now) c.args.e.now c.in-Division.op c.in-Division.a
    c.in-Division.b c.get-in-Division.result.now c.get-in-Division-2.result.now c.in-Division.is
    c.get-in-Division.ensures c.get-in-Division-2.ensures)
    (c.divided.ensures (meaning_of (widths_in c.args.x.now.f.now) c.get-in-Division.result.now)
    (meaning_of (widths_in c.args.x.now.f.now) c.get-in-Division-2.result.now) (env_of c.args.x.now.words.items)
    c.expr_word-in-Division.ensures c.expr_word-in-Division-2.ensures)

pub divided_signed-requires : goal.divided_signed-requires
divided_signed-requires t c =
    nodes.words_alike (widths_in c.args.x.now.f.now) (env_of c.args.x.now.words.items)
    c.get-in-SignedDivision.result.now c.get-in-SignedDivision-2.result.now c.expr_word-in-SignedDivision.result
    c.expr_word-in-SignedDivision-2.result c.expr_word-in-SignedDivision.ensures
    c.expr_word-in-SignedDivision-2.ensures
    (nodes.signed_division_alike (widths_in c.args.x.now.f.now) c.args.e.now c.in-SignedDivision.op
    c.in-SignedDivision.a c.in-SignedDivision.b c.get-in-SignedDivision.result.now
    c.get-in-SignedDivision-2.result.now c.in-SignedDivision.is c.get-in-SignedDivision.ensures
    c.get-in-SignedDivision-2.ensures c.requires)

pub returns-in-SignedDivision : goal.returns-in-SignedDivision
returns-in-SignedDivision t c =
    nodes.told c.divided_signed.result _ _ (env_of c.args.x.now.words.items)
    (nodes.signed_division_means (widths_in c.args.x.now.f.now) c.args.e.now c.in-SignedDivision.op
    c.in-SignedDivision.a c.in-SignedDivision.b c.get-in-SignedDivision.result.now
    c.get-in-SignedDivision-2.result.now c.in-SignedDivision.is c.get-in-SignedDivision.ensures
    c.get-in-SignedDivision-2.ensures)
    (c.divided_signed.ensures (meaning_of (widths_in c.args.x.now.f.now) c.get-in-SignedDivision.result.now)
    (meaning_of (widths_in c.args.x.now.f.now) c.get-in-SignedDivision-2.result.now)
    (env_of c.args.x.now.words.items) c.expr_word-in-SignedDivision.ensures
    c.expr_word-in-SignedDivision-2.ensures)

pub returns-in-Shift : goal.returns-in-Shift
returns-in-Shift t c =
    nodes.told c.shifted.result _ _ (env_of c.args.x.now.words.items)
    (nodes.shift_means (widths_in c.args.x.now.f.now) c.args.e.now c.in-Shift.op c.in-Shift.a c.in-Shift.b
    c.get-in-Shift.result.now c.get-in-Shift-2.result.now c.in-Shift.is c.get-in-Shift.ensures
    c.get-in-Shift-2.ensures)
    (c.shifted.ensures (meaning_of (widths_in c.args.x.now.f.now) c.get-in-Shift.result.now)
    (meaning_of (widths_in c.args.x.now.f.now) c.get-in-Shift-2.result.now) (env_of c.args.x.now.words.items)
    c.expr_word-in-Shift.ensures c.expr_word-in-Shift-2.ensures)

pub compared-requires : goal.compared-requires
compared-requires t c =
    nodes.words_alike (widths_in c.args.x.now.f.now) (env_of c.args.x.now.words.items) c.get-in-Compare.result.now
    c.get-in-Compare-2.result.now c.expr_word-in-Compare.result c.expr_word-in-Compare-2.result
    c.expr_word-in-Compare.ensures c.expr_word-in-Compare-2.ensures
    (nodes.compare_alike (widths_in c.args.x.now.f.now) c.args.e.now c.in-Compare.op c.in-Compare.a c.in-Compare.b
    c.get-in-Compare.result.now c.get-in-Compare-2.result.now c.in-Compare.is c.get-in-Compare.ensures
    c.get-in-Compare-2.ensures c.requires)

pub returns-in-Compare : goal.returns-in-Compare
returns-in-Compare t c =
    nodes.told c.compared.result _ _ (env_of c.args.x.now.words.items)
    (nodes.compare_means (widths_in c.args.x.now.f.now) c.args.e.now c.in-Compare.op c.in-Compare.a c.in-Compare.b
    c.get-in-Compare.result.now c.get-in-Compare-2.result.now c.in-Compare.is c.get-in-Compare.ensures
    c.get-in-Compare-2.ensures)
    (c.compared.ensures (meaning_of (widths_in c.args.x.now.f.now) c.get-in-Compare.result.now)
    (meaning_of (widths_in c.args.x.now.f.now) c.get-in-Compare-2.result.now) (env_of c.args.x.now.words.items)
    c.expr_word-in-Compare.ensures c.expr_word-in-Compare-2.ensures)

pub compared_signed-requires : goal.compared_signed-requires
compared_signed-requires t c =
    nodes.words_alike (widths_in c.args.x.now.f.now) (env_of c.args.x.now.words.items)
    c.get-in-SignedCompare.result.now c.get-in-SignedCompare-2.result.now c.expr_word-in-SignedCompare.result
    c.expr_word-in-SignedCompare-2.result c.expr_word-in-SignedCompare.ensures
    c.expr_word-in-SignedCompare-2.ensures
    (nodes.signed_compare_alike (widths_in c.args.x.now.f.now) c.args.e.now c.in-SignedCompare.op
    c.in-SignedCompare.a c.in-SignedCompare.b c.get-in-SignedCompare.result.now
    c.get-in-SignedCompare-2.result.now c.in-SignedCompare.is c.get-in-SignedCompare.ensures
    c.get-in-SignedCompare-2.ensures c.requires)

pub returns-in-SignedCompare : goal.returns-in-SignedCompare
returns-in-SignedCompare t c =
    nodes.told c.compared_signed.result _ _ (env_of c.args.x.now.words.items)
    (nodes.signed_compare_means (widths_in c.args.x.now.f.now) c.args.e.now c.in-SignedCompare.op
    c.in-SignedCompare.a c.in-SignedCompare.b c.get-in-SignedCompare.result.now
    c.get-in-SignedCompare-2.result.now c.in-SignedCompare.is c.get-in-SignedCompare.ensures
    c.get-in-SignedCompare-2.ensures)
    (c.compared_signed.ensures (meaning_of (widths_in c.args.x.now.f.now) c.get-in-SignedCompare.result.now)
    (meaning_of (widths_in c.args.x.now.f.now) c.get-in-SignedCompare-2.result.now)
    (env_of c.args.x.now.words.items) c.expr_word-in-SignedCompare.ensures c.expr_word-in-SignedCompare-2.ensures)

pub joined-requires : goal.joined-requires
joined-requires t c =
    nodes.words_short (widths_in c.args.x.now.f.now) (env_of c.args.x.now.words.items) c.get-in-Concat.result.now
    c.get-in-Concat-2.result.now c.expr_word-in-Concat.result c.expr_word-in-Concat-2.result
    c.expr_word-in-Concat.ensures c.expr_word-in-Concat-2.ensures
    (nodes.concat_short (widths_in c.args.x.now.f.now) c.args.e.now c.in-Concat.a c.in-Concat.b
    c.get-in-Concat.result.now c.get-in-Concat-2.result.now c.in-Concat.is c.get-in-Concat.ensures
    c.get-in-Concat-2.ensures c.requires)

pub returns-in-Concat : goal.returns-in-Concat
returns-in-Concat t c =
    nodes.told c.joined.result _ _ (env_of c.args.x.now.words.items)
    (nodes.concat_means (widths_in c.args.x.now.f.now) c.args.e.now c.in-Concat.a c.in-Concat.b
    c.get-in-Concat.result.now c.get-in-Concat-2.result.now c.in-Concat.is c.get-in-Concat.ensures
    c.get-in-Concat-2.ensures)
    (c.joined.ensures (meaning_of (widths_in c.args.x.now.f.now) c.get-in-Concat.result.now)
    (meaning_of (widths_in c.args.x.now.f.now) c.get-in-Concat-2.result.now) (env_of c.args.x.now.words.items)
    c.expr_word-in-Concat.ensures c.expr_word-in-Concat-2.ensures)

pub overflows-requires : goal.overflows-requires
overflows-requires t c =
    nodes.words_alike (widths_in c.args.x.now.f.now) (env_of c.args.x.now.words.items) c.get-in-Overflow.result.now
    c.get-in-Overflow-2.result.now c.expr_word-in-Overflow.result c.expr_word-in-Overflow-2.result
    c.expr_word-in-Overflow.ensures c.expr_word-in-Overflow-2.ensures
    (nodes.overflow_alike (widths_in c.args.x.now.f.now) c.args.e.now c.in-Overflow.op c.in-Overflow.a
    c.in-Overflow.b c.get-in-Overflow.result.now c.get-in-Overflow-2.result.now c.in-Overflow.is
    c.get-in-Overflow.ensures c.get-in-Overflow-2.ensures c.requires)

pub returns-in-Overflow : goal.returns-in-Overflow
returns-in-Overflow t c =
    nodes.told c.overflows.result _ _ (env_of c.args.x.now.words.items)
    (nodes.overflow_means (widths_in c.args.x.now.f.now) c.args.e.now c.in-Overflow.op c.in-Overflow.a
    c.in-Overflow.b c.get-in-Overflow.result.now c.get-in-Overflow-2.result.now c.in-Overflow.is
    c.get-in-Overflow.ensures c.get-in-Overflow-2.ensures)
    (c.overflows.ensures (meaning_of (widths_in c.args.x.now.f.now) c.get-in-Overflow.result.now)
    (meaning_of (widths_in c.args.x.now.f.now) c.get-in-Overflow-2.result.now) (env_of c.args.x.now.words.items)
    c.expr_word-in-Overflow.ensures c.expr_word-in-Overflow-2.ensures)

pub extended-requires : goal.extended-requires
extended-requires t c =
    nodes.word_below (widths_in c.args.x.now.f.now) (env_of c.args.x.now.words.items) c.get-in-Extend.result.now
    c.in-Extend.out.bytes c.expr_word-in-Extend.result c.expr_word-in-Extend.ensures
    (nodes.extend_below (widths_in c.args.x.now.f.now) c.args.e.now c.in-Extend.op c.in-Extend.out c.in-Extend.a
    c.get-in-Extend.result.now c.in-Extend.is c.get-in-Extend.ensures c.requires)
