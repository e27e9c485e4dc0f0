use Rattle.std.proofs.Common.{◌∙◌, ◌+◌, ◌≤◌, ◌^◌, List, ap, arith, length, subst, sym}
use Rattle.std.specs.List.{AllByRecursion}
use Rattle.pcode_model.specs.declared.listing.Fixed.{Fixed}
use Rattle.pcode_model.specs.declared.listing.SpaceKind.TheVariants.{Ram, Register, Unique}
use Rattle.pcode_model.specs.Spaces.{number_of, fixed_in}
use Rattle.run_world.proofs.Declared.{number_below, all_fixed_end}
use Rattle.run_world.proofs.setting.Setting.new.Goals as goal

pub fixed_bytes-requires : goal.fixed_bytes-requires
fixed_bytes-requires c =
    let l = c.args.listing.now in
    let P : List Fixed → Type 0 = λ fs. AllByRecursion (λ (f : Fixed). f.offset + length f.bytes ≤ 2 ^ 64) fs in
    subst P (sym c.as_slice.ensures) (all_fixed_end l.spaces l.fixed c.requires.spaces c.requires.fixed)

pub overflow_cast-result : goal.overflow_cast-result
overflow_cast-result c =
    omega (
      arith,
      c.number_of.ensures,
      ap (number_of Ram) c.as_slice-spaces.ensures,
      number_below Ram c.args.listing.now.spaces c.requires.complete.ram,
      c.requires.limited.spaces,
    )

pub overflow_cast-result-2 : goal.overflow_cast-result-2
overflow_cast-result-2 c =
    omega (
      arith,
      c.number_of-2.ensures,
      ap (number_of Register) c.as_slice-spaces.ensures,
      number_below Register c.args.listing.now.spaces (omega (arith, c.requires.complete.register)),
      c.requires.limited.spaces,
    )

pub overflow_cast-result-3 : goal.overflow_cast-result-3
overflow_cast-result-3 c =
    omega (
      arith,
      c.number_of-3.ensures,
      ap (number_of Unique) c.as_slice-spaces.ensures,
      number_below Unique c.args.listing.now.spaces (omega (arith, c.requires.complete.unique)),
      c.requires.limited.spaces,
    )

pub returns : goal.returns
returns c = record {
  fixed = c.in_ok-fixed_bytes.ensures ∙ ap fixed_in c.as_slice.ensures;
  first_ram = c.number_of.ensures ∙ ap (number_of Ram) c.as_slice-spaces.ensures;
  registers = c.number_of-2.ensures ∙ ap (number_of Register) c.as_slice-spaces.ensures;
  uniques = c.number_of-3.ensures ∙ ap (number_of Unique) c.as_slice-spaces.ensures;
}
