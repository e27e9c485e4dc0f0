use Rattle.std.proofs.Common.{◌∙◌, ◌+◌, ◌≤◌, ◌^◌, ℕ, List, Option, ap, length, subst, sym}
use Rattle.std.specs.List.{AllByRecursion}
use Rattle.pcode_model.specs.declared.listing.Fixed.{Fixed}
use Rattle.pcode_model.specs.Memory.{or_else}
use Rattle.pcode_model.specs.Spaces.{fixed_in}
use Rattle.run_world.specs.Meaning.{with_bytes}
use Rattle.run_world.proofs.Declared.{all_fixed_end}
use Rattle.run_world.proofs.byte_map.ByteMap.first.Goals as goal

pub fixed_bytes-requires : goal.fixed_bytes-requires
fixed_bytes-requires c =
    let l = c.args.listing.now in
    let P : List Fixed → Type 0 = λ fs. AllByRecursion (λ (f : Fixed). f.offset + length f.bytes ≤ 2 ^ 64) fs in
    subst P (sym c.as_slice.ensures) (all_fixed_end l.spaces l.fixed c.requires.spaces c.requires.fixed)

pub returns : goal.returns
returns c =
    ap (λ (f : ℕ → ℕ → Option ℕ). λ (s : ℕ). λ (o : ℕ). or_else (f s o) 0)
    (c.in_ok-put_all.ensures
    ∙ ap (with_bytes c.args.bytes.now) (c.in_ok-map.ensures ∙ ap fixed_in c.as_slice.ensures))
