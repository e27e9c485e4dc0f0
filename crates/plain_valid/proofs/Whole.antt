-- What holds of each kind of statement and exit holds of all blocks of a lowered code, by its variables' widths.
use Rattle.std.proofs.Common.{◌≡◌, ℕ, ◌≤◌, ◌^◌, List, length, length-append, map, sym, subst, arith}
use Rattle.std.proofs.lemmas.List.{length-map}
use Rattle.pcode_model.specs.declared.listing.Listing.{Listing}
use Rattle.pcode_model.specs.declared.tables.TableAt.{TableAt}
use Rattle.pcode_model.specs.declared.atoms.Atom.{Atom}
use Rattle.pcode_model.specs.declared.flow.Block as flow_block
use Rattle.pcode_model.specs.Flow.{starts_of}
use Rattle.pcode_model.specs.Memory.{Frame}
use Rattle.cmeaning.specs.declared.tree.Stmt.{Stmt}
use Rattle.blockcode.specs.declared.code.Exit.{Exit}
use Rattle.blockcode.specs.Run.{widths}
use Rattle.op_code.specs.Lowered.{lowered, range_of, ranges_of, variable_for}
use Rattle.op_code.specs.Lowerable.{IsLowerable}
use Rattle.op_code.proofs.Entering.{as_many}
use Rattle.op_code.proofs.Variables.{locals_made, locals_wide, variables_set}
use Rattle.plain_valid.specs.Long.{HasLong}
use Rattle.plain_valid.proofs.Long.{ranges_low}
use Rattle.plain_valid.proofs.EachKind.{AllHold, Kinds}
use Rattle.plain_valid.proofs.Blocks.{blocks_right}

module _
    (l : Listing)
    (t : List TableAt)
    (f : Frame)
    (blocks : List flow_block.Block)
    (atoms : List Atom)
    (form : IsLowerable l t f blocks atoms)
    (long : HasLong l t atoms)
    (few : length (lowered l f blocks atoms).variables ≤ 2 ^ 32)
    (P : List Stmt → Type 0)
    (B : List Stmt → Exit → Type 0)
  where
    -- All blocks of the code.
    pub each_block : (let vs = (lowered l f blocks atoms).variables in
        Kinds l (ranges_of l atoms) (widths vs) (length vs) (length blocks) P B
        → AllHold B (lowered l f blocks atoms).blocks)
    each_block kinds =
        let vs = (lowered l f blocks atoms).variables in
        let ranges = ranges_of l atoms in
        let starts = starts_of blocks in
        let locals = locals_made l f blocks atoms in
        let many : length starts ≡ length blocks = as_many l t starts blocks form.flow.run in
        let all = length-append (map variable_for atoms) locals in
        let K : ℕ → Type 0 = λ m. Kinds l ranges (widths vs) (length vs) m P B in
        blocks_right l ranges (widths vs) (length vs) starts P B (subst K (sym many) kinds)
        (variables_set l f blocks atoms t form) few
        (omega (arith, length-map atoms (range_of l), length-map atoms variable_for, all))
        (ranges_low l form.registers atoms long.storages) f.own t (length atoms) blocks
        (λ q h. let reached = (form.flow.each q).0 h in (form.plain q reached, long.places q reached)) form.flow.run
        (record {
          wide = locals_wide l f blocks atoms;
          within = omega (arith, length-map atoms variable_for, all);
        })
