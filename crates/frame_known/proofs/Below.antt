-- The offsets of a row stay offsets.
use Rattle.std.proofs.Common.{◌≡◌, ℕ, ◌-◌, ◌<◌, Bool, true, false, List, [], ◌∷◌, map, Option, Some, None, subst, arith}
use Rattle.std.specs.Prelude.{◌==◌, cond}
use Rattle.std.proofs.lemmas.List.{length-map}
use Rattle.bits_core.specs.declared.ops.Unary.TheVariants as U
use Rattle.bits_core.specs.declared.ops.Binary.TheVariants as B
use Rattle.pcode_model.specs.declared.listing.Varnode.{Varnode}
use Rattle.pcode_model.specs.declared.listing.Op.{Op}
use Rattle.pcode_model.specs.declared.listing.Proto.{Proto}
use Rattle.pcode_model.specs.declared.listing.Listing.{Listing}
use Rattle.pcode_model.specs.declared.opcode.Opcode.{Opcode}
use Rattle.pcode_model.specs.declared.opcode.Opcode.TheVariants as O
use Rattle.pcode_model.specs.Places.{Standing, Nothing, Passes, Does}
use Rattle.pcode_model.specs.Step.{callee_at, proto_of, varnode_at}
use Rattle.frame_facts.specs.Facts.{writes}
use Rattle.frame_facts.specs.Escapes.{is_constant}
use Rattle.frame_known.specs.declared.slots.Slots.{Slots}
use Rattle.frame_known.specs.Slots.{is_wide, key, range_of}
use Rattle.frame_known.specs.Rows.{AreBelow, IsBelow, IsRow, Row, after, after_call, after_other, first_of, is_at, keeps, made, offset_in, offset_of, over_row, plus, plus_if}

below_cond : (m : ℕ) (b : Bool) (x y : Option ℕ) → IsBelow m x → IsBelow m y → IsBelow m (cond b x y)
below_cond m true x y hx hy = hx
below_cond m false x y hx hy = hy

below_in : (m : ℕ) (ks : List ℕ) (row : Row) (n : ℕ) → AreBelow m row → IsBelow m (offset_in ks row n)
below_in m [] row n h = tt
below_in m (k ∷ ks) [] n h = tt
below_in m (k ∷ ks) (r ∷ row) n h = below_cond m (k == n) r (offset_in ks row n) h.0 (below_in m ks row n h.1)

pub entry_below : (m : ℕ) (ks : List ℕ) (row : Row) (n c : ℕ) → AreBelow m row → offset_in ks row n ≡ Some c → c < m
entry_below m ks row n c h e = subst (IsBelow m) e (below_in m ks row n h)

below_map : (m : ℕ) (f : ℕ → Option ℕ) (ks : List ℕ) → ((n : ℕ) → IsBelow m (f n)) → AreBelow m (map f ks)
below_map m f [] h = tt
below_map m f (k ∷ ks) h = (h k, below_map m f ks h)

below_first : (m : ℕ) (x y : Option ℕ) → IsBelow m x → IsBelow m y → IsBelow m (first_of x y)
below_first m None y hx hy = hy
below_first m (Some c) y hx hy = hx

below_plus : (m : ℕ) (r : Option ℕ) (n : ℕ) → 0 < m → IsBelow m (plus m r n)
below_plus m None n some = tt
below_plus m (Some b) n some = omega (arith, some)

below_if : (b : Bool) (m : ℕ) (r : Option ℕ) (n : ℕ) → 0 < m → IsBelow m (plus_if b m r n)
below_if true m r n some = below_plus m r n some
below_if false m r n some = tt

module _ (l : Listing) (s : Slots) (some : 0 < s.offsets) (row : Row) (fine : IsRow s row) where
  below_of : (v : Varnode) → IsBelow s.offsets (offset_of s row v)
  below_of v =
      below_cond s.offsets (is_wide s.width v) (offset_in s.keys.items row (key v)) None
      (below_in s.offsets s.keys.items row (key v) fine.below) tt

  below_made : (code : Opcode) (vs : List Varnode) → IsBelow s.offsets (made l s row code vs)
  below_made (O.Unary U.Copy) vs = below_of (varnode_at vs 0)
  below_made (O.Binary B.Add) vs =
      let a = varnode_at vs 0 in
      let b = varnode_at vs 1 in
      below_first s.offsets (plus_if (is_constant l b) s.offsets (offset_of s row a) b.offset)
      (plus_if (is_constant l a) s.offsets (offset_of s row b) a.offset)
      (below_if (is_constant l b) s.offsets (offset_of s row a) b.offset some)
      (below_if (is_constant l a) s.offsets (offset_of s row b) a.offset some)
  below_made (O.Binary B.Subtract) vs =
      below_if (is_constant l (varnode_at vs 1)) s.offsets (offset_of s row (varnode_at vs 0))
      (s.offsets - (varnode_at vs 1).offset) some
  below_made code vs = tt

  below_other : (op : Op) (n : ℕ) → IsBelow s.offsets (after_other l s row op n)
  below_other op n =
      let rest = cond (writes op.out (range_of s.width n)) None (offset_in s.keys.items row n) in
      below_cond s.offsets (is_at s.width op.out n) (made l s row op.code op.inputs) rest
      (below_made op.code op.inputs)
      (below_cond s.offsets (writes op.out (range_of s.width n)) None (offset_in s.keys.items row n) tt
      (below_in s.offsets s.keys.items row n fine.below))

  below_call : (p : Proto) (n : ℕ) → IsBelow s.offsets (after_call l s row p n)
  below_call p n =
      let r = offset_in s.keys.items row n in
      below_cond s.offsets (is_at s.width l.stack n) (plus s.offsets r p.pop)
      (cond (keeps l p.keep (range_of s.width n)) r None) (below_plus s.offsets r p.pop some)
      (below_cond s.offsets (keeps l p.keep (range_of s.width n)) r None
      (below_in s.offsets s.keys.items row n fine.below) tt)

  below_after : (code : Opcode) (out : Option Varnode) (vs : List Varnode) (n : ℕ)
      → IsBelow s.offsets (after l s row (record { code = code; out = out; inputs = vs }) n)
  below_after O.Call out vs n = below_call (proto_of l (callee_at l (varnode_at vs 0).offset)) n
  below_after O.CallInd out vs n = below_call (proto_of l None) n
  below_after code out vs n = below_other (record { code = code; out = out; inputs = vs }) n

  pub over_fine : (here : Standing) → IsRow s (over_row l s row here)
  over_fine Nothing = fine
  over_fine (Passes i) = fine
  over_fine (Does i op) = record {
    long = length-map s.keys.items (after l s row op);
    below = below_map s.offsets (after l s row op) s.keys.items (below_after op.code op.out op.inputs);
  }
