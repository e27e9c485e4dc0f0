-- An output is set: its variable is assigned, or a local that is stored or written to several variables then.
use Rattle.std.proofs.Common.{◌≡◌, ◌≢◌, ℕ, ◌+◌, ◌<◌, ◌≤◌, Bool, List, [], ◌∷◌, length, Some, None, refl, sym, ap, ◌∙◌, subst, arith}
use Rattle.std.proofs.lemmas.Option.{slice_get_past}
use Rattle.machine.specs.Trace.{End}
use Rattle.bits_core.specs.Value.{limit}
use Rattle.pcode_model.specs.declared.listing.SpaceKind.{SpaceKind}
use Rattle.pcode_model.specs.declared.listing.SpaceKind.TheVariants.{Constant, Ram, Register, Unique}
use Rattle.pcode_model.specs.declared.listing.Varnode.{Varnode}
use Rattle.pcode_model.specs.declared.listing.Place.{Place}
use Rattle.pcode_model.specs.declared.listing.Listing.{Listing}
use Rattle.pcode_model.specs.Spaces.{first_ram, is_big, kind_of}
use Rattle.pcode_model.specs.Memory.{Acts, Bytes, plain}
use Rattle.pcode_model.specs.World.{AllAnswers, Answer, World, ended, store}
use Rattle.pcode_model.specs.Step.{State, bytes_in, in_world, moved, with_word, write_varnode}
use Rattle.pcode_laws.specs.AsBytes.{AsBytes, seen_over}
use Rattle.pcode_laws.proofs.Puts.{put_at}
use Rattle.range_words.specs.Own.{HasOwn}
use Rattle.range_words.specs.Ranges.{AreBytes, Holds}
use Rattle.range_words.proofs.Own.{register_off, unique_off, written_else}
use Rattle.range_words.proofs.Variables.{bytes_written}
use Rattle.cmeaning.specs.declared.tree.Expr.{Expr}
use Rattle.cmeaning.specs.declared.tree.Expr.TheVariants as E
use Rattle.cmeaning.specs.declared.tree.Stmt.{Stmt}
use Rattle.cmeaning.specs.declared.tree.Stmt.TheVariants as S
use Rattle.cmeaning.specs.Do.{Local, assigned, do_simple, ends}
use Rattle.cmeaning.specs.Do as code
use Rattle.cmeaning.proofs.Do.{do_assign}
use Rattle.cmeaning.proofs.Value.{width_of_var, value_of_var}
use Rattle.blockcode.proofs.Straight.{run_all, run_over}
use Rattle.op_values.proofs.Means.{Means, nearest_is}
use Rattle.op_code.specs.Cover.{HasCover, IsRow, Piece, cover}
use Rattle.op_code.specs.Words.{target, write_range}
use Rattle.op_code.specs.Words as words
use Rattle.op_code.specs.Made.{address_of, local_for, name_of, set_by, settle_by, target_by}
use Rattle.op_code.specs.Form.{IsDirect, IsNarrow, IsOutputBy}
use Rattle.op_code.proofs.Access.{direct_points, store_meets, store_runs}
use Rattle.op_code.proofs.Operands.{run_one}
use Rattle.op_code.proofs.Sees.{AreWide, Meets, Sees, Setting, seen_bytes, sees_local}
use Rattle.op_code.proofs.Writing.{write_wrote}

-- The statement leads from the one state to the other, and assigns this word to any variable of so many bytes.
abbrev pub Makes : Listing → (ℕ → ℕ) → (ℕ → Stmt) → (k n : ℕ) → Local → Local → Type 0
Makes l ws make k n x y =
    (v : ℕ) (returns : ℕ → Bool) → ws v ≡ k → do_simple l ws returns (make v) x ≡ assigned v n y

pub assign_makes : (l : Listing) (ws : ℕ → ℕ) (x : Local) (e : Expr) (k n : ℕ)
    → Means ws x.env e k n
    → Makes l ws (λ v. S.Assign v e) k n x x
assign_makes l ws x e k n means v returns wide =
    do_assign l ws returns v e x ∙ ap (λ o. code.with_word o x (λ n. assigned v n x)) means.value

-- The statement leads from the one state to the other, whichever variable it would assign.
abbrev pub Fails : Listing → (ℕ → ℕ) → (ℕ → Stmt) → Local → Local → Type 0
Fails l ws make x y = (v : ℕ) (returns : ℕ → Bool) → do_simple l ws returns (make v) x ≡ y

-- Where it ends the run there, an output isn't written.
pub fail_runs : (l : Listing) (ranges : List Varnode) (ws : ℕ → ℕ) (returns : List Stmt → Bool) (make : ℕ → Stmt)
    (x y : Local) (e : End) (k : SpaceKind) (t : ℕ) (z : Varnode)
    → x.world.over ≡ None
    → y.world.over ≡ Some e
    → Fails l ws make x y
    → run_all l ws returns (set_by k l ranges t z make).statements x ≡ y
fail_runs l ranges ws returns make x y e k t z go over fails =
    let v = target_by k ranges t z in
    let rest = settle_by k l ranges t z in
    run_one l ws returns (make v) rest x y go (fails v (λ c. returns rest)) ∙ run_over l ws returns rest y e over

-- Both have ended.
pub ended_meets : {M : Type 0} (l : Listing) (ranges : List Varnode) (look : M → Bytes) (own : M → ℕ → ℕ) (next : Place)
    (s : State M) (x : Local) (e : End)
    → Sees l ranges look own s x
    → Meets l ranges look own next (in_world (ended e s.world) s) (ends e x)
ended_meets l ranges look own next s x e sees = record {
  sees = record {
    world = ap (ended e) sees.world;
    holds = sees.holds;
    bytes = sees.bytes;
    memory = sees.memory;
    answers = sees.answers;
  };
  at = λ g. absurd (cc);
}

-- The variable that is assigned for a range has the range's width.
pub target_wide : (l : Listing) (ranges : List Varnode) (ws : ℕ → ℕ) (t : ℕ) (z : Varnode) (ps : List Piece)
    → Setting l ranges ws
    → IsNarrow z
    → IsRow ranges z.space z.offset ps (z.offset + z.size)
    → AreWide ws t (local_for ps z)
    → ws (words.target_by t ps) ≡ z.size
target_wide l ranges ws t z [] set narrow row wide = wide.0 ∙ nearest_is z.size narrow.0 narrow.1
target_wide l ranges ws t z (p ∷ []) set narrow row wide =
    let size : p.range.size ≡ z.size = omega (arith, row.1) in
    set.widths p.variable p.range row.0.listed (row.0.some, omega (arith, size, narrow.1)) ∙ size
target_wide l ranges ws t z (p ∷ q ∷ ps) set narrow row wide = wide.0 ∙ nearest_is z.size narrow.0 narrow.1

-- The statement is carried out in x and leads to y, which sees what s does.
module _
    {M : Type 0}
    (m : Acts M)
    (l : Listing)
    (look : M → Bytes)
    (own : M → ℕ → ℕ)
    (ranges : List Varnode)
    (ws : ℕ → ℕ)
    (is : AsBytes m l look)
    (has : HasOwn m l look own)
    (set : Setting l ranges ws)
    (next : Place)
    (s : State M)
    (x y : Local)
    (go : x.world.over ≡ None)
    (on : y.world.over ≡ None)
    (sees : Sees l ranges look own s y)
    (returns : List Stmt → Bool)
    (make : ℕ → Stmt)
  where
    -- A word is written to a range of variables, by which the state becomes one with the word in the range.
    pub range_meets : (t : ℕ) (z : Varnode) (n : ℕ) (there : State M)
        → IsNarrow z
        → HasCover ranges z
        → n < limit z.size
        → length ranges ≤ t
        → AreWide ws t (local_for (cover ranges z) z)
        → Makes l ws make z.size n x y
        → seen_bytes l own there ≡ with_word l z n (seen_bytes l own s)
        → seen_over look there.world ≡ seen_over look s.world
        → there.at ≡ next
        → Meets l ranges look own next there
        (run_all l ws returns (make (target ranges t z) ∷ write_range (is_big l z.space) ranges z t) x)
    range_meets t z n there narrow h below behind wide makes bytes world at =
        let v = target ranges t z in
        let parts = write_range (is_big l z.space) ranges z t in
        let width = target_wide l ranges ws t z (cover ranges z) set narrow h wide in
        let ran = run_one l ws returns (make v) parts x (assigned v n y) go (makes v (λ c. returns parts) width) in
        let wrote = write_wrote l ranges set.table ws returns z narrow.0 narrow.1 n below t (seen_bytes l own s) y h
        (slice_get_past ranges t behind) width sees.holds on in
        let u : Local = run_all l ws returns parts (assigned v n y) in
        let P : Local → Type 0 = λ u. Meets l ranges look own next there u in
        let H : Bytes → Type 0 = λ b. Holds l ranges b u.env in
        let B : Bytes → Type 0 = λ b. AreBytes b in
        let A : List Answer → Type 0 = λ a. AllAnswers l a in
        subst P (sym ran) (record {
          sees = record {
            world = world ∙ sees.world ∙ sym wrote.world;
            holds = subst H (sym bytes) wrote.holds;
            bytes = subst B (sym bytes) (bytes_written l z n (seen_bytes l own s) sees.bytes);
            memory = subst B (sym (ap (λ (w : World Bytes). w.memory) world)) sees.memory;
            answers = subst A (sym (ap (λ (w : World Bytes). w.answers) world)) sees.answers;
          };
          at = λ _. at;
        })

    -- one that is none of the frame's
    local_meets : (t : ℕ) (z : Varnode) (n : ℕ)
        → z.space ≢ first_ram l
        → IsNarrow z
        → HasCover ranges z
        → n < limit z.size
        → length ranges ≤ t
        → AreWide ws t (local_for (cover ranges z) z)
        → Makes l ws make z.size n x y
        → (let there : State M = record { at = next; local = with_word l z n s.local; world = s.world } in
        Meets l ranges look own next there
        (run_all l ws returns (make (target ranges t z) ∷ write_range (is_big l z.space) ranges z t) x))
    local_meets t z n off narrow h below behind wide makes =
        range_meets t z n (record { at = next; local = with_word l z n s.local; world = s.world }) narrow h below behind
        wide makes (written_else l (own s.world.memory) z n s.local off) refl refl

    -- a direct range of memory
    memory_meets : (t : ℕ) (z : Varnode) (n : ℕ)
        → IsNarrow z
        → IsDirect l z
        → length ranges ≤ t
        → ws t ≡ z.size
        → Makes l ws make z.size n x y
        → Meets l ranges look own next
        (in_world (store m z.space z.offset (bytes_in l z.space z.size n) s.world) (moved next s))
        (run_all l ws returns (make t ∷ S.Store (name_of l z.space) (address_of l z) (E.Var t) ∷ []) x)
    memory_meets t z n narrow h behind wide makes =
        let to = S.Store (name_of l z.space) (address_of l z) (E.Var t) in
        let u : Local = assigned t n y in
        let w : Local = code.in_world (store (plain l) z.space z.offset (bytes_in l z.space z.size n) u.world) u in
        let held : Means ws u.env (E.Var t) z.size n = record {
          width = width_of_var ws t ∙ wide;
          value = value_of_var ws u.env t ∙ put_at y.env t (Some n);
        } in
        let first = run_one l ws returns (make t) (to ∷ []) x u go (makes t (λ c. returns (to ∷ [])) wide) in
        let second = run_one l ws returns to [] u w on
        (store_runs l ws (λ c. returns []) z.space h.0 z.size n z.offset (address_of l z) (E.Var t) u
        (direct_points ws u.env l z h) held) in
        let P : Local → Type 0 = λ u. Meets l ranges look own next
        (in_world (store m z.space z.offset (bytes_in l z.space z.size n) s.world) (moved next s)) u in
        subst P (sym (first ∙ second))
        (store_meets m l look is own has ranges next z.space z.offset z.size n s u
        (sees_local l ranges look own s y t n behind sees))

    -- A word is written to an output.
    pub set_meets : (k : SpaceKind) (t : ℕ) (z : Varnode) (n : ℕ)
        → kind_of l z.space ≡ k
        → IsNarrow z
        → IsOutputBy k l ranges z
        → n < limit z.size
        → length ranges ≤ t
        → AreWide ws t (set_by k l ranges t z make).locals
        → Makes l ws make z.size n x y
        → Meets l ranges look own next (write_varnode m l k z n (moved next s))
        (run_all l ws returns (set_by k l ranges t z make).statements x)
    set_meets Constant t z n kind narrow h below behind wide makes = absurd h
    set_meets Ram t z n kind narrow h below behind wide makes =
        memory_meets t z n narrow h behind (wide.0 ∙ nearest_is z.size narrow.0 narrow.1) makes
    set_meets Register t z n kind narrow h below behind wide makes =
        local_meets t z n (register_off l z.space kind) narrow h below behind wide makes
    set_meets Unique t z n kind narrow h below behind wide makes =
        local_meets t z n (unique_off l z.space kind) narrow h below behind wide makes
