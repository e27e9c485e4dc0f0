-- Operands are read, and an output is set to what is made of them, or memory is.
use Rattle.std.proofs.Common.{◌≡◌, ℕ, ◌+◌, ◌<◌, ◌≤◌, Bool, List, [], ◌∷◌, ◌++◌, length, Option, Some, None, refl, sym, ap, ◌∙◌, subst, arith, ◌⊎◌, ⊎_elim}
use Rattle.std.specs.Prelude.{Ok}
use Rattle.machine.specs.Trace.{End}
use Rattle.bits_core.specs.Value.{limit}
use Rattle.pcode_model.specs.declared.listing.SpaceKind.{SpaceKind}
use Rattle.pcode_model.specs.declared.listing.SpaceKind.TheVariants.{Constant, Ram, Register, Unique}
use Rattle.pcode_model.specs.declared.listing.Varnode.{Varnode}
use Rattle.pcode_model.specs.declared.listing.Place.{Place}
use Rattle.pcode_model.specs.declared.listing.Listing.{Listing}
use Rattle.pcode_model.specs.Spaces.{kind_of}
use Rattle.pcode_model.specs.Memory.{Acts, Bytes, Frame, plain}
use Rattle.pcode_model.specs.World.{store}
use Rattle.pcode_model.specs.Step.{Operand, Reads, State, all_read, byte_address, bytes_in, in_world, moved, read_all, read_varnode, write_varnode}
use Rattle.pcode_laws.specs.AsBytes.{AsBytes}
use Rattle.range_words.specs.Own.{HasOwn}
use Rattle.cmeaning.specs.declared.tree.Expr.{Expr}
use Rattle.cmeaning.specs.declared.tree.Stmt.{Stmt}
use Rattle.cmeaning.specs.declared.tree.Stmt.TheVariants as S
use Rattle.cmeaning.specs.Do.{Local}
use Rattle.cmeaning.specs.Do as code
use Rattle.blockcode.proofs.Straight.{run_all}
use Rattle.op_code.specs.Made.{address, computes, name_of, reads, sets, stores, word_at}
use Rattle.op_code.specs.Form.{AllOperands, IsMemory, IsOutput}
use Rattle.op_code.proofs.Access.{address_points, store_meets, store_runs}
use Rattle.op_code.proofs.Operands.{AllHave, Has, ReadsAll, goes, reads_all, run_append, run_one}
use Rattle.op_code.proofs.Sees.{AreWide, Meets, Sees, Setting, wide_back, wide_front}
use Rattle.op_code.proofs.Sets.{Fails, Makes, fail_runs, set_meets}

-- ---- the words of one operand and of two

module _ {M : Type 0} (m : Acts M) (l : Listing) (f : Frame) (ws : ℕ → ℕ) (s : State M) (env : ℕ → Option ℕ) where
  -- the operand's word, and what stands for it
  abbrev HasWord : Varnode → Expr → ℕ → Type 0
  HasWord v d a = Has ws env v.size (read_varnode m l (kind_of l v.space) v s) d a

  pub record One (v : Varnode) (d : Expr) (words : List ℕ) : Type 0 where
    pub word : ℕ
    pub are : words ≡ word ∷ []
    pub has : HasWord v d word

  pub one_of : (v : Varnode) (d : Expr) (words : List ℕ)
      → AllHave m l f ws s env (Reads v ∷ []) (d ∷ []) words
      → One v d words
  one_of v d [] h = absurd h
  one_of v d (a ∷ []) h = record { word = a; are = refl; has = h.0 }
  one_of v d (a ∷ b ∷ rest) h = absurd h.1

  pub record Two (v w : Varnode) (d e : Expr) (words : List ℕ) : Type 0 where
    pub first : ℕ
    pub second : ℕ
    pub are : words ≡ first ∷ second ∷ []
    pub has : HasWord v d first
    pub also : HasWord w e second

  pub two_of : (v w : Varnode) (d e : Expr) (words : List ℕ)
      → AllHave m l f ws s env (Reads v ∷ Reads w ∷ []) (d ∷ e ∷ []) words
      → Two v w d e words
  two_of v w d e [] h = absurd h
  two_of v w d e (a ∷ []) h = absurd h.1
  two_of v w d e (a ∷ b ∷ []) h =
      record { first = a; second = b; are = refl; has = h.0; also = h.1.0 }
  two_of v w d e (a ∷ b ∷ c ∷ rest) h = absurd h.1.1

  -- a constant's word is the constant
  pub constant_has : (k : SpaceKind) (v : Varnode) (e : Expr) (a : ℕ)
      → k ≡ Constant
      → Has ws env v.size (read_varnode m l k v s) e a
      → v.offset ≡ a
  constant_has Constant v e a is h = let r : Ok v.offset ≡ Ok a = h.read in cc
  constant_has Ram v e a is h = absurd (cc)
  constant_has Register v e a is h = absurd (cc)
  constant_has Unique v e a is h = absurd (cc)

-- ---- what is made of operands

module _
    {M : Type 0}
    (m : Acts M)
    (l : Listing)
    (f : Frame)
    (look : M → Bytes)
    (own : M → ℕ → ℕ)
    (ranges : List Varnode)
    (ws : ℕ → ℕ)
    (is : AsBytes m l look)
    (has : HasOwn m l look own)
    (set : Setting l ranges ws)
    (next : Place)
    (s : State M)
    (go : s.world.over ≡ None)
    (n : ℕ)
    (free : length ranges ≤ n)
  where
    -- The step to t writes a word to the output, and the statement assigns it.
    pub record Computed (z : Varnode) (make : ℕ → Stmt) (y : Local) (t : State M) : Type 0 where
      pub word : ℕ
      pub below : word < limit z.size
      pub base : State M
      pub to : Local
      pub on : to.world.over ≡ None
      pub sees : Sees l ranges look own base to
      pub makes : Makes l ws make z.size word y to
      pub step : t ≡ write_varnode m l (kind_of l z.space) z word (moved next base)

    -- Both end.
    pub record Failed (make : ℕ → Stmt) (y : Local) (t : State M) : Type 0 where
      pub to : Local
      pub end : End
      pub over : to.world.over ≡ Some end
      pub fails : Fails l ws make y to
      pub meets : Meets l ranges look own next t to

    -- An output is set to what is made.
    pub sets_meet : (z : Varnode) (returns : List Stmt → Bool) (make : ℕ → Stmt) (k : ℕ) (y : Local) (t : State M)
        → IsOutput l ranges z
        → n ≤ k
        → AreWide ws k (sets l ranges k (Some z) make).locals
        → y.world.over ≡ None
        → Computed z make y t ⊎ Failed make y t
        → Meets l ranges look own next t (run_all l ws returns (sets l ranges k (Some z) make).statements y)
    sets_meet z returns make k y t out later wide on made =
        let kind = kind_of l z.space in
        ⊎_elim
        (λ (c : Computed z make y t).
        let P : State M → Type 0 = λ u. Meets l ranges look own next u
        (run_all l ws returns (sets l ranges k (Some z) make).statements y) in
        subst P (sym c.step)
        (set_meets m l look own ranges ws is has set next c.base y c.to on c.on c.sees returns make kind k z c.word refl
        out.0 out.1
        c.below (omega (arith, free, later)) wide c.makes))
        (λ (c : Failed make y t).
        let P : Local → Type 0 = λ u. Meets l ranges look own next t u in
        subst P (sym (fail_runs l ranges ws returns make y c.to c.end kind k z on c.over c.fails)) c.meets)
        made

    -- what is computed changes nothing else
    pub computed : (z : Varnode) (make : ℕ → Stmt) (y : Local) (t : State M) (word : ℕ)
        → Sees l ranges look own s y
        → word < limit z.size
        → Makes l ws make z.size word y y
        → t ≡ write_varnode m l (kind_of l z.space) z word (moved next s)
        → Computed z make y t
    computed z make y t word sees below makes step = record {
      word = word;
      below = below;
      base = s;
      to = y;
      on = goes m l f look own ranges ws is has set s go y sees;
      sees = sees;
      makes = makes;
      step = step;
    }

    -- The operands are read, and an output is set to what is made of them.
    pub computes_meets : (vs : List Operand) (z : Varnode) (returns : List Stmt → Bool) (make : ℕ → Stmt) (x : Local)
        (t : State M)
        → IsOutput l ranges z
        → AllOperands l (f.own s.at) ranges vs
        → AreWide ws n (computes l ranges n (Some z) (reads l (f.own s.at) ranges n vs) make).locals
        → Sees l ranges look own s x
        → ((y : Local) → ReadsAll m l f look own ranges ws n vs s x y → Computed z make y t ⊎ Failed make y t)
        → Meets l ranges look own next t
        (run_all l ws returns (computes l ranges n (Some z) (reads l (f.own s.at) ranges n vs) make).statements x)
    computes_meets vs z returns make x t out ops wide sees made =
        let reading = reads l (f.own s.at) ranges n vs in
        let k = n + length reading.locals in
        let setting = sets l ranges k (Some z) make in
        let rest = λ (ss : List Stmt). returns (ss ++ setting.statements) in
        let y : Local = run_all l ws rest reading.loads x in
        let r = reads_all m l f look own ranges ws is has set s go vs rest n x ops free
        (wide_front ws n reading.locals setting.locals wide) sees in
        let P : Local → Type 0 = λ u. Meets l ranges look own next t u in
        subst P (sym (run_append l ws returns reading.loads setting.statements x))
        (sets_meet z returns make k y t out (omega arith) (wide_back ws n reading.locals setting.locals wide)
        (goes m l f look own ranges ws is has set s go y r.sees) (made y r))

    -- Two operands are read, the address in a space and what is stored there.
    pub stores_meet : (at : ℕ) (v w : Varnode) (returns : List Stmt → Bool) (x : Local) (t : State M)
        → IsMemory l at
        → AllOperands l (f.own s.at) ranges (Reads v ∷ Reads w ∷ [])
        → AreWide ws n (stores l at v.size (reads l (f.own s.at) ranges n (Reads v ∷ Reads w ∷ []))).locals
        → Sees l ranges look own s x
        → ((a b : ℕ)
        → read_all m l f s (all_read (v ∷ w ∷ [])) ≡ Ok (a ∷ b ∷ [])
        → t ≡ in_world (store m at (byte_address l at a) (bytes_in l at w.size b) s.world) (moved next s))
        → Meets l ranges look own next t
        (run_all l ws returns (stores l at v.size (reads l (f.own s.at) ranges n (Reads v ∷ Reads w ∷ []))).statements
        x)
    stores_meet at v w returns x t mem ops wide sees step =
        let reading = reads l (f.own s.at) ranges n (Reads v ∷ Reads w ∷ []) in
        let d = word_at reading 0 in
        let e = word_at reading 1 in
        let one = S.Store (name_of l at) (address l at v.size d) e in
        let rest = λ (ss : List Stmt). returns (ss ++ one ∷ []) in
        let y : Local = run_all l ws rest reading.loads x in
        let r = reads_all m l f look own ranges ws is has set s go (Reads v ∷ Reads w ∷ []) rest n x ops free
        (wide_front ws n reading.locals [] wide) sees in
        let on = goes m l f look own ranges ws is has set s go y r.sees in
        let o = two_of m l f ws s y.env v w d e r.words r.have in
        let bytes = bytes_in l at w.size o.second in
        let to = byte_address l at o.first in
        let u : Local = code.in_world (store (plain l) at to bytes y.world) y in
        let ran = run_one l ws returns one [] y u on
        (store_runs l ws (λ c. returns []) at mem w.size o.second to (address l at v.size d) e y
        (address_points ws y.env l at v.size o.first d mem ops.0.0.0 ops.0.0.1 o.has.means) o.also.means) in
        let P : Local → Type 0 = λ z. Meets l ranges look own next t z in
        let Q : State M → Type 0 = λ z. Meets l ranges look own next z u in
        subst P (sym (run_append l ws returns reading.loads (one ∷ []) x ∙ ran))
        (subst Q (sym (step o.first o.second (r.read ∙ ap (λ q. Ok q) o.are)))
        (store_meets m l look is own has ranges next at to w.size o.second s y r.sees))
